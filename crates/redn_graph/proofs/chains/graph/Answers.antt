use Rattle.std.proofs.Common.{◌≡◌, ◌*◌, ◌≤◌, List, length, sym, ap, ◌∙◌, subst, get_or, arith}
use Rattle.std.proofs.lemmas.Option.{get_or_from_slice_get}
use Rattle.redn_kernel.specs.declared.types.ChainInit.{ChainInit}
use Rattle.redn_kernel.specs.Program.{IsSoundChain, chain_weight}
use Rattle.redn_graph.specs.declared.types.Graph.{Graph}
use Rattle.redn_graph.specs.Slots.{all_slots}
use Rattle.redn_graph.specs.Follows.{Follows}
use Rattle.redn_graph.specs.Fits.{FitsGraph}
use Rattle.redn_graph.specs.Finding.{Kept}
use Rattle.redn_graph.specs.Idle.{passed}
use Rattle.redn_graph.specs.Silence.{EqualUpToSilence}
use Rattle.redn_graph.proofs.Bounded.{bounded}
use Rattle.redn_graph.proofs.Equal.{equal_up_to_silence}
use Rattle.redn_graph.proofs.Kept.{kept_follows, kept_fits, kept_slots, kept_small, each_there}
use Rattle.redn_graph.proofs.NoneIdle.{none_idle}
use Rattle.redn_graph.proofs.Statements.{ok_still, ok_any, some_weight}
use Rattle.redn_graph.specs.Hidden.{hidden_cells}
use Rattle.redn_graph.proofs.chains.graph.Goals as goal

pub chain_graph-requires-clause-sound : goal.chain_graph-requires-clause-sound
chain_graph-requires-clause-sound c =
    let p = c.args.p.now in
    let chain = c.index-as_slice-chain.result in
    let at : chain ≡ get_or p.chains c.args.chain chain = c.index-as_slice-chain.is ∙ ap (λ (chains : List ChainInit). get_or chains c.args.chain chain) c.as_slice.ensures in
    let sound = subst (IsSoundChain p.tables) (sym at) (c.requires.sound.sound_chains c.args.chain chain c.requires.there) in
    (length chain.vars, λ k d lt. record { tables = p.tables; sound = sound.statements k d lt })

pub chain_graph-requires-clause-some : goal.chain_graph-requires-clause-some
chain_graph-requires-clause-some c =
    let p = c.args.p.now in
    let chain = c.index-as_slice-chain.result in
    let at : chain ≡ get_or p.chains c.args.chain chain = c.index-as_slice-chain.is ∙ ap (λ (chains : List ChainInit). get_or chains c.args.chain chain) c.as_slice.ensures in
    let sound = subst (IsSoundChain p.tables) (sym at) (c.requires.sound.sound_chains c.args.chain chain c.requires.there) in
    some_weight chain.body sound.ends

pub reached-requires-clause-entry : goal.reached-requires-clause-entry
reached-requires-clause-entry c =
    let p = c.args.p.now in
    let chain = c.index-as_slice-chain.result in
    let at : chain ≡ get_or p.chains c.args.chain chain = c.index-as_slice-chain.is ∙ ap (λ (chains : List ChainInit). get_or chains c.args.chain chain) c.as_slice.ensures in
    let sound = subst (IsSoundChain p.tables) (sym at) (c.requires.sound.sound_chains c.args.chain chain c.requires.there) in
    let fits : FitsGraph p.tables chain c.in_ok-whole.whole = c.in_ok-whole.ensures.fits p.tables sound.arguments_first sound.statements in
    fits.entry

pub reached-requires-clause-there : goal.reached-requires-clause-there
reached-requires-clause-there c =
    let p = c.args.p.now in
    let chain = c.index-as_slice-chain.result in
    let at : chain ≡ get_or p.chains c.args.chain chain = c.index-as_slice-chain.is ∙ ap (λ (chains : List ChainInit). get_or chains c.args.chain chain) c.as_slice.ensures in
    let sound = subst (IsSoundChain p.tables) (sym at) (c.requires.sound.sound_chains c.args.chain chain c.requires.there) in
    let fits : FitsGraph p.tables chain c.in_ok-whole.whole = c.in_ok-whole.ensures.fits p.tables sound.arguments_first sound.statements in
    each_there p.tables chain c.in_ok-whole.whole fits

pub returns-clause-follows : goal.returns-clause-follows
returns-clause-follows c =
    let p = c.args.p.now in
    let chain = c.index-as_slice-chain.result in
    let at : chain ≡ get_or p.chains c.args.chain chain = c.index-as_slice-chain.is ∙ ap (λ (chains : List ChainInit). get_or chains c.args.chain chain) c.as_slice.ensures in
    let whole = c.in_ok-whole.whole in
    ok_still c.reached.result _ _
    (λ (h : Graph) (kept : Kept (passed whole) h) (other : ChainInit) is. subst (λ (d : ChainInit). Follows d h) (at ∙ get_or_from_slice_get p.chains c.args.chain other chain is) (kept_follows whole h kept chain c.in_ok-whole.ensures.follows))
    c.reached.ensures

pub returns-clause-silence : goal.returns-clause-silence
returns-clause-silence c =
    let p = c.args.p.now in
    let chain = c.index-as_slice-chain.result in
    let at : chain ≡ get_or p.chains c.args.chain chain = c.index-as_slice-chain.is ∙ ap (λ (chains : List ChainInit). get_or chains c.args.chain chain) c.as_slice.ensures in
    let sound = subst (IsSoundChain p.tables) (sym at) (c.requires.sound.sound_chains c.args.chain chain c.requires.there) in
    let fits : FitsGraph p.tables chain c.in_ok-whole.whole = c.in_ok-whole.ensures.fits p.tables sound.arguments_first sound.statements in
    let whole = c.in_ok-whole.whole in
    ok_still c.reached.result _ _
    (λ (h : Graph) (kept : Kept (passed whole) h) (other : ChainInit) is. subst (λ (d : ChainInit). EqualUpToSilence d h) (at ∙ get_or_from_slice_get p.chains c.args.chain other chain is) (equal_up_to_silence p.tables chain h (kept_follows whole h kept chain c.in_ok-whole.ensures.follows) (kept_fits whole h kept p.tables chain fits)))
    c.reached.ensures

pub returns-clause-slots : goal.returns-clause-slots
returns-clause-slots c =
    let p = c.args.p.now in
    let chain = c.index-as_slice-chain.result in
    let at : chain ≡ get_or p.chains c.args.chain chain = c.index-as_slice-chain.is ∙ ap (λ (chains : List ChainInit). get_or chains c.args.chain chain) c.as_slice.ensures in
    let whole = c.in_ok-whole.whole in
    ok_still c.reached.result _ _
    (λ (h : Graph) (kept : Kept (passed whole) h) (other : ChainInit) is. subst (λ (d : ChainInit). all_slots h.blocks ≤ 64 * chain_weight d) (at ∙ get_or_from_slice_get p.chains c.args.chain other chain is) (omega (arith, c.in_ok-whole.ensures.slots, kept_slots whole h kept)))
    c.reached.ensures

pub returns-clause-fits : goal.returns-clause-fits
returns-clause-fits c =
    let p = c.args.p.now in
    let chain = c.index-as_slice-chain.result in
    let at : chain ≡ get_or p.chains c.args.chain chain = c.index-as_slice-chain.is ∙ ap (λ (chains : List ChainInit). get_or chains c.args.chain chain) c.as_slice.ensures in
    let sound = subst (IsSoundChain p.tables) (sym at) (c.requires.sound.sound_chains c.args.chain chain c.requires.there) in
    let fits : FitsGraph p.tables chain c.in_ok-whole.whole = c.in_ok-whole.ensures.fits p.tables sound.arguments_first sound.statements in
    let whole = c.in_ok-whole.whole in
    ok_still c.reached.result _ _
    (λ (h : Graph) (kept : Kept (passed whole) h) (other : ChainInit) is. subst (λ (d : ChainInit). FitsGraph p.tables d h) (at ∙ get_or_from_slice_get p.chains c.args.chain other chain is) (kept_fits whole h kept p.tables chain fits))
    c.reached.ensures

pub returns-clause-bounded : goal.returns-clause-bounded
returns-clause-bounded c = ok_any c.reached.result _ (λ (g : Graph) (chain : ChainInit) (f : Follows chain g). bounded chain g f)

pub returns-clause-small : goal.returns-clause-small
returns-clause-small c =
    let whole = c.in_ok-whole.whole in
    ok_still c.reached.result _ _ (λ (h : Graph) (kept : Kept (passed whole) h). kept_small whole h kept 65536 c.in_ok-whole.ensures.small) c.reached.ensures

pub returns-clause-none_idle : goal.returns-clause-none_idle
returns-clause-none_idle c =
    let whole = c.in_ok-whole.whole in
    ok_still c.reached.result _ _ (λ (h : Graph) (kept : Kept (passed whole) h). none_idle whole h kept c.in_ok-whole.ensures.all_stop) c.reached.ensures

pub returns-clause-hidden : goal.returns-clause-hidden
returns-clause-hidden c =
    let p = c.args.p.now in
    let chain = c.index-as_slice-chain.result in
    let at : chain ≡ get_or p.chains c.args.chain chain = c.index-as_slice-chain.is ∙ ap (λ (chains : List ChainInit). get_or chains c.args.chain chain) c.as_slice.ensures in
    let whole = c.in_ok-whole.whole in
    ok_still c.reached.result _ _
    (λ (h : Graph) (kept : Kept (passed whole) h) (other : ChainInit) is. subst (λ (d : ChainInit). h.hidden ≡ hidden_cells d.body) (at ∙ get_or_from_slice_get p.chains c.args.chain other chain is) (kept.hidden ∙ c.in_ok-whole.ensures.hidden))
    c.reached.ensures
