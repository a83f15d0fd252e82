use Rattle.std.proofs.Common.{List, ℕ, Vec, Global, sym, ap, ◌∙◌}
use Rattle.std.specs.Prelude.{slice_get}
use Rattle.redn_source.specs.declared.start.StartFault.{StartFault}
use Rattle.redn_words.proofs.Misfits.{first_here, none_here}
use Rattle.redn_source.proofs.Misfits.{misfits_kept}
use Rattle.redn_source.proofs.start.first_misfit.Goals as goal

pub returns-then-is_some : goal.returns-then-is_some
returns-then-is_some c =
    let k = c.loop-k.k in
    let step = misfits_kept (λ (v : Vec ℕ Global). v.items) k c.args.chains.now c.args.messages.now _ c.index-messages-k.result c.loop-k-test.true c.requires.each c.index-chains-k.is c.index-messages-k.is in
    first_here _ _ _ c.misfit-fault.ensures (sym c.is_some.ensures ∙ c.if-is_some.true) ∙ ap (λ (fs : List StartFault). slice_get fs 0) (sym step ∙ c.loop-k.invariant)

pub loop-k-preserved : goal.loop-k-preserved
loop-k-preserved c =
    let k = c.loop-k.k in
    let step = misfits_kept (λ (v : Vec ℕ Global). v.items) k c.args.chains.now c.args.messages.now _ c.index-messages-k.result c.loop-k-test.true c.requires.each c.index-chains-k.is c.index-messages-k.is in
    sym (none_here _ _ _ c.misfit-fault.ensures (sym c.is_some.ensures ∙ c.if-is_some.false)) ∙ sym step ∙ c.loop-k.invariant
