use Rattle.std.proofs.Common.{◌≡◌, ◌<◌, ◌^◌, ℕ, List, length, get_or, Some, refl, sym, ap, ◌∙◌, subst, arith}
use Rattle.std.specs.Prelude.{slice_get}
use Rattle.std.proofs.lemmas.Option.{slice_get_read}
use Rattle.redn_graph.specs.declared.types.Block.{Block}
use Rattle.redn_graph.specs.Reached.{renumbered}
use Rattle.redn_graph.specs.Finding.{Numbered, Renamed}
use Rattle.redn_graph.specs.Idle.{past_idle, passed}
use Rattle.redn_graph.proofs.Reaching.{Walked}
use Rattle.redn_graph.proofs.Walking.{walked_first, walked_then, kept_all, length_passed, passed_at}
use Rattle.redn_graph.proofs.reach.reached.Goals as goal

pub loop-all-init : goal.loop-all-init
loop-all-init c =
    let g = c.args.g.now in
    let all = c.as_slice-all.result.now in
    let f = c.in_ok-found.found in
    let told = c.in_ok-number_past.ensures in
    let few : length all < 2 ^ 32 = omega (arith, c.requires.few, ap length c.as_slice-all.ensures) in
    let numbered = subst (λ (blocks : List Block). Numbered f c.number_past.new.self (past_idle blocks g.entry) c.in_ok-number_past.field-0) c.as_slice-all.ensures told.numbered in
    let first = walked_first f (length all) few c.in_ok-found.ensures.numbers c.in_ok-found.ensures.order (passed g) c.number_past.new.self c.in_ok-number_past.field-0 (length_passed g ∙ sym (ap length c.as_slice-all.ensures)) told.found numbered in
    subst (Walked (passed g) c.number_past.new.self) (sym c.new-blocks.ensures) first

pub bounds-all-index : goal.bounds-all-index
bounds-all-index c =
    let loop = c.loop-all in
    let w = loop.invariant in
    let t = c.index.result.now in
    let lt : length loop.blocks < length loop.found.order.items = omega (arith, c.loop-all-test.true, c.len.ensures, c.len-in-loop-all.ensures) in
    let at : slice_get loop.found.order.items (length loop.blocks) ≡ Some t = slice_get_read loop.found.order.items (length loop.found.order.items) (length loop.blocks) t refl lt (c.index.ensures ∙ ap (λ (i : ℕ). get_or loop.found.order.items i t) c.len-in-loop-all-2.ensures) in
    omega (arith, w.found.within (length loop.blocks) t at, w.size, length_passed c.args.g.now, ap length c.as_slice-all.ensures)

pub end-requires-clause-there : goal.end-requires-clause-there
end-requires-clause-there c l is =
    let g = c.args.g.now in
    let loop = c.loop-all in
    let w = loop.invariant in
    let t = c.index.result.now in
    let b = c.index-all-index.result in
    let lt : length loop.blocks < length loop.found.order.items = omega (arith, c.loop-all-test.true, c.len.ensures, c.len-in-loop-all.ensures) in
    let at : slice_get loop.found.order.items (length loop.blocks) ≡ Some t = slice_get_read loop.found.order.items (length loop.found.order.items) (length loop.blocks) t refl lt (c.index.ensures ∙ ap (λ (i : ℕ). get_or loop.found.order.items i t) c.len-in-loop-all-2.ensures) in
    let within : t < length g.blocks = omega (arith, w.found.within (length loop.blocks) t at, w.size, length_passed g) in
    let there : slice_get g.blocks t ≡ Some b = slice_get_read g.blocks (length g.blocks) t b refl within (c.index-all-index.is ∙ ap (λ (blocks : List Block). get_or blocks t b) c.as_slice-all.ensures) in
    omega (arith, c.requires.there t b there l is, ap length c.as_slice-all.ensures)

pub loop-all-preserved : goal.loop-all-preserved
loop-all-preserved c =
    let g = c.args.g.now in
    let loop = c.loop-all in
    let w = loop.invariant in
    let t = c.index.result.now in
    let b = c.index-all-index.result in
    let lt : length loop.blocks < length loop.found.order.items = omega (arith, c.loop-all-test.true, c.len.ensures, c.len-in-loop-all.ensures) in
    let at : slice_get loop.found.order.items (length loop.blocks) ≡ Some t = slice_get_read loop.found.order.items (length loop.found.order.items) (length loop.blocks) t refl lt (c.index.ensures ∙ ap (λ (i : ℕ). get_or loop.found.order.items i t) c.len-in-loop-all-2.ensures) in
    let within : t < length g.blocks = omega (arith, w.found.within (length loop.blocks) t at, w.size, length_passed g) in
    let there : slice_get g.blocks t ≡ Some b = slice_get_read g.blocks (length g.blocks) t b refl within (c.index-all-index.is ∙ ap (λ (blocks : List Block). get_or blocks t b) c.as_slice-all.ensures) in
    let now : Block = record { instrs = c.in_ok-instrs.instrs; end = c.in_ok-end.end } in
    let past : Block = record b { end = renumbered (past_idle g.blocks) b.end } in
    let renamed = subst (λ (blocks : List Block). Renamed loop.found c.end.new.self (renumbered (past_idle blocks) b.end) now.end) c.as_slice-all.ensures c.in_ok-end.ensures.renamed in
    let then = walked_then (passed g) loop.found c.end.new.self loop.blocks w t past now at (passed_at g t b there) c.in_ok-end.ensures.found renamed (sym (c.in_ok-instrs.ensures ∙ c.as_slice.ensures)) in
    subst (Walked (passed g) c.end.new.self) (sym c.in_ok-push.ensures.ok) then

pub returns : goal.returns
returns c =
    let loop = c.loop-all in
    kept_all (passed c.args.g.now) loop.found loop.blocks loop.invariant (omega (arith, c.loop-all-test.false, c.len.ensures, c.len-in-loop-all.ensures))
