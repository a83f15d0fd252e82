use Rattle.std.proofs.Common.{◌+◌, sym, ap, ◌∙◌, arith}
use Rattle.redn_kernel.specs.Program.{weight_of, weight_of_all}
use Rattle.redn_kernel.proofs.Cases.{weight_of_if, weight_of_loop, weight_of_repeat, weight_of_lookup, weight_of_walk}
use Rattle.redn_source.proofs.Weights.{weight_more, weight_within, other_weight}
use Rattle.redn_source.proofs.weight.+weight.Goals as goal

pub statement_weight-weight-requires : goal.statement_weight-weight-requires
statement_weight-weight-requires t c =
    let whole = ap weight_of c.in-If.is ∙ weight_of_if _ _ _ _ _ in
    rw c.as_slice.ensures (omega (arith, whole, c.decreases), omega (arith, whole, c.requires))

pub statement_weight-overflow_add-result : goal.statement_weight-overflow_add-result
statement_weight-overflow_add-result t c =
    let whole = ap weight_of c.in-If.is ∙ weight_of_if _ _ _ _ _ in
    omega (arith, whole, c.requires, c.weight.ensures ∙ ap weight_of_all c.as_slice.ensures)

pub statement_weight-weight-requires-in-If : goal.statement_weight-weight-requires-in-If
statement_weight-weight-requires-in-If t c =
    let whole = ap weight_of c.in-If.is ∙ weight_of_if _ _ _ _ _ in
    rw c.as_slice-in-If.ensures (omega (arith, whole, c.decreases), omega (arith, whole, c.requires))

pub statement_weight-overflow_add-result-in-If : goal.statement_weight-overflow_add-result-in-If
statement_weight-overflow_add-result-in-If t c =
    let whole = ap weight_of c.in-If.is ∙ weight_of_if _ _ _ _ _ in
    omega (arith, whole, c.requires, c.weight.ensures ∙ ap weight_of_all c.as_slice.ensures, c.weight-in-If.ensures ∙ ap weight_of_all c.as_slice-in-If.ensures)

pub statement_weight-weight-requires-in-Loop : goal.statement_weight-weight-requires-in-Loop
statement_weight-weight-requires-in-Loop t c =
    let whole = ap weight_of c.in-Loop.is ∙ weight_of_loop _ in
    rw c.as_slice-in-Loop.ensures (omega (arith, whole, c.decreases), omega (arith, whole, c.requires))

pub statement_weight-overflow_add-result-in-Loop : goal.statement_weight-overflow_add-result-in-Loop
statement_weight-overflow_add-result-in-Loop t c =
    let whole = ap weight_of c.in-Loop.is ∙ weight_of_loop _ in
    omega (arith, whole, c.requires, c.weight-in-Loop.ensures ∙ ap weight_of_all c.as_slice-in-Loop.ensures)

pub statement_weight-weight-requires-in-Repeat : goal.statement_weight-weight-requires-in-Repeat
statement_weight-weight-requires-in-Repeat t c =
    let whole = ap weight_of c.in-Repeat.is ∙ weight_of_repeat _ _ in
    rw c.as_slice-in-Repeat.ensures (omega (arith, whole, c.decreases), omega (arith, whole, c.requires))

pub statement_weight-overflow_add-result-in-Repeat : goal.statement_weight-overflow_add-result-in-Repeat
statement_weight-overflow_add-result-in-Repeat t c =
    let whole = ap weight_of c.in-Repeat.is ∙ weight_of_repeat _ _ in
    omega (arith, whole, c.requires, c.weight-in-Repeat.ensures ∙ ap weight_of_all c.as_slice-in-Repeat.ensures)

pub statement_weight-returns-in-If : goal.statement_weight-returns-in-If
statement_weight-returns-in-If t c =
    let whole = ap weight_of c.in-If.is ∙ weight_of_if _ _ _ _ _ in
    omega (arith, whole, c.weight.ensures ∙ ap weight_of_all c.as_slice.ensures, c.weight-in-If.ensures ∙ ap weight_of_all c.as_slice-in-If.ensures)

pub statement_weight-returns-in-Loop : goal.statement_weight-returns-in-Loop
statement_weight-returns-in-Loop t c =
    let whole = ap weight_of c.in-Loop.is ∙ weight_of_loop _ in
    omega (arith, whole, c.weight-in-Loop.ensures ∙ ap weight_of_all c.as_slice-in-Loop.ensures)

pub statement_weight-returns-in-Repeat : goal.statement_weight-returns-in-Repeat
statement_weight-returns-in-Repeat t c =
    let whole = ap weight_of c.in-Repeat.is ∙ weight_of_repeat _ _ in
    omega (arith, whole, c.weight-in-Repeat.ensures ∙ ap weight_of_all c.as_slice-in-Repeat.ensures)

pub statement_weight-returns-in-Lookup : goal.statement_weight-returns-in-Lookup
statement_weight-returns-in-Lookup t c =
    ap (λ n. n + 1) c.min.ensures ∙ sym (ap weight_of c.in-Lookup.is ∙ weight_of_lookup _ _ _ _ _)

pub statement_weight-returns-in-Walk : goal.statement_weight-returns-in-Walk
statement_weight-returns-in-Walk t c = sym (ap weight_of c.in-Walk.is ∙ weight_of_walk _ _ _ _ _)

pub statement_weight-returns-in_default : goal.statement_weight-returns-in_default
statement_weight-returns-in_default t c =
    let d = c.in_default in sym (other_weight _ d.not-If d.not-Loop d.not-Repeat d.not-Lookup d.not-Walk)

pub weight-statement_weight-sum-requires : goal.weight-statement_weight-sum-requires
weight-statement_weight-sum-requires t c =
    let within = weight_within c.args.body.now c.loop-statement.statement-index c.statement-item.result c.loop-statement-test.true in
    (omega (arith, within, ap weight_of c.statement-item.is, c.decreases), omega (arith, within, ap weight_of c.statement-item.is, c.requires))

pub weight-overflow_add-sum : goal.weight-overflow_add-sum
weight-overflow_add-sum t c =
    let within = weight_within c.args.body.now c.loop-statement.statement-index c.statement-item.result c.loop-statement-test.true in
    omega (arith, within, ap weight_of c.statement-item.is, c.requires, c.statement_weight-sum.ensures, c.loop-statement.invariant)

pub weight-loop-statement-preserved : goal.weight-loop-statement-preserved
weight-loop-statement-preserved t c =
    let more = weight_more c.args.body.now c.loop-statement.statement-index c.statement-item.result c.loop-statement-test.true in
    omega (arith, more, ap weight_of c.statement-item.is, c.statement_weight-sum.ensures, c.loop-statement.invariant)
