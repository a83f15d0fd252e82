use Rattle.std.proofs.Common.{subst, ◌∙◌}
use Rattle.redn_disasm.specs.declared.rows.Rows.{Rows}
use Rattle.redn_disasm.specs.Assembly.{GivesQueue, GivesReceive, Progress}
use Rattle.redn_disasm.specs.Reading.{numbers}
use Rattle.redn_disasm.proofs.Steps.{no_lead}
use Rattle.redn_disasm.proofs.rows.add_row.Goals as goal

pub returns : goal.returns
returns c =
    let line = c.args.line.now in
    let none_region = rw c.if-branch.false at c.in_ok-add_region.ensures.added in
    let same_region = rw c.if-branch.false at c.in_ok-add_region.ensures.same in
    let none_queue = rw c.if-branch-2.false at c.in_ok-add_queue.ensures.added in
    let same_queue = rw c.if-branch-2.false at c.in_ok-add_queue.ensures.same in
    let none_receive = rw c.if-branch-3.false at c.in_ok-add_receive.ensures in
    no_lead (numbers c.args.rows.now) line none_region (subst (λ (r : Rows). (after : Progress) → GivesQueue (numbers r) line after → ⊥) same_region none_queue) (subst (λ (r : Rows). (after : Progress) → GivesReceive (numbers r) line after → ⊥) (same_queue ∙ same_region) none_receive)
