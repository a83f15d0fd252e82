use Rattle.std.proofs.Common.{Option, sym, ◌∙◌}
use Rattle.std.proofs.lemmas.Result.{IfOk-weaker}
use Rattle.redn_image.specs.Rules.{Fault, Image, parts_of}
use Rattle.redn_image.proofs.Firsts.{in_header, in_rows}
use Rattle.redn_image.proofs.image.first_fault.Goals as goal

pub returns-then-is_some : goal.returns-then-is_some
returns-then-is_some c =
    in_header (parts_of c.args.regions.now c.args.queues.now c.args.receives.now c.args.memory.now) _ (sym c.is_some.ensures ∙ c.if-is_some.true) c.header_fault-broken.ensures

pub returns : goal.returns
returns c =
    let i : Image = parts_of c.args.regions.now c.args.queues.now c.args.receives.now c.args.memory.now in
    let none = sym c.is_some.ensures ∙ c.if-is_some.false in
    let regions = c.deref.ensures.value ∙ c.in_ok-regions.ensures in
    let queues = c.deref-2.ensures.value ∙ c.in_ok-queues.ensures in
    IfOk-weaker c.row_fault.result _ _ (λ (f : Option Fault). in_rows i _ _ f _ none c.header_fault-broken.ensures regions queues) c.row_fault.ensures
