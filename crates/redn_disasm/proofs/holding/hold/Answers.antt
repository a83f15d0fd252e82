use Rattle.std.proofs.Common.{◌≡◌, sym, ap, ◌∙◌}
use Rattle.std.specs.Prelude.{replicate}
use Rattle.std.proofs.lemmas.List.{length-map}
use Rattle.redn_image.specs.Rules.{first_of}
use Rattle.redn_disasm.specs.Reading.{numbers, queue_of, region_of}
use Rattle.redn_disasm.proofs.Opening.{counted, header_first, hold_broken, hold_fresh}
use Rattle.redn_disasm.proofs.holding.hold.Goals as goal

pub returns-in-Some-clause-broken : goal.returns-in-Some-clause-broken
returns-in-Some-clause-broken c =
    let rows = c.args.rows in
    let regions = c.len.ensures ∙ rows.regions.ok.0 ∙ sym (length-map rows.regions.items region_of) in
    let queues = c.len-2.ensures ∙ rows.queues.ok.0 ∙ sym (length-map rows.queues.items queue_of) in
    let receives = c.len-3.ensures ∙ rows.receives.ok.0 in
    header_first (numbers rows) _ (sym (ap first_of (counted (numbers rows) c.len.result c.len-2.result c.len-3.result regions queues receives)) ∙ c.in-Some.ensures.broken)

pub returns-in-Ok-clause-fresh : goal.returns-in-Ok-clause-fresh
returns-in-Ok-clause-fresh c =
    let rows = c.args.rows in
    let regions = c.len.ensures ∙ rows.regions.ok.0 ∙ sym (length-map rows.regions.items region_of) in
    let queues = c.len-2.ensures ∙ rows.queues.ok.0 ∙ sym (length-map rows.queues.items queue_of) in
    let receives = c.len-3.ensures ∙ rows.receives.ok.0 in
    let none = sym (counted (numbers rows) c.len.result c.len-2.result c.len-3.result regions queues receives) ∙ c.in_default.ensures.kept in
    let zeros : c.in_ok-memory.memory.items ≡ replicate rows.size 0 = c.in_ok-memory.ensures.items_if_clones_equal (λ y h. h) in
    hold_fresh (numbers rows) c.in_ok-regions.regions.items c.in_ok-queues.queues.items c.in_ok-memory.memory.items c.in-Ok.image none (rw c.deref.ensures.value at c.in_ok-regions.ensures) (rw c.deref-2.ensures.value at c.in_ok-queues.ensures) zeros c.in-Ok.ensures.image c.in-Ok.ensures.obeys

pub returns-in-Err-Rule-clause-broken : goal.returns-in-Err-Rule-clause-broken
returns-in-Err-Rule-clause-broken c =
    let rows = c.args.rows in
    let regions = c.len.ensures ∙ rows.regions.ok.0 ∙ sym (length-map rows.regions.items region_of) in
    let queues = c.len-2.ensures ∙ rows.queues.ok.0 ∙ sym (length-map rows.queues.items queue_of) in
    let receives = c.len-3.ensures ∙ rows.receives.ok.0 in
    let none = sym (counted (numbers rows) c.len.result c.len-2.result c.len-3.result regions queues receives) ∙ c.in_default.ensures.kept in
    let zeros : c.in_ok-memory.memory.items ≡ replicate rows.size 0 = c.in_ok-memory.ensures.items_if_clones_equal (λ y h. h) in
    let broken = rw c.in-Err-Rule.field-0-is at c.in-Err-Rule.ensures.broken in
    hold_broken (numbers rows) c.in_ok-regions.regions.items c.in_ok-queues.queues.items c.in_ok-memory.memory.items _ none (rw c.deref.ensures.value at c.in_ok-regions.ensures) (rw c.deref-2.ensures.value at c.in_ok-queues.ensures) zeros broken
