use Rattle.std.proofs.Common.{◌≡◌, ◌<◌, ℕ, List, [], Some, None, length, map, sym, ap, subst, ◌∙◌, arith}
use Rattle.std.specs.List.{All}
use Rattle.std.proofs.lemmas.List.Elements.{All-drop}
use Rattle.redn_image.specs.Answers.{IsQueue, IsRegion, SaysWhy}
use Rattle.redn_image.specs.Rules.{Image, Numbers, QueueNumbers, RegionNumbers, first_of, parts_of, queue_numbers, region_numbers, row_faults}
use Rattle.redn_image.specs.Spelling.{Broken, queue_at, receive_at, refused, region_at}
use Rattle.redn_image.proofs.Firsts.{none_first}
use Rattle.redn_image.proofs.Kept.{are_queues, are_regions}
use Rattle.redn_image.proofs.Reading.{all_bytes, all_left, are_bytes, length-rows}
use Rattle.redn_image.proofs.Whole.{Parts, Rows, of_rows, few_queues, few_receives, few_regions, not_refused, parts_read, read_obeys, read_spells, refused_row}
use Rattle.redn_image.proofs.read.image_in.Goals as goal

pub row_fault-requires-clause-regions : goal.row_fault-requires-clause-regions
row_fault-requires-clause-regions c =
    let few = few_regions _ _ _ _ _ c.in_ok-header.ensures.header in
    let size = ap length (c.deref.ensures.value ∙ c.in_ok-regions.ensures) ∙ length-rows region_at 32 _ _ _ in
    omega (arith, few, size)

pub row_fault-requires-clause-queues : goal.row_fault-requires-clause-queues
row_fault-requires-clause-queues c =
    let few = few_queues _ _ _ _ _ c.in_ok-header.ensures.header in
    let size = ap length (c.deref-2.ensures.value ∙ c.in_ok-queues.ensures) ∙ length-rows queue_at 32 _ _ _ in
    omega (arith, few, size)

pub row_fault-requires-clause-receives : goal.row_fault-requires-clause-receives
row_fault-requires-clause-receives c =
    let few = few_receives _ _ _ _ _ c.in_ok-header.ensures.header in
    let size = ap length (c.deref-3.ensures.value ∙ c.in_ok-receives.ensures) ∙ length-rows receive_at 16 _ _ _ in
    omega (arith, few, size)

pub returns-in-Some-clause-refusal : goal.returns-in-Some-clause-refusal
returns-in-Some-clause-refusal c =
    let b = c.args.bytes.now in
    let h = c.in_ok-header.header in
    let rows : Rows b h.regions h.queues h.receives c.deref.result.now c.deref-2.result.now c.deref-3.result.now = record { regions_are = c.deref.ensures.value ∙ c.in_ok-regions.ensures; queues_are = c.deref-2.ensures.value ∙ c.in_ok-queues.ensures; receives_are = c.deref-3.ensures.value ∙ c.in_ok-receives.ensures } in
    let why : refused b ≡ Some (Broken c.in-Some.fault) = refused_row b h.regions h.queues h.receives h.size _ _ _ c.in-Some.fault c.in_ok-header.ensures.header c.in_ok-check_length.ensures.same rows (sym c.in-Some.is ∙ c.in_ok-fault.ensures) in
    subst (SaysWhy (refused b)) (sym c.from.ensures) why

pub regions_of-requires : goal.regions_of-requires
regions_of-requires c =
    let rows : Numbers = of_rows c.deref.result.now c.deref-2.result.now c.deref-3.result.now c.in_ok-header.header.size in
    let none : row_faults rows ≡ [] = none_first (row_faults rows) (sym c.in_default.is ∙ c.in_ok-fault.ensures) in
    subst (λ (l : List RegionNumbers). All IsRegion l) (c.deref.ensures.value ∙ sym c.deref-4.ensures.value) (are_regions rows none)

pub queues_of-requires : goal.queues_of-requires
queues_of-requires c =
    let rows : Numbers = of_rows c.deref.result.now c.deref-2.result.now c.deref-3.result.now c.in_ok-header.header.size in
    let none : row_faults rows ≡ [] = none_first (row_faults rows) (sym c.in_default.is ∙ c.in_ok-fault.ensures) in
    let few = few_receives _ _ _ _ _ c.in_ok-header.ensures.header in
    let size = ap length (c.deref-3.ensures.value ∙ c.in_ok-receives.ensures) ∙ length-rows receive_at 16 _ _ _ in
    subst (λ (l : List QueueNumbers). All IsQueue l) (c.deref-2.ensures.value ∙ sym c.deref-5.ensures.value) (are_queues rows (omega (arith, few, size)) none)

pub invariant_of-result : goal.invariant_of-result
invariant_of-result c =
    let b = c.args.bytes.now in
    let h = c.in_ok-header.header in
    let rows : Rows b h.regions h.queues h.receives c.deref.result.now c.deref-2.result.now c.deref-3.result.now = record { regions_are = c.deref.ensures.value ∙ c.in_ok-regions.ensures; queues_are = c.deref-2.ensures.value ∙ c.in_ok-queues.ensures; receives_are = c.deref-3.ensures.value ∙ c.in_ok-receives.ensures } in
    let none : None ≡ first_of (row_faults (of_rows c.deref.result.now c.deref-2.result.now c.deref-3.result.now h.size)) = sym c.in_default.is ∙ c.in_ok-fault.ensures in
    let i : Image = parts_of c.in_ok-regions-2.regions.items c.in_ok-queues-2.queues.items c.in_ok-receives.receives.items c.in_ok-memory.memory.items in
    let made : Rows b h.regions h.queues h.receives (map region_numbers i.regions) (map queue_numbers i.queues) i.receives = record { regions_are = c.in_ok-regions-2.ensures ∙ c.deref-4.ensures.value ∙ c.in_ok-regions.ensures; queues_are = c.in_ok-queues-2.ensures ∙ c.deref-5.ensures.value ∙ c.in_ok-queues.ensures; receives_are = c.in_ok-receives.ensures } in
    let parts : Parts b h.regions h.queues h.receives h.size i = parts_read b h.regions h.queues h.receives h.size i _ _ _ c.in_ok-header.ensures.header c.in_ok-check_length.ensures.same rows none made (c.in_ok-memory.ensures.items ∙ all_left b _) in
    record {
      obeys = read_obeys b h.regions h.queues h.receives h.size i parts;
      bytes = subst (λ (l : List ℕ). All (λ (x : ℕ). x < 256) l) (sym (c.in_ok-memory.ensures.items ∙ all_left b _)) (All-drop (λ (x : ℕ). x < 256) _ b (all_bytes b c.type_inv.bytes));
    }

pub returns-clause-image : goal.returns-clause-image
returns-clause-image c =
    let b = c.args.bytes.now in
    let h = c.in_ok-header.header in
    let rows : Rows b h.regions h.queues h.receives c.deref.result.now c.deref-2.result.now c.deref-3.result.now = record { regions_are = c.deref.ensures.value ∙ c.in_ok-regions.ensures; queues_are = c.deref-2.ensures.value ∙ c.in_ok-queues.ensures; receives_are = c.deref-3.ensures.value ∙ c.in_ok-receives.ensures } in
    let none : None ≡ first_of (row_faults (of_rows c.deref.result.now c.deref-2.result.now c.deref-3.result.now h.size)) = sym c.in_default.is ∙ c.in_ok-fault.ensures in
    let i : Image = parts_of c.in_ok-regions-2.regions.items c.in_ok-queues-2.queues.items c.in_ok-receives.receives.items c.in_ok-memory.memory.items in
    let made : Rows b h.regions h.queues h.receives (map region_numbers i.regions) (map queue_numbers i.queues) i.receives = record { regions_are = c.in_ok-regions-2.ensures ∙ c.deref-4.ensures.value ∙ c.in_ok-regions.ensures; queues_are = c.in_ok-queues-2.ensures ∙ c.deref-5.ensures.value ∙ c.in_ok-queues.ensures; receives_are = c.in_ok-receives.ensures } in
    let parts : Parts b h.regions h.queues h.receives h.size i = parts_read b h.regions h.queues h.receives h.size i _ _ _ c.in_ok-header.ensures.header c.in_ok-check_length.ensures.same rows none made (c.in_ok-memory.ensures.items ∙ all_left b _) in
    read_spells b h.regions h.queues h.receives h.size i (are_bytes b c.type_inv.bytes) parts

pub returns-clause-accepted : goal.returns-clause-accepted
returns-clause-accepted c =
    let b = c.args.bytes.now in
    let h = c.in_ok-header.header in
    let rows : Rows b h.regions h.queues h.receives c.deref.result.now c.deref-2.result.now c.deref-3.result.now = record { regions_are = c.deref.ensures.value ∙ c.in_ok-regions.ensures; queues_are = c.deref-2.ensures.value ∙ c.in_ok-queues.ensures; receives_are = c.deref-3.ensures.value ∙ c.in_ok-receives.ensures } in
    let none : None ≡ first_of (row_faults (of_rows c.deref.result.now c.deref-2.result.now c.deref-3.result.now h.size)) = sym c.in_default.is ∙ c.in_ok-fault.ensures in
    not_refused b h.regions h.queues h.receives h.size _ _ _ c.in_ok-header.ensures.header c.in_ok-check_length.ensures.same rows none
