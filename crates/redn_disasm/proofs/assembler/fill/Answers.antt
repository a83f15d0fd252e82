use Rattle.std.specs.Vec.{vec_len}
use Rattle.std.specs.List.{length_refill}
use Rattle.std.proofs.Common.{◌≡◌, ℕ, List, [], length, map, sym, ap, ◌∙◌, subst}
use Rattle.redn_words.specs.declared.types.QueueRow.{QueueRow}
use Rattle.redn_image.specs.Rules.{Image, Obeys, faults, numbers_of, queue_numbers}
use Rattle.redn_image.specs.View.{image_view}
use Rattle.redn_disasm.specs.Assembly.{Filled, all_places}
use Rattle.redn_disasm.specs.Going.{Refuses}
use Rattle.redn_disasm.proofs.Rings.{are_rings}
use Rattle.redn_disasm.proofs.assembler.fill.Goals as goal

pub read_memory-requires-clause-rings : goal.read_memory-requires-clause-rings
read_memory-requires-clause-rings c = rw (c.deref.ensures.value, c.deref_mut.ensures.value) (are_rings _ c.image.invariant.obeys)

pub returns-in-Err-clause-refused : goal.returns-in-Err-clause-refused
returns-in-Err-clause-refused c =
    let image = c.args.image in
    let queues : c.deref.result.now ≡ image.queues = c.deref.ensures.value ∙ ap (λ (i : Image). i.queues) c.image.view_is in
    let memory : c.deref_mut.result.now ≡ image.memory = c.deref_mut.ensures.value ∙ ap (λ (i : Image). i.memory) c.image.view_is in
    let n = numbers_of image in
    let refused = c.in-Err.ensures.refused n (sym (ap length memory)) in
    subst (λ (m : List ℕ). Refuses c.args.first (Filled n (all_places 0 (map queue_numbers image.queues)) m) c.args.text.now c.in-Err.fault) memory (subst (λ (qs : List QueueRow). Refuses c.args.first (Filled n (all_places 0 (map queue_numbers qs)) c.deref_mut.result.now) c.args.text.now c.in-Err.fault) queues refused)

-- the rules are of the rows and the size of memory
same_rows : (i : Image) (m : List ℕ) → length m ≡ length i.memory → Obeys i → Obeys (record i { memory = m })
same_rows i m e h = subst (λ (n : ℕ). faults (record (numbers_of i) { size = n }) ≡ []) (sym e) h

pub image_of_kept-requires : goal.image_of_kept-requires
image_of_kept-requires c =
    let m = c.image.inside.memory in
    let size : vec_len m ≡ length m.items = sym c.deref_mut.ensures.len ∙ ap length c.deref_mut.ensures.value in
    same_rows (image_view c.image.inside) _ (sym (length_refill m.len m.items c.read_memory.new.memory size) ∙ size) c.image.invariant.obeys
