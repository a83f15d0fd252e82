use Rattle.std.proofs.Common.{◌≡◌, ◌≤◌, ◌^◌, List, length, ap, ◌∙◌, arith}
use Rattle.redn_graph.specs.Slots.{all_slots}
use Rattle.redn_emit.specs.Layout.{Plain, rings_from, code_slots}
use Rattle.redn_emit.specs.Placed.{constants_of}
use Rattle.redn_emit.proofs.Counts.{length-rings, rings_slots, nine_blocks, constants_few}
use Rattle.redn_emit.proofs.chain.ChainRings.new.Goals as goal

pub slots_of-slots-requires : goal.slots_of-slots-requires
slots_of-slots-requires c =
    let blocks = c.args.graph.now.blocks in
    let is : c.deref.result.now ≡ rings_from c.args.first c.args.first blocks = c.deref.ensures.value ∙ c.in_ok-rings.ensures ∙ ap (rings_from c.args.first c.args.first) c.as_slice.ensures in
    let same : code_slots c.deref.result.now ≡ code_slots (rings_from c.args.first c.args.first blocks) = ap code_slots is in
    let few = rings_slots (2 ^ 32) c.args.first c.args.first blocks c.requires.fits in
    let most : all_slots blocks ≤ 262144 = c.requires.slots in
    omega (arith, same, few, most)

pub invariant_of-result : goal.invariant_of-result
invariant_of-result c =
    let blocks = c.args.graph.now.blocks in
    let is : c.in_ok-rings.rings.items ≡ rings_from c.args.first c.args.first blocks = c.in_ok-rings.ensures ∙ ap (rings_from c.args.first c.args.first) c.as_slice.ensures in
    let slots : c.slots_of-slots.result ≡ code_slots c.in_ok-rings.rings.items = c.slots_of-slots.ensures ∙ ap code_slots c.deref.ensures.value in
    let same : code_slots c.in_ok-rings.rings.items ≡ code_slots (rings_from c.args.first c.args.first blocks) = ap code_slots is in
    let few = rings_slots (2 ^ 32) c.args.first c.args.first blocks c.requires.fits in
    let most : all_slots blocks ≤ 262144 = c.requires.slots in
    let len : length c.in_ok-rings.rings.items ≡ length blocks = ap length is ∙ length-rings c.args.first c.args.first blocks in
    let nine = nine_blocks blocks in
    let numbers : length (constants_of c.in_ok-rings.rings.items) ≡ length (constants_of (rings_from c.args.first c.args.first blocks)) = ap (λ (l : List Plain). length (constants_of l)) is in
    let constants = constants_few (2 ^ 32) c.args.first c.args.first blocks c.requires.fits in
    let fits = c.requires.numbers in
    let entry = c.requires.entry in
    record {
      slots_are = slots;
      few_slots = omega (arith, slots, same, few, most);
      few_rings = omega (arith, len, nine, most);
      few_constants = omega (arith, numbers, constants, most);
      numbers = omega (arith, len, fits);
      entry = omega (arith, len, entry);
      few_vars = c.requires.few_vars;
    }
