-- An image of a sound program is no longer than a file that is read.
use Rattle.std.proofs.Common.{◌≡◌, ℕ, suc, ◌+◌, ◌*◌, ◌≤◌, List, [], ◌∷◌, ◌++◌, length, map, refl, ap, ◌∙◌, arith, length-append, mul-le-mul}
use Rattle.std.specs.Prelude.{sum_by}
use Rattle.std.specs.List.{flat_map, All}
use Rattle.std.proofs.lemmas.List.{length-map}
use Rattle.std.proofs.lemmas.List.Elements.{All-head, All-tail}
use Rattle.std.proofs.lemmas.List.Sums.{sum_by-cons}
use Rattle.redn_words.specs.Words.{spelled}
use Rattle.redn_words.specs.declared.types.Region.{Region}
use Rattle.redn_words.specs.declared.types.QueueRow.{QueueRow}
use Rattle.redn_kernel.specs.declared.types.ChainInit.{ChainInit}
use Rattle.redn_kernel.specs.declared.types.Program.{Program}
use Rattle.redn_graph.specs.declared.types.Graph.{Graph}
use Rattle.redn_image.specs.Rules.{Image, region_numbers, queue_numbers}
use Rattle.redn_image.specs.Spelling.{spelling, spelled_header, spelled_region, spelled_queue, spelled_receive}
use Rattle.redn_image.proofs.Back.{length-spelled_region, length-spelled_queue, length-spelled_receive, length-row_bytes}
use Rattle.redn_emit.specs.Graphs.{HasWords}
use Rattle.redn_emit.specs.Layout.{ChainPlan, code_slots, data_len, entry_row, ring_rows, receive}
use Rattle.redn_emit.specs.Placed.{IsPlaced, chain_rings, chains_from, data_base, entries_base, plan_at, plans, plans_from, tables_base, regions, queues, memory}
use Rattle.redn_emit.proofs.PlanRows.{count_rows, count_rings}
use Rattle.redn_proof_layout.specs.PlacedLaws.{AreSound}
use Rattle.redn_proof_layout.proofs.Lengths.{count, total, same, size_is}

pub header_len : (r q c m : ℕ) → length (spelled_header r q c m) ≡ 32
unfolding spelled
header_len r q c m = refl

region_len : (r : Region) → length (spelled_region (region_numbers r)) ≡ 32
region_len r = length-spelled_region (region_numbers r)

queue_len : (q : QueueRow) → length (spelled_queue (queue_numbers q)) ≡ 32
queue_len q = length-spelled_queue (queue_numbers q)

joined : (a b c d e : List ℕ) → length (a ++ b ++ c ++ d ++ e) ≡ length a + length b + length c + length d + length e
joined a b c d e =
    let four = length-append (a ++ b ++ c ++ d) e in
    let three = length-append (a ++ b ++ c) d in
    let two = length-append (a ++ b) c in
    let one = length-append a b in
    omega (arith, one, two, three, four)

spelling_len : (i : Image) → length (spelling i) ≡ 32 + 32 * length i.regions + 32 * length i.queues + 16 * length i.receives + length i.memory
unfolding spelling
spelling_len i =
    let h = header_len (length i.regions) (length i.queues) (length i.receives) (length i.memory) in
    let r = length-row_bytes (λ (x : Region). spelled_region (region_numbers x)) 32 region_len i.regions in
    let q = length-row_bytes (λ (x : QueueRow). spelled_queue (queue_numbers x)) 32 queue_len i.queues in
    let c = length-row_bytes spelled_receive 16 length-spelled_receive i.receives in
    joined (spelled_header (length i.regions) (length i.queues) (length i.receives) (length i.memory)) (flat_map (λ (x : Region). spelled_region (region_numbers x)) i.regions) (flat_map (λ (x : QueueRow). spelled_queue (queue_numbers x)) i.queues) (flat_map spelled_receive i.receives) i.memory
    ∙ omega (arith, h, r, q, c)

-- hidden cells are counted in 16 bits
hidden_few : (tables number code control first : ℕ) (cs : List ChainInit) (gs : List Graph) → All HasWords gs → sum_by (λ (c : ChainPlan). c.hidden) (plans_from tables number code control (chains_from first cs gs)) ≤ 65535 * length (plans_from tables number code control (chains_from first cs gs))
hidden_few tables number code control first [] gs words = omega arith
hidden_few tables number code control first (c ∷ cs) [] words = omega arith
hidden_few tables number code control first (c ∷ cs) (g ∷ gs) words =
    let plan : ChainPlan = plan_at tables number code control (chain_rings first c g) in
    let rest : List ChainPlan = plans_from tables (suc number) (code + 64 * code_slots plan.rings) (control + data_len plan) (chains_from (first + length g.blocks) cs gs) in
    let one = All-head HasWords g gs words in
    let few = one.hidden in
    let others = hidden_few tables (suc number) (code + 64 * code_slots plan.rings) (control + data_len plan) (first + length g.blocks) cs gs (All-tail HasWords g gs words) in
    omega (arith, few, others, sum_by-cons (λ (x : ChainPlan). x.hidden) plan rest)

module _ (p : Program) (graphs : List Graph) (are : AreSound p graphs) where
  abbrev ps : List ChainPlan
  ps = plans p graphs

  few : length ps ≤ 16
  few = let chains = are.sound.few_chains in omega (arith, chains, count p graphs are)

  regions_few : length (regions p graphs) ≤ 1088
  regions_few =
      let each = count_rows (tables_base p graphs) p.tables ps in
      let tables_few = are.sound.few_tables in
      let most : length ps * (4 + length p.tables) ≤ 16 * 68 = (let each_few : 4 + length p.tables ≤ 68 = omega (arith, tables_few) in mul-le-mul few each_few) in
      omega (arith, each, most)

  queues_few : length (queues p graphs) ≤ 29143
  queues_few =
      let both = length-append (map (entry_row (entries_base p graphs)) ps) (flat_map ring_rows ps) in
      let entries = length-map ps (entry_row (entries_base p graphs)) in
      let each = count_rings ps in
      let rings = (total p graphs are).rings in
      let light = are.sound.light in
      omega (arith, both, entries, each, rings, few, light)

  memory_few : length (memory p graphs) ≤ 28900000
  memory_few =
      let all = total p graphs are in
      let slots = all.slots in
      let words = all.words in
      let light = are.sound.light in
      let last = are.sound.few_bytes in
      let hidden = hidden_few (length p.tables) 0 0 (data_base p graphs) (length p.chains) p.chains graphs are.words in
      omega (arith, slots, words, few, light, last, hidden, count p graphs are, same p graphs are, size_is p graphs are)

  -- so a placed image is short enough
  pub placed_small : (i : Image) → IsPlaced p graphs i → length (spelling i) ≤ 33554432
  placed_small i placed =
      let long = spelling_len i in
      let r = ap length placed.regions_are in
      let q = ap length placed.queues_are in
      let c = ap length placed.receives_are ∙ length-map ps receive in
      let m = ap length placed.memory_is in
      omega (arith, long, r, q, c, m, few, regions_few, queues_few, memory_few)
