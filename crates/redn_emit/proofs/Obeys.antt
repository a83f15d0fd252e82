-- A placed image keeps the rules of an image.
use Rattle.std.proofs.Common.{◌≡◌, ℕ, suc, ◌+◌, ◌*◌, ◌%◌, ◌≤◌, Bool, true, List, [], ◌∷◌, ◌++◌, length, map, refl, sym, ap, ◌∙◌, subst, arith, length-append, mul-le-mul}
use Rattle.std.specs.Prelude.{sum_by}
use Rattle.std.specs.List.{flat_map, All, AllByRecursion}
use Rattle.std.proofs.lemmas.Bool.{eq-eqb, lt-ltb, le-leb}
use Rattle.std.proofs.lemmas.List.{map-append, length-map}
use Rattle.std.proofs.lemmas.List.Elements.{All-head, All-tail}
use Rattle.std.proofs.lemmas.List.Sums.{sum_by-cons}
use Rattle.redn_kernel.specs.declared.types.TableInit.{TableInit}
use Rattle.redn_kernel.specs.declared.types.Program.{Program}
use Rattle.redn_kernel.specs.Program.{IsSound, IsSoundTable, chain_weight}
use Rattle.redn_graph.specs.declared.types.Graph.{Graph}
use Rattle.redn_image.specs.Rules.{Image, Obeys, faults, region_numbers, queue_numbers, unless}
use Rattle.redn_emit.specs.Layout.{ChainPlan, TablePlan, code_slots, data_len, chain_rows, entry_row, ring_rows, receive, chain_code, entry_bytes, chain_words}
use Rattle.redn_emit.specs.Placed.{IsPlaced, ChainRings, chains, all_slots, entries_base, data_base, plans, plan_at, plans_from, tables_base, tables, regions, queues, memory}
use Rattle.redn_emit.specs.Graphs.{AreGraphs}
use Rattle.redn_emit.specs.Kept.{CanAllBePlaced}
use Rattle.redn_emit.proofs.Programs.{all_can_be_placed, length-chains, length-plans}
use Rattle.redn_emit.proofs.Sizes.{code_size, entry_size, words_size, tables_size}
use Rattle.redn_emit.proofs.Plans.{PlanFits, PlansTotal, plans_fit, plans_total, data_whole}
use Rattle.redn_emit.proofs.RowRules.{none_both, both, each_append, each_map, each_flat, RowFits, QueueFits, ReceiveFits, domains_kept, kinds_kept, rights_kept, inside_kept, keys_kept, KeysFrom, Agrees, tables_kept, owners_kept, orders_kept, rings_kept, limits_kept, slots_in, sum_append, slots_kept, receives_kept}
use Rattle.redn_emit.proofs.PlanRows.{TableFits, tables_fit, plan_rows, receive_fits, plan_queues, entry_fits, all_keys, count_rows, at, len, rows_agree, rings_sum, entries_sum, count_rings}

kept : (b : Bool) (rule : ℕ) → b ≡ true → unless b rule ≡ []
kept b rule e = rw e refl

slots_same : (tables number code control : ℕ) (cs : List ChainRings) → sum_by (λ (c : ChainRings). code_slots c.rings) cs ≡ sum_by (λ (c : ChainPlan). code_slots c.rings) (plans_from tables number code control cs)
slots_same tables number code control [] = refl
slots_same tables number code control (c ∷ cs) =
    let plan : ChainPlan = plan_at tables number code control c in
    let rest : List ChainPlan = plans_from tables (suc number) (code + 64 * code_slots c.rings) (control + data_len plan) cs in
    let others = slots_same tables (suc number) (code + 64 * code_slots c.rings) (control + data_len plan) cs in
    omega (arith, others, sum_by-cons (λ (x : ChainRings). code_slots x.rings) c cs, sum_by-cons (λ (x : ChainPlan). code_slots x.rings) plan rest)

words_whole : (ps : List ChainPlan) → sum_by data_len ps % 8 ≡ 0
words_whole [] = refl
words_whole (c ∷ cs) = let one = data_whole c in let rest = words_whole cs in omega (arith, one, rest, sum_by-cons data_len c cs)

bytes_whole : (ts : List TableInit) → All IsSoundTable ts → sum_by (λ (t : TableInit). length t.bytes) ts % 8 ≡ 0
bytes_whole [] sound = refl
bytes_whole (t ∷ ts) sound =
    let one = (All-head IsSoundTable t ts sound).1 in
    let rest = bytes_whole ts (All-tail IsSoundTable t ts sound) in
    omega (arith, one, rest, sum_by-cons (λ (u : TableInit). length u.bytes) t ts)

-- what the parts of memory take
module _ (chains its code_end data_end : ℕ) (ts : List TablePlan) where
  codes_size : (ps : List ChainPlan) → AllByRecursion (PlanFits chains its code_end data_end) ps → length (flat_map (λ (c : ChainPlan). chain_code c ts) ps) ≡ 64 * sum_by (λ (c : ChainPlan). code_slots c.rings) ps
  codes_size [] h = refl
  codes_size (c ∷ cs) h =
      let one = code_size c ts h.0.rings in
      let rest = codes_size cs h.1 in
      let all = length-append (chain_code c ts) (flat_map (λ (x : ChainPlan). chain_code x ts) cs) in
      omega (arith, one, rest, all, sum_by-cons (λ (x : ChainPlan). code_slots x.rings) c cs)

  all_words_size : (ps : List ChainPlan) → AllByRecursion (PlanFits chains its code_end data_end) ps → length (flat_map chain_words ps) ≡ sum_by data_len ps
  all_words_size [] h = refl
  all_words_size (c ∷ cs) h =
      let one = words_size c h.0.values in
      let rest = all_words_size cs h.1 in
      let all = length-append (chain_words c) (flat_map chain_words cs) in
      omega (arith, one, rest, all, sum_by-cons data_len c cs)

entries_size : (ps : List ChainPlan) → length (flat_map entry_bytes ps) ≡ 128 * length ps
entries_size [] = refl
entries_size (c ∷ cs) = let one = entry_size c in let rest = entries_size cs in let all = length-append (entry_bytes c) (flat_map entry_bytes cs) in omega (arith, one, rest, all)

module _ (p : Program) (graphs : List Graph) (sound : IsSound p) (are : AreGraphs p graphs) (hidden : sum_by (λ (c : ChainPlan). c.hidden) (plans p graphs) ≤ 65535 * length (plans p graphs)) where
  abbrev ps : List ChainPlan
  ps = plans p graphs

  abbrev many : ℕ
  many = length (map receive ps)

  abbrev bytes : ℕ
  bytes = sum_by (λ (t : TableInit). length t.bytes) p.tables

  abbrev size : ℕ
  size = tables_base p graphs + bytes

  count : length ps ≡ length p.chains
  count = length-plans (length p.tables) 0 0 (data_base p graphs) (chains p graphs) ∙ length-chains (length p.chains) p.chains graphs are.count

  many_is : many ≡ length p.chains
  many_is = length-map ps receive ∙ count

  can : CanAllBePlaced (length p.chains) p.chains graphs
  can = let few = sound.few_chains in all_can_be_placed p.tables (length p.chains) p.chains graphs (omega (arith, few)) sound.sound_chains sound.light are.count are.each

  total : PlansTotal (sum_by chain_weight p.chains) ps
  total = plans_total (length p.tables) 0 0 (data_base p graphs) (length p.chains) p.tables p.chains graphs can sound.sound_chains are.each

  same : all_slots p graphs ≡ sum_by (λ (c : ChainPlan). code_slots c.rings) ps
  same = slots_same (length p.tables) 0 0 (data_base p graphs) (chains p graphs)

  fits : AllByRecursion (PlanFits many (length p.tables) (entries_base p graphs) (tables_base p graphs)) ps
  fits =
      let all = same in
      let few = many_is in
      plans_fit many (entries_base p graphs) (tables_base p graphs) (length p.tables) 0 0 (data_base p graphs) (length p.chains) p.tables p.chains graphs can sound.sound_chains (omega (arith, few)) refl (omega arith) (omega (arith, all)) (omega arith)

  size_is : length (memory p graphs) ≡ size
  size_is =
      let codes = codes_size many (length p.tables) (entries_base p graphs) (tables_base p graphs) (tables p graphs) ps fits in
      let entries = entries_size ps in
      let words = all_words_size many (length p.tables) (entries_base p graphs) (tables_base p graphs) (tables p graphs) ps fits in
      let last = tables_size p.tables in
      let a = length-append (flat_map (λ (c : ChainPlan). chain_code c (tables p graphs)) ps) (flat_map entry_bytes ps ++ (flat_map chain_words ps ++ flat_map (λ (t : TableInit). t.bytes) p.tables)) in
      let b = length-append (flat_map entry_bytes ps) (flat_map chain_words ps ++ flat_map (λ (t : TableInit). t.bytes) p.tables) in
      let c = length-append (flat_map chain_words ps) (flat_map (λ (t : TableInit). t.bytes) p.tables) in
      omega (arith, codes, entries, words, last, a, b, c, same, count)

  size_whole : size % 8 ≡ 0
  size_whole = let words = words_whole ps in let last = bytes_whole p.tables sound.whole_words in omega (arith, words, last)

  size_few : size ≤ 33554432
  size_few =
      let slots = total.slots in
      let words = total.words in
      let few = sound.few_chains in
      let light = sound.light in
      let last = sound.few_bytes in
      omega (arith, slots, words, few, light, last, hidden, count, same)

  its : AllByRecursion (TableFits size) (tables p graphs)
  its = let words = words_whole ps in let few = sound.few_tables in tables_fit size 0 (tables_base p graphs) p.tables sound.whole_words (omega (arith, words)) (omega (arith, few)) (omega arith)

  code_in : entries_base p graphs ≤ size
  code_in = omega arith

  data_in : tables_base p graphs ≤ size
  data_in = omega arith

  rows : AllByRecursion (RowFits many size) (regions p graphs)
  rows = each_flat (PlanFits many (length p.tables) (entries_base p graphs) (tables_base p graphs)) (RowFits many size) (λ (c : ChainPlan). chain_rows c (tables p graphs)) (λ c k. plan_rows many (length p.tables) (entries_base p graphs) (tables_base p graphs) size c k code_in data_in (tables p graphs) its) ps fits

  entries_in : entries_base p graphs + 128 * many ≤ size
  entries_in = let few = many_is in omega (arith, few)

  places : AllByRecursion (QueueFits many size) (queues p graphs)
  places =
      each_append (QueueFits many size) (map (entry_row (entries_base p graphs)) ps) (flat_map ring_rows ps) (each_map (PlanFits many (length p.tables) (entries_base p graphs) (tables_base p graphs)) (QueueFits many size) (entry_row (entries_base p graphs)) (λ c k. entry_fits many (length p.tables) (entries_base p graphs) (tables_base p graphs) size c k code_in data_in (entries_base p graphs) (omega arith) entries_in) ps fits) (each_flat (PlanFits many (length p.tables) (entries_base p graphs) (tables_base p graphs)) (QueueFits many size) ring_rows (λ c k. plan_queues many (length p.tables) (entries_base p graphs) (tables_base p graphs) size c k code_in data_in) ps fits)

  messages : AllByRecursion (ReceiveFits size) (map receive ps)
  messages =
      each_map (PlanFits many (length p.tables) (entries_base p graphs) (tables_base p graphs)) (ReceiveFits size) receive (λ c k. receive_fits many (length p.tables) (entries_base p graphs) (tables_base p graphs) size c k code_in data_in) ps fits

  regions_count : length (map region_numbers (regions p graphs)) ≤ 1088
  regions_count =
      let all = length-map (regions p graphs) region_numbers in
      let each = count_rows (tables_base p graphs) p.tables ps in
      let few = sound.few_chains in
      let tables_few = sound.few_tables in
      let most : length ps * (4 + length p.tables) ≤ 16 * 68 = (let rows_few : length ps ≤ 16 = omega (arith, few, count) in let each_few : 4 + length p.tables ≤ 68 = omega (arith, tables_few) in mul-le-mul rows_few each_few) in
      omega (arith, all, each, most)

  keys : KeysFrom 1 (map region_numbers (regions p graphs))
  keys = subst (λ (n : ℕ). KeysFrom n (map region_numbers (regions p graphs))) (let e : 1 + 0 * (4 + length p.tables) ≡ 1 = omega arith in e) (all_keys (tables_base p graphs) p.tables 0 0 (data_base p graphs) (chains p graphs))

  agree : AllByRecursion (Agrees (at (tables_base p graphs) p.tables) (len (tables_base p graphs) p.tables)) (map region_numbers (regions p graphs))
  agree = all_agree ps
    where
      all_agree : (qs : List ChainPlan) → AllByRecursion (Agrees (at (tables_base p graphs) p.tables) (len (tables_base p graphs) p.tables)) (map region_numbers (flat_map (λ (c : ChainPlan). chain_rows c (tables p graphs)) qs))
      all_agree [] = tt
      all_agree (q ∷ qs) =
          subst (λ l. AllByRecursion (Agrees (at (tables_base p graphs) p.tables) (len (tables_base p graphs) p.tables)) l) (sym (map-append region_numbers (chain_rows q (tables p graphs)) (flat_map (λ (c : ChainPlan). chain_rows c (tables p graphs)) qs))) (each_append _ (map region_numbers (chain_rows q (tables p graphs))) (map region_numbers (flat_map (λ (c : ChainPlan). chain_rows c (tables p graphs)) qs)) (rows_agree (tables_base p graphs) p.tables q) (all_agree qs))

  queues_count : length (map queue_numbers (queues p graphs)) ≤ 65535
  queues_count =
      let all = length-map (queues p graphs) queue_numbers in
      let both = length-append (map (entry_row (entries_base p graphs)) ps) (flat_map ring_rows ps) in
      let entries = length-map ps (entry_row (entries_base p graphs)) in
      let each = count_rings ps in
      let rings = total.rings in
      let few = sound.few_chains in
      let light = sound.light in
      omega (arith, all, both, entries, each, rings, few, light, count)

  slots_sum : sum_by slots_in (map queue_numbers (queues p graphs)) ≤ 524288
  slots_sum =
      let split = ap (sum_by slots_in) (map-append queue_numbers (map (entry_row (entries_base p graphs)) ps) (flat_map ring_rows ps)) in
      let both = sum_append slots_in (map queue_numbers (map (entry_row (entries_base p graphs)) ps)) (map queue_numbers (flat_map ring_rows ps)) in
      let entries = entries_sum (entries_base p graphs) ps in
      let rings = rings_sum ps in
      let slots = total.slots in
      let few = sound.few_chains in
      let light = sound.light in
      omega (arith, split, both, entries, rings, slots, few, light, count)

  chains_some : 1 ≤ many
  chains_some = let some = sound.some_chain in let few = many_is in omega (arith, some, few)

  chains_few : many ≤ 16
  chains_few = let most = sound.few_chains in let few = many_is in omega (arith, most, few)

  pub rules_kept : faults (record { regions = map region_numbers (regions p graphs); queues = map queue_numbers (queues p graphs); receives = map receive ps; size = size }) ≡ []
  unfolding faults
  rules_kept =
      none_both _ _ (none_both _ _ (none_both _ _ (none_both _ _ (none_both _ _ (kept _ 1 (le-leb _ 4096 (omega (arith, regions_count)))) (kept _ 2 (le-leb _ 65535 queues_count))) (kept _ 3 (both _ _ (lt-ltb 0 many chains_some) (le-leb many 16 chains_few)))) refl) (kept _ 5 (both _ _ (eq-eqb (size % 8) 0 size_whole) (le-leb size 33554432 size_few)))) (none_both _ _ (none_both _ _ (none_both _ _ (none_both _ _ (none_both _ _ (none_both _ _ (none_both _ _ (none_both _ _ (none_both _ _ (none_both _ _ (none_both _ _ (keys_kept 1 [] (map region_numbers (regions p graphs)) tt keys (omega arith) (omega (arith, regions_count))) (domains_kept many size (regions p graphs) rows)) (kinds_kept many size (regions p graphs) rows)) (rights_kept many size (regions p graphs) rows)) (inside_kept many size (regions p graphs) rows)) (tables_kept (at (tables_base p graphs) p.tables) (len (tables_base p graphs) p.tables) [] (map region_numbers (regions p graphs)) tt agree)) (owners_kept many size (queues p graphs) places)) (orders_kept many size (queues p graphs) places)) (rings_kept many size (queues p graphs) places)) (limits_kept many size (queues p graphs) places)) (slots_kept [] (map queue_numbers (queues p graphs)) (omega (arith, slots_sum)))) (receives_kept size (map receive ps) messages))

  pub placed_obeys : (i : Image) → IsPlaced p graphs i → Obeys i
  placed_obeys i is =
      (λ j. faults (record { regions = map region_numbers (is.regions_are j); queues = map queue_numbers (is.queues_are j); receives = is.receives_are j; size = (ap length is.memory_is ∙ size_is) j })) ∙ rules_kept
