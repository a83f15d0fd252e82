-- How long the parts of a placed memory are, and what there is of each chain.
use Rattle.std.proofs.Common.{◌≡◌, ℕ, suc, ◌+◌, ◌*◌, ◌%◌, ◌≤◌, List, [], ◌∷◌, ◌++◌, length, map, refl, sym, ◌∙◌, subst, arith, length-append}
use Rattle.std.specs.Prelude.{sum_by}
use Rattle.std.specs.List.{flat_map, All, AllByRecursion}
use Rattle.std.proofs.lemmas.List.Elements.{All-head, All-tail, All-cons}
use Rattle.std.proofs.lemmas.List.Sums.{sum_by-cons}
use Rattle.redn_words.specs.declared.types.Region.{Region}
use Rattle.redn_words.specs.Access.{EndsBy}
use Rattle.redn_kernel.specs.declared.types.TableInit.{TableInit}
use Rattle.redn_kernel.specs.declared.types.ChainInit.{ChainInit}
use Rattle.redn_kernel.specs.declared.types.Program.{Program}
use Rattle.redn_kernel.specs.Program.{chain_weight}
use Rattle.redn_graph.specs.declared.types.Graph.{Graph}
use Rattle.redn_image.specs.Rules.{region_numbers}
use Rattle.redn_emit.specs.Graphs.{HasWords}
use Rattle.redn_emit.specs.Layout.{ChainPlan, TablePlan, code_slots, data_len, chain_rows, chain_code, entry_bytes, chain_words}
use Rattle.redn_emit.specs.Placed.{ChainRings, chain_rings, chains_from, chains, all_slots, entries_base, data_base, plans, plan_at, plans_from, tables_base, tables, regions, memory}
use Rattle.redn_emit.specs.Kept.{CanAllBePlaced}
use Rattle.redn_emit.proofs.Programs.{all_can_be_placed, length-chains, length-plans}
use Rattle.redn_emit.proofs.Sizes.{code_size, entry_size, words_size, tables_size}
use Rattle.redn_emit.proofs.Plans.{PlanFits, PlansTotal, plans_fit, plans_total, data_whole}
use Rattle.redn_emit.proofs.RowRules.{each_flat, RowFits, KeysFrom}
use Rattle.redn_emit.proofs.PlanRows.{TableFits, tables_fit, plan_rows, all_keys}
use Rattle.redn_proof_layout.specs.PlacedLaws.{AreSound}

slots_same : (tables number code control : ℕ) (cs : List ChainRings) → sum_by (λ (c : ChainRings). code_slots c.rings) cs ≡ sum_by (λ (c : ChainPlan). code_slots c.rings) (plans_from tables number code control cs)
slots_same tables number code control [] = refl
slots_same tables number code control (c ∷ cs) =
    let plan : ChainPlan = plan_at tables number code control c in
    let rest : List ChainPlan = plans_from tables (suc number) (code + 64 * code_slots c.rings) (control + data_len plan) cs in
    let others = slots_same tables (suc number) (code + 64 * code_slots c.rings) (control + data_len plan) cs in
    omega (arith, others, sum_by-cons (λ (x : ChainRings). code_slots x.rings) c cs, sum_by-cons (λ (x : ChainPlan). code_slots x.rings) plan rest)

words_whole : (ps : List ChainPlan) → sum_by data_len ps % 8 ≡ 0
words_whole [] = refl
words_whole (c ∷ cs) = let one = data_whole c in let rest = words_whole cs in omega (arith, one, rest, sum_by-cons data_len c cs)

module _ (chains its code_end data_end : ℕ) (ts : List TablePlan) where
  codes_size : (ps : List ChainPlan) → AllByRecursion (PlanFits chains its code_end data_end) ps → length (flat_map (λ (c : ChainPlan). chain_code c ts) ps) ≡ 64 * sum_by (λ (c : ChainPlan). code_slots c.rings) ps
  codes_size [] h = refl
  codes_size (c ∷ cs) h =
      let one = code_size c ts h.0.rings in
      let rest = codes_size cs h.1 in
      let all = length-append (chain_code c ts) (flat_map (λ (x : ChainPlan). chain_code x ts) cs) in
      omega (arith, one, rest, all, sum_by-cons (λ (x : ChainPlan). code_slots x.rings) c cs)

  all_words_size : (ps : List ChainPlan) → AllByRecursion (PlanFits chains its code_end data_end) ps → length (flat_map chain_words ps) ≡ sum_by data_len ps
  all_words_size [] h = refl
  all_words_size (c ∷ cs) h =
      let one = words_size c h.0.values in
      let rest = all_words_size cs h.1 in
      let all = length-append (chain_words c) (flat_map chain_words cs) in
      omega (arith, one, rest, all, sum_by-cons data_len c cs)

entries_size : (ps : List ChainPlan) → length (flat_map entry_bytes ps) ≡ 128 * length ps
entries_size [] = refl
entries_size (c ∷ cs) = let one = entry_size c in let rest = entries_size cs in let all = length-append (entry_bytes c) (flat_map entry_bytes cs) in omega (arith, one, rest, all)

-- hidden cells are counted in 16 bits
hidden_few : (tables number code control first : ℕ) (cs : List ChainInit) (gs : List Graph) → All HasWords gs → sum_by (λ (c : ChainPlan). c.hidden) (plans_from tables number code control (chains_from first cs gs)) ≤ 65535 * length (plans_from tables number code control (chains_from first cs gs))
hidden_few tables number code control first [] gs words = omega arith
hidden_few tables number code control first (c ∷ cs) [] words = omega arith
hidden_few tables number code control first (c ∷ cs) (g ∷ gs) words =
    let plan : ChainPlan = plan_at tables number code control (chain_rings first c g) in
    let rest : List ChainPlan = plans_from tables (suc number) (code + 64 * code_slots plan.rings) (control + data_len plan) (chains_from (first + length g.blocks) cs gs) in
    let one = All-head HasWords g gs words in
    let few = one.hidden in
    let others = hidden_few tables (suc number) (code + 64 * code_slots plan.rings) (control + data_len plan) (first + length g.blocks) cs gs (All-tail HasWords g gs words) in
    omega (arith, few, others, sum_by-cons (λ (x : ChainPlan). x.hidden) plan rest)

all_of : {X : Type 0} (P : X → Type 0) (Q : X → Type 0) → ((x : X) → P x → Q x) → (xs : List X) → AllByRecursion P xs → All Q xs
all_of P Q f [] h = λ k d l. absurd (omega (arith, l))
all_of P Q f (x ∷ xs) h = All-cons Q x xs (f x h.0) (all_of P Q f xs h.1)

module _ (p : Program) (graphs : List Graph) (are : AreSound p graphs) where
  abbrev pub ps : List ChainPlan
  ps = plans p graphs

  abbrev pub many : ℕ
  many = length p.chains

  abbrev pub bytes : ℕ
  bytes = sum_by (λ (t : TableInit). length t.bytes) p.tables

  pub count : length ps ≡ length p.chains
  count = length-plans (length p.tables) 0 0 (data_base p graphs) (chains p graphs) ∙ length-chains (length p.chains) p.chains graphs are.each.count

  pub can : CanAllBePlaced (length p.chains) p.chains graphs
  can = let few = are.sound.few_chains in all_can_be_placed p.tables (length p.chains) p.chains graphs (omega (arith, few)) are.sound.sound_chains are.sound.light are.each.count are.each.each

  pub total : PlansTotal (sum_by chain_weight p.chains) ps
  total = plans_total (length p.tables) 0 0 (data_base p graphs) (length p.chains) p.tables p.chains graphs can are.sound.sound_chains are.each.each

  pub same : all_slots p graphs ≡ sum_by (λ (c : ChainPlan). code_slots c.rings) ps
  same = slots_same (length p.tables) 0 0 (data_base p graphs) (chains p graphs)

  pub fits : AllByRecursion (PlanFits many (length p.tables) (entries_base p graphs) (tables_base p graphs)) ps
  fits =
      let all = same in
      plans_fit many (entries_base p graphs) (tables_base p graphs) (length p.tables) 0 0 (data_base p graphs) (length p.chains) p.tables p.chains graphs can are.sound.sound_chains (omega arith) refl (omega arith) (omega (arith, all)) (omega arith)

  pub codes_are : length (flat_map (λ (c : ChainPlan). chain_code c (tables p graphs)) ps) ≡ entries_base p graphs
  codes_are = let codes = codes_size many (length p.tables) (entries_base p graphs) (tables_base p graphs) (tables p graphs) ps fits in omega (arith, codes, same)

  pub entries_are : length (flat_map entry_bytes ps) ≡ 128 * length p.chains
  entries_are = let entries = entries_size ps in omega (arith, entries, count)

  pub words_are : length (flat_map chain_words ps) ≡ sum_by data_len ps
  words_are = all_words_size many (length p.tables) (entries_base p graphs) (tables_base p graphs) (tables p graphs) ps fits

  pub size_is : length (memory p graphs) ≡ tables_base p graphs + bytes
  size_is =
      let codes = codes_are in
      let entries = entries_are in
      let words = words_are in
      let last = tables_size p.tables in
      let a = length-append (flat_map (λ (c : ChainPlan). chain_code c (tables p graphs)) ps) (flat_map entry_bytes ps ++ (flat_map chain_words ps ++ flat_map (λ (t : TableInit). t.bytes) p.tables)) in
      let b = length-append (flat_map entry_bytes ps) (flat_map chain_words ps ++ flat_map (λ (t : TableInit). t.bytes) p.tables) in
      let c = length-append (flat_map chain_words ps) (flat_map (λ (t : TableInit). t.bytes) p.tables) in
      omega (arith, codes, entries, words, last, a, b, c)

  pub size_few : tables_base p graphs + bytes ≤ 33554432
  size_few =
      let slots = total.slots in
      let words = total.words in
      let few = are.sound.few_chains in
      let light = are.sound.light in
      let last = are.sound.few_bytes in
      let hidden = hidden_few (length p.tables) 0 0 (data_base p graphs) (length p.chains) p.chains graphs are.words in
      omega (arith, slots, words, few, light, last, hidden, count, same)

  pub its : AllByRecursion (TableFits (tables_base p graphs + bytes)) (tables p graphs)
  its = let words = words_whole ps in let few = are.sound.few_tables in tables_fit (tables_base p graphs + bytes) 0 (tables_base p graphs) p.tables are.sound.whole_words (omega (arith, words)) (omega (arith, few)) (omega arith)

  rows : AllByRecursion (RowFits many (tables_base p graphs + bytes)) (regions p graphs)
  rows =
      each_flat (PlanFits many (length p.tables) (entries_base p graphs) (tables_base p graphs)) (RowFits many (tables_base p graphs + bytes)) (λ (c : ChainPlan). chain_rows c (tables p graphs)) (λ c k. plan_rows many (length p.tables) (entries_base p graphs) (tables_base p graphs) (tables_base p graphs + bytes) c k (omega arith) (omega arith) (tables p graphs) its) ps fits

  pub ends : EndsBy (length (memory p graphs)) (regions p graphs)
  ends =
      subst (λ (n : ℕ). EndsBy n (regions p graphs)) (sym size_is) (all_of (RowFits many (tables_base p graphs + bytes)) (λ (r : Region). r.base + r.len ≤ tables_base p graphs + bytes) (λ r h. h.inside) (regions p graphs) rows)

  pub keys : KeysFrom 1 (map region_numbers (regions p graphs))
  keys = subst (λ (n : ℕ). KeysFrom n (map region_numbers (regions p graphs))) (let e : 1 + 0 * (4 + length p.tables) ≡ 1 = omega arith in e) (all_keys (tables_base p graphs) p.tables 0 0 (data_base p graphs) (chains p graphs))
