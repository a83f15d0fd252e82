-- The rules of the language find no fault in the generated file.
use Rattle.std.proofs.Common.{arith, ◌≡◌, ℕ, zero, suc, ◌+◌, ◌-◌, ◌*◌, ◌%◌, ◌^◌, ◌<◌, ◌≤◌, min, false, List, [], ◌∷◌, ◌++◌, map, codes, refl, sym, ap, subst, ◌∙◌}
use Rattle.std.specs.List.{flat_map}
use Rattle.std.specs.Fmt.{digits}
use Rattle.std.proofs.lemmas.List.Concat.{flat_map-append}
use Rattle.std.proofs.lemmas.Bool.Decides.{nat_tests}
use Rattle.redn_syntax.specs.declared.tree.Item.{Item}
use Rattle.redn_syntax.specs.declared.tree.Table.{Table}
use Rattle.redn_syntax.specs.declared.tree.Chain.{Chain}
use Rattle.redn_syntax.specs.declared.tree.File.{File}
use Rattle.redn_syntax.specs.declared.tree.StmtKind.TheVariants as s
use Rattle.redn_check.specs.declared.fault.Fault.{Fault}
use Rattle.redn_check.specs.Faults.{fault, when}
use Rattle.redn_check.specs.Statements.{with_earlier}
use Rattle.redn_check.specs.Names.{chain_names}
use Rattle.redn_check.specs.Rules.{twice, one_too_many, end_of, is_misplaced, misplaced, table_faults, chain_faults, Weight, weight_at, weights, too_heavy, Accepts}
use Rattle.redn_check.proofs.EarliestOf.{with_earlier_push}
use Rattle.redn_check.proofs.Behind.{end_push}
use Rattle.redn_check.proofs.WrittenOut.{inner_add, exits_add, inner_repeat, exits_repeat, breaks_repeat, inner_lookup, exits_lookup, inner_reply, exits_reply, breaks_reply}
use Rattle.redn_gen.specs.Generated.{below, name, number, word, key, bucket, chain, chain_count, generated_file}
use Rattle.redn_gen.proofs.Below.{one_more, next_bucket}

-- ---- the table

abbrev all_misplaced : List Item → List Fault
all_misplaced items = flat_map (λ e. misplaced 8192 e.0 e.1) (with_earlier items)

-- so many words in a row, each in its place
record InARow (items : List Item) (count : ℕ) : Type 0 where
  ends : end_of items ≡ 8 * count
  placed : all_misplaced items ≡ []

fits : (end count : ℕ) → end ≡ 8 * count → count < 1024 → is_misplaced 8192 end end ≡ false
fits end count is few = grind (arith, nat_tests)

one_word : (items : List Item) (count value : ℕ) → count < 1024 → InARow items count → InARow (items ++ word value ∷ []) (count + 1)
one_word items count value few row =
    let here : misplaced 8192 items (word value) ≡ [] = ap (λ b. when b (fault 12 0 (min (end_of items) (2 ^ 64 - 1)))) (fits (end_of items) count row.ends few) in
    let further : end_of items + 8 ≡ 8 * (count + 1) = omega (arith, row.ends) in
    record {
      ends = end_push items (word value) ∙ further;
      placed =
          ap (flat_map (λ e. misplaced 8192 e.0 e.1)) (with_earlier_push items (word value))
          ∙ flat_map-append (λ e. misplaced 8192 e.0 e.1) (with_earlier items) ((items, word value) ∷ [])
          ∙ (λ j. row.placed j ++ (here j ++ []));
    }

rows : (n m : ℕ) → m ≤ 512 → InARow (map word (flat_map (bucket n) (below m))) (2 * m)
unfolding below
rows n zero few = record { ends = refl; placed = refl }
rows n (suc m) few =
    let before = rows n m (omega (arith, few)) in
    let both = one_word _ (2 * m + 1) (n + m) (omega (arith, few)) (one_word _ (2 * m) (key n m) (omega (arith, few)) before) in
    let count : 2 * m + 1 + 1 ≡ 2 * suc m = omega arith in
    subst (λ l. InARow (map word (flat_map (bucket n) (below l))) (2 * suc m)) (one_more m)
    (subst (λ l. InARow l (2 * suc m)) (sym (next_bucket n m)) (subst (InARow _) count both))

-- `t` with any items
abbrev pub table_of : List Item → Table
table_of items = record { name = name (codes "t"); length = number 8192; writable = false; items = items }

table_kept : (items : List Item) → all_misplaced items ≡ [] → table_faults [] (table_of items) ≡ []
table_kept items placed = placed

-- ---- the chains

chain_kept : (items : List Item) (c : ℕ) → chain_faults (table_of items ∷ []) (chain c) ≡ []
chain_kept items c =
    simp (s.outs-Add, s.outs-Repeat, s.outs-Lookup, s.outs-Reply, inner_add, inner_repeat, inner_lookup, inner_reply, exits_add, exits_repeat, exits_lookup, exits_reply, breaks_repeat, breaks_reply) refl

chains_kept : (items : List Item) (cs : List ℕ) → flat_map (chain_faults (table_of items ∷ [])) (map chain cs) ≡ []
chains_kept items [] = refl
chains_kept items (c ∷ cs) = λ j. chain_kept items c j ++ chains_kept items cs j

-- two arguments, the repeat, the lookup, two additions and the reply
abbrev weights_of_one : List Weight
weights_of_one = weight_at 0 1 ∷ weight_at 0 1 ∷ weight_at 0 2 ∷ weight_at 0 3 ∷ weight_at 0 1 ∷ weight_at 0 1 ∷ weight_at 0 1 ∷ []

chain_weighs : (c : ℕ) → weights (chain c) ≡ weights_of_one
chain_weighs c = simp (s.outs-Add, s.outs-Repeat, s.outs-Lookup, s.outs-Reply, inner_add, inner_repeat, inner_lookup, inner_reply) refl

chains_weigh : (cs : List ℕ) → flat_map weights (map chain cs) ≡ flat_map (λ c. weights_of_one) cs
chains_weigh [] = refl
chains_weigh (c ∷ cs) = λ j. chain_weighs c j ++ chains_weigh cs j

names_differ : (m : ℕ) → m < 4 → twice (chain_names (map chain (below (suc m)))) ≡ []
unfolding below digits
names_differ zero h = refl
names_differ (suc zero) h = refl
names_differ (suc (suc zero)) h = refl
names_differ (suc (suc (suc zero))) h = refl
names_differ (suc (suc (suc (suc m)))) h = absurd (omega (arith, h))

few_chains : (m : ℕ) → m < 4 → one_too_many 9 16 (map (λ (c : Chain). c.name.at) (map chain (below (suc m)))) ≡ []
unfolding below
few_chains zero h = refl
few_chains (suc zero) h = refl
few_chains (suc (suc zero)) h = refl
few_chains (suc (suc (suc zero))) h = refl
few_chains (suc (suc (suc (suc m)))) h = absurd (omega (arith, h))

light : (m : ℕ) → m < 4 → too_heavy (flat_map (λ c. weights_of_one) (below (suc m))) ≡ []
unfolding below
light zero h = refl
light (suc zero) h = refl
light (suc (suc zero)) h = refl
light (suc (suc (suc zero))) h = refl
light (suc (suc (suc (suc m)))) h = absurd (omega (arith, h))

-- ---- the file

abbrev file_of : List Item → ℕ → File
file_of items m = record { tables = table_of items ∷ []; chains = map chain (below m) }

file_kept : (items : List Item) (m : ℕ) → m < 4 → all_misplaced items ≡ [] → Accepts (file_of items (suc m))
file_kept items m few placed =
    let tables : flat_map (λ e. table_faults e.0 e.1) (with_earlier (table_of items ∷ [])) ≡ [] = λ j. table_kept items placed j ++ [] in
    let weight = ap too_heavy (chains_weigh (below (suc m))) ∙ light m few in
    λ j. tables j ++ names_differ m few j ++ few_chains m few j ++ chains_kept items (below (suc m)) j ++ weight j

pub accepted : (n : ℕ) → Accepts (generated_file n)
accepted n =
    let few : n % 4 < 4 = omega arith in
    let count : suc (n % 4) ≡ chain_count n = omega arith in
    let row = rows n 512 (omega arith) in
    let items = map word (flat_map (bucket n) (below 512)) in
    subst (λ m. Accepts (file_of items m)) count (file_kept items (n % 4) few row.placed)
