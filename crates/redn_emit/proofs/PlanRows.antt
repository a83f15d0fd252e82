-- The rows of chains at their places.
use Rattle.std.proofs.Common.{◌≡◌, ℕ, suc, ◌+◌, ◌*◌, ◌%◌, ◌<◌, ◌≤◌, Bool, true, false, List, [], ◌∷◌, ◌++◌, length, map, get_or, refl, sym, ap, ◌∙◌, subst, arith, length-append}
use Rattle.std.specs.Prelude.{sum_by}
use Rattle.std.specs.List.{flat_map, All, AllByRecursion}
use Rattle.std.proofs.lemmas.Bool.{lt-ltb}
use Rattle.std.proofs.lemmas.List.{map-append, length-map}
use Rattle.std.proofs.lemmas.List.Elements.{All-head, All-tail}
use Rattle.std.proofs.lemmas.List.Sums.{sum_by-cons}
use Rattle.redn_kernel.specs.declared.types.TableInit.{TableInit}
use Rattle.redn_kernel.specs.Program.{IsSoundTable}
use Rattle.redn_words.specs.declared.types.Region.{Region}
use Rattle.redn_image.specs.Rules.{region_numbers, queue_numbers}
use Rattle.redn_emit.specs.Layout.{Plain, ChainPlan, TablePlan, code_slots, ring_slots, control_len, data_len, first_key, table_row, table_rights, chain_rows, entry_row, ring_rows_from, ring_rows, receive}
use Rattle.redn_emit.specs.Placed.{ChainRings, plan_at, plans_from, tables_from}
use Rattle.redn_emit.proofs.Sizes.{RingFits}
use Rattle.redn_emit.proofs.Plans.{PlanFits}
use Rattle.redn_emit.proofs.RowRules.{RowFits, QueueFits, ReceiveFits, KeysFrom, Agrees, keys_append, slots_in, sum_append}

abbrev bytes_of : TableInit → ℕ
bytes_of t = length t.bytes

pub record TableFits (size : ℕ) (t : TablePlan) : Type 0 where
  pub number : t.number < 64
  pub base : t.base % 8 ≡ 0
  pub inside : t.base + length t.bytes ≤ size

pub tables_fit : (size number base : ℕ) (ts : List TableInit) → All IsSoundTable ts → base % 8 ≡ 0 → number + length ts ≤ 64 → base + sum_by (λ (t : TableInit). length t.bytes) ts ≤ size → AllByRecursion (TableFits size) (tables_from number base ts)
tables_fit size number base [] sound at few inside = tt
tables_fit size number base (t ∷ ts) sound at few inside =
    let one = All-head IsSoundTable t ts sound in
    let whole = one.1 in
    let all = sum_by-cons bytes_of t ts in
    (record { number = omega (arith, few); base = at; inside = omega (arith, all, inside) }, tables_fit size (suc number) (base + length t.bytes) ts (All-tail IsSoundTable t ts sound) (omega (arith, at, whole)) (omega (arith, few)) (omega (arith, all, inside)))

rights_small : (writable : Bool) → table_rights writable < 16
rights_small true = omega arith
rights_small false = omega arith

module _ (chains tables code_end data_end size : ℕ) (c : ChainPlan) (fits : PlanFits chains tables code_end data_end c) (code_in : code_end ≤ size) (data_in : data_end ≤ size) where
  control_whole : control_len c % 8 ≡ 0
  control_whole = omega arith

  table_rows : (ts : List TablePlan) → AllByRecursion (TableFits size) ts → AllByRecursion (RowFits chains size) (map (table_row c) ts)
  table_rows [] h = tt
  table_rows (t ∷ ts) h =
      (record { domain = fits.number; kind = lt-ltb t.number 64 h.0.number; rights = rights_small t.writable; base = h.0.base; inside = h.0.inside }, table_rows ts h.1)

  pub plan_rows : (ts : List TablePlan) → AllByRecursion (TableFits size) ts → AllByRecursion (RowFits chains size) (chain_rows c ts)
  plan_rows ts h =
      let control = fits.control_at in
      let words = fits.control_in in
      let code = fits.code_at in
      let slots = fits.code_in in
      let whole = control_whole in (
        record { domain = fits.number; kind = refl; rights = omega arith; base = omega (arith, control, whole); inside = omega (arith, words, data_in) },
        (
          record { domain = fits.number; kind = refl; rights = omega arith; base = omega (arith, code); inside = omega (arith, slots, code_in) },
          (
            record { domain = fits.number; kind = refl; rights = omega arith; base = control; inside = omega (arith, words, data_in) },
            (
              record { domain = fits.number; kind = refl; rights = omega arith; base = omega (arith, control, whole); inside = omega (arith, words, data_in) },
              table_rows ts h,
            ),
          ),
        ),
      )

  pub receive_fits : ReceiveFits size (receive c)
  receive_fits =
      let control = fits.control_at in
      let words = fits.control_in in
      let whole = control_whole in
      let args = fits.args in
      record { base = omega (arith, control, whole); whole = omega arith; few = omega (arith, args); inside = omega (arith, words, data_in) }

  ring_queues : (base : ℕ) (rings : List Plain) → AllByRecursion RingFits rings → base % 64 ≡ 0 → base + 64 * code_slots rings ≤ size → AllByRecursion (QueueFits chains size) (ring_rows_from c.number base rings)
  ring_queues base [] h at inside = tt
  ring_queues base (r ∷ rs) h at inside =
      let all = sum_by-cons ring_slots r rs in
      (record { domain = fits.number; base = at; some = h.0.some; few = h.0.few; inside = omega (arith, all, inside); limit = omega arith }, ring_queues (base + 64 * ring_slots r) rs h.1 (omega (arith, at)) (omega (arith, all, inside)))

  pub plan_queues : AllByRecursion (QueueFits chains size) (ring_rows c)
  plan_queues = let slots = fits.code_in in ring_queues c.code_base c.rings fits.rings fits.code_at (omega (arith, slots, code_in))

  pub entry_fits : (base : ℕ) → base % 64 ≡ 0 → base + 128 * chains ≤ size → QueueFits chains size (entry_row base c)
  entry_fits base at inside =
      let low = fits.number in
      record { domain = low; base = omega (arith, at); some = omega arith; few = omega arith; inside = omega (arith, low, inside); limit = omega arith }

-- keys follow one another
table_keys : (c : ChainPlan) (number base : ℕ) (ts : List TableInit) → KeysFrom (first_key c + (4 + number)) (map region_numbers (map (table_row c) (tables_from number base ts)))
table_keys c number base [] = tt
table_keys c number base (t ∷ ts) =
    (refl, subst (λ (n : ℕ). KeysFrom n (map region_numbers (map (table_row c) (tables_from (suc number) (base + length t.bytes) ts)))) (let e : first_key c + (4 + suc number) ≡ suc (first_key c + (4 + number)) = omega arith in e) (table_keys c (suc number) (base + length t.bytes) ts))

plan_keys : (c : ChainPlan) (base : ℕ) (ts : List TableInit) → KeysFrom (first_key c) (map region_numbers (chain_rows c (tables_from 0 base ts)))
plan_keys c base ts =
    (refl, (omega arith, (omega arith, (omega arith, subst (λ (n : ℕ). KeysFrom n (map region_numbers (map (table_row c) (tables_from 0 base ts)))) (let e : first_key c + (4 + 0) ≡ suc (suc (suc (suc (first_key c)))) = omega arith in e) (table_keys c 0 base ts)))))

length-tables : (number base : ℕ) (ts : List TableInit) → length (tables_from number base ts) ≡ length ts
length-tables number base [] = refl
length-tables number base (t ∷ ts) = ap suc (length-tables (suc number) (base + length t.bytes) ts)

pub length-rows : (c : ChainPlan) (base : ℕ) (ts : List TableInit) → length (chain_rows c (tables_from 0 base ts)) ≡ 4 + length ts
length-rows c base ts =
    let rows = length-map (tables_from 0 base ts) (table_row c) in
    let many = length-tables 0 base ts in
    omega (arith, rows, many)

next_key : (number tables : ℕ) → (4 + tables) + (1 + number * (4 + tables)) ≡ 1 + suc number * (4 + tables)
next_key number tables = omega arith

module _ (base : ℕ) (ts : List TableInit) where
  abbrev rows_of : ChainPlan → List Region
  rows_of c = chain_rows c (tables_from 0 base ts)

  pub all_keys : (number code control : ℕ) (cs : List ChainRings) → KeysFrom (1 + number * (4 + length ts)) (map region_numbers (flat_map rows_of (plans_from (length ts) number code control cs)))
  all_keys number code control [] = tt
  all_keys number code control (c ∷ cs) =
      let plan : ChainPlan = plan_at (length ts) number code control c in
      let rest : List ChainPlan = plans_from (length ts) (suc number) (code + 64 * code_slots c.rings) (control + data_len plan) cs in
      let split : map region_numbers (rows_of plan ++ flat_map rows_of rest) ≡ map region_numbers (rows_of plan) ++ map region_numbers (flat_map rows_of rest) = map-append region_numbers (rows_of plan) (flat_map rows_of rest) in
      let many : length (map region_numbers (rows_of plan)) ≡ 4 + length ts = length-map (rows_of plan) region_numbers ∙ length-rows plan base ts in
      let place : 1 + suc number * (4 + length ts) ≡ length (map region_numbers (rows_of plan)) + (1 + number * (4 + length ts)) = sym (next_key number (length ts)) ∙ ap (λ (n : ℕ). n + (1 + number * (4 + length ts))) (sym many) in
      subst (λ l. KeysFrom (1 + number * (4 + length ts)) l) (sym split) (keys_append (1 + number * (4 + length ts)) (map region_numbers (rows_of plan)) (map region_numbers (flat_map rows_of rest)) (plan_keys plan base ts) (subst (λ (n : ℕ). KeysFrom n (map region_numbers (flat_map rows_of rest))) place (all_keys (suc number) (code + 64 * code_slots c.rings) (control + data_len plan) cs)))

  pub count_rows : (plans : List ChainPlan) → length (flat_map rows_of plans) ≡ length plans * (4 + length ts)
  count_rows [] = omega arith
  count_rows (c ∷ cs) =
      let rest = count_rows cs in
      let one = length-rows c base ts in
      let all = length-append (rows_of c) (flat_map rows_of cs) in
      omega (arith, rest, one, all)

  -- rows of a table have its place
  abbrev pub no_table : TablePlan
  no_table = record { number = 0; bytes = []; writable = false; base = 0 }

  abbrev pub at : ℕ → ℕ
  at t = (get_or (tables_from 0 base ts) t no_table).base

  abbrev pub len : ℕ → ℕ
  len t = length (get_or (tables_from 0 base ts) t no_table).bytes

  abbrev HasPlace : TablePlan → Type 0
  HasPlace t = (t.base ≡ at t.number) × (length t.bytes ≡ len t.number)

  placed_from : (number there : ℕ) (us : List TableInit) → ((j : ℕ) → j < length us → get_or (tables_from 0 base ts) (number + j) no_table ≡ get_or (tables_from number there us) j no_table) → AllByRecursion HasPlace (tables_from number there us)
  placed_from number there [] h = tt
  placed_from number there (u ∷ us) h =
      let e : number ≡ number + 0 = omega arith in
      let here : get_or (tables_from 0 base ts) number no_table ≡ record { number = number; bytes = u.bytes; writable = u.writable; base = there } = ap (λ (n : ℕ). get_or (tables_from 0 base ts) n no_table) e ∙ h 0 (omega arith) in
      ((ap (λ (t : TablePlan). t.base) (sym here), ap (λ (t : TablePlan). length t.bytes) (sym here)), placed_from (suc number) (there + length u.bytes) us (λ j l. ap (λ (n : ℕ). get_or (tables_from 0 base ts) n no_table) (let f : suc number + j ≡ number + suc j = omega arith in f) ∙ h (suc j) (omega arith)))

  all_placed : AllByRecursion HasPlace (tables_from 0 base ts)
  all_placed = placed_from 0 base ts (λ j l. ap (λ (n : ℕ). get_or (tables_from 0 base ts) n no_table) (let e : 0 + j ≡ j = omega arith in e))

  tables_agree : (c : ChainPlan) (us : List TablePlan) → AllByRecursion HasPlace us → AllByRecursion (Agrees at len) (map region_numbers (map (table_row c) us))
  tables_agree c [] h = tt
  tables_agree c (u ∷ us) h = (λ e. (h.0.0, h.0.1), tables_agree c us h.1)

  pub rows_agree : (c : ChainPlan) → AllByRecursion (Agrees at len) (map region_numbers (rows_of c))
  rows_agree c =
      (λ e. absurd (omega (arith, e)), (λ e. absurd (omega (arith, e)), (λ e. absurd (omega (arith, e)), (λ e. absurd (omega (arith, e)), tables_agree c (tables_from 0 base ts) all_placed))))

-- so many slots have all queues
ring_sum : (domain base : ℕ) (rings : List Plain) → sum_by slots_in (map queue_numbers (ring_rows_from domain base rings)) ≡ code_slots rings
ring_sum domain base [] = refl
ring_sum domain base (r ∷ rs) =
    let rest = ring_sum domain (base + 64 * ring_slots r) rs in
    let all = sum_by-cons ring_slots r rs in
    let here = sum_by-cons slots_in (queue_numbers (record { domain = domain; managed = true; base = base; slots = ring_slots r; limit = 0 })) (map queue_numbers (ring_rows_from domain (base + 64 * ring_slots r) rs)) in
    omega (arith, rest, all, here)

pub rings_sum : (plans : List ChainPlan) → sum_by slots_in (map queue_numbers (flat_map ring_rows plans)) ≡ sum_by (λ (c : ChainPlan). code_slots c.rings) plans
rings_sum [] = refl
rings_sum (c ∷ cs) =
    let split = ap (sum_by slots_in) (map-append queue_numbers (ring_rows c) (flat_map ring_rows cs)) in
    let both = sum_append slots_in (map queue_numbers (ring_rows c)) (map queue_numbers (flat_map ring_rows cs)) in
    let one = ring_sum c.number c.code_base c.rings in
    let rest = rings_sum cs in
    let all = sum_by-cons (λ (x : ChainPlan). code_slots x.rings) c cs in
    omega (arith, split, both, one, rest, all)

pub entries_sum : (base : ℕ) (plans : List ChainPlan) → sum_by slots_in (map queue_numbers (map (entry_row base) plans)) ≡ 2 * length plans
entries_sum base [] = refl
entries_sum base (c ∷ cs) =
    let rest = entries_sum base cs in
    let here = sum_by-cons slots_in (queue_numbers (entry_row base c)) (map queue_numbers (map (entry_row base) cs)) in
    omega (arith, rest, here)

length-ring_rows : (domain base : ℕ) (rings : List Plain) → length (ring_rows_from domain base rings) ≡ length rings
length-ring_rows domain base [] = refl
length-ring_rows domain base (r ∷ rs) = ap suc (length-ring_rows domain (base + 64 * ring_slots r) rs)

pub count_rings : (plans : List ChainPlan) → length (flat_map ring_rows plans) ≡ sum_by (λ (c : ChainPlan). length c.rings) plans
count_rings [] = refl
count_rings (c ∷ cs) =
    let one = length-ring_rows c.number c.code_base c.rings in
    let rest = count_rings cs in
    let all = length-append (ring_rows c) (flat_map ring_rows cs) in
    let sum = sum_by-cons (λ (x : ChainPlan). length x.rings) c cs in
    omega (arith, one, rest, all, sum)
