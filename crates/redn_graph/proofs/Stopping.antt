-- Blocks are added and bound, and each leads to one that does something.
use Rattle.std.proofs.Common.{◌≡◌, ◌≢◌, ℕ, zero, suc, ◌+◌, ◌<◌, ◌≤◌, inl, inr, true, false, List, [], ◌∷◌, ◌++◌, length, length-append, Option, Some, None, refl, sym, ap, ◌∙◌, subst, arith}
use Rattle.std.specs.Prelude.{slice_get, unwrap_or}
use Rattle.std.proofs.lemmas.Bool.{cases_lt}
use Rattle.std.proofs.lemmas.Option.{slice_get_past}
use Rattle.redn_graph.specs.declared.types.Block.{Block}
use Rattle.redn_graph.specs.declared.build.Tail.{Tail}
use Rattle.redn_graph.specs.declared.build.Tail.TheVariants as tail
use Rattle.redn_graph.specs.Idle.{idle_code, idle_block, idle_at, jumps}
use Rattle.redn_graph.specs.Onward.{Stops, AllStop, tail_idle, IsAmong, TailStops, Added}
use Rattle.redn_graph.proofs.Finding.{cases_eq}
use Rattle.redn_graph.proofs.Indexes.{slice_get_append_left, slice_get_append_at}
use Rattle.redn_graph.proofs.Jumping.{jumps_stay, jumps_add}

pub none_some : {x : ℕ} → None ≡ Some x → ⊥
none_some e = cc

some_one : {x y : ℕ} → Some x ≡ Some y → x ≡ y
some_one e = cc

-- there is one such block
pub stops_one : (blocks : List Block) (k r s : ℕ) → Stops blocks k r → Stops blocks k s → r ≡ s
stops_one blocks k r s a b =
    let e : a.count + b.count ≡ b.count + a.count = omega arith in
    sym (jumps_stay blocks b.count r a.works) ∙ ap (jumps blocks b.count) (sym a.leads) ∙ sym (jumps_add blocks a.count b.count k)
    ∙ ap (λ (n : ℕ). jumps blocks n k) e
    ∙ jumps_add blocks b.count a.count k ∙ ap (jumps blocks a.count) b.leads ∙ jumps_stay blocks a.count s b.works

pub stops_here : (blocks : List Block) (k : ℕ) → idle_at blocks k ≡ None → Stops blocks k k
stops_here blocks k none = record { count = 0; leads = refl; works = none }

pub stops_front : (blocks : List Block) (k l r : ℕ) → idle_at blocks k ≡ Some l → Stops blocks l r → Stops blocks k r
stops_front blocks k l r leads s = record { count = suc s.count; leads = ap (λ (o : Option ℕ). jumps blocks s.count (unwrap_or o k)) leads ∙ s.leads; works = s.works }

pub stops_works : (blocks : List Block) (k r : ℕ) → idle_at blocks k ≡ None → Stops blocks k r → r ≡ k
stops_works blocks k r none s = stops_one blocks k r k s (stops_here blocks k none)

-- where the same blocks do nothing, blocks lead to the same
module _ (old new : List Block) (same : (k : ℕ) → k < length old → idle_at new k ≡ idle_at old k) (all : AllStop old) where
  jumps_same : (n k : ℕ) → k < length old → (jumps new n k ≡ jumps old n k) × (jumps old n k < length old)
  jumps_same zero k lt = (refl, lt)
  jumps_same (suc n) k lt = jumps_by n k lt (λ l there. jumps_same n l there) (idle_at old k) refl
    where
      jumps_by : (n k : ℕ) → k < length old → ((l : ℕ) → l < length old → (jumps new n l ≡ jumps old n l) × (jumps old n l < length old)) → (o : Option ℕ) → idle_at old k ≡ o →
          (jumps new n (unwrap_or (idle_at new k) k) ≡ jumps old n (unwrap_or (idle_at old k) k)) × (jumps old n (unwrap_or (idle_at old k) k) < length old)
      jumps_by n k lt rest None none =
          let now : idle_at new k ≡ None = same k lt ∙ none in
          let p = rest k lt in
          (ap (λ (o : Option ℕ). jumps new n (unwrap_or o k)) now ∙ p.0 ∙ sym (ap (λ (o : Option ℕ). jumps old n (unwrap_or o k)) none), subst (λ (o : Option ℕ). jumps old n (unwrap_or o k) < length old) (sym none) p.1)
      jumps_by n k lt rest (Some l) leads =
          let now : idle_at new k ≡ Some l = same k lt ∙ leads in
          let p = rest l (all.within k l leads) in
          (ap (λ (o : Option ℕ). jumps new n (unwrap_or o k)) now ∙ p.0 ∙ sym (ap (λ (o : Option ℕ). jumps old n (unwrap_or o k)) leads), subst (λ (o : Option ℕ). jumps old n (unwrap_or o k) < length old) (sym leads) p.1)

  pub stops_now : (k r : ℕ) → k < length old → Stops old k r → Stops new k r
  stops_now k r lt s =
      let p = jumps_same s.count k lt in
      let there : r < length old = omega (arith, p.1, s.leads) in
      record { count = s.count; leads = p.0 ∙ s.leads; works = same r there ∙ s.works }

  pub stops_before : (k r : ℕ) → k < length old → Stops new k r → (r < length old) × Stops old k r
  stops_before k r lt s =
      let p = jumps_same s.count k lt in
      let there : r < length old = omega (arith, p.1, p.0, s.leads) in
      (there, record { count = s.count; leads = sym p.0 ∙ s.leads; works = sym (same r there) ∙ s.works })

-- what was kept does as little as before
pub kept_idle : (old new : List Block) → ((l : ℕ) → l < length old → slice_get new l ≡ slice_get old l) → (k : ℕ) → k < length old → idle_at new k ≡ idle_at old k
kept_idle old new kept k lt = ap idle_block (kept k lt)

pub past_works : (blocks : List Block) (k : ℕ) → length blocks ≤ k → idle_at blocks k ≡ None
past_works blocks k past = ap idle_block (slice_get_past blocks k past)

pub added_none : (blocks : List Block) → AllStop blocks → Added blocks blocks
added_none blocks all = record { longer = omega arith; kept = λ l lt. refl; all_stop = all }

pub added_then : {a b c : List Block} → Added a b → Added b c → Added a c
added_then {b = mid} x y = record {
  longer = omega (arith, x.longer, y.longer);
  kept = λ l lt. let there : l < length mid = omega (arith, x.longer, lt) in y.kept l there ∙ x.kept l lt;
  all_stop = y.all_stop;
}

pub idle_added : (old new : List Block) (b : Block) → new ≡ old ++ b ∷ [] → idle_at new (length old) ≡ idle_code b.instrs b.end
idle_added old new b is = ap idle_block (ap (λ (list : List Block). slice_get list (length old)) is ∙ slice_get_append_at old b)

-- one block that does something is added
pub added_one : (old new : List Block) (b : Block) → new ≡ old ++ b ∷ [] → idle_at new (length old) ≡ None → AllStop old → Added old new
added_one old new b is here all =
    let size : length new ≡ length old + 1 = omega (arith, ap length is, length-append old (b ∷ [])) in
    let kept : (l : ℕ) → l < length old → slice_get new l ≡ slice_get old l = λ l lt. ap (λ (list : List Block). slice_get list l) is ∙ slice_get_append_left old (b ∷ []) l lt in
    let none : (k : ℕ) → length old ≤ k → idle_at new k ≡ None = λ k past. elim (cases_eq k (length old)) [
      | inl at ↦ ap (idle_at new) at ∙ here
      | inr other ↦ past_works new k (omega (arith, size, past, other))
    ] in
    record {
      longer = omega (arith, size);
      kept = kept;
      all_stop = record {
        within = λ k l leads. elim (cases_lt k (length old)) [
          | inl lt ↦ omega (arith, size, all.within k l (sym (kept_idle old new kept k lt) ∙ leads))
          | inr past ↦ absurd (none_some (sym (none k past) ∙ leads))
        ];
        stops = λ k. elim (cases_lt k (length old)) [
          | inl lt ↦ let s = all.stops k in (s.0, stops_now old new (kept_idle old new kept) all k s.0 lt s.1)
          | inr past ↦ (k, stops_here new k (none k past))
        ];
      };
    }

-- a block that was reserved is bound
module _ (mid new : List Block) (head : ℕ) (fresh : idle_at mid head ≡ None) (others : (l : ℕ) → l ≢ head → slice_get new l ≡ slice_get mid l) (size : length new ≡ length mid) (all : AllStop mid) where
  other_idle : (k : ℕ) → k ≢ head → idle_at new k ≡ idle_at mid k
  other_idle k other = ap idle_block (others k other)

  idle_other : (k m : ℕ) → idle_at mid k ≡ Some m → k ≢ head
  idle_other k m leads at = none_some (sym (ap (idle_at mid) at ∙ fresh) ∙ leads)

  -- by a block that does something
  module _ (works : idle_at new head ≡ None) where
    all_idle : (k : ℕ) → idle_at new k ≡ idle_at mid k
    all_idle k = elim (cases_eq k head) [
      | inl at ↦ ap (idle_at new) at ∙ works ∙ sym (ap (idle_at mid) at ∙ fresh)
      | inr other ↦ other_idle k other
    ]

    bound_open : AllStop new
    bound_open = record {
      within = λ k l leads. omega (arith, size, all.within k l (sym (all_idle k) ∙ leads));
      stops = λ k. elim (cases_lt k (length mid)) [
        | inl lt ↦ let s = all.stops k in (s.0, stops_now mid new (λ l there. all_idle l) all k s.0 lt s.1)
        | inr past ↦ (k, stops_here new k (past_works new k (omega (arith, size, past))))
      ];
    }

  -- by one that leads on
  module _ (l r : ℕ) (to : idle_at new head ≡ Some l) (there : l < length mid) (s : Stops mid l r) (away : r ≢ head) where
    avoid_by : (n k t : ℕ) → ((k : ℕ) → jumps mid n k ≡ t → Stops new k t) → (o : Option ℕ) → idle_at mid k ≡ o → jumps mid n (unwrap_or (idle_at mid k) k) ≡ t → Stops new k t
    avoid_by n k t rest None none e = rest k (sym (ap (λ (o : Option ℕ). jumps mid n (unwrap_or o k)) none) ∙ e)
    avoid_by n k t rest (Some m) leads e =
        stops_front new k m t (other_idle k (idle_other k m leads) ∙ leads) (rest m (sym (ap (λ (o : Option ℕ). jumps mid n (unwrap_or o k)) leads) ∙ e))

    avoid : (n k t : ℕ) → idle_at mid t ≡ None → t ≢ head → jumps mid n k ≡ t → Stops new k t
    avoid zero k t none other e = record { count = 0; leads = e; works = other_idle t other ∙ none }
    avoid (suc n) k t none other e = avoid_by n k t (λ j. avoid n j t none other) (idle_at mid k) refl e

    from_head : Stops new head r
    from_head = stops_front new head l r to (avoid s.count l r s.works away s.leads)

    pass_by : (n k : ℕ) → ((k : ℕ) → jumps mid n k ≡ head → Stops new k r) → (o : Option ℕ) → idle_at mid k ≡ o → jumps mid n (unwrap_or (idle_at mid k) k) ≡ head → Stops new k r
    pass_by n k rest None none e = rest k (sym (ap (λ (o : Option ℕ). jumps mid n (unwrap_or o k)) none) ∙ e)
    pass_by n k rest (Some m) leads e =
        stops_front new k m r (other_idle k (idle_other k m leads) ∙ leads) (rest m (sym (ap (λ (o : Option ℕ). jumps mid n (unwrap_or o k)) leads) ∙ e))

    pass : (n k : ℕ) → jumps mid n k ≡ head → Stops new k r
    pass zero k e = subst (λ (j : ℕ). Stops new j r) (sym e) from_head
    pass (suc n) k e = pass_by n k (pass n) (idle_at mid k) refl e

    bound_to : AllStop new
    bound_to = record {
      within = λ k m leads. elim (cases_eq k head) [
        | inl at ↦
            let same : Some m ≡ Some l = sym leads ∙ ap (idle_at new) at ∙ to in
            let is : m ≡ l = some_one same in
            omega (arith, is, there, size)
        | inr other ↦ omega (arith, size, all.within k m (sym (other_idle k other) ∙ leads))
      ];
      stops = λ k.
          let t = all.stops k in
          elim (cases_eq t.0 head) [
            | inl at ↦ (r, pass t.1.count k (t.1.leads ∙ at))
            | inr other ↦ (t.0, avoid t.1.count k t.0 t.1.works other t.1.leads)
          ];
    }

  pub bound_stops : (t : Tail) → idle_at new head ≡ tail_idle t → IsAmong (length mid) t → ((r : ℕ) → TailStops mid t r → r ≢ head) → AllStop new
  bound_stops (tail.To l) bound among away = let s = all.stops l in bound_to l s.0 bound among s.1 (away s.0 s.1)
  bound_stops (tail.Open instrs end) bound among away = bound_open (bound ∙ among)

  -- where the bound block leads the tail led
  pub bound_leads : (t : Tail) → idle_at new head ≡ tail_idle t → IsAmong (length mid) t → ((r : ℕ) → TailStops mid t r → r ≢ head) → (r : ℕ) → r ≢ head → Stops new head r → TailStops mid t r
  bound_leads (tail.To l) bound among away r other stops =
      let s = all.stops l in
      let is : s.0 ≡ r = stops_one new head s.0 r (from_head l s.0 bound among s.1 (away s.0 s.1)) stops in
      subst (Stops mid l) is s.1
  bound_leads (tail.Open instrs end) bound among away r other stops = absurd (other (stops_works new head r (bound ∙ among) stops))
