-- No useful action is possible where no message is to come and no queue is active.
use Rattle.std.proofs.Common.{◌≡◌, ℕ, zero, suc, ◌+◌, ◌-◌, ◌<◌, ◌≤◌, Bool, true, false, cond, not, ◌&&◌, ◌||◌, ◌==◌, List, [], ◌∷◌, Option, Some, None, length, get_or, refl, sym, ap, ◌∙◌, arith}
use Rattle.std.specs.Prelude.{slice_get, is_some, is_none}
use Rattle.std.specs.List.{find}
use Rattle.std.specs.Option.{option_map}
use Rattle.std.specs.FinMap.{get}
use Rattle.std.proofs.lemmas.Bool.{false≢true, true≢false, and_parts, and_from, eq-eqb}
use Rattle.std.proofs.lemmas.List.FromFn.{length-range_with_len, get_or-range_with_len}
use Rattle.redn_words.specs.declared.types.Flight.{Flight}
use Rattle.redn_words.specs.declared.types.Action.TheVariants.{Deliver, Fetch, Start, Land, Complete}
use Rattle.redn_words.specs.States.{Queue, State}
use Rattle.redn_words.specs.Steps.{possible, is_useful, fetch_possible, land_possible, start_possible, complete_possible, flying}
use Rattle.redn_words.proofs.Others.{acting_there}
use Rattle.redn_words.proofs.Actions.{fetches}
use Rattle.redn_queue.specs.Telling.{is_unheld, is_unlanded, indexes_ahead, least_unheld, oldest_unlanded}
use Rattle.redn_adapter.specs.Quiet.{IsQuiet, is_active}

or_left : (a b : Bool) → a ≡ true → (a || b) ≡ true
or_left a b e = rw e refl

or_right : (a b : Bool) → b ≡ true → (a || b) ≡ true
or_right true b e = refl
or_right false b e = e

-- true of neither
neither : (a b : Bool) → a ≡ false → b ≡ false → (a || b) ≡ false
neither a b e f = rw e f

-- a test that isn't true is false
pub isnt : (b : Bool) → (b ≡ true → ⊥) → b ≡ false
isnt true h = absurd (h refl)
isnt false h = refl

module _ {X : Type 0} (p : X → Bool) where
  -- what is found passes, and where one passes something is found
  pub find_passes : (xs : List X) (x : X) → find p xs ≡ Some x → p x ≡ true
  find_passes [] x e = absurd (cc)
  find_passes (y ∷ xs) x e =
      elim (p y) as (λ b. p y ≡ b → cond b (Some y) (find p xs) ≡ Some x → p x ≡ true) [
        | true ↦ λ t h. let same : y ≡ x = cc in ap p (sym same) ∙ t
        | false ↦ λ t h. find_passes xs x h
      ] refl e

  pub passes_found : (xs : List X) (k : ℕ) (d : X) → k < length xs → p (get_or xs k d) ≡ true → is_some (find p xs) ≡ true
  passes_found [] k d l e = absurd (omega arith)
  passes_found (y ∷ xs) zero d l e = rw e refl
  passes_found (y ∷ xs) (suc k) d l e =
      elim (p y) as (λ b. is_some (cond b (Some y) (find p xs)) ≡ true) [ true ↦ refl | false ↦ passes_found xs k d (omega arith) e ]

  -- what is found by one test is there for another
  pub found_again : (q : X → Bool) → ((x : X) → q x ≡ true → p x ≡ true) → (xs : List X) (x : X) → find q xs ≡ Some x → is_some (find p xs) ≡ true
  found_again q h [] x e = absurd (cc)
  found_again q h (y ∷ xs) x e =
      elim (p y) as (λ b. p y ≡ b → is_some (cond b (Some y) (find p xs)) ≡ true) [
        | true ↦ λ t. refl
        | false ↦ λ t. found_again q h xs x (not_first (q y) refl t e)
      ] refl
    where
      not_first : (b : Bool) → q y ≡ b → p y ≡ false → cond b (Some y) (find q xs) ≡ Some x → find q xs ≡ Some x
      not_first true t f e = absurd (true≢false (sym (h y t) ∙ f))
      not_first false t f e = e

pub some_is : {X : Type 0} (o : Option X) → is_some o ≡ true → (x : X) × (o ≡ Some x)
some_is None e = absurd (false≢true e)
some_is (Some x) e = (x, refl)

map_some : {X Y : Type 0} (f : X → Y) (o : Option X) → is_some (option_map f o) ≡ is_some o
map_some f None = refl
map_some f (Some x) = refl

-- a queue's useful actions are seen
module _ (s : State) (u : Queue) where
  abbrev lands_some : Bool
  lands_some = not u.stopped && is_some (oldest_unlanded u)

  completes_active : complete_possible u ≡ true → is_active s u ≡ true
  completes_active e = or_left (complete_possible u || lands_some || start_possible s u) (is_some (least_unheld u)) (or_left (complete_possible u || lands_some) (start_possible s u) (or_left (complete_possible u) lands_some e))

  lands_active : (i : ℕ) → land_possible i u ≡ true → is_active s u ≡ true
  lands_active i e =
      let parts = and_parts (not u.stopped) (is_some (flying u i)) e in
      let f = some_is (flying u i) parts.1 in
      let there = found_again is_unlanded (λ (g : Flight). g.index == i && not g.landed) (λ g t. (and_parts (g.index == i) (not g.landed) t).1) u.flights f.0 f.1 in
      let here : lands_some ≡ true = and_from (not u.stopped) (is_some (oldest_unlanded u)) parts.0 (map_some (λ (g : Flight). g.index) (find is_unlanded u.flights) ∙ there) in
      or_left (complete_possible u || lands_some || start_possible s u) (is_some (least_unheld u)) (or_left (complete_possible u || lands_some) (start_possible s u) (or_right (complete_possible u) lands_some here))

  starts_active : start_possible s u ≡ true → is_active s u ≡ true
  starts_active e = or_left (complete_possible u || lands_some || start_possible s u) (is_some (least_unheld u)) (or_right (complete_possible u || lands_some) (start_possible s u) e)

  fetches_active : (i : ℕ) → u.head ≤ i → i < u.head + u.row.slots → fetch_possible i u ≡ true → is_none (get u.held i) ≡ true → is_active s u ≡ true
  fetches_active i low near e none =
      let k = i - u.head in
      let l : k < u.row.slots = omega arith in
      let at : get_or (indexes_ahead u) k 0 ≡ i = omega (arith, get_or-range_with_len u.head u.row.slots k 0 l) in
      let unheld : is_unheld u i ≡ true = and_from (fetch_possible i u) (is_none (get u.held i)) e none in
      or_right (complete_possible u || lands_some || start_possible s u) (is_some (least_unheld u)) (passes_found (is_unheld u) (indexes_ahead u) k 0 (omega (arith, l, length-range_with_len u.head u.row.slots)) (ap (is_unheld u) at ∙ unheld))

-- where no queue is active and no message is to come
module _ (s : State) (none : (c : ℕ) → possible s (Deliver c) ≡ false) (idle : (q : ℕ) (u : Queue) → slice_get s.queues q ≡ Some u → is_active s u ≡ false) where
  busy : {A : Type 0} (q : ℕ) (u : Queue) → slice_get s.queues q ≡ Some u → is_active s u ≡ true → A
  busy q u there active = absurd (true≢false (sym active ∙ idle q u there))

  pub then_quiet : IsQuiet s
  unfolding possible
  then_quiet (Deliver c) p = absurd (true≢false (sym p ∙ none c))
  then_quiet (Fetch q i) p =
      let u = acting_there s (Fetch q i) q refl p in
      let f = fetches s q u.0 u.1 i p in
      isnt (is_useful s (Fetch q i)) (λ useful. busy q u.0 u.1 (fetches_active s u.0 i f.ahead.low f.ahead.near (rw u.1 at p) (rw u.1 at useful)))
  then_quiet (Start q) p = let u = acting_there s (Start q) q refl p in busy q u.0 u.1 (starts_active s u.0 (rw u.1 at p))
  then_quiet (Land q i) p = let u = acting_there s (Land q i) q refl p in busy q u.0 u.1 (lands_active s u.0 i (rw u.1 at p))
  then_quiet (Complete q) p = let u = acting_there s (Complete q) q refl p in busy q u.0 u.1 (completes_active s u.0 (rw u.1 at p))

-- and the other way round
module _ (s : State) (quiet : IsQuiet s) where
  pub no_delivery : (c : ℕ) → possible s (Deliver c) ≡ false
  no_delivery c = isnt (possible s (Deliver c)) (λ p. true≢false (quiet (Deliver c) p))

  module _ (q : ℕ) (u : Queue) (there : slice_get s.queues q ≡ Some u) where
    no_complete : complete_possible u ≡ false
    unfolding possible
    no_complete = isnt (complete_possible u) (λ e. true≢false (quiet (Complete q) (rw there e)))

    no_start : start_possible s u ≡ false
    unfolding possible
    no_start = isnt (start_possible s u) (λ e. true≢false (quiet (Start q) (rw there e)))

    no_land : (not u.stopped && is_some (oldest_unlanded u)) ≡ false
    unfolding possible
    no_land =
        isnt (not u.stopped && is_some (oldest_unlanded u)) (λ e.
        let parts = and_parts (not u.stopped) (is_some (oldest_unlanded u)) e in
        let f = some_is (find is_unlanded u.flights) (sym (map_some (λ (g : Flight). g.index) (find is_unlanded u.flights)) ∙ parts.1) in
        let fresh = find_passes is_unlanded u.flights f.0 f.1 in
        let i = f.0.index in
        let again = found_same u.flights f.0 f.1 fresh in
        let here : land_possible i u ≡ true = and_from (not u.stopped) (is_some (flying u i)) parts.0 again in
        true≢false (quiet (Land q i) (rw there here)))
      where
        found_same : (fs : List Flight) (f : Flight) → find is_unlanded fs ≡ Some f → not f.landed ≡ true → is_some (find (λ (g : Flight). g.index == f.index && not g.landed) fs) ≡ true
        found_same [] f e t = absurd (cc)
        found_same (g ∷ fs) f e t =
            elim (not g.landed) as (λ b. not g.landed ≡ b → cond b (Some g) (find is_unlanded fs) ≡ Some f → is_some (find (λ (h : Flight). h.index == f.index && not h.landed) (g ∷ fs)) ≡ true) [
              | true ↦ λ v h.
                  let same : g ≡ f = cc in
                  let here : (g.index == f.index && not g.landed) ≡ true = and_from (g.index == f.index) (not g.landed) (eq-eqb g.index f.index (ap (λ (x : Flight). x.index) same)) v in
                  rw here refl
              | false ↦ λ v h. rw (v) (later (g.index == f.index) (found_same fs f h t))
            ] refl e
          where
            later : (b : Bool) → is_some (find (λ (h : Flight). h.index == f.index && not h.landed) fs) ≡ true → is_some (cond (b && false) (Some g) (find (λ (h : Flight). h.index == f.index && not h.landed) fs)) ≡ true
            later true e = e
            later false e = e

    no_fetch : is_some (least_unheld u) ≡ false
    unfolding possible
    no_fetch =
        isnt (is_some (least_unheld u)) (λ e.
        let i = some_is (least_unheld u) e in
        let unheld = find_passes (is_unheld u) (indexes_ahead u) i.0 i.1 in
        let parts = and_parts (fetch_possible i.0 u) (is_none (get u.held i.0)) unheld in
        true≢false (sym parts.1 ∙ sym (rw there refl) ∙ quiet (Fetch q i.0) (rw there parts.0)))

    pub quiet_idle : is_active s u ≡ false
    quiet_idle =
        neither (complete_possible u || not u.stopped && is_some (oldest_unlanded u) || start_possible s u) (is_some (least_unheld u))
        (neither (complete_possible u || not u.stopped && is_some (oldest_unlanded u)) (start_possible s u) (neither (complete_possible u) (not u.stopped && is_some (oldest_unlanded u)) no_complete no_land) no_start)
        no_fetch
