-- A queue that has something useful to do is busy.
use Rattle.std.proofs.Common.{◌≡◌, ℕ, ◌+◌, ◌<◌, ◌≤◌, inl, inr, Bool, true, false, not, ◌&&◌, ◌||◌, ◌==◌, List, [], ◌∷◌, Option, Some, None, length, map, get_or, refl, sym, ap, subst, ◌∙◌, arith}
use Rattle.std.specs.Prelude.{nat_lt, is_some, slice_get}
use Rattle.std.specs.List.{find, list_any}
use Rattle.std.specs.Option.{option_map}
use Rattle.std.specs.FinMap as finite
use Rattle.std.proofs.lemmas.Bool.{and_parts, and_from, or_cases, true≢false, eqb-true, eq-eqb}
use Rattle.std.proofs.lemmas.Bool.Decides.{nat_tests}
use Rattle.std.proofs.lemmas.Option.{slice_get-map, slice_get-get_or, slice_get_within, get_or_from_slice_get}
use Rattle.redn_words.specs.declared.types.Flight.{Flight}
use Rattle.redn_words.specs.States.{Queue, State}
use Rattle.redn_words.specs.Steps.{complete_possible, start_possible, start_with, fetch_possible, is_landed}
use Rattle.redn_queue.specs.Telling.{is_unheld, is_unlanded, indexes_ahead, least_unheld, oldest_unlanded}
use Rattle.redn_marks.specs.Marks.{Marks, is_number, is_true, is_marked}
use Rattle.redn_adapter.specs.Quiet.{is_active}
use Rattle.redn_adapter.specs.Busy.{is_busy, KeepsBusy, IsQueueOf}
use Rattle.redn_adapter.proofs.Quiet.{find_passes, some_is}
use Rattle.redn_adapter.proofs.Marking.{fetched_busy, starts_busy}

running : (stopped : Bool) → not stopped ≡ true → stopped ≡ false
running true e = absurd (true≢false (sym e))
running false e = refl

-- with a request in flight
flying_busy : (u : Queue) → u.stopped ≡ false → 0 < length u.flights → is_busy u ≡ true
flying_busy u runs l = grind (arith, nat_tests)

landed_flies : (fs : List Flight) → is_landed (slice_get fs 0) ≡ true → 0 < length fs
landed_flies [] e = absurd (true≢false (sym e))
landed_flies (f ∷ fs) e = omega arith

unlanded_flies : (fs : List Flight) → is_some (option_map (λ (f : Flight). f.index) (find is_unlanded fs)) ≡ true → 0 < length fs
unlanded_flies [] e = absurd (true≢false (sym e))
unlanded_flies (f ∷ fs) e = omega arith

started_held : (s : State) (u : Queue) (o : Option (List ℕ)) → start_with s u o ≡ true → is_some o ≡ true
started_held s u None e = absurd (true≢false (sym e))
started_held s u (Some copy) e = refl

pub acts_busy : (s : State) (u : Queue) → is_active s u ≡ true → is_busy u ≡ true
acts_busy s u e =
    elim (or_cases (complete_possible u || not u.stopped && is_some (oldest_unlanded u) || start_possible s u) (is_some (least_unheld u)) e) [
      | inr h ↦ let i = some_is (least_unheld u) h in fetched_busy u i.0 (and_parts (fetch_possible i.0 u) _ (find_passes (is_unheld u) (indexes_ahead u) i.0 i.1)).0
      | inl h ↦
          elim (or_cases (complete_possible u || not u.stopped && is_some (oldest_unlanded u)) (start_possible s u) h) [
            | inr h ↦ let p = and_parts (not u.stopped) (start_with s u (finite.get u.held u.head)) h in starts_busy u (running u.stopped p.0) (started_held s u (finite.get u.held u.head) p.1)
            | inl h ↦
                elim (or_cases (complete_possible u) (not u.stopped && is_some (oldest_unlanded u)) h) [
                  | inr h ↦ let p = and_parts (not u.stopped) (is_some (oldest_unlanded u)) h in flying_busy u (running u.stopped p.0) (unlanded_flies u.flights p.1)
                  | inl h ↦ let p = and_parts (not u.stopped) (is_landed (slice_get u.flights 0)) h in flying_busy u (running u.stopped p.0) (landed_flies u.flights p.1)
                ]
          ]
    ]

-- the marked queues of a chain
module _ (s : State) (m : Marks) (chains : ℕ) (h : KeepsBusy m chains s.queues) where
  group_is : (q : ℕ) → slice_get m.group q ≡ option_map (λ (u : Queue). u.row.domain) (slice_get s.queues q)
  group_is q = ap (λ (l : List ℕ). slice_get l q) h.group ∙ slice_get-map (λ (u : Queue). u.row.domain) s.queues q

  of_chain : (c q : ℕ) (o : Option Queue) → slice_get s.queues q ≡ o → is_number c (option_map (λ (u : Queue). u.row.domain) o) ≡ true → IsQueueOf s c q
  of_chain c q None e h = absurd (true≢false (sym h))
  of_chain c q (Some u) e h = record { queue = u; there = e; domain = eqb-true u.row.domain c h }

  pub marked_is_its : (c q : ℕ) → is_marked m c q ≡ true → IsQueueOf s c q
  marked_is_its c q e = of_chain c q (slice_get s.queues q) refl (ap (is_number c) (sym (group_is q)) ∙ (and_parts (is_number c (slice_get m.group q)) (is_true (slice_get m.marked q)) e).0)

  pub busy_is_marked : (c q : ℕ) (u : Queue) → slice_get s.queues q ≡ Some u → u.row.domain ≡ c → is_busy u ≡ true → is_marked m c q ≡ true
  busy_is_marked c q u there domain e =
      let l = slice_get_within s.queues q u there in
      let group : is_number c (slice_get m.group q) ≡ true = ap (is_number c) (group_is q ∙ ap (option_map (λ (u : Queue). u.row.domain)) there) ∙ eq-eqb u.row.domain c domain in
      let mark : get_or m.marked q false ≡ true = h.busy q u l (ap is_busy (get_or_from_slice_get s.queues q u u there) ∙ e) in
      let marked : is_true (slice_get m.marked q) ≡ true = ap is_true (slice_get-get_or m.marked q false (omega (arith, l, h.many))) ∙ mark in
      and_from (is_number c (slice_get m.group q)) (is_true (slice_get m.marked q)) group marked
