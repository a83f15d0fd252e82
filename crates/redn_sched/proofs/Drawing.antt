-- What is drawn from a list, and how the shuffled schedule goes on by it.
use Rattle.std.proofs.Common.{◌≡◌, ◌↔◌, ℕ, ◌+◌, ◌/◌, ◌%◌, ◌^◌, ◌<◌, Bool, true, false, cond, ◌||◌, List, [], ◌∷◌, ◌++◌, Option, Some, None, length, refl, sym, ap, subst, ◌∙◌, arith, append_assoc, append-nil}
use Rattle.std.specs.Prelude.{slice_get, slice_index, is_some, IfSome}
use Rattle.std.specs.List.{All, find, filter, list_any, range_with_len}
use Rattle.std.specs.Option.{option_map}
use Rattle.std.proofs.lemmas.Bool.{true≢false, false≢true}
use Rattle.std.proofs.lemmas.List.{length-set}
use Rattle.std.proofs.lemmas.List.Elements.{filter_passes, filter-append, All-filter}
use Rattle.std.proofs.lemmas.List.FromFn.{length-range_with_len, get_or-range_with_len}
use Rattle.std.proofs.lemmas.List.Folds.{list_any-append}
use Rattle.std.proofs.lemmas.Option.{slice_get_within, slice_get-get_or, get_or_from_slice_get}
use Rattle.redn_words.specs.declared.types.Action.{Action}
use Rattle.redn_words.specs.declared.types.Action.TheVariants.{Deliver, Start, Complete}
use Rattle.redn_words.specs.States.{Queue, State}
use Rattle.redn_words.specs.Steps.{possible, with_queue}
use Rattle.redn_queue.specs.Telling.{least_unheld, greatest_unheld, oldest_unlanded, newest_unlanded}
use Rattle.redn_adapter.specs.Quiet.{IsQuiet}
use Rattle.redn_adapter.proofs.Quiet.{find_passes}
use Rattle.redn_sched.specs.MadeSchedules.{cyclically, in_turn, land_of, fetch_of, queues_of, queue_acts, queue_from, chain_acts}
use Rattle.redn_sched.specs.Shuffles.{Shuffling, behind, drawn, another, held_head, in_order, of_queue, candidates, acting, moved_to, of_chain, shuffled_next}
use Rattle.redn_sched.specs.ShuffleView.{shuffled_on}
use Rattle.redn_sched.proofs.Turning.{some_acts, some_found, range_split}
use Rattle.redn_sched.proofs.NoAction.{quiet_where, quiet_chain, none_passes}

module _ {X : Type 0} (z : ℕ) where
  -- one of a list that isn't empty is drawn
  pub some_drawn : (xs : List X) → 0 < length xs → is_some (drawn z xs) ≡ true
  some_drawn [] l = absurd (omega arith)
  some_drawn (x ∷ xs) l =
      let within : behind z / 2 ^ 33 % length (x ∷ xs) < length (x ∷ xs) = below (behind z / 2 ^ 33) (length (x ∷ xs)) l in
      rw (slice_get-get_or (x ∷ xs) (behind z / 2 ^ 33 % length (x ∷ xs)) x within) refl
    where
      below : (a n : ℕ) → 0 < n → a % n < n
      below a n l = omega arith

  -- and what is drawn is one of the list
  pub drawn_is : (P : X → Type 0) (xs : List X) (x : X) → drawn z xs ≡ Some x → All P xs → P x
  drawn_is P xs x e all =
      let k = behind z / 2 ^ 33 % length xs in
      subst P (get_or_from_slice_get xs k x x e) (all k x (slice_get_within xs k x e))

-- where one of a list passes, the list of those that do isn't empty
module _ {X : Type 0} (p : X → Bool) where
  pub some_kept : (xs : List X) → list_any p xs ≡ true → 0 < length (filter p xs)
  some_kept [] e = absurd (false≢true e)
  some_kept (x ∷ xs) e =
      elim (p x) as (λ b. (b || list_any p xs) ≡ true → 0 < length (cond b (x ∷ filter p xs) (filter p xs))) [ true ↦ λ h. omega arith | false ↦ λ h. some_kept xs h ] e

  pub none_left : (xs : List X) → list_any p xs ≡ false → filter p xs ≡ []
  none_left [] e = refl
  none_left (x ∷ xs) e =
      elim (p x) as (λ b. (b || list_any p xs) ≡ false → cond b (x ∷ filter p xs) (filter p xs) ≡ []) [ true ↦ λ h. absurd (true≢false h) | false ↦ λ h. none_left xs h ] e

-- what is asked of a queue in turn is among what may be drawn of it
among : (c lo ln s fl fg fh : Bool) → (c || (lo || (s || fl))) ≡ true → (c || (lo || (ln || (s || (fl || (fg || fh)))))) ≡ true
among true lo ln s fl fg fh e = refl
among false true ln s fl fg fh e = refl
among false false true s fl fg fh e = refl
among false false false true fl fg fh e = refl
among false false false false true fg fh e = refl
among false false false false false fg fh e = absurd (false≢true e)

module _ (s : State) where
  abbrev any : List Action → Bool
  any xs = list_any (possible s) xs

  in_turn_any : (q : ℕ) (u : Queue) → any (in_turn q u) ≡ (possible s (Complete q) || (any (land_of q (oldest_unlanded u)) || (possible s (Start q) || any (fetch_of q (least_unheld u)))))
  in_turn_any q u = ap (λ (b : Bool). possible s (Complete q) || b) (list_any-append (possible s) (land_of q (oldest_unlanded u)) (Start q ∷ fetch_of q (least_unheld u)))

  in_order_any : (q : ℕ) (u : Queue) →
      any (in_order q u)
      ≡ (possible s (Complete q)
      || (any (land_of q (oldest_unlanded u))
      || (any (land_of q (another (oldest_unlanded u) (newest_unlanded u)))
      || (possible s (Start q)
      || (any (fetch_of q (least_unheld u))
      || (any (fetch_of q (another (least_unheld u) (greatest_unheld u)))
      || any (fetch_of q (held_head u))))))))
  in_order_any q u = simp (list_any-append) refl

  acts_drawn : (q : ℕ) (u : Queue) → any (in_turn q u) ≡ true → any (in_order q u) ≡ true
  acts_drawn q u e =
      in_order_any q u
      ∙ among (possible s (Complete q)) (any (land_of q (oldest_unlanded u))) (any (land_of q (another (oldest_unlanded u) (newest_unlanded u)))) (possible s (Start q)) (any (fetch_of q (least_unheld u))) (any (fetch_of q (another (least_unheld u) (greatest_unheld u)))) (any (fetch_of q (held_head u))) (sym (in_turn_any q u) ∙ e)

  of_acting : (q : ℕ) (o : Option Queue) → is_some (with_queue o None (λ (u : Queue). find (possible s) (in_turn q u))) ≡ true → any (with_queue o [] (in_order q)) ≡ true
  of_acting q None e = absurd (false≢true e)
  of_acting q (Some u) e = acts_drawn q u (sym (some_found (possible s) (in_turn q u)) ∙ e)

  by_active : (o : Option ℕ) → is_some o ≡ true → ((q : ℕ) → o ≡ Some q → queue_acts s q ≡ true) → any (of_queue s o) ≡ true
  by_active None e acts = absurd (false≢true e)
  by_active (Some q) e acts = of_acting q (slice_get s.queues q) (acts q refl)

  -- a chain that may be taken has an action to draw
  pub has_candidates : (cursors : List ℕ) (c : ℕ) → chain_acts s c ≡ true → 0 < length (candidates s c (queue_from s cursors c))
  has_candidates cursors c acts =
      some_kept (possible s) (Deliver c ∷ of_queue s (queue_from s cursors c))
      (elim (possible s (Deliver c)) as (λ b. (b || list_any (queue_acts s) (queues_of s c)) ≡ true → (b || any (of_queue s (queue_from s cursors c))) ≡ true) [
        | true ↦ λ e. refl
        | false ↦ λ e.
            by_active (queue_from s cursors c) (some_acts (queue_acts s) (slice_index cursors c) (queues_of s c) ∙ e)
            (λ q f. find_passes (queue_acts s) (cyclically (slice_index cursors c) (queues_of s c)) q f)
      ] acts)

  abbrev action_of : Option (Action × Shuffling) → Option Action
  action_of o = option_map (λ (p : Action × Shuffling). p.0) o

  abbrev going_on : Shuffling → ℕ → Action → Action × Shuffling
  going_on k c a = let next : Shuffling = record { z = behind (behind k.z); queues = moved_to k.queues c (queue_from s k.queues c) } in (a, next)

  -- what is drawn is a chain that may be taken, and an action of it that is possible
  pub acting_drawn : (z c : ℕ) → drawn z (acting s) ≡ Some c → chain_acts s c ≡ true
  acting_drawn z c e = drawn_is z (λ (d : ℕ). chain_acts s d ≡ true) (acting s) c e (filter_passes (chain_acts s) (range_with_len 0 (length s.chains)))

  pub chain_drawn : (z c : ℕ) → drawn z (acting s) ≡ Some c → c < length s.chains
  chain_drawn z c e =
      drawn_is z (λ (d : ℕ). d < length s.chains) (acting s) c e
      (All-filter (chain_acts s) (λ (d : ℕ). d < length s.chains) (range_with_len 0 (length s.chains)) in_range)
    where
      in_range : All (λ (d : ℕ). d < length s.chains) (range_with_len 0 (length s.chains))
      in_range k d l =
          let n = length s.chains in
          let here : k < n = omega (arith, l, length-range_with_len 0 n) in
          omega (arith, get_or-range_with_len 0 n k d here, here)

  of_chain_possible : (k : Shuffling) (c : ℕ) (o : Option Action) → drawn (behind k.z) (candidates s c (queue_from s k.queues c)) ≡ o → IfSome (action_of (option_map (going_on k c) o)) (λ a. possible s a ≡ true)
  of_chain_possible k c None e = tt
  of_chain_possible k c (Some a) e =
      drawn_is (behind k.z) (λ (b : Action). possible s b ≡ true) (candidates s c (queue_from s k.queues c)) a e (filter_passes (possible s) (Deliver c ∷ of_queue s (queue_from s k.queues c)))

  of_drawn_possible : (k : Shuffling) (o : Option ℕ) → IfSome (action_of (of_chain s k o)) (λ a. possible s a ≡ true)
  of_drawn_possible k None = tt
  of_drawn_possible k (Some c) = of_chain_possible k c (drawn (behind k.z) (candidates s c (queue_from s k.queues c))) refl

  pub shuffled_possible : (k : Shuffling) → IfSome (action_of (shuffled_next s k)) (λ a. possible s a ≡ true)
  shuffled_possible k = of_drawn_possible k (drawn k.z (acting s))

  -- there is none where no chain may be taken
  mapped : (k : Shuffling) (c : ℕ) (o : Option Action) → is_some (action_of (option_map (going_on k c) o)) ≡ is_some o
  mapped k c None = refl
  mapped k c (Some a) = refl

  taken_goes_on : (k : Shuffling) (c : ℕ) → chain_acts s c ≡ true → is_some (action_of (of_chain s k (Some c))) ≡ true
  taken_goes_on k c acts =
      mapped k c (drawn (behind k.z) (candidates s c (queue_from s k.queues c))) ∙ some_drawn (behind k.z) (candidates s c (queue_from s k.queues c)) (has_candidates k.queues c acts)

  by_drawn : (k : Shuffling) (o : Option ℕ) → drawn k.z (acting s) ≡ o → action_of (of_chain s k o) ≡ None → is_some o ≡ false
  by_drawn k None e f = refl
  by_drawn k (Some c) e f = absurd (true≢false (sym (taken_goes_on k c (acting_drawn k.z c e)) ∙ ap is_some f))

  any_or_none : (b : Bool) → list_any (chain_acts s) (range_with_len 0 (length s.chains)) ≡ b → (k : Shuffling) → action_of (shuffled_next s k) ≡ None → b ≡ false
  any_or_none true e k f =
      let some = some_drawn k.z (acting s) (some_kept (chain_acts s) (range_with_len 0 (length s.chains)) e) in
      absurd (true≢false (sym some ∙ by_drawn k (drawn k.z (acting s)) refl f))
  any_or_none false e k f = refl

  pub none_drawn : (k : Shuffling) → All (λ (u : Queue). u.row.domain < length s.chains) s.queues → (action_of (shuffled_next s k) ≡ None) ↔ IsQuiet s
  none_drawn k domains = (
    λ e. quiet_where s domains (any_or_none (list_any (chain_acts s) (range_with_len 0 (length s.chains))) refl k e),
    λ quiet. rw (none_left (chain_acts s) (range_with_len 0 (length s.chains)) (none_passes (chain_acts s) (range_with_len 0 (length s.chains)) (quiet_chain s quiet))) refl,
  )

pub record IsDrawn (s : State) (k : Shuffling) (c : ℕ) (q : Option ℕ) : Type 0 where
  pub drawn_is : drawn k.z (acting s) ≡ Some c
  pub queue : q ≡ queue_from s k.queues c

module _ (s : State) (k : Shuffling) (c : ℕ) (q : Option ℕ) (is : IsDrawn s k c q) where
  next : shuffled_next s k ≡ option_map (λ (a : Action). let now : Shuffling = record { z = behind (behind k.z); queues = moved_to k.queues c q } in (a, now)) (drawn (behind k.z) (candidates s c q))
  next = rw (is.drawn_is, is.queue) refl

  pub none_next : drawn (behind k.z) (candidates s c q) ≡ None → shuffled_next s k ≡ None
  none_next e = next ∙ rw e refl

  pub some_next : (a : Action) → drawn (behind k.z) (candidates s c q) ≡ Some a → shuffled_next s k ≡ Some (a, record { z = behind (behind k.z); queues = moved_to k.queues c q })
  some_next a e = next ∙ rw e refl

-- lists that pass a test, one behind the other
module _ {X : Type 0} (p : X → Bool) where
  pub one_more : (first mid last xs ys : List X) → mid ≡ first ++ filter p xs → last ≡ mid ++ filter p ys → last ≡ first ++ filter p (xs ++ ys)
  one_more first mid last xs ys e f = f ∙ ap (λ (l : List X). l ++ filter p ys) e ∙ append_assoc first (filter p xs) (filter p ys) ∙ ap (λ (l : List X). first ++ l) (sym (filter-append p xs ys))

-- the numbers below one more
module _ (p : ℕ → Bool) (xs : List ℕ) (n : ℕ) (e : xs ≡ filter p (range_with_len 0 n)) where
  split : filter p (range_with_len 0 (n + 1)) ≡ xs ++ filter p (n ∷ [])
  split = ap (filter p) (range_split 0 (n + 1) n 1 n refl (omega arith)) ∙ filter-append p (range_with_len 0 n) (range_with_len n 1) ∙ ap (λ (l : List ℕ). l ++ filter p (n ∷ [])) (sym e)

  pub passing_more : p n ≡ true → xs ++ n ∷ [] ≡ filter p (range_with_len 0 (n + 1))
  passing_more t = sym (split ∙ ap (λ (b : Bool). xs ++ cond b (n ∷ []) []) t)

  pub passing_same : p n ≡ false → xs ≡ filter p (range_with_len 0 (n + 1))
  passing_same f = sym (split ∙ ap (λ (b : Bool). xs ++ cond b (n ∷ []) []) f ∙ append-nil xs)

-- a draw leaves as many cursors
pub drawn_many : (s : State) (k : Shuffling) → length (shuffled_on k (shuffled_next s k)).queues ≡ length k.queues
drawn_many s k = by_chain (drawn k.z (acting s))
  where
    by_move : (c : ℕ) (q : Option ℕ) → length (moved_to k.queues c q) ≡ length k.queues
    by_move c None = refl
    by_move c (Some q) = length-set k.queues c q

    by_action : (c : ℕ) (q : Option ℕ) (o : Option Action) → length (shuffled_on k (option_map (λ (a : Action). let now : Shuffling = record { z = behind (behind k.z); queues = moved_to k.queues c q } in (a, now)) o)).queues ≡ length k.queues
    by_action c q None = refl
    by_action c q (Some a) = by_move c q

    by_chain : (o : Option ℕ) → length (shuffled_on k (of_chain s k o)).queues ≡ length k.queues
    by_chain None = refl
    by_chain (Some c) = by_action c (queue_from s k.queues c) (drawn (behind k.z) (candidates s c (queue_from s k.queues c)))
