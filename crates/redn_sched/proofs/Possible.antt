-- The next action by the fair rules is possible, and useful.
use Rattle.std.proofs.Common.{◌≡◌, ℕ, suc, ◌+◌, Bool, true, false, cond, List, [], ◌∷◌, Option, Some, None, length, refl, subst, arith}
use Rattle.std.specs.Prelude.{slice_get, is_none, IfSome}
use Rattle.std.specs.List.{All, find, range_with_len}
use Rattle.std.specs.Option.{option_map}
use Rattle.std.specs.FinMap.{get}
use Rattle.std.proofs.lemmas.Bool.{and_parts}
use Rattle.std.proofs.lemmas.List.Elements.{All-nil, All-cons, All-append}
use Rattle.redn_words.specs.declared.types.Action.{Action}
use Rattle.redn_words.specs.declared.types.Action.TheVariants.{Deliver, Fetch, Start, Land, Complete}
use Rattle.redn_words.specs.States.{Queue, State}
use Rattle.redn_words.specs.Steps.{possible, is_useful, with_queue, fetch_possible}
use Rattle.redn_queue.specs.Telling.{is_unheld, indexes_ahead, least_unheld, oldest_unlanded}
use Rattle.redn_adapter.proofs.Quiet.{find_passes}
use Rattle.redn_sched.specs.MadeSchedules.{Cursors, cyclically, in_turn, land_of, fetch_of, queue_action, chain_acts, active_queue, with_action, by_queue, by_chain, fair_next}

-- what is found is one of the list
find_in : {X : Type 0} (p : X → Bool) (P : X → Type 0) (xs : List X) (x : X) → find p xs ≡ Some x → All P xs → P x
find_in p P [] x e all = absurd (cc)
find_in p P (y ∷ xs) x e all =
    elim (p y) as (λ b. cond b (Some y) (find p xs) ≡ Some x → P x) [
      | true ↦ λ h. let same : y ≡ x = cc in subst P same (all 0 y (omega arith))
      | false ↦ λ h. find_in p P xs x h (λ k d l. all (suc k) d (omega (arith, l)))
    ] e

abbrev IsNext : State → Action → Type 0
IsNext s a = (possible s a ≡ true) × (is_useful s a ≡ true)

module _ (s : State) where
  abbrev Useful : Action → Type 0
  Useful a = is_useful s a ≡ true

  module _ (q : ℕ) (u : Queue) (there : slice_get s.queues q ≡ Some u) where
    lands_useful : (o : Option ℕ) → All Useful (land_of q o)
    lands_useful None = All-nil Useful
    lands_useful (Some i) = All-cons Useful (Land q i) [] refl (All-nil Useful)

    fetches_useful : (o : Option ℕ) → least_unheld u ≡ o → All Useful (fetch_of q o)
    fetches_useful None e = All-nil Useful
    fetches_useful (Some i) e =
        let unheld = (and_parts (fetch_possible i u) (is_none (get u.held i)) (find_passes (is_unheld u) (indexes_ahead u) i e)).1 in
        All-cons Useful (Fetch q i) [] (rw there unheld) (All-nil Useful)

    all_useful : All Useful (in_turn q u)
    all_useful =
        All-cons Useful (Complete q) _ refl
        (All-append Useful (land_of q (oldest_unlanded u)) (Start q ∷ fetch_of q (least_unheld u)) (lands_useful (oldest_unlanded u)) (All-cons Useful (Start q) _ refl (fetches_useful (least_unheld u) refl)))

  queue_next : (q : ℕ) (a : Action) (o : Option Queue) → slice_get s.queues q ≡ o → with_queue o None (λ queue. find (possible s) (in_turn q queue)) ≡ Some a → IsNext s a
  queue_next q a None there e = absurd (cc)
  queue_next q a (Some u) there e = (find_passes (possible s) (in_turn q u) a e, find_in (possible s) Useful (in_turn q u) a e (all_useful q u there))

  abbrev OfNext : Option (Action × Cursors) → Type 0
  OfNext o = IfSome (option_map (λ (p : Action × Cursors). p.0) o) (IsNext s)

  with_action_next : (k : Cursors) (q : ℕ) (o : Option Action) → queue_action s q ≡ o → OfNext (with_action k o)
  with_action_next k q None e = tt
  with_action_next k q (Some a) e = queue_next q a (slice_get s.queues q) refl e

  by_queue_next : (k : Cursors) (c : ℕ) (o : Option ℕ) → OfNext (by_queue s k c o)
  by_queue_next k c None = tt
  by_queue_next k c (Some q) = with_action_next _ q (queue_action s q) refl

  by_chain_next : (k : Cursors) (o : Option ℕ) → OfNext (by_chain s k o)
  by_chain_next k None = tt
  by_chain_next k (Some c) =
      let next = record k { chain = c + 1 } in
      elim (possible s (Deliver c)) as (λ b. possible s (Deliver c) ≡ b → OfNext (cond b (Some (Deliver c, next)) (by_queue s next c (active_queue s next c)))) [
        | true ↦ λ e. (e, refl)
        | false ↦ λ e. by_queue_next next c (active_queue s next c)
      ] refl

  next_is : (k : Cursors) → OfNext (fair_next s k)
  next_is k = by_chain_next k (find (chain_acts s) (cyclically k.chain (range_with_len 0 (length s.chains))))

  pub next_possible : (k : Cursors) → IfSome (option_map (λ (p : Action × Cursors). p.0) (fair_next s k)) (λ a. possible s a ≡ true)
  next_possible k = weaker (option_map (λ (p : Action × Cursors). p.0) (fair_next s k)) (next_is k)
    where
      weaker : (o : Option Action) → IfSome o (IsNext s) → IfSome o (λ a. possible s a ≡ true)
      weaker None h = tt
      weaker (Some a) h = h.0

  pub next_useful : (k : Cursors) → IfSome (option_map (λ (p : Action × Cursors). p.0) (fair_next s k)) (λ a. is_useful s a ≡ true)
  next_useful k = weaker (option_map (λ (p : Action × Cursors). p.0) (fair_next s k)) (next_is k)
    where
      weaker : (o : Option Action) → IfSome o (IsNext s) → IfSome o (λ a. is_useful s a ≡ true)
      weaker None h = tt
      weaker (Some a) h = h.1
