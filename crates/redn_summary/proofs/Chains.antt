-- Each action by the fair rules is one of a chain that is there.
use Rattle.std.proofs.Common.{arith, ◌≡◌, ℕ, zero, suc, ◌+◌, ◌<◌, Bool, true, false, cond, List, [], ◌∷◌, Option, Some, None, length, refl, ap, subst, ◌∙◌}
use Rattle.std.specs.Prelude.{slice_get, slice_index}
use Rattle.std.specs.List.{All, find, range_with_len}
use Rattle.std.proofs.lemmas.Bool.{eqb-true}
use Rattle.std.proofs.lemmas.List.Elements.{All-nil, All-cons, All-append, All-filter, filter_passes}
use Rattle.std.proofs.lemmas.List.FromFn.{length-range_with_len, get_or-range_with_len}
use Rattle.redn_words.specs.declared.types.Action.{Action}
use Rattle.redn_words.specs.declared.types.Action.TheVariants.{Deliver, Fetch, Start, Land, Complete}
use Rattle.redn_words.specs.States.{Queue, State}
use Rattle.redn_words.specs.Steps.{possible, after, with_queue, chain_of, domain_of}
use Rattle.redn_queue.specs.Telling.{least_unheld, oldest_unlanded}
use Rattle.redn_sched.specs.MadeSchedules.{Cursors, cyclically, is_of, queues_of, in_turn, land_of, fetch_of, queue_action, queue_acts, chain_acts, active_queue, with_action, by_queue, by_chain, fair_next, followed, fair_from}
use Rattle.redn_sched.proofs.Rows.{chains_stay}

-- what is found is one of the list
found_in : {X : Type 0} (p : X → Bool) (P : X → Type 0) (xs : List X) (x : X) → find p xs ≡ Some x → All P xs → P x
found_in p P [] x e all = absurd (cc)
found_in p P (y ∷ xs) x e all =
    elim (p y) as (λ b. cond b (Some y) (find p xs) ≡ Some x → P x) [
      | true ↦ λ h. let same : y ≡ x = cc in subst P same (all 0 y (omega arith))
      | false ↦ λ h. found_in p P xs x h (λ k d l. all (suc k) d (omega (arith, l)))
    ] e

all_cyclically : (P : ℕ → Type 0) (cursor : ℕ) (xs : List ℕ) → All P xs → All P (cyclically cursor xs)
all_cyclically P cursor xs all = All-append P _ _ (All-filter _ P xs all) (All-filter _ P xs all)

below_end : (n : ℕ) → All (λ c. c < n) (range_with_len 0 n)
below_end n k d l =
    let low : k < n = omega (arith, l, length-range_with_len 0 n) in
    omega (arith, low, get_or-range_with_len 0 n k d low)

-- an action of a chain below n
pub record IsBelow (n : ℕ) (s : State) (a : Action) : Type 0 where
  pub chain : ℕ
  pub low : chain < n
  pub its : chain_of s a ≡ Some chain

abbrev pub AllBelow : ℕ → State → List Action → Type 0
AllBelow n s [] = Unit {0}
AllBelow n s (a ∷ rest) = IsBelow n s a × AllBelow n (after s a) rest

module _ (s : State) where
  abbrev OnQueue : ℕ → Action → Type 0
  OnQueue q a = chain_of s a ≡ domain_of (slice_get s.queues q)

  lands_there : (q : ℕ) (o : Option ℕ) → All (OnQueue q) (land_of q o)
  lands_there q None = All-nil (OnQueue q)
  lands_there q (Some i) = All-cons (OnQueue q) (Land q i) [] refl (All-nil (OnQueue q))

  fetches_there : (q : ℕ) (o : Option ℕ) → All (OnQueue q) (fetch_of q o)
  fetches_there q None = All-nil (OnQueue q)
  fetches_there q (Some i) = All-cons (OnQueue q) (Fetch q i) [] refl (All-nil (OnQueue q))

  all_there : (q : ℕ) (u : Queue) → All (OnQueue q) (in_turn q u)
  all_there q u =
      All-cons (OnQueue q) (Complete q) _ refl
      (All-append (OnQueue q) (land_of q (oldest_unlanded u)) (Start q ∷ fetch_of q (least_unheld u)) (lands_there q (oldest_unlanded u)) (All-cons (OnQueue q) (Start q) _ refl (fetches_there q (least_unheld u))))

  queue_there : (q : ℕ) (a : Action) (o : Option Queue) → with_queue o None (λ queue. find (possible s) (in_turn q queue)) ≡ Some a → OnQueue q a
  queue_there q a None e = absurd (cc)
  queue_there q a (Some u) e = found_in (possible s) (OnQueue q) (in_turn q u) a e (all_there q u)

  domain_is : (c : ℕ) (o : Option Queue) → is_of c o ≡ true → domain_of o ≡ Some c
  domain_is c None e = absurd (cc)
  domain_is c (Some u) e = ap Some (eqb-true u.row.domain c e)

  module _ (n : ℕ) where
    abbrev OfNext : Option (Action × Cursors) → Type 0
    OfNext o = (p : Action × Cursors) → o ≡ Some p → IsBelow n s p.0

    action_below : (k : Cursors) (c q : ℕ) (o : Option Action) → c < n → is_of c (slice_get s.queues q) ≡ true → queue_action s q ≡ o → OfNext (with_action k o)
    action_below k c q None low its e p f = absurd (cc)
    action_below k c q (Some a) low its e p f =
        let same : a ≡ p.0 = cc in
        record { chain = c; low = low; its = subst (OnQueue q) same (queue_there q a (slice_get s.queues q) e) ∙ domain_is c (slice_get s.queues q) its }

    queue_below : (k : Cursors) (c : ℕ) (o : Option ℕ) → c < n → ((q : ℕ) → o ≡ Some q → is_of c (slice_get s.queues q) ≡ true) → OfNext (by_queue s k c o)
    queue_below k c None low its p f = absurd (cc)
    queue_below k c (Some q) low its p f = action_below _ c q (queue_action s q) low (its q refl) refl p f

    its_queue : (k : Cursors) (c q : ℕ) → active_queue s k c ≡ Some q → is_of c (slice_get s.queues q) ≡ true
    its_queue k c q e =
        found_in (queue_acts s) (λ q. is_of c (slice_get s.queues q) ≡ true) (cyclically (slice_index k.queues c) (queues_of s c)) q e
        (all_cyclically (λ q. is_of c (slice_get s.queues q) ≡ true) (slice_index k.queues c) (queues_of s c) (filter_passes (λ q. is_of c (slice_get s.queues q)) (range_with_len 0 (length s.queues))))

    chain_below : (k : Cursors) (o : Option ℕ) → ((c : ℕ) → o ≡ Some c → c < n) → OfNext (by_chain s k o)
    chain_below k None low p f = absurd (cc)
    chain_below k (Some c) low p f =
        let next = record k { chain = c + 1 } in
        elim (possible s (Deliver c)) as (λ b. OfNext (cond b (Some (Deliver c, next)) (by_queue s next c (active_queue s k c)))) [
          | true ↦ λ p f. (let same : Deliver c ≡ p.0 = cc in subst (IsBelow n s) same (record { chain = c; low = low c refl; its = refl }))
          | false ↦ queue_below next c (active_queue s k c) (low c refl) (λ q e. its_queue k c q e)
        ] p f

    next_below : (k : Cursors) → length s.chains ≡ n → OfNext (fair_next s k)
    next_below k many =
        chain_below k (find (chain_acts s) (cyclically k.chain (range_with_len 0 (length s.chains))))
        (λ c e. subst (λ (m : ℕ). c < m) many (found_in (chain_acts s) (λ c. c < length s.chains) (cyclically k.chain (range_with_len 0 (length s.chains))) c e (all_cyclically (λ c. c < length s.chains) k.chain (range_with_len 0 (length s.chains)) (below_end (length s.chains)))))

-- and so are all of them
pub fair_below : (n m : ℕ) (s : State) (k : Cursors) → length s.chains ≡ n → AllBelow n s (fair_from m s k)
fair_below n zero s k many = tt
fair_below n (suc m) s k many = by_next (fair_next s k) (next_below s n k many) (λ p. fair_below n m (after s p.0) p.1 (chains_stay s p.0 ∙ many))
  where
    by_next : (o : Option (Action × Cursors)) → OfNext s n o → ((p : Action × Cursors) → AllBelow n (after s p.0) (fair_from m (after s p.0) p.1)) → AllBelow n s (followed o (λ a next. a ∷ fair_from m (after s a) next))
    by_next None h rest = tt
    by_next (Some p) h rest = (h p refl, rest p)
