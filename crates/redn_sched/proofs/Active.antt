-- Where the fair rules find an action: where a useful one is possible.
use Rattle.std.proofs.Common.{◌≡◌, ℕ, Bool, true, false, cond, not, ◌&&◌, ◌||◌, ◌==◌, List, [], ◌∷◌, Option, Some, None, refl, sym, ap, ◌∙◌}
use Rattle.std.specs.Prelude.{slice_get, is_some}
use Rattle.std.specs.List.{find, list_any}
use Rattle.std.specs.Option.{option_map}
use Rattle.std.proofs.lemmas.Bool.{false≢true, and_parts, and_from, eq-eqb}
use Rattle.std.proofs.lemmas.List.Folds.{list_any-append}
use Rattle.redn_words.specs.declared.types.Flight.{Flight}
use Rattle.redn_words.specs.declared.types.Action.TheVariants.{Fetch, Start, Land, Complete}
use Rattle.redn_words.specs.States.{Queue, State}
use Rattle.redn_words.specs.Steps.{possible, with_queue, fetch_possible, start_possible, complete_possible, flying, is_landed}
use Rattle.redn_queue.specs.Telling.{is_unheld, is_unlanded, indexes_ahead, least_unheld, oldest_unlanded}
use Rattle.redn_adapter.specs.Quiet.{is_active}
use Rattle.redn_adapter.proofs.Quiet.{find_passes}
use Rattle.redn_sched.specs.MadeSchedules.{in_turn, land_of, fetch_of, queue_action, queue_acts}
use Rattle.redn_sched.proofs.Turning.{some_found}

pub some_is : {X : Type 0} (o : Option X) → is_some o ≡ true → (x : X) × (o ≡ Some x)
some_is None e = absurd (false≢true e)
some_is (Some x) e = (x, refl)

and_false : (a : Bool) → (a && false) ≡ false
and_false true = refl
and_false false = refl

or_false : (a : Bool) → (a || false) ≡ a
or_false true = refl
or_false false = refl

-- four tests, grouped otherwise
four : (a b c d : Bool) → (a || (b || (c || d))) ≡ (((a || b) || c) || d)
four true b c d = refl
four false true c d = refl
four false false c d = refl

module _ {X : Type 0} (p : X → Bool) where
  -- what another test finds is there
  any_found : (q : X → Bool) (xs : List X) (x : X) → find q xs ≡ Some x → p x ≡ true → list_any p xs ≡ true
  any_found q [] x e h = absurd (cc)
  any_found q (y ∷ xs) x e h =
      elim (q y) as (λ b. cond b (Some y) (find q xs) ≡ Some x → (p y || list_any p xs) ≡ true) [
        | true ↦ λ t. let same : y ≡ x = cc in rw (ap p same ∙ h) refl
        | false ↦ λ t. or_right (p y) (list_any p xs) (any_found q xs x t h)
      ] e
    where
      or_right : (a b : Bool) → b ≡ true → (a || b) ≡ true
      or_right true b e = refl
      or_right false b e = e

-- a queue's action is found where it is active
module _ (s : State) (q : ℕ) (u : Queue) (there : slice_get s.queues q ≡ Some u) where
  unlanded_flies : (f : Flight) → find is_unlanded u.flights ≡ Some f → is_some (flying u f.index) ≡ true
  unlanded_flies f e =
      let test = λ (g : Flight). g.index == f.index && not g.landed in
      let here : test f ≡ true = and_from (f.index == f.index) (not f.landed) (eq-eqb f.index f.index refl) (find_passes is_unlanded u.flights f e) in
      some_found test u.flights ∙ any_found test is_unlanded u.flights f e here

  lands : list_any (possible s) (land_of q (oldest_unlanded u)) ≡ (not u.stopped && is_some (oldest_unlanded u))
  unfolding possible
  lands = by_oldest (find is_unlanded u.flights) refl
    where
      by_oldest : (o : Option Flight) → find is_unlanded u.flights ≡ o → list_any (possible s) (land_of q (option_map (λ (f : Flight). f.index) o)) ≡ (not u.stopped && is_some (option_map (λ (f : Flight). f.index) o))
      by_oldest None e = sym (and_false (not u.stopped))
      by_oldest (Some f) e = rw (there, unlanded_flies f e) (or_false (not u.stopped && true))

  fetches : list_any (possible s) (fetch_of q (least_unheld u)) ≡ is_some (least_unheld u)
  unfolding possible
  fetches = by_least (least_unheld u) refl
    where
      by_least : (o : Option ℕ) → least_unheld u ≡ o → list_any (possible s) (fetch_of q o) ≡ is_some o
      by_least None e = refl
      by_least (Some i) e = rw (there, (and_parts (fetch_possible i u) _ (find_passes (is_unheld u) (indexes_ahead u) i e)).0) refl

  asks : list_any (possible s) (in_turn q u) ≡ is_active s u
  unfolding possible
  asks =
      ap (λ (b : Bool). possible s (Complete q) || b) (list_any-append (possible s) (land_of q (oldest_unlanded u)) (Start q ∷ fetch_of q (least_unheld u)))
      ∙ rw (there, lands, fetches) (four (complete_possible u) (not u.stopped && is_some (oldest_unlanded u)) (start_possible s u) (is_some (least_unheld u)))

  pub acts_here : queue_acts s q ≡ is_active s u
  acts_here =
      ap (λ (o : Option Queue). is_some (with_queue o None (λ (v : Queue). find (possible s) (in_turn q v)))) there
      ∙ some_found (possible s) (in_turn q u)
      ∙ asks

  can_land : (i : ℕ) → u.stopped ≡ false → oldest_unlanded u ≡ Some i → possible s (Land q i) ≡ true
  can_land i runs e = sym (or_false (possible s (Land q i))) ∙ rw e at lands ∙ ap (λ (b : Bool). not b && true) runs

  can_fetch : (i : ℕ) → least_unheld u ≡ Some i → possible s (Fetch q i) ≡ true
  can_fetch i e = sym (or_false (possible s (Fetch q i))) ∙ rw e at fetches

  module _ (runs : u.stopped ≡ false) (flies : is_landed (slice_get u.flights 0) ≡ false) where
    no_completion : possible s (Complete q) ≡ false
    unfolding possible
    no_completion = rw (there, runs, flies) refl

    -- what runs and has an unlanded request lands the oldest one, unless the oldest of all completes
    pub lands_next : (i : ℕ) → oldest_unlanded u ≡ Some i → queue_action s q ≡ Some (Land q i)
    lands_next i e = rw there (rw (no_completion, e, can_land i runs e) refl)

    -- and where none flies and head can't start, the least unheld index is fetched
    pub fetches_next : (i : ℕ) → oldest_unlanded u ≡ None → possible s (Start q) ≡ false → least_unheld u ≡ Some i → queue_action s q ≡ Some (Fetch q i)
    fetches_next i none rests e = rw there (rw (no_completion, none, rests, e, can_fetch i e) refl)

-- what the rules ask of a queue is what the adapter does
pub acts_is_active : (s : State) (q : ℕ) → queue_acts s q ≡ with_queue (slice_get s.queues q) false (is_active s)
acts_is_active s q = by_place (slice_get s.queues q) refl
  where
    by_place : (o : Option Queue) → slice_get s.queues q ≡ o → queue_acts s q ≡ with_queue o false (is_active s)
    by_place None e = rw e refl
    by_place (Some u) e = acts_here s q u e
