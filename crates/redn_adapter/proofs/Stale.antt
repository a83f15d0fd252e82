-- A start shows that it is stale exactly where it is.
use Rattle.std.proofs.Common.{◌≡◌, ℕ, Bool, true, false, if◌then◌else◌, List, Option, Some, None, refl, sym, ap, ◌∙◌}
use Rattle.std.proofs.lemmas.Bool.{false≢true}
use Rattle.std.specs.Prelude.{slice_get}
use Rattle.std.specs.FinMap as finite
use Rattle.redn_words.specs.declared.types.Obs.{Obs}
use Rattle.redn_words.specs.declared.types.Obs.TheVariants as shows
use Rattle.redn_words.specs.declared.types.Action.TheVariants.{Start}
use Rattle.redn_words.specs.Requests.{decoded}
use Rattle.redn_words.specs.States.{State, Queue}
use Rattle.redn_words.specs.Steps.{is_old, is_undefined, refused_start, class_of, with_queue, held_is_old, start_shows, is_stale, shown}

module _ (s : State) (q : ℕ) where
  -- by what the copy was found to be
  abbrev told : ℕ → Bool → Bool → Bool → Obs
  told i old undefined refused = if old then shows.Stale q i else (if undefined then shows.Undefined q i else (if refused then shows.Refused q i else shows.Nothing))

  told_stale : (i j : ℕ) (old undefined refused : Bool) → told i old undefined refused ≡ shows.Stale q j → old ≡ true
  told_stale i j true undefined refused e = refl
  told_stale i j false true refused e = absurd (cc e)
  told_stale i j false false true e = absurd (cc e)
  told_stale i j false false false e = absurd (cc e)

  copy_shows : (queue : Queue) (copy : Option (List ℕ)) → held_is_old s queue copy ≡ true → (i : ℕ) × (start_shows s q queue copy ≡ shows.Stale q i)
  copy_shows queue None e = absurd (false≢true e)
  copy_shows queue (Some copy) e =
      (queue.head, ap (λ (old : Bool). told queue.head old (is_undefined (class_of (decoded copy))) (refused_start s queue.row.domain (decoded copy) (class_of (decoded copy)))) e)

  copy_stale : (queue : Queue) (copy : Option (List ℕ)) (i : ℕ) → start_shows s q queue copy ≡ shows.Stale q i → held_is_old s queue copy ≡ true
  copy_stale queue None i e = absurd (cc e)
  copy_stale queue (Some copy) i e =
      told_stale queue.head i (is_old s queue copy) (is_undefined (class_of (decoded copy))) (refused_start s queue.row.domain (decoded copy) (class_of (decoded copy))) e

  abbrev stale_in : Option Queue → Bool
  stale_in o = with_queue o false (λ queue. held_is_old s queue (finite.get queue.held queue.head))

  abbrev shown_in : Option Queue → Obs
  shown_in o = with_queue o shows.Nothing (λ queue. start_shows s q queue (finite.get queue.held queue.head))

  queue_shows : (o : Option Queue) → stale_in o ≡ true → (i : ℕ) × (shown_in o ≡ shows.Stale q i)
  queue_shows None e = absurd (false≢true e)
  queue_shows (Some queue) e = copy_shows queue (finite.get queue.held queue.head) e

  queue_stale : (o : Option Queue) (i : ℕ) → shown_in o ≡ shows.Stale q i → stale_in o ≡ true
  queue_stale None i e = absurd (cc e)
  queue_stale (Some queue) i e = copy_stale queue (finite.get queue.held queue.head) i e

  pub stale_shows : is_stale s (Start q) ≡ true → (i : ℕ) × (shown s (Start q) ≡ shows.Stale q i)
  unfolding shown
  stale_shows e = queue_shows (slice_get s.queues q) e

  pub shows_stale : (i : ℕ) → shown s (Start q) ≡ shows.Stale q i → is_stale s (Start q) ≡ true
  unfolding shown
  shows_stale i e = queue_stale (slice_get s.queues q) i e
