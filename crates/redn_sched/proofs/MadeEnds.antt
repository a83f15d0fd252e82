-- Runs that are made by rules end where nothing useful is left, or with as many actions as were asked for.
use Rattle.std.proofs.Common.{◌≡◌, ℕ, zero, suc, ◌+◌, ◌<◌, List, [], ◌∷◌, Option, Some, None, length, get_or, refl, sym, ap, subst, ◌∙◌, arith}
use Rattle.std.specs.Prelude.{slice_get, IfSome, true}
use Rattle.std.specs.List.{All}
use Rattle.std.specs.Option.{option_map}
use Rattle.std.proofs.lemmas.Option.{slice_get_within, get_or_from_slice_get, slice_get-get_or}
use Rattle.redn_words.specs.declared.types.Action.{Action}
use Rattle.redn_words.specs.declared.types.QueueRow.{QueueRow}
use Rattle.redn_words.specs.States.{Queue, State}
use Rattle.redn_words.specs.Steps.{possible, after}
use Rattle.redn_words.specs.Laws.{row_of, row_at}
use Rattle.redn_words.specs.Runs.{AllPossible, reached}
use Rattle.redn_words.proofs.Others.{rows_stay}
use Rattle.redn_adapter.specs.Quiet.{IsQuiet}
use Rattle.redn_sched.specs.MadeSchedules.{Cursors, fair_next, fair_from, fair, first_cursors}
use Rattle.redn_sched.specs.Shuffles.{Shuffling, shuffled_next, shuffled_from, shuffled, first_shuffling}
use Rattle.redn_sched.specs.Laws.{HaveOwners, EndsWhole}
use Rattle.redn_sched.proofs.Rows.{chains_stay}
use Rattle.redn_sched.proofs.Possible.{next_possible}
use Rattle.redn_sched.proofs.NoAction.{none_acts}
use Rattle.redn_sched.proofs.Drawing.{shuffled_possible, none_drawn}

row_from : (o : Option Queue) (row : QueueRow) → row_of o ≡ Some row → (u : Queue) × (o ≡ Some u) × (u.row ≡ row)
row_from None row e = absurd (cc)
row_from (Some u) row e = (u, refl, let same : u.row ≡ row = cc in same)

-- each queue has its chain still
owners_stay : (s : State) (a : Action) → HaveOwners s → HaveOwners (after s a)
owners_stay s a owners k d l =
    let u : Queue = get_or (after s a).queues k d in
    let there : slice_get (after s a).queues k ≡ Some u = slice_get-get_or (after s a).queues k d l in
    let old = row_from (slice_get s.queues k) u.row (sym (rows_stay s a k) ∙ ap row_of there) in
    let was : old.0.row.domain < length s.chains = subst (λ (v : Queue). v.row.domain < length s.chains) (get_or_from_slice_get s.queues k old.0 d old.1) (owners k d (slice_get_within s.queues k old.0 old.1)) in
    subst (λ (r : QueueRow). r.domain < length (after s a).chains) old.2 (subst (λ (n : ℕ). old.0.row.domain < n) (sym (chains_stay s a)) was)

-- a maker of actions
module _ {K : Type 0} (next : State → K → Option (Action × K)) (from : ℕ → State → K → List Action) (none_at : (s : State) (k : K) → from 0 s k ≡ []) (ended : (n : ℕ) (s : State) (k : K) → next s k ≡ None → from (suc n) s k ≡ []) (goes_on : (n : ℕ) (s : State) (k : K) (p : Action × K) → next s k ≡ Some p → from (suc n) s k ≡ p.0 ∷ from n (after s p.0) p.1) (can : (s : State) (k : K) (p : Action × K) → next s k ≡ Some p → possible s p.0 ≡ true) (quiet : (s : State) (k : K) → HaveOwners s → next s k ≡ None → IsQuiet s) where
  one_more : (n : ℕ) (s : State) (k : K) → HaveOwners s → ((t : State) (l : K) → HaveOwners t → EndsWhole n t (from n t l)) → (o : Option (Action × K)) → next s k ≡ o → EndsWhole (suc n) s (from (suc n) s k)
  one_more n s k owners more None e = subst (EndsWhole (suc n) s) (sym (ended n s k e)) (record { can = tt; quiet = λ l. quiet s k owners e })
  one_more n s k owners more (Some p) e =
      let later = more (after s p.0) p.1 (owners_stay s p.0 owners) in
      subst (EndsWhole (suc n) s) (sym (goes_on n s k p e)) (record { can = (can s k p e, later.can); quiet = λ l. later.quiet (omega (arith, l)) })

  ends : (n : ℕ) (s : State) (k : K) → HaveOwners s → EndsWhole n s (from n s k)
  ends zero s k owners = subst (EndsWhole 0 s) (sym (none_at s k)) (record { can = tt; quiet = λ l. absurd (omega (arith, l)) })
  ends (suc n) s k owners = one_more n s k owners (λ t l its. ends n t l its) (next s k) refl

module _ (s : State) where
  fair_can : (k : Cursors) (p : Action × Cursors) → fair_next s k ≡ Some p → possible s p.0 ≡ true
  fair_can k p e = subst (λ (o : Option (Action × Cursors)). IfSome (option_map (λ (p : Action × Cursors). p.0) o) (λ a. possible s a ≡ true)) e (next_possible s k)

  fair_quiet : (k : Cursors) → HaveOwners s → fair_next s k ≡ None → IsQuiet s
  fair_quiet k owners e = (none_acts s k owners).0 (ap (option_map (λ (p : Action × Cursors). p.0)) e)

  drawn_can : (k : Shuffling) (p : Action × Shuffling) → shuffled_next s k ≡ Some p → possible s p.0 ≡ true
  drawn_can k p e = subst (λ (o : Option (Action × Shuffling)). IfSome (option_map (λ (p : Action × Shuffling). p.0) o) (λ a. possible s a ≡ true)) e (shuffled_possible s k)

  drawn_quiet : (k : Shuffling) → HaveOwners s → shuffled_next s k ≡ None → IsQuiet s
  drawn_quiet k owners e = (none_drawn s k owners).0 (ap (option_map (λ (p : Action × Shuffling). p.0)) e)

pub fair_ends : (n : ℕ) (s : State) → HaveOwners s → EndsWhole n s (fair n s)
unfolding fair
fair_ends n s owners = ends fair_next fair_from (λ s k. refl) (λ n s k e. rw e refl) (λ n s k p e. rw e refl) fair_can fair_quiet n s (first_cursors s) owners

pub shuffled_ends : (n z : ℕ) (s : State) → HaveOwners s → EndsWhole n s (shuffled n z s)
unfolding shuffled
shuffled_ends n z s owners = ends shuffled_next shuffled_from (λ s k. refl) (λ n s k e. rw e refl) (λ n s k p e. rw e refl) drawn_can drawn_quiet n s (first_shuffling s z) owners

pub both_end : (n z : ℕ) (s : State) → HaveOwners s → EndsWhole n s (fair n s) × EndsWhole n s (shuffled n z s)
both_end n z s owners = (fair_ends n s owners, shuffled_ends n z s owners)
