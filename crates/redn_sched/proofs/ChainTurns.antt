-- What a chain does next: whether it does something, and that the fair rules take it.
use Rattle.std.proofs.Common.{◌≡◌, ℕ, ◌+◌, true, false, cond, ◌||◌, List, Option, Some, None, length, refl, sym, ap, ◌∙◌}
use Rattle.std.specs.Prelude.{is_some, slice_index, slice_set}
use Rattle.std.specs.Option.{option_map}
use Rattle.std.specs.List.{find, list_any, range_with_len}
use Rattle.std.proofs.lemmas.List.{set-get_or}
use Rattle.redn_words.specs.declared.types.Action.{Action}
use Rattle.redn_words.specs.declared.types.Action.TheVariants.{Deliver}
use Rattle.redn_words.specs.States.{State}
use Rattle.redn_words.specs.Steps.{possible}
use Rattle.redn_adapter.proofs.Quiet.{find_passes}
use Rattle.redn_sched.specs.declared.turns.Turn.{Turn}
use Rattle.redn_sched.specs.MadeSchedules.{Cursors, cyclically, queues_of, queue_action, queue_acts, chain_acts, with_action, by_queue, fair_next}
use Rattle.redn_sched.specs.ChainTurns.{IsTurn, with_cursor, turn_at, chain_turn}
use Rattle.redn_sched.proofs.Turning.{some_acts}

abbrev pub cursor_of : Option Turn → Option ℕ
cursor_of o = option_map (λ (t : Turn). t.cursor) o

-- what a queue does is told by the queue
pub turn_is : (s : State) (o : Option Turn) → IsTurn s o → o ≡ turn_at s (cursor_of o)
turn_is s None is = refl
turn_is s (Some t) is = rw is refl

-- a queue that acts has a turn
module _ (s : State) (xs : List ℕ) where
  has_action : (q : ℕ) (a : Option Action) → is_some a ≡ true → cursor_of (option_map (with_cursor q) a) ≡ Some q
  has_action q None e = absurd (cc)
  has_action q (Some a) e = refl

  at_first : (o : Option ℕ) → find (queue_acts s) xs ≡ o → cursor_of (turn_at s o) ≡ o
  at_first None e = refl
  at_first (Some q) e = has_action q (queue_action s q) (find_passes (queue_acts s) xs q e)

  pub its_queue : cursor_of (turn_at s (find (queue_acts s) xs)) ≡ find (queue_acts s) xs
  its_queue = at_first (find (queue_acts s) xs) refl

some_cursor : (o : Option Turn) → is_some o ≡ is_some (cursor_of o)
some_cursor None = refl
some_cursor (Some t) = refl

-- a chain that may be taken does something, whatever its cursor
pub acts_next : (s : State) (c cursor : ℕ) → is_some (chain_turn s c cursor) ≡ chain_acts s c
acts_next s c cursor =
    let all = queues_of s c in
    let queues = cyclically cursor all in
    let acts : is_some (turn_at s (find (queue_acts s) queues)) ≡ list_any (queue_acts s) all = some_cursor (turn_at s (find (queue_acts s) queues)) ∙ ap is_some (its_queue s queues) ∙ some_acts (queue_acts s) cursor all in
    elim (possible s (Deliver c)) as (λ b. is_some (cond b (Some (with_cursor cursor (Deliver c))) (turn_at s (find (queue_acts s) queues))) ≡ (b || list_any (queue_acts s) all)) [ true ↦ refl | false ↦ acts ]

-- where the cursors stand when a chain was taken
abbrev pub turned : ℕ → Turn → Cursors → Cursors
turned c t k = record { chain = c + 1; queues = slice_set k.queues c t.cursor }

-- what the fair rules take of the chain
abbrev pub taken : Cursors → ℕ → Turn → Option (Action × Cursors)
taken k c t = Some (t.action, turned c t k)

-- it is what the chain does next
module _ (s : State) (k : Cursors) (c : ℕ) (t : Turn) where
  abbrev delivered : List ℕ → Option (Action × Cursors)
  delivered xs = Some (Deliver c, record { chain = c + 1; queues = xs })

  by_action : (q : ℕ) (o : Option Action) → option_map (with_cursor q) o ≡ Some t → with_action (record { chain = c + 1; queues = slice_set k.queues c q }) o ≡ taken k c t
  by_action q None e = absurd (cc)
  by_action q (Some a) e = let same : with_cursor q a ≡ t = cc in ap (taken k c) same

  by_turn : (o : Option ℕ) → turn_at s o ≡ Some t → by_queue s (record { chain = c + 1; queues = k.queues }) c o ≡ taken k c t
  by_turn None e = absurd (cc)
  by_turn (Some q) e = by_action q (queue_action s q) e

  pub a_turn : find (chain_acts s) (cyclically k.chain (range_with_len 0 (length s.chains))) ≡ Some c → chain_turn s c (slice_index k.queues c) ≡ Some t → fair_next s k ≡ taken k c t
  a_turn found is =
      let cursor = slice_index k.queues c in
      let queue = find (queue_acts s) (cyclically cursor (queues_of s c)) in
      rw found
      (elim (possible s (Deliver c)) as (λ b. cond b (Some (with_cursor cursor (Deliver c))) (turn_at s queue) ≡ Some t
      → cond b (delivered k.queues) (by_queue s (record { chain = c + 1; queues = k.queues }) c queue) ≡ taken k c t) [
        | true ↦ λ e.
            let same : with_cursor cursor (Deliver c) ≡ t = cc in
            ap delivered (sym (set-get_or k.queues c 0)) ∙ ap (taken k c) same
        | false ↦ λ e. by_turn queue e
      ] is)
