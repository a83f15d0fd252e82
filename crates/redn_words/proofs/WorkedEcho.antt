-- A chain of one argument that it replies, under two orders, computed action by action.
use Rattle.std.proofs.Common.{◌≡◌, ℕ, true, false, not, ◌&&◌, List, [], ◌∷◌, ◌++◌, refl, sym, ap, ◌∙◌, subst, replicate}
use Rattle.std.specs.Prelude.{Some, slice_get}
use Rattle.std.specs.FinMap.{get, gets, empty, insert, remove}
use Rattle.redn_words.specs.declared.types.Kind.TheVariants.{Vars, Control, Message}
use Rattle.redn_words.specs.declared.types.Obs.{Obs}
use Rattle.redn_words.specs.declared.types.Obs.TheVariants as shows
use Rattle.redn_words.specs.declared.types.Action.{Action}
use Rattle.redn_words.specs.declared.types.Action.TheVariants.{Deliver, Fetch, Start, Land, Complete}
use Rattle.redn_words.specs.Words.{number, spelled}
use Rattle.redn_words.specs.Requests.{decoded, encoded, opcode_named}
use Rattle.redn_words.specs.Access.{access}
use Rattle.redn_words.specs.Landings.{lands}
use Rattle.redn_words.specs.States.{State, Queue, Copies, start}
use Rattle.redn_words.specs.Steps.{possible, after, shown, may_start, started, counter_of, start_with, start_after, start_shows}
use Rattle.redn_words.specs.Runs.{AllPossible, all_shown, shown_then}

-- opcode, local and remote key, length, operands, flags
slot : ℕ → ℕ → ℕ → ℕ → ℕ → ℕ → ℕ → List ℕ
slot op lkey rkey len first second flags =
    encoded (record { op = op; id = 0; lkey = lkey; rkey = rkey; local = 0; remote = 0; length = len; first = first; second = second; flags = flags })

-- WAIT for the message, WRITE of the argument into its variable, WAIT, WRITE of the reply word, WAIT, SEND
memory : List ℕ
memory =
    slot 6 0 0 0 65536 1 0 ++ slot 1 3 1 8 0 0 1 ++ slot 6 0 0 0 0 1 0 ++ slot 1 1 2 8 0 0 1 ++ slot 6 0 0 0 0 2 0 ++ slot 5 2 0 8 0 0 0 ++ replicate 24 0

first : State
first =
    start
    (record { key = 1; domain = 0; kind = Vars; rights = 4; base = 384; len = 8 } ∷ record { key = 2; domain = 0; kind = Control; rights = 4; base = 392; len = 8 } ∷ record { key = 3; domain = 0; kind = Message; rights = 0; base = 400; len = 8 } ∷ [])
    (record { domain = 0; managed = false; base = 0; slots = 6; limit = 6 } ∷ [])
    (record { base = 400; len = 8 } ∷ []) memory (Some (spelled 8 42) ∷ [])

set_42 : Obs
set_42 = shows.Set 0 0 42

reply_42 : Obs
reply_42 = shows.Reply 0 1 (42 ∷ 0 ∷ 0 ∷ 0 ∷ 0 ∷ 0 ∷ 0 ∷ 0 ∷ [])

-- the only queue
queue_of : State → Queue
queue_of s = elim s.queues [
  | [] ↦ record { row = record { domain = 0; managed = false; base = 0; slots = 1; limit = 0 }; head = 0; limit = 0; held = empty; flights = []; counter = 0; stopped = false }
  | u ∷ rest ↦ u
]

-- the state after a start of this copy
begun : State → List ℕ → State
begun s copy = start_after s 0 (queue_of s) (Some copy)

-- one action: it is possible, shows this, and leaves that state
record Goes (s : State) (a : Action) (shows_this : Obs) (next : State) : Type 0 where
  can : possible s a ≡ true
  says : shown s a ≡ shows_this
  leaves : after s a ≡ next

-- the head of the only queue is this copy, and may start
record Ready (s : State) (copy : List ℕ) : Type 0 where
  queue : slice_get s.queues 0 ≡ Some (queue_of s)
  held : get (queue_of s).held (queue_of s).head ≡ Some copy
  can : (not (queue_of s).stopped && start_with s (queue_of s) (Some copy)) ≡ true

start_goes : (s : State) (copy : List ℕ) (o : Obs) → Ready s copy → start_shows s 0 (queue_of s) (Some copy) ≡ o → Goes s (Start 0) o (begun s copy)
unfolding possible shown after begun
start_goes s copy o r e =
    let queue = r.queue in
    let held = r.held in
    record { can = rw (queue, held) r.can; says = rw (queue, held) e; leaves = rw (queue, held) refl }

-- what a list of actions shows and whether each is possible, one by one
record Shows (s : State) (acts : List Action) (shown_list : List Obs) : Type 0 where
  can : AllPossible s acts
  says : all_shown s acts ≡ shown_list

ends : (s : State) → Shows s [] []
ends s = record { can = tt; says = refl }

first_then : (s : State) (a : Action) (o : Obs) (next : State) (rest : List Action) (os : List Obs) → Goes s a o next → Shows next rest os → Shows s (a ∷ rest) (shown_then o os)
first_then s a o next rest os g r =
    record {
      can = (g.can, subst (λ x. AllPossible x rest) (sym g.leaves) r.can);
      says = ap (λ x. shown_then x (all_shown (after s a) rest)) g.says ∙ ap (λ x. shown_then o (all_shown x rest)) g.leaves ∙ ap (shown_then o) r.says;
    }

-- six copies are held, and the first ones have left
six : List ℕ → List ℕ → List ℕ → List ℕ → List ℕ → List ℕ → Copies
six a b c d e f = insert (insert (insert (insert (insert (insert empty 0 a) 1 b) 2 c) 3 d) 4 e) 5 f

six_at_0 : (a b c d e f : List ℕ) → get (six a b c d e f) 0 ≡ Some a
unfolding six
six_at_0 a b c d e f = simp gets refl

six_at_1 : (a b c d e f : List ℕ) → get (remove (six a b c d e f) 0) 1 ≡ Some b
unfolding six
six_at_1 a b c d e f = simp gets refl

six_at_2 : (a b c d e f : List ℕ) → get (remove (remove (six a b c d e f) 0) 1) 2 ≡ Some c
unfolding six
six_at_2 a b c d e f = simp gets refl

six_at_3 : (a b c d e f : List ℕ) → get (remove (remove (remove (six a b c d e f) 0) 1) 2) 3 ≡ Some d
unfolding six
six_at_3 a b c d e f = simp gets refl

six_at_4 : (a b c d e f : List ℕ) → get (remove (remove (remove (remove (six a b c d e f) 0) 1) 2) 3) 4 ≡ Some e
unfolding six
six_at_4 a b c d e f = simp gets refl

six_at_5 : (a b c d e f : List ℕ) → get (remove (remove (remove (remove (remove (six a b c d e f) 0) 1) 2) 3) 4) 5 ≡ Some f
unfolding six
six_at_5 a b c d e f = simp gets refl

-- each request is fetched right before it starts
in_order_1 : State
in_order_1 = after first (Deliver 0)

in_order_goes_1 : Goes first (Deliver 0) shows.Nothing in_order_1
unfolding slot memory first set_42 reply_42 queue_of begun number spelled decoded encoded opcode_named access lands start possible after shown may_start started counter_of in_order_1
in_order_goes_1 = record { can = refl; says = refl; leaves = refl }

in_order_2 : State
in_order_2 = after in_order_1 (Fetch 0 0)

in_order_goes_2 : Goes in_order_1 (Fetch 0 0) shows.Nothing in_order_2
unfolding slot memory first set_42 reply_42 queue_of begun number spelled decoded encoded opcode_named access lands start possible after shown may_start started counter_of in_order_1 in_order_2
in_order_goes_2 = record { can = refl; says = refl; leaves = refl }

in_order_3 : State
in_order_3 = begun in_order_2 (slot 6 0 0 0 65536 1 0)

in_order_goes_3 : Goes in_order_2 (Start 0) shows.Nothing in_order_3
unfolding slot memory first set_42 reply_42 queue_of begun number spelled decoded encoded opcode_named access lands start possible after shown may_start started counter_of in_order_1 in_order_2 in_order_3
in_order_goes_3 = start_goes in_order_2 (slot 6 0 0 0 65536 1 0) shows.Nothing (record { queue = refl; held = simp gets refl; can = refl }) refl

in_order_4 : State
in_order_4 = after in_order_3 (Fetch 0 1)

in_order_goes_4 : Goes in_order_3 (Fetch 0 1) shows.Nothing in_order_4
unfolding slot memory first set_42 reply_42 queue_of begun number spelled decoded encoded opcode_named access lands start possible after shown may_start started counter_of in_order_1 in_order_2 in_order_3 in_order_4
in_order_goes_4 = record { can = refl; says = refl; leaves = refl }

in_order_5 : State
in_order_5 = begun in_order_4 (slot 1 3 1 8 0 0 1)

in_order_goes_5 : Goes in_order_4 (Start 0) shows.Nothing in_order_5
unfolding slot memory first set_42 reply_42 queue_of begun number spelled decoded encoded opcode_named access lands start possible after shown may_start started counter_of in_order_1 in_order_2 in_order_3 in_order_4 in_order_5
in_order_goes_5 = start_goes in_order_4 (slot 1 3 1 8 0 0 1) shows.Nothing (record { queue = refl; held = simp gets refl; can = refl }) refl

in_order_6 : State
in_order_6 = after in_order_5 (Land 0 1)

in_order_goes_6 : Goes in_order_5 (Land 0 1) set_42 in_order_6
unfolding slot memory first set_42 reply_42 queue_of begun number spelled decoded encoded opcode_named access lands start possible after shown may_start started counter_of in_order_1 in_order_2 in_order_3 in_order_4 in_order_5 in_order_6
in_order_goes_6 = record { can = refl; says = refl; leaves = refl }

in_order_7 : State
in_order_7 = after in_order_6 (Complete 0)

in_order_goes_7 : Goes in_order_6 (Complete 0) shows.Nothing in_order_7
unfolding slot memory first set_42 reply_42 queue_of begun number spelled decoded encoded opcode_named access lands start possible after shown may_start started counter_of in_order_1 in_order_2 in_order_3 in_order_4 in_order_5 in_order_6 in_order_7
in_order_goes_7 = record { can = refl; says = refl; leaves = refl }

in_order_8 : State
in_order_8 = after in_order_7 (Fetch 0 2)

in_order_goes_8 : Goes in_order_7 (Fetch 0 2) shows.Nothing in_order_8
unfolding slot memory first set_42 reply_42 queue_of begun number spelled decoded encoded opcode_named access lands start possible after shown may_start started counter_of in_order_1 in_order_2 in_order_3 in_order_4 in_order_5 in_order_6 in_order_7 in_order_8
in_order_goes_8 = record { can = refl; says = refl; leaves = refl }

in_order_9 : State
in_order_9 = begun in_order_8 (slot 6 0 0 0 0 1 0)

in_order_goes_9 : Goes in_order_8 (Start 0) shows.Nothing in_order_9
unfolding slot memory first set_42 reply_42 queue_of begun number spelled decoded encoded opcode_named access lands start possible after shown may_start started counter_of in_order_1 in_order_2 in_order_3 in_order_4 in_order_5 in_order_6 in_order_7 in_order_8 in_order_9
in_order_goes_9 = start_goes in_order_8 (slot 6 0 0 0 0 1 0) shows.Nothing (record { queue = refl; held = simp gets refl; can = refl }) refl

in_order_10 : State
in_order_10 = after in_order_9 (Fetch 0 3)

in_order_goes_10 : Goes in_order_9 (Fetch 0 3) shows.Nothing in_order_10
unfolding slot memory first set_42 reply_42 queue_of begun number spelled decoded encoded opcode_named access lands start possible after shown may_start started counter_of in_order_1 in_order_2 in_order_3 in_order_4 in_order_5 in_order_6 in_order_7 in_order_8 in_order_9 in_order_10
in_order_goes_10 = record { can = refl; says = refl; leaves = refl }

in_order_11 : State
in_order_11 = begun in_order_10 (slot 1 1 2 8 0 0 1)

in_order_goes_11 : Goes in_order_10 (Start 0) shows.Nothing in_order_11
unfolding slot memory first set_42 reply_42 queue_of begun number spelled decoded encoded opcode_named access lands start possible after shown may_start started counter_of in_order_1 in_order_2 in_order_3 in_order_4 in_order_5 in_order_6 in_order_7 in_order_8 in_order_9 in_order_10 in_order_11
in_order_goes_11 = start_goes in_order_10 (slot 1 1 2 8 0 0 1) shows.Nothing (record { queue = refl; held = simp gets refl; can = refl }) refl

in_order_12 : State
in_order_12 = after in_order_11 (Land 0 3)

in_order_goes_12 : Goes in_order_11 (Land 0 3) shows.Nothing in_order_12
unfolding slot memory first set_42 reply_42 queue_of begun number spelled decoded encoded opcode_named access lands start possible after shown may_start started counter_of in_order_1 in_order_2 in_order_3 in_order_4 in_order_5 in_order_6 in_order_7 in_order_8 in_order_9 in_order_10 in_order_11 in_order_12
in_order_goes_12 = record { can = refl; says = refl; leaves = refl }

in_order_13 : State
in_order_13 = after in_order_12 (Complete 0)

in_order_goes_13 : Goes in_order_12 (Complete 0) shows.Nothing in_order_13
unfolding slot memory first set_42 reply_42 queue_of begun number spelled decoded encoded opcode_named access lands start possible after shown may_start started counter_of in_order_1 in_order_2 in_order_3 in_order_4 in_order_5 in_order_6 in_order_7 in_order_8 in_order_9 in_order_10 in_order_11 in_order_12 in_order_13
in_order_goes_13 = record { can = refl; says = refl; leaves = refl }

in_order_14 : State
in_order_14 = after in_order_13 (Fetch 0 4)

in_order_goes_14 : Goes in_order_13 (Fetch 0 4) shows.Nothing in_order_14
unfolding slot memory first set_42 reply_42 queue_of begun number spelled decoded encoded opcode_named access lands start possible after shown may_start started counter_of in_order_1 in_order_2 in_order_3 in_order_4 in_order_5 in_order_6 in_order_7 in_order_8 in_order_9 in_order_10 in_order_11 in_order_12 in_order_13 in_order_14
in_order_goes_14 = record { can = refl; says = refl; leaves = refl }

in_order_15 : State
in_order_15 = begun in_order_14 (slot 6 0 0 0 0 2 0)

in_order_goes_15 : Goes in_order_14 (Start 0) shows.Nothing in_order_15
unfolding slot memory first set_42 reply_42 queue_of begun number spelled decoded encoded opcode_named access lands start possible after shown may_start started counter_of in_order_1 in_order_2 in_order_3 in_order_4 in_order_5 in_order_6 in_order_7 in_order_8 in_order_9 in_order_10 in_order_11 in_order_12 in_order_13 in_order_14 in_order_15
in_order_goes_15 = start_goes in_order_14 (slot 6 0 0 0 0 2 0) shows.Nothing (record { queue = refl; held = simp gets refl; can = refl }) refl

in_order_16 : State
in_order_16 = after in_order_15 (Fetch 0 5)

in_order_goes_16 : Goes in_order_15 (Fetch 0 5) shows.Nothing in_order_16
unfolding slot memory first set_42 reply_42 queue_of begun number spelled decoded encoded opcode_named access lands start possible after shown may_start started counter_of in_order_1 in_order_2 in_order_3 in_order_4 in_order_5 in_order_6 in_order_7 in_order_8 in_order_9 in_order_10 in_order_11 in_order_12 in_order_13 in_order_14 in_order_15 in_order_16
in_order_goes_16 = record { can = refl; says = refl; leaves = refl }

in_order_17 : State
in_order_17 = begun in_order_16 (slot 5 2 0 8 0 0 0)

in_order_goes_17 : Goes in_order_16 (Start 0) shows.Nothing in_order_17
unfolding slot memory first set_42 reply_42 queue_of begun number spelled decoded encoded opcode_named access lands start possible after shown may_start started counter_of in_order_1 in_order_2 in_order_3 in_order_4 in_order_5 in_order_6 in_order_7 in_order_8 in_order_9 in_order_10 in_order_11 in_order_12 in_order_13 in_order_14 in_order_15 in_order_16 in_order_17
in_order_goes_17 = start_goes in_order_16 (slot 5 2 0 8 0 0 0) shows.Nothing (record { queue = refl; held = simp gets refl; can = refl }) refl

in_order_18 : State
in_order_18 = after in_order_17 (Land 0 5)

in_order_goes_18 : Goes in_order_17 (Land 0 5) reply_42 in_order_18
unfolding slot memory first set_42 reply_42 queue_of begun number spelled decoded encoded opcode_named access lands start possible after shown may_start started counter_of in_order_1 in_order_2 in_order_3 in_order_4 in_order_5 in_order_6 in_order_7 in_order_8 in_order_9 in_order_10 in_order_11 in_order_12 in_order_13 in_order_14 in_order_15 in_order_16 in_order_17 in_order_18
in_order_goes_18 = record { can = refl; says = refl; leaves = refl }

in_order : Shows first (Deliver 0 ∷ Fetch 0 0 ∷ Start 0 ∷ Fetch 0 1 ∷ Start 0 ∷ Land 0 1 ∷ Complete 0 ∷ Fetch 0 2 ∷ Start 0 ∷ Fetch 0 3 ∷ Start 0 ∷ Land 0 3 ∷ Complete 0 ∷ Fetch 0 4 ∷ Start 0 ∷ Fetch 0 5 ∷ Start 0 ∷ Land 0 5 ∷ []) (set_42 ∷ reply_42 ∷ [])
unfolding set_42 reply_42
in_order = first_then _ _ _ _ _ _ in_order_goes_1 (first_then _ _ _ _ _ _ in_order_goes_2 (first_then _ _ _ _ _ _ in_order_goes_3 (first_then _ _ _ _ _ _ in_order_goes_4 (first_then _ _ _ _ _ _ in_order_goes_5 (first_then _ _ _ _ _ _ in_order_goes_6 (first_then _ _ _ _ _ _ in_order_goes_7 (first_then _ _ _ _ _ _ in_order_goes_8 (first_then _ _ _ _ _ _ in_order_goes_9 (first_then _ _ _ _ _ _ in_order_goes_10 (first_then _ _ _ _ _ _ in_order_goes_11 (first_then _ _ _ _ _ _ in_order_goes_12 (first_then _ _ _ _ _ _ in_order_goes_13 (first_then _ _ _ _ _ _ in_order_goes_14 (first_then _ _ _ _ _ _ in_order_goes_15 (first_then _ _ _ _ _ _ in_order_goes_16 (first_then _ _ _ _ _ _ in_order_goes_17 (first_then _ _ _ _ _ _ in_order_goes_18 (ends in_order_18))))))))))))))))))

-- all requests are fetched before the message comes
prefetched_1 : State
prefetched_1 = after first (Fetch 0 0)

prefetched_goes_1 : Goes first (Fetch 0 0) shows.Nothing prefetched_1
unfolding six slot memory first set_42 reply_42 queue_of begun number spelled decoded encoded opcode_named access lands start possible after shown may_start started counter_of prefetched_1
prefetched_goes_1 = record { can = refl; says = refl; leaves = refl }

prefetched_2 : State
prefetched_2 = after prefetched_1 (Fetch 0 1)

prefetched_goes_2 : Goes prefetched_1 (Fetch 0 1) shows.Nothing prefetched_2
unfolding six slot memory first set_42 reply_42 queue_of begun number spelled decoded encoded opcode_named access lands start possible after shown may_start started counter_of prefetched_1 prefetched_2
prefetched_goes_2 = record { can = refl; says = refl; leaves = refl }

prefetched_3 : State
prefetched_3 = after prefetched_2 (Fetch 0 2)

prefetched_goes_3 : Goes prefetched_2 (Fetch 0 2) shows.Nothing prefetched_3
unfolding six slot memory first set_42 reply_42 queue_of begun number spelled decoded encoded opcode_named access lands start possible after shown may_start started counter_of prefetched_1 prefetched_2 prefetched_3
prefetched_goes_3 = record { can = refl; says = refl; leaves = refl }

prefetched_4 : State
prefetched_4 = after prefetched_3 (Fetch 0 3)

prefetched_goes_4 : Goes prefetched_3 (Fetch 0 3) shows.Nothing prefetched_4
unfolding six slot memory first set_42 reply_42 queue_of begun number spelled decoded encoded opcode_named access lands start possible after shown may_start started counter_of prefetched_1 prefetched_2 prefetched_3 prefetched_4
prefetched_goes_4 = record { can = refl; says = refl; leaves = refl }

prefetched_5 : State
prefetched_5 = after prefetched_4 (Fetch 0 4)

prefetched_goes_5 : Goes prefetched_4 (Fetch 0 4) shows.Nothing prefetched_5
unfolding six slot memory first set_42 reply_42 queue_of begun number spelled decoded encoded opcode_named access lands start possible after shown may_start started counter_of prefetched_1 prefetched_2 prefetched_3 prefetched_4 prefetched_5
prefetched_goes_5 = record { can = refl; says = refl; leaves = refl }

prefetched_6 : State
prefetched_6 = after prefetched_5 (Fetch 0 5)

prefetched_goes_6 : Goes prefetched_5 (Fetch 0 5) shows.Nothing prefetched_6
unfolding six slot memory first set_42 reply_42 queue_of begun number spelled decoded encoded opcode_named access lands start possible after shown may_start started counter_of prefetched_1 prefetched_2 prefetched_3 prefetched_4 prefetched_5 prefetched_6
prefetched_goes_6 = record { can = refl; says = refl; leaves = refl }

prefetched_7 : State
prefetched_7 = after prefetched_6 (Deliver 0)

prefetched_goes_7 : Goes prefetched_6 (Deliver 0) shows.Nothing prefetched_7
unfolding six slot memory first set_42 reply_42 queue_of begun number spelled decoded encoded opcode_named access lands start possible after shown may_start started counter_of prefetched_1 prefetched_2 prefetched_3 prefetched_4 prefetched_5 prefetched_6 prefetched_7
prefetched_goes_7 = record { can = refl; says = refl; leaves = refl }

prefetched_8 : State
prefetched_8 = begun prefetched_7 (slot 6 0 0 0 65536 1 0)

prefetched_goes_8 : Goes prefetched_7 (Start 0) shows.Nothing prefetched_8
unfolding six slot memory first set_42 reply_42 queue_of begun number spelled decoded encoded opcode_named access lands start possible after shown may_start started counter_of prefetched_1 prefetched_2 prefetched_3 prefetched_4 prefetched_5 prefetched_6 prefetched_7 prefetched_8
prefetched_goes_8 = start_goes prefetched_7 (slot 6 0 0 0 65536 1 0) shows.Nothing (record { queue = refl; held = six_at_0 _ _ _ _ _ _; can = refl }) refl

prefetched_9 : State
prefetched_9 = begun prefetched_8 (slot 1 3 1 8 0 0 1)

prefetched_goes_9 : Goes prefetched_8 (Start 0) shows.Nothing prefetched_9
unfolding six slot memory first set_42 reply_42 queue_of begun number spelled decoded encoded opcode_named access lands start possible after shown may_start started counter_of prefetched_1 prefetched_2 prefetched_3 prefetched_4 prefetched_5 prefetched_6 prefetched_7 prefetched_8 prefetched_9
prefetched_goes_9 = start_goes prefetched_8 (slot 1 3 1 8 0 0 1) shows.Nothing (record { queue = refl; held = six_at_1 _ _ _ _ _ _; can = refl }) refl

prefetched_10 : State
prefetched_10 = after prefetched_9 (Land 0 1)

prefetched_goes_10 : Goes prefetched_9 (Land 0 1) set_42 prefetched_10
unfolding six slot memory first set_42 reply_42 queue_of begun number spelled decoded encoded opcode_named access lands start possible after shown may_start started counter_of prefetched_1 prefetched_2 prefetched_3 prefetched_4 prefetched_5 prefetched_6 prefetched_7 prefetched_8 prefetched_9 prefetched_10
prefetched_goes_10 = record { can = refl; says = refl; leaves = refl }

prefetched_11 : State
prefetched_11 = after prefetched_10 (Complete 0)

prefetched_goes_11 : Goes prefetched_10 (Complete 0) shows.Nothing prefetched_11
unfolding six slot memory first set_42 reply_42 queue_of begun number spelled decoded encoded opcode_named access lands start possible after shown may_start started counter_of prefetched_1 prefetched_2 prefetched_3 prefetched_4 prefetched_5 prefetched_6 prefetched_7 prefetched_8 prefetched_9 prefetched_10 prefetched_11
prefetched_goes_11 = record { can = refl; says = refl; leaves = refl }

prefetched_12 : State
prefetched_12 = begun prefetched_11 (slot 6 0 0 0 0 1 0)

prefetched_goes_12 : Goes prefetched_11 (Start 0) shows.Nothing prefetched_12
unfolding six slot memory first set_42 reply_42 queue_of begun number spelled decoded encoded opcode_named access lands start possible after shown may_start started counter_of prefetched_1 prefetched_2 prefetched_3 prefetched_4 prefetched_5 prefetched_6 prefetched_7 prefetched_8 prefetched_9 prefetched_10 prefetched_11 prefetched_12
prefetched_goes_12 = start_goes prefetched_11 (slot 6 0 0 0 0 1 0) shows.Nothing (record { queue = refl; held = six_at_2 _ _ _ _ _ _; can = refl }) refl

prefetched_13 : State
prefetched_13 = begun prefetched_12 (slot 1 1 2 8 0 0 1)

prefetched_goes_13 : Goes prefetched_12 (Start 0) shows.Nothing prefetched_13
unfolding six slot memory first set_42 reply_42 queue_of begun number spelled decoded encoded opcode_named access lands start possible after shown may_start started counter_of prefetched_1 prefetched_2 prefetched_3 prefetched_4 prefetched_5 prefetched_6 prefetched_7 prefetched_8 prefetched_9 prefetched_10 prefetched_11 prefetched_12 prefetched_13
prefetched_goes_13 = start_goes prefetched_12 (slot 1 1 2 8 0 0 1) shows.Nothing (record { queue = refl; held = six_at_3 _ _ _ _ _ _; can = refl }) refl

prefetched_14 : State
prefetched_14 = after prefetched_13 (Land 0 3)

prefetched_goes_14 : Goes prefetched_13 (Land 0 3) shows.Nothing prefetched_14
unfolding six slot memory first set_42 reply_42 queue_of begun number spelled decoded encoded opcode_named access lands start possible after shown may_start started counter_of prefetched_1 prefetched_2 prefetched_3 prefetched_4 prefetched_5 prefetched_6 prefetched_7 prefetched_8 prefetched_9 prefetched_10 prefetched_11 prefetched_12 prefetched_13 prefetched_14
prefetched_goes_14 = record { can = refl; says = refl; leaves = refl }

prefetched_15 : State
prefetched_15 = after prefetched_14 (Complete 0)

prefetched_goes_15 : Goes prefetched_14 (Complete 0) shows.Nothing prefetched_15
unfolding six slot memory first set_42 reply_42 queue_of begun number spelled decoded encoded opcode_named access lands start possible after shown may_start started counter_of prefetched_1 prefetched_2 prefetched_3 prefetched_4 prefetched_5 prefetched_6 prefetched_7 prefetched_8 prefetched_9 prefetched_10 prefetched_11 prefetched_12 prefetched_13 prefetched_14 prefetched_15
prefetched_goes_15 = record { can = refl; says = refl; leaves = refl }

prefetched_16 : State
prefetched_16 = begun prefetched_15 (slot 6 0 0 0 0 2 0)

prefetched_goes_16 : Goes prefetched_15 (Start 0) shows.Nothing prefetched_16
unfolding six slot memory first set_42 reply_42 queue_of begun number spelled decoded encoded opcode_named access lands start possible after shown may_start started counter_of prefetched_1 prefetched_2 prefetched_3 prefetched_4 prefetched_5 prefetched_6 prefetched_7 prefetched_8 prefetched_9 prefetched_10 prefetched_11 prefetched_12 prefetched_13 prefetched_14 prefetched_15 prefetched_16
prefetched_goes_16 = start_goes prefetched_15 (slot 6 0 0 0 0 2 0) shows.Nothing (record { queue = refl; held = six_at_4 _ _ _ _ _ _; can = refl }) refl

prefetched_17 : State
prefetched_17 = begun prefetched_16 (slot 5 2 0 8 0 0 0)

prefetched_goes_17 : Goes prefetched_16 (Start 0) shows.Nothing prefetched_17
unfolding six slot memory first set_42 reply_42 queue_of begun number spelled decoded encoded opcode_named access lands start possible after shown may_start started counter_of prefetched_1 prefetched_2 prefetched_3 prefetched_4 prefetched_5 prefetched_6 prefetched_7 prefetched_8 prefetched_9 prefetched_10 prefetched_11 prefetched_12 prefetched_13 prefetched_14 prefetched_15 prefetched_16 prefetched_17
prefetched_goes_17 = start_goes prefetched_16 (slot 5 2 0 8 0 0 0) shows.Nothing (record { queue = refl; held = six_at_5 _ _ _ _ _ _; can = refl }) refl

prefetched_18 : State
prefetched_18 = after prefetched_17 (Land 0 5)

prefetched_goes_18 : Goes prefetched_17 (Land 0 5) reply_42 prefetched_18
unfolding six slot memory first set_42 reply_42 queue_of begun number spelled decoded encoded opcode_named access lands start possible after shown may_start started counter_of prefetched_1 prefetched_2 prefetched_3 prefetched_4 prefetched_5 prefetched_6 prefetched_7 prefetched_8 prefetched_9 prefetched_10 prefetched_11 prefetched_12 prefetched_13 prefetched_14 prefetched_15 prefetched_16 prefetched_17 prefetched_18
prefetched_goes_18 = record { can = refl; says = refl; leaves = refl }

prefetched : Shows first (Fetch 0 0 ∷ Fetch 0 1 ∷ Fetch 0 2 ∷ Fetch 0 3 ∷ Fetch 0 4 ∷ Fetch 0 5 ∷ Deliver 0 ∷ Start 0 ∷ Start 0 ∷ Land 0 1 ∷ Complete 0 ∷ Start 0 ∷ Start 0 ∷ Land 0 3 ∷ Complete 0 ∷ Start 0 ∷ Start 0 ∷ Land 0 5 ∷ []) (set_42 ∷ reply_42 ∷ [])
unfolding set_42 reply_42
prefetched = first_then _ _ _ _ _ _ prefetched_goes_1 (first_then _ _ _ _ _ _ prefetched_goes_2 (first_then _ _ _ _ _ _ prefetched_goes_3 (first_then _ _ _ _ _ _ prefetched_goes_4 (first_then _ _ _ _ _ _ prefetched_goes_5 (first_then _ _ _ _ _ _ prefetched_goes_6 (first_then _ _ _ _ _ _ prefetched_goes_7 (first_then _ _ _ _ _ _ prefetched_goes_8 (first_then _ _ _ _ _ _ prefetched_goes_9 (first_then _ _ _ _ _ _ prefetched_goes_10 (first_then _ _ _ _ _ _ prefetched_goes_11 (first_then _ _ _ _ _ _ prefetched_goes_12 (first_then _ _ _ _ _ _ prefetched_goes_13 (first_then _ _ _ _ _ _ prefetched_goes_14 (first_then _ _ _ _ _ _ prefetched_goes_15 (first_then _ _ _ _ _ _ prefetched_goes_16 (first_then _ _ _ _ _ _ prefetched_goes_17 (first_then _ _ _ _ _ _ prefetched_goes_18 (ends prefetched_18))))))))))))))))))
