-- Fair schedules of small images by hand, computed.
use Rattle.std.proofs.Common.{◌≡◌, ℕ, true, [], ◌∷◌, ◌++◌, map, refl, replicate}
use Rattle.std.specs.Prelude.{Some, None}
use Rattle.std.specs.FinMap.{gets}
use Rattle.redn_words.specs.declared.types.QueueRow.{QueueRow}
use Rattle.redn_words.specs.declared.types.Receive.{Receive}
use Rattle.redn_words.specs.declared.types.Action.TheVariants.{Deliver, Fetch, Start, Land, Complete}
use Rattle.redn_words.specs.Words.{number, spelled}
use Rattle.redn_words.specs.Requests.{decoded, encoded, opcode_named}
use Rattle.redn_words.specs.Access.{access}
use Rattle.redn_words.specs.Landings.{lands}
use Rattle.redn_words.specs.States.{State, start}
use Rattle.redn_words.specs.Steps.{possible, after, may_start, started, counter_of}
use Rattle.redn_sched.specs.MadeSchedules.{queues_of, cyclically, first_cursors, fair_next, fair_from, fair}
use Rattle.redn_sched.specs.MadeView.{moved, followed_by}
use Rattle.redn_sched.specs.Nearest.{distance}
use Rattle.redn_sched.specs.ChainTurns.{IsTurn, IsTurnOf, with_cursor, turn_at, chain_turn}

after_the_cursor : cyclically 3 (0 ∷ 2 ∷ 3 ∷ 5 ∷ []) ≡ 3 ∷ 5 ∷ 0 ∷ 2 ∷ []
after_the_cursor = refl

-- a queue of this chain with so many slots, which all spell a NOOP where memory is 0
ring : ℕ → ℕ → ℕ → ℕ → QueueRow
ring domain base slots limit = record { domain = domain; managed = true; base = base; slots = slots; limit = limit }

no_message : Receive
no_message = record { base = 0; len = 0 }

-- chain 0 has a message of 2 bytes and no queue, chain 1 has a queue with one request
message_and_queue : State
message_and_queue = start [] (ring 1 0 1 1 ∷ []) (record { base = 64; len = 2 } ∷ no_message ∷ []) (replicate 66 0) (Some (7 ∷ 9 ∷ []) ∷ None ∷ [])

chains_in_turn : fair 9 message_and_queue ≡ Deliver 0 ∷ Fetch 0 0 ∷ Start 0 ∷ Land 0 0 ∷ Complete 0 ∷ []
unfolding ring no_message message_and_queue number spelled decoded encoded opcode_named access lands start possible after may_start started counter_of fair
chains_in_turn = simp gets refl

three_of_them : fair 3 message_and_queue ≡ Deliver 0 ∷ Fetch 0 0 ∷ Start 0 ∷ []
unfolding ring no_message message_and_queue number spelled decoded encoded opcode_named access lands start possible after may_start started counter_of fair
three_of_them = simp gets refl

-- two chains with one queue each
two_chains : State
two_chains = start [] (ring 0 0 1 1 ∷ ring 1 0 1 1 ∷ []) (no_message ∷ no_message ∷ []) (replicate 64 0) (None ∷ None ∷ [])

chains_alternate : fair 9 two_chains ≡ Fetch 0 0 ∷ Fetch 1 0 ∷ Start 0 ∷ Start 1 ∷ Land 0 0 ∷ Land 1 0 ∷ Complete 0 ∷ Complete 1 ∷ []
unfolding ring no_message two_chains number spelled decoded encoded opcode_named access lands start possible after may_start started counter_of fair
chains_alternate = simp gets refl

-- One chain with two queues. The first is closed, and the first request of the second one opens it: the second one is kept as long as it has something to do.
opened_by_the_second : State
opened_by_the_second =
    start [] (ring 0 0 1 0 ∷ ring 0 64 2 2 ∷ []) (no_message ∷ [])
    (replicate 64 0 ++ encoded (record { op = 7; id = 0; lkey = 0; rkey = 0; local = 0; remote = 0; length = 0; first = 0; second = 1; flags = 0 }) ++ replicate 64 0) (None ∷ [])

an_active_queue_is_kept : fair 3 opened_by_the_second ≡ Fetch 1 0 ∷ Start 1 ∷ Fetch 1 1 ∷ []
unfolding ring no_message opened_by_the_second number spelled decoded encoded opcode_named access lands start possible after may_start started counter_of fair
an_active_queue_is_kept = simp gets refl

-- The second queue has nothing to do, and the cursor stands there: the first one follows.
the_first_follows_the_last : fair_from 2 (start [] (ring 0 0 1 1 ∷ ring 0 64 1 0 ∷ []) (no_message ∷ []) (replicate 128 0) (None ∷ [])) (record { chain = 0; queues = 1 ∷ [] }) ≡ Fetch 0 0 ∷ Start 0 ∷ []
unfolding ring no_message number spelled decoded encoded opcode_named access lands start possible after may_start started counter_of
the_first_follows_the_last = simp gets refl

-- an undefined request stops its queue, and nothing follows
a_stopped_queue_ends : fair 9 (start [] (ring 0 0 1 1 ∷ []) (no_message ∷ []) (0 ∷ 9 ∷ replicate 62 0) (None ∷ [])) ≡ Fetch 0 0 ∷ Start 0 ∷ []
unfolding ring no_message number spelled decoded encoded opcode_named access lands start possible after may_start started counter_of fair
a_stopped_queue_ends = simp gets refl

-- Chain 0 has no message. Chain 1 has one of no bytes, and its request waits until the message has come: it comes only when chain 1 is taken.
a_wait_for_the_message : State
a_wait_for_the_message =
    start [] (ring 0 0 1 1 ∷ ring 1 64 1 1 ∷ []) (no_message ∷ no_message ∷ [])
    (replicate 64 0 ++ encoded (record { op = 6; id = 0; lkey = 0; rkey = 0; local = 0; remote = 0; length = 0; first = 65537; second = 1; flags = 0 })) (None ∷ Some [] ∷ [])

a_message_comes_at_its_chains_turn : fair 9 a_wait_for_the_message ≡ Fetch 0 0 ∷ Deliver 1 ∷ Start 0 ∷ Fetch 1 0 ∷ Land 0 0 ∷ Start 1 ∷ Complete 0 ∷ []
unfolding ring no_message a_wait_for_the_message number spelled decoded encoded opcode_named access lands start possible after may_start started counter_of fair
a_message_comes_at_its_chains_turn = simp gets refl

-- Here its request is fetched before the message comes: it starts later, at the next turn.
the_message_comes_late : fair_from 3 (after a_wait_for_the_message (Fetch 1 0)) (record { chain = 1; queues = 0 ∷ 1 ∷ [] }) ≡ Deliver 1 ∷ Fetch 0 0 ∷ Start 1 ∷ []
unfolding ring no_message a_wait_for_the_message number spelled decoded encoded opcode_named access lands start possible after may_start started counter_of
the_message_comes_late = simp gets refl

-- chain 0 has no queue here, and chain 1 has two
queues_by_chain : map (queues_of (start [] (ring 1 0 1 1 ∷ ring 1 64 1 1 ∷ []) (no_message ∷ no_message ∷ []) [] (None ∷ None ∷ []))) (0 ∷ 1 ∷ []) ≡ [] ∷ (0 ∷ 1 ∷ []) ∷ []
unfolding ring no_message start
queues_by_chain = refl

the_first_cursors : first_cursors message_and_queue ≡ record { chain = 0; queues = 0 ∷ 0 ∷ [] }
unfolding ring no_message message_and_queue start
the_first_cursors = refl

-- the message is delivered, and chain 1 comes next
a_move : moved (first_cursors message_and_queue) (fair_next message_and_queue (first_cursors message_and_queue)) ≡ record { chain = 1; queues = 0 ∷ 0 ∷ [] }
unfolding ring no_message message_and_queue number spelled start possible
a_move = refl

no_move : moved (first_cursors message_and_queue) None ≡ first_cursors message_and_queue
no_move = refl

-- from a cursor on, the queues below it come after all others
distances_from_3 : map (distance 3) (3 ∷ 5 ∷ 0 ∷ 2 ∷ []) ≡ 0 ∷ 2 ∷ 4294967293 ∷ 4294967295 ∷ []
distances_from_3 = refl

-- A message comes, and the cursor stays at 3. Where the only queue of the chain has number 0, the cursor comes from 3 to it.
a_message_comes : chain_turn message_and_queue 0 3 ≡ Some (with_cursor 3 (Deliver 0))
unfolding ring no_message message_and_queue number spelled start possible
a_message_comes = refl

a_queue_acts : chain_turn message_and_queue 1 3 ≡ Some (with_cursor 0 (Fetch 0 0))
unfolding ring no_message message_and_queue number spelled decoded encoded opcode_named access lands start possible after may_start started counter_of
a_queue_acts = simp gets refl

no_queue_acts : turn_at message_and_queue None ≡ None
no_queue_acts = refl

its_turn : IsTurn message_and_queue (Some (with_cursor 0 (Fetch 0 0)))
unfolding ring no_message message_and_queue number spelled decoded encoded opcode_named access lands start possible after may_start started counter_of
its_turn = simp gets refl

turn_of_the_first : IsTurnOf message_and_queue (3 ∷ 0 ∷ []) (Some (0, with_cursor 3 (Deliver 0)))
unfolding ring no_message message_and_queue number spelled start possible
turn_of_the_first = refl

rest_of_a_list : followed_by (Some (Deliver 0)) (λ a. a ∷ []) ≡ Deliver 0 ∷ Deliver 0 ∷ []
rest_of_a_list = refl
