-- Shuffled schedules of small images by hand, computed.
use Rattle.std.proofs.Common.{◌≡◌, ℕ, true, [], ◌∷◌, refl, replicate}
use Rattle.std.specs.Prelude.{Some, None}
use Rattle.std.specs.FinMap.{gets}
use Rattle.redn_words.specs.declared.types.QueueRow.{QueueRow}
use Rattle.redn_words.specs.declared.types.Receive.{Receive}
use Rattle.redn_words.specs.declared.types.Action.TheVariants.{Deliver, Fetch, Start, Land, Complete}
use Rattle.redn_words.specs.Words.{number, spelled}
use Rattle.redn_words.specs.Requests.{decoded, encoded, opcode_named}
use Rattle.redn_words.specs.Access.{access}
use Rattle.redn_words.specs.Landings.{lands}
use Rattle.redn_words.specs.States.{State, start}
use Rattle.redn_words.specs.Steps.{possible, after, may_start, started, counter_of}
use Rattle.redn_sched.specs.Shuffles.{behind, drawn, another, candidates, shuffled}

-- the number behind 1, and its quotient tells the place
behind_one : behind 1 ≡ 7806831264735756412
unfolding behind
behind_one = refl

behind_the_last : behind 18446744073709551615 ≡ 13525302890751722018
unfolding behind
behind_the_last = refl

-- 908834774 modulo 3 is 2
drawn_by_one : drawn {X = ℕ} 1 (5 ∷ 6 ∷ 7 ∷ []) ≡ Some 7
unfolding behind
drawn_by_one = refl

from_none : drawn {X = ℕ} 1 [] ≡ None
from_none = refl

the_other : (another (Some 4) (Some 7) ≡ Some 7) × (another (Some 4) (Some 4) ≡ None)
the_other = (refl, refl)

-- a queue of this chain with so many slots, which all spell a NOOP where memory is 0
ring : ℕ → ℕ → ℕ → ℕ → QueueRow
ring domain base slots limit = record { domain = domain; managed = true; base = base; slots = slots; limit = limit }

no_message : Receive
no_message = record { base = 0; len = 0 }

-- chain 0 has a message of 2 bytes and no queue, chain 1 has a queue with one request
message_and_queue : State
message_and_queue = start [] (ring 1 0 1 1 ∷ []) (record { base = 64; len = 2 } ∷ no_message ∷ []) (replicate 66 0) (Some (7 ∷ 9 ∷ []) ∷ None ∷ [])

by_none : shuffled 9 0 message_and_queue ≡ Fetch 0 0 ∷ Start 0 ∷ Land 0 0 ∷ Deliver 0 ∷ Complete 0 ∷ []
unfolding ring no_message message_and_queue number spelled decoded encoded opcode_named access lands start possible after may_start started counter_of behind shuffled
by_none = simp gets refl

-- head is fetched once more, and again by the last number
by_one : shuffled 9 1 message_and_queue ≡ Deliver 0 ∷ Fetch 0 0 ∷ Fetch 0 0 ∷ Start 0 ∷ Land 0 0 ∷ Complete 0 ∷ []
unfolding ring no_message message_and_queue number spelled decoded encoded opcode_named access lands start possible after may_start started counter_of behind shuffled
by_one = simp gets refl

by_the_last : shuffled 4 18446744073709551615 message_and_queue ≡ Deliver 0 ∷ Fetch 0 0 ∷ Fetch 0 0 ∷ Fetch 0 0 ∷ []
unfolding ring no_message message_and_queue number spelled decoded encoded opcode_named access lands start possible after may_start started counter_of behind shuffled
by_the_last = simp gets refl

three_of_them : shuffled 3 1 message_and_queue ≡ Deliver 0 ∷ Fetch 0 0 ∷ Fetch 0 0 ∷ []
unfolding ring no_message message_and_queue number spelled decoded encoded opcode_named access lands start possible after may_start started counter_of behind shuffled
three_of_them = simp gets refl

-- two chains with one queue each
two_chains : State
two_chains = start [] (ring 0 0 1 1 ∷ ring 1 0 1 1 ∷ []) (no_message ∷ no_message ∷ []) (replicate 64 0) (None ∷ None ∷ [])

chains_are_drawn : shuffled 6 0 two_chains ≡ Fetch 1 0 ∷ Start 1 ∷ Land 1 0 ∷ Fetch 0 0 ∷ Fetch 0 0 ∷ Complete 1 ∷ []
unfolding ring no_message two_chains number spelled decoded encoded opcode_named access lands start possible after may_start started counter_of behind shuffled
chains_are_drawn = simp gets refl

-- a queue with three slots, of whose requests two are in flight and the next one is held
three_slots : State
three_slots = start [] (ring 0 0 3 5 ∷ []) (no_message ∷ []) (replicate 192 0) (None ∷ [])

in_flight : State
in_flight = after (after (after (after (after three_slots (Fetch 0 0)) (Fetch 0 1)) (Start 0)) (Start 0)) (Fetch 0 2)

all_candidates : candidates in_flight 0 (Some 0) ≡ Land 0 0 ∷ Land 0 1 ∷ Start 0 ∷ Fetch 0 3 ∷ Fetch 0 4 ∷ Fetch 0 2 ∷ []
unfolding ring no_message three_slots in_flight number spelled decoded encoded opcode_named access lands start possible after may_start started counter_of
all_candidates = simp gets refl
