-- What steps of a small adapter keep, computed.
use Rattle.std.proofs.Common.{◌≡◌, ℕ, false, List, [], ◌∷◌, Some, None, refl, replicate}
use Rattle.std.specs.FinMap as finite
use Rattle.redn_words.specs.declared.types.QueueRow.{QueueRow}
use Rattle.redn_words.specs.declared.types.Flight.{Flight}
use Rattle.redn_words.specs.declared.types.Action.TheVariants.{Deliver, Land}
use Rattle.redn_words.specs.Words.{number, spelled}
use Rattle.redn_words.specs.Requests.{decoded, encoded, opcode_named}
use Rattle.redn_words.specs.Access.{access}
use Rattle.redn_words.specs.Landings.{lands}
use Rattle.redn_words.specs.States.{Queue, State, start}
use Rattle.redn_words.specs.Steps.{after}
use Rattle.redn_adapter.specs.Keeping.{KeepsShape, LandsRefused}

-- a place for a message of eight bytes, and the message
mailed : State
mailed = start [] [] (record { base = 0; len = 8 } ∷ []) (replicate 8 0) (Some (spelled 8 42) ∷ [])

-- its delivery
a_delivery_keeps : KeepsShape mailed (after mailed (Deliver 0))
unfolding mailed start after spelled number
a_delivery_keeps = record { rows = record { regions = refl; receives = refl; queues = λ n. refl }; size = refl }

-- a WRITE of eight bytes whose keys no region has
a_write : List ℕ
a_write = encoded (record { op = 1; id = 0; lkey = 5; rkey = 6; local = 0; remote = 0; length = 8; first = 0; second = 0; flags = 1 })

in_flight : Flight
in_flight = record { index = 0; copy = a_write; landed = false }

a_row : QueueRow
a_row = record { domain = 0; managed = false; base = 0; slots = 1; limit = 1 }

a_queue : Queue
a_queue = record { row = a_row; head = 1; limit = 1; held = finite.empty; flights = in_flight ∷ []; counter = 0; stopped = false }

flying_one : State
flying_one = record { regions = []; receives = []; memory = replicate 64 0; queues = a_queue ∷ []; chains = [] }

a_refused_landing : LandsRefused flying_one 0 0
unfolding flying_one a_queue a_row in_flight a_write encoded decoded opcode_named access lands number spelled
a_refused_landing = record { queue = a_queue; flight = in_flight; there = refl; flies = refl; refused = refl }

-- it stops the queue and leaves memory alone
it_leaves_memory : (after flying_one (Land 0 0)).memory ≡ replicate 64 0
unfolding flying_one a_queue a_row in_flight a_write encoded decoded opcode_named access lands number spelled after
it_leaves_memory = refl
