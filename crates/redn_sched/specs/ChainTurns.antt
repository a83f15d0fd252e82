-- What a chain does next, and where its next queue is looked for then.
use Rattle.std.specs.Prelude.{◌≡◌, ℕ, if◌then◌else◌, List, Option, Some, None, IfSome, slice_index}
use Rattle.std.specs.Option.{option_map}
use Rattle.std.specs.List.{find}
use Rattle.redn_words.specs.declared.types.Action.{Action}
use Rattle.redn_words.specs.declared.types.Action.TheVariants.{Deliver}
use Rattle.redn_words.specs.States.{State}
use Rattle.redn_words.specs.Steps.{possible}
use Rattle.redn_sched.specs.declared.turns.Turn.{Turn}
use Rattle.redn_sched.specs.MadeSchedules.{cyclically, queues_of, queue_action, queue_acts}

abbrev pub with_cursor : ℕ → Action → Turn
with_cursor cursor a = record { action = a; cursor = cursor }

-- a queue's action, and from that queue on the next one is looked for
abbrev pub turn_at : State → Option ℕ → Option Turn
turn_at s None = None
turn_at s (Some q) = option_map (with_cursor q) (queue_action s q)

-- the message that is to come, or else the action of the active queue
abbrev pub chain_turn : State → ℕ → ℕ → Option Turn
chain_turn s c cursor =
    if possible s (Deliver c) then Some (with_cursor cursor (Deliver c)) else turn_at s (find (queue_acts s) (cyclically cursor (queues_of s c)))

-- what a queue does next, if there is one
abbrev pub IsTurn : State → Option Turn → Type 0
IsTurn s o = IfSome o (λ t. queue_action s t.cursor ≡ Some t.action)

-- a chain, and what it does next from its cursor on
abbrev pub IsTurnOf : State → List ℕ → Option (ℕ × Turn) → Type 0
IsTurnOf s cursors o = IfSome o (λ p. chain_turn s p.0 (slice_index cursors p.0) ≡ Some p.1)
