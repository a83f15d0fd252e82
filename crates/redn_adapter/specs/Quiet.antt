-- When no useful action is possible.
use Rattle.std.specs.Prelude.{◌≡◌, Bool, true, false, not, ◌&&◌, ◌||◌, is_some, Option, Some, None}
use Rattle.redn_words.specs.declared.types.Action.{Action}
use Rattle.redn_words.specs.States.{Queue, Chain, State}
use Rattle.redn_words.specs.Steps.{possible, is_useful, is_pending, start_possible, complete_possible}
use Rattle.redn_queue.specs.Telling.{least_unheld, oldest_unlanded}

abbrev pub IsQuiet : State → Type 0
IsQuiet s = (a : Action) → possible s a ≡ true → is_useful s a ≡ false

-- whether a queue has a useful action that is possible
abbrev pub is_active : State → Queue → Bool
is_active s queue =
    complete_possible queue || not queue.stopped && is_some (oldest_unlanded queue) || start_possible s queue || is_some (least_unheld queue)

-- whether a chain is there whose message is to come
abbrev pub has_message : Option Chain → Bool
has_message None = false
has_message (Some c) = is_pending c.mail
