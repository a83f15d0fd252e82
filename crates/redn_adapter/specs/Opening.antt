-- The opening of an image.
use Rattle.std.specs.Prelude.{ℕ, List, map, Option}
use Rattle.redn_words.specs.declared.types.Receive.{Receive}
use Rattle.redn_words.specs.States.{start}
use Rattle.redn_words.specs.Misfits.{misfits as misfits_by}
use Rattle.redn_image.specs.Rules.{Image}
use Rattle.redn_adapter.specs.declared.opening.OpenFault.{OpenFault}
use Rattle.redn_adapter.specs.declared.opening.OpenFault.TheVariants as fault
use Rattle.redn_adapter.specs.Running.{Running}

-- the messages that have another length than their places, in the order of the chains, of which the first one here is c
abbrev pub misfits : ℕ → List Receive → List (Option (List ℕ)) → List OpenFault
misfits c places messages = misfits_by fault.Message c (map (λ (place : Receive). place.len) places) messages

-- the first state of an image with these messages, before any step
abbrev pub opened : Image → List (Option (List ℕ)) → Running
opened i messages = record { state = start i.regions i.queues i.receives i.memory messages; steps = 0 }
