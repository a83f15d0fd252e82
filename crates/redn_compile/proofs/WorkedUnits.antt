-- The actions of small images whose adapter takes one request after the other, computed.
use Rattle.std.proofs.Common.{◌≡◌, ℕ, false, List, [], ◌∷◌, ◌++◌, refl, replicate}
use Rattle.std.specs.Prelude.{Some}
use Rattle.std.specs.FinMap.{gets}
use Rattle.redn_words.specs.declared.types.Kind.TheVariants.{Code, Control}
use Rattle.redn_words.specs.declared.types.Obs.TheVariants as shows
use Rattle.redn_words.specs.declared.types.Action.{Action}
use Rattle.redn_words.specs.declared.types.Action.TheVariants.{Deliver, Fetch, Start, Land, Complete}
use Rattle.redn_words.specs.Words.{number, spelled}
use Rattle.redn_words.specs.Requests.{decoded, encoded, opcode_named}
use Rattle.redn_words.specs.Access.{access}
use Rattle.redn_words.specs.Landings.{lands}
use Rattle.redn_words.specs.States.{State, start}
use Rattle.redn_words.specs.Steps.{possible, after, shown, may_start, started, counter_of}
use Rattle.redn_words.specs.Runs.{all_shown}
use Rattle.redn_image.specs.Rules.{Image}
use Rattle.redn_image.specs.Faithful.{start_of}
use Rattle.redn_compile.specs.Units.{Mail, Passes, Lands, Completes, all_actions}

-- a slot by its opcode, local and remote key, local and remote offset, length, operands
slot : ℕ → ℕ → ℕ → ℕ → ℕ → ℕ → ℕ → ℕ → List ℕ
slot op lkey rkey local remote len first second =
    encoded (record { op = op; id = 0; lkey = lkey; rkey = rkey; local = local; remote = remote; length = len; first = first; second = second; flags = 1 })

-- an ordinary queue of two slots, and behind them the first word of a SEND and a word to reply
image : List ℕ → List ℕ → Image
image first second =
    record {
      regions = record { key = 1; domain = 0; kind = Code; rights = 4; base = 0; len = 128 } ∷ record { key = 2; domain = 0; kind = Control; rights = 0; base = 128; len = 64 } ∷ [];
      queues = record { domain = 0; managed = false; base = 0; slots = 2; limit = 2 } ∷ [];
      receives = record { base = 0; len = 0 } ∷ [];
      memory = first ++ second ++ spelled 8 1407374883553280 ++ spelled 8 7 ++ replicate 48 0;
    }

-- the first request rewrites the second one from NOOP to SEND
rewriting : State
rewriting = start_of (image (slot 1 2 1 0 64 8 0 0) (slot 0 2 0 8 0 8 0 0)) (Some [] ∷ [])

rewriting_runs : List Action
rewriting_runs = Deliver 0 ∷ Fetch 0 0 ∷ Start 0 ∷ Land 0 0 ∷ Complete 0 ∷ Fetch 0 1 ∷ Start 0 ∷ Land 0 1 ∷ []

-- a message comes, the first request completes, and the second one lands, which is fetched behind the landing that rewrites it
its_actions : all_actions rewriting (Mail 0 ∷ Completes 0 ∷ Lands 0 ∷ []) ≡ rewriting_runs
unfolding slot image rewriting rewriting_runs number spelled decoded encoded opcode_named access lands start after may_start started counter_of
its_actions = simp gets refl

-- so it is no longer a NOOP
it_replies : all_shown rewriting rewriting_runs ≡ shows.Reply 0 1 (7 ∷ 0 ∷ 0 ∷ 0 ∷ 0 ∷ 0 ∷ 0 ∷ 0 ∷ []) ∷ []
unfolding slot image rewriting rewriting_runs number spelled decoded encoded opcode_named access lands start after shown may_start started counter_of
it_replies = simp gets refl

-- the first request waits for the message, the second one replies
waiting : State
waiting = start_of (image (slot 6 0 0 0 0 0 65536 1) (slot 5 2 0 8 0 8 0 0)) (Some [] ∷ [])

waiting_runs : List Action
waiting_runs = Deliver 0 ∷ Fetch 0 0 ∷ Start 0 ∷ Fetch 0 1 ∷ Start 0 ∷ Land 0 1 ∷ Complete 0 ∷ []

-- a request that starts and never goes into flight has no landing
a_wait_passes : all_actions waiting (Mail 0 ∷ Passes 0 ∷ Completes 0 ∷ []) ≡ waiting_runs
unfolding slot image waiting waiting_runs number spelled decoded encoded opcode_named access lands start after may_start started counter_of
a_wait_passes = simp gets refl
