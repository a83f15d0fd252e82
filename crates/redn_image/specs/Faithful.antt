-- When an image does what a program says, under every order of the adapter's actions.
use Rattle.std.specs.Prelude.{◌≡◌, ℕ, ◌+◌, ◌*◌, ◌^◌, ◌<◌, ◌≤◌, true, List, [], ◌∷◌, length, Option, Some, None}
use Rattle.std.specs.List.{All}
use Rattle.redn_words.specs.declared.types.Action.{Action}
use Rattle.redn_words.specs.declared.types.Obs.{Obs}
use Rattle.redn_words.specs.declared.types.Obs.TheVariants as shows
use Rattle.redn_words.specs.States.{State, start}
use Rattle.redn_words.specs.Steps.{possible, is_useful, chain_of}
use Rattle.redn_words.specs.Runs.{AllPossible, reached, all_shown, useful_for}
use Rattle.redn_kernel.specs.declared.types.ChainInit.{ChainInit}
use Rattle.redn_kernel.specs.declared.types.Program.{Program}
use Rattle.redn_kernel.specs.Costs.{step_worth}
use Rattle.redn_kernel.specs.Source.{Source, source_start, source_after, is_running, EachRuns, events, steps_of}
use Rattle.redn_image.specs.Rules.{Image}
use Rattle.redn_image.specs.Agreement.{Fits, Agrees}

-- a message is absent, or has the eight bytes of a word for each argument
abbrev pub IsMessageOf : ChainInit → Option (List ℕ) → Type 0
IsMessageOf c None = Unit {0}
IsMessageOf c (Some bytes) = (length bytes ≡ 8 * c.args) × All (λ b. b < 256) bytes

-- one for each chain
abbrev pub AreMessages : List ChainInit → List (Option (List ℕ)) → Type 0
AreMessages [] [] = Unit {0}
AreMessages [] (m ∷ ms) = ⊥
AreMessages (c ∷ cs) [] = ⊥
AreMessages (c ∷ cs) (m ∷ ms) = IsMessageOf c m × AreMessages cs ms

-- no request ran stale, undefined or refused, or did what no statement does
abbrev pub IsClean : Obs → Type 0
IsClean (shows.Stale q i) = ⊥
IsClean (shows.Undefined q i) = ⊥
IsClean (shows.Refused q i) = ⊥
IsClean (shows.Odd q i) = ⊥
IsClean _ = Unit {0}

-- a useful action of this chain is possible
pub record CanGoOn (s : State) (c : ℕ) : Type 0 where
  pub action : Action
  pub can : possible s action ≡ true
  pub useful : is_useful s action ≡ true
  pub its : chain_of s action ≡ Some c

-- a run of the source accounts for a run of the adapter
pub record Explains (first : State) (acts : List Action) (source : Source) (turns : List ℕ) : Type 0 where
  pub runs : EachRuns source turns
  pub shows_events : all_shown first acts ≡ events source turns
  pub agrees : Agrees first.regions (reached first acts).memory (source_after source turns)
  pub clean : All IsClean (all_shown first acts)
  pub few : (c : ℕ) → useful_for c first acts ≤ step_worth * (steps_of c turns + 1)
  pub goes_on : (c : ℕ) → is_running (source_after source turns) c ≡ true → CanGoOn (reached first acts) c

abbrev pub start_of : Image → List (Option (List ℕ)) → State
start_of i messages = start i.regions i.queues i.receives i.memory messages

-- every run of the adapter is explained, whatever the messages
pub record Faithful (p : Program) (i : Image) : Type 0 where
  pub fits : Fits p i
  pub explained : (messages : List (Option (List ℕ))) → AreMessages p.chains messages → (acts : List Action) → length acts < 2 ^ 62 →
      AllPossible (start_of i messages) acts
      → (turns : List ℕ) × Explains (start_of i messages) acts (source_start p messages) turns
