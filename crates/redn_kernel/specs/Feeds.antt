-- Runs under a feed of tables, and what is seen of them.
use Rattle.std.specs.Prelude.{ℕ, List, [], ◌∷◌, if◌then◌else◌}
use Rattle.redn_words.specs.declared.types.Obs.{Obs}
use Rattle.redn_words.specs.declared.types.Obs.TheVariants as shows
use Rattle.redn_kernel.specs.Source.{ChainState, Turn, first_does, chain_runs}
use Rattle.redn_kernel.specs.Steps.{unchanged}
use Rattle.redn_kernel.specs.CoreRun.{CoreState, core_step}

-- contents of the tables, one for each step
abbrev pub Feed : Type 0
Feed = List (List (List ℕ))

-- what a step shows, and the contents on which it does
pub record Seen : Type 0 where
  pub tables : List (List ℕ)
  pub event : Obs

-- a step that shows nothing isn't seen
abbrev pub seen_then : List (List ℕ) → Obs → List Seen → List Seen
seen_then tables shows.Nothing rest = rest
seen_then tables o rest = (record { tables = tables; event = o }) ∷ rest

module _ (c : ℕ) where
  -- a chain that isn't running changes nothing
  abbrev pub chain_turn : List (List ℕ) → ChainState → Turn
  chain_turn tables t = if chain_runs t then first_does c tables t t.items else unchanged tables t

  abbrev pub chain_after : Feed → ChainState → ChainState
  chain_after [] t = t
  chain_after (tables ∷ feed) t = chain_after feed (chain_turn tables t).chain

  abbrev pub chain_seen : Feed → ChainState → List Seen
  chain_seen [] t = []
  chain_seen (tables ∷ feed) t = seen_then tables (chain_turn tables t).event (chain_seen feed (chain_turn tables t).chain)

  -- core statements, with the words of the chain's message
  abbrev pub cores_along : List ℕ → Feed → CoreState → CoreState
  cores_along words [] t = t
  cores_along words (tables ∷ feed) t = cores_along words feed (core_step c words tables t).state

  abbrev pub cores_seen : List ℕ → Feed → CoreState → List Seen
  cores_seen words [] t = []
  cores_seen words (tables ∷ feed) t = seen_then tables (core_step c words tables t).event (cores_seen words feed (core_step c words tables t).state)
