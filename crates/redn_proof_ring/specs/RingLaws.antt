-- Laws of blocks.
use Rattle.std.specs.Prelude.{ℕ, List}
use Rattle.redn_words.specs.declared.types.Opcode.{Opcode}
use Rattle.redn_words.specs.declared.types.Obs.{Obs}
use Rattle.redn_segment.specs.Plain.{Bytes}
use Rattle.redn_proof_window.specs.Scripts.{IsScript}
use Rattle.redn_proof_ring.specs.Plans.{Plan, IsLaid}
use Rattle.redn_proof_ring.specs.Turns.{Promises, script_of}
use Rattle.redn_proof_ring.specs.Runs.{Allows, meaning}

-- the rings of a chain, with what is told of their blocks' runs
pub record Blocks : Type 1 where
  pub plan : Plan
  pub laid : IsLaid plan
  pub takes : ℕ → ℕ → ℕ → Opcode → Type 0
  pub ghost : Type 0
  pub tells : ℕ → ℕ → Bytes → ghost → List Obs → ghost → Type 0
  pub fails : ℕ → ℕ → Bytes → ghost → List Obs → Type 0
  pub entry : ℕ → ghost → Bytes → Type 0
  pub allows : Allows plan takes ghost tells fails entry

-- where no plain run of what is left of a block is bad, whatever tables each segment sees, its drafts promise what is asked of them
abbrev pub BlocksPromise : Blocks → Type 0
BlocksPromise b = Promises b.plan (meaning b.plan b.takes b.ghost b.tells b.fails b.entry)

-- and so their windows are a script
abbrev pub BlocksAreScript : Blocks → Type 0
BlocksAreScript b = IsScript (script_of b.plan (meaning b.plan b.takes b.ghost b.tells b.fails b.entry))
