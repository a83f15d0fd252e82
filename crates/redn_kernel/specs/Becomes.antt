-- That core statements are a statement: they differ in steps that show nothing alone.
use Rattle.std.specs.Prelude.{◌≡◌, ℕ, Bool, false, List, [], ◌∷◌, Some}
use Rattle.redn_kernel.specs.declared.types.Kernel.{Kernel}
use Rattle.redn_kernel.specs.declared.types.Core.{Core}
use Rattle.redn_kernel.specs.Source.{Item, Do, ChainState}
use Rattle.redn_kernel.specs.CoreRun.{Cells, CoreItem, CoreState, do_cores}
use Rattle.redn_kernel.specs.Feeds.{Feed, chain_after, chain_seen, cores_along, cores_seen}

-- a chain with a message
abbrev pub chain_at : List ℕ → Cells → Bool → List Item → ChainState
chain_at words s ended items = record { vars = s.vars; message = Some words; items = items; ended = ended }

abbrev pub cores_at : Cells → List CoreItem → CoreState
cores_at s items = record { cells = s; items = items; ended = false }

-- variables are equal, and the chain has ended exactly where the core statements have
pub record IsLike (t : ChainState) (u : CoreState) : Type 0 where
  pub vars : t.vars ≡ u.cells.vars
  pub ended : t.ended ≡ u.ended

-- for each feed of the core statements there is one of the chain, whatever stands behind the statement, under which the same is seen,
-- and where they are done what stands behind it is left
abbrev pub StatementFollows : Kernel → List Core → Type 0
StatementFollows statement cores =
    (c : ℕ) (words : List ℕ) (s : Cells) (behind : List Item) (feed : Feed) → (other : Feed)
    × (chain_seen c other (chain_at words s false (Do statement ∷ behind)) ≡ cores_seen c words feed (cores_at s (do_cores cores)))
    × IsLike (chain_after c other (chain_at words s false (Do statement ∷ behind))) (cores_along c words feed (cores_at s (do_cores cores)))
    × ((cores_along c words feed (cores_at s (do_cores cores))).items ≡ [] → (chain_after c other (chain_at words s false (Do statement ∷ behind))).items ≡ behind)

-- and the other way round, for the statement alone: where it is done, they are
abbrev pub CoresFollow : Kernel → List Core → Type 0
CoresFollow statement cores =
    (c : ℕ) (words : List ℕ) (s : Cells) (feed : Feed) → (other : Feed)
    × (cores_seen c words other (cores_at s (do_cores cores)) ≡ chain_seen c feed (chain_at words s false (Do statement ∷ [])))
    × IsLike (chain_after c feed (chain_at words s false (Do statement ∷ []))) (cores_along c words other (cores_at s (do_cores cores)))
    × ((chain_after c feed (chain_at words s false (Do statement ∷ []))).items ≡ [] → (chain_after c feed (chain_at words s false (Do statement ∷ []))).ended ≡ false → (cores_along c words other (cores_at s (do_cores cores))).items ≡ [])

pub record Becomes (statement : Kernel) (cores : List Core) : Type 0 where
  pub statement_follows : StatementFollows statement cores
  pub cores_follow : CoresFollow statement cores
