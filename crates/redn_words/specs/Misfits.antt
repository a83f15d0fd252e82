-- Messages that haven't the length that is wanted.
use Rattle.std.specs.Prelude.{ℕ, ◌+◌, ◌==◌, if◌then◌else◌, List, [], ◌∷◌, ◌++◌, length, Option, Some, None}

-- a message of another length than is wanted: its chain, what it has and what is wanted, as a fault
abbrev pub misfit : {F : Type 0} → (ℕ → ℕ → ℕ → F) → ℕ → ℕ → Option (List ℕ) → List F
misfit fault c want None = []
misfit fault c want (Some bytes) = if length bytes == want then [] else fault c (length bytes) want ∷ []

-- all of them, in the order of the chains, of which the first one here is c
abbrev pub misfits : {F : Type 0} → (ℕ → ℕ → ℕ → F) → ℕ → List ℕ → List (Option (List ℕ)) → List F
misfits fault c [] messages = []
misfits fault c (want ∷ wants) [] = []
misfits fault c (want ∷ wants) (m ∷ messages) = misfit fault c want m ++ misfits fault (c + 1) wants messages
