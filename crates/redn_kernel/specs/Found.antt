-- What a search finds in tables that don't change.
use Rattle.std.specs.Prelude.{◌≡◌, ℕ, zero, suc, ◌+◌, ◌==◌, false, if◌then◌else◌, List, [], ◌∷◌, Option, Some, None, slice_get, slice_set}
use Rattle.std.specs.List.{filter}
use Rattle.redn_kernel.specs.declared.types.Core.{Core}
use Rattle.redn_kernel.specs.declared.types.Word.{Word}
use Rattle.redn_kernel.specs.Source.{wrapped, same_low, word_in, value_of}
use Rattle.redn_kernel.specs.CoreRun.{Cells, cores_after, do_cores}
use Rattle.redn_kernel.specs.Becomes.{cores_at}

-- the offsets of n buckets, one after the other
abbrev pub buckets : ℕ → ℕ → List ℕ
buckets zero o = []
buckets (suc n) o = o ∷ buckets n (wrapped (o + 16))

-- the offsets of the nodes of a list, n of them at most: each names the next, and 0 ends the list
abbrev pub nodes : List (List ℕ) → ℕ → ℕ → ℕ → List ℕ
nodes tables table zero o = []
nodes tables table (suc n) o =
    o ∷ (if word_in tables table (wrapped (o + 16)) == 0 then [] else nodes tables table n (word_in tables table (wrapped (o + 16))))

-- the first of some offsets at which the key stands
abbrev pub first_with : List (List ℕ) → ℕ → ℕ → List ℕ → Option ℕ
first_with tables table key offsets = slice_get (filter (λ (o : ℕ). same_low (word_in tables table o) key) offsets) 0

-- the word behind it goes to a variable, if it stands at one
abbrev pub with_found : List (List ℕ) → ℕ → ℕ → List ℕ → Option ℕ → List ℕ
with_found tables table x vars None = vars
with_found tables table x vars (Some o) = slice_set vars x (word_in tables table (wrapped (o + 8)))

-- run to the end over tables that don't change and without a fault, core statements leave in the target the value behind
-- the first key that matches among the places looked at, or what the target had
abbrev pub LeaveFound : ℕ → ℕ → Word → (List (List ℕ) → List ℕ → List ℕ) → List Core → Type 0
LeaveFound x table key looked_at cores =
    (c : ℕ) (words : List ℕ) (tables : List (List ℕ)) (s : Cells) (n : ℕ) →
    (cores_after c words tables n (cores_at s (do_cores cores))).items ≡ [] →
    (cores_after c words tables n (cores_at s (do_cores cores))).ended ≡ false →
    (cores_after c words tables n (cores_at s (do_cores cores))).cells.vars ≡ with_found tables table x s.vars (first_with tables table (value_of s.vars key) (looked_at tables s.vars))
