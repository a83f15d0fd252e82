-- Rows that break the same rules.
use Rattle.std.specs.Prelude.{◌≡◌, ℕ, ◌≤◌, Bool, true, ◌&&◌, ◌==◌, if◌then◌else◌, nat_lt, List, [], ◌∷◌}
use Rattle.redn_image.specs.declared.numbers.QueueNumbers.{QueueNumbers}
use Rattle.redn_image.specs.declared.numbers.RegionNumbers.{RegionNumbers}
use Rattle.redn_image.specs.Rules.{kind_is_known}

-- a kind's number with its table's
abbrev pub is_known : ℕ → ℕ → Bool
is_known kind table = nat_lt kind 5 && (if kind == 1 then nat_lt table 64 else table == 0)

-- a row that breaks the rules that another does, and is that row where it breaks none
pub record StandsForRegion (r s : RegionNumbers) : Type 0 where
  pub key : s.key ≡ r.key
  pub domain : s.domain ≡ r.domain
  pub base : s.base ≡ r.base
  pub len : s.len ≡ r.len
  pub known : kind_is_known [] s ≡ kind_is_known [] r
  pub granted : nat_lt s.rights 16 ≡ nat_lt r.rights 16
  pub kind : kind_is_known [] r ≡ true → (s.kind ≡ r.kind) × (s.table ≡ r.table)
  pub rights : nat_lt r.rights 16 ≡ true → s.rights ≡ r.rights

pub record StandsForQueue (q s : QueueNumbers) : Type 0 where
  pub domain : (chains : ℕ) → chains ≤ 16 → nat_lt s.domain chains ≡ nat_lt q.domain chains
  pub same : (chains : ℕ) → chains ≤ 16 → nat_lt q.domain chains ≡ true → s.domain ≡ q.domain
  pub managed : s.managed ≡ q.managed
  pub base : s.base ≡ q.base
  pub slots : s.slots ≡ q.slots
  pub limit : s.limit ≡ q.limit

-- the same row by row
abbrev pub StandFor : {X : Type 0} → (X → X → Type 0) → List X → List X → Type 0
StandFor P [] [] = Unit {0}
StandFor P [] (y ∷ ys) = ⊥
StandFor P (x ∷ xs) [] = ⊥
StandFor P (x ∷ xs) (y ∷ ys) = P x y × StandFor P xs ys
