-- Faults of a file, and which of them is told.
use Rattle.std.specs.Prelude.{◌≡◌, ℕ, Bool, true, false, ◌&&◌, ◌||◌, ◌==◌, nat_lt, if◌then◌else◌, List, [], ◌∷◌, ◌++◌, All, Option, Some, None}
use Rattle.redn_check.specs.declared.fault.Fault.{Fault}

abbrev pub fault : ℕ → ℕ → ℕ → Fault
fault rule at seen = record { rule = rule; at = at; seen = seen }

-- this fault where the test holds, else none
abbrev pub when : Bool → Fault → List Fault
when broken f = if broken then f ∷ [] else []

-- at a lesser place, or at the same place by a lesser rule
abbrev pub comes_before : Fault → Fault → Bool
comes_before a b = nat_lt a.at b.at || (a.at == b.at && nat_lt a.rule b.rule)

-- the one that is told: none comes before it, and it comes before each that stands before it in the list
pub record IsFirst (f : Fault) (faults : List Fault) : Type 0 where
  pub earlier : List Fault
  pub later : List Fault
  pub split : faults ≡ earlier ++ f ∷ later
  pub before_earlier : All (λ g. comes_before f g ≡ true) earlier
  pub none_before : All (λ g. comes_before g f ≡ false) later

-- the one of two that is told
abbrev pub earlier_of : Fault → Fault → Fault
earlier_of a b = if comes_before b a then b else a

abbrev pub earlier : Option Fault → Option Fault → Option Fault
earlier None b = b
earlier (Some a) None = Some a
earlier (Some a) (Some b) = Some (earlier_of a b)

-- the one of a list that is told
abbrev pub first_of : List Fault → Option Fault
first_of [] = None
first_of (f ∷ faults) = earlier (Some f) (first_of faults)
