-- A store in memory and the calls that it answered.
use Rattle.std.specs.Prelude.{◌≡◌, ℕ, List, Option, Some, None, refl}
use Rattle.std.specs.Coded.{Coded, code_by, coded×, coded_ℕ, coded_list, coded_option}
use Rattle.redn_outside.specs.Calls.{Call, Reads, Writes}
use Rattle.redn_outside.specs.StoreState.{StoreState, store_state_code}

pub record JournalState : Type 0 where
  pub store : StoreState
  pub calls : List Call

-- a call is stored as its name, with the limit of a read
abbrev pub parts_of : Call → List ℕ × Option ℕ
parts_of (Reads name limit) = (name, Some limit)
parts_of (Writes name) = (name, None)

abbrev pub call_by : List ℕ → Option ℕ → Call
call_by name (Some limit) = Reads name limit
call_by name None = Writes name

abbrev pub call_of_parts : (c : Call) → call_by (parts_of c).0 (parts_of c).1 ≡ c
call_of_parts (Reads name limit) = refl
call_of_parts (Writes name) = refl

abbrev pub call_code : Coded Call
call_code = code_by (List ℕ × Option ℕ) (coded× (coded_list coded_ℕ) (coded_option coded_ℕ)) parts_of (λ p. call_by p.0 p.1) call_of_parts

-- it is stored as the pair of both
abbrev pub journal_state_code : Coded JournalState
journal_state_code =
    code_by (StoreState × List Call) (coded× store_state_code (coded_list call_code))
    (λ s. (s.store, s.calls)) (λ p. record { store = p.0; calls = p.1 }) (λ _. refl)
