-- What a read answers.
use Rattle.std.specs.Prelude.{ℕ, Result, Ok, Err}
use Rattle.redn_outside.specs.declared.store.ReadFault.{ReadFault}
use Rattle.redn_outside.specs.declared.store.ReadFault.TheVariants.{Failed, Missing, Long, Memory}

module _ {T : Type 0} where
  -- P, where the read failed
  abbrev pub OnFailed : Result T ReadFault → Type 0 → Type 0
  OnFailed (Ok bytes) P = Unit {0}
  OnFailed (Err Failed) P = P
  OnFailed (Err Missing) P = Unit {0}
  OnFailed (Err (Long seen)) P = Unit {0}
  OnFailed (Err Memory) P = Unit {0}

  -- P, where there is no such file
  abbrev pub OnMissing : Result T ReadFault → Type 0 → Type 0
  OnMissing (Ok bytes) P = Unit {0}
  OnMissing (Err Failed) P = Unit {0}
  OnMissing (Err Missing) P = P
  OnMissing (Err (Long seen)) P = Unit {0}
  OnMissing (Err Memory) P = Unit {0}

  -- P of the bytes seen, where the file is too long
  abbrev pub IfLong : Result T ReadFault → (ℕ → Type 0) → Type 0
  IfLong (Ok bytes) P = Unit {0}
  IfLong (Err Failed) P = Unit {0}
  IfLong (Err Missing) P = Unit {0}
  IfLong (Err (Long seen)) P = P seen
  IfLong (Err Memory) P = Unit {0}

  -- P, where memory was wanting
  abbrev pub OnMemory : Result T ReadFault → Type 0 → Type 0
  OnMemory (Ok bytes) P = Unit {0}
  OnMemory (Err Failed) P = Unit {0}
  OnMemory (Err Missing) P = Unit {0}
  OnMemory (Err (Long seen)) P = Unit {0}
  OnMemory (Err Memory) P = P
