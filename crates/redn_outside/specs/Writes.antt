-- What a write answers.
use Rattle.std.specs.Prelude.{Result, Ok, Err}
use Rattle.redn_outside.specs.declared.store.WriteFault.{WriteFault}
use Rattle.redn_outside.specs.declared.store.WriteFault.TheVariants.{Failed, Memory}

module _ {T : Type 0} where
  -- P, where the write failed
  abbrev pub OnFailed : Result T WriteFault → Type 0 → Type 0
  OnFailed (Ok done) P = Unit {0}
  OnFailed (Err Failed) P = P
  OnFailed (Err Memory) P = Unit {0}

  -- P, where memory was wanting
  abbrev pub OnMemory : Result T WriteFault → Type 0 → Type 0
  OnMemory (Ok done) P = Unit {0}
  OnMemory (Err Failed) P = Unit {0}
  OnMemory (Err Memory) P = P
