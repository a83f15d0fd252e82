-- What an answer is, unless memory runs out.
use Rattle.std.specs.Prelude.{◌≡◌, ◌⊎◌, Result, Ok, Err}
use Rattle.redn_check.specs.declared.fault.CheckFault.{CheckFault}
use Rattle.redn_check.specs.declared.fault.CheckFault.TheVariants.{Memory}

-- the answer is this fault, unless memory runs out
abbrev pub FailsWith : {T : Type 0} → Result T CheckFault → CheckFault → Type 0
FailsWith (Ok x) fault = ⊥
FailsWith (Err e) fault = (e ≡ fault) ⊎ (e ≡ Memory)

-- the answer is an Ok of which this holds, unless memory runs out
abbrev pub Gives : {T : Type 0} → Result T CheckFault → (T → Type 0) → Type 0
Gives (Ok x) P = P x
Gives (Err e) P = e ≡ Memory
