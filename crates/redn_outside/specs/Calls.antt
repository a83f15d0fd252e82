-- The calls of a store, in the order in which they were answered. One that wanted memory is none.
use Rattle.std.specs.Prelude.{ℕ, List, [], ◌∷◌, ◌++◌, Option, Result, Ok, Err, string_bytes}
use Rattle.std.specs.Option.{option_map}
use Rattle.redn_outside.specs.declared.store.ReadFault.{ReadFault}
use Rattle.redn_outside.specs.declared.store.ReadFault.TheVariants as read
use Rattle.redn_outside.specs.declared.store.WriteFault.{WriteFault}
use Rattle.redn_outside.specs.declared.store.WriteFault.TheVariants as write
use Rattle.redn_outside.specs.declared.store.StoreCall.{StoreCall}
use Rattle.redn_outside.specs.declared.store.StoreCall.TheVariants as called

-- a read of a name, of so many bytes at most, or a write under a name
pub data Call : Type 0 where
  Reads : (name : List ℕ) (limit : ℕ) → Call
  Writes : (name : List ℕ) → Call

-- the calls and some more, where they are told
abbrev pub and_calls : List Call → Option (List Call) → Option (List Call)
and_calls more = option_map (λ calls. calls ++ more)

module _ {T : Type 0} where
  -- the calls of a read, by its answer
  abbrev pub calls_of_read : List ℕ → ℕ → Result T ReadFault → List Call
  calls_of_read name limit (Ok bytes) = Reads name limit ∷ []
  calls_of_read name limit (Err read.Failed) = Reads name limit ∷ []
  calls_of_read name limit (Err read.Missing) = Reads name limit ∷ []
  calls_of_read name limit (Err (read.Long seen)) = Reads name limit ∷ []
  calls_of_read name limit (Err read.Memory) = []

  -- the calls of a write, by its answer
  abbrev pub calls_of_write : List ℕ → Result T WriteFault → List Call
  calls_of_write name (Ok done) = Writes name ∷ []
  calls_of_write name (Err write.Failed) = Writes name ∷ []
  calls_of_write name (Err write.Memory) = []

-- how a call that is kept is seen
abbrev pub call_view : StoreCall → Call
call_view (called.Read name limit) = Reads (string_bytes name) limit
call_view (called.Write name) = Writes (string_bytes name)
