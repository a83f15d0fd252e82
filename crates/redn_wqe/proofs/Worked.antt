-- The fields of one slot, computed.
use Rattle.std.proofs.Common.{◌≡◌, ℕ, List, [], ◌∷◌, ◌++◌, refl, replicate}
use Rattle.redn_words.specs.Words.{number}
use Rattle.redn_words.specs.Requests.{decoded}
use Rattle.redn_wqe.specs.declared.fields.Field.TheVariants.{Op, Id, Rkey, Second, Flags}
use Rattle.redn_wqe.specs.Fields.{place_of, width_of, field_of}

-- a compare-and-swap with identifier 260, remote key 1, swap value 256, signalled
slot : List ℕ
slot =
    0 ∷ 3 ∷ 0 ∷ 0 ∷ 0 ∷ 0 ∷ 1 ∷ 4 ∷ 0 ∷ 0 ∷ 0 ∷ 2 ∷ 0 ∷ 0 ∷ 0 ∷ 1 ∷ (replicate 32 0 ++ 0 ∷ 0 ∷ 0 ∷ 0 ∷ 0 ∷ 0 ∷ 1 ∷ 0 ∷ 0 ∷ 0 ∷ 0 ∷ 0 ∷ 0 ∷ 0 ∷ 0 ∷ 1 ∷ [])

opcode_there : number (width_of Op) slot (place_of Op) ≡ 3
unfolding slot number
opcode_there = refl

identifier_there : number (width_of Id) slot (place_of Id) ≡ 260
unfolding slot number
identifier_there = refl

key_there : number (width_of Rkey) slot (place_of Rkey) ≡ 1
unfolding slot number
key_there = refl

operand_there : number (width_of Second) slot (place_of Second) ≡ 256
unfolding slot number
operand_there = refl

flags_there : field_of Flags (decoded slot) ≡ 1
unfolding slot decoded number
flags_there = refl
