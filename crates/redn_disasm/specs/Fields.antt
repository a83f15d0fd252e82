-- The fields of a line, and the values that they stand for.
use Rattle.std.specs.Prelude.{◌≡◌, ℕ, ◌^◌, ◌<◌, ◌≤◌, ◌==◌, if◌then◌else◌, List, [], ◌∷◌, ◌++◌, codes, decimal, Ok}
use Rattle.hex.specs.Hex.{decode_sized}
use Rattle.redn_words.specs.Words.{spelled}
use Rattle.redn_disasm.specs.declared.formats.Format.{Format}
use Rattle.redn_disasm.specs.declared.formats.Format.TheVariants as format

-- the word of a region's kind, by its number
unfoldable pub kind_word : ℕ → List ℕ
kind_word k =
    if k == 0 then codes "vars" else (
    if k == 1 then codes "table" else (
    if k == 2 then codes "code" else (if k == 3 then codes "control" else codes "message")))

-- the word of a queue's order: 1 is managed
unfoldable pub order_word : ℕ → List ℕ
order_word n = if n == 0 then codes "ordinary" else codes "managed"

-- the word of an opcode's number
unfoldable pub op_word : ℕ → List ℕ
op_word n =
    if n == 0 then codes "noop" else (
    if n == 1 then codes "write" else (
    if n == 2 then codes "read" else (
    if n == 3 then codes "cas" else (
    if n == 4 then codes "add" else (
    if n == 5 then codes "send" else (
    if n == 6 then codes "wait" else (if n == 7 then codes "enable" else codes "?" ++ decimal n)))))))

-- a text is that of a value in this format: a number of 64 bits that is at most so large, a word, or a word's bytes in hexadecimal
-- digits of either case
abbrev pub IsText : Format → List ℕ → ℕ → Type 0
IsText (format.Number most) text n = (text ≡ decimal n) × (n ≤ most) × (n < 2 ^ 64)
IsText format.Kind text n = (text ≡ kind_word n) × (n < 5)
IsText format.Order text n = (text ≡ order_word n) × (n < 2)
IsText format.Op text n = (text ≡ op_word n) × (n < 2 ^ 16)
IsText format.Hex text n = (decode_sized text 8 ≡ Ok (spelled 8 n)) × (n < 2 ^ 64)

-- fields behind one space each, and a newline
abbrev pub FieldsAre : List Format → List ℕ → List ℕ → Type 0
FieldsAre [] text [] = text ≡ codes "\n"
FieldsAre [] text (n ∷ values) = ⊥
FieldsAre (f ∷ formats) text [] = ⊥
FieldsAre (f ∷ formats) text (n ∷ values) = (field rest : List ℕ) × (text ≡ codes " " ++ (field ++ rest)) × IsText f field n × FieldsAre formats rest values

-- a line is this word with the fields of these values
abbrev pub IsRow : List ℕ → List Format → List ℕ → List ℕ → Type 0
IsRow word formats line values = (rest : List ℕ) × (line ≡ word ++ rest) × FieldsAre formats rest values
