-- A text has one value, and a line has one list of values.
use Rattle.std.proofs.Common.{◌≡◌, ℕ, zero, suc, ◌+◌, ◌^◌, ◌<◌, ◌==◌, List, [], ◌∷◌, length, drop, refl, sym, ap, subst, ◌∙◌, inl, inr, arith}
use Rattle.std.specs.Prelude.{Ok, if◌then◌else◌}
use Rattle.std.proofs.lemmas.Bool.{cases_lt}
use Rattle.std.proofs.lemmas.List.{drop_at}
use Rattle.std.proofs.lemmas.Fmt.{decimal_injective}
use Rattle.hex.specs.Hex.{decode_sized}
use Rattle.hex.proofs.HexLemmas.{decode_of-same, decode_sized-ok, decode_sized-twice}
use Rattle.redn_words.specs.Words.{number, spelled}
use Rattle.redn_words.proofs.Numbers.{number-spelled}
use Rattle.redn_disasm.specs.declared.formats.Format.{Format}
use Rattle.redn_disasm.specs.declared.formats.Format.TheVariants.{Number, Kind, Order, Op, Hex}
use Rattle.redn_disasm.specs.Fields.{FieldsAre, IsRow, IsText, kind_word, order_word, op_word}
use Rattle.redn_disasm.proofs.FieldLists.{cut_of}
use Rattle.redn_disasm.proofs.Opcodes.{op_other}
use Rattle.redn_disasm.proofs.Pieces.{same_field}

-- a word of a table, told by its first byte and its length
abbrev mark : List ℕ → ℕ
mark [] = 0
mark (b ∷ word) = b + length word

abbrev kind_marked : ℕ → ℕ
kind_marked m = if m == 121 then 0 else (if m == 120 then 1 else (if m == 102 then 2 else (if m == 105 then 3 else 4)))

kind_back : (n : ℕ) → n < 5 → kind_marked (mark (kind_word n)) ≡ n
unfolding kind_word
kind_back zero h = refl
kind_back (suc zero) h = refl
kind_back (suc (suc zero)) h = refl
kind_back (suc (suc (suc zero))) h = refl
kind_back (suc (suc (suc (suc zero)))) h = refl
kind_back (suc (suc (suc (suc (suc n))))) h = absurd (omega arith)

abbrev order_marked : ℕ → ℕ
order_marked m = if m == 118 then 0 else 1

order_back : (n : ℕ) → n < 2 → order_marked (mark (order_word n)) ≡ n
unfolding order_word
order_back zero h = refl
order_back (suc zero) h = refl
order_back (suc (suc n)) h = absurd (omega arith)

-- noop 113, write 123, read 117, cas 101, add 99, send 118, wait 122, enable 106
abbrev op_marked : ℕ → ℕ
op_marked m =
    if m == 113 then 0 else (if m == 123 then 1 else (if m == 117 then 2 else (if m == 101 then 3 else (if m == 99 then 4 else (if m == 118 then 5 else (if m == 122 then 6 else 7))))))

op_back : (n : ℕ) → n < 8 → op_marked (mark (op_word n)) ≡ n
unfolding op_word
op_back zero h = refl
op_back (suc zero) h = refl
op_back (suc (suc zero)) h = refl
op_back (suc (suc (suc zero))) h = refl
op_back (suc (suc (suc (suc zero)))) h = refl
op_back (suc (suc (suc (suc (suc zero))))) h = refl
op_back (suc (suc (suc (suc (suc (suc zero)))))) h = refl
op_back (suc (suc (suc (suc (suc (suc (suc zero))))))) h = refl
op_back (suc (suc (suc (suc (suc (suc (suc (suc n)))))))) h = absurd (omega arith)

abbrev first : List ℕ → ℕ
first [] = 0
first (b ∷ word) = b

abbrev rest_of : List ℕ → List ℕ
rest_of [] = []
rest_of (b ∷ word) = word

-- no word of an opcode begins with a question mark
op_first : (n : ℕ) → n < 8 → first (op_word n) ≡ 63 → ⊥
unfolding op_word
op_first zero h e = omega arith
op_first (suc zero) h e = omega arith
op_first (suc (suc zero)) h e = omega arith
op_first (suc (suc (suc zero))) h e = omega arith
op_first (suc (suc (suc (suc zero)))) h e = omega arith
op_first (suc (suc (suc (suc (suc zero))))) h e = omega arith
op_first (suc (suc (suc (suc (suc (suc zero)))))) h e = omega arith
op_first (suc (suc (suc (suc (suc (suc (suc zero))))))) h e = omega arith
op_first (suc (suc (suc (suc (suc (suc (suc (suc n)))))))) h e = absurd (omega arith)

same_op : (n m : ℕ) → n < 2 ^ 16 → m < 2 ^ 16 → op_word n ≡ op_word m → n ≡ m
same_op n m a b e =
    elim (cases_lt n 8) [
      | inl low ↦ elim (cases_lt m 8) [
        | inl low' ↦ sym (op_back n low) ∙ ap (λ (w : List ℕ). op_marked (mark w)) e ∙ op_back m low'
        | inr high' ↦ absurd (op_first n low (ap first (e ∙ op_other m high')))
      ]
      | inr high ↦ elim (cases_lt m 8) [
        | inl low' ↦ absurd (op_first m low' (ap first (sym e ∙ op_other n high)))
        | inr high' ↦ decimal_injective n m (omega arith) (omega arith) (ap rest_of (sym (op_other n high) ∙ e ∙ op_other m high'))
      ]
    ]

same_word : (n m : ℕ) → n < 2 ^ 64 → m < 2 ^ 64 → spelled 8 n ≡ spelled 8 m → n ≡ m
same_word n m a b e = sym (number-spelled 8 n a) ∙ ap (λ (l : List ℕ). number 8 l 0) e ∙ number-spelled 8 m b

same_hex : (text a b : List ℕ) → decode_sized text 8 ≡ Ok a → decode_sized text 8 ≡ Ok b → a ≡ b
same_hex text a b e f =
    let digits : length text ≡ 16 = decode_sized-ok text 8 a e in
    decode_of-same text a b (sym (decode_sized-twice text 8 digits) ∙ e) (sym (decode_sized-twice text 8 digits) ∙ f)

pub same_value : (f : Format) (text : List ℕ) (n m : ℕ) → IsText f text n → IsText f text m → n ≡ m
same_value (Number most) text n m a b = decimal_injective n m a.2 b.2 (sym a.0 ∙ b.0)
same_value Kind text n m a b = sym (kind_back n a.1) ∙ ap (λ (w : List ℕ). kind_marked (mark w)) (sym a.0 ∙ b.0) ∙ kind_back m b.1
same_value Order text n m a b = sym (order_back n a.1) ∙ ap (λ (w : List ℕ). order_marked (mark w)) (sym a.0 ∙ b.0) ∙ order_back m b.1
same_value Op text n m a b = same_op n m a.1 b.1 (sym a.0 ∙ b.0)
same_value Hex text n m a b = same_word n m a.1 b.1 (same_hex text _ _ a.0 b.0)

pub same_values : (formats : List Format) (text values others : List ℕ) → FieldsAre formats text values → FieldsAre formats text others → values ≡ others
same_values [] text [] [] a b = refl
same_values [] text [] (m ∷ others) a b = absurd b
same_values [] text (n ∷ values) others a b = absurd a
same_values (f ∷ formats) text [] others a b = absurd a
same_values (f ∷ formats) text (n ∷ values) [] a b = absurd b
same_values (f ∷ formats) text (n ∷ values) (m ∷ others) a b =
    let same = same_field text a.0 a.1 b.0 b.1 (cut_of f formats text n values a) (cut_of f formats text m others b) in
    let one : n ≡ m = same_value f a.0 n m a.3 (subst (λ (t : List ℕ). IsText f t m) (sym same.0) b.3) in
    let more : values ≡ others = same_values formats a.1 values others a.4 (subst (λ (t : List ℕ). FieldsAre formats t others) (sym same.1) b.4) in
    ap (λ (k : ℕ). k ∷ values) one ∙ ap (λ (l : List ℕ). m ∷ l) more

pub one_row : (word : List ℕ) (formats : List Format) (line values others : List ℕ) → IsRow word formats line values → IsRow word formats line others → values ≡ others
one_row word formats line values others a b =
    let same : a.0 ≡ b.0 = sym (drop_at word a.0 (length word) refl) ∙ ap (drop (length word)) (sym a.1 ∙ b.1) ∙ drop_at word b.0 (length word) refl in
    same_values formats b.0 values others (subst (λ (t : List ℕ). FieldsAre formats t values) same a.2) b.2

-- the first value of a line
pub one_number : (word : List ℕ) (formats : List Format) (line : List ℕ) (k j : ℕ) (values others : List ℕ) → IsRow word formats line (k ∷ values) → IsRow word formats line (j ∷ others) → k ≡ j
one_number word formats line k j values others a b = ap first (one_row word formats line (k ∷ values) (j ∷ others) a b)
