-- The fields of a line, read one after the other.
use Rattle.std.proofs.Common.{◌≡◌, ℕ, ◌+◌, ◌<◌, ◌≤◌, true, false, List, [], ◌∷◌, ◌++◌, length, take, drop, set, get_or, refl, sym, ap, subst, ◌∙◌, add-one, arith, append_assoc, append-nil, drop-cons}
use Rattle.std.specs.Prelude.{codes, Ok, Err, Result, MatchResult}
use Rattle.std.specs.Prelude.{nat_eq}
use Rattle.std.specs.List.{list_all, prefix_len, AllPass}
use Rattle.std.specs.Cmp.Lexicographic.{pointwise, bytes_decides}
use Rattle.std.proofs.lemmas.Bool.Decides.{nat_tests}
use Rattle.std.proofs.lemmas.List.{take_all, drop_all, take_more_set, take_at, drop_at, take-append-drop}
use Rattle.std.proofs.lemmas.List.Sums.{list_all-from_AllPass}
use Rattle.hex.specs.declared.error.FromHexError.{FromHexError}
use Rattle.hex.specs.Hex.{decode_sized, is_hex_digit}
use Rattle.hex.proofs.HexLemmas.{decode_sized-ok, decode_sized-twice, decode_of-ok}
use Rattle.redn_words.specs.Words.{number, spelled}
use Rattle.redn_words.proofs.Digits.{spelled-number}
use Rattle.redn_disasm.specs.declared.formats.Format.{Format}
use Rattle.redn_disasm.specs.declared.formats.Format.TheVariants.{Number, Kind, Order, Op, Hex}
use Rattle.redn_disasm.specs.Assembly.{is_inside}
use Rattle.redn_disasm.specs.Fields.{FieldsAre, IsRow, IsText}
use Rattle.redn_disasm.specs.Reading.{AllFit, IsField, greatest}
use Rattle.redn_disasm.proofs.Opcodes.{kind_inside, op_inside, order_inside}
use Rattle.redn_disasm.proofs.Pieces.{decimal_inside, same_field}

decoded_to : (d : Result (List ℕ) FromHexError) (r : Result (Unit {0}) FromHexError) (out : List ℕ) → MatchResult d (λ bytes. (r ≡ Ok tt) × (out ≡ bytes)) (λ e. r ≡ Err e) → r ≡ Ok tt → d ≡ Ok out
decoded_to (Ok bytes) r out h e = ap Ok (sym h.1)
decoded_to (Err x) r out h e = absurd (cc)

-- the word that was decoded
pub hex_read : (text out : List ℕ) (r : Result (Unit {0}) FromHexError) (n : ℕ) → MatchResult (decode_sized text 8) (λ bytes. (r ≡ Ok tt) × (out ≡ bytes)) (λ e. r ≡ Err e) → r ≡ Ok tt → n ≡ number 8 out 0 → decode_sized text 8 ≡ Ok (spelled 8 n)
hex_read text out r n h e is =
    let d : decode_sized text 8 ≡ Ok out = decoded_to (decode_sized text 8) r out h e in
    let digits : length text ≡ 16 = decode_sized-ok text 8 out d in
    let all = decode_of-ok text out (sym (decode_sized-twice text 8 digits) ∙ d) in
    let size : length out ≡ 8 = omega (arith, all.2) in
    let back : spelled 8 (number 8 out 0) ≡ out = spelled-number 8 out 0 (omega arith) all.3 ∙ take_all 8 out (omega arith) in
    d ∙ ap Ok (sym back ∙ ap (spelled 8) (sym is))

digit_inside : (b : ℕ) → is_hex_digit b ≡ true → is_inside b ≡ true
digit_inside b h = grind (arith, nat_tests)

digits_inside : (text : List ℕ) → AllPass is_hex_digit text → list_all is_inside text ≡ true
digits_inside text h = list_all-from_AllPass is_inside text (λ k d low. digit_inside (get_or text k d) (h k d low))

hex_inside : (text bytes : List ℕ) → decode_sized text 8 ≡ Ok bytes → list_all is_inside text ≡ true
hex_inside text bytes d =
    let digits : length text ≡ 16 = decode_sized-ok text 8 bytes d in
    digits_inside text (decode_of-ok text bytes (sym (decode_sized-twice text 8 digits) ∙ d)).1

-- no field has a space or a newline
pub text_inside : (f : Format) (text : List ℕ) (n : ℕ) → IsText f text n → list_all is_inside text ≡ true
text_inside (Number most) text n h = ap (list_all is_inside) h.0 ∙ decimal_inside n h.2
text_inside Kind text n h = ap (list_all is_inside) h.0 ∙ kind_inside n
text_inside Order text n h = ap (list_all is_inside) h.0 ∙ order_inside n
text_inside Op text n h = ap (list_all is_inside) h.0 ∙ op_inside n (let small = h.1 in omega arith)
text_inside Hex text n h = hex_inside text _ h.0

-- fields begin with a space, or a newline
pub fields_stop : (formats : List Format) (rest values : List ℕ) → FieldsAre formats rest values → prefix_len is_inside rest ≡ 0
fields_stop [] rest [] h = ap (prefix_len is_inside) h
fields_stop [] rest (n ∷ values) h = absurd h
fields_stop (f ∷ formats) rest [] h = absurd h
fields_stop (f ∷ formats) rest (n ∷ values) h = ap (prefix_len is_inside) h.2

pub cut_of : (f : Format) (formats : List Format) (text : List ℕ) (n : ℕ) (values : List ℕ) (h : FieldsAre (f ∷ formats) text (n ∷ values)) → IsField text h.0 h.1
cut_of f formats text n values h = record { is = h.2; inside = text_inside f h.0 n h.3; stops = fields_stop formats h.1 values h.4 }

-- the first of some fields
pub record First (f : Format) (formats : List Format) (text : List ℕ) : Type 0 where
  pub value : ℕ
  pub field : List ℕ
  pub behind : List ℕ
  pub others : List ℕ
  pub cut : IsField text field behind
  pub its : IsText f field value
  pub rest : FieldsAre formats behind others

pub first_field : (f : Format) (formats : List Format) (text values : List ℕ) → FieldsAre (f ∷ formats) text values → First f formats text
first_field f formats text [] h = absurd h
first_field f formats text (n ∷ values) h =
    record {
      value = n;
      field = h.0;
      behind = h.1;
      others = values;
      cut = cut_of f formats text n values h;
      its = h.3;
      rest = h.4;
    }

-- what is read of fields: those that the rest has make the whole, and where the whole has fields so has the rest
pub record ReadTo (formats : List Format) (text values rest : List ℕ) (i : ℕ) : Type 0 where
  pub done : (others : List ℕ) → FieldsAre (drop i formats) rest others → FieldsAre formats text (take i values ++ others)
  pub left : (all : List ℕ) → FieldsAre formats text all → (others : List ℕ) × FieldsAre (drop i formats) rest others

pub read_none : (formats : List Format) (text values : List ℕ) → ReadTo formats text values text 0
read_none formats text values = record { done = λ others h. h; left = λ all h. (all, h) }

here : (formats : List Format) (i : ℕ) (d : Format) → i < length formats → drop i formats ≡ get_or formats i d ∷ drop (i + 1) formats
here formats i d low = drop-cons formats i d low ∙ ap (λ (n : ℕ). get_or formats i d ∷ drop n formats) (sym (add-one i))

-- the next field, where there is one
pub next_is : (formats : List Format) (text values rest all : List ℕ) (i : ℕ) (d : Format) → i < length formats → ReadTo formats text values rest i → FieldsAre formats text all → First (get_or formats i d) (drop (i + 1) formats) rest
next_is formats text values rest all i d low r h =
    let l = r.left all h in
    first_field (get_or formats i d) (drop (i + 1) formats) rest l.0 (subst (λ (fs : List Format). FieldsAre fs rest l.0) (here formats i d low) l.1)

pub read_more : (formats : List Format) (text values rest field behind : List ℕ) (i v : ℕ) (d : Format) → i < length formats → length values ≡ length formats → ReadTo formats text values rest i → IsField rest field behind → IsText (get_or formats i d) field v → ReadTo formats text (set values i v) behind (i + 1)
read_more formats text values rest field behind i v d low size r cut its =
    record {
      done = λ others h.
          let whole : FieldsAre formats text (take i values ++ v ∷ others) = r.done (v ∷ others) (subst (λ (fs : List Format). FieldsAre fs rest (v ∷ others)) (sym (here formats i d low)) (field, behind, cut.is, its, h)) in
          let same : take i values ++ v ∷ others ≡ take (i + 1) (set values i v) ++ others = sym (append_assoc (take i values) (v ∷ []) others) ∙ ap (λ (l : List ℕ). l ++ others) (sym (take_more_set values i v (omega arith))) in
          subst (FieldsAre formats text) same whole;
      left = λ all h.
          let n = next_is formats text values rest all i d low r h in
          let same = same_field rest n.field n.behind field behind n.cut cut in
          (n.others, subst (λ (l : List ℕ). FieldsAre (drop (i + 1) formats) l n.others) same.1 n.rest);
    }

pub read_all : (formats : List Format) (text values rest : List ℕ) (i : ℕ) → length formats ≤ i → length values ≡ length formats → ReadTo formats text values rest i → rest ≡ codes "\n" → FieldsAre formats text values
read_all formats text values rest i past size r e =
    let none : drop i formats ≡ [] = drop_all i formats past in
    let whole : FieldsAre formats text (take i values ++ []) = r.done [] (subst (λ (fs : List Format). FieldsAre fs rest []) (sym none) e) in
    subst (FieldsAre formats text) (append-nil (take i values) ∙ take_all i values (omega arith)) whole

-- a line that begins with a word
pub word_first : (line word rest : List ℕ) → pointwise nat_eq (take (length word) line) word ≡ true → rest ≡ drop (length word) line → line ≡ word ++ rest
word_first line word rest e r =
    let front : take (length word) line ≡ word = (bytes_decides _ _).0 e in
    sym (take-append-drop (length word) line) ∙ ap (λ (l : List ℕ). l ++ drop (length word) line) front ∙ ap (λ (l : List ℕ). word ++ l) (sym r)

pub no_row : (line word values : List ℕ) (formats : List Format) → pointwise nat_eq (take (length word) line) word ≡ false → IsRow word formats line values → ⊥
no_row line word values formats e h =
    let front : take (length word) line ≡ word = ap (take (length word)) h.1 ∙ take_at word h.0 (length word) refl in
    let yes = (bytes_decides _ _).1 front in
    absurd (cc)

pub no_fields : (line word rest values : List ℕ) (formats : List Format) → rest ≡ drop (length word) line → ((all : List ℕ) → FieldsAre formats rest all → ⊥) → IsRow word formats line values → ⊥
no_fields line word rest values formats r none h =
    let same : h.0 ≡ rest = sym (drop_at word h.0 (length word) refl) ∙ ap (drop (length word)) (sym h.1) ∙ sym r in
    none values (subst (λ (l : List ℕ). FieldsAre formats l values) same h.2)

-- a field without a value
pub no_text : (formats : List Format) (text values rest field behind : List ℕ) (i : ℕ) (d : Format) → i < length formats → ReadTo formats text values rest i → IsField rest field behind → ((n : ℕ) → IsText (get_or formats i d) field n → ⊥) → (all : List ℕ) → FieldsAre formats text all → ⊥
no_text formats text values rest field behind i d low r cut none all h =
    let first = next_is formats text values rest all i d low r h in
    let same = same_field rest first.field first.behind field behind first.cut cut in
    none first.value (subst (λ (t : List ℕ). IsText (get_or formats i d) t first.value) same.0 first.its)

text_fits : (f : Format) (text : List ℕ) (n : ℕ) → IsText f text n → n ≤ greatest f
text_fits (Number most) text n h = h.1
text_fits Kind text n h = let few = h.1 in omega arith
text_fits Order text n h = let few = h.1 in omega arith
text_fits Op text n h = let few = h.1 in omega arith
text_fits Hex text n h = let few = h.1 in omega arith

pub fields_fit : (formats : List Format) (text values : List ℕ) → FieldsAre formats text values → AllFit formats values
fields_fit [] text values h = tt
fields_fit (f ∷ formats) text [] h = absurd h
fields_fit (f ∷ formats) text (n ∷ values) h = (text_fits f h.0 n h.3, fields_fit formats h.1 values h.4)
