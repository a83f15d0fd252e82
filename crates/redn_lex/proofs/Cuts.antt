-- Where tokens end, and where none stands.
use Rattle.std.proofs.Common.{◌≡◌, ◌≢◌, ◌^◌, ◌<◌, ◌≤◌, ◌+◌, ℕ, ◌⊎◌, inl, inr, Bool, true, false, ◌==◌, ◌||◌, ◌&&◌, List, [], ◌∷◌, ◌++◌, length, get_or, take, drop, sym, refl, ap, ◌∙◌, subst, arith, append_assoc, length-append}
use Rattle.std.proofs.lemmas.Bool.{and_from, and_parts, or_cases, eqb-true, false_from_ne_true, cases_lt}
use Rattle.std.proofs.lemmas.Bool.Decides.{nat_tests}
use Rattle.std.proofs.lemmas.List.{append_cancel_left, take-append-drop, length-take-le, length-drop}
use Rattle.std.specs.List.{list_all}
use Rattle.std.specs.Char.{is_digit}
use Rattle.redn_syntax.specs.declared.token.TokenKind.{TokenKind}
use Rattle.redn_syntax.specs.declared.token.TokenKind.TheVariants.{Name, Number}
use Rattle.redn_syntax.specs.Bytes.{is_letter, is_name_byte}
use Rattle.redn_syntax.specs.Tokens.{spelling, IsNumber, IsToken, HasShape, BeginsWord, EndsBefore}
use Rattle.redn_syntax.proofs.TokenFacts.{name_byte_letter, name_byte_digit}
use Rattle.redn_lex.specs.Fronts.{IsFront, IsStuck, IsWide, NoneBehind}
use Rattle.redn_syntax.proofs.Shapes.{shape_by_letter, shape_by_digit, shape_by_mark, token_shape, token_nonempty, letter_token, digit_token, mark_token, length-spelling, all_at, all_front, letter_undigit, first_digit, number_grows, number_step}

-- ---- lists with one front in common

-- the list begins with no byte that passes
abbrev pub Fails : (ℕ → Bool) → List ℕ → Type 0
Fails p [] = Unit {0}
Fails p (b ∷ bytes) = p b ≡ false

-- of two fronts of one text, one is a front of the other
pub data Compared (xs ys : List ℕ) : Type 0 where
  is_same : xs ≡ ys → Compared xs ys
  is_shorter : (b : ℕ) (more : List ℕ) → ys ≡ xs ++ b ∷ more → Compared xs ys
  is_longer : (b : ℕ) (more : List ℕ) → xs ≡ ys ++ b ∷ more → Compared xs ys

pub compare : (xs ys us vs : List ℕ) → xs ++ us ≡ ys ++ vs → Compared xs ys
compare [] [] us vs e = is_same refl
compare [] (y ∷ ys) us vs e = is_shorter y ys refl
compare (x ∷ xs) [] us vs e = is_longer x xs refl
compare (x ∷ xs) (y ∷ ys) us vs e = step (compare xs ys us vs cc)
  where
    head : x ≡ y
    head = cc

    step : Compared xs ys → Compared (x ∷ xs) (y ∷ ys)
    step (is_same s) = is_same (λ i. head i ∷ s i)
    step (is_shorter b more s) = is_shorter b more (λ i. sym head i ∷ s i)
    step (is_longer b more s) = is_longer b more (λ i. head i ∷ s i)

-- the longer of two fronts begins with the other
pub begins_with : (xs ys us vs : List ℕ) → xs ++ us ≡ ys ++ vs → length ys ≤ length xs → (zs : List ℕ) × (xs ≡ ys ++ zs)
begins_with xs [] us vs e h = (xs, refl)
begins_with [] (y ∷ ys) us vs e h = absurd (omega arith)
begins_with (x ∷ xs) (y ∷ ys) us vs e h =
    let head : x ≡ y = cc in
    let found = begins_with xs ys us vs (cc) (omega arith) in
    (found.0, λ i. head i ∷ found.1 i)

-- the byte behind a front that is shorter than a run of bytes is one of the run
pub next_in : (p : ℕ → Bool) (xs ys run rest : List ℕ) (r : ℕ) → xs ++ r ∷ ys ≡ run ++ rest → length xs < length run → list_all p run ≡ true → p r ≡ true
next_in p xs ys [] rest r e short h = absurd (omega arith)
next_in p [] ys (b ∷ run) rest r e short h = let same : r ≡ b = cc in ap p same ∙ all_at p [] b run h
next_in p (x ∷ xs) ys (b ∷ run) rest r e short h = next_in p xs ys run rest r (cc) (omega arith) (all_front p (b ∷ []) run h).1

-- a front that is longer than a front has a byte behind that
pub behind : (xs ys : List ℕ) → length xs < length (xs ++ ys) → (y : ℕ) × (more : List ℕ) × (ys ≡ y ∷ more)
behind xs [] h = absurd (omega (arith, length-append {A = ℕ} xs []))
behind xs (y ∷ more) h = (y, more, refl)

-- ---- words

module _ (b : ℕ) (bytes rest : List ℕ) (letter : is_letter b ≡ true) (named : list_all is_name_byte bytes ≡ true) (stops : Fails is_name_byte rest) where
  pub word_ends : EndsBefore (b ∷ bytes) rest
  word_ends = record {
    longest = λ more others e shape. longest rest stops more others e shape;
    whole = λ _ begins. whole rest stops begins;
  }
    where
      longest : (after : List ℕ) → Fails is_name_byte after → (more others : List ℕ) → after ≡ more ++ others → HasShape (b ∷ (bytes ++ more)) → more ≡ []
      longest after fails [] others e shape = refl
      longest [] fails (m ∷ more) others e shape = cc
      longest (r ∷ after) fails (m ∷ more) others e shape =
          let all = shape_by_letter b (bytes ++ m ∷ more) letter shape in
          let passes = all_at is_name_byte bytes m more all in
          let first : r ≡ m = cc in
          cc (passes, fails, first)

      whole : (after : List ℕ) → Fails is_name_byte after → BeginsWord after → ⊥
      whole [] fails begins = begins
      whole (r ∷ after) fails begins = cc (fails, begins)

-- what begins with a letter and is longer than 32 bytes stops at the 33rd
pub word_stuck : (b : ℕ) (bytes rest : List ℕ) → is_letter b ≡ true → list_all is_name_byte bytes ≡ true → 32 < length (b ∷ bytes) → IsStuck (b ∷ (bytes ++ rest)) 32
word_stuck b bytes rest letter named long =
    let cut : take 31 bytes ++ drop 31 bytes ≡ bytes = take-append-drop 31 bytes in
    let size : length (take 31 bytes) ≡ 31 = length-take-le 31 bytes (omega arith) in
    let fronts = all_front is_name_byte (take 31 bytes) (drop 31 bytes) (ap (list_all is_name_byte) cut ∙ named) in
    go (drop 31 bytes) cut size fronts.0 (omega (arith, length-drop 31 bytes))
  where
    first : b ≡ b → is_name_byte b ≡ true
    first _ = name_byte_letter b letter

    none : (front : List ℕ) → length front ≡ 32 → NoneBehind (b ∷ (bytes ++ rest)) front
    none front size longer others [] after kind value split more e means ends = token_nonempty kind value means
    none front size longer others (c ∷ cs) after kind value split more e means ends =
        let whole : b ∷ (bytes ++ rest) ≡ (c ∷ cs) ++ (after ++ others) = split ∙ ap (λ l. l ++ others) e ∙ append_assoc (c ∷ cs) after others in
        let head : c ≡ b = cc in
        let letter' : is_letter c ≡ true = ap is_letter head ∙ letter in
        let short = letter_token kind c cs value letter' means in
        let next = behind (c ∷ cs) after (omega (arith, ap length e)) in
        let run : (c ∷ cs) ++ next.0 ∷ (next.1 ++ others) ≡ (b ∷ bytes) ++ rest = ap (λ l. (c ∷ cs) ++ (l ++ others)) (sym next.2) ∙ sym whole in
        let passes = next_in is_name_byte (c ∷ cs) (next.1 ++ others) (b ∷ bytes) rest next.0 run (omega arith) (and_from (is_name_byte b) (list_all is_name_byte bytes) (first refl) named) in
        ends.whole (name_byte_letter c letter') (subst BeginsWord (sym next.2) passes)

    go : (tail : List ℕ) → take 31 bytes ++ tail ≡ bytes → length (take 31 bytes) ≡ 31 → list_all is_name_byte (take 31 bytes) ≡ true → 0 < length tail → IsStuck (b ∷ (bytes ++ rest)) 32
    go [] cut size fronts some = absurd (omega arith)
    go (next ∷ others) cut size fronts some =
        let full : length (b ∷ take 31 bytes) ≡ 32 = omega arith in
        record {
          front = b ∷ take 31 bytes;
          next = next;
          others = others ++ rest;
          split = ap (λ l. b ∷ (l ++ rest)) (sym cut) ∙ ap (λ l. b ∷ l) (append_assoc (take 31 bytes) (next ∷ others) rest);
          size = sym full;
          before = inr (Name, 0, (record { word = (letter, fronts); short = omega arith; own = λ kind e. omega (arith, ap length e, length-spelling kind) }, refl));
          narrow = λ value number. letter_undigit b letter (first_digit b (take 31 bytes ++ next ∷ []) value number);
          none = none (b ∷ take 31 bytes) full;
        }

-- ---- numbers

-- no longer front of both is a number
abbrev pub NoLonger : List ℕ → List ℕ → Type 0
NoLonger bytes rest = (more others : List ℕ) (value : ℕ) → rest ≡ more ++ others → IsNumber (bytes ++ more) value → more ≡ []

module _ (b : ℕ) (bytes rest : List ℕ) (digit : is_digit b 10 ≡ true) (full : NoLonger (b ∷ bytes) rest) where
  pub number_ends : Fails is_name_byte rest → EndsBefore (b ∷ bytes) rest
  number_ends stops = record {
    longest = λ more others e shape. let number = shape_by_digit b (bytes ++ more) digit shape in full more others number.0 e number.1;
    whole = λ _ begins. whole rest stops begins;
  }
    where
      whole : (after : List ℕ) → Fails is_name_byte after → BeginsWord after → ⊥
      whole [] fails begins = begins
      whole (r ∷ after) fails begins = cc (fails, begins)

  -- a letter behind the number
  pub number_stuck : (v r : ℕ) (after : List ℕ) → IsNumber (b ∷ bytes) v → v < 2 ^ 64 → rest ≡ r ∷ after → is_name_byte r ≡ true → IsStuck (b ∷ (bytes ++ rest)) (length (b ∷ bytes))
  number_stuck v r after number small tail passes = record {
    front = b ∷ bytes;
    next = r;
    others = after;
    split = ap (λ l. b ∷ (bytes ++ l)) tail;
    size = refl;
    before = inr (Number, v, (number, small));
    narrow = λ value wider. cc (full (r ∷ []) after value tail wider);
    none = none;
  }
    where
      begin : is_name_byte b ≡ true
      begin = name_byte_digit b digit

      none : NoneBehind (b ∷ (bytes ++ rest)) (b ∷ bytes)
      none longer others [] left kind value split more e means ends = token_nonempty kind value means
      none longer others (c ∷ cs) left kind value split more e means ends =
          let whole : (b ∷ bytes) ++ rest ≡ (c ∷ cs) ++ (left ++ others) = split ∙ ap (λ l. l ++ others) e ∙ append_assoc (c ∷ cs) left others in
          let head : c ≡ b = cc in
          let digit' : is_digit c 10 ≡ true = ap (λ x. is_digit x 10) head ∙ digit in
          let found = digit_token kind c cs value digit' means in
          cases (compare (c ∷ cs) (b ∷ bytes) (left ++ others) rest (sym whole)) whole found.0 digit'
        where
          cases : Compared (c ∷ cs) (b ∷ bytes) → (b ∷ bytes) ++ rest ≡ (c ∷ cs) ++ (left ++ others) → IsNumber (c ∷ cs) value → is_digit c 10 ≡ true → ⊥
          cases (is_same s) whole number' digit' =
              let next = behind (c ∷ cs) left (omega (arith, ap length e, ap length s)) in
              let after_is : rest ≡ left ++ others = append_cancel_left (b ∷ bytes) rest (left ++ others) (whole ∙ ap (λ l. l ++ (left ++ others)) s) in
              let first : next.0 ≡ r = cc (ap (λ l. l ++ others) next.2, after_is, tail) in
              ends.whole (name_byte_digit c digit') (subst BeginsWord (sym next.2) (ap is_name_byte first ∙ passes))
          cases (is_shorter y ys s) whole number' digit' =
              let left_is : left ++ others ≡ (y ∷ ys) ++ rest = append_cancel_left (c ∷ cs) (left ++ others) ((y ∷ ys) ++ rest) (sym whole ∙ ap (λ l. l ++ rest) s ∙ append_assoc (c ∷ cs) (y ∷ ys) rest) in
              let sizes : length (b ∷ bytes) ≡ length (c ∷ cs) + length (y ∷ ys) = ap length s ∙ length-append (c ∷ cs) (y ∷ ys) in
              let sizes' : length longer ≡ length (c ∷ cs) + length left = ap length e ∙ length-append (c ∷ cs) left in
              let found = begins_with left (y ∷ ys) others rest left_is (omega arith) in
              cc (ends.longest (y ∷ ys) found.0 found.1 (inr (inr (v, subst (λ l. IsNumber l v) s number))))
          cases (is_longer y ys s) whole number' digit' =
              let split' : rest ≡ (y ∷ ys) ++ (left ++ others) = append_cancel_left (b ∷ bytes) rest _ (whole ∙ ap (λ l. l ++ (left ++ others)) s ∙ append_assoc (b ∷ bytes) (y ∷ ys) (left ++ others)) in
              cc (full (y ∷ ys) (left ++ others) value split' (subst (λ l. IsNumber l value) s number'))

  -- a number that grows above 2^64 - 1 at one of its bytes
  pub number_wide : (front tail : List ℕ) (d v narrower w : ℕ) → IsNumber (b ∷ bytes) v → b ∷ bytes ≡ front ++ d ∷ tail → IsNumber front narrower → narrower < 2 ^ 64 → IsNumber (front ++ d ∷ []) w → 2 ^ 64 ≤ w → IsWide (b ∷ (bytes ++ rest))
  number_wide front tail d v narrower w number cut before small wider wide = record {
    front = front;
    next = d;
    others = tail ++ rest;
    split = ap (λ l. l ++ rest) cut ∙ append_assoc front (d ∷ tail) rest;
    narrower = narrower;
    before = (before, small);
    value = w;
    wider = wider;
    wide = wide;
    none = none;
  }
    where
      cut' : b ∷ bytes ≡ (front ++ d ∷ []) ++ tail
      cut' = cut ∙ sym (append_assoc front (d ∷ []) tail)

      too_far : (xs : List ℕ) (value : ℕ) (us vs : List ℕ) → IsNumber xs value → value < 2 ^ 64 → xs ++ us ≡ (front ++ d ∷ []) ++ vs → length front < length xs → ⊥
      too_far xs value us vs number' small' e far =
          let found = begins_with xs (front ++ d ∷ []) us vs e (omega (arith, length-append front (d ∷ []))) in
          omega (arith, number_grows (front ++ d ∷ []) found.0 w value wider (subst (λ l. IsNumber l value) found.1 number'))

      none : NoneBehind (b ∷ (bytes ++ rest)) front
      none longer others [] left kind value split more e means ends = token_nonempty kind value means
      none longer others (c ∷ cs) left kind value split more e means ends =
          let whole : (b ∷ bytes) ++ rest ≡ (c ∷ cs) ++ (left ++ others) = split ∙ ap (λ l. l ++ others) e ∙ append_assoc (c ∷ cs) left others in
          let head : c ≡ b = cc in
          let digit' : is_digit c 10 ≡ true = ap (λ x. is_digit x 10) head ∙ digit in
          let found = digit_token kind c cs value digit' means in
          cases (compare (c ∷ cs) (b ∷ bytes) (left ++ others) rest (sym whole)) whole found.0 found.1 digit'
        where
          cases : Compared (c ∷ cs) (b ∷ bytes) → (b ∷ bytes) ++ rest ≡ (c ∷ cs) ++ (left ++ others) → IsNumber (c ∷ cs) value → value < 2 ^ 64 → is_digit c 10 ≡ true → ⊥
          cases (is_same s) whole number' small' digit' =
              omega (arith, number_grows (front ++ d ∷ []) tail w value wider (subst (λ l. IsNumber l value) (s ∙ cut') number'))
          cases (is_longer y ys s) whole number' small' digit' =
              let split' : rest ≡ (y ∷ ys) ++ (left ++ others) = append_cancel_left (b ∷ bytes) rest _ (whole ∙ ap (λ l. l ++ (left ++ others)) s ∙ append_assoc (b ∷ bytes) (y ∷ ys) (left ++ others)) in
              cc (full (y ∷ ys) (left ++ others) value split' (subst (λ l. IsNumber l value) s number'))
          cases (is_shorter y ys s) whole number' small' digit' =
              elim (cases_lt (length front) (length (c ∷ cs))) [
                | inl far ↦ too_far (c ∷ cs) value (y ∷ ys) tail number' small' (sym s ∙ cut') far
                | inr near ↦ absurd (step near)
              ]
            where
              step : length (c ∷ cs) ≤ length front → ⊥
              step near =
                  let next = behind (c ∷ cs) left (omega (arith, ap length e)) in
                  let left_is : left ++ others ≡ (y ∷ ys) ++ rest = append_cancel_left (c ∷ cs) (left ++ others) ((y ∷ ys) ++ rest) (sym whole ∙ ap (λ l. l ++ rest) s ∙ append_assoc (c ∷ cs) (y ∷ ys) rest) in
                  let first : next.0 ≡ y = cc (ap (λ l. l ++ others) next.2, left_is) in
                  let after_is : left ≡ (y ∷ []) ++ next.1 = next.2 ∙ ap (λ x. x ∷ next.1) first in
                  elim (number_step (c ∷ cs) y ys value v number' (subst (λ l. IsNumber l v) s number)) [
                    | inl passes ↦ ends.whole (name_byte_digit c digit') (subst BeginsWord (sym after_is) passes)
                    | inr wider' ↦ cc (ends.longest (y ∷ []) next.1 after_is (inr (inr wider')))
                  ]

-- ---- marks

module _ (b : ℕ) (rest : List ℕ) (other : is_name_byte b ≡ false) where
  other_whole : (more : List ℕ) → BeginsWord (b ∷ more) → ⊥
  other_whole more begins = cc (other, begins)

  -- a mark of one byte that isn't the front of a longer mark
  pub mark_ends : Fails (λ r. (b == 61 || b == 43) && r == 61) rest → EndsBefore (b ∷ []) rest
  mark_ends stops = record {
    longest = λ more others e shape. longest rest stops more others e shape;
    whole = λ begins _. other_whole [] begins;
  }
    where
      longest : (after : List ℕ) → Fails (λ r. (b == 61 || b == 43) && r == 61) after → (more others : List ℕ) → after ≡ more ++ others → HasShape (b ∷ more) → more ≡ []
      longest after fails [] others e shape = refl
      longest [] fails (m ∷ more) others e shape = cc
      longest (r ∷ after) fails (m ∷ more) others e shape =
          let double = shape_by_mark b m more other shape in
          let first : r ≡ m = cc in
          let second : r ≡ 61 = first ∙ double.1 in
          elim double.0 [ inl x ↦ grind (arith, nat_tests) | inr x ↦ grind (arith, nat_tests) ]

  -- `==` and `+=`
  pub double_ends : EndsBefore (b ∷ 61 ∷ []) rest
  double_ends = record {
    longest = λ more others e shape. (shape_by_mark b 61 more other shape).2;
    whole = λ begins _. other_whole (61 ∷ []) begins;
  }

  -- a byte that begins no token
  pub mark_stuck : ((kind : TokenKind) → spelling kind ≢ b ∷ []) → ((more : List ℕ) → rest ≡ 61 ∷ more → (b ≡ 61) ⊎ (b ≡ 43) → ⊥) → IsStuck (b ∷ rest) 0
  mark_stuck no_mark no_double = record {
    front = [];
    next = b;
    others = rest;
    split = refl;
    size = refl;
    before = inl refl;
    narrow = λ value number. cc (name_byte_digit b (first_digit b [] value number), other);
    none = none;
  }
    where
      none : NoneBehind (b ∷ rest) []
      none longer others [] left kind value split more e means ends = token_nonempty kind value means
      none longer others (c ∷ []) left kind value split more e means ends =
          let head : c ≡ b = cc (split, ap (λ l. l ++ others) e) in
          let spelled = mark_token kind c [] value (ap is_name_byte head ∙ other) means in
          no_mark kind (sym spelled ∙ ap (λ x. x ∷ []) head)
      none longer others (c ∷ m ∷ cs) left kind value split more e means ends =
          let whole : b ∷ rest ≡ c ∷ m ∷ (cs ++ (left ++ others)) = split ∙ ap (λ l. l ++ others) e ∙ append_assoc (c ∷ m ∷ cs) left others in
          let head : c ≡ b = cc in
          let other' : is_name_byte c ≡ false = ap is_name_byte head ∙ other in
          let double = shape_by_mark c m cs other' (token_shape kind (c ∷ m ∷ cs) value means) in
          let rest_is : rest ≡ m ∷ (cs ++ (left ++ others)) = cc in
          no_double (cs ++ (left ++ others)) (rest_is ∙ ap (λ x. x ∷ (cs ++ (left ++ others))) double.1) (elim double.0 [ inl x ↦ inl (sym head ∙ x) | inr x ↦ inr (sym head ∙ x) ])

-- ---- what the code knows of a mark

-- one byte, with no `=` behind one that goes on with it
pub mark_front : (text : List ℕ) (kind : TokenKind) → 0 < length text → is_name_byte (get_or text 0 0) ≡ false → spelling kind ≡ get_or text 0 0 ∷ [] → (get_or text 1 0 ≡ 61 → (get_or text 0 0 ≡ 61) ⊎ (get_or text 0 0 ≡ 43) → ⊥) → IsFront text kind 1 0
mark_front [] kind some other spelled single = absurd (omega arith)
mark_front (b ∷ rest) kind some other spelled single = record {
  bytes = b ∷ [];
  rest = rest;
  split = refl;
  size = refl;
  means = of_kind kind spelled;
  ends = mark_ends b rest other (fails rest refl);
}
  where
    of_kind : (k : TokenKind) → spelling k ≡ b ∷ [] → IsToken k (b ∷ []) 0
    of_kind Name e = cc
    of_kind Number e = cc
    of_kind k e = (sym e, refl)

    fails : (after : List ℕ) → rest ≡ after → Fails (λ r. (b == 61 || b == 43) && r == 61) after
    fails [] e = tt
    fails (r ∷ after) e = false_from_ne_true ((b == 61 || b == 43) && r == 61) (λ h.
        let parts = and_parts (b == 61 || b == 43) (r == 61) h in
        single (ap (λ l. get_or l 0 0) e ∙ eqb-true r 61 parts.1) (elim (or_cases (b == 61) (b == 43) parts.0) [ inl x ↦ inl (eqb-true b 61 x) | inr x ↦ inr (eqb-true b 43 x) ]))

-- `==` and `+=`
pub double_front : (text : List ℕ) (kind : TokenKind) → is_name_byte (get_or text 0 0) ≡ false → get_or text 1 0 ≡ 61 → spelling kind ≡ get_or text 0 0 ∷ 61 ∷ [] → IsFront text kind 2 0
double_front [] kind other second spelled = cc
double_front (b ∷ []) kind other second spelled = cc
double_front (b ∷ c ∷ rest) kind other second spelled = record {
  bytes = b ∷ 61 ∷ [];
  rest = rest;
  split = ap (λ x. b ∷ x ∷ rest) second;
  size = refl;
  means = of_kind kind spelled;
  ends = double_ends b rest other;
}
  where
    of_kind : (k : TokenKind) → spelling k ≡ b ∷ 61 ∷ [] → IsToken k (b ∷ 61 ∷ []) 0
    of_kind Name e = cc
    of_kind Number e = cc
    of_kind k e = (sym e, refl)

-- no mark
pub mark_none : (text : List ℕ) → 0 < length text → is_name_byte (get_or text 0 0) ≡ false → ((kind : TokenKind) → spelling kind ≢ get_or text 0 0 ∷ []) → (get_or text 1 0 ≡ 61 → (get_or text 0 0 ≡ 61) ⊎ (get_or text 0 0 ≡ 43) → ⊥) → IsStuck text 0
mark_none [] some other no_mark single = absurd (omega arith)
mark_none (b ∷ rest) some other no_mark single = mark_stuck b rest other no_mark (λ more e first. single (ap (λ l. get_or l 0 0) e) first)
