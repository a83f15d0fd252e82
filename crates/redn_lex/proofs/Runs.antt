-- Runs of bytes at the front of a text, and what they spell.
use Rattle.std.proofs.Common.{◌≡◌, ◌≢◌, ◌^◌, ◌<◌, ◌≤◌, ◌+◌, ◌*◌, ℕ, zero, suc, inl, inr, Bool, true, false, IsTrue, ◌==◌, ◌&&◌, List, [], ◌∷◌, ◌++◌, length, get_or, take, drop, sym, refl, ap, ◌∙◌, subst, arith, append_assoc, length-append}
use Rattle.std.proofs.lemmas.Bool.{and_from, and_parts, cases_Bool, eqb-true}
use Rattle.std.proofs.lemmas.Bool.Decides.{nat_tests}
use Rattle.std.proofs.lemmas.List.{take_at, take-append-drop, length-take-le, take_more, get_or_at, get_or_past}
use Rattle.std.proofs.lemmas.Int.Digits.{digits_value_more}
use Rattle.std.specs.List.{list_all, prefix_len}
use Rattle.std.specs.Char.{is_digit, digit_value}
use Rattle.std.specs.Str.Parse.{digits_value}
use Rattle.redn_syntax.specs.declared.token.TokenKind.{TokenKind}
use Rattle.redn_syntax.specs.declared.token.TokenKind.TheVariants.{Table, Ro, Rw, Chain, Arg, Var, If, Else, Loop, Repeat, Break, Lookup, Key, Probes, Walk, Nodes, Reply, Serve, Name, Number}
use Rattle.redn_syntax.specs.Bytes.{is_letter, is_name_byte}
use Rattle.redn_syntax.specs.Tokens.{spelling, IsWord, AreDigits, IsNumber, IsToken}
use Rattle.redn_syntax.proofs.TokenFacts.{name_byte_letter}
use Rattle.redn_lex.specs.declared.front.TheConstants.{KEYWORDS}
use Rattle.redn_lex.specs.Fronts.{IsFront, IsStuck, IsWide, is_hexadecimal, PassesAt, NumberBegins}
use Rattle.redn_syntax.proofs.Shapes.{all_at, all_front, zero_x, hex_undecimal}
use Rattle.redn_lex.proofs.Cuts.{Fails, NoLonger, word_ends, word_stuck, number_ends, number_stuck, number_wide}

-- ---- keywords

-- a word that none of the keywords spells is spelled by nothing
pub no_keyword : (word : List ℕ) → IsWord word → ((k : ℕ) → k < 18 → spelling (get_or KEYWORDS k Name) ≢ word) → (kind : TokenKind) → word ≢ spelling kind
no_keyword word is none Table e = none 0 (omega arith) (sym e)
no_keyword word is none Ro e = none 1 (omega arith) (sym e)
no_keyword word is none Rw e = none 2 (omega arith) (sym e)
no_keyword word is none Chain e = none 3 (omega arith) (sym e)
no_keyword word is none Arg e = none 4 (omega arith) (sym e)
no_keyword word is none Var e = none 5 (omega arith) (sym e)
no_keyword word is none If e = none 6 (omega arith) (sym e)
no_keyword word is none Else e = none 7 (omega arith) (sym e)
no_keyword word is none Loop e = none 8 (omega arith) (sym e)
no_keyword word is none Repeat e = none 9 (omega arith) (sym e)
no_keyword word is none Break e = none 10 (omega arith) (sym e)
no_keyword word is none Lookup e = none 11 (omega arith) (sym e)
no_keyword word is none Key e = none 12 (omega arith) (sym e)
no_keyword word is none Probes e = none 13 (omega arith) (sym e)
no_keyword word is none Walk e = none 14 (omega arith) (sym e)
no_keyword word is none Nodes e = none 15 (omega arith) (sym e)
no_keyword word is none Reply e = none 16 (omega arith) (sym e)
no_keyword word is none Serve e = none 17 (omega arith) (sym e)
no_keyword word is none Name e = subst IsWord e is
no_keyword word is none Number e = subst IsWord e is
no_keyword word is none kind e = let first = (subst IsWord e is).0 in cc

-- ---- runs

-- the longest front whose bytes pass
pub record Run (p : ℕ → Bool) (text : List ℕ) : Type 0 where
  pub front : List ℕ
  pub rest : List ℕ
  pub split : text ≡ front ++ rest
  pub passes : list_all p front ≡ true
  pub stops : Fails p rest
  pub size : length front ≡ prefix_len p text

pub run_of : (p : ℕ → Bool) (text : List ℕ) → Run p text
run_of p [] = record { front = []; rest = []; split = refl; passes = refl; stops = tt; size = refl }
run_of p (b ∷ text) = elim (cases_Bool (p b)) [ inl yes' ↦ goes yes' (run_of p text) | inr no' ↦ stays no' ]
  where
    goes : p b ≡ true → Run p text → Run p (b ∷ text)
    goes h r = record {
      front = b ∷ r.front;
      rest = r.rest;
      split = ap (λ l. b ∷ l) r.split;
      passes = and_from (p b) (list_all p r.front) h r.passes;
      stops = r.stops;
      size = rw h (omega (arith, r.size));
    }

    stays : p b ≡ false → Run p (b ∷ text)
    stays h = record { front = []; rest = b ∷ text; split = refl; passes = refl; stops = h; size = rw h refl }

-- ---- words

-- a run that begins with a byte that passes has it in front
pub data WordRun (text : List ℕ) : Type 0 where
  word_run : (b : ℕ) (bytes rest : List ℕ) → text ≡ b ∷ (bytes ++ rest) → is_letter b ≡ true → list_all is_name_byte bytes ≡ true → Fails is_name_byte rest → length (b ∷ bytes) ≡ prefix_len is_name_byte text → WordRun text

pub word_run_of : (text : List ℕ) → is_letter (get_or text 0 0) ≡ true → WordRun text
word_run_of [] letter = cc
word_run_of (b ∷ text) letter =
    let r = run_of is_name_byte text in
    let begins : is_name_byte b ≡ true = name_byte_letter b letter in
    word_run b r.front r.rest (ap (λ l. b ∷ l) r.split) letter r.passes r.stops (rw begins (omega (arith, r.size)))

taken : (text : List ℕ) (b : ℕ) (bytes rest : List ℕ) (n : ℕ) → text ≡ b ∷ (bytes ++ rest) → length (b ∷ bytes) ≡ n → take n text ≡ b ∷ bytes
taken text b bytes rest n split size = ap (take n) split ∙ take_at (b ∷ bytes) rest n size

pub run_is_word : (text : List ℕ) → is_letter (get_or text 0 0) ≡ true → IsWord (take (prefix_len is_name_byte text) text)
run_is_word text letter = go (word_run_of text letter)
  where
    go : WordRun text → IsWord (take (prefix_len is_name_byte text) text)
    go (word_run b bytes rest split first passes stops size) = subst IsWord (sym (taken text b bytes rest _ split size)) (first, passes)

pub word_front : (text : List ℕ) (kind : TokenKind) (n : ℕ) → is_letter (get_or text 0 0) ≡ true → n ≡ prefix_len is_name_byte text → IsToken kind (take n text) 0 → IsFront text kind n 0
word_front text kind n letter len token = go (word_run_of text letter)
  where
    go : WordRun text → IsFront text kind n 0
    go (word_run b bytes rest split first passes stops size) = record {
      bytes = b ∷ bytes;
      rest = rest;
      split = split;
      size = len ∙ sym size;
      means = subst (λ l. IsToken kind l 0) (taken text b bytes rest n split (size ∙ sym len)) token;
      ends = word_ends b bytes rest first passes stops;
    }

pub word_stops : (text : List ℕ) → is_letter (get_or text 0 0) ≡ true → 32 < prefix_len is_name_byte text → IsStuck text 32
word_stops text letter long = go (word_run_of text letter)
  where
    go : WordRun text → IsStuck text 32
    go (word_run b bytes rest split first passes stops size) =
        subst (λ l. IsStuck l 32) (sym split) (word_stuck b bytes rest first passes (omega arith))

-- ---- values

-- the value with one more digit
pub next_value : (base i value d : ℕ) (digits : List ℕ) → i < length digits → value ≡ digits_value base (take i digits) → d ≡ digit_value (get_or digits i 0) → digits_value base (take (i + 1) digits) ≡ value * base + d
next_value base i value d digits within reads digit =
    digits_value_more base digits i within ∙ ap (λ v. v * base + digit_value (get_or digits i 0)) (sym reads) ∙ ap (λ v. value * base + v) (sym digit)

-- ---- numbers

digit_small : (c : ℕ) → digit_value c ≤ 36
digit_small c = grind (arith, nat_tests)

-- digits and a part of them
digits_part : (base n : ℕ) (digits : List ℕ) → list_all (λ b. is_digit b base) digits ≡ true → 0 < n → n ≤ length digits → AreDigits base (take n digits) (digits_value base (take n digits))
digits_part base n digits all some within = record {
  some = omega (arith, length-take-le n digits within);
  digits = (all_front (λ b. is_digit b base) (take n digits) (drop n digits) (ap (list_all (λ b. is_digit b base)) (take-append-drop n digits) ∙ all)).0;
  reads = refl;
}

-- the first digit alone is below 2^64
passes_later : (base n : ℕ) (digits : List ℕ) → PassesAt base digits n → 0 < n
passes_later base zero [] p = absurd (omega (arith, p.within))
passes_later base zero (d ∷ digits) p =
    let one : digits_value base (take (0 + 1) (d ∷ digits)) ≡ 0 * base + digit_value d = refl in
    let small = digit_small d in
    absurd (grind (arith, p.above))
passes_later base (suc n) digits p = omega arith

-- a number at the front: its bytes, and what its first digits spell
pub record NumberRun (text : List ℕ) (skip base : ℕ) : Type 0 where
  pub b : ℕ
  pub bytes : List ℕ
  pub rest : List ℕ
  pub split : text ≡ b ∷ (bytes ++ rest)
  pub first : is_digit b 10 ≡ true
  pub full : NoLonger (b ∷ bytes) rest
  pub before : List ℕ
  pub digits : List ℕ
  pub parts : b ∷ bytes ≡ before ++ digits
  pub skipped : length before ≡ skip
  pub behind : drop skip text ≡ digits ++ rest
  pub some : 0 < length digits
  pub all : list_all (λ c. is_digit c base) digits ≡ true
  pub size : length digits ≡ prefix_len (λ c. is_digit c base) (drop skip text)
  pub spells : (some_digits : List ℕ) → AreDigits base some_digits (digits_value base some_digits) → IsNumber (before ++ some_digits) (digits_value base some_digits)

decimal_full : (b : ℕ) (bytes rest text : List ℕ) → text ≡ b ∷ (bytes ++ rest) → list_all (λ c. is_digit c 10) (b ∷ bytes) ≡ true → Fails (λ c. is_digit c 10) rest → is_hexadecimal text ≡ false → NoLonger (b ∷ bytes) rest
decimal_full b bytes rest text split all stops no_hex [] others value e number = refl
decimal_full b bytes rest text split all stops no_hex (m ∷ more) others value e (inl d) =
    let passes = all_at (λ c. is_digit c 10) (b ∷ bytes) m more d.digits in
    let fails : is_digit m 10 ≡ false = subst (Fails (λ c. is_digit c 10)) e stops in
    cc
decimal_full b bytes rest text split all stops no_hex (m ∷ more) others value e (inr x) =
    let found = zero_x (b ∷ bytes) (m ∷ more) x.digits (omega arith) all x.spelled in
    absurd (hex (x.digits) x.hexadecimal.some x.hexadecimal.digits (split ∙ ap (λ l. (b ∷ bytes) ++ l) e ∙ ap (λ l. l ++ (m ∷ more ++ others)) found.0 ∙ ap (λ l. 48 ∷ (l ++ others)) found.1))
  where
    hex : (digits : List ℕ) → 0 < length digits → list_all (λ c. is_digit c 16) digits ≡ true → text ≡ 48 ∷ 120 ∷ (digits ++ others) → ⊥
    hex [] some h same = omega arith
    hex (h ∷ digits) some hs same =
        let first = (and_parts (is_digit h 16) (list_all (λ c. is_digit c 16) digits) hs).0 in
        let is_hex : is_hexadecimal text ≡ true = ap is_hexadecimal same ∙ first in
        cc

hex_full : (digits rest : List ℕ) → 0 < length digits → Fails (λ c. is_digit c 16) rest → NoLonger (48 ∷ 120 ∷ digits) rest
hex_full digits rest some stops [] others value e number = refl
hex_full digits rest some stops (m ∷ more) others value e (inl d) = absurd (hex_undecimal digits (m ∷ more) d.digits)
hex_full digits rest some stops (m ∷ more) others value e (inr x) =
    let same : digits ++ m ∷ more ≡ x.digits = cc (x.spelled) in
    let passes = all_at (λ c. is_digit c 16) digits m more (ap (list_all (λ c. is_digit c 16)) same ∙ x.hexadecimal.digits) in
    let fails : is_digit m 16 ≡ false = subst (Fails (λ c. is_digit c 16)) e stops in
    cc

pub number_run : (text : List ℕ) (skip base : ℕ) → is_digit (get_or text 0 0) 10 ≡ true → NumberBegins text skip base → NumberRun text skip base
number_run [] skip base first begins = cc
number_run (b ∷ text) skip base first (inl (no_skip, decimal, no_hex)) =
    let r = run_of (λ c. is_digit c 10) text in
    let all = and_from (is_digit b 10) (list_all (λ c. is_digit c 10) r.front) first r.passes in
    let whole : b ∷ text ≡ b ∷ (r.front ++ r.rest) = ap (λ l. b ∷ l) r.split in
    subst (λ s. NumberRun (b ∷ text) s base) (sym no_skip) (subst (λ s. NumberRun (b ∷ text) 0 s) (sym decimal) (record {
      b = b;
      bytes = r.front;
      rest = r.rest;
      split = whole;
      first = first;
      full = decimal_full b r.front r.rest (b ∷ text) whole all r.stops no_hex;
      before = [];
      digits = b ∷ r.front;
      parts = refl;
      skipped = refl;
      behind = whole;
      some = omega arith;
      all = all;
      size = rw first (omega (arith, r.size));
      spells = λ digits h. inl h;
    }))
number_run (b ∷ text) skip base first (inr (two, hexadecimal, hex)) = go text hex
  where
    go : (xs : List ℕ) → is_hexadecimal (b ∷ xs) ≡ true → NumberRun (b ∷ xs) skip base
    go [] h = let parts = and_parts (b == 48 && false) (is_digit 0 16) h in cc
    go (x ∷ []) h = let parts = and_parts (b == 48 && x == 120) (is_digit 0 16) h in cc
    go (x ∷ h ∷ xs) is_hex =
        let parts = and_parts (b == 48 && x == 120) (is_digit h 16) is_hex in
        let both = and_parts (b == 48) (x == 120) parts.0 in
        let zero_is : b ≡ 48 = eqb-true b 48 both.0 in
        let x_is : x ≡ 120 = eqb-true x 120 both.1 in
        let r = run_of (λ c. is_digit c 16) xs in
        let all = and_from (is_digit h 16) (list_all (λ c. is_digit c 16) r.front) parts.1 r.passes in
        let run : NumberRun (48 ∷ 120 ∷ h ∷ xs) 2 16 = record {
          b = 48;
          bytes = 120 ∷ h ∷ r.front;
          rest = r.rest;
          split = ap (λ l. 48 ∷ 120 ∷ h ∷ l) r.split;
          first = refl;
          full = hex_full (h ∷ r.front) r.rest (omega arith) r.stops;
          before = 48 ∷ 120 ∷ [];
          digits = h ∷ r.front;
          parts = refl;
          skipped = refl;
          behind = ap (λ l. h ∷ l) r.split;
          some = omega arith;
          all = all;
          size = rw parts.1 (omega (arith, r.size));
          spells = λ digits d. inr (record { digits = digits; spelled = refl; hexadecimal = d });
        } in
        subst (λ s. NumberRun (b ∷ x ∷ h ∷ xs) s base) (sym two) (subst (λ s. NumberRun (b ∷ x ∷ h ∷ xs) 2 s) (sym hexadecimal)
        (subst (λ c. NumberRun (c ∷ x ∷ h ∷ xs) 2 16) (sym zero_is) (subst (λ c. NumberRun (48 ∷ c ∷ h ∷ xs) 2 16) (sym x_is) run)))

-- what the code knows of a number: how many digits it has
module _ (text : List ℕ) (skip base count : ℕ) (tail : List ℕ) (tail_is : tail ≡ drop skip text) (first : is_digit (get_or text 0 0) 10 ≡ true) (begins : NumberBegins text skip base) (counted : count ≡ prefix_len (λ c. is_digit c base) tail) where
  run : NumberRun text skip base
  run = number_run text skip base first begins

  count_is : length run.digits ≡ count
  count_is = run.size ∙ ap (prefix_len (λ c. is_digit c base)) (sym tail_is) ∙ sym counted

  digits_are : take count tail ≡ run.digits
  digits_are = ap (take count) (tail_is ∙ run.behind) ∙ take_at run.digits run.rest count count_is

  len_is : length (run.b ∷ run.bytes) ≡ skip + count
  len_is = omega (arith, ap length run.parts, length-append run.before run.digits, run.skipped, count_is)

  pub digits_pass : IsTrue (list_all (λ c. is_digit c base) (take count tail))
  digits_pass = ap (list_all (λ c. is_digit c base)) digits_are ∙ run.all

  pub number_within : skip + count ≤ length text
  number_within = omega (arith, len_is, ap length run.split, length-append run.bytes run.rest)

  whole : IsNumber (run.b ∷ run.bytes) (digits_value base run.digits)
  whole = subst (λ l. IsNumber l (digits_value base run.digits)) (sym run.parts) (run.spells run.digits (record { some = run.some; digits = run.all; reads = refl }))

  next_byte : (r : ℕ) (after : List ℕ) → run.rest ≡ r ∷ after → get_or text (skip + count) 0 ≡ r
  next_byte r after e =
      ap (λ l. get_or l (skip + count) 0) (run.split ∙ ap (λ l. (run.b ∷ run.bytes) ++ l) e) ∙ get_or_at (run.b ∷ run.bytes) r after 0 (skip + count) len_is

  pub number_front : (value : ℕ) → value ≡ digits_value base (take count tail) → value < 2 ^ 64 → is_name_byte (get_or text (skip + count) 0) ≡ false → IsFront text Number (skip + count) value
  number_front value reads fits stops = record {
    bytes = run.b ∷ run.bytes;
    rest = run.rest;
    split = run.split;
    size = sym len_is;
    means = (subst (λ v. IsNumber (run.b ∷ run.bytes) v) (sym (reads ∙ ap (digits_value base) digits_are)) whole, fits);
    ends = number_ends run.b run.bytes run.rest run.first run.full (fails run.rest refl);
  }
    where
      fails : (after : List ℕ) → run.rest ≡ after → Fails is_name_byte after
      fails [] e = tt
      fails (r ∷ after) e = ap is_name_byte (sym (next_byte r after e)) ∙ stops

  pub number_bad : (value : ℕ) → value ≡ digits_value base (take count tail) → value < 2 ^ 64 → is_name_byte (get_or text (skip + count) 0) ≡ true → IsStuck text (skip + count)
  number_bad value reads fits passes = go run.rest refl
    where
      go : (after : List ℕ) → run.rest ≡ after → IsStuck text (skip + count)
      go [] e =
          let past : get_or text (skip + count) 0 ≡ 0 = get_or_past text (skip + count) 0 (omega (arith, len_is, ap length run.split, length-append run.bytes run.rest, ap length e)) in
          let none : is_name_byte 0 ≡ true = ap is_name_byte (sym past) ∙ passes in
          cc
      go (r ∷ after) e =
          let number = subst (λ v. IsNumber (run.b ∷ run.bytes) v) (sym (reads ∙ ap (digits_value base) digits_are)) whole in
          let stuck = number_stuck run.b run.bytes run.rest run.first run.full value r after number fits e (ap is_name_byte (sym (next_byte r after e)) ∙ passes) in
          subst (λ l. IsStuck l (skip + count)) (sym run.split) (subst (λ n. IsStuck (run.b ∷ (run.bytes ++ run.rest)) n) len_is stuck)

  pub number_over : (n : ℕ) → PassesAt base (take count tail) n → IsWide text
  number_over n passes =
      let p : PassesAt base run.digits n = subst (λ l. PassesAt base l n) digits_are passes in
      let later = passes_later base n run.digits p in
      let d = get_or run.digits n 0 in
      let more : take (n + 1) run.digits ≡ take n run.digits ++ d ∷ [] = take_more run.digits n 0 p.within in
      let cut : run.digits ≡ take n run.digits ++ d ∷ drop (n + 1) run.digits =
      sym (take-append-drop (n + 1) run.digits) ∙ ap (λ l. l ++ drop (n + 1) run.digits) more ∙ append_assoc (take n run.digits) (d ∷ []) (drop (n + 1) run.digits) in
      let front = run.before ++ take n run.digits in
      let split : run.b ∷ run.bytes ≡ front ++ d ∷ drop (n + 1) run.digits = run.parts ∙ ap (λ l. run.before ++ l) cut ∙ sym (append_assoc run.before (take n run.digits) (d ∷ drop (n + 1) run.digits)) in
      let small = run.spells (take n run.digits) (digits_part base n run.digits run.all later (omega (arith, p.within))) in
      let large = run.spells (take (n + 1) run.digits) (digits_part base (n + 1) run.digits run.all (omega arith) (omega (arith, p.within))) in
      let joined : run.before ++ take (n + 1) run.digits ≡ front ++ d ∷ [] = ap (λ l. run.before ++ l) more ∙ sym (append_assoc run.before (take n run.digits) (d ∷ [])) in
      let wide = number_wide run.b run.bytes run.rest run.first run.full front (drop (n + 1) run.digits) d (digits_value base run.digits) (digits_value base (take n run.digits)) (digits_value base (take (n + 1) run.digits))
      whole split small p.below (subst (λ l. IsNumber l (digits_value base (take (n + 1) run.digits))) joined large) p.above in
      subst IsWide (sym run.split) wide
