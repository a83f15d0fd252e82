-- Which tokens are viable, and where an answer of the parser points.
use Rattle.std.proofs.Common.{arith, ◌≡◌, ◌+◌, ◌-◌, ◌<◌, ◌≤◌, ◌⊎◌, ℕ, zero, suc, inl, inr, List, [], ◌∷◌, ◌++◌, length, take, append_assoc, append-nil, length-append, sym, refl, ap, ◌∙◌, subst}
use Rattle.std.proofs.lemmas.List.{map-append, length-map}
use Rattle.redn_syntax.specs.declared.token.Token.{Token}
use Rattle.redn_syntax.specs.declared.token.TokenKind.{TokenKind}
use Rattle.redn_syntax.specs.declared.token.TokenKind.TheVariants.{OpenBrace, Name, Number}
use Rattle.redn_syntax.specs.declared.tree.File.{File}
use Rattle.redn_syntax.specs.Tokens.{IsToken, Tokenizes, TokenizesFrom}
use Rattle.redn_syntax.specs.Lexemes.{Lexeme, Fixed, place_of, lexeme_by, lexeme_of, lexemes_of}
use Rattle.redn_syntax.specs.Grammar as g
use Rattle.redn_syntax.specs.Grammar.{◌>>◌, SamePlace, HasTree, IsViable}
use Rattle.redn_parse.specs.Lookahead.{kind_of}
use Rattle.redn_parse.specs.Depth.{OpensDeepFrom}
use Rattle.redn_parse.specs.Reads as reads
use Rattle.redn_parse.specs.Reads.{Begins, IsStuckWithin, IsBlocked}
use Rattle.redn_parse.specs.Answers.{AreViable, IsUnexpected, IsTooDeep}
use Rattle.redn_parse.proofs.Chains.{NoFile}
use Rattle.redn_parse.proofs.Parsed.{no_tree}

-- ---- fewer lexemes

pub viable_front : (xs ys : List Lexeme) → IsViable (xs ++ ys) → IsViable xs
viable_front xs ys (more, f, depth, h) = (ys ++ more, f, depth, subst (λ l. g.file_within SamePlace depth f l []) (append_assoc xs ys more) h)

taken : (n m : ℕ) (xs : List Token) → n ≤ m → (rest : List Token) × (take m xs ≡ take n xs ++ rest)
taken zero m xs h = (take m xs, refl)
taken (suc n) zero xs h = absurd (omega arith)
taken (suc n) (suc m) [] h = ([], refl)
taken (suc n) (suc m) (x ∷ xs) h = let r = taken n m xs (omega arith) in (r.0, ap (λ l. x ∷ l) r.1)

pub fewer_viable : (text : List ℕ) (tokens : List Token) (n m : ℕ) → n ≤ m → AreViable text (take m tokens) → AreViable text (take n tokens)
fewer_viable text tokens n m h viable =
    let r = taken n m tokens h in
    viable_front (lexemes_of text (take n tokens)) (lexemes_of text r.0)
    (subst IsViable (ap (lexemes_of text) r.1 ∙ map-append (lexeme_of text) (take n tokens) r.0) viable)

-- the first of some tokens say the first of their lexemes
take_map : (text : List ℕ) (xs : List Token) (k : ℕ) → lexemes_of text (take k xs) ≡ take k (lexemes_of text xs)
take_map text xs zero = refl
take_map text [] (suc k) = refl
take_map text (x ∷ xs) (suc k) = ap (λ l. lexeme_of text x ∷ l) (take_map text xs k)

pub front_taken : (text : List ℕ) (xs : List Token) (front after : List Lexeme) (n k : ℕ) → n ≡ length front + k → lexemes_of text xs ≡ front ++ after → lexemes_of text (take n xs) ≡ front ++ take k after
front_taken text xs [] after n k e h = let same : n ≡ k = omega arith in rw same (take_map text xs k ∙ ap (take k) h)
front_taken text [] (y ∷ front) after n k e h = cc
front_taken text (x ∷ xs) (y ∷ front) after zero k e h = absurd (omega arith)
front_taken text (x ∷ xs) (y ∷ front) after (suc n) k e h =
    let same : lexeme_of text x ≡ y = cc in
    let rest : lexemes_of text xs ≡ front ++ after = cc in
    let found = front_taken text xs front after n k (omega arith) rest in
    λ i. same i ∷ found i

-- ---- a token that isn't expected

begun_viable : (depth : ℕ) (front : List Lexeme) → Begins (g.file_within SamePlace depth) front → IsViable front
begun_viable depth front (f, more, h) = (more ++ [], f, depth, h [])

module _ (text : List ℕ) (tokens : List Token) (after : List Lexeme) (token : ℕ)
    (s : IsStuckWithin (g.file_within SamePlace) (λ (p : ℕ × File). reads.file p.0 p.1 >> g.nothing) 64 0 (lexemes_of text tokens) after) (number : token + length after ≡ length tokens) where
  size : token ≡ length s.stuck.front
  size =
      let all : length (lexemes_of text tokens) ≡ length tokens = length-map tokens (lexeme_of text) in
      let both : length (lexemes_of text tokens) ≡ length (s.stuck.front ++ after) = ap length s.stuck.split in
      omega (arith, number, all, both, length-append s.stuck.front after)

  no_file : NoFile (lexemes_of text tokens)
  no_file = subst NoFile (sym s.stuck.split) (s.stuck.rejects after refl)

  front_is : lexemes_of text (take token tokens) ≡ s.stuck.front
  front_is = front_taken text tokens s.stuck.front after token 0 (omega (arith, size)) s.stuck.split ∙ append-nil s.stuck.front

  last : (after' : List Lexeme) → after ≡ after' → token < length tokens → AreViable text (take (token + 1) tokens) → ⊥
  last [] e h viable = let none : length after ≡ 0 = ap length e in omega (arith, number)
  last (x ∷ rest) e h viable =
      let one : lexemes_of text (take (token + 1) tokens) ≡ s.stuck.front ++ x ∷ [] = front_taken text tokens s.stuck.front (x ∷ rest) (token + 1) 1 (omega (arith, size)) (s.stuck.split ∙ ap (λ l. s.stuck.front ++ l) e) in
      let v = subst IsViable one viable in
      let whole = subst (λ l. g.file_within SamePlace v.2 v.1 l []) (append_assoc s.stuck.front (x ∷ []) v.0) v.3 in
      (s.stuck.rejects (x ∷ v.0) (sym (ap (λ l. take 1 l) e))).rejects (v.2, v.1) [] ([], ([], whole, (refl, refl)), refl)

  pub unexpected : IsUnexpected text tokens token
  unexpected = record {
    none = λ f h. no_tree text tokens f no_file h;
    within = omega (arith, number);
    viable = subst IsViable (sym front_is) (begun_viable 65 s.stuck.front s.stuck.begun);
    last = last after refl;
    shallow = λ at o. s.calm at (subst (λ l. OpensDeepFrom 0 l at) front_is o);
  }

-- the number of the token at which the reader stands
pub number_of : (text : List ℕ) (tokens : List Token) (after : List Lexeme) (token : ℕ) →
    IsStuckWithin (g.file_within SamePlace) (λ (p : ℕ × File). reads.file p.0 p.1 >> g.nothing) 64 0 (lexemes_of text tokens) after → token ≡ length tokens - length after → token + length after ≡ length tokens
number_of text tokens after token s e =
    let all : length (lexemes_of text tokens) ≡ length tokens = length-map tokens (lexeme_of text) in
    let both : length (lexemes_of text tokens) ≡ length (s.stuck.front ++ after) = ap length s.stuck.split in
    omega (arith, e, all, both, length-append s.stuck.front after)

-- ---- places are those of one token

place_by : (kind : TokenKind) (bytes : List ℕ) (value at : ℕ) → place_of (lexeme_by kind bytes value at) ≡ at
place_by Name bytes value at = refl
place_by Number bytes value at = refl
place_by kind bytes value at = refl

kind_by : (kind : TokenKind) (bytes : List ℕ) (value at : ℕ) → kind_of (lexeme_by kind bytes value at) ≡ kind
kind_by Name bytes value at = refl
kind_by Number bytes value at = refl
kind_by kind bytes value at = refl

-- where tokens stand from a place on, none stands before it
later : (text : List ℕ) (at : ℕ) (t : List ℕ) (tokens : List Token) → TokenizesFrom at t tokens → (front behind : List Lexeme) (x : Lexeme) → lexemes_of text tokens ≡ front ++ x ∷ behind → at ≤ place_of x
later text at t [] h [] behind x e = cc
later text at t [] h (y ∷ front) behind x e = cc
later text at t (token ∷ tokens) (rest, next, more) [] behind x e =
    let same : lexeme_of text token ≡ x = cc in
    let place : token.at ≡ place_of x = sym (place_by token.kind _ token.value token.at) ∙ ap place_of same in
    omega (arith, next.place, place)
later text at t (token ∷ tokens) (rest, next, more) (y ∷ front) behind x e =
    let there = later text (token.at + token.len) rest tokens more front behind x (cc) in
    omega (arith, next.place, there)

-- a brace has a byte
brace_size : (text : List ℕ) (token : Token) (bytes : List ℕ) (at : ℕ) → lexeme_of text token ≡ Fixed OpenBrace at → IsToken token.kind bytes token.value → token.len ≡ length bytes → (token.at ≡ at) × (token.len ≡ 1)
brace_size text token bytes at e means size =
    let kind : token.kind ≡ OpenBrace = sym (kind_by token.kind _ token.value token.at) ∙ ap kind_of e in
    let spelled = (subst (λ k. IsToken k bytes token.value) kind means).0 in
    let one : length bytes ≡ 1 = ap length spelled in
    (sym (place_by token.kind _ token.value token.at) ∙ ap place_of e, size ∙ one)

one_brace : (text : List ℕ) (from : ℕ) (t : List ℕ) (tokens : List Token) → TokenizesFrom from t tokens → (front front' behind behind' : List Lexeme) (at : ℕ) →
    lexemes_of text tokens ≡ front ++ Fixed OpenBrace at ∷ behind → lexemes_of text tokens ≡ front' ++ Fixed OpenBrace at ∷ behind' → front ≡ front'
one_brace text from t [] h [] [] behind behind' at e e' = refl
one_brace text from t [] h [] (y ∷ front') behind behind' at e e' = cc
one_brace text from t [] h (y ∷ front) front' behind behind' at e e' = cc
one_brace text from t (token ∷ tokens) (rest, next, more) [] [] behind behind' at e e' = refl
one_brace text from t (token ∷ tokens) (rest, next, more) [] (y ∷ front') behind behind' at e e' =
    let first = brace_size text token next.bytes at (cc) next.means next.size in
    let there = later text (token.at + token.len) rest tokens more front' behind' (Fixed OpenBrace at) (cc) in
    absurd (omega (arith, first.0, first.1, there))
one_brace text from t (token ∷ tokens) (rest, next, more) (y ∷ front) [] behind behind' at e e' =
    let first = brace_size text token next.bytes at (cc) next.means next.size in
    let there = later text (token.at + token.len) rest tokens more front behind (Fixed OpenBrace at) (cc) in
    absurd (omega (arith, first.0, first.1, there))
one_brace text from t (token ∷ tokens) (rest, next, more) (y ∷ front) (y' ∷ front') behind behind' at e e' =
    let same : y ≡ y' = cc in
    let others = one_brace text (token.at + token.len) rest tokens more front front' behind behind' at (cc) (cc) in
    λ i. same i ∷ others i

-- ---- a block too deep

pub too_deep : (text : List ℕ) (tokens : List Token) (at : ℕ) → Tokenizes text tokens → IsBlocked (g.file_within SamePlace) 64 0 (lexemes_of text tokens) at → IsTooDeep text tokens at
too_deep text tokens at h b = record {
  opens = b.opens;
  viable = subst (λ l. IsViable (l ++ Fixed OpenBrace at ∷ [])) (one_brace text 0 text tokens h b.front b.opens.before b.behind b.opens.behind at b.split b.opens.split)
      (begun_viable 65 (b.front ++ Fixed OpenBrace at ∷ []) b.begun);
}

-- ---- one answer

earlier : (text : List ℕ) (tokens : List Token) (n m : ℕ) → IsUnexpected text tokens n → m ≤ length tokens → AreViable text (take m tokens) → n < m → ⊥
earlier text tokens n m u within viable less = u.last (omega (arith, within, less)) (fewer_viable text tokens (n + 1) m (omega (arith, less)) viable)

order : (n m : ℕ) → (n < m → ⊥) → (m < n → ⊥) → n ≡ m
order zero zero h h' = refl
order zero (suc m) h h' = absurd (h (omega arith))
order (suc n) zero h h' = absurd (h' (omega arith))
order (suc n) (suc m) h h' = ap (λ k. suc k) (order n m (λ less. h (omega arith)) (λ less. h' (omega arith)))

pub one_unexpected : (text : List ℕ) (tokens : List Token) (n m : ℕ) → IsUnexpected text tokens n → IsUnexpected text tokens m → n ≡ m
one_unexpected text tokens n m u v = order n m (earlier text tokens n m u v.within v.viable) (earlier text tokens m n v u.within u.viable)

below : (n m : ℕ) → (n < m) ⊎ ((k : ℕ) × (n ≡ m + k))
below n zero = inr (n, omega arith)
below zero (suc m) = inl (omega arith)
below (suc n) (suc m) = step (below n m)
  where
    step : (n < m) ⊎ ((k : ℕ) × (n ≡ m + k)) → (suc n < suc m) ⊎ ((k : ℕ) × (suc n ≡ suc m + k))
    step (inl less) = inl (omega arith)
    step (inr (k, e)) = inr (k, omega arith)

pub not_both : (text : List ℕ) (tokens : List Token) (n at : ℕ) → IsUnexpected text tokens n → IsTooDeep text tokens at → ⊥
not_both text tokens n at u deep = cases (below n (length o.before + 1))
  where
    o : OpensDeepFrom 0 (lexemes_of text tokens) at
    o = deep.opens

    viable : AreViable text (take (length o.before + 1) tokens)
    viable = subst IsViable (sym (front_taken text tokens o.before (Fixed OpenBrace at ∷ o.behind) (length o.before + 1) 1 refl o.split)) deep.viable

    within : length o.before + 1 ≤ length tokens
    within =
        let all : length (lexemes_of text tokens) ≡ length tokens = length-map tokens (lexeme_of text) in
        let both : length (lexemes_of text tokens) ≡ length (o.before ++ Fixed OpenBrace at ∷ o.behind) = ap length o.split in
        omega (arith, all, both, length-append o.before (Fixed OpenBrace at ∷ o.behind))

    cases : (n < length o.before + 1) ⊎ ((k : ℕ) × (n ≡ length o.before + 1 + k)) → ⊥
    cases (inl less) = earlier text tokens n (length o.before + 1) u within viable less
    cases (inr (k, e)) =
        let first : lexemes_of text (take n tokens) ≡ o.before ++ Fixed OpenBrace at ∷ take k o.behind = front_taken text tokens o.before (Fixed OpenBrace at ∷ o.behind) n (suc k) (omega (arith, e)) o.split in
        u.shallow at (record { before = o.before; behind = take k o.behind; split = first; full = o.full; first = o.first })
