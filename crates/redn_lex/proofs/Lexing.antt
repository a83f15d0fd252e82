-- A text has its tokens once, and where they stop they stop once.
use Rattle.std.proofs.Common.{◌≡◌, ◌+◌, ℕ, ◌⊎◌, inl, inr, true, false, List, [], ◌∷◌, ◌++◌, length, sym, refl, ap, ◌∙◌, subst, arith, append_assoc, length-append}
use Rattle.std.proofs.lemmas.Bool.{and_parts}
use Rattle.std.proofs.lemmas.Bool.Decides.{nat_tests}
use Rattle.std.proofs.lemmas.List.{append-nil, append_cancel_left, same_from_push}
use Rattle.std.specs.List.{list_all}
use Rattle.redn_syntax.specs.declared.token.Token.{Token}
use Rattle.redn_syntax.specs.declared.token.TokenKind.{TokenKind}
use Rattle.redn_syntax.specs.declared.token.TokenKind.TheVariants.{Name, Number}
use Rattle.redn_syntax.specs.Bytes.{is_blank}
use Rattle.redn_syntax.specs.Tokens.{spelling, IsWord, IsNumber, IsToken, HasShape, BeginsWord, EndsBefore, IsGap, IsComment, NextToken, TokenizesFrom, Tokenizes}
use Rattle.redn_syntax.proofs.TokenFacts.{is_solid, solid_token, IsFixed}
use Rattle.redn_lex.specs.declared.fault.LexFault.{LexFault}
use Rattle.redn_lex.specs.declared.fault.LexFault.TheVariants.{BadByte, NumberTooWide, Memory}
use Rattle.redn_lex.specs.Faults.{StopsFrom, IsTooWideFrom, IsBadByte, IsTooWide, IsFaultFrom}
use Rattle.redn_syntax.proofs.Shapes.{kind_in, kinds, spelled_back, token_shape, token_nonempty, first_digit, letter_undigit, spelled_number, number_grows}
use Rattle.redn_lex.proofs.Cuts.{Compared, is_same, is_shorter, is_longer, compare}

-- ---- gaps

-- a closed gap is one that may be open
mutual
  pub gap_opens : (bytes : List ℕ) → IsGap false bytes → IsGap true bytes
  gap_opens [] h = tt
  gap_opens (b ∷ bytes) (inl (blank, h)) = inl (blank, gap_opens bytes h)
  gap_opens (b ∷ bytes) (inr (hash, h)) = inr (hash, comment_opens bytes h)

  comment_opens : (bytes : List ℕ) → IsComment false bytes → IsComment true bytes
  comment_opens [] h = cc
  comment_opens (b ∷ bytes) (inl (newline, h)) = inl (newline, gap_opens bytes h)
  comment_opens (b ∷ bytes) (inr (other, h)) = inr (other, comment_opens bytes h)

no_blank : (b : ℕ) → is_solid b ≡ true → is_blank b ≡ true → ⊥
no_blank b h e = grind (arith, nat_tests)

no_hash : (b : ℕ) → is_solid b ≡ true → b ≡ 35 → ⊥
no_hash b h e = grind (arith, nat_tests)

no_both : (b : ℕ) → is_blank b ≡ true → b ≡ 35 → ⊥
no_both b h e = grind (arith, nat_tests)

-- a solid byte in no comment ends a gap
mutual
  pub gap_ends : (gap : List ℕ) (c : ℕ) (more : List ℕ) → is_solid c ≡ true → IsGap false gap → IsGap true (gap ++ c ∷ more) → ⊥
  gap_ends [] c more solid closed (inl (blank, h)) = no_blank c solid blank
  gap_ends [] c more solid closed (inr (hash, h)) = no_hash c solid hash
  gap_ends (b ∷ gap) c more solid (inl (blank, closed)) (inl (blank', h)) = gap_ends gap c more solid closed h
  gap_ends (b ∷ gap) c more solid (inl (blank, closed)) (inr (hash, h)) = no_both b blank hash
  gap_ends (b ∷ gap) c more solid (inr (hash, closed)) (inl (blank, h)) = no_both b blank hash
  gap_ends (b ∷ gap) c more solid (inr (hash, closed)) (inr (hash', h)) = comment_ends gap c more solid closed h

  comment_ends : (gap : List ℕ) (c : ℕ) (more : List ℕ) → is_solid c ≡ true → IsComment false gap → IsComment true (gap ++ c ∷ more) → ⊥
  comment_ends [] c more solid closed h = cc
  comment_ends (b ∷ gap) c more solid (inl (newline, closed)) (inl (newline', h)) = gap_ends gap c more solid closed h
  comment_ends (b ∷ gap) c more solid (inl (newline, closed)) (inr (other, h)) = other newline
  comment_ends (b ∷ gap) c more solid (inr (other, closed)) (inl (newline, h)) = other newline
  comment_ends (b ∷ gap) c more solid (inr (other, closed)) (inr (other', h)) = comment_ends gap c more solid closed h

-- two gaps before solid bytes are one
mutual
  pub gap_same : (gap gap' : List ℕ) (c c' : ℕ) (more more' : List ℕ) → is_solid c ≡ true → is_solid c' ≡ true → IsGap false gap → IsGap false gap' → gap ++ c ∷ more ≡ gap' ++ c' ∷ more' → gap ≡ gap'
  gap_same [] [] c c' more more' solid solid' h h' e = refl
  gap_same [] (b ∷ gap') c c' more more' solid solid' h (inl (blank, h')) e = let same : c ≡ b = cc in absurd (no_blank b (ap is_solid (sym same) ∙ solid) blank)
  gap_same [] (b ∷ gap') c c' more more' solid solid' h (inr (hash, h')) e = let same : c ≡ b = cc in absurd (no_hash b (ap is_solid (sym same) ∙ solid) hash)
  gap_same (b ∷ gap) [] c c' more more' solid solid' (inl (blank, h)) h' e = let same : b ≡ c' = cc in absurd (no_blank b (ap is_solid same ∙ solid') blank)
  gap_same (b ∷ gap) [] c c' more more' solid solid' (inr (hash, h)) h' e = let same : b ≡ c' = cc in absurd (no_hash b (ap is_solid same ∙ solid') hash)
  gap_same (b ∷ gap) (d ∷ gap') c c' more more' solid solid' (inl (blank, h)) (inl (blank', h')) e =
      let head : b ≡ d = cc in
      let tail = gap_same gap gap' c c' more more' solid solid' h h' (cc) in
      λ i. head i ∷ tail i
  gap_same (b ∷ gap) (d ∷ gap') c c' more more' solid solid' (inl (blank, h)) (inr (hash, h')) e = let head : b ≡ d = cc in absurd (no_both b blank (head ∙ hash))
  gap_same (b ∷ gap) (d ∷ gap') c c' more more' solid solid' (inr (hash, h)) (inl (blank, h')) e = let head : b ≡ d = cc in absurd (no_both d blank (sym head ∙ hash))
  gap_same (b ∷ gap) (d ∷ gap') c c' more more' solid solid' (inr (hash, h)) (inr (hash', h')) e =
      let head : b ≡ d = cc in
      let tail = comment_same gap gap' c c' more more' solid solid' h h' (cc) in
      λ i. head i ∷ tail i

  comment_same : (gap gap' : List ℕ) (c c' : ℕ) (more more' : List ℕ) → is_solid c ≡ true → is_solid c' ≡ true → IsComment false gap → IsComment false gap' → gap ++ c ∷ more ≡ gap' ++ c' ∷ more' → gap ≡ gap'
  comment_same [] gap' c c' more more' solid solid' h h' e = cc
  comment_same (b ∷ gap) [] c c' more more' solid solid' h h' e = cc
  comment_same (b ∷ gap) (d ∷ gap') c c' more more' solid solid' (inl (newline, h)) (inl (newline', h')) e =
      let head : b ≡ d = cc in
      let tail = gap_same gap gap' c c' more more' solid solid' h h' (cc) in
      λ i. head i ∷ tail i
  comment_same (b ∷ gap) (d ∷ gap') c c' more more' solid solid' (inl (newline, h)) (inr (other, h')) e = let head : b ≡ d = cc in absurd (other (sym head ∙ newline))
  comment_same (b ∷ gap) (d ∷ gap') c c' more more' solid solid' (inr (other, h)) (inl (newline, h')) e = let head : b ≡ d = cc in absurd (other (head ∙ newline))
  comment_same (b ∷ gap) (d ∷ gap') c c' more more' solid solid' (inr (other, h)) (inr (other', h')) e =
      let head : b ≡ d = cc in
      let tail = comment_same gap gap' c c' more more' solid solid' h h' (cc) in
      λ i. head i ∷ tail i

-- ---- one token

fixed_or : (kind : TokenKind) (bytes : List ℕ) (value : ℕ) → IsToken kind bytes value → (IsFixed kind × (bytes ≡ spelling kind) × (value ≡ 0)) ⊎ ((kind ≡ Name) × IsToken Name bytes value) ⊎ ((kind ≡ Number) × IsToken Number bytes value)
fixed_or Name bytes value h = inr (inl (refl, h))
fixed_or Number bytes value h = inr (inr (refl, h))
fixed_or kind bytes value h = inl (tt, h.0, h.1)

word_number : (bytes : List ℕ) (value : ℕ) → IsWord bytes → IsNumber bytes value → ⊥
word_number [] value word number = word
word_number (b ∷ bytes) value word number = letter_undigit b word.0 (first_digit b bytes value number)

number_same : (bytes : List ℕ) (v w : ℕ) → IsNumber bytes v → IsNumber bytes w → v ≡ w
number_same bytes v w a b =
    let up = number_grows bytes [] v w a (subst (λ l. IsNumber l w) (sym (append-nil bytes)) b) in
    let down = number_grows bytes [] w v b (subst (λ l. IsNumber l v) (sym (append-nil bytes)) a) in
    omega arith

-- bytes are a token in one way
token_same : (kind kind' : TokenKind) (bytes : List ℕ) (value value' : ℕ) → IsToken kind bytes value → IsToken kind' bytes value' → (kind ≡ kind') × (value ≡ value')
token_same kind kind' bytes value value' h h' = cases (fixed_or kind bytes value h) (fixed_or kind' bytes value' h')
  where
    cases : (IsFixed kind × (bytes ≡ spelling kind) × (value ≡ 0)) ⊎ ((kind ≡ Name) × IsToken Name bytes value) ⊎ ((kind ≡ Number) × IsToken Number bytes value) →
        (IsFixed kind' × (bytes ≡ spelling kind') × (value' ≡ 0)) ⊎ ((kind' ≡ Name) × IsToken Name bytes value') ⊎ ((kind' ≡ Number) × IsToken Number bytes value') →
        (kind ≡ kind') × (value ≡ value')
    cases (inl (fixed, e, v)) (inl (fixed', e', v')) =
        (sym (spelled_back kind fixed) ∙ ap (kind_in kinds) (sym e ∙ e') ∙ spelled_back kind' fixed', v ∙ sym v')
    cases (inl (fixed, e, v)) (inr (inl (name, n))) = absurd (n.0.own kind e)
    cases (inl (fixed, e, v)) (inr (inr (number, n))) = absurd (spelled_number kind bytes value' e n.0)
    cases (inr (inl (name, n))) (inl (fixed', e', v')) = absurd (n.0.own kind' e')
    cases (inr (inl (name, n))) (inr (inl (name', n'))) = (name ∙ sym name', n.1 ∙ sym n'.1)
    cases (inr (inl (name, n))) (inr (inr (number, n'))) = absurd (word_number bytes value' n.0.word n'.0)
    cases (inr (inr (number, n))) (inl (fixed', e', v')) = absurd (spelled_number kind' bytes value e' n.0)
    cases (inr (inr (number, n))) (inr (inl (name, n'))) = absurd (word_number bytes value n'.0.word n.0)
    cases (inr (inr (number, n))) (inr (inr (number', n'))) = (number ∙ sym number', number_same bytes value value' n.0 n'.0)

-- of one text one front is cut off as a token
pub cut_same : (kind kind' : TokenKind) (bytes bytes' rest rest' : List ℕ) (value value' : ℕ) → IsToken kind bytes value → IsToken kind' bytes' value' → EndsBefore bytes rest → EndsBefore bytes' rest' → bytes ++ rest ≡ bytes' ++ rest' → bytes ≡ bytes'
cut_same kind kind' bytes bytes' rest rest' value value' h h' ends ends' e = cases (compare bytes bytes' rest rest' e)
  where
    cases : Compared bytes bytes' → bytes ≡ bytes'
    cases (is_same s) = s
    cases (is_shorter b more s) =
        let split : rest ≡ (b ∷ more) ++ rest' = append_cancel_left bytes rest ((b ∷ more) ++ rest') (e ∙ ap (λ l. l ++ rest') s ∙ append_assoc bytes (b ∷ more) rest') in
        cc (ends.longest (b ∷ more) rest' split (subst HasShape s (token_shape kind' bytes' value' h')))
    cases (is_longer b more s) =
        let split : rest' ≡ (b ∷ more) ++ rest = append_cancel_left bytes' rest' ((b ∷ more) ++ rest) (sym e ∙ ap (λ l. l ++ rest) s ∙ append_assoc bytes' (b ∷ more) rest) in
        cc (ends'.longest (b ∷ more) rest split (subst HasShape s (token_shape kind bytes value h)))

-- a token has a first byte, and it is solid
pub first_solid : (kind : TokenKind) (bytes : List ℕ) (value : ℕ) → IsToken kind bytes value → (c : ℕ) × (cs : List ℕ) × (bytes ≡ c ∷ cs) × (is_solid c ≡ true)
first_solid kind [] value h = absurd (token_nonempty kind value h)
first_solid kind (c ∷ cs) value h = (c, cs, refl, (and_parts (is_solid c) (list_all is_solid cs) (solid_token kind (c ∷ cs) value h)).0)

-- where a token ends in a text, it ends in a front of it too
pub ends_restricted : (bytes part others : List ℕ) → EndsBefore bytes (part ++ others) → EndsBefore bytes part
ends_restricted bytes part others ends = record {
  longest = λ more left e shape. ends.longest more (left ++ others) (ap (λ l. l ++ others) e ∙ append_assoc more left others) shape;
  whole = λ begins begins'. ends.whole begins (begins_more part begins');
}
  where
    begins_more : (xs : List ℕ) → BeginsWord xs → BeginsWord (xs ++ others)
    begins_more [] h = absurd h
    begins_more (b ∷ xs) h = h

-- ---- all tokens

-- what stands next in a text stands next once
pub next_same : (at : ℕ) (text : List ℕ) (t u : Token) (rest rest' : List ℕ) → NextToken at text t rest → NextToken at text u rest' → (t ≡ u) × (rest ≡ rest')
next_same at text t u rest rest' a b =
    let first = first_solid t.kind a.bytes t.value a.means in
    let first' = first_solid u.kind b.bytes u.value b.means in
    let e : a.gap ++ first.0 ∷ (first.1 ++ rest) ≡ b.gap ++ first'.0 ∷ (first'.1 ++ rest') =
    ap (λ l. a.gap ++ (l ++ rest)) (sym first.2) ∙ sym a.split ∙ b.split ∙ ap (λ l. b.gap ++ (l ++ rest')) first'.2 in
    let gap = gap_same a.gap b.gap first.0 first'.0 (first.1 ++ rest) (first'.1 ++ rest') first.3 first'.3 a.blank b.blank e in
    let both : a.bytes ++ rest ≡ b.bytes ++ rest' = append_cancel_left a.gap (a.bytes ++ rest) (b.bytes ++ rest') (sym a.split ∙ b.split ∙ ap (λ l. l ++ (b.bytes ++ rest')) (sym gap)) in
    let bytes = cut_same t.kind u.kind a.bytes b.bytes rest rest' t.value u.value a.means b.means a.ends b.ends both in
    let kinds' = token_same t.kind u.kind a.bytes t.value u.value a.means (subst (λ l. IsToken u.kind l u.value) (sym bytes) b.means) in
    let place : t.at ≡ u.at = a.place ∙ ap (λ l. at + length l) gap ∙ sym b.place in
    let size : t.len ≡ u.len = a.size ∙ ap length bytes ∙ sym b.size in (
      λ i. record { kind = kinds'.0 i; at = place i; len = size i; value = kinds'.1 i },
      append_cancel_left a.bytes rest rest' (both ∙ ap (λ l. l ++ rest') (sym bytes)),
    )

-- no token stands in a gap
pub no_next : (at : ℕ) (text : List ℕ) (t : Token) (rest : List ℕ) → NextToken at text t rest → IsGap true text → ⊥
no_next at text t rest a gap =
    let first = first_solid t.kind a.bytes t.value a.means in
    gap_ends a.gap first.0 (first.1 ++ rest) first.3 a.blank (subst (IsGap true) (a.split ∙ ap (λ l. a.gap ++ (l ++ rest)) first.2) gap)

-- a text has its tokens once
pub tokens_same : (at : ℕ) (text : List ℕ) (ts us : List Token) → TokenizesFrom at text ts → TokenizesFrom at text us → ts ≡ us
tokens_same at text [] [] a b = refl
tokens_same at text [] (u ∷ us) a (rest, next, more) = absurd (no_next at text u rest next a)
tokens_same at text (t ∷ ts) [] (rest, next, more) b = absurd (no_next at text t rest next b)
tokens_same at text (t ∷ ts) (u ∷ us) (rest, next, more) (rest', next', more') =
    let same = next_same at text t u rest rest' next next' in
    let end : u.at + u.len ≡ t.at + t.len = ap (λ (x : Token). x.at + x.len) (sym same.0) in
    let more'' : TokenizesFrom (t.at + t.len) rest us = subst (λ l. TokenizesFrom (t.at + t.len) l us) (sym same.1) (subst (λ n. TokenizesFrom n rest' us) end more') in
    let tail = tokens_same (t.at + t.len) rest ts us more more'' in
    λ i. same.0 i ∷ tail i

-- where a text stops it stops once
pub stops_same : (at : ℕ) (text f g : List ℕ) → StopsFrom at text f → StopsFrom at text g → f ≡ g
stops_same at text f g a b = cases (compare f g (a.next ∷ a.others) (b.next ∷ b.others) (sym a.split ∙ b.split))
  where
    cases : Compared f g → f ≡ g
    cases (is_same s) = s
    cases (is_shorter x more s) = absurd (a.longest g (b.next ∷ b.others) b.tokens b.split (omega (arith, ap length s, length-append f (x ∷ more))) b.tokenized)
    cases (is_longer x more s) = absurd (b.longest f (a.next ∷ a.others) a.tokens a.split (omega (arith, ap length s, length-append g (x ∷ more))) a.tokenized)

-- a text that stops has no tokens
pub stops_not : (at : ℕ) (text f : List ℕ) (ts : List Token) → StopsFrom at text f → TokenizesFrom at text ts → ⊥
stops_not at text f ts a b = a.longest text [] ts (sym (append-nil text)) (omega (arith, ap length a.split, length-append f (a.next ∷ a.others))) b

-- a number is too wide at one place
pub wide_same : (at : ℕ) (text : List ℕ) (p q : ℕ) → IsTooWideFrom at text p → IsTooWideFrom at text q → p ≡ q
wide_same at text p q a b =
    let fronts = stops_same at text _ _ a.stops b.stops in
    let tokens = tokens_same at (b.before ++ b.digits) (a.earlier ++ a.last ∷ []) (b.earlier ++ b.last ∷ []) (subst (λ l. TokenizesFrom at l (a.earlier ++ a.last ∷ [])) fronts a.ends) b.ends in
    let last = (same_from_push a.earlier b.earlier a.last b.last tokens).1 in
    sym a.start ∙ ap (λ (t : Token). t.at) last ∙ b.start

-- ---- one answer

-- a text with tokens has no fault
pub fault_tokens : (text : List ℕ) (tokens : List Token) (fault : LexFault) → IsFaultFrom 0 text fault → Tokenizes text tokens → fault ≡ Memory
fault_tokens text tokens (BadByte at) b h = absurd (stops_not 0 text b.front tokens b.stops h)
fault_tokens text tokens (NumberTooWide at) w h = absurd (stops_not 0 text (w.before ++ w.digits) tokens w.stops h)
fault_tokens text tokens Memory m h = refl

-- a text with a bad byte has that fault alone
pub fault_bad : (text : List ℕ) (at : ℕ) (fault : LexFault) → IsFaultFrom 0 text fault → IsBadByte text at → (fault ≡ BadByte at) ⊎ (fault ≡ Memory)
fault_bad text at (BadByte p) b h =
    let fronts = stops_same 0 text b.front h.front b.stops h.stops in
    inl (ap (λ n. BadByte n) (b.place_is ∙ ap (λ l. 0 + length l) fronts ∙ sym h.place_is))
fault_bad text at (NumberTooWide p) w h = absurd (h.narrow p w)
fault_bad text at Memory m h = inr refl

-- a text with a number that is too wide has that fault alone
pub fault_wide : (text : List ℕ) (at : ℕ) (fault : LexFault) → IsFaultFrom 0 text fault → IsTooWide text at → (fault ≡ NumberTooWide at) ⊎ (fault ≡ Memory)
fault_wide text at (BadByte p) b h = absurd (b.narrow at h)
fault_wide text at (NumberTooWide p) w h = inl (ap (λ n. NumberTooWide n) (wide_same 0 text p at w h))
fault_wide text at Memory m h = inr refl

-- tokens rule out either fault
pub bad_not : (text : List ℕ) (tokens : List Token) (at : ℕ) → Tokenizes text tokens → IsBadByte text at → ⊥
bad_not text tokens at h b = stops_not 0 text b.front tokens b.stops h

pub wide_not : (text : List ℕ) (tokens : List Token) (at : ℕ) → Tokenizes text tokens → IsTooWide text at → ⊥
wide_not text tokens at h w = stops_not 0 text (w.before ++ w.digits) tokens w.stops h
