-- Why a phrase isn't read where a part of it isn't.
use Rattle.std.proofs.Common.{◌≡◌, ℕ, suc, ◌⊎◌, inl, inr, Bool, true, false, Result, Ok, Err, List, [], ◌∷◌, ◌++◌, take, Some, MatchResult, IfOk, if◌then◌else◌, append_assoc, subst, sym, refl, ap, ◌∙◌}
use Rattle.std.specs.Result.{IsErrAnd}
use Rattle.redn_syntax.specs.declared.token.TokenKind.{TokenKind}
use Rattle.redn_syntax.specs.declared.token.TokenKind.TheVariants as k
use Rattle.redn_syntax.specs.declared.tree.Operand.{Operand}
use Rattle.redn_syntax.specs.declared.tree.Operand.TheVariants as operand
use Rattle.redn_syntax.specs.Lexemes.{Lexeme, Fixed}
use Rattle.redn_syntax.specs.Grammar as g
use Rattle.redn_syntax.specs.Grammar.{Phrase, ◌>>◌, SamePlace}
use Rattle.redn_parse.specs.declared.reader.Stop.{Stop}
use Rattle.redn_parse.specs.declared.reader.Stop.TheVariants.{Unexpected}
use Rattle.redn_parse.specs.Lookahead.{kind_at, kind_of}
use Rattle.redn_parse.specs.Reads.{HasNone, Begins, IsStuck, IsStuckWithin, IsBlocked, IsFault}
use Rattle.redn_parse.specs.Depth.{OpensDeepFrom}
use Rattle.redn_parse.proofs.Same.{Same, anything}
use Rattle.redn_parse.proofs.Fronts.{Free, nothing}
use Rattle.redn_parse.proofs.Braces.{Keeps, opens_nowhere}
use Rattle.redn_parse.proofs.Samples as a

-- ---- what was read before a part

-- The one phrase is read here, whatever comes behind it, and the other where the same kind of lexeme
-- comes next.
pub record Read (p q : Phrase) (b m : List Lexeme) : Type 0 where
  pub front : List Lexeme
  pub split : b ≡ front ++ m
  pub always : (other : List Lexeme) → p (front ++ other) other
  pub near : (other : List Lexeme) → kind_at 0 other ≡ kind_at 0 m → q (front ++ other) other

pub read : {p : Phrase} {b m : List Lexeme} → Free p → p b m → Read p p b m
read {p} {b} {m} free h = let f = free.fronts b m h in record {
  front = f.front;
  split = f.split;
  always = f.always;
  near = λ other e. f.always other;
}

-- nothing yet
pub start : {b : List Lexeme} → Read g.nothing g.nothing b b
start = read nothing refl

-- the first lexemes decide on the kind of the next one
pub same_kind : (front m other : List Lexeme) → kind_at 0 other ≡ kind_at 0 m → kind_at 0 (front ++ other) ≡ kind_at 0 (front ++ m)
same_kind [] m other e = e
same_kind (x ∷ front) m other e = refl

infixr 10 ◌also◌
pub ◌also◌ : {p q p' q' : Phrase} {b m n : List Lexeme} → Read p q b m → Read p' q' m n → Read (p >> p') (q >> q') b n
◌also◌ {p} {q} {p'} {q'} {b} {m} {n} r s = record {
  front = r.front ++ s.front;
  split = r.split ∙ ap (λ l. r.front ++ l) s.split ∙ sym (append_assoc r.front s.front n);
  always = λ other. subst (λ l. (p >> p') l other) (sym (append_assoc r.front s.front other)) (s.front ++ other, r.always (s.front ++ other), s.always other);
  near = λ other e. subst (λ l. (q >> q') l other) (sym (append_assoc r.front s.front other))
      (s.front ++ other, r.near (s.front ++ other) (same_kind s.front n other e ∙ ap (kind_at 0) (sym s.split)), s.near other e);
}

-- ---- the fault of a part

-- behind the first phrase, each that begins as the part goes on to one that begins as the whole
pub record Goes {Z X : Type 0} (p : Phrase) (part : Z → Phrase) (phrase : X → Phrase) : Type 0 where
  pub goes : (z : Z) → (x : X) × (more : List Lexeme) × ((b m tail : List Lexeme) → p b m → part z m (more ++ tail) → phrase x b tail)

-- The next lexeme is of the same kind. So is the one behind it, or none of these phrases begins with
-- the next one.
abbrev pub Near : {W : Type 0} → (W → Phrase) → List Lexeme → List Lexeme → Type 0
Near part m other = (kind_at 0 other ≡ kind_at 0 m) × (((l : List Lexeme) → take 1 l ≡ take 1 other → HasNone part l) ⊎ (kind_at 1 other ≡ kind_at 1 m))

-- behind the first phrase, there is none of the whole where there is none of the part
pub record Blames {W Y : Type 0} (q : Phrase) (part : W → Phrase) (whole : Y → Phrase) (m : List Lexeme) : Type 0 where
  pub blames : (b' m' : List Lexeme) → Near part m m' → q b' m' → HasNone part m' → HasNone whole b'

pub alike_kind : (m other : List Lexeme) → take 1 other ≡ take 1 m → kind_at 0 other ≡ kind_at 0 m
alike_kind [] [] e = refl
alike_kind [] (y ∷ other) e = cc
alike_kind (x ∷ m) [] e = cc
alike_kind (x ∷ m) (y ∷ other) e = let same : y ≡ x = cc in ap (λ z. Some (kind_of z)) same

near_at : {W : Type 0} (part : W → Phrase) (front m a other : List Lexeme) → m ≡ front ++ a → take 1 other ≡ take 1 a → ((l : List Lexeme) → take 1 l ≡ take 1 a → HasNone part (front ++ l)) → Near part m (front ++ other)
near_at part [] m a other e alike rejects =
    (alike_kind a other alike ∙ ap (kind_at 0) (sym e), inl (λ l first. rejects l (first ∙ alike)))
near_at part (x ∷ front) m a other e alike rejects =
    (ap (kind_at 0) (sym e), inr (same_kind front a other (alike_kind a other alike) ∙ ap (kind_at 1) (sym e)))

goes_on : {Z X : Type 0} {p q : Phrase} {part : Z → Phrase} {phrase : X → Phrase} {b m : List Lexeme} (r : Read p q b m) (front : List Lexeme) → Goes p part phrase → Begins part front → Begins phrase (r.front ++ front)
goes_on {phrase = phrase} r front go s =
    let next = go.goes s.0 in (
      next.0,
      s.1 ++ next.1,
      λ tail.
          let whole = next.2 (r.front ++ (front ++ (s.1 ++ (next.1 ++ tail)))) (front ++ (s.1 ++ (next.1 ++ tail))) tail (r.always (front ++ (s.1 ++ (next.1 ++ tail)))) (s.2 (next.1 ++ tail)) in
          let same : front ++ (s.1 ++ (next.1 ++ tail)) ≡ front ++ ((s.1 ++ next.1) ++ tail) = ap (λ l. front ++ l) (sym (append_assoc s.1 next.1 tail)) in
          subst (λ l. phrase next.0 l tail) (ap (λ l. r.front ++ l) same ∙ sym (append_assoc r.front front ((s.1 ++ next.1) ++ tail))) whole,
    )

pub stuck : {X Y Z W : Type 0} {p q : Phrase} {phrase : X → Phrase} {whole : Y → Phrase} {part : Z → Phrase} {part_whole : W → Phrase} {b m a : List Lexeme} →
    IsStuck part part_whole m a → Read p q b m → Goes p part phrase → Blames q part_whole whole m → IsStuck phrase whole b a
stuck {whole = whole} {part_whole = part_whole} {m = m} {a = a} s r go blames = record {
  front = r.front ++ s.front;
  split = r.split ∙ ap (λ l. r.front ++ l) s.split ∙ sym (append_assoc r.front s.front a);
  begun = goes_on r s.front go s.begun;
  rejects = λ other alike.
      let near = near_at part_whole s.front m a other s.split alike s.rejects in
      subst (HasNone whole) (sym (append_assoc r.front s.front other))
      (blames.blames (r.front ++ (s.front ++ other)) (s.front ++ other) near (r.near (s.front ++ other) near.0) (s.rejects other alike));
}

-- what opens too deep in a list opens so in a longer one
pub longer : (n at : ℕ) (front rest : List Lexeme) → OpensDeepFrom n front at → OpensDeepFrom n (front ++ rest) at
longer n at front rest o = record {
  before = o.before;
  behind = o.behind ++ rest;
  split = ap (λ l. l ++ rest) o.split ∙ append_assoc o.before (Fixed k.OpenBrace at ∷ o.behind) rest;
  full = o.full;
  first = o.first;
}

-- nothing opens too deep in the beginning of a phrase that opens nothing too deep
flat_calm : {Z : Type 0} (part : Z → Phrase) (n m at : ℕ) (front : List Lexeme) → Begins part front → ((z : Z) → Keeps n m (part z)) → OpensDeepFrom n front at → ⊥
flat_calm part n m at front s keeps o = opens_nowhere m at ((keeps s.0).down (front ++ (s.1 ++ [])) [] (s.2 []) at (longer n at front (s.1 ++ []) o))

pub stuck_flat : {X Y Z W : Type 0} {p q : Phrase} {phrase : ℕ → X → Phrase} {whole : Y → Phrase} {part : Z → Phrase} {part_whole : W → Phrase} {room opened opened' behind : ℕ} {b m a : List Lexeme} →
    IsStuck part part_whole m a → Read p q b m → Goes p part (phrase (suc room)) → Blames q part_whole whole m → Keeps opened opened' p → ((z : Z) → Keeps opened' behind (part z)) → IsStuckWithin phrase whole room opened b a
unfolding stuck
stuck_flat {part = part} {opened' = opened'} {behind = behind} s r go blames keep keeps = record {
  stuck = stuck s r go blames;
  calm = λ at o. flat_calm part opened' behind at s.front s.begun keeps (keep.down (r.front ++ s.front) s.front (r.always s.front) at o);
}

pub stuck_within : {X Y Z W : Type 0} {p q : Phrase} {phrase : ℕ → X → Phrase} {whole : Y → Phrase} {part : ℕ → Z → Phrase} {part_whole : W → Phrase} {room room' opened opened' : ℕ} {b m a : List Lexeme} →
    IsStuckWithin part part_whole room' opened' m a → Read p q b m → Goes p (part (suc room')) (phrase (suc room)) → Blames q part_whole whole m → Keeps opened opened' p → IsStuckWithin phrase whole room opened b a
unfolding stuck
stuck_within s r go blames keep = record {
  stuck = stuck s.stuck r go blames;
  calm = λ at o. s.calm at (keep.down (r.front ++ s.stuck.front) s.stuck.front (r.always s.stuck.front) at o);
}

pub blocked : {X Z : Type 0} {p q : Phrase} {phrase : ℕ → X → Phrase} {part : ℕ → Z → Phrase} {room room' opened opened' : ℕ} {b m : List Lexeme} {at : ℕ} →
    IsBlocked part room' opened' m at → Read p q b m → Goes p (part (suc room')) (phrase (suc room)) → Keeps opened opened' p → IsBlocked phrase room opened b at
blocked {p = p} {phrase = phrase} {room = room} {opened = opened} {m = m} {at = at} s r go keep = record {
  opens = subst (λ l. OpensDeepFrom opened l at) (sym r.split) (keep.up (r.front ++ m) m (r.always m) at s.opens);
  front = r.front ++ s.front;
  behind = s.behind;
  split = r.split ∙ ap (λ l. r.front ++ l) s.split ∙ sym (append_assoc r.front s.front (Fixed k.OpenBrace at ∷ s.behind));
  begun = subst (Begins (phrase (suc room))) (sym (append_assoc r.front s.front (Fixed k.OpenBrace at ∷ []))) (goes_on r (s.front ++ Fixed k.OpenBrace at ∷ []) go s.begun);
}

pub goes : {Z X : Type 0} {p : Phrase} {part : Z → Phrase} {phrase : X → Phrase} → ((z : Z) → (x : X) × (more : List Lexeme) × ((b m tail : List Lexeme) → p b m → part z m (more ++ tail) → phrase x b tail)) → Goes p part phrase
goes f = record { goes = f }

pub blames : {W Y : Type 0} {q : Phrase} {part : W → Phrase} {whole : Y → Phrase} {m : List Lexeme} → ((b' m' : List Lexeme) → Near part m m' → q b' m' → HasNone part m' → HasNone whole b') → Blames q part whole m
blames f = record { blames = f }

-- where the part is the first
pub first_goes : {Z X : Type 0} {part : Z → Phrase} {phrase : X → Phrase} → ((z : Z) → (x : X) × (more : List Lexeme) × ((b tail : List Lexeme) → part z b (more ++ tail) → phrase x b tail)) → Goes g.nothing part phrase
first_goes {part = part} {phrase = phrase} f = record {
  goes = λ z.
      let next = f z in
      (next.0, next.1, λ b m tail e d. next.2 b tail (subst (λ l. part z l (next.1 ++ tail)) (sym e) d));
}

pub first_blames : {W Y : Type 0} {part : W → Phrase} {whole : Y → Phrase} {m : List Lexeme} → ((b : List Lexeme) → Near part m b → HasNone part b → HasNone whole b) → Blames g.nothing part whole m
first_blames {part = part} {whole = whole} {m = m} f = record {
  blames = λ b m' near e none. subst (HasNone whole) (sym e) (f m' near none);
}

-- ---- answers

pub passed : {T : Type 0} (Q : Stop → Type 0) (r : Result T Stop) (e : Stop) (P : T → Type 0) → IsErrAnd r (λ d. d ≡ e) → Q e → MatchResult r P Q
passed Q (Ok x) e P h q = absurd h
passed Q (Err d) e P h q = subst Q (sym h) q

-- the fault of a part is one of the whole
pub blamed : {IsNone IsNone' : Type 0} {e : Stop} (IsDeep IsDeep' : ℕ → Type 0) → IsFault IsNone' IsDeep' e → (IsNone' → IsNone) → ((at : ℕ) → IsDeep' at → IsDeep at) → IsFault IsNone IsDeep e
blamed IsDeep IsDeep' fault f deep = record {
  none = λ h. f (fault.none h);
  deep = λ at h. deep at (fault.deep at h);
}

-- the next lexeme is of another kind
pub stuck_here : {X : Type 0} {phrase : X → Phrase} {b : List Lexeme} (IsDeep : ℕ → Type 0) (x : X) (more : List Lexeme) → ((tail : List Lexeme) → phrase x (more ++ tail) tail) →
    ((other : List Lexeme) → kind_at 0 other ≡ kind_at 0 b → HasNone phrase other) → IsFault (IsStuck phrase phrase b b) IsDeep Unexpected
stuck_here {b = b} IsDeep x more sample rejects = record {
  none = λ e. record {
    front = [];
    split = refl;
    begun = (x, more, sample);
    rejects = λ other alike. rejects other (alike_kind b other alike);
  };
  deep = λ at e. cc;
}

pub mark_stuck : (kind : TokenKind) (b : List Lexeme) → (kind_at 0 b ≡ Some kind → ⊥) → IsFault (IsStuck (λ (x : Unit {0}). g.mark kind) (λ (x : Unit {0}). g.mark kind) b b) (λ at. ⊥) Unexpected
mark_stuck kind b other =
    stuck_here (λ at. ⊥) tt (Fixed kind 0 ∷ []) (λ tail. (0, refl)) (λ l e. record { rejects = λ x after d. other (sym e ∙ ap (kind_at 0) d.1) })

pub name_stuck : (b : List Lexeme) → (kind_at 0 b ≡ Some k.Name → ⊥) → IsFault (IsStuck (g.name SamePlace) (g.name SamePlace) b b) (λ at. ⊥) Unexpected
name_stuck b other =
    stuck_here (λ at. ⊥) a.a_name (a.name ∷ []) (λ tail. (0, refl, refl)) (λ l e. record { rejects = λ x after d. other (sym e ∙ ap (kind_at 0) d.2) })

pub number_stuck : (b : List Lexeme) → (kind_at 0 b ≡ Some k.Number → ⊥) → IsFault (IsStuck (g.number SamePlace) (g.number SamePlace) b b) (λ at. ⊥) Unexpected
number_stuck b other =
    stuck_here (λ at. ⊥) a.a_number (a.number ∷ []) (λ tail. (0, refl, refl)) (λ l e. record { rejects = λ x after d. other (sym e ∙ ap (kind_at 0) d.2) })

-- neither has blocks
pub unread : {T X Y Z W : Type 0} {p q : Phrase} {phrase : X → Phrase} {whole : Y → Phrase} {part : Z → Phrase} {part_whole : W → Phrase} {b m a : List Lexeme} {e : Stop} (r : Result T Stop) (P : T → Type 0) →
    IsErrAnd r (λ d. d ≡ e) → IsFault (IsStuck part part_whole m a) (λ at. ⊥) e → Read p q b m → Goes p part phrase → Blames q part_whole whole m → MatchResult r P (IsFault (IsStuck phrase whole b a) (λ at. ⊥))
unread {phrase = phrase} {whole = whole} {b = b} {a = a} {e = e} r P is fault was go blames =
    passed (IsFault (IsStuck phrase whole b a) (λ at. ⊥)) r e P is (blamed (λ at. ⊥) (λ at. ⊥) fault (λ s. stuck s was go blames) (λ at h. h))

-- the part is there
pub unread_none : {T Z W : Type 0} {part : Z → Phrase} {part_whole : W → Phrase} {m a : List Lexeme} {e : Stop} (r : Result T Stop) (P : T → Type 0) (IsNone : Type 0) (IsDeep : ℕ → Type 0) →
    IsErrAnd r (λ d. d ≡ e) → IsFault (IsStuck part part_whole m a) (λ at. ⊥) e → (HasNone part_whole m → ⊥) → MatchResult r P (IsFault IsNone IsDeep)
unread_none {part_whole = part_whole} {e = e} r P IsNone IsDeep is fault there =
    passed (IsFault IsNone IsDeep) r e P is (blamed IsDeep (λ at. ⊥) fault (λ s. absurd (there (subst (HasNone part_whole) (sym s.split) (s.rejects _ refl)))) (λ at h. absurd h))

-- where blocks may stand: the fault of a part with none, and of a part with some
pub unread_flat : {T X Y Z W : Type 0} {p q : Phrase} (phrase : ℕ → X → Phrase) {whole : Y → Phrase} {part : Z → Phrase} {part_whole : W → Phrase} {b m a : List Lexeme} {e : Stop} (room : ℕ) {opened opened' behind : ℕ} (r : Result T Stop) (P : T → Type 0) →
    IsErrAnd r (λ d. d ≡ e) → IsFault (IsStuck part part_whole m a) (λ at. ⊥) e → Read p q b m → Goes p part (phrase (suc room)) → Blames q part_whole whole m → Keeps opened opened' p → ((z : Z) → Keeps opened' behind (part z)) →
    MatchResult r P (IsFault (IsStuckWithin phrase whole room opened b a) (IsBlocked phrase room opened b))
unread_flat phrase {whole = whole} {b = b} {a = a} {e = e} room {opened = opened} r P is fault was go blames keep keeps =
    passed (IsFault (IsStuckWithin phrase whole room opened b a) (IsBlocked phrase room opened b)) r e P is
    (blamed (IsBlocked phrase room opened b) (λ at. ⊥) fault (λ s. stuck_flat {phrase = phrase} {room = room} s was go blames keep keeps) (λ at h. absurd h))

deeper : {X Y Z W : Type 0} {p q : Phrase} (phrase : ℕ → X → Phrase) {whole : Y → Phrase} (part : ℕ → Z → Phrase) {part_whole : W → Phrase} {b m a : List Lexeme} {e : Stop} (room room' : ℕ) {opened opened' : ℕ} →
    IsFault (IsStuckWithin part part_whole room' opened' m a) (IsBlocked part room' opened' m) e → Read p q b m → Goes p (part (suc room')) (phrase (suc room)) → Blames q part_whole whole m → Keeps opened opened' p →
    IsFault (IsStuckWithin phrase whole room opened b a) (IsBlocked phrase room opened b) e
deeper phrase part {b = b} {m = m} room room' {opened = opened} {opened' = opened'} fault was go blames keep =
    blamed (IsBlocked phrase room opened b) (IsBlocked part room' opened' m) fault (λ s. stuck_within s was go blames keep) (λ at s. blocked s was go keep)

pub unread_deep : {T X Y Z W : Type 0} {p q : Phrase} (phrase : ℕ → X → Phrase) {whole : Y → Phrase} (part : ℕ → Z → Phrase) {part_whole : W → Phrase} {b m a : List Lexeme} {e : Stop} (room room' : ℕ) {opened opened' : ℕ} (r : Result T Stop) (P : T → Type 0) →
    IsErrAnd r (λ d. d ≡ e) → IsFault (IsStuckWithin part part_whole room' opened' m a) (IsBlocked part room' opened' m) e → Read p q b m → Goes p (part (suc room')) (phrase (suc room)) → Blames q part_whole whole m → Keeps opened opened' p →
    MatchResult r P (IsFault (IsStuckWithin phrase whole room opened b a) (IsBlocked phrase room opened b))
unread_deep phrase {whole = whole} part {b = b} {a = a} {e = e} room room' {opened = opened} r P is fault was go blames keep =
    passed (IsFault (IsStuckWithin phrase whole room opened b a) (IsBlocked phrase room opened b)) r e P is (deeper phrase part room room' fault was go blames keep)

-- the last part gives the answer
pub last_deep : {T X Y Z W : Type 0} {p q : Phrase} (phrase : ℕ → X → Phrase) {whole : Y → Phrase} (part : ℕ → Z → Phrase) {part_whole : W → Phrase} {b m : List Lexeme} (a : List Lexeme) (room room' : ℕ) {opened opened' : ℕ} (r : Result T Stop) (P P' : T → Type 0) →
    MatchResult r P' (IsFault (IsStuckWithin part part_whole room' opened' m a) (IsBlocked part room' opened' m)) → ((x : T) → P' x → P x) → Read p q b m → Goes p (part (suc room')) (phrase (suc room)) → Blames q part_whole whole m → Keeps opened opened' p →
    MatchResult r P (IsFault (IsStuckWithin phrase whole room opened b a) (IsBlocked phrase room opened b))
last_deep phrase part a room room' (Ok x) P P' h ok was go blames keep = ok x h
last_deep phrase part a room room' (Err e) P P' h ok was go blames keep = deeper phrase part room room' h was go blames keep

pub last_flat : {T X Y Z W : Type 0} {p q : Phrase} (phrase : ℕ → X → Phrase) {whole : Y → Phrase} {part : Z → Phrase} {part_whole : W → Phrase} {b m : List Lexeme} (a : List Lexeme) (room opened : ℕ) {opened' behind : ℕ} (r : Result T Stop) (P P' : T → Type 0) →
    MatchResult r P' (IsFault (IsStuck part part_whole m a) (λ at. ⊥)) → ((x : T) → P' x → P x) → Read p q b m → Goes p part (phrase (suc room)) → Blames q part_whole whole m → Keeps opened opened' p → ((z : Z) → Keeps opened' behind (part z)) →
    MatchResult r P (IsFault (IsStuckWithin phrase whole room opened b a) (IsBlocked phrase room opened b))
last_flat phrase a room opened (Ok x) P P' h ok was go blames keep keeps = ok x h
last_flat phrase {b = b} a room opened (Err e) P P' h ok was go blames keep keeps =
    blamed (IsBlocked phrase room opened b) (λ at. ⊥) h (λ s. stuck_flat {phrase = phrase} {room = room} s was go blames keep keeps) (λ at x. absurd x)

pub last : {T X Y Z W : Type 0} {p q : Phrase} {phrase : X → Phrase} {whole : Y → Phrase} {part : Z → Phrase} {part_whole : W → Phrase} {b m : List Lexeme} (a : List Lexeme) (r : Result T Stop) (P P' : T → Type 0) →
    MatchResult r P' (IsFault (IsStuck part part_whole m a) (λ at. ⊥)) → ((x : T) → P' x → P x) → Read p q b m → Goes p part phrase → Blames q part_whole whole m → MatchResult r P (IsFault (IsStuck phrase whole b a) (λ at. ⊥))
last a (Ok x) P P' h ok was go blames = ok x h
last a (Err e) P P' h ok was go blames = blamed (λ at. ⊥) (λ at. ⊥) h (λ s. stuck s was go blames) (λ at x. x)

-- what holds of an Ok holds of the result
pub if_ok : {T : Type 0} (r : Result T Stop) (P P' : T → Type 0) (Q : Stop → Type 0) → MatchResult r P Q → ((x : T) → P x → P' x) → IfOk r P'
if_ok (Ok x) P P' Q h f = f x h
if_ok (Err e) P P' Q h f = tt

-- behind a phrase that is read in one way
pub behind : {p q : Phrase} {E Y : Type 0} {part : Y → Phrase} {b m n : List Lexeme} → Same anything p q E → p b m → q b n → HasNone part m → HasNone part n
behind {part = part} {b = b} {m = m} {n = n} same h h' none = subst (HasNone part) (same.joins b b m n refl h h' refl refl).1 none

-- ---- choices

pub value_by_name : (b : List Lexeme) → kind_at 0 b ≡ Some k.Name → HasNone (g.name SamePlace) b → HasNone (g.value SamePlace) b
value_by_name b ahead none = record { rejects = rejects }
  where
    rejects : (x : Operand) (after : List Lexeme) → g.value SamePlace x b after → ⊥
    rejects (operand.Name n) after d = none.rejects n after d
    rejects (operand.Num n) after d = let e = ap (kind_at 0) d.2 in cc

pub value_by_number : (b : List Lexeme) → (kind_at 0 b ≡ Some k.Name → ⊥) → HasNone (g.number SamePlace) b → HasNone (g.value SamePlace) b
value_by_number b ahead none = record { rejects = rejects }
  where
    rejects : (x : Operand) (after : List Lexeme) → g.value SamePlace x b after → ⊥
    rejects (operand.Name n) after d = ahead (ap (kind_at 0) d.2)
    rejects (operand.Num n) after d = none.rejects n after d

pub neither : (first second : TokenKind) (b : List Lexeme) → (kind_at 0 b ≡ Some first → ⊥) → HasNone (λ (x : Unit {0}). g.mark second) b → HasNone (λ is_first. g.mark (if is_first then first else second)) b
neither first second b ahead none = record { rejects = rejects }
  where
    rejects : (x : Bool) (after : List Lexeme) → g.mark (if x then first else second) b after → ⊥
    rejects true after d = ahead (ap (kind_at 0) d.1)
    rejects false after d = none.rejects tt after d

-- the mark of a test, as a choice
pub chosen_test : (wide : Bool) (b r : List Lexeme) → g.mark (g.test_mark wide) b r → g.mark (if wide then k.DoubleEquals else k.Tilde) b r
chosen_test true b r h = h
chosen_test false b r h = h

pub chosen_access : (writable : Bool) (b r : List Lexeme) → g.mark (g.access_mark writable) b r → g.mark (if writable then k.Rw else k.Ro) b r
chosen_access true b r h = h
chosen_access false b r h = h

pub test_chosen : (wide : Bool) (b r : List Lexeme) → g.mark (if wide then k.DoubleEquals else k.Tilde) b r → g.mark (g.test_mark wide) b r
test_chosen true b r h = h
test_chosen false b r h = h

pub access_chosen : (writable : Bool) (b r : List Lexeme) → g.mark (if writable then k.Rw else k.Ro) b r → g.mark (g.access_mark writable) b r
access_chosen true b r h = h
access_chosen false b r h = h

pub chosen_first : (first second : TokenKind) (is_first : Bool) (b r : List Lexeme) → is_first ≡ true → g.mark (if is_first then first else second) b r → g.mark first b r
chosen_first first second true b r e h = h
chosen_first first second false b r e h = cc

pub chosen_second : (first second : TokenKind) (is_first : Bool) (b r : List Lexeme) → is_first ≡ false → g.mark (if is_first then first else second) b r → g.mark second b r
chosen_second first second true b r e h = cc
chosen_second first second false b r e h = h
