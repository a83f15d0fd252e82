-- Reading on, line by line.
use Rattle.std.proofs.Common.{◌≡◌, ℕ, ◌+◌, ◌<◌, Bool, true, false, List, [], ◌∷◌, length, refl, sym, ap, subst, ◌∙◌, inl, inr, arith}
use Rattle.std.specs.Cmp.Lexicographic.{pointwise, bytes_decides}
use Rattle.std.specs.Prelude.{nat_eq, not, ◌⊎◌, codes, Ok, Result, MatchResult, if◌then◌else◌}
use Rattle.redn_image.specs.declared.numbers.Fault.{Fault}
use Rattle.redn_image.specs.Rules.{Numbers, faults, first_of}
use Rattle.redn_disasm.specs.Assembly.{Begun, BreaksRule, ComesTo, GivenRows, Leads, Named, Outcome, Progress, WrongLine, fills, finished, held, memory_formats, no_rows, settled}
use Rattle.redn_text.specs.Texts.{lines_of}
use Rattle.redn_disasm.specs.Fields.{IsRow}
use Rattle.redn_disasm.specs.Going.{GoesOn}

pub comes_more : (k : ℕ) (p : Progress) (text line behind : List ℕ) (q : Progress) (out : Outcome) → lines_of text ≡ line ∷ lines_of behind → settled p line ≡ Ok p → Leads p line q → ComesTo (k + 1) q (lines_of behind) out → ComesTo k p (lines_of text) out
comes_more k p text line behind q out e s l h =
    let A : Progress → Type 0 = λ r. ((after : Progress) × Leads r line after × ComesTo (k + 1) after (lines_of behind) out) ⊎ (((after : Progress) → ¬ Leads r line after) × (out ≡ WrongLine k)) in
    let B : Fault → Type 0 = λ f. out ≡ BreaksRule f in
    subst (λ (ls : List (List ℕ)). ComesTo k p ls out) (sym e) (subst (λ (r : Result Progress Fault). MatchResult r A B) (sym s) (inl (q, l, h)))

pub comes_wrong : (k : ℕ) (p : Progress) (text line behind : List ℕ) → lines_of text ≡ line ∷ lines_of behind → settled p line ≡ Ok p → ((after : Progress) → Leads p line after → ⊥) → ComesTo k p (lines_of text) (WrongLine k)
comes_wrong k p text line behind e s none =
    let out : Outcome = WrongLine k in
    let A : Progress → Type 0 = λ r. ((after : Progress) × Leads r line after × ComesTo (k + 1) after (lines_of behind) out) ⊎ (((after : Progress) → ¬ Leads r line after) × (out ≡ WrongLine k)) in
    let B : Fault → Type 0 = λ f. out ≡ BreaksRule f in
    subst (λ (ls : List (List ℕ)). ComesTo k p ls out) (sym e) (subst (λ (r : Result Progress Fault). MatchResult r A B) (sym s) (inr (none, refl)))

pub comes_missing : (k : ℕ) (p : Progress) (text : List ℕ) → lines_of text ≡ [] → finished k p ≡ WrongLine k → ComesTo k p (lines_of text) (WrongLine k)
comes_missing k p text e f = subst (λ (ls : List (List ℕ)). ComesTo k p ls (WrongLine k)) (sym e) (sym f)

pub goes_none : (k : ℕ) (p : Progress) (text : List ℕ) → GoesOn k p text k p text
goes_none k p text = record { whole = λ out h. h; low = omega arith }

pub goes_more : (k : ℕ) (p : Progress) (text : List ℕ) (j : ℕ) (q : Progress) (rest line behind : List ℕ) (r : Progress) → GoesOn k p text j q rest → lines_of rest ≡ line ∷ lines_of behind → length behind < length rest → settled q line ≡ Ok q → Leads q line r → GoesOn k p text (j + 1) r behind
goes_more k p text j q rest line behind r g e short s l =
    record {
      whole = λ out h. g.whole out (comes_more j q rest line behind r out e s l h);
      low = let before = g.low in omega arith;
    }

pub goes_wrong : (k : ℕ) (p : Progress) (text : List ℕ) (j : ℕ) (q : Progress) (rest line behind : List ℕ) → GoesOn k p text j q rest → lines_of rest ≡ line ∷ lines_of behind → settled q line ≡ Ok q → ((after : Progress) → Leads q line after → ⊥) → ComesTo k p (lines_of text) (WrongLine j)
goes_wrong k p text j q rest line behind g e s none = g.whole (WrongLine j) (comes_wrong j q rest line behind e s none)

pub goes_missing : (k : ℕ) (p : Progress) (text : List ℕ) (j : ℕ) (q : Progress) (rest : List ℕ) → GoesOn k p text j q rest → lines_of rest ≡ [] → finished j q ≡ WrongLine j → ComesTo k p (lines_of text) (WrongLine j)
goes_missing k p text j q rest g e f = g.whole (WrongLine j) (comes_missing j q rest e f)

pub goes_then : (k : ℕ) (p : Progress) (text : List ℕ) (j : ℕ) (q : Progress) (rest : List ℕ) (i : ℕ) (r : Progress) (last : List ℕ) → GoesOn k p text j q rest → GoesOn j q rest i r last → GoesOn k p text i r last
goes_then k p text j q rest i r last g h =
    record {
      whole = λ out x. g.whole out (h.whole out x);
      low = let a = g.low in let b = h.low in omega arith;
    }

-- a row's line holds rows to no rule
pub not_held : (n : Numbers) (line : List ℕ) → fills line ≡ false → settled (GivenRows n) line ≡ Ok (GivenRows n)
not_held n line e = ap (λ (b : Bool). if b then held n (first_of (faults n)) else Ok (GivenRows n)) e

-- the first lines
pub leads_named : (line : List ℕ) → line ≡ codes "redn 1\n" → Leads Begun line Named
unfolding Leads
leads_named line e = (e, refl)

pub none_named : (line : List ℕ) → (line ≡ codes "redn 1\n" → ⊥) → (after : Progress) → Leads Begun line after → ⊥
unfolding Leads
none_named line other after h = other h.0

pub leads_size : (line : List ℕ) (size : ℕ) → IsRow (codes "memory") memory_formats line (size ∷ []) → Leads Named line (GivenRows (no_rows size))
unfolding Leads
leads_size line size row = (size, row, refl)

pub none_size : (line : List ℕ) → ((values : List ℕ) → IsRow (codes "memory") memory_formats line values → ⊥) → (after : Progress) → Leads Named line after → ⊥
unfolding Leads
none_size line other after h = other (h.0 ∷ []) h.1

pub told_same : (a b line : List ℕ) (r : Bool) → r ≡ not (pointwise nat_eq a b) → r ≡ false → b ≡ line → a ≡ line
told_same a b line r e f g =
    let yes : pointwise nat_eq a b ≡ true = unnegated (pointwise nat_eq a b) (sym e ∙ f) in
    (bytes_decides _ _).0 yes ∙ g
  where
    unnegated : (x : Bool) → not x ≡ false → x ≡ true
    unnegated true h = refl
    unnegated false h = absurd (cc)

pub told_apart : (a b line : List ℕ) (r : Bool) → r ≡ not (pointwise nat_eq a b) → r ≡ true → b ≡ line → a ≡ line → ⊥
told_apart a b line r e f g h =
    let yes : pointwise nat_eq a b ≡ true = (bytes_decides _ _).1 (h ∙ sym g) in
    absurd (cc (ap not yes))
