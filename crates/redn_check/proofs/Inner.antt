use Rattle.std.proofs.Common.{◌≡◌, List, [], ◌∷◌, ◌++◌, map, refl, sym, ap, ◌∙◌, subst}
use Rattle.std.specs.List.{flat_map}
use Rattle.std.proofs.lemmas.List.Concat.{flat_map-append}
use Rattle.redn_syntax.specs.declared.tree.Stmt.{Stmt, fold_out-Stmt, ind-Stmt, roll-Stmt}
use Rattle.redn_syntax.specs.declared.tree.StmtKind.{StmtKind, roll-StmtKind, out-StmtKind, map-StmtKind, fold-StmtKind, fold_out-StmtKind, out-roll-StmtKind, roll-out-StmtKind}
use Rattle.redn_syntax.specs.declared.tree.StmtKind.TheOpen.{StmtKind-F}
use Rattle.redn_check.specs.Statements.{inner, unfold_by, with_statement, unfolded, with_inner, each_of}

-- a fact of each of a list
abbrev pub Each : {X : Type 0} → (X → Type 0) → List X → Type 0
Each P [] = Unit {0}
Each P (x ∷ xs) = P x × Each P xs

pub Each-append : {X : Type 0} (P : X → Type 0) (xs ys : List X) → Each P xs → Each P ys → Each P (xs ++ ys)
Each-append P [] ys h k = k
Each-append P (x ∷ xs) ys h k = (h.0, Each-append P xs ys h.1 k)

pub Each-firsts : {X : Type 0} (P : X → Type 0) (es : List ((x : X) × P x)) → Each P (map (λ e. e.0) es)
Each-firsts P [] = tt
Each-firsts P (e ∷ es) = (e.1, Each-firsts P es)

module _ (P : Stmt → Type 0) (of_inner : (s : Stmt) → Each P (inner (out-StmtKind s.kind)) → P s) where
  abbrev OfKind : StmtKind → Type 0
  OfKind kind = Each P (inner (out-StmtKind kind))

  abbrev Held : Type 0
  Held = StmtKind-F ((x : StmtKind) × OfKind x) ((x : Stmt) × P x)

  abbrev bare : Held → StmtKind-F StmtKind Stmt
  bare y = map-StmtKind ((x : StmtKind) × OfKind x) ((x : Stmt) × P x) StmtKind Stmt (λ e. e.0) (λ e. e.0) y

  held : (y : Held) → Each P (inner (bare y))
  held (StmtKind-F.If wide left right met unmet) = Each-append P (map (λ e. e.0) met) (map (λ e. e.0) unmet ++ []) (Each-firsts P met) (Each-append P (map (λ e. e.0) unmet) [] (Each-firsts P unmet) tt)
  held (StmtKind-F.Loop body) = Each-append P (map (λ e. e.0) body) [] (Each-firsts P body) tt
  held (StmtKind-F.Repeat count body) = Each-append P (map (λ e. e.0) body) [] (Each-firsts P body) tt
  held _ = tt

  pub by_inner : (s : Stmt) → P s
  by_inner = ind-Stmt OfKind P
      (λ x y is. subst (λ l. Each P (inner l)) (sym (out-roll-StmtKind x)) (subst (λ l. Each P (inner l)) is (held y)))
      (λ x y is. of_inner (roll-Stmt x) (subst OfKind (ap (λ r. r.kind) is) y.kind.1))

-- ---- a statement and those in its blocks

abbrev unfolded_kind : StmtKind → StmtKind × List Stmt
unfolded_kind = fold-StmtKind (StmtKind × List Stmt) (Stmt × List Stmt) unfold_by (λ s. with_statement s.at s.kind)

unfolded_out : (s : Stmt) → unfolded s ≡ with_statement s.at (unfold_by (map-StmtKind StmtKind Stmt (StmtKind × List Stmt) (Stmt × List Stmt) unfolded_kind unfolded (out-StmtKind s.kind)))
unfolding unfolded
unfolded_out s = fold_out-Stmt (StmtKind × List Stmt) (Stmt × List Stmt) unfold_by (λ x. with_statement x.at x.kind) s ∙ ap (with_statement s.at) (fold_out-StmtKind (StmtKind × List Stmt) (Stmt × List Stmt) unfold_by (λ x. with_statement x.at x.kind) s.kind)

firsts : (body : List Stmt) → Each (λ s. (unfolded s).0 ≡ s) body → map (λ e. e.0) (map unfolded body) ≡ body
firsts [] h = refl
firsts (s ∷ body) h = λ i. h.0 i ∷ firsts body h.1 i

pub Each-left : {X : Type 0} (P : X → Type 0) (xs ys : List X) → Each P (xs ++ ys) → Each P xs
Each-left P [] ys h = tt
Each-left P (x ∷ xs) ys h = (h.0, Each-left P xs ys h.1)

pub Each-right : {X : Type 0} (P : X → Type 0) (xs ys : List X) → Each P (xs ++ ys) → Each P ys
Each-right P [] ys h = h
Each-right P (x ∷ xs) ys h = Each-right P xs ys h.1

abbrev Rebuilt : Stmt → Type 0
Rebuilt s = (unfolded s).0 ≡ s

abbrev bare_again : StmtKind-F StmtKind Stmt → StmtKind-F StmtKind Stmt
bare_again layer = map-StmtKind (StmtKind × List Stmt) (Stmt × List Stmt) StmtKind Stmt (λ e. e.0) (λ e. e.0) (map-StmtKind StmtKind Stmt (StmtKind × List Stmt) (Stmt × List Stmt) unfolded_kind unfolded layer)

same_layer : (layer : StmtKind-F StmtKind Stmt) → Each Rebuilt (inner layer) → bare_again layer ≡ layer
same_layer (StmtKind-F.If wide left right met unmet) h =
    let m = firsts met (Each-left Rebuilt met (unmet ++ []) h) in
    let u = firsts unmet (Each-left Rebuilt unmet [] (Each-right Rebuilt met (unmet ++ []) h)) in
    λ i. StmtKind-F.If wide left right (m i) (u i)
same_layer (StmtKind-F.Loop body) h = ap StmtKind-F.Loop (firsts body (Each-left Rebuilt body [] h))
same_layer (StmtKind-F.Repeat count body) h = ap (StmtKind-F.Repeat count) (firsts body (Each-left Rebuilt body [] h))
same_layer (StmtKind-F.Move to from) h = refl
same_layer (StmtKind-F.Add to by) h = refl
same_layer (StmtKind-F.Load to t offset) h = refl
same_layer (StmtKind-F.Store t offset from) h = refl
same_layer StmtKind-F.Break h = refl
same_layer (StmtKind-F.Lookup to t offset key probes) h = refl
same_layer (StmtKind-F.Walk to t offset key nodes) h = refl
same_layer (StmtKind-F.Reply words) h = refl

at_kind : (s : Stmt) (kind : StmtKind) → kind ≡ s.kind → record { at = s.at; kind = kind } ≡ s
at_kind s kind e = λ i. record { at = s.at; kind = e i }

pub rebuilt : (s : Stmt) → Rebuilt s
rebuilt = by_inner Rebuilt (λ s h. ap (λ u. u.0) (unfolded_out s) ∙ at_kind s _ (ap roll-StmtKind (same_layer (out-StmtKind s.kind) h) ∙ roll-out-StmtKind s.kind))

abbrev second : Stmt × List Stmt → List Stmt
second e = e.1

seconds_of : (body : List Stmt) → flat_map second (map unfolded body) ≡ each_of body
seconds_of [] = refl
seconds_of (s ∷ body) = ap (λ l. with_inner s ++ l) (seconds_of body)

seconds_then : (body : List Stmt) (pairs : List (Stmt × List Stmt)) (more : List Stmt) → flat_map second pairs ≡ each_of more → flat_map second (map unfolded body ++ pairs) ≡ each_of (body ++ more)
seconds_then body pairs more e = flat_map-append second (map unfolded body) pairs ∙ (λ i. seconds_of body i ++ e i) ∙ sym (flat_map-append with_inner body more)

seconds : (layer : StmtKind-F StmtKind Stmt) → flat_map second (inner (map-StmtKind StmtKind Stmt (StmtKind × List Stmt) (Stmt × List Stmt) unfolded_kind unfolded layer)) ≡ each_of (inner layer)
seconds (StmtKind-F.If wide left right met unmet) = seconds_then met (map unfolded unmet ++ []) (unmet ++ []) (seconds_then unmet [] [] refl)
seconds (StmtKind-F.Loop body) = seconds_then body [] [] refl
seconds (StmtKind-F.Repeat count body) = seconds_then body [] [] refl
seconds _ = refl

-- a statement, and then each in its blocks
pub with_inner_is : (s : Stmt) → with_inner s ≡ s ∷ each_of (inner (out-StmtKind s.kind))
with_inner_is s = ap (λ u. u.1) (unfolded_out s) ∙ (λ i. (sym (ap (λ u. u.0) (unfolded_out s)) ∙ rebuilt s) i ∷ seconds (out-StmtKind s.kind) i)
