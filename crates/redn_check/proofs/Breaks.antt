-- The breaks of a statement that leave a loop around it.
use Rattle.std.proofs.Common.{◌≡◌, ℕ, ◌+◌, ◌<◌, Bool, List, [], ◌∷◌, ◌++◌, length, map, take, get_or, refl, sym, ap, ◌∙◌}
use Rattle.std.specs.List.{flat_map}
use Rattle.std.proofs.lemmas.List.{append-nil, map-append, take_more}
use Rattle.std.proofs.lemmas.List.Concat.{flat_map-append}
use Rattle.redn_syntax.specs.declared.tree.Operand.{Operand}
use Rattle.redn_syntax.specs.declared.tree.Stmt.{Stmt}
use Rattle.redn_syntax.specs.declared.tree.StmtKind.{StmtKind, roll-StmtKind, roll-out-StmtKind}
use Rattle.redn_syntax.specs.declared.tree.StmtKind.TheVariants as k
use Rattle.redn_syntax.specs.declared.tree.StmtKind.TheOpen.{StmtKind-F}
use Rattle.redn_check.specs.declared.fault.Fault.{Fault}
use Rattle.redn_check.specs.Faults.{fault, earlier, first_of}
use Rattle.redn_check.specs.Statements.{layer_of, breaks_by, breaks_of}
use Rattle.redn_check.specs.Rules.{loose_breaks}
use Rattle.redn_check.proofs.Cases.{breaks_out}
use Rattle.redn_check.proofs.EarliestOf.{first_of-append}

abbrev pub loose : List ℕ → List Fault
loose places = map (λ at. fault 4 at 0) places

flat_map-map : (body : List Stmt) → flat_map (λ places. places) (map breaks_of body) ≡ flat_map breaks_of body
flat_map-map [] = refl
flat_map-map (s ∷ body) = ap (λ l. breaks_of s ++ l) (flat_map-map body)

module _ (s : Stmt) where
  pub breaks_of_break : layer_of s ≡ StmtKind-F.Break → breaks_of s ≡ s.at ∷ []
  unfolding breaks_by
  breaks_of_break e = breaks_out s _ e

  pub breaks_of_if : (wide : Bool) (left right : Operand) (met unmet : List Stmt) → layer_of s ≡ StmtKind-F.If wide left right met unmet → breaks_of s ≡ flat_map breaks_of met ++ flat_map breaks_of unmet
  unfolding breaks_by
  breaks_of_if wide left right met unmet e = breaks_out s _ e ∙ (λ i. flat_map-map met i ++ flat_map-map unmet i)

  pub found_breaks : (wide : Bool) (left right : Operand) (met unmet : List Stmt) → layer_of s ≡ StmtKind-F.If wide left right met unmet →
      first_of (loose (breaks_of s)) ≡ earlier (first_of (loose_breaks met)) (first_of (loose_breaks unmet))
  found_breaks wide left right met unmet e =
      ap (λ l. first_of (loose l)) (breaks_of_if wide left right met unmet e) ∙ ap first_of (map-append (λ at. fault 4 at 0) (flat_map breaks_of met) (flat_map breaks_of unmet))
      ∙ first_of-append (loose_breaks met) (loose_breaks unmet)

  module _ (not_if : (wide : Bool) (left right : Operand) (met unmet : List Stmt) → s.kind ≡ k.If wide left right met unmet → ⊥) (not_break : s.kind ≡ k.Break → ⊥) where
    abbrev rolled : (layer : StmtKind-F StmtKind Stmt) → layer_of s ≡ layer → s.kind ≡ roll-StmtKind layer
    rolled layer e = sym (roll-out-StmtKind s.kind) ∙ ap roll-StmtKind e

    other : (layer : StmtKind-F StmtKind Stmt) → layer_of s ≡ layer → breaks_of s ≡ []
    unfolding breaks_by
    other (StmtKind-F.If wide left right met unmet) e = absurd (not_if wide left right met unmet (rolled _ e ∙ k.rolls-If wide left right met unmet))
    other StmtKind-F.Break e = absurd (not_break (rolled _ e ∙ k.rolls-Break))
    other (StmtKind-F.Loop body) e = breaks_out s (StmtKind-F.Loop body) e
    other (StmtKind-F.Repeat count body) e = breaks_out s (StmtKind-F.Repeat count body) e
    other (StmtKind-F.Reply words) e = breaks_out s (StmtKind-F.Reply words) e
    other (StmtKind-F.Move to from) e = breaks_out s (StmtKind-F.Move to from) e
    other (StmtKind-F.Add to by) e = breaks_out s (StmtKind-F.Add to by) e
    other (StmtKind-F.Load to table offset) e = breaks_out s (StmtKind-F.Load to table offset) e
    other (StmtKind-F.Store table offset from) e = breaks_out s (StmtKind-F.Store table offset from) e
    other (StmtKind-F.Lookup to table offset key probes) e = breaks_out s (StmtKind-F.Lookup to table offset key probes) e
    other (StmtKind-F.Walk to table offset key nodes) e = breaks_out s (StmtKind-F.Walk to table offset key nodes) e

    pub no_breaks : breaks_of s ≡ []
    no_breaks = other (layer_of s) refl

-- one more statement of a list
pub loose_more : (body : List Stmt) (i : ℕ) (s : Stmt) → i < length body → s ≡ get_or body i s →
    first_of (loose_breaks (take (i + 1) body)) ≡ earlier (first_of (loose_breaks (take i body))) (first_of (loose (breaks_of s)))
loose_more body i s h e =
    ap (λ l. first_of (loose_breaks l)) (take_more body i s h ∙ ap (λ t. take i body ++ t ∷ []) (sym e))
    ∙ ap (λ l. first_of (loose l)) (flat_map-append breaks_of (take i body) (s ∷ []) ∙ ap (λ l. flat_map breaks_of (take i body) ++ l) (append-nil (breaks_of s)))
    ∙ ap first_of (map-append (λ at. fault 4 at 0) (flat_map breaks_of (take i body)) (breaks_of s)) ∙ first_of-append (loose_breaks (take i body)) (loose (breaks_of s))
