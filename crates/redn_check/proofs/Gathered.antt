-- The faults of a statement and of those in its blocks, by what the statement is.
use Rattle.std.proofs.Common.{◌≡◌, Bool, List, [], ◌++◌, refl, sym, ap, ◌∙◌}
use Rattle.std.specs.List.{flat_map}
use Rattle.std.proofs.lemmas.List.{append-nil}
use Rattle.std.proofs.lemmas.List.Concat.{flat_map-append}
use Rattle.redn_syntax.specs.declared.tree.Num.{Num}
use Rattle.redn_syntax.specs.declared.tree.Operand.{Operand}
use Rattle.redn_syntax.specs.declared.tree.Stmt.{Stmt}
use Rattle.redn_syntax.specs.declared.tree.StmtKind.{StmtKind, out-StmtKind, roll-StmtKind, roll-out-StmtKind}
use Rattle.redn_syntax.specs.declared.tree.StmtKind.TheVariants as s
use Rattle.redn_syntax.specs.declared.tree.StmtKind.TheOpen.{StmtKind-F}
use Rattle.redn_check.specs.declared.fault.Fault.{Fault}
use Rattle.redn_check.specs.Faults.{earlier, first_of}
use Rattle.redn_check.specs.Statements.{layer_of, inner, with_inner, each_of}
use Rattle.redn_check.proofs.Inner.{with_inner_is}
use Rattle.redn_check.proofs.EarliestOf.{earlier_none, first_of-append}

module _ {X : Type 0} (g : Stmt → List X) where
  abbrev pub in_body : List Stmt → List X
  in_body body = flat_map g (each_of body)

  pub in_body-append : (xs ys : List Stmt) → in_body (xs ++ ys) ≡ in_body xs ++ in_body ys
  in_body-append xs ys = ap (flat_map g) (flat_map-append with_inner xs ys) ∙ flat_map-append g (each_of xs) (each_of ys)

  pub in_statement : (s : Stmt) (layer : StmtKind-F StmtKind Stmt) → layer_of s ≡ layer → flat_map g (with_inner s) ≡ g s ++ in_body (inner layer)
  in_statement s layer e = ap (flat_map g) (with_inner_is s) ∙ ap (λ l. g s ++ in_body (inner l)) e

  pub in_block : (body : List Stmt) → in_body (body ++ []) ≡ in_body body
  in_block body = ap in_body (append-nil body)

  pub in_blocks : (met unmet : List Stmt) → in_body (met ++ (unmet ++ [])) ≡ in_body met ++ in_body unmet
  in_blocks met unmet = in_body-append met (unmet ++ []) ∙ ap (λ l. in_body met ++ l) (in_block unmet)

module _ (g : Stmt → List Fault) (s : Stmt) where
  pub found_if : (wide : Bool) (left right : Operand) (met unmet : List Stmt) → layer_of s ≡ StmtKind-F.If wide left right met unmet →
      first_of (flat_map g (with_inner s)) ≡ earlier (first_of (g s)) (earlier (first_of (in_body g met)) (first_of (in_body g unmet)))
  found_if wide left right met unmet e =
      ap first_of (in_statement g s _ e ∙ ap (λ l. g s ++ l) (in_blocks g met unmet)) ∙ first_of-append (g s) (in_body g met ++ in_body g unmet)
      ∙ ap (earlier (first_of (g s))) (first_of-append (in_body g met) (in_body g unmet))

  pub found_loop : (body : List Stmt) → layer_of s ≡ StmtKind-F.Loop body → first_of (flat_map g (with_inner s)) ≡ earlier (first_of (g s)) (first_of (in_body g body))
  found_loop body e = ap first_of (in_statement g s _ e ∙ ap (λ l. g s ++ l) (in_block g body)) ∙ first_of-append (g s) (in_body g body)

  pub found_repeat : (count : Num) (body : List Stmt) → layer_of s ≡ StmtKind-F.Repeat count body → first_of (flat_map g (with_inner s)) ≡ earlier (first_of (g s)) (first_of (in_body g body))
  found_repeat count body e = ap first_of (in_statement g s _ e ∙ ap (λ l. g s ++ l) (in_block g body)) ∙ first_of-append (g s) (in_body g body)

  pub found_plain : inner (layer_of s) ≡ [] → first_of (flat_map g (with_inner s)) ≡ first_of (g s)
  found_plain e = ap first_of (in_statement g s _ refl ∙ ap (λ l. g s ++ in_body g l) e) ∙ first_of-append (g s) [] ∙ earlier_none (first_of (g s))

-- a statement that is no `if`, no `loop` and no `repeat` has no block
module _ (kind : StmtKind)
    (not_if : (wide : Bool) (left right : Operand) (met unmet : List Stmt) → kind ≡ s.If wide left right met unmet → ⊥)
    (not_loop : (body : List Stmt) → kind ≡ s.Loop body → ⊥)
    (not_repeat : (count : Num) (body : List Stmt) → kind ≡ s.Repeat count body → ⊥) where
  abbrev is_rolled : (layer : StmtKind-F StmtKind Stmt) → out-StmtKind kind ≡ layer → kind ≡ roll-StmtKind layer
  is_rolled layer e = sym (roll-out-StmtKind kind) ∙ ap roll-StmtKind e

  bare : (layer : StmtKind-F StmtKind Stmt) → out-StmtKind kind ≡ layer → inner layer ≡ []
  bare (StmtKind-F.If wide left right met unmet) e = absurd (not_if wide left right met unmet (is_rolled _ e ∙ s.rolls-If wide left right met unmet))
  bare (StmtKind-F.Loop body) e = absurd (not_loop body (is_rolled _ e ∙ s.rolls-Loop body))
  bare (StmtKind-F.Repeat count body) e = absurd (not_repeat count body (is_rolled _ e ∙ s.rolls-Repeat count body))
  bare _ e = refl

  pub no_blocks : inner (out-StmtKind kind) ≡ []
  no_blocks = bare (out-StmtKind kind) refl
