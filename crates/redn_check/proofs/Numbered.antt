-- The program's statement of each statement, and where no number is out of its range.
use Rattle.std.proofs.Common.{◌≡◌, ℕ, ◌+◌, ◌<◌, ◌≤◌, Bool, false, ◌||◌, ltb, List, [], ◌∷◌, length, map, take, drop, get_or, refl, sym, ap, ◌∙◌, arith}
use Rattle.std.specs.List.{flat_map}
use Rattle.std.specs.Prelude.{Option, Some, None}
use Rattle.std.specs.Option.{option_map_or}
use Rattle.std.proofs.lemmas.Bool.Decides.{nat_tests}
use Rattle.std.proofs.lemmas.List.Concat.{flat_map-append}
use Rattle.redn_syntax.specs.declared.tree.Name.{Name}
use Rattle.redn_syntax.specs.declared.tree.Num.{Num}
use Rattle.redn_syntax.specs.declared.tree.Operand.{Operand}
use Rattle.redn_syntax.specs.declared.tree.Chain.{Chain}
use Rattle.redn_syntax.specs.declared.tree.Stmt.{Stmt, fold_out-Stmt}
use Rattle.redn_syntax.specs.declared.tree.StmtKind.{StmtKind, map-StmtKind, fold-StmtKind, fold_out-StmtKind}
use Rattle.redn_syntax.specs.declared.tree.StmtKind.TheOpen.{StmtKind-F}
use Rattle.redn_kernel.specs.declared.types.Kernel.{Kernel}
use Rattle.redn_kernel.specs.declared.types.Kernel.TheVariants as k
use Rattle.redn_check.specs.declared.fault.Fault.{Fault}
use Rattle.redn_check.specs.Faults.{fault}
use Rattle.redn_check.specs.Statements.{layer_of, with_inner, inner, each_of}
use Rattle.redn_check.specs.Rules.{outside, out_of_range, number_faults, bad_serve, most_served}
use Rattle.redn_check.specs.Numbering.{number_of, word_of, kernel_by, kernel_of, served}
use Rattle.redn_check.proofs.Gathered.{in_body, in_body-append, in_statement, in_block, in_blocks}
use Rattle.redn_check.proofs.Behind.{split_at}
use Rattle.redn_check.proofs.Nothing.{nil_left, nil_right, when_none}

module _ (tables names : List Name) (s : Stmt) where
  abbrev pub numbered_layer : StmtKind-F StmtKind Stmt → StmtKind-F Kernel Kernel
  numbered_layer = map-StmtKind StmtKind Stmt Kernel Kernel (fold-StmtKind Kernel Kernel (kernel_by tables names) (λ x. x.kind)) (kernel_of tables names)

  pub kernel_out : (layer : StmtKind-F StmtKind Stmt) → layer_of s ≡ layer → kernel_of tables names s ≡ kernel_by tables names (numbered_layer layer)
  unfolding kernel_of
  kernel_out layer e =
      fold_out-Stmt Kernel Kernel (kernel_by tables names) (λ x. x.kind) s ∙ fold_out-StmtKind Kernel Kernel (kernel_by tables names) (λ x. x.kind) s.kind
      ∙ ap (λ l. kernel_by tables names (numbered_layer l)) e

  pub kernel_move : (to : Name) (from : Operand) → layer_of s ≡ StmtKind-F.Move to from → kernel_of tables names s ≡ k.Move (number_of names to) (word_of names from)
  unfolding kernel_by
  kernel_move to from = kernel_out _

  pub kernel_add : (to : Name) (by : Operand) → layer_of s ≡ StmtKind-F.Add to by → kernel_of tables names s ≡ k.Add (number_of names to) (word_of names by)
  unfolding kernel_by
  kernel_add to by = kernel_out _

  pub kernel_load : (to table : Name) (offset : Operand) → layer_of s ≡ StmtKind-F.Load to table offset →
      kernel_of tables names s ≡ k.Load (number_of names to) (number_of tables table) (word_of names offset)
  unfolding kernel_by
  kernel_load to table offset = kernel_out _

  pub kernel_store : (table : Name) (offset from : Operand) → layer_of s ≡ StmtKind-F.Store table offset from →
      kernel_of tables names s ≡ k.Store (number_of tables table) (word_of names offset) (word_of names from)
  unfolding kernel_by
  kernel_store table offset from = kernel_out _

  pub kernel_if : (wide : Bool) (left right : Operand) (met unmet : List Stmt) → layer_of s ≡ StmtKind-F.If wide left right met unmet →
      kernel_of tables names s ≡ k.If wide (word_of names left) (word_of names right) (map (kernel_of tables names) met) (map (kernel_of tables names) unmet)
  unfolding kernel_by
  kernel_if wide left right met unmet = kernel_out _

  pub kernel_loop : (body : List Stmt) → layer_of s ≡ StmtKind-F.Loop body → kernel_of tables names s ≡ k.Loop (map (kernel_of tables names) body)
  unfolding kernel_by
  kernel_loop body = kernel_out _

  pub kernel_repeat : (count : Num) (body : List Stmt) → layer_of s ≡ StmtKind-F.Repeat count body → kernel_of tables names s ≡ k.Repeat count.value (map (kernel_of tables names) body)
  unfolding kernel_by
  kernel_repeat count body = kernel_out _

  pub kernel_break : layer_of s ≡ StmtKind-F.Break → kernel_of tables names s ≡ k.Break
  unfolding kernel_by
  kernel_break = kernel_out _

  pub kernel_lookup : (to table : Name) (offset key : Operand) (probes : Num) → layer_of s ≡ StmtKind-F.Lookup to table offset key probes →
      kernel_of tables names s ≡ k.Lookup (number_of names to) (number_of tables table) (word_of names offset) (word_of names key) probes.value
  unfolding kernel_by
  kernel_lookup to table offset key probes = kernel_out _

  pub kernel_walk : (to table : Name) (offset key : Operand) (nodes : Num) → layer_of s ≡ StmtKind-F.Walk to table offset key nodes →
      kernel_of tables names s ≡ k.Walk (number_of names to) (number_of tables table) (word_of names offset) (word_of names key) nodes.value
  unfolding kernel_by
  kernel_walk to table offset key nodes = kernel_out _

  pub kernel_reply : (words : List Operand) → layer_of s ≡ StmtKind-F.Reply words → kernel_of tables names s ≡ k.Reply (map (word_of names) words)
  unfolding kernel_by
  kernel_reply words = kernel_out _

-- ---- no fault

module _ (g : Stmt → List Fault) (s : Stmt) (none : flat_map g (with_inner s) ≡ []) where
  pub none_own : g s ≡ []
  none_own = nil_left (g s) _ (sym (in_statement g s _ refl) ∙ none)

  none_inner : (layer : StmtKind-F StmtKind Stmt) → layer_of s ≡ layer → in_body g (inner layer) ≡ []
  none_inner layer e = nil_right (g s) _ (sym (in_statement g s layer e) ∙ none)

  pub none_met : (wide : Bool) (left right : Operand) (met unmet : List Stmt) → layer_of s ≡ StmtKind-F.If wide left right met unmet → in_body g met ≡ []
  none_met wide left right met unmet e = nil_left _ (in_body g unmet) (sym (in_blocks g met unmet) ∙ none_inner _ e)

  pub none_unmet : (wide : Bool) (left right : Operand) (met unmet : List Stmt) → layer_of s ≡ StmtKind-F.If wide left right met unmet → in_body g unmet ≡ []
  none_unmet wide left right met unmet e = nil_right (in_body g met) _ (sym (in_blocks g met unmet) ∙ none_inner _ e)

  pub none_loop : (body : List Stmt) → layer_of s ≡ StmtKind-F.Loop body → in_body g body ≡ []
  none_loop body e = sym (in_block g body) ∙ none_inner _ e

  pub none_repeat : (count : Num) (body : List Stmt) → layer_of s ≡ StmtKind-F.Repeat count body → in_body g body ≡ []
  none_repeat count body e = sym (in_block g body) ∙ none_inner _ e

-- of each statement of a list
pub none_at : (g : Stmt → List Fault) (body : List Stmt) (i : ℕ) (s : Stmt) → i < length body → s ≡ get_or body i s → in_body g body ≡ [] → flat_map g (with_inner s) ≡ []
none_at g body i s h e none =
    let whole = sym (in_body-append g (take i body) (s ∷ drop (i + 1) body)) ∙ ap (in_body g) (sym (split_at body i s h e)) ∙ none in
    let rest = nil_right (in_body g (take i body)) _ whole in
    nil_left (flat_map g (with_inner s)) (in_body g (drop (i + 1) body)) (sym (flat_map-append g (with_inner s) (each_of (drop (i + 1) body))) ∙ rest)

module _ (rule least most : ℕ) (n : Num) (e : outside rule least most n ≡ []) where
  inside : (ltb n.value least || ltb most n.value) ≡ false
  inside = when_none _ (fault rule n.at n.value) e

  pub outside_most : n.value ≤ most
  outside_most = let h = inside in grind (arith, nat_tests)

  pub outside_least : least ≤ n.value
  outside_least = let h = inside in grind (arith, nat_tests)

-- a chain that keeps its rule serves one message
pub serves_one : (c : Chain) → bad_serve c ≡ [] → served c ≡ 1
serves_one c e = by c.serve e
  where
    by : (o : Option Num) → option_map_or (outside 15 1 most_served) o [] ≡ [] → option_map_or (λ (n : Num). n.value) o 1 ≡ 1
    by None none = refl
    by (Some n) none = let low = outside_least 15 1 1 n none in let high = outside_most 15 1 1 n none in omega arith

module _ (s : Stmt) (none : flat_map number_faults (with_inner s) ≡ []) where
  own_none : (layer : StmtKind-F StmtKind Stmt) → layer_of s ≡ layer → out_of_range layer ≡ []
  own_none layer e = ap out_of_range (sym e) ∙ none_own number_faults s none

  pub count_fits : (count : Num) (body : List Stmt) → layer_of s ≡ StmtKind-F.Repeat count body → count.value ≤ 4294967295
  count_fits count body e = outside_most 13 1 4294967295 count (own_none _ e)

  pub probes_fit : (to table : Name) (offset key : Operand) (probes : Num) → layer_of s ≡ StmtKind-F.Lookup to table offset key probes → probes.value ≤ 4
  probes_fit to table offset key probes e = outside_most 13 1 4 probes (own_none _ e)

  pub nodes_fit : (to table : Name) (offset key : Operand) (nodes : Num) → layer_of s ≡ StmtKind-F.Walk to table offset key nodes → nodes.value ≤ 65535
  nodes_fit to table offset key nodes e = outside_most 13 1 65535 nodes (own_none _ e)
