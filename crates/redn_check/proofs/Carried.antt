-- How a statement may be left, whether it is idle and what it weighs is the same with numbers in place of names.
use Rattle.std.proofs.Common.{◌≡◌, ℕ, ◌+◌, false, ◌&&◌, ◌||◌, List, [], ◌∷◌, ◌++◌, map, sum, refl, sym, ap, ◌∙◌, arith}
use Rattle.std.specs.Prelude.{min}
use Rattle.std.specs.List.{sum_by}
use Rattle.std.proofs.lemmas.List.{append-nil, map-append}
use Rattle.std.proofs.lemmas.List.Sums.{sum_by-cons, sum_by-append}
use Rattle.redn_syntax.specs.declared.tree.Name.{Name}
use Rattle.redn_syntax.specs.declared.tree.Stmt.{Stmt}
use Rattle.redn_syntax.specs.declared.tree.StmtKind.{StmtKind}
use Rattle.redn_syntax.specs.declared.tree.StmtKind.TheOpen.{StmtKind-F}
use Rattle.redn_kernel.specs.declared.types.Kernel.{Kernel}
use Rattle.redn_kernel.specs.Program as p
use Rattle.redn_kernel.specs.Program.{Exits, exits, all_fall, some_break, only_last_stays, Idles, idles, break_idly}
use Rattle.redn_kernel.proofs.Cases.{exits_of_move, exits_of_add, exits_of_load, exits_of_store, exits_of_if, exits_of_loop, exits_of_repeat, exits_of_break, exits_of_lookup, exits_of_walk, exits_of_reply, idles_of_move, idles_of_add, idles_of_load, idles_of_store, idles_of_if, idles_of_loop, idles_of_repeat, idles_of_break, idles_of_lookup, idles_of_walk, idles_of_reply, weight_of_move, weight_of_add, weight_of_load, weight_of_store, weight_of_if, weight_of_loop, weight_of_repeat, weight_of_break, weight_of_lookup, weight_of_walk, weight_of_reply}
use Rattle.redn_check.specs.Statements.{layer_of, inner, exits_by, exits_of, idles_by, idles_of, is_idle_body, own_weight, with_inner, each_of}
use Rattle.redn_check.specs.Rules.{Weight, weight_at, weights_in}
use Rattle.redn_check.specs.Numbering.{kernel_of}
use Rattle.redn_check.proofs.Inner.{Each, Each-left, Each-right, by_inner}
use Rattle.redn_check.proofs.Cases.{exits_out, idles_out}
use Rattle.redn_check.proofs.Weighed.{in_body, weights_in-append, weighed}
use Rattle.redn_check.proofs.Numbered.{kernel_move, kernel_add, kernel_load, kernel_store, kernel_if, kernel_loop, kernel_repeat, kernel_break, kernel_lookup, kernel_walk, kernel_reply}

module _ (tables names : List Name) where
  abbrev K : Stmt → Kernel
  K = kernel_of tables names

  same_all : {A : Type 0} (f : Kernel → A) (g : Stmt → A) (body : List Stmt) → Each (λ s. f (K s) ≡ g s) body → map f (map K body) ≡ map g body
  same_all f g [] h = refl
  same_all f g (s ∷ body) h = λ j. h.0 j ∷ same_all f g body h.1 j

  -- ---- how it may be left

  abbrev SameExits : Stmt → Type 0
  SameExits s = p.exits_of (K s) ≡ exits_of s

  exits_at : (s : Stmt) (layer : StmtKind-F StmtKind Stmt) → layer_of s ≡ layer → Each SameExits (inner layer) → SameExits s
  unfolding exits_by
  exits_at s (StmtKind-F.Move to from) e h = ap p.exits_of (kernel_move tables names s to from e) ∙ exits_of_move _ _ ∙ sym (exits_out s _ e)
  exits_at s (StmtKind-F.Add to by) e h = ap p.exits_of (kernel_add tables names s to by e) ∙ exits_of_add _ _ ∙ sym (exits_out s _ e)
  exits_at s (StmtKind-F.Load to table offset) e h = ap p.exits_of (kernel_load tables names s to table offset e) ∙ exits_of_load _ _ _ ∙ sym (exits_out s _ e)
  exits_at s (StmtKind-F.Store table offset from) e h = ap p.exits_of (kernel_store tables names s table offset from e) ∙ exits_of_store _ _ _ ∙ sym (exits_out s _ e)
  exits_at s (StmtKind-F.If wide left right met unmet) e h =
      let m = same_all p.exits_of exits_of met (Each-left SameExits met (unmet ++ []) h) in
      let u = same_all p.exits_of exits_of unmet (Each-left SameExits unmet [] (Each-right SameExits met (unmet ++ []) h)) in
      ap p.exits_of (kernel_if tables names s wide left right met unmet e) ∙ exits_of_if _ _ _ _ _
      ∙ (λ j. exits (all_fall (m j) || all_fall (u j)) (some_break (m j) || some_break (u j))) ∙ sym (exits_out s _ e)
  exits_at s (StmtKind-F.Loop body) e h =
      let b = same_all p.exits_of exits_of body (Each-left SameExits body [] h) in
      ap p.exits_of (kernel_loop tables names s body e) ∙ exits_of_loop _ ∙ (λ j. exits (some_break (b j)) false) ∙ sym (exits_out s _ e)
  exits_at s (StmtKind-F.Repeat count body) e h =
      let b = same_all p.exits_of exits_of body (Each-left SameExits body [] h) in
      ap p.exits_of (kernel_repeat tables names s count body e) ∙ exits_of_repeat _ _ ∙ (λ j. exits (all_fall (b j) || some_break (b j)) false) ∙ sym (exits_out s _ e)
  exits_at s StmtKind-F.Break e h = ap p.exits_of (kernel_break tables names s e) ∙ exits_of_break ∙ sym (exits_out s _ e)
  exits_at s (StmtKind-F.Lookup to table offset key probes) e h =
      ap p.exits_of (kernel_lookup tables names s to table offset key probes e) ∙ exits_of_lookup _ _ _ _ _ ∙ sym (exits_out s _ e)
  exits_at s (StmtKind-F.Walk to table offset key nodes) e h =
      ap p.exits_of (kernel_walk tables names s to table offset key nodes e) ∙ exits_of_walk _ _ _ _ _ ∙ sym (exits_out s _ e)
  exits_at s (StmtKind-F.Reply words) e h = ap p.exits_of (kernel_reply tables names s words e) ∙ exits_of_reply _ ∙ sym (exits_out s _ e)

  same_exits : (s : Stmt) → SameExits s
  same_exits = by_inner SameExits (λ s h. exits_at s (layer_of s) refl h)

  pub same_exits_all : (body : List Stmt) → map p.exits_of (map K body) ≡ map exits_of body
  same_exits_all [] = refl
  same_exits_all (s ∷ body) = λ j. same_exits s j ∷ same_exits_all body j

  -- ---- whether it is idle

  abbrev SameIdles : Stmt → Type 0
  SameIdles s = p.idles_of (K s) ≡ idles_of s

  idles_at : (s : Stmt) (layer : StmtKind-F StmtKind Stmt) → layer_of s ≡ layer → Each SameIdles (inner layer) → SameIdles s
  unfolding idles_by
  idles_at s (StmtKind-F.Move to from) e h = ap p.idles_of (kernel_move tables names s to from e) ∙ idles_of_move _ _ ∙ sym (idles_out s _ e)
  idles_at s (StmtKind-F.Add to by) e h = ap p.idles_of (kernel_add tables names s to by e) ∙ idles_of_add _ _ ∙ sym (idles_out s _ e)
  idles_at s (StmtKind-F.Load to table offset) e h = ap p.idles_of (kernel_load tables names s to table offset e) ∙ idles_of_load _ _ _ ∙ sym (idles_out s _ e)
  idles_at s (StmtKind-F.Store table offset from) e h = ap p.idles_of (kernel_store tables names s table offset from e) ∙ idles_of_store _ _ _ ∙ sym (idles_out s _ e)
  idles_at s (StmtKind-F.If wide left right met unmet) e h = ap p.idles_of (kernel_if tables names s wide left right met unmet e) ∙ idles_of_if _ _ _ _ _ ∙ sym (idles_out s _ e)
  idles_at s (StmtKind-F.Loop body) e h =
      let b = same_all p.idles_of idles_of body (Each-left SameIdles body [] h) in
      ap p.idles_of (kernel_loop tables names s body e) ∙ idles_of_loop _ ∙ (λ j. idles false (break_idly (b j))) ∙ sym (idles_out s _ e)
  idles_at s (StmtKind-F.Repeat count body) e h = ap p.idles_of (kernel_repeat tables names s count body e) ∙ idles_of_repeat _ _ ∙ sym (idles_out s _ e)
  idles_at s StmtKind-F.Break e h = ap p.idles_of (kernel_break tables names s e) ∙ idles_of_break ∙ sym (idles_out s _ e)
  idles_at s (StmtKind-F.Lookup to table offset key probes) e h =
      ap p.idles_of (kernel_lookup tables names s to table offset key probes e) ∙ idles_of_lookup _ _ _ _ _ ∙ sym (idles_out s _ e)
  idles_at s (StmtKind-F.Walk to table offset key nodes) e h =
      ap p.idles_of (kernel_walk tables names s to table offset key nodes e) ∙ idles_of_walk _ _ _ _ _ ∙ sym (idles_out s _ e)
  idles_at s (StmtKind-F.Reply words) e h = ap p.idles_of (kernel_reply tables names s words e) ∙ idles_of_reply _ ∙ sym (idles_out s _ e)

  same_idles : (s : Stmt) → SameIdles s
  same_idles = by_inner SameIdles (λ s h. idles_at s (layer_of s) refl h)

  pub same_idle_body : (body : List Stmt) → p.is_idle_body (map K body) ≡ is_idle_body body
  same_idle_body [] = refl
  same_idle_body (s ∷ body) = λ j. (same_idles s j).is_idle && same_idle_body body j

  -- ---- what it weighs

  abbrev total : List Weight → ℕ
  total ws = sum_by (λ (w : Weight). w.weight) ws

  abbrev SameWeight : Stmt → Type 0
  SameWeight s = p.weight_of (K s) ≡ total (weights_in (with_inner s))

  abbrev weigh : List Stmt → ℕ
  weigh body = sum (map p.weight_of (map K body))

  weigh-append : (xs ys : List Stmt) → weigh (xs ++ ys) ≡ weigh xs + weigh ys
  weigh-append xs ys =
      ap (λ l. sum (map p.weight_of l)) (map-append K xs ys) ∙ ap sum (map-append p.weight_of (map K xs) (map K ys))
      ∙ sum_by-append (λ x. x) (map p.weight_of (map K xs)) (map p.weight_of (map K ys))

  weigh_block : (body : List Stmt) → weigh (body ++ []) ≡ weigh body
  weigh_block body = ap weigh (append-nil body)

  weight_all : (body : List Stmt) → Each SameWeight body → weigh body ≡ total (in_body body)
  weight_all [] h = refl
  weight_all (s ∷ body) h =
      sum_by-cons (λ x. x) (p.weight_of (K s)) (map p.weight_of (map K body)) ∙ (λ j. h.0 j + weight_all body h.1 j)
      ∙ sym (ap total (weights_in-append (with_inner s) (each_of body)) ∙ sum_by-append (λ (w : Weight). w.weight) (weights_in (with_inner s)) (in_body body))

  whole_weight : (s : Stmt) (layer : StmtKind-F StmtKind Stmt) → layer_of s ≡ layer → Each SameWeight (inner layer) → own_weight layer + weigh (inner layer) ≡ total (weights_in (with_inner s))
  whole_weight s layer e h =
      (λ j. own_weight (sym e j) + weight_all (inner layer) h j) ∙ sym (sum_by-cons (λ (w : Weight). w.weight) (weight_at s.at (own_weight (layer_of s))) (in_body (inner layer)))
      ∙ ap total (sym (weighed s layer e))

  alone : (n : ℕ) → n ≡ n + 0
  alone n = omega arith

  weight_here : (s : Stmt) (layer : StmtKind-F StmtKind Stmt) → layer_of s ≡ layer → p.weight_of (K s) ≡ own_weight layer + weigh (inner layer)
  weight_here s (StmtKind-F.Move to from) e = ap p.weight_of (kernel_move tables names s to from e) ∙ weight_of_move _ _
  weight_here s (StmtKind-F.Add to by) e = ap p.weight_of (kernel_add tables names s to by e) ∙ weight_of_add _ _
  weight_here s (StmtKind-F.Load to table offset) e = ap p.weight_of (kernel_load tables names s to table offset e) ∙ weight_of_load _ _ _
  weight_here s (StmtKind-F.Store table offset from) e = ap p.weight_of (kernel_store tables names s table offset from e) ∙ weight_of_store _ _ _
  weight_here s (StmtKind-F.If wide left right met unmet) e =
      let parts = weigh-append met (unmet ++ []) ∙ ap (λ n. weigh met + n) (weigh_block unmet) in
      let sums : 1 + weigh met + weigh unmet ≡ 1 + weigh (met ++ (unmet ++ [])) = omega (arith, parts) in
      ap p.weight_of (kernel_if tables names s wide left right met unmet e) ∙ weight_of_if _ _ _ _ _ ∙ sums
  weight_here s (StmtKind-F.Loop body) e = ap p.weight_of (kernel_loop tables names s body e) ∙ weight_of_loop _ ∙ ap (λ n. 1 + n) (sym (weigh_block body))
  weight_here s (StmtKind-F.Repeat count body) e = ap p.weight_of (kernel_repeat tables names s count body e) ∙ weight_of_repeat _ _ ∙ ap (λ n. 2 + n) (sym (weigh_block body))
  weight_here s StmtKind-F.Break e = ap p.weight_of (kernel_break tables names s e) ∙ weight_of_break
  weight_here s (StmtKind-F.Lookup to table offset key probes) e =
      ap p.weight_of (kernel_lookup tables names s to table offset key probes e) ∙ weight_of_lookup _ _ _ _ _ ∙ alone (min probes.value 4 + 1)
  weight_here s (StmtKind-F.Walk to table offset key nodes) e = ap p.weight_of (kernel_walk tables names s to table offset key nodes e) ∙ weight_of_walk _ _ _ _ _
  weight_here s (StmtKind-F.Reply words) e = ap p.weight_of (kernel_reply tables names s words e) ∙ weight_of_reply _

  same_weight : (s : Stmt) → SameWeight s
  same_weight = by_inner SameWeight (λ s h. weight_here s (layer_of s) refl ∙ whole_weight s (layer_of s) refl h)

  each_weight : (body : List Stmt) → Each SameWeight body
  each_weight [] = tt
  each_weight (s ∷ body) = (same_weight s, each_weight body)

  pub same_weights : (body : List Stmt) → p.weight_of_all (map K body) ≡ total (in_body body)
  same_weights body = weight_all body (each_weight body)
