-- What the walk over statements finds out, by what a statement is, and for one more statement of a list.
use Rattle.std.proofs.Common.{◌≡◌, Bool, true, false, not, ◌&&◌, ◌||◌, List, [], ◌∷◌, ◌++◌, map, Option, None, refl, sym, ap, ◌∙◌}
use Rattle.std.specs.List.{flat_map, list_all}
use Rattle.std.proofs.lemmas.List.{append-nil, map-append}
use Rattle.std.proofs.lemmas.List.Folds.{list_all-append, list_any-append, list_all-map}
use Rattle.redn_syntax.specs.declared.tree.Num.{Num}
use Rattle.redn_syntax.specs.declared.tree.Operand.{Operand}
use Rattle.redn_syntax.specs.declared.tree.Stmt.{Stmt}
use Rattle.redn_syntax.specs.declared.tree.StmtKind.{StmtKind, map-StmtKind, fold-StmtKind, roll-StmtKind, roll-out-StmtKind}
use Rattle.redn_syntax.specs.declared.tree.StmtKind.TheVariants as k
use Rattle.redn_syntax.specs.declared.tree.StmtKind.TheOpen.{StmtKind-F}
use Rattle.redn_kernel.specs.Program.{Exits, exits, all_fall, some_break, Idles, idles, break_idly}
use Rattle.redn_check.specs.declared.fault.Fault.{Fault}
use Rattle.redn_check.specs.declared.flow.StatementFlow.{StatementFlow}
use Rattle.redn_check.specs.declared.flow.BodyFlow.{BodyFlow}
use Rattle.redn_check.specs.Faults.{fault, when, earlier, first_of}
use Rattle.redn_check.specs.Statements.{layer_of, blocks, inner, exits_by, exits_of, idles_by, idles_of, falls_through, is_idle_body, with_inner}
use Rattle.redn_check.specs.Rules.{unreached, idle_loop, flow_faults}
use Rattle.redn_check.specs.Flow.{statement_flow, body_flow}
use Rattle.redn_check.proofs.Cases.{exits_out, idles_out}
use Rattle.redn_check.proofs.EarliestOf.{first_of-append, first_push_earlier, earlier_assoc}
use Rattle.redn_check.proofs.Gathered.{in_body, in_body-append, found_if, found_loop, found_repeat, found_plain}

abbrev pub flow : Bool → Bool → Bool → Bool → Option Fault → StatementFlow
flow falls breaks is_break is_idle first = record { falls = falls; breaks = breaks; is_break = is_break; is_idle = is_idle; first = first }

abbrev pub whole : Bool → Bool → Bool → Bool → Option Fault → Option Fault → BodyFlow
whole falls breaks breaks_idly is_idle before inside =
    record { falls = falls; breaks = breaks; breaks_idly = breaks_idly; is_idle = is_idle; unreached = before; inner = inside }

abbrev bare_exits : StmtKind-F StmtKind Stmt → StmtKind-F Exits Exits
bare_exits = map-StmtKind StmtKind Stmt Exits Exits (fold-StmtKind Exits Exits exits_by (λ x. x.kind)) exits_of

abbrev bare_idles : StmtKind-F StmtKind Stmt → StmtKind-F Idles Idles
bare_idles = map-StmtKind StmtKind Stmt Idles Idles (fold-StmtKind Idles Idles idles_by (λ x. x.kind)) idles_of

module _ (s : Stmt) where
  same_flow : (e : Exits) (i : Idles) (first : Option Fault) → exits_of s ≡ e → idles_of s ≡ i → first_of (flat_map flow_faults (with_inner s)) ≡ first →
      flow e.falls e.breaks i.is_break i.is_idle first ≡ statement_flow s
  same_flow e i first a b d = λ j. flow (sym a j).falls (sym a j).breaks (sym b j).is_break (sym b j).is_idle (sym d j)

  own_faults : (layer : StmtKind-F StmtKind Stmt) → layer_of s ≡ layer → flow_faults s ≡ idle_loop s.at layer ++ flat_map unreached (blocks layer)
  own_faults layer e = ap (λ l. idle_loop s.at l ++ flat_map unreached (blocks l)) e

  pub flow_if : (wide : Bool) (left right : Operand) (met unmet : List Stmt) → layer_of s ≡ StmtKind-F.If wide left right met unmet →
      flow (falls_through met || falls_through unmet) (some_break (map exits_of met) || some_break (map exits_of unmet)) false false
      (earlier (earlier (first_of (unreached met)) (first_of (unreached unmet))) (earlier (first_of (in_body flow_faults met)) (first_of (in_body flow_faults unmet))))
      ≡ statement_flow s
  unfolding exits_by idles_by
  flow_if wide left right met unmet e =
      let own = ap first_of (own_faults _ e ∙ ap (λ l. unreached met ++ l) (append-nil (unreached unmet))) ∙ first_of-append (unreached met) (unreached unmet) in
      let rest = earlier (first_of (in_body flow_faults met)) (first_of (in_body flow_faults unmet)) in
      same_flow (exits _ _) (idles false false) _ (exits_out s _ e) (idles_out s _ e) (found_if flow_faults s wide left right met unmet e ∙ ap (λ o. earlier o rest) own)

  pub flow_loop : (body : List Stmt) → layer_of s ≡ StmtKind-F.Loop body →
      flow (some_break (map exits_of body)) false false (break_idly (map idles_of body))
      (earlier (first_of (when (is_idle_body body) (fault 7 s.at 0))) (earlier (first_of (unreached body)) (first_of (in_body flow_faults body))))
      ≡ statement_flow s
  unfolding exits_by idles_by
  flow_loop body e =
      let idle = when (is_idle_body body) (fault 7 s.at 0) in
      let rest = first_of (in_body flow_faults body) in
      let own = ap first_of (own_faults _ e ∙ ap (λ l. idle ++ l) (append-nil (unreached body))) ∙ first_of-append idle (unreached body) in
      let joined = found_loop flow_faults s body e ∙ ap (λ o. earlier o rest) own ∙ earlier_assoc (first_of idle) (first_of (unreached body)) rest in
      same_flow (exits _ _) (idles false _) _ (exits_out s _ e) (idles_out s _ e) joined

  pub flow_repeat : (count : Num) (body : List Stmt) → layer_of s ≡ StmtKind-F.Repeat count body →
      flow (falls_through body || some_break (map exits_of body)) false false false (earlier (first_of (unreached body)) (first_of (in_body flow_faults body)))
      ≡ statement_flow s
  unfolding exits_by idles_by
  flow_repeat count body e =
      let rest = first_of (in_body flow_faults body) in
      let own = ap first_of (own_faults _ e ∙ append-nil (unreached body)) in
      same_flow (exits _ _) (idles false false) _ (exits_out s _ e) (idles_out s _ e) (found_repeat flow_faults s count body e ∙ ap (λ o. earlier o rest) own)

  -- a statement with no block
  module _ (layer : StmtKind-F StmtKind Stmt) (e : layer_of s ≡ layer) (bare : inner layer ≡ []) (nothing : idle_loop s.at layer ++ flat_map unreached (blocks layer) ≡ []) where
    plain_first : first_of (flat_map flow_faults (with_inner s)) ≡ None
    plain_first = found_plain flow_faults s (ap inner e ∙ bare) ∙ ap first_of (own_faults layer e ∙ nothing)

    pub flow_plain : (falls is_break : Bool) → exits_by (bare_exits layer) ≡ exits falls is_break → idles_by (bare_idles layer) ≡ idles is_break false → flow falls is_break is_break false None ≡ statement_flow s
    flow_plain falls is_break a b = same_flow (exits falls is_break) (idles is_break false) None (exits_out s layer e ∙ a) (idles_out s layer e ∙ b) plain_first

-- ---- one more statement

and_true : (b : Bool) → (b && true) ≡ b
and_true true = refl
and_true false = refl

or_false : (b : Bool) → (b || false) ≡ b
or_false true = refl
or_false false = refl

idly_step : (a b d e f : Bool) → (a || (b && (d || (e && f)))) ≡ ((a || (b && d)) || ((b && e) && f))
idly_step true b d e f = refl
idly_step false true d e f = refl
idly_step false false d e f = refl

idly_first : (a b : Bool) → (a || (b && false)) ≡ a
idly_first true b = refl
idly_first false true = refl
idly_first false false = refl

break_idly_push : (is : List Idles) (i : Idles) → break_idly (is ++ i ∷ []) ≡ (break_idly is || (list_all (λ (x : Idles). x.is_idle) is && i.is_break))
break_idly_push [] i = idly_first i.is_break i.is_idle
break_idly_push (x ∷ is) i =
    ap (λ b. x.is_break || (x.is_idle && b)) (break_idly_push is i) ∙ idly_step x.is_break x.is_idle (break_idly is) (list_all (λ (y : Idles). y.is_idle) is) i.is_break

module _ (body : List Stmt) (s : Stmt) where
  falls_push : falls_through (body ++ s ∷ []) ≡ (falls_through body && (exits_of s).falls)
  falls_push =
      ap all_fall (map-append exits_of body (s ∷ [])) ∙ list_all-append (λ (e : Exits). e.falls) (map exits_of body) (exits_of s ∷ [])
      ∙ ap (λ b. falls_through body && b) (and_true (exits_of s).falls)

  breaks_push : some_break (map exits_of (body ++ s ∷ [])) ≡ (some_break (map exits_of body) || (exits_of s).breaks)
  breaks_push =
      ap some_break (map-append exits_of body (s ∷ [])) ∙ list_any-append (λ (e : Exits). e.breaks) (map exits_of body) (exits_of s ∷ [])
      ∙ ap (λ b. some_break (map exits_of body) || b) (or_false (exits_of s).breaks)

  idly_push : break_idly (map idles_of (body ++ s ∷ [])) ≡ (break_idly (map idles_of body) || (is_idle_body body && (idles_of s).is_break))
  idly_push =
      ap break_idly (map-append idles_of body (s ∷ [])) ∙ break_idly_push (map idles_of body) (idles_of s)
      ∙ ap (λ b. break_idly (map idles_of body) || (b && (idles_of s).is_break)) (list_all-map (λ (x : Idles). x.is_idle) idles_of body)

  idle_push : is_idle_body (body ++ s ∷ []) ≡ (is_idle_body body && (idles_of s).is_idle)
  idle_push = list_all-append (λ t. (idles_of t).is_idle) body (s ∷ []) ∙ ap (λ b. is_idle_body body && b) (and_true (idles_of s).is_idle)

  unreached_push : first_of (unreached (body ++ s ∷ [])) ≡ earlier (first_of (unreached body)) (first_of (when (not (falls_through body)) (fault 6 s.at 0)))
  unreached_push = first_push_earlier (λ e. when (not (falls_through e.0)) (fault 6 e.1.at 0)) body s

  inner_push : first_of (in_body flow_faults (body ++ s ∷ [])) ≡ earlier (first_of (in_body flow_faults body)) (first_of (flat_map flow_faults (with_inner s)))
  inner_push =
      ap first_of (in_body-append flow_faults body (s ∷ []) ∙ ap (λ l. in_body flow_faults body ++ flat_map flow_faults l) (append-nil (with_inner s)))
      ∙ first_of-append (in_body flow_faults body) (flat_map flow_faults (with_inner s))

  pub body_push : (falls breaks breaks_idly is_idle : Bool) (before inside : Option Fault) →
      falls ≡ (falls_through body && (exits_of s).falls) → breaks ≡ (some_break (map exits_of body) || (exits_of s).breaks) →
      breaks_idly ≡ (break_idly (map idles_of body) || (is_idle_body body && (idles_of s).is_break)) → is_idle ≡ (is_idle_body body && (idles_of s).is_idle) →
      before ≡ earlier (first_of (unreached body)) (first_of (when (not (falls_through body)) (fault 6 s.at 0))) →
      inside ≡ earlier (first_of (in_body flow_faults body)) (first_of (flat_map flow_faults (with_inner s))) →
      whole falls breaks breaks_idly is_idle before inside ≡ body_flow (body ++ s ∷ [])
  body_push falls breaks breaks_idly is_idle before inside a b d e f g =
      λ j. whole ((a ∙ sym falls_push) j) ((b ∙ sym breaks_push) j) ((d ∙ sym idly_push) j) ((e ∙ sym idle_push) j) ((f ∙ sym unreached_push) j) ((g ∙ sym inner_push) j)

-- ---- statements with no block

pub flow_break : (s : Stmt) → layer_of s ≡ StmtKind-F.Break → flow false true true false None ≡ statement_flow s
unfolding exits_by idles_by
flow_break s e = flow_plain s StmtKind-F.Break e refl refl false true refl refl

pub flow_reply : (s : Stmt) (words : List Operand) → layer_of s ≡ StmtKind-F.Reply words → flow false false false false None ≡ statement_flow s
unfolding exits_by idles_by
flow_reply s words e = flow_plain s (StmtKind-F.Reply words) e refl refl false false refl refl

-- the others
module _ (s : Stmt)
    (not_if : (wide : Bool) (left right : Operand) (met unmet : List Stmt) → s.kind ≡ k.If wide left right met unmet → ⊥)
    (not_loop : (body : List Stmt) → s.kind ≡ k.Loop body → ⊥)
    (not_repeat : (count : Num) (body : List Stmt) → s.kind ≡ k.Repeat count body → ⊥)
    (not_break : s.kind ≡ k.Break → ⊥)
    (not_reply : (words : List Operand) → s.kind ≡ k.Reply words → ⊥) where
  abbrev rolled : (layer : StmtKind-F StmtKind Stmt) → layer_of s ≡ layer → s.kind ≡ roll-StmtKind layer
  rolled layer e = sym (roll-out-StmtKind s.kind) ∙ ap roll-StmtKind e

  simple : (layer : StmtKind-F StmtKind Stmt) → layer_of s ≡ layer → flow true false false false None ≡ statement_flow s
  unfolding exits_by idles_by
  simple (StmtKind-F.If wide left right met unmet) e = absurd (not_if wide left right met unmet (rolled _ e ∙ k.rolls-If wide left right met unmet))
  simple (StmtKind-F.Loop body) e = absurd (not_loop body (rolled _ e ∙ k.rolls-Loop body))
  simple (StmtKind-F.Repeat count body) e = absurd (not_repeat count body (rolled _ e ∙ k.rolls-Repeat count body))
  simple StmtKind-F.Break e = absurd (not_break (rolled _ e ∙ k.rolls-Break))
  simple (StmtKind-F.Reply words) e = absurd (not_reply words (rolled _ e ∙ k.rolls-Reply words))
  simple (StmtKind-F.Move to from) e = flow_plain s (StmtKind-F.Move to from) e refl refl true false refl refl
  simple (StmtKind-F.Add to by) e = flow_plain s (StmtKind-F.Add to by) e refl refl true false refl refl
  simple (StmtKind-F.Load to table offset) e = flow_plain s (StmtKind-F.Load to table offset) e refl refl true false refl refl
  simple (StmtKind-F.Store table offset from) e = flow_plain s (StmtKind-F.Store table offset from) e refl refl true false refl refl
  simple (StmtKind-F.Lookup to table offset key probes) e = flow_plain s (StmtKind-F.Lookup to table offset key probes) e refl refl true false refl refl
  simple (StmtKind-F.Walk to table offset key nodes) e = flow_plain s (StmtKind-F.Walk to table offset key nodes) e refl refl true false refl refl

  pub flow_simple : flow true false false false None ≡ statement_flow s
  flow_simple = simple (layer_of s) refl
