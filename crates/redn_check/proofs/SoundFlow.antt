-- Lists whose statements are reached, and breaks that stand in loops.
use Rattle.std.proofs.Common.{◌≡◌, ℕ, Bool, true, false, not, ◌&&◌, ◌||◌, List, [], ◌∷◌, ◌++◌, map, refl, sym, ap, ◌∙◌}
use Rattle.std.specs.List.{flat_map}
use Rattle.std.proofs.lemmas.Bool.{and_parts}
use Rattle.redn_syntax.specs.declared.tree.Name.{Name}
use Rattle.redn_syntax.specs.declared.tree.Stmt.{Stmt}
use Rattle.redn_syntax.specs.declared.tree.StmtKind.{StmtKind}
use Rattle.redn_syntax.specs.declared.tree.StmtKind.TheOpen.{StmtKind-F}
use Rattle.redn_kernel.specs.Program as p
use Rattle.redn_kernel.specs.Program.{Exits, exits, all_fall, some_break, only_last_stays}
use Rattle.redn_check.specs.declared.fault.Fault.{Fault}
use Rattle.redn_check.specs.Faults.{fault, when}
use Rattle.redn_check.specs.Statements.{with_earlier, layer_of, inner, exits_by, exits_of, breaks_of, falls_through}
use Rattle.redn_check.specs.Rules.{unreached, loose_breaks}
use Rattle.redn_check.specs.Numbering.{kernel_of}
use Rattle.redn_check.proofs.Nothing.{nil_left, nil_right, when_none}
use Rattle.redn_check.proofs.Inner.{Each, Each-left, Each-right, by_inner}
use Rattle.redn_check.proofs.Cases.{exits_out}
use Rattle.redn_check.proofs.Breaks.{breaks_of_break, breaks_of_if}
use Rattle.redn_check.proofs.Carried.{same_exits_all}

-- ---- what is reached

abbrev late : List Stmt × Stmt → List Fault
late e = when (not (falls_through e.0)) (fault 6 e.1.at 0)

abbrev behind : Stmt → List Stmt × Stmt → List Stmt × Stmt
behind s e = (s ∷ e.0, e.1)

not_false : (b : Bool) → not b ≡ false → b ≡ true
not_false true e = refl
not_false false e = cc

passed : (s : Stmt) (e : List Stmt × Stmt) → late (behind s e) ≡ [] → ((exits_of s).falls && falls_through e.0) ≡ true
passed s e none = not_false _ (when_none _ (fault 6 e.1.at 0) none)

none_later : (s : Stmt) (es : List (List Stmt × Stmt)) → flat_map late (map (behind s) es) ≡ [] → flat_map late es ≡ []
none_later s [] none = refl
none_later s (e ∷ es) none =
    let falls = (and_parts (exits_of s).falls (falls_through e.0) (passed s e (nil_left _ (flat_map late (map (behind s) es)) none))).1 in
    (λ j. when (not (falls j)) (fault 6 e.1.at 0) ++ none_later s es (nil_right (late (behind s e)) _ none) j)

reached : (body : List Stmt) → unreached body ≡ [] → only_last_stays (map exits_of body) ≡ true
reached [] none = refl
reached (s ∷ []) none = refl
reached (s ∷ t ∷ rest) none =
    let here = (and_parts (exits_of s).falls true (passed s ([], t) (nil_left (late (s ∷ [], t)) _ none))).0 in
    (λ j. here j && reached (t ∷ rest) (none_later s (with_earlier (t ∷ rest)) none) j)

pub is_reached : (tables names : List Name) (body : List Stmt) → unreached body ≡ [] → p.is_reached (map (kernel_of tables names) body) ≡ true
is_reached tables names body none = ap only_last_stays (same_exits_all tables names body) ∙ reached body none

-- ---- what is left by a break

abbrev Unbroken : Stmt → Type 0
Unbroken s = breaks_of s ≡ [] → (exits_of s).breaks ≡ false

unbroken_all : (body : List Stmt) → Each Unbroken body → flat_map breaks_of body ≡ [] → some_break (map exits_of body) ≡ false
unbroken_all [] h none = refl
unbroken_all (s ∷ body) h none = (λ j. h.0 (nil_left (breaks_of s) (flat_map breaks_of body) none) j || unbroken_all body h.1 (nil_right (breaks_of s) _ none) j)

unbroken_at : (s : Stmt) (layer : StmtKind-F StmtKind Stmt) → layer_of s ≡ layer → Each Unbroken (inner layer) → Unbroken s
unfolding exits_by
unbroken_at s (StmtKind-F.If wide left right met unmet) e h none =
    let parts = sym (breaks_of_if s wide left right met unmet e) ∙ none in
    let m = unbroken_all met (Each-left Unbroken met (unmet ++ []) h) (nil_left _ (flat_map breaks_of unmet) parts) in
    let u = unbroken_all unmet (Each-left Unbroken unmet [] (Each-right Unbroken met (unmet ++ []) h)) (nil_right (flat_map breaks_of met) _ parts) in
    ap (λ x. x.breaks) (exits_out s _ e) ∙ (λ j. m j || u j)
unbroken_at s StmtKind-F.Break e h none = let some : s.at ∷ [] ≡ [] = sym (breaks_of_break s e) ∙ none in cc
unbroken_at s (StmtKind-F.Loop body) e h none = ap (λ x. x.breaks) (exits_out s _ e)
unbroken_at s (StmtKind-F.Repeat count body) e h none = ap (λ x. x.breaks) (exits_out s _ e)
unbroken_at s (StmtKind-F.Reply words) e h none = ap (λ x. x.breaks) (exits_out s _ e)
unbroken_at s (StmtKind-F.Move to from) e h none = ap (λ x. x.breaks) (exits_out s _ e)
unbroken_at s (StmtKind-F.Add to by) e h none = ap (λ x. x.breaks) (exits_out s _ e)
unbroken_at s (StmtKind-F.Load to table offset) e h none = ap (λ x. x.breaks) (exits_out s _ e)
unbroken_at s (StmtKind-F.Store table offset from) e h none = ap (λ x. x.breaks) (exits_out s _ e)
unbroken_at s (StmtKind-F.Lookup to table offset key probes) e h none = ap (λ x. x.breaks) (exits_out s _ e)
unbroken_at s (StmtKind-F.Walk to table offset key nodes) e h none = ap (λ x. x.breaks) (exits_out s _ e)

unbroken : (s : Stmt) → Unbroken s
unbroken = by_inner Unbroken (λ s h. unbroken_at s (layer_of s) refl h)

each_unbroken : (body : List Stmt) → Each Unbroken body
each_unbroken [] = tt
each_unbroken (s ∷ body) = (unbroken s, each_unbroken body)

no_places : (places : List ℕ) → map (λ at. fault 4 at 0) places ≡ [] → places ≡ []
no_places [] e = refl
no_places (x ∷ places) e = cc

pub has_no_break : (tables names : List Name) (body : List Stmt) → loose_breaks body ≡ [] → p.has_break (map (kernel_of tables names) body) ≡ false
has_no_break tables names body none = ap some_break (same_exits_all tables names body) ∙ unbroken_all body (each_unbroken body) (no_places _ none)
