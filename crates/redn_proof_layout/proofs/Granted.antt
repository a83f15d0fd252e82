-- The regions of a chain grant what their kinds allow.
use Rattle.std.proofs.Common.{◌≡◌, ℕ, zero, suc, ◌+◌, ◌<◌, Bool, true, false, cond, ◌==◌, List, [], ◌∷◌, length, Some, refl, sym, ap, ◌∙◌, arith}
use Rattle.std.specs.Prelude.{slice_get}
use Rattle.std.specs.List.{list_any}
use Rattle.std.proofs.lemmas.Bool.{false≢true, eq-eqb, ne_eqb}
use Rattle.redn_words.specs.declared.types.Region.{Region}
use Rattle.redn_words.specs.declared.types.Kind.TheVariants as kind
use Rattle.redn_words.specs.declared.types.Need.{Need}
use Rattle.redn_words.specs.declared.types.Need.TheVariants.{Any, LocalWrite, RemoteRead, RemoteWrite, Atomic}
use Rattle.redn_words.specs.Access.{grants}
use Rattle.redn_kernel.specs.declared.types.Cell.TheVariants.{Var, Argument}
use Rattle.redn_kernel.specs.declared.types.TableInit.{TableInit}
use Rattle.redn_kernel.specs.declared.types.Program.{Program}
use Rattle.redn_kernel.specs.Program.{is_writable}
use Rattle.redn_graph.specs.declared.types.Graph.{Graph}
use Rattle.redn_segment.specs.declared.types.Space.{Space}
use Rattle.redn_segment.specs.declared.types.Space.TheVariants as space
use Rattle.redn_segment.specs.Sites.{kind_of}
use Rattle.redn_segment.specs.Rights.{allows}
use Rattle.redn_emit.specs.Layout.{ChainPlan, home, has_space, table_rights}
use Rattle.redn_emit.specs.Placed.{plans, tables_base, tables, memory}
use Rattle.redn_proof_layout.specs.PlacedLaws.{AreSound, AreWritable, written_from, WrittenAreAll, AllGranted}
use Rattle.redn_proof_layout.proofs.Spaces.{has_table}
use Rattle.redn_proof_layout.proofs.Whole.{stands}

words_grant : (written : List ℕ) (need : Need) → allows written kind.Control need ≡ true → grants 13 need ≡ true
words_grant written RemoteRead h = absurd (false≢true h)
words_grant written _ h = refl

vars_grant : (written : List ℕ) (need : Need) → allows written kind.Vars need ≡ true → grants 13 need ≡ true
vars_grant written RemoteRead h = absurd (false≢true h)
vars_grant written _ h = refl

code_grants : (written : List ℕ) (need : Need) → allows written kind.Code need ≡ true → grants 12 need ≡ true
code_grants written LocalWrite h = absurd (false≢true h)
code_grants written RemoteRead h = absurd (false≢true h)
code_grants written _ h = refl

message_grants : (written : List ℕ) (need : Need) → allows written kind.Message need ≡ true → grants 0 need ≡ true
message_grants written Any h = refl
message_grants written _ h = absurd (false≢true h)

table_grants : (written : List ℕ) (t : ℕ) (writable : Bool) → (allows written (kind.Table t) RemoteWrite ≡ true → writable ≡ true) → (need : Need) → allows written (kind.Table t) need ≡ true → grants (table_rights writable) need ≡ true
table_grants written t writable f Any h = refl
table_grants written t writable f LocalWrite h = absurd (false≢true h)
table_grants written t true f RemoteRead h = refl
table_grants written t false f RemoteRead h = refl
table_grants written t writable f RemoteWrite h = let is = f h in rw is refl
table_grants written t writable f Atomic h = absurd (false≢true h)

module _ (p : Program) (graphs : List Graph) (are : AreSound p graphs) (i : ℕ) (c : ChainPlan) (there : slice_get (plans p graphs) i ≡ Some c) (written : List ℕ) (may : AreWritable p written) where
  granted : (x : Space) (need : Need) → has_space c x ≡ true → allows written (kind_of x) need ≡ true → grants (home c (tables p graphs) x).region.rights need ≡ true
  granted (space.Slot q) need has h = code_grants written need h
  granted (space.Cell (Var v)) need has h = vars_grant written need h
  granted (space.Cell (Argument v)) need has h = message_grants written need h
  granted (space.Table t) need has h =
      let its = has_table c (tables_base p graphs) (length (memory p graphs)) p.tables (stands p graphs are i c there) t has in
      let rights : (home c (tables p graphs) (space.Table t)).region.rights ≡ table_rights its.plan.writable = ap (λ (r : Region). r.rights) its.region in
      ap (λ (n : ℕ). grants n need) rights ∙ table_grants written t its.plan.writable (λ w. its.is.writable_is ∙ ap is_writable (sym its.is.init_at) ∙ may t w) need h
  granted (space.Cell _) need has h = words_grant written need h
  granted _ need has h = words_grant written need h

pub all_granted : AllGranted
all_granted p graphs are i c there written may x need has h = granted p graphs are i c there written may x need has h

-- numbers of tables further on
none_before : (n m : ℕ) (ts : List TableInit) → m < n → list_any (λ (u : ℕ). u == m) (written_from n ts) ≡ false
none_before n m [] l = refl
none_before n m (t ∷ ts) l = by_test t.writable (none_before (suc n) m ts (omega (arith, l)))
  where
    by_test : (b : Bool) → list_any (λ (u : ℕ). u == m) (written_from (suc n) ts) ≡ false → list_any (λ (u : ℕ). u == m) (cond b (n ∷ written_from (suc n) ts) (written_from (suc n) ts)) ≡ false
    by_test true e = let other = ne_eqb n m (λ f. omega (arith, f, l)) in rw other e
    by_test false e = e

written_are : (n m t : ℕ) (ts : List TableInit) → m ≡ n + t → list_any (λ (u : ℕ). u == m) (written_from n ts) ≡ is_writable (slice_get ts t)
written_are n m t [] e = refl
written_are n m zero (x ∷ ts) e = by_test x.writable (none_before (suc n) m ts (omega (arith, e)))
  where
    by_test : (b : Bool) → list_any (λ (u : ℕ). u == m) (written_from (suc n) ts) ≡ false → list_any (λ (u : ℕ). u == m) (cond b (n ∷ written_from (suc n) ts) (written_from (suc n) ts)) ≡ b
    by_test true f = let same = eq-eqb n m (omega (arith, e)) in rw same refl
    by_test false f = f
written_are n m (suc t) (x ∷ ts) e = by_test x.writable (written_are (suc n) m t ts (omega (arith, e)))
  where
    by_test : (b : Bool) → list_any (λ (u : ℕ). u == m) (written_from (suc n) ts) ≡ is_writable (slice_get ts t) → list_any (λ (u : ℕ). u == m) (cond b (n ∷ written_from (suc n) ts) (written_from (suc n) ts)) ≡ is_writable (slice_get ts t)
    by_test true f = let other = ne_eqb n m (λ g. omega (arith, g, e)) in rw other f
    by_test false f = f

pub written_are_all : WrittenAreAll
written_are_all ts t = written_are 0 t t ts (omega arith)
