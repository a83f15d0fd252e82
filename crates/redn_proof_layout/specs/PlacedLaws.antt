-- What is true of the chains that are placed.
use Rattle.std.specs.Prelude.{◌≡◌, ◌≢◌, ℕ, true, false, ◌==◌, if◌then◌else◌, suc, List, [], ◌∷◌, length, Some, slice_get}
use Rattle.std.specs.List.{list_any}
use Rattle.redn_words.specs.declared.types.Need.{Need}
use Rattle.redn_words.specs.Access.{EndsBy, grants}
use Rattle.redn_words.specs.Ranges.{holds, domain_holds}
use Rattle.redn_kernel.specs.declared.types.TableInit.{TableInit}
use Rattle.redn_kernel.specs.declared.types.Program.{Program}
use Rattle.redn_kernel.specs.Program.{IsSound, is_writable}
use Rattle.redn_graph.specs.declared.types.Graph.{Graph}
use Rattle.redn_segment.specs.declared.types.Space.{Space}
use Rattle.redn_segment.specs.Sites.{kind_of}
use Rattle.redn_segment.specs.Rights.{allows}
use Rattle.redn_proof_ring.specs.Plans.{IsLaid}
use Rattle.redn_proof_ring.specs.Layouts.{plan_of, IsLayout}
use Rattle.redn_emit.specs.Graphs.{AreGraphs, AllHaveWords}
use Rattle.redn_emit.specs.Layout.{ChainPlan, TablePlan, home, has_space}
use Rattle.redn_emit.specs.Placed.{entries_base, plans, tables, regions, memory}
use Rattle.redn_proof_layout.specs.Layouts.{is_own, table_range, layout_of}

-- graphs of a sound program
pub record AreSound (p : Program) (graphs : List Graph) : Type 0 where
  pub sound : IsSound p
  pub each : AreGraphs p graphs
  pub words : AllHaveWords graphs

-- each chain is laid out as rings with laps ask
abbrev pub AllLaidOut : Type 0
AllLaidOut =
    (p : Program) (graphs : List Graph) → AreSound p graphs → (i : ℕ) (c : ChainPlan) → slice_get (plans p graphs) i ≡ Some c → IsLayout (layout_of p graphs c)

-- so its windows are those of laps
abbrev pub AllLaid : Type 0
AllLaid =
    (p : Program) (graphs : List Graph) → AreSound p graphs → (i : ℕ) (c : ChainPlan) → slice_get (plans p graphs) i ≡ Some c
    → IsLaid (plan_of (layout_of p graphs c))

-- what a chain has for itself is no other's, and no table's
pub record LieApart (p : Program) (graphs : List Graph) : Type 0 where
  pub numbered : (i : ℕ) (c : ChainPlan) → slice_get (plans p graphs) i ≡ Some c → c.number ≡ i
  pub chains : (i j : ℕ) (c d : ChainPlan) → slice_get (plans p graphs) i ≡ Some c → slice_get (plans p graphs) j ≡ Some d → i ≢ j → (q : ℕ)
      → is_own (entries_base p graphs) c q ≡ true → is_own (entries_base p graphs) d q ≡ false
  pub shared : (i k : ℕ) (c : ChainPlan) (t : TablePlan) → slice_get (plans p graphs) i ≡ Some c → slice_get (tables p graphs) k ≡ Some t → (q : ℕ)
      → holds (table_range t) q ≡ true → is_own (entries_base p graphs) c q ≡ false
  pub private : (i j : ℕ) (c : ChainPlan) → slice_get (plans p graphs) i ≡ Some c → i ≢ j → (q : ℕ) → is_own (entries_base p graphs) c q ≡ true
      → domain_holds (regions p graphs) j q ≡ false
  pub ends : EndsBy (length (memory p graphs)) (regions p graphs)

abbrev pub ChainsLieApart : Type 0
ChainsLieApart = (p : Program) (graphs : List Graph) → AreSound p graphs → LieApart p graphs

-- these tables may be written
abbrev pub AreWritable : Program → List ℕ → Type 0
AreWritable p written = (t : ℕ) → list_any (λ (u : ℕ). u == t) written ≡ true → is_writable (slice_get p.tables t) ≡ true

-- those that may be written, numbered from one on
abbrev pub written_from : ℕ → List TableInit → List ℕ
written_from number [] = []
written_from number (t ∷ ts) = if t.writable then number ∷ written_from (suc number) ts else written_from (suc number) ts

-- are all of them
abbrev pub WrittenAreAll : Type 0
WrittenAreAll = (ts : List TableInit) (t : ℕ) → list_any (λ (u : ℕ). u == t) (written_from 0 ts) ≡ is_writable (slice_get ts t)

-- the region of each space grants what its kind allows
abbrev pub AllGranted : Type 0
AllGranted =
    (p : Program) (graphs : List Graph) → AreSound p graphs → (i : ℕ) (c : ChainPlan) → slice_get (plans p graphs) i ≡ Some c → (written : List ℕ)
    → AreWritable p written → (x : Space) (need : Need) → has_space c x ≡ true → allows written (kind_of x) need ≡ true
    → grants (home c (tables p graphs) x).region.rights need ≡ true
