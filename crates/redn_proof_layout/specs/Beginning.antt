-- What memory holds at first, seen by each chain.
use Rattle.std.specs.Prelude.{◌≡◌, ℕ, suc, ◌+◌, ◌*◌, ◌<◌, true, List, length, Some, slice_get, replicate, All}
use Rattle.redn_words.specs.Words.{bytes_at, spelled}
use Rattle.redn_words.specs.Requests.{encoded}
use Rattle.redn_kernel.specs.declared.types.Cell.TheVariants.{Var, Hidden, Argument, Num}
use Rattle.redn_kernel.specs.declared.types.TableInit.{TableInit}
use Rattle.redn_kernel.specs.declared.types.Program.{Program}
use Rattle.redn_graph.specs.declared.types.Graph.{Graph}
use Rattle.redn_segment.specs.declared.types.Space.{Space}
use Rattle.redn_segment.specs.declared.types.Space.TheVariants as space
use Rattle.redn_segment.specs.declared.types.Draft.{Draft}
use Rattle.redn_segment.specs.Plain.{Bytes}
use Rattle.redn_segment.specs.Homes.{room_of}
use Rattle.redn_proof_window.specs.Scripts.{IsBytes}
use Rattle.redn_proof_landing.specs.Homes.{seen_in}
use Rattle.redn_proof_landing.specs.Segments.{slot_space}
use Rattle.redn_recycle.specs.Laps.{gates_of, wait_of, enable_of, count_at, limit_at, opening_at, wait_request, enable_request, last_enable, descriptor_bytes}
use Rattle.redn_proof_ring.specs.Plans.{Plan, is_ring, IsBody, body_slot, body_request}
use Rattle.redn_proof_ring.specs.Layouts.{plan_of}
use Rattle.redn_proof_ring.specs.Turns.{Meaning, Turn, Ready}
use Rattle.redn_emit.specs.Layout.{ChainPlan, home, has_space, entry_bytes}
use Rattle.redn_emit.specs.Placed.{entries_base, plans, tables, memory}
use Rattle.redn_proof_layout.specs.Layouts.{layout_of}
use Rattle.redn_proof_layout.specs.PlacedLaws.{AreSound}

module _ (p : Program) (graphs : List Graph) (c : ChainPlan) where
  abbrev pub plan_for : Plan
  plan_for = plan_of (layout_of p graphs c)

  abbrev pub at_first : Bytes
  at_first = seen_in (home c (tables p graphs)) (memory p graphs)

  -- each slot is its request, gates and descriptors are those before lap 0, words are as the program says, and the rest is zero
  pub record Begins : Type 0 where
    pub drafts : (r j k : ℕ) (d : Draft) → is_ring plan_for r ≡ true → j < (plan_for.ring r).segments → IsBody plan_for r j k d
        → at_first (slot_space r (body_slot plan_for r j k)) ≡ encoded (body_request plan_for r j k d)
    pub waits : (r j : ℕ) → is_ring plan_for r ≡ true → j < (plan_for.ring r).segments → gates_of r (plan_for.ring r) j ≡ 2
        → at_first (slot_space r (wait_of r (plan_for.ring r) j)) ≡ encoded (wait_request r (plan_for.ring r) (count_at r (plan_for.ring r) 0 0 j))
    pub enables : (r j : ℕ) → is_ring plan_for r ≡ true → suc j < (plan_for.ring r).segments
        → at_first (slot_space r (enable_of r (plan_for.ring r) j))
        ≡ encoded (enable_request r (plan_for.ring r) (limit_at r (plan_for.ring r) 0 0 j))
    pub last : (r j : ℕ) → is_ring plan_for r ≡ true → suc j ≡ (plan_for.ring r).segments → gates_of r (plan_for.ring r) j ≡ 2
        → at_first (slot_space r (enable_of r (plan_for.ring r) j)) ≡ encoded (last_enable r (plan_for.ring r))
    pub descriptors : (r : ℕ) → is_ring plan_for r ≡ true
        → at_first (space.Descriptor r) ≡ descriptor_bytes r (plan_for.ring r) (opening_at r (plan_for.ring r) 0 0)
    pub numbers : (n : ℕ) → has_space c (space.Cell (Num n)) ≡ true → at_first (space.Cell (Num n)) ≡ spelled 8 n
    pub variables : (i v : ℕ) → slice_get c.values i ≡ Some v → at_first (space.Cell (Var i)) ≡ spelled 8 v
    pub hidden : (k : ℕ) → has_space c (space.Cell (Hidden k)) ≡ true → at_first (space.Cell (Hidden k)) ≡ replicate 8 0
    pub message : (i : ℕ) → has_space c (space.Cell (Argument i)) ≡ true → at_first (space.Cell (Argument i)) ≡ replicate 8 0
    pub tables_are : (t : ℕ) (init : TableInit) → slice_get p.tables t ≡ Some init → at_first (space.Table t) ≡ init.bytes
    pub entry : bytes_at (memory p graphs) (entries_base p graphs + 128 * c.number) 128 ≡ entry_bytes c
    pub lengths : (x : Space) → has_space c x ≡ true → length (at_first x) ≡ room_of (home c (tables p graphs)) x

-- so does each chain begin
abbrev pub AllBegin : Type 0
AllBegin =
    (p : Program) (graphs : List Graph) → AreSound p graphs → (i : ℕ) (c : ChainPlan) → slice_get (plans p graphs) i ≡ Some c → Begins p graphs c

-- and so it is ready, before segment 0 of whichever ring and before lap 0 of each
abbrev pub BeginsReady : (p : Program) (graphs : List Graph) (c : ChainPlan) → Meaning (plan_for p graphs c) → Type 0
BeginsReady p graphs c G =
    AreSound p graphs → (i : ℕ) → slice_get (plans p graphs) i ≡ Some c → (x : Turn (plan_for p graphs c) G) → ((r : ℕ) → x.laps r ≡ 0)
    → x.segment ≡ 0 → G.Fine x.ring x.segment x.ghost (at_first p graphs c) → Ready (plan_for p graphs c) G x (memory p graphs)

-- memory holds bytes, where the tables do
abbrev pub AllBytes : Type 0
AllBytes = (p : Program) (graphs : List Graph) → All (λ (t : TableInit). IsBytes t.bytes) p.tables → IsBytes (memory p graphs)
