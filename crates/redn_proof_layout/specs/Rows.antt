-- The queues and the message places of a placed image, by chain.
use Rattle.std.specs.Prelude.{◌≡◌, ℕ, ◌+◌, ◌*◌, ◌<◌, ◌≤◌, ◌⊎◌, true, List, length, map, Some, slice_get}
use Rattle.redn_words.specs.declared.types.QueueRow.{QueueRow}
use Rattle.redn_kernel.specs.declared.types.Program.{Program}
use Rattle.redn_graph.specs.declared.types.Graph.{Graph}
use Rattle.redn_proof_ring.specs.Plans.{is_ring}
use Rattle.redn_emit.specs.Layout.{ChainPlan, message_base, limit_of_ring, entry_row, receive}
use Rattle.redn_emit.specs.Placed.{entries_base, plans, queues}
use Rattle.redn_proof_layout.specs.Layouts.{is_own}
use Rattle.redn_proof_layout.specs.PlacedLaws.{AreSound}
use Rattle.redn_proof_layout.specs.Beginning.{plan_for}

module _ (p : Program) (graphs : List Graph) where
  -- first the entries of all chains, then the rings of each, by the numbers of their queues
  pub record QueuesStand : Type 0 where
    pub entries : (i : ℕ) (c : ChainPlan) → slice_get (plans p graphs) i ≡ Some c → slice_get (queues p graphs) i ≡ Some (entry_row (entries_base p graphs) c)
    pub rings : (i : ℕ) (c : ChainPlan) (r : ℕ) → slice_get (plans p graphs) i ≡ Some c → is_ring (plan_for p graphs c) r ≡ true
        → slice_get (queues p graphs) r ≡ Some ((plan_for p graphs c).ring r).row
    pub each : (q : ℕ) (row : QueueRow) → slice_get (queues p graphs) q ≡ Some row
        → (c : ChainPlan) × (slice_get (plans p graphs) row.domain ≡ Some c) × ((q ≡ row.domain) ⊎ (is_ring (plan_for p graphs c) q ≡ true))
    pub no_entry : (i : ℕ) (c : ChainPlan) (r : ℕ) → slice_get (plans p graphs) i ≡ Some c → is_ring (plan_for p graphs c) r ≡ true
        → length (plans p graphs) ≤ r
    pub one : (i j : ℕ) (c d : ChainPlan) (r : ℕ) → slice_get (plans p graphs) i ≡ Some c → slice_get (plans p graphs) j ≡ Some d
        → is_ring (plan_for p graphs c) r ≡ true → is_ring (plan_for p graphs d) r ≡ true → i ≡ j
    pub receives : (i : ℕ) (c : ChainPlan) → slice_get (plans p graphs) i ≡ Some c → slice_get (map receive (plans p graphs)) i ≡ Some (receive c)

  -- a chain is entered at the ring of its entry block, as far as that ring's first segment; its entry and its message are its own
  pub record IsEntered (c : ChainPlan) : Type 0 where
    pub ring : is_ring (plan_for p graphs c) (c.first + c.entry) ≡ true
    pub limit : limit_of_ring c (c.first + c.entry) ≡ ((plan_for p graphs c).ring (c.first + c.entry)).first 1
    pub slots : (q : ℕ) → entries_base p graphs + 128 * c.number ≤ q → q < entries_base p graphs + 128 * c.number + 128
        → is_own (entries_base p graphs) c q ≡ true
    pub message : (q : ℕ) → message_base c ≤ q → q < message_base c + 8 * c.args → is_own (entries_base p graphs) c q ≡ true

abbrev pub AllQueuesStand : Type 0
AllQueuesStand = (p : Program) (graphs : List Graph) → AreSound p graphs → QueuesStand p graphs

abbrev pub AllEntered : Type 0
AllEntered =
    (p : Program) (graphs : List Graph) → AreSound p graphs → (i : ℕ) (c : ChainPlan) → slice_get (plans p graphs) i ≡ Some c → IsEntered p graphs c
