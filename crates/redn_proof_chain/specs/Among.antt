-- What is asked of a chain's rings among others.
use Rattle.std.specs.Prelude.{◌≡◌, ◌≢◌, ℕ, ◌<◌, ◌≤◌, Bool, true, false, List, length, Some, slice_get}
use Rattle.redn_words.specs.States.{Queue, Chain}
use Rattle.redn_words.specs.Ranges.{domain_holds}
use Rattle.redn_kernel.specs.declared.types.Cell.TheVariants.{Var}
use Rattle.redn_segment.specs.Homes.{base_of, room_of}
use Rattle.redn_segment.specs.declared.types.Space.TheVariants as space
use Rattle.redn_proof_window.specs.Moves.{AtRest}
use Rattle.redn_proof_window.specs.Gateways.{GateQueue, gate_of}
use Rattle.redn_proof_window.specs.Scripts.{IsBytes}
use Rattle.redn_proof_ring.specs.Plans.{is_ring}
use Rattle.redn_proof_ring.specs.Turns.{Ready}
use Rattle.redn_proof_interleave.specs.Forms.{World, IsEntry, MailPlace, SameMine, message, expected}
use Rattle.redn_proof_chain.specs.Formed.{Formed, IsFormed, plan, its_meaning}
use Rattle.redn_proof_chain.specs.Together.{Begun, Together, HasVars, first_point, world_of, is_shared, LieApart}
use Rattle.redn_graph.specs.Run.{graph_start}

module _ (g : Together) (c : ℕ) where
  abbrev pub b : Begun
  b = g.chain c

  abbrev pub f : Formed
  f = b.formed

  abbrev pub world : World
  world = world_of g

  pub record IsAmong : Type 0 where
    pub formed : IsFormed f
    pub number : f.layout.domain ≡ c
    pub most : g.most ≤ f.layout.most
    pub regions : g.begin.regions ≡ f.layout.regions
    pub ours : (p : ℕ) → f.layout.ours p ≡ true → b.mine p ≡ true
    pub private : (p : ℕ) → b.mine p ≡ true → is_shared g.shelves p ≡ false
    -- it names its variables, and the tables that it names are those that are shared
    pub variables : (i : ℕ) → i < length b.vars → f.layout.mine (space.Cell (Var i)) ≡ true
    pub shelves : LieApart g.shelves f.layout.size
    pub tables : (k : ℕ) → f.layout.mine (space.Table k) ≡ true
        → (k < g.shelves.many) × (base_of f.layout.home (space.Table k) ≡ g.shelves.at k) × (room_of f.layout.home (space.Table k) ≡ g.shelves.len k)
    -- how it begins
    pub apart : (d p : ℕ) → d ≢ c → b.mine p ≡ true → domain_holds g.begin.regions d p ≡ false
    pub entry : IsEntry world c
    pub place : (bytes : List ℕ) → message world c ≡ Some bytes → MailPlace world c bytes
    pub prepared : (bytes m : List ℕ) → message world c ≡ Some bytes → IsBytes m → SameMine world c m (expected world c true)
        → Ready (plan f) (its_meaning f) (first_point b) m
    pub first_vars : (came : Bool) → HasVars b (graph_start f.course.graph b.vars) (expected world c came)
    pub enables : ((gate_of b.entry 1).first ≡ (first_point b).ring) × ((gate_of b.entry 1).second ≡ ((plan f).ring (first_point b).ring).first 1)
    pub entry_begins : (u : Queue) × (slice_get g.begin.queues b.entry.queue ≡ Some u) × GateQueue b.entry u 0
    pub rests : (q : ℕ) → is_ring (plan f) q ≡ true → (u : Queue) × (slice_get g.begin.queues q ≡ Some u) × AtRest ((plan f).ring q).row 0 0 u
    pub chain_begins : (chain : Chain) × (slice_get g.begin.chains c ≡ Some chain) × (chain.received ≡ 0)
