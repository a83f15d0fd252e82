-- One segment of a ring, whatever the order of the adapter's actions.
use Rattle.std.specs.Prelude.{◌≡◌, ℕ, ◌<◌, List, None, length}
use Rattle.redn_kernel.specs.declared.types.Program.{Program}
use Rattle.redn_graph.specs.declared.types.Graph.{Graph}
use Rattle.redn_graph.specs.Run.{Mail}
use Rattle.redn_proof_window.specs.Scripts.{Script, IsScript}
use Rattle.redn_proof_window.specs.WindowLaws.{ChainsMove, ChainsStay, ChainsLeft, ChainsBegin, ChainsGoOn}
use Rattle.redn_proof_ring.specs.Turns.{script_of}
use Rattle.redn_proof_ring.specs.Runs.{meaning}
use Rattle.redn_proof_block.specs.Stages.{Ghost}
use Rattle.redn_proof_block.specs.Laying.{Laying, plan, Takes, Tells, Fails, Entry}
use Rattle.redn_proof_layout.specs.PlacedLaws.{AreSound}
use Rattle.redn_proof_layout.specs.Chains.{graph_at, init_at, laying, plan_at}

-- the segments of a chain's rings, one window each: ready before the first action, and behind the last ENABLE the next one is
abbrev pub segments_of : (p : Program) (graphs : List Graph) → ℕ → Mail → Script
segments_of p graphs c mail =
    let l : Laying = laying p graphs (plan_at p graphs c) (init_at p graphs c) (graph_at p graphs c) mail in
    script_of (plan l) (meaning (plan l) (Takes l) Ghost (Tells l) (Fails l) (Entry l))

-- none waits before its bodies. While a segment is open: what each possible action of its rings does, that what leaves its rings and private bytes
-- alone leaves it as it is, as do the actions of other chains; how the first is opened, and that a useful action is possible up to its end
pub record InAnyOrder (s : Script) : Type 0 where
  pub kept : IsScript s
  pub no_first_gate : (x : s.Point) (m : List ℕ) → (s.window x m).first_gate ≡ None
  pub moves : ChainsMove s kept
  pub stays : ChainsStay s
  pub left : ChainsLeft s
  pub begins : ChainsBegin s
  pub goes_on : ChainsGoOn s

-- the rings are those that `with_laps` makes of the blocks of a sound program's graphs and `emit` places
abbrev pub SegmentsInAnyOrder : Type 0
SegmentsInAnyOrder =
    (p : Program) (graphs : List Graph) → AreSound p graphs → (c : ℕ) → c < length p.chains → (mail : Mail) → InAnyOrder (segments_of p graphs c mail)
