use Rattle.std.proofs.Common.{◌≡◌, ◌*◌, ◌≤◌, take}
use Rattle.std.specs.Prelude.{sum_by}
use Rattle.redn_emit.specs.Layout as layout
use Rattle.redn_emit.specs.Placed as placed
use Rattle.redn_emit.proofs.image.slots_of.Given as goal

abbrev pub invariant-loop-chain : goal.invariant-loop-chain
invariant-loop-chain l =
    record {
      sum : l.slots ≡ sum_by (λ (c : placed.ChainRings). layout.code_slots c.rings) (take l.chain-index l.chains);
      few : l.slots ≤ l.chain-index * 262144;
    }
