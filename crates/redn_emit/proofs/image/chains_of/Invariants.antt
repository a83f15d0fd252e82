use Rattle.std.proofs.Common.{◌≡◌, ◌++◌, length, drop}
use Rattle.redn_emit.specs.Placed as placed
use Rattle.redn_emit.specs.Kept.{CanAllBePlaced}
use Rattle.redn_emit.proofs.image.chains_of.Given as goal

abbrev pub invariant-loop-init : goal.invariant-loop-init
invariant-loop-init l =
    record {
      made : l.chains.items ++ placed.chains_from l.first (drop (length l.yielded) l.inits) (drop (length l.yielded) l.graphs) ≡ placed.chains_from (length l.inits) l.inits l.graphs;
      fit : CanAllBePlaced l.first (drop (length l.yielded) l.inits) (drop (length l.yielded) l.graphs);
    }
