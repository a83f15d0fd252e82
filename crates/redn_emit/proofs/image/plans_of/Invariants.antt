use Rattle.std.proofs.Common.{◌≡◌, ◌+◌, ◌*◌, ◌≤◌, ◌^◌, ◌++◌, length}
use Rattle.redn_emit.specs.Placed as placed
use Rattle.redn_emit.proofs.image.plans_of.Given as goal

abbrev pub invariant-loop-chain : goal.invariant-loop-chain
invariant-loop-chain l =
    record {
      made : l.plans.items ++ placed.plans_from l.tables l.number l.code_base l.control_base l.chain-iterator.rest.items ≡ placed.plans_from l.tables 0 0 l.initial.control_base l.fn.chains.items;
      all : l.yielded ++ l.chain-iterator.rest.items ≡ l.fn.chains.items;
      number : l.number ≡ length l.yielded;
      code : l.code_base ≤ l.number * 2 ^ 24;
      control : l.control_base ≤ l.initial.control_base + l.number * 2 ^ 26;
    }
