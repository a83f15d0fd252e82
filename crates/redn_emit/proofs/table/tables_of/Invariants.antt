use Rattle.std.proofs.Common.{◌≡◌, ◌+◌, ◌++◌, length, drop}
use Rattle.std.specs.Prelude.{sum_by}
use Rattle.redn_kernel.specs.declared.types.TableInit.{TableInit}
use Rattle.redn_emit.specs.Placed.{tables_from}
use Rattle.redn_emit.proofs.table.tables_of.Given as goal

-- the tables so far and those to come, which lie behind them
abbrev pub invariant-loop-i : goal.invariant-loop-i
invariant-loop-i l =
    record {
      made : l.plans.items ++ tables_from l.i l.base (drop l.i l.tables) ≡ tables_from 0 l.initial.base l.tables;
      room : l.base + sum_by (λ (t : TableInit). length t.bytes) (drop l.i l.tables) ≡ l.initial.base + sum_by (λ (t : TableInit). length t.bytes) l.tables;
    }
