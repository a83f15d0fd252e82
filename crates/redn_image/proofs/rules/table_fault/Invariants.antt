use Rattle.std.proofs.Common.{◌≡◌, ℕ, ◌==◌, ◌&&◌, take}
use Rattle.std.specs.Ordering.{nat_cmp}
use Rattle.std.specs.BTreeMap.{get}
use Rattle.std.specs.List.{find}
use Rattle.redn_image.specs.Rules.{RegionNumbers, table_is_one}
use Rattle.redn_image.proofs.Faults.{PassedTo}
use Rattle.redn_image.proofs.rules.table_fault.Given as goal

abbrev pub invariant-loop-index : goal.invariant-loop-index
invariant-loop-index l =
    record {
      first : (t : ℕ) → get nat_cmp l.first t ≡ find (λ (e : RegionNumbers). e.kind == 1 && e.table == t) (take l.index l.rows);
      passed : PassedTo 11 table_is_one l.rows l.index;
    }
