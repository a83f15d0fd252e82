use Rattle.std.proofs.Common.{◌≡◌, ℕ, ◌==◌, take}
use Rattle.std.specs.Ordering.{nat_cmp}
use Rattle.std.specs.BTreeSet.{contains}
use Rattle.std.specs.List.{list_any}
use Rattle.redn_image.specs.Rules.{RegionNumbers, key_is_new}
use Rattle.redn_image.proofs.Faults.{PassedTo}
use Rattle.redn_image.proofs.rules.key_fault.Given as goal

abbrev pub invariant-loop-index : goal.invariant-loop-index
invariant-loop-index l =
    record {
      keys : (k : ℕ) → contains nat_cmp l.keys k ≡ list_any (λ (e : RegionNumbers). e.key == k) (take l.index l.rows);
      passed : PassedTo 6 key_is_new l.rows l.index;
    }
