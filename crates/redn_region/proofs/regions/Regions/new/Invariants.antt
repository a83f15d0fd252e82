use Rattle.std.proofs.Common.{◌≡◌, ℕ, ◌<◌, false, take}
use Rattle.std.specs.Ordering.{nat_cmp}
use Rattle.std.specs.BTreeMap.{get}
use Rattle.redn_words.specs.Access.{region_of}
use Rattle.redn_region.specs.Rows.{repeats}
use Rattle.redn_region.proofs.regions.Regions.new.Given as goal

abbrev pub invariant-loop-index : goal.invariant-loop-index
invariant-loop-index l =
    record {
      finds : (k : ℕ) → get nat_cmp l.by_key k ≡ region_of (take l.index l.row-items) k;
      distinct : (i : ℕ) → i < l.index → repeats l.row-items i ≡ false;
      rows : l.row-items ≡ l.fn.rows.items;
    }
