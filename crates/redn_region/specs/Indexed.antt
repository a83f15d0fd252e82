-- What the index of regions keeps.
use Rattle.std.specs.Prelude.{◌≡◌, ℕ, ◌-◌, ◌^◌}
use Rattle.std.specs.Ordering.{nat_cmp}
use Rattle.std.specs.BTreeMap.{get}
use Rattle.redn_words.specs.Access.{region_of}
use Rattle.redn_region.specs.declared.regions.Regions.TheInside.{Inside}
use Rattle.redn_words.specs.Access.{EndsBy}

-- each key is found as it is by looking at all rows, and no region's end passes a word
pub record IsIndexed (r : Inside) : Type 0 where
  pub finds : (key : ℕ) → get nat_cmp r.by_key key ≡ region_of r.rows.items key
  pub ends : EndsBy (2 ^ 64 - 1) r.rows.items
