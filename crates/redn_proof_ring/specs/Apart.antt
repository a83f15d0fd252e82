-- What is asked of a segment's drafts, so that they lie apart from the lap requests that it gets.
use Rattle.std.specs.Prelude.{◌≡◌, ℕ, suc, ◌+◌, Bool, true, not, ◌&&◌, ◌||◌, List, length, map, nat_le}
use Rattle.std.specs.List.{list_all}
use Rattle.redn_segment.specs.declared.types.Side.{Side}
use Rattle.redn_segment.specs.declared.types.Space.TheVariants as space
use Rattle.redn_segment.specs.declared.types.Draft.{Draft}
use Rattle.redn_segment.specs.Sites.{space_of, same_space}
use Rattle.redn_segment.specs.Footprints.{both_sides, spares, is_apart}
use Rattle.redn_segment.specs.Templates.{one_event}
use Rattle.redn_segment.specs.Sites.{is_table}
use Rattle.redn_recycle.specs.Laps.{slot_of}
use Rattle.redn_segment.specs.Building.{drafts_of}
use Rattle.redn_segment.specs.Footprints.{from}
use Rattle.redn_segment.specs.Primed.{writes_slot}
use Rattle.redn_segment.specs.Renaming.{renamed}
use Rattle.redn_recycle.specs.Lapped.{segment_at, start_of, draft_names_well, ref_in_laps}

-- a side leaves the scratch words of lap requests alone, and the descriptor of a ring
abbrev pub leaves_scratch : Side → Bool
leaves_scratch a = not (same_space (space_of a.site) (space.Scratch 2) || same_space (space_of a.site) (space.Scratch 3))

abbrev pub leaves_descriptor : ℕ → Side → Bool
leaves_descriptor number a = not (same_space (space_of a.site) (space.Descriptor number))

-- no draft has a table at its local side
abbrev pub has_flat_local : Draft → Bool
has_flat_local d = not (is_table d.local)

-- the drafts of segment j of a ring: those of segment 0 leave its descriptor alone, and those of the last one its last ENABLE
pub record LeavesLaps (segments : List (List Draft)) (number j : ℕ) : Type 0 where
  pub names : list_all (draft_names_well segments number) (segment_at segments j) ≡ true
  pub apart : is_apart (segment_at segments j) (slot_of number (start_of segments j)) ≡ true
  pub flat : list_all has_flat_local (segment_at segments j) ≡ true
  pub events : one_event (segment_at segments j) ≡ true
  pub scratch : list_all (both_sides leaves_scratch) (segment_at segments j) ≡ true
  pub descriptor : j ≡ 0 → list_all (both_sides (leaves_descriptor number)) (segment_at segments j) ≡ true
  pub last : suc j ≡ length segments
      → list_all (both_sides (spares (slot_of number (start_of segments j)) (length (segment_at segments j) + 1))) (segment_at segments j) ≡ true

-- a side that writes the last ENABLE fills its operands alone
abbrev pub fills_last : List (List Draft) → ℕ → Side → Bool
fills_last segments number a =
    not (a.writes && same_space (space_of a.site) (space.Slot (slot_of number (length (drafts_of segments)))))
    || (nat_le 40 (from a) && nat_le (from a + a.len) 56)

-- whether a draft of a ring may write a byte of one of its slots, with laps
abbrev pub written_by : List (List Draft) → ℕ → ℕ → ℕ → Bool
written_by segments number slot i = writes_slot (map (renamed (ref_in_laps segments number)) (drafts_of segments)) (slot_of number slot) i
