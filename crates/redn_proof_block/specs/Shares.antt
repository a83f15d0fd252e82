-- Which part of a block a segment belongs to: an instruction, or the end.
use Rattle.std.specs.Prelude.{ℕ, suc, ◌-◌, Bool, true, ◌==◌, nat_lt, if◌then◌else◌, List, [], ◌∷◌, length, map}
use Rattle.redn_graph.specs.declared.types.Block.{Block}
use Rattle.redn_segment.specs.declared.types.SlotRef.{SlotRef}
use Rattle.redn_segment.specs.declared.types.Draft.{Draft}
use Rattle.redn_segment.specs.Effects.{slot_behind}
use Rattle.redn_block.specs.Blocks.{Part, part_segments, part_size, parts_of, ring_start}

-- the segments of each part of a block, from a slot on
abbrev pub parts_from : SlotRef → List Part → List (List (List Draft))
parts_from at [] = []
parts_from at (p ∷ ps) = part_segments at p ∷ parts_from (slot_behind at (part_size at p)) ps

abbrev pub block_parts : ℕ → ℕ → Block → List (List (List Draft))
block_parts first ring b = parts_from (ring_start ring) (parts_of first b)

-- how many segments each has
abbrev pub counts_of : ℕ → ℕ → Block → List ℕ
counts_of first ring b = map (λ (part : List (List Draft)). length part) (block_parts first ring b)

-- of parts with so many segments each: the place of the part to which segment j belongs,
abbrev pub place_in : List ℕ → ℕ → ℕ
place_in [] j = 0
place_in (n ∷ ns) j = if nat_lt j n then 0 else suc (place_in ns (j - n))

-- whether it is the part's first segment,
abbrev pub begins_in : List ℕ → ℕ → Bool
begins_in [] j = true
begins_in (n ∷ ns) j = if nat_lt j n then j == 0 else begins_in ns (j - n)

-- how many segments of the part are behind it, and whether none is
abbrev pub left_in : List ℕ → ℕ → ℕ
left_in [] j = 0
left_in (n ∷ ns) j = if nat_lt j n then n - suc j else left_in ns (j - n)

abbrev pub closes_in : List ℕ → ℕ → Bool
closes_in ns j = left_in ns j == 0
