-- The plain run of a segment with its lap requests, beside that of its drafts alone.
use Rattle.std.specs.Prelude.{◌≡◌, ℕ, suc, ◌+◌, ◌%◌, ◌^◌, ◌<◌, true, false, List, length, slice_get, Some}
use Rattle.std.specs.List.{list_all}
use Rattle.redn_words.specs.declared.types.Opcode.TheVariants.{Add}
use Rattle.redn_words.specs.Words.{bytes_at, with_bytes_at, spelled, word}
use Rattle.redn_segment.specs.declared.types.SlotRef.{SlotRef}
use Rattle.redn_segment.specs.declared.types.Space.{Space}
use Rattle.redn_segment.specs.declared.types.Space.TheVariants as space
use Rattle.redn_segment.specs.declared.types.Draft.{Draft}
use Rattle.redn_segment.specs.Renaming.{renamed_space}
use Rattle.redn_segment.specs.Plain.{Bytes, Put, placed, Outcome, Went, Faults, Bad, runs, opcode_in, first_in}
use Rattle.redn_recycle.specs.Laps.{Ring, slot_of, lap_requests, bodies_of}
use Rattle.redn_recycle.specs.Lapped.{segment_at, start_of, first_of, slots_in_laps, ring_of, draft_names_well}
use Rattle.redn_proof_ring.specs.Turns.{tabled}
use Rattle.redn_proof_ring.specs.Runs.{own_view}
use Rattle.redn_proof_block.specs.Names.{Rings, in_laps, AreRings, set_aside, spares_all}

-- a descriptor with its limit raised
abbrev pub raised_by : ℕ → List ℕ → List ℕ
raised_by slots bytes = with_bytes_at bytes 8 (spelled 8 ((word (bytes_at bytes 8 8) 0 + slots) % 2 ^ 64))

module _ (g : Rings) (ring domain base : ℕ) where
  abbrev pub its : List (List Draft)
  its = g.segments ring

  abbrev pub r : Ring
  r = ring_of its ring domain base

  -- where the lap requests of segment j are
  abbrev pub lap_slot : ℕ → ℕ → SlotRef
  lap_slot j k = slot_of ring (first_of its j + (length (segment_at its j) + k))

  abbrev pub IsLap : ℕ → ℕ → Draft → Type 0
  IsLap j k d = slice_get (lap_requests ring r j) k ≡ Some d

  -- each is an ADD of what it raises by
  pub record LapsStand (s : Bytes) : Type 0 where
    pub adds : (j k : ℕ) (d : Draft) → j < length its → IsLap j k d → opcode_in (s (space.Slot (lap_slot j k))) ≡ Add
    pub by : (j k : ℕ) (d : Draft) → j < length its → IsLap j k d → first_in (s (space.Slot (lap_slot j k))) ≡ d.first

  -- before segment j: a state without laps, and one with them. In the first the own descriptor is raised from the beginning
  pub record Mirrors (j : ℕ) (t s : Bytes) : Type 0 where
    pub agrees : (p : Space) → set_aside ring j p ≡ false → t p ≡ s (renamed_space (in_laps g) p)
    pub raised : j ≡ 0 → t (space.Descriptor ring) ≡ raised_by (slots_in_laps its) (s (space.Descriptor ring))
    pub laps : LapsStand s

  -- the runs of segment j, by the tables of a state
  module _ (number j : ℕ) (t s u : Bytes) where
    abbrev pub plain_run : Outcome
    plain_run = runs (own_view number u) (slot_of ring (start_of its j)) (segment_at its j) (tabled t u)

    abbrev pub lapped_run : Outcome
    lapped_run = runs (own_view number u) (slot_of ring (first_of its j)) (bodies_of ring r j) (tabled s u)

    -- what it does without laps, it does with them
    abbrev pub Lapped : Outcome → Type 0
    Lapped (Went us events) = (vs : List Put) × (lapped_run ≡ Went vs events) × Mirrors (suc j) (placed (tabled t u) us) (placed (tabled s u) vs)
    Lapped (Faults us events) = (vs : List Put) × (lapped_run ≡ Faults vs events)
    Lapped Bad = lapped_run ≡ Bad

-- a segment whose drafts name slots of their own ring alone, and nothing that lap requests have to themselves
abbrev pub LapsChangeNothing : Type 0
LapsChangeNothing =
    (g : Rings) → AreRings g → (ring domain base : ℕ) → g.is_ring ring ≡ true → (number j : ℕ) → j < length (g.segments ring)
    → list_all (spares_all (set_aside ring j)) (segment_at (g.segments ring) j) ≡ true
    → list_all (draft_names_well (g.segments ring) ring) (segment_at (g.segments ring) j) ≡ true → (t s u : Bytes)
    → Mirrors g ring domain base j t s → Lapped g ring domain base number j t s u (plain_run g ring domain base number j t s u)
