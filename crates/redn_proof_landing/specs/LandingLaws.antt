-- Laws of drafts that are placed in memory.
use Rattle.std.specs.Prelude.{◌≡◌, ℕ, ◌+◌, ◌%◌, ◌<◌, ◌≤◌, Bool, true, false, List, length, map}
use Rattle.redn_words.specs.declared.types.Region.{Region}
use Rattle.redn_words.specs.declared.types.QueueRow.{QueueRow}
use Rattle.redn_words.specs.declared.types.Origin.{Origin}
use Rattle.redn_words.specs.declared.limits.TheConstants.{RECEIVE_BASE}
use Rattle.redn_words.specs.Requests.{decoded}
use Rattle.redn_words.specs.Access.{EndsBy}
use Rattle.redn_words.specs.Landings.{Change, landing}
use Rattle.redn_segment.specs.declared.types.Space.{Space}
use Rattle.redn_segment.specs.declared.types.Draft.{Draft}
use Rattle.redn_segment.specs.Plain.{Put, acts, placed, opcode_in}
use Rattle.redn_segment.specs.Homes.{Home, LieApart, base_of, room_of}
use Rattle.redn_proof_window.specs.Windows.{Opening, bodies_of}
use Rattle.redn_proof_window.specs.Stages.{IsEnding, Orderly, Standing, all_written, effect}
use Rattle.redn_proof_landing.specs.Homes.{LandsAs, Inside, seen_in, change_of, reads_by, puts_of_first}
use Rattle.redn_proof_landing.specs.Segments.{Lying, Part, IsApart, GoesThrough, CanLand, segment_window, slot_bytes, is_table_space}

-- a placed draft lands as its plain step says
abbrev pub DraftsLand : Type 0
DraftsLand =
    (home : Space → Home) (regions : List Region) (o : Origin) (m : List ℕ) (d : Draft) (slot : List ℕ)
    → CanLand home regions o.chain (length m) d slot (opcode_in slot)
    → LandsAs home (reads_by home d slot (opcode_in slot)) (acts o.chain (seen_in home m) slot d (opcode_in slot)) (landing regions o m (decoded slot))

-- a segment that lies in memory, with its gates, when its window opens
pub record Opens (home : Space → Home) (mine : Space → Bool) (regions : List Region) (ring : ℕ) (row : QueueRow) (ours : ℕ
    → Bool) (g : Part) (lap counter : ℕ) (m : List ℕ) : Type 0 where
  pub lie : Lying home mine ring row
  pub apart : IsApart mine ring g
  pub through : GoesThrough home regions ring row g m
  pub spaces : LieApart home mine (length m)
  pub room : g.first + (length g.drafts + g.gates) ≤ row.slots
  pub ours_are : (q : Space) (i : ℕ) → mine q ≡ true → is_table_space q ≡ false → i < room_of home q → ours (base_of home q + i) ≡ true
  pub numbered : ring < RECEIVE_BASE
  pub last : (k : ℕ) → k + 1 ≡ length g.drafts → (decoded (slot_bytes home ring g m k)).flags % 2 ≡ 1
  pub gates : IsEnding (segment_window home regions ring row ours g lap counter m) g.ending
  pub ends : EndsBy (length m) regions

-- its window is orderly, so its drafts land in any order
abbrev pub SegmentsOrderly : Type 0
SegmentsOrderly =
    (home : Space → Home) (mine : Space → Bool) (regions : List Region) (ring : ℕ) (row : QueueRow) (ours : ℕ
    → Bool) (g : Part) (lap counter : ℕ) (m : List ℕ) → Opens home mine regions ring row ours g lap counter m
    → Orderly (segment_window home regions ring row ours g lap counter m)

-- behind a window whose bodies make puts, memory shows each private space after them
abbrev pub SegmentsShow : Type 0
SegmentsShow =
    (home : Space → Home) (mine : Space → Bool) (w : Opening) (n : List ℕ) (event : List Change) → Standing w n all_written event
    → (each : ℕ → List Put) → ((k : ℕ) → k < bodies_of w → effect w event k ≡ map (change_of home) (each k))
    → LieApart home mine (length w.memory) → Inside home mine (puts_of_first each (bodies_of w))
    → (p : Space) → mine p ≡ true → ((i : ℕ) → base_of home p ≤ i → i < base_of home p + room_of home p → w.ours i ≡ true)
    → seen_in home n p ≡ placed (seen_in home w.memory) (puts_of_first each (bodies_of w)) p
