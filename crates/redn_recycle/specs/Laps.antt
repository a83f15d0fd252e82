-- Rings that go round: segments with lap requests and gates, and what their gates and descriptors hold in each lap.
use Rattle.std.specs.Prelude.{◌≡◌, ℕ, zero, suc, ◌+◌, ◌-◌, ◌*◌, ◌≤◌, ◌<◌, Bool, ◌&&◌, ◌==◌, nat_lt, if◌then◌else◌, List, [], ◌∷◌, ◌++◌, length}
use Rattle.redn_words.specs.declared.types.Request.{Request}
use Rattle.redn_words.specs.declared.types.QueueRow.{QueueRow}
use Rattle.redn_words.specs.Words.{spelled}
use Rattle.redn_segment.specs.declared.types.SlotRef.{SlotRef}
use Rattle.redn_segment.specs.declared.types.Site.TheVariants as site
use Rattle.redn_segment.specs.declared.types.Draft.{Draft}
use Rattle.redn_segment.specs.Drafts.{field, add_to}

-- a ring as it is placed. Slots count from 0 with lap requests and gates, and each last slot of a segment but a SEND's is a gate
pub record Ring : Type 0 where
  pub row : QueueRow
  pub segments : ℕ
  pub drafts : ℕ → List Draft  -- those of each segment, without its lap requests
  pub first : ℕ → ℕ  -- where each segment begins, and behind the last one the end of the ring
  pub event : ℕ → ℕ  -- the place of the draft that may show an event
  pub sends : Bool  -- the last segment is a SEND

abbrev pub slot_of : ℕ → ℕ → SlotRef
slot_of ring i = record { ring = ring; slot = i }

-- a ring is named by the number of its queue
module _ (number : ℕ) (r : Ring) where
  abbrev pub is_last : ℕ → Bool
  is_last j = suc j == r.segments

  abbrev pub is_send_last : ℕ → Bool
  is_send_last j = r.sends && is_last j

  abbrev pub gates_of : ℕ → ℕ
  gates_of j = if is_send_last j then 0 else 2

  -- the last two slots of a segment
  abbrev pub wait_of : ℕ → ℕ
  wait_of j = r.first (suc j) - 2

  abbrev pub enable_of : ℕ → ℕ
  enable_of j = r.first (suc j) - 1

  -- raise the count of a WAIT by S, the limit of an ENABLE by N, and that of the own descriptor by N
  abbrev pub raise_wait : ℕ → Draft
  raise_wait j = add_to 2 (field (slot_of number (wait_of j)) 48 8) r.segments

  abbrev pub raise_enable : ℕ → Draft
  raise_enable j = add_to 3 (field (slot_of number (enable_of j)) 48 8) r.row.slots

  abbrev pub raise_descriptor : Draft
  raise_descriptor = record (add_to 3 (site.Descriptor number) r.row.slots) { remote_byte = 8 }

  -- the lap requests of a segment: the first raises the WAIT of the last segment, and the own descriptor; the others the gates before them
  abbrev pub lap_requests : ℕ → List Draft
  lap_requests zero = if r.sends then raise_descriptor ∷ [] else raise_wait (r.segments - 1) ∷ raise_descriptor ∷ []
  lap_requests (suc j) = if is_send_last (suc j) then [] else raise_wait j ∷ raise_enable j ∷ []

  abbrev pub bodies_of : ℕ → List Draft
  bodies_of j = r.drafts j ++ lap_requests j

  -- the signalled request of a segment is its last body
  abbrev pub flags_at : ℕ → ℕ → ℕ
  flags_at j k = if suc k == length (bodies_of j) then 1 else 0

  -- so many slots, segment after segment
  pub record IsRing : Type 0 where
    pub some : 2 ≤ r.segments
    pub starts : r.first 0 ≡ 0
    pub follows : (j : ℕ) → j < r.segments → r.first (suc j) ≡ r.first j + (length (bodies_of j) + gates_of j)
    pub ends : r.first r.segments ≡ r.row.slots

  -- has a lap raised this already? A gate but the last WAIT is raised by the segment behind its own
  abbrev pub laps_behind : ℕ → ℕ → ℕ → ℕ
  laps_behind n j i = if nat_lt (suc i) j then suc n else n

  abbrev pub laps_begun : ℕ → ℕ → ℕ
  laps_begun n j = if nat_lt 0 j then suc n else n

  -- in lap n, before segment j: the count of a WAIT, the limit of an ENABLE, and the descriptor's limit
  abbrev pub count_at : ℕ → ℕ → ℕ → ℕ
  count_at n j i = if is_last i then r.segments * laps_begun n j else suc i + r.segments * laps_behind n j i

  abbrev pub limit_at : ℕ → ℕ → ℕ → ℕ
  limit_at n j i = r.first (suc (suc i)) + r.row.slots * laps_behind n j i

  abbrev pub opening_at : ℕ → ℕ → ℕ
  opening_at n j = r.first 1 + r.row.slots * laps_begun n j

  abbrev pub gate : ℕ → ℕ → ℕ → Request
  gate op first second = record { op = op; id = 0; lkey = 0; rkey = 0; local = 0; remote = 0; length = 0; first = first; second = second; flags = 0 }

  abbrev pub wait_request : ℕ → Request
  wait_request count = gate 6 number count

  abbrev pub enable_request : ℕ → Request
  enable_request limit = gate 7 number limit

  -- the last ENABLE, whose operands drafts fill
  abbrev pub last_enable : Request
  last_enable = gate 7 0 0

  abbrev pub descriptor_bytes : ℕ → List ℕ
  descriptor_bytes limit = spelled 8 number ++ spelled 8 limit
