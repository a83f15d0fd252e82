-- A ring of drafts with laps: each segment with its lap requests, a WAIT and an ENABLE.
use Rattle.std.specs.Prelude.{◌≡◌, ℕ, zero, suc, ◌+◌, ◌-◌, ◌*◌, ◌≤◌, ◌<◌, ◌^◌, Bool, true, not, ◌&&◌, ◌||◌, ◌==◌, nat_le, nat_lt, if◌then◌else◌, List, [], ◌∷◌, ◌++◌, length, map, count_by, get_or}
use Rattle.std.specs.List.{range_with_len, list_all, list_any, position_or_len}
use Rattle.redn_words.specs.declared.types.QueueRow.{QueueRow}
use Rattle.redn_words.specs.declared.types.Opcode.{Opcode}
use Rattle.redn_words.specs.declared.types.Opcode.TheVariants.{Wait, Enable}
use Rattle.redn_segment.specs.declared.types.SlotRef.{SlotRef}
use Rattle.redn_segment.specs.declared.types.Site.{Site}
use Rattle.redn_segment.specs.declared.types.Site.TheVariants as site
use Rattle.redn_segment.specs.declared.types.Draft.{Draft}
use Rattle.redn_segment.specs.Building.{drafts_of}
use Rattle.redn_segment.specs.Costs.{sends}
use Rattle.redn_segment.specs.Drafts.{draft}
use Rattle.redn_segment.specs.Renaming.{renamed}
use Rattle.redn_segment.specs.Templates.{may_show, all_filled}
use Rattle.redn_recycle.specs.Laps.{Ring, is_last, is_send_last, bodies_of}

-- the operands of a gate are all that counts of it
abbrev pub gate_draft : Opcode → ℕ → ℕ → Draft
gate_draft op first second = draft op (site.Scratch 0) 0 (site.Scratch 0) 0 first second

module _ (number : ℕ) (r : Ring) where
  -- a WAIT for all segments so far, and an ENABLE of the next one. The last WAIT is one lap low, and drafts fill the last ENABLE
  abbrev pub gate_drafts : ℕ → List Draft
  gate_drafts j =
      if is_send_last number r j then [] else (
      if is_last number r j then gate_draft Wait number 0 ∷ gate_draft Enable 0 0 ∷ [] else gate_draft Wait number (suc j)
      ∷ gate_draft Enable number (r.first (suc (suc j))) ∷ [])

  abbrev pub lapped_segment : ℕ → List Draft
  lapped_segment j = bodies_of number r j ++ gate_drafts j

  abbrev pub lapped_segments : List (List Draft)
  lapped_segments = map lapped_segment (range_with_len 0 r.segments)

-- the place of the first draft that may show an event, and past all lap requests where none may
abbrev pub event_in : List Draft → ℕ
event_in ds = if list_any may_show ds then position_or_len may_show ds else length ds + 2

-- the lap requests and gates of a segment
abbrev pub added_to : Bool → ℕ → ℕ → ℕ
added_to sends count j = if sends && (suc j == count) then 0 else (if sends && (j == 0) then 3 else 4)

module _ (segments : List (List Draft)) where
  abbrev pub segment_at : ℕ → List Draft
  segment_at j = get_or segments j []

  -- the last segment is a SEND
  abbrev pub sends_last : Bool
  sends_last = sends (segment_at (length segments - 1))

  abbrev pub slots_added : ℕ → ℕ
  slots_added j = added_to sends_last (length segments) j

  -- where a segment begins, without laps and with them
  abbrev pub start_of : ℕ → ℕ
  start_of zero = 0
  start_of (suc j) = start_of j + length (segment_at j)

  abbrev pub first_of : ℕ → ℕ
  first_of zero = 0
  first_of (suc j) = first_of j + (length (segment_at j) + slots_added j)

  abbrev pub slots_in_laps : ℕ
  slots_in_laps = first_of (length segments)

  -- the segment of a slot: so many segments end at or below it
  abbrev pub segment_of_slot : ℕ → ℕ
  segment_of_slot i = count_by (λ (j : ℕ). nat_le (start_of (suc j)) i) (range_with_len 0 (length segments))

  -- the number behind the last draft, where it stands for the last ENABLE
  abbrev pub names_last : ℕ → Bool
  names_last i = not sends_last && (i == length (drafts_of segments))

  -- a draft keeps its place in its segment
  abbrev pub slot_in_laps : ℕ → ℕ
  slot_in_laps i =
      if names_last i then slots_in_laps - 1 else first_of (segment_of_slot i) + (i - start_of (segment_of_slot i))

  module _ (number : ℕ) where
    abbrev pub ref_in_laps : SlotRef → SlotRef
    ref_in_laps q = if q.ring == number then record q { slot = slot_in_laps q.slot } else q

    -- a slot that a draft names is a draft of the ring, or the last ENABLE where there is one
    abbrev pub names_slot : SlotRef → Bool
    names_slot q = q.ring == number && (nat_lt q.slot (length (drafts_of segments)) || names_last q.slot)

    abbrev pub names_well : Site → Bool
    names_well (site.Field f) = names_slot f.slot
    names_well _ = true

    abbrev pub draft_names_well : Draft → Bool
    draft_names_well d = names_well d.local && names_well d.remote

    -- what may be given laps
    pub record MayGoRound : Type 0 where
      pub some : 2 ≤ length segments
      pub filled : all_filled segments ≡ true
      pub few : length (drafts_of segments) + 4 * length segments < 2 ^ 32
      pub names : list_all (list_all draft_names_well) segments ≡ true

    -- the ring of these segments, with its slots at a place of memory, and closed at first
    abbrev pub row_of : ℕ → ℕ → QueueRow
    row_of domain base = record { domain = domain; managed = true; base = base; slots = slots_in_laps; limit = 0 }

    abbrev pub ring_of : ℕ → ℕ → Ring
    ring_of domain base =
        record {
          row = row_of domain base;
          segments = length segments;
          drafts = λ j. map (renamed ref_in_laps) (segment_at j);
          first = first_of;
          event = λ j. event_in (segment_at j);
          sends = sends_last;
        }
