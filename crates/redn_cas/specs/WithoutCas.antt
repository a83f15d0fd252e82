-- With a NOOP in place of each CAS a test doesn't choose.
use Rattle.std.specs.Prelude.{ℕ, if◌then◌else◌, List, [], ◌∷◌, map}
use Rattle.redn_words.specs.declared.types.Opcode.{Opcode}
use Rattle.redn_words.specs.declared.types.Opcode.TheVariants.{Noop, Cas}
use Rattle.redn_words.specs.declared.types.Obs.TheVariants as shows
use Rattle.redn_words.specs.Words.{bytes_at, word}
use Rattle.redn_kernel.specs.declared.types.Cell.{Cell}
use Rattle.redn_segment.specs.declared.types.SlotRef.{SlotRef}
use Rattle.redn_segment.specs.declared.types.Draft.{Draft}
use Rattle.redn_segment.specs.Building.{drafts_of}
use Rattle.redn_segment.specs.Drafts.{slot_from}
use Rattle.redn_segment.specs.Plain.{Bytes, View}
use Rattle.redn_segment.specs.Effects.{Effect, Leaves, Stops, Does, word_of, lies_in, jumps, chosen}
use Rattle.redn_cas.specs.Tests.{test48, test64, probe}

abbrev pub without : Opcode → Opcode
without Cas = Noop
without op = op

abbrev pub without_cas : Draft → Draft
without_cas d = record d { op = without d.op }

-- a look, and whatever it sees the choice of the ring for no match. No cell changes
abbrev pub looks : ℕ → Cell → ℕ → SlotRef → SlotRef → View → Bytes → Effect
looks t offset miss look_at last chain s =
    let o : ℕ = word_of s offset in
    let table : List ℕ = chain.tables look_at t in
    if lies_in table o then Leaves (chosen last miss s) (shows.Look chain.number t o (word (bytes_at table o 8) 0)
    ∷ []) else Stops s (shows.Fault chain.number t o ∷ [])

abbrev pub from : ℕ → ℕ → SlotRef
from ring first = record { ring = ring; slot = first }

-- then Test48 and Test64 choose the other ring, whatever the words are, and a probe the ring for no match
pub record CasChooses : Type 0 where
  pub low : (ring first : ℕ) (left right : Cell) (same other : ℕ) → Does (from ring first) (map without_cas (drafts_of (test48 (slot_from ring first) left right same other))) (jumps other (slot_from ring first 6))
  pub wide : (ring first : ℕ) (left right : Cell) (same other : ℕ) → Does (from ring first) (map without_cas (drafts_of (test64 (slot_from ring first) left right same other))) (jumps other (slot_from ring first 10))
  pub look : (ring first : ℕ) (to : Cell) (t : ℕ) (offset key : Cell) (hit miss : ℕ) → Does (from ring first) (map without_cas (drafts_of (probe (slot_from ring first) to t offset key hit miss))) (looks t offset miss (slot_from ring first 6) (slot_from ring first 15))
