-- Which opcodes a slot can have.
use Rattle.std.specs.Prelude.{◌≡◌, ℕ, ◌+◌, ◌⊎◌, Bool, true, false, ◌&&◌, ◌==◌, List, [], ◌∷◌, length}
use Rattle.redn_words.specs.declared.types.Opcode.{Opcode}
use Rattle.redn_words.specs.declared.types.Opcode.TheVariants.{Noop, Cas}
use Rattle.redn_words.specs.declared.types.Obs.{Obs}
use Rattle.redn_words.specs.Words.{spelled}
use Rattle.redn_segment.specs.declared.types.SlotRef.{SlotRef}
use Rattle.redn_segment.specs.declared.types.Space.TheVariants as space
use Rattle.redn_segment.specs.declared.types.Draft.{Draft}
use Rattle.redn_segment.specs.Sites.{same_space, start_of, next_slot}
use Rattle.redn_segment.specs.Plain.{Bytes, View, Put, placed, Went, opcode_in, remote_space, runs}
use Rattle.redn_segment.specs.Primed.{Primed, IsWhole, HasRoom, SeesBytes}
use Rattle.redn_segment.specs.Building.{drafts_of}
use Rattle.redn_segment.specs.Effects.{slot_behind}

-- the opcode in a first word
abbrev pub word_opcode : ℕ → Opcode
word_opcode w = opcode_in (spelled 8 w)

-- a CAS, or a NOOP that may be turned into one
abbrev pub is_swap : Opcode → Bool
is_swap Cas = true
is_swap Noop = true
is_swap _ = false

-- such a draft puts a word in place of a slot's first word
abbrev pub turns : SlotRef → Draft → Bool
turns q e = is_swap e.op && (same_space (remote_space e) (space.Slot q) && (start_of e.remote + e.remote_byte == 0))

abbrev pub IsMade : List Draft → SlotRef → Opcode → Type 0
IsMade [] q op = ⊥
IsMade (e ∷ es) q op = ((turns q e ≡ true) × (op ≡ word_opcode e.second)) ⊎ IsMade es q op

-- an opcode is that of the slot's draft, or what such a draft makes of it
abbrev pub MayHave : List Draft → SlotRef → Draft → Opcode → Type 0
MayHave all q d op = (op ≡ d.op) ⊎ IsMade all q op

abbrev pub SegmentMayHave : List Draft → SlotRef → List Draft → Bytes → Type 0
SegmentMayHave all at [] s = Unit {0}
SegmentMayHave all at (d ∷ ds) s = MayHave all at d (opcode_in (s (space.Slot at))) × SegmentMayHave all (next_slot at) ds s

-- each slot has such an opcode when its segment is opened, all segments before having gone through
abbrev pub HaveOpcodes : List Draft → View → SlotRef → List (List Draft) → Bytes → Type 0
HaveOpcodes all chain at [] s = Unit {0}
HaveOpcodes all chain at (ds ∷ rest) s =
    SegmentMayHave all at ds s × ((us : List Put) (shown : List Obs) → runs chain at ds s ≡ Went us shown
    → HaveOpcodes all chain (slot_behind at (length ds)) rest (placed s us))

-- from every state in which the slots are primed
abbrev pub TellOpcodes : SlotRef → List (List Draft) → Type 0
TellOpcodes at segments =
    (chain : View) → SeesBytes chain → (s : Bytes) → IsWhole s → HasRoom s → Primed (drafts_of segments) at (drafts_of segments) s
    → HaveOpcodes (drafts_of segments) chain at segments s
