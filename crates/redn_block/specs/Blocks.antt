-- The drafts of a block: those of its instructions, one after the other, and those of its end.
use Rattle.std.specs.Prelude.{ℕ, ◌+◌, ◌<◌, ◌≤◌, ◌^◌, List, [], ◌∷◌, ◌++◌, length, map, All}
use Rattle.redn_kernel.specs.declared.types.Cell.{Cell}
use Rattle.redn_kernel.specs.declared.types.Cell.TheVariants as cell
use Rattle.redn_graph.specs.declared.types.Instr.{Instr}
use Rattle.redn_graph.specs.declared.types.Instr.TheVariants.{Set, Move, Add, Load, Store}
use Rattle.redn_graph.specs.declared.types.End.{End}
use Rattle.redn_graph.specs.declared.types.End.TheVariants.{Jump, Test48, Test64, Probe, Reply}
use Rattle.redn_graph.specs.declared.types.Block.{Block}
use Rattle.redn_segment.specs.declared.types.SlotRef.{SlotRef}
use Rattle.redn_segment.specs.declared.types.Draft.{Draft}
use Rattle.redn_segment.specs.Building.{drafts_of}
use Rattle.redn_segment.specs.Drafts.{slot_from}
use Rattle.redn_segment.specs.Plain.{Bytes, View}
use Rattle.redn_segment.specs.Effects.{Effect, IsTarget, moves, adds, loads, stores, jumps, tests_low, tests_all, probes, replies, slot_behind}
use Rattle.redn_move.specs.Moves as move
use Rattle.redn_move.specs.Adding.{add_segments}
use Rattle.redn_move.specs.Replying.{reply}
use Rattle.redn_cas.specs.Tests as test

-- segments of drafts that are made of their slots, and what they do
pub record Part : Type 0 where
  pub segments : (ℕ → SlotRef) → List (List Draft)
  pub effect : (ℕ → SlotRef) → View → Bytes → Effect

abbrev pub part : ((ℕ → SlotRef) → List (List Draft)) → ((ℕ → SlotRef) → View → Bytes → Effect) → Part
part segments effect = record { segments = segments; effect = effect }

abbrev pub instr_part : Instr → Part
instr_part (Set to v) = part (λ (slot : ℕ → SlotRef). move.move_word slot to (cell.Num v)) (λ (slot : ℕ → SlotRef). moves to (cell.Num v))
instr_part (Move to from) = part (λ (slot : ℕ → SlotRef). move.move_word slot to from) (λ (slot : ℕ → SlotRef). moves to from)
instr_part (Add to by) = part (λ (slot : ℕ → SlotRef). add_segments slot to by) (λ (slot : ℕ → SlotRef). adds to by)
instr_part (Load to table offset) = part (λ (slot : ℕ → SlotRef). move.load slot to table offset) (λ (slot : ℕ → SlotRef). loads to table offset (slot 1))
instr_part (Store table offset from) = part (λ (slot : ℕ → SlotRef). move.store slot table offset from) (λ (slot : ℕ
    → SlotRef). stores table offset from (slot 1))

-- the number of the ring of a block, where rings are numbered from one on
abbrev pub ring_of : ℕ → ℕ → ℕ
ring_of first block = first + block

abbrev pub end_part : ℕ → End → Part
end_part first (Jump to) = part (λ (slot : ℕ → SlotRef). move.jump slot (ring_of first to)) (λ (slot : ℕ → SlotRef). jumps (ring_of first to) (slot 1))
end_part first (Test48 left right met unmet) = part (λ (slot : ℕ
    → SlotRef). test.test48 slot left right (ring_of first met) (ring_of first unmet)) (λ (slot : ℕ
    → SlotRef). tests_low left right (ring_of first met) (ring_of first unmet) (slot 6))
end_part first (Test64 left right met unmet) = part (λ (slot : ℕ
    → SlotRef). test.test64 slot left right (ring_of first met) (ring_of first unmet)) (λ (slot : ℕ
    → SlotRef). tests_all left right (ring_of first met) (ring_of first unmet) (slot 10))
end_part first (Probe to table offset key hit miss) = part (λ (slot : ℕ
    → SlotRef). test.probe slot to table offset key (ring_of first hit) (ring_of first miss)) (λ (slot : ℕ
    → SlotRef). probes to table offset key (ring_of first hit) (ring_of first miss) (slot 6) (slot 13) (slot 15))
end_part first (Reply words) = part (λ (slot : ℕ → SlotRef). reply words) (λ (slot : ℕ → SlotRef). replies words)

abbrev pub parts_of : ℕ → Block → List Part
parts_of first b = map instr_part b.instrs ++ end_part first b.end ∷ []

-- the slots from one on
abbrev pub slots_from : SlotRef → ℕ → SlotRef
slots_from at = slot_from at.ring at.slot

abbrev pub part_segments : SlotRef → Part → List (List Draft)
part_segments at p = p.segments (slots_from at)

abbrev pub part_effect : SlotRef → Part → View → Bytes → Effect
part_effect at p = p.effect (slots_from at)

-- how many slots a part takes
abbrev pub part_size : SlotRef → Part → ℕ
part_size at p = length (drafts_of (part_segments at p))

-- parts one after the other, from a slot on
abbrev pub all_segments : SlotRef → List Part → List (List Draft)
all_segments at [] = []
all_segments at (p ∷ ps) = part_segments at p ++ all_segments (slot_behind at (part_size at p)) ps

-- where a ring begins
abbrev pub ring_start : ℕ → SlotRef
ring_start ring = record { ring = ring; slot = 0 }

-- the segments of a block's ring, where the ring of block 0 has the number `first`
abbrev pub block_segments : ℕ → ℕ → Block → List (List Draft)
block_segments first ring b = all_segments (ring_start ring) (parts_of first b)

-- numbers that fit a word
abbrev pub IsWord : Cell → Type 0
IsWord (cell.Num v) = v < 2 ^ 64
IsWord _ = Unit {0}

abbrev pub InstrWords : Instr → Type 0
InstrWords (Set to v) = v < 2 ^ 64
InstrWords (Move to from) = IsWord from
InstrWords (Add to by) = IsWord by
InstrWords (Load to table offset) = IsWord offset
InstrWords (Store table offset from) = IsWord offset × IsWord from

abbrev pub EndWords : End → Type 0
EndWords (Jump to) = Unit {0}
EndWords (Test48 left right met unmet) = IsWord left × IsWord right
EndWords (Test64 left right met unmet) = IsWord left × IsWord right
EndWords (Probe to table offset key hit miss) = IsWord offset × IsWord key
EndWords (Reply words) = All IsWord words

-- each number of a block fits a word
pub record BlockWords (b : Block) : Type 0 where
  pub instrs : All InstrWords b.instrs
  pub end : EndWords b.end

-- targets are variables or hidden cells
abbrev pub HasTarget : Instr → Type 0
HasTarget (Set to v) = IsTarget to
HasTarget (Move to from) = IsTarget to
HasTarget (Add to by) = IsTarget to
HasTarget (Load to table offset) = IsTarget to
HasTarget (Store table offset from) = Unit {0}

-- and the rings of blocks that an end names have numbers below a bound
abbrev pub EndFits : ℕ → ℕ → End → Type 0
EndFits most first (Jump to) = ring_of first to < most
EndFits most first (Test48 left right met unmet) = (ring_of first met < most) × (ring_of first unmet < most)
EndFits most first (Test64 left right met unmet) = (ring_of first met < most) × (ring_of first unmet < most)
EndFits most first (Probe to table offset key hit miss) = IsTarget to × (ring_of first hit < most) × (ring_of first miss < most)
EndFits most first (Reply words) = (1 ≤ length words) × (length words ≤ 8)

pub record BlockFits (most first : ℕ) (b : Block) : Type 0 where
  pub instrs : All HasTarget b.instrs
  pub end : EndFits most first b.end
