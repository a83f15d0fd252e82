-- Drafts are fewer than slots, and parts follow one another.
use Rattle.std.proofs.Common.{◌≡◌, ℕ, ◌+◌, ◌*◌, ◌^◌, ◌<◌, ◌≤◌, List, [], ◌∷◌, ◌++◌, length, map, take, get_or, sym, ap, ◌∙◌, subst, arith, append_assoc}
use Rattle.std.specs.Prelude.{sum_by}
use Rattle.std.specs.List.{All}
use Rattle.std.proofs.lemmas.List.{append-nil, take_more, length-take-le, map-append}
use Rattle.std.proofs.lemmas.List.Elements.{All-append, All-cons}
use Rattle.std.proofs.lemmas.List.Sums.{sum_by-cons}
use Rattle.redn_kernel.specs.declared.types.Cell.{Cell}
use Rattle.redn_kernel.specs.declared.types.Cell.TheVariants as cell
use Rattle.redn_graph.specs.declared.types.Instr.{Instr}
use Rattle.redn_graph.specs.declared.types.Instr.TheVariants.{Set, Add}
use Rattle.redn_graph.specs.declared.types.Block.{Block}
use Rattle.redn_graph.specs.Slots.{instr_slots, block_slots}
use Rattle.redn_segment.specs.declared.types.SlotRef.{SlotRef}
use Rattle.redn_segment.specs.declared.types.Draft.{Draft}
use Rattle.redn_segment.specs.Building.{Building, drafts_of}
use Rattle.redn_segment.specs.Effects.{slot_behind, first_slot}
use Rattle.redn_segment.proofs.Growing.{length-drafts, behind_twice}
use Rattle.redn_segment.proofs.Composing.{behind_none}
use Rattle.redn_move.specs.Adding.{add_segments}
use Rattle.redn_block.specs.Blocks.{Part, instr_part, part_segments, part_size, all_segments, slots_from, ring_start}

-- an instruction has at most so many drafts
add_small : (slot : ℕ → SlotRef) (to by : Cell) → length (drafts_of (add_segments slot to by)) ≤ 2
add_small slot to (cell.Num n) = omega arith
add_small slot to _ = omega arith

pub instr_small : (at : SlotRef) (i : Instr) → part_size at (instr_part i) ≤ 2
instr_small at (Add to by) = add_small (slots_from at) to by
instr_small at _ = omega arith

some_slots : (i : Instr) → 5 ≤ instr_slots i
some_slots (Set to v) = omega arith
some_slots (Add to (cell.Num n)) = omega arith
some_slots (Add to _) = omega arith
some_slots _ = omega arith

pub few_instrs : (is : List Instr) → 5 * length is ≤ sum_by instr_slots is
few_instrs [] = omega arith
few_instrs (i ∷ is) = omega (arith, few_instrs is, some_slots i, sum_by-cons instr_slots i is)

pub small_instrs : (at : SlotRef) (is : List Instr) → length (drafts_of (all_segments at (map instr_part is))) ≤ 2 * length is
small_instrs at [] = omega arith
small_instrs at (i ∷ is) =
    let rest = small_instrs (slot_behind at (part_size at (instr_part i))) is in
    omega (arith, length-drafts (part_segments at (instr_part i)) (all_segments (slot_behind at (part_size at (instr_part i))) (map instr_part is)), rest, instr_small at i)

-- parts and those behind them
pub segments_both : (at : SlotRef) (ps qs : List Part) → all_segments at (ps ++ qs) ≡ all_segments at ps ++ all_segments (slot_behind at (length (drafts_of (all_segments at ps)))) qs
segments_both at [] qs = ap (λ (q : SlotRef). all_segments q qs) (sym (behind_none at))
segments_both at (p ∷ ps) qs =
    let behind : SlotRef = slot_behind at (part_size at p) in
    let place : slot_behind behind (length (drafts_of (all_segments behind ps))) ≡ slot_behind at (length (drafts_of (all_segments at (p ∷ ps)))) = behind_twice at (part_size at p) (length (drafts_of (all_segments behind ps))) ∙ ap (slot_behind at) (sym (length-drafts (part_segments at p) (all_segments behind ps))) in
    ap (λ (l : List (List Draft)). part_segments at p ++ l) (segments_both behind ps qs ∙ ap (λ (q : SlotRef). all_segments behind ps ++ all_segments q qs) place) ∙ sym (append_assoc (part_segments at p) (all_segments behind ps) (all_segments (slot_behind at (length (drafts_of (all_segments at (p ∷ ps))))) qs))

pub segments_next : (at : SlotRef) (ps : List Part) (q : Part) → all_segments at (ps ++ q ∷ []) ≡ all_segments at ps ++ part_segments (slot_behind at (length (drafts_of (all_segments at ps)))) q
segments_next at ps q =
    segments_both at ps (q ∷ []) ∙ ap (λ (l : List (List Draft)). all_segments at ps ++ l) (append-nil (part_segments (slot_behind at (length (drafts_of (all_segments at ps)))) q))

pub all_next : {X : Type 0} (P : X → Type 0) (xs : List X) (i : ℕ) (d : X) → i < length xs → All P (take i xs) → P (get_or xs i d) → All P (take (i + 1) xs)
all_next P xs i d l front here =
    subst (λ ys. All P ys) (sym (take_more xs i d l)) (All-append P (take i xs) (get_or xs i d ∷ []) front (All-cons P (get_or xs i d) [] here (λ k e h. absurd (omega arith))))

-- a block has fewer drafts than a ring may have
pub few_drafts : (at : SlotRef) (b : Block) (i : ℕ) → block_slots b ≤ 65536 → i ≤ length b.instrs → length (drafts_of (all_segments at (map instr_part (take i b.instrs)))) < 2 ^ 31
unfolding block_slots
few_drafts at b i small l =
    let some = small_instrs at (take i b.instrs) in
    let all = few_instrs b.instrs in
    let many = length-take-le i b.instrs l in
    omega arith

abbrev first_place : ℕ → ℕ → SlotRef
first_place ring n = record { ring = ring; slot = n }

next_place : (ring n : ℕ) → first_place ring n ≡ slot_behind (ring_start ring) n
next_place ring n = ap (λ (k : ℕ). let q : SlotRef = record { ring = ring; slot = k } in q) (let e : n ≡ 0 + n = omega arith in e)

-- what has been appended so far, and one part more
pub one_more : (b : Building) (ring : ℕ) (ps : List Part) (q : Part) → b.ring ≡ ring → b.segments ≡ all_segments (ring_start ring) ps → b.segments ++ part_segments (first_slot b) q ≡ all_segments (ring_start ring) (ps ++ q ∷ [])
one_more b ring ps q same made =
    let done : List (List Draft) = all_segments (ring_start ring) ps in
    let place : first_slot b ≡ slot_behind (ring_start ring) (length (drafts_of done)) = (λ i. first_place (same i) (length (drafts_of (made i)))) ∙ next_place ring (length (drafts_of done)) in
    (λ i. made i ++ part_segments (place i) q) ∙ sym (segments_next (ring_start ring) ps q)

pub take_part : (is : List Instr) (i : ℕ) (d : Instr) → i < length is → map instr_part (take (i + 1) is) ≡ map instr_part (take i is) ++ instr_part (get_or is i d) ∷ []
take_part is i d l = ap (map instr_part) (take_more is i d l) ∙ map-append instr_part (take i is) (get_or is i d ∷ [])
