-- The drafts of the tests, segment after segment. The first slot is slot 0.
use Rattle.std.specs.Prelude.{ℕ, List, [], ◌∷◌}
use Rattle.redn_kernel.specs.declared.types.Cell.{Cell}
use Rattle.redn_segment.specs.declared.types.SlotRef.{SlotRef}
use Rattle.redn_segment.specs.declared.types.Site.TheVariants as site
use Rattle.redn_segment.specs.declared.types.Draft.{Draft}
use Rattle.redn_segment.specs.Drafts.{field, swap_in, turnable, clear, fill_low, fill_high, compare_low, compare_high, choose, copy, read_table, add_to, write_word, read_word, cas_word}

-- Test48, segment by segment: clear T's opcode (slot 5), fill its identifier and the operand of the CAS (slot 3)
abbrev pub low_fills : (ℕ → SlotRef) → Cell → Cell → List Draft
low_fills slot left right = clear (slot 5) ∷ fill_low (site.Cell left) (slot 5) ∷ compare_low (site.Cell right) (slot 3) ∷ []

-- the CAS turns T into a WRITE where the low 48 bits are equal; the other ring is chosen
abbrev pub low_swap : (ℕ → SlotRef) → ℕ → List Draft
low_swap slot other = swap_in 0 (field (slot 5) 0 8) write_word ∷ choose other (slot 6) ∷ []

-- T, once turned, chooses the ring for equal words; the last segment has no draft
abbrev pub low_choice : (ℕ → SlotRef) → ℕ → List Draft
low_choice slot same = turnable (site.Descriptor same) (field (slot 6) 40 16) 16 0 ∷ []

abbrev pub test48 : (ℕ → SlotRef) → Cell → Cell → ℕ → ℕ → List (List Draft)
test48 slot left right same other = low_fills slot left right ∷ low_swap slot other ∷ low_choice slot same ∷ [] ∷ []

-- Test64: the fills of Test48 for T1 (slot 8) and its CAS (slot 6), and for T2 (slot 9) and T1's own operand with the top 48 bits
abbrev pub wide_fills : (ℕ → SlotRef) → Cell → Cell → List Draft
wide_fills slot left right =
    clear (slot 8) ∷ fill_low (site.Cell left) (slot 8) ∷ compare_low (site.Cell right) (slot 6) ∷ clear (slot 9)
    ∷ fill_high (site.Cell left) (slot 9) ∷ compare_high (site.Cell right) (slot 8) ∷ []

-- the CAS turns T1 into a CAS where the low 48 bits are equal; the other ring is chosen
abbrev pub wide_swap : (ℕ → SlotRef) → ℕ → List Draft
wide_swap slot other = swap_in 0 (field (slot 8) 0 8) cas_word ∷ choose other (slot 10) ∷ []

-- T1, once turned, turns T2 into a WRITE where the top 48 bits are equal too
abbrev pub second_swap : (ℕ → SlotRef) → List Draft
second_swap slot = turnable (site.Scratch 0) (field (slot 9) 0 8) 8 write_word ∷ []

-- T2, once turned, chooses the ring for equal words; the last segment has no draft
abbrev pub wide_choice : (ℕ → SlotRef) → ℕ → List Draft
wide_choice slot same = turnable (site.Descriptor same) (field (slot 10) 40 16) 16 0 ∷ []

abbrev pub test64 : (ℕ → SlotRef) → Cell → Cell → ℕ → ℕ → List (List Draft)
test64 slot left right same other =
    wide_fills slot left right ∷ wide_swap slot other ∷ second_swap slot ∷ wide_choice slot same ∷ [] ∷ []

-- a probe, segment by segment. Six fills: the opcodes of T1 (slot 13) and T2 (slot 14), the operands of both CAS (slots 11 and 12), the offsets of
-- the look (slot 6) and of T1
abbrev pub probe_fills : (ℕ → SlotRef) → Cell → Cell → List Draft
probe_fills slot offset key =
    clear (slot 13) ∷ clear (slot 14) ∷ compare_low (site.Cell key) (slot 11) ∷ compare_low (site.Cell key) (slot 12)
    ∷ copy (site.Cell offset) 0 (field (slot 6) 24 8) 8 ∷ copy (site.Cell offset) 0 (field (slot 13) 24 8) 8 ∷ []

-- the look reads the key word; the ring for no match is chosen
abbrev pub probe_look : (ℕ → SlotRef) → ℕ → ℕ → List Draft
probe_look slot t miss = read_table site.Key t ∷ choose miss (slot 15) ∷ []

-- the key word goes into both identifiers, and T1's offset is raised by 8
abbrev pub probe_names : (ℕ → SlotRef) → List Draft
probe_names slot = fill_low site.Key (slot 13) ∷ fill_low site.Key (slot 14) ∷ add_to 0 (field (slot 13) 24 8) 8 ∷ []

-- where the key matches T1 becomes a READ and T2 a WRITE
abbrev pub probe_swaps : (ℕ → SlotRef) → List Draft
probe_swaps slot = swap_in 0 (field (slot 13) 0 8) read_word ∷ swap_in 1 (field (slot 14) 0 8) write_word ∷ []

-- T1, once turned, loads the value, and T2 chooses the ring for a match; the last segment has no draft
abbrev pub probe_turned : (ℕ → SlotRef) → Cell → ℕ → ℕ → List Draft
probe_turned slot to t hit =
    turnable (site.Cell to) (site.Table t 0) 8 0 ∷ turnable (site.Descriptor hit) (field (slot 15) 40 16) 16 0 ∷ []

abbrev pub probe : (ℕ → SlotRef) → Cell → ℕ → Cell → Cell → ℕ → ℕ → List (List Draft)
probe slot to t offset key hit miss =
    probe_fills slot offset key ∷ probe_look slot t miss ∷ probe_names slot ∷ probe_swaps slot ∷ probe_turned slot to t hit ∷ [] ∷ []
