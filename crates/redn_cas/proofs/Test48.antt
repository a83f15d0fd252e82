-- Test48 chooses by the low 48 bits.
use Rattle.std.proofs.Common.{◌≡◌, ℕ, Bool, true, false, ◌++◌, List, [], ◌∷◌, length, refl, sym, ap, ◌∙◌, arith, map}
use Rattle.std.specs.Prelude.{◌==◌, if◌then◌else◌}
use Rattle.redn_words.specs.declared.types.Opcode.TheVariants.{Noop, Write, Cas}
use Rattle.redn_words.specs.Words.{bytes_at, word, spelled, low_48, number}
use Rattle.redn_words.proofs.Numbers.{length-spelled}
use Rattle.redn_kernel.specs.declared.types.Cell.{Cell}
use Rattle.redn_kernel.specs.declared.types.Cell.TheVariants.{Num}
use Rattle.redn_segment.specs.declared.types.Draft.{Draft}
use Rattle.redn_segment.specs.declared.types.SlotRef.{SlotRef}
use Rattle.redn_segment.specs.declared.types.Space.{Space}
use Rattle.redn_segment.specs.declared.types.Space.TheVariants as space
use Rattle.redn_segment.specs.declared.types.Site.TheVariants as site
use Rattle.redn_segment.specs.Building.{drafts_of}
use Rattle.redn_segment.specs.Drafts.{field, swap_in, turnable, clear, fill_low, compare_low, choose, write_word}
use Rattle.redn_segment.specs.Plain.{Bytes, View, Put, put, with_put, placed, Went, step, runs, opcode_in, first_in, second_in}
use Rattle.redn_segment.specs.Primed.{IsWhole, HasRoom, IsPrimed, Primed, writes_slot}
use Rattle.redn_segment.specs.Effects.{word_of, Leaves, Meets, Does, tests_low, jumps, chosen, is_own}
use Rattle.redn_segment.proofs.Quiet.{cell_is_source}
use Rattle.redn_segment.proofs.Steps.{steps_noop, steps_fill, steps_cas, goes_on}
use Rattle.redn_segment.proofs.Kept.{opcode_kept, bytes_kept, opcode_is, word_is, draft_opcode, draft_second}
use Rattle.redn_segment.proofs.Filled.{length_at, all_bytes, clear_bytes, low_of, opcode_clear, opcode_to_write, word_filled, operand_filled}
use Rattle.redn_segment.proofs.Pieces.{length_placed, Piece, piece, put_of, puts_of, AreSized, clean, seen, reads}
use Rattle.redn_segment.proofs.Meeting.{placed_outer, placed_again, meets_went}
use Rattle.redn_segment.proofs.Moving.{own, slot_ref}
use Rattle.redn_segment.proofs.SameEffects.{same_chosen}
use Rattle.redn_segment.proofs.Tame.{tame_tests_low}
use Rattle.redn_words.specs.Requests.{opcode_named}
use Rattle.redn_segment.proofs.Telling.{tells}
use Rattle.redn_segment.proofs.Appending.{IsTemplate}
use Rattle.redn_segment.proofs.Suiting.{suiting}
use Rattle.redn_cas.specs.Tests.{test48}
use Rattle.redn_cas.specs.WithoutCas.{without_cas}

module _ (chain : View) (s : Bytes) (left right : Cell) (same other : ℕ) where
  abbrev ds : List Draft
  ds = drafts_of (test48 own left right same other)

  abbrev zeros : Piece
  zeros = piece (space.Slot (own 5)) 0 2 (bytes_at (s (space.Cell (Num 0))) 0 2)

  abbrev low : Piece
  low = piece (space.Slot (own 5)) 2 6 (bytes_at (s (space.Cell left)) 2 6)

  abbrev compare : Piece
  compare = piece (space.Slot (own 3)) 42 6 (bytes_at (s (space.Cell right)) 2 6)

  abbrev filled : Bytes
  filled = placed s (puts_of (zeros ∷ low ∷ compare ∷ []))

  abbrev turned : Bool → List Piece
  turned b = if b then piece (space.Slot (own 5)) 0 8 (spelled 8 write_word) ∷ [] else []

  abbrev old : Piece
  old = piece (space.Scratch 0) 0 8 (spelled 8 (word (bytes_at (filled (space.Slot (own 5))) 0 8) 0))

  abbrev to_other : Piece
  to_other = piece (space.Slot (own 6)) 40 16 (bytes_at (s (space.Descriptor other)) 0 16)

  abbrev to_same : Bool → List Piece
  to_same b = if b then piece (space.Slot (own 6)) 40 16 (bytes_at (s (space.Descriptor same)) 0 16) ∷ [] else []

  abbrev all : Bool → List Piece
  all b = zeros ∷ low ∷ compare ∷ (turned b ++ old ∷ to_other ∷ to_same b)

  abbrev draft0 : Draft
  draft0 = clear (own 5)

  abbrev draft1 : Draft
  draft1 = fill_low (site.Cell left) (own 5)

  abbrev draft2 : Draft
  draft2 = compare_low (site.Cell right) (own 3)

  abbrev draft3 : Draft
  draft3 = swap_in 0 (field (own 5) 0 8) write_word

  abbrev draft4 : Draft
  draft4 = choose other (own 6)

  abbrev draft5 : Draft
  draft5 = turnable (site.Descriptor same) (field (own 6) 40 16) 16 0

  -- with this at slot 3
  abbrev with_swap : Draft → List Draft
  with_swap d3 = draft0 ∷ draft1 ∷ draft2 ∷ d3 ∷ draft4 ∷ draft5 ∷ []

  -- with a NOOP in place of the CAS
  abbrev plain3 : Draft
  plain3 = without_cas draft3

  abbrev plain_ds : List Draft
  plain_ds = map without_cas ds

  abbrev chose : List Piece
  chose = zeros ∷ low ∷ compare ∷ to_other ∷ []

  module _ (whole : IsWhole s) where
    sized : AreSized (zeros ∷ low ∷ compare ∷ [])
    sized = (length_at _ 0 2 8 (whole.cells (Num 0)).0 (omega arith), (length_at _ 2 6 8 (whole.cells left).0 (omega arith), (length_at _ 2 6 8 (whole.cells right).0 (omega arith), tt)))

    -- whatever stands at slot 3
    module _ (d3 : Draft) (primed : Primed ds (own 0) (with_swap d3) s) where
      -- the fills
      fills : (us : List Put) → runs chain (own 3) (d3 ∷ draft4 ∷ draft5 ∷ []) filled ≡ Went us [] → runs chain (own 0) (with_swap d3) s ≡ Went (puts_of (zeros ∷ low ∷ compare ∷ []) ++ us) []
      fills us h =
          goes_on chain (own 0) draft0 s (draft1 ∷ draft2 ∷ d3 ∷ draft4 ∷ draft5 ∷ []) _ _ _ _ (steps_fill chain (own 0) draft0 s (opcode_kept (writes_slot ds (own 0)) draft0 _ primed.0 tt refl) refl refl refl refl) (goes_on chain (own 1) draft1 (placed s (puts_of (zeros ∷ []))) (draft2 ∷ d3 ∷ draft4 ∷ draft5 ∷ []) _ _ _ _ (steps_fill chain (own 1) draft1 (placed s (puts_of (zeros ∷ []))) (opcode_kept (writes_slot ds (own 1)) draft1 _ primed.1.0 tt refl) refl refl (cell_is_source left) refl) (goes_on chain (own 2) draft2 (placed s (puts_of (zeros ∷ low ∷ []))) (d3 ∷ draft4 ∷ draft5 ∷ []) _ _ _ _ (steps_fill chain (own 2) draft2 (placed s (puts_of (zeros ∷ low ∷ []))) (opcode_kept (writes_slot ds (own 2)) draft2 _ primed.1.1.0 tt refl) refl refl (cell_is_source right) refl) h))

      -- the draft that compares, and the one that is turned
      comparing : IsPrimed (writes_slot ds (own 3)) d3 (s (space.Slot (own 3)))
      comparing = primed.1.1.1.0

      turning : IsPrimed (writes_slot ds (own 5)) draft5 (s (space.Slot (own 5)))
      turning = primed.1.1.1.1.1.0

      reads3 : (o n : ℕ) → clean (space.Slot (own 3)) o n (zeros ∷ low ∷ compare ∷ []) ≡ true → bytes_at (filled (space.Slot (own 3))) o n ≡ seen (space.Slot (own 3)) o n (zeros ∷ low ∷ compare ∷ []) (bytes_at (s (space.Slot (own 3))) o n)
      reads3 o n = reads (space.Slot (own 3)) 64 o n (zeros ∷ low ∷ compare ∷ []) s sized refl comparing.len

      reads5 : (o n : ℕ) → clean (space.Slot (own 5)) o n (zeros ∷ low ∷ compare ∷ []) ≡ true → bytes_at (filled (space.Slot (own 5))) o n ≡ seen (space.Slot (own 5)) o n (zeros ∷ low ∷ compare ∷ []) (bytes_at (s (space.Slot (own 5))) o n)
      reads5 o n = reads (space.Slot (own 5)) 64 o n (zeros ∷ low ∷ compare ∷ []) s sized refl turning.len

    module _ (primed : Primed ds (own 0) ds s) where
      cas_is : opcode_in (filled (space.Slot (own 3))) ≡ Cas
      cas_is =
          opcode_is Cas _ (reads3 draft3 primed 0 2 refl ∙ (bytes_kept (writes_slot ds (own 3)) draft3 _ (comparing draft3 primed) 0 2 refl (omega arith) ∙ draft_opcode draft3)) tt

      swapped_in : second_in (filled (space.Slot (own 3))) ≡ write_word
      swapped_in =
          word_is 8 write_word 48 _ (reads3 draft3 primed 48 8 refl ∙ (bytes_kept (writes_slot ds (own 3)) draft3 _ (comparing draft3 primed) 48 8 refl (omega arith) ∙ draft_second draft3)) (omega arith)

      operand : first_in (filled (space.Slot (own 3))) ≡ low_48 (word_of s right)
      unfolding spelled
      operand =
          operand_filled _ compare.bytes (reads3 draft3 primed 40 2 refl ∙ bytes_kept (writes_slot ds (own 3)) draft3 _ (comparing draft3 primed) 40 2 refl (omega arith)) (reads3 draft3 primed 42 6 refl) ∙ low_of (s (space.Cell right)) (whole.cells right).1

      cleared : bytes_at (filled (space.Slot (own 5))) 0 2 ≡ 0 ∷ 0 ∷ []
      cleared = reads5 draft3 primed 0 2 refl ∙ clear_bytes _ (whole.numbers 0)

      named : word (bytes_at (filled (space.Slot (own 5))) 0 8) 0 ≡ low_48 (word_of s left)
      named = word_filled _ low.bytes cleared (reads5 draft3 primed 2 6 refl) ∙ low_of (s (space.Cell left)) (whole.cells left).1

      abbrev test : Bool
      test = low_48 (word_of s left) == low_48 (word_of s right)

      compared : (b : Bool) → test ≡ b → (word (bytes_at (filled (space.Slot (own 5))) 0 8) 0 == first_in (filled (space.Slot (own 3)))) ≡ b
      compared b e = rw (named, operand) e

      all_sized : (b : Bool) → AreSized (all b)
      all_sized true = (sized.0, (sized.1.0, (sized.1.1.0, (length-spelled 8 write_word, (length-spelled 8 (word (bytes_at (filled (space.Slot (own 5))) 0 8) 0), (length_at _ 0 16 16 (whole.descriptors other) (omega arith), (length_at _ 0 16 16 (whole.descriptors same) (omega arith), tt)))))))
      all_sized false = (sized.0, (sized.1.0, (sized.1.1.0, (length-spelled 8 (word (bytes_at (filled (space.Slot (own 5))) 0 8) 0), (length_at _ 0 16 16 (whole.descriptors other) (omega arith), tt)))))

      filled_long : length (filled (space.Slot (own 5))) ≡ 64
      filled_long = length_placed (space.Slot (own 5)) 64 (zeros ∷ low ∷ compare ∷ []) s sized refl (turning draft3 primed).len

      -- the draft that compares, and the two behind it
      runs_true : test ≡ true → runs chain (own 0) ds s ≡ Went (puts_of (all true)) []
      runs_true e =
          let comparing_step : step chain (own 3) draft3 filled ≡ Went (puts_of (turned true ++ old ∷ [])) [] = steps_cas chain (own 3) draft3 filled true (compared true e) cas_is refl refl ∙ ap (λ (w : ℕ). Went (put (space.Slot (own 5)) 0 (spelled 8 w) ∷ put_of old ∷ []) []) swapped_in in
          let before : List Piece = zeros ∷ low ∷ compare ∷ (turned true ++ old ∷ []) in
          let before_turned : List Piece = zeros ∷ low ∷ compare ∷ (turned true ++ old ∷ to_other ∷ []) in
          let later : AreSized (turned true ++ old ∷ to_other ∷ []) = (length-spelled 8 write_word, (length-spelled 8 (word (bytes_at (filled (space.Slot (own 5))) 0 8) 0), (length_at _ 0 16 16 (whole.descriptors other) (omega arith), tt))) in
          let opcode : opcode_in (placed s (puts_of before_turned) (space.Slot (own 5))) ≡ Write = opcode_to_write _ (reads (space.Slot (own 5)) 64 0 8 (turned true ++ old ∷ to_other ∷ []) filled later refl filled_long refl) in
          fills draft3 primed _ (goes_on chain (own 3) draft3 filled (draft4 ∷ draft5 ∷ []) _ _ _ _ comparing_step (goes_on chain (own 4) draft4 (placed s (puts_of before)) (draft5 ∷ []) _ _ _ _ (steps_fill chain (own 4) draft4 (placed s (puts_of before)) (opcode_kept (writes_slot ds (own 4)) draft4 _ primed.1.1.1.1.0 tt refl) refl refl refl refl) (goes_on chain (own 5) draft5 (placed s (puts_of before_turned)) [] _ _ _ _ (steps_fill chain (own 5) draft5 (placed s (puts_of before_turned)) opcode refl refl refl refl) refl)))

      runs_false : test ≡ false → runs chain (own 0) ds s ≡ Went (puts_of (all false)) []
      runs_false e =
          let before : List Piece = zeros ∷ low ∷ compare ∷ old ∷ [] in
          let its : AreSized (all false) = all_sized false in
          let opcode : opcode_in (placed s (puts_of (all false)) (space.Slot (own 5))) ≡ Noop = opcode_clear _ (reads (space.Slot (own 5)) 64 0 2 (all false) s its refl (turning draft3 primed).len refl ∙ clear_bytes _ (whole.numbers 0)) in
          fills draft3 primed _ (goes_on chain (own 3) draft3 filled (draft4 ∷ draft5 ∷ []) _ _ _ _ (steps_cas chain (own 3) draft3 filled false (compared false e) cas_is refl refl) (goes_on chain (own 4) draft4 (placed s (puts_of before)) (draft5 ∷ []) _ _ _ _ (steps_fill chain (own 4) draft4 (placed s (puts_of before)) (opcode_kept (writes_slot ds (own 4)) draft4 _ primed.1.1.1.1.0 tt refl) refl refl refl refl) (goes_on chain (own 5) draft5 (placed s (puts_of (all false))) [] _ _ _ _ (steps_noop chain (own 5) draft5 (placed s (puts_of (all false))) opcode) refl)))

      last_long : length (s (space.Slot (own 6))) ≡ 64
      last_long = primed.1.1.1.1.1.1

      spaces_true : (p : Space) → is_own (own 0) 6 p ≡ false → placed s (puts_of (all true)) p ≡ chosen (own 6) same s p
      spaces_true p h =
          let other_long : length to_other.bytes ≡ 16 = length_at _ 0 16 16 (whole.descriptors other) (omega arith) in
          let same_long : length (bytes_at (s (space.Descriptor same)) 0 16) ≡ 16 = length_at _ 0 16 16 (whole.descriptors same) (omega arith) in
          let last : length (s (space.Slot (own 6))) ≡ 64 = last_long in
          placed_outer (own 0) 6 (puts_of (all true)) s p h ∙ (placed_again s (own 6) 40 to_other.bytes (bytes_at (s (space.Descriptor same)) 0 16) p (other_long ∙ sym same_long) (omega arith) ∙ ap (λ (b : List ℕ). with_put s (put (space.Slot (own 6)) 40 b) p) (all_bytes _ 16 (whole.descriptors same)))

      spaces_false : (p : Space) → is_own (own 0) 6 p ≡ false → placed s (puts_of (all false)) p ≡ chosen (own 6) other s p
      spaces_false p h =
          placed_outer (own 0) 6 (puts_of (all false)) s p h ∙ ap (λ (b : List ℕ). with_put s (put (space.Slot (own 6)) 40 b) p) (all_bytes _ 16 (whole.descriptors other))

      meets : HasRoom s → Meets (own 0) ds s (runs chain (own 0) ds s) (tests_low left right same other (own 6) chain s)
      meets room =
          elim test as (λ b. test ≡ b → Meets (own 0) ds s (runs chain (own 0) ds s) (Leaves (chosen (own 6) (if b then same else other) s) [])) [
            | true ↦ λ e. meets_went chain (own 0) ds s (all true) [] _ (chosen (own 6) same s) (runs_true e) (all_sized true) refl refl room primed spaces_true
            | false ↦ λ e. meets_went chain (own 0) ds s (all false) [] _ (chosen (own 6) other s) (runs_false e) (all_sized false) refl refl room primed spaces_false
          ] refl

    module _ (room : HasRoom s) (primed : Primed plain_ds (own 0) plain_ds s) where
      stays3 : opcode_in (filled (space.Slot (own 3))) ≡ Noop
      stays3 = opcode_is Noop _ (reads3 plain3 primed 0 2 refl ∙ (bytes_kept (writes_slot ds (own 3)) plain3 _ (comparing plain3 primed) 0 2 refl (omega arith) ∙ draft_opcode plain3)) tt

      chose_sized : AreSized chose
      chose_sized = (sized.0, (sized.1.0, (sized.1.1.0, (length_at _ 0 16 16 (whole.descriptors other) (omega arith), tt))))

      stays5 : opcode_in (placed s (puts_of chose) (space.Slot (own 5))) ≡ Noop
      stays5 = opcode_clear _ (reads (space.Slot (own 5)) 64 0 2 chose s chose_sized refl (turning plain3 primed).len refl ∙ clear_bytes _ (whole.numbers 0))

      runs_plainly : runs chain (own 0) plain_ds s ≡ Went (puts_of chose) []
      runs_plainly =
          fills plain3 primed _ (goes_on chain (own 3) plain3 filled (draft4 ∷ draft5 ∷ []) _ _ _ _ (steps_noop chain (own 3) plain3 filled stays3) (goes_on chain (own 4) draft4 filled (draft5 ∷ []) _ _ _ _ (steps_fill chain (own 4) draft4 filled (opcode_kept (writes_slot ds (own 4)) draft4 _ primed.1.1.1.1.0 tt refl) refl refl refl refl) (goes_on chain (own 5) draft5 (placed s (puts_of chose)) [] _ _ _ _ (steps_noop chain (own 5) draft5 (placed s (puts_of chose)) stays5) refl)))

      pub meets_plainly : Meets (own 0) plain_ds s (runs chain (own 0) plain_ds s) (jumps other (own 6) chain s)
      meets_plainly =
          meets_went chain (own 0) plain_ds s chose [] _ (chosen (own 6) other s) runs_plainly chose_sized refl refl room primed (λ p k. placed_outer (own 0) 6 (puts_of chose) s p k ∙ ap (λ (b : List ℕ). with_put s (put (space.Slot (own 6)) 40 b) p) (all_bytes _ 16 (whole.descriptors other)))

pub test48_does : (left right : Cell) (same other : ℕ) → Does (own 0) (drafts_of (test48 own left right same other)) (tests_low left right same other (own 6))
test48_does left right same other chain bytes s whole room primed = meets chain s left right same other whole primed room

test48_opcodes : (left right : Cell) (same other : ℕ) → tells (own 0) (test48 own left right same other) ≡ true
unfolding number spelled opcode_named
test48_opcodes left right same other = refl

pub test48_suits : (left right : Cell) (same other : ℕ) → suiting [] (own 0) (drafts_of (test48 own left right same other)) ≡ true
unfolding number spelled opcode_named
test48_suits left right same other = refl

pub test48_is : (left right : Cell) (same other : ℕ) → IsTemplate (λ (slot : ℕ → SlotRef). test48 slot left right same other) (λ (slot : ℕ → SlotRef). tests_low left right same other (slot 6)) 4 6 1
test48_is left right same other =
    record {
      segments_are = λ slot. refl;
      drafts_are = λ slot. refl;
      filled = λ slot. refl;
      one_event = λ slot. refl;
      apart = refl;
      stays = refl;
      renames = λ ring first. refl;
      renames_segments = λ ring first. refl;
      same = λ ring first chain s. same_chosen ring first s (own 6) _ [];
      tame = λ ring first. tame_tests_low (slot_ref ring first) 6 left right same other;
      does = test48_does left right same other;
      opcodes = test48_opcodes left right same other;
    }
