-- Test64 chooses by all 64 bits.
use Rattle.std.proofs.Common.{◌≡◌, ℕ, ◌/◌, ◌^◌, Bool, true, false, ◌++◌, List, [], ◌∷◌, length, take, refl, sym, ap, ◌∙◌, arith, map}
use Rattle.std.specs.Prelude.{◌==◌, if◌then◌else◌}
use Rattle.std.proofs.lemmas.Bool.{eqb-true, eqb-false}
use Rattle.redn_words.specs.declared.types.Opcode.TheVariants.{Noop, Write, Cas}
use Rattle.redn_words.specs.Words.{bytes_at, word, spelled, low_48, number}
use Rattle.redn_words.proofs.Numbers.{length-spelled}
use Rattle.redn_kernel.specs.declared.types.Cell.{Cell}
use Rattle.redn_kernel.specs.declared.types.Cell.TheVariants.{Num}
use Rattle.redn_segment.specs.declared.types.Draft.{Draft}
use Rattle.redn_segment.specs.declared.types.SlotRef.{SlotRef}
use Rattle.redn_segment.specs.declared.types.Space.{Space}
use Rattle.redn_segment.specs.declared.types.Space.TheVariants as space
use Rattle.redn_segment.specs.declared.types.Site.TheVariants as site
use Rattle.redn_segment.specs.Building.{drafts_of}
use Rattle.redn_segment.specs.Drafts.{field, swap_in, turnable, clear, fill_low, fill_high, compare_low, compare_high, choose, write_word, cas_word}
use Rattle.redn_segment.specs.Plain.{Bytes, View, Put, put, with_put, placed, Went, runs, opcode_in, first_in, second_in}
use Rattle.redn_segment.specs.Primed.{IsWhole, HasRoom, IsPrimed, Primed, writes_slot}
use Rattle.redn_segment.specs.Effects.{word_of, Effect, Leaves, Meets, tests_all, chosen, jumps}
use Rattle.redn_segment.proofs.Quiet.{cell_is_source}
use Rattle.redn_segment.proofs.Steps.{steps_noop, steps_fill, steps_cas, goes_on}
use Rattle.redn_segment.proofs.Kept.{opcode_kept, bytes_kept, opcode_is, word_is, draft_opcode, draft_second}
use Rattle.redn_segment.proofs.Halves.{same_word}
use Rattle.redn_segment.proofs.Filled.{length_at, all_bytes, clear_bytes, low_of, high_of, opcode_clear, opcode_to_write, opcode_to_cas, word_filled, operand_filled}
use Rattle.redn_segment.proofs.Pieces.{length_placed, Piece, piece, put_of, puts_of, AreSized, fit, clean, seen, reads}
use Rattle.redn_segment.proofs.Meeting.{placed_outer, placed_again, meets_went}
use Rattle.redn_segment.proofs.Moving.{own, slot_ref}
use Rattle.redn_segment.proofs.SameEffects.{same_chosen}
use Rattle.redn_segment.proofs.Tame.{tame_tests_all}
use Rattle.redn_words.specs.Requests.{opcode_named}
use Rattle.redn_segment.proofs.Telling.{tells}
use Rattle.redn_segment.proofs.Appending.{IsTemplate}
use Rattle.redn_segment.proofs.Suiting.{suiting}
use Rattle.redn_cas.specs.Tests.{test64}
use Rattle.redn_cas.specs.WithoutCas.{without_cas}

module _ (chain : View) (s : Bytes) (left right : Cell) (same other : ℕ) where
  abbrev ds : List Draft
  ds = drafts_of (test64 own left right same other)

  abbrev slot : ℕ → Space
  slot k = space.Slot (own k)

  abbrev zeros : List ℕ
  zeros = bytes_at (s (space.Cell (Num 0))) 0 2

  abbrev low : Cell → List ℕ
  low c = bytes_at (s (space.Cell c)) 2 6

  abbrev high : Cell → List ℕ
  high c = bytes_at (s (space.Cell c)) 0 6

  abbrev fills : List Piece
  fills =
      piece (slot 8) 0 2 zeros ∷ piece (slot 8) 2 6 (low left) ∷ piece (slot 6) 42 6 (low right) ∷ piece (slot 9) 0 2 zeros ∷ piece (slot 9) 2 6 (high left) ∷ piece (slot 8) 42 6 (high right) ∷ []

  abbrev filled : Bytes
  filled = placed s (puts_of fills)

  abbrev draft0 : Draft
  draft0 = clear (own 8)

  abbrev draft1 : Draft
  draft1 = fill_low (site.Cell left) (own 8)

  abbrev draft2 : Draft
  draft2 = compare_low (site.Cell right) (own 6)

  abbrev draft3 : Draft
  draft3 = clear (own 9)

  abbrev draft4 : Draft
  draft4 = fill_high (site.Cell left) (own 9)

  abbrev draft5 : Draft
  draft5 = compare_high (site.Cell right) (own 8)

  abbrev draft6 : Draft
  draft6 = swap_in 0 (field (own 8) 0 8) cas_word

  abbrev draft7 : Draft
  draft7 = choose other (own 10)

  abbrev draft8 : Draft
  draft8 = turnable (site.Scratch 0) (field (own 9) 0 8) 8 write_word

  abbrev draft9 : Draft
  draft9 = turnable (site.Descriptor same) (field (own 10) 40 16) 16 0

  abbrev later : Draft → List Draft
  later d6 = d6 ∷ draft7 ∷ draft8 ∷ draft9 ∷ []

  -- with this at slot 6
  abbrev with_swap : Draft → List Draft
  with_swap d6 = draft0 ∷ draft1 ∷ draft2 ∷ draft3 ∷ draft4 ∷ draft5 ∷ later d6

  -- with a NOOP in place of the CAS
  abbrev plain6 : Draft
  plain6 = without_cas draft6

  abbrev plain_ds : List Draft
  plain_ds = map without_cas ds

  -- after the first n pieces
  abbrev after : ℕ → List Piece → Bytes
  after n us = placed s (puts_of (take n us))

  module _ (whole : IsWhole s) (room : HasRoom s) where
    two : length zeros ≡ 2
    two = length_at _ 0 2 8 (whole.cells (Num 0)).0 (omega arith)

    low_long : (c : Cell) → length (low c) ≡ 6
    low_long c = length_at _ 2 6 8 (whole.cells c).0 (omega arith)

    high_long : (c : Cell) → length (high c) ≡ 6
    high_long c = length_at _ 0 6 8 (whole.cells c).0 (omega arith)

    sized : AreSized fills
    sized = (two, (low_long left, (low_long right, (two, (high_long left, (high_long right, tt))))))

    reads_filled : (k : ℕ) → length (s (slot k)) ≡ 64 → fit (slot k) 64 fills ≡ true → (o n : ℕ) → clean (slot k) o n fills ≡ true → bytes_at (filled (slot k)) o n ≡ seen (slot k) o n fills (bytes_at (s (slot k)) o n)
    reads_filled k long f o n = reads (slot k) 64 o n fills s sized f long

    -- whatever stands at slot 6
    module _ (d6 : Draft) (primed : Primed ds (own 0) (with_swap d6) s) where
      abbrev primed6_on : Primed ds (own 6) (later d6) s
      primed6_on = primed.1.1.1.1.1.1

      primed6 : IsPrimed (writes_slot ds (own 6)) d6 (s (slot 6))
      primed6 = primed6_on.0

      primed8 : IsPrimed (writes_slot ds (own 8)) draft8 (s (slot 8))
      primed8 = primed6_on.1.1.0

      primed9 : IsPrimed (writes_slot ds (own 9)) draft9 (s (slot 9))
      primed9 = primed6_on.1.1.1.0

      last_long : length (s (slot 10)) ≡ 64
      last_long = primed6_on.1.1.1.1

      runs_fills : (us : List Put) → runs chain (own 6) (later d6) filled ≡ Went us [] → runs chain (own 0) (with_swap d6) s ≡ Went (puts_of fills ++ us) []
      runs_fills us h =
          goes_on chain (own 0) draft0 s (draft1 ∷ draft2 ∷ draft3 ∷ draft4 ∷ draft5 ∷ (later d6)) _ _ _ _ (steps_fill chain (own 0) draft0 s (opcode_kept (writes_slot ds (own 0)) draft0 _ primed.0 tt refl) refl refl refl refl) (goes_on chain (own 1) draft1 (after 1 fills) (draft2 ∷ draft3 ∷ draft4 ∷ draft5 ∷ (later d6)) _ _ _ _ (steps_fill chain (own 1) draft1 (after 1 fills) (opcode_kept (writes_slot ds (own 1)) draft1 _ primed.1.0 tt refl) refl refl (cell_is_source left) refl) (goes_on chain (own 2) draft2 (after 2 fills) (draft3 ∷ draft4 ∷ draft5 ∷ (later d6)) _ _ _ _ (steps_fill chain (own 2) draft2 (after 2 fills) (opcode_kept (writes_slot ds (own 2)) draft2 _ primed.1.1.0 tt refl) refl refl (cell_is_source right) refl) (goes_on chain (own 3) draft3 (after 3 fills) (draft4 ∷ draft5 ∷ (later d6)) _ _ _ _ (steps_fill chain (own 3) draft3 (after 3 fills) (opcode_kept (writes_slot ds (own 3)) draft3 _ primed.1.1.1.0 tt refl) refl refl refl refl) (goes_on chain (own 4) draft4 (after 4 fills) (draft5 ∷ (later d6)) _ _ _ _ (steps_fill chain (own 4) draft4 (after 4 fills) (opcode_kept (writes_slot ds (own 4)) draft4 _ primed.1.1.1.1.0 tt refl) refl refl (cell_is_source left) refl) (goes_on chain (own 5) draft5 (after 5 fills) (later d6) _ _ _ _ (steps_fill chain (own 5) draft5 (after 5 fills) (opcode_kept (writes_slot ds (own 5)) draft5 _ primed.1.1.1.1.1.0 tt refl) refl refl (cell_is_source right) refl) h)))))

      clear8 : bytes_at (filled (slot 8)) 0 2 ≡ 0 ∷ 0 ∷ []
      clear8 = reads_filled 8 primed8.len refl 0 2 refl ∙ clear_bytes _ (whole.numbers 0)

      clear9 : bytes_at (filled (slot 9)) 0 2 ≡ 0 ∷ 0 ∷ []
      clear9 = reads_filled 9 primed9.len refl 0 2 refl ∙ clear_bytes _ (whole.numbers 0)

    module _ (primed : Primed ds (own 0) ds s) where
      op6 : opcode_in (filled (slot 6)) ≡ Cas
      op6 = opcode_is Cas _ (reads_filled 6 (primed6 draft6 primed).len refl 0 2 refl ∙ (bytes_kept (writes_slot ds (own 6)) draft6 _ (primed6 draft6 primed) 0 2 refl (omega arith) ∙ draft_opcode draft6)) tt

      new6 : second_in (filled (slot 6)) ≡ cas_word
      new6 = word_is 8 cas_word 48 _ (reads_filled 6 (primed6 draft6 primed).len refl 48 8 refl ∙ (bytes_kept (writes_slot ds (own 6)) draft6 _ (primed6 draft6 primed) 48 8 refl (omega arith) ∙ draft_second draft6)) (omega arith)

      operand6 : first_in (filled (slot 6)) ≡ low_48 (word_of s right)
      unfolding spelled
      operand6 = operand_filled _ (low right) (reads_filled 6 (primed6 draft6 primed).len refl 40 2 refl ∙ bytes_kept (writes_slot ds (own 6)) draft6 _ (primed6 draft6 primed) 40 2 refl (omega arith)) (reads_filled 6 (primed6 draft6 primed).len refl 42 6 refl) ∙ low_of (s (space.Cell right)) (whole.cells right).1

      abbrev word8 : ℕ
      word8 = word (bytes_at (filled (slot 8)) 0 8) 0

      abbrev word9 : ℕ
      word9 = word (bytes_at (filled (slot 9)) 0 8) 0

      word8_is : word8 ≡ low_48 (word_of s left)
      word8_is = word_filled _ (low left) (clear8 draft6 primed) (reads_filled 8 (primed8 draft6 primed).len refl 2 6 refl) ∙ low_of (s (space.Cell left)) (whole.cells left).1

      word9_is : word9 ≡ word_of s left / 2 ^ 16
      word9_is = word_filled _ (high left) (clear9 draft6 primed) (reads_filled 9 (primed9 draft6 primed).len refl 2 6 refl) ∙ high_of (s (space.Cell left)) (whole.cells left).1

      abbrev same_low : Bool
      same_low = low_48 (word_of s left) == low_48 (word_of s right)

      abbrev same_high : Bool
      same_high = word_of s left / 2 ^ 16 == word_of s right / 2 ^ 16

      compares8 : (b : Bool) → same_low ≡ b → (word8 == first_in (filled (slot 6))) ≡ b
      compares8 b h = rw (word8_is, operand6) h

      abbrev old8 : Piece
      old8 = piece (space.Scratch 0) 0 8 (spelled 8 word8)

      abbrev old9 : Piece
      old9 = piece (space.Scratch 0) 0 8 (spelled 8 word9)

      abbrev to_other : Piece
      to_other = piece (slot 10) 40 16 (bytes_at (s (space.Descriptor other)) 0 16)

      abbrev to_same : Piece
      to_same = piece (slot 10) 40 16 (bytes_at (s (space.Descriptor same)) 0 16)

      other_long : length to_other.bytes ≡ 16
      other_long = length_at _ 0 16 16 (whole.descriptors other) (omega arith)

      same_long : length to_same.bytes ≡ 16
      same_long = length_at _ 0 16 16 (whole.descriptors same) (omega arith)

      -- the low bits differ
      abbrev low_differs : List Piece
      low_differs = fills ++ old8 ∷ to_other ∷ []

      runs_low_differs : same_low ≡ false → runs chain (own 0) ds s ≡ Went (puts_of low_differs) []
      runs_low_differs h =
          let after_choice : Bytes = placed s (puts_of low_differs) in
          runs_fills draft6 primed _ (goes_on chain (own 6) draft6 filled (draft7 ∷ draft8 ∷ draft9 ∷ []) _ _ _ _ (steps_cas chain (own 6) draft6 filled false (compares8 false h) op6 refl refl) (goes_on chain (own 7) draft7 (placed s (puts_of (fills ++ old8 ∷ []))) (draft8 ∷ draft9 ∷ []) _ _ _ _ (steps_fill chain (own 7) draft7 (placed s (puts_of (fills ++ old8 ∷ []))) (opcode_kept (writes_slot ds (own 7)) draft7 _ (primed6_on draft6 primed).1.0 tt refl) refl refl refl refl) (goes_on chain (own 8) draft8 after_choice (draft9 ∷ []) _ _ _ _ (steps_noop chain (own 8) draft8 after_choice (opcode_clear _ (clear8 draft6 primed))) (goes_on chain (own 9) draft9 after_choice [] _ _ _ _ (steps_noop chain (own 9) draft9 after_choice (opcode_clear _ (clear9 draft6 primed))) refl))))

      -- the low bits are equal
      abbrev turned8 : List Piece
      turned8 = piece (slot 8) 0 8 (spelled 8 cas_word) ∷ old8 ∷ to_other ∷ []

      abbrev low_equal : List Piece
      low_equal = fills ++ turned8

      abbrev after_turn : Bytes
      after_turn = placed s (puts_of low_equal)

      turned8_sized : AreSized turned8
      turned8_sized = (length-spelled 8 cas_word, (length-spelled 8 word8, (other_long, tt)))

      low_equal_sized : AreSized low_equal
      low_equal_sized = (two, (low_long left, (low_long right, (two, (high_long left, (high_long right, turned8_sized))))))

      op8 : opcode_in (after_turn (slot 8)) ≡ Cas
      op8 = opcode_to_cas _ (reads (slot 8) 64 0 8 turned8 filled turned8_sized refl (length_placed (slot 8) 64 fills s sized refl (primed8 draft6 primed).len) refl)

      new8 : second_in (after_turn (slot 8)) ≡ write_word
      new8 = word_is 8 write_word 48 _ (reads (slot 8) 64 48 8 low_equal s low_equal_sized refl (primed8 draft6 primed).len refl ∙ (bytes_kept (writes_slot ds (own 8)) draft8 _ (primed8 draft6 primed) 48 8 refl (omega arith) ∙ draft_second draft8)) (omega arith)

      operand8 : first_in (after_turn (slot 8)) ≡ word_of s right / 2 ^ 16
      unfolding spelled
      operand8 = operand_filled _ (high right) (reads (slot 8) 64 40 2 low_equal s low_equal_sized refl (primed8 draft6 primed).len refl ∙ bytes_kept (writes_slot ds (own 8)) draft8 _ (primed8 draft6 primed) 40 2 refl (omega arith)) (reads (slot 8) 64 42 6 low_equal s low_equal_sized refl (primed8 draft6 primed).len refl) ∙ high_of (s (space.Cell right)) (whole.cells right).1

      compares9 : (b : Bool) → same_high ≡ b → (word9 == first_in (after_turn (slot 8))) ≡ b
      compares9 b h = rw (word9_is, operand8) h

      runs_turned : (us : List Put) → same_low ≡ true → runs chain (own 8) (draft8 ∷ draft9 ∷ []) after_turn ≡ Went us [] → runs chain (own 0) ds s ≡ Went (puts_of low_equal ++ us) []
      runs_turned us h r =
          runs_fills draft6 primed _ (goes_on chain (own 6) draft6 filled (draft7 ∷ draft8 ∷ draft9 ∷ []) _ _ _ _ (steps_cas chain (own 6) draft6 filled true (compares8 true h) op6 refl refl ∙ ap (λ (w : ℕ). Went (put (slot 8) 0 (spelled 8 w) ∷ put_of old8 ∷ []) []) new6) (goes_on chain (own 7) draft7 (after 8 low_equal) (draft8 ∷ draft9 ∷ []) _ _ _ _ (steps_fill chain (own 7) draft7 (after 8 low_equal) (opcode_kept (writes_slot ds (own 7)) draft7 _ (primed6_on draft6 primed).1.0 tt refl) refl refl refl refl) r))

      abbrev high_differs : List Piece
      high_differs = low_equal ++ old9 ∷ []

      high_differs_sized : AreSized high_differs
      high_differs_sized = (two, (low_long left, (low_long right, (two, (high_long left, (high_long right, (length-spelled 8 cas_word, (length-spelled 8 word8, (other_long, (length-spelled 8 word9, tt))))))))))

      runs_high_differs : same_low ≡ true → same_high ≡ false → runs chain (own 0) ds s ≡ Went (puts_of high_differs) []
      runs_high_differs h k =
          let after_compare : Bytes = placed s (puts_of high_differs) in
          runs_turned _ h (goes_on chain (own 8) draft8 after_turn (draft9 ∷ []) _ _ _ _ (steps_cas chain (own 8) draft8 after_turn false (compares9 false k) op8 refl refl) (goes_on chain (own 9) draft9 after_compare [] _ _ _ _ (steps_noop chain (own 9) draft9 after_compare (opcode_clear _ (clear9 draft6 primed))) refl))

      abbrev equal : List Piece
      equal = low_equal ++ piece (slot 9) 0 8 (spelled 8 write_word) ∷ old9 ∷ to_same ∷ []

      equal_sized : AreSized equal
      equal_sized = (two, (low_long left, (low_long right, (two, (high_long left, (high_long right, (length-spelled 8 cas_word, (length-spelled 8 word8, (other_long, (length-spelled 8 write_word, (length-spelled 8 word9, (same_long, tt))))))))))))

      runs_equal : same_low ≡ true → same_high ≡ true → runs chain (own 0) ds s ≡ Went (puts_of equal) []
      runs_equal h k =
          let turned9 : List Piece = piece (slot 9) 0 8 (spelled 8 write_word) ∷ old9 ∷ [] in
          let turned9_sized : AreSized turned9 = (length-spelled 8 write_word, (length-spelled 8 word9, tt)) in
          let after_compare : Bytes = placed s (puts_of (low_equal ++ turned9)) in
          let op9 : opcode_in (after_compare (slot 9)) ≡ Write = opcode_to_write _ (reads (slot 9) 64 0 8 turned9 after_turn turned9_sized refl (length_placed (slot 9) 64 low_equal s low_equal_sized refl (primed9 draft6 primed).len) refl) in
          runs_turned _ h (goes_on chain (own 8) draft8 after_turn (draft9 ∷ []) _ _ _ _ (steps_cas chain (own 8) draft8 after_turn true (compares9 true k) op8 refl refl ∙ ap (λ (w : ℕ). Went (put (slot 9) 0 (spelled 8 w) ∷ put_of old9 ∷ []) []) new8) (goes_on chain (own 9) draft9 after_compare [] _ _ _ _ (steps_fill chain (own 9) draft9 after_compare op9 refl refl refl refl) refl))

      to_the_other : (p : Space) → placed s (put (slot 10) 40 to_other.bytes ∷ []) p ≡ chosen (own 10) other s p
      to_the_other p = ap (λ (b : List ℕ). with_put s (put (slot 10) 40 b) p) (all_bytes _ 16 (whole.descriptors other))

      to_the_same : (p : Space) → placed s (put (slot 10) 40 to_other.bytes ∷ put (slot 10) 40 to_same.bytes ∷ []) p ≡ chosen (own 10) same s p
      to_the_same p =
          let last : length (s (slot 10)) ≡ 64 = last_long draft6 primed in
          let sixteen : length to_other.bytes ≡ 16 = other_long in
          placed_again s (own 10) 40 to_other.bytes to_same.bytes p (other_long ∙ sym same_long) (omega arith) ∙ ap (λ (b : List ℕ). with_put s (put (slot 10) 40 b) p) (all_bytes _ 16 (whole.descriptors same))

      abbrev chooses : ℕ → Effect
      chooses ring = Leaves (chosen (own 10) ring s) []

      abbrev Chooses : ℕ → Type 0
      Chooses ring = Meets (own 0) ds s (runs chain (own 0) ds s) (chooses ring)

      when_low_differs : same_low ≡ false → Chooses other
      when_low_differs h =
          meets_went chain (own 0) ds s low_differs [] _ (chosen (own 10) other s) (runs_low_differs h) (two, (low_long left, (low_long right, (two, (high_long left, (high_long right, (length-spelled 8 word8, (other_long, tt)))))))) refl refl room primed (λ p m. placed_outer (own 0) 10 (puts_of low_differs) s p m ∙ to_the_other p)

      when_high_differs : same_low ≡ true → same_high ≡ false → Chooses other
      when_high_differs h k =
          meets_went chain (own 0) ds s high_differs [] _ (chosen (own 10) other s) (runs_high_differs h k) high_differs_sized refl refl room primed (λ p m. placed_outer (own 0) 10 (puts_of high_differs) s p m ∙ to_the_other p)

      when_equal : same_low ≡ true → same_high ≡ true → Chooses same
      when_equal h k =
          meets_went chain (own 0) ds s equal [] _ (chosen (own 10) same s) (runs_equal h k) equal_sized refl refl room primed (λ p m. placed_outer (own 0) 10 (puts_of equal) s p m ∙ to_the_same p)

      -- both comparisons together compare all bits
      by_word : (b : Bool) → (word_of s left == word_of s right) ≡ b → (low : Bool) → same_low ≡ low → (high : Bool) → same_high ≡ high → Chooses (if b then same else other)
      by_word true e true h true k = when_equal h k
      by_word true e false h high k = absurd (eqb-false _ _ h (ap low_48 (eqb-true (word_of s left) (word_of s right) e)))
      by_word true e true h false k = absurd (eqb-false _ _ k (ap (λ (x : ℕ). x / 2 ^ 16) (eqb-true (word_of s left) (word_of s right) e)))
      by_word false e false h high k = when_low_differs h
      by_word false e true h false k = when_high_differs h k
      by_word false e true h true k =
          absurd (eqb-false (word_of s left) (word_of s right) e (same_word (word_of s left) (word_of s right) (eqb-true _ _ h) (eqb-true _ _ k)))

      meets : Meets (own 0) ds s (runs chain (own 0) ds s) (tests_all left right same other (own 10) chain s)
      meets = by_word (word_of s left == word_of s right) refl same_low refl same_high refl

    module _ (primed : Primed plain_ds (own 0) plain_ds s) where
      stays6 : opcode_in (filled (slot 6)) ≡ Noop
      stays6 = opcode_is Noop _ (reads_filled 6 (primed6 plain6 primed).len refl 0 2 refl ∙ (bytes_kept (writes_slot ds (own 6)) plain6 _ (primed6 plain6 primed) 0 2 refl (omega arith) ∙ draft_opcode plain6)) tt

      abbrev chose : List Piece
      chose = fills ++ piece (slot 10) 40 16 (bytes_at (s (space.Descriptor other)) 0 16) ∷ []

      chose_sized : AreSized chose
      chose_sized = (two, (low_long left, (low_long right, (two, (high_long left, (high_long right, (length_at _ 0 16 16 (whole.descriptors other) (omega arith), tt)))))))

      runs_plainly : runs chain (own 0) plain_ds s ≡ Went (puts_of chose) []
      runs_plainly =
          let after_choice : Bytes = placed s (puts_of chose) in
          runs_fills plain6 primed _ (goes_on chain (own 6) plain6 filled (draft7 ∷ draft8 ∷ draft9 ∷ []) _ _ _ _ (steps_noop chain (own 6) plain6 filled stays6) (goes_on chain (own 7) draft7 filled (draft8 ∷ draft9 ∷ []) _ _ _ _ (steps_fill chain (own 7) draft7 filled (opcode_kept (writes_slot ds (own 7)) draft7 _ (primed6_on plain6 primed).1.0 tt refl) refl refl refl refl) (goes_on chain (own 8) draft8 after_choice (draft9 ∷ []) _ _ _ _ (steps_noop chain (own 8) draft8 after_choice (opcode_clear _ (clear8 plain6 primed))) (goes_on chain (own 9) draft9 after_choice [] _ _ _ _ (steps_noop chain (own 9) draft9 after_choice (opcode_clear _ (clear9 plain6 primed))) refl))))

      pub meets_plainly : Meets (own 0) plain_ds s (runs chain (own 0) plain_ds s) (jumps other (own 10) chain s)
      meets_plainly =
          meets_went chain (own 0) plain_ds s chose [] _ (chosen (own 10) other s) runs_plainly chose_sized refl refl room primed (λ p k. placed_outer (own 0) 10 (puts_of chose) s p k ∙ ap (λ (b : List ℕ). with_put s (put (slot 10) 40 b) p) (all_bytes _ 16 (whole.descriptors other)))

test64_opcodes : (left right : Cell) (same other : ℕ) → tells (own 0) (test64 own left right same other) ≡ true
unfolding number spelled opcode_named
test64_opcodes left right same other = refl

pub test64_suits : (left right : Cell) (same other : ℕ) → suiting [] (own 0) (drafts_of (test64 own left right same other)) ≡ true
unfolding number spelled opcode_named
test64_suits left right same other = refl

pub test64_is : (left right : Cell) (same other : ℕ) → IsTemplate (λ (slot : ℕ → SlotRef). test64 slot left right same other) (λ (slot : ℕ → SlotRef). tests_all left right same other (slot 10)) 5 10 1
test64_is left right same other =
    record {
      segments_are = λ slot. refl;
      drafts_are = λ slot. refl;
      filled = λ slot. refl;
      one_event = λ slot. refl;
      apart = refl;
      stays = refl;
      renames = λ ring first. refl;
      renames_segments = λ ring first. refl;
      same = λ ring first chain s. same_chosen ring first s (own 10) (if word_of s left == word_of s right then same else other) [];
      tame = λ ring first. tame_tests_all (slot_ref ring first) 10 left right same other;
      does = λ chain bytes s whole room primed. meets chain s left right same other whole room primed;
      opcodes = test64_opcodes left right same other;
    }
