-- What the drafts of instructions do.
use Rattle.std.proofs.Common.{◌≡◌, ℕ, ◌+◌, ◌*◌, ◌%◌, ◌^◌, ◌≤◌, true, false, ◌++◌, List, [], ◌∷◌, length, refl, sym, ap, ◌∙◌, arith}
use Rattle.std.specs.Prelude.{if◌then◌else◌}
use Rattle.std.proofs.lemmas.List.{append-nil}
use Rattle.std.proofs.lemmas.Bool.{eq-eqb}
use Rattle.std.proofs.lemmas.Bool.Decides.{nat_tests}
use Rattle.redn_words.specs.declared.types.Opcode.TheVariants.{Write, Read, Add}
use Rattle.redn_words.specs.declared.types.Obs.{Obs}
use Rattle.redn_words.specs.declared.types.Obs.TheVariants as shows
use Rattle.redn_words.specs.declared.types.Kind.TheVariants as kind
use Rattle.redn_words.specs.Words.{bytes_at, number, word, spelled}
use Rattle.redn_words.proofs.Numbers.{length-spelled, number-bytes_at}
use Rattle.redn_kernel.specs.declared.types.Cell.{Cell}
use Rattle.redn_kernel.specs.declared.types.Cell.TheVariants.{Var, Hidden, Argument, Num}
use Rattle.redn_segment.specs.declared.types.Draft.{Draft}
use Rattle.redn_segment.specs.declared.types.SlotRef.{SlotRef}
use Rattle.redn_segment.specs.declared.types.Space.TheVariants as space
use Rattle.redn_segment.specs.declared.types.Site.TheVariants as site
use Rattle.std.specs.List.{sum_by}
use Rattle.redn_segment.specs.Building.{drafts_of}
use Rattle.redn_kernel.specs.Costs.{add_cost}
use Rattle.redn_segment.specs.Costs.{segment_slots, segment_actions}
use Rattle.redn_segment.specs.Drafts.{slot_from, field, copy, read_table, add_to, choose}
use Rattle.redn_segment.specs.Sites.{kind_of_cell}
use Rattle.redn_segment.specs.Plain.{Bytes, View, put, with_put, placed, Outcome, Went, Faults, step, runs, opcode_in, first_in, remote_in, with_event, request_of, origin}
use Rattle.redn_segment.specs.Primed.{IsWhole, HasRoom, IsPrimed, IsKnown, Primed, writes_slot}
use Rattle.redn_segment.specs.Effects.{word_of, IsTarget, set_event, lies_in, load_event, holding, Effect, Leaves, Stops, Meets, moves, adds, loads, stores, jumps, chosen}
use Rattle.redn_segment.specs.Renaming.{pulled_view, pulled, moved, IsSame}
use Rattle.redn_segment.proofs.Quiet.{cell_is_source, write_is_of_target}
use Rattle.redn_segment.proofs.Steps.{steps_fill, steps_write, steps_write_past, steps_read, steps_read_past, steps_add, goes_on, proceeds, Stopped, faults_here}
use Rattle.redn_segment.proofs.Kept.{kept, opcode_kept, bytes_kept, opcode_is, draft_opcode, draft_first}
use Rattle.redn_segment.proofs.Filled.{length_at, all_bytes}
use Rattle.redn_segment.proofs.Pieces.{Piece, piece, puts_of, AreSized, clean, seen, reads}
use Rattle.redn_segment.proofs.Meeting.{placed_outer, meets_went, meets_fault}
use Rattle.redn_segment.proofs.Targets.{target_loads, target_sets, target_adds, put_is_holding}
use Rattle.redn_segment.proofs.Moving.{own, slot_ref}
use Rattle.redn_segment.proofs.SameEffects.{same_chosen, same_holding, same_either, same_table, same_stops}
use Rattle.redn_segment.proofs.Tame.{tame_moves, tame_adds, tame_loads, tame_stores, tame_jumps}
use Rattle.redn_segment.proofs.Telling.{tells}
use Rattle.redn_segment.proofs.Appending.{IsTemplate}
use Rattle.redn_segment.proofs.Suiting.{suiting}
use Rattle.redn_move.specs.Adding.{add_segments, add_count}
use Rattle.redn_move.specs.Moves.{move_word, add_number, add_cell, load, store, jump}

-- which opcodes their slots have
move_opcodes : (to : Cell) (from : Cell) → IsTarget to → tells (own 0) (move_word own to from) ≡ true
move_opcodes (Argument i) from target = absurd target
move_opcodes (Num k) from target = absurd target
move_opcodes _ from target = refl

add_number_opcodes : (to : Cell) (n : ℕ) → IsTarget to → tells (own 0) (add_number own to n) ≡ true
add_number_opcodes (Argument i) n target = absurd target
add_number_opcodes (Num k) n target = absurd target
add_number_opcodes _ n target = refl

add_cell_opcodes : (to : Cell) (by : Cell) → IsTarget to → tells (own 0) (add_cell own to by) ≡ true
add_cell_opcodes (Argument i) by target = absurd target
add_cell_opcodes (Num k) by target = absurd target
add_cell_opcodes _ by target = refl

load_opcodes : (to : Cell) (t : ℕ) (offset : Cell) → IsTarget to → tells (own 0) (load own to t offset) ≡ true
load_opcodes (Argument i) t offset target = absurd target
load_opcodes (Num k) t offset target = absurd target
load_opcodes _ t offset target = refl

-- x = y, and x = n
module _ (chain : View) (s : Bytes) (to from : Cell) (target : IsTarget to) where
  abbrev move_drafts : List Draft
  move_drafts = drafts_of (move_word own to from)

  abbrev move_draft : Draft
  move_draft = copy (site.Cell from) 0 (site.Cell to) 8

  module _ (whole : IsWhole s) (room : HasRoom s) (primed : Primed move_drafts (own 0) move_drafts s) where
    moved_word : bytes_at (s (space.Cell from)) 0 8 ≡ s (space.Cell from)
    moved_word = all_bytes _ 8 (whole.cells from).0

    move_step : step chain (own 0) move_draft s ≡ Went (put (space.Cell to) 0 (s (space.Cell from)) ∷ []) (set_event chain.number to (word_of s from))
    move_step =
        steps_write chain (own 0) move_draft s (opcode_kept (writes_slot move_drafts (own 0)) move_draft _ primed.0 tt refl) refl refl ∙ (target_sets _ chain.number (word (bytes_at (s (space.Cell from)) 0 8) 0) (request_of (s (space.Slot (own 0))) move_draft) (kind_of_cell from) to (cell_is_source from) target refl refl ∙ ap (λ (b : List ℕ). Went (put (space.Cell to) 0 b ∷ []) (set_event chain.number to (word b 0))) moved_word)

    meets_move : Meets (own 0) move_drafts s (runs chain (own 0) move_drafts s) (moves to from chain s)
    meets_move =
        meets_went chain (own 0) move_drafts s (piece (space.Cell to) 0 8 (s (space.Cell from)) ∷ []) (set_event chain.number to (word_of s from)) _ (holding s (space.Cell to) (s (space.Cell from))) (goes_on chain (own 0) move_draft s [] _ _ _ _ move_step refl ∙ ap (Went (put (space.Cell to) 0 (s (space.Cell from)) ∷ [])) (append-nil (set_event chain.number to (word_of s from)))) ((whole.cells from).0, tt) refl refl room primed (λ p k. put_is_holding s whole to (s (space.Cell from)) (whole.cells from).0 p)

pub move_is : (to from : Cell) → IsTarget to → IsTemplate (λ (slot : ℕ → SlotRef). move_word slot to from) (λ (slot : ℕ → SlotRef). moves to from) 1 1 0
move_is to from target =
    record {
      segments_are = λ slot. refl;
      drafts_are = λ slot. refl;
      filled = λ slot. refl;
      one_event = λ slot. refl;
      apart = refl;
      stays = refl;
      renames = λ ring first. refl;
      renames_segments = λ ring first. refl;
      same = λ ring first chain s. same_holding ring first s to (s (space.Cell from)) (set_event chain.number to (word_of s from));
      tame = λ ring first. tame_moves (slot_ref ring first) 1 to from target;
      does = λ chain bytes s whole room primed. meets_move chain s to from target whole room primed;
      opcodes = move_opcodes to from target;
    }

-- x += n
module _ (chain : View) (s : Bytes) (to : Cell) (n : ℕ) (target : IsTarget to) where
  abbrev number_drafts : List Draft
  number_drafts = drafts_of (add_number own to n)

  abbrev number_draft : Draft
  number_draft = add_to 0 (site.Cell to) n

  abbrev number_sum : ℕ
  number_sum = (word_of s to + word_of s (Num n)) % 2 ^ 64

  module _ (whole : IsWhole s) (room : HasRoom s) (primed : Primed number_drafts (own 0) number_drafts s) where
    addend : first_in (s (space.Slot (own 0))) ≡ word_of s (Num n)
    addend =
        number-bytes_at 8 (s (space.Slot (own 0))) 40 ∙ ap (λ (b : List ℕ). number 8 b 0) (bytes_kept (writes_slot number_drafts (own 0)) number_draft _ primed.0 40 8 refl (omega arith) ∙ (draft_first number_draft ∙ sym (whole.numbers n)))

    old_sum : word (bytes_at (s (space.Cell to)) 0 8) 0 ≡ word_of s to
    old_sum = sym (number-bytes_at 8 (s (space.Cell to)) 0)

    number_step : step chain (own 0) number_draft s ≡ Went (put (space.Cell to) 0 (spelled 8 number_sum) ∷ put (space.Scratch 0) 0 (spelled 8 (word_of s to)) ∷ []) (set_event chain.number to number_sum)
    number_step =
        let made : ℕ → ℕ → Outcome = λ x y. Went (put (space.Cell to) 0 (spelled 8 ((x + y) % 2 ^ 64)) ∷ put (space.Scratch 0) 0 (spelled 8 x) ∷ []) (set_event chain.number to ((x + y) % 2 ^ 64)) in
        steps_add chain (own 0) number_draft s (opcode_kept (writes_slot number_drafts (own 0)) number_draft _ primed.0 tt refl) refl ∙ (target_adds _ chain.number ((word (bytes_at (s (space.Cell to)) 0 8) 0 + first_in (s (space.Slot (own 0)))) % 2 ^ 64) (request_of (s (space.Slot (own 0))) number_draft) to target refl ∙ (ap (λ (x : ℕ). made x (first_in (s (space.Slot (own 0))))) old_sum ∙ ap (made (word_of s to)) addend))

    meets_add_number : Meets (own 0) number_drafts s (runs chain (own 0) number_drafts s) (adds to (Num n) chain s)
    meets_add_number =
        meets_went chain (own 0) number_drafts s (piece (space.Cell to) 0 8 (spelled 8 number_sum) ∷ piece (space.Scratch 0) 0 8 (spelled 8 (word_of s to)) ∷ []) (set_event chain.number to number_sum) _ (holding s (space.Cell to) (spelled 8 number_sum)) (goes_on chain (own 0) number_draft s [] _ _ _ _ number_step refl ∙ ap (Went (put (space.Cell to) 0 (spelled 8 number_sum) ∷ put (space.Scratch 0) 0 (spelled 8 (word_of s to)) ∷ [])) (append-nil (set_event chain.number to number_sum))) (length-spelled 8 number_sum, (length-spelled 8 (word_of s to), tt)) refl refl room primed (λ p k. placed_outer (own 0) 1 (put (space.Cell to) 0 (spelled 8 number_sum) ∷ put (space.Scratch 0) 0 (spelled 8 (word_of s to)) ∷ []) s p k ∙ put_is_holding s whole to (spelled 8 number_sum) (length-spelled 8 number_sum) p)

pub add_number_is : (to : Cell) (n : ℕ) → IsTarget to → IsTemplate (λ (slot : ℕ → SlotRef). add_number slot to n) (λ (slot : ℕ → SlotRef). adds to (Num n)) 1 1 0
add_number_is to n target =
    record {
      segments_are = λ slot. refl;
      drafts_are = λ slot. refl;
      filled = λ slot. refl;
      one_event = λ slot. refl;
      apart = refl;
      stays = refl;
      renames = λ ring first. refl;
      renames_segments = λ ring first. refl;
      same = λ ring first chain s. same_holding ring first s to (spelled 8 ((word_of s to + word_of s (Num n)) % 2 ^ 64)) (set_event chain.number to ((word_of s to + word_of s (Num n)) % 2 ^ 64));
      tame = λ ring first. tame_adds (slot_ref ring first) 1 to (Num n) target;
      does = λ chain bytes s whole room primed. meets_add_number chain s to n target whole room primed;
      opcodes = add_number_opcodes to n target;
    }

-- x += y
module _ (chain : View) (s : Bytes) (to by : Cell) (target : IsTarget to) where
  abbrev cell_drafts : List Draft
  cell_drafts = drafts_of (add_cell own to by)

  abbrev fill_draft : Draft
  fill_draft = copy (site.Cell by) 0 (field (own 1) 40 8) 8

  abbrev sum_draft : Draft
  sum_draft = add_to 0 (site.Cell to) 0

  abbrev filled : List Piece
  filled = piece (space.Slot (own 1)) 40 8 (bytes_at (s (space.Cell by)) 0 8) ∷ []

  abbrev after_fill : Bytes
  after_fill = placed s (puts_of filled)

  abbrev cell_sum : ℕ
  cell_sum = (word_of s to + word_of s by) % 2 ^ 64

  abbrev summed : List Piece
  summed =
      filled ++ piece (space.Cell to) 0 8 (spelled 8 cell_sum) ∷ piece (space.Scratch 0) 0 8 (spelled 8 (word_of s to)) ∷ []

  module _ (whole : IsWhole s) (room : HasRoom s) (primed : Primed cell_drafts (own 0) cell_drafts s) where
    filled_sized : AreSized filled
    filled_sized = (length_at _ 0 8 8 (whole.cells by).0 (omega arith), tt)

    reads1 : (o n : ℕ) → clean (space.Slot (own 1)) o n filled ≡ true → bytes_at (after_fill (space.Slot (own 1))) o n ≡ seen (space.Slot (own 1)) o n filled (bytes_at (s (space.Slot (own 1))) o n)
    reads1 o n = reads (space.Slot (own 1)) 64 o n filled s filled_sized refl primed.1.0.len

    filled_addend : first_in (after_fill (space.Slot (own 1))) ≡ word_of s by
    filled_addend =
        number-bytes_at 8 (after_fill (space.Slot (own 1))) 40 ∙ (ap (λ (b : List ℕ). number 8 b 0) (reads1 40 8 refl) ∙ sym (number-bytes_at 8 (s (space.Cell by)) 0))

    sum_op : opcode_in (after_fill (space.Slot (own 1))) ≡ Add
    sum_op = opcode_is Add _ (reads1 0 2 refl ∙ (bytes_kept (writes_slot cell_drafts (own 1)) sum_draft _ primed.1.0 0 2 refl (omega arith) ∙ draft_opcode sum_draft)) tt

    sum_step : step chain (own 1) sum_draft after_fill ≡ Went (put (space.Cell to) 0 (spelled 8 cell_sum) ∷ put (space.Scratch 0) 0 (spelled 8 (word_of s to)) ∷ []) (set_event chain.number to cell_sum)
    sum_step =
        let made : ℕ → ℕ → Outcome = λ x y. Went (put (space.Cell to) 0 (spelled 8 ((x + y) % 2 ^ 64)) ∷ put (space.Scratch 0) 0 (spelled 8 x) ∷ []) (set_event chain.number to ((x + y) % 2 ^ 64)) in
        steps_add chain (own 1) sum_draft after_fill sum_op refl ∙ (target_adds _ chain.number ((word (bytes_at (s (space.Cell to)) 0 8) 0 + first_in (after_fill (space.Slot (own 1)))) % 2 ^ 64) (request_of (after_fill (space.Slot (own 1))) sum_draft) to target refl ∙ (ap (λ (x : ℕ). made x (first_in (after_fill (space.Slot (own 1))))) (sym (number-bytes_at 8 (s (space.Cell to)) 0)) ∙ ap (made (word_of s to)) filled_addend))

    meets_add_cell : Meets (own 0) cell_drafts s (runs chain (own 0) cell_drafts s) (adds to by chain s)
    meets_add_cell =
        meets_went chain (own 0) cell_drafts s summed (set_event chain.number to cell_sum) _ (holding s (space.Cell to) (spelled 8 cell_sum)) (goes_on chain (own 0) fill_draft s (sum_draft ∷ []) _ _ _ _ (steps_fill chain (own 0) fill_draft s (opcode_kept (writes_slot cell_drafts (own 0)) fill_draft _ primed.0 tt refl) refl refl (cell_is_source by) refl) (goes_on chain (own 1) sum_draft after_fill [] _ _ _ _ sum_step refl) ∙ ap (Went (puts_of summed)) (append-nil (set_event chain.number to cell_sum))) (filled_sized.0, (length-spelled 8 cell_sum, (length-spelled 8 (word_of s to), tt))) refl refl room primed (λ p k. placed_outer (own 0) 2 (puts_of summed) s p k ∙ put_is_holding s whole to (spelled 8 cell_sum) (length-spelled 8 cell_sum) p)

pub add_cell_is : (to by : Cell) → IsTarget to → IsTemplate (λ (slot : ℕ → SlotRef). add_cell slot to by) (λ (slot : ℕ → SlotRef). adds to by) 2 2 0
add_cell_is to by target =
    record {
      segments_are = λ slot. refl;
      drafts_are = λ slot. refl;
      filled = λ slot. refl;
      one_event = λ slot. refl;
      apart = refl;
      stays = refl;
      renames = λ ring first. refl;
      renames_segments = λ ring first. refl;
      same = λ ring first chain s. same_holding ring first s to (spelled 8 ((word_of s to + word_of s by) % 2 ^ 64)) (set_event chain.number to ((word_of s to + word_of s by) % 2 ^ 64));
      tame = λ ring first. tame_adds (slot_ref ring first) 2 to by target;
      does = λ chain bytes s whole room primed. meets_add_cell chain s to by target whole room primed;
      opcodes = add_cell_opcodes to by target;
    }

-- the fill of an offset, which Load and Store begin with
module _ (s : Bytes) (offset : Cell) where
  abbrev offset_draft : Draft
  offset_draft = copy (site.Cell offset) 0 (field (own 1) 24 8) 8

  abbrev with_offset : List Piece
  with_offset = piece (space.Slot (own 1)) 24 8 (bytes_at (s (space.Cell offset)) 0 8) ∷ []

  abbrev after_offset : Bytes
  after_offset = placed s (puts_of with_offset)

  module _ (whole : IsWhole s) (all : List Draft) (d : Draft) (primed : IsPrimed (writes_slot all (own 1)) d (s (space.Slot (own 1)))) where
    offset_sized : AreSized with_offset
    offset_sized = (length_at _ 0 8 8 (whole.cells offset).0 (omega arith), tt)

    reads_offset : (o n : ℕ) → clean (space.Slot (own 1)) o n with_offset ≡ true → bytes_at (after_offset (space.Slot (own 1))) o n ≡ seen (space.Slot (own 1)) o n with_offset (bytes_at (s (space.Slot (own 1))) o n)
    reads_offset o n = reads (space.Slot (own 1)) 64 o n with_offset s offset_sized refl primed.len

    filled_offset : remote_in (after_offset (space.Slot (own 1))) ≡ word_of s offset
    filled_offset =
        number-bytes_at 8 (after_offset (space.Slot (own 1))) 24 ∙ (ap (λ (b : List ℕ). number 8 b 0) (reads_offset 24 8 refl) ∙ sym (number-bytes_at 8 (s (space.Cell offset)) 0))

    filled_op : IsKnown d.op → kept (writes_slot all (own 1)) d 0 2 ≡ true → opcode_in (after_offset (space.Slot (own 1))) ≡ d.op
    filled_op known k = opcode_is d.op _ (reads_offset 0 2 refl ∙ (bytes_kept (writes_slot all (own 1)) d _ primed 0 2 k (omega arith) ∙ draft_opcode d)) known

-- x = t[y]
module _ (chain : View) (s : Bytes) (to : Cell) (t : ℕ) (offset : Cell) where
  abbrev load_drafts : List Draft
  load_drafts = drafts_of (load own to t offset)

  abbrev load_draft : Draft
  load_draft = read_table (site.Cell to) t

  abbrev table : List ℕ
  table = chain.tables (own 1) t

  abbrev loaded : List ℕ
  loaded = bytes_at table (word_of s offset) 8

  module _ (whole : IsWhole s) (room : HasRoom s) (primed : Primed load_drafts (own 0) load_drafts s) where
    fill_for_load : step chain (own 0) (offset_draft s offset) s ≡ Went (puts_of (with_offset s offset)) []
    fill_for_load = steps_fill chain (own 0) (offset_draft s offset) s (opcode_kept (writes_slot load_drafts (own 0)) (offset_draft s offset) _ primed.0 tt refl) refl refl (cell_is_source offset) refl

    load_op : opcode_in (after_offset s offset (space.Slot (own 1))) ≡ Read
    load_op = filled_op s offset whole load_drafts load_draft primed.1.0 tt refl

    load_place : remote_in (after_offset s offset (space.Slot (own 1))) ≡ word_of s offset
    load_place = filled_offset s offset whole load_drafts load_draft primed.1.0

    meets_load_fault : lies_in table (word_of s offset) ≡ false → Meets (own 0) load_drafts s (runs chain (own 0) load_drafts s) (Stops s (shows.Fault chain.number t (word_of s offset) ∷ []))
    meets_load_fault h =
        let faults : step chain (own 1) load_draft (after_offset s offset) ≡ Faults [] (shows.Fault chain.number t (word_of s offset) ∷ []) = steps_read_past chain (own 1) load_draft (after_offset s offset) load_op refl (ap (lies_in table) load_place ∙ h) ∙ ap (λ (o : ℕ). Faults [] (shows.Fault chain.number t o ∷ [])) load_place in
        meets_fault chain (own 0) load_drafts s (with_offset s offset) (shows.Fault chain.number t (word_of s offset) ∷ []) _ (proceeds chain (own 0) (offset_draft s offset) s Stopped (load_draft ∷ []) _ _ _ _ fill_for_load (faults_here chain (own 1) load_draft (after_offset s offset) [] [] _ faults)) (λ p k. placed_outer (own 0) 3 (puts_of (with_offset s offset)) s p k)

    module _ (target : IsTarget to) (h : lies_in table (word_of s offset) ≡ true) where
      loaded_long : length loaded ≡ 8
      loaded_long = length_at table (word_of s offset) 8 (length table) refl (grind (arith, nat_tests))

      load_step : step chain (own 1) load_draft (after_offset s offset) ≡ Went (put (space.Cell to) 0 loaded ∷ []) (load_event chain.number to t (word_of s offset) (word loaded 0))
      load_step =
          steps_read chain (own 1) load_draft (after_offset s offset) load_op refl (ap (lies_in table) load_place ∙ h) ∙ (target_loads _ chain.number (word (bytes_at table (remote_in (after_offset s offset (space.Slot (own 1)))) 8) 0) t (request_of (after_offset s offset (space.Slot (own 1))) load_draft) to target refl refl ∙ ap (λ (o : ℕ). let bytes : List ℕ = bytes_at table o 8 in Went (put (space.Cell to) 0 bytes ∷ []) (load_event chain.number to t o (word bytes 0))) load_place)

      abbrev all_loaded : List Piece
      all_loaded = with_offset s offset ++ piece (space.Cell to) 0 8 loaded ∷ []

      meets_load : Meets (own 0) load_drafts s (runs chain (own 0) load_drafts s) (Leaves (holding s (space.Cell to) loaded) (load_event chain.number to t (word_of s offset) (word loaded 0)))
      meets_load =
          meets_went chain (own 0) load_drafts s all_loaded (load_event chain.number to t (word_of s offset) (word loaded 0)) _ (holding s (space.Cell to) loaded) (goes_on chain (own 0) (offset_draft s offset) s (load_draft ∷ []) _ _ _ _ fill_for_load (goes_on chain (own 1) load_draft (after_offset s offset) [] _ _ _ _ load_step refl) ∙ ap (Went (puts_of all_loaded)) (append-nil (load_event chain.number to t (word_of s offset) (word loaded 0)))) ((offset_sized s offset whole load_drafts load_draft primed.1.0).0, (loaded_long, tt)) refl refl room primed (λ p k. placed_outer (own 0) 2 (puts_of all_loaded) s p k ∙ put_is_holding s whole to loaded loaded_long p)

    load_meets : IsTarget to → Meets (own 0) load_drafts s (runs chain (own 0) load_drafts s) (loads to t offset (own 1) chain s)
    load_meets target =
        elim (lies_in table (word_of s offset)) as (λ b. lies_in table (word_of s offset) ≡ b → Meets (own 0) load_drafts s (runs chain (own 0) load_drafts s) (if b then Leaves (holding s (space.Cell to) loaded) (load_event chain.number to t (word_of s offset) (word loaded 0)) else Stops s (shows.Fault chain.number t (word_of s offset) ∷ []))) [
          | true ↦ λ h. meets_load target h
          | false ↦ λ h. meets_load_fault h
        ] refl

  same_loads : (ring first : ℕ) → IsSame (moved ring first) s (loads to t offset (own 1) (pulled_view (moved ring first) chain) (pulled (moved ring first) s)) (loads to t offset (moved ring first (own 1)) chain s)
  same_loads ring first =
      let b : List ℕ = chain.tables (moved ring first (own 1)) t in
      let events : List Obs = load_event chain.number to t (word_of s offset) (word (bytes_at b (word_of s offset) 8) 0) in
      let stops : Bytes → Effect = λ u. Stops u (shows.Fault chain.number t (word_of s offset) ∷ []) in
      same_either ring first s (lies_in b (word_of s offset)) (Leaves (holding (pulled (moved ring first) s) (space.Cell to) (bytes_at b (word_of s offset) 8)) events) (stops (pulled (moved ring first) s)) (Leaves (holding s (space.Cell to) (bytes_at b (word_of s offset) 8)) events) (stops s) (same_holding ring first s to (bytes_at b (word_of s offset) 8) events) (same_stops ring first s (shows.Fault chain.number t (word_of s offset) ∷ []))

pub load_is : (to : Cell) (t : ℕ) (offset : Cell) → IsTarget to → IsTemplate (λ (slot : ℕ → SlotRef). load slot to t offset) (λ (slot : ℕ → SlotRef). loads to t offset (slot 1)) 2 2 0
load_is to t offset target =
    record {
      segments_are = λ slot. refl;
      drafts_are = λ slot. refl;
      filled = λ slot. refl;
      one_event = λ slot. refl;
      apart = refl;
      stays = refl;
      renames = λ ring first. refl;
      renames_segments = λ ring first. refl;
      same = λ ring first chain s. same_loads chain s to t offset ring first;
      tame = λ ring first. tame_loads (slot_ref ring first) 2 to t offset (slot_from ring first 1) target;
      does = λ chain bytes s whole room primed. load_meets chain s to t offset whole room primed target;
      opcodes = load_opcodes to t offset target;
    }

-- t[y] = x
module _ (chain : View) (s : Bytes) (t : ℕ) (offset from : Cell) where
  abbrev store_drafts : List Draft
  store_drafts = drafts_of (store own t offset from)

  abbrev store_draft : Draft
  store_draft = copy (site.Cell from) 0 (site.Table t 0) 8

  abbrev store_event : Obs
  store_event = shows.Store chain.number t (word_of s offset) (word_of s from)

  module _ (whole : IsWhole s) (room : HasRoom s) (primed : Primed store_drafts (own 0) store_drafts s) where
    fill_for_store : step chain (own 0) (offset_draft s offset) s ≡ Went (puts_of (with_offset s offset)) []
    fill_for_store = steps_fill chain (own 0) (offset_draft s offset) s (opcode_kept (writes_slot store_drafts (own 0)) (offset_draft s offset) _ primed.0 tt refl) refl refl (cell_is_source offset) refl

    store_op : opcode_in (after_offset s offset (space.Slot (own 1))) ≡ Write
    store_op = filled_op s offset whole store_drafts store_draft primed.1.0 tt refl

    store_place : remote_in (after_offset s offset (space.Slot (own 1))) ≡ word_of s offset
    store_place = filled_offset s offset whole store_drafts store_draft primed.1.0

    meets_store_fault : lies_in (chain.tables (own 1) t) (word_of s offset) ≡ false → Meets (own 0) store_drafts s (runs chain (own 0) store_drafts s) (Stops s (shows.Fault chain.number t (word_of s offset) ∷ []))
    meets_store_fault h =
        let faults : step chain (own 1) store_draft (after_offset s offset) ≡ Faults [] (shows.Fault chain.number t (word_of s offset) ∷ []) = steps_write_past chain (own 1) store_draft (after_offset s offset) store_op refl (ap (lies_in (chain.tables (own 1) t)) store_place ∙ h) ∙ ap (λ (o : ℕ). Faults [] (shows.Fault chain.number t o ∷ [])) store_place in
        meets_fault chain (own 0) store_drafts s (with_offset s offset) (shows.Fault chain.number t (word_of s offset) ∷ []) _ (proceeds chain (own 0) (offset_draft s offset) s Stopped (store_draft ∷ []) _ _ _ _ fill_for_store (faults_here chain (own 1) store_draft (after_offset s offset) [] [] _ faults)) (λ p k. placed_outer (own 0) 3 (puts_of (with_offset s offset)) s p k)

    stored_word : bytes_at (s (space.Cell from)) 0 8 ≡ s (space.Cell from)
    stored_word = all_bytes _ 8 (whole.cells from).0

    store_step : lies_in (chain.tables (own 1) t) (word_of s offset) ≡ true → step chain (own 1) store_draft (after_offset s offset) ≡ Went (put (space.Table t) (word_of s offset) (s (space.Cell from)) ∷ []) (store_event ∷ [])
    store_step h =
        let made : ℕ → List ℕ → Outcome = λ o b. Went (put (space.Table t) o b ∷ []) (shows.Store chain.number t o (word b 0) ∷ []) in
        let slot : List ℕ = after_offset s offset (space.Slot (own 1)) in
        steps_write chain (own 1) store_draft (after_offset s offset) store_op refl (ap (lies_in (chain.tables (own 1) t)) store_place ∙ h) ∙ (ap (with_event (put (space.Table t) (remote_in slot) (bytes_at (s (space.Cell from)) 0 8) ∷ [])) (write_is_of_target (origin chain.number) (request_of slot store_draft) (word (bytes_at (s (space.Cell from)) 0 8) 0) (kind_of_cell from) (kind.Table t) (cell_is_source from)) ∙ (ap (λ (o : ℕ). made o (bytes_at (s (space.Cell from)) 0 8)) store_place ∙ ap (made (word_of s offset)) stored_word))

    abbrev all_stored : List Piece
    all_stored = with_offset s offset ++ piece (space.Table t) (word_of s offset) 8 (s (space.Cell from)) ∷ []

    meets_store : lies_in (chain.tables (own 1) t) (word_of s offset) ≡ true → Meets (own 0) store_drafts s (runs chain (own 0) store_drafts s) (Leaves (with_put s (put (space.Table t) (word_of s offset) (s (space.Cell from)))) (store_event ∷ []))
    meets_store h =
        meets_went chain (own 0) store_drafts s all_stored (store_event ∷ []) _ (with_put s (put (space.Table t) (word_of s offset) (s (space.Cell from)))) (goes_on chain (own 0) (offset_draft s offset) s (store_draft ∷ []) _ _ _ _ fill_for_store (goes_on chain (own 1) store_draft (after_offset s offset) [] _ _ _ _ (store_step h) refl)) ((offset_sized s offset whole store_drafts store_draft primed.1.0).0, ((whole.cells from).0, tt)) refl refl room primed (λ p k. placed_outer (own 0) 2 (puts_of all_stored) s p k)

    store_meets : Meets (own 0) store_drafts s (runs chain (own 0) store_drafts s) (stores t offset from (own 1) chain s)
    store_meets =
        elim (lies_in (chain.tables (own 1) t) (word_of s offset)) as (λ b. lies_in (chain.tables (own 1) t) (word_of s offset) ≡ b → Meets (own 0) store_drafts s (runs chain (own 0) store_drafts s) (if b then Leaves (with_put s (put (space.Table t) (word_of s offset) (s (space.Cell from)))) (store_event ∷ []) else Stops s (shows.Fault chain.number t (word_of s offset) ∷ []))) [
          | true ↦ λ h. meets_store h
          | false ↦ λ h. meets_store_fault h
        ] refl

  same_stores : (ring first : ℕ) → IsSame (moved ring first) s (stores t offset from (own 1) (pulled_view (moved ring first) chain) (pulled (moved ring first) s)) (stores t offset from (moved ring first (own 1)) chain s)
  same_stores ring first =
      let stops : Bytes → Effect = λ u. Stops u (shows.Fault chain.number t (word_of s offset) ∷ []) in
      same_either ring first s (lies_in (chain.tables (moved ring first (own 1)) t) (word_of s offset)) (Leaves (with_put (pulled (moved ring first) s) (put (space.Table t) (word_of s offset) (s (space.Cell from)))) (store_event ∷ [])) (stops (pulled (moved ring first) s)) (Leaves (with_put s (put (space.Table t) (word_of s offset) (s (space.Cell from)))) (store_event ∷ [])) (stops s) (same_table ring first s t (word_of s offset) (s (space.Cell from)) (store_event ∷ [])) (same_stops ring first s (shows.Fault chain.number t (word_of s offset) ∷ []))

pub store_is : (t : ℕ) (offset from : Cell) → IsTemplate (λ (slot : ℕ → SlotRef). store slot t offset from) (λ (slot : ℕ → SlotRef). stores t offset from (slot 1)) 2 2 0
store_is t offset from =
    record {
      segments_are = λ slot. refl;
      drafts_are = λ slot. refl;
      filled = λ slot. refl;
      one_event = λ slot. refl;
      apart = refl;
      stays = refl;
      renames = λ ring first. refl;
      renames_segments = λ ring first. refl;
      same = λ ring first chain s. same_stores chain s t offset from ring first;
      tame = λ ring first. tame_stores (slot_ref ring first) 2 t offset from (slot_from ring first 1);
      does = λ chain bytes s whole room primed. store_meets chain s t offset from whole room primed;
      opcodes = refl;
    }

-- a jump
module _ (chain : View) (s : Bytes) (to : ℕ) where
  abbrev jump_drafts : List Draft
  jump_drafts = drafts_of (jump own to)

  abbrev jumped : List Piece
  jumped = piece (space.Slot (own 1)) 40 16 (bytes_at (s (space.Descriptor to)) 0 16) ∷ []

  meets_jump : IsWhole s → HasRoom s → Primed jump_drafts (own 0) jump_drafts s → Meets (own 0) jump_drafts s (runs chain (own 0) jump_drafts s) (jumps to (own 1) chain s)
  meets_jump whole room primed =
      meets_went chain (own 0) jump_drafts s jumped [] _ (chosen (own 1) to s) (goes_on chain (own 0) (choose to (own 1)) s [] _ _ _ _ (steps_fill chain (own 0) (choose to (own 1)) s (opcode_kept (writes_slot jump_drafts (own 0)) (choose to (own 1)) _ primed.0 tt refl) refl refl refl refl) refl) (length_at _ 0 16 16 (whole.descriptors to) (omega arith), tt) refl refl room primed (λ p k. placed_outer (own 0) 1 (puts_of jumped) s p k ∙ ap (λ (b : List ℕ). with_put s (put (space.Slot (own 1)) 40 b) p) (all_bytes _ 16 (whole.descriptors to)))

pub jump_is : (to : ℕ) → IsTemplate (λ (slot : ℕ → SlotRef). jump slot to) (λ (slot : ℕ → SlotRef). jumps to (slot 1)) 2 1 1
jump_is to =
    record {
      segments_are = λ slot. refl;
      drafts_are = λ slot. refl;
      filled = λ slot. refl;
      one_event = λ slot. refl;
      apart = refl;
      stays = refl;
      renames = λ ring first. refl;
      renames_segments = λ ring first. refl;
      same = λ ring first chain s. same_chosen ring first s (own 1) to [];
      tame = λ ring first. tame_jumps (slot_ref ring first) 1 to;
      does = λ chain bytes s whole room primed. meets_jump chain s to whole room primed;
      opcodes = refl;
    }

pub add_is : (to by : Cell) → IsTarget to → IsTemplate (λ (slot : ℕ → SlotRef). add_segments slot to by) (λ (slot : ℕ → SlotRef). adds to by) (add_count by) (add_count by) 0
add_is to (Num n) target = add_number_is to n target
add_is to (Var i) target = add_cell_is to (Var i) target
add_is to (Hidden i) target = add_cell_is to (Hidden i) target
add_is to (Argument i) target = add_cell_is to (Argument i) target

pub few_added : (by : Cell) → add_count by ≤ 2
few_added (Num n) = omega arith
few_added _ = omega arith

pub add_slots : (slot : ℕ → SlotRef) (to by : Cell) → sum_by segment_slots (add_segments slot to by) ≡ 5 * add_count by
add_slots slot to (Num n) = refl
add_slots slot to _ = refl

pub add_actions : (slot : ℕ → SlotRef) (to by : Cell) → sum_by segment_actions (add_segments slot to by) ≡ add_cost by
add_actions slot to (Num n) = refl
add_actions slot to _ = refl

-- what the drafts ask of the regions of their sides
pub move_suits : (to from : Cell) → IsTarget to → suiting [] (own 0) (drafts_of (move_word own to from)) ≡ true
move_suits (Argument i) from target = absurd target
move_suits (Num n) from target = absurd target
move_suits _ from target = refl

number_suits : (to : Cell) (n : ℕ) → IsTarget to → suiting [] (own 0) (drafts_of (add_number own to n)) ≡ true
number_suits (Argument i) n target = absurd target
number_suits (Num k) n target = absurd target
number_suits _ n target = refl

cell_suits : (to by : Cell) → IsTarget to → suiting [] (own 0) (drafts_of (add_cell own to by)) ≡ true
cell_suits (Argument i) by target = absurd target
cell_suits (Num k) by target = absurd target
cell_suits _ by target = refl

pub add_suits : (to by : Cell) → IsTarget to → suiting [] (own 0) (drafts_of (add_segments own to by)) ≡ true
add_suits to (Num n) target = number_suits to n target
add_suits to (Var i) target = cell_suits to (Var i) target
add_suits to (Hidden i) target = cell_suits to (Hidden i) target
add_suits to (Argument i) target = cell_suits to (Argument i) target

pub load_suits : (to : Cell) (t : ℕ) (offset : Cell) → IsTarget to → suiting [] (own 0) (drafts_of (load own to t offset)) ≡ true
load_suits (Argument i) t offset target = absurd target
load_suits (Num n) t offset target = absurd target
load_suits _ t offset target = refl

pub store_suits : (t : ℕ) (offset from : Cell) → suiting (t ∷ []) (own 0) (drafts_of (store own t offset from)) ≡ true
store_suits t offset from =
    let same = eq-eqb t t refl in
    rw same refl

pub jump_suits : (to : ℕ) → suiting [] (own 0) (drafts_of (jump own to)) ≡ true
jump_suits to = refl
