-- A probe looks at a key, loads the word behind it where it matches, and chooses. Slot by slot, each slot being draft0 to draft14 below:
--   0 to 5    fills: the opcodes of T1 and T2, the operands of both CAS, the offsets of the look and of T1
--   6, 7      the look reads the key word; the ring for no match goes into the last ENABLE
--   8 to 10   the key word goes into the identifiers of T1 and T2, and T1's offset is raised by 8
--   11, 12    each CAS, where the key matches, turns T1 into a READ and T2 into a WRITE
--   13, 14    T1 loads the value, and T2 puts the ring for a match in place of the other
--   15        the last ENABLE
use Rattle.std.proofs.Common.{◌≡◌, ℕ, ◌+◌, ◌%◌, ◌^◌, ◌<◌, ◌≤◌, Bool, true, false, ◌++◌, List, [], ◌∷◌, length, take, refl, sym, ap, ◌∙◌, arith, map}
use Rattle.std.specs.Prelude.{◌==◌, if◌then◌else◌}
use Rattle.std.proofs.lemmas.Bool.Decides.{nat_tests}
use Rattle.std.proofs.lemmas.List.Elements.{All-take, All-drop}
use Rattle.std.proofs.lemmas.List.{append-nil}
use Rattle.redn_words.specs.declared.types.Opcode.TheVariants.{Noop, Write, Read, Cas}
use Rattle.redn_words.specs.declared.types.Obs.{Obs}
use Rattle.redn_words.specs.declared.types.Obs.TheVariants as shows
use Rattle.redn_words.specs.Words.{bytes_at, number, word, spelled, low_48}
use Rattle.redn_words.proofs.Numbers.{length-spelled, number-bytes_at}
use Rattle.redn_kernel.specs.declared.types.Cell.{Cell}
use Rattle.redn_kernel.specs.declared.types.Cell.TheVariants.{Argument, Num}
use Rattle.redn_segment.specs.declared.types.Draft.{Draft}
use Rattle.redn_segment.specs.declared.types.SlotRef.{SlotRef}
use Rattle.redn_segment.specs.declared.types.Space.{Space}
use Rattle.redn_segment.specs.declared.types.Space.TheVariants as space
use Rattle.redn_segment.specs.declared.types.Site.TheVariants as site
use Rattle.redn_segment.specs.Building.{drafts_of}
use Rattle.redn_segment.specs.Drafts.{slot_from, field, copy, read_table, add_to, swap_in, turnable, clear, fill_low, compare_low, choose, write_word, read_word}
use Rattle.redn_segment.specs.Plain.{Bytes, View, Put, put, with_put, placed, Outcome, Went, Faults, step, runs, opcode_in, first_in, second_in, remote_in, request_of}
use Rattle.redn_segment.specs.Primed.{SeesBytes, IsWhole, HasRoom, IsPrimed, Primed, IsBytes, writes_slot}
use Rattle.redn_segment.specs.Effects.{word_of, IsTarget, lies_in, load_event, holding, Effect, Leaves, Stops, Meets, probes, chosen, is_own}
use Rattle.redn_segment.proofs.Quiet.{cell_is_source}
use Rattle.redn_segment.proofs.Steps.{Ending, Goes, Stopped, ends, steps_noop, steps_fill, steps_read, steps_read_past, steps_cas, steps_add, goes_on, proceeds, faults_here}
use Rattle.redn_segment.proofs.Kept.{opcode_kept, first_kept, bytes_kept, opcode_is, word_is, draft_opcode, draft_second}
use Rattle.redn_segment.proofs.Filled.{length_at, all_bytes, clear_bytes, low_of, opcode_clear, opcode_to_write, opcode_to_read, word_filled, operand_filled}
use Rattle.redn_segment.proofs.Pieces.{length_placed, Piece, piece, put_of, puts_of, AreSized, clean, seen, reads}
use Rattle.redn_segment.proofs.Meeting.{placed_outer, placed_again, meets_went, meets_fault}
use Rattle.redn_segment.proofs.Targets.{all_written, target_loads, put_is_holding}
use Rattle.redn_segment.proofs.Moving.{own, slot_ref}
use Rattle.redn_segment.proofs.SameEffects.{same_chosen, same_chosen_of, same_holding, same_either, same_stops}
use Rattle.redn_segment.specs.Renaming.{pulled_view, pulled, moved, IsSame}
use Rattle.redn_segment.proofs.Tame.{tame_probes}
use Rattle.redn_words.specs.Requests.{opcode_named}
use Rattle.redn_segment.proofs.Telling.{tells}
use Rattle.redn_segment.proofs.Appending.{IsTemplate}
use Rattle.redn_segment.proofs.Suiting.{suiting}
use Rattle.redn_cas.specs.Tests.{probe}
use Rattle.redn_cas.specs.WithoutCas.{without_cas, looks}

module _ (chain : View) (s : Bytes) (to : Cell) (t : ℕ) (offset key : Cell) (hit miss : ℕ) where
  abbrev ds : List Draft
  ds = drafts_of (probe own to t offset key hit miss)

  abbrev slot : ℕ → Space
  slot k = space.Slot (own k)

  abbrev word_at : Cell → List ℕ
  word_at c = bytes_at (s (space.Cell c)) 0 8

  abbrev low_at : Cell → List ℕ
  low_at c = bytes_at (s (space.Cell c)) 2 6

  abbrev zeros : List ℕ
  zeros = bytes_at (s (space.Cell (Num 0))) 0 2

  -- after the first segment
  abbrev fills : List Piece
  fills =
      piece (slot 13) 0 2 zeros ∷ piece (slot 14) 0 2 zeros ∷ piece (slot 11) 42 6 (low_at key) ∷ piece (slot 12) 42 6 (low_at key) ∷ piece (slot 6) 24 8 (word_at offset) ∷ piece (slot 13) 24 8 (word_at offset) ∷ []

  abbrev after_fills : Bytes
  after_fills = placed s (puts_of fills)

  abbrev place : ℕ
  place = word_of s offset

  -- the table as the look and the load see it
  abbrev looked_at : List ℕ
  looked_at = chain.tables (own 6) t

  abbrev loaded_from : List ℕ
  loaded_from = chain.tables (own 13) t

  abbrev look : List ℕ
  look = bytes_at looked_at place 8

  abbrev draft0 : Draft
  draft0 = clear (own 13)

  abbrev draft1 : Draft
  draft1 = clear (own 14)

  abbrev draft2 : Draft
  draft2 = compare_low (site.Cell key) (own 11)

  abbrev draft3 : Draft
  draft3 = compare_low (site.Cell key) (own 12)

  abbrev draft4 : Draft
  draft4 = copy (site.Cell offset) 0 (field (own 6) 24 8) 8

  abbrev draft5 : Draft
  draft5 = copy (site.Cell offset) 0 (field (own 13) 24 8) 8

  abbrev draft6 : Draft
  draft6 = read_table site.Key t

  abbrev draft7 : Draft
  draft7 = choose miss (own 15)

  abbrev draft8 : Draft
  draft8 = fill_low site.Key (own 13)

  abbrev draft9 : Draft
  draft9 = fill_low site.Key (own 14)

  abbrev draft10 : Draft
  draft10 = add_to 0 (field (own 13) 24 8) 8

  abbrev draft11 : Draft
  draft11 = swap_in 0 (field (own 13) 0 8) read_word

  abbrev draft12 : Draft
  draft12 = swap_in 1 (field (own 14) 0 8) write_word

  abbrev draft13 : Draft
  draft13 = turnable (site.Cell to) (site.Table t 0) 8 0

  abbrev draft14 : Draft
  draft14 = turnable (site.Descriptor hit) (field (own 15) 40 16) 16 0

  -- with a NOOP in place of each CAS
  abbrev plain11 : Draft
  plain11 = without_cas draft11

  abbrev plain12 : Draft
  plain12 = without_cas draft12

  abbrev plain_ds : List Draft
  plain_ds = map without_cas ds

  abbrev last_drafts : Draft → Draft → List Draft
  last_drafts d11 d12 = d11 ∷ d12 ∷ draft13 ∷ draft14 ∷ []

  abbrev middle_drafts : Draft → Draft → List Draft
  middle_drafts d11 d12 = draft7 ∷ draft8 ∷ draft9 ∷ draft10 ∷ last_drafts d11 d12

  -- with these at slots 11 and 12
  abbrev with_swaps : Draft → Draft → List Draft
  with_swaps d11 d12 = draft0 ∷ draft1 ∷ draft2 ∷ draft3 ∷ draft4 ∷ draft5 ∷ draft6 ∷ middle_drafts d11 d12

  -- after the first n pieces
  abbrev after : ℕ → List Piece → Bytes
  after n us = placed s (puts_of (take n us))

  abbrev look_event : Obs
  look_event = shows.Look chain.number t place (word look 0)

  abbrev looked : List Piece
  looked =
      fills ++ piece space.Key 0 8 look ∷ piece (slot 15) 40 16 (bytes_at (s (space.Descriptor miss)) 0 16) ∷ []

  abbrev after_look : Bytes
  after_look = placed s (puts_of looked)

  abbrev id : List ℕ
  id = bytes_at look 2 6

  abbrev next : ℕ
  next = (place + 8) % 2 ^ 64

  abbrev named : List Piece
  named =
      looked ++ piece (slot 13) 2 6 id ∷ piece (slot 14) 2 6 id ∷ piece (slot 13) 24 8 (spelled 8 next) ∷ piece (space.Scratch 0) 0 8 (spelled 8 place) ∷ []

  abbrev after_names : Bytes
  after_names = placed s (puts_of named)

  abbrev after_ids : Bytes
  after_ids = placed s (puts_of (looked ++ piece (slot 13) 2 6 id ∷ piece (slot 14) 2 6 id ∷ []))

  abbrev test : Bool
  test = low_48 (word look 0) == low_48 (word_of s key)

  module _ (bytes : SeesBytes chain) (whole : IsWhole s) (room : HasRoom s) where
    two : length zeros ≡ 2
    two = length_at _ 0 2 8 (whole.cells (Num 0)).0 (omega arith)

    six : length (low_at key) ≡ 6
    six = length_at _ 2 6 8 (whole.cells key).0 (omega arith)

    eight : length (word_at offset) ≡ 8
    eight = length_at _ 0 8 8 (whole.cells offset).0 (omega arith)

    fills_sized : AreSized fills
    fills_sized = (two, (two, (six, (six, (eight, (eight, tt))))))

    word_back : word (word_at offset) 0 ≡ place
    word_back = sym (number-bytes_at 8 (s (space.Cell offset)) 0)

    -- as far as the comparisons, whatever stands at slots 11 and 12
    module _ (d11 d12 : Draft) (primed : Primed ds (own 0) (with_swaps d11 d12) s) where
      primed6 : IsPrimed (writes_slot ds (own 6)) draft6 (s (slot 6))
      primed6 = primed.1.1.1.1.1.1.0

      abbrev primed7_on : Primed ds (own 7) (middle_drafts d11 d12) s
      primed7_on = primed.1.1.1.1.1.1.1

      primed11 : IsPrimed (writes_slot ds (own 11)) d11 (s (slot 11))
      primed11 = primed7_on.1.1.1.1.0

      primed12 : IsPrimed (writes_slot ds (own 12)) d12 (s (slot 12))
      primed12 = primed7_on.1.1.1.1.1.0

      primed13 : IsPrimed (writes_slot ds (own 13)) draft13 (s (slot 13))
      primed13 = primed7_on.1.1.1.1.1.1.0

      primed14 : IsPrimed (writes_slot ds (own 14)) draft14 (s (slot 14))
      primed14 = primed7_on.1.1.1.1.1.1.1.0

      last_long : length (s (slot 15)) ≡ 64
      last_long = primed7_on.1.1.1.1.1.1.1.1

      runs_fills : (e : Ending) (us : List Put) (shown : List Obs) → runs chain (own 6) (draft6 ∷ (middle_drafts d11 d12)) after_fills ≡ ends e us shown → runs chain (own 0) (with_swaps d11 d12) s ≡ ends e (puts_of fills ++ us) shown
      runs_fills e us shown h =
          proceeds chain (own 0) draft0 s e (draft1 ∷ draft2 ∷ draft3 ∷ draft4 ∷ draft5 ∷ draft6 ∷ (middle_drafts d11 d12)) _ _ _ _ (steps_fill chain (own 0) draft0 s (opcode_kept (writes_slot ds (own 0)) draft0 _ primed.0 tt refl) refl refl refl refl) (proceeds chain (own 1) draft1 (after 1 fills) e (draft2 ∷ draft3 ∷ draft4 ∷ draft5 ∷ draft6 ∷ (middle_drafts d11 d12)) _ _ _ _ (steps_fill chain (own 1) draft1 (after 1 fills) (opcode_kept (writes_slot ds (own 1)) draft1 _ primed.1.0 tt refl) refl refl refl refl) (proceeds chain (own 2) draft2 (after 2 fills) e (draft3 ∷ draft4 ∷ draft5 ∷ draft6 ∷ (middle_drafts d11 d12)) _ _ _ _ (steps_fill chain (own 2) draft2 (after 2 fills) (opcode_kept (writes_slot ds (own 2)) draft2 _ primed.1.1.0 tt refl) refl refl (cell_is_source key) refl) (proceeds chain (own 3) draft3 (after 3 fills) e (draft4 ∷ draft5 ∷ draft6 ∷ (middle_drafts d11 d12)) _ _ _ _ (steps_fill chain (own 3) draft3 (after 3 fills) (opcode_kept (writes_slot ds (own 3)) draft3 _ primed.1.1.1.0 tt refl) refl refl (cell_is_source key) refl) (proceeds chain (own 4) draft4 (after 4 fills) e (draft5 ∷ draft6 ∷ (middle_drafts d11 d12)) _ _ _ _ (steps_fill chain (own 4) draft4 (after 4 fills) (opcode_kept (writes_slot ds (own 4)) draft4 _ primed.1.1.1.1.0 tt refl) refl refl (cell_is_source offset) refl) (proceeds chain (own 5) draft5 (after 5 fills) e (draft6 ∷ (middle_drafts d11 d12)) _ _ _ _ (steps_fill chain (own 5) draft5 (after 5 fills) (opcode_kept (writes_slot ds (own 5)) draft5 _ primed.1.1.1.1.1.0 tt refl) refl refl (cell_is_source offset) refl) h)))))

      -- the look
      reads6 : (o n : ℕ) → clean (slot 6) o n fills ≡ true → bytes_at (after_fills (slot 6)) o n ≡ seen (slot 6) o n fills (bytes_at (s (slot 6)) o n)
      reads6 o n = reads (slot 6) 64 o n fills s fills_sized refl primed6.len

      look_op : opcode_in (after_fills (slot 6)) ≡ Read
      look_op = opcode_is Read _ (reads6 0 2 refl ∙ (bytes_kept (writes_slot ds (own 6)) draft6 _ primed6 0 2 refl (omega arith) ∙ draft_opcode draft6)) tt

      look_place : remote_in (after_fills (slot 6)) ≡ place
      look_place = number-bytes_at 8 (after_fills (slot 6)) 24 ∙ (ap (λ (l : List ℕ). word l 0) (reads6 24 8 refl) ∙ word_back)

      look_step : lies_in looked_at place ≡ true → step chain (own 6) draft6 after_fills ≡ Went (put space.Key 0 look ∷ []) (look_event ∷ [])
      look_step h =
          steps_read chain (own 6) draft6 after_fills look_op refl (ap (lies_in looked_at) look_place ∙ h) ∙ ap (λ (o : ℕ). let b : List ℕ = bytes_at looked_at o 8 in Went (put space.Key 0 b ∷ []) (shows.Look chain.number t o (word b 0) ∷ [])) look_place

      look_faults : lies_in looked_at place ≡ false → step chain (own 6) draft6 after_fills ≡ Faults [] (shows.Fault chain.number t place ∷ [])
      look_faults h =
          steps_read_past chain (own 6) draft6 after_fills look_op refl (ap (lies_in looked_at) look_place ∙ h) ∙ ap (λ (o : ℕ). Faults [] (shows.Fault chain.number t o ∷ [])) look_place

      meets_look_fault : lies_in looked_at place ≡ false → Meets (own 0) (with_swaps d11 d12) s (runs chain (own 0) (with_swaps d11 d12) s) (Stops s (shows.Fault chain.number t place ∷ []))
      meets_look_fault h =
          meets_fault chain (own 0) (with_swaps d11 d12) s fills (shows.Fault chain.number t place ∷ []) (runs chain (own 0) (with_swaps d11 d12) s) (runs_fills Stopped [] _ (faults_here chain (own 6) draft6 after_fills (middle_drafts d11 d12) [] _ (look_faults h))) (λ p k. placed_outer (own 0) 16 (puts_of fills) s p k)

    module _ (inside : lies_in looked_at place ≡ true) where
      look_long : length look ≡ 8
      look_long = length_at looked_at place 8 (length looked_at) refl (grind (arith, nat_tests))

      look_bytes : IsBytes look
      look_bytes = All-take (λ (b : ℕ). b < 256) 8 _ (All-drop (λ (b : ℕ). b < 256) place looked_at (bytes (own 6) t))

      miss_bytes : length (bytes_at (s (space.Descriptor miss)) 0 16) ≡ 16
      miss_bytes = length_at _ 0 16 16 (whole.descriptors miss) (omega arith)

      key_is : after_look space.Key ≡ look
      key_is = all_written (s space.Key) look (room.key ∙ sym look_long)

      id_long : length id ≡ 6
      id_long = length_at look 2 6 8 look_long (omega arith)

      ids_sized : AreSized (looked ++ piece (slot 13) 2 6 id ∷ piece (slot 14) 2 6 id ∷ [])
      ids_sized = (two, (two, (six, (six, (eight, (eight, (look_long, (miss_bytes, (id_long, (id_long, tt))))))))))

      named_sized : AreSized named
      named_sized = (two, (two, (six, (six, (eight, (eight, (look_long, (miss_bytes, (id_long, (id_long, (length-spelled 8 next, (length-spelled 8 place, tt))))))))))))

      key_low : number 6 (low_at key) 0 ≡ low_48 (word_of s key)
      key_low = low_of (s (space.Cell key)) (whole.cells key).1

      look_low : number 6 id 0 ≡ low_48 (word look 0)
      look_low = low_of look look_bytes

      module _ (d11 d12 : Draft) (primed : Primed ds (own 0) (with_swaps d11 d12) s) where
        -- the ADD that raises the offset
        add_step : step chain (own 10) draft10 after_ids ≡ Went (put (slot 13) 24 (spelled 8 next) ∷ put (space.Scratch 0) 0 (spelled 8 place) ∷ []) []
        add_step =
            let offset_there : word (bytes_at (after_ids (slot 13)) 24 8) 0 ≡ place = ap (λ (l : List ℕ). word l 0) (reads (slot 13) 64 24 8 (looked ++ piece (slot 13) 2 6 id ∷ piece (slot 14) 2 6 id ∷ []) s ids_sized refl (primed13 d11 d12 primed).len refl) ∙ word_back in
            let eight_more : first_in (s (slot 10)) ≡ 8 = first_kept (writes_slot ds (own 10)) draft10 _ (primed7_on d11 d12 primed).1.1.1.0 refl (omega arith) in
            let made : ℕ → ℕ → Outcome = λ x y. Went (put (slot 13) 24 (spelled 8 ((x + y) % 2 ^ 64)) ∷ put (space.Scratch 0) 0 (spelled 8 x) ∷ []) [] in
            steps_add chain (own 10) draft10 after_ids (opcode_kept (writes_slot ds (own 10)) draft10 _ (primed7_on d11 d12 primed).1.1.1.0 tt refl) refl ∙ (ap (λ (x : ℕ). made x (first_in (s (slot 10)))) offset_there ∙ ap (λ (y : ℕ). made place y) eight_more)

        runs_names : (e : Ending) (us : List Put) (shown : List Obs) → runs chain (own 11) (last_drafts d11 d12) after_names ≡ ends e us shown → runs chain (own 0) (with_swaps d11 d12) s ≡ ends e (puts_of named ++ us) (look_event ∷ shown)
        runs_names e us shown h =
            runs_fills d11 d12 primed e _ _ (proceeds chain (own 6) draft6 after_fills e (middle_drafts d11 d12) _ _ _ _ (look_step d11 d12 primed inside) (proceeds chain (own 7) draft7 (after 7 looked) e (draft8 ∷ draft9 ∷ draft10 ∷ (last_drafts d11 d12)) _ _ _ _ (steps_fill chain (own 7) draft7 (after 7 looked) (opcode_kept (writes_slot ds (own 7)) draft7 _ (primed7_on d11 d12 primed).0 tt refl) refl refl refl refl) (proceeds chain (own 8) draft8 after_look e (draft9 ∷ draft10 ∷ (last_drafts d11 d12)) _ _ _ _ (steps_fill chain (own 8) draft8 after_look (opcode_kept (writes_slot ds (own 8)) draft8 _ (primed7_on d11 d12 primed).1.0 tt refl) refl refl refl refl ∙ ap (λ (b : List ℕ). Went (put (slot 13) 2 (bytes_at b 2 6) ∷ []) []) key_is) (proceeds chain (own 9) draft9 (after 9 named) e (draft10 ∷ (last_drafts d11 d12)) _ _ _ _ (steps_fill chain (own 9) draft9 (after 9 named) (opcode_kept (writes_slot ds (own 9)) draft9 _ (primed7_on d11 d12 primed).1.1.0 tt refl) refl refl refl refl ∙ ap (λ (b : List ℕ). Went (put (slot 14) 2 (bytes_at b 2 6) ∷ []) []) key_is) (proceeds chain (own 10) draft10 after_ids e (last_drafts d11 d12) _ _ _ _ add_step h)))))

        -- slots 11 to 14 before the comparisons
        reads11 : (o n : ℕ) → clean (slot 11) o n named ≡ true → bytes_at (after_names (slot 11)) o n ≡ seen (slot 11) o n named (bytes_at (s (slot 11)) o n)
        reads11 o n = reads (slot 11) 64 o n named s named_sized refl (primed11 d11 d12 primed).len

        reads12 : (o n : ℕ) → clean (slot 12) o n named ≡ true → bytes_at (after_names (slot 12)) o n ≡ seen (slot 12) o n named (bytes_at (s (slot 12)) o n)
        reads12 o n = reads (slot 12) 64 o n named s named_sized refl (primed12 d11 d12 primed).len

        reads13 : (o n : ℕ) → clean (slot 13) o n named ≡ true → bytes_at (after_names (slot 13)) o n ≡ seen (slot 13) o n named (bytes_at (s (slot 13)) o n)
        reads13 o n = reads (slot 13) 64 o n named s named_sized refl (primed13 d11 d12 primed).len

        reads14 : (o n : ℕ) → clean (slot 14) o n named ≡ true → bytes_at (after_names (slot 14)) o n ≡ seen (slot 14) o n named (bytes_at (s (slot 14)) o n)
        reads14 o n = reads (slot 14) 64 o n named s named_sized refl (primed14 d11 d12 primed).len

      -- with the comparisons
      module _ (primed : Primed ds (own 0) ds s) where
        op11 : opcode_in (after_names (slot 11)) ≡ Cas
        op11 = opcode_is Cas _ (reads11 draft11 draft12 primed 0 2 refl ∙ (bytes_kept (writes_slot ds (own 11)) draft11 _ (primed11 draft11 draft12 primed) 0 2 refl (omega arith) ∙ draft_opcode draft11)) tt

        op12 : opcode_in (after_names (slot 12)) ≡ Cas
        op12 = opcode_is Cas _ (reads12 draft11 draft12 primed 0 2 refl ∙ (bytes_kept (writes_slot ds (own 12)) draft12 _ (primed12 draft11 draft12 primed) 0 2 refl (omega arith) ∙ draft_opcode draft12)) tt

        new11 : second_in (after_names (slot 11)) ≡ read_word
        new11 = word_is 8 read_word 48 _ (reads11 draft11 draft12 primed 48 8 refl ∙ (bytes_kept (writes_slot ds (own 11)) draft11 _ (primed11 draft11 draft12 primed) 48 8 refl (omega arith) ∙ draft_second draft11)) (omega arith)

        new12 : second_in (after_names (slot 12)) ≡ write_word
        new12 = word_is 8 write_word 48 _ (reads12 draft11 draft12 primed 48 8 refl ∙ (bytes_kept (writes_slot ds (own 12)) draft12 _ (primed12 draft11 draft12 primed) 48 8 refl (omega arith) ∙ draft_second draft12)) (omega arith)

        operand11 : first_in (after_names (slot 11)) ≡ low_48 (word_of s key)
        unfolding spelled
        operand11 = operand_filled _ (low_at key) (reads11 draft11 draft12 primed 40 2 refl ∙ bytes_kept (writes_slot ds (own 11)) draft11 _ (primed11 draft11 draft12 primed) 40 2 refl (omega arith)) (reads11 draft11 draft12 primed 42 6 refl) ∙ key_low

        operand12 : first_in (after_names (slot 12)) ≡ low_48 (word_of s key)
        unfolding spelled
        operand12 = operand_filled _ (low_at key) (reads12 draft11 draft12 primed 40 2 refl ∙ bytes_kept (writes_slot ds (own 12)) draft12 _ (primed12 draft11 draft12 primed) 40 2 refl (omega arith)) (reads12 draft11 draft12 primed 42 6 refl) ∙ key_low

        clear13 : bytes_at (after_names (slot 13)) 0 2 ≡ 0 ∷ 0 ∷ []
        clear13 = reads13 draft11 draft12 primed 0 2 refl ∙ clear_bytes _ (whole.numbers 0)

        clear14 : bytes_at (after_names (slot 14)) 0 2 ≡ 0 ∷ 0 ∷ []
        clear14 = reads14 draft11 draft12 primed 0 2 refl ∙ clear_bytes _ (whole.numbers 0)

        abbrev word13 : ℕ
        word13 = word (bytes_at (after_names (slot 13)) 0 8) 0

        abbrev word14 : ℕ
        word14 = word (bytes_at (after_names (slot 14)) 0 8) 0

        word13_is : word13 ≡ low_48 (word look 0)
        word13_is = word_filled _ id clear13 (reads13 draft11 draft12 primed 2 6 refl) ∙ look_low

        word14_is : word14 ≡ low_48 (word look 0)
        word14_is = word_filled _ id clear14 (reads14 draft11 draft12 primed 2 6 refl) ∙ look_low

        compares13 : (b : Bool) → test ≡ b → (word13 == first_in (after_names (slot 11))) ≡ b
        compares13 b h = rw (word13_is, operand11) h

        compares14 : (b : Bool) → test ≡ b → (word14 == first_in (after_names (slot 12))) ≡ b
        compares14 b h = rw (word14_is, operand12) h

        abbrev old13 : Piece
        old13 = piece (space.Scratch 0) 0 8 (spelled 8 word13)

        abbrev old14 : Piece
        old14 = piece (space.Scratch 1) 0 8 (spelled 8 word14)

        -- no match
        abbrev missed : List Piece
        missed = named ++ old13 ∷ old14 ∷ []

        missed_sized : AreSized missed
        missed_sized = (two, (two, (six, (six, (eight, (eight, (look_long, (miss_bytes, (id_long, (id_long, (length-spelled 8 next, (length-spelled 8 place, (length-spelled 8 word13, (length-spelled 8 word14, tt))))))))))))))

        runs_missed : test ≡ false → runs chain (own 0) ds s ≡ Went (puts_of missed) (look_event ∷ [])
        runs_missed h =
            let after_missed : Bytes = placed s (puts_of missed) in
            let op13 : opcode_in (after_missed (slot 13)) ≡ Noop = opcode_clear _ clear13 in
            let op14 : opcode_in (after_missed (slot 14)) ≡ Noop = opcode_clear _ clear14 in
            runs_names draft11 draft12 primed Goes _ _ (goes_on chain (own 11) draft11 after_names (draft12 ∷ draft13 ∷ draft14 ∷ []) _ _ _ _ (steps_cas chain (own 11) draft11 after_names false (compares13 false h) op11 refl refl) (goes_on chain (own 12) draft12 (placed s (puts_of (named ++ old13 ∷ []))) (draft13 ∷ draft14 ∷ []) _ _ _ _ (steps_cas chain (own 12) draft12 (placed s (puts_of (named ++ old13 ∷ []))) false (compares14 false h) op12 refl refl) (goes_on chain (own 13) draft13 after_missed (draft14 ∷ []) _ _ _ _ (steps_noop chain (own 13) draft13 after_missed op13) (goes_on chain (own 14) draft14 after_missed [] _ _ _ _ (steps_noop chain (own 14) draft14 after_missed op14) refl))))

        meets_missed : test ≡ false → Meets (own 0) ds s (runs chain (own 0) ds s) (Leaves (chosen (own 15) miss s) (look_event ∷ []))
        meets_missed h =
            meets_went chain (own 0) ds s missed (look_event ∷ []) _ (chosen (own 15) miss s) (runs_missed h) missed_sized refl refl room primed (λ p k. placed_outer (own 0) 15 (puts_of missed) s p k ∙ ap (λ (b : List ℕ). with_put s (put (slot 15) 40 b) p) (all_bytes _ 16 (whole.descriptors miss)))

        -- a match
        abbrev turned : List Piece
        turned =
            named ++ piece (slot 13) 0 8 (spelled 8 read_word) ∷ old13 ∷ piece (slot 14) 0 8 (spelled 8 write_word) ∷ old14 ∷ []

        abbrev after_turns : Bytes
        after_turns = placed s (puts_of turned)

        turned_sized : AreSized turned
        turned_sized = (two, (two, (six, (six, (eight, (eight, (look_long, (miss_bytes, (id_long, (id_long, (length-spelled 8 next, (length-spelled 8 place, (length-spelled 8 read_word, (length-spelled 8 word13, (length-spelled 8 write_word, (length-spelled 8 word14, tt))))))))))))))))

        long13 : length (after_names (slot 13)) ≡ 64
        long13 = length_placed (slot 13) 64 named s named_sized refl (primed13 draft11 draft12 primed).len

        long14 : length (after_names (slot 14)) ≡ 64
        long14 = length_placed (slot 14) 64 named s named_sized refl (primed14 draft11 draft12 primed).len

        turns_sized : AreSized (piece (slot 13) 0 8 (spelled 8 read_word) ∷ old13 ∷ piece (slot 14) 0 8 (spelled 8 write_word) ∷ old14 ∷ [])
        turns_sized = (length-spelled 8 read_word, (length-spelled 8 word13, (length-spelled 8 write_word, (length-spelled 8 word14, tt))))

        turned13 : opcode_in (after_turns (slot 13)) ≡ Read
        turned13 = opcode_to_read _ (reads (slot 13) 64 0 8 (piece (slot 13) 0 8 (spelled 8 read_word) ∷ old13 ∷ piece (slot 14) 0 8 (spelled 8 write_word) ∷ old14 ∷ []) after_names turns_sized refl long13 refl)

        turned14 : opcode_in (after_turns (slot 14)) ≡ Write
        turned14 = opcode_to_write _ (reads (slot 14) 64 0 8 (piece (slot 13) 0 8 (spelled 8 read_word) ∷ old13 ∷ piece (slot 14) 0 8 (spelled 8 write_word) ∷ old14 ∷ []) after_names turns_sized refl long14 refl)

        next_place : remote_in (after_turns (slot 13)) ≡ next
        next_place = word_is 8 next 24 _ (reads (slot 13) 64 24 8 turned s turned_sized refl (primed13 draft11 draft12 primed).len refl) (omega arith)

        runs_turns : (e : Ending) (us : List Put) (shown : List Obs) → test ≡ true → runs chain (own 13) (draft13 ∷ draft14 ∷ []) after_turns ≡ ends e us shown → runs chain (own 0) ds s ≡ ends e (puts_of turned ++ us) (look_event ∷ shown)
        runs_turns e us shown h r =
            let after_one : Bytes = placed s (puts_of (named ++ piece (slot 13) 0 8 (spelled 8 read_word) ∷ old13 ∷ [])) in
            runs_names draft11 draft12 primed e _ _ (proceeds chain (own 11) draft11 after_names e (draft12 ∷ draft13 ∷ draft14 ∷ []) _ _ _ _ (steps_cas chain (own 11) draft11 after_names true (compares13 true h) op11 refl refl ∙ ap (λ (w : ℕ). Went (put (slot 13) 0 (spelled 8 w) ∷ put_of old13 ∷ []) []) new11) (proceeds chain (own 12) draft12 after_one e (draft13 ∷ draft14 ∷ []) _ _ _ _ (steps_cas chain (own 12) draft12 after_one true (compares14 true h) op12 refl refl ∙ ap (λ (w : ℕ). Went (put (slot 14) 0 (spelled 8 w) ∷ put_of old14 ∷ []) []) new12) r))

        abbrev value : List ℕ
        value = bytes_at loaded_from next 8

        load_faults : lies_in loaded_from next ≡ false → step chain (own 13) draft13 after_turns ≡ Faults [] (shows.Fault chain.number t next ∷ [])
        load_faults k =
            steps_read_past chain (own 13) draft13 after_turns turned13 refl (ap (lies_in loaded_from) next_place ∙ k) ∙ ap (λ (o : ℕ). Faults [] (shows.Fault chain.number t o ∷ [])) next_place

        meets_load_fault : test ≡ true → lies_in loaded_from next ≡ false → Meets (own 0) ds s (runs chain (own 0) ds s) (Stops s (look_event ∷ shows.Fault chain.number t next ∷ []))
        meets_load_fault h k =
            meets_fault chain (own 0) ds s turned (look_event ∷ shows.Fault chain.number t next ∷ []) (runs chain (own 0) ds s) (runs_turns Stopped [] _ h (faults_here chain (own 13) draft13 after_turns (draft14 ∷ []) [] _ (load_faults k))) (λ p m. placed_outer (own 0) 16 (puts_of turned) s p m)

        module _ (target : IsTarget to) (has_value : lies_in loaded_from next ≡ true) where
          value_long : length value ≡ 8
          value_long = length_at loaded_from next 8 (length loaded_from) refl (grind (arith, nat_tests))

          hit_bytes : length (bytes_at (s (space.Descriptor hit)) 0 16) ≡ 16
          hit_bytes = length_at _ 0 16 16 (whole.descriptors hit) (omega arith)

          abbrev done : List Piece
          done =
              turned ++ piece (space.Cell to) 0 8 value ∷ piece (slot 15) 40 16 (bytes_at (s (space.Descriptor hit)) 0 16) ∷ []

          done_sized : AreSized done
          done_sized = (two, (two, (six, (six, (eight, (eight, (look_long, (miss_bytes, (id_long, (id_long, (length-spelled 8 next, (length-spelled 8 place, (length-spelled 8 read_word, (length-spelled 8 word13, (length-spelled 8 write_word, (length-spelled 8 word14, (value_long, (hit_bytes, tt))))))))))))))))))

          load_step : step chain (own 13) draft13 after_turns ≡ Went (put (space.Cell to) 0 value ∷ []) (load_event chain.number to t next (word value 0))
          load_step =
              steps_read chain (own 13) draft13 after_turns turned13 refl (ap (lies_in loaded_from) next_place ∙ has_value) ∙ (target_loads _ chain.number (word (bytes_at loaded_from (remote_in (after_turns (slot 13))) 8) 0) t (request_of (after_turns (slot 13)) draft13) to target refl refl ∙ ap (λ (o : ℕ). let b : List ℕ = bytes_at loaded_from o 8 in Went (put (space.Cell to) 0 b ∷ []) (load_event chain.number to t o (word b 0))) next_place)

          runs_done : test ≡ true → runs chain (own 0) ds s ≡ Went (puts_of done) (look_event ∷ load_event chain.number to t next (word value 0))
          runs_done h =
              runs_turns Goes _ _ h (goes_on chain (own 13) draft13 after_turns (draft14 ∷ []) _ _ _ _ load_step (goes_on chain (own 14) draft14 (after 17 done) [] _ _ [] _ (steps_fill chain (own 14) draft14 (after 17 done) turned14 refl refl refl refl) refl)) ∙ ap (λ (l : List Obs). Went (puts_of done) (look_event ∷ l)) (append-nil (load_event chain.number to t next (word value 0)))

          spaces_done : (p : Space) → is_own (own 0) 15 p ≡ false → placed s (puts_of done) p ≡ chosen (own 15) hit (holding s (space.Cell to) value) p
          spaces_done p k = placed_outer (own 0) 15 (puts_of done) s p k ∙ by_space p
            where
              to_miss : List ℕ
              to_miss = bytes_at (s (space.Descriptor miss)) 0 16

              to_hit : List ℕ
              to_hit = bytes_at (s (space.Descriptor hit)) 0 16

              by_space : (p : Space) → placed s (put (slot 15) 40 to_miss ∷ put (space.Cell to) 0 value ∷ put (slot 15) 40 to_hit ∷ []) p ≡ chosen (own 15) hit (holding s (space.Cell to) value) p
              by_space (space.Cell c) = put_is_holding s whole to value value_long (space.Cell c)
              by_space (space.Slot q) =
                  let last : length (s (slot 15)) ≡ 64 = last_long draft11 draft12 primed in
                  let fits : 40 + length to_miss ≤ length (s (slot 15)) = let e : length to_miss ≡ 16 = miss_bytes in omega arith in
                  placed_again s (own 15) 40 to_miss to_hit (space.Slot q) (miss_bytes ∙ sym hit_bytes) fits ∙ ap (λ (b : List ℕ). with_put s (put (slot 15) 40 b) (space.Slot q)) (all_bytes _ 16 (whole.descriptors hit))
              by_space _ = refl

          meets_done : test ≡ true → Meets (own 0) ds s (runs chain (own 0) ds s) (Leaves (chosen (own 15) hit (holding s (space.Cell to) value)) (look_event ∷ load_event chain.number to t next (word value 0)))
          meets_done h =
              meets_went chain (own 0) ds s done (look_event ∷ load_event chain.number to t next (word value 0)) _ (chosen (own 15) hit (holding s (space.Cell to) value)) (runs_done h) done_sized refl refl room primed spaces_done

      -- with a NOOP in place of each
      module _ (primed : Primed plain_ds (own 0) plain_ds s) where
        stays11 : opcode_in (after_names (slot 11)) ≡ Noop
        stays11 = opcode_is Noop _ (reads11 plain11 plain12 primed 0 2 refl ∙ (bytes_kept (writes_slot ds (own 11)) plain11 _ (primed11 plain11 plain12 primed) 0 2 refl (omega arith) ∙ draft_opcode plain11)) tt

        stays12 : opcode_in (after_names (slot 12)) ≡ Noop
        stays12 = opcode_is Noop _ (reads12 plain11 plain12 primed 0 2 refl ∙ (bytes_kept (writes_slot ds (own 12)) plain12 _ (primed12 plain11 plain12 primed) 0 2 refl (omega arith) ∙ draft_opcode plain12)) tt

        stays13 : opcode_in (after_names (slot 13)) ≡ Noop
        stays13 = opcode_clear _ (reads13 plain11 plain12 primed 0 2 refl ∙ clear_bytes _ (whole.numbers 0))

        stays14 : opcode_in (after_names (slot 14)) ≡ Noop
        stays14 = opcode_clear _ (reads14 plain11 plain12 primed 0 2 refl ∙ clear_bytes _ (whole.numbers 0))

        runs_past : runs chain (own 0) plain_ds s ≡ Went (puts_of named) (look_event ∷ [])
        runs_past =
            runs_names plain11 plain12 primed Goes _ _ (goes_on chain (own 11) plain11 after_names (plain12 ∷ draft13 ∷ draft14 ∷ []) _ _ _ _ (steps_noop chain (own 11) plain11 after_names stays11) (goes_on chain (own 12) plain12 after_names (draft13 ∷ draft14 ∷ []) _ _ _ _ (steps_noop chain (own 12) plain12 after_names stays12) (goes_on chain (own 13) draft13 after_names (draft14 ∷ []) _ _ _ _ (steps_noop chain (own 13) draft13 after_names stays13) (goes_on chain (own 14) draft14 after_names [] _ _ _ _ (steps_noop chain (own 14) draft14 after_names stays14) refl))))

        meets_past : Meets (own 0) plain_ds s (runs chain (own 0) plain_ds s) (Leaves (chosen (own 15) miss s) (look_event ∷ []))
        meets_past =
            meets_went chain (own 0) plain_ds s named (look_event ∷ []) _ (chosen (own 15) miss s) runs_past named_sized refl refl room primed (λ p k. placed_outer (own 0) 15 (puts_of named) s p k ∙ ap (λ (b : List ℕ). with_put s (put (slot 15) 40 b) p) (all_bytes _ 16 (whole.descriptors miss)))

    module _ (primed : Primed ds (own 0) ds s) where
      meets : IsTarget to → Meets (own 0) ds s (runs chain (own 0) ds s) (probes to t offset key hit miss (own 6) (own 13) (own 15) chain s)
      meets target =
          elim (lies_in looked_at place) as (λ b. lies_in looked_at place ≡ b → Meets (own 0) ds s (runs chain (own 0) ds s) (if b then hits_or_misses else Stops s (shows.Fault chain.number t place ∷ []))) [
            | false ↦ λ h. meets_look_fault draft11 draft12 primed h
            | true ↦ λ h.
                elim (test) as (λ b. test ≡ b → Meets (own 0) ds s (runs chain (own 0) ds s) (if b then hits else misses)) [
                  | false ↦ λ k. meets_missed h primed k
                  | true ↦ λ k.
                      elim (lies_in loaded_from next) as (λ b. lies_in loaded_from next ≡ b → Meets (own 0) ds s (runs chain (own 0) ds s) (if b then loads_value else Stops s (look_event ∷ shows.Fault chain.number t ((place + 8) % 2 ^ 64) ∷ []))) [
                        | false ↦ λ l. meets_load_fault h primed k l
                        | true ↦ λ l. meets_done h primed target l k
                      ] refl
                ] refl
          ] refl
        where
          the_next : ℕ
          the_next = (place + 8) % 2 ^ 64

          loads_value : Effect
          loads_value = Leaves (chosen (own 15) hit (holding s (space.Cell to) (bytes_at loaded_from the_next 8))) (look_event ∷ load_event chain.number to t the_next (word (bytes_at loaded_from the_next 8) 0))

          misses : Effect
          misses = Leaves (chosen (own 15) miss s) (look_event ∷ [])

          hits : Effect
          hits = if lies_in loaded_from the_next then loads_value else Stops s (look_event ∷ shows.Fault chain.number t the_next ∷ [])

          hits_or_misses : Effect
          hits_or_misses = if low_48 (word look 0) == low_48 (word_of s key) then hits else misses

    module _ (primed : Primed plain_ds (own 0) plain_ds s) where
      pub meets_plainly : Meets (own 0) plain_ds s (runs chain (own 0) plain_ds s) (looks t offset miss (own 6) (own 15) chain s)
      meets_plainly =
          elim (lies_in looked_at place) as (λ b. lies_in looked_at place ≡ b → Meets (own 0) plain_ds s (runs chain (own 0) plain_ds s) (if b then Leaves (chosen (own 15) miss s) (look_event ∷ []) else Stops s (shows.Fault chain.number t place ∷ []))) [
            | false ↦ λ h. meets_look_fault plain11 plain12 primed h
            | true ↦ λ h. meets_past h primed
          ] refl

module _ (to : Cell) (t : ℕ) (offset key : Cell) (hit miss : ℕ) (ring first : ℕ) (chain : View) (s : Bytes) where
  abbrev at : SlotRef → SlotRef
  at = moved ring first

  abbrev looked_bytes : List ℕ
  looked_bytes = chain.tables (at (own 6)) t

  abbrev loaded_bytes : List ℕ
  loaded_bytes = chain.tables (at (own 13)) t

  abbrev raised : ℕ
  raised = (word_of s offset + 8) % 2 ^ 64

  abbrev seen_word : ℕ
  seen_word = word (bytes_at looked_bytes (word_of s offset) 8) 0

  abbrev look_shown : Obs
  look_shown = shows.Look chain.number t (word_of s offset) seen_word

  abbrev value_at : List ℕ
  value_at = bytes_at loaded_bytes raised 8

  abbrev hit_events : List Obs
  hit_events = look_shown ∷ load_event chain.number to t raised (word value_at 0)

  abbrev hits : Bytes → SlotRef → Effect
  hits u last = Leaves (chosen last hit (holding u (space.Cell to) value_at)) hit_events

  abbrev misses : Bytes → SlotRef → Effect
  misses u last = Leaves (chosen last miss u) (look_shown ∷ [])

  abbrev stops_late : Bytes → Effect
  stops_late u = Stops u (look_shown ∷ shows.Fault chain.number t raised ∷ [])

  abbrev stops : Bytes → Effect
  stops u = Stops u (shows.Fault chain.number t (word_of s offset) ∷ [])

  abbrev loads_or_stops : Bytes → SlotRef → Effect
  loads_or_stops u last = if lies_in loaded_bytes raised then hits u last else stops_late u

  abbrev by_key : Bytes → SlotRef → Effect
  by_key u last = if low_48 seen_word == low_48 (word_of s key) then loads_or_stops u last else misses u last

  same_probes : IsSame at s (probes to t offset key hit miss (own 6) (own 13) (own 15) (pulled_view at chain) (pulled at s)) (probes to t offset key hit miss (at (own 6)) (at (own 13)) (at (own 15)) chain s)
  same_probes =
      let old : Bytes = pulled at s in
      let same_hits : IsSame at s (hits old (own 15)) (hits s (at (own 15))) = same_chosen_of ring first s (own 15) hit (holding old (space.Cell to) value_at) (holding s (space.Cell to) value_at) hit_events hit_events (same_holding ring first s to value_at hit_events) in
      let same_misses : IsSame at s (misses old (own 15)) (misses s (at (own 15))) = same_chosen ring first s (own 15) miss (look_shown ∷ []) in
      let same_loads_or_stops : IsSame at s (loads_or_stops old (own 15)) (loads_or_stops s (at (own 15))) = same_either ring first s (lies_in loaded_bytes raised) (hits old (own 15)) (stops_late old) (hits s (at (own 15))) (stops_late s) same_hits (same_stops ring first s (look_shown ∷ shows.Fault chain.number t raised ∷ [])) in
      let same_by_key : IsSame at s (by_key old (own 15)) (by_key s (at (own 15))) = same_either ring first s (low_48 seen_word == low_48 (word_of s key)) (loads_or_stops old (own 15)) (misses old (own 15)) (loads_or_stops s (at (own 15))) (misses s (at (own 15))) same_loads_or_stops same_misses in
      same_either ring first s (lies_in looked_bytes (word_of s offset)) (by_key old (own 15)) (stops old) (by_key s (at (own 15))) (stops s) same_by_key (same_stops ring first s (shows.Fault chain.number t (word_of s offset) ∷ []))

probe_opcodes : (to : Cell) (t : ℕ) (offset key : Cell) (hit miss : ℕ) → IsTarget to → tells (own 0) (probe own to t offset key hit miss) ≡ true
unfolding number spelled opcode_named
probe_opcodes (Argument i) t offset key hit miss target = absurd target
probe_opcodes (Num n) t offset key hit miss target = absurd target
probe_opcodes _ t offset key hit miss target = refl

pub probe_suits : (to : Cell) → IsTarget to → (t : ℕ) (offset key : Cell) (hit miss : ℕ) → suiting [] (own 0) (drafts_of (probe own to t offset key hit miss)) ≡ true
unfolding number spelled opcode_named
probe_suits (Argument i) target t offset key hit miss = absurd target
probe_suits (Num n) target t offset key hit miss = absurd target
probe_suits _ target t offset key hit miss = refl

pub probe_is : (to : Cell) → IsTarget to → (t : ℕ) (offset key : Cell) (hit miss : ℕ) → IsTemplate (λ (slot : ℕ → SlotRef). probe slot to t offset key hit miss) (λ (slot : ℕ → SlotRef). probes to t offset key hit miss (slot 6) (slot 13) (slot 15)) 6 15 1
probe_is to target t offset key hit miss =
    record {
      segments_are = λ slot. refl;
      drafts_are = λ slot. refl;
      filled = λ slot. refl;
      one_event = λ slot. refl;
      apart = refl;
      stays = refl;
      renames = λ ring first. refl;
      renames_segments = λ ring first. refl;
      same = λ ring first chain s. same_probes to t offset key hit miss ring first chain s;
      tame = λ ring first. tame_probes (slot_ref ring first) 15 to t offset key hit miss (slot_from ring first 6) (slot_from ring first 13) target;
      does = λ chain bytes s whole room primed. meets chain s to t offset key hit miss bytes whole room primed target;
      opcodes = probe_opcodes to t offset key hit miss target;
    }
