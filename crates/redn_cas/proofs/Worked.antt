-- Tests computed on one state, and what a wrong fill does.
use Rattle.std.proofs.Common.{◌≡◌, ℕ, ◌+◌, ◌*◌, ◌^◌, true, false, List, [], ◌∷◌, get_or, map, replicate, refl}
use Rattle.std.specs.Prelude.{if◌then◌else◌, ◌==◌, slice_index}
use Rattle.std.specs.List.{range_with_len, count_by}
use Rattle.redn_segment.specs.declared.types.Space.{Space}
use Rattle.redn_cas.specs.WithoutCas.{without_cas}
use Rattle.redn_words.specs.declared.types.Obs.{Obs}
use Rattle.redn_words.specs.declared.types.Obs.TheVariants as shows
use Rattle.redn_words.specs.Words.{with_bytes_at, number, spelled}
use Rattle.redn_words.specs.Requests.{opcode_named}
use Rattle.redn_kernel.specs.declared.types.Cell.TheVariants.{Var, Num}
use Rattle.redn_segment.specs.declared.types.Draft.{Draft}
use Rattle.redn_segment.specs.declared.types.SlotRef.{SlotRef}
use Rattle.redn_segment.specs.declared.types.Space.TheVariants as space
use Rattle.redn_segment.specs.declared.types.Site.TheVariants as site
use Rattle.redn_segment.specs.Building.{drafts_of}
use Rattle.redn_segment.specs.Drafts.{slot_from, field, copy, swap_in, turnable, clear, fill_low, compare_low, choose, write_word, cas_word}
use Rattle.redn_segment.specs.Plain.{Bytes, View, placed, Outcome, Went, Faults, Bad, acts, runs}
use Rattle.redn_segment.specs.Primed.{draft_bytes, writes_slot}
use Rattle.redn_segment.specs.Footprints.{is_apart}
use Rattle.redn_segment.specs.Opcodes.{turns}
use Rattle.redn_cas.specs.Tests.{test48, test64, probe}

abbrev own : ℕ → SlotRef
own k = slot_from 0 0 k

-- a chain, with table 0 a key 5 and the value 9
abbrev view : ℕ → View
view chain = record { number = chain; tables = λ (q : SlotRef) (t : ℕ). spelled 16 (5 * 2 ^ 64 + 9) }

abbrev nothing : Draft
nothing = turnable site.Key site.Key 0 0

-- the slots have their drafts' bytes, variables 0 and 1 these words, and each ring's descriptor its number and 7
abbrev state : List Draft → ℕ → ℕ → Bytes
state ds x y (space.Cell (Var i)) = spelled 8 (get_or (x ∷ y ∷ []) i 0)
state ds x y (space.Cell (Num n)) = spelled 8 n
state ds x y (space.Cell c) = replicate 8 0
state ds x y space.Reply = replicate 64 0
state ds x y space.Key = replicate 8 0
state ds x y (space.Scratch i) = replicate 8 0
state ds x y (space.Descriptor ring) = spelled 16 (ring * 2 ^ 64 + 7)
state ds x y (space.Slot q) = draft_bytes (get_or ds q.slot nothing)
state ds x y (space.Table t) = []

-- what the last ENABLE would open after the drafts: a ring and a limit
abbrev opens : Bytes → SlotRef → Outcome → List ℕ
opens s last (Went us shown) = number 8 (placed s us (space.Slot last)) 40 ∷ number 8 (placed s us (space.Slot last)) 48 ∷ []
opens s last (Faults us shown) = []
opens s last Bad = 99 ∷ []

abbrev low_test : List Draft
low_test = drafts_of (test48 own (Var 0) (Var 1) 3 4)

abbrev tested : ℕ → ℕ → List ℕ
tested x y = let s : Bytes = state low_test x y in opens s (own 6) (runs (view 0) (own 0) low_test s)

equal : tested 5 5 ≡ 3 ∷ 7 ∷ []
unfolding acts opcode_named number spelled
equal = refl

different : tested 5 6 ≡ 4 ∷ 7 ∷ []
unfolding acts opcode_named number spelled
different = refl

-- the high 16 bits don't matter here
high_bits : tested (9 * 2 ^ 48 + 5) 5 ≡ 3 ∷ 7 ∷ []
unfolding acts opcode_named number spelled
high_bits = refl

abbrev wide_test : List Draft
wide_test = drafts_of (test64 own (Var 0) (Var 1) 3 4)

abbrev widely : ℕ → ℕ → List ℕ
widely x y = let s : Bytes = state wide_test x y in opens s (own 10) (runs (view 0) (own 0) wide_test s)

wide_equal : widely (9 * 2 ^ 48 + 5) (9 * 2 ^ 48 + 5) ≡ 3 ∷ 7 ∷ []
unfolding acts opcode_named number spelled
wide_equal = refl

wide_different : widely (9 * 2 ^ 48 + 5) 5 ≡ 4 ∷ 7 ∷ []
unfolding acts opcode_named number spelled
wide_different = refl

-- a look at offset 0 of table 0, into variable 1
abbrev look : List Draft
look = drafts_of (probe own (Var 1) 0 (Num 0) (Var 0) 3 4)

abbrev outcome : ℕ → Outcome
outcome key = runs (view 2) (own 0) look (state look key 0)

abbrev events_of : Outcome → List Obs
events_of (Went us shown) = shown
events_of (Faults us shown) = shown
events_of Bad = []

found : events_of (outcome 5) ≡ shows.Look 2 0 0 5 ∷ shows.Load 2 1 0 8 9 ∷ []
unfolding acts opcode_named number spelled
found = refl

missed : events_of (outcome 6) ≡ shows.Look 2 0 0 5 ∷ []
unfolding acts opcode_named number spelled
missed = refl

-- two laps, and one over any bytes where drafts write
abbrev soiled : List Draft → Bytes → Bytes
soiled ds s (space.Slot q) = map (λ (i : ℕ). if writes_slot ds q i then 255 else slice_index (s (space.Slot q)) i) (range_with_len 0 64)
soiled ds s p = s p

abbrev left_by : Bytes → Outcome → Bytes
left_by s (Went us shown) = placed s us
left_by s (Faults us shown) = placed s us
left_by s Bad = λ (p : Space). []

abbrev ran : List Draft → Bytes → Outcome
ran ds s = runs (view 2) (own 0) ds s

abbrev choices : List Draft → SlotRef → Bytes → List (List ℕ)
choices ds last s =
    let second : Bytes = left_by s (ran ds s) in
    let third : Bytes = soiled ds s in
    opens s last (ran ds s) ∷ opens second last (ran ds second) ∷ opens third last (ran ds third) ∷ []

-- top bits that spell an opcode don't reach one
abbrev odd_word : ℕ
odd_word = 3 * 2 ^ 48 + 5

low_laps : choices low_test (own 6) (state low_test odd_word 5) ≡ replicate 3 (3 ∷ 7 ∷ [])
unfolding acts opcode_named number spelled
low_laps = refl

low_laps_differ : choices low_test (own 6) (state low_test odd_word 6) ≡ replicate 3 (4 ∷ 7 ∷ [])
unfolding acts opcode_named number spelled
low_laps_differ = refl

wide_laps : choices wide_test (own 10) (state wide_test odd_word odd_word) ≡ replicate 3 (3 ∷ 7 ∷ [])
unfolding acts opcode_named number spelled
wide_laps = refl

-- equal low and different high bits, and the other way round
wide_laps_differ_high : choices wide_test (own 10) (state wide_test odd_word 5) ≡ replicate 3 (4 ∷ 7 ∷ [])
unfolding acts opcode_named number spelled
wide_laps_differ_high = refl

wide_laps_differ_low : choices wide_test (own 10) (state wide_test odd_word (3 * 2 ^ 48 + 6)) ≡ replicate 3 (4 ∷ 7 ∷ [])
unfolding acts opcode_named number spelled
wide_laps_differ_low = refl

abbrev laps_shown : List Draft → Bytes → List (List Obs)
laps_shown ds s =
    events_of (ran ds s) ∷ events_of (ran ds (left_by s (ran ds s))) ∷ events_of (ran ds (soiled ds s)) ∷ []

hit_laps : choices look (own 15) (state look 5 0) ≡ replicate 3 (3 ∷ 7 ∷ [])
unfolding acts opcode_named number spelled
hit_laps = refl

hit_laps_shown : laps_shown look (state look 5 0) ≡ replicate 3 (shows.Look 2 0 0 5 ∷ shows.Load 2 1 0 8 9 ∷ [])
unfolding acts opcode_named number spelled
hit_laps_shown = refl

-- the key's low 48 bits count
hit_odd : laps_shown look (state look odd_word 0) ≡ replicate 3 (shows.Look 2 0 0 5 ∷ shows.Load 2 1 0 8 9 ∷ [])
unfolding acts opcode_named number spelled
hit_odd = refl

miss_laps : choices look (own 15) (state look 6 0) ≡ replicate 3 (4 ∷ 7 ∷ [])
unfolding acts opcode_named number spelled
miss_laps = refl

-- a look past the table, and a load past it whose look is inside
abbrev look_at : ℕ → List Draft
look_at o = drafts_of (probe own (Var 1) 0 (Num o) (Var 0) 3 4)

look_past : laps_shown (look_at 9) (state (look_at 9) 5 0) ≡ replicate 3 (shows.Fault 2 0 9 ∷ [])
unfolding acts opcode_named number spelled
look_past = refl

load_past : laps_shown (look_at 8) (state (look_at 8) 9 0) ≡ replicate 3 (shows.Look 2 0 8 9 ∷ shows.Fault 2 0 16 ∷ [])
unfolding acts opcode_named number spelled
load_past = refl

-- how many drafts turn each slot that is turned, and the slot behind
turned_low : map (λ (k : ℕ). count_by (turns (own k)) low_test) (5 ∷ 6 ∷ []) ≡ 1 ∷ 0 ∷ []
turned_low = refl

turned_wide : map (λ (k : ℕ). count_by (turns (own k)) wide_test) (8 ∷ 9 ∷ 10 ∷ []) ≡ 1 ∷ 1 ∷ 0 ∷ []
turned_wide = refl

turned_look : map (λ (k : ℕ). count_by (turns (own k)) look) (13 ∷ 14 ∷ 15 ∷ []) ≡ 1 ∷ 1 ∷ 0 ∷ []
turned_look = refl

-- with a NOOP in place of the CAS equal words are not seen, and a key that is there is missed
unseen : (let ds : List Draft = map without_cas low_test in choices ds (own 6) (state ds 5 5)) ≡ replicate 3 (4 ∷ 7 ∷ [])
unfolding acts opcode_named number spelled
unseen = refl

unseen_wide : (let ds : List Draft = map without_cas wide_test in choices ds (own 10) (state ds 5 5)) ≡ replicate 3 (4 ∷ 7 ∷ [])
unfolding acts opcode_named number spelled
unseen_wide = refl

unseen_key : (let ds : List Draft = map without_cas look in laps_shown ds (state ds 5 0)) ≡ replicate 3 (shows.Look 2 0 0 5 ∷ [])
unfolding acts opcode_named number spelled
unseen_key = refl

-- a fill of all eight bytes lets data into the opcode
abbrev wrong : List Draft
wrong =
    clear (own 5) ∷ copy (site.Cell (Var 0)) 0 (field (own 5) 0 8) 8 ∷ compare_low (site.Cell (Var 1)) (own 3) ∷ swap_in 0 (field (own 5) 0 8) write_word ∷ choose 4 (own 6) ∷ turnable (site.Descriptor 3) (field (own 6) 40 16) 16 0 ∷ []

wrong_fill : runs (view 0) (own 0) wrong (state wrong (9 * 2 ^ 48 + 5) 6) ≡ Bad
unfolding acts opcode_named number spelled
wrong_fill = refl

-- footprints
apart : is_apart (clear (own 5) ∷ fill_low (site.Cell (Var 0)) (own 5) ∷ []) (own 0) ≡ true
apart = refl

same_bytes : is_apart (clear (own 5) ∷ copy (site.Cell (Var 0)) 0 (field (own 5) 0 8) 8 ∷ []) (own 0) ≡ false
same_bytes = refl

own_slot : is_apart (clear (own 1) ∷ fill_low (site.Cell (Var 0)) (own 5) ∷ []) (own 0) ≡ false
own_slot = refl

-- with fills of the top two bytes alone, bytes 2 to 5 of slot 9 may be anything, since slot 8 is turned into a CAS on them; and then equal words are told apart
abbrev short_fills : List Draft
short_fills =
    clear (own 8) ∷ fill_low (site.Cell (Var 0)) (own 8) ∷ compare_low (site.Cell (Var 1)) (own 6) ∷ clear (own 9) ∷ copy (site.Cell (Var 0)) 0 (field (own 9) 6 2) 2 ∷ copy (site.Cell (Var 1)) 0 (field (own 8) 46 2) 2 ∷ swap_in 0 (field (own 8) 0 8) cas_word ∷ choose 4 (own 10) ∷ turnable (site.Scratch 0) (field (own 9) 0 8) 8 write_word ∷ turnable (site.Descriptor 3) (field (own 10) 40 16) 16 0 ∷ []

abbrev left_over : Bytes
left_over (space.Slot q) =
    if q.slot == 9 then with_bytes_at (state short_fills 5 5 (space.Slot q)) 2 (1 ∷ 1 ∷ 1 ∷ 1 ∷ []) else state short_fills 5 5 (space.Slot q)
left_over p = state short_fills 5 5 p

may_be_written : writes_slot short_fills (own 9) 2 ≡ true
may_be_written = refl

equal_words_differ : opens left_over (own 10) (runs (view 0) (own 0) short_fills left_over) ≡ 4 ∷ 7 ∷ []
unfolding acts opcode_named number spelled
equal_words_differ = refl
