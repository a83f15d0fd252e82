-- Templates computed on one state: as it is at the start, as one lap leaves it, and with 255 in each byte that a draft writes.
use Rattle.std.proofs.Common.{◌≡◌, ℕ, ◌+◌, ◌*◌, ◌^◌, ◌-◌, List, [], ◌∷◌, get_or, map, replicate, refl}
use Rattle.std.specs.Prelude.{if◌then◌else◌, slice_index}
use Rattle.std.specs.List.{range_with_len}
use Rattle.redn_words.specs.declared.types.Obs.{Obs}
use Rattle.redn_words.specs.declared.types.Obs.TheVariants as shows
use Rattle.redn_words.specs.Words.{number, spelled}
use Rattle.redn_words.specs.Requests.{opcode_named}
use Rattle.redn_kernel.specs.declared.types.Cell.TheVariants.{Var, Hidden, Num}
use Rattle.redn_segment.specs.declared.types.Draft.{Draft}
use Rattle.redn_segment.specs.declared.types.SlotRef.{SlotRef}
use Rattle.redn_segment.specs.declared.types.Space.{Space}
use Rattle.redn_segment.specs.declared.types.Space.TheVariants as space
use Rattle.redn_segment.specs.declared.types.Site.TheVariants as site
use Rattle.redn_segment.specs.Building.{drafts_of}
use Rattle.redn_segment.specs.Drafts.{slot_from, turnable}
use Rattle.redn_segment.specs.Plain.{Bytes, View, placed, Outcome, Went, Faults, Bad, acts, runs}
use Rattle.redn_segment.specs.Primed.{draft_bytes, writes_slot}
use Rattle.redn_move.specs.Moves.{move_word, add_number, add_cell, load, store, jump}
use Rattle.redn_move.specs.Replying.{reply}

abbrev own : ℕ → SlotRef
own k = slot_from 0 0 k

-- table 0 has the words 5 and 9
abbrev table : List ℕ
table = spelled 16 (5 * 2 ^ 64 + 9)

abbrev view : View
view = record { number = 2; tables = λ (q : SlotRef) (t : ℕ). table }

abbrev nothing : Draft
nothing = turnable site.Key site.Key 0 0

-- the slots have their drafts' bytes, variables 0 and 1 these words, and each ring's descriptor its number and 7
abbrev state : List Draft → ℕ → ℕ → Bytes
state ds x y (space.Cell (Var i)) = spelled 8 (get_or (x ∷ y ∷ []) i 0)
state ds x y (space.Cell (Num n)) = spelled 8 n
state ds x y (space.Cell c) = replicate 8 0
state ds x y space.Reply = replicate 64 0
state ds x y space.Key = replicate 8 0
state ds x y (space.Scratch i) = replicate 8 0
state ds x y (space.Descriptor ring) = spelled 16 (ring * 2 ^ 64 + 7)
state ds x y (space.Slot q) = draft_bytes (get_or ds q.slot nothing)
state ds x y (space.Table t) = table

-- any bytes where drafts write
abbrev soiled : List Draft → Bytes → Bytes
soiled ds s (space.Slot q) = map (λ (i : ℕ). if writes_slot ds q i then 255 else slice_index (s (space.Slot q)) i) (range_with_len 0 64)
soiled ds s p = s p

abbrev ran : List Draft → Bytes → Outcome
ran ds s = runs view (own 0) ds s

abbrev left_by : Bytes → Outcome → Bytes
left_by s (Went us shown) = placed s us
left_by s (Faults us shown) = placed s us
left_by s Bad = λ (p : Space). []

abbrev shown_by : Outcome → List Obs
shown_by (Went us shown) = shown
shown_by (Faults us shown) = shown
shown_by Bad = shows.Odd 0 0 ∷ []

-- the events of two laps, and of one over any bytes
abbrev thrice : List Draft → Bytes → List (List Obs)
thrice ds s = shown_by (ran ds s) ∷ shown_by (ran ds (left_by s (ran ds s))) ∷ shown_by (ran ds (soiled ds s)) ∷ []

-- a word whose top bits spell the opcode of a CAS is a word like others
abbrev odd_word : ℕ
odd_word = 3 * 2 ^ 48 + 5

moved : thrice (drafts_of (move_word own (Var 1) (Var 0))) (state (drafts_of (move_word own (Var 1) (Var 0))) odd_word 6) ≡ replicate 3 (shows.Set 2 1 odd_word ∷ [])
unfolding acts opcode_named number spelled
moved = refl

set : thrice (drafts_of (move_word own (Var 1) (Num 7))) (state (drafts_of (move_word own (Var 1) (Num 7))) 5 6) ≡ replicate 3 (shows.Set 2 1 7 ∷ [])
unfolding acts opcode_named number spelled
set = refl

-- hidden words show nothing
hidden : thrice (drafts_of (move_word own (Hidden 0) (Var 0))) (state (drafts_of (move_word own (Hidden 0) (Var 0))) 5 6) ≡ replicate 3 []
unfolding acts opcode_named number spelled
hidden = refl

-- a sum wraps
sums : thrice (drafts_of (add_number own (Var 1) 2)) (state (drafts_of (add_number own (Var 1) 2)) 5 (2 ^ 64 - 1)) ≡ (shows.Set 2 1 1 ∷ []) ∷ (shows.Set 2 1 3 ∷ []) ∷ (shows.Set 2 1 1 ∷ []) ∷ []
unfolding acts opcode_named number spelled
sums = refl

sums_of_cells : thrice (drafts_of (add_cell own (Var 1) (Var 0))) (state (drafts_of (add_cell own (Var 1) (Var 0))) odd_word 1) ≡ (shows.Set 2 1 (odd_word + 1) ∷ []) ∷ (shows.Set 2 1 (2 * odd_word + 1) ∷ []) ∷ (shows.Set 2 1 (odd_word + 1) ∷ []) ∷ []
unfolding acts opcode_named number spelled
sums_of_cells = refl

-- the last word of the table, and one byte further
abbrev loading : List Draft
loading = drafts_of (load own (Var 1) 0 (Var 0))

loaded : thrice loading (state loading 8 6) ≡ replicate 3 (shows.Load 2 1 0 8 9 ∷ [])
unfolding acts opcode_named number spelled
loaded = refl

load_past : thrice loading (state loading 9 6) ≡ replicate 3 (shows.Fault 2 0 9 ∷ [])
unfolding acts opcode_named number spelled
load_past = refl

abbrev storing : List Draft
storing = drafts_of (store own 0 (Var 0) (Var 1))

stored : thrice storing (state storing 8 odd_word) ≡ replicate 3 (shows.Store 2 0 8 odd_word ∷ [])
unfolding acts opcode_named number spelled
stored = refl

stored_bytes : left_by (state storing 8 odd_word) (ran storing (state storing 8 odd_word)) (space.Table 0) ≡ spelled 16 (5 * 2 ^ 64 + odd_word)
unfolding acts opcode_named number spelled
stored_bytes = refl

store_past : thrice storing (state storing (2 ^ 64 - 1) 6) ≡ replicate 3 (shows.Fault 2 0 (2 ^ 64 - 1) ∷ [])
unfolding acts opcode_named number spelled
store_past = refl

-- what the last ENABLE would open: a ring and a limit
abbrev jumping : List Draft
jumping = drafts_of (jump own 3)

abbrev opened : Bytes → List ℕ
opened s = let b : List ℕ = left_by s (ran jumping s) (space.Slot (own 1)) in number 8 b 40 ∷ number 8 b 48 ∷ []

jumps_to : opened (state jumping 5 6) ∷ opened (left_by (state jumping 5 6) (ran jumping (state jumping 5 6))) ∷ opened (soiled jumping (state jumping 5 6)) ∷ [] ≡ replicate 3 (3 ∷ 7 ∷ [])
unfolding acts opcode_named number spelled
jumps_to = refl

abbrev replying : List Draft
replying = drafts_of (reply (Var 1 ∷ Num 4 ∷ Var 0 ∷ []))

replied : thrice replying (state replying odd_word 6) ≡ replicate 3 (shows.Reply 2 3 (6 ∷ 4 ∷ odd_word ∷ 0 ∷ 0 ∷ 0 ∷ 0 ∷ 0 ∷ []) ∷ [])
unfolding acts opcode_named number spelled
replied = refl
