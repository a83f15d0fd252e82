-- Two rings with laps, written down by hand.
use Rattle.std.proofs.Common.{◌≡◌, List, [], ◌∷◌, refl, ℕ}
use Rattle.std.specs.Prelude.{map}
use Rattle.redn_words.specs.declared.types.Opcode.TheVariants.{Send, Wait, Enable}
use Rattle.redn_kernel.specs.declared.types.Cell.{Cell}
use Rattle.redn_kernel.specs.declared.types.Cell.TheVariants.{Var, Argument, Num}
use Rattle.redn_segment.specs.declared.types.Site.{Site}
use Rattle.redn_segment.specs.declared.types.Site.TheVariants as site
use Rattle.redn_segment.specs.declared.types.SlotRef.{SlotRef}
use Rattle.redn_segment.specs.declared.types.Draft.{Draft}
use Rattle.redn_segment.specs.Drafts.{slot_from, field, draft, copy, add_to, swap_in, turnable, clear, fill_low, compare_low, choose, write_word}
use Rattle.redn_recycle.specs.Laps.{Ring, count_at, limit_at, opening_at, flags_at}
use Rattle.redn_recycle.specs.Lapped.{gate_draft, ring_of, lapped_segments, slot_in_laps}

abbrev cell : Cell → Site
cell c = site.Cell c

-- ring 1: a variable gets the argument, and is compared with 0; ring 2 is next where they are equal, else ring 3
abbrev at : ℕ → SlotRef
at k = slot_from 1 0 k

abbrev test : (SlotRef → SlotRef) → List (List Draft)
test f =
    (copy (cell (Argument 0)) 0 (cell (Var 0)) 8 ∷ []) ∷ (clear (f (at 6)) ∷ fill_low (cell (Var 0)) (f (at 6)) ∷ compare_low (cell (Num 0)) (f (at 4)) ∷ []) ∷ (swap_in 0 (field (f (at 6)) 0 8) write_word ∷ choose 3 (f (at 7)) ∷ []) ∷ (turnable (site.Descriptor 2) (field (f (at 7)) 40 16) 16 0 ∷ []) ∷ [] ∷ []

abbrev tested : Ring
tested = ring_of (test (λ q. q)) 1 0 0

-- five is added to the count of a WAIT, and 27 to a limit
abbrev raise_count : ℕ → Draft
raise_count k = add_to 2 (field (at k) 48 8) 5

abbrev raise_limit : ℕ → Draft
raise_limit k = add_to 3 (field (at k) 48 8) 27

abbrev raise_own : ℕ → ℕ → Draft
raise_own ring by =
    record { op = (add_to 3 (site.Descriptor ring) by).op; local = site.Scratch 3; local_byte = 0; remote = site.Descriptor ring; remote_byte = 8; length = 8; first = by; second = 0 }

test_with_laps : lapped_segments 1 tested
    ≡ ((copy (cell (Argument 0)) 0 (cell (Var 0)) 8 ∷ raise_count 25 ∷ raise_own 1 27 ∷ gate_draft Wait 1 1 ∷ gate_draft Enable 1 12 ∷ []) ∷ (clear (at 18) ∷ fill_low (cell (Var 0)) (at 18) ∷ compare_low (cell (Num 0)) (at 12) ∷ raise_count 3 ∷ raise_limit 4 ∷ gate_draft Wait 1 2 ∷ gate_draft Enable 1 18 ∷ []) ∷ (swap_in 0 (field (at 18) 0 8) write_word ∷ choose 3 (at 26) ∷ raise_count 10 ∷ raise_limit 11 ∷ gate_draft Wait 1 3 ∷ gate_draft Enable 1 23 ∷ []) ∷ (turnable (site.Descriptor 2) (field (at 26) 40 16) 16 0 ∷ raise_count 16 ∷ raise_limit 17 ∷ gate_draft Wait 1 4 ∷ gate_draft Enable 1 27 ∷ []) ∷ (raise_count 21 ∷ raise_limit 22 ∷ gate_draft Wait 1 0 ∷ gate_draft Enable 0 0 ∷ []) ∷ [])
test_with_laps = refl

test_begins : map tested.first (0 ∷ 1 ∷ 2 ∷ 3 ∷ 4 ∷ 5 ∷ []) ≡ 0 ∷ 5 ∷ 12 ∷ 18 ∷ 23 ∷ 27 ∷ []
test_begins = refl

test_slots : map (slot_in_laps (test (λ q. q))) (0 ∷ 1 ∷ 2 ∷ 3 ∷ 4 ∷ 5 ∷ 6 ∷ 7 ∷ []) ≡ 0 ∷ 5 ∷ 6 ∷ 7 ∷ 12 ∷ 13 ∷ 18 ∷ 26 ∷ []
test_slots = refl

-- the third lap at its third segment: what the gates of the first two hold is that of the next lap but for the last WAIT's and the second one's
test_counts : map (count_at 1 tested 2 2) (0 ∷ 1 ∷ 2 ∷ 3 ∷ 4 ∷ []) ≡ 16 ∷ 12 ∷ 13 ∷ 14 ∷ 15 ∷ []
test_counts = refl

test_limits : map (limit_at 1 tested 2 2) (0 ∷ 1 ∷ 2 ∷ 3 ∷ []) ≡ 93 ∷ 72 ∷ 77 ∷ 81 ∷ []
test_limits = refl

test_opening : opening_at 1 tested 2 2 ≡ 86
test_opening = refl

-- only the last request in flight of each segment is signalled
test_signals : map (flags_at 1 tested 0) (0 ∷ 1 ∷ 2 ∷ []) ≡ 0 ∷ 0 ∷ 1 ∷ []
test_signals = refl

test_event : map tested.event (0 ∷ 1 ∷ []) ≡ 0 ∷ 5 ∷ []
test_event = refl

-- ring 2: a reply of the number 1
abbrev answer : Draft
answer = draft Send (site.ReplyWord 0) 0 (site.ReplyWord 0) 8 0 0

abbrev reply : List (List Draft)
reply = (copy (cell (Num 1)) 0 (site.ReplyWord 0) 8 ∷ []) ∷ (answer ∷ []) ∷ []

reply_with_laps : lapped_segments 2 (ring_of reply 2 0 0)
    ≡ ((copy (cell (Num 1)) 0 (site.ReplyWord 0) 8 ∷ raise_own 2 5 ∷ gate_draft Wait 2 1 ∷ gate_draft Enable 2 5 ∷ []) ∷ (answer ∷ []) ∷ [])
reply_with_laps = refl

reply_begins : map (ring_of reply 2 0 0).first (0 ∷ 1 ∷ 2 ∷ []) ≡ 0 ∷ 4 ∷ 5 ∷ []
reply_begins = refl
