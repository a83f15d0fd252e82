-- A ring computed, slot by slot: the first block of `chain c { arg a; if a ~ 0 { reply 1; } else { reply 0; } }`.
use Rattle.std.specs.Prelude.{◌≡◌, ℕ, zero, suc, ◌+◌, ◌*◌, Bool, true, ◌&&◌, List, [], ◌∷◌, ◌++◌, length, map}
use Rattle.std.proofs.Common.{refl}
use Rattle.std.specs.List.{list_all}
use Rattle.redn_words.specs.declared.types.Region.{Region}
use Rattle.redn_words.specs.declared.types.Request.{Request}
use Rattle.redn_words.specs.declared.types.Kind.TheVariants.{Vars, Code, Control, Message}
use Rattle.redn_kernel.specs.declared.types.Cell.{Cell}
use Rattle.redn_kernel.specs.declared.types.Cell.TheVariants.{Var, Hidden, Argument, Num}
use Rattle.redn_segment.specs.declared.types.SlotRef.{SlotRef}
use Rattle.redn_segment.specs.declared.types.Space.{Space}
use Rattle.redn_segment.specs.declared.types.Space.TheVariants as space
use Rattle.redn_segment.specs.declared.types.Site.TheVariants as site
use Rattle.redn_segment.specs.declared.types.Draft.{Draft}
use Rattle.redn_proof_landing.proofs.Listed.{is_listed, lie_apart}
use Rattle.redn_proof_landing.specs.Requested.{requested}
use Rattle.redn_recycle.specs.Lapped.{ring_of}
use Rattle.redn_recycle.specs.Laps.{Ring, slot_of, bodies_of, gates_of, flags_at, count_at, limit_at, opening_at, wait_request, enable_request}
use Rattle.redn_segment.specs.Drafts.{copy, clear, fill_low, compare_low, swap_in, choose, turnable, field, write_word}
use Rattle.redn_segment.specs.Footprints.{both_sides, ends_inside, all_free, spares}
use Rattle.redn_segment.specs.Homes.{Home, LieApart}

vars : Region
vars = record { key = 1; domain = 0; kind = Vars; rights = 13; base = 2680; len = 8 }

code : Region
code = record { key = 2; domain = 0; kind = Code; rights = 12; base = 0; len = 2368 }

control : Region
control = record { key = 3; domain = 0; kind = Control; rights = 13; base = 2496; len = 184 }

message : Region
message = record { key = 4; domain = 0; kind = Message; rights = 0; base = 2688; len = 8 }

ring_base : ℕ → ℕ
ring_base zero = 0
ring_base (suc zero) = 0
ring_base (suc (suc zero)) = 1728
ring_base (suc (suc (suc r))) = 2048

cell_home : Cell → Home
cell_home (Var i) = record { region = vars; offset = 8 * i }
cell_home (Argument i) = record { region = message; offset = 8 * i }
cell_home (Hidden i) = record { region = control; offset = 152 + 8 * i }
cell_home (Num i) = record { region = control; offset = 168 + 8 * i }

home : Space → Home
home (space.Cell c) = cell_home c
home space.Reply = record { region = control; offset = 40 }
home space.Key = record { region = control; offset = 32 }
home (space.Scratch i) = record { region = control; offset = 8 * i }
home (space.Descriptor r) = record { region = control; offset = 88 + 16 * r }
home (space.Slot q) = record { region = code; offset = ring_base q.ring + 64 * q.slot }
home (space.Table t) = record { region = vars; offset = 0 }

at : ℕ → SlotRef
at k = slot_of 1 k

-- its drafts as the templates give them, without laps. Ring 2 is next where the words are alike, else ring 3
segments : List (List Draft)
segments =
    (copy (site.Cell (Argument 0)) 0 (site.Cell (Var 0)) 8 ∷ []) ∷ (clear (at 6) ∷ fill_low (site.Cell (Var 0)) (at 6) ∷ compare_low (site.Cell (Num 0)) (at 4) ∷ []) ∷ (swap_in 0 (field (at 6) 0 8) write_word ∷ choose 3 (at 7) ∷ []) ∷ (turnable (site.Descriptor 2) (field (at 7) 40 16) 16 0 ∷ []) ∷ [] ∷ []

ring : Ring
ring = ring_of segments 1 0 0

requests_from : ℕ → ℕ → List Draft → List Request
requests_from j k [] = []
requests_from j k (d ∷ ds) = requested home d (flags_at 1 ring j k) ∷ requests_from j (k + 1) ds

-- a segment's slots, as they stand at the start
slots : ℕ → List Request
slots j = requests_from j 0 (bodies_of 1 ring j) ++ wait_request 1 ring (count_at 1 ring 0 0 j) ∷ enable_request 1 ring (limit_at 1 ring 0 0 j) ∷ []

row : ℕ → ℕ → ℕ → ℕ → ℕ → ℕ → ℕ → ℕ → ℕ → Request
row op lkey rkey local remote len one two flags =
    record { op = op; id = 0; lkey = lkey; rkey = rkey; local = local; remote = remote; length = len; first = one; second = two; flags = flags }

segment_0 : slots 0 ≡ row 1 4 1 0 0 8 0 0 0 ∷ row 4 3 2 16 1648 8 5 0 0 ∷ row 4 3 3 24 112 8 27 0 1 ∷ row 6 0 0 0 0 0 1 1 0 ∷ row 7 0 0 0 0 0 1 12 0 ∷ []
unfolding slots requests_from home cell_home ring segments at row vars code control message ring_base
segment_0 = refl

segment_1 : slots 1 ≡ row 1 3 2 168 1152 2 0 0 0 ∷ row 1 1 2 2 1154 6 0 0 0 ∷ row 1 3 2 170 810 6 0 0 0 ∷ row 4 3 2 16 240 8 5 0 0 ∷ row 4 3 2 24 304 8 27 0 1 ∷ row 6 0 0 0 0 0 1 2 0 ∷ row 7 0 0 0 0 0 1 18 0 ∷ []
unfolding slots requests_from home cell_home ring segments at row vars code control message ring_base
segment_1 = refl

segment_2 : slots 2 ≡ row 3 3 2 0 1152 8 0 281474976710656 0 ∷ row 1 3 2 136 1704 16 0 0 0 ∷ row 4 3 2 16 688 8 5 0 0 ∷ row 4 3 2 24 752 8 27 0 1 ∷ row 6 0 0 0 0 0 1 3 0 ∷ row 7 0 0 0 0 0 1 23 0 ∷ []
unfolding slots requests_from home cell_home ring segments at row vars code control message ring_base
segment_2 = refl

segment_3 : slots 3 ≡ row 0 3 2 120 1704 16 0 0 0 ∷ row 4 3 2 16 1072 8 5 0 0 ∷ row 4 3 2 24 1136 8 27 0 1 ∷ row 6 0 0 0 0 0 1 4 0 ∷ row 7 0 0 0 0 0 1 27 0 ∷ []
unfolding slots requests_from home cell_home ring segments at row vars code control message ring_base
segment_3 = refl

-- of the last segment all but its ENABLE, whose operands are filled: it begins with none
segment_4 : requests_from 4 0 (bodies_of 1 ring 4) ++ wait_request 1 ring (count_at 1 ring 0 0 4) ∷ [] ≡ row 4 3 2 16 1392 8 5 0 0 ∷ row 4 3 2 24 1456 8 27 0 1 ∷ row 6 0 0 0 0 0 1 0 0 ∷ []
unfolding requests_from home cell_home ring segments at row vars code control message ring_base
segment_4 = refl

-- with its lap requests each segment is apart
apart_at : ℕ → Bool
apart_at j = list_all (both_sides ends_inside) (bodies_of 1 ring j) && (all_free (bodies_of 1 ring j) && list_all (both_sides (spares (slot_of 1 (ring.first j)) (length (bodies_of 1 ring j) + gates_of 1 ring j))) (bodies_of 1 ring j))

all_apart : map apart_at (0 ∷ 1 ∷ 2 ∷ 3 ∷ 4 ∷ []) ≡ true ∷ true ∷ true ∷ true ∷ true ∷ []
unfolding apart_at ring segments at
all_apart = refl

-- in lap 3, before segment 2: what the gates hold then
counts : map (count_at 1 ring 3 2) (0 ∷ 1 ∷ 2 ∷ 3 ∷ 4 ∷ []) ≡ 21 ∷ 17 ∷ 18 ∷ 19 ∷ 20 ∷ []
unfolding ring segments at
counts = refl

limits : map (limit_at 1 ring 3 2) (0 ∷ 1 ∷ 2 ∷ 3 ∷ []) ≡ 120 ∷ 99 ∷ 104 ∷ 108 ∷ []
unfolding ring segments at
limits = refl

opening : opening_at 1 ring 3 2 ≡ 113
unfolding ring segments at
opening = refl

-- the spaces of the whole chain lie apart in its 2696 bytes
slots_of_ring : ℕ → ℕ → ℕ → List Space
slots_of_ring r i zero = []
slots_of_ring r i (suc n) = space.Slot (slot_of r i) ∷ slots_of_ring r (i + 1) n

spaces : List Space
spaces =
    slots_of_ring 1 0 27 ++ slots_of_ring 2 0 5 ++ slots_of_ring 3 0 5
    ++ space.Cell (Var 0) ∷ space.Cell (Argument 0) ∷ space.Cell (Num 0) ∷ space.Cell (Num 1) ∷ space.Cell (Hidden 0) ∷ space.Cell (Hidden 1) ∷ space.Reply ∷ space.Key ∷ space.Scratch 0 ∷ space.Scratch 1 ∷ space.Scratch 2 ∷ space.Scratch 3 ∷ space.Descriptor 1 ∷ space.Descriptor 2 ∷ space.Descriptor 3 ∷ []

they_lie_apart : LieApart home (is_listed spaces) 2696
unfolding spaces slots_of_ring home cell_home vars code control message ring_base
they_lie_apart = lie_apart home 2696 spaces refl refl
