-- What the rules say of an image's rings.
use Rattle.std.proofs.Common.{◌≡◌, ℕ, suc, ◌+◌, ◌*◌, ◌/◌, ◌%◌, ◌<◌, Bool, true, ◌&&◌, ◌||◌, ◌==◌, List, [], ◌∷◌, length, map, get_or, refl, sym, ap, ◌∙◌, arith}
use Rattle.std.specs.Prelude.{nat_le, nat_lt}
use Rattle.std.specs.List.{All, list_any}
use Rattle.std.proofs.lemmas.Bool.{and_parts, eqb-true, leb-true, ltb-true}
use Rattle.std.proofs.lemmas.Bool.Decides.{nat_tests}
use Rattle.std.proofs.lemmas.List.{get_or-map, length-map}
use Rattle.redn_words.specs.declared.types.QueueRow.{QueueRow}
use Rattle.redn_image.specs.Rules.{Image, Obeys, faults, header_faults, numbers_of, queue_numbers, ring_is_inside, row_faults}
use Rattle.redn_image.proofs.Bounds.{none_behind}
use Rattle.redn_image.proofs.Kept.{each_keeps, kept}
use Rattle.redn_disasm.specs.Listing.{IsRing, lies_in}

pub obeys_rows : (i : Image) → Obeys i → row_faults (numbers_of i) ≡ []
unfolding faults
obeys_rows i e = none_behind (header_faults (length (numbers_of i).regions) (length (numbers_of i).queues) (length (numbers_of i).receives) 0 (numbers_of i).size) _ e

-- each ring begins at a multiple of 64 and ends in memory
pub are_rings : (i : Image) → Obeys i → All (IsRing (length i.memory)) i.queues
are_rings i e k d low =
    let all = kept (numbers_of i) (obeys_rows i e) in
    let q : QueueRow = get_or i.queues k d in
    let short : k < length (map queue_numbers i.queues) = omega (arith, length-map i.queues queue_numbers) in
    let row : get_or (map queue_numbers i.queues) k (queue_numbers d) ≡ queue_numbers q = get_or-map queue_numbers i.queues k d (queue_numbers d) low in
    let test : ring_is_inside (length i.memory) [] (queue_numbers q) ≡ true = sym (ap (ring_is_inside (length i.memory) []) row) ∙ each_keeps 14 (ring_is_inside (length i.memory) []) [] (map queue_numbers i.queues) all.rings k (queue_numbers d) short in
    let last = and_parts (q.base % 64 == 0 && nat_lt 0 q.slots && nat_le q.slots 65536) (nat_le (q.base + 64 * q.slots) (length i.memory)) test in
    let most = and_parts (q.base % 64 == 0 && nat_lt 0 q.slots) (nat_le q.slots 65536) last.0 in
    let first = and_parts (q.base % 64 == 0) (nat_lt 0 q.slots) most.0 in
    record { even = eqb-true _ _ first.0; some = ltb-true _ _ first.1; few = leb-true _ _ most.1; inside = leb-true _ _ last.1 }

same_place : (size offset : ℕ) (q : QueueRow) → IsRing size q → lies_in (64 * (offset / 64)) q ≡ lies_in offset q
same_place size offset q r =
    let a : q.base % 64 ≡ 0 = r.even in
    grind (arith, nat_tests)

tail_rings : (size : ℕ) (q : QueueRow) (rows : List QueueRow) → All (IsRing size) (q ∷ rows) → All (IsRing size) rows
tail_rings size q rows h = λ k d low. h (suc k) d (omega arith)

-- a place lies in a ring where its 64 bytes do
pub same_places : (size offset : ℕ) (rows : List QueueRow) → All (IsRing size) rows → list_any (lies_in (64 * (offset / 64))) rows ≡ list_any (lies_in offset) rows
same_places size offset [] h = refl
same_places size offset (q ∷ rows) h =
    ap (λ (b : Bool). b || list_any (lies_in (64 * (offset / 64))) rows) (same_place size offset q (h 0 q (omega arith))) ∙ ap (λ (b : Bool). lies_in offset q || b) (same_places size offset rows (tail_rings size q rows h))
