-- A whole listing is read back.
use Rattle.std.proofs.Common.{◌≡◌, ℕ, zero, suc, ◌+◌, ◌*◌, ◌/◌, ◌%◌, ◌^◌, ◌<◌, ◌≤◌, Bool, true, false, cond, ◌||◌, ◌==◌, List, [], ◌∷◌, ◌++◌, length, map, get_or, decimal, refl, sym, ap, subst, ◌∙◌, inr, arith, append_assoc}
use Rattle.std.specs.Prelude.{codes, if◌then◌else◌, None, replicate, nat_lt, nat_le}
use Rattle.std.specs.List.{All, flat_map, list_any}
use Rattle.std.proofs.lemmas.Bool.{and_parts, eqb-true, ltb-true}
use Rattle.std.proofs.lemmas.Grind.{flat_map-append}
use Rattle.byteorder.specs.Numbers.{big_from-lt}
use Rattle.redn_words.specs.declared.types.QueueRow.{QueueRow}
use Rattle.redn_words.specs.declared.types.Region.{Region}
use Rattle.redn_words.specs.Requests.{decoded}
use Rattle.redn_words.specs.Words.{bytes_at, number, word}
use Rattle.redn_words.proofs.Digits.{AreBytes, part_of_bytes}
use Rattle.redn_image.specs.declared.numbers.QueueNumbers.{QueueNumbers}
use Rattle.redn_image.specs.declared.numbers.RegionNumbers.{RegionNumbers}
use Rattle.redn_image.specs.Rules.{Image, Obeys, faults, first_of, kind_is_known, numbers_of, queue_numbers, region_numbers}
use Rattle.redn_image.proofs.Back.{FitsReceive}
use Rattle.redn_image.proofs.Bounds.{header_small, none_before, small}
use Rattle.redn_image.proofs.Fits.{queues_fit, receives_fit, regions_fit}
use Rattle.redn_image.proofs.Kept.{each_keeps, kept}
use Rattle.redn_disasm.specs.Assembly.{Assembles, Begun, ComesTo, GivenRows, Made, Named, Outcome, Place, all_places, fills, memory_formats, no_rows, places_from, slot_formats, slot_values, data_formats}
use Rattle.redn_text.specs.Texts.{lines_of}
use Rattle.redn_disasm.specs.Fields.{IsRow}
use Rattle.redn_disasm.specs.Going.{FillsNext}
use Rattle.redn_disasm.specs.Listing.{IsRing, data_line, data_text, flat_below, flat_from, lies_in, listing_text, memory_line, queue_line, receive_line, region_line, slot_line, slot_of, slots_text}
use Rattle.redn_disasm.proofs.Going.{leads_named, leads_size}
use Rattle.redn_disasm.proofs.Memories.{InNone, begun, weaker}
use Rattle.redn_disasm.proofs.Opening.{held_comes}
use Rattle.redn_disasm.proofs.ReadBack.{Left, flat_range, range_all, words_come}
use Rattle.redn_disasm.proofs.Rings.{are_rings, obeys_rows}
use Rattle.redn_disasm.proofs.Written.{Comes, Each, GoodQueue, GoodRegion, IsLine, come_line, fields_are, fields_text, next_of, queues_come, receives_come, regions_come, row_line}
use Rattle.redn_disasm.proofs.WrittenWords.{PlaceFits, data_row, narrow_slot, place_line, slot_row, slots_come}

-- the lines of slots, place by place
range_places : (whole : List ℕ) (k base i n : ℕ) → flat_range (λ (j : ℕ). slot_line k j (decoded (bytes_at whole (base + 64 * j) 64))) i n ≡ flat_map (place_line whole) (places_from k base i n)
range_places whole k base i zero = refl
range_places whole k base i (suc n) = ap (λ (l : List ℕ). slot_line k i (decoded (bytes_at whole (base + 64 * i) 64)) ++ l) (range_places whole k base (i + 1) n)

ring_places : (whole : List ℕ) (k : ℕ) (rows : List QueueRow) → flat_from (slots_text whole) k rows ≡ flat_map (place_line whole) (all_places k (map queue_numbers rows))
ring_places whole k [] = refl
ring_places whole k (q ∷ rows) =
    ap (λ (l : List ℕ). l ++ flat_from (slots_text whole) (k + 1) rows) (range_all (λ (j : ℕ). slot_line k j (slot_of whole q j)) q.slots ∙ range_places whole k q.base 0 q.slots)
    ∙ ap (λ (l : List ℕ). flat_map (place_line whole) (places_from k q.base 0 q.slots) ++ l) (ring_places whole (k + 1) rows)
    ∙ sym (flat_map-append (place_line whole) (places_from k q.base 0 q.slots) (all_places (k + 1) (map queue_numbers rows)))

slots_fit : (size k base i n : ℕ) → base + 64 * (i + n) ≤ size → k < 2 ^ 64 → i + n < 2 ^ 64 → Each (PlaceFits size) (places_from k base i n)
slots_fit size k base i zero inside a b = tt
slots_fit size k base i (suc n) inside a b = (record { inside = omega arith; queue = a; index = omega arith }, slots_fit size k base (i + 1) n (omega arith) a (omega arith))

each_both : {X : Type 0} (P : X → Type 0) (xs ys : List X) → Each P xs → Each P ys → Each P (xs ++ ys)
each_both P [] ys a b = b
each_both P (x ∷ xs) ys a b = (a.0, each_both P xs ys a.1 b)

pub rings_fit : (size k : ℕ) (rows : List QueueRow) → All (IsRing size) rows → k + length rows < 2 ^ 64 → Each (PlaceFits size) (all_places k (map queue_numbers rows))
rings_fit size k [] h few = tt
rings_fit size k (q ∷ rows) h few =
    let r = h 0 q (omega arith) in
    let inside = r.inside in
    let slots = r.few in
    each_both (PlaceFits size) (places_from k q.base 0 q.slots) (all_places (k + 1) (map queue_numbers rows)) (slots_fit size k q.base 0 q.slots (omega arith) (omega arith) (omega arith)) (rings_fit size (k + 1) rows (λ i d l. h (suc i) d (omega arith)) (omega arith))

-- the first line behind all rows
fills_slot : (rest : List ℕ) → fills (codes "slot" ++ (32 ∷ rest)) ≡ true
unfolding fills
fills_slot rest = refl

fills_data : (rest : List ℕ) → fills (codes "data" ++ (32 ∷ rest)) ≡ true
unfolding fills
fills_data rest = refl

fills_end : fills (codes "end\n") ≡ true
unfolding fills
fills_end = refl

word_small : (whole : List ℕ) (o : ℕ) → AreBytes whole → word whole o < 2 ^ 64
unfolding number
word_small whole o bytes = big_from-lt o 8 whole bytes

word_fills : (none : Bool) (rest : List ℕ) (o w : ℕ) → o < 2 ^ 64 → w < 2 ^ 64 → FillsNext rest → FillsNext (cond none [] (data_line o w) ++ rest)
word_fills true rest o w a b h = h
word_fills false rest o w a b h =
    let row = data_row o w a b in
    let line = data_line o w in
    let is : IsLine line = row_line (codes "data") data_formats line (o ∷ w ∷ []) refl row in
    record {
      line = line;
      behind = lines_of rest;
      first = next_of line rest is;
      filling = ap fills (row.1 ∙ ap (λ (l : List ℕ). codes "data" ++ l) row.2.2) ∙ fills_data (row.2.0 ++ row.2.1);
    }

words_fill : (rows : List QueueRow) (whole : List ℕ) (k count : ℕ) → AreBytes whole → 8 * (k + count) < 2 ^ 62 → FillsNext (flat_range (λ (j : ℕ). data_text rows whole (8 * j)) k count ++ codes "end\n")
words_fill rows whole k zero bytes few = record { line = codes "end\n"; behind = []; first = refl; filling = fills_end }
words_fill rows whole k (suc count) bytes few =
    let texts = flat_range (λ (j : ℕ). data_text rows whole (8 * j)) (k + 1) count in
    let o : ℕ = 8 * k in
    let rest = words_fill rows whole (k + 1) count bytes (omega arith) in
    let here = word_fills (list_any (lies_in o) rows || (word whole o == 0)) (texts ++ codes "end\n") o (word whole o) (omega arith) (word_small whole o bytes) rest in
    subst FillsNext (sym (append_assoc (data_text rows whole o) texts (codes "end\n"))) here

slots_fill : (whole rest : List ℕ) (places : List Place) → AreBytes whole → Each (PlaceFits (length whole)) places → FillsNext rest → FillsNext (flat_map (place_line whole) places ++ rest)
slots_fill whole rest [] bytes fits h = h
slots_fill whole rest (p ∷ places) bytes fits h =
    let line = place_line whole p in
    let r = decoded (bytes_at whole p.at 64) in
    let row = slot_row p.queue p.index r fits.0.queue fits.0.index (narrow_slot (bytes_at whole p.at 64) (part_of_bytes whole p.at 64 bytes)) in
    let is : IsLine line = row_line (codes "slot") slot_formats line (slot_values p.queue p.index r) refl row in
    let behind = flat_map (place_line whole) places ++ rest in
    record {
      line = line;
      behind = lines_of behind;
      first = ap lines_of (append_assoc line (flat_map (place_line whole) places) rest) ∙ next_of line behind is;
      filling = ap fills (row.1 ∙ ap (λ (l : List ℕ). codes "slot" ++ l) row.2.2) ∙ fills_slot (row.2.0 ++ row.2.1);
    }

each_of : {X Y : Type 0} (P : Y → Type 0) (f : X → Y) (xs : List X) → All P (map f xs) → Each (λ x. P (f x)) xs
each_of P f [] h = tt
each_of P f (x ∷ xs) h = (h 0 (f x) (omega arith), each_of P f xs (λ k d l. h (suc k) d (omega arith)))

pub each_all : {X : Type 0} (P : X → Type 0) (xs : List X) → All P xs → Each P xs
each_all P [] h = tt
each_all P (x ∷ xs) h = (h 0 x (omega arith), each_all P xs (λ k d l. h (suc k) d (omega arith)))

joined_8 : (a b c d e s w n : List ℕ) → a ++ b ++ c ++ d ++ e ++ s ++ w ++ n ≡ a ++ (b ++ (c ++ (d ++ (e ++ (s ++ (w ++ n))))))
joined_8 a b c d e s w n = simp append_assoc

pub memory_row : (size : ℕ) → size < 2 ^ 64 → IsRow (codes "memory") memory_formats (memory_line size) (size ∷ [])
memory_row size few =
    (fields_text (decimal size ∷ []), append_assoc (codes "memory") (codes " " ++ decimal size) (codes "\n"), fields_are memory_formats (decimal size ∷ []) (size ∷ []) ((refl, omega arith, few), tt))

first_line : IsLine (codes "redn 1\n")
first_line = record { front = codes "redn 1"; is = refl; inside = refl }

pub good_regions : (i : Image) → Obeys i → length i.receives ≤ 16 → length i.memory ≤ 33554432 → Each (λ r. GoodRegion (region_numbers r)) i.regions
good_regions i e few size =
    let n = numbers_of i in
    let none = obeys_rows i e in
    let fits = regions_fit n few size none in
    let known = each_keeps 8 (kind_is_known []) [] n.regions (kept n none).kinds in
    each_of GoodRegion region_numbers i.regions (λ k d low.
    let r : RegionNumbers = get_or n.regions k d in
    let both = and_parts (nat_lt r.kind 5) (if r.kind == 1 then nat_lt r.table 64 else r.table == 0) (known k d low) in
    record { fits = fits k d low; kind = ltb-true r.kind 5 both.0 })

pub good_queues : (i : Image) → Obeys i → length i.receives ≤ 16 → length i.memory ≤ 33554432 → Each (λ q. GoodQueue (queue_numbers q)) i.queues
good_queues i e few size =
    let n = numbers_of i in
    let none = obeys_rows i e in
    let fits = queues_fit n few size none in
    let order = each_keeps 13 (λ (q : QueueNumbers). nat_lt q.managed 2) [] n.queues (kept n none).orders in
    each_of GoodQueue queue_numbers i.queues (λ k d low.
    record { fits = fits k d low; managed = ltb-true (get_or n.queues k d).managed 2 (order k d low) })

none_broken : (i : Image) → Obeys i → first_of (faults (numbers_of i)) ≡ None
none_broken i e = ap first_of e

-- the lines behind all rows are read on
filled_comes : (i : Image) → Obeys i → AreBytes i.memory → length i.queues ≤ 65535 → length i.memory ≤ 33554432 → length i.memory % 8 ≡ 0 → Comes (Made (numbers_of i) i.memory) (GivenRows (numbers_of i)) (flat_map (place_line i.memory) (all_places 0 (map queue_numbers i.queues)) ++ (flat_range (λ (j : ℕ). data_text i.queues i.memory (8 * j)) 0 (length i.memory / 8) ++ codes "end\n"))
filled_comes i e bytes few size even =
    let whole = i.memory in
    let n = numbers_of i in
    let out : Outcome = Made n whole in
    let rings = are_rings i e in
    let places = all_places 0 (map queue_numbers i.queues) in
    let count : ℕ = length whole / 8 in
    let all : 8 * (0 + count) ≡ length whole = omega arith in
    let words = flat_range (λ (j : ℕ). data_text i.queues whole (8 * j)) 0 count ++ codes "end\n" in
    let fits = rings_fit (length whole) 0 i.queues rings (omega arith) in
    let read = slots_come whole out n (λ j. Unit {0}) places (replicate (length whole) 0) words bytes fits (begun whole (λ j. Unit {0}) (λ j. tt)) (λ now g. words_come whole n i.queues 0 count now refl (omega arith) bytes rings all (weaker whole (λ j. Unit {0} × InNone places j) (Left places 0) now (λ j z l. inr (l.1, omega arith)) g)) in
    let fills_next = slots_fill whole words places bytes fits (words_fill i.queues whole 0 count bytes (omega arith)) in
    record { at = λ k. held_comes k n (flat_map (place_line whole) places ++ words) out fills_next (none_broken i e) (read.at k) }

even_size : (i : Image) → Obeys i → length i.memory % 8 ≡ 0
unfolding faults
even_size i e =
    let n = numbers_of i in
    let h = header_small (length n.regions) (length n.queues) (length i.receives) 0 (length i.memory) (none_before _ _ e) in
    eqb-true _ _ (and_parts (length i.memory % 8 == 0) (nat_le (length i.memory) 33554432) h.3).0

-- a listing, line by line
pub listing_parts : (i : Image) → listing_text i ≡ codes "redn 1\n" ++ (memory_line (length i.memory) ++ (flat_map (λ (r : Region). region_line (region_numbers r)) i.regions ++ (flat_from (λ (k : ℕ) (q : QueueRow). queue_line k (queue_numbers q)) 0 i.queues ++ (flat_from receive_line 0 i.receives
    ++ (flat_map (place_line i.memory) (all_places 0 (map queue_numbers i.queues)) ++ (flat_range (λ (j : ℕ). data_text i.queues i.memory (8 * j)) 0 (length i.memory / 8) ++ codes "end\n"))))))
unfolding listing_text
listing_parts i =
    let whole = i.memory in
    let size : ℕ = length whole in
    let C = flat_from receive_line 0 i.receives in
    let Q = flat_from (λ (k : ℕ) (q : QueueRow). queue_line k (queue_numbers q)) 0 i.queues in
    let R = flat_map (λ (r : Region). region_line (region_numbers r)) i.regions in
    let S = flat_from (slots_text whole) 0 i.queues in
    let W = flat_below (λ (k : ℕ). data_text i.queues whole (8 * k)) (size / 8) in
    let front : List ℕ → List ℕ = λ l. codes "redn 1\n" ++ (memory_line size ++ (R ++ (Q ++ (C ++ l)))) in
    joined_8 (codes "redn 1\n") (memory_line size) R Q C S W (codes "end\n")
    ∙ ap (λ (l : List ℕ). front (l ++ (W ++ codes "end\n"))) (ring_places whole 0 i.queues)
    ∙ ap (λ (l : List ℕ). front (flat_map (place_line whole) (all_places 0 (map queue_numbers i.queues)) ++ (l ++ codes "end\n"))) (range_all (λ (k : ℕ). data_text i.queues whole (8 * k)) (size / 8))

-- a listing is read back as its image
pub read_back : (i : Image) → Obeys i → AreBytes i.memory → Assembles (listing_text i) (Made (numbers_of i) i.memory)
read_back i e bytes =
    let whole = i.memory in
    let n = numbers_of i in
    let out : Outcome = Made n whole in
    let size : ℕ = length whole in
    let few = small i e in
    let few_regions = few.regions in
    let few_queues = few.queues in
    let few_receives = few.receives in
    let few_bytes = few.size in
    let even = even_size i e in
    let rs = n.regions in
    let qs = n.queues in
    let tail = filled_comes i e bytes few_queues few_bytes even in
    let T = flat_map (place_line whole) (all_places 0 (map queue_numbers i.queues)) ++ (flat_range (λ (j : ℕ). data_text i.queues whole (8 * j)) 0 (size / 8) ++ codes "end\n") in
    let C = flat_from receive_line 0 i.receives in
    let Q = flat_from (λ (k : ℕ) (q : QueueRow). queue_line k (queue_numbers q)) 0 i.queues in
    let R = flat_map (λ (r : Region). region_line (region_numbers r)) i.regions in
    let receives = receives_come out i.receives rs qs [] size T (omega arith) (each_all FitsReceive i.receives (receives_fit n few_bytes (obeys_rows i e))) tail in
    let queues = queues_come out queue_numbers i.queues rs [] size (C ++ T) (omega arith) (good_queues i e few_receives few_bytes) receives in
    let regions = regions_come out region_numbers i.regions [] size (Q ++ (C ++ T)) (good_regions i e few_receives few_bytes) queues in
    let row = memory_row size (omega arith) in
    let named = come_line out Named (GivenRows (no_rows size)) (memory_line size) (R ++ (Q ++ (C ++ T))) (row_line (codes "memory") memory_formats (memory_line size) (size ∷ []) refl row) refl (leads_size (memory_line size) size row) regions in
    let begins = come_line out Begun Named (codes "redn 1\n") (memory_line size ++ (R ++ (Q ++ (C ++ T)))) first_line refl (leads_named (codes "redn 1\n") refl) named in
    subst (λ (l : List ℕ). ComesTo 1 Begun (lines_of l) out) (sym (listing_parts i)) (begins.at 1)
