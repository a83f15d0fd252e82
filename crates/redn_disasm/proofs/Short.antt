-- A listing isn't long: each line is as wide as its fields at most.
use Rattle.std.proofs.Common.{◌≡◌, ℕ, zero, suc, ◌+◌, ◌*◌, ◌/◌, ◌^◌, ◌<◌, ◌≤◌, Bool, true, false, cond, ◌||◌, ◌==◌, List, [], ◌∷◌, ◌++◌, length, decimal, refl, sym, ap, subst, ◌∙◌, arith, append_assoc, append-nil, length-append}
use Rattle.std.specs.Prelude.{codes, sum_by}
use Rattle.std.specs.List.{flat_map, list_any}
use Rattle.std.proofs.lemmas.Bool.{leb-true}
use Rattle.std.proofs.lemmas.Fmt.{length-decimal-le}
use Rattle.std.proofs.lemmas.List.Sums.{sum_by-append, sum_by-cons}
use Rattle.hex.specs.Hex.{encode_lower}
use Rattle.hex.proofs.HexLemmas.{length-encode_with, decode_sized-ok}
use Rattle.redn_words.specs.declared.types.QueueRow.{QueueRow}
use Rattle.redn_words.specs.declared.types.Receive.{Receive}
use Rattle.redn_words.specs.declared.types.Region.{Region}
use Rattle.redn_words.specs.Requests.{decoded}
use Rattle.redn_words.specs.Words.{bytes_at, spelled, word}
use Rattle.redn_words.proofs.Digits.{AreBytes, part_of_bytes}
use Rattle.redn_words.proofs.Numbers.{length-spelled}
use Rattle.redn_image.specs.declared.numbers.QueueNumbers.{QueueNumbers}
use Rattle.redn_image.specs.Rules.{Image, Obeys, breaking, numbers_of, queue_numbers, region_numbers, slots_are_few}
use Rattle.redn_image.proofs.Back.{FitsReceive}
use Rattle.redn_image.proofs.Bounds.{none_behind, small}
use Rattle.redn_image.proofs.Fits.{receives_fit}
use Rattle.redn_image.proofs.Kept.{kept, one_keeps}
use Rattle.redn_disasm.specs.declared.formats.Format.{Format}
use Rattle.redn_disasm.specs.declared.formats.Format.TheVariants.{Number, Kind, Order, Op, Hex}
use Rattle.redn_disasm.specs.Assembly.{Place, all_places, memory_formats, places_from, queue_formats, queue_values, receive_formats, receive_values, region_formats, region_values, slot_formats, slot_values}
use Rattle.redn_disasm.specs.Fields.{FieldsAre, IsRow, IsText, kind_word, order_word, op_word}
use Rattle.redn_disasm.specs.Listing.{data_line, data_text, flat_from, lies_in, listing_text, memory_line, queue_line, receive_line, region_line}
use Rattle.redn_disasm.proofs.ReadBack.{flat_range}
use Rattle.redn_disasm.proofs.Rings.{are_rings, obeys_rows}
use Rattle.redn_disasm.proofs.Whole.{each_all, good_queues, good_regions, listing_parts, memory_row, rings_fit}
use Rattle.redn_disasm.proofs.Written.{Each, GoodQueue, GoodRegion, queue_row, receive_row, region_row}
use Rattle.redn_disasm.proofs.WrittenWords.{PlaceFits, narrow_slot, place_line, slot_row}

-- ---- a line

-- no text of this format is wider
abbrev IsWide : Format → ℕ → Type 0
IsWide (Number most) w = (0 < w) × (most < 10 ^ w)
IsWide Kind w = 7 ≤ w
IsWide Order w = 8 ≤ w
IsWide Op w = 6 ≤ w
IsWide Hex w = 16 ≤ w

abbrev AreWide : List Format → List ℕ → Type 0
AreWide [] [] = Unit {0}
AreWide [] (w ∷ ws) = ⊥
AreWide (f ∷ fs) [] = ⊥
AreWide (f ∷ fs) (w ∷ ws) = IsWide f w × AreWide fs ws

-- a space before each, and a newline
abbrev width : List ℕ → ℕ
width [] = 1
width (w ∷ ws) = (1 + w) + width ws

chosen : (b : Bool) (x y : List ℕ) (w : ℕ) → length x ≤ w → length y ≤ w → length (cond b x y) ≤ w
chosen true x y w e f = e
chosen false x y w e f = f

kind_width : (n : ℕ) → length (kind_word n) ≤ 7
unfolding kind_word
kind_width n = chosen (n == 0) _ _ 7 (omega arith) (chosen (n == 1) _ _ 7 (omega arith) (chosen (n == 2) _ _ 7 (omega arith) (chosen (n == 3) _ _ 7 (omega arith) (omega arith))))

order_width : (n : ℕ) → length (order_word n) ≤ 8
unfolding order_word
order_width n = chosen (n == 0) _ _ 8 (omega arith) (omega arith)

op_width : (n : ℕ) → n < 2 ^ 16 → length (op_word n) ≤ 6
unfolding op_word
op_width n few =
    let digits : length (decimal n) ≤ 5 = length-decimal-le 5 n (omega arith) (omega arith) (omega arith) in
    let other : length (codes "?" ++ decimal n) ≤ 6 = omega (arith, digits) in
    chosen (n == 0) _ _ 6 (omega arith) (chosen (n == 1) _ _ 6 (omega arith) (chosen (n == 2) _ _ 6 (omega arith) (chosen (n == 3) _ _ 6 (omega arith) (chosen (n == 4) _ _ 6 (omega arith) (chosen (n == 5) _ _ 6 (omega arith) (chosen (n == 6) _ _ 6 (omega arith) (chosen (n == 7) _ _ 6 (omega arith) other)))))))

text_width : (f : Format) (w : ℕ) (text : List ℕ) (n : ℕ) → IsWide f w → IsText f text n → length text ≤ w
text_width (Number most) w text n wide h =
    let low = h.1 in
    let below = wide.1 in
    let digits = length-decimal-le w n wide.0 (omega arith) h.2 in
    subst (λ (l : List ℕ). length l ≤ w) (sym h.0) digits
text_width Kind w text n wide h = let all = kind_width n in subst (λ (l : List ℕ). length l ≤ w) (sym h.0) (omega arith)
text_width Order w text n wide h = let all = order_width n in subst (λ (l : List ℕ). length l ≤ w) (sym h.0) (omega arith)
text_width Op w text n wide h = let all = op_width n h.1 in subst (λ (l : List ℕ). length l ≤ w) (sym h.0) (omega arith)
text_width Hex w text n wide h = let digits : length text ≡ 16 = decode_sized-ok text 8 _ h.0 in omega (arith, digits, wide)

fields_width : (fs : List Format) (ws text values : List ℕ) → AreWide fs ws → FieldsAre fs text values → length text ≤ width ws
fields_width [] [] text [] wide h = let e : length text ≡ 1 = ap length h in omega (arith, e)
fields_width [] [] text (n ∷ values) wide h = absurd h
fields_width [] (w ∷ ws) text values wide h = absurd wide
fields_width (f ∷ fs) [] text values wide h = absurd wide
fields_width (f ∷ fs) (w ∷ ws) text [] wide h = absurd h
fields_width (f ∷ fs) (w ∷ ws) text (n ∷ values) wide h =
    let own = text_width f w h.0 n wide.0 h.3 in
    let rest = fields_width fs ws h.1 values wide.1 h.4 in
    let whole : length text ≡ suc (length h.0 + length h.1) = ap length h.2 ∙ ap suc (length-append h.0 h.1) in
    omega (arith, own, rest, whole)

row_width : (word : List ℕ) (fs : List Format) (ws line values : List ℕ) → AreWide fs ws → IsRow word fs line values → length line ≤ length word + width ws
row_width word fs ws line values wide h =
    let rest = fields_width fs ws h.0 values wide h.2 in
    let whole : length line ≡ length word + length h.0 = ap length h.1 ∙ length-append word h.0 in
    omega (arith, rest, whole)

region_wide : AreWide region_formats (10 ∷ 5 ∷ 7 ∷ 10 ∷ 10 ∷ 20 ∷ 20 ∷ [])
region_wide = ((omega arith, omega arith), ((omega arith, omega arith), (omega arith, ((omega arith, omega arith), ((omega arith, omega arith), ((omega arith, omega arith), ((omega arith, omega arith), tt)))))))

queue_wide : AreWide queue_formats (20 ∷ 10 ∷ 8 ∷ 20 ∷ 20 ∷ 20 ∷ [])
queue_wide = ((omega arith, omega arith), ((omega arith, omega arith), (omega arith, ((omega arith, omega arith), ((omega arith, omega arith), ((omega arith, omega arith), tt))))))

receive_wide : AreWide receive_formats (20 ∷ 20 ∷ 20 ∷ [])
receive_wide = ((omega arith, omega arith), ((omega arith, omega arith), ((omega arith, omega arith), tt)))

slot_wide : AreWide slot_formats (20 ∷ 20 ∷ 6 ∷ 15 ∷ 10 ∷ 10 ∷ 20 ∷ 20 ∷ 20 ∷ 20 ∷ 20 ∷ 20 ∷ [])
slot_wide = ((omega arith, omega arith), ((omega arith, omega arith), (omega arith, ((omega arith, omega arith), ((omega arith, omega arith), ((omega arith, omega arith), ((omega arith, omega arith), ((omega arith, omega arith), ((omega arith, omega arith), ((omega arith, omega arith), ((omega arith, omega arith), ((omega arith, omega arith), tt))))))))))))

memory_wide : AreWide memory_formats (20 ∷ [])
memory_wide = ((omega arith, omega arith), tt)

-- ---- all lines of a kind

flat_width : {X : Type 0} (f : X → List ℕ) (w : ℕ) (xs : List X) → Each (λ x. length (f x) ≤ w) xs → length (flat_map f xs) ≤ w * length xs
flat_width f w [] h = omega arith
flat_width f w (x ∷ xs) h =
    let here = h.0 in
    let rest = flat_width f w xs h.1 in
    let whole : length (flat_map f (x ∷ xs)) ≡ length (f x) + length (flat_map f xs) = length-append (f x) (flat_map f xs) in
    omega (arith, here, rest, whole)

from_width : {X : Type 0} (f : ℕ → X → List ℕ) (w k : ℕ) (xs : List X) → ((i : ℕ) → i < k + length xs → Each (λ x. length (f i x) ≤ w) xs) → length (flat_from f k xs) ≤ w * length xs
from_width f w k [] h = omega arith
from_width f w k (x ∷ xs) h =
    let here = (h k (omega arith)).0 in
    let rest = from_width f w (k + 1) xs (λ i low. (h i (omega arith)).1) in
    let whole : length (flat_from f k (x ∷ xs)) ≡ length (f k x) + length (flat_from f (k + 1) xs) = length-append (f k x) (flat_from f (k + 1) xs) in
    omega (arith, here, rest, whole)

range_width : (f : ℕ → List ℕ) (w k count : ℕ) → ((j : ℕ) → j < k + count → length (f j) ≤ w) → length (flat_range f k count) ≤ w * count
range_width f w k zero h = omega arith
range_width f w k (suc count) h =
    let here = h k (omega arith) in
    let rest = range_width f w (k + 1) count (λ j low. h j (omega arith)) in
    let whole : length (flat_range f k (suc count)) ≡ length (f k) + length (flat_range f (k + 1) count) = length-append (f k) (flat_range f (k + 1) count) in
    omega (arith, here, rest, whole)

each_weaker : {X : Type 0} (P Q : X → Type 0) (xs : List X) → ((x : X) → P x → Q x) → Each P xs → Each Q xs
each_weaker P Q [] f h = tt
each_weaker P Q (x ∷ xs) f h = (f x h.0, each_weaker P Q xs f h.1)

-- the line of a word, unless it has none
data_width : (o w : ℕ) → o < 10 ^ 8 → length (data_line o w) ≤ 31
unfolding data_line
data_width o w low =
    let digits : length (decimal o) ≤ 8 = length-decimal-le 8 o (omega arith) low (omega arith) in
    let hex : length (encode_lower (spelled 8 w)) ≡ 16 = length-encode_with _ (spelled 8 w) ∙ ap (λ (n : ℕ). 2 * n) (length-spelled 8 w) in
    let back : length (encode_lower (spelled 8 w) ++ codes "\n") ≡ 17 = length-append (encode_lower (spelled 8 w)) (codes "\n") ∙ ap (λ (n : ℕ). n + 1) hex in
    let behind : length (codes " " ++ (encode_lower (spelled 8 w) ++ codes "\n")) ≡ 18 = ap suc back in
    let front : length (codes "data" ++ (codes " " ++ decimal o)) ≤ 13 = omega (arith, digits) in
    let texts : data_line o w ≡ (codes "data" ++ (codes " " ++ decimal o)) ++ (codes " " ++ (encode_lower (spelled 8 w) ++ codes "\n")) = simp append_assoc in
    let whole : length (data_line o w) ≡ length (codes "data" ++ (codes " " ++ decimal o)) + length (codes " " ++ (encode_lower (spelled 8 w) ++ codes "\n")) = ap length texts ∙ length-append (codes "data" ++ (codes " " ++ decimal o)) (codes " " ++ (encode_lower (spelled 8 w) ++ codes "\n")) in
    omega (arith, behind, front, whole)

word_width : (none : Bool) (o w : ℕ) → o < 10 ^ 8 → length (cond none [] (data_line o w)) ≤ 31
word_width true o w low = omega arith
word_width false o w low = data_width o w low

-- ---- how many lines there are

slots : QueueNumbers → ℕ
slots q = q.slots

few_slots : (earlier rows : List QueueNumbers) → sum_by slots earlier ≤ 524288 → breaking 16 slots_are_few earlier rows ≡ [] → sum_by slots (earlier ++ rows) ≤ 524288
unfolding slots
few_slots earlier [] low e = subst (λ (l : List QueueNumbers). sum_by slots l ≤ 524288) (sym (append-nil earlier)) low
few_slots earlier (q ∷ rows) low e =
    let here = leb-true (sum_by slots earlier + q.slots) 524288 (one_keeps (slots_are_few earlier q) _ _ e) in
    let more : sum_by slots (earlier ++ q ∷ []) ≡ sum_by slots earlier + sum_by slots (q ∷ []) = sum_by-append slots earlier (q ∷ []) in
    let one : sum_by slots (q ∷ []) ≡ q.slots = omega arith in
    let rest = few_slots (earlier ++ q ∷ []) rows (omega (arith, here, more, one)) (none_behind _ _ e) in
    subst (λ (l : List QueueNumbers). sum_by slots l ≤ 524288) (append_assoc earlier (q ∷ []) rows) rest

length-places : (k base i n : ℕ) → length (places_from k base i n) ≡ n
length-places k base i zero = refl
length-places k base i (suc n) = ap suc (length-places k base (i + 1) n)

length-all : (k : ℕ) (qs : List QueueNumbers) → length (all_places k qs) ≡ sum_by slots qs
unfolding slots
length-all k [] = refl
length-all k (q ∷ qs) =
    let rest = length-all (k + 1) qs in
    length-append (places_from k q.base 0 q.slots) (all_places (k + 1) qs) ∙ ap (λ (n : ℕ). n + length (all_places (k + 1) qs)) (length-places k q.base 0 q.slots) ∙ ap (λ (n : ℕ). q.slots + n) rest ∙ sym (sum_by-cons slots q qs)

-- ---- the whole

pub listing_short : (i : Image) → Obeys i → AreBytes i.memory → length (listing_text i) ≤ 268435456
listing_short i e bytes =
    let whole = i.memory in
    let n = numbers_of i in
    let few = small i e in
    let few_regions = few.regions in
    let few_queues = few.queues in
    let few_receives = few.receives in
    let few_bytes = few.size in
    let size : ℕ = length whole in
    let rows = kept n (obeys_rows i e) in
    let places = all_places 0 n.queues in
    let T1 = flat_map (place_line whole) places in
    let T2 = flat_range (λ (j : ℕ). data_text i.queues whole (8 * j)) 0 (size / 8) in
    let C = flat_from receive_line 0 i.receives in
    let Q = flat_from (λ (k : ℕ) (q : QueueRow). queue_line k (queue_numbers q)) 0 i.queues in
    let R = flat_map (λ (r : Region). region_line (region_numbers r)) i.regions in
    let M = memory_line size in
    let r : length R ≤ 96 * length i.regions = flat_width (λ (r : Region). region_line (region_numbers r)) 96 i.regions (each_weaker (λ (r : Region). GoodRegion (region_numbers r)) (λ (r : Region). length (region_line (region_numbers r)) ≤ 96) i.regions (λ r g. row_width (codes "region") region_formats (10 ∷ 5 ∷ 7 ∷ 10 ∷ 10 ∷ 20 ∷ 20 ∷ []) (region_line (region_numbers r)) (region_values (region_numbers r)) region_wide (region_row (region_numbers r) g.fits g.kind)) (good_regions i e few_receives few_bytes)) in
    let q : length Q ≤ 110 * length i.queues = from_width (λ (k : ℕ) (q : QueueRow). queue_line k (queue_numbers q)) 110 0 i.queues (λ k low. each_weaker (λ (q : QueueRow). GoodQueue (queue_numbers q)) (λ (q : QueueRow). length (queue_line k (queue_numbers q)) ≤ 110) i.queues (λ q g. row_width (codes "queue") queue_formats (20 ∷ 10 ∷ 8 ∷ 20 ∷ 20 ∷ 20 ∷ []) (queue_line k (queue_numbers q)) (queue_values k (queue_numbers q)) queue_wide (queue_row k (queue_numbers q) (omega (arith, low, few_queues)) g.fits g.managed)) (good_queues i e few_receives few_bytes)) in
    let c : length C ≤ 71 * length i.receives = from_width receive_line 71 0 i.receives (λ k low. each_weaker FitsReceive (λ (c : Receive). length (receive_line k c) ≤ 71) i.receives (λ c g. row_width (codes "receive") receive_formats (20 ∷ 20 ∷ 20 ∷ []) (receive_line k c) (receive_values k c) receive_wide (receive_row k c (omega (arith, low, few_receives)) g)) (each_all FitsReceive i.receives (receives_fit n few_bytes (obeys_rows i e)))) in
    let m : length M ≤ 28 = row_width (codes "memory") memory_formats (20 ∷ []) M (size ∷ []) memory_wide (memory_row size (omega (arith, few_bytes))) in
    let s : length T1 ≤ 218 * length places = flat_width (place_line whole) 218 places (each_weaker (PlaceFits size) (λ (p : Place). length (place_line whole p) ≤ 218) places (λ p fits. row_width (codes "slot") slot_formats (20 ∷ 20 ∷ 6 ∷ 15 ∷ 10 ∷ 10 ∷ 20 ∷ 20 ∷ 20 ∷ 20 ∷ 20 ∷ 20 ∷ []) (place_line whole p) (slot_values p.queue p.index (decoded (bytes_at whole p.at 64))) slot_wide (slot_row p.queue p.index (decoded (bytes_at whole p.at 64)) fits.queue fits.index (narrow_slot (bytes_at whole p.at 64) (part_of_bytes whole p.at 64 bytes)))) (rings_fit size 0 i.queues (are_rings i e) (omega (arith, few_queues)))) in
    let w : length T2 ≤ 31 * (size / 8) = range_width (λ (j : ℕ). data_text i.queues whole (8 * j)) 31 0 (size / 8) (λ j low. word_width (list_any (lies_in (8 * j)) i.queues || (word whole (8 * j) == 0)) (8 * j) (word whole (8 * j)) (omega (arith, low, few_bytes))) in
    let all : length places ≡ sum_by slots n.queues = length-all 0 n.queues in
    let light = few_slots [] n.queues (omega arith) rows.few in
    let L2 = T2 ++ codes "end\n" in
    let L1 = T1 ++ L2 in
    let LC = C ++ L1 in
    let LQ = Q ++ LC in
    let LR = R ++ LQ in
    let LM = M ++ LR in
    let n0 : length (listing_text i) ≡ length (codes "redn 1\n" ++ LM) = ap length (listing_parts i) in
    let n1 : length (codes "redn 1\n" ++ LM) ≡ length (codes "redn 1\n") + length LM = length-append (codes "redn 1\n") LM in
    let n2 : length LM ≡ length M + length LR = length-append M LR in
    let n3 : length LR ≡ length R + length LQ = length-append R LQ in
    let n4 : length LQ ≡ length Q + length LC = length-append Q LC in
    let n5 : length LC ≡ length C + length L1 = length-append C L1 in
    let n6 : length L1 ≡ length T1 + length L2 = length-append T1 L2 in
    let n7 : length L2 ≡ length T2 + length (codes "end\n") = length-append T2 (codes "end\n") in
    let h : length (codes "redn 1\n") ≡ 7 = refl in
    let t : length (codes "end\n") ≡ 4 = refl in
    let many : sum_by slots n.queues ≤ 524288 = light in
    let whole : length (listing_text i) ≡ 7 + (length M + (length R + (length Q + (length C + (length T1 + (length T2 + 4)))))) = omega (arith, n0, n1, n2, n3, n4, n5, n6, n7, h, t) in
    omega (arith, r, q, c, m, s, w, all, many, whole, few_regions, few_queues, few_receives, few_bytes)
