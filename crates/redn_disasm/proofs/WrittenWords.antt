-- The lines of slots and words, as texts that are read back.
use Rattle.std.proofs.Common.{◌≡◌, ℕ, ◌+◌, ◌-◌, ◌^◌, ◌<◌, ◌≤◌, List, [], ◌∷◌, ◌++◌, length, drop, decimal, refl, sym, subst, inr, arith, append_assoc, length-take, length-drop}
use Rattle.std.specs.Prelude.{codes}
use Rattle.std.specs.List.{flat_map}
use Rattle.byteorder.specs.Numbers.{big_from-lt}
use Rattle.hex.specs.Hex.{encode_lower}
use Rattle.hex.proofs.HexLemmas.{decode_sized-encode_lower}
use Rattle.redn_words.specs.declared.types.Request.{Request}
use Rattle.redn_words.specs.Requests.{decoded, encoded}
use Rattle.redn_words.specs.Words.{bytes_at, number, spelled, with_bytes_at}
use Rattle.redn_words.proofs.Digits.{AreBytes, bytes_of_number, part_of_bytes}
use Rattle.redn_words.proofs.Numbers.{length-spelled}
use Rattle.redn_wqe.proofs.Slots.{encoded-decoded}
use Rattle.redn_image.specs.Rules.{Numbers}
use Rattle.redn_disasm.specs.Assembly.{Filled, Leads, Outcome, Place, data_formats, slot_formats, slot_values}
use Rattle.redn_disasm.specs.Fields.{IsRow, op_word}
use Rattle.redn_disasm.specs.Listing.{data_line, slot_line}
use Rattle.redn_disasm.proofs.Memories.{Filling, InNone, filled_more, weaker}
use Rattle.redn_disasm.proofs.Written.{Comes, Each, come_line, fields_are, fields_text, row_line}

joined_14 : (w a b s o c d e f g h i j k n : List ℕ) → w ++ a ++ b ++ s ++ o ++ c ++ d ++ e ++ f ++ g ++ h ++ i ++ j ++ k ++ n ≡ w ++ (a ++ (b ++ (s ++ (o ++ (c ++ (d ++ (e ++ (f ++ (g ++ (h ++ (i ++ (j ++ (k ++ n)))))))))))))
joined_14 w a b s o c d e f g h i j k n = simp append_assoc

slot_texts : ℕ → ℕ → Request → List (List ℕ)
slot_texts k i r = decimal k ∷ decimal i ∷ op_word r.op ∷ decimal r.id ∷ decimal r.lkey ∷ decimal r.rkey ∷ decimal r.local ∷ decimal r.remote ∷ decimal r.length ∷ decimal r.first ∷ decimal r.second ∷ decimal r.flags ∷ []

slot_text : (k i : ℕ) (r : Request) → slot_line k i r ≡ codes "slot" ++ fields_text (slot_texts k i r)
unfolding slot_line slot_texts
slot_text k i r =
    joined_14 (codes "slot") (codes " " ++ decimal k) (codes " " ++ decimal i) (codes " ") (op_word r.op) (codes " " ++ decimal r.id) (codes " " ++ decimal r.lkey) (codes " " ++ decimal r.rkey) (codes " " ++ decimal r.local) (codes " " ++ decimal r.remote) (codes " " ++ decimal r.length) (codes " " ++ decimal r.first) (codes " " ++ decimal r.second) (codes " " ++ decimal r.flags) (codes "\n")

pub record Narrow (r : Request) : Type 0 where
  pub op : r.op < 2 ^ 16
  pub id : r.id < 2 ^ 48
  pub lkey : r.lkey < 2 ^ 32
  pub rkey : r.rkey < 2 ^ 32
  pub local : r.local < 2 ^ 64
  pub remote : r.remote < 2 ^ 64
  pub len : r.length < 2 ^ 64
  pub first : r.first < 2 ^ 64
  pub second : r.second < 2 ^ 64
  pub flags : r.flags < 2 ^ 64

pub narrow_slot : (slot : List ℕ) → AreBytes slot → Narrow (decoded slot)
unfolding decoded number
narrow_slot slot h =
    record {
      op = big_from-lt 0 2 slot h;
      id = big_from-lt 2 6 slot h;
      lkey = big_from-lt 8 4 slot h;
      rkey = big_from-lt 12 4 slot h;
      local = big_from-lt 16 8 slot h;
      remote = big_from-lt 24 8 slot h;
      len = big_from-lt 32 8 slot h;
      first = big_from-lt 40 8 slot h;
      second = big_from-lt 48 8 slot h;
      flags = big_from-lt 56 8 slot h;
    }

most : (n k : ℕ) → n < 2 ^ k → n ≤ 2 ^ k - 1
most n k h = omega arith

pub slot_row : (k i : ℕ) (r : Request) → k < 2 ^ 64 → i < 2 ^ 64 → Narrow r → IsRow (codes "slot") slot_formats (slot_line k i r) (slot_values k i r)
unfolding slot_texts
slot_row k i r a b n =
    (fields_text (slot_texts k i r), slot_text k i r, fields_are slot_formats (slot_texts k i r) (slot_values k i r) ((refl, most k 64 a, a), ((refl, most i 64 b, b), ((refl, n.op), ((refl, most r.id 48 n.id, let x = n.id in omega arith), ((refl, most r.lkey 32 n.lkey, let x = n.lkey in omega arith), ((refl, most r.rkey 32 n.rkey, let x = n.rkey in omega arith), ((refl, most r.local 64 n.local, n.local), ((refl, most r.remote 64 n.remote, n.remote), ((refl, most r.length 64 n.len, n.len), ((refl, most r.first 64 n.first, n.first), ((refl, most r.second 64 n.second, n.second), ((refl, most r.flags 64 n.flags, n.flags), tt)))))))))))))

joined_5 : (w a b c n : List ℕ) → w ++ a ++ b ++ c ++ n ≡ w ++ (a ++ (b ++ (c ++ n)))
joined_5 w a b c n = simp append_assoc

data_texts : ℕ → ℕ → List (List ℕ)
data_texts o w = decimal o ∷ encode_lower (spelled 8 w) ∷ []

data_row_text : (o w : ℕ) → data_line o w ≡ codes "data" ++ fields_text (data_texts o w)
unfolding data_line data_texts
data_row_text o w = joined_5 (codes "data") (codes " " ++ decimal o) (codes " ") (encode_lower (spelled 8 w)) (codes "\n")

spelled_bytes : (w : ℕ) → AreBytes (spelled 8 w)
unfolding spelled
spelled_bytes w = bytes_of_number 8 w

pub data_row : (o w : ℕ) → o < 2 ^ 64 → w < 2 ^ 64 → IsRow (codes "data") data_formats (data_line o w) (o ∷ w ∷ [])
unfolding data_texts
data_row o w a b =
    (fields_text (data_texts o w), data_row_text o w, fields_are data_formats (data_texts o w) (o ∷ w ∷ []) ((refl, most o 64 a, a), ((decode_sized-encode_lower (spelled 8 w) 8 (length-spelled 8 w) (spelled_bytes w), b), tt)))

-- where a slot lies, and that its numbers fit
pub record PlaceFits (size : ℕ) (p : Place) : Type 0 where
  pub inside : p.at + 64 ≤ size
  pub queue : p.queue < 2 ^ 64
  pub index : p.index < 2 ^ 64

abbrev pub place_line : List ℕ → Place → List ℕ
place_line whole p = slot_line p.queue p.index (decoded (bytes_at whole p.at 64))

lead_slot : (n : Numbers) (p : Place) (places : List Place) (memory line : List ℕ) (r : Request) → IsRow (codes "slot") slot_formats line (slot_values p.queue p.index r) → Leads (Filled n (p ∷ places) memory) line (Filled n places (with_bytes_at memory p.at (encoded r)))
unfolding Leads
lead_slot n p places memory line r row = (r, row, refl)

-- the lines of slots are read on
pub slots_come : (whole : List ℕ) (out : Outcome) (n : Numbers) (left : ℕ → Type 0) (places : List Place) (memory rest : List ℕ) → AreBytes whole → Each (PlaceFits (length whole)) places → Filling whole left memory → ((now : List ℕ) → Filling whole (λ j. left j × InNone places j) now → Comes out (Filled n [] now) rest) → Comes out (Filled n places memory) (flat_map (place_line whole) places ++ rest)
slots_come whole out n left [] memory rest bytes fits f h = h memory (weaker whole left (λ j. left j × Unit {0}) memory (λ j z l. inr (l, tt)) f)
slots_come whole out n left (p ∷ places) memory rest bytes fits f h =
    let slot : List ℕ = bytes_at whole p.at 64 in
    let is_bytes : AreBytes slot = part_of_bytes whole p.at 64 bytes in
    let inside = fits.0.inside in
    let size : length slot ≡ 64 = omega (arith, length-take 64 (drop p.at whole), length-drop p.at whole) in
    let r : Request = decoded slot in
    let line = place_line whole p in
    let row = slot_row p.queue p.index r fits.0.queue fits.0.index (narrow_slot slot is_bytes) in
    let same : encoded r ≡ slot = encoded-decoded slot size is_bytes in
    let now = with_bytes_at memory p.at slot in
    let hole : ℕ → Type 0 = λ j. left j × (p.at ≤ j → j < p.at + 64 → ⊥) in
    let later = slots_come whole out n hole places now rest bytes fits.1 (filled_more whole left memory p.at 64 inside f) (λ m g. h m (weaker whole (λ j. hole j × InNone places j) (λ j. left j × InNone (p ∷ places) j) m (λ j z l. inr (l.0.0, (l.0.1, l.1))) g)) in
    let lead = subst (λ (b : List ℕ). Leads (Filled n (p ∷ places) memory) line (Filled n places (with_bytes_at memory p.at b))) same (lead_slot n p places memory line r row) in
    subst (Comes out (Filled n (p ∷ places) memory)) (sym (append_assoc line (flat_map (place_line whole) places) rest)) (come_line out (Filled n (p ∷ places) memory) (Filled n places now) line (flat_map (place_line whole) places ++ rest) (row_line (codes "slot") slot_formats line (slot_values p.queue p.index r) refl row) refl lead later)
