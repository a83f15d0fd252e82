-- Memory that is filled from another's bytes.
use Rattle.std.proofs.Common.{◌≡◌, ℕ, zero, suc, ◌+◌, ◌-◌, ◌*◌, ◌%◌, ◌<◌, ◌≤◌, Bool, true, false, ◌||◌, List, [], ◌∷◌, ◌++◌, length, map, take, drop, get_or, refl, sym, ap, ◌∙◌, inl, inr, arith, length-append, length-take, length-drop}
use Rattle.std.specs.Prelude.{◌⊎◌, nat_le, nat_lt, replicate}
use Rattle.std.specs.List.{list_any, All}
use Rattle.std.proofs.lemmas.Bool.{and_parts, cases_lt, leb-true, ltb-true}
use Rattle.std.proofs.lemmas.Bool.Decides.{nat_tests}
use Rattle.std.proofs.lemmas.List.{ext_get_or, get_or-take, get_or-drop, get_or-replicate, get_or_past, length-replicate}
use Rattle.redn_words.specs.declared.types.QueueRow.{QueueRow}
use Rattle.redn_words.specs.Landings.{Change}
use Rattle.redn_words.specs.Words.{bytes_at, spelled, with_bytes_at, word}
use Rattle.redn_words.proofs.Bytes.{byte_put}
use Rattle.redn_words.specs.Bytes.{byte, put}
use Rattle.redn_words.proofs.Digits.{AreBytes, spelled-number}
use Rattle.redn_image.specs.Rules.{queue_numbers}
use Rattle.redn_disasm.specs.Assembly.{Place, all_places, places_from}
use Rattle.redn_disasm.specs.Listing.{IsRing, lies_in}

-- each byte is the other's, or is 0 and still to come
pub record Filling (whole : List ℕ) (left : ℕ → Type 0) (memory : List ℕ) : Type 0 where
  pub size : length memory ≡ length whole
  pub bytes : (j : ℕ) → (byte memory j ≡ byte whole j) ⊎ ((byte memory j ≡ 0) × left j)

byte_in : (whole : List ℕ) (at len j : ℕ) → at ≤ j → j < at + len → get_or (bytes_at whole at len) (j - at) 0 ≡ byte whole j
byte_in whole at len j low high =
    let e : at + (j - at) ≡ j = omega arith in
    get_or-take len (drop at whole) (j - at) 0 (omega arith) ∙ get_or-drop at whole (j - at) 0 ∙ ap (byte whole) e

size_at : (whole : List ℕ) (at len : ℕ) → at + len ≤ length whole → length (bytes_at whole at len) ≡ len
size_at whole at len fits = omega (arith, length-take len (drop at whole), length-drop at whole)

put_in : (c : Change) (j before : ℕ) → c.at ≤ j → j < c.at + length c.bytes → put c j before ≡ get_or c.bytes (j - c.at) 0
put_in c j before low high = grind (arith, nat_tests)

put_out : (c : Change) (j before : ℕ) → (c.at ≤ j → j < c.at + length c.bytes → ⊥) → put c j before ≡ before
put_out c j before out = grind (arith, nat_tests)

put_size : (memory : List ℕ) (at : ℕ) (new : List ℕ) → at + length new ≤ length memory → length (with_bytes_at memory at new) ≡ length memory
put_size memory at new room =
    omega (arith, length-append (take at memory) (new ++ drop (at + length new) memory), length-append new (drop (at + length new) memory), length-take at memory, length-drop (at + length new) memory)

-- some bytes of the other are put in
pub filled_more : (whole : List ℕ) (left : ℕ → Type 0) (memory : List ℕ) (at len : ℕ) → at + len ≤ length whole → Filling whole left memory → Filling whole (λ j. left j × (at ≤ j → j < at + len → ⊥)) (with_bytes_at memory at (bytes_at whole at len))
filled_more whole left memory at len fits f =
    let c : Change = record { at = at; bytes = bytes_at whole at len } in
    let n : length c.bytes ≡ len = size_at whole at len fits in
    let size = f.size in
    let room : at + length c.bytes ≤ length memory = omega (arith, n, size) in
    let after : (j : ℕ) → byte (with_bytes_at memory at c.bytes) j ≡ put c j (byte memory j) = λ j. byte_put memory c j room in
    record {
      size = put_size memory at c.bytes room ∙ size;
      bytes = λ j.
          let inside : at ≤ j → j < at + len → byte (with_bytes_at memory at c.bytes) j ≡ byte whole j = λ a b. after j ∙ put_in c j (byte memory j) a (omega (arith, n)) ∙ byte_in whole at len j a b in
          let outside : (at ≤ j → j < at + len → ⊥) → byte (with_bytes_at memory at c.bytes) j ≡ byte memory j = λ out. after j ∙ put_out c j (byte memory j) (λ a b. out a (omega (arith, n))) in
          elim (cases_lt j at) [
            | inl before ↦ kept_byte whole left memory (with_bytes_at memory at c.bytes) at len j (λ a b. omega arith) (outside (λ a b. omega arith)) (f.bytes j)
            | inr past ↦ elim (cases_lt j (at + len)) [
              | inl within ↦ inl (inside past within)
              | inr behind ↦ kept_byte whole left memory (with_bytes_at memory at c.bytes) at len j (λ a b. omega arith) (outside (λ a b. omega arith)) (f.bytes j)
            ]
          ];
    }
  where
    kept_byte : (whole : List ℕ) (left : ℕ → Type 0) (memory now : List ℕ) (at len j : ℕ) → (at ≤ j → j < at + len → ⊥) → byte now j ≡ byte memory j → (byte memory j ≡ byte whole j) ⊎ ((byte memory j ≡ 0) × left j) → (byte now j ≡ byte whole j) ⊎ ((byte now j ≡ 0) × (left j × (at ≤ j → j < at + len → ⊥)))
    kept_byte whole left memory now at len j out e (inl h) = inl (e ∙ h)
    kept_byte whole left memory now at len j out e (inr h) = inr (e ∙ h.0, (h.1, out))

pub weaker : (whole : List ℕ) (left more : ℕ → Type 0) (memory : List ℕ) → ((j : ℕ) → byte memory j ≡ 0 → left j → (byte whole j ≡ 0) ⊎ more j) → Filling whole left memory → Filling whole more memory
weaker whole left more memory w f =
    record {
      size = f.size;
      bytes = λ j. one_byte j (f.bytes j);
    }
  where
    one_byte : (j : ℕ) → (byte memory j ≡ byte whole j) ⊎ ((byte memory j ≡ 0) × left j) → (byte memory j ≡ byte whole j) ⊎ ((byte memory j ≡ 0) × more j)
    one_byte j (inl h) = inl h
    one_byte j (inr h) = elim (w j h.0 h.1) [ inl z ↦ inl (h.0 ∙ sym z) | inr m ↦ inr (h.0, m) ]

pub begun : (whole : List ℕ) (left : ℕ → Type 0) → ((j : ℕ) → left j) → Filling whole left (replicate (length whole) 0)
begun whole left h =
    record {
      size = length-replicate {A = ℕ} (length whole) 0;
      bytes = λ j. elim (cases_lt j (length whole)) [
        | inl low ↦ inr (get_or-replicate (length whole) j 0 0 low, h j)
        | inr high ↦ inr (get_or_past (replicate (length whole) 0) j 0 (omega (arith, length-replicate {A = ℕ} (length whole) 0)), h j)
      ];
    }

-- nothing is left
pub filled_all : (whole : List ℕ) (left : ℕ → Type 0) (memory : List ℕ) → ((j : ℕ) → left j → length whole ≤ j) → Filling whole left memory → memory ≡ whole
filled_all whole left memory none f = ext_get_or 0 memory whole f.size (λ j low. one_byte j low (f.bytes j))
  where
    one_byte : (j : ℕ) → j < length memory → (byte memory j ≡ byte whole j) ⊎ ((byte memory j ≡ 0) × left j) → byte memory j ≡ byte whole j
    one_byte j low (inl h) = h
    one_byte j low (inr h) = let past = none j h.1 in let size = f.size in absurd (omega arith)

-- a word that is 0
pub zero_word : (whole : List ℕ) (at j : ℕ) → AreBytes whole → at + 8 ≤ length whole → word whole at ≡ 0 → at ≤ j → j < at + 8 → byte whole j ≡ 0
unfolding spelled
zero_word whole at j bytes fits is low high =
    let zeros : bytes_at whole at 8 ≡ replicate 8 0 = sym (spelled-number 8 whole at fits bytes) ∙ ap (spelled 8) is in
    sym (byte_in whole at 8 j low high) ∙ ap (λ (l : List ℕ). get_or l (j - at) 0) zeros ∙ get_or-replicate 8 (j - at) 0 0 (omega arith)

-- a byte in none of these slots
abbrev pub InNone : List Place → ℕ → Type 0
InNone [] j = Unit {0}
InNone (p ∷ places) j = (p.at ≤ j → j < p.at + 64 → ⊥) × InNone places j

pub none_left : (xs ys : List Place) (j : ℕ) → InNone (xs ++ ys) j → InNone xs j
none_left [] ys j h = tt
none_left (x ∷ xs) ys j h = (h.0, none_left xs ys j h.1)

pub none_right : (xs ys : List Place) (j : ℕ) → InNone (xs ++ ys) j → InNone ys j
none_right [] ys j h = h
none_right (x ∷ xs) ys j h = none_right xs ys j h.1

in_slot : (k base i n j : ℕ) → base + 64 * i ≤ j → j < base + 64 * (i + n) → InNone (places_from k base i n) j → ⊥
in_slot k base i zero j low high h = omega arith
in_slot k base i (suc n) j low high h =
    elim (cases_lt j (base + 64 * i + 64)) [
      | inl within ↦ h.0 low within
      | inr past ↦ in_slot k base (i + 1) n j (omega arith) (omega arith) h.1
    ]

one_ring : (size k offset j : ℕ) (q : QueueRow) → IsRing size q → lies_in offset q ≡ true → offset % 8 ≡ 0 → offset ≤ j → j < offset + 8 → InNone (places_from k q.base 0 q.slots) j → ⊥
one_ring size k offset j q r lies even low high h =
    let both = and_parts (nat_le q.base offset) (nat_lt offset (q.base + 64 * q.slots)) lies in
    let a = leb-true q.base offset both.0 in
    let b = ltb-true offset (q.base + 64 * q.slots) both.1 in
    let c = r.even in
    in_slot k q.base 0 q.slots j (omega arith) (omega arith) h

-- a word that lies in a ring is a part of a slot
pub in_rings : (size k offset j : ℕ) (rows : List QueueRow) → All (IsRing size) rows → list_any (lies_in offset) rows ≡ true → offset % 8 ≡ 0 → offset ≤ j → j < offset + 8 → InNone (all_places k (map queue_numbers rows)) j → ⊥
in_rings size k offset j [] r lies even low high h = absurd (cc)
in_rings size k offset j (q ∷ rows) r lies even low high h =
    either (lies_in offset q) (list_any (lies_in offset) rows) lies
    (λ here. one_ring size k offset j q (r 0 q (omega arith)) here even low high (none_left (places_from k q.base 0 q.slots) (all_places (k + 1) (map queue_numbers rows)) j h))
    (λ later. in_rings size (k + 1) offset j rows (λ i d l. r (suc i) d (omega arith)) later even low high (none_right (places_from k q.base 0 q.slots) (all_places (k + 1) (map queue_numbers rows)) j h))
  where
    either : (a b : Bool) → (a || b) ≡ true → (a ≡ true → ⊥) → (b ≡ true → ⊥) → ⊥
    either true b e f g = f refl
    either false b e f g = g e
