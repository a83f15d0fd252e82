-- Memory byte by byte: what some changes make of each byte, and that changes to bytes apart commute.
use Rattle.std.proofs.Common.{◌≡◌, ℕ, ◌+◌, ◌-◌, ◌<◌, ◌≤◌, inl, inr, false, List, [], ◌∷◌, ◌++◌, length, take, drop, get_or, refl, sym, ap, subst, ◌∙◌, arith, length-take, length-drop}
use Rattle.std.specs.Prelude.{nat_le, nat_lt}
use Rattle.std.proofs.lemmas.Bool.{cases_Bool, or_parts}
use Rattle.std.proofs.lemmas.Bool.Decides.{nat_tests}
use Rattle.std.proofs.lemmas.List.{ext_get_or, get_or-take, get_or-drop, get_or-append_right, get_or_append_left, length-take-le}
use Rattle.redn_words.specs.Words.{bytes_at, with_bytes_at}
use Rattle.redn_words.specs.Landings.{Change, changed}
use Rattle.redn_words.specs.Ranges.{Fits}
use Rattle.redn_words.proofs.Places.{length-with_bytes_at}
use Rattle.redn_words.specs.Bytes.{byte, covers, hits, put, over}

-- a byte that no change hits stays
pub over_missed : (changes : List Change) (p before : ℕ) → hits changes p ≡ false → over changes p before ≡ before
over_missed [] p before h = refl
over_missed (c ∷ rest) p before h =
    let parts = or_parts (covers c p) (hits rest p) h in
    over_missed rest p (put c p before) parts.1 ∙ (let first = parts.0 in rw first refl)

-- each byte after one change
pub byte_put : (memory : List ℕ) (c : Change) (p : ℕ) → c.at + length c.bytes ≤ length memory → byte (with_bytes_at memory c.at c.bytes) p ≡ put c p (byte memory p)
byte_put memory c p fits =
    elim (cases_Bool (nat_le c.at p)) [
      | inr low ↦ let below : p < c.at = grind (arith, nat_tests) in rw low (get_or_append_left (take c.at memory) (c.bytes ++ drop (c.at + length c.bytes) memory) 0 p (omega (arith, front)) ∙ get_or-take c.at memory p 0 below)
      | inl low ↦
          let above : c.at ≤ p = grind (arith, nat_tests) in
          let second : byte (with_bytes_at memory c.at c.bytes) p ≡ get_or (c.bytes ++ drop (c.at + length c.bytes) memory) (p - c.at) 0 = get_or-append_right (take c.at memory) (c.bytes ++ drop (c.at + length c.bytes) memory) c.at p 0 front above in
          elim (cases_Bool (nat_lt p (c.at + length c.bytes))) [
            | inl high ↦
                let inside : p < c.at + length c.bytes = grind (arith, nat_tests) in
                rw (low, high) (second ∙ get_or_append_left c.bytes (drop (c.at + length c.bytes) memory) 0 (p - c.at) (omega arith))
            | inr high ↦
                let past : c.at + length c.bytes ≤ p = grind (arith, nat_tests) in
                let at : (c.at + length c.bytes) + ((p - c.at) - length c.bytes) ≡ p = omega arith in
                rw (low, high) (second ∙ get_or-append_right c.bytes (drop (c.at + length c.bytes) memory) (length c.bytes) (p - c.at) 0 refl (omega arith) ∙ get_or-drop (c.at + length c.bytes) memory ((p - c.at) - length c.bytes) 0 ∙ ap (byte memory) at)
          ]
    ]
  where
    front : length (take c.at memory) ≡ c.at
    front = length-take-le c.at memory (omega arith)

pub length-changed : (memory : List ℕ) (changes : List Change) → Fits (length memory) changes → length (changed memory changes) ≡ length memory
length-changed memory [] f = refl
length-changed memory (c ∷ rest) f =
    let one : length (with_bytes_at memory c.at c.bytes) ≡ length memory = length-with_bytes_at memory c.bytes c.at f.0 in
    length-changed (with_bytes_at memory c.at c.bytes) rest (subst (λ n. Fits n rest) (sym one) f.1) ∙ one

-- each byte after some changes
pub byte-changed : (memory : List ℕ) (changes : List Change) (p : ℕ) → Fits (length memory) changes → byte (changed memory changes) p ≡ over changes p (byte memory p)
byte-changed memory [] p f = refl
byte-changed memory (c ∷ rest) p f =
    let one : length (with_bytes_at memory c.at c.bytes) ≡ length memory = length-with_bytes_at memory c.bytes c.at f.0 in
    byte-changed (with_bytes_at memory c.at c.bytes) rest p (subst (λ n. Fits n rest) (sym one) f.1) ∙ ap (over rest p) (byte_put memory c p f.0)

-- a range is told by its bytes
pub same_range : (m n : List ℕ) (at len : ℕ) → length m ≡ length n → ((p : ℕ) → at ≤ p → p < at + len → byte m p ≡ byte n p) → bytes_at m at len ≡ bytes_at n at len
same_range m n at len e same =
    ext_get_or 0 (bytes_at m at len) (bytes_at n at len) (omega (arith, length-take len (drop at m), length-take len (drop at n), length-drop at m, length-drop at n)) (λ i l.
    let short : i < len = omega (arith, l, length-take len (drop at m)) in
    get_or-take len (drop at m) i 0 short ∙ get_or-drop at m i 0 ∙ same (at + i) (omega arith) (omega arith) ∙ sym (get_or-drop at n i 0) ∙ sym (get_or-take len (drop at n) i 0 short))
