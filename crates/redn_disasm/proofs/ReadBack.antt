-- A listing is read back as its image.
use Rattle.std.proofs.Common.{◌≡◌, ℕ, zero, suc, ◌+◌, ◌*◌, ◌%◌, ◌^◌, ◌<◌, ◌≤◌, Bool, true, false, cond, ◌||◌, ◌==◌, List, [], ◌∷◌, ◌++◌, length, map, refl, sym, ap, subst, ◌∙◌, inl, inr, arith, append_assoc, append-nil, add-one}
use Rattle.std.specs.Prelude.{codes}
use Rattle.std.specs.List.{All, list_any}
use Rattle.std.proofs.lemmas.Bool.{cases_lt, eqb-true}
use Rattle.byteorder.specs.Numbers.{big_from-lt}
use Rattle.redn_words.specs.declared.types.QueueRow.{QueueRow}
use Rattle.redn_words.specs.Words.{bytes_at, number, spelled, with_bytes_at, word}
use Rattle.redn_words.specs.Bytes.{byte}
use Rattle.redn_words.proofs.Digits.{AreBytes, spelled-number}
use Rattle.redn_image.specs.Rules.{Numbers, queue_numbers}
use Rattle.redn_disasm.specs.Assembly.{Ended, Filled, Leads, Made, Outcome, Place, all_places, data_formats}
use Rattle.redn_disasm.specs.Fields.{IsRow}
use Rattle.redn_disasm.specs.Listing.{IsRing, data_line, data_text, flat_below, lies_in}
use Rattle.redn_disasm.proofs.Memories.{Filling, InNone, filled_all, filled_more, in_rings, weaker, zero_word}
use Rattle.redn_disasm.proofs.Written.{Comes, IsLine, come_line, row_line}
use Rattle.redn_disasm.proofs.WrittenWords.{data_row}

-- what the numbers from i on give, n of them
abbrev pub flat_range : (ℕ → List ℕ) → ℕ → ℕ → List ℕ
flat_range f i zero = []
flat_range f i (suc n) = f i ++ flat_range f (i + 1) n

range_behind : (f : ℕ → List ℕ) (i n : ℕ) → flat_below f i ++ flat_range f i n ≡ flat_below f (i + n)
range_behind f i zero = let e : i ≡ i + 0 = omega arith in append-nil (flat_below f i) ∙ ap (flat_below f) e
range_behind f i (suc n) =
    let e : (i + 1) + n ≡ i + suc n = omega arith in
    sym (append_assoc (flat_below f i) (f i) (flat_range f (i + 1) n)) ∙ ap (λ (l : List ℕ). l ++ flat_range f (i + 1) n) (sym (ap (flat_below f) (add-one i))) ∙ range_behind f (i + 1) n ∙ ap (flat_below f) e

pub range_all : (f : ℕ → List ℕ) (n : ℕ) → flat_below f n ≡ flat_range f 0 n
range_all f n = let e : n ≡ 0 + n = omega arith in ap (flat_below f) e ∙ sym (range_behind f 0 n)

lead_word : (n : Numbers) (memory line : List ℕ) (o w : ℕ) → IsRow (codes "data") data_formats line (o ∷ w ∷ []) → o % 8 ≡ 0 → o + 8 ≤ n.size → Leads (Filled n [] memory) line (Filled n [] (with_bytes_at memory o (spelled 8 w)))
unfolding Leads
lead_word n memory line o w row even inside = inl (o, w, row, even, inside, refl)

lead_end : (n : Numbers) (memory : List ℕ) → Leads (Filled n [] memory) (codes "end\n") (Ended n memory)
unfolding Leads
lead_end n memory = inr (refl, refl)

end_line : IsLine (codes "end\n")
end_line = record { front = codes "end"; is = refl; inside = refl }

-- the bytes still to come: in no slot, and from here on
abbrev pub Left : List Place → ℕ → ℕ → Type 0
Left places k j = InNone places j × (8 * k ≤ j)

-- the last line
end_comes : (whole : List ℕ) (n : Numbers) (memory : List ℕ) → memory ≡ whole → Comes (Made n whole) (Filled n [] memory) (codes "end\n")
end_comes whole n memory is =
    let out : Outcome = Made n whole in
    let done : Comes out (Ended n memory) [] = record { at = λ k. ap (Made n) (sym is) } in
    subst (Comes out (Filled n [] memory)) (append-nil (codes "end\n")) (come_line out (Filled n [] memory) (Ended n memory) (codes "end\n") [] end_line refl (lead_end n memory) done)

-- a word that has a line, and one that has none
put_comes : (whole : List ℕ) (n : Numbers) (places : List Place) (k : ℕ) (memory rest : List ℕ) → n.size ≡ length whole → length whole < 2 ^ 62 → AreBytes whole → 8 * k + 8 ≤ length whole → Filling whole (Left places k) memory → ((now : List ℕ) → Filling whole (Left places (k + 1)) now → Comes (Made n whole) (Filled n [] now) rest) → Comes (Made n whole) (Filled n [] memory) (data_line (8 * k) (word whole (8 * k)) ++ rest)
unfolding number
put_comes whole n places k memory rest size few bytes inside f h =
    let o : ℕ = 8 * k in
    let w : ℕ = word whole o in
    let wide : w < 2 ^ 64 = big_from-lt o 8 whole bytes in
    let row = data_row o w (omega arith) wide in
    let line = data_line o w in
    let same : spelled 8 w ≡ bytes_at whole o 8 = spelled-number 8 whole o inside bytes in
    let even : o % 8 ≡ 0 = omega arith in
    let lead = subst (λ (b : List ℕ). Leads (Filled n [] memory) line (Filled n [] (with_bytes_at memory o b))) same (lead_word n memory line o w row even (omega arith)) in
    let now = with_bytes_at memory o (bytes_at whole o 8) in
    let filled = weaker whole (λ j. Left places k j × (o ≤ j → j < o + 8 → ⊥)) (Left places (k + 1)) now (λ j z l. inr (l.0.0, later_byte k j l.0.1 l.1)) (filled_more whole (Left places k) memory o 8 inside f) in
    come_line (Made n whole) (Filled n [] memory) (Filled n [] now) line rest (row_line (codes "data") data_formats line (o ∷ w ∷ []) refl row) refl lead (h now filled)
  where
    later_byte : (k j : ℕ) → 8 * k ≤ j → (8 * k ≤ j → j < 8 * k + 8 → ⊥) → 8 * (k + 1) ≤ j
    later_byte k j low out = elim (cases_lt j (8 * k + 8)) [ inl within ↦ absurd (out low within) | inr past ↦ omega arith ]

skip_comes : (whole : List ℕ) (places : List Place) (k : ℕ) (memory : List ℕ) → ((j : ℕ) → 8 * k ≤ j → j < 8 * k + 8 → InNone places j → byte whole j ≡ 0) → Filling whole (Left places k) memory → Filling whole (Left places (k + 1)) memory
skip_comes whole places k memory none f =
    weaker whole (Left places k) (Left places (k + 1)) memory (λ j z l. elim (cases_lt j (8 * k + 8)) [ inl within ↦ inl (none j l.1 within l.0) | inr past ↦ inr (l.0, let low = l.1 in omega arith) ]) f

one_word_comes : (whole : List ℕ) (n : Numbers) (rows : List QueueRow) (k : ℕ) (memory rest : List ℕ) → n.size ≡ length whole → length whole < 2 ^ 62 → AreBytes whole → All (IsRing (length whole)) rows → 8 * k + 8 ≤ length whole → Filling whole (Left (all_places 0 (map queue_numbers rows)) k) memory → ((now : List ℕ) → Filling whole (Left (all_places 0 (map queue_numbers rows)) (k + 1)) now → Comes (Made n whole) (Filled n [] now) rest) → (ring zero_is : Bool) → list_any (lies_in (8 * k)) rows ≡ ring → (word whole (8 * k) == 0) ≡ zero_is → Comes (Made n whole) (Filled n [] memory) (cond (ring || zero_is) [] (data_line (8 * k) (word whole (8 * k))) ++ rest)
one_word_comes whole n rows k memory rest size few bytes rings inside f h true z e g =
    h memory (skip_comes whole (all_places 0 (map queue_numbers rows)) k memory (λ j low high out. absurd (in_rings (length whole) 0 (8 * k) j rows rings e (omega arith) low high out)) f)
one_word_comes whole n rows k memory rest size few bytes rings inside f h false true e g =
    h memory (skip_comes whole (all_places 0 (map queue_numbers rows)) k memory (λ j low high out. zero_word whole (8 * k) j bytes inside (eqb-true _ _ g) low high) f)
one_word_comes whole n rows k memory rest size few bytes rings inside f h false false e g =
    put_comes whole n (all_places 0 (map queue_numbers rows)) k memory rest size few bytes inside f h

-- the lines of words are read on, up to the end
pub words_come : (whole : List ℕ) (n : Numbers) (rows : List QueueRow) (k count : ℕ) (memory : List ℕ) → n.size ≡ length whole → length whole < 2 ^ 62 → AreBytes whole → All (IsRing (length whole)) rows → 8 * (k + count) ≡ length whole → Filling whole (Left (all_places 0 (map queue_numbers rows)) k) memory → Comes (Made n whole) (Filled n [] memory) (flat_range (λ j. data_text rows whole (8 * j)) k count ++ codes "end\n")
words_come whole n rows k zero memory size few bytes rings all f =
    end_comes whole n memory (filled_all whole (Left (all_places 0 (map queue_numbers rows)) k) memory (λ j l. let low = l.1 in omega arith) f)
words_come whole n rows k (suc count) memory size few bytes rings all f =
    let texts = flat_range (λ j. data_text rows whole (8 * j)) (k + 1) count in
    let here = one_word_comes whole n rows k memory (texts ++ codes "end\n") size few bytes rings (omega arith) f (λ now g. words_come whole n rows (k + 1) count now size few bytes rings (omega arith) g) (list_any (lies_in (8 * k)) rows) (word whole (8 * k) == 0) refl refl in
    subst (Comes (Made n whole) (Filled n [] memory)) (sym (append_assoc (data_text rows whole (8 * k)) texts (codes "end\n"))) here
