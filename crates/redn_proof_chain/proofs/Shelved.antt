-- Tables in memory stay, but for the word that is stored.
use Rattle.std.proofs.Common.{◌≡◌, ◌≢◌, ℕ, zero, suc, ◌+◌, ◌<◌, ◌≤◌, ◌⊎◌, inl, inr, Bool, true, ◌||◌, List, [], length, sym, ap, ◌∙◌, subst, arith, drop, length-take, length-drop}
use Rattle.std.specs.Prelude.{nat_le, nat_lt}
use Rattle.std.specs.List.{list_any, range_with_len}
use Rattle.std.proofs.lemmas.Bool.{and_from, le-leb, leb-true, lt-ltb, cases_eq, or_right}
use Rattle.std.proofs.lemmas.List.{get_or-set_same, get_or-set_other, length-set}
use Rattle.redn_words.specs.Words.{bytes_at, with_bytes_at, spelled}
use Rattle.redn_words.proofs.Bytes.{same_range}
use Rattle.redn_words.specs.Bytes.{byte}
use Rattle.redn_words.proofs.Places.{bytes_at-other}
use Rattle.redn_words.proofs.Fields.{bytes_at-part}
use Rattle.redn_words.proofs.Numbers.{length-spelled}
use Rattle.redn_kernel.specs.Source.{bytes_of, has_word, with_word_in}
use Rattle.redn_proof_interleave.specs.Machines.{Contents}
use Rattle.redn_proof_chain.specs.Together.{Shelves, HasTables, is_on, is_shared, LieApart}
use Rattle.redn_proof_chain.specs.FormLaws.{ShelvesHold}

any_in : (test : ℕ → Bool) (a n k : ℕ) → a ≤ k → k < a + n → test k ≡ true → list_any test (range_with_len a n) ≡ true
any_in test a zero k low high e = absurd (omega (arith, low, high))
any_in test a (suc n) k low high e =
    elim (cases_eq k a) [
      | inl same ↦ ap (λ (b : Bool). b || list_any test (range_with_len (a + 1) n)) (ap test (sym same) ∙ e)
      | inr ne ↦ or_right (test a) (list_any test (range_with_len (a + 1) n)) (any_in test (a + 1) n k (omega (arith, low, ne)) (omega (arith, high)) e)
    ]

pub on_shared : (s : Shelves) (k p : ℕ) → k < s.many → s.at k ≤ p → p < s.at k + s.len k → is_shared s p ≡ true
on_shared s k p l low high = any_in (is_on s p) 0 s.many k (omega arith) (omega (arith, l)) (and_from (nat_le (s.at k) p) (nat_lt p (s.at k + s.len k)) (le-leb (s.at k) p low) (lt-ltb p (s.at k + s.len k) high))

module _ (s : Shelves) (t : Contents) (m : List ℕ) (has : HasTables s t m) where
  same : (n : List ℕ) → length n ≡ length m → ((p : ℕ) → is_shared s p ≡ true → byte n p ≡ byte m p) → HasTables s t n
  same n size bytes = record { many = has.many; each = λ k l. same_range n m (s.at k) (s.len k) size (λ p low high. bytes p (on_shared s k p l low high)) ∙ has.each k l }

  module _ (apart : LieApart s (length m)) where
    long : (k : ℕ) → k < s.many → length (bytes_of t k) ≡ s.len k
    long k l = let fits = apart.inside k l in ap length (sym (has.each k l)) ∙ length_range
      where
        length_range : length (bytes_at m (s.at k) (s.len k)) ≡ s.len k
        length_range = let inside = apart.inside k l in omega (arith, length-take (s.len k) (drop (s.at k) m), length-drop (s.at k) m, inside)

    stored : (k o v : ℕ) → k < s.many → has_word t k o ≡ true → HasTables s (with_word_in t k o v) (with_bytes_at m (s.at k + o) (spelled 8 v))
    stored k o v l is =
        let size = long k l in
        let fits : o + 8 ≤ s.len k = (let h = leb-true (o + 8) (length (bytes_of t k)) is in omega (arith, h, size)) in
        record { many = length-set t k _ ∙ has.many; each = λ i small. by_table fits i small (cases_eq i k) }
      where
        eight : length (spelled 8 v) ≡ 8
        eight = length-spelled 8 v

        by_table : o + 8 ≤ s.len k → (i : ℕ) → i < s.many → (i ≡ k) ⊎ (i ≢ k) → bytes_at (with_bytes_at m (s.at k + o) (spelled 8 v)) (s.at i) (s.len i) ≡ bytes_of (with_word_in t k o v) i
        by_table fits i small (inl e) =
            let inside = apart.inside k l in
            let many = has.many in
            let now : bytes_at (with_bytes_at m (s.at k + o) (spelled 8 v)) (s.at k) (s.len k) ≡ bytes_of (with_word_in t k o v) k =
            bytes_at-part m (spelled 8 v) (s.at k) (s.len k) o inside (omega (arith, eight, fits)) ∙ ap (λ (b : List ℕ). with_bytes_at b o (spelled 8 v)) (has.each k l) ∙ sym (get_or-set_same t k (with_bytes_at (bytes_of t k) o (spelled 8 v)) [] (omega (arith, l, many))) in
            subst (λ (x : ℕ). bytes_at (with_bytes_at m (s.at k + o) (spelled 8 v)) (s.at x) (s.len x) ≡ bytes_of (with_word_in t k o v) x) (sym e) now
        by_table fits i small (inr ne) =
            let inside = apart.inside k l in
            let other : (s.at i + s.len i ≤ s.at k + o) ⊎ ((s.at k + o) + length (spelled 8 v) ≤ s.at i) = elim (apart.apart i k small l ne) [ inl below ↦ inl (omega (arith, below)) | inr above ↦ inr (omega (arith, above, eight, fits)) ] in
            bytes_at-other m (spelled 8 v) (s.at k + o) (omega (arith, eight, fits, inside)) (s.at i) (s.len i) other ∙ has.each i small ∙ sym (get_or-set_other t k i (with_bytes_at (bytes_of t k) o (spelled 8 v)) [] ne)

pub shelves_hold : ShelvesHold
shelves_hold s t m has = record { same = same s t m has; stored = λ k o v apart l is. stored s t m has apart k o v l is }
