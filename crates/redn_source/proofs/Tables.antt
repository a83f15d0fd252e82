-- A word that is put into one of some tables.
use Rattle.std.proofs.Common.{◌≡◌, ℕ, ◌+◌, ◌<◌, ◌≤◌, Bool, true, false, List, [], length, map, get_or, set, refl, sym, ap, ◌∙◌, inl, inr, Vec, Global}
use Rattle.std.specs.Prelude.{◌↔◌, IsTrue, nat_le}
use Rattle.std.specs.Bool.{MatchBool, OnTrue, OnFalse}
use Rattle.std.specs.Vec.{with_items}
use Rattle.std.proofs.lemmas.List.{get_or-map, map-set, with_items_is}
use Rattle.std.proofs.Math.Seq.{map-set_same}
use Rattle.std.proofs.lemmas.Bool.{false≢true, le-leb}
use Rattle.std.proofs.lemmas.Bool.Decides.{leb_tells}
use Rattle.redn_words.specs.Words.{with_bytes_at, spelled}
use Rattle.redn_kernel.specs.Source.{bytes_of, has_word, with_word_in}

abbrev bytes : Vec ℕ Global → List ℕ
bytes v = v.items

-- what was written, by what a call answered
pub written : (tables : List (Vec ℕ Global)) (t o w : ℕ) (v : Vec ℕ Global) (old new : List ℕ) (ok : Bool) →
    t < length tables → old ≡ (get_or tables t v).items → length new ≡ length old →
    (IsTrue ok ↔ (o + 8 ≤ length old)) → OnTrue ok (new ≡ with_bytes_at old o (spelled 8 w)) → OnFalse ok (new ≡ old) →
    MatchBool ok
    ((has_word (map bytes tables) t o ≡ true) × (map bytes (set tables t (with_items (get_or tables t v) new)) ≡ with_word_in (map bytes tables) t o w))
    ((has_word (map bytes tables) t o ≡ false) × (map bytes (set tables t (with_items (get_or tables t v) new)) ≡ map bytes tables))
written tables t o w v old new true lt is len fits put unput =
    let here : bytes_of (map bytes tables) t ≡ old = get_or-map bytes tables t v [] lt ∙ sym is in
    let filled : (with_items (get_or tables t v) new).items ≡ new = with_items_is (get_or tables t v) new (len ∙ ap length is ∙ sym (get_or tables t v).ok.0) in
    let after : map bytes (set tables t (with_items (get_or tables t v) new)) ≡ set (map bytes tables) t new = map-set bytes tables t (with_items (get_or tables t v) new) ∙ ap (set (map bytes tables) t) filled in
    (rw here (le-leb _ _ (fits.0 refl)), after ∙ ap (set (map bytes tables) t) (put ∙ ap (λ b. with_bytes_at b o (spelled 8 w)) (sym here)))
written tables t o w v old new false lt is len fits put unput =
    let here : bytes_of (map bytes tables) t ≡ old = get_or-map bytes tables t v [] lt ∙ sym is in
    let filled : (with_items (get_or tables t v) new).items ≡ new = with_items_is (get_or tables t v) new (len ∙ ap length is ∙ sym (get_or tables t v).ok.0) in
    let short : nat_le (o + 8) (length old) ≡ false = elim (leb_tells (o + 8) (length old)) [ inl p ↦ absurd (false≢true (fits.1 p.1)) | inr p ↦ p.0 ] in
    (rw here short, map-set_same bytes tables t (with_items (get_or tables t v) new) v (filled ∙ unput ∙ is))
