-- Changes leave what lies apart from them, and so two landings that lie apart can be exchanged.
use Rattle.std.proofs.Common.{◌≡◌, ℕ, ◌+◌, ◌<◌, ◌≤◌, inl, inr, true, false, ◌&&◌, ◌||◌, List, [], ◌∷◌, length, refl, sym, ap, subst, ◌∙◌}
use Rattle.std.proofs.lemmas.Bool.{cases_Bool, false≢true, false_from_ne_true, and_parts}
use Rattle.std.proofs.lemmas.List.{ext_get_or}
use Rattle.std.specs.List.{list_all}
use Rattle.redn_words.specs.declared.types.Region.{Region}
use Rattle.redn_words.specs.declared.types.Request.{Request}
use Rattle.redn_words.specs.declared.types.Origin.{Origin}
use Rattle.redn_words.specs.Words.{bytes_at, with_bytes_at}
use Rattle.redn_words.specs.Access.{EndsBy}
use Rattle.redn_words.specs.Landings.{Place, Change, changed, landing}
use Rattle.redn_words.specs.Ranges.{within, is_apart, all_apart, range_of, ranges_of, AreApart, Fits, LieApart, AllStand}
use Rattle.redn_words.proofs.Places.{bytes_at-same, length-with_bytes_at}
use Rattle.redn_words.proofs.Bytes.{over_missed, byte-changed, length-changed, same_range}
use Rattle.redn_words.specs.Bytes.{byte, covers, hits, over}
use Rattle.redn_words.proofs.Ranges.{within_apart, bounds_hold, one_within}
use Rattle.redn_words.proofs.Footprints.{landing_same, landing_fits}

-- a byte is hit where it is in the range of a change
pub hits_ranges : (changes : List Change) (p : ℕ) → hits changes p ≡ within (ranges_of changes) p
hits_ranges [] p = refl
hits_ranges (c ∷ rest) p = ap (λ b. covers c p || b) (hits_ranges rest p)

-- a range that lies apart from some changes isn't hit
missed : (changes : List Change) (place : Place) (p : ℕ) → all_apart (ranges_of changes) (place ∷ []) ≡ true → place.at ≤ p → p < place.at + place.len → hits changes p ≡ false
missed changes place p apart low high =
    false_from_ne_true (hits changes p) (λ hit. false≢true (sym (within_apart (ranges_of changes) (place ∷ []) p apart (sym (hits_ranges changes p) ∙ hit)) ∙ one_within place p (bounds_hold place p low high)))

-- and stays
pub range_stays : (memory : List ℕ) (changes : List Change) (place : Place) → Fits (length memory) changes → all_apart (ranges_of changes) (place ∷ []) ≡ true → bytes_at (changed memory changes) place.at place.len ≡ bytes_at memory place.at place.len
range_stays memory changes place fits apart =
    same_range (changed memory changes) memory place.at place.len (length-changed memory changes fits) (λ p low high. byte-changed memory changes p fits ∙ over_missed changes p (byte memory p) (missed changes place p apart low high))

-- changes that lie apart stand
pub all_stand : (memory : List ℕ) (changes : List Change) → Fits (length memory) changes → LieApart changes → AllStand (changed memory changes) changes
all_stand memory [] fits apart = tt
all_stand memory (c ∷ rest) fits apart =
    let one : length (with_bytes_at memory c.at c.bytes) ≡ length memory = length-with_bytes_at memory c.bytes c.at fits.0 in
    let fits_rest : Fits (length (with_bytes_at memory c.at c.bytes)) rest = subst (λ n. Fits n rest) (sym one) fits.1 in
    (range_stays (with_bytes_at memory c.at c.bytes) rest (range_of c) fits_rest apart.0 ∙ bytes_at-same memory c.bytes c.at fits.0, all_stand (with_bytes_at memory c.at c.bytes) rest fits_rest apart.1)

-- changes apart commute
pub changes_commute : (memory : List ℕ) (these those : List Change) → Fits (length memory) these → Fits (length memory) those → all_apart (ranges_of these) (ranges_of those) ≡ true → changed (changed memory these) those ≡ changed (changed memory those) these
changes_commute memory these those fits fits' apart =
    let size : length (changed memory these) ≡ length memory = length-changed memory these fits in
    let size' : length (changed memory those) ≡ length memory = length-changed memory those fits' in
    let behind : Fits (length (changed memory these)) those = subst (λ n. Fits n those) (sym size) fits' in
    let behind' : Fits (length (changed memory those)) these = subst (λ n. Fits n these) (sym size') fits in
    ext_get_or 0 (changed (changed memory these) those) (changed (changed memory those) these) (length-changed (changed memory these) those behind ∙ size ∙ sym (length-changed (changed memory those) these behind' ∙ size')) (λ p l.
    byte-changed (changed memory these) those p behind ∙ ap (over those p) (byte-changed memory these p fits) ∙ either p (byte memory p) ∙ sym (byte-changed (changed memory those) these p behind' ∙ ap (over these p) (byte-changed memory those p fits')))
  where
    either : (p before : ℕ) → over those p (over these p before) ≡ over these p (over those p before)
    either p before =
        elim (cases_Bool (hits these p)) [
          | inl hit ↦
              let none : hits those p ≡ false = hits_ranges those p ∙ within_apart (ranges_of these) (ranges_of those) p apart (sym (hits_ranges these p) ∙ hit) in
              over_missed those p (over these p before) none ∙ sym (ap (over these p) (over_missed those p before none))
          | inr none ↦ ap (over those p) (over_missed these p before none) ∙ sym (over_missed these p (over those p before) none)
        ]

-- a landing after another that lies apart is the one that it would be before it, and their writes commute
first_of : (these : List Place) (a : Place) (rest : List Place) → all_apart these (a ∷ rest) ≡ true → all_apart these (a ∷ []) ≡ true
first_of [] a rest e = refl
first_of (t ∷ these) a rest e =
    let parts = and_parts (is_apart t a && list_all (λ b. is_apart t b) rest) (all_apart these (a ∷ rest)) e in
    let here : is_apart t a ≡ true = (and_parts (is_apart t a) (list_all (λ b. is_apart t b) rest) parts.0).0 in
    rw (here, first_of these a rest parts.1) refl

rest_of : (these : List Place) (a : Place) (rest : List Place) → all_apart these (a ∷ rest) ≡ true → all_apart these rest ≡ true
rest_of [] a rest e = refl
rest_of (t ∷ these) a rest e =
    let parts = and_parts (is_apart t a && list_all (λ b. is_apart t b) rest) (all_apart these (a ∷ rest)) e in
    let there : list_all (λ b. is_apart t b) rest ≡ true = (and_parts (is_apart t a) (list_all (λ b. is_apart t b) rest) parts.0).1 in
    rw (there, rest_of these a rest parts.1) refl

module _ (regions : List Region) (memory : List ℕ) (ends : EndsBy (length memory) regions) (o p : Origin) (r t : Request) (apart : AreApart (landing regions o memory r) (landing regions p memory t)) where
  pub second_same : landing regions p (changed memory (landing regions o memory r).writes) t ≡ landing regions p memory t
  second_same =
      sym (landing_same regions p t memory (changed memory (landing regions o memory r).writes) (sym (range_stays memory (landing regions o memory r).writes (landing regions p memory t).reads (landing_fits regions o r memory ends) (first_of (ranges_of (landing regions o memory r).writes) (landing regions p memory t).reads (ranges_of (landing regions p memory t).writes) apart.first))))

  pub first_same : landing regions o (changed memory (landing regions p memory t).writes) r ≡ landing regions o memory r
  first_same =
      sym (landing_same regions o r memory (changed memory (landing regions p memory t).writes) (sym (range_stays memory (landing regions p memory t).writes (landing regions o memory r).reads (landing_fits regions p t memory ends) apart.second)))

  pub writes_commute : changed (changed memory (landing regions o memory r).writes) (landing regions p memory t).writes ≡ changed (changed memory (landing regions p memory t).writes) (landing regions o memory r).writes
  writes_commute =
      changes_commute memory (landing regions o memory r).writes (landing regions p memory t).writes (landing_fits regions o r memory ends) (landing_fits regions p t memory ends) (rest_of (ranges_of (landing regions o memory r).writes) (landing regions p memory t).reads (ranges_of (landing regions p memory t).writes) apart.first)
