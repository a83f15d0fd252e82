-- Spaces of a list lie apart where a test of each two says so.
use Rattle.std.proofs.Common.{◌≡◌, inl, inr, ℕ, ◌+◌, Bool, true, ◌||◌, List, [], ◌∷◌, sym, ap, ◌∙◌}
use Rattle.std.specs.Prelude.{nat_le}
use Rattle.std.specs.List.{list_any, list_all}
use Rattle.std.proofs.lemmas.Bool.{false≢true, and_parts, or_cases, leb-true}
use Rattle.redn_segment.proofs.SameSpace.{same_space_is}
use Rattle.redn_segment.specs.declared.types.Space.{Space}
use Rattle.redn_segment.specs.Homes.{Home, base_of, room_of, LieApart}
use Rattle.redn_segment.specs.Sites.{same_space}

abbrev pub is_listed : List Space → Space → Bool
is_listed those p = list_any (λ (q : Space). same_space q p) those

-- a test of all in the list holds of each
pub listed : (test : Space → Bool) (those : List Space) (p : Space) → list_all test those ≡ true → is_listed those p ≡ true → test p ≡ true
listed test [] p all its = absurd (false≢true its)
listed test (q ∷ those) p all its =
    let parts = and_parts (test q) (list_all test those) all in
    elim (or_cases (same_space q p) (is_listed those p) its) [ inl here ↦ ap test (sym (same_space_is q p here)) ∙ parts.0 | inr there ↦ listed test those p parts.1 there ]

module _ (home : Space → Home) (size : ℕ) where
  abbrev pub lies_inside : Space → Bool
  lies_inside p = nat_le (base_of home p + room_of home p) size

  abbrev pub two_apart : Space → Space → Bool
  two_apart p q =
      same_space p q || (nat_le (base_of home p + room_of home p) (base_of home q) || nat_le (base_of home q + room_of home q) (base_of home p))

  pub lie_apart : (those : List Space) → list_all lies_inside those ≡ true → list_all (λ (p : Space). list_all (two_apart p) those) those ≡ true → LieApart home (is_listed those) size
  lie_apart those inside apart =
      record {
        inside = λ p its. leb-true (base_of home p + room_of home p) size (listed lies_inside those p inside its);
        apart = λ p q its others ne.
            let one : list_all (two_apart p) those ≡ true = listed (λ (r : Space). list_all (two_apart r) those) those p apart its in
            let both : two_apart p q ≡ true = listed (two_apart p) those q one others in
            elim (or_cases (same_space p q) _ both) [
              | inl same ↦ absurd (false≢true (sym ne ∙ same))
              | inr far ↦ elim (or_cases (nat_le (base_of home p + room_of home p) (base_of home q)) _ far) [ inl f ↦ inl (leb-true (base_of home p + room_of home p) (base_of home q) f) | inr f ↦ inr (leb-true (base_of home q + room_of home q) (base_of home p) f) ]
            ];
      }
