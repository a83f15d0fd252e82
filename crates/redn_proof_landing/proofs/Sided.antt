-- Where the two sides of a draft lie.
use Rattle.std.proofs.Common.{◌≡◌, ℕ, ◌+◌, ◌-◌, ◌<◌, ◌≤◌, true, false, ◌||◌, ◌==◌, List, length, take, drop, refl, sym, ap, ◌∙◌, arith, length-drop, Some}
use Rattle.std.specs.Prelude.{nat_le, nat_lt, Ok, Err}
use Rattle.std.proofs.lemmas.Bool.{and_parts, leb-true, ltb-true, eq-eqb}
use Rattle.std.proofs.lemmas.Bool.Decides.{nat_tests}
use Rattle.std.proofs.lemmas.List.{take-take, drop-take, drop-drop, length-take-le}
use Rattle.redn_words.specs.declared.types.Region.{Region}
use Rattle.redn_words.specs.declared.types.Need.{Need}
use Rattle.redn_words.specs.declared.types.Refusal.TheVariants as no
use Rattle.redn_proof_landing.specs.Homes.{seen_in}
use Rattle.redn_segment.specs.Homes.{Home, base_of, room_of, IsHome}
use Rattle.redn_segment.specs.Plain.{is_length}
use Rattle.redn_segment.specs.Sites.{inside}
use Rattle.redn_words.specs.Access.{access, region_of, is_aligned, grants}
use Rattle.redn_words.specs.Words.{bytes_at}
use Rattle.redn_segment.specs.declared.types.Space.{Space}

-- a part of a part
pub bytes_at-within : (m : List ℕ) (a size o n : ℕ) → o + n ≤ size → bytes_at (bytes_at m a size) o n ≡ bytes_at m (a + o) n
bytes_at-within m a size o n h =
    let rest : o + (size - o) ≡ size = omega arith in
    let cut : drop o (take size (drop a m)) ≡ take (size - o) (drop o (drop a m)) = ap (λ (k : ℕ). drop o (take k (drop a m))) (sym rest) ∙ drop-take o (size - o) (drop a m) in
    ap (take n) cut ∙ take-take n (size - o) (drop o (drop a m)) (omega arith) ∙ ap (take n) (drop-drop o a m)

pub length_is : (n : ℕ) → is_length n ≡ true → (0 < n) × (n ≤ 1048576)
length_is n h = let parts = and_parts (nat_lt 0 n) (nat_le n 1048576) h in (ltb-true 0 n parts.0, leb-true n 1048576 parts.1)

module _ (regions : List Region) (domain key : ℕ) (g : Region) (off len : ℕ) (need : Need) (found : region_of regions key ≡ Some g) (its : g.domain ≡ domain) (good : is_length len ≡ true) where
  same_domain : (g.domain == domain) ≡ true
  same_domain = eq-eqb g.domain domain its

  fine_length : (len == 0 || nat_lt 1048576 len) ≡ false
  fine_length = let h = length_is len good in grind (arith, nat_tests)

  -- an access that is allowed
  pub access_goes : off + len ≤ g.len → is_aligned off need ≡ true → grants g.rights need ≡ true → access regions domain key off len need ≡ Ok (record { at = g.base + off; kind = g.kind })
  unfolding access
  access_goes inside aligned granted =
      let in_range : nat_lt g.len (off + len) ≡ false = grind (arith, nat_tests) in
      rw (found, same_domain, fine_length, in_range, aligned, granted) refl

  -- and one past the end of its region
  pub access_ends : g.len < off + len → access regions domain key off len need ≡ Err no.Range
  unfolding access
  access_ends past =
      let out : nat_lt g.len (off + len) ≡ true = grind (arith, nat_tests) in
      rw (found, same_domain, fine_length, out) refl

module _ (home : Space → Home) where
  module _ (regions : List Region) (domain : ℕ) (m : List ℕ) (p : Space) (h : IsHome home regions domain (length m) p) where
    pub length-seen : length (seen_in home m p) ≡ room_of home p
    length-seen = let a = h.inside in let b = h.ends in length-take-le (room_of home p) (drop (base_of home p) m) (omega (arith, length-drop (base_of home p) m))

    -- what is read there
    pub seen_reads : (o n : ℕ) → o + n ≤ room_of home p → bytes_at (seen_in home m p) o n ≡ bytes_at m (base_of home p + o) n
    seen_reads o n l = bytes_at-within m (base_of home p) (room_of home p) o n l
