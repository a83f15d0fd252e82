-- What the rules of the header say of an image that keeps them.
use Rattle.std.proofs.Common.{◌≡◌, ℕ, ◌≤◌, ◌%◌, Bool, true, false, ◌&&◌, ◌==◌, List, [], ◌∷◌, ◌++◌, length, refl, arith}
use Rattle.std.specs.Prelude.{nat_le, nat_lt}
use Rattle.std.proofs.lemmas.Bool.{leb-true}
use Rattle.std.proofs.lemmas.List.{length-map}
use Rattle.redn_image.specs.Rules.{Image, Obeys, faults, numbers_of, region_numbers, queue_numbers, unless, header_faults}

pub none_before : {X : Type 0} (xs ys : List X) → xs ++ ys ≡ [] → xs ≡ []
none_before [] ys e = refl
none_before (x ∷ xs) ys e = absurd (cc)

pub none_behind : {X : Type 0} (xs ys : List X) → xs ++ ys ≡ [] → ys ≡ []
none_behind [] ys e = e
none_behind (x ∷ xs) ys e = absurd (cc)

pub unless_none : (b : Bool) (rule : ℕ) → unless b rule ≡ [] → b ≡ true
unless_none true rule e = refl
unless_none false rule e = absurd (cc)

pub and_right : (a b : Bool) → (a && b) ≡ true → b ≡ true
and_right true b e = e
and_right false b e = absurd (cc)

-- the counts and the size
pub record Small (i : Image) : Type 0 where
  pub regions : length i.regions ≤ 4096
  pub queues : length i.queues ≤ 65535
  pub receives : length i.receives ≤ 16
  pub size : length i.memory ≤ 33554432

pub header_small : (r q c z m : ℕ) → header_faults r q c z m ≡ [] → (nat_le r 4096 ≡ true) × (nat_le q 65535 ≡ true) × ((nat_lt 0 c && nat_le c 16) ≡ true) × ((m % 8 == 0 && nat_le m 33554432) ≡ true)
header_small r q c z m e =
    let four = none_before _ (unless (m % 8 == 0 && nat_le m 33554432) 5) e in
    let three = none_before _ (unless (z == 0) 4) four in
    let two = none_before _ (unless (nat_lt 0 c && nat_le c 16) 3) three in
    (unless_none _ 1 (none_before _ (unless (nat_le q 65535) 2) two), unless_none _ 2 (none_behind (unless (nat_le r 4096) 1) _ two), unless_none _ 3 (none_behind (unless (nat_le r 4096) 1 ++ unless (nat_le q 65535) 2) _ three), unless_none _ 5 (none_behind (unless (nat_le r 4096) 1 ++ unless (nat_le q 65535) 2 ++ unless (nat_lt 0 c && nat_le c 16) 3 ++ unless (z == 0) 4) _ e))

pub small : (i : Image) → Obeys i → Small i
unfolding faults
small i e =
    let n = numbers_of i in
    let h = header_small (length n.regions) (length n.queues) (length i.receives) 0 (length i.memory) (none_before _ _ e) in
    record {
      regions = omega (arith, leb-true _ _ h.0, length-map i.regions region_numbers);
      queues = omega (arith, leb-true _ _ h.1, length-map i.queues queue_numbers);
      receives = leb-true _ _ (and_right _ _ h.2);
      size = leb-true _ _ (and_right _ _ h.3);
    }
