-- What rows keep, of which no fault is found.
use Rattle.std.proofs.Common.{◌≡◌, ℕ, zero, suc, ◌<◌, ◌≤◌, Bool, true, false, List, [], ◌∷◌, ◌++◌, length, get_or, refl, arith}
use Rattle.std.specs.Prelude.{nat_le, nat_lt, if◌then◌else◌}
use Rattle.std.specs.List.{All}
use Rattle.std.proofs.lemmas.Bool.{ltb-true}
use Rattle.redn_image.specs.Answers.{IsQueue, IsRegion}
use Rattle.redn_image.specs.Rules.{Fault, Numbers, QueueNumbers, RegionNumbers, breaking, key_is_new, kind_is_known, receive_is_inside, region_is_inside, ring_is_inside, row_faults, slots_are_few, table_is_one}
use Rattle.redn_image.proofs.Bounds.{none_before, none_behind}

pub record Kept (n : Numbers) : Type 0 where
  pub keys : breaking 6 key_is_new [] n.regions ≡ []
  pub domains : breaking 7 (λ (earlier : List RegionNumbers) (r : RegionNumbers). nat_lt r.domain (length n.receives)) [] n.regions ≡ []
  pub kinds : breaking 8 kind_is_known [] n.regions ≡ []
  pub rights : breaking 9 (λ (earlier : List RegionNumbers) (r : RegionNumbers). nat_lt r.rights 16) [] n.regions ≡ []
  pub inside : breaking 10 (region_is_inside n.size) [] n.regions ≡ []
  pub owners : breaking 12 (λ (earlier : List QueueNumbers) (q : QueueNumbers). nat_lt q.domain (length n.receives)) [] n.queues ≡ []
  pub orders : breaking 13 (λ (earlier : List QueueNumbers) (q : QueueNumbers). nat_lt q.managed 2) [] n.queues ≡ []
  pub rings : breaking 14 (ring_is_inside n.size) [] n.queues ≡ []
  pub limits : breaking 15 (λ (earlier : List QueueNumbers) (q : QueueNumbers). nat_le q.limit q.slots) [] n.queues ≡ []
  pub few : breaking 16 slots_are_few [] n.queues ≡ []
  pub places : breaking 17 (receive_is_inside n.size) [] n.receives ≡ []

pub kept : (n : Numbers) → row_faults n ≡ [] → Kept n
kept n e =
    let b6 = breaking 6 key_is_new [] n.regions in
    let b7 = breaking 7 (λ (earlier : List RegionNumbers) (r : RegionNumbers). nat_lt r.domain (length n.receives)) [] n.regions in
    let b8 = breaking 8 kind_is_known [] n.regions in
    let b9 = breaking 9 (λ (earlier : List RegionNumbers) (r : RegionNumbers). nat_lt r.rights 16) [] n.regions in
    let b10 = breaking 10 (region_is_inside n.size) [] n.regions in
    let b11 = breaking 11 table_is_one [] n.regions in
    let b12 = breaking 12 (λ (earlier : List QueueNumbers) (q : QueueNumbers). nat_lt q.domain (length n.receives)) [] n.queues in
    let b13 = breaking 13 (λ (earlier : List QueueNumbers) (q : QueueNumbers). nat_lt q.managed 2) [] n.queues in
    let b14 = breaking 14 (ring_is_inside n.size) [] n.queues in
    let b15 = breaking 15 (λ (earlier : List QueueNumbers) (q : QueueNumbers). nat_le q.limit q.slots) [] n.queues in
    let b16 = breaking 16 slots_are_few [] n.queues in
    let b17 = breaking 17 (receive_is_inside n.size) [] n.receives in
    let to7 : List Fault = b6 ++ b7 in
    let to8 : List Fault = to7 ++ b8 in
    let to9 : List Fault = to8 ++ b9 in
    let to10 : List Fault = to9 ++ b10 in
    let to11 : List Fault = to10 ++ b11 in
    let to12 : List Fault = to11 ++ b12 in
    let to13 : List Fault = to12 ++ b13 in
    let to14 : List Fault = to13 ++ b14 in
    let to15 : List Fault = to14 ++ b15 in
    let to16 : List Fault = to15 ++ b16 in
    let e16 : to16 ≡ [] = none_before to16 b17 e in
    let e15 : to15 ≡ [] = none_before to15 b16 e16 in
    let e14 : to14 ≡ [] = none_before to14 b15 e15 in
    let e13 : to13 ≡ [] = none_before to13 b14 e14 in
    let e12 : to12 ≡ [] = none_before to12 b13 e13 in
    let e11 : to11 ≡ [] = none_before to11 b12 e12 in
    let e10 : to10 ≡ [] = none_before to10 b11 e11 in
    let e9 : to9 ≡ [] = none_before to9 b10 e10 in
    let e8 : to8 ≡ [] = none_before to8 b9 e9 in
    let e7 : to7 ≡ [] = none_before to7 b8 e8 in
    record {
      keys = none_before b6 b7 e7;
      domains = none_behind b6 b7 e7;
      kinds = none_behind to7 b8 e8;
      rights = none_behind to8 b9 e9;
      inside = none_behind to9 b10 e10;
      owners = none_behind to11 b12 e12;
      orders = none_behind to12 b13 e13;
      rings = none_behind to13 b14 e14;
      limits = none_behind to14 b15 e15;
      few = none_behind to15 b16 e16;
      places = none_behind to16 b17 e;
    }

pub one_keeps : (keeps : Bool) (f : Fault) (rest : List Fault) → (if keeps then [] else f ∷ []) ++ rest ≡ [] → keeps ≡ true
one_keeps true f rest e = refl
one_keeps false f rest e = absurd (cc)

-- each row keeps a rule that nothing breaks
pub each_keeps : {X : Type 0} (rule : ℕ) (keeps : X → Bool) (earlier rows : List X) → breaking rule (λ (before : List X) (x : X). keeps x) earlier rows ≡ [] → (k : ℕ) (d : X) → k < length rows → keeps (get_or rows k d) ≡ true
each_keeps rule keeps earlier [] e k d low = absurd (omega arith)
each_keeps rule keeps earlier (x ∷ rows) e zero d low = one_keeps (keeps x) _ _ e
each_keeps rule keeps earlier (x ∷ rows) e (suc k) d low = each_keeps rule keeps (earlier ++ x ∷ []) rows (none_behind (if keeps x then [] else record { rule = rule; index = length earlier } ∷ []) _ e) k d (omega arith)

pub are_regions : (n : Numbers) → row_faults n ≡ [] → All IsRegion n.regions
are_regions n e =
    let all = kept n e in
    λ k d low. (each_keeps 8 (kind_is_known []) [] n.regions all.kinds k d low, let few = ltb-true _ _ (each_keeps 9 (λ (r : RegionNumbers). nat_lt r.rights 16) [] n.regions all.rights k d low) in omega (arith, few))

pub are_queues : (n : Numbers) → length n.receives ≤ 16 → row_faults n ≡ [] → All IsQueue n.queues
are_queues n few e =
    let all = kept n e in
    λ k d low. (let owner = ltb-true _ _ (each_keeps 12 (λ (q : QueueNumbers). nat_lt q.domain (length n.receives)) [] n.queues all.owners k d low) in omega (arith, owner, few), ltb-true _ _ (each_keeps 13 (λ (q : QueueNumbers). nat_lt q.managed 2) [] n.queues all.orders k d low))
