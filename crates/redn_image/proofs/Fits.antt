-- The numbers of rows that keep the rules fit their bytes.
use Rattle.std.proofs.Common.{◌≡◌, ℕ, zero, suc, ◌+◌, ◌*◌, ◌^◌, ◌%◌, ◌<◌, ◌≤◌, Bool, true, false, not, ◌==◌, ◌&&◌, List, [], ◌∷◌, ◌++◌, length, get_or, refl, arith}
use Rattle.std.specs.Prelude.{nat_le, nat_lt, if◌then◌else◌}
use Rattle.std.specs.List.{All, list_any}
use Rattle.std.proofs.lemmas.Bool.{eqb-true, leb-true, ltb-true}
use Rattle.redn_words.specs.declared.types.Receive.{Receive}
use Rattle.redn_image.specs.Rules.{Numbers, QueueNumbers, RegionNumbers, breaking, key_is_new, kind_is_known, receive_is_inside, region_is_inside, ring_is_inside, row_faults}
use Rattle.redn_image.proofs.Back.{FitsQueue, FitsReceive, FitsRegion}
use Rattle.redn_image.proofs.Bounds.{and_right, none_behind}
use Rattle.redn_image.proofs.Kept.{each_keeps, kept, one_keeps}

and_left : (a b : Bool) → (a && b) ≡ true → a ≡ true
and_left true b e = refl
and_left false b e = absurd (cc)

-- the same of a rule that looks at earlier rows
each_is : {X : Type 0} (rule : ℕ) (keeps : List X → X → Bool) (test : X → Bool) (earlier rows : List X) → ((before : List X) (x : X) → keeps before x ≡ true → test x ≡ true) → breaking rule keeps earlier rows ≡ [] → (k : ℕ) (d : X) → k < length rows → test (get_or rows k d) ≡ true
each_is rule keeps test earlier [] h e k d low = absurd (omega arith)
each_is rule keeps test earlier (x ∷ rows) h e zero d low = h earlier x (one_keeps (keeps earlier x) _ _ e)
each_is rule keeps test earlier (x ∷ rows) h e (suc k) d low = each_is rule keeps test (earlier ++ x ∷ []) rows h (none_behind (if keeps earlier x then [] else record { rule = rule; index = length earlier } ∷ []) _ e) k d (omega arith)

short_key : (before : List RegionNumbers) (r : RegionNumbers) → key_is_new before r ≡ true → nat_lt r.key (2 ^ 32) ≡ true
short_key before r e = and_right (not (r.key == 0)) (nat_lt r.key (2 ^ 32)) (and_left (not (r.key == 0) && nat_lt r.key (2 ^ 32)) (not (list_any (λ (x : RegionNumbers). x.key == r.key) before)) e)

short_table : (table : ℕ) (is : Bool) → (if is then nat_lt table 64 else table == 0) ≡ true → table < 64
short_table table true e = ltb-true table 64 e
short_table table false e = let none = eqb-true table 0 e in omega (arith, none)

pub regions_fit : (n : Numbers) → length n.receives ≤ 16 → n.size ≤ 33554432 → row_faults n ≡ [] → All FitsRegion n.regions
regions_fit n few small e = λ k d low.
    let all = kept n e in
    let r : RegionNumbers = get_or n.regions k d in
    let key : r.key < 2 ^ 32 = ltb-true _ _ (each_is 6 key_is_new (λ (x : RegionNumbers). nat_lt x.key (2 ^ 32)) [] n.regions short_key all.keys k d low) in
    let owner : r.domain < length n.receives = ltb-true _ _ (each_keeps 7 (λ (x : RegionNumbers). nat_lt x.domain (length n.receives)) [] n.regions all.domains k d low) in
    let known = each_keeps 8 (kind_is_known []) [] n.regions all.kinds k d low in
    let kind : r.kind < 5 = ltb-true _ _ (and_left (nat_lt r.kind 5) (if r.kind == 1 then nat_lt r.table 64 else r.table == 0) known) in
    let table : r.table < 64 = short_table r.table (r.kind == 1) (and_right (nat_lt r.kind 5) _ known) in
    let rights : r.rights < 16 = ltb-true _ _ (each_keeps 9 (λ (x : RegionNumbers). nat_lt x.rights 16) [] n.regions all.rights k d low) in
    let inside : r.base + r.len ≤ n.size = leb-true _ _ (and_right (r.base % 8 == 0) (nat_le (r.base + r.len) n.size) (each_keeps 10 (region_is_inside n.size []) [] n.regions all.inside k d low)) in
    record { key = key; domain = omega arith; kind = omega arith; table = omega arith; rights = omega arith; base = omega arith; len = omega arith }

pub queues_fit : (n : Numbers) → length n.receives ≤ 16 → n.size ≤ 33554432 → row_faults n ≡ [] → All FitsQueue n.queues
queues_fit n few small e = λ k d low.
    let all = kept n e in
    let q : QueueNumbers = get_or n.queues k d in
    let owner : q.domain < length n.receives = ltb-true _ _ (each_keeps 12 (λ (x : QueueNumbers). nat_lt x.domain (length n.receives)) [] n.queues all.owners k d low) in
    let order : q.managed < 2 = ltb-true _ _ (each_keeps 13 (λ (x : QueueNumbers). nat_lt x.managed 2) [] n.queues all.orders k d low) in
    let inside : q.base + 64 * q.slots ≤ n.size = leb-true _ _ (and_right (q.base % 64 == 0 && nat_lt 0 q.slots && nat_le q.slots 65536) (nat_le (q.base + 64 * q.slots) n.size) (each_keeps 14 (ring_is_inside n.size []) [] n.queues all.rings k d low)) in
    let limit : q.limit ≤ q.slots = leb-true _ _ (each_keeps 15 (λ (x : QueueNumbers). nat_le x.limit x.slots) [] n.queues all.limits k d low) in
    record { domain = omega arith; managed = omega arith; base = omega arith; slots = omega arith; limit = omega arith }

pub receives_fit : (n : Numbers) → n.size ≤ 33554432 → row_faults n ≡ [] → All FitsReceive n.receives
receives_fit n small e = λ k d low.
    let all = kept n e in
    let r : Receive = get_or n.receives k d in
    let inside : r.base + r.len ≤ n.size = leb-true _ _ (and_right (r.base % 8 == 0 && r.len % 8 == 0 && nat_le r.len 64) (nat_le (r.base + r.len) n.size) (each_keeps 17 (receive_is_inside n.size []) [] n.receives all.places k d low)) in
    record { base = omega arith; len = omega arith }
