-- Rows that break the same rules have the same first fault.
use Rattle.std.proofs.Common.{◌≡◌, ℕ, ◌+◌, ◌*◌, ◌%◌, ◌^◌, ◌≤◌, Bool, true, not, ◌&&◌, ◌||◌, ◌==◌, List, [], ◌∷◌, ◌++◌, length, refl, sym, ap, ◌∙◌, arith}
use Rattle.std.specs.Prelude.{nat_le, nat_lt, if◌then◌else◌}
use Rattle.std.specs.List.{fold, list_any, sum_by}
use Rattle.redn_words.specs.declared.types.Receive.{Receive}
use Rattle.redn_image.specs.declared.numbers.Fault.{Fault}
use Rattle.redn_image.specs.declared.numbers.QueueNumbers.{QueueNumbers}
use Rattle.redn_image.specs.declared.numbers.RegionNumbers.{RegionNumbers}
use Rattle.redn_image.specs.Rules.{breaking, fault_at, first_of, key_is_new, kind_is_known, receive_is_inside, region_is_inside, ring_is_inside, row_faults, slots_are_few, table_is_one}
use Rattle.redn_image.proofs.Bounds.{none_before, none_behind}
use Rattle.redn_image.proofs.Kept.{one_keeps}
use Rattle.redn_disasm.specs.Holding.{StandFor, StandsForQueue, StandsForRegion}
use Rattle.redn_disasm.proofs.Standing.{stand_more}
use Rattle.redn_disasm.proofs.Steps.{rows_of}

pub same_count : {X : Type 0} (P : X → X → Type 0) (xs ys : List X) → StandFor P xs ys → length xs ≡ length ys
same_count P [] [] h = refl
same_count P [] (y ∷ ys) h = absurd h
same_count P (x ∷ xs) [] h = absurd h
same_count P (x ∷ xs) (y ∷ ys) h = omega (arith, same_count P xs ys h.1)

breaking_same : {X : Type 0} (rule : ℕ) (P : X → X → Type 0) (a b : List X → X → Bool) → ((es fs : List X) (x y : X) → StandFor P es fs → P x y → a es x ≡ b fs y) → (es fs xs ys : List X) → StandFor P es fs → StandFor P xs ys → breaking rule a es xs ≡ breaking rule b fs ys
breaking_same rule P a b t es fs [] [] g h = refl
breaking_same rule P a b t es fs [] (y ∷ ys) g h = absurd h
breaking_same rule P a b t es fs (x ∷ xs) [] g h = absurd h
breaking_same rule P a b t es fs (x ∷ xs) (y ∷ ys) g h =
    let rest = breaking_same rule P a b t (es ++ x ∷ []) (fs ++ y ∷ []) xs ys (stand_more P es fs x y g h.0) h.1 in
    let one : ℕ → Bool → List Fault = λ n v. if v then [] else fault_at rule n ∷ [] in
    ap (λ (v : Bool). one (length es) v ++ breaking rule a (es ++ x ∷ []) xs) (t es fs x y g h.0) ∙ ap (λ (n : ℕ). one n (b fs y) ++ breaking rule a (es ++ x ∷ []) xs) (same_count P es fs g) ∙ ap (λ (l : List Fault). one (length fs) (b fs y) ++ l) rest

any_key : (es fs : List RegionNumbers) (k : ℕ) → StandFor StandsForRegion es fs → list_any (λ (e : RegionNumbers). e.key == k) es ≡ list_any (λ (e : RegionNumbers). e.key == k) fs
any_key [] [] k h = refl
any_key [] (f ∷ fs) k h = absurd h
any_key (e ∷ es) [] k h = absurd h
any_key (e ∷ es) (f ∷ fs) k h =
    ap (λ (a : ℕ). (a == k) || list_any (λ (e : RegionNumbers). e.key == k) es) (sym h.0.key) ∙ ap (λ (b : Bool). (f.key == k) || b) (any_key es fs k h.1)

same_key : (es fs : List RegionNumbers) (r s : RegionNumbers) → StandFor StandsForRegion es fs → StandsForRegion r s → key_is_new es r ≡ key_is_new fs s
same_key es fs r s g h =
    ap (λ (k : ℕ). not (k == 0) && nat_lt k (2 ^ 32) && not (list_any (λ (e : RegionNumbers). e.key == k) es)) (sym h.key) ∙ ap (λ (b : Bool). not (s.key == 0) && nat_lt s.key (2 ^ 32) && not b) (any_key es fs s.key g)

same_inside : (size : ℕ) (r s : RegionNumbers) → StandsForRegion r s → region_is_inside size [] r ≡ region_is_inside size [] s
same_inside size r s h =
    ap (λ (b : ℕ). b % 8 == 0 && nat_le (b + r.len) size) (sym h.base) ∙ ap (λ (l : ℕ). s.base % 8 == 0 && nat_le (s.base + l) size) (sym h.len)

same_ring : (size : ℕ) (q s : QueueNumbers) → StandsForQueue q s → ring_is_inside size [] q ≡ ring_is_inside size [] s
same_ring size q s h =
    ap (λ (b : ℕ). b % 64 == 0 && nat_lt 0 q.slots && nat_le q.slots 65536 && nat_le (b + 64 * q.slots) size) (sym h.base) ∙ ap (λ (n : ℕ). s.base % 64 == 0 && nat_lt 0 n && nat_le n 65536 && nat_le (s.base + 64 * n) size) (sym h.slots)

same_limit : (q s : QueueNumbers) → StandsForQueue q s → nat_le q.limit q.slots ≡ nat_le s.limit s.slots
same_limit q s h = ap (λ (l : ℕ). nat_le l q.slots) (sym h.limit) ∙ ap (nat_le s.limit) (sym h.slots)

same_sum_from : (n : ℕ) (es fs : List QueueNumbers) → StandFor StandsForQueue es fs → fold (λ (a : ℕ) (x : QueueNumbers). a + x.slots) n es ≡ fold (λ (a : ℕ) (x : QueueNumbers). a + x.slots) n fs
same_sum_from n [] [] h = refl
same_sum_from n [] (f ∷ fs) h = absurd h
same_sum_from n (e ∷ es) [] h = absurd h
same_sum_from n (e ∷ es) (f ∷ fs) h =
    ap (λ (a : ℕ). fold (λ (b : ℕ) (x : QueueNumbers). b + x.slots) (n + a) es) (sym h.0.slots) ∙ same_sum_from (n + f.slots) es fs h.1

same_sum : (es fs : List QueueNumbers) → StandFor StandsForQueue es fs → sum_by (λ (e : QueueNumbers). e.slots) es ≡ sum_by (λ (e : QueueNumbers). e.slots) fs
same_sum es fs h = same_sum_from 0 es fs h

same_few : (es fs : List QueueNumbers) (q s : QueueNumbers) → StandFor StandsForQueue es fs → StandsForQueue q s → slots_are_few es q ≡ slots_are_few fs s
same_few es fs q s g h = ap (λ (a : ℕ). nat_le (a + q.slots) 524288) (same_sum es fs g) ∙ ap (λ (b : ℕ). nat_le (sum_by (λ (e : QueueNumbers). e.slots) fs + b) 524288) (sym h.slots)

-- rows whose kinds and rights are good are those that they stand for
abbrev made : ℕ → ℕ → ℕ → ℕ → ℕ → ℕ → ℕ → RegionNumbers
made key domain kind table rights base len = record { key = key; domain = domain; kind = kind; table = table; rights = rights; base = base; len = len }

one_region : (r s : RegionNumbers) → StandsForRegion r s → kind_is_known [] r ≡ true → nat_lt r.rights 16 ≡ true → s ≡ r
one_region r s h known granted =
    let kind = h.kind known in
    ap (λ (x : ℕ). made x s.domain s.kind s.table s.rights s.base s.len) h.key ∙ ap (λ (x : ℕ). made r.key x s.kind s.table s.rights s.base s.len) h.domain ∙ ap (λ (x : ℕ). made r.key r.domain x s.table s.rights s.base s.len) kind.0 ∙ ap (λ (x : ℕ). made r.key r.domain r.kind x s.rights s.base s.len) kind.1 ∙ ap (λ (x : ℕ). made r.key r.domain r.kind r.table x s.base s.len) (h.rights granted) ∙ ap (λ (x : ℕ). made r.key r.domain r.kind r.table r.rights x s.len) h.base ∙ ap (λ (x : ℕ). made r.key r.domain r.kind r.table r.rights r.base x) h.len

pub same_regions : (es rs ss : List RegionNumbers) → StandFor StandsForRegion rs ss → breaking 8 kind_is_known es rs ≡ [] → breaking 9 (λ (earlier : List RegionNumbers) (r : RegionNumbers). nat_lt r.rights 16) es rs ≡ [] → ss ≡ rs
same_regions es [] [] h a b = refl
same_regions es [] (s ∷ ss) h a b = absurd h
same_regions es (r ∷ rs) [] h a b = absurd h
same_regions es (r ∷ rs) (s ∷ ss) h a b =
    let known = one_keeps (kind_is_known es r) (fault_at 8 (length es)) _ a in
    let granted = one_keeps (nat_lt r.rights 16) (fault_at 9 (length es)) _ b in
    let rest = same_regions (es ++ r ∷ []) rs ss h.1 (none_behind (if kind_is_known es r then [] else fault_at 8 (length es) ∷ []) _ a) (none_behind (if nat_lt r.rights 16 then [] else fault_at 9 (length es) ∷ []) _ b) in
    ap (λ (x : RegionNumbers). x ∷ ss) (one_region r s h.0 known granted) ∙ ap (λ (l : List RegionNumbers). r ∷ l) rest

abbrev made_queue : ℕ → ℕ → ℕ → ℕ → ℕ → QueueNumbers
made_queue domain managed base slots limit = record { domain = domain; managed = managed; base = base; slots = slots; limit = limit }

one_queue : (chains : ℕ) (q s : QueueNumbers) → chains ≤ 16 → StandsForQueue q s → nat_lt q.domain chains ≡ true → s ≡ q
one_queue chains q s few h known =
    ap (λ (x : ℕ). made_queue x s.managed s.base s.slots s.limit) (h.same chains few known) ∙ ap (λ (x : ℕ). made_queue q.domain x s.base s.slots s.limit) h.managed ∙ ap (λ (x : ℕ). made_queue q.domain q.managed x s.slots s.limit) h.base ∙ ap (λ (x : ℕ). made_queue q.domain q.managed q.base x s.limit) h.slots ∙ ap (λ (x : ℕ). made_queue q.domain q.managed q.base q.slots x) h.limit

pub same_queues : (chains : ℕ) (es qs ss : List QueueNumbers) → chains ≤ 16 → StandFor StandsForQueue qs ss → breaking 12 (λ (earlier : List QueueNumbers) (q : QueueNumbers). nat_lt q.domain chains) es qs ≡ [] → ss ≡ qs
same_queues chains es [] [] few h a = refl
same_queues chains es [] (s ∷ ss) few h a = absurd h
same_queues chains es (q ∷ qs) [] few h a = absurd h
same_queues chains es (q ∷ qs) (s ∷ ss) few h a =
    let known = one_keeps (nat_lt q.domain chains) (fault_at 12 (length es)) _ a in
    let rest = same_queues chains (es ++ q ∷ []) qs ss few h.1 (none_behind (if nat_lt q.domain chains then [] else fault_at 12 (length es) ∷ []) _ a) in
    ap (λ (x : QueueNumbers). x ∷ ss) (one_queue chains q s few h.0 known) ∙ ap (λ (l : List QueueNumbers). q ∷ l) rest

first_past : (t a b c12 c13 c14 c15 c16 c17 : List Fault) → (t ≡ [] → a ≡ b) → first_of (t ++ a ++ c12 ++ c13 ++ c14 ++ c15 ++ c16 ++ c17) ≡ first_of (t ++ b ++ c12 ++ c13 ++ c14 ++ c15 ++ c16 ++ c17)
first_past [] a b c12 c13 c14 c15 c16 c17 h = ap (λ (l : List Fault). first_of (l ++ c12 ++ c13 ++ c14 ++ c15 ++ c16 ++ c17)) (h refl)
first_past (f ∷ t) a b c12 c13 c14 c15 c16 c17 h = refl

first_equal : (t u a b c12 c13 c14 c15 c16 d12 d13 d14 d15 d16 c17 : List Fault) → (t ≡ [] → a ≡ b) → t ≡ u → c12 ≡ d12 → c13 ≡ d13 → c14 ≡ d14 → c15 ≡ d15 → c16 ≡ d16 → first_of (t ++ a ++ c12 ++ c13 ++ c14 ++ c15 ++ c16 ++ c17) ≡ first_of (u ++ b ++ d12 ++ d13 ++ d14 ++ d15 ++ d16 ++ c17)
first_equal t u a b c12 c13 c14 c15 c16 d12 d13 d14 d15 d16 c17 h e e12 e13 e14 e15 e16 =
    let one = first_past t a b c12 c13 c14 c15 c16 c17 h in
    let two : first_of (t ++ b ++ c12 ++ c13 ++ c14 ++ c15 ++ c16 ++ c17) ≡ first_of (u ++ b ++ d12 ++ d13 ++ d14 ++ d15 ++ d16 ++ c17) = cc (e, e12, e13, e14, e15, e16) in
    one ∙ two

pub same_first : (rs ss : List RegionNumbers) (qs us : List QueueNumbers) (cs : List Receive) (size : ℕ) → length cs ≤ 16 → StandFor StandsForRegion rs ss → StandFor StandsForQueue qs us → first_of (row_faults (rows_of rs qs cs size)) ≡ first_of (row_faults (rows_of ss us cs size))
same_first rs ss qs us cs size few g h =
    let c : ℕ = length cs in
    let R : ℕ → (List RegionNumbers → RegionNumbers → Bool) → List RegionNumbers → List Fault = λ rule keeps l. breaking rule keeps [] l in
    let Q : ℕ → (List QueueNumbers → QueueNumbers → Bool) → List QueueNumbers → List Fault = λ rule keeps l. breaking rule keeps [] l in
    let k7 : List RegionNumbers → RegionNumbers → Bool = λ earlier r. nat_lt r.domain c in
    let k9 : List RegionNumbers → RegionNumbers → Bool = λ earlier r. nat_lt r.rights 16 in
    let k12 : List QueueNumbers → QueueNumbers → Bool = λ earlier q. nat_lt q.domain c in
    let k13 : List QueueNumbers → QueueNumbers → Bool = λ earlier q. nat_lt q.managed 2 in
    let k15 : List QueueNumbers → QueueNumbers → Bool = λ earlier q. nat_le q.limit q.slots in
    let e6 = breaking_same 6 StandsForRegion key_is_new key_is_new same_key [] [] rs ss tt g in
    let e7 = breaking_same 7 StandsForRegion k7 k7 (λ es fs r s _ p. ap (λ (x : ℕ). nat_lt x c) (sym p.domain)) [] [] rs ss tt g in
    let e8 = breaking_same 8 StandsForRegion kind_is_known kind_is_known (λ es fs r s _ p. sym p.known) [] [] rs ss tt g in
    let e9 = breaking_same 9 StandsForRegion k9 k9 (λ es fs r s _ p. sym p.granted) [] [] rs ss tt g in
    let e10 = breaking_same 10 StandsForRegion (region_is_inside size) (region_is_inside size) (λ es fs r s _ p. same_inside size r s p) [] [] rs ss tt g in
    let e12 = breaking_same 12 StandsForQueue k12 k12 (λ es fs q s _ p. sym (p.domain c few)) [] [] qs us tt h in
    let e13 = breaking_same 13 StandsForQueue k13 k13 (λ es fs q s _ p. ap (λ (x : ℕ). nat_lt x 2) (sym p.managed)) [] [] qs us tt h in
    let e14 = breaking_same 14 StandsForQueue (ring_is_inside size) (ring_is_inside size) (λ es fs q s _ p. same_ring size q s p) [] [] qs us tt h in
    let e15 = breaking_same 15 StandsForQueue k15 k15 (λ es fs q s _ p. same_limit q s p) [] [] qs us tt h in
    let e16 = breaking_same 16 StandsForQueue slots_are_few slots_are_few same_few [] [] qs us tt h in
    let b17 = breaking 17 (receive_is_inside size) [] cs in
    let t10 : List Fault = R 6 key_is_new rs ++ R 7 k7 rs ++ R 8 kind_is_known rs ++ R 9 k9 rs ++ R 10 (region_is_inside size) rs in
    let b11 : t10 ≡ [] → R 11 table_is_one rs ≡ R 11 table_is_one ss = λ none.
    let to9 = none_before (R 6 key_is_new rs ++ R 7 k7 rs ++ R 8 kind_is_known rs ++ R 9 k9 rs) (R 10 (region_is_inside size) rs) none in
    let none9 = none_behind (R 6 key_is_new rs ++ R 7 k7 rs ++ R 8 kind_is_known rs) (R 9 k9 rs) to9 in
    let to8 = none_before (R 6 key_is_new rs ++ R 7 k7 rs ++ R 8 kind_is_known rs) (R 9 k9 rs) to9 in
    let none8 = none_behind (R 6 key_is_new rs ++ R 7 k7 rs) (R 8 kind_is_known rs) to8 in
    ap (R 11 table_is_one) (sym (same_regions [] rs ss g none8 none9)) in
    let front : t10 ≡ R 6 key_is_new ss ++ R 7 k7 ss ++ R 8 kind_is_known ss ++ R 9 k9 ss ++ R 10 (region_is_inside size) ss = cc (e6, e7, e8, e9, e10) in
    first_equal t10 _ (R 11 table_is_one rs) (R 11 table_is_one ss) (Q 12 k12 qs) (Q 13 k13 qs) (Q 14 (ring_is_inside size) qs) (Q 15 k15 qs) (Q 16 slots_are_few qs) _ _ _ _ _ b17 b11 front e12 e13 e14 e15 e16
