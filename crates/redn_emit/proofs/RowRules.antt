-- Rows that keep the rules of an image.
use Rattle.std.proofs.Common.{◌≡◌, ℕ, suc, ◌+◌, ◌*◌, ◌%◌, ◌^◌, ◌<◌, ◌≤◌, Bool, true, false, not, cond, ◌&&◌, ◌==◌, List, [], ◌∷◌, ◌++◌, length, map, Option, Some, refl, sym, ap, ◌∙◌, subst, arith}
use Rattle.std.specs.Prelude.{sum_by, nat_lt, nat_le, if◌then◌else◌}
use Rattle.std.specs.List.{flat_map, find, list_any, AllByRecursion}
use Rattle.std.proofs.lemmas.Bool.{eq-eqb, ne_eqb, eqb-true, lt-ltb, le-leb}
use Rattle.std.proofs.lemmas.List.Sums.{sum_by-cons}
use Rattle.redn_words.specs.declared.types.Region.{Region}
use Rattle.redn_words.specs.declared.types.QueueRow.{QueueRow}
use Rattle.redn_words.specs.declared.types.Receive.{Receive}
use Rattle.redn_image.specs.Rules.{region_numbers, queue_numbers, breaking, key_is_new, kind_is_known, region_is_inside, is_same_table, has_place_of, table_is_one, ring_is_inside, slots_are_few, receive_is_inside}

-- the numbers of a region and of a queue
abbrev pub gives : {A B : Type 0} → (A → B) → Type 0
gives {A} {B} f = B

abbrev pub RegionNumbers : Type 0
RegionNumbers = gives region_numbers

abbrev pub QueueNumbers : Type 0
QueueNumbers = gives queue_numbers

pub none_both : {X : Type 0} (xs ys : List X) → xs ≡ [] → ys ≡ [] → xs ++ ys ≡ []
none_both xs ys e f = ap (λ l. l ++ ys) e ∙ f

pub each_append : {X : Type 0} (P : X → Type 0) (xs ys : List X) → AllByRecursion P xs → AllByRecursion P ys → AllByRecursion P (xs ++ ys)
each_append P [] ys h k = k
each_append P (x ∷ xs) ys h k = (h.0, each_append P xs ys h.1 k)

pub each_map : {X Y : Type 0} (P : X → Type 0) (Q : Y → Type 0) (f : X → Y) → ((x : X) → P x → Q (f x)) → (xs : List X) → AllByRecursion P xs → AllByRecursion Q (map f xs)
each_map P Q f g [] h = tt
each_map P Q f g (x ∷ xs) h = (g x h.0, each_map P Q f g xs h.1)

pub each_flat : {X Y : Type 0} (P : X → Type 0) (Q : Y → Type 0) (f : X → List Y) → ((x : X) → P x → AllByRecursion Q (f x)) → (xs : List X) → AllByRecursion P xs → AllByRecursion Q (flat_map f xs)
each_flat P Q f g [] h = tt
each_flat P Q f g (x ∷ xs) h = each_append Q (f x) (flat_map f xs) (g x h.0) (each_flat P Q f g xs h.1)

pub both : (a b : Bool) → a ≡ true → b ≡ true → (a && b) ≡ true
both a b e f = rw (e, f) refl

kept_row : {F : Type 0} (keeps : Bool) (f : F) (rest : List F) → keeps ≡ true → rest ≡ [] → (if keeps then [] else f ∷ []) ++ rest ≡ []
kept_row keeps f rest e h = rw e h

-- a rule that looks at no other row
none_breaks : {X : Type 0} (rule : ℕ) (keeps : X → Bool) (earlier rows : List X) → AllByRecursion (λ (x : X). keeps x ≡ true) rows → breaking rule (λ (before : List X) (x : X). keeps x) earlier rows ≡ []
none_breaks rule keeps earlier [] h = refl
none_breaks rule keeps earlier (x ∷ rows) h = kept_row (keeps x) _ _ h.0 (none_breaks rule keeps (earlier ++ x ∷ []) rows h.1)

-- a region in a memory of so many bytes
pub record RowFits (chains size : ℕ) (r : Region) : Type 0 where
  pub domain : r.domain < chains
  pub kind : kind_is_known [] (region_numbers r) ≡ true
  pub rights : r.rights < 16
  pub base : r.base % 8 ≡ 0
  pub inside : r.base + r.len ≤ size

module _ (chains size : ℕ) (rows : List Region) (h : AllByRecursion (RowFits chains size) rows) where
  pub domains_kept : breaking 7 (λ earlier (r : RegionNumbers). nat_lt r.domain chains) [] (map region_numbers rows) ≡ []
  domains_kept = none_breaks 7 (λ (r : RegionNumbers). nat_lt r.domain chains) [] (map region_numbers rows) (each_map (RowFits chains size) (λ (r : RegionNumbers). nat_lt r.domain chains ≡ true) region_numbers (λ r k. lt-ltb r.domain chains k.domain) rows h)

  pub kinds_kept : breaking 8 kind_is_known [] (map region_numbers rows) ≡ []
  kinds_kept = none_breaks 8 (kind_is_known []) [] (map region_numbers rows) (each_map (RowFits chains size) (λ (r : RegionNumbers). kind_is_known [] r ≡ true) region_numbers (λ r k. k.kind) rows h)

  pub rights_kept : breaking 9 (λ earlier (r : RegionNumbers). nat_lt r.rights 16) [] (map region_numbers rows) ≡ []
  rights_kept = none_breaks 9 (λ (r : RegionNumbers). nat_lt r.rights 16) [] (map region_numbers rows) (each_map (RowFits chains size) (λ (r : RegionNumbers). nat_lt r.rights 16 ≡ true) region_numbers (λ r k. lt-ltb r.rights 16 k.rights) rows h)

  pub inside_kept : breaking 10 (region_is_inside size) [] (map region_numbers rows) ≡ []
  inside_kept = none_breaks 10 (region_is_inside size []) [] (map region_numbers rows) (each_map (RowFits chains size) (λ (r : RegionNumbers). region_is_inside size [] r ≡ true) region_numbers (λ r k. both (r.base % 8 == 0) (nat_le (r.base + r.len) size) (eq-eqb (r.base % 8) 0 k.base) (le-leb (r.base + r.len) size k.inside)) rows h)

-- rows whose keys follow one another
abbrev pub KeysFrom : ℕ → List RegionNumbers → Type 0
KeysFrom k [] = Unit {0}
KeysFrom k (r ∷ rs) = (r.key ≡ k) × KeysFrom (suc k) rs

pub keys_append : (k : ℕ) (xs ys : List RegionNumbers) → KeysFrom k xs → KeysFrom (length xs + k) ys → KeysFrom k (xs ++ ys)
keys_append k [] ys h g = subst (λ (n : ℕ). KeysFrom n ys) (let e : 0 + k ≡ k = omega arith in e) g
keys_append k (x ∷ xs) ys h g = (h.0, keys_append (suc k) xs ys h.1 (subst (λ (n : ℕ). KeysFrom n ys) (let e : length (x ∷ xs) + k ≡ length xs + suc k = omega arith in e) g))

none_equal : (k : ℕ) (earlier : List RegionNumbers) → AllByRecursion (λ (e : RegionNumbers). e.key < k) earlier → list_any (λ (e : RegionNumbers). e.key == k) earlier ≡ false
none_equal k [] h = refl
none_equal k (e ∷ es) h =
    let below = h.0 in
    let other : (e.key == k) ≡ false = ne_eqb e.key k (λ x. omega (arith, below, x)) in
    rw other (none_equal k es h.1)

key_kept : (key k : ℕ) (any : Bool) → key ≡ k → 1 ≤ k → k < 2 ^ 32 → any ≡ false → (not (key == 0) && nat_lt key (2 ^ 32) && not any) ≡ true
key_kept key k any e some few f =
    let other : (key == 0) ≡ false = ne_eqb key 0 (λ x. omega (arith, x, e, some)) in
    let low : nat_lt key (2 ^ 32) ≡ true = lt-ltb key (2 ^ 32) (omega (arith, e, few)) in
    rw (other, low, f) refl

below_more : (k : ℕ) (xs : List RegionNumbers) → AllByRecursion (λ (e : RegionNumbers). e.key < k) xs → AllByRecursion (λ (e : RegionNumbers). e.key < suc k) xs
below_more k [] h = tt
below_more k (x ∷ xs) h = let low = h.0 in (omega (arith, low), below_more k xs h.1)

pub keys_kept : (k : ℕ) (earlier rows : List RegionNumbers) → AllByRecursion (λ (e : RegionNumbers). e.key < k) earlier → KeysFrom k rows → 1 ≤ k → k + length rows ≤ 2 ^ 32 → breaking 6 key_is_new earlier rows ≡ []
keys_kept k earlier [] below h some few = refl
keys_kept k earlier (r ∷ rows) below h some few =
    let key = h.0 in
    let none : list_any (λ (e : RegionNumbers). e.key == r.key) earlier ≡ false = ap (λ (n : ℕ). list_any (λ (e : RegionNumbers). e.key == n) earlier) key ∙ none_equal k earlier below in
    kept_row (key_is_new earlier r) _ _ (key_kept r.key k _ key some (omega (arith, few)) none) (keys_kept (suc k) (earlier ++ r ∷ []) rows (each_append (λ (e : RegionNumbers). e.key < suc k) earlier (r ∷ []) (below_more k earlier below) (omega (arith, key), tt)) h.1 (omega arith) (omega (arith, few)))

-- rows of a table have its place
abbrev pub Agrees : (ℕ → ℕ) → (ℕ → ℕ) → RegionNumbers → Type 0
Agrees at len r = r.kind ≡ 1 → (r.base ≡ at r.table) × (r.len ≡ len r.table)

module _ (at len : ℕ → ℕ) where
  same_place : (r e : RegionNumbers) → r.kind ≡ 1 → Agrees at len r → Agrees at len e → (b c : Bool) → (e.kind == 1) ≡ b → (e.table == r.table) ≡ c → (rest : Option RegionNumbers) → has_place_of r rest ≡ true → has_place_of r (if b && c then Some e else rest) ≡ true
  same_place r e is h k true true x y rest g =
      let mine = h is in
      let its = k (eqb-true e.kind 1 x) in
      let same : e.table ≡ r.table = eqb-true e.table r.table y in
      both (r.base == e.base) (r.len == e.len) (eq-eqb r.base e.base (mine.0 ∙ sym (its.0 ∙ ap at same))) (eq-eqb r.len e.len (mine.1 ∙ sym (its.1 ∙ ap len same)))
  same_place r e is h k true false x y rest g = g
  same_place r e is h k false c x y rest g = g

  place_found : (r : RegionNumbers) (earlier : List RegionNumbers) → r.kind ≡ 1 → Agrees at len r → AllByRecursion (Agrees at len) earlier → has_place_of r (find (is_same_table r) earlier) ≡ true
  place_found r [] is h k = refl
  place_found r (e ∷ es) is h k = same_place r e is h k.0 (e.kind == 1) (e.table == r.table) refl refl (find (is_same_table r) es) (place_found r es is h k.1)

  table_kept : (r : RegionNumbers) (earlier : List RegionNumbers) → Agrees at len r → AllByRecursion (Agrees at len) earlier → table_is_one earlier r ≡ true
  table_kept r earlier h k = by_kind (r.kind == 1) refl
    where
      by_kind : (b : Bool) → (r.kind == 1) ≡ b → cond b (has_place_of r (find (is_same_table r) earlier)) true ≡ true
      by_kind true e = place_found r earlier (eqb-true r.kind 1 e) h k
      by_kind false e = refl

  pub tables_kept : (earlier rows : List RegionNumbers) → AllByRecursion (Agrees at len) earlier → AllByRecursion (Agrees at len) rows → breaking 11 table_is_one earlier rows ≡ []
  tables_kept earlier [] h k = refl
  tables_kept earlier (r ∷ rows) h k =
      kept_row (table_is_one earlier r) _ _ (table_kept r earlier k.0 h) (tables_kept (earlier ++ r ∷ []) rows (each_append (Agrees at len) earlier (r ∷ []) h (k.0, tt)) k.1)

-- a queue in a memory of so many bytes
pub record QueueFits (chains size : ℕ) (q : QueueRow) : Type 0 where
  pub domain : q.domain < chains
  pub base : q.base % 64 ≡ 0
  pub some : 1 ≤ q.slots
  pub few : q.slots ≤ 65536
  pub inside : q.base + 64 * q.slots ≤ size
  pub limit : q.limit ≤ q.slots

module _ (chains size : ℕ) (rows : List QueueRow) (h : AllByRecursion (QueueFits chains size) rows) where
  pub owners_kept : breaking 12 (λ earlier (q : QueueNumbers). nat_lt q.domain chains) [] (map queue_numbers rows) ≡ []
  owners_kept = none_breaks 12 (λ (q : QueueNumbers). nat_lt q.domain chains) [] (map queue_numbers rows) (each_map (QueueFits chains size) (λ (q : QueueNumbers). nat_lt q.domain chains ≡ true) queue_numbers (λ q k. lt-ltb q.domain chains k.domain) rows h)

  order_known : (managed : Bool) → nat_lt (if managed then 1 else 0) 2 ≡ true
  order_known true = refl
  order_known false = refl

  pub orders_kept : breaking 13 (λ earlier (q : QueueNumbers). nat_lt q.managed 2) [] (map queue_numbers rows) ≡ []
  orders_kept = none_breaks 13 (λ (q : QueueNumbers). nat_lt q.managed 2) [] (map queue_numbers rows) (each_map (QueueFits chains size) (λ (q : QueueNumbers). nat_lt q.managed 2 ≡ true) queue_numbers (λ q k. order_known q.managed) rows h)

  pub rings_kept : breaking 14 (ring_is_inside size) [] (map queue_numbers rows) ≡ []
  rings_kept =
      none_breaks 14 (ring_is_inside size []) [] (map queue_numbers rows) (each_map (QueueFits chains size) (λ (q : QueueNumbers). ring_is_inside size [] q ≡ true) queue_numbers (λ q k. both _ _ (both _ _ (both _ _ (eq-eqb (q.base % 64) 0 k.base) (lt-ltb 0 q.slots k.some)) (le-leb q.slots 65536 k.few)) (le-leb (q.base + 64 * q.slots) size k.inside)) rows h)

  pub limits_kept : breaking 15 (λ earlier (q : QueueNumbers). nat_le q.limit q.slots) [] (map queue_numbers rows) ≡ []
  limits_kept = none_breaks 15 (λ (q : QueueNumbers). nat_le q.limit q.slots) [] (map queue_numbers rows) (each_map (QueueFits chains size) (λ (q : QueueNumbers). nat_le q.limit q.slots ≡ true) queue_numbers (λ q k. le-leb q.limit q.slots k.limit) rows h)

abbrev pub slots_in : QueueNumbers → ℕ
slots_in q = q.slots

pub sum_append : {X : Type 0} (f : X → ℕ) (xs ys : List X) → sum_by f (xs ++ ys) ≡ sum_by f xs + sum_by f ys
sum_append f [] ys = omega arith
sum_append f (x ∷ xs) ys = let rest = sum_append f xs ys in omega (arith, rest, sum_by-cons f x xs, sum_by-cons f x (xs ++ ys))

pub slots_kept : (earlier rows : List QueueNumbers) → sum_by slots_in earlier + sum_by slots_in rows ≤ 524288 → breaking 16 slots_are_few earlier rows ≡ []
slots_kept earlier [] few = refl
slots_kept earlier (q ∷ rows) few =
    let all = sum_by-cons slots_in q rows in
    let more = sum_append slots_in earlier (q ∷ []) in
    let one = sum_by-cons slots_in q [] in
    kept_row (slots_are_few earlier q) _ _ (le-leb (sum_by slots_in earlier + q.slots) 524288 (omega (arith, few, all))) (slots_kept (earlier ++ q ∷ []) rows (omega (arith, few, all, more, one)))

pub record ReceiveFits (size : ℕ) (r : Receive) : Type 0 where
  pub base : r.base % 8 ≡ 0
  pub whole : r.len % 8 ≡ 0
  pub few : r.len ≤ 64
  pub inside : r.base + r.len ≤ size

pub receives_kept : (size : ℕ) (rows : List Receive) → AllByRecursion (ReceiveFits size) rows → breaking 17 (receive_is_inside size) [] rows ≡ []
receives_kept size rows h = none_breaks 17 (receive_is_inside size []) [] rows (passes rows h)
  where
    passes : (xs : List Receive) → AllByRecursion (ReceiveFits size) xs → AllByRecursion (λ (r : Receive). receive_is_inside size [] r ≡ true) xs
    passes [] k = tt
    passes (r ∷ rs) k =
        (both _ _ (both _ _ (both _ _ (eq-eqb (r.base % 8) 0 k.0.base) (eq-eqb (r.len % 8) 0 k.0.whole)) (le-leb r.len 64 k.0.few)) (le-leb (r.base + r.len) size k.0.inside), passes rs k.1)
