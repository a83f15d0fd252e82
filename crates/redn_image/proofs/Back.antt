-- Bytes that spell an image are read back as its rows and its memory.
use Rattle.std.proofs.Common.{◌≡◌, ℕ, suc, ◌+◌, ◌-◌, ◌*◌, ◌^◌, ◌<◌, ◌≤◌, List, [], ◌∷◌, ◌++◌, length, take, drop, get_or, refl, sym, ap, ◌∙◌, lit≤, arith, length-append}
use Rattle.std.specs.List.{flat_map}
use Rattle.std.proofs.lemmas.List.{drop-drop, drop-take, drop_at, take-take, take_at}
use Rattle.redn_words.specs.declared.types.Receive.{Receive}
use Rattle.redn_words.specs.Words.{bytes_at, number, spelled}
use Rattle.redn_words.proofs.Numbers.{number-bytes_at, number-spelled}
use Rattle.redn_image.specs.Rules.{QueueNumbers, RegionNumbers}
use Rattle.redn_image.specs.Spelling.{queue_at, receive_at, region_at, rows_from, spelled_queue, spelled_receive, spelled_region}

-- a part of the front is that part of the whole
pub part_of_front : (s : List ℕ) (m k n : ℕ) → k + n ≤ m → take n (drop k (take m s)) ≡ take n (drop k s)
part_of_front s m k n fits =
    let cut : k + (m - k) ≡ m = omega arith in
    ap (λ (x : ℕ). take n (drop k (take x s))) (sym cut) ∙ ap (take n) (drop-take k (m - k) s) ∙ take-take n (m - k) (drop k s) (omega arith)

-- a number that stands in the bytes of a row
pub field : (b row : List ℕ) (o m k n j x : ℕ) → take m (drop o b) ≡ row → k + n ≤ m → take n (drop k row) ≡ spelled n x → x < 256 ^ n → j ≡ o + k → number n b j ≡ x
field b row o m k n j x whole fits is small place =
    let there : bytes_at b j n ≡ spelled n x =
    ap (λ (i : ℕ). take n (drop i b)) place ∙ ap (take n) (sym (drop-drop k o b)) ∙ sym (part_of_front (drop o b) m k n fits) ∙ ap (λ (l : List ℕ). take n (drop k l)) whole ∙ is in
    number-bytes_at n b j ∙ ap (λ (l : List ℕ). number n l 0) there ∙ number-spelled n x small

-- each number of a row fits its bytes
pub record FitsRegion (r : RegionNumbers) : Type 0 where
  pub key : r.key < 256 ^ 4
  pub domain : r.domain < 256 ^ 2
  pub kind : r.kind < 256 ^ 2
  pub table : r.table < 256 ^ 4
  pub rights : r.rights < 256 ^ 4
  pub base : r.base < 256 ^ 8
  pub len : r.len < 256 ^ 8

pub record FitsQueue (q : QueueNumbers) : Type 0 where
  pub domain : q.domain < 256 ^ 4
  pub managed : q.managed < 256 ^ 4
  pub base : q.base < 256 ^ 8
  pub slots : q.slots < 256 ^ 8
  pub limit : q.limit < 256 ^ 8

pub record FitsReceive (r : Receive) : Type 0 where
  pub base : r.base < 256 ^ 8
  pub len : r.len < 256 ^ 8

abbrev made_region : ℕ → ℕ → ℕ → ℕ → ℕ → ℕ → ℕ → RegionNumbers
made_region key domain kind table rights base len = record { key = key; domain = domain; kind = kind; table = table; rights = rights; base = base; len = len }

abbrev made_queue : ℕ → ℕ → ℕ → ℕ → ℕ → QueueNumbers
made_queue domain managed base slots limit = record { domain = domain; managed = managed; base = base; slots = slots; limit = limit }

abbrev made_receive : ℕ → ℕ → Receive
made_receive base len = record { base = base; len = len }

same_region : (x y : RegionNumbers) → x.key ≡ y.key → x.domain ≡ y.domain → x.kind ≡ y.kind → x.table ≡ y.table → x.rights ≡ y.rights → x.base ≡ y.base → x.len ≡ y.len → x ≡ y
same_region x y key domain kind table rights base len =
    ap (λ (n : ℕ). made_region n x.domain x.kind x.table x.rights x.base x.len) key
    ∙ ap (λ (n : ℕ). made_region y.key n x.kind x.table x.rights x.base x.len) domain
    ∙ ap (λ (n : ℕ). made_region y.key y.domain n x.table x.rights x.base x.len) kind
    ∙ ap (λ (n : ℕ). made_region y.key y.domain y.kind n x.rights x.base x.len) table
    ∙ ap (λ (n : ℕ). made_region y.key y.domain y.kind y.table n x.base x.len) rights
    ∙ ap (λ (n : ℕ). made_region y.key y.domain y.kind y.table y.rights n x.len) base
    ∙ ap (λ (n : ℕ). made_region y.key y.domain y.kind y.table y.rights y.base n) len

same_queue : (x y : QueueNumbers) → x.domain ≡ y.domain → x.managed ≡ y.managed → x.base ≡ y.base → x.slots ≡ y.slots → x.limit ≡ y.limit → x ≡ y
same_queue x y domain managed base slots limit =
    ap (λ (n : ℕ). made_queue n x.managed x.base x.slots x.limit) domain
    ∙ ap (λ (n : ℕ). made_queue y.domain n x.base x.slots x.limit) managed
    ∙ ap (λ (n : ℕ). made_queue y.domain y.managed n x.slots x.limit) base
    ∙ ap (λ (n : ℕ). made_queue y.domain y.managed y.base n x.limit) slots
    ∙ ap (λ (n : ℕ). made_queue y.domain y.managed y.base y.slots n) limit

same_receive : (x y : Receive) → x.base ≡ y.base → x.len ≡ y.len → x ≡ y
same_receive x y base len = ap (λ (n : ℕ). made_receive n x.len) base ∙ ap (λ (n : ℕ). made_receive y.base n) len

pub region_back : (b : List ℕ) (o : ℕ) (r : RegionNumbers) → FitsRegion r → take 32 (drop o b) ≡ spelled_region r → region_at b o ≡ r
unfolding spelled_region spelled
region_back b o r f e =
    let key : number 4 b o ≡ r.key = field b _ o 32 0 4 o r.key e (lit≤ tt) refl f.key (omega arith) in
    let domain : number 2 b (o + 4) ≡ r.domain = field b _ o 32 4 2 (o + 4) r.domain e (lit≤ tt) refl f.domain refl in
    let kind : number 2 b (o + 6) ≡ r.kind = field b _ o 32 6 2 (o + 6) r.kind e (lit≤ tt) refl f.kind refl in
    let table : number 4 b (o + 8) ≡ r.table = field b _ o 32 8 4 (o + 8) r.table e (lit≤ tt) refl f.table refl in
    let rights : number 4 b (o + 12) ≡ r.rights = field b _ o 32 12 4 (o + 12) r.rights e (lit≤ tt) refl f.rights refl in
    let base : number 8 b (o + 16) ≡ r.base = field b _ o 32 16 8 (o + 16) r.base e (lit≤ tt) refl f.base refl in
    let len : number 8 b (o + 24) ≡ r.len = field b _ o 32 24 8 (o + 24) r.len e (lit≤ tt) refl f.len refl in
    same_region _ r key domain kind table rights base len

pub queue_back : (b : List ℕ) (o : ℕ) (q : QueueNumbers) → FitsQueue q → take 32 (drop o b) ≡ spelled_queue q → queue_at b o ≡ q
unfolding spelled_queue spelled
queue_back b o q f e =
    let domain : number 4 b o ≡ q.domain = field b _ o 32 0 4 o q.domain e (lit≤ tt) refl f.domain (omega arith) in
    let managed : number 4 b (o + 4) ≡ q.managed = field b _ o 32 4 4 (o + 4) q.managed e (lit≤ tt) refl f.managed refl in
    let base : number 8 b (o + 8) ≡ q.base = field b _ o 32 8 8 (o + 8) q.base e (lit≤ tt) refl f.base refl in
    let slots : number 8 b (o + 16) ≡ q.slots = field b _ o 32 16 8 (o + 16) q.slots e (lit≤ tt) refl f.slots refl in
    let limit : number 8 b (o + 24) ≡ q.limit = field b _ o 32 24 8 (o + 24) q.limit e (lit≤ tt) refl f.limit refl in
    same_queue _ q domain managed base slots limit

pub receive_back : (b : List ℕ) (o : ℕ) (r : Receive) → FitsReceive r → take 16 (drop o b) ≡ spelled_receive r → receive_at b o ≡ r
unfolding spelled_receive spelled
receive_back b o r f e =
    let base : number 8 b o ≡ r.base = field b _ o 16 0 8 o r.base e (lit≤ tt) refl f.base (omega arith) in
    let len : number 8 b (o + 8) ≡ r.len = field b _ o 16 8 8 (o + 8) r.len e (lit≤ tt) refl f.len refl in
    same_receive _ r base len

pub length-spelled_region : (r : RegionNumbers) → length (spelled_region r) ≡ 32
unfolding spelled_region spelled
length-spelled_region r = refl

pub length-spelled_queue : (q : QueueNumbers) → length (spelled_queue q) ≡ 32
unfolding spelled_queue spelled
length-spelled_queue q = refl

pub length-spelled_receive : (r : Receive) → length (spelled_receive r) ≡ 16
unfolding spelled_receive spelled
length-spelled_receive r = refl

pub length-row_bytes : {X : Type 0} (spell : X → List ℕ) (len : ℕ) → ((x : X) → length (spell x) ≡ len) → (rows : List X) → length (flat_map spell rows) ≡ len * length rows
length-row_bytes spell len h [] = omega arith
length-row_bytes spell len h (x ∷ rows) =
    let first = h x in
    let later = length-row_bytes spell len h rows in
    length-append (spell x) (flat_map spell rows) ∙ omega (arith, first, later)

-- rows are read back from their bytes
pub rows_back : {X : Type 0} (read : List ℕ → ℕ → X) (spell : X → List ℕ) (P : X → Type 0) (len : ℕ) (b : List ℕ) (at : ℕ) (rows : List X) → ((o : ℕ) (x : X) → P x → take len (drop o b) ≡ spell x → read b o ≡ x) → ((x : X) → length (spell x) ≡ len) → ((k : ℕ) (d : X) → k < length rows → P (get_or rows k d)) → take (len * length rows) (drop at b) ≡ flat_map spell rows → rows_from read len b at (length rows) ≡ rows
rows_back read spell P len b at [] back size all e = refl
rows_back read spell P len b at (x ∷ rows) back size all e =
    let n : ℕ = length rows in
    let sum : len + len * n ≡ len * suc n = omega arith in
    let cut : take (len + len * n) (drop at b) ≡ spell x ++ flat_map spell rows = ap (λ (k : ℕ). take k (drop at b)) sum ∙ e in
    let here : take len (drop at b) ≡ spell x = sym (take-take len (len + len * n) (drop at b) (omega arith)) ∙ ap (take len) cut ∙ take_at (spell x) (flat_map spell rows) len (size x) in
    let rest : take (len * n) (drop (at + len) b) ≡ flat_map spell rows = ap (take (len * n)) (sym (drop-drop len at b)) ∙ sym (drop-take len (len * n) (drop at b)) ∙ ap (drop len) cut ∙ drop_at (spell x) (flat_map spell rows) len (size x) in
    let first : read b at ≡ x = back at x (all 0 x (omega arith)) here in
    let later : rows_from read len b (at + len) n ≡ rows = rows_back read spell P len b (at + len) rows back size (λ k d low. all (suc k) d (omega arith)) rest in
    ap (λ (y : _). y ∷ rows_from read len b (at + len) n) first ∙ ap (λ (l : List _). x ∷ l) later
