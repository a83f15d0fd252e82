-- Rows read from bytes, one after the other.
use Rattle.std.proofs.Common.{◌≡◌, ℕ, zero, suc, ◌+◌, ◌-◌, length-drop, ◌*◌, ◌<◌, ◌≤◌, List, [], ◌∷◌, ◌++◌, Fits, w8, length, take, drop, get_or, refl, sym, ap, ◌∙◌, arith}
use Rattle.std.proofs.Math.Seq.{take-add}
use Rattle.std.proofs.lemmas.List.{drop-drop, take_all}
use Rattle.std.specs.List.{All, flat_map}
use Rattle.std.proofs.lemmas.List.Elements.{All-from_get_or}
use Rattle.redn_words.proofs.Digits.{AreBytes, spelled-number}
use Rattle.redn_words.specs.Words.{number, spelled}
use Rattle.redn_image.specs.Spelling.{rows_from, region_at, queue_at, receive_at, spelled_region, spelled_queue, spelled_receive}

pub are_bytes : (b : List ℕ) → ((i : ℕ) → Fits w8 (get_or b i 0)) → AreBytes b
are_bytes b h = λ k. omega (arith, (h k).fits)

pub all_bytes : (b : List ℕ) → ((i : ℕ) → Fits w8 (get_or b i 0)) → All (λ (x : ℕ). x < 256) b
all_bytes b h = All-from_get_or (λ (x : ℕ). x < 256) b 0 (λ i l. omega (arith, (h i).fits))

rows_behind : {X : Type 0} (read : List ℕ → ℕ → X) (len : ℕ) (b : List ℕ) (at n : ℕ) → rows_from read len b at (suc n) ≡ rows_from read len b at n ++ read b (at + len * n) ∷ []
rows_behind read len b at zero = let e : at ≡ at + len * 0 = omega arith in ap (λ (o : ℕ). read b o ∷ []) e
rows_behind read len b at (suc n) =
    let e : at + len + len * n ≡ at + len * suc n = omega arith in
    ap (λ (l : List _). read b at ∷ l) (rows_behind read len b (at + len) n ∙ ap (λ (o : ℕ). rows_from read len b (at + len) n ++ read b o ∷ []) e)

-- one row more
pub rows_more : {X : Type 0} (read : List ℕ → ℕ → X) (len : ℕ) (b : List ℕ) (at n : ℕ) (rows : List X) → rows ≡ rows_from read len b at n → rows ++ read b (at + len * n) ∷ [] ≡ rows_from read len b at (n + 1)
rows_more read len b at n rows e =
    let more : suc n ≡ n + 1 = omega arith in
    ap (λ (l : List _). l ++ read b (at + len * n) ∷ []) e ∙ sym (rows_behind read len b at n) ∙ ap (rows_from read len b at) more

-- one more field of the bytes from place o on
pub read_on : (b : List ℕ) (o k n j x : ℕ) (front : List ℕ) → AreBytes b → front ≡ take k (drop o b) → j ≡ o + k → j + n ≤ length b → x ≡ number n b j → front ++ spelled n x ≡ take (k + n) (drop o b)
read_on b o k n j x front h e place fits is =
    let there : spelled n x ≡ take n (drop k (drop o b)) = ap (spelled n) is ∙ spelled-number n b j fits h ∙ ap (λ (i : ℕ). take n (drop i b)) place ∙ ap (take n) (sym (drop-drop k o b)) in
    ap (λ (l : List ℕ). l ++ spelled n x) e ∙ ap (λ (l : List ℕ). take k (drop o b) ++ l) there ∙ sym (take-add k n (drop o b))

-- the bytes of a row are those from which it is read
pub region_spelled : (b : List ℕ) (o : ℕ) → AreBytes b → o + 32 ≤ length b → spelled_region (region_at b o) ≡ take 32 (drop o b)
unfolding spelled_region
region_spelled b o h fits =
    let r = region_at b o in
    let key : spelled 4 r.key ≡ take 4 (drop o b) = spelled-number 4 b o (omega arith) h in
    let domain = read_on b o 4 2 (o + 4) r.domain _ h key refl (omega arith) refl in
    let kind = read_on b o 6 2 (o + 6) r.kind _ h domain refl (omega arith) refl in
    let table = read_on b o 8 4 (o + 8) r.table _ h kind refl (omega arith) refl in
    let rights = read_on b o 12 4 (o + 12) r.rights _ h table refl (omega arith) refl in
    let base = read_on b o 16 8 (o + 16) r.base _ h rights refl (omega arith) refl in
    read_on b o 24 8 (o + 24) r.len _ h base refl (omega arith) refl

pub queue_spelled : (b : List ℕ) (o : ℕ) → AreBytes b → o + 32 ≤ length b → spelled_queue (queue_at b o) ≡ take 32 (drop o b)
unfolding spelled_queue
queue_spelled b o h fits =
    let q = queue_at b o in
    let domain : spelled 4 q.domain ≡ take 4 (drop o b) = spelled-number 4 b o (omega arith) h in
    let managed = read_on b o 4 4 (o + 4) q.managed _ h domain refl (omega arith) refl in
    let base = read_on b o 8 8 (o + 8) q.base _ h managed refl (omega arith) refl in
    let slots = read_on b o 16 8 (o + 16) q.slots _ h base refl (omega arith) refl in
    read_on b o 24 8 (o + 24) q.limit _ h slots refl (omega arith) refl

pub receive_spelled : (b : List ℕ) (o : ℕ) → AreBytes b → o + 16 ≤ length b → spelled_receive (receive_at b o) ≡ take 16 (drop o b)
unfolding spelled_receive
receive_spelled b o h fits =
    let r = receive_at b o in
    let base : spelled 8 r.base ≡ take 8 (drop o b) = spelled-number 8 b o (omega arith) h in
    read_on b o 8 8 (o + 8) r.len _ h base refl (omega arith) refl

pub rows_spelled : {X : Type 0} (read : List ℕ → ℕ → X) (spell : X → List ℕ) (len : ℕ) (b : List ℕ) (at n : ℕ) → ((o : ℕ) → o + len ≤ length b → spell (read b o) ≡ take len (drop o b)) → at + len * n ≤ length b → flat_map spell (rows_from read len b at n) ≡ take (len * n) (drop at b)
rows_spelled read spell len b at zero h fits = let none : len * 0 ≡ 0 = omega arith in sym (ap (λ (k : ℕ). take k (drop at b)) none)
rows_spelled read spell len b at (suc n) h fits =
    let next : at + len + len * n ≡ at + len * suc n = omega arith in
    let first = h at (omega arith) in
    let later = rows_spelled read spell len b (at + len) n h (omega (arith, next)) in
    let size : len + len * n ≡ len * suc n = omega arith in
    ap (λ (l : List ℕ). l ++ flat_map spell (rows_from read len b (at + len) n)) first ∙ ap (λ (l : List ℕ). take len (drop at b) ++ l) (later ∙ ap (take (len * n)) (sym (drop-drop len at b))) ∙ sym (take-add len (len * n) (drop at b)) ∙ ap (λ (k : ℕ). take k (drop at b)) size

pub length-rows : {X : Type 0} (read : List ℕ → ℕ → X) (len : ℕ) (b : List ℕ) (at n : ℕ) → length (rows_from read len b at n) ≡ n
length-rows read len b at zero = refl
length-rows read len b at (suc n) = ap suc (length-rows read len b (at + len) n)

-- what is left behind a place, cut at its end
pub all_left : (b : List ℕ) (at : ℕ) → take (length b - at) (drop at b) ≡ drop at b
all_left b at = take_all (length b - at) (drop at b) (omega (arith, length-drop at b))
