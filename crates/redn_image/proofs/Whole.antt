-- An image that is read from all its rows and its memory.
use Rattle.std.proofs.Common.{◌≡◌, ℕ, ◌+◌, ◌*◌, ◌≤◌, false, List, [], ◌++◌, Option, Some, None, length, map, take, drop, sym, ap, ◌∙◌, arith, length-drop}
use Rattle.std.specs.Prelude.{nat_lt}
use Rattle.std.specs.List.{flat_map}
use Rattle.std.proofs.Math.Seq.{take-add}
use Rattle.std.proofs.lemmas.Bool.Decides.{nat_tests}
use Rattle.std.proofs.lemmas.Bool.{leb-true}
use Rattle.std.proofs.lemmas.List.{length-map, take-append-drop}
use Rattle.std.proofs.lemmas.List.Folds.{flat_map-map}
use Rattle.redn_words.specs.declared.types.Receive.{Receive}
use Rattle.redn_words.proofs.Digits.{AreBytes}
use Rattle.redn_image.specs.Answers.{HasHeader}
use Rattle.redn_image.specs.Rules.{Fault, Image, Numbers, Obeys, QueueNumbers, RegionNumbers, faults, first_of, header_faults, numbers_of, queue_numbers, region_numbers, row_faults}
use Rattle.redn_image.specs.Spelling.{Broken, Refused, Spells, first_fault, numbers_at, queue_at, receive_at, refused, region_at, rows_from, spelled_header, spelled_queue, spelled_receive, spelled_region, spelling, wrong_length}
use Rattle.redn_image.proofs.Bounds.{header_small, and_right}
use Rattle.redn_image.proofs.Firsts.{none_first}
use Rattle.redn_image.proofs.Headers.{choose_second, first_is, first_none}
use Rattle.redn_image.proofs.Reading.{length-rows, queue_spelled, receive_spelled, region_spelled, rows_spelled}

-- the rows that stand behind a header
pub record Rows (b : List ℕ) (r q c : ℕ) (regions : List RegionNumbers) (queues : List QueueNumbers) (receives : List Receive) : Type 0 where
  pub regions_are : regions ≡ rows_from region_at 32 b 32 r
  pub queues_are : queues ≡ rows_from queue_at 32 b (32 + 32 * r) q
  pub receives_are : receives ≡ rows_from receive_at 16 b (32 + 32 * r + 32 * q) c

abbrev pub of_rows : List RegionNumbers → List QueueNumbers → List Receive → ℕ → Numbers
of_rows regions queues receives size = record { regions = regions; queues = queues; receives = receives; size = size }

pub are_numbers : (b : List ℕ) (r q c m : ℕ) (rs : List RegionNumbers) (qs : List QueueNumbers) (cs : List Receive) → Rows b r q c rs qs cs → of_rows rs qs cs m ≡ numbers_at b r q c m
are_numbers b r q c m rs qs cs k =
    ap (λ (l : List RegionNumbers). of_rows l qs cs m) k.regions_are ∙ ap (λ (l : List QueueNumbers). of_rows (rows_from region_at 32 b 32 r) l cs m) k.queues_are
    ∙ ap (λ (l : List Receive). of_rows (rows_from region_at 32 b 32 r) (rows_from queue_at 32 b (32 + 32 * r) q) l m) k.receives_are

right_length : (len need : ℕ) (o : Option Refused) → len ≡ need → wrong_length len need o ≡ o
right_length len need o e =
    let low : nat_lt len need ≡ false = grind (arith, nat_tests) in
    let high : nat_lt need len ≡ false = grind (arith, nat_tests) in
    choose_second _ _ _ low ∙ choose_second _ _ _ high

by_rows : (b : List ℕ) (r q c m : ℕ) (rs : List RegionNumbers) (qs : List QueueNumbers) (cs : List Receive) → HasHeader b r q c m → length b ≡ 32 + 32 * r + 32 * q + 16 * c + m → Rows b r q c rs qs cs → refused b ≡ first_fault (row_faults (of_rows rs qs cs m)) None
by_rows b r q c m rs qs cs h size k =
    h.refusal ∙ right_length (length b) (32 + 32 * r + 32 * q + 16 * c + m) (first_fault (row_faults (numbers_at b r q c m)) None) size ∙ ap (λ (n : Numbers). first_fault (row_faults n) None) (sym (are_numbers b r q c m rs qs cs k))

pub refused_row : (b : List ℕ) (r q c m : ℕ) (rs : List RegionNumbers) (qs : List QueueNumbers) (cs : List Receive) (f : Fault) → HasHeader b r q c m → length b ≡ 32 + 32 * r + 32 * q + 16 * c + m → Rows b r q c rs qs cs → Some f ≡ first_of (row_faults (of_rows rs qs cs m)) → refused b ≡ Some (Broken f)
refused_row b r q c m rs qs cs f h size k e = by_rows b r q c m rs qs cs h size k ∙ first_is _ f None e

pub not_refused : (b : List ℕ) (r q c m : ℕ) (rs : List RegionNumbers) (qs : List QueueNumbers) (cs : List Receive) → HasHeader b r q c m → length b ≡ 32 + 32 * r + 32 * q + 16 * c + m → Rows b r q c rs qs cs → None ≡ first_of (row_faults (of_rows rs qs cs m)) → refused b ≡ None
not_refused b r q c m rs qs cs h size k e = by_rows b r q c m rs qs cs h size k ∙ first_none _ None e

pub few_receives : (b : List ℕ) (r q c m : ℕ) → HasHeader b r q c m → c ≤ 16
few_receives b r q c m h = leb-true _ _ (and_right _ _ (header_small r q c 0 m h.keeps).2)

-- the parts of an image that are read
pub record Parts (b : List ℕ) (r q c m : ℕ) (i : Image) : Type 0 where
  pub header : HasHeader b r q c m
  pub size : length b ≡ 32 + 32 * r + 32 * q + 16 * c + m
  pub rows : Rows b r q c (map region_numbers i.regions) (map queue_numbers i.queues) i.receives
  pub memory : i.memory ≡ drop (32 + 32 * r + 32 * q + 16 * c) b
  pub keep : row_faults (of_rows (map region_numbers i.regions) (map queue_numbers i.queues) i.receives m) ≡ []

-- as many as the header announces
record Counts (r q c m : ℕ) (i : Image) : Type 0 where
  regions : length i.regions ≡ r
  queues : length i.queues ≡ q
  receives : length i.receives ≡ c
  memory : length i.memory ≡ m

counts : (b : List ℕ) (r q c m : ℕ) (i : Image) → Parts b r q c m i → Counts r q c m i
counts b r q c m i p =
    record {
      regions = sym (length-map i.regions region_numbers) ∙ ap length p.rows.regions_are ∙ length-rows region_at 32 b 32 r;
      queues = sym (length-map i.queues queue_numbers) ∙ ap length p.rows.queues_are ∙ length-rows queue_at 32 b (32 + 32 * r) q;
      receives = ap length p.rows.receives_are ∙ length-rows receive_at 16 b (32 + 32 * r + 32 * q) c;
      memory = ap length p.memory ∙ length-drop (32 + 32 * r + 32 * q + 16 * c) b ∙ omega (arith, p.size);
    }

pub read_obeys : (b : List ℕ) (r q c m : ℕ) (i : Image) → Parts b r q c m i → Obeys i
unfolding faults
read_obeys b r q c m i p =
    let n = counts b r q c m i p in
    let rs : length (map region_numbers i.regions) ≡ r = length-map i.regions region_numbers ∙ n.regions in
    let qs : length (map queue_numbers i.queues) ≡ q = length-map i.queues queue_numbers ∙ n.queues in
    let header : header_faults (length (map region_numbers i.regions)) (length (map queue_numbers i.queues)) (length i.receives) 0 (length i.memory) ≡ [] =
    ap (λ (x : ℕ). header_faults x (length (map queue_numbers i.queues)) (length i.receives) 0 (length i.memory)) rs ∙ ap (λ (x : ℕ). header_faults r x (length i.receives) 0 (length i.memory)) qs
    ∙ ap (λ (x : ℕ). header_faults r q x 0 (length i.memory)) n.receives ∙ ap (header_faults r q c 0) n.memory ∙ p.header.keeps in
    let rows : row_faults (numbers_of i) ≡ [] = ap (λ (x : ℕ). row_faults (of_rows (map region_numbers i.regions) (map queue_numbers i.queues) i.receives x)) n.memory ∙ p.keep in
    ap (λ (l : List Fault). l ++ row_faults (numbers_of i)) header ∙ rows

grown : (b front part : List ℕ) (k n : ℕ) → front ≡ take k b → part ≡ take n (drop k b) → front ++ part ≡ take (k + n) b
grown b front part k n e f = ap (λ (l : List ℕ). l ++ part) e ∙ ap (λ (l : List ℕ). take k b ++ l) f ∙ sym (take-add k n b)

pub read_spelling : (b : List ℕ) (r q c m : ℕ) (i : Image) → AreBytes b → Parts b r q c m i → b ≡ spelling i
unfolding spelling
read_spelling b r q c m i h p =
    let n = counts b r q c m i p in
    let header : spelled_header (length i.regions) (length i.queues) (length i.receives) (length i.memory) ≡ take 32 b =
    ap (λ (x : ℕ). spelled_header x (length i.queues) (length i.receives) (length i.memory)) n.regions ∙ ap (λ (x : ℕ). spelled_header r x (length i.receives) (length i.memory)) n.queues
    ∙ ap (λ (x : ℕ). spelled_header r q x (length i.memory)) n.receives ∙ ap (spelled_header r q c) n.memory ∙ sym p.header.spelled in
    let regions : flat_map (λ x. spelled_region (region_numbers x)) i.regions ≡ take (32 * r) (drop 32 b) =
    sym (flat_map-map spelled_region region_numbers i.regions) ∙ ap (flat_map spelled_region) p.rows.regions_are ∙ rows_spelled region_at spelled_region 32 b 32 r (λ o fits. region_spelled b o h fits) (omega (arith, p.size)) in
    let queues : flat_map (λ x. spelled_queue (queue_numbers x)) i.queues ≡ take (32 * q) (drop (32 + 32 * r) b) =
    sym (flat_map-map spelled_queue queue_numbers i.queues) ∙ ap (flat_map spelled_queue) p.rows.queues_are ∙ rows_spelled queue_at spelled_queue 32 b (32 + 32 * r) q (λ o fits. queue_spelled b o h fits) (omega (arith, p.size)) in
    let receives : flat_map spelled_receive i.receives ≡ take (16 * c) (drop (32 + 32 * r + 32 * q) b) =
    ap (flat_map spelled_receive) p.rows.receives_are ∙ rows_spelled receive_at spelled_receive 16 b (32 + 32 * r + 32 * q) c (λ o fits. receive_spelled b o h fits) (omega (arith, p.size)) in
    let front = grown b _ _ (32 + 32 * r + 32 * q) (16 * c) (grown b _ _ (32 + 32 * r) (32 * q) (grown b _ _ 32 (32 * r) header regions) queues) receives in
    sym (ap (λ (l : List ℕ). l ++ i.memory) front ∙ ap (λ (l : List ℕ). take (32 + 32 * r + 32 * q + 16 * c) b ++ l) p.memory ∙ take-append-drop (32 + 32 * r + 32 * q + 16 * c) b)

pub read_spells : (b : List ℕ) (r q c m : ℕ) (i : Image) → AreBytes b → Parts b r q c m i → Spells b i
read_spells b r q c m i h p = record { bytes_are = read_spelling b r q c m i h p; obeys = read_obeys b r q c m i p }

pub few_regions : (b : List ℕ) (r q c m : ℕ) → HasHeader b r q c m → r ≤ 4096
few_regions b r q c m h = leb-true _ _ (header_small r q c 0 m h.keeps).0

pub few_queues : (b : List ℕ) (r q c m : ℕ) → HasHeader b r q c m → q ≤ 65535
few_queues b r q c m h = leb-true _ _ (header_small r q c 0 m h.keeps).1

pub parts_read : (b : List ℕ) (r q c m : ℕ) (i : Image) (rs : List RegionNumbers) (qs : List QueueNumbers) (cs : List Receive) → HasHeader b r q c m → length b ≡ 32 + 32 * r + 32 * q + 16 * c + m → Rows b r q c rs qs cs → None ≡ first_of (row_faults (of_rows rs qs cs m)) → Rows b r q c (map region_numbers i.regions) (map queue_numbers i.queues) i.receives → i.memory ≡ drop (32 + 32 * r + 32 * q + 16 * c) b → Parts b r q c m i
parts_read b r q c m i rs qs cs h size k none rows memory =
    let same = are_numbers b r q c m (map region_numbers i.regions) (map queue_numbers i.queues) i.receives rows ∙ sym (are_numbers b r q c m rs qs cs k) in
    record { header = h; size = size; rows = rows; memory = memory; keep = ap row_faults same ∙ none_first (row_faults (of_rows rs qs cs m)) none }
