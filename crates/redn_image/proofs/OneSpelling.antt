-- An image has one spelling, and bytes spell at most one image, which is what is read from them.
use Rattle.std.proofs.Common.{◌≡◌, ℕ, ◌+◌, ◌*◌, ◌^◌, ◌<◌, Bool, true, false, List, [], ◌∷◌, ◌++◌, Option, None, length, map, take, drop, refl, sym, ap, subst, ◌∙◌, lit≤, lit<, arith, append_assoc, length-append}
use Rattle.std.specs.Prelude.{Result, Ok, Err, IfOk, IfErr, MatchResult, if◌then◌else◌}
use Rattle.std.specs.List.{All, flat_map}
use Rattle.std.specs.Cmp.Lexicographic.{bytes_decides}
use Rattle.std.proofs.lemmas.List.{drop_at, length-map, take_at}
use Rattle.std.proofs.lemmas.List.Folds.{flat_map-map}
use Rattle.redn_words.specs.declared.types.Kind.{Kind}
use Rattle.redn_words.specs.declared.types.Kind.TheVariants.{Vars, Table, Code, Control, Message}
use Rattle.redn_words.specs.declared.types.Region.{Region}
use Rattle.redn_words.specs.declared.types.QueueRow.{QueueRow}
use Rattle.redn_words.specs.declared.types.Receive.{Receive}
use Rattle.redn_words.specs.Words.{bytes_at, number, spelled}
use Rattle.redn_image.specs.Answers.{SaysWhy}
use Rattle.redn_image.specs.declared.read.ImageFault.{ImageFault}
use Rattle.redn_image.specs.declared.read.ImageFault.TheVariants.{Magic, Version, Short, Trailing, Rule, Memory as OutOfMemory}
use Rattle.redn_image.specs.Rules.{Image, QueueNumbers, RegionNumbers, faults, first_of, header_faults, kind_number, numbers_of, parts_of, queue_numbers, region_numbers, row_faults, table_number}
use Rattle.redn_image.specs.Spelling.{Refused, Spells, magic, queue_at, receive_at, refused, region_at, rows_from, spelled_header, spelled_queue, spelled_receive, spelled_region, spelling}
use Rattle.redn_image.proofs.Back.{FitsQueue, FitsReceive, FitsRegion, field, length-row_bytes, length-spelled_queue, length-spelled_receive, length-spelled_region, part_of_front, queue_back, receive_back, region_back, rows_back}
use Rattle.redn_image.proofs.Bounds.{none_before, none_behind, small}
use Rattle.redn_image.proofs.Fits.{queues_fit, receives_fit, regions_fit}
use Rattle.redn_image.proofs.Headers.{Counted, begins, header_told}
use Rattle.redn_image.proofs.Whole.{Parts, Rows, not_refused}

-- the five pieces of a spelling
second_piece : (h r q c m : List ℕ) → (((h ++ r) ++ q) ++ c) ++ m ≡ h ++ (r ++ (q ++ (c ++ m)))
second_piece h r q c m = simp append_assoc

third_piece : (h r q c m : List ℕ) → (((h ++ r) ++ q) ++ c) ++ m ≡ (h ++ r) ++ (q ++ (c ++ m))
third_piece h r q c m = simp append_assoc

fourth_piece : (h r q c m : List ℕ) → (((h ++ r) ++ q) ++ c) ++ m ≡ ((h ++ r) ++ q) ++ (c ++ m)
fourth_piece h r q c m = simp append_assoc

middle : (b front part rest : List ℕ) (k n : ℕ) → b ≡ front ++ (part ++ rest) → length front ≡ k → length part ≡ n → take n (drop k b) ≡ part
middle b front part rest k n e f p = ap (λ (l : List ℕ). take n (drop k l)) e ∙ ap (take n) (drop_at front (part ++ rest) k f) ∙ take_at part rest n p

pub record Pieces (b h : List ℕ) (rs : List RegionNumbers) (qs : List QueueNumbers) (cs : List Receive) (m : List ℕ) : Type 0 where
  pub size : length b ≡ 32 + 32 * length rs + 32 * length qs + 16 * length cs + length m
  pub header : bytes_at b 0 32 ≡ h
  pub rows : Rows b (length rs) (length qs) (length cs) rs qs cs
  pub memory : m ≡ drop (32 + 32 * length rs + 32 * length qs + 16 * length cs) b

pieces : (b h : List ℕ) (rs : List RegionNumbers) (qs : List QueueNumbers) (cs : List Receive) (m : List ℕ) → length h ≡ 32 → b ≡ (((h ++ flat_map spelled_region rs) ++ flat_map spelled_queue qs) ++ flat_map spelled_receive cs) ++ m → All FitsRegion rs → All FitsQueue qs → All FitsReceive cs → Pieces b h rs qs cs m
pieces b h rs qs cs m header e fr fq fc =
    let r : List ℕ = flat_map spelled_region rs in
    let q : List ℕ = flat_map spelled_queue qs in
    let c : List ℕ = flat_map spelled_receive cs in
    let lr : length r ≡ 32 * length rs = length-row_bytes spelled_region 32 length-spelled_region rs in
    let lq : length q ≡ 32 * length qs = length-row_bytes spelled_queue 32 length-spelled_queue qs in
    let lc : length c ≡ 16 * length cs = length-row_bytes spelled_receive 16 length-spelled_receive cs in
    let to_r : length (h ++ r) ≡ 32 + 32 * length rs = length-append h r ∙ omega (arith, header, lr) in
    let to_q : length ((h ++ r) ++ q) ≡ 32 + 32 * length rs + 32 * length qs = length-append (h ++ r) q ∙ omega (arith, to_r, lq) in
    let to_c : length (((h ++ r) ++ q) ++ c) ≡ 32 + 32 * length rs + 32 * length qs + 16 * length cs = length-append ((h ++ r) ++ q) c ∙ omega (arith, to_q, lc) in
    record {
      size = ap length e ∙ length-append (((h ++ r) ++ q) ++ c) m ∙ omega (arith, to_c);
      header = middle b [] h _ 0 32 (e ∙ second_piece h r q c m) refl header;
      rows =
          record {
            regions_are = sym (rows_back region_at spelled_region FitsRegion 32 b 32 rs (λ o x f s. region_back b o x f s) length-spelled_region fr (middle b h r _ 32 (32 * length rs) (e ∙ second_piece h r q c m) header lr));
            queues_are = sym (rows_back queue_at spelled_queue FitsQueue 32 b (32 + 32 * length rs) qs (λ o x f s. queue_back b o x f s) length-spelled_queue fq (middle b (h ++ r) q _ (32 + 32 * length rs) (32 * length qs) (e ∙ third_piece h r q c m) to_r lq));
            receives_are =
                sym (rows_back receive_at spelled_receive FitsReceive 16 b (32 + 32 * length rs + 32 * length qs) cs (λ o x f s. receive_back b o x f s) length-spelled_receive fc
                (middle b ((h ++ r) ++ q) c _ (32 + 32 * length rs + 32 * length qs) (16 * length cs) (e ∙ fourth_piece h r q c m) to_q lc));
          };
      memory = sym (ap (drop (32 + 32 * length rs + 32 * length qs + 16 * length cs)) e ∙ drop_at (((h ++ r) ++ q) ++ c) m (32 + 32 * length rs + 32 * length qs + 16 * length cs) to_c);
    }

length-header : (r q c m : ℕ) → length (spelled_header r q c m) ≡ 32
unfolding spelled
length-header r q c m = refl

-- what a header says
record Says (b : List ℕ) (r q c m : ℕ) : Type 0 where
  is : begins b ≡ true
  one : number 4 b 4 ≡ 1
  none : 0 ≡ number 4 b 20
  counts : Counted b r q c m

says : (b : List ℕ) (r q c m : ℕ) → bytes_at b 0 32 ≡ spelled_header r q c m → r < 256 ^ 4 → q < 256 ^ 4 → c < 256 ^ 4 → m < 256 ^ 8 → Says b r q c m
unfolding spelled
says b r q c m e fr fq fc fm =
    let word : bytes_at b 0 4 ≡ magic = sym (part_of_front (drop 0 b) 32 0 4 (lit≤ tt)) ∙ ap (take 4) e in
    record {
      is = (bytes_decides (bytes_at b 0 4) magic).1 word;
      one = field b _ 0 32 4 4 4 1 e (lit≤ tt) refl (lit< tt) refl;
      none = sym (field b _ 0 32 20 4 20 0 e (lit≤ tt) refl (lit< tt) refl);
      counts =
          record {
            regions = sym (field b _ 0 32 8 4 8 r e (lit≤ tt) refl fr refl);
            queues = sym (field b _ 0 32 12 4 12 q e (lit≤ tt) refl fq refl);
            receives = sym (field b _ 0 32 16 4 16 c e (lit≤ tt) refl fc refl);
            size = sym (field b _ 0 32 24 8 24 m e (lit≤ tt) refl fm refl);
          };
    }

abbrev regions_of : Image → List RegionNumbers
regions_of i = map region_numbers i.regions

abbrev queues_of : Image → List QueueNumbers
queues_of i = map queue_numbers i.queues

spelling_pieces : (i : Image) → spelling i ≡ (((spelled_header (length (regions_of i)) (length (queues_of i)) (length i.receives) (length i.memory) ++ flat_map spelled_region (regions_of i)) ++ flat_map spelled_queue (queues_of i)) ++ flat_map spelled_receive i.receives) ++ i.memory
unfolding spelling
spelling_pieces i =
    let r = flat_map-map spelled_region region_numbers i.regions in
    let q = flat_map-map spelled_queue queue_numbers i.queues in
    let nr : length i.regions ≡ length (regions_of i) = sym (length-map i.regions region_numbers) in
    let nq : length i.queues ≡ length (queues_of i) = sym (length-map i.queues queue_numbers) in
    let h : spelled_header (length i.regions) (length i.queues) (length i.receives) (length i.memory) ≡ spelled_header (length (regions_of i)) (length (queues_of i)) (length i.receives) (length i.memory) =
    ap (λ (n : ℕ). spelled_header n (length i.queues) (length i.receives) (length i.memory)) nr ∙ ap (λ (n : ℕ). spelled_header (length (regions_of i)) n (length i.receives) (length i.memory)) nq in
    cc

obeys_parts : (i : Image) → faults (numbers_of i) ≡ [] → (header_faults (length (regions_of i)) (length (queues_of i)) (length i.receives) 0 (length i.memory) ≡ []) × (row_faults (numbers_of i) ≡ [])
unfolding faults
obeys_parts i e = (none_before _ (row_faults (numbers_of i)) e, none_behind (header_faults (length (regions_of i)) (length (queues_of i)) (length i.receives) 0 (length i.memory)) _ e)

pub spelled_parts : (b : List ℕ) (i : Image) → Spells b i → Parts b (length (regions_of i)) (length (queues_of i)) (length i.receives) (length i.memory) i
spelled_parts b i s =
    let keep = obeys_parts i s.obeys in
    let few = small i s.obeys in
    let fr = regions_fit (numbers_of i) few.receives few.size keep.1 in
    let fq = queues_fit (numbers_of i) few.receives few.size keep.1 in
    let fc = receives_fit (numbers_of i) few.size keep.1 in
    let p : Pieces b (spelled_header (length (regions_of i)) (length (queues_of i)) (length i.receives) (length i.memory)) (regions_of i) (queues_of i) i.receives i.memory =
    pieces b _ (regions_of i) (queues_of i) i.receives i.memory (length-header _ _ _ _) (s.bytes_are ∙ spelling_pieces i) fr fq fc in
    let nr = length-map i.regions region_numbers in
    let nq = length-map i.queues queue_numbers in
    let told = says b (length (regions_of i)) (length (queues_of i)) (length i.receives) (length i.memory) p.header (omega (arith, few.regions, nr)) (omega (arith, few.queues, nq)) (omega (arith, few.receives)) (omega (arith, few.size)) in
    record {
      header = header_told b _ _ _ 0 _ (omega (arith, p.size)) told.is told.one told.counts told.none (ap first_of (sym keep.0)) keep.0 p.header;
      size = p.size;
      rows = p.rows;
      memory = p.memory;
      keep = keep.1;
    }

pub accepted : (b : List ℕ) (i : Image) → Spells b i → refused b ≡ None
accepted b i s =
    let p = spelled_parts b i s in
    not_refused b _ _ _ _ _ _ _ p.header p.size p.rows (ap first_of (sym p.keep))

-- different rows have different numbers
same_kind : (k l : Kind) → kind_number k ≡ kind_number l → table_number k ≡ table_number l → k ≡ l
same_kind Vars Vars e t = refl
same_kind (Table x) (Table y) e t = ap Table t
same_kind Code Code e t = refl
same_kind Control Control e t = refl
same_kind Message Message e t = refl
same_kind Vars (Table y) e t = absurd (omega arith)
same_kind Vars Code e t = absurd (omega arith)
same_kind Vars Control e t = absurd (omega arith)
same_kind Vars Message e t = absurd (omega arith)
same_kind (Table x) Vars e t = absurd (omega arith)
same_kind (Table x) Code e t = absurd (omega arith)
same_kind (Table x) Control e t = absurd (omega arith)
same_kind (Table x) Message e t = absurd (omega arith)
same_kind Code Vars e t = absurd (omega arith)
same_kind Code (Table y) e t = absurd (omega arith)
same_kind Code Control e t = absurd (omega arith)
same_kind Code Message e t = absurd (omega arith)
same_kind Control Vars e t = absurd (omega arith)
same_kind Control (Table y) e t = absurd (omega arith)
same_kind Control Code e t = absurd (omega arith)
same_kind Control Message e t = absurd (omega arith)
same_kind Message Vars e t = absurd (omega arith)
same_kind Message (Table y) e t = absurd (omega arith)
same_kind Message Code e t = absurd (omega arith)
same_kind Message Control e t = absurd (omega arith)

abbrev made_region : ℕ → ℕ → Kind → ℕ → ℕ → ℕ → Region
made_region key domain kind rights base len = record { key = key; domain = domain; kind = kind; rights = rights; base = base; len = len }

same_region : (x y : Region) → region_numbers x ≡ region_numbers y → x ≡ y
same_region x y e =
    let kind : x.kind ≡ y.kind = same_kind x.kind y.kind (ap (λ (n : RegionNumbers). n.kind) e) (ap (λ (n : RegionNumbers). n.table) e) in
    ap (λ (n : ℕ). made_region n x.domain x.kind x.rights x.base x.len) (ap (λ (n : RegionNumbers). n.key) e)
    ∙ ap (λ (n : ℕ). made_region y.key n x.kind x.rights x.base x.len) (ap (λ (n : RegionNumbers). n.domain) e)
    ∙ ap (λ (k : Kind). made_region y.key y.domain k x.rights x.base x.len) kind
    ∙ ap (λ (n : ℕ). made_region y.key y.domain y.kind n x.base x.len) (ap (λ (n : RegionNumbers). n.rights) e)
    ∙ ap (λ (n : ℕ). made_region y.key y.domain y.kind y.rights n x.len) (ap (λ (n : RegionNumbers). n.base) e)
    ∙ ap (λ (n : ℕ). made_region y.key y.domain y.kind y.rights y.base n) (ap (λ (n : RegionNumbers). n.len) e)

same_managed : (m n : Bool) → ◌≡◌ {A = ℕ} (if m then 1 else 0) (if n then 1 else 0) → m ≡ n
same_managed true true e = refl
same_managed false false e = refl
same_managed true false e = absurd (omega arith)
same_managed false true e = absurd (omega arith)

abbrev made_queue : ℕ → Bool → ℕ → ℕ → ℕ → QueueRow
made_queue domain managed base slots limit = record { domain = domain; managed = managed; base = base; slots = slots; limit = limit }

same_queue : (x y : QueueRow) → queue_numbers x ≡ queue_numbers y → x ≡ y
same_queue x y e =
    let managed : x.managed ≡ y.managed = same_managed x.managed y.managed (ap (λ (n : QueueNumbers). n.managed) e) in
    ap (λ (n : ℕ). made_queue n x.managed x.base x.slots x.limit) (ap (λ (n : QueueNumbers). n.domain) e)
    ∙ ap (λ (m : Bool). made_queue y.domain m x.base x.slots x.limit) managed
    ∙ ap (λ (n : ℕ). made_queue y.domain y.managed n x.slots x.limit) (ap (λ (n : QueueNumbers). n.base) e)
    ∙ ap (λ (n : ℕ). made_queue y.domain y.managed y.base n x.limit) (ap (λ (n : QueueNumbers). n.slots) e)
    ∙ ap (λ (n : ℕ). made_queue y.domain y.managed y.base y.slots n) (ap (λ (n : QueueNumbers). n.limit) e)

same_rows : {X Y : Type 0} (f : X → Y) → ((x y : X) → f x ≡ f y → x ≡ y) → (xs ys : List X) → map f xs ≡ map f ys → xs ≡ ys
same_rows f h [] [] e = refl
same_rows f h [] (y ∷ ys) e = absurd (cc)
same_rows f h (x ∷ xs) [] e = absurd (cc)
same_rows f h (x ∷ xs) (y ∷ ys) e =
    let first : f x ≡ f y = cc in
    let later : map f xs ≡ map f ys = cc in
    ap (λ (z : _). z ∷ xs) (h x y first) ∙ ap (λ (l : List _). y ∷ l) (same_rows f h xs ys later)

-- two images that are read from the same bytes
same_image : (b : List ℕ) (r q c m r' q' c' m' : ℕ) (i j : Image) → Parts b r q c m i → Parts b r' q' c' m' j → r ≡ r' → q ≡ q' → c ≡ c' → i ≡ j
same_image b r q c m r' q' c' m' i j p o er eq ec =
    let rs : map region_numbers i.regions ≡ map region_numbers j.regions = p.rows.regions_are ∙ ap (rows_from region_at 32 b 32) er ∙ sym o.rows.regions_are in
    let at_q : 32 + 32 * r ≡ 32 + 32 * r' = omega arith in
    let qs : map queue_numbers i.queues ≡ map queue_numbers j.queues = p.rows.queues_are ∙ ap (λ (n : ℕ). rows_from queue_at 32 b n q) at_q ∙ ap (rows_from queue_at 32 b (32 + 32 * r')) eq ∙ sym o.rows.queues_are in
    let at_c : 32 + 32 * r + 32 * q ≡ 32 + 32 * r' + 32 * q' = omega arith in
    let cs : i.receives ≡ j.receives = p.rows.receives_are ∙ ap (λ (n : ℕ). rows_from receive_at 16 b n c) at_c ∙ ap (rows_from receive_at 16 b (32 + 32 * r' + 32 * q')) ec ∙ sym o.rows.receives_are in
    let at_m : 32 + 32 * r + 32 * q + 16 * c ≡ 32 + 32 * r' + 32 * q' + 16 * c' = omega arith in
    let ms : i.memory ≡ j.memory = p.memory ∙ ap (λ (n : ℕ). drop n b) at_m ∙ sym o.memory in
    ap (λ (l : List Region). parts_of l i.queues i.receives i.memory) (same_rows region_numbers same_region i.regions j.regions rs)
    ∙ ap (λ (l : List QueueRow). parts_of j.regions l i.receives i.memory) (same_rows queue_numbers same_queue i.queues j.queues qs)
    ∙ ap (λ (l : List Receive). parts_of j.regions j.queues l i.memory) cs ∙ ap (λ (l : List ℕ). parts_of j.regions j.queues j.receives l) ms

its_counts : (b : List ℕ) (i : Image) → Spells b i → Counted b (length (regions_of i)) (length (queues_of i)) (length i.receives) (length i.memory)
its_counts b i s =
    let few = small i s.obeys in
    let nr = length-map i.regions region_numbers in
    let nq = length-map i.queues queue_numbers in
    (says b (length (regions_of i)) (length (queues_of i)) (length i.receives) (length i.memory) (spelled_parts b i s).header.spelled (omega (arith, few.regions, nr)) (omega (arith, few.queues, nq)) (omega (arith, few.receives)) (omega (arith, few.size))).counts

pub one_image : (b : List ℕ) (i j : Image) → Spells b i → Spells b j → i ≡ j
one_image b i j s o =
    let ci = its_counts b i s in
    let cj = its_counts b j o in
    same_image b _ _ _ _ _ _ _ _ i j (spelled_parts b i s) (spelled_parts b j o) (ci.regions ∙ sym cj.regions) (ci.queues ∙ sym cj.queues) (ci.receives ∙ sym cj.receives)

pub one_spelling : (b c : List ℕ) (i : Image) → Spells b i → Spells c i → b ≡ c
one_spelling b c i s o = s.bytes_are ∙ sym o.bytes_are

-- nothing but want of memory is said of bytes that aren't refused
only_memory : (e : ImageFault) → SaysWhy None e → e ≡ OutOfMemory
only_memory Magic w = absurd (cc)
only_memory (Version v) w = absurd (cc)
only_memory (Short n) w = absurd (cc)
only_memory (Trailing n) w = absurd (cc)
only_memory (Rule n k) w = absurd (cc)
only_memory OutOfMemory w = refl

-- so what reads the bytes of an image gives this image, but for want of memory
pub reads_back : (b : List ℕ) (i : Image) (r : Result Image ImageFault) → Spells b i → IfOk r (λ j. Spells b j) → IfErr r (SaysWhy (refused b)) → MatchResult r (λ j. j ≡ i) (λ e. e ≡ OutOfMemory)
reads_back b i (Ok j) s ok err = one_image b j i ok s
reads_back b i (Err e) s ok err = only_memory e (subst (λ (o : Option Refused). SaysWhy o e) (accepted b i s) err)
