-- What memory holds at first is what each chain asks before lap 0.
use Rattle.std.proofs.Common.{◌≡◌, ℕ, suc, ◌+◌, ◌-◌, ◌*◌, ◌<◌, ◌≤◌, Bool, true, false, cond, ◌==◌, List, ◌++◌, length, drop, Some, refl, sym, ap, ◌∙◌, subst, arith, length-append, length-drop}
use Rattle.std.specs.Prelude.{slice_get, slice_index}
use Rattle.std.specs.List.{flat_map}
use Rattle.std.proofs.lemmas.Bool.{lt-ltb, ltb-true}
use Rattle.std.proofs.lemmas.List.{length-take-le}
use Rattle.redn_words.specs.declared.types.Region.{Region}
use Rattle.redn_words.specs.declared.types.Request.{Request}
use Rattle.redn_words.specs.Words.{bytes_at, spelled}
use Rattle.redn_words.specs.Requests.{encoded}
use Rattle.redn_words.proofs.Numbers.{length-spelled}
use Rattle.redn_words.proofs.Slots.{length-encoded}
use Rattle.redn_kernel.specs.declared.types.Cell.TheVariants.{Var, Hidden, Argument, Num}
use Rattle.redn_kernel.specs.declared.types.TableInit.{TableInit}
use Rattle.redn_kernel.specs.declared.types.Program.{Program}
use Rattle.redn_graph.specs.declared.types.Graph.{Graph}
use Rattle.redn_segment.specs.declared.types.Space.{Space}
use Rattle.redn_segment.specs.declared.types.Space.TheVariants as space
use Rattle.redn_segment.specs.declared.types.Draft.{Draft}
use Rattle.redn_segment.specs.Primed.{covers}
use Rattle.redn_segment.specs.Homes.{base_of, room_of}
use Rattle.redn_proof_landing.specs.Requested.{IsReady, requested}
use Rattle.redn_proof_landing.specs.Segments.{slot_space}
use Rattle.redn_recycle.specs.Laps.{Ring, gates_of, flags_at, wait_of, enable_of, count_at, limit_at, opening_at, wait_request, enable_request, last_enable, descriptor_bytes}
use Rattle.redn_recycle.specs.Lapped.{ring_of, first_of, lapped_segments}
use Rattle.redn_proof_ring.specs.Plans.{Plan, IsBody, body_slot, body_request, slots_in}
use Rattle.redn_proof_ring.specs.Turns.{Meaning, Turn, Ready, segment_of}
use Rattle.redn_emit.specs.Layout.{Plain, ChainPlan, TablePlan, ring_start, has_ring, has_space, home, constant_index, descriptor, entry_bytes, hidden_at, constants_at, vars_base, message_base, ring_bytes, DESCRIPTORS_AT}
use Rattle.redn_emit.specs.Placed.{entries_base, plans, tables_base, tables, memory}
use Rattle.redn_emit.proofs.Sizes.{entry_size}
use Rattle.redn_proof_layout.specs.Layouts.{no_ring, ring_named, segments_named}
use Rattle.redn_proof_layout.specs.PlacedLaws.{AreSound}
use Rattle.redn_proof_layout.specs.Beginning.{plan_for, at_first, Begins, AllBegin, BeginsReady}
use Rattle.redn_proof_layout.proofs.Places.{place_below, place_holds}
use Rattle.redn_proof_layout.proofs.Tables.{place_inside}
use Rattle.redn_proof_layout.proofs.Spaces.{ring_within, HasTable, has_table, spaces_apart}
use Rattle.redn_proof_layout.proofs.Portions.{PartOf, part_bytes, part_flat, part_zeros, zeros}
use Rattle.redn_proof_layout.proofs.Coded.{body_part, wait_part, enable_part, last_part}
use Rattle.redn_proof_layout.proofs.Whole.{placed, stands, ring_of_block, may_round, small_drafts}
use Rattle.redn_proof_layout.proofs.Began.{got, table_parts, tables_part, entry_part, ring_part, descriptors_part, hidden_part, constants_part, vars_part, message_part}

length-bytes_at : (b : List ℕ) (o n : ℕ) → o + n ≤ length b → length (bytes_at b o n) ≡ n
length-bytes_at b o n l = length-take-le n (drop o b) (let rest = length-drop o b in omega (arith, rest, l))

module _ (p : Program) (graphs : List Graph) (are : AreSound p graphs) (i : ℕ) (c : ChainPlan) (there : slice_get (plans p graphs) i ≡ Some c) where
  abbrev m : List ℕ
  m = memory p graphs

  abbrev ts : List TablePlan
  ts = tables p graphs

  abbrev plan : Plan
  plan = plan_for p graphs c

  -- a part of memory is what is seen of a space
  seen_part : (x : Space) (at : ℕ) (xs : List ℕ) → room_of (home c ts) x ≡ length xs → at ≡ base_of (home c ts) x → PartOf m at xs → at_first p graphs c x ≡ xs
  seen_part x at xs room base part = ap (λ (a : ℕ). bytes_at m a (room_of (home c ts) x)) (sym base) ∙ part_bytes m at (room_of (home c ts) x) xs room part

  module _ (r : ℕ) (ring : has_ring c r ≡ true) where
    abbrev its : Ring
    its = plan.ring r

    abbrev start : ℕ
    start = c.code_base + 64 * ring_start c r

    code : PartOf m start (ring_bytes (home c ts) (lapped_segments r (ring_of (segments_named c r) r 0 0)))
    code = ring_part p graphs are i c there r ring

    slot_seen : (n : ℕ) (xs : List ℕ) → length xs ≡ 64 → PartOf m (start + 64 * n) xs → at_first p graphs c (slot_space r n) ≡ xs
    slot_seen n xs long part = seen_part (slot_space r n) (start + 64 * n) xs (sym long) (omega arith) part

    body_seen : (j k : ℕ) (d : Draft) → j < its.segments → IsBody plan r j k d → at_first p graphs c (slot_space r (body_slot plan r j k)) ≡ encoded (body_request plan r j k d)
    body_seen j k d l e =
        slot_seen (its.first j + k) (encoded (requested (home c ts) d (flags_at r its j k))) (length-encoded _) (body_part (home c ts) m (segments_named c r) r c.number start start (may_round p graphs are i c there r ring).some (small_drafts p graphs are i c there r ring) code j k d l e)

    wait_seen : (j : ℕ) → j < its.segments → gates_of r its j ≡ 2 → at_first p graphs c (slot_space r (wait_of r its j)) ≡ encoded (wait_request r its (count_at r its 0 0 j))
    wait_seen j l two =
        slot_seen (wait_of r its j) (encoded (wait_request r its (count_at r its 0 0 j))) (length-encoded _) (wait_part (home c ts) m (segments_named c r) r c.number start start (may_round p graphs are i c there r ring).some (small_drafts p graphs are i c there r ring) code j l two)

    enable_seen : (j : ℕ) → suc j < its.segments → at_first p graphs c (slot_space r (enable_of r its j)) ≡ encoded (enable_request r its (limit_at r its 0 0 j))
    enable_seen j l =
        slot_seen (enable_of r its j) (encoded (enable_request r its (limit_at r its 0 0 j))) (length-encoded _) (enable_part (home c ts) m (segments_named c r) r c.number start start (may_round p graphs are i c there r ring).some (small_drafts p graphs are i c there r ring) code j l)

    last_seen : (j : ℕ) → suc j ≡ its.segments → gates_of r its j ≡ 2 → at_first p graphs c (slot_space r (enable_of r its j)) ≡ encoded (last_enable r its)
    last_seen j e two =
        slot_seen (enable_of r its j) (encoded (last_enable r its)) (length-encoded _) (last_part (home c ts) m (segments_named c r) r c.number start start (may_round p graphs are i c there r ring).some (small_drafts p graphs are i c there r ring) code j e two)

    two_words : (a b : ℕ) → length (spelled 8 a ++ spelled 8 b) ≡ 16
    two_words a b = let all = length-append (spelled 8 a) (spelled 8 b) in let x = length-spelled 8 a in let y = length-spelled 8 b in omega (arith, all, x, y)

    descriptor_seen : at_first p graphs c (space.Descriptor r) ≡ descriptor_bytes r its (opening_at r its 0 0)
    descriptor_seen =
        let k : ℕ = r - c.first in
        let inside = ring_within c (tables_base p graphs) (length m) p.tables (stands p graphs are i c there) r ring in
        let x : Plain = ring_named c r in
        let begin : PartOf m ((c.control_base + DESCRIPTORS_AT) + 16 * 0) (flat_map descriptor c.rings) = subst (λ (a : ℕ). PartOf m a (flat_map descriptor c.rings)) (let z : c.control_base + DESCRIPTORS_AT ≡ (c.control_base + DESCRIPTORS_AT) + 16 * 0 = omega arith in z) (descriptors_part p graphs are i c there) in
        let part : PartOf m ((c.control_base + DESCRIPTORS_AT) + 16 * k) (descriptor x) = part_flat m descriptor c.rings (λ n. (c.control_base + DESCRIPTORS_AT) + 16 * n) (λ n y e. (let long = two_words y.number (first_of y.segments 1) in omega (arith, long))) begin k x (got c.rings k no_ring inside) in
        let number_is : x.number ≡ r = ap (λ (y : Plain). y.number) (ring_of_block p graphs are i c there r ring).named_is in
        let none : first_of x.segments 1 ≡ opening_at r its 0 0 = omega arith in
        seen_part (space.Descriptor r) ((c.control_base + DESCRIPTORS_AT) + 16 * k) (descriptor x) (sym (two_words x.number (first_of x.segments 1))) (omega arith) part ∙ ap (λ (n : ℕ). spelled 8 n ++ spelled 8 (first_of x.segments 1)) number_is ∙ ap (λ (n : ℕ). spelled 8 r ++ spelled 8 n) none

  word_at : (base : ℕ) (words : List ℕ) (k w : ℕ) → PartOf m base (flat_map (spelled 8) words) → slice_get words k ≡ Some w → PartOf m (base + 8 * k) (spelled 8 w)
  word_at base words k w part e =
      part_flat m (spelled 8) words (λ n. base + 8 * n) (λ n y f. (let long = length-spelled 8 y in omega (arith, long))) (subst (λ (a : ℕ). PartOf m a (flat_map (spelled 8) words)) (let z : base ≡ base + 8 * 0 = omega arith in z) part) k w e

  number_seen : (n : ℕ) → has_space c (space.Cell (Num n)) ≡ true → at_first p graphs c (space.Cell (Num n)) ≡ spelled 8 n
  number_seen n h =
      let k : ℕ = constant_index c n in
      let below = place_below n c.constants h in
      let is : slice_get c.constants k ≡ Some n = got c.constants k 0 below ∙ ap (λ (v : ℕ). Some v) (place_holds n c.constants h) in
      seen_part (space.Cell (Num n)) ((c.control_base + constants_at c) + 8 * k) (spelled 8 n) (sym (length-spelled 8 n)) (omega arith) (word_at (c.control_base + constants_at c) c.constants k n (constants_part p graphs are i c there) is)

  variable_seen : (k v : ℕ) → slice_get c.values k ≡ Some v → at_first p graphs c (space.Cell (Var k)) ≡ spelled 8 v
  variable_seen k v e =
      seen_part (space.Cell (Var k)) (vars_base c + 8 * k) (spelled 8 v) (sym (length-spelled 8 v)) (omega arith) (word_at (vars_base c) c.values k v (vars_part p graphs are i c there) e)

  hidden_seen : (k : ℕ) → has_space c (space.Cell (Hidden k)) ≡ true → at_first p graphs c (space.Cell (Hidden k)) ≡ zeros 8
  hidden_seen k h =
      let few = ltb-true k c.hidden h in
      seen_part (space.Cell (Hidden k)) ((c.control_base + hidden_at c) + 8 * k) (zeros 8) refl (omega arith) (part_zeros m (c.control_base + hidden_at c) (8 * c.hidden) (8 * k) 8 ((c.control_base + hidden_at c) + 8 * k) (omega (arith, few)) refl (hidden_part p graphs are i c there))

  message_seen : (k : ℕ) → has_space c (space.Cell (Argument k)) ≡ true → at_first p graphs c (space.Cell (Argument k)) ≡ zeros 8
  message_seen k h =
      let few = ltb-true k c.args h in
      seen_part (space.Cell (Argument k)) (message_base c + 8 * k) (zeros 8) refl (omega arith) (part_zeros m (message_base c) (8 * c.args) (8 * k) 8 (message_base c + 8 * k) (omega (arith, few)) refl (message_part p graphs are i c there))

  table_seen : (t : ℕ) (init : TableInit) → slice_get p.tables t ≡ Some init → at_first p graphs c (space.Table t) ≡ init.bytes
  table_seen t init e =
      let inside = place_inside p.tables t init e in
      let many = (placed p graphs are i c there).tables_are in
      let its : HasTable c (tables_base p graphs) (length m) p.tables (stands p graphs are i c there) t = has_table c (tables_base p graphs) (length m) p.tables (stands p graphs are i c there) t (lt-ltb t c.tables (omega (arith, inside, many))) in
      let same : its.is.init ≡ init = (let a = its.is.init_at in some_is its.is.init init (sym a ∙ e)) in
      let bytes : its.plan.bytes ≡ init.bytes = its.is.bytes_are ∙ ap (λ (x : TableInit). x.bytes) same in
      let long : room_of (home c ts) (space.Table t) ≡ length its.plan.bytes = ap (λ (r : Region). r.len) its.region in
      let place : its.plan.base + 0 ≡ base_of (home c ts) (space.Table t) = sym (ap (λ (r : Region). r.base + 0) its.region) in
      seen_part (space.Table t) its.plan.base its.plan.bytes long (let z : its.plan.base ≡ its.plan.base + 0 = omega arith in z ∙ place) (table_parts m 0 (tables_base p graphs) p.tables (tables_part p graphs are) t its.plan its.there) ∙ bytes
    where
      some_is : (a b : TableInit) → Some a ≡ Some b → a ≡ b
      some_is a b e = cc

  lengths_seen : (x : Space) → has_space c x ≡ true → length (at_first p graphs c x) ≡ room_of (home c ts) x
  lengths_seen x h = length-bytes_at m (base_of (home c ts) x) (room_of (home c ts) x) ((spaces_apart c (tables_base p graphs) (length m) p.tables (stands p graphs are i c there)).inside x h)

  two_gates : length (entry_bytes c) ≡ 128
  two_gates = entry_size c

  pub begins : Begins p graphs c
  begins =
      record {
        drafts = λ r j k d its l e. body_seen r its j k d l e;
        waits = λ r j its l two. wait_seen r its j l two;
        enables = λ r j its l. enable_seen r its j l;
        last = λ r j its e two. last_seen r its j e two;
        descriptors = λ r its. descriptor_seen r its;
        numbers = number_seen;
        variables = variable_seen;
        hidden = hidden_seen;
        message = message_seen;
        tables_are = table_seen;
        entry = part_bytes m (entries_base p graphs + 128 * c.number) 128 (entry_bytes c) (sym two_gates) (entry_part p graphs are i c there);
        lengths = lengths_seen;
      }

pub all_begin : AllBegin
all_begin p graphs are i c there = begins p graphs are i c there

-- ready before lap 0
ready_as : (written : ℕ → Bool) (r : Request) (slot : List ℕ) → slot ≡ encoded r → IsReady written r slot
ready_as written r slot e =
    record { len = ap length e ∙ length-encoded r; bytes = λ i l none. ap (λ (x : List ℕ). slice_index x i) e }

module _ (p : Program) (graphs : List Graph) (c : ChainPlan) (G : Meaning (plan_for p graphs c)) (are : AreSound p graphs) (i : ℕ) (there : slice_get (plans p graphs) i ≡ Some c) (x : Turn (plan_for p graphs c) G) (laps : (r : ℕ) → x.laps r ≡ 0) (segment : x.segment ≡ 0) (fine : G.Fine x.ring x.segment x.ghost (at_first p graphs c)) where
  abbrev place : Plan
  place = plan_for p graphs c

  first_segment : (r : ℕ) → segment_of place G x r ≡ 0
  first_segment r = by_test (r == x.ring)
    where
      by_test : (b : Bool) → cond b x.segment 0 ≡ 0
      by_test true = segment
      by_test false = refl

  at : Begins p graphs c
  at = begins p graphs are i c there

  pub ready : Ready place G x (memory p graphs)
  ready =
      record {
        size = refl;
        few = λ r its. (let none = laps r in let all : slots_in place r * x.laps r ≡ 0 = ap (λ (n : ℕ). slots_in place r * n) none ∙ omega arith in omega (arith, all));
        drafts = λ r j k d its l e. ready_as (place.written r (body_slot place r j k)) (body_request place r j k d) _ (at.drafts r j k d its l e);
        waits = λ r j its l two. at.waits r j its l two ∙ (λ t. encoded (wait_request r (place.ring r) (count_at r (place.ring r) (sym (laps r) t) (sym (first_segment r) t) j)));
        enables = λ r j its l. at.enables r j its l ∙ (λ t. encoded (enable_request r (place.ring r) (limit_at r (place.ring r) (sym (laps r) t) (sym (first_segment r) t) j)));
        last = λ r j its e two. ready_as (covers 40 16) (last_enable r (place.ring r)) _ (at.last r j its e two);
        descriptors = λ r its. at.descriptors r its ∙ (λ t. descriptor_bytes r (place.ring r) (opening_at r (place.ring r) (sym (laps r) t) (sym (first_segment r) t)));
        fine = fine;
      }

pub begins_ready : (p : Program) (graphs : List Graph) (c : ChainPlan) (G : Meaning (plan_for p graphs c)) → BeginsReady p graphs c G
begins_ready p graphs c G are i there x laps segment fine = ready p graphs c G are i there x laps segment fine
