-- Where a graph begins in a memory.
use Rattle.std.proofs.Common.{◌≡◌, ◌≢◌, inl, inr, ℕ, zero, suc, ◌+◌, ◌-◌, ◌<◌, Bool, true, false, cond, ◌&&◌, ◌||◌, ◌==◌, List, [], ◌∷◌, ◌++◌, length, map, Some, drop, refl, sym, ap, ◌∙◌, subst, arith, length-take, length-drop}
use Rattle.std.specs.Prelude.{slice_get, slice_index, get_or, nat_lt, replicate, if◌then◌else◌, option_map, ◌⊎◌}
use Rattle.std.specs.List.{list_all}
use Rattle.std.proofs.lemmas.Bool.{and_parts, cases_eq, eq-eqb, ne_eqb, true≢false, false≢true}
use Rattle.std.proofs.lemmas.List.{length-map}
use Rattle.std.proofs.lemmas.Option.{slice_get-map, slice_get_within, slice_get-get_or}
use Rattle.redn_words.specs.declared.types.Opcode.TheVariants.{Add}
use Rattle.redn_words.specs.Requests.{encoded}
use Rattle.redn_words.specs.Words.{spelled, word}
use Rattle.redn_words.proofs.Numbers.{length-spelled, number-spelled}
use Rattle.redn_kernel.specs.declared.types.Cell.{Cell}
use Rattle.redn_kernel.specs.declared.types.Cell.TheVariants as cell
use Rattle.redn_kernel.specs.CoreRun.{held}
use Rattle.redn_graph.specs.Fits.{IsCell}
use Rattle.redn_graph.specs.Run.{GraphState, in_hand}
use Rattle.redn_segment.specs.declared.types.SlotRef.{SlotRef}
use Rattle.redn_segment.specs.declared.types.Space.{Space}
use Rattle.redn_segment.specs.declared.types.Space.TheVariants as space
use Rattle.redn_segment.specs.declared.types.Draft.{Draft}
use Rattle.redn_segment.specs.Sites.{same_space, is_table}
use Rattle.redn_segment.specs.Building.{drafts_of}
use Rattle.redn_segment.specs.Effects.{word_of}
use Rattle.redn_segment.specs.Orders.{is_send}
use Rattle.redn_segment.specs.Plain.{Bytes, opcode_in, first_in, remote_space}
use Rattle.redn_segment.specs.Primed.{IsPrimed, Primed, IsBytes, writes_slot, covers, number_of, remote_of}
use Rattle.redn_segment.specs.Renaming.{renamed, renamed_space}
use Rattle.redn_segment.specs.Homes.{Home, IsHome, room_of, base_of}
use Rattle.redn_segment.proofs.Moved.{writes_slot_renamed}
use Rattle.redn_segment.proofs.Renamed.{table_renamed, start_renamed}
use Rattle.redn_segment.proofs.SameSpace.{table_space}
use Rattle.redn_proof_landing.specs.Homes.{seen_in}
use Rattle.redn_proof_landing.specs.Segments.{slot_space, is_table_space}
use Rattle.redn_proof_window.proofs.Sound.{spelled_bytes}
use Rattle.redn_recycle.specs.Laps.{Ring, slot_of, bodies_of, lap_requests, flags_at}
use Rattle.redn_recycle.specs.Lapped.{segment_at, start_of, first_of, slots_in_laps, slot_in_laps, ring_of, ref_in_laps}
use Rattle.redn_recycle.proofs.Rising.{placed, refs_differ}
use Rattle.redn_proof_ring.specs.Plans.{Plan, is_ring, IsLaid, IsBody, body_slot, body_request}
use Rattle.redn_proof_ring.specs.Turns.{HasBytes, tabled}
use Rattle.redn_proof_ring.proofs.LapNext.{seen_bytes, slice_get_behind}
use Rattle.redn_proof_ring.proofs.LapSteps.{whole_slot, says_add, lap_of, lap_raises}
use Rattle.redn_proof_ring.proofs.LapWindows.{end_inside}
use Rattle.redn_proof_ring.proofs.Leaving.{segment_all}
use Rattle.redn_proof_ring.specs.Runs.{Fine}
use Rattle.redn_proof_block.specs.Names.{Rings, in_laps, set_aside}
use Rattle.redn_proof_block.specs.Laps as laps
use Rattle.redn_proof_block.specs.Laps.{raised_by, LapsStand, lap_slot}
use Rattle.redn_block.specs.Blocks.{IsWord}
use Rattle.redn_proof_block.specs.Parts.{drafts, begins, Stands}
use Rattle.redn_proof_block.specs.Stages.{Ghost, Later}
use Rattle.redn_proof_block.specs.Laying.{Laying, plan, segments, rings_of, block_at, round_at, IsLaying, Takes, Tells, Fails, Entry}
use Rattle.redn_proof_block.specs.Beginnings.{blank_cell, blank, named_in, Begins}
use Rattle.redn_proof_block.specs.CourseLaws.{CoursesBegin}
use Rattle.redn_proof_block.proofs.Taking.{laid}
use Rattle.redn_proof_block.proofs.Drafts.{draft_at}
use Rattle.redn_proof_block.proofs.Spared.{is_plain, block_plain, sends_flat}
use Rattle.redn_proof_block.proofs.CourseStages.{are_rings}
use Rattle.redn_proof_block.proofs.Entering.{raised_long, entered}
use Rattle.redn_proof_block.proofs.Requests.{ready_primed, primed_each}
use Rattle.redn_proof_ring.proofs.Promised.{front as slice_get_front}

-- a draft among all is one of its segment
at_segment : (segs : List (List Draft)) (j k : ℕ) (d : Draft) → k < length (segment_at segs j) → slice_get (drafts_of segs) (start_of segs j + k) ≡ Some d → slice_get (segment_at segs j) k ≡ Some d
at_segment segs j k d small e =
    let there : slice_get (segment_at segs j) k ≡ Some (get_or (segment_at segs j) k d) = slice_get-get_or (segment_at segs j) k d small in
    let same : Some (get_or (segment_at segs j) k d) ≡ Some d = sym (draft_at segs j k (get_or (segment_at segs j) k d) there) ∙ e in
    there ∙ same

plain_draft : (ds : List Draft) (k : ℕ) (d : Draft) → list_all is_plain ds ≡ true → slice_get ds k ≡ Some d → is_plain d ≡ true
plain_draft [] k d h e = absurd (cc)
plain_draft (x ∷ ds) zero d h e = let same : x ≡ d = cc in subst (λ (y : Draft). is_plain y ≡ true) same (and_parts (is_plain x) (list_all is_plain ds) h).0
plain_draft (x ∷ ds) (suc k) d h e = plain_draft ds k d (and_parts (is_plain x) (list_all is_plain ds) h).1 e

module _ (l : Laying) (is : IsLaying l) where
  abbrev c : Plan
  c = plan l

  abbrev g : Rings
  g = rings_of l

  abbrev domain : ℕ
  domain = l.layout.domain

  abbrev home : Space → Home
  home = l.layout.home

  abbrev mine : Space → Bool
  mine = l.layout.mine

  laid_it : IsLaid c
  laid_it = laid l is

  module _ (v : ℕ) (its : is_ring c v ≡ true) (y : GraphState) (m : List ℕ) (h : Begins l v y m) where
    abbrev s : Bytes
    s = named_in l m

    named : (p : Space) → mine p ≡ true → s p ≡ seen_in home m p
    named p e = ap (λ (b : Bool). cond b (seen_in home m p) (blank p)) e

    unnamed : (p : Space) → mine p ≡ false → s p ≡ blank p
    unnamed p e = ap (λ (b : Bool). cond b (seen_in home m p) (blank p)) e

    -- sizes
    seen_long : (p : Space) → mine p ≡ true → length (seen_in home m p) ≡ room_of home p
    seen_long p e =
        let inside = laid_it.spaces.inside p e in
        let size = h.size in
        omega (arith, inside, size, length-take (room_of home p) (drop (base_of home p) m), length-drop (base_of home p) m)

    long : (p : Space) → length (blank p) ≡ room_of home p → length (s p) ≡ room_of home p
    long p e = by_mine (mine p) refl
      where
        by_mine : (b : Bool) → mine p ≡ b → length (s p) ≡ room_of home p
        by_mine true f = ap length (named p f) ∙ seen_long p f
        by_mine false f = ap length (unnamed p f) ∙ e

    blank_cell_long : (a : Cell) → length (blank_cell a) ≡ 8
    blank_cell_long (cell.Num n) = length-spelled 8 n
    blank_cell_long _ = length-spelled 8 0

    blank_cell_bytes : (a : Cell) → IsBytes (blank_cell a)
    blank_cell_bytes (cell.Num n) = spelled_bytes 8 n
    blank_cell_bytes _ = spelled_bytes 8 0

    cell_bytes : (a : Cell) → IsBytes (s (space.Cell a))
    cell_bytes a = by_mine (mine (space.Cell a)) refl
      where
        by_mine : (b : Bool) → mine (space.Cell a) ≡ b → IsBytes (s (space.Cell a))
        by_mine true f = subst IsBytes (sym (named (space.Cell a) f)) (seen_bytes home m (space.Cell a) h.sound)
        by_mine false f = subst IsBytes (sym (unnamed (space.Cell a) f)) (blank_cell_bytes a)

    number_is : (n : ℕ) → s (space.Cell (cell.Num n)) ≡ spelled 8 n
    number_is n = by_mine (mine (space.Cell (cell.Num n))) refl
      where
        by_mine : (b : Bool) → mine (space.Cell (cell.Num n)) ≡ b → s (space.Cell (cell.Num n)) ≡ spelled 8 n
        by_mine true f = named (space.Cell (cell.Num n)) f ∙ h.numbers n f
        by_mine false f = unnamed (space.Cell (cell.Num n)) f

    cell_is : (a : Cell) → IsCell l.things a → IsWord a → word_of s a ≡ held (in_hand l.course.mail y) y.cells a
    cell_is (cell.Num n) there small = ap (λ (b : List ℕ). word b 0) (number_is n) ∙ number-spelled 8 n small
    cell_is (cell.Var i) there small = let k = h.cells (cell.Var i) there refl in ap (λ (b : List ℕ). word b 0) (named (space.Cell (cell.Var i)) k.0) ∙ k.1
    cell_is (cell.Hidden i) there small = let k = h.cells (cell.Hidden i) there refl in ap (λ (b : List ℕ). word b 0) (named (space.Cell (cell.Hidden i)) k.0) ∙ k.1
    cell_is (cell.Argument i) there small = let k = h.cells (cell.Argument i) there refl in ap (λ (b : List ℕ). word b 0) (named (space.Cell (cell.Argument i)) k.0) ∙ k.1

    -- the slots of a ring
    module _ (r : ℕ) (rs : is_ring c r ≡ true) where
      abbrev segs : List (List Draft)
      segs = segments l r

      abbrev ring : Ring
      ring = ring_of segs r domain (l.layout.base r)

      abbrev f : SlotRef → SlotRef
      f = ref_in_laps segs r

      slot_mine : (i : ℕ) → i < slots_in_laps segs → s (slot_space r i) ≡ seen_in home m (slot_space r i)
      slot_mine i small = named (slot_space r i) ((laid_it.lie r rs).its i small)

      body_there : (j k : ℕ) (d : Draft) → j < length segs → IsBody c r j k d → s (slot_space r (body_slot c r j k)) ≡ seen_in home m (slot_space r (body_slot c r j k))
      body_there j k d inside body =
          let small = slice_get_within (bodies_of r ring j) k d body in
          let room = end_inside r ring (laid_it.rings r rs) j inside in
          slot_mine (body_slot c r j k) (omega (arith, small, room))

      -- lap requests
      lap_says : (j k : ℕ) (d : Draft) → j < length segs → laps.IsLap g r domain (l.layout.base r) j k d → (opcode_in (s (space.Slot (lap_slot g r domain (l.layout.base r) j k))) ≡ Add) × (first_in (s (space.Slot (lap_slot g r domain (l.layout.base r) j k))) ≡ d.first)
      lap_says j k d inside lap =
          let body : IsBody c r j (length (ring.drafts j) + k) d = slice_get_behind (ring.drafts j) (lap_requests r ring j) k ∙ lap in
          let at : ℕ = length (ring.drafts j) + k in
          let same = length-map (segment_at segs j) (renamed f) in
          let place : first_of segs j + (length (segment_at segs j) + k) ≡ body_slot c r j at = omega (arith, same) in
          let whole : s (slot_space r (body_slot c r j at)) ≡ encoded (body_request c r j at d) = body_there j at d inside body ∙ whole_slot (c.written r (body_slot c r j at)) (body_request c r j at d) (seen_in home m (slot_space r (body_slot c r j at))) (h.drafts r j at d rs inside body) (λ i. laid_it.lap_fixed r j at i rs inside (omega arith) (slice_get_within (bodies_of r ring j) at d body)) in
          let says = says_add home d (flags_at r ring j at) (s (slot_space r (body_slot c r j at))) (lap_raises r ring d (lap_of r ring j k d lap)).op_is (laid_it.narrow r j at d rs inside body) whole in
          (ap (λ (n : ℕ). opcode_in (s (slot_space r n))) place ∙ says.0, ap (λ (n : ℕ). first_in (s (slot_space r n))) place ∙ says.1)

      laps_stand : LapsStand g r domain (l.layout.base r) s
      laps_stand = record { adds = λ j k d inside lap. (lap_says j k d inside lap).0; by = λ j k d inside lap. (lap_says j k d inside lap).1 }

      -- drafts, by their numbers without laps
      new_is : (n : ℕ) → s (space.Slot (in_laps g (slot_of r n))) ≡ s (slot_space r (slot_in_laps segs n))
      new_is n = ap (λ (b : Bool). s (slot_space r (cond b (slot_in_laps segs n) n))) rs

      draft_primed : (n : ℕ) (d : Draft) → slice_get (drafts_of segs) n ≡ Some d → IsPrimed (writes_slot (drafts_of segs) (slot_of r n)) d (s (space.Slot (in_laps g (slot_of r n))))
      draft_primed n d e =
          let some = (are_rings l is r rs).some in
          let p = placed segs some n (slice_get_within (drafts_of segs) n d e) in
          let j : ℕ = p.segment in
          let k : ℕ = n - start_of segs j in
          let low = p.low in
          let high = p.high in
          let small : k < length (segment_at segs j) = omega (arith, low, high) in
          let whole : start_of segs j + k ≡ n = omega (arith, low) in
          let own : slice_get (segment_at segs j) k ≡ Some d = at_segment segs j k d small (ap (slice_get (drafts_of segs)) whole ∙ e) in
          let body : IsBody c r j k (renamed f d) = slice_get_front (ring.drafts j) (lap_requests r ring j) k (renamed f d) (slice_get-map (renamed f) (segment_at segs j) k ∙ ap (option_map (renamed f)) own) in
          let place : slot_in_laps segs n ≡ body_slot c r j k = p.is in
          let ready = h.drafts r j k (renamed f d) rs p.inside body in
          let plain : is_plain d ≡ true = plain_draft (segment_at segs j) k d (segment_all is_plain segs j (subst (λ (x : List (List Draft)). list_all is_plain (drafts_of x) ≡ true) (sym (is.segments_are r rs)) (block_plain l.layout.first_queue (block_at l r).instrs (block_at l r).end (slot_of r 0)))) own in
          let flat : is_table (renamed f d).remote ≡ true → is_send d.op ≡ false = λ t. sends_flat d plain (sym (table_renamed f d.remote) ∙ t) in
          let sides = laid_it.sides r j k (renamed f d) rs p.inside body in
          let begins_there : is_table (renamed f d).remote ≡ true → (home (remote_space (renamed f d))).offset ≡ 0 = λ t. table_begins (remote_space (renamed f d)) (sym (table_space (renamed f d).remote) ∙ t) (laid_it.homes (remote_space (renamed f d)) (sides.1 (flat t))) in
          let same_written : (i : ℕ) → writes_slot (drafts_of segs) (slot_of r n) i ≡ false → c.written r (body_slot c r j k) i ≡ false = λ i w. ap (λ (q : ℕ). writes_slot (map (renamed f) (drafts_of segs)) (slot_of r q) i) (sym place) ∙ (ap (λ (q : SlotRef). writes_slot (map (renamed f) (drafts_of segs)) q i) (sym own_name) ∙ (writes_slot_renamed f (refs_differ segs some r) (drafts_of segs) (slot_of r n) i ∙ w)) in
          let primed : IsPrimed (writes_slot (drafts_of segs) (slot_of r n)) (renamed f d) (seen_in home m (slot_space r (body_slot c r j k))) = ready_primed home (renamed f d) (flags_at r ring j k) flat begins_there (c.written r (body_slot c r j k)) (writes_slot (drafts_of segs) (slot_of r n)) (seen_in home m (slot_space r (body_slot c r j k))) same_written ready in
          let there : seen_in home m (slot_space r (body_slot c r j k)) ≡ s (space.Slot (in_laps g (slot_of r n))) = sym (new_is n ∙ (ap (λ (q : ℕ). s (slot_space r q)) place ∙ body_there j k (renamed f d) p.inside body)) in
          subst (IsPrimed (writes_slot (drafts_of segs) (slot_of r n)) d) there (primed_old d (writes_slot (drafts_of segs) (slot_of r n)) (seen_in home m (slot_space r (body_slot c r j k))) primed)
        where
          own_name : f (slot_of r n) ≡ slot_of r (slot_in_laps segs n)
          own_name = ap (λ (b : Bool). cond b (slot_of r (slot_in_laps segs n)) (slot_of r n)) (eq-eqb r r refl)

          table_begins : (p : Space) → is_table_space p ≡ true → IsHome home c.regions c.domain c.size p → (home p).offset ≡ 0
          table_begins (space.Table t) e k = k.told
          table_begins _ e k = absurd (false≢true e)

          remote_old : (d : Draft) → remote_of (renamed f d) ≡ remote_of d
          remote_old d = (λ i. cond (table_renamed f d.remote i) (start_renamed f d.remote i + d.remote_byte) 0)

          primed_old : (d : Draft) (w : ℕ → Bool) (slot : List ℕ) → IsPrimed w (renamed f d) slot → IsPrimed w d slot
          primed_old d w slot p =
              record {
                len = p.len;
                bytes = λ i small says_it untouched. p.bytes i small (ap (λ (b : Bool). nat_lt i 8 || (covers 40 16 i || (b && covers 24 8 i))) (table_renamed f d.remote) ∙ says_it) untouched ∙ ap (λ (n : ℕ). slice_index (spelled 2 (number_of d.op) ++ (spelled 6 0 ++ (replicate 16 0 ++ (spelled 8 n ++ (replicate 8 0 ++ (spelled 8 d.first ++ (spelled 8 d.second ++ replicate 8 0))))))) i) (remote_old d);
              }

      ring_primed : (t : Bytes) → ((q : SlotRef) → t (space.Slot q) ≡ s (space.Slot (in_laps g q))) → Primed (drafts (round_at l r)) (begins (round_at l r)) (drafts (round_at l r)) t
      ring_primed t same =
          subst (λ (ds : List Draft). Primed ds (slot_of r 0) ds t) (ap drafts_of (is.segments_are r rs)) (primed_each (drafts_of segs) (drafts_of segs) (slot_of r 0) t (λ k d e. subst (λ (n : ℕ). IsPrimed (writes_slot (drafts_of segs) (slot_of r n)) d (t (space.Slot (slot_of r n)))) (let z : k ≡ 0 + k = omega arith in z) (subst (IsPrimed (writes_slot (drafts_of segs) (slot_of r k)) d) (sym (same (slot_of r k))) (draft_primed k d e))) (ap length (same (slot_of r (0 + length (drafts_of segs)))) ∙ long (space.Slot (in_laps g (slot_of r (0 + length (drafts_of segs))))) refl))

    -- the state without laps
    abbrev t : Bytes
    t p = if same_space (space.Descriptor v) p then raised_by (slots_in_laps (segments l v)) (s (space.Descriptor v)) else s (renamed_space (in_laps g) p)

    descriptor_long : (k : ℕ) → length (t (space.Descriptor k)) ≡ 16
    descriptor_long k = by_ring (v == k)
      where
        by_ring : (x : Bool) → length (cond x (raised_by (slots_in_laps (segments l v)) (s (space.Descriptor v))) (s (space.Descriptor k))) ≡ 16
        by_ring true = raised_long (slots_in_laps (segments l v)) (s (space.Descriptor v)) (long (space.Descriptor v) refl)
        by_ring false = long (space.Descriptor k) refl

    stands : (u : Bytes) → HasBytes u → Stands (round_at l v) t (tabled t u)
    stands u bytes =
        record {
          whole = record { cells = λ a. (long (space.Cell a) (blank_cell_long a), cell_bytes a); numbers = λ n. number_is n; descriptors = λ k. descriptor_long k; tables = λ k. bytes k };
          room = record { reply = long space.Reply refl; key = long space.Key (length-spelled 8 0); scratch = λ i. long (space.Scratch i) (length-spelled 8 0) };
          primed = ring_primed v its (tabled t u) (λ q. refl);
          descriptors = λ k. refl;
        }

    here : Later (round_at l v) t 0 y t
    here u bytes =
        record {
          is_at = h.is_at;
          same = record { many = h.many; cells = λ a there small. cell_is a there small };
          stands = stands u bytes;
        }

    agrees : (p : Space) → set_aside v 0 p ≡ false → t p ≡ s (renamed_space (in_laps g) p)
    agrees (space.Descriptor k) e =
        let other : (v == k) ≡ false = by_other (cases_eq v k) in
        ap (λ (x : Bool). cond x (raised_by (slots_in_laps (segments l v)) (s (space.Descriptor v))) (s (space.Descriptor k))) other
      where
        by_other : (v ≡ k) ⊎ (v ≢ k) → (v == k) ≡ false
        by_other (inl same) = absurd (true≢false (sym (eq-eqb k v (sym same)) ∙ e))
        by_other (inr ne) = ne_eqb v k ne
    agrees (space.Slot q) e = refl
    agrees _ e = refl

    raised : t (space.Descriptor v) ≡ raised_by (slots_in_laps (segments l v)) (s (space.Descriptor v))
    raised = let itself : (v == v) ≡ true = eq-eqb v v refl in ap (λ (x : Bool). cond x (raised_by (slots_in_laps (segments l v)) (s (space.Descriptor v))) (s (space.Descriptor v))) itself

    abbrev ghost : Ghost
    ghost = record { state = y; ahead = false }

    entry : Entry l v ghost s
    entry =
        record {
          plain = t;
          here = here;
          ahead_not = refl;
          mirrors = record { agrees = agrees; raised = λ first_one. raised; laps = laps_stand v its };
          primed = λ r rs. ring_primed r rs t (λ q. refl);
          laps = laps_stand;
          sized = λ p private. ap length (named p private.its) ∙ seen_long p private.its;
        }

    pub fine : Fine c (Takes l) Ghost (Tells l) (Fails l) (Entry l) v 0 ghost (seen_in home m)
    fine =
        record {
          bytes = λ k. seen_bytes home m (space.Table k) h.sound;
          left = length (segments l v);
          left_is = omega arith;
          plain = s;
          agrees = λ p private. sym (named p private.its);
          sound = entered l is v ghost s its entry;
        }

pub courses_begin : CoursesBegin
courses_begin l is v y m its h = fine l is v its y m h
