-- A ring's segments with their lap requests, one after the other, beside those without.
use Rattle.std.proofs.Common.{◌≡◌, ◌≢◌, inl, inr, ℕ, zero, suc, ◌+◌, ◌<◌, Bool, true, false, cond, List, [], ◌∷◌, length, refl, sym, ap, ◌∙◌, subst, arith, drop, drop-cons}
use Rattle.std.specs.List.{list_all}
use Rattle.std.proofs.lemmas.Bool.{cases_eq}
use Rattle.std.proofs.lemmas.Option.{slice_get_within}
use Rattle.std.proofs.lemmas.List.{length-map}
use Rattle.redn_words.specs.declared.types.Obs.{Obs}
use Rattle.redn_segment.specs.declared.types.SlotRef.{SlotRef}
use Rattle.redn_segment.specs.declared.types.Space.{Space}
use Rattle.redn_segment.specs.declared.types.Space.TheVariants as space
use Rattle.redn_segment.specs.declared.types.Draft.{Draft}
use Rattle.redn_segment.specs.Building.{drafts_of}
use Rattle.redn_segment.specs.Effects.{slot_behind}
use Rattle.redn_segment.specs.Opcodes.{MayHave}
use Rattle.redn_segment.specs.Plain.{Bytes, Put, placed, Outcome, Went, Faults, Bad, runs, opcode_in, first_in}
use Rattle.redn_segment.specs.Primed.{Primed}
use Rattle.redn_segment.specs.Renaming.{renamed}
use Rattle.redn_segment.specs.Homes.{Home, room_of}
use Rattle.redn_proof_landing.specs.Segments.{slot_space}
use Rattle.redn_recycle.specs.Laps.{Ring, slot_of, bodies_of, lap_requests}
use Rattle.redn_recycle.specs.Lapped.{segment_at, start_of, first_of, ring_of, ref_in_laps, draft_names_well}
use Rattle.redn_proof_ring.specs.Plans.{Plan, is_ring, IsBody, IsPrivate, body_slot}
use Rattle.redn_proof_ring.specs.Turns.{HasBytes, tabled, slot_in}
use Rattle.redn_proof_ring.proofs.LapSteps.{slice_get_append}
use Rattle.redn_proof_ring.proofs.Leaving.{segment_all}
use Rattle.redn_proof_ring.specs.Layouts.{leaves_descriptors}
use Rattle.redn_proof_ring.specs.Runs as rings
use Rattle.redn_proof_ring.specs.Runs.{own_view, run_of}
use Rattle.redn_block.specs.Blocks.{parts_of}
use Rattle.redn_proof_block.specs.Names.{Rings, AreRings, set_aside, spares_all}
use Rattle.redn_proof_block.specs.Laps as laps
use Rattle.redn_proof_block.specs.Laps.{LapsStand, lap_slot}
use Rattle.redn_proof_block.proofs.Names.{names_near}
use Rattle.redn_proof_block.proofs.Lapped.{laps_change_nothing}
use Rattle.redn_proof_block.specs.Parts as parts
use Rattle.redn_proof_block.specs.Parts.{Round, Mark, marks, drafts, begins}
use Rattle.redn_proof_block.specs.Stages as stages
use Rattle.redn_proof_block.specs.Stages.{Ghost, Starts, Follows}
use Rattle.redn_proof_block.proofs.Views.{runs_true}
use Rattle.redn_proof_block.specs.Laying.{Laying, plan, segments, rings_of, block_at, round_at, IsLaying, Takes, opens_at, place_at, closes_at, Tells, Fails}
use Rattle.redn_proof_block.proofs.Ends.{dropped}
use Rattle.redn_proof_block.proofs.Faults.{runs_fault_true, as_all}
use Rattle.redn_proof_block.proofs.Fitting.{run_fits, sizes_stay}
use Rattle.redn_proof_block.proofs.Others.{plain_elsewhere, lapped_elsewhere, primed_same}
use Rattle.redn_proof_block.proofs.Marks.{marks_are}
use Rattle.redn_proof_block.proofs.Spared.{is_plain, block_plain, all_spared}
use Rattle.redn_proof_block.proofs.Telling.{Have, may_at, have_here, have_next}

-- a state without tables
abbrev pub no_tables : Bytes
no_tables p = []

pub no_bytes : HasBytes no_tables
no_bytes k i d small = let none : i < 0 = small in absurd (omega (arith, none))

slot_seen : (ring j : ℕ) (q : SlotRef) → set_aside ring j (space.Slot q) ≡ false
slot_seen ring zero q = refl
slot_seen ring (suc j) q = refl

module _ (l : Laying) (is : IsLaying l) where
  abbrev c : Plan
  c = plan l

  abbrev g : Rings
  g = rings_of l

  abbrev domain : ℕ
  domain = l.layout.domain

  abbrev base : ℕ → ℕ
  base r = l.layout.base r

  abbrev home : Space → Home
  home = l.layout.home

  pub are_rings : AreRings g
  are_rings r its = (is.laid.rings_are r its).may

  -- the block of ring v, which began with the state b without laps
  module _ (v : ℕ) (its : is_ring c v ≡ true) (b : Bytes) where
    abbrev segs : List (List Draft)
    segs = segments l v

    abbrev r : Round
    r = round_at l v

    abbrev ring : Ring
    ring = ring_of segs v domain (base v)

    abbrev at : ℕ → SlotRef
    at j = slot_of v (start_of segs j)

    -- before segment j, of which n more are left: a state without laps, and one with them
    pub record Stage (n j : ℕ) (y : Ghost) (t s : Bytes) : Type 0 where
      pub left_is : n + j ≡ length segs
      pub follows : Follows r b (drop j segs) (drop j (marks r)) (at j) y t
      pub have : Have (drafts_of segs) domain (at j) (drop j segs) t
      pub mirrors : laps.Mirrors g v domain (base v) j t s
      pub primed : (q : ℕ) → is_ring c q ≡ true → q ≢ v → Primed (drafts (round_at l q)) (begins (round_at l q)) (drafts (round_at l q)) t
      pub laps_stand : (q : ℕ) → is_ring c q ≡ true → LapsStand g q domain (base q) s
      pub sized : (p : Space) → IsPrivate c p → length (s p) ≡ room_of home p

    module _ (n j : ℕ) (y : Ghost) (t s : Bytes) (h : Stage (suc n) j y t s) where
      abbrev pub here : List Draft
      here = segment_at segs j

      inside : j < length segs
      inside = let left = h.left_is in omega arith

      names : list_all (draft_names_well segs v) here ≡ true
      names = ((is.laid.rings_are v its).leaves j inside).names

      drop_is : drop j segs ≡ here ∷ drop (suc j) segs
      drop_is = drop-cons segs j [] inside

      have_it : Have (drafts_of segs) domain (at j) (here ∷ drop (suc j) segs) t
      have_it = subst (λ (x : List (List Draft)). Have (drafts_of segs) domain (at j) x t) drop_is h.have

      spares : list_all (spares_all (set_aside v j)) here ≡ true
      spares =
          let layout = is.laid.rings_are v its in
          all_spared v j here (segment_all is_plain segs j (subst (λ (x : List (List Draft)). list_all is_plain (drafts_of x) ≡ true) (sym (is.segments_are v its)) (block_plain l.layout.first_queue (block_at l v).instrs (block_at l v).end (begins r)))) (layout.leaves j inside).descriptor (segment_all leaves_descriptors segs j layout.descriptors)

      -- a segment's run over other tables
      module _ (u : Bytes) (bytes : HasBytes u) where
        abbrev pub plain_run : Outcome
        plain_run = laps.plain_run g v domain (base v) domain j t s u

        lapped : laps.Lapped g v domain (base v) domain j t s u plain_run
        lapped = laps_change_nothing g are_rings v domain (base v) its domain j inside spares names t s u h.mirrors

        -- what comes of it without laps
        pub record Came (o : Outcome) : Type 0 where
          pub told : List Mark
          pub told_are : drop (suc j) (marks r) ≡ told
          pub starts : Starts r (opens_at l v j) (place_at l v j) y
          pub comes : stages.Comes r (Follows r b (drop (suc j) segs) told (at (suc j))) (closes_at l v j) y (tabled t u) o

        came : Came plain_run
        came = by_told (drop j (marks r)) refl (subst (λ (x : List (List Draft)). Follows r b x (drop j (marks r)) (at j) y t) drop_is h.follows)
          where
            by_told : (ts : List Mark) → drop j (marks r) ≡ ts → Follows r b (here ∷ drop (suc j) segs) ts (at j) y t → Came plain_run
            by_told [] e k = absurd k
            by_told (m ∷ ts) e k =
                let none : Mark = record { place = 0; opens = false; closes = false } in
                let found = dropped (marks r) j none m ts e in
                let small : j < length (parts.segments r) = subst (λ (x : List (List Draft)). j < length x) (is.segments_are v its) inside in
                let where_it_is : m ≡ record { place = 0 + place_at l v j; opens = opens_at l v j; closes = closes_at l v j } = sym found.0 ∙ marks_are (parts_of r.first r.block) 0 (begins r) j none small in
                let zero_more : 0 + place_at l v j ≡ place_at l v j = omega arith in
                record {
                  told = ts;
                  told_are = found.1;
                  starts = subst (λ (n : ℕ). Starts r (opens_at l v j) n y) zero_more (subst (λ (w : Mark). Starts r w.opens w.place y) where_it_is k.0);
                  comes = subst (λ (w : Mark). stages.Comes r (Follows r b (drop (suc j) segs) ts (at (suc j))) w.closes y (tabled t u) plain_run) where_it_is (subst (λ (m0 : ℕ). stages.Comes r (Follows r b (drop (suc j) segs) ts (at (suc j))) m.closes y (tabled t u) (runs (own_view m0 u) (at j) here (tabled t u))) is.number (k.1 u bytes));
                }

        -- where it goes through
        module _ (us : List Put) (events : List Obs) (goes : plain_run ≡ Went us events) where
          pub went : Came (Went us events)
          went = subst (λ (o : Outcome). Came o) goes came

          pub lapped_went : laps.Lapped g v domain (base v) domain j t s u (Went us events)
          lapped_went = subst (laps.Lapped g v domain (base v) domain j t s u) goes lapped

          abbrev pub then_plain : Bytes
          then_plain = placed (tabled t u) us

          abbrev pub then_lapped : Bytes
          then_lapped = placed (tabled s u) lapped_went.0

          pub lapped_goes : run_of c v j s u ≡ Went lapped_went.0 events
          lapped_goes = lapped_went.1

          stand_there : (q : ℕ) → q ≢ v → LapsStand g q domain (base q) s → LapsStand g q domain (base q) then_lapped
          stand_there q ne stood =
              let same = λ (k : ℕ). lapped_elsewhere segs v domain (base v) j names (own_view domain u) (slot_of v (first_of segs j)) (tabled s u) lapped_went.0 events lapped_goes (slot_of q k) ne in
              record {
                adds = λ i k d low lap. ap opcode_in (same (first_of (segments l q) i + (length (segment_at (segments l q) i) + k))) ∙ stood.adds i k d low lap;
                by = λ i k d low lap. ap first_in (same (first_of (segments l q) i + (length (segment_at (segments l q) i) + k))) ∙ stood.by i k d low lap;
              }

          pub stage_next : Stage n (suc j) went.comes.0 then_plain then_lapped
          stage_next =
              record {
                left_is = let left = h.left_is in omega arith;
                follows = subst (λ (ts : List Mark). Follows r b (drop (suc j) segs) ts (at (suc j)) went.comes.0 then_plain) (sym went.told_are) went.comes.2;
                have = have_next (drafts_of segs) domain (at j) here (drop (suc j) segs) t u bytes have_it us events goes;
                mirrors = lapped_went.2;
                primed = λ q qs ne. primed_same (drafts (round_at l q)) (drafts (round_at l q)) (begins (round_at l q)) t then_plain (λ p e. plain_elsewhere segs v domain (base v) j names (own_view domain u) (at j) (tabled t u) us events goes p (λ same. ne (sym e ∙ same))) (h.primed q qs ne);
                laps_stand = λ q qs. elim (cases_eq q v) [
                  | inl same ↦ subst (λ (k : ℕ). LapsStand g k domain (base k) then_lapped) (sym same) lapped_went.2.laps
                  | inr ne ↦ stand_there q ne (h.laps_stand q qs)
                ];
                sized = λ p private. sizes_stay home lapped_went.0 (tabled s u) p (run_fits home (own_view domain u) (bodies_of v ring j) (slot_of v (first_of segs j)) (tabled s u) lapped_went.0 events lapped_goes) private.plain (ap (λ (w : Bool). length (cond w (u p) (s p))) private.plain ∙ h.sized p private);
              }

          pub tells : Tells l v j u y events went.comes.0
          tells = record { starts = went.starts; steps = went.comes.1; seen = as_all domain u events (runs_true domain u here (at j) (tabled t u) us events goes) }

        -- what comes of it with laps
        abbrev pub Next : Outcome → Type 0
        Next = rings.Comes (λ events w. (z : Ghost) × Tells l v j u y events z × (x : Bytes) × Stage n (suc j) z x w) (Fails l v j u y) (tabled s u)

        pub next : Next (run_of c v j s u)
        next = by_run plain_run refl
          where
            by_run : (o : Outcome) → plain_run ≡ o → Next (run_of c v j s u)
            by_run (Went us events) e = subst (λ (o : Outcome). Next o) (sym (lapped_goes us events e)) ((went us events e).comes.0, tells us events e, then_plain us events e, stage_next us events e)
            by_run (Faults us events) e =
                let faulted : laps.Lapped g v domain (base v) domain j t s u (Faults us events) = subst (laps.Lapped g v domain (base v) domain j t s u) e lapped in
                let fell : Came (Faults us events) = subst (λ (o : Outcome). Came o) e came in
                subst (λ (o : Outcome). Next o) (sym faulted.1) (record { starts = fell.starts; falls = fell.comes; seen = as_all domain u events (runs_fault_true domain u here (at j) (tabled t u) us events e) })
            by_run Bad e = let bad : Came Bad = subst (λ (o : Outcome). Came o) e came in absurd bad.comes

      -- the opcodes of the slots
      slot_is : (k : ℕ) → k < length here → t (space.Slot (slot_behind (at j) k)) ≡ s (slot_space v (body_slot c v j k))
      slot_is k small = h.mirrors.agrees (space.Slot (slot_behind (at j) k)) (slot_seen v j (slot_behind (at j) k)) ∙ ap (λ (q : SlotRef). s (space.Slot q)) (names_near g are_rings v its j k inside small)

      pub takes : (k : ℕ) (d : Draft) → IsBody c v j k d → Takes l v j k (opcode_in (slot_in c s v j k))
      takes k d body =
          record {
            own = λ x e. subst (λ (w : List ℕ). MayHave (drafts_of segs) (slot_of v (start_of segs j + k)) x (opcode_in w)) (slot_is k (slice_get_within here k x e)) (may_at (drafts_of segs) here (at j) t (have_here (drafts_of segs) domain (at j) here (drop (suc j) segs) t no_tables no_bytes have_it) k x e);
            lap = λ past. elim (slice_get_append (ring.drafts j) (lap_requests v ring j) k d body) [
              | inl own ↦ absurd (let small = slice_get_within (ring.drafts j) k d own in let long = length-map here (renamed (ref_in_laps segs v)) in omega (arith, small, long, past))
              | inr lap ↦
                  let long = length-map here (renamed (ref_in_laps segs v)) in
                  let place = lap.1 in
                  let same : first_of segs j + k ≡ first_of segs j + (length here + lap.0) = omega (arith, long, place) in
                  ap (λ (m : ℕ). opcode_in (s (slot_space v m))) same ∙ h.mirrors.laps.adds j lap.0 d inside lap.2
            ];
          }
