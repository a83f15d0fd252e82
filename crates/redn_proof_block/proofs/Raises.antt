-- What the lap requests of a segment do in a plain run: they raise gates and the own descriptor, show nothing, and leave all else.
use Rattle.std.proofs.Common.{◌≡◌, ◌≢◌, inl, inr, ℕ, zero, suc, ◌+◌, ◌-◌, ◌%◌, ◌^◌, ◌<◌, ◌≤◌, Bool, true, false, cond, ◌&&◌, ◌==◌, List, [], ◌∷◌, ◌++◌, length, Some, refl, sym, ap, ◌∙◌, arith}
use Rattle.std.specs.Prelude.{slice_get}
use Rattle.std.proofs.lemmas.List.{append-nil}
use Rattle.std.proofs.lemmas.Option.{slice_get_within}
use Rattle.std.proofs.lemmas.Bool.{eq-eqb, ne_eqb, cases_lt, true≢false}
use Rattle.redn_words.specs.declared.types.Opcode.TheVariants.{Add}
use Rattle.redn_words.specs.Words.{bytes_at, with_bytes_at, spelled, word}
use Rattle.redn_words.specs.Landings.{sum_of}
use Rattle.redn_segment.specs.declared.types.SlotRef.{SlotRef}
use Rattle.redn_segment.specs.declared.types.Space.{Space}
use Rattle.redn_segment.specs.declared.types.Space.TheVariants as space
use Rattle.redn_segment.specs.declared.types.Draft.{Draft}
use Rattle.redn_segment.specs.Sites.{same_space, same_slot, next_slot}
use Rattle.redn_segment.specs.Drafts.{field, add_to}
use Rattle.redn_segment.specs.Renaming.{renamed_space}
use Rattle.redn_segment.specs.Plain.{Bytes, View, seeing, Put, put, with_put, placed, Outcome, Went, after, follow, step, runs, acts, opcode_in, first_in, request_of, remote_bytes}
use Rattle.redn_segment.proofs.Composing.{placed_append}
use Rattle.redn_segment.proofs.SameSpace.{same_space_is}
use Rattle.redn_recycle.specs.Laps.{Ring, slot_of, wait_of, enable_of, raise_wait, raise_enable, raise_descriptor, lap_requests, is_send_last, gates_of}
use Rattle.redn_recycle.specs.Lapped.{segment_at, first_of, slots_added, sends_last, slots_in_laps, ring_of}
use Rattle.redn_recycle.proofs.Starts.{first_le, gated_all, gated_below}
use Rattle.redn_recycle.proofs.Rings.{added_is, one_request, first_requests, no_requests}
use Rattle.redn_proof_block.specs.Laps as laps
use Rattle.redn_proof_block.specs.Laps.{raised_by}
use Rattle.redn_proof_block.specs.Names.{Rings, in_laps, AreRings, is_lapping}
use Rattle.redn_proof_block.proofs.Names.{IsGap, names_miss}

-- a lap request as a step
module _ (chain : ℕ) (s : Bytes) (slot : List ℕ) (q : SlotRef) (n : ℕ) where
  pub wait_acts : (old : ℕ) → old ≡ word (remote_bytes s slot (add_to 2 (field q 48 8) n) 8) 0 → acts chain s slot (add_to 2 (field q 48 8) n) Add ≡ Went (put (space.Slot q) 48 (spelled 8 (sum_of (request_of slot (add_to 2 (field q 48 8) n)) old)) ∷ put (space.Scratch 2) 0 (spelled 8 old) ∷ []) []
  unfolding acts
  wait_acts old e = rw e refl

  pub enable_acts : (old : ℕ) → old ≡ word (remote_bytes s slot (add_to 3 (field q 48 8) n) 8) 0 → acts chain s slot (add_to 3 (field q 48 8) n) Add ≡ Went (put (space.Slot q) 48 (spelled 8 (sum_of (request_of slot (add_to 3 (field q 48 8) n)) old)) ∷ put (space.Scratch 3) 0 (spelled 8 old) ∷ []) []
  unfolding acts
  enable_acts old e = rw e refl

module _ (chain : ℕ) (s : Bytes) (slot : List ℕ) (ring : ℕ) (r : Ring) where
  pub descriptor_acts : acts chain s slot (raise_descriptor ring r) Add ≡ Went (put (space.Descriptor ring) 8 (spelled 8 ((word (bytes_at (s (space.Descriptor ring)) 8 8) 0 + first_in slot) % 2 ^ 64)) ∷ put (space.Scratch 3) 0 (spelled 8 (word (bytes_at (s (space.Descriptor ring)) 8 8) 0)) ∷ []) []
  unfolding acts
  descriptor_acts = refl

module _ (v : View) (s : Bytes) (at : SlotRef) (a : Draft) (us : List Put) (goes : step v at a s ≡ Went us []) where
  pub one_goes : runs v at (a ∷ []) s ≡ Went (us ++ []) []
  one_goes = ap (λ (o : Outcome). follow o (λ (ws : List Put). runs v (next_slot at) [] (placed s ws))) goes

  pub two_go : (b : Draft) (vs : List Put) → step v (next_slot at) b (placed s us) ≡ Went vs [] → runs v at (a ∷ b ∷ []) s ≡ Went (us ++ (vs ++ [])) []
  two_go b vs more =
      ap (λ (o : Outcome). follow o (λ (ws : List Put). runs v (next_slot at) (b ∷ []) (placed s ws))) goes ∙ ap (λ (o : Outcome). after us [] (follow o (λ (ws : List Put). runs v (next_slot (next_slot at)) [] (placed (placed s us) ws)))) more

module _ (g : Rings) (are : AreRings g) (ring domain base : ℕ) (is_ring : g.is_ring ring ≡ true) where
  abbrev its : List (List Draft)
  its = g.segments ring

  abbrev r : Ring
  r = ring_of its ring domain base

  abbrev some : 2 ≤ length its
  some = (are ring is_ring).some

  abbrev lap_slot : ℕ → ℕ → SlotRef
  lap_slot = laps.lap_slot g ring domain base

  abbrev IsLap : ℕ → ℕ → Draft → Type 0
  IsLap = laps.IsLap g ring domain base

  abbrev LapsStand : Bytes → Type 0
  LapsStand = laps.LapsStand g ring domain base

  -- where lap requests of segment j write
  pub data IsGone (j : ℕ) (p : Space) : Type 0 where
    Word : is_lapping p ≡ true → IsGone j p
    Own : j ≡ 0 → p ≡ space.Descriptor ring → IsGone j p
    Gate : (i w : ℕ) → IsGap its some i w → first_of its (suc i) ≤ w + 2 → p ≡ space.Slot (slot_of ring w) → IsGone j p

  abbrev pub AllGone : ℕ → List Put → Type 0
  AllGone j [] = Unit {0}
  AllGone j (u ∷ us) = IsGone j u.space × AllGone j us

  wait_gap : (j : ℕ) → j < length its → 3 ≤ slots_added its j → IsGap its some j (wait_of ring r j)
  wait_gap j inside gates =
      let up = first_le its (suc j) (length its) inside in
      record { inside = inside; low = omega (arith, gates); high = omega (arith, gates); not_last = λ e. omega (arith, gates, up) }

  enable_gap : (j : ℕ) → suc j < length its → IsGap its some j (enable_of ring r j)
  enable_gap j l =
      let gates = gated_below its j l in
      let up = first_le its (suc (suc j)) (length its) l in
      record {
        inside = omega arith;
        low = omega (arith, gates);
        high = omega (arith, gates);
        not_last = λ e. let more = gated_all its (suc j) e in omega (arith, gates, up, more);
      }

  -- puts elsewhere
  pub misses_all : (j : ℕ) (us : List Put) (s : Bytes) (p : Space) → AllGone j us → ((q : Space) → IsGone j q → same_space q p ≡ false) → placed s us p ≡ s p
  misses_all j [] s p h miss = refl
  misses_all j (u ∷ us) s p h miss = let other = miss u.space h.0 in misses_all j us (with_put s u) p h.1 miss ∙ (rw other refl)

  -- a space under its new name, but the own descriptor as segment 0 raises it
  gone_misses : (j : ℕ) (p q : Space) → IsGone j p → is_lapping q ≡ false → (j ≡ 0 → q ≢ space.Descriptor ring) → same_space p (renamed_space (in_laps g) q) ≡ false
  gone_misses j p q gone plain own = false_from (same_space p (renamed_space (in_laps g) q)) (λ e. by_gone gone q plain own (same_space_is p (renamed_space (in_laps g) q) e))
    where
      false_from : (b : Bool) → (b ≡ true → ⊥) → b ≡ false
      false_from true h = absurd (h refl)
      false_from false h = refl

      lapping_renamed : (q : Space) → is_lapping (renamed_space (in_laps g) q) ≡ is_lapping q
      lapping_renamed (space.Slot q) = refl
      lapping_renamed _ = refl

      named_descriptor : (q : Space) → renamed_space (in_laps g) q ≡ space.Descriptor ring → q ≡ space.Descriptor ring
      named_descriptor (space.Slot q) e = absurd (cc)
      named_descriptor _ e = e

      no_slot : (q : Space) (i w : ℕ) → IsGap its some i w → renamed_space (in_laps g) q ≡ space.Slot (slot_of ring w) → ⊥
      no_slot (space.Slot q) i w gap e =
          let same : in_laps g q ≡ slot_of ring w = cc in
          true≢false (sym (same_refl (slot_of ring w)) ∙ (ap (λ (x : SlotRef). same_slot x (slot_of ring w)) (sym same) ∙ names_miss g are ring is_ring q i w gap))
        where
          same_refl : (x : SlotRef) → same_slot x x ≡ true
          same_refl x = rw (eq-eqb x.ring x.ring refl, eq-eqb x.slot x.slot refl) refl
      no_slot (space.Cell c) i w gap e = absurd (cc)
      no_slot _ i w gap e = absurd (cc)

      by_gone : IsGone j p → (q : Space) → is_lapping q ≡ false → (j ≡ 0 → q ≢ space.Descriptor ring) → p ≡ renamed_space (in_laps g) q → ⊥
      by_gone (Word w) q plain own e = true≢false (sym w ∙ (ap is_lapping e ∙ (lapping_renamed q ∙ plain)))
      by_gone (Own z is) q plain own e = own z (named_descriptor q (sym e ∙ is))
      by_gone (Gate i w gap gate is) q plain own e = no_slot q i w gap (sym e ∙ is)

  -- what lap requests put leaves all but the own descriptor
  pub stays_renamed : (j : ℕ) (us : List Put) (s : Bytes) (q : Space) → AllGone j us → is_lapping q ≡ false → (j ≡ 0 → q ≢ space.Descriptor ring) → placed s us (renamed_space (in_laps g) q) ≡ s (renamed_space (in_laps g) q)
  stays_renamed j us s q h plain own = misses_all j us s (renamed_space (in_laps g) q) h (λ p gone. gone_misses j p q gone plain own)

  -- a lap request stands before the gates of its segment
  pub lap_room : (j k : ℕ) (d : Draft) → j < length its → IsLap j k d → first_of its j + (length (segment_at its j) + k) + 3 ≤ first_of its (suc j)
  lap_room j k d inside lap =
      let added = added_is its ring domain base j some in
      let below = slice_get_within (lap_requests ring r j) k d lap in
      omega (arith, added, below, gates_two j k d inside lap)
    where
      gates_two : (j k : ℕ) (d : Draft) → j < length its → IsLap j k d → 2 ≤ gates_of ring r j
      gates_two zero k d inside lap = let more : (1 == length its) ≡ false = ne_eqb 1 (length its) (λ e. omega (arith, some)) in by_sends (sends_last its) more
        where
          by_sends : (b : Bool) → (1 == length its) ≡ false → 2 ≤ cond (b && (1 == length its)) 0 2
          by_sends true more = rw more (omega arith)
          by_sends false more = omega arith
      gates_two (suc j) k d inside lap = by_last (is_send_last ring r (suc j)) lap
        where
          by_last : (b : Bool) → slice_get (cond b [] (raise_wait ring r j ∷ raise_enable ring r j ∷ [])) k ≡ Some d → 2 ≤ cond b 0 2
          by_last true lap = absurd (cc)
          by_last false lap = omega arith

  lap_apart : (j i k w : ℕ) (d : Draft) → j < length its → IsLap j k d → IsGap its some i w → first_of its (suc i) ≤ w + 2 → first_of its j + (length (segment_at its j) + k) ≢ w
  lap_apart j i k w d inside lap gap gate e =
      let room = lap_room j k d inside lap in
      let high = gap.high in
      let low = gap.low in
      elim (cases_lt i j) [
        | inl before ↦ let up = first_le its (suc i) j before in omega (arith, e, high, up)
        | inr not_before ↦
            elim (cases_lt j i) [
              | inl behind ↦ let up = first_le its (suc j) i behind in omega (arith, e, low, up, room)
              | inr not_behind ↦
                  let same : i ≡ j = omega (arith, not_before, not_behind) in
                  let here : first_of its (suc i) ≡ first_of its (suc j) = ap (λ (n : ℕ). first_of its (suc n)) same in
                  omega (arith, e, gate, here, room)
            ]
      ]

  gone_laps : (j : ℕ) (p : Space) (i k : ℕ) (d : Draft) → i < length its → IsLap i k d → IsGone j p → same_space p (space.Slot (lap_slot i k)) ≡ false
  gone_laps j p i k d inside lap (Word w) = words p w
    where
      words : (p : Space) → is_lapping p ≡ true → same_space p (space.Slot (lap_slot i k)) ≡ false
      words (space.Slot q) w = absurd (true≢false (sym w))
      words _ w = refl
  gone_laps j p i k d inside lap (Own z is) = ap (λ (x : Space). same_space x (space.Slot (lap_slot i k))) is
  gone_laps j p i k d inside lap (Gate n w gap gate is) =
      let other = ne_eqb w (first_of its i + (length (segment_at its i) + k)) (λ e. lap_apart i n k w d inside lap gap gate (sym e)) in
      ap (λ (x : Space). same_space x (space.Slot (lap_slot i k))) is ∙ (ap (λ (b : Bool). (ring == ring) && b) other ∙ and_none (ring == ring))
    where
      and_none : (b : Bool) → b && false ≡ false
      and_none true = refl
      and_none false = refl

  pub laps_stay : (j : ℕ) (us : List Put) (s : Bytes) → AllGone j us → LapsStand s → LapsStand (placed s us)
  laps_stay j us s h stand =
      record {
        adds = λ i k d inside lap. ap opcode_in (misses_all j us s (space.Slot (lap_slot i k)) h (λ q gone. gone_laps j q i k d inside lap gone)) ∙ stand.adds i k d inside lap;
        by = λ i k d inside lap. ap first_in (misses_all j us s (space.Slot (lap_slot i k)) h (λ q gone. gone_laps j q i k d inside lap gone)) ∙ stand.by i k d inside lap;
      }

  gone_both : (j : ℕ) (us vs : List Put) → AllGone j us → AllGone j vs → AllGone j (us ++ vs)
  gone_both j [] vs h k = k
  gone_both j (u ∷ us) vs h k = (h.0, gone_both j us vs h.1 k)

  -- the run of a segment's lap requests
  module _ (v : View) where
    pub record Raising (j : ℕ) (s : Bytes) : Type 0 where
      pub puts : List Put
      pub goes : runs v (lap_slot j 0) (lap_requests ring r j) s ≡ Went puts []
      pub gone : AllGone j puts
      pub raised : j ≡ 0 → placed s puts (space.Descriptor ring) ≡ raised_by (slots_in_laps its) (s (space.Descriptor ring))

    step_adds : (at : SlotRef) (d : Draft) (s : Bytes) → opcode_in (s (space.Slot at)) ≡ Add → step v at d s ≡ acts v.number (seeing (v.tables at) s) (s (space.Slot at)) d Add
    step_adds at d s e = ap (acts v.number (seeing (v.tables at) s) (s (space.Slot at)) d) e

    next_lap : (j : ℕ) → lap_slot j 1 ≡ next_slot (lap_slot j 0)
    next_lap j = ap (slot_of ring) (omega arith)

    -- what one request puts
    record Raised (j : ℕ) (at : SlotRef) (d : Draft) (s : Bytes) : Type 0 where
      puts : List Put
      goes : step v at d s ≡ Went puts []
      gone : AllGone j puts

    raises_wait : (j i : ℕ) (at : SlotRef) (s : Bytes) → i < length its → 3 ≤ slots_added its i → opcode_in (s (space.Slot at)) ≡ Add → Raised j at (raise_wait ring r i) s
    raises_wait j i at s inside gates e =
        let up = gates in
        record {
          puts = _;
          goes = step_adds at (raise_wait ring r i) s e ∙ wait_acts v.number (seeing (v.tables at) s) (s (space.Slot at)) (slot_of ring (wait_of ring r i)) r.segments _ refl;
          gone = (Gate i (wait_of ring r i) (wait_gap i inside gates) (omega arith) refl, (Word refl, tt));
        }

    raises_enable : (j i : ℕ) (at : SlotRef) (s : Bytes) → suc i < length its → opcode_in (s (space.Slot at)) ≡ Add → Raised j at (raise_enable ring r i) s
    raises_enable j i at s inside e =
        record {
          puts = _;
          goes = step_adds at (raise_enable ring r i) s e ∙ enable_acts v.number (seeing (v.tables at) s) (s (space.Slot at)) (slot_of ring (enable_of ring r i)) r.row.slots _ refl;
          gone = (Gate i (enable_of ring r i) (enable_gap i inside) (omega arith) refl, (Word refl, tt));
        }

    -- the own descriptor's request
    record Opens (at : SlotRef) (s : Bytes) : Type 0 where
      own : Raised 0 at (raise_descriptor ring r) s
      raised : placed s own.puts (space.Descriptor ring) ≡ raised_by (slots_in_laps its) (s (space.Descriptor ring))

    opens : (at : SlotRef) (s : Bytes) → opcode_in (s (space.Slot at)) ≡ Add → first_in (s (space.Slot at)) ≡ slots_in_laps its → Opens at s
    opens at s e by =
        record {
          own =
              record {
                puts = _;
                goes = step_adds at (raise_descriptor ring r) s e ∙ descriptor_acts v.number (seeing (v.tables at) s) (s (space.Slot at)) ring r;
                gone = (Own refl refl, (Word refl, tt));
              };
          raised =
              let same : (ring == ring) ≡ true = eq-eqb ring ring refl in
              let old : ℕ = word (bytes_at (s (space.Descriptor ring)) 8 8) 0 in
              ap (λ (b : Bool). cond b (with_bytes_at (s (space.Descriptor ring)) 8 (spelled 8 ((old + first_in (s (space.Slot at))) % 2 ^ 64))) (s (space.Descriptor ring))) same ∙ ap (λ (n : ℕ). with_bytes_at (s (space.Descriptor ring)) 8 (spelled 8 ((old + n) % 2 ^ 64))) by;
        }

    runs_nothing : (at : SlotRef) (s : Bytes) (l : List Draft) → l ≡ [] → runs v at l s ≡ Went [] []
    runs_nothing at s l e = ap (λ (ds : List Draft). runs v at ds s) e

    module _ (s : Bytes) (stand : LapsStand s) where
      lap_add : (j k : ℕ) (d : Draft) (at : SlotRef) → j < length its → IsLap j k d → at ≡ lap_slot j k → opcode_in (s (space.Slot at)) ≡ Add
      lap_add j k d at inside lap e = ap (λ (q : SlotRef). opcode_in (s (space.Slot q))) e ∙ stand.adds j k d inside lap

      one_raises : sends_last its ≡ true → Raising 0 s
      one_raises sends =
          let these = one_request ring r sends in
          let first : IsLap 0 0 (raise_descriptor ring r) = ap (λ (l : List Draft). slice_get l 0) these in
          let inside : 0 < length its = omega (arith, some) in
          let o = opens (lap_slot 0 0) s (lap_add 0 0 (raise_descriptor ring r) (lap_slot 0 0) inside first refl) (stand.by 0 0 (raise_descriptor ring r) inside first) in
          record {
            puts = o.own.puts ++ [];
            goes = ap (λ (l : List Draft). runs v (lap_slot 0 0) l s) these ∙ one_goes v s (lap_slot 0 0) (raise_descriptor ring r) o.own.puts o.own.goes;
            gone = gone_both 0 o.own.puts [] o.own.gone tt;
            raised = λ z. ap (λ (us : List Put). placed s us (space.Descriptor ring)) (append-nil o.own.puts) ∙ o.raised;
          }

    module _ (s : Bytes) (stand : LapsStand s) (j : ℕ) (a b : Draft) (these : lap_requests ring r j ≡ a ∷ b ∷ []) (inside : j < length its) where
      first_lap : IsLap j 0 a
      first_lap = ap (λ (l : List Draft). slice_get l 0) these

      second_lap : IsLap j 1 b
      second_lap = ap (λ (l : List Draft). slice_get l 1) these

      first_adds : opcode_in (s (space.Slot (lap_slot j 0))) ≡ Add
      first_adds = stand.adds j 0 a inside first_lap

      module _ (x : Raised j (lap_slot j 0) a s) where
        abbrev middle : Bytes
        middle = placed s x.puts

        stood : LapsStand middle
        stood = laps_stay j x.puts s x.gone stand

        second_adds : opcode_in (middle (space.Slot (next_slot (lap_slot j 0)))) ≡ Add
        second_adds = lap_add middle stood j 1 b (next_slot (lap_slot j 0)) inside second_lap (sym (next_lap j))

        second_by : first_in (middle (space.Slot (next_slot (lap_slot j 0)))) ≡ b.first
        second_by = ap (λ (q : SlotRef). first_in (middle (space.Slot q))) (sym (next_lap j)) ∙ stood.by j 1 b inside second_lap

        two_raise : (y : Raised j (next_slot (lap_slot j 0)) b middle) → (j ≡ 0 → placed middle y.puts (space.Descriptor ring) ≡ raised_by (slots_in_laps its) (s (space.Descriptor ring))) → Raising j s
        two_raise y raised =
            record {
              puts = x.puts ++ (y.puts ++ []);
              goes = ap (λ (l : List Draft). runs v (lap_slot j 0) l s) these ∙ two_go v s (lap_slot j 0) a x.puts x.goes b y.puts y.goes;
              gone = gone_both j x.puts (y.puts ++ []) x.gone (gone_both j y.puts [] y.gone tt);
              raised = λ z. ap (λ (t : Bytes). t (space.Descriptor ring)) (placed_append x.puts (y.puts ++ []) s) ∙ (ap (λ (us : List Put). placed middle us (space.Descriptor ring)) (append-nil y.puts) ∙ raised z);
            }

    pub laps_raise : (j : ℕ) (s : Bytes) → j < length its → LapsStand s → Raising j s
    unfolding raises_wait
    laps_raise zero s inside stand = by_sends (sends_last its) refl
      where
        by_sends : (b : Bool) → sends_last its ≡ b → Raising 0 s
        by_sends true sends = one_raises s stand sends
        by_sends false none =
            let these = first_requests ring r none in
            let last : length its - 1 < length its = omega (arith, some) in
            let x = raises_wait 0 (length its - 1) (lap_slot 0 0) s last (gated_all its (length its - 1) none) (first_adds s stand 0 (raise_wait ring r (length its - 1)) (raise_descriptor ring r) these inside) in
            let o = opens (next_slot (lap_slot 0 0)) (placed s x.puts) (second_adds s stand 0 (raise_wait ring r (length its - 1)) (raise_descriptor ring r) these inside x) (second_by s stand 0 (raise_wait ring r (length its - 1)) (raise_descriptor ring r) these inside x) in
            two_raise s stand 0 (raise_wait ring r (length its - 1)) (raise_descriptor ring r) these inside x o.own (λ z. o.raised)
    laps_raise (suc j) s inside stand = by_last (is_send_last ring r (suc j)) refl
      where
        by_last : (b : Bool) → is_send_last ring r (suc j) ≡ b → Raising (suc j) s
        by_last true last =
            record {
              puts = [];
              goes = runs_nothing (lap_slot (suc j) 0) s (lap_requests ring r (suc j)) (no_requests ring r (suc j) (omega arith) last);
              gone = tt;
              raised = λ z. absurd (omega (arith, z));
            }
        by_last false more =
            let these = ap (λ (b : Bool). cond b [] (raise_wait ring r j ∷ raise_enable ring r j ∷ [])) more in
            let x = raises_wait (suc j) j (lap_slot (suc j) 0) s (omega (arith, inside)) (gated_below its j inside) (first_adds s stand (suc j) (raise_wait ring r j) (raise_enable ring r j) these inside) in
            let y = raises_enable (suc j) j (next_slot (lap_slot (suc j) 0)) (placed s x.puts) inside (second_adds s stand (suc j) (raise_wait ring r j) (raise_enable ring r j) these inside x) in
            two_raise s stand (suc j) (raise_wait ring r j) (raise_enable ring r j) these inside x y (λ z. absurd (omega (arith, z)))
