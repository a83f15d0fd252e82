-- A block's parts, one after the other: each does what is left of it to do.
use Rattle.std.proofs.Common.{◌≡◌, ℕ, suc, ◌+◌, ◌<◌, false, List, [], ◌∷◌, ◌++◌, length, None, refl, sym, ap, ◌∙◌, subst, arith}
use Rattle.std.specs.Prelude.{slice_get}
use Rattle.std.specs.List.{All}
use Rattle.std.proofs.lemmas.List.{append-nil}
use Rattle.std.proofs.lemmas.List.Elements.{All-head, All-tail}
use Rattle.std.proofs.lemmas.Option.{slice_get_past}
use Rattle.std.proofs.lemmas.Bool.{true≢false, or_parts as neither}
use Rattle.redn_words.specs.declared.types.Obs.{Obs}
use Rattle.redn_words.specs.Words.{bytes_at}
use Rattle.redn_graph.specs.declared.types.Instr.{Instr}
use Rattle.redn_graph.specs.declared.types.End.{End}
use Rattle.redn_graph.specs.declared.types.End.TheVariants.{Reply}
use Rattle.redn_graph.specs.Fits.{FitsInstr}
use Rattle.redn_graph.specs.Run.{GraphState, in_hand}
use Rattle.redn_segment.specs.declared.types.SlotRef.{SlotRef}
use Rattle.redn_segment.specs.declared.types.Draft.{Draft}
use Rattle.redn_segment.specs.declared.types.Space.TheVariants as space
use Rattle.redn_segment.specs.Building.{drafts_of}
use Rattle.redn_segment.specs.Plain.{Bytes, Put, placed, Outcome, Went, Faults, Bad, runs}
use Rattle.redn_segment.specs.Primed.{Primed, IsWhole, writes_slot}
use Rattle.redn_segment.specs.Effects.{Effect, Leaves, Stops, Meets, IsLeft, is_own, slot_behind}
use Rattle.redn_segment.specs.Parts.{IsPart, LeavesWhole}
use Rattle.redn_segment.proofs.Composing.{not_owns, ends_long, writes_both}
use Rattle.redn_segment.proofs.Growing.{drafts_append}
use Rattle.redn_block.specs.Blocks.{ring_of, instr_part, end_part, part_segments, part_effect, part_size, HasTarget, InstrWords}
use Rattle.redn_block.specs.Matches.{IsAt, IsOver, Onward, Ended}
use Rattle.redn_block.proofs.Cells.{same_cells}
use Rattle.redn_block.proofs.Instrs.{After, instr_follows}
use Rattle.redn_block.proofs.Ends.{AfterEnd, last_slot, end_follows}
use Rattle.redn_block.proofs.Parts.{effect_of, segments_of, slots_more, instr_is, end_is, block_is}
use Rattle.redn_block.proofs.Whole.{last_of, last_is}
use Rattle.redn_proof_block.specs.Left.{Rest, LeftBy, IsLeftOf}
use Rattle.redn_proof_block.specs.Parts.{Round, IsRound, drafts, begins, last, Stands, AtPart, GoesOn, EndsAs, AtEnd}
use Rattle.redn_proof_block.proofs.Onward.{Keeps, instr_keeps, end_keeps, LeadsTo, end_leads}
use Rattle.redn_proof_block.proofs.Standing.{primed_second, primed_both, primed_kept, whole_left}

module _ (most : ℕ) (r : Round) (is_round : IsRound most r) where
  abbrev end : End
  end = r.block.end

  abbrev rest_drafts : SlotRef → List Instr → List Draft
  rest_drafts at is = drafts_of (segments_of r.first at is end)

  -- what is still to come of the block, from a slot and a place on
  pub record IsSuffix (at : SlotRef) (place : ℕ) (is : List Instr) : Type 0 where
    pub its : (j : ℕ) → slice_get r.block.instrs (place + j) ≡ slice_get is j
    pub many : length r.block.instrs ≡ place + length is
    pub fits : All (FitsInstr r.things) is
    pub small : All InstrWords is
    pub targets : All HasTarget is
    pub primed : (s : Bytes) → Primed (drafts r) (begins r) (drafts r) s → Primed (rest_drafts at is) at (rest_drafts at is) s
    pub written : (q : SlotRef) (i : ℕ) → writes_slot (drafts r) q i ≡ false → writes_slot (rest_drafts at is) q i ≡ false
    pub last_there : last_of at is end ≡ last r

  pub suffix_first : IsSuffix (begins r) 0 r.block.instrs
  suffix_first =
      record {
        its = λ j. ap (slice_get r.block.instrs) (let e : 0 + j ≡ j = omega arith in e);
        many = omega arith;
        fits = is_round.fits.instrs_fit;
        small = is_round.small.instrs;
        targets = is_round.targets.instrs;
        primed = λ s p. p;
        written = λ q i h. h;
        last_there = last_is most r.first r.block.instrs end (begins r) is_round.targets.end;
      }

  module _ (at : SlotRef) (place : ℕ) (i : Instr) (is : List Instr) (h : IsSuffix at place (i ∷ is)) where
    abbrev ds : List Draft
    ds = drafts_of (part_segments at (instr_part i))

    abbrev next : SlotRef
    next = slot_behind at (part_size at (instr_part i))

    pub its_part : IsPart at ds 0 (part_effect at (instr_part i))
    its_part = instr_is i (All-head HasTarget i is h.targets) at

    rest_part : IsPart next (rest_drafts next is) (slots_more end) (effect_of r.first next is end)
    rest_part = block_is most r.first is end (All-tail HasTarget i is h.targets) is_round.targets.end next

    both_are : rest_drafts at (i ∷ is) ≡ ds ++ rest_drafts next is
    both_are = drafts_append (part_segments at (instr_part i)) (segments_of r.first next is end)

    both_primed : (s : Bytes) → Primed (drafts r) (begins r) (drafts r) s → Primed (ds ++ rest_drafts next is) at (ds ++ rest_drafts next is) s
    both_primed s p = subst (λ (l : List Draft). Primed l at l s) both_are (h.primed s p)

    pub own_primed : (s : Bytes) → Primed (drafts r) (begins r) (drafts r) s → Primed ds at ds s
    own_primed s p = primed_both at ds (rest_drafts next is) (slots_more end) (part_effect at (instr_part i)) (effect_of r.first next is end) its_part rest_part s (both_primed s p)

    both_written : (q : SlotRef) (k : ℕ) → writes_slot (drafts r) q k ≡ false → (writes_slot ds q k ≡ false) × (writes_slot (rest_drafts next is) q k ≡ false)
    both_written q k e = neither (writes_slot ds q k) (writes_slot (rest_drafts next is) q k) (sym (writes_both ds (rest_drafts next is) q k) ∙ (ap (λ (l : List Draft). writes_slot l q k) (sym both_are) ∙ h.written q k e))

    pub suffix_next : IsSuffix next (suc place) is
    suffix_next =
        record {
          its = λ j. ap (slice_get r.block.instrs) (let e : suc place + j ≡ place + suc j = omega arith in e) ∙ h.its (suc j);
          many = let m = h.many in omega arith;
          fits = All-tail (FitsInstr r.things) i is h.fits;
          small = All-tail InstrWords i is h.small;
          targets = All-tail HasTarget i is h.targets;
          primed = λ s p. primed_second at ds (rest_drafts next is) (slots_more end) (part_effect at (instr_part i)) (effect_of r.first next is end) its_part rest_part s (both_primed s p);
          written = λ q k e. (both_written q k e).1;
          last_there = h.last_there;
        }

    -- what stands after the part
    stands_after : (b s : Bytes) (us : List Put) (t : Bytes) → IsLeft at ds s us (is_own at (length ds)) t → IsWhole t → ((ring : ℕ) → t (space.Descriptor ring) ≡ s (space.Descriptor ring)) → Stands r b s → Stands r b (placed s us)
    stands_after b s us t left whole keeps stood =
        record {
          whole = whole_left at (length ds) ds s us t left whole;
          room = left.room;
          primed = primed_kept (drafts r) (drafts r) (begins r) s (placed s us) (λ q long. let same = left.slots q long in (same.0, λ k e. same.1 k (both_written q k e).0)) stood.primed;
          descriptors = λ ring. left.spaces (space.Descriptor ring) refl ∙ (keeps ring ∙ stood.descriptors ring);
        }

    -- an instruction does what it has to do, whatever the tables are
    pub instr_left : (b : Bytes) (x : GraphState) (t : Bytes) → AtPart r b place x t → IsLeftOf r.course (AtPart r b (suc place)) false x at ds t
    instr_left b x t here view number sees =
        left_by (runs view at ds t) (part_effect at (instr_part i) view t) (its_part.does view sees t here.stands.whole here.stands.room (own_primed t here.stands.primed)) (its_part.tame.whole view sees t here.stands.whole)
        (instr_follows r.course.number r.course.mail r.course.graph r.things r.number place r.block is_round.there x here.is_at view number t here.stands.whole here.same at i (ap (slice_get r.block.instrs)
        (let e : place ≡ place + 0 = omega arith in e) ∙ h.its 0) (All-head (FitsInstr r.things) i is h.fits) (All-head InstrWords i is h.small)) (instr_keeps i at view t)
      where
        left_by : (o : Outcome) (one : Effect) → Meets at ds t o one → LeavesWhole one → After r.course.number r.course.mail r.course.graph r.things r.number place r.block is_round.there x here.is_at t one → Keeps t one →
            LeftBy r.course (AtPart r b (suc place)) false x t o
        left_by (Went us shown) (Leaves u events) m whole k keeps = (
          k.0,
          subst (λ (l : List Obs). Rest r.course false x l k.0) (sym m.0) k.1,
          record {
            is_at = k.3;
            same = same_cells r.things (in_hand r.course.mail k.0) k.0.cells u (placed t us) (λ a. m.1.spaces (space.Cell a) refl) k.2;
            stands = stands_after b t us u m.1 whole keeps here.stands;
          },
        )
        left_by (Faults us shown) (Stops u events) m whole k keeps = (k.0, subst (λ (l : List Obs). Rest r.course false x l k.0) (sym m.0) k.1, k.2)
        left_by (Went us shown) (Stops u events) m whole k keeps = absurd m
        left_by (Faults us shown) (Leaves u events) m whole k keeps = absurd m
        left_by Bad one m whole k keeps = absurd m

  module _ (at : SlotRef) (place : ℕ) (h : IsSuffix at place []) where
    abbrev es : List Draft
    es = drafts_of (part_segments at (end_part r.first end))

    last_part : IsPart at es (slots_more end) (part_effect at (end_part r.first end))
    last_part = end_is most r.first end is_round.targets.end at

    last_are : rest_drafts at [] ≡ es
    last_are = ap drafts_of (append-nil (part_segments at (end_part r.first end)))

    pub last_primed : (s : Bytes) → Primed (drafts r) (begins r) (drafts r) s → Primed es at es s
    last_primed s p = subst (λ (l : List Draft). Primed l at l s) last_are (h.primed s p)

    last_written : (q : SlotRef) (k : ℕ) → writes_slot (drafts r) q k ≡ false → writes_slot es q k ≡ false
    last_written q k e = ap (λ (l : List Draft). writes_slot l q k) (sym last_are) ∙ h.written q k e

    last_stands : (b s : Bytes) (us : List Put) (t : Bytes) → IsLeft at es s us (is_own at (length es)) t → IsWhole t → ((ring : ℕ) → t (space.Descriptor ring) ≡ s (space.Descriptor ring)) → Stands r b s → Stands r b (placed s us)
    last_stands b s us t left whole keeps stood =
        record {
          whole = whole_left at (length es) es s us t left whole;
          room = left.room;
          primed = primed_kept (drafts r) (drafts r) (begins r) s (placed s us) (λ q long. let same = left.slots q long in (same.0, λ k e. same.1 k (last_written q k e))) stood.primed;
          descriptors = λ ring. left.spaces (space.Descriptor ring) refl ∙ (keeps ring ∙ stood.descriptors ring);
        }

    -- the last ENABLE is behind all drafts
    place_of_last : last_slot at end ≡ slot_behind at (length es)
    place_of_last = last_is most r.first [] end at is_round.targets.end ∙ ap (λ (l : List Draft). slot_behind at (length l)) last_are

    free : is_own at (length es) (space.Slot (last r)) ≡ false
    free =
        subst (λ (q : SlotRef). is_own at (length es) (space.Slot q) ≡ false) (sym place_of_last ∙ h.last_there) (not_owns at (length es) (slot_behind at (length es)) (λ lies. let high = lies.2 in omega arith))

    -- an end that hasn't ended its chain goes on
    goes_there : (b s t u : Bytes) (z : GraphState) → u (space.Slot (last r)) ≡ t (space.Slot (last r)) → ((ring : ℕ) → s (space.Descriptor ring) ≡ b (space.Descriptor ring)) → z.ended ≡ false → z.block < r.things.blocks → IsOver r.first (last r) s z t → GoesOn r b z u
    goes_there b s t u z e kept runs inside (Onward k at_k chooses) =
        record {
          inside = inside;
          is_at = record { block_is = refl; place_is = at_k.place_is; taking_not = at_k.taking_not; runs_on = at_k.runs_on };
          chooses = ap (λ (l : List ℕ). bytes_at l 40 16) e ∙ (chooses ∙ kept (ring_of r.first z.block));
        }
    goes_there b s t u z e kept runs inside (Ended ended) = absurd (true≢false (sym ended ∙ runs))

    over_there : (e : End) (b s t u : Bytes) (z : GraphState) → u (space.Slot (last r)) ≡ t (space.Slot (last r)) → ((ring : ℕ) → s (space.Descriptor ring) ≡ b (space.Descriptor ring)) → LeadsTo r.things e z → IsOver r.first (last r) s z t → EndsAs r e b z u
    over_there (Reply words) b s t u z e kept leads over = leads
    over_there _ b s t u z e kept leads over = goes_there b s t u z e kept leads.0 leads.1 over

    -- and so does the end
    pub end_left : (b : Bytes) (x : GraphState) (t : Bytes) → AtPart r b place x t → IsLeftOf r.course (AtEnd r b) false x at es t
    end_left b x t here view number sees =
        let many = h.many in
        let place_is : place ≡ length r.block.instrs = omega arith in
        let at_end : IsAt r.number (length r.block.instrs) x = subst (λ (k : ℕ). IsAt r.number k x) place_is here.is_at in
        let behind : slice_get r.block.instrs (length r.block.instrs) ≡ None = slice_get_past r.block.instrs (length r.block.instrs) (omega arith) in
        let long : length (t (space.Slot (last_slot at end))) ≡ 64 = subst (λ (q : SlotRef). length (t (space.Slot q)) ≡ 64) (sym place_of_last) (ends_long es es at t (last_primed t here.stands.primed)) in
        left_by at_end behind (runs view at es t) (part_effect at (end_part r.first end) view t) refl (last_part.does view sees t here.stands.whole here.stands.room (last_primed t here.stands.primed))
        (last_part.tame.whole view sees t here.stands.whole)
        (end_follows r.course.number r.course.mail r.course.graph r.things r.first r.number r.block is_round.there x at_end behind view number t here.stands.whole here.same at end refl is_round.fits.end_fits is_round.small.end long)
        (end_keeps r.first end at view t)
      where
        left_by : (at_end : IsAt r.number (length r.block.instrs) x) (behind : slice_get r.block.instrs (length r.block.instrs) ≡ None) (o : Outcome) (one : Effect) → part_effect at (end_part r.first end) view t ≡ one →
            Meets at es t o one → LeavesWhole one → AfterEnd r.course.number r.course.mail r.course.graph r.things r.first r.number r.block is_round.there x at_end behind (last_slot at end) t one → Keeps t one → LeftBy r.course
            (AtEnd r b) false x t o
        left_by at_end behind (Went us shown) (Leaves u events) is m whole k keeps = (
          k.0,
          subst (λ (l : List Obs). Rest r.course false x l k.0) (sym m.0) k.1,
          record {
            same = same_cells r.things (in_hand r.course.mail k.0) k.0.cells u (placed t us) (λ a. m.1.spaces (space.Cell a) refl) k.2;
            over =
                over_there end b t u (placed t us) k.0 (m.1.spaces (space.Slot (last r)) free) here.stands.descriptors
                (end_leads r.course.number r.course.mail r.course.graph r.things r.first r.number r.block is_round.there x at_end behind view t here.same at end refl is_round.fits.end_fits is_round.small.end u events is k.0 k.1)
                (subst (λ (q : SlotRef). IsOver r.first q t k.0 u) h.last_there k.3);
            stands = last_stands b t us u m.1 whole keeps here.stands;
          },
        )
        left_by at_end behind (Faults us shown) (Stops u events) is m whole k keeps = (k.0, subst (λ (l : List Obs). Rest r.course false x l k.0) (sym m.0) k.1, k.2)
        left_by at_end behind (Went us shown) (Stops u events) is m whole k keeps = absurd m
        left_by at_end behind (Faults us shown) (Leaves u events) is m whole k keeps = absurd m
        left_by at_end behind Bad one is m whole k keeps = absurd m
