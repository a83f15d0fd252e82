-- A block's segments, one after the other: each leads from one stage of the graph to another.
use Rattle.std.proofs.Common.{◌≡◌, ℕ, suc, ◌<◌, Bool, true, false, List, [], ◌∷◌, ◌++◌, length, map, length-append, refl, sym, ap, ◌∙◌, subst, arith}
use Rattle.std.proofs.lemmas.Bool.{false≢true}
use Rattle.std.proofs.lemmas.List.{append-nil}
use Rattle.redn_kernel.specs.declared.types.Cell.TheVariants as cell
use Rattle.redn_graph.specs.declared.types.Instr.{Instr}
use Rattle.redn_graph.specs.declared.types.Instr.TheVariants.{Set, Add}
use Rattle.redn_graph.specs.declared.types.End.{End}
use Rattle.redn_graph.specs.declared.types.End.TheVariants.{Jump, Reply}
use Rattle.redn_graph.specs.Run.{GraphState, in_hand}
use Rattle.redn_segment.specs.declared.types.SlotRef.{SlotRef}
use Rattle.redn_segment.specs.declared.types.Space.{Space}
use Rattle.redn_segment.specs.declared.types.Space.TheVariants as space
use Rattle.redn_segment.specs.declared.types.Draft.{Draft}
use Rattle.redn_segment.specs.Sites.{next_slot}
use Rattle.redn_segment.specs.Building.{drafts_of}
use Rattle.redn_segment.specs.Plain.{Bytes, View, Put, placed, Outcome, Went, Faults, Bad, follow, seeing, step, acts, opcode_in, runs}
use Rattle.redn_segment.specs.Effects.{slot_behind}
use Rattle.redn_segment.proofs.Composing.{behind_none}
use Rattle.redn_segment.proofs.Growing.{behind_twice}
use Rattle.redn_proof_landing.specs.Segments.{is_table_space}
use Rattle.redn_proof_ring.specs.Turns.{HasBytes, tabled}
use Rattle.redn_proof_ring.specs.Runs.{own_view}
use Rattle.redn_proof_block.proofs.Alike.{Alike, alike_placed}
use Rattle.redn_block.specs.Blocks.{instr_part, end_part, part_segments, part_size}
use Rattle.redn_block.proofs.Parts.{segments_of}
use Rattle.redn_block.specs.Matches.{Same}
use Rattle.redn_proof_block.specs.Left.{Course, Falls, LeftBy, IsLeftOf}
use Rattle.redn_proof_block.specs.Parts.{Round, IsRound, is_last, Mark, marks_of, all_marks, segments, drafts, begins, marks, Stands, AtPart, GoesOn, EndsAs, AtEnd}
use Rattle.redn_proof_block.specs.Stages as stages
use Rattle.redn_proof_block.specs.Stages.{Ghost, Tells, Comes, Starts, Follows, SegmentsFollow}
use Rattle.redn_proof_block.proofs.Left.{left_silent, events_lead, left_events, left_faults, left_never_bad}
use Rattle.redn_proof_block.proofs.Standing.{primed_kept}
use Rattle.redn_proof_block.proofs.Course.{IsSuffix, suffix_first, suffix_next, instr_left, end_left}

-- all but the tables
abbrev pub Beside : Bytes → Bytes → Type 0
Beside = Alike is_table_space

pub beside_tabled : (t u : Bytes) → Beside (tabled t u) t
beside_tabled t u (space.Table k) e = absurd (cc)
beside_tabled t u _ e = refl

tabled_beside : (s t u : Bytes) → Beside s t → (p : Space) → tabled s u p ≡ tabled t u p
tabled_beside s t u h (space.Table k) = refl
tabled_beside s t u h (space.Slot q) = h (space.Slot q) refl
tabled_beside s t u h (space.Cell c) = h (space.Cell c) refl
tabled_beside s t u h space.Reply = h space.Reply refl
tabled_beside s t u h space.Key = h space.Key refl
tabled_beside s t u h (space.Scratch i) = h (space.Scratch i) refl
tabled_beside s t u h (space.Descriptor i) = h (space.Descriptor i) refl

-- runs see the tables of their view, and not those of their state
seeing_beside : (tables : ℕ → List ℕ) (s t : Bytes) → Beside s t → (p : Space) → seeing tables s p ≡ seeing tables t p
seeing_beside tables s t h (space.Table k) = refl
seeing_beside tables s t h (space.Slot q) = h (space.Slot q) refl
seeing_beside tables s t h (space.Cell c) = h (space.Cell c) refl
seeing_beside tables s t h space.Reply = h space.Reply refl
seeing_beside tables s t h space.Key = h space.Key refl
seeing_beside tables s t h (space.Scratch i) = h (space.Scratch i) refl
seeing_beside tables s t h (space.Descriptor i) = h (space.Descriptor i) refl

pub runs_beside : (v : View) (ds : List Draft) (at : SlotRef) (s t : Bytes) → Beside s t → runs v at ds s ≡ runs v at ds t
runs_beside v [] at s t h = refl
runs_beside v (d ∷ ds) at s t h =
    let one : step v at d s ≡ step v at d t = (λ i. acts v.number (λ p. seeing_beside (v.tables at) s t h p i) (h (space.Slot at) refl i) d (opcode_in (h (space.Slot at) refl i))) in
    ap (λ (o : Outcome). follow o (λ (us : List Put). runs v (next_slot at) ds (placed s us))) one ∙ ap (follow (step v at d t)) (λ i us. runs_beside v ds (next_slot at) (placed s us) (placed t us) (alike_placed is_table_space us s t h) i)

-- what is left, where other tables are
module _ (c : Course) where
  pub left_map : (Then Next : GraphState → Bytes → Type 0) → ((z : GraphState) (t : Bytes) → Then z t → Next z t) → (b : Bool) (x : GraphState) (at : SlotRef) (ds : List Draft) (t : Bytes) → IsLeftOf c Then b x at ds t → IsLeftOf c Next b x at ds t
  left_map Then Next f b x at ds t h view number sees = by_run (runs view at ds t) (h view number sees)
    where
      by_run : (o : Outcome) → LeftBy c Then b x t o → LeftBy c Next b x t o
      by_run (Went us l) k = (k.0, k.1, f k.0 (placed t us) k.2)
      by_run (Faults us l) k = k
      by_run Bad k = k

  pub left_beside : (Then : GraphState → Bytes → Type 0) → ((z : GraphState) (s t : Bytes) → Beside s t → Then z s → Then z t) → (b : Bool) (x : GraphState) (at : SlotRef) (ds : List Draft) (s t : Bytes) → Beside s t → IsLeftOf c Then b x at ds s → IsLeftOf c Then b x at ds t
  left_beside Then f b x at ds s t h left view number sees =
      subst (LeftBy c Then b x t) (runs_beside view ds at s t h) (by_run (runs view at ds s) (left view number sees))
    where
      by_run : (o : Outcome) → LeftBy c Then b x s o → LeftBy c Then b x t o
      by_run (Went us l) k = (k.0, k.1, f k.0 (placed s us) (placed t us) (alike_placed is_table_space us s t h) k.2)
      by_run _ k = k

abbrev no_tables : Bytes
no_tables p = []

no_bytes : HasBytes no_tables
no_bytes k i d small = let none : i < 0 = small in absurd (omega (arith, none))

-- a block that began with the state b
module _ (r : Round) (most : ℕ) (is_round : IsRound most r) (b : Bytes) where
  abbrev end : End
  end = r.block.end

  abbrev segments_from : SlotRef → List Instr → List (List Draft)
  segments_from at is = segments_of r.first at is end

  -- where each segment is, from a part on
  abbrev told_from : ℕ → SlotRef → List Instr → List Mark
  told_from place at is = all_marks place at (map instr_part is ++ end_part r.first end ∷ [])

  abbrev mark : ℕ → Bool → List (List Draft) → Mark
  mark place opens rest = record { place = place; opens = opens; closes = is_last rest }

  abbrev Later : ℕ → GraphState → Bytes → Type 0
  Later = stages.Later r b

  abbrev Done : GraphState → Bytes → Type 0
  Done = stages.Done r b

  later_beside : (place : ℕ) (z : GraphState) (s t : Bytes) → Beside s t → Later place z s → Later place z t
  later_beside place z s t h k u bytes = subst (AtPart r b place z) (λ i p. tabled_beside s t u h p i) (k u bytes)

  done_beside : (z : GraphState) (s t : Bytes) → Beside s t → Done z s → Done z t
  done_beside z s t h k u bytes = subst (AtEnd r b z) (λ i p. tabled_beside s t u h p i) (k u bytes)

  stands_tabled : (t u : Bytes) → HasBytes u → Stands r b t → Stands r b (tabled t u)
  stands_tabled t u bytes h =
      record {
        whole = record { cells = λ c. h.whole.cells c; numbers = λ n. h.whole.numbers n; descriptors = λ ring. h.whole.descriptors ring; tables = λ k. bytes k };
        room = record { reply = h.room.reply; key = h.room.key; scratch = λ i. h.room.scratch i };
        primed = primed_kept (drafts r) (drafts r) (begins r) t (tabled t u) (λ q long. (long, λ i e. refl)) h.primed;
        descriptors = λ ring. h.descriptors ring;
      }

  same_tabled : (z : GraphState) (t u : Bytes) → Same r.things (in_hand r.course.mail z) z.cells t → Same r.things (in_hand r.course.mail z) z.cells (tabled t u)
  same_tabled z t u h = record { many = h.many; cells = λ a is small. h.cells a is small }

  goes_tabled : (z : GraphState) (t u : Bytes) → GoesOn r b z t → GoesOn r b z (tabled t u)
  goes_tabled z t u h = record { inside = h.inside; is_at = h.is_at; chooses = h.chooses }

  over_tabled : (e : End) (z : GraphState) (t u : Bytes) → EndsAs r e b z t → EndsAs r e b z (tabled t u)
  over_tabled (Reply words) z t u h = h
  over_tabled _ z t u h = goes_tabled z t u h

  to_later : (place : ℕ) (z : GraphState) (t : Bytes) → AtPart r b place z t → Later place z t
  to_later place z t h u bytes = record { is_at = h.is_at; same = same_tabled z t u h.same; stands = stands_tabled t u bytes h.stands }

  to_done : (z : GraphState) (t : Bytes) → AtEnd r b z t → Done z t
  to_done z t h u bytes = record { same = same_tabled z t u h.same; over = over_tabled end z t u h.over; stands = stands_tabled t u bytes h.stands }

  -- before a segment of an instruction, or of the end; or behind the last one
  pub data Stage (at : SlotRef) (y : Ghost) (t : Bytes) (segs : List (List Draft)) (told : List Mark) : Type 0 where
    Within : (place : ℕ) (opens : Bool) → Starts r opens place y → (is : List Instr) (here : List Draft) (rest : List (List Draft)) (next : SlotRef) → next ≡ slot_behind at (length (drafts_of (here ∷ rest))) → IsSuffix most r is_round next (suc place) is → IsLeftOf r.course (Later (suc place)) y.ahead y.state at (drafts_of (here ∷ rest)) t → segs ≡ here ∷ (rest ++ segments_from next is) → told ≡ mark place opens rest ∷ (marks_of place false rest ++ told_from (suc place) next is) → Stage at y t segs told
    Ending : (place : ℕ) (opens : Bool) → Starts r opens place y → (here : List Draft) (rest : List (List Draft)) → IsLeftOf r.course Done y.ahead y.state at (drafts_of (here ∷ rest)) t → segs ≡ here ∷ rest → told ≡ mark place opens rest ∷ marks_of place false rest → Stage at y t segs told
    Over : Done y.state t → y.ahead ≡ false → segs ≡ [] → Stage at y t segs told

  -- each part has a segment
  pub record IsSome (segs : List (List Draft)) : Type 0 where
    pub here : List Draft
    pub rest : List (List Draft)
    pub is : segs ≡ here ∷ rest

  some_of : (ds : List Draft) (rest : List (List Draft)) → IsSome (ds ∷ rest)
  some_of ds rest = record { here = ds; rest = rest; is = refl }

  instr_some : (i : Instr) (at : SlotRef) → IsSome (part_segments at (instr_part i))
  instr_some (Set to v) at = some_of _ _
  instr_some (Add to (cell.Num n)) at = some_of _ _
  instr_some (Add to _) at = some_of _ _
  instr_some _ at = some_of _ _

  end_some : (e : End) (at : SlotRef) → IsSome (part_segments at (end_part r.first e))
  end_some (Jump to) at = some_of _ _
  end_some _ at = some_of _ _

  -- where a part begins
  pub enter : (at : SlotRef) (place : ℕ) (is : List Instr) → IsSuffix most r is_round at place is → (x : GraphState) (t u : Bytes) → HasBytes u → Later place x t → Stage at (record { state = x; ahead = false }) t (segments_from at is) (told_from place at is)
  enter at place [] h x t u bytes here =
      let some = end_some end at in
      let left = left_map r.course (AtEnd r b) Done to_done false x at (drafts_of (part_segments at (end_part r.first end))) (tabled t u) (end_left most r is_round at place h b x (tabled t u) (here u bytes)) in
      Ending place true (λ o. (refl, (here u bytes).is_at)) some.here some.rest (subst (λ (l : List (List Draft)). IsLeftOf r.course Done false x at (drafts_of l) t) some.is (left_beside r.course Done done_beside false x at (drafts_of (part_segments at (end_part r.first end))) (tabled t u) t (beside_tabled t u) left)) (append-nil (part_segments at (end_part r.first end)) ∙ some.is) (append-nil (marks_of place true (part_segments at (end_part r.first end))) ∙ ap (marks_of place true) some.is)
  enter at place (i ∷ is) h x t u bytes here =
      let some = instr_some i at in
      let left = left_map r.course (AtPart r b (suc place)) (Later (suc place)) (to_later (suc place)) false x at (drafts_of (part_segments at (instr_part i))) (tabled t u) (instr_left most r is_round at place i is h b x (tabled t u) (here u bytes)) in
      Within place true (λ o. (refl, (here u bytes).is_at)) is some.here some.rest (slot_behind at (part_size at (instr_part i))) (ap (λ (l : List (List Draft)). slot_behind at (length (drafts_of l))) some.is) (suffix_next most r is_round at place i is h) (subst (λ (l : List (List Draft)). IsLeftOf r.course (Later (suc place)) false x at (drafts_of l) t) some.is (left_beside r.course (Later (suc place)) (later_beside (suc place)) false x at (drafts_of (part_segments at (instr_part i))) (tabled t u) t (beside_tabled t u) left)) (ap (λ (l : List (List Draft)). l ++ segments_from (slot_behind at (part_size at (instr_part i))) is) some.is) (ap (λ (l : List (List Draft)). marks_of place true l ++ told_from (suc place) (slot_behind at (part_size at (instr_part i))) is) some.is)

  -- what comes of the next segment, over other tables
  abbrev pub Came : SlotRef → Ghost → Bytes → Bytes → List (List Draft) → List Mark → Bool → List Draft → Outcome → Type 0
  Came at y t u later told last here (Went us events) = (z : Ghost) × Tells r.course last y events z × Stage (slot_behind at (length here)) z (placed (tabled t u) us) later told
  Came at y t u later told last here (Faults us events) = Falls r.course y.ahead y.state events
  Came at y t u later told last here Bad = ⊥

  -- the run of the next segment, over tables of bytes
  module _ (at : SlotRef) (y : Ghost) (t u : Bytes) (bytes : HasBytes u) where
    abbrev there : Bytes
    there = tabled t u

    abbrev pub run : List Draft → Outcome
    run here = runs (own_view r.course.number u) at here there

    abbrev pub Goes : List (List Draft) → List Mark → Bool → List Draft → Outcome → Type 0
    Goes = Came at y t u

    module _ (Then : GraphState → Bytes → Type 0) (beside : (z : GraphState) (s t : Bytes) → Beside s t → Then z s → Then z t) where
      moved_there : (ds : List Draft) → IsLeftOf r.course Then y.ahead y.state at ds t → IsLeftOf r.course Then y.ahead y.state at ds there
      moved_there ds left = left_beside r.course Then beside y.ahead y.state at ds t there (λ p e. sym (beside_tabled t u p e)) left

      -- more segments follow of the same instruction or end
      abbrev Cut : List Draft → List Draft → Outcome → Type 0
      Cut here more (Went us events) = (z : Ghost) × Tells r.course false y events z × IsLeftOf r.course Then z.ahead z.state (slot_behind at (length here)) more (placed there us)
      Cut here more (Faults us events) = Falls r.course y.ahead y.state events
      Cut here more Bad = ⊥

      cut : (here more : List Draft) → IsLeftOf r.course Then y.ahead y.state at (here ++ more) t → Cut here more (run here)
      cut here more left = by_run (run here) refl
        where
          by_run : (o : Outcome) → run here ≡ o → Cut here more o
          by_run (Went us []) e = (y, refl, left_silent r.course Then y.state at here more there y.ahead (moved_there (here ++ more) left) u bytes us e)
          by_run (Went us (f ∷ l)) e =
              let lead = events_lead r.course Then y.state at here more there y.ahead (moved_there (here ++ more) left) u bytes us f l e in
              (record { state = lead.0; ahead = true }, (lead.1, refl), left_events r.course Then y.state at here more there y.ahead (moved_there (here ++ more) left) u bytes us f l e)
          by_run (Faults us l) e = left_faults r.course Then y.state at here more there y.ahead (moved_there (here ++ more) left) u bytes us l e
          by_run Bad e = left_never_bad r.course Then y.state at here more there y.ahead (moved_there (here ++ more) left) u bytes e

      -- or none does
      close : (here : List Draft) → IsLeftOf r.course Then y.ahead y.state at (here ++ []) t → LeftBy r.course Then y.ahead y.state there (run here)
      close here left = subst (λ (ds : List Draft). IsLeftOf r.course Then y.ahead y.state at ds there) (append-nil here) (moved_there (here ++ []) left) (own_view r.course.number u) refl (λ q k. bytes k)

    next_place : (here : List Draft) (next : SlotRef) (rest : List (List Draft)) → next ≡ slot_behind at (length (drafts_of (here ∷ rest))) → next ≡ slot_behind (slot_behind at (length here)) (length (drafts_of rest))
    next_place here next rest e =
        e ∙ (ap (slot_behind at) (length-append here (drafts_of rest)) ∙ sym (behind_twice at (length here) (length (drafts_of rest))))

    within : (place : ℕ) (is : List Instr) (here : List Draft) (rest : List (List Draft)) (next : SlotRef) → next ≡ slot_behind at (length (drafts_of (here ∷ rest))) → IsSuffix most r is_round next (suc place) is → IsLeftOf r.course (Later (suc place)) y.ahead y.state at (drafts_of (here ∷ rest)) t → Goes (rest ++ segments_from next is) (marks_of place false rest ++ told_from (suc place) next is) (is_last rest) here (run here)
    within place is here [] next e suffix left = by_run (run here) (close (Later (suc place)) (later_beside (suc place)) here left)
      where
        by_run : (o : Outcome) → LeftBy r.course (Later (suc place)) y.ahead y.state there o → Goes (segments_from next is) (told_from (suc place) next is) true here o
        by_run (Went us events) k =
            (record { state = k.0; ahead = false }, (k.1, refl), subst (λ (q : SlotRef). Stage q (record { state = k.0; ahead = false }) (placed there us) (segments_from next is) (told_from (suc place) next is)) (next_place here next [] e ∙ behind_none (slot_behind at (length here))) (enter next (suc place) is suffix k.0 (placed there us) u bytes k.2))
        by_run (Faults us events) k = k
        by_run Bad k = k
    within place is here (more ∷ rest) next e suffix left = by_run (run here) (cut (Later (suc place)) (later_beside (suc place)) here (drafts_of (more ∷ rest)) left)
      where
        by_run : (o : Outcome) → Cut (Later (suc place)) (later_beside (suc place)) here (drafts_of (more ∷ rest)) o → Goes ((more ∷ rest) ++ segments_from next is) (marks_of place false (more ∷ rest) ++ told_from (suc place) next is) false here o
        by_run (Went us events) k = (k.0, k.1, Within place false (λ o. absurd (false≢true o)) is more rest next (next_place here next (more ∷ rest) e) suffix k.2 refl refl)
        by_run (Faults us events) k = k
        by_run Bad k = k

    ending : (place : ℕ) (here : List Draft) (rest : List (List Draft)) → IsLeftOf r.course Done y.ahead y.state at (drafts_of (here ∷ rest)) t → Goes rest (marks_of place false rest) (is_last rest) here (run here)
    ending place here [] left = by_run (run here) (close Done done_beside here left)
      where
        by_run : (o : Outcome) → LeftBy r.course Done y.ahead y.state there o → Goes [] [] true here o
        by_run (Went us events) k = (record { state = k.0; ahead = false }, (k.1, refl), Over k.2 refl refl)
        by_run (Faults us events) k = k
        by_run Bad k = k
    ending place here (more ∷ rest) left = by_run (run here) (cut Done done_beside here (drafts_of (more ∷ rest)) left)
      where
        by_run : (o : Outcome) → Cut Done done_beside here (drafts_of (more ∷ rest)) o → Goes (more ∷ rest) (marks_of place false (more ∷ rest)) false here o
        by_run (Went us events) k = (k.0, k.1, Ending place false (λ o. absurd (false≢true o)) more rest k.2 refl refl)
        by_run (Faults us events) k = k
        by_run Bad k = k

    -- one of these two, by other names
    named : (first here : List Draft) (others later : List (List Draft)) (told : List Mark) (closes : Bool) → first ≡ here → others ≡ later → Goes others told closes first (run first) → Goes later told closes here (run here)
    named first here others later told closes a c h = subst (λ (l : List (List Draft)). Goes l told closes here (run here)) c (subst (λ (f : List Draft). Goes others told closes f (run f)) a h)

    pub goes_on : (segs : List (List Draft)) (m : Mark) (told : List Mark) (here : List Draft) (later : List (List Draft)) → segs ≡ here ∷ later → Stage at y t segs (m ∷ told) → Goes later told m.closes here (run here)
    goes_on segs m told here later e (Within place opens starts is first rest next place_is suffix left is_here told_are) =
        let same : first ≡ here = cc in
        let others : rest ++ segments_from next is ≡ later = cc in
        let one : mark place opens rest ≡ m = cc in
        let more : marks_of place false rest ++ told_from (suc place) next is ≡ told = cc in
        subst (λ (l : List Mark). Goes later l m.closes here (run here)) more (subst (λ (w : Mark). Goes later (marks_of place false rest ++ told_from (suc place) next is) w.closes here (run here)) one (named first here (rest ++ segments_from next is) later (marks_of place false rest ++ told_from (suc place) next is) (is_last rest) same others (within place is first rest next place_is suffix left)))
    goes_on segs m told here later e (Ending place opens starts first rest left is_here told_are) =
        let same : first ≡ here = cc in
        let others : rest ≡ later = cc in
        let one : mark place opens rest ≡ m = cc in
        let more : marks_of place false rest ≡ told = cc in
        subst (λ (l : List Mark). Goes later l m.closes here (run here)) more (subst (λ (w : Mark). Goes later (marks_of place false rest) w.closes here (run here)) one (named first here rest later (marks_of place false rest) (is_last rest) same others (ending place first rest left)))
    goes_on segs m told here later e (Over done ahead none) = absurd (cc)

  -- where the graph is at the first segment of a part
  starts_here : (segs : List (List Draft)) (m : Mark) (told : List Mark) (at : SlotRef) (y : Ghost) (t : Bytes) (here : List Draft) (later : List (List Draft)) → segs ≡ here ∷ later → Stage at y t segs (m ∷ told) → Starts r m.opens m.place y
  starts_here segs m told at y t here later e (Within place opens starts is first rest next place_is suffix left is_here told_are) =
      let one : mark place opens rest ≡ m = cc in subst (λ (w : Mark). Starts r w.opens w.place y) one starts
  starts_here segs m told at y t here later e (Ending place opens starts first rest left is_here told_are) =
      let one : mark place opens rest ≡ m = cc in subst (λ (w : Mark). Starts r w.opens w.place y) one starts
  starts_here segs m told at y t here later e (Over done ahead none) = absurd (cc)

  not_none : (segs : List (List Draft)) (at : SlotRef) (y : Ghost) (t : Bytes) (here : List Draft) (later : List (List Draft)) → segs ≡ here ∷ later → Stage at y t segs [] → ⊥
  not_none segs at y t here later e (Within place opens starts is first rest next place_is suffix left is_here told_are) = absurd (cc)
  not_none segs at y t here later e (Ending place opens starts first rest left is_here told_are) = absurd (cc)
  not_none segs at y t here later e (Over done ahead none) = absurd (cc)

  pub follows : (segs : List (List Draft)) (told : List Mark) (at : SlotRef) (y : Ghost) (t : Bytes) → Stage at y t segs told → Follows r b segs told at y t
  follows [] told at y t (Within place opens starts is here rest next place_is suffix left e f) = absurd (cc)
  follows [] told at y t (Ending place opens starts here rest left e f) = absurd (cc)
  follows [] told at y t (Over done ahead e) = (done, ahead)
  follows (here ∷ later) [] at y t stage = absurd (not_none (here ∷ later) at y t here later refl stage)
  follows (here ∷ later) (m ∷ told) at y t stage = (
    starts_here (here ∷ later) m told at y t here later refl stage,
    λ u bytes. by_run u (run at y t u bytes here) (goes_on at y t u bytes (here ∷ later) m told here later refl stage) (λ z w next. follows later told (slot_behind at (length here)) z w next),
  )
    where
      by_run : (u : Bytes) (o : Outcome) → Came at y t u later told m.closes here o → ((z : Ghost) (w : Bytes) → Stage (slot_behind at (length here)) z w later told → Follows r b later told (slot_behind at (length here)) z w) → Comes r (Follows r b later told (slot_behind at (length here))) m.closes y (tabled t u) o
      by_run u (Went us events) k rest = (k.0, k.1, rest k.0 (placed (tabled t u) us) k.2)
      by_run u _ k rest = k

-- the law
pub segments_follow : SegmentsFollow
segments_follow most r is_round x t here =
    follows r most is_round t (segments r) (marks r) (begins r) (record { state = x; ahead = false }) t (enter r most is_round t (begins r) 0 r.block.instrs (suffix_first most r is_round) x t no_tables no_bytes here)
