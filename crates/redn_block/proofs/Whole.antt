-- The drafts of a block do what the graph does from its beginning to its end.
use Rattle.std.proofs.Common.{◌≡◌, ℕ, suc, ◌+◌, ◌≤◌, true, false, List, [], ◌∷◌, ◌++◌, length, Some, None, refl, sym, ap, ◌∙◌, subst, arith, append_assoc}
use Rattle.std.specs.Prelude.{slice_get}
use Rattle.std.specs.List.{All}
use Rattle.std.proofs.lemmas.List.{append-nil}
use Rattle.std.proofs.lemmas.List.Elements.{All-head, All-tail}
use Rattle.std.proofs.lemmas.Option.{slice_get_past}
use Rattle.redn_words.specs.declared.types.Obs.{Obs}
use Rattle.redn_graph.specs.declared.types.Instr.{Instr}
use Rattle.redn_graph.specs.declared.types.End.{End}
use Rattle.redn_graph.specs.declared.types.End.TheVariants.{Jump, Test48, Test64, Probe, Reply}
use Rattle.redn_graph.specs.declared.types.Block.{Block}
use Rattle.redn_graph.specs.declared.types.Graph.{Graph}
use Rattle.redn_graph.specs.Fits.{Things, FitsInstr, FitsEnd}
use Rattle.redn_graph.specs.Run.{Mail, GraphState, in_hand}
use Rattle.redn_segment.specs.declared.types.SlotRef.{SlotRef}
use Rattle.redn_segment.specs.declared.types.Draft.{Draft}
use Rattle.redn_segment.specs.declared.types.Space.TheVariants as space
use Rattle.redn_segment.specs.Building.{drafts_of}
use Rattle.redn_segment.specs.Sites.{next_slot}
use Rattle.redn_segment.specs.Plain.{Bytes, View, placed, Outcome, Went, Faults, Bad, runs}
use Rattle.redn_segment.specs.Primed.{Primed, IsWhole, SeesBytes}
use Rattle.redn_segment.specs.Effects.{Effect, Leaves, Stops, Meets, slot_behind, is_own}
use Rattle.redn_segment.specs.Parts.{LeavesWhole, KeepsSlots, with_events, goes_to}
use Rattle.redn_words.specs.Words.{bytes_at}
use Rattle.redn_segment.proofs.Composing.{not_owns, behind_next, behind_none}
use Rattle.redn_segment.proofs.Growing.{length-drafts, behind_twice}
use Rattle.redn_move.proofs.Appended.{count}
use Rattle.redn_block.specs.Blocks.{instr_part, end_part, part_segments, part_effect, part_size, block_segments, ring_start, HasTarget, EndFits, BlockFits, InstrWords, EndWords, BlockWords}
use Rattle.redn_block.specs.Plays.{Lead, all_shown, last_state, Leads, AllLead, Played}
use Rattle.redn_block.specs.Matches.{Same, IsAt, IsOver, Onward, Ended, Beside, BlockFollows}
use Rattle.redn_block.proofs.Cells.{same_cells}
use Rattle.redn_block.proofs.Instrs.{After, instr_follows}
use Rattle.redn_block.proofs.Ends.{AfterEnd, last_slot, end_follows}
use Rattle.redn_block.proofs.Parts.{effect_of, segments_of, instr_is, block_is}

-- steps one after the other
module _ (c : ℕ) (mail : Mail) (g : Graph) where
  shown_both : (xs ys : List Lead) → all_shown (xs ++ ys) ≡ all_shown xs ++ all_shown ys
  shown_both [] ys = refl
  shown_both (l ∷ xs) ys = ap (λ (k : List Obs). l.shows ++ k) (shown_both xs ys) ∙ sym (append_assoc l.shows (all_shown xs) (all_shown ys))

  leads_both : (x : GraphState) (xs ys : List Lead) → last_state x (xs ++ ys) ≡ last_state (last_state x xs) ys
  leads_both x [] ys = refl
  leads_both x (l ∷ xs) ys = leads_both l.state xs ys

  all_both : (x : GraphState) (xs ys : List Lead) → AllLead c mail g x xs → AllLead c mail g (last_state x xs) ys → AllLead c mail g x (xs ++ ys)
  all_both x [] ys h k = k
  all_both x (l ∷ xs) ys h k = (h.0, all_both l.state xs ys h.1 k)

  pub played_then : (x y z : GraphState) (events more : List Obs) → Played c mail g x events y → Played c mail g y more z → Played c mail g x (events ++ more) z
  played_then x y z events more p q =
      record {
        leads = p.leads ++ q.leads;
        all_lead = all_both x p.leads q.leads p.all_lead (subst (λ (w : GraphState). AllLead c mail g w q.leads) (sym p.ends) q.all_lead);
        shows_are = shown_both p.leads q.leads ∙ (λ i. p.shows_are i ++ q.shows_are i);
        ends = leads_both x p.leads q.leads ∙ ap (λ (w : GraphState). last_state w q.leads) p.ends ∙ q.ends;
      }

  pub lead_played : (x z : GraphState) (events : List Obs) → Leads c mail g x events z → Played c mail g x events z
  lead_played x z events h =
      let one : Lead = record { shows = events; state = z } in
      record { leads = one ∷ []; all_lead = (h, tt); shows_are = append-nil events; ends = refl }

-- the last ENABLE of a block's ring
abbrev pub last_of : SlotRef → List Instr → End → SlotRef
last_of at [] e = last_slot at e
last_of at (i ∷ is) e = last_of (slot_behind at (part_size at (instr_part i))) is e

-- it stands behind all drafts
size_of_end : (most first : ℕ) (at : SlotRef) (e : End) → EndFits most first e → last_slot at e ≡ slot_behind at (part_size at (end_part first e))
size_of_end most first at (Reply words) fits = ap (slot_behind at) (sym (count words fits.0 fits.1))
size_of_end most first at _ fits = refl

pub last_is : (most first : ℕ) (is : List Instr) (e : End) (at : SlotRef) → EndFits most first e → last_of at is e ≡ slot_behind at (length (drafts_of (segments_of first at is e)))
last_is most first [] e at fits = size_of_end most first at e fits ∙ ap (λ (l : List (List Draft)). slot_behind at (length (drafts_of l))) (sym (append-nil (part_segments at (end_part first e))))
last_is most first (i ∷ is) e at fits =
    let behind : SlotRef = slot_behind at (part_size at (instr_part i)) in
    last_is most first is e behind fits ∙ (behind_twice at (part_size at (instr_part i)) (length (drafts_of (segments_of first behind is e))) ∙ ap (slot_behind at) (sym (length-drafts (part_segments at (instr_part i)) (segments_of first behind is e))))

pub behind_last : (is : List Instr) (e : End) (at : SlotRef) → at.slot ≤ (last_of at is e).slot
behind_last [] (Jump to) at = omega arith
behind_last [] (Test48 left right met unmet) at = omega arith
behind_last [] (Test64 left right met unmet) at = omega arith
behind_last [] (Probe to t offset key hit miss) at = omega arith
behind_last [] (Reply words) at = omega arith
behind_last (i ∷ is) e at = let rest = behind_last is e (slot_behind at (part_size at (instr_part i))) in omega arith

ends_long : (all : List Draft) (es : List Draft) (at : SlotRef) (s : Bytes) → Primed all at es s → length (s (space.Slot (slot_behind at (length es)))) ≡ 64
ends_long all [] at s p = subst (λ (q : SlotRef). length (s (space.Slot q)) ≡ 64) (sym (behind_none at)) p
ends_long all (d ∷ es) at s p = subst (λ (q : SlotRef). length (s (space.Slot q)) ≡ 64) (behind_next at (length es)) (ends_long all es (next_slot at) s p.1)

-- a slot behind those that an effect may change keeps its bytes
kept : (last at : SlotRef) (n : ℕ) (s : Bytes) (one : Effect) → KeepsSlots at n s one → at.slot + n ≤ last.slot → (t : Bytes) (events : List Obs) → one ≡ Leaves t events → t (space.Slot last) ≡ s (space.Slot last)
kept last at n s one keeps past t events leads =
    let all : KeepsSlots at n s (Leaves t events) = subst (λ (o : Effect). KeepsSlots at n s o) leads keeps in
    all last (not_owns at n last (λ lies. let high = lies.2 in omega arith))

module _ (c : ℕ) (mail : Mail) (g : Graph) (n : Things) (first block : ℕ) (b : Block) (there : slice_get g.blocks block ≡ Some b) (view : View) (number : view.number ≡ c) (bytes : SeesBytes view) (most : ℕ) where
  -- what an effect has to be beside the graph up to the end of the block
  abbrev pub AfterAll : GraphState → SlotRef → Bytes → Effect → Type 0
  AfterAll x last s (Leaves t events) = (z : GraphState) × Played c mail g x events z × Same n (in_hand mail z) z.cells t × IsOver first last s z t
  AfterAll x last s (Stops t events) = (z : GraphState) × Played c mail g x events z × (z.ended ≡ true)

  over_from : (last : SlotRef) (s t u : Bytes) (z : GraphState) → ((r : ℕ) → t (space.Descriptor r) ≡ s (space.Descriptor r)) → IsOver first last t z u → IsOver first last s z u
  over_from last s t u z same (Onward k at chooses) = Onward k at (chooses ∙ same _)
  over_from last s t u z same (Ended e) = Ended e

  -- one effect and then the others
  then_all : (x y : GraphState) (last : SlotRef) (s t : Bytes) (events : List Obs) → Played c mail g x events y → ((r : ℕ) → t (space.Descriptor r) ≡ s (space.Descriptor r)) → (rest : Effect) → AfterAll y last t rest →
      AfterAll x last s (with_events events rest)
  then_all x y last s t events p same (Leaves u more) h = (h.0, played_then c mail g x y h.0 events more p h.1, h.2, over_from last s t u h.0 same h.3)
  then_all x y last s t events p same (Stops u more) h = (h.0, played_then c mail g x y h.0 events more p h.1, h.2)

  first_then : (x : GraphState) (place : ℕ) (at_x : IsAt block place x) (last : SlotRef) (s : Bytes) (one : Effect) → After c mail g n block place b there x at_x s one → LeavesWhole one →
      ((t : Bytes) (events : List Obs) → one ≡ Leaves t events → length (t (space.Slot last)) ≡ 64) → (rest : Bytes → Effect) →
      ((y : GraphState) → IsAt block (suc place) y → (t : Bytes) → IsWhole t → Same n (in_hand mail y) y.cells t → length (t (space.Slot last)) ≡ 64 → AfterAll y last t (rest t)) → AfterAll x last s (goes_to one rest)
  first_then x place at_x last s (Leaves t events) h whole long rest more =
      then_all x h.0 last s t events (lead_played c mail g x h.0 events h.1) h.4 (rest t) (more h.0 h.3 t whole h.2 (long t events refl))
  first_then x place at_x last s (Stops t events) h whole long rest more = (h.0, lead_played c mail g x h.0 events h.1, h.2)

  from_end : (at : SlotRef) (e : End) (s : Bytes) {x : GraphState} (at_end : IsAt block (length b.instrs) x) (behind : slice_get b.instrs (length b.instrs) ≡ None) (one : Effect) →
      AfterEnd c mail g n first block b there x at_end behind (last_slot at e) s one → AfterAll x (last_slot at e) s one
  from_end at e s {x = x} at_end behind (Leaves t events) h = (h.0, lead_played c mail g x h.0 events h.1, h.2, h.3)
  from_end at e s {x = x} at_end behind (Stops t events) h = (h.0, lead_played c mail g x h.0 events h.1, h.2)

  effects_follow : (is : List Instr) (e : End) → b.end ≡ e → (at : SlotRef) (place : ℕ) → ((j : ℕ) → slice_get b.instrs (place + j) ≡ slice_get is j) → length b.instrs ≡ place + length is → All (FitsInstr n) is → FitsEnd n e →
      All InstrWords is → EndWords e → All HasTarget is → EndFits most first e → (x : GraphState) → IsAt block place x → (s : Bytes) → IsWhole s → Same n (in_hand mail x) x.cells s → length (s (space.Slot (last_of at is e)))
      ≡ 64 → AfterAll x (last_of at is e) s (effect_of first at is e view s)
  effects_follow [] e is_end at place its many fits end_fits small end_small targets goes x at_x s whole same long =
      let here : place ≡ length b.instrs = omega (arith, many) in
      let at_end : IsAt block (length b.instrs) x = subst (λ (k : ℕ). IsAt block k x) here at_x in
      let behind : slice_get b.instrs (length b.instrs) ≡ None = slice_get_past b.instrs (length b.instrs) (omega arith) in
      from_end at e s at_end behind (effect_of first at [] e view s) (end_follows c mail g n first block b there x at_end behind view number s whole same at e is_end end_fits end_small long)
  effects_follow (i ∷ is) e is_end at place its many fits end_fits small end_small targets goes x at_x s whole same long =
      let here : slice_get b.instrs place ≡ Some i = ap (slice_get b.instrs) (let h : place ≡ place + 0 = omega arith in h) ∙ its 0 in
      let behind : SlotRef = slot_behind at (part_size at (instr_part i)) in
      let part = instr_is i (All-head HasTarget i is targets) at in
      first_then x place at_x (last_of behind is e) s (part_effect at (instr_part i) view s)
      (instr_follows c mail g n block place b there x at_x view number s whole same at i here (All-head (FitsInstr n) i is fits) (All-head InstrWords i is small)) (part.tame.whole view bytes s whole)
      (λ t events leads. ap length (kept (last_of behind is e) at (part_size at (instr_part i) + 0) s (part_effect at (instr_part i) view s) (part.tame.slots view s) (let l =
      behind_last is e behind in omega arith) t events leads) ∙ long) (effect_of first behind is e view) (λ y at_y t t_whole cells there_long. effects_follow is e is_end behind (suc place) (λ j. ap (slice_get b.instrs) (let h : suc place + j ≡ place + suc j = omega arith in h) ∙ its (suc j)) (omega (arith, many)) (All-tail (FitsInstr n) i is fits) end_fits (All-tail InstrWords i is small) end_small (All-tail HasTarget i is targets) goes y at_y t t_whole cells there_long)

module _ (most first ring : ℕ) (b : Block) (targets : BlockFits most first b) (small : BlockWords b) where
  abbrev at : SlotRef
  at = ring_start ring

  abbrev ds : List Draft
  ds = drafts_of (block_segments first ring b)

  abbrev last : SlotRef
  last = slot_behind at (length ds)

  -- what the drafts do is what the graph does
  pub block_follows : BlockFollows first ring b
  block_follows chain mail g n block there fits view number bytes s whole room primed x at_x same =
      let part = block_is most first b.instrs b.end targets.instrs targets.end at in
      let where_last : last_of at b.instrs b.end ≡ last = last_is most first b.instrs b.end at targets.end in
      let long : length (s (space.Slot last)) ≡ 64 = ends_long ds ds at s primed in
      let follows = effects_follow chain mail g n first block b there view number bytes most b.instrs b.end refl at 0 (λ j. ap (slice_get b.instrs) (let e : 0 + j ≡ j = omega arith in e))
      (let e : length b.instrs ≡ 0 + length b.instrs = omega arith in e) fits.instrs_fit fits.end_fits small.instrs small.end targets.instrs targets.end x at_x s whole same
      (ap (λ (q : SlotRef). length (s (space.Slot q))) where_last ∙ long) in
      beside (runs view at ds s) (effect_of first at b.instrs b.end view s) (part.does view bytes s whole room primed)
      (subst (λ (q : SlotRef). AfterAll chain mail g n first block b there view number bytes most x q s (effect_of first at b.instrs b.end view s)) where_last follows)
    where
      free : is_own at (length ds) (space.Slot last) ≡ false
      free = not_owns at (length ds) last (λ lies. let high = lies.2 in omega arith)

      over_there : (t u : Bytes) (z : GraphState) → u (space.Slot last) ≡ t (space.Slot last) → IsOver first last s z t → IsOver first last s z u
      over_there t u z e (Onward k at_k chooses) = Onward k at_k (ap (λ (l : List ℕ). bytes_at l 40 16) e ∙ chooses)
      over_there t u z e (Ended ended) = Ended ended

      beside : (o : Outcome) (one : Effect) → Meets at ds s o one → AfterAll chain mail g n first block b there view number bytes most x last s one → Beside chain mail g n x (IsOver first last s) s o
      beside (Went us shown) (Leaves t events) m h = (
        h.0,
        subst (λ (l : List Obs). Played chain mail g x l h.0) (sym m.0) h.1,
        same_cells n (in_hand mail h.0) h.0.cells t (placed s us) (λ a. m.1.spaces (space.Cell a) refl) h.2,
        over_there t (placed s us) h.0 (m.1.spaces (space.Slot last) free) h.3,
      )
      beside (Faults us shown) (Stops t events) m h = (h.0, subst (λ (l : List Obs). Played chain mail g x l h.0) (sym m.0) h.1, h.2)
      beside (Went us shown) (Stops t events) m h = absurd m
      beside (Faults us shown) (Leaves t events) m h = absurd m
      beside Bad one m h = absurd m
