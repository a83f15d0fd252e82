-- From a ring's entry to the entry of the next.
use Rattle.std.proofs.Common.{◌≡◌, ◌≢◌, inl, inr, ℕ, zero, suc, ◌+◌, ◌-◌, Bool, true, false, cond, ◌&&◌, ◌||◌, ◌==◌, ◌%◌, ◌^◌, List, [], ◌∷◌, length, refl, sym, ap, ◌∙◌, subst, arith, drop}
use Rattle.std.specs.Prelude.{nat_le, nat_lt, if◌then◌else◌, ◌⊎◌}
use Rattle.std.proofs.Math.Seq.{drop-length}
use Rattle.std.proofs.lemmas.Bool.{cases_eq, eq-eqb, ne_eqb, and_from, le-leb, lt-ltb, true≢false}
use Rattle.redn_words.specs.Words.{bytes_at, spelled, word}
use Rattle.redn_words.proofs.Places.{length-with_bytes_at}
use Rattle.redn_words.proofs.Numbers.{length-spelled}
use Rattle.redn_graph.specs.Run.{GraphState, GraphTurn}
use Rattle.redn_segment.specs.declared.types.Space.{Space}
use Rattle.redn_segment.specs.declared.types.Space.TheVariants as space
use Rattle.redn_segment.specs.declared.types.Draft.{Draft}
use Rattle.redn_segment.specs.Sites.{same_space}
use Rattle.redn_segment.specs.Building.{drafts_of}
use Rattle.redn_segment.specs.Plain.{Bytes, placed, Outcome, Went, runs}
use Rattle.redn_segment.specs.Primed.{Primed}
use Rattle.redn_segment.specs.Renaming.{renamed_space}
use Rattle.redn_proof_landing.specs.Segments.{slot_space}
use Rattle.redn_recycle.specs.Laps.{slot_of, gates_of, enable_of}
use Rattle.redn_recycle.specs.Lapped.{segment_at, start_of, first_of, slots_in_laps, sends_last, slot_in_laps}
use Rattle.redn_recycle.proofs.Starts.{last_there}
use Rattle.redn_proof_ring.specs.Plans.{Plan, is_ring}
use Rattle.redn_proof_ring.specs.Turns.{HasBytes, tabled}
use Rattle.redn_proof_ring.specs.Runs as rings
use Rattle.redn_proof_ring.specs.Runs.{own_view, run_of, Opened, Sound}
use Rattle.redn_proof_block.specs.Names.{Rings, in_laps, new_slot, set_aside, is_lapping}
use Rattle.redn_proof_block.specs.Laps as laps
use Rattle.redn_proof_block.specs.Laps.{raised_by, LapsStand}
use Rattle.redn_block.specs.Matches.{IsAt}
use Rattle.redn_proof_block.specs.Left.{Course, Rest}
use Rattle.redn_proof_block.specs.Parts as parts
use Rattle.redn_proof_block.specs.Parts.{Round, Mark, marks, drafts, begins, Stands, AtPart, GoesOn, AtEnd}
use Rattle.redn_proof_block.specs.Stages as stages
use Rattle.redn_proof_block.specs.Stages.{Ghost, Follows, Later, Done}
use Rattle.redn_proof_block.proofs.RoundStages.{segments_follow, beside_tabled}
use Rattle.redn_proof_block.specs.Laying.{Laying, plan, segments, rings_of, block_at, round_at, IsLaying, Takes, closes_at, Tells, Fails, Entry}
use Rattle.redn_proof_block.proofs.Rounds.{most, rounds}
use Rattle.redn_proof_block.proofs.Suits.{block_tells}
use Rattle.redn_proof_block.proofs.Ends.{IsReply, LastIs, block_last, goes_of}
use Rattle.redn_proof_block.proofs.Others.{primed_same}
use Rattle.redn_proof_block.proofs.Telling.{Have, have_beside}
use Rattle.redn_proof_block.proofs.CourseStages.{no_tables, no_bytes, are_rings, Stage, went, then_lapped, lapped_goes, stage_next, tells, Next, next, takes}

-- where a segment shows nothing, one state follows
rest_one : (c : Course) (ahead : Bool) (x z w : GraphState) → Rest c ahead x [] z → Rest c ahead x [] w → z ≡ w
rest_one c true x z w h k = sym h ∙ k
rest_one c false x z w h k = ap (λ (t : GraphTurn). t.state) (sym (h [] tt) ∙ k [] tt)

silent_one : (c : Course) (last : Bool) (y z w : Ghost) → stages.Tells c last y [] z → stages.Tells c last y [] w → z.state ≡ w.state
silent_one c true y z w h k = rest_one c y.ahead y.state z.state w.state h.0 k.0
silent_one c false y z w h k = ap (λ (g : Ghost). g.state) (h ∙ sym k)

-- raising a descriptor keeps its size
pub raised_long : (n : ℕ) (b : List ℕ) → length b ≡ 16 → length (raised_by n b) ≡ 16
raised_long n b long =
    let eight = length-spelled 8 ((word (bytes_at b 8 8) 0 + n) % 2 ^ 64) in
    length-with_bytes_at b (spelled 8 ((word (bytes_at b 8 8) 0 + n) % 2 ^ 64)) 8 (omega (arith, eight, long)) ∙ long

module _ (l : Laying) (is : IsLaying l) where
  abbrev c : Plan
  c = plan l

  abbrev g : Rings
  g = rings_of l

  abbrev domain : ℕ
  domain = l.layout.domain

  abbrev first : ℕ
  first = l.layout.first_queue

  abbrev its_segments : ℕ → List (List Draft)
  its_segments v = parts.segments (round_at l v)

  segments_same : (v : ℕ) → is_ring c v ≡ true → drafts_of (segments l v) ≡ drafts (round_at l v)
  segments_same v its = ap drafts_of (is.segments_are v its)

  -- at the entry
  pub enters : (v : ℕ) (its : is_ring c v ≡ true) (y : Ghost) (s : Bytes) (e : Entry l v y s) → Stage l is v its e.plain (length (segments l v)) 0 y e.plain s
  enters v its y s e =
      let round = rounds l is v its in
      let stands : Stands (round_at l v) e.plain (tabled e.plain no_tables) = (e.here no_tables no_bytes).stands in
      let follows : Follows (round_at l v) e.plain (its_segments v) (marks (round_at l v)) (begins (round_at l v)) (record { state = y.state; ahead = false }) e.plain = segments_follow (most l is) (round_at l v) round y.state e.plain e.here in
      let ghost : Ghost = record { state = y.state; ahead = false } in
      let ghost_is : ghost ≡ y = ap (λ (a : Bool). let g : Ghost = record { state = y.state; ahead = a } in g) (sym e.ahead_not) in
      record {
        left_is = omega arith;
        follows = subst (λ (x : List (List Draft)). Follows (round_at l v) e.plain x (marks (round_at l v)) (begins (round_at l v)) y e.plain) (sym (is.segments_are v its)) (subst (λ (g : Ghost). Follows (round_at l v) e.plain (its_segments v) (marks (round_at l v)) (begins (round_at l v)) g e.plain) ghost_is follows);
        have = subst (λ (x : List (List Draft)). Have (drafts_of x) domain (slot_of v 0) x e.plain) (sym (is.segments_are v its)) (have_beside (drafts (round_at l v)) domain (slot_of v 0) (its_segments v) (tabled e.plain no_tables) e.plain (beside_tabled e.plain no_tables) (λ view same sees. block_tells (most l is) first (block_at l v).end round.targets.end v (block_at l v).instrs round.targets.instrs view sees (tabled e.plain no_tables) stands.whole stands.room stands.primed));
        mirrors = e.mirrors;
        primed = λ q qs ne. e.primed q qs;
        laps_stand = e.laps;
        sized = e.sized;
      }

  -- in a state behind a block's end, the state without laps at the next ring's entry: its descriptor is raised
  abbrev raise : ℕ → Bytes → Bytes
  raise w t p = if same_space (space.Descriptor w) p then raised_by (slots_in_laps (segments l w)) (t (space.Descriptor w)) else t p

  module _ (v : ℕ) (its : is_ring c v ≡ true) (b : Bytes) (j : ℕ) (z : Ghost) (t s : Bytes) (stage : Stage l is v its b 0 (suc j) z t s) where
    at_end : drop (suc j) (segments l v) ≡ []
    at_end = let left = stage.left_is in ap (λ (n : ℕ). drop n (segments l v)) (let e : suc j ≡ length (segments l v) = omega arith in e) ∙ drop-length (segments l v)

    over_at : (segs : List (List Draft)) (told : List Mark) → segs ≡ [] → Follows (round_at l v) b segs told (slot_of v (start_of (segments l v) (suc j))) z t → Done (round_at l v) b z.state t × (z.ahead ≡ false)
    over_at [] told e k = k
    over_at (ds ∷ rest) told e k = absurd (cc)

    pub over : Done (round_at l v) b z.state t × (z.ahead ≡ false)
    over = over_at (drop (suc j) (segments l v)) (drop (suc j) (marks (round_at l v))) at_end stage.follows

    pub ended : AtEnd (round_at l v) b z.state (tabled t no_tables)
    ended = over.0 no_tables no_bytes

    descriptor_agrees : (k : ℕ) → t (space.Descriptor k) ≡ s (space.Descriptor k)
    descriptor_agrees k = stage.mirrors.agrees (space.Descriptor k) refl

    -- the entry of the ring of the block where the graph is
    module _ (w : ℕ) (ws : is_ring c w ≡ true) (place : w ≡ first + z.state.block) (onward : IsAt z.state.block 0 z.state) where
      abbrev then_there : Bytes
      then_there = raise w t

      raised_descriptor : then_there (space.Descriptor w) ≡ raised_by (slots_in_laps (segments l w)) (t (space.Descriptor w))
      raised_descriptor = let itself : (w == w) ≡ true = eq-eqb w w refl in ap (λ (x : Bool). cond x (raised_by (slots_in_laps (segments l w)) (t (space.Descriptor w))) (t (space.Descriptor w))) itself

      descriptors_long : (k : ℕ) → length (then_there (space.Descriptor k)) ≡ 16
      descriptors_long k = by_ring (w == k)
        where
          by_ring : (x : Bool) → length (cond x (raised_by (slots_in_laps (segments l w)) (t (space.Descriptor w))) (t (space.Descriptor k))) ≡ 16
          by_ring true = raised_long (slots_in_laps (segments l w)) (t (space.Descriptor w)) (ended.stands.whole.descriptors w)
          by_ring false = ended.stands.whole.descriptors k

      primed_all : (q : ℕ) → is_ring c q ≡ true → Primed (drafts (round_at l q)) (begins (round_at l q)) (drafts (round_at l q)) t
      primed_all q qs =
          elim (cases_eq q v) [
            | inl same ↦ subst (λ (k : ℕ). Primed (drafts (round_at l k)) (begins (round_at l k)) (drafts (round_at l k)) t) (sym same) (primed_same (drafts (round_at l v)) (drafts (round_at l v)) (begins (round_at l v)) (tabled t no_tables) t (λ p e. refl) ended.stands.primed)
            | inr ne ↦ stage.primed q qs ne
          ]

      stands_then : (u : Bytes) → HasBytes u → Stands (round_at l w) then_there (tabled then_there u)
      stands_then u bytes =
          record {
            whole = record { cells = λ a. ended.stands.whole.cells a; numbers = λ n. ended.stands.whole.numbers n; descriptors = λ k. descriptors_long k; tables = λ k. bytes k };
            room = record { reply = ended.stands.room.reply; key = ended.stands.room.key; scratch = λ i. ended.stands.room.scratch i };
            primed = primed_same (drafts (round_at l w)) (drafts (round_at l w)) (begins (round_at l w)) t (tabled then_there u) (λ p e. refl) (primed_all w ws);
            descriptors = λ k. refl;
          }

      here_then : Later (round_at l w) then_there 0 z.state then_there
      here_then u bytes =
          record {
            is_at = record { block_is = omega (arith, place); place_is = onward.place_is; taking_not = onward.taking_not; runs_on = onward.runs_on };
            same = record { many = ended.same.many; cells = λ a m x. ended.same.cells a m x };
            stands = stands_then u bytes;
          }

      agrees_then : (p : Space) → set_aside w 0 p ≡ false → then_there p ≡ s (renamed_space (in_laps g) p)
      agrees_then (space.Descriptor k) e =
          let other : (w == k) ≡ false = by_other (cases_eq w k) in
          ap (λ (x : Bool). cond x (raised_by (slots_in_laps (segments l w)) (t (space.Descriptor w))) (t (space.Descriptor k))) other ∙ descriptor_agrees k
        where
          by_other : (w ≡ k) ⊎ (w ≢ k) → (w == k) ≡ false
          by_other (inl same) = absurd (true≢false (sym (eq-eqb k w (sym same)) ∙ e))
          by_other (inr ne) = ne_eqb w k ne
      agrees_then (space.Slot q) e = stage.mirrors.agrees (space.Slot q) refl
      agrees_then (space.Cell a) e = stage.mirrors.agrees (space.Cell a) refl
      agrees_then space.Reply e = stage.mirrors.agrees space.Reply refl
      agrees_then space.Key e = stage.mirrors.agrees space.Key refl
      agrees_then (space.Table k) e = stage.mirrors.agrees (space.Table k) refl
      agrees_then (space.Scratch i) e = stage.mirrors.agrees (space.Scratch i) (left_not (is_lapping (space.Scratch i)) e)
        where
          left_not : (x : Bool) → x || false ≡ false → x ≡ false
          left_not false e = refl
          left_not true e = absurd (true≢false e)

      pub entry : Entry l w z s
      entry =
          record {
            plain = then_there;
            here = here_then;
            ahead_not = over.1;
            mirrors =
                record {
                  agrees = agrees_then;
                  raised = λ first_one. raised_descriptor ∙ ap (raised_by (slots_in_laps (segments l w))) (descriptor_agrees w);
                  laps = stage.laps_stand w ws;
                };
            primed = λ q qs. primed_same (drafts (round_at l q)) (drafts (round_at l q)) (begins (round_at l q)) t then_there (λ p e. refl) (primed_all q qs);
            laps = stage.laps_stand;
            sized = stage.sized;
          }

  -- the last segment of a ring with gates
  module _ (v : ℕ) (its : is_ring c v ≡ true) (b : Bytes) (j : ℕ) (y : Ghost) (t s : Bytes) (h : Stage l is v its b 1 j y t s) (last : suc j ≡ length (segments l v)) (gates : gates_of v (c.ring v) j ≡ 2) where
    abbrev segs : List (List Draft)
    segs = segments l v

    abbrev r : Round
    r = round_at l v

    no_send : sends_last segs ≡ false
    no_send = by_send (sends_last segs) refl
      where
        by_send : (x : Bool) → sends_last segs ≡ x → x ≡ false
        by_send false e = refl
        by_send true e =
            let ends : (suc j == length segs) ≡ true = eq-eqb (suc j) (length segs) last in
            let none : gates_of v (c.ring v) j ≡ 0 = (λ i. cond (e i && ends i) 0 2) in
            absurd (let two : 0 ≡ 2 = sym none ∙ gates in omega (arith, two))

    last_is : LastIs r.block.end segs
    last_is = subst (LastIs r.block.end) (sym (is.segments_are v its)) (block_last first r.block.instrs r.block.end (begins r))

    no_reply : IsReply r.block.end ≡ false
    no_reply = by_reply (IsReply r.block.end) refl
      where
        by_reply : (x : Bool) → IsReply r.block.end ≡ x → x ≡ false
        by_reply false e = refl
        by_reply true e = absurd (true≢false (sym (last_is.sent e) ∙ no_send))

    no_drafts : segment_at segs j ≡ []
    no_drafts = ap (segment_at segs) (let e : j ≡ length segs - 1 = omega (arith, last) in e) ∙ last_is.empty no_reply

    silent : (u : Bytes) → laps.plain_run g v domain (l.layout.base v) domain j t s u ≡ Went [] []
    silent u = ap (λ (ds : List Draft). runs (own_view domain u) (slot_of v (start_of segs j)) ds (tabled t u)) no_drafts

    module _ (u : Bytes) (bytes : HasBytes u) where
      abbrev ghost : Ghost
      ghost = (went l is v its b 0 j y t s h u bytes [] [] (silent u)).comes.0

      stage : Stage l is v its b 0 (suc j) ghost (tabled t u) (then_lapped l is v its b 0 j y t s h u bytes [] [] (silent u))
      stage = stage_next l is v its b 0 j y t s h u bytes [] [] (silent u)

      goes : GoesOn r b ghost.state (tabled (tabled t u) no_tables)
      goes = goes_of r r.block.end no_reply b ghost.state (tabled (tabled t u) no_tables) (ended v its b j ghost (tabled t u) _ stage).over

      told : Tells l v j u y [] ghost
      told = tells l is v its b 0 j y t s h u bytes [] [] (silent u)

    -- where the graph goes, whatever the tables are
    abbrev chosen : Ghost
    chosen = ghost no_tables no_bytes

    chosen_is : (u : Bytes) (bytes : HasBytes u) → chosen.state ≡ (ghost u bytes).state
    chosen_is u bytes = silent_one l.course (closes_at l v j) y chosen (ghost u bytes) (told no_tables no_bytes).steps (told u bytes).steps

    abbrev target : ℕ
    target = first + chosen.state.block

    is_target : is_ring c target ≡ true
    is_target =
        let small = (goes no_tables no_bytes).inside in
        let same = is.blocks in
        and_from (nat_le first target) (nat_lt target (first + l.layout.rings)) (le-leb first target (omega arith)) (lt-ltb target (first + l.layout.rings) (omega (arith, small, same)))

    -- the last ENABLE, without laps
    abbrev last_slot : ℕ
    last_slot = 0 + length (drafts r)

    old_place : last_slot ≡ length (drafts_of segs)
    old_place = let same = ap length (segments_same v its) in omega (arith, same)

    place_is : new_slot g v last_slot ≡ enable_of v (c.ring v) j
    place_is =
        ap (λ (x : Bool). cond x (slot_in_laps segs last_slot) last_slot) its ∙ (ap (slot_in_laps segs) old_place ∙ (last_there segs no_send ∙ ap (λ (n : ℕ). first_of segs n - 1) (sym last)))

    names_target : bytes_at (s (slot_space v (enable_of v (c.ring v) j))) 40 16 ≡ s (space.Descriptor target)
    names_target =
        let chose : bytes_at (t (space.Slot (slot_of v last_slot))) 40 16 ≡ b (space.Descriptor target) = (goes no_tables no_bytes).chooses in
        let kept : t (space.Descriptor target) ≡ b (space.Descriptor target) = (ended v its b j chosen (tabled t no_tables) _ (stage no_tables no_bytes)).stands.descriptors target in
        let seen : t (space.Slot (slot_of v last_slot)) ≡ s (space.Slot (in_laps g (slot_of v last_slot))) = h.mirrors.agrees (space.Slot (slot_of v last_slot)) (slot_seen j) in
        let there : s (space.Slot (in_laps g (slot_of v last_slot))) ≡ s (slot_space v (enable_of v (c.ring v) j)) = ap (λ (n : ℕ). s (slot_space v n)) place_is in
        ap (λ (x : List ℕ). bytes_at x 40 16) (sym there ∙ sym seen) ∙ (chose ∙ (sym kept ∙ h.mirrors.agrees (space.Descriptor target) (later j last)))
      where
        slot_seen : (i : ℕ) → set_aside v i (space.Slot (slot_of v last_slot)) ≡ false
        slot_seen zero = refl
        slot_seen (suc i) = refl

        later : (i : ℕ) → suc i ≡ length segs → set_aside v i (space.Descriptor target) ≡ false
        later zero e = let some = (are_rings l is v its).some in absurd (omega (arith, e, some))
        later (suc i) e = refl

    -- the next entry
    abbrev Enters : Bytes → Outcome → Type 0
    Enters u = rings.Comes (λ events x. (z : Ghost) × Tells l v j u y events z × Entry l target z x) (Fails l v j u y) (tabled s u)

    enters_next : (u : Bytes) → HasBytes u → Enters u (run_of c v j s u)
    enters_next u bytes =
        let z : Ghost = ghost u bytes in
        let x : Bytes = then_lapped l is v its b 0 j y t s h u bytes [] [] (silent u) in
        let place : target ≡ first + z.state.block = ap (λ (g : GraphState). first + g.block) (chosen_is u bytes) in
        subst (Enters u) (sym (lapped_goes l is v its b 0 j y t s h u bytes [] [] (silent u))) (z, told u bytes, entry v its b j z (tabled t u) x (stage u bytes) target is_target place (goes u bytes).is_at)

    pub leads : (w : ℕ) × (is_ring c w ≡ true) × (bytes_at (s (slot_space v (enable_of v (c.ring v) j))) 40 16 ≡ s (space.Descriptor w)) × ((u : Bytes) → HasBytes u → rings.Comes (λ events x. (z : Ghost) × Tells l v j u y events z × Entry l w z x) (Fails l v j u y) (tabled s u) (run_of c v j s u))
    leads = (target, is_target, names_target, enters_next)

  -- all segments
  module _ (v : ℕ) (its : is_ring c v ≡ true) (b : Bytes) where
    abbrev SoundAt : ℕ → ℕ → Ghost → Bytes → Type 0
    SoundAt n j y s = Sound c (Takes l) Ghost (Tells l) (Fails l) (Entry l) v n j y s

    opened : (n j : ℕ) (y : Ghost) (t s : Bytes) → Stage l is v its b (suc n) j y t s → Opened c (Takes l) Ghost (Tells l) (Fails l) (Entry l) v j y s
    opened n j y t s h =
        record {
          takes = takes l is v its b n j y t s h;
          sized = h.sized;
          closes = λ last gates. leads v its b j y t s (subst (λ (m : ℕ). Stage l is v its b (suc m) j y t s) (let left = h.left_is in let none : n ≡ 0 = omega (arith, left, last) in none) h) last gates;
        }

    onward : (n j : ℕ) (y : Ghost) (t s : Bytes) (h : Stage l is v its b (suc n) j y t s) (u : Bytes) (bytes : HasBytes u) → ((z : Ghost) (x w : Bytes) → Stage l is v its b n (suc j) z x w → SoundAt n (suc j) z w) → (o : Outcome) → Next l is v its b n j y t s h u bytes o → rings.Comes (λ events w. (z : Ghost) × Tells l v j u y events z × SoundAt n (suc j) z w) (Fails l v j u y) (tabled s u) o
    onward n j y t s h u bytes rest (Went us events) k = (k.0, k.1, rest k.0 k.2 (placed (tabled s u) us) k.3)
    onward n j y t s h u bytes rest _ k = k

    pub sound : (n j : ℕ) (y : Ghost) (t s : Bytes) → Stage l is v its b n j y t s → SoundAt n j y s
    sound zero j y t s h = tt
    sound (suc n) j y t s h = (opened n j y t s h, λ u bytes. onward n j y t s h u bytes (λ z x w stage. sound n (suc j) z x w stage) (run_of c v j s u) (next l is v its b n j y t s h u bytes))

  -- from a ring's entry on
  pub entered : (v : ℕ) (y : Ghost) (s : Bytes) → is_ring c v ≡ true → Entry l v y s → Sound c (Takes l) Ghost (Tells l) (Fails l) (Entry l) v (c.ring v).segments 0 y s
  entered v y s its e = sound v its e.plain (length (segments l v)) 0 y e.plain s (enters v its y s e)
