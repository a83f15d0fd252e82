-- What the effect of an end is for the graph.
use Rattle.std.proofs.Common.{◌≡◌, ℕ, ◌+◌, ◌%◌, ◌^◌, ◌≤◌, Bool, true, false, cond, List, [], ◌∷◌, length, map, Some, None, refl, sym, ap, ◌∙◌, subst, arith}
use Rattle.std.specs.Prelude.{slice_get, ◌==◌, if◌then◌else◌}
use Rattle.std.specs.List.{All}
use Rattle.std.proofs.lemmas.List.{length-map}
use Rattle.std.proofs.lemmas.List.Elements.{All-head, All-tail}
use Rattle.redn_words.proofs.Places.{bytes_at-same}
use Rattle.redn_segment.specs.Sites.{same_space}
use Rattle.redn_words.specs.declared.types.Obs.{Obs}
use Rattle.redn_words.specs.declared.types.Obs.TheVariants as shows
use Rattle.redn_words.specs.Words.{bytes_at, with_bytes_at, word, low_48}
use Rattle.redn_kernel.specs.declared.types.Cell.{Cell}
use Rattle.redn_kernel.specs.CoreRun.{Cells, held, put, shown_load}
use Rattle.redn_kernel.specs.Source.{wrapped, has_word, word_in, same_low, eight}
use Rattle.redn_graph.specs.declared.types.End.{End}
use Rattle.redn_graph.specs.declared.types.End.TheVariants.{Jump, Test48, Test64, Probe, Reply}
use Rattle.redn_graph.specs.declared.types.Block.{Block}
use Rattle.redn_graph.specs.declared.types.Graph.{Graph}
use Rattle.redn_graph.specs.Fits.{Things, IsCell, IsTarget, FitsEnd}
use Rattle.redn_graph.specs.Run as run
use Rattle.redn_graph.specs.Run.{Mail, GraphState, in_hand, Way, To, Taking, Out, graph_step, graph_turn, block_turn, instr_or_end, end_does, state_on, stays}
use Rattle.redn_segment.specs.declared.types.SlotRef.{SlotRef}
use Rattle.redn_segment.specs.declared.types.Space.TheVariants as space
use Rattle.redn_segment.specs.Plain.{Bytes, View}
use Rattle.redn_segment.specs.Primed.{IsWhole}
use Rattle.redn_segment.specs.Effects.{Effect, Leaves, Stops, word_of, holding, chosen, lies_in, load_event, replied}
use Rattle.redn_block.specs.Blocks.{IsWord, EndWords, end_part, part_effect, slots_from, ring_of}
use Rattle.redn_block.specs.Plays.{StepTells, Leads}
use Rattle.redn_block.specs.Matches.{Same, IsAt, Chooses, IsOver, Onward, Ended}
use Rattle.redn_block.proofs.Spelled.{eight_words}
use Rattle.redn_block.proofs.Cells.{same_put, same_cells}
use Rattle.redn_block.proofs.Instrs.{one_step, two_steps, load_alone, true_of_load, stored_by_load, SawWord}
use Rattle.redn_segment.proofs.SlotBytes.{same_self as itself_same}

-- bytes that were put somewhere stand there
pub put_stands : (b new : List ℕ) (o k : ℕ) → length new ≡ k → o + k ≤ length b → bytes_at (with_bytes_at b o new) o k ≡ new
put_stands b new o k long fits =
    subst (λ (n : ℕ). bytes_at (with_bytes_at b o new) o n ≡ new) long (bytes_at-same b new o (omega arith))

held_all : (n : Things) (words : List ℕ) (c : Cells) (s : Bytes) → Same n words c s → (cells : List Cell) → All (IsCell n) cells → All IsWord cells → map (word_of s) cells ≡ map (held words c) cells
held_all n words c s same [] fits small = refl
held_all n words c s same (a ∷ rest) fits small =
    let one : word_of s a ≡ held words c a = same.cells a (All-head (IsCell n) a rest fits) (All-head IsWord a rest small) in
    ap (λ (v : ℕ). v ∷ map (word_of s) rest) one ∙ ap (λ (l : List ℕ). held words c a ∷ l) (held_all n words c s same rest (All-tail (IsCell n) a rest fits) (All-tail IsWord a rest small))

-- the effect of a probe, by what it reads
abbrev pub probed : ℕ → Cell → ℕ → SlotRef → ℕ → ℕ → Bytes → ℕ → ℕ → List ℕ → List ℕ → Effect
probed number to t last hit miss s o key looked loaded =
    let next : ℕ = (o + 8) % 2 ^ 64 in
    let seen : ℕ = word (bytes_at looked o 8) 0 in
    let value : List ℕ = bytes_at loaded next 8 in
    let look : Obs = shows.Look number t o seen in
    if lies_in looked o then (
    if low_48 seen == low_48 key then (
    if lies_in loaded next then Leaves (chosen last hit (holding s (space.Cell to) value)) (look ∷ load_event number to t next (word value 0)) else Stops s (look ∷ shows.Fault number t next ∷ [])) else Leaves (chosen last miss s) (look ∷ [])) else Stops s (shows.Fault number t o ∷ [])

module _ (c : ℕ) (mail : Mail) (g : Graph) (n : Things) (first block : ℕ) (b : Block) (there : slice_get g.blocks block ≡ Some b) (x : GraphState) (at_x : IsAt block (length b.instrs) x)
    (behind : slice_get b.instrs (length b.instrs) ≡ None) where
  abbrev words : List ℕ
  words = in_hand mail x

  -- the step of an end
  step_end : (taking : Bool) (y : GraphState) → y.block ≡ block → y.place ≡ length b.instrs → y.ended ≡ false → y.taking ≡ taking → (tables : List (List ℕ)) →
      graph_step c mail tables y g ≡ graph_turn y (end_does c (in_hand mail y) tables y.cells taking b.end)
  unfolding graph_step
  step_end taking y in_block at_end runs is tables =
      ap (λ (e : Bool). cond e (stays tables y) (block_turn c mail tables y (slice_get g.blocks y.block))) runs
      ∙ (ap (λ (k : ℕ). block_turn c mail tables y (slice_get g.blocks k)) in_block ∙ ap (block_turn c mail tables y) there ∙ ap (λ (k : ℕ). graph_turn y (instr_or_end c mail tables y (slice_get b.instrs k) b.end)) at_end
      ∙ ap (λ o. graph_turn y (instr_or_end c mail tables y o b.end)) behind ∙ ap (λ (t : Bool). graph_turn y (end_does c (in_hand mail y) tables y.cells t b.end)) is)

  first_step : (tables : List (List ℕ)) → graph_step c mail tables x g ≡ graph_turn x (end_does c words tables x.cells false b.end)
  first_step tables = step_end false x at_x.block_is at_x.place_is at_x.runs_on at_x.taking_not tables

  -- what an effect has to be beside the graph
  abbrev pub AfterEnd : SlotRef → Bytes → Effect → Type 0
  AfterEnd last s (Leaves t events) = (z : GraphState) × Leads c mail g x events z × Same n (in_hand mail z) z.cells t × IsOver first last s z t
  AfterEnd last s (Stops t events) = (z : GraphState) × Leads c mail g x events z × (z.ended ≡ true)

  module _ (view : View) (number : view.number ≡ c) (s : Bytes) (whole : IsWhole s) (same : Same n words x.cells s) (last : SlotRef) (long : length (s (space.Slot last)) ≡ 64) where
    value : (a : Cell) → IsCell n a → IsWord a → word_of s a ≡ held words x.cells a
    value a m w = same.cells a m w

    abbrev onto : ℕ → Cells → GraphState
    onto k cells = state_on x cells (To k)

    onto_at : (k : ℕ) (cells : Cells) → IsAt k 0 (onto k cells)
    onto_at k cells = record { block_is = refl; place_is = refl; taking_not = refl; runs_on = refl }

    chooses : (k : ℕ) (cells : Cells) (t : Bytes) → t (space.Slot last) ≡ s (space.Slot last) → t (space.Descriptor (ring_of first k)) ≡ s (space.Descriptor (ring_of first k)) → Chooses first last s (chosen last (ring_of first k) t) (onto k cells)
    chooses k cells t slot descriptor =
        let itself : same_space (space.Slot last) (space.Slot last) ≡ true = itself_same last in
        rw itself (put_stands (t (space.Slot last)) (t (space.Descriptor (ring_of first k))) 40 16 (ap length descriptor ∙ whole.descriptors (ring_of first k)) (omega (arith, ap length slot, long)) ∙ descriptor)

    -- silently on to a block
    goes_to : (k : ℕ) → ((tables : List (List ℕ)) → end_does c words tables x.cells false b.end ≡ run.goes c words tables x.cells (To k)) → AfterEnd last s (Leaves (chosen last (ring_of first k) s) [])
    goes_to k does = (
      onto k x.cells,
      one_step c mail g x (onto k x.cells) shows.Nothing [] (λ tables h. first_step tables ∙ ap (graph_turn x) (does tables)) refl,
      same_cells n words x.cells s (chosen last (ring_of first k) s) (λ a. refl) same,
      Onward k (onto_at k x.cells) (chooses k x.cells s refl refl),
    )

    -- on to one of two blocks
    goes_by : (t u : Bool) (met unmet : ℕ) → t ≡ u → ((tables : List (List ℕ)) → end_does c words tables x.cells false b.end ≡ run.goes c words tables x.cells (To (cond u met unmet))) → AfterEnd last s (Leaves (chosen last (cond t (ring_of first met) (ring_of first unmet)) s) [])
    goes_by true true met unmet e does = goes_to met does
    goes_by false false met unmet e does = goes_to unmet does
    goes_by true false met unmet e does = absurd (cc)
    goes_by false true met unmet e does = absurd (cc)

    -- a look at a key, and where it matches a load behind it
    module _ (to : Cell) (t : ℕ) (offset key : Cell) (hit miss : ℕ) (is : b.end ≡ Probe to t offset key hit miss) (target : IsTarget n to) where
      abbrev o : ℕ
      o = held words x.cells offset

      abbrev taking : GraphState
      taking = state_on x x.cells Taking

      step_look : (tables : List (List ℕ)) → graph_step c mail tables x g ≡ graph_turn x (run.looks c words tables x.cells t o (held words x.cells key) miss)
      unfolding end_does
      step_look tables = first_step tables ∙ ap (λ (e : End). graph_turn x (end_does c words tables x.cells false e)) is

      step_load : (tables : List (List ℕ)) → graph_step c mail tables taking g ≡ graph_turn taking (run.loads c words tables x.cells to t (wrapped (o + 8)) (To hit))
      unfolding end_does
      step_load tables = step_end true taking at_x.block_is at_x.place_is refl refl tables ∙ ap (λ (e : End). graph_turn taking (end_does c words tables x.cells true e)) is

      looks_by : (v : ℕ) (z : GraphState) (w : Way) → (if same_low v (held words x.cells key) then Taking else To miss) ≡ w → z ≡ state_on x x.cells w → StepTells c mail g x (shows.Look c t o v) z
      looks_by v z w e f tables h =
          step_look tables ∙ reads tables h ∙ ap (λ (y : GraphState). record { tables = tables; state = y; event = shows.Look c t o v }) (ap (state_on x x.cells) e ∙ sym f)
        where
          reads : (tables : List (List ℕ)) → (has_word tables t o ≡ true) × (word_in tables t o ≡ v) → graph_turn x (run.looks c words tables x.cells t o (held words x.cells key) miss) ≡ record { tables = tables; state = state_on x x.cells (if same_low v (held words x.cells key) then Taking else To miss); event = shows.Look c t o v }
          reads tables h = let has : has_word tables t o ≡ true = h.0 in let word_is : word_in tables t o ≡ v = h.1 in rw (has, word_is) refl

      look_faults : (at : ℕ) → at ≡ o → AfterEnd last s (Stops s (shows.Fault view.number t at ∷ []))
      look_faults at e =
          let z : GraphState = state_on x x.cells Out in (
            z,
            one_step c mail g x z (shows.Fault c t o) (shows.Fault view.number t at ∷ []) (λ tables h. step_look tables ∙ rw h refl)
                (ap (λ (k : ℕ). shows.Fault k t o ∷ []) (sym number) ∙ ap (λ (k : ℕ). shows.Fault view.number t k ∷ []) (sym e)),
            refl,
          )

      look_misses : (at v : ℕ) → at ≡ o → same_low v (held words x.cells key) ≡ false → AfterEnd last s (Leaves (chosen last (ring_of first miss) s) (shows.Look view.number t at v ∷ []))
      look_misses at v e other = (
        onto miss x.cells,
        one_step c mail g x (onto miss x.cells) (shows.Look c t o v) (shows.Look view.number t at v ∷ []) (looks_by v (onto miss x.cells) (To miss) (rw other refl) refl)
            (ap (λ (k : ℕ). shows.Look k t o v ∷ []) (sym number) ∙ ap (λ (k : ℕ). shows.Look view.number t k v ∷ []) (sym e)),
        same_cells n words x.cells s (chosen last (ring_of first miss) s) (λ a. refl) same,
        Onward miss (onto_at miss x.cells) (chooses miss x.cells s refl refl),
      )

      -- the load behind a look that matched
      module _ (at v next : ℕ) (e : at ≡ o) (f : next ≡ wrapped (o + 8)) (matches : same_low v (held words x.cells key) ≡ true) where
        look_takes : StepTells c mail g x (shows.Look c t o v) taking
        look_takes = looks_by v taking Taking (rw matches refl) refl

        abbrev look_is : (e : at ≡ o) → shows.Look c t o v ≡ shows.Look view.number t at v
        look_is e = ap (λ (k : ℕ). shows.Look k t o v) (sym number) ∙ ap (λ (k : ℕ). shows.Look view.number t k v) (sym e)

        load_faults : AfterEnd last s (Stops s (shows.Look view.number t at v ∷ shows.Fault view.number t next ∷ []))
        load_faults =
            let z : GraphState = state_on taking x.cells Out in
            let fault_is : shows.Fault c t (wrapped (o + 8)) ≡ shows.Fault view.number t next = ap (λ (k : ℕ). shows.Fault k t (wrapped (o + 8))) (sym number) ∙ ap (λ (k : ℕ). shows.Fault view.number t k) (sym f) in (
              z,
              two_steps c mail g x taking z (shows.Look c t o v) (shows.Fault c t (wrapped (o + 8))) _ look_takes (λ tables h. step_load tables ∙ rw h refl)
                  (ap (λ (p : Obs). p ∷ shows.Fault c t (wrapped (o + 8)) ∷ []) (look_is e) ∙ ap (λ (p : Obs). shows.Look view.number t at v ∷ p ∷ []) fault_is),
              refl,
            )

        load_goes : (bytes : List ℕ) → AfterEnd last s (Leaves (chosen last (ring_of first hit) (holding s (space.Cell to) bytes)) (shows.Look view.number t at v ∷ load_event view.number to t next (word bytes 0)))
        load_goes bytes =
            let w : ℕ = word bytes 0 in
            let z : GraphState = onto hit (put x.cells to w) in (
              z,
              two_steps c mail g x taking z (shows.Look c t o v) (shown_load c to t (wrapped (o + 8)) w) _ look_takes
                  (λ tables h. step_load tables ∙ reads tables (true_of_load n tables c to t (wrapped (o + 8)) w target h) ∙ ap (λ (k : List (List ℕ)). record { tables = k; state = z; event = shown_load c to t (wrapped (o + 8)) w })
                  (sym (stored_by_load tables c to t (wrapped (o + 8)) w))) (ap (λ (p : Obs). p ∷ shown_load c to t (wrapped (o + 8)) w ∷ []) (look_is e) ∙ ap (λ (l : List Obs). shows.Look view.number t at v ∷ l)
                  (load_alone n c to t (wrapped (o + 8)) w target ∙ ap (λ (k : ℕ). load_event k to t (wrapped (o + 8)) w) (sym number) ∙ ap (λ (k : ℕ). load_event view.number to t k w) (sym f))),
              same_cells n words (put x.cells to w) (holding s (space.Cell to) bytes) (chosen last (ring_of first hit) (holding s (space.Cell to) bytes)) (λ a. refl) (same_put n words x.cells s same bytes w refl to target),
              Onward hit (onto_at hit (put x.cells to w)) (chooses hit (put x.cells to w) (holding s (space.Cell to) bytes) refl refl),
            )
          where
            reads : (tables : List (List ℕ)) → SawWord tables t (wrapped (o + 8)) (word bytes 0) → graph_turn taking (run.loads c words tables x.cells to t (wrapped (o + 8)) (To hit)) ≡ record { tables = tables; state = onto hit (put x.cells to (word bytes 0)); event = shown_load c to t (wrapped (o + 8)) (word bytes 0) }
            reads tables saw =
                let has : has_word tables t (wrapped (o + 8)) ≡ true = saw.has in
                let word_is : word_in tables t (wrapped (o + 8)) ≡ word bytes 0 = saw.is in
                rw (has, word_is) refl

      probe_follows : (at k : ℕ) (looked loaded : List ℕ) → at ≡ o → k ≡ held words x.cells key → AfterEnd last s (probed view.number to t last (ring_of first hit) (ring_of first miss) s at k looked loaded)
      probe_follows at k looked loaded e f = by_look (lies_in looked at)
        where
          v : ℕ
          v = word (bytes_at looked at 8) 0

          next : ℕ
          next = (at + 8) % 2 ^ 64

          next_is : next ≡ wrapped (o + 8)
          next_is = ap (λ (j : ℕ). (j + 8) % 2 ^ 64) e

          by_load : (low_48 v == low_48 k) ≡ true → (inside : Bool) → AfterEnd last s (cond inside (Leaves (chosen last (ring_of first hit) (holding s (space.Cell to) (bytes_at loaded next 8))) (shows.Look view.number t at v ∷ load_event view.number to t next (word (bytes_at loaded next 8) 0))) (Stops s (shows.Look view.number t at v ∷ shows.Fault view.number t next ∷ [])))
          by_load h true = load_goes at v next e next_is (ap (λ (j : ℕ). low_48 v == low_48 j) (sym f) ∙ h) (bytes_at loaded next 8)
          by_load h false = load_faults at v next e next_is (ap (λ (j : ℕ). low_48 v == low_48 j) (sym f) ∙ h)

          by_key : (found : Bool) → (low_48 v == low_48 k) ≡ found → AfterEnd last s (cond found (cond (lies_in loaded next) (Leaves (chosen last (ring_of first hit) (holding s (space.Cell to) (bytes_at loaded next 8))) (shows.Look view.number t at v ∷ load_event view.number to t next (word (bytes_at loaded next 8) 0))) (Stops s (shows.Look view.number t at v ∷ shows.Fault view.number t next ∷ []))) (Leaves (chosen last (ring_of first miss) s) (shows.Look view.number t at v ∷ [])))
          by_key true h = by_load h (lies_in loaded next)
          by_key false h = look_misses at v e (ap (λ (j : ℕ). low_48 v == low_48 j) (sym f) ∙ h)

          by_look : (inside : Bool) → AfterEnd last s (cond inside (cond (low_48 v == low_48 k) (cond (lies_in loaded next) (Leaves (chosen last (ring_of first hit) (holding s (space.Cell to) (bytes_at loaded next 8))) (shows.Look view.number t at v ∷ load_event view.number to t next (word (bytes_at loaded next 8) 0))) (Stops s (shows.Look view.number t at v ∷ shows.Fault view.number t next ∷ []))) (Leaves (chosen last (ring_of first miss) s) (shows.Look view.number t at v ∷ []))) (Stops s (shows.Fault view.number t at ∷ [])))
          by_look true = by_key (low_48 v == low_48 k) refl
          by_look false = look_faults at e

    -- a reply ends the chain
    reply_follows : (cells : List Cell) → b.end ≡ Reply cells → All (IsCell n) cells → All IsWord cells → length cells ≤ 8 → AfterEnd last s (Leaves s (shows.Reply view.number (length cells) (replied s cells) ∷ []))
    unfolding end_does
    reply_follows cells is fits small few =
        let z : GraphState = state_on x x.cells Out in
        let held_are : map (word_of s) cells ≡ map (held words x.cells) cells = held_all n words x.cells s same cells fits small in
        let long : length (map (held words x.cells) cells) ≡ length cells = length-map cells (held words x.cells) in
        let eight_are : replied s cells ≡ eight (map (held words x.cells) cells) = eight_words (map (word_of s) cells) (omega (arith, length-map cells (word_of s))) ∙ ap eight held_are in (
          z,
          one_step c mail g x z (shows.Reply c (length (map (held words x.cells) cells)) (eight (map (held words x.cells) cells))) _
              (λ tables h. first_step tables ∙ ap (λ (e : End). graph_turn x (end_does c words tables x.cells false e)) is)
              (ap (λ (k : ℕ). shows.Reply k (length (map (held words x.cells) cells)) (eight (map (held words x.cells) cells)) ∷ []) (sym number)
              ∙ ap (λ (k : ℕ). shows.Reply view.number k (eight (map (held words x.cells) cells)) ∷ []) long ∙ ap (λ (l : List ℕ). shows.Reply view.number (length cells) l ∷ []) (sym eight_are)),
          same,
          Ended refl,
        )

-- the last ENABLE of a ring, from the first slot of its end on
abbrev pub last_slot : SlotRef → End → SlotRef
last_slot at (Jump to) = slots_from at 1
last_slot at (Test48 left right met unmet) = slots_from at 6
last_slot at (Test64 left right met unmet) = slots_from at 10
last_slot at (Probe to t offset key hit miss) = slots_from at 15
last_slot at (Reply words) = slots_from at (length words + 1)

module _ (c : ℕ) (mail : Mail) (g : Graph) (n : Things) (first block : ℕ) (b : Block) (there : slice_get g.blocks block ≡ Some b) (x : GraphState) (at_x : IsAt block (length b.instrs) x)
    (behind : slice_get b.instrs (length b.instrs) ≡ None) (view : View) (number : view.number ≡ c) (s : Bytes) (whole : IsWhole s) (same : Same n (in_hand mail x) x.cells s) (at : SlotRef) where
  -- each end does beside the graph what its part does
  pub end_follows : (e : End) → b.end ≡ e → FitsEnd n e → EndWords e → length (s (space.Slot (last_slot at e))) ≡ 64 → AfterEnd c mail g n first block b there x at_x behind (last_slot at e) s (part_effect at (end_part first e) view s)
  unfolding end_does
  end_follows (Jump to) is fits small long = goes_to c mail g n first block b there x at_x behind view number s whole same (slots_from at 1) long to (λ tables. ap (end_does c (in_hand mail x) tables x.cells false) is)
  end_follows (Test48 left right met unmet) is fits small long =
      let l = same.cells left fits.0 small.0 in
      let r = same.cells right fits.1 small.1 in
      goes_by c mail g n first block b there x at_x behind view number s whole same (slots_from at 6) long (low_48 (word_of s left) == low_48 (word_of s right))
      (same_low (held (in_hand mail x) x.cells left) (held (in_hand mail x) x.cells right)) met unmet (ap (λ (k : ℕ). low_48 k == low_48 (word_of s right)) l ∙ ap (λ (k : ℕ). low_48 (held (in_hand mail x) x.cells left) == low_48 k) r)
      (λ tables. ap (end_does c (in_hand mail x) tables x.cells false) is)
  end_follows (Test64 left right met unmet) is fits small long =
      let l = same.cells left fits.0 small.0 in
      let r = same.cells right fits.1 small.1 in
      goes_by c mail g n first block b there x at_x behind view number s whole same (slots_from at 10) long (word_of s left == word_of s right) (held (in_hand mail x) x.cells left == held (in_hand mail x) x.cells right) met unmet
      (ap (λ (k : ℕ). k == word_of s right) l ∙ ap (λ (k : ℕ). held (in_hand mail x) x.cells left == k) r) (λ tables. ap (end_does c (in_hand mail x) tables x.cells false) is)
  end_follows (Probe to t offset key hit miss) is fits small long =
      probe_follows c mail g n first block b there x at_x behind view number s whole same (slots_from at 15) long to t offset key hit miss is fits.0 (word_of s offset) (word_of s key) (view.tables (slots_from at 6) t)
      (view.tables (slots_from at 13) t) (same.cells offset fits.2 small.0) (same.cells key fits.3 small.1)
  end_follows (Reply cells) is fits small long = reply_follows c mail g n first block b there x at_x behind view number s whole same (slots_from at (length cells + 1)) long cells is fits.0 small fits.2
