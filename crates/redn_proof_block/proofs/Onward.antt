-- Where ends lead, and that no effect changes a descriptor.
use Rattle.std.proofs.Common.{◌≡◌, ℕ, ◌+◌, ◌%◌, ◌^◌, ◌<◌, Bool, true, false, cond, List, [], ◌∷◌, length, Some, None, refl, sym, ap, ◌∙◌, subst}
use Rattle.std.specs.Prelude.{slice_get, ◌==◌, if◌then◌else◌}
use Rattle.redn_words.specs.declared.types.Obs.{Obs}
use Rattle.redn_words.specs.declared.types.Obs.TheVariants as shows
use Rattle.redn_words.specs.Words.{bytes_at, word, low_48}
use Rattle.redn_words.proofs.Numbers.{number-bytes_at}
use Rattle.redn_kernel.specs.declared.types.Cell.{Cell}
use Rattle.redn_kernel.specs.declared.types.Cell.TheVariants as cell
use Rattle.redn_kernel.specs.CoreRun.{Cells, held, put}
use Rattle.redn_kernel.specs.Source.{wrapped, has_word, word_in, same_low}
use Rattle.redn_graph.specs.declared.types.Instr.{Instr}
use Rattle.redn_graph.specs.declared.types.Instr.TheVariants.{Load, Store}
use Rattle.redn_graph.specs.declared.types.End.{End}
use Rattle.redn_graph.specs.declared.types.End.TheVariants.{Jump, Test48, Test64, Probe, Reply}
use Rattle.redn_graph.specs.declared.types.Block.{Block}
use Rattle.redn_graph.specs.declared.types.Graph.{Graph}
use Rattle.redn_graph.specs.Fits.{Things, IsTarget, FitsEnd}
use Rattle.redn_graph.specs.Run as run
use Rattle.redn_graph.specs.Run.{Mail, in_hand, GraphState, GraphTurn, Way, To, Taking, Out, graph_step, graph_turn, block_turn, instr_or_end, end_does, state_on, stays}
use Rattle.redn_segment.specs.declared.types.SlotRef.{SlotRef}
use Rattle.redn_segment.specs.declared.types.Space.TheVariants as space
use Rattle.redn_segment.specs.Plain.{Bytes, View}
use Rattle.redn_segment.specs.Effects.{Effect, Leaves, Stops, word_of, lies_in, load_event, replied}
use Rattle.redn_block.specs.Blocks.{EndWords, instr_part, end_part, part_effect, slots_from}
use Rattle.redn_block.specs.Plays.{StepTells, EventSteps, Leads}
use Rattle.redn_block.specs.Matches.{Same, IsAt}
use Rattle.redn_proof_block.proofs.Views.{tables_for, true_of}

-- descriptors stay
abbrev pub Keeps : Bytes → Effect → Type 0
Keeps s (Leaves t events) = (ring : ℕ) → t (space.Descriptor ring) ≡ s (space.Descriptor ring)
Keeps s (Stops t events) = Unit {0}

keeps_by : (b : Bool) (s : Bytes) (e f : Effect) → Keeps s e → Keeps s f → Keeps s (cond b e f)
keeps_by true s e f h k = h
keeps_by false s e f h k = k

pub instr_keeps : (i : Instr) (at : SlotRef) (view : View) (s : Bytes) → Keeps s (part_effect at (instr_part i) view s)
instr_keeps (Load to t offset) at view s = keeps_by (lies_in (view.tables (slots_from at 1) t) (word_of s offset)) s _ _ (λ ring. refl) tt
instr_keeps (Store t offset from) at view s = keeps_by (lies_in (view.tables (slots_from at 1) t) (word_of s offset)) s _ _ (λ ring. refl) tt
instr_keeps _ at view s = λ ring. refl

pub end_keeps : (first : ℕ) (e : End) (at : SlotRef) (view : View) (s : Bytes) → Keeps s (part_effect at (end_part first e) view s)
end_keeps first (Probe to t offset key hit miss) at view s =
    keeps_by (lies_in (view.tables (slots_from at 6) t) (word_of s offset)) s _ _ (keeps_by (low_48 (word (bytes_at (view.tables (slots_from at 6) t) (word_of s offset) 8) 0) == low_48 (word_of s key)) s _ _ (keeps_by (lies_in (view.tables (slots_from at 13) t) ((word_of s offset + 8) % 2 ^ 64)) s _ _ (λ ring. refl) tt) (λ ring. refl)) tt
end_keeps first _ at view s = λ ring. refl

-- a reply ends its chain, and every other end leads to a block
abbrev pub LeadsTo : Things → End → GraphState → Type 0
LeadsTo n (Reply words) z = z.ended ≡ true
LeadsTo n _ z = (z.ended ≡ false) × (z.block < n.blocks)

module _ (c : ℕ) (mail : Mail) (g : Graph) (n : Things) (first block : ℕ) (b : Block) (there : slice_get g.blocks block ≡ Some b) (x : GraphState) (at_x : IsAt block (length b.instrs) x)
    (behind : slice_get b.instrs (length b.instrs) ≡ None) where
  abbrev words : List ℕ
  words = in_hand mail x

  step_end : (taking : Bool) (y : GraphState) → y.block ≡ block → y.place ≡ length b.instrs → y.ended ≡ false → y.taking ≡ taking → (tables : List (List ℕ)) →
      graph_step c mail tables y g ≡ graph_turn y (end_does c (in_hand mail y) tables y.cells taking b.end)
  unfolding graph_step
  step_end taking y in_block at_end runs is tables =
      ap (λ (e : Bool). cond e (stays tables y) (block_turn c mail tables y (slice_get g.blocks y.block))) runs
      ∙ (ap (λ (k : ℕ). block_turn c mail tables y (slice_get g.blocks k)) in_block ∙ ap (block_turn c mail tables y) there ∙ ap (λ (k : ℕ). graph_turn y (instr_or_end c mail tables y (slice_get b.instrs k) b.end)) at_end
      ∙ ap (λ o. graph_turn y (instr_or_end c mail tables y o b.end)) behind ∙ ap (λ (t : Bool). graph_turn y (end_does c (in_hand mail y) tables y.cells t b.end)) is)

  first_step : (e : End) → b.end ≡ e → (tables : List (List ℕ)) → graph_step c mail tables x g ≡ graph_turn x (end_does c words tables x.cells false e)
  first_step e is tables = step_end false x at_x.block_is at_x.place_is at_x.runs_on at_x.taking_not tables ∙ ap (λ (f : End). graph_turn x (end_does c words tables x.cells false f)) is

  onto : (k : ℕ) (cells : Cells) (y z : GraphState) → k < n.blocks → state_on y cells (To k) ≡ z → (z.ended ≡ false) × (z.block < n.blocks)
  onto k cells y z small e = subst (λ (w : GraphState). (w.ended ≡ false) × (w.block < n.blocks)) e (refl, small)

  both_small : (t : Bool) (met unmet : ℕ) → met < n.blocks → unmet < n.blocks → cond t met unmet < n.blocks
  both_small true met unmet a b = a
  both_small false met unmet a b = b

  -- silently on
  silent : (e : End) → b.end ≡ e → (k : ℕ) → k < n.blocks → end_does c words [] x.cells false e ≡ run.goes c words [] x.cells (To k) → (z : GraphState) → Leads c mail g x [] z → (z.ended ≡ false) × (z.block < n.blocks)
  silent e is k small does z h =
      onto k x.cells x z small (ap (λ (t : GraphTurn). t.state) (sym (first_step e is [] ∙ ap (graph_turn x) does) ∙ h [] tt))

  module _ (view : View) (s : Bytes) (same : Same n words x.cells s) where
    -- a look at a key, and where it matches a load behind it
    module _ (to : Cell) (t : ℕ) (offset key : Cell) (hit miss : ℕ) (is : b.end ≡ Probe to t offset key hit miss) (target : IsTarget n to) (met : hit < n.blocks) (unmet : miss < n.blocks) (o o_next kw : ℕ) (at_o : o ≡ held words x.cells offset) (at_next : o_next ≡ wrapped (held words x.cells offset + 8)) (at_key : kw ≡ held words x.cells key) (looked loaded : List ℕ) where
      abbrev seen : ℕ
      seen = word (bytes_at looked o 8) 0

      abbrev value : ℕ
      value = word (bytes_at loaded o_next 8) 0

      abbrev look : Obs
      look = shows.Look view.number t o seen

      abbrev table_of : List ℕ → Bytes
      table_of l p = l

      abbrev taking : GraphState
      taking = state_on x x.cells Taking

      looks_to : lies_in looked o ≡ true → (y : GraphState) → StepTells c mail g x look y → state_on x x.cells (if same_low seen (held words x.cells key) then Taking else To miss) ≡ y
      unfolding end_does
      looks_to lies y h =
          let tables : List (List ℕ) = tables_for (table_of looked) look in
          let known : (has_word tables t o ≡ true) × (word_in tables t o ≡ seen) = true_of (table_of looked) look (lies, number-bytes_at 8 looked o) in
          let step : graph_step c mail tables x g ≡ graph_turn x (run.looks c words tables x.cells t (held words x.cells offset) (held words x.cells key) miss) = first_step (Probe to t offset key hit miss) is tables in
          reads tables (ap (has_word tables t) (sym at_o) ∙ known.0) (ap (word_in tables t) (sym at_o) ∙ known.1) ∙ ap (λ (w : GraphTurn). w.state) (sym step ∙ h tables known)
        where
          reads : (tables : List (List ℕ)) → has_word tables t (held words x.cells offset) ≡ true → word_in tables t (held words x.cells offset) ≡ seen → state_on x x.cells (if same_low seen (held words x.cells key) then Taking else To miss) ≡ (graph_turn x (run.looks c words tables x.cells t (held words x.cells offset) (held words x.cells key) miss)).state
          reads tables has word_is = rw (has, word_is) refl

      loads_to : (e : Obs) (tables : List (List ℕ)) → has_word tables t o_next ≡ true → (z : GraphState) → graph_step c mail tables taking g ≡ record { tables = tables; state = z; event = e } → (z.ended ≡ false) × (z.block < n.blocks)
      unfolding end_does
      loads_to e tables has z h =
          let step : graph_step c mail tables taking g ≡ graph_turn taking (run.loads c words tables x.cells to t (wrapped (held words x.cells offset + 8)) (To hit)) = step_end true taking at_x.block_is at_x.place_is refl refl tables
          ∙ ap (λ (f : End). graph_turn taking (end_does c words tables x.cells true f)) is in
          onto hit (put x.cells to (word_in tables t (wrapped (held words x.cells offset + 8)))) taking z met (reads (ap (has_word tables t) (sym at_next) ∙ has) ∙ ap (λ (w : GraphTurn). w.state) (sym step ∙ h))
        where
          reads : has_word tables t (wrapped (held words x.cells offset + 8)) ≡ true → state_on taking (put x.cells to (word_in tables t (wrapped (held words x.cells offset + 8)))) (To hit) ≡ (graph_turn taking (run.loads c words tables x.cells to t (wrapped (held words x.cells offset + 8)) (To hit))).state
          reads has = rw has refl

      misses : lies_in looked o ≡ true → (low_48 seen == low_48 kw) ≡ false → (z : GraphState) → EventSteps c mail g x (look ∷ []) z → (z.ended ≡ false) × (z.block < n.blocks)
      misses lies other z h =
          onto miss x.cells x z unmet (ap (λ (b : Bool). state_on x x.cells (if b then Taking else To miss)) (sym (ap (λ (k : ℕ). low_48 seen == low_48 k) (sym at_key) ∙ other)) ∙ looks_to lies h.0 h.1 ∙ h.2)

      hits : lies_in looked o ≡ true → (low_48 seen == low_48 kw) ≡ true → lies_in loaded o_next ≡ true → (z : GraphState) → EventSteps c mail g x (look ∷ load_event view.number to t o_next value) z →
          (z.ended ≡ false) × (z.block < n.blocks)
      hits lies equal there_is z h =
          let takes : taking ≡ h.0 = ap (λ (b : Bool). state_on x x.cells (if b then Taking else To miss)) (sym (ap (λ (k : ℕ). low_48 seen == low_48 k) (sym at_key) ∙ equal)) ∙ looks_to lies h.0 h.1 in
          by_target to target h.0 takes h.2
        where
          by_target : (a : Cell) → IsTarget n a → (y : GraphState) → taking ≡ y → EventSteps c mail g y (load_event view.number a t o_next value) z → (z.ended ≡ false) × (z.block < n.blocks)
          by_target (cell.Var i) small y takes k =
              let e : Obs = shows.Load view.number i t o_next value in
              let tables : List (List ℕ) = tables_for (table_of loaded) e in
              let known : (has_word tables t o_next ≡ true) × (word_in tables t o_next ≡ value) = true_of (table_of loaded) e (there_is, number-bytes_at 8 loaded o_next) in
              loads_to e tables known.0 z (ap (λ (w : GraphState). graph_step c mail tables w g) takes ∙ k.1 tables known ∙ ap (λ (w : GraphState). let r : GraphTurn = record { tables = tables; state = w; event = e } in r) k.2)
          by_target (cell.Hidden i) small y takes k =
              let e : Obs = shows.Look view.number t o_next value in
              let tables : List (List ℕ) = tables_for (table_of loaded) e in
              let known : (has_word tables t o_next ≡ true) × (word_in tables t o_next ≡ value) = true_of (table_of loaded) e (there_is, number-bytes_at 8 loaded o_next) in
              loads_to e tables known.0 z (ap (λ (w : GraphState). graph_step c mail tables w g) takes ∙ k.1 tables known ∙ ap (λ (w : GraphState). let r : GraphTurn = record { tables = tables; state = w; event = e } in r) k.2)
          by_target (cell.Argument i) small y takes k = absurd small
          by_target (cell.Num v) small y takes k = absurd small

      probe_leads : (hit_left miss_left : Bytes) (stop_look stop_load u : Bytes) (fault_look fault_load events : List Obs) (i k j : Bool) → lies_in looked o ≡ i → (low_48 seen == low_48 kw) ≡ k → lies_in loaded o_next ≡ j →
          cond i (cond k (cond j (Leaves hit_left (look ∷ load_event view.number to t o_next value)) (Stops stop_load fault_load)) (Leaves miss_left (look ∷ []))) (Stops stop_look fault_look)
          ≡ Leaves u events → (z : GraphState) → Leads c mail g x events z → (z.ended ≡ false) × (z.block < n.blocks)
      probe_leads hit_left miss_left stop_look stop_load u fault_look fault_load events true true true a b d e z h =
          let same_events : look ∷ load_event view.number to t o_next value ≡ events = cc in
          hits a b d z (subst (λ (l : List Obs). Leads c mail g x l z) (sym same_events) h)
      probe_leads hit_left miss_left stop_look stop_load u fault_look fault_load events true true false a b d e z h = absurd (cc)
      probe_leads hit_left miss_left stop_look stop_load u fault_look fault_load events true false j a b d e z h =
          let same_events : look ∷ [] ≡ events = cc in
          misses a b z (subst (λ (l : List Obs). Leads c mail g x l z) (sym same_events) h)
      probe_leads hit_left miss_left stop_look stop_load u fault_look fault_load events false k j a b d e z h = absurd (cc)

    pub end_leads : (at : SlotRef) (e : End) → b.end ≡ e → FitsEnd n e → EndWords e → (u : Bytes) (events : List Obs) → part_effect at (end_part first e) view s ≡ Leaves u events → (z : GraphState) → Leads c mail g x events z →
        LeadsTo n e z
    unfolding end_does
    end_leads at (Jump to) is fits small u events e z h =
        let none : [] ≡ events = cc in
        silent (Jump to) is to fits refl z (subst (λ (l : List Obs). Leads c mail g x l z) (sym none) h)
    end_leads at (Test48 left right met unmet) is fits small u events e z h =
        let none : [] ≡ events = cc in
        let t : Bool = same_low (held words x.cells left) (held words x.cells right) in
        silent (Test48 left right met unmet) is (cond t met unmet) (both_small t met unmet fits.2 fits.3) refl z (subst (λ (l : List Obs). Leads c mail g x l z) (sym none) h)
    end_leads at (Test64 left right met unmet) is fits small u events e z h =
        let none : [] ≡ events = cc in
        let t : Bool = held words x.cells left == held words x.cells right in
        silent (Test64 left right met unmet) is (cond t met unmet) (both_small t met unmet fits.2 fits.3) refl z (subst (λ (l : List Obs). Leads c mail g x l z) (sym none) h)
    end_leads at (Probe to t offset key hit miss) is fits small u events e z h =
        let o : ℕ = word_of s offset in
        let o_is : o ≡ held words x.cells offset = same.cells offset fits.2 small.0 in
        let looked : List ℕ = view.tables (slots_from at 6) t in
        let loaded : List ℕ = view.tables (slots_from at 13) t in
        probe_leads to t offset key hit miss is fits.0 fits.4 fits.5 o ((o + 8) % 2 ^ 64) (word_of s key) o_is (ap (λ (k : ℕ). (k + 8) % 2 ^ 64) o_is) (same.cells key fits.3 small.1) looked loaded _ _ _ _ u _ _ events (lies_in looked o) (low_48 (word (bytes_at looked o 8) 0) == low_48 (word_of s key)) (lies_in loaded ((o + 8) % 2 ^ 64)) refl refl refl e z h
    end_leads at (Reply cells) is fits small u events e z h =
        let said : shows.Reply view.number (length cells) (replied s cells) ∷ [] ≡ events = cc in
        let k : EventSteps c mail g x (shows.Reply view.number (length cells) (replied s cells) ∷ []) z = subst (λ (l : List Obs). Leads c mail g x l z) (sym said) h in
        sym (ap (λ (y : GraphState). y.ended) k.2) ∙ ap (λ (t : GraphTurn). t.state.ended) (sym (k.1 [] tt) ∙ first_step (Reply cells) is [])
