-- What the effect of an instruction is for the graph.
use Rattle.std.proofs.Common.{◌≡◌, ℕ, suc, ◌+◌, ◌%◌, ◌^◌, Bool, true, false, cond, List, [], ◌∷◌, Some, refl, sym, ap, ◌∙◌, subst, arith}
use Rattle.std.specs.Prelude.{slice_get}
use Rattle.redn_words.specs.declared.types.Obs.{Obs}
use Rattle.redn_words.specs.declared.types.Obs.TheVariants as shows
use Rattle.redn_words.specs.Words.{bytes_at, word, spelled}
use Rattle.redn_kernel.specs.declared.types.Cell.{Cell}
use Rattle.redn_kernel.specs.declared.types.Cell.TheVariants.{Var, Hidden, Argument, Num}
use Rattle.redn_kernel.specs.CoreRun.{Cells, held, put, shown_put, shown_load}
use Rattle.redn_kernel.specs.Source.{wrapped, has_word, word_in}
use Rattle.redn_graph.specs.declared.types.Instr.{Instr}
use Rattle.redn_graph.specs.declared.types.Instr.TheVariants.{Set, Move, Add, Load, Store}
use Rattle.redn_graph.specs.declared.types.Block.{Block}
use Rattle.redn_graph.specs.declared.types.Graph.{Graph}
use Rattle.redn_graph.specs.Fits.{Things, IsCell, IsTarget, FitsInstr}
use Rattle.redn_graph.specs.Run as run
use Rattle.redn_graph.specs.Run.{Mail, GraphState, in_hand, GraphTurn, Way, On, Out, graph_step, graph_turn, block_turn, instr_or_end, instr_does, state_on, stays}
use Rattle.redn_segment.specs.declared.types.SlotRef.{SlotRef}
use Rattle.redn_segment.specs.declared.types.Space.TheVariants as space
use Rattle.redn_segment.specs.Plain as plain
use Rattle.redn_segment.specs.Plain.{Bytes, View, with_put}
use Rattle.redn_segment.specs.Primed.{IsWhole}
use Rattle.redn_segment.specs.Effects.{Effect, Leaves, Stops, word_of, holding, lies_in, set_event, load_event}
use Rattle.redn_block.specs.Blocks.{IsWord, InstrWords, instr_part, part_effect, slots_from}
use Rattle.redn_block.specs.Plays.{IsTrueOf, stored, told, StepTells, Leads}
use Rattle.redn_block.specs.Matches.{Same, IsAt}
use Rattle.redn_block.proofs.Spelled.{word_spelled}
use Rattle.redn_block.proofs.Cells.{same_put, same_cells, cell_of_target}

module _ (c : ℕ) (mail : Mail) (g : Graph) where
  -- one step shows one event
  pub one_step : (x z : GraphState) (e : Obs) (events : List Obs) → StepTells c mail g x e z → told e ≡ events → Leads c mail g x events z
  one_step x z e events tells is = subst (λ (l : List Obs). Leads c mail g x l z) is (alone e tells)
    where
      alone : (e : Obs) → StepTells c mail g x e z → Leads c mail g x (told e) z
      alone shows.Nothing tells = tells
      alone (shows.Set c x w) tells = (z, tells, refl)
      alone (shows.Load c x t o w) tells = (z, tells, refl)
      alone (shows.Look c t o w) tells = (z, tells, refl)
      alone (shows.Store c t o w) tells = (z, tells, refl)
      alone (shows.Reply c n ws) tells = (z, tells, refl)
      alone (shows.Fault c t o) tells = (z, tells, refl)
      alone (shows.Stale q i) tells = (z, tells, refl)
      alone (shows.Undefined q i) tells = (z, tells, refl)
      alone (shows.Refused q i) tells = (z, tells, refl)
      alone (shows.Odd q i) tells = (z, tells, refl)

  -- two steps show two events
  pub two_steps : (x y z : GraphState) (e f : Obs) (events : List Obs) → StepTells c mail g x e y → StepTells c mail g y f z → e ∷ f ∷ [] ≡ events → Leads c mail g x events z
  two_steps x y z e f events first second is = subst (λ (l : List Obs). Leads c mail g x l z) is (y, first, (z, second, refl))

-- events of targets
set_told : (n : Things) (c : ℕ) (to : Cell) (v w : ℕ) → IsTarget n to → w ≡ v → told (shown_put c to v) ≡ set_event c to w
set_told n c (Var x) v w l e = ap (λ (u : ℕ). shows.Set c x u ∷ []) (sym e)
set_told n c (Hidden k) v w l e = refl
set_told n c _ v w l e = absurd l

true_of_put : (tables : List (List ℕ)) (c : ℕ) (to : Cell) (v : ℕ) → stored tables (shown_put c to v) ≡ tables
true_of_put tables c (Var x) v = refl
true_of_put tables c _ v = refl

pub load_told : (n : Things) (c : ℕ) (to : Cell) (t o w : ℕ) → IsTarget n to → told (shown_load c to t o w) ≡ load_event c to t o w
load_told n c (Argument i) t o w l = absurd l
load_told n c (Num u) t o w l = absurd l
load_told n c _ t o w l = refl

pub load_alone : (n : Things) (c : ℕ) (to : Cell) (t o w : ℕ) → IsTarget n to → shown_load c to t o w ∷ [] ≡ load_event c to t o w
load_alone n c (Argument i) t o w l = absurd l
load_alone n c (Num u) t o w l = absurd l
load_alone n c _ t o w l = refl

-- what a load says of the tables
pub record SawWord (tables : List (List ℕ)) (t o w : ℕ) : Type 0 where
  pub has : has_word tables t o ≡ true
  pub is : word_in tables t o ≡ w

pub true_of_load : (n : Things) (tables : List (List ℕ)) (c : ℕ) (to : Cell) (t o w : ℕ) → IsTarget n to → IsTrueOf tables (shown_load c to t o w) → SawWord tables t o w
true_of_load n tables c (Argument i) t o w l h = absurd l
true_of_load n tables c (Num u) t o w l h = absurd l
true_of_load n tables c _ t o w l h = record { has = h.0; is = h.1 }

pub stored_by_load : (tables : List (List ℕ)) (c : ℕ) (to : Cell) (t o w : ℕ) → stored tables (shown_load c to t o w) ≡ tables
stored_by_load tables c (Var x) t o w = refl
stored_by_load tables c _ t o w = refl

module _ (c : ℕ) (mail : Mail) (g : Graph) (n : Things) (block place : ℕ) (b : Block) (there : slice_get g.blocks block ≡ Some b) (x : GraphState) (at_x : IsAt block place x) where
  abbrev words : List ℕ
  words = in_hand mail x

  -- the step of an instruction
  pub step_is : (i : Instr) → slice_get b.instrs place ≡ Some i → (tables : List (List ℕ)) → graph_step c mail tables x g ≡ graph_turn x (instr_does c words tables x.cells i)
  unfolding graph_step
  step_is i its tables =
      ap (λ (e : Bool). cond e (stays tables x) (block_turn c mail tables x (slice_get g.blocks x.block))) at_x.runs_on
      ∙ (ap (λ (k : ℕ). block_turn c mail tables x (slice_get g.blocks k)) at_x.block_is ∙ ap (block_turn c mail tables x) there ∙ ap (λ (k : ℕ). graph_turn x (instr_or_end c mail tables x (slice_get b.instrs k) b.end)) at_x.place_is
      ∙ ap (λ o. graph_turn x (instr_or_end c mail tables x o b.end)) its)

  abbrev pub next : Cells → GraphState
  next s = state_on x s On

  pub next_at : (s : Cells) → IsAt block (suc place) (next s)
  next_at s = record { block_is = at_x.block_is; place_is = ap suc at_x.place_is; taking_not = refl; runs_on = refl }

  -- what an effect has to be beside the graph
  abbrev pub After : Bytes → Effect → Type 0
  After s (Leaves t events) = (z : GraphState) × Leads c mail g x events z × Same n (in_hand mail z) z.cells t × IsAt block (suc place) z × ((r : ℕ) → t (space.Descriptor r) ≡ s (space.Descriptor r))
  After s (Stops t events) = (z : GraphState) × Leads c mail g x events z × (z.ended ≡ true)

  module _ (view : View) (number : view.number ≡ c) (s : Bytes) (whole : IsWhole s) (same : Same n words x.cells s) where
    -- a cell gets a word, and that is shown
    puts : (i : Instr) → slice_get b.instrs place ≡ Some i → (to : Cell) → IsTarget n to → (bytes : List ℕ) (v w : ℕ) → word bytes 0 ≡ v → w ≡ v → ((tables : List (List ℕ)) → instr_does c words tables x.cells i ≡ run.sets c words tables x.cells to v) → After s (Leaves (holding s (space.Cell to) bytes) (set_event view.number to w))
    puts i its to l bytes v w is same_word does =
        let z : GraphState = next (put x.cells to v) in (
          z,
          one_step c mail g x z (shown_put c to v) (set_event view.number to w)
              (λ tables h. step_is i its tables ∙ ap (graph_turn x) (does tables) ∙ ap (λ (t : List (List ℕ)). record { tables = t; state = z; event = shown_put c to v }) (sym (true_of_put tables c to v)))
              (set_told n c to v w l same_word ∙ ap (λ (k : ℕ). set_event k to w) (sym number)),
          same_put n words x.cells s same bytes v is to l,
          next_at (put x.cells to v),
          λ r. refl,
        )

    value : (a : Cell) → IsCell n a → IsWord a → word_of s a ≡ held words x.cells a
    value a m w = same.cells a m w

    -- the offset that a fault or a load tells
    loaded : (i : Instr) → slice_get b.instrs place ≡ Some i → (to : Cell) → IsTarget n to → (t o p : ℕ) (bytes : List ℕ) → o ≡ p → ((tables : List (List ℕ)) → instr_does c words tables x.cells i ≡ run.loads c words tables x.cells to t p On) → (inside : Bool) → After s (cond inside (Leaves (holding s (space.Cell to) bytes) (load_event view.number to t o (word bytes 0))) (Stops s (shows.Fault view.number t o ∷ [])))
    loaded i its to l t o p bytes e does true =
        let v : ℕ = word bytes 0 in
        let z : GraphState = next (put x.cells to v) in (
          z,
          one_step c mail g x z (shown_load c to t p v) (load_event view.number to t o v) (λ tables h.
              let saw = true_of_load n tables c to t p v l h in
              step_is i its tables ∙ ap (graph_turn x) (does tables) ∙ reads tables saw ∙ ap (λ (k : List (List ℕ)). record { tables = k; state = z; event = shown_load c to t p v }) (sym (stored_by_load tables c to t p v))) (load_told n c to t p v l ∙ ap (λ (k : ℕ). load_event k to t p v) (sym number) ∙ ap (λ (k : ℕ). load_event view.number to t k v) (sym e)),
          same_put n words x.cells s same bytes v refl to l,
          next_at (put x.cells to v),
          λ r. refl,
        )
      where
        reads : (tables : List (List ℕ)) → SawWord tables t p (word bytes 0) → graph_turn x (run.loads c words tables x.cells to t p On) ≡ record { tables = tables; state = next (put x.cells to (word bytes 0)); event = shown_load c to t p (word bytes 0) }
        reads tables saw =
            let has : has_word tables t p ≡ true = saw.has in
            let is : word_in tables t p ≡ word bytes 0 = saw.is in
            rw (has, is) refl
    loaded i its to l t o p bytes e does false =
        let z : GraphState = state_on x x.cells Out in (
          z,
          one_step c mail g x z (shows.Fault c t p) (shows.Fault view.number t o ∷ []) (λ tables h. step_is i its tables ∙ ap (graph_turn x) (does tables) ∙ rw h refl)
              (ap (λ (k : ℕ). shows.Fault k t p ∷ []) (sym number) ∙ ap (λ (k : ℕ). shows.Fault view.number t k ∷ []) (sym e)),
          refl,
        )

    stored_there : (i : Instr) → slice_get b.instrs place ≡ Some i → (t o p v w : ℕ) (bytes : List ℕ) → o ≡ p → w ≡ v → ((tables : List (List ℕ)) → instr_does c words tables x.cells i ≡ run.stores c words tables x.cells t p v) → (inside : Bool) → After s (cond inside (Leaves (with_put s (plain.put (space.Table t) o bytes)) (shows.Store view.number t o w ∷ [])) (Stops s (shows.Fault view.number t o ∷ [])))
    stored_there i its t o p v w bytes e f does true =
        let z : GraphState = next x.cells in (
          z,
          one_step c mail g x z (shows.Store c t p v) (shows.Store view.number t o w ∷ []) (λ tables h. step_is i its tables ∙ ap (graph_turn x) (does tables) ∙ rw h refl)
              (ap (λ (k : ℕ). shows.Store k t p v ∷ []) (sym number) ∙ ap (λ (k : ℕ). shows.Store view.number t k v ∷ []) (sym e) ∙ ap (λ (k : ℕ). shows.Store view.number t o k ∷ []) (sym f)),
          same_cells n words x.cells s (with_put s (plain.put (space.Table t) o bytes)) (λ a. refl) same,
          next_at x.cells,
          λ r. refl,
        )
    stored_there i its t o p v w bytes e f does false =
        let z : GraphState = state_on x x.cells Out in (
          z,
          one_step c mail g x z (shows.Fault c t p) (shows.Fault view.number t o ∷ []) (λ tables h. step_is i its tables ∙ ap (graph_turn x) (does tables) ∙ rw h refl)
              (ap (λ (k : ℕ). shows.Fault k t p ∷ []) (sym number) ∙ ap (λ (k : ℕ). shows.Fault view.number t k ∷ []) (sym e)),
          refl,
        )

    -- each instruction does beside the graph what its part does
    pub instr_follows : (at : SlotRef) (i : Instr) → slice_get b.instrs place ≡ Some i → FitsInstr n i → InstrWords i → After s (part_effect at (instr_part i) view s)
    unfolding instr_does
    instr_follows at (Set to v) its fits small =
        let w = value (Num v) tt small in
        puts (Set to v) its to fits (s (space.Cell (Num v))) v (word_of s (Num v)) w w (λ tables. refl)
    instr_follows at (Move to from) its fits small =
        let w = value from fits.1 small in
        puts (Move to from) its to fits.0 (s (space.Cell from)) (held words x.cells from) (word_of s from) w w (λ tables. refl)
    instr_follows at (Add to by) its fits small =
        let target = cell_of_target n to fits.0 in
        let first = value to target.0 target.1 in
        let second = value by fits.1 small in
        let sum : ℕ = (word_of s to + word_of s by) % 2 ^ 64 in
        let is : sum ≡ wrapped (held words x.cells to + held words x.cells by) = ap (λ (k : ℕ). (k + word_of s by) % 2 ^ 64) first ∙ ap (λ (k : ℕ). (held words x.cells to + k) % 2 ^ 64) second in
        puts (Add to by) its to fits.0 (spelled 8 sum) (wrapped (held words x.cells to + held words x.cells by)) sum (word_spelled sum (omega arith) ∙ is) is (λ tables. refl)
    instr_follows at (Load to t offset) its fits small =
        let o : ℕ = word_of s offset in
        let table : List ℕ = view.tables (slots_from at 1) t in
        loaded (Load to t offset) its to fits.0 t o (held words x.cells offset) (bytes_at table o 8) (value offset fits.2 small) (λ tables. refl) (lies_in table o)
    instr_follows at (Store t offset from) its fits small =
        let o : ℕ = word_of s offset in
        stored_there (Store t offset from) its t o (held words x.cells offset) (held words x.cells from) (word_of s from) (s (space.Cell from)) (value offset fits.1 small.0) (value from fits.2 small.1) (λ tables. refl) (lies_in (view.tables (slots_from at 1) t) o)
