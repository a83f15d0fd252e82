-- A step that tells an event leads to the state that is told from the word that it looked at.
use Rattle.std.proofs.Common.{◌≡◌, ◌≢◌, ℕ, zero, suc, ◌+◌, ◌<◌, ◌^◌, Bool, true, false, cond, List, [], ◌∷◌, ◌++◌, length, take, drop, refl, sym, ap, ◌∙◌, subst, arith, length-append}
use Rattle.std.specs.Prelude.{slice_get, Option, Some, None, nat_le, replicate, slice_set}
use Rattle.std.proofs.lemmas.Bool.{le-leb}
use Rattle.std.proofs.lemmas.Bool.Decides.{nat_tests}
use Rattle.std.proofs.lemmas.List.{length-replicate}
use Rattle.redn_words.specs.declared.types.Obs.{Obs}
use Rattle.redn_words.specs.declared.types.Obs.TheVariants as shows
use Rattle.redn_words.specs.Words.{word, spelled}
use Rattle.redn_words.specs.Landings.{Change}
use Rattle.redn_words.proofs.Numbers.{length-spelled}
use Rattle.redn_segment.proofs.Kept.{word_is}
use Rattle.redn_kernel.specs.declared.types.Cell.{Cell}
use Rattle.redn_kernel.specs.declared.types.Cell.TheVariants as cell
use Rattle.redn_kernel.specs.Source.{bytes_of, has_word, word_in}
use Rattle.redn_kernel.specs.CoreRun.{Cells, held, put, shown_put, shown_load}
use Rattle.redn_graph.specs.declared.types.Instr.{Instr}
use Rattle.redn_graph.specs.declared.types.Instr.TheVariants.{Set, Move, Add, Load, Store}
use Rattle.redn_graph.specs.declared.types.End.{End}
use Rattle.redn_graph.specs.declared.types.End.TheVariants.{Jump, Test48, Test64, Probe, Reply}
use Rattle.redn_graph.specs.declared.types.Block.{Block}
use Rattle.redn_graph.specs.Run.{Mail, in_hand, GraphState, GraphTurn, Effect, Way, effect, within, instr_does, end_does, graph_step, instr_or_end, block_turn, stays, graph_turn}
use Rattle.redn_image.specs.Faithful.{IsClean}
use Rattle.redn_block.specs.Plays.{IsTrueOf}
use Rattle.redn_proof_block.specs.Left.{Course, Tells}
use Rattle.redn_proof_chain.specs.FormLaws.{StepsShow}
use Rattle.redn_proof_chain.proofs.Bytewise.{take_whole}
use Rattle.redn_proof_chain.specs.States.{Spot, spot, instr_spot, end_spot, part_spot, block_spot, next_spot, tables_with, stepped, behind, Reads, Shows}

-- an event that tells of a table tells of this word of it
abbrev pub IsAtSpot : Spot → Obs → Type 0
IsAtSpot p (shows.Load c x t o w) = spot t o ≡ p
IsAtSpot p (shows.Look c t o w) = spot t o ≡ p
IsAtSpot p (shows.Store c t o w) = spot t o ≡ p
IsAtSpot p (shows.Fault c t o) = spot t o ≡ p
IsAtSpot p _ = Unit {0}

module _ (c : ℕ) (words : List ℕ) (tables : List (List ℕ)) (s : Cells) where
  put_spot : (to : Cell) (v : ℕ) (p : Spot) → IsAtSpot p (shown_put c to v)
  put_spot (cell.Var x) v p = tt
  put_spot _ v p = tt

  load_spot : (to : Cell) (t o v : ℕ) → IsAtSpot (spot t o) (shown_load c to t o v)
  load_spot (cell.Var x) t o v = refl
  load_spot _ t o v = refl

  within_spot : (t o : ℕ) (e : Effect) → IsAtSpot (spot t o) e.event → IsAtSpot (spot t o) (within c words tables s t o e).event
  within_spot t o e h = by_word (has_word tables t o)
    where
      by_word : (b : Bool) → IsAtSpot (spot t o) (cond b e (effect c words tables s s Way.Out (shows.Fault c t o))).event
      by_word true = h
      by_word false = refl

  instr_there : (i : Instr) → IsAtSpot (instr_spot words s i) (instr_does c words tables s i).event
  unfolding instr_does
  instr_there (Set to v) = put_spot to v (spot 0 0)
  instr_there (Move to from) = put_spot to _ (spot 0 0)
  instr_there (Add to by) = put_spot to _ (spot 0 0)
  instr_there (Load to table offset) = within_spot table _ _ (load_spot to table _ _)
  instr_there (Store table offset from) = within_spot table _ _ refl

  end_there : (taking : Bool) (end : End) → IsAtSpot (end_spot words s taking end) (end_does c words tables s taking end).event
  unfolding end_does
  end_there taking (Jump to) = tt
  end_there taking (Test48 left right met unmet) = tt
  end_there taking (Test64 left right met unmet) = tt
  end_there false (Probe to table offset key hit miss) = within_spot table _ _ refl
  end_there true (Probe to table offset key hit miss) = within_spot table _ _ (load_spot to table _ _)
  end_there taking (Reply cells) = tt

part_there : (c : ℕ) (mail : Mail) (tables : List (List ℕ)) (x : GraphState) (i : Option Instr) (end : End) → IsAtSpot (part_spot (in_hand mail x) x.cells x.taking i end) (instr_or_end c mail tables x i end).event
part_there c mail tables x (Some i) end = instr_there c (in_hand mail x) tables x.cells i
part_there c mail tables x None end = end_there c (in_hand mail x) tables x.cells x.taking end

pub spot_there : (c : Course) (tables : List (List ℕ)) (x : GraphState) → IsAtSpot (next_spot c x) (graph_step c.number c.mail tables x c.graph).event
unfolding graph_step
spot_there c tables x = by_end x.ended
  where
    by_block : (b : Option Block) → IsAtSpot (block_spot (in_hand c.mail x) x.cells x.taking x.place b) (block_turn c.number c.mail tables x b).event
    by_block None = tt
    by_block (Some b) = part_there c.number c.mail tables x (slice_get b.instrs x.place) b.end

    by_end : (b : Bool) → IsAtSpot (next_spot c x) (cond b (stays tables x) (block_turn c.number c.mail tables x (slice_get c.graph.blocks x.block))).event
    by_end true = tt
    by_end false = by_block (slice_get c.graph.blocks x.block)

-- the word there
drop_zeros : (o : ℕ) (l : List ℕ) → drop o (replicate o 0 ++ l) ≡ l
drop_zeros zero l = refl
drop_zeros (suc o) l = drop_zeros o l

table_at : (t : ℕ) (l : List ℕ) → bytes_of (replicate t [] ++ l ∷ []) t ≡ l
table_at zero l = refl
table_at (suc t) l = table_at t l

module _ (p : Spot) (w : ℕ) where
  abbrev its : List ℕ
  its = replicate p.offset 0 ++ spelled 8 w

  there_is : bytes_of (tables_with p w) p.table ≡ its
  there_is = table_at p.table its

  long : length its ≡ p.offset + 8
  long = length-append (replicate p.offset 0) (spelled 8 w) ∙ ap (λ (n : ℕ). n + length (spelled 8 w)) (length-replicate p.offset 0) ∙ ap (λ (n : ℕ). p.offset + n) (length-spelled 8 w)

  has_it : has_word (tables_with p w) p.table p.offset ≡ true
  has_it = ap (λ (l : List ℕ). nat_le (p.offset + 8) (length l)) there_is ∙ ap (λ (n : ℕ). nat_le (p.offset + 8) n) long ∙ le-leb (p.offset + 8) (p.offset + 8) (omega arith)

  is_it : w < 2 ^ 64 → word_in (tables_with p w) p.table p.offset ≡ w
  is_it small = ap (λ (l : List ℕ). word l p.offset) there_is ∙ word_is 8 w p.offset its (ap (take 8) (drop_zeros p.offset (spelled 8 w)) ∙ take_whole (spelled 8 w) 8 (length-spelled 8 w)) small

module _ (c : Course) (x : GraphState) (e : Obs) (z : GraphState) (tells : Tells c x e z) (w : ℕ) where
  by_spot : (p : Spot) → IsTrueOf (tables_with p w) e → (IsAtSpot (next_spot c x) e → p ≡ next_spot c x) → stepped c x w ≡ z
  by_spot p is_true same =
      let turn = tells (tables_with p w) is_true in
      let at : IsAtSpot (next_spot c x) e = subst (IsAtSpot (next_spot c x)) (ap (λ (t : GraphTurn). t.event) turn) (spot_there c (tables_with p w) x) in
      subst (λ (q : Spot). (graph_step c.number c.mail (tables_with q w) x c.graph).state ≡ z) (same at) (ap (λ (t : GraphTurn). t.state) turn)

pub stepped_is : (c : Course) (x : GraphState) (e : Obs) (z : GraphState) → Tells c x e z → (w : ℕ) → Reads e w → stepped c x w ≡ z
stepped_is c x (shows.Nothing) z tells w r = by_spot c x shows.Nothing z tells w (next_spot c x) tt (λ at. refl)
stepped_is c x (shows.Set n v u) z tells w r = by_spot c x (shows.Set n v u) z tells w (next_spot c x) tt (λ at. refl)
stepped_is c x (shows.Load n v t o u) z tells w r = by_spot c x (shows.Load n v t o u) z tells w (spot t o) (has_it (spot t o) w, is_it (spot t o) w r.1 ∙ sym r.0) (λ at. at)
stepped_is c x (shows.Look n t o u) z tells w r = by_spot c x (shows.Look n t o u) z tells w (spot t o) (has_it (spot t o) w, is_it (spot t o) w r.1 ∙ sym r.0) (λ at. at)
stepped_is c x (shows.Store n t o u) z tells w r = by_spot c x (shows.Store n t o u) z tells w (spot t o) (has_it (spot t o) w) (λ at. at)
stepped_is c x (shows.Fault n t o) z tells w r = absurd r
stepped_is c x (shows.Reply n k ws) z tells w r = by_spot c x (shows.Reply n k ws) z tells w (next_spot c x) tt (λ at. refl)
stepped_is c x (shows.Stale q i) z tells w r = by_spot c x (shows.Stale q i) z tells w (next_spot c x) tt (λ at. refl)
stepped_is c x (shows.Undefined q i) z tells w r = by_spot c x (shows.Undefined q i) z tells w (next_spot c x) tt (λ at. refl)
stepped_is c x (shows.Refused q i) z tells w r = by_spot c x (shows.Refused q i) z tells w (next_spot c x) tt (λ at. refl)
stepped_is c x (shows.Odd q i) z tells w r = by_spot c x (shows.Odd q i) z tells w (next_spot c x) tt (λ at. refl)

no_word : (t o : ℕ) → has_word [] t o ≡ false
no_word t o = let e : bytes_of [] t ≡ [] = refl in ap (λ (l : List ℕ). nat_le (o + 8) (length l)) e ∙ le_false (o + 8) 0 (omega arith)
  where
    le_false : (a b : ℕ) → b < a → nat_le a b ≡ false
    le_false a b h = grind (arith, nat_tests)

-- a graph shows nothing odd
module _ (c : ℕ) (words : List ℕ) (tables : List (List ℕ)) (s : Cells) where
  put_clean : (to : Cell) (v : ℕ) → IsClean (shown_put c to v)
  put_clean (cell.Var x) v = tt
  put_clean _ v = tt

  load_clean : (to : Cell) (t o v : ℕ) → IsClean (shown_load c to t o v)
  load_clean (cell.Var x) t o v = tt
  load_clean _ t o v = tt

  within_clean : (t o : ℕ) (e : Effect) → IsClean e.event → IsClean (within c words tables s t o e).event
  within_clean t o e h = by_word (has_word tables t o)
    where
      by_word : (b : Bool) → IsClean (cond b e (effect c words tables s s Way.Out (shows.Fault c t o))).event
      by_word true = h
      by_word false = tt

  instr_clean : (i : Instr) → IsClean (instr_does c words tables s i).event
  unfolding instr_does
  instr_clean (Set to v) = put_clean to v
  instr_clean (Move to from) = put_clean to _
  instr_clean (Add to by) = put_clean to _
  instr_clean (Load to table offset) = within_clean table _ _ (load_clean to table _ _)
  instr_clean (Store table offset from) = within_clean table _ _ tt

  end_clean : (taking : Bool) (end : End) → IsClean (end_does c words tables s taking end).event
  unfolding end_does
  end_clean taking (Jump to) = tt
  end_clean taking (Test48 left right met unmet) = tt
  end_clean taking (Test64 left right met unmet) = tt
  end_clean false (Probe to table offset key hit miss) = within_clean table _ _ tt
  end_clean true (Probe to table offset key hit miss) = within_clean table _ _ (load_clean to table _ _)
  end_clean taking (Reply cells) = tt

part_clean : (c : ℕ) (mail : Mail) (tables : List (List ℕ)) (x : GraphState) (i : Option Instr) (end : End) → IsClean (instr_or_end c mail tables x i end).event
part_clean c mail tables x (Some i) end = instr_clean c (in_hand mail x) tables x.cells i
part_clean c mail tables x None end = end_clean c (in_hand mail x) tables x.cells x.taking end

pub graph_clean : (c : Course) (tables : List (List ℕ)) (x : GraphState) → IsClean (graph_step c.number c.mail tables x c.graph).event
unfolding graph_step
graph_clean c tables x = by_end x.ended
  where
    by_block : (b : Option Block) → IsClean (block_turn c.number c.mail tables x b).event
    by_block None = tt
    by_block (Some b) = part_clean c.number c.mail tables x (slice_get b.instrs x.place) b.end

    by_end : (b : Bool) → IsClean (cond b (stays tables x) (block_turn c.number c.mail tables x (slice_get c.graph.blocks x.block))).event
    by_end true = tt
    by_end false = by_block (slice_get c.graph.blocks x.block)

-- what a step leaves, by what it shows
abbrev pub IsBehind : Obs → GraphState → GraphState → Type 0
IsBehind shows.Nothing x z = z.cells.vars ≡ x.cells.vars
IsBehind (shows.Set c v w) x z = z.cells.vars ≡ slice_set x.cells.vars v w
IsBehind (shows.Load c v t o w) x z = z.cells.vars ≡ slice_set x.cells.vars v w
IsBehind (shows.Look c t o w) x z = z.cells.vars ≡ x.cells.vars
IsBehind (shows.Store c t o w) x z = z.cells.vars ≡ x.cells.vars
IsBehind (shows.Reply c n ws) x z = (z.ended ≡ true) × (z.cells.vars ≡ x.cells.vars)
IsBehind (shows.Fault c t o) x z = z ≡ record x { ended = true }
IsBehind _ x z = Unit {0}

module _ (c : ℕ) (mail : Mail) (tables : List (List ℕ)) (x : GraphState) where
  abbrev words : List ℕ
  words = in_hand mail x

  abbrev Leaves : Effect → Type 0
  Leaves e = IsBehind e.event x (graph_turn x e).state

  sets_behind : (to : Cell) (v : ℕ) → Leaves (effect c words tables x.cells (put x.cells to v) Way.On (shown_put c to v))
  sets_behind (cell.Var y) v = refl
  sets_behind _ v = refl

  on_behind : (to : Cell) (t o v : ℕ) → Leaves (effect c words tables x.cells (put x.cells to v) Way.On (shown_load c to t o v))
  on_behind (cell.Var y) t o v = refl
  on_behind _ t o v = refl

  to_behind : (block : ℕ) (to : Cell) (t o v : ℕ) → Leaves (effect c words tables x.cells (put x.cells to v) (Way.To block) (shown_load c to t o v))
  to_behind block (cell.Var y) t o v = refl
  to_behind block _ t o v = refl

  within_behind : (t o : ℕ) (e : Effect) → Leaves e → Leaves (within c words tables x.cells t o e)
  within_behind t o e h = by_word (has_word tables t o)
    where
      by_word : (b : Bool) → Leaves (cond b e (effect c words tables x.cells x.cells Way.Out (shows.Fault c t o)))
      by_word true = h
      by_word false = refl

  looks_behind : (b : Bool) (t o w miss : ℕ) → Leaves (effect c words tables x.cells x.cells (cond b Way.Taking (Way.To miss)) (shows.Look c t o w))
  looks_behind true t o w miss = refl
  looks_behind false t o w miss = refl

  probe_behind : (to : Cell) (table : ℕ) (offset key : Cell) (hit miss : ℕ) (taking : Bool) → Leaves (end_does c words tables x.cells taking (Probe to table offset key hit miss))
  unfolding end_does
  probe_behind to table offset key hit miss false = within_behind table _ _ (looks_behind _ table (held words x.cells offset) (word_in tables table (held words x.cells offset)) miss)
  probe_behind to table offset key hit miss true = within_behind table _ _ (to_behind hit to table _ _)

  part_behind : (i : Option Instr) (end : End) → Leaves (instr_or_end c mail tables x i end)
  unfolding instr_does end_does
  part_behind (Some (Set to v)) end = sets_behind to v
  part_behind (Some (Move to from)) end = sets_behind to _
  part_behind (Some (Add to by)) end = sets_behind to _
  part_behind (Some (Load to table offset)) end = within_behind table _ _ (on_behind to table _ _)
  part_behind (Some (Store table offset from)) end = within_behind table _ _ refl
  part_behind None (Jump to) = refl
  part_behind None (Test48 left right met unmet) = refl
  part_behind None (Test64 left right met unmet) = refl
  part_behind None (Probe to table offset key hit miss) = probe_behind to table offset key hit miss x.taking
  part_behind None (Reply cells) = (refl, refl)

pub graph_behind : (c : Course) (tables : List (List ℕ)) (x : GraphState) → IsBehind (graph_step c.number c.mail tables x c.graph).event x (graph_step c.number c.mail tables x c.graph).state
unfolding graph_step
graph_behind c tables x = by_end x.ended
  where
    by_block : (b : Option Block) → IsBehind (block_turn c.number c.mail tables x b).event x (block_turn c.number c.mail tables x b).state
    by_block None = refl
    by_block (Some b) = part_behind c.number c.mail tables x (slice_get b.instrs x.place) b.end

    by_end : (b : Bool) →
        IsBehind (cond b (stays tables x) (block_turn c.number c.mail tables x (slice_get c.graph.blocks x.block))).event x (cond b (stays tables x) (block_turn c.number c.mail tables x (slice_get c.graph.blocks x.block))).state
    by_end true = refl
    by_end false = by_block (slice_get c.graph.blocks x.block)

-- what a step that tells an event leaves
module _ (c : Course) (x : GraphState) (o : Obs) (z : GraphState) (tells : Tells c x o z) where
  over_tables : (tables : List (List ℕ)) → IsTrueOf tables o → IsClean o × IsBehind o x z
  over_tables tables is_true =
      let turn = tells tables is_true in
      (subst IsClean (ap (λ (t : GraphTurn). t.event) turn) (graph_clean c tables x), subst (λ (t : GraphTurn). IsBehind t.event x t.state) turn (graph_behind c tables x))

pub step_leaves : (c : Course) (x : GraphState) (o : Obs) (z : GraphState) → Tells c x o z → (w : ℕ) → Reads o w → IsClean o × IsBehind o x z
step_leaves c x (shows.Load n v t o u) z tells w r = over_tables c x (shows.Load n v t o u) z tells (tables_with (spot t o) w) (has_it (spot t o) w, is_it (spot t o) w r.1 ∙ sym r.0)
step_leaves c x (shows.Look n t o u) z tells w r = over_tables c x (shows.Look n t o u) z tells (tables_with (spot t o) w) (has_it (spot t o) w, is_it (spot t o) w r.1 ∙ sym r.0)
step_leaves c x (shows.Store n t o u) z tells w r = over_tables c x (shows.Store n t o u) z tells (tables_with (spot t o) w) (has_it (spot t o) w)
step_leaves c x (shows.Fault n t o) z tells w r = absurd r
step_leaves c x shows.Nothing z tells w r = over_tables c x shows.Nothing z tells [] tt
step_leaves c x (shows.Set n v u) z tells w r = over_tables c x (shows.Set n v u) z tells [] tt
step_leaves c x (shows.Reply n k ws) z tells w r = over_tables c x (shows.Reply n k ws) z tells [] tt
step_leaves c x (shows.Stale q i) z tells w r = over_tables c x (shows.Stale q i) z tells [] tt
step_leaves c x (shows.Undefined q i) z tells w r = over_tables c x (shows.Undefined q i) z tells [] tt
step_leaves c x (shows.Refused q i) z tells w r = over_tables c x (shows.Refused q i) z tells [] tt
step_leaves c x (shows.Odd q i) z tells w r = over_tables c x (shows.Odd q i) z tells [] tt

pub steps_show : StepsShow
steps_show c x e z tells =
    record {
      behind = λ sends writes some s. by_writes sends writes some s;
      fallen = λ n t o f. sym (subst (λ (k : Obs). IsBehind k x z) f (subst (λ (q : GraphTurn). IsBehind q.event x q.state) (tells [] (subst (IsTrueOf []) (sym f) (no_word t o))) (graph_behind c [] x)));
    }
  where
    by_writes : (sends : Bool) (writes : List Change) → e ≢ shows.Nothing → Shows sends writes e → behind c sends x writes ≡ z
    by_writes true writes some s = stepped_is c x e z tells 0 s
    by_writes false [] some s = absurd (some s)
    by_writes false (w ∷ rest) some s = stepped_is c x e z tells (word w.bytes 0) s
