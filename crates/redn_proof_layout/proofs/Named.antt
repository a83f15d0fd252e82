-- The drafts of a block name what its chain has.
use Rattle.std.proofs.Common.{◌≡◌, ℕ, zero, suc, ◌+◌, ◌<◌, Bool, true, List, [], ◌∷◌, ◌++◌, length, map, refl, sym, ap, ◌∙◌, subst, arith}
use Rattle.std.specs.Prelude.{slice_get}
use Rattle.std.specs.List.{list_all, All, AllByRecursion}
use Rattle.std.proofs.lemmas.Bool.{and_from, false≢true}
use Rattle.std.proofs.lemmas.List.{append-nil}
use Rattle.std.proofs.lemmas.List.Elements.{All-head, All-tail}
use Rattle.redn_kernel.specs.declared.types.Cell.{Cell}
use Rattle.redn_kernel.specs.declared.types.Cell.TheVariants as cell
use Rattle.redn_kernel.specs.declared.types.TableInit.{TableInit}
use Rattle.redn_kernel.specs.Program.{is_writable}
use Rattle.redn_graph.specs.declared.types.Instr.{Instr}
use Rattle.redn_graph.specs.declared.types.Instr.TheVariants.{Set, Move, Add, Load, Store}
use Rattle.redn_graph.specs.declared.types.End.{End}
use Rattle.redn_graph.specs.declared.types.End.TheVariants.{Jump, Test48, Test64, Probe, Reply}
use Rattle.redn_graph.specs.declared.types.Block.{Block}
use Rattle.redn_graph.specs.Fits.{Things, IsCell, IsTarget, FitsInstr, FitsEnd, FitsBlock}
use Rattle.redn_segment.specs.declared.types.SlotRef.{SlotRef}
use Rattle.redn_segment.specs.declared.types.Space.{Space}
use Rattle.redn_segment.specs.declared.types.Space.TheVariants as space
use Rattle.redn_segment.specs.declared.types.Draft.{Draft}
use Rattle.redn_segment.specs.Building.{drafts_of}
use Rattle.redn_segment.specs.Effects.{slot_behind}
use Rattle.redn_segment.proofs.Growing.{drafts_append}
use Rattle.redn_move.specs.Replying.{copies_from, send_words}
use Rattle.redn_block.specs.Blocks.{instr_part, end_part, part_segments, part_size, all_segments, ring_start, ring_of, block_segments}
use Rattle.redn_proof_ring.specs.Layouts.{has_sites}
use Rattle.redn_emit.specs.Layout.{number_in}
use Rattle.redn_proof_layout.proofs.Numbers.{Reads, stands_in}
use Rattle.redn_segment.proofs.Both.{all_append as all_of_both}

-- what a chain has, where its blocks name it
pub record HasThings (mine : Space → Bool) (cs : List ℕ) (n : Things) (first : ℕ) : Type 0 where
  pub vars : (x : ℕ) → x < n.vars → mine (space.Cell (cell.Var x)) ≡ true
  pub hidden : (k : ℕ) → k < n.hidden → mine (space.Cell (cell.Hidden k)) ≡ true
  pub args : (i : ℕ) → i < n.args → mine (space.Cell (cell.Argument i)) ≡ true
  pub numbers : (v : ℕ) → stands_in cs v ≡ true → mine (space.Cell (cell.Num v)) ≡ true
  pub tables : (t : ℕ) → t < length n.tables → mine (space.Table t) ≡ true
  pub rings : (b : ℕ) → b < n.blocks → mine (space.Descriptor (ring_of first b)) ≡ true
  pub reply : mine space.Reply ≡ true
  pub key : mine space.Key ≡ true
  pub scratch : (mine (space.Scratch 0) ≡ true) × (mine (space.Scratch 1) ≡ true)

-- a table that may be written is there
pub writable_there : (ts : List TableInit) (t : ℕ) → is_writable (slice_get ts t) ≡ true → t < length ts
writable_there [] t h = absurd (false≢true h)
writable_there (x ∷ ts) zero h = omega arith
writable_there (x ∷ ts) (suc t) h = let rest = writable_there ts t h in omega (arith, rest)

module _ (mine : Space → Bool) (cs : List ℕ) (n : Things) (first : ℕ) (has : HasThings mine cs n first) where
  -- a cell that is read
  read_cell : (x : Cell) → IsCell n x → AllByRecursion (λ (v : ℕ). stands_in cs v ≡ true) (number_in x) → mine (space.Cell x) ≡ true
  read_cell (cell.Var x) h r = has.vars x h
  read_cell (cell.Hidden k) h r = has.hidden k h
  read_cell (cell.Argument i) h r = has.args i h
  read_cell (cell.Num v) h r = has.numbers v r.0

  written_cell : (x : Cell) → IsTarget n x → mine (space.Cell x) ≡ true
  written_cell (cell.Var x) h = has.vars x h
  written_cell (cell.Hidden k) h = has.hidden k h
  written_cell _ h = absurd h

  abbrev Named : List Draft → Type 0
  Named ds = list_all (has_sites mine) ds ≡ true

  abbrev AllRead : List Draft → Type 0
  AllRead ds = AllByRecursion (Reads cs) ds

  add_named : (at : SlotRef) (to by : Cell) → IsTarget n to → IsCell n by → AllRead (drafts_of (part_segments at (instr_part (Add to by)))) → Named (drafts_of (part_segments at (instr_part (Add to by))))
  add_named at to (cell.Num v) h k r = let a = written_cell to h in let b = has.scratch.0 in rw (a, b) refl
  add_named at to (cell.Var x) h k r = let a = written_cell to h in let b = has.scratch.0 in let d = has.vars x k in rw (a, b, d) refl
  add_named at to (cell.Hidden x) h k r = let a = written_cell to h in let b = has.scratch.0 in let d = has.hidden x k in rw (a, b, d) refl
  add_named at to (cell.Argument x) h k r = let a = written_cell to h in let b = has.scratch.0 in let d = has.args x k in rw (a, b, d) refl

  instr_named : (at : SlotRef) (i : Instr) → FitsInstr n i → AllRead (drafts_of (part_segments at (instr_part i))) → Named (drafts_of (part_segments at (instr_part i)))
  instr_named at (Set to v) h r = let a = has.numbers v r.0.0 in let b = written_cell to h in rw (a, b) refl
  instr_named at (Move to from) h r = let a = read_cell from h.1 r.0 in let b = written_cell to h.0 in and_from _ _ (and_from _ _ a b) refl
  instr_named at (Add to by) h r = add_named at to by h.0 h.1 r
  instr_named at (Load to t offset) h r =
      let a = read_cell offset h.2 r.0 in
      let b = written_cell to h.0 in
      let d = has.tables t h.1 in
      and_from _ _ (and_from _ _ a refl) (and_from _ _ (and_from _ _ b d) refl)
  instr_named at (Store t offset from) h r =
      let a = read_cell offset h.1 r.0 in
      let b = read_cell from h.2 r.1.0 in
      let d = has.tables t (writable_there n.tables t h.0) in
      and_from _ _ (and_from _ _ a refl) (and_from _ _ (and_from _ _ b d) refl)

  copies_named : (i m : ℕ) (words : List Cell) → All (IsCell n) words → AllRead (copies_from i words ++ send_words m ∷ []) → Named (copies_from i words ++ send_words m ∷ [])
  copies_named i m [] h r = let a = has.reply in rw a refl
  copies_named i m (w ∷ ws) h r =
      and_from _ _ (and_from _ _ (read_cell w (All-head (IsCell n) w ws h) r.0) has.reply) (copies_named (i + 1) m ws (All-tail (IsCell n) w ws h) r.1)

  end_named : (at : SlotRef) (e : End) → FitsEnd n e → AllRead (drafts_of (part_segments at (end_part first e))) → Named (drafts_of (part_segments at (end_part first e)))
  end_named at (Jump to) h r = and_from _ _ (and_from _ _ (has.rings to h) refl) refl
  end_named at (Test48 left right met unmet) h r =
      and_from _ _ (and_from _ _ (has.numbers 0 r.0.0) refl) (and_from _ _ (and_from _ _ (read_cell left h.0 r.1.0) refl) (and_from _ _ (and_from _ _ (read_cell right h.1 r.1.1.0) refl) (and_from _ _ (and_from _ _ has.scratch.0 refl) (and_from _ _ (and_from _ _ (has.rings unmet h.3) refl) (and_from _ _ (and_from _ _ (has.rings met h.2) refl) refl)))))
  end_named at (Test64 left right met unmet) h r =
      and_from _ _ (and_from _ _ (has.numbers 0 r.0.0) refl) (and_from _ _ (and_from _ _ (read_cell left h.0 r.1.0) refl) (and_from _ _ (and_from _ _ (read_cell right h.1 r.1.1.0) refl) (and_from _ _ (and_from _ _ (has.numbers 0 r.0.0) refl) (and_from _ _ (and_from _ _ (read_cell left h.0 r.1.0) refl) (and_from _ _ (and_from _ _ (read_cell right h.1 r.1.1.0) refl) (and_from _ _ (and_from _ _ has.scratch.0 refl) (and_from _ _ (and_from _ _ (has.rings unmet h.3) refl) (and_from _ _ (and_from _ _ has.scratch.0 refl) (and_from _ _ (and_from _ _ (has.rings met h.2) refl) refl)))))))))
  end_named at (Probe to t offset key hit miss) h r =
      let zero_there = has.numbers 0 r.0.0 in
      let key_there = read_cell key h.3 r.1.1.0 in
      let offset_there = read_cell offset h.2 r.1.1.1.1.0 in
      let table_there = has.tables t h.1 in
      let key_word = has.key in
      let one = has.scratch.0 in
      let two = has.scratch.1 in
      let to_there = written_cell to h.0 in
      and_from _ _ (and_from _ _ zero_there refl) (and_from _ _ (and_from _ _ zero_there refl) (and_from _ _ (and_from _ _ key_there refl) (and_from _ _ (and_from _ _ key_there refl) (and_from _ _ (and_from _ _ offset_there refl) (and_from _ _ (and_from _ _ offset_there refl) (and_from _ _ (and_from _ _ key_word table_there) (and_from _ _ (and_from _ _ (has.rings miss h.5) refl) (and_from _ _ (and_from _ _ key_word refl) (and_from _ _ (and_from _ _ key_word refl) (and_from _ _ (and_from _ _ one refl) (and_from _ _ (and_from _ _ one refl) (and_from _ _ (and_from _ _ two refl) (and_from _ _ (and_from _ _ to_there table_there) (and_from _ _ (and_from _ _ (has.rings hit h.4) refl) refl))))))))))))))
  end_named at (Reply words) h r = copies_named 0 (length words) words h.0 r

  split_read : (xs ys : List Draft) → AllRead (xs ++ ys) → AllRead xs × AllRead ys
  split_read [] ys h = (tt, h)
  split_read (x ∷ xs) ys h = let rest = split_read xs ys h.1 in ((h.0, rest.0), rest.1)

  abbrev segments_of : SlotRef → List Instr → End → List (List Draft)
  segments_of at is e = all_segments at (map instr_part is ++ end_part first e ∷ [])

  named_from : (is : List Instr) (e : End) (at : SlotRef) → All (FitsInstr n) is → FitsEnd n e → AllRead (drafts_of (segments_of at is e)) → Named (drafts_of (segments_of at is e))
  named_from [] e at fits end r =
      let same : part_segments at (end_part first e) ++ [] ≡ part_segments at (end_part first e) = append-nil (part_segments at (end_part first e)) in
      subst (λ (l : List (List Draft)). Named (drafts_of l)) (sym same) (end_named at e end (subst (λ (l : List (List Draft)). AllRead (drafts_of l)) same r))
  named_from (i ∷ is) e at fits end r =
      let xs : List (List Draft) = part_segments at (instr_part i) in
      let ys : List (List Draft) = segments_of (slot_behind at (part_size at (instr_part i))) is e in
      let parts = split_read (drafts_of xs) (drafts_of ys) (subst AllRead (drafts_append xs ys) r) in
      ap (list_all (has_sites mine)) (drafts_append xs ys) ∙ all_of_both (has_sites mine) (drafts_of xs) (drafts_of ys) (instr_named at i (All-head (FitsInstr n) i is fits) parts.0) (named_from is e (slot_behind at (part_size at (instr_part i))) (All-tail (FitsInstr n) i is fits) end parts.1)

  pub block_named : (ring : ℕ) (b : Block) → FitsBlock n b → AllRead (drafts_of (block_segments first ring b)) → list_all (has_sites mine) (drafts_of (block_segments first ring b)) ≡ true
  block_named ring b fits r = named_from b.instrs b.end (ring_start ring) fits.instrs_fit fits.end_fits r
