-- The words of a site state after a cell has got another one.
use Rattle.std.proofs.Common.{◌≡◌, ℕ, ◌<◌, inl, inr, true, false, List, length, sym, ap, ◌∙◌, arith, length-set}
use Rattle.std.specs.Prelude.{slice_index, slice_set, ◌==◌}
use Rattle.std.proofs.lemmas.Bool.{cases_eq, eq-eqb, ne_eqb}
use Rattle.std.proofs.lemmas.List.{get_or-set_other}
use Rattle.std.proofs.lemmas.Grind.{get_or-set_at}
use Rattle.redn_words.specs.Words.{word}
use Rattle.redn_kernel.specs.declared.types.Cell.{Cell}
use Rattle.redn_kernel.specs.declared.types.Cell.TheVariants.{Var, Hidden, Argument, Num}
use Rattle.redn_kernel.specs.CoreRun.{Cells, held, put, with_hidden}
use Rattle.redn_graph.specs.Fits.{Things, IsCell, IsTarget}
use Rattle.redn_segment.specs.declared.types.Space.TheVariants as space
use Rattle.redn_segment.specs.Plain.{Bytes}
use Rattle.redn_segment.specs.Effects.{word_of, holding}
use Rattle.redn_block.specs.Blocks.{IsWord}
use Rattle.redn_block.specs.Matches.{Same}

pub cell_of_target : (n : Things) (to : Cell) → IsTarget n to → IsCell n to × IsWord to
cell_of_target n (Argument i) h = absurd h
cell_of_target n (Num v) h = absurd h
cell_of_target n _ h = (h, tt)

module _ (n : Things) (words : List ℕ) (c : Cells) (s : Bytes) (h : Same n words c s) (bytes : List ℕ) (v : ℕ) (is : word bytes 0 ≡ v) where
  var_put : (x y : ℕ) → x < n.vars → y < n.vars → word_of (holding s (space.Cell (Var x)) bytes) (Var y) ≡ slice_index (slice_set c.vars x v) y
  var_put x y l m =
      let many = h.many in
      elim (cases_eq x y) [
        | inl same ↦
            let t : (x == y) ≡ true = eq-eqb x y same in
            rw t (is ∙ sym (get_or-set_at c.vars x y v 0 (sym same) (omega arith)))
        | inr ne ↦
            let t : (x == y) ≡ false = ne_eqb x y ne in
            rw t (h.cells (Var y) m tt ∙ sym (get_or-set_other c.vars x y v 0 (λ e. ne (sym e))))
      ]

  hidden_put : (j k : ℕ) → k < n.hidden → word_of (holding s (space.Cell (Hidden j)) bytes) (Hidden k) ≡ with_hidden c.hidden j v k
  hidden_put j k m =
      elim (cases_eq j k) [
        | inl same ↦
            let t : (j == k) ≡ true = eq-eqb j k same in
            let u : (k == j) ≡ true = eq-eqb k j (sym same) in
            rw (t, u) is
        | inr ne ↦
            let t : (j == k) ≡ false = ne_eqb j k ne in
            let u : (k == j) ≡ false = ne_eqb k j (λ e. ne (sym e)) in
            rw (t, u) (h.cells (Hidden k) m tt)
      ]

  cells_put : (to : Cell) → IsTarget n to → (a : Cell) → IsCell n a → IsWord a → word_of (holding s (space.Cell to) bytes) a ≡ held words (put c to v) a
  cells_put (Var x) l (Var y) m w = var_put x y l m
  cells_put (Var x) l (Hidden k) m w = h.cells (Hidden k) m w
  cells_put (Var x) l (Argument i) m w = h.cells (Argument i) m w
  cells_put (Var x) l (Num u) m w = h.cells (Num u) m w
  cells_put (Hidden j) l (Var y) m w = h.cells (Var y) m w
  cells_put (Hidden j) l (Hidden k) m w = hidden_put j k m
  cells_put (Hidden j) l (Argument i) m w = h.cells (Argument i) m w
  cells_put (Hidden j) l (Num u) m w = h.cells (Num u) m w
  cells_put (Argument i) l a m w = absurd l
  cells_put (Num u) l a m w = absurd l

  many_put : (to : Cell) → IsTarget n to → length (put c to v).vars ≡ n.vars
  many_put (Var x) l = length-set c.vars x v ∙ h.many
  many_put (Hidden j) l = h.many
  many_put _ l = absurd l

  -- a cell gets a word
  pub same_put : (to : Cell) → IsTarget n to → Same n words (put c to v) (holding s (space.Cell to) bytes)
  same_put to l = record { many = many_put to l; cells = cells_put to l }

-- what isn't a cell doesn't matter
pub same_cells : (n : Things) (words : List ℕ) (c : Cells) (s t : Bytes) → ((a : Cell) → t (space.Cell a) ≡ s (space.Cell a)) → Same n words c s → Same n words c t
same_cells n words c s t e h = record { many = h.many; cells = λ a m w. ap (λ (b : List ℕ). word b 0) (e a) ∙ h.cells a m w }
