-- Spaces are told apart by a test.
use Rattle.std.proofs.Common.{◌≡◌, ℕ, Bool, true, false, refl, ap}
use Rattle.std.proofs.lemmas.Bool.{false≢true, eqb-true}
use Rattle.redn_kernel.specs.declared.types.Cell.{Cell}
use Rattle.redn_kernel.specs.declared.types.Cell.TheVariants.{Var, Hidden, Argument, Num}
use Rattle.redn_segment.specs.declared.types.Site.{Site}
use Rattle.redn_segment.specs.declared.types.Site.TheVariants as site
use Rattle.redn_segment.specs.declared.types.Space.{Space}
use Rattle.redn_segment.specs.declared.types.Space.TheVariants as space
use Rattle.redn_segment.specs.Sites.{space_of, is_table, same_space, same_cell}
use Rattle.redn_segment.proofs.Pieces.{slot_is}

same_cell_is : (c d : Cell) → same_cell c d ≡ true → c ≡ d
same_cell_is (Var i) (Var j) e = ap (λ (n : ℕ). Var n) (eqb-true i j e)
same_cell_is (Hidden i) (Hidden j) e = ap (λ (n : ℕ). Hidden n) (eqb-true i j e)
same_cell_is (Argument i) (Argument j) e = ap (λ (n : ℕ). Argument n) (eqb-true i j e)
same_cell_is (Num i) (Num j) e = ap (λ (n : ℕ). Num n) (eqb-true i j e)
same_cell_is _ _ e = absurd (false≢true e)

pub same_space_is : (p q : Space) → same_space p q ≡ true → p ≡ q
same_space_is (space.Cell c) (space.Cell d) e = ap (λ (x : Cell). space.Cell x) (same_cell_is c d e)
same_space_is space.Reply space.Reply e = refl
same_space_is space.Key space.Key e = refl
same_space_is (space.Scratch i) (space.Scratch j) e = ap (λ (n : ℕ). space.Scratch n) (eqb-true i j e)
same_space_is (space.Descriptor i) (space.Descriptor j) e = ap (λ (n : ℕ). space.Descriptor n) (eqb-true i j e)
same_space_is (space.Slot p) (space.Slot q) e = ap (λ x. space.Slot x) (slot_is p q e)
same_space_is (space.Table i) (space.Table j) e = ap (λ (n : ℕ). space.Table n) (eqb-true i j e)
same_space_is _ _ e = absurd (false≢true e)

-- tables by their spaces
abbrev pub is_table_space : Space → Bool
is_table_space (space.Table t) = true
is_table_space _ = false

pub table_space : (x : Site) → is_table x ≡ is_table_space (space_of x)
table_space (site.Cell c) = refl
table_space _ = refl
