-- The core statements of a lookup use hidden word 0 alone.
use Rattle.std.proofs.Common.{◌≡◌, ℕ, zero, suc, List, [], ◌∷◌, refl, ap, arith}
use Rattle.std.specs.Prelude.{map}
use Rattle.redn_kernel.specs.declared.types.Word.{Word}
use Rattle.redn_kernel.specs.declared.types.Cell.{Cell}
use Rattle.redn_kernel.specs.declared.types.Cell.TheVariants as cell
use Rattle.redn_kernel.specs.declared.types.Core.{Core}
use Rattle.redn_kernel.specs.declared.types.Core.TheOpen.{Core-F}
use Rattle.redn_kernel.specs.declared.types.Core.TheVariants as core
use Rattle.redn_kernel.specs.CoreRun.{cell_of}
use Rattle.redn_lookup.specs.Lookup.{bucket_of, misses_of, cores_of}
use Rattle.redn_kernel.proofs.Uses.{Below, Held, below_of, all_below, word_below}
use Rattle.redn_kernel.specs.Uses.{IsBelow, AllBelow}

module _ (x table : ℕ) (key : Cell) (key_below : IsBelow 1 key) where
  bucket_below : (miss : List Core) (held : List (Held 1)) → map (λ e. e.0) held ≡ miss → Below 1 (bucket_of x table key miss)
  bucket_below miss held e =
      let probe : List Core → Core-F Core = Core-F.Probe (cell.Var x) table (cell.Hidden 0) key [] in
      below_of 1 (bucket_of x table key miss) (probe miss) (Core-F.Probe (cell.Var x) table (cell.Hidden 0) key [] held) (core.outs-Probe _ _ _ _ _ _) (ap probe e) (tt, omega arith, key_below)

  step_below : Below 1 (core.Add (cell.Hidden 0) (cell.Num 16))
  step_below = below_of 1 _ _ (Core-F.Add (cell.Hidden 0) (cell.Num 16)) (core.outs-Add _ _) refl (omega arith, tt)

  misses_held : (count : ℕ) → (held : List (Held 1)) × (map (λ e. e.0) held ≡ misses_of x table key count)
  misses_held zero = ([], refl)
  misses_held (suc count) =
      let rest = misses_held count in
      ((core.Add (cell.Hidden 0) (cell.Num 16), step_below) ∷ (bucket_of x table key (misses_of x table key count), bucket_below _ rest.0 rest.1) ∷ [], refl)

-- a lookup of one bucket and so many more
pub lookup_uses : (x table : ℕ) (offset key : Word) (more : ℕ) → AllBelow 1 (cores_of x table offset key more)
lookup_uses x table offset key more =
    let misses = misses_held x table (cell_of key) (word_below 1 key) more in
    let begin : Core = core.Move (cell.Hidden 0) (cell_of offset) in
    let begin_below : Below 1 begin = below_of 1 begin _ (Core-F.Move (cell.Hidden 0) (cell_of offset)) (core.outs-Move _ _) refl (omega arith, word_below 1 offset) in
    all_below 1 ((begin, begin_below) ∷ (bucket_of x table (cell_of key) (misses_of x table (cell_of key) more), bucket_below x table (cell_of key) (word_below 1 key) _ misses.0 misses.1) ∷ [])
