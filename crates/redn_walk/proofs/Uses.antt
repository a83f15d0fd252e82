-- The core statements of a walk use the hidden words 0 and 1 alone.
use Rattle.std.proofs.Common.{ℕ, List, [], ◌∷◌, true, false, refl, arith}
use Rattle.redn_kernel.specs.declared.types.Word.{Word}
use Rattle.redn_kernel.specs.declared.types.Cell.TheVariants as cell
use Rattle.redn_kernel.specs.declared.types.Core.{Core}
use Rattle.redn_kernel.specs.declared.types.Core.TheOpen.{Core-F}
use Rattle.redn_kernel.specs.declared.types.Core.TheVariants as core
use Rattle.redn_kernel.specs.CoreRun.{cell_of}
use Rattle.redn_walk.specs.Walk.{leave_of, turn_of, step_of, miss_of, body_of, cores_of}
use Rattle.redn_kernel.proofs.Uses.{Below, Held, below_of, all_below, word_below}
use Rattle.redn_kernel.specs.Uses.{AllBelow}

leave : List (Held 2)
leave = (core.Leave, below_of 2 core.Leave Core-F.Leave Core-F.Leave core.outs-Leave refl tt) ∷ []

module _ (x table : ℕ) (offset key : Word) (count : ℕ) where
  turn_below : Below 2 turn_of
  unfolding leave
  turn_below = below_of 2 turn_of _ (Core-F.If true (cell.Hidden 0) (cell.Num 0) leave []) (core.outs-If _ _ _ _ _) refl (omega arith, tt)

  skip_below : Below 2 (core.Add (cell.Hidden 0) (cell.Num 16))
  skip_below = below_of 2 _ _ (Core-F.Add (cell.Hidden 0) (cell.Num 16)) (core.outs-Add _ _) refl (omega arith, tt)

  load_below : Below 2 (core.Load (cell.Hidden 0) table (cell.Hidden 0))
  load_below = below_of 2 _ _ (Core-F.Load (cell.Hidden 0) table (cell.Hidden 0)) (core.outs-Load _ _ _) refl (omega arith, omega arith)

  abbrev step : List (Held 2)
  step = (core.Add (cell.Hidden 0) (cell.Num 16), skip_below) ∷ (core.Load (cell.Hidden 0) table (cell.Hidden 0), load_below) ∷ (turn_of, turn_below) ∷ []

  count_below : Below 2 (core.Add (cell.Hidden 1) (cell.Num 1))
  count_below = below_of 2 _ _ (Core-F.Add (cell.Hidden 1) (cell.Num 1)) (core.outs-Add _ _) refl (omega arith, tt)

  last_below : Below 2 (core.If false (cell.Hidden 1) (cell.Num count) leave_of (step_of table))
  unfolding leave
  last_below = below_of 2 _ _ (Core-F.If false (cell.Hidden 1) (cell.Num count) leave step) (core.outs-If _ _ _ _ _) refl (omega arith, tt)

  abbrev miss : List (Held 2)
  miss = (core.Add (cell.Hidden 1) (cell.Num 1), count_below) ∷ (core.If false (cell.Hidden 1) (cell.Num count) leave_of (step_of table), last_below) ∷ []

  abbrev look : Core
  look = core.Probe (cell.Var x) table (cell.Hidden 0) (cell_of key) leave_of (miss_of table count)

  look_below : Below 2 look
  unfolding leave
  look_below = below_of 2 look _ (Core-F.Probe (cell.Var x) table (cell.Hidden 0) (cell_of key) leave miss) (core.outs-Probe _ _ _ _ _ _) refl (tt, omega arith, word_below 2 key)

  loop_below : Below 2 (core.Loop (body_of x table key count))
  loop_below = below_of 2 _ _ (Core-F.Loop ((look, look_below) ∷ [])) (core.outs-Loop _) refl tt

  begin_below : Below 2 (core.Move (cell.Hidden 0) (cell_of offset))
  begin_below = below_of 2 _ _ (Core-F.Move (cell.Hidden 0) (cell_of offset)) (core.outs-Move _ _) refl (omega arith, word_below 2 offset)

  none_below : Below 2 (core.Move (cell.Hidden 1) (cell.Num 0))
  none_below = below_of 2 _ _ (Core-F.Move (cell.Hidden 1) (cell.Num 0)) (core.outs-Move _ _) refl (omega arith, tt)

  pub walk_uses : AllBelow 2 (cores_of x table offset key count)
  walk_uses = all_below 2 ((core.Move (cell.Hidden 0) (cell_of offset), begin_below) ∷ (core.Move (cell.Hidden 1) (cell.Num 0), none_below) ∷ (core.Loop (body_of x table key count), loop_below) ∷ [])
