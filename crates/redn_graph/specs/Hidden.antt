-- How many hidden cells the blocks of a chain have.
use Rattle.std.specs.Prelude.{ℕ, ◌+◌, List, map, sum}
use Rattle.redn_kernel.specs.declared.types.Kernel.{Kernel, fold-Kernel}
use Rattle.redn_kernel.specs.declared.types.Kernel.TheOpen.{Kernel-F}

-- a statement's repeats, from those of the statements in its blocks
unfoldable pub repeats_by : Kernel-F ℕ → ℕ
repeats_by (Kernel-F.If wide a b met unmet) = sum met + sum unmet
repeats_by (Kernel-F.Loop body) = sum body
repeats_by (Kernel-F.Repeat n body) = 1 + sum body
repeats_by _ = 0

unfoldable pub repeats_in : Kernel → ℕ
repeats_in = fold-Kernel ℕ repeats_by

abbrev pub repeats_in_all : List Kernel → ℕ
repeats_in_all body = sum (map repeats_in body)

-- two for searches, and one for each repeat
abbrev pub hidden_cells : List Kernel → ℕ
hidden_cells body = 2 + repeats_in_all body
