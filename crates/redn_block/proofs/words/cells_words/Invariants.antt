use Rattle.std.proofs.Common.{take}
use Rattle.std.specs.List.{All}
use Rattle.redn_block.specs.Blocks.{IsWord}
use Rattle.redn_block.proofs.words.cells_words.Given as goal

abbrev pub invariant-loop-cell : goal.invariant-loop-cell
invariant-loop-cell l = All IsWord (take l.cell-index l.cells)
