use Rattle.std.proofs.Common.{arith}
use Rattle.std.proofs.lemmas.List.{take_all}
use Rattle.std.proofs.Common.{subst}
use Rattle.std.specs.List.{All}
use Rattle.std.specs.Prelude.{List}
use Rattle.redn_kernel.specs.declared.types.Cell.{Cell}
use Rattle.redn_block.specs.Blocks.{IsWord}
use Rattle.redn_block.proofs.Slots.{all_next}
use Rattle.redn_block.proofs.words.cells_words.Goals as goal

pub loop-cell-preserved : goal.loop-cell-preserved
loop-cell-preserved c = all_next IsWord c.args.cells.now c.loop-cell.cell-index _ (omega arith) c.loop-cell.invariant c.cell_word.ensures

pub returns : goal.returns
returns c = subst (λ (l : List Cell). All IsWord l) (take_all c.loop-cell.cell-index c.args.cells.now (omega arith)) c.loop-cell.invariant
