use Rattle.std.proofs.Common.{arith, subst}
use Rattle.std.proofs.lemmas.List.{take_all}
use Rattle.std.specs.List.{All}
use Rattle.std.specs.Prelude.{List}
use Rattle.redn_graph.specs.declared.types.Block.{Block}
use Rattle.redn_block.specs.Blocks.{BlockWords}
use Rattle.redn_block.proofs.Slots.{all_next}
use Rattle.redn_emit.proofs.words.blocks_words.Goals as goal

pub loop-block-preserved : goal.loop-block-preserved
loop-block-preserved c = all_next BlockWords c.args.blocks.now c.loop-block.block-index c.block-item.result (omega arith) c.loop-block.invariant (subst BlockWords c.block-item.is c.block_words.ensures)

pub returns : goal.returns
returns c = subst (λ (l : List Block). All BlockWords l) (take_all c.loop-block.block-index c.args.blocks.now (omega arith)) c.loop-block.invariant
