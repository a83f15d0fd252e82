use Rattle.std.proofs.Common.{take}
use Rattle.std.specs.List.{All}
use Rattle.redn_block.specs.Blocks.{BlockWords}
use Rattle.redn_emit.proofs.words.blocks_words.Given as goal

abbrev pub invariant-loop-block : goal.invariant-loop-block
invariant-loop-block l = All BlockWords (take l.block-index l.blocks)
