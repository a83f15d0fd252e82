use Rattle.std.proofs.Common.{take}
use Rattle.std.specs.List.{All}
use Rattle.redn_block.specs.Blocks.{InstrWords}
use Rattle.redn_block.proofs.words.instrs_words.Given as goal

abbrev pub invariant-loop-instr : goal.invariant-loop-instr
invariant-loop-instr l = All InstrWords (take l.instr-index l.instrs)
