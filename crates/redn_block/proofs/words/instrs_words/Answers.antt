use Rattle.std.proofs.Common.{arith, subst}
use Rattle.std.proofs.lemmas.List.{take_all}
use Rattle.std.specs.List.{All}
use Rattle.std.specs.Prelude.{List}
use Rattle.redn_graph.specs.declared.types.Instr.{Instr}
use Rattle.redn_block.specs.Blocks.{InstrWords}
use Rattle.redn_block.proofs.Slots.{all_next}
use Rattle.redn_block.proofs.words.instrs_words.Goals as goal

pub loop-instr-preserved : goal.loop-instr-preserved
loop-instr-preserved c = all_next InstrWords c.args.instrs.now c.loop-instr.instr-index _ (omega arith) c.loop-instr.invariant c.instr_words.ensures

pub returns : goal.returns
returns c = subst (λ (l : List Instr). All InstrWords l) (take_all c.loop-instr.instr-index c.args.instrs.now (omega arith)) c.loop-instr.invariant
