use Rattle.std.proofs.Common.{◌≡◌, take, map}
use Rattle.redn_check.specs.Names.{variables}
use Rattle.redn_check.specs.Numbering.{word_of}
use Rattle.redn_check.proofs.number.words.Given as goal

-- those so far
abbrev pub invariant-loop-operand : goal.invariant-loop-operand
invariant-loop-operand l = l.list ≡ map (word_of (variables l.numbers.scope.chain.now)) (take l.operand-index l.operands)
