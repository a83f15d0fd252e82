use Rattle.std.proofs.Common.{◌≡◌, take}
use Rattle.std.specs.List.{flat_map}
use Rattle.redn_check.specs.Faults.{first_of}
use Rattle.redn_check.specs.Names.{variables, named}
use Rattle.redn_check.specs.Rules.{undeclared}
use Rattle.redn_check.proofs.statements.missing_in_words.Given as goal

-- those so far
abbrev pub invariant-loop-word : goal.invariant-loop-word
invariant-loop-word l = l.first ≡ first_of (undeclared (variables l.scope.chain.now) (flat_map named (take l.word-index l.words)))
