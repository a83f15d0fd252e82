use Rattle.std.proofs.Common.{◌≡◌, take}
use Rattle.std.specs.List.{flat_map}
use Rattle.redn_check.specs.Faults.{first_of}
use Rattle.redn_check.specs.Names.{variables}
use Rattle.redn_check.specs.Rules.{statement_faults}
use Rattle.redn_check.specs.Statements.{each_of}
use Rattle.redn_check.proofs.statements.+look.Given as goal

-- those so far
abbrev pub invariant-first_in-loop-s : goal.invariant-first_in-loop-s
invariant-first_in-loop-s l = l.first ≡ first_of (flat_map (statement_faults l.scope.tables.now (variables l.scope.chain.now)) (each_of (take l.s-index l.body)))
