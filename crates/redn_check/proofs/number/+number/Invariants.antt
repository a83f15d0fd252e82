use Rattle.std.proofs.Common.{◌≡◌, take, map}
use Rattle.redn_check.specs.Names.{table_names, variables}
use Rattle.redn_check.specs.Numbering.{kernel_of}
use Rattle.redn_check.proofs.number.+number.Given as goal

-- those so far
abbrev pub invariant-kernels-loop-s : goal.invariant-kernels-loop-s
invariant-kernels-loop-s l = l.list ≡ map (kernel_of (table_names l.numbers.scope.tables.now) (variables l.numbers.scope.chain.now)) (take l.s-index l.body)
