use Rattle.std.proofs.Common.{◌≡◌, ◌++◌, take, map, length, replicate}
use Rattle.redn_kernel.specs.Program.{AreWords}
use Rattle.redn_check.specs.Numbering.{first_value}
use Rattle.redn_check.proofs.number.first_values.Given as goal

-- those so far
abbrev pub invariant-loop-variable : goal.invariant-loop-variable
invariant-loop-variable l = (l.list.items ≡ replicate (length l.chain.args) 0 ++ map first_value (take l.variable-index l.variable-items)) × AreWords l.list.items
