use Rattle.std.proofs.Common.{◌≡◌, ◌++◌, string_bytes, take}
use Rattle.std.specs.List.{flat_map}
use Rattle.redn_syntax.specs.Canonical.{spaced, variable}
use Rattle.redn_syntax.proofs.print.put_variables.Given as goal

-- those so far
abbrev pub invariant-loop-variable : goal.invariant-loop-variable
invariant-loop-variable l =
    string_bytes l.out ≡ string_bytes l.initial.out ++ spaced (flat_map variable (take l.variable-index l.vars))
