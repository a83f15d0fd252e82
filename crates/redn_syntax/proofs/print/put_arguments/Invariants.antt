use Rattle.std.proofs.Common.{◌≡◌, ◌++◌, string_bytes, take}
use Rattle.std.specs.List.{flat_map}
use Rattle.redn_syntax.specs.Canonical.{spaced, argument}
use Rattle.redn_syntax.proofs.print.put_arguments.Given as goal

-- those so far
abbrev pub invariant-loop-name : goal.invariant-loop-name
invariant-loop-name l =
    string_bytes l.out ≡ string_bytes l.initial.out ++ spaced (flat_map argument (take l.name-index l.args))
