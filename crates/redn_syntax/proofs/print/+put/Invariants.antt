use Rattle.std.proofs.Common.{◌≡◌, ◌++◌, string_bytes, take}
use Rattle.redn_syntax.specs.Canonical.{spaced, body_of}
use Rattle.redn_syntax.proofs.print.+put.Given as goal

-- the statements so far
abbrev pub invariant-put_body-loop-statement : goal.invariant-put_body-loop-statement
invariant-put_body-loop-statement l =
    string_bytes l.out ≡ string_bytes l.initial.out ++ spaced (body_of (take l.statement-index l.body))
