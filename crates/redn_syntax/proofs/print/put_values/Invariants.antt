use Rattle.std.proofs.Common.{◌≡◌, ◌++◌, string_bytes, take}
use Rattle.std.specs.List.{flat_map}
use Rattle.redn_syntax.specs.declared.token.TokenKind.TheVariants.{Comma}
use Rattle.redn_syntax.specs.Canonical.{spaced, mark, value}
use Rattle.redn_syntax.proofs.print.put_values.Given as goal

-- a comma and one of the rest, so far
abbrev pub invariant-loop-word : goal.invariant-loop-word
invariant-loop-word l =
    string_bytes l.out ≡ string_bytes l.initial.out ++ spaced (flat_map (λ y. mark Comma ++ value y) (take l.word-index l.rest))
