use Rattle.std.proofs.Common.{◌≡◌, ◌++◌, string_bytes, take}
use Rattle.std.specs.List.{flat_map}
use Rattle.redn_syntax.specs.declared.token.TokenKind.TheVariants.{Comma}
use Rattle.redn_syntax.specs.Canonical.{spaced, mark, item}
use Rattle.redn_syntax.proofs.print.put_items.Given as goal

-- a comma and one of the rest, so far
abbrev pub invariant-loop-item : goal.invariant-loop-item
invariant-loop-item l =
    string_bytes l.out ≡ string_bytes l.initial.out ++ spaced (flat_map (λ y. mark Comma ++ item y) (take l.item-index l.rest))
