use Rattle.std.proofs.Common.{ℕ, Bool, List, ◌++◌, take}
use Rattle.redn_syntax.specs.Tokens.{IsGap}
use Rattle.redn_lex.specs.Fronts.{GapGoesOn}
use Rattle.redn_lex.proofs.tokens.gap_len.Given as goal

-- what was read is a gap wherever what follows goes on with it
abbrev pub invariant-loop-i : goal.invariant-loop-i
invariant-loop-i l = (open_end : Bool) (more : List ℕ) → GapGoesOn open_end l.in_comment more → IsGap open_end (take l.i l.text ++ more)
