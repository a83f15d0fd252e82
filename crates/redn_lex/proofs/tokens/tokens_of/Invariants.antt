use Rattle.std.proofs.Common.{length}
use Rattle.redn_lex.proofs.Steps.{Reads}
use Rattle.redn_lex.proofs.tokens.tokens_of.Given as goal

-- what stands before the rest has been read
abbrev pub invariant-tokens : goal.invariant-tokens
invariant-tokens l = Reads l.text l.rest l.place l.list.items

abbrev pub decreases-tokens : goal.decreases-tokens
decreases-tokens l = length l.rest
