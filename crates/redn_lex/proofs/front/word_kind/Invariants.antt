use Rattle.std.proofs.Common.{◌≢◌, ◌<◌, ℕ, slice_index_or}
use Rattle.redn_syntax.specs.declared.token.TokenKind.TheVariants.{Name}
use Rattle.redn_syntax.specs.Tokens.{spelling}
use Rattle.redn_lex.proofs.front.word_kind.Given as goal

-- none of the keywords so far
abbrev pub invariant-loop-kind : goal.invariant-loop-kind
invariant-loop-kind l = (k : ℕ) → k < l.kind-index → spelling (slice_index_or l.kind-items k Name) ≢ l.word
