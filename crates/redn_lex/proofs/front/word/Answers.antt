use Rattle.std.proofs.Common.{arith, sym, subst, take}
use Rattle.redn_syntax.specs.Tokens.{IsWord}
use Rattle.redn_lex.proofs.Runs.{run_is_word, word_front, word_stops}
use Rattle.redn_lex.proofs.front.word.Goals as goal

pub returns-then-len-gt-MAX_NAME : goal.returns-then-len-gt-MAX_NAME
returns-then-len-gt-MAX_NAME c = word_stops c.args.text.now c.requires (omega (arith, c.word_len-len.ensures))

pub word_kind-requires-clause-word : goal.word_kind-requires-clause-word
word_kind-requires-clause-word c =
    subst (λ n. IsWord (take n c.args.text.now)) (sym c.word_len-len.ensures) (run_is_word c.args.text.now c.requires)

pub returns : goal.returns
returns c = word_front c.args.text.now _ _ c.requires c.word_len-len.ensures c.word_kind.ensures
