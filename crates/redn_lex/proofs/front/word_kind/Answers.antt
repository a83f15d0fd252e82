use Rattle.std.proofs.Common.{arith, refl}
use Rattle.redn_lex.proofs.Runs.{no_keyword}
use Rattle.redn_lex.proofs.front.word_kind.Goals as goal

-- no keyword spells it
pub returns : goal.returns
returns c = (
  record {
    word = c.requires.word;
    short = c.requires.short;
    own = no_keyword c.args.word.now c.requires.word (λ k h. c.loop-kind.invariant k (omega arith));
  },
  refl,
)
