use Rattle.std.proofs.Common.{◌≡◌, ℕ, Option, Some, None, arith, ◌∙◌}
use Rattle.std.specs.Prelude.{IsSome, IfSome}
use Rattle.std.specs.Option.{unwrap_or}
use Rattle.std.proofs.lemmas.Bool.{false≢true}
use Rattle.redn_exec.proofs.FirstWords.{number-first}
use Rattle.redn_exec.proofs.landing.first_word.Goals as goal

read_word : (o : Option ℕ) (v : ℕ) → IsSome o → IfSome o (λ w. w ≡ v) → unwrap_or o 0 ≡ v
read_word None v s h = absurd (false≢true s)
read_word (Some w) v s h = h

pub returns : goal.returns
returns c = λ long inside.
    c.unwrap_or.ensures
    ∙ read_word _ _ (c.word_at.ensures.found.1 (omega (arith, long, inside))) c.word_at.ensures.value
    ∙ number-first 8 c.args.mem.now c.args.at c.args.len long
