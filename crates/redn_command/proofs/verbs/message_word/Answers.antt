use Rattle.std.proofs.Common.{◌∙◌, lit<}
use Rattle.redn_command.proofs.MessageTexts.{equals_within, chain_before}
use Rattle.redn_command.proofs.verbs.message_word.Goals as goal

pub returns-in_default-clause-refused : goal.returns-in_default-clause-refused
returns-in_default-clause-refused c = λ e m is. equals_within c.args.word.now m is (c.in_default.ensures.byte (lit< tt) (λ w o h. h))

pub returns-in_default-read_small-clause-refused : goal.returns-in_default-read_small-clause-refused
returns-in_default-read_small-clause-refused c =
    λ e m is.
    let parts = c.in-Some.ensures.byte (lit< tt) (λ w o h. h) in
    c.in_default-read_small.ensures.none m.chain is.small (c.as_bytes.ensures.value ∙ parts.0 ∙ chain_before c.args.word.now m is)
