use Rattle.std.proofs.Common.{◌++◌, decimal, codes, sym, ap, ◌∙◌, append_assoc}
use Rattle.redn_top.proofs.status.put_message.Goals as goal

pub returns-in-BadHex-clause-line : goal.returns-in-BadHex-clause-line
returns-in-BadHex-clause-line c =
    rw c.in-BadHex.is (c.put_chain-in-BadHex.ensures.line ∙ ap (λ t. codes "redn: message refused: chain " ++ t) (sym (append_assoc (decimal c.in-BadHex.chain) (codes " bad hex") (codes "\n"))))
