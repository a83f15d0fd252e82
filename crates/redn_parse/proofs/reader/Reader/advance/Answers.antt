use Rattle.redn_parse.specs.Lookahead.{IsTokenOf}
use Rattle.redn_parse.proofs.Tokens.{all_rest}
use Rattle.redn_parse.proofs.reader.Reader.advance.Goals as goal

pub invariant_of-self : goal.invariant_of-self
invariant_of-self c = all_rest (IsTokenOf c.self.inside.text.now) _ _ _ c.in-Some.ensures.cases.0 c.self.invariant
