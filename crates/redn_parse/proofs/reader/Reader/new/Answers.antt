use Rattle.redn_parse.proofs.Tokens.{tokens_of}
use Rattle.redn_parse.proofs.reader.Reader.new.Goals as goal

pub invariant_of-result : goal.invariant_of-result
invariant_of-result c = rw (c.as_slice.ensures.value, c.as_slice-2.ensures.value) (tokens_of _ _ c.requires)
