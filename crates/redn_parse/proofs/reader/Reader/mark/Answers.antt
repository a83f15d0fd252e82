use Rattle.redn_parse.proofs.Passed.{mark_stuck}
use Rattle.redn_parse.proofs.reader.Reader.mark.Goals as goal

pub returns-then-not-is_ahead-clause-reads : goal.returns-then-not-is_ahead-clause-reads
returns-then-not-is_ahead-clause-reads c = mark_stuck _ _ (λ e. cc (c.is_ahead.ensures.1 e))
