use Rattle.std.proofs.Common.{length}
use Rattle.redn_emit.proofs.requests.+put_segment.Given as goal

abbrev pub decreases-put_segment : goal.decreases-put_segment
decreases-put_segment l = length l.drafts.now
