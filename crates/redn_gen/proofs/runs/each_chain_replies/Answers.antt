use Rattle.redn_gen.proofs.Started.{each_replies}
use Rattle.redn_gen.proofs.runs.each_chain_replies.Goals as goal

pub returns : goal.returns
returns c = each_replies
