use Rattle.redn_top.proofs.QuietRuns.{accepted_words}
use Rattle.redn_top.proofs.laws.accepted_words_are_messages.Goals as goal

pub returns : goal.returns
returns c = accepted_words
