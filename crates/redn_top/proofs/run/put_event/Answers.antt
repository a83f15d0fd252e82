use Rattle.redn_trace.specs.EventText.{event_text}
use Rattle.redn_top.proofs.RunLemmas.{option_map-nothing}
use Rattle.redn_top.proofs.run.put_event.Goals as goal

pub returns-in-Nothing-clause-ok : goal.returns-in-Nothing-clause-ok
unfolding event_text
returns-in-Nothing-clause-ok g c = rw c.in-Nothing.is (option_map-nothing (g.K.Sink.seen c.args.out.now).told)
