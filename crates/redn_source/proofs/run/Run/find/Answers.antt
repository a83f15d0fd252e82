use Rattle.redn_source.specs.RunView.{run_view}
use Rattle.redn_source.proofs.Turns.{turn_without}
use Rattle.redn_source.proofs.run.Run.find.Goals as goal

pub returns-in_default-clause-turn : goal.returns-in_default-clause-turn
returns-in_default-clause-turn c = turn_without _ _ (run_view c.args.self.now) _ _ _ _ c.in_default.ensures (c.fault.ensures.turn _)
