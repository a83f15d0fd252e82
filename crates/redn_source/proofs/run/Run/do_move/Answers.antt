use Rattle.redn_source.specs.RunView.{run_view}
use Rattle.redn_source.proofs.Does.{takes}
use Rattle.redn_source.proofs.run.Run.do_move.Goals as goal

pub returns-clause-turn : goal.returns-clause-turn
returns-clause-turn c = λ tables. takes c.args.chain tables (run_view c.args.self.now) c.args.to _ _ _ _ c.value-word.ensures (c.assign.ensures.turn tables)
