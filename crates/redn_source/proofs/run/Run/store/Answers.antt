use Rattle.redn_source.specs.RunView.{run_view}
use Rattle.redn_source.proofs.Turns.{turn_without_same}
use Rattle.redn_source.proofs.run.Run.store.Goals as goal

pub returns-then-not-write_word-clause-turn : goal.returns-then-not-write_word-clause-turn
returns-then-not-write_word-clause-turn c =
    turn_without_same _ _ _ (run_view c.args.self.now) _ _ _ c.fault.new.self _ c.if-not-write_word.ensures.0 c.if-not-write_word.ensures.1 c.fault.ensures.turn
