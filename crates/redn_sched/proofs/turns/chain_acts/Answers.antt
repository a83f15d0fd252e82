use Rattle.std.proofs.Common.{ap, ◌∙◌}
use Rattle.std.specs.Prelude.{is_some}
use Rattle.redn_sched.proofs.ChainTurns.{acts_next}
use Rattle.redn_sched.proofs.turns.chain_acts.Goals as goal

pub returns : goal.returns
returns c = c.is_some.ensures ∙ ap is_some c.chain_turn.ensures ∙ acts_next c.args.a.now.state c.args.chain 0
