use Rattle.redn_source.proofs.Piles.{IsPiled_left, usable_left}
use Rattle.redn_source.proofs.run.Run.leave_loop.Goals as goal

pub returns-clause-keeps : goal.returns-clause-keeps
returns-clause-keeps c =
    record {
      usable = usable_left _ _ _ _ c.pop_past_again.ensures.left c.requires.kept.usable;
      piled = rw c.pop_past_again.ensures.capacity (IsPiled_left _ _ _ c.pop_past_again.ensures.left c.requires.kept.piled);
    }
