use Rattle.redn_adapter.proofs.Keeping.{step_keeps, step_spares}
use Rattle.redn_adapter.proofs.adapter.Adapter.step.Goals as goal

pub returns-clause-keeps : goal.returns-clause-keeps
returns-clause-keeps c = step_keeps c.args.self.now c.args.a c.make.new.self c.lies_inside.ensures c.make.ensures.after

pub returns-clause-refused : goal.returns-clause-refused
returns-clause-refused c q i is h = step_spares c.args.self.now c.args.a c.make.new.self c.make.ensures.after q i is h
