use Rattle.redn_adapter.proofs.Keeping.{adapter_inside}
use Rattle.redn_adapter.proofs.adapter.Adapter.lies_inside.Goals as goal

pub returns : goal.returns
returns c = rw (← c.self.view_is) (adapter_inside c.self.inside c.self.invariant)
