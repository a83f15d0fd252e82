-- Chains as contracts see them.
use Rattle.std.specs.Prelude.{length}
use Rattle.redn_emit.specs.declared.chain.ChainRings.TheInside.{Inside as RingsInside}
use Rattle.redn_emit.specs.declared.chain.ChainPlan.TheInside.{Inside as PlanInside}
use Rattle.redn_emit.specs.Layout.{ChainPlan}
use Rattle.redn_emit.specs.Placed.{ChainRings}
use Rattle.redn_emit.specs.Kept.{IsChainRings, IsChainPlan}

abbrev pub rings_view : RingsInside → ChainRings
rings_view a = record { init = a.init.now; graph = a.graph.now; first = a.first; rings = a.rings.items }

abbrev pub AreRings : RingsInside → Type 0
AreRings a = IsChainRings (rings_view a) a.slots

abbrev pub plan_view : PlanInside → ChainPlan
plan_view a =
    record {
      number = a.number;
      tables = a.tables;
      vars = length a.vars.now;
      values = a.vars.now;
      args = a.args;
      hidden = a.hidden;
      entry = a.entry;
      first = a.first;
      rings = a.rings.items;
      constants = a.constants.keys;
      code_base = a.code_base;
      control_base = a.control_base;
    }

abbrev pub IsPlan : PlanInside → Type 0
IsPlan a = IsChainPlan (plan_view a) a.starts.items
