use Rattle.std.proofs.Common.{◌≡◌, ◌*◌, ◌≤◌, ◌^◌, take}
use Rattle.std.specs.Prelude.{sum_by}
use Rattle.redn_emit.specs.Layout as layout
use Rattle.redn_emit.proofs.image.words_len.Given as goal

abbrev pub invariant-loop-plan : goal.invariant-loop-plan
invariant-loop-plan l =
    record {
      sum : l.len ≡ sum_by layout.data_len (take l.plan-index l.plans);
      hidden : sum_by (λ (c : layout.ChainPlan). c.hidden) (take l.plan-index l.plans) ≤ 65535 * l.plan-index;
      few : l.len ≤ l.plan-index * 2 ^ 26;
    }
