use Rattle.std.proofs.Common.{◌≡◌, ◌≤◌, length, arith}
use Rattle.redn_emit.proofs.chain.ChainPlan.control_len.Goals as goal

pub returns-clause-few : goal.returns-clause-few
returns-clause-few c =
    let few : length c.self.inside.constants.keys ≤ 262144 = c.self.invariant.few_constants in
    let len : c.len.result ≡ length c.self.inside.constants.keys = c.len.ensures.len in
    omega arith
