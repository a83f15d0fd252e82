use Rattle.std.proofs.Common.{◌≡◌, ℕ, sym, ap, ◌∙◌, arith, length}
use Rattle.arrayvec.specs.ArrayVec.{ArrayVec}
use Rattle.redn_sched.specs.MadeSchedules.{chain_acts}
use Rattle.redn_sched.proofs.Drawing.{passing_more, passing_same}
use Rattle.redn_sched.proofs.shuffle.acting_chains.Goals as goal
use Rattle.redn_sched.proofs.shuffle.acting_chains.Goals.{then-chain_acts, else-chain_acts}

pub loop-chain-preserved : goal.loop-chain-preserved
loop-chain-preserved c =
    let p = chain_acts c.args.a.now.state in
    let n = c.loop-chain.chain in
    let xs = c.loop-chain.chains.items in
    elim c.if-chain_acts.branch [
      | then-chain_acts w ↦
          let now : c.if-chain_acts.chains.items ≡ w.push.new.self.items = ap (λ (v : ArrayVec ℕ). v.items) w.chains-is in
          record { items = now ∙ w.push.ensures.items ∙ passing_more p xs n c.loop-chain.invariant.items (sym c.chain_acts.ensures ∙ w.if-chain_acts.true); few = omega (arith, ap length now, w.push.ensures.len, c.loop-chain.invariant.few) }
      | else-chain_acts w ↦
          let now : c.if-chain_acts.chains.items ≡ xs = ap (λ (v : ArrayVec ℕ). v.items) w.chains-is in
          record { items = now ∙ passing_same p xs n c.loop-chain.invariant.items (sym c.chain_acts.ensures ∙ w.if-chain_acts.false); few = omega (arith, ap length now, c.loop-chain.invariant.few) }
    ]
