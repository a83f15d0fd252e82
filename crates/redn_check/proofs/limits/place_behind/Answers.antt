use Rattle.std.proofs.Common.{◌∙◌, ap, sym, ◌≡◌, Some, slice_get, length, ◌≤◌, arith, ◌-◌}
use Rattle.redn_check.proofs.Behind.{place_behind}
use Rattle.redn_check.proofs.limits.place_behind.Goals as goal

pub returns : goal.returns
returns c =
    let chain = c.args.chain.now in
    let v = c.in_ok-variable.variable.now in
    let past : length chain.args ≤ c.args.count = omega (arith, ap length c.as_slice-args.ensures) in
    let found : slice_get chain.vars (c.args.count - length chain.args) ≡ Some v =
    ap (λ a. slice_get chain.vars (c.args.count - length a)) (sym c.as_slice-args.ensures) ∙ sym c.in_ok-variable.ensures.value
    in
    sym (place_behind chain.args chain.vars c.args.count v past found)
