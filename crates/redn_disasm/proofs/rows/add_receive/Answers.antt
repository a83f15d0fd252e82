use Rattle.std.proofs.Common.{arith}
use Rattle.redn_disasm.specs.Reading.{numbers}
use Rattle.redn_disasm.proofs.Steps.{no_receive}
use Rattle.redn_disasm.proofs.rows.add_receive.Goals as goal

pub returns-then-k-len : goal.returns-then-k-len
returns-then-k-len c =
    let old = c.args.rows.now in
    no_receive (numbers old) c.args.line.now c.in-Some.k c.in-Some.receive c.in-Some.ensures.found (λ e. omega (arith, old.receives.ok, c.len.ensures, c.if-k-len.true, e))

pub returns-in_default : goal.returns-in_default
returns-in_default c = λ after h. c.in_default.ensures.none _ h.0 h.1
