use Rattle.std.proofs.Common.{arith, sym, ◌∙◌}
use Rattle.redn_lex.proofs.Runs.{next_value}
use Rattle.redn_lex.proofs.front.value_of.Goals as goal

pub returns-in_default-clause-wide : goal.returns-in_default-clause-wide
returns-in_default-clause-wide c =
    let next = next_value c.args.base c.loop-i.i c.loop-i.value c.digit_of.result c.args.digits.now c.loop-i-test.true c.loop-i.invariant.reads c.digit_of.ensures in
    record {
      within = c.loop-i-test.true;
      below = omega (arith, c.loop-i.invariant.reads);
      above = grind (arith, next, c.in_default.ensures);
    }

pub loop-i-preserved : goal.loop-i-preserved
loop-i-preserved c =
    let next = next_value c.args.base c.loop-i.i c.loop-i.value c.digit_of.result c.args.digits.now c.loop-i-test.true c.loop-i.invariant.reads c.digit_of.ensures in
    record {
      reads = c.in-Some.ensures.1 ∙ sym next;
      fits = omega (arith, c.in-Some.ensures.0, c.in-Some.ensures.1);
    }
