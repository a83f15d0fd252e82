use Rattle.std.proofs.Common.{rules, subst, sym}
use Rattle.redn_syntax.specs.Grammar.{IsWritable}
use Rattle.redn_check.specs.Rules.{Accepts}
use Rattle.redn_gen.specs.Generated.{chain}
use Rattle.redn_gen.proofs.Below.{goes_on}
use Rattle.redn_gen.proofs.Writable.{writable}
use Rattle.redn_gen.proofs.Accepted.{accepted}
use Rattle.redn_gen.proofs.file.gen_file.Goals as goal

pub loop-number-preserved : goal.loop-number-preserved
loop-number-preserved c = goes_on chain c.loop-number.number _ _ _ c.in_ok-push-2.ensures.ok c.loop-number.invariant c.in_ok-chain.ensures

pub returns-clause-file : goal.returns-clause-file
returns-clause-file c = search rules

pub returns-clause-writable : goal.returns-clause-writable
returns-clause-writable c = subst IsWritable (sym (returns-clause-file c)) (writable c.args.n c.ranges.n.fits)

pub returns-clause-accepted : goal.returns-clause-accepted
returns-clause-accepted c = subst Accepts (sym (returns-clause-file c)) (accepted c.args.n)
