use Rattle.std.proofs.Common.{arith}
use Rattle.redn_kernel.specs.Source.{value_of}
use Rattle.redn_source.proofs.Padded.{padded_next, padded_all}
use Rattle.redn_source.proofs.run.Run.eight_values.Goals as goal

pub loop-i-preserved : goal.loop-i-preserved
loop-i-preserved c =
    padded_next (value_of c.args.self.now.vars.items) c.args.list.now c.loop-i.i _ _ _ c.loop-i-test.true c.requires.few c.loop-i.invariant c.value.ensures

pub returns : goal.returns
returns c =
    padded_all (value_of c.args.self.now.vars.items) c.args.list.now c.loop-i.i _ (omega arith) c.requires.few c.loop-i.invariant
