use Rattle.std.proofs.Common.{length, arith}
use Rattle.redn_graph.proofs.Jumping.{jumps_there}
use Rattle.redn_graph.proofs.reach.Found.number_past.Goals as goal

pub number-requires-clause-there : goal.number-requires-clause-there
number-requires-clause-there c =
    let all = c.args.all.now in
    omega (arith, c.requires.size, c.past_idle.ensures, jumps_there all (length all) c.args.block c.requires.each c.requires.there)
