use Rattle.std.proofs.Common.{arith}
use Rattle.redn_image.proofs.Bounds.{small}
use Rattle.redn_image.proofs.write.write_image.Goals as goal

pub overflow_cast-len : goal.overflow_cast-len
overflow_cast-len c = let few = small _ c.i.invariant.obeys in omega (arith, few.regions, c.len.ensures)

pub overflow_cast-len-2 : goal.overflow_cast-len-2
overflow_cast-len-2 c = let few = small _ c.i.invariant.obeys in omega (arith, few.queues, c.len-2.ensures)

pub overflow_cast-len-3 : goal.overflow_cast-len-3
overflow_cast-len-3 c = let few = small _ c.i.invariant.obeys in omega (arith, few.receives, c.len-3.ensures)
