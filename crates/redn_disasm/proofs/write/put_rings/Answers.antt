use Rattle.redn_disasm.specs.Listing.{slots_text}
use Rattle.redn_disasm.proofs.Flats.{grown_from}
use Rattle.redn_disasm.proofs.write.put_rings.Goals as goal

pub loop-k-preserved : goal.loop-k-preserved
loop-k-preserved c = grown_from (slots_text c.args.memory.now) c.args.rows.now c.loop-k.k _ c.args.out.now.items c.loop-k.out.items c.put_slots.new.out.items c.loop-k-test.true c.loop-k.invariant c.in_ok-put_slots.ensures
