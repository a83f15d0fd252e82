use Rattle.redn_disasm.specs.Listing.{receive_line}
use Rattle.redn_disasm.proofs.Flats.{grown_from}
use Rattle.redn_disasm.proofs.write.put_receives.Goals as goal

pub loop-k-preserved : goal.loop-k-preserved
loop-k-preserved c = grown_from receive_line c.args.rows.now c.loop-k.k _ c.args.out.now.items c.loop-k.out.items c.put_receive.new.out.items c.loop-k-test.true c.loop-k.invariant c.in_ok-put_receive.ensures
