use Rattle.std.proofs.Common.{ℕ}
use Rattle.redn_words.specs.declared.types.QueueRow.{QueueRow}
use Rattle.redn_image.specs.Rules.{queue_numbers}
use Rattle.redn_disasm.specs.Listing.{queue_line}
use Rattle.redn_disasm.proofs.Flats.{grown_from}
use Rattle.redn_disasm.proofs.write.put_queues.Goals as goal

pub loop-k-preserved : goal.loop-k-preserved
loop-k-preserved c = grown_from (λ (k : ℕ) (q : QueueRow). queue_line k (queue_numbers q)) c.args.rows.now c.loop-k.k _ c.args.out.now.items c.loop-k.out.items c.put_queue.new.out.items c.loop-k-test.true c.loop-k.invariant c.in_ok-put_queue.ensures
