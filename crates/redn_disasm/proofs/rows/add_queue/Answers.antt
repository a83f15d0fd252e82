use Rattle.std.proofs.Common.{◌≡◌, length, map, sym, ap, ◌∙◌, arith}
use Rattle.std.proofs.lemmas.List.{length-map}
use Rattle.redn_disasm.specs.Reading.{numbers, queue_of, region_of}
use Rattle.redn_disasm.proofs.Steps.{is_none, map_one, no_items, no_queue, queue_given}
use Rattle.redn_disasm.proofs.rows.add_queue.Goals as goal

pub returns-clause-added : goal.returns-clause-added
returns-clause-added c =
    let old = c.args.rows.now in
    let count : c.in-Some.k ≡ length (map queue_of old.queues.items) = omega (arith, length-map old.queues.items queue_of, old.queues.ok, c.len.ensures, c.if-k-len.false) in
    let receives : length old.receives.items ≡ 0 = is_none _ _ (sym c.is_empty.ensures ∙ c.if-not-is_empty.false) (sym old.receives.ok.0) in
    queue_given (map region_of old.regions.items) (map queue_of old.queues.items) _ old.receives.items old.size c.in-Some.k c.args.line.now (queue_of c.in-Some.queue) c.in-Some.ensures.found count (no_items old.receives.items receives) (ap (map queue_of) c.in_ok-push.ensures.items ∙ map_one queue_of old.queues.items c.in-Some.queue)

pub returns-then-k-len-clause-added : goal.returns-then-k-len-clause-added
returns-then-k-len-clause-added c =
    let old = c.args.rows.now in
    no_queue (numbers old) c.args.line.now c.in-Some.k (queue_of c.in-Some.queue) c.in-Some.ensures.found (λ e. omega (arith, length-map old.queues.items queue_of, old.queues.ok, c.len.ensures, c.if-k-len.true, e))

pub returns-in_default-clause-added : goal.returns-in_default-clause-added
returns-in_default-clause-added c = λ after h. c.in_default.ensures.none _ h.0 h.1
