use Rattle.std.proofs.Common.{arith, sym, ap}
use Rattle.redn_queue.specs.Windows.{Window}
use Rattle.redn_queue.proofs.Seeking.{least_found, none_past, none_over}
use Rattle.redn_queue.proofs.ahead.Ahead.least.Goals as goal
use Rattle.redn_queue.proofs.ahead.Ahead.least.Goals.{else-index-limit-via-then-index-limit+else-index-self, else-index-limit-via-else-index-limit}

pub returns-then-index-self : goal.returns-then-index-self
returns-then-index-self c =
    let w = c.args.self.now in
    let e = c.least_gap-index.ensures in
    sym (least_found w.copies c.args.limit w.head w.slots c.least_gap-index.result e.low e.held e.gap (omega (arith, c.if-index-limit.true)) (omega (arith, c.if-index-self.true, c.len.ensures, c.self.inside.places.ok, ap (λ (v : Window). v.head) c.self.view_is, ap (λ (v : Window). v.slots) c.self.view_is)))

pub returns-else-index-limit : goal.returns-else-index-limit
returns-else-index-limit c =
    let w = c.args.self.now in
    let e = c.least_gap-index.ensures in
    elim c.else-index-limit.branch [
      | else-index-limit-via-then-index-limit+else-index-self v ↦ sym (none_over w.copies c.args.limit w.head w.slots c.least_gap-index.result e.low e.held e.gap (omega (arith, v.if-index-self.false, v.len.ensures, c.self.inside.places.ok, ap (λ (v : Window). v.head) c.self.view_is, ap (λ (v : Window). v.slots) c.self.view_is)))
      | else-index-limit-via-else-index-limit v ↦ sym (none_past w.copies c.args.limit w.head w.slots c.least_gap-index.result e.low e.held e.gap (omega (arith, v.if-index-limit.false)))
    ]
