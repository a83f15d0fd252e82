use Rattle.std.proofs.Common.{is_some, sym, ap, ◌∙◌, arith}
use Rattle.redn_queue.proofs.Windows.{copy_at}
use Rattle.redn_queue.proofs.ahead.is_filled.Goals as goal

pub returns-in-Some : goal.returns-in-Some
returns-in-Some c =
    let i = c.in-Some.index.now in
    let low = rw c.in-Some.is at c.requires.low in
    let high = rw c.in-Some.is at c.requires.high in
    rw c.in-Some.is (c.is_some.ensures ∙ ap is_some (c.index.ensures ∙ sym (copy_at c.args.head c.args.places.now.items i c.index.result.now (omega (arith, low)) (omega (arith, low, high)))))
