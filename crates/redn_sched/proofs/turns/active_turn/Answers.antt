use Rattle.std.proofs.Common.{◌<◌, ◌^◌, ℕ, List, get_or, refl, subst, ap, ◌∙◌, arith}
use Rattle.std.specs.List.{All}
use Rattle.std.proofs.lemmas.List.{take_all, get_or_default}
use Rattle.redn_sched.specs.ChainTurns.{turn_at}
use Rattle.redn_sched.proofs.ChainTurns.{cursor_of, turn_is}
use Rattle.redn_sched.proofs.Nearest.{IsFirst, none_seen, one_more_seen, listed_is_its, nearest_is}
use Rattle.redn_sched.proofs.turns.active_turn.Goals as goal

pub loop-queue-init : goal.loop-queue-init
loop-queue-init c = record { found = none_seen c.args.a.now.state c.args.chain c.args.cursor; turn = tt; words = λ i. (c.type_inv.queue-items i).fits }

pub loop-queue-preserved : goal.loop-queue-preserved
loop-queue-preserved c =
    let s = c.args.a.now.state in
    let list = c.busy-queue-items.result.now in
    let i = c.loop-queue.queue-index in
    record {
      found = rw c.nearest-first.ensures.queue (one_more_seen s c.args.chain c.args.cursor list i (get_or list i 0) c.loop-queue-test.true refl (listed_is_its s c.args.chain list c.busy-queue-items.ensures i c.loop-queue-test.true) (c.loop-queue.invariant.words i) (cursor_of c.loop-queue.first) c.loop-queue.invariant.found);
      turn = c.nearest-first.ensures.turn c.loop-queue.invariant.turn;
      words = c.loop-queue.invariant.words;
    }

pub returns : goal.returns
returns c =
    let s = c.args.a.now.state in
    let list = c.busy-queue-items.result.now in
    let words : All (λ (q : ℕ). q < 2 ^ 32) list = λ k d l. let h = c.loop-queue.invariant.words k in omega (arith, h, get_or_default list k d 0 l) in
    let seen = subst (λ (seen : List ℕ). IsFirst s c.args.chain c.args.cursor seen (cursor_of c.loop-queue.first)) (take_all c.loop-queue.queue-index list c.loop-queue-test.false) c.loop-queue.invariant.found in
    turn_is s c.loop-queue.first c.loop-queue.invariant.turn ∙ ap (turn_at s) (nearest_is s c.args.chain c.args.cursor list c.busy-queue-items.ensures words c.ranges.cursor.fits (cursor_of c.loop-queue.first) seen)
