use Rattle.std.proofs.Common.{◌≡◌, ◌+◌, ◌<◌, ◌≤◌, true, false, Some, length, set, refl, sym, ap, ◌∙◌, arith}
use Rattle.std.specs.Prelude.{slice_get}
use Rattle.std.specs.Vec.{with_item}
use Rattle.std.proofs.lemmas.List.{length-set}
use Rattle.redn_words.specs.States.{Queue}
use Rattle.redn_words.specs.declared.types.QueueRow.{QueueRow}
use Rattle.redn_adapter.specs.AdapterView.{adapter_view}
use Rattle.redn_adapter.specs.Busy.{KeepsBusy}
use Rattle.redn_adapter.proofs.Delivery.{read_at}
use Rattle.redn_adapter.proofs.Marking.{noted}
use Rattle.redn_adapter.proofs.Stepping.{AreQueues, stays_adapter, one_step, with_changed, its_queues, queue_at}
use Rattle.redn_adapter.proofs.adapter.Adapter.start_enable.Goals as goal
use Rattle.redn_adapter.proofs.adapter.Adapter.start_enable.Goals.{After-note-2}

within : (c : After-note-2) → c.args.queue < length c.self.inside.queues.items
within c = rw (← c.self.view_is) at c.requires.here

there : (c : After-note-2) → slice_get c.self.inside.queues.items c.args.queue ≡ Some c.index_mut-u.result.now
there c = read_at c.self.inside.queues.items c.args.queue c.index_mut-u.result.now (within c) c.index_mut-u.ensures.value

-- the other queue, once the head has left
within_other : (c : After-note-2) → c.args.number < length (set c.self.inside.queues.items c.args.queue c.take_head.new.self)
within_other c = let h = rw (← c.self.view_is) at c.requires.there in omega (arith, h, length-set c.self.inside.queues.items c.args.queue c.take_head.new.self)

there_other : (c : After-note-2) → slice_get (set c.self.inside.queues.items c.args.queue c.take_head.new.self) c.args.number ≡ Some c.index_mut-raised.result.now
there_other c = read_at (set c.self.inside.queues.items c.args.queue c.take_head.new.self) c.args.number c.index_mut-raised.result.now (within_other c) c.index_mut-raised.ensures.value

first_queues : (c : After-note-2) → AreQueues (length c.self.inside.memory.items) (c.self.inside.steps + 1) (length c.self.inside.chains.items) (set c.self.inside.queues.items c.args.queue c.take_head.new.self)
first_queues c =
    let a = c.self.inside in
    let u = c.index_mut-u.result.now in
    let is = c.take_head.ensures.left in
    let old = queue_at a c.self.invariant c.args.queue u (within c) c.index_mut-u.ensures.value in
    with_changed (length a.memory.items) (a.steps + 1) (length a.chains.items) a.queues.items (one_step (length a.memory.items) a.steps (length a.chains.items) a.queues.items (its_queues a c.self.invariant)) c.args.queue u c.take_head.new.self (within c) c.index_mut-u.ensures.value (ap (λ (w : Queue). w.row) is) (omega (arith, old.head, ap (λ (w : Queue). w.head) is)) (omega (arith, old.counter, ap (λ (w : Queue). w.counter) is))

first_busy : (c : After-note-2) → KeepsBusy c.note.new.busy (length c.self.inside.chains.items) (set c.self.inside.queues.items c.args.queue c.take_head.new.self)
first_busy c =
    let a = c.self.inside in
    rw c.note.ensures (noted a.busy (length a.chains.items) a.queues.items c.args.queue c.index_mut-u.result.now c.take_head.new.self c.self.invariant.busy (within c) c.index_mut-u.ensures.value (ap (λ (w : Queue). w.row.domain) c.take_head.ensures.left))

pub invariant_of-self : goal.invariant_of-self
invariant_of-self c =
    let at = (goal.at.invariant_of-self c).After-note-2 in
    let a = c.self.inside in
    let qs = set a.queues.items c.args.queue c.take_head.new.self in
    let u = c.index_mut-raised.result.now in
    let is = c.raise.ensures in
    let firsts = first_queues at in
    let old = firsts.at c.args.number u (within_other at) in
    stays_adapter a a.memory (with_item (with_item a.queues c.args.queue c.take_head.new.self) c.args.number c.raise.new.self) c.note-2.new.busy c.self.invariant refl
    (with_changed (length a.memory.items) (a.steps + 1) (length a.chains.items) qs firsts c.args.number u c.raise.new.self (within_other at) c.index_mut-raised.ensures.value (ap (λ (w : Queue). w.row) is) (omega (arith, old.head, ap (λ (w : Queue). w.head) c.index_mut-raised.ensures.value, ap (λ (w : Queue). w.head) is)) (omega (arith, old.counter, ap (λ (w : Queue). w.counter) c.index_mut-raised.ensures.value, ap (λ (w : Queue). w.counter) is)))
    (rw c.note-2.ensures (noted c.note.new.busy (length a.chains.items) qs c.args.number u c.raise.new.self (first_busy at) (within_other at) c.index_mut-raised.ensures.value (ap (λ (w : Queue). w.row.domain) is)))

pub returns : goal.returns
returns c =
    let at = (goal.at.returns c).After-note-2 in
    let a = c.self.inside in
    let other = rw c.take_head.ensures.left at (there_other at) in
    rw (← c.self.view_is, there at, other, c.raise.ensures, c.take_head.ensures.left) refl
