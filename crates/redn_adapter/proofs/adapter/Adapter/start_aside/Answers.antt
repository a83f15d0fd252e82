use Rattle.std.proofs.Common.{◌≡◌, ◌+◌, ◌<◌, ◌≤◌, Bool, true, false, Some, length, set, refl, sym, ap, ◌∙◌, arith}
use Rattle.std.specs.Prelude.{slice_get}
use Rattle.redn_words.specs.States.{Queue}
use Rattle.redn_words.specs.declared.types.QueueRow.{QueueRow}
use Rattle.redn_adapter.specs.AdapterView.{adapter_view}
use Rattle.redn_adapter.specs.Running.{Running, stopped_if}
use Rattle.redn_adapter.proofs.Delivery.{read_at}
use Rattle.redn_adapter.proofs.Marking.{noted}
use Rattle.redn_adapter.proofs.Stepping.{queue_steps, passes_aside}
use Rattle.redn_adapter.proofs.adapter.Adapter.start_aside.Goals as goal
use Rattle.redn_adapter.proofs.adapter.Adapter.start_aside.Goals.{After-note}

within : (c : After-note) → c.args.queue < length c.self.inside.queues.items
within c = rw (← c.self.view_is) at c.requires.here

there : (c : After-note) → slice_get c.self.inside.queues.items c.args.queue ≡ Some c.index_mut-u.result.now
there c = read_at c.self.inside.queues.items c.args.queue c.index_mut-u.result.now (within c) c.index_mut-u.ensures.value

pub invariant_of-self : goal.invariant_of-self
invariant_of-self c =
    let at = (goal.at.invariant_of-self c).After-note in
    let a = c.self.inside in
    let u = c.index_mut-u.result.now in
    let v = c.pass.new.u in
    let its = passes_aside c.args.stops u v c.pass.ensures in
    queue_steps a c.args.queue u v a.memory c.note.new.busy c.self.invariant refl (within at) c.index_mut-u.ensures.value its.row (omega (arith, its.head)) (omega (arith, its.counter))
    (rw c.note.ensures (noted a.busy (length a.chains.items) a.queues.items c.args.queue u v c.self.invariant.busy (within at) c.index_mut-u.ensures.value (ap (λ (r : QueueRow). r.domain) its.row)))

pub returns : goal.returns
returns c =
    let at = (goal.at.returns c).After-note in
    rw (← c.self.view_is, there at, c.pass.ensures) refl
