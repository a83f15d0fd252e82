use Rattle.std.proofs.Common.{◌≡◌, ◌+◌, ◌<◌, true, false, Some, length, set, refl, sym, ap, ◌∙◌, arith}
use Rattle.std.specs.Prelude.{slice_get}
use Rattle.redn_words.specs.States.{Queue}
use Rattle.redn_adapter.specs.AdapterView.{adapter_view}
use Rattle.redn_adapter.specs.Running.{Running, Runs, HeadIsHeld}
use Rattle.redn_adapter.proofs.Delivery.{read_at}
use Rattle.redn_adapter.proofs.Marking.{still_busy, starts_busy}
use Rattle.redn_adapter.proofs.Stepping.{queue_steps, is_held}
use Rattle.redn_adapter.proofs.adapter.Adapter.start_flight.Goals as goal
use Rattle.redn_adapter.proofs.adapter.Adapter.start_flight.Goals.{After-launch}

within : (c : After-launch) → c.args.queue < length c.self.inside.queues.items
within c = rw (← c.self.view_is) at c.requires.here

there : (c : After-launch) → slice_get c.self.inside.queues.items c.args.queue ≡ Some c.index_mut.result.now
there c = read_at c.self.inside.queues.items c.args.queue c.index_mut.result.now (within c) c.index_mut.ensures.value

pub invariant_of-self : goal.invariant_of-self
invariant_of-self c =
    let at = (goal.at.invariant_of-self c).After-launch in
    let a = c.self.inside in
    let u = c.index_mut.result.now in
    let is = c.launch.ensures in
    let runs : u.stopped ≡ false = rw (← c.self.view_is, there at) at c.requires.runs in
    let held = rw (← c.self.view_is, there at) at c.requires.held in
    queue_steps a c.args.queue u c.launch.new.u a.memory a.busy c.self.invariant refl (within at) c.index_mut.ensures.value (ap (λ (w : Queue). w.row) is) (omega (arith, ap (λ (w : Queue). w.head) is)) (omega (arith, ap (λ (w : Queue). w.counter) is))
    (still_busy a.busy (length a.chains.items) a.queues.items c.args.queue u c.launch.new.u c.self.invariant.busy (within at) c.index_mut.ensures.value (ap (λ (w : Queue). w.row.domain) is) (λ e. starts_busy u runs (is_held u held)))

pub returns : goal.returns
returns c =
    let at = (goal.at.returns c).After-launch in
    let a = c.self.inside in
    rw (← c.self.view_is, there at, c.launch.ensures) refl
