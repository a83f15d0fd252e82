use Rattle.std.proofs.Common.{◌≡◌, ◌+◌, ◌<◌, true, Some, length, set, refl, sym, ap, ◌∙◌, arith}
use Rattle.std.specs.Prelude.{slice_get}
use Rattle.std.specs.Vec.{with_item}
use Rattle.std.proofs.lemmas.List.{get_or_read}
use Rattle.redn_words.specs.declared.types.Action.TheVariants.{Fetch}
use Rattle.redn_words.specs.declared.types.Obs.TheVariants as shows
use Rattle.redn_words.specs.States.{Queue, State, slot_of}
use Rattle.redn_words.specs.Steps.{possible, after, shown, fetched, fetch_possible}
use Rattle.redn_adapter.specs.AdapterView.{adapter_view}
use Rattle.redn_adapter.proofs.Delivery.{read_at}
use Rattle.redn_adapter.proofs.Taken.{taken_shown, taken_after}
use Rattle.redn_adapter.proofs.Marking.{still_busy, fetched_busy}
use Rattle.redn_adapter.proofs.Stepping.{stays_adapter, with_changed, one_step, its_queues, queue_at}
use Rattle.redn_adapter.proofs.adapter.Adapter.fetch.Goals as goal
use Rattle.redn_adapter.proofs.adapter.Adapter.fetch.Goals.{After-hold}

before : (c : After-hold) → State
before c = let a = c.self.inside in record { regions = a.regions; receives = a.receives.items; memory = a.memory.items; queues = a.queues.items; chains = a.chains.items }

within : (c : After-hold) → c.args.queue < length c.self.inside.queues.items
within c = let h = rw c.deref.ensures.value at c.in_ok-u.ensures.lookup in h.3.0

there : (c : After-hold) → slice_get c.self.inside.queues.items c.args.queue ≡ Some c.in_ok-u.u.now
there c = let h = rw c.deref.ensures.value at c.in_ok-u.ensures.lookup in read_at c.self.inside.queues.items c.args.queue c.in_ok-u.u.now h.3.0 h.1

same : (c : After-hold) → c.index_mut.result.now ≡ c.in_ok-u.u.now
same c =
    let h = rw c.deref.ensures.value at c.in_ok-u.ensures.lookup in
    get_or_read c.self.inside.queues.items c.args.queue c.index_mut.result.now h.3.0 c.index_mut.ensures.value c.in_ok-u.u.now ∙ sym h.1

can : (c : After-hold) → fetch_possible c.args.index c.in_ok-u.u.now ≡ true
can c = sym c.can_fetch.ensures ∙ c.if-not-can_fetch.false

possible_here : (c : After-hold) → possible (before c) (Fetch c.args.queue c.args.index) ≡ true
unfolding possible before
possible_here c = rw (there c) (can c)

pub invariant_of-self : goal.invariant_of-self
invariant_of-self c =
    let at = (goal.at.invariant_of-self c).After-hold in
    let a = c.self.inside in
    let inv = c.self.invariant in
    let u = c.index_mut.result.now in
    let v = c.hold.new.self in
    let old = queue_at a inv c.args.queue u (within at) c.index_mut.ensures.value in
    let is = c.hold.ensures in
    stays_adapter a a.memory (with_item a.queues c.args.queue v) a.busy inv refl
    (with_changed (length a.memory.items) (a.steps + 1) (length a.chains.items) a.queues.items (one_step (length a.memory.items) a.steps (length a.chains.items) a.queues.items (its_queues a inv)) c.args.queue u v (within at) c.index_mut.ensures.value (ap (λ (w : Queue). w.row) is) (omega (arith, old.head, ap (λ (w : Queue). w.head) is)) (omega (arith, old.counter, ap (λ (w : Queue). w.counter) is)))
    (still_busy a.busy (length a.chains.items) a.queues.items c.args.queue u v inv.busy (within at) c.index_mut.ensures.value (ap (λ (w : Queue). w.row.domain) is) (λ e. fetched_busy u c.args.index (rw (same at) (can at))))

pub returns-clause-shown : goal.returns-clause-shown
unfolding shown before
returns-clause-shown c =
    let at = (goal.at.returns-clause-shown c).After-hold in
    rw (← c.self.view_is) (taken_shown (before at) (Fetch c.args.queue c.args.index) shows.Nothing (possible_here at) refl)

pub returns-clause-after : goal.returns-clause-after
unfolding before after
returns-clause-after c =
    let at = (goal.at.returns-clause-after c).After-hold in
    let a = c.self.inside in
    let copy : c.slot_at-copy.result ≡ slot_of a.memory.items c.in_ok-u.u.now.row c.args.index = c.slot_at-copy.ensures ∙ rw (c.deref-2.ensures.value, c.row.ensures) refl in
    let is : c.hold.new.self ≡ fetched c.in_ok-u.u.now c.args.index (slot_of a.memory.items c.in_ok-u.u.now.row c.args.index) = c.hold.ensures ∙ rw (copy, same at) refl in
    rw (← c.self.view_is)
    (taken_after (adapter_view a) (Fetch c.args.queue c.args.index) _ (possible_here at)
    (rw (there at) (ap (λ (v : Queue). record { state = record (before at) { queues = set a.queues.items c.args.queue v }; steps = a.steps + 1 }) is)))
