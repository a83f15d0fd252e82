use Rattle.std.proofs.Common.{◌≡◌, ◌+◌, ◌<◌, ℕ, ◌≤◌, true, List, [], ◌∷◌, Some, length, set, refl, sym, ap, ◌∙◌, arith}
use Rattle.std.specs.Prelude.{slice_get}
use Rattle.std.proofs.lemmas.List.{get_or_read}
use Rattle.redn_words.specs.declared.types.Flight.{Flight}
use Rattle.redn_words.specs.declared.types.Action.TheVariants.{Complete}
use Rattle.redn_words.specs.declared.types.Obs.TheVariants as shows
use Rattle.redn_words.specs.States.{Queue, State}
use Rattle.redn_words.specs.Steps.{possible, after, shown, completed}
use Rattle.redn_adapter.specs.AdapterView.{adapter_view}
use Rattle.redn_words.specs.declared.types.QueueRow.{QueueRow}
use Rattle.redn_adapter.proofs.Marking.{noted}
use Rattle.redn_adapter.proofs.Stepping.{queue_steps}
use Rattle.redn_adapter.proofs.Delivery.{read_at}
use Rattle.redn_adapter.proofs.Taken.{taken_shown, taken_after}
use Rattle.redn_adapter.proofs.adapter.Adapter.complete.Goals as goal
use Rattle.redn_adapter.proofs.adapter.Adapter.complete.Goals.{After-complete}

-- a completion counts one at most
record Counts (u v : Queue) : Type 0 where
  row : v.row ≡ u.row
  head : v.head ≤ u.head + 1
  counter : v.counter ≤ u.counter + 1

completes : (v : Queue) (fs : List Flight) → Counts v (completed v fs)
completes v [] = record { row = refl; head = omega arith; counter = omega arith }
completes v (f ∷ fs) = record { row = refl; head = omega arith; counter = omega arith }

before : After-complete → State
before c = let a = c.self.inside in record { regions = a.regions; receives = a.receives.items; memory = a.memory.items; queues = a.queues.items; chains = a.chains.items }

within : (c : After-complete) → c.args.queue < length c.self.inside.queues.items
within c = let h = rw c.deref.ensures.value at c.in_ok-u.ensures.lookup in h.3.0

there : (c : After-complete) → slice_get (before c).queues c.args.queue ≡ Some c.in_ok-u.u.now
unfolding before
there c = let h = rw c.deref.ensures.value at c.in_ok-u.ensures.lookup in read_at c.self.inside.queues.items c.args.queue c.in_ok-u.u.now h.3.0 h.1

possible_here : (c : After-complete) → possible (before c) (Complete c.args.queue) ≡ true
unfolding possible
possible_here c = rw (there c) (sym c.can_complete.ensures ∙ c.if-not-can_complete.false)

same : (c : After-complete) → c.index_mut-u.result.now ≡ c.in_ok-u.u.now
same c =
    let h = rw c.deref.ensures.value at c.in_ok-u.ensures.lookup in
    get_or_read c.self.inside.queues.items c.args.queue c.index_mut-u.result.now (within c) c.index_mut-u.ensures.value c.in_ok-u.u.now ∙ sym h.1

pub returns-clause-after : goal.returns-clause-after
unfolding before after
returns-clause-after c =
    let at = (goal.at.returns-clause-after c).After-complete in
    let a = c.self.inside in
    let u = c.in_ok-u.u.now in
    let is : c.complete.new.self ≡ completed u u.flights = c.complete.ensures ∙ ap (λ (v : Queue). completed v v.flights) (same at) in
    rw (← c.self.view_is)
    (taken_after (adapter_view a) (Complete c.args.queue) _ (possible_here at)
    (rw (there at) (ap (λ (v : Queue). record { state = record (before at) { queues = set a.queues.items c.args.queue v }; steps = a.steps + 1 }) is)))

pub returns-clause-shown : goal.returns-clause-shown
unfolding shown before
returns-clause-shown c =
    let at = (goal.at.returns-clause-shown c).After-complete in
    rw (← c.self.view_is) (taken_shown (before at) (Complete c.args.queue) shows.Nothing (possible_here at) refl)

pub invariant_of-self : goal.invariant_of-self
invariant_of-self c =
    let at = (goal.at.invariant_of-self c).After-complete in
    let a = c.self.inside in
    let v = c.index_mut-u.result.now in
    let its = completes v v.flights in
    queue_steps a c.args.queue v c.complete.new.self a.memory c.note.new.busy c.self.invariant refl (within at) c.index_mut-u.ensures.value (rw c.complete.ensures its.row) (rw c.complete.ensures its.head) (rw c.complete.ensures its.counter)
    (rw c.note.ensures (noted a.busy (length a.chains.items) a.queues.items c.args.queue v c.complete.new.self c.self.invariant.busy (within at) c.index_mut-u.ensures.value (rw c.complete.ensures (ap (λ (r : QueueRow). r.domain) its.row))))
