use Rattle.std.proofs.Common.{◌≡◌, ◌+◌, ◌<◌, ◌≤◌, true, length, get_or, set, refl, sym, ap, ◌∙◌, arith}
use Rattle.std.proofs.lemmas.Bool.{true≢false}
use Rattle.redn_words.proofs.Flights.{length-landed}
use Rattle.redn_adapter.specs.Busy.{is_busy}
use Rattle.redn_adapter.proofs.Marking.{still_busy, same_flights}
use Rattle.redn_adapter.proofs.Stepping.{queue_steps}
use Rattle.std.specs.Vec.{with_items, with_item}
use Rattle.std.proofs.lemmas.List.{with_items_is, get_or_read}
use Rattle.redn_words.specs.declared.types.Action.TheVariants.{Land}
use Rattle.redn_words.specs.States.{State, Queue}
use Rattle.std.specs.Option.{option_copied}
use Rattle.redn_words.specs.Landings.{Landing, landing}
use Rattle.redn_words.specs.Steps.{possible, after, step, flying, stopped, landed_at}
use Rattle.redn_words.proofs.Actions.{can_land}
use Rattle.redn_adapter.proofs.Taken.{taken_shown, taken_after}
use Rattle.redn_adapter.specs.Running.{stepped}
use Rattle.redn_exec.specs.Landed.{answer_of, from_queue}
use Rattle.redn_adapter.specs.AdapterView.{adapter_view}
use Rattle.redn_adapter.proofs.Delivery.{read_at}
use Rattle.redn_adapter.proofs.Lands.{IsLandingAt, flight_of, done_leaves, done_shows, refused_leaves, refused_shows}
use Rattle.redn_adapter.proofs.adapter.Adapter.land.Goals as goal
use Rattle.redn_adapter.proofs.adapter.Adapter.land.Goals.{After-land}

-- the state before, by the fields
before : (c : After-land) → State
before c = let a = c.self.inside in record { regions = a.regions; receives = a.receives.items; memory = a.memory.items; queues = a.queues.items; chains = a.chains.items }

there : (c : After-land) → c.args.queue < length c.self.inside.queues.items
there c = let h = rw c.deref.ensures.value at c.in_ok-u.ensures.lookup in h.3.0

read : (c : After-land) → c.in_ok-u.u.now ≡ get_or c.self.inside.queues.items c.args.queue c.in_ok-u.u.now
read c = let h = rw c.deref.ensures.value at c.in_ok-u.ensures.lookup in h.1

answered : After-land → Landing
answered c = landing c.self.inside.regions (from_queue c.row.result.now.domain c.args.queue c.args.index) c.self.inside.memory.items c.decode-r.result

facts : (c : After-land) → IsLandingAt (before c) c.args.queue c.args.index c.in_ok-u.u.now (with_items c.self.inside.memory c.land.new.mem).items (answered c)
unfolding before answered
facts c =
    let a = c.self.inside in
    let u = c.in_ok-u.u.now in
    record {
      copy = c.in_ok-flying.field-0.now;
      queue = read_at a.queues.items c.args.queue u (there c) (read c);
      flies = sym c.flying.ensures ∙ ap option_copied c.in_ok-flying.was;
      same = rw (c.row.ensures, c.decode-r.ensures.fields) refl;
      memory = with_items_is a.memory c.land.new.mem (c.land.auto.mem ∙ c.deref_mut.ensures.len) ∙ c.land.ensures.memory ∙ rw c.deref_mut.ensures.value refl;
    }

said : (c : After-land) → c.land.result ≡ answer_of (answered c)
unfolding answered
said c = c.land.ensures.answer ∙ rw c.deref_mut.ensures.value refl

possible_here : (c : After-land) → possible (before c) (Land c.args.queue c.args.index) ≡ true
unfolding possible before
possible_here c =
    let is = facts c in
    let u = c.in_ok-u.u.now in
    let f = flight_of is.copy (flying u c.args.index) is.flies in
    can_land (before c) c.args.queue u is.queue c.args.index (record { flight = f.0; runs = sym c.stopped.ensures ∙ c.if-stopped.false; found = f.1 })

-- the same queue is read twice
module _ (c : After-land) (v : Queue) (e : v ≡ get_or c.self.inside.queues.items c.args.queue v) where
  same_queue : v ≡ c.in_ok-u.u.now
  same_queue = get_or_read c.self.inside.queues.items c.args.queue v (there c) e c.in_ok-u.u.now ∙ sym (read c)

  left_by : (w : Queue) (f : Queue → Queue) → w ≡ f v → record (before c) { memory = (with_items c.self.inside.memory c.land.new.mem).items; queues = set c.self.inside.queues.items c.args.queue (f c.in_ok-u.u.now) } ≡ after (before c) (Land c.args.queue c.args.index) → (adapter_view (record c.self.inside { memory = with_items c.self.inside.memory c.land.new.mem; queues = with_item c.self.inside.queues c.args.queue w; steps = c.self.inside.steps + 1 })) ≡ stepped c.args.self.now (step c.args.self.now.state (Land c.args.queue c.args.index))
  unfolding before
  left_by w f is h =
      let a = c.self.inside in
      let s = before c in
      rw (← c.self.view_is)
      (taken_after (adapter_view a) (Land c.args.queue c.args.index) _ (possible_here c) (ap (λ (x : State). record { state = x; steps = a.steps + 1 })
      (ap (λ (x : Queue). record s { memory = (with_items a.memory c.land.new.mem).items; queues = set a.queues.items c.args.queue x }) (is ∙ ap f same_queue) ∙ h)))

pub returns-in-Done-clause-after : goal.returns-in-Done-clause-after
unfolding before
returns-in-Done-clause-after c =
    let at = (goal.at.returns-in-Done-clause-after c).After-land in
    left_by at c.index_mut.result.now c.index_mut.ensures.value c.mark_landed.new.self (λ (u : Queue). landed_at u c.args.index) c.mark_landed.ensures
    (done_leaves (before at) c.args.queue c.args.index c.in_ok-u.u.now _ (answered at) (facts at) c.in-Done.shown (sym (said at) ∙ c.in-Done.is))

pub returns-in-Done-clause-shown : goal.returns-in-Done-clause-shown
unfolding before
returns-in-Done-clause-shown c =
    let at = (goal.at.returns-in-Done-clause-shown c).After-land in
    rw (← c.self.view_is) (taken_shown (before at) (Land c.args.queue c.args.index) c.in-Done.shown (possible_here at) (done_shows (before at) c.args.queue c.args.index c.in_ok-u.u.now _ (answered at) (facts at) c.in-Done.shown (sym (said at) ∙ c.in-Done.is)))

pub returns-in-Refused-clause-after : goal.returns-in-Refused-clause-after
unfolding before
returns-in-Refused-clause-after c =
    let at = (goal.at.returns-in-Refused-clause-after c).After-land in
    left_by at c.index_mut-in-Refused.result.now c.index_mut-in-Refused.ensures.value c.stop.new.self stopped c.stop.ensures
    (refused_leaves (before at) c.args.queue c.args.index c.in_ok-u.u.now _ (answered at) (facts at) c.in-Refused.shown (sym (said at) ∙ c.in-Refused.is))

pub returns-in-Refused-clause-shown : goal.returns-in-Refused-clause-shown
unfolding before
returns-in-Refused-clause-shown c =
    let at = (goal.at.returns-in-Refused-clause-shown c).After-land in
    rw (← c.self.view_is) (taken_shown (before at) (Land c.args.queue c.args.index) c.in-Refused.shown (possible_here at) (refused_shows (before at) c.args.queue c.args.index c.in_ok-u.u.now _ (answered at) (facts at) c.in-Refused.shown (sym (said at) ∙ c.in-Refused.is)))

as_large : (c : After-land) → length (with_items c.self.inside.memory c.land.new.mem).items ≡ length c.self.inside.memory.items
as_large c = ap length (with_items_is c.self.inside.memory c.land.new.mem (c.land.auto.mem ∙ c.deref_mut.ensures.len)) ∙ c.land.auto.mem ∙ ap length c.deref_mut.ensures.value

pub invariant_of-self : goal.invariant_of-self
invariant_of-self c =
    let at = (goal.at.invariant_of-self c).After-land in
    let a = c.self.inside in
    let u = c.index_mut.result.now in
    let v = c.mark_landed.new.self in
    let is = c.mark_landed.ensures in
    queue_steps a c.args.queue u v (with_items a.memory c.land.new.mem) a.busy c.self.invariant (as_large at) (there at) c.index_mut.ensures.value (ap (λ (w : Queue). w.row) is) (omega (arith, ap (λ (w : Queue). w.head) is)) (omega (arith, ap (λ (w : Queue). w.counter) is))
    (still_busy a.busy (length a.chains.items) a.queues.items c.args.queue u v c.self.invariant.busy (there at) c.index_mut.ensures.value (ap (λ (w : Queue). w.row.domain) is) (λ e. sym (same_flights u v (ap (λ (w : Queue). w.stopped) is) (ap (λ (w : Queue). w.head) is) (ap (λ (w : Queue). w.limit) is) (ap (λ (w : Queue). w.held) is) (ap (λ (w : Queue). length w.flights) is ∙ length-landed c.args.index u.flights)) ∙ e))

pub invariant_of-self-in-Refused : goal.invariant_of-self-in-Refused
invariant_of-self-in-Refused c =
    let at = (goal.at.invariant_of-self-in-Refused c).After-land in
    let a = c.self.inside in
    let u = c.index_mut-in-Refused.result.now in
    let v = c.stop.new.self in
    let is = c.stop.ensures in
    queue_steps a c.args.queue u v (with_items a.memory c.land.new.mem) a.busy c.self.invariant (as_large at) (there at) c.index_mut-in-Refused.ensures.value (ap (λ (w : Queue). w.row) is) (omega (arith, ap (λ (w : Queue). w.head) is)) (omega (arith, ap (λ (w : Queue). w.counter) is))
    (still_busy a.busy (length a.chains.items) a.queues.items c.args.queue u v c.self.invariant.busy (there at) c.index_mut-in-Refused.ensures.value (ap (λ (w : Queue). w.row.domain) is) (λ e. absurd (true≢false (sym e ∙ ap is_busy is))))
