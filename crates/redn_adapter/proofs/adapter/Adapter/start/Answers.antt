use Rattle.std.proofs.Common.{◌≡◌, true, Some, sym, ap, ◌∙◌}
use Rattle.std.specs.Prelude.{slice_get}
use Rattle.std.specs.Option.{option_copied}
use Rattle.std.specs.FinMap.{get}
use Rattle.redn_words.specs.declared.types.Action.TheVariants.{Start}
use Rattle.redn_words.specs.Steps.{possible}
use Rattle.redn_words.proofs.Actions.{can_start}
use Rattle.redn_adapter.proofs.Delivery.{read_at}
use Rattle.redn_adapter.proofs.Starts.{leaves, shows_is}
use Rattle.redn_adapter.proofs.Taken.{taken_shown, taken_after}
use Rattle.redn_adapter.proofs.adapter.Adapter.start.Goals as goal
use Rattle.redn_adapter.proofs.adapter.Adapter.start.Goals.{After-leave}

there : (c : After-leave) → slice_get c.args.self.now.state.queues c.args.queue ≡ Some c.in_ok-u.u.now
there c =
    let h = rw c.deref.ensures.value at c.in_ok-u.ensures.lookup in
    rw (← c.self.view_is) (read_at c.self.inside.queues.items c.args.queue c.in_ok-u.u.now h.3.0 h.1)

held : (c : After-leave) → Some c.in_ok-held.held.now ≡ get c.in_ok-u.u.now.held c.in_ok-u.u.now.head
held c = rw c.head.ensures at (sym (ap option_copied c.in_ok-held.was) ∙ c.held.ensures)

possible_here : (c : After-leave) → possible c.args.self.now.state (Start c.args.queue) ≡ true
possible_here c =
    let may = rw (c.class-class.ensures, c.decode-r.ensures.fields) at (sym c.may_start.ensures ∙ c.if-not-may_start.false) in
    can_start c.args.self.now.state c.args.queue c.in_ok-u.u.now (there c) (record { copy = c.in_ok-held.held.now; runs = sym c.stopped.ensures ∙ c.if-stopped.false; held = sym (held c); may = may })

pub returns-clause-after : goal.returns-clause-after
returns-clause-after c =
    taken_after c.args.self.now (Start c.args.queue) c.leave.new.self (possible_here c)
    (rw (c.leave.ensures, c.class-class.ensures, c.decode-r.ensures.fields) (leaves c.args.self.now c.args.queue c.in_ok-u.u.now (there c) c.in_ok-held.held.now (held c)))

pub returns-clause-shown : goal.returns-clause-shown
returns-clause-shown c =
    taken_shown c.args.self.now.state (Start c.args.queue) c.start_shown-shown.result (possible_here c)
    (rw (c.start_shown-shown.ensures, c.class-class.ensures, c.decode-r.ensures.fields) (shows_is c.args.self.now c.args.queue c.in_ok-u.u.now (there c) c.in_ok-held.held.now (held c)))
