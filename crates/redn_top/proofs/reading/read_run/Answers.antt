use Rattle.std.proofs.Common.{◌≡◌, sym, ap, subst, ◌∙◌}
use Rattle.std.proofs.lemmas.Result.{err_from_is_err_and}
use Rattle.redn_command.specs.Words.{Plan, Schedule, plan_view}
use Rattle.redn_top.specs.Calls.{GrewBy, ReadsMade, run_reads}
use Rattle.redn_top.specs.Refusals.{RunReadRefused}
use Rattle.redn_top.proofs.Found.{first_read_refused, second_read_refused}
use Rattle.redn_top.proofs.CallsMade.{first_unread, second_unread}
use Rattle.redn_top.proofs.reading.read_run.Goals as goal

pub returns-in_err-first-clause-refused : goal.returns-in_err-first-clause-refused
returns-in_err-first-clause-refused g c =
    let before = g.S.Store.seen c.args.store.now in
    let p = err_from_is_err_and c.from_residual.result c.from_residual.ensures.1 in
    rw (p.1, p.2) (first_read_refused before.told c.args.name.now c.args.limit (plan_view c.args.plan.now) before (g.S.Store.seen c.read_file.new.store) c.in_err-first.field-0.0 c.in_err-first.ensures.refused)

pub returns-in_err-second-in-Schedule-clause-refused : goal.returns-in_err-second-in-Schedule-clause-refused
returns-in_err-second-in-Schedule-clause-refused g c =
    let before = g.S.Store.seen c.args.store.now in
    let mid = g.S.Store.seen c.read_file.new.store in
    let now = g.S.Store.seen c.read_file-in-Schedule.new.store in
    let file = c.as_str.result.now in
    let why = c.in_err-second-in-Schedule.field-0.0 in
    let is : plan_view c.args.plan.now ≡ Schedule file = ap plan_view c.in-Schedule.is ∙ ap Schedule (sym c.as_str.ensures.value) in
    let p = err_from_is_err_and c.from_residual-in_err-second-in-Schedule.result c.from_residual-in_err-second-in-Schedule.ensures.1 in
    rw (p.1, p.2)
    (subst (λ (plan : Plan). RunReadRefused before.told c.args.name.now c.args.limit plan before now why) (sym is)
    (second_read_refused c.args.name.now c.args.limit file before mid now c.in_ok-first.first.items c.in_ok-first.ensures.stays c.in_ok-first.ensures.held why c.in_err-second-in-Schedule.ensures.refused))

pub returns-in_err-first-clause-made : goal.returns-in_err-first-clause-made
returns-in_err-first-clause-made g c =
    let before = g.S.Store.seen c.args.store.now in
    let p = err_from_is_err_and c.from_residual.result c.from_residual.ensures.1 in
    rw (p.1, p.2) (first_unread before.told c.args.name.now c.args.limit (plan_view c.args.plan.now) before (g.S.Store.seen c.read_file.new.store) c.in_err-first.field-0.0 c.in_err-first.ensures.made)

pub returns-in_err-second-in-Schedule-clause-made : goal.returns-in_err-second-in-Schedule-clause-made
returns-in_err-second-in-Schedule-clause-made g c =
    let before = g.S.Store.seen c.args.store.now in
    let mid = g.S.Store.seen c.read_file.new.store in
    let now = g.S.Store.seen c.read_file-in-Schedule.new.store in
    let file = c.as_str.result.now in
    let why = c.in_err-second-in-Schedule.field-0.0 in
    let is : plan_view c.args.plan.now ≡ Schedule file = ap plan_view c.in-Schedule.is ∙ ap Schedule (sym c.as_str.ensures.value) in
    let p = err_from_is_err_and c.from_residual-in_err-second-in-Schedule.result c.from_residual-in_err-second-in-Schedule.ensures.1 in
    rw (p.1, p.2)
    (subst (λ (plan : Plan). GrewBy (ReadsMade before.told (run_reads c.args.name.now c.args.limit plan) why) before now) (sym is)
    (second_unread before.told c.args.name.now c.args.limit file before mid now c.in_ok-first.ensures.called c.in_ok-first.first.items c.in_ok-first.ensures.held mid.told why c.in_err-second-in-Schedule.ensures.made))
