use Rattle.std.proofs.Common.{◌<◌, [], length, drop, refl, sym, ap, ◌∙◌, rules}
use Rattle.redn_kernel.specs.Source as source
use Rattle.redn_kernel.specs.Source.{item_does, sets, TakeArgument, Do, do_all}
use Rattle.redn_source.specs.Tasks.{items_of}
use Rattle.redn_source.specs.RunView.{run_view, behind}
use Rattle.redn_source.proofs.Does.{silent_turn, takes, with_items}
use Rattle.redn_source.proofs.First.{does_first, do_first, not_empty}
use Rattle.redn_source.proofs.run.Run.step.Goals as goal

pub returns-in-Argument-clause-turn : goal.returns-in-Argument-clause-turn
unfolding item_does
returns-in-Argument-clause-turn c =
    let some = not_empty c.args.self.now.tasks (c.in-Some.ensures.variant.0 refl) in
    does_first c.args.chain _ (run_view c.args.self.now) c.args.self.now.tasks.items c.in-Some.first.now (TakeArgument c.in-Argument.i) [] _ some c.in-Some.ensures.lookup (ap items_of c.in-Argument.is) (takes c.args.chain _ (run_view c.args.self.now) c.in-Argument.i _ _ _ _ c.argument-word.ensures (c.assign.ensures.turn _))

pub returns-in-AgainLoop-clause-turn : goal.returns-in-AgainLoop-clause-turn
unfolding item_does
returns-in-AgainLoop-clause-turn c =
    let some = not_empty c.args.self.now.tasks (c.in-Some.ensures.variant.0 refl) in
    does_first c.args.chain _ (run_view c.args.self.now) c.args.self.now.tasks.items c.in-Some.first.now (source.AgainLoop c.in-AgainLoop.body.now) [] _ some c.in-Some.ensures.lookup (ap items_of c.in-AgainLoop.is) (c.loop_again.ensures.turn _ c.args.chain)

pub returns-in-AgainRepeat-clause-turn : goal.returns-in-AgainRepeat-clause-turn
unfolding item_does
returns-in-AgainRepeat-clause-turn c =
    let some = not_empty c.args.self.now.tasks (c.in-Some.ensures.variant.0 refl) in
    does_first c.args.chain _ (run_view c.args.self.now) c.args.self.now.tasks.items c.in-Some.first.now (source.AgainRepeat c.in-AgainRepeat.count c.in-AgainRepeat.body.now) [] _ some c.in-Some.ensures.lookup (ap items_of c.in-AgainRepeat.is) (c.repeat_again.ensures.turn _ c.args.chain)

pub returns-in-Find-clause-turn : goal.returns-in-Find-clause-turn
unfolding item_does
returns-in-Find-clause-turn c =
    let some = not_empty c.args.self.now.tasks (c.in-Some.ensures.variant.0 refl) in
    does_first c.args.chain _ (run_view c.args.self.now) c.args.self.now.tasks.items c.in-Some.first.now (source.Find c.in-Find.search.to c.in-Find.search.table c.in-Find.search.offset c.in-Find.search.key c.in-Find.search.left) [] _ some c.in-Some.ensures.lookup (ap items_of c.in-Find.is) c.find.ensures.turn

pub returns-in-Visit-clause-turn : goal.returns-in-Visit-clause-turn
unfolding item_does
returns-in-Visit-clause-turn c =
    let some = not_empty c.args.self.now.tasks (c.in-Some.ensures.variant.0 refl) in
    does_first c.args.chain _ (run_view c.args.self.now) c.args.self.now.tasks.items c.in-Some.first.now (source.Visit c.in-Visit.search.to c.in-Visit.search.table c.in-Visit.search.offset c.in-Visit.search.key c.in-Visit.search.left) [] _ some c.in-Some.ensures.lookup (ap items_of c.in-Visit.is) c.visit.ensures.turn

pub returns-in-Next-clause-turn : goal.returns-in-Next-clause-turn
unfolding item_does
returns-in-Next-clause-turn c =
    let some = not_empty c.args.self.now.tasks (c.in-Some.ensures.variant.0 refl) in
    does_first c.args.chain _ (run_view c.args.self.now) c.args.self.now.tasks.items c.in-Some.first.now (source.Next c.in-Next.search.to c.in-Next.search.table c.in-Next.search.offset c.in-Next.search.key c.in-Next.search.left) [] _ some c.in-Some.ensures.lookup (ap items_of c.in-Next.is) c.next_node.ensures.turn

pub returns-in-Take-clause-turn : goal.returns-in-Take-clause-turn
unfolding item_does
returns-in-Take-clause-turn c =
    let some = not_empty c.args.self.now.tasks (c.in-Some.ensures.variant.0 refl) in
    does_first c.args.chain _ (run_view c.args.self.now) c.args.self.now.tasks.items c.in-Some.first.now (source.Take c.in-Take.to c.in-Take.table c.in-Take.offset) [] _ some c.in-Some.ensures.lookup (ap items_of c.in-Take.is) c.load.ensures.turn

pub returns-in-Left-clause-turn : goal.returns-in-Left-clause-turn
unfolding item_does
returns-in-Left-clause-turn c =
    let some = not_empty c.args.self.now.tasks (c.in-Some.ensures.variant.0 refl) in
    does_first c.args.chain _ (run_view c.args.self.now) c.args.self.now.tasks.items c.in-Some.first.now (source.Left c.in-Left.search.to c.in-Left.search.table c.in-Left.search.offset c.in-Left.search.key c.in-Left.search.left) [] _ some c.in-Some.ensures.lookup (ap items_of c.in-Left.is) (silent_turn c.args.chain _ (run_view c.args.self.now) _ c.replace.new.self _ (c.replace.ensures.items ∙ with_items (run_view c.args.self.now) (sym (c.after_other.ensures.items (behind c.args.self.now)))) c.replace.ensures.silent)

pub returns-in-Here-clause-turn : goal.returns-in-Here-clause-turn
unfolding item_does
returns-in-Here-clause-turn c =
    let some = not_empty c.args.self.now.tasks (c.in-Some.ensures.variant.0 refl) in
    does_first c.args.chain _ (run_view c.args.self.now) c.args.self.now.tasks.items c.in-Some.first.now (source.Here c.in-Here.search.to c.in-Here.search.table c.in-Here.search.offset c.in-Here.search.key c.in-Here.search.left) [] _ some c.in-Some.ensures.lookup (ap items_of c.in-Here.is) (silent_turn c.args.chain _ (run_view c.args.self.now) _ c.replace-in-Here.new.self _ (c.replace-in-Here.ensures.items ∙ with_items (run_view c.args.self.now) (sym (c.after_offset.ensures.items (behind c.args.self.now)))) c.replace-in-Here.ensures.silent)

pub returns-in-Statements-clause-turn : goal.returns-in-Statements-clause-turn
unfolding item_does
returns-in-Statements-clause-turn c =
    let some = not_empty c.args.self.now.tasks (c.in-Some.ensures.variant.0 refl) in
    let body = c.in-Statements.body.now in
    let some_body : 0 < length body = search rules in
    does_first c.args.chain _ (run_view c.args.self.now) c.args.self.now.tasks.items c.in-Some.first.now (Do c.index-body-0.result) (do_all (drop 1 body)) _ some c.in-Some.ensures.lookup (ap items_of c.in-Statements.is ∙ do_first body c.index-body-0.result some_body c.index-body-0.is) c.do_statement.ensures.turn
