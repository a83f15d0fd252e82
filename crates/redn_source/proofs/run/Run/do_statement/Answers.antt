use Rattle.std.proofs.Common.{ap, ◌∙◌, arith}
use Rattle.redn_kernel.specs.Program.{weight_of}
use Rattle.redn_source.specs.RunView.{run_view, behind}
use Rattle.redn_kernel.proofs.Cases.{weight_of_if, weight_of_loop, weight_of_repeat, weight_of_lookup, weight_of_walk}
use Rattle.redn_source.proofs.Does as does
use Rattle.redn_kernel.proofs.Statements as statements
use Rattle.redn_source.proofs.run.Run.do_statement.Goals as goal

pub do_move-requires-clause-there : goal.do_move-requires-clause-there
do_move-requires-clause-there c = (statements.move_named _ _ c.requires.usable _ _ c.in-Move.is).0

pub do_move-requires-clause-named : goal.do_move-requires-clause-named
do_move-requires-clause-named c = (statements.move_named _ _ c.requires.usable _ _ c.in-Move.is).1

pub do_add-requires-clause-there : goal.do_add-requires-clause-there
do_add-requires-clause-there c = (statements.add_named _ _ c.requires.usable _ _ c.in-Add.is).0

pub do_add-requires-clause-named : goal.do_add-requires-clause-named
do_add-requires-clause-named c = (statements.add_named _ _ c.requires.usable _ _ c.in-Add.is).1

pub value-requires : goal.value-requires
value-requires c = (statements.load_named _ _ c.requires.usable _ _ _ c.in-Load.is).1

pub load-requires-clause-there : goal.load-requires-clause-there
load-requires-clause-there c = (statements.load_named _ _ c.requires.usable _ _ _ c.in-Load.is).0

pub do_store-requires-clause-place : goal.do_store-requires-clause-place
do_store-requires-clause-place c = (statements.store_named _ _ c.requires.usable _ _ _ c.in-Store.is).0

pub do_store-requires-clause-named : goal.do_store-requires-clause-named
do_store-requires-clause-named c = (statements.store_named _ _ c.requires.usable _ _ _ c.in-Store.is).1

pub holds-met-requires-clause-left : goal.holds-met-requires-clause-left
holds-met-requires-clause-left c = (statements.if_named _ _ c.requires.usable _ _ _ _ _ c.in-If.is).0

pub holds-met-requires-clause-right : goal.holds-met-requires-clause-right
holds-met-requires-clause-right c = (statements.if_named _ _ c.requires.usable _ _ _ _ _ c.in-If.is).1

pub begin_lookup-requires-clause-there : goal.begin_lookup-requires-clause-there
begin_lookup-requires-clause-there c = (statements.lookup_named _ _ c.requires.usable _ _ _ _ _ c.in-Lookup.is).0

pub begin_lookup-requires-clause-place : goal.begin_lookup-requires-clause-place
begin_lookup-requires-clause-place c = (statements.lookup_named _ _ c.requires.usable _ _ _ _ _ c.in-Lookup.is).1

pub begin_lookup-requires-clause-key : goal.begin_lookup-requires-clause-key
begin_lookup-requires-clause-key c = (statements.lookup_named _ _ c.requires.usable _ _ _ _ _ c.in-Lookup.is).2

pub begin_lookup-requires-clause-room : goal.begin_lookup-requires-clause-room
begin_lookup-requires-clause-room c = omega (arith, c.requires.room, ap weight_of c.in-Lookup.is ∙ weight_of_lookup _ _ _ _ _)

pub begin_walk-requires-clause-there : goal.begin_walk-requires-clause-there
begin_walk-requires-clause-there c = (statements.walk_named _ _ c.requires.usable _ _ _ _ _ c.in-Walk.is).0

pub begin_walk-requires-clause-place : goal.begin_walk-requires-clause-place
begin_walk-requires-clause-place c = (statements.walk_named _ _ c.requires.usable _ _ _ _ _ c.in-Walk.is).1

pub begin_walk-requires-clause-key : goal.begin_walk-requires-clause-key
begin_walk-requires-clause-key c = (statements.walk_named _ _ c.requires.usable _ _ _ _ _ c.in-Walk.is).2

pub begin_walk-requires-clause-room : goal.begin_walk-requires-clause-room
begin_walk-requires-clause-room c = omega (arith, c.requires.room, ap weight_of c.in-Walk.is ∙ weight_of_walk _ _ _ _ _)

pub loop_again-requires-clause-room : goal.loop_again-requires-clause-room
loop_again-requires-clause-room c = rw c.as_slice-in-Loop.ensures (omega (arith, c.requires.room, ap weight_of c.in-Loop.is ∙ weight_of_loop _))

pub loop_again-requires-clause-usable : goal.loop_again-requires-clause-usable
loop_again-requires-clause-usable c = rw c.as_slice-in-Loop.ensures (statements.loop_usable _ _ c.requires.usable _ c.in-Loop.is)

pub repeat_again-requires-clause-room : goal.repeat_again-requires-clause-room
repeat_again-requires-clause-room c = rw c.as_slice-in-Repeat.ensures (omega (arith, c.requires.room, ap weight_of c.in-Repeat.is ∙ weight_of_repeat _ _))

pub repeat_again-requires-clause-usable : goal.repeat_again-requires-clause-usable
repeat_again-requires-clause-usable c = rw c.as_slice-in-Repeat.ensures (statements.repeat_usable _ _ c.requires.usable _ _ c.in-Repeat.is)

pub choose-requires-clause-yes_room : goal.choose-requires-clause-yes_room
choose-requires-clause-yes_room c = rw c.as_slice.ensures (omega (arith, c.requires.room, ap weight_of c.in-If.is ∙ weight_of_if _ _ _ _ _))

pub choose-requires-clause-yes_usable : goal.choose-requires-clause-yes_usable
choose-requires-clause-yes_usable c = rw c.as_slice.ensures (statements.if_usable _ _ c.requires.usable _ _ _ _ _ c.in-If.is).0

pub choose-requires-clause-no_room : goal.choose-requires-clause-no_room
choose-requires-clause-no_room c = rw c.as_slice-in-If.ensures (omega (arith, c.requires.room, ap weight_of c.in-If.is ∙ weight_of_if _ _ _ _ _))

pub choose-requires-clause-no_usable : goal.choose-requires-clause-no_usable
choose-requires-clause-no_usable c = rw c.as_slice-in-If.ensures (statements.if_usable _ _ c.requires.usable _ _ _ _ _ c.in-If.is).1

pub reply-requires-clause-few : goal.reply-requires-clause-few
reply-requires-clause-few c = rw c.as_slice-in-Reply.ensures (statements.reply_named _ _ c.requires.usable _ c.in-Reply.is).1

pub reply-requires-clause-named : goal.reply-requires-clause-named
reply-requires-clause-named c = rw c.as_slice-in-Reply.ensures (statements.reply_named _ _ c.requires.usable _ c.in-Reply.is).0

pub returns-in-Move-clause-turn : goal.returns-in-Move-clause-turn
returns-in-Move-clause-turn c = does.moves c.args.chain _ (run_view c.args.self.now) c.args.statement.now (behind c.args.self.now) _ _ _ c.in-Move.is (c.do_move.ensures.turn _)

pub returns-in-Add-clause-turn : goal.returns-in-Add-clause-turn
returns-in-Add-clause-turn c = does.adds c.args.chain _ (run_view c.args.self.now) c.args.statement.now (behind c.args.self.now) _ _ _ c.in-Add.is (c.do_add.ensures.turn _)

pub returns-in-Load-clause-turn : goal.returns-in-Load-clause-turn
returns-in-Load-clause-turn c = does.loads_there c.args.chain _ (run_view c.args.self.now) c.args.statement.now (behind c.args.self.now) _ _ _ _ _ c.in-Load.is c.value.ensures c.load.ensures.turn

pub returns-in-Store-clause-turn : goal.returns-in-Store-clause-turn
returns-in-Store-clause-turn c = does.stores_there c.args.chain _ (run_view c.args.self.now) c.args.statement.now (behind c.args.self.now) _ _ _ _ c.in-Store.is c.do_store.ensures.turn

pub returns-in-If-clause-turn : goal.returns-in-If-clause-turn
returns-in-If-clause-turn c = does.branches c.args.chain _ (run_view c.args.self.now) c.args.statement.now (behind c.args.self.now) _ _ _ _ _ _ _ _ _ c.in-If.is c.as_slice.ensures c.as_slice-in-If.ensures c.holds-met.ensures (c.choose.ensures.turn _ c.args.chain)

pub returns-in-Loop-clause-turn : goal.returns-in-Loop-clause-turn
returns-in-Loop-clause-turn c = does.loops c.args.chain _ (run_view c.args.self.now) c.args.statement.now (behind c.args.self.now) _ _ _ c.in-Loop.is c.as_slice-in-Loop.ensures (c.loop_again.ensures.turn _ c.args.chain)

pub returns-in-Repeat-clause-turn : goal.returns-in-Repeat-clause-turn
returns-in-Repeat-clause-turn c = does.repeats c.args.chain _ (run_view c.args.self.now) c.args.statement.now (behind c.args.self.now) _ _ _ _ c.in-Repeat.is c.as_slice-in-Repeat.ensures (c.repeat_again.ensures.turn _ c.args.chain)

pub returns-in-Break-clause-turn : goal.returns-in-Break-clause-turn
returns-in-Break-clause-turn c = does.leaves c.args.chain _ (run_view c.args.self.now) c.args.statement.now (behind c.args.self.now) _ _ c.in-Break.is c.requires.first (c.leave_loop.ensures.turn _ c.args.chain)

pub returns-in-Lookup-clause-turn : goal.returns-in-Lookup-clause-turn
returns-in-Lookup-clause-turn c = does.looks_up c.args.chain _ (run_view c.args.self.now) c.args.statement.now (behind c.args.self.now) _ _ _ _ _ _ c.in-Lookup.is (c.begin_lookup.ensures.turn _ c.args.chain)

pub returns-in-Walk-clause-turn : goal.returns-in-Walk-clause-turn
returns-in-Walk-clause-turn c = does.walks c.args.chain _ (run_view c.args.self.now) c.args.statement.now (behind c.args.self.now) _ _ _ _ _ _ c.in-Walk.is (c.begin_walk.ensures.turn _ c.args.chain)

pub returns-in-Reply-clause-turn : goal.returns-in-Reply-clause-turn
returns-in-Reply-clause-turn c = does.answers c.args.chain _ (run_view c.args.self.now) c.args.statement.now (behind c.args.self.now) _ _ _ c.in-Reply.is c.as_slice-in-Reply.ensures (c.reply.ensures.turn _)
