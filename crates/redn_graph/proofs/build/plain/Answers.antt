use Rattle.std.proofs.Common.{◌≡◌, ap, sym, subst}
use Rattle.redn_kernel.specs.CoreRun.{cell_of}
use Rattle.redn_kernel.specs.declared.types.Cell.TheVariants as cell
use Rattle.redn_graph.specs.declared.types.Instr.TheVariants as instr
use Rattle.redn_graph.specs.Fits.{FitsInstr}
use Rattle.redn_graph.proofs.Doing.{add_runs, load_runs, store_runs}
use Rattle.redn_graph.proofs.Statements.{move_of_runs, does_as}
use Rattle.redn_graph.proofs.Fits.{move_fits, add_fits, load_fits, store_fits}
use Rattle.redn_graph.proofs.build.plain.Goals as goal

pub returns-in-Move-clause-does : goal.returns-in-Move-clause-does
returns-in-Move-clause-does c =
    let i = c.in-Move in
    does_as c.args.statement.now _ _ _ i.is c.move_instr.ensures (move_of_runs i.to i.from)

pub returns-in-Move-clause-fits : goal.returns-in-Move-clause-fits
returns-in-Move-clause-fits c n well =
    let i = c.in-Move in
    subst (FitsInstr n) (sym c.move_instr.ensures) (move_fits n c.args.statement.now i.to i.from i.is well)

pub returns-in-Add-clause-does : goal.returns-in-Add-clause-does
returns-in-Add-clause-does c =
    let i = c.in-Add in
    does_as c.args.statement.now _ _ _ i.is (ap (instr.Add (cell.Var i.to)) c.cell_for.ensures) (λ m. add_runs m i.to i.by)

pub returns-in-Add-clause-fits : goal.returns-in-Add-clause-fits
returns-in-Add-clause-fits c n well =
    let i = c.in-Add in
    subst (λ x. FitsInstr n (instr.Add (cell.Var i.to) x)) (sym c.cell_for.ensures) (add_fits n c.args.statement.now i.to i.by i.is well)

pub returns-in-Load-clause-does : goal.returns-in-Load-clause-does
returns-in-Load-clause-does c =
    let i = c.in-Load in
    does_as c.args.statement.now _ _ _ i.is (ap (instr.Load (cell.Var i.to) i.table) c.cell_for-in-Load.ensures) (λ m. load_runs m i.to i.table i.offset)

pub returns-in-Load-clause-fits : goal.returns-in-Load-clause-fits
returns-in-Load-clause-fits c n well =
    let i = c.in-Load in
    subst (λ x. FitsInstr n (instr.Load (cell.Var i.to) i.table x)) (sym c.cell_for-in-Load.ensures) (load_fits n c.args.statement.now i.to i.table i.offset i.is well)

pub returns-in-Store-clause-does : goal.returns-in-Store-clause-does
returns-in-Store-clause-does c =
    let i = c.in-Store in
    does_as c.args.statement.now _ _ _ i.is
    (λ j. instr.Store i.table (c.cell_for-in-Store.ensures j) (c.cell_for-in-Store-2.ensures j))
    (λ m. store_runs m i.table i.offset i.from)

pub returns-in-Store-clause-fits : goal.returns-in-Store-clause-fits
returns-in-Store-clause-fits c n well =
    let i = c.in-Store in
    let made : instr.Store i.table c.cell_for-in-Store.result c.cell_for-in-Store-2.result ≡ instr.Store i.table (cell_of i.offset) (cell_of i.from) = λ j. instr.Store i.table (c.cell_for-in-Store.ensures j) (c.cell_for-in-Store-2.ensures j) in
    subst (FitsInstr n) (sym made) (store_fits n c.args.statement.now i.table i.offset i.from i.is well)
