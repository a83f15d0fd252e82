use Rattle.std.proofs.Common.{ap, sym, ◌∙◌}
use Rattle.redn_syntax.specs.declared.tree.StmtKind.{out-StmtKind}
use Rattle.redn_syntax.specs.declared.tree.StmtKind.TheVariants.{outs-Move, outs-Add, outs-Load, outs-Store, outs-Break}
use Rattle.redn_kernel.specs.declared.types.Kernel.TheVariants as k
use Rattle.redn_check.specs.Names.{table_names, variables}
use Rattle.redn_check.proofs.Numbered.{kernel_move, kernel_add, kernel_load, kernel_store, kernel_break}
use Rattle.redn_check.proofs.number.plain.Goals as goal

pub returns-in-Move : goal.returns-in-Move
returns-in-Move c =
    let scope = c.args.numbers.now.scope in
    (λ j. k.Move (c.variable_number.ensures j) (c.word.ensures j))
    ∙ sym (kernel_move (table_names scope.tables.now) (variables scope.chain.now) c.args.s.now _ _ (ap out-StmtKind c.in-Move.is ∙ outs-Move _ _))

pub returns-in-Add : goal.returns-in-Add
returns-in-Add c =
    let scope = c.args.numbers.now.scope in
    (λ j. k.Add (c.variable_number-in-Add.ensures j) (c.word-in-Add.ensures j))
    ∙ sym (kernel_add (table_names scope.tables.now) (variables scope.chain.now) c.args.s.now _ _ (ap out-StmtKind c.in-Add.is ∙ outs-Add _ _))

pub returns-in-Load : goal.returns-in-Load
returns-in-Load c =
    let scope = c.args.numbers.now.scope in
    (λ j. k.Load (c.variable_number-in-Load.ensures j) (c.table_number.ensures j) (c.word-in-Load.ensures j))
    ∙ sym (kernel_load (table_names scope.tables.now) (variables scope.chain.now) c.args.s.now _ _ _ (ap out-StmtKind c.in-Load.is ∙ outs-Load _ _ _))

pub returns-in-Store : goal.returns-in-Store
returns-in-Store c =
    let scope = c.args.numbers.now.scope in
    (λ j. k.Store (c.table_number-in-Store.ensures j) (c.word-in-Store.ensures j) (c.word-in-Store-2.ensures j))
    ∙ sym (kernel_store (table_names scope.tables.now) (variables scope.chain.now) c.args.s.now _ _ _ (ap out-StmtKind c.in-Store.is ∙ outs-Store _ _ _))

pub returns-in-Break : goal.returns-in-Break
returns-in-Break c =
    let scope = c.args.numbers.now.scope in
    sym (kernel_break (table_names scope.tables.now) (variables scope.chain.now) c.args.s.now (ap out-StmtKind c.in-Break.is ∙ outs-Break))
