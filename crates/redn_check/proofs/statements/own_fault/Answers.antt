use Rattle.std.proofs.Common.{◌++◌}
use Rattle.redn_check.specs.Names.{variables, table_names}
use Rattle.redn_check.specs.Rules.{undeclared, variables_in, tables_in, read_only, overwritten, number_faults}
use Rattle.redn_check.specs.Statements.{layer_of}
use Rattle.redn_check.proofs.EarliestOf.{stepped, first_of-append}
use Rattle.redn_check.proofs.statements.own_fault.Goals as goal

pub returns : goal.returns
returns c =
    let names = variables c.args.scope.now.chain.now in
    let tables = c.args.scope.now.tables.now in
    let layer = layer_of c.args.s.now in
    let a = undeclared names (variables_in layer) in
    let b = undeclared (table_names tables) (tables_in layer) in
    let d = read_only tables layer in
    let two = stepped _ _ _ _ _ _ c.earlier-undeclared.ensures c.undeclared_variables.ensures c.undeclared_table.ensures (first_of-append a b) in
    let three = stepped _ _ _ _ _ _ c.earlier-named.ensures two c.read_only.ensures (first_of-append (a ++ b) d) in
    let four = stepped _ _ _ _ _ _ c.earlier.ensures three c.overwritten.ensures (first_of-append (a ++ b ++ d) (overwritten layer)) in
    stepped _ _ _ _ _ _ c.earlier-2.ensures four c.out_of_range.ensures (first_of-append (a ++ b ++ d ++ overwritten layer) (number_faults c.args.s.now))
