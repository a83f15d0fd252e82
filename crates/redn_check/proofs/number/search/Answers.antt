use Rattle.std.proofs.Common.{ap, ◌∙◌, ◌≤◌, arith}
use Rattle.redn_syntax.specs.declared.tree.StmtKind.{out-StmtKind}
use Rattle.redn_syntax.specs.declared.tree.StmtKind.TheVariants.{outs-Lookup, outs-Walk}
use Rattle.redn_check.specs.Names.{table_names, variables}
use Rattle.redn_check.proofs.Numbered.{probes_fit, nodes_fit, kernel_lookup, kernel_walk}
use Rattle.redn_check.proofs.number.search.Goals as goal

pub overflow_cast-result : goal.overflow_cast-result
overflow_cast-result c =
    let fits : c.in-Lookup.probes.value ≤ 4 = probes_fit c.args.s.now c.requires.kept _ _ _ _ _ (ap out-StmtKind c.in-Lookup.is ∙ outs-Lookup _ _ _ _ _) in
    omega arith

pub overflow_cast-result-in-Walk : goal.overflow_cast-result-in-Walk
overflow_cast-result-in-Walk c =
    let fits : c.in-Walk.nodes.value ≤ 65535 = nodes_fit c.args.s.now c.requires.kept _ _ _ _ _ (ap out-StmtKind c.in-Walk.is ∙ outs-Walk _ _ _ _ _) in
    omega arith

pub returns-in-Lookup : goal.returns-in-Lookup
returns-in-Lookup c =
    let scope = c.args.numbers.now.scope in
    let is = kernel_lookup (table_names scope.tables.now) (variables scope.chain.now) c.args.s.now _ _ _ _ _ (ap out-StmtKind c.in-Lookup.is ∙ outs-Lookup _ _ _ _ _) in
    cc

pub returns-in-Walk : goal.returns-in-Walk
returns-in-Walk c =
    let scope = c.args.numbers.now.scope in
    let is = kernel_walk (table_names scope.tables.now) (variables scope.chain.now) c.args.s.now _ _ _ _ _ (ap out-StmtKind c.in-Walk.is ∙ outs-Walk _ _ _ _ _) in
    cc
