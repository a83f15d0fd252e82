use Rattle.std.proofs.Common.{sym, subst}
use Rattle.redn_kernel.specs.declared.types.Kernel.{Kernel}
use Rattle.redn_kernel.specs.Composes.{Composes}
use Rattle.redn_graph.specs.CoreSizes.{IsSearch}
use Rattle.redn_graph.proofs.Statements.{ok_both, probes_few, nodes_some}
use Rattle.redn_graph.proofs.CoreSearches.{lookup_search, walk_search}
use Rattle.redn_graph.proofs.build.search_cores.Goals as goal

pub lookup_core-requires : goal.lookup_core-requires
lookup_core-requires c =
    let i = c.in-Lookup in
    let few = probes_few c.args.statement.now i.to i.table i.offset i.key i.probes i.is c.requires.sound in
    record { to = i.to; table = i.table; offset = i.offset; key = i.key; probes = i.probes; is = i.is; some = few.0 }

pub walk_core-requires : goal.walk_core-requires
walk_core-requires c =
    let i = c.in-Walk in
    record { to = i.to; table = i.table; offset = i.offset; key = i.key; nodes = i.nodes; is = i.is; some = nodes_some c.args.statement.now i.to i.table i.offset i.key i.nodes i.is c.requires.sound }

pub returns-in-Lookup : goal.returns-in-Lookup
returns-in-Lookup c =
    let i = c.in-Lookup in
    let few = probes_few c.args.statement.now i.to i.table i.offset i.key i.probes i.is c.requires.sound in
    ok_both c.lookup_core.result _ _ (IsSearch c.args.statement.now)
    (λ cores composes are. subst (λ (st : Kernel). IsSearch st cores) (sym i.is) (lookup_search i.to i.table i.offset i.key i.probes cores few.0 few.1 (subst (λ (st : Kernel). Composes st cores) i.is composes) (are i.to i.table i.offset i.key i.probes i.is)))
    c.lookup_core.ensures.composes c.lookup_core.ensures.cores

pub returns-in-Walk : goal.returns-in-Walk
returns-in-Walk c =
    let i = c.in-Walk in
    ok_both c.walk_core.result _ _ (IsSearch c.args.statement.now)
    (λ cores composes are. subst (λ (st : Kernel). IsSearch st cores) (sym i.is) (walk_search i.to i.table i.offset i.key i.nodes cores (subst (λ (st : Kernel). Composes st cores) i.is composes) (are i.to i.table i.offset i.key i.nodes i.is)))
    c.walk_core.ensures.composes c.walk_core.ensures.cores
