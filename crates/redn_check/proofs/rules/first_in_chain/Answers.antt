use Rattle.std.proofs.Common.{◌∙◌, ap, map, ◌++◌}
use Rattle.std.specs.List.{flat_map}
use Rattle.redn_syntax.specs.declared.tree.Name.{Name}
use Rattle.redn_check.specs.Faults.{first_of}
use Rattle.redn_check.specs.Names.{variables}
use Rattle.redn_check.specs.Rules.{bad_serve, twice, one_too_many, statement_faults, control_faults}
use Rattle.redn_check.specs.Statements.{each_of}
use Rattle.redn_check.proofs.EarliestOf.{stepped, first_of-append}
use Rattle.redn_check.proofs.rules.first_in_chain.Goals as goal

pub returns : goal.returns
returns c =
    let chain = c.args.chain.now in
    let own = statement_faults c.args.tables.now (variables chain) in
    let a = twice (variables chain) in
    let b = one_too_many 10 8 (map (λ (n : Name). n.at) chain.args) in
    let d = one_too_many 11 256 (map (λ (n : Name). n.at) (variables chain)) in
    let e = flat_map own (each_of chain.body) in
    let args = c.too_many_arguments.ensures ∙ ap (λ l. first_of (one_too_many 10 8 (map (λ (n : Name). n.at) l))) c.as_slice.ensures in
    let body = c.first_in.ensures ∙ ap (λ l. first_of (flat_map own (each_of l))) c.as_slice-2.ensures in
    let two = stepped _ _ _ _ _ _ c.earlier-args.ensures c.in_ok-declared.ensures.first args (first_of-append a b) in
    let three = stepped _ _ _ _ _ _ c.earlier-many.ensures two c.too_many_variables.ensures (first_of-append (a ++ b) d) in
    let s = bad_serve chain in
    let four = stepped _ _ _ _ _ _ c.earlier-served.ensures three c.bad_serve.ensures (first_of-append (a ++ b ++ d) s) in
    let five = stepped _ _ _ _ _ _ c.earlier-own.ensures four body (first_of-append (a ++ b ++ d ++ s) e) in
    stepped _ _ _ _ _ _ c.earlier.ensures five c.first_in_flow.ensures (first_of-append (a ++ b ++ d ++ s ++ e) (control_faults chain))
