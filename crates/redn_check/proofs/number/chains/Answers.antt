use Rattle.std.proofs.Common.{◌≤◌, ◌∙◌, length, ap, sym, subst, List}
use Rattle.std.specs.List.{flat_map}
use Rattle.redn_syntax.specs.declared.tree.Table.{Table}
use Rattle.redn_check.specs.Rules.{chain_faults}
use Rattle.redn_check.proofs.Accepted.{good_tables, few_tables, good_chains, none_there, few_variables, good_numbers, good_serve}
use Rattle.redn_check.proofs.number.chains.Goals as goal

pub chain-requires-clause-few_tables : goal.chain-requires-clause-few_tables
chain-requires-clause-few_tables c =
    let most = few_tables c.args.f.now.tables (good_tables c.args.f.now c.requires.accepted) in
    let P : List Table → Type 0 = λ t. length t ≤ 64 in
    subst P (sym c.as_slice.ensures) most

pub chain-requires-clause-few_variables : goal.chain-requires-clause-few_variables
chain-requires-clause-few_variables c =
    let f = c.args.f.now in
    let all = c.as_slice-c-items.result.now in
    let good = ap (λ l. flat_map (chain_faults f.tables) l) c.as_slice-c-items.ensures ∙ good_chains f c.requires.accepted in
    few_variables f.tables c.c-item.result (none_there (chain_faults f.tables) all _ c.c-item.result c.loop-c-test.true c.c-item.is good)

pub chain-requires-clause-numbers : goal.chain-requires-clause-numbers
chain-requires-clause-numbers c =
    let f = c.args.f.now in
    let all = c.as_slice-c-items.result.now in
    let good = ap (λ l. flat_map (chain_faults f.tables) l) c.as_slice-c-items.ensures ∙ good_chains f c.requires.accepted in
    good_numbers f.tables c.c-item.result (none_there (chain_faults f.tables) all _ c.c-item.result c.loop-c-test.true c.c-item.is good)

pub chain-requires-clause-serve : goal.chain-requires-clause-serve
chain-requires-clause-serve c =
    let f = c.args.f.now in
    let all = c.as_slice-c-items.result.now in
    let good = ap (λ l. flat_map (chain_faults f.tables) l) c.as_slice-c-items.ensures ∙ good_chains f c.requires.accepted in
    good_serve f.tables c.c-item.result (none_there (chain_faults f.tables) all _ c.c-item.result c.loop-c-test.true c.c-item.is good)
