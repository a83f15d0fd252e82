use Rattle.std.proofs.Common.{◌∙◌, ap, map, ◌++◌}
use Rattle.std.specs.List.{flat_map}
use Rattle.redn_syntax.specs.declared.tree.Chain.{Chain}
use Rattle.redn_check.specs.Faults.{first_of}
use Rattle.redn_check.specs.Names.{table_names, chain_names}
use Rattle.redn_check.specs.Rules.{twice, one_too_many, table_faults, chain_faults, weights, too_heavy}
use Rattle.redn_check.specs.Statements.{with_earlier}
use Rattle.redn_check.proofs.EarliestOf.{stepped, first_of-append}
use Rattle.redn_check.proofs.rules.first_fault.Goals as goal

pub returns : goal.returns
returns c =
    let f = c.args.f.now in
    let a = twice (table_names f.tables) in
    let b = flat_map (λ e. table_faults e.0 e.1) (with_earlier f.tables) in
    let d = twice (chain_names f.chains) in
    let e = one_too_many 9 16 (map (λ (x : Chain). x.name.at) f.chains) in
    let g = flat_map (chain_faults f.tables) f.chains in
    let h = too_heavy (flat_map weights f.chains) in
    let names = c.in_ok-declared.ensures.first ∙ ap (λ l. first_of (twice (table_names l))) c.as_slice.ensures in
    let tables = c.first_in_tables.ensures ∙ ap (λ l. first_of (flat_map (λ x. table_faults x.0 x.1) (with_earlier l))) c.as_slice-2.ensures in
    let chains = c.in_ok-declare_chains.ensures ∙ ap (λ l. first_of (twice (chain_names l))) c.as_slice-chains.ensures in
    let many = c.too_many_chains.ensures ∙ ap (λ l. first_of (one_too_many 9 16 (map (λ (x : Chain). x.name.at) l))) c.as_slice-chains.ensures in
    let heavy = c.first_too_heavy.ensures ∙ ap (λ l. first_of (too_heavy (flat_map weights l))) c.as_slice-chains.ensures in
    let two = stepped _ _ _ _ _ _ c.earlier-tables.ensures names tables (first_of-append a b) in
    let three = stepped _ _ _ _ _ _ c.earlier-named.ensures two chains (first_of-append (a ++ b) d) in
    let four = stepped _ _ _ _ _ _ c.earlier-many.ensures three many (first_of-append (a ++ b ++ d) e) in
    let five = stepped _ _ _ _ _ _ c.earlier.ensures four c.in_ok-inner.ensures (first_of-append (a ++ b ++ d ++ e) g) in
    stepped _ _ _ _ _ _ c.earlier-2.ensures five heavy (first_of-append (a ++ b ++ d ++ e ++ g) h)
