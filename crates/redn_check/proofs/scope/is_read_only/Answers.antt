use Rattle.std.proofs.Common.{◌∙◌, sym, ap, ◌≡◌, None, Some}
use Rattle.redn_check.specs.Names.{place_of, table_names}
use Rattle.redn_check.specs.Rules.{is_read_only}
use Rattle.redn_check.proofs.Places.{found_table, no_table}
use Rattle.redn_check.proofs.scope.is_read_only.Goals as goal

pub returns-in_default : goal.returns-in_default
returns-in_default c =
    let tables = c.args.scope.now.tables.now in
    let n = c.args.name.now in
    let place : place_of (table_names tables) n.text ≡ None = sym (c.args.scope.now.tables_held n.text) ∙ sym c.find.ensures ∙ c.in_default.is in
    ap is_read_only (sym (no_table tables n place))

pub returns-in-None : goal.returns-in-None
returns-in-None c =
    let tables = c.args.scope.now.tables.now in
    let n = c.args.name.now in
    let place : place_of (table_names tables) n.text ≡ Some c.in-Some.place = sym (c.args.scope.now.tables_held n.text) ∙ sym c.find.ensures ∙ c.in-Some.is in
    ap is_read_only (c.in-None.ensures ∙ found_table tables n _ place)

pub returns-in-Some-at : goal.returns-in-Some-at
returns-in-Some-at c =
    let tables = c.args.scope.now.tables.now in
    let n = c.args.name.now in
    let place : place_of (table_names tables) n.text ≡ Some c.in-Some.place = sym (c.args.scope.now.tables_held n.text) ∙ sym c.find.ensures ∙ c.in-Some.is in
    ap is_read_only (c.in-Some-at.ensures ∙ found_table tables n _ place)
