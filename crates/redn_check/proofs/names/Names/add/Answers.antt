use Rattle.std.proofs.Common.{◌∙◌, sym, ap, Some, rules, string_bytes, ◌≡◌, subst, List, ℕ}
use Rattle.std.proofs.lemmas.Map.Text.{hash_map_updates_text}
use Rattle.std.specs.Option.{is_some}
use Rattle.std.specs.Map.{update}
use Rattle.std.specs.Str.{bytes_eq}
use Rattle.indexmap.specs.IndexMap.{get_by_text}
use Rattle.redn_check.proofs.Places.{Holds-known, Holds-new}
use Rattle.redn_check.proofs.names.Names.add.Goals as goal

pub returns-then-is_some-clause-holds : goal.returns-then-is_some-clause-holds
returns-then-is_some-clause-holds c = λ before holds _.
    Holds-known c.args.self.now.places before c.args.name.now holds (ap is_some (sym c.find.ensures) ∙ sym c.is_some.ensures ∙ c.if-is_some.true)

pub returns-clause-holds : goal.returns-clause-holds
returns-clause-holds c = λ before holds e.
    let text : string_bytes c.in_ok-text.text ≡ c.args.name.now.text = search rules in
    let unknown = ap is_some (sym c.find.ensures) ∙ sym c.is_some.ensures ∙ c.if-is_some.false in
    let updates = hash_map_updates_text (string_bytes c.in_ok-text.text) c.args.self.now.places c.insert.new.self (Some c.args.place) c.in_ok-insert.ensures.updates in
    Holds-new c.args.self.now.places before c.args.name.now holds c.insert.new.self c.args.place unknown e
    (subst (λ (bs : List ℕ). (cs : List ℕ) → get_by_text c.insert.new.self cs ≡ update bytes_eq (get_by_text c.args.self.now.places) bs (Some c.args.place) cs) text updates)
