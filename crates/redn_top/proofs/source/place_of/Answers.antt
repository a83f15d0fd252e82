-- The token of a number, or the end of the text.
use Rattle.std.proofs.Common.{◌≡◌, ◌∙◌, length, arith}
use Rattle.redn_top.specs.Sources.{token_place}
use Rattle.redn_top.proofs.TokenPlaces.{place_there, place_behind}
use Rattle.redn_top.proofs.source.place_of.Goals as goal

pub returns-in-Some : goal.returns-in-Some
returns-in-Some c =
    let h = c.in-Some.ensures.lookup in
    c.from.ensures ∙ place_there c.args.tokens.now.text.items c.args.tokens.now.list.items c.deref.result.now c.args.token c.in-Some.found.now c.deref.ensures.value h.3.0 h.1

pub returns-in-None : goal.returns-in-None
returns-in-None c =
    let h = c.in-None.ensures.lookup in
    let behind : length c.args.tokens.now.text.items ≡ token_place c.args.tokens.now.text.items c.args.tokens.now.list.items c.args.token = place_behind c.args.tokens.now.text.items c.args.tokens.now.list.items c.deref.result.now c.args.token c.deref.ensures.value h.3 in
    omega (arith, behind, c.len.ensures)
