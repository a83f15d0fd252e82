use Rattle.std.proofs.Common.{◌≡◌, ◌∙◌, ℕ, List, [], map, string_bytes, rules, refl, ap, Option, unwrap_or, Bor}
use Rattle.clap.specs.Matches.{first_value, found_of}
use Rattle.redn_command.proofs.Matching.{line_of_match, positions_are}
use Rattle.redn_command.proofs.line.cut.Goals as goal

pub returns-clause-line : goal.returns-clause-line
returns-clause-line c =
    let words = map string_bytes c.args.words.now in
    let m = c.in_ok-matches.matches in
    let seen = c.are_parts.ensures.yes (search rules) in
    let items : c.in_ok-positions.positions.items ≡ c.unwrap_or-positions.result.now = search rules in
    line_of_match words seen.0 m _ _ _ _ _ (map (λ s. s.now) c.in_ok-positions.positions.items) seen.1 (c.in_ok-matches.ensures.matches seen.0 seen.1)
    (c.get_str.ensures ∙ ap (first_value (found_of m)) c.name_of.ensures)
    (c.get_str-2.ensures ∙ ap (first_value (found_of m)) c.name_of-2.ensures)
    (c.get_str-3.ensures ∙ ap (first_value (found_of m)) c.name_of-3.ensures)
    (c.get_str-4.ensures ∙ ap (first_value (found_of m)) c.name_of-4.ensures)
    (c.get_str-5.ensures ∙ ap (first_value (found_of m)) c.name_of-5.ensures)
    (ap (map (λ s. s.now)) items ∙ ap (λ (s : Bor (List (Bor (List ℕ)))). map (λ v. v.now) s.now) c.unwrap_or-positions.ensures
    ∙ positions_are c.get_strs.result _ refl ∙ ap (λ (o : Option (List (List ℕ))). unwrap_or o []) c.get_strs.ensures)
