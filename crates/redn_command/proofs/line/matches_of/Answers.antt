use Rattle.std.proofs.Common.{◌≡◌, ◌∙◌, [], map, string_bytes, rules, sym, ap, subst}
use Rattle.clap.specs.Faults.{fault_of, is_simple_and_free}
use Rattle.clap.specs.Simple.{App, HasMatchesOf, app_of}
use Rattle.redn_command.specs.Lines.{line_app}
use Rattle.redn_command.proofs.Matching.{match_of_parts, memory_only, parts_fault}
use Rattle.redn_command.proofs.line.matches_of.Goals as goal

pub returns-in-Ok-clause-matches : goal.returns-in-Ok-clause-matches
returns-in-Ok-clause-matches c =
    let words = map string_bytes c.args.words.now in
    let app : app_of c.in_ok-command.command ≡ line_app = search rules in
    let passed : fault_of (app_of c.in_ok-command.command) words ≡ [] = c.in-Ok.ensures.kinds (ap is_simple_and_free app) in
    λ parts a. match_of_parts words parts c.in-Ok.matches a (ap (λ (x : App). fault_of x words) (sym app) ∙ passed)
    (subst (λ (x : App). HasMatchesOf x words c.in-Ok.matches) app c.in-Ok.ensures.matches)

pub returns-in-Err-clause-refused : goal.returns-in-Err-clause-refused
returns-in-Err-clause-refused c =
    let words = map string_bytes c.args.words.now in
    let app : app_of c.in_ok-command.command ≡ line_app = search rules in
    let fails = c.in-Err.ensures.kinds (ap is_simple_and_free app) in
    λ e parts a once.
    let none = ap (λ (x : App). fault_of x words) app ∙ parts_fault words parts a once in
    c.fault_of.ensures (cc) (memory_only (fault_of (app_of c.in_ok-command.command) words) c.in-Err.error none fails)
