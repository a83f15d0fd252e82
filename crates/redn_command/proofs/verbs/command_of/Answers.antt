use Rattle.std.proofs.Common.{◌≡◌, List, ℕ, ◌∷◌, map, string_bytes, sym, ap, ◌∙◌}
use Rattle.std.specs.Prelude.{Err}
use Rattle.std.proofs.lemmas.Result.{err_from_is_err_and}
use Rattle.redn_command.specs.declared.command.WordsFault.TheVariants.{Refused}
use Rattle.redn_command.specs.Lines.{line_view}
use Rattle.redn_command.proofs.OneCommand.{no_line_refused, line_refused, only_of}
use Rattle.redn_command.proofs.verbs.command_of.Goals as goal

pub returns-in_err-line-clause-refused : goal.returns-in_err-line-clause-refused
returns-in_err-line-clause-refused c =
    let are = ap (map string_bytes) (sym c.as_slice.ensures.value ∙ c.in-Some.ensures.cases.0) in
    let p = err_from_is_err_and c.from_residual.result c.from_residual.ensures.1 in
    rw (p.1, p.2) (λ e d is.
    let f : c.in_err-line.field-0.0 ≡ Refused = cc in
    no_line_refused (map string_bytes c.args.words.now.items) (string_bytes c.in-Some.verb.now) (map string_bytes c.in-Some.rest.now) are (c.in_err-line.ensures.refused (ap Err f)) d is)

pub returns-clause-only : goal.returns-clause-only
returns-clause-only c =
    let rest = map string_bytes c.in-Some.rest.now in
    let are = ap (map string_bytes) (sym c.as_slice.ensures.value ∙ c.in-Some.ensures.cases.0) ∙ ap (λ (v : List ℕ). v ∷ rest) (sym c.as_str.ensures.value) in
    only_of (map string_bytes c.args.words.now.items) c.as_str.result.now rest are (line_view c.in_ok-line.line) c.in_ok-line.ensures.line c.by_verb.result c.by_verb.ensures.verb c.by_verb.ensures.means

pub returns-clause-refused : goal.returns-clause-refused
returns-clause-refused c =
    let rest = map string_bytes c.in-Some.rest.now in
    let are = ap (map string_bytes) (sym c.as_slice.ensures.value ∙ c.in-Some.ensures.cases.0) ∙ ap (λ (v : List ℕ). v ∷ rest) (sym c.as_str.ensures.value) in
    λ e d is. line_refused (map string_bytes c.args.words.now.items) c.as_str.result.now rest are (line_view c.in_ok-line.line) c.in_ok-line.ensures.line (c.by_verb.ensures.refused e) d is
