use Rattle.std.proofs.Common.{◌≡◌, List, ℕ, [], map, ap, subst, arith}
use Rattle.std.specs.Prelude.{Err}
use Rattle.std.proofs.lemmas.List.{get_or-map, length-map}
use Rattle.std.proofs.lemmas.Result.{err_from_is_err_and}
use Rattle.redn_command.specs.declared.command.WordsFault.TheVariants.{Refused}
use Rattle.redn_command.specs.Words.{IsMessageWord}
use Rattle.redn_command.proofs.MessageTexts.{each_gives}
use Rattle.redn_command.proofs.verbs.message_words.Goals as goal

pub returns-in_err-message-clause-refused : goal.returns-in_err-message-clause-refused
returns-in_err-message-clause-refused c =
    let words = c.args.words.now in
    let k = c.loop-word.word-index in
    let p = err_from_is_err_and c.from_residual.result c.from_residual.ensures.1 in
    rw (p.1, p.2) (λ e messages small same.
    let f : c.in_err-message.field-0.0 ≡ Refused = cc in
    let gives = each_gives (map (λ s. s.now) words) messages k [] same small (omega (arith, c.loop-word-test.true, length-map words (λ s. s.now))) in
    c.in_err-message.ensures.refused (ap Err f) gives.0 (subst (λ (t : List ℕ). IsMessageWord t gives.0) (get_or-map (λ s. s.now) words k _ [] c.loop-word-test.true) gives.1))
