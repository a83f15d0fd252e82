use Rattle.std.proofs.Common.{false, [], ◌∷◌, refl}
use Rattle.redn_syntax.specs.declared.token.TokenKind.TheVariants as k
use Rattle.redn_parse.proofs.Samples as a
use Rattle.redn_parse.proofs.Same.{values}
use Rattle.redn_parse.proofs.Fronts.{valued}
use Rattle.redn_parse.proofs.Passed.{unread, start, read, behind, goes, blames, first_goes, first_blames}
use Rattle.redn_parse.proofs.statement.reply_word.Goals as goal

pub returns-in_err-word-clause-reads : goal.returns-in_err-word-clause-reads
returns-in_err-word-clause-reads c =
    unread _ _ c.from_residual.ensures.1 c.in_err-word.ensures.reads start
    (first_goes (λ z. ((z, false), a.mark k.Semicolon ∷ [], λ b tail d. (_, d, (0, refl)))))
    (first_blames (λ b near none. record { rejects = λ x after d. none.rejects x.0 d.0 d.1 }))

pub returns-in_err-more-clause-reads : goal.returns-in_err-more-clause-reads
returns-in_err-more-clause-reads c =
    let word = c.in_ok-word.word in
    unread _ _ c.from_residual-in_err-more.ensures.1 c.in_err-more.ensures.reads (read (valued word) c.in_ok-word.ensures.reads)
    (goes (λ z. ((word, z), [], λ b m tail h d. (m, h, d))))
    (blames (λ b m near h none. record { rejects = λ x after d. (behind (values word x.0) h d.1 none).rejects x.1 after d.2 }))
