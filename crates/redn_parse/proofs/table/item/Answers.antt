use Rattle.std.proofs.Common.{false, [], ◌∷◌, Some, None, refl}
use Rattle.redn_syntax.specs.declared.token.TokenKind.TheVariants as k
use Rattle.redn_parse.proofs.Samples as a
use Rattle.redn_parse.proofs.Fronts.{numbered, marked, ◌plus◌}
use Rattle.redn_parse.proofs.Passed.{unread, start, read, goes, blames, first_goes, first_blames}
use Rattle.redn_parse.proofs.Lists.{no_offset_near, offset_near, word_failed, colon_ahead}
use Rattle.redn_parse.proofs.table.item.Goals as goal

pub returns-in_err-word-clause-reads : goal.returns-in_err-word-clause-reads
returns-in_err-word-clause-reads c =
    unread _ _ c.from_residual.ensures.1 c.in_err-word.ensures.reads start
    (first_goes (λ z. ((record { at = None; word = z.0 }, z.1), [], λ b tail d. (d.0, (b, refl, d.1), d.2))))
    (first_blames (λ b near none. no_offset_near _ b (λ e. cc (c.is_ahead.ensures.1 e)) near none))

pub returns-in_err-offset-clause-reads : goal.returns-in_err-offset-clause-reads
returns-in_err-offset-clause-reads c =
    unread _ _ c.from_residual-in_err-offset.ensures.1 c.in_err-offset.ensures.reads start
    (first_goes (λ z. ((record { at = Some z; word = a.a_number }, false), a.number ∷ a.mark k.CloseBrace ∷ [], λ b tail d. (_, (_, d, (0, refl, refl)), (0, refl)))))
    (first_blames (λ b near none. offset_near _ b (c.is_ahead.ensures.0 (cc)) near none))

pub returns-in_err-word-2-clause-reads : goal.returns-in_err-word-2-clause-reads
returns-in_err-word-2-clause-reads c =
    let offset = c.in_ok-offset.offset in
    unread _ _ c.from_residual-in_err-word-2.ensures.1 c.in_err-word-2.ensures.reads (read (numbered offset plus marked k.Colon) c.in_ok-offset.ensures.reads)
    (goes (λ z. ((record { at = Some offset; word = z.0 }, z.1), [], λ b m tail h d. (d.0, (m, h, d.1), d.2))))
    (blames (λ b m near h none. word_failed offset b m (colon_ahead offset b m h) h none))
