use Rattle.std.proofs.Common.{[], ◌∷◌, refl}
use Rattle.redn_syntax.specs.declared.token.TokenKind.TheVariants as k
use Rattle.redn_parse.proofs.Samples as a
use Rattle.redn_parse.proofs.Same.{names, marks, ◌and◌}
use Rattle.redn_parse.proofs.Trees.{slots}
use Rattle.redn_parse.proofs.Fronts.{named, marked, slot, ◌plus◌}
use Rattle.redn_parse.proofs.Passed.{unread, start, read, behind, goes, blames, first_goes, first_blames}
use Rattle.redn_parse.proofs.phrase.slot_before.Goals as goal

pub returns-in_err-table-clause-reads : goal.returns-in_err-table-clause-reads
returns-in_err-table-clause-reads c =
    unread _ _ c.from_residual.ensures.1 c.in_err-table.ensures.reads start
    (first_goes (λ z. ((z, a.a_value), a.number ∷ a.mark k.CloseBracket ∷ a.mark c.args.kind ∷ [], λ b tail d. (_, (d.0, d.1, (_, d.2, (_, (0, refl, refl), (0, refl)))), (0, refl)))))
    (first_blames (λ b near none. record { rejects = λ x after d. none.rejects x.0 d.1.2.0 (d.1.0, d.1.1, d.1.2.1) }))

pub returns-in_err-offset-clause-reads : goal.returns-in_err-offset-clause-reads
returns-in_err-offset-clause-reads c =
    let table = c.in_ok-table.table in
    unread _ _ c.from_residual-in_err-offset.ensures.1 c.in_err-offset.ensures.reads (read (named table plus marked k.OpenBracket) c.in_ok-table.ensures.reads)
    (goes (λ z. ((table, z), a.mark c.args.kind ∷ [], λ b m tail h d. (_, (h.0, h.1, (_, h.2, d)), (0, refl)))))
    (blames (λ b m near h none. record {
      rejects = λ x after d. (behind (names table x.0 and marks k.OpenBracket) h (d.1.0, d.1.1, d.1.2.1) none).rejects x.1 d.0 d.1.2.2;
    }))

pub returns-in_err-mark-clause-reads : goal.returns-in_err-mark-clause-reads
returns-in_err-mark-clause-reads c =
    let table = c.in_ok-table.table in
    let offset = c.in_ok-offset.offset in
    let h = c.in_ok-table.ensures.reads in
    unread _ _ c.from_residual-in_err-mark.ensures.1 c.in_err-mark.ensures.reads (read (slot table offset) (h.0, h.1, (_, h.2, c.in_ok-offset.ensures.reads)))
    (goes (λ z. ((table, offset), [], λ b m tail h d. (m, h, d))))
    (blames (λ b m near h none. record { rejects = λ x after d. (behind (slots table x.0 offset x.1) h d.1 none).rejects tt after d.2 }))
