use Rattle.std.proofs.Common.{[], ◌∷◌, refl}
use Rattle.redn_syntax.specs.declared.token.TokenKind.TheVariants as k
use Rattle.redn_parse.proofs.Samples as a
use Rattle.redn_parse.proofs.Same.{values, marks, ◌and◌}
use Rattle.redn_parse.proofs.Fronts.{valued, marked, ◌plus◌}
use Rattle.redn_parse.proofs.Passed.{unread, start, read, behind, goes, blames, first_goes, first_blames}
use Rattle.redn_parse.proofs.statement.key_and_bound.Goals as goal

pub returns-in_err-key-clause-reads : goal.returns-in_err-key-clause-reads
returns-in_err-key-clause-reads c =
    unread _ _ c.from_residual.ensures.1 c.in_err-key.ensures.reads start
    (first_goes (λ z. ((z, a.a_number), a.number ∷ a.mark k.Semicolon ∷ [], λ b tail d. (d.0, d.1, (_, d.2, (_, (0, refl, refl), (0, refl)))))))
    (first_blames (λ b near none. record { rejects = λ x after d. none.rejects x.0 d.2.0 (d.0, d.1, d.2.1) }))

pub returns-in_err-bound-clause-reads : goal.returns-in_err-bound-clause-reads
returns-in_err-bound-clause-reads c =
    let key = c.in_ok-key.key in
    unread _ _ c.from_residual-in_err-bound.ensures.1 c.in_err-bound.ensures.reads (read (valued key plus marked c.args.kind) c.in_ok-key.ensures.reads)
    (goes (λ z. ((key, z), [], λ b m tail h d. (h.0, h.1, (m, h.2, d)))))
    (blames (λ b m near h none. record {
      rejects = λ x after d. (behind (values key x.0 and marks c.args.kind) h (d.0, d.1, d.2.1) none).rejects x.1 after d.2.2;
    }))
