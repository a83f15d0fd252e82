use Rattle.std.proofs.Common.{[], ◌∷◌, None, refl}
use Rattle.redn_syntax.specs.declared.token.TokenKind.TheVariants as k
use Rattle.redn_parse.proofs.Samples as a
use Rattle.redn_parse.proofs.Same.{names, marks, past}
use Rattle.redn_parse.proofs.Fronts.{marked, named}
use Rattle.redn_parse.proofs.Passed.{unread, start, read, ◌also◌, behind, goes, blames, first_goes, first_blames}
use Rattle.redn_parse.proofs.chain.variable.Goals as goal

pub returns-in_err-mark-clause-reads : goal.returns-in_err-mark-clause-reads
returns-in_err-mark-clause-reads c =
    unread _ _ c.from_residual.ensures.1 c.in_err-mark.ensures.reads start
    (first_goes (λ z. (a.a_variable, a.name ∷ a.mark k.Semicolon ∷ [], λ b tail d. (_, d, (_, (0, refl, refl), (_, refl, (0, refl)))))))
    (first_blames (λ b near none. record { rejects = λ x after d. none.rejects tt d.0 d.1 }))

pub returns-in_err-name-clause-reads : goal.returns-in_err-name-clause-reads
returns-in_err-name-clause-reads c =
    unread _ _ c.from_residual-in_err-name.ensures.1 c.in_err-name.ensures.reads (read (marked k.Var) c.in_ok-mark.ensures.reads)
    (goes (λ z. (record { name = z; first = None }, a.mark k.Semicolon ∷ [], λ b m tail h d. (m, h, (_, d, (_, refl, (0, refl)))))))
    (blames (λ b m near h none. record { rejects = λ x after d. (behind (marks k.Var) h d.1 none).rejects x.name d.2.0 d.2.1 }))

pub returns-in_err-first-clause-reads : goal.returns-in_err-first-clause-reads
returns-in_err-first-clause-reads c =
    let name = c.in_ok-name.name in
    unread _ _ c.from_residual-in_err-first.ensures.1 c.in_err-first.ensures (read (marked k.Var) c.in_ok-mark.ensures.reads also read (named name) c.in_ok-name.ensures.reads)
    (goes (λ z. (record { name = name; first = z }, [], λ b m tail h d. (h.0, h.1, (m, h.2, d)))))
    (blames (λ b m near h none. record {
      rejects = λ x after d. (behind (past k.Var (names name x.name)) h (d.0, d.1, d.2.1) none).rejects x.first after d.2.2;
    }))
