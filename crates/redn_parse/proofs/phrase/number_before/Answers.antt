use Rattle.std.proofs.Common.{[], ◌∷◌, refl}
use Rattle.redn_parse.proofs.Samples as a
use Rattle.redn_parse.proofs.Same.{numbers}
use Rattle.redn_parse.proofs.Fronts.{numbered}
use Rattle.redn_parse.proofs.Passed.{unread, start, read, behind, goes, blames, first_goes, first_blames}
use Rattle.redn_parse.proofs.phrase.number_before.Goals as goal

pub returns-in_err-number-clause-reads : goal.returns-in_err-number-clause-reads
returns-in_err-number-clause-reads c =
    unread _ _ c.from_residual.ensures.1 c.in_err-number.ensures.reads start
    (first_goes (λ z. (z, a.mark c.args.kind ∷ [], λ b tail d. (_, d, (0, refl)))))
    (first_blames (λ b near none. record { rejects = λ x after d. none.rejects x d.0 d.1 }))

pub returns-in_err-mark-clause-reads : goal.returns-in_err-mark-clause-reads
returns-in_err-mark-clause-reads c =
    unread _ _ c.from_residual-in_err-mark.ensures.1 c.in_err-mark.ensures.reads (read (numbered c.in_ok-number.number) c.in_ok-number.ensures.reads)
    (goes (λ z. (c.in_ok-number.number, [], λ b m tail h d. (m, h, d))))
    (blames (λ b m near h none. record { rejects = λ x after d. (behind (numbers c.in_ok-number.number x) h d.1 none).rejects tt after d.2 }))
