use Rattle.std.proofs.Common.{true, [], ◌∷◌, refl}
use Rattle.redn_syntax.specs.declared.token.TokenKind.TheVariants as k
use Rattle.redn_syntax.specs.Grammar as g
use Rattle.redn_parse.proofs.Samples as a
use Rattle.redn_parse.proofs.Same.{values, tests, ◌and◌}
use Rattle.redn_parse.proofs.Fronts.{valued, marked}
use Rattle.redn_parse.proofs.Passed.{unread, start, read, ◌also◌, behind, goes, blames, first_goes, first_blames, chosen_test, test_chosen}
use Rattle.redn_parse.proofs.statement.test.Goals as goal

pub returns-in_err-left-clause-reads : goal.returns-in_err-left-clause-reads
returns-in_err-left-clause-reads c =
    unread _ _ c.from_residual.ensures.1 c.in_err-left.ensures.reads start
    (first_goes (λ z. ((z, true, a.a_value), a.mark k.DoubleEquals ∷ a.number ∷ [], λ b tail d. (_, d, (_, (0, refl), (0, refl, refl))))))
    (first_blames (λ b near none. record { rejects = λ x after d. none.rejects x.0 d.0 d.1 }))

pub returns-in_err-wide-clause-reads : goal.returns-in_err-wide-clause-reads
returns-in_err-wide-clause-reads c =
    let left = c.in_ok-left.left in
    unread _ _ c.from_residual-in_err-wide.ensures.1 c.in_err-wide.ensures.reads (read (valued left) c.in_ok-left.ensures.reads)
    (goes (λ z. ((left, z, a.a_value), a.number ∷ [], λ b m tail h d. (m, h, (_, test_chosen z _ _ d, (0, refl, refl))))))
    (blames (λ b m near h none. record {
      rejects = λ x after d. (behind (values left x.0) h d.1 none).rejects x.1 d.2.0 (chosen_test x.1 _ _ d.2.1);
    }))

pub returns-in_err-right-clause-reads : goal.returns-in_err-right-clause-reads
returns-in_err-right-clause-reads c =
    let left = c.in_ok-left.left in
    let wide = c.in_ok-wide.wide in
    unread _ _ c.from_residual-in_err-right.ensures.1 c.in_err-right.ensures.reads
    (read (valued left) c.in_ok-left.ensures.reads also read (marked (g.test_mark wide)) (test_chosen wide _ _ c.in_ok-wide.ensures.reads))
    (goes (λ z. ((left, wide, z), [], λ b m tail h d. (h.0, h.1, (m, h.2, d)))))
    (blames (λ b m near h none. record {
      rejects = λ x after d. (behind (values left x.0 and tests wide x.1) h (d.0, d.1, d.2.1) none).rejects x.2 after d.2.2;
    }))
