use Rattle.std.proofs.Common.{[], ◌∷◌, refl, subst, sym, ◌∙◌}
use Rattle.redn_syntax.specs.declared.token.TokenKind.TheVariants as k
use Rattle.redn_syntax.specs.declared.tree.StmtKind.TheVariants as s
use Rattle.redn_syntax.specs.declared.tree.StmtKind.TheVariants.{outs-Add}
use Rattle.redn_syntax.specs.Grammar as g
use Rattle.redn_syntax.specs.Grammar.{SamePlace}
use Rattle.redn_parse.proofs.Samples as a
use Rattle.redn_parse.proofs.Same.{names, marks, ◌and◌}
use Rattle.redn_parse.proofs.Fronts.{marked, named, ◌plus◌}
use Rattle.redn_parse.proofs.Passed.{unread, start, read, behind, goes, blames, first_goes, first_blames}
use Rattle.redn_parse.proofs.Forms.{no_sum, sum_sort}
use Rattle.redn_parse.proofs.Plain.{a_sum, by_second, name_begins, name_kinds}
use Rattle.redn_parse.proofs.statement.sum.Goals as goal

pub returns-in_err-to-clause-reads : goal.returns-in_err-to-clause-reads
unfolding g.form
returns-in_err-to-clause-reads c =
    unread _ _ c.from_residual.ensures.1 c.in_err-to.ensures.reads start
    (first_goes (λ z. (s.Add z a.a_value, a.number ∷ a.mark k.Semicolon ∷ [], λ b tail d. a_sum z a.a_value b tail (d.0, d.1, (_, d.2, (_, (0, refl, refl), (0, refl)))))))
    (first_blames (λ b near none. by_second _ _ b c.requires.first near (name_begins k.PlusEquals b) (λ e.
    no_sum b (sum_sort b (near.0 ∙ c.requires.first) (e ∙ c.requires.second)) (λ d to by after h. none.rejects to h.2.0 (h.0, h.1, h.2.1)))))

pub returns-in_err-by-clause-reads : goal.returns-in_err-by-clause-reads
unfolding g.form
returns-in_err-by-clause-reads c =
    let to = c.in_ok-to.to in
    unread _ _ c.from_residual-in_err-by.ensures.1 c.in_err-by.ensures.reads (read (named to plus marked k.PlusEquals) c.in_ok-to.ensures.reads)
    (goes (λ z. (s.Add to z, [], λ b m tail h d. a_sum to z b tail (h.0, h.1, (m, h.2, d)))))
    (blames (λ b m near h none.
    let kinds = name_kinds k.PlusEquals to b m h in
    no_sum b (sum_sort b kinds.0 kinds.1) (λ d to' by after h'. (behind (names to to' and marks k.PlusEquals) h (h'.0, h'.1, h'.2.1) none).rejects by after h'.2.2)))

pub returns-clause-reads : goal.returns-clause-reads
unfolding g.form
returns-clause-reads c =
    let to = c.in_ok-to.ensures.reads in
    λ room. subst (λ layer. g.form SamePlace (g.block_within SamePlace room) layer c.args.reader.now c.value_before.new.reader) (sym (outs-Add _ _)) (to.0, to.1, (_, to.2, c.in_ok-by.ensures.reads))
