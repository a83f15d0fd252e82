use Rattle.std.proofs.Common.{[], ◌∷◌, refl, subst, sym, ◌∙◌}
use Rattle.redn_syntax.specs.declared.token.TokenKind.TheVariants as k
use Rattle.redn_syntax.specs.declared.tree.StmtKind.TheVariants as s
use Rattle.redn_syntax.specs.declared.tree.StmtKind.TheVariants.{outs-Break}
use Rattle.redn_syntax.specs.Grammar as g
use Rattle.redn_syntax.specs.Grammar.{SamePlace}
use Rattle.redn_parse.proofs.Samples as a
use Rattle.redn_parse.proofs.Same.{marks}
use Rattle.redn_parse.proofs.Fronts.{marked}
use Rattle.redn_parse.proofs.Passed.{unread, start, read, behind, goes, blames, first_goes, first_blames}
use Rattle.redn_parse.proofs.Forms.{no_break}
use Rattle.redn_parse.proofs.Plain.{a_break, near_mark}
use Rattle.redn_parse.proofs.statement.break_statement.Goals as goal

pub returns-in_err-mark-clause-reads : goal.returns-in_err-mark-clause-reads
unfolding g.form
returns-in_err-mark-clause-reads c =
    unread _ _ c.from_residual.ensures.1 c.in_err-mark.ensures.reads start
    (first_goes (λ z. (s.Break, a.mark k.Semicolon ∷ [], λ b tail d. a_break b tail (_, d, (0, refl)))))
    (first_blames (λ b near none. no_break b (near.0 ∙ c.requires) (λ d after h. none.rejects tt h.0 h.1)))

pub returns-in_err-mark-2-clause-reads : goal.returns-in_err-mark-2-clause-reads
unfolding g.form
returns-in_err-mark-2-clause-reads c =
    unread _ _ c.from_residual-in_err-mark-2.ensures.1 c.in_err-mark-2.ensures.reads (read (marked k.Break) c.in_ok-mark.ensures.reads)
    (goes (λ z. (s.Break, [], λ b m tail h d. a_break b tail (m, h, d))))
    (blames (λ b m near h none. no_break b (near_mark k.Break b m h) (λ d after h'. (behind (marks k.Break) h h'.1 none).rejects tt after h'.2)))

pub returns-clause-reads : goal.returns-clause-reads
unfolding g.form
returns-clause-reads c =
    λ room. subst (λ layer. g.form SamePlace (g.block_within SamePlace room) layer c.args.reader.now c.mark-2.new.self) (sym (outs-Break)) (_, c.in_ok-mark.ensures.reads, c.in_ok-mark-2.ensures.reads)
