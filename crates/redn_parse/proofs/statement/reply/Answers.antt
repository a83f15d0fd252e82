use Rattle.std.proofs.Common.{[], ◌∷◌, refl, subst, sym, ◌∙◌}
use Rattle.redn_syntax.specs.declared.token.TokenKind.TheVariants as k
use Rattle.redn_syntax.specs.declared.tree.StmtKind.TheVariants as s
use Rattle.redn_syntax.specs.declared.tree.StmtKind.TheVariants.{outs-Reply}
use Rattle.redn_syntax.specs.Grammar as g
use Rattle.redn_syntax.specs.Grammar.{SamePlace}
use Rattle.redn_parse.proofs.Samples as a
use Rattle.redn_parse.proofs.Same.{marks}
use Rattle.redn_parse.proofs.Fronts.{marked}
use Rattle.redn_parse.proofs.Passed.{unread, start, read, behind, goes, blames, first_goes, first_blames}
use Rattle.redn_parse.proofs.Forms.{no_reply}
use Rattle.redn_parse.proofs.Plain.{a_reply, near_mark}
use Rattle.redn_parse.proofs.statement.reply.Goals as goal

pub returns-in_err-mark-clause-reads : goal.returns-in_err-mark-clause-reads
unfolding g.form
returns-in_err-mark-clause-reads c =
    unread _ _ c.from_residual.ensures.1 c.in_err-mark.ensures.reads start
    (first_goes (λ z. (s.Reply (a.a_value ∷ []), a.number ∷ a.mark k.Semicolon ∷ [], λ b tail d. a_reply (a.a_value ∷ []) b tail (_, d, (_, (_, (0, refl, refl), refl), (0, refl))))))
    (first_blames (λ b near none. no_reply b (near.0 ∙ c.requires) (λ d words after h. none.rejects tt h.0 h.1)))

pub returns-in_err-words-clause-reads : goal.returns-in_err-words-clause-reads
unfolding g.form
returns-in_err-words-clause-reads c =
    unread _ _ c.from_residual-in_err-words.ensures.1 c.in_err-words.ensures.reads (read (marked k.Reply) c.in_ok-mark.ensures.reads)
    (goes (λ z. (s.Reply z, [], λ b m tail h d. a_reply z b tail (m, h, d))))
    (blames (λ b m near h none. no_reply b (near_mark k.Reply b m h) (λ d words after h'. (behind (marks k.Reply) h h'.1 none).rejects words after h'.2)))

pub returns-clause-reads : goal.returns-clause-reads
unfolding g.form
returns-clause-reads c =
    λ room. subst (λ layer. g.form SamePlace (g.block_within SamePlace room) layer c.args.reader.now c.reply_words.new.reader) (sym (outs-Reply _)) (_, c.in_ok-mark.ensures.reads, c.in_ok-words.ensures.reads)
