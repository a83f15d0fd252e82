use Rattle.std.proofs.Common.{[], ◌∷◌, refl, subst, sym, ◌∙◌}
use Rattle.redn_syntax.specs.declared.token.TokenKind.TheVariants as k
use Rattle.redn_syntax.specs.declared.tree.StmtKind.TheVariants as s
use Rattle.redn_syntax.specs.declared.tree.StmtKind.TheVariants.{outs-Load, outs-Move}
use Rattle.redn_syntax.specs.Grammar as g
use Rattle.redn_syntax.specs.Grammar.{SamePlace}
use Rattle.redn_parse.proofs.Samples as a
use Rattle.redn_parse.proofs.Fronts.{marked, named, ◌plus◌}
use Rattle.redn_parse.proofs.Passed.{unread, start, read, goes, blames, first_goes, first_blames}
use Rattle.redn_parse.proofs.Forms.{no_assignment}
use Rattle.redn_parse.proofs.Plain.{a_move, a_load, by_second, name_begins, load_near, move_near}
use Rattle.redn_parse.proofs.statement.assignment.Goals as goal

pub returns-in_err-to-clause-reads : goal.returns-in_err-to-clause-reads
unfolding g.form
returns-in_err-to-clause-reads c =
    unread _ _ c.from_residual.ensures.1 c.in_err-to.ensures.reads start
    (first_goes (λ z. (s.Move z a.a_value, a.number ∷ a.mark k.Semicolon ∷ [], λ b tail d. a_move z a.a_value b tail (d.0, d.1, (_, d.2, (_, (0, refl, refl), (0, refl)))))))
    (first_blames (λ b near none. by_second _ _ b c.requires.first near (name_begins k.Equals b) (λ e.
    no_assignment b (near.0 ∙ c.requires.first) (λ h. c.requires.no_sum (sym e ∙ h)) (λ h. c.requires.no_store (sym e ∙ h))
    (λ to from after h. none.rejects to h.2.0 (h.0, h.1, h.2.1)) (λ to t offset after h. none.rejects to h.2.0 (h.0, h.1, h.2.1)))))

pub returns-in_err-table-clause-reads : goal.returns-in_err-table-clause-reads
returns-in_err-table-clause-reads c =
    let to = c.in_ok-to.to in
    unread _ _ c.from_residual-in_err-table.ensures.1 c.in_err-table.ensures.reads (read (named to plus marked k.Equals) c.in_ok-to.ensures.reads)
    (goes (λ z. (s.Load to z.0 z.1, [], λ b m tail h d. a_load to z.0 z.1 b tail (h.0, h.1, (m, h.2, d)))))
    (blames (λ b m near h none. load_near to b m h _ (c.is_slot.ensures.0 c.if-is_slot.true) near none))

pub returns-then-is_slot-clause-reads : goal.returns-then-is_slot-clause-reads
unfolding g.form
returns-then-is_slot-clause-reads c =
    let to = c.in_ok-to.ensures.reads in
    λ room. subst (λ layer. g.form SamePlace (g.block_within SamePlace room) layer c.args.reader.now c.slot_before.new.reader) (sym (outs-Load _ _ _)) (to.0, to.1, (_, to.2, c.in_ok-table.ensures.reads))

pub returns-in_err-from-clause-reads : goal.returns-in_err-from-clause-reads
returns-in_err-from-clause-reads c =
    let to = c.in_ok-to.to in
    unread _ _ c.from_residual-in_err-from.ensures.1 c.in_err-from.ensures.reads (read (named to plus marked k.Equals) c.in_ok-to.ensures.reads)
    (goes (λ z. (s.Move to z, [], λ b m tail h d. a_move to z b tail (h.0, h.1, (m, h.2, d)))))
    (blames (λ b m near h none. move_near to b m h _ (λ e. cc (c.is_slot.ensures.1 e)) near none))

pub returns-clause-reads : goal.returns-clause-reads
unfolding g.form
returns-clause-reads c =
    let to = c.in_ok-to.ensures.reads in
    λ room. subst (λ layer. g.form SamePlace (g.block_within SamePlace room) layer c.args.reader.now c.value_before.new.reader) (sym (outs-Move _ _)) (to.0, to.1, (_, to.2, c.in_ok-from.ensures.reads))
