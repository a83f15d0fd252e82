use Rattle.std.proofs.Common.{[], ◌∷◌, refl, subst, sym, ◌∙◌}
use Rattle.redn_syntax.specs.declared.token.TokenKind.TheVariants as k
use Rattle.redn_syntax.specs.declared.tree.StmtKind.TheVariants as s
use Rattle.redn_syntax.specs.declared.tree.StmtKind.TheVariants.{outs-Store}
use Rattle.redn_syntax.specs.Grammar as g
use Rattle.redn_syntax.specs.Grammar.{SamePlace}
use Rattle.redn_parse.proofs.Samples as a
use Rattle.redn_parse.proofs.Same.{marks, ◌and◌}
use Rattle.redn_parse.proofs.Trees.{slots}
use Rattle.redn_parse.proofs.Fronts.{marked, slot, ◌plus◌}
use Rattle.redn_parse.proofs.Passed.{unread, start, read, behind, goes, blames, first_goes, first_blames}
use Rattle.redn_parse.proofs.Forms.{no_store, store_sort, slot_ahead}
use Rattle.redn_parse.proofs.Plain.{a_store, by_second, slot_begins}
use Rattle.redn_parse.proofs.statement.store.Goals as goal

pub returns-in_err-table-clause-reads : goal.returns-in_err-table-clause-reads
unfolding g.form
returns-in_err-table-clause-reads c =
    unread _ _ c.from_residual.ensures.1 c.in_err-table.ensures.reads start
    (first_goes (λ z. (s.Store z.0 z.1 a.a_value, a.number ∷ a.mark k.Semicolon ∷ [], λ b tail d. a_store z.0 z.1 a.a_value b tail (d.0, d.1, (_, d.2, (_, (0, refl, refl), (0, refl)))))))
    (first_blames (λ b near none. by_second _ _ b c.requires.first near (slot_begins k.Equals b) (λ e.
    no_store b (store_sort b (near.0 ∙ c.requires.first) (e ∙ c.requires.second)) (λ d t offset from after h. none.rejects (t, offset) h.2.0 (h.0, h.1, h.2.1)))))

pub returns-in_err-from-clause-reads : goal.returns-in_err-from-clause-reads
unfolding g.form
returns-in_err-from-clause-reads c =
    let table = c.in_ok-table.table in
    let offset = c.in_ok-table.offset in
    unread _ _ c.from_residual-in_err-from.ensures.1 c.in_err-from.ensures.reads (read (slot table offset plus marked k.Equals) c.in_ok-table.ensures.reads)
    (goes (λ z. (s.Store table offset z, [], λ b m tail h d. a_store table offset z b tail (h.0, h.1, (m, h.2, d)))))
    (blames (λ b m near h none.
    let kinds = slot_ahead table offset b h.0 h.1 in
    no_store b (store_sort b kinds.0 kinds.1) (λ d t offset' from after h'. (behind (slots table t offset offset' and marks k.Equals) h (h'.0, h'.1, h'.2.1) none).rejects from after h'.2.2)))

pub returns-clause-reads : goal.returns-clause-reads
unfolding g.form
returns-clause-reads c =
    let place = c.in_ok-table.ensures.reads in
    λ room. subst (λ layer. g.form SamePlace (g.block_within SamePlace room) layer c.args.reader.now c.value_before.new.reader) (sym (outs-Store _ _ _)) (place.0, place.1, (_, place.2, c.in_ok-from.ensures.reads))
