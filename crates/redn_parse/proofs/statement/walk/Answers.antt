use Rattle.std.proofs.Common.{[], ◌∷◌, refl, subst, sym, ◌∙◌}
use Rattle.redn_syntax.specs.declared.token.TokenKind.TheVariants as k
use Rattle.redn_syntax.specs.declared.tree.StmtKind.TheVariants as s
use Rattle.redn_syntax.specs.declared.tree.StmtKind.TheVariants.{outs-Walk}
use Rattle.redn_syntax.specs.Grammar as g
use Rattle.redn_syntax.specs.Grammar.{SamePlace}
use Rattle.redn_parse.proofs.Samples as a
use Rattle.redn_parse.proofs.Same.{names, marks, past, ◌and◌}
use Rattle.redn_parse.proofs.Trees.{slots}
use Rattle.redn_parse.proofs.Fronts.{marked, named, slot, ◌plus◌}
use Rattle.redn_parse.proofs.Passed.{unread, start, read, ◌also◌, behind, goes, blames, first_goes, first_blames}
use Rattle.redn_parse.proofs.Forms.{no_walk}
use Rattle.redn_parse.proofs.Plain.{a_walk, near_mark}
use Rattle.redn_parse.proofs.statement.walk.Goals as goal

pub returns-in_err-mark-clause-reads : goal.returns-in_err-mark-clause-reads
unfolding g.form
returns-in_err-mark-clause-reads c =
    unread _ _ c.from_residual.ensures.1 c.in_err-mark.ensures.reads start
    (first_goes (λ z. (
      s.Walk a.a_name a.a_name a.a_value a.a_value a.a_number,
      a.name ∷ a.mark k.Equals ∷ a.name ∷ a.mark k.OpenBracket ∷ a.number ∷ a.mark k.CloseBracket ∷ a.mark k.Key ∷ a.number ∷ a.mark k.Nodes ∷ a.number ∷ a.mark k.Semicolon ∷ [],
      λ b tail d. a_walk a.a_name a.a_name a.a_value a.a_value a.a_number b tail (_, d, (_, (0, refl, refl), (_, (0, refl), (_, (_, (0, refl, refl), (_, (0, refl), (_, (0, refl, refl), (0, refl)))), (_, (0, refl), (_, (0, refl, refl), (_, (0, refl), (_, (0, refl, refl), (0, refl))))))))),
    )))
    (first_blames (λ b near none. no_walk b (near.0 ∙ c.requires) (λ d to t offset key bound after h. none.rejects tt h.0 h.1)))

pub returns-in_err-to-clause-reads : goal.returns-in_err-to-clause-reads
unfolding g.form
returns-in_err-to-clause-reads c =
    unread _ _ c.from_residual-in_err-to.ensures.1 c.in_err-to.ensures.reads (read (marked k.Walk) c.in_ok-mark.ensures.reads)
    (goes (λ z. (
      s.Walk z a.a_name a.a_value a.a_value a.a_number,
      a.name ∷ a.mark k.OpenBracket ∷ a.number ∷ a.mark k.CloseBracket ∷ a.mark k.Key ∷ a.number ∷ a.mark k.Nodes ∷ a.number ∷ a.mark k.Semicolon ∷ [],
      λ b m tail h d. a_walk z a.a_name a.a_value a.a_value a.a_number b tail (m, h, (d.0, d.1, (_, d.2, (_, (_, (0, refl, refl), (_, (0, refl), (_, (0, refl, refl), (0, refl)))), (_, (0, refl), (_, (0, refl, refl), (_, (0, refl), (_, (0, refl, refl), (0, refl))))))))),
    )))
    (blames (λ b m near h none. no_walk b (near_mark k.Walk b m h) (λ d to t offset key bound after h'.
    (behind (marks k.Walk) h h'.1 none).rejects to h'.2.2.0 (h'.2.0, h'.2.1, h'.2.2.1))))

pub returns-in_err-table-clause-reads : goal.returns-in_err-table-clause-reads
unfolding g.form
returns-in_err-table-clause-reads c =
    let to = c.in_ok-to.to in
    unread _ _ c.from_residual-in_err-table.ensures.1 c.in_err-table.ensures.reads (read (marked k.Walk) c.in_ok-mark.ensures.reads also read (named to plus marked k.Equals) c.in_ok-to.ensures.reads)
    (goes (λ z. (
      s.Walk to z.0 z.1 a.a_value a.a_number,
      a.number ∷ a.mark k.Nodes ∷ a.number ∷ a.mark k.Semicolon ∷ [],
      λ b m tail h d. a_walk to z.0 z.1 a.a_value a.a_number b tail (h.0, h.1, (h.2.0, h.2.1, (m, h.2.2, (d.0, d.1, (_, d.2, (_, (0, refl, refl), (_, (0, refl), (_, (0, refl, refl), (0, refl))))))))),
    )))
    (blames (λ b m near h none. no_walk b (near_mark k.Walk b h.0 h.1) (λ d to' t offset key bound after h'.
    let r = h'.2.2.2 in
    (behind (past k.Walk (names to to' and marks k.Equals)) h (h'.0, h'.1, (h'.2.0, h'.2.1, h'.2.2.1)) none).rejects (t, offset) r.2.0 (r.0, r.1, r.2.1))))

pub returns-in_err-key-clause-reads : goal.returns-in_err-key-clause-reads
unfolding g.form
returns-in_err-key-clause-reads c =
    let to = c.in_ok-to.to in
    let table = c.in_ok-table.table in
    let offset = c.in_ok-table.offset in
    let target = c.in_ok-to.ensures.reads in
    unread _ _ c.from_residual-in_err-key.ensures.1 c.in_err-key.ensures.reads
    (read (marked k.Walk plus (named to plus (marked k.Equals plus (slot table offset plus marked k.Key))))
    (_, c.in_ok-mark.ensures.reads, (target.0, target.1, (_, target.2, c.in_ok-table.ensures.reads))))
    (goes (λ z. (
      s.Walk to table offset z.0 z.1,
      [],
      λ b m tail h d. a_walk to table offset z.0 z.1 b tail (h.0, h.1, (h.2.0, h.2.1, (h.2.2.0, h.2.2.1, (h.2.2.2.0, h.2.2.2.1, (m, h.2.2.2.2, d))))),
    )))
    (blames (λ b m near h none. no_walk b (near_mark k.Walk b h.0 h.1) (λ d to' t' offset' key bound after h'.
    let r = h'.2.2.2 in
    (behind (past k.Walk (names to to' and past k.Equals (slots table t' offset offset' and marks k.Key))) h (h'.0, h'.1, (h'.2.0, h'.2.1, (h'.2.2.0, h'.2.2.1, (r.0, r.1, r.2.1)))) none).rejects (key, bound) after r.2.2)))

pub returns-clause-reads : goal.returns-clause-reads
unfolding g.form
returns-clause-reads c =
    let target = c.in_ok-to.ensures.reads in
    let place = c.in_ok-table.ensures.reads in
    λ room. subst (λ layer. g.form SamePlace (g.block_within SamePlace room) layer c.args.reader.now c.key_and_bound.new.reader) (sym (outs-Walk _ _ _ _ _)) (_, c.in_ok-mark.ensures.reads, (target.0, target.1, (_, target.2, (place.0, place.1, (_, place.2, c.in_ok-key.ensures.reads)))))
