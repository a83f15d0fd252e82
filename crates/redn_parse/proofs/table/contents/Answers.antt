use Rattle.std.proofs.Common.{[], ◌∷◌, refl, subst, sym}
use Rattle.redn_syntax.specs.declared.token.TokenKind.TheVariants as k
use Rattle.redn_syntax.specs.Grammar as g
use Rattle.redn_syntax.specs.Grammar.{SamePlace}
use Rattle.redn_parse.specs.Reads.{with_mark}
use Rattle.redn_parse.proofs.Samples as a
use Rattle.redn_parse.proofs.Same.{marks, past, item_lists}
use Rattle.redn_parse.proofs.Fronts.{marked, listed, item, ◌plus◌}
use Rattle.redn_parse.proofs.Passed.{unread, start, read, ◌also◌, behind, goes, blames, first_blames, chosen_first, chosen_second}
use Rattle.redn_parse.proofs.Lists.{contents_begin, contents_goes, contents_failed, contents_read}
use Rattle.redn_parse.proofs.table.contents.Goals as goal

pub returns-in_err-has_items-clause-reads : goal.returns-in_err-has_items-clause-reads
returns-in_err-has_items-clause-reads c =
    unread _ _ c.from_residual.ensures.1 c.in_err-has_items.ensures.reads start contents_goes (first_blames (λ b near none. contents_begin b none))

pub returns-then-not-has_items-clause-reads : goal.returns-then-not-has_items-clause-reads
returns-then-not-has_items-clause-reads c =
    let semicolon = chosen_second _ _ c.in_ok-has_items.has_items _ _ (cc) c.in_ok-has_items.ensures.reads in
    subst (λ xs. with_mark (g.contents SamePlace) k.Semicolon xs c.args.reader.now c.either_mark.new.reader) (sym c.new.ensures) (_, refl, semicolon)

pub returns-in_err-mark-clause-reads : goal.returns-in_err-mark-clause-reads
returns-in_err-mark-clause-reads c =
    let equals = chosen_first _ _ c.in_ok-has_items.has_items _ _ (cc) c.in_ok-has_items.ensures.reads in
    unread _ _ c.from_residual-in_err-mark.ensures.1 c.in_err-mark.ensures.reads (read (marked k.Equals) equals)
    (goes (λ z. (a.an_item ∷ [], a.number ∷ a.mark k.CloseBrace ∷ a.mark k.Semicolon ∷ [], λ b m tail h d. (_, (m, h, (_, d, (_, (_, (_, refl, (0, refl, refl)), refl), (0, refl)))), (0, refl)))))
    (blames (λ b m near h none. contents_failed b m h (record { rejects = λ x after d. none.rejects tt d.1.0 d.1.1 })))

pub returns-in_err-items-clause-reads : goal.returns-in_err-items-clause-reads
returns-in_err-items-clause-reads c =
    let equals = chosen_first _ _ c.in_ok-has_items.has_items _ _ (cc) c.in_ok-has_items.ensures.reads in
    unread _ _ c.from_residual-in_err-items.ensures.1 c.in_err-items.ensures.reads (read (marked k.Equals) equals also read (marked k.OpenBrace) c.in_ok-mark.ensures.reads)
    (goes (λ z. (z, a.mark k.Semicolon ∷ [], λ b m tail h d. contents_read z b h.0 m (a.mark k.Semicolon ∷ tail) tail h.1 h.2 d (0, refl))))
    (blames (λ b m near h none. contents_failed b h.0 h.1 (record {
      rejects = λ x after d. (behind (marks k.OpenBrace) h.2 d.1.1 none).rejects x d.0 d.1.2;
    })))

pub returns-in_err-mark-2-clause-reads : goal.returns-in_err-mark-2-clause-reads
returns-in_err-mark-2-clause-reads c =
    let equals = chosen_first _ _ c.in_ok-has_items.has_items _ _ (cc) c.in_ok-has_items.ensures.reads in
    let items = c.in_ok-items.items in
    unread _ _ c.from_residual-in_err-mark-2.ensures.1 c.in_err-mark-2.ensures.reads
    (read (marked k.Equals) equals also (read (marked k.OpenBrace) c.in_ok-mark.ensures.reads also read (listed (g.item SamePlace) item items plus marked k.CloseBrace) c.in_ok-items.ensures.reads))
    (goes (λ z. (items, [], λ b m tail h d. contents_read items b h.0 h.2.0 m tail h.1 h.2.1 h.2.2 d)))
    (blames (λ b m near h none. contents_failed b h.0 h.1 (record {
      rejects = λ x after d. (behind (past k.OpenBrace (item_lists items x)) h.2 d.1 none).rejects tt after d.2;
    })))

pub returns-clause-reads : goal.returns-clause-reads
returns-clause-reads c =
    let equals = chosen_first _ _ c.in_ok-has_items.has_items _ _ (cc) c.in_ok-has_items.ensures.reads in
    contents_read c.in_ok-items.items _ _ _ _ _ equals c.in_ok-mark.ensures.reads c.in_ok-items.ensures.reads c.in_ok-mark-2.ensures.reads
