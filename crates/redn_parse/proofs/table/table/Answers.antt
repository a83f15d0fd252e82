use Rattle.std.proofs.Common.{[], ◌∷◌, refl}
use Rattle.redn_syntax.specs.declared.token.TokenKind.TheVariants as k
use Rattle.redn_syntax.specs.Grammar as g
use Rattle.redn_parse.proofs.Samples as a
use Rattle.redn_parse.proofs.Same.{names, numbers, marks, accesses, past, ◌and◌}
use Rattle.redn_parse.proofs.Fronts.{marked, named, numbered, ◌plus◌}
use Rattle.redn_parse.proofs.Passed.{unread, start, read, behind, goes, blames, first_goes, first_blames, chosen_access, access_chosen}
use Rattle.redn_parse.proofs.table.table.Goals as goal

pub returns-in_err-mark-clause-reads : goal.returns-in_err-mark-clause-reads
returns-in_err-mark-clause-reads c =
    unread _ _ c.from_residual.ensures.1 c.in_err-mark.ensures.reads start
    (first_goes (λ z. (
      a.a_table,
      a.name ∷ a.mark k.OpenBracket ∷ a.number ∷ a.mark k.CloseBracket ∷ a.mark k.Ro ∷ a.mark k.Semicolon ∷ [],
      λ b tail d. (_, d, (_, (0, refl, refl), (_, (0, refl), (_, (0, refl, refl), (_, (0, refl), (_, (0, refl), (_, refl, (0, refl)))))))),
    )))
    (first_blames (λ b near none. record { rejects = λ x after d. none.rejects tt d.0 d.1 }))

pub returns-in_err-name-clause-reads : goal.returns-in_err-name-clause-reads
returns-in_err-name-clause-reads c =
    unread _ _ c.from_residual-in_err-name.ensures.1 c.in_err-name.ensures.reads (read (marked k.Table) c.in_ok-mark.ensures.reads)
    (goes (λ z. (
      record a.a_table { name = z },
      a.number ∷ a.mark k.CloseBracket ∷ a.mark k.Ro ∷ a.mark k.Semicolon ∷ [],
      λ b m tail h d. (m, h, (d.0, d.1, (_, d.2, (_, (0, refl, refl), (_, (0, refl), (_, (0, refl), (_, refl, (0, refl)))))))),
    )))
    (blames (λ b m near h none. record {
      rejects = λ x after d. (behind (marks k.Table) h d.1 none).rejects x.name d.2.2.0 (d.2.0, d.2.1, d.2.2.1);
    }))

pub returns-in_err-length-clause-reads : goal.returns-in_err-length-clause-reads
returns-in_err-length-clause-reads c =
    let name = c.in_ok-name.name in
    unread _ _ c.from_residual-in_err-length.ensures.1 c.in_err-length.ensures.reads
    (read (marked k.Table plus (named name plus marked k.OpenBracket)) (_, c.in_ok-mark.ensures.reads, c.in_ok-name.ensures.reads))
    (goes (λ z. (
      record a.a_table { name = name; length = z },
      a.mark k.Ro ∷ a.mark k.Semicolon ∷ [],
      λ b m tail h d. (h.0, h.1, (h.2.0, h.2.1, (m, h.2.2, (d.0, d.1, (_, d.2, (_, (0, refl), (_, refl, (0, refl)))))))),
    )))
    (blames (λ b m near h none. record {
      rejects = λ x after d.
          let rest = d.2.2.2 in
          (behind (past k.Table (names name x.name and marks k.OpenBracket)) h (d.0, d.1, (d.2.0, d.2.1, d.2.2.1)) none).rejects x.length rest.2.0 (rest.0, rest.1, rest.2.1);
    }))

pub returns-in_err-writable-clause-reads : goal.returns-in_err-writable-clause-reads
returns-in_err-writable-clause-reads c =
    let name = c.in_ok-name.name in
    let length = c.in_ok-length.length in
    let n = c.in_ok-name.ensures.reads in
    unread _ _ c.from_residual-in_err-writable.ensures.1 c.in_err-writable.ensures.reads
    (read (marked k.Table plus (named name plus (marked k.OpenBracket plus (numbered length plus marked k.CloseBracket)))) (_, c.in_ok-mark.ensures.reads, (n.0, n.1, (_, n.2, c.in_ok-length.ensures.reads))))
    (goes (λ z. (
      record a.a_table { name = name; length = length; writable = z },
      a.mark k.Semicolon ∷ [],
      λ b m tail h d. (h.0, h.1, (h.2.0, h.2.1, (h.2.2.0, h.2.2.1, (h.2.2.2.0, h.2.2.2.1, (m, h.2.2.2.2, (_, access_chosen z _ _ d, (_, refl, (0, refl)))))))),
    )))
    (blames (λ b m near h none. record {
      rejects = λ x after d.
          let rest = d.2.2.2 in
          let access = rest.2.2 in
          (behind (past k.Table (names name x.name and past k.OpenBracket (numbers length x.length and marks k.CloseBracket)))
          h (d.0, d.1, (d.2.0, d.2.1, (d.2.2.0, d.2.2.1, (rest.0, rest.1, rest.2.1)))) none).rejects x.writable access.0 (chosen_access x.writable _ _ access.1);
    }))

pub returns-in_err-items-clause-reads : goal.returns-in_err-items-clause-reads
returns-in_err-items-clause-reads c =
    let name = c.in_ok-name.name in
    let length = c.in_ok-length.length in
    let writable = c.in_ok-writable.writable in
    let n = c.in_ok-name.ensures.reads in
    let l = c.in_ok-length.ensures.reads in
    let w = access_chosen writable _ _ c.in_ok-writable.ensures.reads in
    unread _ _ c.from_residual-in_err-items.ensures.1 c.in_err-items.ensures.reads
    (read (marked k.Table plus (named name plus (marked k.OpenBracket plus (numbered length plus (marked k.CloseBracket plus marked (g.access_mark writable))))))
    (_, c.in_ok-mark.ensures.reads, (n.0, n.1, (_, n.2, (l.0, l.1, (_, l.2, w))))))
    (goes (λ z. (
      record { name = name; length = length; writable = writable; items = z },
      [],
      λ b m tail h d. (h.0, h.1, (h.2.0, h.2.1, (h.2.2.0, h.2.2.1, (h.2.2.2.0, h.2.2.2.1, (h.2.2.2.2.0, h.2.2.2.2.1, (m, h.2.2.2.2.2, d)))))),
    )))
    (blames (λ b m near h none. record {
      rejects = λ x after d.
          let rest = d.2.2.2 in
          let access = rest.2.2 in
          (behind (past k.Table (names name x.name and past k.OpenBracket (numbers length x.length and past k.CloseBracket (accesses writable x.writable))))
          h (d.0, d.1, (d.2.0, d.2.1, (d.2.2.0, d.2.2.1, (rest.0, rest.1, (rest.2.0, rest.2.1, access.1))))) none).rejects x.items after access.2;
    }))

pub returns-clause-reads : goal.returns-clause-reads
returns-clause-reads c =
    let name = c.in_ok-name.ensures.reads in
    let length = c.in_ok-length.ensures.reads in
    let writable = access_chosen c.in_ok-writable.writable _ _ c.in_ok-writable.ensures.reads in
    (_, c.in_ok-mark.ensures.reads, (name.0, name.1, (_, name.2, (length.0, length.1, (_, length.2, (_, writable, c.in_ok-items.ensures.reads))))))
