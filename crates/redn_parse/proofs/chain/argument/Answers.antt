use Rattle.std.proofs.Common.{[], ◌∷◌, refl}
use Rattle.redn_syntax.specs.declared.token.TokenKind.TheVariants as k
use Rattle.redn_syntax.specs.Grammar as g
use Rattle.redn_syntax.specs.Grammar.{SamePlace}
use Rattle.redn_parse.proofs.Samples as a
use Rattle.redn_parse.proofs.Same.{marks}
use Rattle.redn_parse.proofs.Fronts.{marked}
use Rattle.redn_parse.proofs.Passed.{unread, last, start, read, behind, goes, blames, first_goes, first_blames}
use Rattle.redn_parse.proofs.chain.argument.Goals as goal

pub returns-in_err-mark-clause-reads : goal.returns-in_err-mark-clause-reads
returns-in_err-mark-clause-reads c =
    unread _ _ c.from_residual.ensures.1 c.in_err-mark.ensures.reads start
    (first_goes (λ z. (a.a_name, a.name ∷ a.mark k.Semicolon ∷ [], λ b tail d. (_, d, (_, (0, refl, refl), (0, refl))))))
    (first_blames (λ b near none. record { rejects = λ x after d. none.rejects tt d.0 d.1 }))

pub returns-clause-reads : goal.returns-clause-reads
returns-clause-reads c =
    last _ _ (λ x. g.argument SamePlace x c.args.reader.now c.name_before.new.reader) _ c.name_before.ensures.reads (λ x h. (_, c.in_ok-mark.ensures.reads, h))
    (read (marked k.Arg) c.in_ok-mark.ensures.reads)
    (goes (λ z. (z, [], λ b m tail h d. (m, h, d))))
    (blames (λ b m near h none. record { rejects = λ x after d. (behind (marks k.Arg) h d.1 none).rejects x after d.2 }))
