use Rattle.std.proofs.Common.{arith, ◌≡◌, true, false, refl, subst, sym}
use Rattle.redn_syntax.specs.declared.token.TokenKind.TheVariants as k
use Rattle.redn_syntax.specs.Grammar as g
use Rattle.redn_syntax.specs.Grammar.{SamePlace, ◌>>◌}
use Rattle.redn_parse.specs.Reads.{with_mark, more_or}
use Rattle.redn_parse.proofs.Samples as a
use Rattle.redn_parse.proofs.Fronts as fronts
use Rattle.redn_parse.proofs.Passed.{unread, read, blames}
use Rattle.redn_parse.proofs.Lists.{commas, each_more, ended_listed, listed_blocked, listed_goes, one_item}
use Rattle.redn_parse.proofs.table.items.Goals as goal

pub returns-in_err-item-clause-reads : goal.returns-in_err-item-clause-reads
returns-in_err-item-clause-reads c =
    let items = c.loop-items.items in
    unread _ _ c.from_residual.ensures.1 c.in_err-item.ensures.reads (read (fronts.commas (g.item SamePlace) fronts.item items) c.loop-items.invariant.reads)
    (listed_goes (g.item SamePlace) k.CloseBrace a.an_item a.number (λ tail. (_, refl, (0, refl, refl))) items)
    (blames (λ b m near h none. listed_blocked (g.item SamePlace) k.CloseBrace one_item items b m h none))

pub returns-then-not-more-clause-reads : goal.returns-then-not-more-clause-reads
returns-then-not-more-clause-reads c =
    let h = c.in_ok-item.ensures.reads in
    let last : c.in_ok-item.more ≡ false = cc in
    let close = subst (λ more. more_or k.CloseBrace more h.0 c.item.new.reader) last h.2 in
    subst (λ xs. with_mark (g.listed (g.item SamePlace)) k.CloseBrace xs c.args.reader.now c.item.new.reader) (sym c.in_ok-add.ensures.ok) (h.0, ended_listed (g.item SamePlace) _ _ _ _ _ c.loop-items.invariant.reads h.1, close)

pub loop-items-preserved : goal.loop-items-preserved
loop-items-preserved c =
    let h = c.in_ok-item.ensures.reads in
    let goes_on : c.in_ok-item.more ≡ true = cc in
    let comma = subst (λ more. more_or k.CloseBrace more h.0 c.item.new.reader) goes_on h.2 in
    record {
      reads = subst (λ xs. commas (g.item SamePlace) xs c.args.reader.now c.item.new.reader) (sym c.in_ok-add.ensures.ok) (each_more (λ x. g.item SamePlace x >> g.mark k.Comma) _ _ _ _ _ c.loop-items.invariant.reads (h.0, h.1, comma));
      fewer = omega (arith, c.in_ok-item.ensures.moves);
    }
