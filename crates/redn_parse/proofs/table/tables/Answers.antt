use Rattle.std.proofs.Common.{arith, subst, sym, ap, ◌∙◌}
use Rattle.redn_syntax.specs.declared.token.TokenKind.TheVariants as k
use Rattle.redn_syntax.specs.Grammar as g
use Rattle.redn_syntax.specs.Grammar.{SamePlace}
use Rattle.redn_parse.specs.Lookahead.{kind_at}
use Rattle.redn_parse.proofs.Same.{tables}
use Rattle.redn_parse.proofs.Fronts as fronts
use Rattle.redn_parse.proofs.Passed.{unread, read, blames}
use Rattle.redn_parse.proofs.Lists.{each_more, all_goes, all_blocked}
use Rattle.redn_parse.proofs.table.tables.Goals as goal

pub returns-in_err-table-clause-reads : goal.returns-in_err-table-clause-reads
returns-in_err-table-clause-reads c =
    unread _ _ c.from_residual.ensures.1 c.in_err-table.ensures.reads (read (fronts.each (g.table SamePlace) fronts.table _) c.tables.invariant.reads)
    (all_goes (g.table SamePlace) _)
    (blames (λ b m near h none. all_blocked (g.table SamePlace) k.Table tables (λ x b r d. ap (kind_at 0) d.1.1) _ b m h (near.0 ∙ c.is_ahead.ensures.0 c.tables-test.true) none))

pub tables-preserved : goal.tables-preserved
tables-preserved c = record {
  reads = subst (λ xs. g.each (g.table SamePlace) xs c.args.reader.now c.table.new.reader) (sym c.in_ok-add.ensures.ok) (each_more (g.table SamePlace) _ _ _ _ _ c.tables.invariant.reads c.in_ok-table.ensures.reads);
  fewer = omega (arith, c.in_ok-table.ensures.moves);
}
