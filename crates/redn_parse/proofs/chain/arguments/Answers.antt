use Rattle.std.proofs.Common.{arith, subst, sym, ap, ◌∙◌}
use Rattle.redn_syntax.specs.declared.token.TokenKind.TheVariants as k
use Rattle.redn_syntax.specs.Grammar as g
use Rattle.redn_syntax.specs.Grammar.{SamePlace}
use Rattle.redn_parse.specs.Lookahead.{kind_at}
use Rattle.redn_parse.proofs.Same.{arguments}
use Rattle.redn_parse.proofs.Fronts as fronts
use Rattle.redn_parse.proofs.Passed.{unread, read, blames}
use Rattle.redn_parse.proofs.Lists.{each_more, all_goes, all_blocked}
use Rattle.redn_parse.proofs.chain.arguments.Goals as goal

pub returns-in_err-name-clause-reads : goal.returns-in_err-name-clause-reads
returns-in_err-name-clause-reads c =
    unread _ _ c.from_residual.ensures.1 c.in_err-name.ensures.reads (read (fronts.each (g.argument SamePlace) fronts.argument _) c.arguments.invariant.reads)
    (all_goes (g.argument SamePlace) _)
    (blames (λ b m near h none. all_blocked (g.argument SamePlace) k.Arg arguments (λ x b r d. ap (kind_at 0) d.1.1) _ b m h (near.0 ∙ c.is_ahead.ensures.0 c.arguments-test.true) none))

pub arguments-preserved : goal.arguments-preserved
arguments-preserved c = record {
  reads = subst (λ xs. g.each (g.argument SamePlace) xs c.args.reader.now c.argument.new.reader) (sym c.in_ok-add.ensures.ok) (each_more (g.argument SamePlace) _ _ _ _ _ c.arguments.invariant.reads c.in_ok-name.ensures.reads);
  fewer = omega (arith, c.in_ok-name.ensures.moves);
}
