use Rattle.std.proofs.Common.{arith, subst, sym, ap, ◌∙◌}
use Rattle.redn_syntax.specs.declared.token.TokenKind.TheVariants as k
use Rattle.redn_syntax.specs.Grammar as g
use Rattle.redn_syntax.specs.Grammar.{SamePlace}
use Rattle.redn_parse.specs.Lookahead.{kind_at}
use Rattle.redn_parse.proofs.Same.{variables}
use Rattle.redn_parse.proofs.Fronts as fronts
use Rattle.redn_parse.proofs.Passed.{unread, read, blames}
use Rattle.redn_parse.proofs.Lists.{each_more, all_goes, all_blocked}
use Rattle.redn_parse.proofs.chain.variables.Goals as goal

pub returns-in_err-variable-clause-reads : goal.returns-in_err-variable-clause-reads
returns-in_err-variable-clause-reads c =
    unread _ _ c.from_residual.ensures.1 c.in_err-variable.ensures.reads (read (fronts.each (g.variable SamePlace) fronts.variable _) c.variables.invariant.reads)
    (all_goes (g.variable SamePlace) _)
    (blames (λ b m near h none. all_blocked (g.variable SamePlace) k.Var variables (λ x b r d. ap (kind_at 0) d.1.1) _ b m h (near.0 ∙ c.is_ahead.ensures.0 c.variables-test.true) none))

pub variables-preserved : goal.variables-preserved
variables-preserved c = record {
  reads = subst (λ xs. g.each (g.variable SamePlace) xs c.args.reader.now c.variable.new.reader) (sym c.in_ok-add.ensures.ok) (each_more (g.variable SamePlace) _ _ _ _ _ c.variables.invariant.reads c.in_ok-variable.ensures.reads);
  fewer = omega (arith, c.in_ok-variable.ensures.moves);
}
