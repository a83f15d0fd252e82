use Rattle.std.proofs.Common.{arith, ◌≡◌, Some, [], ◌∷◌, refl, subst}
use Rattle.redn_syntax.specs.declared.token.TokenKind.TheVariants as k
use Rattle.redn_syntax.specs.Grammar as g
use Rattle.redn_syntax.specs.Grammar.{SamePlace}
use Rattle.redn_parse.specs.Lookahead.{kind_at}
use Rattle.redn_parse.specs.Reads.{statements}
use Rattle.redn_parse.proofs.Samples as a
use Rattle.redn_parse.proofs.Same.{marks, names, past}
use Rattle.redn_parse.proofs.Braces as braces
use Rattle.redn_parse.proofs.Braces.{◌then◌}
use Rattle.redn_parse.proofs.Fronts as fronts
use Rattle.redn_parse.proofs.Passed.{start, read, ◌also◌, goes, blames, first_goes, first_blames, unread_none, unread_flat, unread_deep, behind}
use Rattle.redn_parse.proofs.Lists.{all_read}
use Rattle.redn_parse.proofs.Blocks.{mark_next}
use Rattle.redn_parse.proofs.Chains.{head_front, head_kept, all_of, body_of, closing, args_kept, vars_kept, args_failed, vars_failed, body_failed}
use Rattle.redn_parse.proofs.chain.chain.Goals as goal

pub returns-in_err-mark-clause-reads : goal.returns-in_err-mark-clause-reads
returns-in_err-mark-clause-reads c =
    unread_flat (g.chain_within SamePlace) 64 _ _ c.from_residual.ensures.1 c.in_err-mark.ensures.reads start
    (first_goes (λ z. (a.a_chain, a.name ∷ a.mark k.OpenBrace ∷ a.mark k.CloseBrace ∷ [], λ b tail d. (_, d, (_, (0, refl, refl), (_, (0, refl), (_, refl, (_, refl, (_, refl, (0, refl, refl))))))))))
    (first_blames (λ b near none. record { rejects = λ p after d. none.rejects tt d.1.0 d.1.1 }))
    (braces.nothing 0) (λ z. braces.marked 0 k.Chain (λ p. (refl, refl)))

pub returns-in_err-name-clause-reads : goal.returns-in_err-name-clause-reads
returns-in_err-name-clause-reads c =
    unread_flat (g.chain_within SamePlace) 64 _ _ c.from_residual-in_err-name.ensures.1 c.in_err-name.ensures.reads
    (read (fronts.marked k.Chain) c.in_ok-mark.ensures.reads)
    (goes (λ z. (record a.a_chain { name = z }, a.mark k.OpenBrace ∷ a.mark k.CloseBrace ∷ [], λ b m tail h d. (m, h, (_, d, (_, (0, refl), (_, refl, (_, refl, (_, refl, (0, refl, refl))))))))))
    (blames (λ b m near h none. record {
      rejects = λ p after d.
          let rest = d.1.2 in
          (behind (marks k.Chain) h d.1.1 none).rejects p.1.name rest.0 rest.1;
    }))
    (braces.marked 0 k.Chain (λ p. (refl, refl))) (λ z. braces.named 0 z)

-- how many messages it serves, and the brace that opens it
pub returns-in_err-serve-clause-reads : goal.returns-in_err-serve-clause-reads
returns-in_err-serve-clause-reads c =
    let name = c.in_ok-name.name in
    unread_flat (g.chain_within SamePlace) 64 _ _ c.from_residual-in_err-serve.ensures.1 c.in_err-serve.ensures.reads
    (read (fronts.marked k.Chain) c.in_ok-mark.ensures.reads also read (fronts.named name) c.in_ok-name.ensures.reads)
    (goes (λ z. (record a.a_chain { name = name; serve = z }, a.mark k.CloseBrace ∷ [], λ b m tail h d. (h.0, h.1, (m, h.2, (_, d, (_, refl, (_, refl, (_, refl, (0, refl, refl))))))))))
    (blames (λ b m near h none. record {
      rejects = λ p after d.
          let rest = d.1.2 in
          (behind (past k.Chain (names name p.1.name)) h (d.1.0, d.1.1, rest.1) none).rejects p.1.serve rest.2.0 rest.2.1;
    }))
    (braces.marked 0 k.Chain (λ p. (refl, refl)) then braces.named 0 name) braces.opening

pub returns-in_err-args-clause-reads : goal.returns-in_err-args-clause-reads
returns-in_err-args-clause-reads c =
    let name = c.in_ok-name.name in
    let serve = c.in_ok-serve.serve in
    unread_flat (g.chain_within SamePlace) 64 _ _ c.from_residual-in_err-args.ensures.1 c.in_err-args.ensures.reads
    (read (head_front name serve) (_, c.in_ok-mark.ensures.reads, (_, c.in_ok-name.ensures.reads, c.in_ok-serve.ensures.reads)))
    (goes (λ z. (record a.a_chain { name = name; serve = serve; args = z }, a.mark k.CloseBrace ∷ [], λ b m tail h d. (h.0, h.1, (h.2.0, h.2.1, (m, h.2.2, (_, d, (_, refl, (_, refl, (0, refl, refl))))))))))
    (blames (λ b m near h none. args_failed name serve b m h none))
    (head_kept name serve) args_kept

pub returns-in_err-vars-clause-reads : goal.returns-in_err-vars-clause-reads
returns-in_err-vars-clause-reads c =
    let name = c.in_ok-name.name in
    let serve = c.in_ok-serve.serve in
    let args = c.in_ok-args.args in
    unread_flat (g.chain_within SamePlace) 64 _ _ c.from_residual-in_err-vars.ensures.1 c.in_err-vars.ensures.reads
    (read (head_front name serve) (_, c.in_ok-mark.ensures.reads, (_, c.in_ok-name.ensures.reads, c.in_ok-serve.ensures.reads)) also all_read (g.argument SamePlace) k.Arg fronts.argument args _ _ c.in_ok-args.ensures.reads)
    (goes (λ z. (
      record a.a_chain { name = name; serve = serve; args = args; vars = z },
      a.mark k.CloseBrace ∷ [],
      λ b m tail h d. let n = h.1 in (n.0, n.1, (n.2.0, n.2.1, (h.0, n.2.2, (m, h.2, (_, d, (_, refl, (0, refl, refl))))))),
    )))
    (blames (λ b m near h none. vars_failed name serve b h.0 h.1 args m h.2 none))
    (head_kept name serve then args_kept args) vars_kept

pub returns-in_err-body-clause-reads : goal.returns-in_err-body-clause-reads
returns-in_err-body-clause-reads c =
    let name = c.in_ok-name.name in
    let serve = c.in_ok-serve.serve in
    let args = c.in_ok-args.args in
    let vars = c.in_ok-vars.vars in
    unread_deep (g.chain_within SamePlace) statements 64 64 _ _ c.from_residual-in_err-body.ensures.1 c.in_err-body.ensures.reads
    (read (head_front name serve) (_, c.in_ok-mark.ensures.reads, (_, c.in_ok-name.ensures.reads, c.in_ok-serve.ensures.reads)) also (all_read (g.argument SamePlace) k.Arg fronts.argument args _ _ c.in_ok-args.ensures.reads
    also all_read (g.variable SamePlace) k.Var fronts.variable vars _ _ c.in_ok-vars.ensures.reads))
    (goes (λ z. (
      record a.a_chain { name = name; serve = serve; args = args; vars = vars; body = z },
      a.mark k.CloseBrace ∷ [],
      λ b m tail h d. let n = h.1 in (n.0, n.1, (n.2.0, n.2.1, (h.0, n.2.2, (h.2.0, h.2.1, (m, h.2.2, (_, d, (0, refl, refl))))))),
    )))
    (blames (λ b m near h none. body_failed name serve b h.0 h.1 args h.2.0 h.2.1 vars m h.2.2 none))
    (head_kept name serve then (args_kept args then vars_kept vars))

-- the brace is there
pub returns-in_err-mark-2-clause-reads : goal.returns-in_err-mark-2-clause-reads
returns-in_err-mark-2-clause-reads c =
    let statements = c.in_ok-body.ensures.reads in
    let next = mark_next k.CloseBrace c.body.new.reader tt (subst (λ l. kind_at 0 l ≡ Some k.CloseBrace) statements.2.0 statements.2.1) in
    unread_none _ _ _ _ c.from_residual-in_err-mark-2.ensures.1 c.in_err-mark-2.ensures.reads (λ none. none.rejects tt _ next)

-- one part behind the other
pub returns-clause-reads : goal.returns-clause-reads
returns-clause-reads c =
    let args = c.in_ok-args.ensures.reads in
    let vars = c.in_ok-vars.ensures.reads in
    let body = c.in_ok-body.ensures.reads in
    let close = c.in_ok-mark-2.ensures.reads in (
      _,
      c.in_ok-mark.ensures.reads,
      (
        _,
        c.in_ok-name.ensures.reads,
        (
          _,
          c.in_ok-serve.ensures.reads,
          (_, all_of (g.argument SamePlace) k.Arg _ _ _ args, (_, all_of (g.variable SamePlace) k.Var _ _ _ vars, (_, body_of 64 _ _ _ body, closing _ _ _ c.place-close.ensures close))),
        ),
      ),
    )
