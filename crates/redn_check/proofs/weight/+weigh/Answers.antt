use Rattle.std.proofs.Common.{◌∙◌, ◌∷◌, [], ◌++◌, ap, take}
use Rattle.std.proofs.lemmas.List.{take_all}
use Rattle.redn_syntax.specs.declared.tree.StmtKind.{out-StmtKind}
use Rattle.redn_syntax.specs.declared.tree.StmtKind.TheVariants.{outs-If, outs-Loop, outs-Repeat}
use Rattle.redn_check.specs.Flow.{load_of}
use Rattle.redn_check.specs.Rules.{weight_at}
use Rattle.redn_check.proofs.Gathered.{no_blocks}
use Rattle.redn_check.proofs.Weighed.{own, in_body, weighed_if, weighed_loop, weighed_repeat, weighed_plain, weighed_more}
use Rattle.redn_check.proofs.weight.+weigh.Goals as goal

pub with_body-loop-s-preserved : goal.with_body-loop-s-preserved
with_body-loop-s-preserved t c = λ ws before.
    c.with_statement-sum.ensures (ws ++ in_body (take c.loop-s.s-index c.args.body.now)) (c.loop-s.invariant ws before) ∙ ap load_of (weighed_more ws c.args.body.now _ c.s-item.result c.loop-s-test.true c.s-item.is)

pub with_body-returns : goal.with_body-returns
with_body-returns t c = λ ws before.
    c.loop-s.invariant ws before ∙ ap (λ b. load_of (ws ++ in_body b)) (take_all _ c.args.body.now c.loop-s-test.false)

pub with_statement-returns-in-If : goal.with_statement-returns-in-If
with_statement-returns-in-If t c = λ ws before.
    let i = c.in-If in
    let s = c.args.s.now in
    let here = c.loaded-own.ensures ws before ∙ ap (λ w. load_of (ws ++ weight_at s.at w ∷ [])) c.own_weight.ensures.weight in
    let met = c.with_body-first.ensures (ws ++ own s ∷ []) here ∙ ap (λ b. load_of ((ws ++ own s ∷ []) ++ in_body b)) c.as_slice.ensures in
    let unmet = c.with_body.ensures ((ws ++ own s ∷ []) ++ in_body i.yes) met ∙ ap (λ b. load_of (((ws ++ own s ∷ []) ++ in_body i.yes) ++ in_body b)) c.as_slice-in-If.ensures in
    unmet ∙ ap load_of (weighed_if s ws i.wide i.left i.right i.yes i.no (ap out-StmtKind i.is ∙ outs-If _ _ _ _ _))

pub with_statement-returns-in-Loop : goal.with_statement-returns-in-Loop
with_statement-returns-in-Loop t c = λ ws before.
    let s = c.args.s.now in
    let here = c.loaded-own.ensures ws before ∙ ap (λ w. load_of (ws ++ weight_at s.at w ∷ [])) c.own_weight.ensures.weight in
    c.with_body-in-Loop.ensures (ws ++ own s ∷ []) here ∙ ap (λ b. load_of ((ws ++ own s ∷ []) ++ in_body b)) c.as_slice-in-Loop.ensures
    ∙ ap load_of (weighed_loop s ws _ (ap out-StmtKind c.in-Loop.is ∙ outs-Loop _))

pub with_statement-returns-in-Repeat : goal.with_statement-returns-in-Repeat
with_statement-returns-in-Repeat t c = λ ws before.
    let s = c.args.s.now in
    let here = c.loaded-own.ensures ws before ∙ ap (λ w. load_of (ws ++ weight_at s.at w ∷ [])) c.own_weight.ensures.weight in
    c.with_body-in-Repeat.ensures (ws ++ own s ∷ []) here ∙ ap (λ b. load_of ((ws ++ own s ∷ []) ++ in_body b)) c.as_slice-in-Repeat.ensures
    ∙ ap load_of (weighed_repeat s ws _ _ (ap out-StmtKind c.in-Repeat.is ∙ outs-Repeat _ _))

pub with_statement-returns-in_default : goal.with_statement-returns-in_default
with_statement-returns-in_default t c = λ ws before.
    let s = c.args.s.now in
    c.loaded-own.ensures ws before ∙ ap (λ w. load_of (ws ++ weight_at s.at w ∷ [])) c.own_weight.ensures.weight
    ∙ ap load_of (weighed_plain s ws (no_blocks s.kind c.in_default.not-If c.in_default.not-Loop c.in_default.not-Repeat))
