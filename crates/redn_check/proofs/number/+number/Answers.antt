use Rattle.std.proofs.Common.{rules, ap, sym, ◌∙◌, ◌≤◌, arith, map}
use Rattle.redn_syntax.specs.declared.tree.StmtKind.{out-StmtKind, the_lemmas}
use Rattle.redn_syntax.specs.declared.tree.Stmt as q
use Rattle.redn_syntax.specs.declared.tree.StmtKind.TheVariants.{outs-If, outs-Loop, outs-Repeat, outs-Reply}
use Rattle.redn_kernel.specs.declared.types.Kernel.TheVariants as k
use Rattle.redn_check.specs.Names.{table_names, variables}
use Rattle.redn_check.specs.Numbering.{kernel_of, word_of}
use Rattle.redn_check.specs.Rules.{number_faults}
use Rattle.redn_check.proofs.Numbered.{none_met, none_unmet, none_loop, none_repeat, none_at, count_fits, kernel_if, kernel_loop, kernel_repeat, kernel_reply}
use Rattle.redn_check.proofs.Gathered.{in_body}
use Rattle.redn_check.proofs.number.+number.Goals as goal

pub kernel-kernels-requires : goal.kernel-kernels-requires
kernel-kernels-requires t c =
    let i = c.in-If in
    (search (rules, the_lemmas, q.the_lemmas), ap (in_body number_faults) c.as_slice.ensures ∙ none_met number_faults c.args.s.now c.requires _ _ _ _ _ (ap out-StmtKind i.is ∙ outs-If _ _ _ _ _))

pub kernel-kernels-requires-in-If : goal.kernel-kernels-requires-in-If
kernel-kernels-requires-in-If t c =
    let i = c.in-If in
    (search (rules, the_lemmas, q.the_lemmas), ap (in_body number_faults) c.as_slice-in-If.ensures ∙ none_unmet number_faults c.args.s.now c.requires _ _ _ _ _ (ap out-StmtKind i.is ∙ outs-If _ _ _ _ _))

pub kernel-kernels-requires-in-Loop : goal.kernel-kernels-requires-in-Loop
kernel-kernels-requires-in-Loop t c =
    (search (rules, the_lemmas, q.the_lemmas), ap (in_body number_faults) c.as_slice-in-Loop.ensures ∙ none_loop number_faults c.args.s.now c.requires _ (ap out-StmtKind c.in-Loop.is ∙ outs-Loop _))

pub kernel-kernels-requires-in-Repeat : goal.kernel-kernels-requires-in-Repeat
kernel-kernels-requires-in-Repeat t c =
    (search (rules, the_lemmas, q.the_lemmas), ap (in_body number_faults) c.as_slice-in-Repeat.ensures ∙ none_repeat number_faults c.args.s.now c.requires _ _ (ap out-StmtKind c.in-Repeat.is ∙ outs-Repeat _ _))

pub kernel-overflow_cast-result : goal.kernel-overflow_cast-result
kernel-overflow_cast-result t c =
    let fits : c.in-Repeat.count.value ≤ 4294967295 = count_fits c.args.s.now c.requires _ _ (ap out-StmtKind c.in-Repeat.is ∙ outs-Repeat _ _) in
    omega arith

pub kernel-returns-in_ok-no-in-If : goal.kernel-returns-in_ok-no-in-If
kernel-returns-in_ok-no-in-If t c =
    let scope = c.args.numbers.now.scope in
    let tables = table_names scope.tables.now in
    let names = variables scope.chain.now in
    let met = c.in_ok-yes-in-If.ensures ∙ ap (map (kernel_of tables names)) c.as_slice.ensures in
    let unmet = c.in_ok-no-in-If.ensures ∙ ap (map (kernel_of tables names)) c.as_slice-in-If.ensures in
    (λ j. k.If c.in-If.wide (c.word.ensures j) (c.word-in-If.ensures j) (met j) (unmet j))
    ∙ sym (kernel_if tables names c.args.s.now _ _ _ _ _ (ap out-StmtKind c.in-If.is ∙ outs-If _ _ _ _ _))

pub kernel-returns-in_ok-body-in-Loop : goal.kernel-returns-in_ok-body-in-Loop
kernel-returns-in_ok-body-in-Loop t c =
    let scope = c.args.numbers.now.scope in
    let tables = table_names scope.tables.now in
    let names = variables scope.chain.now in
    let body = c.in_ok-body-in-Loop.ensures ∙ ap (map (kernel_of tables names)) c.as_slice-in-Loop.ensures in
    ap k.Loop body ∙ sym (kernel_loop tables names c.args.s.now _ (ap out-StmtKind c.in-Loop.is ∙ outs-Loop _))

pub kernel-returns-in_ok-body-in-Repeat : goal.kernel-returns-in_ok-body-in-Repeat
kernel-returns-in_ok-body-in-Repeat t c =
    let scope = c.args.numbers.now.scope in
    let tables = table_names scope.tables.now in
    let names = variables scope.chain.now in
    let body = c.in_ok-body-in-Repeat.ensures ∙ ap (map (kernel_of tables names)) c.as_slice-in-Repeat.ensures in
    ap (k.Repeat c.in-Repeat.count.value) body ∙ sym (kernel_repeat tables names c.args.s.now _ _ (ap out-StmtKind c.in-Repeat.is ∙ outs-Repeat _ _))

pub kernel-returns-in_ok-list-in-Reply : goal.kernel-returns-in_ok-list-in-Reply
kernel-returns-in_ok-list-in-Reply t c =
    let scope = c.args.numbers.now.scope in
    let names = variables scope.chain.now in
    let words = c.in_ok-list-in-Reply.ensures ∙ ap (map (word_of names)) c.as_slice-in-Reply.ensures in
    ap k.Reply words ∙ sym (kernel_reply (table_names scope.tables.now) names c.args.s.now _ (ap out-StmtKind c.in-Reply.is ∙ outs-Reply _))

pub kernels-kernel-requires : goal.kernels-kernel-requires
kernels-kernel-requires t c = (search (rules, the_lemmas, q.the_lemmas), none_at number_faults c.args.body.now _ c.s-item.result c.loop-s-test.true c.s-item.is c.requires)
