use Rattle.std.proofs.Common.{◌≡◌, ◌∙◌, rules, ap, ap₂, true, false}
use Rattle.std.proofs.lemmas.Result.{IfOk-weaker}
use Rattle.clap.specs.Simple.{Shape, app_of, app_of_fields, on_top, with_rule}
use Rattle.clap.specs.Walk.{rule_of}
use Rattle.redn_command.specs.Lines.{bare_app, option_rule, positions_rule}
use Rattle.redn_command.proofs.line.line_command.Goals as goal

pub returns : goal.returns
returns c =
    let positions_are : rule_of c.action-positions.result ≡ positions_rule = search rules in
    let no_help = λ (s : Shape). record s { disable_help_flag = true } in
    let no_name = λ (s : Shape). record s { no_binary_name = true } in
    let bare : app_of c.disable_help_flag.result ≡ bare_app =
    ap app_of_fields c.disable_help_flag.ensures ∙ ap (on_top no_help) (ap app_of_fields c.no_binary_name.ensures ∙ ap (on_top no_name) c.new-2.ensures.app) in
    let a = c.in_ok-arg.ensures.shape c.option_arg.ensures.local ∙ ap₂ with_rule bare (c.option_arg.ensures.rule ∙ ap option_rule c.name_of.ensures) in
    let b = c.in_ok-arg-2.ensures.shape c.option_arg-2.ensures.local ∙ ap₂ with_rule a (c.option_arg-2.ensures.rule ∙ ap option_rule c.name_of-2.ensures) in
    let d = c.in_ok-arg-3.ensures.shape c.option_arg-3.ensures.local ∙ ap₂ with_rule b (c.option_arg-3.ensures.rule ∙ ap option_rule c.name_of-3.ensures) in
    let e = c.in_ok-arg-4.ensures.shape c.option_arg-4.ensures.local ∙ ap₂ with_rule d (c.option_arg-4.ensures.rule ∙ ap option_rule c.name_of-4.ensures) in
    let f = c.in_ok-arg-5.ensures.shape c.option_arg-5.ensures.local ∙ ap₂ with_rule e (c.option_arg-5.ensures.rule ∙ ap option_rule c.name_of-5.ensures) in
    let local : c.action-positions.result.global ≡ false = search rules in
    IfOk-weaker c.arg-6.result _ _ (λ r h. h.shape local ∙ ap₂ with_rule f positions_are) c.arg-6.ensures
