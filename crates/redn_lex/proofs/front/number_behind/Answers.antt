use Rattle.std.proofs.Common.{arith, sym, ap, ◌∙◌}
use Rattle.std.proofs.lemmas.List.{take_rest}
use Rattle.redn_syntax.specs.Bytes.{is_name_byte}
use Rattle.redn_lex.proofs.Runs.{digits_pass, number_within, number_front, number_bad, number_over}
use Rattle.redn_lex.proofs.front.number_behind.Goals as goal

pub overflow_add-len : goal.overflow_add-len
overflow_add-len c =
    let text = c.args.text.now in
    let within = number_within text c.args.skip c.args.base c.digits_len-count.result _ (take_rest text c.args.skip) c.requires.digit c.requires.begins c.digits_len-count.ensures in
    omega (arith, c.requires.short)

pub value_of-requires-clause-digits : goal.value_of-requires-clause-digits
value_of-requires-clause-digits c =
    digits_pass c.args.text.now c.args.skip c.args.base c.digits_len-count.result _ (take_rest c.args.text.now c.args.skip) c.requires.digit c.requires.begins c.digits_len-count.ensures

pub returns-in_default : goal.returns-in_default
returns-in_default c =
    number_over c.args.text.now c.args.skip c.args.base c.digits_len-count.result _ (take_rest c.args.text.now c.args.skip) c.requires.digit c.requires.begins c.digits_len-count.ensures c.in_default.field-0 c.in_default.ensures.wide

pub returns-then-is_name_byte : goal.returns-then-is_name_byte
returns-then-is_name_byte c =
    number_bad c.args.text.now c.args.skip c.args.base c.digits_len-count.result _ (take_rest c.args.text.now c.args.skip) c.requires.digit c.requires.begins c.digits_len-count.ensures c.in-Ok.value c.in-Ok.ensures.value c.in-Ok.ensures.fits (ap is_name_byte (sym c.byte_at.ensures) ∙ sym c.is_name_byte.ensures ∙ c.if-is_name_byte.true)

pub returns : goal.returns
returns c =
    number_front c.args.text.now c.args.skip c.args.base c.digits_len-count.result _ (take_rest c.args.text.now c.args.skip) c.requires.digit c.requires.begins c.digits_len-count.ensures c.in-Ok.value c.in-Ok.ensures.value c.in-Ok.ensures.fits (ap is_name_byte (sym c.byte_at.ensures) ∙ sym c.is_name_byte.ensures ∙ c.if-is_name_byte.false)
