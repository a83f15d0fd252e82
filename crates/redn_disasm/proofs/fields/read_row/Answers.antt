use Rattle.redn_disasm.proofs.FieldLists.{fields_fit, no_fields, no_row, word_first}
use Rattle.redn_disasm.proofs.fields.read_row.Goals as goal

pub returns-in_default-clause-none : goal.returns-in_default-clause-none
returns-in_default-clause-none g c = λ values h. no_row c.args.line.now c.args.word.now values c.args.formats.now c.in_default.ensures.cases h

pub returns-in-Some-read_fields-clause-found : goal.returns-in-Some-read_fields-clause-found
returns-in-Some-read_fields-clause-found g c = (c.in-Some.rest.now, word_first c.args.line.now c.args.word.now c.in-Some.rest.now c.in-Some.ensures.cases.0 c.in-Some.ensures.cases.1, c.in-Some-read_fields.ensures.found)

pub returns-in-None-clause-none : goal.returns-in-None-clause-none
returns-in-None-clause-none g c = λ values h. no_fields c.args.line.now c.args.word.now c.in-Some.rest.now values c.args.formats.now c.in-Some.ensures.cases.1 c.in-None.ensures.none h

pub returns-in-Some-read_fields-clause-fit : goal.returns-in-Some-read_fields-clause-fit
returns-in-Some-read_fields-clause-fit g c = fields_fit c.args.formats.now c.in-Some.rest.now _ c.in-Some-read_fields.ensures.found
