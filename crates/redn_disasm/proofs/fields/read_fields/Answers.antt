use Rattle.std.proofs.Common.{sym, ◌∙◌, arith, rules}
use Rattle.std.proofs.lemmas.List.{length-replicate}
use Rattle.std.specs.Cmp.Lexicographic.{bytes_decides}
use Rattle.redn_disasm.specs.declared.formats.Format.TheVariants.{Hex}
use Rattle.redn_disasm.proofs.FieldLists.{next_is, no_text, read_all, read_more, read_none}
use Rattle.redn_disasm.proofs.fields.read_fields.Goals as goal

pub loop-i-init : goal.loop-i-init
loop-i-init g c = record { size = length-replicate g.row.N 0; read = read_none c.args.formats.now c.args.text.now _ }

pub returns-in_default-clause-none : goal.returns-in_default-clause-none
returns-in_default-clause-none g c = λ values h.
    let first = next_is c.args.formats.now c.args.text.now c.loop-i.values c.loop-i.rest.now values c.loop-i.i Hex (omega (arith, c.told-formats)) c.loop-i.invariant.read h in
    c.in_default.ensures.none first.field first.behind first.cut

pub returns-in_default-read_field-clause-none : goal.returns-in_default-read_field-clause-none
returns-in_default-read_field-clause-none g c = no_text c.args.formats.now c.args.text.now c.loop-i.values c.loop-i.rest.now c.in-Some.field.now c.in-Some.behind.now c.loop-i.i _ (omega (arith, c.told-formats)) c.loop-i.invariant.read c.in-Some.ensures.found c.in_default-read_field.ensures.none

pub loop-i-preserved : goal.loop-i-preserved
loop-i-preserved g c = record {
  size = search rules;
  read = read_more c.args.formats.now c.args.text.now c.loop-i.values c.loop-i.rest.now c.in-Some.field.now c.in-Some.behind.now c.loop-i.i c.in-Some-read_field.value _ (omega (arith, c.told-formats)) (omega (arith, c.told-formats, c.loop-i.invariant.size)) c.loop-i.invariant.read c.in-Some.ensures.found c.in-Some-read_field.ensures.found;
}

pub returns-then-eq-clause-found : goal.returns-then-eq-clause-found
returns-then-eq-clause-found g c = read_all c.args.formats.now c.args.text.now c.loop-i.values c.loop-i.rest.now c.loop-i.i (omega (arith, c.told-formats)) (omega (arith, c.told-formats, c.loop-i.invariant.size)) c.loop-i.invariant.read ((bytes_decides _ _).0 (sym c.eq.ensures ∙ c.if-eq.true) ∙ c.as_slice.ensures)
