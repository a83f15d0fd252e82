use Rattle.std.proofs.Common.{◌≡◌, length}
use Rattle.redn_disasm.proofs.FieldLists.{ReadTo}
use Rattle.redn_disasm.proofs.fields.read_fields.Given as goal

abbrev pub invariant-loop-i : goal.invariant-loop-i
invariant-loop-i g l = record { size : length l.values ≡ g.row.N; read : ReadTo l.formats l.text l.values l.rest l.i }
