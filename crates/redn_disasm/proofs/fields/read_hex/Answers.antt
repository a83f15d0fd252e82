use Rattle.std.proofs.Common.{arith}
use Rattle.redn_words.specs.Words.{number}
use Rattle.redn_disasm.proofs.FieldLists.{hex_read}
use Rattle.redn_disasm.proofs.fields.read_hex.Goals as goal

pub returns-in-Ok-clause-found : goal.returns-in-Ok-clause-found
unfolding number
returns-in-Ok-clause-found c = (hex_read c.args.text.now c.decode_to_slice.new.out c.decode_to_slice.result c.read_u64.result c.decode_to_slice.ensures.value c.in-Ok.is c.read_u64.ensures, omega arith)
