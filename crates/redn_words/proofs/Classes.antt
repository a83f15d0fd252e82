-- A request by what its start asks for.
use Rattle.std.proofs.Common.{◌≡◌, ap}
use Rattle.redn_words.specs.declared.types.Request.{Request}
use Rattle.redn_words.specs.declared.types.Opcode.{Opcode}
use Rattle.redn_words.specs.Requests.{opcode_of}
use Rattle.redn_words.specs.Steps.{class_by, class_of}

-- the class of an opcode that is known
pub class_is : (r : Request) (o : Opcode) → opcode_of r ≡ o → class_of r ≡ class_by o
class_is r o e = ap class_by e
