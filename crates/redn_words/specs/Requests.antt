-- A request in the 64 bytes of a slot.
use Rattle.std.specs.Prelude.{ℕ, ◌==◌, if◌then◌else◌, List, ◌++◌}
use Rattle.redn_words.specs.declared.types.Request.{Request}
use Rattle.redn_words.specs.declared.types.Opcode.{Opcode}
use Rattle.redn_words.specs.declared.types.Opcode.TheVariants as op
use Rattle.redn_words.specs.Words.{number, spelled}

-- the ten fields, each the number that its bytes spell
unfoldable pub decoded : List ℕ → Request
decoded slot =
    record {
      op = number 2 slot 0;
      id = number 6 slot 2;
      lkey = number 4 slot 8;
      rkey = number 4 slot 12;
      local = number 8 slot 16;
      remote = number 8 slot 24;
      length = number 8 slot 32;
      first = number 8 slot 40;
      second = number 8 slot 48;
      flags = number 8 slot 56;
    }

-- the 64 bytes that spell a request
unfoldable pub encoded : Request → List ℕ
encoded r =
    spelled 2 r.op ++ spelled 6 r.id ++ spelled 4 r.lkey ++ spelled 4 r.rkey ++ spelled 8 r.local ++ spelled 8 r.remote ++ spelled 8 r.length
    ++ spelled 8 r.first ++ spelled 8 r.second ++ spelled 8 r.flags

-- what an opcode's number names
unfoldable pub opcode_named : ℕ → Opcode
opcode_named n =
    if n == 0 then op.Noop else (
    if n == 1 then op.Write else (
    if n == 2 then op.Read else (
    if n == 3 then op.Cas else (
    if n == 4 then op.Add else (
    if n == 5 then op.Send else (
    if n == 6 then op.Wait else (if n == 7 then op.Enable else op.Undefined n)))))))

abbrev pub opcode_of : Request → Opcode
opcode_of r = opcode_named r.op
