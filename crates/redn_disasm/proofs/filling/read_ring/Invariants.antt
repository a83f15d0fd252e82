use Rattle.std.proofs.Common.{◌≤◌, ◌+◌, List, length}
use Rattle.redn_image.specs.Rules.{Numbers}
use Rattle.redn_disasm.specs.Assembly.{Place}
use Rattle.redn_disasm.proofs.Slots.{Slots}
use Rattle.redn_disasm.proofs.filling.read_ring.Given as goal

abbrev pub invariant-loop-i : goal.invariant-loop-i
invariant-loop-i l =
    record {
      low : l.line + length l.rest ≤ l.first + length l.text;
      goes : (n : Numbers) (others : List Place) → Slots l.first l.text l.k l.row.base l.row.slots l.fn.memory l.line l.rest l.memory l.i n others;
    }
