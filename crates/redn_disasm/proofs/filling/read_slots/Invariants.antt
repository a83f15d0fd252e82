use Rattle.std.proofs.Common.{◌≡◌, ◌≤◌, ◌+◌, length}
use Rattle.redn_image.specs.Rules.{Numbers}
use Rattle.redn_disasm.specs.Assembly.{Filled}
use Rattle.redn_disasm.specs.Going.{GoesOn}
use Rattle.redn_disasm.proofs.Words.{places_left}
use Rattle.redn_disasm.proofs.filling.read_slots.Given as goal

abbrev pub invariant-loop-k : goal.invariant-loop-k
invariant-loop-k l =
    record {
      low : l.left.line + length l.left.text.now ≤ l.first + length l.text;
      size : length l.memory ≡ length l.fn.memory;
      goes : (n : Numbers) → GoesOn l.first (Filled n (places_left l.rows 0) l.fn.memory) l.text l.left.line (Filled n (places_left l.rows l.k) l.memory) l.left.text.now;
    }
