use Rattle.std.proofs.Common.{◌≡◌, take}
use Rattle.std.specs.Prelude.{map}
use Rattle.std.specs.List.{All}
use Rattle.redn_block.specs.Blocks.{all_segments, instr_part, ring_start, InstrWords}
use Rattle.redn_block.proofs.blocks.block_ring.Given as goal

abbrev pub invariant-loop-instr : goal.invariant-loop-instr
invariant-loop-instr l =
    record {
      ring : l.builder.ring ≡ l.ring;
      made : l.builder.segments ≡ all_segments (ring_start l.ring) (map instr_part (take l.instr-index l.block.instrs));
      words : All InstrWords (take l.instr-index l.block.instrs);
    }
