use Rattle.std.proofs.Common.{◌≡◌, take, fold}
use Rattle.redn_check.specs.Numbering.{placed, written}
use Rattle.redn_check.specs.Rules.{end_of}
use Rattle.redn_check.proofs.number.write_items.Given as goal

-- the items so far are written
abbrev pub invariant-loop-item : goal.invariant-loop-item
invariant-loop-item l = record {
  ended : l.end ≡ end_of (take l.item-index l.item-items);
  written : l.bytes ≡ fold written l.initial.bytes (placed (take l.item-index l.item-items));
}
