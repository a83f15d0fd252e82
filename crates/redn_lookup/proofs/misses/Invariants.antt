use Rattle.std.proofs.Common.{◌≡◌}
use Rattle.redn_lookup.specs.Lookup.{misses_of}
use Rattle.redn_lookup.proofs.misses.Given as goal

-- what is done from the last buckets on
abbrev pub invariant-loop-i : goal.invariant-loop-i
invariant-loop-i l = l.miss ≡ misses_of l.to l.table l.key l._i
