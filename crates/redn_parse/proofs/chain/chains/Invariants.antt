use Rattle.std.proofs.Common.{◌≡◌, ◌⊎◌, ◌<◌, [], length}
use Rattle.redn_syntax.specs.Grammar as g
use Rattle.redn_syntax.specs.Grammar.{SamePlace}
use Rattle.redn_parse.proofs.chain.chains.Given as goal

-- those so far; behind one of them more must come
abbrev pub invariant-loop-chains : goal.invariant-loop-chains
invariant-loop-chains l = record {
  reads : g.each (g.chain_within SamePlace 64) l.chains l.initial.reader l.reader;
  more : (l.chains ≡ []) ⊎ (0 < length l.reader);
}

abbrev pub decreases-loop-chains : goal.decreases-loop-chains
decreases-loop-chains l = length l.reader
