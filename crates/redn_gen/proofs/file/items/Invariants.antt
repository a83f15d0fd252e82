use Rattle.std.proofs.Common.{◌≡◌, map}
use Rattle.std.specs.List.{flat_map}
use Rattle.redn_gen.specs.Generated.{below, bucket, word}
use Rattle.redn_gen.proofs.file.items.Given as goal

-- the words of the buckets so far
abbrev pub invariant-loop-bucket : goal.invariant-loop-bucket
invariant-loop-bucket l = l.items ≡ map word (flat_map (bucket l.n) (below l.bucket))
