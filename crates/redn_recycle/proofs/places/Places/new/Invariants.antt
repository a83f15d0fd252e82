use Rattle.std.proofs.Common.{◌≡◌, ℕ, suc, ◌+◌, map}
use Rattle.std.specs.List.{range_with_len}
use Rattle.redn_recycle.specs.Lapped.{start_of, first_of}
use Rattle.redn_recycle.proofs.places.Places.new.Given as goal

-- the places of the segments so far
abbrev pub invariant-loop-j : goal.invariant-loop-j
invariant-loop-j l =
    record {
      end_is : l.end ≡ start_of l.s-items l.j;
      first_is : l.first ≡ first_of l.s-items l.j;
      ends_are : l.ends.items ≡ map (λ (j : ℕ). start_of l.s-items (suc j)) (range_with_len 0 l.j);
      firsts_are : l.firsts.items ≡ map (first_of l.s-items) (range_with_len 0 (l.j + 1));
    }
