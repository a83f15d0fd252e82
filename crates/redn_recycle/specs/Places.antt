-- What is kept of a ring while it gets its laps.
use Rattle.std.specs.Prelude.{◌≡◌, ℕ, suc, ◌+◌, Bool, List, length, map}
use Rattle.std.specs.List.{range_with_len}
use Rattle.redn_segment.specs.declared.types.Draft.{Draft}
use Rattle.redn_recycle.specs.Lapped.{MayGoRound, sends_last, start_of, first_of}

pub record Whole : Type 0 where
  pub ring : ℕ
  pub segments : List (List Draft)

-- where each segment ends without laps, and where each begins with them, the end of the ring behind
pub record ArePlaces (ring : ℕ) (segments : List (List Draft)) (sends : Bool) (ends firsts : List ℕ) : Type 0 where
  pub may : MayGoRound segments ring
  pub sends_is : sends ≡ sends_last segments
  pub ends_are : ends ≡ map (λ (j : ℕ). start_of segments (suc j)) (range_with_len 0 (length segments))
  pub firsts_are : firsts ≡ map (first_of segments) (range_with_len 0 (length segments + 1))
