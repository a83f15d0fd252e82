-- A sink in memory.
use Rattle.std.specs.Prelude.{ℕ, ◌+◌, ◌/◌, ◌≤◌, List, [], ◌++◌, length, take, Contains}
use Rattle.redn_outside.specs.Counts.{one_more}

pub record SinkState : Type 0 where
  pub written : List ℕ
  -- how many bytes it takes in all
  pub room : ℕ
  -- the numbers of the calls that fail
  pub fail : List ℕ
  -- the number of the next call
  pub calls : ℕ
  pub faults : ℕ

-- a sink to which nothing was written and that was not called yet
abbrev pub empty_sink : List ℕ → ℕ → SinkState
empty_sink fail room = record { written = []; room = room; fail = fail; calls = 0; faults = 0 }

-- the next call is one of those that fail
abbrev pub NextFails : SinkState → Type 0
NextFails s = Contains s.fail s.calls

-- the piece fits into the room that is left
abbrev pub Fits : SinkState → List ℕ → Type 0
Fits s piece = length s.written + length piece ≤ s.room

-- the sink after a put that wrote these bytes
abbrev pub after_put : SinkState → List ℕ → SinkState
after_put s bytes = record s { written = s.written ++ bytes; calls = one_more s.calls }

-- the sink after a failed put that wrote these bytes
abbrev pub after_fault : SinkState → List ℕ → SinkState
after_fault s bytes = record s { written = s.written ++ bytes; calls = one_more s.calls; faults = one_more s.faults }

-- the first half of a piece, rounded down
abbrev pub half : List ℕ → List ℕ
half piece = take (length piece / 2) piece
