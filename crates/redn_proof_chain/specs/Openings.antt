-- What the windows of an instruction or an end cost.
use Rattle.std.specs.Prelude.{ℕ, zero, suc, ◌+◌, ◌*◌, List, length}
use Rattle.redn_recycle.specs.Laps.{Ring, bodies_of, gates_of}
use Rattle.redn_proof_block.specs.Shares.{left_in}

-- the useful actions of a segment's window, at most: four for each draft and lap request, two for each gate
abbrev pub opening_cost : ℕ → Ring → ℕ → ℕ
opening_cost number r j = 4 * length (bodies_of number r j) + 2 * gates_of number r j

-- those of n segments, from segment j on
abbrev pub openings_cost : ℕ → Ring → ℕ → ℕ → ℕ
openings_cost number r j zero = 0
openings_cost number r j (suc n) = opening_cost number r j + openings_cost number r (suc j) n

-- of the segments behind segment j in its part
abbrev pub later_cost : ℕ → Ring → List ℕ → ℕ → ℕ
later_cost number r ns j = openings_cost number r (suc j) (left_in ns j)
