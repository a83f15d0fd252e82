-- Where a request writes, whatever it reads.
use Rattle.std.specs.Prelude.{ℕ, List, [], ◌∷◌, ◌++◌, Result, Ok, Err}
use Rattle.redn_words.specs.declared.types.Region.{Region}
use Rattle.redn_words.specs.declared.types.Request.{Request}
use Rattle.redn_words.specs.declared.types.Spot.{Spot}
use Rattle.redn_words.specs.declared.types.Refusal.{Refusal}
use Rattle.redn_words.specs.declared.types.Opcode.{Opcode}
use Rattle.redn_words.specs.declared.types.Opcode.TheVariants.{Write, Read, Cas, Add}
use Rattle.redn_words.specs.Requests.{opcode_of}
use Rattle.redn_words.specs.Landings.{Place, local_side, remote_side}

abbrev pub place_at : Result Spot Refusal → ℕ → List Place
place_at (Err e) len = []
place_at (Ok s) len = record { at = s.at; len = len } ∷ []

-- where a request writes, whatever it reads
abbrev pub written_by : List Region → ℕ → Request → Opcode → List Place
written_by regions domain r Write = place_at (remote_side regions domain Write r) r.length
written_by regions domain r Read = place_at (local_side regions domain Read r) r.length
written_by regions domain r Cas = place_at (remote_side regions domain Cas r) 8 ++ place_at (local_side regions domain Cas r) 8
written_by regions domain r Add = place_at (remote_side regions domain Add r) 8 ++ place_at (local_side regions domain Add r) 8
written_by regions domain r _ = []

abbrev pub footprint : List Region → ℕ → Request → List Place
footprint regions domain r = written_by regions domain r (opcode_of r)
