-- Where code leads that does nothing.
use Rattle.std.specs.Prelude.{◌≡◌, ℕ, ◌<◌, ◌≤◌, ◌⊎◌, Bool, true, List, length, reverse, Option, Some, None, slice_get}
use Rattle.redn_graph.specs.declared.types.Block.{Block}
use Rattle.redn_graph.specs.declared.build.Tail.{Tail}
use Rattle.redn_graph.specs.declared.build.Tail.TheVariants as tail
use Rattle.redn_graph.specs.Idle.{idle_code, idle_at, jumps}

-- a block leads past some that do nothing to one that does something
pub record Stops (blocks : List Block) (k l : ℕ) : Type 0 where
  pub count : ℕ
  pub leads : jumps blocks count k ≡ l
  pub works : idle_at blocks l ≡ None

-- each does, and leads to none past the end
pub record AllStop (blocks : List Block) : Type 0 where
  pub within : (k l : ℕ) → idle_at blocks k ≡ Some l → l < length blocks
  pub stops : (k : ℕ) → (l : ℕ) × Stops blocks k l

-- where a block leads that is made of a tail, if it does nothing else
abbrev pub tail_idle : Tail → Option ℕ
tail_idle (tail.To l) = Some l
tail_idle (tail.Open instrs end) = idle_code (reverse instrs.items) end

-- a tail is an open block that does something
abbrev pub Works : Tail → Type 0
Works (tail.To l) = ⊥
Works (tail.Open instrs end) = idle_code (reverse instrs.items) end ≡ None

-- or one of so many blocks
abbrev pub IsAmong : ℕ → Tail → Type 0
IsAmong n (tail.To l) = l < n
IsAmong n (tail.Open instrs end) = idle_code (reverse instrs.items) end ≡ None

abbrev pub TailStops : List Block → Tail → ℕ → Type 0
TailStops blocks (tail.To l) r = Stops blocks l r
TailStops blocks (tail.Open instrs end) r = ⊥

-- blocks were added
pub record Added (old new : List Block) : Type 0 where
  pub longer : length old ≤ length new
  pub kept : (l : ℕ) → l < length old → slice_get new l ≡ slice_get old l
  pub all_stop : AllStop new

-- and where the code does nothing it leads to what follows, or out by a break
pub record Onward (old new : List Block) (exit : ℕ) (before after : Tail) (idle breaks : Bool) : Type 0 where
  pub added : Added old new
  pub among : IsAmong (length new) after
  pub leads : (r : ℕ) → r < length old → TailStops new after r → ((idle ≡ true) × TailStops old before r) ⊎ ((breaks ≡ true) × Stops old exit r)

abbrev pub LeadsOn : List Block → List Block → ℕ → Tail → Tail → Bool → Bool → Type 0
LeadsOn old new exit before after idle breaks = AllStop old → IsAmong (length old) before → Onward old new exit before after idle breaks
