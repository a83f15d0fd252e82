-- How far a chain of the generated file is: its state, and the stage behind each step.
use Rattle.std.proofs.Common.{arith, ◌≡◌, ℕ, zero, suc, ◌+◌, ◌*◌, ◌≤◌, Bool, true, false, List, [], ◌∷◌, Some, refl, ap, ◌∙◌}
use Rattle.redn_words.specs.declared.types.Obs.{Obs}
use Rattle.redn_words.specs.declared.types.Obs.TheVariants as shows
use Rattle.redn_kernel.specs.declared.types.Word.TheVariants.{Var, Num}
use Rattle.redn_kernel.specs.declared.types.Kernel.TheVariants as k
use Rattle.redn_kernel.specs.Source.{Item, TakeArgument, Do, AgainRepeat, Find, Take, ChainState, eight, do_all}
use Rattle.redn_gen.proofs.Numbered.{turn_done, body_done}

-- x, s and i are the variables, and so many turns of the repeat are left behind this one
pub data Stage : Type 0 where
  First : Stage  -- no argument is taken
  Second : Stage  -- one is taken
  Entry : Stage  -- both are taken
  Looks : (x s i left : ℕ) → Stage  -- a turn begins
  Finds : (x s i left : ℕ) → Stage
  Takes : (x s i left : ℕ) → Stage
  Sums : (s i left : ℕ) → Stage
  Counts : (s i left : ℕ) → Stage
  Again : (s i left : ℕ) → Stage  -- a turn is done
  Answers : (s i : ℕ) → Stage
  Over : (s i : ℕ) → Stage

-- how many steps are behind
abbrev pub steps : Stage → ℕ
steps First = 0
steps Second = 1
steps Entry = 2
steps (Looks x s i left) = 3 + 6 * i
steps (Finds x s i left) = 4 + 6 * i
steps (Takes x s i left) = 5 + 6 * i
steps (Sums s i left) = 6 + 6 * i
steps (Counts s i left) = 7 + 6 * i
steps (Again s i left) = 2 + 6 * i
steps (Answers s i) = 6003
steps (Over s i) = 6004

-- how many events they have shown
abbrev pub shown : Stage → ℕ
shown First = 0
shown Second = 1
shown Entry = 2
shown (Looks x s i left) = 2 + 4 * i
shown (Finds x s i left) = 2 + 4 * i
shown (Takes x s i left) = 3 + 4 * i
shown (Sums s i left) = 4 + 4 * i
shown (Counts s i left) = 5 + 4 * i
shown (Again s i left) = 2 + 4 * i
shown (Answers s i) = 4002
shown (Over s i) = 4003

abbrev pub is_over : Stage → Bool
is_over (Over s i) = true
is_over _ = false

-- v is the value that each turn finds
module _ (v : ℕ) where
  -- the stage behind a step
  abbrev pub next : Stage → Stage
  next First = Second
  next Second = Entry
  next Entry = Looks 0 0 0 999
  next (Looks x s i left) = Finds x s i left
  next (Finds x s i left) = Takes x s i left
  next (Takes x s i left) = Sums s i left
  next (Sums s i left) = Counts (s + v) i left
  next (Counts s i left) = Again s (i + 1) left
  next (Again s i zero) = Answers s i
  next (Again s i (suc left)) = Looks v s i left
  next (Answers s i) = Over s i
  next (Over s i) = Over s i

  -- what holds of the numbers of a stage
  abbrev pub IsAt : Stage → Type 0
  IsAt First = Unit {0}
  IsAt Second = Unit {0}
  IsAt Entry = Unit {0}
  IsAt (Looks x s i left) = (s ≡ i * v) × (i + left ≡ 999)
  IsAt (Finds x s i left) = (s ≡ i * v) × (i + left ≡ 999)
  IsAt (Takes x s i left) = (s ≡ i * v) × (i + left ≡ 999)
  IsAt (Sums s i left) = (s ≡ i * v) × (i + left ≡ 999)
  IsAt (Counts s i left) = (s ≡ i * v + v) × (i + left ≡ 999)
  IsAt (Again s i left) = (s ≡ i * v) × (i + left ≡ 1000)
  IsAt (Answers s i) = (s ≡ 1000 * v) × (i ≡ 1000)
  IsAt (Over s i) = (s ≡ 1000 * v) × (i ≡ 1000)

  pub next_at : (p : Stage) → IsAt p → IsAt (next p)
  next_at First h = tt
  next_at Second h = tt
  next_at Entry h = (omega arith, refl)
  next_at (Looks x s i left) h = h
  next_at (Finds x s i left) h = h
  next_at (Takes x s i left) h = h
  next_at (Sums s i left) h = (ap (λ n. n + v) h.0, h.1)
  next_at (Counts s i left) h = (let more : i * v + v ≡ (i + 1) * v = omega arith in h.0 ∙ more, omega (arith, h.1))
  next_at (Again s i zero) h = let all : i ≡ 1000 = omega (arith, h.1) in (h.0 ∙ ap (λ n. n * v) all, all)
  next_at (Again s i (suc left)) h = (h.0, omega (arith, h.1))
  next_at (Answers s i) h = h
  next_at (Over s i) h = h

  -- one more step is behind
  pub steps_next : (p : Stage) → IsAt p → is_over p ≡ false → steps (next p) ≡ steps p + 1
  steps_next First h on = refl
  steps_next Second h on = refl
  steps_next Entry h on = refl
  steps_next (Looks x s i left) h on = omega arith
  steps_next (Finds x s i left) h on = omega arith
  steps_next (Takes x s i left) h on = omega arith
  steps_next (Sums s i left) h on = omega arith
  steps_next (Counts s i left) h on = omega arith
  steps_next (Again s i zero) h on = omega (arith, h.1)
  steps_next (Again s i (suc left)) h on = omega arith
  steps_next (Answers s i) h on = refl
  steps_next (Over s i) h on = cc

pub few_steps : (v : ℕ) (p : Stage) → IsAt v p → steps p ≤ 6004
few_steps v First h = omega arith
few_steps v Second h = omega arith
few_steps v Entry h = omega arith
few_steps v (Looks x s i left) h = omega (arith, h.1)
few_steps v (Finds x s i left) h = omega (arith, h.1)
few_steps v (Takes x s i left) h = omega (arith, h.1)
few_steps v (Sums s i left) h = omega (arith, h.1)
few_steps v (Counts s i left) h = omega (arith, h.1)
few_steps v (Again s i left) h = omega (arith, h.1)
few_steps v (Answers s i) h = omega arith
few_steps v (Over s i) h = omega arith

-- what is left to do behind a turn
abbrev pub behind : ℕ → List Item
behind left = AgainRepeat left turn_done ∷ Do (k.Reply (Var 3 ∷ Var 4 ∷ [])) ∷ []

-- the two additions, and what is left behind them
abbrev pub summed : ℕ → List Item
summed left = Do (k.Add 3 (Var 2)) ∷ Do (k.Add 4 (Num 1)) ∷ behind left

-- the offset and the key of a chain's message, and the value that is found there
module _ (o key v : ℕ) where
  abbrev pub with_vars : List ℕ → List Item → ChainState
  with_vars vars items = record { vars = vars; message = Some (o ∷ key ∷ []); items = items; ended = false }

  abbrev pub doing : ℕ → ℕ → ℕ → List Item → ChainState
  doing x s i items = with_vars (o ∷ key ∷ x ∷ s ∷ i ∷ []) items

  abbrev pub state_of : Stage → ChainState
  state_of First = with_vars (0 ∷ 0 ∷ 0 ∷ 0 ∷ 0 ∷ []) (TakeArgument 0 ∷ TakeArgument 1 ∷ do_all body_done)
  state_of Second = with_vars (o ∷ 0 ∷ 0 ∷ 0 ∷ 0 ∷ []) (TakeArgument 1 ∷ do_all body_done)
  state_of Entry = doing 0 0 0 (do_all body_done)
  state_of (Looks x s i left) = doing x s i (Do (k.Lookup 2 0 (Var 0) (Var 1) 2) ∷ summed left)
  state_of (Finds x s i left) = doing x s i (Find 2 0 o (Var 1) 2 ∷ summed left)
  state_of (Takes x s i left) = doing x s i (Take 2 0 (o + 8) ∷ summed left)
  state_of (Sums s i left) = doing v s i (summed left)
  state_of (Counts s i left) = doing v s i (Do (k.Add 4 (Num 1)) ∷ behind left)
  state_of (Again s i left) = doing v s i (behind left)
  state_of (Answers s i) = doing v s i (Do (k.Reply (Var 3 ∷ Var 4 ∷ [])) ∷ [])
  state_of (Over s i) =
      record { vars = o ∷ key ∷ v ∷ s ∷ i ∷ []; message = Some (o ∷ key ∷ []); items = Do (k.Reply (Var 3 ∷ Var 4 ∷ [])) ∷ []; ended = true }

  -- what a step of chain c shows
  abbrev pub event_of : ℕ → Stage → Obs
  event_of c First = shows.Set c 0 o
  event_of c Second = shows.Set c 1 key
  event_of c Entry = shows.Nothing
  event_of c (Looks x s i left) = shows.Nothing
  event_of c (Finds x s i left) = shows.Look c 0 o key
  event_of c (Takes x s i left) = shows.Load c 2 0 (o + 8) v
  event_of c (Sums s i left) = shows.Set c 3 (s + v)
  event_of c (Counts s i left) = shows.Set c 4 (i + 1)
  event_of c (Again s i left) = shows.Nothing
  event_of c (Answers s i) = shows.Reply c 2 (eight (s ∷ i ∷ []))
  event_of c (Over s i) = shows.Nothing
