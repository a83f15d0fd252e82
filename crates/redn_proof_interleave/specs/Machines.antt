-- Abstract machines, one for each chain, that share tables and take turns.
use Rattle.std.specs.Prelude.{◌≡◌, ℕ, zero, suc, ◌+◌, ◌≤◌, Bool, false, not, ◌&&◌, ◌==◌, if◌then◌else◌, List, []}
use Rattle.redn_words.specs.declared.types.Obs.{Obs}
use Rattle.redn_words.specs.Runs.{shown_then}
use Rattle.redn_image.proofs.Simulation.{on}

abbrev pub Contents : Type 0
Contents = List (List ℕ)

-- what a step leaves and shows
pub record MachineTurn (M : Type 0) : Type 0 where
  pub tables : Contents
  pub state : M
  pub event : Obs

-- a chain by itself: under given contents of the tables it is deterministic. A step has a cost, which its state tells
pub record Machine (M : Type 0) : Type 0 where
  pub step : Contents → M → MachineTurn M
  pub ended : M → Bool
  pub cost : M → ℕ

-- n steps of one machine
module _ (M : Type 0) (k : Machine M) where
  abbrev pub run_tables : ℕ → Contents → M → Contents
  run_tables zero t x = t
  run_tables (suc n) t x = run_tables n (k.step t x).tables (k.step t x).state

  abbrev pub run_state : ℕ → Contents → M → M
  run_state zero t x = x
  run_state (suc n) t x = run_state n (k.step t x).tables (k.step t x).state

  abbrev pub run_events : ℕ → Contents → M → List Obs
  run_events zero t x = []
  run_events (suc n) t x = shown_then (k.step t x).event (run_events n (k.step t x).tables (k.step t x).state)

  -- the costs of the steps that are in hand after each
  abbrev pub run_cost : ℕ → Contents → M → ℕ
  run_cost zero t x = 0
  run_cost (suc n) t x = k.cost (k.step t x).state + run_cost n (k.step t x).tables (k.step t x).state

  abbrev pub AllGo : ℕ → Contents → M → Type 0
  AllGo zero t x = Unit {0}
  AllGo (suc n) t x = (k.ended x ≡ false) × AllGo n (k.step t x).tables (k.step t x).state

  -- some steps lead from x under t to y with u and show these events; what they bring is enough for `need` where there is `have`
  pub record Goes (t : Contents) (x : M) (events : List Obs) (u : Contents) (y : M) (need have : ℕ) : Type 0 where
    pub steps : ℕ
    pub go : AllGo steps t x
    pub telling : run_events steps t x ≡ events
    pub tables : run_tables steps t x ≡ u
    pub state : run_state steps t x ≡ y
    pub enough : need ≤ have + run_cost steps t x

-- all machines
pub record Many (M : Type 0) : Type 0 where
  pub tables : Contents
  pub at : ℕ → M

abbrev pub with_state : {M : Type 0} → (ℕ → M) → ℕ → M → ℕ → M
with_state at c x d = if d == c then x else at d

module _ (M : Type 0) (machine : ℕ → Machine M) (awake : ℕ → Bool) where
  abbrev pub many_running : Many M → ℕ → Bool
  many_running z c = awake c && not ((machine c).ended (z.at c))

  abbrev pub turn_of : Many M → ℕ → MachineTurn M
  turn_of z c = (machine c).step z.tables (z.at c)

  abbrev pub many_step : Many M → ℕ → Many M
  many_step z c = record { tables = (turn_of z c).tables; at = with_state z.at c (turn_of z c).state }

  abbrev pub many_tells : Many M → ℕ → Obs
  many_tells z c = (turn_of z c).event

  -- a turn is worth the cost of the step that is then in hand
  abbrev pub many_credit : Many M → ℕ → ℕ
  many_credit z c = (machine c).cost (turn_of z c).state

  abbrev pub many_after : Many M → List ℕ → Many M
  many_after z cs = on (Many M) many_running many_step many_tells many_credit z cs
