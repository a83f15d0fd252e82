-- A run of the machines accounts for a run of the adapter.
use Rattle.std.specs.Prelude.{◌≡◌, ℕ, ◌+◌, ◌<◌, ◌≤◌, true, ◌==◌, if◌then◌else◌, List, [], ◌∷◌}
use Rattle.std.specs.List.{All}
use Rattle.redn_words.specs.declared.types.Obs.{Obs}
use Rattle.redn_words.specs.declared.types.Action.{Action}
use Rattle.redn_words.specs.Runs.{reached, all_shown, useful_for}
use Rattle.redn_kernel.specs.Costs.{entry_cost}
use Rattle.redn_image.specs.Faithful.{IsClean, CanGoOn}
use Rattle.redn_image.proofs.Simulation.{AllRun, told, earned}
use Rattle.redn_proof_interleave.specs.Machines.{Many, many_running, many_step, many_tells, many_credit, many_after}
use Rattle.redn_proof_interleave.specs.Forms.{World, chains_of, awake, machine}

module _ (g : World) where
  abbrev pub Runs : Many g.M → List ℕ → Type 0
  Runs z turns =
      AllRun (Many g.M) (many_running g.M (machine g) (awake g)) (many_step g.M (machine g) (awake g)) (many_tells g.M (machine g) (awake g))
      (many_credit g.M (machine g) (awake g)) z turns

  abbrev pub after_turns : Many g.M → List ℕ → Many g.M
  after_turns z turns = many_after g.M (machine g) (awake g) z turns

  abbrev pub turns_tell : Many g.M → List ℕ → List Obs
  turns_tell z turns =
      told (Many g.M) (many_running g.M (machine g) (awake g)) (many_step g.M (machine g) (awake g)) (many_tells g.M (machine g) (awake g))
      (many_credit g.M (machine g) (awake g)) z turns

  abbrev pub turns_earn : ℕ → Many g.M → List ℕ → ℕ
  turns_earn c z turns =
      earned (Many g.M) (many_running g.M (machine g) (awake g)) (many_step g.M (machine g) (awake g)) (many_tells g.M (machine g) (awake g))
      (many_credit g.M (machine g) (awake g)) c z turns

  -- the costs of a chain's steps, each by the state before it
  abbrev pub costs : ℕ → Many g.M → List ℕ → ℕ
  costs c z [] = 0
  costs c z (d ∷ turns) = (if d == c then (machine g d).cost (z.at d) else 0) + costs c (many_step g.M (machine g) (awake g) z d) turns

  -- the first state of the machines
  pub record Begins (z : Many g.M) : Type 0 where
    pub at : (c : ℕ) → z.at c ≡ (g.form c).begin
    pub tables : g.Tables z.tables g.begin.memory

  -- a run of the machines accounts for a run of the adapter
  pub record ExplainsAll (z : Many g.M) (acts : List Action) (turns : List ℕ) : Type 0 where
    pub runs : Runs z turns
    pub shows_events : all_shown g.begin acts ≡ turns_tell z turns
    pub tables : g.Tables (after_turns z turns).tables (reached g.begin acts).memory
    pub variables : (c : ℕ) → c < chains_of g → (g.form c).Holds ((after_turns z turns).at c) (reached g.begin acts).memory
    pub clean : All IsClean (all_shown g.begin acts)
    pub few : (c : ℕ) → c < chains_of g → useful_for c g.begin acts ≤ entry_cost + (costs c z turns + (machine g c).cost ((after_turns z turns).at c))
    pub none : (c : ℕ) → chains_of g ≤ c → useful_for c g.begin acts ≡ 0
    pub goes_on : (c : ℕ) → many_running g.M (machine g) (awake g) (after_turns z turns) c ≡ true → CanGoOn (reached g.begin acts) c
