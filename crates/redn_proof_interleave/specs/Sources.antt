-- What a machine has to do with its source chain.
use Rattle.std.specs.Prelude.{◌≡◌, ℕ, ◌+◌, ◌<◌, ◌≤◌, true, false, not, ◌&&◌, [], Some, None, slice_get}
use Rattle.redn_words.specs.Runs.{shown_then}
use Rattle.redn_kernel.specs.Costs.{step_worth, entry_cost}
use Rattle.redn_kernel.specs.Source.{ChainState, Source, first_does, chain_runs}
use Rattle.redn_proof_interleave.specs.Machines.{Contents, Machine, Goes, Many}
use Rattle.redn_proof_interleave.specs.Forms.{World, chains_of, awake, machine}

-- a source chain is a machine too, all of whose steps are worth the same
unfoldable pub source_machine : ℕ → Machine ChainState
source_machine c =
    record {
      step = λ t w. record { tables = (first_does c t w w.items).tables; state = (first_does c t w w.items).chain; event = (first_does c t w w.items).event };
      ended = λ w. not (chain_runs w);
      cost = λ w. step_worth;
    }

-- a world whose machines' states stand for source chains
pub record Sourced : Type 1 where
  pub world : World
  pub here : ℕ → world.M → ChainState  -- the source chain that a state of a machine stands for
  pub kept : ℕ → world.M → ℕ  -- what is left of the credits at a state, with its step already paid
  pub Fine : ℕ → world.M → Type 0  -- holds of all states that are reached

module _ (sourced : Sourced) where
  abbrev g : World
  g = sourced.world

  abbrev here : ℕ → g.M → ChainState
  here c x = sourced.here c x

  abbrev kept : ℕ → g.M → ℕ
  kept c x = sourced.kept c x

  abbrev Fine : ℕ → g.M → Type 0
  Fine c x = sourced.Fine c x

  -- the contract between a chain's machine and its source chain
  pub record Translates (c : ℕ) : Type 0 where
    pub step : (x : g.M) (t : Contents) → Fine c x → awake g c ≡ true → (machine g c).ended x ≡ false →
        Goes ChainState (source_machine c) t (here c x) (shown_then ((machine g c).step t x).event []) ((machine g c).step t x).tables
        (here c ((machine g c).step t x).state) ((machine g c).cost ((machine g c).step t x).state + kept c ((machine g c).step t x).state) (kept c x)
    pub fine : (x : g.M) (t : Contents) → Fine c x → (machine g c).ended x ≡ false → Fine c ((machine g c).step t x).state
    pub runs : (x : g.M) → Fine c x → awake g c ≡ true → chain_runs (here c x) ≡ not ((machine g c).ended x)
    pub pays : entry_cost + ((machine g c).cost (g.form c).begin + kept c (g.form c).begin) ≤ step_worth

  -- a source chain that is at a machine's state, or some silent steps before it
  pub record Stand (c : ℕ) (w : ChainState) (x : g.M) : Type 0 where
    pub vars : w.vars ≡ (here c x).vars
    pub runs : chain_runs w ≡ (awake g c && not ((machine g c).ended x))
    pub leads : awake g c ≡ true → (t : Contents) → Goes ChainState (source_machine c) t w [] t (here c x) 0 0
    pub fine : Fine c x

  pub record Same (z : Many g.M) (s : Source) : Type 0 where
    pub tables : s.tables ≡ z.tables
    pub each : (c : ℕ) → c < chains_of g → (w : ChainState) × (slice_get s.chains c ≡ Some w) × Stand c w (z.at c)
    pub past : (c : ℕ) → chains_of g ≤ c → slice_get s.chains c ≡ None
