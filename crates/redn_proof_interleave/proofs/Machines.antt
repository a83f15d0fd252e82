-- Runs of one machine among all.
use Rattle.std.proofs.Common.{◌≡◌, ◌≢◌, ℕ, zero, suc, ◌+◌, ◌<◌, Bool, true, false, ◌==◌, replicate, refl, sym, ap, subst, ◌∙◌, arith}
use Rattle.std.proofs.lemmas.Bool.{eq-eqb, eqb-true, false_from_ne_true}
use Rattle.redn_words.specs.Runs.{shown_then}
use Rattle.redn_image.proofs.Simulation.{AllRun, told, earned}
use Rattle.redn_proof_interleave.specs.Machines.{Machine, run_tables, run_state, run_events, run_cost, AllGo, Many, with_state, many_running, turn_of, many_step, many_tells, many_credit, many_after}

module _ (M : Type 0) (machine : ℕ → Machine M) (awake : ℕ → Bool) where
  -- n turns of one chain are n steps of its machine
  pub record Alone (c : ℕ) (z : Many M) (n : ℕ) : Type 0 where
    pub running : AllRun (Many M) (many_running M machine awake) (many_step M machine awake) (many_tells M machine awake) (many_credit M machine awake) z (replicate n c)
    pub tables : (many_after M machine awake z (replicate n c)).tables ≡ run_tables M (machine c) n z.tables (z.at c)
    pub state : (many_after M machine awake z (replicate n c)).at c ≡ run_state M (machine c) n z.tables (z.at c)
    pub others : (d : ℕ) → d ≢ c → (many_after M machine awake z (replicate n c)).at d ≡ z.at d
    pub telling : told (Many M) (many_running M machine awake) (many_step M machine awake) (many_tells M machine awake) (many_credit M machine awake) z (replicate n c) ≡ run_events M (machine c) n z.tables (z.at c)
    pub earns : earned (Many M) (many_running M machine awake) (many_step M machine awake) (many_tells M machine awake) (many_credit M machine awake) c z (replicate n c) ≡ run_cost M (machine c) n z.tables (z.at c)

  runs_now : (c : ℕ) (z : Many M) → awake c ≡ true → (machine c).ended (z.at c) ≡ false → many_running M machine awake z c ≡ true
  runs_now c z woken more = rw (woken, more) refl

  pub alone : (c : ℕ) (n : ℕ) (z : Many M) → (0 < n → awake c ≡ true) → AllGo M (machine c) n z.tables (z.at c) → Alone c z n
  alone c zero z woken go = record { running = tt; tables = refl; state = refl; others = λ d ne. refl; telling = refl; earns = refl }
  alone c (suc n) z woken go =
      let same : (c == c) ≡ true = eq-eqb c c refl in
      let its : (many_step M machine awake z c).at c ≡ (turn_of M machine awake z c).state = rw same refl in
      let rest = alone c n (many_step M machine awake z c) (λ l. woken (omega arith)) (subst (λ x. AllGo M (machine c) n (turn_of M machine awake z c).tables x) (sym its) go.1) in
      record {
        running = (runs_now c z (woken (omega arith)) go.0, rest.running);
        tables = rest.tables ∙ ap (λ x. run_tables M (machine c) n (turn_of M machine awake z c).tables x) its;
        state = rest.state ∙ ap (λ x. run_state M (machine c) n (turn_of M machine awake z c).tables x) its;
        others = λ d ne. rest.others d ne ∙ elsewhere d (turn_of M machine awake z c).state ne;
        telling = ap (shown_then (turn_of M machine awake z c).event) (rest.telling ∙ ap (λ x. run_events M (machine c) n (turn_of M machine awake z c).tables x) its);
        earns = let more = rest.earns ∙ ap (λ x. run_cost M (machine c) n (turn_of M machine awake z c).tables x) its in rw same (ap (λ m. (machine c).cost (turn_of M machine awake z c).state + m) more);
      }
    where
      elsewhere : (d : ℕ) (x : M) → d ≢ c → with_state z.at c x d ≡ z.at d
      elsewhere d x ne = let apart : (d == c) ≡ false = false_from_ne_true (d == c) (λ t. ne (eqb-true d c t)) in rw apart refl
