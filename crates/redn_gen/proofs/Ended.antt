-- From each stage of its chains some order of steps leads to where none can go on.
use Rattle.std.proofs.Common.{arith, ◌≡◌, ℕ, zero, suc, ◌+◌, ◌-◌, ◌≤◌, ◌⊎◌, inl, inr, Bool, true, false, List, [], ◌∷◌, Option, Some, None, refl, sym, ap, subst, ◌∙◌}
use Rattle.std.specs.Prelude.{slice_get, slice_set, not}
use Rattle.std.specs.Option.{option_map}
use Rattle.redn_words.specs.declared.types.Obs.{Obs}
use Rattle.redn_kernel.specs.Source.{Source, runs_there, EachRuns, source_after}
use Rattle.redn_gen.specs.Runs.{NoneRuns}
use Rattle.redn_gen.proofs.Stages.{Stage, steps, is_over, next, next_at, steps_next, few_steps}
use Rattle.redn_gen.proofs.Steps.{HasBucket}
use Rattle.redn_gen.proofs.Interleaved.{get_states, runs_until, chain_at, source, AllAt, stepped, all_next}
use Rattle.redn_gen.proofs.Foretold.{running}

-- how many steps all chains have before them
abbrev pub left : List Stage → ℕ
left [] = 0
left (p ∷ ps) = (6004 - steps p) + left ps

left_set : (ps : List Stage) (c : ℕ) (p q : Stage) → slice_get ps c ≡ Some p → left (slice_set ps c q) + (6004 - steps p) ≡ left ps + (6004 - steps q)
left_set [] c p q h = cc
left_set (r ∷ ps) zero p q h = let same : steps r ≡ steps p = let e : r ≡ p = cc in ap steps e in omega arith
left_set (r ∷ ps) (suc c) p q h = let rest = left_set ps c p q h in omega arith

-- a chain that can go on
record Running (ps : List Stage) : Type 0 where
  chain : ℕ
  stage : Stage
  there : slice_get ps chain ≡ Some stage
  on : is_over stage ≡ false

abbrev AllOver : List Stage → Type 0
AllOver ps = (c : ℕ) (p : Stage) → slice_get ps c ≡ Some p → is_over p ≡ true

one_or_none : (p : Stage) (ps : List Stage) (b : Bool) → is_over p ≡ b → Running ps ⊎ AllOver ps → Running (p ∷ ps) ⊎ AllOver (p ∷ ps)
one_or_none p ps false e rest = inl record { chain = 0; stage = p; there = refl; on = e }
one_or_none p ps true e (inl r) = inl record { chain = suc r.chain; stage = r.stage; there = r.there; on = r.on }
one_or_none p ps true e (inr over) = inr both
  where
    both : AllOver (p ∷ ps)
    both zero q h = let is : p ≡ q = cc in ap is_over (sym is) ∙ e
    both (suc c) q h = over c q h

some_or_none : (ps : List Stage) → Running ps ⊎ AllOver ps
some_or_none [] = inr (λ c p h. cc)
some_or_none (p ∷ ps) = one_or_none p ps (is_over p) refl (some_or_none ps)

module _ (bytes : List ℕ) (o key v : ℕ → ℕ) (b : (c : ℕ) → HasBucket bytes (o c) (key c) (v c)) where
  -- an order of steps at whose end none can go on
  pub record Ends (ps : List Stage) : Type 0 where
    pub turns : List ℕ
    pub runs : EachRuns (source bytes o key v b ps) turns
    pub ends : NoneRuns (source_after (source bytes o key v b ps) turns)

  waits : (c : ℕ) (p : Option Stage) → ((q : Stage) → p ≡ Some q → is_over q ≡ true) → runs_there (option_map (chain_at bytes o key v b c) p) ≡ false
  waits c None h = refl
  waits c (Some p) h = runs_until (o c) (key c) (v c) p ∙ ap not (h p refl)

  none_runs : (ps : List Stage) → AllOver ps → NoneRuns (source bytes o key v b ps)
  none_runs ps h c = ap runs_there (get_states (chain_at bytes o key v b) ps c) ∙ waits c (slice_get ps c) (h c)

  -- where some chain runs, its step leaves one fewer
  one_fewer : (ps : List Stage) (r : Running ps) → AllAt bytes o key v b ps → left (slice_set ps r.chain (next (v r.chain) r.stage)) + 1 ≡ left ps
  one_fewer ps r all =
      let at = all r.chain r.stage r.there in
      let q = next (v r.chain) r.stage in
      let less = left_set ps r.chain r.stage q r.there in
      let further = steps_next (v r.chain) r.stage at r.on in
      let most = few_steps (v r.chain) q (next_at (v r.chain) r.stage at) in
      omega (arith, less, further, most)

  one_then : (ps : List Stage) (r : Running ps) → AllAt bytes o key v b ps → Ends (slice_set ps r.chain (next (v r.chain) r.stage)) → Ends ps
  one_then ps r all e =
      let step = stepped bytes o key v b ps r.chain r.stage r.there (all r.chain r.stage r.there) r.on in
      record {
        turns = r.chain ∷ e.turns;
        runs = (running bytes o key v b ps r.chain r.stage r.there r.on, subst (λ (n : Source × Obs). EachRuns n.0 e.turns) (sym step) e.runs);
        ends = subst (λ (n : Source × Obs). NoneRuns (source_after n.0 e.turns)) (sym step) e.ends;
      }

  pub reaches : (k : ℕ) (ps : List Stage) → AllAt bytes o key v b ps → left ps ≤ k → Ends ps
  reaches zero ps all few =
      elim (some_or_none ps) [ inl r ↦ (let less = one_fewer ps r all in absurd (omega (arith, less, few))) | inr over ↦ record { turns = []; runs = tt; ends = none_runs ps over } ]
  reaches (suc k) ps all few =
      elim (some_or_none ps) [
        | inl r ↦
            let less = one_fewer ps r all in
            one_then ps r all (reaches k (slice_set ps r.chain (next (v r.chain) r.stage)) (all_next bytes o key v b ps r.chain r.stage all r.there) (omega (arith, less, few)))
        | inr over ↦ record { turns = []; runs = tt; ends = none_runs ps over }
      ]
