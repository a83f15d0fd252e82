-- What a run of the generated file shows, told by the stages of its chains alone.
use Rattle.std.proofs.Common.{◌≡◌, ℕ, Bool, true, false, List, [], ◌∷◌, Option, Some, None, refl, sym, ap, subst, ◌∙◌}
use Rattle.std.specs.Prelude.{slice_get, slice_set, not, ◌&&◌}
use Rattle.std.specs.Option.{option_map}
use Rattle.std.proofs.lemmas.Bool.{false≢true, and_parts}
use Rattle.redn_words.specs.declared.types.Obs.{Obs}
use Rattle.redn_words.specs.declared.types.Obs.TheVariants as shows
use Rattle.redn_words.specs.Runs.{shown_then}
use Rattle.redn_kernel.specs.Source.{Source, runs_there, is_running, EachRuns, events}
use Rattle.redn_gen.proofs.Stages.{Stage, First, is_over, next, event_of}
use Rattle.redn_gen.proofs.Steps.{HasBucket}
use Rattle.redn_gen.proofs.Interleaved.{get_states, runs_until, chain_at, source, AllAt, stepped, all_next}

module _ (o key v : ℕ → ℕ) where
  abbrev pub stage_next : ℕ → Option Stage → Stage
  stage_next c None = First
  stage_next c (Some p) = next (v c) p

  abbrev pub stage_event : ℕ → Option Stage → Obs
  stage_event c None = shows.Nothing
  stage_event c (Some p) = event_of (o c) (key c) (v c) c p

  abbrev pub stage_runs : Option Stage → Bool
  stage_runs None = false
  stage_runs (Some p) = not (is_over p)

  abbrev pub foreseen : List Stage → List ℕ → List Obs
  foreseen ps [] = []
  foreseen ps (c ∷ cs) = shown_then (stage_event c (slice_get ps c)) (foreseen (slice_set ps c (stage_next c (slice_get ps c))) cs)

  abbrev pub all_run : List Stage → List ℕ → Bool
  all_run ps [] = true
  all_run ps (c ∷ cs) = stage_runs (slice_get ps c) && all_run (slice_set ps c (stage_next c (slice_get ps c))) cs

module _ (bytes : List ℕ) (o key v : ℕ → ℕ) (b : (c : ℕ) → HasBucket bytes (o c) (key c) (v c)) where
  abbrev Foretold : List Stage → List ℕ → Type 0
  Foretold ps turns = EachRuns (source bytes o key v b ps) turns × (events (source bytes o key v b ps) turns ≡ foreseen o key v ps turns)

  pub running : (ps : List Stage) (c : ℕ) (p : Stage) → slice_get ps c ≡ Some p → is_over p ≡ false → is_running (source bytes o key v b ps) c ≡ true
  running ps c p e on =
      ap runs_there (get_states (chain_at bytes o key v b) ps c ∙ ap (option_map (chain_at bytes o key v b c)) e) ∙ runs_until (o c) (key c) (v c) p ∙ ap not on

  one_foretold : (ps : List Stage) (c : ℕ) (turns : List ℕ) (g : Option Stage) → slice_get ps c ≡ g → AllAt bytes o key v b ps →
      ((qs : List Stage) → AllAt bytes o key v b qs → all_run o key v qs turns ≡ true → Foretold qs turns) →
      (stage_runs o key v g && all_run o key v (slice_set ps c (stage_next o key v c g)) turns) ≡ true →
      EachRuns (source bytes o key v b ps) (c ∷ turns)
      × (events (source bytes o key v b ps) (c ∷ turns) ≡ shown_then (stage_event o key v c g) (foreseen o key v (slice_set ps c (stage_next o key v c g)) turns))
  one_foretold ps c turns None e all rest h = absurd (false≢true h)
  one_foretold ps c turns (Some p) e all rest h =
      let qs = slice_set ps c (next (v c) p) in
      let parts = and_parts (not (is_over p)) (all_run o key v qs turns) h in
      let on : is_over p ≡ false = not_over (is_over p) parts.0 in
      let step = stepped bytes o key v b ps c p e (all c p e) on in
      let told = rest qs (all_next bytes o key v b ps c p all e) parts.1 in (
        (running ps c p e on, subst (λ (r : Source × Obs). EachRuns r.0 turns) (sym step) told.0),
        ap (λ (r : Source × Obs). shown_then r.1 (events r.0 turns)) step ∙ ap (shown_then (event_of (o c) (key c) (v c) c p)) told.1,
      )
    where
      not_over : (x : Bool) → not x ≡ true → x ≡ false
      not_over true h = absurd (false≢true h)
      not_over false h = refl

  pub foretold : (ps : List Stage) (turns : List ℕ) → AllAt bytes o key v b ps → all_run o key v ps turns ≡ true → Foretold ps turns
  foretold ps [] all h = (tt, refl)
  foretold ps (c ∷ turns) all h = one_foretold ps c turns (slice_get ps c) refl all (λ qs at on. foretold qs turns at on) h
