-- Laws of runs of a source state.
use Rattle.std.proofs.Common.{◌≡◌, ℕ, true, false, List, [], ◌∷◌, ◌++◌, Option, Some, None, refl, ap, ◌∙◌}
use Rattle.std.specs.Prelude.{slice_get}
use Rattle.redn_words.specs.declared.types.Obs.{Obs}
use Rattle.redn_words.specs.declared.types.Obs.TheVariants as shows
use Rattle.redn_words.specs.Runs.{shown_then}
use Rattle.redn_kernel.specs.Source.{Source, ChainState, chain_runs, runs_there, is_running, first_does, after_turn, chain_step, source_step, EachRuns, source_after, events}

pub source_after_append : (s : Source) (cs ds : List ℕ) → source_after s (cs ++ ds) ≡ source_after (source_after s cs) ds
source_after_append s [] ds = refl
source_after_append s (c ∷ cs) ds = source_after_append (source_step s c).0 cs ds

shown_then_append : (o : Obs) (xs ys : List Obs) → shown_then o (xs ++ ys) ≡ shown_then o xs ++ ys
shown_then_append shows.Nothing xs ys = refl
shown_then_append (shows.Set c x v) xs ys = refl
shown_then_append (shows.Load c x t o v) xs ys = refl
shown_then_append (shows.Look c t o v) xs ys = refl
shown_then_append (shows.Store c t o v) xs ys = refl
shown_then_append (shows.Reply c n ws) xs ys = refl
shown_then_append (shows.Fault c t o) xs ys = refl
shown_then_append (shows.Stale q i) xs ys = refl
shown_then_append (shows.Undefined q i) xs ys = refl
shown_then_append (shows.Refused q i) xs ys = refl
shown_then_append (shows.Odd q i) xs ys = refl

pub events_append : (s : Source) (cs ds : List ℕ) → events s (cs ++ ds) ≡ events s cs ++ events (source_after s cs) ds
events_append s [] ds = refl
events_append s (c ∷ cs) ds =
    ap (shown_then (source_step s c).1) (events_append (source_step s c).0 cs ds) ∙ shown_then_append (source_step s c).1 (events (source_step s c).0 cs) (events (source_after (source_step s c).0 cs) ds)

pub EachRuns_append : (s : Source) (cs ds : List ℕ) → EachRuns s cs → EachRuns (source_after s cs) ds → EachRuns s (cs ++ ds)
EachRuns_append s [] ds h more = more
EachRuns_append s (c ∷ cs) ds h more = (h.0, EachRuns_append (source_step s c).0 cs ds h.1 more)

waits_there : (s : Source) (c : ℕ) (t : Option ChainState) → runs_there t ≡ false → chain_step s c t ≡ (s, shows.Nothing)
waits_there s c None h = refl
waits_there s c (Some t) h = rw h refl

-- a chain that isn't running changes nothing
pub waits : (s : Source) (c : ℕ) → is_running s c ≡ false → source_step s c ≡ (s, shows.Nothing)
unfolding source_step
waits s c h = waits_there s c (slice_get s.chains c) h

runs_on : (s : Source) (c : ℕ) (t : ChainState) → chain_runs t ≡ true → chain_step s c (Some t) ≡ after_turn s c (first_does c s.tables t t.items)
runs_on s c t h = rw h refl

-- a chain that is running does its first item
pub runs : (s : Source) (c : ℕ) (t : ChainState) → slice_get s.chains c ≡ Some t → chain_runs t ≡ true → source_step s c ≡ after_turn s c (first_does c s.tables t t.items)
unfolding source_step
runs s c t there h = ap (chain_step s c) there ∙ runs_on s c t h
