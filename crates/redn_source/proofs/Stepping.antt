-- What a step of a chain leaves and answers.
use Rattle.std.proofs.Common.{◌≡◌, ℕ, ◌<◌, Bool, true, false, List, [], ◌∷◌, Option, Some, None, length, map, get_or, set, refl, sym, ap, ◌∙◌, suc, zero, arith, Vec, Global}
use Rattle.std.specs.Vec.{with_items}
use Rattle.std.proofs.lemmas.List.{with_items_is, map-set}
use Rattle.std.specs.Prelude.{◌↔◌, slice_get, not, ◌&&◌, is_some}
use Rattle.std.specs.Option.{option_map}
use Rattle.std.proofs.lemmas.Bool.{false≢true}
use Rattle.redn_words.specs.declared.types.Obs.{Obs}
use Rattle.redn_words.specs.declared.types.Obs.TheVariants as shows
use Rattle.redn_source.specs.declared.state.SourceAnswer.{SourceAnswer}
use Rattle.redn_source.specs.declared.state.SourceAnswer.TheVariants as answer
use Rattle.redn_source.specs.declared.run.Run.{Run}
use Rattle.redn_kernel.specs.Source.{Source, ChainState, chain_runs, runs_there, is_running, first_does, after_turn, source_step}
use Rattle.redn_source.specs.Answered.{HasEnded, IsWaiting, answer_of}
use Rattle.redn_source.specs.RunView.{run_view, turn}
use Rattle.redn_kernel.proofs.SourceRuns.{waits, runs}

pub record IsStep (s : Source) (c : ℕ) (now : Source) (said : SourceAnswer) : Type 0 where
  pub after : now ≡ (source_step s c).0
  pub shown : is_running s c ≡ true → said ≡ answer_of (source_step s c).1
  pub ended : (said ≡ answer.Ended) ↔ HasEnded (slice_get s.chains c)
  pub waiting : (said ≡ answer.Waiting) ↔ IsWaiting (slice_get s.chains c)

-- the state of a chain is there
pub view_at : (list : List Run) (c : ℕ) (r : Run) → c < length list → r ≡ get_or list c r → slice_get (map run_view list) c ≡ Some (run_view r)
view_at [] c r lt e = absurd (omega arith)
view_at (x ∷ list) zero r lt e = ap (λ y. Some (run_view y)) (sym e)
view_at (x ∷ list) (suc c) r lt e = view_at list c r (omega arith) e

and_not : (b : Bool) → (b && false) ≡ false
and_not true = refl
and_not false = refl

-- words are there where a message is
pub no_words : {V : Type 0} (items : V → List ℕ) (m : Option V) → is_some m ≡ false → option_map items m ≡ None
no_words items None h = refl
no_words items (Some v) h = absurd (false≢true (sym h))

pub some_words : {V : Type 0} (items : V → List ℕ) (m : Option V) → is_some m ≡ true → is_some (option_map items m) ≡ true
some_words items None h = absurd (false≢true h)
some_words items (Some v) h = refl

not_said : (event : Obs) → (answer_of event ≡ answer.Ended → ⊥) × (answer_of event ≡ answer.Waiting → ⊥)
not_said shows.Nothing = (λ e. absurd (cc), λ e. absurd (cc))
not_said (shows.Set c x v) = (λ e. absurd (cc), λ e. absurd (cc))
not_said (shows.Load c x t o v) = (λ e. absurd (cc), λ e. absurd (cc))
not_said (shows.Look c t o v) = (λ e. absurd (cc), λ e. absurd (cc))
not_said (shows.Store c t o v) = (λ e. absurd (cc), λ e. absurd (cc))
not_said (shows.Reply c n ws) = (λ e. absurd (cc), λ e. absurd (cc))
not_said (shows.Fault c t o) = (λ e. absurd (cc), λ e. absurd (cc))
not_said (shows.Stale q i) = (λ e. absurd (cc), λ e. absurd (cc))
not_said (shows.Undefined q i) = (λ e. absurd (cc), λ e. absurd (cc))
not_said (shows.Refused q i) = (λ e. absurd (cc), λ e. absurd (cc))
not_said (shows.Odd q i) = (λ e. absurd (cc), λ e. absurd (cc))

module _ (s : Source) (c : ℕ) (t : ChainState) (there : slice_get s.chains c ≡ Some t) where
  idle : chain_runs t ≡ false → is_running s c ≡ false
  idle h = ap runs_there there ∙ h

  stays : chain_runs t ≡ false → s ≡ (source_step s c).0
  stays h = sym (ap (λ p. p.0) (waits s c (idle h)))

  pub step_ended : t.ended ≡ true → IsStep s c s answer.Ended
  step_ended ended =
      let stopped : chain_runs t ≡ false = ap (λ b. is_some t.message && not b) ended ∙ and_not (is_some t.message) in
      record {
        after = stays stopped;
        shown = λ h. absurd (false≢true (sym (idle stopped) ∙ h));
        ended = rw there (λ e. ended, λ h. refl);
        waiting = rw there (λ e. absurd (cc), λ h. absurd (false≢true (sym h.1 ∙ ended)));
      }

  pub step_waiting : t.ended ≡ false → t.message ≡ None → IsStep s c s answer.Waiting
  step_waiting running none =
      let stopped : chain_runs t ≡ false = ap (λ m. is_some m && not t.ended) none in
      record {
        after = stays stopped;
        shown = λ h. absurd (false≢true (sym (idle stopped) ∙ h));
        ended = rw there (λ e. absurd (cc), λ h. absurd (false≢true (sym running ∙ h)));
        waiting = rw there (λ e. (none, running), λ h. refl);
      }

  pub step_running : (tables : List (List ℕ)) (r : Run) (event : Obs) (said : SourceAnswer) → t.ended ≡ false → is_some t.message ≡ true →
      turn tables r event ≡ first_does c s.tables t t.items → said ≡ answer_of event →
      let now : Source = record { tables = tables; chains = set s.chains c (run_view r) } in IsStep s c now said
  step_running tables r event said running some e is =
      let goes : chain_runs t ≡ true = ap (λ b. is_some t.message && not b) running ∙ ap (λ b. b && true) some in
      let step : after_turn s c (turn tables r event) ≡ source_step s c = ap (after_turn s c) e ∙ sym (runs s c t there goes) in
      record {
        after = ap (λ p. p.0) step;
        shown = λ h. is ∙ ap (λ p. answer_of p.1) step;
        ended = rw there (λ h. absurd ((not_said event).0 (sym is ∙ h)), λ h. absurd (false≢true (sym running ∙ h)));
        waiting = rw there (λ h. absurd ((not_said event).1 (sym is ∙ h)), λ h. absurd (false≢true (ap is_some (sym h.0) ∙ some)));
      }

-- the state that is kept where one chain and the tables were changed
pub now_is : (tables : Vec (Vec ℕ Global) Global) (list : List Run) (c : ℕ) (new : List (Vec ℕ Global)) (r : Run) → length new ≡ tables.len →
    let bytes : Vec ℕ Global → List ℕ = λ v. v.items in
    let kept : Source = record { tables = map bytes (with_items tables new).items; chains = map run_view (set list c r) } in
    let now : Source = record { tables = map bytes new; chains = set (map run_view list) c (run_view r) } in kept ≡ now
now_is tables list c new r len =
    let bytes : Vec ℕ Global → List ℕ = λ v. v.items in
    let state : List (Vec ℕ Global) → List ChainState → Source = λ ts cs. record { tables = map bytes ts; chains = cs } in
    ap (λ ts. state ts (map run_view (set list c r))) (with_items_is tables new len) ∙ ap (state new) (map-set run_view list c r)
