-- Runs whose actions are made one after the other.
use Rattle.std.proofs.Common.{◌≡◌, ℕ, suc, ◌+◌, ◌-◌, ◌<◌, ◌==◌, Bool, true, false, cond, List, [], ◌∷◌, ◌++◌, length, take, drop, refl, sym, ap, subst, ◌∙◌, arith, append_assoc, append-nil}
use Rattle.std.specs.Prelude.{Option, Some, Result, Ok, Err, OnOk, codes}
use Rattle.std.specs.Option.{option_map}
use Rattle.std.proofs.lemmas.Bool.Decides.{nat_tests}
use Rattle.std.proofs.lemmas.List.{length-append, take-append-drop}
use Rattle.redn_words.specs.declared.types.Action.{Action}
use Rattle.redn_words.specs.declared.types.Obs.{Obs}
use Rattle.redn_words.specs.States.{State}
use Rattle.redn_words.specs.Steps.{after, shown}
use Rattle.redn_words.specs.Runs.{reached}
use Rattle.redn_outside.specs.Seen.{SinkSeen}
use Rattle.redn_adapter.specs.Running.{Running}
use Rattle.redn_trace.specs.EventText.{event_text}
use Rattle.redn_sched.specs.MadeView.{followed_by}
use Rattle.redn_top.specs.declared.run.Maker.{Maker}
use Rattle.redn_top.specs.declared.run.Maker.TheVariants as maker
use Rattle.redn_top.specs.Makers.{made_from, IsFor}
use Rattle.redn_top.specs.declared.status.Status.{Status}
use Rattle.redn_top.specs.declared.status.Status.TheVariants.{Done, Words, Schedule as BadSchedule, ReadFailed, Missing, WriteFailed, Long, Text, Program, Image, Memory, Step, Message}
use Rattle.redn_top.specs.RunText.{events_text, made_end, made_text}
use Rattle.redn_top.specs.Refusals.{MadePart, MadeRefused, FaultsStay, PutRefused}
use Rattle.redn_top.proofs.RunLemmas.{Ran, Stepped, ran_none, ran_more, events_text-append, events_text-push, option_map-twice, failed_later}

-- after k of the steps: the actions made so far, those that follow, what makes them, and those that are kept
pub record MadeSoFar (first : Running) (steps : ℕ) (acts : List Action) (k : ℕ) (now : Running) (making : Maker) (keep : Bool) (kept : List Action) (before told : Option (List ℕ)) : Type 0 where
  pub done : List Action
  pub all : acts ≡ done ++ made_from (steps - k) now.state making
  pub count : length done ≡ k
  pub ran : Ran first done k now before told
  pub goes_on : IsFor making now.state
  pub keeps : keep ≡ true → kept ≡ done

pub made_none : (first : Running) (steps : ℕ) (making : Maker) (keep : Bool) (kept : List Action) (told : Option (List ℕ)) → IsFor making first.state → kept ≡ [] → MadeSoFar first steps (made_from steps first.state making) 0 first making keep kept told told
made_none first steps making keep kept told e none =
    record {
      done = [];
      all = ap (λ n. made_from n first.state making) (let n : steps ≡ steps - 0 = omega arith in n);
      count = refl;
      ran = ran_none first told;
      goes_on = e;
      keeps = λ k. none;
    }

module _ (first : Running) (steps : ℕ) (acts : List Action) (k : ℕ) (inside : k < steps) (now : Running) (making : Maker) (keep : Bool) (kept : List Action) (before told : Option (List ℕ)) (made : MadeSoFar first steps acts k now making keep kept before told) where
  one_less : (n : ℕ) → n ≡ steps - (k + 1) → steps - k ≡ suc n
  one_less n e = omega (arith, inside, e)

  -- one step more
  pub made_more : (a : Action) (o : Obs) (next : Running) (later : Maker) (kept_now : List Action) (after_it : Option (List ℕ)) → Stepped now a o next → ((n : ℕ) → made_from (suc n) now.state making ≡ followed_by (Some a) (λ act. made_from n (after now.state act) later)) →
      ((act : Action) → IsFor later (after now.state act)) → (keep ≡ true → kept_now ≡ kept ++ a ∷ []) → after_it ≡ option_map (λ text. text ++ event_text o) told → MadeSoFar first steps acts (k + 1) next later keep kept_now before after_it
  made_more a o next later kept_now after_it s list stays more e =
      let n = steps - (k + 1) in
      let rest : made_from (steps - k) now.state making ≡ a ∷ made_from n next.state later =
      ap (λ m. made_from m now.state making) (one_less n refl) ∙ list n ∙ ap (λ (x : State). a ∷ made_from n x later) (sym s.state) in
      record {
        done = made.done ++ a ∷ [];
        all = made.all ∙ ap (λ r. made.done ++ r) rest ∙ sym (append_assoc made.done (a ∷ []) (made_from n next.state later));
        count = length-append made.done (a ∷ []) ∙ omega (arith, made.count);
        ran = ran_more first made.done k now before told a o next after_it made.ran s e;
        goes_on = subst (IsFor later) (sym s.state) (stays a);
        keeps = λ yes. more yes ∙ ap (λ (l : List Action). l ++ a ∷ []) (made.keeps yes);
      }

  -- nothing useful is left
  pub nothing_left : ((n : ℕ) → made_from (suc n) now.state making ≡ []) → (acts ≡ made.done) × (made_end steps acts ≡ codes "end quiet\n")
  nothing_left list =
      let rest : made_from (steps - k) now.state making ≡ [] = ap (λ m. made_from m now.state making) (one_less (steps - (k + 1)) refl) ∙ list (steps - (k + 1)) in
      let is : acts ≡ made.done = made.all ∙ ap (λ r. made.done ++ r) rest ∙ append-nil made.done in
      let fewer : (length acts == steps) ≡ false = (let l : length acts ≡ k = ap length is ∙ made.count in grind (arith, nat_tests)) in
      (is, ap (λ v. cond v (codes "end steps\n") (codes "end quiet\n")) fewer)

  -- memory was wanting before the next step
  pub made_short : (out out_now : SinkSeen) → out.told ≡ before → out_now.told ≡ told → MadePart first.state steps acts out out_now
  made_short out out_now eb et =
      let events = events_text first.state made.done in
      let more = made_from (steps - k) now.state making in
      let rest = events_text (reached first.state made.done) more ++ made_end steps acts in
      let texts : made_text first.state steps acts ≡ events ++ rest =
      ap (λ l. events_text first.state l ++ made_end steps acts) made.all
      ∙ ap (λ l. l ++ made_end steps acts) (events_text-append first.state made.done more) ∙ append_assoc events (events_text (reached first.state made.done) more) (made_end steps acts) in
      (events, rest, texts, et ∙ made.ran.text ∙ ap (option_map (λ text. text ++ events)) (sym eb))

  -- the put of an event's line failed
  pub made_broken : (a : Action) (o : Obs) (next : Running) (later : Maker) (out mid out_now : SinkSeen) → out.told ≡ before → mid.told ≡ told → FaultsStay out mid → Stepped now a o next →
      ((n : ℕ) → made_from (suc n) now.state making ≡ a ∷ made_from n (after now.state a) later) → (s : Status) → PutRefused (event_text o) mid out_now s → MadeRefused first.state steps acts out out_now s
  made_broken a o next later out mid out_now eb et stays s list WriteFailed h =
      let events = events_text first.state made.done in
      let more = made_from (steps - (k + 1)) (after now.state a) later in
      let rest : made_from (steps - k) now.state making ≡ a ∷ more = ap (λ m. made_from m now.state making) (one_less (steps - (k + 1)) refl) ∙ list (steps - (k + 1)) in
      let all : acts ≡ (made.done ++ a ∷ []) ++ more = made.all ∙ ap (λ r. made.done ++ r) rest ∙ sym (append_assoc made.done (a ∷ []) more) in
      let shows_it : shown (reached first.state made.done) a ≡ o = ap (λ (x : State). shown x a) (sym made.ran.state) ∙ s.shows_it in
      let tail = events_text (reached first.state (made.done ++ a ∷ [])) more ++ made_end steps acts in
      let part = take h.1.0 (event_text o) in
      let left = drop h.1.0 (event_text o) ++ tail in
      let texts : made_text first.state steps acts ≡ (events ++ part) ++ left =
      ap (λ l. events_text first.state l ++ made_end steps acts) all
      ∙ ap (λ l. l ++ made_end steps acts) (events_text-append first.state (made.done ++ a ∷ []) more ∙ ap (λ l. l ++ events_text (reached first.state (made.done ++ a ∷ [])) more) (events_text-push first.state made.done a ∙ ap (λ x. events ++ event_text x) shows_it))
      ∙ append_assoc (events ++ event_text o) (events_text (reached first.state (made.done ++ a ∷ [])) more) (made_end steps acts)
      ∙ ap (λ l. (events ++ l) ++ tail) (sym (take-append-drop h.1.0 (event_text o)))
      ∙ append_assoc events (part ++ drop h.1.0 (event_text o)) tail ∙ ap (λ l. events ++ l) (append_assoc part (drop h.1.0 (event_text o)) tail) ∙ sym (append_assoc events part left) in
      (failed_later out mid out_now stays h.0, (events ++ part, left, texts, h.1.1 ∙ ap (option_map (λ text. text ++ part)) (et ∙ made.ran.text ∙ ap (option_map (λ text. text ++ events)) (sym eb)) ∙ option_map-twice events part out.told))
  made_broken a o next later out mid out_now eb et stays s list Memory h = absurd h
  made_broken a o next later out mid out_now eb et stays s list Done h = absurd h
  made_broken a o next later out mid out_now eb et stays s list ReadFailed h = absurd h
  made_broken a o next later out mid out_now eb et stays s list Missing h = absurd h
  made_broken a o next later out mid out_now eb et stays s list (Long seen limit) h = absurd h
  made_broken a o next later out mid out_now eb et stays s list (Text fault) h = absurd h
  made_broken a o next later out mid out_now eb et stays s list (Program rule at seen) h = absurd h
  made_broken a o next later out mid out_now eb et stays s list (Image fault) h = absurd h
  made_broken a o next later out mid out_now eb et stays s list (Step number) h = absurd h
  made_broken a o next later out mid out_now eb et stays s list (Message fault) h = absurd h
  made_broken a o next later out mid out_now eb et stays s list Words h = absurd h
  made_broken a o next later out mid out_now eb et stays s list (BadSchedule number) h = absurd h

no_more : (s : State) (making : Maker) → made_from 0 s making ≡ []
no_more s (maker.Fair m) = refl
no_more s (maker.Shuffle m) = refl

-- all steps were made
pub all_made : (first : Running) (steps : ℕ) (acts : List Action) (now : Running) (making : Maker) (keep : Bool) (kept : List Action) (before told : Option (List ℕ)) (made : MadeSoFar first steps acts steps now making keep kept before told) → (acts ≡ made.done) × (made_end steps acts ≡ codes "end steps\n")
all_made first steps acts now making keep kept before told made =
    let none : steps - steps ≡ 0 = omega arith in
    let is : acts ≡ made.done = made.all ∙ ap (λ m. made.done ++ made_from m now.state making) none ∙ ap (λ (l : List Action). made.done ++ l) (no_more now.state making) ∙ append-nil made.done in
    let all : (length acts == steps) ≡ true = (let l : length acts ≡ steps = ap length is ∙ made.count in grind (arith, nat_tests)) in
    (is, ap (λ v. cond v (codes "end steps\n") (codes "end quiet\n")) all)

-- the end line is put
module _ (first : Running) (steps : ℕ) (acts done : List Action) (line : List ℕ) (is : acts ≡ done) (ends : made_end steps acts ≡ line) (out mid out_now : SinkSeen) (run : mid.told ≡ option_map (λ text. text ++ events_text first.state done) out.told) where
  texts : made_text first.state steps acts ≡ events_text first.state done ++ line
  texts = ap (λ l. events_text first.state l ++ made_end steps acts) is ∙ ap (λ l. events_text first.state done ++ l) ends

  pub made_put : out_now.told ≡ option_map (λ text. text ++ line) mid.told → out_now.told ≡ option_map (λ text. text ++ made_text first.state steps acts) out.told
  made_put e = e ∙ ap (option_map (λ text. text ++ line)) run ∙ option_map-twice (events_text first.state done) line out.told ∙ ap (λ (l : List ℕ). option_map (λ text. text ++ l) out.told) (sym texts)

  pub made_unput : FaultsStay out mid → (s : Status) → PutRefused line mid out_now s → MadeRefused first.state steps acts out out_now s
  made_unput stays WriteFailed h =
      let events = events_text first.state done in
      let part = take h.1.0 line in
      let left = drop h.1.0 line in
      let whole : made_text first.state steps acts ≡ (events ++ part) ++ left = texts ∙ ap (λ l. events ++ l) (sym (take-append-drop h.1.0 line)) ∙ sym (append_assoc events part left) in
      (failed_later out mid out_now stays h.0, (events ++ part, left, whole, h.1.1 ∙ ap (option_map (λ text. text ++ part)) run ∙ option_map-twice events part out.told))
  made_unput stays Memory h = absurd h
  made_unput stays Done h = absurd h
  made_unput stays ReadFailed h = absurd h
  made_unput stays Missing h = absurd h
  made_unput stays (Long seen limit) h = absurd h
  made_unput stays (Text fault) h = absurd h
  made_unput stays (Program rule at seen) h = absurd h
  made_unput stays (Image fault) h = absurd h
  made_unput stays (Step number) h = absurd h
  made_unput stays (Message fault) h = absurd h
  made_unput stays Words h = absurd h
  made_unput stays (BadSchedule number) h = absurd h

pub put_ok : {P Q : Type 0} (r : Result (Unit {0}) Status) → (P → Q) → OnOk r P → OnOk r Q
put_ok (Ok done) f h = f h
put_ok (Err s) f h = tt

pub both_ok : {P Q R : Type 0} (r : Result (Unit {0}) Status) → (P → Q → R) → OnOk r P → OnOk r Q → OnOk r R
both_ok (Ok done) f h k = f h k
both_ok (Err s) f h k = tt
