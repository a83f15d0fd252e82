-- Runs, one action after the other.
use Rattle.std.proofs.Common.{◌≡◌, ℕ, ◌+◌, ◌<◌, ◌==◌, true, false, cond, List, [], ◌∷◌, ◌++◌, length, map, take, drop, get_or, suc, refl, sym, ap, ◌∙◌, arith, append_assoc, append-nil}
use Rattle.std.specs.Prelude.{◌≢◌, codes, Option, Some, None}
use Rattle.std.specs.Option.{option_map}
use Rattle.std.specs.List.{flat_map}
use Rattle.std.proofs.lemmas.List.{take_more, map-append, take-append-drop}
use Rattle.std.proofs.Math.Seq.{drop-cons}
use Rattle.redn_words.specs.declared.types.Action.{Action}
use Rattle.redn_words.specs.declared.types.Obs.{Obs}
use Rattle.redn_words.specs.declared.types.Obs.TheVariants as shows
use Rattle.redn_words.specs.States.{State}
use Rattle.redn_words.specs.Steps.{possible, after, shown, step}
use Rattle.redn_words.specs.Runs.{AllPossible, reached, all_shown, shown_then}
use Rattle.redn_adapter.specs.Running.{Running, stepped}
use Rattle.redn_trace.specs.EventText.{event_text}
use Rattle.redn_outside.specs.Seen.{SinkSeen, PutFailed}
use Rattle.redn_top.specs.Refusals.{FaultsStay}
use Rattle.redn_top.proofs.FirstReason.{rose_from}
use Rattle.redn_top.specs.RunText.{events_text, made_end, made_text}

-- a list with a part that isn't empty isn't
pub some_before : (front back : List ℕ) → front ≢ [] → front ++ back ≢ []
some_before [] back some e = some refl
some_before (x ∷ front) back some e = absurd (cc)

pub some_behind : (front back : List ℕ) → back ≢ [] → front ++ back ≢ []
some_behind [] back some e = some e
some_behind (x ∷ front) back some e = absurd (cc)

pub AllPossible-push : (s : State) (acts : List Action) (a : Action) → AllPossible s acts → possible (reached s acts) a ≡ true → AllPossible s (acts ++ a ∷ [])
AllPossible-push s [] a h p = (p, tt)
AllPossible-push s (x ∷ acts) a h p = (h.0, AllPossible-push (after s x) acts a h.1 p)

pub AllPossible-append : (s : State) (acts more : List Action) → AllPossible s acts → AllPossible (reached s acts) more → AllPossible s (acts ++ more)
AllPossible-append s [] more h k = k
AllPossible-append s (x ∷ acts) more h k = (h.0, AllPossible-append (after s x) acts more h.1 k)

pub reached-append : (s : State) (acts more : List Action) → reached s (acts ++ more) ≡ reached (reached s acts) more
reached-append s [] more = refl
reached-append s (x ∷ acts) more = reached-append (after s x) acts more

pub reached-push : (s : State) (acts : List Action) (a : Action) → reached s (acts ++ a ∷ []) ≡ after (reached s acts) a
reached-push s [] a = refl
reached-push s (x ∷ acts) a = reached-push (after s x) acts a

-- what is shown is printed, and Nothing prints nothing
text-then : (o : Obs) (rest : List Obs) → flat_map event_text (shown_then o rest) ≡ event_text o ++ flat_map event_text rest
unfolding event_text
text-then shows.Nothing rest = refl
text-then (shows.Set c x w) rest = refl
text-then (shows.Load c x t o w) rest = refl
text-then (shows.Look c t o w) rest = refl
text-then (shows.Store c t o w) rest = refl
text-then (shows.Reply c n words) rest = refl
text-then (shows.Fault c t o) rest = refl
text-then (shows.Stale q i) rest = refl
text-then (shows.Undefined q i) rest = refl
text-then (shows.Refused q i) rest = refl
text-then (shows.Odd q i) rest = refl

pub events_text-push : (s : State) (acts : List Action) (a : Action) → events_text s (acts ++ a ∷ []) ≡ events_text s acts ++ event_text (shown (reached s acts) a)
events_text-push s [] a = text-then (shown s a) [] ∙ append-nil (event_text (shown s a))
events_text-push s (x ∷ acts) a =
    text-then (shown s x) (all_shown (after s x) (acts ++ a ∷ [])) ∙ ap (λ l. event_text (shown s x) ++ l) (events_text-push (after s x) acts a)
    ∙ sym (append_assoc (event_text (shown s x)) (events_text (after s x) acts) (event_text (shown (reached (after s x) acts) a)))
    ∙ ap (λ l. l ++ event_text (shown (reached (after s x) acts) a)) (sym (text-then (shown s x) (all_shown (after s x) acts)))

pub events_text-append : (s : State) (acts more : List Action) → events_text s (acts ++ more) ≡ events_text s acts ++ events_text (reached s acts) more
events_text-append s [] more = refl
events_text-append s (x ∷ acts) more =
    text-then (shown s x) (all_shown (after s x) (acts ++ more)) ∙ ap (λ l. event_text (shown s x) ++ l) (events_text-append (after s x) acts more)
    ∙ sym (append_assoc (event_text (shown s x)) (events_text (after s x) acts) (events_text (reached (after s x) acts) more))
    ∙ ap (λ l. l ++ events_text (reached (after s x) acts) more) (sym (text-then (shown s x) (all_shown (after s x) acts)))

-- what one step's answer says
pub record Stepped (r : Running) (a : Action) (o : Obs) (next : Running) : Type 0 where
  pub can : possible r.state a ≡ true
  pub shows_it : shown r.state a ≡ o
  pub state : next.state ≡ after r.state a
  pub steps : next.steps ≡ r.steps + 1

pub step_some : (r : Running) (a : Action) (o : Obs) (next : Running) → Some o ≡ option_map (λ (p : State × Obs). p.1) (step r.state a) → next ≡ stepped r (step r.state a) → Stepped r a o next
step_some r a o next e f =
    elim (possible r.state a) as (λ b.
    possible r.state a ≡ b → Some o ≡ option_map (λ (p : State × Obs). p.1) (cond b (Some (after r.state a, shown r.state a)) None) → next ≡ stepped r (cond b (Some (after r.state a, shown r.state a)) None) → Stepped r a o next) [
      | true ↦ λ can e f. record { can = can; shows_it = cc; state = ap (λ (x : Running). x.state) f; steps = ap (λ (x : Running). x.steps) f }
      | false ↦ λ can e f. absurd (cc)
    ] refl e f

-- what some actions have made of an adapter and of what was told as printed
pub record Ran (first : Running) (acts : List Action) (k : ℕ) (now : Running) (before told : Option (List ℕ)) : Type 0 where
  pub steps : now.steps ≡ first.steps + k
  pub possible_so_far : AllPossible first.state acts
  pub state : now.state ≡ reached first.state acts
  pub text : told ≡ option_map (λ text. text ++ events_text first.state acts) before

pub option_map-nothing : (told : Option (List ℕ)) → told ≡ option_map (λ text. text ++ []) told
option_map-nothing None = refl
option_map-nothing (Some text) = ap Some (sym (append-nil text))

pub option_map-twice : (xs ys : List ℕ) (told : Option (List ℕ)) → option_map (λ text. text ++ ys) (option_map (λ text. text ++ xs) told) ≡ option_map (λ text. text ++ (xs ++ ys)) told
option_map-twice xs ys None = refl
option_map-twice xs ys (Some text) = ap Some (append_assoc text xs ys)

pub ran_none : (r : Running) (told : Option (List ℕ)) → Ran r [] 0 r told told
ran_none r told = record { steps = omega arith; possible_so_far = tt; state = refl; text = option_map-nothing told }

pub ran_more : (first : Running) (acts : List Action) (k : ℕ) (now : Running) (before told : Option (List ℕ)) (a : Action) (o : Obs) (next : Running) (after_it : Option (List ℕ)) → Ran first acts k now before told → Stepped now a o next → after_it ≡ option_map (λ text. text ++ event_text o) told → Ran first (acts ++ a ∷ []) (k + 1) next before after_it
ran_more first acts k now before told a o next after_it r s e =
    let can : possible (reached first.state acts) a ≡ true = ap (λ (x : State). possible x a) (sym r.state) ∙ s.can in
    let shows_it : shown (reached first.state acts) a ≡ o = ap (λ (x : State). shown x a) (sym r.state) ∙ s.shows_it in
    let text : events_text first.state (acts ++ a ∷ []) ≡ events_text first.state acts ++ event_text o = events_text-push first.state acts a ∙ ap (λ x. events_text first.state acts ++ event_text x) shows_it in
    record {
      steps = omega (arith, r.steps, s.steps);
      possible_so_far = AllPossible-push first.state acts a r.possible_so_far can;
      state = s.state ∙ ap (λ (x : State). after x a) r.state ∙ sym (reached-push first.state acts a);
      text = e ∙ ap (option_map (λ text. text ++ event_text o)) r.text ∙ option_map-twice (events_text first.state acts) (event_text o) before ∙ ap (λ (l : List ℕ). option_map (λ text. text ++ l) before) (sym text);
    }

-- what is seen of the items so far, and of one more
pub mapped_more : {X Y : Type 0} (f : X → Y) (xs : List X) (k : ℕ) (d : X) → k < length xs → map f (take (k + 1) xs) ≡ map f (take k xs) ++ f (get_or xs k d) ∷ []
mapped_more f xs k d l = ap (map f) (take_more xs k d l) ∙ map-append f (take k xs) (get_or xs k d ∷ [])

-- the items before, at and behind a place
pub around : {X : Type 0} (lines : List X) (k : ℕ) (d : X) → k < length lines → lines ≡ take k lines ++ get_or lines k d ∷ drop (k + 1) lines
around lines k d l = sym (take-append-drop k lines) ∙ ap (λ r. take k lines ++ r) (drop-cons lines k d l ∙ ap (λ n. get_or lines k d ∷ drop n lines) (let e : suc k ≡ k + 1 = omega arith in e))

-- the count of a sink over two calls
pub later_faults : (before mid now : SinkSeen) → FaultsStay before mid → FaultsStay mid now → FaultsStay before now
later_faults before mid now a b = record { faults = omega (arith, a.faults, b.faults); reliable = b.reliable ∙ a.reliable }

pub faults_here : (seen : SinkSeen) → FaultsStay seen seen
faults_here seen = record { faults = omega arith; reliable = refl }

-- a put that failed after others
pub failed_later : (before mid now : SinkSeen) → FaultsStay before mid → PutFailed mid now → PutFailed before now
failed_later before mid now a b = (rose_from before.faults mid.faults now.faults a.faults b.0, sym a.reliable ∙ b.1)

-- a run whose actions are made prints its end line at least
pub made_some : (s : State) (steps : ℕ) (acts : List Action) → made_text s steps acts ≢ []
made_some s steps acts =
    some_behind (events_text s acts) (made_end steps acts)
    (elim (length acts == steps) as (λ v. cond v (codes "end steps\n") (codes "end quiet\n") ≢ []) [
      | true ↦ λ e. absurd (cc)
      | false ↦ λ e. absurd (cc)
    ])

-- an event that is one has a line
pub line_some : (o : Obs) → (o ≡ shows.Nothing → ⊥) → event_text o ≢ []
unfolding event_text
line_some shows.Nothing is e = is refl
line_some (shows.Set c x w) is e = some_before (codes "set") _ (λ n. absurd (cc)) e
line_some (shows.Load c x t o w) is e = some_before (codes "load") _ (λ n. absurd (cc)) e
line_some (shows.Look c t o w) is e = some_before (codes "look") _ (λ n. absurd (cc)) e
line_some (shows.Store c t o w) is e = some_before (codes "store") _ (λ n. absurd (cc)) e
line_some (shows.Reply c n words) is e = some_before (codes "reply") _ (λ n. absurd (cc)) e
line_some (shows.Fault c t o) is e = some_before (codes "fault") _ (λ n. absurd (cc)) e
line_some (shows.Stale q i) is e = some_before (codes "stale") _ (λ n. absurd (cc)) e
line_some (shows.Undefined q i) is e = some_before (codes "undefined") _ (λ n. absurd (cc)) e
line_some (shows.Refused q i) is e = some_before (codes "refused") _ (λ n. absurd (cc)) e
line_some (shows.Odd q i) is e = some_before (codes "odd") _ (λ n. absurd (cc)) e
