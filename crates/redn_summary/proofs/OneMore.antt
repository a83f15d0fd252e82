-- A fair run that is counted, one step after the other.
use Rattle.std.proofs.Common.{arith, ◌≡◌, ℕ, suc, ◌+◌, ◌-◌, ◌<◌, ◌≤◌, true, false, cond, List, [], ◌∷◌, ◌++◌, length, refl, sym, ap, subst, ◌∙◌, append_assoc, append-nil, length-append}
use Rattle.std.specs.Prelude.{Some, None}
use Rattle.std.specs.Option.{option_map}
use Rattle.std.specs.List.{All, filter}
use Rattle.std.proofs.lemmas.List.Elements.{All-nil, All-cons, All-append, filter-append}
use Rattle.redn_words.specs.declared.types.Action.{Action}
use Rattle.redn_words.specs.declared.types.Obs.{Obs}
use Rattle.redn_words.specs.declared.types.Obs.TheVariants as shows
use Rattle.redn_words.specs.States.{State}
use Rattle.redn_words.specs.Steps.{possible, after, shown, step, is_useful}
use Rattle.redn_words.specs.Runs.{AllPossible, reached, all_shown, shown_then}
use Rattle.redn_adapter.specs.Running.{Running, stepped}
use Rattle.redn_adapter.specs.Quiet.{IsQuiet}
use Rattle.redn_trace.specs.EventText.{IsPrintable}
use Rattle.redn_sched.specs.MadeSchedules.{Cursors, fair_from}
use Rattle.redn_summary.specs.declared.run.Counted.{Counted}
use Rattle.redn_summary.specs.Counting.{is_reply, AllUseful, Counts}

possible_more : (s : State) (acts : List Action) (a : Action) → AllPossible s acts → possible (reached s acts) a ≡ true → AllPossible s (acts ++ a ∷ [])
possible_more s [] a h p = (p, tt)
possible_more s (x ∷ acts) a h p = (h.0, possible_more (after s x) acts a h.1 p)

useful_more : (s : State) (acts : List Action) (a : Action) → AllUseful s acts → is_useful (reached s acts) a ≡ true → AllUseful s (acts ++ a ∷ [])
useful_more s [] a h p = (p, tt)
useful_more s (x ∷ acts) a h p = (h.0, useful_more (after s x) acts a h.1 p)

reached_more : (s : State) (acts : List Action) (a : Action) → reached s (acts ++ a ∷ []) ≡ after (reached s acts) a
reached_more s [] a = refl
reached_more s (x ∷ acts) a = reached_more (after s x) acts a

shown_before : (o : Obs) (xs ys : List Obs) → shown_then o (xs ++ ys) ≡ shown_then o xs ++ ys
shown_before shows.Nothing xs ys = refl
shown_before (shows.Set c x w) xs ys = refl
shown_before (shows.Load c x t o w) xs ys = refl
shown_before (shows.Look c t o w) xs ys = refl
shown_before (shows.Store c t o w) xs ys = refl
shown_before (shows.Reply c n words) xs ys = refl
shown_before (shows.Fault c t o) xs ys = refl
shown_before (shows.Stale q i) xs ys = refl
shown_before (shows.Undefined q i) xs ys = refl
shown_before (shows.Refused q i) xs ys = refl
shown_before (shows.Odd q i) xs ys = refl

shown_more : (s : State) (acts : List Action) (a : Action) → all_shown s (acts ++ a ∷ []) ≡ all_shown s acts ++ shown_then (shown (reached s acts) a) []
shown_more s [] a = refl
shown_more s (x ∷ acts) a = ap (shown_then (shown s x)) (shown_more (after s x) acts a) ∙ shown_before (shown s x) (all_shown (after s x) acts) _

-- one step shows at most one event
one_event : (o : Obs) → length (shown_then o []) ≤ 1
one_event shows.Nothing = omega arith
one_event (shows.Set c x w) = omega arith
one_event (shows.Load c x t o w) = omega arith
one_event (shows.Look c t o w) = omega arith
one_event (shows.Store c t o w) = omega arith
one_event (shows.Reply c n words) = omega arith
one_event (shows.Fault c t o) = omega arith
one_event (shows.Stale q i) = omega arith
one_event (shows.Undefined q i) = omega arith
one_event (shows.Refused q i) = omega arith
one_event (shows.Odd q i) = omega arith

-- and what is kept of it has a line where it has one
reply_printable : (o : Obs) → IsPrintable o → All IsPrintable (filter is_reply (shown_then o []))
reply_printable shows.Nothing h = All-nil IsPrintable
reply_printable (shows.Set c x w) h = All-nil IsPrintable
reply_printable (shows.Load c x t o w) h = All-nil IsPrintable
reply_printable (shows.Look c t o w) h = All-nil IsPrintable
reply_printable (shows.Store c t o w) h = All-nil IsPrintable
reply_printable (shows.Reply c n words) h = All-cons IsPrintable (shows.Reply c n words) [] h (All-nil IsPrintable)
reply_printable (shows.Fault c t o) h = All-nil IsPrintable
reply_printable (shows.Stale q i) h = All-nil IsPrintable
reply_printable (shows.Undefined q i) h = All-nil IsPrintable
reply_printable (shows.Refused q i) h = All-nil IsPrintable
reply_printable (shows.Odd q i) h = All-nil IsPrintable

-- what one step's answer says
pub record Stepped (r : Running) (a : Action) (o : Obs) (next : Running) : Type 0 where
  pub can : possible r.state a ≡ true
  pub shows_it : shown r.state a ≡ o
  pub state : next.state ≡ after r.state a
  pub steps : next.steps ≡ r.steps + 1

pub step_some : (r : Running) (a : Action) (o : Obs) (next : Running) → Some o ≡ option_map (λ (p : State × Obs). p.1) (step r.state a) → next ≡ stepped r (step r.state a) → Stepped r a o next
step_some r a o next e f =
    elim (possible r.state a) as (λ b.
    possible r.state a ≡ b → Some o ≡ option_map (λ (p : State × Obs). p.1) (cond b (Some (after r.state a, shown r.state a)) None) → next ≡ stepped r (cond b (Some (after r.state a, shown r.state a)) None) → Stepped r a o next) [
      | true ↦ λ can e f. record { can = can; shows_it = cc; state = ap (λ (x : Running). x.state) f; steps = ap (λ (x : Running). x.steps) f }
      | false ↦ λ can e f. absurd (cc)
    ] refl e f

-- after k steps: the actions made so far, those that follow, and what is counted of them
pub record CountedSoFar (first : Running) (steps : ℕ) (acts : List Action) (k : ℕ) (now : Running) (fair : Cursors) (c : Counted) : Type 0 where
  pub done : List Action
  pub all : acts ≡ done ++ fair_from (steps - k) now.state fair
  pub count : length done ≡ k
  pub can : AllPossible first.state done
  pub useful : AllUseful first.state done
  pub state : now.state ≡ reached first.state done
  pub made : now.steps ≡ first.steps + k
  pub goes_on : length fair.queues ≡ length now.state.chains
  pub told : c.steps ≡ k
  pub events : c.events ≡ length (all_shown first.state done)
  pub few : c.events ≤ k
  pub replies : c.replies.items ≡ filter is_reply (all_shown first.state done)
  pub printable : All IsPrintable c.replies.items

-- what is added to a count
pub record Adds (c : Counted) (o : Obs) (next : Counted) : Type 0 where
  pub steps : next.steps ≡ c.steps + 1
  pub events : next.events ≡ c.events + length (shown_then o [])
  pub replies : next.replies.items ≡ c.replies.items ++ filter is_reply (shown_then o [])

module _ (first : Running) (steps : ℕ) (acts : List Action) (k : ℕ) (inside : k < steps) (now : Running) (fair : Cursors) (c : Counted) (made : CountedSoFar first steps acts k now fair c) where
  one_less : (n : ℕ) → n ≡ steps - (k + 1) → steps - k ≡ suc n
  one_less n e = omega (arith, inside, e)

  pub counted_more : (a : Action) (o : Obs) (next : Running) (later : Cursors) (d : Counted) → Stepped now a o next → ((n : ℕ) → fair_from (suc n) now.state fair ≡ a ∷ fair_from n (after now.state a) later) → length later.queues ≡ length (after now.state a).chains →
      is_useful now.state a ≡ true → IsPrintable o → Adds c o d → CountedSoFar first steps acts (k + 1) next later d
  counted_more a o next later d s list stays useful prints adds =
      let n = steps - (k + 1) in
      let rest : fair_from (steps - k) now.state fair ≡ a ∷ fair_from n next.state later =
      ap (λ m. fair_from m now.state fair) (one_less n refl) ∙ list n ∙ ap (λ (x : State). a ∷ fair_from n x later) (sym s.state) in
      let shown_all : all_shown first.state (made.done ++ a ∷ []) ≡ all_shown first.state made.done ++ shown_then o [] =
      shown_more first.state made.done a ∙ ap (λ x. all_shown first.state made.done ++ shown_then x []) (ap (λ (x : State). shown x a) (sym made.state) ∙ s.shows_it) in
      record {
        done = made.done ++ a ∷ [];
        all = made.all ∙ ap (λ r. made.done ++ r) rest ∙ sym (append_assoc made.done (a ∷ []) (fair_from n next.state later));
        count = length-append made.done (a ∷ []) ∙ omega (arith, made.count);
        can = possible_more first.state made.done a made.can (ap (λ (x : State). possible x a) (sym made.state) ∙ s.can);
        useful = useful_more first.state made.done a made.useful (ap (λ (x : State). is_useful x a) (sym made.state) ∙ useful);
        state = s.state ∙ ap (λ (x : State). after x a) made.state ∙ sym (reached_more first.state made.done a);
        made = omega (arith, s.steps, made.made);
        goes_on = stays ∙ ap (λ (x : State). length x.chains) (sym s.state);
        told = omega (arith, adds.steps, made.told);
        events = adds.events ∙ ap (λ m. m + length (shown_then o [])) made.events ∙ sym (ap length shown_all ∙ length-append (all_shown first.state made.done) (shown_then o []));
        few = omega (arith, adds.events, made.few, one_event o);
        replies = adds.replies ∙ ap (λ l. l ++ filter is_reply (shown_then o [])) made.replies ∙ sym (ap (filter is_reply) shown_all ∙ filter-append is_reply (all_shown first.state made.done) (shown_then o []));
        printable = subst (All IsPrintable) (sym adds.replies) (All-append IsPrintable c.replies.items (filter is_reply (shown_then o [])) made.printable (reply_printable o prints));
      }

  -- nothing useful is left
  pub nothing_left : ((n : ℕ) → fair_from (suc n) now.state fair ≡ []) → IsQuiet now.state → Counts first.state steps acts c
  nothing_left list quiet =
      let rest : fair_from (steps - k) now.state fair ≡ [] = ap (λ m. fair_from m now.state fair) (one_less (steps - (k + 1)) refl) ∙ list (steps - (k + 1)) in
      let is : acts ≡ made.done = made.all ∙ ap (λ r. made.done ++ r) rest ∙ append-nil made.done in
      subst (λ (l : List Action). Counts first.state steps l c) (sym is)
      (record {
        few = omega (arith, made.count, inside);
        can = made.can;
        useful = made.useful;
        quiet = λ l. subst IsQuiet made.state quiet;
        steps = made.told ∙ sym made.count;
        events = made.events;
        replies = made.replies;
        printable = made.printable;
      })
