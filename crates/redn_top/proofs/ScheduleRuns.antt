-- Runs under the text of a schedule, line by line.
use Rattle.std.proofs.Common.{◌≡◌, ℕ, zero, suc, ◌+◌, ◌-◌, ◌<◌, ◌≤◌, ◌==◌, true, List, [], ◌∷◌, ◌++◌, length, take, drop, inl, inr, refl, sym, ap, subst, ◌∙◌, arith, append_assoc, append-nil}
use Rattle.std.specs.Prelude.{Option, Some, None}
use Rattle.std.specs.Option.{option_map}
use Rattle.std.proofs.lemmas.Bool.Decides.{nat_tests}
use Rattle.std.proofs.lemmas.List.{map-append, take_all}
use Rattle.redn_words.specs.declared.types.Action.{Action}
use Rattle.redn_words.specs.declared.types.Obs.{Obs}
use Rattle.redn_words.specs.States.{State}
use Rattle.redn_words.specs.Steps.{possible, shown}
use Rattle.redn_words.specs.Runs.{AllPossible, reached}
use Rattle.redn_adapter.specs.Running.{Running}
use Rattle.redn_trace.specs.EventText.{event_text}
use Rattle.redn_outside.specs.Seen.{SinkSeen}
use Rattle.redn_sched.specs.declared.text.Numbered.{Numbered}
use Rattle.redn_sched.specs.declared.reader.Got.{Got}
use Rattle.redn_sched.specs.declared.reader.Got.TheVariants.{More, Action as AnAction, Bad}
use Rattle.redn_sched.specs.ScheduleText.{lines_of, lines_after, Reads, Begins}
use Rattle.redn_sched.specs.Pieces.{Reader, first_reader, StillReads, StillBegins, ReadsOn, BeginsOn, actions_got, bad_got, Takes, FedBy, IsFed}
use Rattle.redn_top.specs.declared.status.Status.{Status}
use Rattle.redn_top.specs.declared.status.Status.TheVariants.{Done, Words, Schedule as BadSchedule, ReadFailed, Missing, WriteFailed, Long, Text, Program, Image, Memory, Step, Message}
use Rattle.redn_top.specs.RunText.{actions_of, events_text}
use Rattle.redn_top.specs.Refusals.{FaultsStay, RunRefused}
use Rattle.redn_top.specs.Makers.{Makes, RanAll, StepRefused}
use Rattle.redn_top.proofs.RunLemmas.{AllPossible-append, AllPossible-push, reached-append, events_text-append, option_map-twice, failed_later, Stepped}

-- ---- one line

option_map-nothing : (told : Option (List ℕ)) → told ≡ option_map (λ text. text ++ []) told
option_map-nothing None = refl
option_map-nothing (Some text) = ap Some (sym (append-nil text))

pub makes_nothing : (r : Running) (told : Option (List ℕ)) → Makes [] r r told told
makes_nothing r told = record { all_possible = tt; state = refl; puts = option_map-nothing told; steps = omega arith }

pub makes_one : (r : Running) (n : ℕ) (a : Action) (o : Obs) (next : Running) (told now : Option (List ℕ)) → Stepped r a o next → events_text r.state (a ∷ []) ≡ event_text o → now ≡ option_map (λ t. t ++ event_text o) told → Makes (record { line = n; action = a } ∷ []) r next told now
makes_one r n a o next told now s text e =
    record { all_possible = (s.can, tt); state = s.state; puts = e ∙ ap (λ (l : List ℕ). option_map (λ t. t ++ l) told) (sym text); steps = s.steps }

-- ---- the lines so far

pub actions_both : (xs ys : List Numbered) → actions_of (xs ++ ys) ≡ actions_of xs ++ actions_of ys
actions_both xs ys = map-append (λ (x : Numbered). x.action) xs ys

pub record ReadSoFar (first : Running) (text rest : List ℕ) (reader : Reader) (now : Running) (before told : Option (List ℕ)) : Type 0 where
  pub done : List Numbered
  pub reads : (xs : List Numbered) (bad : Option ℕ) → StillReads reader rest xs bad → Reads 1 (lines_of text) (done ++ xs) bad
  pub begins : (xs : List Numbered) → StillBegins reader rest xs → Begins 1 (lines_of text) (done ++ xs)
  pub all_possible : AllPossible first.state (actions_of done)
  pub state : now.state ≡ reached first.state (actions_of done)
  pub puts : told ≡ option_map (λ t. t ++ events_text first.state (actions_of done)) before
  pub lines : reader.lines + length rest ≤ length text
  pub steps : now.steps + length rest ≤ first.steps + length text

pub read_none : (first : Running) (text : List ℕ) (reader : Reader) (told : Option (List ℕ)) → reader ≡ first_reader → ReadSoFar first text text reader first told told
read_none first text reader told e =
    record {
      done = [];
      reads = λ xs bad h. subst (λ (r : Reader). StillReads r text xs bad) e h;
      begins = λ xs h. subst (λ (r : Reader). StillBegins r text xs) e h;
      all_possible = tt;
      state = refl;
      puts = option_map-nothing told;
      lines = omega (arith, ap (λ (r : Reader). r.lines) e);
      steps = omega arith;
    }

-- more lines whose steps were made
module _ (first now next : Running) (before told told_now : Option (List ℕ)) (done more : List Numbered) (possible_before : AllPossible first.state (actions_of done)) (state : now.state ≡ reached first.state (actions_of done)) (puts : told ≡ option_map (λ t. t ++ events_text first.state (actions_of done)) before) (m : Makes more now next told told_now) where
  pub both_possible : AllPossible first.state (actions_of (done ++ more))
  both_possible = subst (AllPossible first.state) (sym (actions_both done more)) (AllPossible-append first.state (actions_of done) (actions_of more) possible_before (subst (λ (s : State). AllPossible s (actions_of more)) state m.all_possible))

  pub both_reached : next.state ≡ reached first.state (actions_of (done ++ more))
  both_reached = m.state ∙ ap (λ (s : State). reached s (actions_of more)) state ∙ sym (reached-append first.state (actions_of done) (actions_of more)) ∙ ap (reached first.state) (sym (actions_both done more))

  both_texts : events_text first.state (actions_of (done ++ more)) ≡ events_text first.state (actions_of done) ++ events_text now.state (actions_of more)
  both_texts = ap (events_text first.state) (actions_both done more) ∙ events_text-append first.state (actions_of done) (actions_of more) ∙ ap (λ (s : State). events_text first.state (actions_of done) ++ events_text s (actions_of more)) (sym state)

  pub both_put : told_now ≡ option_map (λ t. t ++ events_text first.state (actions_of (done ++ more))) before
  both_put =
      m.puts ∙ ap (option_map (λ t. t ++ events_text now.state (actions_of more))) puts
      ∙ option_map-twice (events_text first.state (actions_of done)) (events_text now.state (actions_of more)) before
      ∙ ap (λ (l : List ℕ). option_map (λ t. t ++ l) before) (sym both_texts)

nothing_on : (o : Option ℕ) (n : ℕ) (lines : List (List ℕ)) → BeginsOn o n lines []
nothing_on None n lines = tt
nothing_on (Some m) n lines = refl

-- one piece more
module _ (first now next : Running) (text rest : List ℕ) (reader later : Reader) (taken : ℕ) (got : Got) (before told told_now : Option (List ℕ)) (c : ReadSoFar first text rest reader now before told)
    (reads : (ys : List ℕ) (xs : List Numbered) (bad : Option ℕ) → StillReads later (drop taken rest ++ ys) xs bad → StillReads reader (rest ++ ys) (actions_got got ++ xs) bad)
    (begins : (ys : List ℕ) (xs : List Numbered) → StillBegins later (drop taken rest ++ ys) xs → StillBegins reader (rest ++ ys) (actions_got got ++ xs)) where
  reads_on : (xs : List Numbered) (bad : Option ℕ) → StillReads later (drop taken rest) xs bad → Reads 1 (lines_of text) (c.done ++ (actions_got got ++ xs)) bad
  reads_on xs bad h =
      c.reads (actions_got got ++ xs) bad
      (subst (λ (l : List ℕ). StillReads reader l (actions_got got ++ xs) bad) (append-nil rest) (reads [] xs bad (subst (λ (l : List ℕ). StillReads later l xs bad) (sym (append-nil (drop taken rest))) h)))

  begins_on : (xs : List Numbered) → StillBegins later (drop taken rest) xs → Begins 1 (lines_of text) (c.done ++ (actions_got got ++ xs))
  begins_on xs h =
      c.begins (actions_got got ++ xs)
      (subst (λ (l : List ℕ). StillBegins reader l (actions_got got ++ xs)) (append-nil rest) (begins [] xs (subst (λ (l : List ℕ). StillBegins later l xs) (sym (append-nil (drop taken rest))) h)))

  pub read_more : Makes (actions_got got) now next told told_now → later.lines ≤ reader.lines + taken → taken ≤ length rest → length (actions_got got) ≤ taken → length (drop taken rest) ≡ length rest - taken → ReadSoFar first text (drop taken rest) later next before told_now
  read_more m few within enough left =
      record {
        done = c.done ++ actions_got got;
        reads = λ xs bad h. subst (λ (l : List Numbered). Reads 1 (lines_of text) l bad) (sym (append_assoc c.done (actions_got got) xs)) (reads_on xs bad h);
        begins = λ xs h. subst (λ (l : List Numbered). Begins 1 (lines_of text) l) (sym (append_assoc c.done (actions_got got) xs)) (begins_on xs h);
        all_possible = both_possible first now next before told told_now c.done (actions_got got) c.all_possible c.state c.puts m;
        state = both_reached first now next before told told_now c.done (actions_got got) c.all_possible c.state c.puts m;
        puts = both_put first now next before told told_now c.done (actions_got got) c.all_possible c.state c.puts m;
        lines = omega (arith, few, within, left, c.lines);
        steps = omega (arith, m.steps, enough, within, left, c.steps);
      }

  nothing_more : (r : Reader) (l : List ℕ) → StillBegins r l []
  nothing_more r l = nothing_on r.bad (r.lines + 1) (lines_after r.held l)

  -- the text begins with the actions so far and the one that was read
  pub begins_here : Begins 1 (lines_of text) (c.done ++ actions_got got)
  begins_here = subst (λ (l : List Numbered). Begins 1 (lines_of text) (c.done ++ l)) (append-nil (actions_got got)) (begins_on [] (nothing_more later (drop taken rest)))

  -- and a bad line is its first
  pub bad_here : (n : ℕ) → got ≡ Bad n → later.bad ≡ Some n → Reads 1 (lines_of text) c.done (Some n)
  bad_here n e met =
      let none : actions_got got ≡ [] = ap actions_got e in
      let stays : StillReads later (drop taken rest) [] (Some n) = subst (λ (o : Option ℕ). ReadsOn o (later.lines + 1) (lines_after later.held (drop taken rest)) [] (Some n)) (sym met) (refl, refl) in
      subst (λ (l : List Numbered). Reads 1 (lines_of text) l (Some n)) (ap (λ (l : List Numbered). c.done ++ (l ++ [])) none ∙ append-nil c.done) (reads_on [] (Some n) stays)

-- a reader that told a bad line keeps it
pub bad_kept : (r : Reader) (piece : List ℕ) (taken : ℕ) (got : Got) (now : Reader) (n : ℕ) → got ≡ Bad n → IsFed r piece taken got now → now.bad ≡ Some n
bad_kept r piece taken got now n e h = by_bad r.bad refl h
  where
    of_takes : (line : List ℕ) (g : Got) → g ≡ Bad n → Takes r line g now → now.bad ≡ Some n
    of_takes line More f t = absurd (cc)
    of_takes line (AnAction m a) f t = absurd (cc)
    of_takes line (Bad m) f t = let same : m ≡ n = cc in ap (λ (x : Reader). x.bad) t.2 ∙ ap Some same

    by_bad : (o : Option ℕ) → r.bad ≡ o → FedBy o r piece taken got now → now.bad ≡ Some n
    by_bad None f (inl w) = let g = sym w.got_is ∙ e in absurd (cc)
    by_bad None f (inr l) = of_takes (r.held ++ l.front) got e l.takes
    by_bad (Some m) f t = let g : Bad m ≡ Bad n = sym t.got_is ∙ e in let same : m ≡ n = cc in ap (λ (x : Reader). x.bad) t.now_is ∙ f ∙ ap Some same

-- what is taken of a piece that isn't empty, unless a bad line was met
pub takes_some : (r : Reader) (piece : List ℕ) (taken : ℕ) (got : Got) (now : Reader) → IsFed r piece taken got now → bad_got got ≡ None → 0 < length piece → 0 < taken
takes_some r piece taken got now h good some = by_bad r.bad h
  where
    by_bad : (o : Option ℕ) → FedBy o r piece taken got now → 0 < taken
    by_bad None (inl w) = omega (arith, w.taken_is, some)
    by_bad None (inr l) = omega (arith, l.taken_is)
    by_bad (Some m) t = let e : Some m ≡ None = sym (ap bad_got t.got_is) ∙ good in absurd (cc)

-- an action takes a byte at least
pub got_enough : (r : Reader) (piece : List ℕ) (taken : ℕ) (got : Got) (now : Reader) → IsFed r piece taken got now → length (actions_got got) ≤ taken
got_enough r piece taken got now h = by_bad r.bad h
  where
    one : (g : Got) → length (actions_got g) ≤ 1
    one More = omega arith
    one (AnAction n a) = omega arith
    one (Bad n) = omega arith

    by_bad : (o : Option ℕ) → FedBy o r piece taken got now → length (actions_got got) ≤ taken
    by_bad None (inl w) = omega (arith, ap (λ (g : Got). length (actions_got g)) w.got_is)
    by_bad None (inr l) = omega (arith, l.taken_is, one got)
    by_bad (Some m) t = omega (arith, ap (λ (g : Got). length (actions_got g)) t.got_is)

-- a piece from a place on
pub left_length : (xs : List ℕ) (k : ℕ) → length (drop k xs) ≡ length xs - k
left_length xs zero = omega arith
left_length [] (suc k) = omega arith
left_length (x ∷ xs) (suc k) = omega (arith, left_length xs k)

pub left_whole : (xs : List ℕ) (k : ℕ) → take (length xs - k) (drop k xs) ≡ drop k xs
left_whole xs k = take_all (length xs - k) (drop k xs) (omega (arith, left_length xs k))

-- ---- why it ends before

module _ (first now : Running) (text : List ℕ) (done : List Numbered) (out mid out_now : SinkSeen) (stays : FaultsStay out mid) (all_possible : AllPossible first.state (actions_of done)) (state : now.state ≡ reached first.state (actions_of done)) (puts : mid.told ≡ option_map (λ t. t ++ events_text first.state (actions_of done)) out.told) where
  pub step_ends : (got : Got) → Begins 1 (lines_of text) (done ++ actions_got got) → ((n : ℕ) → got ≡ Bad n → Reads 1 (lines_of text) done (Some n)) → (s : Status) → StepRefused got now.state mid out_now s → RunRefused first.state text out out_now s
  step_ends More b r s h = absurd h
  step_ends (AnAction n a) b r (Step line) h = (
    events_text first.state (actions_of done),
    record { before = done; here = record { line = n; action = a }; begins = b; number = sym h.0; possible_before = all_possible; not_possible = ap (λ (s : State). possible s a) (sym state) ∙ h.1; prints = refl },
    ap (λ (x : SinkSeen). x.told) h.2 ∙ puts,
  )
  step_ends (AnAction n a) b r WriteFailed h =
      let here : Numbered = record { line = n; action = a } in
      let can : possible (reached first.state (actions_of done)) a ≡ true = ap (λ (s : State). possible s a) (sym state) ∙ h.0 in
      let part = take h.3.0 (event_text (shown (reached first.state (actions_of done)) a)) in
      let events = events_text first.state (actions_of done) in (
        failed_later out mid out_now stays h.2,
        (
          events ++ part,
          record {
            before = done;
            here = here;
            part = h.3.0;
            begins = b;
            all_possible = subst (AllPossible first.state) (sym (actions_both done (here ∷ []))) (AllPossible-push first.state (actions_of done) a all_possible can);
            shows = λ e. h.1 (ap (λ (s : State). event_text (shown s a)) state ∙ e);
            prints = refl;
          },
          h.3.1 ∙ ap (λ (s : State). option_map (λ t. t ++ take h.3.0 (event_text (shown s a))) mid.told) state ∙ ap (option_map (λ t. t ++ part)) puts ∙ option_map-twice events part out.told,
        ),
      )
  step_ends (Bad n) b r (BadSchedule line) h = (
    events_text first.state (actions_of done),
    record { lines = done; reads = subst (λ (m : ℕ). Reads 1 (lines_of text) done (Some m)) (sym h.0) (r n refl); all_possible = all_possible; prints = refl },
    ap (λ (x : SinkSeen). x.told) h.1 ∙ puts,
  )
  step_ends (AnAction n a) b r (BadSchedule line) h = absurd h
  step_ends (Bad n) b r (Step line) h = absurd h
  step_ends (Bad n) b r WriteFailed h = absurd h
  step_ends (AnAction n a) b r Done h = absurd h
  step_ends (AnAction n a) b r Words h = absurd h
  step_ends (AnAction n a) b r ReadFailed h = absurd h
  step_ends (AnAction n a) b r Missing h = absurd h
  step_ends (AnAction n a) b r (Long seen limit) h = absurd h
  step_ends (AnAction n a) b r (Text fault) h = absurd h
  step_ends (AnAction n a) b r (Program rule at seen) h = absurd h
  step_ends (AnAction n a) b r (Image fault) h = absurd h
  step_ends (AnAction n a) b r Memory h = absurd h
  step_ends (AnAction n a) b r (Message fault) h = absurd h
  step_ends (Bad n) b r Done h = absurd h
  step_ends (Bad n) b r Words h = absurd h
  step_ends (Bad n) b r ReadFailed h = absurd h
  step_ends (Bad n) b r Missing h = absurd h
  step_ends (Bad n) b r (Long seen limit) h = absurd h
  step_ends (Bad n) b r (Text fault) h = absurd h
  step_ends (Bad n) b r (Program rule at seen) h = absurd h
  step_ends (Bad n) b r (Image fault) h = absurd h
  step_ends (Bad n) b r Memory h = absurd h
  step_ends (Bad n) b r (Message fault) h = absurd h

-- ---- its end

-- the last line is taken
module _ (first now next : Running) (text : List ℕ) (reader : Reader) (got : Got) (before told told_now : Option (List ℕ)) (c : ReadSoFar first text [] reader now before told) where
  pub begins_last : StillBegins reader [] (actions_got got) → Begins 1 (lines_of text) (c.done ++ actions_got got)
  begins_last h = c.begins (actions_got got) h

  pub bad_last : (n : ℕ) → got ≡ Bad n → StillReads reader [] (actions_got got) (bad_got got) → Reads 1 (lines_of text) c.done (Some n)
  bad_last n e h = subst (λ (l : List Numbered). Reads 1 (lines_of text) l (Some n)) (append-nil c.done) (c.reads [] (Some n) (subst (λ (g : Got). StillReads reader [] (actions_got g) (bad_got g)) e h))

  pub read_all : Makes (actions_got got) now next told told_now → bad_got got ≡ None → StillReads reader [] (actions_got got) (bad_got got) → RanAll first.state text before told_now
  read_all m good h =
      record {
        lines = c.done ++ actions_got got;
        reads = c.reads (actions_got got) None (subst (λ (o : Option ℕ). StillReads reader [] (actions_got got) o) good h);
        all_possible = both_possible first now next before told told_now c.done (actions_got got) c.all_possible c.state c.puts m;
        puts = both_put first now next before told told_now c.done (actions_got got) c.all_possible c.state c.puts m;
      }

pub at_end : (first now : Running) (text rest : List ℕ) (reader : Reader) (before told : Option (List ℕ)) → length rest ≡ 0 → ReadSoFar first text rest reader now before told → ReadSoFar first text [] reader now before told
at_end first now text [] reader before told e c = c
at_end first now text (b ∷ rest) reader before told e c = absurd (cc)

pub is_none : (n : ℕ) → (n == 0) ≡ true → n ≡ 0
is_none n e = grind (arith, nat_tests)
