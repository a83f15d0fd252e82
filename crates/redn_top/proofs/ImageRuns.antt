-- How an image was run, part by part.
use Rattle.std.proofs.Common.{◌≡◌, ℕ, List, [], ◌++◌, length, take, drop, inl, inr, refl, sym, ap, subst, ◌∙◌, append_assoc, append-nil}
use Rattle.std.specs.Prelude.{Option, Some, None, Result, Ok, Err, OnOk, IfErr}
use Rattle.std.specs.Option.{option_map}
use Rattle.std.proofs.lemmas.List.{take-append-drop, length-replicate}
use Rattle.redn_words.specs.declared.types.Action.{Action}
use Rattle.redn_words.specs.States.{State}
use Rattle.redn_sched.specs.MadeSchedules.{first_cursors, fair}
use Rattle.redn_sched.specs.Shuffles.{first_shuffling, shuffled}
use Rattle.redn_sched.specs.Laws.{EachTextIsRead, BeginningsAreRead}
use Rattle.redn_top.specs.declared.run.Maker.{Maker}
use Rattle.redn_top.specs.declared.run.Maker.TheVariants as maker
use Rattle.redn_outside.specs.Seen.{SinkSeen}
use Rattle.redn_image.specs.Rules.{Image}
use Rattle.redn_top.specs.declared.status.Status.{Status}
use Rattle.redn_top.specs.declared.status.Status.TheVariants.{Done, Words, Schedule as BadSchedule, ReadFailed, Missing, WriteFailed, Long, Text, Program, Image as ImageRefused, Memory, Step, Message}
use Rattle.redn_command.specs.Words.{MessageWord, Plan, Schedule, Fair, Shuffle}
use Rattle.redn_top.specs.MessageWords.{messages, word_faults, length_faults}
use Rattle.redn_top.specs.RunText.{actions_of, events_text, end_schedule, made_text, planned, steps_asked}
use Rattle.redn_top.specs.Reasons.{Nil, Or, NoneHolds, First, first_fault, bad_word, message_reasons}
use Rattle.redn_top.specs.Answers.{RunsImage, BadMessages, ToEnd, Stops, Meets, status_of, opened, RunsMade, MadeMessages, MadeEnd, IsPartBy}
use Rattle.redn_top.specs.Refusals.{FaultsStay, PrintedPart, MadePart, MadeWhole, MadeStopped, MadeRefused, ImageRan, PutRefused, RunRefused, WordsRefused}
use Rattle.redn_top.specs.Makers.{RanAll, made_from, IsFor, IsMakerOf}
use Rattle.redn_top.proofs.RunLemmas.{failed_later, made_some, some_behind}
use Rattle.redn_top.proofs.AnyRun.{never_first, broke_off, any_run, any_made}

pub told_nothing : (told : Option (List ℕ)) → told ≡ option_map (λ text. text ++ []) told
told_nothing None = refl
told_nothing (Some text) = ap Some (sym (append-nil text))

-- nothing was put yet
pub no_part : (Runs : Status → List ℕ → Type 0) (before : SinkSeen) → IsPartBy Runs [] → PrintedPart Runs before before
no_part Runs before part = ([], part, told_nothing before.told)

module _ (image : Image) (words : List MessageWord) where
  -- a bad word is the first reason, and without one a wrong length
  pub word_first : (s : Status) → First (Or (bad_word image words) Nil) s → First (message_reasons image words) s
  word_first s (inl h) = inl h
  word_first s (inr (never, h)) = absurd h

  pub length_first : word_faults (length image.receives) [] words ≡ [] → (s : Status) → First (Or (first_fault (length_faults image.receives (messages (length image.receives) words))) Nil) s → First (message_reasons image words) s
  length_first none s (inl h) = inr (never_first _ none, inl h)
  length_first none s (inr (never, h)) = absurd h

  pub none_holds : word_faults (length image.receives) [] words ≡ [] → length_faults image.receives (messages (length image.receives) words) ≡ [] → NoneHolds (message_reasons image words)
  none_holds none fits = (never_first _ none, (never_first _ fits, tt))

module _ (each : EachTextIsRead) (law : BeginningsAreRead) (image : Image) (words : List MessageWord) (text : List ℕ) (before : SinkSeen) where
  -- the messages are refused before anything is put
  pub words_refused : (s : Status) → WordsRefused (message_reasons image words) s → ImageRan image words text before before s
  words_refused Memory h = no_part (RunsImage image words text) before (any_run each law image words text)
  words_refused (Message f) h = ([], BadMessages h refl, told_nothing before.told)
  words_refused Done h = absurd h
  words_refused ReadFailed h = absurd h
  words_refused Missing h = absurd h
  words_refused WriteFailed h = absurd h
  words_refused (Long seen limit) h = absurd h
  words_refused (Text fault) h = absurd h
  words_refused (Program rule at seen) h = absurd h
  words_refused (ImageRefused fault) h = absurd h
  words_refused (Step line) h = absurd h
  words_refused Words h = absurd h
  words_refused (BadSchedule number) h = absurd h

  module _ (none : NoneHolds (message_reasons image words)) (now : SinkSeen) where
    -- the schedule stopped
    pub run_stopped : (s : Status) → RunRefused (opened image words) text before now s → ImageRan image words text before now s
    run_stopped (Step line) h = (h.0, Stops line none refl h.1, h.2)
    run_stopped (BadSchedule line) h = (h.0, Meets line none refl h.1, h.2)
    run_stopped WriteFailed h = let b = broke_off image words text none each law h.1.0 h.1.1 in (h.0, ((h.1.0, b.0, h.1.2), b.1))
    run_stopped Memory h = absurd h
    run_stopped (Message f) h = absurd h
    run_stopped Done h = absurd h
    run_stopped ReadFailed h = absurd h
    run_stopped Missing h = absurd h
    run_stopped (Long seen limit) h = absurd h
    run_stopped (Text fault) h = absurd h
    run_stopped (Program rule at seen) h = absurd h
    run_stopped (ImageRefused fault) h = absurd h
    run_stopped Words h = absurd h

    told_both : (xs ys : List ℕ) (text : Option (List ℕ)) → option_map (λ before. before ++ ys) (option_map (λ before. before ++ xs) text) ≡ option_map (λ before. before ++ (xs ++ ys)) text
    told_both xs ys None = refl
    told_both xs ys (Some text) = ap Some (append_assoc text xs ys)

    -- the schedule ran to its end, and the end line is put
    module _ (mid : SinkSeen) (all : RanAll (opened image words) text before.told mid.told) (stays : FaultsStay before mid) where
      pub run_ended : (r : Result (Unit {0}) Status) → OnOk r (now.told ≡ option_map (λ before. before ++ end_schedule) mid.told) → IfErr r (PutRefused end_schedule mid now) → ImageRan image words text before now (status_of r)
      run_ended (Ok done) e h =
          let events = events_text (opened image words) (actions_of all.lines) in
          (events ++ end_schedule, ToEnd none refl (record { lines = all.lines; reads = all.reads; all_possible = all.all_possible; prints = refl }), e ∙ ap (option_map (λ before. before ++ end_schedule)) all.puts ∙ told_both events end_schedule before.told)
      run_ended (Err WriteFailed) e h =
          let events = events_text (opened image words) (actions_of all.lines) in
          let front = take h.1.0 end_schedule in
          let behind = drop h.1.0 end_schedule in
          let texts : (events ++ front) ++ behind ≡ events ++ end_schedule = append_assoc events front behind ∙ ap (λ l. events ++ l) (take-append-drop h.1.0 end_schedule) in
          let part : IsPartBy (RunsImage image words text) (events ++ front) = (Done, behind, ToEnd none refl (record { lines = all.lines; reads = all.reads; all_possible = all.all_possible; prints = texts })) in (
            failed_later before mid now stays h.0,
            (
              (events ++ front, part, h.1.1 ∙ ap (option_map (λ before. before ++ take h.1.0 end_schedule)) all.puts ∙ told_both events (take h.1.0 end_schedule) before.told),
              λ e. some_behind events end_schedule (λ n. absurd (cc)) (sym texts ∙ e),
            ),
          )
      run_ended (Err Memory) e h = absurd h
      run_ended (Err (Message f)) e h = absurd h
      run_ended (Err (Step line)) e h = absurd h
      run_ended (Err (BadSchedule number)) e h = absurd h
      run_ended (Err Done) e h = absurd h
      run_ended (Err Words) e h = absurd h
      run_ended (Err ReadFailed) e h = absurd h
      run_ended (Err Missing) e h = absurd h
      run_ended (Err (Long seen limit)) e h = absurd h
      run_ended (Err (Text fault)) e h = absurd h
      run_ended (Err (Program rule at seen)) e h = absurd h
      run_ended (Err (ImageRefused fault)) e h = absurd h

-- ---- by a plan that makes the actions

module _ (image : Image) (words : List MessageWord) (plan : Plan) (before : SinkSeen) where
  pub made_words_refused : (s : Status) → WordsRefused (message_reasons image words) s → MadeStopped image words plan before before s
  made_words_refused Memory h = no_part (RunsMade image words plan) before (any_made image words plan)
  made_words_refused (Message f) h = ([], MadeMessages h refl, told_nothing before.told)
  made_words_refused Done h = absurd h
  made_words_refused Words h = absurd h
  made_words_refused ReadFailed h = absurd h
  made_words_refused Missing h = absurd h
  made_words_refused (Long seen limit) h = absurd h
  made_words_refused (Text fault) h = absurd h
  made_words_refused (Program rule at seen) h = absurd h
  made_words_refused (ImageRefused fault) h = absurd h
  made_words_refused (BadSchedule line) h = absurd h
  made_words_refused (Step line) h = absurd h
  made_words_refused WriteFailed h = absurd h

  module _ (none : NoneHolds (message_reasons image words)) (now : SinkSeen) where
    abbrev text_made : List ℕ
    text_made = made_text (opened image words) (steps_asked plan) (planned plan (opened image words))

    pub made_whole : now.told ≡ option_map (λ t. t ++ text_made) before.told → MadeWhole image words plan before now
    made_whole e = (text_made, MadeEnd none refl refl, e)

    -- a part of it was put
    pub made_part : MadePart (opened image words) (steps_asked plan) (planned plan (opened image words)) before now → PrintedPart (RunsMade image words plan) before now
    made_part h = (h.0, (Done, h.1, MadeEnd none refl (sym h.2)), h.3)

    pub made_stopped : (s : Status) → MadeRefused (opened image words) (steps_asked plan) (planned plan (opened image words)) before now s → MadeStopped image words plan before now s
    unfolding made_part
    made_stopped WriteFailed h = (h.0, (made_part h.1, λ e. made_some (opened image words) (steps_asked plan) (planned plan (opened image words)) (h.1.2 ∙ e)))
    made_stopped Memory h = made_part h
    made_stopped Done h = absurd h
    made_stopped Words h = absurd h
    made_stopped ReadFailed h = absurd h
    made_stopped Missing h = absurd h
    made_stopped (Long seen limit) h = absurd h
    made_stopped (Text fault) h = absurd h
    made_stopped (Program rule at seen) h = absurd h
    made_stopped (ImageRefused fault) h = absurd h
    made_stopped (BadSchedule line) h = absurd h
    made_stopped (Step line) h = absurd h
    made_stopped (Message fault) h = absurd h

-- what makes the actions of a plan makes them all
pub planned_is : (p : Plan) (s : State) (m : Maker) → IsMakerOf p s (Some m) → made_from (steps_asked p) s m ≡ planned p s
unfolding fair shuffled
planned_is (Schedule file) s m h = absurd (cc)
planned_is (Fair n) s m h = let e : m ≡ maker.Fair (first_cursors s) = cc in subst (λ (x : Maker). made_from n s x ≡ fair n s) (sym e) refl
planned_is (Shuffle z n) s m h = let e : m ≡ maker.Shuffle (first_shuffling s z) = cc in subst (λ (x : Maker). made_from n s x ≡ shuffled n z s) (sym e) refl

module _ (s t : State) (n m : ℕ) (xs ys : List Action) (states : s ≡ t) (steps : n ≡ m) (lists : xs ≡ ys) where
  pub refused_as : (before now : SinkSeen) (e : Status) → MadeRefused s n xs before now e → MadeRefused t m ys before now e
  refused_as before now e h =
      subst (λ (l : List Action). MadeRefused t m l before now e) lists
      (subst (λ (k : ℕ). MadeRefused t k xs before now e) steps (subst (λ (x : State). MadeRefused x n xs before now e) states h))

  pub text_as : (before now : Option (List ℕ)) → now ≡ option_map (λ text. text ++ made_text s n xs) before → now ≡ option_map (λ text. text ++ made_text t m ys) before
  text_as before now e =
      e
      ∙ ap (λ (l : List ℕ). option_map (λ text. text ++ l) before)
      (ap (λ (x : State). made_text x n xs) states ∙ ap (λ (k : ℕ). made_text t k xs) steps ∙ ap (λ (l : List Action). made_text t m l) lists)

-- what makes the actions of a plan is for the adapter that they are made from
pub maker_fits : (p : Plan) (s : State) (m : Maker) → IsMakerOf p s (Some m) → IsFor m s
maker_fits (Schedule file) s m h = absurd (cc)
maker_fits (Fair n) s m h = let e : m ≡ maker.Fair (first_cursors s) = cc in subst (λ (x : Maker). IsFor x s) (sym e) (length-replicate (length s.chains) 0)
maker_fits (Shuffle z n) s m h = let e : m ≡ maker.Shuffle (first_shuffling s z) = cc in subst (λ (x : Maker). IsFor x s) (sym e) (length-replicate (length s.chains) 0)
