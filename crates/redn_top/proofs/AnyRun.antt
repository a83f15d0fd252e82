-- However an image is run, its run ends, and what was printed before is a part of what it prints.
use Rattle.std.proofs.Common.{◌≡◌, ℕ, Bool, true, false, List, [], ◌∷◌, ◌++◌, length, take, drop, inl, inr, refl, sym, ap, subst, ◌∙◌, append_assoc, append-nil}
use Rattle.std.specs.Prelude.{◌≢◌, ◌⊎◌, Option, Some, None}
use Rattle.std.proofs.lemmas.List.{take-append-drop}
use Rattle.redn_words.specs.States.{State}
use Rattle.redn_words.specs.Steps.{possible, shown}
use Rattle.redn_words.specs.Runs.{AllPossible, reached}
use Rattle.redn_trace.specs.EventText.{event_text}
use Rattle.redn_sched.specs.declared.text.Numbered.{Numbered}
use Rattle.redn_sched.specs.ScheduleText.{lines_of, Reads}
use Rattle.redn_sched.specs.Laws.{EachTextIsRead, BeginningsAreRead}
use Rattle.redn_image.specs.Rules.{Image}
use Rattle.redn_command.specs.Words.{MessageWord, Plan}
use Rattle.redn_top.specs.declared.status.MessageFault.{MessageFault}
use Rattle.redn_top.specs.declared.status.Status.{Status}
use Rattle.redn_top.specs.declared.status.Status.TheVariants.{Done, Schedule as BadSchedule, Step, Message}
use Rattle.redn_top.specs.MessageWords.{messages, word_faults, length_faults}
use Rattle.redn_top.specs.Reasons.{Never, NoneHolds, First, first_fault, message_reasons}
use Rattle.redn_top.specs.RunText.{actions_of, events_text, end_schedule, made_text, planned, steps_asked, BreaksOff}
use Rattle.redn_top.specs.Answers.{RunsImage, BadMessages, ToEnd, Stops, Meets, RunsMade, MadeMessages, MadeEnd, IsPartBy, opened}
use Rattle.redn_top.proofs.RunLemmas.{AllPossible-push, events_text-push, some_before, some_behind}
use Rattle.redn_top.proofs.ScheduleRuns.{actions_both}

-- ---- the messages fit or they don't

pub never_first : (faults : List MessageFault) → faults ≡ [] → Never (first_fault faults)
never_first faults e s h = absurd (let f = sym e ∙ h.2 in cc)

module _ (image : Image) (words : List MessageWord) where
  abbrev its_words : List MessageFault
  its_words = word_faults (length image.receives) [] words

  abbrev its_lengths : List MessageFault
  its_lengths = length_faults image.receives (messages (length image.receives) words)

  pub fit_or_not : NoneHolds (message_reasons image words) ⊎ ((f : MessageFault) × First (message_reasons image words) (Message f))
  fit_or_not = by_words its_words refl
    where
      by_lengths : its_words ≡ [] → (l : List MessageFault) → its_lengths ≡ l → NoneHolds (message_reasons image words) ⊎ ((f : MessageFault) × First (message_reasons image words) (Message f))
      by_lengths none [] e = inl (never_first its_words none, (never_first its_lengths e, tt))
      by_lengths none (f ∷ more) e = inr (f, inr (never_first its_words none, inl (f, more, e, refl)))

      by_words : (l : List MessageFault) → its_words ≡ l → NoneHolds (message_reasons image words) ⊎ ((f : MessageFault) × First (message_reasons image words) (Message f))
      by_words [] e = by_lengths e its_lengths refl
      by_words (f ∷ more) e = inr (f, inl (f, more, e, refl))

-- ---- under the text of a schedule

module _ (image : Image) (words : List MessageWord) (text : List ℕ) (none : NoneHolds (message_reasons image words)) where
  abbrev first : State
  first = opened image words

  -- behind some actions that are possible come the others
  module _ (bad : Option ℕ) where
    goes_on : (done more : List Numbered) → Reads 1 (lines_of text) (done ++ more) bad → BeginningsAreRead → AllPossible first (actions_of done) → (s : Status) × (rest : List ℕ) × RunsImage image words text s (events_text first (actions_of done) ++ rest)
    goes_on done [] reads law can = by_bad bad (subst (λ (l : List Numbered). Reads 1 (lines_of text) l bad) (append-nil done) reads)
      where
        by_bad : (o : Option ℕ) → Reads 1 (lines_of text) done o → (s : Status) × (rest : List ℕ) × RunsImage image words text s (events_text first (actions_of done) ++ rest)
        by_bad None r = (Done, end_schedule, ToEnd none refl (record { lines = done; reads = r; all_possible = can; prints = refl }))
        by_bad (Some n) r = (BadSchedule n, [], Meets n none refl (record { lines = done; reads = r; all_possible = can; prints = append-nil (events_text first (actions_of done)) }))
    goes_on done (x ∷ more) reads law can = by_test (goes_on (done ++ x ∷ []) more reads_all law) (possible (reached first (actions_of done)) x.action) refl
      where
        events : List ℕ
        events = events_text first (actions_of done)

        line : List ℕ
        line = event_text (shown (reached first (actions_of done)) x.action)

        all : (done ++ x ∷ []) ++ more ≡ done ++ x ∷ more
        all = append_assoc done (x ∷ []) more

        reads_all : Reads 1 (lines_of text) ((done ++ x ∷ []) ++ more) bad
        reads_all = subst (λ (l : List Numbered). Reads 1 (lines_of text) l bad) (sym all) reads

        events_are : events_text first (actions_of (done ++ x ∷ [])) ≡ events ++ line
        events_are = ap (events_text first) (actions_both done (x ∷ [])) ∙ events_text-push first (actions_of done) x.action

        by_test : (AllPossible first (actions_of (done ++ x ∷ [])) → (s : Status) × (rest : List ℕ) × RunsImage image words text s (events_text first (actions_of (done ++ x ∷ [])) ++ rest)) → (b : Bool) → possible (reached first (actions_of done)) x.action ≡ b → (s : Status) × (rest : List ℕ) × RunsImage image words text s (events ++ rest)
        by_test others true e =
            let can_more = subst (AllPossible first) (sym (actions_both done (x ∷ []))) (AllPossible-push first (actions_of done) x.action can e) in
            let later = others can_more in
            (later.0, line ++ later.1, subst (λ (l : List ℕ). RunsImage image words text later.0 l) (ap (λ l. l ++ later.1) events_are ∙ append_assoc events line later.1) later.2)
        by_test others false e = (
          Step x.line,
          [],
          Stops x.line none refl (record {
            before = done;
            here = x;
            begins = (law text ((done ++ x ∷ []) ++ more) bad reads_all (done ++ x ∷ [])).1 (more, refl);
            number = refl;
            possible_before = can;
            not_possible = e;
            prints = append-nil events;
          }),
        )

  -- a run that broke off printed a part of something
  pub broke_off : EachTextIsRead → BeginningsAreRead → (printed : List ℕ) → BreaksOff first text printed → (part : IsPartBy (RunsImage image words text) printed) × (printed ++ part.1 ≢ [])
  broke_off each law printed b =
      let r = each text in
      let upto = b.before ++ b.here ∷ [] in
      let more = (law text r.0 r.1 r.2 upto).0 b.begins in
      let reads = subst (λ (l : List Numbered). Reads 1 (lines_of text) l r.1) more.1 r.2 in
      let later = goes_on r.1 upto more.0 reads law b.all_possible in
      let events = events_text first (actions_of b.before) in
      let line = event_text (shown (reached first (actions_of b.before)) b.here.action) in
      let rest = drop b.part line ++ later.1 in
      let events_are : events_text first (actions_of upto) ≡ events ++ line = ap (events_text first) (actions_both b.before (b.here ∷ [])) ∙ events_text-push first (actions_of b.before) b.here.action in
      let texts : events_text first (actions_of upto) ++ later.1 ≡ printed ++ rest =
      ap (λ l. l ++ later.1) (events_are ∙ ap (λ l. events ++ l) (sym (take-append-drop b.part line)) ∙ sym (append_assoc events (take b.part line) (drop b.part line)))
      ∙ append_assoc (events ++ take b.part line) (drop b.part line) later.1 ∙ ap (λ l. l ++ rest) (sym b.prints) in (
        (later.0, rest, subst (λ (l : List ℕ). RunsImage image words text later.0 l) texts later.2),
        λ e. some_before (events_text first (actions_of upto)) later.1 (λ n. some_behind events line b.shows (sym events_are ∙ n)) (texts ∙ e),
      )

-- a run under a text ends so or so
pub any_run : EachTextIsRead → BeginningsAreRead → (image : Image) (words : List MessageWord) (text : List ℕ) → IsPartBy (RunsImage image words text) []
any_run each law image words text = elim (fit_or_not image words) [
  | inl none ↦ let r = each text in goes_on image words text none r.1 [] r.0 r.2 law tt
  | inr bad ↦ (Message bad.0, [], BadMessages bad.1 refl)
]

-- ---- by a plan that makes the actions

pub any_made : (image : Image) (words : List MessageWord) (plan : Plan) → IsPartBy (RunsMade image words plan) []
any_made image words plan = elim (fit_or_not image words) [
  | inl none ↦ (Done, made_text (opened image words) (steps_asked plan) (planned plan (opened image words)), MadeEnd none refl refl)
  | inr bad ↦ (Message bad.0, [], MadeMessages bad.1 refl)
]
