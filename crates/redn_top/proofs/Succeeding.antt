-- Where messages, lines and files are good, all is done.
use Rattle.std.proofs.Common.{◌≡◌, ℕ, Bool, true, cond, List, [], ◌∷◌, ◌++◌, inl, inr, refl, sym, ap, subst, ◌∙◌, append_assoc}
use Rattle.std.specs.Prelude.{Option, Some, None}
use Rattle.std.specs.Option.{option_map}
use Rattle.std.specs.Cmp.Lexicographic.{nat_list_cmp_total}
use Rattle.std.specs.FinMap.{get-insert}
use Rattle.std.proofs.lemmas.Cmp.{eq_by_cmp_equiv}
use Rattle.std.proofs.lemmas.Bool.{true≢false}
use Rattle.redn_words.specs.declared.types.Action.{Action}
use Rattle.redn_words.specs.States.{State}
use Rattle.redn_words.specs.Steps.{possible, after}
use Rattle.redn_words.specs.Runs.{AllPossible, reached}
use Rattle.redn_sched.specs.Laws.{EachTextIsReadOnce, BeginningsAreRead}
use Rattle.redn_outside.specs.Files.{Files, file_at, with_file}
use Rattle.redn_outside.specs.Seen.{StoreSeen, SinkSeen}
use Rattle.redn_image.specs.Rules.{Image}
use Rattle.redn_command.specs.Words.{Command, Check, Compile, Run, Go, Disasm, Assemble, Gen, Plan, Schedule, Fair, Shuffle, RunWords, MessageWord}
use Rattle.redn_top.specs.declared.status.Status.{Status}
use Rattle.redn_top.specs.declared.status.Status.TheVariants.{Done, Words, Schedule as BadSchedule, ReadFailed, Missing, WriteFailed, Long, Text, Program as ProgramRefused, Image as ImageRefused, Memory, Step, Message}
use Rattle.redn_top.specs.RunText.{actions_of, RunsToEnd, MeetsBad, StopsAt}
use Rattle.redn_top.specs.Reasons.{Input, IsInput, IsPlanInput, NoneHolds, message_reasons, reasons}
use Rattle.redn_top.specs.Answers.{Ran, RunsImage, BadMessages, ToEnd, Stops, Meets, RunsMade, MadeMessages, MadeEnd, kept, with_written, GoodSchedule, IsGood, Answered, Ends, IsFinish, DoneOrWant, NoneFailed, opened}
use Rattle.redn_top.proofs.ScheduleRuns.{actions_both}
use Rattle.redn_top.proofs.OneReason.{none_first, same_reasons, completes_so}

possible_at : (s : State) (acts more : List Action) (a : Action) → AllPossible s (acts ++ a ∷ more) → possible (reached s acts) a ≡ true
possible_at s [] more a h = h.0
possible_at s (x ∷ acts) more a h = possible_at (after s x) acts more a h.1

module _ (once : EachTextIsReadOnce) (law : BeginningsAreRead) where
  -- a text that runs to its end
  module _ (s : State) (text : List ℕ) (whole : List ℕ) (e : RunsToEnd s text whole) where
    never_stops : (line : ℕ) (printed : List ℕ) → StopsAt s text line printed → ⊥
    never_stops line printed x =
        let upto = x.before ++ x.here ∷ [] in
        let more = (law text e.lines None e.reads upto).0 x.begins in
        let lines : e.lines ≡ x.before ++ x.here ∷ more.0 = more.1 ∙ append_assoc x.before (x.here ∷ []) more.0 in
        let all = subst (AllPossible s) (ap actions_of lines ∙ actions_both x.before (x.here ∷ more.0)) e.all_possible in
        true≢false (sym (possible_at s (actions_of x.before) (actions_of more.0) x.here.action all) ∙ x.not_possible)

    never_bad : (line : ℕ) (printed : List ℕ) → MeetsBad s text line printed → ⊥
    never_bad line printed x = let other = (once text e.lines x.lines None (Some line) e.reads x.reads).1 in absurd (cc)

  -- a good run is done
  image_done : (image : Image) (words : List MessageWord) (text whole : List ℕ) (t : Status) (printed : List ℕ) → NoneHolds (message_reasons image words) → RunsToEnd (opened image words) text whole → RunsImage image words text t printed → t ≡ Done
  image_done image words text whole t printed none e (BadMessages h k) = absurd (none_first (message_reasons image words) none t h)
  image_done image words text whole t printed none e (ToEnd n is h) = is
  image_done image words text whole t printed none e (Stops line n is h) = absurd (never_stops (opened image words) text whole e line printed h)
  image_done image words text whole t printed none e (Meets line n is h) = absurd (never_bad (opened image words) text whole e line printed h)

  made_done : (image : Image) (words : List MessageWord) (plan : Plan) (t : Status) (printed : List ℕ) → NoneHolds (message_reasons image words) → RunsMade image words plan t printed → t ≡ Done
  made_done image words plan t printed none (MadeMessages h k) = absurd (none_first (message_reasons image words) none t h)
  made_done image words plan t printed none (MadeEnd n is h) = is

  run_done : (files : Files) (found other : Option (List ℕ)) (p : Plan) (words : List MessageWord) (image : Image) (t : Status) (printed : List ℕ) → IsPlanInput (Some files) p found → IsPlanInput (Some files) p other → NoneHolds (message_reasons image words) → GoodSchedule found p (opened image words) → Ran other p words image t printed → t ≡ Done
  run_done files found other (Schedule file) words image t printed a b none good ran =
      let same : Some good.0 ≡ Some ran.text = sym good.2 ∙ sym a ∙ b ∙ ran.found in
      let text : good.0 ≡ ran.text = cc in
      image_done image words ran.text good.1 t printed none (subst (λ (x : List ℕ). RunsToEnd (opened image words) x good.1) text good.3) ran.runs
  run_done files found other (Fair steps) words image t printed a b none good ran = made_done image words (Fair steps) t printed none ran
  run_done files found other (Shuffle number steps) words image t printed a b none good ran = made_done image words (Shuffle number steps) t printed none ran

  module _ (before now : StoreSeen) (out out_now : SinkSeen) (files : Files) (told : before.told ≡ Some files) (i : Input) where
    -- run IMAGE
    ran_done : (name : List ℕ) (r : RunWords) (t : Status) → IsInput (Some files) (Run name r) i → IsGood (Run name r) i now.told → ((j : Input) → IsInput (Some files) (Run name r) j → NoneHolds (reasons (Run name r) j)) → Answered (Run name r) before now out out_now t → t ≡ Done
    ran_done name r t is good each a =
        let its = subst (λ (f : Option Files). IsInput f (Run name r) a.input) told a.is_input in
        elim a.answers [
          | inl x ↦ absurd (none_first (reasons (Run name r) a.input) (each a.input its) t x.0)
          | inr x ↦
              let f = x.1 in
              let g = good f.0 f.1 (sym is.0 ∙ its.0 ∙ f.2) f.3 in
              run_done files i.schedule a.input.schedule r.plan r.messages f.1 t a.printed is.1 its.1 g.0 g.1 f.4
        ]

    -- go FILE IMAGE, where no record was written
    gone_done : (name file : List ℕ) (r : RunWords) (t : Status) → IsInput (Some files) (Go file name r) i → IsGood (Go file name r) i now.told → ((j : Input) → IsInput (Some files) (Go file name r) j → NoneHolds (reasons (Go file name r) j)) → ((image : Image) → kept r image t ≡ []) → Answered (Go file name r) before now out out_now t → t ≡ Done
    gone_done name file r t is good each unkept a =
        let its = subst (λ (f : Option Files). IsInput f (Go file name r) a.input) told a.is_input in
        elim a.answers [
          | inl x ↦ absurd (none_first (reasons (Go file name r) a.input) (each a.input its) t x.0)
          | inr x ↦
              let f = x.1 in
              let bytes = f.2.bytes in
              let wrote : a.written ≡ record { name = name; bytes = bytes } ∷ [] = f.4 ∙ ap (λ k. f.1 ++ k) (unkept f.0) ∙ ap (λ w. w ++ []) f.2.writes in
              let holds : now.told ≡ Some (with_file name bytes files) = a.holds ∙ ap (λ w. option_map (with_written w) before.told) wrote ∙ ap (option_map (with_written (record { name = name; bytes = bytes } ∷ []))) told in
              let there : file_at (with_file name bytes files) name ≡ Some bytes = get-insert {X = List ℕ} nat_list_cmp_total files name bytes name ∙ ap (λ (b : Bool). cond b (Some bytes) (file_at files name)) ((eq_by_cmp_equiv nat_list_cmp_total).refl name) in
              let g = good (with_file name bytes files) bytes f.0 holds there f.2.spells in
              run_done files i.schedule a.input.schedule r.plan r.messages f.0 t a.printed is.1 its.1 g.0 g.1 f.3
        ]

  module _ (before now : StoreSeen) (out out_now : SinkSeen) (files : Files) (told : before.told ≡ Some files) (i : Input) where
    same_none : (c : Command) (i : Input) → IsInput (Some files) c i → NoneHolds (reasons c i) → (j : Input) → IsInput (Some files) c j → NoneHolds (reasons c j)
    same_none c i is none j its = same_reasons files c i j is its NoneHolds none

    -- how it ends
    finished : (c : Command) → IsInput (Some files) c i → NoneHolds (reasons c i) → IsGood c i now.told → (t : Status) → Ends c before now out out_now t → IsFinish c t → DoneOrWant t
    finished (Check file) is none good t e h = inl h
    finished (Compile file name) is none good t e h = inl h
    finished (Disasm name) is none good t e h = inl h
    finished (Assemble file name) is none good t e h = inl h
    finished (Gen number name) is none good t e h = inl h
    finished (Run name r) is none good Done e h = inl refl
    finished (Run name r) is none good (BadSchedule line) e h = inl (ran_done before now out out_now files told i name r (BadSchedule line) is good (same_none (Run name r) i is none) e)
    finished (Run name r) is none good (Step line) e h = inl (ran_done before now out out_now files told i name r (Step line) is good (same_none (Run name r) i is none) e)
    finished (Run name r) is none good (Message fault) e h = inl (ran_done before now out out_now files told i name r (Message fault) is good (same_none (Run name r) i is none) e)
    finished (Run name r) is none good Words e h = absurd h
    finished (Run name r) is none good ReadFailed e h = absurd h
    finished (Run name r) is none good Missing e h = absurd h
    finished (Run name r) is none good WriteFailed e h = absurd h
    finished (Run name r) is none good (Long seen limit) e h = absurd h
    finished (Run name r) is none good (Text fault) e h = absurd h
    finished (Run name r) is none good (ProgramRefused rule at seen) e h = absurd h
    finished (Run name r) is none good (ImageRefused fault) e h = absurd h
    finished (Run name r) is none good Memory e h = absurd h
    finished (Go file name r) is none good Done e h = inl refl
    finished (Go file name r) is none good (BadSchedule line) e h = inl (gone_done before now out out_now files told i name file r (BadSchedule line) is good (same_none (Go file name r) i is none) (λ image. refl) e)
    finished (Go file name r) is none good (Step line) e h = inl (gone_done before now out out_now files told i name file r (Step line) is good (same_none (Go file name r) i is none) (λ image. refl) e)
    finished (Go file name r) is none good (Message fault) e h = inl (gone_done before now out out_now files told i name file r (Message fault) is good (same_none (Go file name r) i is none) (λ image. refl) e)
    finished (Go file name r) is none good Words e h = absurd h
    finished (Go file name r) is none good ReadFailed e h = absurd h
    finished (Go file name r) is none good Missing e h = absurd h
    finished (Go file name r) is none good WriteFailed e h = absurd h
    finished (Go file name r) is none good (Long seen limit) e h = absurd h
    finished (Go file name r) is none good (Text fault) e h = absurd h
    finished (Go file name r) is none good (ProgramRefused rule at seen) e h = absurd h
    finished (Go file name r) is none good (ImageRefused fault) e h = absurd h
    finished (Go file name r) is none good Memory e h = absurd h

    pub succeeds_so : (c : Command) → IsInput (Some files) c i → NoneHolds (reasons c i) → IsGood c i now.told → NoneFailed before now out out_now → (t : Status) → Ends c before now out out_now t → DoneOrWant t
    succeeds_so c is none good calm t e = elim (completes_so c before now out out_now files told i is t none calm e) [
      | inl h ↦ finished c is none good t e h
      | inr h ↦ inr h
    ]
