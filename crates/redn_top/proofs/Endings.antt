-- How runs end, by what their parts answer.
use Rattle.std.proofs.Common.{◌≡◌, ℕ, ◌≤◌, List, [], ◌∷◌, ◌++◌, length, inl, inr, refl, sym, ap, subst, ◌∙◌, append-nil}
use Rattle.std.specs.Prelude.{Option, Some, None, Result, Ok, Err, OnOk, IfErr}
use Rattle.std.specs.Option.{option_map}
use Rattle.redn_kernel.specs.declared.types.Program.{Program}
use Rattle.redn_outside.specs.Counts.{Rose}
use Rattle.redn_outside.specs.Files.{Files, OthersStay, with_file}
use Rattle.redn_outside.specs.Seen.{StoreSeen, SinkSeen, KeepsFiles}
use Rattle.redn_image.specs.Rules.{Image}
use Rattle.redn_image.specs.Spelling.{Spells, spelling}
use Rattle.redn_image.specs.Faithful.{Faithful}
use Rattle.redn_sched.specs.ScheduleText.{recorded}
use Rattle.redn_words.specs.declared.types.Action.{Action}
use Rattle.redn_command.specs.Words.{Command, Check, Compile, Run, Go, Disasm, Assemble, Gen, Plan, Schedule, Fair, Shuffle, RunWords, MessageWord}
use Rattle.redn_top.specs.declared.limits.TheConstants.{MAX_FILE, MAX_IMAGE, MAX_SCHEDULE}
use Rattle.redn_top.specs.declared.status.Status.{Status}
use Rattle.redn_top.specs.declared.status.Status.TheVariants.{Done, Words, Schedule as BadSchedule, ReadFailed, Missing, WriteFailed, Long, Text, Program as ProgramRefused, Image as ImageRefused, Memory, Step, Message}
use Rattle.redn_top.specs.Sources.{Means}
use Rattle.redn_top.specs.RunText.{planned}
use Rattle.redn_top.specs.Reasons.{Input, IsInput, IsPlanInput, NoneHolds, read_reasons, plan_reads, run_reads, source_reasons, image_reasons, reasons}
use Rattle.redn_top.specs.Answers.{Written, Compiled, Ran, RunsMade, RunsImage, opened, kept, with_written, Answered, BrokeOff, Ends, OthersStayThan, Spares, status_of}
use Rattle.redn_top.specs.Refusals.{IsHeld, IsPlanHeld, HasText, IsRunnable, IsFew, MakesActions, RunReadRefused, Refuses, ImageRan, MadeWhole, MadeStopped, WriteRefused, PrintedPart, RunEnded, RunBroke, RunEnds, run_of}
use Rattle.redn_top.proofs.FirstReason.{first_here, first_behind, none_both, refuses_map, reads_map, read_passed, rose_from}
use Rattle.redn_top.proofs.Ending.{written_nothing, written_one, reads_end, contents_end, write_ends}

-- ---- a run by its plan

-- under the text of a schedule
module _ (file : List ℕ) (keep : Option (List ℕ)) (words : List MessageWord) (image : Image) (text : List ℕ) (none : keep ≡ None) (before : StoreSeen) (out out_now : SinkSeen) where
  abbrev asked : RunWords
  asked = run_of (Schedule file) keep words

  nothing_kept : kept asked image Done ≡ []
  nothing_kept = rw none refl

  broke : PrintedPart (RunsImage image words text) out out_now → RunBroke (Some text) asked image before before out out_now
  broke h = record { printed = h.0; part = (h.1.0, h.1.1, record { text = text; found = refl; runs = h.1.2 }); holds = refl; prints = h.2 }

  under_schedule : (s : Status) → ImageRan image words text out out_now s → RunEnds (Some text) asked image before before out out_now s
  unfolding broke
  under_schedule Done h = record { printed = h.0; ran = record { text = text; found = refl; runs = h.1 }; holds = written_nothing before.told ∙ ap (λ (w : List Written). option_map (with_written w) before.told) (sym nothing_kept); prints = h.2 }
  under_schedule (Step line) h = record { printed = h.0; ran = record { text = text; found = refl; runs = h.1 }; holds = written_nothing before.told; prints = h.2 }
  under_schedule (BadSchedule line) h = record { printed = h.0; ran = record { text = text; found = refl; runs = h.1 }; holds = written_nothing before.told; prints = h.2 }
  under_schedule (Message fault) h = record { printed = h.0; ran = record { text = text; found = refl; runs = h.1 }; holds = written_nothing before.told; prints = h.2 }
  under_schedule WriteFailed h = inl (h.0, record { broke = broke h.1.0; some = h.1.1 })
  under_schedule Memory h = broke h
  under_schedule Words h = absurd h
  under_schedule ReadFailed h = absurd h
  under_schedule Missing h = absurd h
  under_schedule (Long seen limit) h = absurd h
  under_schedule (Text fault) h = absurd h
  under_schedule (ProgramRefused rule at seen) h = absurd h
  under_schedule (ImageRefused fault) h = absurd h

pub schedule_ends : (p : Plan) (keep : Option (List ℕ)) (words : List MessageWord) (image : Image) (text : List ℕ) → HasText p (Some text) → IsRunnable p keep → (before : StoreSeen) (out out_now : SinkSeen) (s : Status) → ImageRan image words text out out_now s → RunEnds (Some text) (run_of p keep words) image before before out out_now s
schedule_ends (Schedule file) keep words image text has runs before out out_now s h = under_schedule file keep words image text runs before out out_now s h
schedule_ends (Fair steps) keep words image text has runs before out out_now s h = absurd (cc)
schedule_ends (Shuffle number steps) keep words image text has runs before out out_now s h = absurd (cc)

ran_made : (p : Plan) (words : List MessageWord) (image : Image) → HasText p None → (s : Status) (printed : List ℕ) → RunsMade image words p s printed → Ran None p words image s printed
ran_made (Schedule file) words image has s printed ran = absurd has
ran_made (Fair steps) words image has s printed ran = ran
ran_made (Shuffle number steps) words image has s printed ran = ran

-- by a plan that makes the actions
module _ (p : Plan) (keep : Option (List ℕ)) (words : List MessageWord) (image : Image) (has : HasText p None) (before : StoreSeen) (out out_now : SinkSeen) where
  made_broke : PrintedPart (RunsMade image words p) out out_now → RunBroke None (run_of p keep words) image before before out out_now
  made_broke h = record { printed = h.0; part = (h.1.0, h.1.1, ran_made p words image has h.1.0 (h.0 ++ h.1.1) h.1.2); holds = refl; prints = h.2 }

  pub stopped_ends : (s : Status) → MadeStopped image words p out out_now s → RunEnds None (run_of p keep words) image before before out out_now s
  unfolding made_broke
  stopped_ends (Message fault) h = record { printed = h.0; ran = ran_made p words image has (Message fault) h.0 h.1; holds = written_nothing before.told; prints = h.2 }
  stopped_ends WriteFailed h = inl (h.0, record { broke = made_broke h.1.0; some = h.1.1 })
  stopped_ends Memory h = made_broke h
  stopped_ends Done h = absurd h
  stopped_ends Words h = absurd h
  stopped_ends ReadFailed h = absurd h
  stopped_ends Missing h = absurd h
  stopped_ends (Long seen limit) h = absurd h
  stopped_ends (Text fault) h = absurd h
  stopped_ends (ProgramRefused rule at seen) h = absurd h
  stopped_ends (ImageRefused fault) h = absurd h
  stopped_ends (BadSchedule line) h = absurd h
  stopped_ends (Step line) h = absurd h

  -- all was put, and the record wasn't written
  pub whole_made : MadeWhole image words p out out_now → (now : StoreSeen) → now.told ≡ before.told → RunBroke None (run_of p keep words) image before now out out_now
  whole_made whole now e = record { printed = whole.0; part = (Done, [], ran_made p words image has Done (whole.0 ++ []) (subst (λ (l : List ℕ). RunsMade image words p Done l) (sym (append-nil whole.0)) whole.1)); holds = e; prints = whole.2 }

  module _ (name : List ℕ) (asked : keep ≡ Some name) (made : List Action) (are : made ≡ planned p (opened image words)) (whole : MadeWhole image words p out out_now) (now : StoreSeen) where
    abbrev last : Written
    last = record { name = name; bytes = recorded made }

    one_kept : kept (run_of p keep words) image Done ≡ last ∷ []
    one_kept = ap (λ (o : Option (List ℕ)). kept (run_of p o words) image Done) asked ∙ ap (λ (l : List Action). let w : Written = record { name = name; bytes = recorded l } in w ∷ []) (sym are)

    pub kept_ends : now.told ≡ option_map (with_file name (recorded made)) before.told → RunEnds None (run_of p keep words) image before now out out_now Done
    kept_ends e =
        record { printed = whole.0; ran = ran_made p words image has Done whole.0 whole.1; holds = e ∙ written_one name (recorded made) before.told ∙ ap (λ (w : List Written). option_map (with_written w) before.told) (sym one_kept); prints = whole.2 }

    pub lost_ends : OthersStay name before.told now.told → (s : Status) → WriteRefused before now s → RunEnds None (run_of p keep words) image before now out out_now s
    lost_ends others WriteFailed h = inr (record { printed = whole.0; last = last; failed = h; ran = ran_made p words image has Done whole.0 whole.1; record_is = one_kept; others = others; prints = whole.2 })
    lost_ends others Memory h = whole_made whole now (ap (λ (x : StoreSeen). x.told) h)
    lost_ends others Done h = absurd h
    lost_ends others Words h = absurd h
    lost_ends others ReadFailed h = absurd h
    lost_ends others Missing h = absurd h
    lost_ends others (Long seen limit) h = absurd h
    lost_ends others (Text fault) h = absurd h
    lost_ends others (ProgramRefused rule at seen) h = absurd h
    lost_ends others (ImageRefused fault) h = absurd h
    lost_ends others (BadSchedule line) h = absurd h
    lost_ends others (Step line) h = absurd h
    lost_ends others (Message fault) h = absurd h

    pub record_ends : OthersStay name before.told now.told → (r : Result (Unit {0}) Status) → OnOk r (now.told ≡ option_map (with_file name (recorded made)) before.told) → IfErr r (WriteRefused before now) → RunEnds None (run_of p keep words) image before now out out_now (status_of r)
    record_ends others (Ok done) e h = kept_ends e
    record_ends others (Err s) e h = lost_ends others s h

-- ---- what is read before

pub has_text : (told : Option Files) (p : Plan) (found : Option (List ℕ)) → IsPlanHeld told p found → HasText p found
has_text told (Schedule file) None h = absurd h
has_text told (Schedule file) (Some text) h = h.fits
has_text told (Fair steps) found h = h
has_text told (Shuffle number steps) found h = h

plan_input : (told : Option Files) (p : Plan) (found : Option (List ℕ)) → IsPlanHeld told p found → IsPlanInput told p found
plan_input told (Schedule file) None h = absurd h
plan_input told (Schedule file) (Some text) h = h.found
plan_input told (Fair steps) found h = tt
plan_input told (Shuffle number steps) found h = tt

plan_passed : (told : Option Files) (p : Plan) (found : Option (List ℕ)) → IsPlanHeld told p found → NoneHolds (plan_reads p found)
plan_passed told (Schedule file) None h = absurd h
plan_passed told (Schedule file) (Some text) h = read_passed text MAX_SCHEDULE h.fits
plan_passed told (Fair steps) found h = tt
plan_passed told (Shuffle number steps) found h = tt

run_input : List ℕ → Option (List ℕ) → Input
run_input bytes schedule = record { first = Some bytes; schedule = schedule }

-- ---- run IMAGE

module _ (name : List ℕ) (r : RunWords) (before mid : StoreSeen) (out : SinkSeen) (keeps : KeepsFiles before mid) where
  pub run_unread : (s : Status) → RunReadRefused before.told name MAX_IMAGE r.plan before mid s → Ends (Run name r) before mid out out s
  run_unread s x =
      let i : Input = record { first = x.file; schedule = x.schedule } in
      reads_end (Run name r) before mid out keeps.told i (x.found, x.schedule_found) s
      (reads_map (run_reads x.file MAX_IMAGE r.plan x.schedule) (reasons (Run name r) i) (first_here (run_reads x.file MAX_IMAGE r.plan x.schedule) (image_reasons x.file)) before mid s x.refuses)

  module _ (bytes : List ℕ) (schedule : Option (List ℕ)) (held : IsHeld before.told name MAX_IMAGE bytes) (plan_held : IsPlanHeld before.told r.plan schedule) where
    run_passed : NoneHolds (run_reads (Some bytes) MAX_IMAGE r.plan schedule)
    run_passed = none_both (read_reasons (Some bytes) MAX_IMAGE) (plan_reads r.plan schedule) (read_passed bytes MAX_IMAGE held.fits) (plan_passed before.told r.plan schedule plan_held)

    pub run_refused : (s : Status) → Refuses (image_reasons (Some bytes)) s → Ends (Run name r) before mid out out s
    unfolding run_input
    run_refused s h =
        contents_end (Run name r) before mid out keeps.told (run_input bytes schedule) (held.found, plan_input before.told r.plan schedule plan_held) s
        (refuses_map (image_reasons (Some bytes)) (reasons (Run name r) (run_input bytes schedule)) (λ t. first_behind (run_reads (Some bytes) MAX_IMAGE r.plan schedule) (image_reasons (Some bytes)) t run_passed) s h)

    module _ (image : Image) (spells : Spells bytes image) (accepted : NoneHolds (image_reasons (Some bytes))) (now : StoreSeen) (out_now : SinkSeen) where
      run_is : IsInput before.told (Run name r) (run_input bytes schedule)
      unfolding run_input
      run_is = (held.found, plan_input before.told r.plan schedule plan_held)

      run_none : NoneHolds (reasons (Run name r) (run_input bytes schedule))
      unfolding run_input
      run_none = none_both (run_reads (Some bytes) MAX_IMAGE r.plan schedule) (image_reasons (Some bytes)) run_passed accepted

      run_answered : (s : Status) → RunEnded schedule r image mid now out out_now s → Answered (Run name r) before now out out_now s
      unfolding run_input
      run_answered s h =
          record {
            input = run_input bytes schedule;
            printed = h.printed;
            written = kept r image s;
            is_input = run_is;
            answers = inr (run_none, (bytes, image, refl, spells, h.ran, refl));
            holds = h.holds ∙ ap (option_map (with_written (kept r image s))) keeps.told;
            prints = h.prints;
          }

      run_broke : RunBroke schedule r image mid now out out_now → BrokeOff (Run name r) before now out out_now
      unfolding run_input
      run_broke h =
          record {
            input = run_input bytes schedule;
            printed = h.printed;
            written = [];
            is_input = run_is;
            none = run_none;
            part = record { status = h.part.0; rest = h.part.1; later = kept r image h.part.0; finishes = (bytes, image, refl, spells, h.part.2, refl) };
            behind = tt;
            holds = h.holds ∙ keeps.told ∙ written_nothing before.told;
            prints = h.prints;
          }

      pub run_ends : (s : Status) → RunEnds schedule r image mid now out out_now s → Ends (Run name r) before now out out_now s
      unfolding run_input run_broke
      run_ends Done h = run_answered Done h
      run_ends (BadSchedule line) h = run_answered (BadSchedule line) h
      run_ends (Step line) h = run_answered (Step line) h
      run_ends (Message fault) h = run_answered (Message fault) h
      run_ends WriteFailed (inl h) = inr (h.0, record { broke = run_broke h.1.broke; some = h.1.some })
      run_ends WriteFailed (inr h) = inl (
        (subst (λ (n : ℕ). Rose n now.counts.write_faults) keeps.write_faults h.failed.0, sym keeps.reliable ∙ h.failed.1),
        inr (record {
          input = run_input bytes schedule;
          printed = h.printed;
          written = [];
          last = h.last;
          is_input = run_is;
          none = run_none;
          part = record { status = Done; rest = []; later = []; finishes = (bytes, image, refl, spells, subst (λ (l : List ℕ). Ran schedule r.plan r.messages image Done l) (sym (append-nil h.printed)) h.ran, sym h.record_is) };
          behind = tt;
          others = subst (λ (t : Option Files). OthersStay h.last.name t now.told) (keeps.told ∙ written_nothing before.told) h.others;
          prints = h.prints;
        }),
      )
      run_ends Memory h = inr (run_broke h)
      run_ends Words h = absurd h
      run_ends ReadFailed h = absurd h
      run_ends Missing h = absurd h
      run_ends (Long seen limit) h = absurd h
      run_ends (Text fault) h = absurd h
      run_ends (ProgramRefused rule at seen) h = absurd h
      run_ends (ImageRefused fault) h = absurd h

-- ---- go FILE IMAGE

module _ (file name : List ℕ) (r : RunWords) (before mid : StoreSeen) (out : SinkSeen) (keeps : KeepsFiles before mid) where
  pub go_unread : (s : Status) → RunReadRefused before.told file MAX_FILE r.plan before mid s → Ends (Go file name r) before mid out out s
  go_unread s x =
      let i : Input = record { first = x.file; schedule = x.schedule } in
      reads_end (Go file name r) before mid out keeps.told i (x.found, x.schedule_found) s
      (reads_map (run_reads x.file MAX_FILE r.plan x.schedule) (reasons (Go file name r) i) (first_here (run_reads x.file MAX_FILE r.plan x.schedule) (source_reasons x.file)) before mid s x.refuses)

  module _ (text : List ℕ) (schedule : Option (List ℕ)) (held : IsHeld before.told file MAX_FILE text) (plan_held : IsPlanHeld before.told r.plan schedule) where
    go_passed : NoneHolds (run_reads (Some text) MAX_FILE r.plan schedule)
    go_passed = none_both (read_reasons (Some text) MAX_FILE) (plan_reads r.plan schedule) (read_passed text MAX_FILE held.fits) (plan_passed before.told r.plan schedule plan_held)

    go_is : IsInput before.told (Go file name r) (run_input text schedule)
    unfolding run_input
    go_is = (held.found, plan_input before.told r.plan schedule plan_held)

    pub go_refused : (s : Status) → Refuses (source_reasons (Some text)) s → Ends (Go file name r) before mid out out s
    unfolding run_input
    go_refused s h =
        contents_end (Go file name r) before mid out keeps.told (run_input text schedule) go_is s
        (refuses_map (source_reasons (Some text)) (reasons (Go file name r) (run_input text schedule)) (λ t. first_behind (run_reads (Some text) MAX_FILE r.plan schedule) (source_reasons (Some text)) t go_passed) s h)

    module _ (p : Program) (means : Means text p) (accepted : NoneHolds (source_reasons (Some text))) where
      go_none : NoneHolds (reasons (Go file name r) (run_input text schedule))
      unfolding run_input
      go_none = none_both (run_reads (Some text) MAX_FILE r.plan schedule) (source_reasons (Some text)) go_passed accepted

      pub go_unwritten : (now : StoreSeen) → OthersStay name mid.told now.told → (s : Status) → WriteRefused mid now s → Ends (Go file name r) before now out out s
      go_unwritten now others s h = write_ends (Go file name r) before mid now out keeps (run_input text schedule) go_is go_none name refl others s h

      module _ (image : Image) (faithful : Faithful p image) (small : length (spelling image) ≤ MAX_IMAGE) (wrote : StoreSeen) (w : (bytes : List ℕ) × Spells bytes image × (wrote.told ≡ option_map (with_file name bytes) mid.told)) (count : mid.counts.write_faults ≤ wrote.counts.write_faults) (reliable : wrote.reliable ≡ mid.reliable) (now : StoreSeen) (out_now : SinkSeen) where
        first : List Written
        first = record { name = name; bytes = w.0 } ∷ []

        go_compiled : Compiled (run_input text schedule) name image first
        unfolding run_input first
        go_compiled = record { source = text; program = p; bytes = w.0; found = refl; means = means; spells = w.1; faithful = faithful; small = subst (λ (b : List ℕ). length b ≤ MAX_IMAGE) (sym w.1.bytes_are) small; writes = refl }

        go_wrote : wrote.told ≡ option_map (with_written first) before.told
        unfolding first
        go_wrote = w.2 ∙ ap (option_map (with_file name w.0)) keeps.told ∙ written_one name w.0 before.told

        both_written : (more : List Written) (told : Option Files) → option_map (with_written more) (option_map (with_written first) told) ≡ option_map (with_written (first ++ more)) told
        unfolding first
        both_written more None = refl
        both_written more (Some files) = refl

        go_answered : (s : Status) → RunEnded schedule r image wrote now out out_now s → Answered (Go file name r) before now out out_now s
        unfolding run_input
        go_answered s h =
            record {
              input = run_input text schedule;
              printed = h.printed;
              written = first ++ kept r image s;
              is_input = go_is;
              answers = inr (go_none, (image, first, go_compiled, h.ran, refl));
              holds = h.holds ∙ ap (option_map (with_written (kept r image s))) go_wrote ∙ both_written (kept r image s) before.told;
              prints = h.prints;
            }

        not_first : (more : List Written) → first ++ more ≡ [] → ⊥
        unfolding first
        not_first more e = absurd (cc)

        go_broke : RunBroke schedule r image wrote now out out_now → BrokeOff (Go file name r) before now out out_now
        unfolding run_input
        go_broke h =
            record {
              input = run_input text schedule;
              printed = h.printed;
              written = first;
              is_input = go_is;
              none = go_none;
              part = record { status = h.part.0; rest = h.part.1; later = kept r image h.part.0; finishes = (image, first, go_compiled, h.part.2, refl) };
              behind = λ e. absurd (not_first [] (append-nil first ∙ e));
              holds = h.holds ∙ go_wrote;
              prints = h.prints;
            }

        pub go_ends : (s : Status) → RunEnds schedule r image wrote now out out_now s → Ends (Go file name r) before now out out_now s
        unfolding run_input go_broke
        go_ends Done h = go_answered Done h
        go_ends (BadSchedule line) h = go_answered (BadSchedule line) h
        go_ends (Step line) h = go_answered (Step line) h
        go_ends (Message fault) h = go_answered (Message fault) h
        go_ends WriteFailed (inl h) = inr (h.0, record { broke = go_broke h.1.broke; some = h.1.some })
        go_ends WriteFailed (inr h) = inl (
          (subst (λ (n : ℕ). Rose n now.counts.write_faults) keeps.write_faults (rose_from mid.counts.write_faults wrote.counts.write_faults now.counts.write_faults count h.failed.0), sym keeps.reliable ∙ sym reliable ∙ h.failed.1),
          inr (record {
            input = run_input text schedule;
            printed = h.printed;
            written = first;
            last = h.last;
            is_input = go_is;
            none = go_none;
            part = record { status = Done; rest = []; later = []; finishes = (image, first, go_compiled, subst (λ (l : List ℕ). Ran schedule r.plan r.messages image Done l) (sym (append-nil h.printed)) h.ran, append-nil (first ++ h.last ∷ []) ∙ ap (λ (l : List Written). first ++ l) (sym h.record_is)) };
            behind = λ e. absurd (not_first [] (append-nil first ∙ e));
            others = subst (λ (t : Option Files). OthersStay h.last.name t now.told) go_wrote h.others;
            prints = h.prints;
          }),
        )
        go_ends Memory h = inr (go_broke h)
        go_ends Words h = absurd h
        go_ends ReadFailed h = absurd h
        go_ends Missing h = absurd h
        go_ends (Long seen limit) h = absurd h
        go_ends (Text fault) h = absurd h
        go_ends (ProgramRefused rule at seen) h = absurd h
        go_ends (ImageRefused fault) h = absurd h

-- ---- where nothing is done

stays : (name : List ℕ) (told : Option Files) → OthersStay name told told
stays name told = record { tells = refl; others = λ other not. refl }

pub others_stay : (first keep : Option (List ℕ)) (before now : StoreSeen) → now.told ≡ before.told → OthersStayThan first keep before now
others_stay None None before now e = e
others_stay (Some name) None before now e = subst (λ (t : Option Files). OthersStay name before.told t) (sym e) (stays name before.told)
others_stay None (Some name) before now e = subst (λ (t : Option Files). OthersStay name before.told t) (sym e) (stays name before.told)
others_stay (Some name) (Some other) before now e = (before.told, stays name before.told, subst (λ (t : Option Files). OthersStay other before.told t) (sym e) (stays other before.told))

pub spares_same : (c : Command) (s : StoreSeen) → Spares c s s
spares_same (Check file) s = refl
spares_same (Compile file name) s = stays name s.told
spares_same (Run image r) s = others_stay None r.keep s s refl
spares_same (Go file name r) s = others_stay (Some name) r.keep s s refl
spares_same (Disasm name) s = refl
spares_same (Assemble listing name) s = stays name s.told
spares_same (Gen number name) s = stays name s.told
