-- Words mean one command, and what it finds gives one reason.
use Rattle.std.proofs.Common.{◌≡◌, ℕ, ◌≤◌, List, inl, inr, refl, sym, ap, subst, ◌∙◌, arith}
use Rattle.std.specs.Prelude.{Option, Some, None}
use Rattle.redn_outside.specs.Files.{Files}
use Rattle.redn_outside.specs.Seen.{StoreSeen, SinkSeen}
use Rattle.redn_image.specs.Rules.{Image}
use Rattle.redn_top.specs.declared.limits.TheConstants.{MAX_FILE, MAX_IMAGE, MAX_LISTING, MAX_SCHEDULE}
use Rattle.redn_top.specs.declared.status.Status.{Status}
use Rattle.redn_top.specs.declared.status.Status.TheVariants.{Done, Words, Schedule as BadSchedule, ReadFailed, Missing, WriteFailed, Long, Text, Program as ProgramRefused, Image as ImageRefused, Memory, Step, Message}
use Rattle.redn_top.specs.StatusText.{code_of}
use Rattle.redn_command.specs.declared.limits.TheConstants.{MAX_STEPS}
use Rattle.redn_command.specs.Words.{Command, Check, Compile, Run, Go, Disasm, Assemble, Gen, Plan, Schedule, Fair, Shuffle, MessageWord, Line, most_steps, GivesPlan, IsCommand}
use Rattle.redn_top.specs.Calls.{Calls, IsDemanded}
use Rattle.redn_top.specs.Refusals.{IsRunnable, CanRun}
use Rattle.redn_top.specs.Reasons.{Input, IsInput, IsPlanInput, plan_reads, run_reads, Reasons, Nil, Or, also, NoneHolds, First, missing, too_long, no_tree, no_program, no_image, wrong_line, broken_rows, read_reasons, source_reasons, image_reasons, listing_reasons, reasons}
use Rattle.redn_top.specs.Answers.{Written, Ran, RunsMade, MadeMessages, MadeEnd, RunsImage, BadMessages, ToEnd, Stops, Meets, Finishes, Answered, Ends, IfSpoken, IsRunEnd, IsFinish, IsFinishOrWant, NoneFailed}

-- ---- words

-- what is asked can be run: recorded steps are no more than others
few_recorded : (keep : Option (List ℕ)) (n : ℕ) → n ≤ most_steps keep → n ≤ MAX_STEPS
few_recorded None n l = l
few_recorded (Some name) n l = omega (arith, l)

runnable : (line : Line) (p : Plan) (keep : Option (List ℕ)) → GivesPlan line p keep → IsRunnable p keep
runnable line (Schedule file) keep g = g.kept
runnable line (Fair steps) keep g = few_recorded keep steps g.few
runnable line (Shuffle number steps) keep g = few_recorded keep steps g.few

pub can_run : (words : List (List ℕ)) (c : Command) → IsCommand words c → CanRun c
can_run words (Run image r) is = runnable is.line r.plan r.keep is.means.gives.0
can_run words (Go file image r) is = runnable is.line r.plan r.keep is.means.gives.0
can_run words (Check file) is = tt
can_run words (Compile file image) is = tt
can_run words (Disasm image) is = tt
can_run words (Assemble listing image) is = tt
can_run words (Gen number image) is = tt

-- ---- reasons

-- each reason has one code
abbrev IsCoded : (Status → Type 0) → Type 0
IsCoded R = (s t : Status) → R s → R t → code_of s ≡ code_of t

abbrev AreCoded : Reasons → Type 0
AreCoded Nil = Unit {0}
AreCoded (Or R rest) = IsCoded R × AreCoded rest

one_code : (R : Reasons) → AreCoded R → (s t : Status) → First R s → First R t → code_of s ≡ code_of t
one_code Nil coded s t h k = absurd h
one_code (Or P rest) (coded, more) s t (inl h) (inl k) = coded s t h k
one_code (Or P rest) (coded, more) s t (inl h) (inr (never, k)) = absurd (never s h)
one_code (Or P rest) (coded, more) s t (inr (never, h)) (inl k) = absurd (never t k)
one_code (Or P rest) (coded, more) s t (inr (never, h)) (inr (also_never, k)) = one_code rest more s t h k

pub none_first : (R : Reasons) → NoneHolds R → (s : Status) → First R s → ⊥
none_first Nil none s h = h
none_first (Or P rest) (never, none) s (inl h) = never s h
none_first (Or P rest) (never, none) s (inr (also_never, h)) = none_first rest none s h

by_code : (n : ℕ) (s t : Status) → code_of s ≡ n → code_of t ≡ n → code_of s ≡ code_of t
by_code n s t e f = e ∙ sym f

module _ (found : Option (List ℕ)) where
  missing_coded : IsCoded (missing found)
  missing_coded s t h k = by_code 16 s t (ap code_of h.1) (ap code_of k.1)

  long_coded : (limit : ℕ) → IsCoded (too_long found limit)
  long_coded limit s t h k = by_code 5 s t (ap code_of h.2.1) (ap code_of k.2.1)

  tree_coded : IsCoded (no_tree found)
  tree_coded s t h k = by_code 6 s t (ap code_of h.2.2) (ap code_of k.2.2)

  program_coded : IsCoded (no_program found)
  program_coded s t h k = by_code 7 s t (ap code_of h.2.4) (ap code_of k.2.4)

  image_coded : IsCoded (no_image found)
  image_coded s t h k = by_code 8 s t (ap code_of h.2.2) (ap code_of k.2.2)

  wrong_line_coded : IsCoded (wrong_line found)
  wrong_line_coded s t h k = by_code 6 s t (ap code_of h.2.2) (ap code_of k.2.2)

  rows_coded : IsCoded (broken_rows found)
  rows_coded s t h k = by_code 8 s t (ap code_of h.2.2) (ap code_of k.2.2)

both_coded : (R Q : Reasons) → AreCoded R → AreCoded Q → AreCoded (also R Q)
both_coded Nil Q a b = b
both_coded (Or P rest) Q (one, a) b = (one, both_coded rest Q a b)

reads_coded : (found : Option (List ℕ)) (limit : ℕ) (p : Plan) (schedule : Option (List ℕ)) → AreCoded (run_reads found limit p schedule)
reads_coded found limit (Schedule file) schedule = (missing_coded found, (long_coded found limit, (missing_coded schedule, (long_coded schedule MAX_SCHEDULE, tt))))
reads_coded found limit (Fair steps) schedule = (missing_coded found, (long_coded found limit, tt))
reads_coded found limit (Shuffle number steps) schedule = (missing_coded found, (long_coded found limit, tt))

reasons_coded : (c : Command) (i : Input) → AreCoded (reasons c i)
reasons_coded (Check file) i = (missing_coded i.first, (long_coded i.first MAX_FILE, (tree_coded i.first, (program_coded i.first, tt))))
reasons_coded (Compile file image) i = (missing_coded i.first, (long_coded i.first MAX_FILE, (tree_coded i.first, (program_coded i.first, tt))))
reasons_coded (Run image r) i = both_coded (run_reads i.first MAX_IMAGE r.plan i.schedule) (image_reasons i.first) (reads_coded i.first MAX_IMAGE r.plan i.schedule) (image_coded i.first, tt)
reasons_coded (Disasm image) i = (missing_coded i.first, (long_coded i.first MAX_IMAGE, (image_coded i.first, tt)))
reasons_coded (Assemble listing image) i = (missing_coded i.first, (long_coded i.first MAX_LISTING, (wrong_line_coded i.first, (rows_coded i.first, tt))))
reasons_coded (Go file image r) i = both_coded (run_reads i.first MAX_FILE r.plan i.schedule) (source_reasons i.first) (reads_coded i.first MAX_FILE r.plan i.schedule) (tree_coded i.first, (program_coded i.first, tt))
reasons_coded (Gen number image) i = tt

same_plan : (files : Files) (p : Plan) (found other : Option (List ℕ)) → IsPlanInput (Some files) p found → IsPlanInput (Some files) p other → (P : Reasons → Type 0) → P (plan_reads p found) → P (plan_reads p other)
same_plan files (Schedule file) found other a b P h = subst (λ (f : Option (List ℕ)). P (read_reasons f MAX_SCHEDULE)) (sym a ∙ b) h
same_plan files (Fair steps) found other a b P h = h
same_plan files (Shuffle number steps) found other a b P h = h

-- where the store tells, reasons are those of what it holds
pub same_reasons : (files : Files) (c : Command) (i j : Input) → IsInput (Some files) c i → IsInput (Some files) c j → (P : Reasons → Type 0) → P (reasons c i) → P (reasons c j)
same_reasons files (Check file) i j a b P h = subst (λ (f : Option (List ℕ)). P (also (read_reasons f MAX_FILE) (source_reasons f))) (sym a ∙ b) h
same_reasons files (Compile file image) i j a b P h = subst (λ (f : Option (List ℕ)). P (also (read_reasons f MAX_FILE) (source_reasons f))) (sym a ∙ b) h
same_reasons files (Run image r) i j a b P h =
    same_plan files r.plan i.schedule j.schedule a.1 b.1 (λ reads. P (also (also (read_reasons j.first MAX_IMAGE) reads) (image_reasons j.first)))
    (subst (λ (f : Option (List ℕ)). P (also (run_reads f MAX_IMAGE r.plan i.schedule) (image_reasons f))) (sym a.0 ∙ b.0) h)
same_reasons files (Disasm image) i j a b P h = subst (λ (f : Option (List ℕ)). P (also (read_reasons f MAX_IMAGE) (image_reasons f))) (sym a ∙ b) h
same_reasons files (Assemble listing image) i j a b P h = subst (λ (f : Option (List ℕ)). P (also (read_reasons f MAX_LISTING) (listing_reasons f))) (sym a ∙ b) h
same_reasons files (Go file image r) i j a b P h =
    same_plan files r.plan i.schedule j.schedule a.1 b.1 (λ reads. P (also (also (read_reasons j.first MAX_FILE) reads) (source_reasons j.first)))
    (subst (λ (f : Option (List ℕ)). P (also (run_reads f MAX_FILE r.plan i.schedule) (source_reasons f))) (sym a.0 ∙ b.0) h)
same_reasons files (Gen number image) i j a b P h = h

-- ---- what follows where the store tells

run_end : (image : Image) (words : List MessageWord) (text : List ℕ) (s : Status) (printed : List ℕ) → RunsImage image words text s printed → IsRunEnd s
run_end image words text s printed (BadMessages (inl h) e) = subst IsRunEnd (sym h.3) tt
run_end image words text s printed (BadMessages (inr (never, inl h)) e) = subst IsRunEnd (sym h.3) tt
run_end image words text s printed (BadMessages (inr (never, inr (also_never, h))) e) = absurd h
run_end image words text s printed (ToEnd none e h) = subst IsRunEnd (sym e) tt
run_end image words text s printed (Stops line none e h) = subst IsRunEnd (sym e) tt
run_end image words text s printed (Meets line none e h) = subst IsRunEnd (sym e) tt

made_run_end : (image : Image) (words : List MessageWord) (plan : Plan) (s : Status) (printed : List ℕ) → RunsMade image words plan s printed → IsRunEnd s
made_run_end image words plan s printed (MadeMessages (inl h) e) = subst IsRunEnd (sym h.3) tt
made_run_end image words plan s printed (MadeMessages (inr (never, inl h)) e) = subst IsRunEnd (sym h.3) tt
made_run_end image words plan s printed (MadeMessages (inr (never, inr (also_never, h))) e) = absurd h
made_run_end image words plan s printed (MadeEnd none e h) = subst IsRunEnd (sym e) tt

plan_end : (schedule : Option (List ℕ)) (p : Plan) (words : List MessageWord) (image : Image) (s : Status) (printed : List ℕ) → Ran schedule p words image s printed → IsRunEnd s
plan_end schedule (Schedule file) words image s printed h = run_end image words h.text s printed h.runs
plan_end schedule (Fair steps) words image s printed h = made_run_end image words (Fair steps) s printed h
plan_end schedule (Shuffle number steps) words image s printed h = made_run_end image words (Shuffle number steps) s printed h

finishes : (c : Command) (i : Input) (s : Status) (printed : List ℕ) (written : List Written) → Finishes c i s printed written → IsFinish c s
finishes (Check file) i s printed written h = h.done
finishes (Compile file image) i s printed written h = h.1
finishes (Run image r) i s printed written h = plan_end i.schedule r.plan r.messages h.1 s printed h.4
finishes (Disasm image) i s printed written h = h.1
finishes (Assemble listing image) i s printed written h = h.1
finishes (Go file image r) i s printed written h = plan_end i.schedule r.plan r.messages h.0 s printed h.3
finishes (Gen number image) i s printed written h = h.1

module _ (c : Command) (before now : StoreSeen) (out out_now : SinkSeen) (files : Files) (told : before.told ≡ Some files) (i : Input) (is : IsInput (Some files) c i) where
  answered_code : (s t : Status) → First (reasons c i) s → Answered c before now out out_now t → code_of t ≡ code_of s
  answered_code s t h a =
      let its = subst (λ (f : Option Files). IsInput f c a.input) told a.is_input in
      elim a.answers [
        | inl x ↦ one_code (reasons c i) (reasons_coded c i) t s (same_reasons files c a.input i its is (λ R. First R t) x.0) h
        | inr x ↦ absurd (none_first (reasons c i) (same_reasons files c a.input i its is NoneHolds x.0) s h)
      ]

  answered_finish : (t : Status) → NoneHolds (reasons c i) → Answered c before now out out_now t → IsFinish c t
  answered_finish t none a =
      let its = subst (λ (f : Option Files). IsInput f c a.input) told a.is_input in
      elim a.answers [
        | inl x ↦ absurd (none_first (reasons c i) none t (same_reasons files c a.input i its is (λ R. First R t) x.0))
        | inr x ↦ finishes c a.input t a.printed a.written x.1
      ]

  -- nothing is written where a reason holds
  none_for : (s : Status) → First (reasons c i) s → (j : Input) → IsInput before.told c j → NoneHolds (reasons c j) → ⊥
  none_for s h j its none = none_first (reasons c i) (same_reasons files c j i (subst (λ (f : Option Files). IsInput f c j) told its) is NoneHolds none) s h

  not_written : (s : Status) → First (reasons c i) s → Ends c before now out out_now WriteFailed → ⊥
  not_written s h (inl (failed, inl e)) = none_for s h e.input e.is_input e.none
  not_written s h (inl (failed, inr e)) = none_for s h e.input e.is_input e.none
  not_written s h (inr (failed, e)) = none_for s h e.broke.input e.broke.is_input e.broke.none

  pub demands_so : (s t : Status) → First (reasons c i) s → Ends c before now out out_now t → Calls c before now t → IsDemanded c before now s t
  demands_so s ReadFailed h e k = k
  demands_so s WriteFailed h e k = absurd (not_written s h e)
  demands_so s Memory h e k = tt
  demands_so s Missing h e k = answered_code s Missing h e.1
  demands_so s (Long seen limit) h e k = answered_code s (Long seen limit) h e.1
  demands_so s Done h e k = answered_code s Done h e
  demands_so s (Text fault) h e k = answered_code s (Text fault) h e
  demands_so s (ProgramRefused rule at seen) h e k = answered_code s (ProgramRefused rule at seen) h e
  demands_so s (ImageRefused fault) h e k = answered_code s (ImageRefused fault) h e
  demands_so s (Step line) h e k = answered_code s (Step line) h e
  demands_so s (Message fault) h e k = answered_code s (Message fault) h e
  demands_so s Words h e k = answered_code s Words h e
  demands_so s (BadSchedule number) h e k = answered_code s (BadSchedule number) h e

  pub works_so : (t : Status) → NoneHolds (reasons c i) → Ends c before now out out_now t → IfSpoken t (IsFinish c t)
  works_so ReadFailed none e = tt
  works_so WriteFailed none e = tt
  works_so Memory none e = tt
  works_so Missing none e = answered_finish Missing none e.1
  works_so (Long seen limit) none e = answered_finish (Long seen limit) none e.1
  works_so Done none e = answered_finish Done none e
  works_so (Text fault) none e = answered_finish (Text fault) none e
  works_so (ProgramRefused rule at seen) none e = answered_finish (ProgramRefused rule at seen) none e
  works_so (ImageRefused fault) none e = answered_finish (ImageRefused fault) none e
  works_so (Step line) none e = answered_finish (Step line) none e
  works_so (Message fault) none e = answered_finish (Message fault) none e
  works_so Words none e = answered_finish Words none e
  works_so (BadSchedule number) none e = answered_finish (BadSchedule number) none e

  pub completes_so : (t : Status) → NoneHolds (reasons c i) → NoneFailed before now out out_now → Ends c before now out out_now t → IsFinishOrWant c t
  completes_so ReadFailed none calm e = absurd (calm.reads e.0.0)
  completes_so WriteFailed none calm (inl e) = absurd (calm.writes e.0.0)
  completes_so WriteFailed none calm (inr e) = absurd (calm.puts e.0.0)
  completes_so Memory none calm e = inr refl
  completes_so Missing none calm e = inl (answered_finish Missing none e.1)
  completes_so (Long seen limit) none calm e = inl (answered_finish (Long seen limit) none e.1)
  completes_so Done none calm e = inl (answered_finish Done none e)
  completes_so (Text fault) none calm e = inl (answered_finish (Text fault) none e)
  completes_so (ProgramRefused rule at seen) none calm e = inl (answered_finish (ProgramRefused rule at seen) none e)
  completes_so (ImageRefused fault) none calm e = inl (answered_finish (ImageRefused fault) none e)
  completes_so (Step line) none calm e = inl (answered_finish (Step line) none e)
  completes_so (Message fault) none calm e = inl (answered_finish (Message fault) none e)
  completes_so Words none calm e = inl (answered_finish Words none e)
  completes_so (BadSchedule number) none calm e = inl (answered_finish (BadSchedule number) none e)
