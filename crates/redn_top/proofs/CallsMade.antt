-- Which calls a command made, by what its parts answer.
use Rattle.std.proofs.Common.{◌≡◌, ℕ, List, [], ◌∷◌, ◌++◌, refl, sym, ap, ◌∙◌, append_assoc, append-nil}
use Rattle.std.specs.Prelude.{Option, Some, None, Result, Ok, Err, OnOk, IfErr}
use Rattle.redn_image.specs.Rules.{Image}
use Rattle.redn_outside.specs.Calls.{Call, Reads, Writes, and_calls}
use Rattle.redn_outside.specs.Files.{Files}
use Rattle.redn_outside.specs.Seen.{StoreSeen, SinkSeen}
use Rattle.redn_command.specs.Words.{Command, Plan, Schedule, Fair, Shuffle, RunWords, MessageWord}
use Rattle.redn_top.specs.declared.limits.TheConstants.{MAX_SCHEDULE}
use Rattle.redn_top.specs.declared.status.Status.{Status}
use Rattle.redn_top.specs.declared.status.Status.TheVariants.{Done, Words, Schedule as BadSchedule, ReadFailed, Missing, WriteFailed, Long, Text, Program as ProgramRefused, Image as ImageRefused, Memory, Step, Message}
use Rattle.redn_top.specs.Answers.{status_of}
use Rattle.redn_top.specs.Calls.{plan_reads, run_reads, reads_of, image_writes, record_write, record_writes, AreFirst, AllPassed, EndAtRead, ReadsMade, RecordMade, GrewBy, Calls}
use Rattle.redn_top.specs.Reasons.{Reasons}
use Rattle.redn_top.specs.Refusals.{IsHeld, HasText, IsRunnable, ReadsRefuse, Refuses, SourceRefused, PutRefused, LinesRefused, WriteRefused, MadeStopped, RunEnds}
use Rattle.redn_top.proofs.FirstReason.{read_passed}

-- ---- calls that are told

pub no_calls : (told : Option (List Call)) → told ≡ and_calls [] told
no_calls None = refl
no_calls (Some calls) = ap Some (sym (append-nil calls))

then_calls : (first more : List Call) (told : Option (List Call)) → and_calls more (and_calls first told) ≡ and_calls (first ++ more) told
then_calls first more None = refl
then_calls first more (Some calls) = ap Some (append_assoc calls first more)

pub both : (first more : List Call) (before mid now : StoreSeen) → mid.calls ≡ and_calls first before.calls → now.calls ≡ and_calls more mid.calls → now.calls ≡ and_calls (first ++ more) before.calls
both first more before mid now a b = b ∙ ap (and_calls more) a ∙ then_calls first more before.calls

-- ---- one read

module _ (told : Option Files) (name : List ℕ) (limit : ℕ) (before now : StoreSeen) where
  abbrev its : List Call
  its = Reads name limit ∷ []

  pub refused_read : (s : Status) → now.calls ≡ and_calls its before.calls → GrewBy (EndAtRead told its) before now
  refused_read s e = (its, record { earlier = []; here = Reads name limit; later = []; all_are = refl; made_are = refl; passed = tt }, e)

  pub wanted_read : now.calls ≡ before.calls → GrewBy (AreFirst its) before now
  wanted_read e = ([], (its, refl), e ∙ no_calls before.calls)

-- ---- the reads of a run

module _ (told : Option Files) (name : List ℕ) (limit : ℕ) (plan : Plan) (before now : StoreSeen) where
  at_first : GrewBy (EndAtRead told (Reads name limit ∷ [])) before now → GrewBy (EndAtRead told (run_reads name limit plan)) before now
  at_first (made, h, e) = (made, first_of h.earlier h.all_are h.made_are h.passed, e)
    where
      first_of : (earlier : List Call) → Reads name limit ∷ [] ≡ earlier ++ h.here ∷ h.later → made ≡ earlier ++ h.here ∷ [] → AllPassed told earlier → EndAtRead told (run_reads name limit plan) made
      first_of [] a m p = let same : h.here ≡ Reads name limit = cc in record { earlier = []; here = Reads name limit; later = plan_reads plan; all_are = refl; made_are = m ∙ ap (λ (c : Call). c ∷ []) same; passed = tt }
      first_of (c ∷ []) a m p = absurd (cc)
      first_of (c ∷ d ∷ rest) a m p = absurd (cc)

  first_wanted : GrewBy (AreFirst (Reads name limit ∷ [])) before now → GrewBy (AreFirst (run_reads name limit plan)) before now
  first_wanted (made, h, e) = (made, (h.0 ++ plan_reads plan, ap (λ (l : List Call). l ++ plan_reads plan) h.1 ∙ append_assoc made h.0 (plan_reads plan)), e)

  pub first_unread : (s : Status) → GrewBy (ReadsMade told (Reads name limit ∷ []) s) before now → GrewBy (ReadsMade told (run_reads name limit plan) s) before now
  first_unread Memory h = first_wanted h
  first_unread Done h = at_first h
  first_unread Words h = at_first h
  first_unread ReadFailed h = at_first h
  first_unread Missing h = at_first h
  first_unread WriteFailed h = at_first h
  first_unread (Long seen most) h = at_first h
  first_unread (Text fault) h = at_first h
  first_unread (ProgramRefused rule at seen) h = at_first h
  first_unread (ImageRefused fault) h = at_first h
  first_unread (BadSchedule line) h = at_first h
  first_unread (Step line) h = at_first h
  first_unread (Message fault) h = at_first h

-- the schedule is read behind a file that is held
module _ (told : Option Files) (name : List ℕ) (limit : ℕ) (file : List ℕ) (before mid now : StoreSeen) (read : mid.calls ≡ and_calls (Reads name limit ∷ []) before.calls) (text : List ℕ) (held : IsHeld told name limit text) (later : Option Files) where
  at_second : GrewBy (EndAtRead later (Reads file MAX_SCHEDULE ∷ [])) mid now → GrewBy (EndAtRead told (run_reads name limit (Schedule file))) before now
  at_second (made, h, e) = (Reads name limit ∷ Reads file MAX_SCHEDULE ∷ [], ended, both (Reads name limit ∷ []) (Reads file MAX_SCHEDULE ∷ []) before mid now read (e ∙ ap (λ (l : List Call). and_calls l mid.calls) (only h.earlier h.all_are h.made_are)))
    where
      ended : EndAtRead told (run_reads name limit (Schedule file)) (Reads name limit ∷ Reads file MAX_SCHEDULE ∷ [])
      ended = record { earlier = Reads name limit ∷ []; here = Reads file MAX_SCHEDULE; later = []; all_are = refl; made_are = refl; passed = ((Some text, held.found, read_passed text limit held.fits), tt) }

      only : (earlier : List Call) → Reads file MAX_SCHEDULE ∷ [] ≡ earlier ++ h.here ∷ h.later → made ≡ earlier ++ h.here ∷ [] → made ≡ Reads file MAX_SCHEDULE ∷ []
      only [] a m = let same : h.here ≡ Reads file MAX_SCHEDULE = cc in m ∙ ap (λ (c : Call). c ∷ []) same
      only (c ∷ []) a m = absurd (cc)
      only (c ∷ d ∷ rest) a m = absurd (cc)

  second_wanted : GrewBy (AreFirst (Reads file MAX_SCHEDULE ∷ [])) mid now → GrewBy (AreFirst (run_reads name limit (Schedule file))) before now
  second_wanted (made, h, e) = (Reads name limit ∷ made, (h.0, ap (λ (l : List Call). Reads name limit ∷ l) h.1), both (Reads name limit ∷ []) made before mid now read e)

  pub second_unread : (s : Status) → GrewBy (ReadsMade later (Reads file MAX_SCHEDULE ∷ []) s) mid now → GrewBy (ReadsMade told (run_reads name limit (Schedule file)) s) before now
  second_unread Memory h = second_wanted h
  second_unread Done h = at_second h
  second_unread Words h = at_second h
  second_unread ReadFailed h = at_second h
  second_unread Missing h = at_second h
  second_unread WriteFailed h = at_second h
  second_unread (Long seen most) h = at_second h
  second_unread (Text fault) h = at_second h
  second_unread (ProgramRefused rule at seen) h = at_second h
  second_unread (ImageRefused fault) h = at_second h
  second_unread (BadSchedule line) h = at_second h
  second_unread (Step line) h = at_second h
  second_unread (Message fault) h = at_second h

-- ---- each command

module _ (c : Command) (before mid : StoreSeen) where
  -- its reads are refused
  pub unread_calls : (R : Reasons) (s : Status) → ReadsRefuse R before mid s → GrewBy (ReadsMade before.told (reads_of c) s) before mid → Calls c before mid s
  unread_calls R ReadFailed h g = g
  unread_calls R Missing h g = g
  unread_calls R (Long seen limit) h g = g
  unread_calls R Memory h (made, more, e) = (made, (more.0 ++ (image_writes c ++ record_writes c), ap (λ (l : List Call). l ++ (image_writes c ++ record_writes c)) more.1 ∙ append_assoc made more.0 (image_writes c ++ record_writes c)), e)
  unread_calls R Done h g = absurd h
  unread_calls R Words h g = absurd h
  unread_calls R WriteFailed h g = absurd h
  unread_calls R (Text fault) h g = absurd h
  unread_calls R (ProgramRefused rule at seen) h g = absurd h
  unread_calls R (ImageRefused fault) h g = absurd h
  unread_calls R (BadSchedule line) h g = absurd h
  unread_calls R (Step line) h g = absurd h
  unread_calls R (Message fault) h g = absurd h

  module _ (read : mid.calls ≡ and_calls (reads_of c) before.calls) where
    -- memory is wanting behind them
    pub wants_calls : Calls c before mid Memory
    wants_calls = (reads_of c, (image_writes c ++ record_writes c, refl), read)

    -- what was read is refused
    pub refused_calls : (R : Reasons) (s : Status) → Refuses R s → Calls c before mid s
    refused_calls R Memory h = wants_calls
    refused_calls R (Text fault) h = (reads_of c, refl, read)
    refused_calls R (ProgramRefused rule at seen) h = (reads_of c, refl, read)
    refused_calls R (ImageRefused fault) h = (reads_of c, refl, read)
    refused_calls R Done h = absurd h
    refused_calls R Words h = absurd h
    refused_calls R ReadFailed h = absurd h
    refused_calls R Missing h = absurd h
    refused_calls R (Long seen limit) h = absurd h
    refused_calls R WriteFailed h = absurd h
    refused_calls R (BadSchedule line) h = absurd h
    refused_calls R (Step line) h = absurd h
    refused_calls R (Message fault) h = absurd h

    pub refused_source_calls : (text : List ℕ) (s : Status) → SourceRefused text s → Calls c before mid s
    refused_source_calls text Memory h = wants_calls
    refused_source_calls text (Text fault) h = (reads_of c, refl, read)
    refused_source_calls text (ProgramRefused rule at seen) h = (reads_of c, refl, read)
    refused_source_calls text (ImageRefused fault) h = absurd h
    refused_source_calls text Done h = absurd h
    refused_source_calls text Words h = absurd h
    refused_source_calls text ReadFailed h = absurd h
    refused_source_calls text Missing h = absurd h
    refused_source_calls text (Long seen limit) h = absurd h
    refused_source_calls text WriteFailed h = absurd h
    refused_source_calls text (BadSchedule line) h = absurd h
    refused_source_calls text (Step line) h = absurd h
    refused_source_calls text (Message fault) h = absurd h

    -- a command that writes no file puts its text
    module _ (none : image_writes c ++ record_writes c ≡ []) where
      all_done : Calls c before mid Done
      all_done = (reads_of c, sym (append-nil (reads_of c)) ∙ ap (λ (l : List Call). reads_of c ++ l) (sym none), read)

      put_failed : Calls c before mid WriteFailed
      put_failed = (reads_of c, ([], (image_writes c ++ record_writes c, refl), sym (append-nil (reads_of c))), read)

      pub put_calls : (piece : List ℕ) (out out_now : SinkSeen) (r : Result (Unit {0}) Status) → IfErr r (PutRefused piece out out_now) → Calls c before mid (status_of r)
      put_calls piece out out_now (Ok done) h = all_done
      put_calls piece out out_now (Err WriteFailed) h = put_failed
      put_calls piece out out_now (Err Memory) h = absurd h
      put_calls piece out out_now (Err Done) h = absurd h
      put_calls piece out out_now (Err Words) h = absurd h
      put_calls piece out out_now (Err ReadFailed) h = absurd h
      put_calls piece out out_now (Err Missing) h = absurd h
      put_calls piece out out_now (Err (Long seen limit)) h = absurd h
      put_calls piece out out_now (Err (Text fault)) h = absurd h
      put_calls piece out out_now (Err (ProgramRefused rule at seen)) h = absurd h
      put_calls piece out out_now (Err (ImageRefused fault)) h = absurd h
      put_calls piece out out_now (Err (BadSchedule line)) h = absurd h
      put_calls piece out out_now (Err (Step line)) h = absurd h
      put_calls piece out out_now (Err (Message fault)) h = absurd h

      pub lines_calls : (text : List ℕ) (out out_now : SinkSeen) (r : Result (Unit {0}) Status) → IfErr r (LinesRefused text out out_now) → Calls c before mid (status_of r)
      lines_calls text out out_now (Ok done) h = all_done
      lines_calls text out out_now (Err WriteFailed) h = put_failed
      lines_calls text out out_now (Err Memory) h = absurd h
      lines_calls text out out_now (Err Done) h = absurd h
      lines_calls text out out_now (Err Words) h = absurd h
      lines_calls text out out_now (Err ReadFailed) h = absurd h
      lines_calls text out out_now (Err Missing) h = absurd h
      lines_calls text out out_now (Err (Long seen limit)) h = absurd h
      lines_calls text out out_now (Err (Text fault)) h = absurd h
      lines_calls text out out_now (Err (ProgramRefused rule at seen)) h = absurd h
      lines_calls text out out_now (Err (ImageRefused fault)) h = absurd h
      lines_calls text out out_now (Err (BadSchedule line)) h = absurd h
      lines_calls text out out_now (Err (Step line)) h = absurd h
      lines_calls text out out_now (Err (Message fault)) h = absurd h

    -- its image isn't written
    module _ (name : List ℕ) (writes : image_writes c ≡ Writes name ∷ []) (now : StoreSeen) where
      first_writes : (made : List Call) → AreFirst (Writes name ∷ []) made → AreFirst (image_writes c ++ record_writes c) made
      first_writes made (more, e) = (more ++ record_writes c, ap (λ (l : List Call). l ++ record_writes c) (writes ∙ e) ∙ append_assoc made more (record_writes c))

      pub unwritten_calls : (s : Status) → WriteRefused mid now s → GrewBy (AreFirst (Writes name ∷ [])) mid now → Calls c before now s
      unwritten_calls WriteFailed h (made, first, e) = (reads_of c ++ made, (made, first_writes made first, refl), both (reads_of c) made before mid now read e)
      unwritten_calls Memory h (made, first, e) =
          let f = first_writes made first in
          (reads_of c ++ made, (f.0, ap (λ (l : List Call). reads_of c ++ l) f.1 ∙ sym (append_assoc (reads_of c) made f.0)), both (reads_of c) made before mid now read e)
      unwritten_calls Done h g = absurd h
      unwritten_calls Words h g = absurd h
      unwritten_calls ReadFailed h g = absurd h
      unwritten_calls Missing h g = absurd h
      unwritten_calls (Long seen limit) h g = absurd h
      unwritten_calls (Text fault) h g = absurd h
      unwritten_calls (ProgramRefused rule at seen) h g = absurd h
      unwritten_calls (ImageRefused fault) h g = absurd h
      unwritten_calls (BadSchedule line) h g = absurd h
      unwritten_calls (Step line) h g = absurd h
      unwritten_calls (Message fault) h g = absurd h

      -- or it is, and is all that is written
      pub written_calls : record_writes c ≡ [] → (r : Result (Unit {0}) Status) → OnOk r (now.calls ≡ and_calls (Writes name ∷ []) mid.calls) → IfErr r (WriteRefused mid now) → IfErr r (λ s. GrewBy (AreFirst (Writes name ∷ [])) mid now) → Calls c before now (status_of r)
      written_calls none (Ok done) ok refused g =
          let all : image_writes c ++ record_writes c ≡ Writes name ∷ [] = ap (λ (l : List Call). l ++ record_writes c) writes ∙ ap (λ (l : List Call). Writes name ∷ l) none in
          (reads_of c ++ Writes name ∷ [], ap (λ (l : List Call). reads_of c ++ l) (sym all), both (reads_of c) (Writes name ∷ []) before mid now read ok)
      written_calls none (Err s) ok refused g = unwritten_calls s refused g

-- ---- a run by its plan

pub record_none : (keep : Option (List ℕ)) (s : Status) → keep ≡ None → RecordMade keep s []
record_none keep Done e = rw e refl
record_none keep WriteFailed e = (record_write keep, refl)
record_none keep Memory e = (record_write keep, refl)
record_none keep Words e = refl
record_none keep ReadFailed e = refl
record_none keep Missing e = refl
record_none keep (Long seen limit) e = refl
record_none keep (Text fault) e = refl
record_none keep (ProgramRefused rule at seen) e = refl
record_none keep (ImageRefused fault) e = refl
record_none keep (BadSchedule line) e = refl
record_none keep (Step line) e = refl
record_none keep (Message fault) e = refl

-- steps under the text of a schedule aren't recorded
pub unkept : (plan : Plan) (text : List ℕ) (keep : Option (List ℕ)) → HasText plan (Some text) → IsRunnable plan keep → keep ≡ None
unkept (Schedule file) text keep has runs = runs
unkept (Fair steps) text keep has runs = absurd (cc)
unkept (Shuffle number steps) text keep has runs = absurd (cc)

pub stopped_record : (keep : Option (List ℕ)) (image : Image) (words : List MessageWord) (plan : Plan) (out out_now : SinkSeen) (s : Status) → MadeStopped image words plan out out_now s → RecordMade keep s []
stopped_record keep image words plan out out_now Done h = absurd h
stopped_record keep image words plan out out_now WriteFailed h = (record_write keep, refl)
stopped_record keep image words plan out out_now Memory h = (record_write keep, refl)
stopped_record keep image words plan out out_now Words h = refl
stopped_record keep image words plan out out_now ReadFailed h = refl
stopped_record keep image words plan out out_now Missing h = refl
stopped_record keep image words plan out out_now (Long seen limit) h = refl
stopped_record keep image words plan out out_now (Text fault) h = refl
stopped_record keep image words plan out out_now (ProgramRefused rule at seen) h = refl
stopped_record keep image words plan out out_now (ImageRefused fault) h = refl
stopped_record keep image words plan out out_now (BadSchedule line) h = refl
stopped_record keep image words plan out out_now (Step line) h = refl
stopped_record keep image words plan out out_now (Message fault) h = refl

-- the record is written behind it
pub written_record : (keep : Option (List ℕ)) (name : List ℕ) → keep ≡ Some name → (before now : StoreSeen) (r : Result (Unit {0}) Status) → OnOk r (now.calls ≡ and_calls (Writes name ∷ []) before.calls) → IfErr r (WriteRefused before now) → IfErr r (λ s. GrewBy (AreFirst (Writes name ∷ [])) before now) → GrewBy (RecordMade keep (status_of r)) before now
written_record keep name is before now (Ok done) ok refused g = (Writes name ∷ [], rw is refl, ok)
written_record keep name is before now (Err WriteFailed) ok refused g = rw is g
written_record keep name is before now (Err Memory) ok refused g = rw is g
written_record keep name is before now (Err Done) ok refused g = absurd refused
written_record keep name is before now (Err Words) ok refused g = absurd refused
written_record keep name is before now (Err ReadFailed) ok refused g = absurd refused
written_record keep name is before now (Err Missing) ok refused g = absurd refused
written_record keep name is before now (Err (Long seen limit)) ok refused g = absurd refused
written_record keep name is before now (Err (Text fault)) ok refused g = absurd refused
written_record keep name is before now (Err (ProgramRefused rule at seen)) ok refused g = absurd refused
written_record keep name is before now (Err (ImageRefused fault)) ok refused g = absurd refused
written_record keep name is before now (Err (BadSchedule line)) ok refused g = absurd refused
written_record keep name is before now (Err (Step line)) ok refused g = absurd refused
written_record keep name is before now (Err (Message fault)) ok refused g = absurd refused

-- a command that runs an image, which it has written or read
module _ (c : Command) (keep : Option (List ℕ)) (is : record_writes c ≡ record_write keep) (before mid now : StoreSeen) (done : mid.calls ≡ and_calls (reads_of c ++ image_writes c) before.calls) where
  begun : (made : List Call) → now.calls ≡ and_calls made mid.calls → now.calls ≡ and_calls (reads_of c ++ (image_writes c ++ made)) before.calls
  begun made e = both (reads_of c ++ image_writes c) made before mid now done e ∙ ap (λ (l : List Call). and_calls l before.calls) (append_assoc (reads_of c) (image_writes c) made)

  stopped : (made : List Call) → made ≡ [] → now.calls ≡ and_calls made mid.calls → now.calls ≡ and_calls (reads_of c ++ image_writes c) before.calls
  stopped made none e = e ∙ ap (λ (l : List Call). and_calls l mid.calls) none ∙ sym (no_calls mid.calls) ∙ done

  first : (made : List Call) → AreFirst (record_write keep) made → AreFirst (image_writes c ++ record_writes c) (image_writes c ++ made)
  first made (more, e) = (more, ap (λ (l : List Call). image_writes c ++ l) (is ∙ e) ∙ sym (append_assoc (image_writes c) made more))

  pub run_calls : (schedule : Option (List ℕ)) (r : RunWords) (image : Image) (out out_now : SinkSeen) (s : Status) → RunEnds schedule r image mid now out out_now s → GrewBy (RecordMade keep s) mid now → Calls c before now s
  run_calls schedule r image out out_now Done h (made, m, e) = (reads_of c ++ (image_writes c ++ made), ap (λ (l : List Call). reads_of c ++ (image_writes c ++ l)) (m ∙ sym is), begun made e)
  run_calls schedule r image out out_now (BadSchedule line) h (made, m, e) = (reads_of c ++ image_writes c, refl, stopped made m e)
  run_calls schedule r image out out_now (Step line) h (made, m, e) = (reads_of c ++ image_writes c, refl, stopped made m e)
  run_calls schedule r image out out_now (Message fault) h (made, m, e) = (reads_of c ++ image_writes c, refl, stopped made m e)
  run_calls schedule r image out out_now WriteFailed h (made, m, e) = (reads_of c ++ (image_writes c ++ made), (image_writes c ++ made, first made m, refl), begun made e)
  run_calls schedule r image out out_now Memory h (made, m, e) =
      let f = first made m in
      (reads_of c ++ (image_writes c ++ made), (f.0, ap (λ (l : List Call). reads_of c ++ l) f.1 ∙ sym (append_assoc (reads_of c) (image_writes c ++ made) f.0)), begun made e)
  run_calls schedule r image out out_now Words h g = absurd h
  run_calls schedule r image out out_now ReadFailed h g = absurd h
  run_calls schedule r image out out_now Missing h g = absurd h
  run_calls schedule r image out out_now (Long seen limit) h g = absurd h
  run_calls schedule r image out out_now (Text fault) h g = absurd h
  run_calls schedule r image out out_now (ProgramRefused rule at seen) h g = absurd h
  run_calls schedule r image out out_now (ImageRefused fault) h g = absurd h

-- the generated file's image is written, and its summary isn't put whole
module _ (c : Command) (name : List ℕ) (writes : image_writes c ≡ Writes name ∷ []) (none : record_writes c ≡ []) (before mid now : StoreSeen) (read : mid.calls ≡ and_calls (reads_of c) before.calls) (wrote : now.calls ≡ and_calls (Writes name ∷ []) mid.calls) where
  whole : image_writes c ++ record_writes c ≡ Writes name ∷ []
  whole = ap (λ (l : List Call). l ++ record_writes c) writes ∙ ap (λ (l : List Call). Writes name ∷ l) none

  all_made : now.calls ≡ and_calls (reads_of c ++ Writes name ∷ []) before.calls
  all_made = both (reads_of c) (Writes name ∷ []) before mid now read wrote

  pub unput_calls : Calls c before now Memory
  unput_calls = (reads_of c ++ Writes name ∷ [], ([], ap (λ (l : List Call). reads_of c ++ l) whole ∙ sym (append-nil (reads_of c ++ Writes name ∷ []))), all_made)

  pub put_behind_calls : (text : List ℕ) (out out_now : SinkSeen) (r : Result (Unit {0}) Status) → IfErr r (LinesRefused text out out_now) → Calls c before now (status_of r)
  put_behind_calls text out out_now (Ok done) h = (reads_of c ++ Writes name ∷ [], ap (λ (l : List Call). reads_of c ++ l) (sym whole), all_made)
  put_behind_calls text out out_now (Err WriteFailed) h = (reads_of c ++ Writes name ∷ [], (Writes name ∷ [], ([], whole), refl), all_made)
  put_behind_calls text out out_now (Err Memory) h = absurd h
  put_behind_calls text out out_now (Err Done) h = absurd h
  put_behind_calls text out out_now (Err Words) h = absurd h
  put_behind_calls text out out_now (Err ReadFailed) h = absurd h
  put_behind_calls text out out_now (Err Missing) h = absurd h
  put_behind_calls text out out_now (Err (Long seen limit)) h = absurd h
  put_behind_calls text out out_now (Err (Text fault)) h = absurd h
  put_behind_calls text out out_now (Err (ProgramRefused rule at seen)) h = absurd h
  put_behind_calls text out out_now (Err (ImageRefused fault)) h = absurd h
  put_behind_calls text out out_now (Err (BadSchedule line)) h = absurd h
  put_behind_calls text out out_now (Err (Step line)) h = absurd h
  put_behind_calls text out out_now (Err (Message fault)) h = absurd h
