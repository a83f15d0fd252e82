-- The first reason in lists of reasons.
use Rattle.std.proofs.Common.{◌≡◌, ℕ, ◌≤◌, List, length, inl, inr, ap, sym, ◌∙◌, arith}
use Rattle.std.specs.Prelude.{Option, Some}
use Rattle.redn_outside.specs.Counts.{Rose}
use Rattle.redn_outside.specs.Seen.{StoreSeen, KeepsFiles}
use Rattle.redn_top.specs.declared.status.Status.{Status}
use Rattle.redn_top.specs.declared.status.Status.TheVariants.{Done, Words, Schedule as BadSchedule, ReadFailed, Missing, WriteFailed, Long, Text, Program, Image, Memory, Step, Message}
use Rattle.redn_top.specs.Reasons.{Reasons, Nil, Or, also, NoneHolds, First, read_reasons}
use Rattle.redn_top.specs.Refusals.{Refuses, ReadsRefuse, WordsRefused}

pub first_here : (R Q : Reasons) (s : Status) → First R s → First (also R Q) s
first_here Nil Q s h = absurd h
first_here (Or P rest) Q s (inl p) = inl p
first_here (Or P rest) Q s (inr (never, h)) = inr (never, first_here rest Q s h)

pub first_behind : (R Q : Reasons) (s : Status) → NoneHolds R → First Q s → First (also R Q) s
first_behind Nil Q s n h = h
first_behind (Or P rest) Q s (never, n) h = inr (never, first_behind rest Q s n h)

pub none_both : (R Q : Reasons) → NoneHolds R → NoneHolds Q → NoneHolds (also R Q)
none_both Nil Q n m = m
none_both (Or P rest) Q (never, n) m = (never, none_both rest Q n m)

-- where one list's first reason is another's
module _ (R Q : Reasons) (goes : (s : Status) → First R s → First Q s) where
  pub refuses_map : (s : Status) → Refuses R s → Refuses Q s
  refuses_map Memory h = tt
  refuses_map (Text fault) h = goes (Text fault) h
  refuses_map (Program rule at seen) h = goes (Program rule at seen) h
  refuses_map (Image fault) h = goes (Image fault) h
  refuses_map Words h = absurd h
  refuses_map (BadSchedule number) h = absurd h
  refuses_map Done h = absurd h
  refuses_map ReadFailed h = absurd h
  refuses_map Missing h = absurd h
  refuses_map WriteFailed h = absurd h
  refuses_map (Long seen limit) h = absurd h
  refuses_map (Step line) h = absurd h
  refuses_map (Message fault) h = absurd h

  pub words_map : (s : Status) → WordsRefused R s → WordsRefused Q s
  words_map Memory h = tt
  words_map (Message fault) h = goes (Message fault) h
  words_map (Text fault) h = absurd h
  words_map (Program rule at seen) h = absurd h
  words_map (Image fault) h = absurd h
  words_map Words h = absurd h
  words_map (BadSchedule number) h = absurd h
  words_map Done h = absurd h
  words_map ReadFailed h = absurd h
  words_map Missing h = absurd h
  words_map WriteFailed h = absurd h
  words_map (Long seen limit) h = absurd h
  words_map (Step line) h = absurd h

pub rose_from : (before mid now : ℕ) → before ≤ mid → Rose mid now → Rose before now
rose_from before mid now le rose = grind arith

-- the same of reads
module _ (R Q : Reasons) (goes : (s : Status) → First R s → First Q s) (before now : StoreSeen) where
  pub reads_map : (s : Status) → ReadsRefuse R before now s → ReadsRefuse Q before now s
  reads_map ReadFailed h = h
  reads_map Memory h = tt
  reads_map Missing h = (h.0, goes Missing h.1)
  reads_map (Long seen limit) h = (h.0, goes (Long seen limit) h.1)
  reads_map Done h = absurd h
  reads_map WriteFailed h = absurd h
  reads_map (Text fault) h = absurd h
  reads_map (Program rule at seen) h = absurd h
  reads_map (Image fault) h = absurd h
  reads_map Words h = absurd h
  reads_map (BadSchedule number) h = absurd h
  reads_map (Step line) h = absurd h
  reads_map (Message fault) h = absurd h

-- reads of which there was another before
module _ (R : Reasons) (before mid now : StoreSeen) (keeps : KeepsFiles before mid) where
  pub reads_later : (s : Status) → ReadsRefuse R mid now s → ReadsRefuse R before now s
  reads_later ReadFailed h = (rose_from before.counts.read_faults mid.counts.read_faults now.counts.read_faults keeps.read_faults.0 h.0, sym keeps.reliable ∙ h.1)
  reads_later Memory h = tt
  reads_later Missing h = (rose_from before.counts.missing_answers mid.counts.missing_answers now.counts.missing_answers keeps.missing_answers.0 h.0, h.1)
  reads_later (Long seen limit) h = (rose_from before.counts.long_answers mid.counts.long_answers now.counts.long_answers keeps.long_answers.0 h.0, h.1)
  reads_later Done h = absurd h
  reads_later WriteFailed h = absurd h
  reads_later (Text fault) h = absurd h
  reads_later (Program rule at seen) h = absurd h
  reads_later (Image fault) h = absurd h
  reads_later Words h = absurd h
  reads_later (BadSchedule number) h = absurd h
  reads_later (Step line) h = absurd h
  reads_later (Message fault) h = absurd h

-- a file that was found and is short enough
pub same_text : (a b : List ℕ) → ◌≡◌ {A = Option (List ℕ)} (Some a) (Some b) → a ≡ b
same_text a b e = cc

pub read_passed : (text : List ℕ) (limit : ℕ) → length text ≤ limit → NoneHolds (read_reasons (Some text) limit)
read_passed text limit fits =
    ((λ s h. absurd (let e = h.0 in cc)), ((λ s h. let same : length text ≡ length h.0 = ap length (same_text text h.0 h.1) in omega (arith, same, fits, h.2.0)), tt))
