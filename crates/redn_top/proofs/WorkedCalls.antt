-- Calls of commands and ends of chains, typed by hand.
use Rattle.std.proofs.Common.{◌≡◌, ℕ, zero, suc, List, [], ◌∷◌, ◌++◌, get_or, refl, ap, true, false, arith}
use Rattle.std.specs.Prelude.{codes, Some, None}
use Rattle.redn_outside.specs.Calls.{Call, Reads, Writes}
use Rattle.redn_outside.specs.Seen.{StoreSeen}
use Rattle.redn_words.specs.declared.types.Obs.{Obs}
use Rattle.redn_words.specs.declared.types.Obs.TheVariants as shows
use Rattle.redn_command.specs.Words.{Command, Run, Go, Gen, Fair, Schedule}
use Rattle.redn_top.specs.declared.limits.TheConstants.{MAX_FILE, MAX_IMAGE, MAX_SCHEDULE}
use Rattle.redn_top.specs.declared.status.Status.TheVariants.{Done, Missing, ReadFailed, WriteFailed, Message}
use Rattle.redn_top.specs.declared.status.MessageFault.TheVariants.{NoChain}
use Rattle.redn_top.specs.Answers.{first_written}
use Rattle.redn_top.specs.Calls.{reads_of, EndAtRead, RecordMade, CallsMade, IsDemanded}
use Rattle.redn_top.specs.Laws.{ends_chain, EachEnded}
use Rattle.redn_top.proofs.FirstReason.{read_passed}

-- `run i --schedule s`, and `go f i --fair 9 --record r`
abbrev scheduled : Command
scheduled = Run (codes "i") (record { plan = Schedule (codes "s"); keep = None; messages = [] })

abbrev recorded : Command
recorded = Go (codes "f") (codes "i") (record { plan = Fair 9; keep = Some (codes "r"); messages = [] })

two_reads : reads_of scheduled ≡ Reads (codes "i") MAX_IMAGE ∷ Reads (codes "s") MAX_SCHEDULE ∷ []
two_reads = refl

-- where all is done the image is written and then the record
three_calls : CallsMade recorded None Done (Reads (codes "f") MAX_FILE ∷ Writes (codes "i") ∷ Writes (codes "r") ∷ [])
three_calls = refl

-- with a bad message the record isn't, and no image is written twice
two_calls : CallsMade recorded None (Message (NoChain 4)) (Reads (codes "f") MAX_FILE ∷ Writes (codes "i") ∷ [])
two_calls = refl

written_twice : CallsMade recorded None (Message (NoChain 4)) (Reads (codes "f") MAX_FILE ∷ Writes (codes "i") ∷ Writes (codes "i") ∷ []) → ⊥
written_twice e = absurd (cc)

-- the write of the image failed
lost : CallsMade recorded None WriteFailed (Reads (codes "f") MAX_FILE ∷ Writes (codes "i") ∷ [])
lost = (Writes (codes "i") ∷ [], (Writes (codes "r") ∷ [], refl), refl)

kept : RecordMade (Some (codes "r")) Done (Writes (codes "r") ∷ [])
kept = refl

-- the schedule can't be read behind an image that was
second : EndAtRead None (reads_of scheduled) (Reads (codes "i") MAX_IMAGE ∷ Reads (codes "s") MAX_SCHEDULE ∷ [])
second = record {
  earlier = Reads (codes "i") MAX_IMAGE ∷ [];
  here = Reads (codes "s") MAX_SCHEDULE;
  later = [];
  all_are = refl;
  made_are = refl;
  passed = ((Some [], tt, read_passed [] MAX_IMAGE (omega arith)), tt);
}

-- no read comes before that of the image
i_is_not_s : codes "i" ≡ codes "s" → ⊥
i_is_not_s same = let e : ◌≡◌ {A = ℕ} 105 115 = ap (λ xs. get_or xs 0 0) same in omega (arith, e)

schedule_first : EndAtRead None (reads_of scheduled) (Reads (codes "s") MAX_SCHEDULE ∷ []) → ⊥
schedule_first h = by_earlier h.earlier h.all_are h.made_are
  where
    by_earlier : (earlier : List Call) → reads_of scheduled ≡ earlier ++ h.here ∷ h.later → Reads (codes "s") MAX_SCHEDULE ∷ [] ≡ earlier ++ h.here ∷ [] → ⊥
    by_earlier [] a m = i_is_not_s (cc)
    by_earlier (c ∷ []) a m = absurd (cc)
    by_earlier (c ∷ d ∷ rest) a m = absurd (cc)

-- what is demanded where IMAGE is missing: that it is told
abbrev quiet_store : StoreSeen
quiet_store = record { told = None; calls = Some []; counts = record { read_faults = 0; write_faults = 0; missing_answers = 0; long_answers = 0 }; reliable = true }

told_missing : IsDemanded scheduled quiet_store quiet_store Missing Missing
told_missing = refl

-- or that the read of the image itself failed
read_failed : IsDemanded scheduled quiet_store (record quiet_store { calls = Some (Reads (codes "i") MAX_IMAGE ∷ []) }) Missing ReadFailed
read_failed = (Reads (codes "i") MAX_IMAGE ∷ [], record { earlier = []; here = Reads (codes "i") MAX_IMAGE; later = Reads (codes "s") MAX_SCHEDULE ∷ []; all_are = refl; made_are = refl; passed = tt }, refl)

firsts : (first_written scheduled ≡ None) × (first_written recorded ≡ Some (codes "i")) × (first_written (Gen 5 (codes "g")) ≡ Some (codes "g"))
firsts = (refl, refl, refl)

-- ---- ends of chains

replied : ends_chain 1 (shows.Reply 1 0 []) ≡ true
replied = refl

another_replied : ends_chain 1 (shows.Reply 0 0 []) ≡ false
another_replied = refl

abbrev shown : List Obs
shown = shows.Set 0 0 7 ∷ shows.Fault 0 2 8 ∷ []

-- chain 0 got a message and faulted, and chain 1 got none
both_over : EachEnded (Some [] ∷ None ∷ []) shown
both_over zero bytes e = refl
both_over (suc zero) bytes e = absurd (cc)
both_over (suc (suc c)) bytes e = absurd (cc)

not_over : EachEnded (None ∷ Some [] ∷ []) shown → ⊥
not_over h = let e = h 1 [] refl in absurd (cc)
