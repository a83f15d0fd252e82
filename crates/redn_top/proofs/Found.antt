-- What is found under a name, by what a store tells.
use Rattle.std.proofs.Common.{◌≡◌, ℕ, suc, ◌+◌, ◌<◌, List, length, replicate, inl, inr, refl, sym, subst, arith}
use Rattle.std.specs.Prelude.{Option, Some, None, IfSome, IsSomeAnd}
use Rattle.std.proofs.lemmas.List.{length-replicate}
use Rattle.redn_outside.specs.Files.{Files, file_at, told_at}
use Rattle.redn_outside.specs.Seen.{StoreSeen, KeepsFiles, ReadFailed as FailedRead, MissingRose, LongRose}
use Rattle.redn_top.specs.declared.status.Status.{Status}
use Rattle.redn_top.specs.declared.status.Status.TheVariants.{ReadFailed, Missing, Long, Memory}
use Rattle.redn_top.specs.declared.limits.TheConstants.{MAX_SCHEDULE}
use Rattle.redn_top.specs.Reasons.{Finds, IsPlanInput, read_reasons, plan_reads, run_reads}
use Rattle.redn_command.specs.Words.{Plan, Schedule, Fair, Shuffle}
use Rattle.redn_top.specs.Refusals.{IsHeld, ReadRefused, RunReadRefused}
use Rattle.redn_top.proofs.FirstReason.{first_here, first_behind, read_passed, reads_map, reads_later}

pub found_somehow : (told : Option Files) (name : List ℕ) → Finds told name (told_at told name)
found_somehow None name = tt
found_somehow (Some files) name = refl

-- a longer file than may be read
record Longer (told : Option Files) (name : List ℕ) (limit : ℕ) : Type 0 where
  bytes : List ℕ
  found : Finds told name (Some bytes)
  longer : limit < length bytes

longer_held : (files : Files) (name : List ℕ) (limit : ℕ) (held : Option (List ℕ)) → file_at files name ≡ held → IsSomeAnd held (λ bytes. limit < length bytes) → Longer (Some files) name limit
longer_held files name limit None e h = absurd h
longer_held files name limit (Some bytes) e h = record { bytes = bytes; found = e; longer = h }

longer_file : (told : Option Files) (name : List ℕ) (limit : ℕ) → IfSome told (λ files. IsSomeAnd (file_at files name) (λ bytes. limit < length bytes)) → Longer told name limit
longer_file None name limit h = record { bytes = replicate (suc limit) 0; found = tt; longer = omega (arith, length-replicate {A = ℕ} (suc limit) 0) }
longer_file (Some files) name limit h = longer_held files name limit (file_at files name) refl h

module _ (told : Option Files) (name : List ℕ) (limit : ℕ) (before now : StoreSeen) where
  pub failed_refused : FailedRead before now → ReadRefused told name limit before now ReadFailed
  failed_refused h = record { file = told_at told name; found = found_somehow told name; refuses = h }

  pub want_refused : ReadRefused told name limit before now Memory
  want_refused = record { file = told_at told name; found = found_somehow told name; refuses = tt }

  pub long_refused : (seen : ℕ) → IfSome told (λ files. IsSomeAnd (file_at files name) (λ bytes. limit < length bytes)) → seen ≡ limit + 1 → LongRose before now → ReadRefused told name limit before now (Long seen limit)
  long_refused seen h e rose =
      let l = longer_file told name limit h in
      subst (λ (n : ℕ). ReadRefused told name limit before now (Long n limit)) (sym e)
      (record { file = Some l.bytes; found = l.found; refuses = (rose, inr ((λ s h. absurd (let e = h.0 in cc)), inl (l.bytes, refl, (l.longer, refl)))) })

-- what a plan reads is found somehow
plan_somehow : (told : Option Files) (plan : Plan) → (found : Option (List ℕ)) × IsPlanInput told plan found
plan_somehow told (Schedule file) = (told_at told file, found_somehow told file)
plan_somehow told (Fair steps) = (None, tt)
plan_somehow told (Shuffle number steps) = (None, tt)

-- the first read of a run is refused
pub first_read_refused : (told : Option Files) (name : List ℕ) (limit : ℕ) (plan : Plan) (before now : StoreSeen) (s : Status) → ReadRefused told name limit before now s → RunReadRefused told name limit plan before now s
first_read_refused told name limit plan before now s r =
    let other = plan_somehow told plan in
    record {
      file = r.file;
      schedule = other.0;
      found = r.found;
      schedule_found = other.1;
      refuses = reads_map (read_reasons r.file limit) (run_reads r.file limit plan other.0) (first_here (read_reasons r.file limit) (plan_reads plan other.0)) before now s r.refuses;
    }

-- the second of them is
pub second_read_refused : (name : List ℕ) (limit : ℕ) (schedule : List ℕ) (before mid now : StoreSeen) (text : List ℕ) → KeepsFiles before mid → IsHeld before.told name limit text → (s : Status) → ReadRefused mid.told schedule MAX_SCHEDULE mid now s → RunReadRefused before.told name limit (Schedule schedule) before now s
second_read_refused name limit schedule before mid now text keeps held s r =
    record {
      file = Some text;
      schedule = r.file;
      found = held.found;
      schedule_found = subst (λ (t : Option Files). Finds t schedule r.file) keeps.told r.found;
      refuses =
          reads_map (read_reasons r.file MAX_SCHEDULE) (run_reads (Some text) limit (Schedule schedule) r.file) (λ s h. first_behind (read_reasons (Some text) limit) (read_reasons r.file MAX_SCHEDULE) s (read_passed text limit held.fits) h) before now s
          (reads_later (read_reasons r.file MAX_SCHEDULE) before mid now keeps s r.refuses);
    }
