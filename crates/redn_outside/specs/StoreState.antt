-- A store in memory.
use Rattle.std.specs.Prelude.{ℕ, Bool, true, false, List, [], ◌∷◌, Result, Ok, Err, Contains, refl}
use Rattle.std.specs.FinMap as finite
use Rattle.std.specs.Coded.{Coded, code_by, coded×, coded_ℕ, coded_list}
use Rattle.redn_outside.specs.Counts.{one_more}
use Rattle.redn_outside.specs.Files.{Files, with_file}
use Rattle.redn_outside.specs.StoreCounts.{no_answers, counts_after_read, counts_after_write}
use Rattle.redn_outside.specs.declared.counts.StoreCounts.{StoreCounts}
use Rattle.redn_outside.specs.declared.store.ReadFault.{ReadFault}
use Rattle.redn_outside.specs.declared.store.ReadFault.TheVariants as read
use Rattle.redn_outside.specs.declared.store.WriteFault.{WriteFault}
use Rattle.redn_outside.specs.declared.store.WriteFault.TheVariants as write

pub record StoreState : Type 0 where
  pub files : Files
  -- the numbers of the calls that fail
  pub fail : List ℕ
  -- the number of the next call
  pub calls : ℕ
  pub counts : StoreCounts

-- it is stored as the tuple of its numbers, lists and files
abbrev pub store_state_code : Coded StoreState
store_state_code =
    code_by (Files × (List ℕ × (ℕ × (ℕ × (ℕ × (ℕ × ℕ))))))
    (coded× (finite.code (coded_list coded_ℕ) (coded_list coded_ℕ))
    (coded× (coded_list coded_ℕ) (coded× coded_ℕ (coded× coded_ℕ (coded× coded_ℕ (coded× coded_ℕ coded_ℕ))))))
    (λ s. (s.files, (s.fail, (s.calls, (s.counts.read_faults, (s.counts.write_faults, (s.counts.long_answers, s.counts.missing_answers)))))))
    (λ p. record {
      files = p.0;
      fail = p.1.0;
      calls = p.1.1.0;
      counts = record {
        read_faults = p.1.1.1.0;
        write_faults = p.1.1.1.1.0;
        long_answers = p.1.1.1.1.1.0;
        missing_answers = p.1.1.1.1.1.1;
      };
    })
    (λ _. refl)

-- a store that holds nothing and was not called yet, whose calls of these numbers will fail
abbrev pub empty_store : List ℕ → StoreState
empty_store fail = record { files = finite.empty; fail = fail; calls = 0; counts = no_answers }

-- no number of a call that fails is listed
abbrev pub fails_nowhere : List ℕ → Bool
fails_nowhere [] = true
fails_nowhere (n ∷ rest) = false

-- the next call is one of those that fail
abbrev pub NextFails : StoreState → Type 0
NextFails s = Contains s.fail s.calls

-- the number of the next call, after a read: one that wants memory is no call
abbrev pub calls_after_read : {T : Type 0} → ℕ → Result T ReadFault → ℕ
calls_after_read calls (Ok bytes) = one_more calls
calls_after_read calls (Err read.Failed) = one_more calls
calls_after_read calls (Err read.Missing) = one_more calls
calls_after_read calls (Err (read.Long seen)) = one_more calls
calls_after_read calls (Err read.Memory) = calls

-- the same after a write
abbrev pub calls_after_write : {T : Type 0} → ℕ → Result T WriteFault → ℕ
calls_after_write calls (Ok done) = one_more calls
calls_after_write calls (Err write.Failed) = one_more calls
calls_after_write calls (Err write.Memory) = calls

-- what a read leaves, by its answer
abbrev pub after_read : {T : Type 0} → StoreState → Result T ReadFault → StoreState
after_read s answer = record s { calls = calls_after_read s.calls answer; counts = counts_after_read s.counts answer }

-- the files after a write of these bytes under this name, by its answer
abbrev pub files_after_write : {T : Type 0} → Files → List ℕ → List ℕ → Result T WriteFault → Files
files_after_write files name bytes (Ok done) = with_file name bytes files
files_after_write files name bytes (Err fault) = files

-- what a write of these bytes under this name leaves, by its answer
abbrev pub after_write : {T : Type 0} → StoreState → List ℕ → List ℕ → Result T WriteFault → StoreState
after_write s name bytes answer = record s {
  files = files_after_write s.files name bytes answer;
  calls = calls_after_write s.calls answer;
  counts = counts_after_write s.counts answer;
}
