-- Values worked by hand, which the checker computes.
use Rattle.std.proofs.Common.{Option, ◌≢◌, ap, sym, ◌∙◌, ◌≡◌, ℕ, ◌<◌, List, [], ◌∷◌, None, Some, Result, Ok, Err, refl, lit≤, lit<, arith, codes, zero, suc, get_or}
use Rattle.std.specs.FinMap as finite
use Rattle.std.specs.FinMap.{gets}
use Rattle.redn_outside.specs.Counts.{one_more, Rose, NeverFalls}
use Rattle.redn_outside.specs.Files.{Files, file_at, with_file, told_at, OthersStay}
use Rattle.redn_outside.specs.Calls.{Call, Reads, Writes, and_calls, calls_of_read, calls_of_write}
use Rattle.redn_outside.specs.JournalState.{call_by, parts_of}
use Rattle.redn_outside.specs.Reads as reads
use Rattle.redn_outside.specs.Writes as writes
use Rattle.redn_outside.specs.StoreCounts.{no_answers, counts_after_read, AreCounts}
use Rattle.redn_outside.specs.StoreState.{StoreState, empty_store, NextFails, after_read, after_write}
use Rattle.redn_outside.specs.SinkState.{SinkState, empty_sink, Fits, after_put, after_fault, half}
use Rattle.redn_outside.specs.declared.store.ReadFault.{ReadFault}
use Rattle.redn_outside.specs.declared.store.ReadFault.TheVariants as read
use Rattle.redn_outside.specs.declared.store.WriteFault.{WriteFault}
use Rattle.redn_outside.specs.declared.store.WriteFault.TheVariants as write

-- a count rises by one, and stays at its greatest value
count_of_three : one_more 3 ≡ 4
count_of_three = refl

greatest_count : one_more 18446744073709551615 ≡ 18446744073709551615
greatest_count = refl

three_to_five_rose : Rose 3 5
three_to_five_rose = lit≤ tt

greatest_rose : Rose 18446744073709551615 18446744073709551615
greatest_rose = lit≤ tt

three_to_three_rose_not : ¬ Rose 3 3
three_to_three_rose_not rose = omega (arith, rose)

three_to_three_fell_not : NeverFalls 3 3
three_to_three_fell_not = (lit≤ tt, lit< tt)

-- two files: "a" has the bytes 1 and 2, and "b" the byte 3
abbrev two_files : Files
two_files = with_file (codes "b") (3 ∷ []) (with_file (codes "a") (1 ∷ 2 ∷ []) finite.empty)

file_a : file_at two_files (codes "a") ≡ Some (1 ∷ 2 ∷ [])
file_a = simp gets refl

no_file_c : file_at two_files (codes "c") ≡ None
no_file_c = simp gets refl

-- a file is put in place of the one under its name, and the other stays
file_a_again : file_at (with_file (codes "a") (9 ∷ []) two_files) (codes "a") ≡ Some (9 ∷ [])
file_a_again = simp gets refl

file_b_stays : file_at (with_file (codes "a") (9 ∷ []) two_files) (codes "b") ≡ Some (3 ∷ [])
file_b_stays = simp gets refl

told_of_b : told_at (Some two_files) (codes "b") ≡ Some (3 ∷ [])
told_of_b = simp gets refl

told_of_nothing : told_at None (codes "b") ≡ None
told_of_nothing = refl

-- a write of "a" that empties "b" doesn't leave the others
b_is_not_a : codes "b" ≢ codes "a"
b_is_not_a same = let e : ◌≡◌ {A = ℕ} 98 97 = ap (λ xs. get_or xs 0 0) same in omega (arith, e)

others_emptied : ¬ OthersStay (codes "a") (Some two_files) (Some (with_file (codes "b") [] two_files))
others_emptied stays =
    let now : told_at (Some (with_file (codes "b") [] two_files)) (codes "b") ≡ Some [] = simp gets refl in
    let e : ◌≡◌ {A = Option (List ℕ)} (Some []) (Some (3 ∷ [])) = sym now ∙ stays.others (codes "b") b_is_not_a ∙ told_of_b in
    cc

-- the words on answers say a fact of their answer, and nothing of another
failed_read : (n : ℕ) → reads.OnFailed {T = ℕ} (Err read.Failed) (n ≡ 2) → n ≡ 2
failed_read n said = said

missing_read : (n : ℕ) → reads.OnMissing {T = ℕ} (Err read.Missing) (n ≡ 2) → n ≡ 2
missing_read n said = said

long_read : (n : ℕ) → reads.IfLong {T = ℕ} (Err (read.Long n)) (λ seen. seen ≡ 2) → n ≡ 2
long_read n said = said

wanting_read : (n : ℕ) → reads.OnMemory {T = ℕ} (Err read.Memory) (n ≡ 2) → n ≡ 2
wanting_read n said = said

good_read : reads.OnFailed {T = ℕ} (Ok 0) ⊥ × reads.OnMissing {T = ℕ} (Ok 0) ⊥ × reads.IfLong {T = ℕ} (Ok 0) (λ _. ⊥) × reads.OnMemory {T = ℕ} (Ok 0) ⊥
good_read = (tt, tt, tt, tt)

failed_write : (n : ℕ) → writes.OnFailed {T = ℕ} (Err write.Failed) (n ≡ 2) → n ≡ 2
failed_write n said = said

wanting_write : (n : ℕ) → writes.OnMemory {T = ℕ} (Err write.Memory) (n ≡ 2) → n ≡ 2
wanting_write n said = said

good_write : writes.OnFailed {T = ℕ} (Ok 0) ⊥ × writes.OnMemory {T = ℕ} (Ok 0) ⊥
good_write = (tt, tt)

-- a store whose call 1 will fail: it reads "a", fails to write it, and writes it
abbrev at_first : StoreState
at_first = record (empty_store (1 ∷ [])) { files = two_files }

abbrev bytes_of_a : Result (List ℕ) ReadFault
bytes_of_a = Ok (1 ∷ 2 ∷ [])

abbrev refused : Result ℕ WriteFault
refused = Err write.Failed

abbrev done : Result ℕ WriteFault
done = Ok 0

abbrev after_one : StoreState
after_one = after_read at_first bytes_of_a

abbrev after_two : StoreState
after_two = after_write after_one (codes "a") (9 ∷ []) refused

abbrev after_three : StoreState
after_three = after_write after_two (codes "a") (9 ∷ []) done

zero_is_listed_not : (i : ℕ) → i < 1 → get_or {A = ℕ} (1 ∷ []) i 0 ≡ 0 → ⊥
zero_is_listed_not zero in_list same = omega (arith, same)
zero_is_listed_not (suc i) in_list same = omega arith

first_fails_not : ¬ NextFails at_first
first_fails_not (i, in_list, same) = zero_is_listed_not i in_list same

second_fails : NextFails after_one
second_fails = (0, lit< tt, refl)

counts_after_two : after_two.counts ≡ record { read_faults = 0; write_faults = 1; long_answers = 0; missing_answers = 0 }
counts_after_two = refl

failed_write_leaves_a : file_at after_two.files (codes "a") ≡ Some (1 ∷ 2 ∷ [])
failed_write_leaves_a = simp gets refl

calls_after_three : after_three.calls ≡ 3
calls_after_three = refl

write_puts_a : file_at after_three.files (codes "a") ≡ Some (9 ∷ [])
write_puts_a = simp gets refl

write_leaves_b : file_at after_three.files (codes "b") ≡ Some (3 ∷ [])
write_leaves_b = simp gets refl

-- a missing and a long answer are counted, and are no faults; a read that wants memory is no call
counts_of_answers : counts_after_read {T = ℕ} (counts_after_read {T = ℕ} no_answers (Err read.Missing)) (Err (read.Long 7))
    ≡ record { read_faults = 0; write_faults = 0; long_answers = 1; missing_answers = 1 }
counts_of_answers = refl

wanting_read_is_no_call : after_read {T = ℕ} at_first (Err read.Memory) ≡ at_first
wanting_read_is_no_call = refl

-- a sink with room for 5 bytes: it takes 2, and fails with half of a piece of 3
abbrev two_written : SinkState
two_written = after_put (empty_sink [] 5) (1 ∷ 2 ∷ [])

abbrev half_written : SinkState
half_written = after_fault two_written (half (7 ∷ 8 ∷ 9 ∷ []))

three_fit : Fits two_written (7 ∷ 8 ∷ 9 ∷ [])
three_fit = lit≤ tt

half_is_written : half_written ≡ record { written = 1 ∷ 2 ∷ 7 ∷ []; room = 5; fail = []; calls = 2; faults = 1 }
half_is_written = refl

three_fit_not : ¬ Fits half_written (7 ∷ 8 ∷ 9 ∷ [])
three_fit_not fits = omega (arith, fits)

half_of_one : half (7 ∷ []) ≡ []
half_of_one = refl

-- a read of "a" was answered, a read of "b" wanted memory, and a write of "b" failed: two calls are told
abbrev told_calls : Option (List Call)
told_calls = and_calls (calls_of_write {T = ℕ} (codes "b") (Err write.Failed)) (and_calls (calls_of_read {T = ℕ} (codes "b") 9 (Err read.Memory)) (and_calls (calls_of_read (codes "a") 9 bytes_of_a) (Some [])))

two_calls : told_calls ≡ Some (Reads (codes "a") 9 ∷ Writes (codes "b") ∷ [])
two_calls = refl

missing_and_long_are_calls : calls_of_read {T = ℕ} (codes "a") 9 (Err read.Missing) ≡ calls_of_read {T = ℕ} (codes "a") 9 (Err (read.Long 10))
missing_and_long_are_calls = refl

calls_untold : and_calls (calls_of_write (codes "a") done) None ≡ None
calls_untold = refl

kept_apart : call_by (parts_of (Writes (codes "a"))).0 (parts_of (Writes (codes "a"))).1 ≡ Writes (codes "a")
kept_apart = refl

first_counts : AreCounts no_answers
first_counts = record { read_faults = lit< tt; write_faults = lit< tt; long_answers = lit< tt; missing_answers = lit< tt }
