-- The counts of a store, and what a call makes of them.
use Rattle.std.specs.Prelude.{◌^◌, ◌<◌, Result, Ok, Err}
use Rattle.redn_outside.specs.Counts.{one_more, NeverFalls}
use Rattle.redn_outside.specs.declared.counts.StoreCounts.{StoreCounts}
use Rattle.redn_outside.specs.declared.store.ReadFault.{ReadFault}
use Rattle.redn_outside.specs.declared.store.ReadFault.TheVariants as read
use Rattle.redn_outside.specs.declared.store.WriteFault.{WriteFault}
use Rattle.redn_outside.specs.declared.store.WriteFault.TheVariants as write

-- the counts of a store that has answered nothing yet
abbrev pub no_answers : StoreCounts
no_answers =
    record { read_faults = 0; write_faults = 0; long_answers = 0; missing_answers = 0 }

-- the counts after a read, by its answer
abbrev pub counts_after_read : {T : Type 0} → StoreCounts → Result T ReadFault → StoreCounts
counts_after_read c (Ok bytes) = c
counts_after_read c (Err read.Failed) = record c { read_faults = one_more c.read_faults }
counts_after_read c (Err read.Missing) = record c { missing_answers = one_more c.missing_answers }
counts_after_read c (Err (read.Long seen)) = record c { long_answers = one_more c.long_answers }
counts_after_read c (Err read.Memory) = c

-- the counts after a write, by its answer
abbrev pub counts_after_write : {T : Type 0} → StoreCounts → Result T WriteFault → StoreCounts
counts_after_write c (Ok done) = c
counts_after_write c (Err write.Failed) = record c { write_faults = one_more c.write_faults }
counts_after_write c (Err write.Memory) = c

-- none of the counts that a read may raise fell
pub record ReadCountsNeverFall (before now : StoreCounts) : Type 0 where
  pub read_faults : NeverFalls before.read_faults now.read_faults
  pub long_answers : NeverFalls before.long_answers now.long_answers
  pub missing_answers : NeverFalls before.missing_answers now.missing_answers

-- each count is a u64
pub record AreCounts (c : StoreCounts) : Type 0 where
  pub read_faults : c.read_faults < 2 ^ 64
  pub write_faults : c.write_faults < 2 ^ 64
  pub long_answers : c.long_answers < 2 ^ 64
  pub missing_answers : c.missing_answers < 2 ^ 64
