-- What can be seen of a store and of a sink at one moment, and what a call leaves of it.
use Rattle.std.specs.Prelude.{◌≡◌, ℕ, Bool, true, false, List, Option}
use Rattle.redn_outside.specs.Counts.{Rose, NeverFalls}
use Rattle.redn_outside.specs.Files.{Files, OthersStay}
use Rattle.redn_outside.specs.Calls.{Call}
use Rattle.redn_outside.specs.declared.counts.StoreCounts.{StoreCounts}

pub record StoreSeen : Type 0 where
  pub told : Option Files  -- what it holds, or None where it doesn't tell
  pub calls : Option (List Call)  -- those answered so far, or None where it doesn't tell
  pub counts : StoreCounts
  pub reliable : Bool  -- no call of it ever fails

pub record SinkSeen : Type 0 where
  pub told : Option (List ℕ)  -- what was written, or None where it doesn't tell
  pub faults : ℕ
  pub reliable : Bool

-- a read changes nothing that is held and no count of writes, and no count falls
pub record KeepsFiles (before now : StoreSeen) : Type 0 where
  pub told : now.told ≡ before.told
  pub write_faults : now.counts.write_faults ≡ before.counts.write_faults
  pub read_faults : NeverFalls before.counts.read_faults now.counts.read_faults
  pub long_answers : NeverFalls before.counts.long_answers now.counts.long_answers
  pub missing_answers : NeverFalls before.counts.missing_answers now.counts.missing_answers
  pub reliable : now.reliable ≡ before.reliable
  pub no_fault : before.reliable ≡ true → now.counts.read_faults ≡ before.counts.read_faults

-- a write under a name changes nothing under another and no count of reads, and its count doesn't fall
pub record KeepsOthers (name : List ℕ) (before now : StoreSeen) : Type 0 where
  pub told : OthersStay name before.told now.told
  pub read_faults : now.counts.read_faults ≡ before.counts.read_faults
  pub long_answers : now.counts.long_answers ≡ before.counts.long_answers
  pub missing_answers : now.counts.missing_answers ≡ before.counts.missing_answers
  pub write_faults : NeverFalls before.counts.write_faults now.counts.write_faults
  pub reliable : now.reliable ≡ before.reliable
  pub no_fault : before.reliable ≡ true → now.counts.write_faults ≡ before.counts.write_faults

-- the count of a sink doesn't fall
pub record KeepsCount (before now : SinkSeen) : Type 0 where
  pub faults : NeverFalls before.faults now.faults
  pub reliable : now.reliable ≡ before.reliable
  pub no_fault : before.reliable ≡ true → now.faults ≡ before.faults

-- a read failed: its count rose, and it isn't a store whose calls never fail
abbrev pub ReadFailed : StoreSeen → StoreSeen → Type 0
ReadFailed before now = Rose before.counts.read_faults now.counts.read_faults × (before.reliable ≡ false)

-- a write failed
abbrev pub WriteFailed : StoreSeen → StoreSeen → Type 0
WriteFailed before now = Rose before.counts.write_faults now.counts.write_faults × (before.reliable ≡ false)

-- a put failed
abbrev pub PutFailed : SinkSeen → SinkSeen → Type 0
PutFailed before now = Rose before.faults now.faults × (before.reliable ≡ false)

abbrev pub MissingRose : StoreSeen → StoreSeen → Type 0
MissingRose before now = Rose before.counts.missing_answers now.counts.missing_answers

abbrev pub LongRose : StoreSeen → StoreSeen → Type 0
LongRose before now = Rose before.counts.long_answers now.counts.long_answers
