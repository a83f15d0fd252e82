-- Which calls of its store a command makes, and in what order.
use Rattle.std.specs.Prelude.{◌≡◌, List, [], ◌∷◌, ◌++◌, ℕ, Option, Some, None}
use Rattle.redn_outside.specs.Calls.{Call, Reads, Writes, and_calls}
use Rattle.redn_outside.specs.Files.{Files}
use Rattle.redn_outside.specs.Seen.{StoreSeen}
use Rattle.redn_command.specs.Words.{Command, Check, Compile, Run, Go, Disasm, Assemble, Gen, Plan, Schedule, Fair, Shuffle}
use Rattle.redn_top.specs.declared.limits.TheConstants.{MAX_FILE, MAX_IMAGE, MAX_LISTING, MAX_SCHEDULE}
use Rattle.redn_top.specs.declared.status.Status.{Status}
use Rattle.redn_top.specs.declared.status.Status.TheVariants as status
use Rattle.redn_top.specs.StatusText.{code_of}
use Rattle.redn_top.specs.Reasons.{Finds, NoneHolds, read_reasons}

-- ---- the calls of a command that does all its work

abbrev pub plan_reads : Plan → List Call
plan_reads (Schedule file) = Reads file MAX_SCHEDULE ∷ []
plan_reads (Fair steps) = []
plan_reads (Shuffle number steps) = []

-- the reads of a command that runs
abbrev pub run_reads : List ℕ → ℕ → Plan → List Call
run_reads name limit plan = Reads name limit ∷ plan_reads plan

abbrev pub reads_of : Command → List Call
reads_of (Check file) = Reads file MAX_FILE ∷ []
reads_of (Compile file image) = Reads file MAX_FILE ∷ []
reads_of (Run image r) = run_reads image MAX_IMAGE r.plan
reads_of (Go file image r) = run_reads file MAX_FILE r.plan
reads_of (Disasm image) = Reads image MAX_IMAGE ∷ []
reads_of (Assemble listing image) = Reads listing MAX_LISTING ∷ []
reads_of (Gen number image) = []

-- the write of its image
abbrev pub image_writes : Command → List Call
image_writes (Check file) = []
image_writes (Compile file image) = Writes image ∷ []
image_writes (Run image r) = []
image_writes (Go file image r) = Writes image ∷ []
image_writes (Disasm image) = []
image_writes (Assemble listing image) = Writes image ∷ []
image_writes (Gen number image) = Writes image ∷ []

abbrev pub record_write : Option (List ℕ) → List Call
record_write None = []
record_write (Some name) = Writes name ∷ []

-- that of the record
abbrev pub record_writes : Command → List Call
record_writes (Check file) = []
record_writes (Compile file image) = []
record_writes (Run image r) = record_write r.keep
record_writes (Go file image r) = record_write r.keep
record_writes (Disasm image) = []
record_writes (Assemble listing image) = []
record_writes (Gen number image) = []

-- ---- those that are made

-- some calls are the first of others
abbrev pub AreFirst : List Call → List Call → Type 0
AreFirst all made = (more : List Call) × (all ≡ made ++ more)

-- what a call found was no reason to refuse
abbrev pub Passed : Option Files → Call → Type 0
Passed told (Reads name limit) = (found : Option (List ℕ)) × Finds told name found × NoneHolds (read_reasons found limit)
Passed told (Writes name) = Unit {0}

abbrev pub AllPassed : Option Files → List Call → Type 0
AllPassed told [] = Unit {0}
AllPassed told (c ∷ rest) = Passed told c × AllPassed told rest

-- these calls were made, the last of them told the status, and those before it found no reason to refuse
pub record EndAtRead (told : Option Files) (all made : List Call) : Type 0 where
  pub earlier : List Call
  pub here : Call
  pub later : List Call
  pub all_are : all ≡ earlier ++ here ∷ later
  pub made_are : made ≡ earlier ++ here ∷ []
  pub passed : AllPassed told earlier

-- reads that are refused
abbrev pub ReadsMade : Option Files → List Call → Status → List Call → Type 0
ReadsMade told all status.Memory made = AreFirst all made
ReadsMade told all s made = EndAtRead told all made

-- the write of a record, by how a run ends
abbrev pub RecordMade : Option (List ℕ) → Status → List Call → Type 0
RecordMade keep status.Done made = made ≡ record_write keep
RecordMade keep status.WriteFailed made = AreFirst (record_write keep) made
RecordMade keep status.Memory made = AreFirst (record_write keep) made
RecordMade keep s made = made ≡ []

-- all calls of a command, by its status: no file is read or written twice, and none that it has no part in
abbrev pub CallsMade : Command → Option Files → Status → List Call → Type 0
CallsMade c told status.Done made = made ≡ reads_of c ++ (image_writes c ++ record_writes c)
CallsMade c told status.ReadFailed made = EndAtRead told (reads_of c) made
CallsMade c told status.Missing made = EndAtRead told (reads_of c) made
CallsMade c told (status.Long seen limit) made = EndAtRead told (reads_of c) made
CallsMade c told (status.Text fault) made = made ≡ reads_of c
CallsMade c told (status.Program rule at seen) made = made ≡ reads_of c
CallsMade c told (status.Image fault) made = made ≡ reads_of c
CallsMade c told (status.Schedule line) made = made ≡ reads_of c ++ image_writes c
CallsMade c told (status.Step line) made = made ≡ reads_of c ++ image_writes c
CallsMade c told (status.Message fault) made = made ≡ reads_of c ++ image_writes c
CallsMade c told status.WriteFailed made = (writes : List Call) × AreFirst (image_writes c ++ record_writes c) writes × (made ≡ reads_of c ++ writes)
CallsMade c told status.Memory made = AreFirst (reads_of c ++ (image_writes c ++ record_writes c)) made
CallsMade c told status.Words made = ⊥

-- where the store tells its calls, they have grown by some of which this holds
abbrev pub GrewBy : (List Call → Type 0) → StoreSeen → StoreSeen → Type 0
GrewBy P before now = (made : List Call) × P made × (now.calls ≡ and_calls made before.calls)

-- the calls of a command that ended with its status
abbrev pub Calls : Command → StoreSeen → StoreSeen → Status → Type 0
Calls c before now s = GrewBy (CallsMade c before.told s) before now

-- where a reason holds it is told, unless a read failed before which nothing was to be told, or memory is wanting
abbrev pub IsDemanded : Command → StoreSeen → StoreSeen → Status → Status → Type 0
IsDemanded c before now due status.ReadFailed = GrewBy (EndAtRead before.told (reads_of c)) before now
IsDemanded c before now due status.Memory = Unit {0}
IsDemanded c before now due s = code_of s ≡ code_of due
