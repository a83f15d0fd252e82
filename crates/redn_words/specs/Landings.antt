-- The landing of a request: what it reads, what it then writes, and what it shows.
use Rattle.std.specs.Prelude.{ℕ, ◌+◌, ◌*◌, ◌/◌, ◌%◌, ◌^◌, Bool, true, false, ◌&&◌, ◌==◌, nat_lt, nat_le, if◌then◌else◌, List, [], ◌∷◌, map, Option, Some, None, Result, Ok, Err}
use Rattle.redn_words.specs.declared.types.Request.{Request}
use Rattle.redn_words.specs.declared.types.Opcode.{Opcode}
use Rattle.redn_words.specs.declared.types.Opcode.TheVariants.{Noop, Write, Read, Cas, Add, Send, Wait, Enable, Undefined}
use Rattle.redn_words.specs.declared.types.Region.{Region}
use Rattle.redn_words.specs.declared.types.Kind.{Kind}
use Rattle.redn_words.specs.declared.types.Kind.TheVariants.{Vars, Table, Code, Control, Message}
use Rattle.redn_words.specs.declared.types.Need.{Need}
use Rattle.redn_words.specs.declared.types.Need.TheVariants.{Any, LocalWrite, RemoteRead, RemoteWrite, Atomic}
use Rattle.redn_words.specs.declared.types.Spot.{Spot}
use Rattle.redn_words.specs.declared.types.Refusal.{Refusal}
use Rattle.redn_words.specs.declared.types.Refusal.TheVariants as no
use Rattle.redn_words.specs.declared.types.Origin.{Origin}
use Rattle.redn_words.specs.declared.types.Obs.{Obs}
use Rattle.redn_words.specs.declared.types.Obs.TheVariants as shows
use Rattle.redn_words.specs.Words.{bytes_at, with_bytes_at, word, spelled}
use Rattle.redn_words.specs.Requests.{opcode_of}
use Rattle.redn_words.specs.Access.{access, region_of}

-- a range of memory
pub record Place : Type 0 where
  pub at : ℕ
  pub len : ℕ

-- bytes, and where they are put
pub record Change : Type 0 where
  pub at : ℕ
  pub bytes : List ℕ

-- a landing reads one range, and writes and shows what follows from the bytes there
pub record Landing : Type 0 where
  pub allowed : Bool
  pub reads : Place
  pub writes : List Change  -- the first one first
  pub shown : Obs

-- memory after some changes
abbrev pub changed : List ℕ → List Change → List ℕ
changed memory [] = memory
changed memory (c ∷ rest) = changed (with_bytes_at memory c.at c.bytes) rest

abbrev pub change : ℕ → List ℕ → Change
change at bytes = record { at = at; bytes = bytes }

abbrev pub odd : Origin → Obs
odd o = shows.Odd o.queue o.index

abbrev pub when : Bool → Obs → Origin → Obs
when holds shown o = if holds then shown else odd o

-- how many bytes each side has
abbrev pub side_len : Opcode → Request → ℕ
side_len Cas r = 8
side_len Add r = 8
side_len _ r = r.length

abbrev pub local_need : Opcode → Need
local_need Read = LocalWrite
local_need Cas = LocalWrite
local_need Add = LocalWrite
local_need _ = Any

abbrev pub remote_need : Opcode → Need
remote_need Read = RemoteRead
remote_need Write = RemoteWrite
remote_need _ = Atomic

abbrev pub local_side : List Region → ℕ → Opcode → Request → Result Spot Refusal
local_side regions domain op r = access regions domain r.lkey r.local (side_len op r) (local_need op)

abbrev pub remote_side : List Region → ℕ → Opcode → Request → Result Spot Refusal
remote_side regions domain op r = access regions domain r.rkey r.remote (side_len op r) (remote_need op)

-- what a WRITE of the word w shows, by the kinds of its two sides
abbrev pub write_to : Origin → Request → ℕ → Kind → Obs
write_to o r w Vars = when (r.length == 8 && r.remote % 8 == 0) (shows.Set o.chain (r.remote / 8) w) o
write_to o r w (Table t) = when (r.length == 8) (shows.Store o.chain t r.remote w) o
write_to o r w Code = shows.Nothing
write_to o r w Control = shows.Nothing
write_to o r w Message = odd o

abbrev pub write_shows : Origin → Request → ℕ → Kind → Kind → Obs
write_shows o r w (Table t) remote = odd o
write_shows o r w Vars remote = write_to o r w remote
write_shows o r w Code remote = write_to o r w remote
write_shows o r w Control remote = write_to o r w remote
write_shows o r w Message remote = write_to o r w remote

-- what a READ of the word w shows
abbrev pub read_into_vars : Origin → Request → ℕ → Kind → Obs
read_into_vars o r w (Table t) = when (r.length == 8 && r.local % 8 == 0) (shows.Load o.chain (r.local / 8) t r.remote w) o
read_into_vars o r w _ = when (r.length == 8 && r.local % 8 == 0) (shows.Set o.chain (r.local / 8) w) o

abbrev pub read_hidden : Origin → Request → ℕ → Kind → Obs
read_hidden o r w (Table t) = when (r.length == 8) (shows.Look o.chain t r.remote w) o
read_hidden o r w _ = shows.Nothing

abbrev pub read_shows : Origin → Request → ℕ → Kind → Kind → Obs
read_shows o r w Vars remote = read_into_vars o r w remote
read_shows o r w Code remote = read_hidden o r w remote
read_shows o r w Control remote = read_hidden o r w remote
read_shows o r w (Table t) remote = odd o
read_shows o r w Message remote = odd o

abbrev pub is_hidden : Kind → Bool
is_hidden Code = true
is_hidden Control = true
is_hidden Vars = false
is_hidden (Table t) = false
is_hidden Message = false

abbrev pub cas_shows : Origin → Kind → Kind → Obs
cas_shows o local remote = when (is_hidden local && is_hidden remote) shows.Nothing o

-- what an ADD shows whose sum is w
abbrev pub add_to : Origin → Request → ℕ → Kind → Obs
add_to o r w Vars = shows.Set o.chain (r.remote / 8) w
add_to o r w Code = shows.Nothing
add_to o r w Control = shows.Nothing
add_to o r w (Table t) = odd o
add_to o r w Message = odd o

abbrev pub add_shows : Origin → Request → ℕ → Kind → Kind → Obs
add_shows o r w local remote = if is_hidden local then add_to o r w remote else odd o

-- the eight words of a reply, of which the first n are in the bytes sent
abbrev pub reply_words : ℕ → List ℕ → List ℕ
reply_words n sent = map (λ (k : ℕ). if nat_lt k n then word sent (8 * k) else 0) (0 ∷ 1 ∷ 2 ∷ 3 ∷ 4 ∷ 5 ∷ 6 ∷ 7 ∷ [])

abbrev pub send_shows : Origin → Request → List ℕ → Kind → Obs
send_shows o r sent Control =
    when (r.length % 8 == 0 && nat_le r.length 64) (shows.Reply o.chain (r.length / 8) (reply_words (r.length / 8) sent)) o
send_shows o r sent Vars = odd o
send_shows o r sent (Table t) = odd o
send_shows o r sent Code = odd o
send_shows o r sent Message = odd o

-- what a refused landing shows: a fault, where the remote side alone was refused, for its range, in a table
abbrev pub is_move : Opcode → Bool
is_move Read = true
is_move Write = true
is_move _ = false

abbrev pub table_fault : Origin → Request → Kind → Obs
table_fault o r (Table t) = shows.Fault o.chain t r.remote
table_fault o r _ = shows.Refused o.queue o.index

abbrev pub fault_in : Origin → Request → Option Region → Obs
fault_in o r None = shows.Refused o.queue o.index
fault_in o r (Some region) = table_fault o r region.kind

abbrev pub remote_refused : List Region → Origin → Opcode → Request → Refusal → Obs
remote_refused regions o op r no.Range =
    if is_move op && r.length == 8 then fault_in o r (region_of regions r.rkey) else shows.Refused o.queue o.index
remote_refused regions o op r _ = shows.Refused o.queue o.index

-- a refused landing reads and writes nothing
abbrev pub refused : Obs → Landing
refused shown = record { allowed = false; reads = record { at = 0; len = 0 }; writes = []; shown = shown }

abbrev pub done : ℕ → ℕ → List Change → Obs → Landing
done at len writes shown = record { allowed = true; reads = record { at = at; len = len }; writes = writes; shown = shown }

-- the local side is checked first
abbrev pub two_sides : List Region → Origin → Opcode → Request → Result Spot Refusal → Result Spot Refusal → (Spot → Spot → Landing) → Landing
two_sides regions o op r (Err e) remote go = refused (shows.Refused o.queue o.index)
two_sides regions o op r (Ok l) (Err e) go = refused (remote_refused regions o op r e)
two_sides regions o op r (Ok l) (Ok d) go = go l d

abbrev pub one_side : Origin → Result Spot Refusal → (Spot → Landing) → Landing
one_side o (Err e) go = refused (shows.Refused o.queue o.index)
one_side o (Ok l) go = go l

-- what each opcode does where its sides are allowed, by the bytes that it reads
abbrev pub write_by : Origin → Request → Spot → Spot → List ℕ → Landing
write_by o r l d moved = done l.at r.length (change d.at moved ∷ []) (write_shows o r (word moved 0) l.kind d.kind)

abbrev pub read_by : Origin → Request → Spot → Spot → List ℕ → Landing
read_by o r l d moved = done d.at r.length (change l.at moved ∷ []) (read_shows o r (word moved 0) l.kind d.kind)

abbrev pub swap : Request → Spot → ℕ → List Change → List Change
swap r d old rest = if old == r.first then change d.at (spelled 8 r.second) ∷ rest else rest

abbrev pub cas_by : Origin → Request → Spot → Spot → List ℕ → Landing
cas_by o r l d old = done d.at 8 (swap r d (word old 0) (change l.at (spelled 8 (word old 0)) ∷ [])) (cas_shows o l.kind d.kind)

abbrev pub sum_of : Request → ℕ → ℕ
sum_of r old = (old + r.first) % 2 ^ 64

abbrev pub add_by : Origin → Request → Spot → Spot → List ℕ → Landing
add_by o r l d old =
    done d.at 8 (change d.at (spelled 8 (sum_of r (word old 0))) ∷ change l.at (spelled 8 (word old 0)) ∷ [])
    (add_shows o r (sum_of r (word old 0)) l.kind d.kind)

abbrev pub send_by : Origin → Request → Spot → List ℕ → Landing
send_by o r l sent = done l.at r.length [] (send_shows o r sent l.kind)

-- the landing of a request, by its opcode. WAIT, ENABLE and undefined ones never go into flight
unfoldable pub lands : List Region → Origin → List ℕ → Request → Opcode → Landing
lands regions o memory r Noop = done 0 0 [] shows.Nothing
lands regions o memory r Write =
    two_sides regions o Write r (local_side regions o.chain Write r) (remote_side regions o.chain Write r) (λ l d. write_by o r l d (bytes_at memory l.at r.length))
lands regions o memory r Read =
    two_sides regions o Read r (local_side regions o.chain Read r) (remote_side regions o.chain Read r) (λ l d. read_by o r l d (bytes_at memory d.at r.length))
lands regions o memory r Cas =
    two_sides regions o Cas r (local_side regions o.chain Cas r) (remote_side regions o.chain Cas r) (λ l d. cas_by o r l d (bytes_at memory d.at 8))
lands regions o memory r Add =
    two_sides regions o Add r (local_side regions o.chain Add r) (remote_side regions o.chain Add r) (λ l d. add_by o r l d (bytes_at memory d.at 8))
lands regions o memory r Send = one_side o (local_side regions o.chain Send r) (λ l. send_by o r l (bytes_at memory l.at r.length))
lands regions o memory r Wait = refused (shows.Refused o.queue o.index)
lands regions o memory r Enable = refused (shows.Refused o.queue o.index)
lands regions o memory r (Undefined n) = refused (shows.Refused o.queue o.index)

abbrev pub landing : List Region → Origin → List ℕ → Request → Landing
landing regions o memory r = lands regions o memory r (opcode_of r)
