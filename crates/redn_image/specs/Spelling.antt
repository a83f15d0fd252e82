-- The bytes of an image.
use Rattle.std.specs.Prelude.{◌≡◌, ℕ, zero, suc, ◌+◌, ◌-◌, ◌*◌, not, ◌==◌, nat_lt, nat_eq, if◌then◌else◌, List, [], ◌∷◌, ◌++◌, length, Option, Some, None}
use Rattle.std.specs.List.{flat_map}
use Rattle.std.specs.Cmp.Lexicographic.{pointwise}
use Rattle.redn_words.specs.declared.types.Receive.{Receive}
use Rattle.redn_words.specs.Words.{bytes_at, number, spelled}
use Rattle.redn_image.specs.Rules.{Image, RegionNumbers, QueueNumbers, Numbers, Fault, region_numbers, queue_numbers, header_faults, row_faults, Obeys}

-- "REDN"
abbrev pub magic : List ℕ
magic = 82 ∷ 69 ∷ 68 ∷ 78 ∷ []

abbrev pub spelled_header : ℕ → ℕ → ℕ → ℕ → List ℕ
spelled_header regions queues receives size =
    magic ++ spelled 4 1 ++ spelled 4 regions ++ spelled 4 queues ++ spelled 4 receives ++ spelled 4 0 ++ spelled 8 size

-- the bytes of each row
unfoldable pub spelled_region : RegionNumbers → List ℕ
spelled_region r =
    spelled 4 r.key ++ spelled 2 r.domain ++ spelled 2 r.kind ++ spelled 4 r.table ++ spelled 4 r.rights ++ spelled 8 r.base ++ spelled 8 r.len

unfoldable pub spelled_queue : QueueNumbers → List ℕ
spelled_queue q = spelled 4 q.domain ++ spelled 4 q.managed ++ spelled 8 q.base ++ spelled 8 q.slots ++ spelled 8 q.limit

unfoldable pub spelled_receive : Receive → List ℕ
spelled_receive r = spelled 8 r.base ++ spelled 8 r.len

-- the header, the rows in order and the memory
unfoldable pub spelling : Image → List ℕ
spelling i =
    spelled_header (length i.regions) (length i.queues) (length i.receives) (length i.memory)
    ++ flat_map (λ r. spelled_region (region_numbers r)) i.regions
    ++ flat_map (λ q. spelled_queue (queue_numbers q)) i.queues
    ++ flat_map spelled_receive i.receives
    ++ i.memory

-- these bytes are the spelling of an image that keeps the rules
pub record Spells (bytes : List ℕ) (i : Image) : Type 0 where
  pub bytes_are : bytes ≡ spelling i
  pub obeys : Obeys i

-- why bytes spell no image
pub data Refused : Type 0 where
  NotMagic : Refused
  OtherVersion : (version : ℕ) → Refused
  TooShort : (need : ℕ) → Refused
  TooLong : (over : ℕ) → Refused
  Broken : (fault : Fault) → Refused

-- the numbers of n rows of so many bytes from a place on
abbrev pub rows_from : {X : Type 0} → (List ℕ → ℕ → X) → ℕ → List ℕ → ℕ → ℕ → List X
rows_from read len b at zero = []
rows_from read len b at (suc n) = read b at ∷ rows_from read len b (at + len) n

abbrev pub region_at : List ℕ → ℕ → RegionNumbers
region_at b o =
    record { key = number 4 b o; domain = number 2 b (o + 4); kind = number 2 b (o + 6); table = number 4 b (o + 8); rights = number 4 b (o + 12); base = number 8 b (o + 16); len = number 8 b (o + 24) }

abbrev pub queue_at : List ℕ → ℕ → QueueNumbers
queue_at b o =
    record { domain = number 4 b o; managed = number 4 b (o + 4); base = number 8 b (o + 8); slots = number 8 b (o + 16); limit = number 8 b (o + 24) }

abbrev pub receive_at : List ℕ → ℕ → Receive
receive_at b o = record { base = number 8 b o; len = number 8 b (o + 8) }

-- the numbers of the rows that a header announces
abbrev pub numbers_at : List ℕ → ℕ → ℕ → ℕ → ℕ → Numbers
numbers_at b regions queues receives size =
    record {
      regions = rows_from region_at 32 b 32 regions;
      queues = rows_from queue_at 32 b (32 + 32 * regions) queues;
      receives = rows_from receive_at 16 b (32 + 32 * regions + 32 * queues) receives;
      size = size;
    }

abbrev pub first_fault : List Fault → Option Refused → Option Refused
first_fault [] otherwise = otherwise
first_fault (f ∷ rest) otherwise = Some (Broken f)

-- where there are fewer or more bytes than are needed, and otherwise another reason
abbrev pub wrong_length : ℕ → ℕ → Option Refused → Option Refused
wrong_length len need otherwise = if nat_lt len need then Some (TooShort need) else (if nat_lt need len then Some (TooLong (len - need)) else otherwise)

abbrev pub refused_rows : List ℕ → ℕ → ℕ → ℕ → ℕ → Option Refused
refused_rows b regions queues receives size =
    wrong_length (length b) (32 + 32 * regions + 32 * queues + 16 * receives + size) (first_fault (row_faults (numbers_at b regions queues receives size)) None)

-- the first reason, in this order, why bytes spell no image: too few for a header, another first word, another version, the rules of
-- the header, too few or too many bytes for what it announces, and the rules of the rows
unfoldable pub refused : List ℕ → Option Refused
refused b =
    if nat_lt (length b) 32 then Some (TooShort 32) else (
    if not (pointwise nat_eq (bytes_at b 0 4) magic) then Some NotMagic else (
    if not (number 4 b 4 == 1) then Some (OtherVersion (number 4 b 4)) else
    first_fault (header_faults (number 4 b 8) (number 4 b 12) (number 4 b 16) (number 4 b 20) (number 8 b 24)) (refused_rows b (number 4 b 8) (number 4 b 12) (number 4 b 16) (number 8 b 24))))
