-- An image, and the rules that it keeps.
use Rattle.std.specs.Prelude.{◌≡◌, ℕ, ◌+◌, ◌*◌, ◌%◌, ◌^◌, Bool, true, not, ◌&&◌, ◌==◌, nat_lt, nat_le, if◌then◌else◌, List, [], ◌∷◌, ◌++◌, length, map, Option, Some, None, sum_by}
use Rattle.std.specs.List.{find, list_any}
use Rattle.redn_words.specs.declared.limits.TheConstants.{MAX_MEMORY, MAX_RING}
use Rattle.redn_words.specs.declared.types.Region.{Region}
use Rattle.redn_words.specs.declared.types.Kind.{Kind}
use Rattle.redn_words.specs.declared.types.Kind.TheVariants.{Vars, Table, Code, Control, Message}
use Rattle.redn_words.specs.declared.types.QueueRow.{QueueRow}
use Rattle.redn_words.specs.declared.types.Receive.{Receive}
pub use Rattle.redn_image.specs.declared.numbers.RegionNumbers.{RegionNumbers}
pub use Rattle.redn_image.specs.declared.numbers.QueueNumbers.{QueueNumbers}
pub use Rattle.redn_image.specs.declared.numbers.Fault.{Fault}

pub record Image : Type 0 where
  pub regions : List Region
  pub queues : List QueueRow
  pub receives : List Receive
  pub memory : List ℕ

-- the rows as their numbers stand in the bytes of an image
pub record Numbers : Type 0 where
  pub regions : List RegionNumbers
  pub queues : List QueueNumbers
  pub receives : List Receive
  pub size : ℕ  -- of memory

abbrev pub parts_of : List Region → List QueueRow → List Receive → List ℕ → Image
parts_of regions queues receives memory = record { regions = regions; queues = queues; receives = receives; memory = memory }

abbrev pub kind_number : Kind → ℕ
kind_number Vars = 0
kind_number (Table t) = 1
kind_number Code = 2
kind_number Control = 3
kind_number Message = 4

abbrev pub table_number : Kind → ℕ
table_number (Table t) = t
table_number _ = 0

abbrev pub region_numbers : Region → RegionNumbers
region_numbers r =
    record { key = r.key; domain = r.domain; kind = kind_number r.kind; table = table_number r.kind; rights = r.rights; base = r.base; len = r.len }

abbrev pub queue_numbers : QueueRow → QueueNumbers
queue_numbers q = record { domain = q.domain; managed = if q.managed then 1 else 0; base = q.base; slots = q.slots; limit = q.limit }

abbrev pub numbers_of : Image → Numbers
numbers_of i =
    record { regions = map region_numbers i.regions; queues = map queue_numbers i.queues; receives = i.receives; size = length i.memory }

-- Each rule is a test of a row, which may look at the rows before it.

-- a key isn't 0, fits its four bytes, and stands in no earlier row
abbrev pub key_is_new : List RegionNumbers → RegionNumbers → Bool
key_is_new earlier r = not (r.key == 0) && nat_lt r.key (2 ^ 32) && not (list_any (λ (e : RegionNumbers). e.key == r.key) earlier)

-- the table's number stands where the kind is Table, and 0 elsewhere
abbrev pub kind_is_known : List RegionNumbers → RegionNumbers → Bool
kind_is_known earlier r = nat_lt r.kind 5 && (if r.kind == 1 then nat_lt r.table 64 else r.table == 0)

abbrev pub region_is_inside : ℕ → List RegionNumbers → RegionNumbers → Bool
region_is_inside size earlier r = r.base % 8 == 0 && nat_le (r.base + r.len) size

abbrev pub is_same_table : RegionNumbers → RegionNumbers → Bool
is_same_table r e = e.kind == 1 && e.table == r.table

abbrev pub has_place_of : RegionNumbers → Option RegionNumbers → Bool
has_place_of r None = true
has_place_of r (Some e) = r.base == e.base && r.len == e.len

-- a table has one place, that of its first region
abbrev pub table_is_one : List RegionNumbers → RegionNumbers → Bool
table_is_one earlier r = if r.kind == 1 then has_place_of r (find (is_same_table r) earlier) else true

abbrev pub ring_is_inside : ℕ → List QueueNumbers → QueueNumbers → Bool
ring_is_inside size earlier q = q.base % 64 == 0 && nat_lt 0 q.slots && nat_le q.slots MAX_RING && nat_le (q.base + 64 * q.slots) size

-- how many slots all rings have together, at most
abbrev pub most_slots : ℕ
most_slots = 524288

abbrev pub slots_are_few : List QueueNumbers → QueueNumbers → Bool
slots_are_few earlier q = nat_le (sum_by (λ (e : QueueNumbers). e.slots) earlier + q.slots) most_slots

abbrev pub receive_is_inside : ℕ → List Receive → Receive → Bool
receive_is_inside size earlier r = r.base % 8 == 0 && r.len % 8 == 0 && nat_le r.len 64 && nat_le (r.base + r.len) size

abbrev pub fault_at : ℕ → ℕ → Fault
fault_at rule index = record { rule = rule; index = index }

-- the rows that break a rule, in order
abbrev pub breaking : {X : Type 0} → ℕ → (List X → X → Bool) → List X → List X → List Fault
breaking rule keeps earlier [] = []
breaking rule keeps earlier (x ∷ rest) =
    (if keeps earlier x then [] else record { rule = rule; index = length earlier } ∷ []) ++ breaking rule keeps (earlier ++ x ∷ []) rest

-- the same of a rule of the whole image, which has the row 0
abbrev pub unless : Bool → ℕ → List Fault
unless holds rule = if holds then [] else record { rule = rule; index = 0 } ∷ []

-- the rules of the header: so many regions, queues and receives, the zero, and the size of memory
abbrev pub header_faults : ℕ → ℕ → ℕ → ℕ → ℕ → List Fault
header_faults regions queues receives zero_field size =
    unless (nat_le regions 4096) 1 ++ unless (nat_le queues 65535) 2 ++ unless (nat_lt 0 receives && nat_le receives 16) 3 ++ unless (zero_field == 0) 4 ++ unless (size % 8 == 0 && nat_le size MAX_MEMORY) 5

-- the rules of the rows
abbrev pub row_faults : Numbers → List Fault
row_faults n =
    let chains = length n.receives in
    breaking 6 key_is_new [] n.regions
    ++ breaking 7 (λ earlier (r : RegionNumbers). nat_lt r.domain chains) [] n.regions
    ++ breaking 8 kind_is_known [] n.regions
    ++ breaking 9 (λ earlier (r : RegionNumbers). nat_lt r.rights 16) [] n.regions
    ++ breaking 10 (region_is_inside n.size) [] n.regions
    ++ breaking 11 table_is_one [] n.regions
    ++ breaking 12 (λ earlier (q : QueueNumbers). nat_lt q.domain chains) [] n.queues
    ++ breaking 13 (λ earlier (q : QueueNumbers). nat_lt q.managed 2) [] n.queues
    ++ breaking 14 (ring_is_inside n.size) [] n.queues
    ++ breaking 15 (λ earlier (q : QueueNumbers). nat_le q.limit q.slots) [] n.queues
    ++ breaking 16 slots_are_few [] n.queues
    ++ breaking 17 (receive_is_inside n.size) [] n.receives

-- all broken rules of an image, in the order in which they are refused
unfoldable pub faults : Numbers → List Fault
faults n = header_faults (length n.regions) (length n.queues) (length n.receives) 0 n.size ++ row_faults n

-- the first of them, if there is one
abbrev pub first_of : List Fault → Option Fault
first_of [] = None
first_of (f ∷ rest) = Some f

-- an image keeps every rule
abbrev pub Obeys : Image → Type 0
Obeys i = faults (numbers_of i) ≡ []
