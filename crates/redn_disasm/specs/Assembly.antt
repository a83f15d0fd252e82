-- What the lines of a listing mean, one after the other.
use Rattle.std.specs.Prelude.{◌≡◌, ℕ, zero, suc, ◌+◌, ◌-◌, ◌*◌, ◌%◌, ◌^◌, ◌≤◌, Bool, not, ◌==◌, ◌&&◌, ◌||◌, nat_eq, if◌then◌else◌, ◌⊎◌, List, [], ◌∷◌, ◌++◌, length, take, codes, replicate, Option, Some, None, Result, Ok, Err, MatchResult}
use Rattle.std.specs.List.{prefix_len}
use Rattle.std.specs.Cmp.Lexicographic.{pointwise}
use Rattle.redn_words.specs.declared.types.Receive.{Receive}
use Rattle.redn_words.specs.declared.types.Request.{Request}
use Rattle.redn_words.specs.Requests.{encoded}
use Rattle.redn_words.specs.Words.{spelled, with_bytes_at}
use Rattle.redn_image.specs.declared.numbers.Fault.{Fault}
use Rattle.redn_image.specs.declared.numbers.QueueNumbers.{QueueNumbers}
use Rattle.redn_image.specs.declared.numbers.RegionNumbers.{RegionNumbers}
use Rattle.redn_image.specs.Rules.{Numbers, faults, first_of}
use Rattle.redn_disasm.specs.declared.formats.Format.{Format}
use Rattle.redn_disasm.specs.declared.formats.Format.TheVariants.{Number, Kind, Order, Op, Hex}
use Rattle.redn_disasm.specs.Fields.{IsRow}
use Rattle.redn_text.specs.Texts.{lines_of}

-- The fields of each line, behind its first word, and the values of a row in them.
abbrev pub of_bits : ℕ → Format
of_bits n = Number (2 ^ n - 1)

abbrev pub memory_formats : List Format
memory_formats = of_bits 64 ∷ []

abbrev pub region_formats : List Format
region_formats = of_bits 32 ∷ of_bits 16 ∷ Kind ∷ of_bits 32 ∷ of_bits 32 ∷ of_bits 64 ∷ of_bits 64 ∷ []

abbrev pub region_values : RegionNumbers → List ℕ
region_values r = r.key ∷ r.domain ∷ r.kind ∷ r.table ∷ r.rights ∷ r.base ∷ r.len ∷ []

abbrev pub queue_formats : List Format
queue_formats = of_bits 64 ∷ of_bits 32 ∷ Order ∷ of_bits 64 ∷ of_bits 64 ∷ of_bits 64 ∷ []

abbrev pub queue_values : ℕ → QueueNumbers → List ℕ
queue_values k q = k ∷ q.domain ∷ q.managed ∷ q.base ∷ q.slots ∷ q.limit ∷ []

abbrev pub receive_formats : List Format
receive_formats = of_bits 64 ∷ of_bits 64 ∷ of_bits 64 ∷ []

abbrev pub receive_values : ℕ → Receive → List ℕ
receive_values k r = k ∷ r.base ∷ r.len ∷ []

abbrev pub slot_formats : List Format
slot_formats = of_bits 64 ∷ of_bits 64 ∷ Op ∷ of_bits 48 ∷ of_bits 32 ∷ of_bits 32 ∷ of_bits 64 ∷ of_bits 64 ∷ of_bits 64 ∷ of_bits 64 ∷ of_bits 64 ∷ of_bits 64 ∷ []

abbrev pub slot_values : ℕ → ℕ → Request → List ℕ
slot_values k i r =
    k ∷ i ∷ r.op ∷ r.id ∷ r.lkey ∷ r.rkey ∷ r.local ∷ r.remote ∷ r.length ∷ r.first ∷ r.second ∷ r.flags ∷ []

abbrev pub data_formats : List Format
data_formats = of_bits 64 ∷ Hex ∷ []

-- a slot of a queue, and where it stands in memory
pub record Place : Type 0 where
  pub queue : ℕ
  pub index : ℕ
  pub at : ℕ

-- n slots of a queue from index i on
abbrev pub places_from : ℕ → ℕ → ℕ → ℕ → List Place
places_from k base i zero = []
places_from k base i (suc n) = record { queue = k; index = i; at = base + 64 * i } ∷ places_from k base (i + 1) n

-- the slots of all queues from number k on
abbrev pub all_places : ℕ → List QueueNumbers → List Place
all_places k [] = []
all_places k (q ∷ queues) = places_from k q.base 0 q.slots ++ all_places (k + 1) queues

-- what lines have given so far
pub data Progress : Type 0 where
  -- nothing yet
  Begun : Progress
  -- the first line
  Named : Progress
  -- the size of memory, and rows
  GivenRows : (rows : Numbers) → Progress
  -- rows that keep the rules, the slots still to come, and memory
  Filled : (rows : Numbers) → (slots : List Place) → (memory : List ℕ) → Progress
  -- all
  Ended : (rows : Numbers) → (memory : List ℕ) → Progress

abbrev pub no_rows : ℕ → Numbers
no_rows size = record { regions = []; queues = []; receives = []; size = size }

-- Rows with one more, where a line gives it: regions first, then queues, then receives, each by its number.
abbrev pub GivesRegion : Numbers → List ℕ → Progress → Type 0
GivesRegion n line after =
    (r : RegionNumbers) × IsRow (codes "region") region_formats line (region_values r) × (n.queues ≡ []) × (n.receives ≡ []) × (after ≡ GivenRows (record n { regions = n.regions ++ r ∷ [] }))

abbrev pub GivesQueue : Numbers → List ℕ → Progress → Type 0
GivesQueue n line after =
    (q : QueueNumbers) × IsRow (codes "queue") queue_formats line (queue_values (length n.queues) q) × (n.receives ≡ []) × (after ≡ GivenRows (record n { queues = n.queues ++ q ∷ [] }))

abbrev pub GivesReceive : Numbers → List ℕ → Progress → Type 0
GivesReceive n line after =
    (r : Receive) × IsRow (codes "receive") receive_formats line (receive_values (length n.receives) r) × (after ≡ GivenRows (record n { receives = n.receives ++ r ∷ [] }))

-- memory with the request of a slot's line
abbrev pub GivesSlot : Numbers → Place → List Place → List ℕ → List ℕ → Progress → Type 0
GivesSlot n place slots memory line after =
    (r : Request) × IsRow (codes "slot") slot_formats line (slot_values place.queue place.index r) × (after ≡ Filled n slots (with_bytes_at memory place.at (encoded r)))

-- memory with a word at a multiple of 8
abbrev pub GivesWord : Numbers → List ℕ → List ℕ → Progress → Type 0
GivesWord n memory line after =
    (offset w : ℕ) × IsRow (codes "data") data_formats line (offset ∷ w ∷ []) × (offset % 8 ≡ 0) × (offset + 8 ≤ n.size) × (after ≡ Filled n [] (with_bytes_at memory offset (spelled 8 w)))

-- a line is the next one possible, and what it leads to
unfoldable pub Leads : Progress → List ℕ → Progress → Type 0
Leads Begun line after = (line ≡ codes "redn 1\n") × (after ≡ Named)
Leads Named line after = (size : ℕ) × IsRow (codes "memory") memory_formats line (size ∷ []) × (after ≡ GivenRows (no_rows size))
Leads (GivenRows n) line after = GivesRegion n line after ⊎ (GivesQueue n line after ⊎ GivesReceive n line after)
Leads (Filled n (place ∷ slots) memory) line after = GivesSlot n place slots memory line after
Leads (Filled n [] memory) line after = GivesWord n memory line after ⊎ ((line ≡ codes "end\n") × (after ≡ Ended n memory))
Leads (Ended n memory) line after = ⊥

-- what begins a line: its bytes before its first space or newline
abbrev pub is_inside : ℕ → Bool
is_inside b = not (b == 32) && not (b == 10)

abbrev pub begins_with : List ℕ → List ℕ → Bool
begins_with word line = pointwise nat_eq (take (prefix_len is_inside line) line) word

-- a line of those that stand behind all rows
unfoldable pub fills : List ℕ → Bool
fills line = begins_with (codes "slot") line || begins_with (codes "data") line || begins_with (codes "end") line

-- rows are held to the rules before memory is filled, which begins as zeros
abbrev pub held : Numbers → Option Fault → Result Progress Fault
held n None = Ok (Filled n (all_places 0 n.queues) (replicate n.size 0))
held n (Some f) = Err f

-- they are when the first line comes that fills memory, before it is looked at further
abbrev pub settled : Progress → List ℕ → Result Progress Fault
settled (GivenRows n) line = if fills line then held n (first_of (faults n)) else Ok (GivenRows n)
settled p line = Ok p

-- what a text comes to: an image of these rows and this memory, the first line that isn't the next one possible, counted from 1, or
-- the first rule that the rows break
pub data Outcome : Type 0 where
  Made : (rows : Numbers) → (memory : List ℕ) → Outcome
  WrongLine : (line : ℕ) → Outcome
  BreaksRule : (fault : Fault) → Outcome

-- where no line is left
abbrev pub finished : ℕ → Progress → Outcome
finished k (Ended n memory) = Made n memory
finished k p = WrongLine k

-- from the line of number k on, lines come to this
abbrev pub ComesTo : ℕ → Progress → List (List ℕ) → Outcome → Type 0
ComesTo k p [] out = out ≡ finished k p
ComesTo k p (line ∷ lines) out =
    MatchResult (settled p line) (λ (q : Progress). ((after : Progress) × Leads q line after × ComesTo (k + 1) after lines out) ⊎ (((after : Progress) → ¬ Leads q line after) × (out ≡ WrongLine k))) (λ (f : Fault). out ≡ BreaksRule f)

abbrev pub Assembles : List ℕ → Outcome → Type 0
Assembles text out = ComesTo 1 Begun (lines_of text) out
