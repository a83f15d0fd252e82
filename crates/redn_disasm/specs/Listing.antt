-- The listing of an image: a line for each row, each slot, and each word of memory that isn't 0 and lies in no ring.
use Rattle.std.specs.Prelude.{◌≡◌, ℕ, zero, suc, ◌+◌, ◌*◌, ◌/◌, ◌%◌, ◌<◌, ◌≤◌, Bool, ◌&&◌, ◌||◌, ◌==◌, nat_le, nat_lt, if◌then◌else◌, List, [], ◌∷◌, ◌++◌, length, codes, decimal}
use Rattle.std.specs.List.{All, flat_map, list_any}
use Rattle.hex.specs.Hex.{encode_lower}
use Rattle.redn_words.specs.declared.types.QueueRow.{QueueRow}
use Rattle.redn_words.specs.declared.types.Receive.{Receive}
use Rattle.redn_words.specs.declared.types.Request.{Request}
use Rattle.redn_words.specs.Requests.{decoded}
use Rattle.redn_words.specs.Words.{bytes_at, spelled, word}
use Rattle.redn_image.specs.declared.numbers.RegionNumbers.{RegionNumbers}
use Rattle.redn_image.specs.declared.numbers.QueueNumbers.{QueueNumbers}
use Rattle.redn_image.specs.Rules.{Image, Obeys, queue_numbers, region_numbers}
use Rattle.redn_disasm.specs.Fields.{kind_word, order_word, op_word}

-- a number behind a space
abbrev pub field : ℕ → List ℕ
field n = codes " " ++ decimal n

abbrev pub memory_line : ℕ → List ℕ
memory_line size = codes "memory" ++ field size ++ codes "\n"

unfoldable pub region_line : RegionNumbers → List ℕ
region_line r =
    codes "region" ++ field r.key ++ field r.domain ++ codes " " ++ kind_word r.kind ++ field r.table ++ field r.rights ++ field r.base ++ field r.len ++ codes "\n"

unfoldable pub queue_line : ℕ → QueueNumbers → List ℕ
queue_line k q =
    codes "queue" ++ field k ++ field q.domain ++ codes " " ++ order_word q.managed ++ field q.base ++ field q.slots ++ field q.limit ++ codes "\n"

unfoldable pub receive_line : ℕ → Receive → List ℕ
receive_line k r = codes "receive" ++ field k ++ field r.base ++ field r.len ++ codes "\n"

unfoldable pub slot_line : ℕ → ℕ → Request → List ℕ
slot_line q i r =
    codes "slot" ++ field q ++ field i ++ codes " " ++ op_word r.op ++ field r.id ++ field r.lkey ++ field r.rkey ++ field r.local ++ field r.remote ++ field r.length ++ field r.first ++ field r.second ++ field r.flags ++ codes "\n"

unfoldable pub data_line : ℕ → ℕ → List ℕ
data_line offset w = codes "data" ++ field offset ++ codes " " ++ encode_lower (spelled 8 w) ++ codes "\n"

-- what a row gives together with its number, for all rows from number n on
abbrev pub flat_from : {X : Type 0} → (ℕ → X → List ℕ) → ℕ → List X → List ℕ
flat_from f n [] = []
flat_from f n (x ∷ rows) = f n x ++ flat_from f (n + 1) rows

-- what each number below n gives
abbrev pub flat_below : (ℕ → List ℕ) → ℕ → List ℕ
flat_below f zero = []
flat_below f (suc n) = flat_below f n ++ f n

-- the request in a slot
abbrev pub slot_of : List ℕ → QueueRow → ℕ → Request
slot_of memory q i = decoded (bytes_at memory (q.base + 64 * i) 64)

-- a line for each slot of a queue
abbrev pub slots_text : List ℕ → ℕ → QueueRow → List ℕ
slots_text memory k q = flat_below (λ i. slot_line k i (slot_of memory q i)) q.slots

-- a ring begins at a multiple of its slots' size and ends in memory
pub record IsRing (size : ℕ) (q : QueueRow) : Type 0 where
  pub even : q.base % 64 ≡ 0
  pub some : 0 < q.slots
  pub few : q.slots ≤ 65536
  pub inside : q.base + 64 * q.slots ≤ size

abbrev pub lies_in : ℕ → QueueRow → Bool
lies_in offset q = nat_le q.base offset && nat_lt offset (q.base + 64 * q.slots)

-- the line of a word of memory, unless it is 0 or lies in a ring
abbrev pub data_of : List ℕ → ℕ → Bool → List ℕ
data_of memory offset in_ring = if in_ring || (word memory offset == 0) then [] else data_line offset (word memory offset)

abbrev pub data_text : List QueueRow → List ℕ → ℕ → List ℕ
data_text queues memory offset = data_of memory offset (list_any (lies_in offset) queues)

unfoldable pub listing_text : Image → List ℕ
listing_text i =
    codes "redn 1\n"
    ++ memory_line (length i.memory)
    ++ flat_map (λ r. region_line (region_numbers r)) i.regions
    ++ flat_from (λ k q. queue_line k (queue_numbers q)) 0 i.queues
    ++ flat_from receive_line 0 i.receives
    ++ flat_from (slots_text i.memory) 0 i.queues
    ++ flat_below (λ k. data_text i.queues i.memory (8 * k)) (length i.memory / 8)
    ++ codes "end\n"

-- a text is the listing of an image
pub record IsListing (text : List ℕ) (i : Image) : Type 0 where
  pub is : text ≡ listing_text i
  pub obeys : Obeys i
  pub bytes : All (λ b. b < 256) i.memory
