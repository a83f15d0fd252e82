-- Runs of what is left of a ring's block, lap requests included, one segment after the other.
use Rattle.std.specs.Prelude.{◌≡◌, ◌≢◌, ℕ, zero, suc, ◌+◌, ◌<◌, true, false, List, [], ◌++◌, length}
use Rattle.redn_words.specs.declared.types.Opcode.{Opcode}
use Rattle.redn_words.specs.declared.types.Obs.{Obs}
use Rattle.redn_words.specs.Words.{bytes_at}
use Rattle.redn_segment.specs.declared.types.Space.{Space}
use Rattle.redn_segment.specs.declared.types.Space.TheVariants as space
use Rattle.redn_segment.specs.declared.types.Draft.{Draft}
use Rattle.redn_segment.specs.Plain.{Bytes, View, Outcome, Went, Faults, Bad, placed, runs, opcode_in, local_space}
use Rattle.redn_segment.specs.Homes.{room_of}
use Rattle.redn_segment.specs.Orders.{Follows}
use Rattle.redn_segment.specs.Templates.{may_show_by}
use Rattle.redn_proof_landing.specs.Homes.{Granted, puts_of_first}
use Rattle.redn_proof_landing.specs.Segments.{slot_space, acts_locally}
use Rattle.redn_recycle.specs.Laps.{bodies_of, gates_of, slot_of, enable_of}
use Rattle.redn_proof_ring.specs.Plans.{Plan, is_ring, IsOwn, IsBody, IsPrivate}
use Rattle.redn_proof_ring.specs.Turns.{HasBytes, Leaves, Meaning, tabled, slot_in}

-- a chain that sees the tables of a state, in every slot
abbrev pub own_view : ℕ → Bytes → View
own_view number u = record { number = number; tables = λ q t. u (space.Table t) }

-- an outcome that isn't bad: where all went through it leaves and shows something like this, and where one faults it shows something like that
abbrev pub Comes : (List Obs → Bytes → Type 0) → (List Obs → Type 0) → Bytes → Outcome → Type 0
Comes Next End s (Went us events) = Next events (placed s us)
Comes Next End s (Faults us events) = End events
Comes Next End s Bad = ⊥

-- the plain run of a segment, with the tables of a state
abbrev pub run_of : Plan → ℕ → ℕ → Bytes → Bytes → Outcome
run_of c r j s u = runs (own_view c.domain u) (slot_of r ((c.ring r).first j)) (bodies_of r (c.ring r) j) (tabled s u)

-- what the first n show, one after the other
abbrev pub shown_from : (ℕ → List Obs) → ℕ → List Obs
shown_from shown zero = []
shown_from shown (suc n) = shown 0 ++ shown_from (λ k. shown (suc k)) n

-- by which opcodes a slot can have; what the run of a segment tells of a ghost, over the tables that it sees: that it shows these events and leads to
-- another ghost, or that it ends by a fault and shows these; and what holds where a ring is entered
module _ (c : Plan) (Takes : ℕ → ℕ → ℕ → Opcode → Type 0) (Y : Type 0) (Tells : (r j : ℕ) → (u : Bytes) → Y → List Obs → Y
    → Type 0) (Fails : (r j : ℕ) → (u : Bytes) → Y → List Obs → Type 0) (Entry : ℕ → Y → Bytes → Type 0) where
  -- a state at the opening of a segment
  pub record Opened (r j : ℕ) (y : Y) (s : Bytes) : Type 0 where
    pub takes : (k : ℕ) (d : Draft) → IsBody c r j k d → Takes r j k (opcode_in (slot_in c s r j k))
    pub sized : (p : Space) → IsPrivate c p → length (s p) ≡ room_of c.home p
    pub closes : suc j ≡ (c.ring r).segments → gates_of r (c.ring r) j ≡ 2
        → (v : ℕ) × (is_ring c v ≡ true) × (bytes_at (s (slot_space r (enable_of r (c.ring r) j))) 40 16 ≡ s (space.Descriptor v)) × ((u : Bytes)
        → HasBytes u → Comes (λ events t. (z : Y) × Tells r j u y events z × Entry v z t) (Fails r j u y) (tabled s u) (run_of c r j s u))

  -- so many segments are left, and whatever the tables are at each, none goes badly
  abbrev pub Sound : ℕ → ℕ → ℕ → Y → Bytes → Type 0
  Sound r zero j y s = Unit {0}
  Sound r (suc n) j y s =
      Opened r j y s × ((u : Bytes) → HasBytes u
      → Comes (λ events t. (z : Y) × Tells r j u y events z × Sound r n (suc j) z t) (Fails r j u y) (tabled s u) (run_of c r j s u))

  -- memory agrees with such a state where the chain is alone
  pub record Fine (r j : ℕ) (y : Y) (s : Bytes) : Type 0 where
    pub bytes : HasBytes s
    pub left : ℕ
    pub left_is : left + j ≡ (c.ring r).segments
    pub plain : Bytes
    pub agrees : (p : Space) → IsPrivate c p → s p ≡ plain p
    pub sound : Sound r left j y plain

  -- the ghost behind a segment is the one that its plain run tells of, over the tables that its event found
  pub record Then (r j : ℕ) (y : Y) (s t : Bytes) (l : Leaves c r j s t) (z : Y) : Type 0 where
    pub plain : Bytes
    pub agrees : (p : Space) → IsPrivate c p → s p ≡ plain p
    pub runs_are : run_of c r j plain l.tables ≡ Went (puts_of_first l.each (length (bodies_of r (c.ring r) j))) l.events
    pub tells : Tells r j l.tables y l.events z

  abbrev pub meaning : Meaning c
  meaning = record { Ghost = Y; Fine = Fine; Then = Then }

  -- what is asked of drafts by the opcodes that their slots can have, and of a state at a ring's entry
  pub record Allows : Type 0 where
    pub follows : (r j k : ℕ) (d : Draft) (op : Opcode) → is_ring c r ≡ true → j < (c.ring r).segments → IsBody c r j k d → Takes r j k op → Follows d op
    pub granted : (r j k : ℕ) (d : Draft) (op : Opcode) → is_ring c r ≡ true → j < (c.ring r).segments → IsOwn c r j k d → Takes r j k op → Granted c.home op d
    pub keeps : (r j k : ℕ) (d : Draft) (op : Opcode) (v : ℕ) → is_ring c r ≡ true → j < (c.ring r).segments → IsOwn c r j k d → Takes r j k op
        → local_space d ≡ space.Descriptor v → acts_locally op ≡ false
    pub unseen : (r j k : ℕ) (d : Draft) (op : Opcode) → is_ring c r ≡ true → j < (c.ring r).segments → IsOwn c r j k d → Takes r j k op
        → k ≢ (c.ring r).event j → may_show_by d op ≡ false
    pub enters : (v : ℕ) (y : Y) (s : Bytes) → is_ring c v ≡ true → Entry v y s → Sound v (c.ring v).segments 0 y s
