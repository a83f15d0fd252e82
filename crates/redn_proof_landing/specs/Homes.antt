-- What memory holds at the homes of spaces, and how placed drafts land there.
use Rattle.std.specs.Prelude.{◌≡◌, ℕ, ◌+◌, ◌≤◌, Bool, true, false, List, [], ◌∷◌, ◌++◌, length, map, zero, suc}
use Rattle.redn_words.specs.declared.types.Request.{Request}
use Rattle.redn_words.specs.declared.types.Opcode.{Opcode}
use Rattle.redn_words.specs.declared.types.Opcode.TheVariants.{Write, Read, Cas, Add, Send}
use Rattle.redn_words.specs.declared.types.Obs.{Obs}
use Rattle.redn_words.specs.declared.types.Obs.TheVariants as shows
use Rattle.redn_words.specs.Words.{bytes_at}
use Rattle.redn_words.specs.Access.{grants}
use Rattle.redn_words.specs.Landings.{Place, Change, change, Landing, local_need, remote_need}
use Rattle.redn_segment.specs.declared.types.Space.{Space}
use Rattle.redn_segment.specs.declared.types.Draft.{Draft}
use Rattle.redn_segment.specs.Plain.{Bytes, Put, Outcome, Went, Faults, Bad, local_space, remote_space, local_at, remote_at, first_in, second_in}
use Rattle.redn_segment.specs.Rights.{has_remote}
use Rattle.redn_segment.specs.Homes.{Home, base_of, room_of}

module _ (home : Space → Home) where
  -- the bytes of each space in memory
  abbrev pub seen_in : List ℕ → Bytes
  seen_in memory p = bytes_at memory (base_of home p) (room_of home p)

  abbrev pub change_of : Put → Change
  change_of u = change (base_of home u.space + u.at) u.bytes

  abbrev pub range_of : Space → ℕ → ℕ → Place
  range_of p at len = record { at = base_of home p + at; len = len }

  -- a request has the remote side of a draft, and the operands, as its slot says them now
  pub record HasTarget (r : Request) (d : Draft) (slot : List ℕ) : Type 0 where
    pub key : r.rkey ≡ (home (remote_space d)).region.key
    pub offset : r.remote ≡ (home (remote_space d)).offset + remote_at slot d
    pub first : r.first ≡ first_in slot
    pub second : r.second ≡ second_in slot

  -- the regions of its sides grant what an opcode needs
  pub record Granted (op : Opcode) (d : Draft) : Type 0 where
    pub local : grants (home (local_space d)).region.rights (local_need op) ≡ true
    pub remote : has_remote op ≡ true → grants (home (remote_space d)).region.rights (remote_need op) ≡ true

  -- where a draft reads, by its opcode
  abbrev pub reads_by : Draft → List ℕ → Opcode → Place
  reads_by d slot Write = range_of (local_space d) (local_at d) d.length
  reads_by d slot Read = range_of (remote_space d) (remote_at slot d) d.length
  reads_by d slot Cas = range_of (remote_space d) (remote_at slot d) 8
  reads_by d slot Add = range_of (remote_space d) (remote_at slot d) 8
  reads_by d slot Send = range_of (local_space d) (local_at d) d.length
  reads_by d slot _ = record { at = 0; len = 0 }

  -- an observation as a list of events
  abbrev pub told_by : Obs → List Obs
  told_by shows.Nothing = []
  told_by o = o ∷ []

  pub record LandsWell (reads : Place) (us : List Put) (events : List Obs) (l : Landing) : Type 0 where
    pub allowed : l.allowed ≡ true
    pub reads_are : l.reads ≡ reads
    pub writes_are : l.writes ≡ map change_of us
    pub shown_is : told_by l.shown ≡ events

  pub record IsRefused (us : List Put) (events : List Obs) (l : Landing) : Type 0 where
    pub allowed : l.allowed ≡ false
    pub none : us ≡ []
    pub shown_is : told_by l.shown ≡ events

  -- a landing does what a plain step says
  abbrev pub LandsAs : Place → Outcome → Landing → Type 0
  LandsAs reads (Went us events) l = LandsWell reads us events l
  LandsAs reads (Faults us events) l = IsRefused us events l
  LandsAs reads Bad l = Unit {0}

  -- puts go to spaces of a chain, and lie in them
  abbrev pub Inside : (Space → Bool) → List Put → Type 0
  Inside mine [] = Unit {0}
  Inside mine (u ∷ us) = ((mine u.space ≡ true) × (u.at + length u.bytes ≤ room_of home u.space)) × Inside mine us

-- the puts of the first n
abbrev pub puts_of_first : (ℕ → List Put) → ℕ → List Put
puts_of_first each zero = []
puts_of_first each (suc n) = puts_of_first each n ++ each n
