-- A memory in which a chain's graph begins.
use Rattle.std.specs.Prelude.{◌≡◌, ℕ, ◌<◌, Bool, true, false, if◌then◌else◌, List, [], length, replicate}
use Rattle.redn_words.specs.Words.{spelled}
use Rattle.redn_kernel.specs.declared.types.Cell.{Cell}
use Rattle.redn_kernel.specs.declared.types.Cell.TheVariants as cell
use Rattle.redn_kernel.specs.CoreRun.{held}
use Rattle.redn_graph.specs.Fits.{IsCell}
use Rattle.redn_graph.specs.Run.{GraphState, in_hand}
use Rattle.redn_segment.specs.declared.types.Space.TheVariants as space
use Rattle.redn_segment.specs.declared.types.Draft.{Draft}
use Rattle.redn_segment.specs.Plain.{Bytes}
use Rattle.redn_segment.specs.Primed.{IsBytes}
use Rattle.redn_segment.specs.Effects.{word_of}
use Rattle.redn_proof_landing.specs.Homes.{seen_in}
use Rattle.redn_proof_landing.specs.Requested.{IsReady}
use Rattle.redn_proof_landing.specs.Segments.{slot_space}
use Rattle.redn_proof_ring.specs.Plans.{is_ring, IsBody, body_slot, body_request}
use Rattle.redn_block.specs.Matches.{IsAt}
use Rattle.redn_proof_block.specs.Laying.{Laying, plan, number_at}

-- spaces that the chain doesn't name, as they might be
abbrev pub blank_cell : Cell → List ℕ
blank_cell (cell.Num n) = spelled 8 n
blank_cell _ = spelled 8 0

abbrev pub blank : Bytes
blank (space.Cell c) = blank_cell c
blank space.Reply = replicate 64 0
blank (space.Descriptor ring) = replicate 16 0
blank (space.Slot q) = replicate 64 0
blank (space.Table t) = []
blank _ = spelled 8 0

abbrev pub is_number : Cell → Bool
is_number (cell.Num n) = true
is_number _ = false

module _ (l : Laying) where
  -- memory, where the chain names it
  abbrev pub named_in : List ℕ → Bytes
  named_in m p = if l.layout.mine p then seen_in l.layout.home m p else blank p

  -- in ring v the graph begins its block, and memory holds its cells; all slots have their requests, but for what drafts write
  pub record Begins (v : ℕ) (y : GraphState) (m : List ℕ) : Type 0 where
    pub size : length m ≡ l.layout.size
    pub sound : IsBytes m
    pub drafts : (r j k : ℕ) (d : Draft) → is_ring (plan l) r ≡ true → j < ((plan l).ring r).segments → IsBody (plan l) r j k d →
        IsReady ((plan l).written r (body_slot (plan l) r j k)) (body_request (plan l) r j k d)
        (seen_in l.layout.home m (slot_space r (body_slot (plan l) r j k)))
    pub is_at : IsAt (number_at l v) 0 y
    pub many : length y.cells.vars ≡ l.things.vars
    pub cells : (a : Cell) → IsCell l.things a → is_number a ≡ false
        → (l.layout.mine (space.Cell a) ≡ true) × (word_of (seen_in l.layout.home m) a ≡ held (in_hand l.course.mail y) y.cells a)
    pub numbers : (n : ℕ) → l.layout.mine (space.Cell (cell.Num n)) ≡ true → seen_in l.layout.home m (space.Cell (cell.Num n)) ≡ spelled 8 n
