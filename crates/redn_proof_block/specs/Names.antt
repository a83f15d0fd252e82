-- The slots of all rings, by their numbers with laps.
use Rattle.std.specs.Prelude.{◌≡◌, ℕ, zero, suc, Bool, true, not, ◌&&◌, ◌||◌, if◌then◌else◌, List}
use Rattle.redn_segment.specs.declared.types.SlotRef.{SlotRef}
use Rattle.redn_segment.specs.declared.types.Space.{Space}
use Rattle.redn_segment.specs.declared.types.Space.TheVariants as space
use Rattle.redn_segment.specs.declared.types.Draft.{Draft}
use Rattle.redn_segment.specs.Plain.{local_space, remote_space}
use Rattle.redn_segment.specs.Sites.{same_space}
use Rattle.redn_recycle.specs.Lapped.{MayGoRound, slot_in_laps}

-- rings are named by numbers, and each has the segments that it got its laps for
pub record Rings : Type 0 where
  pub is_ring : ℕ → Bool
  pub segments : ℕ → List (List Draft)

module _ (g : Rings) where
  abbrev pub new_slot : ℕ → ℕ → ℕ
  new_slot ring i = if g.is_ring ring then slot_in_laps (g.segments ring) i else i

  abbrev pub in_laps : SlotRef → SlotRef
  in_laps q = record q { slot = new_slot q.ring q.slot }

  abbrev pub AreRings : Type 0
  AreRings = (ring : ℕ) → g.is_ring ring ≡ true → MayGoRound (g.segments ring) ring

-- the scratch words of lap requests
abbrev pub is_lapping : Space → Bool
is_lapping p = same_space p (space.Scratch 2) || same_space p (space.Scratch 3)

-- where a ring's drafts see what lap requests have not done yet, or never: these words, and before the first segment the own descriptor
abbrev pub set_aside : ℕ → ℕ → Space → Bool
set_aside ring zero p = is_lapping p || same_space p (space.Descriptor ring)
set_aside ring (suc j) p = is_lapping p

-- drafts that name none of some spaces
abbrev pub spares_all : (Space → Bool) → Draft → Bool
spares_all aside d = not (aside (local_space d)) && not (aside (remote_space d))
