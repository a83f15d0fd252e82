-- With a NOOP in place of its CAS, Test48 chooses the other ring: so it is the CAS that chooses.
use Rattle.std.proofs.Common.{ℕ, [], map, refl}
use Rattle.redn_kernel.specs.declared.types.Cell.{Cell}
use Rattle.redn_segment.specs.Building.{drafts_of}
use Rattle.redn_segment.specs.Drafts.{slot_from}
use Rattle.redn_segment.specs.Effects.{Does, jumps}
use Rattle.redn_segment.proofs.Moving.{own, slot_ref, does_moved}
use Rattle.redn_segment.proofs.SameEffects.{same_chosen}
use Rattle.redn_segment.specs.declared.types.SlotRef.{SlotRef}
use Rattle.redn_cas.specs.Tests.{test48}
use Rattle.redn_cas.specs.WithoutCas.{without_cas}
use Rattle.redn_cas.proofs.Test48.{meets_plainly}

test48_own : (left right : Cell) (same other : ℕ) → Does (own 0) (map without_cas (drafts_of (test48 own left right same other))) (jumps other (own 6))
test48_own left right same other chain bytes s whole room primed = meets_plainly chain s left right same other whole room primed

pub test48_without_cas : (ring first : ℕ) (left right : Cell) (same other : ℕ) → Does (slot_ref ring first) (map without_cas (drafts_of (test48 (slot_from ring first) left right same other))) (jumps other (slot_from ring first 6))
test48_without_cas ring first left right same other =
    does_moved ring first (λ (slot : ℕ → SlotRef). map without_cas (drafts_of (test48 slot left right same other))) (λ (slot : ℕ → SlotRef). jumps other (slot 6)) refl (λ chain s. same_chosen ring first s (own 6) other []) (test48_own left right same other)
