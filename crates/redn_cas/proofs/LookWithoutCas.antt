-- With a NOOP in place of each CAS, a probe chooses the ring for no match, and leaves its target.
use Rattle.std.proofs.Common.{ℕ, List, [], ◌∷◌, refl, map}
use Rattle.redn_words.specs.declared.types.Obs.{Obs}
use Rattle.redn_words.specs.declared.types.Obs.TheVariants as shows
use Rattle.redn_words.specs.Words.{bytes_at, word}
use Rattle.redn_kernel.specs.declared.types.Cell.{Cell}
use Rattle.redn_segment.specs.declared.types.SlotRef.{SlotRef}
use Rattle.redn_segment.specs.Building.{drafts_of}
use Rattle.redn_segment.specs.Drafts.{slot_from}
use Rattle.redn_segment.specs.Plain.{Bytes, View}
use Rattle.redn_segment.specs.Effects.{Does, word_of, lies_in, Leaves, Stops, chosen}
use Rattle.redn_segment.proofs.Moving.{own, slot_ref, does_moved}
use Rattle.redn_segment.proofs.SameEffects.{same_chosen, same_either, same_stops}
use Rattle.redn_segment.specs.Renaming.{pulled_view, pulled, moved, IsSame}
use Rattle.redn_cas.specs.WithoutCas.{without_cas, looks}
use Rattle.redn_cas.specs.Tests.{probe}
use Rattle.redn_cas.proofs.Probe.{meets_plainly}

probe_own : (to : Cell) (t : ℕ) (offset key : Cell) (hit miss : ℕ) → Does (own 0) (map without_cas (drafts_of (probe own to t offset key hit miss))) (looks t offset miss (own 6) (own 15))
probe_own to t offset key hit miss chain bytes s whole room primed = meets_plainly chain s to t offset key hit miss bytes whole room primed

module _ (t : ℕ) (offset : Cell) (miss ring first : ℕ) (chain : View) (s : Bytes) where
  abbrev at : SlotRef → SlotRef
  at = moved ring first

  abbrev seen_events : List Obs
  seen_events = shows.Look chain.number t (word_of s offset) (word (bytes_at (chain.tables (at (own 6)) t) (word_of s offset) 8) 0) ∷ []

  same_looks : IsSame at s (looks t offset miss (own 6) (own 15) (pulled_view at chain) (pulled at s)) (looks t offset miss (at (own 6)) (at (own 15)) chain s)
  same_looks =
      same_either ring first s (lies_in (chain.tables (at (own 6)) t) (word_of s offset)) (Leaves (chosen (own 15) miss (pulled at s)) seen_events) (Stops (pulled at s) (shows.Fault chain.number t (word_of s offset) ∷ [])) (Leaves (chosen (at (own 15)) miss s) seen_events) (Stops s (shows.Fault chain.number t (word_of s offset) ∷ [])) (same_chosen ring first s (own 15) miss seen_events) (same_stops ring first s (shows.Fault chain.number t (word_of s offset) ∷ []))

pub probe_without_cas : (ring first : ℕ) (to : Cell) (t : ℕ) (offset key : Cell) (hit miss : ℕ) → Does (slot_ref ring first) (map without_cas (drafts_of (probe (slot_from ring first) to t offset key hit miss))) (looks t offset miss (slot_from ring first 6) (slot_from ring first 15))
probe_without_cas ring first to t offset key hit miss =
    does_moved ring first (λ (slot : ℕ → SlotRef). map without_cas (drafts_of (probe slot to t offset key hit miss))) (λ (slot : ℕ → SlotRef). looks t offset miss (slot 6) (slot 15)) refl (λ chain s. same_looks t offset miss ring first chain s) (probe_own to t offset key hit miss)
