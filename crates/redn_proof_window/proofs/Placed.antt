-- A window whose private bytes are some ranges is orderly where tests of ranges say so.
use Rattle.std.proofs.Common.{◌≡◌, ◌≢◌, ℕ, ◌+◌, ◌%◌, ◌<◌, ◌≤◌, true, List, [], ◌∷◌, Some, length, ◌∙◌}
use Rattle.redn_words.specs.Steps.{class_of}
use Rattle.redn_words.specs.declared.types.Class.TheVariants as ask
use Rattle.redn_words.specs.declared.types.Obs.TheVariants as shows
use Rattle.redn_words.specs.Words.{bytes_at}
use Rattle.redn_words.specs.Requests.{decoded}
use Rattle.redn_words.specs.Landings.{Place}
use Rattle.redn_words.specs.Access.{EndsBy}
use Rattle.redn_words.specs.Footprints.{footprint}
use Rattle.redn_words.specs.Ranges.{within, all_apart, all_inside}
use Rattle.redn_words.proofs.Ranges.{within_apart, within_inside, bounds_hold, one_within}
use Rattle.redn_proof_window.specs.Windows.{Opening, bodies_of, slots_of, copy_of, body_of, planned, slot_at}
use Rattle.redn_proof_window.specs.Stages.{Plain, IsEnding, Orderly}

module _ (w : Opening) (private : List Place) where
  abbrev pub writes_of : ℕ → List Place
  writes_of k = footprint w.regions w.row.domain (body_of w k)

  abbrev pub reads_of : ℕ → List Place
  reads_of k = (planned w k).reads ∷ []

  abbrev pub slot_of : ℕ → List Place
  slot_of k = record { at = slot_at w k; len = 64 } ∷ []

  pub record PlacedPlain (k : ℕ) : Type 0 where
    pub allowed : (planned w k).allowed ≡ true
    pub silent : (planned w k).shown ≡ shows.Nothing
    pub writes_inside : all_inside (writes_of k) private ≡ true
    pub reads_inside : all_inside (reads_of k) private ≡ true
    pub reads_apart : (j : ℕ) → j < bodies_of w → j ≢ k → all_apart (reads_of k) (writes_of j) ≡ true

  pub record Placed : Type 0 where
    pub private_is : (p : ℕ) → w.ours p ≡ within private p
    pub numbered : w.queue < 65536
    pub room : slots_of w ≤ w.row.slots
    pub first : (copy : List ℕ) → w.first_gate ≡ Some copy → class_of (decoded copy) ≡ ask.Passes
    pub flying : (k : ℕ) → k < bodies_of w → class_of (body_of w k) ≡ ask.Flies
    pub last : (k : ℕ) → k + 1 ≡ bodies_of w → (body_of w k).flags % 2 ≡ 1
    pub gates : IsEnding w w.ending
    pub slots_stand : (k : ℕ) → k < slots_of w → bytes_at w.memory (slot_at w k) 64 ≡ copy_of w k
    pub slots_inside : (k : ℕ) → k < slots_of w → all_inside (slot_of k) private ≡ true
    pub slots_apart : (k j : ℕ) → k < slots_of w → j < bodies_of w → all_apart (slot_of k) (writes_of j) ≡ true
    pub plain : (k : ℕ) → k < bodies_of w → k ≢ w.event → PlacedPlain k
    pub apart : (j k : ℕ) → j < bodies_of w → k < bodies_of w → j ≢ k → all_apart (writes_of j) (writes_of k) ≡ true
    pub ends : EndsBy (length w.memory) w.regions

  in_slot : (k p : ℕ) → slot_at w k ≤ p → p < slot_at w k + 64 → within (slot_of k) p ≡ true
  in_slot k p low high = one_within (record { at = slot_at w k; len = 64 }) p (bounds_hold (record { at = slot_at w k; len = 64 }) p low high)

  pub placed_is_orderly : Placed → Orderly w
  placed_is_orderly h =
      record {
        numbered = h.numbered;
        room = h.room;
        first = h.first;
        flying = h.flying;
        last = h.last;
        gates = h.gates;
        slots_stand = h.slots_stand;
        slots_ours = λ k p l low high. h.private_is p ∙ within_inside (slot_of k) private p (h.slots_inside k l) (in_slot k p low high);
        slots_spared = λ k j p l m low high. within_apart (slot_of k) (writes_of j) p (h.slots_apart k j l m) (in_slot k p low high);
        plain = λ k l ne. plain_of k l ne (h.plain k l ne);
        apart = λ j k p l m ne writes. within_apart (writes_of j) (writes_of k) p (h.apart j k l m ne) writes;
        ends = h.ends;
      }
    where
      plain_of : (k : ℕ) → k < bodies_of w → k ≢ w.event → PlacedPlain k → Plain w k
      plain_of k l ne g =
          record {
            allowed = g.allowed;
            silent = g.silent;
            writes_ours = λ p writes. h.private_is p ∙ within_inside (writes_of k) private p g.writes_inside writes;
            reads_ours = λ p reads. h.private_is p ∙ within_inside (reads_of k) private p g.reads_inside (one_within (planned w k).reads p reads);
            reads_spared = λ j p m apart reads. within_apart (reads_of k) (writes_of j) p (g.reads_apart j m apart) (one_within (planned w k).reads p reads);
          }
