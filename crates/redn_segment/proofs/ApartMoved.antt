-- Footprints that lie apart do so from any slot on.
use Rattle.std.proofs.Common.{◌≡◌, ℕ, ◌+◌, Bool, ◌&&◌, List, [], ◌∷◌, length, map, refl, ap, ◌∙◌, arith}
use Rattle.std.specs.List.{list_all}
use Rattle.std.proofs.lemmas.List.{length-map}
use Rattle.redn_words.specs.declared.types.Opcode.{Opcode}
use Rattle.redn_words.specs.declared.types.Opcode.TheVariants.{Noop}
use Rattle.redn_segment.specs.declared.types.SlotRef.{SlotRef}
use Rattle.redn_segment.specs.declared.types.Side.{Side}
use Rattle.redn_segment.specs.declared.types.Space.{Space}
use Rattle.redn_segment.specs.declared.types.Space.TheVariants as space
use Rattle.redn_segment.specs.declared.types.Draft.{Draft}
use Rattle.redn_segment.specs.Sites.{space_of, same_space}
use Rattle.redn_segment.specs.Effects.{slot_behind}
use Rattle.redn_segment.specs.Footprints.{local_by, remote_by, holds_of, both_sides, ends_inside, is_free, drafts_free, all_free, among, spares, is_apart, segments_apart}
use Rattle.redn_segment.specs.Renaming.{renamed_site, renamed_space, renamed, moved}
use Rattle.redn_segment.proofs.Renamed.{table_renamed, start_renamed, size_renamed, in_slot_renamed, space_renamed}
use Rattle.redn_segment.proofs.Moved.{same_renamed}
use Rattle.redn_segment.proofs.Moving.{keeps, eq_moved, le_moved, lt_moved, slot_ref}

module _ (ring first : ℕ) where
  abbrev at : SlotRef → SlotRef
  at = moved ring first

  abbrev side_moved : Side → Side
  side_moved a = record a { site = renamed_site at a.site }

  local_moved : (test : Side → Bool) (d : Draft) (o : Opcode) → holds_of test (local_by (renamed at d) o) ≡ holds_of (λ (a : Side). test (side_moved a)) (local_by d o)
  local_moved test d Noop = refl
  local_moved test d _ = refl

  remote_moved : (test : Side → Bool) (d : Draft) (o : Opcode) → holds_of test (remote_by (renamed at d) o) ≡ holds_of (λ (a : Side). test (side_moved a)) (remote_by d o)
  remote_moved test d Noop = refl
  remote_moved test d _ = refl

  both_moved : (test other : Side → Bool) (d : Draft) → ((a : Side) → test (side_moved a) ≡ other a) → both_sides test (renamed at d) ≡ both_sides other d
  both_moved test other d h =
      (λ i. local_moved test d d.op i && remote_moved test d d.op i) ∙ ap (λ (t : Side → Bool). both_sides t d) (λ i a. h a i)

  inside_moved : (a : Side) → ends_inside (side_moved a) ≡ ends_inside a
  inside_moved a = simp (table_renamed at, size_renamed at, in_slot_renamed at) refl

  free_moved : (a b : Side) → is_free (side_moved a) (side_moved b) ≡ is_free a b
  free_moved a b =
      let same : (p q : Space) → same_space (renamed_space at p) (renamed_space at q) ≡ same_space p q = same_renamed at (keeps ring first) in
      simp (table_renamed at, start_renamed at, space_renamed at, same) refl

  among_moved : (q : SlotRef) (n : ℕ) (p : Space) → among (at q) n (renamed_space at p) ≡ among q n p
  among_moved q n (space.Slot r) =
      let rings = eq_moved ring r.ring q.ring in
      let from = le_moved first q.slot r.slot in
      let to = lt_moved first r.slot (q.slot + n) ((first + q.slot) + n) (omega arith) in
      rw (rings, from, to) refl
  among_moved q n _ = refl

  spares_moved : (q : SlotRef) (n : ℕ) (a : Side) → spares (at q) n (side_moved a) ≡ spares q n a
  spares_moved q n a =
      let same = among_moved q n (space_of a.site) in
      simp (space_renamed at, same) refl

  pub all_moved : (test other : Draft → Bool) (ds : List Draft) → ((d : Draft) → test (renamed at d) ≡ other d) → list_all test (map (renamed at) ds) ≡ list_all other ds
  all_moved test other [] h = refl
  all_moved test other (d ∷ ds) h = λ i. h d i && all_moved test other ds h i

  free_drafts : (d e : Draft) → drafts_free (renamed at d) (renamed at e) ≡ drafts_free d e
  free_drafts d e = both_moved (λ (a : Side). both_sides (is_free a) (renamed at e)) (λ (a : Side). both_sides (is_free a) e) d (λ a. both_moved (is_free (side_moved a)) (is_free a) e (free_moved a))

  all_free_moved : (ds : List Draft) → all_free (map (renamed at) ds) ≡ all_free ds
  all_free_moved [] = refl
  all_free_moved (d ∷ ds) = λ i. all_moved (drafts_free (renamed at d)) (drafts_free d) ds (free_drafts d) i && all_free_moved ds i

  pub apart_moved : (ds : List Draft) (q : SlotRef) → is_apart (map (renamed at) ds) (at q) ≡ is_apart ds q
  apart_moved ds q =
      ap (λ (n : ℕ). list_all (both_sides ends_inside) (map (renamed at) ds) && (all_free (map (renamed at) ds) && list_all (both_sides (spares (at q) n)) (map (renamed at) ds))) (length-map ds (renamed at)) ∙ (λ i. all_moved (both_sides ends_inside) (both_sides ends_inside) ds (λ d. both_moved ends_inside ends_inside d inside_moved) i && (all_free_moved ds i && all_moved (both_sides (spares (at q) (length ds))) (both_sides (spares q (length ds))) ds (λ d. both_moved (spares (at q) (length ds)) (spares q (length ds)) d (spares_moved q (length ds))) i))

  pub behind_moved : (q : SlotRef) (n : ℕ) → slot_behind (at q) n ≡ at (slot_behind q n)
  behind_moved q n = ap (slot_ref (ring + q.ring)) (let e : (first + q.slot) + n ≡ first + (q.slot + n) = omega arith in e)

  pub segments_moved : (segments : List (List Draft)) (q : SlotRef) → segments_apart (at q) (map (map (renamed at)) segments) ≡ segments_apart q segments
  segments_moved [] q = refl
  segments_moved (ds ∷ rest) q =
      ap (λ (r : SlotRef). is_apart (map (renamed at) ds) (at q) && segments_apart r (map (map (renamed at)) rest)) (ap (slot_behind (at q)) (length-map ds (renamed at)) ∙ behind_moved q (length ds)) ∙ (λ i. apart_moved ds q i && segments_moved rest (slot_behind q (length ds)) i)
