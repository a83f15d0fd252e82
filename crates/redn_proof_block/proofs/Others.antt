-- The runs of a ring leave the slots of all others alone.
use Rattle.std.proofs.Common.{◌≡◌, ℕ, Bool, true, false, not, ◌==◌, ◌≢◌, inl, inr, zero, suc, cond, List, [], ◌∷◌, length, Some, refl, sym, ap, ◌∙◌, subst}
use Rattle.std.specs.Prelude.{slice_get}
use Rattle.std.specs.List.{list_all}
use Rattle.std.proofs.lemmas.Bool.{and_parts, and_from, eq-eqb, ne_eqb}
use Rattle.redn_words.specs.declared.types.Obs.{Obs}
use Rattle.redn_segment.specs.declared.types.SlotRef.{SlotRef}
use Rattle.redn_segment.specs.declared.types.Site.{Site}
use Rattle.redn_segment.specs.declared.types.Site.TheVariants as site
use Rattle.redn_segment.specs.declared.types.Space.{Space}
use Rattle.redn_segment.specs.declared.types.Space.TheVariants as space
use Rattle.redn_segment.specs.declared.types.Draft.{Draft}
use Rattle.redn_segment.specs.Sites.{space_of, next_slot}
use Rattle.redn_segment.specs.Plain.{Bytes, View, Put, placed, Went, runs}
use Rattle.redn_segment.specs.Primed.{Primed, IsPrimed, writes_slot}
use Rattle.redn_segment.specs.Renaming.{renamed, renamed_site}
use Rattle.redn_recycle.specs.Laps.{Ring, lap_requests, bodies_of, raise_wait, raise_enable, raise_descriptor}
use Rattle.redn_recycle.specs.Lapped.{segment_at, ring_of, slot_in_laps, ref_in_laps, names_well, draft_names_well}
use Rattle.redn_proof_ring.proofs.LapSteps.{slice_get_append, LapOf, Raises_wait, Raises_enable, Raises_descriptor, lap_of}
use Rattle.redn_proof_ring.proofs.Named.{all_from}
use Rattle.redn_proof_block.specs.Names.{spares_all}
use Rattle.redn_proof_block.proofs.Alike.{run_spared, spared_stay}
use Rattle.redn_proof_block.proofs.Drafts.{mapped_at}

abbrev pub elsewhere : ℕ → Space → Bool
elsewhere ring (space.Slot q) = not (q.ring == ring)
elsewhere ring _ = false

own_place : (ring n : ℕ) → n ≡ ring → not (n == ring) ≡ false
own_place ring n e = ap not (eq-eqb n ring e)

-- a site of the ring, by its old and its new name
site_own : (segments : List (List Draft)) (ring : ℕ) (x : Site) → names_well segments ring x ≡ true → elsewhere ring (space_of x) ≡ false
site_own segments ring (site.Field x) e = ap not (and_parts (x.slot.ring == ring) _ e).0
site_own segments ring _ e = refl

ring_kept : (segments : List (List Draft)) (ring : ℕ) (q : SlotRef) → (ref_in_laps segments ring q).ring ≡ q.ring
ring_kept segments ring q = by_own (q.ring == ring)
  where
    by_own : (b : Bool) → (cond b (record q { slot = slot_in_laps segments q.slot }) q).ring ≡ q.ring
    by_own true = refl
    by_own false = refl

site_named : (segments : List (List Draft)) (ring : ℕ) (x : Site) → names_well segments ring x ≡ true → elsewhere ring (space_of (renamed_site (ref_in_laps segments ring) x)) ≡ false
site_named segments ring (site.Field x) e = ap (λ (n : ℕ). not (n == ring)) (ring_kept segments ring x.slot) ∙ ap not (and_parts (x.slot.ring == ring) _ e).0
site_named segments ring _ e = refl

pub spares_by : (aside : Space → Bool) (d : Draft) → aside (space_of d.local) ≡ false → aside (space_of d.remote) ≡ false → spares_all aside d ≡ true
spares_by aside d a b = and_from (not (aside (space_of d.local))) (not (aside (space_of d.remote))) (ap not a) (ap not b)

module _ (segments : List (List Draft)) (ring domain base : ℕ) (j : ℕ) (names : list_all (draft_names_well segments ring) (segment_at segments j) ≡ true) where
  abbrev r : Ring
  r = ring_of segments ring domain base

  names_at : (k : ℕ) (d : Draft) → slice_get (segment_at segments j) k ≡ Some d → (names_well segments ring d.local ≡ true) × (names_well segments ring d.remote ≡ true)
  names_at k d e = and_parts (names_well segments ring d.local) (names_well segments ring d.remote) (all_at (segment_at segments j) names k d e)
    where
      all_at : (xs : List Draft) → list_all (draft_names_well segments ring) xs ≡ true → (k : ℕ) (d : Draft) → slice_get xs k ≡ Some d → draft_names_well segments ring d ≡ true
      all_at [] h k d e = absurd (cc)
      all_at (x ∷ xs) h zero d e = let same : x ≡ d = cc in subst (λ (y : Draft). draft_names_well segments ring y ≡ true) same (and_parts (draft_names_well segments ring x) _ h).0
      all_at (x ∷ xs) h (suc k) d e = all_at xs (and_parts (draft_names_well segments ring x) _ h).1 k d e

  drafts_spare : list_all (spares_all (elsewhere ring)) (segment_at segments j) ≡ true
  drafts_spare = all_from (spares_all (elsewhere ring)) (segment_at segments j) (λ k d e. let n = names_at k d e in spares_by (elsewhere ring) d (site_own segments ring d.local n.0) (site_own segments ring d.remote n.1))

  lap_spares : (d : Draft) → LapOf ring r d → spares_all (elsewhere ring) d ≡ true
  lap_spares d (Raises_wait i e) = subst (λ (x : Draft). spares_all (elsewhere ring) x ≡ true) (sym e) (spares_by (elsewhere ring) (raise_wait ring r i) refl (own_place ring ring refl))
  lap_spares d (Raises_enable i e) = subst (λ (x : Draft). spares_all (elsewhere ring) x ≡ true) (sym e) (spares_by (elsewhere ring) (raise_enable ring r i) refl (own_place ring ring refl))
  lap_spares d (Raises_descriptor e) = subst (λ (x : Draft). spares_all (elsewhere ring) x ≡ true) (sym e) (spares_by (elsewhere ring) (raise_descriptor ring r) refl refl)

  bodies_spare : list_all (spares_all (elsewhere ring)) (bodies_of ring r j) ≡ true
  bodies_spare =
      all_from (spares_all (elsewhere ring)) (bodies_of ring r j) (λ k d e.
      elim (slice_get_append (r.drafts j) (lap_requests ring r j) k d e) [
        | inl own ↦
            let old = mapped_at (renamed (ref_in_laps segments ring)) (segment_at segments j) k d own in
            let n = names_at k old.0 old.1 in
            subst (λ (x : Draft). spares_all (elsewhere ring) x ≡ true) (sym old.2) (spares_by (elsewhere ring) (renamed (ref_in_laps segments ring) old.0) (site_named segments ring old.0.local n.0) (site_named segments ring old.0.remote n.1))
        | inr lap ↦ lap_spares d (lap_of ring r j lap.0 d lap.2)
      ])

  other_place : (q : SlotRef) → q.ring ≢ ring → elsewhere ring (space.Slot q) ≡ true
  other_place q ne = ap not (ne_eqb q.ring ring ne)

  -- of the drafts alone, and with lap requests
  pub plain_elsewhere : (v : View) (at : SlotRef) (s : Bytes) (us : List Put) (events : List Obs) → runs v at (segment_at segments j) s ≡ Went us events → (q : SlotRef) → q.ring ≢ ring → placed s us (space.Slot q) ≡ s (space.Slot q)
  plain_elsewhere v at s us events goes q ne = spared_stay (elsewhere ring) us s (space.Slot q) (other_place q ne) (run_spared (elsewhere ring) v (segment_at segments j) at s us events drafts_spare goes)

  pub lapped_elsewhere : (v : View) (at : SlotRef) (s : Bytes) (us : List Put) (events : List Obs) → runs v at (bodies_of ring r j) s ≡ Went us events → (q : SlotRef) → q.ring ≢ ring → placed s us (space.Slot q) ≡ s (space.Slot q)
  lapped_elsewhere v at s us events goes q ne = spared_stay (elsewhere ring) us s (space.Slot q) (other_place q ne) (run_spared (elsewhere ring) v (bodies_of ring r j) at s us events bodies_spare goes)

-- slots that are as they were are primed as they were
pub primed_same : (all es : List Draft) (at : SlotRef) (s t : Bytes) → ((q : SlotRef) → q.ring ≡ at.ring → t (space.Slot q) ≡ s (space.Slot q)) → Primed all at es s → Primed all at es t
primed_same all [] at s t h p = ap length (h at refl) ∙ p
primed_same all (d ∷ es) at s t h p =
    (subst (IsPrimed (writes_slot all at) d) (sym (h at refl)) p.0, primed_same all es (next_slot at) s t h p.1)
