-- A segment with its lap requests does what its drafts do without, by the old numbers of slots.
use Rattle.std.proofs.Common.{◌≡◌, ℕ, zero, suc, ◌+◌, ◌<◌, Bool, true, false, cond, ◌||◌, ◌==◌, List, [], ◌∷◌, ◌++◌, length, map, refl, sym, ap, ◌∙◌, subst, arith}
use Rattle.std.specs.List.{list_all}
use Rattle.std.proofs.lemmas.List.{length-map, append-nil}
use Rattle.std.proofs.lemmas.Bool.{eq-eqb, eqb-true, and_parts, true≢false}
use Rattle.redn_words.specs.declared.types.Obs.{Obs}
use Rattle.redn_segment.specs.declared.types.SlotRef.{SlotRef}
use Rattle.redn_segment.specs.declared.types.Site.{Site}
use Rattle.redn_segment.specs.declared.types.Site.TheVariants as site
use Rattle.redn_segment.specs.declared.types.Space.{Space}
use Rattle.redn_segment.specs.declared.types.Space.TheVariants as space
use Rattle.redn_segment.specs.declared.types.Draft.{Draft}
use Rattle.redn_segment.specs.Sites.{next_slot, same_slot, same_space}
use Rattle.redn_segment.specs.Effects.{slot_behind}
use Rattle.redn_segment.specs.Renaming.{renamed, renamed_site, renamed_space, renamed_put, renamed_outcome, pulled}
use Rattle.redn_segment.specs.Plain.{Bytes, View, seeing, Put, placed, Outcome, Went, Faults, Bad, after, follow, step, runs, acts, opcode_in, first_in}
use Rattle.redn_segment.proofs.Renamed.{acts_renamed, map_puts}
use Rattle.redn_segment.proofs.Moved.{pulled_placed, other_slot}
use Rattle.redn_segment.proofs.SameSpace.{same_space_is}
use Rattle.redn_segment.proofs.Composing.{runs_append, placed_append, behind_next, behind_none}
use Rattle.redn_recycle.specs.Laps.{Ring, slot_of, lap_requests}
use Rattle.redn_recycle.specs.Lapped.{segment_at, start_of, first_of, slots_in_laps, slot_in_laps, ref_in_laps, ring_of, names_well, draft_names_well}
use Rattle.redn_recycle.proofs.Starts.{first_le}
use Rattle.redn_proof_ring.specs.Turns.{tabled}
use Rattle.redn_proof_ring.specs.Runs.{own_view}
use Rattle.redn_proof_block.specs.Laps as laps
use Rattle.redn_proof_block.specs.Laps.{raised_by, LapsStand, lap_slot, IsLap, LapsChangeNothing}
use Rattle.redn_proof_block.specs.Names.{Rings, new_slot, in_laps, AreRings, set_aside, spares_all, is_lapping}
use Rattle.redn_proof_block.proofs.Names.{IsGap, names_keep, names_near, names_miss}
use Rattle.redn_proof_block.proofs.Alike.{Alike, AllSpared, alike_placed, runs_alike, run_spared, spared_stay}
use Rattle.redn_proof_block.proofs.Raises.{lap_room, Raising, laps_raise, stays_renamed, laps_stay}

-- drafts under new names, where their own slots keep their order
module _ (f : SlotRef → SlotRef) (keeps : (p q : SlotRef) → same_slot (f p) (f q) ≡ same_slot p q) (number : ℕ) (u : Bytes) where
  abbrev pub IsNear : SlotRef → SlotRef → ℕ → Type 0
  IsNear at there n = (k : ℕ) → k < n → f (slot_behind at k) ≡ slot_behind there k

  first_near : (at there : SlotRef) (n : ℕ) → IsNear at there (suc n) → f at ≡ there
  first_near at there n h = ap f (sym (behind_none at)) ∙ (h 0 (omega arith) ∙ behind_none there)

  next_near : (at there : SlotRef) (n : ℕ) → IsNear at there (suc n) → IsNear (next_slot at) (next_slot there) n
  next_near at there n h k l = ap f (behind_next at k) ∙ (h (suc k) (omega (arith, l)) ∙ sym (behind_next there k))

  abbrev chain : View
  chain = own_view number u

  abbrev those : ℕ → List ℕ
  those t = u (space.Table t)

  seeing_pulled : (s : Bytes) (p : Space) → pulled f (seeing those s) p ≡ seeing those (pulled f s) p
  seeing_pulled s (space.Table t) = refl
  seeing_pulled s (space.Slot q) = refl
  seeing_pulled s _ = refl

  after_renamed : (us : List Put) (shown : List Obs) (o : Outcome) → after (map (renamed_put f) us) shown (renamed_outcome f o) ≡ renamed_outcome f (after us shown o)
  after_renamed us shown (Went vs more) = ap (λ (l : List Put). Went l (shown ++ more)) (sym (map_puts f us vs))
  after_renamed us shown (Faults vs more) = ap (λ (l : List Put). Faults l (shown ++ more)) (sym (map_puts f us vs))
  after_renamed us shown Bad = refl

  step_near : (at there : SlotRef) (d : Draft) (s : Bytes) → f at ≡ there → step chain there (renamed f d) s ≡ renamed_outcome f (step chain at d (pulled f s))
  step_near at there d s e =
      ap (λ (q : SlotRef). step chain q (renamed f d) s) (sym e) ∙ (acts_renamed f number (seeing those s) (s (space.Slot (f at))) d (opcode_in (s (space.Slot (f at)))) ∙ ap (λ (t : Bytes). renamed_outcome f (acts number t (s (space.Slot (f at))) d (opcode_in (s (space.Slot (f at)))))) (λ i p. seeing_pulled s p i))

  follows : (ds : List Draft) (next there : SlotRef) (s : Bytes) → ((t : Bytes) → runs chain there (map (renamed f) ds) t ≡ renamed_outcome f (runs chain next ds (pulled f t))) → (o : Outcome) → follow (renamed_outcome f o) (λ (us : List Put). runs chain there (map (renamed f) ds) (placed s us)) ≡ renamed_outcome f (follow o (λ (us : List Put). runs chain next ds (placed (pulled f s) us)))
  follows ds next there s rest (Went us shown) =
      ap (after (map (renamed_put f) us) shown) (rest (placed s (map (renamed_put f) us)) ∙ ap (λ (t : Bytes). renamed_outcome f (runs chain next ds t)) (pulled_placed f keeps us s)) ∙ after_renamed us shown (runs chain next ds (placed (pulled f s) us))
  follows ds next there s rest (Faults us shown) = refl
  follows ds next there s rest Bad = refl

  pub runs_near : (ds : List Draft) (at there : SlotRef) (s : Bytes) → IsNear at there (length ds) → runs chain there (map (renamed f) ds) s ≡ renamed_outcome f (runs chain at ds (pulled f s))
  runs_near [] at there s near = refl
  runs_near (d ∷ ds) at there s near =
      ap (λ (o : Outcome). follow o (λ (us : List Put). runs chain (next_slot there) (map (renamed f) ds) (placed s us))) (step_near at there d s (first_near at there (length ds) near)) ∙ follows ds (next_slot at) (next_slot there) s (λ t. runs_near ds (next_slot at) (next_slot there) t (next_near at there (length ds) near)) (step chain at d (pulled f s))

module _ (g : Rings) (are : AreRings g) (ring domain base : ℕ) (is_ring : g.is_ring ring ≡ true) where
  abbrev its : List (List Draft)
  its = g.segments ring

  abbrev r : Ring
  r = ring_of its ring domain base

  abbrev f : SlotRef → SlotRef
  f = in_laps g

  abbrev Mirrors : ℕ → Bytes → Bytes → Type 0
  Mirrors = laps.Mirrors g ring domain base

  -- other tables don't matter
  mirror_tabled : (j : ℕ) (t s u : Bytes) → Mirrors j t s → Mirrors j (tabled t u) (tabled s u)
  mirror_tabled j t s u m =
      record {
        agrees = same_tabled;
        raised = m.raised;
        laps = record { adds = m.laps.adds; by = m.laps.by };
      }
    where
      same_tabled : (p : Space) → set_aside ring j p ≡ false → tabled t u p ≡ tabled s u (renamed_space f p)
      same_tabled (space.Table k) e = refl
      same_tabled (space.Slot q) e = m.agrees (space.Slot q) e
      same_tabled (space.Cell c) e = m.agrees (space.Cell c) e
      same_tabled space.Reply e = m.agrees space.Reply e
      same_tabled space.Key e = m.agrees space.Key e
      same_tabled (space.Scratch i) e = m.agrees (space.Scratch i) e
      same_tabled (space.Descriptor i) e = m.agrees (space.Descriptor i) e

  -- drafts that name their own ring's slots alone get the same names by its own numbers
  ref_same : (q : SlotRef) → (q.ring == ring) ≡ true → ref_in_laps its ring q ≡ f q
  ref_same q e =
      let there : new_slot g q.ring q.slot ≡ slot_in_laps its q.slot = ap (λ (n : ℕ). new_slot g n q.slot) (eqb-true q.ring ring e) ∙ ap (λ (b : Bool). cond b (slot_in_laps its q.slot) q.slot) is_ring in
      ap (λ (b : Bool). let x : SlotRef = cond b (record q { slot = slot_in_laps its q.slot }) q in x) e ∙ ap (λ (n : ℕ). let x : SlotRef = record q { slot = n } in x) (sym there)

  site_same : (x : Site) → names_well its ring x ≡ true → renamed_site (ref_in_laps its ring) x ≡ renamed_site f x
  site_same (site.Field x) e =
      let own = (and_parts (x.slot.ring == ring) _ e).0 in
      ap (λ (q : SlotRef). site.Field (record x { slot = q })) (ref_same x.slot own)
  site_same (site.Cell c) e = refl
  site_same _ e = refl

  draft_same : (d : Draft) → draft_names_well its ring d ≡ true → renamed (ref_in_laps its ring) d ≡ renamed f d
  draft_same d e =
      let parts = and_parts (names_well its ring d.local) (names_well its ring d.remote) e in
      ap (λ (x : Site). let b : Draft = record d { local = x; remote = renamed_site (ref_in_laps its ring) d.remote } in b) (site_same d.local parts.0) ∙ ap (λ (x : Site). let b : Draft = record d { local = renamed_site f d.local; remote = x } in b) (site_same d.remote parts.1)

  drafts_same : (ds : List Draft) → list_all (draft_names_well its ring) ds ≡ true → map (renamed (ref_in_laps its ring)) ds ≡ map (renamed f) ds
  drafts_same [] e = refl
  drafts_same (d ∷ ds) e =
      let parts = and_parts (draft_names_well its ring d) (list_all (draft_names_well its ring) ds) e in
      ap (λ (x : Draft). x ∷ map (renamed (ref_in_laps its ring)) ds) (draft_same d parts.0) ∙ ap (λ (xs : List Draft). renamed f d ∷ xs) (drafts_same ds parts.1)

  slot_seen : (j : ℕ) (q : SlotRef) → set_aside ring j (space.Slot q) ≡ false
  slot_seen zero q = refl
  slot_seen (suc j) q = refl

  aside_renamed : (j : ℕ) (p : Space) → set_aside ring j (renamed_space f p) ≡ set_aside ring j p
  aside_renamed zero (space.Slot q) = refl
  aside_renamed (suc j) (space.Slot q) = refl
  aside_renamed j (space.Cell c) = refl
  aside_renamed j space.Reply = refl
  aside_renamed j space.Key = refl
  aside_renamed j (space.Scratch i) = refl
  aside_renamed j (space.Descriptor i) = refl
  aside_renamed j (space.Table k) = refl

  spared_renamed : (j : ℕ) (us : List Put) → AllSpared (set_aside ring j) us → AllSpared (set_aside ring j) (map (renamed_put f) us)
  spared_renamed j [] h = tt
  spared_renamed j (u ∷ us) h = (aside_renamed j u.space ∙ h.0, spared_renamed j us h.1)

  -- one segment
  module _ (number j : ℕ) (inside : j < length its) (spares : list_all (spares_all (set_aside ring j)) (segment_at its j) ≡ true) (names : list_all (draft_names_well its ring) (segment_at its j) ≡ true) (t s u : Bytes) (m : Mirrors j t s) where
    abbrev ds : List Draft
    ds = segment_at its j

    abbrev v : View
    v = own_view number u

    abbrev at : SlotRef
    at = slot_of ring (start_of its j)

    abbrev there : SlotRef
    there = slot_of ring (first_of its j)

    abbrev plain_run : Outcome
    plain_run = laps.plain_run g ring domain base number j t s u

    abbrev lapped_run : Outcome
    lapped_run = laps.lapped_run g ring domain base number j t s u

    abbrev Lapped : Outcome → Type 0
    Lapped = laps.Lapped g ring domain base number j t s u

    both : Mirrors j (tabled t u) (tabled s u)
    both = mirror_tabled j t s u m

    alike : Alike (set_aside ring j) (pulled f (tabled s u)) (tabled t u)
    alike p e = sym (both.agrees p e)

    drafts_run : runs v there (map (renamed f) ds) (tabled s u) ≡ renamed_outcome f plain_run
    drafts_run =
        runs_near f (names_keep g are) number u ds at there (tabled s u) (λ k l. names_near g are ring is_ring j k inside l) ∙ ap (renamed_outcome f) (runs_alike (set_aside ring j) v ds at (pulled f (tabled s u)) (tabled t u) alike (λ k l. slot_seen j (slot_behind at k)) spares)

    laps_place : slot_behind there (length (map (renamed f) ds)) ≡ lap_slot g ring domain base j 0
    laps_place = ap (slot_of ring) (let same = length-map ds (renamed f) in omega (arith, same))

    lapped_is : lapped_run ≡ follow (renamed_outcome f plain_run) (λ (us : List Put). runs v (lap_slot g ring domain base j 0) (lap_requests ring r j) (placed (tabled s u) us))
    lapped_is =
        ap (λ (l : List Draft). runs v there (l ++ lap_requests ring r j) (tabled s u)) (drafts_same ds names) ∙ (runs_append v (lap_requests ring r j) (map (renamed f) ds) there (tabled s u) ∙ (ap (λ (o : Outcome). follow o (λ (us : List Put). runs v (slot_behind there (length (map (renamed f) ds))) (lap_requests ring r j) (placed (tabled s u) us))) drafts_run ∙ ap (λ (q : SlotRef). follow (renamed_outcome f plain_run) (λ (us : List Put). runs v q (lap_requests ring r j) (placed (tabled s u) us))) laps_place))

    -- where it goes through
    module _ (us : List Put) (events : List Obs) (goes : plain_run ≡ Went us events) where
      abbrev near : List Put
      near = map (renamed_put f) us

      abbrev middle : Bytes
      middle = placed (tabled s u) near

      spared : AllSpared (set_aside ring j) us
      spared = run_spared (set_aside ring j) v ds at (tabled t u) us events spares goes

      middle_is : (p : Space) → set_aside ring j p ≡ false → placed (tabled t u) us p ≡ middle (renamed_space f p)
      middle_is p e =
          sym (alike_placed (set_aside ring j) us (pulled f (tabled s u)) (tabled t u) alike p e) ∙ sym (ap (λ (b : Bytes). b p) (pulled_placed f (names_keep g are) us (tabled s u)))

      lap_gap : (i k : ℕ) (d : Draft) → i < length its → IsLap g ring domain base i k d → IsGap its (are ring is_ring).some i (first_of its i + (length (segment_at its i) + k))
      lap_gap i k d l lap =
          let room = lap_room g are ring domain base is_ring i k d l lap in
          let up = first_le its (suc i) (length its) l in
          record { inside = l; low = omega arith; high = omega (arith, room); not_last = λ e. omega (arith, room, up) }

      lap_kept : (i k : ℕ) (d : Draft) → i < length its → IsLap g ring domain base i k d → middle (space.Slot (lap_slot g ring domain base i k)) ≡ tabled s u (space.Slot (lap_slot g ring domain base i k))
      lap_kept i k d l lap =
          other_slot f (names_keep g are) us (tabled s u) (lap_slot g ring domain base i k) (λ q. names_miss g are ring is_ring q i (first_of its i + (length (segment_at its i) + k)) (lap_gap i k d l lap))

      middle_stands : LapsStand g ring domain base middle
      middle_stands =
          record {
            adds = λ i k d l lap. ap opcode_in (lap_kept i k d l lap) ∙ both.laps.adds i k d l lap;
            by = λ i k d l lap. ap first_in (lap_kept i k d l lap) ∙ both.laps.by i k d l lap;
          }

      raising : Raising g are ring domain base is_ring v j middle
      raising = laps_raise g are ring domain base is_ring v j middle inside middle_stands

      abbrev all : List Put
      all = near ++ raising.puts

      goes_lapped : lapped_run ≡ Went all events
      goes_lapped =
          lapped_is ∙ (ap (λ (o : Outcome). follow (renamed_outcome f o) (λ (ws : List Put). runs v (lap_slot g ring domain base j 0) (lap_requests ring r j) (placed (tabled s u) ws))) goes ∙ (ap (after near events) raising.goes ∙ ap (Went all) (append-nil events)))

      end_is : placed (tabled s u) all ≡ placed middle raising.puts
      end_is = placed_append near raising.puts (tabled s u)

      stays_there : (p : Space) → set_aside ring j p ≡ false → is_lapping p ≡ false → placed (tabled t u) us p ≡ placed middle raising.puts (renamed_space f p)
      stays_there p e plain =
          middle_is p e ∙ sym (stays_renamed g are ring domain base is_ring j raising.puts middle p raising.gone plain (λ z same. true≢false (sym (own_aside j z p same) ∙ e)))
        where
          own_aside : (i : ℕ) → i ≡ 0 → (p : Space) → p ≡ space.Descriptor ring → set_aside ring i p ≡ true
          own_aside i z p same = ap (λ (k : ℕ). set_aside ring k p) z ∙ (ap (set_aside ring 0) same ∙ eq-eqb ring ring refl)

      own_raised : j ≡ 0 → placed (tabled t u) us (space.Descriptor ring) ≡ placed middle raising.puts (space.Descriptor ring)
      own_raised z =
          let aside : set_aside ring j (space.Descriptor ring) ≡ true = ap (λ (k : ℕ). set_aside ring k (space.Descriptor ring)) z ∙ eq-eqb ring ring refl in
          spared_stay (set_aside ring j) us (tabled t u) (space.Descriptor ring) aside spared ∙ (both.raised z ∙ (ap (raised_by (slots_in_laps its)) (sym (spared_stay (set_aside ring j) near (tabled s u) (space.Descriptor ring) aside (spared_renamed j us spared))) ∙ sym (raising.raised z)))

      agrees_after : (p : Space) → is_lapping p ≡ false → placed (tabled t u) us p ≡ placed middle raising.puts (renamed_space f p)
      agrees_after p plain = by_place j refl (same_space p (space.Descriptor ring)) refl
        where
          by_place : (i : ℕ) → j ≡ i → (b : Bool) → same_space p (space.Descriptor ring) ≡ b → placed (tabled t u) us p ≡ placed middle raising.puts (renamed_space f p)
          by_place (suc i) z b e = stays_there p (ap (λ (k : ℕ). set_aside ring k p) z ∙ plain) plain
          by_place zero z false e = stays_there p (ap (λ (k : ℕ). set_aside ring k p) z ∙ (ap (λ (x : Bool). x || same_space p (space.Descriptor ring)) plain ∙ e)) plain
          by_place zero z true e =
              let same : p ≡ space.Descriptor ring = same_space_is p (space.Descriptor ring) e in
              ap (λ (q : Space). placed (tabled t u) us q) same ∙ (own_raised z ∙ ap (λ (q : Space). placed middle raising.puts (renamed_space f q)) (sym same))

      mirror_next : Mirrors (suc j) (placed (tabled t u) us) (placed (tabled s u) all)
      mirror_next =
          record {
            agrees = λ p e. agrees_after p e ∙ sym (ap (λ (b : Bytes). b (renamed_space f p)) end_is);
            raised = λ z. absurd (omega (arith, z));
            laps = subst (LapsStand g ring domain base) (sym end_is) (laps_stay g are ring domain base is_ring j raising.puts middle raising.gone middle_stands);
          }

    lapped_by : (o : Outcome) → plain_run ≡ o → Lapped o
    lapped_by (Went us events) goes = (all us events goes, goes_lapped us events goes, mirror_next us events goes)
    lapped_by (Faults us events) goes = (map (renamed_put f) us, lapped_is ∙ ap (λ (o : Outcome). follow (renamed_outcome f o) (λ (ws : List Put). runs v (lap_slot g ring domain base j 0) (lap_requests ring r j) (placed (tabled s u) ws))) goes)
    lapped_by Bad goes = lapped_is ∙ ap (λ (o : Outcome). follow (renamed_outcome f o) (λ (ws : List Put). runs v (lap_slot g ring domain base j 0) (lap_requests ring r j) (placed (tabled s u) ws))) goes

    pub lapped : Lapped plain_run
    lapped = lapped_by plain_run refl

-- the law
pub laps_change_nothing : LapsChangeNothing
laps_change_nothing g are ring domain base is_ring number j inside spares names t s u m = lapped g are ring domain base is_ring number j inside spares names t s u m
