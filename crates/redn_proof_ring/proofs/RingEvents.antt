-- Where the event of a segment stands, and that no other draft has a table.
use Rattle.std.proofs.Common.{◌≡◌, ◌≢◌, ℕ, zero, suc, ◌+◌, ◌<◌, ◌≤◌, ◌⊎◌, inl, inr, Bool, true, false, cond, not, ◌&&◌, ◌||◌, List, [], ◌∷◌, map, length, refl, sym, ap, ◌∙◌, arith, length-append}
use Rattle.std.specs.Prelude.{slice_get, Some}
use Rattle.std.specs.List.{list_all, list_any, position_or_len}
use Rattle.std.proofs.lemmas.Bool.{and_parts, or_right, false≢true}
use Rattle.std.proofs.lemmas.List.{length-map}
use Rattle.redn_words.specs.declared.types.Opcode.{Opcode}
use Rattle.redn_words.specs.declared.types.Opcode.TheVariants.{Read, Send}
use Rattle.redn_segment.specs.declared.types.SlotRef.{SlotRef}
use Rattle.redn_segment.specs.declared.types.Site.{Site}
use Rattle.redn_segment.specs.declared.types.Site.TheVariants as site
use Rattle.redn_segment.specs.declared.types.Side.{Side}
use Rattle.redn_segment.specs.declared.types.Space.{Space}
use Rattle.redn_segment.specs.declared.types.Draft.{Draft}
use Rattle.redn_segment.specs.Sites.{space_of, is_table}
use Rattle.redn_segment.specs.Footprints.{both_sides}
use Rattle.redn_segment.specs.Renaming.{renamed}
use Rattle.redn_segment.specs.Templates.{may_show, may_show_by, one_event, is_shown, is_variable}
use Rattle.redn_segment.proofs.Kept.{not_true}
use Rattle.redn_segment.proofs.Renamed.{table_renamed}
use Rattle.redn_proof_landing.specs.Segments.{IsApart}
use Rattle.redn_recycle.specs.Laps.{Ring, lap_requests, bodies_of, gates_of}
use Rattle.redn_recycle.specs.Lapped.{segment_at, ref_in_laps, ring_of, event_in, first_of}
use Rattle.redn_recycle.proofs.Starts.{added_few}
use Rattle.redn_recycle.proofs.Rings.{added_is}
use Rattle.redn_proof_ring.specs.Plans.{ending_of}
use Rattle.redn_proof_ring.specs.Apart.{LeavesLaps, has_flat_local}
use Rattle.redn_proof_ring.proofs.RingApart.{inside_all, free_all, spared_all}
use Rattle.redn_proof_ring.proofs.LapSteps.{slice_get_append, LapOf, Raises_wait, Raises_enable, Raises_descriptor, lap_of, some_is}
use Rattle.redn_segment.proofs.AnyOrder.{all_at}

-- a draft with a table at its remote side may show an event
table_shows : (d : Draft) (op : Opcode) → is_table d.remote ≡ true → may_show_by d op ≡ true
table_shows d op t = by_op op (shown d.remote t)
  where
    shown : (x : Site) → is_table x ≡ true → is_shown x ≡ true
    shown (site.Table i o) e = refl
    shown (site.Cell c) e = absurd (false≢true e)
    shown (site.ReplyWord i) e = absurd (false≢true e)
    shown site.Key e = absurd (false≢true e)
    shown (site.Scratch i) e = absurd (false≢true e)
    shown (site.Descriptor i) e = absurd (false≢true e)
    shown (site.Field f) e = absurd (false≢true e)

    by_op : (op : Opcode) → is_shown d.remote ≡ true → may_show_by d op ≡ true
    by_op Send e = refl
    by_op Read e = ap (λ (b : Bool). b || is_variable d.local) e
    by_op _ e = e

-- the only draft that may show an event
event_at : (ds : List Draft) (k : ℕ) (d : Draft) → one_event ds ≡ true → slice_get ds k ≡ Some d → may_show d ≡ true → (list_any may_show ds ≡ true) × (position_or_len may_show ds ≡ k)
event_at [] k d one e h = absurd (cc)
event_at (x ∷ ds) zero d one e h =
    let its : may_show x ≡ true = ap may_show (sym (some_is x d e)) ∙ h in
    (ap (λ (b : Bool). b || list_any may_show ds) its, ap (λ (b : Bool). cond (not b) (1 + position_or_len may_show ds) 0) its)
event_at (x ∷ ds) (suc k) d one e h =
    let parts = and_parts (list_all (λ (y : Draft). not (may_show x && may_show y)) ds) (one_event ds) one in
    let rest = event_at ds k d parts.1 e h in
    let other = all_at (λ (y : Draft). not (may_show x && may_show y)) ds k d parts.0 e in
    let quiet : may_show x ≡ false = by_test (may_show x) (may_show d) h other in
    (or_right (may_show x) (list_any may_show ds) rest.0, ap (λ (b : Bool). cond (not b) (1 + position_or_len may_show ds) 0) quiet ∙ ap (λ (n : ℕ). 1 + n) rest.1 ∙ omega arith)
  where
    by_test : (a b : Bool) → b ≡ true → not (a && b) ≡ true → a ≡ false
    by_test false b f g = refl
    by_test true true f g = absurd (false≢true g)
    by_test true false f g = absurd (false≢true f)

pub event_is : (ds : List Draft) (k : ℕ) (d : Draft) → one_event ds ≡ true → slice_get ds k ≡ Some d → may_show d ≡ true → event_in ds ≡ k
event_is ds k d one e h = let found = event_at ds k d one e h in ap (λ (b : Bool). cond b (position_or_len may_show ds) (length ds + 2)) found.0 ∙ found.1

-- it is a draft of the segment, or past all its lap requests
event_inside : (ds : List Draft) → list_any may_show ds ≡ true → position_or_len may_show ds < length ds
event_inside [] h = absurd (false≢true h)
event_inside (x ∷ ds) h = by_test (λ g. event_inside ds g) (may_show x) refl h
  where
    by_test : (list_any may_show ds ≡ true → position_or_len may_show ds < length ds) → (b : Bool) → may_show x ≡ b → b || list_any may_show ds ≡ true → cond (not b) (1 + position_or_len may_show ds) 0 < suc (length ds)
    by_test again true e g = omega arith
    by_test again false e g = let l = again g in omega (arith, l)

pub event_there : (ds : List Draft) → (event_in ds < length ds) ⊎ (length ds + 2 ≤ event_in ds)
event_there ds = by_test (list_any may_show ds) refl
  where
    by_test : (b : Bool) → list_any may_show ds ≡ b → (cond b (position_or_len may_show ds) (length ds + 2) < length ds) ⊎ (length ds + 2 ≤ cond b (position_or_len may_show ds) (length ds + 2))
    by_test true e = inl (event_inside ds e)
    by_test false e = inr (omega arith)

module _ (segments : List (List Draft)) (some : 2 ≤ length segments) (number domain base : ℕ) where
  abbrev r : Ring
  r = ring_of segments number domain base

  abbrev f : SlotRef → SlotRef
  f = ref_in_laps segments number

  count_is : (j : ℕ) → length (bodies_of number r j) ≡ length (segment_at segments j) + length (lap_requests number r j)
  count_is j = length-append (r.drafts j) (lap_requests number r j) ∙ ap (λ (n : ℕ). n + length (lap_requests number r j)) (length-map (segment_at segments j) (renamed f))

  pub events_are : (j : ℕ) → (r.event j < length (r.drafts j)) ⊎ (length (bodies_of number r j) ≤ r.event j)
  events_are j =
      let count = count_is j in
      let own : length (r.drafts j) ≡ length (segment_at segments j) = length-map (segment_at segments j) (renamed f) in
      let added = added_is segments number domain base j some in
      let few = added_few segments j in
      let laps : length (lap_requests number r j) ≤ 2 = few_laps j in
      elim (event_there (segment_at segments j)) [ inl inside ↦ inl (omega (arith, inside, own)) | inr past ↦ inr (omega (arith, past, count, laps)) ]
    where
      one_or_two : (b : Bool) (x y z : Draft) → length (cond b (x ∷ []) (y ∷ z ∷ [])) ≤ 2
      one_or_two true x y z = omega arith
      one_or_two false x y z = omega arith

      none_or_two : (b : Bool) (y z : Draft) → length (cond b [] (y ∷ z ∷ [])) ≤ 2
      none_or_two true y z = omega arith
      none_or_two false y z = omega arith

      few_laps : (j : ℕ) → length (lap_requests number r j) ≤ 2
      few_laps zero = one_or_two r.sends _ _ _
      few_laps (suc j) = none_or_two _ _ _

  module _ (j : ℕ) (l : j < length segments) (h : LeavesLaps segments number j) where
    abbrev ds : List Draft
    ds = segment_at segments j

    -- an own draft under its new name
    own_named : (xs : List Draft) (k : ℕ) (d : Draft) → slice_get (map (renamed f) xs) k ≡ Some d → (x : Draft) × (slice_get xs k ≡ Some x) × (d ≡ renamed f x)
    own_named [] k d e = absurd (cc)
    own_named (x ∷ xs) zero d e = (x, refl, some_is (renamed f x) d e)
    own_named (x ∷ xs) (suc k) d e = own_named xs k d e

    flat_lap : (d : Draft) → LapOf number r d → (is_table d.local ≡ false) × (is_table d.remote ≡ false)
    flat_lap d (Raises_wait i e) = (ap (λ (x : Draft). is_table x.local) e, ap (λ (x : Draft). is_table x.remote) e)
    flat_lap d (Raises_enable i e) = (ap (λ (x : Draft). is_table x.local) e, ap (λ (x : Draft). is_table x.remote) e)
    flat_lap d (Raises_descriptor e) = (ap (λ (x : Draft). is_table x.local) e, ap (λ (x : Draft). is_table x.remote) e)

    pub private_all : (k : ℕ) (d : Draft) → slice_get (bodies_of number r j) k ≡ Some d → (is_table d.local ≡ false) × (k ≢ r.event j → is_table d.remote ≡ false)
    private_all k d e =
        elim (slice_get_append (r.drafts j) (lap_requests number r j) k d e) [
          | inl own ↦
              let n = own_named ds k d own in
              let x : Draft = n.0 in
              let flat : is_table x.local ≡ false = not_true (is_table x.local) (all_at has_flat_local ds k x h.flat n.1) in
              (ap (λ (y : Draft). is_table y.local) n.2 ∙ table_renamed f x.local ∙ flat, λ ne. ap (λ (y : Draft). is_table y.remote) n.2 ∙ table_renamed f x.remote ∙ no_table k x n.1 ne (is_table x.remote) refl)
          | inr lap ↦ let both = flat_lap d (lap_of number r j lap.0 d lap.2) in (both.0, λ ne. both.1)
        ]
      where
        no_table : (k : ℕ) (x : Draft) → slice_get ds k ≡ Some x → k ≢ r.event j → (b : Bool) → is_table x.remote ≡ b → is_table x.remote ≡ false
        no_table k x e ne false t = t
        no_table k x e ne true t = absurd (ne (sym (event_is ds k x h.events e (table_shows x x.op t))))

    -- a segment with its lap requests is apart
    pub ring_apart : (mine : Space → Bool) → list_all (both_sides (λ (a : Side). mine (space_of a.site))) (bodies_of number r j) ≡ true
        → IsApart mine number (record { first = first_of segments j; drafts = bodies_of number r j; gates = gates_of number r j; ending = ending_of number r j; event = r.event j })
    ring_apart mine placed =
        record {
          inside = inside_all segments some number domain base j l h;
          free = free_all segments some number domain base j l h;
          spared = spared_all segments some number domain base j l h;
          placed = placed;
          private = private_all;
        }
