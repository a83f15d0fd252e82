-- A ring grows by segments, whose footprints lie apart from its end on.
use Rattle.std.proofs.Common.{◌≡◌, ℕ, ◌+◌, true, ◌&&◌, List, [], ◌∷◌, ◌++◌, length, sym, ap, ◌∙◌, arith, length-append}
use Rattle.std.proofs.lemmas.List.Concat.{flat_map-append}
use Rattle.std.proofs.lemmas.Bool.{and_parts}
use Rattle.std.proofs.Math.Bool.{and_assoc}
use Rattle.redn_segment.specs.declared.types.SlotRef.{SlotRef}
use Rattle.redn_segment.specs.declared.types.Draft.{Draft}
use Rattle.redn_segment.specs.Building.{Building, drafts_of}
use Rattle.redn_segment.specs.Effects.{first_slot, slot_behind}
use Rattle.redn_segment.specs.Footprints.{is_apart, segments_apart}
use Rattle.redn_segment.proofs.Moving.{slot_ref}

-- the drafts of two lists of segments
pub drafts_append : (xs ys : List (List Draft)) → drafts_of (xs ++ ys) ≡ drafts_of xs ++ drafts_of ys
drafts_append xs ys = flat_map-append (λ (l : List Draft). l) xs ys

pub length-drafts : (xs ys : List (List Draft)) → length (drafts_of (xs ++ ys)) ≡ length (drafts_of xs) + length (drafts_of ys)
length-drafts xs ys = ap length (drafts_append xs ys) ∙ length-append (drafts_of xs) (drafts_of ys)

abbrev pub with_more : Building → List (List Draft) → Building
with_more b more = record b { segments = b.segments ++ more }

pub first_behind : (b : Building) (more : List (List Draft)) → first_slot (with_more b more) ≡ slot_behind (first_slot b) (length (drafts_of more))
first_behind b more = ap (slot_ref b.ring) (length-drafts b.segments more)

pub behind_twice : (q : SlotRef) (m n : ℕ) → slot_behind (slot_behind q m) n ≡ slot_behind q (m + n)
behind_twice q m n = ap (slot_ref q.ring) (let e : (q.slot + m) + n ≡ q.slot + (m + n) = omega arith in e)

pub apart_append : (q : SlotRef) (xs ys : List (List Draft)) → segments_apart q (xs ++ ys) ≡ segments_apart q xs && segments_apart (slot_behind q (length (drafts_of xs))) ys
apart_append q [] ys = ap (λ (r : SlotRef). segments_apart r ys) (ap (slot_ref q.ring) (let e : q.slot ≡ q.slot + 0 = omega arith in e))
apart_append q (x ∷ xs) ys =
    let rest = apart_append (slot_behind q (length x)) xs ys in
    let there : slot_behind (slot_behind q (length x)) (length (drafts_of xs)) ≡ slot_behind q (length (drafts_of (x ∷ xs))) = behind_twice q (length x) (length (drafts_of xs)) ∙ ap (slot_behind q) (sym (length-append x (drafts_of xs))) in
    ap (λ b. is_apart x q && b) (rest ∙ ap (λ (r : SlotRef). segments_apart (slot_behind q (length x)) xs && segments_apart r ys) there) ∙ sym (and_assoc (is_apart x q) (segments_apart (slot_behind q (length x)) xs) (segments_apart (slot_behind q (length (drafts_of (x ∷ xs)))) ys))

module _ (b : Building) (done : List (List Draft)) (ds : List Draft) (rest : List (List Draft)) where
  -- one more of the segments to come lies apart
  pub next_apart : segments_apart (first_slot b) (done ++ ds ∷ rest) ≡ true → is_apart ds (first_slot (with_more b done)) ≡ true
  next_apart h =
      let parts = and_parts (segments_apart (first_slot b) done) (segments_apart (slot_behind (first_slot b) (length (drafts_of done))) (ds ∷ rest)) (sym (apart_append (first_slot b) done (ds ∷ rest)) ∙ h) in
      let here = and_parts (is_apart ds (slot_behind (first_slot b) (length (drafts_of done)))) _ parts.1 in
      ap (is_apart ds) (first_behind b done) ∙ here.0
