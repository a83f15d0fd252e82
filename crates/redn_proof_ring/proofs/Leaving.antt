-- What a whole ring's drafts meet is met by each of its segments.
use Rattle.std.proofs.Common.{◌≡◌, ℕ, zero, suc, ◌+◌, ◌<◌, Bool, true, List, [], ◌∷◌, length, refl, ap, ◌∙◌, arith}
use Rattle.std.specs.List.{list_all}
use Rattle.std.proofs.lemmas.Bool.{and_parts}
use Rattle.redn_segment.specs.declared.types.Draft.{Draft}
use Rattle.redn_segment.specs.Building.{drafts_of}
use Rattle.redn_segment.specs.Footprints.{both_sides, spares, is_apart, segments_apart}
use Rattle.redn_segment.specs.Templates.{one_event}
use Rattle.redn_recycle.specs.Laps.{slot_of}
use Rattle.redn_recycle.specs.Lapped.{MayGoRound, segment_at, start_of}
use Rattle.redn_proof_ring.specs.Apart.{LeavesLaps, leaves_scratch, leaves_descriptor, has_flat_local}
use Rattle.redn_recycle.proofs.Starts.{start_behind}
use Rattle.redn_proof_ring.proofs.Laying.{all_front as front_back}

pub segment_all : (test : Draft → Bool) (segments : List (List Draft)) (j : ℕ) → list_all test (drafts_of segments) ≡ true → list_all test (segment_at segments j) ≡ true
segment_all test [] j h = refl
segment_all test (s ∷ rest) zero h = (front_back test s (drafts_of rest) h).0
segment_all test (s ∷ rest) (suc j) h = segment_all test rest j (front_back test s (drafts_of rest) h).1

pub segment_each : (test : List Draft → Bool) (segments : List (List Draft)) (j : ℕ) → j < length segments → list_all test segments ≡ true → test (segment_at segments j) ≡ true
segment_each test [] j l h = absurd (omega (arith, l))
segment_each test (s ∷ rest) zero l h = (and_parts (test s) (list_all test rest) h).0
segment_each test (s ∷ rest) (suc j) l h = segment_each test rest j (omega (arith, l)) (and_parts (test s) (list_all test rest) h).1

-- where the segments stand one behind the other from a slot on
pub segment_apart : (number a : ℕ) (segments : List (List Draft)) (j : ℕ) → j < length segments → segments_apart (slot_of number a) segments ≡ true → is_apart (segment_at segments j) (slot_of number (a + start_of segments j)) ≡ true
segment_apart number a [] j l h = absurd (omega (arith, l))
segment_apart number a (s ∷ rest) zero l h =
    let here : a + 0 ≡ a = omega arith in
    ap (λ (n : ℕ). is_apart s (slot_of number n)) here ∙ (and_parts (is_apart s (slot_of number a)) (segments_apart (slot_of number (a + length s)) rest) h).0
segment_apart number a (s ∷ rest) (suc j) l h =
    let behind = start_behind s rest j in
    let there : a + start_of (s ∷ rest) (suc j) ≡ a + length s + start_of rest j = omega (arith, behind) in
    ap (λ (n : ℕ). is_apart (segment_at rest j) (slot_of number n)) there
    ∙ segment_apart number (a + length s) rest j (omega (arith, l)) (and_parts (is_apart s (slot_of number a)) (segments_apart (slot_of number (a + length s)) rest) h).1

-- what templates say of a whole ring. Segment 0 leaves the own descriptor alone, and the last one the last ENABLE
pub record AllLeave (segments : List (List Draft)) (number : ℕ) : Type 0 where
  pub may : MayGoRound segments number
  pub apart : segments_apart (slot_of number 0) segments ≡ true
  pub flat : list_all has_flat_local (drafts_of segments) ≡ true
  pub events : list_all one_event segments ≡ true
  pub scratch : list_all (both_sides leaves_scratch) (drafts_of segments) ≡ true
  pub descriptor : list_all (both_sides (leaves_descriptor number)) (segment_at segments 0) ≡ true
  pub last : (j : ℕ) → suc j ≡ length segments → list_all (both_sides (spares (slot_of number (start_of segments j)) (length (segment_at segments j) + 1))) (segment_at segments j) ≡ true

pub leaves_all : (segments : List (List Draft)) (number j : ℕ) → AllLeave segments number → j < length segments → LeavesLaps segments number j
leaves_all segments number j all l =
    record {
      names = segment_each _ segments j l all.may.names;
      apart = ap (λ (n : ℕ). is_apart (segment_at segments j) (slot_of number n)) from_zero ∙ segment_apart number 0 segments j l all.apart;
      flat = segment_all has_flat_local segments j all.flat;
      events = segment_each one_event segments j l all.events;
      scratch = segment_all (both_sides leaves_scratch) segments j all.scratch;
      descriptor = λ e. ap (λ (n : ℕ). list_all (both_sides (leaves_descriptor number)) (segment_at segments n)) e ∙ all.descriptor;
      last = all.last j;
    }
  where
    from_zero : start_of segments j ≡ 0 + start_of segments j
    from_zero = omega arith
