-- A draft of a segment, among all of its ring.
use Rattle.std.proofs.Common.{◌≡◌, ℕ, zero, suc, ◌+◌, List, [], ◌∷◌, ◌++◌, length, map, Some, refl, ap, ◌∙◌, arith}
use Rattle.std.specs.Prelude.{slice_get}
use Rattle.redn_segment.specs.declared.types.Draft.{Draft}
use Rattle.redn_segment.specs.Building.{drafts_of}
use Rattle.redn_recycle.specs.Lapped.{segment_at, start_of}
use Rattle.redn_proof_ring.proofs.LapNext.{slice_get_behind}
use Rattle.redn_proof_ring.proofs.Promised.{front as slice_get_front}
use Rattle.redn_recycle.proofs.Starts.{start_behind}

pub draft_at : (segments : List (List Draft)) (j k : ℕ) (d : Draft) → slice_get (segment_at segments j) k ≡ Some d → slice_get (drafts_of segments) (start_of segments j + k) ≡ Some d
draft_at [] j k d e = absurd (cc)
draft_at (s ∷ rest) zero k d e =
    let here : start_of (s ∷ rest) 0 + k ≡ k = omega arith in
    ap (slice_get (s ++ drafts_of rest)) here ∙ slice_get_front s (drafts_of rest) k d e
draft_at (s ∷ rest) (suc j) k d e =
    let behind = start_behind s rest j in
    let there : start_of (s ∷ rest) (suc j) + k ≡ length s + (start_of rest j + k) = omega (arith, behind) in
    ap (slice_get (s ++ drafts_of rest)) there ∙ (slice_get_behind s (drafts_of rest) (start_of rest j + k) ∙ draft_at rest j k d e)

-- the element of a list that a map gives
pub mapped_at : {X : Type 0} (f : X → X) (xs : List X) (k : ℕ) (d : X) → slice_get (map f xs) k ≡ Some d → (x : X) × (slice_get xs k ≡ Some x) × (d ≡ f x)
mapped_at f [] k d e = absurd (cc)
mapped_at f (x ∷ xs) zero d e = (x, refl, cc)
mapped_at f (x ∷ xs) (suc k) d e = mapped_at f xs k d e
