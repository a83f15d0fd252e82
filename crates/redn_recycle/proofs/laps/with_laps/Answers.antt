use Rattle.std.proofs.Common.{◌≡◌, ℕ, ◌++◌, [], ◌∷◌, List, map, length, sym, ap, ◌∙◌, arith}
use Rattle.std.specs.List.{range_with_len}
use Rattle.std.proofs.lemmas.List.FromFn.{map-range_with_len_more}
use Rattle.redn_segment.specs.declared.types.Draft.{Draft}
use Rattle.redn_recycle.specs.Places.{Whole}
use Rattle.redn_recycle.specs.Lapped.{ring_of, lapped_segment}
use Rattle.redn_recycle.proofs.laps.with_laps.Goals as goal

pub loop-j-preserved : goal.loop-j-preserved
loop-j-preserved c =
    λ domain base. let f : ℕ → List Draft = lapped_segment c.args.r.ring (ring_of c.args.r.segments.items c.args.r.ring domain base) in
    let its : c.in_ok-segment.field-0 ≡ f c.loop-j.j = c.in_ok-segment.ensures domain base ∙ ap (λ (w : Whole). lapped_segment w.ring (ring_of w.segments w.ring domain base) c.loop-j.j) c.in_ok-places.ensures in
    c.in_ok-push.ensures.items ∙ ap (λ (l : List (List Draft)). l ++ c.in_ok-segment.field-0 ∷ []) (c.loop-j.invariant domain base) ∙ ap (λ (s : List Draft). map f (range_with_len 0 c.loop-j.j) ++ s ∷ []) its ∙ sym (map-range_with_len_more f 0 c.loop-j.j c.loop-j.j (omega arith))

pub returns-clause-segments : goal.returns-clause-segments
returns-clause-segments c =
    λ domain base. let f : ℕ → List Draft = lapped_segment c.args.r.ring (ring_of c.args.r.segments.items c.args.r.ring domain base) in
    let all : c.loop-j.j ≡ length c.args.r.segments.items =
    (let count : c.count-j-end.result ≡ length c.args.r.segments.items = c.count-j-end.ensures ∙ ap (λ (w : Whole). length w.segments) c.in_ok-places.ensures in
    let past = c.loop-j-test.false in
    let end = c.loop-j.auto.j-end in
    omega (arith, count, past, end)) in
    c.loop-j.invariant domain base ∙ ap (λ (n : ℕ). map f (range_with_len 0 n)) all
