use Rattle.std.proofs.Common.{◌≡◌, ℕ, ◌++◌, [], List, map, length, ◌<◌, ap, ◌∙◌, arith}
use Rattle.redn_segment.specs.declared.types.Draft.{Draft}
use Rattle.redn_segment.specs.Renaming.{renamed}
use Rattle.redn_recycle.specs.Places.{Whole}
use Rattle.redn_recycle.specs.Laps.{Ring, lap_requests}
use Rattle.redn_recycle.specs.Lapped.{ring_of, gate_drafts, segment_at, ref_in_laps}
use Rattle.redn_recycle.proofs.Starts.{item_is}
use Rattle.redn_recycle.proofs.places.Places.segment.Goals as goal

pub returns : goal.returns
returns c =
    λ domain base. let number : ℕ = c.args.self.now.ring in
    let segments : List (List Draft) = c.args.self.now.segments in
    let r : Ring = ring_of segments number domain base in
    let same : c.self.inside.segments.items ≡ segments = ap (λ (w : Whole). w.segments) c.self.view_is in
    let inside : c.args.j < length c.self.inside.segments.items = omega (arith, c.requires, ap length same) in
    let its : c.deref.result.now ≡ segment_at segments c.args.j = c.deref.ensures.value ∙ c.behind-self.view_is ∙ c.index.ensures ∙ item_is c.self.inside.segments.items c.args.j c.index.result.now [] inside ∙ ap (λ (l : List (List Draft)). segment_at l c.args.j) same in
    let own : c.in_ok-drafts.drafts.items ≡ map (renamed (ref_in_laps segments number)) (segment_at segments c.args.j) = c.in_ok-drafts.ensures ∙ ap (map (renamed (ref_in_laps segments number))) its in
    c.in_ok-push_gates.ensures domain base ∙ ap (λ (l : List Draft). l ++ gate_drafts number r c.args.j) (c.in_ok-push_lap_requests.ensures domain base ∙ ap (λ (l : List Draft). l ++ lap_requests number r c.args.j) own)
