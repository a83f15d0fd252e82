use Rattle.std.proofs.Common.{rules, ◌≡◌, ℕ, ◌≤◌, List, length, sym, ap, ◌∙◌, subst}
use Rattle.redn_segment.specs.declared.types.Draft.{Draft}
use Rattle.redn_recycle.specs.Places.{Whole}
use Rattle.redn_recycle.specs.Lapped.{segment_of_slot}
use Rattle.std.proofs.Common.{leb, true, false}
use Rattle.std.specs.List.Sorted.{IsPartitionedBy, IsPartitionPoint}
use Rattle.std.proofs.lemmas.List.Sorted.{IsPartitionPoint-from_clause, IsPartitionedBy-leb}
use Rattle.redn_recycle.proofs.Starts.{ends_rise, segment_by}
use Rattle.redn_recycle.proofs.places.Places.segment_of_slot.Goals as goal

pub returns : goal.returns
returns c =
    let inside = c.self.invariant in
    let same : c.self.inside.segments.items ≡ c.args.self.now.segments = ap (λ (w : Whole). w.segments) c.self.view_is in
    let count : length c.self.inside.segments.items ≡ length c.args.self.now.segments = ap length same in
    let ends : List ℕ = c.self.inside.ends.items in
    let there : c.deref.result.now ≡ ends = c.deref.ensures.value in
    let parted = IsPartitionedBy-leb (λ (x : ℕ). x) ends c.args.slot (ends_rise c.self.inside.segments.items c.self.inside.ends.items c.self.inside.firsts.items inside.ends_are) in
    let point = IsPartitionPoint-from_clause (λ (x : ℕ). leb x c.args.slot) _ _ c.partition_point.ensures.partitioned (subst (λ (l : List ℕ). IsPartitionedBy (λ (x : ℕ). leb x c.args.slot) l) (sym there) parted) (λ a r q k. search rules) in
    let split = subst (λ (l : List ℕ). IsPartitionPoint (λ (y : ℕ). leb y c.args.slot ≡ true) (λ (y : ℕ). leb y c.args.slot ≡ false) l c.partition_point.result) there point in
    let bound : c.partition_point.result ≤ length ends = subst (λ (l : List ℕ). c.partition_point.result ≤ length l) there c.partition_point.ensures.bound in
    sym (segment_by c.self.inside.segments.items ends inside.ends_are c.args.slot c.partition_point.result bound split.0 split.1) ∙ ap (λ (l : List (List Draft)). segment_of_slot l c.args.slot) same
