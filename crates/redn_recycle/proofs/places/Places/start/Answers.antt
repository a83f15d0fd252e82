use Rattle.std.proofs.Common.{rules, ◌≡◌, suc, ◌-◌, ◌<◌, List, length, ap, ◌∙◌, arith}
use Rattle.redn_segment.specs.declared.types.Draft.{Draft}
use Rattle.redn_recycle.specs.Places.{Whole}
use Rattle.redn_recycle.specs.Lapped.{start_of}
use Rattle.redn_recycle.proofs.Starts.{length-ends, end_at}
use Rattle.redn_recycle.proofs.places.Places.start.Goals as goal

pub index-requires : goal.index-requires
index-requires c =
    let inside = c.self.invariant in
    let same : c.self.inside.segments.items ≡ c.args.self.now.segments = ap (λ (w : Whole). w.segments) c.self.view_is in
    let count : length c.self.inside.segments.items ≡ length c.args.self.now.segments = ap length same in
    let long : length c.self.inside.ends.items ≡ length c.self.inside.segments.items = length-ends c.self.inside.segments.items c.self.inside.ends.items c.self.inside.firsts.items inside.ends_are in
    let low : c.args.j - 1 < length c.self.inside.ends.items = omega (arith, long, count, c.requires, c.if-j-eq0.false) in
    search (rules, low)

pub returns-else-j-eq0 : goal.returns-else-j-eq0
returns-else-j-eq0 c =
    let inside = c.self.invariant in
    let same : c.self.inside.segments.items ≡ c.args.self.now.segments = ap (λ (w : Whole). w.segments) c.self.view_is in
    let count : length c.self.inside.segments.items ≡ length c.args.self.now.segments = ap length same in
    let there : c.args.j - 1 < length c.self.inside.segments.items = omega (arith, count, c.requires, c.if-j-eq0.false) in
    let next : suc (c.args.j - 1) ≡ c.args.j = omega (arith, c.if-j-eq0.false) in
    c.index.ensures ∙ end_at c.self.inside.segments.items c.self.inside.ends.items c.self.inside.firsts.items inside.ends_are (c.args.j - 1) c.index.result.now there ∙ ap (λ (l : List (List Draft)). start_of l (suc (c.args.j - 1))) same ∙ ap (start_of c.args.self.now.segments) next
