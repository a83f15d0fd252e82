use Rattle.std.proofs.Common.{rules, ◌≡◌, ◌+◌, ◌<◌, ◌≤◌, List, length, ap, ◌∙◌, arith}
use Rattle.redn_segment.specs.declared.types.Draft.{Draft}
use Rattle.redn_recycle.specs.Places.{Whole}
use Rattle.redn_recycle.specs.Lapped.{first_of}
use Rattle.redn_recycle.proofs.Starts.{length-firsts, first_at}
use Rattle.redn_recycle.proofs.places.Places.first.Goals as goal

pub index-requires : goal.index-requires
index-requires c =
    let inside = c.self.invariant in
    let same : c.self.inside.segments.items ≡ c.args.self.now.segments = ap (λ (w : Whole). w.segments) c.self.view_is in
    let count : length c.self.inside.segments.items ≡ length c.args.self.now.segments = ap length same in
    let long : length c.self.inside.firsts.items ≡ length c.self.inside.segments.items + 1 = length-firsts c.self.inside.segments.items c.self.inside.ends.items c.self.inside.firsts.items inside.ends_are inside.firsts_are in
    let low : c.args.j < length c.self.inside.firsts.items = omega (arith, long, count, c.requires) in
    search (rules, low)

pub returns : goal.returns
returns c =
    let inside = c.self.invariant in
    let same : c.self.inside.segments.items ≡ c.args.self.now.segments = ap (λ (w : Whole). w.segments) c.self.view_is in
    let count : length c.self.inside.segments.items ≡ length c.args.self.now.segments = ap length same in
    let there : c.args.j ≤ length c.self.inside.segments.items = omega (arith, count, c.requires) in
    c.index.ensures ∙ first_at c.self.inside.segments.items c.self.inside.ends.items c.self.inside.firsts.items inside.ends_are inside.firsts_are c.args.j c.index.result.now there ∙ ap (λ (l : List (List Draft)). first_of l c.args.j) same
