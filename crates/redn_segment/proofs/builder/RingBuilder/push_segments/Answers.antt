use Rattle.std.proofs.Common.{◌++◌, List, sym, ap, ◌∙◌}
use Rattle.redn_segment.specs.declared.types.Draft.{Draft}
use Rattle.redn_segment.specs.Building.{Building}
use Rattle.redn_segment.specs.Effects.{first_slot}
use Rattle.redn_segment.specs.Footprints.{is_apart, segments_apart}
use Rattle.redn_segment.proofs.Growing.{next_apart}
use Rattle.redn_segment.proofs.builder.RingBuilder.push_segments.Goals as goal

pub push_segment-requires-clause-apart : goal.push_segment-requires-clause-apart
push_segment-requires-clause-apart c =
    ap (λ (b : Building). is_apart c.in-Some.s (first_slot b)) c.loop-s.invariant.0 ∙ next_apart c.args.self.now c.loop-s.yielded c.in-Some.s c.next.new.self.rest.items (ap (segments_apart (first_slot c.args.self.now)) (ap (λ (l : List (List Draft)). c.loop-s.yielded ++ l) (sym c.in-Some.ensures.steps.0) ∙ c.loop-s.invariant.1) ∙ c.requires.apart)
