use Rattle.std.proofs.Common.{◌≡◌, take}
use Rattle.std.specs.List.{flat_map}
use Rattle.redn_segment.specs.declared.types.Draft.{Draft}
use Rattle.redn_emit.specs.Layout.{each_once, number_read}
use Rattle.redn_emit.proofs.constants.add_drafts.Given as goal

abbrev pub invariant-loop-d : goal.invariant-loop-d
invariant-loop-d l = l.seen.keys ≡ each_once l.initial.seen.keys (flat_map (λ (d : Draft). number_read d.local) (take l.d-index l.drafts))
