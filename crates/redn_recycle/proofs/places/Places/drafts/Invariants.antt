use Rattle.std.proofs.Common.{◌≡◌, take, map}
use Rattle.redn_segment.specs.Renaming.{renamed}
use Rattle.redn_recycle.specs.Lapped.{ref_in_laps}
use Rattle.redn_recycle.proofs.places.Places.drafts.Given as goal

abbrev pub invariant-loop-d : goal.invariant-loop-d
invariant-loop-d l = l.made.items ≡ map (renamed (ref_in_laps l.self.segments l.self.ring)) (take l.d-index l.drafts)
