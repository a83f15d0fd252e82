use Rattle.redn_proof_landing.proofs.Segments.{segment_orderly}
use Rattle.redn_proof_landing.proofs.Showing.{window_shows}
use Rattle.redn_proof_landing.proofs.laws.placed_segments_open.Goals as goal

pub returns-clause-orderly : goal.returns-clause-orderly
returns-clause-orderly c =
    λ home mine regions ring row ours g lap counter m o.
    segment_orderly home mine regions ring row ours o.lie g lap counter m o.apart o.through o.spaces o.room o.ours_are o.numbered o.last o.gates o.ends

pub returns-clause-shows : goal.returns-clause-shows
returns-clause-shows c =
    λ home mine w n event last each are apart fine p its private. window_shows home mine w n event last each are apart fine p its private
