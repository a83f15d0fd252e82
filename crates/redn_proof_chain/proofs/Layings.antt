-- A chain's graph in rings is formed as is asked.
use Rattle.redn_proof_ring.proofs.Laying.{laid}
use Rattle.redn_proof_block.specs.Parts.{IsRound}
use Rattle.redn_proof_block.specs.Laying.{round_at}
use Rattle.redn_proof_block.proofs.Allowing.{courses_allow, courses_turn}
use Rattle.redn_proof_block.proofs.Rounds as rounds
use Rattle.redn_proof_chain.specs.FormLaws.{LayingsForm}

pub layings_form : LayingsForm
layings_form l h =
    record {
      laid = laid l.layout h.laid;
      number = h.number;
      blocks = λ r its. let round : IsRound _ (round_at l r) = rounds.rounds l h r its in record { there = round.there; segments_are = h.segments_are r its; most = _; fits = round.targets.end };
      allows = courses_allow l h;
      tells_well = λ r j u y events z its small tells. record { starts = tells.starts; steps = tells.steps; seen = tells.seen };
      fails_well = λ r j u y events its small fails. record { starts = fails.starts; falls = fails.falls; seen = fails.seen };
      turned = λ r j k d op its small own takes. courses_turn l h r j k d op its small own takes;
    }
