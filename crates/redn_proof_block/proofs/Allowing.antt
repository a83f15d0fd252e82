-- The rings of a chain's graph allow what is asked of rings with laps.
use Rattle.redn_proof_ring.proofs.LapScript.{laps_are_script}
use Rattle.redn_proof_ring.specs.Runs.{meaning}
use Rattle.redn_proof_ring.proofs.Promised.{promised}
use Rattle.redn_proof_block.specs.Stages.{Ghost}
use Rattle.redn_proof_block.specs.Laying.{plan, Takes, Tells, Fails, Entry}
use Rattle.redn_proof_block.specs.CourseLaws.{CoursesAllow, CoursesTurn, CoursesAreScript}
use Rattle.redn_proof_block.proofs.Taking.{laid, follows_body, granted_own, keeps_own, unseen_own, turned_own}
use Rattle.redn_proof_block.proofs.Entering.{entered}

pub courses_allow : CoursesAllow
courses_allow l is =
    record {
      follows = λ r j k d op its inside body takes. follows_body l is r its j k d op inside body takes;
      granted = λ r j k d op its inside own takes. granted_own l is r its j k d op inside own takes;
      keeps = λ r j k d op v its inside own takes e. keeps_own l is r its j k d op inside own takes v e;
      unseen = λ r j k d op its inside own takes other. unseen_own l is r its j k d op inside own takes other;
      enters = λ v y s its e. entered l is v y s its e;
    }

pub courses_turn : CoursesTurn
courses_turn l is r j k d op its inside own takes = turned_own l is r its j k d op inside own takes

pub courses_are_script : CoursesAreScript
courses_are_script l is =
    laps_are_script (plan l) (laid l is) (meaning (plan l) (Takes l) Ghost (Tells l) (Fails l) (Entry l)) (promised (plan l) (Takes l) Ghost (Tells l) (Fails l) (Entry l) (laid l is) (courses_allow l is))
