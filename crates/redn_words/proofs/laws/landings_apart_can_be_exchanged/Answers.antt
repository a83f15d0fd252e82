use Rattle.redn_words.proofs.Footprints.{landing_same}
use Rattle.redn_words.proofs.Exchanges.{range_stays, all_stand, first_same, second_same, writes_commute}
use Rattle.redn_words.proofs.laws.landings_apart_can_be_exchanged.Goals as goal

pub returns-clause-leaves : goal.returns-clause-leaves
returns-clause-leaves c = range_stays

pub returns-clause-stand : goal.returns-clause-stand
returns-clause-stand c = all_stand

pub returns-clause-reads : goal.returns-clause-reads
returns-clause-reads c = λ regions o r memory other same. landing_same regions o r memory other same

pub returns-clause-apart : goal.returns-clause-apart
returns-clause-apart c = λ regions memory o p r t ends apart.
    record { second = second_same regions memory ends o p r t apart; first = first_same regions memory ends o p r t apart; memory_same = writes_commute regions memory ends o p r t apart }
