use Rattle.redn_words.proofs.Actions.{fetches, starts, lands, completes, can_fetch, can_start, can_land, can_complete}
use Rattle.redn_words.proofs.Deliveries.{delivers, can_deliver}
use Rattle.redn_words.proofs.laws.actions_are_possible_exactly_where.Goals as goal

pub returns-clause-deliver : goal.returns-clause-deliver
returns-clause-deliver c = λ s n. (delivers s n, can_deliver s n)

pub returns-clause-fetch : goal.returns-clause-fetch
returns-clause-fetch c = λ s q i queue there. (fetches s q queue there i, can_fetch s q queue there i)

pub returns-clause-start : goal.returns-clause-start
returns-clause-start c = λ s q queue there. (starts s q queue there, can_start s q queue there)

pub returns-clause-land : goal.returns-clause-land
returns-clause-land c = λ s q i queue there. (lands s q queue there i, can_land s q queue there i)

pub returns-clause-complete : goal.returns-clause-complete
returns-clause-complete c = λ s q queue there. (completes s q queue there, can_complete s q queue there)
