use Rattle.redn_words.specs.States.{start}
use Rattle.redn_words.proofs.InOrder.{start_in_order, reached_in_order}
use Rattle.redn_words.proofs.Inside.{reached_inside}
use Rattle.redn_words.proofs.laws.reached_states_are_in_order.Goals as goal

pub returns-clause-queues : goal.returns-clause-queues
returns-clause-queues c = λ regions rows receives memory messages acts p.
    reached_in_order acts (start regions rows receives memory messages) (start_in_order regions rows receives memory messages) p

pub returns-clause-memory : goal.returns-clause-memory
returns-clause-memory c = λ s acts inside p. (reached_inside acts s inside p).size
