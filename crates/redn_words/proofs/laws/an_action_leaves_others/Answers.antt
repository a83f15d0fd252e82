use Rattle.redn_words.proofs.Others.{regions_stay, receives_stay, rows_stay, others_stay, rises}
use Rattle.redn_words.proofs.Domains.{domains_stay, byte_outside}
use Rattle.redn_words.proofs.laws.an_action_leaves_others.Goals as goal

pub returns-clause-rows : goal.returns-clause-rows
returns-clause-rows c = λ s a. record { regions = regions_stay s a; receives = receives_stay s a; queues = rows_stay s a }

pub returns-clause-queues : goal.returns-clause-queues
returns-clause-queues c = others_stay

pub returns-clause-rises : goal.returns-clause-rises
returns-clause-rises c = rises

pub returns-clause-domains : goal.returns-clause-domains
returns-clause-domains c = domains_stay

pub returns-clause-bytes : goal.returns-clause-bytes
returns-clause-bytes c = λ s a q p mine its there ends outside. byte_outside s q mine there ends a p its outside
