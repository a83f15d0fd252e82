use Rattle.redn_words.specs.Steps.{after}
use Rattle.redn_proof_window.proofs.Chains.{chain_moves, chain_stays, chain_follows, chain_goes_on}
use Rattle.redn_proof_window.proofs.ChainSides.{other_domain_same, entry_opens}
use Rattle.redn_proof_window.proofs.laws.a_chain_in_any_order.Goals as goal

pub returns-clause-moves : goal.returns-clause-moves
returns-clause-moves g c = chain_moves g.S.Scripted.script g.S.Scripted.kept

pub returns-clause-stays : goal.returns-clause-stays
returns-clause-stays g c = λ s r z h same. chain_stays g.S.Scripted.script g.S.Scripted.kept s z h r same

pub returns-clause-left : goal.returns-clause-left
returns-clause-left g c = λ s z h a q v its there other spared.
    chain_stays g.S.Scripted.script g.S.Scripted.kept s z h (after s a) (other_domain_same g.S.Scripted.script g.S.Scripted.kept s z h a q v its there other spared)

pub returns-clause-begins : goal.returns-clause-begins
returns-clause-begins g c = λ s x ready counts rests regions a queues limit same is at. entry_opens g.S.Scripted.script g.S.Scripted.kept s x ready counts rests a queues limit regions same is at

pub returns-clause-follows : goal.returns-clause-follows
returns-clause-follows g c = λ s z h few sound is all. chain_follows g.S.Scripted.script g.S.Scripted.kept s z h few sound is all

pub returns-clause-goes_on : goal.returns-clause-goes_on
returns-clause-goes_on g c = chain_goes_on g.S.Scripted.script g.S.Scripted.kept
