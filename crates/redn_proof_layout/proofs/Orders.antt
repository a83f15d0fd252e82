-- The image of graphs does what the graphs do, and each segment of its rings runs in any order.
use Rattle.std.proofs.Common.{refl}
use Rattle.redn_words.specs.Steps.{after}
use Rattle.redn_proof_window.specs.Scripts.{IsScript}
use Rattle.redn_proof_window.proofs.Chains.{chain_moves, chain_stays, chain_goes_on}
use Rattle.redn_proof_window.proofs.ChainSides.{other_domain_same, entry_opens}
use Rattle.redn_proof_block.proofs.Allowing.{courses_are_script}
use Rattle.redn_proof_interleave.proofs.GraphOrders.{faithful_to_graphs}
use Rattle.redn_proof_chain.specs.Sides.{graphed_of}
use Rattle.redn_proof_chain.proofs.Siding.{ring_side}
use Rattle.redn_proof_layout.specs.Chains.{AllHaveEntries, graph_at, init_at, laying, plan_at, together}
use Rattle.redn_proof_layout.specs.ImageLaws.{EmittedAreFaithfulToGraphs}
use Rattle.redn_proof_layout.specs.Segments.{SegmentsInAnyOrder, segments_of}
use Rattle.redn_proof_layout.proofs.Fits.{fits}
use Rattle.redn_proof_layout.proofs.Its.{its, all_have_entries}
use Rattle.redn_proof_layout.proofs.Rings.{is_laying}
use Rattle.redn_proof_layout.proofs.Sides.{stand_together}

pub emitted_follow_graphs : EmittedAreFaithfulToGraphs
emitted_follow_graphs p graphs i are numbers is =
    let entries : AllHaveEntries p graphs = all_have_entries p graphs are in
    faithful_to_graphs p i graphs (λ messages. graphed_of (together p graphs i entries messages)) are.each.count (fits p graphs are i is) (λ messages sent. ring_side p i graphs messages (together p graphs i entries messages) (stand_together p graphs are numbers i is entries messages sent))

pub segments_in_any_order : SegmentsInAnyOrder
segments_in_any_order p graphs are c low mail =
    let kept : IsScript (segments_of p graphs c mail) = courses_are_script (laying p graphs (plan_at p graphs c) (init_at p graphs c) (graph_at p graphs c) mail)
    (is_laying p graphs are c (plan_at p graphs c) (init_at p graphs c) (graph_at p graphs c) (its p graphs are c low) mail) in
    let script = segments_of p graphs c mail in
    record {
      kept = kept;
      no_first_gate = λ x m. refl;
      moves = chain_moves script kept;
      stays = λ s r z h same. chain_stays script kept s z h r same;
      left = λ s z h a q v at there other spared. chain_stays script kept s z h (after s a) (other_domain_same script kept s z h a q v at there other spared);
      begins = λ s x ready counts rests regions a queues limit same is at. entry_opens script kept s x ready counts rests a queues limit regions same is at;
      goes_on = chain_goes_on script kept;
    }
