-- What the windows of a part cost is what the graph's step costs there.
use Rattle.std.proofs.Common.{◌≡◌, ℕ, suc, ◌<◌, ◌≤◌, false, List, length, refl, ap, ◌∙◌, subst, arith}
use Rattle.std.specs.Prelude.{slice_get, Some, None, Option, if◌then◌else◌}
use Rattle.redn_graph.specs.declared.types.Instr.{Instr}
use Rattle.redn_graph.specs.declared.types.End.{End}
use Rattle.redn_graph.specs.declared.types.Block.{Block}
use Rattle.redn_graph.specs.declared.types.Graph.{Graph}
use Rattle.redn_graph.specs.Run.{GraphState, step_cost, end_cost, block_cost, instr_or_end_cost}
use Rattle.redn_segment.specs.declared.types.Draft.{Draft}
use Rattle.redn_block.specs.Blocks.{block_segments, parts_of, ring_start}
use Rattle.redn_block.specs.Matches.{IsAt}
use Rattle.redn_recycle.specs.Lapped.{ring_of}
use Rattle.redn_proof_block.specs.Shares.{block_parts, counts_of, place_in, left_in}
use Rattle.redn_proof_chain.specs.Openings.{openings_cost}
use Rattle.redn_proof_chain.specs.FormLaws.{PartsPay}
use Rattle.redn_proof_chain.proofs.Sharing.{flat, Cut, cut}
use Rattle.redn_proof_chain.proofs.Paying.{actions, MaySend, part_le}
use Rattle.redn_proof_chain.proofs.Parting.{flat_is, parts_send, cost_at, part_actions}

by_place : (x : GraphState) (e : End) → x.taking ≡ false → (i : Option Instr) → instr_or_end_cost x i e ≡ cost_at i e
by_place x e t (Some i) = refl
by_place x e t None = ap (λ (b : _). end_cost b e) t

pub cost_is : (g : Graph) (x : GraphState) (block place : ℕ) (b : Block) → slice_get g.blocks block ≡ Some b → IsAt block place x → step_cost g x ≡ cost_at (slice_get b.instrs place) b.end
unfolding step_cost
cost_is g x block place b there at =
    ap (λ (e : _). if e then 0 else block_cost x (slice_get g.blocks x.block)) at.runs_on
    ∙ ap (λ (k : ℕ). block_cost x (slice_get g.blocks k)) at.block_is
    ∙ ap (block_cost x) there
    ∙ by_place x b.end at.taking_not (slice_get b.instrs x.place)
    ∙ ap (λ (k : ℕ). cost_at (slice_get b.instrs k) b.end) at.place_is

pub parts_pay : PartsPay
parts_pay g most first ring domain base block b there fits j l begins x at =
    let e : block_segments first ring b ≡ flat (block_parts first ring b) = flat_is (ring_start ring) (parts_of first b) in
    let c : Cut (block_parts first ring b) j = cut (block_parts first ring b) j (subst (λ (s : List (List Draft)). j < length s) e l) begins in
    let sending : MaySend (block_segments first ring b) = parts_send first (ring_start ring) b.instrs b.end in
    let le : openings_cost ring (ring_of (block_segments first ring b) ring domain base) j (suc (left_in (counts_of first ring b) j)) ≤ actions c.part = part_le (block_segments first ring b) ring domain base sending c.before c.part c.behind j (left_in (counts_of first ring b) j) (e ∙ c.whole) c.size c.left in
    let part : actions c.part ≤ cost_at (slice_get b.instrs (place_in (counts_of first ring b) j)) b.end = part_actions most first (ring_start ring) b.instrs b.end fits (place_in (counts_of first ring b) j) c.part c.there in
    let cost = cost_is g x block (place_in (counts_of first ring b) j) b there at in
    omega (arith, le, part, cost)
