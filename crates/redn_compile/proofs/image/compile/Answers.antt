-- The image is placed, and made of graphs that follow the chains.
use Rattle.std.proofs.Common.{◌≤◌, length, sym, subst}
use Rattle.std.proofs.lemmas.Result.{IfOk-weaker}
use Rattle.redn_image.specs.Rules.{Image}
use Rattle.redn_image.specs.Spelling.{spelling}
use Rattle.redn_emit.specs.Placed.{IsPlaced}
use Rattle.redn_emit.specs.Graphs.{AreGraphs}
use Rattle.redn_proof_layout.specs.PlacedLaws.{AreSound}
use Rattle.redn_compile.proofs.Small.{placed_small}
use Rattle.redn_compile.proofs.image.compile.Goals as goal

pub returns-clause-small : goal.returns-clause-small
returns-clause-small c =
    let graphs : AreGraphs c.args.p.now c.deref.result.now = subst (AreGraphs c.args.p.now) (sym c.deref.ensures.value) c.in_ok-graphs.ensures.graphs in
    let are : AreSound c.args.p.now c.deref.result.now = record { sound = c.requires; each = graphs; words = c.emit.ensures.words } in
    IfOk-weaker c.emit.result (λ (i : Image). IsPlaced c.args.p.now c.deref.result.now i) (λ (i : Image). length (spelling i) ≤ 33554432) (placed_small c.args.p.now c.deref.result.now are) c.emit.ensures.placed
