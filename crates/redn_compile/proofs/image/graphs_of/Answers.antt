use Rattle.std.proofs.Common.{◌≡◌, ℕ, ◌+◌, List, length, sym, subst, arith}
use Rattle.redn_graph.specs.declared.types.Graph.{Graph}
use Rattle.redn_compile.proofs.Graphs.{AreMade, none_made, one_more, are_graphs, all_follow}
use Rattle.redn_compile.proofs.image.graphs_of.Goals as goal

pub loop-chain-init : goal.loop-chain-init
loop-chain-init c = subst (λ (gs : List Graph). AreMade c.args.p.now 0 gs) (sym c.new-graphs.ensures.items) (none_made c.args.p.now)

pub loop-chain-preserved : goal.loop-chain-preserved
loop-chain-preserved c =
    let made = c.in_ok-graph.ensures in
    subst (λ (gs : List Graph). AreMade c.args.p.now (c.loop-chain.chain + 1) gs) (sym {A = List Graph} c.in_ok-push.ensures.items) (one_more c.args.p.now c.loop-chain.chain c.loop-chain.graphs.items c.in_ok-graph.field-0 c.loop-chain.invariant (λ d x. record { fits = record { fits = made.fits d x; slots = made.slots d x; small = made.small }; follows = made.follows d x }))

pub returns-clause-graphs : goal.returns-clause-graphs
returns-clause-graphs c =
    let all : c.loop-chain.chain ≡ length c.args.p.now.chains = omega arith in
    are_graphs c.args.p.now c.loop-chain.graphs.items (subst (λ (n : ℕ). AreMade c.args.p.now n c.loop-chain.graphs.items) all c.loop-chain.invariant)

pub returns-clause-follow : goal.returns-clause-follow
returns-clause-follow c =
    let all : c.loop-chain.chain ≡ length c.args.p.now.chains = omega arith in
    all_follow c.args.p.now c.loop-chain.graphs.items (subst (λ (n : ℕ). AreMade c.args.p.now n c.loop-chain.graphs.items) all c.loop-chain.invariant)
