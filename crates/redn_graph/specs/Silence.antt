-- That blocks and a chain differ in steps that show nothing alone.
use Rattle.std.specs.Prelude.{◌≡◌, ℕ, List, [], ◌∷◌}
use Rattle.redn_kernel.specs.declared.types.ChainInit.{ChainInit}
use Rattle.redn_kernel.specs.Feeds.{Feed, Seen, seen_then, chain_after, chain_seen}
use Rattle.redn_graph.specs.declared.types.Graph.{Graph}
use Rattle.redn_graph.specs.Run.{Mail, GraphState, graph_step, graph_start}
use Rattle.redn_graph.specs.Follows.{chain_first}
use Rattle.redn_graph.specs.Along.{state_along}

abbrev pub graph_seen : ℕ → Mail → Graph → Feed → GraphState → List Seen
graph_seen c mail g [] x = []
graph_seen c mail g (tables ∷ feed) x = seen_then tables (graph_step c mail tables x g).event (graph_seen c mail g feed (graph_step c mail tables x g).state)

-- for each feed of the blocks there is one of the chain under which the same is seen, and variables are equal
abbrev pub ChainMatches : ChainInit → Graph → Type 0
ChainMatches chain g =
    (c : ℕ) (mail : Mail) (feed : Feed) → (other : Feed)
    × (chain_seen c other (chain_first chain g mail) ≡ graph_seen c mail g feed (graph_start g chain.vars))
    × ((chain_after c other (chain_first chain g mail)).vars ≡ (state_along c mail g feed (graph_start g chain.vars)).cells.vars)

-- and the other way round
abbrev pub BlocksMatch : ChainInit → Graph → Type 0
BlocksMatch chain g =
    (c : ℕ) (mail : Mail) (feed : Feed) → (other : Feed)
    × (graph_seen c mail g other (graph_start g chain.vars) ≡ chain_seen c feed (chain_first chain g mail))
    × ((state_along c mail g other (graph_start g chain.vars)).cells.vars ≡ (chain_after c feed (chain_first chain g mail)).vars)

abbrev pub EqualUpToSilence : ChainInit → Graph → Type 0
EqualUpToSilence chain g = ChainMatches chain g × BlocksMatch chain g
