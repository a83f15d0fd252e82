-- What the chains of a sound program are like at their places, and how much room they take together.
use Rattle.std.proofs.Common.{◌≡◌, ℕ, suc, ◌+◌, ◌*◌, ◌%◌, ◌^◌, ◌<◌, ◌≤◌, List, [], ◌∷◌, length, Some, refl, arith}
use Rattle.std.specs.Prelude.{sum_by, slice_get}
use Rattle.std.specs.List.{All, AllByRecursion}
use Rattle.std.proofs.lemmas.List.Elements.{All-head, All-tail}
use Rattle.std.proofs.lemmas.List.Sums.{sum_by-cons}
use Rattle.redn_kernel.specs.declared.types.TableInit.{TableInit}
use Rattle.redn_kernel.specs.declared.types.ChainInit.{ChainInit}
use Rattle.redn_kernel.specs.Program.{IsSoundChain, chain_weight}
use Rattle.redn_graph.specs.declared.types.Block.{Block}
use Rattle.redn_graph.specs.declared.types.Graph.{Graph}
use Rattle.redn_graph.specs.Slots.{AreSmall, block_slots}
use Rattle.redn_block.specs.Blocks.{BlockFits, block_segments}
use Rattle.redn_recycle.proofs.Starts.{some_slots}
use Rattle.redn_emit.specs.Layout.{ChainPlan, rings_from, code_slots, data_len}
use Rattle.redn_emit.specs.Placed.{ChainRings, chain_rings, chains_from, plan_at, plans_from}
use Rattle.redn_emit.specs.Graphs.{IsGraphOf}
use Rattle.redn_emit.specs.Kept.{CanAllBePlaced}
use Rattle.redn_emit.proofs.Laps.{may_go, slots_counted}
use Rattle.redn_emit.proofs.Counts.{length-rings, rings_slots, nine_blocks, constants_few}
use Rattle.redn_emit.proofs.Sizes.{RingFits}

rings_fit : (first n : ℕ) (blocks : List Block) → All (BlockFits (2 ^ 32) first) blocks → AreSmall 65536 blocks → AllByRecursion RingFits (rings_from first n blocks)
rings_fit first n [] fits small = tt
rings_fit first n (b ∷ bs) fits small =
    let one = All-head (BlockFits (2 ^ 32) first) b bs fits in
    let few = All-head (λ (x : Block). block_slots x ≤ 65536) b bs small in
    let may = may_go (2 ^ 32) first n b one few in
    let some = some_slots (block_segments first n b) may.some in
    let slots = slots_counted (2 ^ 32) first n b one in
    (record { two = may.some; some = omega (arith, some); few = omega (arith, slots, few) }, rings_fit first (suc n) bs (All-tail (BlockFits (2 ^ 32) first) b bs fits) (All-tail (λ (x : Block). block_slots x ≤ 65536) b bs small))

-- a chain at its place, below the ends of all code and of all words
pub record PlanFits (chains tables code_end data_end : ℕ) (c : ChainPlan) : Type 0 where
  pub number : c.number < chains
  pub rings : AllByRecursion RingFits c.rings
  pub values : length c.values ≡ c.vars
  pub tables_are : c.tables ≡ tables
  pub args : c.args ≤ 8
  pub code_at : c.code_base % 64 ≡ 0
  pub code_in : c.code_base + 64 * code_slots c.rings ≤ code_end
  pub control_at : c.control_base % 8 ≡ 0
  pub control_in : c.control_base + data_len c ≤ data_end

-- so many rings, slots and bytes of words have all
pub record PlansTotal (weight : ℕ) (plans : List ChainPlan) : Type 0 where
  pub slots : sum_by (λ (c : ChainPlan). code_slots c.rings) plans ≤ 64 * weight
  pub rings : 9 * sum_by (λ (c : ChainPlan). length c.rings) plans ≤ 64 * weight
  pub words : 9 * sum_by data_len plans ≤ 19944 * length plans + 72 * sum_by (λ (c : ChainPlan). c.hidden) plans + 5632 * weight

pub data_whole : (c : ChainPlan) → data_len c % 8 ≡ 0
data_whole c = omega arith

pub plans_fit : (chains end data_end tables number code control first : ℕ) (its : List TableInit) (cs : List ChainInit) (gs : List Graph) → CanAllBePlaced first cs gs → All (IsSoundChain its) cs → number + length cs ≤ chains → code % 64 ≡ 0 → control % 8 ≡ 0 → code + 64 * sum_by (λ (c : ChainPlan). code_slots c.rings) (plans_from tables number code control (chains_from first cs gs)) ≤ end → control + sum_by data_len (plans_from tables number code control (chains_from first cs gs)) ≤ data_end → AllByRecursion (PlanFits chains tables end data_end) (plans_from tables number code control (chains_from first cs gs))
plans_fit chains end data_end tables number code control first its [] gs can sound few code_at control_at code_in control_in = tt
plans_fit chains end data_end tables number code control first its (c ∷ cs) [] can sound few code_at control_at code_in control_in = absurd can
plans_fit chains end data_end tables number code control first its (c ∷ cs) (g ∷ gs) can sound few code_at control_at code_in control_in =
    let one : ChainRings = chain_rings first c g in
    let plan : ChainPlan = plan_at tables number code control one in
    let next : ℕ = code + 64 * code_slots one.rings in
    let behind : ℕ = control + data_len plan in
    let rest : List ChainPlan = plans_from tables (suc number) next behind (chains_from (first + length g.blocks) cs gs) in
    let slots = sum_by-cons (λ (x : ChainPlan). code_slots x.rings) plan rest in
    let words = sum_by-cons data_len plan rest in
    let whole = data_whole plan in (
      record {
        number = omega (arith, few);
        rings = rings_fit first first g.blocks can.0.fits can.0.small;
        values = refl;
        tables_are = refl;
        args = (All-head (IsSoundChain its) c cs sound).arguments;
        code_at = code_at;
        code_in = omega (arith, slots, code_in);
        control_at = control_at;
        control_in = omega (arith, words, control_in);
      },
      plans_fit chains end data_end tables (suc number) next behind (first + length g.blocks) its cs gs can.1 (All-tail (IsSoundChain its) c cs sound) (omega (arith, few)) (omega (arith, code_at)) (omega (arith, control_at, whole)) (omega (arith, slots, code_in)) (omega (arith, words, control_in)),
    )

pub plans_total : (tables number code control first : ℕ) (its : List TableInit) (cs : List ChainInit) (gs : List Graph) → CanAllBePlaced first cs gs → All (IsSoundChain its) cs → ((i : ℕ) (c : ChainInit) (g : Graph) → slice_get cs i ≡ Some c → slice_get gs i ≡ Some g → IsGraphOf its c g) → PlansTotal (sum_by chain_weight cs) (plans_from tables number code control (chains_from first cs gs))
plans_total tables number code control first its [] gs can sound each =
    record { slots = omega arith; rings = omega arith; words = omega arith }
plans_total tables number code control first its (c ∷ cs) [] can sound each = absurd can
plans_total tables number code control first its (c ∷ cs) (g ∷ gs) can sound each =
    let one : ChainRings = chain_rings first c g in
    let plan : ChainPlan = plan_at tables number code control one in
    let next : ℕ = code + 64 * code_slots one.rings in
    let behind : ℕ = control + data_len plan in
    let rest : List ChainPlan = plans_from tables (suc number) next behind (chains_from (first + length g.blocks) cs gs) in
    let others = plans_total tables (suc number) next behind (first + length g.blocks) its cs gs can.1 (All-tail (IsSoundChain its) c cs sound) (λ i d h x y. each (suc i) d h x y) in
    let weights = sum_by-cons chain_weight c cs in
    let graph = (each 0 c g refl refl).slots in
    let nine = nine_blocks g.blocks in
    let count = length-rings first first g.blocks in
    let few = rings_slots (2 ^ 32) first first g.blocks can.0.fits in
    let numbers = constants_few (2 ^ 32) first first g.blocks can.0.fits in
    let chain = All-head (IsSoundChain its) c cs sound in
    let vars = chain.variables in
    let args = chain.arguments in
    let s = sum_by-cons (λ (x : ChainPlan). code_slots x.rings) plan rest in
    let r = sum_by-cons (λ (x : ChainPlan). length x.rings) plan rest in
    let w = sum_by-cons data_len plan rest in
    let h = sum_by-cons (λ (x : ChainPlan). x.hidden) plan rest in
    let others_slots = others.slots in
    let others_rings = others.rings in
    let others_words = others.words in
    record {
      slots = omega (arith, s, few, graph, weights, others_slots);
      rings = omega (arith, r, count, nine, graph, weights, others_rings);
      words = omega (arith, w, h, count, nine, graph, numbers, weights, vars, args, others_words);
    }
