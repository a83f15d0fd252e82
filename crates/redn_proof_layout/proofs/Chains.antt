-- What each placed chain is, and that chains follow one another.
use Rattle.std.proofs.Common.{◌≡◌, ℕ, zero, suc, ◌+◌, ◌*◌, ◌<◌, ◌≤◌, List, [], ◌∷◌, length, get_or, Some, refl, sym, ap, ◌∙◌, subst, arith}
use Rattle.std.specs.Prelude.{slice_get, sum_by}
use Rattle.std.specs.List.{AllByRecursion}
use Rattle.std.proofs.lemmas.List.Sums.{sum_by-cons}
use Rattle.redn_kernel.specs.declared.types.ChainInit.{ChainInit}
use Rattle.redn_graph.specs.declared.types.Block.{Block}
use Rattle.redn_graph.specs.declared.types.Graph.{Graph}
use Rattle.redn_block.specs.Blocks.{block_segments}
use Rattle.redn_emit.specs.Layout.{Plain, ChainPlan, rings_from, code_slots, data_len}
use Rattle.redn_emit.specs.Placed.{chain_rings, chains_from, plan_at, plans_from}
use Rattle.redn_emit.specs.Kept.{CanBePlaced, CanAllBePlaced}
use Rattle.redn_emit.proofs.Counts.{length-rings}
use Rattle.redn_proof_layout.specs.Layouts.{no_ring}

-- the graph and the chain of a plan
pub record IsChain (tables number first : ℕ) (cs : List ChainInit) (gs : List Graph) (i : ℕ) (c : ChainPlan) : Type 0 where
  pub init : ChainInit
  pub graph : Graph
  pub init_at : slice_get cs i ≡ Some init
  pub graph_at : slice_get gs i ≡ Some graph
  pub is : c ≡ plan_at tables number c.code_base c.control_base (chain_rings c.first init graph)
  pub can : CanBePlaced c.first init graph

-- places only grow
pub record IsAbove (code control first : ℕ) (c : ChainPlan) : Type 0 where
  pub code_base : code ≤ c.code_base
  pub control_base : control ≤ c.control_base
  pub first_ring : first ≤ c.first

pub plan_low : (tables number code control first : ℕ) (cs : List ChainInit) (gs : List Graph) (i : ℕ) (c : ChainPlan) → slice_get (plans_from tables number code control (chains_from first cs gs)) i ≡ Some c → IsAbove code control first c
plan_low tables number code control first [] gs i c e = absurd (cc)
plan_low tables number code control first (x ∷ cs) [] i c e = absurd (cc)
plan_low tables number code control first (x ∷ cs) (g ∷ gs) zero c e =
    let same : plan_at tables number code control (chain_rings first x g) ≡ c = cc in
    subst (IsAbove code control first) same (record { code_base = omega arith; control_base = omega arith; first_ring = omega arith })
plan_low tables number code control first (x ∷ cs) (g ∷ gs) (suc i) c e =
    let plan : ChainPlan = plan_at tables number code control (chain_rings first x g) in
    let rest = plan_low tables (suc number) (code + 64 * code_slots plan.rings) (control + data_len plan) (first + length g.blocks) cs gs i c e in
    let a = rest.code_base in
    let b = rest.control_base in
    let d = rest.first_ring in
    record { code_base = omega (arith, a); control_base = omega (arith, b); first_ring = omega (arith, d) }

pub record Follow (c d : ChainPlan) : Type 0 where
  pub code : c.code_base + 64 * code_slots c.rings ≤ d.code_base
  pub control : c.control_base + data_len c ≤ d.control_base
  pub rings : c.first + length c.rings ≤ d.first

pub plans_follow : (tables number code control first : ℕ) (cs : List ChainInit) (gs : List Graph) (i j : ℕ) (c d : ChainPlan) → i < j → slice_get (plans_from tables number code control (chains_from first cs gs)) i ≡ Some c → slice_get (plans_from tables number code control (chains_from first cs gs)) j ≡ Some d → Follow c d
plans_follow tables number code control first [] gs i j c d l e f = absurd (cc)
plans_follow tables number code control first (x ∷ cs) [] i j c d l e f = absurd (cc)
plans_follow tables number code control first (x ∷ cs) (g ∷ gs) i zero c d l e f = absurd (omega arith)
plans_follow tables number code control first (x ∷ cs) (g ∷ gs) zero (suc j) c d l e f =
    let plan : ChainPlan = plan_at tables number code control (chain_rings first x g) in
    let same : plan ≡ c = cc in
    let low = plan_low tables (suc number) (code + 64 * code_slots plan.rings) (control + data_len plan) (first + length g.blocks) cs gs j d f in
    let long = length-rings first first g.blocks in
    let up = low.first_ring in
    subst (λ (y : ChainPlan). Follow y d) same (record { code = low.code_base; control = low.control_base; rings = omega (arith, long, up) })
plans_follow tables number code control first (x ∷ cs) (g ∷ gs) (suc i) (suc j) c d l e f =
    let plan : ChainPlan = plan_at tables number code control (chain_rings first x g) in
    plans_follow tables (suc number) (code + 64 * code_slots plan.rings) (control + data_len plan) (first + length g.blocks) cs gs i j c d (omega (arith, l)) e f

pub plan_is : (tables number code control first : ℕ) (cs : List ChainInit) (gs : List Graph) → CanAllBePlaced first cs gs → (i : ℕ) (c : ChainPlan) → slice_get (plans_from tables number code control (chains_from first cs gs)) i ≡ Some c → IsChain tables (number + i) first cs gs i c
plan_is tables number code control first [] gs can i c e = absurd (cc)
plan_is tables number code control first (x ∷ cs) [] can i c e = absurd can
plan_is tables number code control first (x ∷ cs) (g ∷ gs) can zero c e =
    let plan : ChainPlan = plan_at tables number code control (chain_rings first x g) in
    let same : plan ≡ c = cc in
    let none : number + 0 ≡ number = omega arith in
    subst (λ (n : ℕ). IsChain tables n first (x ∷ cs) (g ∷ gs) 0 c) (sym none) (subst (λ (y : ChainPlan). IsChain tables number first (x ∷ cs) (g ∷ gs) 0 y) same (record { init = x; graph = g; init_at = refl; graph_at = refl; is = refl; can = can.0 }))
plan_is tables number code control first (x ∷ cs) (g ∷ gs) can (suc i) c e =
    let plan : ChainPlan = plan_at tables number code control (chain_rings first x g) in
    let rest = plan_is tables (suc number) (code + 64 * code_slots plan.rings) (control + data_len plan) (first + length g.blocks) cs gs can.1 i c e in
    let place : suc number + i ≡ number + suc i = omega arith in
    record {
      init = rest.init;
      graph = rest.graph;
      init_at = rest.init_at;
      graph_at = rest.graph_at;
      is = rest.is ∙ ap (λ (n : ℕ). plan_at tables n c.code_base c.control_base (chain_rings c.first rest.init rest.graph)) place;
      can = rest.can;
    }

-- the rings of all chains are numbered below one number
pub rings_below : (tables number code control first : ℕ) (cs : List ChainInit) (gs : List Graph) (i : ℕ) (c : ChainPlan) → slice_get (plans_from tables number code control (chains_from first cs gs)) i ≡ Some c → c.first + length c.rings ≤ first + sum_by (λ (d : ChainPlan). length d.rings) (plans_from tables number code control (chains_from first cs gs))
rings_below tables number code control first [] gs i c e = absurd (cc)
rings_below tables number code control first (x ∷ cs) [] i c e = absurd (cc)
rings_below tables number code control first (x ∷ cs) (g ∷ gs) zero c e =
    let plan : ChainPlan = plan_at tables number code control (chain_rings first x g) in
    let rest : List ChainPlan = plans_from tables (suc number) (code + 64 * code_slots plan.rings) (control + data_len plan) (chains_from (first + length g.blocks) cs gs) in
    let same : plan ≡ c = cc in
    let all = sum_by-cons (λ (d : ChainPlan). length d.rings) plan rest in
    subst (λ (y : ChainPlan). y.first + length y.rings ≤ first + sum_by (λ (d : ChainPlan). length d.rings) (plan ∷ rest)) same (omega (arith, all))
rings_below tables number code control first (x ∷ cs) (g ∷ gs) (suc i) c e =
    let plan : ChainPlan = plan_at tables number code control (chain_rings first x g) in
    let rest : List ChainPlan = plans_from tables (suc number) (code + 64 * code_slots plan.rings) (control + data_len plan) (chains_from (first + length g.blocks) cs gs) in
    let all = sum_by-cons (λ (d : ChainPlan). length d.rings) plan rest in
    let its = length-rings first first g.blocks in
    let below = rings_below tables (suc number) (code + 64 * code_slots plan.rings) (control + data_len plan) (first + length g.blocks) cs gs i c e in
    omega (arith, all, its, below)

-- the ring of a block
pub ring_is : (first n : ℕ) (blocks : List Block) (k : ℕ) (b : Block) → slice_get blocks k ≡ Some b → get_or (rings_from first n blocks) k no_ring ≡ record { number = n + k; segments = block_segments first (n + k) b }
ring_is first n [] k b e = absurd (cc)
ring_is first n (x ∷ bs) zero b e =
    let same : x ≡ b = cc in
    let none : n ≡ n + 0 = omega arith in
    ap (λ (m : ℕ). let r : Plain = record { number = m; segments = block_segments first m x } in r) none ∙ ap (λ (y : Block). let r : Plain = record { number = n + 0; segments = block_segments first (n + 0) y } in r) same
ring_is first n (x ∷ bs) (suc k) b e =
    let place : suc n + k ≡ n + suc k = omega arith in
    ring_is first (suc n) bs k b e ∙ ap (λ (m : ℕ). let r : Plain = record { number = m; segments = block_segments first m b } in r) place

pub each_at : {X : Type 0} (P : X → Type 0) (xs : List X) → AllByRecursion P xs → (i : ℕ) (x : X) → slice_get xs i ≡ Some x → P x
each_at P [] h i x e = absurd (cc)
each_at P (y ∷ xs) h zero x e = let same : y ≡ x = cc in subst P same h.0
each_at P (y ∷ xs) h (suc i) x e = each_at P xs h.1 i x e
