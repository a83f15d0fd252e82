-- What rings, chains and tables keep while they are placed.
use Rattle.std.specs.Prelude.{◌≡◌, ℕ, ◌+◌, ◌<◌, ◌≤◌, ◌^◌, Bool, true, ◌&&◌, nat_le, List, [], ◌∷◌, length, take, get_or}
use Rattle.std.specs.List.{All, list_all}
use Rattle.redn_kernel.specs.declared.types.ChainInit.{ChainInit}
use Rattle.redn_graph.specs.declared.types.Graph.{Graph}
use Rattle.redn_graph.specs.Slots.{AreSmall, all_slots}
use Rattle.redn_segment.specs.declared.types.Draft.{Draft}
use Rattle.redn_segment.specs.Sites.{start_of}
use Rattle.redn_segment.specs.Homes.{Home}
use Rattle.redn_block.specs.Blocks.{BlockFits}
use Rattle.redn_emit.specs.declared.chain.Place.{Place}
use Rattle.redn_emit.specs.Layout.{Plain, ChainPlan, ring_slots, code_slots, first_limit, with_its_laps}
use Rattle.redn_emit.specs.Placed.{ChainRings, constants_of}

-- both sides of a draft begin near the beginning of their spaces
abbrev pub is_near : Draft → Bool
is_near d = nat_le (start_of d.local) 64 && nat_le (start_of d.remote) 64

abbrev pub are_near : List (List Draft) → Bool
are_near segments = list_all (list_all is_near) segments

-- a ring with its laps, its slots and the limit that opens it
pub record IsRingPlan (r : Plain) (lapped : List (List Draft)) (slots opens : ℕ) : Type 0 where
  pub laps : lapped ≡ with_its_laps r
  pub slots_are : slots ≡ ring_slots r
  pub opens_are : opens ≡ first_limit r
  pub near : are_near lapped ≡ true

-- at most so many slots and rings has a chain
abbrev pub MOST : ℕ
MOST = 262144

-- a graph whose rings can be numbered from `first` on
pub record CanBePlaced (first : ℕ) (c : ChainInit) (g : Graph) : Type 0 where
  pub fits : All (BlockFits (2 ^ 32) first) g.blocks
  pub small : AreSmall 65536 g.blocks
  pub slots : all_slots g.blocks ≤ MOST
  pub numbers : first + length g.blocks < 2 ^ 32
  pub entry : g.entry < length g.blocks
  pub few_vars : length c.vars ≤ 256

-- so for each chain with its graph, the rings of the one behind those of the other
abbrev pub CanAllBePlaced : ℕ → List ChainInit → List Graph → Type 0
CanAllBePlaced first [] gs = Unit {0}
CanAllBePlaced first (c ∷ cs) [] = ⊥
CanAllBePlaced first (c ∷ cs) (g ∷ gs) = CanBePlaced first c g × CanAllBePlaced (first + length g.blocks) cs gs

-- what is kept of a chain before its places are known
pub record IsChainRings (c : ChainRings) (slots : ℕ) : Type 0 where
  pub slots_are : slots ≡ code_slots c.rings
  pub few_slots : slots ≤ MOST
  pub few_rings : length c.rings ≤ MOST
  pub few_constants : length (constants_of c.rings) ≤ MOST
  pub numbers : c.first + length c.rings < 2 ^ 32
  pub entry : c.graph.entry < length c.rings
  pub few_vars : length c.init.vars ≤ 256

-- what is kept of a chain at its places, with where each ring begins in slots, the end of the last one behind
pub record IsChainPlan (c : ChainPlan) (starts : List ℕ) : Type 0 where
  pub starts_len : length starts ≡ length c.rings + 1
  pub starts_are : (i : ℕ) → i ≤ length c.rings → get_or starts i 0 ≡ code_slots (take i c.rings)
  pub few_slots : code_slots c.rings ≤ MOST
  pub few_rings : length c.rings ≤ MOST
  pub few_constants : length c.constants ≤ MOST
  pub numbers : c.first + length c.rings < 2 ^ 32
  pub entry : c.entry < length c.rings
  pub few_vars : c.vars ≤ 256
  pub few_chains : c.number < 16
  pub few_tables : c.tables ≤ 64
  pub code_below : c.code_base < 2 ^ 40
  pub control_below : c.control_base < 2 ^ 40

-- the key and the offset of a home
abbrev pub place_of : Home → Place
place_of h = record { key = h.region.key; offset = h.offset }
