-- Graphs made one after the other are the graphs of a program's chains.
use Rattle.std.proofs.Common.{◌≡◌, ℕ, zero, suc, ◌+◌, ◌⊎◌, inl, inr, List, [], ◌∷◌, ◌++◌, length, Some, refl, ap, subst, arith, length-append}
use Rattle.std.specs.Prelude.{Option, unwrap_or, slice_get}
use Rattle.std.proofs.lemmas.Option.{slice_get_within}
use Rattle.redn_proof_ring.proofs.LapSteps.{slice_get_append}
use Rattle.redn_kernel.specs.declared.types.TableInit.{TableInit}
use Rattle.redn_kernel.specs.declared.types.ChainInit.{ChainInit}
use Rattle.redn_kernel.specs.declared.types.Program.{Program}
use Rattle.redn_graph.specs.declared.types.Graph.{Graph}
use Rattle.redn_graph.specs.Follows.{Follows}
use Rattle.redn_proof_interleave.specs.RingSides.{AllFollow}
use Rattle.redn_emit.specs.Graphs.{IsGraphOf, AreGraphs}

-- what a graph is for its chain
pub record IsMade (tables : List TableInit) (c : ChainInit) (g : Graph) : Type 0 where
  pub fits : IsGraphOf tables c g
  pub follows : Follows c g

-- the graphs of the first chains
pub record AreMade (p : Program) (n : ℕ) (graphs : List Graph) : Type 0 where
  pub count : length graphs ≡ n
  pub each : (i : ℕ) (c : ChainInit) (g : Graph) → slice_get p.chains i ≡ Some c → slice_get graphs i ≡ Some g → IsMade p.tables c g

pub none_made : (p : Program) → AreMade p 0 []
none_made p = record { count = refl; each = λ i c g x y. absurd (no_element i g y) }
  where
    no_element : (i : ℕ) (g : Graph) → slice_get {X = Graph} [] i ≡ Some g → ⊥
    no_element i g y = let inside = slice_get_within [] i g y in omega (arith, inside)

pub one_more : (p : Program) (n : ℕ) (graphs : List Graph) (g : Graph) → AreMade p n graphs → ((c : ChainInit) → slice_get p.chains n ≡ Some c → IsMade p.tables c g) → AreMade p (n + 1) (graphs ++ g ∷ [])
one_more p n graphs g are made =
    let longer = length-append graphs (g ∷ []) in
    record {
      count = omega (arith, longer, are.count);
      each = λ i c h x y. by_place i c h x (slice_get_append graphs (g ∷ []) i h y);
    }
  where
    new : (i k : ℕ) (c : ChainInit) (h : Graph) → slice_get p.chains i ≡ Some c → i ≡ length graphs + k → slice_get (g ∷ []) k ≡ Some h → IsMade p.tables c h
    new i zero c h x e y = subst (IsMade p.tables c) (ap (λ (o : Option Graph). unwrap_or o g) y) (made c (subst (λ (j : ℕ). slice_get p.chains j ≡ Some c) (omega (arith, e, are.count)) x))
    new i (suc k) c h x e y = absurd (let inside = slice_get_within (g ∷ []) (suc k) h y in omega (arith, inside))

    by_place : (i : ℕ) (c : ChainInit) (h : Graph) → slice_get p.chains i ≡ Some c → (slice_get graphs i ≡ Some h) ⊎ ((k : ℕ) × (i ≡ length graphs + k) × (slice_get (g ∷ []) k ≡ Some h)) → IsMade p.tables c h
    by_place i c h x (inl y) = are.each i c h x y
    by_place i c h x (inr (k, e, y)) = new i k c h x e y

pub are_graphs : (p : Program) (graphs : List Graph) → AreMade p (length p.chains) graphs → AreGraphs p graphs
are_graphs p graphs are =
    record { count = are.count; each = λ i c g x y. (are.each i c g x y).fits }

follow : (cs : List ChainInit) (gs : List Graph) → length gs ≡ length cs → ((i : ℕ) (c : ChainInit) (g : Graph) → slice_get cs i ≡ Some c → slice_get gs i ≡ Some g → Follows c g) → AllFollow cs gs
follow [] [] count each = tt
follow [] (g ∷ gs) count each = absurd (omega (arith, count))
follow (c ∷ cs) [] count each = absurd (omega (arith, count))
follow (c ∷ cs) (g ∷ gs) count each =
    (each 0 c g refl refl, follow cs gs (omega (arith, count)) (λ i d h x y. each (suc i) d h x y))

pub all_follow : (p : Program) (graphs : List Graph) → AreMade p (length p.chains) graphs → AllFollow p.chains graphs
all_follow p graphs are = follow p.chains graphs are.count (λ i c g x y. (are.each i c g x y).follows)
