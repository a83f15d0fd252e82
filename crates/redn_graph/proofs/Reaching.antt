-- Blocks are copied in the order in which they are found.
use Rattle.std.proofs.Common.{◌≡◌, ℕ, zero, suc, ◌<◌, ◌≤◌, inl, inr, List, [], ◌∷◌, ◌++◌, length, Some, refl, sym, ap, ◌∙◌, subst, arith}
use Rattle.std.specs.Prelude.{slice_get}
use Rattle.std.proofs.lemmas.Option.{get_or_from_slice_get, slice_get_cases}
use Rattle.redn_graph.specs.declared.types.End.{End}
use Rattle.redn_graph.specs.declared.types.End.TheVariants.{Jump, Test48, Test64, Probe, Reply}
use Rattle.redn_graph.specs.declared.types.Block.{Block}
use Rattle.redn_graph.specs.declared.types.Graph.{Graph}
use Rattle.redn_graph.specs.declared.reach.Found.{Found}
use Rattle.redn_graph.specs.Slots.{all_slots}
use Rattle.redn_graph.specs.Reached.{CanGoTo, LeadsTo, IsPath, renumbered, Was}
use Rattle.redn_graph.specs.Finding.{IsFound, More, TargetsThere, slots_in, was_at}

-- some blocks are copied, and those that they lead to are found
pub record Walked (g : Graph) (f : Found) (blocks : List Block) : Type 0 where
  pub found : IsFound f
  pub size : length f.numbers.items ≡ length g.blocks
  pub done : length blocks ≤ length f.order.items
  pub first : slice_get f.order.items 0 ≡ Some g.entry
  pub was : (k : ℕ) (b : Block) → slice_get blocks k ≡ Some b → Was g.blocks (was_at f) k b
  pub targets : (k : ℕ) (b : Block) → slice_get blocks k ≡ Some b → TargetsThere (length f.order.items) b.end
  pub led : (k : ℕ) → 1 ≤ k → k < length f.order.items → (i : ℕ) × (i < k) × LeadsTo blocks i k
  pub all : slots_in g.blocks f ≡ all_slots g.blocks

-- a path goes on
path_then : (blocks : List Block) (k : ℕ) (path : List ℕ) (l m : ℕ) → IsPath blocks k path l → LeadsTo blocks l m → IsPath blocks k (path ++ m ∷ []) m
path_then blocks k [] l m e leads = (subst (λ (i : ℕ). LeadsTo blocks i m) (sym e) leads, refl)
path_then blocks k (i ∷ path) l m (first, rest) leads = (first, path_then blocks i path l m rest leads)

-- where each block but the first is led to from one before it, each can be reached
paths : (blocks : List Block) (n : ℕ) → ((k : ℕ) → 1 ≤ k → k < n → (i : ℕ) × (i < k) × LeadsTo blocks i k) → (most k : ℕ) → k < most → k < n → (path : List ℕ) × IsPath blocks 0 path k
paths blocks n led zero k low lt = absurd (omega (arith, low))
paths blocks n led (suc most) zero low lt = ([], refl)
paths blocks n led (suc most) (suc k) low lt =
    let from = led (suc k) (omega arith) lt in
    let rest = paths blocks n led most from.0 (omega (arith, from.1, low)) (omega (arith, from.1, lt)) in
    (rest.0 ++ suc k ∷ [], path_then blocks 0 rest.0 from.0 (suc k) rest.1 from.2)

pub each_path : (blocks : List Block) (n : ℕ) → ((k : ℕ) → 1 ≤ k → k < n → (i : ℕ) × (i < k) × LeadsTo blocks i k) → (k : ℕ) → k < n → (path : List ℕ) × IsPath blocks 0 path k
each_path blocks n led k lt = paths blocks n led (suc k) k (omega arith) lt

-- an end is the same under numbers that agree on its targets
pub renumbered_same : (f h : ℕ → ℕ) (end : End) → ((l : ℕ) → CanGoTo end l → f l ≡ h l) → renumbered f end ≡ renumbered h end
renumbered_same f h (Jump to) same = ap Jump (same to refl)
renumbered_same f h (Test48 left right met unmet) same = ap (λ (l : ℕ). Test48 left right l (f unmet)) (same met (inl refl)) ∙ ap (Test48 left right (h met)) (same unmet (inr refl))
renumbered_same f h (Test64 left right met unmet) same = ap (λ (l : ℕ). Test64 left right l (f unmet)) (same met (inl refl)) ∙ ap (Test64 left right (h met)) (same unmet (inr refl))
renumbered_same f h (Probe to table offset key hit miss) same = ap (λ (l : ℕ). Probe to table offset key l (f miss)) (same hit (inl refl)) ∙ ap (Probe to table offset key (h hit)) (same miss (inr refl))
renumbered_same f h (Reply words) same = refl

-- old numbers stay as they are when more are found
pub was_still : (old new : Found) (k : ℕ) → More old new → k < length old.order.items → was_at old k ≡ was_at new k
was_still old new k more lt =
    elim (slice_get_cases old.order.items k).1 [
      | inl there ↦
          get_or_from_slice_get old.order.items k there.0 (length old.numbers.items) there.2
          ∙ sym (get_or_from_slice_get new.order.items k there.0 (length new.numbers.items) (more.kept k there.0 there.2))
      | inr past ↦ absurd (omega (arith, past.0, lt))
    ]
