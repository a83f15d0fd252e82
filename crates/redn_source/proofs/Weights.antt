-- Weights of statements, one after the other, and of those without blocks.
use Rattle.std.proofs.Common.{◌≡◌, ℕ, ◌+◌, ◌<◌, ◌≤◌, Bool, List, length, take, get_or, refl, sym, ap, ◌∙◌, arith}
use Rattle.std.proofs.lemmas.List.Sums.{sum-map, sum_by_more, sum_by_more_le}
use Rattle.redn_kernel.specs.declared.types.Word.{Word}
use Rattle.redn_kernel.specs.declared.types.Kernel.{Kernel, out-Kernel, roll-Kernel, roll-out-Kernel, map-Kernel}
use Rattle.redn_kernel.specs.declared.types.Kernel.TheVariants as s
use Rattle.redn_kernel.specs.declared.types.Kernel.TheOpen.{Kernel-F}
use Rattle.redn_kernel.specs.Program.{weight_of, weight_of_all, weight_by}
use Rattle.redn_kernel.proofs.Cases.{weight_out}

pub weight_more : (body : List Kernel) (i : ℕ) (d : Kernel) → i < length body → weight_of_all (take (i + 1) body) ≡ weight_of_all (take i body) + weight_of (get_or body i d)
weight_more body i d lt =
    sum-map weight_of (take (i + 1) body) ∙ sum_by_more weight_of body i d lt ∙ ap (λ n. n + weight_of (get_or body i d)) (sym (sum-map weight_of (take i body)))

pub weight_within : (body : List Kernel) (i : ℕ) (d : Kernel) → i < length body → weight_of_all (take i body) + weight_of (get_or body i d) ≤ weight_of_all body
weight_within body i d lt =
    omega (arith, sum_by_more_le weight_of body i d lt, sum-map weight_of (take i body), sum-map weight_of body)

module _ (k : Kernel)
    (not_if : (wide : Bool) (a b : Word) (met unmet : List Kernel) → k ≡ s.If wide a b met unmet → ⊥)
    (not_loop : (body : List Kernel) → k ≡ s.Loop body → ⊥)
    (not_repeat : (n : ℕ) (body : List Kernel) → k ≡ s.Repeat n body → ⊥)
    (not_lookup : (x table : ℕ) (a key : Word) (n : ℕ) → k ≡ s.Lookup x table a key n → ⊥)
    (not_walk : (x table : ℕ) (a key : Word) (n : ℕ) → k ≡ s.Walk x table a key n → ⊥) where
  rolled : (layer : Kernel-F Kernel) → out-Kernel k ≡ layer → k ≡ roll-Kernel layer
  rolled layer e = sym (roll-out-Kernel k) ∙ ap roll-Kernel e

  by_layer : (layer : Kernel-F Kernel) → out-Kernel k ≡ layer → weight_by (map-Kernel Kernel ℕ weight_of layer) ≡ 1
  unfolding weight_by
  by_layer (Kernel-F.Move x a) e = refl
  by_layer (Kernel-F.Add x a) e = refl
  by_layer (Kernel-F.Load x table a) e = refl
  by_layer (Kernel-F.Store table a b) e = refl
  by_layer (Kernel-F.If wide a b met unmet) e = absurd (not_if wide a b met unmet (rolled _ e ∙ (s.rolls-If wide a b met unmet)))
  by_layer (Kernel-F.Loop body) e = absurd (not_loop body (rolled _ e ∙ (s.rolls-Loop body)))
  by_layer (Kernel-F.Repeat n body) e = absurd (not_repeat n body (rolled _ e ∙ (s.rolls-Repeat n body)))
  by_layer Kernel-F.Break e = refl
  by_layer (Kernel-F.Lookup x table a key n) e = absurd (not_lookup x table a key n (rolled _ e ∙ (s.rolls-Lookup x table a key n)))
  by_layer (Kernel-F.Walk x table a key n) e = absurd (not_walk x table a key n (rolled _ e ∙ (s.rolls-Walk x table a key n)))
  by_layer (Kernel-F.Reply words) e = refl

  -- a statement of none of these kinds weighs 1
  pub other_weight : weight_of k ≡ 1
  other_weight = weight_out k (out-Kernel k) refl ∙ by_layer (out-Kernel k) refl
