-- Repeats in statements, as the code meets them.
use Rattle.std.proofs.Common.{◌≡◌, ℕ, ◌+◌, Bool, true, false, List, ◌∷◌, refl, sym, ap, ◌∙◌}
use Rattle.std.proofs.lemmas.List.Sums.{sum-map, sum_by-cons}
use Rattle.redn_kernel.specs.declared.types.Word.{Word}
use Rattle.redn_kernel.specs.declared.types.Kernel.{Kernel, out-Kernel, roll-Kernel, roll-out-Kernel, map-Kernel, fold_out-Kernel}
use Rattle.redn_kernel.specs.declared.types.Kernel.TheOpen.{Kernel-F}
use Rattle.redn_kernel.specs.declared.types.Kernel.TheVariants as k
use Rattle.redn_graph.specs.Statements.{is_search, searches}
use Rattle.redn_graph.specs.Hidden.{repeats_by, repeats_in, repeats_in_all}

repeats_out : (st : Kernel) (layer : Kernel-F Kernel) → out-Kernel st ≡ layer → repeats_in st ≡ repeats_by (map-Kernel Kernel ℕ repeats_in layer)
unfolding repeats_in
repeats_out st layer e = fold_out-Kernel ℕ repeats_by st ∙ ap (λ l. repeats_by (map-Kernel Kernel ℕ repeats_in l)) e

pub repeats_in_if : (wide : Bool) (a b : Word) (met unmet : List Kernel) → repeats_in (k.If wide a b met unmet) ≡ repeats_in_all met + repeats_in_all unmet
unfolding repeats_by
repeats_in_if wide a b met unmet = repeats_out _ _ (k.outs-If wide a b met unmet)

pub repeats_in_loop : (body : List Kernel) → repeats_in (k.Loop body) ≡ repeats_in_all body
unfolding repeats_by
repeats_in_loop body = repeats_out _ _ (k.outs-Loop body)

pub repeats_in_repeat : (n : ℕ) (body : List Kernel) → repeats_in (k.Repeat n body) ≡ 1 + repeats_in_all body
unfolding repeats_by
repeats_in_repeat n body = repeats_out _ _ (k.outs-Repeat n body)

-- a statement of another kind has none
module _ (st : Kernel)
    (not_if : (wide : Bool) (a b : Word) (met unmet : List Kernel) → st ≡ k.If wide a b met unmet → ⊥)
    (not_loop : (body : List Kernel) → st ≡ k.Loop body → ⊥)
    (not_repeat : (n : ℕ) (body : List Kernel) → st ≡ k.Repeat n body → ⊥) where
  rolled : (layer : Kernel-F Kernel) → out-Kernel st ≡ layer → st ≡ roll-Kernel layer
  rolled layer e = sym (roll-out-Kernel st) ∙ ap roll-Kernel e

  by_layer : (layer : Kernel-F Kernel) → out-Kernel st ≡ layer → repeats_by (map-Kernel Kernel ℕ repeats_in layer) ≡ 0
  unfolding repeats_by
  by_layer (Kernel-F.If wide a b met unmet) e = absurd (not_if wide a b met unmet (rolled _ e ∙ k.rolls-If wide a b met unmet))
  by_layer (Kernel-F.Loop body) e = absurd (not_loop body (rolled _ e ∙ k.rolls-Loop body))
  by_layer (Kernel-F.Repeat n body) e = absurd (not_repeat n body (rolled _ e ∙ k.rolls-Repeat n body))
  by_layer (Kernel-F.Move x a) e = refl
  by_layer (Kernel-F.Add x a) e = refl
  by_layer (Kernel-F.Load x table a) e = refl
  by_layer (Kernel-F.Store table a b) e = refl
  by_layer Kernel-F.Break e = refl
  by_layer (Kernel-F.Lookup x table a key n) e = refl
  by_layer (Kernel-F.Walk x table a key n) e = refl
  by_layer (Kernel-F.Reply words) e = refl

  pub no_repeats : repeats_in st ≡ 0
  no_repeats = repeats_out st (out-Kernel st) refl ∙ by_layer (out-Kernel st) refl

pub none_in_break : repeats_in k.Break ≡ 0
unfolding repeats_by
none_in_break = repeats_out _ _ k.outs-Break

pub none_in_reply : (words : List Word) → repeats_in (k.Reply words) ≡ 0
unfolding repeats_by
none_in_reply words = repeats_out _ _ (k.outs-Reply words)

pub none_in_lookup : (x table : ℕ) (a key : Word) (n : ℕ) → repeats_in (k.Lookup x table a key n) ≡ 0
unfolding repeats_by
none_in_lookup x table a key n = repeats_out _ _ (k.outs-Lookup x table a key n)

pub repeats_first : (first : Kernel) (rest : List Kernel) → repeats_in_all (first ∷ rest) ≡ repeats_in first + repeats_in_all rest
repeats_first first rest = sum-map repeats_in (first ∷ rest) ∙ sum_by-cons repeats_in first rest ∙ ap (λ (n : ℕ). repeats_in first + n) (sym (sum-map repeats_in rest))

-- a search has none
pub searches_repeat : (st : Kernel) → is_search st ≡ true → repeats_in st ≡ 0
unfolding repeats_by
searches_repeat st looks = repeats_out st (out-Kernel st) refl ∙ by_search (out-Kernel st) looks
  where
    none : {A : Type 0} → false ≡ true → A
    none e = absurd (let h : ⊥ = cc in h)

    by_search : (layer : Kernel-F Kernel) → searches layer ≡ true → repeats_by (map-Kernel Kernel ℕ repeats_in layer) ≡ 0
    by_search (Kernel-F.Lookup x table a key n) e = refl
    by_search (Kernel-F.Walk x table a key n) e = refl
    by_search (Kernel-F.Move x a) e = none e
    by_search (Kernel-F.Add x a) e = none e
    by_search (Kernel-F.Load x table a) e = none e
    by_search (Kernel-F.Store table a b) e = none e
    by_search (Kernel-F.If wide a b met unmet) e = none e
    by_search (Kernel-F.Loop body) e = none e
    by_search (Kernel-F.Repeat n body) e = none e
    by_search Kernel-F.Break e = none e
    by_search (Kernel-F.Reply words) e = none e
