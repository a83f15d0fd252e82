-- How a statement of each kind may be left, whether it is idle, what it weighs, and what holds of it.
use Rattle.std.proofs.Common.{◌≡◌, ℕ, ◌+◌, Bool, true, false, ◌||◌, List, sym, ap, subst, ◌∙◌}
use Rattle.std.specs.Prelude.{min}
use Rattle.redn_kernel.specs.declared.types.Word.{Word}
use Rattle.redn_kernel.specs.declared.types.Kernel.{Kernel, out-Kernel, fold_out-Kernel, map-Kernel, every-Kernel, every_made-Kernel, roll-Kernel, roll-out-Kernel}
use Rattle.redn_kernel.specs.declared.types.Kernel.TheVariants as s
use Rattle.redn_kernel.specs.declared.types.Kernel.TheOpen.{Kernel-F}
use Rattle.redn_kernel.specs.Program.{Exits, exits, exits_of, exits_by, falls_through, has_break, Idles, idles, idles_of, idles_by, breaks_idly, weight_of, weight_of_all, weight_by}

pub exits_out : (k : Kernel) (layer : Kernel-F Kernel) → out-Kernel k ≡ layer → exits_of k ≡ exits_by (map-Kernel Kernel Exits exits_of layer)
unfolding exits_of
exits_out k layer e = fold_out-Kernel Exits exits_by k ∙ ap (λ l. exits_by (map-Kernel Kernel Exits exits_of l)) e

pub exits_of_move : (x : ℕ) (a : Word) → exits_of (s.Move x a) ≡ exits true false
unfolding exits_by
exits_of_move x a = exits_out _ _ (s.outs-Move x a)

pub exits_of_add : (x : ℕ) (a : Word) → exits_of (s.Add x a) ≡ exits true false
unfolding exits_by
exits_of_add x a = exits_out _ _ (s.outs-Add x a)

pub exits_of_load : (x table : ℕ) (a : Word) → exits_of (s.Load x table a) ≡ exits true false
unfolding exits_by
exits_of_load x table a = exits_out _ _ (s.outs-Load x table a)

pub exits_of_store : (table : ℕ) (a b : Word) → exits_of (s.Store table a b) ≡ exits true false
unfolding exits_by
exits_of_store table a b = exits_out _ _ (s.outs-Store table a b)

pub exits_of_if : (wide : Bool) (a b : Word) (met unmet : List Kernel) → exits_of (s.If wide a b met unmet) ≡ exits (falls_through met || falls_through unmet) (has_break met || has_break unmet)
unfolding exits_by
exits_of_if wide a b met unmet = exits_out _ _ (s.outs-If wide a b met unmet)

pub exits_of_loop : (body : List Kernel) → exits_of (s.Loop body) ≡ exits (has_break body) false
unfolding exits_by
exits_of_loop body = exits_out _ _ (s.outs-Loop body)

pub exits_of_repeat : (n : ℕ) (body : List Kernel) → exits_of (s.Repeat n body) ≡ exits (falls_through body || has_break body) false
unfolding exits_by
exits_of_repeat n body = exits_out _ _ (s.outs-Repeat n body)

pub exits_of_break : exits_of s.Break ≡ exits false true
unfolding exits_by
exits_of_break = exits_out _ _ s.outs-Break

pub exits_of_lookup : (x table : ℕ) (a key : Word) (n : ℕ) → exits_of (s.Lookup x table a key n) ≡ exits true false
unfolding exits_by
exits_of_lookup x table a key n = exits_out _ _ (s.outs-Lookup x table a key n)

pub exits_of_walk : (x table : ℕ) (a key : Word) (n : ℕ) → exits_of (s.Walk x table a key n) ≡ exits true false
unfolding exits_by
exits_of_walk x table a key n = exits_out _ _ (s.outs-Walk x table a key n)

pub exits_of_reply : (words : List Word) → exits_of (s.Reply words) ≡ exits false false
unfolding exits_by
exits_of_reply words = exits_out _ _ (s.outs-Reply words)

pub idles_out : (k : Kernel) (layer : Kernel-F Kernel) → out-Kernel k ≡ layer → idles_of k ≡ idles_by (map-Kernel Kernel Idles idles_of layer)
unfolding idles_of
idles_out k layer e = fold_out-Kernel Idles idles_by k ∙ ap (λ l. idles_by (map-Kernel Kernel Idles idles_of l)) e

pub idles_of_move : (x : ℕ) (a : Word) → idles_of (s.Move x a) ≡ idles false false
unfolding idles_by
idles_of_move x a = idles_out _ _ (s.outs-Move x a)

pub idles_of_add : (x : ℕ) (a : Word) → idles_of (s.Add x a) ≡ idles false false
unfolding idles_by
idles_of_add x a = idles_out _ _ (s.outs-Add x a)

pub idles_of_load : (x table : ℕ) (a : Word) → idles_of (s.Load x table a) ≡ idles false false
unfolding idles_by
idles_of_load x table a = idles_out _ _ (s.outs-Load x table a)

pub idles_of_store : (table : ℕ) (a b : Word) → idles_of (s.Store table a b) ≡ idles false false
unfolding idles_by
idles_of_store table a b = idles_out _ _ (s.outs-Store table a b)

pub idles_of_if : (wide : Bool) (a b : Word) (met unmet : List Kernel) → idles_of (s.If wide a b met unmet) ≡ idles false false
unfolding idles_by
idles_of_if wide a b met unmet = idles_out _ _ (s.outs-If wide a b met unmet)

pub idles_of_loop : (body : List Kernel) → idles_of (s.Loop body) ≡ idles false (breaks_idly body)
unfolding idles_by
idles_of_loop body = idles_out _ _ (s.outs-Loop body)

pub idles_of_repeat : (n : ℕ) (body : List Kernel) → idles_of (s.Repeat n body) ≡ idles false false
unfolding idles_by
idles_of_repeat n body = idles_out _ _ (s.outs-Repeat n body)

pub idles_of_break : idles_of s.Break ≡ idles true false
unfolding idles_by
idles_of_break = idles_out _ _ s.outs-Break

pub idles_of_lookup : (x table : ℕ) (a key : Word) (n : ℕ) → idles_of (s.Lookup x table a key n) ≡ idles false false
unfolding idles_by
idles_of_lookup x table a key n = idles_out _ _ (s.outs-Lookup x table a key n)

pub idles_of_walk : (x table : ℕ) (a key : Word) (n : ℕ) → idles_of (s.Walk x table a key n) ≡ idles false false
unfolding idles_by
idles_of_walk x table a key n = idles_out _ _ (s.outs-Walk x table a key n)

pub idles_of_reply : (words : List Word) → idles_of (s.Reply words) ≡ idles false false
unfolding idles_by
idles_of_reply words = idles_out _ _ (s.outs-Reply words)

pub weight_out : (k : Kernel) (layer : Kernel-F Kernel) → out-Kernel k ≡ layer → weight_of k ≡ weight_by (map-Kernel Kernel ℕ weight_of layer)
unfolding weight_of
weight_out k layer e = fold_out-Kernel ℕ weight_by k ∙ ap (λ l. weight_by (map-Kernel Kernel ℕ weight_of l)) e

pub weight_of_move : (x : ℕ) (a : Word) → weight_of (s.Move x a) ≡ 1
unfolding weight_by
weight_of_move x a = weight_out _ _ (s.outs-Move x a)

pub weight_of_add : (x : ℕ) (a : Word) → weight_of (s.Add x a) ≡ 1
unfolding weight_by
weight_of_add x a = weight_out _ _ (s.outs-Add x a)

pub weight_of_load : (x table : ℕ) (a : Word) → weight_of (s.Load x table a) ≡ 1
unfolding weight_by
weight_of_load x table a = weight_out _ _ (s.outs-Load x table a)

pub weight_of_store : (table : ℕ) (a b : Word) → weight_of (s.Store table a b) ≡ 1
unfolding weight_by
weight_of_store table a b = weight_out _ _ (s.outs-Store table a b)

pub weight_of_if : (wide : Bool) (a b : Word) (met unmet : List Kernel) → weight_of (s.If wide a b met unmet) ≡ 1 + weight_of_all met + weight_of_all unmet
unfolding weight_by
weight_of_if wide a b met unmet = weight_out _ _ (s.outs-If wide a b met unmet)

pub weight_of_loop : (body : List Kernel) → weight_of (s.Loop body) ≡ 1 + weight_of_all body
unfolding weight_by
weight_of_loop body = weight_out _ _ (s.outs-Loop body)

pub weight_of_repeat : (n : ℕ) (body : List Kernel) → weight_of (s.Repeat n body) ≡ 2 + weight_of_all body
unfolding weight_by
weight_of_repeat n body = weight_out _ _ (s.outs-Repeat n body)

pub weight_of_break : weight_of s.Break ≡ 1
unfolding weight_by
weight_of_break = weight_out _ _ s.outs-Break

pub weight_of_lookup : (x table : ℕ) (a key : Word) (n : ℕ) → weight_of (s.Lookup x table a key n) ≡ min n 4 + 1
unfolding weight_by
weight_of_lookup x table a key n = weight_out _ _ (s.outs-Lookup x table a key n)

pub weight_of_walk : (x table : ℕ) (a key : Word) (n : ℕ) → weight_of (s.Walk x table a key n) ≡ 5
unfolding weight_by
weight_of_walk x table a key n = weight_out _ _ (s.outs-Walk x table a key n)

pub weight_of_reply : (words : List Word) → weight_of (s.Reply words) ≡ 1
unfolding weight_by
weight_of_reply words = weight_out _ _ (s.outs-Reply words)

-- a fact of each statement holds of a statement and all in its blocks
pub every_of : (Q : Kernel-F Kernel → Type 0) (k : Kernel) (layer : Kernel-F Kernel) (held : Kernel-F ((x : Kernel) × every-Kernel Q x)) →
    out-Kernel k ≡ layer → map-Kernel ((x : Kernel) × every-Kernel Q x) Kernel (λ e. e.0) held ≡ layer → Q layer → every-Kernel Q k
every_of Q k layer held out e q = subst (every-Kernel Q) (ap roll-Kernel (sym out) ∙ roll-out-Kernel k) (every_made-Kernel Q layer held e q)
