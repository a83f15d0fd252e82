-- Messages that fit their chains, one chain after another.
use Rattle.std.proofs.Common.{◌≡◌, ℕ, ◌+◌, ◌<◌, List, [], ◌∷◌, ◌++◌, Option, None, Some, length, map, get_or, drop, sym, ap, ◌∙◌}
use Rattle.std.specs.Option.{option_map}
use Rattle.redn_words.proofs.Misfits.{both_none, misfit_fits, misfits_kept as kept_misfits}
use Rattle.redn_kernel.specs.declared.types.ChainInit.{ChainInit}
use Rattle.redn_source.specs.declared.start.StartFault.{StartFault}
use Rattle.redn_source.specs.declared.start.StartFault.TheVariants as fault
use Rattle.redn_source.specs.Starting.{wanted, misfit, misfits, FitsArguments, AllFit}

fits : (c : ℕ) (chain : ChainInit) (m : Option (List ℕ)) → misfit c chain m ≡ [] → FitsArguments chain m
fits c chain None e = tt
fits c chain (Some bytes) e = misfit_fits fault.Message c (wanted chain) (Some bytes) e

-- no misfit: each message fits
pub all_fit : (c : ℕ) (chains : List ChainInit) (messages : List (Option (List ℕ))) → misfits c chains messages ≡ [] → AllFit chains messages
all_fit c [] messages e = tt
all_fit c (chain ∷ chains) [] e = tt
all_fit c (chain ∷ chains) (m ∷ messages) e =
    let parts = both_none (misfit c chain m) (misfits (c + 1) chains messages) e in (fits c chain m parts.0, all_fit (c + 1) chains messages parts.1)

-- messages as they are kept: p is chain k, and v its message
pub misfits_kept : {V : Type 0} (items : V → List ℕ) (k : ℕ) (chains : List ChainInit) (kept : List (Option V)) (p : ChainInit) (v : Option V) → k < length chains → length kept ≡ length chains → p ≡ get_or chains k p → v ≡ get_or kept k v
    → misfits k (drop k chains) (drop k (map (option_map items) kept)) ≡ misfit k p (option_map items v) ++ misfits (k + 1) (drop (k + 1) chains) (drop (k + 1) (map (option_map items) kept))
misfits_kept items k chains kept p v l same ep e =
    let rest : List StartFault = misfits (k + 1) (drop (k + 1) chains) (drop (k + 1) (map (option_map items) kept)) in
    kept_misfits fault.Message wanted items k chains kept p v l same e ∙ ap (λ (q : ChainInit). misfit k q (option_map items v) ++ rest) (sym ep)
