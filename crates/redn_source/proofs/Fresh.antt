-- The first states of chains, one after another.
use Rattle.std.proofs.Common.{◌≡◌, ℕ, zero, suc, ◌+◌, ◌<◌, List, [], ◌∷◌, ◌++◌, Option, None, length, map, get_or, drop, refl, sym, ap, ◌∙◌, arith, append_assoc}
use Rattle.std.specs.Option.{option_map}
use Rattle.std.proofs.lemmas.List.{drop_more, length-map, get_or-map, map-append}
use Rattle.redn_kernel.specs.declared.types.ChainInit.{ChainInit}
use Rattle.redn_source.specs.declared.run.Run.{Run}
use Rattle.redn_kernel.specs.Source.{ChainState, fresh_chain, fresh_chains}
use Rattle.redn_source.specs.Starting.{FitsArguments, AllFit}
use Rattle.redn_source.specs.RunView.{run_view}

fresh_from : (k : ℕ) (chains : List ChainInit) (messages : List (Option (List ℕ))) (chain : ChainInit) (m : Option (List ℕ)) → k < length chains → k < length messages →
    fresh_chains (drop k chains) (drop k messages) ≡ fresh_chain (get_or chains k chain) (get_or messages k m) ∷ fresh_chains (drop (k + 1) chains) (drop (k + 1) messages)
fresh_from k chains messages chain m lc lm = rw (drop_more chains k chain lc, drop_more messages k m lm) refl

-- one more chain has its state
pub fresh_more : {V : Type 0} (items : V → List ℕ) (k : ℕ) (chains : List ChainInit) (kept : List (Option V)) (chain : ChainInit) (v : Option V) (runs : List Run) (run : Run) (all : List ChainState) →
    k < length chains → length kept ≡ length chains → chain ≡ get_or chains k chain → v ≡ get_or kept k v → run_view run ≡ fresh_chain chain (option_map items v) →
    map run_view runs ++ fresh_chains (drop k chains) (drop k (map (option_map items) kept)) ≡ all →
    map run_view (runs ++ run ∷ []) ++ fresh_chains (drop (k + 1) chains) (drop (k + 1) (map (option_map items) kept)) ≡ all
fresh_more items k chains kept chain v runs run all lc same ec ev is e =
    let messages = map (option_map items) kept in
    let lk : k < length kept = omega arith in
    let lm : k < length messages = omega (arith, length-map kept (option_map items)) in
    let at : get_or messages k None ≡ option_map items v = get_or-map (option_map items) kept k v None lk ∙ ap (option_map items) (sym ev) in
    let first : run_view run ≡ fresh_chain (get_or chains k chain) (get_or messages k None) = is ∙ ap (λ c. fresh_chain c (option_map items v)) ec ∙ ap (fresh_chain (get_or chains k chain)) (sym at) in
    let rest = fresh_chains (drop (k + 1) chains) (drop (k + 1) messages) in
    ap (λ states. states ++ rest) (map-append run_view runs (run ∷ []))
    ∙ append_assoc (map run_view runs) (run_view run ∷ []) rest
    ∙ ap (λ t. map run_view runs ++ t ∷ rest) first
    ∙ ap (λ states. map run_view runs ++ states) (sym (fresh_from k chains messages chain None lc lm))
    ∙ e

fits_at : (k : ℕ) (chains : List ChainInit) (messages : List (Option (List ℕ))) (chain : ChainInit) (m : Option (List ℕ)) → k < length chains → k < length messages → AllFit chains messages → FitsArguments (get_or chains k chain) (get_or messages k m)
fits_at k [] messages chain m lc lm h = absurd (omega arith)
fits_at k (c ∷ chains) [] chain m lc lm h = absurd (omega arith)
fits_at zero (c ∷ chains) (n ∷ messages) chain m lc lm h = h.0
fits_at (suc k) (c ∷ chains) (n ∷ messages) chain m lc lm h = fits_at k chains messages chain m (omega arith) (omega arith) h.1

pub fits_here : {V : Type 0} (items : V → List ℕ) (k : ℕ) (chains : List ChainInit) (kept : List (Option V)) (chain : ChainInit) (v : Option V) → k < length chains → length kept ≡ length chains →
    chain ≡ get_or chains k chain → v ≡ get_or kept k v → AllFit chains (map (option_map items) kept) → FitsArguments chain (option_map items v)
fits_here items k chains kept chain v lc same ec ev h =
    let messages = map (option_map items) kept in
    let lk : k < length kept = omega arith in
    let lm : k < length messages = omega (arith, length-map kept (option_map items)) in
    let at : get_or messages k None ≡ option_map items v = get_or-map (option_map items) kept k v None lk ∙ ap (option_map items) (sym ev) in
    rw ec (rw (← at) (fits_at k chains messages chain None lc lm h))

pub length-fresh_chains : (chains : List ChainInit) (messages : List (Option (List ℕ))) → length (fresh_chains chains messages) ≡ length chains
length-fresh_chains [] messages = refl
length-fresh_chains (chain ∷ chains) [] = ap suc (length-fresh_chains chains [])
length-fresh_chains (chain ∷ chains) (m ∷ messages) = ap suc (length-fresh_chains chains messages)
