-- Some steps of one chain, taken together.
use Rattle.std.specs.Prelude.{◌≡◌, ℕ, zero, suc, ◌⊎◌, true, List}
use Rattle.redn_words.specs.declared.types.Obs.TheVariants as shows
use Rattle.redn_kernel.specs.Source.{ChainState, Turn, first_does, chain_runs}

-- no step was done
abbrev pub unchanged : List (List ℕ) → ChainState → Turn
unchanged tables t = record { tables = tables; chain = t; event = shows.Nothing }

abbrev pub silently : Turn → Turn
silently turn = record turn { event = shows.Nothing }

-- n steps of chain c, one after the other from these tables, at most one of which shows something, leave and show this
abbrev pub Steps : ℕ → List (List ℕ) → ChainState → ℕ → Turn → Type 0
Steps c tables t zero turn = turn ≡ unchanged tables t
Steps c tables t (suc n) turn =
    (chain_runs t ≡ true)
    × ((((first_does c tables t t.items).event ≡ shows.Nothing) × Steps c (first_does c tables t t.items).tables (first_does c tables t t.items).chain n turn)
    ⊎ ((turn.event ≡ (first_does c tables t t.items).event) × Steps c (first_does c tables t t.items).tables (first_does c tables t t.items).chain n (silently turn)))
