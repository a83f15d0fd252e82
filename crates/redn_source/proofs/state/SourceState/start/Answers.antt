use Rattle.std.proofs.Common.{◌≡◌, ℕ, List, [], Option, Vec, Global, length, map, sym, ap, ◌∙◌}
use Rattle.std.specs.Option.{option_map}
use Rattle.redn_kernel.specs.declared.types.TableInit.{TableInit}
use Rattle.redn_kernel.specs.Source.{Source, ChainState, source_start}
use Rattle.redn_source.specs.RunView.{run_view}
use Rattle.redn_source.specs.Starting.{misfits}
use Rattle.redn_source.proofs.Fresh.{length-fresh_chains}
use Rattle.redn_words.proofs.Misfits.{none_first}
use Rattle.redn_source.proofs.Misfits.{all_fit}
use Rattle.redn_source.proofs.state.SourceState.start.Goals as goal
use Rattle.redn_source.proofs.state.SourceState.start.Goals.{In_default}

messages_of : List (Option (Vec ℕ Global)) → List (Option (List ℕ))
messages_of kept = map (option_map (λ (v : Vec ℕ Global). v.items)) kept

no_misfit : (c : In_default) → misfits 0 c.args.p.now.chains (messages_of c.ms.inside.list.items) ≡ []
unfolding messages_of
no_misfit c =
    let e = sym c.in_default.is ∙ c.first_misfit.ensures in
    none_first _ (rw (c.as_slice-chains.ensures, c.deref.ensures.value) at e)

pub first_runs-requires-clause-fits : goal.first_runs-requires-clause-fits
unfolding messages_of
first_runs-requires-clause-fits c =
    rw (c.as_slice-chains.ensures, c.deref-2.ensures.value) (all_fit 0 _ _ (no_misfit (goal.at.first_runs-requires-clause-fits c).In_default))

pub returns-clause-state : goal.returns-clause-state
unfolding source_start
returns-clause-state c =
    let state : List (List ℕ) → List ChainState → Source = λ tables chains. record { tables = tables; chains = chains } in
    let tables = rw c.as_slice.ensures at c.in_ok-tables.ensures in
    let chains = rw (c.as_slice-chains.ensures, c.deref-2.ensures.value) at c.in_ok-chains.ensures.fresh in
    rw (← c.ms.view_is) (ap (λ ts. state ts (map run_view c.in_ok-chains.chains.items)) tables ∙ ap (state (map (λ (t : TableInit). t.bytes) c.args.p.now.tables)) chains)

pub returns-clause-fits : goal.returns-clause-fits
unfolding messages_of
returns-clause-fits c = rw (← c.ms.view_is) (no_misfit (goal.at.returns-clause-fits c).In_default)

pub returns-clause-chains : goal.returns-clause-chains
returns-clause-chains c =
    ap length c.in_ok-chains.ensures.fresh ∙ length-fresh_chains c.as_slice-chains.result.now _ ∙ ap length c.as_slice-chains.ensures
