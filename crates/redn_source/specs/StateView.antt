-- How the fields of a source state are seen, and what they keep.
use Rattle.std.specs.Prelude.{map}
use Rattle.std.specs.List.{All}
use Rattle.redn_source.specs.declared.state.SourceState.TheInside.{Inside}
use Rattle.redn_kernel.specs.Source.{Source}
use Rattle.redn_source.specs.RunView.{run_view, IsRun}

abbrev pub state_view : Inside → Source
state_view a = record { tables = map (λ v. v.items) a.tables.items; chains = map run_view a.chains.items }

abbrev pub IsState : Inside → Type 0
IsState a = All IsRun a.chains.items
