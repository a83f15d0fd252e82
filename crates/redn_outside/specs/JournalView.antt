-- How the fields of a `Journal` are seen.
use Rattle.std.specs.Prelude.{map}
use Rattle.redn_outside.specs.Calls.{call_view}
use Rattle.redn_outside.specs.StoreCounts.{AreCounts}
use Rattle.redn_outside.specs.JournalState.{JournalState}
use Rattle.redn_outside.specs.declared.journal.Journal.TheInside.{Inside}

abbrev pub journal_view : Inside → JournalState
journal_view a = record { store = a.store; calls = map call_view a.calls.items }

abbrev pub journal_invariant : Inside → Type 0
journal_invariant a = AreCounts a.store.counts
