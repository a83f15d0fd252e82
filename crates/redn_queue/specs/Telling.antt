-- What a queue tells of its indexes.
use Rattle.std.specs.Prelude.{ℕ, Bool, not, ◌&&◌, List, Option, is_none, reverse}
use Rattle.std.specs.List.{find, range_with_len}
use Rattle.std.specs.Option.{option_map}
use Rattle.std.specs.FinMap as finite
use Rattle.redn_words.specs.declared.types.Flight.{Flight}
use Rattle.redn_words.specs.States.{Queue}
use Rattle.redn_words.specs.Steps.{fetch_possible}

-- an index that may be fetched, and of which no copy is held
abbrev pub is_unheld : Queue → ℕ → Bool
is_unheld queue i = fetch_possible i queue && is_none (finite.get queue.held i)

-- as many indexes from head on as the ring has slots
abbrev pub indexes_ahead : Queue → List ℕ
indexes_ahead queue = range_with_len queue.head queue.row.slots

abbrev pub least_unheld : Queue → Option ℕ
least_unheld queue = find (is_unheld queue) (indexes_ahead queue)

abbrev pub greatest_unheld : Queue → Option ℕ
greatest_unheld queue = find (is_unheld queue) (reverse (indexes_ahead queue))

abbrev pub is_unlanded : Flight → Bool
is_unlanded f = not f.landed

abbrev pub oldest_unlanded : Queue → Option ℕ
oldest_unlanded queue = option_map (λ (f : Flight). f.index) (find is_unlanded queue.flights)

abbrev pub newest_unlanded : Queue → Option ℕ
newest_unlanded queue = option_map (λ (f : Flight). f.index) (find is_unlanded (reverse queue.flights))
