-- Which rows of queues a domain may raise.
use Rattle.std.specs.Prelude.{ℕ, Bool, false, ◌&&◌, ◌==◌, Option, Some, None}
use Rattle.redn_words.specs.declared.types.QueueRow.{QueueRow}

-- whether a domain may raise a queue is told by its row
abbrev pub row_may_raise : ℕ → Option QueueRow → Bool
row_may_raise domain None = false
row_may_raise domain (Some row) = row.managed && row.domain == domain
