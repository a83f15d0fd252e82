use Rattle.std.proofs.Common.{◌≡◌, ℕ, ◌<◌, false}
use Rattle.std.specs.Prelude.{slice_get}
use Rattle.redn_words.specs.Steps.{deliver_possible}
use Rattle.redn_adapter.proofs.adapter.Adapter.delivers_none.Given as goal

abbrev pub invariant-loop-c : goal.invariant-loop-c
invariant-loop-c l = (k : ℕ) → k < l.c → deliver_possible (slice_get l.fn.self.state.receives k) (slice_get l.fn.self.state.chains k) ≡ false
