use Rattle.std.proofs.Common.{◌≡◌, ℕ, ◌<◌, false, get_or}
use Rattle.redn_words.specs.States.{Queue}
use Rattle.redn_adapter.specs.Quiet.{is_active}
use Rattle.redn_adapter.proofs.adapter.Adapter.all_idle.Given as goal

abbrev pub invariant-loop-u : goal.invariant-loop-u
invariant-loop-u l = (k : ℕ) (d : Queue) → k < l.u-index → is_active l.fn.self.state (get_or l.u-items k d) ≡ false
