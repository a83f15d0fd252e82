use Rattle.std.proofs.Common.{◌≡◌, ℕ, Some, false, get_or, sym, ap, ◌∙◌}
use Rattle.std.specs.Prelude.{slice_get}
use Rattle.std.specs.List.{All}
use Rattle.std.proofs.lemmas.Option.{slice_get-get_or, slice_get_within, get_or_from_slice_get}
use Rattle.redn_words.specs.States.{State, Queue}
use Rattle.redn_adapter.specs.Quiet.{is_active}
use Rattle.redn_adapter.proofs.Quiet.{then_quiet, quiet_idle}
use Rattle.redn_adapter.proofs.adapter.Adapter.quiet.Goals as goal

idle_at : (s : State) → All (λ (u : Queue). is_active s u ≡ false) s.queues → (q : ℕ) (u : Queue) → slice_get s.queues q ≡ Some u → is_active s u ≡ false
idle_at s all q u there = ap (is_active s) (sym (get_or_from_slice_get s.queues q u u there)) ∙ all q u (slice_get_within s.queues q u there)

pub returns-then-delivers_none : goal.returns-then-delivers_none
returns-then-delivers_none c =
    let s = c.args.self.now.state in (
      λ e. then_quiet s (c.delivers_none.ensures.0 c.if-delivers_none.true) (idle_at s (c.all_idle.ensures.0 e)),
      λ quiet. c.all_idle.ensures.1 (λ k d l. quiet_idle s quiet k (get_or s.queues k d) (slice_get-get_or s.queues k d l)),
    )
