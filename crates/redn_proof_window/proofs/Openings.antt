-- The window that an ENABLE opens.
use Rattle.std.proofs.Common.{◌≡◌, ℕ, ◌+◌, true, List, Some, sym, ap, ◌∙◌, arith}
use Rattle.std.specs.Prelude.{slice_get}
use Rattle.redn_words.specs.declared.types.Action.{Action}
use Rattle.redn_words.specs.States.{Queue, State}
use Rattle.redn_words.specs.Steps.{after, raised, enabled_in}
use Rattle.redn_words.specs.Laws.{row_at}
use Rattle.redn_words.proofs.Others.{rows_stay, enabled_there}
use Rattle.redn_words.specs.Others.{row_may_raise}
use Rattle.redn_proof_window.specs.Windows.{By_gates, Opening, slots_of, enable_of}
use Rattle.redn_proof_window.specs.Stages.{Counts, Opened}
use Rattle.redn_proof_window.specs.Moves.{AtRest}
use Rattle.redn_proof_window.proofs.Counters.{counts_stay}

-- an ENABLE that raises this limit of this queue opens this window
pub record Next (x : Opening) (s : State) (queue limit : ℕ) : Type 0 where
  pub queue_is : x.queue ≡ queue
  pub limit_is : limit ≡ x.from + slots_of x
  pub regions : s.regions ≡ x.regions
  pub memory : s.memory ≡ x.memory
  pub waits : Counts x s
  pub target : x.ending ≡ By_gates → row_may_raise x.row.domain (row_at s.queues (enable_of x).first) ≡ true

-- where that queue is at rest, the window is then open
pub raised_opens : (x : Opening) (s : State) (a : Action) (queues : List Queue) (queue limit : ℕ) (y : Queue) → after s a ≡ record s { queues = enabled_in queues queue limit } → Next x s queue limit → slice_get queues x.queue ≡ Some y
    → AtRest x.row x.from x.counter y → Opened x (after s a) (raised y limit)
raised_opens x s a queues queue limit y is n there r =
    let at = r.limit in
    let raises = n.limit_is in
    record {
      there = ap (λ (t : State). slice_get t.queues x.queue) is ∙ ap (λ (m : ℕ). slice_get (enabled_in queues m limit) x.queue) (sym n.queue_is) ∙ enabled_there queues x.queue limit y there;
      row = r.row_is;
      runs = r.runs;
      head = r.head;
      limit = omega arith;
      held = r.held;
      flights = r.flights;
      counter = r.counted;
      regions = ap (λ (t : State). t.regions) is ∙ n.regions;
      memory = ap (λ (t : State). t.memory) is ∙ n.memory;
      waits = counts_stay s (after s a) (rows_stay s a) (λ c y there. (y, ap (λ (t : State). slice_get t.chains c) is ∙ there)) x n.waits;
      target = λ two. ap (row_may_raise x.row.domain) (rows_stay s a (enable_of x).first) ∙ n.target two;
    }
