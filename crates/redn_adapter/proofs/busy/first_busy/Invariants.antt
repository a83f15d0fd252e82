use Rattle.std.proofs.Common.{◌≡◌, ℕ, ◌<◌, true, false, length, map, get_or}
use Rattle.redn_words.specs.States.{Queue}
use Rattle.redn_adapter.specs.Busy.{is_busy}
use Rattle.redn_adapter.proofs.busy.first_busy.Given as goal

-- the queues so far have their marks
abbrev pub invariant-loop-queue : goal.invariant-loop-queue
invariant-loop-queue l = record {
  groups : l.busy.groups ≡ l.chains;
  group : l.busy.group ≡ map (λ (u : Queue). u.row.domain) l.queues;
  many : length l.busy.marked ≡ length l.queues;
  busy : (q : ℕ) (d : Queue) → q < l.queue → is_busy (get_or l.queues q d) ≡ true → get_or l.busy.marked q false ≡ true;
}
