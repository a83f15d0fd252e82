-- What an adapter keeps when queues change in a step.
use Rattle.std.proofs.Common.{◌≡◌, ℕ, ◌+◌, ◌<◌, ◌≤◌, Bool, true, false, List, Vec, Global, length, get_or, set, refl, sym, ap, subst, ◌∙◌, arith}
use Rattle.std.specs.List.{All}
use Rattle.std.specs.Prelude.{IsSome, is_some}
use Rattle.std.specs.FinMap as finite
use Rattle.std.specs.Vec.{with_item}
use Rattle.redn_adapter.specs.Running.{stopped_if}
use Rattle.std.proofs.lemmas.List.{length-set}
use Rattle.std.proofs.lemmas.List.Elements.{All-weaker, All-set}
use Rattle.redn_words.specs.declared.types.QueueRow.{QueueRow}
use Rattle.redn_words.specs.declared.types.Receive.{Receive}
use Rattle.redn_words.specs.Access.{EndsBy}
use Rattle.redn_words.specs.States.{Queue}
use Rattle.redn_marks.specs.Marks.{Marks}
use Rattle.redn_adapter.specs.Busy.{KeepsBusy}
use Rattle.redn_adapter.specs.AdapterView.{IsAdapter, IsQueueAt, IsRing, AreFew}
use Rattle.redn_adapter.specs.declared.adapter.Adapter.TheInside.{Inside}

-- queues of so many chains, after so many steps
pub record AreQueues (size steps chains : ℕ) (queues : List Queue) : Type 0 where
  pub at : All (IsQueueAt size steps) queues
  pub few : length queues ≤ 65535
  pub domains : All (λ (u : Queue). u.row.domain < chains) queues

module _ (size steps chains : ℕ) (queues : List Queue) (h : AreQueues size steps chains queues) where
  later : (v : Queue) → IsQueueAt size steps v → IsQueueAt size (steps + 1) v
  later v k = record { ring = k.ring; head = omega (arith, k.head); counter = omega (arith, k.counter) }

  -- a step
  pub one_step : AreQueues size (steps + 1) chains queues
  one_step = record { at = All-weaker (IsQueueAt size steps) (IsQueueAt size (steps + 1)) later queues h.at; few = h.few; domains = h.domains }

  -- a queue changes
  pub with_changed : (q : ℕ) (u v : Queue) → q < length queues → u ≡ get_or queues q u → v.row ≡ u.row → v.head ≤ steps → v.counter ≤ steps → AreQueues size steps chains (set queues q v)
  with_changed q u v l is row head counter =
      let old : IsQueueAt size steps u = subst (IsQueueAt size steps) (sym is) (h.at q u l) in
      let its : u.row.domain < chains = subst (λ (w : Queue). w.row.domain < chains) (sym is) (h.domains q u l) in
      record {
        at = All-set (IsQueueAt size steps) queues q v (record { ring = subst (IsRing size) (sym row) old.ring; head = head; counter = counter }) h.at;
        few = omega (arith, h.few, length-set queues q v);
        domains = All-set (λ (w : Queue). w.row.domain < chains) queues q v (subst (λ (r : QueueRow). r.domain < chains) (sym row) its) h.domains;
      }

-- the queues of an adapter
pub its_queues : (a : Inside) → IsAdapter a → AreQueues (length a.memory.items) a.steps (length a.chains.items) a.queues.items
its_queues a h = record { at = h.queues; few = h.counts.queues_few; domains = h.counts.domains }

pub queue_at : (a : Inside) → IsAdapter a → (q : ℕ) (u : Queue) → q < length a.queues.items → u ≡ get_or a.queues.items q u → IsQueueAt (length a.memory.items) a.steps u
queue_at a h q u l is = subst (IsQueueAt (length a.memory.items) a.steps) (sym is) (h.queues q u l)

-- an adapter after a step, whose queues and memory may have changed
pub stays_adapter : (a : Inside) (memory : Vec ℕ Global) (queues : Vec Queue Global) (busy : Marks) → IsAdapter a → length memory.items ≡ length a.memory.items → AreQueues (length a.memory.items) (a.steps + 1) (length a.chains.items) queues.items → KeepsBusy busy (length a.chains.items) queues.items → IsAdapter (record a { memory = memory; queues = queues; busy = busy; steps = a.steps + 1 })
stays_adapter a memory queues busy h same are kept =
    record {
      size = omega (arith, h.size, same);
      regions = subst (λ (n : ℕ). EndsBy n a.regions) (sym same) h.regions;
      chains = λ k d l. omega (arith, h.chains k d l);
      receives = subst (λ (n : ℕ). All (λ (r : Receive). r.base + r.len ≤ n) a.receives.items) (sym same) h.receives;
      mails = h.mails;
      queues = subst (λ (n : ℕ). All (IsQueueAt n (a.steps + 1)) queues.items) (sym same) are.at;
      counts = record { chains_few = h.counts.chains_few; queues_few = are.few; domains = are.domains };
      places = h.places;
      busy = kept;
    }

-- the same where one queue changes
pub queue_steps : (a : Inside) (q : ℕ) (u v : Queue) (memory : Vec ℕ Global) (busy : Marks) → IsAdapter a → length memory.items ≡ length a.memory.items → q < length a.queues.items → u ≡ get_or a.queues.items q u → v.row ≡ u.row → v.head ≤ u.head + 1 → v.counter ≤ u.counter + 1 → KeepsBusy busy (length a.chains.items) (set a.queues.items q v) → IsAdapter (record a { memory = memory; queues = with_item a.queues q v; busy = busy; steps = a.steps + 1 })
queue_steps a q u v memory busy h same l is row head counter kept =
    let old = queue_at a h q u l is in
    stays_adapter a memory (with_item a.queues q v) busy h same
    (with_changed (length a.memory.items) (a.steps + 1) (length a.chains.items) a.queues.items (one_step (length a.memory.items) a.steps (length a.chains.items) a.queues.items (its_queues a h)) q u v l is row (omega (arith, old.head, head)) (omega (arith, old.counter, counter)))
    kept

pub is_held : (u : Queue) → IsSome (finite.get u.held u.head) → is_some (finite.get u.held u.head) ≡ true
is_held u h = h

-- a head that leaves changes nothing but head and what is held
pub record Leaves (u v : Queue) : Type 0 where
  pub row : v.row ≡ u.row
  pub head : v.head ≡ u.head + 1
  pub counter : v.counter ≡ u.counter

pub passes_aside : (stops : Bool) (u v : Queue) → v ≡ stopped_if stops u → Leaves u v
passes_aside true u v e = record { row = ap (λ (w : Queue). w.row) e; head = ap (λ (w : Queue). w.head) e; counter = ap (λ (w : Queue). w.counter) e }
passes_aside false u v e = record { row = ap (λ (w : Queue). w.row) e; head = ap (λ (w : Queue). w.head) e; counter = ap (λ (w : Queue). w.counter) e }
