-- How the fields of an adapter are seen, and what they keep.
use Rattle.std.specs.Prelude.{◌≡◌, ℕ, ◌+◌, ◌*◌, ◌<◌, ◌≤◌, List, length, slice_get, Option, Some, None, IfSome}
use Rattle.std.specs.List.{All}
use Rattle.redn_words.specs.declared.limits.TheConstants.{MAX_MEMORY, MAX_RING}
use Rattle.redn_words.specs.declared.types.QueueRow.{QueueRow}
use Rattle.redn_words.specs.declared.types.Receive.{Receive}
use Rattle.redn_words.specs.States.{Queue, Chain}
use Rattle.redn_words.specs.Access.{EndsBy}
use Rattle.redn_adapter.specs.Mails.{pending_bytes}
use Rattle.redn_adapter.specs.Running.{Running}
use Rattle.redn_adapter.specs.Busy.{KeepsBusy}
use Rattle.redn_adapter.specs.declared.adapter.Adapter.TheInside.{Inside}

abbrev pub adapter_view : Inside → Running
adapter_view a =
    record {
      state = record { regions = a.regions; receives = a.receives.items; memory = a.memory.items; queues = a.queues.items; chains = a.chains.items };
      steps = a.steps;
    }

-- a ring lies in so many bytes of memory
pub record IsRing (size : ℕ) (row : QueueRow) : Type 0 where
  pub some : 0 < row.slots
  pub few : row.slots ≤ MAX_RING
  pub inside : row.base + 64 * row.slots ≤ size

-- head and counter have risen by at most 1 in each step
pub record IsQueueAt (size steps : ℕ) (queue : Queue) : Type 0 where
  pub ring : IsRing size queue.row
  pub head : queue.head ≤ steps
  pub counter : queue.counter ≤ steps

-- So many chains are few enough to be numbered, and so are queues, and each queue is one of these chains'.
pub record AreFew (chains : ℕ) (queues : List Queue) : Type 0 where
  pub chains_few : chains ≤ 16
  pub queues_few : length queues ≤ 65535
  pub domains : All (λ (queue : Queue). queue.row.domain < chains) queues

-- a message has the length of its place
abbrev pub MailFits : Option Receive → Option Chain → Type 0
MailFits None c = Unit {0}
MailFits (Some place) None = Unit {0}
MailFits (Some place) (Some c) = IfSome (pending_bytes c.mail) (λ bytes. length bytes ≡ place.len)

pub record IsAdapter (a : Inside) : Type 0 where
  pub size : length a.memory.items ≤ MAX_MEMORY
  pub regions : EndsBy (length a.memory.items) a.regions
  pub chains : All (λ (c : Chain). c.received ≤ a.steps) a.chains.items
  pub receives : All (λ (r : Receive). r.base + r.len ≤ length a.memory.items) a.receives.items
  pub mails : (k : ℕ) → k < length a.chains.items → MailFits (slice_get a.receives.items k) (slice_get a.chains.items k)
  pub queues : All (IsQueueAt (length a.memory.items) a.steps) a.queues.items
  pub counts : AreFew (length a.chains.items) a.queues.items
  pub places : length a.chains.items ≡ length a.receives.items
  pub busy : KeepsBusy a.busy (length a.chains.items) a.queues.items
