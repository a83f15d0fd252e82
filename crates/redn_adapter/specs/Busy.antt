-- Queues that may have something useful to do.
use Rattle.std.specs.Prelude.{◌≡◌, ℕ, ◌<◌, Bool, true, false, not, ◌&&◌, ◌||◌, ◌==◌, nat_lt, is_some, List, length, map, get_or, Some, slice_get}
use Rattle.std.specs.List.{list_any}
use Rattle.std.specs.FinMap as finite
use Rattle.redn_words.specs.States.{Queue, State}
use Rattle.redn_marks.specs.Marks.{Marks}
use Rattle.redn_adapter.specs.Quiet.{is_active}

-- it runs, and has an index below its limit, a copy of head, or a request in flight
abbrev pub is_busy : Queue → Bool
is_busy u = not u.stopped && (nat_lt u.head u.limit || is_some (finite.get u.held u.head) || nat_lt 0 (length u.flights))

-- each queue that is busy has a mark, in the group of its chain
pub record KeepsBusy (marks : Marks) (chains : ℕ) (queues : List Queue) : Type 0 where
  pub groups : marks.groups ≡ chains
  pub group : marks.group ≡ map (λ (u : Queue). u.row.domain) queues
  pub many : length marks.marked ≡ length queues
  pub busy : (q : ℕ) (d : Queue) → q < length queues → is_busy (get_or queues q d) ≡ true → get_or marks.marked q false ≡ true

-- a queue that is there, of a chain
pub record IsQueueOf (s : State) (c q : ℕ) : Type 0 where
  pub queue : Queue
  pub there : slice_get s.queues q ≡ Some queue
  pub domain : queue.row.domain ≡ c

-- some queues of a chain, and among them all that have something useful to do
pub record HasActive (s : State) (c : ℕ) (list : List ℕ) : Type 0 where
  pub its : (q : ℕ) → list_any (λ (r : ℕ). q == r) list ≡ true → IsQueueOf s c q
  pub all : (q : ℕ) (u : Queue) → slice_get s.queues q ≡ Some u → u.row.domain ≡ c → is_active s u ≡ true → list_any (λ (r : ℕ). q == r) list ≡ true
