-- The lists of actions that are made by rules.
use Rattle.std.specs.Prelude.{ℕ, ◌+◌, Bool, false, ◌||◌, ◌==◌, nat_le, nat_lt, if◌then◌else◌, List, [], ◌∷◌, ◌++◌, length, Option, Some, None, is_some, replicate, zero, suc, slice_get, slice_set, slice_index}
use Rattle.std.specs.List.{filter, find, list_any, range_with_len}
use Rattle.redn_words.specs.declared.types.Action.{Action}
use Rattle.redn_words.specs.declared.types.Action.TheVariants.{Deliver, Fetch, Start, Land, Complete}
use Rattle.redn_words.specs.States.{Queue, State}
use Rattle.redn_words.specs.Steps.{possible, after, with_queue}
use Rattle.redn_queue.specs.Telling.{least_unheld, oldest_unlanded}

-- the numbers from a cursor on, and then those below it
abbrev pub cyclically : ℕ → List ℕ → List ℕ
cyclically cursor numbers = filter (nat_le cursor) numbers ++ filter (λ (n : ℕ). nat_lt n cursor) numbers

abbrev pub is_of : ℕ → Option Queue → Bool
is_of c None = false
is_of c (Some queue) = queue.row.domain == c

-- a chain's queues, by rising number
abbrev pub queues_of : State → ℕ → List ℕ
queues_of s c = filter (λ (q : ℕ). is_of c (slice_get s.queues q)) (range_with_len 0 (length s.queues))

abbrev pub land_of : ℕ → Option ℕ → List Action
land_of q None = []
land_of q (Some i) = Land q i ∷ []

abbrev pub fetch_of : ℕ → Option ℕ → List Action
fetch_of q None = []
fetch_of q (Some i) = Fetch q i ∷ []

-- what a queue may be taken for, the first one first: the oldest completes, the oldest unlanded one lands, head starts, the least index that isn't held is fetched
abbrev pub in_turn : ℕ → Queue → List Action
in_turn q queue = Complete q ∷ (land_of q (oldest_unlanded queue) ++ (Start q ∷ fetch_of q (least_unheld queue)))

-- the first of them that is possible
abbrev pub queue_action : State → ℕ → Option Action
queue_action s q = with_queue (slice_get s.queues q) None (λ queue. find (possible s) (in_turn q queue))

abbrev pub queue_acts : State → ℕ → Bool
queue_acts s q = is_some (queue_action s q)

-- a chain that may be taken
abbrev pub chain_acts : State → ℕ → Bool
chain_acts s c = possible s (Deliver c) || list_any (queue_acts s) (queues_of s c)

-- where the next chain is looked for, and of each chain the next queue
pub record Cursors : Type 0 where
  pub chain : ℕ
  pub queues : List ℕ

abbrev pub first_cursors : State → Cursors
first_cursors s = record { chain = 0; queues = replicate (length s.chains) 0 }

-- A chain's active queue is the first one, cyclically from its cursor, that has a useful action which is possible. The cursor moves to it.
abbrev pub queue_from : State → List ℕ → ℕ → Option ℕ
queue_from s cursors c = find (queue_acts s) (cyclically (slice_index cursors c) (queues_of s c))

abbrev pub active_queue : State → Cursors → ℕ → Option ℕ
active_queue s k c = queue_from s k.queues c

abbrev pub with_action : Cursors → Option Action → Option (Action × Cursors)
with_action k None = None
with_action k (Some a) = Some (a, k)

abbrev pub by_queue : State → Cursors → ℕ → Option ℕ → Option (Action × Cursors)
by_queue s k c None = None
by_queue s k c (Some q) = with_action (record k { queues = slice_set k.queues c q }) (queue_action s q)

-- a chain's next action: its message, or else that of its active queue. The chain after it comes next
abbrev pub by_chain : State → Cursors → Option ℕ → Option (Action × Cursors)
by_chain s k None = None
by_chain s k (Some c) =
    let next = record k { chain = c + 1 } in
    if possible s (Deliver c) then Some (Deliver c, next) else by_queue s next c (active_queue s k c)

-- the chain that is taken is the first one, cyclically from the cursor, that has a useful action which is possible
abbrev pub fair_next : State → Cursors → Option (Action × Cursors)
fair_next s k = by_chain s k (find (chain_acts s) (cyclically k.chain (range_with_len 0 (length s.chains))))

-- the next action and those that follow it, if there is one
abbrev pub followed : Option (Action × Cursors) → (Action → Cursors → List Action) → List Action
followed None go = []
followed (Some p) go = go p.0 p.1

abbrev pub fair_from : ℕ → State → Cursors → List Action
fair_from zero s k = []
fair_from (suc n) s k = followed (fair_next s k) (λ a next. a ∷ fair_from n (after s a) next)

-- at most n actions by the fair rules, until no useful one is possible
unfoldable pub fair : ℕ → State → List Action
fair n s = fair_from n s (first_cursors s)
