-- The shuffled schedule of a number: chains and their actions are drawn.
use Rattle.std.specs.Prelude.{ℕ, ◌+◌, ◌*◌, ◌/◌, ◌%◌, ◌^◌, ◌==◌, if◌then◌else◌, List, [], ◌∷◌, ◌++◌, length, Option, Some, None, is_some, replicate, zero, suc, slice_get, slice_set}
use Rattle.std.specs.List.{filter, range_with_len}
use Rattle.std.specs.Option.{option_map}
use Rattle.std.specs.FinMap as finite
use Rattle.redn_words.specs.declared.types.Action.{Action}
use Rattle.redn_words.specs.declared.types.Action.TheVariants.{Deliver, Start, Complete}
use Rattle.redn_words.specs.States.{Queue, State}
use Rattle.redn_words.specs.Steps.{possible, after, with_queue}
use Rattle.redn_queue.specs.Telling.{least_unheld, greatest_unheld, oldest_unlanded, newest_unlanded}
use Rattle.redn_sched.specs.MadeSchedules.{chain_acts, queue_from, land_of, fetch_of}

-- the number behind z
unfoldable pub behind : ℕ → ℕ
behind z = (6364136223846793005 * z + 1442695040888963407) % 2 ^ 64

-- what z draws from a list: the number behind it tells which one
abbrev pub drawn : {X : Type 0} → ℕ → List X → Option X
drawn z xs = slice_get xs (behind z / 2 ^ 33 % length xs)

-- the second of two, where it is another
abbrev pub another : Option ℕ → Option ℕ → Option ℕ
another None o = o
another (Some i) None = None
another (Some i) (Some j) = if i == j then None else Some j

-- head, where it is held
abbrev pub held_head : Queue → Option ℕ
held_head u = if is_some (finite.get u.held u.head) then Some u.head else None

-- What may be drawn of a queue, in order: the oldest completes, the oldest unlanded one lands, the newest does, head starts, the least index that isn't held is fetched, the greatest is, head is fetched once more.
abbrev pub in_order : ℕ → Queue → List Action
in_order q u =
    Complete q
    ∷ (land_of q (oldest_unlanded u)
    ++ (land_of q (another (oldest_unlanded u) (newest_unlanded u))
    ++ (Start q
    ∷ (fetch_of q (least_unheld u)
    ++ (fetch_of q (another (least_unheld u) (greatest_unheld u))
    ++ fetch_of q (held_head u))))))

abbrev pub of_queue : State → Option ℕ → List Action
of_queue s None = []
of_queue s (Some q) = with_queue (slice_get s.queues q) [] (in_order q)

-- the actions that are drawn from: those of a chain and its active queue that are possible
abbrev pub candidates : State → ℕ → Option ℕ → List Action
candidates s c q = filter (possible s) (Deliver c ∷ of_queue s q)

-- the chains that may be taken
abbrev pub acting : State → List ℕ
acting s = filter (chain_acts s) (range_with_len 0 (length s.chains))

-- z, and where the next queue of each chain is looked for
pub record Shuffling : Type 0 where
  pub z : ℕ
  pub queues : List ℕ

abbrev pub first_shuffling : State → ℕ → Shuffling
first_shuffling s z = record { z = z; queues = replicate (length s.chains) 0 }

-- the cursor of a chain moves to its active queue
abbrev pub moved_to : List ℕ → ℕ → Option ℕ → List ℕ
moved_to cursors c None = cursors
moved_to cursors c (Some q) = slice_set cursors c q

-- an action of the chain that was drawn: it is drawn by the number behind z
abbrev pub of_chain : State → Shuffling → Option ℕ → Option (Action × Shuffling)
of_chain s k None = None
of_chain s k (Some c) =
    let z = behind k.z in
    let q = queue_from s k.queues c in
    option_map (λ (a : Action). let next : Shuffling = record { z = behind z; queues = moved_to k.queues c q } in (a, next)) (drawn z (candidates s c q))

-- the next action: one of the chains that may be taken is drawn, then one of its actions
abbrev pub shuffled_next : State → Shuffling → Option (Action × Shuffling)
shuffled_next s k = of_chain s k (drawn k.z (acting s))

-- the next action and those that follow it, if there is one
abbrev pub followed : Option (Action × Shuffling) → (Action → Shuffling → List Action) → List Action
followed None go = []
followed (Some p) go = go p.0 p.1

abbrev pub shuffled_from : ℕ → State → Shuffling → List Action
shuffled_from zero s k = []
shuffled_from (suc n) s k = followed (shuffled_next s k) (λ a next. a ∷ shuffled_from n (after s a) next)

-- at most n actions that the number z draws, until no useful one is possible
unfoldable pub shuffled : ℕ → ℕ → State → List Action
shuffled n z s = shuffled_from n s (first_shuffling s z)
