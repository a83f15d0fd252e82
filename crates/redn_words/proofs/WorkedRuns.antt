-- Whole runs of small images by hand, computed.
use Rattle.std.proofs.Common.{◌≡◌, ℕ, true, false, List, [], ◌∷◌, ◌++◌, map, refl, replicate}
use Rattle.std.specs.Prelude.{None}
use Rattle.std.specs.FinMap.{gets}
use Rattle.redn_words.specs.declared.types.Region.{Region}
use Rattle.redn_words.specs.declared.types.Receive.{Receive}
use Rattle.redn_words.specs.declared.types.Kind.{Kind}
use Rattle.redn_words.specs.declared.types.Kind.TheVariants.{Table, Code, Control}
use Rattle.redn_words.specs.declared.types.Obs.{Obs}
use Rattle.redn_words.specs.declared.types.Obs.TheVariants as shows
use Rattle.redn_words.specs.declared.types.Action.{Action}
use Rattle.redn_words.specs.declared.types.Action.TheVariants.{Fetch, Start, Land}
use Rattle.redn_words.specs.Words.{number, spelled}
use Rattle.redn_words.specs.Requests.{decoded, encoded, opcode_named}
use Rattle.redn_words.specs.Access.{access}
use Rattle.redn_words.specs.Landings.{lands}
use Rattle.redn_words.specs.States.{State, Queue, start}
use Rattle.redn_words.specs.Steps.{possible, after, shown, may_start, started, counter_of, is_stale, is_useful}
use Rattle.redn_words.specs.Runs.{reached, all_shown, useful_for}

-- a slot by its fields: opcode, local and remote key, local and remote offset, length, operands, flags
slot : ℕ → ℕ → ℕ → ℕ → ℕ → ℕ → ℕ → ℕ → ℕ → List ℕ
slot op lkey rkey local remote len first second flags =
    encoded (record { op = op; id = 0; lkey = lkey; rkey = rkey; local = local; remote = remote; length = len; first = first; second = second; flags = flags })

code_region : Kind → Region
code_region kind = record { key = 1; domain = 0; kind = kind; rights = 4; base = 0; len = 128 }

control_region : Region
control_region = record { key = 2; domain = 0; kind = Control; rights = 0; base = 128; len = 64 }

no_message : Receive
no_message = record { base = 0; len = 0 }

-- An ordinary queue whose first request rewrites the second's first word from NOOP to SEND.
rewriting : Kind → State
rewriting kind =
    start (code_region kind ∷ control_region ∷ []) (record { domain = 0; managed = false; base = 0; slots = 2; limit = 2 } ∷ []) (no_message ∷ [])
    (slot 1 2 1 0 64 8 0 0 1 ++ slot 0 2 0 8 0 8 0 0 1 ++ spelled 8 1407374883553280 ++ spelled 8 7 ++ replicate 48 0) (None ∷ [])

seven : Obs
seven = shows.Reply 0 1 (7 ∷ 0 ∷ 0 ∷ 0 ∷ 0 ∷ 0 ∷ 0 ∷ 0 ∷ [])

prefetched : List Action
prefetched = Fetch 0 0 ∷ Fetch 0 1 ∷ Start 0 ∷ Land 0 0 ∷ []

a_prefetched_noop_is_stale : all_shown (rewriting Code) (prefetched ++ Start 0 ∷ Land 0 1 ∷ []) ≡ shows.Stale 0 1 ∷ []
unfolding slot code_region control_region no_message rewriting prefetched number spelled decoded encoded opcode_named access lands start possible after shown may_start started counter_of
a_prefetched_noop_is_stale = simp gets refl

that_start_is_stale : is_stale (reached (rewriting Code) prefetched) (Start 0) ≡ true
unfolding slot code_region control_region no_message rewriting prefetched number spelled decoded encoded opcode_named access lands start possible after shown may_start started counter_of
that_start_is_stale = simp gets refl

-- a second fetch of the index is lawful, makes the copy fresh, and isn't useful
a_second_fetch_is_fresh : all_shown (rewriting Code) (prefetched ++ Fetch 0 1 ∷ Start 0 ∷ Land 0 1 ∷ []) ≡ seven ∷ []
unfolding slot code_region control_region no_message seven rewriting prefetched number spelled decoded encoded opcode_named access lands start possible after shown may_start started counter_of
a_second_fetch_is_fresh = simp gets refl

it_is_not_useful : is_useful (reached (rewriting Code) prefetched) (Fetch 0 1) ≡ false
unfolding slot code_region control_region no_message rewriting prefetched number spelled decoded encoded opcode_named access lands start possible after shown may_start started counter_of
it_is_not_useful = simp gets refl

six_are_useful : useful_for 0 (rewriting Code) (prefetched ++ Fetch 0 1 ∷ Start 0 ∷ Land 0 1 ∷ []) ≡ 6
unfolding slot code_region control_region no_message rewriting prefetched number spelled decoded encoded opcode_named access lands start possible after shown may_start started counter_of
six_are_useful = simp gets refl

-- The same where the ring is registered as a table: the rewrite is seen.
a_rewritten_table : all_shown (rewriting (Table 0)) (Fetch 0 0 ∷ Start 0 ∷ Land 0 0 ∷ Fetch 0 1 ∷ Start 0 ∷ Land 0 1 ∷ []) ≡ shows.Store 0 0 64 1407374883553280 ∷ seven ∷ []
unfolding slot code_region control_region no_message seven rewriting number spelled decoded encoded opcode_named access lands start possible after shown may_start started counter_of
a_rewritten_table = simp gets refl

-- An undefined opcode stops its queue, and no other.
two_queues : State
two_queues =
    start (control_region ∷ []) (record { domain = 0; managed = false; base = 0; slots = 1; limit = 1 } ∷ record { domain = 0; managed = false; base = 64; slots = 1; limit = 1 } ∷ []) (no_message ∷ [])
    (slot 9 0 0 0 0 0 0 0 0 ++ slot 5 2 0 8 0 8 0 0 1 ++ replicate 8 0 ++ spelled 8 7 ++ replicate 48 0) (None ∷ [])

undefined_then_reply : List Action
undefined_then_reply = Fetch 0 0 ∷ Start 0 ∷ Fetch 1 0 ∷ Start 1 ∷ Land 1 0 ∷ []

an_undefined_opcode_stops : all_shown two_queues undefined_then_reply ≡ shows.Undefined 0 0 ∷ seven ∷ []
unfolding slot control_region no_message seven two_queues undefined_then_reply number spelled decoded encoded opcode_named access lands start possible after shown may_start started counter_of
an_undefined_opcode_stops = simp gets refl

a_stopped_queue_takes_no_action : possible (reached two_queues undefined_then_reply) (Fetch 0 0) ≡ false
unfolding slot control_region no_message two_queues undefined_then_reply number spelled decoded encoded opcode_named access lands start possible after shown may_start started counter_of
a_stopped_queue_takes_no_action = simp gets refl

-- A managed queue with limit 1 of two slots.
limited : State
limited =
    start (code_region Code ∷ control_region ∷ []) (record { domain = 0; managed = true; base = 0; slots = 2; limit = 1 } ∷ []) (no_message ∷ [])
    (slot 5 2 0 8 0 8 0 0 1 ++ slot 0 2 0 8 0 8 0 0 1 ++ spelled 8 1407374883553280 ++ spelled 8 7 ++ replicate 48 0) (None ∷ [])

below_the_limit : all_shown limited (Fetch 0 0 ∷ Start 0 ∷ Land 0 0 ∷ []) ≡ seven ∷ []
unfolding slot code_region control_region no_message seven limited number spelled decoded encoded opcode_named access lands start possible after shown may_start started counter_of
below_the_limit = simp gets refl

past_the_limit : possible (reached limited (Fetch 0 0 ∷ Start 0 ∷ Land 0 0 ∷ [])) (Fetch 0 1) ≡ false
unfolding slot code_region control_region no_message limited number spelled decoded encoded opcode_named access lands start possible after shown may_start started counter_of
past_the_limit = simp gets refl

-- A queue that opens itself without end.
opening_itself : State
opening_itself =
    start [] (record { domain = 0; managed = true; base = 0; slots = 1; limit = 1 } ∷ []) (no_message ∷ []) (slot 7 0 0 0 0 0 0 18446744073709551615 0) (None ∷ [])

head_and_limit : Queue → ℕ × ℕ
head_and_limit u = (u.head, u.limit)

it_goes_on : map head_and_limit (reached opening_itself (Fetch 0 0 ∷ Start 0 ∷ Fetch 0 1 ∷ Start 0 ∷ [])).queues ≡ (2, 18446744073709551615) ∷ []
unfolding slot no_message opening_itself head_and_limit number spelled decoded encoded opcode_named access lands start possible after shown may_start started counter_of
it_goes_on = simp gets refl

it_shows_nothing : all_shown opening_itself (Fetch 0 0 ∷ Start 0 ∷ Fetch 0 1 ∷ Start 0 ∷ []) ≡ []
unfolding slot no_message opening_itself number spelled decoded encoded opcode_named access lands start possible after shown may_start started counter_of
it_shows_nothing = simp gets refl

-- Requests that name what their domain may not: a WAIT for another domain's counter, an ENABLE of an ordinary queue.
refusing : List ℕ → State
refusing bytes =
    start [] (record { domain = 0; managed = false; base = 0; slots = 1; limit = 1 } ∷ record { domain = 1; managed = false; base = 0; slots = 1; limit = 1 } ∷ []) (no_message ∷ no_message ∷ []) bytes (None ∷ None ∷ [])

a_wait_elsewhere_is_refused : all_shown (refusing (slot 6 0 0 0 0 0 1 5 0)) (Fetch 0 0 ∷ Start 0 ∷ []) ≡ shows.Refused 0 0 ∷ []
unfolding slot no_message refusing number spelled decoded encoded opcode_named access lands start possible after shown may_start started counter_of
a_wait_elsewhere_is_refused = simp gets refl

a_wait_for_another_chain_is_refused : all_shown (refusing (slot 6 0 0 0 0 0 65537 0 0)) (Fetch 0 0 ∷ Start 0 ∷ []) ≡ shows.Refused 0 0 ∷ []
unfolding slot no_message refusing number spelled decoded encoded opcode_named access lands start possible after shown may_start started counter_of
a_wait_for_another_chain_is_refused = simp gets refl

an_enable_of_an_ordinary_queue_is_refused : all_shown (refusing (slot 7 0 0 0 0 0 0 5 0)) (Fetch 0 0 ∷ Start 0 ∷ []) ≡ shows.Refused 0 0 ∷ []
unfolding slot no_message refusing number spelled decoded encoded opcode_named access lands start possible after shown may_start started counter_of
an_enable_of_an_ordinary_queue_is_refused = simp gets refl

-- a WAIT starts once its counter has come
a_wait_waits : possible (reached (refusing (slot 6 0 0 0 0 0 0 1 0)) (Fetch 0 0 ∷ [])) (Start 0) ≡ false
unfolding slot no_message refusing number spelled decoded encoded opcode_named access lands start possible after shown may_start started counter_of
a_wait_waits = simp gets refl
