-- Lines, texts and counts worked by hand.
use Rattle.std.proofs.Common.{arith, ◌≡◌, true, false, [], ◌∷◌, length, replicate, ap, refl}
use Rattle.std.specs.Prelude.{Some, None, codes}
use Rattle.std.specs.Global.{Vec}
use Rattle.std.specs.Fmt.{digits}
use Rattle.std.specs.FinMap.{gets}
use Rattle.redn_words.specs.declared.types.Obs.{Obs}
use Rattle.redn_words.specs.declared.types.Obs.TheVariants as shows
use Rattle.redn_words.specs.declared.types.Action.TheVariants.{Deliver, Fetch, Start}
use Rattle.redn_words.specs.Words.{number, spelled}
use Rattle.redn_words.specs.Requests.{decoded, encoded, opcode_named}
use Rattle.redn_words.specs.Access.{access}
use Rattle.redn_words.specs.Landings.{lands}
use Rattle.redn_words.specs.States.{State, start}
use Rattle.redn_words.specs.Steps.{possible, after, shown, may_start, started, counter_of}
use Rattle.redn_image.specs.Rules.{Image}
use Rattle.redn_trace.specs.EventText.{event_text}
use Rattle.redn_sched.specs.MadeSchedules.{fair}
use Rattle.redn_gen.specs.Generated.{below}
use Rattle.redn_summary.specs.declared.run.Counted.{Counted}
use Rattle.redn_summary.specs.Summary.{generated_program, generated_run, counted, reply_line, summary}
use Rattle.redn_summary.specs.Counting.{is_reply, AllUseful, Counts, replies_text, told}

a_line : counted (codes "steps ") 120 ≡ codes "steps 120\n"
unfolding digits
a_line = refl

-- chain 0 of the file of 5 finds 5 + 5 a thousand times
reply_of_chain_0 : reply_line 5 0 ≡ codes "reply 0 10000 1000\n"
unfolding digits
reply_of_chain_0 = refl

-- and chain 1 finds 5 + 6
reply_of_chain_1 : reply_line 5 1 ≡ codes "reply 1 11000 1000\n"
unfolding digits
reply_of_chain_1 = refl

-- ---- replies among events

first_reply : Obs
first_reply = shows.Reply 0 2 (7 ∷ 9 ∷ 0 ∷ [])

second_reply : Obs
second_reply = shows.Reply 1 1 (8 ∷ 0 ∷ [])

a_reply : is_reply (shows.Reply 0 2 (7 ∷ 9 ∷ [])) ≡ true
a_reply = refl

a_fault_is_none : is_reply (shows.Fault 0 0 8) ≡ false
a_fault_is_none = refl

replies_of_chain_0 : replies_text (first_reply ∷ second_reply ∷ first_reply ∷ []) 0 ≡ codes "reply 0 7 9\nreply 0 7 9\n"
unfolding first_reply second_reply event_text digits
replies_of_chain_0 = refl

replies_of_chain_2 : replies_text (first_reply ∷ second_reply ∷ []) 2 ≡ []
unfolding first_reply second_reply
replies_of_chain_2 = refl

-- ---- what is told

some_count : Vec Obs → Counted
some_count replies = record { steps = 12; events = 3; replies = replies }

told_of_two_chains : (replies : Vec Obs) → replies.items ≡ second_reply ∷ first_reply ∷ [] → told 5 2 13 (some_count replies) ≡ codes "gen 5\nchains 2\nevents 3\nsteps 12\nreply 0 7 9\nreply 1 8\nend quiet\n"
unfolding first_reply second_reply some_count event_text digits below
told_of_two_chains replies e = rw e refl

-- all of 12 steps were made
told_of_all_steps : (replies : Vec Obs) → replies.items ≡ [] → told 5 1 12 (some_count replies) ≡ codes "gen 5\nchains 1\nevents 3\nsteps 12\nend steps\n"
unfolding some_count event_text digits below
told_of_all_steps replies e = rw e refl

-- ---- counts of small runs

-- a chain without a queue, whose message of 2 bytes is to come
one_message : State
one_message = start [] [] (record { base = 0; len = 2 } ∷ []) (0 ∷ 0 ∷ []) (Some (7 ∷ 9 ∷ []) ∷ [])

no_steps : (replies : Vec Obs) → replies.items ≡ [] → Counts one_message 0 [] (record { steps = 0; events = 0; replies = replies })
no_steps replies e = record { few = omega arith; can = tt; useful = tt; quiet = λ l. absurd (omega (arith, l)); steps = refl; events = refl; replies = e; printable = λ k d l. absurd (omega (arith, l, ap length e)) }

-- its delivery is useful, and shows nothing
the_delivery : (replies : Vec Obs) → replies.items ≡ [] → Counts one_message 1 (Deliver 0 ∷ []) (record { steps = 1; events = 0; replies = replies })
unfolding one_message start possible after shown
the_delivery replies e = record { few = omega arith; can = (refl, tt); useful = (refl, tt); quiet = λ l. absurd (omega (arith, l)); steps = refl; events = refl; replies = e; printable = λ k d l. absurd (omega (arith, l, ap length e)) }

-- but not the step alone that wasn't counted
not_uncounted : (replies : Vec Obs) → Counts one_message 1 (Deliver 0 ∷ []) (record { steps = 0; events = 0; replies = replies }) → ⊥
not_uncounted replies h = (let s = h.steps in omega (arith, s))

-- one queue of one slot, whose copy is fetched and fetched again
one_queue : State
one_queue = start [] (record { domain = 0; managed = true; base = 0; slots = 1; limit = 1 } ∷ []) (record { base = 0; len = 0 } ∷ []) (replicate 64 0) (None ∷ [])

first_fetch : AllUseful one_queue (Fetch 0 0 ∷ Start 0 ∷ [])
unfolding one_queue start number spelled decoded encoded opcode_named access lands possible after may_start started counter_of
first_fetch = simp gets (refl, (refl, tt))

second_fetch : AllUseful one_queue (Fetch 0 0 ∷ Fetch 0 0 ∷ []) → ⊥
unfolding one_queue start number spelled possible after
second_fetch h = (let again = simp gets at h.1.0 in absurd (cc))

-- ---- the summary

chains_of_5 : length (generated_program 5).chains ≡ 2
unfolding below digits
chains_of_5 = refl

-- an image with nothing in it, which isn't that of the file
nothing : Image
nothing = record { regions = []; queues = []; receives = []; memory = [] }

nothing_to_do : generated_run 5 nothing ≡ []
unfolding nothing start possible fair below
nothing_to_do = refl

its_text : summary 5 nothing ≡ codes "gen 5\nchains 2\nevents 8006\nsteps 0\nreply 0 10000 1000\nreply 1 11000 1000\nend quiet\n"
unfolding nothing start possible fair below digits
its_text = refl
