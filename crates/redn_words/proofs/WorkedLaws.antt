-- Classes, ranges and messages, computed.
use Rattle.std.proofs.Common.{◌≡◌, ℕ, true, false, [], ◌∷◌, Some, None, refl, replicate, ◌++◌}
use Rattle.redn_words.specs.declared.types.Kind.TheVariants.{Vars}
use Rattle.redn_words.specs.declared.types.Request.{Request}
use Rattle.redn_words.specs.declared.types.Class.TheVariants as ask
use Rattle.redn_words.specs.Words.{number}
use Rattle.redn_words.specs.Requests.{opcode_named}
use Rattle.redn_words.specs.States.{State, Queue, start, fresh_queue}
use Rattle.redn_words.specs.Landings.{change}
use Rattle.redn_words.specs.Ranges.{within, all_apart, all_inside, ranges_of, domain_holds}
use Rattle.redn_words.specs.Steps.{class_of, counter_of, may_start, refused_start}
use Rattle.redn_words.specs.Misfits.{misfits}
use Rattle.redn_words.specs.Arguments.{argument_words}

asks : ℕ → ℕ → Request
asks opcode first = record { op = opcode; id = 0; lkey = 0; rkey = 0; local = 0; remote = 0; length = 0; first = first; second = 9; flags = 0 }

a_send_flies : class_of (asks 5 0) ≡ ask.Flies
unfolding asks opcode_named
a_send_flies = refl

a_wait_passes : class_of (asks 6 0) ≡ ask.Passes
unfolding asks opcode_named
a_wait_passes = refl

an_enable_raises : class_of (asks 7 0) ≡ ask.Raises
unfolding asks opcode_named
an_enable_raises = refl

eight_is_undefined : class_of (asks 8 0) ≡ ask.Undefined
unfolding asks opcode_named
eight_is_undefined = refl

-- two queues of domain 0, of which the second is managed
two_queues : State
two_queues = start [] (record { domain = 0; managed = false; base = 0; slots = 1; limit = 1 } ∷ record { domain = 0; managed = true; base = 64; slots = 1; limit = 0 } ∷ []) [] [] []

asking : ℕ → Queue
asking domain = fresh_queue (record { domain = domain; managed = false; base = 0; slots = 1; limit = 1 })

-- an ENABLE of each, and one of a queue that isn't there
enables_managed : refused_start two_queues 0 (asks 7 1) ask.Raises ≡ false
unfolding two_queues start asks
enables_managed = refl

enables_ordinary : refused_start two_queues 0 (asks 7 0) ask.Raises ≡ true
unfolding two_queues start asks
enables_ordinary = refl

enables_nothing : refused_start two_queues 0 (asks 7 2) ask.Raises ≡ true
unfolding two_queues start asks
enables_nothing = refl

-- a WAIT for the counter of a queue, and for one of another domain
waits_for_queue : refused_start two_queues 0 (asks 6 1) ask.Passes ≡ false
unfolding two_queues start asks counter_of
waits_for_queue = refl

waits_elsewhere : refused_start two_queues 3 (asks 6 1) ask.Passes ≡ true
unfolding two_queues start asks counter_of
waits_elsewhere = refl

-- a WAIT that isn't refused waits for its count
waits_on : may_start two_queues (asking 0) (asks 6 1) ask.Passes ≡ false
unfolding two_queues start asks asking counter_of may_start
waits_on = refl

-- bytes 8 to 15 and 24 to 31
two_ranges : ranges_of (change 8 (replicate 8 1) ∷ change 24 (replicate 8 2) ∷ []) ≡ record { at = 8; len = 8 } ∷ record { at = 24; len = 8 } ∷ []
two_ranges = refl

last_within : within (record { at = 8; len = 8 } ∷ []) 15 ≡ true
last_within = refl

past_it : within (record { at = 8; len = 8 } ∷ []) 16 ≡ false
past_it = refl

neighbours_are_apart : all_apart (record { at = 8; len = 8 } ∷ []) (record { at = 0; len = 8 } ∷ record { at = 16; len = 8 } ∷ []) ≡ true
neighbours_are_apart = refl

one_byte_in_common : all_apart (record { at = 8; len = 8 } ∷ []) (record { at = 0; len = 9 } ∷ []) ≡ false
one_byte_in_common = refl

a_part_is_inside : all_inside (record { at = 9; len = 7 } ∷ []) (record { at = 8; len = 8 } ∷ []) ≡ true
a_part_is_inside = refl

its_own_domain : domain_holds (record { key = 1; domain = 0; kind = Vars; rights = 4; base = 16; len = 8 } ∷ []) 0 23 ≡ true
its_own_domain = refl

another_domain : domain_holds (record { key = 1; domain = 0; kind = Vars; rights = 4; base = 16; len = 8 } ∷ []) 1 23 ≡ false
another_domain = refl

-- of four chains the second has no message, the third's is too long, and the fourth's too short
two_misfits : misfits {F = ℕ × ℕ × ℕ} (λ c got want. (c, got, want)) 0 (2 ∷ 2 ∷ 1 ∷ 1 ∷ []) (Some (7 ∷ 8 ∷ []) ∷ None ∷ Some (1 ∷ 2 ∷ []) ∷ Some [] ∷ []) ≡ (2, 2, 1) ∷ (3, 0, 1) ∷ []
two_misfits = refl

two_words : argument_words (replicate 7 0 ++ 5 ∷ (replicate 6 0 ++ 1 ∷ 2 ∷ [])) 0 2 ≡ 5 ∷ 258 ∷ []
unfolding number
two_words = refl
