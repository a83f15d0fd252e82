-- A small image by hand: its bytes, and what is refused of them.
use Rattle.std.proofs.Common.{◌≡◌, ℕ, false, List, [], ◌∷◌, ◌++◌, refl, lit≤, replicate, take, set}
use Rattle.std.specs.Prelude.{Some, None}
use Rattle.redn_words.specs.declared.types.Kind.TheVariants.{Code, Control}
use Rattle.redn_words.specs.Words.{number, spelled}
use Rattle.redn_words.specs.Requests.{encoded}
use Rattle.redn_image.specs.Rules.{Image, Numbers, RegionNumbers, QueueNumbers, Fault, Obeys, fault_at, faults, first_of}
use Rattle.redn_image.specs.Spelling.{spelling, spelled_region, spelled_queue, spelled_receive, NotMagic, OtherVersion, TooShort, TooLong, Broken, refused, wrong_length}
use Rattle.redn_image.specs.Answers.{HasHeader, NamesFirst, SaysWhy}
use Rattle.redn_image.specs.declared.image.RuleFault.TheVariants as row_answers
use Rattle.redn_image.specs.declared.read.ImageFault.TheVariants as byte_answers

-- a queue whose first request rewrites its second from NOOP to SEND
rewriting : Image
rewriting =
    record {
      regions = record { key = 1; domain = 0; kind = Code; rights = 4; base = 0; len = 128 } ∷ record { key = 2; domain = 0; kind = Control; rights = 0; base = 128; len = 64 } ∷ [];
      queues = record { domain = 0; managed = false; base = 0; slots = 2; limit = 2 } ∷ [];
      receives = record { base = 0; len = 0 } ∷ [];
      memory =
          encoded (record { op = 1; id = 0; lkey = 2; rkey = 1; local = 0; remote = 64; length = 8; first = 0; second = 0; flags = 1 })
          ++ encoded (record { op = 0; id = 0; lkey = 2; rkey = 0; local = 8; remote = 0; length = 8; first = 0; second = 0; flags = 1 })
          ++ spelled 8 1407374883553280 ++ spelled 8 7 ++ replicate 48 0;
    }

-- its 336 bytes
its_bytes : List ℕ
its_bytes =
    (82 ∷ 69 ∷ 68 ∷ 78 ∷ 0 ∷ 0 ∷ 0 ∷ 1 ∷ 0 ∷ 0 ∷ 0 ∷ 2 ∷ 0 ∷ 0 ∷ 0 ∷ 1 ∷ [])
    ++ (0 ∷ 0 ∷ 0 ∷ 1 ∷ 0 ∷ 0 ∷ 0 ∷ 0 ∷ 0 ∷ 0 ∷ 0 ∷ 0 ∷ 0 ∷ 0 ∷ 0 ∷ 192 ∷ [])
    ++ (0 ∷ 0 ∷ 0 ∷ 1 ∷ 0 ∷ 0 ∷ 0 ∷ 2 ∷ 0 ∷ 0 ∷ 0 ∷ 0 ∷ 0 ∷ 0 ∷ 0 ∷ 4 ∷ [])
    ++ (0 ∷ 0 ∷ 0 ∷ 0 ∷ 0 ∷ 0 ∷ 0 ∷ 0 ∷ 0 ∷ 0 ∷ 0 ∷ 0 ∷ 0 ∷ 0 ∷ 0 ∷ 128 ∷ [])
    ++ (0 ∷ 0 ∷ 0 ∷ 2 ∷ 0 ∷ 0 ∷ 0 ∷ 3 ∷ 0 ∷ 0 ∷ 0 ∷ 0 ∷ 0 ∷ 0 ∷ 0 ∷ 0 ∷ [])
    ++ (0 ∷ 0 ∷ 0 ∷ 0 ∷ 0 ∷ 0 ∷ 0 ∷ 128 ∷ 0 ∷ 0 ∷ 0 ∷ 0 ∷ 0 ∷ 0 ∷ 0 ∷ 64 ∷ [])
    ++ (0 ∷ 0 ∷ 0 ∷ 0 ∷ 0 ∷ 0 ∷ 0 ∷ 0 ∷ 0 ∷ 0 ∷ 0 ∷ 0 ∷ 0 ∷ 0 ∷ 0 ∷ 0 ∷ [])
    ++ (0 ∷ 0 ∷ 0 ∷ 0 ∷ 0 ∷ 0 ∷ 0 ∷ 2 ∷ 0 ∷ 0 ∷ 0 ∷ 0 ∷ 0 ∷ 0 ∷ 0 ∷ 2 ∷ [])
    ++ (0 ∷ 0 ∷ 0 ∷ 0 ∷ 0 ∷ 0 ∷ 0 ∷ 0 ∷ 0 ∷ 0 ∷ 0 ∷ 0 ∷ 0 ∷ 0 ∷ 0 ∷ 0 ∷ [])
    ++ (0 ∷ 1 ∷ 0 ∷ 0 ∷ 0 ∷ 0 ∷ 0 ∷ 0 ∷ 0 ∷ 0 ∷ 0 ∷ 2 ∷ 0 ∷ 0 ∷ 0 ∷ 1 ∷ [])
    ++ (0 ∷ 0 ∷ 0 ∷ 0 ∷ 0 ∷ 0 ∷ 0 ∷ 0 ∷ 0 ∷ 0 ∷ 0 ∷ 0 ∷ 0 ∷ 0 ∷ 0 ∷ 64 ∷ [])
    ++ (0 ∷ 0 ∷ 0 ∷ 0 ∷ 0 ∷ 0 ∷ 0 ∷ 8 ∷ 0 ∷ 0 ∷ 0 ∷ 0 ∷ 0 ∷ 0 ∷ 0 ∷ 0 ∷ [])
    ++ (0 ∷ 0 ∷ 0 ∷ 0 ∷ 0 ∷ 0 ∷ 0 ∷ 0 ∷ 0 ∷ 0 ∷ 0 ∷ 0 ∷ 0 ∷ 0 ∷ 0 ∷ 1 ∷ [])
    ++ (0 ∷ 0 ∷ 0 ∷ 0 ∷ 0 ∷ 0 ∷ 0 ∷ 0 ∷ 0 ∷ 0 ∷ 0 ∷ 2 ∷ 0 ∷ 0 ∷ 0 ∷ 0 ∷ [])
    ++ (0 ∷ 0 ∷ 0 ∷ 0 ∷ 0 ∷ 0 ∷ 0 ∷ 8 ∷ 0 ∷ 0 ∷ 0 ∷ 0 ∷ 0 ∷ 0 ∷ 0 ∷ 0 ∷ [])
    ++ (0 ∷ 0 ∷ 0 ∷ 0 ∷ 0 ∷ 0 ∷ 0 ∷ 8 ∷ 0 ∷ 0 ∷ 0 ∷ 0 ∷ 0 ∷ 0 ∷ 0 ∷ 0 ∷ [])
    ++ (0 ∷ 0 ∷ 0 ∷ 0 ∷ 0 ∷ 0 ∷ 0 ∷ 0 ∷ 0 ∷ 0 ∷ 0 ∷ 0 ∷ 0 ∷ 0 ∷ 0 ∷ 1 ∷ [])
    ++ (0 ∷ 5 ∷ 0 ∷ 0 ∷ 0 ∷ 0 ∷ 0 ∷ 0 ∷ 0 ∷ 0 ∷ 0 ∷ 0 ∷ 0 ∷ 0 ∷ 0 ∷ 7 ∷ [])
    ++ (0 ∷ 0 ∷ 0 ∷ 0 ∷ 0 ∷ 0 ∷ 0 ∷ 0 ∷ 0 ∷ 0 ∷ 0 ∷ 0 ∷ 0 ∷ 0 ∷ 0 ∷ 0 ∷ [])
    ++ (0 ∷ 0 ∷ 0 ∷ 0 ∷ 0 ∷ 0 ∷ 0 ∷ 0 ∷ 0 ∷ 0 ∷ 0 ∷ 0 ∷ 0 ∷ 0 ∷ 0 ∷ 0 ∷ [])
    ++ (0 ∷ 0 ∷ 0 ∷ 0 ∷ 0 ∷ 0 ∷ 0 ∷ 0 ∷ 0 ∷ 0 ∷ 0 ∷ 0 ∷ 0 ∷ 0 ∷ 0 ∷ 0 ∷ [])

it_is_spelled : spelling rewriting ≡ its_bytes
unfolding rewriting its_bytes encoded spelled spelling spelled_region spelled_queue spelled_receive
it_is_spelled = refl

it_obeys : Obeys rewriting
unfolding rewriting encoded spelled faults
it_obeys = refl

they_spell_an_image : refused its_bytes ≡ None
unfolding its_bytes number refused
they_spell_an_image = refl

-- cut, or with more behind
no_header : refused (take 31 its_bytes) ≡ Some (TooShort 32)
unfolding its_bytes number refused
no_header = refl

cut_to_96 : refused (take 96 its_bytes) ≡ Some (TooShort 336)
unfolding its_bytes number refused
cut_to_96 = refl

cut_to_128 : refused (take 128 its_bytes) ≡ Some (TooShort 336)
unfolding its_bytes number refused
cut_to_128 = refl

cut_to_144 : refused (take 144 its_bytes) ≡ Some (TooShort 336)
unfolding its_bytes number refused
cut_to_144 = refl

cut_to_335 : refused (take 335 its_bytes) ≡ Some (TooShort 336)
unfolding its_bytes number refused
cut_to_335 = refl

one_byte_more : refused (its_bytes ++ 0 ∷ []) ≡ Some (TooLong 1)
unfolding its_bytes number refused
one_byte_more = refl

-- with a byte changed
another_first_byte : refused (set its_bytes 0 83) ≡ Some NotMagic
unfolding its_bytes number refused
another_first_byte = refl

another_version : refused (set its_bytes 7 3) ≡ Some (OtherVersion 3)
unfolding its_bytes number refused
another_version = refl

no_receives : refused (set its_bytes 19 0) ≡ Some (Broken (record { rule = 3; index = 0 }))
unfolding its_bytes number refused
no_receives = refl

a_zero_that_is_none : refused (set its_bytes 23 1) ≡ Some (Broken (record { rule = 4; index = 0 }))
unfolding its_bytes number refused
a_zero_that_is_none = refl

a_key_twice : refused (set its_bytes 67 1) ≡ Some (Broken (record { rule = 6; index = 1 }))
unfolding its_bytes number refused
a_key_twice = refl

an_unknown_kind : refused (set its_bytes 39 5) ≡ Some (Broken (record { rule = 8; index = 0 }))
unfolding its_bytes number refused
an_unknown_kind = refl

-- Each rule of rows broken once. The first of these rows keep them all.
region : ℕ → ℕ → ℕ → ℕ → ℕ → ℕ → ℕ → RegionNumbers
region key domain kind table rights base len = record { key = key; domain = domain; kind = kind; table = table; rights = rights; base = base; len = len }

queue : ℕ → ℕ → ℕ → ℕ → ℕ → QueueNumbers
queue domain managed base slots limit = record { domain = domain; managed = managed; base = base; slots = slots; limit = limit }

with_region : RegionNumbers → Numbers
with_region r = record { regions = region 1 0 1 5 15 64 64 ∷ r ∷ []; queues = []; receives = record { base = 0; len = 8 } ∷ []; size = 128 }

with_queue : ℕ → QueueNumbers → Numbers
with_queue size q = record { regions = []; queues = queue 0 1 0 65536 65536 ∷ q ∷ []; receives = record { base = 0; len = 8 } ∷ []; size = size }

with_receive : ℕ → ℕ → Numbers
with_receive base len = record { regions = []; queues = []; receives = record { base = 0; len = 0 } ∷ record { base = base; len = len } ∷ []; size = 128 }

breaks : ℕ → List Fault
breaks rule = record { rule = rule; index = 1 } ∷ []

a_good_region : faults (with_region (region 2 0 1 5 0 64 64)) ≡ []
unfolding region queue with_region with_queue with_receive breaks faults
a_good_region = refl

no_key : faults (with_region (region 0 0 2 0 0 0 8)) ≡ breaks 6
unfolding region queue with_region with_queue with_receive breaks faults
no_key = refl

another_region_key : faults (with_region (region 1 0 2 0 0 0 8)) ≡ breaks 6
unfolding region queue with_region with_queue with_receive breaks faults
another_region_key = refl

no_such_chain : faults (with_region (region 2 1 2 0 0 0 8)) ≡ breaks 7
unfolding region queue with_region with_queue with_receive breaks faults
no_such_chain = refl

a_table_too_many : faults (with_region (region 2 0 1 64 0 0 8)) ≡ breaks 8
unfolding region queue with_region with_queue with_receive breaks faults
a_table_too_many = refl

a_table_elsewhere : faults (with_region (region 2 0 0 1 0 0 8)) ≡ breaks 8
unfolding region queue with_region with_queue with_receive breaks faults
a_table_elsewhere = refl

too_many_rights : faults (with_region (region 2 0 0 0 16 0 8)) ≡ breaks 9
unfolding region queue with_region with_queue with_receive breaks faults
too_many_rights = refl

a_crooked_base : faults (with_region (region 2 0 0 0 0 4 8)) ≡ breaks 10
unfolding region queue with_region with_queue with_receive breaks faults
a_crooked_base = refl

a_region_past_memory : faults (with_region (region 2 0 0 0 0 64 72)) ≡ breaks 10
unfolding region queue with_region with_queue with_receive breaks faults
a_region_past_memory = refl

another_place_of_a_table : faults (with_region (region 2 0 1 5 0 64 56)) ≡ breaks 11
unfolding region queue with_region with_queue with_receive breaks faults
another_place_of_a_table = refl

a_good_queue : faults (with_queue 4194368 (queue 0 0 4194304 1 0)) ≡ []
unfolding region queue with_region with_queue with_receive breaks faults
a_good_queue = refl

a_queue_of_no_chain : faults (with_queue 4194304 (queue 1 0 0 1 0)) ≡ breaks 12
unfolding region queue with_region with_queue with_receive breaks faults
a_queue_of_no_chain = refl

an_order_of_two : faults (with_queue 4194304 (queue 0 2 0 1 0)) ≡ breaks 13
unfolding region queue with_region with_queue with_receive breaks faults
an_order_of_two = refl

a_crooked_ring : faults (with_queue 4194304 (queue 0 0 8 1 0)) ≡ breaks 14
unfolding region queue with_region with_queue with_receive breaks faults
a_crooked_ring = refl

no_slots : faults (with_queue 4194304 (queue 0 0 0 0 0)) ≡ breaks 14
unfolding region queue with_region with_queue with_receive breaks faults
no_slots = refl

too_many_slots : faults (with_queue 8388608 (queue 0 0 0 65537 0)) ≡ breaks 14
unfolding region queue with_region with_queue with_receive breaks faults
too_many_slots = refl

a_ring_past_memory : faults (with_queue 4194304 (queue 0 0 4194304 1 0)) ≡ breaks 14
unfolding region queue with_region with_queue with_receive breaks faults
a_ring_past_memory = refl

a_limit_past_the_slots : faults (with_queue 4194304 (queue 0 0 0 1 2)) ≡ breaks 15
unfolding region queue with_region with_queue with_receive breaks faults
a_limit_past_the_slots = refl

a_good_receive : faults (with_receive 64 64) ≡ []
unfolding region queue with_region with_queue with_receive breaks faults
a_good_receive = refl

a_crooked_receive : faults (with_receive 4 8) ≡ breaks 17
unfolding region queue with_region with_queue with_receive breaks faults
a_crooked_receive = refl

a_message_of_nine_words : faults (with_receive 0 72) ≡ breaks 17
unfolding region queue with_region with_queue with_receive breaks faults
a_message_of_nine_words = refl

a_receive_past_memory : faults (with_receive 120 16) ≡ breaks 17
unfolding region queue with_region with_queue with_receive breaks faults
a_receive_past_memory = refl

too_many_slots_together : faults (record { regions = []; queues = replicate 8 (queue 0 0 0 65536 1) ++ queue 0 0 0 1 1 ∷ []; receives = record { base = 0; len = 0 } ∷ []; size = 4194304 }) ≡ record { rule = 16; index = 8 } ∷ []
unfolding queue faults
too_many_slots_together = refl

-- the rules come first, then the rows
by_rule_then_by_row : faults (record { regions = region 1 0 0 0 0 4 8 ∷ region 0 9 0 0 0 4 8 ∷ []; queues = []; receives = record { base = 0; len = 0 } ∷ []; size = 12 }) ≡ record { rule = 5; index = 0 } ∷ record { rule = 6; index = 1 } ∷ record { rule = 7; index = 1 } ∷ record { rule = 10; index = 0 } ∷ record { rule = 10; index = 1 } ∷ []
unfolding region faults
by_rule_then_by_row = refl

-- what is answered: the first fault of rows, or the one reason of bytes
the_first_fault : first_of (breaks 7 ++ breaks 8) ≡ Some (fault_at 7 1)
unfolding breaks
the_first_fault = refl

first_named : NamesFirst (breaks 7 ++ breaks 8) (row_answers.Rule 7 1)
unfolding breaks
first_named = refl

none_of_one : first_of [] ≡ None
none_of_one = refl

too_many_bytes : SaysWhy (wrong_length 337 336 None) (byte_answers.Trailing 1)
too_many_bytes = refl

too_few_bytes : SaysWhy (wrong_length 335 336 None) (byte_answers.Short 336)
too_few_bytes = refl

enough_bytes : wrong_length 336 336 (Some NotMagic) ≡ Some NotMagic
enough_bytes = refl

its_header : HasHeader its_bytes 2 1 1 192
unfolding its_bytes number spelled refused
its_header = record { long = lit≤ tt; spelled = refl; keeps = refl; refusal = refl }
