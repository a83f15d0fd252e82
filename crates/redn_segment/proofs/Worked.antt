-- Footprints, landings in two orders, opcodes, rights, names and costs, computed on small examples.
use Rattle.std.proofs.Common.{◌≡◌, ℕ, ◌*◌, ◌≤◌, true, false, List, [], ◌∷◌, ◌++◌, map, inl, inr, refl, sym, arith}
use Rattle.std.proofs.lemmas.Bool.{false≢true}
use Rattle.std.specs.List.{sum_by, count_by}
use Rattle.redn_words.specs.declared.types.Region.{Region}
use Rattle.redn_words.specs.declared.types.Kind.TheVariants.{Code, Control}
use Rattle.redn_words.specs.declared.types.Kind.TheVariants as kind
use Rattle.redn_words.specs.declared.types.Need.{Need}
use Rattle.redn_words.specs.declared.types.Need.TheVariants.{Any, LocalWrite, RemoteRead, RemoteWrite, Atomic}
use Rattle.redn_words.specs.declared.types.Opcode.TheVariants.{Noop, Write, Read, Cas, Send}
use Rattle.redn_words.specs.Words.{number, spelled, bytes_at}
use Rattle.redn_words.specs.Requests.{decoded, encoded, opcode_named}
use Rattle.redn_words.specs.Access.{grants, access}
use Rattle.redn_words.specs.Landings.{lands}
use Rattle.redn_kernel.specs.declared.types.Cell.TheVariants.{Var, Argument}
use Rattle.redn_segment.specs.declared.types.SlotRef.{SlotRef}
use Rattle.redn_segment.specs.declared.types.Space.{Space}
use Rattle.redn_segment.specs.declared.types.Space.TheVariants as space
use Rattle.redn_segment.specs.declared.types.Site.{Site}
use Rattle.redn_segment.specs.declared.types.Site.TheVariants as site
use Rattle.redn_segment.specs.declared.types.Draft.{Draft}
use Rattle.redn_segment.specs.Drafts.{slot_from, field, draft, copy, read_table, swap_in, turnable, clear, fill_low, choose, write_word, read_word, cas_word}
use Rattle.redn_segment.specs.Plain.{put, Went}
use Rattle.redn_segment.specs.Footprints.{is_apart, segments_apart}
use Rattle.redn_segment.specs.Renaming.{renamed, renamed_outcome, moved}
use Rattle.redn_segment.specs.Templates.{one_event, is_filled}
use Rattle.redn_segment.specs.Costs.{segment_slots, segment_actions}
use Rattle.redn_segment.specs.Opcodes.{word_opcode, turns, MayHave}
use Rattle.redn_segment.specs.Rights.{allows, Suits}
use Rattle.redn_segment.specs.Homes.{Home}
use Rattle.redn_segment.specs.Orders.{landed}
use Rattle.redn_segment.proofs.Suiting.{suiting}

abbrev own : ℕ → SlotRef
own k = slot_from 0 0 k

abbrev var : ℕ → Site
var i = site.Cell (Var i)

-- a side ends inside its site
whole_word : is_apart (copy (var 0) 0 (var 1) 8 ∷ []) (own 0) ≡ true
whole_word = refl

past_word : is_apart (copy (var 0) 1 (var 1) 8 ∷ []) (own 0) ≡ false
past_word = refl

whole_reply : is_apart (draft Send (site.ReplyWord 0) 0 (site.ReplyWord 0) 64 0 0 ∷ []) (own 0) ≡ true
whole_reply = refl

past_reply : is_apart (draft Send (site.ReplyWord 1) 0 (site.ReplyWord 0) 64 0 0 ∷ []) (own 0) ≡ false
past_reply = refl

field_past_slot : is_apart (copy (var 0) 0 (field (own 3) 60 8) 8 ∷ []) (own 0) ≡ false
field_past_slot = refl

whole_descriptor : is_apart (choose 3 (own 4) ∷ []) (own 0) ≡ true
whole_descriptor = refl

-- a table isn't asked for its end
table_end : is_apart (copy (var 0) 0 (site.Table 0 1000000) 8 ∷ []) (own 0) ≡ true
table_end = refl

-- no two touch a byte that one of them writes: bytes 2 to 7, and byte 8 or byte 7
neighbours : is_apart (fill_low (var 0) (own 5) ∷ copy (var 1) 0 (field (own 5) 8 8) 8 ∷ []) (own 0) ≡ true
neighbours = refl

last_byte : is_apart (fill_low (var 0) (own 5) ∷ copy (var 1) 0 (field (own 5) 7 8) 8 ∷ []) (own 0) ≡ false
last_byte = refl

both_read : is_apart (copy (var 0) 0 (var 1) 8 ∷ copy (var 0) 0 (var 2) 8 ∷ []) (own 0) ≡ true
both_read = refl

one_reads : is_apart (copy (var 0) 0 (var 1) 8 ∷ copy (var 1) 0 (var 2) 8 ∷ []) (own 0) ≡ false
one_reads = refl

-- a table is taken whole, and a NOOP as writing both sides
two_places : is_apart (copy (var 0) 0 (site.Table 0 0) 8 ∷ read_table (var 1) 0 ∷ []) (own 0) ≡ false
two_places = refl

two_reads : is_apart (read_table (var 0) 0 ∷ read_table (var 1) 0 ∷ []) (own 0) ≡ true
two_reads = refl

noop_writes : is_apart (turnable (var 0) (var 1) 8 0 ∷ copy (var 0) 0 (var 2) 8 ∷ []) (own 0) ≡ false
noop_writes = refl

-- and none writes a slot of the segment
own_slot : is_apart (copy (var 0) 0 (field (own 1) 24 8) 8 ∷ read_table (var 1) 0 ∷ []) (own 0) ≡ false
own_slot = refl

next_slot : is_apart (copy (var 0) 0 (field (own 1) 24 8) 8 ∷ []) (own 0) ≡ true
next_slot = refl

from_there_on : segments_apart (own 0) ((copy (var 0) 0 (field (own 1) 24 8) 8 ∷ []) ∷ (read_table (var 1) 0 ∷ []) ∷ []) ≡ true
from_there_on = refl

-- two drafts in memory: slots at 0 and 64, the constant 7 at 128, two hidden words behind it
abbrev regions : List Region
regions =
    record { key = 1; domain = 0; kind = Code; rights = 12; base = 0; len = 128 } ∷ record { key = 2; domain = 0; kind = Control; rights = 13; base = 128; len = 24 } ∷ []

abbrev write_at : ℕ → ℕ → List ℕ
write_at from to = encoded (record { op = 1; id = 0; lkey = 2; rkey = 2; local = from; remote = to; length = 8; first = 0; second = 0; flags = 0 })

-- both read the constant; or the second reads what the first writes
abbrev free : List ℕ
free = write_at 0 8 ++ (write_at 0 16 ++ (spelled 8 7 ++ spelled 16 0))

abbrev bound : List ℕ
bound = write_at 0 8 ++ (write_at 8 16 ++ (spelled 8 7 ++ spelled 16 0))

abbrev code_home : ℕ → Home
code_home offset = record { region = record { key = 1; domain = 0; kind = Code; rights = 12; base = 0; len = 128 }; offset = offset }

abbrev home : Space → Home
home (space.Slot q) = code_home (64 * q.slot)
home p = code_home 0

abbrev in_order : List ℕ → List ℕ → List ℕ
in_order memory order = bytes_at (landed home (λ (p : Space). true) regions 0 1 0 (own 0) memory order) 128 24

either_order : in_order free (0 ∷ 1 ∷ []) ≡ in_order free (1 ∷ 0 ∷ [])
unfolding lands access decoded encoded number spelled opcode_named
either_order = refl

either_is : in_order free (1 ∷ 0 ∷ []) ≡ spelled 8 7 ++ (spelled 8 7 ++ spelled 8 7)
unfolding lands access decoded encoded number spelled opcode_named
either_is = refl

first_first : in_order bound (0 ∷ 1 ∷ []) ≡ spelled 8 7 ++ (spelled 8 7 ++ spelled 8 7)
unfolding lands access decoded encoded number spelled opcode_named
first_first = refl

second_first : in_order bound (1 ∷ 0 ∷ []) ≡ spelled 8 7 ++ (spelled 8 7 ++ spelled 8 0)
unfolding lands access decoded encoded number spelled opcode_named
second_first = refl

-- a slot has its draft's opcode, or that of the word which a CAS puts in
abbrev low_test : List Draft
low_test = clear (own 2) ∷ swap_in 0 (field (own 2) 0 8) write_word ∷ turnable (site.Descriptor 3) (field (own 3) 40 16) 16 0 ∷ []

puts_in_a_write : word_opcode write_word ≡ Write
unfolding number spelled opcode_named
puts_in_a_write = refl

puts_in_a_cas : word_opcode cas_word ≡ Cas
unfolding number spelled opcode_named
puts_in_a_cas = refl

may_write : MayHave low_test (own 2) (turnable (site.Descriptor 3) (field (own 3) 40 16) 16 0) Write
unfolding number spelled opcode_named
may_write = inr (inr (inl (refl, refl)))

may_rest : MayHave low_test (own 2) (turnable (site.Descriptor 3) (field (own 3) 40 16) 16 0) Noop
may_rest = inl refl

turns_no_other : map (turns (own 1)) low_test ≡ false ∷ false ∷ false ∷ []
turns_no_other = refl

-- one CAS turns slot 2, and none slot 1
turned_by_one : count_by (turns (own 2)) low_test ≡ 1
turned_by_one = refl

turned_by_none : count_by (turns (own 1)) low_test ≡ 0
turned_by_none = refl

abbrev two_swaps : List Draft
two_swaps =
    swap_in 0 (field (own 2) 0 8) write_word ∷ swap_in 1 (field (own 2) 0 8) write_word ∷ turnable (site.Descriptor 3) (field (own 3) 40 16) 16 0 ∷ []

turned_by_two : count_by (turns (own 2)) two_swaps ≡ 2
turned_by_two = refl

-- what each kind allows is what rights of 13 (words), 12 (slots), 0 (messages), 2 (a table) and 6 (a written table) grant
abbrev needs : List Need
needs = Any ∷ LocalWrite ∷ RemoteRead ∷ RemoteWrite ∷ Atomic ∷ []

words_allow : map (allows [] kind.Vars) needs ≡ true ∷ true ∷ false ∷ true ∷ true ∷ []
words_allow = refl

words_grant : map (allows [] kind.Vars) needs ≡ map (grants 13) needs
words_grant = refl

control_grants : map (allows [] Control) needs ≡ map (grants 13) needs
control_grants = refl

slots_grant : map (allows [] Code) needs ≡ map (grants 12) needs
slots_grant = refl

messages_grant : map (allows (3 ∷ []) kind.Message) needs ≡ map (grants 0) needs
messages_grant = refl

table_grants : map (allows (4 ∷ []) (kind.Table 3)) needs ≡ map (grants 2) needs
table_grants = refl

written_grants : map (allows (4 ∷ 3 ∷ []) (kind.Table 3)) needs ≡ map (grants 6) needs
written_grants = refl

-- a test's target may become a WRITE; as a READ it would change the descriptor, and a NOOP without a word can't be turned
abbrev target : ℕ → Draft
target len = turnable (site.Descriptor 3) (field (own 3) 40 16) len 0

may_copy : Suits [] (target 16) Write
may_copy =
    record { local = refl; remote = λ h. refl; local_descriptor = λ h. refl; remote_descriptor = λ h. refl; silent = λ h. refl; follows = inr (refl, let e : 8 ≤ 16 = omega arith in e) }

may_not_read : Suits [] (target 16) Read → ⊥
may_not_read x = let e : LocalWrite ≡ Any = x.local_descriptor refl in cc

short_target : suiting [] (own 0) (swap_in 0 (field (own 1) 0 8) write_word ∷ target 4 ∷ []) ≡ false
unfolding number spelled opcode_named
short_target = refl

-- a table is written where it is named, and an argument or a descriptor nowhere
abbrev store_word : Site → Draft
store_word to = copy (var 0) 0 to 8

stores_there : Suits (3 ∷ []) (store_word (site.Table 3 0)) Write
stores_there =
    record { local = refl; remote = λ h. refl; local_descriptor = λ h. absurd (false≢true h); remote_descriptor = λ h. refl; silent = λ h. h; follows = inl refl }

stores_nowhere : Suits (4 ∷ []) (store_word (site.Table 3 0)) Write → ⊥
stores_nowhere x = false≢true (x.remote refl)

keeps_arguments : Suits [] (store_word (site.Cell (Argument 0))) Write → ⊥
keeps_arguments x = false≢true (x.remote refl)

keeps_descriptors : Suits [] (store_word (site.Descriptor 3)) Write → ⊥
keeps_descriptors x = false≢true (sym (x.remote_descriptor refl))

reads_no_word : Suits [] (draft Read (var 0) 0 (var 1) 8 0 0) Read → ⊥
reads_no_word x = false≢true (x.remote refl)

-- a hidden READ of a word may not turn up where a draft shows nothing
shows_late : Suits [] (turnable (var 0) site.Key 8 0) Read → ⊥
shows_late x = false≢true (sym (x.silent refl))

all_of_a_test : suiting [] (own 0) low_test ≡ true
unfolding number spelled opcode_named
all_of_a_test = refl

two_are_too_many : suiting [] (own 0) two_swaps ≡ false
unfolding number spelled opcode_named
two_are_too_many = refl

becomes_a_read : suiting [] (own 0) (swap_in 0 (field (own 1) 0 8) read_word ∷ target 16 ∷ []) ≡ false
unfolding number spelled opcode_named
becomes_a_read = refl

turns_another : suiting [] (own 0) (swap_in 0 (field (own 1) 0 8) write_word ∷ []) ≡ false
unfolding number spelled opcode_named
turns_another = refl

-- slots by other numbers
renamed_fill : renamed (moved 4 10) (fill_low (var 0) (own 2)) ≡ fill_low (var 0) (slot_from 4 10 2)
renamed_fill = refl

renamed_put : renamed_outcome (moved 4 10) (Went (put (space.Slot (own 2)) 2 (1 ∷ []) ∷ put space.Key 0 (2 ∷ []) ∷ []) []) ≡ Went (put (space.Slot (slot_from 4 10 2)) 2 (1 ∷ []) ∷ put space.Key 0 (2 ∷ []) ∷ []) []
renamed_put = refl

-- at most one event, and each segment but the last one filled
two_events : one_event (copy (var 0) 0 (var 1) 8 ∷ read_table (var 2) 0 ∷ []) ≡ false
two_events = refl

one_of_two : one_event (copy (var 0) 0 (var 1) 8 ∷ fill_low (var 0) (own 5) ∷ []) ≡ true
one_of_two = refl

last_empty : is_filled 1 ((choose 3 (own 1) ∷ []) ∷ [] ∷ []) ≡ true
last_empty = refl

none_empty : is_filled 0 ((choose 3 (own 1) ∷ []) ∷ [] ∷ []) ≡ false
none_empty = refl

first_empty : is_filled 1 ([] ∷ (choose 3 (own 1) ∷ []) ∷ []) ≡ false
first_empty = refl

-- a jump takes 9 slots and 28 actions, and a SEND stands alone
jump_slots : sum_by segment_slots ((choose 3 (own 1) ∷ []) ∷ [] ∷ []) ≡ 9
jump_slots = refl

jump_actions : sum_by segment_actions ((choose 3 (own 1) ∷ []) ∷ [] ∷ []) ≡ 28
jump_actions = refl

send_slots : segment_slots (draft Send (site.ReplyWord 0) 0 (site.ReplyWord 0) 8 0 0 ∷ []) ≡ 1
send_slots = refl

send_actions : segment_actions (draft Send (site.ReplyWord 0) 0 (site.ReplyWord 0) 8 0 0 ∷ []) ≡ 4
send_actions = refl
