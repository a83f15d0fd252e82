-- Each row of what a landing writes and shows, computed.
use Rattle.std.proofs.Common.{◌≡◌, ℕ, ◌*◌, true, false, List, [], ◌∷◌, ◌++◌, refl, replicate}
use Rattle.redn_words.specs.declared.types.Region.{Region}
use Rattle.redn_words.specs.declared.types.Request.{Request}
use Rattle.redn_words.specs.declared.types.Kind.{Kind}
use Rattle.redn_words.specs.declared.types.Kind.TheVariants.{Vars, Table, Code, Control, Message}
use Rattle.redn_words.specs.declared.types.Obs.{Obs}
use Rattle.redn_words.specs.declared.types.Obs.TheVariants as shows
use Rattle.redn_words.specs.Words.{number, spelled}
use Rattle.redn_words.specs.Requests.{opcode_named}
use Rattle.redn_words.specs.Access.{access}
use Rattle.redn_words.specs.Landings.{Landing, lands, landing, change}

region : ℕ → Kind → ℕ → ℕ → Region
region key kind rights len = record { key = key; domain = 3; kind = kind; rights = rights; base = 64 * key; len = len }

-- one region of each kind with all rights: variables 1, table 2, code 3, control words 4, a message 5; and a table 6 without rights
regions : List Region
regions =
    region 1 Vars 15 64 ∷ region 2 (Table 9) 15 64 ∷ region 3 Code 15 64 ∷ region 4 Control 15 128 ∷ region 5 Message 15 64 ∷ region 6 (Table 8) 0 64 ∷ []

-- the regions begin with the words 11, 12, 13, 14, 15 and 16, of which the fourth is followed by 2^64 - 1
memory : List ℕ
memory =
    replicate 64 0
    ++ spelled 8 11 ++ replicate 56 0
    ++ spelled 8 12 ++ replicate 56 0
    ++ spelled 8 13 ++ replicate 56 0
    ++ spelled 8 14 ++ spelled 8 18446744073709551615 ++ replicate 48 0
    ++ spelled 8 15 ++ replicate 56 0
    ++ spelled 8 16 ++ replicate 56 0

-- opcode, local key, local offset, remote key, remote offset, length, operands
request : ℕ → ℕ → ℕ → ℕ → ℕ → ℕ → ℕ → ℕ → Request
request op lkey local rkey remote len first second =
    record { op = op; id = 0; lkey = lkey; rkey = rkey; local = local; remote = remote; length = len; first = first; second = second; flags = 0 }

landed : Request → Landing
landed r = landing regions (record { chain = 3; queue = 6; index = 70 }) memory r

shown : Request → Obs
shown r = (landed r).shown

odd : Obs
odd = shows.Odd 6 70

refused : Obs
refused = shows.Refused 6 70

noop_shows_nothing : shown (request 0 0 0 0 0 0 0 0) ≡ shows.Nothing
unfolding region regions memory request landed shown odd refused number spelled opcode_named access lands
noop_shows_nothing = refl

-- WRITE
write_sets_a_variable : shown (request 1 3 0 1 8 8 0 0) ≡ shows.Set 3 1 13
unfolding region regions memory request landed shown odd refused number spelled opcode_named access lands
write_sets_a_variable = refl

write_stores_into_a_table : shown (request 1 4 0 2 3 8 0 0) ≡ shows.Store 3 9 3 14
unfolding region regions memory request landed shown odd refused number spelled opcode_named access lands
write_stores_into_a_table = refl

write_from_a_message : shown (request 1 5 0 1 0 8 0 0) ≡ shows.Set 3 0 15
unfolding region regions memory request landed shown odd refused number spelled opcode_named access lands
write_from_a_message = refl

write_from_variables_to_variables : shown (request 1 1 0 1 16 8 0 0) ≡ shows.Set 3 2 11
unfolding region regions memory request landed shown odd refused number spelled opcode_named access lands
write_from_variables_to_variables = refl

write_into_code : shown (request 1 1 0 3 2 6 0 0) ≡ shows.Nothing
unfolding region regions memory request landed shown odd refused number spelled opcode_named access lands
write_into_code = refl

write_into_control : shown (request 1 1 0 4 0 64 0 0) ≡ shows.Nothing
unfolding region regions memory request landed shown odd refused number spelled opcode_named access lands
write_into_control = refl

write_from_a_table : shown (request 1 2 0 3 0 8 0 0) ≡ odd
unfolding region regions memory request landed shown odd refused number spelled opcode_named access lands
write_from_a_table = refl

write_into_a_message : shown (request 1 3 0 5 0 8 0 0) ≡ odd
unfolding region regions memory request landed shown odd refused number spelled opcode_named access lands
write_into_a_message = refl

write_of_two_variables : shown (request 1 3 0 1 0 16 0 0) ≡ odd
unfolding region regions memory request landed shown odd refused number spelled opcode_named access lands
write_of_two_variables = refl

write_between_variables : shown (request 1 3 0 1 4 8 0 0) ≡ odd
unfolding region regions memory request landed shown odd refused number spelled opcode_named access lands
write_between_variables = refl

write_of_four_bytes_into_a_table : shown (request 1 3 0 2 0 4 0 0) ≡ odd
unfolding region regions memory request landed shown odd refused number spelled opcode_named access lands
write_of_four_bytes_into_a_table = refl

-- READ
read_loads_a_variable : shown (request 2 1 16 2 0 8 0 0) ≡ shows.Load 3 2 9 0 12
unfolding region regions memory request landed shown odd refused number spelled opcode_named access lands
read_loads_a_variable = refl

read_looks_at_a_table : shown (request 2 4 0 2 0 8 0 0) ≡ shows.Look 3 9 0 12
unfolding region regions memory request landed shown odd refused number spelled opcode_named access lands
read_looks_at_a_table = refl

read_looks_from_code : shown (request 2 3 3 2 0 8 0 0) ≡ shows.Look 3 9 0 12
unfolding region regions memory request landed shown odd refused number spelled opcode_named access lands
read_looks_from_code = refl

read_sets_a_variable : shown (request 2 1 8 4 8 8 0 0) ≡ shows.Set 3 1 18446744073709551615
unfolding region regions memory request landed shown odd refused number spelled opcode_named access lands
read_sets_a_variable = refl

read_into_code : shown (request 2 3 0 5 0 24 0 0) ≡ shows.Nothing
unfolding region regions memory request landed shown odd refused number spelled opcode_named access lands
read_into_code = refl

read_into_a_table : shown (request 2 2 0 3 0 8 0 0) ≡ odd
unfolding region regions memory request landed shown odd refused number spelled opcode_named access lands
read_into_a_table = refl

read_into_a_message : shown (request 2 5 0 2 0 8 0 0) ≡ odd
unfolding region regions memory request landed shown odd refused number spelled opcode_named access lands
read_into_a_message = refl

read_of_two_variables : shown (request 2 1 0 2 0 16 0 0) ≡ odd
unfolding region regions memory request landed shown odd refused number spelled opcode_named access lands
read_of_two_variables = refl

read_between_variables : shown (request 2 1 4 4 0 8 0 0) ≡ odd
unfolding region regions memory request landed shown odd refused number spelled opcode_named access lands
read_between_variables = refl

read_of_a_long_look : shown (request 2 4 0 2 0 16 0 0) ≡ odd
unfolding region regions memory request landed shown odd refused number spelled opcode_named access lands
read_of_a_long_look = refl

-- CAS and ADD
cas_shows_nothing : shown (request 3 4 0 3 0 0 13 5) ≡ shows.Nothing
unfolding region regions memory request landed shown odd refused number spelled opcode_named access lands
cas_shows_nothing = refl

cas_on_a_variable : shown (request 3 4 0 1 0 0 13 5) ≡ odd
unfolding region regions memory request landed shown odd refused number spelled opcode_named access lands
cas_on_a_variable = refl

cas_into_a_variable : shown (request 3 1 0 3 0 0 13 5) ≡ odd
unfolding region regions memory request landed shown odd refused number spelled opcode_named access lands
cas_into_a_variable = refl

add_sets_a_variable : shown (request 4 4 0 1 0 0 5 0) ≡ shows.Set 3 0 16
unfolding region regions memory request landed shown odd refused number spelled opcode_named access lands
add_sets_a_variable = refl

add_in_code : shown (request 4 3 0 4 0 0 5 0) ≡ shows.Nothing
unfolding region regions memory request landed shown odd refused number spelled opcode_named access lands
add_in_code = refl

add_in_a_table : shown (request 4 4 0 2 0 0 5 0) ≡ odd
unfolding region regions memory request landed shown odd refused number spelled opcode_named access lands
add_in_a_table = refl

add_into_a_variable : shown (request 4 1 8 1 0 0 5 0) ≡ odd
unfolding region regions memory request landed shown odd refused number spelled opcode_named access lands
add_into_a_variable = refl

-- SEND
send_replies : shown (request 5 4 0 0 0 16 0 0) ≡ shows.Reply 3 2 (14 ∷ 18446744073709551615 ∷ 0 ∷ 0 ∷ 0 ∷ 0 ∷ 0 ∷ 0 ∷ [])
unfolding region regions memory request landed shown odd refused number spelled opcode_named access lands
send_replies = refl

send_of_twelve_bytes : shown (request 5 4 0 0 0 12 0 0) ≡ odd
unfolding region regions memory request landed shown odd refused number spelled opcode_named access lands
send_of_twelve_bytes = refl

send_of_a_table : shown (request 5 2 0 0 0 8 0 0) ≡ odd
unfolding region regions memory request landed shown odd refused number spelled opcode_named access lands
send_of_a_table = refl

send_of_nine_words : shown (request 5 4 0 0 0 72 0 0) ≡ odd
unfolding region regions memory request landed shown odd refused number spelled opcode_named access lands
send_of_nine_words = refl

send_of_variables : shown (request 5 1 0 0 0 8 0 0) ≡ odd
unfolding region regions memory request landed shown odd refused number spelled opcode_named access lands
send_of_variables = refl

-- what a refused request shows
write_past_a_table : shown (request 1 3 0 2 57 8 0 0) ≡ shows.Fault 3 9 57
unfolding region regions memory request landed shown odd refused number spelled opcode_named access lands
write_past_a_table = refl

read_past_a_table : shown (request 2 1 0 2 64 8 0 0) ≡ shows.Fault 3 9 64
unfolding region regions memory request landed shown odd refused number spelled opcode_named access lands
read_past_a_table = refl

read_past_a_table_without_the_right : shown (request 2 1 0 6 57 8 0 0) ≡ shows.Fault 3 8 57
unfolding region regions memory request landed shown odd refused number spelled opcode_named access lands
read_past_a_table_without_the_right = refl

read_of_a_table_without_the_right : shown (request 2 1 0 6 56 8 0 0) ≡ refused
unfolding region regions memory request landed shown odd refused number spelled opcode_named access lands
read_of_a_table_without_the_right = refl

read_past_a_table_with_sixteen_bytes : shown (request 2 1 0 2 57 16 0 0) ≡ refused
unfolding region regions memory request landed shown odd refused number spelled opcode_named access lands
read_past_a_table_with_sixteen_bytes = refl

read_past_variables : shown (request 2 4 0 1 57 8 0 0) ≡ refused
unfolding region regions memory request landed shown odd refused number spelled opcode_named access lands
read_past_variables = refl

read_past_both_sides : shown (request 2 1 57 2 57 8 0 0) ≡ refused
unfolding region regions memory request landed shown odd refused number spelled opcode_named access lands
read_past_both_sides = refl

cas_past_a_table : shown (request 3 4 0 2 64 0 0 0) ≡ refused
unfolding region regions memory request landed shown odd refused number spelled opcode_named access lands
cas_past_a_table = refl

send_past_control : shown (request 5 4 121 0 0 8 0 0) ≡ refused
unfolding region regions memory request landed shown odd refused number spelled opcode_named access lands
send_past_control = refl

-- What a landing reads and writes.
what_a_write_writes : landed (request 1 3 0 1 8 8 0 0) ≡ record { allowed = true; reads = record { at = 192; len = 8 }; writes = change 72 (spelled 8 13) ∷ []; shown = shows.Set 3 1 13 }
unfolding region regions memory request landed shown odd refused number spelled opcode_named access lands
what_a_write_writes = refl

what_a_read_writes : landed (request 2 4 8 2 0 8 0 0) ≡ record { allowed = true; reads = record { at = 128; len = 8 }; writes = change 264 (spelled 8 12) ∷ []; shown = shows.Look 3 9 0 12 }
unfolding region regions memory request landed shown odd refused number spelled opcode_named access lands
what_a_read_writes = refl

what_a_cas_swaps : landed (request 3 4 0 3 0 0 13 5) ≡ record { allowed = true; reads = record { at = 192; len = 8 }; writes = change 192 (spelled 8 5) ∷ change 256 (spelled 8 13) ∷ []; shown = shows.Nothing }
unfolding region regions memory request landed shown odd refused number spelled opcode_named access lands
what_a_cas_swaps = refl

what_a_cas_leaves : landed (request 3 4 0 3 0 0 12 5) ≡ record { allowed = true; reads = record { at = 192; len = 8 }; writes = change 256 (spelled 8 13) ∷ []; shown = shows.Nothing }
unfolding region regions memory request landed shown odd refused number spelled opcode_named access lands
what_a_cas_leaves = refl

what_an_add_wraps : landed (request 4 3 0 4 8 0 3 0) ≡ record { allowed = true; reads = record { at = 264; len = 8 }; writes = change 264 (spelled 8 2) ∷ change 192 (spelled 8 18446744073709551615) ∷ []; shown = shows.Nothing }
unfolding region regions memory request landed shown odd refused number spelled opcode_named access lands
what_an_add_wraps = refl

what_a_send_reads : landed (request 5 4 0 0 0 8 0 0) ≡ record { allowed = true; reads = record { at = 256; len = 8 }; writes = []; shown = shows.Reply 3 1 (14 ∷ 0 ∷ 0 ∷ 0 ∷ 0 ∷ 0 ∷ 0 ∷ 0 ∷ []) }
unfolding region regions memory request landed shown odd refused number spelled opcode_named access lands
what_a_send_reads = refl

a_refused_request_writes_nothing : landed (request 1 3 0 2 57 8 0 0) ≡ record { allowed = false; reads = record { at = 0; len = 0 }; writes = []; shown = shows.Fault 3 9 57 }
unfolding region regions memory request landed shown odd refused number spelled opcode_named access lands
a_refused_request_writes_nothing = refl
