-- Lines and listings typed by hand.
use Rattle.std.proofs.Common.{◌≡◌, true, false, [], ◌∷◌, ◌++◌, refl, ℕ, zero, suc, ◌<◌, List, get_or, ap, subst, inl, inr, arith, lit<, lit≤}
use Rattle.std.specs.Prelude.{codes, nat_lt, replicate, Ok}
use Rattle.std.specs.List.{list_all}
use Rattle.std.proofs.lemmas.Bool.{and_parts, ltb-true}
use Rattle.std.specs.Fmt.{digits}
use Rattle.hex.specs.Hex.{decode_pairs, decode_sized, encode_with}
use Rattle.redn_words.specs.declared.types.Kind.TheVariants.{Code, Control}
use Rattle.redn_words.specs.declared.types.QueueRow.{QueueRow}
use Rattle.redn_words.specs.declared.types.Receive.{Receive}
use Rattle.redn_words.specs.declared.types.Region.{Region}
use Rattle.redn_words.specs.declared.types.Request.{Request}
use Rattle.redn_words.proofs.Digits.{AreBytes}
use Rattle.redn_words.specs.Requests.{decoded, encoded}
use Rattle.redn_words.specs.Words.{number, spelled}
use Rattle.redn_image.specs.Rules.{Image, Obeys, fault_at, faults, numbers_of, parts_of, queue_numbers, region_numbers}
use Rattle.redn_disasm.specs.Assembly.{all_places, fills, Assembles, BreaksRule, GivenRows, Leads, Made, Named, WrongLine, memory_formats, no_rows}
use Rattle.redn_text.specs.Texts.{lines_of}
use Rattle.redn_disasm.specs.Fields.{kind_word, op_word, order_word, IsRow}
use Rattle.redn_disasm.specs.Listing.{data_line, listing_text, memory_line, queue_line, receive_line, region_line, slot_line}
use Rattle.redn_disasm.proofs.Whole.{read_back}

-- the words

an_undefined_opcode : op_word 9 ≡ codes "?9"
unfolding op_word digits
an_undefined_opcode = refl

a_control_region : kind_word 3 ≡ codes "control"
unfolding kind_word
a_control_region = refl

-- the rows of an image whose first request rewrites the second, from NOOP to SEND

code : Region
code = record { key = 1; domain = 0; kind = Code; rights = 4; base = 0; len = 128 }

control : Region
control = record { key = 2; domain = 0; kind = Control; rights = 0; base = 128; len = 64 }

queue : QueueRow
queue = record { domain = 0; managed = false; base = 0; slots = 2; limit = 2 }

no_message : Receive
no_message = record { base = 0; len = 0 }

rewrite : Request
rewrite = record { op = 1; id = 0; lkey = 2; rkey = 1; local = 0; remote = 64; length = 8; first = 0; second = 0; flags = 1 }

send : Request
send = record { op = 0; id = 0; lkey = 2; rkey = 0; local = 8; remote = 0; length = 8; first = 0; second = 0; flags = 1 }

its_size : memory_line 192 ≡ codes "memory 192\n"
unfolding digits
its_size = refl

its_first_region : region_line (region_numbers code) ≡ codes "region 1 0 code 0 4 0 128\n"
unfolding region_line kind_word digits code
its_first_region = refl

its_second_region : region_line (region_numbers control) ≡ codes "region 2 0 control 0 0 128 64\n"
unfolding region_line kind_word digits control
its_second_region = refl

its_queue : queue_line 0 (queue_numbers queue) ≡ codes "queue 0 0 ordinary 0 2 2\n"
unfolding queue_line order_word digits queue
its_queue = refl

its_receive : receive_line 0 no_message ≡ codes "receive 0 0 0\n"
unfolding receive_line digits no_message
its_receive = refl

its_first_slot : slot_line 0 0 rewrite ≡ codes "slot 0 0 write 0 2 1 0 64 8 0 0 1\n"
unfolding slot_line op_word digits rewrite
its_first_slot = refl

its_second_slot : slot_line 0 1 send ≡ codes "slot 0 1 noop 0 2 0 8 0 8 0 0 1\n"
unfolding slot_line op_word digits send
its_second_slot = refl

its_word : data_line 128 1407374883553280 ≡ codes "data 128 0005000000000000\n"
unfolding data_line digits encode_with spelled
its_word = refl

-- the whole image and its listing

image : Image
unfolding code control queue no_message rewrite send encoded spelled
image =
    parts_of (code ∷ control ∷ []) (queue ∷ []) (no_message ∷ []) (encoded rewrite ++ encoded send ++ spelled 8 1407374883553280 ++ spelled 8 7 ++ replicate 48 0)

its_listing : listing_text image ≡ codes "redn 1\nmemory 192\nregion 1 0 code 0 4 0 128\nregion 2 0 control 0 0 128 64\nqueue 0 0 ordinary 0 2 2\nreceive 0 0 0\nslot 0 0 write 0 2 1 0 64 8 0 0 1\nslot 0 1 noop 0 2 0 8 0 8 0 0 1\ndata 128 0005000000000000\ndata 136 0000000000000007\nend\n"
unfolding listing_text image code control queue no_message rewrite send encoded decoded number spelled region_line queue_line receive_line slot_line data_line kind_word order_word op_word digits encode_with
its_listing = refl

-- lines, and what begins them

three_lines : lines_of (codes "redn 1\n\nend") ≡ codes "redn 1\n" ∷ codes "\n" ∷ codes "end" ∷ []
three_lines = refl

a_data_line : fills (codes "data 0 x\n") ≡ true
unfolding fills
a_data_line = refl

end_of_it : fills (codes "end of it\n") ≡ true
unfolding fills
end_of_it = refl

not_the_end : fills (codes "ends\n") ≡ false
unfolding fills
not_the_end = refl

a_row : fills (codes "receive 0 0 0\n") ≡ false
unfolding fills
a_row = refl

-- a word in digits of either case

in_capitals : decode_sized (codes "00000000000000AB") 8 ≡ Ok (spelled 8 171)
unfolding decode_pairs spelled
in_capitals = refl

in_small_letters : decode_sized (codes "00000000000000ab") 8 ≡ Ok (spelled 8 171)
unfolding decode_pairs spelled
in_small_letters = refl

-- the slots of two rings, in order

two_rings : all_places 0 (record { domain = 0; managed = 0; base = 0; slots = 2; limit = 2 } ∷ record { domain = 0; managed = 0; base = 192; slots = 1; limit = 0 } ∷ []) ≡ record { queue = 0; index = 0; at = 0 } ∷ record { queue = 0; index = 1; at = 64 } ∷ record { queue = 1; index = 0; at = 192 } ∷ []
two_rings = refl

-- what texts come to

bytes_by_test : (xs : List ℕ) → list_all (λ (b : ℕ). nat_lt b 256) xs ≡ true → AreBytes xs
bytes_by_test [] h k = lit< tt
bytes_by_test (x ∷ xs) h k =
    let both = and_parts (nat_lt x 256) (list_all (λ (b : ℕ). nat_lt b 256) xs) h in
    first_or_later x xs (ltb-true x 256 both.0) (bytes_by_test xs both.1) k
  where
    first_or_later : (x : ℕ) (xs : List ℕ) → x < 256 → AreBytes xs → (k : ℕ) → get_or (x ∷ xs) k 0 < 256
    first_or_later x xs a b zero = a
    first_or_later x xs a b (suc k) = b k

abbrev first_byte : List ℕ → ℕ
first_byte [] = 0
first_byte (b ∷ rest) = b

keeps : Obeys image
unfolding faults image code control queue no_message rewrite send encoded spelled
keeps = refl

in_bytes : AreBytes image.memory
unfolding image code control queue no_message rewrite send encoded spelled
in_bytes = bytes_by_test image.memory refl

-- the text of the image above, typed by hand
its_text : Assembles (codes "redn 1\nmemory 192\nregion 1 0 code 0 4 0 128\nregion 2 0 control 0 0 128 64\nqueue 0 0 ordinary 0 2 2\nreceive 0 0 0\nslot 0 0 write 0 2 1 0 64 8 0 0 1\nslot 0 1 noop 0 2 0 8 0 8 0 0 1\ndata 128 0005000000000000\ndata 136 0000000000000007\nend\n") (Made (numbers_of image) image.memory)
its_text = subst (λ (t : List ℕ). Assembles t (Made (numbers_of image) image.memory)) its_listing (read_back image keeps in_bytes)

an_empty_text : Assembles [] (WrongLine 1)
an_empty_text = refl

memory_row : IsRow (codes "memory") memory_formats (codes "memory 4\n") (4 ∷ [])
unfolding digits
memory_row = (codes " 4\n", refl, (codes "4", codes "\n", refl, (refl, lit≤ tt, lit< tt), refl))

-- the last line's beginning brings the rules first: there is no message place
rules_first : Assembles (codes "redn 1\nmemory 4\nend of it\n") (BreaksRule (fault_at 3 0))
unfolding Leads fills faults
rules_first = inl (Named, (refl, refl), inl (GivenRows (no_rows 4), (4, memory_row, refl), refl))

-- a text that ends too early
no_end : Assembles (codes "redn 1\nmemory 4\n") (WrongLine 3)
unfolding Leads fills
no_end = inl (Named, (refl, refl), inl (GivenRows (no_rows 4), (4, memory_row, refl), refl))

-- no line but one of memory's size follows the first
not_yet : Assembles (codes "redn 1\nend\n") (WrongLine 2)
unfolding Leads fills
not_yet = inl (Named, (refl, refl), inr (λ after h. let e = ap first_byte h.1.1 in omega arith, refl))
