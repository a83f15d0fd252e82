-- Parts of generated files and messages, worked by hand.
use Rattle.std.proofs.Common.{◌≡◌, [], ◌∷◌, map, Some, codes, length, slice_get, refl}
use Rattle.std.specs.List.{flat_map}
use Rattle.std.specs.Fmt.{digits}
use Rattle.redn_words.specs.Words.{spelled}
use Rattle.redn_syntax.specs.declared.tree.Operand.TheVariants as operand
use Rattle.redn_syntax.specs.declared.tree.StmtKind.TheVariants as s
use Rattle.redn_syntax.specs.Canonical as c
use Rattle.redn_syntax.specs.Canonical.{text_of}
use Rattle.redn_syntax.proofs.Lines.{statement_is}
use Rattle.redn_gen.specs.Generated.{below, name, number, named, word, statement, bucket, table, lookup, add, turn, reply, chain_name, chain, chain_count, generated_file, sought, message, generated_messages}

three : below 3 ≡ 0 ∷ 1 ∷ 2 ∷ []
unfolding below
three = refl

-- 64 * 6 + 5 + 1, and 5 + 6
bucket_6_of_5 : bucket 5 6 ≡ 390 ∷ 11 ∷ []
bucket_6_of_5 = refl

-- 64 * 511 + 63 + 1, and 63 + 511
last_bucket_of_63 : bucket 63 511 ≡ 32768 ∷ 574 ∷ []
last_bucket_of_63 = refl

-- the greatest number's remainder by 64 is 63
bucket_0_of_the_greatest : bucket 4294967295 0 ≡ 64 ∷ 4294967295 ∷ []
bucket_0_of_the_greatest = refl

-- the words of three buckets stand in a row
three_buckets : map word (flat_map (bucket 5) (below 3)) ≡ word 6 ∷ word 5 ∷ word 70 ∷ word 6 ∷ word 134 ∷ word 7 ∷ []
unfolding below
three_buckets = refl

chains_of_0 : chain_count 0 ≡ 1
chains_of_0 = refl

chains_of_5 : chain_count 5 ≡ 2
chains_of_5 = refl

chains_of_7 : chain_count 7 ≡ 4
chains_of_7 = refl

name_of_chain_3 : chain_name 3 ≡ name (codes "g3")
unfolding digits
name_of_chain_3 = refl

-- the file of 5 has two chains
chains_in_5 : (generated_file 5).chains ≡ chain 0 ∷ chain 1 ∷ []
unfolding below
chains_in_5 = refl

-- words 12 and 13 of its table are bucket 6, and the last of the 1,024 is the value 5 + 511
words_of_5 : (slice_get (table 5).items 12 ≡ Some (word 390)) × (slice_get (table 5).items 13 ≡ Some (word 11)) × (slice_get (table 5).items 1023 ≡ Some (word 516)) × (length (table 5).items ≡ 1024)
unfolding below
words_of_5 = (refl, refl, refl, refl)

-- the canonical text of a chain
text_of_chain_1 :
    text_of (c.chain (chain 1))
    ≡ codes "chain g1 { arg o ; arg k ; var x ; var s ; var i ; repeat 1000 { lookup x = t [ o ] key k probes 2 ; s += x ; i += 1 ; } reply s , i ; }\n"
unfolding c.form digits
text_of_chain_1 =
    rw (
      statement_is (statement (s.Repeat (number 1000) turn)) _ _ refl (s.outs-Repeat _ _),
      statement_is (statement lookup) _ _ refl (s.outs-Lookup _ _ _ _ _),
      statement_is (statement (add (codes "s") (named (codes "x")))) _ _ refl (s.outs-Add _ _),
      statement_is (statement (add (codes "i") (operand.Num (number 1)))) _ _ refl (s.outs-Add _ _),
      statement_is (statement reply) _ _ refl (s.outs-Reply _),
    ) refl

-- chain 0 looks for bucket 5, at 80, whose key is 64 * 5 + 6 = 326
message_0_of_5 : message 5 0 ≡ 0 ∷ 0 ∷ 0 ∷ 0 ∷ 0 ∷ 0 ∷ 0 ∷ 80 ∷ 0 ∷ 0 ∷ 0 ∷ 0 ∷ 0 ∷ 0 ∷ 1 ∷ 70 ∷ []
unfolding spelled
message_0_of_5 = refl

-- and chain 1 for bucket 6, at 96, whose key is 390
message_1_of_5 : message 5 1 ≡ 0 ∷ 0 ∷ 0 ∷ 0 ∷ 0 ∷ 0 ∷ 0 ∷ 96 ∷ 0 ∷ 0 ∷ 0 ∷ 0 ∷ 0 ∷ 0 ∷ 1 ∷ 134 ∷ []
unfolding spelled
message_1_of_5 = refl

messages_of_5 : generated_messages 5 ≡ Some (message 5 0) ∷ Some (message 5 1) ∷ []
unfolding below
messages_of_5 = refl

-- the last bucket is none that a chain looks for: 511 is bucket 0 again
bucket_of_511 : sought 511 0 ≡ 0
bucket_of_511 = refl

-- n + c doesn't wrap: 4294967298 = 511 * 8405024 + 34
bucket_of_the_greatest : sought 4294967295 3 ≡ 34
bucket_of_the_greatest = refl
