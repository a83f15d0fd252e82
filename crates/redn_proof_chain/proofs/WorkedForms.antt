-- What windows cost, computed: the segments of each instruction and end, in a ring that ends by a jump and in one that ends by a reply.
use Rattle.std.proofs.Common.{ℕ, ◌≡◌, ◌+◌, false, List, [], ◌∷◌, refl, length, map}
use Rattle.std.specs.Prelude.{sum}
use Rattle.std.specs.List.{range_with_len}
use Rattle.redn_kernel.specs.declared.types.Cell.TheVariants.{Var, Num}
use Rattle.redn_kernel.specs.Costs.{move_cost, jump_cost, reply_cost}
use Rattle.redn_graph.specs.declared.types.Instr.{Instr}
use Rattle.redn_graph.specs.declared.types.End.{End}
use Rattle.redn_graph.specs.declared.types.Instr.TheVariants as instr
use Rattle.redn_graph.specs.declared.types.End.TheVariants as end
use Rattle.redn_graph.specs.declared.types.Block.{Block}
use Rattle.redn_graph.specs.Run.{instr_cost, end_cost}
use Rattle.redn_block.specs.Blocks.{block_segments}
use Rattle.redn_recycle.specs.Lapped.{ring_of}
use Rattle.redn_proof_block.specs.Shares.{counts_of}
use Rattle.redn_proof_chain.specs.Openings.{opening_cost}

abbrev block : List Instr → End → Block
block instrs e = record { instrs = instrs; end = e }

-- what each window of ring 5 costs
abbrev costs : Block → List ℕ
costs b = map (λ (j : ℕ). opening_cost 5 (ring_of (block_segments 5 5 b) 5 0 0) j) (range_with_len 0 (length (block_segments 5 5 b)))

-- one of each instruction: 16, 16, 16, 32, 32, 32, and a jump of 28
abbrev all_instrs : List Instr
all_instrs = instr.Set (Var 0) 7 ∷ instr.Move (Var 0) (Var 1) ∷ instr.Add (Var 0) (Num 3) ∷ instr.Add (Var 0) (Var 1) ∷ instr.Load (Var 0) 0 (Var 1) ∷ instr.Store 0 (Var 0) (Var 1) ∷ []

jumping : costs (block all_instrs (end.Jump 0)) ≡ 16 ∷ 16 ∷ 16 ∷ 16 ∷ 16 ∷ 16 ∷ 16 ∷ 16 ∷ 16 ∷ 16 ∷ 12 ∷ []
jumping = refl

counted : counts_of 5 5 (block all_instrs (end.Jump 0)) ≡ 1 ∷ 1 ∷ 1 ∷ 2 ∷ 2 ∷ 2 ∷ 2 ∷ []
counted = refl

-- the tests, and a probe: 72, 100 and 132
test_low : costs (block [] (end.Test48 (Var 0) (Var 1) 0 0)) ≡ 24 ∷ 20 ∷ 16 ∷ 12 ∷ []
test_low = refl

test_all : costs (block [] (end.Test64 (Var 0) (Var 1) 0 0)) ≡ 36 ∷ 20 ∷ 16 ∷ 16 ∷ 12 ∷ []
test_all = refl

probes : costs (block [] (end.Probe (Var 0) 0 (Var 1) (Var 2) 0 0)) ≡ 36 ∷ 20 ∷ 24 ∷ 20 ∷ 20 ∷ 12 ∷ []
probes = refl

-- in all they are what the table of costs says, of each instruction with a jump behind it, and of each other end alone
each_instruction : map (λ (i : Instr). sum (costs (block (i ∷ []) (end.Jump 0)))) all_instrs ≡ map (λ (i : Instr). instr_cost i + jump_cost) all_instrs
unfolding instr_cost
each_instruction = refl

abbrev other_ends : List End
other_ends = end.Test48 (Var 0) (Var 1) 0 0 ∷ end.Test64 (Var 0) (Var 1) 0 0 ∷ end.Probe (Var 0) 0 (Var 1) (Var 2) 0 0 ∷ []

each_end : map (λ (e : End). sum (costs (block [] e))) other_ends ≡ map (end_cost false) other_ends
unfolding end_cost
each_end = refl

-- a reply of eight words costs 48 where something stands before it, and 44 alone: its first segment has one lap request
eight_words : List Instr → Block
eight_words instrs = block instrs (end.Reply (Var 0 ∷ Var 0 ∷ Var 0 ∷ Var 0 ∷ Var 0 ∷ Var 0 ∷ Var 0 ∷ Var 0 ∷ []))

replying : costs (eight_words []) ≡ 40 ∷ 4 ∷ []
unfolding eight_words
replying = refl

replying_then : costs (eight_words (instr.Set (Var 0) 7 ∷ [])) ≡ 12 ∷ 44 ∷ 4 ∷ []
unfolding eight_words
replying_then = refl

-- the move and the reply together cost four less than the table says, for the one lap request
a_reply_behind_a_move : sum (costs (eight_words (instr.Set (Var 0) 7 ∷ []))) + 4 ≡ move_cost + reply_cost 8
unfolding eight_words
a_reply_behind_a_move = refl
