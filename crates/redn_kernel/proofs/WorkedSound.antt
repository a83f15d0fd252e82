-- Which programs are sound, computed.
use Rattle.std.proofs.Common.{◌≡◌, true, false, List, [], ◌∷◌, refl}
use Rattle.redn_kernel.specs.declared.types.Word.TheVariants.{Var, Num}
use Rattle.redn_kernel.specs.declared.types.Kernel.{Kernel}
use Rattle.redn_kernel.specs.declared.types.Kernel.TheVariants as s
use Rattle.redn_kernel.specs.Program.{falls_through, has_break, is_reached, is_idle_body, weight_of_all}
use Rattle.redn_kernel.proofs.Cases.{exits_of_move, exits_of_if, exits_of_loop, exits_of_repeat, exits_of_break, exits_of_reply, idles_of_move, idles_of_loop, idles_of_repeat, idles_of_break, weight_of_move, weight_of_if, weight_of_repeat, weight_of_break, weight_of_lookup, weight_of_walk, weight_of_reply}

abbrev reply : Kernel
reply = s.Reply (Num 1 ∷ [])

abbrev move : Kernel
move = s.Move 0 (Num 1)

abbrev test : List Kernel → List Kernel → Kernel
test met unmet = s.If true (Var 0) (Num 0) met unmet

an_empty_list_falls_through : falls_through [] ≡ true
an_empty_list_falls_through = refl

a_reply_does_not : falls_through (move ∷ reply ∷ []) ≡ false
a_reply_does_not = simp (exits_of_move, exits_of_reply) refl

-- if x == 0 { reply 1; } else { x = 1; }
a_test_falls_through_by_a_branch : falls_through (test (reply ∷ []) (move ∷ []) ∷ []) ≡ true
a_test_falls_through_by_a_branch = simp (exits_of_if, exits_of_move, exits_of_reply) refl

-- if x == 0 { reply 1; } else { reply 1; }
a_test_of_two_replies_does_not : falls_through (test (reply ∷ []) (reply ∷ []) ∷ []) ≡ false
a_test_of_two_replies_does_not = simp (exits_of_if, exits_of_reply) refl

-- loop { x = 1; }
an_endless_loop_does_not : falls_through (s.Loop (move ∷ []) ∷ []) ≡ false
an_endless_loop_does_not = simp (exits_of_loop, exits_of_move) refl

-- loop { if x == 0 { break; } }
a_loop_falls_through_by_its_break : falls_through (s.Loop (test (s.Break ∷ []) [] ∷ []) ∷ []) ≡ true
a_loop_falls_through_by_its_break = simp (exits_of_loop, exits_of_if, exits_of_break) refl

-- loop { repeat 2 { break; } }
the_break_of_another_is_not_its_own : falls_through (s.Loop (s.Repeat 2 (s.Break ∷ []) ∷ []) ∷ []) ≡ false
the_break_of_another_is_not_its_own = simp (exits_of_loop, exits_of_repeat) refl

-- repeat 2 { reply 1; }
a_repeated_reply_does_not_fall_through : falls_through (s.Repeat 2 (reply ∷ []) ∷ []) ≡ false
a_repeated_reply_does_not_fall_through = simp (exits_of_repeat, exits_of_reply) refl

-- if x == 0 { break; }, in no loop
a_break_in_no_loop : has_break (test (s.Break ∷ []) [] ∷ reply ∷ []) ≡ true
a_break_in_no_loop = simp (exits_of_if, exits_of_break, exits_of_reply) refl

a_break_in_a_loop : has_break (s.Loop (s.Break ∷ []) ∷ reply ∷ []) ≡ false
a_break_in_a_loop = simp (exits_of_loop, exits_of_reply) refl

a_statement_behind_a_reply_is_not_reached : is_reached (reply ∷ move ∷ []) ≡ false
a_statement_behind_a_reply_is_not_reached = simp exits_of_reply refl

a_last_reply_is_reached : is_reached (move ∷ reply ∷ []) ≡ true
a_last_reply_is_reached = simp exits_of_move refl

-- loop { loop { break; } }
a_loop_of_an_idle_loop : is_idle_body (s.Loop (s.Break ∷ []) ∷ []) ≡ true
a_loop_of_an_idle_loop = simp (idles_of_loop, idles_of_break) refl

-- loop { loop { loop { break; } break; } }
an_idle_loop_before_a_break : is_idle_body (s.Loop (s.Loop (s.Break ∷ []) ∷ s.Break ∷ []) ∷ []) ≡ true
an_idle_loop_before_a_break = simp (idles_of_loop, idles_of_break) refl

an_empty_body_is_idle : is_idle_body [] ≡ true
an_empty_body_is_idle = refl

-- loop { loop { x = 1; break; } }
a_move_is_not_idle : is_idle_body (s.Loop (move ∷ s.Break ∷ []) ∷ []) ≡ false
a_move_is_not_idle = simp (idles_of_loop, idles_of_move, idles_of_break) refl

-- loop { repeat 2 { break; } }
a_repeat_is_not_idle : is_idle_body (s.Repeat 2 (s.Break ∷ []) ∷ []) ≡ false
a_repeat_is_not_idle = simp idles_of_repeat refl

a_weight : weight_of_all (s.Lookup 0 0 (Num 0) (Num 5) 2 ∷ s.Walk 0 0 (Num 0) (Num 5) 900 ∷ s.Repeat 7 (test (move ∷ []) (s.Break ∷ []) ∷ []) ∷ reply ∷ []) ≡ 14
a_weight = simp (weight_of_lookup, weight_of_walk, weight_of_repeat, weight_of_if, weight_of_move, weight_of_break, weight_of_reply) refl
