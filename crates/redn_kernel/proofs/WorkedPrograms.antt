-- A sound program, and statements that aren't.
use Rattle.std.proofs.Common.{◌≡◌, ℕ, ◌^◌, ◌<◌, arith, true, false, List, [], ◌∷◌, refl, sym}
use Rattle.std.proofs.lemmas.Bool.{false≢true}
use Rattle.std.proofs.lemmas.List.Elements.{All-cons, All-nil, All-head}
use Rattle.std.proofs.lemmas.Bool.{and_parts}
use Rattle.std.proofs.lemmas.Bool.Decides.{nat_tests}
use Rattle.std.specs.Prelude.{All, nat_lt}
use Rattle.std.specs.List.{list_all}
use Rattle.redn_kernel.specs.declared.types.Word.TheVariants.{Var, Num}
use Rattle.redn_kernel.specs.declared.types.Kernel.{Kernel, every-Kernel}
use Rattle.redn_kernel.specs.declared.types.Kernel.TheVariants as s
use Rattle.redn_kernel.specs.declared.types.Kernel.TheOpen.{Kernel-F}
use Rattle.redn_kernel.specs.declared.types.TableInit.{TableInit}
use Rattle.redn_kernel.specs.declared.types.ChainInit.{ChainInit}
use Rattle.redn_kernel.specs.Program.{AreBytes, AreWords, IsNamed, IsSound, IsSoundChain, IsSoundStatement, IsSoundTable}
use Rattle.redn_kernel.proofs.Cases.{every_of, exits_of_load, exits_of_add, exits_of_if, exits_of_loop, exits_of_reply, idles_of_load, weight_of_load, weight_of_add, weight_of_if, weight_of_loop, weight_of_reply}

abbrev two_words : TableInit
two_words = record { bytes = 0 ∷ 0 ∷ 0 ∷ 0 ∷ 0 ∷ 0 ∷ 0 ∷ 1 ∷ 0 ∷ 0 ∷ 0 ∷ 0 ∷ 0 ∷ 0 ∷ 0 ∷ 2 ∷ []; writable = false }

abbrev tables : List TableInit
tables = two_words ∷ []

abbrev Sound : Kernel → Type 0
Sound = every-Kernel (IsSoundStatement tables 2)

-- x = t[p];
load : Sound (s.Load 1 0 (Var 0))
unfolding IsSoundStatement
load = every_of (IsSoundStatement tables 2) _ _ (Kernel-F.Load 1 0 (Var 0)) (s.outs-Load _ _ _) refl (omega arith, omega arith, omega arith)

-- p += 8;
add : Sound (s.Add 0 (Num 8))
unfolding IsSoundStatement
add = every_of (IsSoundStatement tables 2) _ _ (Kernel-F.Add 0 (Num 8)) (s.outs-Add _ _) refl (omega arith, tt)

-- reply x;
reply : Sound (s.Reply (Var 1 ∷ []))
unfolding IsSoundStatement
reply =
    every_of (IsSoundStatement tables 2) _ _ (Kernel-F.Reply (Var 1 ∷ [])) (s.outs-Reply _) refl
    (All-cons (IsNamed 2) (Var 1) [] (omega arith) (All-nil (IsNamed 2)), omega arith, omega arith)

-- if x == 2 { reply x; }
test : Sound (s.If true (Var 1) (Num 2) (s.Reply (Var 1 ∷ []) ∷ []) [])
unfolding IsSoundStatement
test =
    every_of (IsSoundStatement tables 2) _ _ (Kernel-F.If true (Var 1) (Num 2) ((s.Reply (Var 1 ∷ []), reply) ∷ []) []) (s.outs-If _ _ _ _ _) refl
    (omega arith, tt, refl, refl)

abbrev body : List Kernel
body = s.Load 1 0 (Var 0) ∷ s.Add 0 (Num 8) ∷ s.If true (Var 1) (Num 2) (s.Reply (Var 1 ∷ []) ∷ []) [] ∷ []

-- loop { x = t[p]; p += 8; if x == 2 { reply x; } }
loop : Sound (s.Loop body)
unfolding IsSoundStatement
loop =
    every_of (IsSoundStatement tables 2) _ _
    (Kernel-F.Loop ((s.Load 1 0 (Var 0), load) ∷ (s.Add 0 (Num 8), add) ∷ (s.If true (Var 1) (Num 2) (s.Reply (Var 1 ∷ []) ∷ []) [], test) ∷ []))
    (s.outs-Loop _) refl (simp (exits_of_load, exits_of_add) refl, simp idles_of_load refl)

-- numbers below a limit, one by one
listed : (most : ℕ) (list : List ℕ) → list_all (λ (b : ℕ). nat_lt b most) list ≡ true → All (λ (b : ℕ). b < most) list
listed most [] e = All-nil (λ (b : ℕ). b < most)
listed most (b ∷ rest) e =
    let parts = and_parts (nat_lt b most) (list_all (λ (b : ℕ). nat_lt b most) rest) e in
    let here : b < most = grind (arith, nat_tests) in
    All-cons (λ (b : ℕ). b < most) b rest here (listed most rest parts.1)

-- chain c { arg p; var x = 5; loop { .. } }
abbrev chain : ChainInit
chain = record { serve = 1; args = 1; vars = 0 ∷ 5 ∷ []; body = s.Loop body ∷ [] }

chain_is_sound : IsSoundChain tables chain
chain_is_sound =
    record {
      serves = omega arith;
      serves_few = omega arith;
      arguments = omega arith;
      arguments_first = omega arith;
      arguments_fresh = refl;
      variables = omega arith;
      words = listed (2 ^ 64) (0 ∷ 5 ∷ []) refl;
      statements = All-cons Sound (s.Loop body) [] loop (All-nil Sound);
      reached = refl;
      no_break = simp exits_of_loop refl;
      ends = simp (exits_of_loop, exits_of_load, exits_of_add, exits_of_if, exits_of_reply) refl;
    }

a_program_is_sound : IsSound (record { tables = tables; chains = chain ∷ [] })
a_program_is_sound =
    record {
      some_chain = omega arith;
      few_chains = omega arith;
      few_tables = omega arith;
      whole_words = All-cons IsSoundTable two_words [] (omega arith, refl, listed 256 two_words.bytes refl) (All-nil IsSoundTable);
      few_bytes = omega arith;
      sound_chains = All-cons (IsSoundChain tables) chain [] chain_is_sound (All-nil (IsSoundChain tables));
      light = simp (weight_of_loop, weight_of_load, weight_of_add, weight_of_if, weight_of_reply) (omega arith);
    }

-- t[0] = 1;
a_store_into_a_table_that_is_only_read : IsSoundStatement tables 2 (Kernel-F.Store 0 (Num 0) (Num 1)) → ⊥
unfolding IsSoundStatement
a_store_into_a_table_that_is_only_read h = false≢true h.0

a_store_into_no_table : IsSoundStatement tables 2 (Kernel-F.Store 1 (Num 0) (Num 1)) → ⊥
unfolding IsSoundStatement
a_store_into_no_table h = false≢true h.0

a_load_from_no_table : IsSoundStatement tables 2 (Kernel-F.Load 0 1 (Num 0)) → ⊥
unfolding IsSoundStatement
a_load_from_no_table h = omega (arith, h.1)

a_move_to_no_variable : IsSoundStatement tables 2 (Kernel-F.Move 2 (Num 0)) → ⊥
unfolding IsSoundStatement
a_move_to_no_variable h = omega (arith, h.0)

-- lookup x = t[0] key x probes 1;
a_lookup_into_its_key : IsSoundStatement tables 2 (Kernel-F.Lookup 1 0 (Num 0) (Var 1) 1) → ⊥
unfolding IsSoundStatement
a_lookup_into_its_key h = h.0.5 refl

-- walk x = t[x] key 1 nodes 1;
a_walk_into_its_offset : IsSoundStatement tables 2 (Kernel-F.Walk 1 0 (Var 1) (Num 1) 1) → ⊥
unfolding IsSoundStatement
a_walk_into_its_offset h = h.0.4 refl

five_probes : IsSoundStatement tables 2 (Kernel-F.Lookup 1 0 (Num 0) (Var 0) 5) → ⊥
unfolding IsSoundStatement
five_probes h = omega (arith, h.2)

a_repeat_of_no_times : IsSoundStatement tables 2 (Kernel-F.Repeat 0 []) → ⊥
unfolding IsSoundStatement
a_repeat_of_no_times h = omega (arith, h.0)

a_reply_of_no_words : IsSoundStatement tables 2 (Kernel-F.Reply []) → ⊥
unfolding IsSoundStatement
a_reply_of_no_words h = omega (arith, h.1)

a_loop_of_nothing : IsSoundStatement tables 2 (Kernel-F.Loop []) → ⊥
unfolding IsSoundStatement
a_loop_of_nothing h = false≢true (sym h.1)

-- 256 is no byte, and 2 ^ 64 no word
no_byte : AreBytes (256 ∷ []) → ⊥
no_byte all = omega (arith, All-head (λ (b : ℕ). b < 256) 256 [] all)

no_word : AreWords (18446744073709551616 ∷ []) → ⊥
no_word all = omega (arith, All-head (λ (v : ℕ). v < 2 ^ 64) 18446744073709551616 [] all)
