-- The program of the generated file: each chain has the same statements.
use Rattle.std.proofs.Common.{◌≡◌, ℕ, List, [], ◌∷◌, map, codes, refl, ap, ◌∙◌}
use Rattle.redn_syntax.specs.declared.tree.Item.{Item}
use Rattle.redn_syntax.specs.declared.tree.Name.{Name}
use Rattle.redn_syntax.specs.declared.tree.Operand.TheVariants as operand
use Rattle.redn_syntax.specs.declared.tree.StmtKind.TheVariants as s
use Rattle.redn_kernel.specs.declared.types.Word.TheVariants.{Var, Num}
use Rattle.redn_kernel.specs.declared.types.Kernel.{Kernel}
use Rattle.redn_kernel.specs.declared.types.Kernel.TheVariants as k
use Rattle.redn_kernel.specs.declared.types.ChainInit.{ChainInit}
use Rattle.redn_check.specs.Numbering.{kernel_of, chain_init}
use Rattle.redn_check.proofs.Numbered.{kernel_add, kernel_repeat, kernel_lookup, kernel_reply}
use Rattle.redn_gen.specs.Generated.{name, number, named, statement, lookup, add, turn, reply, body, chain}
use Rattle.redn_gen.proofs.Accepted.{table_of}

-- a lookup and two additions, with numbers in place of names
abbrev pub turn_done : List Kernel
turn_done = k.Lookup 2 0 (Var 0) (Var 1) 2 ∷ k.Add 3 (Var 2) ∷ k.Add 4 (Num 1) ∷ []

abbrev pub body_done : List Kernel
body_done = k.Repeat 1000 turn_done ∷ k.Reply (Var 3 ∷ Var 4 ∷ []) ∷ []

-- two arguments and five variables
abbrev pub made : ChainInit
made = record { serve = 1; args = 2; vars = 0 ∷ 0 ∷ 0 ∷ 0 ∷ 0 ∷ []; body = body_done }

-- the names of the tables
abbrev tables : List Name
tables = name (codes "t") ∷ []

-- the names of a chain's variables
abbrev names : List Name
names = name (codes "o") ∷ name (codes "k") ∷ name (codes "x") ∷ name (codes "s") ∷ name (codes "i") ∷ []

lookup_done : kernel_of tables names (statement lookup) ≡ k.Lookup 2 0 (Var 0) (Var 1) 2
lookup_done = kernel_lookup tables names (statement lookup) _ _ _ _ _ (s.outs-Lookup _ _ _ _ _)

sum_done : kernel_of tables names (statement (add (codes "s") (named (codes "x")))) ≡ k.Add 3 (Var 2)
sum_done = kernel_add tables names (statement (add (codes "s") (named (codes "x")))) _ _ (s.outs-Add _ _)

count_done : kernel_of tables names (statement (add (codes "i") (operand.Num (number 1)))) ≡ k.Add 4 (Num 1)
count_done = kernel_add tables names (statement (add (codes "i") (operand.Num (number 1)))) _ _ (s.outs-Add _ _)

turn_is : map (kernel_of tables names) turn ≡ turn_done
turn_is = λ i. lookup_done i ∷ sum_done i ∷ count_done i ∷ []

repeat_done : kernel_of tables names (statement (s.Repeat (number 1000) turn)) ≡ k.Repeat 1000 turn_done
repeat_done = kernel_repeat tables names (statement (s.Repeat (number 1000) turn)) _ _ (s.outs-Repeat _ _) ∙ ap (k.Repeat 1000) turn_is

reply_done : kernel_of tables names (statement reply) ≡ k.Reply (Var 3 ∷ Var 4 ∷ [])
reply_done = kernel_reply tables names (statement reply) _ (s.outs-Reply _)

body_is : map (kernel_of tables names) body ≡ body_done
body_is = λ i. repeat_done i ∷ reply_done i ∷ []

-- so each chain is the same, whatever the table has
pub chain_made : (items : List Item) (c : ℕ) → chain_init (table_of items ∷ []) (chain c) ≡ made
chain_made items c = let init : List Kernel → ChainInit = λ b. record { serve = 1; args = 2; vars = 0 ∷ 0 ∷ 0 ∷ 0 ∷ 0 ∷ []; body = b } in ap init body_is

pub chains_made : (items : List Item) (cs : List ℕ) → map (chain_init (table_of items ∷ [])) (map chain cs) ≡ map (λ c. made) cs
chains_made items [] = refl
chains_made items (c ∷ cs) = λ i. chain_made items c i ∷ chains_made items cs i
