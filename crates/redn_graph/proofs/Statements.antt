-- Statements by their kinds, as the code meets them.
use Rattle.std.proofs.Common.{◌≡◌, ℕ, Bool, true, false, None, ◌+◌, ◌-◌, ◌<◌, ◌≤◌, List, [], ◌∷◌, length, take, drop, get_or, Result, Ok, Err, IfOk, OnOk, refl, sym, ap, ◌∙◌, subst, arith}
use Rattle.std.proofs.lemmas.List.{take_all}
use Rattle.std.proofs.lemmas.List.Sums.{sum-map, sum_by-cons}
use Rattle.redn_kernel.specs.declared.types.Word.{Word}
use Rattle.redn_kernel.specs.declared.types.Word.TheVariants.{Var, Num}
use Rattle.redn_kernel.specs.declared.types.Kernel.{Kernel, out-Kernel, map-Kernel, every_here-Kernel}
use Rattle.redn_kernel.specs.declared.types.Kernel.TheOpen.{Kernel-F}
use Rattle.std.proofs.lemmas.List.Elements.{All-head, All-tail}
use Rattle.redn_kernel.specs.Program.{weight_of, weight_of_all, weight_by, falls_through, IsSoundStatement, is_idle_body}
use Rattle.redn_kernel.specs.Program.{IsUsable, AllUsable}
use Rattle.redn_kernel.proofs.Statements.{if_usable, loop_usable, repeat_usable}
use Rattle.redn_kernel.proofs.Cases.{weight_out}
use Rattle.redn_graph.specs.declared.build.Builder.{Builder}
use Rattle.redn_graph.specs.Growth.{Grown, AllSound, IsSoundOne}
use Rattle.redn_kernel.specs.declared.types.Kernel.TheVariants as k
use Rattle.redn_graph.specs.declared.types.Instr.{Instr}
use Rattle.redn_graph.specs.declared.types.End.{End}
use Rattle.redn_graph.specs.declared.types.Block.{Block}
use Rattle.redn_graph.specs.declared.build.Tail.{Tail}
use Rattle.redn_graph.specs.declared.build.Tail.TheVariants as tail
use Rattle.redn_kernel.specs.Costs.{statement_worth, jump_worth}
use Rattle.redn_graph.specs.Idle.{jump_of}
use Rattle.redn_graph.specs.Code.{Meaning, Label, InstrRuns, EndRuns, Compiles, Labels, IsOpen}
use Rattle.redn_kernel.specs.CoreRun.{cell_of}
use Rattle.redn_graph.specs.Statements.{DoesStatement}
use Rattle.redn_graph.specs.Words.{move_of, test_end}
use Rattle.redn_graph.proofs.Doing.{doing, set_runs, move_runs}
use Rattle.redn_graph.proofs.Building.{compiles_end, compiles_branch}

pub ok_still : {A E : Type 0} (r : Result A E) (P Q : A → Type 0) → ((a : A) → P a → Q a) → IfOk r P → IfOk r Q
ok_still (Ok a) P Q f p = f a p
ok_still (Err e) P Q f p = p

pub ok_any : {A E : Type 0} (r : Result A E) (P : A → Type 0) → ((a : A) → P a) → IfOk r P
ok_any (Ok a) P f = f a
ok_any (Err e) P f = tt

pub ok_both : {A E : Type 0} (r : Result A E) (P Q R : A → Type 0) → ((a : A) → P a → Q a → R a) → IfOk r P → IfOk r Q → IfOk r R
ok_both (Ok a) P Q R f p q = f a p q
ok_both (Err e) P Q R f p q = p

pub empty_list : {A : Type 0} (xs : List A) → length xs < 1 → xs ≡ []
empty_list [] h = refl
empty_list (x ∷ xs) h = absurd (omega arith)

pub move_of_runs : (x : ℕ) (a : Word) (m : Meaning) → InstrRuns (move_of x a) (doing (k.Move x a) m) m statement_worth jump_worth
move_of_runs x (Var y) m = move_runs m x (Var y)
move_of_runs x (Num n) m = set_runs m x n

-- an instruction that was made for a statement does what it does
pub does_as : (st kind : Kernel) (instr made : Instr) → st ≡ kind → made ≡ instr → ((m : Meaning) → InstrRuns instr (doing kind m) m statement_worth jump_worth) → DoesStatement st made
does_as st kind instr made is same runs =
    subst (λ (u : Kernel). DoesStatement u made) (sym is) (subst (λ (i : Instr). DoesStatement kind i) (sym same) runs)

-- a statement that is an end
pub compiles_alone : (blocks : List Block) (hidden exit : ℕ) (st kind : Kernel) (end made : End) (t after : Tail) → st ≡ kind → made ≡ end → jump_of end ≡ None →
    ((all : List Label) (m : Meaning) → EndRuns all end (doing kind m) statement_worth) → IsOpen after [] made → Compiles blocks blocks hidden exit (st ∷ []) t after
compiles_alone blocks hidden exit st kind end made t (tail.To l) is same stops runs opens = absurd opens
compiles_alone blocks hidden exit st kind end made t (tail.Open instrs last) is same stops runs opens =
    subst (λ (u : Kernel). Compiles blocks blocks hidden exit (u ∷ []) t (tail.Open instrs last)) (sym is)
    (compiles_end blocks hidden exit kind instrs last t opens.0 (ap jump_of (opens.1 ∙ same) ∙ stops) (λ all m. subst (λ (e : End). EndRuns all e (doing kind m) statement_worth) (sym (opens.1 ∙ same)) (runs all m)))

-- a test between two blocks
pub compiles_test : {b0 b1 b2 b3 b4 b5 : List Block} {h0 h1 h2 : ℕ} (exit : ℕ) (wide : Bool) (a b : Word) (met unmet : List Kernel) (t : Tail) (next : ℕ) (one other : Tail) (yes_block no_block : ℕ) (made : End) (after : Tail) → h0 ≤ h1 → h0 ≤ h2 → made ≡ test_end wide (cell_of a) (cell_of b) yes_block no_block → IsOpen after [] made →
    Labels b0 b1 t next → Compiles b1 b2 h1 exit met (tail.To next) one → Compiles b2 b3 h2 exit unmet (tail.To next) other → Labels b3 b4 one yes_block → Labels b4 b5 other no_block →
    Compiles b0 b5 h0 exit (k.If wide a b met unmet ∷ []) t after
compiles_test exit wide a b met unmet t next one other yes_block no_block made (tail.To l) le1 le2 is opens l0 c1 c2 l3 l4 = absurd opens
compiles_test {b0 = b0} {b5 = b5} {h0 = h0} exit wide a b met unmet t next one other yes_block no_block made (tail.Open instrs last) le1 le2 is opens l0 c1 c2 l3 l4 =
    subst (λ (e : End). Compiles b0 b5 h0 exit (k.If wide a b met unmet ∷ []) t (tail.Open instrs e)) (sym (opens.1 ∙ is))
    (compiles_branch exit wide a b met unmet t next one other yes_block no_block instrs le1 le2 opens.0 l0 c1 c2 l3 l4)

-- nothing was added
pub grown_none : (b : Builder) (weight : ℕ) → Grown b b weight
grown_none b weight = record { more = omega arith; cells = omega arith; longer = omega arith; blocks = omega arith }

weight_layer : (layer : Kernel-F Kernel) → 1 ≤ weight_by (map-Kernel Kernel ℕ weight_of layer)
unfolding weight_by
weight_layer (Kernel-F.Move x a) = omega arith
weight_layer (Kernel-F.Add x a) = omega arith
weight_layer (Kernel-F.Load x table a) = omega arith
weight_layer (Kernel-F.Store table a b) = omega arith
weight_layer (Kernel-F.If wide a b met unmet) = omega arith
weight_layer (Kernel-F.Loop body) = omega arith
weight_layer (Kernel-F.Repeat n body) = omega arith
weight_layer Kernel-F.Break = omega arith
weight_layer (Kernel-F.Lookup x table a key n) = omega arith
weight_layer (Kernel-F.Walk x table a key n) = omega arith
weight_layer (Kernel-F.Reply words) = omega arith

pub weight_positive : (st : Kernel) → 1 ≤ weight_of st
weight_positive st = omega (arith, weight_out st (out-Kernel st) refl, weight_layer (out-Kernel st))

pub weight_first : (first : Kernel) (rest : List Kernel) → weight_of_all (first ∷ rest) ≡ weight_of first + weight_of_all rest
weight_first first rest = sum-map weight_of (first ∷ rest) ∙ sum_by-cons weight_of first rest ∙ ap (λ (n : ℕ). weight_of first + n) (sym (sum-map weight_of rest))

-- statements of a sound chain, and those in their blocks
pub first_sound : (first : Kernel) (rest body : List Kernel) → first ∷ rest ≡ body → AllSound body → IsSoundOne first
first_sound first rest body is u = (u.0, (All-head (IsUsable u.0) first rest (subst (AllUsable u.0) (sym is) u.1)))

pub rest_sound : (first : Kernel) (rest body : List Kernel) → first ∷ rest ≡ body → AllSound body → AllSound rest
rest_sound first rest body is u = (u.0, All-tail (IsUsable u.0) first rest (subst (AllUsable u.0) (sym is) u.1))

pub met_sound : (st : Kernel) (wide : Bool) (a b : Word) (met unmet one : List Kernel) → st ≡ k.If wide a b met unmet → one ≡ met → IsSoundOne st → AllSound one
met_sound st wide a b met unmet one is same u = (u.0, subst (AllUsable u.0) (sym same) (if_usable u.0 st u.1 wide a b met unmet is).0)

pub unmet_sound : (st : Kernel) (wide : Bool) (a b : Word) (met unmet one : List Kernel) → st ≡ k.If wide a b met unmet → one ≡ unmet → IsSoundOne st → AllSound one
unmet_sound st wide a b met unmet one is same u = (u.0, subst (AllUsable u.0) (sym same) (if_usable u.0 st u.1 wide a b met unmet is).1)

pub loop_sound : (st : Kernel) (body one : List Kernel) → st ≡ k.Loop body → one ≡ body → IsSoundOne st → AllSound one
loop_sound st body one is same u = (u.0, subst (AllUsable u.0) (sym same) (loop_usable u.0 st u.1 body is))

pub repeat_sound : (st : Kernel) (n : ℕ) (body one : List Kernel) → st ≡ k.Repeat n body → one ≡ body → IsSoundOne st → AllSound one
repeat_sound st n body one is same u = (u.0, subst (AllUsable u.0) (sym same) (repeat_usable u.0 st u.1 n body is))

layer_of : (st : Kernel) (layer : Kernel-F Kernel) (u : IsSoundOne st) → out-Kernel st ≡ layer → IsSoundStatement u.1.tables u.0 layer
layer_of st layer u e = subst (IsSoundStatement u.1.tables u.0) e (every_here-Kernel (IsSoundStatement u.1.tables u.0) st u.1.sound)

pub loop_not_idle : (st : Kernel) (body one : List Kernel) → st ≡ k.Loop body → one ≡ body → IsSoundOne st → is_idle_body one ≡ false
unfolding IsSoundStatement
loop_not_idle st body one is same u = ap is_idle_body same ∙ (layer_of st (Kernel-F.Loop body) u (ap out-Kernel is ∙ k.outs-Loop body)).1

pub repeat_some : (st : Kernel) (n : ℕ) (body : List Kernel) → st ≡ k.Repeat n body → IsSoundOne st → 1 ≤ n
unfolding IsSoundStatement
repeat_some st n body is u = (layer_of st (Kernel-F.Repeat n body) u (ap out-Kernel is ∙ k.outs-Repeat n body)).0

pub probes_few : (st : Kernel) (x table : ℕ) (a key : Word) (n : ℕ) → st ≡ k.Lookup x table a key n → IsSoundOne st → (1 ≤ n) × (n ≤ 4)
unfolding IsSoundStatement
probes_few st x table a key n e u = let h = layer_of st (Kernel-F.Lookup x table a key n) u (ap out-Kernel e ∙ k.outs-Lookup x table a key n) in (h.1, h.2)

pub nodes_some : (st : Kernel) (x table : ℕ) (a key : Word) (n : ℕ) → st ≡ k.Walk x table a key n → IsSoundOne st → 1 ≤ n
unfolding IsSoundStatement
nodes_some st x table a key n e u = let h = layer_of st (Kernel-F.Walk x table a key n) u (ap out-Kernel e ∙ k.outs-Walk x table a key n) in h.1

true_false : true ≡ false → ⊥
true_false e = cc

-- a body that doesn't fall through has a statement
pub some_weight : (body : List Kernel) → falls_through body ≡ false → 1 ≤ weight_of_all body
some_weight [] ends = absurd (true_false ends)
some_weight (first ∷ rest) ends = omega (arith, weight_first first rest, weight_positive first)
