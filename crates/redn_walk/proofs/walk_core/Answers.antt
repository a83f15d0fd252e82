use Rattle.std.proofs.Common.{◌≡◌, ℕ, suc, ◌-◌, ◌<◌, List, Result, Ok, Err, IfOk, sym, ap, ◌∙◌, subst, arith}
use Rattle.redn_words.specs.declared.types.Memory.{Memory}
use Rattle.redn_kernel.specs.declared.types.Word.{Word}
use Rattle.redn_kernel.specs.declared.types.Kernel.{Kernel}
use Rattle.redn_kernel.specs.declared.types.Kernel.TheVariants as k
use Rattle.redn_kernel.specs.declared.types.Core.{Core}
use Rattle.redn_kernel.specs.Source.{value_of}
use Rattle.redn_kernel.specs.Becomes.{Becomes}
use Rattle.redn_kernel.specs.Composes.{Composes}
use Rattle.redn_kernel.specs.Found.{LeaveFound, nodes}
use Rattle.redn_walk.specs.Walk.{cores_of}
use Rattle.redn_kernel.specs.Uses.{AllBelow}
use Rattle.redn_walk.proofs.Uses.{walk_uses}
use Rattle.redn_kernel.proofs.Becoming.{becomes}
use Rattle.redn_walk.proofs.Walks.{walk_finds, finds_in, some_nodes, made_in}
use Rattle.redn_walk.proofs.Composed.{walk_composes}
use Rattle.redn_walk.proofs.walk_core.Goals as goal

ok_of : (r : Result (List Core) Memory) (made : List Core) (P : List Core → Type 0) → P made → IfOk r (λ cores. cores ≡ made) → IfOk r P
ok_of (Ok cores) made P h e = subst P (sym e) h
ok_of (Err e) made P h t = t

pub returns-clause-finds : goal.returns-clause-finds
returns-clause-finds c =
    let i = c.in-Walk in
    let some = some_nodes c.args.s.now i.to i.table i.nodes i.offset i.key c.requires i.is in
    let all : suc (i.nodes - 1) ≡ i.nodes = omega (arith, some) in
    let few : suc (i.nodes - 1) < 281474976710656 = omega arith in
    ok_of c.cores.result _ (λ cores. (to table : ℕ) (offset key : Word) (count : ℕ) → c.args.s.now ≡ k.Walk to table offset key count → LeaveFound to table key (λ tables vars. nodes tables table count (value_of vars offset)) cores)
    (λ to table offset key count is.
    finds_in (cores_of i.to i.table i.offset i.key i.nodes) i.to i.table (suc (i.nodes - 1)) to table count i.offset i.key offset key (ap (k.Walk i.to i.table i.offset i.key) all ∙ sym i.is ∙ is)
    (subst (λ (n : ℕ). LeaveFound i.to i.table i.key (λ tables vars. nodes tables i.table (suc (i.nodes - 1)) (value_of vars i.offset)) (cores_of i.to i.table i.offset i.key n)) all (walk_finds i.to i.table i.offset i.key (i.nodes - 1) few)))
    c.cores.ensures

pub returns-clause-hidden : goal.returns-clause-hidden
returns-clause-hidden c =
    let i = c.in-Walk in
    ok_of c.cores.result _ (AllBelow 2) (walk_uses i.to i.table i.offset i.key i.nodes) c.cores.ensures

-- the core statements do the walk point by point, so they are it
composed : (st : Kernel) (r : Result (List Core) Memory) → IfOk r (Composes st) → IfOk r (Becomes st)
composed st (Ok cores) co = becomes st cores co
composed st (Err e) t = t

composes_all : goal.returns-clause-composes
composes_all c =
    let i = c.in-Walk in
    let some = some_nodes c.args.s.now i.to i.table i.nodes i.offset i.key c.requires i.is in
    let few : i.nodes < 281474976710656 = omega arith in
    ok_of c.cores.result _ (Composes c.args.s.now) (subst (λ (st : Kernel). Composes st (cores_of i.to i.table i.offset i.key i.nodes)) (sym i.is) (walk_composes i.to i.table i.offset i.key i.nodes some few)) c.cores.ensures

pub returns-clause-composes : goal.returns-clause-composes
returns-clause-composes c = composes_all c

pub returns-clause-same : goal.returns-clause-same
returns-clause-same c = composed c.args.s.now c.cores.result (composes_all c)

pub returns-clause-cores : goal.returns-clause-cores
returns-clause-cores c =
    let i = c.in-Walk in
    ok_of c.cores.result _ (λ cores. (to table : ℕ) (offset key : Word) (nodes : ℕ) → c.args.s.now ≡ k.Walk to table offset key nodes → cores ≡ cores_of to table offset key nodes)
    (λ to table offset key nodes is. made_in i.to i.table i.nodes to table nodes i.offset i.key offset key (sym i.is ∙ is))
    c.cores.ensures
