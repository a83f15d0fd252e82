use Rattle.std.proofs.Common.{◌≡◌, ℕ, suc, ◌-◌, List, Result, Ok, Err, IfOk, sym, ap, ◌∙◌, subst, arith}
use Rattle.redn_words.specs.declared.types.Memory.{Memory}
use Rattle.redn_kernel.specs.declared.types.Word.{Word}
use Rattle.redn_kernel.specs.declared.types.Kernel.{Kernel}
use Rattle.redn_kernel.specs.declared.types.Kernel.TheVariants as k
use Rattle.redn_kernel.specs.declared.types.Core.{Core}
use Rattle.redn_kernel.specs.Source.{value_of}
use Rattle.redn_kernel.specs.Becomes.{Becomes}
use Rattle.redn_kernel.specs.Composes.{Composes}
use Rattle.redn_kernel.specs.Found.{LeaveFound, buckets}
use Rattle.redn_lookup.specs.Lookup.{cores_of}
use Rattle.redn_kernel.specs.Uses.{AllBelow}
use Rattle.redn_lookup.proofs.Uses.{lookup_uses}
use Rattle.redn_kernel.proofs.Becoming.{becomes}
use Rattle.redn_lookup.proofs.Lookups.{lookup_finds, finds_in, some_probes, made_in}
use Rattle.redn_lookup.proofs.Composed.{lookup_composes}
use Rattle.redn_lookup.proofs.lookup_core.Goals as goal

ok_of : (r : Result (List Core) Memory) (made : List Core) (P : List Core → Type 0) → P made → IfOk r (λ cores. cores ≡ made) → IfOk r P
ok_of (Ok cores) made P h e = subst P (sym e) h
ok_of (Err e) made P h t = t

pub returns-clause-finds : goal.returns-clause-finds
returns-clause-finds c =
    let i = c.in-Lookup in
    let some = some_probes c.args.s.now i.to i.table i.probes i.offset i.key c.requires i.is in
    let all : suc (i.probes - 1) ≡ i.probes = omega (arith, some) in
    ok_of c.cores.result _ (λ cores. (to table : ℕ) (offset key : Word) (probes : ℕ) → c.args.s.now ≡ k.Lookup to table offset key probes → LeaveFound to table key (λ tables vars. buckets probes (value_of vars offset)) cores)
    (λ to table offset key probes is.
    finds_in (cores_of i.to i.table i.offset i.key (i.probes - 1)) i.to i.table (suc (i.probes - 1)) to table probes i.offset i.key offset key (ap (k.Lookup i.to i.table i.offset i.key) all ∙ sym i.is ∙ is)
    (lookup_finds i.to i.table i.offset i.key (i.probes - 1)))
    c.cores.ensures

pub returns-clause-hidden : goal.returns-clause-hidden
returns-clause-hidden c =
    let i = c.in-Lookup in
    ok_of c.cores.result _ (AllBelow 1) (lookup_uses i.to i.table i.offset i.key (i.probes - 1)) c.cores.ensures

-- the core statements do the lookup point by point, so they are it
composed : (st : Kernel) (r : Result (List Core) Memory) → IfOk r (Composes st) → IfOk r (Becomes st)
composed st (Ok cores) co = becomes st cores co
composed st (Err e) t = t

composes_all : goal.returns-clause-composes
composes_all c =
    let i = c.in-Lookup in
    let some = some_probes c.args.s.now i.to i.table i.probes i.offset i.key c.requires i.is in
    let all : suc (i.probes - 1) ≡ i.probes = omega (arith, some) in
    let is = ap (k.Lookup i.to i.table i.offset i.key) all ∙ sym i.is in
    ok_of c.cores.result _ (Composes c.args.s.now) (subst (λ (st : Kernel). Composes st (cores_of i.to i.table i.offset i.key (i.probes - 1))) is (lookup_composes i.to i.table i.offset i.key (i.probes - 1))) c.cores.ensures

pub returns-clause-composes : goal.returns-clause-composes
returns-clause-composes c = composes_all c

pub returns-clause-same : goal.returns-clause-same
returns-clause-same c = composed c.args.s.now c.cores.result (composes_all c)

pub returns-clause-cores : goal.returns-clause-cores
returns-clause-cores c =
    let i = c.in-Lookup in
    ok_of c.cores.result _ (λ cores. (to table : ℕ) (offset key : Word) (probes : ℕ) → c.args.s.now ≡ k.Lookup to table offset key probes → cores ≡ cores_of to table offset key (probes - 1))
    (λ to table offset key probes is. made_in i.to i.table i.probes to table probes i.offset i.key offset key (sym i.is ∙ is))
    c.cores.ensures
