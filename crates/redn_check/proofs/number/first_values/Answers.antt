use Rattle.std.proofs.Common.{ℕ, ◌<◌, ◌^◌, Bool, true, false, if◌then◌else◌, List, [], ◌∷◌, ◌++◌, sym, subst, arith}
use Rattle.std.proofs.lemmas.Grind.{common_steps}
use Rattle.std.proofs.lemmas.List.Elements.{All-cons, All-nil, All-append}
use Rattle.redn_kernel.specs.Program.{AreWords}
use Rattle.redn_check.proofs.number.first_values.Goals as goal

one_more : (pushed : Bool) (values : List ℕ) (v : ℕ) → v < 2 ^ 64 → AreWords values → AreWords (if pushed then values ++ (v ∷ []) else values)
one_more true values v small are = let P : ℕ → Type 0 = λ v. v < 2 ^ 64 in All-append P values (v ∷ []) are (All-cons P v [] small (All-nil P))
one_more false values v small are = are

pub loop-variable-preserved : goal.loop-variable-preserved
loop-variable-preserved c =
    let told = c.loop-variable.invariant in
    let before = told.0 in
    let small : c.first_value.result < 2 ^ 64 = omega (arith, c.first_value.type_inv) in
    let items = c.push.ensures.items in
    (grind (arith, common_steps, before, items, c.first_value.ensures), subst AreWords (sym items) (one_more _ c.loop-variable.list.items c.first_value.result small told.1))
