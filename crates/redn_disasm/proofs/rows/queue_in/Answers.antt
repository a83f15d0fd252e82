use Rattle.std.proofs.Common.{◌≡◌, ℕ, zero, suc, ◌≤◌, ◌==◌, List, [], ◌∷◌, length, get_or, refl, subst, arith}
use Rattle.std.specs.Prelude.{codes, if◌then◌else◌}
use Rattle.redn_disasm.specs.Assembly.{queue_formats, queue_values}
use Rattle.redn_disasm.specs.Fields.{IsRow}
use Rattle.redn_disasm.specs.Reading.{AllFit}
use Rattle.redn_disasm.proofs.Listed.{same_length, six}
use Rattle.redn_disasm.proofs.rows.queue_in.Goals as goal

pub returns-in_default-clause-none : goal.returns-in_default-clause-none
returns-in_default-clause-none c = λ k q. c.in_default.ensures.none (queue_values k q)

ordered : (n : ℕ) → n ≤ 1 → n ≡ (if n == 1 then 1 else 0)
ordered zero h = refl
ordered (suc zero) h = refl
ordered (suc (suc n)) h = absurd (omega arith)

order_small : (xs : List ℕ) → length xs ≡ 6 → AllFit queue_formats xs → get_or xs 2 0 ≤ 1
order_small (a ∷ b ∷ c ∷ d ∷ e ∷ f ∷ []) size h = h.1.1.0
order_small xs size h = absurd (omega arith)

pub returns-clause-found : goal.returns-clause-found
returns-clause-found c =
    let values = c.in-Some.values in
    let row = c.in-Some.ensures.found in
    let size = same_length queue_formats row.0 values row.2 in
    let listed = subst (IsRow (codes "queue") queue_formats c.args.line.now) (six values size) row in
    subst (λ (m : ℕ). IsRow (codes "queue") queue_formats c.args.line.now (get_or values 0 0 ∷ get_or values 1 0 ∷ m ∷ get_or values 3 0 ∷ get_or values 4 0 ∷ get_or values 5 0 ∷ [])) (ordered (get_or values 2 0) (order_small values size c.in-Some.ensures.fit)) listed
