-- What holds of a pile of tasks where some go.
use Rattle.std.proofs.Common.{◌≡◌, ℕ, true, false, zero, suc, ◌+◌, List, [], ◌∷◌, ◌++◌, drop, refl, sym, ap, ◌∙◌, subst}
use Rattle.std.specs.Prelude.{Option}
use Rattle.std.proofs.lemmas.Bool.{false≢true}
use Rattle.std.proofs.lemmas.List.{drop-drop}
use Rattle.std.specs.List.{All}
use Rattle.std.proofs.lemmas.List.Elements.{All-drop}
use Rattle.redn_kernel.specs.declared.types.Kernel.{Kernel}
use Rattle.redn_source.specs.declared.task.Task.{Task}
use Rattle.redn_source.specs.declared.task.Task.TheVariants as task
use Rattle.redn_kernel.specs.Source.{Item, do_all, past_again}
use Rattle.redn_source.specs.Tasks.{items_of, all_items, is_again, IsPiled, IsUsableTask, IsLeft}

past_again_do_all : (body : List Kernel) (rest : List Item) → past_again (do_all body ++ rest) ≡ past_again rest
past_again_do_all [] rest = refl
past_again_do_all (statement ∷ body) rest = past_again_do_all body rest

-- what isn't done again goes
past_again_other : (t : Task) (rest : List Item) → is_again t ≡ false → past_again (items_of t ++ rest) ≡ past_again rest
past_again_other (task.Argument i) rest h = refl
past_again_other (task.Statements body) rest h = past_again_do_all body.now rest
past_again_other (task.AgainLoop body) rest h = absurd (false≢true (sym h))
past_again_other (task.AgainRepeat n body) rest h = absurd (false≢true (sym h))
past_again_other (task.Find s) rest h = refl
past_again_other (task.Take x t o) rest h = refl
past_again_other (task.Visit s) rest h = refl
past_again_other (task.Left s) rest h = refl
past_again_other (task.Next s) rest h = refl
past_again_other (task.Here s) rest h = refl

-- some tasks have been looked at, and none of them is done again
pub record IsPopped (all ts : List Task) : Type 0 where
  pub left : IsLeft all ts
  pub same : past_again (all_items ts) ≡ past_again (all_items all)

one_less : (all ts us : List Task) (t : Task) → ts ≡ t ∷ us → IsLeft all ts → IsLeft all us
one_less all ts us t e left =
    (left.0 + 1, ap (drop 1) (sym e) ∙ ap (drop 1) left.1 ∙ drop-drop 1 left.0 all)

pub other_popped : (all ts us : List Task) (t : Task) → ts ≡ t ∷ us → is_again t ≡ false → IsPopped all ts → IsPopped all us
other_popped all ts us t e other p =
    record { left = one_less all ts us t e p.left; same = sym (past_again_other t (all_items us) other) ∙ ap (λ xs. past_again (all_items xs)) (sym e) ∙ p.same }

IsPiled_drop : (room gone : ℕ) (ts : List Task) → IsPiled room ts → IsPiled room (drop gone ts)
IsPiled_drop room zero ts h = h
IsPiled_drop room (suc gone) [] h = tt
IsPiled_drop room (suc gone) (t ∷ ts) h = IsPiled_drop room gone ts h.1

pub IsPiled_left : (room : ℕ) (ts us : List Task) → IsLeft ts us → IsPiled room ts → IsPiled room us
IsPiled_left room ts us left h = subst (IsPiled room) (sym left.1) (IsPiled_drop room left.0 ts h)

pub usable_left : (vars : ℕ) (words : Option (List ℕ)) (ts us : List Task) → IsLeft ts us → All (IsUsableTask vars words) ts → All (IsUsableTask vars words) us
usable_left vars words ts us left h =
    let P : List Task → Type 0 = λ us. All (IsUsableTask vars words) us in subst P (sym left.1) (All-drop (IsUsableTask vars words) left.0 ts h)
