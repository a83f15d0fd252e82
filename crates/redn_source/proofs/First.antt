-- What is done where a task is the first.
use Rattle.std.proofs.Common.{◌≡◌, ℕ, ◌<◌, List, [], ◌∷◌, ◌++◌, length, get_or, drop, sym, ap, ◌∙◌, arith, Global, deque_len}
use Rattle.std.specs.declared.collections.VecDeque.{VecDeque}
use Rattle.redn_kernel.specs.declared.types.Kernel.{Kernel}
use Rattle.redn_source.specs.declared.task.Task.{Task}
use Rattle.redn_kernel.specs.Source.{ChainState, Item, Turn, Do, do_all, item_does, first_does}
use Rattle.redn_source.specs.Tasks.{items_of, all_items}
use Rattle.redn_source.specs.RunView.{rest_of}

pub not_empty : (tasks : VecDeque Task Global) → 0 < deque_len tasks → 0 < length tasks.items
not_empty tasks some = omega (arith, some, tasks.ok.0)

front : (tasks : List Task) (first : Task) → 0 < length tasks → first ≡ get_or tasks 0 first → (rest : List Task) × (tasks ≡ first ∷ rest)
front [] first some e = absurd (omega arith)
front (t ∷ tasks) first some e = (tasks, ap (λ x. x ∷ tasks) (sym e))

first_item : (tasks : List Task) (first : Task) (item : Item) (more : List Item) → 0 < length tasks → first ≡ get_or tasks 0 first → items_of first ≡ item ∷ more → all_items tasks ≡ item ∷ rest_of (all_items tasks)
first_item tasks first item more some e is =
    let is_front = front tasks first some e in
    let all : all_items tasks ≡ item ∷ (more ++ all_items is_front.0) = ap all_items is_front.1 ∙ ap (λ items. items ++ all_items is_front.0) is in
    all ∙ ap (λ rest. item ∷ rest) (sym (ap rest_of all))

does_item : (c : ℕ) (tables : List (List ℕ)) (t : ChainState) (items : List Item) (item : Item) → items ≡ item ∷ rest_of items → first_does c tables t items ≡ item_does c tables t item (rest_of items)
does_item c tables t items item e = ap (first_does c tables t) e

-- the first task's first item is done
pub does_first : (c : ℕ) (tables : List (List ℕ)) (t : ChainState) (tasks : List Task) (first : Task) (item : Item) (more : List Item) (after : Turn) →
    0 < length tasks → first ≡ get_or tasks 0 first → items_of first ≡ item ∷ more → after ≡ item_does c tables t item (rest_of (all_items tasks)) → after ≡ first_does c tables t (all_items tasks)
does_first c tables t tasks first item more after some e is h =
    h ∙ sym (does_item c tables t (all_items tasks) item (first_item tasks first item more some e is))

-- the first of some statements
pub do_first : (body : List Kernel) (statement : Kernel) → 0 < length body → statement ≡ get_or body 0 statement → do_all body ≡ Do statement ∷ do_all (drop 1 body)
do_first [] statement some e = absurd (omega arith)
do_first (s ∷ body) statement some e = ap (λ k. Do k ∷ do_all body) (sym e)
