-- The items that tasks stand for, and the places that a pile of tasks needs.
use Rattle.std.specs.Prelude.{◌≡◌, ℕ, ◌+◌, ◌*◌, ◌<◌, ◌≤◌, Bool, true, false, List, [], ◌∷◌, length, drop, Option, Some, None, IfSome}
use Rattle.std.specs.List.{flat_map}
use Rattle.redn_kernel.specs.declared.types.Kernel.{Kernel}
use Rattle.redn_source.specs.declared.task.Search.{Search}
use Rattle.redn_source.specs.declared.task.Task.{Task}
use Rattle.redn_source.specs.declared.task.Task.TheVariants as task
use Rattle.redn_kernel.specs.Program.{AllUsable, IsNamed, weight_of, weight_of_all}
use Rattle.redn_kernel.specs.Source as source
use Rattle.redn_kernel.specs.Source.{Item, TakeArgument, do_all}

abbrev pub items_of : Task → List Item
items_of (task.Argument i) = TakeArgument i ∷ []
items_of (task.Statements body) = do_all body.now
items_of (task.AgainLoop body) = source.AgainLoop body.now ∷ []
items_of (task.AgainRepeat n body) = source.AgainRepeat n body.now ∷ []
items_of (task.Find s) = source.Find s.to s.table s.offset s.key s.left ∷ []
items_of (task.Take x table o) = source.Take x table o ∷ []
items_of (task.Visit s) = source.Visit s.to s.table s.offset s.key s.left ∷ []
items_of (task.Left s) = source.Left s.to s.table s.offset s.key s.left ∷ []
items_of (task.Next s) = source.Next s.to s.table s.offset s.key s.left ∷ []
items_of (task.Here s) = source.Here s.to s.table s.offset s.key s.left ∷ []

-- whether a task does a body again
abbrev pub is_again : Task → Bool
is_again (task.AgainLoop body) = true
is_again (task.AgainRepeat n body) = true
is_again _ = false

abbrev pub all_items : List Task → List Item
all_items tasks = flat_map items_of tasks

-- those of a task, if there is one
abbrev pub next_items : Option Task → List Item
next_items None = []
next_items (Some t) = items_of t

pub record IsUsableSearch (vars : ℕ) (s : Search) : Type 0 where
  pub target : s.to < vars
  pub key : IsNamed vars s.key

-- with these variables and these words of the message
abbrev pub IsUsableTask : ℕ → Option (List ℕ) → Task → Type 0
IsUsableTask vars words (task.Argument i) = (i < vars) × IfSome words (λ ws. i < length ws)
IsUsableTask vars words (task.Statements body) = (1 ≤ length body.now) × AllUsable vars body.now
IsUsableTask vars words (task.AgainLoop body) = AllUsable vars body.now
IsUsableTask vars words (task.AgainRepeat n body) = AllUsable vars body.now
IsUsableTask vars words (task.Find s) = IsUsableSearch vars s
IsUsableTask vars words (task.Take x table o) = x < vars
IsUsableTask vars words (task.Visit s) = IsUsableSearch vars s
IsUsableTask vars words (task.Left s) = IsUsableSearch vars s
IsUsableTask vars words (task.Next s) = IsUsableSearch vars s
IsUsableTask vars words (task.Here s) = IsUsableSearch vars s

-- the places that some statements need, one after the other: two for each block that is entered
abbrev pub places : List Kernel → ℕ
places body = 2 * weight_of_all body

-- the places that a task needs on top of its own
abbrev pub need : Task → ℕ
need (task.Statements body) = places body.now
need (task.AgainLoop body) = 1 + places body.now
need (task.AgainRepeat n body) = 1 + places body.now
need _ = 0

-- each task and what it needs has room
abbrev pub IsPiled : ℕ → List Task → Type 0
IsPiled room [] = Unit {0}
IsPiled room (t ∷ ts) = (length ts + 1 + need t ≤ room) × IsPiled room ts

abbrev pub statement_need : List Kernel → ℕ
statement_need [] = 0
statement_need (statement ∷ rest) = 2 * weight_of statement

-- the places that the first item needs, where it is gone itself
abbrev pub first_need : List Task → ℕ
first_need [] = 0
first_need (task.Statements body ∷ ts) = statement_need body.now
first_need (t ∷ ts) = need t + 1

-- a task that needs its own place alone
abbrev pub IsUsableNext : ℕ → Option (List ℕ) → Task → Type 0
IsUsableNext vars words t = IsUsableTask vars words t × (need t ≡ 0)

-- the tasks that are left where some at the front are gone
abbrev pub IsLeft : List Task → List Task → Type 0
IsLeft old new = (gone : ℕ) × (new ≡ drop gone old)
