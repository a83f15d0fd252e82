-- How the fields of a chain's state are seen, and what they keep.
use Rattle.std.specs.Prelude.{ℕ, ◌+◌, ◌≤◌, List, [], ◌∷◌, length, Option}
use Rattle.std.specs.Option.{option_map}
use Rattle.std.specs.List.{All}
use Rattle.std.specs.VecDeque.{deque_capacity}
use Rattle.redn_words.specs.declared.types.Obs.{Obs}
use Rattle.redn_source.specs.declared.run.Run.{Run}
use Rattle.redn_kernel.specs.Source.{ChainState, Turn, Item}
use Rattle.redn_kernel.specs.declared.types.ChainInit.{ChainInit}
use Rattle.redn_kernel.specs.Program.{AllUsable, weight_of_all}
use Rattle.redn_source.specs.Tasks.{all_items, IsUsableTask, IsPiled}

-- the words of a message
abbrev pub words_of : Run → Option (List ℕ)
words_of r = option_map (λ v. v.items) r.message

abbrev pub run_view : Run → ChainState
run_view r =
    record { vars = r.vars.items; message = words_of r; items = all_items r.tasks.items; ended = r.ended }

-- the items behind the first
abbrev pub rest_of : List Item → List Item
rest_of [] = []
rest_of (item ∷ rest) = rest

abbrev pub behind : Run → List Item
behind r = rest_of (all_items r.tasks.items)

-- what a step of a chain has left and shown
abbrev pub turn : List (List ℕ) → Run → Obs → Turn
turn tables r event = record { tables = tables; chain = run_view r; event = event }

-- the room for what is left to do is there
pub record IsRun (r : Run) : Type 0 where
  pub usable : All (IsUsableTask (length r.vars.items) (words_of r)) r.tasks.items
  pub piled : IsPiled (deque_capacity r.tasks) r.tasks.items

-- so many places more
abbrev pub HasRoom : Run → ℕ → Type 0
HasRoom r n = length r.tasks.items + n ≤ deque_capacity r.tasks

-- what a chain of a sound program is, as far as its state wants it
pub record CanRun (c : ChainInit) : Type 0 where
  pub arguments : c.args ≤ length c.vars
  pub few : c.args ≤ 8
  pub usable : AllUsable (length c.vars) c.body
  pub light : weight_of_all c.body ≤ 4096
