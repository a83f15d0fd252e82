-- What core statements do, one item after the other.
use Rattle.std.specs.Prelude.{ℕ, zero, suc, ◌+◌, Bool, true, false, ◌==◌, if◌then◌else◌, List, [], ◌∷◌, ◌++◌, map, slice_index, slice_set}
use Rattle.redn_words.specs.declared.types.Obs.{Obs}
use Rattle.redn_words.specs.declared.types.Obs.TheVariants as shows
use Rattle.redn_kernel.specs.declared.types.Word.{Word}
use Rattle.redn_kernel.specs.declared.types.Word.TheVariants.{Var, Num}
use Rattle.redn_kernel.specs.declared.types.Cell.{Cell}
use Rattle.redn_kernel.specs.declared.types.Cell.TheVariants as cell
use Rattle.redn_kernel.specs.declared.types.Core.{Core, out-Core}
use Rattle.redn_kernel.specs.declared.types.Core.TheOpen.{Core-F}
use Rattle.redn_kernel.specs.Source.{wrapped, same, same_low, has_word, word_in}

-- what a chain's variables and hidden words hold
pub record Cells : Type 0 where
  pub vars : List ℕ
  pub hidden : ℕ → ℕ

abbrev pub with_hidden : (ℕ → ℕ) → ℕ → ℕ → ℕ → ℕ
with_hidden hidden k v j = if j == k then v else hidden j

abbrev pub cell_of : Word → Cell
cell_of (Var x) = cell.Var x
cell_of (Num n) = cell.Num n

-- what a cell holds, by the words of the message too
abbrev pub held : List ℕ → Cells → Cell → ℕ
held words s (cell.Var x) = slice_index s.vars x
held words s (cell.Hidden k) = s.hidden k
held words s (cell.Argument i) = slice_index words i
held words s (cell.Num n) = n

-- a variable or a hidden word gets a value
abbrev pub put : Cells → Cell → ℕ → Cells
put s (cell.Var x) v = record s { vars = slice_set s.vars x v }
put s (cell.Hidden k) v = record s { hidden = with_hidden s.hidden k v }
put s _ v = s

-- hidden words show nothing
abbrev pub shown_put : ℕ → Cell → ℕ → Obs
shown_put c (cell.Var x) v = shows.Set c x v
shown_put c _ v = shows.Nothing

-- a load into a hidden word is a look
abbrev pub shown_load : ℕ → Cell → ℕ → ℕ → ℕ → Obs
shown_load c (cell.Var x) table o v = shows.Load c x table o v
shown_load c _ table o v = shows.Look c table o v

-- what is left to do
pub data CoreItem : Type 0 where
  Do : (statement : Core) → CoreItem
  Again : (body : List Core) → CoreItem  -- a loop's body
  Found : (to : Cell) (table : ℕ) (offset : Cell) (hit : List Core) → CoreItem  -- a probe has found its key here

pub record CoreState : Type 0 where
  pub cells : Cells
  pub items : List CoreItem  -- the first one first
  pub ended : Bool

-- what a step leaves and shows
pub record CoreTurn : Type 0 where
  pub tables : List (List ℕ)
  pub state : CoreState
  pub event : Obs

abbrev pub do_cores : List Core → List CoreItem
do_cores body = map Do body

-- the items behind the first loop
abbrev pub past_loop : List CoreItem → List CoreItem
past_loop [] = []
past_loop (Again body ∷ rest) = rest
past_loop (item ∷ rest) = past_loop rest

-- chain c, the words of its message, the tables, and what the statements have come to
module _ (c : ℕ) (words : List ℕ) (tables : List (List ℕ)) (t : CoreState) where
  abbrev pub holds : Cell → ℕ
  holds a = held words t.cells a

  abbrev pub goes_on : List CoreItem → Obs → CoreTurn
  goes_on rest event = record { tables = tables; state = record t { items = rest }; event = event }

  abbrev pub gets : Cell → ℕ → List CoreItem → Obs → CoreTurn
  gets to v rest event = record { tables = tables; state = record t { cells = put t.cells to v; items = rest }; event = event }

  -- a fault where no whole word lies there
  abbrev pub within : ℕ → ℕ → CoreTurn → CoreTurn
  within table o turn =
      if has_word tables table o then turn else (record { tables = tables; state = record t { ended = true }; event = shows.Fault c table o })

  abbrev pub loads : Cell → ℕ → ℕ → List CoreItem → CoreTurn
  loads to table o rest = within table o (gets to (word_in tables table o) rest (shown_load c to table o (word_in tables table o)))

  -- what follows a look
  abbrev pub found_or : Bool → Cell → ℕ → Cell → List Core → List Core → List CoreItem → List CoreItem
  found_or true to table offset hit miss rest = Found to table offset hit ∷ rest
  found_or false to table offset hit miss rest = do_cores miss ++ rest

  abbrev pub looks : ℕ → ℕ → (ℕ → List CoreItem) → CoreTurn
  looks table o next = within table o (goes_on (next (word_in tables table o)) (shows.Look c table o (word_in tables table o)))

  -- a statement is done, with the items behind it
  unfoldable pub core_does : Core-F Core → List CoreItem → CoreTurn
  core_does (Core-F.Move to from) rest = gets to (holds from) rest (shown_put c to (holds from))
  core_does (Core-F.Add to by) rest = gets to (wrapped (holds to + holds by)) rest (shown_put c to (wrapped (holds to + holds by)))
  core_does (Core-F.Load to table offset) rest = loads to table (holds offset) rest
  core_does (Core-F.If wide a b met unmet) rest = goes_on (do_cores (if same wide (holds a) (holds b) then met else unmet) ++ rest) shows.Nothing
  core_does (Core-F.Loop body) rest = goes_on (do_cores body ++ Again body ∷ rest) shows.Nothing
  core_does Core-F.Leave rest = goes_on (past_loop rest) shows.Nothing
  core_does (Core-F.Probe to table offset key hit miss) rest = looks table (holds offset) (λ v. found_or (same_low v (holds key)) to table offset hit miss rest)

  unfoldable pub core_item_does : CoreItem → List CoreItem → CoreTurn
  core_item_does (Do statement) rest = core_does (out-Core statement) rest
  core_item_does (Again body) rest = goes_on (do_cores body ++ Again body ∷ rest) shows.Nothing
  core_item_does (Found to table offset hit) rest = loads to table (wrapped (holds offset + 8)) (do_cores hit ++ rest)

  -- the first item is done. Where there is none nothing happens
  abbrev pub first_core_does : List CoreItem → CoreTurn
  first_core_does [] = goes_on [] shows.Nothing
  first_core_does (item ∷ rest) = core_item_does item rest

  -- a step. After a fault nothing happens
  abbrev pub core_step : CoreTurn
  core_step = if t.ended then (record { tables = tables; state = t; event = shows.Nothing }) else first_core_does t.items

-- the state after n steps over tables that don't change
abbrev pub cores_after : ℕ → List ℕ → List (List ℕ) → ℕ → CoreState → CoreState
cores_after c words tables zero t = t
cores_after c words tables (suc n) t = cores_after c words tables n (core_step c words tables t).state
