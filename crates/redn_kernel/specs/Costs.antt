-- What the compiled form costs in useful actions, and what pays for it. All that speaks of costs cites this table.
use Rattle.std.specs.Prelude.{ℕ, ◌+◌, ◌*◌, Bool, true, false}
use Rattle.redn_kernel.specs.declared.types.Cell.{Cell}
use Rattle.redn_kernel.specs.declared.types.Cell.TheVariants as cell

-- what a step of a chain pays for
abbrev pub step_worth : ℕ
step_worth = 160

-- a chain's message and its entry, before the first step
abbrev pub entry_cost : ℕ
entry_cost = 5

abbrev pub move_cost : ℕ
move_cost = 16

-- of a number, or of another word
abbrev pub add_cost : Cell → ℕ
add_cost (cell.Num n) = 16
add_cost _ = 32

abbrev pub load_cost : ℕ
load_cost = 32

abbrev pub store_cost : ℕ
store_cost = 32

abbrev pub jump_cost : ℕ
jump_cost = 28

-- of 64 bits, or of the low 48
abbrev pub test_cost : Bool → ℕ
test_cost true = 100
test_cost false = 72

-- the load of what it finds included
abbrev pub probe_cost : ℕ
probe_cost = 132

-- of so many words
abbrev pub reply_cost : ℕ → ℕ
reply_cost words = 4 * words + 16

-- what may be spent before the chain steps on, where a statement begins. So an entry may cost 37
abbrev pub statement_worth : ℕ
statement_worth = 123

-- where a block of a search begins: what its next bucket costs
abbrev pub search_worth : ℕ
search_worth = add_cost (cell.Num 16) + probe_cost

-- before a jump there
abbrev pub jump_worth : ℕ
jump_worth = jump_cost + search_worth
