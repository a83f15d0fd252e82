-- That code does what a chain's items say.
use Rattle.std.specs.Prelude.{◌≡◌, ℕ, zero, suc, ◌+◌, ◌*◌, ◌<◌, ◌≤◌, ◌⊎◌, Bool, true, false, List, [], ◌∷◌, ◌++◌, length, reverse, Some, None, slice_get}
use Rattle.std.specs.Prelude.{slice_index_or}
use Rattle.redn_kernel.specs.declared.types.Kernel.{Kernel}
use Rattle.redn_kernel.specs.Becomes.{chain_at}
use Rattle.redn_kernel.specs.Costs.{step_worth, statement_worth, jump_worth}
use Rattle.redn_kernel.specs.Source.{ChainState, Turn, Item, first_does, silent, past_again, take_arguments, do_all}
use Rattle.redn_graph.specs.declared.types.Instr.{Instr}
use Rattle.redn_graph.specs.declared.types.End.{End}
use Rattle.redn_graph.specs.declared.types.Block.{Block}
use Rattle.redn_graph.specs.declared.build.Tail.{Tail}
use Rattle.redn_graph.specs.declared.build.Tail.TheVariants as tail
use Rattle.redn_kernel.specs.CoreRun.{Cells, with_hidden}
use Rattle.redn_graph.specs.Run.{Way, On, Taking, To, Out, Effect, instr_does, end_does, instr_cost, end_cost}
use Rattle.redn_graph.specs.Idle.{jump_of, idle_code}
use Rattle.redn_kernel.specs.Steps.{Steps}

-- what a chain has to do, by what its hidden cells hold
abbrev pub Meaning : Type 0
Meaning = (ℕ → ℕ) → List Item

-- items go on to others by a silent step that looks at nothing
abbrev pub IdleStep : List Item → List Item → Type 0
IdleStep a b = (c : ℕ) (tables : List (List ℕ)) (t : ChainState) → first_does c tables t a ≡ silent c tables t b

abbrev pub Idles : ℕ → List Item → List Item → Type 0
Idles zero a b = a ≡ b
Idles (suc n) a b = (m : List Item) × IdleStep a m × Idles n m b

-- by at least so many of them
pub record Leads (least : ℕ) (a b : List Item) : Type 0 where
  pub count : ℕ
  pub enough : least ≤ count
  pub idles : Idles count a b

abbrev pub is_out : Way → Bool
is_out Out = true
is_out On = false
is_out Taking = false
is_out (To l) = false

-- what an effect is for the chain, by what is to be done where it leads
abbrev pub turn_to : List ℕ → (Way → Meaning) → Effect → Turn
turn_to words next e =
    record { tables = e.tables; chain = chain_at words e.cells (is_out e.way) (next e.way e.cells.hidden); event = e.event }

-- from these items an effect is so many steps of the chain, which pay for it
pub record Does (c : ℕ) (words : List ℕ) (tables : List (List ℕ)) (s : Cells) (items : List Item) (e : Effect) (next : Way → Meaning) (cost worth : ℕ)
    (left : Way → ℕ) : Type 0 where
  pub count : ℕ
  pub steps : Steps c tables (chain_at words s false items) count (turn_to words next e)
  pub paid : cost + left e.way ≤ worth + step_worth * count

abbrev pub next_place : Meaning → Meaning → Way → Meaning
next_place stands after On = after
next_place stands after _ = stands

abbrev pub left_on : ℕ → Way → ℕ
left_on p On = p
left_on p _ = 0

-- an instruction leads from one meaning to another. It begins once the items have gone on idly to those where it stands
pub record InstrRuns (i : Instr) (m after : Meaning) (worth left : ℕ) : Type 0 where
  pub stands : Meaning
  pub leads : (h : ℕ → ℕ) → Leads 0 (m h) (stands h)
  pub affords : instr_cost i ≤ worth
  pub does : (c : ℕ) (words : List ℕ) (tables : List (List ℕ)) (s : Cells) →
      Does c words tables s (stands s.hidden) (instr_does c words tables s i) (next_place stands after) (instr_cost i) worth (left_on left)

-- what is to be done at no block
abbrev pub nowhere : Meaning
nowhere h = []

-- what a block's number stands for: what is to be done there, and what may be spent before the chain steps on
pub record Label : Type 0 where
  pub means : Meaning
  pub worth : ℕ

abbrev pub with_worth : ℕ → Meaning → Label
with_worth worth m = record { means = m; worth = worth }

abbrev pub label_at : List Label → ℕ → Label
label_at all l = slice_index_or all l (with_worth 0 nowhere)

abbrev pub meaning_at : List Label → ℕ → Meaning
meaning_at all l = (label_at all l).means

abbrev pub worth_at : List Label → ℕ → ℕ
worth_at all l = (label_at all l).worth

-- what is to be done where an end leads: at the block, at the second step, or where it stands
abbrev pub next_block : List Label → Meaning → Meaning → Meaning → Way → Meaning
next_block all on taking stands (To l) = meaning_at all l
next_block all on taking stands Taking = taking
next_block all on taking stands On = on
next_block all on taking stands Out = stands

abbrev pub left_after : List Label → ℕ → ℕ → Way → ℕ
left_after all on taking (To l) = worth_at all l
left_after all on taking Taking = taking
left_after all on taking On = on
left_after all on taking Out = 0

-- the end of a block, where the blocks have these meanings
pub record EndRuns (all : List Label) (end : End) (m : Meaning) (worth : ℕ) : Type 0 where
  pub stands : Meaning
  pub taking : Meaning  -- before the second step of a probe
  pub taking_worth : ℕ
  pub leads : (h : ℕ → ℕ) → Leads 0 (m h) (stands h)
  pub affords : end_cost false end ≤ worth
  pub affords_taking : end_cost true end ≤ taking_worth
  pub first : (c : ℕ) (words : List ℕ) (tables : List (List ℕ)) (s : Cells) →
      Does c words tables s (stands s.hidden) (end_does c words tables s false end) (next_block all m taking stands) (end_cost false end) worth
      (left_after all worth taking_worth)
  pub second : (c : ℕ) (words : List ℕ) (tables : List (List ℕ)) (s : Cells) →
      Does c words tables s (taking s.hidden) (end_does c words tables s true end) (next_block all m taking taking) (end_cost true end) taking_worth
      (left_after all worth taking_worth)

-- instructions and the end of a block
abbrev pub Runs : List Label → End → List Instr → Meaning → ℕ → Type 0
Runs all end [] m worth = EndRuns all end m worth
Runs all end (i ∷ rest) m worth = (after : Meaning) × (left : ℕ) × InstrRuns i m after worth left × Runs all end rest after left

-- code that does nothing but jump leads where at most so much may be spent. A jump stands behind an instruction
abbrev pub JumpsWithin : List Label → ℕ → List Instr → End → Type 0
JumpsWithin all most [] end = jump_of end ≡ None
JumpsWithin all most (i ∷ rest) end = (idle_code (i ∷ rest) end ≡ None) ⊎ ((l : ℕ) → jump_of end ≡ Some l → worth_at all l ≤ most)

-- code does what is to be done where so much may be spent
pub record Serves (all : List Label) (most : ℕ) (end : End) (instrs : List Instr) (m : Meaning) (worth : ℕ) : Type 0 where
  pub runs : Runs all end instrs m worth
  pub jumps : JumpsWithin all most instrs end

-- each block does what its number stands for
pub record BlockRuns (all : List Label) (blocks : List Block) (l : ℕ) : Type 0 where
  pub block : Block
  pub there : slice_get blocks l ≡ Some block
  pub serves : Serves all (worth_at all l) block.end block.instrs (meaning_at all l) (worth_at all l)

-- what follows does what the items say where so much may be spent: idle steps lead to the block, at least so many, or the open block runs
abbrev pub TailRuns : List Label → ℕ → ℕ → Tail → Meaning → Type 0
TailRuns all far worth (tail.To l) m = (worth_at all l ≤ worth) × ((h : ℕ → ℕ) → Leads far (m h) (meaning_at all l h))
TailRuns all far worth (tail.Open instrs end) m = Serves all worth end (reverse instrs.items) m worth

-- more blocks have labels, and those that had one keep it
pub record Extends (some all : List Label) : Type 0 where
  pub more : length some ≤ length all
  pub same : (l : ℕ) → l < length some → label_at all l ≡ label_at some l

-- whatever blocks are still to come
abbrev pub Stands : List Label → List Block → ℕ → Type 0
Stands some blocks l = (all : List Label) → Extends some all → BlockRuns all blocks l

abbrev pub Means : List Label → ℕ → ℕ → Tail → Meaning → Type 0
Means some far worth t m = (all : List Label) → Extends some all → TailRuns all far worth t m

-- a break leads to the block of this number
abbrev pub Leaves : List Label → ℕ → Meaning → Type 0
Leaves some exit m = Means some 0 statement_worth (tail.To exit) (λ h. past_again (m h))

-- whatever the hidden cells of searches, and of repeats that are still to come, hold
abbrev pub Ignores : ℕ → Meaning → Type 0
Ignores hidden m = (h : ℕ → ℕ) (k v : ℕ) → ((k < 2) ⊎ (hidden ≤ k)) → m (with_hidden h k v) ≡ m h

-- blocks were added, and what is new does what the items say
pub record Compiled (old new : List Block) (some : List Label) (far worth : ℕ) (t : Tail) (m : Meaning) : Type 0 where
  pub table : List Label
  pub extends : Extends some table
  pub whole : length table ≡ length new
  pub longer : length old ≤ length new
  pub kept : (l : ℕ) → l < length old → slice_get new l ≡ slice_get old l
  pub added : (l : ℕ) → length old ≤ l → l < length new → Stands table new l
  pub means : Means table far worth t m

-- code for these statements stands before the tail, whatever the tail means
abbrev pub Compiles : List Block → List Block → ℕ → ℕ → List Kernel → Tail → Tail → Type 0
Compiles old new hidden exit statements before after =
    (some : List Label) (far : ℕ) (m : Meaning) → far ≤ 1 → length some ≡ length old → Ignores hidden m → Leaves some exit m →
    Means some far statement_worth before m → Compiled old new some far statement_worth after (λ h. do_all statements ++ m h)

-- an instruction stands before a tail
abbrev pub Precedes : Instr → Tail → Tail → Type 0
Precedes instr before after =
    (some : List Label) (least far : ℕ) (m next : Meaning) → InstrRuns instr m next statement_worth jump_worth → Means some least statement_worth before next →
    Means some far statement_worth after m

-- a block has this number and does what the tail does
abbrev pub Labels : List Block → List Block → Tail → ℕ → Type 0
Labels old new t l =
    (some : List Label) (far worth : ℕ) (m : Meaning) → length some ≡ length old → Means some far worth t m → Compiled old new some 0 worth (tail.To l) m

-- a block does what the tail does, wherever a statement could begin. Where that leads to another block it does so by an idle step at least
abbrev pub Closes : Tail → Block → Type 0
Closes t block =
    (all : List Label) (m : Meaning) (worth : ℕ) → statement_worth ≤ worth → TailRuns all 1 worth t m → Serves all worth block.end block.instrs m worth

-- a tail is an open block of these instructions and this end
abbrev pub IsOpen : Tail → List Instr → End → Type 0
IsOpen (tail.To l) list last = ⊥
IsOpen (tail.Open instrs end) list last = (instrs.items ≡ list) × (end ≡ last)

-- arguments i, i + 1 and so on, n of them, are taken before a tail
abbrev pub Takes : ℕ → ℕ → Tail → Tail → Type 0
Takes i n before after =
    (some : List Label) (far : ℕ) (m : Meaning) → Means some far statement_worth before m →
    Means some far statement_worth after (λ h. take_arguments i n ++ m h)
