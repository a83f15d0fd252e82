-- That core statements do a statement point by point, and that the chain's steps pay for what they cost.
use Rattle.std.specs.Prelude.{◌≡◌, ℕ, zero, suc, ◌+◌, ◌*◌, ◌≤◌, ◌⊎◌, Bool, true, false, if◌then◌else◌, List, [], ◌∷◌, ◌++◌}
use Rattle.redn_words.specs.declared.types.Obs.TheVariants as shows
use Rattle.redn_kernel.specs.declared.types.Kernel.{Kernel}
use Rattle.redn_kernel.specs.declared.types.Cell.{Cell}
use Rattle.redn_kernel.specs.declared.types.Core.{Core, out-Core}
use Rattle.redn_kernel.specs.declared.types.Core.TheOpen.{Core-F}
use Rattle.redn_kernel.specs.Source.{Item, Do, wrapped, same, same_low, word_in}
use Rattle.redn_kernel.specs.Costs.{step_worth, move_cost, add_cost, load_cost, test_cost, probe_cost, statement_worth, search_worth, jump_worth}
use Rattle.redn_kernel.specs.Steps.{Steps}
use Rattle.redn_kernel.specs.CoreRun as run
use Rattle.redn_kernel.specs.CoreRun.{Cells, CoreTurn, held, core_does}
use Rattle.redn_kernel.specs.Becomes.{chain_at, cores_at}

-- what a chain has left of a statement, by what hidden words hold
abbrev pub Remains : Type 0
Remains = (ℕ → ℕ) → List Item

-- a point of core statements
pub record Point : Type 0 where
  pub cores : List Core  -- those from here to the end of their list
  pub here : Remains
  pub behind : Remains  -- behind the list
  pub out : Remains  -- behind the innermost loop
  pub worth : ℕ  -- what may be spent here before the chain steps on

-- of a core statement that is one instruction
unfoldable pub core_cost : Core-F Core → ℕ
core_cost (Core-F.Move to from) = move_cost
core_cost (Core-F.Add to by) = add_cost by
core_cost (Core-F.Load to table offset) = load_cost
core_cost _ = 0

-- whether a jump isn't needed to come to some statements from those before them
unfoldable pub begins_block : Core-F Core → Bool
begins_block (Core-F.Loop body) = false
begins_block Core-F.Leave = false
begins_block _ = true

abbrev pub opens : List Core → Bool
opens [] = false
opens (first ∷ rest) = begins_block (out-Core first)

-- a turn of core statements is so many steps of the chain, which pay for it. Behind what is left of the statement stand other items
pub record Pays (c : ℕ) (words : List ℕ) (tables : List (List ℕ)) (s : Cells) (more : List Item) (from to : Remains) (turn : CoreTurn)
    (cost worth left : ℕ) : Type 0 where
  pub count : ℕ
  pub steps : Steps c tables (chain_at words s false (from s.hidden ++ more)) count
      (record {
        tables = turn.tables;
        chain = chain_at words turn.state.cells turn.state.ended ((if turn.state.ended then from else to) turn.state.cells.hidden ++ more);
        event = turn.event;
      })
  pub paid : cost + left ≤ worth + step_worth * count

-- where a branch of a statement begins, and where the statements behind it do
abbrev pub branch : Point → List Core → Remains → Remains → Point
branch p cores here behind = record { cores = cores; here = here; behind = behind; out = p.out; worth = search_worth }

abbrev pub past : Point → List Core → Remains → Point
past p rest here = record p { cores = rest; here = here; worth = search_worth }

-- what holds of the points that a point leads to
module _ (Holds : Point → Type 0) (p : Point) where
  -- a statement without blocks
  pub record Acts (layer : Core-F Core) (rest : List Core) : Type 0 where
    pub next : Remains
    pub left : ℕ
    pub affords : core_cost layer ≤ p.worth
    pub pays : (c : ℕ) (words : List ℕ) (tables : List (List ℕ)) (s : Cells) (more : List Item) →
        Pays c words tables s more p.here next (core_does c words tables (cores_at s []) layer []) (core_cost layer) p.worth left
    pub onward : (opens rest ≡ true) ⊎ (jump_worth ≤ left)
    pub rest_holds : Holds (record p { cores = rest; here = next; worth = left })

  -- an `If`
  pub record Chooses (wide : Bool) (left right : Cell) (met unmet rest : List Core) : Type 0 where
    pub if_met : Remains
    pub if_unmet : Remains
    pub done : Remains  -- behind the statement
    pub affords : test_cost wide ≤ p.worth
    pub pays : (c : ℕ) (words : List ℕ) (tables : List (List ℕ)) (s : Cells) (more : List Item) →
        Pays c words tables s more p.here (if same wide (held words s left) (held words s right) then if_met else if_unmet)
        (run.goes_on c words tables (cores_at s []) [] shows.Nothing) (test_cost wide) p.worth search_worth
    pub met_holds : Holds (branch p met if_met done)
    pub unmet_holds : Holds (branch p unmet if_unmet done)
    pub rest_holds : Holds (past p rest done)

  -- a `Probe`, whose second step takes what it has found
  pub record Looks (to : Cell) (table : ℕ) (offset key : Cell) (hit miss rest : List Core) : Type 0 where
    pub found : Remains
    pub if_hit : Remains
    pub if_miss : Remains
    pub done : Remains
    pub affords : probe_cost ≤ p.worth
    pub looks : (c : ℕ) (words : List ℕ) (tables : List (List ℕ)) (s : Cells) (more : List Item) →
        Pays c words tables s more p.here (if same_low (word_in tables table (held words s offset)) (held words s key) then found else if_miss)
        (run.looks c words tables (cores_at s []) table (held words s offset) (λ v. [])) probe_cost p.worth search_worth
    pub takes : (c : ℕ) (words : List ℕ) (tables : List (List ℕ)) (s : Cells) (more : List Item) →
        Pays c words tables s more found if_hit
        (run.loads c words tables (cores_at s []) to table (wrapped (held words s offset + 8)) []) 0 search_worth search_worth
    pub hit_holds : Holds (branch p hit if_hit done)
    pub miss_holds : Holds (branch p miss if_miss done)
    pub rest_holds : Holds (past p rest done)

  -- a `Loop`, whose body begins a block
  pub record Rounds (body rest : List Core) : Type 0 where
    pub done : Remains
    pub begins : opens body ≡ true
    pub body_holds : Holds (record { cores = body; here = p.here; behind = p.here; out = done; worth = search_worth })
    pub rest_holds : Holds (past p rest done)

  -- a `Leave`
  pub record Quits (rest : List Core) : Type 0 where
    pub done : Remains
    pub leaves : (h : ℕ → ℕ) → p.here h ≡ p.out h
    pub rest_holds : Holds (past p rest done)

  -- by the first statement
  unfoldable pub First : Core-F Core → List Core → Type 0
  First (Core-F.Move to from) rest = Acts (Core-F.Move to from) rest
  First (Core-F.Add to by) rest = Acts (Core-F.Add to by) rest
  First (Core-F.Load to table offset) rest = Acts (Core-F.Load to table offset) rest
  First (Core-F.If wide left right met unmet) rest = Chooses wide left right met unmet rest
  First (Core-F.Loop body) rest = Rounds body rest
  First Core-F.Leave rest = Quits rest
  First (Core-F.Probe to table offset key hit miss) rest = Looks to table offset key hit miss rest

  abbrev pub FirstOf : List Core → Type 0
  FirstOf [] = (search_worth ≤ p.worth) × ((h : ℕ → ℕ) → p.here h ≡ p.behind h)
  FirstOf (first ∷ rest) = First (out-Core first) rest

-- the core statements at a point, which are so deep, do what is left here
abbrev pub DoesHere : ℕ → Point → Type 0
DoesHere zero p = ⊥
DoesHere (suc n) p = FirstOf (DoesHere n) p p.cores

-- those of a statement begin a block, and leave nothing of it
pub record Composes (statement : Kernel) (cores : List Core) : Type 0 where
  pub begins : opens cores ≡ true
  pub depth : ℕ
  pub does : DoesHere depth (record { cores = cores; here = λ h. Do statement ∷ []; behind = λ h. []; out = λ h. []; worth = statement_worth })
