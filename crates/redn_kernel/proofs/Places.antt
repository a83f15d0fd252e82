-- The places to which core statements come, and what the chain has left there.
use Rattle.std.proofs.Common.{◌≡◌, ℕ, zero, suc, ◌+◌, ◌<◌, ◌≤◌, ◌⊎◌, inr, Bool, true, false, if◌then◌else◌, List, [], ◌∷◌, ◌++◌, length, refl, ap, ◌∙◌, arith}
use Rattle.redn_kernel.specs.declared.types.Cell.{Cell}
use Rattle.redn_kernel.specs.declared.types.Core.{Core}
use Rattle.redn_kernel.specs.Source.{Item, wrapped}
use Rattle.redn_kernel.specs.CoreRun as run
use Rattle.redn_kernel.specs.CoreRun.{Cells, CoreItem, Do, Again, Found, held, do_cores, past_loop}
use Rattle.redn_kernel.specs.Becomes.{cores_at}
use Rattle.redn_kernel.specs.Costs.{search_worth}
use Rattle.redn_kernel.specs.Composes.{Remains, Point, Pays, DoesHere, opens}

abbrev pub point : List Core → Remains → Remains → Remains → ℕ → Point
point cores here behind out worth = record { cores = cores; here = here; behind = behind; out = out; worth = worth }

-- what stands behind: the rest of a list, or a loop whose body is done again
pub data Frame : Type 0 where
  Rest : (depth : ℕ) (cores : List Core) (here behind out : Remains) → Frame
  Round : (depth : ℕ) (body : List Core) (here out : Remains) → Frame

pub data Place : Type 0 where
  Done : Place
  At : (depth : ℕ) (first : Core) (rest : List Core) (here behind out : Remains) (worth : ℕ) (frames : List Frame) → Place
  Takes : (to : Cell) (table : ℕ) (offset : Cell) (found : Remains) (depth : ℕ) (hit : List Core) (here behind out : Remains) (frames : List Frame) → Place  -- a probe has found its key
  Turns : (depth : ℕ) (body : List Core) (here out : Remains) (frames : List Frame) → Place  -- at the end of a loop's body

abbrev pub items_in : List Frame → List CoreItem
items_in [] = []
items_in (Rest d cores here behind out ∷ frames) = do_cores cores ++ items_in frames
items_in (Round d body here out ∷ frames) = Again body ∷ items_in frames

abbrev pub left_in : List Frame → Remains
left_in [] h = []
left_in (Rest d cores here behind out ∷ frames) h = here h
left_in (Round d body here out ∷ frames) h = here h

-- behind the innermost loop
abbrev pub past_round : List Frame → List Frame
past_round [] = []
past_round (Rest d cores here behind out ∷ frames) = past_round frames
past_round (Round d body here out ∷ frames) = frames

abbrev pub items : Place → List CoreItem
items Done = []
items (At d first rest here behind out worth frames) = Do first ∷ (do_cores rest ++ items_in frames)
items (Takes to table offset found d hit here behind out frames) = Found to table offset hit ∷ items_in frames
items (Turns d body here out frames) = Again body ∷ items_in frames

abbrev pub left : Place → Remains
left Done h = []
left (At d first rest here behind out worth frames) h = here h
left (Takes to table offset found d hit here behind out frames) h = found h
left (Turns d body here out frames) h = here h

-- behind a list stand these
abbrev pub IsBefore : Remains → Remains → List Frame → Type 0
IsBefore behind out frames = ((h : ℕ → ℕ) → behind h ≡ left_in frames h) × ((h : ℕ → ℕ) → out h ≡ left_in (past_round frames) h)

abbrev pub Stack : List Frame → Type 0
Stack [] = Unit {0}
Stack (Rest d cores here behind out ∷ frames) = DoesHere d (point cores here behind out search_worth) × IsBefore behind out frames × Stack frames
Stack (Round d body here out ∷ frames) = DoesHere d (point body here here out search_worth) × (opens body ≡ true) × ((h : ℕ → ℕ) → out h ≡ left_in frames h) × Stack frames

abbrev pub Taken : Cell → ℕ → Cell → Remains → Remains → Type 0
Taken to table offset found here =
    (c : ℕ) (words : List ℕ) (tables : List (List ℕ)) (s : Cells) (more : List Item) →
    Pays c words tables s more found here (run.loads c words tables (cores_at s []) to table (wrapped (held words s offset + 8)) []) 0 search_worth search_worth

abbrev pub Stands : Place → Type 0
Stands Done = Unit {0}
Stands (At d first rest here behind out worth frames) =
    DoesHere d (point (first ∷ rest) here behind out worth) × ((opens (first ∷ rest) ≡ true) ⊎ (search_worth ≤ worth)) × IsBefore behind out frames × Stack frames
Stands (Takes to table offset found d hit here behind out frames) = DoesHere d (point hit here behind out search_worth) × IsBefore behind out frames × Stack frames × Taken to table offset found here
Stands (Turns d body here out frames) = Stack (Round d body here out ∷ frames)

-- there is something left to do
abbrev pub IsBusy : Place → Type 0
IsBusy Done = ⊥
IsBusy _ = Unit {0}

-- how long core statements can go on without a step of the chain
abbrev pub rank : Place → ℕ
rank Done = 0
rank (At d first rest here behind out worth frames) = worth + length frames + (if opens (first ∷ rest) then 0 else 4)
rank (Takes to table offset found d hit here behind out frames) = search_worth + 5 + length frames
rank (Turns d body here out frames) = search_worth + 4 + length frames

-- the first place behind
abbrev pub settle : List Frame → Place
settle [] = Done
settle (Rest d [] here behind out ∷ frames) = settle frames
settle (Rest d (first ∷ rest) here behind out ∷ frames) = At d first rest here behind out search_worth frames
settle (Round d body here out ∷ frames) = Turns d body here out frames

abbrev pub onward : ℕ → List Core → Remains → Remains → Remains → ℕ → List Frame → Place
onward d [] here behind out worth frames = settle frames
onward d (first ∷ rest) here behind out worth frames = At d first rest here behind out worth frames

pub settle_items : (frames : List Frame) → items_in frames ≡ items (settle frames)
settle_items [] = refl
settle_items (Rest d [] here behind out ∷ frames) = settle_items frames
settle_items (Rest d (first ∷ rest) here behind out ∷ frames) = refl
settle_items (Round d body here out ∷ frames) = refl

pub settle_left : (frames : List Frame) → Stack frames → (h : ℕ → ℕ) → left_in frames h ≡ left (settle frames) h
settle_left [] st h = refl
settle_left (Rest zero [] here behind out ∷ frames) st h = absurd st.0
settle_left (Rest (suc d) [] here behind out ∷ frames) (does, before, st) h = does.1 h ∙ before.0 h ∙ settle_left frames st h
settle_left (Rest d (first ∷ rest) here behind out ∷ frames) st h = refl
settle_left (Round d body here out ∷ frames) st h = refl

pub settle_stands : (frames : List Frame) → Stack frames → Stands (settle frames)
settle_stands [] st = tt
settle_stands (Rest d [] here behind out ∷ frames) (does, before, st) = settle_stands frames st
settle_stands (Rest d (first ∷ rest) here behind out ∷ frames) (does, before, st) = (does, inr (omega arith), before, st)
settle_stands (Round d body here out ∷ frames) st = st

four : (b : Bool) → (if b then 0 else 4) ≤ 4
four true = omega arith
four false = omega arith

pub settle_rank : (frames : List Frame) → rank (settle frames) ≤ search_worth + 4 + length frames
settle_rank [] = omega arith
settle_rank (Rest d [] here behind out ∷ frames) = omega (arith, settle_rank frames)
settle_rank (Rest d (first ∷ rest) here behind out ∷ frames) = omega (arith, four (opens (first ∷ rest)))
settle_rank (Round d body here out ∷ frames) = omega arith

-- where nothing is behind, or less
pub past_rank : (frames : List Frame) → rank (settle (past_round frames)) < search_worth + 4 + length frames
past_rank [] = omega arith
past_rank (Rest d cores here behind out ∷ frames) = omega (arith, past_rank frames)
past_rank (Round d body here out ∷ frames) = omega (arith, settle_rank frames)

pub past_stack : (frames : List Frame) → Stack frames → Stack (past_round frames)
past_stack [] st = tt
past_stack (Rest d cores here behind out ∷ frames) (does, before, st) = past_stack frames st
past_stack (Round d body here out ∷ frames) (does, begins, over, st) = st

past_cores : (cores : List Core) (more : List CoreItem) → past_loop (do_cores cores ++ more) ≡ past_loop more
past_cores [] more = refl
past_cores (first ∷ rest) more = past_cores rest more

past_frames : (frames : List Frame) → past_loop (items_in frames) ≡ items_in (past_round frames)
past_frames [] = refl
past_frames (Rest d cores here behind out ∷ frames) = past_cores cores (items_in frames) ∙ past_frames frames
past_frames (Round d body here out ∷ frames) = refl

pub past_items : (rest : List Core) (frames : List Frame) → past_loop (do_cores rest ++ items_in frames) ≡ items_in (past_round frames)
past_items rest frames = past_cores rest (items_in frames) ∙ past_frames frames

-- on with some statements
module _ (d : ℕ) (here behind out : Remains) (worth : ℕ) (frames : List Frame) where
  pub onward_items : (cores : List Core) → do_cores cores ++ items_in frames ≡ items (onward d cores here behind out worth frames)
  onward_items [] = settle_items frames
  onward_items (first ∷ rest) = refl

  pub onward_left : (cores : List Core) → DoesHere d (point cores here behind out worth) → IsBefore behind out frames → Stack frames → (h : ℕ → ℕ) → here h ≡ left (onward d cores here behind out worth frames) h
  onward_left cores = by_depth d cores
    where
      by_depth : (d : ℕ) (cores : List Core) → DoesHere d (point cores here behind out worth) → IsBefore behind out frames → Stack frames → (h : ℕ → ℕ) → here h ≡ left (onward d cores here behind out worth frames) h
      by_depth zero cores does before st h = absurd does
      by_depth (suc d) [] does before st h = does.1 h ∙ before.0 h ∙ settle_left frames st h
      by_depth (suc d) (first ∷ rest) does before st h = refl

  pub onward_stands : (cores : List Core) → DoesHere d (point cores here behind out worth) → (opens cores ≡ true) ⊎ (search_worth ≤ worth) → IsBefore behind out frames → Stack frames → Stands (onward d cores here behind out worth frames)
  onward_stands [] does begins before st = settle_stands frames st
  onward_stands (first ∷ rest) does begins before st = (does, begins, before, st)

  pub onward_rank : (cores : List Core) → DoesHere d (point cores here behind out worth) → rank (onward d cores here behind out worth frames) ≤ worth + length frames + 4
  onward_rank cores = by_depth d cores
    where
      by_depth : (d : ℕ) (cores : List Core) → DoesHere d (point cores here behind out worth) → rank (onward d cores here behind out worth frames) ≤ worth + length frames + 4
      by_depth zero cores does = absurd does
      by_depth (suc d) [] does = let enough = does.0 in omega (arith, enough, settle_rank frames)
      by_depth (suc d) (first ∷ rest) does = omega (arith, four (opens (first ∷ rest)))

  pub open_rank : (cores : List Core) → opens cores ≡ true → rank (onward d cores here behind out worth frames) ≤ worth + length frames
  open_rank [] e = absurd (cc e)
  open_rank (first ∷ rest) e =
      let extra : Bool → ℕ = λ b. if b then 0 else 4 in
      let none : extra (opens (first ∷ rest)) ≡ extra true = ap extra e in
      omega (arith, none)
