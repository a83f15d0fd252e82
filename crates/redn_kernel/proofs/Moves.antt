-- Each step of core statements that are a statement leads from a place to a place, and is some steps of the chain.
use Rattle.std.proofs.Common.{◌≡◌, ℕ, zero, suc, ◌+◌, ◌<◌, ◌≤◌, ◌⊎◌, inl, inr, Bool, true, false, if◌then◌else◌, List, [], ◌∷◌, ◌++◌, length, refl, sym, ap, ◌∙◌, subst, arith}
use Rattle.std.proofs.lemmas.Bool.{false≢true}
use Rattle.redn_words.specs.declared.types.Obs.{Obs}
use Rattle.redn_words.specs.declared.types.Obs.TheVariants as shows
use Rattle.redn_kernel.specs.declared.types.Cell.{Cell}
use Rattle.redn_kernel.specs.declared.types.Cell.TheVariants as cell
use Rattle.redn_kernel.specs.declared.types.Core.{Core, out-Core}
use Rattle.redn_kernel.specs.declared.types.Core.TheOpen.{Core-F}
use Rattle.redn_kernel.specs.Source.{Turn, Item, wrapped, same, same_low, has_word, word_in}
use Rattle.redn_kernel.specs.Steps.{Steps, unchanged}
use Rattle.redn_kernel.specs.CoreRun as run
use Rattle.redn_kernel.specs.CoreRun.{Cells, CoreItem, CoreTurn, Do, Again, Found, held, do_cores, core_does, core_item_does, core_step}
use Rattle.redn_kernel.specs.Becomes.{chain_at, cores_at}
use Rattle.redn_kernel.specs.Composes.{Remains, Point, Pays, First, DoesHere, Acts, Chooses, Looks, Rounds, Quits, begins_block, opens, core_cost}
use Rattle.redn_kernel.specs.Costs.{move_cost, add_cost, test_cost, probe_cost, search_worth}
use Rattle.redn_kernel.proofs.CoreRuns.{front_core}
use Rattle.redn_kernel.proofs.Places.{point, Frame, Rest, Round, Place, Done, At, Takes, Turns, items_in, past_round, items, left, IsBefore, Stack, Stands, IsBusy, rank, settle, onward, settle_items, settle_left, settle_stands, past_rank}
use Rattle.redn_kernel.proofs.Places.{past_stack, past_items, onward_items, onward_left, onward_stands, onward_rank, open_rank}

-- a turn with its items, by whether it was a fault
abbrev pub placed : CoreTurn → List CoreItem → List CoreItem → CoreTurn
placed turn stay go =
    record { tables = turn.tables; state = record { cells = turn.state.cells; items = if turn.state.ended then stay else go; ended = turn.state.ended }; event = turn.event }

-- some steps of the chain, and where they are none the rank falls
pub record Paid (c : ℕ) (words : List ℕ) (tables : List (List ℕ)) (s : Cells) (place next : Place) (turn : CoreTurn) (more : List Item) : Type 0 where
  pub count : ℕ
  pub steps : Steps c tables (chain_at words s false (left place s.hidden ++ more)) count
      (record { tables = turn.tables; chain = chain_at words turn.state.cells turn.state.ended (left next turn.state.cells.hidden ++ more); event = turn.event })
  pub falls : count ≡ 0 → rank next < rank place

pub record Moves (c : ℕ) (words : List ℕ) (tables : List (List ℕ)) (s : Cells) (place : Place) : Type 0 where
  pub next : Place
  pub stands : Stands next
  pub turn : CoreTurn
  pub is : core_step c words tables (cores_at s (items place)) ≡ turn
  pub leads : turn.state.items ≡ items next
  pub pays : (more : List Item) → Paid c words tables s place next turn more

module _ (c : ℕ) (words : List ℕ) (tables : List (List ℕ)) (s : Cells) where
  abbrev Moved : Place → Type 0
  Moved place = Moves c words tables s place

  -- a step that pays, and goes on unless it was a fault
  module _ (place go : Place) (to : Remains) (cost worth over : ℕ) (tabs : List (List ℕ)) (cells : Cells) (its : List CoreItem) (event : Obs) where
    abbrev turn_at : Bool → CoreTurn
    turn_at ended = record { tables = tabs; state = record { cells = cells; items = its; ended = ended }; event = event }

    moves_by : (ended : Bool) → core_step c words tables (cores_at s (items place)) ≡ placed (turn_at ended) (items place) (items go) →
        ((more : List Item) → Pays c words tables s more (left place) to (turn_at ended) cost worth over) → ((h : ℕ → ℕ) → to h ≡ left go h) → (cost + over ≤ worth → rank go < rank place) → Stands place → Stands go → Moved place
    moves_by false is pays same falls here there =
        record {
          next = go;
          stands = there;
          turn = placed (turn_at false) (items place) (items go);
          is = is;
          leads = refl;
          pays = λ more.
              let p = pays more in
              record {
                count = p.count;
                steps = subst (λ (list : List Item). Steps c tables (chain_at words s false (left place s.hidden ++ more)) p.count (record { tables = tabs; chain = chain_at words cells false (list ++ more); event = event })) (same cells.hidden) p.steps;
                falls = λ none. falls (omega (arith, p.paid, none));
              };
        }
    moves_by true is pays same falls here there =
        record {
          next = place;
          stands = here;
          turn = placed (turn_at true) (items place) (items go);
          is = is;
          leads = refl;
          pays = λ more.
              let p = pays more in
              let turn : Turn = record { tables = tabs; chain = chain_at words cells true (left place cells.hidden ++ more); event = event } in
              record {
                count = p.count;
                steps = p.steps;
                falls = λ none.
                    let stays = subst (λ (n : ℕ). Steps c tables (chain_at words s false (left place s.hidden ++ more)) n turn) none p.steps in
                    absurd (false≢true (sym (ap (λ (u : Turn). u.chain.ended) stays)));
              };
        }

  -- no step of the chain
  silently : (place go : Place) → core_step c words tables (cores_at s (items place)) ≡ (record { tables = tables; state = cores_at s (items go); event = shows.Nothing }) → ((h : ℕ → ℕ) → left place h ≡ left go h) → rank go < rank place → Stands go → Moved place
  silently place go is same falls there =
      record {
        next = go;
        stands = there;
        turn = record { tables = tables; state = cores_at s (items go); event = shows.Nothing };
        is = is;
        leads = refl;
        pays = λ more. record { count = 0; steps = ap (λ (list : List Item). unchanged tables (chain_at words s false (list ++ more))) (sym (same s.hidden)); falls = λ none. falls };
      }

  placed_if : (there : Bool) (one one_more other other_more : CoreTurn) (stay go : List CoreItem) → one_more ≡ placed one stay go → other_more ≡ placed other stay go →
      (if there then one_more else other_more) ≡ placed (if there then one else other) stay go
  placed_if true one one_more other other_more stay go e f = e
  placed_if false one one_more other other_more stay go e f = f

  placed_loads : (to : Cell) (table o : ℕ) (stay go : List CoreItem) → run.loads c words tables (cores_at s stay) to table o go ≡ placed (run.loads c words tables (cores_at s []) to table o []) stay go
  placed_loads to table o stay go = placed_if (has_word tables table o) _ _ _ _ stay go refl refl

  placed_looks : (table o : ℕ) (next : ℕ → List CoreItem) (stay : List CoreItem) → run.looks c words tables (cores_at s stay) table o next ≡ placed (run.looks c words tables (cores_at s []) table o (λ v. [])) stay (next (word_in tables table o))
  placed_looks table o next stay = placed_if (has_word tables table o) _ _ _ _ stay (next (word_in tables table o)) refl refl

  addend_pays : (by : Cell) → move_cost ≤ add_cost by
  addend_pays (cell.Num n) = omega arith
  addend_pays (cell.Var x) = omega arith
  addend_pays (cell.Hidden k) = omega arith
  addend_pays (cell.Argument i) = omega arith

  test_pays : (wide : Bool) → test_cost false ≤ test_cost wide
  test_pays true = omega arith
  test_pays false = omega arith

  -- from a statement, with what stands behind its list
  module _ (d : ℕ) (first : Core) (rest : List Core) (here behind out : Remains) (worth : ℕ) (frames : List Frame) (stands : Stands (At (suc d) first rest here behind out worth frames)) where
    abbrev place : Place
    place = At (suc d) first rest here behind out worth frames

    abbrev p : Point
    p = point (first ∷ rest) here behind out worth

    before : IsBefore behind out frames
    before = stands.2

    stack : Stack frames
    stack = stands.3

    acts : (layer : Core-F Core) → out-Core first ≡ layer → move_cost ≤ core_cost layer →
        ((stay go : List CoreItem) → core_does c words tables (cores_at s stay) layer go ≡ placed (core_does c words tables (cores_at s []) layer []) stay go) → Acts (DoesHere d) p layer rest → Moved place
    acts layer e cost is a =
        let turn = core_does c words tables (cores_at s []) layer [] in
        let go = onward d rest a.next behind out a.left frames in
        let begins : (opens rest ≡ true) ⊎ (search_worth ≤ a.left) = elim a.onward [ inl begun ↦ inl begun | inr enough ↦ inr (omega (arith, enough)) ] in
        moves_by place go a.next (core_cost layer) worth a.left turn.tables turn.state.cells turn.state.items turn.event turn.state.ended
        (front_core c words tables s first layer (do_cores rest ++ items_in frames) e ∙ is (items place) (do_cores rest ++ items_in frames) ∙ ap (placed turn (items place)) (onward_items d a.next behind out a.left frames rest))
        (λ more. a.pays c words tables s more)
        (onward_left d a.next behind out a.left frames rest a.rest_holds before stack)
        (λ le. let most = onward_rank d a.next behind out a.left frames rest a.rest_holds in omega (arith, le, cost, most))
        stands
        (onward_stands d a.next behind out a.left frames rest a.rest_holds begins before stack)

    -- a branch, with the statements behind it
    module _ (done : Remains) (rest_holds : DoesHere d (point rest done behind out search_worth)) where
      abbrev wider : List Frame
      wider = Rest d rest done behind out ∷ frames

      wider_stack : Stack wider
      wider_stack = (rest_holds, before, stack)

      abbrev branch_at : List Core → Remains → Place
      branch_at cores begin = onward d cores begin done out search_worth wider

      branch_is : (cores : List Core) (begin : Remains) → do_cores cores ++ (do_cores rest ++ items_in frames) ≡ items (branch_at cores begin)
      branch_is cores begin = onward_items d begin done out search_worth wider cores

      branch_before : IsBefore done out wider
      branch_before = (λ h. refl, before.1)

      branch_stands : (cores : List Core) (begin : Remains) → DoesHere d (point cores begin done out search_worth) → Stands (branch_at cores begin)
      branch_stands cores begin does = onward_stands d begin done out search_worth wider cores does (inr (omega arith)) branch_before wider_stack

      branch_left : (cores : List Core) (begin : Remains) → DoesHere d (point cores begin done out search_worth) → (h : ℕ → ℕ) → begin h ≡ left (branch_at cores begin) h
      branch_left cores begin does = onward_left d begin done out search_worth wider cores does branch_before wider_stack

      branch_rank : (cores : List Core) (begin : Remains) → DoesHere d (point cores begin done out search_worth) → rank (branch_at cores begin) ≤ search_worth + 5 + length frames
      branch_rank cores begin does = omega (arith, onward_rank d begin done out search_worth wider cores does)

    chooses_by : (wide : Bool) (a b : Cell) (met unmet : List Core) → out-Core first ≡ Core-F.If wide a b met unmet → (x : Chooses (DoesHere d) p wide a b met unmet rest) →
        (yes : Bool) → same wide (held words s a) (held words s b) ≡ yes → Moved place
    unfolding core_does
    chooses_by wide a b met unmet e x true is =
        let go = branch_at x.done x.rest_holds met x.if_met in
        let all : List CoreItem = do_cores rest ++ items_in frames in
        moves_by place go x.if_met (test_cost wide) worth search_worth tables s [] shows.Nothing false
        (front_core c words tables s first _ all e ∙ ap (λ (yes : Bool). run.goes_on c words tables (cores_at s (items place)) (do_cores (if yes then met else unmet) ++ all) shows.Nothing) is ∙ ap (λ (list : List CoreItem). run.goes_on c words tables (cores_at s (items place)) list shows.Nothing) (branch_is x.done x.rest_holds met x.if_met))
        (λ more. subst (λ (yes : Bool). Pays c words tables s more here (if yes then x.if_met else x.if_unmet) (run.goes_on c words tables (cores_at s []) [] shows.Nothing)
        (test_cost wide) worth search_worth) is (x.pays c words tables s more))
        (branch_left x.done x.rest_holds met x.if_met x.met_holds)
        (λ le. omega (arith, le, test_pays wide, branch_rank x.done x.rest_holds met x.if_met x.met_holds))
        stands
        (branch_stands x.done x.rest_holds met x.if_met x.met_holds)
    chooses_by wide a b met unmet e x false is =
        let go = branch_at x.done x.rest_holds unmet x.if_unmet in
        let all : List CoreItem = do_cores rest ++ items_in frames in
        moves_by place go x.if_unmet (test_cost wide) worth search_worth tables s [] shows.Nothing false
        (front_core c words tables s first _ all e ∙ ap (λ (yes : Bool). run.goes_on c words tables (cores_at s (items place)) (do_cores (if yes then met else unmet) ++ all) shows.Nothing) is ∙ ap (λ (list : List CoreItem). run.goes_on c words tables (cores_at s (items place)) list shows.Nothing) (branch_is x.done x.rest_holds unmet x.if_unmet))
        (λ more. subst (λ (yes : Bool). Pays c words tables s more here (if yes then x.if_met else x.if_unmet) (run.goes_on c words tables (cores_at s []) [] shows.Nothing)
        (test_cost wide) worth search_worth) is (x.pays c words tables s more))
        (branch_left x.done x.rest_holds unmet x.if_unmet x.unmet_holds)
        (λ le. omega (arith, le, test_pays wide, branch_rank x.done x.rest_holds unmet x.if_unmet x.unmet_holds))
        stands
        (branch_stands x.done x.rest_holds unmet x.if_unmet x.unmet_holds)

    looks_by : (to : Cell) (table : ℕ) (offset key : Cell) (hit miss : List Core) → out-Core first ≡ Core-F.Probe to table offset key hit miss → (x : Looks (DoesHere d) p to table offset key hit miss rest) →
        (met : Bool) → same_low (word_in tables table (held words s offset)) (held words s key) ≡ met → Moved place
    unfolding core_does
    looks_by to table offset key hit miss e x met is =
        let o : ℕ = held words s offset in
        let all : List CoreItem = do_cores rest ++ items_in frames in
        let turn = run.looks c words tables (cores_at s []) table o (λ v. []) in
        let found_or : Bool → List CoreItem = λ b. run.found_or c words tables (cores_at s (items place)) b to table offset hit miss all in
        let does = front_core c words tables s first _ all e ∙ placed_looks table o (λ v. found_or (same_low v (held words s key))) (items place) ∙ ap (λ (b : Bool). placed turn (items place) (found_or b)) is in
        let pays = λ (more : List Item). subst (λ (b : Bool). Pays c words tables s more here (if b then x.found else x.if_miss) turn probe_cost worth search_worth) is (x.looks c words tables s more) in
        looks_to to table offset key hit miss x met does pays
      where
        looks_to : (to : Cell) (table : ℕ) (offset key : Cell) (hit miss : List Core) → (x : Looks (DoesHere d) p to table offset key hit miss rest) → (met : Bool) →
            core_step c words tables (cores_at s (items place)) ≡ placed (run.looks c words tables (cores_at s []) table (held words s offset) (λ v. [])) (items place) (run.found_or c words tables (cores_at s (items place)) met to table offset hit miss (do_cores rest ++ items_in frames)) →
            ((more : List Item) → Pays c words tables s more here (if met then x.found else x.if_miss) (run.looks c words tables (cores_at s []) table (held words s offset) (λ v. [])) probe_cost worth search_worth) → Moved place
        looks_to to table offset key hit miss x true does pays =
            let turn = run.looks c words tables (cores_at s []) table (held words s offset) (λ v. []) in
            let go = Takes to table offset x.found d hit x.if_hit x.done out (wider x.done x.rest_holds) in
            moves_by place go x.found probe_cost worth search_worth turn.tables turn.state.cells turn.state.items turn.event turn.state.ended does pays (λ h. refl)
            (λ le. omega (arith, le))
            stands
            (x.hit_holds, branch_before x.done x.rest_holds, wider_stack x.done x.rest_holds, x.takes)
        looks_to to table offset key hit miss x false does pays =
            let turn = run.looks c words tables (cores_at s []) table (held words s offset) (λ v. []) in
            let go = branch_at x.done x.rest_holds miss x.if_miss in
            moves_by place go x.if_miss probe_cost worth search_worth turn.tables turn.state.cells turn.state.items turn.event turn.state.ended
            (does ∙ ap (placed turn (items place)) (branch_is x.done x.rest_holds miss x.if_miss))
            pays
            (branch_left x.done x.rest_holds miss x.if_miss x.miss_holds)
            (λ le. omega (arith, le, branch_rank x.done x.rest_holds miss x.if_miss x.miss_holds))
            stands
            (branch_stands x.done x.rest_holds miss x.if_miss x.miss_holds)

    -- neither a loop nor a `Leave` begins a block
    enough : opens (first ∷ rest) ≡ false → search_worth ≤ worth
    enough closed = elim stands.1 [ inl begun ↦ absurd (false≢true (sym closed ∙ begun)) | inr much ↦ much ]

    extra : opens (first ∷ rest) ≡ false → rank place ≡ worth + length frames + 4
    extra closed =
        let more : Bool → ℕ = λ b. if b then 0 else 4 in
        let four : more (opens (first ∷ rest)) ≡ more false = ap more closed in
        omega (arith, four)

    rounds : (body : List Core) → out-Core first ≡ Core-F.Loop body → Rounds (DoesHere d) p body rest → Moved place
    unfolding core_does begins_block
    rounds body e x =
        let all : List CoreItem = do_cores rest ++ items_in frames in
        let under : List Frame = Round d body here x.done ∷ wider x.done x.rest_holds in
        let go = onward d body here here x.done search_worth under in
        let closed : opens (first ∷ rest) ≡ false = ap begins_block e in
        let stack_under : Stack under = (x.body_holds, x.begins, λ h. refl, wider_stack x.done x.rest_holds) in
        let before_under : IsBefore here x.done under = (λ h. refl, λ h. refl) in
        silently place go
        (front_core c words tables s first _ all e ∙ ap (λ (list : List CoreItem). run.goes_on c words tables (cores_at s (items place)) list shows.Nothing) (onward_items d here here x.done search_worth under body))
        (onward_left d here here x.done search_worth under body x.body_holds before_under stack_under)
        (omega (arith, open_rank d here here x.done search_worth under body x.begins, extra closed, enough closed))
        (onward_stands d here here x.done search_worth under body x.body_holds (inl x.begins) before_under stack_under)

    quits : out-Core first ≡ Core-F.Leave → Quits (DoesHere d) p rest → Moved place
    unfolding core_does begins_block
    quits e x =
        let all : List CoreItem = do_cores rest ++ items_in frames in
        let closed : opens (first ∷ rest) ≡ false = ap begins_block e in
        silently place (settle (past_round frames))
        (front_core c words tables s first _ all e ∙ ap (λ (list : List CoreItem). run.goes_on c words tables (cores_at s (items place)) list shows.Nothing) (past_items rest frames ∙ settle_items (past_round frames)))
        (λ h. x.leaves h ∙ before.1 h ∙ settle_left (past_round frames) (past_stack frames stack) h)
        (omega (arith, past_rank frames, extra closed, enough closed))
        (settle_stands (past_round frames) (past_stack frames stack))

    by_layer : (layer : Core-F Core) → out-Core first ≡ layer → First (DoesHere d) p layer rest → Moved place
    unfolding First core_does core_cost
    by_layer (Core-F.Move to from) e x = acts (Core-F.Move to from) e (omega arith) (λ stay go. refl) x
    by_layer (Core-F.Add to by) e x = acts (Core-F.Add to by) e (addend_pays by) (λ stay go. refl) x
    by_layer (Core-F.Load to table offset) e x = acts (Core-F.Load to table offset) e (omega arith) (λ stay go. placed_loads to table (held words s offset) stay go) x
    by_layer (Core-F.If wide a b met unmet) e x = chooses_by wide a b met unmet e x (same wide (held words s a) (held words s b)) refl
    by_layer (Core-F.Loop body) e x = rounds body e x
    by_layer Core-F.Leave e x = quits e x
    by_layer (Core-F.Probe to table offset key hit miss) e x = looks_by to table offset key hit miss e x (same_low (word_in tables table (held words s offset)) (held words s key)) refl

  takes : (to : Cell) (table : ℕ) (offset : Cell) (found : Remains) (d : ℕ) (hit : List Core) (here behind out : Remains) (frames : List Frame) → Stands (Takes to table offset found d hit here behind out frames) → Moved (Takes to table offset found d hit here behind out frames)
  unfolding core_item_does
  takes to table offset found d hit here behind out frames (does, before, stack, taken) =
      let place = Takes to table offset found d hit here behind out frames in
      let o : ℕ = wrapped (held words s offset + 8) in
      let turn = run.loads c words tables (cores_at s []) to table o [] in
      let go = onward d hit here behind out search_worth frames in
      moves_by place go here 0 search_worth search_worth turn.tables turn.state.cells turn.state.items turn.event turn.state.ended
      (placed_loads to table o (items place) (do_cores hit ++ items_in frames) ∙ ap (placed turn (items place)) (onward_items d here behind out search_worth frames hit))
      (λ more. taken c words tables s more)
      (onward_left d here behind out search_worth frames hit does before stack)
      (λ le. omega (arith, onward_rank d here behind out search_worth frames hit does))
      (does, before, stack, taken)
      (onward_stands d here behind out search_worth frames hit does (inr (omega arith)) before stack)

  turns : (d : ℕ) (body : List Core) (here out : Remains) (frames : List Frame) → Stands (Turns d body here out frames) → Moved (Turns d body here out frames)
  unfolding core_item_does
  turns d body here out frames (does, begins, over, stack) =
      let place = Turns d body here out frames in
      let under : List Frame = Round d body here out ∷ frames in
      let go = onward d body here here out search_worth under in
      let before_under : IsBefore here out under = (λ h. refl, over) in
      silently place go
      (ap (λ (list : List CoreItem). run.goes_on c words tables (cores_at s (items place)) list shows.Nothing) (onward_items d here here out search_worth under body))
      (onward_left d here here out search_worth under body does before_under (does, begins, over, stack))
      (omega (arith, open_rank d here here out search_worth under body begins))
      (onward_stands d here here out search_worth under body does (inl begins) before_under (does, begins, over, stack))

  pub moves : (place : Place) → Stands place → IsBusy place → Moved place
  moves Done st busy = absurd busy
  moves (At zero first rest here behind out worth frames) st busy = absurd st.0
  moves (At (suc d) first rest here behind out worth frames) st busy = by_layer d first rest here behind out worth frames st (out-Core first) refl st.0
  moves (Takes to table offset found d hit here behind out frames) st busy = takes to table offset found d hit here behind out frames st
  moves (Turns d body here out frames) st busy = turns d body here out frames st
