-- What code of core statements takes, from its parts.
use Rattle.std.proofs.Common.{◌≡◌, ℕ, ◌+◌, ◌*◌, ◌<◌, ◌≤◌, inr, Bool, true, false, List, [], ◌∷◌, map, Result, Ok, Err, IfOk, refl, sym, ap, ◌∙◌, subst, arith}
use Rattle.std.specs.List.{All}
use Rattle.std.proofs.lemmas.List.Elements.{All-cons, All-nil, All-head, All-tail}
use Rattle.redn_kernel.specs.declared.types.Core.{Core, out-Core, map-Core, every-Core, every_here-Core, every_held-Core, fold_out-Core}
use Rattle.redn_kernel.specs.declared.types.Core.TheOpen.{Core-F}
use Rattle.redn_kernel.specs.declared.types.Cell.{Cell}
use Rattle.redn_kernel.specs.declared.types.Cell.TheVariants as cell
use Rattle.redn_kernel.specs.Composes.{begins_block, opens}
use Rattle.redn_graph.specs.declared.types.Instr.TheVariants.{Add, Load}
use Rattle.redn_graph.specs.declared.types.End.TheVariants.{Probe}
use Rattle.redn_graph.specs.Idle.{same_hidden, puts_back}
use Rattle.redn_graph.specs.Words.{test_end}
use Rattle.redn_graph.specs.declared.types.Instr.{Instr}
use Rattle.redn_graph.specs.declared.types.End.{End}
use Rattle.redn_graph.specs.declared.build.Builder.{Builder}
use Rattle.redn_graph.specs.declared.build.Tail.{Tail}
use Rattle.redn_graph.specs.declared.build.Tail.TheVariants as tail
use Rattle.redn_graph.specs.Code.{IsOpen}
use Rattle.redn_graph.specs.Cores.{cell_move, IsPlainCore, CoresCompile, Continues}
use Rattle.redn_graph.specs.CoreSizes.{Taken, begins_with, jump_slots_by, slots_in, blocks_in, instrs_in, instr_taken, fork_taken, round_taken, taken_by, taken_of, taken_of_all, CoreFits, AllCoresFit, quits, leaves_loop, jump_needed, Made, ForkMade, RoundMade}
use Rattle.redn_graph.specs.Slots.{add_slots, instr_slots, end_slots, tail_slots, tail_size}
use Rattle.redn_graph.specs.Fits.{Things, IsCell, IsTarget, FitsInstr, FitsCode, FitsTail}
use Rattle.redn_graph.specs.Onward.{Works}
use Rattle.redn_graph.proofs.Slots.{open_slots, open_size, to_slots, to_size, test_slots}
use Rattle.redn_graph.proofs.Fits.{fitted_none, fitted_then, within_before, open_fits}
use Rattle.redn_graph.proofs.Stopping.{added_then, kept_idle, stops_before}
use Rattle.redn_graph.proofs.LeadingOn.{works_open, onward_works, onward_then, onward_as, leads_same, false_true}
use Rattle.redn_graph.proofs.CoreCode.{cores_none, cores_move, cores_add, cores_load, cores_choose, cores_look, cores_quit, cores_round}

pub taken_out : (st : Core) (layer : Core-F Core) → out-Core st ≡ layer → taken_of st ≡ taken_by (map-Core Core Taken taken_of layer)
unfolding taken_of
taken_out st layer e = fold_out-Core Taken taken_by st ∙ ap (λ l. taken_by (map-Core Core Taken taken_of l)) e

begins_layer : (layer : Core-F Core) → (let u : Taken = taken_by (map-Core Core Taken taken_of layer) in u.begins) ≡ begins_block layer
unfolding taken_by begins_block
begins_layer (Core-F.Move to from) = refl
begins_layer (Core-F.Add to by) = refl
begins_layer (Core-F.Load to table offset) = refl
begins_layer (Core-F.If wide left right met unmet) = refl
begins_layer (Core-F.Loop body) = refl
begins_layer Core-F.Leave = refl
begins_layer (Core-F.Probe to table offset key hit miss) = refl

pub begins_opens : (cores : List Core) → begins_with (taken_of_all cores) ≡ opens cores
begins_opens [] = refl
begins_opens (first ∷ rest) = ap (λ (u : Taken). u.begins) (taken_out first (out-Core first) refl) ∙ begins_layer (out-Core first)

-- the statements of a statement's two blocks
abbrev blocks : {X : Type 0} → Core-F X → List X × List X
blocks (Core-F.If wide left right met unmet) = (met, unmet)
blocks (Core-F.Loop body) = (body, [])
blocks (Core-F.Probe to table offset key hit miss) = (hit, miss)
blocks _ = ([], [])

blocks_map : {X Y : Type 0} (f : X → Y) (l : Core-F X) → ((blocks (map-Core X Y f l)).0 ≡ map f (blocks l).0) × ((blocks (map-Core X Y f l)).1 ≡ map f (blocks l).1)
blocks_map f (Core-F.Move to from) = (refl, refl)
blocks_map f (Core-F.Add to by) = (refl, refl)
blocks_map f (Core-F.Load to table offset) = (refl, refl)
blocks_map f (Core-F.If wide left right met unmet) = (refl, refl)
blocks_map f (Core-F.Loop body) = (refl, refl)
blocks_map f Core-F.Leave = (refl, refl)
blocks_map f (Core-F.Probe to table offset key hit miss) = (refl, refl)

module _ (Q : Core-F Core → Type 0) where
  abbrev pub Held : Type 0
  Held = (st : Core) × every-Core Q st

  pub held_all : (list : List Held) → All (every-Core Q) (map (λ e. e.0) list)
  held_all [] = All-nil (every-Core Q)
  held_all (e ∷ rest) = All-cons (every-Core Q) e.0 (map (λ d. d.0) rest) e.1 (held_all rest)

  pub blocks_every : (st : Core) (layer : Core-F Core) → every-Core Q st → out-Core st ≡ layer → All (every-Core Q) (blocks layer).0 × All (every-Core Q) (blocks layer).1
  blocks_every st layer well e =
      let held = every_held-Core Q st well in
      let is : map-Core Held Core (λ d. d.0) held.0 ≡ layer = held.1 ∙ e in
      let map_is = blocks_map {X = Held} (λ d. d.0) held.0 in
      let P : List Core → Type 0 = All (every-Core Q) in
      (subst P (sym map_is.0 ∙ ap (λ l. (blocks l).0) is) (held_all (blocks held.0).0), subst P (sym map_is.1 ∙ ap (λ l. (blocks l).1) is) (held_all (blocks held.0).1))

  pub layer_every : (st : Core) (layer : Core-F Core) → every-Core Q st → out-Core st ≡ layer → Q layer
  layer_every st layer well e = subst Q e (every_here-Core Q st well)

pub ok_six : {A E : Type 0} (r : Result A E) (P1 P2 P3 P4 P5 Q : A → Type 0) → ((a : A) → P1 a → P2 a → P3 a → P4 a → P5 a → Q a) → IfOk r P1 → IfOk r P2 → IfOk r P3 → IfOk r P4 → IfOk r P5 → IfOk r Q
ok_six (Ok a) P1 P2 P3 P4 P5 Q f p1 p2 p3 p4 p5 = f a p1 p2 p3 p4 p5
ok_six (Err e) P1 P2 P3 P4 P5 Q f p1 p2 p3 p4 p5 = p1

pub made_none : (b : Builder) (exit : ℕ) (t : Tail) → Made b b exit t [] t
made_none b exit t = record {
  compiles = cores_none b.blocks exit t;
  works = λ e. false_true e;
  slots = omega arith;
  longer = omega arith;
  blocks = omega arith;
  hidden = refl;
  fits = λ n within there all fits. (fitted_none n b.blocks, fits);
  size = λ size most some fits room small. (small, omega (arith, fits));
  leads = λ there. leads_same b.blocks exit t false;
}

jump_fits : (b : Bool) (t : Tail) → ((b ≡ true) → Works t) → jump_needed t ≤ jump_slots_by true b
jump_fits true (tail.To l) works = absurd (works refl)
jump_fits true (tail.Open instrs end) works = omega arith
jump_fits false (tail.To l) works = omega arith
jump_fits false (tail.Open instrs end) works = omega arith

module _ {old mid : Builder} {exit : ℕ} (first : Core) (rest : List Core) (before behind : Tail) (x : Made old mid exit before rest behind) where
  abbrev T : List Taken
  T = taken_of_all rest

  -- an instruction stands before
  pub made_act : (after : Tail) (slots : ℕ) (instr : Instr) → instr_slots instr ≡ slots → taken_of first ≡ instr_taken slots → CoresCompile old.blocks mid.blocks exit (first ∷ rest) before after → Works after → tail_slots after ≤ tail_slots behind + instr_slots instr + jump_needed behind → tail_size after ≤ tail_size behind + 10 →
      ((n : Things) → every-Core (CoreFits n) first → FitsInstr n instr) → ((n : Things) → FitsInstr n instr → FitsTail n behind → FitsTail n after) → Made old mid exit before (first ∷ rest) after
  made_act after slots instr is taken compiles works exact larger fit fits_on =
      let same : begins_with T ≡ opens rest = begins_opens rest in
      let jump : jump_needed behind ≤ jump_slots_by true (begins_with T) = jump_fits (begins_with T) behind (λ e. x.works (sym same ∙ e)) in
      let all_slots_are = ap (λ (u : Taken). slots_in (u ∷ T)) taken in
      let all_blocks_are = ap (λ (u : Taken). blocks_in (u ∷ T)) taken in
      let all_instrs_are = ap (λ (u : Taken). instrs_in (u ∷ T)) taken in
      record {
        compiles = compiles;
        works = λ e. works;
        slots = omega (arith, x.slots, exact, is, jump, all_slots_are);
        longer = x.longer;
        blocks = omega (arith, x.blocks, all_blocks_are);
        hidden = x.hidden;
        fits = λ n within there all fits.
            let y = x.fits n within there (All-tail (every-Core (CoreFits n)) first rest all) fits in
            (y.0, fits_on n (fit n (All-head (every-Core (CoreFits n)) first rest all)) y.1);
        size = λ size most some fits room small.
            let y = x.size size most some fits (omega (arith, room, all_instrs_are)) small in
            (y.0, omega (arith, larger, y.1, all_instrs_are));
        leads = λ there all among.
            let y = x.leads there all among in
            onward_works old.blocks mid.blocks exit before after false (quits (first ∷ rest)) y.added works;
      }

  -- a `Leave`
  pub made_quit : out-Core first ≡ Core-F.Leave → CoresCompile old.blocks mid.blocks exit (first ∷ rest) before (tail.To exit) → Made old mid exit before (first ∷ rest) (tail.To exit)
  unfolding taken_by begins_block leaves_loop
  made_quit out compiles =
      let taken = taken_out first Core-F.Leave out in
      let all_slots_are = ap (λ (u : Taken). slots_in (u ∷ T)) taken in
      let all_blocks_are = ap (λ (u : Taken). blocks_in (u ∷ T)) taken in
      let all_instrs_are = ap (λ (u : Taken). instrs_in (u ∷ T)) taken in
      let not : opens (first ∷ rest) ≡ false = ap begins_block out in
      record {
        compiles = compiles;
        works = λ e. false_true (sym not ∙ e);
        slots = omega (arith, x.slots, to_slots exit, all_slots_are);
        longer = x.longer;
        blocks = omega (arith, x.blocks, all_blocks_are);
        hidden = x.hidden;
        fits = λ n within there all fits.
            let y = x.fits n within there (All-tail (every-Core (CoreFits n)) first rest all) fits in
            (y.0, there);
        size = λ size most some fits room small.
            let y = x.size size most some fits (omega (arith, room, all_instrs_are)) small in
            (y.0, omega (arith, some, to_size exit));
        leads = λ there all among.
            let y = x.leads there all among in
            record {
              added = y.added;
              among = omega (arith, there, x.longer);
              leads = λ r lt stops. inr (ap leaves_loop out, (stops_before old.blocks mid.blocks (kept_idle old.blocks mid.blocks y.added.kept) all exit r there stops).1);
            };
      }

  module _ {new : Builder} where
    -- an end with two branches
    pub made_fork : (met unmet : List Core) (yes_block no_block slots : ℕ) (end : End) (after : Tail) → ForkMade mid new exit behind met unmet yes_block no_block → taken_of first ≡ fork_taken slots (taken_of_all met) (taken_of_all unmet) → slots ≤ 39 → end_slots end ≤ slots → IsOpen after [] end → CoresCompile old.blocks new.blocks exit (first ∷ rest) before after →
        ((n : Things) → every-Core (CoreFits n) first → AllCoresFit n met × AllCoresFit n unmet) → ((n : Things) → every-Core (CoreFits n) first → yes_block < n.blocks → no_block < n.blocks → FitsCode n [] end) → Made old new exit before (first ∷ rest) after
    made_fork met unmet yes_block no_block slots end after f taken few ends opened compiles inner fit =
        let all_slots_are = ap (λ (u : Taken). slots_in (u ∷ T)) taken in
        let all_blocks_are = ap (λ (u : Taken). blocks_in (u ∷ T)) taken in
        let all_instrs_are = ap (λ (u : Taken). instrs_in (u ∷ T)) taken in
        let works : Works after = works_open after [] end opened refl in
        record {
          compiles = compiles;
          works = λ e. works;
          slots = omega (arith, x.slots, f.slots, ends, open_slots after [] end opened, all_slots_are);
          longer = omega (arith, x.longer, f.longer);
          blocks = omega (arith, x.blocks, f.blocks, all_blocks_are);
          hidden = f.hidden ∙ x.hidden;
          fits = λ n within there all fits.
              let one = All-head (every-Core (CoreFits n)) first rest all in
              let earlier = within_before n mid new f.longer (omega (arith, f.hidden)) within in
              let y = x.fits n earlier there (All-tail (every-Core (CoreFits n)) first rest all) fits in
              let z = f.fits n within there (inner n one).0 (inner n one).1 y.1 in
              (fitted_then n y.0 z.0, open_fits n after [] end opened (fit n one z.1 z.2));
          size = λ size most some fits room small.
              let y = x.size size most some fits (omega (arith, room, all_instrs_are)) small in
              (f.small (size + 10 * instrs_in T) most (omega (arith, some)) y.1 (omega (arith, room, all_instrs_are)) y.0, omega (arith, some, few, ends, open_size after [] end opened));
          leads = λ there all among.
              let y = x.leads there all among in
              onward_works old.blocks new.blocks exit before after false (quits (first ∷ rest)) (added_then y.added (f.added (omega (arith, there, x.longer)) y.added.all_stop y.among)) works;
        }

    -- a loop
    pub made_round : (body : List Core) (head : ℕ) → out-Core first ≡ Core-F.Loop body → opens body ≡ true → RoundMade mid new behind body head → CoresCompile old.blocks new.blocks exit (first ∷ rest) before (tail.To head) → Made old new exit before (first ∷ rest) (tail.To head)
    unfolding taken_by begins_block
    made_round body head out begins r compiles =
        let taken = taken_out first (Core-F.Loop body) out in
        let all_slots_are = ap (λ (u : Taken). slots_in (u ∷ T)) taken in
        let all_blocks_are = ap (λ (u : Taken). blocks_in (u ∷ T)) taken in
        let all_instrs_are = ap (λ (u : Taken). instrs_in (u ∷ T)) taken in
        let not : opens (first ∷ rest) ≡ false = ap begins_block out in
        record {
          compiles = compiles;
          works = λ e. false_true (sym not ∙ e);
          slots = omega (arith, x.slots, r.slots, to_slots head, all_slots_are);
          longer = omega (arith, x.longer, r.longer);
          blocks = omega (arith, x.blocks, r.blocks, all_blocks_are);
          hidden = r.hidden ∙ x.hidden;
          fits = λ n within there all fits.
              let one = blocks_every (CoreFits n) first (Core-F.Loop body) (All-head (every-Core (CoreFits n)) first rest all) out in
              let earlier = within_before n mid new r.longer (omega (arith, r.hidden)) within in
              let y = x.fits n earlier there (All-tail (every-Core (CoreFits n)) first rest all) fits in
              let z = r.fits n within one.0 y.1 in
              (fitted_then n y.0 z.0, z.1);
          size = λ size most some fits room small.
              let y = x.size size most some fits (omega (arith, room, all_instrs_are)) small in
              (r.small (size + 10 * instrs_in T) most (omega (arith, some)) y.1 (omega (arith, room, all_instrs_are)) y.0, omega (arith, some, to_size head));
          leads = λ there all among.
              let y = x.leads there all among in
              let z = r.leads exit begins y.added.all_stop y.among in
              onward_as (λ e. e) (λ e. false_true e) (onward_then all there y z);
        }

-- by the kinds of statements
cell_move_slots : (to from : Cell) → instr_slots (cell_move to from) ≡ 5
cell_move_slots to (cell.Var x) = refl
cell_move_slots to (cell.Hidden k) = refl
cell_move_slots to (cell.Argument i) = refl
cell_move_slots to (cell.Num n) = refl

cell_move_works : (to from : Cell) → same_hidden to from ≡ false → puts_back (cell_move to from) ≡ false
cell_move_works to (cell.Var x) e = e
cell_move_works to (cell.Hidden k) e = e
cell_move_works to (cell.Argument i) e = e
cell_move_works to (cell.Num n) e = refl

cell_move_fits : (n : Things) (to from : Cell) → IsTarget n to → IsCell n from → FitsInstr n (cell_move to from)
cell_move_fits n to (cell.Var x) h g = (h, g)
cell_move_fits n to (cell.Hidden k) h g = (h, g)
cell_move_fits n to (cell.Argument i) h g = (h, g)
cell_move_fits n to (cell.Num v) h g = h

some_layer : (layer : Core-F Core) → 1 ≤ (let u : Taken = taken_by (map-Core Core Taken taken_of layer) in u.statements)
unfolding taken_by
some_layer (Core-F.Move to from) = omega arith
some_layer (Core-F.Add to by) = omega arith
some_layer (Core-F.Load to table offset) = omega arith
some_layer (Core-F.If wide left right met unmet) = omega arith
some_layer (Core-F.Loop body) = omega arith
some_layer Core-F.Leave = omega arith
some_layer (Core-F.Probe to table offset key hit miss) = omega arith

pub statements_some : (st : Core) → 1 ≤ (let u : Taken = taken_of st in u.statements)
statements_some st = omega (arith, ap (λ (u : Taken). u.statements) (taken_out st (out-Core st) refl), some_layer (out-Core st))

pub if_taken : (st : Core) (wide : Bool) (a b : Cell) (met unmet : List Core) → out-Core st ≡ Core-F.If wide a b met unmet → taken_of st ≡ fork_taken 30 (taken_of_all met) (taken_of_all unmet)
unfolding taken_by
if_taken st wide a b met unmet out = taken_out st _ out

pub look_taken : (st : Core) (to : Cell) (table : ℕ) (offset key : Cell) (hit miss : List Core) → out-Core st ≡ Core-F.Probe to table offset key hit miss → taken_of st ≡ fork_taken 39 (taken_of_all hit) (taken_of_all miss)
unfolding taken_by
look_taken st to table offset key hit miss out = taken_out st _ out

pub loop_taken : (st : Core) (body : List Core) → out-Core st ≡ Core-F.Loop body → taken_of st ≡ round_taken (taken_of_all body)
unfolding taken_by
loop_taken st body out = taken_out st _ out

pub loop_opens : (st : Core) (body : List Core) → out-Core st ≡ Core-F.Loop body → every-Core IsPlainCore st → opens body ≡ true
unfolding IsPlainCore
loop_opens st body out plain = layer_every IsPlainCore st (Core-F.Loop body) plain out

module _ {old mid : Builder} {exit : ℕ} (first : Core) (rest : List Core) (before behind : Tail) (x : Made old mid exit before rest behind) (plain : every-Core IsPlainCore first) where
  module _ (after : Tail) (instr : Instr) (works : (puts_back instr ≡ false) → Works after) (continues : Continues instr behind after) (exact : tail_slots after ≤ tail_slots behind + instr_slots instr + jump_needed behind) (larger : tail_size after ≤ tail_size behind + 10)
      (fits_on : (n : Things) → FitsInstr n instr → FitsTail n behind → FitsTail n after) where
    pub made_move : (to from : Cell) → out-Core first ≡ Core-F.Move to from → instr ≡ cell_move to from → Made old mid exit before (first ∷ rest) after
    unfolding IsPlainCore CoreFits taken_by
    made_move to from out is =
        let p = layer_every IsPlainCore first (Core-F.Move to from) plain out in
        made_act first rest before behind x after 5 instr (ap instr_slots is ∙ cell_move_slots to from) (taken_out first (Core-F.Move to from) out)
        (cores_move exit first rest before behind after x.compiles to from out p.0 x.works (subst (λ (i : Instr). Continues i behind after) is continues))
        (works (ap puts_back is ∙ cell_move_works to from p.1)) exact larger
        (λ n fit. let f = layer_every (CoreFits n) first (Core-F.Move to from) fit out in subst (FitsInstr n) (sym is) (cell_move_fits n to from f.0 f.1)) fits_on

    pub made_add : (to by : Cell) → out-Core first ≡ Core-F.Add to by → instr ≡ Add to by → Made old mid exit before (first ∷ rest) after
    unfolding IsPlainCore CoreFits taken_by
    made_add to by out is =
        let p = layer_every IsPlainCore first (Core-F.Add to by) plain out in
        made_act first rest before behind x after (add_slots by) instr (ap instr_slots is) (taken_out first (Core-F.Add to by) out)
        (cores_add exit first rest before behind after x.compiles to by out p x.works (subst (λ (i : Instr). Continues i behind after) is continues))
        (works (ap puts_back is)) exact larger
        (λ n fit. let f = layer_every (CoreFits n) first (Core-F.Add to by) fit out in subst (FitsInstr n) (sym is) f) fits_on

    pub made_load : (to offset : Cell) (table : ℕ) → out-Core first ≡ Core-F.Load to table offset → instr ≡ Load to table offset → Made old mid exit before (first ∷ rest) after
    unfolding IsPlainCore CoreFits taken_by
    made_load to offset table out is =
        let p = layer_every IsPlainCore first (Core-F.Load to table offset) plain out in
        made_act first rest before behind x after 10 instr (ap instr_slots is) (taken_out first (Core-F.Load to table offset) out)
        (cores_load exit first rest before behind after x.compiles to offset table out p x.works (subst (λ (i : Instr). Continues i behind after) is continues))
        (works (ap puts_back is)) exact larger
        (λ n fit. let f = layer_every (CoreFits n) first (Core-F.Load to table offset) fit out in subst (FitsInstr n) (sym is) f) fits_on

  pub made_leave : out-Core first ≡ Core-F.Leave → Made old mid exit before (first ∷ rest) (tail.To exit)
  made_leave out = made_quit first rest before behind x out (cores_quit exit first rest before behind (tail.To exit) x.compiles out)

  test_end_fits : (n : Things) (wide : Bool) (a b : Cell) (l r : ℕ) → IsCell n a → IsCell n b → l < n.blocks → r < n.blocks → FitsCode n [] (test_end wide a b l r)
  test_end_fits n true a b l r ha hb hl hr = record { instrs_fit = All-nil (FitsInstr n); end_fits = (ha, hb, hl, hr); full = tt }
  test_end_fits n false a b l r ha hb hl hr = record { instrs_fit = All-nil (FitsInstr n); end_fits = (ha, hb, hl, hr); full = tt }

  module _ {new : Builder} where
    pub made_if : (wide : Bool) (a b : Cell) (met unmet : List Core) (yes_block no_block : ℕ) (after : Tail) → out-Core first ≡ Core-F.If wide a b met unmet → ForkMade mid new exit behind met unmet yes_block no_block → IsOpen after [] (test_end wide a b yes_block no_block) → Made old new exit before (first ∷ rest) after
    unfolding CoreFits
    made_if wide a b met unmet yes_block no_block after out f opened =
        made_fork first rest before behind x met unmet yes_block no_block 30 (test_end wide a b yes_block no_block) after f (if_taken first wide a b met unmet out) (omega arith) (test_slots wide a b yes_block no_block) opened
        (cores_choose exit first rest before behind after x.compiles wide a b met unmet yes_block no_block out opened f.forks)
        (λ n fit. blocks_every (CoreFits n) first (Core-F.If wide a b met unmet) fit out)
        (λ n fit yes no. let g = layer_every (CoreFits n) first (Core-F.If wide a b met unmet) fit out in test_end_fits n wide a b yes_block no_block g.0 g.1 yes no)

    pub made_look : (to : Cell) (table : ℕ) (offset key : Cell) (hit miss : List Core) (yes_block no_block : ℕ) (after : Tail) → out-Core first ≡ Core-F.Probe to table offset key hit miss → ForkMade mid new exit behind hit miss yes_block no_block → IsOpen after [] (Probe to table offset key yes_block no_block) → Made old new exit before (first ∷ rest) after
    unfolding CoreFits IsPlainCore
    made_look to table offset key hit miss yes_block no_block after out f opened =
        let p = layer_every IsPlainCore first (Core-F.Probe to table offset key hit miss) plain out in
        made_fork first rest before behind x hit miss yes_block no_block 39 (Probe to table offset key yes_block no_block) after f (look_taken first to table offset key hit miss out) (omega arith) (omega arith) opened
        (cores_look exit first rest before behind after x.compiles to table offset key hit miss yes_block no_block out p opened f.forks)
        (λ n fit. blocks_every (CoreFits n) first (Core-F.Probe to table offset key hit miss) fit out)
        (λ n fit yes no. let g = layer_every (CoreFits n) first (Core-F.Probe to table offset key hit miss) fit out in record { instrs_fit = All-nil (FitsInstr n); end_fits = (g.0, g.1, g.2, g.3, yes, no); full = tt })

    pub made_loop : (body : List Core) (head : ℕ) → out-Core first ≡ Core-F.Loop body → RoundMade mid new behind body head → Made old new exit before (first ∷ rest) (tail.To head)
    made_loop body head out r =
        made_round first rest before behind x body head out (loop_opens first body out plain) r
        (cores_round exit first rest before behind (tail.To head) x.compiles body r.out_block head r.spare r.begin out r.is_reserved r.at r.labels r.compiles r.works r.bound)
