-- What the core statements of searches take.
use Rattle.std.proofs.Common.{◌≡◌, ℕ, zero, suc, ◌-◌, ◌*◌, ◌<◌, ◌≤◌, Bool, true, false, List, [], ◌∷◌, map, refl, sym, ap, ◌∙◌, subst, arith}
use Rattle.std.specs.List.{All}
use Rattle.redn_kernel.specs.declared.types.Word.{Word}
use Rattle.redn_kernel.specs.declared.types.Word.TheVariants.{Var, Num}
use Rattle.redn_kernel.specs.declared.types.Cell.{Cell}
use Rattle.redn_kernel.specs.declared.types.Cell.TheVariants as cell
use Rattle.redn_kernel.specs.declared.types.Kernel.TheVariants as k
use Rattle.redn_kernel.specs.declared.types.Core.{Core, out-Core, map-Core, every-Core, every_made-Core, roll-Core, roll-out-Core}
use Rattle.redn_kernel.specs.declared.types.Core.TheOpen.{Core-F}
use Rattle.redn_kernel.specs.declared.types.Core.TheVariants as core
use Rattle.redn_kernel.specs.CoreRun.{cell_of}
use Rattle.redn_kernel.specs.Composes.{Composes, begins_block, opens}
use Rattle.redn_kernel.proofs.Cases.{weight_of_lookup, weight_of_walk}
use Rattle.redn_lookup.specs.Lookup as lookup
use Rattle.redn_walk.specs.Walk as walk
use Rattle.redn_graph.specs.Idle.{same_hidden}
use Rattle.redn_graph.specs.Cores.{IsPlainCore}
use Rattle.redn_graph.specs.CoreSizes.{Taken, slots_in, blocks_in, instrs_in, instr_taken, fork_taken, round_taken, taken_by, taken_of, taken_of_all, CoreFits, IsSearch}
use Rattle.redn_graph.proofs.Fits.{lookup_fits, walk_fits}
use Rattle.redn_graph.proofs.CoreMade.{Held, held_all, taken_out, if_taken, look_taken, loop_taken}

word_other : (j : ℕ) (w : Word) → same_hidden (cell.Hidden j) (cell_of w) ≡ false
word_other j (Var x) = refl
word_other j (Num n) = refl

add_taken : (to : Cell) (n : ℕ) → taken_of (core.Add to (cell.Num n)) ≡ instr_taken 5
unfolding taken_by
add_taken to n = taken_out _ _ (core.outs-Add to (cell.Num n))

move_taken : (to from : Cell) → taken_of (core.Move to from) ≡ instr_taken 5
unfolding taken_by
move_taken to from = taken_out _ _ (core.outs-Move to from)

load_taken : (to offset : Cell) (table : ℕ) → taken_of (core.Load to table offset) ≡ instr_taken 10
unfolding taken_by
load_taken to offset table = taken_out _ _ (core.outs-Load to table offset)

abbrev quit : Taken
quit = record { slots = 0; blocks = 0; instrs = 0; statements = 1; acts = false; begins = false }

leave_taken : taken_of core.Leave ≡ quit
unfolding taken_by
leave_taken = taken_out _ _ core.outs-Leave

-- two statements
two_taken : (a b : Core) (u v : Taken) → taken_of a ≡ u → taken_of b ≡ v → taken_of_all (a ∷ b ∷ []) ≡ u ∷ v ∷ []
two_taken a b u v e f = ap (λ (x : Taken). x ∷ taken_of b ∷ []) e ∙ ap (λ (y : Taken). u ∷ y ∷ []) f

three_taken : (a b c : Core) (u v w : Taken) → taken_of a ≡ u → taken_of b ≡ v → taken_of c ≡ w → taken_of_all (a ∷ b ∷ c ∷ []) ≡ u ∷ v ∷ w ∷ []
three_taken a b c u v w e f g = ap (λ (x : Taken). x ∷ taken_of b ∷ taken_of c ∷ []) e ∙ ap (λ (xs : List Taken). u ∷ xs) (two_taken b c v w f g)

-- what holds of each layer holds of each statement
module _ (Q : Core-F Core → Type 0) where
  every_of : (st : Core) (layer : Core-F Core) (held : Core-F (Held Q)) → out-Core st ≡ layer → map-Core (Held Q) Core (λ e. e.0) held ≡ layer → Q layer → every-Core Q st
  every_of st layer held e is q = subst (every-Core Q) (ap roll-Core (sym e) ∙ roll-out-Core st) (every_made-Core Q layer held is q)

  module _ (x table : ℕ) (offset key : Word) where
    abbrev bucket : ℕ → Core
    bucket i = lookup.bucket_of x table (cell_of key) (lookup.misses_of x table (cell_of key) i)

    module _ (begins : Q (Core-F.Move (cell.Hidden 0) (cell_of offset))) (raises : Q (Core-F.Add (cell.Hidden 0) (cell.Num 16))) (looks : (hit miss : List Core) → Q (Core-F.Probe (cell.Var x) table (cell.Hidden 0) (cell_of key) hit miss)) where
      pub record Misses (i : ℕ) : Type 0 where
        pub held : List (Held Q)
        pub are : map (λ (e : Held Q). e.0) held ≡ lookup.misses_of x table (cell_of key) i

      bucket_every : (i : ℕ) → Misses i → every-Core Q (bucket i)
      bucket_every i m =
          every_of (bucket i) _ (Core-F.Probe (cell.Var x) table (cell.Hidden 0) (cell_of key) [] m.held) (core.outs-Probe _ _ _ _ _ _)
          (ap (Core-F.Probe (cell.Var x) table (cell.Hidden 0) (cell_of key) []) m.are) (looks [] (lookup.misses_of x table (cell_of key) i))

      misses_every : (i : ℕ) → Misses i
      misses_every zero = record { held = []; are = refl }
      misses_every (suc i) = record {
        held = (core.Add (cell.Hidden 0) (cell.Num 16), every_of _ _ (Core-F.Add (cell.Hidden 0) (cell.Num 16)) (core.outs-Add _ _) refl raises) ∷ (bucket i, bucket_every i (misses_every i)) ∷ [];
        are = refl;
      }

      pub lookup_every : (more : ℕ) → All (every-Core Q) (lookup.cores_of x table offset key more)
      lookup_every more = held_all Q ((core.Move (cell.Hidden 0) (cell_of offset), every_of _ _ (Core-F.Move (cell.Hidden 0) (cell_of offset)) (core.outs-Move _ _) refl begins) ∷ (bucket more, bucket_every more (misses_every more)) ∷ [])

    module _ (n : ℕ) (begins : Q (Core-F.Move (cell.Hidden 0) (cell_of offset))) (clears : Q (Core-F.Move (cell.Hidden 1) (cell.Num 0))) (rounds : Q (Core-F.Loop (walk.body_of x table key n)))
        (looks : (hit miss : List Core) → Q (Core-F.Probe (cell.Var x) table (cell.Hidden 0) (cell_of key) hit miss)) (leaves : Q Core-F.Leave) (adds : (j v : ℕ) → j < 2 → Q (Core-F.Add (cell.Hidden j) (cell.Num v)))
        (tests : (wide : Bool) (j v : ℕ) (met unmet : List Core) → j < 2 → Q (Core-F.If wide (cell.Hidden j) (cell.Num v) met unmet)) (loads : Q (Core-F.Load (cell.Hidden 0) table (cell.Hidden 0))) where
      abbrev leave : List (Held Q)
      leave = (core.Leave, every_of core.Leave Core-F.Leave Core-F.Leave core.outs-Leave refl leaves) ∷ []

      turn_every : every-Core Q walk.turn_of
      turn_every = every_of walk.turn_of _ (Core-F.If true (cell.Hidden 0) (cell.Num 0) leave []) (core.outs-If _ _ _ _ _) refl (tests true 0 0 walk.leave_of [] (omega arith))

      add_every : (j v : ℕ) → j < 2 → every-Core Q (core.Add (cell.Hidden j) (cell.Num v))
      add_every j v lt = every_of _ _ (Core-F.Add (cell.Hidden j) (cell.Num v)) (core.outs-Add _ _) refl (adds j v lt)

      load_every : every-Core Q (core.Load (cell.Hidden 0) table (cell.Hidden 0))
      load_every = every_of _ _ (Core-F.Load (cell.Hidden 0) table (cell.Hidden 0)) (core.outs-Load _ _ _) refl loads

      abbrev step : List (Held Q)
      step = (core.Add (cell.Hidden 0) (cell.Num 16), add_every 0 16 (omega arith)) ∷ (core.Load (cell.Hidden 0) table (cell.Hidden 0), load_every) ∷ (walk.turn_of, turn_every) ∷ []

      abbrev test : Core
      test = core.If false (cell.Hidden 1) (cell.Num n) walk.leave_of (walk.step_of table)

      test_every : every-Core Q test
      test_every = every_of test _ (Core-F.If false (cell.Hidden 1) (cell.Num n) leave step) (core.outs-If _ _ _ _ _) refl (tests false 1 n walk.leave_of (walk.step_of table) (omega arith))

      abbrev miss : List (Held Q)
      miss = (core.Add (cell.Hidden 1) (cell.Num 1), add_every 1 1 (omega arith)) ∷ (test, test_every) ∷ []

      abbrev look : Core
      look = core.Probe (cell.Var x) table (cell.Hidden 0) (cell_of key) walk.leave_of (walk.miss_of table n)

      look_every : every-Core Q look
      look_every = every_of look _ (Core-F.Probe (cell.Var x) table (cell.Hidden 0) (cell_of key) leave miss) (core.outs-Probe _ _ _ _ _ _) refl (looks walk.leave_of (walk.miss_of table n))

      loop_every : every-Core Q (core.Loop (walk.body_of x table key n))
      loop_every = every_of _ _ (Core-F.Loop ((look, look_every) ∷ [])) (core.outs-Loop _) refl rounds

      pub walk_every : All (every-Core Q) (walk.cores_of x table offset key n)
      walk_every = held_all Q (
          (core.Move (cell.Hidden 0) (cell_of offset), every_of _ _ (Core-F.Move (cell.Hidden 0) (cell_of offset)) (core.outs-Move _ _) refl begins)
          ∷ (core.Move (cell.Hidden 1) (cell.Num 0), every_of _ _ (Core-F.Move (cell.Hidden 1) (cell.Num 0)) (core.outs-Move _ _) refl clears)
          ∷ (core.Loop (walk.body_of x table key n), loop_every)
          ∷ []
          )

-- of a lookup
module _ (x table : ℕ) (offset key : Word) where
  abbrev looked : ℕ → Core
  looked i = lookup.bucket_of x table (cell_of key) (lookup.misses_of x table (cell_of key) i)

  abbrev missed : ℕ → List Taken
  missed i = taken_of_all (lookup.misses_of x table (cell_of key) i)

  bucket_taken : (i : ℕ) → taken_of (looked i) ≡ fork_taken 39 [] (missed i)
  bucket_taken i = look_taken (looked i) (cell.Var x) table (cell.Hidden 0) (cell_of key) [] (lookup.misses_of x table (cell_of key) i) (core.outs-Probe _ _ _ _ _ _)

  pub record Takes (taken : List Taken) (n : ℕ) : Type 0 where
    pub slots : slots_in taken ≡ 44 * n
    pub blocks : blocks_in taken ≡ 3 * n
    pub instrs : instrs_in taken ≡ n

  before_bucket : (first : Core) (i : ℕ) → taken_of first ≡ instr_taken 5 → Takes (missed i) i → Takes (taken_of_all (first ∷ looked i ∷ [])) (suc i)
  before_bucket first i e t =
      let both = two_taken first (looked i) (instr_taken 5) (fork_taken 39 [] (missed i)) e (bucket_taken i) in
      record {
        slots = omega (arith, ap slots_in both, t.slots);
        blocks = omega (arith, ap blocks_in both, t.blocks);
        instrs = omega (arith, ap instrs_in both, t.instrs);
      }

  misses_take : (i : ℕ) → Takes (missed i) i
  misses_take zero = record { slots = omega arith; blocks = omega arith; instrs = omega arith }
  misses_take (suc i) = before_bucket (core.Add (cell.Hidden 0) (cell.Num 16)) i (add_taken (cell.Hidden 0) 16) (misses_take i)

  pub lookup_search : (n : ℕ) (cores : List Core) → 1 ≤ n → n ≤ 4 → Composes (k.Lookup x table offset key n) cores → cores ≡ lookup.cores_of x table offset key (n - 1) → IsSearch (k.Lookup x table offset key n) cores
  unfolding IsPlainCore CoreFits
  lookup_search n cores some few composes are =
      let takes = before_bucket (core.Move (cell.Hidden 0) (cell_of offset)) (n - 1) (move_taken (cell.Hidden 0) (cell_of offset)) (misses_take (n - 1)) in
      let whole = weight_of_lookup x table offset key n in
      let same = ap taken_of_all are in
      record {
        composes = composes;
        plain = subst (All (every-Core IsPlainCore)) (sym are) (lookup_every IsPlainCore x table offset key (omega arith, word_other 0 offset) (omega arith) (λ hit miss. tt) (n - 1));
        fits = λ t hidden well.
            let f = lookup_fits t (k.Lookup x table offset key n) x table offset key n refl well in
            let at : 0 < t.hidden = omega (arith, hidden) in
            subst (All (every-Core (CoreFits t))) (sym are) (lookup_every (CoreFits t) x table offset key (at, f.2) (at, tt) (λ hit miss. (f.0, f.1, at, f.3)) (n - 1));
        slots = omega (arith, whole, some, few, takes.slots, ap slots_in same);
        blocks = omega (arith, whole, some, few, takes.blocks, ap blocks_in same);
        instrs = omega (arith, whole, some, few, takes.instrs, ap instrs_in same);
      }

-- of a walk
module _ (x table : ℕ) (offset key : Word) (n : ℕ) where
  abbrev turns : Taken
  turns = fork_taken 30 (quit ∷ []) []

  abbrev steps : List Taken
  steps = instr_taken 5 ∷ instr_taken 10 ∷ turns ∷ []

  abbrev tests : Taken
  tests = fork_taken 30 (quit ∷ []) steps

  abbrev misses : List Taken
  misses = instr_taken 5 ∷ tests ∷ []

  abbrev visits : Taken
  visits = fork_taken 39 (quit ∷ []) misses

  leaves_taken : taken_of_all walk.leave_of ≡ quit ∷ []
  leaves_taken = ap (λ (u : Taken). u ∷ []) leave_taken

  turn_taken : taken_of walk.turn_of ≡ turns
  turn_taken = if_taken walk.turn_of true (cell.Hidden 0) (cell.Num 0) walk.leave_of [] (core.outs-If _ _ _ _ _) ∙ ap (λ (us : List Taken). fork_taken 30 us []) leaves_taken

  step_taken : taken_of_all (walk.step_of table) ≡ steps
  step_taken = three_taken _ _ _ (instr_taken 5) (instr_taken 10) turns (add_taken (cell.Hidden 0) 16) (load_taken (cell.Hidden 0) (cell.Hidden 0) table) turn_taken

  abbrev last : Core
  last = core.If false (cell.Hidden 1) (cell.Num n) walk.leave_of (walk.step_of table)

  test_taken : taken_of last ≡ tests
  test_taken = if_taken last false (cell.Hidden 1) (cell.Num n) walk.leave_of (walk.step_of table) (core.outs-If _ _ _ _ _) ∙ ap (λ (us : List Taken). fork_taken 30 us (taken_of_all (walk.step_of table))) leaves_taken ∙ ap (fork_taken 30 (quit ∷ [])) step_taken

  miss_taken : taken_of_all (walk.miss_of table n) ≡ misses
  miss_taken = two_taken _ last (instr_taken 5) tests (add_taken (cell.Hidden 1) 1) test_taken

  abbrev node : Core
  node = core.Probe (cell.Var x) table (cell.Hidden 0) (cell_of key) walk.leave_of (walk.miss_of table n)

  visit_taken : taken_of node ≡ visits
  visit_taken = look_taken node (cell.Var x) table (cell.Hidden 0) (cell_of key) walk.leave_of (walk.miss_of table n) (core.outs-Probe _ _ _ _ _ _) ∙ ap (λ (us : List Taken). fork_taken 39 us (taken_of_all (walk.miss_of table n))) leaves_taken ∙ ap (fork_taken 39 (quit ∷ [])) miss_taken

  round_is : taken_of (core.Loop (walk.body_of x table key n)) ≡ round_taken (visits ∷ [])
  round_is = loop_taken _ (walk.body_of x table key n) (core.outs-Loop _) ∙ ap (λ (u : Taken). round_taken (u ∷ [])) visit_taken

  all_taken : taken_of_all (walk.cores_of x table offset key n) ≡ instr_taken 5 ∷ instr_taken 5 ∷ round_taken (visits ∷ []) ∷ []
  all_taken = three_taken _ _ _ (instr_taken 5) (instr_taken 5) (round_taken (visits ∷ [])) (move_taken (cell.Hidden 0) (cell_of offset)) (move_taken (cell.Hidden 1) (cell.Num 0)) round_is

  body_opens : opens (walk.body_of x table key n) ≡ true
  unfolding begins_block
  body_opens = ap begins_block (core.outs-Probe (cell.Var x) table (cell.Hidden 0) (cell_of key) walk.leave_of (walk.miss_of table n))

  pub walk_search : (cores : List Core) → Composes (k.Walk x table offset key n) cores → cores ≡ walk.cores_of x table offset key n → IsSearch (k.Walk x table offset key n) cores
  unfolding IsPlainCore CoreFits
  walk_search cores composes are =
      let whole = weight_of_walk x table offset key n in
      let same = ap taken_of_all are ∙ all_taken in
      record {
        composes = composes;
        plain = subst (All (every-Core IsPlainCore)) (sym are) (walk_every IsPlainCore x table offset key n (omega arith, word_other 0 offset) (omega arith, refl) body_opens (λ hit miss. tt) tt (λ j v lt. lt) (λ wide j v met unmet lt. tt) (omega arith));
        fits = λ t hidden well.
            let f = walk_fits t (k.Walk x table offset key n) x table offset key n refl well in
            let at : 0 < t.hidden = omega (arith, hidden) in
            let counts_there : 1 < t.hidden = omega (arith, hidden) in
            subst (All (every-Core (CoreFits t))) (sym are)
            (walk_every (CoreFits t) x table offset key n (at, f.2) (counts_there, tt) tt (λ hit miss. (f.0, f.1, at, f.3)) tt (λ j v lt. (omega (arith, hidden, lt), tt)) (λ wide j v met unmet lt. (omega (arith, hidden, lt), tt)) (at, f.1, at));
        slots = omega (arith, whole, ap slots_in same);
        blocks = omega (arith, whole, ap blocks_in same);
        instrs = omega (arith, whole, ap instrs_in same);
      }
