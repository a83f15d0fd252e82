-- Blocks that fit, and statements whose code does.
use Rattle.std.proofs.Common.{◌≡◌, ◌≢◌, ℕ, ◌<◌, ◌≤◌, Bool, true, false, List, [], ◌∷◌, ◌++◌, length, reverse, map, Some, inl, inr, refl, sym, ap, ◌∙◌, subst, arith, get_or, length-append}
use Rattle.std.proofs.lemmas.List.{length-map, reverse-append, length-reverse}
use Rattle.std.specs.List.{All}
use Rattle.std.specs.Prelude.{slice_get}
use Rattle.std.proofs.lemmas.Bool.{cases_lt}
use Rattle.std.proofs.lemmas.List.Elements.{All-cons, All-nil, All-head, All-tail, All-append}
use Rattle.std.proofs.lemmas.Option.{slice_get-get_or}
use Rattle.std.proofs.Math.Nat.{eq-or-lt_of_le}
use Rattle.redn_kernel.specs.declared.types.Word.{Word}
use Rattle.redn_kernel.specs.declared.types.Word.TheVariants.{Var, Num}
use Rattle.redn_kernel.specs.declared.types.Kernel.{Kernel, out-Kernel, map-Kernel, every-Kernel, every_here-Kernel, every_held-Kernel}
use Rattle.redn_kernel.specs.declared.types.Kernel.TheVariants as k
use Rattle.redn_kernel.specs.declared.types.Kernel.TheOpen.{Kernel-F}
use Rattle.redn_kernel.specs.Program.{IsNamed, is_writable, IsSoundStatement}
use Rattle.redn_graph.specs.declared.types.Instr.{Instr}
use Rattle.redn_graph.specs.declared.types.End.{End}
use Rattle.redn_graph.specs.declared.types.End.TheVariants.{Jump, Test48, Test64, Probe, Reply}
use Rattle.redn_graph.specs.declared.build.Builder.{Builder}
use Rattle.redn_graph.specs.declared.build.Tail.{Tail}
use Rattle.redn_graph.specs.declared.build.Tail.TheVariants as tail
use Rattle.redn_graph.specs.Code.{IsOpen}
use Rattle.redn_graph.specs.declared.types.Block.{Block}
use Rattle.redn_kernel.specs.CoreRun.{cell_of}
use Rattle.redn_graph.specs.Words.{move_of, test_end}
use Rattle.redn_graph.specs.Fits.{Things, IsCell, FitsInstr, FitsEnd, IsFull, FitsCode, FitsBlock, FitsTail, Fitted, IsWithin, IsWell, AllWell}
use Rattle.redn_graph.proofs.Indexes.{slice_get_append_left, slice_get_append_at}

pub fitted_none : (n : Things) (blocks : List Block) → Fitted n blocks blocks
fitted_none n blocks = record { longer = omega arith; kept = λ l h. refl; added = λ l b low high is. absurd (omega arith) }

pub fitted_then : (n : Things) {a b c : List Block} → Fitted n a b → Fitted n b c → Fitted n a c
fitted_then n {b = mid} x y = record {
  longer = omega (arith, x.longer, y.longer);
  kept = λ l h. let lt : l < length mid = omega (arith, x.longer, h) in y.kept l lt ∙ x.kept l h;
  added = λ l b low high is. elim (cases_lt l (length mid)) [ inl lt ↦ x.added l b low lt (sym (y.kept l lt) ∙ is) | inr ge ↦ y.added l b ge high is ];
}

-- a block is reserved, others are added, and it is bound to one that fits
pub fitted_bound : (n : Things) {old last bound : List Block} (spare : Block) (head : ℕ) → head ≡ length old → Fitted n (old ++ spare ∷ []) last → length bound ≡ length last → ((l : ℕ) → l ≢ head → slice_get bound l ≡ slice_get last l) → ((b : Block) → slice_get bound head ≡ Some b → FitsBlock n b) → Fitted n old bound
fitted_bound n {old = old} {last = last} {bound = bound} spare head at x same others here =
    let more = length-append old (spare ∷ []) in
    record {
      longer = omega (arith, x.longer);
      kept = λ l h.
          let other : l ≢ head = omega arith in
          let low : l < length (old ++ spare ∷ []) = omega (arith, more, h) in
          others l other ∙ x.kept l low ∙ slice_get_append_left old (spare ∷ []) l h;
      added = λ l b low high is. elim (eq-or-lt_of_le low) [
        | inl e ↦ here b (ap (slice_get bound) (at ∙ e) ∙ is)
        | inr lt ↦
            let other : l ≢ head = omega arith in
            let behind : length (old ++ spare ∷ []) ≤ l = omega (arith, more) in
            let within : l < length last = omega (arith, same, high) in
            x.added l b behind within (sym (others l other) ∙ is)
      ];
    }

-- the statements of a statement's two blocks
abbrev blocks : {X : Type 0} → Kernel-F X → List X × List X
blocks (Kernel-F.If wide a b met unmet) = (met, unmet)
blocks (Kernel-F.Loop body) = (body, [])
blocks (Kernel-F.Repeat count body) = (body, [])
blocks _ = ([], [])

blocks_map : {X Y : Type 0} (f : X → Y) (l : Kernel-F X) → ((blocks (map-Kernel X Y f l)).0 ≡ map f (blocks l).0) × ((blocks (map-Kernel X Y f l)).1 ≡ map f (blocks l).1)
blocks_map f (Kernel-F.Move x a) = (refl, refl)
blocks_map f (Kernel-F.Add x a) = (refl, refl)
blocks_map f (Kernel-F.Load x table a) = (refl, refl)
blocks_map f (Kernel-F.Store table a b) = (refl, refl)
blocks_map f (Kernel-F.If wide a b met unmet) = (refl, refl)
blocks_map f (Kernel-F.Loop body) = (refl, refl)
blocks_map f (Kernel-F.Repeat count body) = (refl, refl)
blocks_map f Kernel-F.Break = (refl, refl)
blocks_map f (Kernel-F.Lookup x table a key count) = (refl, refl)
blocks_map f (Kernel-F.Walk x table a key count) = (refl, refl)
blocks_map f (Kernel-F.Reply words) = (refl, refl)

module _ (Q : Kernel-F Kernel → Type 0) where
  abbrev Held : Type 0
  Held = (st : Kernel) × every-Kernel Q st

  held_all : (list : List Held) → All (every-Kernel Q) (map (λ e. e.0) list)
  held_all [] = All-nil (every-Kernel Q)
  held_all (e ∷ rest) = All-cons (every-Kernel Q) e.0 (map (λ d. d.0) rest) e.1 (held_all rest)

  pub blocks_well : (st : Kernel) (layer : Kernel-F Kernel) → every-Kernel Q st → out-Kernel st ≡ layer → All (every-Kernel Q) (blocks layer).0 × All (every-Kernel Q) (blocks layer).1
  blocks_well st layer well e =
      let held = every_held-Kernel Q st well in
      let is : map-Kernel Held Kernel (λ d. d.0) held.0 ≡ layer = held.1 ∙ e in
      let map_is = blocks_map {X = Held} (λ d. d.0) held.0 in
      let P : List Kernel → Type 0 = All (every-Kernel Q) in
      (subst P (sym map_is.0 ∙ ap (λ l. (blocks l).0) is) (held_all (blocks held.0).0), subst P (sym map_is.1 ∙ ap (λ l. (blocks l).1) is) (held_all (blocks held.0).1))

move_named_in : (n : Things) (x : ℕ) (a : Word) → (x < n.vars) × IsNamed n.vars a → FitsInstr n (move_of x a)
move_named_in n x (Var y) h = (h.0, h.1)
move_named_in n x (Num v) h = h.0

-- statements of a sound chain
module _ (n : Things) where
  pub named_cell : (w : Word) → IsNamed n.vars w → IsCell n (cell_of w)
  named_cell (Var x) h = h
  named_cell (Num v) h = tt

  pub named_cells : (list : List Word) → All (IsNamed n.vars) list → All (IsCell n) (map cell_of list)
  named_cells [] h = All-nil (IsCell n)
  named_cells (w ∷ rest) h = All-cons (IsCell n) (cell_of w) (map cell_of rest) (named_cell w (All-head (IsNamed n.vars) w rest h)) (named_cells rest (All-tail (IsNamed n.vars) w rest h))

  pub well_layer : (st : Kernel) (layer : Kernel-F Kernel) → IsWell n st → out-Kernel st ≡ layer → IsSoundStatement n.tables n.vars layer
  well_layer st layer well e = subst (IsSoundStatement n.tables n.vars) e (every_here-Kernel (IsSoundStatement n.tables n.vars) st well)

  pub move_fits : (st : Kernel) (x : ℕ) (a : Word) → st ≡ k.Move x a → IsWell n st → FitsInstr n (move_of x a)
  unfolding IsSoundStatement
  move_fits st x a is well = move_named_in n x a (well_layer st (Kernel-F.Move x a) well (ap out-Kernel is ∙ k.outs-Move x a))

  pub add_fits : (st : Kernel) (x : ℕ) (a : Word) → st ≡ k.Add x a → IsWell n st → (x < n.vars) × IsCell n (cell_of a)
  unfolding IsSoundStatement
  add_fits st x a is well = let h = well_layer st (Kernel-F.Add x a) well (ap out-Kernel is ∙ k.outs-Add x a) in (h.0, named_cell a h.1)

  pub load_fits : (st : Kernel) (x table : ℕ) (a : Word) → st ≡ k.Load x table a → IsWell n st → (x < n.vars) × (table < length n.tables) × IsCell n (cell_of a)
  unfolding IsSoundStatement
  load_fits st x table a is well = let h = well_layer st (Kernel-F.Load x table a) well (ap out-Kernel is ∙ k.outs-Load x table a) in (h.0, h.1, named_cell a h.2)

  pub store_fits : (st : Kernel) (table : ℕ) (a b : Word) → st ≡ k.Store table a b → IsWell n st → (is_writable (slice_get n.tables table) ≡ true) × IsCell n (cell_of a) × IsCell n (cell_of b)
  unfolding IsSoundStatement
  store_fits st table a b is well = let h = well_layer st (Kernel-F.Store table a b) well (ap out-Kernel is ∙ k.outs-Store table a b) in (h.0, named_cell a h.1, named_cell b h.2)

  pub if_fits : (st : Kernel) (wide : Bool) (a b : Word) (met unmet : List Kernel) → st ≡ k.If wide a b met unmet → IsWell n st → IsCell n (cell_of a) × IsCell n (cell_of b) × AllWell n met × AllWell n unmet
  unfolding IsSoundStatement
  if_fits st wide a b met unmet is well =
      let out = ap out-Kernel is ∙ k.outs-If wide a b met unmet in
      let h = well_layer st (Kernel-F.If wide a b met unmet) well out in
      let inner = blocks_well (IsSoundStatement n.tables n.vars) st _ well out in
      (named_cell a h.0, named_cell b h.1, inner.0, inner.1)

  pub loop_fits : (st : Kernel) (body : List Kernel) → st ≡ k.Loop body → IsWell n st → AllWell n body
  loop_fits st body is well = (blocks_well (IsSoundStatement n.tables n.vars) st (Kernel-F.Loop body) well (ap out-Kernel is ∙ k.outs-Loop body)).0

  pub repeat_fits : (st : Kernel) (count : ℕ) (body : List Kernel) → st ≡ k.Repeat count body → IsWell n st → AllWell n body
  repeat_fits st count body is well = (blocks_well (IsSoundStatement n.tables n.vars) st (Kernel-F.Repeat count body) well (ap out-Kernel is ∙ k.outs-Repeat count body)).0

  pub lookup_fits : (st : Kernel) (x table : ℕ) (a key : Word) (count : ℕ) → st ≡ k.Lookup x table a key count → IsWell n st → (x < n.vars) × (table < length n.tables) × IsCell n (cell_of a) × IsCell n (cell_of key)
  unfolding IsSoundStatement
  lookup_fits st x table a key count is well = let h = (well_layer st (Kernel-F.Lookup x table a key count) well (ap out-Kernel is ∙ k.outs-Lookup x table a key count)).0 in (h.0, h.1, named_cell a h.2, named_cell key h.3)

  pub walk_fits : (st : Kernel) (x table : ℕ) (a key : Word) (count : ℕ) → st ≡ k.Walk x table a key count → IsWell n st → (x < n.vars) × (table < length n.tables) × IsCell n (cell_of a) × IsCell n (cell_of key)
  unfolding IsSoundStatement
  walk_fits st x table a key count is well = let h = (well_layer st (Kernel-F.Walk x table a key count) well (ap out-Kernel is ∙ k.outs-Walk x table a key count)).0 in (h.0, h.1, named_cell a h.2, named_cell key h.3)

  pub reply_fits : (st : Kernel) (list : List Word) → st ≡ k.Reply list → IsWell n st → FitsEnd n (Reply (map cell_of list))
  unfolding IsSoundStatement
  reply_fits st list is well =
      let h = well_layer st (Kernel-F.Reply list) well (ap out-Kernel is ∙ k.outs-Reply list) in
      (named_cells list h.0, omega (arith, length-map list cell_of, h.1), omega (arith, length-map list cell_of, h.2))

-- an open block that fits
pub open_fits : (n : Things) (t : Tail) (list : List Instr) (end : End) → IsOpen t list end → FitsCode n list end → FitsTail n t
open_fits n (tail.To l) list end opens fits = absurd opens
open_fits n (tail.Open instrs last) list end opens fits =
    subst (λ (e : End). FitsCode n instrs.items e) (sym opens.1) (subst (λ (is : List Instr). FitsCode n is end) (sym opens.0) fits)

full_more : (n : Things) (instrs : List Instr) (i : Instr) (end : End) → IsFull n (instrs ++ i ∷ []) end
full_more n instrs i (Jump to) = omega (arith, length-append instrs (i ∷ []))
full_more n instrs i (Test48 left right met unmet) = tt
full_more n instrs i (Test64 left right met unmet) = tt
full_more n instrs i (Probe to table offset key hit miss) = tt
full_more n instrs i (Reply cells) = tt

pub alone_fits : (n : Things) (instrs : List Instr) (i : Instr) (end : End) → instrs ≡ i ∷ [] → FitsInstr n i → FitsEnd n end → FitsCode n instrs end
alone_fits n instrs i end is fit fits =
    subst (λ (list : List Instr). FitsCode n list end) (sym is)
    (record { instrs_fit = All-cons (FitsInstr n) i [] fit (All-nil (FitsInstr n)); end_fits = fits; full = full_more n [] i end })

pub within_before : (n : Things) (old new : Builder) → length old.blocks ≤ length new.blocks → old.hidden ≤ new.hidden → IsWithin n new → IsWithin n old
within_before n old new few less w = record { few_blocks = omega (arith, w.few_blocks); few_hidden = omega (arith, w.few_hidden); searches = w.searches }

pub test_fits : (n : Things) (wide : Bool) (a b : Word) (l r : ℕ) (end : End) → end ≡ test_end wide (cell_of a) (cell_of b) l r → IsCell n (cell_of a) → IsCell n (cell_of b) → l < n.blocks → r < n.blocks → FitsCode n [] end
test_fits n true a b l r end is ha hb hl hr = subst (FitsCode n []) (sym is) (record { instrs_fit = All-nil (FitsInstr n); end_fits = (ha, hb, hl, hr); full = tt })
test_fits n false a b l r end is ha hb hl hr = subst (FitsCode n []) (sym is) (record { instrs_fit = All-nil (FitsInstr n); end_fits = (ha, hb, hl, hr); full = tt })

-- every block of a whole chain fits
pub whole_fits : (n : Things) (first last : List Block) → length first ≡ 1 → Fitted n first last → ((b : Block) → slice_get first 0 ≡ Some b → FitsBlock n b) → All (FitsBlock n) last
whole_fits n first last one x here j d lt =
    let is : slice_get last j ≡ Some (get_or last j d) = slice_get-get_or last j d lt in
    elim (cases_lt j 1) [
      | inl low ↦
          let at : j ≡ 0 = omega arith in
          let there : 0 < length first = omega arith in
          here (get_or last j d) (sym (x.kept 0 there) ∙ ap (slice_get last) (sym at) ∙ is)
      | inr some ↦ let new_one : length first ≤ j = omega arith in x.added j (get_or last j d) new_one lt is
    ]
