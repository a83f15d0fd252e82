-- None of the blocks that are kept does nothing.
use Rattle.std.proofs.Common.{◌≡◌, ℕ, zero, suc, ◌<◌, ◌≤◌, ◌⊎◌, inl, inr, Bool, true, false, if◌then◌else◌, nat_eq, List, [], ◌∷◌, length, get_or, Option, Some, None, refl, sym, ap, ◌∙◌, subst, arith}
use Rattle.std.specs.Prelude.{option_map, unwrap_or}
use Rattle.std.specs.List.{AllByRecursion, IsDistinct, list_any}
use Rattle.std.proofs.lemmas.Bool.{cases_Bool}
use Rattle.std.proofs.lemmas.Bool.Decides.{nat_tests}
use Rattle.std.proofs.lemmas.Map.Steps.{length-le_from_distinct_below}
use Rattle.std.proofs.lemmas.Option.{slice_get-get_or, slice_get_within}
use Rattle.redn_graph.specs.declared.types.End.{End}
use Rattle.redn_graph.specs.declared.types.End.TheVariants.{Jump, Test48, Test64, Probe, Reply}
use Rattle.redn_graph.specs.declared.types.Block.{Block}
use Rattle.redn_graph.specs.declared.types.Graph.{Graph}
use Rattle.redn_graph.specs.Reached.{CanGoTo, LeadsTo, IsPath, renumbered}
use Rattle.redn_graph.specs.Finding.{Kept}
use Rattle.redn_graph.specs.Idle.{only_puts_back, jump_of, idle_code, idle_block, idle_at, jumps, past_idle, passed, NoneIdle}
use Rattle.redn_graph.specs.Onward.{AllStop}
use Rattle.redn_graph.proofs.Jumping.{idle_is, jumps_done}
use Rattle.redn_graph.proofs.Kept.{came}

none_some : {x : ℕ} → None ≡ Some x → ⊥
none_some e = cc

-- a block leads past exactly so many
abbrev Exact : List Block → ℕ → ℕ → Type 0
Exact blocks zero k = idle_at blocks k ≡ None
Exact blocks (suc n) k = (l : ℕ) × (idle_at blocks k ≡ Some l) × Exact blocks n l

record AtMost (blocks : List Block) (n k : ℕ) : Type 0 where
  pub count : ℕ
  pub few : count ≤ n
  pub exact : Exact blocks count k

exact_of : (blocks : List Block) (n k : ℕ) → idle_at blocks (jumps blocks n k) ≡ None → AtMost blocks n k
exact_of blocks zero k none = record { count = 0; few = omega arith; exact = none }
exact_of blocks (suc n) k none = by (idle_at blocks k) refl (λ l leads. exact_of blocks n l leads)
  where
    by : (o : Option ℕ) → idle_at blocks k ≡ o → ((l : ℕ) → idle_at blocks (jumps blocks n l) ≡ None → AtMost blocks n l) → AtMost blocks (suc n) k
    by None here rest = record { count = 0; few = omega arith; exact = here }
    by (Some l) leads rest =
        let x = rest l (ap (λ (o : Option ℕ). idle_at blocks (jumps blocks n (unwrap_or o k))) (sym leads) ∙ none) in
        record { count = suc x.count; few = omega (arith, x.few); exact = (l, leads, x.exact) }

some_one : {x y : ℕ} → Some x ≡ Some y → x ≡ y
some_one e = cc

exact_one : (blocks : List Block) (n m k : ℕ) → Exact blocks n k → Exact blocks m k → n ≡ m
exact_one blocks zero zero k a b = refl
exact_one blocks zero (suc m) k a b = absurd (none_some (sym a ∙ b.1))
exact_one blocks (suc n) zero k a b = absurd (none_some (sym b ∙ a.1))
exact_one blocks (suc n) (suc m) k a b =
    let same : a.0 ≡ b.0 = some_one (sym a.1 ∙ b.1) in
    ap suc (exact_one blocks n m b.0 (subst (Exact blocks n) same a.2) b.2)

exact_jumps : (blocks : List Block) (n k : ℕ) → Exact blocks n k → idle_at blocks (jumps blocks n k) ≡ None
exact_jumps blocks zero k e = e
exact_jumps blocks (suc n) k e = ap (λ (o : Option ℕ). idle_at blocks (jumps blocks n (unwrap_or o k))) e.1 ∙ exact_jumps blocks n e.0 e.2

-- those blocks
trail : (blocks : List Block) (n k : ℕ) → Exact blocks n k → List ℕ
trail blocks zero k e = []
trail blocks (suc n) k e = k ∷ trail blocks n e.0 e.2

trail_length : (blocks : List Block) (n k : ℕ) (e : Exact blocks n k) → length (trail blocks n k e) ≡ n
unfolding trail
trail_length blocks zero k e = refl
trail_length blocks (suc n) k e = omega (arith, trail_length blocks n e.0 e.2)

trail_apart : (blocks : List Block) (k n : ℕ) → Exact blocks n k → (m l : ℕ) (e : Exact blocks m l) → m < n → AllByRecursion (λ y. nat_eq k y ≡ false) (trail blocks m l e)
unfolding trail
trail_apart blocks k n own zero l e lt = tt
trail_apart blocks k n own (suc m) l e lt =
    let other : (k ≡ l) → ⊥ = λ is. omega (arith, lt, exact_one blocks n (suc m) l (subst (Exact blocks n) is own) e) in
    let differs : nat_eq k l ≡ false = grind (arith, nat_tests) in
    (differs, trail_apart blocks k n own m e.0 e.2 (omega (arith, lt)))

trail_distinct : (blocks : List Block) (n k : ℕ) (e : Exact blocks n k) → IsDistinct nat_eq (trail blocks n k e)
unfolding trail IsDistinct
trail_distinct blocks zero k e = tt
trail_distinct blocks (suc n) k e = (trail_apart blocks k (suc n) e n e.0 e.2 (omega arith), trail_distinct blocks n e.0 e.2)

trail_within : (blocks : List Block) (n k : ℕ) (e : Exact blocks n k) (q : ℕ) → list_any (nat_eq q) (trail blocks n k e) ≡ true → q < length blocks
unfolding trail
trail_within blocks zero k e q has = cc
trail_within blocks (suc n) k e q has =
    elim (cases_Bool (nat_eq q k)) [
      | inl is ↦
          let same : q ≡ k = grind (arith, nat_tests) in
          let i = idle_is blocks k e.0 e.1 in
          omega (arith, same, slice_get_within blocks k i.block i.there)
      | inr other ↦ trail_within blocks n e.0 e.2 q (rw other at has)
    ]

-- so no more than there are blocks
exact_few : (blocks : List Block) (n k : ℕ) → Exact blocks n k → n ≤ length blocks
exact_few blocks n k e =
    omega (arith, trail_length blocks n k e, length-le_from_distinct_below (trail blocks n k e) (length blocks) (trail_distinct blocks n k e) (trail_within blocks n k e))

pub past_works : (blocks : List Block) → AllStop blocks → (k : ℕ) → idle_at blocks (past_idle blocks k) ≡ None
past_works blocks all k =
    let s = (all.stops k).1 in
    let x = exact_of blocks s.count k (ap (idle_at blocks) s.leads ∙ s.works) in
    let none = exact_jumps blocks x.count k x.exact in
    ap (idle_at blocks) (sym (jumps_done blocks x.count k (jumps blocks x.count k) (exact_few blocks x.count k x.exact) refl none)) ∙ none

-- a path ends with an edge
last_edge : (blocks : List Block) (k : ℕ) (path : List ℕ) (l : ℕ) → IsPath blocks k path l → (k ≡ l) ⊎ ((j : ℕ) × LeadsTo blocks j l)
last_edge blocks k [] l e = inl e
last_edge blocks k (m ∷ path) l (first, rest) =
    elim (last_edge blocks m path l rest) [ inl e ↦ inr (k, subst (LeadsTo blocks k) e first) | inr edge ↦ inr edge ]

target_moved : (f : ℕ → ℕ) (e : End) (l : ℕ) → CanGoTo e l → CanGoTo (renumbered f e) (f l)
target_moved f (Jump to) l is = ap f is
target_moved f (Test48 left right met unmet) l is = elim is [ inl e ↦ inl (ap f e) | inr e ↦ inr (ap f e) ]
target_moved f (Test64 left right met unmet) l is = elim is [ inl e ↦ inl (ap f e) | inr e ↦ inr (ap f e) ]
target_moved f (Probe to table offset key hit miss) l is = elim is [ inl e ↦ inl (ap f e) | inr e ↦ inr (ap f e) ]
target_moved f (Reply words) l is = absurd is

moved_target : (f : ℕ → ℕ) (e : End) (l : ℕ) → CanGoTo (renumbered f e) l → (t : ℕ) × (l ≡ f t)
moved_target f (Jump to) l is = (to, is)
moved_target f (Test48 left right met unmet) l is = elim is [ inl e ↦ (met, e) | inr e ↦ (unmet, e) ]
moved_target f (Test64 left right met unmet) l is = elim is [ inl e ↦ (met, e) | inr e ↦ (unmet, e) ]
moved_target f (Probe to table offset key hit miss) l is = elim is [ inl e ↦ (hit, e) | inr e ↦ (miss, e) ]
moved_target f (Reply words) l is = absurd is

jump_moved : (f : ℕ → ℕ) (e : End) → jump_of (renumbered f e) ≡ option_map f (jump_of e)
jump_moved f (Jump to) = refl
jump_moved f (Test48 left right met unmet) = refl
jump_moved f (Test64 left right met unmet) = refl
jump_moved f (Probe to table offset key hit miss) = refl
jump_moved f (Reply words) = refl

map_none : (f : ℕ → ℕ) (o : Option ℕ) → option_map f o ≡ None → o ≡ None
map_none f None e = refl
map_none f (Some x) e = absurd (none_some (sym e))

same_idle : (f h : ℕ → ℕ) (one other : End) (b : Bool) → renumbered f one ≡ renumbered h other → (let o : Option ℕ = if b then jump_of one else None in o) ≡ None → (let o : Option ℕ = if b then jump_of other else None in o) ≡ None
same_idle f h one other false e none = refl
same_idle f h one other true e none =
    map_none h (jump_of other) (sym (jump_moved h other) ∙ ap jump_of (sym e) ∙ jump_moved f one ∙ ap (option_map f) none)

module _ (g h : Graph) (kept : Kept (passed g) h) (all : AllStop g.blocks) where
  -- each block is one to which some lead
  entered : (k : ℕ) → k < length h.blocks → (t : ℕ) × (kept.at k ≡ past_idle g.blocks t)
  entered k lt =
      let p = kept.reached k lt in
      elim (last_edge h.blocks h.entry p.0 k p.1) [
        | inl first ↦ (g.entry, ap kept.at (sym first) ∙ kept.entry)
        | inr (j, edge) ↦
            let x = came g h kept j edge.block edge.there in
            moved_target (past_idle g.blocks) x.block.end (kept.at k) (subst (λ (e : End). CanGoTo e (kept.at k)) (sym x.end) (target_moved kept.at edge.block.end k edge.target))
      ]

  pub none_idle : NoneIdle h.blocks
  none_idle k d lt =
      let b = get_or h.blocks k d in
      let x = came g h kept k b (slice_get-get_or h.blocks k d lt) in
      let t = entered k lt in
      let none : idle_code x.block.instrs x.block.end ≡ None = sym (ap idle_block x.there) ∙ ap (idle_at g.blocks) t.1 ∙ past_works g.blocks all t.0 in
      let same = same_idle (past_idle g.blocks) kept.at x.block.end b.end (only_puts_back x.block.instrs) x.end none in
      subst (λ (c : Bool). (let o : Option ℕ = if c then jump_of b.end else None in o) ≡ None) (ap only_puts_back x.instrs) same
