-- What a walk leaves.
use Rattle.std.proofs.Common.{◌≡◌, ℕ, zero, suc, ◌+◌, ◌-◌, ◌<◌, ◌≤◌, ◌==◌, Bool, true, false, if◌then◌else◌, List, [], ◌∷◌, refl, sym, ap, ◌∙◌, subst, arith}
use Rattle.std.proofs.lemmas.Bool.Decides.{nat_tests}
use Rattle.redn_words.specs.declared.types.Obs.TheVariants as shows
use Rattle.redn_kernel.specs.declared.types.Word.{Word}
use Rattle.redn_kernel.specs.declared.types.Kernel.{Kernel, out-Kernel}
use Rattle.redn_kernel.specs.declared.types.Kernel.TheVariants as k
use Rattle.redn_kernel.specs.declared.types.Kernel.TheOpen.{Kernel-F}
use Rattle.redn_kernel.specs.declared.types.Core.{Core}
use Rattle.redn_kernel.specs.Source as source
use Rattle.redn_kernel.specs.Source.{ChainState, Turn, Item, Visit, Left, Next, Here, Take, first_does, item_does, statement_does, value_of, wrapped, same_low, has_word, word_in}
use Rattle.redn_kernel.specs.CoreRun.{Cells, do_cores, cores_after}
use Rattle.redn_kernel.specs.Becomes.{chain_at, cores_at}
use Rattle.redn_kernel.specs.Found.{LeaveFound, nodes, first_with, with_found}
use Rattle.redn_kernel.proofs.CoreRuns.{front_statement, Reaches, next_reach, ended_stays, idle_stays, first_hit, first_miss, some_left, ended_not, take_leaves}
use Rattle.redn_kernel.proofs.Becoming.{comes}
use Rattle.redn_walk.specs.Walk.{IsWalk, cores_of}
use Rattle.redn_walk.proofs.Composed.{walk_composes}

-- what a walk of the source leaves
module _ (c : ℕ) (words : List ℕ) (tables last : List (List ℕ)) (s : Cells) (x table : ℕ) (key : Word) (u : ChainState) (over : u.items ≡ []) (goes : u.ended ≡ false) where
  abbrev value_at : ℕ → ℕ
  value_at o = word_in tables table o

  -- the value behind the first of these nodes that has the key
  abbrev LeavesFirst : List ℕ → Type 0
  LeavesFirst offsets = u.vars ≡ with_found tables table x s.vars (first_with tables table (value_of s.vars key) offsets)

  -- the nodes from one on, if there is one
  abbrev from_here : ℕ → ℕ → List ℕ
  from_here n o = if o == 0 then [] else nodes tables table n o

  abbrev FromNode : ℕ → Type 0
  FromNode less = (m o : ℕ) → Reaches c m tables (chain_at words s false (Visit x table o key (suc less) ∷ [])) last u → LeavesFirst (nodes tables table (suc less) o)

  unstarted : {A : Type 0} (item : Item) → u ≡ chain_at words s false (item ∷ []) → A
  unstarted item e = some_left c words tables last s x table u over goes item [] (ap (λ (t : ChainState). t.items) e)

  faulted : {A : Type 0} (m : ℕ) (item : Item) → Reaches c m tables (chain_at words s true (item ∷ [])) last u → A
  faulted m item r = ended_not c words tables last s x table u over goes (ended_stays c m words tables last s (item ∷ []) u r)

  here_by : (m o less : ℕ) → FromNode less → (none : Bool) → (o == 0) ≡ none → Reaches c m tables (chain_at words s false (if none then [] else Visit x table o key (suc less) ∷ [])) last u → LeavesFirst (if none then [] else nodes tables table (suc less) o)
  here_by m o less visit true e r = idle_stays c m words tables last s u r
  here_by m o less visit false e r = visit m o r

  here_leaves : (m o less : ℕ) → FromNode less → Reaches c m tables (chain_at words s false (Here x table o key (suc less) ∷ [])) last u → LeavesFirst (from_here (suc less) o)
  unfolding item_does
  here_leaves zero o less visit r = unstarted _ r.1
  here_leaves (suc m) o less visit r = here_by m o less visit (o == 0) refl r.1

  next_turn : ℕ → ℕ → Bool → Turn
  next_turn o less there =
      let t : ChainState = chain_at words s false (Next x table o key (suc less) ∷ []) in
      if there then source.goes_on c tables t (Here x table (value_at o) key (suc less) ∷ []) (shows.Look c table o (value_at o)) else source.ends c tables t (shows.Fault c table o)

  next_does : (o less : ℕ) → first_does c tables (chain_at words s false (Next x table o key (suc less) ∷ [])) (Next x table o key (suc less) ∷ []) ≡ next_turn o less (has_word tables table o)
  unfolding next_turn item_does
  next_does o less = refl

  next_by : (m o less : ℕ) → FromNode less → (there : Bool) → has_word tables table o ≡ there → Reaches c (suc m) tables (chain_at words s false (Next x table o key (suc less) ∷ [])) last u → LeavesFirst (from_here (suc less) (value_at o))
  unfolding next_turn
  next_by m o less visit true e r =
      here_leaves m (value_at o) less visit (next_reach c m tables last (chain_at words s false (Next x table o key (suc less) ∷ [])) u (next_turn o less true) (next_does o less ∙ ap (next_turn o less) e) r)
  next_by m o less visit false e r =
      faulted m _ (next_reach c m tables last (chain_at words s false (Next x table o key (suc less) ∷ [])) u (next_turn o less false) (next_does o less ∙ ap (next_turn o less) e) r)

  next_leaves : (m o less : ℕ) → FromNode less → Reaches c m tables (chain_at words s false (Next x table o key (suc less) ∷ [])) last u → LeavesFirst (from_here (suc less) (value_at o))
  next_leaves zero o less visit r = unstarted _ r.1
  next_leaves (suc m) o less visit r = next_by m o less visit (has_word tables table o) refl r

  none_there : (b : Bool) → ◌≡◌ {A = List ℕ} (if b then [] else []) []
  none_there true = refl
  none_there false = refl

  left_leaves : (m o more : ℕ) → ((less : ℕ) → more ≡ suc less → FromNode less) → Reaches c m tables (chain_at words s false (Left x table o key more ∷ [])) last u → LeavesFirst (from_here more (value_at (wrapped (o + 16))))
  unfolding item_does
  left_leaves zero o more visit r = unstarted _ r.1
  left_leaves (suc m) o zero visit r =
      idle_stays c m words tables last s u r.1 ∙ sym (ap (λ (list : List ℕ). with_found tables table x s.vars (first_with tables table (value_of s.vars key) list)) (none_there (value_at (wrapped (o + 16)) == 0)))
  left_leaves (suc m) o (suc less) visit r =
      let some : (suc less == 0) ≡ false = grind (arith, nat_tests) in
      next_leaves m (wrapped (o + 16)) less (visit less refl)
      (subst (λ (none : Bool). Reaches c m tables (chain_at words s false (if none then [] else Next x table (wrapped (o + 16)) key (suc less) ∷ [])) last u) some r.1)

  visit_turn : ℕ → ℕ → Bool → Bool → Turn
  visit_turn o more there met =
      let t : ChainState = chain_at words s false (Visit x table o key (suc more) ∷ []) in
      if there then source.goes_on c tables t (if met then Take x table (wrapped (o + 8)) ∷ [] else Left x table o key more ∷ []) (shows.Look c table o (value_at o)) else source.ends c tables t (shows.Fault c table o)

  visited_is : (o more : ℕ) (met : Bool) → source.visited met x table o key (suc more) [] ≡ (if met then Take x table (wrapped (o + 8)) ∷ [] else Left x table o key more ∷ [])
  visited_is o more true = refl
  visited_is o more false = let less : suc more - 1 ≡ more = omega arith in ap (λ (j : ℕ). Left x table o key j ∷ []) less

  visit_does : (o more : ℕ) → first_does c tables (chain_at words s false (Visit x table o key (suc more) ∷ [])) (Visit x table o key (suc more) ∷ []) ≡ visit_turn o more (has_word tables table o) (same_low (value_at o) (value_of s.vars key))
  unfolding visit_turn item_does
  visit_does o more =
      let t : ChainState = chain_at words s false (Visit x table o key (suc more) ∷ []) in
      ap (λ (list : List Item). if has_word tables table o then source.goes_on c tables t list (shows.Look c table o (value_at o)) else source.ends c tables t (shows.Fault c table o)) (visited_is o more (same_low (value_at o) (value_of s.vars key)))

  visit_to : (m o more : ℕ) → ((less : ℕ) → more ≡ suc less → FromNode less) → (there met : Bool) → same_low (value_at o) (value_of s.vars key) ≡ met → Reaches c m (visit_turn o more there met).tables (visit_turn o more there met).chain last u → LeavesFirst (nodes tables table (suc more) o)
  unfolding visit_turn
  visit_to m o more visit false met f r = faulted m _ r
  visit_to m o more visit true true f r =
      take_leaves c words tables last s x table u over goes m (wrapped (o + 8)) r ∙ sym (ap (with_found tables table x s.vars) (first_hit tables table (value_of s.vars key) o (from_here more (value_at (wrapped (o + 16)))) f))
  visit_to m o more visit true false f r =
      left_leaves m o more visit r ∙ sym (ap (with_found tables table x s.vars) (first_miss tables table (value_of s.vars key) o (from_here more (value_at (wrapped (o + 16)))) f))

  visit_by : (m o more : ℕ) → ((less : ℕ) → more ≡ suc less → FromNode less) → (there met : Bool) → has_word tables table o ≡ there → same_low (value_at o) (value_of s.vars key) ≡ met → Reaches c (suc m) tables (chain_at words s false (Visit x table o key (suc more) ∷ [])) last u → LeavesFirst (nodes tables table (suc more) o)
  unfolding visit_turn
  visit_by m o more visit there met e f r =
      let t : ChainState = chain_at words s false (Visit x table o key (suc more) ∷ []) in
      let does = visit_does o more ∙ ap (λ (b : Bool). visit_turn o more b (same_low (value_at o) (value_of s.vars key))) e ∙ ap (visit_turn o more there) f in
      visit_to m o more visit there met f (next_reach c m tables last t u (visit_turn o more there met) does r)

  visit_start : (m o more : ℕ) → ((less : ℕ) → more ≡ suc less → FromNode less) → Reaches c m tables (chain_at words s false (Visit x table o key (suc more) ∷ [])) last u → LeavesFirst (nodes tables table (suc more) o)
  visit_start zero o more visit r = unstarted _ r.1
  visit_start (suc m) o more visit r = visit_by m o more visit (has_word tables table o) (same_low (value_at o) (value_of s.vars key)) refl refl r

  suc_same : (a b : ℕ) → suc a ≡ suc b → a ≡ b
  suc_same a b e = omega (arith, e)

  zero_suc : {A : Type 0} (b : ℕ) → zero ≡ suc b → A
  zero_suc b e = absurd (omega (arith, e))

  pub visit_leaves : (more : ℕ) → FromNode more
  visit_leaves zero m o r = visit_start m o zero (λ less is. zero_suc less is) r
  visit_leaves (suc more) m o r = visit_start m o (suc more) (λ less is. subst FromNode (suc_same more less is) (visit_leaves more)) r

  pub walk_leaves : (m more : ℕ) (offset : Word) → Reaches c m tables (chain_at words s false (source.Do (k.Walk x table offset key (suc more)) ∷ [])) last u → LeavesFirst (nodes tables table (suc more) (value_of s.vars offset))
  unfolding statement_does
  walk_leaves zero more offset r = unstarted _ r.1
  walk_leaves (suc m) more offset r =
      let t : ChainState = chain_at words s false (source.Do (k.Walk x table offset key (suc more)) ∷ []) in
      visit_leaves more m (value_of s.vars offset)
      (next_reach c m tables last t u (source.silent c tables t (Visit x table (value_of s.vars offset) key (suc more) ∷ [])) (front_statement c words tables s _ _ [] (k.outs-Walk x table offset key (suc more))) r)

pub walk_finds : (x table : ℕ) (offset key : Word) (more : ℕ) → suc more < 281474976710656 → LeaveFound x table key (λ tables vars. nodes tables table (suc more) (value_of vars offset)) (cores_of x table offset key (suc more))
walk_finds x table offset key more few c words tables s n over goes =
    let some : 1 ≤ suc more = omega arith in
    let statement : Kernel = k.Walk x table offset key (suc more) in
    let cores = cores_of x table offset key (suc more) in
    let end = cores_after c words tables n (cores_at s (do_cores cores)) in
    let reached = comes statement cores (walk_composes x table offset key (suc more) some few) c words tables s n end refl over in
    walk_leaves c words tables tables s x table key (chain_at words end.cells end.ended []) refl goes reached.count more offset reached.reaches

-- what is said of a walk's own parts is said of each spelling of them
module _ (cores : List Core) where
  abbrev FindsIn : Kernel-F Kernel → Type 0
  FindsIn (Kernel-F.Walk x table offset key n) = LeaveFound x table key (λ tables vars. nodes tables table n (value_of vars offset)) cores
  FindsIn _ = Unit {0}

  pub finds_in : (x table n x2 table2 n2 : ℕ) (offset key offset2 key2 : Word) → k.Walk x table offset key n ≡ k.Walk x2 table2 offset2 key2 n2 → LeaveFound x table key (λ tables vars. nodes tables table n (value_of vars offset)) cores → LeaveFound x2 table2 key2 (λ tables vars. nodes tables table2 n2 (value_of vars offset2)) cores
  finds_in x table n x2 table2 n2 offset key offset2 key2 e =
      subst FindsIn (sym (k.outs-Walk x table offset key n) ∙ ap out-Kernel e ∙ k.outs-Walk x2 table2 offset2 key2 n2)

abbrev SomeNodes : Kernel-F Kernel → Type 0
SomeNodes (Kernel-F.Walk x table offset key n) = 1 ≤ n
SomeNodes _ = Unit {0}

pub some_nodes : (st : Kernel) (x table n : ℕ) (offset key : Word) → IsWalk st → st ≡ k.Walk x table offset key n → 1 ≤ n
some_nodes st x table n offset key w e =
    subst SomeNodes (sym (k.outs-Walk w.to w.table w.offset w.key w.nodes) ∙ ap out-Kernel (sym w.is ∙ e) ∙ k.outs-Walk x table offset key n) w.some

-- and of each spelling of a walk
abbrev MadeIn : List Core → Kernel-F Kernel → Type 0
MadeIn cores (Kernel-F.Walk x table offset key n) = cores ≡ cores_of x table offset key n
MadeIn cores _ = Unit {0}

pub made_in : (x table n x2 table2 n2 : ℕ) (offset key offset2 key2 : Word) → k.Walk x table offset key n ≡ k.Walk x2 table2 offset2 key2 n2 → cores_of x table offset key n ≡ cores_of x2 table2 offset2 key2 n2
made_in x table n x2 table2 n2 offset key offset2 key2 e =
    subst (MadeIn (cores_of x table offset key n)) (sym (k.outs-Walk x table offset key n) ∙ ap out-Kernel e ∙ k.outs-Walk x2 table2 offset2 key2 n2) refl
