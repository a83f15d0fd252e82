-- Runs of core statements as runs of the chain.
use Rattle.std.proofs.Common.{◌≡◌, ℕ, zero, suc, Bool, true, false, if◌then◌else◌, List, [], ◌∷◌, ◌++◌, Some, refl, sym, ap, ◌∙◌, subst, inl, inr, cond}
use Rattle.std.specs.Prelude.{slice_get, slice_set}
use Rattle.std.specs.List.{filter}
use Rattle.redn_kernel.specs.declared.types.Word.{Word}
use Rattle.redn_kernel.specs.declared.types.Word.TheVariants.{Var, Num}
use Rattle.redn_kernel.specs.declared.types.Kernel.{Kernel, out-Kernel}
use Rattle.redn_kernel.specs.declared.types.Kernel.TheOpen.{Kernel-F}
use Rattle.redn_kernel.specs.declared.types.Cell.TheVariants as cell
use Rattle.redn_kernel.specs.declared.types.Core.{Core, out-Core}
use Rattle.redn_kernel.specs.declared.types.Core.TheOpen.{Core-F}
use Rattle.redn_kernel.specs.Source as source
use Rattle.redn_kernel.specs.Source.{ChainState, Turn, Item, Take, has_word, first_does, item_does, statement_does, chain_runs, value_of, same_low, word_in}
use Rattle.redn_words.specs.declared.types.Obs.TheVariants as shows
use Rattle.redn_kernel.specs.Steps.{Steps, silently}
use Rattle.redn_kernel.specs.CoreRun.{Cells, CoreItem, Do, put, held, cell_of, core_does, core_item_does, core_step}
use Rattle.redn_kernel.specs.Becomes.{chain_at, cores_at}
use Rattle.redn_kernel.specs.Found.{first_with}

pub held_word : (words : List ℕ) (s : Cells) (w : Word) → held words s (cell_of w) ≡ value_of s.vars w
held_word words s (Var x) = refl
held_word words s (Num n) = refl

-- a core statement at the front, by its layer
pub front_core : (c : ℕ) (words : List ℕ) (tables : List (List ℕ)) (s : Cells) (statement : Core) (layer : Core-F Core) (rest : List CoreItem) → out-Core statement ≡ layer → core_step c words tables (cores_at s (Do statement ∷ rest)) ≡ core_does c words tables (cores_at s (Do statement ∷ rest)) layer rest
unfolding core_item_does
front_core c words tables s statement layer rest e = ap (λ (l : Core-F Core). core_does c words tables (cores_at s (Do statement ∷ rest)) l rest) e

-- a statement of the source at the front
pub front_statement : (c : ℕ) (words : List ℕ) (tables : List (List ℕ)) (s : Cells) (statement : Kernel) (layer : Kernel-F Kernel) (rest : List Item) → out-Kernel statement ≡ layer → first_does c tables (chain_at words s false (source.Do statement ∷ rest)) (source.Do statement ∷ rest) ≡ statement_does c tables (chain_at words s false (source.Do statement ∷ rest)) layer rest
unfolding item_does
front_statement c words tables s statement layer rest e = ap (λ (l : Kernel-F Kernel). statement_does c tables (chain_at words s false (source.Do statement ∷ rest)) l rest) e

-- one step of the chain
pub one_step : (c : ℕ) (words : List ℕ) (tables : List (List ℕ)) (s : Cells) (items : List Item) (turn : Turn) → first_does c tables (chain_at words s false items) items ≡ turn → Steps c tables (chain_at words s false items) 1 turn
one_step c words tables s items turn e = (refl, inr (ap (λ (u : Turn). u.event) (sym e), ap silently (sym e)))

-- some steps of a chain, whatever they show
abbrev pub Reaches : ℕ → ℕ → List (List ℕ) → ChainState → List (List ℕ) → ChainState → Type 0
Reaches c zero tables t last u = (last ≡ tables) × (u ≡ t)
Reaches c (suc n) tables t last u = (chain_runs t ≡ true) × Reaches c n (first_does c tables t t.items).tables (first_does c tables t t.items).chain last u

pub record Reached (c : ℕ) (tables : List (List ℕ)) (t : ChainState) (last : List (List ℕ)) (u : ChainState) : Type 0 where
  pub count : ℕ
  pub reaches : Reaches c count tables t last u

pub steps_reach : (c n : ℕ) (tables : List (List ℕ)) (t : ChainState) (turn : Turn) → Steps c tables t n turn → Reaches c n tables t turn.tables turn.chain
steps_reach c zero tables t turn e = (ap (λ (u : Turn). u.tables) e, ap (λ (u : Turn). u.chain) e)
steps_reach c (suc n) tables t turn (running, inl (quiet, more)) = (running, steps_reach c n (first_does c tables t t.items).tables (first_does c tables t t.items).chain turn more)
steps_reach c (suc n) tables t turn (running, inr (shown, more)) = (running, steps_reach c n (first_does c tables t t.items).tables (first_does c tables t t.items).chain (silently turn) more)

pub reach_then : (c n : ℕ) (tables mid last : List (List ℕ)) (t u v : ChainState) → Reaches c n tables t mid u → Reached c mid u last v → Reached c tables t last v
reach_then c zero tables mid last t u v e r =
    subst (λ (list : List (List ℕ)). Reached c list t last v) e.0 (subst (λ (w : ChainState). Reached c mid w last v) e.1 r)
reach_then c (suc n) tables mid last t u v e r =
    let more = reach_then c n (first_does c tables t t.items).tables mid last (first_does c tables t t.items).chain u v e.1 r in
    record { count = suc more.count; reaches = (e.0, more.reaches) }

-- the first step is known
pub next_reach : (c n : ℕ) (tables last : List (List ℕ)) (t u : ChainState) (turn : Turn) → first_does c tables t t.items ≡ turn → Reaches c (suc n) tables t last u → Reaches c n turn.tables turn.chain last u
next_reach c n tables last t u turn e r = subst (λ (w : Turn). Reaches c n w.tables w.chain last u) e r.1

false_true : {A : Type 0} → false ≡ true → A
false_true e = absurd (cc e)

-- a chain that has ended stays so
pub ended_stays : (c n : ℕ) (words : List ℕ) (tables last : List (List ℕ)) (s : Cells) (items : List Item) (u : ChainState) → Reaches c n tables (chain_at words s true items) last u → u.ended ≡ true
ended_stays c zero words tables last s items u e = ap (λ (w : ChainState). w.ended) e.1
ended_stays c (suc n) words tables last s items u e = false_true e.0

-- a chain with nothing left does nothing
pub idle_stays : (c n : ℕ) (words : List ℕ) (tables last : List (List ℕ)) (s : Cells) (u : ChainState) → Reaches c n tables (chain_at words s false []) last u → u.vars ≡ s.vars
idle_stays c zero words tables last s u e = ap (λ (w : ChainState). w.vars) e.1
idle_stays c (suc n) words tables last s u e = idle_stays c n words tables last s u e.1

pub first_hit : (tables : List (List ℕ)) (table key o : ℕ) (more : List ℕ) → same_low (word_in tables table o) key ≡ true → first_with tables table key (o ∷ more) ≡ Some o
first_hit tables table key o more e =
    ap (λ (b : Bool). slice_get (cond b (o ∷ filter (λ (o : ℕ). same_low (word_in tables table o) key) more) (filter (λ (o : ℕ). same_low (word_in tables table o) key) more)) 0) e

pub first_miss : (tables : List (List ℕ)) (table key o : ℕ) (more : List ℕ) → same_low (word_in tables table o) key ≡ false → first_with tables table key (o ∷ more) ≡ first_with tables table key more
first_miss tables table key o more e =
    ap (λ (b : Bool). slice_get (cond b (o ∷ filter (λ (o : ℕ). same_low (word_in tables table o) key) more) (filter (λ (o : ℕ). same_low (word_in tables table o) key) more)) 0) e

-- what the load of a value leaves, where nothing is left behind it
module _ (c : ℕ) (words : List ℕ) (tables last : List (List ℕ)) (s : Cells) (x table : ℕ) (u : ChainState) (over : u.items ≡ []) (goes : u.ended ≡ false) where
  pub some_left : {A : Type 0} (item : Item) (rest : List Item) → u.items ≡ item ∷ rest → A
  some_left item rest e = absurd (cc (over, e))

  pub ended_not : {A : Type 0} → u.ended ≡ true → A
  ended_not e = false_true (sym goes ∙ e)

  take_by : (n o : ℕ) (there : Bool) → has_word tables table o ≡ there → Reaches c (suc n) tables (chain_at words s false (Take x table o ∷ [])) last u → u.vars ≡ slice_set s.vars x (word_in tables table o)
  unfolding item_does
  take_by n o true e r =
      let t : ChainState = chain_at words s false (Take x table o ∷ []) in
      let now : Cells = put s (cell.Var x) (word_in tables table o) in
      let turn : Bool → Turn = λ b. if b then source.gets c tables t x (word_in tables table o) [] (shows.Load c x table o (word_in tables table o)) else source.ends c tables t (shows.Fault c table o) in
      idle_stays c n words tables last now u (next_reach c n tables last t u (turn true) (ap turn e) r)
  take_by n o false e r =
      let t : ChainState = chain_at words s false (Take x table o ∷ []) in
      let turn : Bool → Turn = λ b. if b then source.gets c tables t x (word_in tables table o) [] (shows.Load c x table o (word_in tables table o)) else source.ends c tables t (shows.Fault c table o) in
      ended_not (ended_stays c n words tables last s (Take x table o ∷ []) u (next_reach c n tables last t u (turn false) (ap turn e) r))

  pub take_leaves : (n o : ℕ) → Reaches c n tables (chain_at words s false (Take x table o ∷ [])) last u → u.vars ≡ slice_set s.vars x (word_in tables table o)
  take_leaves zero o r = some_left _ _ (ap (λ (t : ChainState). t.items) r.1)
  take_leaves (suc n) o r = take_by n o (has_word tables table o) refl r
