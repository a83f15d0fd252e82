-- Steps of a chain that show nothing look at no table and set no variable.
use Rattle.std.proofs.Common.{◌≡◌, ℕ, zero, suc, ◌<◌, ◌≤◌, ◌⊎◌, inl, inr, Bool, true, false, if◌then◌else◌, List, [], ◌∷◌, ◌++◌, length, replicate, refl, sym, ap, ◌∙◌, subst, arith}
use Rattle.std.proofs.lemmas.Bool.{false≢true}
use Rattle.redn_words.specs.declared.types.Obs.{Obs}
use Rattle.redn_words.specs.declared.types.Obs.TheVariants as shows
use Rattle.redn_kernel.specs.declared.types.Kernel.{Kernel, out-Kernel}
use Rattle.redn_kernel.specs.declared.types.Kernel.TheOpen.{Kernel-F}
use Rattle.redn_kernel.specs.Source.{ChainState, Turn, Item, TakeArgument, Do, AgainLoop, AgainRepeat, Find, Take, Visit, Left, Next, Here, first_does, item_does, statement_does, silent, has_word, chain_runs}
use Rattle.redn_kernel.specs.Steps.{Steps, silently, unchanged}
use Rattle.redn_kernel.specs.Feeds.{Feed, seen_then, chain_turn, chain_after, chain_seen}

abbrev pub is_nothing : Obs → Bool
is_nothing shows.Nothing = true
is_nothing _ = false

pub nothing_or : (e : Obs) → (e ≡ shows.Nothing) ⊎ (is_nothing e ≡ false)
nothing_or shows.Nothing = inl refl
nothing_or _ = inr refl

pub not_nothing : {A : Type 0} (e : Obs) → is_nothing e ≡ false → e ≡ shows.Nothing → A
not_nothing e loud is = absurd (false≢true (sym loud ∙ ap is_nothing is))

-- whichever of two turns it is, it shows something
loud_if : {A : Type 0} (b : Bool) (one other : Turn) → is_nothing one.event ≡ false → is_nothing other.event ≡ false → (let turn : Turn = if b then one else other in turn.event ≡ shows.Nothing) → A
loud_if true one other l1 l2 e = not_nothing one.event l1 e
loud_if false one other l1 l2 e = not_nothing other.event l2 e

module _ (c : ℕ) where
  -- whatever the tables are, the items go on to others
  pub record GoesOn (t : ChainState) (does : List (List ℕ) → Turn) : Type 0 where
    pub after : List Item
    pub same : (tables : List (List ℕ)) → does tables ≡ silent c tables t after

  quiet_statement : (tables : List (List ℕ)) (t : ChainState) (layer : Kernel-F Kernel) (rest : List Item) → (statement_does c tables t layer rest).event ≡ shows.Nothing → GoesOn t (λ tables. statement_does c tables t layer rest)
  unfolding statement_does
  quiet_statement tables t (Kernel-F.Move x a) rest e = absurd (cc e)
  quiet_statement tables t (Kernel-F.Add x a) rest e = absurd (cc e)
  quiet_statement tables t (Kernel-F.Load x table a) rest e = loud_if (has_word tables table _) _ _ refl refl e
  quiet_statement tables t (Kernel-F.Store table a b) rest e = loud_if (has_word tables table _) _ _ refl refl e
  quiet_statement tables t (Kernel-F.If wide a b met unmet) rest e = record { after = _; same = λ tables. refl }
  quiet_statement tables t (Kernel-F.Loop body) rest e = record { after = _; same = λ tables. refl }
  quiet_statement tables t (Kernel-F.Repeat n body) rest e = record { after = _; same = λ tables. refl }
  quiet_statement tables t Kernel-F.Break rest e = record { after = _; same = λ tables. refl }
  quiet_statement tables t (Kernel-F.Lookup x table a key n) rest e = record { after = _; same = λ tables. refl }
  quiet_statement tables t (Kernel-F.Walk x table a key n) rest e = record { after = _; same = λ tables. refl }
  quiet_statement tables t (Kernel-F.Reply words) rest e = absurd (cc e)

  quiet_item : (tables : List (List ℕ)) (t : ChainState) (item : Item) (rest : List Item) → (item_does c tables t item rest).event ≡ shows.Nothing → GoesOn t (λ tables. item_does c tables t item rest)
  unfolding item_does
  quiet_item tables t (TakeArgument i) rest e = absurd (cc e)
  quiet_item tables t (Do statement) rest e = quiet_statement tables t (out-Kernel statement) rest e
  quiet_item tables t (AgainLoop body) rest e = record { after = _; same = λ tables. refl }
  quiet_item tables t (AgainRepeat n body) rest e = record { after = _; same = λ tables. refl }
  quiet_item tables t (Find x table o key n) rest e = loud_if (has_word tables table o) _ _ refl refl e
  quiet_item tables t (Take x table o) rest e = loud_if (has_word tables table o) _ _ refl refl e
  quiet_item tables t (Visit x table o key n) rest e = loud_if (has_word tables table o) _ _ refl refl e
  quiet_item tables t (Left x table o key n) rest e = record { after = _; same = λ tables. refl }
  quiet_item tables t (Next x table o key n) rest e = loud_if (has_word tables table o) _ _ refl refl e
  quiet_item tables t (Here x table o key n) rest e = record { after = _; same = λ tables. refl }

  pub goes_on : (tables : List (List ℕ)) (t : ChainState) (items : List Item) → (first_does c tables t items).event ≡ shows.Nothing → GoesOn t (λ tables. first_does c tables t items)
  goes_on tables t [] e = record { after = []; same = λ tables. refl }
  goes_on tables t (item ∷ rest) e = quiet_item tables t item rest e

  -- n steps that show nothing
  abbrev pub Quiet : ℕ → ChainState → ChainState → Type 0
  Quiet zero t u = u ≡ t
  Quiet (suc n) t u = (chain_runs t ≡ true) × (go : GoesOn t (λ tables. first_does c tables t t.items)) × Quiet n (record t { items = go.after }) u

  pub quiet_run : (n : ℕ) (tables : List (List ℕ)) (t : ChainState) (turn : Turn) → Steps c tables t n turn → turn.event ≡ shows.Nothing → Quiet n t turn.chain
  quiet_run zero tables t turn e none = ap (λ (u : Turn). u.chain) e
  quiet_run (suc n) tables t turn (running, inl (quiet, more)) none =
      let go = goes_on tables t t.items quiet in
      (running, go, quiet_run n tables (record t { items = go.after }) turn (subst (λ (u : Turn). Steps c u.tables u.chain n turn) (go.same tables) more) none)
  quiet_run (suc n) tables t turn (running, inr (shown, more)) none =
      let go = goes_on tables t t.items (sym shown ∙ none) in
      (running, go, quiet_run n tables (record t { items = go.after }) (silently turn) (subst (λ (u : Turn). Steps c u.tables u.chain n (silently turn)) (go.same tables) more) refl)

  pub quiet_vars : (n : ℕ) (t u : ChainState) → Quiet n t u → u.vars ≡ t.vars
  quiet_vars zero t u e = ap (λ (v : ChainState). v.vars) e
  quiet_vars (suc n) t u (running, go, more) = quiet_vars n (record t { items = go.after }) u more

  pub quiet_ended : (n : ℕ) (t u : ChainState) → Quiet n t u → u.ended ≡ t.ended
  quiet_ended zero t u e = ap (λ (v : ChainState). v.ended) e
  quiet_ended (suc n) t u (running, go, more) = quiet_ended n (record t { items = go.after }) u more

  -- a chain with nothing left has nothing left behind them
  pub quiet_done : (n : ℕ) (t u : ChainState) → t.items ≡ [] → Quiet n t u → u.items ≡ []
  quiet_done zero t u none e = ap (λ (v : ChainState). v.items) e ∙ none
  quiet_done (suc n) t u none (running, go, more) =
      let left : go.after ≡ [] = sym (ap (λ (u : Turn). u.chain.items) (go.same [])) ∙ ap (λ (list : List Item). (first_does c [] t list).chain.items) none in
      quiet_done n (record t { items = go.after }) u left more

  -- quiet steps lead from one state to another
  pub record Later (t u : ChainState) : Type 0 where
    pub count : ℕ
    pub quiet : Quiet count t u

  pub later_vars : (t u : ChainState) → Later t u → t.vars ≡ u.vars
  later_vars t u l = sym (quiet_vars l.count t u l.quiet)

  pub later_ended : (t u : ChainState) → Later t u → t.ended ≡ u.ended
  later_ended t u l = sym (quiet_ended l.count t u l.quiet)

  pub later_done : (t u : ChainState) → Later t u → t.items ≡ [] → u.items ≡ []
  later_done t u l none = quiet_done l.count t u none l.quiet

  quiet_then : (n : ℕ) (t u v : ChainState) → Quiet n t u → Later u v → Later t v
  quiet_then zero t u v e l = subst (λ (w : ChainState). Later w v) e l
  quiet_then (suc n) t u v (running, go, more) l =
      let rest = quiet_then n (record t { items = go.after }) u v more l in
      record { count = suc rest.count; quiet = (running, go, rest.quiet) }

  pub later_then : (t u v : ChainState) → Later t u → Later u v → Later t v
  later_then t u v l m = quiet_then l.count t u v l.quiet m

  -- some quiet steps, one that shows something, and quiet ones again
  pub record Loud (tables : List (List ℕ)) (t : ChainState) (n : ℕ) (turn : Turn) : Type 0 where
    pub before : ℕ
    pub mid : ChainState
    pub quiet : Quiet before t mid
    pub running : chain_runs mid ≡ true
    pub shown : turn.event ≡ (first_does c tables mid mid.items).event
    pub loud : is_nothing turn.event ≡ false
    pub after : ℕ
    pub rest : Quiet after (first_does c tables mid mid.items).chain turn.chain

  loud_run : (n : ℕ) (tables : List (List ℕ)) (t : ChainState) (turn : Turn) → Steps c tables t n turn → is_nothing turn.event ≡ false → Loud tables t n turn
  loud_run zero tables t turn e loud = not_nothing turn.event loud (ap (λ (u : Turn). u.event) e)
  loud_run (suc n) tables t turn (running, inl (quiet, more)) loud =
      let go = goes_on tables t t.items quiet in
      let r = loud_run n tables (record t { items = go.after }) turn (subst (λ (u : Turn). Steps c u.tables u.chain n turn) (go.same tables) more) loud in
      record { before = suc r.before; mid = r.mid; quiet = (running, go, r.quiet); running = r.running; shown = r.shown; loud = loud; after = r.after; rest = r.rest }
  loud_run (suc n) tables t turn (running, inr (shown, more)) loud =
      record { before = 0; mid = t; quiet = refl; running = running; shown = shown; loud = loud; after = n; rest = quiet_run n _ (first_does c tables t t.items).chain (silently turn) more refl }

  pub split : (n : ℕ) (tables : List (List ℕ)) (t : ChainState) (turn : Turn) → Steps c tables t n turn → (Quiet n t turn.chain × (turn.event ≡ shows.Nothing)) ⊎ Loud tables t n turn
  split n tables t turn steps = elim (nothing_or turn.event) [ inl none ↦ inl (quiet_run n tables t turn steps none, none) | inr loud ↦ inr (loud_run n tables t turn steps loud) ]

  pub running_turn : (tables : List (List ℕ)) (t : ChainState) → chain_runs t ≡ true → chain_turn c tables t ≡ first_does c tables t t.items
  running_turn tables t e = ap (λ (b : Bool). if b then first_does c tables t t.items else unchanged tables t) e

  pub seen_step : (tables : List (List ℕ)) (feed : Feed) (t : ChainState) (turn : Turn) → chain_turn c tables t ≡ turn → chain_seen c (tables ∷ feed) t ≡ seen_then tables turn.event (chain_seen c feed turn.chain)
  seen_step tables feed t turn e = ap (λ (u : Turn). seen_then tables u.event (chain_seen c feed u.chain)) e

  pub after_step : (tables : List (List ℕ)) (feed : Feed) (t : ChainState) (turn : Turn) → chain_turn c tables t ≡ turn → chain_after c (tables ∷ feed) t ≡ chain_after c feed turn.chain
  after_step tables feed t turn e = ap (λ (u : Turn). chain_after c feed u.chain) e

  -- quiet steps under any feed
  pub quiet_seen : (n : ℕ) (tables : List (List ℕ)) (feed : Feed) (t u : ChainState) → Quiet n t u → chain_seen c (replicate n tables ++ feed) t ≡ chain_seen c feed u
  quiet_seen zero tables feed t u e = ap (chain_seen c feed) (sym e)
  quiet_seen (suc n) tables feed t u (running, go, more) =
      seen_step tables (replicate n tables ++ feed) t _ (running_turn tables t running ∙ go.same tables) ∙ quiet_seen n tables feed (record t { items = go.after }) u more

  pub quiet_after : (n : ℕ) (tables : List (List ℕ)) (feed : Feed) (t u : ChainState) → Quiet n t u → chain_after c (replicate n tables ++ feed) t ≡ chain_after c feed u
  quiet_after zero tables feed t u e = ap (chain_after c feed) (sym e)
  quiet_after (suc n) tables feed t u (running, go, more) =
      after_step tables (replicate n tables ++ feed) t _ (running_turn tables t running ∙ go.same tables) ∙ quiet_after n tables feed (record t { items = go.after }) u more

  -- the contents of a feed's first step that shows something
  abbrev pub first_content : Feed → ChainState → List (List ℕ)
  first_content [] t = []
  first_content (tables ∷ feed) t = if is_nothing (chain_turn c tables t).event then first_content feed (chain_turn c tables t).chain else tables

  pub content_step : (tables : List (List ℕ)) (feed : Feed) (t : ChainState) (turn : Turn) → chain_turn c tables t ≡ turn → first_content (tables ∷ feed) t ≡ (if is_nothing turn.event then first_content feed turn.chain else tables)
  content_step tables feed t turn e = ap (λ (u : Turn). if is_nothing u.event then first_content feed u.chain else tables) e

  -- what a feed has left once quiet steps are done
  pub record Remains (n : ℕ) (feed : Feed) (t u : ChainState) : Type 0 where
    pub feed_left : Feed
    pub seen : chain_seen c feed t ≡ chain_seen c feed_left u
    pub later : Later (chain_after c feed t) (chain_after c feed_left u)
    pub content : first_content feed t ≡ first_content feed_left u
    pub shorter : length feed_left ≤ length feed
    pub less : 1 ≤ n → 1 ≤ length feed → length feed_left < length feed

  pub remains : (n : ℕ) (feed : Feed) (t u : ChainState) → Quiet n t u → Remains n feed t u
  remains zero feed t u e =
      record { feed_left = feed; seen = ap (chain_seen c feed) (sym e); later = record { count = 0; quiet = ap (chain_after c feed) e }; content = ap (first_content feed) (sym e); shorter = omega arith; less = λ some h. absurd (omega arith) }
  remains (suc n) [] t u q =
      record { feed_left = []; seen = refl; later = record { count = suc n; quiet = q }; content = refl; shorter = omega arith; less = λ some h. absurd (omega (arith, h)) }
  remains (suc n) (tables ∷ feed) t u (running, go, more) =
      let is = running_turn tables t running ∙ go.same tables in
      let r = remains n feed (record t { items = go.after }) u more in
      record {
        feed_left = r.feed_left;
        seen = seen_step tables feed t _ is ∙ r.seen;
        later = subst (λ (v : ChainState). Later v (chain_after c r.feed_left u)) (sym (after_step tables feed t _ is)) r.later;
        content = content_step tables feed t _ is ∙ r.content;
        shorter = omega (arith, r.shorter);
        less = λ some h. omega (arith, r.shorter);
      }
