-- Core statements that do a statement point by point are that statement.
use Rattle.std.proofs.Common.{◌≡◌, ℕ, zero, suc, ◌<◌, ◌≤◌, ◌⊎◌, inl, inr, Bool, true, false, if◌then◌else◌, List, [], ◌∷◌, ◌++◌, length, append-nil, refl, sym, ap, ◌∙◌, subst, arith}
use Rattle.redn_words.specs.declared.types.Obs.{Obs}
use Rattle.redn_words.specs.declared.types.Obs.TheVariants as shows
use Rattle.redn_kernel.specs.declared.types.Kernel.{Kernel}
use Rattle.redn_kernel.specs.declared.types.Core.{Core, out-Core}
use Rattle.redn_kernel.specs.declared.types.Core.TheOpen.{Core-F}
use Rattle.redn_kernel.specs.Source as source
use Rattle.redn_kernel.specs.Source.{ChainState, Turn, Item, TakeArgument, first_does, item_does, chain_runs, has_word}
use Rattle.redn_kernel.specs.Steps.{Steps, unchanged, silently}
use Rattle.redn_kernel.specs.CoreRun.{Cells, CoreItem, CoreState, CoreTurn, Do, Again, Found, do_cores, core_does, core_item_does, first_core_does, core_step, cores_after}
use Rattle.redn_kernel.specs.Feeds.{Feed, seen_then, chain_after, chain_seen, cores_along, cores_seen}
use Rattle.redn_kernel.specs.Becomes.{Becomes, chain_at, cores_at}
use Rattle.redn_kernel.specs.Costs.{statement_worth}
use Rattle.redn_kernel.specs.Composes.{Composes}
use Rattle.redn_kernel.proofs.CoreRuns.{Reaches, Reached, steps_reach, reach_then}
use Rattle.redn_kernel.proofs.Quiet.{quiet_run, quiet_done, later_vars, later_ended, later_done, first_content}
use Rattle.redn_kernel.proofs.Feeds.{zero_or, fed, stopped, GoesBehind, behind}
use Rattle.redn_kernel.proofs.Places.{Place, Done, At, Takes, Turns, items, left, Stands, IsBusy, rank}
use Rattle.redn_kernel.proofs.Moves.{moves}

-- nothing before one item
append_some : {A : Type 0} (list : List Item) (item : Item) → list ++ (item ∷ []) ≡ [] → A
append_some [] item e = absurd (cc e)
append_some (first ∷ rest) item e = absurd (cc e)

only_that : (list : List Item) (item : Item) → list ++ (item ∷ []) ≡ item ∷ [] → list ≡ []
only_that [] item e = refl
only_that (first ∷ rest) item e = let none : rest ++ (item ∷ []) ≡ [] = cc in append_some rest item none

nothing_here : (place : Place) → items place ≡ [] → (h : ℕ → ℕ) → left place h ≡ []
nothing_here Done e h = refl
nothing_here (At d first rest here behind out worth frames) e h = absurd (cc e)
nothing_here (Takes to table offset found d hit here behind out frames) e h = absurd (cc e)
nothing_here (Turns d body here out frames) e h = absurd (cc e)

busy_or : (place : Place) → (IsBusy place) ⊎ (place ≡ Done)
busy_or Done = inr refl
busy_or (At d first rest here behind out worth frames) = inl tt
busy_or (Takes to table offset found d hit here behind out frames) = inl tt
busy_or (Turns d body here out frames) = inl tt

-- a chain with nothing left does nothing
idle : (c : ℕ) (words : List ℕ) (s : Cells) (feed : Feed) → (chain_seen c feed (chain_at words s false []) ≡ []) × (chain_after c feed (chain_at words s false []) ≡ chain_at words s false [])
idle c words s [] = (refl, refl)
idle c words s (tables ∷ feed) = idle c words s feed

-- core statements change no table
either_tables : (b : Bool) (one other : CoreTurn) (tables : List (List ℕ)) → one.tables ≡ tables → other.tables ≡ tables → (let turn : CoreTurn = if b then one else other in turn.tables ≡ tables)
either_tables true one other tables h k = h
either_tables false one other tables h k = k

module _ (c : ℕ) (words : List ℕ) (tables : List (List ℕ)) (t : CoreState) where
  statement_tables : (layer : Core-F Core) (rest : List CoreItem) → (core_does c words tables t layer rest).tables ≡ tables
  unfolding core_does
  statement_tables (Core-F.Move to from) rest = refl
  statement_tables (Core-F.Add to by) rest = refl
  statement_tables (Core-F.Load to table offset) rest = either_tables (has_word tables table _) _ _ tables refl refl
  statement_tables (Core-F.If wide a b met unmet) rest = refl
  statement_tables (Core-F.Loop body) rest = refl
  statement_tables Core-F.Leave rest = refl
  statement_tables (Core-F.Probe to table offset key hit miss) rest = either_tables (has_word tables table _) _ _ tables refl refl

  item_tables : (list : List CoreItem) → (first_core_does c words tables t list).tables ≡ tables
  unfolding core_item_does
  item_tables [] = refl
  item_tables (Do statement ∷ rest) = statement_tables (out-Core statement) rest
  item_tables (Again body ∷ rest) = refl
  item_tables (Found to table offset hit ∷ rest) = either_tables (has_word tables table _) _ _ tables refl refl

  step_tables : (core_step c words tables t).tables ≡ tables
  step_tables = either_tables t.ended _ _ tables refl (item_tables t.items)

module _ (c : ℕ) (words : List ℕ) where
  record Standing : Type 0 where
    pub place : Place
    pub stands : Stands place
    pub cells : Cells
    pub ended : Bool

  abbrev core_of : Standing → CoreState
  core_of x = record { cells = x.cells; items = items x.place; ended = x.ended }

  -- with other items behind the statement
  abbrev chain_of : List Item → Standing → ChainState
  chain_of more x = chain_at words x.cells x.ended (left x.place x.cells.hidden ++ more)

  abbrev there : List Item → Standing → CoreTurn → Turn
  there more next turn = record { tables = turn.tables; chain = chain_of more next; event = turn.event }

  -- a step, from any state
  record Stepped (x : Standing) (tables : List (List ℕ)) (more : List Item) : Type 0 where
    pub next : Standing
    pub is : (core_step c words tables (core_of x)).state ≡ core_of next
    pub count : ℕ
    pub steps : Steps c tables (chain_of more x) count (there more next (core_step c words tables (core_of x)))
    pub falls : x.ended ≡ false → IsBusy x.place → count ≡ 0 → rank next.place < rank x.place

  stays_put : (x : Standing) (tables : List (List ℕ)) (more : List Item) → core_step c words tables (core_of x) ≡ (record { tables = tables; state = core_of x; event = shows.Nothing }) → (x.ended ≡ false → IsBusy x.place → ⊥) → Stepped x tables more
  stays_put x tables more e idle =
      record { next = x; is = ap (λ (turn : CoreTurn). turn.state) e; count = 0; steps = ap (there more x) e; falls = λ going busy none. absurd (idle going busy) }

  stepped_by : (place : Place) (st : Stands place) (s : Cells) (tables : List (List ℕ)) (more : List Item) → IsBusy place → Stepped (record { place = place; stands = st; cells = s; ended = false }) tables more
  stepped_by place st s tables more busy =
      let m = moves c words tables s place st busy in
      let p = m.pays more in
      let next : Standing = record { place = m.next; stands = m.stands; cells = m.turn.state.cells; ended = m.turn.state.ended } in
      record {
        next = next;
        is = ap (λ (turn : CoreTurn). turn.state) m.is ∙ ap (λ (list : List CoreItem). let v : CoreState = record m.turn.state { items = list } in v) m.leads;
        count = p.count;
        steps = subst (λ (turn : CoreTurn). Steps c tables (chain_at words s false (left place s.hidden ++ more)) p.count (there more next turn)) (sym m.is) p.steps;
        falls = λ going busy none. p.falls none;
      }

  step_at : (place : Place) (st : Stands place) (s : Cells) (ended : Bool) (tables : List (List ℕ)) (more : List Item) → Stepped (record { place = place; stands = st; cells = s; ended = ended }) tables more
  step_at place st s true tables more = stays_put _ tables more refl (λ going busy. cc going)
  step_at Done st s false tables more = stays_put _ tables more refl (λ going busy. busy)
  step_at (At d first rest here behind out worth frames) st s false tables more = stepped_by _ st s tables more tt
  step_at (Takes to table offset found d hit here behind out frames) st s false tables more = stepped_by _ st s tables more tt
  step_at (Turns d body here out frames) st s false tables more = stepped_by _ st s tables more tt

  step : (x : Standing) (tables : List (List ℕ)) (more : List Item) → Stepped x tables more
  step x tables more = step_at x.place x.stands x.cells x.ended tables more

  -- a feed of the chain for one of the core statements
  record Follower (x : Standing) (more : List Item) (feed : Feed) : Type 0 where
    pub other : Feed
    pub seen : chain_seen c other (chain_of more x) ≡ cores_seen c words feed (core_of x)
    pub last : Standing
    pub chain_last : chain_after c other (chain_of more x) ≡ chain_of more last
    pub cores_last : cores_along c words feed (core_of x) ≡ core_of last

  follower : (feed : Feed) (x : Standing) (more : List Item) → Follower x more feed
  follower [] x more = record { other = []; seen = refl; last = x; chain_last = refl; cores_last = refl }
  follower (tables ∷ feed) x more =
      let m = step x tables more in
      let f = follower feed m.next more in
      let turn = core_step c words tables (core_of x) in
      let h = fed c m.count tables (chain_of more x) (there more m.next turn) f.other m.steps in
      record {
        other = h.whole;
        seen = h.seen ∙ ap (seen_then tables turn.event) (f.seen ∙ ap (cores_seen c words feed) (sym m.is));
        last = f.last;
        chain_last = h.after ∙ f.chain_last;
        cores_last = ap (cores_along c words feed) m.is ∙ f.cores_last;
      }

  -- a feed of the core statements for one of the chain
  record Answer (x : Standing) (feed : Feed) : Type 0 where
    pub other : Feed
    pub seen : cores_seen c words other (core_of x) ≡ chain_seen c feed (chain_of [] x)
    pub last : Standing
    pub cores_last : cores_along c words other (core_of x) ≡ core_of last
    pub vars : (chain_after c feed (chain_of [] x)).vars ≡ last.cells.vars
    pub ended : (chain_after c feed (chain_of [] x)).ended ≡ last.ended
    pub done : (chain_after c feed (chain_of [] x)).items ≡ [] → last.ended ≡ false → items last.place ≡ []

  -- where nothing is left of the statement, the core statements come to their end by themselves
  record Finish (x : Standing) : Type 0 where
    pub other : Feed
    pub seen : cores_seen c words other (core_of x) ≡ []
    pub last : Standing
    pub cores_last : cores_along c words other (core_of x) ≡ core_of last
    pub vars : x.cells.vars ≡ last.cells.vars
    pub ended : false ≡ last.ended
    pub done : items last.place ≡ []

  abbrev mark : Item
  mark = TakeArgument 0

  -- a step of the chain would do what stands behind the statement
  no_step : {A : Type 0} (n : ℕ) (s : Cells) (tables : List (List ℕ)) (turn : Turn) (rest : List Item) → turn.chain.items ≡ rest ++ (mark ∷ []) → Steps c tables (chain_at words s false (mark ∷ [])) (suc n) turn → A
  unfolding item_does
  no_step n s tables turn rest e (running, inl (quiet, more)) = absurd (cc quiet)
  no_step n s tables turn rest e (running, inr (shown, more)) =
      let t : ChainState = chain_at words s false (mark ∷ []) in
      let quiet = quiet_run c n (first_does c tables t t.items).tables (first_does c tables t t.items).chain (silently turn) more refl in
      append_some rest mark (sym e ∙ quiet_done c n _ turn.chain refl quiet)

  no_count : (n : ℕ) (s : Cells) (tables : List (List ℕ)) (turn : Turn) (rest : List Item) → turn.chain.items ≡ rest ++ (mark ∷ []) → Steps c tables (chain_at words s false (mark ∷ [])) n turn → turn ≡ unchanged tables (chain_at words s false (mark ∷ []))
  no_count zero s tables turn rest e steps = steps
  no_count (suc n) s tables turn rest e steps = no_step n s tables turn rest e steps

  no_count_zero : (n : ℕ) (s : Cells) (tables : List (List ℕ)) (turn : Turn) (rest : List Item) → turn.chain.items ≡ rest ++ (mark ∷ []) → Steps c tables (chain_at words s false (mark ∷ [])) n turn → n ≡ 0
  no_count_zero zero s tables turn rest e steps = refl
  no_count_zero (suc n) s tables turn rest e steps = no_step n s tables turn rest e steps

  abbrev Finishes : ℕ → Type 0
  Finishes k = (place : Place) (st : Stands place) (s : Cells) → rank place < k → left place s.hidden ≡ [] → Finish (record { place = place; stands = st; cells = s; ended = false })

  finish_busy : (k : ℕ) → Finishes k → (place : Place) (st : Stands place) (s : Cells) → IsBusy place → rank place < suc k → left place s.hidden ≡ [] → Finish (record { place = place; stands = st; cells = s; ended = false })
  finish_busy k less_finish place st s busy few none =
      let x : Standing = record { place = place; stands = st; cells = s; ended = false } in
      let m = step x [] (mark ∷ []) in
      let turn = core_step c words [] (core_of x) in
      let next : Turn = there (mark ∷ []) m.next turn in
      let steps = subst (λ (list : List Item). Steps c [] (chain_at words s false (list ++ (mark ∷ []))) m.count next) none m.steps in
      let same : next ≡ unchanged [] (chain_at words s false (mark ∷ [])) = no_count m.count s [] next (left m.next.place m.next.cells.hidden) refl steps in
      let still : false ≡ m.next.ended = sym (ap (λ (u : Turn). u.chain.ended) same) in
      let nothing : left m.next.place m.next.cells.hidden ≡ [] = only_that (left m.next.place m.next.cells.hidden) mark (ap (λ (u : Turn). u.chain.items) same) in
      let less = m.falls refl busy (no_count_zero m.count s [] next (left m.next.place m.next.cells.hidden) refl steps) in
      let f = less_finish m.next.place m.next.stands m.next.cells (omega (arith, less, few)) nothing in
      let goes : core_of m.next ≡ cores_at m.next.cells (items m.next.place) = ap (λ (b : Bool). let v : CoreState = record { cells = m.next.cells; items = items m.next.place; ended = b } in v) (sym still) in
      record {
        other = [] ∷ f.other;
        seen = ap (λ (e : Obs). seen_then [] e (cores_seen c words f.other turn.state)) (ap (λ (u : Turn). u.event) same) ∙ ap (cores_seen c words f.other) (m.is ∙ goes) ∙ f.seen;
        last = f.last;
        cores_last = ap (cores_along c words f.other) (m.is ∙ goes) ∙ f.cores_last;
        vars = sym (ap (λ (u : Turn). u.chain.vars) same) ∙ f.vars;
        ended = f.ended;
        done = f.done;
      }

  finish_at : (k : ℕ) → Finishes k
  finish_at zero place st s few none = absurd (omega (arith, few))
  finish_at (suc k) place st s few none =
      elim (busy_or place) [
        | inl busy ↦ finish_busy k (finish_at k) place st s busy few none
        | inr over ↦ record { other = []; seen = refl; last = record { place = place; stands = st; cells = s; ended = false }; cores_last = refl; vars = refl; ended = refl; done = ap items over }
      ]

  -- a chain that does no more than it has done
  answer_still : (x : Standing) (feed : Feed) → chain_seen c feed (chain_of [] x) ≡ [] → (chain_after c feed (chain_of [] x)).vars ≡ x.cells.vars → (chain_after c feed (chain_of [] x)).ended ≡ x.ended →
      ((chain_after c feed (chain_of [] x)).items ≡ [] → x.ended ≡ false → items x.place ≡ []) → Answer x feed
  answer_still x feed seen vars ended done = record { other = []; seen = sym seen; last = x; cores_last = refl; vars = vars; ended = ended; done = done }

  answer_ended : (place : Place) (st : Stands place) (s : Cells) (feed : Feed) → Answer (record { place = place; stands = st; cells = s; ended = true }) feed
  answer_ended place st s feed =
      let x : Standing = record { place = place; stands = st; cells = s; ended = true } in
      let over = stopped c feed (chain_of [] x) refl in
      answer_still x feed over.0 (ap (λ (t : ChainState). t.vars) over.1) (ap (λ (t : ChainState). t.ended) over.1) (λ none going. absurd (cc going))

  answer_done : (place : Place) (st : Stands place) (s : Cells) (feed : Feed) → left place s.hidden ≡ [] → Answer (record { place = place; stands = st; cells = s; ended = false }) feed
  answer_done place st s feed none =
      let x : Standing = record { place = place; stands = st; cells = s; ended = false } in
      let f = finish_at (suc (rank place)) place st s (omega arith) none in
      let rests = idle c words s feed in
      let at : chain_of [] x ≡ chain_at words s false [] = ap (λ (list : List Item). chain_at words s false (list ++ [])) none in
      let after : chain_after c feed (chain_of [] x) ≡ chain_at words s false [] = ap (chain_after c feed) at ∙ rests.1 in
      record {
        other = f.other;
        seen = f.seen ∙ sym (ap (chain_seen c feed) at ∙ rests.0);
        last = f.last;
        cores_last = f.cores_last;
        vars = ap (λ (t : ChainState). t.vars) after ∙ f.vars;
        ended = ap (λ (t : ChainState). t.ended) after ∙ f.ended;
        done = λ none going. f.done;
      }

  answer_more : (x : Standing) (feed : Feed) (m : Stepped x (first_content c feed (chain_of [] x)) []) (n : ℕ) →
      (b : GoesBehind c n feed (chain_of [] x) (there [] m.next (core_step c words (first_content c feed (chain_of [] x)) (core_of x)))) → Answer m.next b.feed_left → Answer x feed
  answer_more x feed m n b a =
      let tables = first_content c feed (chain_of [] x) in
      let turn = core_step c words tables (core_of x) in
      let t = chain_after c feed (chain_of [] x) in
      let u = chain_after c b.feed_left (chain_of [] m.next) in
      record {
        other = tables ∷ a.other;
        seen = ap (seen_then tables turn.event) (ap (cores_seen c words a.other) m.is ∙ a.seen) ∙ sym b.seen;
        last = a.last;
        cores_last = ap (cores_along c words a.other) m.is ∙ a.cores_last;
        vars = later_vars c t u b.later ∙ a.vars;
        ended = later_ended c t u b.later ∙ a.ended;
        done = λ none going. a.done (later_done c t u b.later none) going;
      }

  abbrev Shorter : ℕ → Type 0
  Shorter k = (x : Standing) (feed : Feed) → length feed < k → Answer x feed

  abbrev Poorer : ℕ → ℕ → Type 0
  Poorer k w = (x : Standing) (feed : Feed) → length feed < suc k → rank x.place < w → Answer x feed

  answer_busy : (k w : ℕ) → Shorter k → Poorer k w → (place : Place) (st : Stands place) (s : Cells) (feed : Feed) → IsBusy place → 1 ≤ length feed → length feed < suc k → rank place < suc w → Answer (record { place = place; stands = st; cells = s; ended = false }) feed
  answer_busy k w shorter poorer place st s feed busy some few worth =
      let x : Standing = record { place = place; stands = st; cells = s; ended = false } in
      let tables = first_content c feed (chain_of [] x) in
      let m = step x tables [] in
      let turn = core_step c words tables (core_of x) in
      elim (behind c m.count feed (chain_of [] x) (there [] m.next turn) m.steps) [
        | inr no_more ↦ answer_still x feed no_more.seen no_more.vars no_more.ended (λ none going. absurd (no_more.busy none))
        | inl b ↦
            elim (zero_or m.count) [
              | inr some_count ↦ answer_more x feed m m.count b (shorter m.next b.feed_left (omega (arith, b.less some_count some, few)))
              | inl none ↦ answer_more x feed m m.count b (poorer m.next b.feed_left (omega (arith, b.shorter, few)) (omega (arith, m.falls refl busy none, worth)))
            ]
      ]

  answer_left : (k w : ℕ) → Shorter k → Poorer k w → (place : Place) (st : Stands place) (s : Cells) (feed : Feed) → length feed < suc k → rank place < suc w → (list : List Item) → left place s.hidden ≡ list → Answer (record { place = place; stands = st; cells = s; ended = false }) feed
  answer_left k w shorter poorer place st s feed few worth [] is = answer_done place st s feed is
  answer_left k w shorter poorer place st s [] few worth (item ∷ more) is =
      answer_still _ [] refl refl refl (λ none going. let e : (item ∷ more) ++ [] ≡ [] = sym (ap (λ (list : List Item). list ++ []) is) ∙ none in absurd (cc e))
  answer_left k w shorter poorer place st s (tables ∷ feed) few worth (item ∷ more) is =
      elim (busy_or place) [
        | inl busy ↦ answer_busy k w shorter poorer place st s (tables ∷ feed) busy (omega arith) few worth
        | inr over ↦ let e : [] ≡ item ∷ more = sym (ap (λ (p : Place). left p s.hidden) over) ∙ is in absurd (cc e)
      ]

  answer_by : (k w : ℕ) → Shorter k → Poorer k w → (place : Place) (st : Stands place) (s : Cells) (ended : Bool) (feed : Feed) → length feed < suc k → rank place < suc w → Answer (record { place = place; stands = st; cells = s; ended = ended }) feed
  answer_by k w shorter poorer place st s true feed few worth = answer_ended place st s feed
  answer_by k w shorter poorer place st s false feed few worth = answer_left k w shorter poorer place st s feed few worth (left place s.hidden) refl

  answer_at : (k : ℕ) → Shorter k → (w : ℕ) → Poorer k w
  answer_at k shorter zero x feed few worth = absurd (omega (arith, worth))
  answer_at k shorter (suc w) x feed few worth = answer_by k w shorter (answer_at k shorter w) x.place x.stands x.cells x.ended feed few worth

  answer : (k : ℕ) → Shorter k
  answer zero x feed few = absurd (omega (arith, few))
  answer (suc k) x feed few = answer_at k (answer k) (suc (rank x.place)) x feed few (omega arith)

  -- over tables that don't change
  record Came (x : Standing) (tables : List (List ℕ)) (u : CoreState) : Type 0 where
    pub last : Standing
    pub is : u ≡ core_of last
    pub reached : Reached c tables (chain_of [] x) tables (chain_of [] last)

  came : (n : ℕ) (x : Standing) (tables : List (List ℕ)) → Came x tables (cores_after c words tables n (core_of x))
  came zero x tables = record { last = x; is = refl; reached = record { count = 0; reaches = (refl, refl) } }
  came (suc n) x tables =
      let m = step x tables [] in
      let turn = core_step c words tables (core_of x) in
      let more = came n m.next tables in
      let reaches = subst (λ (list : List (List ℕ)). Reaches c m.count tables (chain_of [] x) list (chain_of [] m.next)) (step_tables c words tables (core_of x)) (steps_reach c m.count tables (chain_of [] x) (there [] m.next turn) m.steps) in
      record { last = more.last; is = ap (cores_after c words tables n) m.is ∙ more.is; reached = reach_then c m.count tables tables tables _ _ _ reaches more.reached }

-- where a statement begins
module _ (statement : Kernel) (first : Core) (rest : List Core) (co : Composes statement (first ∷ rest)) (c : ℕ) (words : List ℕ) (s : Cells) where
  abbrev start : Standing c words
  start = record {
    place = At co.depth first rest (λ h. source.Do statement ∷ []) (λ h. []) (λ h. []) statement_worth [];
    stands = (co.does, inl co.begins, (λ h. refl, λ h. refl), tt);
    cells = s;
    ended = false;
  }

  cores_start : cores_at s (do_cores (first ∷ rest)) ≡ core_of c words start
  cores_start = ap (λ (list : List CoreItem). cores_at s (Do first ∷ list)) (sym (append-nil (do_cores rest)))

pub becomes : (statement : Kernel) (cores : List Core) → Composes statement cores → Becomes statement cores
becomes statement [] co = absurd (cc co.begins)
becomes statement (first ∷ rest) co = record {
  statement_follows = λ c words s more feed.
      let is = cores_start statement first rest co c words s in
      let f = follower c words feed (start statement first rest co c words s) more in
      let u = ap (cores_along c words feed) is ∙ f.cores_last in (
        f.other,
        f.seen ∙ ap (cores_seen c words feed) (sym is),
        record { vars = ap (λ (t : ChainState). t.vars) f.chain_last ∙ sym (ap (λ (v : CoreState). v.cells.vars) u); ended = ap (λ (t : ChainState). t.ended) f.chain_last ∙ sym (ap (λ (v : CoreState). v.ended) u) },
        λ none.
            ap (λ (t : ChainState). t.items) f.chain_last
            ∙ ap (λ (list : List Item). list ++ more) (nothing_here f.last.place (sym (ap (λ (v : CoreState). v.items) u) ∙ none) f.last.cells.hidden),
      );
  cores_follow = λ c words s feed.
      let is = cores_start statement first rest co c words s in
      let a = answer c words (suc (length feed)) (start statement first rest co c words s) feed (omega arith) in
      let u = ap (cores_along c words a.other) is ∙ a.cores_last in (
        a.other,
        ap (cores_seen c words a.other) is ∙ a.seen,
        record { vars = a.vars ∙ sym (ap (λ (v : CoreState). v.cells.vars) u); ended = a.ended ∙ sym (ap (λ (v : CoreState). v.ended) u) },
        λ none going. ap (λ (v : CoreState). v.items) u ∙ a.done none (sym a.ended ∙ going),
      );
}

-- once the core statements are done over tables that don't change, so is the statement
pub comes : (statement : Kernel) (cores : List Core) → Composes statement cores → (c : ℕ) (words : List ℕ) (tables : List (List ℕ)) (s : Cells) (n : ℕ) (u : CoreState) → cores_after c words tables n (cores_at s (do_cores cores)) ≡ u → u.items ≡ [] →
    Reached c tables (chain_at words s false (source.Do statement ∷ [])) tables (chain_at words u.cells u.ended [])
comes statement [] co c words tables s n u is none = absurd (cc co.begins)
comes statement (first ∷ rest) co c words tables s n u is none =
    let x = start statement first rest co c words s in
    let end = came c words n x tables in
    let same : u ≡ core_of c words end.last = sym is ∙ ap (cores_after c words tables n) (cores_start statement first rest co c words s) ∙ end.is in
    let over : left end.last.place end.last.cells.hidden ≡ [] = nothing_here end.last.place (sym (ap (λ (v : CoreState). v.items) same) ∙ none) end.last.cells.hidden in
    let at : chain_of c words [] end.last ≡ chain_at words u.cells u.ended [] = ap (λ (list : List Item). chain_at words end.last.cells end.last.ended (list ++ [])) over ∙ ap (λ (v : CoreState). chain_at words v.cells v.ended []) (sym same) in
    subst (Reached c tables (chain_at words s false (source.Do statement ∷ [])) tables) at end.reached
