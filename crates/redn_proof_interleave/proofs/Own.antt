-- What a chain's own action does, and what its machine does meanwhile.
use Rattle.std.proofs.Common.{◌≡◌, ◌≢◌, ℕ, ◌+◌, ◌<◌, ◌≤◌, inl, inr, Bool, true, false, List, [], Option, Some, None, length, refl, sym, ap, subst, ◌∙◌, arith}
use Rattle.std.specs.Prelude.{slice_get, slice_set, is_some}
use Rattle.std.proofs.lemmas.Bool.{cases_eq, true≢false}
use Rattle.redn_words.specs.declared.types.Obs.{Obs}
use Rattle.redn_words.specs.declared.types.Obs.TheVariants as shows
use Rattle.redn_words.specs.declared.types.QueueRow.{QueueRow}
use Rattle.redn_words.specs.declared.types.Request.{Request}
use Rattle.redn_words.specs.declared.types.Class.TheVariants as ask
use Rattle.redn_words.specs.declared.types.Action.{Action}
use Rattle.redn_words.specs.declared.types.Action.TheVariants.{Deliver, Fetch, Start, Land, Complete}
use Rattle.redn_words.specs.declared.limits.TheConstants.{RECEIVE_BASE}
use Rattle.redn_words.specs.States.{Queue, Chain, State}
use Rattle.redn_words.specs.Steps.{class_of, possible, after, shown, with_queue_at, past_head, stopped, may_raise, counter_of, chain_counter, enabled_in, acts_on}
use Rattle.redn_words.specs.Runs.{shown_then}
use Rattle.redn_words.specs.Landings.{Change}
use Rattle.redn_words.specs.Bytes.{byte}
use Rattle.redn_words.proofs.Others.{acting_there, may_raise_row, set_other, set_here}
use Rattle.redn_words.specs.Others.{row_may_raise}
use Rattle.redn_words.specs.Laws.{row_of}
use Rattle.redn_words.proofs.Domains.{length_stays}
use Rattle.redn_proof_window.specs.Stages.{Progress, landed_in, written_in, all_written}
use Rattle.redn_proof_window.specs.Windows.{Opening, bodies_of, place_of, landing_on}
use Rattle.redn_proof_window.proofs.Counters.{no_gate_counts}
use Rattle.redn_proof_window.proofs.Places.{place_below}
use Rattle.redn_proof_window.proofs.Marks.{landed_before, landed_past}
use Rattle.redn_proof_window.specs.Moves.{budget, budget_of, cost, Quiet, Telling, Faulting}
use Rattle.redn_proof_window.proofs.Ends.{first_budget}
use Rattle.redn_proof_window.proofs.Rests.{rests, stopped_rests, rest_like}
use Rattle.redn_proof_window.specs.Gateways.{GateQueue, GateStage, gate_of, gate_budget}
use Rattle.redn_proof_window.proofs.GateQueues.{gates_rest, gate_fetches, gate_starts, gate_lands_nothing, gate_completes_nothing, GatePasses, wait_passes, enable_passes}
use Rattle.redn_proof_window.specs.Scripts.{window_at, ChainAt, opened, ChainMoves, Stays, Shows, Ends, Goes_on, Going}
use Rattle.redn_proof_window.proofs.Chains.{chain_moves}
use Rattle.redn_proof_window.proofs.ChainSides.{entry_opens}
use Rattle.redn_image.specs.Faithful.{IsClean}
use Rattle.redn_proof_interleave.specs.Machines.{Contents, Many, Goes, run_tables, run_state, run_events, run_cost, AllGo}
use Rattle.redn_words.proofs.Inside.{chains_stay}
use Rattle.redn_proof_interleave.proofs.Leaves.{static_stays, received_counter}
use Rattle.redn_proof_interleave.specs.Forms.{Point, Form, World, chains_of, awake, whole, IsTold, SameMine, Promises, AllPromise, expected}
use Rattle.redn_proof_interleave.proofs.Relations.{Mailed, due, Entering, EntryOver, Inside, IsStill, Halts, Sleeps, Still, Failed, Stands, Enters, Opened, Over, Related}
use Rattle.redn_proof_interleave.proofs.Views.{IsOwn, entry_stage, ends_here}

module _ (g : World) where
  -- what an action of a chain does, and the steps that its machine takes meanwhile
  pub record Acts (c : ℕ) (s : State) (t : Contents) (y : g.M) (a : Action) (b : ℕ) : Type 0 where
    pub steps : ℕ
    pub woken : 0 < steps → awake g c ≡ true
    pub go : AllGo g.M (g.form c).machine steps t y
    pub showing : shown_then (shown s a) [] ≡ run_events g.M (g.form c).machine steps t y
    pub clean : IsClean (shown s a)
    pub tables : g.Tables (run_tables g.M (g.form c).machine steps t y) (after s a).memory
    pub left : ℕ
    pub stands : Stands g c (after s a) (run_state g.M (g.form c).machine steps t y) left
    pub spends : cost s a + left ≤ b + run_cost g.M (g.form c).machine steps t y

  module _ (all : AllPromise g) (c : ℕ) (l : c < chains_of g) (n : ℕ) (s : State) (z : Many g.M) (budgets : ℕ → ℕ) (r : Related g n s z budgets) where
    abbrev f : Form g.M
    f = g.form c

    k : Promises g c
    k = all.each c l

    -- no step of the machine
    quietly : (a : Action) (y : g.M) (b left : ℕ) → shown s a ≡ shows.Nothing → length (after s a).memory ≡ length s.memory → ((p : ℕ) → f.mine p ≡ false → byte (after s a).memory p ≡ byte s.memory p) → Stands g c (after s a) y left → cost s a + left ≤ b → Acts c s z.tables y a b
    quietly a y b left silent size same stands spends =
        record {
          steps = 0;
          woken = λ none. absurd (omega arith);
          go = tt;
          showing = ap (λ (o : Obs). shown_then o []) silent;
          clean = subst IsClean (sym silent) tt;
          tables = all.tables_same z.tables s.memory (after s a).memory size (λ p common. same p (not_mine p common)) r.tables;
          left = left;
          stands = stands;
          spends = omega (arith, spends);
        }
      where
        not_mine : (p : ℕ) → g.shared p ≡ true → f.mine p ≡ false
        not_mine p common = by_test (f.mine p) refl
          where
            by_test : (b : Bool) → f.mine p ≡ b → f.mine p ≡ false
            by_test true e = absurd (true≢false (sym common ∙ k.private p e))
            by_test false e = e

    woken_by : (s : State) → Mailed g c s true → awake g c ≡ true
    woken_by s h = ap is_some h.1

    -- some steps
    stepping : (a : Action) (y v : g.M) (b need have left : ℕ) (u : Contents) → awake g c ≡ true → IsClean (shown s a) → g.Tables u (after s a).memory → Goes g.M f.machine z.tables y (shown_then (shown s a) []) u v need have → Stands g c (after s a) v left → ((gain : ℕ) → need ≤ have + gain → cost s a + left ≤ b + gain) → Acts c s z.tables y a b
    stepping a y v b need have left u woken clean tables goes stands spends =
        record {
          steps = goes.steps;
          woken = λ some. woken;
          go = goes.go;
          showing = sym goes.telling;
          clean = clean;
          tables = subst (λ t. g.Tables t (after s a).memory) (sym goes.tables) tables;
          left = left;
          stands = subst (λ x. Stands g c (after s a) x left) (sym goes.state) stands;
          spends = spends (run_cost g.M f.machine goes.steps z.tables y) goes.enough;
        }

    -- rings aren't the entry
    ring_apart : (q : ℕ) → f.script.ring q ≡ true → q ≢ f.entry.queue
    ring_apart q ring e = true≢false (sym ring ∙ ap f.script.ring e ∙ k.entry.no_ring)

    -- the entry while its gates pass
    module _ (y : g.M) (b : ℕ) (h : Entering g c s y b) where
      stage : GateStage f.entry s h.u h.passed
      stage = entry_stage g c k s y b h

      turned : (a : Action) (v : Queue) (passed : ℕ) → after s a ≡ with_queue_at s f.entry.queue v → GateQueue f.entry v passed → passed < 2 → (0 < passed → h.came ≡ true) → Entering g c (after s a) y (due g c h.came + (gate_budget f.entry v.held passed + f.machine.cost f.begin))
      turned a v passed is queue few waited =
          record {
            u = v;
            passed = passed;
            came = h.came;
            there = ap (λ (t : State). slice_get t.queues f.entry.queue) is ∙ set_here s.queues f.entry.queue h.u v h.there;
            queue = queue;
            few = few;
            waited = waited;
            mailed = subst (λ (t : State). Mailed g c t h.came) (sym is) (same_mail h.came h.mailed);
            memory = subst (λ (t : State). SameMine g c t.memory (expected g c h.came)) (sym is) h.memory;
            rests = λ q ring. let old = h.rests q ring in record { u = old.u; there = ap (λ (t : State). slice_get t.queues q) is ∙ set_other s.queues f.entry.queue q v (ring_apart q ring) ∙ old.there; rest = old.rest };
            is = h.is;
            enough = omega arith;
          }
        where
          same_mail : (came : Bool) → Mailed g c s came → Mailed g c (with_queue_at s f.entry.queue v) came
          same_mail true m = m
          same_mail false m = m

      entry_fetches : (i : ℕ) → possible s (Fetch f.entry.queue i) ≡ true → Acts c s z.tables y (Fetch f.entry.queue i) b
      entry_fetches i p =
          let fetch = gate_fetches f.entry k.entry.orderly s h.u h.passed stage i p in
          let spends = fetch.spends in
          let enough = h.enough in
          quietly (Fetch f.entry.queue i) y b _ fetch.silent (ap (λ (t : State). length t.memory) fetch.is) (λ q theirs. ap (λ (t : State). byte t.memory q) fetch.is) (Enters (turned (Fetch f.entry.queue i) fetch.then_queue h.passed fetch.is fetch.next.queue h.few h.waited)) (omega (arith, spends, enough))

      domain_here : h.u.row.domain ≡ c
      domain_here = ap (λ (x : QueueRow). x.domain) h.queue.row ∙ k.entry.domain

      -- the WAIT passes once the message has come
      module _ (first : h.passed ≡ 0) (pass : GatePasses f.entry k.entry.orderly s h.u h.passed stage) where
        waits_for : (received : ℕ) → chain_counter (slice_get s.chains c) ≡ Some received → counter_of s h.u.row.domain (gate_of f.entry h.passed).first ≡ Some received
        waits_for received e =
            ap (counter_of s h.u.row.domain) (ap (λ (m : ℕ). (gate_of f.entry m).first) first ∙ k.entry.counter) ∙ ap (λ (d : ℕ). counter_of s d (RECEIVE_BASE + c)) domain_here ∙ received_counter s c ∙ e

        waiting : class_of (gate_of f.entry h.passed) ≡ ask.Passes
        waiting = ap (λ (m : ℕ). class_of (gate_of f.entry m)) first ∙ k.entry.waits

        for_one : (gate_of f.entry h.passed).second ≡ 1
        for_one = ap (λ (m : ℕ). (gate_of f.entry m).second) first ∙ k.entry.one

        by_mail : (came : Bool) → h.came ≡ came → Acts c s z.tables y (Start f.entry.queue) b
        by_mail true e =
            let mailed = subst (Mailed g c s) e h.mailed in
            let wait = wait_passes f.entry k.entry.orderly s h.u h.passed stage pass 1 waiting (waits_for 1 (ap chain_counter mailed.2)) in
            let spends = pass.spends in
            let enough = h.enough in
            quietly (Start f.entry.queue) y b _ wait.silent (ap (λ (t : State). length t.memory) wait.is) (λ q theirs. ap (λ (t : State). byte t.memory q) wait.is) (Enters (turned (Start f.entry.queue) (past_head h.u) (h.passed + 1) wait.is wait.next.queue (omega arith) (λ some. e))) (omega (arith, spends, enough))
        by_mail false e =
            let mailed = subst (Mailed g c s) e h.mailed in
            let begins = k.chain_begins in
            let none = begins.2 in
            let wait = wait_passes f.entry k.entry.orderly s h.u h.passed stage pass begins.0.received waiting (waits_for begins.0.received (ap chain_counter (mailed ∙ begins.1))) in
            let come = wait.come in
            absurd (omega (arith, come, for_one, none))

      -- the ENABLE opens the first window
      module _ (second : h.passed ≡ 1) (pass : GatePasses f.entry k.entry.orderly s h.u h.passed stage) where
        came : h.came ≡ true
        came = h.waited (omega arith)

        mailed : Mailed g c s true
        mailed = subst (Mailed g c s) came h.mailed

        ready : f.script.Ready f.first s.memory
        ready = k.prepared mailed.0 s.memory mailed.1 r.sound (subst (λ (b : Bool). SameMine g c s.memory (expected g c b)) came h.memory)

        enable_is : gate_of f.entry h.passed ≡ gate_of f.entry 1
        enable_is = ap (gate_of f.entry) second

        queue_is : (gate_of f.entry h.passed).first ≡ (f.script.window f.first s.memory).queue
        queue_is = ap (λ (q : Request). q.first) enable_is ∙ (k.opens s.memory ready).queue

        ring_there : f.script.ring (f.script.window f.first s.memory).queue ≡ true
        ring_there = k.script.ring_is f.first s.memory

        may : may_raise h.u.row.domain (slice_get s.queues (gate_of f.entry h.passed).first) ≡ true
        may =
            let rest = h.rests (f.script.window f.first s.memory).queue ring_there in
            may_raise_row h.u.row.domain (slice_get s.queues (gate_of f.entry h.passed).first) ∙ ap (λ (q : ℕ). row_may_raise h.u.row.domain (row_of (slice_get s.queues q))) queue_is ∙ ap (row_may_raise h.u.row.domain) (ap row_of rest.there ∙ ap (λ (x : QueueRow). Some x) rest.rest.row_is) ∙ ap (λ (d : ℕ). row_may_raise d (Some (f.script.row (f.script.window f.first s.memory).queue))) (domain_here ∙ sym (k.domain f.first s.memory)) ∙ k.script.managed f.first s.memory (f.script.window f.first s.memory).queue ring_there

        apart_from : f.entry.queue ≢ (gate_of f.entry h.passed).first
        apart_from e = ring_apart (f.script.window f.first s.memory).queue ring_there (sym (e ∙ queue_is))

        opens_first : Acts c s z.tables y (Start f.entry.queue) b
        opens_first =
            let o = k.opens s.memory ready in
            let enable = enable_passes f.entry k.entry.orderly s h.u h.passed stage pass (ap class_of enable_is ∙ k.entry.enables) may apart_from in
            let is : after s (Start f.entry.queue) ≡ record s { queues = enabled_in (slice_set s.queues f.entry.queue (past_head h.u)) (f.script.window f.first s.memory).queue (gate_of f.entry h.passed).second } = enable.is ∙ ap (λ (q : ℕ). record s { queues = enabled_in (slice_set s.queues f.entry.queue (past_head h.u)) q (gate_of f.entry h.passed).second }) queue_is in
            let begun = entry_opens f.script k.script s f.first ready (λ x m readied. no_gate_counts (f.script.window x m) s (k.no_first_gate x m)) h.rests (Start f.entry.queue) (slice_set s.queues f.entry.queue (past_head h.u))
            (gate_of f.entry h.passed).second (r.regions ∙ o.regions) (λ q ring. set_other s.queues f.entry.queue q (past_head h.u) (ring_apart q ring)) is (ap (λ (q : Request). q.second) enable_is ∙ o.limit) in
            let two = k.entry.two in
            let begin = k.begins s.memory z.tables ready in
            let few = first_budget (f.script.window f.first s.memory) begun.0.held in
            let spends = pass.spends in
            let enough = h.enough in
            stepping (Start f.entry.queue) y (f.state f.first None) b (whole (f.script.window f.first s.memory) + f.owed f.first None) (f.machine.cost f.begin) (budget (f.script.window f.first s.memory) begun.0.held 0 [] + f.owed f.first None) z.tables (woken_by s mailed) (subst IsClean (sym enable.silent) tt) (subst (λ (m : List ℕ). g.Tables z.tables m) (sym (ap (λ (t : State). t.memory) enable.is)) r.tables)
            (subst (λ (v : g.M). Goes g.M f.machine z.tables v (shown_then (shown s (Start f.entry.queue)) []) z.tables (f.state f.first None) (whole (f.script.window f.first s.memory) + f.owed f.first None) (f.machine.cost f.begin)) (sym h.is) (subst (λ (o : Obs). Goes g.M f.machine z.tables f.begin (shown_then o []) z.tables (f.state f.first None) (whole (f.script.window f.first s.memory) + f.owed f.first None) (f.machine.cost f.begin)) (sym enable.silent) begin))
            (Opened record {
              moment = opened f.script f.first s.memory begun.0;
              told = None;
              chain = begun.1;
              is_told = λ inside p. landed_past 0 [] (place_of (f.script.window f.first s.memory) (f.script.window f.first s.memory).event) (omega arith);
              over = record { u = past_head h.u; there = enable.next.there; rest = rest_like (gates_rest f.entry (past_head h.u) (h.passed + 1) enable.next.queue (omega arith)) refl (sym two) refl };
              mailed = (mailed.0, mailed.1, ap (λ (t : State). slice_get t.chains c) enable.is ∙ mailed.2);
              is = refl;
              enough = omega arith;
            })
            (λ gain brings. omega (arith, few, spends, enough, brings))

      entry_starts : possible s (Start f.entry.queue) ≡ true → Acts c s z.tables y (Start f.entry.queue) b
      entry_starts p =
          let pass = gate_starts f.entry k.entry.orderly s h.u h.passed stage p in
          let few = h.few in
          elim (cases_eq h.passed 0) [
            | inl first ↦ by_mail first pass h.came refl
            | inr ne ↦ opens_first (omega (arith, few, ne)) pass
          ]

      entry_moves : (a : Action) → acts_on a ≡ Some f.entry.queue → possible s a ≡ true → Acts c s z.tables y a b
      entry_moves (Deliver d) its p = absurd (cc)
      entry_moves (Fetch q i) its p = let at : f.entry.queue ≡ q = cc in subst (λ m. possible s (Fetch m i) ≡ true → Acts c s z.tables y (Fetch m i) b) at (entry_fetches i) p
      entry_moves (Start q) its p = let at : f.entry.queue ≡ q = cc in subst (λ m. possible s (Start m) ≡ true → Acts c s z.tables y (Start m) b) at entry_starts p
      entry_moves (Land q i) its p = let at : f.entry.queue ≡ q = cc in absurd (gate_lands_nothing f.entry k.entry.orderly s h.u h.passed stage i (subst (λ m. possible s (Land m i) ≡ true) (sym at) p))
      entry_moves (Complete q) its p = let at : f.entry.queue ≡ q = cc in absurd (gate_completes_nothing f.entry k.entry.orderly s h.u h.passed stage (subst (λ m. possible s (Complete m) ≡ true) (sym at) p))

      entering_moves : (a : Action) (q : ℕ) → acts_on a ≡ Some q → IsOwn g c q → possible s a ≡ true → Acts c s z.tables y a b
      entering_moves a q its (inl entry) p = entry_moves a (its ∙ ap (λ (m : ℕ). Some m) entry) p
      entering_moves a q its (inr ring) p = let rest = h.rests q ring in absurd (rests s q rest.u (f.script.row q) (f.script.at f.first q) (f.script.counted f.first q) rest.there rest.rest a its p)

    -- an entry that is over does nothing
    over_rests : EntryOver g c s → (a : Action) → acts_on a ≡ Some f.entry.queue → possible s a ≡ true → ⊥
    over_rests h a its p = rests s f.entry.queue h.u f.entry.row 2 h.u.counter h.there h.rest a its p

    over_after : EntryOver g c s → (a : Action) (q : ℕ) (u : Queue) → acts_on a ≡ Some q → f.script.ring q ≡ true → slice_get s.queues q ≡ Some u → EntryOver g c (after s a)
    over_after h a q u its ring there =
        record { u = h.u; there = static_stays s q u there a f.entry.queue h.u its (λ e. ring_apart q ring (sym e)) h.there (ap (λ (x : QueueRow). x.managed) h.rest.row_is ∙ k.entry.static); rest = h.rest }

    mailed_after : Mailed g c s true → (a : Action) (q : ℕ) (u : Queue) → acts_on a ≡ Some q → slice_get s.queues q ≡ Some u → Mailed g c (after s a) true
    mailed_after h a q u its there = (h.0, h.1, ap (λ (chains : List Chain). slice_get chains c) (chains_stay s q u there a its) ∙ h.2)

    -- after a fault
    failed_moves : (y : g.M) → Failed g c s y → (a : Action) (q : ℕ) → acts_on a ≡ Some q → IsOwn g c q → possible s a ≡ true → ⊥
    failed_moves y h a q its (inl entry) p = over_rests h.over a (its ∙ ap (λ (m : ℕ). Some m) entry) p
    failed_moves y h a q its (inr ring) p = by_still (h.rings q ring)
      where
        by_kind : (u : Queue) → slice_get s.queues q ≡ Some u → IsStill g c u → ⊥
        by_kind u there (Halts stops) = stopped_rests s q u there stops a its p
        by_kind u there (Sleeps row at counter rest) = rests s q u row at counter there rest a its p

        by_still : Still g c s q → ⊥
        by_still w = by_kind w.u w.there w.still

    -- a window's queue acts
    module _ (few : n < g.most) (y : g.M) (b : ℕ) (h : Inside g c s y b) where
      abbrev w : Opening
      w = window_at f.script h.moment

      abbrev progress : Progress
      progress = h.moment.progress

      abbrev x : Point g c
      x = h.moment.point

      abbrev Moves : Action → Type 0
      Moves a = ChainMoves f.script k.script s h.moment h.chain a

      below_most : progress.queue.head < f.script.most
      below_most = let low = r.heads w.queue progress.queue h.chain.stage.there in let most = k.most in omega arith

      not_ours : (p : ℕ) → f.mine p ≡ false → w.ours p ≡ false
      not_ours p theirs = by_test (w.ours p) refl
        where
          by_test : (b : Bool) → w.ours p ≡ b → w.ours p ≡ false
          by_test true e = absurd (true≢false (sym (k.ours x h.moment.memory p e) ∙ theirs))
          by_test false e = e

      module _ (a : Action) (q : ℕ) (u : Queue) (its : acts_on a ≡ Some q) (ring : f.script.ring q ≡ true) (there : slice_get s.queues q ≡ Some u) where
        size_after : length (after s a).memory ≡ length s.memory
        size_after = length_stays s q u there (ends_here g all n s z budgets r) a its

        told_still : (now : Progress) (told : Option (List Change)) → (w.event < bodies_of w → landed_in w now w.event ≡ landed_in w progress w.event) → IsTold w (written_in w progress) h.moment.event told
            → IsTold w (written_in w now) h.moment.event told
        told_still now None same t = λ inside p. same inside ∙ t inside p
        told_still now (Some e) same t = (t.0, (λ p. same t.0 ∙ t.1 p), t.2)

        window_turns : (quiet : Quiet w s progress h.moment.event a) → ChainAt f.script (after s a) (record h.moment { progress = quiet.now }) → Acts c s z.tables y a b
        window_turns m chain =
            let spends = m.spends in
            let enough = h.enough in
            quietly a y b (budget_of w m.now + f.owed x h.told) m.silent size_after (λ p theirs. m.private p (not_ours p theirs))
            (Opened record {
              moment = record h.moment { progress = m.now };
              told = h.told;
              chain = chain;
              is_told = told_still m.now h.told m.same h.is_told;
              over = over_after h.over a q u its ring there;
              mailed = mailed_after h.mailed a q u its there;
              is = h.is;
              enough = omega arith;
            }) (omega (arith, spends, enough))

        -- before the event has landed
        untold : (told : Option (List Change)) → w.event < bodies_of w → landed_in w progress w.event ≡ false → IsTold w (written_in w progress) h.moment.event told → told ≡ None
        untold None inside unlanded t = refl
        untold (Some e) inside unlanded t = absurd (true≢false (sym (t.1 0) ∙ unlanded))

        event_tells : (telling : Telling w s progress h.moment.event a) → ChainAt f.script (after s a) (record h.moment { progress = telling.now; event = (landing_on w s.memory w.event).writes }) → Acts c s z.tables y a b
        event_tells m chain =
            let none = untold h.told m.inside m.unlanded h.is_told in
            let t = k.tells x h.moment.memory s.memory z.tables (record { ready = h.chain.ready; sound = r.sound; agrees = m.agrees; inside = m.inside; tables = r.tables }) m.allowed in
            let writes : List Change = (landing_on w s.memory w.event).writes in
            let before : y ≡ f.state x None = h.is ∙ ap (f.state x) none in
            let spends = m.spends in
            let enough = subst (λ (told : Option (List Change)). budget_of w progress + f.owed x told ≤ b) none h.enough in
            stepping a y (f.state x (Some writes)) b (f.owed x (Some writes)) (f.owed x None) (budget_of w m.now + f.owed x (Some writes)) t.then_tables (woken_by s h.mailed) (subst IsClean (sym m.telling) t.clean) (subst (g.Tables t.then_tables) (sym m.memory) t.has)
            (subst (λ (v : g.M). Goes g.M f.machine z.tables v (shown_then (shown s a) []) t.then_tables (f.state x (Some writes)) (f.owed x (Some writes)) (f.owed x None)) (sym before) (subst (λ (o : Obs). Goes g.M f.machine z.tables (f.state x None) (shown_then o []) t.then_tables (f.state x (Some writes)) (f.owed x (Some writes)) (f.owed x None)) (sym m.telling) t.goes))
            (Opened record {
              moment = record h.moment { progress = m.now; event = writes };
              told = Some writes;
              chain = chain;
              is_told = (m.inside, (λ p. m.lands), refl);
              over = over_after h.over a q u its ring there;
              mailed = mailed_after h.mailed a q u its there;
              is = refl;
              enough = omega arith;
            })
            (λ gain brings. omega (arith, spends, enough, brings))

        -- the event's fault ends the chain
        event_fails : Faulting w s progress h.moment.event a → Acts c s z.tables y a b
        event_fails m =
            let none = untold h.told m.inside m.unlanded h.is_told in
            let t = k.fails x h.moment.memory s.memory z.tables (record { ready = h.chain.ready; sound = r.sound; agrees = m.agrees; inside = m.inside; tables = r.tables }) m.refused in
            let before : y ≡ f.state x None = h.is ∙ ap (f.state x) none in
            let spends = m.spends in
            let enough = h.enough in
            let memory : (after s a).memory ≡ s.memory = ap (λ (t : State). t.memory) m.is in
            let holds : f.Holds (f.state x None) s.memory = subst (λ (told : Option (List Change)). f.Holds (f.state x told) s.memory) none
            (k.holds x h.moment.memory s.memory (written_in w progress) h.moment.event h.told h.chain.ready (λ all. h.chain.wrote (all 0)) h.is_told h.chain.stage.standing) in
            stepping a y (f.failed x) b 0 0 0 z.tables (woken_by s h.mailed) (subst IsClean (sym m.telling) t.clean) (subst (g.Tables z.tables) (sym memory) r.tables)
            (subst (λ (v : g.M). Goes g.M f.machine z.tables v (shown_then (shown s a) []) z.tables (f.failed x) 0 0) (sym before) (subst (λ (o : Obs). Goes g.M f.machine z.tables (f.state x None) (shown_then o []) z.tables (f.failed x) 0 0) (sym m.telling) t.goes))
            (Over record {
              rings = rings_after m;
              over = over_after h.over a q u its ring there;
              mailed = mailed_after h.mailed a q u its there;
              ended = t.ended;
              holds = subst (f.Holds (f.failed x)) (sym memory) (k.holds_failed x s.memory holds);
            })
            (λ gain brings. omega (arith, spends, enough))
          where
            rings_after : Faulting w s progress h.moment.event a → (p : ℕ) → f.script.ring p ≡ true → Still g c (after s a) p
            rings_after m p own =
                elim (cases_eq p w.queue) [
                  | inl same ↦ record { u = stopped progress.queue; there = ap (slice_get (after s a).queues) same ∙ ap (λ (t : State). slice_get t.queues w.queue) m.is ∙ set_here s.queues w.queue progress.queue (stopped progress.queue) h.chain.stage.there; still = Halts refl }
                  | inr ne ↦ let old = h.chain.others p own ne in record { u = old.u; there = ap (λ (t : State). slice_get t.queues p) m.is ∙ set_other s.queues w.queue p (stopped progress.queue) ne ∙ old.there; still = Sleeps (f.script.row p) (f.script.at x p) (f.script.counted x p) old.rest }
                ]

        -- the next window opens
        goes_further : Going f.script k.script s h.moment h.chain a → Acts c s z.tables y a b
        goes_further m =
            let all_landed : (j : ℕ) → j < bodies_of w → landed_in w progress j ≡ true = λ j inside. let over = m.all in let below = place_below w j (bodies_of w) inside in
            landed_before progress.done progress.marks (place_of w j) (omega (arith, over, below)) in
            let told : IsTold w all_written h.moment.event h.told = all_told h.told (λ inside. all_landed w.event inside) h.is_told in
            let then : Point g c = (k.script.behind x h.moment.memory h.moment.event s.memory m.over).0 in
            let goes = k.moves_on x h.moment.memory h.moment.event s.memory h.told z.tables m.over told in
            let cheap = first_budget (f.script.window then s.memory) m.then_queue.held in
            let spends = m.spends in
            let enough = h.enough in
            stepping a y (f.state then None) b (whole (f.script.window then s.memory) + f.owed then None) (f.owed x h.told) (budget (f.script.window then s.memory) m.then_queue.held 0 [] + f.owed then None) z.tables (woken_by s h.mailed) (subst IsClean (sym m.silent) tt) (subst (g.Tables z.tables) (sym m.memory) r.tables)
            (subst (λ (v : g.M). Goes g.M f.machine z.tables v (shown_then (shown s a) []) z.tables (f.state then None) (whole (f.script.window then s.memory) + f.owed then None) (f.owed x h.told)) (sym h.is) (subst (λ (o : Obs). Goes g.M f.machine z.tables (f.state x h.told) (shown_then o []) z.tables (f.state then None) (whole (f.script.window then s.memory) + f.owed then None) (f.owed x h.told)) (sym m.silent) goes))
            (Opened record {
              moment = opened f.script then s.memory m.then_queue;
              told = None;
              chain = m.next;
              is_told = λ inside p. landed_past 0 [] (place_of (f.script.window then s.memory) (f.script.window then s.memory).event) (omega arith);
              over = over_after h.over a q u its ring there;
              mailed = mailed_after h.mailed a q u its there;
              is = refl;
              enough = omega arith;
            })
            (λ gain brings. omega (arith, cheap, spends, enough, brings))
          where
            all_told : (told : Option (List Change)) → (w.event < bodies_of w → landed_in w progress w.event ≡ true) → IsTold w (written_in w progress) h.moment.event told → IsTold w all_written h.moment.event told
            all_told None lands t = λ inside p. absurd (true≢false (sym (lands inside) ∙ t inside p))
            all_told (Some e) lands t = (t.0, (λ p. refl), t.2)

        by_moves : Moves a → Acts c s z.tables y a b
        by_moves (Stays m chain) = window_turns m chain
        by_moves (Shows m chain) = event_tells m chain
        by_moves (Ends m) = event_fails m
        by_moves (Goes_on m) = goes_further m

      inside_moves : (a : Action) (q : ℕ) → acts_on a ≡ Some q → IsOwn g c q → possible s a ≡ true → Acts c s z.tables y a b
      inside_moves a q its (inl entry) p = absurd (over_rests h.over a (its ∙ ap (λ (m : ℕ). Some m) entry) p)
      inside_moves a q its (inr ring) p =
          let u = acting_there s a q its p in
          by_moves a q u.0 its ring u.1 (chain_moves f.script k.script s h.moment h.chain below_most r.sound a q its ring p)

    -- every possible action of the chain's queues
    pub own_acts : n < g.most → (y : g.M) (b : ℕ) → Stands g c s y b → (a : Action) (q : ℕ) → acts_on a ≡ Some q → IsOwn g c q → possible s a ≡ true → Acts c s z.tables y a b
    own_acts few y b (Enters h) a q its own p = entering_moves y b h a q its own p
    own_acts few y b (Opened h) a q its own p = inside_moves few y b h a q its own p
    own_acts few y b (Over h) a q its own p = absurd (failed_moves y h a q its own p)
