-- A queue of WAITs and ENABLEs alone, in slots that nothing writes: an entry queue or a control queue.
use Rattle.std.proofs.Common.{◌≡◌, ◌≢◌, ℕ, ◌+◌, ◌<◌, ◌≤◌, ◌⊎◌, inl, inr, Bool, true, false, cond, eqb, List, Option, Some, None, length, refl, sym, ap, subst, ◌∙◌, arith}
use Rattle.std.specs.Prelude.{slice_get, slice_set, is_none, nat_le, if◌then◌else◌}
use Rattle.std.proofs.lemmas.Bool.{eqb-true, leb-true}
use Rattle.std.proofs.lemmas.Bool.Decides.{nat_tests}
use Rattle.std.specs.FinMap.{get, insert, remove}
use Rattle.redn_words.specs.declared.types.Request.{Request}
use Rattle.redn_words.specs.declared.types.QueueRow.{QueueRow}
use Rattle.redn_words.specs.declared.types.Class.TheVariants as ask
use Rattle.redn_words.specs.declared.types.Action.{Action}
use Rattle.redn_words.specs.declared.types.Action.TheVariants.{Deliver, Fetch, Start, Land, Complete}
use Rattle.redn_words.specs.Requests.{decoded}
use Rattle.redn_words.specs.States.{Queue, State, slot_of}
use Rattle.redn_words.specs.Steps.{class_of, acts_on, possible, after, shown, with_queue_at, fetched, past_head, enabled_in, may_start, counter_of, may_raise, flying_in}
use Rattle.redn_words.proofs.Actions as action
use Rattle.redn_words.proofs.Others.{set_here, enabled_elsewhere}
use Rattle.redn_words.proofs.Missing.{missing_insert, missing_insert_new, missing_remove}
use Rattle.redn_words.specs.Missing.{missing}
use Rattle.redn_words.proofs.Copies.{get_insert, get_remove}
use Rattle.redn_proof_window.specs.Moves.{cost, AtRest, GoesOn}
use Rattle.redn_proof_window.specs.Gateways.{Gateway, gate_copy, gate_of, OrderlyGates, GateQueue, GateStage, gate_budget, MayPass, GateFetched, GateWaited, GateEnabled, GateMoves, Fetches, Waits, Enables}

module _ (g : Gateway) (ok : OrderlyGates g) (s : State) (u : Queue) (passed : ℕ) (h : GateStage g s u passed) where
  queue_fetched : (i : ℕ) (copy : List ℕ) → passed ≤ i → i < length g.gates → copy ≡ gate_copy g i → GateQueue g (fetched u i copy) passed
  queue_fetched i copy low high same =
      record { row = h.queue.row; runs = h.queue.runs; head = h.queue.head; limit = h.queue.limit; inside = h.queue.inside; flights = h.queue.flights; held = λ j c e. by_test j c (eqb j i) refl (sym (get_insert u.held i copy j) ∙ e) }
    where
      by_test : (j : ℕ) (c : List ℕ) (b : Bool) → eqb j i ≡ b → cond b (Some copy) (get u.held j) ≡ Some c → (passed ≤ j) × (j < length g.gates) × (c ≡ gate_copy g j)
      by_test j c true t q =
          let at : j ≡ i = eqb-true j i t in
          let is : copy ≡ c = cc in
          (omega arith, omega arith, sym is ∙ same ∙ sym (ap (gate_copy g) at))
      by_test j c false t q = h.queue.held j c q

  queue_passed : passed < length g.gates → GateQueue g (past_head u) (passed + 1)
  queue_passed more =
      let head = h.queue.head in
      record { row = h.queue.row; runs = h.queue.runs; head = omega arith; limit = h.queue.limit; inside = omega arith; flights = h.queue.flights; held = λ j c e. by_test j c (eqb j u.head) refl (sym (get_remove u.held u.head j) ∙ e) }
    where
      by_test : (j : ℕ) (c : List ℕ) (b : Bool) → eqb j u.head ≡ b → cond b None (get u.held j) ≡ Some c → (passed + 1 ≤ j) × (j < length g.gates) × (c ≡ gate_copy g j)
      by_test j c true t q = absurd (cc)
      by_test j c false t q =
          let old = h.queue.held j c q in
          let ne : j ≢ u.head = grind (arith, nat_tests) in
          let head = h.queue.head in
          (omega (arith, old.0, ne), old.1, old.2)

  fewer : missing (passed + 1) (remove u.held u.head) (length g.gates) ≤ missing passed u.held (length g.gates)
  fewer = subst (λ n. missing (n + 1) (remove u.held u.head) (length g.gates) ≤ missing n u.held (length g.gates)) h.queue.head (missing_remove u.head (length g.gates) u.held)

  -- a gate that passes: so it is where the WAIT's counter has come, and where the ENABLE may raise its target
  pub record GatePasses : Type 0 where
    pub copy : List ℕ
    pub more : passed < length g.gates
    pub held : get u.held u.head ≡ Some copy
    pub same : copy ≡ gate_copy g passed
    pub slot : slot_of s.memory u.row u.head ≡ copy
    pub may : may_start s u (decoded copy) (class_of (decoded copy)) ≡ true
    pub queue : GateQueue g (past_head u) (passed + 1)
    pub spends : 1 + gate_budget g (past_head u).held (passed + 1) ≤ gate_budget g u.held passed

  stage_left : (a : Action) (v : Queue) (n : ℕ) → after s a ≡ with_queue_at s g.queue v → GateQueue g v n → GateStage g (after s a) v n
  stage_left a v n is queue =
      record {
        there = ap (λ (t : State). slice_get t.queues g.queue) is ∙ set_here s.queues g.queue u v h.there;
        queue = queue;
        slots = λ k l. ap (λ (t : State). slot_of t.memory g.row k) is ∙ h.slots k l;
      }

  pub gate_fetches : (i : ℕ) → possible s (Fetch g.queue i) ≡ true → GateFetched g s u passed (Fetch g.queue i)
  unfolding shown
  gate_fetches i p =
      let f = action.fetches s g.queue u h.there i p in
      let head = h.queue.head in
      let limit = h.queue.limit in
      let low : passed ≤ i = let l = f.ahead.low in omega arith in
      let high : i < length g.gates = let l = f.ahead.high in omega arith in
      let copy : List ℕ = slot_of s.memory u.row i in
      let same : copy ≡ gate_copy g i = ap (λ (row : QueueRow). slot_of s.memory row i) h.queue.row ∙ h.slots i high in
      let is = action.fetched_is s g.queue u h.there i in
      record {
        then_queue = fetched u i copy;
        is = is;
        next = stage_left (Fetch g.queue i) (fetched u i copy) passed is (queue_fetched i copy low high same);
        silent = refl;
        spends = spends copy low high;
      }
    where
      there : slice_get s.queues g.queue ≡ Some u
      there = h.there

      spends : (copy : List ℕ) → passed ≤ i → i < length g.gates → cost s (Fetch g.queue i) + gate_budget g (insert u.held i copy) passed ≤ gate_budget g u.held passed
      spends copy low high = rw there (by_held (get u.held i) refl)
        where
          by_held : (o : Option (List ℕ)) → get u.held i ≡ o → (if is_none o then 1 else 0) + gate_budget g (insert u.held i copy) passed ≤ gate_budget g u.held passed
          by_held None e = let m = missing_insert_new passed i (length g.gates) u.held copy e low high in omega (arith, m)
          by_held (Some c) e = let m = missing_insert passed i (length g.gates) u.held copy in omega (arith, m)

  pub gate_starts : possible s (Start g.queue) ≡ true → GatePasses
  gate_starts p =
      let f = action.starts s g.queue u h.there p in
      let its = h.queue.held u.head f.copy f.held in
      let head = h.queue.head in
      let more : passed < length g.gates = let l = its.1 in omega arith in
      let same : f.copy ≡ gate_copy g passed = its.2 ∙ ap (gate_copy g) head in
      let few = fewer in
      record {
        copy = f.copy;
        more = more;
        held = f.held;
        same = same;
        slot = ap (λ (row : QueueRow). slot_of s.memory row u.head) h.queue.row ∙ ap (slot_of s.memory g.row) head ∙ h.slots passed more ∙ sym same;
        may = f.may;
        queue = queue_passed more;
        spends = omega (arith, few);
      }

  -- nothing of it lands or completes
  pub gate_lands_nothing : (i : ℕ) → possible s (Land g.queue i) ≡ true → ⊥
  gate_lands_nothing i p = let f = action.lands s g.queue u h.there i p in let none : flying_in i u.flights ≡ None = ap (flying_in i) h.queue.flights in cc (f.found, none)

  pub gate_completes_nothing : possible s (Complete g.queue) ≡ true → ⊥
  gate_completes_nothing p = let f = action.completes s g.queue u h.there p in cc (f.flights, h.queue.flights)

  module _ (pass : GatePasses) where
    gate_is : decoded pass.copy ≡ gate_of g passed
    gate_is = ap decoded pass.same

    -- a WAIT: its counter has come to what it waits for
    pub wait_passes : (n : ℕ) → class_of (gate_of g passed) ≡ ask.Passes → counter_of s u.row.domain (gate_of g passed).first ≡ Some n → GateWaited g s u passed (Start g.queue) n
    wait_passes n wait counter =
        let opcode : class_of (decoded pass.copy) ≡ ask.Passes = ap class_of gate_is ∙ wait in
        let there : counter_of s u.row.domain (decoded pass.copy).first ≡ Some n = ap (λ (r : Request). counter_of s u.row.domain r.first) gate_is ∙ counter in
        let is = action.passed_is s g.queue u h.there pass.copy pass.held n opcode there in
        let test : nat_le (decoded pass.copy).second n ≡ true = sym (ap (may_start s u (decoded pass.copy)) opcode ∙ action.may_wait s g.queue u h.there (decoded pass.copy) n there) ∙ pass.may in
        record {
          waits = wait;
          spends = pass.spends;
          come = leb-true (gate_of g passed).second n (ap (λ (r : Request). nat_le r.second n) (sym gate_is) ∙ test);
          next = stage_left (Start g.queue) (past_head u) (passed + 1) is pass.queue;
          is = is;
          silent = action.passes_quietly s g.queue u h.there pass.copy pass.held pass.slot n opcode there;
        }

    -- an ENABLE of another queue
    pub enable_passes : class_of (gate_of g passed) ≡ ask.Raises → may_raise u.row.domain (slice_get s.queues (gate_of g passed).first) ≡ true → g.queue ≢ (gate_of g passed).first → GateEnabled g s u passed (Start g.queue)
    enable_passes enable may other =
        let opcode : class_of (decoded pass.copy) ≡ ask.Raises = ap class_of gate_is ∙ enable in
        let allowed : may_raise u.row.domain (slice_get s.queues (decoded pass.copy).first) ≡ true = ap (λ (r : Request). may_raise u.row.domain (slice_get s.queues r.first)) gate_is ∙ may in
        let is : after s (Start g.queue) ≡ record s { queues = enabled_in (slice_set s.queues g.queue (past_head u)) (gate_of g passed).first (gate_of g passed).second } = action.raised_is s g.queue u h.there pass.copy pass.held opcode allowed ∙ ap (λ (r : Request). record s { queues = enabled_in (slice_set s.queues g.queue (past_head u)) r.first r.second }) gate_is in
        record {
          enables = enable;
          spends = pass.spends;
          next = record {
            there = ap (λ (t : State). slice_get t.queues g.queue) is ∙ enabled_elsewhere (slice_set s.queues g.queue (past_head u)) (gate_of g passed).first (gate_of g passed).second g.queue other ∙ set_here s.queues g.queue u (past_head u) h.there;
            queue = pass.queue;
            slots = λ k l. ap (λ (t : State). slot_of t.memory g.row k) is ∙ h.slots k l;
          };
          is = is;
          silent = action.raises_quietly s g.queue u h.there pass.copy pass.held pass.slot opcode allowed;
        }

  -- every possible action of the queue
  module _ (ready : MayPass g s passed) where
    own_row : u.row ≡ g.row
    own_row = h.queue.row

    gate_starts_moves : possible s (Start g.queue) ≡ true → GateMoves g s u passed (Start g.queue)
    gate_starts_moves p = let pass = gate_starts p in by_class pass (ok.each passed pass.more)
      where
        by_class : GatePasses → (class_of (gate_of g passed) ≡ ask.Passes) ⊎ (class_of (gate_of g passed) ≡ ask.Raises) → GateMoves g s u passed (Start g.queue)
        by_class pass (inl wait) =
            let there = ready.counter wait in
            Waits there.0 there.1 (wait_passes pass there.0 wait (ap (λ (row : QueueRow). counter_of s row.domain (gate_of g passed).first) own_row ∙ there.1))
        by_class pass (inr enable) =
            let target = ready.target enable in
            Enables (enable_passes pass enable (ap (λ (row : QueueRow). may_raise row.domain (slice_get s.queues (gate_of g passed).first)) own_row ∙ target.0) target.1)

    pub gates_move : (a : Action) → acts_on a ≡ Some g.queue → possible s a ≡ true → GateMoves g s u passed a
    gates_move (Deliver c) its p = absurd (cc)
    gates_move (Fetch q i) its p = let at : g.queue ≡ q = cc in subst (λ n. possible s (Fetch n i) ≡ true → GateMoves g s u passed (Fetch n i)) at (λ r. Fetches (gate_fetches i r)) p
    gates_move (Start q) its p = let at : g.queue ≡ q = cc in subst (λ n. possible s (Start n) ≡ true → GateMoves g s u passed (Start n)) at gate_starts_moves p
    gates_move (Land q i) its p = let at : g.queue ≡ q = cc in absurd (gate_lands_nothing i (subst (λ n. possible s (Land n i) ≡ true) (sym at) p))
    gates_move (Complete q) its p = let at : g.queue ≡ q = cc in absurd (gate_completes_nothing (subst (λ n. possible s (Complete n) ≡ true) (sym at) p))

  -- the next gate is fetched, or starts where it may
  pub gate_goes_on : passed < length g.gates → may_start s u (gate_of g passed) (class_of (gate_of g passed)) ≡ true → GoesOn s g.queue
  gate_goes_on more may = by_held (get u.held u.head) refl
    where
      there : slice_get s.queues g.queue ≡ Some u
      there = h.there

      by_held : (o : Option (List ℕ)) → get u.held u.head ≡ o → GoesOn s g.queue
      by_held None f =
          let head = h.queue.head in
          let limit = h.queue.limit in
          let room = ok.room in
          let slots = ap (λ (row : QueueRow). row.slots) h.queue.row in
          record {
            action = Fetch g.queue u.head;
            its = refl;
            can = action.can_fetch s g.queue u h.there u.head (record { runs = h.queue.runs; ahead = record { low = omega arith; high = omega arith; near = omega arith } });
            useful = rw (there, f) refl;
          }
      by_held (Some copy) f =
          let its = h.queue.held u.head copy f in
          let same : copy ≡ gate_copy g passed = its.2 ∙ ap (gate_copy g) h.queue.head in
          record {
            action = Start g.queue;
            its = refl;
            can = action.can_start s g.queue u h.there (record { copy = copy; runs = h.queue.runs; held = f; may = ap (λ (c : List ℕ). may_start s u (decoded c) (class_of (decoded c))) same ∙ may });
            useful = refl;
          }

-- gates that have all passed rest
pub gates_rest : (g : Gateway) (u : Queue) (passed : ℕ) → GateQueue g u passed → passed ≡ length g.gates → AtRest g.row (length g.gates) u.counter u
gates_rest g u passed h all =
    record { row_is = h.row; runs = h.runs; head = h.head ∙ all; limit = h.limit; flights = h.flights; held = λ i. none i (get u.held i) refl; counted = refl }
  where
    none : (i : ℕ) (o : Option (List ℕ)) → get u.held i ≡ o → get u.held i ≡ None
    none i None e = e
    none i (Some copy) e = let its = h.held i copy e in let low = its.0 in let high = its.1 in absurd (omega arith)
