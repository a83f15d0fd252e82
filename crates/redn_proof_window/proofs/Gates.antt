-- Starts while a window is open: the first gate passes, a body goes into flight, the WAIT behind the bodies passes, and the ENABLE closes the window.
use Rattle.std.proofs.Common.{◌≡◌, ℕ, zero, suc, ◌+◌, ◌<◌, ◌≤◌, Bool, true, false, ◌==◌, List, [], ◌∷◌, ◌++◌, Some, length, refl, sym, ap, subst, ◌∙◌, arith, length-append}
use Rattle.std.specs.Prelude.{slice_get, slice_set, nat_le, nat_lt}
use Rattle.std.proofs.lemmas.Bool.{leb-true, le-leb}
use Rattle.std.proofs.lemmas.Bool.Decides.{nat_tests}
use Rattle.std.specs.FinMap.{get, remove}
use Rattle.redn_words.specs.declared.types.Request.{Request}
use Rattle.redn_words.specs.declared.types.Class.TheVariants as ask
use Rattle.redn_words.specs.declared.types.QueueRow.{QueueRow}
use Rattle.redn_words.specs.declared.types.Action.TheVariants.{Start}
use Rattle.redn_words.specs.declared.limits.TheConstants.{RECEIVE_BASE}
use Rattle.redn_words.specs.Requests.{decoded}
use Rattle.redn_words.specs.States.{Queue, State, slot_of}
use Rattle.redn_words.specs.Landings.{Change}
use Rattle.redn_words.specs.Steps.{class_of, flown, past_head, enabled_in, may_start, counter_of, may_raise}
use Rattle.redn_words.proofs.Actions as action
use Rattle.redn_words.specs.Laws.{row_at}
use Rattle.redn_words.proofs.Others.{may_raise_row}
use Rattle.redn_words.specs.Others.{row_may_raise}
use Rattle.redn_proof_window.specs.Windows.{By_gates, Opening, Body, Window, bodies_of, place_of, past_gate, slots_of, copy_of, request_of, signals, wait_of, enable_of, landed}
use Rattle.redn_proof_window.specs.Stages.{Orderly, Gated, Progress, written_in, all_written, Stage}
use Rattle.redn_proof_window.specs.Moves.{marks_due, Quiet, Closing, MayBegin}
use Rattle.redn_proof_window.proofs.Marks.{landed_flies, landed_passes, landed_before}
use Rattle.redn_proof_window.proofs.Places.{start_small, place_is, past_is, place_past, place_below, body_past, gate_before}
use Rattle.redn_proof_window.proofs.Windows.{all_signals, signals_past}
use Rattle.redn_proof_window.proofs.Stages.{gates_are, marked}
use Rattle.redn_proof_window.proofs.Turns.{marks_due_push, is_past, goes_past, turns, slot_is, window_flown, window_passed}
use Rattle.redn_proof_window.proofs.Rests.{window_rests}
use Rattle.redn_words.proofs.Missing.{missing_remove}
use Rattle.redn_words.specs.Missing.{missing}

some_same : (a b : List ℕ) → Some a ≡ Some b → a ≡ b
some_same a b e = cc

no_marks : (marks : List Bool) → length marks ≡ 0 → marks ≡ []
no_marks [] e = refl
no_marks (b ∷ marks) e = absurd (omega arith)

-- a queue reads its own counter
pub own_counter : (s : State) (q : ℕ) (u : Queue) → slice_get s.queues q ≡ Some u → q < RECEIVE_BASE → counter_of s u.row.domain q ≡ Some u.counter
unfolding counter_of
own_counter s q u there small =
    let test : nat_lt q RECEIVE_BASE ≡ true = grind (arith, nat_tests) in
    let own : (u.row.domain == u.row.domain) ≡ true = grind (arith, nat_tests) in
    rw (test, there, own) refl

module _ (w : Opening) (ok : Orderly w) (s : State) (t : Progress) (event : List Change) (h : Stage w s t event) where
  abbrev u : Queue
  u = t.queue

  abbrev done : ℕ
  done = t.done

  abbrev marks : List Bool
  marks = t.marks

  abbrev pub head : ℕ
  head = done + length marks

  -- what a start finds
  pub record AtHead (copy : List ℕ) : Type 0 where
    pub held : get u.held u.head ≡ Some copy
    pub inside : head < slots_of w
    pub same : copy ≡ copy_of w head
    pub slot : slot_of s.memory u.row u.head ≡ copy

  pub at_head : (copy : List ℕ) → get u.held u.head ≡ Some copy → AtHead copy
  at_head copy e =
      let its = h.window.held u.head copy e in
      let is = its.is in
      let at = h.window.head in
      let place : its.place ≡ head = omega arith in
      let inside : head < slots_of w = let high = its.high in omega arith in
      let same : copy ≡ copy_of w head = its.same ∙ ap (copy_of w) place in
      record { held = e; inside = inside; same = same; slot = slot_is w ok s t event h head u.head at inside ∙ sym same }

  -- fewer slots are to be fetched once head is past one
  fewer : (n : ℕ) → n ≡ head + 1 → missing (w.from + n) (remove u.held u.head) (w.from + slots_of w) ≤ missing (w.from + head) u.held (w.from + slots_of w)
  fewer n next =
      let at = h.window.head in
      let up : u.head + 1 ≡ w.from + n = omega arith in
      let m = missing_remove u.head (w.from + slots_of w) u.held in
      subst (λ k. missing (w.from + n) (remove u.held u.head) (w.from + slots_of w) ≤ missing k u.held (w.from + slots_of w)) at
      (subst (λ k. missing k (remove u.held u.head) (w.from + slots_of w) ≤ missing u.head u.held (w.from + slots_of w)) up m)

  -- a body flies
  pub flies_there : (copy : List ℕ) → AtHead copy → Body w head → class_of (decoded copy) ≡ ask.Flies
  flies_there copy at body =
      ap (λ (c : List ℕ). class_of (decoded c)) at.same ∙ ap (λ (k : ℕ). class_of (request_of w k)) (sym (place_past w head body.low)) ∙ ok.flying (past_gate w head) (body_past w head body)

  pub fly_turns : (copy : List ℕ) → AtHead copy → Body w head → Quiet w s t event (Start w.queue)
  fly_turns copy at body =
      let fly : class_of (decoded copy) ≡ ask.Flies = flies_there copy at body in
      let long : length (marks ++ false ∷ []) ≡ length marks + 1 = length-append marks (false ∷ []) in
      let few = fewer (done + length (marks ++ false ∷ [])) (omega (arith, long)) in
      turns w ok s t event h (Start w.queue) (record { queue = flown (past_head u) u.head copy; done = done; marks = marks ++ false ∷ [] }) (action.flown_is s w.queue u h.there copy at.held fly)
      (window_flown w u done marks h.window copy body at.same) (λ j l. landed_flies done marks (place_of w j)) (λ two l. l) (action.flies_quietly s w.queue u h.there copy at.held at.slot fly)
      (let low = body.low in let high = body.high in let past = past_is w head in let then_past = past_is w (done + length (marks ++ false ∷ [])) in let end = place_is w (bodies_of w) in
      let slots = place_is w (bodies_of w + length w.gates) in omega (arith, few, marks_due_push marks, long, low, high, past, then_past, end, slots)) (goes_past w ok s t event h)

  -- the WAIT before the bodies
  module _ (before : head < place_of w 0) (copy : List ℕ) (at : AtHead copy) where
    gate : (first : List ℕ) × (w.first_gate ≡ Some first) × (copy_of w 0 ≡ first)
    gate = gate_before w (let small = start_small w in omega (arith, before, small))

    head_first : head ≡ 0
    head_first = let small = start_small w in omega (arith, before, small)

    first_is : copy ≡ gate.0
    first_is = at.same ∙ ap (copy_of w) head_first ∙ gate.2

    first_waits : class_of (decoded copy) ≡ ask.Passes
    first_waits = ap (λ (c : List ℕ). class_of (decoded c)) first_is ∙ ok.first gate.0 gate.1

    first_counter : (n : ℕ) → counter_of s w.row.domain (decoded gate.0).first ≡ Some n → counter_of s u.row.domain (decoded copy).first ≡ Some n
    first_counter n there = ap (λ (row : QueueRow). counter_of s row.domain (decoded copy).first) h.window.row ∙ ap (λ (c : List ℕ). counter_of s w.row.domain (decoded c).first) first_is ∙ there

    passes_at : (n : ℕ) → counter_of s w.row.domain (decoded gate.0).first ≡ Some n → may_start s u (decoded copy) (class_of (decoded copy)) ≡ nat_le (decoded gate.0).second n
    passes_at n there =
        ap (may_start s u (decoded copy)) first_waits ∙ action.may_wait s w.queue u h.there (decoded copy) n (first_counter n there) ∙ ap (λ (c : List ℕ). nat_le (decoded c).second n) first_is

    -- one that starts has seen its counter come
    has_come : may_start s u (decoded copy) (class_of (decoded copy)) ≡ true → MayBegin w s done
    has_come may first is begun =
        let counter = h.waits first is in
        let same : gate.0 ≡ first = some_same gate.0 first (sym gate.1 ∙ is) in
        let there = subst (λ (c : List ℕ). counter_of s w.row.domain (decoded c).first ≡ Some counter.0) (sym same) counter.1 in
        let come = leb-true _ _ (sym (passes_at counter.0 there) ∙ may) in
        (counter.0, counter.1, subst (λ (c : List ℕ). (decoded c).second ≤ counter.0) same come)

    pub first_turns : may_start s u (decoded copy) (class_of (decoded copy)) ≡ true → Quiet w s t event (Start w.queue)
    first_turns may =
        let counter = h.waits gate.0 gate.1 in
        let there = first_counter counter.0 counter.1 in
        let small = start_small w in
        let none : marks ≡ [] = no_marks marks (omega (arith, before, small)) in
        let begun : done ≡ 0 = omega (arith, before, small) in
        let few = fewer (done + 1 + 0) (omega (arith, before, small)) in
        let no_signal : signals w (past_gate w done) ≡ signals w (past_gate w (done + 1)) = ap (signals w) (let one = past_is w done in let other = past_is w (done + 1) in omega (arith, one, other, before, small)) in
        turns w ok s t event h (Start w.queue) (record { queue = past_head u; done = done + 1; marks = [] }) (action.passed_is s w.queue u h.there copy at.held counter.0 first_waits there)
        (window_passed w u done marks h.window none (let inside = at.inside in omega arith) no_signal)
        (λ j l. landed_passes done (place_of w j) (let place = place_is w j in omega (arith, before, begun, place)) ∙ ap (λ m. landed done m (place_of w j)) (sym none))
        (λ is l. let two = (gates_are w ok is).two in let slots = place_is w (bodies_of w + length w.gates) in omega (arith, two, slots, begun, small))
        (action.passes_quietly s w.queue u h.there copy at.held at.slot counter.0 first_waits there)
        (let past = past_is w head in let then_past = past_is w (done + 1 + 0) in let inside = at.inside in omega (arith, few, past, then_past, inside, before, small)) (λ some. has_come may)

    -- and when it may
    pub may_begin : MayBegin w s done → may_start s u (decoded copy) (class_of (decoded copy)) ≡ true
    may_begin begins =
        let come = begins gate.0 gate.1 (let small = start_small w in omega (arith, before, small)) in
        passes_at come.0 come.1 ∙ le-leb (decoded gate.0).second come.0 come.2

  module _ (by : w.ending ≡ By_gates) (copy : List ℕ) (at : AtHead copy) where
    gated : Gated w
    gated = gates_are w ok by

    wait_is : head ≡ place_of w (bodies_of w) → decoded copy ≡ wait_of w
    wait_is place = ap decoded at.same ∙ ap (request_of w) place

    waits_for : head ≡ place_of w (bodies_of w) → counter_of s u.row.domain (decoded copy).first ≡ Some u.counter
    waits_for place = ap (λ (r : Request). counter_of s u.row.domain r.first) (wait_is place) ∙ ap (counter_of s u.row.domain) gated.own ∙ own_counter s w.queue u h.there ok.numbered

    -- when the WAIT may start
    pub may_pass : head ≡ place_of w (bodies_of w) → may_start s u (decoded copy) (class_of (decoded copy)) ≡ nat_le (w.counter + signals w (bodies_of w)) (w.counter + signals w (past_gate w done))
    may_pass place =
        ap (may_start s u (decoded copy)) (ap class_of (wait_is place) ∙ gated.waits) ∙ action.may_wait s w.queue u h.there (decoded copy) u.counter (waits_for place)
        ∙ ap (λ n. nat_le n u.counter) (ap (λ (r : Request). r.second) (wait_is place) ∙ gated.count) ∙ ap (nat_le (w.counter + signals w (bodies_of w))) h.window.counted

    -- a WAIT that starts has seen all bodies complete
    pub all_completed : head ≡ place_of w (bodies_of w) → may_start s u (decoded copy) (class_of (decoded copy)) ≡ true → (place_of w (bodies_of w) ≤ done) × (marks ≡ [])
    all_completed place may =
        let come : w.counter + signals w (bodies_of w) ≤ w.counter + signals w (past_gate w done) = leb-true _ _ (sym (may_pass place) ∙ may) in
        let all : bodies_of w ≤ past_gate w done = all_signals w ok.last (past_gate w done) (omega arith) in
        let none : marks ≡ [] = no_marks marks (by_length (length marks) refl all) in
        let empty : length marks ≡ 0 = ap length none in
        (omega (arith, empty, place), none)
      where
        by_length : (n : ℕ) → length marks ≡ n → bodies_of w ≤ past_gate w done → length marks ≡ 0
        by_length zero e all = e
        by_length (suc n) e all =
            let body : Body w (done + 0) = h.window.moving 0 (omega arith) in
            let low = body.low in
            let high = body.high in
            let past = past_is w done in
            let end = place_is w (bodies_of w) in
            absurd (omega (arith, all, low, high, past, end))

    pub wait_turns : head ≡ place_of w (bodies_of w) → may_start s u (decoded copy) (class_of (decoded copy)) ≡ true → Quiet w s t event (Start w.queue)
    wait_turns place may =
        let all = all_completed place may in
        let wait : class_of (decoded copy) ≡ ask.Passes = ap class_of (wait_is place) ∙ gated.waits in
        let empty : length marks ≡ 0 = ap length all.1 in
        let two = gated.two in
        let due : marks_due marks ≡ 0 = ap marks_due all.1 in
        let few = fewer (done + 1 + 0) (omega arith) in
        let behind = all.0 in
        let end = place_is w (bodies_of w) in
        let slots = place_is w (bodies_of w + length w.gates) in
        let past = past_is w done in
        let then_past = past_is w (done + 1) in
        let no_signal : signals w (past_gate w done) ≡ signals w (past_gate w (done + 1)) = signals_past w (past_gate w done) (omega (arith, behind, end, past))
        ∙ sym (signals_past w (past_gate w (done + 1)) (omega (arith, behind, end, then_past))) in
        turns w ok s t event h (Start w.queue) (record { queue = past_head u; done = done + 1; marks = [] }) (action.passed_is s w.queue u h.there copy at.held u.counter wait (waits_for place))
        (window_passed w u done marks h.window all.1 (omega (arith, slots, end, two, empty, place)) no_signal)
        (λ j l. landed_passes done (place_of w j) (let below = place_below w j (bodies_of w) l in omega (arith, below, behind)) ∙ ap (λ m. landed done m (place_of w j)) (sym all.1)) (λ is l. omega (arith, slots, end, two, empty, place))
        (action.passes_quietly s w.queue u h.there copy at.held at.slot u.counter wait (waits_for place))
        (let here = past_is w head in let gone = past_is w (done + 1 + 0) in omega (arith, few, due, empty, here, gone, slots, end, two, place)) (λ some. is_past w ok s t event h (omega (arith, behind, end)))

    enable_is : head ≡ place_of w (bodies_of w + 1) → decoded copy ≡ enable_of w
    enable_is place = ap decoded at.same ∙ ap (request_of w) place

    pub may_enable : head ≡ place_of w (bodies_of w + 1) → may_raise u.row.domain (slice_get s.queues (decoded copy).first) ≡ true
    may_enable place =
        ap (λ (r : Request). may_raise u.row.domain (slice_get s.queues r.first)) (enable_is place) ∙ may_raise_row u.row.domain (slice_get s.queues (enable_of w).first)
        ∙ ap (λ (row : QueueRow). row_may_raise row.domain (row_at s.queues (enable_of w).first)) h.window.row ∙ h.target by

    pub enable_closes : head ≡ place_of w (bodies_of w + 1) → Closing w s t event (Start w.queue)
    enable_closes place =
        let none : marks ≡ [] = no_marks marks (by_length (length marks) refl) in
        let empty : length marks ≡ 0 = ap length none in
        let two = gated.two in
        let enable : class_of (decoded copy) ≡ ask.Raises = ap class_of (enable_is place) ∙ gated.enables in
        let end = place_is w (bodies_of w) in
        let next = place_is w (bodies_of w + 1) in
        let slots = place_is w (bodies_of w + length w.gates) in
        let last : done + 1 ≡ slots_of w = omega (arith, empty, two, next, slots, place) in
        let all : place_of w (bodies_of w) ≤ done = omega (arith, empty, end, next, place) in
        let past = past_is w done in
        let then_past = past_is w (done + 1) in
        let no_signal : signals w (past_gate w done) ≡ signals w (past_gate w (done + 1)) = signals_past w (past_gate w done) (omega (arith, all, end, past))
        ∙ sym (signals_past w (past_gate w (done + 1)) (omega (arith, all, end, then_past))) in
        let window : Window w (past_head u) (slots_of w) [] = subst (λ n. Window w (past_head u) n []) last (window_passed w u done marks h.window none (omega (arith, last)) no_signal) in
        record {
          ends = by;
          then_queue = past_head u;
          all = all;
          last = let at_head = h.window.head in omega (arith, at_head, last, empty);
          is = action.raised_is s w.queue u h.there copy at.held enable (may_enable place) ∙ ap (λ (r : Request). record s { queues = enabled_in (slice_set s.queues w.queue (past_head u)) r.first r.second }) (enable_is place);
          rest = window_rests w (past_head u) (slots_of w) [] window refl;
          standing = marked w ok s.memory (written_in w t) event h.standing all_written (λ j p l. sym (landed_before done marks (place_of w j) (let below = place_below w j (bodies_of w) l in omega (arith, below, all))));
          silent = action.raises_quietly s w.queue u h.there copy at.held at.slot enable (may_enable place);
          spends = omega (arith, last, empty);
        }
      where
        by_length : (n : ℕ) → length marks ≡ n → length marks ≡ 0
        by_length zero e = e
        by_length (suc n) e = let last : Body w (done + n) = h.window.moving n (omega arith) in let high = last.high in let end = place_is w (bodies_of w) in let next = place_is w (bodies_of w + 1) in
            absurd (omega (arith, high, end, next, place, e))
