-- Fetches, starts and completions while a window is open.
use Rattle.std.proofs.Common.{◌≡◌, ◌≢◌, ℕ, suc, ◌+◌, ◌-◌, ◌<◌, ◌≤◌, ◌⊎◌, inl, inr, Bool, true, false, cond, eqb, List, [], ◌∷◌, ◌++◌, Option, Some, None, length, refl, sym, ap, subst, ◌∙◌, arith, length-append}
use Rattle.std.specs.Prelude.{slice_get, is_none, if◌then◌else◌}
use Rattle.std.proofs.lemmas.Bool.{false≢true, eqb-true, cases_lt}
use Rattle.std.proofs.lemmas.Bool.Decides.{nat_tests}
use Rattle.std.specs.FinMap.{get, insert, remove}
use Rattle.redn_words.specs.declared.types.Flight.{Flight}
use Rattle.redn_words.specs.declared.types.QueueRow.{QueueRow}
use Rattle.redn_words.specs.declared.types.Obs.TheVariants as shows
use Rattle.redn_words.specs.declared.types.Action.{Action}
use Rattle.redn_words.specs.declared.types.Action.TheVariants.{Fetch, Complete}
use Rattle.redn_words.specs.States.{Queue, State, slot_of}
use Rattle.redn_words.specs.Landings.{Change}
use Rattle.redn_words.specs.Steps.{possible, after, shown, with_queue_at, fetched, flown, past_head, signalled}
use Rattle.redn_words.proofs.Actions as action
use Rattle.redn_words.specs.Laws.{Fetches}
use Rattle.redn_words.proofs.Others.{set_other}
use Rattle.redn_words.specs.Bytes.{byte}
use Rattle.redn_proof_window.specs.Windows.{By_gates, Opening, Body, Window, Held, bodies_of, place_of, past_gate, slots_of, copy_of, request_of, body_of, signals, flight, flights_from, landed}
use Rattle.redn_proof_window.specs.Stages.{Orderly, Progress, landed_in, written_in, Stage}
use Rattle.redn_proof_window.specs.Moves.{marks_due, budget, budget_of, cost, MayBegin, Quiet}
use Rattle.redn_proof_window.proofs.Marks.{landed_completes}
use Rattle.redn_proof_window.proofs.Places.{place_is, past_is, place_past, body_past, body_inside, gate_first}
use Rattle.redn_proof_window.proofs.Windows.{flights_push, signals_more}
use Rattle.redn_proof_window.proofs.Stages.{gates_are, slot_stands, turned}
use Rattle.redn_words.proofs.Missing.{missing_insert, missing_insert_new}
use Rattle.redn_words.proofs.Copies.{get_insert, get_remove}

pub marks_due_push : (marks : List Bool) → marks_due (marks ++ false ∷ []) ≡ marks_due marks + 2
marks_due_push [] = refl
marks_due_push (true ∷ marks) = omega (arith, marks_due_push marks)
marks_due_push (false ∷ marks) = omega (arith, marks_due_push marks)

-- the queue after each kind of action
module _ (w : Opening) (u : Queue) (done : ℕ) (marks : List Bool) (h : Window w u done marks) where
  -- which place an index between head and limit is
  pub place_at : (i : ℕ) → Fetches u i → (k : ℕ) × (i ≡ w.from + k) × (done + length marks ≤ k) × (k < slots_of w)
  place_at i f =
      let low = f.ahead.low in
      let high = f.ahead.high in
      let head = h.head in
      let limit = h.limit in
      (i - w.from, omega arith, omega arith, omega arith)

  pub window_fetched : (k i : ℕ) (copy : List ℕ) → i ≡ w.from + k → done + length marks ≤ k → k < slots_of w → copy ≡ copy_of w k → Window w (fetched u i copy) done marks
  window_fetched k i copy at low high same =
      record { row = h.row; runs = h.runs; head = h.head; limit = h.limit; inside = h.inside; moving = h.moving; flights = h.flights; held = held; counted = h.counted }
    where
      held : (j : ℕ) (c : List ℕ) → get (insert u.held i copy) j ≡ Some c → Held w (done + length marks) j c
      held j c e = by_test (eqb j i) refl (sym (get_insert u.held i copy j) ∙ e)
        where
          by_test : (b : Bool) → eqb j i ≡ b → cond b (Some copy) (get u.held j) ≡ Some c → Held w (done + length marks) j c
          by_test true t q = let is : copy ≡ c = cc in record { place = k; is = eqb-true j i t ∙ at; low = low; high = high; same = sym is ∙ same }
          by_test false t q = h.held j c q

  held_past : (n : ℕ) → n ≡ (done + length marks) + 1 → (j : ℕ) (c : List ℕ) → get (remove u.held u.head) j ≡ Some c → Held w n j c
  held_past n next j c e = by_test (eqb j u.head) refl (sym (get_remove u.held u.head j) ∙ e)
    where
      by_test : (b : Bool) → eqb j u.head ≡ b → cond b None (get u.held j) ≡ Some c → Held w n j c
      by_test true t q = absurd (cc)
      by_test false t q =
          let old = h.held j c q in
          let ne : j ≢ u.head = grind (arith, nat_tests) in
          let is = old.is in
          let low = old.low in
          let head = h.head in
          record { place = old.place; is = old.is; low = omega (arith, ne); high = old.high; same = old.same }

  pub window_flown : (copy : List ℕ) → Body w (done + length marks) → copy ≡ copy_of w (done + length marks) → Window w (flown (past_head u) u.head copy) done (marks ++ false ∷ [])
  window_flown copy body same =
      let head = h.head in
      let long : length (marks ++ false ∷ []) ≡ length marks + 1 = length-append marks (false ∷ []) in
      let last : ◌≡◌ {A = Flight} (record { index = u.head; copy = copy; landed = false }) (flight w (done + length marks) false) = ap (λ (n : ℕ). record { index = n; copy = copy; landed = false }) h.head
      ∙ ap (λ (c : List ℕ). record { index = w.from + (done + length marks); copy = c; landed = false }) same in
      record {
        row = h.row;
        runs = h.runs;
        head = omega arith;
        limit = h.limit;
        inside = let inside = body_inside w (done + length marks) body in omega (arith, long, inside);
        moving = λ k l. by_place k (cases_lt k (length marks)) (omega (arith, l, long));
        flights = ap (λ (l : List Flight). l ++ record { index = u.head; copy = copy; landed = false } ∷ []) h.flights ∙ ap (λ (f : Flight). flights_from w done marks ++ f ∷ []) last
            ∙ sym (flights_push w done (done + length marks) marks refl);
        held = held_past (done + length (marks ++ false ∷ [])) (omega (arith, long));
        counted = h.counted;
      }
    where
      by_place : (k : ℕ) → (k < length marks) ⊎ (length marks ≤ k) → k < length marks + 1 → Body w (done + k)
      by_place k (inl low) l = h.moving k low
      by_place k (inr high) l = let at : length marks ≡ k = omega arith in subst (λ n. Body w (done + n)) at body

  -- a gate passes where nothing is in flight and no body completes
  pub window_passed : marks ≡ [] → done < slots_of w → signals w (past_gate w done) ≡ signals w (past_gate w (done + 1)) → Window w (past_head u) (done + 1) []
  window_passed none inside same =
      let head = h.head in
      let empty : length marks ≡ 0 = ap length none in
      record {
        row = h.row;
        runs = h.runs;
        head = omega arith;
        limit = h.limit;
        inside = omega arith;
        moving = λ k l. absurd (omega arith);
        flights = h.flights ∙ ap (flights_from w done) none;
        held = held_past (done + 1 + 0) (omega arith);
        counted = h.counted ∙ ap (λ n. w.counter + n) same;
      }

  -- the oldest in flight is a body
  pub first_body : (rest : List Bool) → {b : Bool} → marks ≡ b ∷ rest → Body w done
  first_body rest e = let long : length marks ≡ suc (length rest) = ap length e in let at : done + 0 ≡ done = omega arith in subst (Body w) at (h.moving 0 (omega arith))

  pub window_completed : (rest : List Bool) → marks ≡ true ∷ rest → Window w (record u { flights = flights_from w (done + 1) rest; counter = u.counter + signalled (flight w done true) }) (done + 1) rest
  window_completed rest e =
      let head = h.head in
      let inside = h.inside in
      let long : length marks ≡ suc (length rest) = ap length e in
      let body = first_body rest e in
      let past : past_gate w (done + 1) ≡ past_gate w done + 1 = (let low = body.low in let one = past_is w done in let other = past_is w (done + 1) in omega (arith, low, one, other)) in
      let flags : (body_of w (past_gate w done)).flags ≡ (request_of w done).flags = ap (λ (k : ℕ). (request_of w k).flags) (place_past w done body.low) in
      let next : done + length marks ≡ (done + 1) + length rest = omega arith in
      record {
        row = h.row;
        runs = h.runs;
        head = omega arith;
        limit = h.limit;
        inside = omega arith;
        moving = λ k l. let at : done + suc k ≡ (done + 1) + k = omega arith in subst (Body w) at (h.moving (suc k) (omega arith));
        flights = refl;
        held = λ i c q. subst (λ n. Held w n i c) next (h.held i c q);
        counted = let c = h.counted in let more = ap (signals w) past ∙ signals_more w (past_gate w done) (body_past w done body) in omega (arith, c, more, flags);
      }

module _ (w : Opening) (ok : Orderly w) (s : State) (t : Progress) (event : List Change) (h : Stage w s t event) where
  abbrev u : Queue
  u = t.queue

  abbrev done : ℕ
  done = t.done

  abbrev marks : List Bool
  marks = t.marks

  -- a slot between head and limit holds what was opened
  pub slot_is : (k i : ℕ) → i ≡ w.from + k → k < slots_of w → slot_of s.memory u.row i ≡ copy_of w k
  slot_is k i at l =
      ap (λ (row : QueueRow). slot_of s.memory row i) h.window.row ∙ ap (slot_of s.memory w.row) at ∙ slot_stands w ok s.memory (written_in w t) event h.standing k l

  -- a first gate that has passed
  pub is_past : place_of w 0 ≤ done → MayBegin w s done
  is_past low copy is begun = let one = gate_first w copy is in absurd (omega (arith, low, one, begun))

  pub goes_past : 0 < done → MayBegin w s done
  goes_past some copy is begun = absurd (omega (arith, some, begun))

  -- an action that turns this queue alone, shows nothing and leaves the window open
  pub turns : (a : Action) (now : Progress) → after s a ≡ with_queue_at s w.queue now.queue → Window w now.queue now.done now.marks → ((j : ℕ) → j < bodies_of w → landed_in w now j ≡ landed_in w t j)
      → (w.ending ≡ By_gates → done < slots_of w → now.done < slots_of w) → shown s a ≡ shows.Nothing → cost s a + budget_of w now ≤ budget_of w t → (0 < now.done → MayBegin w s done) → Quiet w s t event a
  turns a now is window same more silent spends begins =
      record {
        now = now;
        next = turned w ok s t now event h a is window same;
        silent = silent;
        begins = begins;
        same = λ l. same w.event l;
        private = λ p theirs. ap (λ (z : State). byte z.memory p) is;
        others = λ q ne. ap (λ (z : State). slice_get z.queues q) is ∙ set_other s.queues w.queue q now.queue ne;
        more = more;
        spends = spends;
      }

  pub fetch_turns : (i : ℕ) → possible s (Fetch w.queue i) ≡ true → Quiet w s t event (Fetch w.queue i)
  unfolding shown
  fetch_turns i p =
      let f = action.fetches s w.queue u h.there i p in
      let place = place_at w u done marks h.window i f in
      let copy : List ℕ = slot_of s.memory u.row i in
      let is = action.fetched_is s w.queue u h.there i in
      let same : copy ≡ copy_of w place.0 = slot_is place.0 i place.1 place.3 in
      turns (Fetch w.queue i) (record { queue = fetched u i copy; done = done; marks = marks }) is (window_fetched w u done marks h.window place.0 i copy place.1 place.2 place.3 same) (λ j l. refl) (λ two l. l) refl
      (spends copy place.0 place.1 place.2 place.3) goes_past
    where
      there : slice_get s.queues w.queue ≡ Some u
      there = h.there

      spends : (copy : List ℕ) (k : ℕ) → i ≡ w.from + k → done + length marks ≤ k → k < slots_of w → cost s (Fetch w.queue i) + budget w (insert u.held i copy) done marks ≤ budget w u.held done marks
      spends copy k at low high = rw there (by_held (get u.held i) refl)
        where
          by_held : (o : Option (List ℕ)) → get u.held i ≡ o → (if is_none o then 1 else 0) + budget w (insert u.held i copy) done marks ≤ budget w u.held done marks
          by_held None e = let m = missing_insert_new (w.from + (done + length marks)) i (w.from + slots_of w) u.held copy e (omega arith) (omega arith) in omega (arith, m)
          by_held (Some c) e = let m = missing_insert (w.from + (done + length marks)) i (w.from + slots_of w) u.held copy in omega (arith, m)

  pub complete_turns : possible s (Complete w.queue) ≡ true → Quiet w s t event (Complete w.queue)
  unfolding shown
  complete_turns p = let c = action.completes s w.queue u h.there p in by_marks c.oldest c.rest c.flights c.landed marks refl (sym h.window.flights ∙ c.flights)
    where
      by_marks : (f : Flight) (rest : List Flight) → u.flights ≡ f ∷ rest → f.landed ≡ true → (ms : List Bool) → marks ≡ ms → flights_from w done ms ≡ f ∷ rest → Quiet w s t event (Complete w.queue)
      by_marks f rest is lands [] e same = absurd (cc)
      by_marks f rest is lands (false ∷ ms) e same = let oldest : flight w done false ≡ f = cc in absurd (false≢true (ap (λ (x : Flight). x.landed) oldest ∙ lands))
      by_marks f rest is lands (true ∷ ms) e same =
          let flights : u.flights ≡ flight w done true ∷ flights_from w (done + 1) ms = is ∙ sym same in
          let long : length marks ≡ suc (length ms) = ap length e in
          let due : marks_due marks ≡ 1 + marks_due ms = ap marks_due e in
          let next : (done + 1) + length ms ≡ done + length marks = omega arith in
          let body = first_body w u done marks h.window ms e in
          let fewer : budget w u.held (done + 1) ms + 1 ≤ budget w u.held done marks = rw next (omega arith) in
          turns (Complete w.queue) (record { queue = record u { flights = flights_from w (done + 1) ms; counter = u.counter + signalled (flight w done true) }; done = done + 1; marks = ms })
          (action.completed_is s w.queue u h.there (flight w done true) (flights_from w (done + 1) ms) flights) (window_completed w u done marks h.window ms e)
          (λ j l. landed_completes done ms (place_of w j) ∙ ap (λ m. landed done m (place_of w j)) (sym e))
          (λ is l. let two = (gates_are w ok is).two in let high = body.high in let end = place_is w (bodies_of w) in let slots = place_is w (bodies_of w + length w.gates) in omega (arith, two, high, end, slots)) refl
          (omega (arith, fewer)) (λ some. is_past body.low)
