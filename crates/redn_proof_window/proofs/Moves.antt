-- The window lemma: what each action makes of a state while a window is open.
use Rattle.std.proofs.Common.{◌≡◌, ℕ, ◌+◌, ◌<◌, ◌≤◌, ◌⊎◌, inl, inr, Bool, true, false, List, [], ◌∷◌, Option, Some, None, length, refl, sym, ap, subst, ◌∙◌, arith}
use Rattle.std.specs.Prelude.{slice_get}
use Rattle.std.proofs.lemmas.Bool.{cases_Bool, cases_eq, le-leb}
use Rattle.std.specs.FinMap.{get}
use Rattle.redn_words.specs.declared.types.QueueRow.{QueueRow}
use Rattle.redn_words.specs.declared.types.Class.TheVariants as ask
use Rattle.redn_words.specs.declared.types.Action.{Action}
use Rattle.redn_words.specs.declared.types.Action.TheVariants.{Deliver, Fetch, Start, Land, Complete}
use Rattle.redn_words.specs.Requests.{decoded}
use Rattle.redn_words.specs.States.{Queue, State}
use Rattle.redn_words.specs.Landings.{Change}
use Rattle.redn_words.specs.Steps.{class_of, possible, may_start, flying_in, acts_on}
use Rattle.redn_words.proofs.Actions as action
use Rattle.redn_words.specs.Others.{row_may_raise}
use Rattle.redn_proof_window.specs.Windows.{Ending, By_gates, Last, Followed, Opening, bodies_of, place_of, past_gate, slots_of, request_of, landing_on, flight, flights_from, signals}
use Rattle.redn_proof_window.specs.Stages.{IsEnding, Orderly, Progress, Stage}
use Rattle.redn_proof_window.specs.Moves.{Moves, Silent, Tells, Faults, Closes, GoesOn, MayBegin, SameHere}
use Rattle.redn_proof_window.proofs.Places.{place_is, past_is, stands_at}
use Rattle.redn_proof_window.proofs.Windows.{Flying, flying, oldest_flies, all_signals}
use Rattle.redn_proof_window.proofs.Stages.{gates_are}
use Rattle.redn_proof_window.proofs.Turns.{fetch_turns, complete_turns}
use Rattle.redn_proof_window.proofs.Gates.{AtHead, at_head, first_turns, may_begin, flies_there, fly_turns, wait_turns, enable_closes, may_pass}
use Rattle.redn_proof_window.proofs.Landings.{plain_lands, event_lands, event_faults}

module _ (w : Opening) (ok : Orderly w) (s : State) (t : Progress) (event : List Change) (h : Stage w s t event) where
  abbrev u : Queue
  u = t.queue

  abbrev done : ℕ
  done = t.done

  abbrev marks : List Bool
  marks = t.marks

  abbrev MovesBy : Action → Type 0
  MovesBy a = Moves w s t event a

  no_slot : length w.gates ≡ 0 → place_of w (bodies_of w) ≤ done + length marks → done + length marks < slots_of w → ⊥
  no_slot none behind inside =
      let end = place_is w (bodies_of w) in
      let slots = place_is w (bodies_of w + length w.gates) in
      omega (arith, none, behind, inside, end, slots)

  -- only gates stand behind the bodies
  gates_behind : place_of w (bodies_of w) ≤ done + length marks → done + length marks < slots_of w → w.ending ≡ By_gates
  gates_behind behind inside = by_ending w.ending refl
    where
      by_ending : (e : Ending) → w.ending ≡ e → w.ending ≡ By_gates
      by_ending By_gates is = is
      by_ending Last is = absurd (no_slot (subst (IsEnding w) is ok.gates) behind inside)
      by_ending Followed is = absurd (no_slot (subst (IsEnding w) is ok.gates) behind inside)

  -- one of the two gates
  abbrev IsGate : Type 0
  IsGate = (done + length marks ≡ place_of w (bodies_of w)) ⊎ (done + length marks ≡ place_of w (bodies_of w + 1))

  gate_place : w.ending ≡ By_gates → place_of w (bodies_of w) ≤ done + length marks → done + length marks < slots_of w → IsGate
  gate_place by behind inside =
      let two = (gates_are w ok by).two in
      let end = place_is w (bodies_of w) in
      let next = place_is w (bodies_of w + 1) in
      let slots = place_is w (bodies_of w + length w.gates) in
      elim (cases_eq (done + length marks) (place_of w (bodies_of w))) [ inl at ↦ inl at | inr ne ↦ inr (omega (arith, ne, behind, inside, two, end, next, slots)) ]

  start_moves : possible s (Start w.queue) ≡ true → MovesBy (Start w.queue)
  start_moves p =
      let d = action.starts s w.queue u h.there p in
      by_place d.copy (at_head w ok s t event h d.copy d.held) d.may
    where
      by_gate : (copy : List ℕ) (at : AtHead w ok s t event h copy) → may_start s u (decoded copy) (class_of (decoded copy)) ≡ true → (by : w.ending ≡ By_gates) → IsGate → MovesBy (Start w.queue)
      by_gate copy at may by (inl wait) = Silent (wait_turns w ok s t event h by copy at wait may)
      by_gate copy at may by (inr enable) = Closes (enable_closes w ok s t event h by copy at enable)

      by_place : (copy : List ℕ) → AtHead w ok s t event h copy → may_start s u (decoded copy) (class_of (decoded copy)) ≡ true → MovesBy (Start w.queue)
      by_place copy at may =
          elim (stands_at w (done + length marks)) [
            | inl before ↦ Silent (first_turns w ok s t event h before copy at may)
            | inr (inl body) ↦ Silent (fly_turns w ok s t event h copy at body)
            | inr (inr behind) ↦ let by = gates_behind behind at.inside in by_gate copy at may by (gate_place by behind at.inside)
          ]

  land_moves : (i : ℕ) → possible s (Land w.queue i) ≡ true → MovesBy (Land w.queue i)
  land_moves i p =
      let d = action.lands s w.queue u h.there i p in
      let f : Flying w done marks i = flying w done marks i d.flight (ap (flying_in i) (sym h.window.flights) ∙ d.found) in
      elim (cases_eq (past_gate w (done + f.nth)) w.event) [
        | inr ne ↦ Silent (plain_lands w ok s t event h i f ne)
        | inl at ↦ elim (cases_Bool (landing_on w s.memory w.event).allowed) [
          | inl allowed ↦ Tells (event_lands w ok s t event h i f at allowed)
          | inr refused ↦ Faults (event_faults w ok s t event h i f at refused)
        ]
      ]

  -- every possible action of the queue keeps the stage, or is the event's fault, or closes the window
  pub moves : (a : Action) → acts_on a ≡ Some w.queue → possible s a ≡ true → MovesBy a
  moves (Deliver c) its p = absurd (cc)
  moves (Fetch q i) its p = let at : w.queue ≡ q = cc in subst (λ n. possible s (Fetch n i) ≡ true → MovesBy (Fetch n i)) at (λ r. Silent (fetch_turns w ok s t event h i r)) p
  moves (Start q) its p = let at : w.queue ≡ q = cc in subst (λ n. possible s (Start n) ≡ true → MovesBy (Start n)) at start_moves p
  moves (Land q i) its p = let at : w.queue ≡ q = cc in subst (λ n. possible s (Land n i) ≡ true → MovesBy (Land n i)) at (land_moves i) p
  moves (Complete q) its p = let at : w.queue ≡ q = cc in subst (λ n. possible s (Complete n) ≡ true → MovesBy (Complete n)) at (λ r. Silent (complete_turns w ok s t event h r)) p

  -- a state that has the same queue and the same private bytes
  pub same_stage : (r : State) → SameHere w s r → Stage w r t event
  same_stage r e =
      record {
        there = e.queue ∙ h.there;
        window = h.window;
        regions = e.regions ∙ h.regions;
        waits = e.waits h.waits;
        standing = record {
          size = e.size ∙ h.standing.size;
          bytes = λ p ours. e.bytes p ours ∙ h.standing.bytes p ours;
          fits = h.standing.fits;
          reached = h.standing.reached;
        };
        target = λ two. ap (row_may_raise w.row.domain) (e.target two) ∙ h.target two;
      }

  -- a counter that has come to all signals has seen all bodies complete
  pub count_tells : 0 < bodies_of w → w.counter + signals w (bodies_of w) ≤ u.counter → place_of w (bodies_of w) ≤ done
  count_tells some come =
      let counted = h.window.counted in
      let all : bodies_of w ≤ past_gate w done = all_signals w ok.last (past_gate w done) (omega arith) in
      let past = past_is w done in
      let end = place_is w (bodies_of w) in
      omega (arith, some, all, past, end)

  abbrev MayGoOn : Type 0
  MayGoOn = GoesOn s w.queue

  -- while the window isn't over, a useful action of its queue is possible
  pub goes_on : done < slots_of w → MayBegin w s done → MayGoOn
  goes_on more begins = by_marks marks refl
    where
      there : slice_get s.queues w.queue ≡ Some u
      there = h.there

      same_slots : u.row.slots ≡ w.row.slots
      same_slots = ap (λ (row : QueueRow). row.slots) h.window.row

      starting : marks ≡ [] → (copy : List ℕ) → AtHead w ok s t event h copy → may_start s u (decoded copy) (class_of (decoded copy)) ≡ true → MayGoOn
      starting none copy at may =
          record { action = Start w.queue; its = refl; can = action.can_start s w.queue u h.there (record { copy = copy; runs = h.window.runs; held = at.held; may = may }); useful = refl }

      at_gate : (none : marks ≡ []) (copy : List ℕ) (at : AtHead w ok s t event h copy) (by : w.ending ≡ By_gates) → IsGate → MayGoOn
      at_gate none copy at by (inl wait) =
          let empty : length marks ≡ 0 = ap length none in
          let past = past_is w done in
          let end = place_is w (bodies_of w) in
          let all : past_gate w done ≡ bodies_of w = omega (arith, empty, wait, past, end) in
          let same : signals w (past_gate w done) ≡ signals w (bodies_of w) = ap (signals w) all in
          starting none copy at (may_pass w ok s t event h by copy at wait ∙ le-leb (w.counter + signals w (bodies_of w)) (w.counter + signals w (past_gate w done)) (omega arith))
      at_gate none copy at by (inr enable) =
          let is : class_of (decoded copy) ≡ ask.Raises = ap (λ (c : List ℕ). class_of (decoded c)) at.same ∙ ap (λ (n : ℕ). class_of (request_of w n)) enable ∙ (gates_are w ok by).enables in
          starting none copy at (ap (may_start s u (decoded copy)) is ∙ action.may_enable s w.queue u h.there (decoded copy))

      held_at : (none : marks ≡ []) (copy : List ℕ) (at : AtHead w ok s t event h copy) → MayGoOn
      held_at none copy at =
          elim (stands_at w (done + length marks)) [
            | inl before ↦ starting none copy at (may_begin w ok s t event h before copy at begins)
            | inr (inl body) ↦
                let fly : class_of (decoded copy) ≡ ask.Flies = flies_there w ok s t event h copy at body in
                let empty : length u.flights ≡ 0 = ap length (h.window.flights ∙ ap (flights_from w done) none) in
                let room = ok.room in
                let slots = same_slots in
                starting none copy at (ap (may_start s u (decoded copy)) fly ∙ action.may_fly s w.queue u h.there (decoded copy) (omega arith))
            | inr (inr behind) ↦ let by = gates_behind behind at.inside in at_gate none copy at by (gate_place by behind at.inside)
          ]

      by_marks : (ms : List Bool) → marks ≡ ms → MayGoOn
      by_marks [] e = by_held (get u.held u.head) refl
        where
          by_held : (o : Option (List ℕ)) → get u.held u.head ≡ o → MayGoOn
          by_held (Some copy) f = held_at e copy (at_head w ok s t event h copy f)
          by_held None f =
              let empty : length marks ≡ 0 = ap length e in
              let at = h.window.head in
              let limit = h.window.limit in
              let room = ok.room in
              let slots = same_slots in
              record {
                action = Fetch w.queue u.head;
                its = refl;
                can = action.can_fetch s w.queue u h.there u.head (record { runs = h.window.runs; ahead = record { low = omega arith; high = omega arith; near = omega arith } });
                useful = rw (there, f) refl;
              }
      by_marks (true ∷ rest) e =
          record {
            action = Complete w.queue;
            its = refl;
            can = action.can_complete s w.queue u h.there (record { oldest = flight w done true; rest = flights_from w (done + 1) rest; runs = h.window.runs; flights = h.window.flights ∙ ap (flights_from w done) e; landed = refl });
            useful = refl;
          }
      by_marks (false ∷ rest) e =
          record {
            action = Land w.queue (w.from + done);
            its = refl;
            can = action.can_land s w.queue u h.there (w.from + done) (record {
              flight = flight w done false;
              runs = h.window.runs;
              found = ap (flying_in (w.from + done)) (h.window.flights ∙ ap (flights_from w done) e)
                  ∙ oldest_flies w done rest;
            });
            useful = refl;
          }
