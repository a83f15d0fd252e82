-- A queue at rest: after its window, and until an ENABLE opens the next.
use Rattle.std.proofs.Common.{◌≡◌, ℕ, ◌+◌, Bool, true, List, [], ◌∷◌, Option, Some, None, length, refl, sym, ap, subst, ◌∙◌, arith}
use Rattle.std.specs.Prelude.{slice_get}
use Rattle.std.specs.FinMap.{get}
use Rattle.redn_words.specs.declared.types.QueueRow.{QueueRow}
use Rattle.redn_words.specs.declared.types.Action.{Action}
use Rattle.redn_words.specs.declared.types.Action.TheVariants.{Deliver, Fetch, Start, Land, Complete}
use Rattle.redn_words.specs.States.{Queue, State}
use Rattle.redn_words.specs.Steps.{possible, flying_in, acts_on}
use Rattle.redn_words.proofs.Actions as action
use Rattle.redn_proof_window.specs.Windows.{Opening, Window, bodies_of, past_gate, slots_of, flights_from, signals}
use Rattle.redn_proof_window.specs.Moves.{AtRest}
use Rattle.redn_proof_window.proofs.Places.{place_is, past_is}
use Rattle.redn_proof_window.proofs.Windows.{signals_past}

pub rest_like : {r z : QueueRow} {a b c d : ℕ} {u : Queue} → AtRest r a c u → z ≡ r → b ≡ a → d ≡ c → AtRest z b d u
rest_like h row at counter =
    record { row_is = h.row_is ∙ sym row; runs = h.runs; head = h.head ∙ sym at; limit = h.limit ∙ sym at; flights = h.flights; held = h.held; counted = h.counted ∙ sym counter }

-- no action of such a queue is possible
pub rests : (s : State) (q : ℕ) (u : Queue) (row : QueueRow) (at counter : ℕ) → slice_get s.queues q ≡ Some u → AtRest row at counter u → (a : Action) → acts_on a ≡ Some q → possible s a ≡ true → ⊥
rests s q u row at counter there r (Deliver c) its p = cc
rests s q u row at counter there r (Fetch n i) its p =
    let same : q ≡ n = cc in
    let f = action.fetches s q u there i (subst (λ m. possible s (Fetch m i) ≡ true) (sym same) p) in
    let low = f.ahead.low in
    let high = f.ahead.high in
    omega (arith, r.head, r.limit)
rests s q u row at counter there r (Start n) its p =
    let same : q ≡ n = cc in
    let f = action.starts s q u there (subst (λ m. possible s (Start m) ≡ true) (sym same) p) in
    cc (f.held, r.held u.head)
rests s q u row at counter there r (Land n i) its p =
    let same : q ≡ n = cc in
    let f = action.lands s q u there i (subst (λ m. possible s (Land m i) ≡ true) (sym same) p) in
    let none : flying_in i u.flights ≡ None = ap (flying_in i) r.flights in
    cc (f.found, none)
rests s q u row at counter there r (Complete n) its p =
    let same : q ≡ n = cc in
    let f = action.completes s q u there (subst (λ m. possible s (Complete m) ≡ true) (sym same) p) in
    cc (f.flights, r.flights)

-- nor of one that has stopped, as after the event's fault
pub stopped_rests : (s : State) (q : ℕ) (u : Queue) → slice_get s.queues q ≡ Some u → u.stopped ≡ true → (a : Action) → acts_on a ≡ Some q → possible s a ≡ true → ⊥
stopped_rests s q u there stops (Deliver c) its p = cc
stopped_rests s q u there stops (Fetch n i) its p =
    let same : q ≡ n = cc in
    let runs = (action.fetches s q u there i (subst (λ m. possible s (Fetch m i) ≡ true) (sym same) p)).runs in
    cc
stopped_rests s q u there stops (Start n) its p =
    let same : q ≡ n = cc in
    let runs = (action.starts s q u there (subst (λ m. possible s (Start m) ≡ true) (sym same) p)).runs in
    cc
stopped_rests s q u there stops (Land n i) its p =
    let same : q ≡ n = cc in
    let runs = (action.lands s q u there i (subst (λ m. possible s (Land m i) ≡ true) (sym same) p)).runs in
    cc
stopped_rests s q u there stops (Complete n) its p =
    let same : q ≡ n = cc in
    let runs = (action.completes s q u there (subst (λ m. possible s (Complete m) ≡ true) (sym same) p)).runs in
    cc

module _ (w : Opening) where
  -- a window of which all slots are done leaves its queue at rest
  pub window_rests : (u : Queue) (done : ℕ) (marks : List Bool) → Window w u done marks → done ≡ slots_of w → AtRest w.row (w.from + slots_of w) (w.counter + signals w (bodies_of w)) u
  window_rests u done marks h all =
      record {
        row_is = h.row;
        runs = h.runs;
        head = let head = h.head in omega (arith, empty);
        limit = h.limit;
        flights = h.flights ∙ ap (flights_from w done) (none marks empty);
        held = λ i. by_held i (get u.held i) refl;
        counted = h.counted ∙ ap (λ n. w.counter + n) (signals_past w (past_gate w done) (let past = past_is w done in let slots = place_is w (bodies_of w + length w.gates) in omega (arith, all, past, slots)));
      }
    where
      empty : length marks ≡ 0
      empty = let inside = h.inside in omega arith

      none : (ms : List Bool) → length ms ≡ 0 → ms ≡ []
      none [] e = refl
      none (b ∷ ms) e = absurd (omega arith)

      by_held : (i : ℕ) (o : Option (List ℕ)) → get u.held i ≡ o → get u.held i ≡ None
      by_held i None e = e
      by_held i (Some c) e = let its = h.held i c e in let low = its.low in let high = its.high in absurd (omega arith)
