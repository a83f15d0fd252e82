-- A body of an open window lands.
use Rattle.std.proofs.Common.{◌≡◌, ◌≢◌, ℕ, zero, suc, ◌+◌, ◌<◌, ◌≤◌, Bool, true, false, ◌==◌, List, [], ◌∷◌, Some, length, get_or, set, refl, sym, ap, subst, ◌∙◌, arith, length-set}
use Rattle.std.specs.Prelude.{slice_get, slice_set, nat_le, nat_lt}
use Rattle.std.proofs.lemmas.Bool.{false≢true, true≢false, eq-eqb, ne_eqb, and_from, false_from_ne_true}
use Rattle.std.proofs.lemmas.Bool.Decides.{nat_tests}
use Rattle.redn_words.specs.declared.types.Region.{Region}
use Rattle.redn_words.specs.declared.types.QueueRow.{QueueRow}
use Rattle.redn_words.specs.declared.types.Action.TheVariants.{Land}
use Rattle.redn_words.specs.Words.{bytes_at}
use Rattle.redn_words.specs.States.{Queue, State}
use Rattle.redn_words.specs.Landings.{Landing, Change, changed, landing}
use Rattle.redn_words.specs.Steps.{after, shown, flying_in, landed_at, landing_at, land_leaves, with_landed}
use Rattle.redn_words.proofs.Actions as action
use Rattle.redn_words.proofs.Others.{rows_stay, regions_stay, set_here, set_other}
use Rattle.redn_words.specs.Others.{row_may_raise}
use Rattle.redn_words.proofs.Bytes.{over_missed, length-changed, byte-changed, same_range}
use Rattle.redn_words.specs.Bytes.{byte, hits, over}
use Rattle.redn_words.specs.Ranges.{Fits, holds}
use Rattle.redn_words.proofs.Footprints.{landing_same, refused_writes}
use Rattle.redn_proof_window.specs.Windows.{Opening, Window, Held, bodies_of, place_of, past_gate, copy_of, request_of, body_of, origin_of, landing_on, planned, may_write, flight, enable_of}
use Rattle.redn_proof_window.specs.Stages.{Orderly, Plain, Agrees, effect, value, Standing, Progress, landed_in, written_in, Stage}
use Rattle.redn_proof_window.specs.Moves.{budget_of, marks_due, cost, Quiet, Telling, Faulting}
use Rattle.redn_proof_window.proofs.Marks.{landed_at as landed_mark, landed_lands, landed_other}
use Rattle.redn_proof_window.proofs.Orders.{value_lands}
use Rattle.redn_proof_window.proofs.Counters.{counts_stay}
use Rattle.redn_proof_window.proofs.Places.{place_past, past_place, body_past}
use Rattle.redn_proof_window.proofs.Turns.{goes_past}
use Rattle.redn_proof_window.proofs.Windows.{Flying}
use Rattle.redn_proof_window.proofs.Stages.{effect_misses, writes_fit, writes_may, byte_stands, event_agrees}

module _ (w : Opening) (ok : Orderly w) where
  -- the private bytes after one more body has landed
  pub record OneMore (memory : List ℕ) (written next : ℕ → ℕ → Bool) (event then_event writes : List Change) (k : ℕ) : Type 0 where
    pub body : k < bodies_of w
    pub unwritten : (p : ℕ) → written k p ≡ false
    pub writing : (p : ℕ) → next k p ≡ true
    pub others : (j p : ℕ) → j < bodies_of w → j ≢ k → next j p ≡ written j p
    pub its : effect w then_event k ≡ writes
    pub same : (j p : ℕ) → j < bodies_of w → written j p ≡ true → effect w then_event j ≡ effect w event j
    pub fits : Fits (length w.memory) writes
    pub then_fits : Fits (length w.memory) then_event
    pub may : (p : ℕ) → hits writes p ≡ true → may_write w k p ≡ true
    pub reached : (p : ℕ) → hits then_event p ≡ true → may_write w w.event p ≡ true

  pub standing_lands : (memory : List ℕ) (written next : ℕ → ℕ → Bool) (event then_event writes : List Change) (k : ℕ) → Standing w memory written event → OneMore memory written next event then_event writes k
      → Standing w (changed memory writes) next then_event
  standing_lands memory written next event then_event writes k h m =
      let fits : Fits (length memory) writes = subst (λ n. Fits n writes) (sym h.size) m.fits in
      record {
        size = length-changed memory writes fits ∙ h.size;
        bytes = λ p ours. byte-changed memory writes p fits ∙ ap (over writes p) (h.bytes p ours) ∙ ap (λ (c : List Change). over c p (value written (effect w event) (bodies_of w) p (byte w.memory p))) (sym m.its)
            ∙ sym (value_lands written next (effect w event) (effect w then_event) p (byte w.memory p) k (bodies_of w) m.body (m.unwritten p) (m.writing p) (λ j. m.others j p) (λ j. m.same j p) (apart p));
        fits = m.then_fits;
        reached = m.reached;
      }
    where
      apart : (p j : ℕ) → j < bodies_of w → j ≢ k → written j p ≡ true → hits (effect w then_event k) p ≡ true → hits (effect w event j) p ≡ false
      apart p j l ne mark hit =
          effect_misses w ok event h.reached j p (ok.apart k j p m.body l (λ e. ne (sym e)) (m.may p (ap (λ (c : List Change). hits c p) (sym m.its) ∙ hit)))

marks_due_set : (marks : List Bool) (n : ℕ) → n < length marks → get_or marks n false ≡ false → marks_due (set marks n true) + 1 ≡ marks_due marks
marks_due_set [] n l e = absurd (omega arith)
marks_due_set (true ∷ marks) zero l e = absurd (true≢false e)
marks_due_set (false ∷ marks) zero l e = omega arith
marks_due_set (true ∷ marks) (suc n) l e = omega (arith, marks_due_set marks n (omega arith) e)
marks_due_set (false ∷ marks) (suc n) l e = omega (arith, marks_due_set marks n (omega arith) e)

module _ (w : Opening) (ok : Orderly w) (s : State) (t : Progress) (event : List Change) (h : Stage w s t event) where
  abbrev u : Queue
  u = t.queue

  abbrev done : ℕ
  done = t.done

  abbrev marks : List Bool
  marks = t.marks

  window_landed : (i : ℕ) (f : Flying w done marks i) → Window w (landed_at u i) done (set marks f.nth true)
  window_landed i f =
      let long : length (set marks f.nth true) ≡ length marks = length-set marks f.nth true in
      let at : done + length marks ≡ done + length (set marks f.nth true) = omega (arith, long) in
      record {
        row = h.window.row;
        runs = h.window.runs;
        head = h.window.head ∙ ap (λ n. w.from + n) at;
        limit = h.window.limit;
        inside = let inside = h.window.inside in omega (arith, inside, long);
        moving = λ k l. h.window.moving k (omega (arith, l, long));
        flights = ap (with_landed i) h.window.flights ∙ f.left;
        held = λ j c e. subst (λ n. Held w n j c) at (h.window.held j c e);
        counted = h.window.counted;
      }

  -- the landing of what stands at a place
  landing_is : (i k : ℕ) → i ≡ w.from + k → landing_at s w.queue i u (copy_of w k) ≡ landing w.regions (origin_of w k) s.memory (request_of w k)
  landing_is i k at =
      ap (λ (rows : List Region). landing rows (record { chain = u.row.domain; queue = w.queue; index = i }) s.memory (request_of w k)) h.regions
      ∙ ap (λ (row : QueueRow). landing w.regions (record { chain = row.domain; queue = w.queue; index = i }) s.memory (request_of w k)) h.window.row
      ∙ ap (λ (n : ℕ). landing w.regions (record { chain = w.row.domain; queue = w.queue; index = n }) s.memory (request_of w k)) at

  -- any body but the event's lands as it would have at the opening
  pub plain_same : (k : ℕ) → k < bodies_of w → k ≢ w.event → landed_in w t k ≡ false → landing_on w s.memory k ≡ planned w k
  plain_same k body ne unlanded = sym (landing_same w.regions (origin_of w (place_of w k)) (body_of w k) w.memory s.memory same)
    where
      plain : Plain w k
      plain = ok.plain k body ne

      same : bytes_at w.memory (planned w k).reads.at (planned w k).reads.len ≡ bytes_at s.memory (planned w k).reads.at (planned w k).reads.len
      same =
          sym (same_range s.memory w.memory (planned w k).reads.at (planned w k).reads.len h.standing.size (λ p low high.
          let a : nat_le (planned w k).reads.at p ≡ true = grind (arith, nat_tests) in
          let b : nat_lt p ((planned w k).reads.at + (planned w k).reads.len) ≡ true = grind (arith, nat_tests) in
          let read : holds (planned w k).reads p ≡ true = and_from (nat_le (planned w k).reads.at p) (nat_lt p ((planned w k).reads.at + (planned w k).reads.len)) a b in
          byte_stands w ok s.memory (written_in w t) event h.standing p (plain.reads_ours p read) (λ j l m. plain.reads_spared j p l (λ e. false≢true (sym unlanded ∙ ap (landed_in w t) (sym e) ∙ m)) read)))

  -- what a landing leaves, for any body
  module _ (i : ℕ) (f : Flying w done marks i) where
    abbrev place : ℕ
    place = done + f.nth

    abbrev k : ℕ
    k = past_gate w place

    at_place : place_of w k ≡ place
    at_place = place_past w place (h.window.moving f.nth f.inside).low

    body : k < bodies_of w
    body = body_past w place (h.window.moving f.nth f.inside)

    -- other bodies stand at other places
    elsewhere : (j : ℕ) → j ≢ k → place_of w j ≢ place
    elsewhere j ne e = ne (sym (past_place w j) ∙ ap (past_gate w) e)

    unlanded : landed_in w t k ≡ false
    unlanded = landed_mark done marks (place_of w k) f.nth at_place ∙ f.unlanded

    landing_here : landing_at s w.queue i u (copy_of w place) ≡ landing_on w s.memory k
    landing_here = landing_is i place f.is ∙ ap (λ (n : ℕ). landing w.regions (origin_of w n) s.memory (request_of w n)) (sym at_place)

    found : flying_in i u.flights ≡ Some (flight w place false)
    found = ap (flying_in i) h.window.flights ∙ f.found

    leaves : after s (Land w.queue i) ≡ land_leaves s w.queue i u (landing_on w s.memory k)
    leaves = action.landed_is s w.queue u h.there i (flight w place false) found ∙ ap (land_leaves s w.queue i u) landing_here

    shows_is : shown s (Land w.queue i) ≡ (landing_on w s.memory k).shown
    shows_is = action.land_shows_is s w.queue u h.there i (flight w place false) found ∙ ap (λ (l : Landing). l.shown) landing_here

    left_is : (l : Landing) → landing_on w s.memory k ≡ l → l.allowed ≡ true → after s (Land w.queue i) ≡ record s { memory = changed s.memory l.writes; queues = slice_set s.queues w.queue (landed_at u i) }
    left_is l is allowed = leaves ∙ ap (land_leaves s w.queue i u) is ∙ rw allowed refl

    -- the queue afterwards
    abbrev now : Progress
    now = record { queue = landed_at u i; done = done; marks = set marks f.nth true }

    spends : cost s (Land w.queue i) + budget_of w now ≤ budget_of w t
    spends =
        let long : length (set marks f.nth true) ≡ length marks = length-set marks f.nth true in
        let due = marks_due_set marks f.nth f.inside f.unlanded in
        rw long (omega (arith, due))

    stage_left : (l : Landing) (then_event : List Change) → landing_on w s.memory k ≡ l → l.allowed ≡ true → OneMore w ok s.memory (written_in w t) (written_in w now) event then_event l.writes k
        → Stage w (after s (Land w.queue i)) now then_event
    stage_left l then_event is allowed more =
        let left = left_is l is allowed in
        record {
          there = ap (λ (t : State). slice_get t.queues w.queue) left ∙ set_here s.queues w.queue u (landed_at u i) h.there;
          window = window_landed i f;
          regions = regions_stay s (Land w.queue i) ∙ h.regions;
          standing = subst (λ (m : List ℕ). Standing w m (written_in w now) then_event) (sym (ap (λ (t : State). t.memory) left))
              (standing_lands w ok s.memory (written_in w t) (written_in w now) event then_event l.writes k h.standing more);
          waits = counts_stay s (after s (Land w.queue i)) (rows_stay s (Land w.queue i)) (λ c x there. (x, ap (λ (z : State). slice_get z.chains c) left ∙ there)) w h.waits;
          target = λ two. ap (row_may_raise w.row.domain) (rows_stay s (Land w.queue i) (enable_of w).first) ∙ h.target two;
        }

    -- a landing turns this queue alone
    others_stay : (memory : List ℕ) → after s (Land w.queue i) ≡ record s { memory = memory; queues = slice_set s.queues w.queue (landed_at u i) } → (q : ℕ) → q ≢ w.queue
        → slice_get (after s (Land w.queue i)).queues q ≡ slice_get s.queues q
    others_stay memory is q ne = ap (λ (z : State). slice_get z.queues q) is ∙ set_other s.queues w.queue q (landed_at u i) ne

    -- any body but the event's: it shows nothing and writes what it would have written at the opening
    pub plain_lands : k ≢ w.event → Quiet w s t event (Land w.queue i)
    plain_lands ne =
        let plain = ok.plain k body ne in
        let is = plain_same k body ne unlanded in
        let left = left_is (planned w k) is plain.allowed in
        let memory : (after s (Land w.queue i)).memory ≡ changed s.memory (planned w k).writes = ap (λ (t : State). t.memory) left in
        let fits : Fits (length s.memory) (planned w k).writes = subst (λ n. Fits n (planned w k).writes) (sym h.standing.size) (writes_fit w ok w.memory k refl) in
        record {
          now = now;
          next = stage_left (planned w k) event is plain.allowed one_more;
          silent = shows_is ∙ ap (λ (l : Landing). l.shown) is ∙ plain.silent;
          begins = goes_past w ok s t event h;
          same = λ inside. landed_other done marks (place_of w w.event) f.nth (elsewhere w.event (λ e. ne (sym e)));
          others = others_stay _ left;
          more = λ two l. l;
          spends = spends;
          private = λ p theirs. ap (λ (m : List ℕ). byte m p) memory ∙ byte-changed s.memory (planned w k).writes p fits ∙ over_missed (planned w k).writes p (byte s.memory p) (misses p theirs);
        }
      where
        not_event : (k == w.event) ≡ false
        not_event = ne_eqb k w.event ne

        misses : (p : ℕ) → w.ours p ≡ false → hits (planned w k).writes p ≡ false
        misses p theirs = false_from_ne_true (hits (planned w k).writes p) (λ hit. false≢true (sym theirs ∙ (ok.plain k body ne).writes_ours p (writes_may w ok w.memory k p hit)))

        one_more : OneMore w ok s.memory (written_in w t) (written_in w now) event event (planned w k).writes k
        one_more =
            record {
              body = body;
              unwritten = λ p. unlanded;
              writing = λ p. landed_lands done marks (place_of w k) f.nth f.inside at_place;
              others = λ j p l apart. landed_other done marks (place_of w j) f.nth (elsewhere j apart);
              its = rw not_event refl;
              same = λ j p l m. refl;
              fits = writes_fit w ok w.memory k refl;
              then_fits = h.standing.fits;
              may = λ p hit. writes_may w ok w.memory k p hit;
              reached = h.standing.reached;
            }

    -- the event's body
    module _ (at : k ≡ w.event) where
      event_is : landing_on w s.memory k ≡ landing_on w s.memory w.event
      event_is = ap (landing_on w s.memory) at

      event_unlanded : landed_in w t w.event ≡ false
      event_unlanded = ap (landed_in w t) (sym at) ∙ unlanded

      event_inside : w.event < bodies_of w
      event_inside = subst (λ k. k < bodies_of w) at body

      agrees : Agrees w s.memory
      agrees = event_agrees w ok s t event h event_unlanded

      pub event_lands : (landing_on w s.memory w.event).allowed ≡ true → Telling w s t event (Land w.queue i)
      event_lands allowed =
          let left = left_is (landing_on w s.memory w.event) event_is allowed in
          record {
            now = now;
            lands = landed_lands done marks (place_of w w.event) f.nth f.inside (ap (place_of w) (sym at) ∙ at_place);
            agrees = agrees;
            inside = event_inside;
            unlanded = event_unlanded;
            allowed = allowed;
            next = stage_left (landing_on w s.memory w.event) (landing_on w s.memory w.event).writes event_is allowed one_more;
            telling = shows_is ∙ ap (λ (l : Landing). l.shown) event_is;
            memory = ap (λ (z : State). z.memory) left;
            others = others_stay _ left;
            more = λ two l. l;
            spends = spends;
          }
        where
          its_event : (k == w.event) ≡ true
          its_event = eq-eqb k w.event at

          one_more : OneMore w ok s.memory (written_in w t) (written_in w now) event (landing_on w s.memory w.event).writes (landing_on w s.memory w.event).writes k
          one_more =
              record {
                body = body;
                unwritten = λ p. unlanded;
                writing = λ p. landed_lands done marks (place_of w k) f.nth f.inside at_place;
                others = λ j p l apart. landed_other done marks (place_of w j) f.nth (elsewhere j apart);
                its = rw its_event refl;
                same = λ j p l m. let other : (j == w.event) ≡ false = ne_eqb j w.event (λ e. false≢true (sym event_unlanded ∙ ap (landed_in w t) (sym e) ∙ m)) in rw other refl;
                fits = writes_fit w ok s.memory w.event h.standing.size;
                then_fits = writes_fit w ok s.memory w.event h.standing.size;
                may = λ p hit. ap (λ n. may_write w n p) at ∙ writes_may w ok s.memory w.event p hit;
                reached = λ p hit. writes_may w ok s.memory w.event p hit;
              }

      pub event_faults : (landing_on w s.memory w.event).allowed ≡ false → Faulting w s t event (Land w.queue i)
      event_faults no_access =
          let none : (landing_on w s.memory w.event).writes ≡ [] = refused_writes w.regions (origin_of w (place_of w w.event)) (body_of w w.event) s.memory no_access in
          record {
            agrees = agrees;
            inside = event_inside;
            unlanded = event_unlanded;
            refused = no_access;
            telling = shows_is ∙ ap (λ (l : Landing). l.shown) event_is;
            is = leaves ∙ ap (land_leaves s w.queue i u) event_is ∙ rw (no_access, none) refl;
            spends = let now_less = spends in omega (arith, now_less);
          }
