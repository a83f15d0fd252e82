-- The windows of a chain that keeps to a script: every order of actions goes through them.
use Rattle.std.proofs.Common.{◌≡◌, ◌≢◌, ℕ, ◌+◌, ◌<◌, ◌≤◌, inl, inr, true, List, Some, length, refl, sym, ap, subst, ◌∙◌, arith}
use Rattle.std.specs.Prelude.{slice_get, slice_set}
use Rattle.std.proofs.lemmas.Bool.{cases_eq}
use Rattle.redn_words.specs.declared.types.QueueRow.{QueueRow}
use Rattle.redn_words.specs.declared.types.Action.{Action}
use Rattle.redn_words.specs.States.{Queue, Chain, State}
use Rattle.redn_words.specs.Steps.{possible, after, acts_on, enabled_in}
use Rattle.redn_words.specs.Laws.{row_of, row_at}
use Rattle.redn_words.proofs.Others.{rows_stay, set_here, set_other}
use Rattle.redn_words.proofs.Inside.{chains_stay}
use Rattle.redn_proof_window.specs.Windows.{By_gates, Last, Followed, Opening, bodies_of, place_of, slots_of, signals, landing_on, enable_of}
use Rattle.redn_proof_window.specs.Stages.{IsEnding, Orderly, written_in, all_written}
use Rattle.redn_proof_window.specs.Moves.{AtRest, Quiet, Telling, Closing, Moves, Silent, Tells, Faults, Closes, GoesOn, MayBegin}
use Rattle.redn_proof_window.specs.Scripts.{IsBytes, Script, IsOver, Behind, IsScript, RestsAt, Moment, window_at, AllCount, ChainAt, opened, SameChain, ChainMoves, Stays, Shows, Ends, Goes_on}
use Rattle.redn_proof_window.proofs.Marks.{landed_before}
use Rattle.redn_proof_window.proofs.Moves.{moves, goes_on, same_stage}
use Rattle.redn_proof_window.proofs.Places.{place_is, place_below}
use Rattle.redn_proof_window.proofs.Counters.{counts_stay}
use Rattle.redn_proof_window.proofs.Stages.{marked}
use Rattle.redn_proof_window.proofs.Rests.{rest_like, rests, window_rests}
use Rattle.redn_proof_window.proofs.ChainSides.{opens_there}

module _ (p : Script) (script : IsScript p) (s : State) (z : Moment p) (h : ChainAt p s z) where
  abbrev w : Opening
  w = window_at p z

  abbrev u : Queue
  u = z.progress.queue

  ok : Orderly w
  ok = script.orderly z.point z.memory h.ready

  -- a ring in another state, where it is the same there
  rest_in : (r : State) (q : ℕ) → slice_get r.queues q ≡ slice_get s.queues q → RestsAt p s z.point q → RestsAt p r z.point q
  rest_in r q same rest = record { u = rest.u; there = same ∙ rest.there; rest = rest.rest }

  -- an action of one of its rings
  counts_after : (a : Action) → acts_on a ≡ Some w.queue → AllCount p (after s a)
  counts_after a its x m ready = counts_stay s (after s a) (rows_stay s a) (λ c y here. (y, ap (λ (chains : List Chain). slice_get chains c) (chains_stay s w.queue u h.stage.there a its) ∙ here)) (p.window x m) (h.counts x m ready)

  quiet_stays : (a : Action) → acts_on a ≡ Some w.queue → (quiet : Quiet w s z.progress z.event a) → ChainAt p (after s a) (record z { progress = quiet.now })
  quiet_stays a its quiet =
      record {
        ready = h.ready;
        stage = quiet.next;
        wrote = λ lands l. h.wrote (sym (quiet.same l) ∙ lands) l;
        more = λ by. quiet.more by (h.more by);
        counts = counts_after a its;
        others = λ q r ne. rest_in (after s a) q (quiet.others q ne) (h.others q r ne);
      }

  event_stays : IsBytes s.memory → (a : Action) → acts_on a ≡ Some w.queue → (t : Telling w s z.progress z.event a) → ChainAt p (after s a) (record z { progress = t.now; event = (landing_on w s.memory w.event).writes })
  event_stays sound a its t =
      record {
        ready = h.ready;
        stage = t.next;
        wrote = λ lands inside. record { memory = s.memory; sound = sound; agrees = t.agrees; allowed = t.allowed; is = refl };
        more = λ by. t.more by (h.more by);
        counts = counts_after a its;
        others = λ q r ne. rest_in (after s a) q (t.others q ne) (h.others q r ne);
      }

  -- the row of each ring
  ring_row : (q : ℕ) → p.ring q ≡ true → row_at s.queues q ≡ Some (p.row q)
  ring_row q r =
      elim (cases_eq q w.queue) [
        | inl same ↦ ap (row_at s.queues) same ∙ ap row_of h.stage.there ∙ ap (λ (y : QueueRow). Some y) (h.stage.window.row ∙ script.row_is z.point z.memory ∙ ap p.row (sym same))
        | inr ne ↦ let rest = h.others q r ne in ap row_of rest.there ∙ ap (λ (y : QueueRow). Some y) rest.rest.row_is
      ]

  -- a window that isn't the last is over once all its bodies have completed
  over_here : w.ending ≢ Last → place_of w (bodies_of w) ≤ z.progress.done → w.from + slots_of w ≤ p.most → IsBytes s.memory → IsOver p z.point z.memory z.event s.memory
  over_here on all few sound =
      record {
        ready = h.ready;
        goes_on = on;
        wrote = λ inside. h.wrote (landed_before z.progress.done z.progress.marks (place_of w w.event) (let below = place_below w w.event (bodies_of w) inside in omega (arith, below, all))) inside;
        last = few;
        sound = sound;
        standing = marked w ok s.memory (written_in w z.progress) z.event h.stage.standing all_written
            (λ j b l. sym (landed_before z.progress.done z.progress.marks (place_of w j) (let below = place_below w j (bodies_of w) l in omega (arith, below, all))));
      }

  -- then an ENABLE opens the window behind, where this one's queue is at rest and the other rings are as they were
  module _ (over : IsOver p z.point z.memory z.event s.memory) where
    abbrev y : p.Point
    y = (script.behind z.point z.memory z.event s.memory over).0

    abbrev v : Opening
    v = p.window y s.memory

    behind : Behind p z.point y z.memory s.memory
    behind = (script.behind z.point z.memory z.event s.memory over).1

    module _ (queues : List Queue) (x : Queue) (own : slice_get queues w.queue ≡ Some x) (rest : AtRest w.row (w.from + slots_of w) (w.counter + signals w (bodies_of w)) x)
        (others : (q : ℕ) → p.ring q ≡ true → q ≢ w.queue → slice_get queues q ≡ slice_get s.queues q) where
      rests_behind : (q : ℕ) → p.ring q ≡ true → RestsAt p (record s { queues = queues }) y q
      rests_behind q r =
          elim (cases_eq q w.queue) [
            | inl same ↦
                record {
                  u = x;
                  there = ap (slice_get queues) same ∙ own;
                  rest = rest_like rest (ap p.row same ∙ sym (script.row_is z.point z.memory)) (ap (p.at y) same ∙ behind.own_at) (ap (p.counted y) same ∙ behind.own_counted);
                }
            | inr ne ↦
                let old = h.others q r ne in
                record {
                  u = old.u;
                  there = others q r ne ∙ old.there;
                  rest = rest_like old.rest refl (behind.others_at q ne) (behind.others_counted q ne);
                }
          ]

      opens_behind : (a : Action) (limit : ℕ) → after s a ≡ record s { queues = enabled_in queues v.queue limit } → limit ≡ p.at y v.queue + slots_of v → (x : Queue) × ChainAt p (after s a) (opened p y s.memory x)
      opens_behind a limit is limit_is = opens_there p script s y behind.ready queues rests_behind ring_row h.counts a limit (h.stage.regions ∙ sym behind.regions) is limit_is

  -- its own ENABLE
  closes_chain : u.head < p.most → IsBytes s.memory → (a : Action) → Closing w s z.progress z.event a → ChainMoves p script s z h a
  closes_chain few sound a c =
      let o = opens_next in
      Goes_on record {
        then_queue = o.0;
        all = c.all;
        over = over;
        next = o.1;
        silent = c.silent;
        memory = ap (λ (r : State). r.memory) c.is;
        spends = c.spends;
      }
    where
      over : IsOver p z.point z.memory z.event s.memory
      over = over_here (λ e. absurd (by_last (sym c.ends ∙ e))) c.all (let last = c.last in omega arith) sound
        where
          by_last : By_gates ≡ Last → ⊥
          by_last e = cc

      opens_next : (x : Queue) × ChainAt p (after s a) (opened p (y over) s.memory x)
      opens_next =
          opens_behind over (slice_set s.queues w.queue c.then_queue) c.then_queue (set_here s.queues w.queue u c.then_queue h.stage.there) c.rest (λ q r ne. set_other s.queues w.queue q c.then_queue ne) a (enable_of w).second
          (c.is ∙ ap (λ (q : ℕ). record s { queues = enabled_in (slice_set s.queues w.queue c.then_queue) q (enable_of w).second }) (sym ((behind over).queue c.ends))) ((behind over).limit c.ends)

  -- or one of another queue
  pub chain_follows : u.head ≤ p.most → IsBytes s.memory → w.ending ≡ Followed → place_of w (bodies_of w) ≤ z.progress.done
      → (over : IsOver p z.point z.memory z.event s.memory) × ((a : Action) (queues : List Queue) (limit : ℕ) → ((q : ℕ) → p.ring q ≡ true → slice_get queues q ≡ slice_get s.queues q)
      → after s a ≡ record s { queues = enabled_in queues (v over).queue limit } → limit ≡ p.at (y over) (v over).queue + slots_of (v over) → (x : Queue) × ChainAt p (after s a) (opened p (y over) s.memory x))
  chain_follows few sound is all = (over, λ a queues limit same raised limit_is. opens_behind over queues u (same w.queue (script.ring_is z.point z.memory) ∙ h.stage.there) rest (λ q r ne. same q r) a limit raised limit_is)
    where
      none : length w.gates ≡ 0
      none = subst (IsEnding w) is ok.gates

      done_all : z.progress.done ≡ slots_of w
      done_all = let inside = h.stage.window.inside in let end = place_is w (bodies_of w) in let slots = place_is w (bodies_of w + length w.gates) in omega (arith, none, all, inside, end, slots)

      rest : AtRest w.row (w.from + slots_of w) (w.counter + signals w (bodies_of w)) u
      rest = window_rests w u z.progress.done z.progress.marks h.stage.window done_all

      over : IsOver p z.point z.memory z.event s.memory
      over = over_here (λ e. absurd (by_last (sym is ∙ e))) all (let head = h.stage.window.head in omega (arith, done_all)) sound
        where
          by_last : Followed ≡ Last → ⊥
          by_last e = cc

  by_moves : u.head < p.most → IsBytes s.memory → (a : Action) → acts_on a ≡ Some w.queue → Moves w s z.progress z.event a → ChainMoves p script s z h a
  by_moves few sound a its (Silent quiet) = Stays quiet (quiet_stays a its quiet)
  by_moves few sound a its (Tells t) = Shows t (event_stays sound a its t)
  by_moves few sound a its (Faults f) = Ends f
  by_moves few sound a its (Closes c) = closes_chain few sound a c

  -- every possible action of the chain's rings, as long as heads are below a bound
  pub chain_moves : u.head < p.most → IsBytes s.memory → (a : Action) (q : ℕ) → acts_on a ≡ Some q → p.ring q ≡ true → possible s a ≡ true → ChainMoves p script s z h a
  chain_moves few sound a q its r can =
      elim (cases_eq q w.queue) [
        | inl same ↦ by_moves few sound a (its ∙ ap (λ n. Some n) same) (moves w ok s z.progress z.event h.stage a (its ∙ ap (λ n. Some n) same) can)
        | inr ne ↦ let rest = h.others q r ne in absurd (rests s q rest.u (p.row q) (p.at z.point q) (p.counted z.point q) rest.there rest.rest a its can)
      ]

  -- while a window that ends by its gates is open, a useful action of the chain is possible
  pub chain_goes_on : w.ending ≡ By_gates → MayBegin w s z.progress.done → GoesOn s w.queue
  chain_goes_on by begins = goes_on w ok s z.progress z.event h.stage (h.more by) begins

  -- a state with the same rings and the same private bytes
  pub chain_stays : (r : State) → SameChain p z s r → ChainAt p r z
  chain_stays r e =
      record {
        ready = h.ready;
        stage = same_stage w ok s z.progress z.event h.stage r record {
          queue = e.queues w.queue (script.ring_is z.point z.memory);
          regions = e.regions;
          waits = λ counts. e.counts h.counts z.point z.memory h.ready;
          target = λ two. ap row_of (e.queues (enable_of w).first (script.target z.point z.memory h.ready two));
          size = e.size;
          bytes = e.bytes;
        };
        wrote = h.wrote;
        more = h.more;
        counts = e.counts h.counts;
        others = λ q k ne. rest_in r q (e.queues q k) (h.others q k ne);
      }
