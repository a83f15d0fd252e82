-- A window's beginning and end.
use Rattle.std.proofs.Common.{◌≡◌, ◌≢◌, ℕ, zero, suc, ◌+◌, ◌*◌, ◌<◌, ◌≤◌, true, false, cond, ◌==◌, List, [], length, refl, sym, ap, subst, ◌∙◌, arith}
use Rattle.std.proofs.lemmas.Bool.{false≢true, ne_eqb}
use Rattle.redn_words.specs.States.{Copies, Queue, State}
use Rattle.redn_words.specs.Landings.{Landing, Change}
use Rattle.redn_words.proofs.Bytes.{length-changed, byte-changed, same_range}
use Rattle.redn_words.specs.Bytes.{byte, hits, over}
use Rattle.redn_words.specs.Ranges.{Fits, holds}
use Rattle.redn_words.proofs.Footprints.{landing_same}
use Rattle.redn_words.proofs.Ranges.{bounds_hold}
use Rattle.redn_proof_window.specs.Windows.{Opening, bodies_of, place_of, past_gate, slots_of, gate_count, body_of, signals, origin_of, landing_on, planned, may_write, landed}
use Rattle.redn_proof_window.specs.Stages.{Orderly, value, effect, Standing, Progress, written_in, all_written, Stage, Opened, in_order}
use Rattle.redn_proof_window.specs.Moves.{budget}
use Rattle.redn_proof_window.proofs.Places.{place_is, past_is, place_below}
use Rattle.redn_proof_window.proofs.Marks.{landed_before, landed_past}
use Rattle.redn_proof_window.proofs.Missed.{missing_within}
use Rattle.redn_proof_window.proofs.Orders.{value_missed, value_only}
use Rattle.redn_proof_window.proofs.Stages.{effect_misses, writes_fit, marked}

module _ (w : Opening) where
  pub opens : (s : State) (u : Queue) → Opened w s u → Stage w s (record { queue = u; done = 0; marks = [] }) []
  opens s u o =
      record {
        there = o.there;
        window = record {
          row = o.row;
          runs = o.runs;
          head = o.head ∙ omega arith;
          limit = o.limit;
          inside = omega arith;
          moving = λ k l. absurd (omega arith);
          flights = o.flights;
          held = λ i c e. let none = o.held i in absurd (cc);
          counted = o.counter ∙ (let past = past_is w 0 in let zero : past_gate w 0 ≡ 0 = omega (arith, past) in let none : signals w (past_gate w 0) ≡ signals w 0 = ap (signals w) zero in omega (arith, none));
        };
        regions = o.regions;
        waits = o.waits;
        standing = record {
          size = ap length o.memory;
          bytes = λ p ours. ap (λ (m : List ℕ). byte m p) o.memory ∙ sym (value_missed (written_in w (record { queue = u; done = 0; marks = [] })) (effect w []) (bodies_of w) p (byte w.memory p) (λ j l m. absurd (no_mark j m)));
          fits = tt;
          reached = λ p hit. absurd (false≢true hit);
        };
        target = o.target;
      }
    where
      no_mark : (j : ℕ) → landed 0 [] (place_of w j) ≡ true → ⊥
      no_mark j m = false≢true (sym (landed_past 0 [] (place_of w j) (omega arith)) ∙ m)

  -- four useful actions for each body and two for each gate
  pub first_budget : (held : Copies) → budget w held 0 [] ≤ 4 * bodies_of w + 2 * gate_count w
  first_budget held = let few = missing_within (w.from + (0 + 0)) (slots_of w) (w.from + slots_of w) held (omega arith) in let slots = place_is w (bodies_of w + length w.gates) in let gates = place_is w (length w.gates) in
      let past = past_is w (0 + 0) in omega (arith, few, slots, gates, past)

module _ (w : Opening) (ok : Orderly w) (event : List Change) (fits : Fits (length w.memory) event) where
  effect_fits : (k : ℕ) → Fits (length w.memory) (effect w event k)
  effect_fits k =
      elim (k == w.event) as (λ b. Fits (length w.memory) (cond b event (planned w k).writes)) [ true ↦ fits | false ↦ writes_fit w ok w.memory k refl ]

  pub length-in_order : (n : ℕ) → length (in_order w event n) ≡ length w.memory
  length-in_order zero = refl
  length-in_order (suc n) =
      length-changed (in_order w event n) (effect w event n) (subst (λ m. Fits m (effect w event n)) (sym (length-in_order n)) (effect_fits n)) ∙ length-in_order n

  pub byte-in_order : (n p : ℕ) → byte (in_order w event n) p ≡ value all_written (effect w event) n p (byte w.memory p)
  byte-in_order zero p = refl
  byte-in_order (suc n) p =
      byte-changed (in_order w event n) (effect w event n) p (subst (λ m. Fits m (effect w event n)) (sym (length-in_order n)) (effect_fits n)) ∙ ap (over (effect w event n) p) (byte-in_order n p)

  -- landing in this order, each body but the event's lands as it would have at the opening
  pub in_order_plain : ((p : ℕ) → hits event p ≡ true → may_write w w.event p ≡ true) → (k : ℕ) → k < bodies_of w → k ≢ w.event → landing_on w (in_order w event k) k ≡ planned w k
  in_order_plain reached k body ne =
      sym (landing_same w.regions (origin_of w (place_of w k)) (body_of w k) w.memory (in_order w event k) (same_range w.memory (in_order w event k) (planned w k).reads.at (planned w k).reads.len (sym (length-in_order k)) (λ p low high.
      let read : holds (planned w k).reads p ≡ true = bounds_hold (planned w k).reads p low high in
      sym (byte-in_order k p ∙ value_missed all_written (effect w event) k p (byte w.memory p) (λ j l m. effect_misses w ok event reached j p ((ok.plain k body ne).reads_spared j p (omega arith) (omega arith) read))))))

  -- so its effect is what it writes when it lands in this order
  pub in_order_writes : ((p : ℕ) → hits event p ≡ true → may_write w w.event p ≡ true) → (k : ℕ) → k < bodies_of w → k ≢ w.event → effect w event k ≡ (landing_on w (in_order w event k) k).writes
  in_order_writes reached k body ne = let other : (k == w.event) ≡ false = ne_eqb k w.event ne in rw other (ap (λ (l : Landing). l.writes) (sym (in_order_plain reached k body ne)))

-- once all bodies have landed, the private bytes are those of landing them in the order of their slots
pub all_landed_ends : (w : Opening) (ok : Orderly w) (memory : List ℕ) (event : List Change) (last : Standing w memory all_written event) (p : ℕ) → w.ours p ≡ true → byte memory p ≡ byte (in_order w event (bodies_of w)) p
all_landed_ends w ok memory event last p ours = last.bytes p ours ∙ sym (byte-in_order w ok event last.fits (bodies_of w) p)

pub ends : (w : Opening) (ok : Orderly w) (s : State) (t : Progress) (event : List Change) (h : Stage w s t event) → place_of w (bodies_of w) ≤ t.done → (p : ℕ) → w.ours p ≡ true → byte s.memory p ≡ byte (in_order w event (bodies_of w)) p
ends w ok s t event h all p ours =
    all_landed_ends w ok s.memory event (marked w ok s.memory (written_in w t) event h.standing all_written
    (λ j p l. sym (landed_before t.done t.marks (place_of w j) (let below = place_below w j (bodies_of w) l in omega (arith, below, all))))) p ours

-- a byte that no body may write ends as it began, and one that a single body may write as that one leaves it
module _ (w : Opening) (ok : Orderly w) (memory : List ℕ) (event : List Change) (last : Standing w memory all_written event) (p : ℕ) (ours : w.ours p ≡ true) where
  pub byte_kept : ((j : ℕ) → j < bodies_of w → may_write w j p ≡ false) → byte memory p ≡ byte w.memory p
  byte_kept spared = last.bytes p ours ∙ value_missed all_written (effect w event) (bodies_of w) p (byte w.memory p) (λ j l m. effect_misses w ok event last.reached j p (spared j l))

  pub byte_written : (k : ℕ) → k < bodies_of w → ((j : ℕ) → j < bodies_of w → j ≢ k → may_write w j p ≡ false) → byte memory p ≡ over (effect w event k) p (byte w.memory p)
  byte_written k inside spared = last.bytes p ours ∙ value_only all_written (effect w event) k (bodies_of w) p (byte w.memory p) inside (λ j l ne m. effect_misses w ok event last.reached j p (spared j l ne))
