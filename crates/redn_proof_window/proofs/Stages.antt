-- What stands in memory while a window is open.
use Rattle.std.proofs.Common.{◌≡◌, ℕ, ◌<◌, Bool, true, false, cond, ◌==◌, List, length, refl, sym, ap, subst, ◌∙◌}
use Rattle.std.specs.Prelude.{slice_get}
use Rattle.std.proofs.lemmas.Bool.{false≢true, eqb-true, false_from_ne_true}
use Rattle.redn_words.specs.declared.types.Action.{Action}
use Rattle.redn_words.specs.Words.{bytes_at}
use Rattle.redn_words.specs.States.{State}
use Rattle.redn_words.specs.Landings.{Change}
use Rattle.redn_words.specs.Steps.{after, with_queue_at}
use Rattle.redn_words.proofs.Others.{rows_stay, regions_stay, set_here}
use Rattle.redn_words.specs.Others.{row_may_raise}
use Rattle.redn_words.proofs.Bytes.{same_range}
use Rattle.redn_words.specs.Bytes.{byte, hits}
use Rattle.redn_words.specs.Ranges.{Fits}
use Rattle.redn_words.specs.Access.{EndsBy}
use Rattle.redn_words.proofs.Footprints.{landing_fits, landing_hits}
use Rattle.redn_proof_window.specs.Windows.{By_gates, Opening, Window, bodies_of, place_of, slots_of, copy_of, body_of, origin_of, landing_on, planned, may_write, slot_at, enable_of}
use Rattle.redn_proof_window.specs.Stages.{Agrees, Gated, IsEnding, Orderly, effect, Standing, Progress, landed_in, written_in, Stage}
use Rattle.redn_proof_window.proofs.Counters.{counts_stay}
use Rattle.redn_proof_window.proofs.Orders.{value_same, value_missed}

module _ (w : Opening) (ok : Orderly w) where
  pub gates_are : w.ending ≡ By_gates → Gated w
  gates_are is = subst (IsEnding w) is ok.gates

  -- what a body writes, on a memory of this size
  pub writes_fit : (memory : List ℕ) (k : ℕ) → length memory ≡ length w.memory → Fits (length w.memory) (landing_on w memory k).writes
  writes_fit memory k size =
      subst (λ n. Fits n (landing_on w memory k).writes) size (landing_fits w.regions (origin_of w (place_of w k)) (body_of w k) memory (subst (λ n. EndsBy n w.regions) (sym size) ok.ends))

  pub writes_may : (memory : List ℕ) (k p : ℕ) → hits (landing_on w memory k).writes p ≡ true → may_write w k p ≡ true
  writes_may memory k p hit = landing_hits w.regions (origin_of w (place_of w k)) (body_of w k) memory p hit

  module _ (event : List Change) (reached : (p : ℕ) → hits event p ≡ true → may_write w w.event p ≡ true) where
    -- an effect hits only what its body may write
    effect_may : (k p : ℕ) → hits (effect w event k) p ≡ true → may_write w k p ≡ true
    effect_may k p =
        elim (k == w.event) as (λ b. k == w.event ≡ b → hits (cond b event (planned w k).writes) p ≡ true → may_write w k p ≡ true) [
          | true ↦ λ t hit. ap (λ n. may_write w n p) (eqb-true k w.event t) ∙ reached p hit
          | false ↦ λ t hit. writes_may w.memory k p hit
        ] refl

    pub effect_misses : (k p : ℕ) → may_write w k p ≡ false → hits (effect w event k) p ≡ false
    effect_misses k p h = false_from_ne_true (hits (effect w event k) p) (λ hit. false≢true (sym h ∙ effect_may k p hit))

  module _ (memory : List ℕ) (written : ℕ → ℕ → Bool) (event : List Change) (standing : Standing w memory written event) where
    -- a private byte that none may write of the bodies that have written is as at the opening
    pub byte_stands : (p : ℕ) → w.ours p ≡ true → ((j : ℕ) → j < bodies_of w → written j p ≡ true → may_write w j p ≡ false) → byte memory p ≡ byte w.memory p
    byte_stands p ours spared =
        standing.bytes p ours ∙ value_missed written (effect w event) (bodies_of w) p (byte w.memory p) (λ j l m. effect_misses event standing.reached j p (spared j l m))

    -- so the slots of the window stand as they were fetched
    pub slot_stands : (k : ℕ) → k < slots_of w → bytes_at memory (slot_at w k) 64 ≡ copy_of w k
    slot_stands k l =
        same_range memory w.memory (slot_at w k) 64 standing.size (λ p low high. byte_stands p (ok.slots_ours k p l low high) (λ j m t. ok.slots_spared k j p l m low high)) ∙ ok.slots_stand k l

    -- said otherwise of the same bodies
    pub marked : (next : ℕ → ℕ → Bool) → ((j p : ℕ) → j < bodies_of w → next j p ≡ written j p) → Standing w memory next event
    marked next same =
        record {
          size = standing.size;
          bytes = λ p ours. standing.bytes p ours ∙ sym (value_same written next (effect w event) (effect w event) p (byte w.memory p) (bodies_of w) (λ j l. same j p l) (λ j l m. refl));
          fits = standing.fits;
          reached = standing.reached;
        }

  -- the memory as the event's landing finds it
  pub event_agrees : (s : State) (t : Progress) (event : List Change) → Stage w s t event → landed_in w t w.event ≡ false → Agrees w s.memory
  event_agrees s t event h unlanded =
      record {
        size = h.standing.size;
        bytes = λ p ours spared. byte_stands s.memory (written_in w t) event h.standing p ours (λ j l m. spared j l (λ e. false≢true (sym unlanded ∙ ap (landed_in w t) (sym e) ∙ m)));
      }

  -- an action that turns this queue alone
  pub turned : (s : State) (t now : Progress) (event : List Change) → Stage w s t event → (a : Action) → after s a ≡ with_queue_at s w.queue now.queue → Window w now.queue now.done now.marks
      → ((j : ℕ) → j < bodies_of w → landed_in w now j ≡ landed_in w t j) → Stage w (after s a) now event
  turned s t now event h a is window same =
      record {
        there = ap (λ (z : State). slice_get z.queues w.queue) is ∙ set_here s.queues w.queue t.queue now.queue h.there;
        window = window;
        regions = regions_stay s a ∙ h.regions;
        standing = let memory : s.memory ≡ (after s a).memory = sym (ap (λ (z : State). z.memory) is) in
            subst (λ (m : List ℕ). Standing w m (written_in w now) event) memory (marked s.memory (written_in w t) event h.standing (written_in w now) (λ j p. same j));
        waits = counts_stay s (after s a) (rows_stay s a) (λ c x there. (x, ap (λ (z : State). slice_get z.chains c) is ∙ there)) w h.waits;
        target = λ two. ap (row_may_raise w.row.domain) (rows_stay s a (enable_of w).first) ∙ h.target two;
      }
