-- A counter that is there stays there, whatever acts.
use Rattle.std.proofs.Common.{◌≡◌, ℕ, ◌-◌, Bool, true, false, cond, ◌==◌, Option, Some, None, refl, ap}
use Rattle.std.specs.Prelude.{slice_get, nat_lt}
use Rattle.redn_words.specs.declared.types.QueueRow.{QueueRow}
use Rattle.redn_words.specs.declared.limits.TheConstants.{RECEIVE_BASE}
use Rattle.redn_words.specs.Requests.{decoded}
use Rattle.redn_words.specs.States.{Queue, Chain, State}
use Rattle.redn_words.specs.Steps.{queue_counter, chain_counter, counter_of}
use Rattle.redn_words.specs.Laws.{row_of, row_at}
use Rattle.redn_proof_window.specs.Windows.{Opening}
use Rattle.redn_proof_window.specs.Stages.{HasCounter, Counts}
use Rattle.redn_proof_window.specs.Moves.{MayBegin}

abbrev IsThere : Option ℕ → Type 0
IsThere o = (n : ℕ) × (o ≡ Some n)

-- a queue with the same row
row_counts : (domain : ℕ) (o x : Option Queue) → row_of x ≡ row_of o → IsThere (queue_counter domain o) → IsThere (queue_counter domain x)
row_counts domain None x e h = let none = h.1 in absurd (cc)
row_counts domain (Some u) None e h = absurd (cc)
row_counts domain (Some u) (Some v) e h =
    let same : v.row ≡ u.row = cc in
    by_domain (u.row.domain == domain) refl h (ap (λ (r : QueueRow). r.domain == domain) same)
  where
    by_domain : (b : Bool) → (u.row.domain == domain) ≡ b → IsThere (cond (u.row.domain == domain) (Some u.counter) None) → (v.row.domain == domain) ≡ (u.row.domain == domain) → IsThere (cond (v.row.domain == domain) (Some v.counter) None)
    by_domain true is there e = (v.counter, rw (e, is) refl)
    by_domain false is there e = let none : cond (u.row.domain == domain) (Some u.counter) None ≡ None = rw is refl in let some = there.1 in absurd (cc)

chain_counts : (o x : Option Chain) → ((c : Chain) → o ≡ Some c → (d : Chain) × (x ≡ Some d)) → IsThere (chain_counter o) → IsThere (chain_counter x)
chain_counts None x stays h = let none = h.1 in absurd (cc)
chain_counts (Some c) x stays h = let d = stays c refl in (d.0.received, ap chain_counter d.1)

-- a state with the same rows, and the same chains there
module _ (s t : State) (rows : (q : ℕ) → row_at t.queues q ≡ row_at s.queues q) (chains : (c : ℕ) (x : Chain) → slice_get s.chains c ≡ Some x → (y : Chain) × (slice_get t.chains c ≡ Some y)) where
  pub counter_stays : (domain n : ℕ) → HasCounter s domain n → HasCounter t domain n
  unfolding counter_of
  counter_stays domain n = by_queue (nat_lt n RECEIVE_BASE)
    where
      by_chain : (b : Bool) → IsThere (cond b (chain_counter (slice_get s.chains domain)) None) → IsThere (cond b (chain_counter (slice_get t.chains domain)) None)
      by_chain true h = chain_counts (slice_get s.chains domain) (slice_get t.chains domain) (chains domain) h
      by_chain false h = h

      by_queue : (b : Bool) → IsThere (cond b (queue_counter domain (slice_get s.queues n)) (cond (n - RECEIVE_BASE == domain) (chain_counter (slice_get s.chains domain)) None))
          → IsThere (cond b (queue_counter domain (slice_get t.queues n)) (cond (n - RECEIVE_BASE == domain) (chain_counter (slice_get t.chains domain)) None))
      by_queue true h = row_counts domain (slice_get s.queues n) (slice_get t.queues n) (rows n) h
      by_queue false h = by_chain (n - RECEIVE_BASE == domain) h

  -- so a first gate's counter stays
  pub counts_stay : (w : Opening) → Counts w s → Counts w t
  counts_stay w h copy is = counter_stays w.row.domain (decoded copy).first (h copy is)

-- a window without a first gate waits for nothing
pub no_gate_counts : (w : Opening) (s : State) → w.first_gate ≡ None → Counts w s
no_gate_counts w s none copy is = absurd (cc)

pub no_gate_begins : (w : Opening) (s : State) (done : ℕ) → w.first_gate ≡ None → MayBegin w s done
no_gate_begins w s done none copy is begun = absurd (cc)
