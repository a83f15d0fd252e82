-- A draft that faults tells of a place past the end of its table.
use Rattle.std.proofs.Common.{◌≡◌, ℕ, ◌/◌, ◌%◌, Bool, true, false, not, cond, ◌&&◌, ◌==◌, List, [], ◌∷◌, refl, sym, subst}
use Rattle.std.specs.Prelude.{nat_le}
use Rattle.redn_words.specs.declared.types.Obs.{Obs}
use Rattle.redn_words.specs.declared.types.Obs.TheVariants as shows
use Rattle.redn_words.specs.declared.types.Kind.{Kind}
use Rattle.redn_words.specs.declared.types.Kind.TheVariants.{Vars, Table, Code, Control, Message}
use Rattle.redn_words.specs.declared.types.Request.{Request}
use Rattle.redn_words.specs.declared.types.Origin.{Origin}
use Rattle.redn_words.specs.declared.types.Opcode.{Opcode}
use Rattle.redn_words.specs.declared.types.Opcode.TheVariants.{Write, Read, Cas, Add, Send}
use Rattle.redn_words.specs.Landings.{send_shows, reply_words, add_to, odd, is_hidden, when}
use Rattle.redn_segment.specs.declared.types.Space.{Space}
use Rattle.redn_segment.specs.declared.types.Space.TheVariants as space
use Rattle.redn_segment.specs.declared.types.Draft.{Draft}
use Rattle.redn_segment.specs.Orders.{is_send}
use Rattle.redn_segment.specs.Plain.{Bytes, Put, Outcome, Faults, Bad, acts, with_event, past_table, local_space, remote_space, remote_at, request_of, origin, fits, reaches}
use Rattle.redn_segment.specs.Sites.{kind_of}
use Rattle.redn_proof_ring.proofs.Alone.{NoFault}
use Rattle.redn_proof_ring.proofs.NoFaults.{no_fault}

module _ (chain : ℕ) (s : Bytes) (slot : List ℕ) (d : Draft) (us : List Put) (events : List Obs) where
  -- of which table it tells
  pub record IsPast (op : Opcode) : Type 0 where
    pub table : ℕ
    pub offset : ℕ
    pub its : remote_space d ≡ space.Table table
    pub events_are : events ≡ shows.Fault chain table offset ∷ []
    pub moves : is_send op ≡ false

  past : (op : Opcode) → is_send op ≡ false → (p : Space) → remote_space d ≡ p → past_table chain slot d p ≡ Faults us events → IsPast op
  past op sends (space.Table t) is = by_length (d.length == 8)
    where
      by_length : (b : Bool) → cond b (Faults [] (shows.Fault chain t (remote_at slot d) ∷ [])) Bad ≡ Faults us events → IsPast op
      by_length true e = let same : shows.Fault chain t (remote_at slot d) ∷ [] ≡ events = cc in record { table = t; offset = remote_at slot d; its = is; events_are = sym same; moves = sends }
      by_length false e = absurd (cc)
  past op sends _ is = λ e. absurd (cc)

  by_reach : (op : Opcode) → is_send op ≡ false → (b c : Bool) (o : Outcome) → (b ≡ true → acts chain s slot d op ≡ Faults us events → ⊥) → reaches s slot d d.length ≡ b → acts chain s slot d op ≡ Faults us events → cond (not c) Bad (cond (not b) (past_table chain slot d (remote_space d)) o) ≡ Faults us events → IsPast op
  by_reach op sends true c o none e whole f = absurd (none refl whole)
  by_reach op sends false true o none e whole f = past op sends (remote_space d) refl f
  by_reach op sends false false o none e whole f = absurd (cc)

  none_by : (op : Opcode) → reaches s slot d d.length ≡ true → acts chain s slot d op ≡ Faults us events → ⊥
  none_by op e f = subst NoFault f (no_fault chain s slot d op e)

  sends_none : (o : Origin) (r : Request) (bytes : List ℕ) (k : Kind) → with_event [] (send_shows o r bytes k) ≡ Faults us events → ⊥
  sends_none o r bytes Control e = by_size (r.length % 8 == 0 && nat_le r.length 64) o.chain (r.length / 8) (reply_words (r.length / 8) bytes) e
    where
      by_size : (b : Bool) (n k : ℕ) (ws : List ℕ) → with_event [] (when b (shows.Reply n k ws) o) ≡ Faults us events → ⊥
      by_size true n k ws f = absurd (cc)
      by_size false n k ws f = absurd (cc)
  sends_none o r bytes _ e = absurd (cc)

  gate_none : (b : Bool) (o : Outcome) → (o ≡ Faults us events → ⊥) → cond (not b) Bad o ≡ Faults us events → ⊥
  gate_none true o h e = h e
  gate_none false o h e = absurd (cc)

  cas_none : (o : Origin) (vs : List Put) (b : Bool) → with_event vs (when b shows.Nothing o) ≡ Faults us events → ⊥
  cas_none o vs true e = absurd (cc)
  cas_none o vs false e = absurd (cc)

  add_none : (o : Origin) (r : Request) (w : ℕ) (vs : List Put) (b : Bool) (k : Kind) → with_event vs (cond b (add_to o r w k) (odd o)) ≡ Faults us events → ⊥
  add_none o r w vs false k e = absurd (cc)
  add_none o r w vs true Vars e = absurd (cc)
  add_none o r w vs true (Table t) e = absurd (cc)
  add_none o r w vs true Code e = absurd (cc)
  add_none o r w vs true Control e = absurd (cc)
  add_none o r w vs true Message e = absurd (cc)

  pub is_past : (op : Opcode) → acts chain s slot d op ≡ Faults us events → IsPast op
  unfolding acts
  is_past Write e = by_reach Write refl (reaches s slot d d.length) (fits d d.length) _ (λ r f. none_by Write r f) refl e e
  is_past Read e = by_reach Read refl (reaches s slot d d.length) (fits d d.length) _ (λ r f. none_by Read r f) refl e e
  is_past Cas e = absurd (gate_none _ _ (cas_none (origin chain) _ (is_hidden (kind_of (local_space d)) && is_hidden (kind_of (remote_space d)))) e)
  is_past Add e = absurd (gate_none _ _ (add_none (origin chain) (request_of slot d) _ _ (is_hidden (kind_of (local_space d))) (kind_of (remote_space d))) e)
  is_past Send e = absurd (gate_none _ _ (sends_none (origin chain) (request_of slot d) _ (kind_of (local_space d))) e)
  is_past _ e = absurd (cc)
