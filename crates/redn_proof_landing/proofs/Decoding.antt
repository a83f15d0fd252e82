-- A ready slot decodes to its draft's request, with the present values of the fields that drafts write; and it lands as its plain step says.
use Rattle.std.proofs.Common.{◌≡◌, ℕ, ◌+◌, ◌<◌, ◌≤◌, Bool, true, false, not, cond, List, length, refl, sym, ap, ◌∙◌, subst, arith}
use Rattle.std.specs.Prelude.{nat_le, nat_lt}
use Rattle.std.proofs.lemmas.Bool.{false≢true, or_left, or_right, and_from, le-leb, lt-ltb}
use Rattle.redn_words.specs.declared.types.Region.{Region}
use Rattle.redn_words.specs.declared.types.Request.{Request}
use Rattle.redn_words.specs.declared.types.Origin.{Origin}
use Rattle.redn_words.specs.declared.types.Opcode.{Opcode}
use Rattle.redn_words.specs.declared.types.Opcode.TheVariants.{Noop, Write, Read, Cas, Add, Send}
use Rattle.redn_proof_landing.proofs.Placing.{lands_write, lands_read, lands_cas, lands_add, lands_send, lands_noop}
use Rattle.redn_proof_landing.specs.Homes.{HasTarget, LandsAs, seen_in, reads_by}
use Rattle.redn_proof_landing.specs.Requested.{requested, remote_key, remote_offset, IsReady, SparesFixed}
use Rattle.redn_proof_landing.specs.Segments.{CanLand}
use Rattle.redn_segment.proofs.Kept.{same_bytes}
use Rattle.redn_segment.specs.Homes.{Home, HasLocal}
use Rattle.redn_segment.specs.Orders.{is_send}
use Rattle.redn_segment.specs.Plain.{opcode_in, remote_in, remote_space, acts}
use Rattle.redn_segment.specs.Primed.{covers}
use Rattle.redn_segment.specs.Sites.{start_of, is_table}
use Rattle.redn_words.proofs.Numbers.{number_same}
use Rattle.redn_words.proofs.Slots.{decoded-encoded, length-encoded}
use Rattle.redn_words.specs.Slots.{IsNarrow}
use Rattle.redn_words.specs.Landings.{landing, lands}
use Rattle.redn_words.specs.Requests.{decoded, encoded}
use Rattle.redn_words.specs.Words.{number}
use Rattle.redn_segment.specs.declared.types.Space.{Space}
use Rattle.redn_segment.specs.declared.types.Draft.{Draft}
use Rattle.redn_segment.proofs.Touching.{opcode_read}

covered : (at len i : ℕ) → at ≤ i → i < at + len → covers at len i ≡ true
covered at len i low high = and_from (nat_le at i) (nat_lt i (at + len)) (le-leb at i low) (lt-ltb i (at + len) high)

module _ (written : ℕ → Bool) (r : Request) (slot : List ℕ) (ready : IsReady written r slot) where
  -- a number that no draft writes
  pub number_stands : (o n : ℕ) → o + n ≤ 64 → ((i : ℕ) → o ≤ i → i < o + n → written i ≡ false) → number n slot o ≡ number n (encoded r) o
  number_stands o n fits spared =
      let long : length slot ≡ 64 = ready.len in
      let long_request : length (encoded r) ≡ 64 = length-encoded r in
      number_same n slot (encoded r) o o (same_bytes n o slot (encoded r) (omega arith) (omega arith) (λ i low high. ready.bytes i (omega arith) (spared i low high)))

module _ (home : Space → Home) (d : Draft) (flags : ℕ) (written : ℕ → Bool) (slot : List ℕ) (narrow : IsNarrow (requested home d flags)) (ready : IsReady written (requested home d flags) slot) (spared : SparesFixed written d) where
  abbrev r : Request
  r = requested home d flags

  whole : decoded (encoded r) ≡ r
  whole = decoded-encoded r narrow

  in_keys : (i : ℕ) → 8 ≤ i → i < 24 → written i ≡ false
  in_keys i low high = spared i (or_left (covers 8 16 i) _ (covered 8 16 i low high))

  in_length : (i : ℕ) → 32 ≤ i → i < 40 → written i ≡ false
  in_length i low high = spared i (or_right (covers 8 16 i) _ (or_left (covers 32 8 i) _ (covered 32 8 i low high)))

  in_flags : (i : ℕ) → 56 ≤ i → i < 64 → written i ≡ false
  in_flags i low high = spared i (or_right (covers 8 16 i) _ (or_right (covers 32 8 i) _ (or_left (covers 56 8 i) _ (covered 56 8 i low high))))

  in_remote : is_table d.remote ≡ false → (i : ℕ) → 24 ≤ i → i < 32 → written i ≡ false
  in_remote t i low high =
      let plain : not (is_table d.remote) ≡ true = rw t refl in
      spared i (or_right (covers 8 16 i) _ (or_right (covers 32 8 i) _ (or_right (covers 56 8 i) _ (and_from (not (is_table d.remote)) (covers 24 8 i) plain (covered 24 8 i low high)))))

  pub ready_local : HasLocal home (decoded slot) d
  unfolding decoded
  ready_local =
      record {
        key = number_stands written r slot ready 8 4 (omega arith) (λ i low high. in_keys i (omega arith) (omega arith)) ∙ ap (λ (q : Request). q.lkey) whole;
        offset = number_stands written r slot ready 16 8 (omega arith) (λ i low high. in_keys i (omega arith) (omega arith)) ∙ ap (λ (q : Request). q.local) whole;
        len = number_stands written r slot ready 32 8 (omega arith) (λ i low high. in_length i (omega arith) (omega arith)) ∙ ap (λ (q : Request). q.length) whole;
      }

  pub ready_flags : (decoded slot).flags ≡ flags
  unfolding decoded
  ready_flags = number_stands written r slot ready 56 8 (omega arith) (λ i low high. in_flags i (omega arith) (omega arith)) ∙ ap (λ (q : Request). q.flags) whole

  key_is : (op : Opcode) → is_send op ≡ false → remote_key home d op ≡ (home (remote_space d)).region.key
  key_is Send e = absurd (false≢true (sym e))
  key_is _ e = refl

  offset_is : (op : Opcode) → is_send op ≡ false → remote_offset home d op ≡ (home (remote_space d)).offset + (start_of d.remote + d.remote_byte)
  offset_is Send e = absurd (false≢true (sym e))
  offset_is _ e = refl

  -- a table begins where its region does
  pub ready_remote : is_send d.op ≡ false → (is_table d.remote ≡ true → (home (remote_space d)).offset ≡ 0) → HasTarget home (decoded slot) d slot
  unfolding decoded
  ready_remote other table_start =
      record {
        key = number_stands written r slot ready 12 4 (omega arith) (λ i low high. in_keys i (omega arith) (omega arith)) ∙ ap (λ (q : Request). q.rkey) whole ∙ key_is d.op other;
        offset = elim (is_table d.remote) as (λ b. is_table d.remote ≡ b → number 8 slot 24 ≡ (home (remote_space d)).offset + cond b (remote_in slot) (start_of d.remote + d.remote_byte)) [
          | true ↦ λ t. let none = table_start t in omega arith
          | false ↦ λ t. number_stands written r slot ready 24 8 (omega arith) (λ i low high. in_remote t i (omega arith) (omega arith)) ∙ ap (λ (q : Request). q.remote) whole ∙ offset_is d.op other
        ] refl;
        first = refl;
        second = refl;
      }

module _ (home : Space → Home) (regions : List Region) (o : Origin) (m : List ℕ) (d : Draft) (slot : List ℕ) where
  by_opcode : (op : Opcode) → CanLand home regions o.chain (length m) d slot op → LandsAs home (reads_by home d slot op) (acts o.chain (seen_in home m) slot d op) (lands regions o m (decoded slot) op)
  unfolding acts
  by_opcode Noop h = lands_noop home regions o m d slot (decoded slot) h.from h.local_home
  by_opcode Write h = lands_write home regions o m d slot (decoded slot) h.from h.local_home (h.to refl) (h.remote_home refl) h.granted
  by_opcode Read h = lands_read home regions o m d slot (decoded slot) h.from h.local_home (h.to refl) (h.remote_home refl) h.granted
  by_opcode Cas h = lands_cas home regions o m d slot (decoded slot) h.from h.local_home (h.to refl) (h.remote_home refl) h.granted
  by_opcode Add h = lands_add home regions o m d slot (decoded slot) h.from h.local_home (h.to refl) (h.remote_home refl) h.granted
  by_opcode Send h = lands_send home regions o m d slot (decoded slot) h.from h.local_home
  by_opcode _ h = tt

  -- a placed draft lands as its plain step says
  pub lands_placed : CanLand home regions o.chain (length m) d slot (opcode_in slot) → LandsAs home (reads_by home d slot (opcode_in slot)) (acts o.chain (seen_in home m) slot d (opcode_in slot)) (landing regions o m (decoded slot))
  lands_placed h = subst (λ (op : Opcode). LandsAs home (reads_by home d slot (opcode_in slot)) (acts o.chain (seen_in home m) slot d (opcode_in slot)) (lands regions o m (decoded slot) op)) (sym (opcode_read slot)) (by_opcode (opcode_in slot) h)
