-- A draft that finds its place in its table doesn't fault.
use Rattle.std.proofs.Common.{◌≡◌, ℕ, ◌+◌, ◌≤◌, Bool, true, false, not, cond, List, length, refl}
use Rattle.std.specs.Prelude.{nat_le}
use Rattle.std.proofs.lemmas.Bool.{le-leb}
use Rattle.redn_words.specs.declared.types.Obs.{Obs}
use Rattle.redn_words.specs.declared.types.Obs.TheVariants as shows
use Rattle.redn_words.specs.declared.types.Kind.{Kind}
use Rattle.redn_words.specs.declared.types.Kind.TheVariants.{Vars, Table}
use Rattle.redn_words.specs.declared.types.Opcode.{Opcode}
use Rattle.redn_words.specs.declared.types.Opcode.TheVariants.{Write, Read, Cas, Add, Send}
use Rattle.redn_proof_landing.proofs.Telling.{Tells, same_offset, write_tells, read_tells, cas_tells, add_tells, send_tells}
use Rattle.redn_proof_ring.proofs.Alone.{NoFault}
use Rattle.redn_segment.specs.Plain.{Bytes, Put, Outcome, Bad, acts, with_event, local_space, remote_space, remote_in, local_bytes, remote_bytes, request_of, origin, fits, reaches}
use Rattle.redn_segment.specs.Sites.{kind_of, is_table, start_of}
use Rattle.redn_words.specs.Words.{word}
use Rattle.redn_segment.specs.declared.types.Draft.{Draft}

event_no_fault : (us : List Put) (o : Obs) → Tells o o → NoFault (with_event us o)
event_no_fault us (shows.Fault c t o) h = absurd h
event_no_fault us _ h = tt

offset_itself : (k : Kind) (a : ℕ) → same_offset k a a
offset_itself Vars a = refl
offset_itself (Table t) a = refl
offset_itself _ a = tt

gated : (b : Bool) (o : Outcome) → NoFault o → NoFault (cond (not b) Bad o)
gated true o h = h
gated false o h = tt

reached : (b : Bool) (p o : Outcome) → b ≡ true → NoFault o → NoFault (cond (not b) p o)
reached true p o e h = h
reached false p o e h = absurd (cc)

module _ (chain : ℕ) (s : Bytes) (slot : List ℕ) (d : Draft) where
  pub no_fault : (op : Opcode) → reaches s slot d d.length ≡ true → NoFault (acts chain s slot d op)
  unfolding acts
  no_fault Write h =
      gated (fits d d.length) _ (reached (reaches s slot d d.length) _ _ h (event_no_fault _ _ (write_tells (origin chain) (origin chain) refl (request_of slot d) (request_of slot d) refl (word (local_bytes s d d.length) 0) (kind_of (local_space d)) (kind_of (remote_space d)) (offset_itself (kind_of (remote_space d)) _))))
  no_fault Read h =
      gated (fits d d.length) _ (reached (reaches s slot d d.length) _ _ h (event_no_fault _ _ (read_tells (origin chain) (origin chain) refl (request_of slot d) (request_of slot d) refl (word (remote_bytes s slot d d.length) 0) (kind_of (local_space d)) (kind_of (remote_space d)) (offset_itself (kind_of (local_space d)) _) (offset_itself (kind_of (remote_space d)) _))))
  no_fault Cas h = gated _ _ (event_no_fault _ _ (cas_tells (origin chain) (origin chain) refl (kind_of (local_space d)) (kind_of (remote_space d))))
  no_fault Add h =
      gated _ _ (event_no_fault _ _ (add_tells (origin chain) (origin chain) refl (request_of slot d) (request_of slot d) refl _ (kind_of (local_space d)) (kind_of (remote_space d)) (offset_itself (kind_of (remote_space d)) _)))
  no_fault Send h =
      gated _ _ (event_no_fault _ _ (send_tells (origin chain) (origin chain) refl (request_of slot d) (request_of slot d) refl (local_bytes s d d.length) (kind_of (local_space d))))
  no_fault _ h = tt

  -- as does one that has no table
  pub reaches_plain : is_table d.remote ≡ false → reaches s slot d d.length ≡ true
  reaches_plain e = rw e refl

  -- and one whose table is long enough
  pub reaches_long : remote_in slot + d.length ≤ length (s (remote_space d)) → reaches s slot d d.length ≡ true
  reaches_long l =
      elim (is_table d.remote) as (λ b. cond b (nat_le (cond b (remote_in slot) (start_of d.remote + d.remote_byte) + d.length) (length (s (remote_space d)))) true ≡ true) [
        | true ↦ le-leb (remote_in slot + d.length) (length (s (remote_space d))) l
        | false ↦ refl
      ]
