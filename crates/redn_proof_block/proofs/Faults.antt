-- What the runs of drafts show is true of the tables that they saw, also where they end by a fault.
use Rattle.std.proofs.Common.{◌≡◌, ◌⊎◌, inl, inr, ℕ, ◌+◌, Bool, true, false, cond, not, ◌&&◌, List, [], ◌∷◌, ◌++◌, length, refl, sym, ap, ◌∙◌, subst}
use Rattle.std.specs.Prelude.{nat_le, ◌==◌}
use Rattle.std.specs.List.{All}
use Rattle.std.proofs.lemmas.Bool.{eqb-true, true≢false}
use Rattle.std.proofs.lemmas.List.{append-nil}
use Rattle.std.proofs.lemmas.List.Elements.{All-nil, All-cons}
use Rattle.redn_words.specs.declared.types.Kind.{Kind}
use Rattle.redn_words.specs.declared.types.Kind.TheVariants.{Vars, Table}
use Rattle.redn_words.specs.declared.types.Opcode.{Opcode}
use Rattle.redn_words.specs.declared.types.Opcode.TheVariants.{Write, Read, Cas, Add, Send}
use Rattle.redn_words.specs.declared.types.Obs.{Obs}
use Rattle.redn_words.specs.declared.types.Obs.TheVariants as shows
use Rattle.redn_words.specs.Words.{word}
use Rattle.redn_segment.specs.declared.types.SlotRef.{SlotRef}
use Rattle.redn_segment.specs.declared.types.Space.{Space}
use Rattle.redn_segment.specs.declared.types.Space.TheVariants as space
use Rattle.redn_segment.specs.declared.types.Draft.{Draft}
use Rattle.redn_segment.specs.Sites.{kind_of, is_table, inside, next_slot}
use Rattle.redn_segment.specs.Plain.{Bytes, View, Put, placed, Outcome, Went, Faults, Bad, after, follow, seeing, step, runs, acts, opcode_in, with_event, origin, request_of, fits, reaches, is_length, is_atomic, past_table, local_space, remote_space, local_bytes, remote_bytes, remote_at}
use Rattle.redn_proof_landing.proofs.Telling.{Tells, same_offset, write_tells, read_tells, cas_tells, add_tells, send_tells}
use Rattle.redn_proof_ring.specs.Runs.{own_view}
use Rattle.redn_proof_block.specs.Truth.{IsTrueBy}
use Rattle.redn_proof_block.proofs.Views.{AllTrue, runs_true}

offset_itself : (k : Kind) (a : ℕ) → same_offset k a a
offset_itself Vars a = refl
offset_itself (Table t) a = refl
offset_itself _ a = tt

event_no_fault : (us vs : List Put) (l : List Obs) (o : Obs) → Tells o o → with_event us o ≡ Faults vs l → ⊥
event_no_fault us vs l (shows.Fault c t o) h e = h
event_no_fault us vs l _ h e = absurd (cc)

faults_if : (b : Bool) (o : Outcome) (us : List Put) (l : List Obs) → cond (not b) Bad o ≡ Faults us l → o ≡ Faults us l
faults_if true o us l e = e
faults_if false o us l e = absurd (cc)

faults_reach : (b : Bool) (p o : Outcome) (us : List Put) (l : List Obs) → cond (not b) p o ≡ Faults us l → ((b ≡ false) × (p ≡ Faults us l)) ⊎ (o ≡ Faults us l)
faults_reach true p o us l e = inr e
faults_reach false p o us l e = inl (refl, e)

module _ (number : ℕ) (u : Bytes) where
  abbrev see : ℕ → List ℕ
  see t = u (space.Table t)

  module _ (s : Bytes) (slot : List ℕ) (d : Draft) where
    past_true : (p : Space) → remote_space d ≡ p → reaches (seeing see s) slot d d.length ≡ false → (us : List Put) (l : List Obs) → past_table number slot d p ≡ Faults us l → AllTrue number u l
    past_true (space.Table t) is out us l h = by_length (d.length == 8) refl (is_table d.remote) refl h
      where
        by_length : (b : Bool) → (d.length == 8) ≡ b → (c : Bool) → is_table d.remote ≡ c → cond b (Faults [] (shows.Fault number t (remote_at slot d) ∷ [])) Bad ≡ Faults us l → AllTrue number u l
        by_length true e true table h =
            let events : shows.Fault number t (remote_at slot d) ∷ [] ≡ l = cc in
            let short : nat_le (remote_at slot d + d.length) (length (seeing see s (remote_space d))) ≡ false = sym (ap (λ (b : Bool). cond b (nat_le (remote_at slot d + d.length) (length (seeing see s (remote_space d)))) true) table) ∙ out in
            let there : nat_le (remote_at slot d + 8) (length (see t)) ≡ false = ap (λ (n : ℕ). nat_le (remote_at slot d + n) (length (see t))) (sym (eqb-true d.length 8 e)) ∙ (ap (λ (q : Space). nat_le (remote_at slot d + d.length) (length (seeing see s q))) (sym is) ∙ short) in
            subst (AllTrue number u) events (there, tt)
        by_length true e false flat h =
            absurd (true≢false (sym (ap (λ (b : Bool). cond b (nat_le (remote_at slot d + d.length) (length (seeing see s (remote_space d)))) true) flat) ∙ out))
        by_length false e c table h = absurd (cc)
    past_true _ is out us l h = absurd (cc)

    acts_true : (op : Opcode) (us : List Put) (l : List Obs) → acts number (seeing see s) slot d op ≡ Faults us l → AllTrue number u l
    unfolding acts
    acts_true Write us l e =
        elim (faults_reach (reaches (seeing see s) slot d d.length) _ _ us l (faults_if (fits d d.length) _ us l e)) [
          | inl past ↦ past_true (remote_space d) refl past.0 us l past.1
          | inr told ↦ absurd (event_no_fault _ us l _ (write_tells (origin number) (origin number) refl (request_of slot d) (request_of slot d) refl (word (local_bytes (seeing see s) d d.length) 0) (kind_of (local_space d)) (kind_of (remote_space d)) (offset_itself (kind_of (remote_space d)) _)) told)
        ]
    acts_true Read us l e =
        elim (faults_reach (reaches (seeing see s) slot d d.length) _ _ us l (faults_if (fits d d.length) _ us l e)) [
          | inl past ↦ past_true (remote_space d) refl past.0 us l past.1
          | inr told ↦ absurd (event_no_fault _ us l _ (read_tells (origin number) (origin number) refl (request_of slot d) (request_of slot d) refl (word (remote_bytes (seeing see s) slot d d.length) 0) (kind_of (local_space d)) (kind_of (remote_space d)) (offset_itself (kind_of (local_space d)) _) (offset_itself (kind_of (remote_space d)) _)) told)
        ]
    acts_true Cas us l e = absurd (event_no_fault _ us l _ (cas_tells (origin number) (origin number) refl (kind_of (local_space d)) (kind_of (remote_space d))) (faults_if (fits d 8 && is_atomic d) _ us l e))
    acts_true Add us l e =
        absurd (event_no_fault _ us l _ (add_tells (origin number) (origin number) refl (request_of slot d) (request_of slot d) refl _ (kind_of (local_space d)) (kind_of (remote_space d)) (offset_itself (kind_of (remote_space d)) _)) (faults_if (fits d 8 && is_atomic d) _ us l e))
    acts_true Send us l e =
        absurd (event_no_fault _ us l _ (send_tells (origin number) (origin number) refl (request_of slot d) (request_of slot d) refl (local_bytes (seeing see s) d d.length) (kind_of (local_space d))) (faults_if (is_length d.length && (not (is_table d.local) && inside d.local d.local_byte d.length)) _ us l e))
    acts_true _ us l e = absurd (cc)

  all_both : (l m : List Obs) → AllTrue number u l → AllTrue number u m → AllTrue number u (l ++ m)
  all_both [] m h k = k
  all_both (e ∷ l) m h k = (h.0, all_both l m h.1 k)

  abbrev v : View
  v = own_view number u

  -- one draft that goes through
  one_true : (d : Draft) (at : SlotRef) (s : Bytes) (us : List Put) (l : List Obs) → step v at d s ≡ Went us l → AllTrue number u l
  one_true d at s us l e =
      subst (AllTrue number u) (append-nil l) (runs_true number u (d ∷ []) at s (us ++ []) (l ++ []) (ap (λ (o : Outcome). follow o (λ (ws : List Put). Went [] [])) e))

  pub runs_fault_true : (ds : List Draft) (at : SlotRef) (s : Bytes) (us : List Put) (l : List Obs) → runs v at ds s ≡ Faults us l → AllTrue number u l
  runs_fault_true [] at s us l e = absurd (cc)
  runs_fault_true (d ∷ ds) at s us l e = by_first (step v at d s) refl (λ ws vs m k. runs_fault_true ds (next_slot at) (placed s ws) vs m k) e
    where
      by_rest : (ws : List Put) (shown : List Obs) → AllTrue number u shown → (o : Outcome) → ((vs : List Put) (m : List Obs) → o ≡ Faults vs m → AllTrue number u m) → after ws shown o ≡ Faults us l → AllTrue number u l
      by_rest ws shown h (Went vs m) rest e = absurd (cc)
      by_rest ws shown h (Faults vs m) rest e = let same : shown ++ m ≡ l = cc in subst (AllTrue number u) same (all_both shown m h (rest vs m refl))
      by_rest ws shown h Bad rest e = absurd (cc)

      by_first : (o : Outcome) → step v at d s ≡ o → ((ws vs : List Put) (m : List Obs) → runs v (next_slot at) ds (placed s ws) ≡ Faults vs m → AllTrue number u m) → follow o (λ (ws : List Put). runs v (next_slot at) ds (placed s ws)) ≡ Faults us l → AllTrue number u l
      by_first (Went ws shown) is rest e = by_rest ws shown (one_true d at s ws shown is) (runs v (next_slot at) ds (placed s ws)) (rest ws) e
      by_first (Faults ws shown) is rest e = let same : shown ≡ l = cc in subst (AllTrue number u) same (acts_true s (s (space.Slot at)) d (opcode_in (s (space.Slot at))) ws shown is)
      by_first Bad is rest e = absurd (cc)

  pub as_all : (l : List Obs) → AllTrue number u l → All (IsTrueBy see) l
  as_all [] h = All-nil (IsTrueBy see)
  as_all (e ∷ l) h = All-cons (IsTrueBy see) e l h.0 (as_all l h.1)
