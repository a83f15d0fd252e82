-- Runs go by what their own slots see.
use Rattle.std.proofs.Common.{◌≡◌, ℕ, suc, ◌+◌, Bool, true, false, cond, not, ◌&&◌, ◌==◌, List, [], ◌∷◌, ◌++◌, length, map, refl, sym, ap, ◌∙◌, subst, arith}
use Rattle.std.specs.Prelude.{if◌then◌else◌, nat_le}
use Rattle.std.proofs.lemmas.List.FromFn.{get_or-map-range_with_len}
use Rattle.redn_words.specs.Words.{word, spelled}
use Rattle.redn_words.specs.Landings.{sum_of}
use Rattle.redn_words.specs.declared.types.Opcode.{Opcode}
use Rattle.redn_words.specs.declared.types.Opcode.TheVariants.{Write, Read, Cas, Add, Send}
use Rattle.std.specs.List.{range_with_len}
use Rattle.redn_words.specs.declared.types.Obs.{Obs}
use Rattle.redn_words.specs.declared.types.Obs.TheVariants as shows
use Rattle.redn_kernel.specs.Source.{bytes_of}
use Rattle.redn_segment.specs.declared.types.SlotRef.{SlotRef}
use Rattle.redn_segment.specs.declared.types.Space.TheVariants as space
use Rattle.redn_segment.specs.declared.types.Draft.{Draft}
use Rattle.redn_segment.specs.Sites.{next_slot, is_table, inside}
use Rattle.redn_segment.specs.Plain.{Bytes, View, Put, placed, Outcome, Went, after, follow, seeing, step, acts, opcode_in, runs, with_event, fits, reaches, is_atomic, is_length, request_of, to_local, to_remote, swap, first_in, local_bytes, remote_bytes}
use Rattle.redn_segment.specs.Primed.{IsBytes, SeesBytes}
use Rattle.redn_segment.specs.Effects.{is_own}
use Rattle.redn_segment.proofs.PutSides.{went_if, went_reach}
use Rattle.redn_segment.proofs.Composing.{Owns, lies_from, lies_to}
use Rattle.redn_proof_ring.specs.Runs.{own_view}
use Rattle.redn_block.specs.Plays.{IsTrueOf}
use Rattle.redn_proof_block.specs.Truth.{IsTrueBy}
use Rattle.redn_proof_block.proofs.Truth.{acts_true}

owns_next : (at : SlotRef) (n : ℕ) (q : SlotRef) → Owns (next_slot at) n q → Owns at (suc n) q
owns_next at n q o = let l = lies_from (next_slot at) n q o in let low = l.1 in let high = l.2 in lies_to at (suc n) q (l.0, omega arith, omega arith)

-- two views that agree on the slots of a run
pub runs_alike : (v w : View) → v.number ≡ w.number → (ds : List Draft) (at : SlotRef) (s : Bytes) → ((q : SlotRef) → Owns at (length ds) q → v.tables q ≡ w.tables q) → runs v at ds s ≡ runs w at ds s
runs_alike v w same [] at s h = refl
runs_alike v w same (d ∷ ds) at s h =
    let here : Owns at (suc (length ds)) at = lies_to at (suc (length ds)) at (refl, omega arith, omega arith) in
    let one : step v at d s ≡ step w at d s = (λ i. acts (same i) (seeing (h at here i) s) (s (space.Slot at)) d (opcode_in (s (space.Slot at)))) in
    ap (λ (o : Outcome). follow o (λ (us : List Put). runs v (next_slot at) ds (placed s us))) one ∙ ap (λ (f : List Put → Outcome). follow (step w at d s) f) (λ i us. runs_alike v w same ds (next_slot at) (placed s us) (λ q o. h q (owns_next at (length ds) q o)) i)

-- the slots of a run see one view, and all others another
module _ (at : SlotRef) (n : ℕ) (v w : View) where
  abbrev pub split : View
  split = record { number = v.number; tables = λ (q : SlotRef). if is_own at n (space.Slot q) then v.tables q else w.tables q }

  pub split_here : (q : SlotRef) → Owns at n q → split.tables q ≡ v.tables q
  split_here q o = ap (λ (b : Bool). cond b (v.tables q) (w.tables q)) o

  pub split_there : (q : SlotRef) → is_own at n (space.Slot q) ≡ false → split.tables q ≡ w.tables q
  split_there q o = ap (λ (b : Bool). cond b (v.tables q) (w.tables q)) o

  pub split_bytes : SeesBytes v → SeesBytes w → SeesBytes split
  split_bytes a b q t = by_own (is_own at n (space.Slot q)) refl
    where
      by_own : (o : Bool) → is_own at n (space.Slot q) ≡ o → IsBytes (split.tables q t)
      by_own true e = subst (λ (f : ℕ → List ℕ). IsBytes (f t)) (sym (split_here q e)) (a q t)
      by_own false e = subst (λ (f : ℕ → List ℕ). IsBytes (f t)) (sym (split_there q e)) (b q t)

-- a draft shows one event at most
few : (us vs : List Put) (o e : Obs) (rest : List Obs) → with_event us o ≡ Went vs (e ∷ rest) → rest ≡ []
few us vs (shows.Set c x w) e rest h = cc
few us vs (shows.Load c x t o w) e rest h = cc
few us vs (shows.Look c t o w) e rest h = cc
few us vs (shows.Store c t o w) e rest h = cc
few us vs (shows.Reply c n ws) e rest h = cc
few us vs _ e rest h = absurd (cc)

module _ (chain : ℕ) (s : Bytes) (slot : List ℕ) (d : Draft) (us : List Put) (e : Obs) (rest : List Obs) where
  acts_few : (op : Opcode) → acts chain s slot d op ≡ Went us (e ∷ rest) → rest ≡ []
  unfolding acts
  acts_few Write h =
      let a = went_if (fits d d.length) _ us (e ∷ rest) h in
      let b = went_reach (reaches s slot d d.length) chain slot d _ us (e ∷ rest) a.1 in
      few (to_remote slot d (local_bytes s d d.length) ∷ []) us _ e rest b.1
  acts_few Read h =
      let a = went_if (fits d d.length) _ us (e ∷ rest) h in
      let b = went_reach (reaches s slot d d.length) chain slot d _ us (e ∷ rest) a.1 in
      few (to_local d (remote_bytes s slot d d.length) ∷ []) us _ e rest b.1
  acts_few Cas h =
      let a = went_if (fits d 8 && is_atomic d) _ us (e ∷ rest) h in
      let old : ℕ = word (remote_bytes s slot d 8) 0 in
      few (swap slot d (old == first_in slot) ++ to_local d (spelled 8 old) ∷ []) us _ e rest a.1
  acts_few Add h =
      let a = went_if (fits d 8 && is_atomic d) _ us (e ∷ rest) h in
      let old : ℕ = word (remote_bytes s slot d 8) 0 in
      few (to_remote slot d (spelled 8 (sum_of (request_of slot d) old)) ∷ to_local d (spelled 8 old) ∷ []) us _ e rest a.1
  acts_few Send h =
      let a = went_if (is_length d.length && (not (is_table d.local) && inside d.local d.local_byte d.length)) _ us (e ∷ rest) h in
      few [] us _ e rest a.1
  acts_few _ h = absurd (cc)

-- the events of a run are true of the tables that it saw
module _ (number : ℕ) (u : Bytes) where
  abbrev see : ℕ → List ℕ
  see t = u (space.Table t)

  abbrev pub AllTrue : List Obs → Type 0
  AllTrue [] = Unit {0}
  AllTrue (e ∷ es) = IsTrueBy see e × AllTrue es

  abbrev IsTrue : Outcome → Type 0
  IsTrue o = (us : List Put) (events : List Obs) → o ≡ Went us events → AllTrue events

  all_true : (l m : List Obs) → AllTrue l → AllTrue m → AllTrue (l ++ m)
  all_true [] m h k = k
  all_true (e ∷ l) m h k = (h.0, all_true l m h.1 k)

  after_true : (vs : List Put) (l : List Obs) → AllTrue l → (o : Outcome) → IsTrue o → IsTrue (after vs l o)
  after_true vs l h (Went ws m) is us events k = let same : l ++ m ≡ events = cc in subst AllTrue same (all_true l m h (is ws m refl))
  after_true vs l h _ is us events k = absurd (cc)

  step_true : (d : Draft) (at : SlotRef) (s : Bytes) (vs : List Put) (l : List Obs) → step (own_view number u) at d s ≡ Went vs l → AllTrue l
  step_true d at s vs [] h = tt
  step_true d at s vs (e ∷ rest) h =
      let none : rest ≡ [] = acts_few number (seeing see s) (s (space.Slot at)) d vs e rest (opcode_in (s (space.Slot at))) h in (
        acts_true (seeing see s) (s (space.Slot at)) d number (opcode_in (s (space.Slot at))) vs e (h ∙ ap (λ (m : List Obs). Went vs (e ∷ m)) none),
        subst AllTrue (sym none) tt,
      )

  follow_true : (rest : List Put → Outcome) → ((vs : List Put) → IsTrue (rest vs)) → (o : Outcome) → IsTrue o → IsTrue (follow o rest)
  follow_true rest h (Went vs l) one us events k = after_true vs l (one vs l refl) (rest vs) (h vs) us events k
  follow_true rest h _ one us events k = absurd (cc)

  pub runs_true : (ds : List Draft) (at : SlotRef) (s : Bytes) → IsTrue (runs (own_view number u) at ds s)
  runs_true [] at s us events h = let none : [] ≡ events = cc in subst AllTrue none tt
  runs_true (d ∷ ds) at s us events h = follow_true (λ (vs : List Put). runs (own_view number u) (next_slot at) ds (placed s vs)) (λ vs. runs_true ds (next_slot at) (placed s vs)) (step (own_view number u) at d s) (step_true d at s) us events h

-- the tables that an event tells of
abbrev pub table_in : Obs → ℕ
table_in (shows.Load c x t o w) = t
table_in (shows.Look c t o w) = t
table_in (shows.Store c t o w) = t
table_in (shows.Fault c t o) = t
table_in _ = 0

abbrev pub tables_for : Bytes → Obs → List (List ℕ)
tables_for u e = map (λ (t : ℕ). u (space.Table t)) (range_with_len 0 (suc (table_in e)))

there_is : (u : Bytes) (t : ℕ) → bytes_of (map (λ (k : ℕ). u (space.Table k)) (range_with_len 0 (suc t))) t ≡ u (space.Table t)
there_is u t = get_or-map-range_with_len (λ (k : ℕ). u (space.Table k)) 0 (suc t) t t [] (omega arith) (omega arith)

pub true_of : (u : Bytes) (e : Obs) → IsTrueBy (λ t. u (space.Table t)) e → IsTrueOf (tables_for u e) e
true_of u (shows.Load c x t o w) h = (ap (λ (b : List ℕ). nat_le (o + 8) (length b)) (there_is u t) ∙ h.0, ap (λ (b : List ℕ). word b o) (there_is u t) ∙ h.1)
true_of u (shows.Look c t o w) h = (ap (λ (b : List ℕ). nat_le (o + 8) (length b)) (there_is u t) ∙ h.0, ap (λ (b : List ℕ). word b o) (there_is u t) ∙ h.1)
true_of u (shows.Store c t o w) h = ap (λ (b : List ℕ). nat_le (o + 8) (length b)) (there_is u t) ∙ h
true_of u (shows.Fault c t o) h = ap (λ (b : List ℕ). nat_le (o + 8) (length b)) (there_is u t) ∙ h
true_of u _ h = tt
