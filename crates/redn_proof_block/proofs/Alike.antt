-- Drafts that leave some spaces alone do the same where all others have the same bytes.
use Rattle.std.proofs.Common.{◌≡◌, ℕ, suc, ◌<◌, Bool, true, false, not, ◌&&◌, ◌==◌, List, [], ◌∷◌, ◌++◌, length, refl, sym, ap, ◌∙◌, subst, arith}
use Rattle.std.specs.Prelude.{if◌then◌else◌}
use Rattle.std.specs.List.{list_all}
use Rattle.std.proofs.lemmas.Bool.{and_parts, true≢false}
use Rattle.redn_words.specs.declared.types.Obs.{Obs}
use Rattle.redn_words.specs.declared.types.Opcode.{Opcode}
use Rattle.redn_words.specs.declared.types.Opcode.TheVariants.{Noop, Write, Read, Cas, Add, Send}
use Rattle.redn_words.specs.Words.{with_bytes_at, bytes_at, spelled, word}
use Rattle.redn_words.specs.Landings.{sum_of}
use Rattle.redn_segment.specs.declared.types.SlotRef.{SlotRef}
use Rattle.redn_segment.specs.declared.types.Space.{Space}
use Rattle.redn_segment.specs.declared.types.Space.TheVariants as space
use Rattle.redn_segment.specs.declared.types.Draft.{Draft}
use Rattle.redn_segment.specs.Sites.{same_space, next_slot, is_table, inside}
use Rattle.redn_segment.specs.Effects.{slot_behind}
use Rattle.redn_segment.specs.Plain.{Bytes, View, seeing, Put, with_put, placed, after, Outcome, Went, Faults, Bad, follow, step, runs, acts, opcode_in, local_space, remote_space, local_at, remote_at, local_bytes, remote_bytes, with_event, to_local, to_remote, swap, first_in, fits, is_length, is_atomic, reaches, request_of}
use Rattle.redn_segment.proofs.Kept.{not_true}
use Rattle.redn_segment.proofs.SameSpace.{same_space_is}
use Rattle.redn_segment.proofs.Composing.{behind_next, behind_none}
use Rattle.redn_segment.proofs.PutSides.{with_event_puts, went_if, went_reach}
use Rattle.redn_proof_landing.proofs.Reading.{ReadsSame, acts_same}
use Rattle.redn_proof_block.specs.Names.{spares_all}

module _ (aside : Space → Bool) where
  abbrev pub Alike : Bytes → Bytes → Type 0
  Alike s t = (p : Space) → aside p ≡ false → s p ≡ t p

  abbrev pub AllSpared : List Put → Type 0
  AllSpared [] = Unit {0}
  AllSpared (u ∷ us) = (aside u.space ≡ false) × AllSpared us

  pub alike_put : (s t : Bytes) (u : Put) → Alike s t → Alike (with_put s u) (with_put t u)
  alike_put s t u h p e = ap (λ (l : List ℕ). if same_space u.space p then with_bytes_at l u.at u.bytes else l) (h p e)

  pub alike_placed : (us : List Put) (s t : Bytes) → Alike s t → Alike (placed s us) (placed t us)
  alike_placed [] s t h = h
  alike_placed (u ∷ us) s t h = alike_placed us (with_put s u) (with_put t u) (alike_put s t u h)

  abbrev Sees : Draft → Type 0
  Sees d = (aside (local_space d) ≡ false) × (aside (remote_space d) ≡ false)

  sees : (d : Draft) → spares_all aside d ≡ true → Sees d
  sees d e =
      let parts = and_parts (not (aside (local_space d))) (not (aside (remote_space d))) e in
      (not_true (aside (local_space d)) parts.0, not_true (aside (remote_space d)) parts.1)

  reads_same : (s t : Bytes) (slot : List ℕ) (d : Draft) (op : Opcode) → s (local_space d) ≡ t (local_space d) → s (remote_space d) ≡ t (remote_space d) → ReadsSame s t slot d op
  reads_same s t slot d Write l r = (ap (λ (b : List ℕ). bytes_at b (local_at d) d.length) l, λ e. ap length r)
  reads_same s t slot d Read l r = (ap (λ (b : List ℕ). bytes_at b (remote_at slot d) d.length) r, λ e. ap length r)
  reads_same s t slot d Cas l r = ap (λ (b : List ℕ). bytes_at b (remote_at slot d) 8) r
  reads_same s t slot d Add l r = ap (λ (b : List ℕ). bytes_at b (remote_at slot d) 8) r
  reads_same s t slot d Send l r = ap (λ (b : List ℕ). bytes_at b (local_at d) d.length) l
  reads_same s t slot d _ l r = tt

  alike_seeing : (tables : ℕ → List ℕ) (s t : Bytes) → Alike s t → Alike (seeing tables s) (seeing tables t)
  alike_seeing tables s t h (space.Table k) e = refl
  alike_seeing tables s t h (space.Slot q) e = h (space.Slot q) e
  alike_seeing tables s t h (space.Cell c) e = h (space.Cell c) e
  alike_seeing tables s t h space.Reply e = h space.Reply e
  alike_seeing tables s t h space.Key e = h space.Key e
  alike_seeing tables s t h (space.Scratch i) e = h (space.Scratch i) e
  alike_seeing tables s t h (space.Descriptor i) e = h (space.Descriptor i) e

  step_alike : (v : View) (at : SlotRef) (d : Draft) (s t : Bytes) → Alike s t → aside (space.Slot at) ≡ false → spares_all aside d ≡ true → step v at d s ≡ step v at d t
  step_alike v at d s t h own e =
      let both = sees d e in
      let seen = alike_seeing (v.tables at) s t h in
      ap (λ (b : List ℕ). acts v.number (seeing (v.tables at) s) b d (opcode_in b)) (h (space.Slot at) own) ∙ acts_same v.number (seeing (v.tables at) s) (seeing (v.tables at) t) (t (space.Slot at)) d (opcode_in (t (space.Slot at))) (reads_same (seeing (v.tables at) s) (seeing (v.tables at) t) (t (space.Slot at)) d (opcode_in (t (space.Slot at))) (seen (local_space d) both.0) (seen (remote_space d) both.1))

  -- the own slots of a run
  abbrev pub SeesSlots : SlotRef → ℕ → Type 0
  SeesSlots at n = (k : ℕ) → k < n → aside (space.Slot (slot_behind at k)) ≡ false

  slots_first : (at : SlotRef) (n : ℕ) → SeesSlots at (suc n) → aside (space.Slot at) ≡ false
  slots_first at n h = subst (λ (q : SlotRef). aside (space.Slot q) ≡ false) (behind_none at) (h 0 (omega arith))

  slots_next : (at : SlotRef) (n : ℕ) → SeesSlots at (suc n) → SeesSlots (next_slot at) n
  slots_next at n h k l = subst (λ (q : SlotRef). aside (space.Slot q) ≡ false) (sym (behind_next at k)) (h (suc k) (omega (arith, l)))

  pub runs_alike : (v : View) (ds : List Draft) (at : SlotRef) (s t : Bytes) → Alike s t → SeesSlots at (length ds) → list_all (spares_all aside) ds ≡ true → runs v at ds s ≡ runs v at ds t
  runs_alike v [] at s t h own e = refl
  runs_alike v (d ∷ ds) at s t h own e =
      let parts = and_parts (spares_all aside d) (list_all (spares_all aside) ds) e in
      ap (λ (o : Outcome). follow o (λ (us : List Put). runs v (next_slot at) ds (placed s us))) (step_alike v at d s t h (slots_first at (length ds) own) parts.0) ∙ ap (follow (step v at d t)) (λ i us. runs_alike v ds (next_slot at) (placed s us) (placed t us) (alike_placed us s t h) (slots_next at (length ds) own) parts.1 i)

  -- and they put nothing there
  module _ (chain : ℕ) (s : Bytes) (slot : List ℕ) (d : Draft) (both : Sees d) (us : List Put) (events : List Obs) where
    only : (vs : List Put) (o : Obs) → AllSpared vs → with_event vs o ≡ Went us events → AllSpared us
    only vs o h e = subst (λ (l : List Put). AllSpared l) (with_event_puts vs us o events e) h

    swapped : (b : Bool) (vs : List Put) → AllSpared vs → AllSpared (swap slot d b ++ vs)
    swapped true vs h = (both.1, h)
    swapped false vs h = h

    pub puts_spared : (op : Opcode) → acts chain s slot d op ≡ Went us events → AllSpared us
    unfolding acts
    puts_spared Noop e = let none : [] ≡ us = cc in subst (λ (l : List Put). AllSpared l) none tt
    puts_spared Write e =
        let a = went_if (fits d d.length) _ us events e in
        let b = went_reach (reaches s slot d d.length) chain slot d _ us events a.1 in
        only (to_remote slot d (local_bytes s d d.length) ∷ []) _ (both.1, tt) b.1
    puts_spared Read e =
        let a = went_if (fits d d.length) _ us events e in
        let b = went_reach (reaches s slot d d.length) chain slot d _ us events a.1 in
        only (to_local d (remote_bytes s slot d d.length) ∷ []) _ (both.0, tt) b.1
    puts_spared Cas e =
        let a = went_if (fits d 8 && is_atomic d) _ us events e in
        let old : ℕ = word (remote_bytes s slot d 8) 0 in
        only (swap slot d (old == first_in slot) ++ to_local d (spelled 8 old) ∷ []) _ (swapped (old == first_in slot) (to_local d (spelled 8 old) ∷ []) (both.0, tt)) a.1
    puts_spared Add e =
        let a = went_if (fits d 8 && is_atomic d) _ us events e in
        let old : ℕ = word (remote_bytes s slot d 8) 0 in
        only (to_remote slot d (spelled 8 (sum_of (request_of slot d) old)) ∷ to_local d (spelled 8 old) ∷ []) _ (both.1, (both.0, tt)) a.1
    puts_spared Send e =
        let a = went_if (is_length d.length && (not (is_table d.local) && inside d.local d.local_byte d.length)) _ us events e in
        only [] _ tt a.1
    puts_spared _ e = absurd (cc)

  all_both : (us vs : List Put) → AllSpared us → AllSpared vs → AllSpared (us ++ vs)
  all_both [] vs h k = k
  all_both (u ∷ us) vs h k = (h.0, all_both us vs h.1 k)

  -- the puts of a run that goes through
  after_went : (us : List Put) (before : List Obs) (o : Outcome) (vs : List Put) (events : List Obs) → AllSpared us → ((ws : List Put) (shown : List Obs) → o ≡ Went ws shown → AllSpared ws) → after us before o ≡ Went vs events → AllSpared vs
  after_went us before (Went ws shown) vs events h k e = let same : us ++ ws ≡ vs = cc in subst (λ (l : List Put). AllSpared l) same (all_both us ws h (k ws shown refl))
  after_went us before _ vs events h k e = absurd (cc)

  pub run_spared : (v : View) (ds : List Draft) (at : SlotRef) (s : Bytes) (us : List Put) (events : List Obs) → list_all (spares_all aside) ds ≡ true → runs v at ds s ≡ Went us events → AllSpared us
  run_spared v [] at s us events e goes = let none : [] ≡ us = cc in subst (λ (l : List Put). AllSpared l) none tt
  run_spared v (d ∷ ds) at s us events e goes =
      let parts = and_parts (spares_all aside d) (list_all (spares_all aside) ds) e in
      by_first (step v at d s) refl parts.0 (λ ws xs seen k. run_spared v ds (next_slot at) (placed s ws) xs seen parts.1 k) goes
    where
      by_first : (o : Outcome) → step v at d s ≡ o → spares_all aside d ≡ true → ((ws xs : List Put) (seen : List Obs) → runs v (next_slot at) ds (placed s ws) ≡ Went xs seen → AllSpared xs) → follow o (λ (ws : List Put). runs v (next_slot at) ds (placed s ws)) ≡ Went us events → AllSpared us
      by_first (Went ws shown) is spare rest goes =
          after_went ws shown (runs v (next_slot at) ds (placed s ws)) us events (puts_spared v.number (seeing (v.tables at) s) (s (space.Slot at)) d (sees d spare) ws shown (opcode_in (s (space.Slot at))) is) (rest ws) goes
      by_first (Faults ws shown) is spare rest goes = absurd (cc)
      by_first Bad is spare rest goes = absurd (cc)

  -- so what is there stays
  pub spared_stay : (us : List Put) (s : Bytes) (p : Space) → aside p ≡ true → AllSpared us → placed s us p ≡ s p
  spared_stay [] s p e h = refl
  spared_stay (u ∷ us) s p e h = spared_stay us (with_put s u) p e h.1 ∙ other (same_space u.space p) refl
    where
      other : (b : Bool) → same_space u.space p ≡ b → (if b then with_bytes_at (s p) u.at u.bytes else s p) ≡ s p
      other true same = absurd (true≢false (sym e ∙ (ap aside (sym (same_space_is u.space p same)) ∙ h.0)))
      other false same = refl
