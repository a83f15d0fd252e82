-- What a run of drafts whose footprints lie apart says of each of them on the first state, and back.
use Rattle.std.proofs.Common.{◌≡◌, ℕ, zero, suc, ◌+◌, ◌<◌, true, false, not, List, [], ◌∷◌, ◌++◌, length, refl, sym, ap, ◌∙◌, subst, arith, append_assoc, append-nil}
use Rattle.std.specs.Prelude.{nat_le, nat_lt}
use Rattle.std.specs.List.{list_all}
use Rattle.std.proofs.lemmas.Bool.{false≢true, false_from_ne_true, and_parts, and_from, lt-ltb, leb-true, ltb-true}
use Rattle.redn_segment.proofs.Sides.{side_test}
use Rattle.redn_segment.proofs.SameSpace.{same_space_is, table_space}
use Rattle.redn_segment.proofs.PutSides.{PutIn, AllIn, puts_in}
use Rattle.redn_words.specs.declared.types.Obs.{Obs}
use Rattle.redn_proof_ring.specs.Runs.{shown_from}
use Rattle.redn_proof_landing.proofs.Abreast.{Fit, Misses, MissesOne, length_puts, miss_all, step_apart}
use Rattle.redn_proof_landing.specs.Homes.{puts_of_first}
use Rattle.redn_proof_landing.specs.Segments.{is_table_space, IsGood}
use Rattle.redn_segment.proofs.Filled.{all_bytes}
use Rattle.redn_segment.specs.Footprints.{both_sides, drafts_free, all_free, among, spares}
use Rattle.redn_segment.specs.Orders.{Follows}
use Rattle.redn_segment.specs.Plain.{Bytes, View, seeing, Put, placed, Outcome, Went, Faults, Bad, after, follow, step, runs, opcode_in}
use Rattle.redn_segment.specs.Sites.{space_of, is_table, next_slot}
use Rattle.redn_words.specs.Bytes.{covers}
use Rattle.redn_words.specs.Landings.{change}
use Rattle.redn_segment.specs.declared.types.SlotRef.{SlotRef}
use Rattle.redn_segment.specs.declared.types.Space.{Space}
use Rattle.redn_segment.specs.declared.types.Space.TheVariants as space
use Rattle.redn_segment.specs.declared.types.Draft.{Draft}

-- what the draft at place k does now
abbrev pub alone : View → SlotRef → List Draft → ℕ → Bytes → Outcome
alone chain at [] k s = Went [] []
alone chain at (d ∷ ds) zero s = step chain at d s
alone chain at (d ∷ ds) (suc k) s = alone chain (next_slot at) ds k s

-- spaces of the same lengths
abbrev pub SameLengths : Bytes → Bytes → Type 0
SameLengths s t = (p : Space) → length (s p) ≡ length (t p)

-- what is asked of a draft and its slot: of its puts only where the slot says the same
abbrev pub AskedOne : View → SlotRef → ℕ → SlotRef → Draft → Bytes → Type 0
AskedOne chain first n at d s =
    Follows d (opcode_in (s (space.Slot at))) × (length (s (space.Slot at)) ≡ 64) × (is_table d.local ≡ false) × (among first n (space.Slot at) ≡ true) × (both_sides (spares first n) d ≡ true) × ((t : Bytes) (us : List Put) (events : List Obs) → SameLengths t s → t (space.Slot at) ≡ s (space.Slot at) → step chain at d t ≡ Went us events → Fit t us)

abbrev pub Asked : View → SlotRef → ℕ → SlotRef → List Draft → Bytes → Type 0
Asked chain first n at [] s = Unit {0}
Asked chain first n at (d ∷ ds) s = AskedOne chain first n at d s × Asked chain first n (next_slot at) ds s

abbrev pub NoFault : Outcome → Type 0
NoFault (Faults us shown) = ⊥
NoFault _ = Unit {0}

puts_front : (each : ℕ → List Put) (n : ℕ) → puts_of_first each (suc n) ≡ each 0 ++ puts_of_first (λ k. each (suc k)) n
puts_front each zero = sym (append-nil (each 0))
puts_front each (suc n) = ap (λ (l : List Put). l ++ each (suc n)) (puts_front each n) ∙ append_assoc (each 0) (puts_of_first (λ k. each (suc k)) n) (each (suc n))

good_first : (o : Outcome) (go : List Put → Outcome) → IsGood (follow o go) → IsGood o
good_first Bad go h = h
good_first _ go h = tt

good_after : (us : List Put) (shown : List Obs) (o : Outcome) → IsGood (after us shown o) → IsGood o
good_after us shown Bad h = h
good_after us shown _ h = tt

module _ (chain : View) (first : SlotRef) (n : ℕ) where
  -- a slot of the segment stays
  slot_missed : (c : Draft) (u : Put) (at : SlotRef) → both_sides (spares first n) c ≡ true → among first n (space.Slot at) ≡ true → PutIn c u → MissesOne (space.Slot at) 0 64 u
  slot_missed c u at spared here h same p low high =
      false_from_ne_true (covers (change u.at u.bytes) p) (λ hit.
      let parts = and_parts (nat_le u.at p) (nat_lt p (u.at + length u.bytes)) hit in
      let above = leb-true u.at p parts.0 in
      let below = ltb-true p (u.at + length u.bytes) parts.1 in
      let a = h.side in
      let is : space_of a.site ≡ space.Slot at = sym h.space_is ∙ same_space_is u.space (space.Slot at) same in
      let flat : is_table a.site ≡ false = table_space a.site ∙ ap is_table_space is in
      let bounds = h.bounds flat in
      let one = bounds.0 in
      let two = bounds.1 in
      let some : nat_lt 0 a.len ≡ true = lt-ltb 0 a.len (omega arith) in
      let there : among first n (space_of a.site) ≡ true = ap (among first n) is ∙ here in
      let test : spares first n a ≡ true = side_test c (spares first n) a spared h.its in
      false≢true (sym (ap not (and_from a.writes _ h.writes (and_from (nat_lt 0 a.len) _ some there))) ∙ test))

  slot_misses : (c : Draft) (us : List Put) (at : SlotRef) → both_sides (spares first n) c ≡ true → among first n (space.Slot at) ≡ true → AllIn c us → Misses (space.Slot at) 0 64 us
  slot_misses c [] at spared here h = tt
  slot_misses c (u ∷ us) at spared here h = (slot_missed c u at spared here h.0, slot_misses c us at spared here h.1)

  module _ (c : Draft) (s : Bytes) (us : List Put) (made : AllIn c us) (fit : Fit s us) (spared : both_sides (spares first n) c ≡ true) where
    pub slot_stays : (at : SlotRef) → length (s (space.Slot at)) ≡ 64 → among first n (space.Slot at) ≡ true → placed s us (space.Slot at) ≡ s (space.Slot at)
    slot_stays at long here =
        sym (all_bytes (placed s us (space.Slot at)) 64 (length_puts us s (space.Slot at) fit ∙ long)) ∙ miss_all us s (space.Slot at) 0 64 fit (slot_misses c us at spared here made) ∙ all_bytes (s (space.Slot at)) 64 long

    -- what is asked still holds after it
    still_asked : (ds : List Draft) (at : SlotRef) → Asked chain first n at ds s → Asked chain first n at ds (placed s us)
    still_asked [] at h = tt
    still_asked (d ∷ ds) at h =
        let g = h.0 in
        let same : placed s us (space.Slot at) ≡ s (space.Slot at) = slot_stays at g.1 g.3 in
        ((subst (λ (b : List ℕ). Follows d (opcode_in b)) (sym same) g.0, ap length same ∙ g.1, g.2, g.3, g.4, λ t vs events lengths slot e. g.5 t vs events (λ p. lengths p ∙ length_puts us s p fit) (slot ∙ same) e), still_asked ds (next_slot at) h.1)

    -- the others do after it what they do before it
    alone_after : (ds : List Draft) (at : SlotRef) (k : ℕ) → list_all (drafts_free c) ds ≡ true → Asked chain first n at ds s → alone chain at ds k (placed s us) ≡ alone chain at ds k s
    alone_after [] at k free h = refl
    alone_after (d ∷ ds) at zero free h =
        let parts = and_parts (drafts_free c d) (list_all (drafts_free c) ds) free in
        let g = h.0 in
        step_apart c d parts.0 s us made fit g.2 (s (space.Slot at)) chain at refl (slot_stays at g.1 g.3) g.0
    alone_after (d ∷ ds) at (suc k) free h = let parts = and_parts (drafts_free c d) (list_all (drafts_free c) ds) free in alone_after ds (next_slot at) k parts.1 h.1

  abbrev Each : SlotRef → List Draft → Bytes → (ℕ → List Put) → (ℕ → List Obs) → Type 0
  Each at ds s each shown = (k : ℕ) → k < length ds → alone chain at ds k s ≡ Went (each k) (shown k)

  -- where each draft goes through on the first state, all go through one after the other, and put and show the same
  pub run_of_each : (ds : List Draft) (at : SlotRef) (s : Bytes) (each : ℕ → List Put) (shown : ℕ → List Obs) → all_free ds ≡ true → Asked chain first n at ds s → Each at ds s each shown → runs chain at ds s ≡ Went (puts_of_first each (length ds)) (shown_from shown (length ds))
  run_of_each [] at s each shown free h goes = refl
  run_of_each (c ∷ ds) at s each shown free h goes =
      let parts = and_parts (list_all (drafts_free c) ds) (all_free ds) free in
      let one = goes 0 (omega arith) in
      let g = h.0 in
      let fit : Fit s (each 0) = g.5 s (each 0) (shown 0) (λ p. refl) refl one in
      let made : AllIn c (each 0) = puts_in c (s (space.Slot at)) chain.number (seeing (chain.tables at) s) (opcode_in (s (space.Slot at))) (each 0) (shown 0) g.0 one in
      let rest = run_of_each ds (next_slot at) (placed s (each 0)) (λ k. each (suc k)) (λ k. shown (suc k)) parts.1 (still_asked c s (each 0) made fit g.4 ds (next_slot at) h.1) (λ k l. alone_after c s (each 0) made fit g.4 ds (next_slot at) k parts.0 h.1 ∙ goes (suc k) (omega arith)) in
      ap (λ (o : Outcome). follow o (λ (vs : List Put). runs chain (next_slot at) ds (placed s vs))) one ∙ ap (after (each 0) (shown 0)) rest ∙ ap (λ (us : List Put). Went us (shown 0 ++ shown_from (λ k. shown (suc k)) (length ds))) (sym (puts_front each (length ds)))

  -- where those before it go through, and this one faults on the first state, the run ends by that fault
  pub run_faults : (ds : List Draft) (at : SlotRef) (s : Bytes) (k : ℕ) (each : ℕ → List Put) (us : List Put) (events : List Obs) → all_free ds ≡ true → Asked chain first n at ds s → k < length ds → ((i : ℕ) → i < k → alone chain at ds i s ≡ Went (each i) []) → alone chain at ds k s ≡ Faults us events → (vs : List Put) × (runs chain at ds s ≡ Faults vs events)
  run_faults [] at s k each us events free h l before this = absurd (omega arith)
  run_faults (c ∷ ds) at s zero each us events free h l before this = (us, ap (λ (o : Outcome). follow o (λ (vs : List Put). runs chain (next_slot at) ds (placed s vs))) this)
  run_faults (c ∷ ds) at s (suc k) each us events free h l before this =
      let parts = and_parts (list_all (drafts_free c) ds) (all_free ds) free in
      let one = before 0 (omega arith) in
      let g = h.0 in
      let fit : Fit s (each 0) = g.5 s (each 0) [] (λ p. refl) refl one in
      let made : AllIn c (each 0) = puts_in c (s (space.Slot at)) chain.number (seeing (chain.tables at) s) (opcode_in (s (space.Slot at))) (each 0) [] g.0 one in
      let same = λ (i : ℕ). alone_after c s (each 0) made fit g.4 ds (next_slot at) i parts.0 h.1 in
      let rest = run_faults ds (next_slot at) (placed s (each 0)) k (λ i. each (suc i)) us events parts.1 (still_asked c s (each 0) made fit g.4 ds (next_slot at) h.1) (omega arith) (λ i m. same i ∙ before (suc i) (omega arith)) (same k ∙ this) in
      (each 0 ++ rest.0, ap (λ (o : Outcome). follow o (λ (vs : List Put). runs chain (next_slot at) ds (placed s vs))) one ∙ ap (after (each 0) []) rest.1)

  -- a run that isn't bad, and in which no draft before this one finds its place past the end of its table, says that this one isn't bad on the first state
  pub good_alone : (ds : List Draft) (at : SlotRef) (s : Bytes) (k : ℕ) → all_free ds ≡ true → Asked chain first n at ds s → IsGood (runs chain at ds s) → ((i : ℕ) → i < k → NoFault (alone chain at ds i s)) → IsGood (alone chain at ds k s)
  good_alone [] at s k free h good before = tt
  good_alone (c ∷ ds) at s zero free h good before = good_first (step chain at c s) _ good
  good_alone (c ∷ ds) at s (suc k) free h good before =
      let parts = and_parts (list_all (drafts_free c) ds) (all_free ds) free in
      by_step (λ t fine g b. good_alone ds (next_slot at) t k parts.1 fine g b) (step chain at c s) refl (before 0 (omega arith)) good
    where
      by_step : ((t : Bytes) → Asked chain first n (next_slot at) ds t → IsGood (runs chain (next_slot at) ds t) → ((i : ℕ) → i < k → NoFault (alone chain (next_slot at) ds i t)) → IsGood (alone chain (next_slot at) ds k t)) → (o : Outcome) → step chain at c s ≡ o → NoFault o → IsGood (follow o (λ (vs : List Put). runs chain (next_slot at) ds (placed s vs))) → IsGood (alone chain (next_slot at) ds k s)
      by_step again (Went vs shown) f none g =
          let parts = and_parts (list_all (drafts_free c) ds) (all_free ds) free in
          let fine = h.0 in
          let fit : Fit s vs = fine.5 s vs shown (λ p. refl) refl f in
          let made : AllIn c vs = puts_in c (s (space.Slot at)) chain.number (seeing (chain.tables at) s) (opcode_in (s (space.Slot at))) vs shown fine.0 f in
          let same = λ (i : ℕ). alone_after c s vs made fit fine.4 ds (next_slot at) i parts.0 h.1 in
          subst (λ (o : Outcome). IsGood o) (same k) (again (placed s vs) (still_asked c s vs made fit fine.4 ds (next_slot at) h.1) (good_after vs shown (runs chain (next_slot at) ds (placed s vs)) g) (λ i l. subst (λ (o : Outcome). NoFault o) (sym (same i)) (before (suc i) (omega arith))))
      by_step again (Faults vs shown) f none g = absurd none
      by_step again Bad f none g = absurd g
