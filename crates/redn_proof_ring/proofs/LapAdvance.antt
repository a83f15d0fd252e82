-- From one segment to the next, or around to the next lap: which gates a segment raises, and that the closed forms go up with it.
use Rattle.std.proofs.Common.{◌≡◌, ◌≢◌, ℕ, zero, suc, ◌+◌, ◌-◌, ◌*◌, ◌<◌, ◌≤◌, ◌⊎◌, inl, inr, Bool, true, false, cond, ◌&&◌, ◌==◌, [], ◌∷◌, refl, sym, ap, ◌∙◌, arith}
use Rattle.std.specs.Prelude.{nat_lt, slice_get, Some}
use Rattle.std.proofs.lemmas.Bool.{false≢true, cases_lt, cases_eq, eq-eqb, ne_eqb, eqb-true, and_parts, le-ltb as lt_false}
use Rattle.std.proofs.Math.Nat.{mul-suc}
use Rattle.redn_segment.specs.declared.types.SlotRef.{SlotRef}
use Rattle.redn_segment.specs.declared.types.Space.TheVariants as space
use Rattle.redn_segment.specs.declared.types.Draft.{Draft}
use Rattle.redn_proof_ring.proofs.LapWindows.{lt_true}
use Rattle.redn_recycle.specs.Laps.{Ring, IsRing, slot_of, lap_requests, gates_of, is_send_last, wait_of, enable_of, raise_wait, raise_enable, raise_descriptor, laps_begun, laps_behind, count_at, limit_at, opening_at}
use Rattle.redn_segment.proofs.Pieces.{slot_is}
use Rattle.redn_segment.specs.Primed.{covers, writes_at}
use Rattle.redn_segment.specs.Sites.{same_slot}
use Rattle.redn_proof_ring.proofs.LapSteps.{some_is}

module _ (name : ℕ) (r : Ring) (h : IsRing name r) where
  -- one segment on
  abbrev pub Advance : ℕ → ℕ → ℕ → ℕ → Type 0
  Advance n j then_n then_j = ((suc j < r.segments) × (then_n ≡ n) × (then_j ≡ suc j)) ⊎ ((suc j ≡ r.segments) × (then_n ≡ suc n) × (then_j ≡ 0))

  module _ (n j then_n then_j : ℕ) (go : Advance n j then_n then_j) where
    yes_behind : (a b g : ℕ) → suc g < b → laps_behind name r a b g ≡ suc a
    yes_behind a b g l = let t : nat_lt (suc g) b ≡ true = lt_true (suc g) b l in rw t refl

    not_behind : (a b g : ℕ) → b ≤ suc g → laps_behind name r a b g ≡ a
    not_behind a b g l = let t : nat_lt (suc g) b ≡ false = lt_false (suc g) b l in rw t refl

    pub behind_raised : (g : ℕ) → suc g ≡ j → laps_behind name r then_n then_j g ≡ suc (laps_behind name r n j g)
    behind_raised g e = by_go go
      where
        before : laps_behind name r n j g ≡ n
        before = not_behind n j g (omega arith)

        by_go : Advance n j then_n then_j → laps_behind name r then_n then_j g ≡ suc (laps_behind name r n j g)
        by_go (inl a) = let lap = a.1 in let seg = a.2 in yes_behind then_n then_j g (omega arith) ∙ ap suc (lap ∙ sym before)
        by_go (inr a) = let lap = a.1 in let seg = a.2 in not_behind then_n then_j g (omega arith) ∙ lap ∙ ap suc (sym before)

    pub behind_kept : (g : ℕ) → suc g < r.segments → suc g ≢ j → laps_behind name r then_n then_j g ≡ laps_behind name r n j g
    behind_kept g l ne = by_go go
      where
        by_go : Advance n j then_n then_j → laps_behind name r then_n then_j g ≡ laps_behind name r n j g
        by_go (inl a) =
            let lap = a.1 in
            let seg = a.2 in
            elim (cases_lt (suc g) j) [
              | inl low ↦ yes_behind then_n then_j g (omega arith) ∙ ap suc lap ∙ sym (yes_behind n j g low)
              | inr high ↦ not_behind then_n then_j g (omega (arith, ne)) ∙ lap ∙ sym (not_behind n j g high)
            ]
        by_go (inr a) =
            let end = a.0 in
            let lap = a.1 in
            let seg = a.2 in
            not_behind then_n then_j g (omega arith) ∙ lap ∙ sym (yes_behind n j g (omega (arith, ne)))

    yes_begun : (a b : ℕ) → 0 < b → laps_begun name r a b ≡ suc a
    yes_begun a b l = let t : nat_lt 0 b ≡ true = lt_true 0 b l in rw t refl

    pub begun_raised : j ≡ 0 → laps_begun name r then_n then_j ≡ suc (laps_begun name r n j)
    begun_raised e = by_go go
      where
        before : laps_begun name r n j ≡ n
        before = ap (laps_begun name r n) e

        by_go : Advance n j then_n then_j → laps_begun name r then_n then_j ≡ suc (laps_begun name r n j)
        by_go (inl a) = let lap = a.1 in let seg = a.2 in yes_begun then_n then_j (omega arith) ∙ ap suc (lap ∙ sym before)
        by_go (inr a) = let end = a.0 in let some = h.some in absurd (omega arith)

    pub begun_kept : j ≢ 0 → laps_begun name r then_n then_j ≡ laps_begun name r n j
    begun_kept ne = by_go go
      where
        by_go : Advance n j then_n then_j → laps_begun name r then_n then_j ≡ laps_begun name r n j
        by_go (inl a) = let lap = a.1 in let seg = a.2 in yes_begun then_n then_j (omega arith) ∙ ap suc lap ∙ sym (yes_begun n j (omega (arith, ne)))
        by_go (inr a) = let lap = a.1 in let seg = a.2 in ap (laps_begun name r then_n) seg ∙ lap ∙ sym (yes_begun n j (omega (arith, ne)))

    -- a segment raises the count of the WAIT before it, or the first segment that of the last
    abbrev pub RaisesWait : ℕ → Type 0
    RaisesWait g = (suc g ≡ j) ⊎ ((j ≡ 0) × (suc g ≡ r.segments))

    count_last : (a b g : ℕ) → suc g ≡ r.segments → count_at name r a b g ≡ r.segments * laps_begun name r a b
    count_last a b g e = let t : (suc g == r.segments) ≡ true = eq-eqb (suc g) r.segments e in rw t refl

    count_other : (a b g : ℕ) → suc g ≢ r.segments → count_at name r a b g ≡ suc g + r.segments * laps_behind name r a b g
    count_other a b g ne = let t : (suc g == r.segments) ≡ false = ne_eqb (suc g) r.segments ne in rw t refl

    pub count_raised : (g : ℕ) → g < r.segments → j < r.segments → RaisesWait g → count_at name r then_n then_j g ≡ count_at name r n j g + r.segments
    count_raised g l inside (inl e) =
        let ne : suc g ≢ r.segments = λ f. omega arith in
        count_other then_n then_j g ne ∙ ap (λ (k : ℕ). suc g + r.segments * k) (behind_raised g e) ∙ omega (arith, mul-suc r.segments (laps_behind name r n j g)) ∙ ap (λ (k : ℕ). k + r.segments) (sym (count_other n j g ne))
    count_raised g l inside (inr e) =
        count_last then_n then_j g e.1 ∙ ap (λ (k : ℕ). r.segments * k) (begun_raised e.0) ∙ mul-suc r.segments (laps_begun name r n j) ∙ ap (λ (k : ℕ). k + r.segments) (sym (count_last n j g e.1))

    pub count_kept : (g : ℕ) → g < r.segments → suc g ≢ j → (suc g ≡ r.segments → j ≢ 0) → count_at name r then_n then_j g ≡ count_at name r n j g
    count_kept g l ne last =
        elim (cases_eq (suc g) r.segments) [
          | inl e ↦ count_last then_n then_j g e ∙ ap (λ (k : ℕ). r.segments * k) (begun_kept (last e)) ∙ sym (count_last n j g e)
          | inr other ↦ count_other then_n then_j g other ∙ ap (λ (k : ℕ). suc g + r.segments * k) (behind_kept g (omega (arith, other)) ne) ∙ sym (count_other n j g other)
        ]

    pub limit_raised : (g : ℕ) → suc g ≡ j → limit_at name r then_n then_j g ≡ limit_at name r n j g + r.row.slots
    limit_raised g e = ap (λ (k : ℕ). r.first (suc (suc g)) + r.row.slots * k) (behind_raised g e) ∙ omega (arith, mul-suc r.row.slots (laps_behind name r n j g))

    pub limit_kept : (g : ℕ) → suc g < r.segments → suc g ≢ j → limit_at name r then_n then_j g ≡ limit_at name r n j g
    limit_kept g l ne = ap (λ (k : ℕ). r.first (suc (suc g)) + r.row.slots * k) (behind_kept g l ne)

    pub opening_raised : j ≡ 0 → opening_at name r then_n then_j ≡ opening_at name r n j + r.row.slots
    opening_raised e = ap (λ (k : ℕ). r.first 1 + r.row.slots * k) (begun_raised e) ∙ omega (arith, mul-suc r.row.slots (laps_begun name r n j))

    pub opening_kept : j ≢ 0 → opening_at name r then_n then_j ≡ opening_at name r n j
    opening_kept ne = ap (λ (k : ℕ). r.first 1 + r.row.slots * k) (begun_kept ne)

  -- what a lap request of a segment raises, by its place
  pub data Target (j i : ℕ) (d : Draft) : Type 0 where
    A_wait : (g : ℕ) → d ≡ raise_wait name r g → i ≡ 0 → g < r.segments → gates_of name r g ≡ 2 → (suc g ≡ j) ⊎ ((j ≡ 0) × (suc g ≡ r.segments)) → Target j i d
    An_enable : (g : ℕ) → d ≡ raise_enable name r g → i ≡ 1 → g < r.segments → gates_of name r g ≡ 2 → suc g ≡ j → Target j i d
    A_descriptor : d ≡ raise_descriptor name r → i ≡ (cond r.sends 0 1) → j ≡ 0 → Target j i d

  gated : (g : ℕ) → (r.sends ≡ false) ⊎ (suc g ≢ r.segments) → gates_of name r g ≡ 2
  gated g (inl e) = rw e refl
  gated g (inr ne) = let t : (suc g == r.segments) ≡ false = ne_eqb (suc g) r.segments ne in by_sends r.sends t
    where
      by_sends : (b : Bool) → (suc g == r.segments) ≡ false → ◌≡◌ {A = ℕ} (cond (b && (suc g == r.segments)) 0 2) 2
      by_sends true t = rw t refl
      by_sends false t = refl

  -- each segment but the last has gates
  pub gated_before : (g : ℕ) → suc g < r.segments → gates_of name r g ≡ 2
  gated_before g l = gated g (inr (λ e. omega arith))

  pub lap_target : (j i : ℕ) (d : Draft) → j < r.segments → slice_get (lap_requests name r j) i ≡ Some d → Target j i d
  lap_target zero i d l = by_sends r.sends refl
    where
      by_sends : (b : Bool) → r.sends ≡ b → slice_get (cond b (raise_descriptor name r ∷ []) (raise_wait name r (r.segments - 1) ∷ raise_descriptor name r ∷ [])) i ≡ Some d → Target zero i d
      by_sends true s e = one i e
        where
          one : (k : ℕ) → slice_get (raise_descriptor name r ∷ []) k ≡ Some d → Target zero k d
          one zero f = A_descriptor (some_is (raise_descriptor name r) d f) (rw s refl) refl
          one (suc k) f = absurd (cc)
      by_sends false s e = two i e
        where
          two : (k : ℕ) → slice_get (raise_wait name r (r.segments - 1) ∷ raise_descriptor name r ∷ []) k ≡ Some d → Target zero k d
          two zero f = let some = h.some in A_wait (r.segments - 1) (some_is (raise_wait name r (r.segments - 1)) d f) refl (omega arith) (gated (r.segments - 1) (inl s)) (inr (refl, omega arith))
          two (suc zero) f = A_descriptor (some_is (raise_descriptor name r) d f) (rw s refl) refl
          two (suc (suc k)) f = absurd (cc)
  lap_target (suc j) i d l = by_last (is_send_last name r (suc j))
    where
      by_last : (b : Bool) → slice_get (cond b [] (raise_wait name r j ∷ raise_enable name r j ∷ [])) i ≡ Some d → Target (suc j) i d
      by_last true e = absurd (cc)
      by_last false e = two i e
        where
          two : (k : ℕ) → slice_get (raise_wait name r j ∷ raise_enable name r j ∷ []) k ≡ Some d → Target (suc j) k d
          two zero f = A_wait j (some_is (raise_wait name r j) d f) refl (omega arith) (gated j (inr (λ e. omega arith))) (inl refl)
          two (suc zero) f = An_enable j (some_is (raise_enable name r j) d f) refl (omega arith) (gated j (inr (λ e. omega arith))) refl
          two (suc (suc k)) f = absurd (cc)

  -- a slot that a lap request may write is a gate
  pub data Gate (j i slot : ℕ) : Type 0 where
    Wait_gate : (g : ℕ) → slot ≡ wait_of name r g → i ≡ 0 → g < r.segments → gates_of name r g ≡ 2 → (suc g ≡ j) ⊎ ((j ≡ 0) × (suc g ≡ r.segments)) → Gate j i slot
    Enable_gate : (g : ℕ) → slot ≡ enable_of name r g → i ≡ 1 → g < r.segments → gates_of name r g ≡ 2 → suc g ≡ j → Gate j i slot

  pub slot_target : (j i : ℕ) (d : Draft) (q : SlotRef) (b : ℕ) → Target j i d → writes_at (space.Slot q) b d ≡ true → (q.ring ≡ name) × Gate j i q.slot
  slot_target j i d q b (A_wait g e f l two raises) w =
      let hit : (same_slot (slot_of name (wait_of name r g)) q && covers 48 8 b) ≡ true = ap (λ (x : Draft). writes_at (space.Slot q) b x) (sym e) ∙ w in
      let is : slot_of name (wait_of name r g) ≡ q = slot_is (slot_of name (wait_of name r g)) q (and_parts (same_slot (slot_of name (wait_of name r g)) q) (covers 48 8 b) hit).0 in
      (sym (ap (λ (x : SlotRef). x.ring) is), Wait_gate g (sym (ap (λ (x : SlotRef). x.slot) is)) f l two raises)
  slot_target j i d q b (An_enable g e f l two raises) w =
      let hit : (same_slot (slot_of name (enable_of name r g)) q && covers 48 8 b) ≡ true = ap (λ (x : Draft). writes_at (space.Slot q) b x) (sym e) ∙ w in
      let is : slot_of name (enable_of name r g) ≡ q = slot_is (slot_of name (enable_of name r g)) q (and_parts (same_slot (slot_of name (enable_of name r g)) q) (covers 48 8 b) hit).0 in
      (sym (ap (λ (x : SlotRef). x.ring) is), Enable_gate g (sym (ap (λ (x : SlotRef). x.slot) is)) f l two raises)
  slot_target j i d q b (A_descriptor e f raises) w = absurd (false≢true (ap (λ (x : Draft). writes_at (space.Slot q) b x) (sym e) ∙ w))

  pub descriptor_target : (j i : ℕ) (d : Draft) (v b : ℕ) → Target j i d → writes_at (space.Descriptor v) b d ≡ true → (v ≡ name) × (i ≡ (cond r.sends 0 1)) × (j ≡ 0)
  descriptor_target j i d v b (A_wait g e f l two raises) w = absurd (false≢true (ap (λ (x : Draft). writes_at (space.Descriptor v) b x) (sym e) ∙ w))
  descriptor_target j i d v b (An_enable g e f l two raises) w = absurd (false≢true (ap (λ (x : Draft). writes_at (space.Descriptor v) b x) (sym e) ∙ w))
  descriptor_target j i d v b (A_descriptor e f raises) w =
      let hit : ((name == v) && covers 8 8 b) ≡ true = ap (λ (x : Draft). writes_at (space.Descriptor v) b x) (sym e) ∙ w in
      (sym (eqb-true name v (and_parts (name == v) (covers 8 8 b) hit).0), f, raises)

  -- and each that is to be raised has its request
  pub wait_there : (j g : ℕ) → g < r.segments → j < r.segments → gates_of name r g ≡ 2 → gates_of name r j ≡ 2 → (suc g ≡ j) ⊎ ((j ≡ 0) × (suc g ≡ r.segments)) → slice_get (lap_requests name r j) 0 ≡ Some (raise_wait name r g)
  wait_there zero g l m two gate (inl e) = absurd (omega arith)
  wait_there zero g l m two gate (inr e) = by_sends r.sends refl
    where
      by_sends : (b : Bool) → r.sends ≡ b → slice_get (cond b (raise_descriptor name r ∷ []) (raise_wait name r (r.segments - 1) ∷ raise_descriptor name r ∷ [])) 0 ≡ Some (raise_wait name r g)
      by_sends false s = let at : r.segments - 1 ≡ g = let last = e.1 in omega arith in ap (λ (k : ℕ). Some (raise_wait name r k)) at
      by_sends true s =
          let last : (suc g == r.segments) ≡ true = eq-eqb (suc g) r.segments e.1 in
          let none : ◌≡◌ {A = ℕ} (cond (true && true) 0 2) 2 = ap (λ (b : Bool). cond (b && true) 0 2) (sym s) ∙ ap (λ (b : Bool). cond (r.sends && b) 0 2) (sym last) ∙ two in
          absurd (omega arith)
  wait_there (suc j) g l m two gate (inr e) = absurd (let zero_is = e.0 in omega arith)
  wait_there (suc j) g l m two gate (inl e) = by_last (is_send_last name r (suc j)) gate
    where
      by_last : (b : Bool) → ◌≡◌ {A = ℕ} (cond b 0 2) 2 → slice_get (cond b [] (raise_wait name r j ∷ raise_enable name r j ∷ [])) 0 ≡ Some (raise_wait name r g)
      by_last true f = absurd (omega arith)
      by_last false f = let at : j ≡ g = omega arith in ap (λ (k : ℕ). Some (raise_wait name r k)) at

  pub enable_there : (j g : ℕ) → suc g ≡ j → gates_of name r j ≡ 2 → slice_get (lap_requests name r j) 1 ≡ Some (raise_enable name r g)
  enable_there zero g e gate = absurd (omega arith)
  enable_there (suc j) g e gate = by_last (is_send_last name r (suc j)) gate
    where
      by_last : (b : Bool) → ◌≡◌ {A = ℕ} (cond b 0 2) 2 → slice_get (cond b [] (raise_wait name r j ∷ raise_enable name r j ∷ [])) 1 ≡ Some (raise_enable name r g)
      by_last true f = absurd (omega arith)
      by_last false f = let at : j ≡ g = omega arith in ap (λ (k : ℕ). Some (raise_enable name r k)) at

  pub descriptor_there : slice_get (lap_requests name r 0) (cond r.sends 0 1) ≡ Some (raise_descriptor name r)
  descriptor_there = by_sends r.sends
    where
      by_sends : (b : Bool) → slice_get (cond b (raise_descriptor name r ∷ []) (raise_wait name r (r.segments - 1) ∷ raise_descriptor name r ∷ [])) (cond b 0 1) ≡ Some (raise_descriptor name r)
      by_sends true = refl
      by_sends false = refl
