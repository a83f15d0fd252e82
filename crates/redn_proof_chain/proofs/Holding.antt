-- While a window is open, memory has its graph's variables.
use Rattle.std.proofs.Common.{◌≡◌, ◌≢◌, ℕ, zero, suc, ◌+◌, ◌-◌, ◌*◌, ◌<◌, ◌≤◌, inl, inr, Bool, true, false, cond, ◌||◌, ◌==◌, List, [], ◌∷◌, map, length, drop, refl, sym, ap, ◌∙◌, subst, arith, length-take, length-drop}
use Rattle.std.specs.Prelude.{nat_le, nat_lt}
use Rattle.std.proofs.lemmas.Bool.{false≢true, true≢false, and_parts, leb-true, ltb-true, false_from_ne_true, cases_eq, eq-eqb, ne_eqb}
use Rattle.redn_words.specs.Words.{bytes_at, with_bytes_at}
use Rattle.redn_words.specs.Landings.{Change, change}
use Rattle.redn_words.proofs.Bytes.{over_missed, same_range, byte_put}
use Rattle.redn_words.specs.Bytes.{byte, covers, hits, over}
use Rattle.redn_words.proofs.Places.{length-with_bytes_at, bytes_at-same}
use Rattle.redn_kernel.specs.declared.types.Cell.TheVariants.{Var}
use Rattle.redn_segment.specs.declared.types.Space.{Space}
use Rattle.redn_segment.specs.declared.types.Space.TheVariants as space
use Rattle.redn_segment.specs.declared.types.Draft.{Draft}
use Rattle.redn_segment.specs.Sites.{same_space, is_table, inside}
use Rattle.redn_segment.specs.Plain.{Bytes, Put, put, Went, acts, opcode_in, local_space, local_at, local_bytes}
use Rattle.redn_segment.specs.Homes.{IsHome, base_of, room_of}
use Rattle.redn_segment.proofs.Sides.{inside_space}
use Rattle.redn_proof_window.specs.Windows.{Opening, bodies_of, planned}
use Rattle.redn_proof_window.specs.Stages.{Standing, effect, value}
use Rattle.redn_proof_landing.specs.Homes.{seen_in, change_of, Inside}
use Rattle.redn_proof_landing.specs.Segments.{GoesThrough}
use Rattle.redn_proof_landing.proofs.Sided.{length-seen}
use Rattle.redn_proof_landing.proofs.Segments.{lands_silently}
use Rattle.redn_recycle.specs.Laps.{Ring}
use Rattle.redn_proof_ring.specs.Plans.{Plan, IsBody, IsPrivate, part_of}
use Rattle.redn_proof_ring.specs.Turns.{Meaning, Ready, slot_in, window_at}
use Rattle.redn_proof_ring.proofs.LapKept.{body_at}
use Rattle.redn_proof_ring.proofs.LapSteps.{goes_through}
use Rattle.redn_proof_ring.proofs.LapWindows.{room, spaces, ours_are}
use Rattle.redn_proof_ring.proofs.LapEvent.{body_inside, length_there}
use Rattle.redn_proof_chain.specs.Formed.{Formed, IsFormed, Point, plan, its_meaning}
use Rattle.redn_proof_chain.proofs.Events.{promises}
use Rattle.redn_proof_chain.proofs.Varying.{is_variable_space, VarFlat, silent_flat}
use Rattle.redn_proof_window.proofs.Orders.{value_missed as value_same}

-- other spaces than a variable
other_space : (p : Space) (i : ℕ) → is_variable_space p ≡ false → same_space p (space.Cell (Var i)) ≡ false
other_space (space.Cell (Var j)) i e = absurd (true≢false e)
other_space (space.Cell _) i e = refl
other_space _ i e = refl

-- one that only one body may hit is as that leaves it
value_one : (written : ℕ → ℕ → Bool) (effects : ℕ → List Change) (n ev p before : ℕ) → ev < n → written ev p ≡ true → ((k : ℕ) → k < n → k ≢ ev → written k p ≡ true → hits (effects k) p ≡ false)
    → value written effects n p before ≡ over (effects ev) p before
value_one written effects zero ev p before l landed h = absurd (omega (arith, l))
value_one written effects (suc n) ev p before l landed h =
    elim (cases_eq n ev) [
      | inl same ↦
          let below : value written effects n p before ≡ before = value_same written effects n p before (λ k m e. h k (omega (arith, m)) (λ is. absurd (omega (arith, is, same, m))) e) in
          let here : written n p ≡ true = ap (λ (k : ℕ). written k p) same ∙ landed in
          cond_true (written n p) (over (effects n) p (value written effects n p before)) (value written effects n p before) here ∙ ap (over (effects n) p) below ∙ ap (λ (k : ℕ). over (effects k) p before) same
      | inr ne ↦ by_mark (value_one written effects n ev p before (omega (arith, l, ne)) landed (λ k m other e. h k (omega (arith, m)) other e)) ne (written n p) refl
    ]
  where
    cond_true : (b : Bool) (x y : ℕ) → b ≡ true → cond b x y ≡ x
    cond_true b x y e = rw e refl

    by_mark : value written effects n p before ≡ over (effects ev) p before → n ≢ ev → (b : Bool) → written n p ≡ b
        → cond b (over (effects n) p (value written effects n p before)) (value written effects n p before) ≡ over (effects ev) p before
    by_mark rest ne true e = over_missed (effects n) p (value written effects n p before) (h n (omega arith) ne e) ∙ rest
    by_mark rest ne false e = rest

module _ (f : Formed) (h : IsFormed f) where
  abbrev P : Plan
  P = plan f

  abbrev G : Meaning P
  G = its_meaning f

  abbrev at : ℕ → ℕ
  at i = base_of P.home (space.Cell (Var i))

  pub covers_none : (u : Put) (i p : ℕ) → P.mine (space.Cell (Var i)) ≡ true → P.mine u.space ≡ true → u.at + length u.bytes ≤ room_of P.home u.space → same_space u.space (space.Cell (Var i)) ≡ false → at i ≤ p → p < at i + 8 → covers (change_of P.home u) p ≡ false
  covers_none u i p mine its inside_it other low high =
      false_from_ne_true (covers (change_of P.home u) p) (λ hit.
      let parts = and_parts (nat_le (base_of P.home u.space + u.at) p) (nat_lt p ((base_of P.home u.space + u.at) + length u.bytes)) hit in
      let from = leb-true (base_of P.home u.space + u.at) p parts.0 in
      let to = ltb-true p ((base_of P.home u.space + u.at) + length u.bytes) parts.1 in
      elim (h.laid.spaces.apart u.space (space.Cell (Var i)) its mine other) [
        | inl below ↦ omega (arith, below, to, inside_it, low)
        | inr above ↦ omega (arith, above, from, high)
      ])

  pub flat_misses : (us : List Put) (i p : ℕ) → P.mine (space.Cell (Var i)) ≡ true → VarFlat us → Inside P.home P.mine us → at i ≤ p → p < at i + 8 → hits (map (change_of P.home) us) p ≡ false
  flat_misses [] i p mine flat ins low high = refl
  flat_misses (u ∷ us) i p mine flat ins low high =
      ap (λ (b : Bool). b || hits (map (change_of P.home) us) p) (covers_none u i p mine ins.0.0 ins.0.1 (other_space u.space i flat.0) low high) ∙ flat_misses us i p mine flat.1 ins.1 low high

  module _ (x : Point f) (m : List ℕ) (ready : Ready P G x m) where
    abbrev r : ℕ
    r = x.ring

    abbrev j : ℕ
    j = x.segment

    abbrev ring : Ring
    ring = P.ring r

    abbrev ev : ℕ
    ev = ring.event j

    abbrev w : Opening
    w = window_at P G x m

    abbrev s : Bytes
    s = seen_in P.home m

    -- the local side of a body has its bytes
    pub near_long : (k : ℕ) (d : Draft) (t : Bytes) → IsBody P r j k d → t (local_space d) ≡ s (local_space d) → is_table d.local ≡ false → inside d.local d.local_byte 8 ≡ true → length (local_bytes t d 8) ≡ 8
    near_long k d t e same near fits =
        let mine = (h.laid.sides r j k d x.ring_in x.segment_in e).0 in
        let home : IsHome P.home P.regions P.domain (length m) (local_space d) = subst (λ (q : ℕ). IsHome P.home P.regions P.domain q (local_space d)) (sym ready.size) (h.laid.homes (local_space d) mine) in
        let long : length (t (local_space d)) ≡ room_of P.home (local_space d) = ap length same ∙ length-seen P.home P.regions P.domain m (local_space d) home in
        let inside_it : local_at d + 8 ≤ room_of P.home (local_space d) = inside_space P.home d.local d.local_byte 8 near (omega arith) fits in
        omega (arith, length-take 8 (drop (local_at d) (t (local_space d))), length-drop (local_at d) (t (local_space d)), long, inside_it)

    -- a body that isn't the event's writes no variable
    other_misses : (event : List Change) (k i p : ℕ) → k < bodies_of w → k ≢ ev → P.mine (space.Cell (Var i)) ≡ true → at i ≤ p → p < at i + 8 → hits (effect w event k) p ≡ false
    other_misses event k i p l ne mine low high =
        let body = body_at P h.laid G (promises f h) x m ready k l in
        let through : GoesThrough P.home P.regions r ring.row (part_of P r j) m = goes_through P h.laid G (promises f h) x m ready in
        let goes = through.silent k body.0 body.1 ne in
        let domain : ring.row.domain ≡ P.domain = (h.laid.rows r x.ring_in).0 in
        let lands = lands_silently P.home P.mine P.regions r ring.row P.ours (h.laid.lie r x.ring_in) (part_of P r j) (x.laps r) (x.laps r * ring.segments + j) m (h.laid.apart r j x.ring_in x.segment_in) through (spaces P h.laid G (promises f h) x m ready) (room P h.laid G (promises f h) x m ready) (ours_are P h.laid G (promises f h) x m ready) k body.0 goes.0 body.1 goes.1 l in
        let here : acts P.domain s (slot_in P s r j k) body.0 (opcode_in (slot_in P s r j k)) ≡ Went goes.0 [] = subst (λ (q : ℕ). acts q s (slot_in P s r j k) body.0 (opcode_in (slot_in P s r j k)) ≡ Went goes.0 []) domain goes.1 in
        let flat : VarFlat goes.0 = silent_flat P.domain s (slot_in P s r j k) body.0 goes.0 (near_long k body.0 s body.1 refl) (opcode_in (slot_in P s r j k)) here in
        let inside_it : Inside P.home P.mine goes.0 = body_inside P h.laid G (promises f h) x m ready k body.0 s goes.0 [] body.1 (λ its table. length_there P h.laid G (promises f h) x m ready m body.0 refl its) here in
        let other : (k == ev) ≡ false = ne_eqb k ev ne in
        let is : effect w event k ≡ map (change_of P.home) goes.0 = effect_other event k other ∙ lands.writes_are in
        ap (λ (c : List Change). hits c p) is ∙ flat_misses goes.0 i p mine flat inside_it low high
      where
        effect_other : (e : List Change) (q : ℕ) → (q == ev) ≡ false → effect w e q ≡ (planned w q).writes
        effect_other e q g = rw g refl

    module _ (n : List ℕ) (written : ℕ → ℕ → Bool) (event : List Change) (standing : Standing w n written event) where
      var_ours : (i p : ℕ) → P.mine (space.Cell (Var i)) ≡ true → at i ≤ p → p < at i + 8 → P.ours p ≡ true
      var_ours i p mine low high =
          let its : IsPrivate P (space.Cell (Var i)) = record { its = mine; plain = refl } in
          let k : p ≡ at i + (p - at i) = omega (arith, low) in
          ap P.ours k ∙ h.laid.private (space.Cell (Var i)) (p - at i) its (omega (arith, low, high))

      -- before the event's body has landed
      pub kept : (i : ℕ) → P.mine (space.Cell (Var i)) ≡ true → (ev < bodies_of w → (p : ℕ) → written ev p ≡ false) → bytes_at n (at i) 8 ≡ bytes_at m (at i) 8
      kept i mine not_yet =
          same_range n m (at i) 8 standing.size (λ p low high. standing.bytes p (var_ours i p mine low high) ∙ value_same written (effect w event) (bodies_of w) p (byte m p) (λ k l e. elim (cases_eq k ev) [
            | inl same ↦ absurd (false≢true (sym (not_yet (omega (arith, l, same)) p) ∙ ap (λ (q : ℕ). written q p) (sym same) ∙ e))
            | inr ne ↦ other_misses event k i p l ne mine low high
          ]))

      -- and once it has
      pub landed : (i p : ℕ) → P.mine (space.Cell (Var i)) ≡ true → ev < bodies_of w → ((p : ℕ) → written ev p ≡ true) → at i ≤ p → p < at i + 8 → byte n p ≡ over event p (byte m p)
      landed i p mine inside_it mark low high =
          let here : (ev == ev) ≡ true = eq-eqb ev ev refl in
          standing.bytes p (var_ours i p mine low high) ∙ value_one written (effect w event) (bodies_of w) ev p (byte m p) inside_it (mark p) (λ k l ne e. other_misses event k i p l ne mine low high)
          ∙ ap (λ (c : List Change). over c p (byte m p)) (effect_event here)
        where
          effect_event : (ev == ev) ≡ true → effect w event ev ≡ event
          effect_event g = rw g refl

      -- a variable that the event's puts miss stays
      pub landed_flat : (us : List Put) → event ≡ map (change_of P.home) us → (i : ℕ) → P.mine (space.Cell (Var i)) ≡ true → ev < bodies_of w → ((p : ℕ) → written ev p ≡ true)
          → ((p : ℕ) → at i ≤ p → p < at i + 8 → hits (map (change_of P.home) us) p ≡ false) → bytes_at n (at i) 8 ≡ bytes_at m (at i) 8
      landed_flat us is i mine inside_it mark misses =
          same_range n m (at i) 8 standing.size (λ p low high. landed i p mine inside_it mark low high ∙ ap (λ (c : List Change). over c p (byte m p)) is ∙ over_missed (map (change_of P.home) us) p (byte m p) (misses p low high))

      -- and the one that it puts has the bytes
      pub landed_set : (i : ℕ) (bytes : List ℕ) (rest : List Put) → event ≡ map (change_of P.home) (put (space.Cell (Var i)) 0 bytes ∷ rest) → length bytes ≡ 8 → P.mine (space.Cell (Var i)) ≡ true → ev < bodies_of w
          → ((p : ℕ) → written ev p ≡ true) → VarFlat rest → Inside P.home P.mine rest → bytes_at n (at i) 8 ≡ bytes
      landed_set i bytes rest is long mine inside_it mark flat ins =
          let room_in : at i + 8 ≤ P.size = h.laid.spaces.inside (space.Cell (Var i)) mine in
          let size = ready.size in
          let fits : (at i + 0) + length bytes ≤ length m = omega (arith, room_in, size, long) in
          let same : bytes_at n (at i) 8 ≡ bytes_at (with_bytes_at m (at i + 0) bytes) (at i) 8 = same_range n (with_bytes_at m (at i + 0) bytes) (at i) 8 (standing.size ∙ sym (length-with_bytes_at m bytes (at i + 0) fits)) (λ p low high.
          landed i p mine inside_it mark low high ∙ ap (λ (c : List Change). over c p (byte m p)) is ∙ over_missed (map (change_of P.home) rest) p _ (flat_misses rest i p mine flat ins low high) ∙ sym (byte_put m (change (at i + 0) bytes) p fits)) in
          let there : bytes_at (with_bytes_at m (at i + 0) bytes) (at i + 0) (length bytes) ≡ bytes = bytes_at-same m bytes (at i + 0) fits in
          let place : at i ≡ at i + 0 = omega arith in
          same ∙ ap (λ (k : ℕ). bytes_at (with_bytes_at m (at i + 0) bytes) k 8) place ∙ ap (bytes_at (with_bytes_at m (at i + 0) bytes) (at i + 0)) (sym long) ∙ there
