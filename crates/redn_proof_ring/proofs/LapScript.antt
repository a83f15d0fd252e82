-- The windows of rings with laps are a script: every order of actions goes through them, and the last ENABLE of a ring opens the first segment of the ring that it names.
use Rattle.std.proofs.Common.{◌≡◌, ◌≢◌, ℕ, suc, ◌+◌, ◌-◌, ◌*◌, ◌^◌, ◌<◌, ◌≤◌, inl, inr, Bool, true, false, cond, ◌==◌, List, ◌++◌, length, refl, sym, ap, ◌∙◌, subst, arith}
use Rattle.std.specs.Prelude.{nat_lt, Some, if◌then◌else◌}
use Rattle.std.proofs.lemmas.Bool.{cases_eq, eq-eqb, ne_eqb, and_from, lt-ltb}
use Rattle.std.proofs.lemmas.List.{take_at}
use Rattle.std.proofs.Math.Nat.{mul-suc, suc-mul, mul_comm}
use Rattle.redn_words.specs.declared.types.Request.{Request}
use Rattle.redn_proof_landing.proofs.Segments.{length-copies}
use Rattle.redn_proof_landing.proofs.Sided.{bytes_at-within}
use Rattle.redn_proof_landing.specs.Homes.{seen_in}
use Rattle.redn_proof_landing.specs.Segments.{slot_space}
use Rattle.redn_proof_ring.proofs.LapBehind.{leaves, Onward, ready_next}
use Rattle.redn_proof_ring.proofs.LapNext.{limit_of, seen_bytes}
use Rattle.redn_proof_ring.proofs.LapWindows.{ring_small, few_rounds, first_inside, one_signal, some_body, enable_is, enable_copy, own_limit, ends_or_gates, ring_orderly}
use Rattle.redn_proof_ring.specs.Plans.{Plan, IsLaid, slots_in, is_ring}
use Rattle.redn_proof_ring.specs.Turns.{Meaning, HasBytes, Promises, Turn, Ready, Leaves, segment_of, window_at, row_at, head_at, counted_at, script_of, GoesTo}
use Rattle.redn_recycle.specs.Laps.{Ring, IsRing, is_send_last, bodies_of as ring_bodies, gates_of, enable_of, opening_at, laps_begun}
use Rattle.redn_segment.specs.Plain.{Bytes}
use Rattle.redn_segment.specs.Primed.{IsBytes}
use Rattle.redn_proof_window.specs.Scripts.{Behind, Wrote, IsScript, IsOver}
use Rattle.redn_proof_window.specs.Stages.{Standing, all_written}
use Rattle.redn_proof_window.specs.Windows.{Last, By_gates, Opening, bodies_of, slots_of, signals, enable_of as window_enable}
use Rattle.redn_words.proofs.Numbers.{number-bytes_at, number-spelled, length-spelled}
use Rattle.redn_words.specs.Others.{row_may_raise}
use Rattle.redn_words.specs.Landings.{Change}
use Rattle.redn_words.specs.Requests.{decoded}
use Rattle.redn_words.specs.Words.{bytes_at, number, spelled}
use Rattle.redn_segment.specs.declared.types.Space.TheVariants as space

gates_last : By_gates ≡ Last → ⊥
gates_last e = cc

-- a descriptor read as the operands of an ENABLE
operands : (slot : List ℕ) (queue limit : ℕ) → queue < 256 ^ 8 → limit < 256 ^ 8 → bytes_at slot 40 16 ≡ spelled 8 queue ++ spelled 8 limit → (number 8 slot 40 ≡ queue) × (number 8 slot 48 ≡ limit)
operands slot queue limit small few e =
    let both : List ℕ = spelled 8 queue ++ spelled 8 limit in
    let first : bytes_at slot 40 8 ≡ bytes_at both 0 8 = sym (bytes_at-within slot 40 16 0 8 (omega arith)) ∙ ap (λ (b : List ℕ). bytes_at b 0 8) e in
    let second : bytes_at slot 48 8 ≡ bytes_at both 8 8 = sym (bytes_at-within slot 40 16 8 8 (omega arith)) ∙ ap (λ (b : List ℕ). bytes_at b 8 8) e in
    let front : bytes_at both 0 8 ≡ spelled 8 queue = take_at (spelled 8 queue) (spelled 8 limit) 8 (length-spelled 8 queue) in
    (number-bytes_at 8 slot 40 ∙ ap (λ (b : List ℕ). number 8 b 0) (first ∙ front) ∙ number-spelled 8 queue small, number-bytes_at 8 slot 48 ∙ ap (λ (b : List ℕ). number 8 b 0) second ∙ limit_of queue limit few)

module _ (c : Plan) (laid : IsLaid c) (G : Meaning c) where
  head_of : (y : Turn c G) (r : ℕ) → is_ring c r ≡ true → head_at c G y r ≡ y.laps r * slots_in c r + (c.ring r).first (segment_of c G y r)
  head_of y r l = rw l refl

  counted_of : (y : Turn c G) (r : ℕ) → is_ring c r ≡ true → counted_at c G y r ≡ y.laps r * (c.ring r).segments + segment_of c G y r
  counted_of y r l = rw l refl

  own_segment : (y : Turn c G) → segment_of c G y y.ring ≡ y.segment
  own_segment y = let same : (y.ring == y.ring) ≡ true = eq-eqb y.ring y.ring refl in rw same refl

  other_segment : (y : Turn c G) (v : ℕ) → v ≢ y.ring → segment_of c G y v ≡ 0
  other_segment y v ne = let other : (v == y.ring) ≡ false = ne_eqb v y.ring ne in rw other refl

  -- where nothing but the laps and the segment of one ring changes, the other rings stand where they stood
  module _ (x y : Turn c G) (others : (v : ℕ) → v ≢ x.ring → (y.laps v ≡ x.laps v) × (segment_of c G y v ≡ segment_of c G x v)) (q : ℕ) (ne : q ≢ x.ring) where
    heads_stay : head_at c G y q ≡ head_at c G x q
    heads_stay =
        let o = others q ne in
        ap (λ (k : ℕ). if is_ring c q then k * slots_in c q + (c.ring q).first (segment_of c G y q) else 0) o.0 ∙ ap (λ (k : ℕ). if is_ring c q then x.laps q * slots_in c q + (c.ring q).first k else 0) o.1

    counts_stay : counted_at c G y q ≡ counted_at c G x q
    counts_stay =
        let o = others q ne in
        ap (λ (k : ℕ). if is_ring c q then k * (c.ring q).segments + segment_of c G y q else 0) o.0 ∙ ap (λ (k : ℕ). if is_ring c q then x.laps q * (c.ring q).segments + k else 0) o.1

  module _ (promises : Promises c G) where
    module _ (x : Turn c G) (m : List ℕ) (ready : Ready c G x m) where
      abbrev r : ℕ
      r = x.ring

      abbrev j : ℕ
      j = x.segment

      abbrev ring : Ring
      ring = c.ring r

      abbrev its_ring : IsRing r ring
      its_ring = laid.rings r x.ring_in

      abbrev w : Opening
      w = window_at c G x m

      window_slots : slots_of w ≡ length (ring_bodies r ring j) + gates_of r ring j
      window_slots = omega (arith, length-copies c.home r m (ring.first j) (length (ring_bodies r ring j)), length-copies c.home r m (ring.first j + length (ring_bodies r ring j)) (gates_of r ring j))

      pub two_of : w.ending ≢ Last → gates_of r ring j ≡ 2
      two_of on = (ends_or_gates (is_send_last r ring j)).0 on

      -- the ring that the last ENABLE names
      module _ (gate : gates_of r ring j ≡ 2) (end : suc j ≡ ring.segments) where
        abbrev goal : (v : ℕ) × (is_ring c v ≡ true) × (bytes_at (seen_in c.home m (slot_space r (enable_of r ring j))) 40 16 ≡ seen_in c.home m (space.Descriptor v)) × ((t : Bytes) → HasBytes t → (l : Leaves c r j (seen_in c.home m) t) → (z : G.Ghost) × G.Then r j x.ghost (seen_in c.home m) t l z × G.Fine v 0 z t)
        goal = promises.target r j x.ghost (seen_in c.home m) x.ring_in end gate ready.fine

        abbrev target : ℕ
        target = goal.0

        abbrev limit : ℕ
        limit = opening_at target (c.ring target) (x.laps target) (segment_of c G x target)

        target_small : target < 256 ^ 8
        target_small = let small = ring_small c laid target goal.1 in omega arith

        limit_small : limit < 256 ^ 8
        limit_small =
            let bound = laid.bound target goal.1 in
            let all = few_rounds (c.ring target).segments (slots_in c target) (x.laps target) c.most bound.1 bound.0 (ready.few target goal.1) laid.few in
            let some = (laid.rings target goal.1).some in
            let first = first_inside target (c.ring target) (laid.rings target goal.1) ((c.ring target).segments - 1) 1 (omega arith) in
            by_begun (nat_lt 0 (segment_of c G x target)) (ready.few target goal.1) all.2 first bound.0
          where
            by_begun : (b : Bool) → slots_in c target * x.laps target ≤ c.most → slots_in c target * suc (x.laps target) ≤ 2 ^ 62 + 2 ^ 32 → (c.ring target).first 1 ≤ slots_in c target → slots_in c target ≤ 2 ^ 32 → (c.ring target).first 1 + slots_in c target * cond b (suc (x.laps target)) (x.laps target) < 256 ^ 8
            by_begun true few all first small = omega arith
            by_begun false few all first small = let most = laid.few in omega arith

        last_is : ((window_enable w).first ≡ target) × ((window_enable w).second ≡ limit)
        unfolding decoded
        last_is =
            let copy = enable_copy c laid G promises x m ready gate in
            let read = operands (seen_in c.home m (slot_space r (enable_of r ring j))) target limit target_small limit_small (goal.2 ∙ ready.descriptors target goal.1) in
            (ap (λ (b : List ℕ). number 8 b 40) copy ∙ read.0, ap (λ (b : List ℕ). number 8 b 48) copy ∙ read.1)

      pub target_ring : w.ending ≡ By_gates → is_ring c (window_enable w).first ≡ true
      target_ring by =
          let gate = two_of (λ e. absurd (gates_last (sym by ∙ e))) in
          elim (cases_eq (suc j) ring.segments) [
            | inl end ↦ ap (is_ring c) (last_is gate end).0 ∙ (goal gate end).1
            | inr ne ↦ ap (λ (q : Request). is_ring c q.first) (enable_is c laid G promises x m ready gate (let l = x.segment_in in omega (arith, ne))) ∙ x.ring_in
          ]

      module _ (goes : w.ending ≢ Last) (event : List Change) (n : List ℕ) (wrote : w.event < bodies_of w → Wrote w event) (few : w.from + slots_of w ≤ c.most) (bytes : IsBytes n) (last : Standing w n all_written event) where
        gate : gates_of r ring j ≡ 2
        gate = two_of goes

        next_first : ring.first (suc j) ≡ ring.first j + (length (ring_bodies r ring j) + 2)
        next_first = let next = its_ring.follows j x.segment_in in omega (arith, next, gate)

        count_one : signals w (bodies_of w) ≡ 1
        count_one = one_signal c laid G promises x m ready (some_body c laid G promises x m ready gate)

        left : Leaves c r j (seen_in c.home m) (seen_in c.home n)
        left = leaves c laid G promises x m ready n event last bytes wrote

        gates_slots : slots_of w ≡ length (ring_bodies r ring j) + 2
        gates_slots = omega (arith, window_slots, gate)

        counted : w.counter + signals w (bodies_of w) ≡ (x.laps r * ring.segments + j) + 1
        counted = ap (λ (k : ℕ). (x.laps r * ring.segments + j) + k) count_one

        -- the slots of the window behind
        slots_next : (y : Turn c G) → slots_of (window_at c G y n) ≡ length (ring_bodies y.ring (c.ring y.ring) y.segment) + gates_of y.ring (c.ring y.ring) y.segment
        slots_next y = omega (arith, length-copies c.home y.ring n ((c.ring y.ring).first y.segment) (length (ring_bodies y.ring (c.ring y.ring) y.segment)), length-copies c.home y.ring n ((c.ring y.ring).first y.segment + length (ring_bodies y.ring (c.ring y.ring) y.segment)) (gates_of y.ring (c.ring y.ring) y.segment))

        -- before the last segment: the next one
        module _ (on : suc j < ring.segments) where
          abbrev went : (z : G.Ghost) × G.Then r j x.ghost (seen_in c.home m) (seen_in c.home n) left z × G.Fine r (suc j) z (seen_in c.home n)
          went = promises.onward r j x.ghost (seen_in c.home m) (seen_in c.home n) x.ring_in on ready.fine (λ k. seen_bytes c.home n (space.Table k) bytes) left

          abbrev onward : Turn c G
          onward = record { ring = r; segment = suc j; laps = x.laps; ghost = went.0; ring_in = x.ring_in; segment_in = on }

          onward_goes : Onward c laid G promises x m ready n event last onward
          onward_goes =
              record {
                own = inl (on, refl, own_segment onward);
                others = λ v ne. (refl, other_segment onward v ne ∙ sym (other_segment x v ne));
                few = ready.few r x.ring_in;
                fine = went.2;
              }

          onward_behind : Behind (script_of c G) x onward m n
          onward_behind =
              let enable = enable_is c laid G promises x m ready gate on in
              let opened = its_ring.follows (suc j) on in
              let head : head_at c G onward r ≡ x.laps r * slots_in c r + ring.first (suc j) = head_of onward r x.ring_in ∙ ap (λ (k : ℕ). x.laps r * slots_in c r + ring.first k) (own_segment onward) in
              let count : counted_at c G onward r ≡ x.laps r * ring.segments + suc j = counted_of onward r x.ring_in ∙ ap (λ (k : ℕ). x.laps r * ring.segments + k) (own_segment onward) in
              record {
                ready = ready_next c laid G promises x m ready n event last gate onward onward_goes;
                queue = λ by. sym (ap (λ (q : Request). q.first) enable);
                limit = λ by. ap (λ (q : Request). q.second) enable ∙ own_limit c laid G promises x m ready gate ∙ omega (arith, opened, head, slots_next onward, mul_comm (slots_in c r) (x.laps r));
                regions = refl;
                own_at = head ∙ omega (arith, next_first, gates_slots);
                own_counted = count ∙ sym counted_next;
                others_at = λ q ne. heads_stay x onward onward_goes.others q ne;
                others_counted = λ q ne. counts_stay x onward onward_goes.others q ne;
              }
            where
              counted_next : w.counter + signals w (bodies_of w) ≡ x.laps r * ring.segments + suc j
              counted_next = counted ∙ omega arith

        -- behind the last one: the first segment of the ring that its ENABLE names
        module _ (end : suc j ≡ ring.segments) where
          abbrev u : ℕ
          u = target gate end

          abbrev came : (z : G.Ghost) × G.Then r j x.ghost (seen_in c.home m) (seen_in c.home n) left z × G.Fine u 0 z (seen_in c.home n)
          came = (goal gate end).3 (seen_in c.home n) (λ k. seen_bytes c.home n (space.Table k) bytes) left

          abbrev turned : Turn c G
          turned = record { ring = u; segment = 0; laps = λ v. if v == r then suc (x.laps v) else x.laps v; ghost = came.0; ring_in = (goal gate end).1; segment_in = first_there }
            where
              first_there : 0 < (c.ring u).segments
              first_there = let some = (laid.rings u (goal gate end).1).some in omega arith

          all_rest : (v : ℕ) → segment_of c G turned v ≡ 0
          all_rest v = by_test (v == u)
            where
              by_test : (b : Bool) → ◌≡◌ {A = ℕ} (cond b 0 0) 0
              by_test true = refl
              by_test false = refl

          own_laps : turned.laps r ≡ suc (x.laps r)
          own_laps = let same : (r == r) ≡ true = eq-eqb r r refl in rw same refl

          other_laps : (v : ℕ) → v ≢ r → turned.laps v ≡ x.laps v
          other_laps v ne = let other : (v == r) ≡ false = ne_eqb v r ne in rw other refl

          whole_ring : ring.first (suc j) ≡ slots_in c r
          whole_ring = ap ring.first end ∙ its_ring.ends

          after_ring : w.from + slots_of w ≡ x.laps r * slots_in c r + slots_in c r
          after_ring = omega (arith, next_first, gates_slots, whole_ring)

          turned_goes : Onward c laid G promises x m ready n event last turned
          turned_goes =
              record {
                own = inr (end, own_laps, all_rest r);
                others = λ v ne. (other_laps v ne, all_rest v ∙ sym (other_segment x v ne));
                few = subst (λ (k : ℕ). slots_in c r * k ≤ c.most) (sym own_laps) (omega (arith, after_ring, mul-suc (slots_in c r) (x.laps r), mul_comm (slots_in c r) (x.laps r), few));
                fine = came.2;
              }

          -- the descriptor that was copied tells the lap in which its ring is opened
          begun : laps_begun u (c.ring u) (x.laps u) (segment_of c G x u) ≡ turned.laps u
          begun =
              elim (cases_eq u r) [
                | inl same ↦ subst (λ (v : ℕ). laps_begun v (c.ring v) (x.laps v) (segment_of c G x v) ≡ turned.laps v) (sym same) (ap (laps_begun r ring (x.laps r)) (own_segment x) ∙ later ∙ sym own_laps)
                | inr ne ↦ ap (laps_begun u (c.ring u) (x.laps u)) (other_segment x u ne) ∙ sym (other_laps u ne)
              ]
            where
              later : laps_begun r ring (x.laps r) j ≡ suc (x.laps r)
              later = let some = its_ring.some in let t : nat_lt 0 j ≡ true = lt-ltb 0 j (omega arith) in rw t refl

          turned_behind : Behind (script_of c G) x turned m n
          turned_behind =
              let there = (goal gate end).1 in
              let its = laid.rings u there in
              let some = its.some in
              let opened = its.follows 0 (omega arith) in
              let starts = its.starts in
              let own_starts = its_ring.starts in
              let head : head_at c G turned u ≡ turned.laps u * slots_in c u + (c.ring u).first 0 = head_of turned u there ∙ ap (λ (k : ℕ). turned.laps u * slots_in c u + (c.ring u).first k) (all_rest u) in
              let own_head : head_at c G turned r ≡ turned.laps r * slots_in c r + ring.first 0 = head_of turned r x.ring_in ∙ ap (λ (k : ℕ). turned.laps r * slots_in c r + ring.first k) (all_rest r) in
              let own_count : counted_at c G turned r ≡ turned.laps r * ring.segments + 0 = counted_of turned r x.ring_in ∙ ap (λ (k : ℕ). turned.laps r * ring.segments + k) (all_rest r) in
              let opening : limit gate end ≡ (c.ring u).first 1 + slots_in c u * turned.laps u = ap (λ (k : ℕ). (c.ring u).first 1 + slots_in c u * k) begun in
              record {
                ready = ready_next c laid G promises x m ready n event last gate turned turned_goes;
                queue = λ by. sym (last_is gate end).0;
                limit = λ by. (last_is gate end).1 ∙ opening ∙ omega (arith, head, slots_next turned, opened, starts, mul_comm (slots_in c u) (turned.laps u));
                regions = refl;
                own_at = own_head ∙ ap (λ (k : ℕ). k * slots_in c r + ring.first 0) own_laps ∙ omega (arith, after_ring, suc-mul (x.laps r) (slots_in c r), own_starts);
                own_counted = own_count ∙ ap (λ (k : ℕ). k * ring.segments + 0) own_laps ∙ omega (arith, suc-mul (x.laps r) ring.segments, end) ∙ sym counted;
                others_at = λ q ne. heads_stay x turned turned_goes.others q ne;
                others_counted = λ q ne. counts_stay x turned turned_goes.others q ne;
              }

        -- where the chain goes on
        pub behind_is : (y : Turn c G) × Behind (script_of c G) x y m n × GoesTo c G x y m n
        behind_is =
            elim (cases_eq (suc j) ring.segments) [
              | inl end ↦ (turned end, turned_behind end, record { leaves = left; follows = (came end).1; way = inr (end, refl, (goal gate end).2) })
              | inr ne ↦ let on : suc j < ring.segments = (let l = x.segment_in in omega (arith, ne)) in (onward on, onward_behind on, record { leaves = left; follows = (went on).1; way = inl (refl, refl) })
            ]

    pub managed_at : (x : Turn c G) (q : ℕ) → is_ring c q ≡ true → row_may_raise (c.ring x.ring).row.domain (Some (row_at c G q)) ≡ true
    managed_at x q e =
        let its = laid.rows q e in
        let own = laid.rows x.ring x.ring_in in
        and_from (row_at c G q).managed ((row_at c G q).domain == (c.ring x.ring).row.domain) its.1 (eq-eqb (row_at c G q).domain (c.ring x.ring).row.domain (its.0 ∙ sym own.0))

    -- behind a window that is over
    pub goes_on : (x : Turn c G) (m : List ℕ) (event : List Change) (n : List ℕ) → IsOver (script_of c G) x m event n → (y : Turn c G) × Behind (script_of c G) x y m n × GoesTo c G x y m n
    goes_on x m event n over = behind_is x m over.ready over.goes_on event n over.wrote over.last over.sound over.standing

    pub from_here : (x : Turn c G) → x.laps x.ring * slots_in c x.ring + (c.ring x.ring).first x.segment ≡ head_at c G x x.ring
    from_here x = ap (λ (k : ℕ). x.laps x.ring * slots_in c x.ring + (c.ring x.ring).first k) (sym (own_segment x)) ∙ sym (head_of x x.ring x.ring_in)

    pub counted_here : (x : Turn c G) → x.laps x.ring * (c.ring x.ring).segments + x.segment ≡ counted_at c G x x.ring
    counted_here x = ap (λ (k : ℕ). x.laps x.ring * (c.ring x.ring).segments + k) (sym (own_segment x)) ∙ sym (counted_of x x.ring x.ring_in)

    -- the windows of the rings are a script
    abbrev pub laps_are_script : IsScript (script_of c G)
    laps_are_script =
        record {
          orderly = λ x m ready. ring_orderly c laid G promises x m ready;
          memory = λ x m. refl;
          ring_is = λ x m. x.ring_in;
          row_is = λ x m. refl;
          from = λ x m. from_here x;
          counter = λ x m. counted_here x;
          target = λ x m ready by. target_ring x m ready by;
          managed = λ x m q e. managed_at x q e;
          behind = λ x m event n over. let y = goes_on x m event n over in (y.0, y.1);
        }
