-- The slots of a ring in memory are its requests.
use Rattle.std.proofs.Common.{◌≡◌, ℕ, zero, suc, ◌+◌, ◌*◌, ◌<◌, ◌≤◌, inl, inr, Bool, true, false, cond, ◌&&◌, List, [], ◌∷◌, ◌++◌, length, map, Some, refl, sym, ap, ◌∙◌, subst, arith, length-append}
use Rattle.std.specs.Prelude.{slice_get, nat_lt, if◌then◌else◌}
use Rattle.std.specs.List.{list_all, range_with_len}
use Rattle.std.proofs.lemmas.Bool.{and_parts, ltb-true, eq-eqb, ne_eqb, true≢false}
use Rattle.redn_words.specs.declared.types.Opcode.{Opcode}
use Rattle.redn_words.specs.declared.types.Opcode.TheVariants.{Send, Wait, Enable}
use Rattle.redn_words.specs.declared.types.Request.{Request}
use Rattle.redn_words.specs.Requests.{encoded}
use Rattle.redn_words.proofs.Slots.{length-encoded, length-ring}
use Rattle.redn_segment.specs.declared.types.Space.{Space}
use Rattle.redn_segment.specs.declared.types.Draft.{Draft}
use Rattle.redn_segment.specs.Building.{drafts_of}
use Rattle.redn_segment.specs.Primed.{number_of}
use Rattle.redn_segment.specs.Homes.{Home}
use Rattle.redn_segment.specs.Renaming.{renamed}
use Rattle.redn_proof_landing.specs.Requested as homes
use Rattle.redn_proof_landing.specs.Requested.{requested}
use Rattle.redn_recycle.specs.Laps.{Ring, bodies_of, gates_of, lap_requests, flags_at, is_last, is_send_last, wait_of, enable_of, count_at, limit_at, laps_behind, wait_request, enable_request, last_enable}
use Rattle.redn_recycle.specs.Lapped.{segment_at, first_of, slots_added, ring_of, ref_in_laps, gate_draft, gate_drafts, lapped_segment, lapped_segments}
use Rattle.redn_recycle.proofs.Rings.{bodies_and_gates, last_gates, inner_gates}
use Rattle.redn_proof_ring.proofs.LapSteps.{slice_get_append}
use Rattle.redn_emit.specs.Layout.{is_gate, remote_key, remote_offset, side_request, request_by, gate_request, segment_requests, segment_bytes, ring_bytes}
use Rattle.redn_proof_layout.proofs.Narrow.{is_small}
use Rattle.redn_proof_layout.proofs.Portions.{PartOf, part_flat}
use Rattle.redn_proof_ring.proofs.Laying.{all_in, named_at, laps_all}

-- no draft is a gate
op_plain : (op : Opcode) → number_of op < 6 → is_gate op ≡ false
op_plain Wait l = absurd (omega (arith, l))
op_plain Enable l = absurd (omega (arith, l))
op_plain _ l = refl

module _ (at : Space → Home) where
  key_same : (d : Draft) (op : Opcode) → remote_key at d op ≡ homes.remote_key at d op
  key_same d Send = refl
  key_same d _ = refl

  offset_same : (d : Draft) (op : Opcode) → remote_offset at d op ≡ homes.remote_offset at d op
  offset_same d Send = refl
  offset_same d _ = refl

  side_same : (d : Draft) (flags : ℕ) → side_request at d flags ≡ requested at d flags
  side_same d flags = λ i. record (requested at d flags) { rkey = key_same d d.op i; remote = offset_same d d.op i }

  side_by : (d : Draft) (flags : ℕ) (op : Opcode) → is_gate op ≡ false → request_by at d flags op ≡ side_request at d flags
  side_by d flags Wait e = absurd (true≢false e)
  side_by d flags Enable e = absurd (true≢false e)
  side_by d flags _ e = refl

  -- the request of a draft that is no gate
  request_is : (d : Draft) (flags : ℕ) → is_gate d.op ≡ false → request_by at d flags d.op ≡ requested at d flags
  request_is d flags e = side_by d flags d.op e ∙ side_same d flags

  -- behind drafts comes nothing, or a gate
  abbrev AreGates : List Draft → Type 0
  AreGates [] = Unit {0}
  AreGates (g ∷ gs) = is_gate g.op ≡ true

  abbrev NoGates : List Draft → Type 0
  NoGates ds = (k : ℕ) (d : Draft) → slice_get ds k ≡ Some d → is_gate d.op ≡ false

  pub draft_request : (ds gs : List Draft) (k flag : ℕ) (d : Draft) → NoGates ds → AreGates gs → (suc k ≡ length ds → flag ≡ 1) → (suc k < length ds → flag ≡ 0) → slice_get ds k ≡ Some d → slice_get (segment_requests at (ds ++ gs)) k ≡ Some (requested at d flag)
  draft_request [] gs k flag d none gates one other e = absurd (cc)
  draft_request (x ∷ []) [] zero flag d none gates one other e =
      let same : x ≡ d = cc in
      let set = one refl in
      ap (λ (q : Request). Some q) (request_is x 1 (none 0 x refl) ∙ ap (requested at x) (sym set) ∙ ap (λ (y : Draft). requested at y flag) same)
  draft_request (x ∷ []) (g ∷ gs) zero flag d none gates one other e =
      let same : x ≡ d = cc in
      let set = one refl in
      ap (λ (b : Bool). Some (request_by at x (if b then 1 else 0) x.op)) gates ∙ ap (λ (q : Request). Some q) (request_is x 1 (none 0 x refl) ∙ ap (requested at x) (sym set) ∙ ap (λ (y : Draft). requested at y flag) same)
  draft_request (x ∷ []) gs (suc k) flag d none gates one other e = absurd (cc)
  draft_request (x ∷ y ∷ ds) gs zero flag d none gates one other e =
      let same : x ≡ d = cc in
      let set = other (omega arith) in
      let plain = none 1 y refl in
      ap (λ (b : Bool). Some (request_by at x (if b then 1 else 0) x.op)) plain ∙ ap (λ (q : Request). Some q) (request_is x 0 (none 0 x refl) ∙ ap (requested at x) (sym set) ∙ ap (λ (z : Draft). requested at z flag) same)
  draft_request (x ∷ y ∷ ds) gs (suc k) flag d none gates one other e =
      draft_request (y ∷ ds) gs k flag d (λ n z f. none (suc n) z f) gates (λ f. one (omega (arith, f))) (λ l. other (omega (arith, l))) e

  length-requests : (ds : List Draft) → length (segment_requests at ds) ≡ length ds
  length-requests [] = refl
  length-requests (d ∷ []) = refl
  length-requests (d ∷ e ∷ rest) = ap suc (length-requests (e ∷ rest))

  -- and the two gates
  module _ (a b u v : ℕ) where
    abbrev first : Draft
    first = gate_draft Wait a b

    abbrev second : Draft
    second = gate_draft Enable u v

    pub wait_there : (ds : List Draft) → slice_get (segment_requests at (ds ++ first ∷ second ∷ [])) (length ds) ≡ Some (gate_request first)
    wait_there [] = refl
    wait_there (x ∷ []) = refl
    wait_there (x ∷ y ∷ ds) = wait_there (y ∷ ds)

    pub enable_there : (ds : List Draft) → slice_get (segment_requests at (ds ++ first ∷ second ∷ [])) (suc (length ds)) ≡ Some (gate_request second)
    enable_there [] = refl
    enable_there (x ∷ []) = refl
    enable_there (x ∷ y ∷ ds) = enable_there (y ∷ ds)

-- items of a range
range_item : {X : Type 0} (f : ℕ → X) (a n j : ℕ) (x : X) → slice_get (map f (range_with_len a n)) j ≡ Some x → (j < n) × (x ≡ f (a + j))
range_item f a zero j x e = absurd (cc)
range_item f a (suc n) zero x e = let same : f a ≡ x = cc in (omega arith, sym same ∙ ap f (let z : a ≡ a + 0 = omega arith in z))
range_item f a (suc n) (suc j) x e =
    let rest = range_item f (a + 1) n j x e in
    let low = rest.0 in
    (omega (arith, low), rest.1 ∙ ap f (let z : (a + 1) + j ≡ a + suc j = omega arith in z))

range_at : {X : Type 0} (f : ℕ → X) (a n j : ℕ) → j < n → slice_get (map f (range_with_len a n)) j ≡ Some (f (a + j))
range_at f a zero j l = absurd (omega arith)
range_at f a (suc n) zero l = ap (λ (k : ℕ). Some (f k)) (let z : a ≡ a + 0 = omega arith in z)
range_at f a (suc n) (suc j) l = range_at f (a + 1) n j (omega (arith, l)) ∙ ap (λ (k : ℕ). Some (f k)) (let z : (a + 1) + j ≡ a + suc j = omega arith in z)

module _ (at : Space → Home) (m : List ℕ) (segs : List (List Draft)) (number domain base there : ℕ) (some : 2 ≤ length segs) (small : list_all is_small (drafts_of segs) ≡ true) (part : PartOf m there (ring_bytes at (lapped_segments number (ring_of segs number 0 0)))) where
  abbrev ring : Ring
  ring = ring_of segs number domain base

  gates_count : (j : ℕ) → length (gate_drafts number ring j) ≡ gates_of number ring j
  gates_count j = by_test (is_send_last number ring j) (is_last number ring j)
    where
      by_test : (s l : Bool) → length (cond s [] (cond l (gate_draft Wait number 0 ∷ gate_draft Enable 0 0 ∷ []) (gate_draft Wait number (suc j) ∷ gate_draft Enable number (first_of segs (suc (suc j))) ∷ []))) ≡ cond s 0 2
      by_test true l = refl
      by_test false true = refl
      by_test false false = refl

  segment_long : (j : ℕ) → length (lapped_segment number ring j) ≡ length (segment_at segs j) + slots_added segs j
  segment_long j =
      let all = length-append (bodies_of number ring j) (gate_drafts number ring j) in
      let gates = gates_count j in
      let both = bodies_and_gates segs number domain base j some in
      omega (arith, all, gates, both)

  bytes_long : (ds : List Draft) → length (segment_bytes at ds) ≡ 64 * length ds
  bytes_long ds = length-ring (segment_requests at ds) ∙ ap (λ (n : ℕ). 64 * n) (length-requests at ds)

  -- where each segment lies
  segment_part : (j : ℕ) → j < length segs → PartOf m (there + 64 * first_of segs j) (segment_bytes at (lapped_segment number ring j))
  segment_part j l =
      part_flat m (segment_bytes at) (lapped_segments number ring) (λ k. there + 64 * first_of segs k) (λ k x e. step k x e) (subst (λ (n : ℕ). PartOf m n (ring_bytes at (lapped_segments number ring))) (let z : there ≡ there + 64 * first_of segs 0 = omega arith in z) part) j (lapped_segment number ring j) (range_at (lapped_segment number ring) 0 (length segs) j l ∙ ap (λ (k : ℕ). Some (lapped_segment number ring k)) (let z : 0 + j ≡ j = omega arith in z))
    where
      step : (k : ℕ) (x : List Draft) → slice_get (lapped_segments number ring) k ≡ Some x → there + 64 * first_of segs (suc k) ≡ there + 64 * first_of segs k + length (segment_bytes at x)
      step k x e =
          let its = range_item (lapped_segment number ring) 0 (length segs) k x e in
          let same : x ≡ lapped_segment number ring k = its.1 ∙ ap (lapped_segment number ring) (let z : 0 + k ≡ k = omega arith in z) in
          let long = bytes_long x in
          let count : length x ≡ length (lapped_segment number ring k) = ap length same in
          let all = segment_long k in
          omega (arith, long, count, all)

  -- and each slot
  pub slot_part : (j k : ℕ) (q : Request) → j < length segs → slice_get (segment_requests at (lapped_segment number ring j)) k ≡ Some q → PartOf m (there + 64 * (first_of segs j + k)) (encoded q)
  slot_part j k q l e =
      subst (λ (n : ℕ). PartOf m n (encoded q)) (let z : (there + 64 * first_of segs j) + 64 * k ≡ there + 64 * (first_of segs j + k) = omega arith in z) (part_flat m encoded (segment_requests at (lapped_segment number ring j)) (λ n. (there + 64 * first_of segs j) + 64 * n) (λ n x f. (let long = length-encoded x in omega (arith, long))) (subst (λ (n : ℕ). PartOf m n (segment_bytes at (lapped_segment number ring j))) (let z : there + 64 * first_of segs j ≡ (there + 64 * first_of segs j) + 64 * 0 = omega arith in z) (segment_part j l)) k q e)

  no_gate : (j : ℕ) → j < length segs → (k : ℕ) (d : Draft) → slice_get (bodies_of number ring j) k ≡ Some d → is_gate d.op ≡ false
  no_gate j l k d e =
      elim (slice_get_append (ring.drafts j) (lap_requests number ring j) k d e) [
        | inl own ↦
            let n = named_at (renamed (ref_in_laps segs number)) (segment_at segs j) k d own in
            let is = all_in is_small segs j k n.0 small n.1 in
            let low = ltb-true (number_of n.0.op) 6 (and_parts _ _ is).0 in
            ap (λ (x : Draft). is_gate x.op) n.2 ∙ op_plain n.0.op low
        | inr lap ↦ laps_all number ring some (λ (x : Draft). is_gate x.op ≡ false) (λ i b. refl) (λ i b. refl) refl j lap.0 d l lap.2
      ]

  are_gates : (j : ℕ) → AreGates at (gate_drafts number ring j)
  are_gates j = by_test (is_send_last number ring j) (is_last number ring j)
    where
      by_test : (s l : Bool) → AreGates at (cond s [] (cond l (gate_draft Wait number 0 ∷ gate_draft Enable 0 0 ∷ []) (gate_draft Wait number (suc j) ∷ gate_draft Enable number (first_of segs (suc (suc j))) ∷ [])))
      by_test true l = tt
      by_test false true = refl
      by_test false false = refl

  flag_one : (j k : ℕ) → suc k ≡ length (bodies_of number ring j) → flags_at number ring j k ≡ 1
  flag_one j k e = let same = eq-eqb (suc k) (length (bodies_of number ring j)) e in rw same refl

  flag_none : (j k : ℕ) → suc k < length (bodies_of number ring j) → flags_at number ring j k ≡ 0
  flag_none j k l = let other = ne_eqb (suc k) (length (bodies_of number ring j)) (λ e. omega (arith, e, l)) in rw other refl

  pub body_part : (j k : ℕ) (d : Draft) → j < length segs → slice_get (bodies_of number ring j) k ≡ Some d → PartOf m (there + 64 * (first_of segs j + k)) (encoded (requested at d (flags_at number ring j k)))
  body_part j k d l e =
      slot_part j k (requested at d (flags_at number ring j k)) l (draft_request at (bodies_of number ring j) (gate_drafts number ring j) k (flags_at number ring j k) d (no_gate j l) (are_gates j) (flag_one j k) (flag_none j k) e)

  -- a segment with gates
  two_gates : (j : ℕ) → gates_of number ring j ≡ 2 → is_send_last number ring j ≡ false
  two_gates j e = by_test (is_send_last number ring j) e
    where
      by_test : (s : Bool) → ◌≡◌ {A = ℕ} (cond s 0 2) 2 → s ≡ false
      by_test true f = absurd (omega (arith, f))
      by_test false f = refl

  places : (j : ℕ) → gates_of number ring j ≡ 2 → (wait_of number ring j ≡ first_of segs j + length (bodies_of number ring j)) × (enable_of number ring j ≡ first_of segs j + suc (length (bodies_of number ring j)))
  places j two =
      let both = bodies_and_gates segs number domain base j some in (omega (arith, both, two), omega (arith, both, two))

  never_below : (i : ℕ) → nat_lt (suc i) 0 ≡ false
  never_below i = by_test (nat_lt (suc i) 0) refl
    where
      by_test : (b : Bool) → nat_lt (suc i) 0 ≡ b → b ≡ false
      by_test true e = absurd (let l = ltb-true (suc i) 0 e in omega (arith, l))
      by_test false e = refl

  none_behind : (i : ℕ) → laps_behind number ring 0 0 i ≡ 0
  none_behind i = let below = never_below i in rw below refl

  last_count : (j : ℕ) → is_last number ring j ≡ true → 0 ≡ count_at number ring 0 0 j
  last_count j e = let nothing : 0 ≡ length segs * 0 = omega arith in nothing ∙ sym (ap (λ (b : Bool). cond b (length segs * 0) (suc j + length segs * laps_behind number ring 0 0 j)) e)

  inner_count : (j : ℕ) → is_last number ring j ≡ false → suc j ≡ count_at number ring 0 0 j
  inner_count j e =
      let none = none_behind j in
      let nothing : suc j ≡ suc j + length segs * 0 = omega arith in
      nothing ∙ ap (λ (n : ℕ). suc j + length segs * n) (sym none) ∙ sym (ap (λ (b : Bool). cond b (length segs * 0) (suc j + length segs * laps_behind number ring 0 0 j)) e)

  inner_limit : (j : ℕ) → first_of segs (suc (suc j)) ≡ limit_at number ring 0 0 j
  inner_limit j =
      let none = none_behind j in
      let nothing : first_of segs (suc (suc j)) ≡ first_of segs (suc (suc j)) + ring.row.slots * 0 = omega arith in
      nothing ∙ ap (λ (n : ℕ). first_of segs (suc (suc j)) + ring.row.slots * n) (sym none)

  abbrev bodies : ℕ → List Draft
  bodies j = bodies_of number ring j

  gate_at : (j k : ℕ) (q r : Request) (gs : List Draft) (place : ℕ) → j < length segs → gate_drafts number ring j ≡ gs → slice_get (segment_requests at (bodies j ++ gs)) k ≡ Some q → q ≡ r → place ≡ first_of segs j + k → PartOf m (there + 64 * place) (encoded r)
  gate_at j k q r gs place l gates e same here =
      subst (λ (n : ℕ). PartOf m (there + 64 * n) (encoded r)) (sym here) (subst (λ (x : Request). PartOf m (there + 64 * (first_of segs j + k)) (encoded x)) same (slot_part j k q l (ap (λ (x : List Draft). slice_get (segment_requests at (bodies j ++ x)) k) gates ∙ e)))

  pub wait_part : (j : ℕ) → j < length segs → gates_of number ring j ≡ 2 → PartOf m (there + 64 * wait_of number ring j) (encoded (wait_request number ring (count_at number ring 0 0 j)))
  wait_part j l two = by_last (is_last number ring j) refl (two_gates j two) (places j two).0
    where
      by_last : (t : Bool) → is_last number ring j ≡ t → is_send_last number ring j ≡ false → wait_of number ring j ≡ first_of segs j + length (bodies_of number ring j) → PartOf m (there + 64 * wait_of number ring j) (encoded (wait_request number ring (count_at number ring 0 0 j)))
      by_last true f none place = gate_at j (length (bodies j)) (gate_request (gate_draft Wait number 0)) (wait_request number ring (count_at number ring 0 0 j)) _ (wait_of number ring j) l (last_gates number ring j none f) (wait_there at number 0 0 0 (bodies j)) (ap (wait_request number ring) (last_count j f)) place
      by_last false f none place = gate_at j (length (bodies j)) (gate_request (gate_draft Wait number (suc j))) (wait_request number ring (count_at number ring 0 0 j)) _ (wait_of number ring j) l (inner_gates number ring j f) (wait_there at number (suc j) number (first_of segs (suc (suc j))) (bodies j)) (ap (wait_request number ring) (inner_count j f)) place

  inner : (j : ℕ) → suc j < length segs → is_last number ring j ≡ false
  inner j l = ne_eqb (suc j) (length segs) (λ e. omega (arith, e, l))

  inner_two : (j : ℕ) → suc j < length segs → gates_of number ring j ≡ 2
  inner_two j l = by_test ring.sends (is_last number ring j) (inner j l)
    where
      by_test : (s t : Bool) → t ≡ false → ◌≡◌ {A = ℕ} (cond (s && t) 0 2) 2
      by_test s true e = absurd (true≢false e)
      by_test true false e = refl
      by_test false false e = refl

  pub enable_part : (j : ℕ) → suc j < length segs → PartOf m (there + 64 * enable_of number ring j) (encoded (enable_request number ring (limit_at number ring 0 0 j)))
  enable_part j l =
      gate_at j (suc (length (bodies j))) (gate_request (gate_draft Enable number (first_of segs (suc (suc j))))) (enable_request number ring (limit_at number ring 0 0 j)) _ (enable_of number ring j) (omega (arith, l)) (inner_gates number ring j (inner j l)) (enable_there at number (suc j) number (first_of segs (suc (suc j))) (bodies j)) (ap (enable_request number ring) (inner_limit j)) (places j (inner_two j l)).1

  pub last_part : (j : ℕ) → suc j ≡ length segs → gates_of number ring j ≡ 2 → PartOf m (there + 64 * enable_of number ring j) (encoded (last_enable number ring))
  last_part j e two =
      gate_at j (suc (length (bodies j))) (gate_request (gate_draft Enable 0 0)) (last_enable number ring) _ (enable_of number ring j) (omega (arith, e)) (last_gates number ring j (two_gates j two) (eq-eqb (suc j) (length segs) e)) (enable_there at number 0 0 0 (bodies j)) refl (places j two).1
