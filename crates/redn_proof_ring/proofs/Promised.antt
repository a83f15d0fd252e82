-- The instance of `Promises`: memory agrees on private spaces with a state from which the plain run of what is left of the ring's block, lap requests included, isn't bad.
use Rattle.std.proofs.Common.{append-nil, cond, ◌≡◌, ◌≢◌, ℕ, zero, suc, ◌+◌, ◌<◌, ◌≤◌, ◌⊎◌, inl, inr, Bool, true, false, ◌==◌, List, [], ◌∷◌, ◌++◌, length, get_or, replicate, refl, sym, ap, ◌∙◌, subst, arith}
use Rattle.std.specs.Prelude.{nat_le, nat_lt, slice_get, Some}
use Rattle.std.proofs.lemmas.Bool.{cases_eq, cases_lt, eq-eqb, ne_eqb, le-leb, lt-ltb, and_from, false≢true}
use Rattle.std.proofs.lemmas.List.Elements.{All-replicate}
use Rattle.std.proofs.lemmas.List.{length-replicate}
use Rattle.std.proofs.lemmas.Option.{slice_get_within, slice_get-get_or}
use Rattle.redn_segment.proofs.SameSpace.{table_space}
use Rattle.redn_words.specs.declared.types.Obs.{Obs}
use Rattle.redn_words.specs.declared.types.Opcode.{Opcode}
use Rattle.redn_words.specs.declared.types.Opcode.TheVariants.{Noop, Add, Send}
use Rattle.redn_proof_landing.proofs.Abreast.{Fit}
use Rattle.redn_proof_landing.proofs.Reading.{acts_same, puts_inside}
use Rattle.redn_proof_landing.specs.Homes.{puts_of_first}
use Rattle.redn_proof_landing.specs.Segments.{is_table_space, IsGood, slot_space}
use Rattle.redn_proof_ring.proofs.LapSteps.{LapOf, Raises_wait, Raises_enable, Raises_descriptor, lap_of, slice_get_append}
use Rattle.redn_segment.specs.Orders.{Follows}
use Rattle.redn_segment.specs.Templates.{may_show_by}
use Rattle.redn_proof_ring.proofs.LapWindows.{end_inside}
use Rattle.redn_proof_ring.specs.Runs.{own_view, Comes, run_of, shown_from, Opened, Sound, Fine, Then, meaning, Allows}
use Rattle.redn_proof_ring.specs.Plans.{is_ring, IsOwn, Plan, IsLaid, IsPrivate, IsBody}
use Rattle.redn_proof_ring.specs.Turns.{HasBytes, Promises, tabled, slot_in, Leaves}
use Rattle.redn_recycle.specs.Laps.{Ring, bodies_of, gates_of, slot_of, enable_of, lap_requests, raise_descriptor}
use Rattle.redn_proof_ring.proofs.Alone.{alone, NoFault, SameLengths, AskedOne, Asked, run_of_each, run_faults, good_alone}
use Rattle.redn_proof_ring.proofs.NoFaults.{no_fault, reaches_plain, reaches_long}
use Rattle.redn_proof_ring.proofs.PlainRuns.{place_is, alone_is, asked_each, reads_alike, sends_alike, fits_of, step_own}
use Rattle.redn_proof_ring.proofs.Unseen.{unseen}
use Rattle.redn_segment.specs.Footprints.{both_sides, spares}
use Rattle.redn_segment.specs.Homes.{Home, room_of}
use Rattle.redn_segment.specs.Orders.{Follows}
use Rattle.redn_segment.specs.Plain.{Bytes, Put, Outcome, Went, Faults, Bad, placed, acts, step, seeing, opcode_in, remote_in, local_space, remote_space, reaches}
use Rattle.redn_segment.specs.Sites.{space_of, is_table}
use Rattle.redn_words.specs.Words.{bytes_at}
use Rattle.redn_segment.specs.declared.types.SlotRef.{SlotRef}
use Rattle.redn_segment.specs.declared.types.Site.{Site}
use Rattle.redn_segment.specs.declared.types.Site.TheVariants as site
use Rattle.redn_segment.specs.declared.types.Space.{Space}
use Rattle.redn_segment.specs.declared.types.Space.TheVariants as space
use Rattle.redn_segment.specs.declared.types.Draft.{Draft}
use Rattle.redn_segment.proofs.AnyOrder.{all_at}
use Rattle.redn_segment.proofs.Puts.{same_placed}

pub front : {X : Type 0} (a b : List X) (k : ℕ) (x : X) → slice_get a k ≡ Some x → slice_get (a ++ b) k ≡ Some x
front [] b k x e = absurd (cc)
front (y ∷ a) b zero x e = e
front (y ∷ a) b (suc k) x e = front a b k x e

some_is : (a b : Draft) → Some a ≡ Some b → a ≡ b
some_is a b e = cc

tabled_plain : (s u : Bytes) (p : Space) → is_table_space p ≡ false → tabled s u p ≡ s p
tabled_plain s u p e = rw e refl

tabled_table : (s u : Bytes) (p : Space) → is_table_space p ≡ true → tabled s u p ≡ u p
tabled_table s u p e = rw e refl

-- tables of n zeros
abbrev long : ℕ → Bytes
long n p = replicate n 0

-- what all show, where only one shows something
none_shown : (shown : ℕ → List Obs) (n : ℕ) → ((i : ℕ) → i < n → shown i ≡ []) → shown_from shown n ≡ []
none_shown shown zero h = refl
none_shown shown (suc n) h = ap (λ (l : List Obs). l ++ shown_from (λ k. shown (suc k)) n) (h 0 (omega arith)) ∙ none_shown (λ k. shown (suc k)) n (λ i l. h (suc i) (omega arith))

one_shown : (shown : ℕ → List Obs) (n k : ℕ) → k < n → ((i : ℕ) → i ≢ k → shown i ≡ []) → shown_from shown n ≡ shown k
one_shown shown zero k l h = absurd (omega arith)
one_shown shown (suc n) zero l h = ap (λ (m : List Obs). shown 0 ++ m) (none_shown (λ k. shown (suc k)) n (λ i l. h (suc i) (λ e. omega arith))) ∙ append-nil (shown 0)
one_shown shown (suc n) (suc k) l h = ap (λ (m : List Obs). m ++ shown_from (λ i. shown (suc i)) n) (h 0 (λ e. omega arith)) ∙ one_shown (λ i. shown (suc i)) n k (omega arith) (λ i ne. h (suc i) (λ e. ne (omega arith)))

-- a lap request may show nothing
lap_unseen : {number : ℕ} {ring : Ring} (d : Draft) (op : Opcode) → LapOf number ring d → Follows d op → may_show_by d op ≡ false
lap_unseen {number} {ring} d op lap (inr turned) = absurd (not_noop lap)
  where
    not_noop : LapOf number ring d → ⊥
    not_noop (Raises_wait i e) = absurd (let q : Add ≡ Noop = sym (ap (λ (x : Draft). x.op) e) ∙ turned.0 in cc)
    not_noop (Raises_enable i e) = absurd (let q : Add ≡ Noop = sym (ap (λ (x : Draft). x.op) e) ∙ turned.0 in cc)
    not_noop (Raises_descriptor e) = absurd (let q : Add ≡ Noop = sym (ap (λ (x : Draft). x.op) e) ∙ turned.0 in cc)
lap_unseen d op (Raises_wait i e) (inl same) = ap (may_show_by d) (same ∙ ap (λ (x : Draft). x.op) e) ∙ ap (λ (x : Draft). may_show_by x Add) e
lap_unseen d op (Raises_enable i e) (inl same) = ap (may_show_by d) (same ∙ ap (λ (x : Draft). x.op) e) ∙ ap (λ (x : Draft). may_show_by x Add) e
lap_unseen d op (Raises_descriptor e) (inl same) = ap (may_show_by d) (same ∙ ap (λ (x : Draft). x.op) e) ∙ ap (λ (x : Draft). may_show_by x Add) e

module _ (c : Plan) (Takes : ℕ → ℕ → ℕ → Opcode → Type 0) (Y : Type 0) (Tells : (r j : ℕ) → (u : Bytes) → Y → List Obs → Y → Type 0) (Fails : (r j : ℕ) → (u : Bytes) → Y → List Obs → Type 0) (Entry : ℕ → Y → Bytes → Type 0) where
  abbrev bodies : ℕ → ℕ → List Draft
  bodies r j = bodies_of r (c.ring r) j

  comes_good : (Next : List Obs → Bytes → Type 0) (End : List Obs → Type 0) (s : Bytes) (o : Outcome) → Comes Next End s o → IsGood o
  comes_good Next End s Bad h = h
  comes_good Next End s _ h = tt

  -- rooms where tables are as long as they are
  abbrev long_home : Bytes → Space → Home
  long_home t p = let h : Home = c.home p in record h { region = record h.region { len = length (t p) } }

  room_there : (t : Bytes) (p : Space) → c.mine p ≡ true → ((q : Space) → IsPrivate c q → length (t q) ≡ room_of c.home q) → room_of (long_home t) p ≡ length (t p)
  room_there t (space.Table i) its sized = refl
  room_there t (space.Cell x) its sized = sym (sized (space.Cell x) record { its = its; plain = refl })
  room_there t space.Reply its sized = sym (sized space.Reply record { its = its; plain = refl })
  room_there t space.Key its sized = sym (sized space.Key record { its = its; plain = refl })
  room_there t (space.Scratch i) its sized = sym (sized (space.Scratch i) record { its = its; plain = refl })
  room_there t (space.Descriptor i) its sized = sym (sized (space.Descriptor i) record { its = its; plain = refl })
  room_there t (space.Slot q) its sized = sym (sized (space.Slot q) record { its = its; plain = refl })

  table_room : (t u : Bytes) (x : Site) → is_table x ≡ true → ((i : ℕ) → length (u (space.Table i)) ≡ length (t (space.Table i))) → length (seeing (λ i. u (space.Table i)) t (space_of x)) ≡ room_of (long_home t) (space_of x)
  table_room t u (site.Table i o) e h = h i
  table_room t u _ e h = absurd (false≢true e)

  module _ (laid : IsLaid c) (right : Allows c Takes Y Tells Fails Entry) where
    module _ (r j : ℕ) (its : is_ring c r ≡ true) (here : j < (c.ring r).segments) where
      abbrev ring : Ring
      ring = c.ring r

      abbrev first : ℕ
      first = ring.first j

      abbrev count : ℕ
      count = length (bodies r j) + gates_of r ring j

      -- a slot of the segment is private
      slot_private : (i : ℕ) → i < count → IsPrivate c (slot_space r (first + i))
      slot_private i l =
          let room = end_inside r ring (laid.rings r its) j here in
          record { its = (laid.lie r its).its (first + i) (omega arith); plain = refl }

      module _ (y : Y) (s : Bytes) (o : Opened c Takes Y Tells Fails Entry r j y s) where
        follows : (k : ℕ) (d : Draft) → IsBody c r j k d → Follows d (opcode_in (slot_in c s r j k))
        follows k d e = right.follows r j k d (opcode_in (slot_in c s r j k)) its here e (o.takes k d e)

        far_side : (k : ℕ) (d : Draft) → IsBody c r j k d → (c.mine (remote_space d) ≡ true) ⊎ (opcode_in (slot_in c s r j k) ≡ Send)
        far_side k d e =
            elim (sends_alike d (opcode_in (slot_in c s r j k)) (follows k d e)) [
              | inl none ↦ inl ((laid.sides r j k d its here e).1 none)
              | inr is ↦ inr is
            ]

        asked_one : (u : Bytes) (k : ℕ) (d : Draft) → IsBody c r j k d → AskedOne (own_view c.domain u) (slot_of r first) count (slot_of r (first + k)) d (tabled s u)
        asked_one u k d e =
            let apart = laid.apart r j its here in
            let small : k < length (bodies r j) = slice_get_within (bodies r j) k d e in
            let inside : k < count = omega arith in
            let low : nat_le first (first + k) ≡ true = le-leb first (first + k) (omega arith) in
            let high : nat_lt (first + k) (first + count) ≡ true = lt-ltb (first + k) (first + count) (omega arith) in
            (follows k d e, o.sized (slot_space r (first + k)) (slot_private k inside), (apart.private k d e).0, and_from (r == r) _ (eq-eqb r r refl) (and_from (nat_le first (first + k)) _ low high), all_at (both_sides (spares (slot_of r first) count)) (bodies r j) k d apart.spared e, λ t us events lengths slot went. fit t us events lengths slot went)
          where
            fit : (t : Bytes) (us : List Put) (events : List Obs) → SameLengths t (tabled s u) → t (slot_space r (first + k)) ≡ s (slot_space r (first + k)) → step (own_view c.domain u) (slot_of r (first + k)) d t ≡ Went us events → Fit t us
            fit t us events lengths slot went =
                let sized = λ (q : Space) (h : IsPrivate c q). lengths q ∙ ap length (tabled_plain s u q h.plain) ∙ o.sized q h in
                let v : (c.mine (remote_space d) ≡ true) ⊎ (opcode_in (t (slot_space r (first + k))) ≡ Send) = subst (λ (b : List ℕ). (c.mine (remote_space d) ≡ true) ⊎ (opcode_in b ≡ Send)) (sym slot) (far_side k d e) in
                fits_of (long_home t) c.mine t us (λ p h. room_there t p h sized) (puts_inside (long_home t) c.mine c.domain (seeing (λ i. u (space.Table i)) t) (t (slot_space r (first + k))) d us events (laid.sides r j k d its here e).0 (λ table. table_room t u d.remote table (λ i. sym (lengths (space.Table i)))) (opcode_in (t (slot_space r (first + k)))) v went)

        asked : (u : Bytes) → Asked (own_view c.domain u) (slot_of r first) count (slot_of r first) (bodies r j) (tabled s u)
        asked u =
            asked_each (own_view c.domain u) (slot_of r first) count (slot_of r first) (bodies r j) (tabled s u) (λ k d e. subst (λ (q : SlotRef). AskedOne (own_view c.domain u) (slot_of r first) count q d (tabled s u)) (sym (place_is r first k)) (asked_one u k d e))

        -- what each does on the state
        does : (u : Bytes) (k : ℕ) (d : Draft) → IsBody c r j k d → alone (own_view c.domain u) (slot_of r first) (bodies r j) k (tabled s u) ≡ acts c.domain (tabled s u) (slot_in c s r j k) d (opcode_in (slot_in c s r j k))
        does u k d e =
            alone_is (own_view c.domain u) (slot_of r first) (bodies r j) k d (tabled s u) e ∙ ap (λ (q : SlotRef). step (own_view c.domain u) q d (tabled s u)) (place_is r first k) ∙ step_own c.domain s u (slot_of r (first + k)) d

        abbrev reaches_all : Bytes → ℕ → Type 0
        reaches_all u k = (i : ℕ) (e : Draft) → i < k → IsBody c r j i e → reaches (tabled s u) (slot_in c s r j i) e e.length ≡ true

        good_seen : (u : Bytes) (k : ℕ) (d : Draft) → IsBody c r j k d → IsGood (run_of c r j s u) → reaches_all u k → IsGood (acts c.domain (tabled s u) (slot_in c s r j k) d (opcode_in (slot_in c s r j k)))
        good_seen u k d e good before =
            let small : k < length (bodies r j) = slice_get_within (bodies r j) k d e in
            subst (λ (x : Outcome). IsGood x) (does u k d e) (good_alone (own_view c.domain u) (slot_of r first) count (bodies r j) (slot_of r first) (tabled s u) k (laid.apart r j its here).free (asked u) good (λ i l.
            let x : Draft = get_or (bodies r j) i d in
            let there : slice_get (bodies r j) i ≡ Some x = slice_get-get_or (bodies r j) i d (omega arith) in
            subst (λ (y : Outcome). NoFault y) (sym (does u i x there)) (no_fault c.domain (tabled s u) (slot_in c s r j i) x (opcode_in (slot_in c s r j i)) (before i x l there))))

        -- on a state that is the same where it is the chain's own
        module _ (t : Bytes) (agrees : (p : Space) → IsPrivate c p → t p ≡ s p) where
          same_mine : (u w : Bytes) → ((p : Space) → is_table_space p ≡ true → w p ≡ u p) → ((p : Space) → is_table_space p ≡ false → w p ≡ t p) → (p : Space) → c.mine p ≡ true → tabled s u p ≡ w p
          same_mine u w tables others p mine =
              elim (is_table_space p) as (λ b. is_table_space p ≡ b → tabled s u p ≡ w p) [
                | true ↦ λ e. tabled_table s u p e ∙ sym (tables p e)
                | false ↦ λ e. tabled_plain s u p e ∙ sym (agrees p record { its = mine; plain = e }) ∙ sym (others p e)
              ] refl

          same_flat : (u : Bytes) (p : Space) → c.mine p ≡ true → is_table_space p ≡ false → tabled s u p ≡ t p
          same_flat u p mine e = tabled_plain s u p e ∙ sym (agrees p record { its = mine; plain = e })

          slot_same : (k : ℕ) (d : Draft) → IsBody c r j k d → slot_in c t r j k ≡ slot_in c s r j k
          slot_same k d e =
              let small : k < length (bodies r j) = slice_get_within (bodies r j) k d e in
              agrees (slot_space r (first + k)) (slot_private k (omega arith))

          as_seen : (u w : Bytes) (k : ℕ) (d : Draft) → IsBody c r j k d → tabled s u (local_space d) ≡ w (local_space d) → (c.mine (remote_space d) ≡ true → tabled s u (remote_space d) ≡ w (remote_space d)) → acts c.domain (tabled s u) (slot_in c s r j k) d (opcode_in (slot_in c s r j k)) ≡ acts c.domain w (slot_in c t r j k) d (opcode_in (slot_in c t r j k))
          as_seen u w k d e near far =
              let v : (tabled s u (remote_space d) ≡ w (remote_space d)) ⊎ (opcode_in (slot_in c s r j k) ≡ Send) = elim (far_side k d e) [ inl mine ↦ inl (far mine) | inr is ↦ inr is ] in
              acts_same c.domain (tabled s u) w (slot_in c s r j k) d (opcode_in (slot_in c s r j k)) (reads_alike (tabled s u) w (slot_in c s r j k) d (opcode_in (slot_in c s r j k)) near v) ∙ ap (λ (b : List ℕ). acts c.domain w b d (opcode_in b)) (sym (slot_same k d e))

          -- a draft that isn't the event's has no table
          as_plain : (u : Bytes) (k : ℕ) (d : Draft) → IsBody c r j k d → k ≢ ring.event j → acts c.domain (tabled s u) (slot_in c s r j k) d (opcode_in (slot_in c s r j k)) ≡ acts c.domain t (slot_in c t r j k) d (opcode_in (slot_in c t r j k))
          as_plain u k d e ne =
              let flat = (laid.apart r j its here).private k d e in
              let sides = laid.sides r j k d its here e in
              as_seen u t k d e (same_flat u (local_space d) sides.0 (sym (table_space d.local) ∙ flat.0)) (λ mine. same_flat u (remote_space d) mine (sym (table_space d.remote) ∙ flat.1 ne))

          as_event : (u w : Bytes) (k : ℕ) (d : Draft) → IsBody c r j k d → ((p : Space) → is_table_space p ≡ true → w p ≡ u p) → ((p : Space) → is_table_space p ≡ false → w p ≡ t p) → acts c.domain (tabled s u) (slot_in c s r j k) d (opcode_in (slot_in c s r j k)) ≡ acts c.domain w (slot_in c t r j k) d (opcode_in (slot_in c t r j k))
          as_event u w k d e tables others =
              as_seen u w k d e (same_mine u w tables others (local_space d) (laid.sides r j k d its here e).0) (same_mine u w tables others (remote_space d))

          long_table : (n : ℕ) (x : Site) → is_table x ≡ true → n ≤ length (tabled s (long n) (space_of x))
          long_table n x e =
              let same : tabled s (long n) (space_of x) ≡ replicate n 0 = tabled_table s (long n) (space_of x) (sym (table_space x) ∙ e) in
              let size : length (tabled s (long n) (space_of x)) ≡ n = ap length same ∙ length-replicate n 0 in
              omega arith

          -- so no draft of the segment is bad there
          good_there : HasBytes t → ((u : Bytes) → HasBytes u → IsGood (run_of c r j s u)) → (k : ℕ) (d : Draft) → IsBody c r j k d → IsGood (acts c.domain t (slot_in c t r j k) d (opcode_in (slot_in c t r j k)))
          good_there bytes good k d e =
              elim (cases_eq k (ring.event j)) [
                | inl same ↦ subst (λ (x : Outcome). IsGood x) (as_event t t k d e (λ p h. refl) (λ p h. refl)) (good_seen t k d e (good t bytes) (λ i x l there. flat t i x there (λ is. let at : i ≡ k = is ∙ sym same in omega arith)))
                | inr ne ↦
                    let n : ℕ = remote_in (slot_in c s r j (ring.event j)) + (get_or (bodies r j) (ring.event j) d).length in
                    subst (λ (x : Outcome). IsGood x) (as_plain (long n) k d e ne) (good_seen (long n) k d e (good (long n) (λ i. All-replicate (λ (b : ℕ). b < 256) n 0 (omega arith))) (λ i x l there. at_event i x there (cases_eq i (ring.event j))))
              ]
            where
              flat : (u : Bytes) (i : ℕ) (x : Draft) → IsBody c r j i x → i ≢ ring.event j → reaches (tabled s u) (slot_in c s r j i) x x.length ≡ true
              flat u i x there ne = reaches_plain c.domain (tabled s u) (slot_in c s r j i) x (((laid.apart r j its here).private i x there).1 ne)

              m : ℕ
              m = remote_in (slot_in c s r j (ring.event j)) + (get_or (bodies r j) (ring.event j) d).length

              by_table : (i : ℕ) (x : Draft) → remote_in (slot_in c s r j i) + x.length ≡ m → (b : Bool) → is_table x.remote ≡ b → reaches (tabled s (long m)) (slot_in c s r j i) x x.length ≡ true
              by_table i x is true e = reaches_long c.domain (tabled s (long m)) (slot_in c s r j i) x (let l = long_table m x.remote e in omega arith)
              by_table i x is false e = reaches_plain c.domain (tabled s (long m)) (slot_in c s r j i) x e

              at_event : (i : ℕ) (x : Draft) → IsBody c r j i x → (i ≡ ring.event j) ⊎ (i ≢ ring.event j) → reaches (tabled s (long m)) (slot_in c s r j i) x x.length ≡ true
              at_event i x there (inr ne) = flat (long m) i x there ne
              at_event i x there (inl same) =
                  let y : Draft = get_or (bodies r j) i d in
                  let is : x ≡ y = some_is x y (sym there ∙ slice_get-get_or (bodies r j) i d (slice_get_within (bodies r j) i x there)) in
                  let is_event : remote_in (slot_in c s r j i) + y.length ≡ m = ap (λ (a : ℕ). remote_in (slot_in c s r j a) + (get_or (bodies r j) a d).length) same in
                  by_table i x (ap (λ (z : Draft). remote_in (slot_in c s r j i) + z.length) is ∙ is_event) (is_table x.remote) refl

          -- all of them together, where the segment has left something
          abbrev shown_in : List Obs → ℕ → List Obs
          shown_in events k = cond (k == ring.event j) events []

          all_shown : (events : List Obs) → (length (bodies r j) ≤ ring.event j → events ≡ []) → shown_from (shown_in events) (length (bodies r j)) ≡ events
          all_shown events silent =
              elim (cases_lt (ring.event j) (length (bodies r j))) [
                | inl inside ↦ one_shown (shown_in events) (length (bodies r j)) (ring.event j) inside (λ i ne. other i ne) ∙ at_event
                | inr past ↦ none_shown (shown_in events) (length (bodies r j)) (λ i l. other i (λ e. omega arith)) ∙ sym (silent past)
              ]
            where
              at_event : shown_in events (ring.event j) ≡ events
              at_event = let t : (ring.event j == ring.event j) ≡ true = eq-eqb (ring.event j) (ring.event j) refl in rw t refl

              other : (i : ℕ) → i ≢ ring.event j → shown_in events i ≡ []
              other i ne = let t : (i == ring.event j) ≡ false = ne_eqb i (ring.event j) ne in rw t refl

          -- where the event's body goes so, and the others go through in silence, so does the run over those tables
          goes_all : (u : Bytes) (events : List Obs) (each : ℕ → List Put) → (length (bodies r j) ≤ ring.event j → events ≡ []) → ((d : Draft) → IsBody c r j (ring.event j) d → acts c.domain (tabled t u) (slot_in c t r j (ring.event j)) d (opcode_in (slot_in c t r j (ring.event j))) ≡ Went (each (ring.event j)) events) → ((k : ℕ) (d : Draft) → IsBody c r j k d → k ≢ ring.event j → acts c.domain t (slot_in c t r j k) d (opcode_in (slot_in c t r j k)) ≡ Went (each k) []) → run_of c r j s u ≡ Went (puts_of_first each (length (bodies r j))) events
          goes_all u events each silent event others =
              run_of_each (own_view c.domain u) (slot_of r first) count (bodies r j) (slot_of r first) (tabled s u) each (shown_in events) (laid.apart r j its here).free (asked u) (λ k small. one k small (cases_eq k (ring.event j))) ∙ ap (Went (puts_of_first each (length (bodies r j)))) (all_shown events silent)
            where
              one : (k : ℕ) → k < length (bodies r j) → (k ≡ ring.event j) ⊎ (k ≢ ring.event j) → alone (own_view c.domain u) (slot_of r first) (bodies r j) k (tabled s u) ≡ Went (each k) (shown_in events k)
              one k small way =
                  let x : Draft = get_or (bodies r j) k (raise_descriptor r ring) in
                  let is : IsBody c r j k x = slice_get-get_or (bodies r j) k (raise_descriptor r ring) small in
                  elim way [
                    | inl same ↦
                        let t_here : (k == ring.event j) ≡ true = eq-eqb k (ring.event j) same in
                        let now : acts c.domain (tabled t u) (slot_in c t r j k) x (opcode_in (slot_in c t r j k)) ≡ Went (each k) events = subst (λ (i : ℕ). IsBody c r j i x → acts c.domain (tabled t u) (slot_in c t r j i) x (opcode_in (slot_in c t r j i)) ≡ Went (each i) events) (sym same) (λ e. event x e) is in
                        does u k x is ∙ as_event u (tabled t u) k x is (λ p h. tabled_table t u p h) (λ p h. tabled_plain t u p h) ∙ now ∙ ap (Went (each k)) (let e : events ≡ shown_in events k = rw t_here refl in e)
                    | inr ne ↦
                        let t_other : (k == ring.event j) ≡ false = ne_eqb k (ring.event j) ne in
                        does u k x is ∙ as_plain u k x is ne ∙ others k x is ne ∙ ap (Went (each k)) (let e : [] ≡ shown_in events k = rw t_other refl in e)
                  ]

          goes : (b : Bytes) (l : Leaves c r j t b) → run_of c r j s l.tables ≡ Went (puts_of_first l.each (length (bodies r j))) l.events
          goes b l = goes_all l.tables l.events l.each l.silent l.event l.plain

          -- and where the event's body faults, it ends by that fault
          faults_all : (u : Bytes) (us : List Put) (events : List Obs) (each : ℕ → List Put) (d : Draft) → IsBody c r j (ring.event j) d → acts c.domain (tabled t u) (slot_in c t r j (ring.event j)) d (opcode_in (slot_in c t r j (ring.event j))) ≡ Faults us events → ((k : ℕ) (x : Draft) → IsBody c r j k x → k ≢ ring.event j → acts c.domain t (slot_in c t r j k) x (opcode_in (slot_in c t r j k)) ≡ Went (each k) []) → (vs : List Put) × (run_of c r j s u ≡ Faults vs events)
          faults_all u us events each d e goes others =
              let inside = slice_get_within (bodies r j) (ring.event j) d e in
              run_faults (own_view c.domain u) (slot_of r first) count (bodies r j) (slot_of r first) (tabled s u) (ring.event j) each us events (laid.apart r j its here).free (asked u) inside (λ k l.
              let x : Draft = get_or (bodies r j) k d in
              let is : IsBody c r j k x = slice_get-get_or (bodies r j) k d (omega arith) in
              let ne : k ≢ ring.event j = (λ same. omega arith) in
              does u k x is ∙ as_plain u k x is ne ∙ others k x is ne) (does u (ring.event j) d e ∙ as_event u (tabled t u) (ring.event j) d e (λ p h. tabled_table t u p h) (λ p h. tabled_plain t u p h) ∙ goes)

          -- and memory shows what they put on the plain state
          shows_plain : (b : Bytes) (l : Leaves c r j t b) (u : Bytes) (p : Space) → IsPrivate c p → b p ≡ placed (tabled s u) (puts_of_first l.each (length (bodies r j))) p
          shows_plain b l u p h =
              l.shows p h ∙ same_placed (puts_of_first l.each (length (bodies r j))) t (tabled s u) p (agrees p h ∙ sym (tabled_plain s u p h.plain))

      abbrev Runs : ℕ → Y → Bytes → Type 0
      Runs m y s =
          (u : Bytes) → HasBytes u → Comes (λ events t. (z : Y) × Tells r j u y events z × Sound c Takes Y Tells Fails Entry r m (suc j) z t) (Fails r j u y) (tabled s u) (run_of c r j s u)

      some_left : (n : ℕ) (y : Y) (s : Bytes) → n + j ≡ ring.segments → Sound c Takes Y Tells Fails Entry r n j y s → (m : ℕ) × (suc m + j ≡ ring.segments) × Opened c Takes Y Tells Fails Entry r j y s × Runs m y s
      some_left zero y s e h = absurd (omega arith)
      some_left (suc n) y s e h = (n, e, h.0, h.1)

      module _ (y : Y) (s : Bytes) (f : Fine c Takes Y Tells Fails Entry r j y s) where
        abbrev opened : (m : ℕ) × (suc m + j ≡ ring.segments) × Opened c Takes Y Tells Fails Entry r j y f.plain × Runs m y f.plain
        opened = some_left f.left y f.plain f.left_is f.sound

        pub good_now : (k : ℕ) (d : Draft) → IsBody c r j k d → IsGood (acts c.domain s (slot_in c s r j k) d (opcode_in (slot_in c s r j k)))
        good_now = good_there y f.plain opened.2 s f.agrees f.bytes (λ u b. comes_good (λ events t. (z : Y) × Tells r j u y events z × Sound c Takes Y Tells Fails Entry r opened.0 (suc j) z t) (Fails r j u y) (tabled f.plain u) (run_of c r j f.plain u) (opened.3 u b))

        takes_now : (k : ℕ) (d : Draft) → IsBody c r j k d → Takes r j k (opcode_in (slot_in c s r j k))
        takes_now k d e =
            subst (λ (b : List ℕ). Takes r j k (opcode_in b)) (sym (slot_same y f.plain opened.2 s f.agrees k d e)) (opened.2.takes k d e)

        -- a body that isn't the event's goes through in silence
        silent_now : (k : ℕ) (d : Draft) → IsBody c r j k d → k ≢ ring.event j → (us : List Put) × (acts c.domain s (slot_in c s r j k) d (opcode_in (slot_in c s r j k)) ≡ Went us [])
        silent_now k d e ne =
            unseen c.domain s (slot_in c s r j k) d (opcode_in (slot_in c s r j k)) (elim (slice_get_append (ring.drafts j) (lap_requests r ring j) k d e) [
              | inl own ↦ right.unseen r j k d (opcode_in (slot_in c s r j k)) its here own (takes_now k d e) ne
              | inr lap ↦ lap_unseen d (opcode_in (slot_in c s r j k)) (lap_of r ring j lap.0 d lap.2) (right.follows r j k d (opcode_in (slot_in c s r j k)) its here e (takes_now k d e))
            ]) (good_now k d e)

        puts_of : Outcome → List Put
        puts_of (Went us events) = us
        puts_of (Faults us events) = us
        puts_of Bad = []

        each_now : ℕ → List Put
        each_now k = puts_of (acts c.domain s (slot_in c s r j k) (get_or (bodies r j) k (raise_descriptor r ring)) (opcode_in (slot_in c s r j k)))

        others_now : (k : ℕ) (d : Draft) → IsBody c r j k d → k ≢ ring.event j → acts c.domain s (slot_in c s r j k) d (opcode_in (slot_in c s r j k)) ≡ Went (each_now k) []
        unfolding each_now puts_of
        others_now k d e ne =
            let went = silent_now k d e ne in
            let x : Draft = get_or (bodies r j) k (raise_descriptor r ring) in
            let same : x ≡ d = some_is x d (sym (slice_get-get_or (bodies r j) k (raise_descriptor r ring) (slice_get_within (bodies r j) k d e)) ∙ e) in
            let now : acts c.domain s (slot_in c s r j k) x (opcode_in (slot_in c s r j k)) ≡ Went went.0 [] = ap (λ (y : Draft). acts c.domain s (slot_in c s r j k) y (opcode_in (slot_in c s r j k))) same ∙ went.1 in
            went.1 ∙ ap (λ (us : List Put). Went us []) (sym (ap puts_of now))

        -- where the event's body goes through over some tables, the run over them tells so
        pub told_now : (u : Bytes) → HasBytes u → (d : Draft) (us : List Put) (events : List Obs) → IsBody c r j (ring.event j) d → acts c.domain (tabled s u) (slot_in c s r j (ring.event j)) d (opcode_in (slot_in c s r j (ring.event j))) ≡ Went us events → (z : Y) × Tells r j u y events z
        told_now u b d us events e goes =
            let inside = slice_get_within (bodies r j) (ring.event j) d e in
            let run = goes_all y f.plain opened.2 s f.agrees u events (λ k. cond (k == ring.event j) us (each_now k)) (λ past. absurd (omega arith)) (λ x is.
            let same : x ≡ d = some_is x d (sym is ∙ e) in
            let t : (ring.event j == ring.event j) ≡ true = eq-eqb (ring.event j) (ring.event j) refl in
            ap (λ (z : Draft). acts c.domain (tabled s u) (slot_in c s r j (ring.event j)) z (opcode_in (slot_in c s r j (ring.event j)))) same ∙ goes ∙ ap (λ (vs : List Put). Went vs events) (let q : us ≡ cond (ring.event j == ring.event j) us (each_now (ring.event j)) = rw t refl in q)) (λ k x is ne.
            let t : (k == ring.event j) ≡ false = ne_eqb k (ring.event j) ne in
            others_now k x is ne ∙ ap (λ (vs : List Put). Went vs []) (let q : each_now k ≡ cond (k == ring.event j) us (each_now k) = rw t refl in q)) in
            let come = subst (λ (o : Outcome). Comes (λ events t. (z : Y) × Tells r j u y events z × Sound c Takes Y Tells Fails Entry r opened.0 (suc j) z t) (Fails r j u y) (tabled f.plain u) o) run (opened.3 u b) in
            (come.0, come.1)

        -- and where it faults, that it ends so
        pub fails_now : (u : Bytes) → HasBytes u → (d : Draft) (us : List Put) (events : List Obs) → IsBody c r j (ring.event j) d → acts c.domain (tabled s u) (slot_in c s r j (ring.event j)) d (opcode_in (slot_in c s r j (ring.event j))) ≡ Faults us events → Fails r j u y events
        fails_now u b d us events e goes =
            let run = faults_all y f.plain opened.2 s f.agrees u us events each_now d e goes others_now in
            subst (λ (o : Outcome). Comes (λ events t. (z : Y) × Tells r j u y events z × Sound c Takes Y Tells Fails Entry r opened.0 (suc j) z t) (Fails r j u y) (tabled f.plain u) o) run.1 (opened.3 u b)

        next_fine : (b : Bytes) → HasBytes b → (l : Leaves c r j s b) → (z : Y) × Then c Takes Y Tells Fails Entry r j y s b l z × Fine c Takes Y Tells Fails Entry r (suc j) z b
        next_fine b bytes l =
            let g = goes y f.plain opened.2 s f.agrees b l in
            let n : ℕ = opened.0 in
            let left : suc n + j ≡ ring.segments = opened.1 in
            let come = subst (λ (o : Outcome). Comes (λ events t. (z : Y) × Tells r j l.tables y events z × Sound c Takes Y Tells Fails Entry r n (suc j) z t) (Fails r j l.tables y) (tabled f.plain l.tables) o) g (opened.3 l.tables l.bytes) in (
              come.0,
              record { plain = f.plain; agrees = f.agrees; runs_are = g; tells = come.1 },
              record {
                bytes = bytes;
                left = n;
                left_is = (let e : n + suc j ≡ ring.segments = omega arith in e);
                plain = placed (tabled f.plain l.tables) (puts_of_first l.each (length (bodies r j)));
                agrees = shows_plain y f.plain opened.2 s f.agrees b l l.tables;
                sound = come.2;
              },
            )

        target_fine : suc j ≡ ring.segments → gates_of r ring j ≡ 2 → (v : ℕ) × (is_ring c v ≡ true) × (bytes_at (s (slot_space r (enable_of r ring j))) 40 16 ≡ s (space.Descriptor v)) × ((b : Bytes) → HasBytes b → (l : Leaves c r j s b) → (z : Y) × Then c Takes Y Tells Fails Entry r j y s b l z × Fine c Takes Y Tells Fails Entry v 0 z b)
        target_fine last two =
            let t = opened.2.closes last two in
            let inside : enable_of r ring j < ring.row.slots = enable_inside last two in
            let slot : IsPrivate c (slot_space r (enable_of r ring j)) = record { its = (laid.lie r its).its (enable_of r ring j) inside; plain = refl } in
            let descriptor : IsPrivate c (space.Descriptor t.0) = record { its = laid.descriptors t.0 t.1; plain = refl } in
            (t.0, t.1, ap (λ (b : List ℕ). bytes_at b 40 16) (f.agrees (slot_space r (enable_of r ring j)) slot) ∙ t.2 ∙ sym (f.agrees (space.Descriptor t.0) descriptor), λ b bytes l. enter t.0 t.1 t.3 b bytes l)
          where
            enable_inside : suc j ≡ ring.segments → gates_of r ring j ≡ 2 → enable_of r ring j < ring.row.slots
            enable_inside last two =
                let room = end_inside r ring (laid.rings r its) j here in
                let follows_it = (laid.rings r its).follows j here in
                omega arith

            enter : (v : ℕ) → is_ring c v ≡ true → ((u : Bytes) → HasBytes u → Comes (λ events t. (z : Y) × Tells r j u y events z × Entry v z t) (Fails r j u y) (tabled f.plain u) (run_of c r j f.plain u)) → (b : Bytes) → HasBytes b → (l : Leaves c r j s b) → (z : Y) × Then c Takes Y Tells Fails Entry r j y s b l z × Fine c Takes Y Tells Fails Entry v 0 z b
            enter v small come b bytes l =
                let g = goes y f.plain opened.2 s f.agrees b l in
                let all : (c.ring v).segments + 0 ≡ (c.ring v).segments = omega arith in
                let came = subst (λ (o : Outcome). Comes (λ events t. (z : Y) × Tells r j l.tables y events z × Entry v z t) (Fails r j l.tables y) (tabled f.plain l.tables) o) g (come l.tables l.bytes) in (
                  came.0,
                  record { plain = f.plain; agrees = f.agrees; runs_are = g; tells = came.1 },
                  record {
                    bytes = bytes;
                    left = (c.ring v).segments;
                    left_is = all;
                    plain = placed (tabled f.plain l.tables) (puts_of_first l.each (length (bodies r j)));
                    agrees = shows_plain y f.plain opened.2 s f.agrees b l l.tables;
                    sound = right.enters v came.0 (placed (tabled f.plain l.tables) (puts_of_first l.each (length (bodies r j)))) small came.2;
                  },
                )

    body : (r j k : ℕ) (d : Draft) → IsOwn c r j k d → IsBody c r j k d
    body r j k d e = front ((c.ring r).drafts j) (lap_requests r (c.ring r) j) k d e

    pub promised : Promises c (meaning c Takes Y Tells Fails Entry)
    promised =
        record {
          follows = λ r j k d y s its here f e. right.follows r j k d (opcode_in (slot_in c s r j k)) its here (body r j k d e) (takes_now r j its here y s f k d (body r j k d e));
          granted = λ r j k d y s its here f e. right.granted r j k d (opcode_in (slot_in c s r j k)) its here e (takes_now r j its here y s f k d (body r j k d e));
          good = λ r j k d y s its here f e. good_now r j its here y s f k d (body r j k d e);
          silent = λ r j k d y s its here f e ne. unseen c.domain s (slot_in c s r j k) d (opcode_in (slot_in c s r j k)) (right.unseen r j k d (opcode_in (slot_in c s r j k)) its here e (takes_now r j its here y s f k d (body r j k d e)) ne) (good_now r j its here y s f k d (body r j k d e));
          keeps = λ r j k d y s v its here f e is. right.keeps r j k d (opcode_in (slot_in c s r j k)) v its here e (takes_now r j its here y s f k d (body r j k d e)) is;
          tables = λ r j y s t f bytes same. record { bytes = bytes; left = f.left; left_is = f.left_is; plain = f.plain; agrees = λ p h. same p h ∙ f.agrees p h; sound = f.sound };
          onward = λ r j y s t its more f bytes l. next_fine r j its (omega arith) y s f t bytes l;
          target = λ r j y s its last two f. target_fine r j its (omega arith) y s f last two;
        }
