-- The window of a placed segment is orderly, where each of its drafts goes through on the memory of the opening and their footprints lie apart.
use Rattle.std.proofs.Common.{◌≡◌, ◌≢◌, ℕ, zero, suc, ◌+◌, ◌-◌, ◌*◌, ◌%◌, ◌<◌, ◌≤◌, ◌⊎◌, inl, inr, Bool, true, false, not, ◌&&◌, ◌||◌, ◌==◌, List, [], ◌∷◌, length, get_or, refl, sym, ap, ◌∙◌, subst, arith}
use Rattle.std.specs.Prelude.{nat_le, nat_lt, slice_get, Some}
use Rattle.std.proofs.lemmas.Bool.{false≢true, and_from, or_left, or_right, le-leb, lt-ltb, eq-eqb, cases_lt, false_from_ne_true}
use Rattle.std.proofs.lemmas.Nat.{mod-mul-add}
use Rattle.std.proofs.lemmas.List.{get_or-append_right, get_or_append_left}
use Rattle.redn_words.specs.declared.types.Region.{Region}
use Rattle.redn_words.specs.declared.types.QueueRow.{QueueRow}
use Rattle.redn_words.specs.declared.types.Obs.{Obs}
use Rattle.redn_words.specs.declared.types.Obs.TheVariants as shows
use Rattle.redn_words.specs.declared.types.Opcode.{Opcode}
use Rattle.redn_words.specs.declared.types.Opcode.TheVariants.{Noop, Write, Read, Cas, Add, Send, Wait, Enable, Undefined}
use Rattle.redn_proof_landing.proofs.Decoding.{lands_placed}
use Rattle.redn_proof_landing.proofs.Touching.{InSide, writes_in, reads_in}
use Rattle.redn_proof_landing.specs.Homes.{LandsAs, LandsWell, seen_in, reads_by, told_by}
use Rattle.redn_proof_landing.specs.Segments.{CanLand, IsGood, slot_space, copies, Lying, Part, segment_window, slot_bytes, IsApart, GoesThrough, is_table_space}
use Rattle.redn_segment.proofs.SameSpace.{same_space_is, table_space}
use Rattle.redn_segment.proofs.Sides.{IsSide, side_at, side_test}
use Rattle.redn_segment.specs.Footprints.{local_by, remote_by, both_sides, is_free, among, spares}
use Rattle.redn_segment.specs.Homes.{Home, base_of, room_of, LieApart}
use Rattle.redn_segment.specs.Plain.{Put, Outcome, Went, acts, opcode_in}
use Rattle.redn_segment.specs.Sites.{space_of, is_table, same_space}
use Rattle.redn_proof_window.specs.Stages.{IsEnding, Orderly, Plain}
use Rattle.redn_proof_window.specs.Windows.{Opening, bodies_of, slots_of, copy_of, origin_of, planned, may_write, slot_at}
use Rattle.redn_words.specs.Footprints.{footprint}
use Rattle.redn_words.specs.Access.{EndsBy}
use Rattle.redn_words.specs.Landings.{Place, Landing, landing}
use Rattle.redn_words.specs.Ranges.{holds, within}
use Rattle.redn_words.specs.Requests.{decoded}
use Rattle.redn_words.specs.Steps.{class_by, class_of}
use Rattle.redn_words.specs.Words.{bytes_at}
use Rattle.redn_words.specs.declared.limits.TheConstants.{RECEIVE_BASE}
use Rattle.redn_words.specs.declared.types.Class.TheVariants as ask
use Rattle.redn_segment.specs.declared.types.Side.{Side}
use Rattle.redn_segment.specs.declared.types.Space.{Space}
use Rattle.redn_segment.specs.declared.types.Draft.{Draft}
use Rattle.redn_segment.proofs.AnyOrder.{all_at, free_at}
use Rattle.redn_segment.proofs.Touching.{opcode_read, In, one_space, free_apart}

good_flies : (chain : ℕ) (s : Space → List ℕ) (slot : List ℕ) (d : Draft) (op : Opcode) → IsGood (acts chain s slot d op) → class_by op ≡ ask.Flies
unfolding acts
good_flies chain s slot d Wait h = absurd h
good_flies chain s slot d Enable h = absurd h
good_flies chain s slot d (Undefined n) h = absurd h
good_flies chain s slot d _ h = refl

pub nothing_told : (home : Space → Home) (o : Obs) → told_by home o ≡ [] → o ≡ shows.Nothing
nothing_told home shows.Nothing e = refl
nothing_told home _ e = absurd (cc)

some_plain : (b a : Side) → Some b ≡ Some a → is_table b.site ≡ false → is_table a.site ≡ false
some_plain b a e h = let same : b ≡ a = cc in subst (λ (x : Side). is_table x.site ≡ false) same h

pub length-copies : (home : Space → Home) (ring : ℕ) (m : List ℕ) (first n : ℕ) → length (copies home ring m first n) ≡ n
length-copies home ring m first zero = refl
length-copies home ring m first (suc n) = ap suc (length-copies home ring m (first + 1) n)

pub copies_at : (home : Space → Home) (ring : ℕ) (m : List ℕ) (first n k : ℕ) → k < n → get_or (copies home ring m first n) k [] ≡ seen_in home m (slot_space ring (first + k))
copies_at home ring m first zero k l = absurd (omega arith)
copies_at home ring m first (suc n) zero l = let at : first ≡ first + 0 = omega arith in ap (λ (i : ℕ). seen_in home m (slot_space ring i)) at
copies_at home ring m first (suc n) (suc k) l = let at : (first + 1) + k ≡ first + suc k = omega arith in copies_at home ring m (first + 1) n k (omega arith) ∙ ap (λ (i : ℕ). seen_in home m (slot_space ring i)) at

module _ (home : Space → Home) (mine : Space → Bool) (regions : List Region) (ring : ℕ) (row : QueueRow) (ours : ℕ → Bool) where
  module _ (lie : Lying home mine ring row) (g : Part) (lap counter : ℕ) (m : List ℕ) (apart : IsApart mine ring g) (through : GoesThrough home regions ring row g m) (spaces : LieApart home mine (length m)) (room : g.first + (length g.drafts + g.gates) ≤ row.slots) (ours_are : (q : Space) (i : ℕ) → mine q ≡ true → is_table_space q ≡ false → i < room_of home q → ours (base_of home q + i) ≡ true) where
    abbrev w : Opening
    w = segment_window home regions ring row ours g lap counter m

    pub bodies_are : bodies_of w ≡ length g.drafts
    bodies_are = length-copies home ring m g.first (length g.drafts)

    pub slots_are : slots_of w ≡ length g.drafts + g.gates
    slots_are = omega (arith, bodies_are, length-copies home ring m (g.first + length g.drafts) g.gates)

    pub copy_is : (k : ℕ) → k < slots_of w → copy_of w k ≡ slot_bytes home ring g m k
    copy_is k l =
        elim (cases_lt k (length g.drafts)) [
          | inl low ↦ get_or_append_left w.bodies w.gates [] k (omega (arith, bodies_are)) ∙ copies_at home ring m g.first (length g.drafts) k low
          | inr high ↦
              let at : (g.first + length g.drafts) + (k - length g.drafts) ≡ g.first + k = omega arith in
              get_or-append_right w.bodies w.gates (length g.drafts) k [] bodies_are high ∙ copies_at home ring m (g.first + length g.drafts) g.gates (k - length g.drafts) (omega (arith, l, slots_are, high)) ∙ ap (λ (i : ℕ). seen_in home m (slot_space ring i)) at
        ]

    pub place_is : (k : ℕ) → k < slots_of w → slot_at w k ≡ base_of home (slot_space ring (g.first + k))
    place_is k l =
        let inside : g.first + k < row.slots = omega (arith, l, slots_are, room) in
        let at : (lap * row.slots + g.first) + k ≡ lap * row.slots + (g.first + k) = omega arith in
        ap (λ (i : ℕ). row.base + 64 * (i % row.slots)) at ∙ ap (λ (i : ℕ). row.base + 64 * i) (mod-mul-add lap row.slots (g.first + k) inside) ∙ sym (lie.at (g.first + k) inside)

    -- the draft at a place
    pub draft_at : (k : ℕ) → k < bodies_of w → (d : Draft) × (slice_get g.drafts k ≡ Some d)
    draft_at k l = nth g.drafts k (omega (arith, l, bodies_are))
      where
        nth : (ds : List Draft) (k : ℕ) → k < length ds → (d : Draft) × (slice_get ds k ≡ Some d)
        nth [] k l = absurd (omega arith)
        nth (d ∷ ds) zero l = (d, refl)
        nth (d ∷ ds) (suc k) l = nth ds k (omega arith)

    pub mine_of : (k : ℕ) (d : Draft) (a : Side) → slice_get g.drafts k ≡ Some d → IsSide d a → mine (space_of a.site) ≡ true
    mine_of k d a e its = side_test d (λ (b : Side). mine (space_of b.site)) a (all_at (both_sides (λ (b : Side). mine (space_of b.site))) g.drafts k d apart.placed e) its

    at_body : (k : ℕ) → k < bodies_of w → k < slots_of w
    at_body k l = omega (arith, l)

    -- what a body may write lies in a side of its draft
    pub written : (k p : ℕ) (d : Draft) (l : k < bodies_of w) (e : slice_get g.drafts k ≡ Some d) → may_write w k p ≡ true → InSide home regions row.domain (length m) d (slot_bytes home ring g m k) (through.set k d e) true p
    written k p d l e h = writes_in home regions row.domain (length m) d (slot_bytes home ring g m k) (through.set k d e) (apart.private k d e).0 p (ap (λ (c : List ℕ). within (footprint regions row.domain (decoded c)) p) (sym (copy_is k (at_body k l))) ∙ h)

    -- two bodies, the first before the second
    free_two : (j k p : ℕ) (d e : Draft) → j < k → slice_get g.drafts j ≡ Some d → slice_get g.drafts k ≡ Some e → (a b : Side) → IsSide d a → IsSide e b → (a.writes || b.writes) ≡ true → In home a p → In home b p → ⊥
    free_two j k p d e l f h a b its others writes x y =
        let free : both_sides (λ (c : Side). both_sides (is_free c) e) d ≡ true = free_at g.drafts j k d e apart.free l f h in
        let one : both_sides (is_free a) e ≡ true = side_test d (λ (c : Side). both_sides (is_free c) e) a free its in
        free_apart home mine (length m) spaces a b p (mine_of j d a f its) (mine_of k e b h others) (side_test e (is_free a) b one others) writes x y

    pub apart_any : (j k p : ℕ) (d e : Draft) → j ≢ k → slice_get g.drafts j ≡ Some d → slice_get g.drafts k ≡ Some e → (a b : Side) → IsSide d a → IsSide e b → (a.writes ≡ true) ⊎ (b.writes ≡ true) → In home a p → In home b p → ⊥
    apart_any j k p d e ne f h a b its others writes x y =
        elim (cases_lt j k) [
          | inl l ↦ free_two j k p d e l f h a b its others (elim writes [ inl v ↦ or_left a.writes b.writes v | inr v ↦ or_right a.writes b.writes v ]) x y
          | inr l ↦ free_two k j p e d (omega (arith, ne)) h f b a others its (elim writes [ inl v ↦ or_right b.writes a.writes v | inr v ↦ or_left b.writes a.writes v ]) y x
        ]

    -- a slot of the segment isn't written by its bodies
    slot_free : (k j p : ℕ) → k < slots_of w → j < bodies_of w → slot_at w k ≤ p → p < slot_at w k + 64 → may_write w j p ≡ true → ⊥
    slot_free k j p l i low high h =
        let draft = draft_at j i in
        let inside : g.first + k < row.slots = omega (arith, l, slots_are, room) in
        let at = place_is k l in
        let x = written j p draft.0 i draft.1 h in
        let its = mine_of j draft.0 x.side draft.1 x.its in
        let offset : ℕ = p - base_of home (slot_space ring (g.first + k)) in
        let same : same_space (space_of x.side.site) (slot_space ring (g.first + k)) ≡ true = one_space home mine (length m) spaces (space_of x.side.site) (slot_space ring (g.first + k)) x.bytes.at offset p its (lie.its (g.first + k) inside) x.bytes.is x.bytes.room (omega arith) (omega arith) in
        let is : space_of x.side.site ≡ slot_space ring (g.first + k) = same_space_is (space_of x.side.site) (slot_space ring (g.first + k)) same in
        let plain : is_table x.side.site ≡ false = table_space x.side.site ∙ ap is_table_space is in
        let bounds = x.bytes.bounds plain in
        let some : nat_lt 0 x.side.len ≡ true = lt-ltb 0 x.side.len (omega (arith, bounds.0, bounds.1)) in
        let test : not (x.side.writes && (nat_lt 0 x.side.len && among (record { ring = ring; slot = g.first }) (length g.drafts + g.gates) (space_of x.side.site))) ≡ true = side_test draft.0 (spares (record { ring = ring; slot = g.first }) (length g.drafts + g.gates)) x.side (all_at (both_sides (spares (record { ring = ring; slot = g.first }) (length g.drafts + g.gates))) g.drafts j draft.0 apart.spared draft.1) x.its in
        let here : among (record { ring = ring; slot = g.first }) (length g.drafts + g.gates) (space_of x.side.site) ≡ true = ap (among (record { ring = ring; slot = g.first }) (length g.drafts + g.gates)) is ∙ and_from (ring == ring) _ (eq-eqb ring ring refl) (and_from (nat_le g.first (g.first + k)) _ (le-leb g.first (g.first + k) (omega arith)) (lt-ltb (g.first + k) (g.first + (length g.drafts + g.gates)) (omega (arith, l, slots_are)))) in
        let writes : x.side.writes ≡ true = x.writes refl in
        false≢true (sym (ap not (and_from x.side.writes _ writes (and_from (nat_lt 0 x.side.len) _ some here))) ∙ test)

    -- the landing of a body that isn't the event's
    pub lands_silently : (k : ℕ) (d : Draft) (us : List Put) → slice_get g.drafts k ≡ Some d → acts row.domain (seen_in home m) (slot_bytes home ring g m k) d (opcode_in (slot_bytes home ring g m k)) ≡ Went us [] → k < bodies_of w → LandsWell home (reads_by home d (slot_bytes home ring g m k) (opcode_in (slot_bytes home ring g m k))) us [] (planned w k)
    lands_silently k d us e goes l =
        let s = through.set k d e in
        let placed : CanLand home regions row.domain (length m) d (slot_bytes home ring g m k) (opcode_in (slot_bytes home ring g m k)) = record { from = s.from; local_home = s.local_home; to = s.to; remote_home = s.remote_home; granted = through.granted k d e } in
        let lands = lands_placed home regions (origin_of w k) m d (slot_bytes home ring g m k) placed in
        let real : landing regions (origin_of w k) m (decoded (slot_bytes home ring g m k)) ≡ planned w k = ap (λ (c : List ℕ). landing regions (origin_of w k) m (decoded c)) (sym (copy_is k (at_body k l))) in
        subst (λ (x : Landing). LandsAs home (reads_by home d (slot_bytes home ring g m k) (opcode_in (slot_bytes home ring g m k))) (Went us []) x) real (subst (λ (x : Outcome). LandsAs home (reads_by home d (slot_bytes home ring g m k) (opcode_in (slot_bytes home ring g m k))) x (landing regions (origin_of w k) m (decoded (slot_bytes home ring g m k)))) goes lands)

    plain_at : (k : ℕ) → k < bodies_of w → k ≢ g.event → Plain w k
    plain_at k l ne =
        let draft = draft_at k l in
        let d : Draft = draft.0 in
        let e = draft.1 in
        let silent = through.silent k d e ne in
        let lands = lands_silently k d silent.0 e silent.1 l in
        let private = apart.private k d e in
        record {
          allowed = lands.allowed;
          silent = nothing_told home (planned w k).shown lands.shown_is;
          writes_ours = λ p h. let x = written k p d l e h in side_ours d e x.side x.its p (private.0, private.1 ne) x.bytes;
          reads_ours = λ p h. let x = read_at d e ne silent.0 lands p h in side_ours d e x.side x.its p (private.0, private.1 ne) x.bytes;
          reads_spared = λ j p i apart_at h.
              let x = read_at d e ne silent.0 lands p h in
              let other = draft_at j i in
              false_from_ne_true (may_write w j p) (λ hit. let y = written j p other.0 i other.1 hit in apart_any j k p other.0 d apart_at other.1 e y.side x.side y.its x.its (inl (y.writes refl)) y.bytes x.bytes);
        }
      where
        read_at : (d : Draft) (e : slice_get g.drafts k ≡ Some d) → k ≢ g.event → (us : List Put) → LandsWell home (reads_by home d (slot_bytes home ring g m k) (opcode_in (slot_bytes home ring g m k))) us [] (planned w k) → (p : ℕ) → holds (planned w k).reads p ≡ true → InSide home regions row.domain (length m) d (slot_bytes home ring g m k) (through.set k d e) false p
        read_at d e ne us lands p h = let private = apart.private k d e in reads_in home regions row.domain (length m) d (slot_bytes home ring g m k) (through.set k d e) private.0 (private.1 ne) p (ap (λ (c : Place). holds c p) (sym lands.reads_are) ∙ h)

        side_plain : (d : Draft) (a : Side) → IsSide d a → (is_table d.local ≡ false) × (is_table d.remote ≡ false) → is_table a.site ≡ false
        side_plain d a (inl is) h = by_op d.op is
          where
            by_op : (op : Opcode) → local_by d op ≡ Some a → is_table a.site ≡ false
            by_op Noop f = some_plain (side_at d.local d.local_byte d.length true) a f h.0
            by_op Write f = some_plain (side_at d.local d.local_byte d.length false) a f h.0
            by_op Read f = some_plain (side_at d.local d.local_byte d.length true) a f h.0
            by_op Cas f = some_plain (side_at d.local d.local_byte 8 true) a f h.0
            by_op Add f = some_plain (side_at d.local d.local_byte 8 true) a f h.0
            by_op Send f = some_plain (side_at d.local d.local_byte d.length false) a f h.0
            by_op Wait f = absurd (cc)
            by_op Enable f = absurd (cc)
            by_op (Undefined n) f = absurd (cc)
        side_plain d a (inr is) h = by_op d.op is
          where
            by_op : (op : Opcode) → remote_by d op ≡ Some a → is_table a.site ≡ false
            by_op Noop f = some_plain (side_at d.remote d.remote_byte d.length true) a f h.1
            by_op Write f = some_plain (side_at d.remote d.remote_byte d.length true) a f h.1
            by_op Read f = some_plain (side_at d.remote d.remote_byte d.length false) a f h.1
            by_op Cas f = some_plain (side_at d.remote d.remote_byte 8 true) a f h.1
            by_op Add f = some_plain (side_at d.remote d.remote_byte 8 true) a f h.1
            by_op Send f = absurd (cc)
            by_op Wait f = absurd (cc)
            by_op Enable f = absurd (cc)
            by_op (Undefined n) f = absurd (cc)

        side_ours : (d : Draft) (e : slice_get g.drafts k ≡ Some d) (a : Side) → IsSide d a → (p : ℕ) → (is_table d.local ≡ false) × (is_table d.remote ≡ false) → In home a p → ours p ≡ true
        side_ours d e a its p private x = ap ours x.is ∙ ours_are (space_of a.site) x.at (mine_of k d a e its) (sym (table_space a.site) ∙ side_plain d a its private) x.room

    pub segment_orderly : ring < RECEIVE_BASE → ((k : ℕ) → k + 1 ≡ length g.drafts → (decoded (slot_bytes home ring g m k)).flags % 2 ≡ 1) → IsEnding w g.ending → EndsBy (length m) regions → Orderly w
    segment_orderly numbered last gates ends =
        record {
          numbered = numbered;
          room = omega (arith, slots_are, room);
          first = λ copy e. absurd (cc);
          flying = λ k l.
              let draft = draft_at k l in
              let flies_there : class_by (opcode_in (slot_bytes home ring g m k)) ≡ ask.Flies = good_flies row.domain (seen_in home m) (slot_bytes home ring g m k) draft.0 (opcode_in (slot_bytes home ring g m k)) (through.good k draft.0 draft.1) in
              ap (λ (c : List ℕ). class_of (decoded c)) (copy_is k (at_body k l)) ∙ ap class_by (opcode_read (slot_bytes home ring g m k)) ∙ flies_there;
          last = λ k e. ap (λ (c : List ℕ). (decoded c).flags % 2) (copy_is k (at_body k (omega arith))) ∙ last k (omega (arith, bodies_are));
          gates = gates;
          slots_stand = λ k l. ap (λ (a : ℕ). bytes_at m a 64) (place_is k l) ∙ sym (copy_is k l);
          slots_ours = λ k p l low high.
              let at = place_is k l in
              let inside : g.first + k < row.slots = omega (arith, l, slots_are, room) in
              let there : p ≡ base_of home (slot_space ring (g.first + k)) + (p - base_of home (slot_space ring (g.first + k))) = omega arith in
              ap ours there ∙ ours_are (slot_space ring (g.first + k)) (p - base_of home (slot_space ring (g.first + k))) (lie.its (g.first + k) inside) refl (omega arith);
          slots_spared = λ k j p l i low high. false_from_ne_true (may_write w j p) (λ h. slot_free k j p l i low high h);
          plain = λ k l ne. plain_at k l ne;
          apart = λ j k p l i ne h.
              let first = draft_at j l in
              let second = draft_at k i in
              let x = written j p first.0 l first.1 h in
              false_from_ne_true (may_write w k p) (λ hit. let y = written k p second.0 i second.1 hit in apart_any j k p first.0 second.0 ne first.1 second.1 x.side y.side x.its y.its (inl (x.writes refl)) x.bytes y.bytes);
          ends = ends;
        }
