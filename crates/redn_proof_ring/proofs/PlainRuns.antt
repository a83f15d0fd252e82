-- Plain runs of segments in their slots, under the tables of one state.
use Rattle.std.proofs.Common.{◌≡◌, ℕ, zero, suc, ◌+◌, ◌⊎◌, inl, inr, Bool, true, false, List, [], ◌∷◌, length, refl, ap, ◌∙◌, arith}
use Rattle.std.specs.Prelude.{slice_get, Some}
use Rattle.redn_words.specs.declared.types.Opcode.{Opcode}
use Rattle.redn_words.specs.declared.types.Opcode.TheVariants.{Noop, Write, Read, Cas, Add, Send, Wait, Enable, Undefined}
use Rattle.redn_proof_landing.proofs.Abreast.{Fit}
use Rattle.redn_proof_landing.proofs.Reading.{ReadsSame}
use Rattle.redn_proof_landing.specs.Homes.{Inside}
use Rattle.redn_proof_ring.specs.Turns.{tabled}
use Rattle.redn_recycle.specs.Laps.{slot_of}
use Rattle.redn_proof_ring.proofs.Alone.{alone, AskedOne, Asked}
use Rattle.redn_segment.specs.Homes.{Home, room_of}
use Rattle.redn_segment.specs.Orders.{is_send, Follows}
use Rattle.redn_proof_ring.specs.Runs.{own_view}
use Rattle.redn_segment.specs.Plain.{Bytes, View, Put, acts, step, seeing, opcode_in, local_space, remote_space, local_at, remote_at}
use Rattle.redn_segment.specs.Sites.{next_slot}
use Rattle.redn_words.specs.Words.{bytes_at}
use Rattle.redn_segment.specs.declared.types.SlotRef.{SlotRef}
use Rattle.redn_segment.specs.declared.types.Space.{Space}
use Rattle.redn_segment.specs.declared.types.Space.TheVariants as space
use Rattle.redn_segment.specs.declared.types.Draft.{Draft}

-- the slot k places behind
abbrev pub place : SlotRef → ℕ → SlotRef
place at zero = at
place at (suc k) = place (next_slot at) k

pub place_is : (ring first k : ℕ) → place (slot_of ring first) k ≡ slot_of ring (first + k)
place_is ring first zero = let e : first ≡ first + 0 = omega arith in ap (slot_of ring) e
place_is ring first (suc k) = let e : (first + 1) + k ≡ first + suc k = omega arith in place_is ring (first + 1) k ∙ ap (slot_of ring) e

pub alone_is : (chain : View) (at : SlotRef) (ds : List Draft) (k : ℕ) (d : Draft) (s : Bytes) → slice_get ds k ≡ Some d → alone chain at ds k s ≡ step chain (place at k) d s
alone_is chain at [] k d s e = absurd (cc)
alone_is chain at (x ∷ ds) zero d s e = let same : x ≡ d = cc in ap (λ (y : Draft). step chain at y s) same
alone_is chain at (x ∷ ds) (suc k) d s e = alone_is chain (next_slot at) ds k d s e

pub asked_each : (chain : View) (first : SlotRef) (n : ℕ) (at : SlotRef) (ds : List Draft) (s : Bytes) → ((k : ℕ) (d : Draft) → slice_get ds k ≡ Some d → AskedOne chain first n (place at k) d s) → Asked chain first n at ds s
asked_each chain first n at [] s h = tt
asked_each chain first n at (d ∷ ds) s h = (h 0 d refl, asked_each chain first n (next_slot at) ds s (λ k e l. h (suc k) e l))

-- the same on the two spaces of a draft
pub reads_alike : (s t : Bytes) (slot : List ℕ) (d : Draft) (op : Opcode) → s (local_space d) ≡ t (local_space d) → (s (remote_space d) ≡ t (remote_space d)) ⊎ (op ≡ Send) → ReadsSame s t slot d op
reads_alike s t slot d Write l (inl r) = (ap (λ (b : List ℕ). bytes_at b (local_at d) d.length) l, λ e. ap length r)
reads_alike s t slot d Read l (inl r) = (ap (λ (b : List ℕ). bytes_at b (remote_at slot d) d.length) r, λ e. ap length r)
reads_alike s t slot d Cas l (inl r) = ap (λ (b : List ℕ). bytes_at b (remote_at slot d) 8) r
reads_alike s t slot d Add l (inl r) = ap (λ (b : List ℕ). bytes_at b (remote_at slot d) 8) r
reads_alike s t slot d Write l (inr e) = absurd (cc)
reads_alike s t slot d Read l (inr e) = absurd (cc)
reads_alike s t slot d Cas l (inr e) = absurd (cc)
reads_alike s t slot d Add l (inr e) = absurd (cc)
reads_alike s t slot d Send l r = ap (λ (b : List ℕ). bytes_at b (local_at d) d.length) l
reads_alike s t slot d Noop l r = tt
reads_alike s t slot d Wait l r = tt
reads_alike s t slot d Enable l r = tt
reads_alike s t slot d (Undefined n) l r = tt

-- a turned draft is no SEND
pub sends_alike : (d : Draft) (op : Opcode) → Follows d op → (is_send d.op ≡ false) ⊎ (op ≡ Send)
sends_alike d op (inr h) = inl (ap is_send h.0)
sends_alike d op (inl e) = by_own d.op op e
  where
    by_own : (own op : Opcode) → op ≡ own → (is_send own ≡ false) ⊎ (op ≡ Send)
    by_own Send op e = inr e
    by_own Noop op e = inl refl
    by_own Write op e = inl refl
    by_own Read op e = inl refl
    by_own Cas op e = inl refl
    by_own Add op e = inl refl
    by_own Wait op e = inl refl
    by_own Enable op e = inl refl
    by_own (Undefined n) op e = inl refl

pub fits_of : (home : Space → Home) (mine : Space → Bool) (t : Bytes) (us : List Put) → ((p : Space) → mine p ≡ true → room_of home p ≡ length (t p)) → Inside home mine us → Fit t us
fits_of home mine t [] h i = tt
fits_of home mine t (u ∷ us) h i =
    let its = i.0 in
    let room = h u.space its.0 in
    let low = its.1 in
    (omega arith, fits_of home mine t us h i.1)

-- a chain that sees the tables of a state
seen_at : (s u : Bytes) (p : Space) → seeing (λ t. u (space.Table t)) (tabled s u) p ≡ tabled s u p
seen_at s u (space.Table t) = refl
seen_at s u _ = refl

pub seen_own : (s u : Bytes) → seeing (λ t. u (space.Table t)) (tabled s u) ≡ tabled s u
seen_own s u = λ i p. seen_at s u p i

-- a step that sees the tables of a state
pub step_own : (number : ℕ) (s u : Bytes) (at : SlotRef) (d : Draft) → step (own_view number u) at d (tabled s u) ≡ acts number (tabled s u) (s (space.Slot at)) d (opcode_in (s (space.Slot at)))
step_own number s u at d = ap (λ (t : Bytes). acts number t (s (space.Slot at)) d (opcode_in (s (space.Slot at)))) (seen_own s u)
