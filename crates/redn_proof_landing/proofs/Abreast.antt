-- Drafts with footprints apart do one after the other what each does on the first state.
use Rattle.std.proofs.Common.{◌≡◌, inl, inr, ℕ, ◌+◌, ◌<◌, ◌≤◌, Bool, true, false, not, ◌&&◌, ◌||◌, List, [], ◌∷◌, length, refl, sym, ap, ◌∙◌, subst, arith}
use Rattle.std.specs.Prelude.{nat_le, nat_lt, min, max}
use Rattle.std.proofs.lemmas.Bool.{false≢true, false_from_ne_true, and_parts, and_from, lt-ltb, leb-true, ltb-true, or_left, or_right}
use Rattle.redn_words.specs.declared.types.Opcode.{Opcode}
use Rattle.redn_words.specs.declared.types.Opcode.TheVariants.{Write, Read, Cas, Add, Send}
use Rattle.redn_proof_landing.proofs.Reading.{ReadsSame, SameReach, acts_same, seen_same}
use Rattle.redn_proof_landing.specs.Segments.{is_table_space}
use Rattle.redn_segment.proofs.Pieces.{with_put_here, with_put_there}
use Rattle.redn_segment.proofs.PutSides.{PutIn, AllIn}
use Rattle.redn_segment.proofs.SameSpace.{same_space_is, table_space}
use Rattle.redn_segment.proofs.Sides.{IsSide, LocalSide, RemoteSide, side_at, side_test, write_local, read_remote, cas_remote, add_remote, send_local}
use Rattle.redn_segment.specs.Footprints.{both_sides, from, meet, is_free, drafts_free}
use Rattle.redn_segment.specs.Orders.{Follows}
use Rattle.redn_segment.specs.Plain.{Bytes, View, seeing, Put, with_put, placed, after, acts, step, opcode_in, local_space, remote_space, local_at, remote_at, local_bytes, remote_bytes}
use Rattle.redn_segment.specs.Sites.{space_of, start_of, is_table, same_space}
use Rattle.redn_words.proofs.Bytes.{byte_put, same_range}
use Rattle.redn_words.specs.Bytes.{covers}
use Rattle.redn_words.proofs.Places.{length-with_bytes_at}
use Rattle.redn_words.specs.Landings.{change}
use Rattle.redn_words.specs.Words.{bytes_at, with_bytes_at}
use Rattle.redn_segment.specs.declared.types.SlotRef.{SlotRef}
use Rattle.redn_segment.specs.declared.types.Side.{Side}
use Rattle.redn_segment.specs.declared.types.Space.{Space}
use Rattle.redn_segment.specs.declared.types.Space.TheVariants as space
use Rattle.redn_segment.specs.declared.types.Draft.{Draft}

-- puts of a draft leave a side alone that it is free of
abbrev pub Fit : Bytes → List Put → Type 0
Fit s [] = Unit {0}
Fit s (u ∷ us) = (u.at + length u.bytes ≤ length (s u.space)) × Fit s us

fit_on : (s : Bytes) (v : Put) (us : List Put) → v.at + length v.bytes ≤ length (s v.space) → Fit s us → Fit (with_put s v) us
fit_on s v [] l h = tt
fit_on s v (u ∷ us) l h = (
  elim (same_space v.space u.space) as (λ b. same_space v.space u.space ≡ b → u.at + length u.bytes ≤ length (with_put s v u.space)) [
    | true ↦ λ t.
        let same : v.space ≡ u.space = same_space_is v.space u.space t in
        let room : v.at + length v.bytes ≤ length (s u.space) = subst (λ (p : Space). v.at + length v.bytes ≤ length (s p)) same l in
        let long : length (with_put s v u.space) ≡ length (s u.space) = ap length (with_put_here s v u.space t) ∙ length-with_bytes_at (s u.space) v.bytes v.at room in
        let fits = h.0 in
        omega arith
    | false ↦ λ t. let long : length (with_put s v u.space) ≡ length (s u.space) = ap length (with_put_there s v u.space t) in let fits = h.0 in omega arith
  ] refl,
  fit_on s v us l h.1,
)

length_put : (s : Bytes) (u : Put) (q : Space) → u.at + length u.bytes ≤ length (s u.space) → length (with_put s u q) ≡ length (s q)
length_put s u q l =
    elim (same_space u.space q) as (λ b. same_space u.space q ≡ b → length (with_put s u q) ≡ length (s q)) [
      | true ↦ λ t. ap length (with_put_here s u q t) ∙ length-with_bytes_at (s q) u.bytes u.at (subst (λ (p : Space). u.at + length u.bytes ≤ length (s p)) (same_space_is u.space q t) l)
      | false ↦ λ t. ap length (with_put_there s u q t)
    ] refl

pub length_puts : (us : List Put) (s : Bytes) (q : Space) → Fit s us → length (placed s us q) ≡ length (s q)
length_puts [] s q h = refl
length_puts (u ∷ us) s q h = length_puts us (with_put s u) q (fit_on s u us h.0 h.1) ∙ length_put s u q h.0

-- puts miss a range of a space
abbrev pub MissesOne : Space → ℕ → ℕ → Put → Type 0
MissesOne q at len u = same_space u.space q ≡ true → (p : ℕ) → at ≤ p → p < at + len → covers (change u.at u.bytes) p ≡ false

abbrev pub Misses : Space → ℕ → ℕ → List Put → Type 0
Misses q at len [] = Unit {0}
Misses q at len (u ∷ us) = MissesOne q at len u × Misses q at len us

miss_one : (s : Bytes) (u : Put) (q : Space) (at len : ℕ) → u.at + length u.bytes ≤ length (s u.space) → MissesOne q at len u → bytes_at (with_put s u q) at len ≡ bytes_at (s q) at len
miss_one s u q at len l h =
    elim (same_space u.space q) as (λ b. same_space u.space q ≡ b → bytes_at (with_put s u q) at len ≡ bytes_at (s q) at len) [
      | true ↦ λ t.
          let room : u.at + length u.bytes ≤ length (s q) = subst (λ (p : Space). u.at + length u.bytes ≤ length (s p)) (same_space_is u.space q t) l in
          ap (λ (b : List ℕ). bytes_at b at len) (with_put_here s u q t) ∙ same_range (with_bytes_at (s q) u.at u.bytes) (s q) at len (length-with_bytes_at (s q) u.bytes u.at room) (λ p low high. let none = h t p low high in byte_put (s q) (change u.at u.bytes) p room ∙ rw none refl)
      | false ↦ λ t. ap (λ (b : List ℕ). bytes_at b at len) (with_put_there s u q t)
    ] refl

pub miss_all : (us : List Put) (s : Bytes) (q : Space) (at len : ℕ) → Fit s us → Misses q at len us → bytes_at (placed s us q) at len ≡ bytes_at (s q) at len
miss_all [] s q at len f h = refl
miss_all (u ∷ us) s q at len f h = miss_all us (with_put s u) q at len (fit_on s u us f.0 f.1) h.1 ∙ miss_one s u q at len f.0 h.0

module _ (c d : Draft) (free : drafts_free c d ≡ true) where
  -- what one draft puts misses the sides of another that it is free of
  side_missed : (b : Side) (len : ℕ) (u : Put) → IsSide d b → len ≤ b.len → is_table b.site ≡ false → PutIn c u → MissesOne (space_of b.site) (from b) len u
  side_missed b len u its short plain h same p low high =
      false_from_ne_true (covers (change u.at u.bytes) p) (λ hit.
      let parts = and_parts (nat_le u.at p) (nat_lt p (u.at + length u.bytes)) hit in
      let above = leb-true u.at p parts.0 in
      let below = ltb-true p (u.at + length u.bytes) parts.1 in
      let a = h.side in
      let test : is_free a b ≡ true = side_test d (is_free a) b (side_test c (λ (x : Side). both_sides (is_free x) d) a free h.its) its in
      let space : same_space (space_of a.site) (space_of b.site) ≡ true = ap (λ (q : Space). same_space q (space_of b.site)) (sym h.space_is) ∙ same in
      let is : space_of a.site ≡ space_of b.site = same_space_is (space_of a.site) (space_of b.site) space in
      let flat : is_table a.site ≡ false = table_space a.site ∙ ap is_table_space is ∙ sym (table_space b.site) ∙ plain in
      let bounds = h.bounds flat in
      let first = bounds.0 in
      let second = bounds.1 in
      let common : nat_lt (max (from a) (from b)) (min (from a + a.len) (from b + b.len)) ≡ true = lt-ltb (max (from a) (from b)) (min (from a + a.len) (from b + b.len)) (omega arith) in
      let meets : meet a b ≡ true = and_from (same_space (space_of a.site) (space_of b.site)) _ space (or_right (is_table a.site) _ common) in
      let both : ((a.writes || b.writes) && meet a b) ≡ true = and_from (a.writes || b.writes) (meet a b) (or_left a.writes b.writes h.writes) meets in
      false≢true (ap not (sym both) ∙ test))

  table_missed : (b : Side) (u : Put) → IsSide d b → is_table b.site ≡ true → PutIn c u → same_space u.space (space_of b.site) ≡ false
  table_missed b u its table h =
      false_from_ne_true (same_space u.space (space_of b.site)) (λ same.
      let a = h.side in
      let test : is_free a b ≡ true = side_test d (is_free a) b (side_test c (λ (x : Side). both_sides (is_free x) d) a free h.its) its in
      let space : same_space (space_of a.site) (space_of b.site) ≡ true = ap (λ (q : Space). same_space q (space_of b.site)) (sym h.space_is) ∙ same in
      let is : space_of a.site ≡ space_of b.site = same_space_is (space_of a.site) (space_of b.site) space in
      let flat : is_table a.site ≡ true = table_space a.site ∙ ap is_table_space is ∙ sym (table_space b.site) ∙ table in
      let meets : meet a b ≡ true = and_from (same_space (space_of a.site) (space_of b.site)) _ space (or_left (is_table a.site) _ flat) in
      let both : ((a.writes || b.writes) && meet a b) ≡ true = and_from (a.writes || b.writes) (meet a b) (or_left a.writes b.writes h.writes) meets in
      false≢true (ap not (sym both) ∙ test))

  sides_missed : (b : Side) (len : ℕ) (us : List Put) → IsSide d b → len ≤ b.len → is_table b.site ≡ false → AllIn c us → Misses (space_of b.site) (from b) len us
  sides_missed b len [] its short plain h = tt
  sides_missed b len (u ∷ us) its short plain h = (side_missed b len u its short plain h.0, sides_missed b len us its short plain h.1)

  table_stays : (b : Side) (us : List Put) (s : Bytes) → IsSide d b → is_table b.site ≡ true → AllIn c us → placed s us (space_of b.site) ≡ s (space_of b.site)
  table_stays b [] s its table h = refl
  table_stays b (u ∷ us) s its table h = table_stays b us (with_put s u) its table h.1 ∙ with_put_there s u (space_of b.site) (table_missed b u its table h.0)

  module _ (s : Bytes) (us : List Put) (made : AllIn c us) (fit : Fit s us) (plain : is_table d.local ≡ false) (slot : List ℕ) where
    local_read : (n : ℕ) (v : Bool) → LocalSide d n v → local_bytes (placed s us) d n ≡ local_bytes s d n
    local_read n v y = miss_all us s (local_space d) (local_at d) n fit (sides_missed (side_at d.local d.local_byte y.len y.written) n us (inl y.is) y.long plain made)

    remote_read : (n : ℕ) (v : Bool) → RemoteSide d n v → remote_bytes (placed s us) slot d n ≡ remote_bytes s slot d n
    remote_read n v y =
        elim (is_table d.remote) as (λ b. is_table d.remote ≡ b → remote_bytes (placed s us) slot d n ≡ remote_bytes s slot d n) [
          | true ↦ λ t. ap (λ (l : List ℕ). bytes_at l (remote_at slot d) n) (table_stays (side_at d.remote d.remote_byte y.len y.written) us s (inr y.is) t made)
          | false ↦ λ t.
              let at : remote_at slot d ≡ start_of d.remote + d.remote_byte = rw t refl in
              ap (λ (a : ℕ). bytes_at (placed s us (remote_space d)) a n) at ∙ miss_all us s (remote_space d) (start_of d.remote + d.remote_byte) n fit (sides_missed (side_at d.remote d.remote_byte y.len y.written) n us (inr y.is) y.long t made) ∙ ap (λ (a : ℕ). bytes_at (s (remote_space d)) a n) (sym at)
        ] refl

    reach : SameReach (placed s us) s d
    reach t = length_puts us s (remote_space d) fit

    reads_same : (op : Opcode) → Follows d op → ReadsSame (placed s us) s slot d op
    reads_same Write f = (local_read d.length false (write_local d f), reach)
    reads_same Read f = (remote_read d.length false (read_remote d f), reach)
    reads_same Cas f = remote_read 8 true (cas_remote d f)
    reads_same Add f = remote_read 8 true (add_remote d f)
    reads_same Send f = local_read d.length false (send_local d f)
    reads_same _ f = tt

    -- a draft does after another, of which it is free and which spares its slot, what it does before
    pub step_apart : (chain : View) (at : SlotRef) → s (space.Slot at) ≡ slot → placed s us (space.Slot at) ≡ slot → Follows d (opcode_in slot) → step chain at d (placed s us) ≡ step chain at d s
    step_apart chain at before after f = ap (λ (b : List ℕ). acts chain.number (seeing (chain.tables at) (placed s us)) b d (opcode_in b)) after ∙ acts_same chain.number (seeing (chain.tables at) (placed s us)) (seeing (chain.tables at) s) slot d (opcode_in slot) (seen_same (chain.tables at) (placed s us) s slot d (opcode_in slot) (reads_same (opcode_in slot) f)) ∙ ap (λ (b : List ℕ). acts chain.number (seeing (chain.tables at) s) b d (opcode_in b)) (sym before)
