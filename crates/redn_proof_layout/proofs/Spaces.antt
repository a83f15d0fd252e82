-- Where the spaces of a chain lie: one kind after the other, and each at its own place among its kind.
use Rattle.std.proofs.Common.{◌≡◌, ◌≢◌, ℕ, suc, ◌+◌, ◌-◌, ◌*◌, ◌<◌, ◌≤◌, ◌⊎◌, inl, inr, true, false, ◌==◌, ◌&&◌, List, [], ◌∷◌, length, get_or, Some, refl, sym, ap, ◌∙◌, subst, arith}
use Rattle.std.specs.Prelude.{sum_by, slice_get, nat_lt, nat_le}
use Rattle.std.proofs.lemmas.Bool.{true≢false, and_parts, cases_lt, cases_eq, eq-eqb, ltb-true, leb-true}
use Rattle.redn_words.specs.declared.types.Region.{Region}
use Rattle.redn_kernel.specs.declared.types.TableInit.{TableInit}
use Rattle.redn_kernel.specs.declared.types.Cell.{Cell}
use Rattle.redn_kernel.specs.declared.types.Cell.TheVariants.{Var, Hidden, Argument, Num}
use Rattle.redn_segment.specs.declared.types.SlotRef.{SlotRef}
use Rattle.redn_segment.specs.declared.types.Space.{Space}
use Rattle.redn_segment.specs.declared.types.Space.TheVariants as space
use Rattle.redn_segment.specs.Sites.{same_space}
use Rattle.redn_segment.specs.Homes.{LieApart, base_of, room_of}
use Rattle.redn_emit.specs.Layout.{ChainPlan, TablePlan, code_slots, ring_start, slots_of_ring, has_ring, has_space, home, hidden_at, constants_at, vars_base, message_base, data_len, constant_index, table_row, table_region}
use Rattle.redn_emit.specs.Placed.{tables_from}
use Rattle.redn_proof_layout.proofs.Places.{Rises, rises_at, ring_room, ring_before, place_below, places_differ}
use Rattle.redn_proof_layout.proofs.Tables.{IsTable, table_is, tables_rise, length-tables, item_at, mapped_at}

-- what is asked of a chain at its place, and of the tables behind it
pub record Stands (c : ChainPlan) (tables_at size : ℕ) (ts : List TableInit) : Type 0 where
  pub code_end : c.code_base + 64 * code_slots c.rings ≤ c.control_base
  pub words_end : c.control_base + data_len c ≤ tables_at
  pub size_is : size ≡ tables_at + sum_by (λ (t : TableInit). length t.bytes) ts
  pub tables_are : c.tables ≡ length ts

-- the kinds of spaces, in the order of their places
abbrev pub zone_of_cell : Cell → ℕ
zone_of_cell (Hidden k) = 5
zone_of_cell (Num n) = 6
zone_of_cell (Var i) = 7
zone_of_cell (Argument i) = 8

abbrev pub zone : Space → ℕ
zone (space.Slot q) = 0
zone (space.Scratch i) = 1
zone space.Key = 2
zone space.Reply = 3
zone (space.Descriptor r) = 4
zone (space.Cell x) = zone_of_cell x
zone (space.Table t) = 9

abbrev pub number_of_cell : Cell → ℕ
number_of_cell (Hidden k) = k
number_of_cell (Num n) = n
number_of_cell (Var i) = i
number_of_cell (Argument i) = i

abbrev at_slot : ℕ → SlotRef
at_slot i = record { ring = 0; slot = i }

abbrev name_of : Space → SlotRef
name_of (space.Slot q) = q
name_of (space.Scratch i) = at_slot i
name_of (space.Descriptor r) = at_slot r
name_of (space.Cell x) = at_slot (number_of_cell x)
name_of (space.Table t) = at_slot t
name_of _ = at_slot 0

abbrev named_by : ℕ → SlotRef → Space
named_by z q = get_or (space.Slot q ∷ space.Scratch q.slot ∷ space.Key ∷ space.Reply ∷ space.Descriptor q.slot ∷ space.Cell (Hidden q.slot) ∷ space.Cell (Num q.slot) ∷ space.Cell (Var q.slot) ∷ space.Cell (Argument q.slot) ∷ space.Table q.slot ∷ []) z space.Key

is_named : (p : Space) → p ≡ named_by (zone p) (name_of p)
is_named (space.Slot q) = refl
is_named (space.Cell (Hidden k)) = refl
is_named (space.Cell _) = refl
is_named _ = refl

pub zone_small : (p : Space) → zone p < 10
zone_small (space.Slot q) = omega arith
zone_small (space.Cell (Hidden k)) = omega arith
zone_small (space.Cell _) = omega arith
zone_small _ = omega arith

two_places : (a b base unit len : ℕ) → a ≢ b → len ≤ unit → (base + unit * a + len ≤ base + unit * b) ⊎ (base + unit * b + len ≤ base + unit * a)
two_places a b base unit len ne l =
    elim (cases_lt a b) [
      | inl below ↦ inl (before a b below)
      | inr past ↦ inr (before b a (omega (arith, ne, past)))
    ]
  where
    before : (i j : ℕ) → i < j → base + unit * i + len ≤ base + unit * j
    before i j m =
        let more : j ≡ i + (1 + (j - i - 1)) = omega arith in
        let all : unit * j ≡ unit * i + (unit + unit * (j - i - 1)) = ap (λ (k : ℕ). unit * k) more ∙ spread unit i (j - i - 1) in
        omega (arith, all, l)
      where
        spread : (u x y : ℕ) → u * (x + (1 + y)) ≡ u * x + (u + u * y)
        spread u x y = omega arith

module _ (c : ChainPlan) (tables_at size : ℕ) (ts : List TableInit) (stands : Stands c tables_at size ts) where
  abbrev pub its : List TablePlan
  its = tables_from 0 tables_at ts

  abbrev pub at : Space → ℕ
  at p = base_of (home c its) p

  abbrev pub room : Space → ℕ
  room p = room_of (home c its) p

  -- where each kind begins, and where the last one ends
  abbrev pub begins : List ℕ
  begins =
      c.code_base ∷ c.control_base ∷ (c.control_base + 32) ∷ (c.control_base + 40) ∷ (c.control_base + 104) ∷ (c.control_base + hidden_at c) ∷ (c.control_base + constants_at c) ∷ vars_base c ∷ message_base c ∷ (message_base c + 8 * c.args) ∷ size ∷ []

  abbrev pub low : ℕ → ℕ
  low z = get_or begins z 0

  pub they_rise : Rises begins
  they_rise =
      let code = stands.code_end in
      let words = stands.words_end in
      let all = stands.size_is in
      (omega (arith, code), (omega arith, (omega arith, (omega arith, (omega arith, (omega arith, (omega arith, (omega arith, (omega arith, (omega (arith, words, all), tt))))))))))

  -- a ring of the chain
  pub ring_within : (r : ℕ) → has_ring c r ≡ true → r - c.first < length c.rings
  ring_within r h =
      let parts = and_parts (nat_le c.first r) (nat_lt r (c.first + length c.rings)) h in
      let a = leb-true c.first r parts.0 in
      let b = ltb-true r (c.first + length c.rings) parts.1 in
      omega (arith, a, b)

  ring_above : (r : ℕ) → has_ring c r ≡ true → c.first ≤ r
  ring_above r h = leb-true c.first r (and_parts (nat_le c.first r) (nat_lt r (c.first + length c.rings)) h).0

  -- a table of the chain
  pub record HasTable (t : ℕ) : Type 0 where
    pub plan : TablePlan
    pub there : slice_get its t ≡ Some plan
    pub region : table_region c its t ≡ table_row c plan
    pub is : IsTable 0 tables_at ts t plan

  pub has_table : (t : ℕ) → nat_lt t c.tables ≡ true → HasTable t
  has_table t h =
      let below = ltb-true t c.tables h in
      let many = length-tables 0 tables_at ts in
      let same = stands.tables_are in
      let found = item_at its t (omega (arith, below, many, same)) in
      record { plan = found.0; there = found.1; region = mapped_at (table_row c) its t found.0 _ found.1; is = table_is 0 tables_at ts t found.0 found.1 }

  pub record Lies (p : Space) : Type 0 where
    pub above : low (zone p) ≤ at p
    pub below : at p + room p ≤ low (suc (zone p))

  pub lies : (p : Space) → has_space c p ≡ true → Lies p
  lies (space.Slot q) h =
      let parts = and_parts (has_ring c q.ring) (nat_lt q.slot (slots_of_ring c q.ring)) h in
      let inside = ring_within q.ring parts.0 in
      let fits = ring_room c.rings (q.ring - c.first) inside in
      let slot = ltb-true q.slot (slots_of_ring c q.ring) parts.1 in
      let code = stands.code_end in
      record { above = omega arith; below = omega (arith, fits, slot, code) }
  lies (space.Scratch i) h = let few = ltb-true i 4 h in record { above = omega arith; below = omega (arith, few) }
  lies (space.Descriptor r) h = let inside = ring_within r h in record { above = omega arith; below = omega (arith, inside) }
  lies (space.Cell (Hidden k)) h = let few = ltb-true k c.hidden h in record { above = omega arith; below = omega (arith, few) }
  lies (space.Cell (Num n)) h = let few = place_below n c.constants h in record { above = omega arith; below = omega (arith, few) }
  lies (space.Cell (Var i)) h = let few = ltb-true i c.vars h in record { above = omega arith; below = omega (arith, few) }
  lies (space.Cell (Argument i)) h = let few = ltb-true i c.args h in record { above = omega arith; below = omega (arith, few) }
  lies (space.Table t) h =
      let t_is = has_table t h in
      let here : at (space.Table t) ≡ t_is.plan.base + 0 = ap (λ (r : Region). r.base + 0) t_is.region in
      let long : room (space.Table t) ≡ length t_is.plan.bytes = ap (λ (r : Region). r.len) t_is.region in
      let up = t_is.is.above in
      let down = t_is.is.inside in
      let words = stands.words_end in
      let all = stands.size_is in
      record { above = omega (arith, here, up, words); below = omega (arith, here, long, down, all) }
  lies _ h = record { above = omega arith; below = omega arith }

  abbrev Apart : Space → Space → Type 0
  Apart p q =
      has_space c p ≡ true → has_space c q ≡ true → same_space p q ≡ false → (at p + room p ≤ at q) ⊎ (at q + room q ≤ at p)

  -- two of one kind
  other_number : (i j : ℕ) → (i == j) ≡ false → i ≢ j
  other_number i j ne e = true≢false (sym (eq-eqb i j e) ∙ ne)

  slots_apart : (p q : SlotRef) → Apart (space.Slot p) (space.Slot q)
  slots_apart p q h g ne =
      let one = and_parts (has_ring c p.ring) (nat_lt p.slot (slots_of_ring c p.ring)) h in
      let other = and_parts (has_ring c q.ring) (nat_lt q.slot (slots_of_ring c q.ring)) g in
      elim (cases_eq p.ring q.ring) [
        | inl same ↦
            let start : ring_start c p.ring ≡ ring_start c q.ring = ap (ring_start c) same in
            let here : (p.ring == q.ring) ≡ true = eq-eqb p.ring q.ring same in
            let slot : p.slot ≢ q.slot = λ e. true≢false (sym (eq-eqb p.slot q.slot e) ∙ (λ i. sym here i && (p.slot == q.slot)) ∙ ne) in
            elim (cases_lt p.slot q.slot) [
              | inl before ↦ inl (omega (arith, start, before))
              | inr past ↦ inr (omega (arith, start, past, slot))
            ]
        | inr far ↦ elim (cases_lt p.ring q.ring) [
          | inl before ↦ inl (rings p q one.0 other.0 one.1 before)
          | inr past ↦ inr (rings q p other.0 one.0 other.1 (omega (arith, far, past)))
        ]
      ]
    where
      rings : (x y : SlotRef) → has_ring c x.ring ≡ true → has_ring c y.ring ≡ true → nat_lt x.slot (slots_of_ring c x.ring) ≡ true → x.ring < y.ring → at (space.Slot x) + 64 ≤ at (space.Slot y)
      rings x y a b slot before =
          let up = ring_above x.ring a in
          let inside = ring_within y.ring b in
          let fits = ring_before c.rings (x.ring - c.first) (y.ring - c.first) (omega (arith, up, before)) inside in
          let its_slot = ltb-true x.slot (slots_of_ring c x.ring) slot in
          omega (arith, fits, its_slot)

  tables_apart : (t u : ℕ) → Apart (space.Table t) (space.Table u)
  tables_apart t u h g ne =
      let one = has_table t h in
      let other = has_table u g in
      let a : at (space.Table t) ≡ one.plan.base + 0 = ap (λ (r : Region). r.base + 0) one.region in
      let b : at (space.Table u) ≡ other.plan.base + 0 = ap (λ (r : Region). r.base + 0) other.region in
      let d : room (space.Table t) ≡ length one.plan.bytes = ap (λ (r : Region). r.len) one.region in
      let e : room (space.Table u) ≡ length other.plan.bytes = ap (λ (r : Region). r.len) other.region in
      elim (cases_lt t u) [
        | inl before ↦ inl (let up = tables_rise 0 tables_at ts t u one.plan other.plan before one.there other.there in omega (arith, a, b, d, up))
        | inr past ↦
            let far = other_number t u ne in
            inr (let up = tables_rise 0 tables_at ts u t other.plan one.plan (omega (arith, past, far)) other.there one.there in omega (arith, a, b, e, up))
      ]

  numbers_apart : (m n : ℕ) → Apart (space.Cell (Num m)) (space.Cell (Num n))
  numbers_apart m n h g ne =
      let far = places_differ m n c.constants h g (other_number m n ne) in
      elim (two_places (constant_index c m) (constant_index c n) (c.control_base + constants_at c) 8 8 far (omega arith)) [
        | inl l ↦ inl (omega (arith, l))
        | inr l ↦ inr (omega (arith, l))
      ]

  apart_like : (p : Space) (k : SlotRef) → Apart p (named_by (zone p) k)
  apart_like (space.Slot q) k h g ne = slots_apart q k h g ne
  apart_like (space.Scratch i) k h g ne =
      elim (two_places i k.slot c.control_base 8 8 (other_number i k.slot ne) (omega arith)) [ inl l ↦ inl (omega (arith, l)) | inr l ↦ inr (omega (arith, l)) ]
  apart_like (space.Descriptor r) k h g ne =
      let far = other_number r k.slot ne in
      let a = ring_above r h in
      let b = ring_above k.slot g in
      elim (two_places (r - c.first) (k.slot - c.first) (c.control_base + 104) 16 16 (λ e. far (omega (arith, e, a, b))) (omega arith)) [ inl l ↦ inl (omega (arith, l)) | inr l ↦ inr (omega (arith, l)) ]
  apart_like (space.Cell (Hidden i)) k h g ne =
      elim (two_places i k.slot (c.control_base + hidden_at c) 8 8 (other_number i k.slot ne) (omega arith)) [ inl l ↦ inl (omega (arith, l)) | inr l ↦ inr (omega (arith, l)) ]
  apart_like (space.Cell (Num n)) k h g ne = numbers_apart n k.slot h g ne
  apart_like (space.Cell (Var i)) k h g ne =
      elim (two_places i k.slot (vars_base c) 8 8 (other_number i k.slot ne) (omega arith)) [ inl l ↦ inl (omega (arith, l)) | inr l ↦ inr (omega (arith, l)) ]
  apart_like (space.Cell (Argument i)) k h g ne =
      elim (two_places i k.slot (message_base c) 8 8 (other_number i k.slot ne) (omega arith)) [ inl l ↦ inl (omega (arith, l)) | inr l ↦ inr (omega (arith, l)) ]
  apart_like (space.Table t) k h g ne = tables_apart t k.slot h g ne
  apart_like _ k h g ne = absurd (true≢false ne)

  apart_kind : (p q : Space) → zone p ≡ zone q → Apart p q
  apart_kind p q e = subst (Apart p) (sym (is_named q ∙ ap (λ (z : ℕ). named_by z (name_of q)) (sym e))) (apart_like p (name_of q))

  kinds_before : (p q : Space) → has_space c p ≡ true → has_space c q ≡ true → zone p < zone q → at p + room p ≤ at q
  kinds_before p q h g l =
      let a = (lies p h).below in
      let b = (lies q g).above in
      let small = zone_small q in
      let up : low (suc (zone p)) ≤ low (zone q) = rises_at begins they_rise (suc (zone p)) (zone q) l (omega (arith, small)) in
      omega (arith, a, b, up)

  pub spaces_apart : LieApart (home c its) (has_space c) size
  spaces_apart =
      record {
        inside = λ p h. (let a = (lies p h).below in let small = zone_small p in let up : low (suc (zone p)) ≤ low 10 = rises_at begins they_rise (suc (zone p)) 10 small (omega arith) in omega (arith, a, up));
        apart = λ p q h g ne. elim (cases_eq (zone p) (zone q)) [
          | inl same ↦ apart_kind p q same h g ne
          | inr far ↦ elim (cases_lt (zone p) (zone q)) [
            | inl before ↦ inl (kinds_before p q h g before)
            | inr past ↦ inr (kinds_before q p g h (omega (arith, far, past)))
          ]
        ];
      }
