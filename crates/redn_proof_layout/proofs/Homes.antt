-- The homes of a chain's spaces, and which bytes are the chain's own.
use Rattle.std.proofs.Common.{◌≡◌, ℕ, zero, suc, ◌+◌, ◌-◌, ◌*◌, ◌%◌, ◌<◌, ◌≤◌, Bool, true, false, ◌||◌, List, [], ◌∷◌, length, map, get_or, Some, refl, sym, ap, ◌∙◌, arith}
use Rattle.std.specs.Prelude.{slice_get, nat_lt, nat_le}
use Rattle.std.proofs.lemmas.Bool.{true≢false, and_parts, and_from, lt-ltb, le-leb, ltb-true, or_left as first_of}
use Rattle.redn_words.specs.declared.types.Region.{Region}
use Rattle.redn_words.specs.declared.types.Kind.TheVariants as kind
use Rattle.redn_words.specs.Ranges.{holds}
use Rattle.redn_kernel.specs.declared.types.TableInit.{TableInit}
use Rattle.redn_kernel.specs.declared.types.Cell.TheVariants.{Var, Hidden, Argument, Num}
use Rattle.redn_segment.specs.declared.types.Space.{Space}
use Rattle.redn_segment.specs.declared.types.Space.TheVariants as space
use Rattle.redn_segment.specs.Sites.{kind_of}
use Rattle.redn_segment.specs.Homes.{IsHome, IsTold, base_of, room_of}
use Rattle.redn_proof_landing.specs.Segments.{Lying, is_table_space}
use Rattle.redn_recycle.specs.Lapped.{ring_of}
use Rattle.redn_image.specs.Rules.{region_numbers}
use Rattle.redn_emit.specs.Layout.{ChainPlan, TablePlan, ring_slots, code_slots, ring_start, slots_of_ring, has_ring, has_space, home, data_len, table_row, table_region, chain_rows}
use Rattle.redn_emit.specs.Placed.{tables_from}
use Rattle.redn_emit.proofs.RowRules.{KeysFrom}
use Rattle.redn_emit.proofs.Lists.{map_at}
use Rattle.redn_proof_layout.specs.Layouts.{no_ring, segments_named, range, is_own}
use Rattle.redn_proof_layout.proofs.Keys.{Among, among_found}
use Rattle.redn_proof_layout.proofs.Places.{rises_at, ring_room, place_below}
use Rattle.redn_proof_layout.proofs.Spaces.{Stands, zone, begins, low, they_rise, lies, ring_within, has_table}

third : (a b d : Bool) → d ≡ true → (a || (b || (d || false))) ≡ true
third true b d e = refl
third false true d e = refl
third false false true e = refl
third false false false e = e

pub in_range : (at len q : ℕ) → at ≤ q → q < at + len → holds (range at len) q ≡ true
in_range at len q a b = and_from (nat_le at q) (nat_lt q (at + len)) (le-leb at q a) (lt-ltb q (at + len) b)

module _ (c : ChainPlan) (tables_at size : ℕ) (ts : List TableInit) (stands : Stands c tables_at size ts) where
  abbrev its : List TablePlan
  its = tables_from 0 tables_at ts

  -- the row of each space is one of the chain's
  row_in : (p : Space) → has_space c p ≡ true → Among (home c its p).region (chain_rows c its)
  row_in (space.Slot q) h = (1, refl)
  row_in (space.Cell (Var i)) h = (0, refl)
  row_in (space.Cell (Argument i)) h = (3, refl)
  row_in (space.Table t) h =
      let its_table = has_table c tables_at size ts stands t h in
      (suc (suc (suc (suc t))), row_at its t its_table.plan its_table.there ∙ ap (λ (r : Region). Some r) (sym its_table.region))
    where
      row_at : (us : List TablePlan) (k : ℕ) (u : TablePlan) → slice_get us k ≡ Some u → slice_get (map (table_row c) us) k ≡ Some (table_row c u)
      row_at [] k u e = absurd (cc)
      row_at (x ∷ us) zero u e = let same : x ≡ u = cc in ap (λ (y : TablePlan). Some (table_row c y)) same
      row_at (x ∷ us) (suc k) u e = row_at us k u e
  row_in (space.Cell _) h = (2, refl)
  row_in _ h = (2, refl)

  -- where a space lies in its region
  record Sits (p : Space) : Type 0 where
    pub domain_is : (home c its p).region.domain ≡ c.number
    pub kind_is : (home c its p).region.kind ≡ kind_of p
    pub inside : (home c its p).offset + room_of (home c its) p ≤ (home c its p).region.len
    pub ends : (home c its p).region.base + (home c its p).region.len ≤ size
    pub aligned : (home c its p).offset % 8 ≡ 0
    pub told : IsTold p (home c its p).offset

  sits : (p : Space) → has_space c p ≡ true → Sits p
  sits (space.Slot q) h =
      let parts = and_parts (has_ring c q.ring) (nat_lt q.slot (slots_of_ring c q.ring)) h in
      let fits = ring_room c.rings (q.ring - c.first) (ring_within c tables_at size ts stands q.ring parts.0) in
      let slot = ltb-true q.slot (slots_of_ring c q.ring) parts.1 in
      let code = stands.code_end in
      let words = stands.words_end in
      let all = stands.size_is in
      record { domain_is = refl; kind_is = refl; inside = omega (arith, fits, slot); ends = omega (arith, code, words, all); aligned = omega arith; told = tt }
  sits (space.Scratch i) h =
      let few = ltb-true i 4 h in
      let words = stands.words_end in
      let all = stands.size_is in
      record { domain_is = refl; kind_is = refl; inside = omega (arith, few); ends = omega (arith, words, all); aligned = omega arith; told = tt }
  sits space.Key h =
      let words = stands.words_end in
      let all = stands.size_is in
      record { domain_is = refl; kind_is = refl; inside = omega arith; ends = omega (arith, words, all); aligned = omega arith; told = tt }
  sits space.Reply h =
      let words = stands.words_end in
      let all = stands.size_is in
      record { domain_is = refl; kind_is = refl; inside = omega arith; ends = omega (arith, words, all); aligned = omega arith; told = tt }
  sits (space.Descriptor r) h =
      let within = ring_within c tables_at size ts stands r h in
      let words = stands.words_end in
      let all = stands.size_is in
      record { domain_is = refl; kind_is = refl; inside = omega (arith, within); ends = omega (arith, words, all); aligned = omega arith; told = tt }
  sits (space.Cell (Hidden k)) h =
      let few = ltb-true k c.hidden h in
      let words = stands.words_end in
      let all = stands.size_is in
      record { domain_is = refl; kind_is = refl; inside = omega (arith, few); ends = omega (arith, words, all); aligned = omega arith; told = tt }
  sits (space.Cell (Num n)) h =
      let few = place_below n c.constants h in
      let words = stands.words_end in
      let all = stands.size_is in
      record { domain_is = refl; kind_is = refl; inside = omega (arith, few); ends = omega (arith, words, all); aligned = omega arith; told = tt }
  sits (space.Cell (Var i)) h =
      let few = ltb-true i c.vars h in
      let words = stands.words_end in
      let all = stands.size_is in
      record { domain_is = refl; kind_is = refl; inside = omega (arith, few); ends = omega (arith, words, all); aligned = omega arith; told = refl }
  sits (space.Cell (Argument i)) h =
      let few = ltb-true i c.args h in
      let words = stands.words_end in
      let all = stands.size_is in
      record { domain_is = refl; kind_is = refl; inside = omega (arith, few); ends = omega (arith, words, all); aligned = omega arith; told = tt }
  sits (space.Table t) h =
      let t_is = has_table c tables_at size ts stands t h in
      let down = t_is.is.inside in
      let all = stands.size_is in
      let place : (table_region c its t).base ≡ t_is.plan.base = ap (λ (r : Region). r.base) t_is.region in
      let long : (table_region c its t).len ≡ length t_is.plan.bytes = ap (λ (r : Region). r.len) t_is.region in
      let same : t_is.plan.number ≡ t = (let n = t_is.is.number_is in omega (arith, n)) in
      record {
        domain_is = ap (λ (r : Region). r.domain) t_is.region;
        kind_is = ap (λ (r : Region). r.kind) t_is.region ∙ ap (λ (n : ℕ). kind.Table n) same;
        inside = omega arith;
        ends = omega (arith, place, long, down, all);
        aligned = refl;
        told = refl;
      }

  pub is_home : (regions : List Region) → KeysFrom 1 (map region_numbers regions) → ((r : Region) → Among r (chain_rows c its) → Among r regions) → (p : Space) → has_space c p ≡ true → IsHome (home c its) regions c.number size p
  is_home regions keys rows p h =
      let at = sits p h in
      record {
        found = among_found 1 regions (home c its p).region keys (rows (home c its p).region (row_in p h));
        domain_is = at.domain_is;
        kind_is = at.kind_is;
        inside = at.inside;
        ends = at.ends;
        aligned = at.aligned;
        told = at.told;
      }

  zone_plain : (p : Space) → is_table_space p ≡ false → zone p < 9
  zone_plain (space.Table t) e = absurd (true≢false e)
  zone_plain (space.Cell (Hidden k)) e = omega arith
  zone_plain (space.Cell _) e = omega arith
  zone_plain _ e = omega arith

  -- all spaces but slots and tables lie among the words
  own_word : (entries : ℕ) (p : Space) (i : ℕ) → has_space c p ≡ true → is_table_space p ≡ false → 1 ≤ zone p → i < room_of (home c its) p → is_own entries c (base_of (home c its) p + i) ≡ true
  own_word entries p i h plain some l =
      let at = lies c tables_at size ts stands p h in
      let few = zone_plain p plain in
      let a = at.above in
      let b = at.below in
      let up : low c tables_at size ts stands 1 ≤ low c tables_at size ts stands (zone p) = rises_at (begins c tables_at size ts stands) (they_rise c tables_at size ts stands) 1 (zone p) some (omega (arith, few)) in
      let down : low c tables_at size ts stands (suc (zone p)) ≤ low c tables_at size ts stands 9 = rises_at (begins c tables_at size ts stands) (they_rise c tables_at size ts stands) (suc (zone p)) 9 few (omega arith) in
      third _ _ _ (in_range c.control_base (data_len c) (base_of (home c its) p + i) (omega (arith, a, up)) (omega (arith, b, down, l)))

  pub own_byte : (entries : ℕ) (p : Space) (i : ℕ) → has_space c p ≡ true → is_table_space p ≡ false → i < room_of (home c its) p → is_own entries c (base_of (home c its) p + i) ≡ true
  own_byte entries (space.Slot q) i h plain l =
      let at = sits (space.Slot q) h in
      let high = at.inside in
      first_of _ _ (in_range c.code_base (64 * code_slots c.rings) (base_of (home c its) (space.Slot q) + i) (omega arith) (omega (arith, high, l)))
  own_byte entries (space.Scratch j) i h plain l = own_word entries (space.Scratch j) i h plain (omega arith) l
  own_byte entries space.Key i h plain l = own_word entries space.Key i h plain (omega arith) l
  own_byte entries space.Reply i h plain l = own_word entries space.Reply i h plain (omega arith) l
  own_byte entries (space.Descriptor r) i h plain l = own_word entries (space.Descriptor r) i h plain (omega arith) l
  own_byte entries (space.Cell (Hidden k)) i h plain l = own_word entries (space.Cell (Hidden k)) i h plain (omega arith) l
  own_byte entries (space.Cell (Num n)) i h plain l = own_word entries (space.Cell (Num n)) i h plain (omega arith) l
  own_byte entries (space.Cell (Var j)) i h plain l = own_word entries (space.Cell (Var j)) i h plain (omega arith) l
  own_byte entries (space.Cell (Argument j)) i h plain l = own_word entries (space.Cell (Argument j)) i h plain (omega arith) l
  own_byte entries (space.Table t) i h plain l = absurd (true≢false plain)

  -- a ring lies where its row says
  pub ring_lies : (r : ℕ) → has_ring c r ≡ true → Lying (home c its) (has_space c) r (ring_of (segments_named c r) r c.number (c.code_base + 64 * ring_start c r)).row
  ring_lies r h =
      record {
        at = λ i l. omega arith;
        its = λ i l. (let same : slots_of_ring c r ≡ ring_slots (get_or c.rings (r - c.first) no_ring) = map_at ring_slots c.rings (r - c.first) no_ring 0 (ring_within c tables_at size ts stands r h) in and_from (has_ring c r) (nat_lt i (slots_of_ring c r)) h (lt-ltb i (slots_of_ring c r) (omega (arith, same, l))));
      }
