-- The two sides of a draft, and the places of allowed accesses.
use Rattle.std.proofs.Common.{◌≡◌, ℕ, ◌+◌, ◌-◌, ◌*◌, ◌<◌, ◌≤◌, ◌⊎◌, inl, inr, Bool, true, false, not, ◌||◌, ◌==◌, refl, sym, ap, ◌∙◌, arith}
use Rattle.std.specs.Prelude.{List, nat_lt, nat_le, Option, Some, Ok}
use Rattle.std.proofs.lemmas.Bool.{false≢true, and_parts, leb-true}
use Rattle.std.proofs.lemmas.Bool.Decides.{nat_tests}
use Rattle.redn_words.specs.declared.types.Region.{Region}
use Rattle.redn_words.specs.declared.types.Need.{Need}
use Rattle.redn_words.specs.declared.types.Spot.{Spot}
use Rattle.redn_words.specs.declared.types.Opcode.{Opcode}
use Rattle.redn_words.specs.declared.types.Opcode.TheVariants.{Noop, Write, Read, Cas, Add, Send}
use Rattle.redn_words.specs.Access.{access, access_in, region_of, is_aligned, grants}
use Rattle.redn_words.specs.declared.types.Refusal.TheVariants as no
use Rattle.redn_segment.specs.declared.types.Site.{Site}
use Rattle.redn_segment.specs.declared.types.Site.TheVariants as site
use Rattle.redn_segment.specs.declared.types.Side.{Side}
use Rattle.redn_segment.specs.declared.types.Space.{Space}
use Rattle.redn_segment.specs.declared.types.Draft.{Draft}
use Rattle.redn_segment.specs.Sites.{space_of, start_of, is_table, inside}
use Rattle.redn_segment.specs.Footprints.{local_by, remote_by, holds_of, both_sides}
use Rattle.redn_segment.specs.Homes.{Home, room_of}
use Rattle.redn_segment.specs.Orders.{Follows}
use Rattle.redn_words.proofs.Footprints.{guard}

abbrev spot_in : Region → ℕ → Spot
spot_in g off = record { at = g.base + off; kind = g.kind }

pub access_spot : (regions : List Region) (domain key off len : ℕ) (need : Need) (g : Region) (s : Spot) → region_of regions key ≡ Some g → access regions domain key off len need ≡ Ok s → (s.at ≡ g.base + off) × (off + len ≤ g.len)
unfolding access
access_spot regions domain key off len need g s found e =
    let allowed : access_in (Some g) domain off len need ≡ Ok s = ap (λ (o : Option Region). access_in o domain off len need) (sym found) ∙ e in
    let a = guard (not (g.domain == domain)) no.WrongDomain _ s allowed in
    let b = guard (len == 0 || nat_lt 1048576 len) no.Length _ s a.1 in
    let c = guard (nat_lt g.len (off + len)) no.Range _ s b.1 in
    let d = guard (not (is_aligned off need)) no.Unaligned _ s c.1 in
    let f = guard (not (grants g.rights need)) no.Rights _ s d.1 in
    let is : spot_in g off ≡ s = cc in
    let low : off + len ≤ g.len = let past = c.0 in grind (arith, nat_tests) in
    (sym (ap (λ (x : Spot). x.at) is), low)

module _ (home : Space → Home) where
  -- a side inside its site lies in its space
  pub inside_space : (s : Site) (byte len : ℕ) → is_table s ≡ false → 0 < len → inside s byte len ≡ true → (start_of s + byte) + len ≤ room_of home (space_of s)
  inside_space (site.ReplyWord i) byte len t l h = let parts = and_parts (nat_le (byte + len) (64 - 8 * i)) true h in let e = leb-true (byte + len) (64 - 8 * i) parts.0 in omega arith
  inside_space (site.Descriptor r) byte len t l h = let parts = and_parts (nat_le (byte + len) 16) true h in let e = leb-true (byte + len) 16 parts.0 in omega arith
  inside_space (site.Field f) byte len t l h =
      let parts = and_parts (nat_le (byte + len) f.len) (nat_le (f.byte + f.len) 64) h in
      let e = leb-true (byte + len) f.len parts.0 in
      let k = leb-true (f.byte + f.len) 64 parts.1 in
      omega arith
  inside_space (site.Table n o) byte len t l h = absurd (false≢true (sym t))
  inside_space _ byte len t l h = let parts = and_parts (nat_le (byte + len) 8) true h in let e = leb-true (byte + len) 8 parts.0 in omega arith

abbrev pub side_at : Site → ℕ → ℕ → Bool → Side
side_at x byte len w = record { site = x; byte = byte; len = len; writes = w }

-- a side of a draft has so many bytes at least, and is written where asked
pub record LocalSide (d : Draft) (n : ℕ) (w : Bool) : Type 0 where
  pub len : ℕ
  pub written : Bool
  pub is : local_by d d.op ≡ Some (side_at d.local d.local_byte len written)
  pub long : n ≤ len
  pub writes : w ≡ true → written ≡ true

pub record RemoteSide (d : Draft) (n : ℕ) (w : Bool) : Type 0 where
  pub len : ℕ
  pub written : Bool
  pub is : remote_by d d.op ≡ Some (side_at d.remote d.remote_byte len written)
  pub long : n ≤ len
  pub writes : w ≡ true → written ≡ true

module _ (d : Draft) where
  local_as : (op : Opcode) (len n : ℕ) (w v : Bool) → local_by d op ≡ Some (side_at d.local d.local_byte len v) → op ≡ d.op → n ≤ len → (w ≡ true → v ≡ true) → LocalSide d n w
  local_as op len n w v e f l h = record { len = len; written = v; is = ap (local_by d) (sym f) ∙ e; long = l; writes = h }

  remote_as : (op : Opcode) (len n : ℕ) (w v : Bool) → remote_by d op ≡ Some (side_at d.remote d.remote_byte len v) → op ≡ d.op → n ≤ len → (w ≡ true → v ≡ true) → RemoteSide d n w
  remote_as op len n w v e f l h = record { len = len; written = v; is = ap (remote_by d) (sym f) ∙ e; long = l; writes = h }

  local_turned : (n : ℕ) (w : Bool) → d.op ≡ Noop → n ≤ d.length → LocalSide d n w
  local_turned n w e l = local_as Noop d.length n w true refl (sym e) l (λ h. refl)

  remote_turned : (n : ℕ) (w : Bool) → d.op ≡ Noop → n ≤ d.length → RemoteSide d n w
  remote_turned n w e l = remote_as Noop d.length n w true refl (sym e) l (λ h. refl)

  pub write_local : Follows d Write → LocalSide d d.length false
  write_local (inl e) = local_as Write d.length d.length false false refl e (omega arith) (λ h. h)
  write_local (inr e) = local_turned d.length false e.0 (omega arith)

  pub write_remote : Follows d Write → RemoteSide d d.length true
  write_remote (inl e) = remote_as Write d.length d.length true true refl e (omega arith) (λ h. h)
  write_remote (inr e) = remote_turned d.length true e.0 (omega arith)

  pub read_local : Follows d Read → LocalSide d d.length true
  read_local (inl e) = local_as Read d.length d.length true true refl e (omega arith) (λ h. h)
  read_local (inr e) = local_turned d.length true e.0 (omega arith)

  pub read_remote : Follows d Read → RemoteSide d d.length false
  read_remote (inl e) = remote_as Read d.length d.length false false refl e (omega arith) (λ h. h)
  read_remote (inr e) = remote_turned d.length false e.0 (omega arith)

  pub cas_local : Follows d Cas → LocalSide d 8 true
  cas_local (inl e) = local_as Cas 8 8 true true refl e (omega arith) (λ h. h)
  cas_local (inr e) = local_turned 8 true e.0 e.1

  pub cas_remote : Follows d Cas → RemoteSide d 8 true
  cas_remote (inl e) = remote_as Cas 8 8 true true refl e (omega arith) (λ h. h)
  cas_remote (inr e) = remote_turned 8 true e.0 e.1

  pub add_local : Follows d Add → LocalSide d 8 true
  add_local (inl e) = local_as Add 8 8 true true refl e (omega arith) (λ h. h)
  add_local (inr e) = local_turned 8 true e.0 e.1

  pub add_remote : Follows d Add → RemoteSide d 8 true
  add_remote (inl e) = remote_as Add 8 8 true true refl e (omega arith) (λ h. h)
  add_remote (inr e) = remote_turned 8 true e.0 e.1

  pub send_local : Follows d Send → LocalSide d d.length false
  send_local (inl e) = local_as Send d.length d.length false false refl e (omega arith) (λ h. h)
  send_local (inr e) = local_turned d.length false e.0 (omega arith)

  abbrev pub IsSide : Side → Type 0
  IsSide a = (local_by d d.op ≡ Some a) ⊎ (remote_by d d.op ≡ Some a)

  -- a test of both sides
  pub side_test : (test : Side → Bool) (a : Side) → both_sides test d ≡ true → IsSide a → test a ≡ true
  side_test test a e (inl is) = let parts = and_parts (holds_of test (local_by d d.op)) (holds_of test (remote_by d d.op)) e in ap (holds_of test) (sym is) ∙ parts.0
  side_test test a e (inr is) = let parts = and_parts (holds_of test (local_by d d.op)) (holds_of test (remote_by d d.op)) e in ap (holds_of test) (sym is) ∙ parts.1
