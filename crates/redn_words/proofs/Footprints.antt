-- What a landing reads and where it writes.
use Rattle.std.proofs.Common.{◌≡◌, ℕ, ◌+◌, ◌≤◌, ◌⊎◌, Bool, true, false, not, cond, ◌||◌, ◌==◌, List, [], ◌∷◌, ◌++◌, length, drop, refl, ap, subst, arith, length-take, inl, inr}
use Rattle.std.specs.Prelude.{nat_lt, nat_le, Result, Ok, Err, Some, None}
use Rattle.std.proofs.lemmas.List.Elements.{All-tail}
use Rattle.std.proofs.lemmas.Bool.{false≢true, true≢false, or_cases, or_left, or_right, and_parts, eqb-true, not-false}
use Rattle.std.proofs.lemmas.Bool.Decides.{nat_tests}
use Rattle.redn_words.specs.declared.types.Region.{Region}
use Rattle.redn_words.specs.declared.types.Request.{Request}
use Rattle.redn_words.specs.declared.types.Origin.{Origin}
use Rattle.redn_words.specs.declared.types.Obs.{Obs}
use Rattle.redn_words.specs.declared.types.Spot.{Spot}
use Rattle.redn_words.specs.declared.types.Need.{Need}
use Rattle.redn_words.specs.declared.types.Refusal.{Refusal}
use Rattle.redn_words.specs.declared.types.Refusal.TheVariants as no
use Rattle.redn_words.specs.declared.types.Opcode.{Opcode}
use Rattle.redn_words.specs.declared.types.Opcode.TheVariants.{Noop, Write, Read, Cas, Add, Send, Wait, Enable, Undefined}
use Rattle.redn_words.specs.Words.{bytes_at, word, spelled}
use Rattle.redn_words.specs.Requests.{opcode_of}
use Rattle.redn_words.specs.Access.{access, access_in, region_of, is_aligned, grants, EndsBy}
use Rattle.redn_words.specs.declared.limits.TheConstants.{MAX_TRANSFER}
use Rattle.redn_words.specs.Ranges.{holds, within, Fits}
use Rattle.redn_words.specs.Landings.{Landing, Change, change, done, refused, lands, landing, local_side, remote_side, two_sides, one_side, swap, sum_of, write_by, read_by, cas_by, add_by, send_by}
use Rattle.redn_words.proofs.Numbers.{length-spelled}
use Rattle.redn_words.specs.Bytes.{covers, hits}
use Rattle.redn_words.specs.Footprints.{place_at, written_by, footprint}

-- memories that agree where the landing reads
abbrev pub SameReads : Landing → List ℕ → List ℕ → Type 0
SameReads l m n = bytes_at m l.reads.at l.reads.len ≡ bytes_at n l.reads.at l.reads.len

module _ (regions : List Region) (o : Origin) (r : Request) where
  -- such a landing on two memories
  two_sides_same : (op : Opcode) (a b : Result Spot Refusal) (go come : Spot → Spot → Landing) (m n : List ℕ) → ((l d : Spot) → SameReads (go l d) m n → go l d ≡ come l d) → SameReads (two_sides regions o op r a b go) m n → two_sides regions o op r a b go ≡ two_sides regions o op r a b come
  two_sides_same op (Err e) b go come m n each same = refl
  two_sides_same op (Ok l) (Err e) go come m n each same = refl
  two_sides_same op (Ok l) (Ok d) go come m n each same = each l d same

  one_side_same : (a : Result Spot Refusal) (go come : Spot → Landing) (m n : List ℕ) → ((l : Spot) → SameReads (go l) m n → go l ≡ come l) → SameReads (one_side o a go) m n → one_side o a go ≡ one_side o a come
  one_side_same (Err e) go come m n each same = refl
  one_side_same (Ok l) go come m n each same = each l same

  lands_same : (m n : List ℕ) (op : Opcode) → SameReads (lands regions o m r op) m n → lands regions o m r op ≡ lands regions o n r op
  unfolding lands
  lands_same m n Write same = two_sides_same Write (local_side regions o.chain Write r) (remote_side regions o.chain Write r) _ _ m n (λ l d e. ap (write_by o r l d) e) same
  lands_same m n Read same = two_sides_same Read (local_side regions o.chain Read r) (remote_side regions o.chain Read r) _ _ m n (λ l d e. ap (read_by o r l d) e) same
  lands_same m n Cas same = two_sides_same Cas (local_side regions o.chain Cas r) (remote_side regions o.chain Cas r) _ _ m n (λ l d e. ap (cas_by o r l d) e) same
  lands_same m n Add same = two_sides_same Add (local_side regions o.chain Add r) (remote_side regions o.chain Add r) _ _ m n (λ l d e. ap (add_by o r l d) e) same
  lands_same m n Send same = one_side_same (local_side regions o.chain Send r) _ _ m n (λ l e. ap (send_by o r l) e) same
  lands_same m n _ same = refl

  -- a landing depends on the request, the regions and the bytes that it reads
  pub landing_same : (m n : List ℕ) → SameReads (landing regions o m r) m n → landing regions o m r ≡ landing regions o n r
  landing_same m n same = lands_same m n (opcode_of r) same

  -- what holds of a refused landing and of each that is done
  by_two_sides : (P : Landing → Type 0) (op : Opcode) (a b : Result Spot Refusal) (go : Spot → Spot → Landing) → ((shown : Obs) → P (refused shown)) → ((l d : Spot) → a ≡ Ok l → b ≡ Ok d → P (go l d)) → P (two_sides regions o op r a b go)
  by_two_sides P op (Err e) b go refuse each = refuse _
  by_two_sides P op (Ok l) (Err e) go refuse each = refuse _
  by_two_sides P op (Ok l) (Ok d) go refuse each = each l d refl refl

  by_one_side : (P : Landing → Type 0) (a : Result Spot Refusal) (go : Spot → Landing) → ((shown : Obs) → P (refused shown)) → ((l : Spot) → a ≡ Ok l → P (go l)) → P (one_side o a go)
  by_one_side P (Err e) go refuse each = refuse _
  by_one_side P (Ok l) go refuse each = each l refl

  abbrev pub local_at : Opcode → Spot → Type 0
  local_at op l = local_side regions o.chain op r ≡ Ok l

  abbrev pub remote_at : Opcode → Spot → Type 0
  remote_at op d = remote_side regions o.chain op r ≡ Ok d

  -- the cases of a landing, by opcode
  pub record Cases (P : Opcode → Landing → Type 0) (memory : List ℕ) : Type 0 where
    pub refuse : (op : Opcode) (shown : Obs) → P op (refused shown)
    pub noop : (shown : Obs) → P Noop (done 0 0 [] shown)
    pub write : (l d : Spot) → local_at Write l → remote_at Write d → P Write (write_by o r l d (bytes_at memory l.at r.length))
    pub read : (l d : Spot) → local_at Read l → remote_at Read d → P Read (read_by o r l d (bytes_at memory d.at r.length))
    pub cas : (l d : Spot) → local_at Cas l → remote_at Cas d → P Cas (cas_by o r l d (bytes_at memory d.at 8))
    pub add : (l d : Spot) → local_at Add l → remote_at Add d → P Add (add_by o r l d (bytes_at memory d.at 8))
    pub send : (l : Spot) → local_at Send l → P Send (send_by o r l (bytes_at memory l.at r.length))

  by_opcode : (P : Opcode → Landing → Type 0) (memory : List ℕ) → Cases P memory → (op : Opcode) → P op (lands regions o memory r op)
  unfolding lands
  by_opcode P memory c Noop = c.noop _
  by_opcode P memory c Write = by_two_sides (P Write) Write _ _ _ (c.refuse Write) c.write
  by_opcode P memory c Read = by_two_sides (P Read) Read _ _ _ (c.refuse Read) c.read
  by_opcode P memory c Cas = by_two_sides (P Cas) Cas _ _ _ (c.refuse Cas) c.cas
  by_opcode P memory c Add = by_two_sides (P Add) Add _ _ _ (c.refuse Add) c.add
  by_opcode P memory c Send = by_one_side (P Send) _ _ (c.refuse Send) c.send
  by_opcode P memory c Wait = c.refuse Wait _
  by_opcode P memory c Enable = c.refuse Enable _
  by_opcode P memory c (Undefined n) = c.refuse (Undefined n) _

  pub by_landing : (P : Opcode → Landing → Type 0) (memory : List ℕ) → Cases P memory → P (opcode_of r) (landing regions o memory r)
  by_landing P memory c = by_opcode P memory c (opcode_of r)

  -- a refused landing writes nothing
  pub refused_writes : (memory : List ℕ) → (landing regions o memory r).allowed ≡ false → (landing regions o memory r).writes ≡ []
  refused_writes memory =
      by_landing (λ op l. l.allowed ≡ false → l.writes ≡ []) memory record {
        refuse = λ op shown e. refl;
        noop = λ shown e. absurd (true≢false e);
        write = λ l d a b e. absurd (true≢false e);
        read = λ l d a b e. absurd (true≢false e);
        cas = λ l d a b e. absurd (true≢false e);
        add = λ l d a b e. absurd (true≢false e);
        send = λ l a e. absurd (true≢false e);
      }

-- an allowed access lies in its region, which is of its domain
pub guard : {A E : Type 0} (b : Bool) (d : E) (x : Result A E) (y : A) → cond b (Err d) x ≡ Ok y → (b ≡ false) × (x ≡ Ok y)
guard true d x y e = absurd (cc)
guard false d x y e = (refl, e)

pub record IsGranted (r : Region) (domain len : ℕ) (s : Spot) : Type 0 where
  pub its : r.domain ≡ domain
  pub low : r.base ≤ s.at
  pub high : s.at + len ≤ r.base + r.len

pub granted : (r : Region) (domain off len : ℕ) (need : Need) (s : Spot) → access_in (Some r) domain off len need ≡ Ok s → IsGranted r domain len s
granted r domain off len need s e =
    let a = guard (not (r.domain == domain)) no.WrongDomain _ s e in
    let b = guard (len == 0 || nat_lt MAX_TRANSFER len) no.Length _ s a.1 in
    let c = guard (nat_lt r.len (off + len)) no.Range _ s b.1 in
    let d = guard (not (is_aligned off need)) no.Unaligned _ s c.1 in
    let f = guard (not (grants r.rights need)) no.Rights _ s d.1 in
    let spot : Spot = record { at = r.base + off; kind = r.kind } in
    let is : spot ≡ s = cc in
    let at : r.base + off ≡ s.at = ap (λ (x : Spot). x.at) is in
    let inside : off + len ≤ r.len = grind (arith, nat_tests) in
    record { its = eqb-true r.domain domain (not-false (r.domain == domain) a.0); low = omega arith; high = omega arith }

found_ends : (size : ℕ) (regions : List Region) (key : ℕ) (r : Region) → EndsBy size regions → region_of regions key ≡ Some r → r.base + r.len ≤ size
found_ends size [] key r h e = absurd (cc)
found_ends size (x ∷ xs) key r h e =
    elim (x.key == key) as (λ b. cond b (Some x) (region_of xs key) ≡ Some r → r.base + r.len ≤ size) [
      | true ↦ λ q. let is : x ≡ r = cc in subst (λ (y : Region). y.base + y.len ≤ size) is (h 0 x (omega arith))
      | false ↦ λ q. found_ends size xs key r (All-tail (λ (y : Region). y.base + y.len ≤ size) x xs h) q
    ] e

pub access_ends : (size : ℕ) (regions : List Region) (domain key off len : ℕ) (need : Need) (s : Spot) → EndsBy size regions → access regions domain key off len need ≡ Ok s → s.at + len ≤ size
unfolding access
access_ends size regions domain key off len need s h e =
    elim (region_of regions key) as (λ o. region_of regions key ≡ o → access_in o domain off len need ≡ Ok s → s.at + len ≤ size) [
      | None ↦ λ f q. absurd (cc)
      | Some r ↦ λ f q. let a = found_ends size regions key r h f in let b = (granted r domain off len need s q).high in omega arith
    ] refl e

module _ (regions : List Region) (o : Origin) (r : Request) (memory : List ℕ) (ends : EndsBy (length memory) regions) where
  ends_at : (key off len : ℕ) (need : Need) (s : Spot) → access regions o.chain key off len need ≡ Ok s → s.at + len ≤ length memory
  ends_at key off len need s e = access_ends (length memory) regions o.chain key off len need s ends e

  short : (at n : ℕ) → length (bytes_at memory at n) ≤ n
  short at n = omega (arith, length-take n (drop at memory))

  word_fits : (at x : ℕ) → at + 8 ≤ length memory → at + length (spelled 8 x) ≤ length memory
  word_fits at x h = omega (arith, h, length-spelled 8 x)

  swap_fits : (d : Spot) (old : ℕ) (rest : List Change) → d.at + 8 ≤ length memory → Fits (length memory) rest → Fits (length memory) (swap r d old rest)
  swap_fits d old rest h f =
      elim (old == r.first) as (λ b. Fits (length memory) (cond b (change d.at (spelled 8 r.second) ∷ rest) rest)) [ true ↦ (word_fits d.at r.second h, f) | false ↦ f ]

  -- a landing writes inside memory
  pub landing_fits : Fits (length memory) (landing regions o memory r).writes
  landing_fits =
      by_landing regions o r (λ op l. Fits (length memory) l.writes) memory record {
        refuse = λ op shown. tt;
        noop = λ shown. tt;
        write = λ l d a b. (let e : d.at + r.length ≤ length memory = ends_at _ _ _ _ d b in let f = short l.at r.length in omega arith, tt);
        read = λ l d a b. (let e : l.at + r.length ≤ length memory = ends_at _ _ _ _ l a in let f = short d.at r.length in omega arith, tt);
        cas = λ l d a b. swap_fits d (word (bytes_at memory d.at 8) 0) _ (ends_at _ _ _ _ d b) (word_fits l.at (word (bytes_at memory d.at 8) 0) (ends_at _ _ _ _ l a), tt);
        add = λ l d a b. (word_fits d.at (sum_of r (word (bytes_at memory d.at 8) 0)) (ends_at _ _ _ _ d b), (word_fits l.at (word (bytes_at memory d.at 8) 0) (ends_at _ _ _ _ l a), tt));
        send = λ l a. tt;
      }

covers_holds : (at len p : ℕ) (bytes : List ℕ) → length bytes ≤ len → covers (change at bytes) p ≡ true → holds (record { at = at; len = len }) p ≡ true
covers_holds at len p bytes short h =
    let parts = and_parts (nat_le at p) (nat_lt p (at + length bytes)) h in
    let low : nat_le at p ≡ true = parts.0 in
    let high : nat_lt p (at + len) ≡ true = let inside = parts.1 in grind (arith, nat_tests) in
    rw (low, high) refl

module _ (regions : List Region) (o : Origin) (r : Request) (memory : List ℕ) (p : ℕ) where
  -- one change, into a side that is there
  one_hit : (a : Result Spot Refusal) (s : Spot) (len : ℕ) (bytes : List ℕ) → a ≡ Ok s → length bytes ≤ len → hits (change s.at bytes ∷ []) p ≡ true → within (place_at a len) p ≡ true
  one_hit a s len bytes is short h =
      rw is (by_case (or_cases (covers (change s.at bytes) p) false h))
    where
      by_case : (covers (change s.at bytes) p ≡ true) ⊎ (false ≡ true) → (holds (record { at = s.at; len = len }) p || false) ≡ true
      by_case (inl hit) = or_left (holds (record { at = s.at; len = len }) p) false (covers_holds s.at len p bytes short hit)
      by_case (inr never) = absurd (false≢true never)

  -- two changes of a word
  two_hits : (a b : Result Spot Refusal) (l d : Spot) (x y : ℕ) → a ≡ Ok l → b ≡ Ok d → hits (change d.at (spelled 8 x) ∷ change l.at (spelled 8 y) ∷ []) p ≡ true → within (place_at b 8 ++ place_at a 8) p ≡ true
  two_hits a b l d x y is_l is_d h =
      rw (is_l, is_d) (by_case (or_cases (covers (change d.at (spelled 8 x)) p) (covers (change l.at (spelled 8 y)) p || false) h))
    where
      word_short : (v : ℕ) → length (spelled 8 v) ≤ 8
      word_short v = omega (arith, length-spelled 8 v)

      by_case : (covers (change d.at (spelled 8 x)) p ≡ true) ⊎ ((covers (change l.at (spelled 8 y)) p || false) ≡ true) → (holds (record { at = d.at; len = 8 }) p || (holds (record { at = l.at; len = 8 }) p || false)) ≡ true
      by_case (inl first) = or_left (holds (record { at = d.at; len = 8 }) p) (holds (record { at = l.at; len = 8 }) p || false) (covers_holds d.at 8 p (spelled 8 x) (word_short x) first)
      by_case (inr second) = or_right (holds (record { at = d.at; len = 8 }) p) (holds (record { at = l.at; len = 8 }) p || false) (one_hit (Ok l) l 8 (spelled 8 y) refl (word_short y) second)

  swap_hits : (d : Spot) (old : ℕ) (rest : List Change) → hits (swap r d old rest) p ≡ true → hits (change d.at (spelled 8 r.second) ∷ rest) p ≡ true
  swap_hits d old rest =
      elim (old == r.first) as (λ b. hits (cond b (change d.at (spelled 8 r.second) ∷ rest) rest) p ≡ true → hits (change d.at (spelled 8 r.second) ∷ rest) p ≡ true) [
        | true ↦ λ h. h
        | false ↦ λ h. or_right (covers (change d.at (spelled 8 r.second)) p) (hits rest p) h
      ]

  -- a landing writes only in the request's footprint
  pub landing_hits : hits (landing regions o memory r).writes p ≡ true → within (footprint regions o.chain r) p ≡ true
  landing_hits =
      by_landing regions o r (λ op l. hits l.writes p ≡ true → within (written_by regions o.chain r op) p ≡ true) memory record {
        refuse = λ op shown h. absurd (false≢true h);
        noop = λ shown h. absurd (false≢true h);
        write = λ l d a b h. one_hit (remote_side regions o.chain Write r) d r.length (bytes_at memory l.at r.length) b (short l.at) h;
        read = λ l d a b h. one_hit (local_side regions o.chain Read r) l r.length (bytes_at memory d.at r.length) a (short d.at) h;
        cas = λ l d a b h.
            let old : ℕ = word (bytes_at memory d.at 8) 0 in
            two_hits (local_side regions o.chain Cas r) (remote_side regions o.chain Cas r) l d r.second old a b (swap_hits d old (change l.at (spelled 8 old) ∷ []) h);
        add = λ l d a b h.
            let old : ℕ = word (bytes_at memory d.at 8) 0 in
            two_hits (local_side regions o.chain Add r) (remote_side regions o.chain Add r) l d (sum_of r old) old a b h;
        send = λ l a h. absurd (false≢true h);
      }
    where
      short : (at : ℕ) → length (bytes_at memory at r.length) ≤ r.length
      short at = omega (arith, length-take r.length (drop at memory))
