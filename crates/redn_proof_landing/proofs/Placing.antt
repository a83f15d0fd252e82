-- A placed draft lands as its plain step says: one lemma for each opcode.
use Rattle.std.proofs.Common.{◌≡◌, ℕ, ◌+◌, ◌%◌, ◌^◌, ◌<◌, ◌≤◌, true, false, not, cond, ◌&&◌, ◌||◌, ◌==◌, List, [], ◌∷◌, ◌++◌, map, length, refl, sym, ap, ◌∙◌, subst, arith}
use Rattle.std.specs.Prelude.{nat_le, Result, Ok, Err, Some}
use Rattle.std.proofs.lemmas.Bool.{false≢true, true≢false, and_parts, leb-true, eqb-true, eq-eqb}
use Rattle.std.proofs.lemmas.Bool.Decides.{nat_tests}
use Rattle.redn_words.specs.declared.types.Region.{Region}
use Rattle.redn_words.specs.declared.types.Request.{Request}
use Rattle.redn_words.specs.declared.types.Kind.TheVariants as kind
use Rattle.redn_words.specs.declared.types.Need.{Need}
use Rattle.redn_words.specs.declared.types.Need.TheVariants.{Atomic}
use Rattle.redn_words.specs.declared.types.Spot.{Spot}
use Rattle.redn_words.specs.declared.types.Refusal.{Refusal}
use Rattle.redn_words.specs.declared.types.Refusal.TheVariants as no
use Rattle.redn_words.specs.declared.types.Origin.{Origin}
use Rattle.redn_words.specs.declared.types.Obs.{Obs}
use Rattle.redn_words.specs.declared.types.Obs.TheVariants as shows
use Rattle.redn_words.specs.declared.types.Opcode.{Opcode}
use Rattle.redn_words.specs.declared.types.Opcode.TheVariants.{Noop, Write, Read, Cas, Add, Send}
use Rattle.redn_proof_landing.proofs.Sided.{access_goes, access_ends, length_is, length-seen, seen_reads}
use Rattle.redn_proof_landing.proofs.Telling.{Tells, same_offset, write_tells, read_tells, add_tells, send_tells, cas_tells, lands_told, same_place}
use Rattle.redn_proof_landing.specs.Homes.{HasTarget, Granted, LandsAs, seen_in, reads_by, change_of, told_by}
use Rattle.redn_segment.proofs.Kept.{not_true}
use Rattle.redn_segment.proofs.Sides.{inside_space}
use Rattle.redn_segment.specs.Homes.{Home, IsHome, IsTold, HasLocal, base_of, room_of}
use Rattle.redn_segment.specs.Plain.{Bytes, Faults, Bad, with_event, local_space, remote_space, local_at, remote_at, remote_in, local_bytes, remote_bytes, first_in, second_in, request_of, origin, is_length, fits, reaches, past_table, is_atomic, to_local, to_remote, swap, acts}
use Rattle.redn_segment.specs.Sites.{space_of, start_of, is_table, inside, kind_of, offset_of}
use Rattle.redn_words.specs.Access.{access, is_aligned, grants, region_of}
use Rattle.redn_words.specs.Landings.{Place, change, Landing, lands, two_sides, one_side, local_side, remote_side, local_need, remote_need, write_by, read_by, cas_by, add_by, send_by, sum_of, is_move, refused, remote_refused, write_shows, read_shows, cas_shows, add_shows, send_shows, swap as real_swap}
use Rattle.redn_words.specs.Words.{bytes_at, word, spelled}
use Rattle.redn_kernel.specs.declared.types.Cell.TheVariants.{Var, Hidden, Argument, Num}
use Rattle.redn_segment.specs.declared.types.Site.{Site}
use Rattle.redn_segment.specs.declared.types.Site.TheVariants as site
use Rattle.redn_segment.specs.declared.types.Space.{Space}
use Rattle.redn_segment.specs.declared.types.Space.TheVariants as space
use Rattle.redn_segment.specs.declared.types.Draft.{Draft}

two_go : (regions : List Region) (o : Origin) (op : Opcode) (r : Request) (a b : Result Spot Refusal) (l d : Spot) (go : Spot → Spot → Landing) → a ≡ Ok l → b ≡ Ok d → two_sides regions o op r a b go ≡ go l d
two_go regions o op r a b l d go e f = rw (e, f) refl

two_past : (regions : List Region) (o : Origin) (op : Opcode) (r : Request) (a b : Result Spot Refusal) (l : Spot) (e : Refusal) (go : Spot → Spot → Landing) → a ≡ Ok l → b ≡ Err e → two_sides regions o op r a b go ≡ refused (remote_refused regions o op r e)
two_past regions o op r a b l e go f g = rw (f, g) refl

one_goes : (o : Origin) (a : Result Spot Refusal) (l : Spot) (go : Spot → Landing) → a ≡ Ok l → one_side o a go ≡ go l
one_goes o a l go e = rw e refl

table_there : (x : Site) → is_table x ≡ true → (t : ℕ) × (space_of x ≡ space.Table t)
table_there (site.Table t n) e = (t, refl)
table_there _ e = absurd (false≢true e)

-- for kinds with told offsets an event tells the real one
told_offset : (p : Space) (offset at real : ℕ) → IsTold p offset → real ≡ offset + at → same_offset (kind_of p) (offset_of p at) real
told_offset (space.Cell (Var i)) offset at real t e = omega arith
told_offset (space.Cell (Hidden i)) offset at real t e = tt
told_offset (space.Cell (Argument i)) offset at real t e = tt
told_offset (space.Cell (Num n)) offset at real t e = tt
told_offset space.Reply offset at real t e = tt
told_offset space.Key offset at real t e = tt
told_offset (space.Scratch i) offset at real t e = tt
told_offset (space.Descriptor i) offset at real t e = tt
told_offset (space.Slot q) offset at real t e = tt
told_offset (space.Table t) offset at real told e = omega arith

module _ (home : Space → Home) (regions : List Region) (o : Origin) (m : List ℕ) (d : Draft) (slot : List ℕ) (r : Request) (from : HasLocal home r d) (local_home : IsHome home regions o.chain (length m) (local_space d)) where
  abbrev s : Bytes
  s = seen_in home m

  abbrev local_spot : Spot
  local_spot = record { at = (home (local_space d)).region.base + r.local; kind = (home (local_space d)).region.kind }

  local_place : local_spot.at ≡ base_of home (local_space d) + local_at d
  local_place = let e = from.offset in omega arith

  local_inside : (len : ℕ) → 0 < len → is_table d.local ≡ false → inside d.local d.local_byte len ≡ true → local_at d + len ≤ room_of home (local_space d)
  local_inside len l t i = inside_space home d.local d.local_byte len t l i

  local_goes : (len : ℕ) (need : Need) → is_length len ≡ true → is_aligned r.local need ≡ true → grants (home (local_space d)).region.rights need ≡ true → local_at d + len ≤ room_of home (local_space d) → access regions o.chain r.lkey r.local len need ≡ Ok local_spot
  local_goes len need good aligned granted inside =
      let e = from.offset in
      let whole = local_home.inside in
      access_goes regions o.chain r.lkey (home (local_space d)).region r.local len need (ap (region_of regions) from.key ∙ local_home.found) local_home.domain_is good (omega arith) aligned granted

  local_read : (len : ℕ) → local_at d + len ≤ room_of home (local_space d) → bytes_at m local_spot.at len ≡ local_bytes s d len
  local_read len l = ap (λ (a : ℕ). bytes_at m a len) local_place ∙ sym (seen_reads home regions o.chain m (local_space d) local_home (local_at d) len l)

  module _ (to : HasTarget home r d slot) (remote_home : IsHome home regions o.chain (length m) (remote_space d)) where
    abbrev remote_spot : Spot
    remote_spot = record { at = (home (remote_space d)).region.base + r.remote; kind = (home (remote_space d)).region.kind }

    remote_place : remote_spot.at ≡ base_of home (remote_space d) + remote_at slot d
    remote_place = let e = to.offset in omega arith

    remote_goes : (len : ℕ) (need : Need) → is_length len ≡ true → is_aligned r.remote need ≡ true → grants (home (remote_space d)).region.rights need ≡ true → remote_at slot d + len ≤ room_of home (remote_space d) → access regions o.chain r.rkey r.remote len need ≡ Ok remote_spot
    remote_goes len need good aligned granted inside =
        let e = to.offset in
        let whole = remote_home.inside in
        access_goes regions o.chain r.rkey (home (remote_space d)).region r.remote len need (ap (region_of regions) to.key ∙ remote_home.found) remote_home.domain_is good (omega arith) aligned granted

    remote_read : (len : ℕ) → remote_at slot d + len ≤ room_of home (remote_space d) → bytes_at m remote_spot.at len ≡ remote_bytes s slot d len
    remote_read len l = ap (λ (a : ℕ). bytes_at m a len) remote_place ∙ sym (seen_reads home regions o.chain m (remote_space d) remote_home (remote_at slot d) len l)

    local_told : same_offset (kind_of (local_space d)) (request_of slot d).local r.local
    local_told = told_offset (local_space d) (home (local_space d)).offset (local_at d) r.local local_home.told from.offset

    remote_told : same_offset (kind_of (remote_space d)) (request_of slot d).remote r.remote
    remote_told = told_offset (remote_space d) (home (remote_space d)).offset (remote_at slot d) r.remote remote_home.told to.offset

    -- the remote side, where the drafts fits and reaches
    remote_inside : (len : ℕ) → 0 < len → (is_table d.remote || inside d.remote d.remote_byte len) ≡ true → reaches s slot d len ≡ true → remote_at slot d + len ≤ room_of home (remote_space d)
    remote_inside len l fine reach =
        elim (is_table d.remote) as (λ b. is_table d.remote ≡ b → (b || inside d.remote d.remote_byte len) ≡ true → cond b (nat_le (cond b (remote_in slot) (start_of d.remote + d.remote_byte) + len) (length (s (remote_space d)))) true ≡ true → cond b (remote_in slot) (start_of d.remote + d.remote_byte) + len ≤ room_of home (remote_space d)) [
          | true ↦ λ t f q. let long = length-seen home regions o.chain m (remote_space d) remote_home in let h = leb-true (remote_in slot + len) (length (s (remote_space d))) q in omega arith
          | false ↦ λ t f q. inside_space home d.remote d.remote_byte len t l f
        ] refl fine reach

    -- what fits says
    record Fitting (len : ℕ) : Type 0 where
      good : is_length len ≡ true
      near : local_at d + len ≤ room_of home (local_space d)
      far : (is_table d.remote || inside d.remote d.remote_byte len) ≡ true

    fitting : (len : ℕ) → fits d len ≡ true → Fitting len
    fitting len f =
        let a = and_parts (is_length len) (not (is_table d.local) && (inside d.local d.local_byte len && (is_table d.remote || inside d.remote d.remote_byte len))) f in
        let b = and_parts (not (is_table d.local)) (inside d.local d.local_byte len && (is_table d.remote || inside d.remote d.remote_byte len)) a.1 in
        let c = and_parts (inside d.local d.local_byte len) (is_table d.remote || inside d.remote d.remote_byte len) b.1 in
        record { good = a.0; near = local_inside len (length_is len a.0).0 (not_true (is_table d.local) b.0) c.0; far = c.1 }

    reached : (len : ℕ) → Fitting len → reaches s slot d len ≡ true → remote_at slot d + len ≤ room_of home (remote_space d)
    reached len f q = remote_inside len (length_is len f.good).0 f.far q

    -- a remote side that doesn't reach ends past its table
    record Past (len : ℕ) : Type 0 where
      table : ℕ
      is : remote_space d ≡ space.Table table
      far : room_of home (remote_space d) < remote_at slot d + len

    past : (len : ℕ) → reaches s slot d len ≡ false → Past len
    past len q =
        elim (is_table d.remote) as (λ b. is_table d.remote ≡ b → cond b (nat_le (cond b (remote_in slot) (start_of d.remote + d.remote_byte) + len) (length (s (remote_space d)))) true ≡ false → (room_of home (remote_space d) < cond b (remote_in slot) (start_of d.remote + d.remote_byte) + len) → Past len) [
          | true ↦ λ t f l. let there = table_there d.remote t in record { table = there.0; is = there.1; far = rw t l }
          | false ↦ λ t f l. absurd (true≢false f)
        ] refl q (far_past q)
      where
        far_past : reaches s slot d len ≡ false → room_of home (remote_space d) < remote_at slot d + len
        far_past f =
            elim (is_table d.remote) as (λ b. cond b (nat_le (cond b (remote_in slot) (start_of d.remote + d.remote_byte) + len) (length (s (remote_space d)))) true ≡ false → room_of home (remote_space d) < cond b (remote_in slot) (start_of d.remote + d.remote_byte) + len) [
              | true ↦ λ g. let long = length-seen home regions o.chain m (remote_space d) remote_home in let h : length (s (remote_space d)) < remote_in slot + len = grind (arith, nat_tests) in omega arith
              | false ↦ λ g. absurd (true≢false g)
            ] f

    past_access : (len : ℕ) (need : Need) → is_length len ≡ true → Past len → access regions o.chain r.rkey r.remote len need ≡ Err no.Range
    past_access len need good p =
        let e = to.offset in
        let whole = remote_home.inside in
        let far = p.far in
        access_ends regions o.chain r.rkey (home (remote_space d)).region r.remote len need (ap (region_of regions) to.key ∙ remote_home.found) remote_home.domain_is good table_ends
      where
        at_start : (q : Space) (t n : ℕ) → q ≡ space.Table t → IsTold q n → n ≡ 0
        at_start q t n e told = subst (λ (x : Space). IsTold x n → n ≡ 0) (sym e) (λ h. h) told

        fills : (q : Space) (t : ℕ) → q ≡ space.Table t → room_of home q ≡ (home q).region.len
        fills q t e = subst (λ (x : Space). room_of home x ≡ (home x).region.len) (sym e) refl

        table_ends : (home (remote_space d)).region.len < r.remote + len
        table_ends =
            let e = to.offset in
            let far = p.far in
            let full = fills (remote_space d) p.table p.is in
            omega arith

    -- then it shows a fault
    past_shows : (op : Opcode) (p : Past r.length) → is_move op ≡ true → (d.length == 8) ≡ true → remote_refused regions o op r no.Range ≡ shows.Fault o.chain p.table (remote_at slot d)
    past_shows op p move eight =
        let len : (r.length == 8) ≡ true = ap (λ (n : ℕ). n == 8) from.len ∙ eight in
        let region : region_of regions r.rkey ≡ Some (home (remote_space d)).region = ap (region_of regions) to.key ∙ remote_home.found in
        let kinds : (home (remote_space d)).region.kind ≡ kind.Table p.table = remote_home.kind_is ∙ ap kind_of p.is in
        let offset : r.remote ≡ remote_at slot d = let e = to.offset in omega (arith, start) in
        rw (move, len, region, kinds, offset) refl
      where
        start : (home (remote_space d)).offset ≡ 0
        start = subst (λ (x : Space). IsTold x (home (remote_space d)).offset → (home (remote_space d)).offset ≡ 0) (sym p.is) (λ h. h) remote_home.told

    past_lands : (op : Opcode) (reads : Place) (p : Past r.length) → is_move op ≡ true → LandsAs home reads (past_table o.chain slot d (remote_space d)) (refused (remote_refused regions o op r no.Range))
    past_lands op reads p move =
        subst (λ (x : Space). LandsAs home reads (past_table o.chain slot d x) (refused (remote_refused regions o op r no.Range))) (sym p.is) (elim (d.length == 8) as (λ b. (d.length == 8) ≡ b → LandsAs home reads (cond b (Faults [] (shows.Fault o.chain p.table (remote_at slot d) ∷ [])) Bad) (refused (remote_refused regions o op r no.Range))) [
          | true ↦ λ t. record { allowed = refl; none = refl; shown_is = ap (told_by home) (past_shows op p move t) }
          | false ↦ λ t. tt
        ] refl)

    past_same : Past d.length → Past r.length
    past_same p = subst (λ (n : ℕ). Past n) (sym from.len) p

    -- WRITE
    abbrev moved : List ℕ
    moved = local_bytes s d d.length

    write_goes : Granted home Write d → Fitting d.length → reaches s slot d d.length ≡ true → lands regions o m r Write ≡ write_by o r local_spot remote_spot moved
    unfolding lands
    write_goes may f q =
        let len : r.length ≡ d.length = from.len in
        let good : is_length r.length ≡ true = ap is_length len ∙ f.good in
        let near : local_at d + r.length ≤ room_of home (local_space d) = let n = f.near in omega arith in
        let far : remote_at slot d + r.length ≤ room_of home (remote_space d) = let n = reached d.length f q in omega arith in
        two_go regions o Write r (local_side regions o.chain Write r) (remote_side regions o.chain Write r) local_spot remote_spot (λ l e. write_by o r l e (bytes_at m l.at r.length)) (local_goes r.length (local_need Write) good refl may.local near) (remote_goes r.length (remote_need Write) good refl (may.remote refl) far) ∙ ap (write_by o r local_spot remote_spot) (local_read r.length near ∙ ap (local_bytes s d) len)

    write_past : Granted home Write d → Fitting d.length → Past d.length → lands regions o m r Write ≡ refused (remote_refused regions o Write r no.Range)
    unfolding lands
    write_past may f p =
        let len : r.length ≡ d.length = from.len in
        let good : is_length r.length ≡ true = ap is_length len ∙ f.good in
        let near : local_at d + r.length ≤ room_of home (local_space d) = let n = f.near in omega arith in
        two_past regions o Write r (local_side regions o.chain Write r) (remote_side regions o.chain Write r) local_spot no.Range (λ l e. write_by o r l e (bytes_at m l.at r.length)) (local_goes r.length (local_need Write) good refl may.local near) (past_access r.length (remote_need Write) good (past_same p))

    abbrev write_event : Obs
    write_event = write_shows (origin o.chain) (request_of slot d) (word moved 0) (kind_of (local_space d)) (kind_of (remote_space d))

    write_told : LandsAs home (reads_by home d slot Write) (with_event (to_remote slot d moved ∷ []) write_event) (write_by o r local_spot remote_spot moved)
    write_told =
        let tells : Tells write_event (write_shows o r (word moved 0) local_spot.kind remote_spot.kind) = rw (local_home.kind_is, remote_home.kind_is) (write_tells (origin o.chain) o refl (request_of slot d) r (sym from.len) (word moved 0) (kind_of (local_space d)) (kind_of (remote_space d)) remote_told) in
        lands_told home (to_remote slot d moved ∷ []) (write_shows o r (word moved 0) local_spot.kind remote_spot.kind) local_spot.at r.length (reads_by home d slot Write) (change remote_spot.at moved ∷ []) (same_place _ _ _ _ local_place from.len) (ap (λ (a : ℕ). change a moved ∷ []) remote_place) write_event tells

    pub lands_write : Granted home Write d → LandsAs home (reads_by home d slot Write) (acts o.chain s slot d Write) (lands regions o m r Write)
    unfolding acts
    lands_write may =
        elim (fits d d.length) as (λ b. fits d d.length ≡ b → LandsAs home (reads_by home d slot Write) (cond (not b) Bad (cond (not (reaches s slot d d.length)) (past_table o.chain slot d (remote_space d)) (with_event (to_remote slot d moved ∷ []) write_event))) (lands regions o m r Write)) [
          | true ↦ λ t.
              elim (reaches s slot d d.length) as (λ b. reaches s slot d d.length ≡ b → LandsAs home (reads_by home d slot Write) (cond (not b) (past_table o.chain slot d (remote_space d)) (with_event (to_remote slot d moved ∷ []) write_event)) (lands regions o m r Write)) [
                | true ↦ λ q. rw (write_goes may (fitting d.length t) q) write_told
                | false ↦ λ q. rw (write_past may (fitting d.length t) (past d.length q)) (past_lands Write (reads_by home d slot Write) (past_same (past d.length q)) refl)
              ] refl
          | false ↦ λ t. tt
        ] refl

    -- READ
    abbrev found : List ℕ
    found = remote_bytes s slot d d.length

    read_goes : Granted home Read d → Fitting d.length → reaches s slot d d.length ≡ true → lands regions o m r Read ≡ read_by o r local_spot remote_spot found
    unfolding lands
    read_goes may f q =
        let len : r.length ≡ d.length = from.len in
        let good : is_length r.length ≡ true = ap is_length len ∙ f.good in
        let near : local_at d + r.length ≤ room_of home (local_space d) = let n = f.near in omega arith in
        let far : remote_at slot d + r.length ≤ room_of home (remote_space d) = let n = reached d.length f q in omega arith in
        two_go regions o Read r (local_side regions o.chain Read r) (remote_side regions o.chain Read r) local_spot remote_spot (λ l e. read_by o r l e (bytes_at m e.at r.length)) (local_goes r.length (local_need Read) good refl may.local near) (remote_goes r.length (remote_need Read) good refl (may.remote refl) far) ∙ ap (read_by o r local_spot remote_spot) (remote_read r.length far ∙ ap (remote_bytes s slot d) len)

    read_past : Granted home Read d → Fitting d.length → Past d.length → lands regions o m r Read ≡ refused (remote_refused regions o Read r no.Range)
    unfolding lands
    read_past may f p =
        let len : r.length ≡ d.length = from.len in
        let good : is_length r.length ≡ true = ap is_length len ∙ f.good in
        let near : local_at d + r.length ≤ room_of home (local_space d) = let n = f.near in omega arith in
        two_past regions o Read r (local_side regions o.chain Read r) (remote_side regions o.chain Read r) local_spot no.Range (λ l e. read_by o r l e (bytes_at m e.at r.length)) (local_goes r.length (local_need Read) good refl may.local near) (past_access r.length (remote_need Read) good (past_same p))

    abbrev read_event : Obs
    read_event = read_shows (origin o.chain) (request_of slot d) (word found 0) (kind_of (local_space d)) (kind_of (remote_space d))

    read_told : LandsAs home (reads_by home d slot Read) (with_event (to_local d found ∷ []) read_event) (read_by o r local_spot remote_spot found)
    read_told =
        let tells : Tells read_event (read_shows o r (word found 0) local_spot.kind remote_spot.kind) = rw (local_home.kind_is, remote_home.kind_is) (read_tells (origin o.chain) o refl (request_of slot d) r (sym from.len) (word found 0) (kind_of (local_space d)) (kind_of (remote_space d)) local_told remote_told) in
        lands_told home (to_local d found ∷ []) (read_shows o r (word found 0) local_spot.kind remote_spot.kind) remote_spot.at r.length (reads_by home d slot Read) (change local_spot.at found ∷ []) (same_place _ _ _ _ remote_place from.len) (ap (λ (a : ℕ). change a found ∷ []) local_place) read_event tells

    pub lands_read : Granted home Read d → LandsAs home (reads_by home d slot Read) (acts o.chain s slot d Read) (lands regions o m r Read)
    unfolding acts
    lands_read may =
        elim (fits d d.length) as (λ b. fits d d.length ≡ b → LandsAs home (reads_by home d slot Read) (cond (not b) Bad (cond (not (reaches s slot d d.length)) (past_table o.chain slot d (remote_space d)) (with_event (to_local d found ∷ []) read_event))) (lands regions o m r Read)) [
          | true ↦ λ t.
              elim (reaches s slot d d.length) as (λ b. reaches s slot d d.length ≡ b → LandsAs home (reads_by home d slot Read) (cond (not b) (past_table o.chain slot d (remote_space d)) (with_event (to_local d found ∷ []) read_event)) (lands regions o m r Read)) [
                | true ↦ λ q. rw (read_goes may (fitting d.length t) q) read_told
                | false ↦ λ q. rw (read_past may (fitting d.length t) (past d.length q)) (past_lands Read (reads_by home d slot Read) (past_same (past d.length q)) refl)
              ] refl
          | false ↦ λ t. tt
        ] refl

    -- CAS and ADD: an aligned word of a space that is no table
    record IsWord : Type 0 where
      fine : Fitting 8
      near : is_aligned r.remote Atomic ≡ true
      far : remote_at slot d + 8 ≤ room_of home (remote_space d)

    word_there : fits d 8 && is_atomic d ≡ true → IsWord
    word_there e =
        let parts = and_parts (fits d 8) (is_atomic d) e in
        let atomic = and_parts (not (is_table d.remote)) ((start_of d.remote + d.remote_byte) % 8 == 0) parts.1 in
        let plain : is_table d.remote ≡ false = not_true (is_table d.remote) atomic.0 in
        let at : remote_at slot d ≡ start_of d.remote + d.remote_byte = rw plain refl in
        let even : (start_of d.remote + d.remote_byte) % 8 ≡ 0 = eqb-true ((start_of d.remote + d.remote_byte) % 8) 0 atomic.1 in
        let home_even = remote_home.aligned in
        let offset = to.offset in
        let fine = fitting 8 parts.0 in
        record {
          fine = fine;
          near = eq-eqb (r.remote % 8) 0 (omega (arith, offset, at, even, home_even));
          far = reached 8 fine (rw plain refl);
        }

    abbrev old_bytes : List ℕ
    old_bytes = remote_bytes s slot d 8

    abbrev old : ℕ
    old = word old_bytes 0

    cas_goes : Granted home Cas d → IsWord → lands regions o m r Cas ≡ cas_by o r local_spot remote_spot old_bytes
    unfolding lands
    cas_goes may w =
        let fine = w.fine in
        two_go regions o Cas r (local_side regions o.chain Cas r) (remote_side regions o.chain Cas r) local_spot remote_spot (λ l e. cas_by o r l e (bytes_at m e.at 8)) (local_goes 8 (local_need Cas) refl refl may.local fine.near) (remote_goes 8 (remote_need Cas) refl w.near (may.remote refl) w.far) ∙ ap (cas_by o r local_spot remote_spot) (remote_read 8 w.far)

    add_goes : Granted home Add d → IsWord → lands regions o m r Add ≡ add_by o r local_spot remote_spot old_bytes
    unfolding lands
    add_goes may w =
        let fine = w.fine in
        two_go regions o Add r (local_side regions o.chain Add r) (remote_side regions o.chain Add r) local_spot remote_spot (λ l e. add_by o r l e (bytes_at m e.at 8)) (local_goes 8 (local_need Add) refl refl may.local fine.near) (remote_goes 8 (remote_need Add) refl w.near (may.remote refl) w.far) ∙ ap (add_by o r local_spot remote_spot) (remote_read 8 w.far)

    cas_writes : real_swap r remote_spot old (change local_spot.at (spelled 8 old) ∷ []) ≡ map (change_of home) (swap slot d (old == first_in slot) ++ to_local d (spelled 8 old) ∷ [])
    cas_writes =
        rw (to.first, to.second, remote_place, local_place) (elim (old == first_in slot) as (λ b. cond b (change (base_of home (remote_space d) + remote_at slot d) (spelled 8 (second_in slot)) ∷ change (base_of home (local_space d) + local_at d) (spelled 8 old) ∷ []) (change (base_of home (local_space d) + local_at d) (spelled 8 old) ∷ []) ≡ map (change_of home) (swap slot d b ++ to_local d (spelled 8 old) ∷ [])) [ true ↦ refl | false ↦ refl ])

    cas_told : LandsAs home (reads_by home d slot Cas) (with_event (swap slot d (old == first_in slot) ++ to_local d (spelled 8 old) ∷ []) (cas_shows (origin o.chain) (kind_of (local_space d)) (kind_of (remote_space d)))) (cas_by o r local_spot remote_spot old_bytes)
    cas_told =
        let tells : Tells (cas_shows (origin o.chain) (kind_of (local_space d)) (kind_of (remote_space d))) (cas_shows o local_spot.kind remote_spot.kind) = rw (local_home.kind_is, remote_home.kind_is) (cas_tells (origin o.chain) o refl (kind_of (local_space d)) (kind_of (remote_space d))) in
        lands_told home (swap slot d (old == first_in slot) ++ to_local d (spelled 8 old) ∷ []) (cas_shows o local_spot.kind remote_spot.kind) remote_spot.at 8 (reads_by home d slot Cas) (real_swap r remote_spot old (change local_spot.at (spelled 8 old) ∷ [])) (same_place _ _ 8 8 remote_place refl) cas_writes (cas_shows (origin o.chain) (kind_of (local_space d)) (kind_of (remote_space d))) tells

    pub lands_cas : Granted home Cas d → LandsAs home (reads_by home d slot Cas) (acts o.chain s slot d Cas) (lands regions o m r Cas)
    unfolding acts
    lands_cas may =
        elim (fits d 8 && is_atomic d) as (λ b. (fits d 8 && is_atomic d) ≡ b → LandsAs home (reads_by home d slot Cas) (cond (not b) Bad (with_event (swap slot d (old == first_in slot) ++ to_local d (spelled 8 old) ∷ []) (cas_shows (origin o.chain) (kind_of (local_space d)) (kind_of (remote_space d))))) (lands regions o m r Cas)) [
          | true ↦ λ t. rw (cas_goes may (word_there t)) cas_told
          | false ↦ λ t. tt
        ] refl

    abbrev sum : ℕ
    sum = sum_of (request_of slot d) old

    add_told : LandsAs home (reads_by home d slot Add) (with_event (to_remote slot d (spelled 8 sum) ∷ to_local d (spelled 8 old) ∷ []) (add_shows (origin o.chain) (request_of slot d) sum (kind_of (local_space d)) (kind_of (remote_space d)))) (add_by o r local_spot remote_spot old_bytes)
    add_told =
        let total : sum_of r old ≡ sum = ap (λ (n : ℕ). (old + n) % 2 ^ 64) to.first in
        let tells : Tells (add_shows (origin o.chain) (request_of slot d) sum (kind_of (local_space d)) (kind_of (remote_space d))) (add_shows o r (sum_of r old) local_spot.kind remote_spot.kind) = rw (local_home.kind_is, remote_home.kind_is, total) (add_tells (origin o.chain) o refl (request_of slot d) r (sym from.len) sum (kind_of (local_space d)) (kind_of (remote_space d)) remote_told) in
        lands_told home (to_remote slot d (spelled 8 sum) ∷ to_local d (spelled 8 old) ∷ []) (add_shows o r (sum_of r old) local_spot.kind remote_spot.kind) remote_spot.at 8 (reads_by home d slot Add) (change remote_spot.at (spelled 8 (sum_of r old)) ∷ change local_spot.at (spelled 8 old) ∷ []) (same_place _ _ 8 8 remote_place refl) (rw (total, remote_place, local_place) refl) (add_shows (origin o.chain) (request_of slot d) sum (kind_of (local_space d)) (kind_of (remote_space d))) tells

    pub lands_add : Granted home Add d → LandsAs home (reads_by home d slot Add) (acts o.chain s slot d Add) (lands regions o m r Add)
    unfolding acts
    lands_add may =
        elim (fits d 8 && is_atomic d) as (λ b. (fits d 8 && is_atomic d) ≡ b → LandsAs home (reads_by home d slot Add) (cond (not b) Bad (with_event (to_remote slot d (spelled 8 sum) ∷ to_local d (spelled 8 old) ∷ []) (add_shows (origin o.chain) (request_of slot d) sum (kind_of (local_space d)) (kind_of (remote_space d))))) (lands regions o m r Add)) [
          | true ↦ λ t. rw (add_goes may (word_there t)) add_told
          | false ↦ λ t. tt
        ] refl

  -- SEND has no remote side
  abbrev sent : List ℕ
  sent = local_bytes s d d.length

  record Sending : Type 0 where
    good : is_length d.length ≡ true
    near : local_at d + d.length ≤ room_of home (local_space d)

  sending : (is_length d.length && (not (is_table d.local) && inside d.local d.local_byte d.length)) ≡ true → Sending
  sending e =
      let a = and_parts (is_length d.length) (not (is_table d.local) && inside d.local d.local_byte d.length) e in
      let b = and_parts (not (is_table d.local)) (inside d.local d.local_byte d.length) a.1 in
      record { good = a.0; near = local_inside d.length (length_is d.length a.0).0 (not_true (is_table d.local) b.0) b.1 }

  send_goes : Sending → lands regions o m r Send ≡ send_by o r local_spot sent
  unfolding lands
  send_goes f =
      let len : r.length ≡ d.length = from.len in
      let near : local_at d + r.length ≤ room_of home (local_space d) = let n = f.near in omega arith in
      one_goes o (local_side regions o.chain Send r) local_spot (λ l. send_by o r l (bytes_at m l.at r.length)) (local_goes r.length (local_need Send) (ap is_length len ∙ f.good) refl refl near) ∙ ap (send_by o r local_spot) (local_read r.length near ∙ ap (local_bytes s d) len)

  send_told : LandsAs home (reads_by home d slot Send) (with_event [] (send_shows (origin o.chain) (request_of slot d) sent (kind_of (local_space d)))) (send_by o r local_spot sent)
  send_told =
      let tells : Tells (send_shows (origin o.chain) (request_of slot d) sent (kind_of (local_space d))) (send_shows o r sent local_spot.kind) = rw local_home.kind_is (send_tells (origin o.chain) o refl (request_of slot d) r (sym from.len) sent (kind_of (local_space d))) in
      lands_told home [] (send_shows o r sent local_spot.kind) local_spot.at r.length (reads_by home d slot Send) [] (same_place _ _ _ _ local_place from.len) refl (send_shows (origin o.chain) (request_of slot d) sent (kind_of (local_space d))) tells

  pub lands_send : LandsAs home (reads_by home d slot Send) (acts o.chain s slot d Send) (lands regions o m r Send)
  unfolding acts
  lands_send =
      elim (is_length d.length && (not (is_table d.local) && inside d.local d.local_byte d.length)) as (λ b. (is_length d.length && (not (is_table d.local) && inside d.local d.local_byte d.length)) ≡ b → LandsAs home (reads_by home d slot Send) (cond (not b) Bad (with_event [] (send_shows (origin o.chain) (request_of slot d) sent (kind_of (local_space d))))) (lands regions o m r Send)) [
        | true ↦ λ t. rw (send_goes (sending t)) send_told
        | false ↦ λ t. tt
      ] refl

  -- NOOP, whatever its sides
  pub lands_noop : LandsAs home (reads_by home d slot Noop) (acts o.chain s slot d Noop) (lands regions o m r Noop)
  unfolding acts lands
  lands_noop = record { allowed = refl; reads_are = refl; writes_are = refl; shown_is = refl }
