-- Events of drafts are true of the tables that the drafts saw.
use Rattle.std.proofs.Common.{◌≡◌, ℕ, ◌+◌, ◌%◌, ◌/◌, Bool, true, false, cond, not, ◌&&◌, List, [], ◌∷◌, ◌++◌, length, refl, sym, ap, ◌∙◌, subst}
use Rattle.std.specs.Prelude.{◌==◌, nat_le}
use Rattle.std.proofs.lemmas.Bool.{eqb-true, and_parts}
use Rattle.redn_words.specs.declared.types.Kind.{Kind}
use Rattle.redn_words.specs.declared.types.Kind.TheVariants as kind
use Rattle.redn_words.specs.declared.types.Origin.{Origin}
use Rattle.redn_words.specs.declared.types.Request.{Request}
use Rattle.redn_words.specs.declared.types.Opcode.{Opcode}
use Rattle.redn_words.specs.declared.types.Opcode.TheVariants.{Write, Read, Cas, Add, Send}
use Rattle.redn_words.specs.declared.types.Obs.{Obs}
use Rattle.redn_words.specs.declared.types.Obs.TheVariants as shows
use Rattle.redn_words.specs.Words.{bytes_at, word, spelled}
use Rattle.redn_words.specs.Landings.{when, write_to, write_shows, read_into_vars, read_hidden, read_shows, add_to, add_shows, send_shows, sum_of, is_hidden, reply_words}
use Rattle.redn_words.proofs.Numbers.{number-bytes_at}
use Rattle.redn_kernel.specs.declared.types.Cell.TheVariants as cell
use Rattle.redn_segment.specs.declared.types.Site.{Site}
use Rattle.redn_segment.specs.declared.types.Site.TheVariants as site
use Rattle.redn_segment.specs.declared.types.Space.{Space}
use Rattle.redn_segment.specs.declared.types.Space.TheVariants as space
use Rattle.redn_segment.specs.declared.types.Draft.{Draft}
use Rattle.redn_segment.specs.Sites.{space_of, is_table, kind_of, offset_of, inside}
use Rattle.redn_segment.specs.Plain.{Bytes, Put, Outcome, Went, Bad, with_event, acts, fits, reaches, past_table, is_atomic, is_length, request_of, origin, local_space, remote_space, local_bytes, remote_bytes, remote_at, to_local, to_remote, first_in, swap}
use Rattle.redn_proof_block.specs.Truth.{IsTrueBy}
use Rattle.redn_segment.proofs.PutSides.{not_past as past_stays}

-- one event
pub event_is : (us vs : List Put) (o e : Obs) → with_event us o ≡ Went vs (e ∷ []) → (o ≡ e) × (us ≡ vs)
event_is us vs (shows.Set c x w) e h = (cc, cc)
event_is us vs (shows.Load c x t o w) e h = (cc, cc)
event_is us vs (shows.Look c t o w) e h = (cc, cc)
event_is us vs (shows.Store c t o w) e h = (cc, cc)
event_is us vs (shows.Reply c n ws) e h = (cc, cc)
event_is us vs _ e h = absurd (cc)

-- an access that shows an event fits and reaches
pub record Shown (b : Bool) (o e : Obs) (us vs : List Put) : Type 0 where
  pub reaches : b ≡ true
  pub event : o ≡ e
  pub puts : us ≡ vs

shown_by : (a b : Bool) (past : Outcome) (us vs : List Put) (o e : Obs) → ((l : List Put) (m : List Obs) → past ≡ Went l m → ⊥) → cond (not a) Bad (cond (not b) past (with_event us o)) ≡ Went vs (e ∷ []) → Shown b o e us vs
shown_by false b past us vs o e none h = absurd (cc)
shown_by true false past us vs o e none h = absurd (none vs (e ∷ []) h)
shown_by true true past us vs o e none h = let k = event_is us vs o e h in record { reaches = refl; event = k.0; puts = k.1 }

-- the kind of a table's space
table_kind : (x : Site) (t : ℕ) → kind_of (space_of x) ≡ kind.Table t → (is_table x ≡ true) × (space_of x ≡ space.Table t)
table_kind (site.Table u o) t h = (refl, cc)
table_kind (site.Cell (cell.Var i)) t h = absurd (cc)
table_kind (site.Cell _) t h = absurd (cc)
table_kind _ t h = absurd (cc)

-- what an access of a table saw
pub record Saw (see : ℕ → List ℕ) (t o w : ℕ) : Type 0 where
  pub has : nat_le (o + 8) (length (see t)) ≡ true
  pub is : word (see t) o ≡ w

module _ (see : ℕ → List ℕ) (o : Origin) (r : Request) (w : ℕ) where
  stores : (b : Bool) (t : ℕ) → (b ≡ true → nat_le (r.remote + 8) (length (see t)) ≡ true) → IsTrueBy see (when b (shows.Store o.chain t r.remote w) o)
  stores true t h = h refl
  stores false t h = tt

  sets : (b : Bool) (x v : ℕ) → IsTrueBy see (when b (shows.Set o.chain x v) o)
  sets true x v = tt
  sets false x v = tt

  looks : (b : Bool) (t : ℕ) → (b ≡ true → Saw see t r.remote w) → IsTrueBy see (when b (shows.Look o.chain t r.remote w) o)
  looks true t h = ((h refl).has, (h refl).is)
  looks false t h = tt

  loads : (b : Bool) (x t : ℕ) → (b ≡ true → Saw see t r.remote w) → IsTrueBy see (when b (shows.Load o.chain x t r.remote w) o)
  loads true x t h = ((h refl).has, (h refl).is)
  loads false x t h = tt

  write_to_true : (kr : Kind) → ((t : ℕ) → kr ≡ kind.Table t → (r.length == 8) ≡ true → nat_le (r.remote + 8) (length (see t)) ≡ true) → IsTrueBy see (write_to o r w kr)
  write_to_true kind.Vars h = sets (r.length == 8 && r.remote % 8 == 0) _ w
  write_to_true (kind.Table t) h = stores (r.length == 8) t (h t refl)
  write_to_true _ h = tt

  write_true : (kl kr : Kind) → ((t : ℕ) → kr ≡ kind.Table t → (r.length == 8) ≡ true → nat_le (r.remote + 8) (length (see t)) ≡ true) → IsTrueBy see (write_shows o r w kl kr)
  write_true (kind.Table t) kr h = tt
  write_true _ kr h = write_to_true kr h

  hidden_true : (kr : Kind) → ((t : ℕ) → kr ≡ kind.Table t → (r.length == 8) ≡ true → Saw see t r.remote w) → IsTrueBy see (read_hidden o r w kr)
  hidden_true (kind.Table t) h = looks (r.length == 8) t (h t refl)
  hidden_true _ h = tt

  into_vars_true : (kr : Kind) → ((t : ℕ) → kr ≡ kind.Table t → (r.length == 8) ≡ true → Saw see t r.remote w) → IsTrueBy see (read_into_vars o r w kr)
  into_vars_true (kind.Table t) h = loads (r.length == 8 && r.local % 8 == 0) _ t (λ e. h t refl (and_parts (r.length == 8) (r.local % 8 == 0) e).0)
  into_vars_true _ h = sets (r.length == 8 && r.local % 8 == 0) _ w

  read_true : (kl kr : Kind) → ((t : ℕ) → kr ≡ kind.Table t → (r.length == 8) ≡ true → Saw see t r.remote w) → IsTrueBy see (read_shows o r w kl kr)
  read_true kind.Vars kr h = into_vars_true kr h
  read_true kind.Code kr h = hidden_true kr h
  read_true kind.Control kr h = hidden_true kr h
  read_true _ kr h = tt

  add_true : (kl kr : Kind) → IsTrueBy see (add_shows o r w kl kr)
  add_true kind.Code kr = add_to_true kr
    where
      add_to_true : (kr : Kind) → IsTrueBy see (add_to o r w kr)
      add_to_true kind.Vars = tt
      add_to_true (kind.Table t) = tt
      add_to_true kind.Code = tt
      add_to_true kind.Control = tt
      add_to_true kind.Message = tt
  add_true kind.Control kr = add_to_true kr
    where
      add_to_true : (kr : Kind) → IsTrueBy see (add_to o r w kr)
      add_to_true kind.Vars = tt
      add_to_true (kind.Table t) = tt
      add_to_true kind.Code = tt
      add_to_true kind.Control = tt
      add_to_true kind.Message = tt
  add_true _ kr = tt

-- an atomic access and a SEND show no table
when_silent : (b : Bool) (o : Origin) (us vs : List Put) (e : Obs) → with_event us (when b shows.Nothing o) ≡ Went vs (e ∷ []) → ⊥
when_silent true o us vs e h = cc
when_silent false o us vs e h = cc

cas_silent : (a b : Bool) (o : Origin) (us vs : List Put) (e : Obs) → cond (not a) Bad (with_event us (when b shows.Nothing o)) ≡ Went vs (e ∷ []) → ⊥
cas_silent false b o us vs e h = cc
cas_silent true b o us vs e h = when_silent b o us vs e h

told_by : (a : Bool) (us vs : List Put) (o e : Obs) → cond (not a) Bad (with_event us o) ≡ Went vs (e ∷ []) → (o ≡ e) × (us ≡ vs)
told_by false us vs o e h = absurd (cc)
told_by true us vs o e h = event_is us vs o e h

send_true : (see : ℕ → List ℕ) (o : Origin) (r : Request) (sent : List ℕ) (k : Kind) → IsTrueBy see (send_shows o r sent k)
send_true see o r sent kind.Control = by_length (r.length % 8 == 0 && nat_le r.length 64)
  where
    by_length : (b : Bool) → IsTrueBy see (when b (shows.Reply o.chain (r.length / 8) (reply_words (r.length / 8) sent)) o)
    by_length true = tt
    by_length false = tt
send_true see o r sent _ = tt

-- what reaches a table lies in it
module _ (s : Bytes) (slot : List ℕ) (d : Draft) where
  abbrev see : ℕ → List ℕ
  see t = s (space.Table t)

  remote_is : (t : ℕ) → remote_space d ≡ space.Table t → (request_of slot d).remote ≡ remote_at slot d
  remote_is t e = ap (λ (p : Space). offset_of p (remote_at slot d)) e

  lies : (t len : ℕ) → kind_of (remote_space d) ≡ kind.Table t → reaches s slot d len ≡ true → (len == 8) ≡ true → nat_le ((request_of slot d).remote + 8) (length (see t)) ≡ true
  lies t len k h e =
      let table = table_kind d.remote t k in
      let is : is_table d.remote ≡ true = table.0 in
      let eight : len ≡ 8 = eqb-true len 8 e in
      let inside : nat_le (remote_at slot d + len) (length (s (remote_space d))) ≡ true = sym (ap (λ (b : Bool). cond b (nat_le (remote_at slot d + len) (length (s (remote_space d)))) true) is) ∙ h in
      let there : nat_le (remote_at slot d + len) (length (see t)) ≡ true = subst (λ (p : Space). nat_le (remote_at slot d + len) (length (s p)) ≡ true) table.1 inside in
      subst (λ (n : ℕ). nat_le ((request_of slot d).remote + n) (length (see t)) ≡ true) eight (subst (λ (n : ℕ). nat_le (n + len) (length (see t)) ≡ true) (sym (remote_is t table.1)) there)

  seen_word : (t len : ℕ) → kind_of (remote_space d) ≡ kind.Table t → (len == 8) ≡ true → word (see t) (request_of slot d).remote ≡ word (remote_bytes s slot d len) 0
  seen_word t len k e =
      let table = table_kind d.remote t k in
      let eight : len ≡ 8 = eqb-true len 8 e in
      ap (word (see t)) (remote_is t table.1) ∙ (number-bytes_at 8 (see t) (remote_at slot d) ∙ (ap (λ (p : Space). word (bytes_at (s p) (remote_at slot d) 8) 0) (sym table.1) ∙ ap (λ (n : ℕ). word (remote_bytes s slot d n) 0) (sym eight)))

  -- the event of a draft is true of the tables
  pub acts_true : (chain : ℕ) (op : Opcode) (us : List Put) (e : Obs) → acts chain s slot d op ≡ Went us (e ∷ []) → IsTrueBy see e
  unfolding acts
  acts_true chain Write us e h =
      let w : ℕ = word (local_bytes s d d.length) 0 in
      let o : Obs = write_shows (origin chain) (request_of slot d) w (kind_of (local_space d)) (kind_of (remote_space d)) in
      let k = shown_by (fits d d.length) (reaches s slot d d.length) (past_table chain slot d (remote_space d)) (to_remote slot d (local_bytes s d d.length) ∷ []) us o e (past_stays chain slot d (remote_space d)) h in
      subst (IsTrueBy see) k.event (write_true see (origin chain) (request_of slot d) w (kind_of (local_space d)) (kind_of (remote_space d)) (λ t is eight. lies t d.length is k.reaches eight))
  acts_true chain Read us e h =
      let w : ℕ = word (remote_bytes s slot d d.length) 0 in
      let o : Obs = read_shows (origin chain) (request_of slot d) w (kind_of (local_space d)) (kind_of (remote_space d)) in
      let k = shown_by (fits d d.length) (reaches s slot d d.length) (past_table chain slot d (remote_space d)) (to_local d (remote_bytes s slot d d.length) ∷ []) us o e (past_stays chain slot d (remote_space d)) h in
      subst (IsTrueBy see) k.event (read_true see (origin chain) (request_of slot d) w (kind_of (local_space d)) (kind_of (remote_space d)) (λ t is eight. record { has = lies t d.length is k.reaches eight; is = seen_word t d.length is eight }))
  acts_true chain Cas us e h =
      absurd (cas_silent (fits d 8 && is_atomic d) (is_hidden (kind_of (local_space d)) && is_hidden (kind_of (remote_space d))) (origin chain) (swap slot d (word (remote_bytes s slot d 8) 0 == first_in slot) ++ to_local d (spelled 8 (word (remote_bytes s slot d 8) 0)) ∷ []) us e h)
  acts_true chain Add us e h =
      let old : ℕ = word (remote_bytes s slot d 8) 0 in
      let sum : ℕ = sum_of (request_of slot d) old in
      let k = told_by (fits d 8 && is_atomic d) (to_remote slot d (spelled 8 sum) ∷ to_local d (spelled 8 old) ∷ []) us (add_shows (origin chain) (request_of slot d) sum (kind_of (local_space d)) (kind_of (remote_space d))) e h in
      subst (IsTrueBy see) k.0 (add_true see (origin chain) (request_of slot d) sum (kind_of (local_space d)) (kind_of (remote_space d)))
  acts_true chain Send us e h =
      let k = told_by (is_length d.length && (not (is_table d.local) && inside d.local d.local_byte d.length)) [] us (send_shows (origin chain) (request_of slot d) (local_bytes s d d.length) (kind_of (local_space d))) e h in
      subst (IsTrueBy see) k.0 (send_true see (origin chain) (request_of slot d) (local_bytes s d d.length) (kind_of (local_space d)))
  acts_true chain _ us e h = absurd (cc)
