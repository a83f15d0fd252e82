-- What a draft puts into tables, and of which table it tells.
use Rattle.std.proofs.Common.{◌≡◌, ℕ, ◌+◌, ◌≤◌, ◌/◌, ◌%◌, Bool, true, false, not, cond, ◌&&◌, ◌||◌, ◌==◌, List, [], ◌∷◌, ◌++◌, length, refl, sym, ap, ◌∙◌, subst}
use Rattle.std.specs.Prelude.{nat_le}
use Rattle.std.proofs.lemmas.Bool.{false≢true, true≢false, and_parts, leb-true, eqb-true}
use Rattle.redn_words.specs.declared.types.Obs.{Obs}
use Rattle.redn_words.specs.declared.types.Obs.TheVariants as shows
use Rattle.redn_words.specs.declared.types.Kind.{Kind}
use Rattle.redn_words.specs.declared.types.Kind.TheVariants.{Vars, Table, Code, Control, Message}
use Rattle.redn_words.specs.declared.types.Request.{Request}
use Rattle.redn_words.specs.declared.types.Origin.{Origin}
use Rattle.redn_words.specs.declared.types.Opcode.{Opcode}
use Rattle.redn_words.specs.declared.types.Opcode.TheVariants.{Noop, Write, Read, Cas, Add, Send}
use Rattle.redn_words.specs.Landings.{write_shows, write_to, read_shows, read_into_vars, read_hidden, add_shows, send_shows, is_hidden, when}
use Rattle.redn_words.specs.Words.{word, spelled}
use Rattle.redn_kernel.specs.declared.types.Cell.TheVariants.{Var}
use Rattle.redn_segment.specs.declared.types.Space.{Space}
use Rattle.redn_segment.specs.declared.types.Space.TheVariants as space
use Rattle.redn_segment.specs.declared.types.Draft.{Draft}
use Rattle.redn_segment.specs.Plain.{Bytes, Put, put, Outcome, Went, Bad, acts, with_event, local_space, remote_space, local_bytes, remote_bytes, remote_at, to_local, to_remote, swap, request_of, origin, fits, reaches, is_atomic, is_length, first_in}
use Rattle.redn_segment.specs.Sites.{kind_of, is_table, inside, offset_of}
use Rattle.redn_segment.proofs.SameSpace.{table_space}
use Rattle.redn_segment.proofs.Kept.{not_true}
use Rattle.redn_proof_landing.specs.Segments.{is_table_space}
use Rattle.redn_proof_chain.proofs.Shapes.{went_puts, went_events, fit, reach}
use Rattle.redn_segment.proofs.PutSides.{not_past as past_none}

-- no table
abbrev pub AllFlat : List Put → Type 0
AllFlat [] = Unit {0}
AllFlat (u ∷ us) = (is_table_space u.space ≡ false) × AllFlat us

-- an event that stores nothing, and tells of a table only if that is this space
abbrev pub OfSpace : Space → Obs → Type 0
OfSpace p (shows.Load c v t o w) = p ≡ space.Table t
OfSpace p (shows.Look c t o w) = p ≡ space.Table t
OfSpace p (shows.Store c t o w) = ⊥
OfSpace p (shows.Fault c t o) = p ≡ space.Table t
OfSpace p _ = Unit {0}

abbrev pub AllOf : Space → List Obs → Type 0
AllOf p [] = Unit {0}
AllOf p (e ∷ es) = OfSpace p e × AllOf p es

told_of : (p : Space) (us vs : List Put) (events : List Obs) (e : Obs) → OfSpace p e → with_event us e ≡ Went vs events → AllOf p events
told_of p us vs events shows.Nothing h is = subst (AllOf p) (sym (went_events us vs [] events is)) tt
told_of p us vs events (shows.Set c v w) h is = subst (AllOf p) (sym (went_events us vs (shows.Set c v w ∷ []) events is)) (h, tt)
told_of p us vs events (shows.Load c v t o w) h is = subst (AllOf p) (sym (went_events us vs (shows.Load c v t o w ∷ []) events is)) (h, tt)
told_of p us vs events (shows.Look c t o w) h is = subst (AllOf p) (sym (went_events us vs (shows.Look c t o w ∷ []) events is)) (h, tt)
told_of p us vs events (shows.Store c t o w) h is = absurd h
told_of p us vs events (shows.Reply c n ws) h is = subst (AllOf p) (sym (went_events us vs (shows.Reply c n ws ∷ []) events is)) (h, tt)
told_of p us vs events _ h is = absurd (cc)

pub puts_are : (us vs : List Put) (e : Obs) (events : List Obs) → with_event us e ≡ Went vs events → vs ≡ us
puts_are us vs shows.Nothing events is = went_puts us vs [] events is
puts_are us vs (shows.Set c v w) events is = went_puts us vs (shows.Set c v w ∷ []) events is
puts_are us vs (shows.Load c v t o w) events is = went_puts us vs (shows.Load c v t o w ∷ []) events is
puts_are us vs (shows.Look c t o w) events is = went_puts us vs (shows.Look c t o w ∷ []) events is
puts_are us vs (shows.Store c t o w) events is = went_puts us vs (shows.Store c t o w ∷ []) events is
puts_are us vs (shows.Reply c n ws) events is = went_puts us vs (shows.Reply c n ws ∷ []) events is
puts_are us vs _ events is = absurd (cc)

abbrev flat_kind : Kind → Bool
flat_kind (Table t) = false
flat_kind _ = true

flat_space : (p : Space) → is_table_space p ≡ false → flat_kind (kind_of p) ≡ true
flat_space (space.Table t) e = absurd (true≢false e)
flat_space (space.Cell (Var i)) e = refl
flat_space (space.Cell _) e = refl
flat_space _ e = refl

module _ (o : Origin) (r : Request) (w : ℕ) (p : Space) where
  when_of : (b : Bool) (e : Obs) → OfSpace p e → OfSpace p (when b e o)
  when_of true e h = h
  when_of false e h = tt

  to_of : (k : Kind) → flat_kind k ≡ true → OfSpace p (write_to o r w k)
  to_of Vars h = when_of (r.length == 8 && r.remote % 8 == 0) (shows.Set o.chain (r.remote / 8) w) tt
  to_of (Table t) h = absurd (false≢true h)
  to_of _ h = tt

  write_of : (j k : Kind) → flat_kind k ≡ true → OfSpace p (write_shows o r w j k)
  write_of (Table t) k h = tt
  write_of _ k h = to_of k h

  vars_of : (k : Kind) → ((t : ℕ) → k ≡ Table t → p ≡ space.Table t) → OfSpace p (read_into_vars o r w k)
  vars_of (Table t) h = when_of (r.length == 8 && r.local % 8 == 0) (shows.Load o.chain (r.local / 8) t r.remote w) (h t refl)
  vars_of _ h = when_of (r.length == 8 && r.local % 8 == 0) (shows.Set o.chain (r.local / 8) w) tt

  hidden_of : (k : Kind) → ((t : ℕ) → k ≡ Table t → p ≡ space.Table t) → OfSpace p (read_hidden o r w k)
  hidden_of (Table t) h = when_of (r.length == 8) (shows.Look o.chain t r.remote w) (h t refl)
  hidden_of _ h = tt

  read_of : (j k : Kind) → ((t : ℕ) → k ≡ Table t → p ≡ space.Table t) → OfSpace p (read_shows o r w j k)
  read_of Vars k h = vars_of k h
  read_of (Table t) k h = tt
  read_of Message k h = tt
  read_of _ k h = hidden_of k h

  add_of : (b : Bool) (k : Kind) → OfSpace p (cond b (add_shows o r w Code k) (shows.Odd o.queue o.index))
  add_of false k = tt
  add_of true Vars = tt
  add_of true (Table t) = tt
  add_of true Code = tt
  add_of true Control = tt
  add_of true Message = tt

  send_of : (bytes : List ℕ) (k : Kind) → OfSpace p (send_shows o r bytes k)
  send_of bytes Control = by_size _ _
    where
      by_size : (b : Bool) (ws : List ℕ) → OfSpace p (when b (shows.Reply o.chain (r.length / 8) ws) o)
      by_size true ws = tt
      by_size false ws = tt
  send_of bytes _ = tt

kind_table : (p : Space) (t : ℕ) → kind_of p ≡ Table t → p ≡ space.Table t
kind_table (space.Table i) t e = let same : i ≡ t = cc in ap space.Table same
kind_table (space.Cell (Var i)) t e = absurd (cc)
kind_table (space.Cell _) t e = absurd (cc)
kind_table _ t e = absurd (cc)

pub fit_true : (b : Bool) (o : Outcome) (us : List Put) (events : List Obs) → cond (not b) Bad o ≡ Went us events → b ≡ true
fit_true true o us events e = refl
fit_true false o us events e = absurd (cc)

pub reach_true : (b : Bool) (p o : Outcome) (us : List Put) (events : List Obs) → (p ≡ Went us events → ⊥) → cond (not b) p o ≡ Went us events → b ≡ true
reach_true true p o us events f e = refl
reach_true false p o us events f e = absurd (f e)

-- a WRITE into a table stores a word
store_went : (o : Origin) (r : Request) (w t : ℕ) (j : Kind) (us vs : List Put) (events : List Obs) → with_event us (write_shows o r w j (Table t)) ≡ Went vs events → (r.length ≡ 8) × (events ≡ shows.Store o.chain t r.remote w ∷ [])
store_went o r w t j us vs events e = by_kind j e
  where
    by_size : (b : Bool) → (r.length == 8) ≡ b → with_event us (when b (shows.Store o.chain t r.remote w) o) ≡ Went vs events → (r.length ≡ 8) × (events ≡ shows.Store o.chain t r.remote w ∷ [])
    by_size true f g = (eqb-true r.length 8 f, went_events us vs (shows.Store o.chain t r.remote w ∷ []) events g)
    by_size false f g = absurd (cc)

    by_kind : (k : Kind) → with_event us (write_shows o r w k (Table t)) ≡ Went vs events → (r.length ≡ 8) × (events ≡ shows.Store o.chain t r.remote w ∷ [])
    by_kind (Table i) g = absurd (cc)
    by_kind _ g = by_size (r.length == 8) refl g

module _ (chain : ℕ) (s : Bytes) (slot : List ℕ) (d : Draft) (us : List Put) (events : List Obs) where
  pub data Touches : Type 0 where
    Leaves : AllFlat us → AllOf (remote_space d) events → Touches
    Stores : (t o : ℕ) → remote_space d ≡ space.Table t → us ≡ put (space.Table t) o (local_bytes s d 8) ∷ [] → events ≡ shows.Store chain t o (word (local_bytes s d 8) 0) ∷ [] → o + 8 ≤ length (s (space.Table t)) → is_table d.local ≡ false → inside d.local d.local_byte 8 ≡ true → Touches

  flat_near : is_table d.local ≡ false → is_table_space (local_space d) ≡ false
  flat_near e = sym (table_space d.local) ∙ e

  fits_near : (len : ℕ) → fits d len ≡ true → (is_table d.local ≡ false) × (inside d.local d.local_byte len ≡ true)
  fits_near len e =
      let one = and_parts (is_length len) (not (is_table d.local) && (inside d.local d.local_byte len && (is_table d.remote || inside d.remote d.remote_byte len))) e in
      let two = and_parts (not (is_table d.local)) (inside d.local d.local_byte len && (is_table d.remote || inside d.remote d.remote_byte len)) one.1 in
      let three = and_parts (inside d.local d.local_byte len) (is_table d.remote || inside d.remote d.remote_byte len) two.1 in
      (not_true (is_table d.local) two.0, three.0)

  writes_flat : is_table_space (remote_space d) ≡ false → acts chain s slot d Write ≡ Went us events → Touches
  unfolding acts
  writes_flat flat e =
      let goes = reach (reaches s slot d d.length) _ _ us events (past_none chain slot d (remote_space d) us events) (fit (fits d d.length) _ us events e) in
      Leaves (subst AllFlat (sym (puts_are _ us _ events goes)) (flat, tt)) (told_of (remote_space d) _ us events _ (write_of (origin chain) (request_of slot d) (word (local_bytes s d d.length) 0) (remote_space d) (kind_of (local_space d)) (kind_of (remote_space d)) (flat_space (remote_space d) flat)) goes)

  writes : (p : Space) → remote_space d ≡ p → acts chain s slot d Write ≡ Went us events → Touches
  unfolding acts
  writes (space.Table t) is e =
      let fits_it = fit_true (fits d d.length) _ us events e in
      let rest = fit (fits d d.length) _ us events e in
      let reaches_it = reach_true (reaches s slot d d.length) _ _ us events (past_none chain slot d (remote_space d) us events) rest in
      let goes = reach (reaches s slot d d.length) _ _ us events (past_none chain slot d (remote_space d) us events) rest in
      let kind : kind_of (remote_space d) ≡ Table t = ap kind_of is in
      let now : with_event (to_remote slot d (local_bytes s d d.length) ∷ []) (write_shows (origin chain) (request_of slot d) (word (local_bytes s d d.length) 0) (kind_of (local_space d)) (Table t)) ≡ Went us events =
      subst (λ (k : Kind). with_event (to_remote slot d (local_bytes s d d.length) ∷ []) (write_shows (origin chain) (request_of slot d) (word (local_bytes s d d.length) 0) (kind_of (local_space d)) k) ≡ Went us events) kind goes in
      let stored = store_went (origin chain) (request_of slot d) (word (local_bytes s d d.length) 0) t (kind_of (local_space d)) _ us events now in
      let puts = puts_are _ us _ events goes in
      let near = fits_near d.length fits_it in
      let place : offset_of (remote_space d) (remote_at slot d) ≡ remote_at slot d = ap (λ (q : Space). offset_of q (remote_at slot d)) is in
      let far : is_table d.remote ≡ true = table_space d.remote ∙ ap is_table_space is in
      let reached : cond (is_table d.remote) (nat_le (remote_at slot d + d.length) (length (s (remote_space d)))) true ≡ true = reaches_it in
      let room : nat_le (remote_at slot d + d.length) (length (s (remote_space d))) ≡ true = sym (ap (λ (b : Bool). cond b (nat_le (remote_at slot d + d.length) (length (s (remote_space d)))) true) far) ∙ reached in
      let le : remote_at slot d + d.length ≤ length (s (remote_space d)) = leb-true (remote_at slot d + d.length) (length (s (remote_space d))) room in
      let le_eight : remote_at slot d + 8 ≤ length (s (remote_space d)) = subst (λ (n : ℕ). remote_at slot d + n ≤ length (s (remote_space d))) stored.0 le in
      Stores t (remote_at slot d) is
      (puts ∙ ap (λ (q : Space). put q (remote_at slot d) (local_bytes s d d.length) ∷ []) is ∙ ap (λ (n : ℕ). put (space.Table t) (remote_at slot d) (local_bytes s d n) ∷ []) stored.0)
      (stored.1 ∙ ap (λ (o : ℕ). shows.Store chain t o (word (local_bytes s d d.length) 0) ∷ []) place ∙ ap (λ (n : ℕ). shows.Store chain t (remote_at slot d) (word (local_bytes s d n) 0) ∷ []) stored.0)
      (subst (λ (q : Space). remote_at slot d + 8 ≤ length (s q)) is le_eight)
      near.0 (subst (λ (n : ℕ). inside d.local d.local_byte n ≡ true) stored.0 near.1)
  writes (space.Cell a) is e = writes_flat (ap is_table_space is) e
  writes _ is e = writes_flat (ap is_table_space is) e

  swap_flat : (b : Bool) (rest : List Put) → is_table_space (remote_space d) ≡ false → AllFlat rest → AllFlat (swap slot d b ++ rest)
  swap_flat true rest e h = (e, h)
  swap_flat false rest e h = h

  atomic_flat : is_atomic d ≡ true → is_table_space (remote_space d) ≡ false
  atomic_flat e = let parts = and_parts (not (is_table d.remote)) _ e in sym (table_space d.remote) ∙ not_true (is_table d.remote) parts.0

  pub touches : (op : Opcode) → acts chain s slot d op ≡ Went us events → Touches
  unfolding acts
  touches Noop e = Leaves (subst AllFlat (sym (went_puts [] us [] events e)) tt) (subst (AllOf (remote_space d)) (sym (went_events [] us [] events e)) tt)
  touches Write e = writes (remote_space d) refl e
  touches Read e =
      let rest = fit (fits d d.length) _ us events e in
      let goes = reach (reaches s slot d d.length) _ _ us events (past_none chain slot d (remote_space d) us events) rest in
      let near = fits_near d.length (fit_true (fits d d.length) _ us events e) in
      Leaves (subst AllFlat (sym (puts_are _ us _ events goes)) (flat_near near.0, tt)) (told_of (remote_space d) _ us events _ (read_of (origin chain) (request_of slot d) (word (remote_bytes s slot d d.length) 0) (remote_space d) (kind_of (local_space d)) (kind_of (remote_space d)) (λ t k. kind_table (remote_space d) t k)) goes)
  touches Cas e =
      let ok = and_parts (fits d 8) (is_atomic d) (fit_true (fits d 8 && is_atomic d) _ us events e) in
      let goes = fit (fits d 8 && is_atomic d) _ us events e in
      let near = fits_near 8 ok.0 in
      Leaves (subst AllFlat (sym (puts_are _ us _ events goes)) (swap_flat (word (remote_bytes s slot d 8) 0 == first_in slot) (to_local d (spelled 8 (word (remote_bytes s slot d 8) 0)) ∷ []) (atomic_flat ok.1) (flat_near near.0, tt))) (told_of (remote_space d) _ us events _ (when_of (origin chain) (request_of slot d) 0 (remote_space d) _ shows.Nothing tt) goes)
  touches Add e =
      let ok = and_parts (fits d 8) (is_atomic d) (fit_true (fits d 8 && is_atomic d) _ us events e) in
      let goes = fit (fits d 8 && is_atomic d) _ us events e in
      let near = fits_near 8 ok.0 in
      Leaves (subst AllFlat (sym (puts_are _ us _ events goes)) (atomic_flat ok.1, (flat_near near.0, tt))) (told_of (remote_space d) _ us events _ (add_of (origin chain) (request_of slot d) _ (remote_space d) (is_hidden (kind_of (local_space d))) (kind_of (remote_space d))) goes)
  touches Send e =
      let goes = fit (is_length d.length && (not (is_table d.local) && inside d.local d.local_byte d.length)) _ us events e in
      Leaves (subst AllFlat (sym (puts_are _ us _ events goes)) tt) (told_of (remote_space d) _ us events _ (send_of (origin chain) (request_of slot d) 0 (remote_space d) _ (kind_of (local_space d))) goes)
  touches _ e = absurd (cc)
