-- What an event's draft puts, and what it shows.
use Rattle.std.proofs.Common.{◌≡◌, ◌≢◌, ℕ, ◌<◌, ◌^◌, ◌/◌, ◌%◌, Bool, true, false, not, cond, ◌&&◌, ◌==◌, List, [], ◌∷◌, refl, sym, ◌∙◌, subst}
use Rattle.std.specs.Prelude.{nat_le}
use Rattle.std.proofs.lemmas.Bool.{false≢true}
use Rattle.redn_words.specs.declared.types.Obs.{Obs}
use Rattle.redn_words.specs.declared.types.Obs.TheVariants as shows
use Rattle.redn_words.specs.declared.types.Kind.{Kind}
use Rattle.redn_words.specs.declared.types.Kind.TheVariants.{Vars, Table, Code, Control, Message}
use Rattle.redn_words.specs.declared.types.Request.{Request}
use Rattle.redn_words.specs.declared.types.Origin.{Origin}
use Rattle.redn_words.specs.declared.types.Opcode.{Opcode}
use Rattle.redn_words.specs.declared.types.Opcode.TheVariants.{Noop, Write, Read, Cas, Add, Send}
use Rattle.redn_words.specs.Landings.{write_shows, write_to, read_shows, read_into_vars, read_hidden, add_shows, cas_shows, send_shows, reply_words, is_hidden, when}
use Rattle.redn_words.specs.Words.{word}
use Rattle.redn_kernel.specs.declared.types.Cell.TheVariants.{Var}
use Rattle.redn_segment.specs.declared.types.Site.{Site}
use Rattle.redn_segment.specs.declared.types.Site.TheVariants as site
use Rattle.redn_segment.specs.declared.types.Draft.{Draft}
use Rattle.redn_segment.specs.Primed.{IsBytes}
use Rattle.redn_segment.proofs.Halves.{number_small}
use Rattle.redn_segment.specs.Orders.{is_send}
use Rattle.redn_segment.specs.Plain.{Bytes, Put, Outcome, Went, Bad, acts, with_event, local_space, remote_space, local_bytes, remote_bytes, request_of, origin, fits, reaches, is_atomic, is_length}
use Rattle.redn_segment.specs.Sites.{kind_of, space_of, is_table, inside}
use Rattle.redn_segment.specs.Templates.{is_shown, may_show_by}
use Rattle.redn_proof_block.specs.Truth.{IsTrueBy}
use Rattle.redn_proof_chain.specs.States.{Reads}
use Rattle.redn_segment.proofs.PutSides.{not_past as past_none}

-- an event of a word, or an odd one
abbrev pub IsWordy : Obs → ℕ → Type 0
IsWordy (shows.Set c v w) u = Unit {0}
IsWordy (shows.Load c v t o w) u = w ≡ u
IsWordy (shows.Look c t o w) u = w ≡ u
IsWordy (shows.Store c t o w) u = Unit {0}
IsWordy (shows.Odd q i) u = Unit {0}
IsWordy _ u = ⊥

-- it shows nothing and puts nothing; or it shows an event of the word that it puts first; or it sends
pub data Shape (op : Opcode) (us : List Put) (events : List Obs) : Type 0 where
  Idle : events ≡ [] → us ≡ [] → is_send op ≡ false → Shape op us events
  Words : (e : Obs) (p : Put) (rest : List Put) → events ≡ e ∷ [] → e ≢ shows.Nothing → us ≡ p ∷ rest → IsWordy e (word p.bytes 0) → is_send op ≡ false → Shape op us events
  Sends : (n k : ℕ) (ws : List ℕ) → events ≡ shows.Reply n k ws ∷ [] → us ≡ [] → is_send op ≡ true → Shape op us events

pub went_puts : (us vs : List Put) (es fs : List Obs) → Went us es ≡ Went vs fs → vs ≡ us
went_puts us vs es fs e = let same : us ≡ vs = cc in sym same

pub went_events : (us vs : List Put) (es fs : List Obs) → Went us es ≡ Went vs fs → fs ≡ es
went_events us vs es fs e = let same : es ≡ fs = cc in sym same

module _ (op : Opcode) (p : Put) (rest : List Put) (us : List Put) (events : List Obs) (not_send : is_send op ≡ false) where
  one : (e : Obs) → e ≢ shows.Nothing → IsWordy e (word p.bytes 0) → Went (p ∷ rest) (e ∷ []) ≡ Went us events → Shape op us events
  one e some h is = Words e p rest (went_events (p ∷ rest) us (e ∷ []) events is) some (went_puts (p ∷ rest) us (e ∷ []) events is) h not_send

  wordy : (e : Obs) → IsWordy e (word p.bytes 0) → with_event (p ∷ rest) e ≡ Went us events → Shape op us events
  wordy (shows.Set c v w) h is = one (shows.Set c v w) (λ f. absurd (cc)) h is
  wordy (shows.Load c v t o w) h is = one (shows.Load c v t o w) (λ f. absurd (cc)) h is
  wordy (shows.Look c t o w) h is = one (shows.Look c t o w) (λ f. absurd (cc)) h is
  wordy (shows.Store c t o w) h is = one (shows.Store c t o w) (λ f. absurd (cc)) h is
  wordy (shows.Odd q i) h is = absurd (cc)
  wordy _ h is = absurd h

-- what is true of tables of bytes tells a word
pub reads_of : (see : ℕ → List ℕ) (e : Obs) (w : ℕ) → ((t : ℕ) → IsBytes (see t)) → IsTrueBy see e → IsWordy e w → Reads e w
reads_of see (shows.Set c v u) w bytes is_true h = tt
reads_of see (shows.Load c v t o u) w bytes is_true h = (h, subst (λ (k : ℕ). k < 2 ^ 64) (is_true.1 ∙ h) (number_small 8 o (see t) (bytes t)))
reads_of see (shows.Look c t o u) w bytes is_true h = (h, subst (λ (k : ℕ). k < 2 ^ 64) (is_true.1 ∙ h) (number_small 8 o (see t) (bytes t)))
reads_of see (shows.Store c t o u) w bytes is_true h = tt
reads_of see (shows.Odd q i) w bytes is_true h = tt
reads_of see _ w bytes is_true h = absurd h

abbrev tells_events : Kind → Bool
tells_events Vars = true
tells_events (Table t) = true
tells_events _ = false

site_tells : (x : Site) → is_shown x ≡ true → tells_events (kind_of (space_of x)) ≡ true
site_tells (site.Cell (Var i)) h = refl
site_tells (site.Table t o) h = refl
site_tells (site.Cell _) h = absurd (false≢true h)
site_tells _ h = absurd (false≢true h)

abbrev is_table_kind : Kind → Bool
is_table_kind (Table t) = true
is_table_kind _ = false

site_table : (x : Site) → is_table x ≡ true → is_table_kind (kind_of (space_of x)) ≡ true
site_table (site.Table t o) h = refl
site_table _ h = absurd (false≢true h)

module _ (o : Origin) (r : Request) (w u : ℕ) where
  when_wordy : (b : Bool) (e : Obs) → IsWordy e u → IsWordy (when b e o) u
  when_wordy true e h = h
  when_wordy false e h = tt

  to_wordy : (k : Kind) → tells_events k ≡ true → IsWordy (write_to o r w k) u
  to_wordy Vars h = when_wordy (r.length == 8 && r.remote % 8 == 0) (shows.Set o.chain (r.remote / 8) w) tt
  to_wordy (Table t) h = when_wordy (r.length == 8) (shows.Store o.chain t r.remote w) tt
  to_wordy _ h = absurd (false≢true h)

  write_wordy : (j k : Kind) → tells_events k ≡ true → IsWordy (write_shows o r w j k) u
  write_wordy (Table t) k h = tt
  write_wordy _ k h = to_wordy k h

  hidden_wordy : (k : Kind) → is_table_kind k ≡ true → w ≡ u → IsWordy (read_hidden o r w k) u
  hidden_wordy (Table t) h e = when_wordy (r.length == 8) (shows.Look o.chain t r.remote w) e
  hidden_wordy _ h e = absurd (false≢true h)

  vars_wordy : (k : Kind) → is_table_kind k ≡ true → w ≡ u → IsWordy (read_into_vars o r w k) u
  vars_wordy (Table t) h e = when_wordy (r.length == 8 && r.local % 8 == 0) (shows.Load o.chain (r.local / 8) t r.remote w) e
  vars_wordy _ h e = absurd (false≢true h)

  read_wordy : (j k : Kind) → is_table_kind k ≡ true → w ≡ u → IsWordy (read_shows o r w j k) u
  read_wordy Vars k h e = vars_wordy k h e
  read_wordy (Table t) k h e = tt
  read_wordy Message k h e = tt
  read_wordy _ k h e = hidden_wordy k h e

  add_wordy : (b : Bool) (k : Kind) → tells_events k ≡ true → IsWordy (cond b (add_shows o r w Code k) (shows.Odd o.queue o.index)) u
  add_wordy false k h = tt
  add_wordy true Vars h = tt
  add_wordy true (Table t) h = tt
  add_wordy true Code h = absurd (false≢true h)
  add_wordy true Control h = absurd (false≢true h)
  add_wordy true Message h = absurd (false≢true h)

pub fit : (b : Bool) (o : Outcome) (us : List Put) (events : List Obs) → cond (not b) Bad o ≡ Went us events → o ≡ Went us events
fit true o us events e = e
fit false o us events e = absurd (cc)

pub reach : (b : Bool) (p o : Outcome) (us : List Put) (events : List Obs) → (p ≡ Went us events → ⊥) → cond (not b) p o ≡ Went us events → o ≡ Went us events
reach true p o us events f e = e
reach false p o us events f e = absurd (f e)

odd_cas : (o : Origin) (j k : Kind) (us vs : List Put) (events : List Obs) → tells_events k ≡ true → with_event us (cas_shows o j k) ≡ Went vs events → ⊥
odd_cas o j Vars us vs events h e = by_near (is_hidden j) e
  where
    by_near : (b : Bool) → with_event us (when (b && false) shows.Nothing o) ≡ Went vs events → ⊥
    by_near true f = absurd (cc)
    by_near false f = absurd (cc)
odd_cas o j (Table t) us vs events h e = by_near (is_hidden j) e
  where
    by_near : (b : Bool) → with_event us (when (b && false) shows.Nothing o) ≡ Went vs events → ⊥
    by_near true f = absurd (cc)
    by_near false f = absurd (cc)
odd_cas o j _ us vs events h e = absurd (false≢true h)

sent : (o : Origin) (r : Request) (bytes : List ℕ) (k : Kind) (us : List Put) (events : List Obs) → with_event [] (send_shows o r bytes k) ≡ Went us events → Shape Send us events
sent o r bytes Control us events e = by_size (r.length % 8 == 0 && nat_le r.length 64) o.chain (r.length / 8) (reply_words (r.length / 8) bytes) e
  where
    by_size : (b : Bool) (n k : ℕ) (ws : List ℕ) → with_event [] (when b (shows.Reply n k ws) o) ≡ Went us events → Shape Send us events
    by_size true n k ws f = Sends n k ws (went_events [] us (shows.Reply n k ws ∷ []) events f) (went_puts [] us (shows.Reply n k ws ∷ []) events f) refl
    by_size false n k ws f = absurd (cc)
sent o r bytes _ us events e = absurd (cc)

module _ (chain : ℕ) (s : Bytes) (slot : List ℕ) (d : Draft) (us : List Put) (events : List Obs) where
  pub shape : (op : Opcode) → may_show_by d op ≡ true → (op ≡ Read → is_table d.remote ≡ true) → acts chain s slot d op ≡ Went us events → Shape op us events
  unfolding acts
  shape Noop h g e = Idle (went_events [] us [] events e) (went_puts [] us [] events e) refl
  shape Write h g e =
      wordy Write _ [] us events refl _ (write_wordy (origin chain) (request_of slot d) (word (local_bytes s d d.length) 0) _ (kind_of (local_space d)) (kind_of (remote_space d)) (site_tells d.remote h)) (reach (reaches s slot d d.length) _ _ us events (past_none chain slot d (remote_space d) us events) (fit (fits d d.length) _ us events e))
  shape Read h g e =
      wordy Read _ [] us events refl _ (read_wordy (origin chain) (request_of slot d) (word (remote_bytes s slot d d.length) 0) _ (kind_of (local_space d)) (kind_of (remote_space d)) (site_table d.remote (g refl)) refl) (reach (reaches s slot d d.length) _ _ us events (past_none chain slot d (remote_space d) us events) (fit (fits d d.length) _ us events e))
  shape Cas h g e = absurd (odd_cas (origin chain) (kind_of (local_space d)) (kind_of (remote_space d)) _ us events (site_tells d.remote h) (fit (fits d 8 && is_atomic d) _ us events e))
  shape Add h g e =
      wordy Add _ _ us events refl _ (add_wordy (origin chain) (request_of slot d) _ _ (is_hidden (kind_of (local_space d))) (kind_of (remote_space d)) (site_tells d.remote h)) (fit (fits d 8 && is_atomic d) _ us events e)
  shape Send h g e = sent (origin chain) (request_of slot d) _ (kind_of (local_space d)) us events (fit (is_length d.length && (not (is_table d.local) && inside d.local d.local_byte d.length)) _ us events e)
  shape _ h g e = absurd (cc)
