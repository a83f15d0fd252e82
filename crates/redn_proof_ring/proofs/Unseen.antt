-- A draft that may show no event by its opcode shows none, unless it is bad.
use Rattle.std.proofs.Common.{◌≡◌, ℕ, Bool, true, false, not, cond, ◌&&◌, List, [], refl, sym}
use Rattle.std.proofs.lemmas.Bool.{false≢true, or_parts as neither}
use Rattle.redn_words.specs.declared.types.Obs.{Obs}
use Rattle.redn_words.specs.declared.types.Obs.TheVariants as shows
use Rattle.redn_words.specs.declared.types.Kind.{Kind}
use Rattle.redn_words.specs.declared.types.Kind.TheVariants.{Vars, Table, Code, Control, Message}
use Rattle.redn_words.specs.declared.types.Request.{Request}
use Rattle.redn_words.specs.declared.types.Origin.{Origin}
use Rattle.redn_words.specs.declared.types.Opcode.{Opcode}
use Rattle.redn_words.specs.declared.types.Opcode.TheVariants.{Noop, Write, Read, Cas, Add, Send}
use Rattle.redn_proof_landing.specs.Segments.{IsGood}
use Rattle.redn_proof_ring.proofs.NoFaults.{reaches_plain}
use Rattle.redn_segment.specs.Plain.{Bytes, Put, Outcome, Went, Bad, acts, with_event, local_space, remote_space, local_bytes, remote_bytes, request_of, origin, fits, reaches, is_atomic}
use Rattle.redn_segment.specs.Sites.{kind_of, space_of, is_table}
use Rattle.redn_segment.specs.Templates.{is_variable, is_shown, may_show_by}
use Rattle.redn_words.specs.Landings.{write_shows, read_shows, add_shows, is_hidden, when}
use Rattle.redn_words.specs.Words.{word}
use Rattle.redn_kernel.specs.declared.types.Cell.TheVariants.{Var}
use Rattle.redn_segment.specs.declared.types.Site.{Site}
use Rattle.redn_segment.specs.declared.types.Site.TheVariants as site
use Rattle.redn_segment.specs.declared.types.Draft.{Draft}

abbrev IsUnseen : Obs → Type 0
IsUnseen shows.Nothing = Unit {0}
IsUnseen (shows.Odd q i) = Unit {0}
IsUnseen _ = ⊥

abbrev Silent : Outcome → Type 0
Silent o = (us : List Put) × (o ≡ Went us [])

event_silent : (us : List Put) (o : Obs) → IsUnseen o → IsGood (with_event us o) → Silent (with_event us o)
event_silent us shows.Nothing h g = (us, refl)
event_silent us (shows.Odd q i) h g = absurd g
event_silent us _ h g = absurd h

abbrev no_events : Kind → Bool
no_events Vars = false
no_events (Table t) = false
no_events _ = true

abbrev no_vars : Kind → Bool
no_vars Vars = false
no_vars _ = true

site_no_events : (x : Site) → is_shown x ≡ false → no_events (kind_of (space_of x)) ≡ true
site_no_events (site.Cell (Var i)) h = absurd (false≢true (sym h))
site_no_events (site.Table t o) h = absurd (false≢true (sym h))
site_no_events _ h = refl

site_no_vars : (x : Site) → is_variable x ≡ false → no_vars (kind_of (space_of x)) ≡ true
site_no_vars (site.Cell (Var i)) h = absurd (false≢true (sym h))
site_no_vars _ h = refl

shown_flat : (x : Site) → is_shown x ≡ false → is_table x ≡ false
shown_flat (site.Table t o) h = h
shown_flat _ h = refl

module _ (o : Origin) (r : Request) (w : ℕ) where
  write_unseen : (j k : Kind) → no_events k ≡ true → IsUnseen (write_shows o r w j k)
  write_unseen (Table t) k h = tt
  write_unseen Vars Code h = tt
  write_unseen Vars Control h = tt
  write_unseen Vars Message h = tt
  write_unseen Code Code h = tt
  write_unseen Code Control h = tt
  write_unseen Code Message h = tt
  write_unseen Control Code h = tt
  write_unseen Control Control h = tt
  write_unseen Control Message h = tt
  write_unseen Message Code h = tt
  write_unseen Message Control h = tt
  write_unseen Message Message h = tt
  write_unseen _ Vars h = absurd (false≢true h)
  write_unseen _ (Table t) h = absurd (false≢true h)

  read_unseen : (j k : Kind) → no_vars j ≡ true → no_events k ≡ true → IsUnseen (read_shows o r w j k)
  read_unseen Vars k g h = absurd (false≢true g)
  read_unseen (Table t) k g h = tt
  read_unseen Message k g h = tt
  read_unseen Code Code g h = tt
  read_unseen Code Control g h = tt
  read_unseen Code Message g h = tt
  read_unseen Control Code g h = tt
  read_unseen Control Control g h = tt
  read_unseen Control Message g h = tt
  read_unseen _ Vars g h = absurd (false≢true h)
  read_unseen _ (Table t) g h = absurd (false≢true h)

  add_unseen_by : (b : Bool) (k : Kind) → no_events k ≡ true → IsUnseen (cond b (add_shows o r w Code k) (shows.Odd o.queue o.index))
  add_unseen_by false k h = tt
  add_unseen_by true Code h = tt
  add_unseen_by true Control h = tt
  add_unseen_by true Message h = tt
  add_unseen_by true Vars h = absurd (false≢true h)
  add_unseen_by true (Table t) h = absurd (false≢true h)

  cas_unseen : (b : Bool) → IsUnseen (when b shows.Nothing o)
  cas_unseen true = tt
  cas_unseen false = tt

pass : (b : Bool) (o : Outcome) → IsGood (cond (not b) Bad o) → (IsGood o → Silent o) → Silent (cond (not b) Bad o)
pass true o g f = f g
pass false o g f = absurd g

reach : (b : Bool) (p o : Outcome) → b ≡ true → IsGood (cond (not b) p o) → (IsGood o → Silent o) → Silent (cond (not b) p o)
reach true p o e g f = f g
reach false p o e g f = absurd (cc)

module _ (chain : ℕ) (s : Bytes) (slot : List ℕ) (d : Draft) where
  pub unseen : (op : Opcode) → may_show_by d op ≡ false → IsGood (acts chain s slot d op) → (us : List Put) × (acts chain s slot d op ≡ Went us [])
  unfolding acts
  unseen Noop h g = ([], refl)
  unseen Write h g =
      pass (fits d d.length) _ g (λ a. reach (reaches s slot d d.length) _ _ (reaches_plain chain s slot d (shown_flat d.remote h)) a (event_silent _ _ (write_unseen (origin chain) (request_of slot d) (word (local_bytes s d d.length) 0) (kind_of (local_space d)) (kind_of (remote_space d)) (site_no_events d.remote h))))
  unseen Read h g =
      let both = neither (is_shown d.remote) (is_variable d.local) h in
      pass (fits d d.length) _ g (λ a. reach (reaches s slot d d.length) _ _ (reaches_plain chain s slot d (shown_flat d.remote both.0)) a (event_silent _ _ (read_unseen (origin chain) (request_of slot d) (word (remote_bytes s slot d d.length) 0) (kind_of (local_space d)) (kind_of (remote_space d)) (site_no_vars d.local both.1) (site_no_events d.remote both.0))))
  unseen Cas h g =
      pass (fits d 8 && is_atomic d) _ g (event_silent _ _ (cas_unseen (origin chain) (request_of slot d) 0 (is_hidden (kind_of (local_space d)) && is_hidden (kind_of (remote_space d)))))
  unseen Add h g =
      pass (fits d 8 && is_atomic d) _ g (event_silent _ _ (add_unseen_by (origin chain) (request_of slot d) _ (is_hidden (kind_of (local_space d))) (kind_of (remote_space d)) (site_no_events d.remote h)))
  unseen Send h g = absurd (false≢true (sym h))
  unseen _ h g = absurd g
