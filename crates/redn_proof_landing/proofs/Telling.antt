-- A placed draft shows what its plain step says.
use Rattle.std.proofs.Common.{◌≡◌, ℕ, ◌/◌, ◌%◌, Bool, true, false, ◌&&◌, ◌==◌, List, [], ◌∷◌, map, refl, sym, ap, ◌∙◌, subst}
use Rattle.std.specs.Prelude.{nat_le}
use Rattle.redn_words.specs.declared.types.Kind.{Kind}
use Rattle.redn_words.specs.declared.types.Kind.TheVariants.{Vars, Table, Code, Control, Message}
use Rattle.redn_words.specs.declared.types.Request.{Request}
use Rattle.redn_words.specs.declared.types.Origin.{Origin}
use Rattle.redn_words.specs.declared.types.Obs.{Obs}
use Rattle.redn_words.specs.declared.types.Obs.TheVariants as shows
use Rattle.redn_proof_landing.specs.Homes.{LandsAs, LandsWell, change_of, told_by}
use Rattle.redn_segment.specs.Homes.{Home}
use Rattle.redn_segment.specs.Plain.{Put, with_event}
use Rattle.redn_words.specs.Landings.{Place, Change, done, when, write_to, write_shows, read_into_vars, read_hidden, read_shows, is_hidden, cas_shows, add_to, add_shows, send_shows, reply_words}
use Rattle.redn_segment.specs.declared.types.Space.{Space}

-- the plain one is odd, or both are the same event
abbrev pub Tells : Obs → Obs → Type 0
Tells (shows.Odd q i) real = Unit {0}
Tells (shows.Fault c t o) real = ⊥
Tells plain real = plain ≡ real

-- the offsets that events tell
abbrev pub same_offset : Kind → ℕ → ℕ → Type 0
same_offset Vars a b = a ≡ b
same_offset (Table t) a b = a ≡ b
same_offset _ a b = Unit {0}

module _ (o p : Origin) (same : o.chain ≡ p.chain) where
  when_tells : (b : Bool) (x y : Obs) → Tells x y → Tells (when b x o) (when b y p)
  when_tells true x y h = h
  when_tells false x y h = tt

  module _ (q r : Request) (len : q.length ≡ r.length) where
    write_to_tells : (w : ℕ) (k : Kind) → same_offset k q.remote r.remote → Tells (write_to o q w k) (write_to p r w k)
    write_to_tells w Vars e =
        subst (λ (n : ℕ). Tells (write_to o q w Vars) (when (n == 8 && r.remote % 8 == 0) (shows.Set p.chain (r.remote / 8) w) p)) len (subst (λ (n : ℕ). Tells (write_to o q w Vars) (when (q.length == 8 && n % 8 == 0) (shows.Set p.chain (n / 8) w) p)) e (when_tells (q.length == 8 && q.remote % 8 == 0) (shows.Set o.chain (q.remote / 8) w) (shows.Set p.chain (q.remote / 8) w) (ap (λ (c : ℕ). shows.Set c (q.remote / 8) w) same)))
    write_to_tells w (Table t) e =
        subst (λ (n : ℕ). Tells (write_to o q w (Table t)) (when (n == 8) (shows.Store p.chain t r.remote w) p)) len (subst (λ (n : ℕ). Tells (write_to o q w (Table t)) (when (q.length == 8) (shows.Store p.chain t n w) p)) e (when_tells (q.length == 8) (shows.Store o.chain t q.remote w) (shows.Store p.chain t q.remote w) (ap (λ (c : ℕ). shows.Store c t q.remote w) same)))
    write_to_tells w Message e = tt
    write_to_tells w _ e = refl

    pub write_tells : (w : ℕ) (j k : Kind) → same_offset k q.remote r.remote → Tells (write_shows o q w j k) (write_shows p r w j k)
    write_tells w (Table t) k e = tt
    write_tells w _ k e = write_to_tells w k e

    into_vars_set : (w : ℕ) → q.local ≡ r.local → Tells (when (q.length == 8 && q.local % 8 == 0) (shows.Set o.chain (q.local / 8) w) o) (when (r.length == 8 && r.local % 8 == 0) (shows.Set p.chain (r.local / 8) w) p)
    into_vars_set w e =
        subst (λ (n : ℕ). Tells (when (q.length == 8 && q.local % 8 == 0) (shows.Set o.chain (q.local / 8) w) o) (when (n == 8 && r.local % 8 == 0) (shows.Set p.chain (r.local / 8) w) p)) len (subst (λ (n : ℕ). Tells (when (q.length == 8 && q.local % 8 == 0) (shows.Set o.chain (q.local / 8) w) o) (when (q.length == 8 && n % 8 == 0) (shows.Set p.chain (n / 8) w) p)) e (when_tells (q.length == 8 && q.local % 8 == 0) (shows.Set o.chain (q.local / 8) w) (shows.Set p.chain (q.local / 8) w) (ap (λ (c : ℕ). shows.Set c (q.local / 8) w) same)))

    into_vars_tells : (w : ℕ) (k : Kind) → q.local ≡ r.local → same_offset k q.remote r.remote → Tells (read_into_vars o q w k) (read_into_vars p r w k)
    into_vars_tells w (Table t) l e =
        let told : Tells (read_into_vars o q w (Table t)) (when (q.length == 8 && q.local % 8 == 0) (shows.Load p.chain (q.local / 8) t q.remote w) p) = when_tells (q.length == 8 && q.local % 8 == 0) (shows.Load o.chain (q.local / 8) t q.remote w) (shows.Load p.chain (q.local / 8) t q.remote w) (ap (λ (c : ℕ). shows.Load c (q.local / 8) t q.remote w) same) in
        subst (λ (n : ℕ). Tells (read_into_vars o q w (Table t)) (when (n == 8 && r.local % 8 == 0) (shows.Load p.chain (r.local / 8) t r.remote w) p)) len (subst (λ (n : ℕ). Tells (read_into_vars o q w (Table t)) (when (q.length == 8 && n % 8 == 0) (shows.Load p.chain (n / 8) t r.remote w) p)) l (subst (λ (n : ℕ). Tells (read_into_vars o q w (Table t)) (when (q.length == 8 && q.local % 8 == 0) (shows.Load p.chain (q.local / 8) t n w) p)) e told))
    into_vars_tells w Vars l e = into_vars_set w l
    into_vars_tells w _ l e = into_vars_set w l

    hidden_tells : (w : ℕ) (k : Kind) → same_offset k q.remote r.remote → Tells (read_hidden o q w k) (read_hidden p r w k)
    hidden_tells w (Table t) e =
        subst (λ (n : ℕ). Tells (read_hidden o q w (Table t)) (when (n == 8) (shows.Look p.chain t r.remote w) p)) len (subst (λ (n : ℕ). Tells (read_hidden o q w (Table t)) (when (q.length == 8) (shows.Look p.chain t n w) p)) e (when_tells (q.length == 8) (shows.Look o.chain t q.remote w) (shows.Look p.chain t q.remote w) (ap (λ (c : ℕ). shows.Look c t q.remote w) same)))
    hidden_tells w Vars e = refl
    hidden_tells w _ e = refl

    pub read_tells : (w : ℕ) (j k : Kind) → same_offset j q.local r.local → same_offset k q.remote r.remote → Tells (read_shows o q w j k) (read_shows p r w j k)
    read_tells w Vars k l e = into_vars_tells w k l e
    read_tells w (Table t) k l e = tt
    read_tells w Message k l e = tt
    read_tells w _ k l e = hidden_tells w k e

    add_to_tells : (w : ℕ) (k : Kind) → same_offset k q.remote r.remote → Tells (add_to o q w k) (add_to p r w k)
    add_to_tells w Vars e = ap (λ (c : ℕ). shows.Set c (q.remote / 8) w) same ∙ ap (λ (n : ℕ). shows.Set p.chain (n / 8) w) e
    add_to_tells w (Table t) e = tt
    add_to_tells w Message e = tt
    add_to_tells w _ e = refl

    pub add_tells : (w : ℕ) (j k : Kind) → same_offset k q.remote r.remote → Tells (add_shows o q w j k) (add_shows p r w j k)
    add_tells w Code k e = add_to_tells w k e
    add_tells w Control k e = add_to_tells w k e
    add_tells w _ k e = tt

    pub send_tells : (sent : List ℕ) (j : Kind) → Tells (send_shows o q sent j) (send_shows p r sent j)
    send_tells sent Control =
        subst (λ (n : ℕ). Tells (send_shows o q sent Control) (when (n % 8 == 0 && nat_le n 64) (shows.Reply p.chain (n / 8) (reply_words (n / 8) sent)) p)) len (when_tells (q.length % 8 == 0 && nat_le q.length 64) (shows.Reply o.chain (q.length / 8) (reply_words (q.length / 8) sent)) (shows.Reply p.chain (q.length / 8) (reply_words (q.length / 8) sent)) (ap (λ (c : ℕ). shows.Reply c (q.length / 8) (reply_words (q.length / 8) sent)) same))
    send_tells sent Vars = tt
    send_tells sent _ = tt

  pub cas_tells : (j k : Kind) → Tells (cas_shows o j k) (cas_shows p j k)
  cas_tells j k = when_tells (is_hidden j && is_hidden k) shows.Nothing shows.Nothing refl

abbrev place : ℕ → ℕ → Place
place at len = record { at = at; len = len }

pub same_place : (a b m n : ℕ) → a ≡ b → m ≡ n → place a m ≡ place b n
same_place a b m n e f = cc

module _ (home : Space → Home) where
  -- so a landing that is done shows what its plain step does
  module _ (us : List Put) (real : Obs) (at len : ℕ) (reads : Place) (writes : List Change) (reads_are : place at len ≡ reads) (writes_are : writes ≡ map (change_of home) us) where
    told : (events : List Obs) → told_by home real ≡ events → LandsWell home reads us events (done at len writes real)
    told events e = record { allowed = refl; reads_are = reads_are; writes_are = writes_are; shown_is = e }

    pub lands_told : (plain : Obs) → Tells plain real → LandsAs home reads (with_event us plain) (done at len writes real)
    lands_told shows.Nothing h = told [] (ap (told_by home) (sym h))
    lands_told (shows.Set c v w) h = told (shows.Set c v w ∷ []) (ap (told_by home) (sym h))
    lands_told (shows.Load c v t o w) h = told (shows.Load c v t o w ∷ []) (ap (told_by home) (sym h))
    lands_told (shows.Look c t o w) h = told (shows.Look c t o w ∷ []) (ap (told_by home) (sym h))
    lands_told (shows.Store c t o w) h = told (shows.Store c t o w ∷ []) (ap (told_by home) (sym h))
    lands_told (shows.Reply c n ws) h = told (shows.Reply c n ws ∷ []) (ap (told_by home) (sym h))
    lands_told (shows.Fault c t o) h = absurd h
    lands_told _ h = tt
