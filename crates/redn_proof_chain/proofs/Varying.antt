-- What a draft puts into variables is what its event tells.
use Rattle.std.proofs.Common.{◌≡◌, ℕ, ◌+◌, ◌/◌, ◌%◌, ◌<◌, ◌≤◌, ◌^◌, Bool, true, false, not, cond, ◌&&◌, ◌||◌, ◌==◌, List, [], ◌∷◌, ◌++◌, length, drop, refl, sym, ap, ◌∙◌, subst, arith, length-take, length-drop}
use Rattle.std.specs.Prelude.{nat_le, slice_set}
use Rattle.std.proofs.lemmas.Bool.{false≢true, true≢false, and_parts, leb-true, eqb-true}
use Rattle.redn_words.specs.declared.types.Obs.{Obs}
use Rattle.redn_words.specs.declared.types.Obs.TheVariants as shows
use Rattle.redn_words.specs.declared.types.Kind.{Kind}
use Rattle.redn_words.specs.declared.types.Kind.TheVariants.{Vars, Table, Control, Message}
use Rattle.redn_words.specs.declared.types.Request.{Request}
use Rattle.redn_words.specs.declared.types.Origin.{Origin}
use Rattle.redn_words.specs.declared.types.Opcode.{Opcode}
use Rattle.redn_words.specs.declared.types.Opcode.TheVariants.{Noop, Write, Read, Cas, Add, Send, Wait, Enable, Undefined}
use Rattle.redn_words.specs.Landings.{write_shows, write_to, read_shows, read_into_vars, read_hidden, add_to, odd, cas_shows, send_shows, reply_words, is_hidden, when, sum_of}
use Rattle.redn_words.specs.Words.{word, spelled}
use Rattle.redn_words.proofs.Numbers.{number-spelled, length-spelled}
use Rattle.std.proofs.Math.Nat.{mod-lt}
use Rattle.redn_kernel.specs.declared.types.Cell.TheVariants.{Var}
use Rattle.redn_segment.specs.declared.types.Space.{Space}
use Rattle.redn_segment.specs.declared.types.Space.TheVariants as space
use Rattle.redn_segment.specs.declared.types.Site.{Site}
use Rattle.redn_segment.specs.declared.types.Site.TheVariants as site
use Rattle.redn_segment.specs.declared.types.Draft.{Draft}
use Rattle.redn_segment.specs.Plain.{Bytes, Put, put, Went, acts, with_event, local_space, remote_space, local_at, local_bytes, remote_bytes, remote_at, to_local, to_remote, swap, request_of, origin, fits, reaches, is_atomic, is_length, first_in}
use Rattle.redn_segment.specs.Sites.{kind_of, space_of, start_of, is_table, inside, offset_of}
use Rattle.redn_segment.proofs.Kept.{not_true}
use Rattle.redn_graph.specs.Run.{GraphState}
use Rattle.redn_image.specs.Faithful.{IsClean}
use Rattle.redn_proof_chain.proofs.States.{IsBehind}
use Rattle.redn_proof_chain.proofs.Shapes.{went_puts, went_events, fit, reach}
use Rattle.redn_proof_chain.proofs.Tabling.{puts_are, fit_true, reach_true}
use Rattle.redn_segment.proofs.Targets.{its_number as eighth}
use Rattle.redn_segment.proofs.PutSides.{not_past as past_none}

abbrev pub is_variable_space : Space → Bool
is_variable_space (space.Cell (Var i)) = true
is_variable_space _ = false

-- no variable
abbrev pub VarFlat : List Put → Type 0
VarFlat [] = Unit {0}
VarFlat (u ∷ us) = (is_variable_space u.space ≡ false) × VarFlat us

-- an event that tells of no variable, and one that tells of this one and this word
abbrev pub NoVar : Obs → Type 0
NoVar (shows.Set c v w) = ⊥
NoVar (shows.Load c v t o w) = ⊥
NoVar _ = Unit {0}

abbrev pub NoVars : List Obs → Type 0
NoVars [] = Unit {0}
NoVars (e ∷ es) = NoVar e × NoVars es

abbrev pub IsSet : ℕ → ℕ → Obs → Type 0
IsSet i u (shows.Set c v w) = (v ≡ i) × (w ≡ u)
IsSet i u (shows.Load c v t o w) = (v ≡ i) × (w ≡ u)
IsSet i u _ = ⊥

no_vars : (us vs : List Put) (events : List Obs) (e : Obs) → NoVar e → with_event us e ≡ Went vs events → NoVars events
no_vars us vs events shows.Nothing h is = subst NoVars (sym (went_events us vs [] events is)) tt
no_vars us vs events (shows.Set c v w) h is = absurd h
no_vars us vs events (shows.Load c v t o w) h is = absurd h
no_vars us vs events (shows.Look c t o w) h is = subst NoVars (sym (went_events us vs (shows.Look c t o w ∷ []) events is)) (tt, tt)
no_vars us vs events (shows.Store c t o w) h is = subst NoVars (sym (went_events us vs (shows.Store c t o w ∷ []) events is)) (tt, tt)
no_vars us vs events (shows.Reply c n ws) h is = subst NoVars (sym (went_events us vs (shows.Reply c n ws ∷ []) events is)) (tt, tt)
no_vars us vs events _ h is = absurd (cc)

abbrev plain_kind : Kind → Bool
plain_kind Vars = false
plain_kind _ = true

plain_space : (p : Space) → is_variable_space p ≡ false → plain_kind (kind_of p) ≡ true
plain_space (space.Cell (Var i)) e = absurd (true≢false e)
plain_space (space.Cell _) e = refl
plain_space _ e = refl

hidden_space : (p : Space) → is_hidden (kind_of p) ≡ true → is_variable_space p ≡ false
hidden_space (space.Cell (Var i)) e = absurd (false≢true e)
hidden_space (space.Cell _) e = refl
hidden_space _ e = refl

module _ (o : Origin) (r : Request) (w : ℕ) where
  when_plain : (b : Bool) (e : Obs) → NoVar e → NoVar (when b e o)
  when_plain true e h = h
  when_plain false e h = tt

  to_plain : (k : Kind) → plain_kind k ≡ true → NoVar (write_to o r w k)
  to_plain Vars h = absurd (false≢true h)
  to_plain (Table t) h = when_plain (r.length == 8) (shows.Store o.chain t r.remote w) tt
  to_plain _ h = tt

  write_plain : (j k : Kind) → plain_kind k ≡ true → NoVar (write_shows o r w j k)
  write_plain (Table t) k h = tt
  write_plain _ k h = to_plain k h

  hidden_plain : (k : Kind) → NoVar (read_hidden o r w k)
  hidden_plain (Table t) = when_plain (r.length == 8) (shows.Look o.chain t r.remote w) tt
  hidden_plain _ = tt

  read_plain : (j k : Kind) → plain_kind j ≡ true → NoVar (read_shows o r w j k)
  read_plain Vars k h = absurd (false≢true h)
  read_plain (Table t) k h = tt
  read_plain Message k h = tt
  read_plain _ k h = hidden_plain k

  send_plain : (bytes : List ℕ) (k : Kind) → NoVar (send_shows o r bytes k)
  send_plain bytes Control = by_size (r.length % 8 == 0 && nat_le r.length 64) (reply_words (r.length / 8) bytes)
    where
      by_size : (b : Bool) (ws : List ℕ) → NoVar (when b (shows.Reply o.chain (r.length / 8) ws) o)
      by_size true ws = tt
      by_size false ws = tt
  send_plain bytes _ = tt

  -- a word that goes to a variable
  set_went : (j : Kind) (us vs : List Put) (events : List Obs) → with_event us (write_shows o r w j Vars) ≡ Went vs events → (r.length ≡ 8) × (events ≡ shows.Set o.chain (r.remote / 8) w ∷ [])
  set_went j us vs events e = by_kind j e
    where
      by_size : (b : Bool) → (r.length == 8 && r.remote % 8 == 0) ≡ b → with_event us (when b (shows.Set o.chain (r.remote / 8) w) o) ≡ Went vs events → (r.length ≡ 8) × (events ≡ shows.Set o.chain (r.remote / 8) w ∷ [])
      by_size true f q = let parts = and_parts (r.length == 8) (r.remote % 8 == 0) f in (eqb-true r.length 8 parts.0, went_events us vs (shows.Set o.chain (r.remote / 8) w ∷ []) events q)
      by_size false f q = absurd (cc)

      by_kind : (k : Kind) → with_event us (write_shows o r w k Vars) ≡ Went vs events → (r.length ≡ 8) × (events ≡ shows.Set o.chain (r.remote / 8) w ∷ [])
      by_kind (Table i) q = absurd (cc)
      by_kind _ q = by_size (r.length == 8 && r.remote % 8 == 0) refl q

  load_went : (k : Kind) (us vs : List Put) (events : List Obs) → with_event us (read_into_vars o r w k) ≡ Went vs events → (r.length ≡ 8) × ((e : Obs) × (events ≡ e ∷ []) × IsSet (r.local / 8) w e)
  load_went k us vs events e = by_kind k e
    where
      by_load : (t : ℕ) (b : Bool) → (r.length == 8 && r.local % 8 == 0) ≡ b → with_event us (when b (shows.Load o.chain (r.local / 8) t r.remote w) o) ≡ Went vs events → (r.length ≡ 8) × ((e : Obs) × (events ≡ e ∷ []) × IsSet (r.local / 8) w e)
      by_load t true f q = let parts = and_parts (r.length == 8) (r.local % 8 == 0) f in (eqb-true r.length 8 parts.0, (shows.Load o.chain (r.local / 8) t r.remote w, went_events us vs (shows.Load o.chain (r.local / 8) t r.remote w ∷ []) events q, (refl, refl)))
      by_load t false f q = absurd (cc)

      by_set : (b : Bool) → (r.length == 8 && r.local % 8 == 0) ≡ b → with_event us (when b (shows.Set o.chain (r.local / 8) w) o) ≡ Went vs events → (r.length ≡ 8) × ((e : Obs) × (events ≡ e ∷ []) × IsSet (r.local / 8) w e)
      by_set true f q = let parts = and_parts (r.length == 8) (r.local % 8 == 0) f in (eqb-true r.length 8 parts.0, (shows.Set o.chain (r.local / 8) w, went_events us vs (shows.Set o.chain (r.local / 8) w ∷ []) events q, (refl, refl)))
      by_set false f q = absurd (cc)

      by_kind : (k : Kind) → with_event us (read_into_vars o r w k) ≡ Went vs events → (r.length ≡ 8) × ((e : Obs) × (events ≡ e ∷ []) × IsSet (r.local / 8) w e)
      by_kind (Table t) q = by_load t (r.length == 8 && r.local % 8 == 0) refl q
      by_kind _ q = by_set (r.length == 8 && r.local % 8 == 0) refl q

or_second : (b c : Bool) → b ≡ false → b || c ≡ true → c ≡ true
or_second true c e h = absurd (true≢false e)
or_second false c e h = h

module _ (chain : ℕ) (s : Bytes) (slot : List ℕ) (d : Draft) (us : List Put) (events : List Obs) where
  pub data Varies : Type 0 where
    Keeps : VarFlat us → NoVars events → Varies
    Sets : (i : ℕ) (bytes : List ℕ) (rest : List Put) (e : Obs) → us ≡ put (space.Cell (Var i)) 0 bytes ∷ rest → VarFlat rest → events ≡ e ∷ [] → IsSet i (word bytes 0) e → length bytes ≡ 8 → Varies

  module _ (near : is_table d.local ≡ false → inside d.local d.local_byte 8 ≡ true → length (local_bytes s d 8) ≡ 8) where
    both_fit : (len : ℕ) → fits d len ≡ true → (is_table d.local ≡ false) × (inside d.local d.local_byte len ≡ true) × (is_table d.remote || inside d.remote d.remote_byte len ≡ true)
    both_fit len e =
        let one = and_parts (is_length len) (not (is_table d.local) && (inside d.local d.local_byte len && (is_table d.remote || inside d.remote d.remote_byte len))) e in
        let two = and_parts (not (is_table d.local)) (inside d.local d.local_byte len && (is_table d.remote || inside d.remote d.remote_byte len)) one.1 in
        let three = and_parts (inside d.local d.local_byte len) (is_table d.remote || inside d.remote d.remote_byte len) two.1 in
        (not_true (is_table d.local) two.0, three.0, three.1)

    -- a side in a variable of eight bytes begins where it does
    at_start : (x : Site) (byte i : ℕ) → x ≡ site.Cell (Var i) → inside x byte 8 ≡ true → byte ≡ 0
    at_start x byte i is e =
        let now : inside (site.Cell (Var i)) byte 8 ≡ true = subst (λ (y : Site). inside y byte 8 ≡ true) is e in
        let parts = and_parts (nat_le (byte + 8) 8) true now in
        let le = leb-true (byte + 8) 8 parts.0 in
        omega (arith, le)

    writes_plain : is_variable_space (remote_space d) ≡ false → acts chain s slot d Write ≡ Went us events → Varies
    unfolding acts
    writes_plain flat e =
        let goes = reach (reaches s slot d d.length) _ _ us events (past_none chain slot d (remote_space d) us events) (fit (fits d d.length) _ us events e) in
        Keeps (subst VarFlat (sym (puts_are _ us _ events goes)) (flat, tt)) (no_vars _ us events _ (write_plain (origin chain) (request_of slot d) (word (local_bytes s d d.length) 0) (kind_of (local_space d)) (kind_of (remote_space d)) (plain_space (remote_space d) flat)) goes)

    writes_var : (i : ℕ) → d.remote ≡ site.Cell (Var i) → acts chain s slot d Write ≡ Went us events → Varies
    unfolding acts
    writes_var i is e =
        let fits_it = fit_true (fits d d.length) _ us events e in
        let goes = reach (reaches s slot d d.length) _ _ us events (past_none chain slot d (remote_space d) us events) (fit (fits d d.length) _ us events e) in
        let kind : kind_of (remote_space d) ≡ Vars = ap (λ (x : Site). kind_of (space_of x)) is in
        let now : with_event (to_remote slot d (local_bytes s d d.length) ∷ []) (write_shows (origin chain) (request_of slot d) (word (local_bytes s d d.length) 0) (kind_of (local_space d)) Vars) ≡ Went us events =
        subst (λ (k : Kind). with_event (to_remote slot d (local_bytes s d d.length) ∷ []) (write_shows (origin chain) (request_of slot d) (word (local_bytes s d d.length) 0) (kind_of (local_space d)) k) ≡ Went us events) kind goes in
        let went = set_went (origin chain) (request_of slot d) (word (local_bytes s d d.length) 0) (kind_of (local_space d)) _ us events now in
        let sides = both_fit d.length fits_it in
        let flat : is_table d.remote ≡ false = ap is_table is in
        let far : inside d.remote d.remote_byte 8 ≡ true = subst (λ (n : ℕ). inside d.remote d.remote_byte n ≡ true) went.0 (or_second (is_table d.remote) (inside d.remote d.remote_byte d.length) flat sides.2) in
        let byte : d.remote_byte ≡ 0 = at_start d.remote d.remote_byte i is far in
        let place : remote_at slot d ≡ 0 = var_place i is byte in
        let offset : (request_of slot d).remote / 8 ≡ i = ap (λ (n : ℕ). offset_of (remote_space d) n / 8) place ∙ ap (λ (x : Site). offset_of (space_of x) 0 / 8) is ∙ eighth i in
        let inside_it : inside d.local d.local_byte 8 ≡ true = subst (λ (n : ℕ). inside d.local d.local_byte n ≡ true) went.0 sides.1 in
        let puts : us ≡ put (space.Cell (Var i)) 0 (local_bytes s d 8) ∷ [] = puts_are _ us _ events goes ∙ ap (λ (n : ℕ). put (remote_space d) n (local_bytes s d d.length) ∷ []) place ∙ ap (λ (x : Site). put (space_of x) 0 (local_bytes s d d.length) ∷ []) is ∙ ap (λ (n : ℕ). put (space.Cell (Var i)) 0 (local_bytes s d n) ∷ []) went.0 in
        Sets i (local_bytes s d 8) [] (shows.Set chain ((request_of slot d).remote / 8) (word (local_bytes s d d.length) 0)) puts tt went.1 (offset, ap (λ (n : ℕ). word (local_bytes s d n) 0) went.0) (near sides.0 inside_it)
      where
        var_place : (i : ℕ) → d.remote ≡ site.Cell (Var i) → d.remote_byte ≡ 0 → remote_at slot d ≡ 0
        var_place i is byte =
            let flat : is_table d.remote ≡ false = ap is_table is in
            let at : remote_at slot d ≡ start_of d.remote + d.remote_byte = rw flat refl in
            let start : start_of d.remote ≡ 0 = ap start_of is in
            omega (arith, at, start, byte)

    reads_plain : is_variable_space (local_space d) ≡ false → acts chain s slot d Read ≡ Went us events → Varies
    unfolding acts
    reads_plain flat e =
        let goes = reach (reaches s slot d d.length) _ _ us events (past_none chain slot d (remote_space d) us events) (fit (fits d d.length) _ us events e) in
        Keeps (subst VarFlat (sym (puts_are _ us _ events goes)) (flat, tt)) (no_vars _ us events _ (read_plain (origin chain) (request_of slot d) (word (remote_bytes s slot d d.length) 0) (kind_of (local_space d)) (kind_of (remote_space d)) (plain_space (local_space d) flat)) goes)

    reads_var : (i : ℕ) → d.local ≡ site.Cell (Var i) → is_table d.remote ≡ true → acts chain s slot d Read ≡ Went us events → Varies
    unfolding acts
    reads_var i is table e =
        let fits_it = fit_true (fits d d.length) _ us events e in
        let rest = fit (fits d d.length) _ us events e in
        let reaches_it = reach_true (reaches s slot d d.length) _ _ us events (past_none chain slot d (remote_space d) us events) rest in
        let goes = reach (reaches s slot d d.length) _ _ us events (past_none chain slot d (remote_space d) us events) rest in
        let kind : kind_of (local_space d) ≡ Vars = ap (λ (x : Site). kind_of (space_of x)) is in
        let now : with_event (to_local d (remote_bytes s slot d d.length) ∷ []) (read_shows (origin chain) (request_of slot d) (word (remote_bytes s slot d d.length) 0) Vars (kind_of (remote_space d))) ≡ Went us events =
        subst (λ (k : Kind). with_event (to_local d (remote_bytes s slot d d.length) ∷ []) (read_shows (origin chain) (request_of slot d) (word (remote_bytes s slot d d.length) 0) k (kind_of (remote_space d))) ≡ Went us events) kind goes in
        let went = load_went (origin chain) (request_of slot d) (word (remote_bytes s slot d d.length) 0) (kind_of (remote_space d)) _ us events now in
        let sides = both_fit d.length fits_it in
        let inside_it : inside d.local d.local_byte 8 ≡ true = subst (λ (n : ℕ). inside d.local d.local_byte n ≡ true) went.0 sides.1 in
        let byte : d.local_byte ≡ 0 = at_start d.local d.local_byte i is inside_it in
        let start : start_of d.local ≡ 0 = ap start_of is in
        let place : local_at d ≡ 0 = omega (arith, start, byte) in
        let offset : (request_of slot d).local / 8 ≡ i = ap (λ (n : ℕ). offset_of (local_space d) n / 8) place ∙ ap (λ (x : Site). offset_of (space_of x) 0 / 8) is ∙ eighth i in
        let room : nat_le (remote_at slot d + d.length) (length (s (remote_space d))) ≡ true = sym (ap (λ (b : Bool). cond b (nat_le (remote_at slot d + d.length) (length (s (remote_space d)))) true) table) ∙ reaches_it in
        let le : remote_at slot d + d.length ≤ length (s (remote_space d)) = leb-true (remote_at slot d + d.length) (length (s (remote_space d))) room in
        let eight : length (remote_bytes s slot d 8) ≡ 8 = (let n = went.0 in omega (arith, length-take 8 (drop (remote_at slot d) (s (remote_space d))), length-drop (remote_at slot d) (s (remote_space d)), le, n)) in
        let puts : us ≡ put (space.Cell (Var i)) 0 (remote_bytes s slot d 8) ∷ [] = puts_are _ us _ events goes ∙ ap (λ (n : ℕ). put (local_space d) n (remote_bytes s slot d d.length) ∷ []) place ∙ ap (λ (x : Site). put (space_of x) 0 (remote_bytes s slot d d.length) ∷ []) is ∙ ap (λ (n : ℕ). put (space.Cell (Var i)) 0 (remote_bytes s slot d n) ∷ []) went.0 in
        Sets i (remote_bytes s slot d 8) [] went.1.0 puts tt went.1.1 (set_as went.1.0 offset (ap (λ (n : ℕ). word (remote_bytes s slot d n) 0) went.0) went.1.2) eight
      where
        set_as : (e : Obs) {a b k l : ℕ} → a ≡ k → b ≡ l → IsSet a b e → IsSet k l e
        set_as (shows.Set c v w) p q h = (h.0 ∙ p, h.1 ∙ q)
        set_as (shows.Load c v t o w) p q h = (h.0 ∙ p, h.1 ∙ q)
        set_as _ p q h = absurd h

    swap_plain : (b : Bool) (rest : List Put) → is_variable_space (remote_space d) ≡ false → VarFlat rest → VarFlat (swap slot d b ++ rest)
    swap_plain true rest e h = (e, h)
    swap_plain false rest e h = h

    -- a CAS works on hidden words alone
    swaps : (vs : List Put) → (is_hidden (kind_of (local_space d)) ≡ true → is_hidden (kind_of (remote_space d)) ≡ true → VarFlat vs) → with_event vs (cas_shows (origin chain) (kind_of (local_space d)) (kind_of (remote_space d))) ≡ Went us events → Varies
    swaps vs flat e = by_hidden (is_hidden (kind_of (local_space d))) (is_hidden (kind_of (remote_space d))) refl refl e
      where
        by_hidden : (a b : Bool) → is_hidden (kind_of (local_space d)) ≡ a → is_hidden (kind_of (remote_space d)) ≡ b → with_event vs (when (a && b) shows.Nothing (origin chain)) ≡ Went us events → Varies
        by_hidden true true p q f = Keeps (subst VarFlat (sym (went_puts vs us [] events f)) (flat p q)) (subst NoVars (sym (went_events vs us [] events f)) tt)
        by_hidden true false p q f = absurd (cc)
        by_hidden false b p q f = absurd (cc)

    add_plain : (o : Origin) (r : Request) (w : ℕ) (k : Kind) → plain_kind k ≡ true → NoVar (add_to o r w k)
    add_plain o r w Vars h = absurd (false≢true h)
    add_plain o r w _ h = tt

    abbrev summed : ℕ
    summed = sum_of (request_of slot d) (word (remote_bytes s slot d 8) 0)

    abbrev added : List Put
    added = to_remote slot d (spelled 8 summed) ∷ to_local d (spelled 8 (word (remote_bytes s slot d 8) 0)) ∷ []

    adds_plain : is_variable_space (remote_space d) ≡ false → acts chain s slot d Add ≡ Went us events → Varies
    unfolding acts
    adds_plain flat e = by_near (is_hidden (kind_of (local_space d))) refl (fit (fits d 8 && is_atomic d) _ us events e)
      where
        by_near : (b : Bool) → is_hidden (kind_of (local_space d)) ≡ b → with_event added (cond b (add_to (origin chain) (request_of slot d) summed (kind_of (remote_space d))) (odd (origin chain))) ≡ Went us events → Varies
        by_near true p f = Keeps (subst VarFlat (sym (puts_are added us _ events f)) (flat, (hidden_space (local_space d) p, tt))) (no_vars added us events _ (add_plain (origin chain) (request_of slot d) summed (kind_of (remote_space d)) (plain_space (remote_space d) flat)) f)
        by_near false p f = absurd (cc)

    adds_var : (i : ℕ) → d.remote ≡ site.Cell (Var i) → acts chain s slot d Add ≡ Went us events → Varies
    unfolding acts
    adds_var i is e = by_near (is_hidden (kind_of (local_space d))) refl (fit (fits d 8 && is_atomic d) _ us events e)
      where
        fits_it : fits d 8 ≡ true
        fits_it = (and_parts (fits d 8) (is_atomic d) (fit_true (fits d 8 && is_atomic d) _ us events e)).0

        flat : is_table d.remote ≡ false
        flat = ap is_table is

        byte : d.remote_byte ≡ 0
        byte = at_start d.remote d.remote_byte i is (or_second (is_table d.remote) (inside d.remote d.remote_byte 8) flat (both_fit 8 fits_it).2)

        place : remote_at slot d ≡ 0
        place =
            let at : remote_at slot d ≡ start_of d.remote + d.remote_byte = rw flat refl in
            let start : start_of d.remote ≡ 0 = ap start_of is in
            omega (arith, at, start, byte)

        offset : (request_of slot d).remote / 8 ≡ i
        offset = ap (λ (n : ℕ). offset_of (remote_space d) n / 8) place ∙ ap (λ (x : Site). offset_of (space_of x) 0 / 8) is ∙ eighth i

        small : summed < 256 ^ 8
        small = mod-lt (word (remote_bytes s slot d 8) 0 + first_in slot) (omega arith)

        by_near : (b : Bool) → is_hidden (kind_of (local_space d)) ≡ b → with_event added (cond b (add_to (origin chain) (request_of slot d) summed (kind_of (remote_space d))) (odd (origin chain))) ≡ Went us events → Varies
        by_near false p f = absurd (cc)
        by_near true p f =
            let kind : kind_of (remote_space d) ≡ Vars = ap (λ (x : Site). kind_of (space_of x)) is in
            let now : with_event added (add_to (origin chain) (request_of slot d) summed Vars) ≡ Went us events = subst (λ (k : Kind). with_event added (add_to (origin chain) (request_of slot d) summed k) ≡ Went us events) kind f in
            let puts : us ≡ put (space.Cell (Var i)) 0 (spelled 8 summed) ∷ to_local d (spelled 8 (word (remote_bytes s slot d 8) 0)) ∷ [] =
            went_puts added us (shows.Set chain ((request_of slot d).remote / 8) summed ∷ []) events now ∙ ap (λ (n : ℕ). put (remote_space d) n (spelled 8 summed) ∷ to_local d (spelled 8 (word (remote_bytes s slot d 8) 0)) ∷ []) place ∙ ap (λ (x : Site). put (space_of x) 0 (spelled 8 summed) ∷ to_local d (spelled 8 (word (remote_bytes s slot d 8) 0)) ∷ []) is in
            Sets i (spelled 8 summed) (to_local d (spelled 8 (word (remote_bytes s slot d 8) 0)) ∷ []) (shows.Set chain ((request_of slot d).remote / 8) summed) puts (hidden_space (local_space d) p, tt) (went_events added us (shows.Set chain ((request_of slot d).remote / 8) summed ∷ []) events now) (offset, sym (number-spelled 8 summed small)) (length-spelled 8 summed)

    by_site : (op : Opcode) (x y : Site) → y ≡ x → ((i : ℕ) → y ≡ site.Cell (Var i) → acts chain s slot d op ≡ Went us events → Varies) → (is_variable_space (space_of y) ≡ false → acts chain s slot d op ≡ Went us events → Varies) → acts chain s slot d op ≡ Went us events → Varies
    by_site op (site.Cell (Var i)) y is var flat e = var i is e
    by_site op (site.Cell _) y is var flat e = flat (ap (λ (x : Site). is_variable_space (space_of x)) is) e
    by_site op _ y is var flat e = flat (ap (λ (x : Site). is_variable_space (space_of x)) is) e

    pub varies : (op : Opcode) → (op ≡ Read → is_table d.remote ≡ true) → acts chain s slot d op ≡ Went us events → Varies
    unfolding acts
    varies Noop g e = Keeps (subst VarFlat (sym (went_puts [] us [] events e)) tt) (subst NoVars (sym (went_events [] us [] events e)) tt)
    varies Write g e = by_site Write d.remote d.remote refl writes_var writes_plain e
    varies Read g e = by_site Read d.local d.local refl (λ i is f. reads_var i is (g refl) f) reads_plain e
    varies Add g e = by_site Add d.remote d.remote refl adds_var adds_plain e
    varies Cas g e =
        swaps (swap slot d (word (remote_bytes s slot d 8) 0 == first_in slot) ++ to_local d (spelled 8 (word (remote_bytes s slot d 8) 0)) ∷ []) (λ p q. swap_plain (word (remote_bytes s slot d 8) 0 == first_in slot) (to_local d (spelled 8 (word (remote_bytes s slot d 8) 0)) ∷ []) (hidden_space (remote_space d) q) (hidden_space (local_space d) p, tt)) (fit (fits d 8 && is_atomic d) _ us events e)
    varies Send g e =
        let goes = fit (is_length d.length && (not (is_table d.local) && inside d.local d.local_byte d.length)) _ us events e in
        Keeps (subst VarFlat (sym (puts_are [] us _ events goes)) tt) (no_vars [] us events _ (send_plain (origin chain) (request_of slot d) 0 (local_bytes s d d.length) (kind_of (local_space d))) goes)
    varies _ g e = absurd (cc)

-- a draft that shows nothing puts nothing into a variable
module _ (chain : ℕ) (s : Bytes) (slot : List ℕ) (d : Draft) (us : List Put) (near : is_table d.local ≡ false → inside d.local d.local_byte 8 ≡ true → length (local_bytes s d 8) ≡ 8) where
  by_varies : Varies chain s slot d us [] → VarFlat us
  by_varies (Keeps flat none) = flat
  by_varies (Sets i bytes rest e puts flat events set long) = absurd (cc)

  reads_none : (i : ℕ) → d.local ≡ site.Cell (Var i) → acts chain s slot d Read ≡ Went us [] → ⊥
  unfolding acts
  reads_none i is e =
      let goes = reach (reaches s slot d d.length) _ _ us [] (past_none chain slot d (remote_space d) us []) (fit (fits d d.length) _ us [] e) in
      let kind : kind_of (local_space d) ≡ Vars = ap (λ (x : Site). kind_of (space_of x)) is in
      let now : with_event (to_local d (remote_bytes s slot d d.length) ∷ []) (read_shows (origin chain) (request_of slot d) (word (remote_bytes s slot d d.length) 0) Vars (kind_of (remote_space d))) ≡ Went us [] =
      subst (λ (k : Kind). with_event (to_local d (remote_bytes s slot d d.length) ∷ []) (read_shows (origin chain) (request_of slot d) (word (remote_bytes s slot d d.length) 0) k (kind_of (remote_space d))) ≡ Went us []) kind goes in
      none (load_went (origin chain) (request_of slot d) (word (remote_bytes s slot d d.length) 0) (kind_of (remote_space d)) _ us [] now).1.1
    where
      none : {o : Obs} → [] ≡ o ∷ [] → ⊥
      none q = absurd (cc)

  pub silent_flat : (op : Opcode) → acts chain s slot d op ≡ Went us [] → VarFlat us
  silent_flat Noop e = by_varies (varies chain s slot d us [] near Noop (λ q. absurd (cc)) e)
  silent_flat Write e = by_varies (varies chain s slot d us [] near Write (λ q. absurd (cc)) e)
  silent_flat Read e = by_varies (by_site chain s slot d us [] near Read d.local d.local refl (λ i is f. absurd (reads_none i is f)) (reads_plain chain s slot d us [] near) e)
  silent_flat Cas e = by_varies (varies chain s slot d us [] near Cas (λ q. absurd (cc)) e)
  silent_flat Add e = by_varies (varies chain s slot d us [] near Add (λ q. absurd (cc)) e)
  silent_flat Send e = by_varies (varies chain s slot d us [] near Send (λ q. absurd (cc)) e)
  silent_flat Wait e = by_varies (varies chain s slot d us [] near Wait (λ q. absurd (cc)) e)
  silent_flat Enable e = by_varies (varies chain s slot d us [] near Enable (λ q. absurd (cc)) e)
  silent_flat (Undefined n) e = by_varies (varies chain s slot d us [] near (Undefined n) (λ q. absurd (cc)) e)

-- which variables a graph has behind such an event
pub vars_kept : (o : Obs) (x z : GraphState) → IsClean o → NoVar o → IsBehind o x z → z.cells.vars ≡ x.cells.vars
vars_kept shows.Nothing x z clean none h = h
vars_kept (shows.Set c v w) x z clean none h = absurd none
vars_kept (shows.Load c v t o w) x z clean none h = absurd none
vars_kept (shows.Look c t o w) x z clean none h = h
vars_kept (shows.Store c t o w) x z clean none h = h
vars_kept (shows.Reply c n ws) x z clean none h = h.1
vars_kept (shows.Fault c t o) x z clean none h = ap (λ (y : GraphState). y.cells.vars) h
vars_kept _ x z clean none h = absurd clean

pub vars_set : (i w : ℕ) (o : Obs) (x z : GraphState) → IsSet i w o → IsBehind o x z → z.cells.vars ≡ slice_set x.cells.vars i w
vars_set i w (shows.Set c v u) x z set h = h ∙ ap (λ (k : ℕ). slice_set x.cells.vars k u) set.0 ∙ ap (slice_set x.cells.vars i) set.1
vars_set i w (shows.Load c v t o u) x z set h = h ∙ ap (λ (k : ℕ). slice_set x.cells.vars k u) set.0 ∙ ap (slice_set x.cells.vars i) set.1
vars_set i w _ x z set h = absurd set
