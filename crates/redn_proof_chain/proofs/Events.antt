-- The event's draft of a window: what it puts and shows, and where the graph then is.
use Rattle.std.proofs.Common.{◌≡◌, ℕ, zero, suc, ◌+◌, ◌<◌, ◌≤◌, ◌⊎◌, inl, inr, Bool, true, false, not, cond, ◌||◌, List, [], ◌∷◌, map, length, refl, sym, ap, ◌∙◌, subst, arith}
use Rattle.std.specs.Prelude.{slice_get, Some, None, Option, option_map, All}
use Rattle.std.proofs.lemmas.Option.{slice_get-map}
use Rattle.std.proofs.lemmas.List.{length-map}
use Rattle.redn_segment.specs.declared.types.SlotRef.{SlotRef}
use Rattle.redn_segment.specs.Renaming.{renamed, renamed_site}
use Rattle.redn_recycle.specs.Lapped.{event_in, segment_at, ref_in_laps}
use Rattle.std.specs.List.{list_any, position_or_len}
use Rattle.std.proofs.lemmas.Option.{slice_get_within}
use Rattle.std.proofs.lemmas.List.Elements.{All-head}
use Rattle.redn_words.specs.declared.types.Opcode.{Opcode}
use Rattle.redn_words.specs.declared.types.Opcode.TheVariants.{Noop, Write, Read, Cas, Add, Send, Wait, Enable, Undefined}
use Rattle.redn_words.specs.declared.types.Obs.{Obs}
use Rattle.redn_words.specs.declared.types.Obs.TheVariants as shows
use Rattle.redn_words.specs.Words.{word}
use Rattle.redn_segment.specs.declared.types.Space.TheVariants as space
use Rattle.redn_segment.specs.declared.types.Draft.{Draft}
use Rattle.redn_segment.specs.Plain.{Bytes, Put, Outcome, Went, Faults, Bad, acts, opcode_in}
use Rattle.redn_segment.specs.Orders.{Follows, is_send}
use Rattle.redn_segment.specs.Templates.{may_show, may_show_by, is_shown, is_variable}
use Rattle.redn_proof_landing.specs.Homes.{change_of, seen_in}
use Rattle.redn_proof_landing.specs.Segments.{slot_space}
use Rattle.redn_recycle.specs.Laps.{Ring, bodies_of, lap_requests}
use Rattle.redn_proof_ring.specs.Plans.{Plan, IsOwn, IsBody, IsPrivate, body_slot}
use Rattle.redn_proof_ring.specs.Turns.{Meaning, Ready, Promises, HasBytes, tabled, slot_in}
use Rattle.redn_proof_ring.proofs.LapSteps.{slice_get_append}
use Rattle.redn_proof_ring.proofs.LapWindows.{end_inside}
use Rattle.redn_proof_ring.specs.Runs.{Comes, Opened, Sound, Fine, run_of}
use Rattle.redn_proof_ring.proofs.Promised.{promised}
use Rattle.redn_proof_block.specs.Truth.{IsTrueBy}
use Rattle.redn_proof_block.specs.Left.{Course}
use Rattle.redn_proof_block.specs.Left as left
use Rattle.redn_proof_block.specs.Stages.{Ghost}
use Rattle.redn_proof_block.specs.Stages as stages
use Rattle.redn_proof_block.specs.Shares.{closes_in}
use Rattle.redn_proof_chain.specs.States.{behind, has_stepped, Reads}
use Rattle.redn_proof_chain.specs.FormLaws.{StatesBehind}
use Rattle.redn_proof_block.specs.Laying.{Turned}
use Rattle.redn_proof_chain.specs.Formed.{Formed, IsFormed, TellsWell, Starts, Point, plan, its_meaning, counts_at, sends_at, draft_sends, state_at, ahead_at}
use Rattle.redn_proof_chain.proofs.Shapes.{Shape, Idle, Words, Sends, shape, reads_of}
use Rattle.redn_proof_chain.proofs.States.{steps_show}
use Rattle.redn_proof_chain.proofs.Goings.{Stood, As_before, Behind_it, event_step}
use Rattle.redn_proof_block.proofs.Taking.{shown_renamed as shown_same, variable_renamed as variable_same}
use Rattle.redn_segment.proofs.Meeting.{or_true}

-- a draft that may show an event may do so by each opcode that it can have
shows_by : (d : Draft) (op : Opcode) → may_show d ≡ true → Follows d op → may_show_by d op ≡ true
shows_by d op h (inl same) = ap (may_show_by d) same ∙ h
shows_by d op h (inr turned) = by_op op (ap (may_show_by d) (sym turned.0) ∙ h)
  where
    by_op : (o : Opcode) → is_shown d.remote ≡ true → may_show_by d o ≡ true
    by_op Send e = refl
    by_op Read e = ap (λ (b : Bool). b || is_variable d.local) e
    by_op Noop e = e
    by_op Write e = e
    by_op Cas e = e
    by_op Add e = e
    by_op Wait e = e
    by_op Enable e = e
    by_op (Undefined n) e = e

renamed_shows : (g : SlotRef → SlotRef) (d : Draft) (op : Opcode) → may_show_by (renamed g d) op ≡ may_show_by d op
renamed_shows g d Send = refl
renamed_shows g d Read = let far = shown_same g d.remote in let near = variable_same g d.local in ap (λ (b : Bool). b || is_variable (renamed_site g d.local)) far ∙ ap (λ (b : Bool). is_shown d.remote || b) near
renamed_shows g d _ = shown_same g d.remote

-- the draft that stands at the first place where one may show an event
at_position : (ds : List Draft) (d : Draft) → slice_get ds (position_or_len may_show ds) ≡ Some d → may_show d ≡ true
at_position [] d e = absurd (cc)
at_position (x ∷ ds) d e = by_test (λ g. at_position ds d g) (may_show x) refl e
  where
    by_test : (slice_get ds (position_or_len may_show ds) ≡ Some d → may_show d ≡ true) → (b : Bool) → may_show x ≡ b → slice_get (x ∷ ds) (cond (not b) (1 + position_or_len may_show ds) 0) ≡ Some d → may_show d ≡ true
    by_test again true f g = let same : x ≡ d = cc in ap may_show (sym same) ∙ f
    by_test again false f g = let next : suc (position_or_len may_show ds) ≡ 1 + position_or_len may_show ds = omega arith in again (ap (slice_get (x ∷ ds)) next ∙ g)

event_may : (g : SlotRef → SlotRef) (ds : List Draft) (d : Draft) → slice_get (map (renamed g) ds) (event_in ds) ≡ Some d → may_show d ≡ true
event_may g ds d e = by_some (list_any may_show ds) refl
  where
    by_draft : (k : ℕ) (o : Option Draft) → slice_get ds k ≡ o → option_map (renamed g) o ≡ Some d → (x : Draft) × (slice_get ds k ≡ Some x) × (renamed g x ≡ d)
    by_draft k None i j = absurd (cc)
    by_draft k (Some x) i j = let same : renamed g x ≡ d = cc in (x, i, same)

    by_some : (b : Bool) → list_any may_show ds ≡ b → may_show d ≡ true
    by_some true some =
        let at : event_in ds ≡ position_or_len may_show ds = ap (λ (b : Bool). cond b (position_or_len may_show ds) (length ds + 2)) some in
        let found = by_draft (position_or_len may_show ds) (slice_get ds (position_or_len may_show ds)) refl (sym (slice_get-map (renamed g) ds (position_or_len may_show ds)) ∙ ap (slice_get (map (renamed g) ds)) (sym at) ∙ e) in
        ap may_show (sym found.2) ∙ renamed_shows g found.0 found.0.op ∙ at_position ds found.0 found.1
    by_some false none =
        let at : event_in ds ≡ length ds + 2 = ap (λ (b : Bool). cond b (position_or_len may_show ds) (length ds + 2)) none in
        let inside = slice_get_within (map (renamed g) ds) (event_in ds) d e in
        let long = length-map ds (renamed g) in
        absurd (omega (arith, inside, long, at))

or_false : (b : Bool) → b || false ≡ b
or_false true = refl
or_false false = refl

module _ (f : Formed) (h : IsFormed f) where
  abbrev c : Plan
  c = plan f

  abbrev G : Meaning c
  G = its_meaning f

  abbrev pub promises : Promises c G
  promises = promised c f.takes Ghost f.tells f.fails f.enters h.laid h.allows

  module _ (x : Point f) (m : List ℕ) (ready : Ready c G x m) where
    abbrev r : ℕ
    r = x.ring

    abbrev j : ℕ
    j = x.segment

    abbrev ring : Ring
    ring = c.ring r

    abbrev ev : ℕ
    ev = ring.event j

    abbrev s : Bytes
    s = seen_in c.home m

    abbrev slot : List ℕ
    slot = slot_in c s r j ev

    abbrev fine : Fine c f.takes Ghost f.tells f.fails f.enters r j x.ghost s
    fine = ready.fine

    abbrev ComesNow : ℕ → Bytes → Bytes → Outcome → Type 0
    ComesNow n t u o = Comes (λ events b. (z : Ghost) × f.tells r j u x.ghost events z × Sound c f.takes Ghost f.tells f.fails f.enters r n (suc j) z b) (f.fails r j u x.ghost) t o

    opened : (n : ℕ) → n + j ≡ ring.segments → Sound c f.takes Ghost f.tells f.fails f.enters r n j x.ghost fine.plain → (k : ℕ) × Opened c f.takes Ghost f.tells f.fails f.enters r j x.ghost fine.plain × ((u : Bytes) → HasBytes u → ComesNow k (tabled fine.plain u) u (run_of c r j fine.plain u))
    opened zero e sound = absurd (let l = x.segment_in in omega (arith, e, l))
    opened (suc n) e sound = (n, sound.0, sound.1)

    -- where its part begins
    pub starts_here : Starts f r j x.ghost
    starts_here = let o = opened fine.left fine.left_is fine.sound in by_outcome o.0 (tabled fine.plain s) (run_of c r j fine.plain s) (o.2 s fine.bytes)
      where
        by_outcome : (k : ℕ) (t : Bytes) (o : Outcome) → ComesNow k t s o → Starts f r j x.ghost
        by_outcome k t (Went us events) come = (h.tells_well r j s x.ghost events come.0 x.ring_in x.segment_in come.1).starts
        by_outcome k t (Faults us events) come = (h.fails_well r j s x.ghost events x.ring_in x.segment_in come).starts
        by_outcome k t Bad come = absurd come

    module _ (d : Draft) (e : IsBody c r j ev d) where
      pub own_event : IsOwn c r j ev d
      own_event =
          elim (slice_get_append (ring.drafts j) (lap_requests r ring j) ev d e) [
            | inl own ↦ own
            | inr lap ↦ let at = lap.1 in absurd (by_place lap.0 at (slice_get_within (bodies_of r ring j) ev d e) (h.laid.events r j x.ring_in x.segment_in))
          ]
        where
          by_place : (i : ℕ) → ev ≡ length (ring.drafts j) + i → ev < length (bodies_of r ring j) → (ev < length (ring.drafts j)) ⊎ (length (bodies_of r ring j) ≤ ev) → ⊥
          by_place i at within (inl l) = omega (arith, at, l)
          by_place i at within (inr l) = omega (arith, within, l)

      takes_event : f.takes r j ev (opcode_in slot)
      takes_event =
          let o = opened fine.left fine.left_is fine.sound in
          let small : ev < length (bodies_of r ring j) = slice_get_within (bodies_of r ring j) ev d e in
          let room = end_inside r ring (h.laid.rings r x.ring_in) j x.segment_in in
          let private : IsPrivate c (slot_space r (body_slot c r j ev)) = record { its = (h.laid.lie r x.ring_in).its (body_slot c r j ev) (omega (arith, small, room)); plain = refl } in
          subst (λ (b : List ℕ). f.takes r j ev (opcode_in b)) (sym (fine.agrees (slot_space r (body_slot c r j ev)) private)) (o.1.takes ev d e)

      pub turned_event : Turned d (opcode_in slot)
      turned_event = h.turned r j ev d (opcode_in slot) x.ring_in x.segment_in own_event takes_event

      follows_event : Follows d (opcode_in slot)
      follows_event = h.allows.follows r j ev d (opcode_in slot) x.ring_in x.segment_in e takes_event

      pub sends_is : sends_at f x ≡ is_send (opcode_in slot)
      sends_is = ap draft_sends e ∙ sym turned_event.sends

      shows_event : may_show_by d (opcode_in slot) ≡ true
      shows_event = shows_by d (opcode_in slot) (event_may (ref_in_laps (f.layout.segments r) r) (segment_at (f.layout.segments r) j) d own_event) follows_event

      module _ (u : Bytes) (bytes : HasBytes u) (us : List Put) (events : List Obs) (goes : acts c.domain (tabled s u) slot d (opcode_in slot) ≡ Went us events) where
        pub event_shape : Shape (opcode_in slot) us events
        event_shape = shape c.domain (tabled s u) slot d us events (opcode_in slot) shows_event turned_event.reads goes

        -- where the graph is once it has landed
        pub stood : (z : Ghost) → f.tells r j u x.ghost events z → Stood f.course x.ghost z events (state_at f x (Some (map (change_of c.home) us))) (ahead_at f x (Some (map (change_of c.home) us)))
        stood z tells = by_shape event_shape
          where
            well : TellsWell f r j u x.ghost events z
            well = h.tells_well r j u x.ghost events z x.ring_in x.segment_in tells

            -- what it wrote, by whether it sends
            at : (sends : Bool) (vs : List Put) → sends_at f x ≡ sends → us ≡ vs → (behind f.course (sends_at f x) x.ghost.state (map (change_of c.home) us) ≡ behind f.course sends x.ghost.state (map (change_of c.home) vs)) × (has_stepped (sends_at f x) (map (change_of c.home) us) ≡ has_stepped sends (map (change_of c.home) vs))
            at sends vs e is = (
              ap (λ (b : Bool). behind f.course b x.ghost.state (map (change_of c.home) us)) e ∙ ap (λ (l : List Put). behind f.course sends x.ghost.state (map (change_of c.home) l)) is,
              ap (λ (b : Bool). has_stepped b (map (change_of c.home) us)) e ∙ ap (λ (l : List Put). has_stepped sends (map (change_of c.home) l)) is,
            )

            told : (o : Obs) → events ≡ o ∷ [] → left.Tells f.course x.ghost.state o z.state
            told o is = event_step f.course (closes_in (counts_at f r) j) x.ghost o z (subst (λ (l : List Obs). stages.Tells f.course (closes_in (counts_at f r) j) x.ghost l z) is well.steps)

            seen : (o : Obs) → events ≡ o ∷ [] → IsTrueBy (λ (t : ℕ). u (space.Table t)) o
            seen o is = All-head (IsTrueBy (λ (t : ℕ). u (space.Table t))) o [] (subst (λ (l : List Obs). All (IsTrueBy (λ (t : ℕ). u (space.Table t))) l) is well.seen)

            by_shape : Shape (opcode_in slot) us events → Stood f.course x.ghost z events (state_at f x (Some (map (change_of c.home) us))) (ahead_at f x (Some (map (change_of c.home) us)))
            by_shape (Idle none puts quiet) =
                let now = at false [] (sends_is ∙ quiet) puts in
                As_before none now.0 (ap (λ (b : Bool). x.ghost.ahead || b) now.1 ∙ or_false x.ghost.ahead)
            by_shape (Words o p rest is some puts wordy quiet) =
                let now = at false (p ∷ rest) (sends_is ∙ quiet) puts in
                let reads : Reads o (word p.bytes 0) = reads_of (λ (t : ℕ). u (space.Table t)) o (word p.bytes 0) bytes (seen o is) wordy in
                let back : StatesBehind f.course x.ghost.state o z.state = steps_show f.course x.ghost.state o z.state (told o is) in
                Behind_it o is (now.0 ∙ back.behind false (map (change_of c.home) (p ∷ rest)) some reads) (ap (λ (b : Bool). x.ghost.ahead || b) now.1 ∙ or_true x.ghost.ahead)
            by_shape (Sends n k ws is puts sent) =
                let now = at true [] (sends_is ∙ sent) puts in
                let back : StatesBehind f.course x.ghost.state (shows.Reply n k ws) z.state = steps_show f.course x.ghost.state (shows.Reply n k ws) z.state (told (shows.Reply n k ws) is) in
                Behind_it (shows.Reply n k ws) is (now.0 ∙ back.behind true [] (λ e. absurd (cc)) tt) (ap (λ (b : Bool). x.ghost.ahead || b) now.1 ∙ or_true x.ghost.ahead)
