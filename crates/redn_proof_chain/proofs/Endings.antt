-- A window without gates sends, and ends the graph's chain.
use Rattle.std.proofs.Common.{◌≡◌, ℕ, suc, ◌<◌, true, List, [], ◌∷◌, ◌++◌, map, refl, sym, ap, ◌∙◌, subst, arith}
use Rattle.std.specs.Prelude.{slice_get, Some}
use Rattle.std.proofs.lemmas.Option.{slice_get_within}
use Rattle.std.proofs.lemmas.Bool.{false≢true, and_parts, eqb-true}
use Rattle.redn_words.specs.declared.types.Obs.{Obs}
use Rattle.redn_words.specs.declared.types.Obs.TheVariants as shows
use Rattle.redn_words.specs.declared.types.Opcode.{Opcode}
use Rattle.redn_words.specs.declared.types.Opcode.TheVariants.{Send}
use Rattle.redn_words.specs.Landings.{Change}
use Rattle.redn_graph.specs.Run.{GraphState, GraphTurn}
use Rattle.redn_segment.specs.declared.types.Space.TheVariants as space
use Rattle.redn_segment.specs.declared.types.Draft.{Draft}
use Rattle.redn_segment.specs.Plain.{Bytes, opcode_in}
use Rattle.redn_segment.specs.Orders.{is_send}
use Rattle.redn_segment.specs.Renaming.{renamed}
use Rattle.redn_segment.specs.Templates.{may_show, may_show_by}
use Rattle.redn_block.specs.Blocks.{ring_start}
use Rattle.redn_proof_window.specs.Windows.{Last, Opening, bodies_of}
use Rattle.redn_proof_window.specs.Scripts.{Wrote}
use Rattle.redn_proof_landing.specs.Homes.{seen_in, change_of}
use Rattle.redn_recycle.specs.Laps.{is_send_last, is_last, lap_requests, bodies_of as ring_bodies}
use Rattle.redn_recycle.specs.Lapped.{segment_at, event_in, ref_in_laps}
use Rattle.redn_proof_ring.specs.Plans.{Plan, IsBody}
use Rattle.redn_proof_ring.specs.Turns.{Meaning, Ready, HasBytes, slot_in, window_at}
use Rattle.redn_proof_ring.proofs.LapNext.{seen_bytes}
use Rattle.redn_proof_ring.proofs.LapEvent.{EventPuts, event_puts}
use Rattle.redn_proof_ring.proofs.LapWindows.{bodies_count, ends_or_gates}
use Rattle.redn_proof_ring.proofs.Promised.{told_now}
use Rattle.redn_proof_block.specs.Left as left
use Rattle.redn_proof_block.specs.Stages.{Ghost}
use Rattle.redn_proof_block.specs.Stages as stages
use Rattle.redn_proof_block.specs.Shares.{closes_in}
use Rattle.redn_proof_chain.specs.Formed.{Formed, IsFormed, IsBlockRing, TellsWell, Point, plan, its_meaning, block_at, counts_at, state_at, ahead_at}
use Rattle.redn_proof_chain.proofs.Paying.{MaySend, last_sends}
use Rattle.redn_proof_chain.proofs.Parting.{parts_send}
use Rattle.redn_proof_chain.proofs.States.{IsBehind, graph_behind}
use Rattle.redn_proof_chain.proofs.Shapes.{Shape, Idle, Words, Sends}
use Rattle.redn_proof_chain.proofs.Goings.{Stood, As_before, Behind_it, event_step}
use Rattle.redn_proof_chain.proofs.Events.{promises, turned_event, event_shape, stood}

sent : (o : Opcode) → is_send o ≡ true → o ≡ Send
sent Send e = refl
sent _ e = absurd (false≢true e)

-- a SEND alone is its segment's event
alone_event : (d : Draft) → is_send d.op ≡ true → event_in (d ∷ []) ≡ 0
alone_event d e =
    let shows_it : may_show d ≡ true = ap (may_show_by d) (sent d.op e) in
    rw shows_it refl

module _ (f : Formed) (h : IsFormed f) (x : Point f) (m : List ℕ) (ready : Ready (plan f) (its_meaning f) x m) where
  abbrev P : Plan
  P = plan f

  abbrev G : Meaning P
  G = its_meaning f

  abbrev r : ℕ
  r = x.ring

  abbrev j : ℕ
  j = x.segment

  abbrev ev : ℕ
  ev = (P.ring r).event j

  abbrev w : Opening
  w = window_at P G x m

  abbrev s : Bytes
  s = seen_in P.home m

  abbrev slot : List ℕ
  slot = slot_in P s r j ev

  module _ (ends : w.ending ≡ Last) where
    its_send : (d : Draft) × IsBody P r j ev d × (is_send d.op ≡ true)
    its_send =
        let last : is_send_last r (P.ring r) j ≡ true = (ends_or_gates (is_send_last r (P.ring r) j)).1 ends in
        let parts = and_parts (P.ring r).sends (is_last r (P.ring r) j) last in
        let block : IsBlockRing f r = h.blocks r x.ring_in in
        let may : MaySend (f.layout.segments r) = subst MaySend (sym block.segments_are) (parts_send f.layout.first_queue (ring_start r) (block_at f r).instrs (block_at f r).end) in
        let one = last_sends (f.layout.segments r) r f.layout.domain (f.layout.base r) may parts.0 j (eqb-true (suc j) (P.ring r).segments parts.1) in
        let at : ev ≡ 0 = ap event_in one.1 ∙ alone_event one.0 one.2 in
        let there : slice_get (map (renamed (ref_in_laps (f.layout.segments r) r)) (segment_at (f.layout.segments r) j) ++ lap_requests r (P.ring r) j) 0 ≡ Some (renamed (ref_in_laps (f.layout.segments r) r) one.0) = ap (λ (l : List Draft). slice_get (map (renamed (ref_in_laps (f.layout.segments r) r)) l ++ lap_requests r (P.ring r) j) 0) one.1 in
        (renamed (ref_in_laps (f.layout.segments r) r) one.0, subst (λ (k : ℕ). IsBody P r j k (renamed (ref_in_laps (f.layout.segments r) r) one.0)) (sym at) there, one.2)

    inside : w.event < bodies_of w
    inside = let count = bodies_count P h.laid G (promises f h) x m ready in let l = slice_get_within (ring_bodies r (P.ring r) j) ev its_send.0 its_send.1 in omega (arith, count, l)

    module _ (d : Draft) (e : IsBody P r j ev d) (is_sent : is_send d.op ≡ true) (event : List Change) (wrote : Wrote w event) where
      abbrev u : Bytes
      u = seen_in P.home wrote.memory

      ubytes : HasBytes u
      ubytes k = seen_bytes P.home wrote.memory (space.Table k) wrote.sound

      abbrev its : EventPuts P h.laid G (promises f h) x m ready wrote.memory wrote.sound wrote.agrees d e
      its = event_puts P h.laid G (promises f h) x m ready wrote.memory wrote.sound wrote.agrees d e wrote.allowed

      told : (z : Ghost) × f.tells r j u x.ghost its.events z
      told = told_now P f.takes Ghost f.tells f.fails f.enters h.laid h.allows r j x.ring_in x.segment_in x.ghost s ready.fine u ubytes d its.puts its.events e its.goes

      well : TellsWell f r j u x.ghost its.events told.0
      well = h.tells_well r j u x.ghost its.events told.0 x.ring_in x.segment_in told.1

      written : map (change_of P.home) its.puts ≡ event
      written = sym its.lands.writes_are ∙ sym wrote.is

      op_sends : is_send (opcode_in slot) ≡ true
      op_sends = (turned_event f h x m ready d e).sends ∙ is_sent

      by_shape : Shape (opcode_in slot) its.puts its.events → (state_at f x (Some event)).ended ≡ true
      by_shape (Idle no_event puts quiet) = absurd (false≢true (sym quiet ∙ op_sends))
      by_shape (Words o p rest is some puts wordy quiet) = absurd (false≢true (sym quiet ∙ op_sends))
      by_shape (Sends n k ws is puts yes_it) = by_stood (stood f h x m ready d e u ubytes its.puts its.events its.goes told.0 told.1)
        where
          step : left.Tells f.course x.ghost.state (shows.Reply n k ws) told.0.state
          step = event_step f.course (closes_in (counts_at f r) j) x.ghost (shows.Reply n k ws) told.0 (subst (λ (l : List Obs). stages.Tells f.course (closes_in (counts_at f r) j) x.ghost l told.0) is well.steps)

          over : told.0.state.ended ≡ true
          over =
              let turn = step [] tt in
              (subst (λ (q : GraphTurn). IsBehind q.event x.ghost.state q.state) turn (graph_behind f.course [] x.ghost.state)).0

          by_stood : Stood f.course x.ghost told.0 its.events (state_at f x (Some (map (change_of P.home) its.puts))) (ahead_at f x (Some (map (change_of P.home) its.puts))) → (state_at f x (Some event)).ended ≡ true
          by_stood (As_before no_event same flag) = absurd (cons_none (sym is ∙ no_event))
            where
              cons_none : shows.Reply n k ws ∷ [] ≡ [] → ⊥
              cons_none q = absurd (cc)
          by_stood (Behind_it o there same flag) = ap (λ (l : List Change). (state_at f x (Some l)).ended) (sym written) ∙ ap (λ (y : GraphState). y.ended) same ∙ over

      ended_here : (state_at f x (Some event)).ended ≡ true
      ended_here = by_shape (event_shape f h x m ready d e u ubytes its.puts its.events its.goes)

  pub ends_here : w.ending ≡ Last → (w.event < bodies_of w) × ((event : List Change) → Wrote w event → (state_at f x (Some event)).ended ≡ true)
  ends_here ends = (inside ends, λ event wrote. ended_here ends (its_send ends).0 (its_send ends).1 (its_send ends).2 event wrote)
