-- The event of a window is the graph's steps.
use Rattle.std.proofs.Common.{◌≡◌, ◌≢◌, ℕ, ◌+◌, ◌≤◌, Bool, true, false, List, [], ◌∷◌, map, length, drop, refl, sym, ap, ◌∙◌, subst, arith, length-take, length-drop}
use Rattle.std.specs.Prelude.{Some, None, nat_le, All}
use Rattle.std.proofs.lemmas.Bool.{true≢false}
use Rattle.std.proofs.lemmas.List.Elements.{All-head}
use Rattle.redn_words.specs.declared.types.Obs.{Obs}
use Rattle.redn_words.specs.declared.types.Obs.TheVariants as shows
use Rattle.redn_words.specs.Words.{bytes_at, with_bytes_at, word, spelled}
use Rattle.redn_words.specs.Landings.{Change, change, changed}
use Rattle.redn_words.specs.Runs.{shown_then}
use Rattle.redn_kernel.specs.Source.{bytes_of, has_word, with_word_in}
use Rattle.redn_graph.specs.Run.{GraphState, GraphTurn, graph_step, step_cost}
use Rattle.redn_segment.specs.declared.types.Space.{Space}
use Rattle.redn_segment.specs.declared.types.Space.TheVariants as space
use Rattle.redn_segment.specs.declared.types.Draft.{Draft}
use Rattle.redn_segment.specs.Sites.{is_table, inside as inside_site}
use Rattle.redn_segment.specs.Plain.{Bytes, Put, put, Outcome, Went, Faults, Bad, acts, opcode_in, local_space, remote_space, local_at, local_bytes}
use Rattle.redn_segment.specs.Orders.{is_send}
use Rattle.redn_segment.specs.Homes.{Home, IsHome, base_of, room_of}
use Rattle.redn_segment.proofs.Sides.{inside_space}
use Rattle.redn_proof_landing.proofs.Sided.{length-seen}
use Rattle.redn_words.proofs.Digits.{spelled-number}
use Rattle.redn_proof_window.proofs.Sound.{AreBytes, landing_bytes}
use Rattle.redn_block.specs.Plays.{IsTrueOf, stored}
use Rattle.redn_proof_window.specs.Windows.{Opening, landing_on, origin_of, request_of}
use Rattle.redn_proof_landing.specs.Homes.{seen_in, change_of, Inside, told_by, LandsAs, reads_by}
use Rattle.redn_proof_landing.specs.Segments.{is_table_space, IsGood}
use Rattle.redn_segment.proofs.SameSpace.{table_space}
use Rattle.redn_image.specs.Faithful.{IsClean}
use Rattle.redn_proof_ring.specs.Plans.{Plan, IsBody}
use Rattle.redn_proof_ring.specs.Turns.{Meaning, Ready, HasBytes, tabled, slot_in, window_at}
use Rattle.redn_proof_ring.proofs.LapKept.{body_at}
use Rattle.redn_proof_ring.proofs.LapNext.{seen_bytes}
use Rattle.redn_proof_ring.proofs.LapEvent.{EventPuts, event_good, event_lands, event_puts, body_inside, length_there}
use Rattle.redn_proof_ring.proofs.Promised.{told_now, fails_now}
use Rattle.redn_proof_interleave.specs.Machines.{Contents}
use Rattle.redn_proof_interleave.specs.Forms.{World, Finds, Tells, Fails}
use Rattle.redn_proof_block.specs.Truth.{IsTrueBy}
use Rattle.redn_proof_block.specs.Left as left
use Rattle.redn_proof_block.specs.Stages.{Ghost}
use Rattle.redn_proof_block.specs.Stages as stages
use Rattle.redn_proof_block.specs.Shares.{closes_in}
use Rattle.redn_proof_block.specs.Laying.{Turned}
use Rattle.redn_proof_chain.specs.Formed.{Formed, IsFormed, TellsWell, FailsWell, Point, plan, its_meaning, counts_at, state_at, ahead_at, owed_at, brought}
use Rattle.redn_proof_chain.specs.Together.{Together, HasTables, LieApart, world_of}
use Rattle.redn_proof_chain.proofs.Shelved.{shelves_hold}
use Rattle.redn_proof_chain.specs.Among.{IsAmong}
use Rattle.redn_proof_chain.specs.States.{fallen}
use Rattle.redn_proof_chain.proofs.Bytewise.{each_byte, take_whole}
use Rattle.redn_proof_chain.proofs.States.{graph_clean, steps_show}
use Rattle.redn_proof_chain.proofs.Faulting.{IsPast, is_past}
use Rattle.redn_proof_chain.proofs.Goings.{Going, Stood, As_before, Behind_it, go_none, go_one, still_runs, event_step, one_step}
use Rattle.redn_proof_chain.proofs.Shapes.{Shape, Idle, Words, Sends}
use Rattle.redn_proof_chain.proofs.Tabling.{Touches, Leaves, Stores, touches, AllFlat, AllOf, OfSpace}
use Rattle.redn_proof_chain.proofs.Keeping.{truth_of, stored_none, flat_keeps}
use Rattle.redn_proof_chain.proofs.Events.{promises, turned_event, event_shape, stood}
use Rattle.redn_proof_landing.proofs.Segments.{nothing_told as told_none}

-- an observation as a list
told_then : (at : Space → Home) (o : Obs) → shown_then o [] ≡ told_by at o
told_then at shows.Nothing = refl
told_then at _ = refl

told_one : (at : Space → Home) (o e : Obs) → told_by at o ≡ e ∷ [] → o ≡ e
told_one at shows.Nothing e h = absurd (cc)
told_one at _ e h = cc

module _ (g : Together) (c : ℕ) (a : IsAmong g c) where
  abbrev f : Formed
  f = (g.chain c).formed

  abbrev h : IsFormed f
  h = a.formed

  abbrev P : Plan
  P = plan f

  abbrev G : Meaning P
  G = its_meaning f

  abbrev W : World
  W = world_of g

  module _ (x : Point f) (m n : List ℕ) (t : Contents) (finds : Finds W c x m n t) where
    abbrev r : ℕ
    r = x.ring

    abbrev j : ℕ
    j = x.segment

    abbrev ev : ℕ
    ev = (P.ring r).event j

    abbrev w : Opening
    w = window_at P G x m

    abbrev ready : Ready P G x m
    ready = finds.ready.0

    abbrev s : Bytes
    s = seen_in P.home m

    abbrev u : Bytes
    u = seen_in P.home n

    abbrev slot : List ℕ
    slot = slot_in P s r j ev

    ubytes : HasBytes u
    ubytes k = seen_bytes P.home n (space.Table k) finds.sound

    size : length n ≡ P.size
    size = finds.agrees.size ∙ ready.size

    -- the tables that its draft sees
    table_is : (k : ℕ) → P.mine (space.Table k) ≡ true → u (space.Table k) ≡ bytes_of t k
    table_is k mine = let at = a.tables k mine in ap (λ (b : ℕ). bytes_at n b (room_of P.home (space.Table k))) at.1 ∙ ap (bytes_at n (g.shelves.at k)) at.2 ∙ finds.tables.each k at.0

    module _ (d : Draft) (e : IsBody P r j ev d) where
      turned : Turned d (opcode_in slot)
      turned = turned_event f h x m ready d e

      far_mine : is_send (opcode_in slot) ≡ false → P.mine (remote_space d) ≡ true
      far_mine quiet = (h.laid.sides r j ev d x.ring_in x.segment_in e).1 (sym turned.sends ∙ quiet)

      far_table : is_send (opcode_in slot) ≡ false → (k : ℕ) → remote_space d ≡ space.Table k → u (space.Table k) ≡ bytes_of t k
      far_table quiet k is = table_is k (ap P.mine (sym is) ∙ far_mine quiet)

    -- where it is allowed
    module _ (d : Draft) (e : IsBody P r j ev d) (allowed : (landing_on w n ev).allowed ≡ true) where
      abbrev its : EventPuts P h.laid G (promises f h) x m ready n finds.sound finds.agrees d e
      its = event_puts P h.laid G (promises f h) x m ready n finds.sound finds.agrees d e allowed

      abbrev writes : List Change
      writes = map (change_of P.home) its.puts

      abbrev at : GraphState
      at = state_at f x (Some writes)

      told : (z : Ghost) × f.tells r j u x.ghost its.events z
      told = told_now P f.takes Ghost f.tells f.fails f.enters h.laid h.allows r j x.ring_in x.segment_in x.ghost s ready.fine u ubytes d its.puts its.events e its.goes

      well : TellsWell f r j u x.ghost its.events told.0
      well = h.tells_well r j u x.ghost its.events told.0 x.ring_in x.segment_in told.1

      stood_here : Stood f.course x.ghost told.0 its.events at (ahead_at f x (Some writes))
      stood_here = stood f h x m ready d e u ubytes its.puts its.events its.goes told.0 told.1

      inside : Inside P.home P.mine its.puts
      inside = body_inside P h.laid G (promises f h) x m ready ev d (tabled s u) its.puts its.events e (λ mine table. long mine table) its.goes
        where
          long : P.mine (remote_space d) ≡ true → is_table d.remote ≡ true → length (tabled s u (remote_space d)) ≡ room_of P.home (remote_space d)
          long mine table =
              let far : is_table_space (remote_space d) ≡ true = sym (table_space d.remote) ∙ table in
              let there : tabled s u (remote_space d) ≡ u (remote_space d) = rw far refl in
              ap length there ∙ length_there P h.laid G (promises f h) x m ready n d finds.agrees.size mine

      abbrev Told : Contents → Type 0
      Told v = Going f.course t x.ghost.state (shown_then (landing_on w n ev).shown []) v (state_at f x (Some (landing_on w n ev).writes)) (owed_at f x (Some (landing_on w n ev).writes)) (owed_at f x None)

      -- in place of what it lands as, what its draft puts and shows
      as_landed : (v : Contents) (shown : List Obs) → its.events ≡ shown → Going f.course t x.ghost.state shown v at (owed_at f x (Some writes)) (owed_at f x None) → Told v
      as_landed v shown is goes =
          let events : shown ≡ shown_then (landing_on w n ev).shown [] = sym is ∙ sym its.lands.shown_is ∙ sym (told_then P.home (landing_on w n ev).shown) in
          let changes : writes ≡ (landing_on w n ev).writes = sym its.lands.writes_are in
          subst (λ (l : List Change). Going f.course t x.ghost.state (shown_then (landing_on w n ev).shown []) v (state_at f x (Some l)) (owed_at f x (Some l)) (owed_at f x None)) changes (subst (λ (l : List Obs). Going f.course t x.ghost.state l v at (owed_at f x (Some writes)) (owed_at f x None)) events goes)

      changed_as : (v : Contents) → HasTables g.shelves v (changed n writes) → HasTables g.shelves v (changed n (landing_on w n ev).writes)
      changed_as v has = subst (λ (l : List Change). HasTables g.shelves v (changed n l)) (sym its.lands.writes_are) has

      -- nothing is shown
      silent : its.events ≡ [] → its.puts ≡ [] → Tells W c x m n t
      silent none puts =
          let shown : (landing_on w n ev).shown ≡ shows.Nothing = told_none P.home (landing_on w n ev).shown (its.lands.shown_is ∙ none) in
          record {
            then_tables = t;
            has = changed_as t (subst (λ (l : List Put). HasTables g.shelves t (changed n (map (change_of P.home) l))) (sym puts) finds.tables);
            goes = as_landed t [] none (by_stood stood_here);
            clean = subst IsClean (sym shown) tt;
          }
        where
          by_stood : Stood f.course x.ghost told.0 its.events at (ahead_at f x (Some writes)) → Going f.course t x.ghost.state [] t at (owed_at f x (Some writes)) (owed_at f x None)
          by_stood (As_before is same flag) =
              let cost : brought f (ahead_at f x (Some writes)) at ≡ brought f x.ghost.ahead x.ghost.state = ap (λ (b : Bool). brought f b at) flag ∙ ap (brought f x.ghost.ahead) same in
              go_none f.course t x.ghost.state at _ _ (sym same) (omega (arith, cost))
          by_stood (Behind_it o is same flag) = absurd (cons_none (sym is ∙ none))
            where
              cons_none : o ∷ [] ≡ [] → ⊥
              cons_none k = absurd (cc)

      -- an event is shown
      module _ (o : Obs) (is : its.events ≡ o ∷ []) (some : o ≢ shows.Nothing) where
        step : left.Tells f.course x.ghost.state o told.0.state
        step = event_step f.course (closes_in (counts_at f r) j) x.ghost o told.0 (subst (λ (l : List Obs). stages.Tells f.course (closes_in (counts_at f r) j) x.ghost l told.0) is well.steps)

        seen : IsTrueBy (λ (k : ℕ). u (space.Table k)) o
        seen = All-head (IsTrueBy (λ (k : ℕ). u (space.Table k))) o [] (subst (λ (l : List Obs). All (IsTrueBy (λ (k : ℕ). u (space.Table k))) l) is well.seen)

        shown : IsTrueOf t o → HasTables g.shelves (stored t o) (changed n writes) → Tells W c x m n t
        shown is_true has =
            let turn = step t is_true in
            let event : (graph_step f.course.number f.course.mail t x.ghost.state f.course.graph).event ≡ o = ap (λ (q : GraphTurn). q.event) turn in
            let runs = still_runs f.course t x.ghost.state (λ k. some (sym event ∙ k)) in
            let its_shown : (landing_on w n ev).shown ≡ o = told_one P.home (landing_on w n ev).shown o (its.lands.shown_is ∙ is) in
            let clean : IsClean o = subst IsClean event (graph_clean f.course t x.ghost.state) in
            record {
              then_tables = stored t o;
              has = changed_as (stored t o) has;
              goes = as_landed (stored t o) (o ∷ []) is (by_stood runs stood_here);
              clean = subst IsClean (sym its_shown) clean;
            }
          where
            then_one : shown_then o [] ≡ o ∷ []
            then_one = told_then P.home o ∙ told_some o some
              where
                told_some : (e : Obs) → e ≢ shows.Nothing → told_by P.home e ≡ e ∷ []
                told_some shows.Nothing k = absurd (k refl)
                told_some (shows.Set c v w) k = refl
                told_some (shows.Load c v t o w) k = refl
                told_some (shows.Look c t o w) k = refl
                told_some (shows.Store c t o w) k = refl
                told_some (shows.Reply c n ws) k = refl
                told_some (shows.Fault c t o) k = refl
                told_some (shows.Stale q i) k = refl
                told_some (shows.Undefined q i) k = refl
                told_some (shows.Refused q i) k = refl
                told_some (shows.Odd q i) k = refl

            by_stood : x.ghost.state.ended ≡ false → Stood f.course x.ghost told.0 its.events at (ahead_at f x (Some writes)) → Going f.course t x.ghost.state (o ∷ []) (stored t o) at (owed_at f x (Some writes)) (owed_at f x None)
            by_stood runs (As_before none same flag) = absurd (cons_none (sym is ∙ none))
              where
                cons_none : o ∷ [] ≡ [] → ⊥
                cons_none k = absurd (cc)
            by_stood runs (Behind_it e now same flag) =
                let cost : brought f (ahead_at f x (Some writes)) at ≡ step_cost f.course.graph told.0.state = ap (λ (b : Bool). brought f b at) flag ∙ ap (step_cost f.course.graph) same in
                let went = go_one f.course t x.ghost.state o told.0.state (owed_at f x (Some writes)) (owed_at f x None) step is_true runs (omega (arith, cost)) in
                subst (λ (y : GraphState). Going f.course t x.ghost.state (o ∷ []) (stored t o) y (owed_at f x (Some writes)) (owed_at f x None)) (sym same) (subst (λ (l : List Obs). Going f.course t x.ghost.state l (stored t o) told.0.state (owed_at f x (Some writes)) (owed_at f x None)) then_one went)

      words_flat : (o : Obs) → its.events ≡ o ∷ [] → o ≢ shows.Nothing → is_send (opcode_in slot) ≡ false → AllFlat its.puts → AllOf (remote_space d) its.events → Tells W c x m n t
      words_flat o is some quiet flat of =
          let its_space : OfSpace (remote_space d) o = (subst (AllOf (remote_space d)) is of).0 in
          let kept = flat_keeps P h.laid g.shelves (λ p mine. a.private p (a.ours p mine)) t n its.puts size flat inside finds.tables in
          shown o is some (truth_of (λ (k : ℕ). u (space.Table k)) t (remote_space d) o its_space (far_table d e quiet) (seen o is some)) (subst (λ (v : Contents). HasTables g.shelves v (changed n writes)) (sym (stored_none t (remote_space d) o its_space)) kept)

      abbrev moved : List ℕ
      moved = local_bytes (tabled s u) d 8

      moved_long : is_table d.local ≡ false → inside_site d.local d.local_byte 8 ≡ true → length moved ≡ 8
      moved_long near fits =
          let flat : is_table_space (local_space d) ≡ false = sym (table_space d.local) ∙ near in
          let there : tabled s u (local_space d) ≡ s (local_space d) = rw flat refl in
          let near_mine = (h.laid.sides r j ev d x.ring_in x.segment_in e).0 in
          let home : IsHome P.home P.regions P.domain (length m) (local_space d) = subst (λ (k : ℕ). IsHome P.home P.regions P.domain k (local_space d)) (sym ready.size) (h.laid.homes (local_space d) near_mine) in
          let room : length (tabled s u (local_space d)) ≡ room_of P.home (local_space d) = ap length there ∙ length-seen P.home P.regions P.domain m (local_space d) home in
          let inside_it : local_at d + 8 ≤ room_of P.home (local_space d) = inside_space P.home d.local d.local_byte 8 near (omega arith) fits in
          omega (arith, length-take 8 (drop (local_at d) (tabled s u (local_space d))), length-drop (local_at d) (tabled s u (local_space d)), room, inside_it)

      spelled_again : (b : ℕ) → length moved ≡ 8 → writes ≡ change b moved ∷ [] → spelled 8 (word moved 0) ≡ moved
      spelled_again b long is =
          let bytes : AreBytes (change b moved ∷ []) = subst AreBytes (its.lands.writes_are ∙ is) (landing_bytes w.regions (origin_of w ev) (request_of w ev) n finds.sound) in
          spelled-number 8 moved 0 (omega (arith, long)) (each_byte moved bytes.0) ∙ take_whole moved 8 long

      words_stored : (k o : ℕ) → is_send (opcode_in slot) ≡ false → remote_space d ≡ space.Table k → its.puts ≡ put (space.Table k) o (local_bytes (tabled s u) d 8) ∷ [] → its.events ≡ shows.Store P.domain k o (word (local_bytes (tabled s u) d 8) 0) ∷ [] → is_table d.local ≡ false → inside_site d.local d.local_byte 8 ≡ true → Tells W c x m n t
      words_stored k o quiet is puts events near fits =
          let table = far_table d e quiet k is in
          let mine : P.mine (space.Table k) ≡ true = ap P.mine (sym is) ∙ far_mine d e quiet in
          let place = a.tables k mine in
          let is_true : has_word t k o ≡ true = ap (λ (l : List ℕ). nat_le (o + 8) (length l)) (sym table) ∙ seen (shows.Store P.domain k o (word (local_bytes (tabled s u) d 8) 0)) events (λ q. absurd (cc)) in
          let apart : LieApart g.shelves (length n) = subst (LieApart g.shelves) (sym size) a.shelves in
          let has = (shelves_hold g.shelves t n finds.tables).stored k o (word (local_bytes (tabled s u) d 8) 0) apart place.0 is_true in
          let put_is : writes ≡ change (base_of P.home (space.Table k) + o) (local_bytes (tabled s u) d 8) ∷ [] = ap (map (change_of P.home)) puts in
          let memory : changed n writes ≡ with_bytes_at n (g.shelves.at k + o) (spelled 8 (word (local_bytes (tabled s u) d 8) 0)) =
          ap (changed n) put_is ∙ ap (λ (b : ℕ). with_bytes_at n (b + o) (local_bytes (tabled s u) d 8)) place.1 ∙ ap (with_bytes_at n (g.shelves.at k + o)) (sym (spelled_again (base_of P.home (space.Table k) + o) (moved_long near fits) put_is)) in
          shown (shows.Store P.domain k o (word (local_bytes (tabled s u) d 8) 0)) events (λ q. absurd (cc)) is_true (subst (λ (l : List ℕ). HasTables g.shelves (with_word_in t k o (word (local_bytes (tabled s u) d 8) 0)) l) (sym memory) has)

      by_shape : Shape (opcode_in slot) its.puts its.events → Touches P.domain (tabled s u) slot d its.puts its.events → Tells W c x m n t
      by_shape (Idle none puts quiet) touch = silent none puts
      by_shape (Sends k l ws is puts sent) touch = shown (shows.Reply k l ws) is (λ q. absurd (cc)) tt (subst (λ (v : List Put). HasTables g.shelves t (changed n (map (change_of P.home) v))) (sym puts) finds.tables)
      by_shape (Words o p rest is some puts wordy quiet) (Leaves flat of) = words_flat o is some quiet flat of
      by_shape (Words o p rest is some puts wordy quiet) (Stores k at its_space us events room near fits) = words_stored k at quiet its_space us events near fits

      pub tells_here : Tells W c x m n t
      tells_here = by_shape (event_shape f h x m ready d e u ubytes its.puts its.events its.goes) (touches P.domain (tabled s u) slot d its.puts its.events (opcode_in slot) its.goes)

    -- where its landing is allowed
    pub tells_at : (landing_on w n ev).allowed ≡ true → Tells W c x m n t
    tells_at allowed = let body = body_at P h.laid G (promises f h) x m ready ev finds.inside in tells_here body.0 body.1 allowed

    -- where it is refused, it tells of a place past the end of a table, and the graph's chain has ended
    module _ (d : Draft) (e : IsBody P r j ev d) (refused : (landing_on w n ev).allowed ≡ false) where
      faulted : (us : List Put) (events : List Obs) → acts P.domain (tabled s u) slot d (opcode_in slot) ≡ Faults us events → told_by P.home (landing_on w n ev).shown ≡ events → Fails W c x m n t
      faulted us events goes shown =
          let fails : f.fails r j u x.ghost events = fails_now P f.takes Ghost f.tells f.fails f.enters h.laid h.allows r j x.ring_in x.segment_in x.ghost s ready.fine u ubytes d us events e goes in
          let well : FailsWell f r j u x.ghost events = h.fails_well r j u x.ghost events x.ring_in x.segment_in fails in
          let past : IsPast P.domain (tabled s u) slot d us events (opcode_in slot) = is_past P.domain (tabled s u) slot d us events (opcode_in slot) goes in
          by_past past well
        where
          by_past : (p : IsPast P.domain (tabled s u) slot d us events (opcode_in slot)) → FailsWell f r j u x.ghost events → Fails W c x m n t
          by_past p well =
              let rest : left.Rest f.course x.ghost.ahead x.ghost.state (shows.Fault P.domain p.table p.offset ∷ []) well.falls.0 = subst (λ (l : List Obs). left.Rest f.course x.ghost.ahead x.ghost.state l well.falls.0) p.events_are well.falls.1 in
              let step : left.Tells f.course x.ghost.state (shows.Fault P.domain p.table p.offset) well.falls.0 = one_step f.course x.ghost.ahead x.ghost.state (shows.Fault P.domain p.table p.offset) well.falls.0 rest in
              let seen : nat_le (p.offset + 8) (length (u (space.Table p.table))) ≡ false = All-head (IsTrueBy (λ (k : ℕ). u (space.Table k))) (shows.Fault P.domain p.table p.offset) [] (subst (λ (l : List Obs). All (IsTrueBy (λ (k : ℕ). u (space.Table k))) l) p.events_are well.seen) in
              let is_true : has_word t p.table p.offset ≡ false = ap (λ (l : List ℕ). nat_le (p.offset + 8) (length l)) (sym (far_table d e p.moves p.table p.its)) ∙ seen in
              let turn = step t is_true in
              let event : (graph_step f.course.number f.course.mail t x.ghost.state f.course.graph).event ≡ shows.Fault P.domain p.table p.offset = ap (λ (q : GraphTurn). q.event) turn in
              let runs = still_runs f.course t x.ghost.state (λ k. fault_some (sym event ∙ k)) in
              let its_shown : (landing_on w n ev).shown ≡ shows.Fault P.domain p.table p.offset = told_one P.home (landing_on w n ev).shown (shows.Fault P.domain p.table p.offset) (shown ∙ p.events_are) in
              let fell : fallen x.ghost.state ≡ well.falls.0 = (steps_show f.course x.ghost.state (shows.Fault P.domain p.table p.offset) well.falls.0 step).fallen P.domain p.table p.offset refl in
              let went = go_one f.course t x.ghost.state (shows.Fault P.domain p.table p.offset) well.falls.0 0 0 step is_true runs (omega arith) in
              record {
                goes = subst (λ (q : Obs). Going f.course t x.ghost.state (shown_then q []) t (fallen x.ghost.state) 0 0) (sym its_shown) (subst (λ (y : GraphState). Going f.course t x.ghost.state (shows.Fault P.domain p.table p.offset ∷ []) t y 0 0) (sym fell) went);
                clean = subst IsClean (sym its_shown) tt;
                ended = ap (λ (y : GraphState). y.ended) fell ∙ well.falls.2;
              }
            where
              fault_some : shows.Fault P.domain p.table p.offset ≡ shows.Nothing → ⊥
              fault_some q = absurd (cc)

      pub fails_here : Fails W c x m n t
      fails_here = by_outcome (acts P.domain (tabled s u) slot d (opcode_in slot)) refl (event_good P h.laid G (promises f h) x m ready n finds.sound finds.agrees d e) (event_lands P h.laid G (promises f h) x m ready n finds.sound finds.agrees d e)
        where
          by_outcome : (o : Outcome) → acts P.domain (tabled s u) slot d (opcode_in slot) ≡ o → IsGood o → LandsAs P.home (reads_by P.home d slot (opcode_in slot)) o (landing_on w n ev) → Fails W c x m n t
          by_outcome (Went us events) is good lands = absurd (true≢false (sym lands.allowed ∙ refused))
          by_outcome (Faults us events) is good lands = faulted us events is lands.shown_is
          by_outcome Bad is good lands = absurd good

    pub fails_at : (landing_on w n ev).allowed ≡ false → Fails W c x m n t
    fails_at refused = let body = body_at P h.laid G (promises f h) x m ready ev finds.inside in fails_here body.0 body.1 refused
