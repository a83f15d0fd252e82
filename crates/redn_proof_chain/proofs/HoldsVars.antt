-- While a window is open, memory has the variables of the state where its graph then is.
use Rattle.std.proofs.Common.{◌≡◌, ◌≢◌, ℕ, ◌<◌, ◌^◌, inl, inr, Bool, true, false, ◌||◌, List, [], ◌∷◌, map, length, refl, sym, ap, ◌∙◌, subst, arith}
use Rattle.std.specs.Prelude.{slice_index, slice_set, Some, None, Option, All}
use Rattle.std.proofs.lemmas.Bool.{cases_eq, ne_eqb}
use Rattle.std.proofs.lemmas.List.{get_or-set_same, get_or-set_other, length-set}
use Rattle.std.proofs.lemmas.List.Elements.{All-head}
use Rattle.redn_words.specs.declared.types.Obs.{Obs}
use Rattle.redn_words.specs.declared.types.Obs.TheVariants as shows
use Rattle.redn_words.specs.Words.{bytes_at, word, spelled}
use Rattle.redn_words.specs.Landings.{Change}
use Rattle.redn_words.specs.Bytes.{hits}
use Rattle.redn_words.proofs.Digits.{spelled-number}
use Rattle.redn_kernel.specs.declared.types.Cell.TheVariants.{Var}
use Rattle.redn_graph.specs.Run.{GraphState}
use Rattle.redn_image.specs.Faithful.{IsClean}
use Rattle.redn_segment.specs.declared.types.Space.TheVariants as space
use Rattle.redn_segment.specs.declared.types.Draft.{Draft}
use Rattle.redn_segment.specs.Sites.{is_table}
use Rattle.redn_segment.specs.Plain.{Bytes, put, opcode_in, local_space, remote_space}
use Rattle.redn_segment.specs.Homes.{base_of, room_of}
use Rattle.redn_segment.proofs.Halves.{number_small}
use Rattle.redn_segment.proofs.SameSpace.{table_space}
use Rattle.redn_proof_window.specs.Windows.{Opening, bodies_of, origin_of, request_of}
use Rattle.redn_proof_window.specs.Stages.{Standing}
use Rattle.redn_proof_window.specs.Scripts.{Wrote}
use Rattle.redn_proof_window.proofs.Sound.{AreBytes, landing_bytes}
use Rattle.redn_proof_landing.specs.Homes.{seen_in, change_of, Inside}
use Rattle.redn_proof_landing.specs.Segments.{is_table_space}
use Rattle.redn_proof_ring.specs.Plans.{Plan, IsBody}
use Rattle.redn_proof_ring.specs.Turns.{Meaning, Ready, HasBytes, tabled, slot_in, window_at}
use Rattle.redn_proof_ring.proofs.LapKept.{body_at}
use Rattle.redn_proof_ring.proofs.LapNext.{seen_bytes}
use Rattle.redn_proof_ring.proofs.LapEvent.{EventPuts, event_puts, body_inside, length_there}
use Rattle.redn_proof_ring.proofs.Promised.{told_now}
use Rattle.redn_proof_interleave.specs.Forms.{IsTold}
use Rattle.redn_proof_block.specs.Truth.{IsTrueBy}
use Rattle.redn_proof_block.specs.Left as left
use Rattle.redn_proof_block.specs.Stages.{Ghost}
use Rattle.redn_proof_block.specs.Stages as stages
use Rattle.redn_proof_block.specs.Shares.{closes_in}
use Rattle.redn_proof_chain.specs.States.{Reads}
use Rattle.redn_proof_chain.specs.Formed.{Formed, IsFormed, TellsWell, Point, plan, its_meaning, counts_at, state_at, ahead_at}
use Rattle.redn_proof_chain.specs.Together.{Begun, HasVars}
use Rattle.redn_proof_chain.proofs.Bytewise.{each_byte, take_whole}
use Rattle.redn_proof_chain.proofs.States.{IsBehind, step_leaves}
use Rattle.redn_proof_chain.proofs.Shapes.{Shape, Idle, Words, Sends, reads_of}
use Rattle.redn_proof_chain.proofs.Goings.{Stood, As_before, Behind_it, event_step}
use Rattle.redn_proof_chain.proofs.Events.{promises, turned_event, event_shape, stood}
use Rattle.redn_proof_chain.proofs.Varying.{VarFlat, NoVar, NoVars, Varies, Keeps, Sets, varies, vars_kept, vars_set}
use Rattle.redn_proof_chain.proofs.Holding.{near_long, kept, covers_none, flat_misses, landed_flat, landed_set}

cons_none : (o : Obs) → o ∷ [] ≡ [] → ⊥
cons_none o e = absurd (cc)

same_event : (o e : Obs) → o ∷ [] ≡ e ∷ [] → o ≡ e
same_event o e h = cc

module _ (b : Begun) (h : IsFormed b.formed) (variables : (i : ℕ) → i < length b.vars → b.formed.layout.mine (space.Cell (Var i)) ≡ true) where
  abbrev f : Formed
  f = b.formed

  abbrev P : Plan
  P = plan f

  abbrev G : Meaning P
  G = its_meaning f

  abbrev at : ℕ → ℕ
  at i = base_of P.home (space.Cell (Var i))

  -- variables that stay
  pub has_same : (y z : GraphState) (m n : List ℕ) → z.cells.vars ≡ y.cells.vars → ((i : ℕ) → i < length b.vars → bytes_at n (at i) 8 ≡ bytes_at m (at i) 8) → HasVars b y m → HasVars b z n
  has_same y z m n vars bytes has =
      record {
        many = ap length vars ∙ has.many;
        each = λ i l. let old = has.each i l in (bytes i l ∙ old.0 ∙ ap (λ (v : List ℕ). spelled 8 (slice_index v i)) (sym vars), subst (λ (v : List ℕ). slice_index v i < 2 ^ 64) (sym vars) old.1);
      }

  -- and one that is set
  has_set : (y z : GraphState) (m n bytes : List ℕ) (v : ℕ) → z.cells.vars ≡ slice_set y.cells.vars v (word bytes 0) → bytes ≡ spelled 8 (word bytes 0) → word bytes 0 < 2 ^ 64 → ((i : ℕ) → i < length b.vars → i ≡ v → bytes_at n (at i) 8 ≡ bytes) → ((i : ℕ) → i < length b.vars → i ≢ v → bytes_at n (at i) 8 ≡ bytes_at m (at i) 8) → HasVars b y m → HasVars b z n
  has_set y z m n bytes v vars is small here others has =
      record {
        many = ap length vars ∙ length-set y.cells.vars v (word bytes 0) ∙ has.many;
        each = λ i l. elim (cases_eq i v) [
          | inl same ↦
              let inside : v < length y.cells.vars = (let many = has.many in omega (arith, l, same, many)) in
              let value : slice_index z.cells.vars i ≡ word bytes 0 = ap (λ (k : List ℕ). slice_index k i) vars ∙ ap (slice_index (slice_set y.cells.vars v (word bytes 0))) same ∙ get_or-set_same y.cells.vars v (word bytes 0) 0 inside in
              (here i l same ∙ is ∙ ap (spelled 8) (sym value), subst (λ (k : ℕ). k < 2 ^ 64) (sym value) small)
          | inr ne ↦
              let value : slice_index z.cells.vars i ≡ slice_index y.cells.vars i = ap (λ (k : List ℕ). slice_index k i) vars ∙ get_or-set_other y.cells.vars v i (word bytes 0) 0 ne in
              let old = has.each i l in
              (others i l ne ∙ old.0 ∙ ap (spelled 8) (sym value), subst (λ (k : ℕ). k < 2 ^ 64) (sym value) old.1)
        ];
      }

  module _ (x : Point f) (m : List ℕ) (ready : Ready P G x m) (has : HasVars b x.ghost.state m) (n : List ℕ) (written : ℕ → ℕ → Bool) (event : List Change) (standing : Standing (window_at P G x m) n written event) where
    abbrev r : ℕ
    r = x.ring

    abbrev j : ℕ
    j = x.segment

    abbrev ev : ℕ
    ev = (P.ring r).event j

    abbrev w : Opening
    w = window_at P G x m

    abbrev s : Bytes
    s = seen_in P.home m

    abbrev slot : List ℕ
    slot = slot_in P s r j ev

    module _ (inside : ev < bodies_of w) (mark : (p : ℕ) → written ev p ≡ true) (wrote : Wrote w event) (d : Draft) (e : IsBody P r j ev d) where
      abbrev u : Bytes
      u = seen_in P.home wrote.memory

      ubytes : HasBytes u
      ubytes k = seen_bytes P.home wrote.memory (space.Table k) wrote.sound

      abbrev its : EventPuts P h.laid G (promises f h) x m ready wrote.memory wrote.sound wrote.agrees d e
      its = event_puts P h.laid G (promises f h) x m ready wrote.memory wrote.sound wrote.agrees d e wrote.allowed

      told : (z : Ghost) × f.tells r j u x.ghost its.events z
      told = told_now P f.takes Ghost f.tells f.fails f.enters h.laid h.allows r j x.ring_in x.segment_in x.ghost s ready.fine u ubytes d its.puts its.events e its.goes

      well : TellsWell f r j u x.ghost its.events told.0
      well = h.tells_well r j u x.ghost its.events told.0 x.ring_in x.segment_in told.1

      wrote_puts : event ≡ map (change_of P.home) its.puts
      wrote_puts = wrote.is ∙ its.lands.writes_are

      shape_here : Shape (opcode_in slot) its.puts its.events
      shape_here = event_shape f h x m ready d e u ubytes its.puts its.events its.goes

      near_same : tabled s u (local_space d) ≡ s (local_space d)
      near_same = let flat : is_table_space (local_space d) ≡ false = sym (table_space d.local) ∙ ((h.laid.apart r j x.ring_in x.segment_in).private ev d e).0 in rw flat refl

      varies_here : Varies P.domain (tabled s u) slot d its.puts its.events
      varies_here = varies P.domain (tabled s u) slot d its.puts its.events (near_long f h x m ready ev d (tabled s u) e near_same) (opcode_in slot) (turned_event f h x m ready d e).reads its.goes

      all_inside : Inside P.home P.mine its.puts
      all_inside = body_inside P h.laid G (promises f h) x m ready ev d (tabled s u) its.puts its.events e (λ mine table. long mine table) its.goes
        where
          long : P.mine (remote_space d) ≡ true → is_table d.remote ≡ true → length (tabled s u (remote_space d)) ≡ room_of P.home (remote_space d)
          long mine table =
              let far : is_table_space (remote_space d) ≡ true = sym (table_space d.remote) ∙ table in
              let there : tabled s u (remote_space d) ≡ u (remote_space d) = rw far refl in
              ap length there ∙ length_there P h.laid G (promises f h) x m ready wrote.memory d wrote.agrees.size mine

      -- what the graph's step leaves
      leaves : (o : Obs) → its.events ≡ o ∷ [] → IsClean o × IsBehind o x.ghost.state told.0.state
      leaves o is = by_shape shape_here
        where
          step : left.Tells f.course x.ghost.state o told.0.state
          step = event_step f.course (closes_in (counts_at f r) j) x.ghost o told.0 (subst (λ (l : List Obs). stages.Tells f.course (closes_in (counts_at f r) j) x.ghost l told.0) is well.steps)

          seen : IsTrueBy (λ (k : ℕ). u (space.Table k)) o
          seen = All-head (IsTrueBy (λ (k : ℕ). u (space.Table k))) o [] (subst (λ (l : List Obs). All (IsTrueBy (λ (k : ℕ). u (space.Table k))) l) is well.seen)

          by_shape : Shape (opcode_in slot) its.puts its.events → IsClean o × IsBehind o x.ghost.state told.0.state
          by_shape (Idle none puts quiet) = absurd (cons_none o (sym is ∙ none))
          by_shape (Words q p rest those some puts wordy quiet) =
              let same : q ≡ o = same_event q o (sym those ∙ is) in
              step_leaves f.course x.ghost.state o told.0.state step (word p.bytes 0) (subst (λ (k : Obs). Reads k (word p.bytes 0)) same (reads_of (λ (k : ℕ). u (space.Table k)) q (word p.bytes 0) ubytes (subst (IsTrueBy (λ (k : ℕ). u (space.Table k))) (sym same) seen) wordy))
          by_shape (Sends c k ws those puts sent) =
              let same : shows.Reply c k ws ≡ o = same_event (shows.Reply c k ws) o (sym those ∙ is) in
              step_leaves f.course x.ghost.state o told.0.state step 0 (subst (λ (k : Obs). Reads k 0) same tt)

      kept_flat : VarFlat its.puts → (i : ℕ) → i < length b.vars → bytes_at n (at i) 8 ≡ bytes_at m (at i) 8
      kept_flat flat i l = landed_flat f h x m ready n written event standing its.puts wrote_puts i (variables i l) inside mark (λ p low high. flat_misses f h its.puts i p (variables i l) flat all_inside low high)

      abbrev Now : Type 0
      Now = HasVars b (state_at f x (Some (map (change_of P.home) its.puts))) n

      by_cases : Stood f.course x.ghost told.0 its.events (state_at f x (Some (map (change_of P.home) its.puts))) (ahead_at f x (Some (map (change_of P.home) its.puts))) → Varies P.domain (tabled s u) slot d its.puts its.events → Now
      by_cases (As_before none same flag) (Keeps flat still) = has_same x.ghost.state (state_at f x (Some (map (change_of P.home) its.puts))) m n (ap (λ (y : GraphState). y.cells.vars) same) (kept_flat flat) has
      by_cases (As_before none same flag) (Sets i bytes rest o puts flat is set long) = absurd (cons_none o (sym is ∙ none))
      by_cases (Behind_it o is same flag) (Keeps flat still) =
          let left_it = leaves o is in
          let quiet : NoVar o = (subst NoVars is still).0 in
          has_same x.ghost.state (state_at f x (Some (map (change_of P.home) its.puts))) m n (ap (λ (y : GraphState). y.cells.vars) same ∙ vars_kept o x.ghost.state told.0.state left_it.0 quiet left_it.1) (kept_flat flat) has
      by_cases (Behind_it o is same flag) (Sets i bytes rest q puts flat those set long) =
          let left_it = leaves q those in
          let ins : Inside P.home P.mine (put (space.Cell (Var i)) 0 bytes ∷ rest) = subst (Inside P.home P.mine) puts all_inside in
          let put_is : event ≡ map (change_of P.home) (put (space.Cell (Var i)) 0 bytes ∷ rest) = wrote_puts ∙ ap (map (change_of P.home)) puts in
          let sound : AreBytes (map (change_of P.home) (put (space.Cell (Var i)) 0 bytes ∷ rest)) = subst AreBytes (sym wrote.is ∙ put_is) (landing_bytes w.regions (origin_of w ev) (request_of w ev) wrote.memory wrote.sound) in
          let again : bytes ≡ spelled 8 (word bytes 0) = sym (spelled-number 8 bytes 0 (omega (arith, long)) (each_byte bytes sound.0) ∙ take_whole bytes 8 long) in
          has_set x.ghost.state (state_at f x (Some (map (change_of P.home) its.puts))) m n bytes i (ap (λ (y : GraphState). y.cells.vars) same ∙ vars_set i (word bytes 0) q x.ghost.state told.0.state set left_it.1) again (number_small 8 0 bytes sound.0)
          (λ k l is_it. subst (λ (v : ℕ). bytes_at n (at v) 8 ≡ bytes) (sym is_it) (landed_set f h x m ready n written event standing i bytes rest put_is long
          (subst (λ (v : ℕ). P.mine (space.Cell (Var v)) ≡ true) is_it (variables k l)) inside mark flat ins.1))
          (λ k l ne. landed_flat f h x m ready n written event standing (put (space.Cell (Var i)) 0 bytes ∷ rest) put_is k (variables k l) inside mark (λ p low high.
          ap (λ (c : Bool). c || hits (map (change_of P.home) rest) p) (covers_none f h (put (space.Cell (Var i)) 0 bytes) k p (variables k l) ins.0.0 ins.0.1 (ne_eqb i k (λ q. ne (sym q))) low high) ∙ flat_misses f h rest k p (variables k l) flat ins.1 low high)) has

      now : HasVars b (state_at f x (Some event)) n
      now = subst (λ (c : List Change). HasVars b (state_at f x (Some c)) n) (sym wrote_puts) (by_cases (stood f h x m ready d e u ubytes its.puts its.events its.goes told.0 told.1) varies_here)

    pub holds_at : (told : Option (List Change)) → (((p : ℕ) → written ev p ≡ true) → ev < bodies_of w → Wrote w event) → IsTold w written event told → HasVars b (state_at f x told) n
    holds_at None wrote is = has_same x.ghost.state x.ghost.state m n refl (λ i l. kept f h x m ready n written event standing i (variables i l) is) has
    holds_at (Some e) wrote is =
        let body = body_at P h.laid G (promises f h) x m ready ev is.0 in
        subst (λ (c : List Change). HasVars b (state_at f x (Some c)) n) (sym is.2) (now is.0 is.1 (wrote is.1 is.0) body.0 body.1)
