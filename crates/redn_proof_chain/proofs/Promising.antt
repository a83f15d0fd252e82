-- The rings of a chain among others are its graph's compiled form.
use Rattle.std.proofs.Common.{◌≡◌, ◌≢◌, ℕ, ◌+◌, ◌-◌, ◌*◌, inl, inr, Bool, true, false, ◌==◌, List, [], refl, sym, ap, ◌∙◌, subst, arith}
use Rattle.std.specs.Prelude.{Some, None, Option, if◌then◌else◌}
use Rattle.std.proofs.lemmas.Bool.{cases_lt}
use Rattle.redn_words.specs.Landings.{Change}
use Rattle.redn_words.proofs.Bytes.{same_range}
use Rattle.redn_kernel.specs.declared.types.Cell.TheVariants.{Var}
use Rattle.redn_segment.specs.declared.types.Space.TheVariants as space
use Rattle.redn_segment.specs.Homes.{base_of}
use Rattle.redn_graph.specs.Run.{GraphState, graph_start, step_cost}
use Rattle.redn_proof_window.specs.Windows.{By_gates, Last, Followed, bodies_of}
use Rattle.redn_proof_window.specs.Stages.{all_written}
use Rattle.redn_proof_window.specs.Moves.{AtRest}
use Rattle.redn_proof_window.specs.Scripts.{IsScript, IsOver, RestsAt}
use Rattle.redn_recycle.specs.Laps.{IsRing, is_send_last}
use Rattle.redn_proof_ring.specs.Plans.{Plan, is_ring, IsPrivate}
use Rattle.redn_proof_ring.specs.Turns.{Meaning, Ready, window_at, script_of, segment_of, head_at, counted_at}
use Rattle.redn_proof_ring.proofs.LapWindows.{bodies_count, gates_count}
use Rattle.redn_proof_interleave.specs.Machines.{Contents}
use Rattle.redn_proof_interleave.specs.Forms.{World, SameMine, Opens, whole, IsTold, KeepsUp, Promises, expected}
use Rattle.redn_proof_block.specs.Shares.{closes_in}
use Rattle.redn_proof_chain.specs.Formed.{Formed, IsFormed, Point, plan, its_meaning, counts_at, state_at, ahead_at, failed_at, owed_at}
use Rattle.redn_proof_chain.specs.Together.{Together, Begun, HasVars, world_of, first_point, script_at}
use Rattle.redn_proof_chain.specs.Among.{IsAmong}
use Rattle.redn_proof_chain.specs.FormLaws.{RingsPromise}
use Rattle.redn_proof_chain.proofs.Sharing.{begins_first}
use Rattle.redn_proof_chain.proofs.Onwards.{GoesOn, goes}
use Rattle.redn_proof_chain.proofs.Goings.{Going, go_none, stood_vars}
use Rattle.redn_proof_chain.proofs.Events.{promises}
use Rattle.redn_proof_chain.proofs.Moving.{script, paid_here, keeps_up, steps, stood_over}
use Rattle.redn_proof_chain.proofs.HoldsVars.{has_same, holds_at}
use Rattle.redn_proof_chain.proofs.Tellings.{tells_at, fails_at}
use Rattle.redn_proof_chain.proofs.Endings.{ends_here}

module _ (g : Together) (c : ℕ) (a : IsAmong g c) where
  abbrev b : Begun
  b = g.chain c

  abbrev f : Formed
  f = b.formed

  abbrev h : IsFormed f
  h = a.formed

  abbrev P : Plan
  P = plan f

  abbrev G : Meaning P
  G = its_meaning f

  abbrev W : World
  W = world_of g

  abbrev first : Point f
  first = first_point b

  -- a ring that no lap has gone round stands at its first slot
  at_zero : (q : ℕ) → is_ring P q ≡ true → (head_at P G first q ≡ 0) × (counted_at P G first q ≡ 0)
  at_zero q its =
      let ring : IsRing q (P.ring q) = h.laid.rings q its in
      let starts = ring.starts in
      let here : segment_of P G first q ≡ 0 = by_ring (q == first.ring) in
      let head : head_at P G first q ≡ 0 * (P.ring q).row.slots + (P.ring q).first (segment_of P G first q) = rw its refl in
      let counted : counted_at P G first q ≡ 0 * (P.ring q).segments + segment_of P G first q = rw its refl in
      let at : (P.ring q).first (segment_of P G first q) ≡ 0 = ap (P.ring q).first here ∙ starts in
      (omega (arith, head, at), omega (arith, counted, here))
    where
      by_ring : (k : Bool) → (if k then first.segment else 0) ≡ 0
      by_ring true = refl
      by_ring false = refl

  opens : (m : List ℕ) → Ready P G first m → Opens W c m
  opens m ready =
      let ring : IsRing first.ring (P.ring first.ring) = h.laid.rings first.ring first.ring_in in
      let starts = ring.starts in
      let follows = ring.follows 0 first.segment_in in
      let bodies = bodies_count P h.laid G (promises f h) first m ready in
      let gates = gates_count P h.laid G (promises f h) first m ready in
      let head = (at_zero first.ring first.ring_in).0 in
      let limit = a.enables.1 in
      record { queue = a.enables.0; limit = omega (arith, limit, follows, starts, bodies, gates, head); regions = a.regions }

  rings_begin : (q : ℕ) → is_ring P q ≡ true → RestsAt (script_at b) g.begin first q
  rings_begin q its =
      let there = a.rests q its in
      let zeros = at_zero q its in
      record { u = there.0; there = there.1; rest = subst (λ (k : ℕ). AtRest (P.ring q).row (head_at P G first q) k there.0) (sym zeros.1) (subst (λ (k : ℕ). AtRest (P.ring q).row k 0 there.0) (sym zeros.0) there.2) }

  begins : (m : List ℕ) (t : Contents) → Ready P G first m → Going f.course t (graph_start f.course.graph b.vars) [] t (state_at f first None) (whole (window_at P G first m) + owed_at f first None) (step_cost f.course.graph (graph_start f.course.graph b.vars))
  begins m t ready =
      let paid = paid_here f h first m ready (begins_first (counts_at f first.ring)) in
      go_none f.course t (graph_start f.course.graph b.vars) (state_at f first None) _ _ refl (omega (arith, paid))

  same_vars : (y : GraphState) (m n : List ℕ) → SameMine W c m n → HasVars b y n → HasVars b y m
  same_vars y m n same has =
      has_same b h a.variables y y n m refl (λ i l.
      let its : IsPrivate P (space.Cell (Var i)) = record { its = a.variables i l; plain = refl } in
      same_range m n (base_of P.home (space.Cell (Var i))) 8 same.size (λ p low high.
      let k : p ≡ base_of P.home (space.Cell (Var i)) + (p - base_of P.home (space.Cell (Var i))) = omega (arith, low) in
      same.bytes p (a.ours p (ap P.ours k ∙ h.laid.private (space.Cell (Var i)) (p - base_of P.home (space.Cell (Var i))) its (omega (arith, low, high)))))) has

  -- a window that is over, whatever memory has of the variables
  abbrev plain_over : (x : Point f) (m : List ℕ) (event : List Change) (n : List ℕ) → IsOver (script_at b) x m event n → IsOver (script_of P G) x m event n
  plain_over x m event n over = record { ready = over.ready.0; goes_on = over.goes_on; wrote = over.wrote; last = over.last; sound = over.sound; standing = over.standing }

  -- what of its event is told then
  told_over : (x : Point f) (m : List ℕ) (event : List Change) → (told : Option (List Change)) × IsTold (window_at P G x m) all_written event told
  told_over x m event =
      elim (cases_lt (window_at P G x m).event (bodies_of (window_at P G x m))) [
        | inl inside ↦ (Some event, (inside, (λ p. refl), refl))
        | inr past ↦ (None, λ inside p. absurd (omega (arith, inside, past)))
      ]

  -- memory has the variables where the chain goes on
  vars_behind : (x : Point f) (m : List ℕ) (event : List Change) (n : List ℕ) → IsOver (script_at b) x m event n → (y : Point f) → GoesOn f x y m event n → HasVars b y.ghost.state n
  vars_behind x m event n over y on =
      let told = told_over x m event in
      let has : HasVars b (state_at f x told.0) n = holds_at b h a.variables x m over.ready.0 over.ready.1 n all_written event over.standing told.0 (λ landed inside. over.wrote inside) told.1 in
      has_same b h a.variables (state_at f x told.0) y.ghost.state n n (stood_vars f.course (closes_in (counts_at f x.ring) x.segment) x.ghost y.ghost on.goes.leaves.events (state_at f x told.0) (ahead_at f x told.0) (steps f h x m over.ready.0 event n y on) (stood_over f h x m over.ready.0 event n y on told.0 told.1)) (λ i l. refl) has

  abbrev behind_at : (x : Point f) (m : List ℕ) (event : List Change) (n : List ℕ) → IsOver (script_at b) x m event n → (y : Point f) × GoesOn f x y m event n
  behind_at x m event n over = goes f h x m event n (plain_over x m event n over)

  abbrev its_script : IsScript (script_at b)
  its_script =
      record {
        orderly = λ x m ready. (script f h).orderly x m ready.0;
        memory = (script f h).memory;
        ring_is = (script f h).ring_is;
        row_is = (script f h).row_is;
        from = (script f h).from;
        counter = (script f h).counter;
        target = λ x m ready by. (script f h).target x m ready.0 by;
        managed = (script f h).managed;
        behind = λ x m event n over.
            let y = behind_at x m event n over in
            let on = y.1.behind in
            (y.0, record { ready = (on.ready, vars_behind x m event n over y.0 y.1); queue = on.queue; limit = on.limit; regions = on.regions; own_at = on.own_at; own_counted = on.own_counted; others_at = on.others_at; others_counted = on.others_counted });
      }

  moves_on : (x : Point f) (m : List ℕ) (event : List Change) (n : List ℕ) (told : Option (List Change)) (t : Contents) → (over : IsOver (script_at b) x m event n) → IsTold (window_at P G x m) all_written event told
      → KeepsUp W c x (its_script.behind x m event n over).0 n told t
  moves_on x m event n told t over is = let y = behind_at x m event n over in keeps_up f h x m over.ready.0 event n y.0 y.1 told t is

  its_ending : (b : Bool) → (if b then Last else By_gates) ≢ Followed
  its_ending true = λ e. absurd (cc)
  its_ending false = λ e. absurd (cc)

  promised : Promises W c
  promised =
      record {
        script = its_script;
        no_first_gate = λ x m. refl;
        unfollowed = λ x m ready. its_ending (is_send_last x.ring (P.ring x.ring) x.segment);
        most = a.most;
        domain = λ x m. (h.laid.rows x.ring x.ring_in).0 ∙ a.number;
        ours = λ x m p e. a.ours p e;
        private = a.private;
        apart = a.apart;
        entry = a.entry;
        place = a.place;
        prepared = λ bytes m is sound same. (a.prepared bytes m is sound same, same_vars (graph_start f.course.graph b.vars) m (expected W c true) same (a.first_vars true));
        opens = λ m ready. opens m ready.0;
        entry_begins = a.entry_begins;
        rings_begin = rings_begin;
        chain_begins = a.chain_begins;
        begins = λ m t ready. begins m t ready.0;
        tells = λ x m n t finds allowed. tells_at g c a x m n t finds allowed;
        fails = λ x m n t finds refused. fails_at g c a x m n t finds refused;
        moves_on = moves_on;
        ends = λ x m ready last. ends_here f h x m ready.0 last;
        holds = λ x m n written event told ready wrote is standing. holds_at b h a.variables x m ready.0 ready.1 n written event standing told wrote is;
        holds_failed = λ x n has. has_same b h a.variables x.ghost.state (failed_at f x) n n refl (λ i l. refl) has;
        holds_begin = a.first_vars;
        holds_same = same_vars;
      }

pub rings_promise : (g : Together) (c : ℕ) → IsAmong g c → RingsPromise g c
rings_promise g c a = promised g c a
