-- The theorem on all chains: what the adapter has shown and left after any list of actions is what the machines have, with no more useful actions than their steps pay for, and no chain that still runs is stuck.
use Rattle.std.proofs.Common.{◌≡◌, ◌≢◌, ℕ, ◌+◌, ◌<◌, ◌≤◌, ◌⊎◌, inl, inr, Bool, true, false, not, ◌==◌, List, [], ◌∷◌, Option, Some, None, length, refl, sym, ap, subst, ◌∙◌, arith}
use Rattle.std.specs.Prelude.{slice_get, is_some, nat_le, nat_lt, if◌then◌else◌}
use Rattle.std.proofs.lemmas.Bool.{cases_eq, cases_lt, false≢true, true≢false, eq-eqb, eqb-true, false_from_ne_true, and_parts, not-true}
use Rattle.std.proofs.lemmas.Bool.Decides.{nat_tests}
use Rattle.std.proofs.lemmas.Option.{slice_get_past}
use Rattle.redn_words.specs.declared.types.QueueRow.{QueueRow}
use Rattle.redn_words.specs.declared.types.Receive.{Receive}
use Rattle.redn_words.specs.declared.types.Action.{Action}
use Rattle.redn_words.specs.declared.types.Action.TheVariants.{Deliver}
use Rattle.redn_words.specs.States.{Mail, Absent, Pending, Delivered, Chain, State}
use Rattle.redn_words.specs.Landings.{Change}
use Rattle.redn_words.specs.Steps.{class_of, possible, is_useful, may_start, counter_of, chain_counter, acts_on}
use Rattle.redn_words.specs.Runs.{AllPossible, reached}
use Rattle.redn_words.proofs.Actions as action
use Rattle.redn_proof_window.specs.Stages.{written_in}
use Rattle.redn_words.specs.declared.limits.TheConstants.{RECEIVE_BASE}
use Rattle.redn_proof_window.specs.Windows.{Ending, By_gates, Last, Followed, Opening, bodies_of, place_of, slots_of}
use Rattle.redn_proof_window.proofs.Counters.{no_gate_begins}
use Rattle.redn_proof_window.proofs.Places.{place_below}
use Rattle.redn_proof_window.proofs.Marks.{landed_before}
use Rattle.redn_words.proofs.Missing.{missing_le}
use Rattle.redn_proof_window.specs.Stages.{Orderly}
use Rattle.redn_proof_window.specs.Moves.{GoesOn, MayBegin}
use Rattle.redn_proof_window.proofs.Moves.{goes_on}
use Rattle.redn_proof_window.specs.Gateways.{gate_of}
use Rattle.redn_proof_window.specs.Scripts.{window_at}
use Rattle.redn_proof_window.proofs.Chains.{chain_goes_on}
use Rattle.redn_kernel.specs.Costs.{entry_cost}
use Rattle.redn_image.specs.Faithful.{CanGoOn}
use Rattle.redn_image.proofs.Simulation.{follows}
use Rattle.redn_proof_interleave.specs.Machines.{Many, many_running, many_step, many_tells, many_credit}
use Rattle.redn_proof_window.proofs.GateQueues.{gate_goes_on}
use Rattle.redn_proof_interleave.proofs.Leaves.{chain_is, received_counter}
use Rattle.redn_proof_interleave.specs.Forms.{World, chains_of, message, message_in, pending, awake, machine, IsTold, Promises, AllPromise, expected}
use Rattle.redn_proof_interleave.proofs.Relations.{Mailed, Entering, Inside, Stands, Enters, Opened, Over, Related}
use Rattle.redn_proof_interleave.proofs.Views.{IsOwn, own_there, entry_stage}
use Rattle.redn_proof_interleave.specs.Explains.{Runs, after_turns, turns_earn, costs, Begins, ExplainsAll}
use Rattle.redn_proof_interleave.proofs.AllChains.{each_follows}

-- a message that is pending can come
can_deliver : (s : State) (c : ℕ) (place : Receive) (chain : Chain) (bytes : List ℕ) → slice_get s.receives c ≡ Some place → slice_get s.chains c ≡ Some chain → chain.mail ≡ Pending bytes → possible s (Deliver c) ≡ true
unfolding possible
can_deliver s c place chain bytes row there mail = rw (row, there, mail) refl

module _ (g : World) where
  -- a machine still runs: so its chain is one of those with a message
  pub runs_inside : (z : Many g.M) (c : ℕ) → many_running g.M (machine g) (awake g) z c ≡ true → c < chains_of g
  runs_inside z c running =
      elim (cases_lt c (chains_of g)) [
        | inl inside ↦ inside
        | inr far ↦
            let woken = (and_parts (awake g c) (not ((machine g c).ended (z.at c))) running).0 in
            let none : awake g c ≡ false = ap (λ (o : Option Chain). is_some (message_in o)) (slice_get_past g.begin.chains c far) in
            absurd (false≢true (sym none ∙ woken))
      ]

  module _ (all : AllPromise g) (n : ℕ) (s : State) (z : Many g.M) (b : ℕ → ℕ) (r : Related g n s z b) where
    module _ (c : ℕ) (l : c < chains_of g) (running : many_running g.M (machine g) (awake g) z c ≡ true) where
      k : Promises g c
      k = all.each c l

      not_ended : (g.form c).machine.ended (z.at c) ≡ false
      not_ended = not-true ((g.form c).machine.ended (z.at c)) (and_parts (awake g c) (not ((g.form c).machine.ended (z.at c))) running).1

      -- an action of one of its queues is its own
      by_queue : (a : Action) (q : ℕ) → acts_on a ≡ Some q → IsOwn g c q → possible s a ≡ true → is_useful s a ≡ true → CanGoOn s c
      by_queue a q its own can useful =
          let u = own_there g all n s z b r c l q own in
          record { action = a; can = can; useful = useful; its = chain_is s q u.0 u.1 a its ∙ ap (λ (d : ℕ). Some d) u.2 }

      -- its message can come
      module _ (h : Entering g c s (z.at c) (b c)) where
        delivers : Mailed g c s false → CanGoOn s c
        delivers m = by_message (message g c) refl
          where
            by_mail : (chain : Chain) (mail : Mail) (bytes : List ℕ) → chain.mail ≡ mail → slice_get s.chains c ≡ Some chain → message g c ≡ Some bytes → pending mail ≡ Some bytes → CanGoOn s c
            by_mail chain Absent bytes e there its p = absurd (cc)
            by_mail chain Delivered bytes e there its p = absurd (cc)
            by_mail chain (Pending some) bytes e there its p =
                let place = k.place bytes its in
                let row : slice_get s.receives c ≡ Some place.place = ap (λ (rows : List Receive). slice_get rows c) r.receives ∙ place.there in
                record { action = Deliver c; can = can_deliver s c place.place chain some row there e; useful = refl; its = refl }

            by_message : (o : Option (List ℕ)) → message g c ≡ o → CanGoOn s c
            by_message None e = let woken = (and_parts (awake g c) (not ((g.form c).machine.ended (z.at c))) running).0 in absurd (false≢true (sym (ap is_some e) ∙ woken))
            by_message (Some bytes) e =
                let begins = k.chain_begins in
                by_mail begins.0 begins.0.mail bytes refl (m ∙ begins.1) e (sym (ap message_in begins.1) ∙ e)

        -- or its next gate can pass
        passes : Mailed g c s true → CanGoOn s c
        passes m =
            let more = h.few in
            let two = k.entry.two in
            let on = gate_goes_on (g.form c).entry k.entry.orderly s h.u h.passed (entry_stage g c k s (z.at c) (b c) h) (omega arith) (by_gate (cases_eq h.passed 0)) in
            by_queue on.action (g.form c).entry.queue on.its (inl refl) on.can on.useful
          where
            own_row : h.u.row.domain ≡ c
            own_row = ap (λ (x : QueueRow). x.domain) h.queue.row ∙ k.entry.domain

            counter : (at : h.passed ≡ 0) → counter_of s h.u.row.domain (gate_of (g.form c).entry h.passed).first ≡ Some 1
            counter at = ap (counter_of s h.u.row.domain) (ap (λ (i : ℕ). (gate_of (g.form c).entry i).first) at ∙ k.entry.counter) ∙ ap (λ (d : ℕ). counter_of s d (RECEIVE_BASE + c)) own_row ∙ received_counter s c ∙ ap chain_counter m.2

            by_gate : (h.passed ≡ 0) ⊎ (h.passed ≢ 0) → may_start s h.u (gate_of (g.form c).entry h.passed) (class_of (gate_of (g.form c).entry h.passed)) ≡ true
            by_gate (inl at) =
                let one : (gate_of (g.form c).entry h.passed).second ≡ 1 = ap (λ (i : ℕ). (gate_of (g.form c).entry i).second) at ∙ k.entry.one in
                ap (may_start s h.u (gate_of (g.form c).entry h.passed)) (ap (λ (i : ℕ). class_of (gate_of (g.form c).entry i)) at ∙ k.entry.waits) ∙ action.may_wait s (g.form c).entry.queue h.u h.there (gate_of (g.form c).entry h.passed) 1 (counter at) ∙ ap (λ (i : ℕ). nat_le i 1) one
            by_gate (inr ne) =
                let few = h.few in
                let second : h.passed ≡ 1 = omega (arith, few, ne) in
                ap (may_start s h.u (gate_of (g.form c).entry h.passed)) (ap (λ (i : ℕ). class_of (gate_of (g.form c).entry i)) second ∙ k.entry.enables) ∙ action.may_enable s (g.form c).entry.queue h.u h.there (gate_of (g.form c).entry h.passed)

        enters_on : CanGoOn s c
        enters_on = by_came h.came h.mailed
          where
            by_came : (came : Bool) → Mailed g c s came → CanGoOn s c
            by_came true m = passes m
            by_came false m = delivers m

      -- a window goes on, until its chain has ended
      window_on : Inside g c s (z.at c) (b c) → CanGoOn s c
      window_on h = by_ending w.ending refl
        where
          w : Opening
          w = window_at (g.form c).script h.moment

          script_ok : Orderly w
          script_ok = k.script.orderly h.moment.point h.moment.memory h.chain.ready

          of_window : GoesOn s w.queue → CanGoOn s c
          of_window o = by_queue o.action w.queue o.its (inr (k.script.ring_is h.moment.point h.moment.memory)) o.can o.useful

          event_past : slots_of w ≤ h.moment.progress.done → w.event < bodies_of w → place_of w w.event < h.moment.progress.done
          event_past all inside = let below = place_below w w.event (bodies_of w + length w.gates) (omega (arith, inside)) in omega (arith, below, all)

          begins : MayBegin w s h.moment.progress.done
          begins = no_gate_begins w s h.moment.progress.done (k.no_first_gate h.moment.point h.moment.memory)

          over : w.ending ≡ Last → slots_of w ≤ h.moment.progress.done → (told : Option (List Change)) → h.told ≡ told → IsTold w (written_in w h.moment.progress) h.moment.event told → ⊥
          over is all None e t =
              let last = k.ends h.moment.point h.moment.memory h.chain.ready is in
              let inside = last.0 in
              true≢false (sym (landed_before h.moment.progress.done h.moment.progress.marks (place_of w w.event) (event_past all inside)) ∙ t inside 0)
          over is all (Some event) e t =
              let last = k.ends h.moment.point h.moment.memory h.chain.ready is in
              let wrote = h.chain.wrote (t.1 0) t.0 in
              let ended : (g.form c).machine.ended (z.at c) ≡ true = ap (g.form c).machine.ended (h.is ∙ ap ((g.form c).state h.moment.point) (e ∙ ap (λ (w : List Change). Some w) t.2)) ∙ last.1 h.moment.event wrote in
              false≢true (sym not_ended ∙ ended)

          by_ending : (e : Ending) → w.ending ≡ e → CanGoOn s c
          by_ending By_gates is = of_window (chain_goes_on (g.form c).script k.script s h.moment h.chain is begins)
          by_ending Followed is = absurd (k.unfollowed h.moment.point h.moment.memory h.chain.ready is)
          by_ending Last is =
              elim (cases_lt h.moment.progress.done (slots_of w)) [
                | inl more ↦ of_window (goes_on w script_ok s h.moment.progress h.moment.event h.chain.stage more begins)
                | inr all ↦ absurd (over is all h.told refl h.is_told)
              ]

      stands_on : Stands g c s (z.at c) (b c) → CanGoOn s c
      stands_on (Enters h) = enters_on h
      stands_on (Opened h) = window_on h
      stands_on (Over h) = absurd (false≢true (sym not_ended ∙ h.ended))

    -- each chain whose machine still runs has a useful action
    pub all_go_on : (c : ℕ) → many_running g.M (machine g) (awake g) z c ≡ true → CanGoOn s c
    all_go_on c running = let inside = runs_inside z c running in stands_on c inside running (r.each c inside)

    -- memory has the variables of each chain
    pub all_hold : (c : ℕ) → c < chains_of g → (g.form c).Holds (z.at c) s.memory
    all_hold c inside = by_stands (r.each c inside)
      where
        by_stands : Stands g c s (z.at c) (b c) → (g.form c).Holds (z.at c) s.memory
        by_stands (Enters h) =
            subst (λ (y : g.M). (g.form c).Holds y s.memory) (sym h.is) ((all.each c inside).holds_same (g.form c).begin s.memory (expected g c h.came) h.memory ((all.each c inside).holds_begin h.came))
        by_stands (Opened h) =
            subst (λ (y : g.M). (g.form c).Holds y s.memory) (sym h.is) ((all.each c inside).holds h.moment.point h.moment.memory s.memory
            (written_in (window_at (g.form c).script h.moment) h.moment.progress) h.moment.event h.told h.chain.ready (λ all. h.chain.wrote (all 0)) h.is_told h.chain.stage.standing)
        by_stands (Over h) = h.holds

  -- one turn: the state that it leaves is in hand next
  one_turn : (c d : ℕ) (z : Many g.M) → (machine g c).cost (z.at c) + (if d == c then many_credit g.M (machine g) (awake g) z d else 0) ≡ (if d == c then (machine g d).cost (z.at d) else 0) + (machine g c).cost ((many_step g.M (machine g) (awake g) z d).at c)
  one_turn c d z =
      elim (cases_eq d c) [
        | inl same ↦ subst (λ (e : ℕ). (machine g c).cost (z.at c) + (if e == c then many_credit g.M (machine g) (awake g) z e else 0) ≡ (if e == c then (machine g e).cost (z.at e) else 0) + (machine g c).cost ((many_step g.M (machine g) (awake g) z e).at c)) (sym same) (let t : (c == c) ≡ true = eq-eqb c c refl in rw t refl)
        | inr ne ↦
            let t : (d == c) ≡ false = false_from_ne_true (d == c) (λ e. ne (eqb-true d c e)) in
            let back : (c == d) ≡ false = false_from_ne_true (c == d) (λ e. ne (sym (eqb-true c d e))) in
            rw (t, back) (omega arith)
      ]

  -- what the turns bring is the costs of all steps but the first, and of the step then in hand
  pub earned_costs : (c : ℕ) (turns : List ℕ) (z : Many g.M) → (machine g c).cost (z.at c) + turns_earn g c z turns ≡ costs g c z turns + (machine g c).cost ((after_turns g z turns).at c)
  earned_costs c [] z = omega arith
  earned_costs c (d ∷ turns) z =
      let rest = earned_costs c turns (many_step g.M (machine g) (awake g) z d) in
      let one = one_turn c d z in
      omega (arith, rest, one)

  -- only chains that are there take turns
  earns_nothing : (c : ℕ) → chains_of g ≤ c → (turns : List ℕ) (z : Many g.M) → Runs g z turns → turns_earn g c z turns ≡ 0
  earns_nothing c far [] z runs = refl
  earns_nothing c far (d ∷ turns) z runs =
      let rest = earns_nothing c far turns (many_step g.M (machine g) (awake g) z d) runs.1 in
      let inside = runs_inside z d runs.0 in
      let t : (d == c) ≡ false = grind (arith, nat_tests) in
      rw t (omega (arith, rest))

  module _ (all : AllPromise g) (z : Many g.M) (begins : Begins g z) where
    -- the entry and the first step
    abbrev first_budget : ℕ → ℕ
    first_budget c = if nat_lt c (chains_of g) then entry_cost + (machine g c).cost (g.form c).begin else 0

    first_inside : (c : ℕ) → c < chains_of g → first_budget c ≡ entry_cost + (machine g c).cost (g.form c).begin
    first_inside c inside = let t : nat_lt c (chains_of g) ≡ true = grind (arith, nat_tests) in rw t refl

    first_past : (c : ℕ) → chains_of g ≤ c → first_budget c ≡ 0
    first_past c far = let t : nat_lt c (chains_of g) ≡ false = grind (arith, nat_tests) in rw t refl

    enters_first : (c : ℕ) → c < chains_of g → Stands g c g.begin (z.at c) (first_budget c)
    enters_first c inside =
        let k = all.each c inside in
        let entry = k.entry_begins in
        let two = k.entry.two in
        let few = missing_le 0 (length (g.form c).entry.gates) entry.0.held in
        let enough = first_inside c inside in
        Enters record {
          u = entry.0;
          passed = 0;
          came = false;
          there = entry.1;
          queue = entry.2;
          few = omega arith;
          waited = λ some. absurd (omega arith);
          mailed = refl;
          memory = record { size = refl; bytes = λ p own. refl };
          rests = k.rings_begin;
          is = begins.at c;
          enough = omega (arith, two, few, enough);
        }

    first_related : Related g 0 g.begin z first_budget
    first_related =
        record {
          rows = λ q. refl;
          regions = refl;
          receives = refl;
          size = refl;
          sound = all.sound;
          heads = λ q u there. let head = all.heads q u there in omega arith;
          tables = begins.tables;
          past = λ c far. slice_get_past g.begin.chains c far;
          each = enters_first;
        }

    -- whatever the order
    pub every_order : (acts : List Action) → length acts ≤ g.most → AllPossible g.begin acts → (turns : List ℕ) × ExplainsAll g z acts turns
    every_order acts few p =
        let done = follows (Many g.M) (many_running g.M (machine g) (awake g)) (many_step g.M (machine g) (awake g)) (many_tells g.M (machine g) (awake g)) (many_credit g.M (machine g) (awake g)) (Related g) g.most (λ n s y b a l h q. each_follows g all n s y b h l a q) acts 0 g.begin z first_budget (omega arith) first_related p in (
          done.turns,
          record {
            runs = done.runs;
            shows_events = done.showing;
            tables = done.related.tables;
            variables = all_hold all (0 + length acts) (reached g.begin acts) (after_turns g z done.turns) done.left done.related;
            clean = done.clean;
            few = λ c inside.
                let spends = done.spends c in
                let first = first_inside c inside in
                let sum = earned_costs c done.turns z in
                let begin : (machine g c).cost (z.at c) ≡ (machine g c).cost (g.form c).begin = ap (machine g c).cost (begins.at c) in
                omega (arith, spends, first, sum, begin);
            none = λ c far.
                let spends = done.spends c in
                let first = first_past c far in
                let nothing = earns_nothing c far done.turns z done.runs in
                omega (arith, spends, first, nothing);
            goes_on = all_go_on all (0 + length acts) (reached g.begin acts) (after_turns g z done.turns) done.left done.related;
          },
        )
