-- One segment of what is left.
use Rattle.std.proofs.Common.{◌≡◌, ℕ, Bool, true, false, List, [], ◌∷◌, ◌++◌, length, refl, sym, ap, ◌∙◌, subst}
use Rattle.redn_words.specs.declared.types.Obs.{Obs}
use Rattle.redn_graph.specs.Run.{GraphState, GraphTurn}
use Rattle.redn_segment.specs.declared.types.SlotRef.{SlotRef}
use Rattle.redn_segment.specs.declared.types.Draft.{Draft}
use Rattle.redn_segment.specs.Plain.{Bytes, View, Put, placed, Outcome, Went, Faults, Bad, after, follow, runs}
use Rattle.redn_segment.specs.Primed.{SeesBytes}
use Rattle.redn_segment.specs.Effects.{slot_behind}
use Rattle.redn_segment.proofs.Composing.{runs_append, placed_append, apart as behind_other}
use Rattle.redn_proof_ring.specs.Runs.{own_view}
use Rattle.redn_proof_ring.specs.Turns.{HasBytes}
use Rattle.redn_block.specs.Plays.{IsTrueOf, EventSteps}
use Rattle.redn_proof_block.specs.Left.{Course, Tells, Rest, Falls, LeftBy, IsLeftOf}
use Rattle.redn_proof_block.proofs.Views.{runs_alike, split, split_here, split_there, split_bytes, AllTrue, runs_true, tables_for, true_of}

module _ (c : Course) where
  -- an event leads to one state
  tells_one : (x y z : GraphState) (e : Obs) (tables : List (List ℕ)) → IsTrueOf tables e → Tells c x e y → Tells c x e z → y ≡ z
  tells_one x y z e tables is first second = ap (λ (t : GraphTurn). t.state) (sym (first tables is) ∙ second tables is)

  module _ (Then : GraphState → Bytes → Type 0) (x : GraphState) (at : SlotRef) (ds es : List Draft) (t : Bytes) where
    abbrev behind : SlotRef
    behind = slot_behind at (length ds)

    -- the drafts of the first segment by one view, and all others by another
    joined : (v w : View) → v.number ≡ w.number → runs (split at (length ds) v w) at (ds ++ es) t ≡ follow (runs v at ds t) (λ (us : List Put). runs w behind es (placed t us))
    joined v w same =
        runs_append (split at (length ds) v w) es ds at t ∙ (ap (λ (o : Outcome). follow o (λ (us : List Put). runs (split at (length ds) v w) behind es (placed t us))) (runs_alike (split at (length ds) v w) v refl ds at t (λ q o. split_here at (length ds) v w q o)) ∙ ap (follow (runs v at ds t)) (λ i us. runs_alike (split at (length ds) v w) w same es behind (placed t us) (λ q o. split_there at (length ds) v w q (behind_other at (length ds) (length es) q o)) i))

    module _ (ahead : Bool) (left : IsLeftOf c Then ahead x at (ds ++ es) t) (u : Bytes) (bytes : HasBytes u) where
      abbrev first : View
      first = own_view c.number u

      with_view : (w : View) → w.number ≡ c.number → SeesBytes w → (us : List Put) (before : List Obs) → runs first at ds t ≡ Went us before → LeftBy c Then ahead x t (after us before (runs w behind es (placed t us)))
      with_view w number sees us before goes =
          subst (λ (o : Outcome). LeftBy c Then ahead x t o) (joined first w (sym number) ∙ ap (λ (o : Outcome). follow o (λ (vs : List Put). runs w behind es (placed t vs))) goes) (left (split at (length ds) first w) refl (split_bytes at (length ds) first w (λ q k. bytes k) sees))

      -- nothing was shown
      silent_by : (us : List Put) (o : Outcome) → LeftBy c Then ahead x t (after us [] o) → LeftBy c Then ahead x (placed t us) o
      silent_by us (Went vs events) h = (h.0, h.1, subst (Then h.0) (placed_append us vs t) h.2)
      silent_by us _ h = h

      pub left_silent : (us : List Put) → runs first at ds t ≡ Went us [] → IsLeftOf c Then ahead x behind es (placed t us)
      left_silent us goes w number sees = silent_by us (runs w behind es (placed t us)) (with_view w number sees us [] goes)

      -- events were shown
      steps_split : (l m : List Obs) (y z : GraphState) → EventSteps c.number c.mail c.graph y (l ++ m) z → (w : GraphState) × EventSteps c.number c.mail c.graph y l w × EventSteps c.number c.mail c.graph w m z
      steps_split [] m y z h = (y, refl, h)
      steps_split (e ∷ l) m y z h = let r = steps_split l m h.0 z h.2 in (r.0, (h.0, h.1, r.1), r.2)

      rest_steps : (b : Bool) (e : Obs) (l m : List Obs) (z : GraphState) → Rest c b x (e ∷ (l ++ m)) z → (w : GraphState) × EventSteps c.number c.mail c.graph x (e ∷ l) w × EventSteps c.number c.mail c.graph w m z
      rest_steps true e l m z h = steps_split (e ∷ l) m x z h
      rest_steps false e l m z h = steps_split (e ∷ l) m x z h

      -- they lead to one state
      steps_one : (l : List Obs) (y w z : GraphState) → AllTrue c.number u l → EventSteps c.number c.mail c.graph y l w → EventSteps c.number c.mail c.graph y l z → w ≡ z
      steps_one [] y w z is h k = sym h ∙ k
      steps_one (e ∷ l) y w z is h k =
          let same : h.0 ≡ k.0 = tells_one y h.0 k.0 e (tables_for u e) (true_of u e is.0) h.1 k.1 in
          steps_one l k.0 w z is.1 (subst (λ (g : GraphState). EventSteps c.number c.mail c.graph g l w) same h.2) k.2

      -- where the events lead
      module _ (us : List Put) (e : Obs) (l : List Obs) (goes : runs first at ds t ≡ Went us (e ∷ l)) where
        all_seen : AllTrue c.number u (e ∷ l)
        all_seen = runs_true c.number u ds at t us (e ∷ l) goes

        told_by : (o : Outcome) → LeftBy c Then ahead x t (after us (e ∷ l) o) → (y : GraphState) × EventSteps c.number c.mail c.graph x (e ∷ l) y
        told_by (Went vs m) h = let r = rest_steps ahead e l m h.0 h.1 in (r.0, r.1)
        told_by (Faults vs m) h = let r = rest_steps ahead e l m h.0 h.1 in (r.0, r.1)
        told_by Bad h = absurd h

        pub events_lead : (y : GraphState) × EventSteps c.number c.mail c.graph x (e ∷ l) y
        events_lead = told_by (runs first behind es (placed t us)) (with_view first refl (λ q k. bytes k) us (e ∷ l) goes)

        event_by : (y : GraphState) → EventSteps c.number c.mail c.graph x (e ∷ l) y → (o : Outcome) → LeftBy c Then ahead x t (after us (e ∷ l) o) → LeftBy c Then true y (placed t us) o
        event_by y steps (Went vs m) h =
            let r = rest_steps ahead e l m h.0 h.1 in
            (h.0, subst (λ (w : GraphState). EventSteps c.number c.mail c.graph w m h.0) (steps_one (e ∷ l) x r.0 y all_seen r.1 steps) r.2, subst (Then h.0) (placed_append us vs t) h.2)
        event_by y steps (Faults vs m) h =
            let r = rest_steps ahead e l m h.0 h.1 in
            (h.0, subst (λ (w : GraphState). EventSteps c.number c.mail c.graph w m h.0) (steps_one (e ∷ l) x r.0 y all_seen r.1 steps) r.2, h.2)
        event_by y steps Bad h = h

        pub left_events : IsLeftOf c Then true events_lead.0 behind es (placed t us)
        left_events w number sees = event_by events_lead.0 events_lead.1 (runs w behind es (placed t us)) (with_view w number sees us (e ∷ l) goes)

      -- a fault, and that nothing is bad
      follow_fault : (o : Outcome) (rest : List Put → Outcome) (us : List Put) (events : List Obs) → o ≡ Faults us events → follow o rest ≡ Faults us events
      follow_fault o rest us events e = ap (λ (p : Outcome). follow p rest) e

      pub left_faults : (us : List Put) (events : List Obs) → runs first at ds t ≡ Faults us events → Falls c ahead x events
      left_faults us events goes =
          subst (λ (o : Outcome). LeftBy c Then ahead x t o) (joined first first refl ∙ follow_fault (runs first at ds t) (λ (vs : List Put). runs first behind es (placed t vs)) us events goes) (left (split at (length ds) first first) refl (split_bytes at (length ds) first first (λ q k. bytes k) (λ q k. bytes k)))

      pub left_never_bad : runs first at ds t ≡ Bad → ⊥
      left_never_bad goes =
          subst (λ (o : Outcome). LeftBy c Then ahead x t o) (joined first first refl ∙ ap (λ (p : Outcome). follow p (λ (vs : List Put). runs first behind es (placed t vs))) goes) (left (split at (length ds) first first) refl (split_bytes at (length ds) first first (λ q k. bytes k) (λ q k. bytes k)))
