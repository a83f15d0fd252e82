-- From a window that is over, the graph's machine goes on to the next.
use Rattle.std.proofs.Common.{◌≡◌, ℕ, zero, suc, ◌+◌, ◌<◌, ◌≤◌, inl, inr, Bool, true, false, List, [], map, length, refl, sym, ap, ◌∙◌, subst, arith}
use Rattle.std.specs.Prelude.{Some, None, Option}
use Rattle.std.proofs.lemmas.Bool.{true≢false, eq-eqb, ne_eqb, cases_lt}
use Rattle.redn_words.specs.Landings.{Change}
use Rattle.redn_graph.specs.Run.{step_cost}
use Rattle.redn_segment.specs.declared.types.Draft.{Draft}
use Rattle.redn_block.specs.Blocks.{block_segments, parts_of, ring_start}
use Rattle.redn_proof_window.specs.Stages.{all_written}
use Rattle.redn_proof_window.specs.Windows.{Opening, bodies_of}
use Rattle.redn_proof_window.specs.Scripts.{IsScript}
use Rattle.redn_proof_landing.specs.Homes.{seen_in, change_of}
use Rattle.redn_recycle.specs.Lapped.{ring_of}
use Rattle.redn_proof_ring.specs.Plans.{Plan}
use Rattle.redn_proof_ring.specs.Turns.{Meaning, Ready, Leaves, window_at, script_of}
use Rattle.redn_proof_ring.proofs.LapKept.{body_at}
use Rattle.redn_proof_ring.proofs.LapWindows.{bodies_count, gates_count}
use Rattle.redn_proof_ring.proofs.LapScript.{laps_are_script}
use Rattle.redn_proof_interleave.specs.Machines.{Contents}
use Rattle.redn_proof_interleave.specs.Forms.{whole, IsTold}
use Rattle.redn_proof_block.specs.Stages.{Ghost}
use Rattle.redn_proof_block.specs.Stages as stages
use Rattle.redn_proof_block.specs.Shares.{block_parts, begins_in, left_in, closes_in}
use Rattle.redn_proof_chain.specs.Openings.{opening_cost, openings_cost, later_cost}
use Rattle.redn_proof_chain.specs.Formed.{Formed, IsFormed, IsBlockRing, Point, plan, its_meaning, number_at, block_at, counts_at, state_at, ahead_at, owed_at, brought}
use Rattle.redn_proof_chain.proofs.Sharing.{begins_first, behind, left_last, flat}
use Rattle.redn_proof_chain.proofs.Parting.{flat_is}
use Rattle.redn_proof_chain.proofs.Pays.{parts_pay}
use Rattle.redn_proof_chain.proofs.Events.{promises, starts_here, stood}
use Rattle.redn_proof_chain.proofs.Onwards.{GoesOn, goes}
use Rattle.redn_proof_chain.proofs.Goings.{Going, Stood, As_before, goes_within, goes_over}

module _ (f : Formed) (h : IsFormed f) where
  abbrev c : Plan
  c = plan f

  abbrev G : Meaning c
  G = its_meaning f

  -- the windows are a script
  abbrev pub script : IsScript (script_of c G)
  script = record (laps_are_script c h.laid G (promises f h)) { behind = λ x m event n over. let y = goes f h x m event n over in (y.0, y.1.behind) }

  -- a window costs what its segment does
  pub whole_is : (x : Point f) (m : List ℕ) → Ready c G x m → whole (window_at c G x m) ≡ opening_cost x.ring (c.ring x.ring) x.segment
  whole_is x m ready = let bodies = bodies_count c h.laid G (promises f h) x m ready in let gates = gates_count c h.laid G (promises f h) x m ready in omega (arith, bodies, gates)

  -- where a part begins, its windows are paid by the graph's step
  pub paid_here : (x : Point f) (m : List ℕ) → Ready c G x m → begins_in (counts_at f x.ring) x.segment ≡ true → whole (window_at c G x m) + later_cost x.ring (c.ring x.ring) (counts_at f x.ring) x.segment ≤ step_cost f.course.graph x.ghost.state
  paid_here x m ready begins =
      let block : IsBlockRing f x.ring = h.blocks x.ring x.ring_in in
      let starts = starts_here f h x m ready begins in
      let here : x.segment < length (block_segments f.layout.first_queue x.ring (block_at f x.ring)) = subst (λ (s : List (List Draft)). x.segment < length s) block.segments_are x.segment_in in
      let pays = parts_pay f.course.graph block.most f.layout.first_queue x.ring f.layout.domain (f.layout.base x.ring) (number_at f x.ring) (block_at f x.ring) block.there block.fits x.segment here begins x.ghost.state starts.1 in
      let now : opening_cost x.ring (c.ring x.ring) x.segment + later_cost x.ring (c.ring x.ring) (counts_at f x.ring) x.segment ≤ step_cost f.course.graph x.ghost.state =
      subst (λ (s : List (List Draft)). opening_cost x.ring (ring_of s x.ring f.layout.domain (f.layout.base x.ring)) x.segment + later_cost x.ring (ring_of s x.ring f.layout.domain (f.layout.base x.ring)) (counts_at f x.ring) x.segment ≤ step_cost f.course.graph x.ghost.state) (sym block.segments_are) pays in
      let cost = whole_is x m ready in
      omega (arith, now, cost)

  -- the last segment of a ring is the last of its part
  last_closes : (x : Point f) → suc x.segment ≡ (c.ring x.ring).segments → left_in (counts_at f x.ring) x.segment ≡ 0
  last_closes x e =
      let block : IsBlockRing f x.ring = h.blocks x.ring x.ring_in in
      let all : length (f.layout.segments x.ring) ≡ length (flat (block_parts f.layout.first_queue x.ring (block_at f x.ring))) = ap length block.segments_are ∙ ap length (flat_is (ring_start x.ring) (parts_of f.layout.first_queue (block_at f x.ring))) in
      left_last (block_parts f.layout.first_queue x.ring (block_at f x.ring)) x.segment (e ∙ all)

  module _ (x : Point f) (m : List ℕ) (ready : Ready c G x m) (event : List Change) (n : List ℕ) (y : Point f) (on : GoesOn f x y m event n) where
    abbrev its_leaves : Leaves c x.ring x.segment (seen_in c.home m) (seen_in c.home n)
    its_leaves = on.goes.leaves

    abbrev w : Opening
    w = window_at c G x m

    pub steps : stages.Tells f.course (closes_in (counts_at f x.ring) x.segment) x.ghost its_leaves.events y.ghost
    steps = (h.tells_well x.ring x.segment its_leaves.tables x.ghost its_leaves.events y.ghost x.ring_in x.segment_in on.goes.follows.tells).steps

    -- where the graph is when the window is over
    pub stood_over : (told : Option (List Change)) → IsTold w all_written event told → Stood f.course x.ghost y.ghost its_leaves.events (state_at f x told) (ahead_at f x told)
    stood_over None is =
        let count = bodies_count c h.laid G (promises f h) x m ready in
        elim (cases_lt w.event (bodies_of w)) [
          | inl inside ↦ absurd (true≢false (is inside 0))
          | inr past ↦ As_before (its_leaves.silent (omega (arith, past, count))) refl refl
        ]
    stood_over (Some e) is =
        let body = body_at c h.laid G (promises f h) x m ready w.event is.0 in
        let wrote : map (change_of c.home) (its_leaves.each w.event) ≡ e = sym (on.made body.0 body.1) ∙ sym is.2 in
        subst (λ (l : List Change). Stood f.course x.ghost y.ghost its_leaves.events (state_at f x (Some l)) (ahead_at f x (Some l))) wrote (stood f h x m ready body.0 body.1 its_leaves.tables its_leaves.bytes (its_leaves.each w.event) its_leaves.events (its_leaves.event body.0 body.1) y.ghost on.goes.follows.tells)

    abbrev Kept : Option (List Change) → Contents → Type 0
    Kept told t = Going f.course t (state_at f x told) [] t (state_at f y None) (whole (window_at c G y n) + owed_at f y None) (owed_at f x told)

    -- behind the last segment of a part
    part_over : (told : Option (List Change)) (t : Contents) → IsTold w all_written event told → left_in (counts_at f x.ring) x.segment ≡ 0 → begins_in (counts_at f y.ring) y.segment ≡ true → Kept told t
    part_over told t is none begins =
        let starts = starts_here f h y n on.behind.ready begins in
        let pays = paid_here y n on.behind.ready begins in
        let closes : closes_in (counts_at f x.ring) x.segment ≡ true = eq-eqb (left_in (counts_at f x.ring) x.segment) 0 none in
        let over : stages.Tells f.course true x.ghost its_leaves.events y.ghost = subst (λ (b : Bool). stages.Tells f.course b x.ghost its_leaves.events y.ghost) closes steps in
        let next : owed_at f y None ≡ later_cost y.ring (c.ring y.ring) (counts_at f y.ring) y.segment + 0 = ap (λ (b : Bool). later_cost y.ring (c.ring y.ring) (counts_at f y.ring) y.segment + brought f b y.ghost.state) starts.0 in
        let mine : owed_at f x told ≡ 0 + brought f (ahead_at f x told) (state_at f x told) = ap (λ (k : ℕ). openings_cost x.ring (c.ring x.ring) (suc x.segment) k + brought f (ahead_at f x told) (state_at f x told)) none in
        let goes = goes_over f.course t x.ghost y.ghost its_leaves.events (state_at f x told) (ahead_at f x told) (whole (window_at c G y n) + owed_at f y None) over (stood_over told is) starts.1.runs_on (omega (arith, pays, next)) in
        record { steps = goes.steps; go = goes.go; telling = goes.telling; tables = goes.tables; state = goes.state; enough = (let le = goes.enough in omega (arith, le, mine)) }

    -- within a part
    part_goes : (told : Option (List Change)) (t : Contents) (k : ℕ) → IsTold w all_written event told → left_in (counts_at f x.ring) x.segment ≡ suc k → y.ring ≡ x.ring → y.segment ≡ suc x.segment → Kept told t
    part_goes told t k is some ring_is segment_is =
        let closes : closes_in (counts_at f x.ring) x.segment ≡ false = ne_eqb (left_in (counts_at f x.ring) x.segment) 0 (λ e. absurd (omega (arith, e, some))) in
        let within : stages.Tells f.course false x.ghost its_leaves.events y.ghost = subst (λ (b : Bool). stages.Tells f.course b x.ghost its_leaves.events y.ghost) closes steps in
        let left = ((behind (counts_at f x.ring) x.segment).inside k some).0 in
        let cost : whole (window_at c G y n) ≡ opening_cost x.ring (c.ring x.ring) (suc x.segment) = whole_is y n on.behind.ready ∙ ap (λ (r : ℕ). opening_cost r (c.ring r) y.segment) ring_is ∙ ap (opening_cost x.ring (c.ring x.ring)) segment_is in
        let rest : later_cost y.ring (c.ring y.ring) (counts_at f y.ring) y.segment ≡ openings_cost x.ring (c.ring x.ring) (suc (suc x.segment)) k =
        ap (λ (r : ℕ). later_cost r (c.ring r) (counts_at f r) y.segment) ring_is ∙ ap (later_cost x.ring (c.ring x.ring) (counts_at f x.ring)) segment_is ∙ ap (openings_cost x.ring (c.ring x.ring) (suc (suc x.segment))) left in
        let mine : later_cost x.ring (c.ring x.ring) (counts_at f x.ring) x.segment ≡ opening_cost x.ring (c.ring x.ring) (suc x.segment) + openings_cost x.ring (c.ring x.ring) (suc (suc x.segment)) k = ap (openings_cost x.ring (c.ring x.ring) (suc x.segment)) some in
        let goes = goes_within f.course t x.ghost y.ghost its_leaves.events (state_at f x told) (ahead_at f x told) (whole (window_at c G y n)) (later_cost y.ring (c.ring y.ring) (counts_at f y.ring) y.segment) within (stood_over told is) in
        record { steps = goes.steps; go = goes.go; telling = goes.telling; tables = goes.tables; state = goes.state; enough = (let le = goes.enough in omega (arith, le, mine, cost, rest)) }

    by_left : (told : Option (List Change)) (t : Contents) (k : ℕ) → left_in (counts_at f x.ring) x.segment ≡ k → IsTold w all_written event told → y.ring ≡ x.ring → y.segment ≡ suc x.segment → Kept told t
    by_left told t zero e is ring_is segment_is =
        part_over told t is e (ap (λ (r : ℕ). begins_in (counts_at f r) y.segment) ring_is ∙ ap (begins_in (counts_at f x.ring)) segment_is ∙ (behind (counts_at f x.ring) x.segment).over e)
    by_left told t (suc k) e is ring_is segment_is = part_goes told t k is e ring_is segment_is

    pub keeps_up : (told : Option (List Change)) (t : Contents) → IsTold w all_written event told → Kept told t
    keeps_up told t is =
        elim on.goes.way [
          | inl here ↦ by_left told t (left_in (counts_at f x.ring) x.segment) refl is here.0 here.1
          | inr there ↦ part_over told t is (last_closes x there.0) (ap (begins_in (counts_at f y.ring)) there.1 ∙ begins_first (counts_at f y.ring))
        ]
