-- The chains of the generated file in any order of their steps: each is at a stage of its own.
use Rattle.std.proofs.Common.{arith, ◌≡◌, ◌≢◌, ℕ, zero, suc, ◌+◌, ◌*◌, ◌<◌, ◌≤◌, inl, inr, Bool, true, false, cond, List, [], ◌∷◌, ◌++◌, length, Option, Some, None, refl, sym, ap, subst, ◌∙◌}
use Rattle.std.specs.Prelude.{◌==◌, slice_get, slice_set, not}
use Rattle.std.specs.List.{All, filter}
use Rattle.std.specs.Option.{option_map}
use Rattle.std.proofs.lemmas.Bool.{false≢true}
use Rattle.std.proofs.lemmas.Bool.Decides.{eqb_tells}
use Rattle.std.proofs.lemmas.List.{length-set}
use Rattle.std.proofs.lemmas.List.Elements.{All-cons, All-nil}
use Rattle.std.proofs.lemmas.List.Sums.{sum_by-cons}
use Rattle.std.proofs.lemmas.Option.{slice_get_within}
use Rattle.redn_words.specs.declared.types.Obs.{Obs}
use Rattle.redn_words.specs.Runs.{shown_then}
use Rattle.redn_kernel.specs.Source.{ChainState, Source, chain_runs, runs_there, is_running, after_turn, source_step, EachRuns, source_after, events, steps_of}
use Rattle.redn_kernel.proofs.SourceRuns.{runs}
use Rattle.redn_gen.specs.Runs.{is_reply_of, NoneRuns}
use Rattle.redn_gen.proofs.Stages.{Stage, Over, steps, shown, is_over, next, IsAt, next_at, steps_next, few_steps, state_of, event_of}
use Rattle.redn_gen.proofs.Steps.{HasBucket, does}
use Rattle.redn_gen.proofs.Shown.{pending, none_pending, all_shown, counted, other_reply, own_reply}

-- ---- lists

get_set_same : {X : Type 0} (xs : List X) (i : ℕ) (x y : X) → slice_get xs i ≡ Some x → slice_get (slice_set xs i y) i ≡ Some y
get_set_same [] i x y h = cc
get_set_same (z ∷ xs) zero x y h = refl
get_set_same (z ∷ xs) (suc i) x y h = get_set_same xs i x y h

get_set_other : {X : Type 0} (xs : List X) (i k : ℕ) (y : X) → i ≢ k → slice_get (slice_set xs i y) k ≡ slice_get xs k
get_set_other [] i k y h = refl
get_set_other (z ∷ xs) zero zero y h = absurd (h refl)
get_set_other (z ∷ xs) zero (suc k) y h = refl
get_set_other (z ∷ xs) (suc i) zero y h = refl
get_set_other (z ∷ xs) (suc i) (suc k) y h = get_set_other xs i k y (λ e. h (ap suc e))

-- how many events all stages have shown
abbrev pub total : List Stage → ℕ
total [] = 0
total (p ∷ ps) = shown p + total ps

total_set : (ps : List Stage) (i : ℕ) (p q : Stage) → slice_get ps i ≡ Some p → total (slice_set ps i q) + shown p ≡ total ps + shown q
total_set [] i p q h = cc
total_set (r ∷ ps) zero p q h = let same : shown r ≡ shown p = let e : r ≡ p = cc in ap shown e in omega arith
total_set (r ∷ ps) (suc i) p q h = let rest = total_set ps i p q h in omega arith

total_over : (ps : List Stage) → ((c : ℕ) (p : Stage) → slice_get ps c ≡ Some p → is_over p ≡ true) → total ps ≡ 4003 * length ps
total_over [] h = refl
total_over (p ∷ ps) h =
    let one = all_shown p (h zero p refl) in
    let rest = total_over ps (λ c q e. h (suc c) q e) in
    omega arith

-- ---- states of stages

abbrev pub states : (ℕ → Stage → ChainState) → List Stage → List ChainState
states f [] = []
states f (p ∷ ps) = f 0 p ∷ states (λ c. f (suc c)) ps

pub get_states : (f : ℕ → Stage → ChainState) (ps : List Stage) (c : ℕ) → slice_get (states f ps) c ≡ option_map (f c) (slice_get ps c)
get_states f [] c = refl
get_states f (p ∷ ps) zero = refl
get_states f (p ∷ ps) (suc c) = get_states (λ d. f (suc d)) ps c

set_states : (f : ℕ → Stage → ChainState) (ps : List Stage) (c : ℕ) (q : Stage) → slice_set (states f ps) c (f c q) ≡ states f (slice_set ps c q)
set_states f [] c q = refl
set_states f (p ∷ ps) zero q = refl
set_states f (p ∷ ps) (suc c) q = ap (λ l. f 0 p ∷ l) (set_states (λ d. f (suc d)) ps c q)

pub states_push : (f : ℕ → Stage → ChainState) (ps : List Stage) (q : Stage) → states f (ps ++ q ∷ []) ≡ states f ps ++ f (length ps) q ∷ []
states_push f [] q = refl
states_push f (p ∷ ps) q = ap (λ l. f 0 p ∷ l) (states_push (λ d. f (suc d)) ps q)

pub runs_until : (o key v : ℕ) (p : Stage) → chain_runs (state_of o key v p) ≡ not (is_over p)
runs_until o key v (Over s i) = refl
runs_until o key v p = refl

abbrev once : Bool → ℕ
once b = cond b 1 0

-- how many steps are behind, where there is a stage
abbrev steps_there : Option Stage → ℕ
steps_there None = 6004
steps_there (Some p) = steps p

-- the bytes of the table, and what each chain has in its message and finds
module _ (bytes : List ℕ) (o key v : ℕ → ℕ) (b : (c : ℕ) → HasBucket bytes (o c) (key c) (v c)) where
  abbrev pub chain_at : ℕ → Stage → ChainState
  chain_at c p = state_of (o c) (key c) (v c) p

  abbrev pub source : List Stage → Source
  source ps = record { tables = bytes ∷ []; chains = states chain_at ps }

  abbrev pub AllAt : List Stage → Type 0
  AllAt ps = (c : ℕ) (p : Stage) → slice_get ps c ≡ Some p → IsAt (v c) p

  -- a stage of a chain that runs
  record Goes (ps : List Stage) (c : ℕ) : Type 0 where
    stage : Stage
    there : slice_get ps c ≡ Some stage
    on : is_over stage ≡ false

  stage_of : (ps : List Stage) (c : ℕ) (p : Option Stage) → slice_get ps c ≡ p → runs_there (option_map (chain_at c) p) ≡ true → Goes ps c
  stage_of ps c None e h = absurd (false≢true h)
  stage_of ps c (Some p) e h = record { stage = p; there = e; on = on (is_over p) (sym (runs_until (o c) (key c) (v c) p) ∙ h) }
    where
      on : (b : Bool) → not b ≡ true → b ≡ false
      on true h = absurd (false≢true h)
      on false h = refl

  goes : (ps : List Stage) (c : ℕ) → is_running (source ps) c ≡ true → Goes ps c
  goes ps c h = stage_of ps c (slice_get ps c) refl (sym (ap runs_there (get_states chain_at ps c)) ∙ h)

  over : (ps : List Stage) → NoneRuns (source ps) → (c : ℕ) (p : Stage) → slice_get ps c ≡ Some p → is_over p ≡ true
  over ps none c p e = ended (is_over p) (sym (runs_until (o c) (key c) (v c) p) ∙ sym (ap runs_there (get_states chain_at ps c ∙ ap (option_map (chain_at c)) e)) ∙ none c)
    where
      ended : (b : Bool) → not b ≡ false → b ≡ true
      ended true h = refl
      ended false h = absurd (false≢true (sym h))

  -- one step of one chain
  pub stepped : (ps : List Stage) (c : ℕ) (p : Stage) → slice_get ps c ≡ Some p → IsAt (v c) p → is_over p ≡ false →
      source_step (source ps) c ≡ (source (slice_set ps c (next (v c) p)), event_of (o c) (key c) (v c) c p)
  stepped ps c p e h on =
      let t = chain_at c p in
      let there : slice_get (source ps).chains c ≡ Some t = get_states chain_at ps c ∙ ap (option_map (chain_at c)) e in
      runs (source ps) c t there (runs_until (o c) (key c) (v c) p ∙ ap not on)
      ∙ ap (after_turn (source ps) c) (does c (o c) (key c) (v c) bytes (b c) p h on)
      ∙ (λ i. (record { tables = bytes ∷ []; chains = set_states chain_at ps c (next (v c) p) i }, event_of (o c) (key c) (v c) c p))

  pub all_next : (ps : List Stage) (c : ℕ) (p : Stage) → AllAt ps → slice_get ps c ≡ Some p → AllAt (slice_set ps c (next (v c) p))
  all_next ps c p all e d q e' =
      elim (eqb_tells c d) [
        | inl same ↦
            let is : next (v c) p ≡ q = let now = ap (λ i. slice_get (slice_set ps c (next (v c) p)) i) same.1 in let first = get_set_same ps c p (next (v c) p) e in cc in
            subst (λ i. IsAt (v i) q) same.1 (subst (IsAt (v c)) is (next_at (v c) p (all c p e)))
        | inr other ↦ all d q (sym (get_set_other ps c d (next (v c) p) other.1) ∙ e')
      ]

  -- what is left to come
  pub record Follows (ps : List Stage) (turns : List ℕ) : Type 0 where
    pub its : All (λ c. c < length ps) turns
    pub few : (c : ℕ) → steps_of c turns + steps_there (slice_get ps c) ≤ 6004
    pub all : NoneRuns (source_after (source ps) turns) → length (events (source ps) turns) + total ps ≡ 4003 * length ps
    pub replies : NoneRuns (source_after (source ps) turns) → (c : ℕ) (p : Stage) → slice_get ps c ≡ Some p → filter (is_reply_of c) (events (source ps) turns) ≡ pending (v c) c p

  few_there : (c : ℕ) (p : Option Stage) → ((q : Stage) → p ≡ Some q → IsAt (v c) q) → steps_there p ≤ 6004
  few_there c None h = omega arith
  few_there c (Some p) h = few_steps (v c) p (h p refl)

  -- a step more before what follows
  module _ (ps : List Stage) (d : ℕ) (turns : List ℕ) (p : Stage) (there : slice_get ps d ≡ Some p) (at : IsAt (v d) p) (on : is_over p ≡ false) where
    abbrev then_at : List Stage
    then_at = slice_set ps d (next (v d) p)

    abbrev event : Obs
    event = event_of (o d) (key d) (v d) d p

    same_length : length then_at ≡ length ps
    same_length = length-set ps d (next (v d) p)

    its_more : All (λ c. c < length then_at) turns → All (λ c. c < length ps) (d ∷ turns)
    its_more its = All-cons (λ (c : ℕ). c < length ps) d turns (slice_get_within ps d p there) (subst (λ n. All (λ (c : ℕ). c < n) turns) same_length its)

    few_more : (c : ℕ) → steps_of c turns + steps_there (slice_get then_at c) ≤ 6004 → steps_of c (d ∷ turns) + steps_there (slice_get ps c) ≤ 6004
    few_more c few =
        let count : steps_of c (d ∷ turns) ≡ once (d == c) + steps_of c turns = sum_by-cons (λ (x : ℕ). once (x == c)) d turns in
        elim (eqb_tells d c) [
          | inl same ↦
              let one : once (d == c) ≡ 1 = ap once same.0 in
              let now : steps_there (slice_get then_at c) ≡ steps (next (v d) p) = ap (λ i. steps_there (slice_get then_at i)) (sym same.1) ∙ ap steps_there (get_set_same ps d p (next (v d) p) there) in
              let before : steps_there (slice_get ps c) ≡ steps p = ap (λ i. steps_there (slice_get ps i)) (sym same.1) ∙ ap steps_there there in
              let further = steps_next (v d) p at on in
              omega (arith, few, count, one, now, before, further)
          | inr other ↦
              let none : once (d == c) ≡ 0 = ap once other.0 in
              let same : steps_there (slice_get then_at c) ≡ steps_there (slice_get ps c) = ap steps_there (get_set_other ps d c (next (v d) p) other.1) in
              omega (arith, few, count, none, same)
        ]

    all_more : (rest : List Obs) → length rest + total then_at ≡ 4003 * length then_at → length (shown_then event rest) + total ps ≡ 4003 * length ps
    all_more rest e =
        let more = counted (o d) (key d) (v d) d rest p at in
        let sums = total_set ps d p (next (v d) p) there in
        omega (arith, e, more, sums, same_length)

    replies_more : (rest : List Obs) → ((c : ℕ) (q : Stage) → slice_get then_at c ≡ Some q → filter (is_reply_of c) rest ≡ pending (v c) c q) →
        (c : ℕ) (q : Stage) → slice_get ps c ≡ Some q → filter (is_reply_of c) (shown_then event rest) ≡ pending (v c) c q
    replies_more rest h c q e =
        elim (eqb_tells d c) [
          | inl same ↦
              let is : p ≡ q = let now = ap (slice_get ps) same.1 in cc in
              let own = own_reply (o d) (key d) (v d) d rest p at (h d (next (v d) p) (get_set_same ps d p (next (v d) p) there)) on in
              subst (λ i. filter (is_reply_of i) (shown_then event rest) ≡ pending (v i) i q) same.1 (own ∙ ap (pending (v d) d) is)
          | inr other ↦
              other_reply (o d) (key d) (v d) d rest c p other.0 ∙ h c q (get_set_other ps d c (next (v d) p) other.1 ∙ e)
        ]

    one_more : Follows then_at turns → Follows ps (d ∷ turns)
    one_more f =
        let step = stepped ps d p there at on in
        let ends : source_after (source ps) (d ∷ turns) ≡ source_after (source then_at) turns = ap (λ (r : Source × Obs). source_after r.0 turns) step in
        let shows : events (source ps) (d ∷ turns) ≡ shown_then event (events (source then_at) turns) = ap (λ (r : Source × Obs). shown_then r.1 (events r.0 turns)) step in
        record {
          its = its_more f.its;
          few = λ c. few_more c (f.few c);
          all = λ none. let rest = all_more (events (source then_at) turns) (f.all (subst NoneRuns ends none)) in ap (λ l. length l + total ps) shows ∙ rest;
          replies = λ none c q e. ap (filter (is_reply_of c)) shows ∙ replies_more (events (source then_at) turns) (f.replies (subst NoneRuns ends none)) c q e;
        }

  pub follows : (ps : List Stage) (turns : List ℕ) → AllAt ps → EachRuns (source ps) turns → Follows ps turns
  follows ps [] all h = record {
    its = All-nil (λ (c : ℕ). c < length ps);
    few = λ c. let few = few_there c (slice_get ps c) (all c) in omega (arith, few);
    all = λ none. let whole = total_over ps (over ps none) in omega (arith, whole);
    replies = λ none c p e. sym (none_pending (v c) c p (over ps none c p e));
  }
  follows ps (d ∷ turns) all h =
      let g = goes ps d h.0 in
      let step = stepped ps d g.stage g.there (all d g.stage g.there) g.on in
      one_more ps d turns g.stage g.there (all d g.stage g.there) g.on
      (follows (slice_set ps d (next (v d) g.stage)) turns (all_next ps d g.stage all g.there) (subst (λ (r : Source × Obs). EachRuns r.0 turns) step h.1))
