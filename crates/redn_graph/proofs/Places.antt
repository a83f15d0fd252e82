-- What is to be done at each place of a block, and that a step from there does it.
use Rattle.std.proofs.Common.{◌≡◌, ℕ, zero, suc, ◌≤◌, ◌⊎◌, Bool, true, false, List, [], ◌∷◌, Option, Some, None, if◌then◌else◌, refl, sym, ap, ◌∙◌, inl, inr, arith}
use Rattle.std.specs.Prelude.{slice_get}
use Rattle.redn_words.specs.declared.types.Obs.TheVariants as shows
use Rattle.redn_kernel.specs.Source.{has_word}
use Rattle.redn_graph.specs.declared.types.Instr.{Instr}
use Rattle.redn_graph.specs.declared.types.Instr.TheVariants.{Set, Move, Add, Load, Store}
use Rattle.redn_graph.specs.declared.types.End.{End}
use Rattle.redn_kernel.specs.CoreRun.{Cells}
use Rattle.redn_graph.specs.Run.{Way, On, Taking, To, Out, Effect, effect, within, instr_does, end_does, instr_cost, end_cost}
use Rattle.redn_graph.specs.Code.{Meaning, InstrRuns, EndRuns, Runs, Does, Label, meaning_at, worth_at, next_place, next_block, left_on, left_after}
use Rattle.redn_graph.proofs.Idling.{does_after, does_to}

-- the step from a place
abbrev pub place_does : ℕ → List ℕ → List (List ℕ) → Cells → Bool → Option Instr → End → Effect
place_does c words tables s taking (Some i) end = instr_does c words tables s i
place_does c words tables s taking None end = end_does c words tables s taking end

abbrev pub place_cost : Bool → Option Instr → End → ℕ
place_cost taking (Some i) end = instr_cost i
place_cost taking None end = end_cost taking end

within_way : (c : ℕ) (words : List ℕ) (tables : List (List ℕ)) (s : Cells) (table o : ℕ) (e : Effect) → e.way ≡ On → ((within c words tables s table o e).way ≡ On) ⊎ ((within c words tables s table o e).way ≡ Out)
within_way c words tables s table o e on =
    elim (has_word tables table o) as (λ b. let u : Effect = if b then e else effect c words tables s s Out (shows.Fault c table o) in (u.way ≡ On) ⊎ (u.way ≡ Out)) [ true ↦ inl on | false ↦ inr refl ]

-- an instruction goes on or faults
pub goes_on_or_out : (c : ℕ) (words : List ℕ) (tables : List (List ℕ)) (s : Cells) (i : Instr) → ((instr_does c words tables s i).way ≡ On) ⊎ ((instr_does c words tables s i).way ≡ Out)
unfolding instr_does
goes_on_or_out c words tables s (Set to v) = inl refl
goes_on_or_out c words tables s (Move to from) = inl refl
goes_on_or_out c words tables s (Add to by) = inl refl
goes_on_or_out c words tables s (Load to table offset) = within_way c words tables s table _ _ refl
goes_on_or_out c words tables s (Store table offset from) = within_way c words tables s table _ _ refl

module _ (all : List Label) (end : End) where
  -- the items at an end, at its second step, and once it has ended the chain
  abbrev pub end_items : (m : Meaning) (p : ℕ) → EndRuns all end m p → Bool → Bool → Meaning
  end_items m p r true ended = r.taking
  end_items m p r false true = r.stands
  end_items m p r false false = m

  abbrev pub end_worth : (m : Meaning) (p : ℕ) → EndRuns all end m p → Bool → Bool → ℕ
  end_worth m p r taking true = 0
  end_worth m p r true false = r.taking_worth
  end_worth m p r false false = p

  abbrev pub instr_items : {i : Instr} {after : Meaning} {p left : ℕ} (m : Meaning) → InstrRuns i m after p left → Bool → Meaning
  instr_items m r true = r.stands
  instr_items m r false = m

  abbrev pub instr_worth : ℕ → Bool → ℕ
  instr_worth p true = 0
  instr_worth p false = p

  abbrev pub items_in : (instrs : List Instr) (m : Meaning) (p : ℕ) → Runs all end instrs m p → ℕ → Bool → Bool → Meaning
  items_in [] m p r k taking ended = end_items m p r taking ended
  items_in (i ∷ rest) m p r zero taking ended = instr_items m r.2 ended
  items_in (i ∷ rest) m p r (suc k) taking ended = items_in rest r.0 r.1 r.3 k taking ended

  abbrev pub worth_in : (instrs : List Instr) (m : Meaning) (p : ℕ) → Runs all end instrs m p → ℕ → Bool → Bool → ℕ
  worth_in [] m p r k taking ended = end_worth m p r taking ended
  worth_in (i ∷ rest) m p r zero taking ended = instr_worth p ended
  worth_in (i ∷ rest) m p r (suc k) taking ended = worth_in rest r.0 r.1 r.3 k taking ended

  pub items_first : (instrs : List Instr) (m : Meaning) (p : ℕ) (r : Runs all end instrs m p) → items_in instrs m p r 0 false false ≡ m
  items_first [] m p r = refl
  items_first (i ∷ rest) m p r = refl

  pub worth_first : (instrs : List Instr) (m : Meaning) (p : ℕ) (r : Runs all end instrs m p) → worth_in instrs m p r 0 false false ≡ p
  worth_first [] m p r = refl
  worth_first (i ∷ rest) m p r = refl

  pub worth_ended : (instrs : List Instr) (m : Meaning) (p : ℕ) (r : Runs all end instrs m p) (k : ℕ) (taking : Bool) → worth_in instrs m p r k taking true ≡ 0
  worth_ended [] m p r k taking = refl
  worth_ended (i ∷ rest) m p r zero taking = refl
  worth_ended (i ∷ rest) m p r (suc k) taking = worth_ended rest r.0 r.1 r.3 k taking

  -- what is to be done where the step from a place leads
  abbrev pub next_in : (instrs : List Instr) (m : Meaning) (p : ℕ) → Runs all end instrs m p → ℕ → Bool → Way → Meaning
  next_in instrs m p r k taking On = items_in instrs m p r (suc k) false false
  next_in instrs m p r k taking Taking = items_in instrs m p r k true false
  next_in instrs m p r k taking (To l) = meaning_at all l
  next_in instrs m p r k taking Out = items_in instrs m p r k taking true

  abbrev pub left_in : (instrs : List Instr) (m : Meaning) (p : ℕ) → Runs all end instrs m p → ℕ → Way → ℕ
  left_in instrs m p r k On = worth_in instrs m p r (suc k) false false
  left_in instrs m p r k Taking = worth_in instrs m p r k true false
  left_in instrs m p r k (To l) = worth_at all l
  left_in instrs m p r k Out = 0

  pub affords_in : (instrs : List Instr) (m : Meaning) (p : ℕ) (r : Runs all end instrs m p) (k : ℕ) (taking : Bool) → place_cost taking (slice_get instrs k) end ≤ worth_in instrs m p r k taking false
  affords_in [] m p r k false = r.affords
  affords_in [] m p r k true = r.affords_taking
  affords_in (i ∷ rest) m p r zero taking = r.2.affords
  affords_in (i ∷ rest) m p r (suc k) taking = affords_in rest r.0 r.1 r.3 k taking

  end_next : (m : Meaning) (p : ℕ) (r : EndRuns all end m p) (k : ℕ) (w : Way) → next_block all m r.taking r.stands w ≡ next_in [] m p r k false w
  end_next m p r k On = refl
  end_next m p r k Taking = refl
  end_next m p r k (To l) = refl
  end_next m p r k Out = refl

  end_left : (m : Meaning) (p : ℕ) (r : EndRuns all end m p) (k : ℕ) (w : Way) → left_in [] m p r k w ≤ left_after all p r.taking_worth w
  end_left m p r k On = omega arith
  end_left m p r k Taking = omega arith
  end_left m p r k (To l) = omega arith
  end_left m p r k Out = omega arith

  second_next : (m : Meaning) (p : ℕ) (r : EndRuns all end m p) (k : ℕ) (w : Way) → next_block all m r.taking r.taking w ≡ next_in [] m p r k true w
  second_next m p r k On = refl
  second_next m p r k Taking = refl
  second_next m p r k (To l) = refl
  second_next m p r k Out = refl

  second_left : (m : Meaning) (p : ℕ) (r : EndRuns all end m p) (k : ℕ) (w : Way) → left_in [] m p r k w ≤ left_after all p r.taking_worth w
  second_left m p r k w = end_left m p r k w

  module _ (c : ℕ) (words : List ℕ) (tables : List (List ℕ)) (s : Cells) where
    instr_step : (i : Instr) (rest : List Instr) (m : Meaning) (p : ℕ) (r : Runs all end (i ∷ rest) m p) (taking : Bool) →
        Does c words tables s (m s.hidden) (instr_does c words tables s i) (next_in (i ∷ rest) m p r zero taking) (instr_cost i) p (left_in (i ∷ rest) m p r zero)
    instr_step i rest m p r taking =
        let run = r.2 in
        does_after c words tables s (run.leads s.hidden)
        (elim (goes_on_or_out c words tables s i) [
          | inl on ↦ does_to c words tables s
              (ap (next_place run.stands r.0) on ∙ sym (items_first rest r.0 r.1 r.3) ∙ sym (ap (next_in (i ∷ rest) m p r zero taking) on))
              (omega (arith, ap (left_on r.1) on, worth_first rest r.0 r.1 r.3, ap (left_in (i ∷ rest) m p r zero) on))
              (run.does c words tables s)
          | inr out ↦ does_to c words tables s
              (ap (next_place run.stands r.0) out ∙ sym (ap (next_in (i ∷ rest) m p r zero taking) out))
              (omega (arith, ap (left_in (i ∷ rest) m p r zero) out))
              (run.does c words tables s)
        ])

    -- the step from a place does what is to be done there
    pub step_in : (instrs : List Instr) (m : Meaning) (p : ℕ) (r : Runs all end instrs m p) (k : ℕ) (taking : Bool) →
        Does c words tables s (items_in instrs m p r k taking false s.hidden) (place_does c words tables s taking (slice_get instrs k) end) (next_in instrs m p r k taking) (place_cost taking (slice_get instrs k) end) (worth_in instrs m p r k taking false) (left_in instrs m p r k)
    step_in [] m p r k false =
        let w = (end_does c words tables s false end).way in
        does_after c words tables s (r.leads s.hidden) (does_to c words tables s (end_next m p r k w) (end_left m p r k w) (r.first c words tables s))
    step_in [] m p r k true =
        let w = (end_does c words tables s true end).way in
        does_to c words tables s (second_next m p r k w) (second_left m p r k w) (r.second c words tables s)
    step_in (i ∷ rest) m p r zero taking = instr_step i rest m p r taking
    step_in (i ∷ rest) m p r (suc k) taking = step_in rest r.0 r.1 r.3 k taking
