-- A source chain ends with a reply or a fault.
use Rattle.std.proofs.Common.{◌≡◌, ◌⊎◌, ℕ, Bool, true, false, cond, not, ◌||◌, ◌&&◌, List, [], ◌∷◌, refl, sym, ap, subst, ◌∙◌, inl, inr}
use Rattle.std.specs.Prelude.{Option, Some, None, is_some, slice_get, slice_set}
use Rattle.std.specs.List.{list_any}
use Rattle.std.proofs.lemmas.Bool.{true≢false, false≢true, eq-eqb, and_parts, cases_eq}
use Rattle.redn_words.specs.declared.types.Obs.{Obs}
use Rattle.redn_words.specs.declared.types.Obs.TheVariants as shows
use Rattle.redn_words.specs.Runs.{shown_then}
use Rattle.redn_words.proofs.Others.{set_here, set_other}
use Rattle.redn_kernel.specs.declared.types.Kernel.{Kernel, out-Kernel}
use Rattle.redn_kernel.specs.declared.types.Kernel.TheOpen.{Kernel-F}
use Rattle.redn_kernel.specs.Source.{Item, TakeArgument, Do, AgainLoop, AgainRepeat, Find, Take, Visit, Left, Next, Here, ChainState, Source, Turn, has_word, within, ends, statement_does, item_does, first_does, chain_runs, runs_there, is_running, chain_step, after_turn, source_step, source_after, events}
use Rattle.redn_top.specs.Laws.{ends_chain}

-- a turn keeps the message, and where it ends the chain, its event says so
record Says (c : ℕ) (t : ChainState) (turn : Turn) : Type 0 where
  message : turn.chain.message ≡ t.message
  told : turn.chain.ended ≡ true → ends_chain c turn.event ≡ true

module _ (c : ℕ) (tables : List (List ℕ)) (t : ChainState) (on : t.ended ≡ false) where
  goes : (turn : Turn) → turn.chain.message ≡ t.message → turn.chain.ended ≡ t.ended → Says c t turn
  goes turn m e = record { message = m; told = λ f. absurd (true≢false (sym f ∙ e ∙ on)) }

  over : (event : Obs) → ends_chain c event ≡ true → Says c t (ends c tables t event)
  over event e = record { message = refl; told = λ f. e }

  inside : (table o : ℕ) (turn : Turn) → Says c t turn → Says c t (within c tables t table o turn)
  inside table o turn says =
      elim (has_word tables table o) as (λ b. Says c t (cond b turn (ends c tables t (shows.Fault c table o)))) [
        | true ↦ says
        | false ↦ over (shows.Fault c table o) (eq-eqb c c refl)
      ]

  statement_says : (k : Kernel-F Kernel) (rest : List Item) → Says c t (statement_does c tables t k rest)
  unfolding statement_does
  statement_says (Kernel-F.Move x a) rest = goes _ refl refl
  statement_says (Kernel-F.Add x a) rest = goes _ refl refl
  statement_says (Kernel-F.Load x table a) rest = inside table _ _ (goes _ refl refl)
  statement_says (Kernel-F.Store table a b) rest = inside table _ _ (goes _ refl refl)
  statement_says (Kernel-F.If wide a b met unmet) rest = goes _ refl refl
  statement_says (Kernel-F.Loop body) rest = goes _ refl refl
  statement_says (Kernel-F.Repeat n body) rest = goes _ refl refl
  statement_says Kernel-F.Break rest = goes _ refl refl
  statement_says (Kernel-F.Lookup x table a key n) rest = goes _ refl refl
  statement_says (Kernel-F.Walk x table a key n) rest = goes _ refl refl
  statement_says (Kernel-F.Reply words) rest = over _ (eq-eqb c c refl)

  item_says : (item : Item) (rest : List Item) → Says c t (item_does c tables t item rest)
  unfolding item_does
  item_says (TakeArgument i) rest = goes _ refl refl
  item_says (Do statement) rest = statement_says (out-Kernel statement) rest
  item_says (AgainLoop body) rest = goes _ refl refl
  item_says (AgainRepeat n body) rest = goes _ refl refl
  item_says (Find x table o key n) rest = inside table o _ (goes _ refl refl)
  item_says (Take x table o) rest = inside table o _ (goes _ refl refl)
  item_says (Visit x table o key n) rest = inside table o _ (goes _ refl refl)
  item_says (Left x table o key n) rest = goes _ refl refl
  item_says (Next x table o key n) rest = inside table o _ (goes _ refl refl)
  item_says (Here x table o key n) rest = goes _ refl refl

  first_says : (items : List Item) → Says c t (first_does c tables t items)
  first_says [] = goes _ refl refl
  first_says (item ∷ rest) = item_says item rest

not_ended : (b : Bool) → not b ≡ true → b ≡ false
not_ended true e = absurd (false≢true e)
not_ended false e = refl

ended_by : (m b : Bool) → m ≡ true → (m && not b) ≡ false → b ≡ true
ended_by m true e f = refl
ended_by m false e f = absurd (true≢false (sym (rw e refl) ∙ f))

-- a step after which a chain runs no more shows its end
module _ (s : Source) (c d : ℕ) (runs : is_running s c ≡ true) where
  module _ (t : ChainState) (there : slice_get s.chains d ≡ Some t) (on : chain_runs t ≡ true) where
    turn : Turn
    turn = first_does d s.tables t t.items

    says : Says d t turn
    unfolding turn
    says = first_says d s.tables t (not_ended t.ended (and_parts (is_some t.message) (not t.ended) on).1) t.items

    -- a turn of the chain itself
    own : runs_there (slice_get (slice_set s.chains d turn.chain) d) ≡ false → ends_chain d turn.event ≡ true
    own f =
        let its : chain_runs turn.chain ≡ false = sym (ap runs_there (set_here s.chains d t turn.chain there)) ∙ f in
        let has : is_some turn.chain.message ≡ true = ap is_some says.message ∙ (and_parts (is_some t.message) (not t.ended) on).0 in
        says.told (ended_by (is_some turn.chain.message) turn.chain.ended has its)

    by_place : runs_there (slice_get (slice_set s.chains d turn.chain) c) ≡ false → ends_chain c turn.event ≡ true
    by_place f = elim (cases_eq c d) [
      | inl same ↦ subst (λ (n : ℕ). ends_chain n turn.event ≡ true) (sym same) (own (subst (λ (n : ℕ). runs_there (slice_get (slice_set s.chains d turn.chain) n) ≡ false) same f))
      | inr apart ↦ absurd (true≢false (sym runs ∙ sym (ap runs_there (set_other s.chains d c turn.chain apart)) ∙ f))
    ]

    here : runs_there (slice_get (after_turn s d (first_does d s.tables t t.items)).0.chains c) ≡ false → ends_chain c (after_turn s d (first_does d s.tables t t.items)).1 ≡ true
    unfolding turn
    here f = by_place f

  by_chain : (o : Option ChainState) → slice_get s.chains d ≡ o → runs_there (slice_get (chain_step s d o).0.chains c) ≡ false → ends_chain c (chain_step s d o).1 ≡ true
  by_chain None e over = absurd (true≢false (sym runs ∙ over))
  by_chain (Some t) e over =
      elim (chain_runs t) as (λ b. chain_runs t ≡ b → runs_there (slice_get (cond b (after_turn s d (first_does d s.tables t t.items)) (s, shows.Nothing)).0.chains c) ≡ false → ends_chain c (cond b (after_turn s d (first_does d s.tables t t.items)) (s, shows.Nothing)).1 ≡ true) [
        | true ↦ λ on f. here t e on f
        | false ↦ λ on f. absurd (true≢false (sym runs ∙ f))
      ] refl over

pub step_ends : (s : Source) (c d : ℕ) → is_running s c ≡ true → is_running (source_step s d).0 c ≡ false → ends_chain c (source_step s d).1 ≡ true
unfolding source_step
step_ends s c d runs over = by_chain s c d runs (slice_get s.chains d) refl over

-- what is shown stands first, and Nothing is left out
shown_or_not : (o : Obs) (rest : List Obs) → (shown_then o rest ≡ o ∷ rest) ⊎ ((o ≡ shows.Nothing) × (shown_then o rest ≡ rest))
shown_or_not shows.Nothing rest = inr (refl, refl)
shown_or_not (shows.Set c x v) rest = inl refl
shown_or_not (shows.Load c x t o v) rest = inl refl
shown_or_not (shows.Look c t o v) rest = inl refl
shown_or_not (shows.Store c t o v) rest = inl refl
shown_or_not (shows.Reply c n words) rest = inl refl
shown_or_not (shows.Fault c t o) rest = inl refl
shown_or_not (shows.Stale q i) rest = inl refl
shown_or_not (shows.Undefined q i) rest = inl refl
shown_or_not (shows.Refused q i) rest = inl refl
shown_or_not (shows.Odd q i) rest = inl refl

or_true : (b : Bool) → (b || true) ≡ true
or_true true = refl
or_true false = refl

any_then : (c : ℕ) (o : Obs) (rest : List Obs) → ends_chain c o ≡ true → list_any (ends_chain c) (shown_then o rest) ≡ true
any_then c o rest e = elim (shown_or_not o rest) [
  | inl is ↦ ap (list_any (ends_chain c)) is ∙ ap (λ (b : Bool). b || list_any (ends_chain c) rest) e
  | inr none ↦ absurd (true≢false (sym e ∙ ap (ends_chain c) none.0))
]

any_later : (c : ℕ) (o : Obs) (rest : List Obs) → list_any (ends_chain c) rest ≡ true → list_any (ends_chain c) (shown_then o rest) ≡ true
any_later c o rest e = elim (shown_or_not o rest) [
  | inl is ↦ ap (list_any (ends_chain c)) is ∙ ap (λ (b : Bool). ends_chain c o || b) e ∙ or_true (ends_chain c o)
  | inr none ↦ ap (list_any (ends_chain c)) none.1 ∙ e
]

more_turns : (s : Source) (c d : ℕ) (ds : List ℕ) → (is_running (source_step s d).0 c ≡ true → list_any (ends_chain c) (events (source_step s d).0 ds) ≡ true) → is_running s c ≡ true → (b : Bool) → is_running (source_step s d).0 c ≡ b → list_any (ends_chain c) (events s (d ∷ ds)) ≡ true
more_turns s c d ds later runs true e = any_later c (source_step s d).1 (events (source_step s d).0 ds) (later e)
more_turns s c d ds later runs false e = any_then c (source_step s d).1 (events (source_step s d).0 ds) (step_ends s c d runs e)

-- so a chain that runs, and no more behind some turns, has shown its end
pub turns_end : (s : Source) (c : ℕ) (turns : List ℕ) → is_running s c ≡ true → is_running (source_after s turns) c ≡ false → list_any (ends_chain c) (events s turns) ≡ true
turns_end s c [] runs over = absurd (true≢false (sym runs ∙ over))
turns_end s c (d ∷ ds) runs over = more_turns s c d ds (λ on. turns_end (source_step s d).0 c ds on over) runs (is_running (source_step s d).0 c) refl
