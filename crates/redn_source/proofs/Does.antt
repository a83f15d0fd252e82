-- What a statement does, by its kind and what its words are worth.
use Rattle.std.proofs.Common.{◌≡◌, ℕ, ◌+◌, Bool, if◌then◌else◌, List, ◌∷◌, ◌++◌, map, sym, ap, ◌∙◌}
use Rattle.std.specs.Prelude.{slice_index}
use Rattle.redn_words.specs.declared.types.Obs.{Obs}
use Rattle.redn_words.specs.declared.types.Obs.TheVariants as shows
use Rattle.redn_kernel.specs.declared.types.Word.{Word}
use Rattle.redn_kernel.specs.declared.types.Kernel.{Kernel, out-Kernel}
use Rattle.redn_kernel.specs.declared.types.Kernel.TheVariants as s
use Rattle.redn_kernel.specs.declared.types.Kernel.TheOpen.{Kernel-F}
use Rattle.redn_source.specs.declared.run.Run.{Run}
use Rattle.redn_kernel.specs.Source.{ChainState, Item, Turn, Do, Find, Visit, statement_does, value_of, wrapped, same, sets, loads, stores, silent, replies, do_all, again, repeated, past_again}
use Rattle.redn_source.specs.RunView.{run_view, turn}

module _ (c : ℕ) (tables : List (List ℕ)) (t : ChainState) (k : Kernel) (rest : List Item) (after : Turn) where
  does_layer : (layer : Kernel-F Kernel) → out-Kernel k ≡ layer → after ≡ statement_does c tables t layer rest → after ≡ statement_does c tables t (out-Kernel k) rest
  does_layer layer e h = h ∙ ap (λ l. statement_does c tables t l rest) (sym e)

  pub moves : (x : ℕ) (a : Word) → k ≡ s.Move x a → after ≡ sets c tables t x (value_of t.vars a) rest → after ≡ statement_does c tables t (out-Kernel k) rest
  unfolding statement_does
  moves x a is h = does_layer (Kernel-F.Move x a) (ap out-Kernel is ∙ s.outs-Move x a) h

  pub adds : (x : ℕ) (a : Word) → k ≡ s.Add x a → after ≡ sets c tables t x (wrapped (slice_index t.vars x + value_of t.vars a)) rest → after ≡ statement_does c tables t (out-Kernel k) rest
  unfolding statement_does
  adds x a is h = does_layer (Kernel-F.Add x a) (ap out-Kernel is ∙ s.outs-Add x a) h

  pub loads_there : (x table o : ℕ) (a : Word) → k ≡ s.Load x table a → o ≡ value_of t.vars a → after ≡ loads c tables t x table o rest → after ≡ statement_does c tables t (out-Kernel k) rest
  unfolding statement_does
  loads_there x table o a is e h = does_layer (Kernel-F.Load x table a) (ap out-Kernel is ∙ s.outs-Load x table a) (h ∙ ap (λ v. loads c tables t x table v rest) e)

  pub stores_there : (table : ℕ) (a b : Word) → k ≡ s.Store table a b → after ≡ stores c tables t table (value_of t.vars a) (value_of t.vars b) rest → after ≡ statement_does c tables t (out-Kernel k) rest
  unfolding statement_does
  stores_there table a b is h = does_layer (Kernel-F.Store table a b) (ap out-Kernel is ∙ s.outs-Store table a b) h

  pub branches : (wide chosen : Bool) (a b : Word) (met unmet one other : List Kernel) → k ≡ s.If wide a b met unmet → one ≡ met → other ≡ unmet → chosen ≡ same wide (value_of t.vars a) (value_of t.vars b) →
      after ≡ silent c tables t (do_all (if chosen then one else other) ++ rest) → after ≡ statement_does c tables t (out-Kernel k) rest
  unfolding statement_does
  branches wide chosen a b met unmet one other is e1 e2 e h =
      does_layer (Kernel-F.If wide a b met unmet) (ap out-Kernel is ∙ s.outs-If wide a b met unmet)
      (h
      ∙ ap (λ block. silent c tables t (do_all (if chosen then block else other) ++ rest)) e1
      ∙ ap (λ block. silent c tables t (do_all (if chosen then met else block) ++ rest)) e2
      ∙ ap (λ m. silent c tables t (do_all (if m then met else unmet) ++ rest)) e)

  pub loops : (body block : List Kernel) → k ≡ s.Loop body → block ≡ body → after ≡ silent c tables t (again block rest) → after ≡ statement_does c tables t (out-Kernel k) rest
  unfolding statement_does
  loops body block is e h = does_layer (Kernel-F.Loop body) (ap out-Kernel is ∙ s.outs-Loop body) (h ∙ ap (λ b. silent c tables t (again b rest)) e)

  pub repeats : (n : ℕ) (body block : List Kernel) → k ≡ s.Repeat n body → block ≡ body → after ≡ silent c tables t (repeated n block rest) → after ≡ statement_does c tables t (out-Kernel k) rest
  unfolding statement_does
  repeats n body block is e h = does_layer (Kernel-F.Repeat n body) (ap out-Kernel is ∙ s.outs-Repeat n body) (h ∙ ap (λ b. silent c tables t (repeated n b rest)) e)

  pub leaves : (items : List Item) → k ≡ s.Break → items ≡ Do k ∷ rest → after ≡ silent c tables t (past_again items) → after ≡ statement_does c tables t (out-Kernel k) rest
  unfolding statement_does
  leaves items is e h = does_layer Kernel-F.Break (ap out-Kernel is ∙ s.outs-Break) (h ∙ ap (λ all. silent c tables t (past_again all)) e)

  pub looks_up : (x table n : ℕ) (a key : Word) → k ≡ s.Lookup x table a key n → after ≡ silent c tables t (Find x table (value_of t.vars a) key n ∷ rest) → after ≡ statement_does c tables t (out-Kernel k) rest
  unfolding statement_does
  looks_up x table n a key is h = does_layer (Kernel-F.Lookup x table a key n) (ap out-Kernel is ∙ s.outs-Lookup x table a key n) h

  pub walks : (x table n : ℕ) (a key : Word) → k ≡ s.Walk x table a key n → after ≡ silent c tables t (Visit x table (value_of t.vars a) key n ∷ rest) → after ≡ statement_does c tables t (out-Kernel k) rest
  unfolding statement_does
  walks x table n a key is h = does_layer (Kernel-F.Walk x table a key n) (ap out-Kernel is ∙ s.outs-Walk x table a key n) h

  pub answers : (words list : List Word) → k ≡ s.Reply words → list ≡ words → after ≡ replies c tables t (map (value_of t.vars) list) → after ≡ statement_does c tables t (out-Kernel k) rest
  unfolding statement_does
  answers words list is e h =
      does_layer (Kernel-F.Reply words) (ap out-Kernel is ∙ s.outs-Reply words) (h ∙ ap (λ ws. replies c tables t (map (value_of t.vars) ws)) e)

-- a turn in which nothing but the items changes
pub silent_turn : (c : ℕ) (tables : List (List ℕ)) (t : ChainState) (rest : List Item) (r : Run) (event : Obs) →
    run_view r ≡ record t { items = rest } → event ≡ shows.Nothing → turn tables r event ≡ silent c tables t rest
silent_turn c tables t rest r event e none =
    ap (λ (now : ChainState). let u : Turn = record { tables = tables; chain = now; event = event } in u) e
    ∙ ap (λ (o : Obs). let u : Turn = record { tables = tables; chain = record t { items = rest }; event = o } in u) none

-- one of two blocks is taken
pub taken : (c : ℕ) (tables : List (List ℕ)) (t : ChainState) (rest : List Item) (after : Turn) (chosen : Bool) (met unmet block : List Kernel) → block ≡ (if chosen then met else unmet) →
    after ≡ silent c tables t (do_all block ++ rest) → after ≡ silent c tables t (do_all (if chosen then met else unmet) ++ rest)
taken c tables t rest after chosen met unmet block e h = h ∙ ap (λ b. silent c tables t (do_all b ++ rest)) e

pub with_items : (t : ChainState) {one other : List Item} → one ≡ other → let now : List Item → ChainState = λ items. record t { items = items } in now one ≡ now other
with_items t e = let now : List Item → ChainState = λ items. record t { items = items } in ap now e

-- a variable gets a value
pub takes : (c : ℕ) (tables : List (List ℕ)) (t : ChainState) (i w v : ℕ) (rest : List Item) (after : Turn) → w ≡ v → after ≡ sets c tables t i w rest → after ≡ sets c tables t i v rest
takes c tables t i w v rest after e h = h ∙ ap (λ n. sets c tables t i n rest) e
