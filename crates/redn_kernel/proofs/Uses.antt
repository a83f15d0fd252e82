-- What every statement of a list uses, from its parts.
use Rattle.std.proofs.Common.{◌≡◌, ℕ, List, [], ◌∷◌, sym, ap, ◌∙◌, subst}
use Rattle.std.specs.Prelude.{map}
use Rattle.std.proofs.lemmas.List.Elements.{All-cons, All-nil}
use Rattle.redn_kernel.specs.declared.types.Word.{Word}
use Rattle.redn_kernel.specs.declared.types.Word.TheVariants.{Var, Num}
use Rattle.redn_kernel.specs.declared.types.Core.{Core, out-Core, map-Core, every-Core, every_made-Core, roll-Core, roll-out-Core}
use Rattle.redn_kernel.specs.declared.types.Core.TheOpen.{Core-F}
use Rattle.redn_kernel.specs.CoreRun.{cell_of}
use Rattle.redn_kernel.specs.Uses.{IsBelow, UsesBelow, AllBelow}

module _ (n : ℕ) where
  abbrev pub Below : Core → Type 0
  Below = every-Core (UsesBelow n)

  -- a statement, with what holds of it
  abbrev pub Held : Type 0
  Held = (statement : Core) × Below statement

  pub below_of : (statement : Core) (layer : Core-F Core) (held : Core-F Held) → out-Core statement ≡ layer → map-Core Held Core (λ e. e.0) held ≡ layer → UsesBelow n layer → Below statement
  below_of statement layer held out e q = subst Below (ap roll-Core (sym out) ∙ roll-out-Core statement) (every_made-Core (UsesBelow n) layer held e q)

  pub all_below : (held : List Held) → AllBelow n (map (λ e. e.0) held)
  all_below [] = All-nil Below
  all_below (e ∷ rest) = All-cons Below e.0 (map (λ d. d.0) rest) e.1 (all_below rest)

  pub word_below : (w : Word) → IsBelow n (cell_of w)
  word_below (Var x) = tt
  word_below (Num v) = tt
