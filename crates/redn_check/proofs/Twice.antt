-- One more name of a list, as in a loop.
use Rattle.std.proofs.Common.{◌≡◌, ℕ, ◌+◌, ◌<◌, List, [], ◌∷◌, ◌++◌, length, map, take, get_or, Option, sym, ap, ◌∙◌, arith}
use Rattle.std.proofs.lemmas.List.{map_more, length-map, length-take-le, append_assoc, length-append}
use Rattle.redn_syntax.specs.declared.tree.Name.{Name}
use Rattle.redn_check.specs.declared.fault.Fault.{Fault}
use Rattle.redn_check.specs.Faults.{fault, when, earlier, first_of}
use Rattle.redn_check.specs.Names.{declares}
use Rattle.redn_check.specs.Rules.{twice}
use Rattle.redn_check.proofs.EarliestOf.{first_push_earlier, stepped}

pub twice_more : (names more : List Name) (n : Name) (r a b : Option Fault) → more ≡ names ++ n ∷ [] → r ≡ earlier a b → a ≡ first_of (twice names) →
    b ≡ first_of (when (declares names n) (fault 2 n.at 0)) → r ≡ first_of (twice more)
twice_more names more n r a b e step before now =
    stepped r a b _ _ _ step before now (first_push_earlier (λ e. when (declares e.0 e.1) (fault 2 e.1.at 0)) names n) ∙ sym (ap (λ l. first_of (twice l)) e)

module _ {X Y : Type 0} (f : X → Y) (xs : List X) (i : ℕ) (x : X) (h : i < length xs) (e : x ≡ get_or xs i x) where
  pub mapped_more : map f (take (i + 1) xs) ≡ map f (take i xs) ++ f x ∷ []
  mapped_more = map_more f xs i x h ∙ ap (λ y. map f (take i xs) ++ f y ∷ []) (sym e)

  pub mapped_length : length (map f (take i xs)) ≡ i
  mapped_length = length-map (take i xs) f ∙ length-take-le i xs (omega arith)

  pub appended_more : (ys : List Y) → ys ++ map f (take (i + 1) xs) ≡ (ys ++ map f (take i xs)) ++ f x ∷ []
  appended_more ys = ap (λ l. ys ++ l) mapped_more ∙ sym (append_assoc ys (map f (take i xs)) (f x ∷ []))

  pub appended_length : (ys : List Y) → length (ys ++ map f (take i xs)) ≡ length ys + i
  appended_length ys = length-append ys (map f (take i xs)) ∙ ap (λ n. length ys + n) mapped_length
