-- What a statement that is sound with some tables is, by its kind.
use Rattle.std.proofs.Common.{◌≡◌, ℕ, ◌<◌, ◌≤◌, Bool, List, [], ◌∷◌, length, map, refl, sym, ap, ◌∙◌, subst}
use Rattle.std.specs.List.{All}
use Rattle.std.proofs.lemmas.List.Elements.{All-cons, All-nil}
use Rattle.redn_kernel.specs.declared.types.Word.{Word}
use Rattle.redn_kernel.specs.declared.types.Kernel.{Kernel, out-Kernel, map-Kernel, every-Kernel, every_here-Kernel, every_held-Kernel}
use Rattle.redn_kernel.specs.declared.types.Kernel.TheVariants as s
use Rattle.redn_kernel.specs.declared.types.Kernel.TheOpen.{Kernel-F}
use Rattle.redn_kernel.specs.declared.types.TableInit.{TableInit}
use Rattle.redn_kernel.specs.Program.{IsNamed, IsSoundStatement}
use Rattle.redn_kernel.specs.Program.{IsUsable, AllUsable}

module _ (vars : ℕ) (k : Kernel) (u : IsUsable vars k) where
  layer_sound : (layer : Kernel-F Kernel) → out-Kernel k ≡ layer → IsSoundStatement u.tables vars layer
  layer_sound layer e = subst (IsSoundStatement u.tables vars) e (every_here-Kernel (IsSoundStatement u.tables vars) k u.sound)

  pub move_named : (x : ℕ) (a : Word) → k ≡ s.Move x a → (x < vars) × IsNamed vars a
  unfolding IsSoundStatement
  move_named x a e = layer_sound (Kernel-F.Move x a) (ap out-Kernel e ∙ s.outs-Move x a)

  pub add_named : (x : ℕ) (a : Word) → k ≡ s.Add x a → (x < vars) × IsNamed vars a
  unfolding IsSoundStatement
  add_named x a e = layer_sound (Kernel-F.Add x a) (ap out-Kernel e ∙ s.outs-Add x a)

  pub load_named : (x table : ℕ) (a : Word) → k ≡ s.Load x table a → (x < vars) × IsNamed vars a
  unfolding IsSoundStatement
  load_named x table a e = let h = layer_sound (Kernel-F.Load x table a) (ap out-Kernel e ∙ s.outs-Load x table a) in (h.0, h.2)

  pub store_named : (table : ℕ) (a b : Word) → k ≡ s.Store table a b → IsNamed vars a × IsNamed vars b
  unfolding IsSoundStatement
  store_named table a b e = let h = layer_sound (Kernel-F.Store table a b) (ap out-Kernel e ∙ s.outs-Store table a b) in (h.1, h.2)

  pub if_named : (wide : Bool) (a b : Word) (met unmet : List Kernel) → k ≡ s.If wide a b met unmet → IsNamed vars a × IsNamed vars b
  unfolding IsSoundStatement
  if_named wide a b met unmet e = let h = layer_sound (Kernel-F.If wide a b met unmet) (ap out-Kernel e ∙ s.outs-If wide a b met unmet) in (h.0, h.1)

  pub lookup_named : (x table : ℕ) (a key : Word) (n : ℕ) → k ≡ s.Lookup x table a key n → (x < vars) × IsNamed vars a × IsNamed vars key
  unfolding IsSoundStatement
  lookup_named x table a key n e = let h = layer_sound (Kernel-F.Lookup x table a key n) (ap out-Kernel e ∙ s.outs-Lookup x table a key n) in (h.0.0, h.0.2, h.0.3)

  pub walk_named : (x table : ℕ) (a key : Word) (n : ℕ) → k ≡ s.Walk x table a key n → (x < vars) × IsNamed vars a × IsNamed vars key
  unfolding IsSoundStatement
  walk_named x table a key n e = let h = layer_sound (Kernel-F.Walk x table a key n) (ap out-Kernel e ∙ s.outs-Walk x table a key n) in (h.0.0, h.0.2, h.0.3)

  pub reply_named : (words : List Word) → k ≡ s.Reply words → All (IsNamed vars) words × (length words ≤ 8)
  unfolding IsSoundStatement
  reply_named words e = let h = layer_sound (Kernel-F.Reply words) (ap out-Kernel e ∙ s.outs-Reply words) in (h.0, h.2)

-- the statements of its two blocks
abbrev blocks : {X : Type 0} → Kernel-F X → List X × List X
blocks (Kernel-F.If wide a b met unmet) = (met, unmet)
blocks (Kernel-F.Loop body) = (body, [])
blocks (Kernel-F.Repeat n body) = (body, [])
blocks _ = ([], [])

blocks_map : {X Y : Type 0} (f : X → Y) (l : Kernel-F X) → ((blocks (map-Kernel X Y f l)).0 ≡ map f (blocks l).0) × ((blocks (map-Kernel X Y f l)).1 ≡ map f (blocks l).1)
blocks_map f (Kernel-F.Move x a) = (refl, refl)
blocks_map f (Kernel-F.Add x a) = (refl, refl)
blocks_map f (Kernel-F.Load x table a) = (refl, refl)
blocks_map f (Kernel-F.Store table a b) = (refl, refl)
blocks_map f (Kernel-F.If wide a b met unmet) = (refl, refl)
blocks_map f (Kernel-F.Loop body) = (refl, refl)
blocks_map f (Kernel-F.Repeat n body) = (refl, refl)
blocks_map f Kernel-F.Break = (refl, refl)
blocks_map f (Kernel-F.Lookup x table a key n) = (refl, refl)
blocks_map f (Kernel-F.Walk x table a key n) = (refl, refl)
blocks_map f (Kernel-F.Reply words) = (refl, refl)

abbrev Held : List TableInit → ℕ → Type 0
Held tables vars = (k : Kernel) × every-Kernel (IsSoundStatement tables vars) k

held_usable : (tables : List TableInit) (vars : ℕ) (list : List (Held tables vars)) → AllUsable vars (map (λ e. e.0) list)
held_usable tables vars [] = All-nil (IsUsable vars)
held_usable tables vars (e ∷ rest) =
    All-cons (IsUsable vars) e.0 (map (λ e. e.0) rest) (record { tables = tables; sound = e.1 }) (held_usable tables vars rest)

-- so are those of a statement
blocks_usable : (vars : ℕ) (k : Kernel) (layer : Kernel-F Kernel) → IsUsable vars k → out-Kernel k ≡ layer → AllUsable vars (blocks layer).0 × AllUsable vars (blocks layer).1
blocks_usable vars k layer u e =
    let Q : Kernel-F Kernel → Type 0 = IsSoundStatement u.tables vars in
    let held = every_held-Kernel Q k u.sound in
    let is : map-Kernel (Held u.tables vars) Kernel (λ e. e.0) held.0 ≡ layer = held.1 ∙ e in
    let map_is = blocks_map {X = Held u.tables vars} (λ e. e.0) held.0 in
    let P : List Kernel → Type 0 = AllUsable vars in
    (subst P (sym map_is.0 ∙ ap (λ l. (blocks l).0) is) (held_usable u.tables vars (blocks held.0).0), subst P (sym map_is.1 ∙ ap (λ l. (blocks l).1) is) (held_usable u.tables vars (blocks held.0).1))

module _ (vars : ℕ) (k : Kernel) (u : IsUsable vars k) where
  pub if_usable : (wide : Bool) (a b : Word) (met unmet : List Kernel) → k ≡ s.If wide a b met unmet → AllUsable vars met × AllUsable vars unmet
  if_usable wide a b met unmet e = blocks_usable vars k (Kernel-F.If wide a b met unmet) u (ap out-Kernel e ∙ s.outs-If wide a b met unmet)

  pub loop_usable : (body : List Kernel) → k ≡ s.Loop body → AllUsable vars body
  loop_usable body e = (blocks_usable vars k (Kernel-F.Loop body) u (ap out-Kernel e ∙ s.outs-Loop body)).0

  pub repeat_usable : (n : ℕ) (body : List Kernel) → k ≡ s.Repeat n body → AllUsable vars body
  repeat_usable n body e = (blocks_usable vars k (Kernel-F.Repeat n body) u (ap out-Kernel e ∙ s.outs-Repeat n body)).0
