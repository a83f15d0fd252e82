-- Sound statements name tables that there are.
use Rattle.std.proofs.Common.{◌≡◌, ℕ, ◌<◌, Bool, true, false, ◌||◌, ◌==◌, List, [], ◌∷◌, length, map, refl, sym, ap, ◌∙◌, subst, arith}
use Rattle.std.specs.List.{All, list_any}
use Rattle.std.proofs.lemmas.Bool.{false≢true, eqb-true}
use Rattle.std.proofs.lemmas.List.Elements.{All-head, All-tail}
use Rattle.redn_kernel.specs.declared.types.TableInit.{TableInit}
use Rattle.redn_kernel.specs.declared.types.ChainInit.{ChainInit}
use Rattle.redn_kernel.specs.declared.types.Kernel.{Kernel, roll-Kernel, out-roll-Kernel, map-Kernel, fold-Kernel, fold-roll-Kernel, every-Kernel, every_here-Kernel, ind-Kernel}
use Rattle.redn_kernel.specs.declared.types.Kernel.TheOpen.{Kernel-F}
use Rattle.redn_kernel.specs.Program.{IsSoundStatement}
use Rattle.redn_image.specs.Agreement.{names_by, names_table}
use Rattle.redn_graph.proofs.Fits.{blocks_well}
use Rattle.redn_proof_layout.proofs.Named.{writable_there}

either : (a b : Bool) (P : Type 0) → (a || b) ≡ true → (a ≡ true → P) → (b ≡ true → P) → P
either true b P e f g = f refl
either false b P e f g = g e

-- the statements of a statement's two blocks
abbrev blocks : {X : Type 0} → Kernel-F X → List X × List X
blocks (Kernel-F.If wide a b met unmet) = (met, unmet)
blocks (Kernel-F.Loop body) = (body, [])
blocks (Kernel-F.Repeat count body) = (body, [])
blocks _ = ([], [])

blocks_map : {X Y : Type 0} (f : X → Y) (layer : Kernel-F X) → ((blocks (map-Kernel X Y f layer)).0 ≡ map f (blocks layer).0) × ((blocks (map-Kernel X Y f layer)).1 ≡ map f (blocks layer).1)
blocks_map f (Kernel-F.Move x a) = (refl, refl)
blocks_map f (Kernel-F.Add x a) = (refl, refl)
blocks_map f (Kernel-F.Load x table a) = (refl, refl)
blocks_map f (Kernel-F.Store table a b) = (refl, refl)
blocks_map f (Kernel-F.If wide a b met unmet) = (refl, refl)
blocks_map f (Kernel-F.Loop body) = (refl, refl)
blocks_map f (Kernel-F.Repeat count body) = (refl, refl)
blocks_map f Kernel-F.Break = (refl, refl)
blocks_map f (Kernel-F.Lookup x table a key count) = (refl, refl)
blocks_map f (Kernel-F.Walk x table a key count) = (refl, refl)
blocks_map f (Kernel-F.Reply words) = (refl, refl)

module _ (tables : List TableInit) (vars t : ℕ) where
  abbrev Q : Kernel-F Kernel → Type 0
  Q = IsSoundStatement tables vars

  abbrev names : Kernel → Bool
  names = fold-Kernel Bool (names_by t)

  abbrev There : Kernel → Type 0
  There k = every-Kernel Q k → names k ≡ true → t < length tables

  abbrev Sound : List Kernel → Type 0
  Sound = All (every-Kernel Q)

  any_there : (es : List ((k : Kernel) × There k)) → Sound (map (λ e. e.0) es) → list_any (λ b. b) (map names (map (λ e. e.0) es)) ≡ true → t < length tables
  any_there [] sound e = absurd (false≢true e)
  any_there (x ∷ es) sound e =
      either (names x.0) (list_any (λ b. b) (map names (map (λ e. e.0) es))) (t < length tables) e (λ here. x.1 (All-head (every-Kernel Q) x.0 (map (λ d. d.0) es) sound) here) (λ later. any_there es (All-tail (every-Kernel Q) x.0 (map (λ d. d.0) es) sound) later)

  same_table : (table : ℕ) → table < length tables → (table == t) ≡ true → t < length tables
  same_table table l e = let same = eqb-true table t e in omega (arith, l, same)

  -- by the kind of the statement
  layer_there : (x : Kernel-F Kernel) → Q x → (met unmet : List ((k : Kernel) × There k)) → (blocks x).0 ≡ map (λ e. e.0) met → (blocks x).1 ≡ map (λ e. e.0) unmet → Sound (blocks x).0 → Sound (blocks x).1 → names_by t (map-Kernel Kernel Bool names x) ≡ true → t < length tables
  unfolding names_by IsSoundStatement
  layer_there (Kernel-F.Move x a) q met unmet e f s u h = absurd (false≢true h)
  layer_there (Kernel-F.Add x a) q met unmet e f s u h = absurd (false≢true h)
  layer_there (Kernel-F.Load x table a) q met unmet e f s u h = same_table table q.1 h
  layer_there (Kernel-F.Store table a b) q met unmet e f s u h = same_table table (writable_there tables table q.0) h
  layer_there (Kernel-F.If wide a b these those) q met unmet e f s u h =
      either (list_any (λ b. b) (map names these)) (list_any (λ b. b) (map names those)) (t < length tables) h (λ here. any_there met (subst Sound e s) (subst (λ (l : List Kernel). list_any (λ b. b) (map names l) ≡ true) e here)) (λ here. any_there unmet (subst Sound f u) (subst (λ (l : List Kernel). list_any (λ b. b) (map names l) ≡ true) f here))
  layer_there (Kernel-F.Loop body) q met unmet e f s u h = any_there met (subst Sound e s) (subst (λ (l : List Kernel). list_any (λ b. b) (map names l) ≡ true) e h)
  layer_there (Kernel-F.Repeat n body) q met unmet e f s u h = any_there met (subst Sound e s) (subst (λ (l : List Kernel). list_any (λ b. b) (map names l) ≡ true) e h)
  layer_there Kernel-F.Break q met unmet e f s u h = absurd (false≢true h)
  layer_there (Kernel-F.Lookup x table a key n) q met unmet e f s u h = same_table table q.0.1 h
  layer_there (Kernel-F.Walk x table a key n) q met unmet e f s u h = same_table table q.0.1 h
  layer_there (Kernel-F.Reply words) q met unmet e f s u h = absurd (false≢true h)

  there : (k : Kernel) → There k
  there =
      ind-Kernel There (λ x y is well h.
      let out = out-roll-Kernel x in
      let q : Q x = subst Q out (every_here-Kernel Q (roll-Kernel x) well) in
      let sound = blocks_well Q (roll-Kernel x) x well out in
      let inner = blocks_map {X = (k : Kernel) × There k} (λ e. e.0) y in
      layer_there x q (blocks y).0 (blocks y).1 (ap (λ l. (blocks l).0) (sym is) ∙ inner.0) (ap (λ l. (blocks l).1) (sym is) ∙ inner.1) sound.0 sound.1 (sym (fold-roll-Kernel Bool (names_by t) x) ∙ h))

  all_there : (body : List Kernel) → Sound body → list_any names body ≡ true → t < length tables
  all_there [] sound e = absurd (false≢true e)
  all_there (k ∷ body) sound e =
      either (names k) (list_any names body) (t < length tables) e (λ here. there k (All-head (every-Kernel Q) k body sound) here) (λ later. all_there body (All-tail (every-Kernel Q) k body sound) later)

pub named_there : (tables : List TableInit) (c : ChainInit) (t : ℕ) → All (every-Kernel (IsSoundStatement tables (length c.vars))) c.body → names_table t c ≡ true → t < length tables
named_there tables c t sound e = all_there tables (length c.vars) t c.body sound e
