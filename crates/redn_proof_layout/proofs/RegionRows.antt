-- The regions of a placed image, chain by chain.
use Rattle.std.proofs.Common.{◌≡◌, ◌≢◌, ℕ, zero, suc, Bool, true, false, ◌&&◌, ◌==◌, cond, List, [], ◌∷◌, ◌++◌, map, filter, Some, refl, sym, ap, ◌∙◌, arith, append-nil}
use Rattle.std.specs.Prelude.{slice_get}
use Rattle.std.specs.List.{All, flat_map, list_any}
use Rattle.std.proofs.lemmas.Bool.{eq-eqb, ne_eqb, false≢true, eqb-true, or_right}
use Rattle.std.proofs.lemmas.List.Elements.{All-cons, All-nil, All-append, All-head, All-tail, filter-append}
use Rattle.std.specs.Option.{option_map}
use Rattle.std.proofs.lemmas.Option.{slice_get-map}
use Rattle.redn_words.specs.declared.types.Region.{Region}
use Rattle.redn_kernel.specs.declared.types.Program.{Program}
use Rattle.redn_graph.specs.declared.types.Graph.{Graph}
use Rattle.redn_image.specs.Agreement.{is_vars, is_table, variables_of, places_of}
use Rattle.redn_emit.specs.Layout.{ChainPlan, TablePlan, vars_row, code_row, control_row, message_row, table_row, chain_rows}
use Rattle.redn_emit.specs.Placed.{plans, tables, regions}
use Rattle.redn_proof_layout.specs.PlacedLaws.{AreSound}
use Rattle.redn_proof_layout.proofs.Keys.{among_flat, among_tail}
use Rattle.redn_proof_layout.proofs.Beside.{chains_lie_apart}

all_mapped : {X Y : Type 0} (P : Y → Type 0) (f : X → Y) (xs : List X) → ((k : ℕ) (x : X) → slice_get xs k ≡ Some x → P (f x)) → All P (map f xs)
all_mapped P f [] h = All-nil P
all_mapped P f (x ∷ xs) h = All-cons P (f x) (map f xs) (h 0 x refl) (all_mapped P f xs (λ k y e. h (suc k) y e))

all_flat : {X Y : Type 0} (P : Y → Type 0) (f : X → List Y) (xs : List X) → ((k : ℕ) (x : X) → slice_get xs k ≡ Some x → All P (f x)) → All P (flat_map f xs)
all_flat P f [] h = All-nil P
all_flat P f (x ∷ xs) h = All-append P (f x) (flat_map f xs) (h 0 x refl) (all_flat P f xs (λ k y e. h (suc k) y e))

all_filtered : {X : Type 0} (P : X → Type 0) (test : X → Bool) (xs : List X) → All (λ x. test x ≡ true → P x) xs → All P (filter test xs)
all_filtered P test [] h = All-nil P
all_filtered P test (x ∷ xs) h = by_test (test x) refl (all_filtered P test xs (All-tail (λ y. test y ≡ true → P y) x xs h))
  where
    by_test : (b : Bool) → test x ≡ b → All P (filter test xs) → All P (cond b (x ∷ filter test xs) (filter test xs))
    by_test true e rest = All-cons P x (filter test xs) (All-head (λ y. test y ≡ true → P y) x xs h e) rest
    by_test false e rest = rest

filter_flat : {X Y : Type 0} (test : Y → Bool) (f : X → List Y) (xs : List X) → filter test (flat_map f xs) ≡ flat_map (λ x. filter test (f x)) xs
filter_flat test f [] = refl
filter_flat test f (x ∷ xs) = filter-append test (f x) (flat_map f xs) ∙ ap (λ l. filter test (f x) ++ l) (filter_flat test f xs)

flat_none : {X Y : Type 0} (g : X → List Y) (xs : List X) → ((k : ℕ) (y : X) → slice_get xs k ≡ Some y → g y ≡ []) → flat_map g xs ≡ []
flat_none g [] h = refl
flat_none g (x ∷ xs) h = ap (λ l. l ++ flat_map g xs) (h 0 x refl) ∙ flat_none g xs (λ k y e. h (suc k) y e)

-- where only one gives anything
flat_only : {X Y : Type 0} (g : X → List Y) (xs : List X) (i : ℕ) (x : X) → slice_get xs i ≡ Some x → ((k : ℕ) (y : X) → slice_get xs k ≡ Some y → k ≢ i → g y ≡ []) → flat_map g xs ≡ g x
flat_only g [] i x e h = absurd (cc)
flat_only g (z ∷ xs) zero x e h =
    let same : z ≡ x = cc in
    ap (λ l. g z ++ l) (flat_none g xs (λ k y f. h (suc k) y f (λ n. omega (arith, n)))) ∙ append-nil (g z) ∙ ap g same
flat_only g (z ∷ xs) (suc i) x e h =
    ap (λ l. l ++ flat_map g xs) (h 0 z refl (λ n. omega (arith, n))) ∙ flat_only g xs i x e (λ k y f ne. h (suc k) y f (λ n. ne (omega (arith, n))))

any_filtered : {X : Type 0} (test other : X → Bool) (xs : List X) (k : ℕ) (x : X) → slice_get xs k ≡ Some x → test x ≡ true → other x ≡ true → list_any other (filter test xs) ≡ true
any_filtered test other [] k x e f g = absurd (cc)
any_filtered test other (y ∷ xs) zero x e f g =
    let same : y ≡ x = cc in
    by_test (test y) (ap test same ∙ f)
  where
    by_test : (b : Bool) → b ≡ true → list_any other (cond b (y ∷ filter test xs) (filter test xs)) ≡ true
    by_test true h = let is : other y ≡ true = (let same : y ≡ x = cc in ap other same ∙ g) in rw is refl
    by_test false h = absurd (false≢true h)
any_filtered test other (y ∷ xs) (suc k) x e f g = by_test (test y) (any_filtered test other xs k x e f g)
  where
    by_test : (b : Bool) → list_any other (filter test xs) ≡ true → list_any other (cond b (y ∷ filter test xs) (filter test xs)) ≡ true
    by_test true h = or_right (other y) (list_any other (filter test xs)) h
    by_test false h = h

-- the region of a chain's variables among its rows
no_vars : (k : ℕ) (c : ChainPlan) (ts : List TablePlan) → filter (λ (r : Region). is_vars r.kind && r.domain == k) (map (table_row c) ts) ≡ []
no_vars k c [] = refl
no_vars k c (t ∷ ts) = no_vars k c ts

vars_of_rows : (k : ℕ) (c : ChainPlan) (ts : List TablePlan) → variables_of k (chain_rows c ts) ≡ cond (c.number == k) (vars_row c ∷ []) []
vars_of_rows k c ts = ap (λ (l : List Region). cond (c.number == k) (vars_row c ∷ l) l) (no_vars k c ts)

module _ (p : Program) (graphs : List Graph) (are : AreSound p graphs) where
  pub variables_are : (i : ℕ) (c : ChainPlan) → slice_get (plans p graphs) i ≡ Some c → variables_of i (regions p graphs) ≡ vars_row c ∷ []
  variables_are i c there =
      let number = (chains_lie_apart p graphs are).numbered i c there in
      let same : (c.number == i) ≡ true = eq-eqb c.number i number in
      filter_flat (λ (r : Region). is_vars r.kind && r.domain == i) (λ (d : ChainPlan). chain_rows d (tables p graphs)) (plans p graphs) ∙ flat_only (λ (d : ChainPlan). variables_of i (chain_rows d (tables p graphs))) (plans p graphs) i c there (λ k d e ne.
      let other : (d.number == i) ≡ false = ne_eqb d.number i (λ f. ne (sym ((chains_lie_apart p graphs are).numbered k d e) ∙ f)) in
      vars_of_rows i d (tables p graphs) ∙ ap (λ (b : Bool). cond b (vars_row d ∷ []) []) other) ∙ vars_of_rows i c (tables p graphs) ∙ ap (λ (b : Bool). cond b (vars_row c ∷ []) []) same

  abbrev behind_control : ChainPlan → List Region
  behind_control c = message_row c ∷ map (table_row c) (tables p graphs)

  abbrev behind_code : ChainPlan → List Region
  behind_code c = control_row c ∷ behind_control c

  abbrev behind_vars : ChainPlan → List Region
  behind_vars c = code_row c ∷ behind_code c

  -- of all regions, by those of tables and the others
  pub all_rows : (P : Region → Type 0) → ((i : ℕ) (c : ChainPlan) → slice_get (plans p graphs) i ≡ Some c → P (vars_row c) × P (code_row c) × P (control_row c) × P (message_row c)) → ((i k : ℕ) (c : ChainPlan) (t : TablePlan) → slice_get (plans p graphs) i ≡ Some c → slice_get (tables p graphs) k ≡ Some t → P (table_row c t)) → All P (regions p graphs)
  all_rows P words its =
      all_flat P (λ (c : ChainPlan). chain_rows c (tables p graphs)) (plans p graphs) (λ i c e.
      let four = words i c e in
      All-cons P (vars_row c) (behind_vars c) four.0 (All-cons P (code_row c) (behind_code c) four.1 (All-cons P (control_row c) (behind_control c) four.2 (All-cons P (message_row c) (map (table_row c) (tables p graphs)) four.3 (all_mapped P (table_row c) (tables p graphs) (λ k t f. its i k c t e f))))))

  -- so of those of one table
  pub all_places : (n : ℕ) (P : Region → Type 0) → ((i k : ℕ) (c : ChainPlan) (t : TablePlan) → slice_get (plans p graphs) i ≡ Some c → slice_get (tables p graphs) k ≡ Some t → t.number ≡ n → P (table_row c t)) → All P (places_of n (regions p graphs))
  all_places n P its =
      all_filtered P (λ (r : Region). is_table n r.kind) (regions p graphs) (all_rows (λ (r : Region). is_table n r.kind ≡ true → P r) (λ i c e. (λ f. absurd (false≢true f), λ f. absurd (false≢true f), λ f. absurd (false≢true f), λ f. absurd (false≢true f))) (λ i k c t e f same. its i k c t e f (eqb-true t.number n same)))

  -- each chain has a region of each table
  pub some_place : (i k : ℕ) (c : ChainPlan) (t : TablePlan) → slice_get (plans p graphs) i ≡ Some c → slice_get (tables p graphs) k ≡ Some t → t.number ≡ k → list_any (λ (r : Region). r.domain == i) (places_of k (regions p graphs)) ≡ true
  some_place i k c t there e n =
      let row = among_flat (λ (d : ChainPlan). chain_rows d (tables p graphs)) (plans p graphs) i c (table_row c t) there (among_tail (table_row c t) (vars_row c) (behind_vars c) (among_tail (table_row c t) (code_row c) (behind_code c) (among_tail (table_row c t) (control_row c) (behind_control c) (among_tail (table_row c t) (message_row c) (map (table_row c) (tables p graphs)) (k, got_mapped (table_row c) (tables p graphs) k t e))))) in
      any_filtered (λ (r : Region). is_table k r.kind) (λ (r : Region). r.domain == i) (regions p graphs) row.0 (table_row c t) row.1 (eq-eqb t.number k n) (eq-eqb c.number i ((chains_lie_apart p graphs are).numbered i c there))
    where
      got_mapped : {X Y : Type 0} (f : X → Y) (xs : List X) (j : ℕ) (x : X) → slice_get xs j ≡ Some x → slice_get (map f xs) j ≡ Some (f x)
      got_mapped f xs j x h = slice_get-map f xs j ∙ ap (option_map f) h
