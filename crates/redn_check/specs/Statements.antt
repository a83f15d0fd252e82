-- The statements of a list and of its blocks, how they may be left, which are idle, and what each weighs.
use Rattle.std.specs.Prelude.{ℕ, ◌+◌, min, Bool, true, false, ◌||◌, List, [], ◌∷◌, ◌++◌, map}
use Rattle.std.specs.List.{flat_map, list_all}
use Rattle.redn_syntax.specs.declared.tree.Stmt.{Stmt, fold-Stmt}
use Rattle.redn_syntax.specs.declared.tree.StmtKind.{StmtKind, roll-StmtKind, out-StmtKind, map-StmtKind}
use Rattle.redn_syntax.specs.declared.tree.StmtKind.TheOpen.{StmtKind-F}
use Rattle.redn_kernel.specs.Program.{Exits, exits, all_fall, some_break, Idles, idles, break_idly}

-- each of a list, with those that stand before it
abbrev pub with_earlier : {X : Type 0} → List X → List (List X × X)
with_earlier [] = []
with_earlier (x ∷ xs) = ([], x) ∷ map (λ e. (x ∷ e.0, e.1)) (with_earlier xs)

-- what a statement is, with the statements of its blocks
abbrev pub layer_of : Stmt → StmtKind-F StmtKind Stmt
layer_of s = out-StmtKind s.kind

abbrev pub blocks : {A B : Type 0} → StmtKind-F A B → List (List B)
blocks (StmtKind-F.If wide left right met unmet) = met ∷ unmet ∷ []
blocks (StmtKind-F.Loop body) = body ∷ []
blocks (StmtKind-F.Repeat count body) = body ∷ []
blocks _ = []

-- whether it looks for a key in a table
abbrev pub searches : {A B : Type 0} → StmtKind-F A B → Bool
searches (StmtKind-F.Lookup to table offset key probes) = true
searches (StmtKind-F.Walk to table offset key nodes) = true
searches _ = false

abbrev pub is_search : Stmt → Bool
is_search s = searches (layer_of s)

-- whether it is neither a reply nor has blocks
abbrev pub acts_once : {A B : Type 0} → StmtKind-F A B → Bool
acts_once (StmtKind-F.If wide left right met unmet) = false
acts_once (StmtKind-F.Loop body) = false
acts_once (StmtKind-F.Repeat count body) = false
acts_once (StmtKind-F.Reply words) = false
acts_once _ = true

abbrev pub is_plain : Stmt → Bool
is_plain s = acts_once (layer_of s)

-- all that stands right in its blocks
abbrev pub inner : {A B : Type 0} → StmtKind-F A B → List B
inner layer = flat_map (λ body. body) (blocks layer)

-- a statement beside all that stands in its blocks at any depth
abbrev pub unfold_by : StmtKind-F (StmtKind × List Stmt) (Stmt × List Stmt) → StmtKind × List Stmt
unfold_by layer = (roll-StmtKind (map-StmtKind (StmtKind × List Stmt) (Stmt × List Stmt) StmtKind Stmt (λ e. e.0) (λ e. e.0) layer), flat_map (λ e. e.1) (inner layer))

abbrev pub with_statement : ℕ → StmtKind × List Stmt → Stmt × List Stmt
with_statement at kind = (record { at = at; kind = kind.0 }, record { at = at; kind = kind.0 } ∷ kind.1)

unfoldable pub unfolded : Stmt → Stmt × List Stmt
unfolded = fold-Stmt (StmtKind × List Stmt) (Stmt × List Stmt) unfold_by (λ s. with_statement s.at s.kind)

-- a statement, and then each in its blocks, in the order of the text
abbrev pub with_inner : Stmt → List Stmt
with_inner s = (unfolded s).1

-- each statement of a list with those in its blocks
abbrev pub each_of : List Stmt → List Stmt
each_of body = flat_map with_inner body

-- how a statement may be left
unfoldable pub exits_by : StmtKind-F Exits Exits → Exits
exits_by (StmtKind-F.If wide left right met unmet) = exits (all_fall met || all_fall unmet) (some_break met || some_break unmet)
exits_by (StmtKind-F.Loop body) = exits (some_break body) false
exits_by (StmtKind-F.Repeat count body) = exits (all_fall body || some_break body) false
exits_by StmtKind-F.Break = exits false true
exits_by (StmtKind-F.Reply words) = exits false false
exits_by _ = exits true false

unfoldable pub exits_of : Stmt → Exits
exits_of = fold-Stmt Exits Exits exits_by (λ s. s.kind)

-- whether a list can be left at its end
abbrev pub falls_through : List Stmt → Bool
falls_through body = all_fall (map exits_of body)

-- whether a statement does nothing, and whether it is a break
unfoldable pub idles_by : StmtKind-F Idles Idles → Idles
idles_by StmtKind-F.Break = idles true false
idles_by (StmtKind-F.Loop body) = idles false (break_idly body)
idles_by _ = idles false false

unfoldable pub idles_of : Stmt → Idles
idles_of = fold-Stmt Idles Idles idles_by (λ s. s.kind)

-- whether a loop around the list would do nothing
abbrev pub is_idle_body : List Stmt → Bool
is_idle_body body = list_all (λ s. (idles_of s).is_idle) body

-- where the breaks stand that leave a loop around the statement
unfoldable pub breaks_by : StmtKind-F (ℕ → List ℕ) (List ℕ) → ℕ → List ℕ
breaks_by StmtKind-F.Break at = at ∷ []
breaks_by (StmtKind-F.If wide left right met unmet) at = flat_map (λ places. places) met ++ flat_map (λ places. places) unmet
breaks_by _ at = []

unfoldable pub breaks_of : Stmt → List ℕ
breaks_of = fold-Stmt (ℕ → List ℕ) (List ℕ) breaks_by (λ s. s.kind s.at)

-- what a statement weighs, its blocks aside
abbrev pub own_weight : {A B : Type 0} → StmtKind-F A B → ℕ
own_weight (StmtKind-F.Repeat count body) = 2
own_weight (StmtKind-F.Lookup to table offset key probes) = min probes.value 4 + 1
own_weight (StmtKind-F.Walk to table offset key nodes) = 5
own_weight _ = 1
