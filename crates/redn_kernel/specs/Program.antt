-- Which programs are sound.
use Rattle.std.specs.Prelude.{◌≡◌, ◌≢◌, ℕ, ◌+◌, ◌%◌, ◌^◌, ◌<◌, ◌≤◌, min, Bool, true, false, ◌&&◌, ◌||◌, List, [], ◌∷◌, length, map, take, replicate, sum, sum_by, All, Option, Some, None, slice_get}
use Rattle.std.specs.List.{list_all, list_any}
use Rattle.redn_kernel.specs.declared.types.Word.{Word}
use Rattle.redn_kernel.specs.declared.types.Word.TheVariants.{Var, Num}
use Rattle.redn_kernel.specs.declared.types.Kernel.{Kernel, fold-Kernel, every-Kernel}
use Rattle.redn_kernel.specs.declared.types.Kernel.TheOpen.{Kernel-F}
use Rattle.redn_kernel.specs.declared.types.TableInit.{TableInit}
use Rattle.redn_kernel.specs.declared.types.ChainInit.{ChainInit}
use Rattle.redn_kernel.specs.declared.types.Program.{Program}

-- how a statement may be left
pub record Exits : Type 0 where
  pub falls : Bool  -- on to the statement behind it
  pub breaks : Bool  -- by a break that stands in no loop or repeat of its own

abbrev pub all_fall : List Exits → Bool
all_fall body = list_all (λ (e : Exits). e.falls) body

abbrev pub some_break : List Exits → Bool
some_break body = list_any (λ (e : Exits). e.breaks) body

abbrev pub exits : Bool → Bool → Exits
exits falls breaks = record { falls = falls; breaks = breaks }

-- from the exits of the statements in its blocks
unfoldable pub exits_by : Kernel-F Exits → Exits
exits_by (Kernel-F.If wide a b met unmet) = exits (all_fall met || all_fall unmet) (some_break met || some_break unmet)
exits_by (Kernel-F.Loop body) = exits (some_break body) false
exits_by (Kernel-F.Repeat n body) = exits (all_fall body || some_break body) false
exits_by Kernel-F.Break = exits false true
exits_by (Kernel-F.Reply words) = exits false false
exits_by _ = exits true false

unfoldable pub exits_of : Kernel → Exits
exits_of = fold-Kernel Exits exits_by

-- whether a list can be left at its end
abbrev pub falls_through : List Kernel → Bool
falls_through body = all_fall (map exits_of body)

-- whether a break stands in a list, and in no loop or repeat in it
abbrev pub has_break : List Kernel → Bool
has_break body = some_break (map exits_of body)

-- whether nothing stands behind a statement that can't fall through
abbrev pub only_last_stays : List Exits → Bool
only_last_stays [] = true
only_last_stays (e ∷ []) = true
only_last_stays (e ∷ f ∷ rest) = e.falls && only_last_stays (f ∷ rest)

abbrev pub is_reached : List Kernel → Bool
is_reached body = only_last_stays (map exits_of body)

-- a statement is idle where it is a loop that is left before anything else is done
pub record Idles : Type 0 where
  pub is_break : Bool
  pub is_idle : Bool

abbrev pub idles : Bool → Bool → Idles
idles is_break is_idle = record { is_break = is_break; is_idle = is_idle }

abbrev pub break_idly : List Idles → Bool
break_idly [] = false
break_idly (i ∷ rest) = i.is_break || (i.is_idle && break_idly rest)

unfoldable pub idles_by : Kernel-F Idles → Idles
idles_by Kernel-F.Break = idles true false
idles_by (Kernel-F.Loop body) = idles false (break_idly body)
idles_by _ = idles false false

unfoldable pub idles_of : Kernel → Idles
idles_of = fold-Kernel Idles idles_by

-- whether a list is left by a break with only idle statements before it
abbrev pub breaks_idly : List Kernel → Bool
breaks_idly body = break_idly (map idles_of body)

-- whether each statement of a list is idle: a loop around it would do nothing
abbrev pub is_idle_body : List Kernel → Bool
is_idle_body body = list_all (λ k. (idles_of k).is_idle) body

-- what a statement weighs, from the weights of those in its blocks
unfoldable pub weight_by : Kernel-F ℕ → ℕ
weight_by (Kernel-F.If wide a b met unmet) = 1 + sum met + sum unmet
weight_by (Kernel-F.Loop body) = 1 + sum body
weight_by (Kernel-F.Repeat n body) = 2 + sum body
weight_by (Kernel-F.Lookup x table a key n) = min n 4 + 1
weight_by (Kernel-F.Walk x table a key n) = 5
weight_by _ = 1

unfoldable pub weight_of : Kernel → ℕ
weight_of = fold-Kernel ℕ weight_by

abbrev pub weight_of_all : List Kernel → ℕ
weight_of_all body = sum (map weight_of body)

-- an argument weighs 1
abbrev pub chain_weight : ChainInit → ℕ
chain_weight c = c.args + weight_of_all c.body

-- a variable is one of so many
abbrev pub IsNamed : ℕ → Word → Type 0
IsNamed vars (Var x) = x < vars
IsNamed vars (Num n) = Unit {0}

abbrev pub is_writable : Option TableInit → Bool
is_writable None = false
is_writable (Some t) = t.writable

module _ (tables : List TableInit) (vars : ℕ) where
  -- what a `lookup` and a `walk` have in common: a target that is neither the offset nor the key
  abbrev pub IsSearch : ℕ → ℕ → Word → Word → Type 0
  IsSearch x table a key = (x < vars) × (table < length tables) × IsNamed vars a × IsNamed vars key × (a ≢ Var x) × (key ≢ Var x)

  -- one statement, its blocks' statements aside
  unfoldable pub IsSoundStatement : Kernel-F Kernel → Type 0
  IsSoundStatement (Kernel-F.Move x a) = (x < vars) × IsNamed vars a
  IsSoundStatement (Kernel-F.Add x a) = (x < vars) × IsNamed vars a
  IsSoundStatement (Kernel-F.Load x table a) = (x < vars) × (table < length tables) × IsNamed vars a
  IsSoundStatement (Kernel-F.Store table a b) = (is_writable (slice_get tables table) ≡ true) × IsNamed vars a × IsNamed vars b
  IsSoundStatement (Kernel-F.If wide a b met unmet) = IsNamed vars a × IsNamed vars b × (is_reached met ≡ true) × (is_reached unmet ≡ true)
  IsSoundStatement (Kernel-F.Loop body) = (is_reached body ≡ true) × (is_idle_body body ≡ false)
  IsSoundStatement (Kernel-F.Repeat n body) = (1 ≤ n) × (n ≤ 4294967295) × (is_reached body ≡ true)
  IsSoundStatement Kernel-F.Break = Unit {0}
  IsSoundStatement (Kernel-F.Lookup x table a key n) = IsSearch x table a key × (1 ≤ n) × (n ≤ 4)
  IsSoundStatement (Kernel-F.Walk x table a key n) = IsSearch x table a key × (1 ≤ n) × (n ≤ 65535)
  IsSoundStatement (Kernel-F.Reply words) = All (IsNamed vars) words × (1 ≤ length words) × (length words ≤ 8)

-- a statement is sound with some tables
pub record IsUsable (vars : ℕ) (statement : Kernel) : Type 0 where
  pub tables : List TableInit
  pub sound : every-Kernel (IsSoundStatement tables vars) statement

abbrev pub AllUsable : ℕ → List Kernel → Type 0
AllUsable vars body = All (IsUsable vars) body

abbrev pub AreBytes : List ℕ → Type 0
AreBytes list = All (λ (b : ℕ). b < 256) list

abbrev pub AreWords : List ℕ → Type 0
AreWords list = All (λ (v : ℕ). v < 2 ^ 64) list

pub record IsSoundChain (tables : List TableInit) (c : ChainInit) : Type 0 where
  pub serves : 1 ≤ c.serve
  pub serves_few : c.serve ≤ 64
  pub arguments : c.args ≤ 8
  pub arguments_first : c.args ≤ length c.vars
  pub arguments_fresh : take c.args c.vars ≡ replicate c.args 0
  pub variables : length c.vars ≤ 256
  pub words : AreWords c.vars
  pub statements : All (every-Kernel (IsSoundStatement tables (length c.vars))) c.body
  pub reached : is_reached c.body ≡ true
  pub no_break : has_break c.body ≡ false
  pub ends : falls_through c.body ≡ false

-- a table has bytes, whole words of them, and at least one
abbrev pub IsSoundTable : TableInit → Type 0
IsSoundTable t = (1 ≤ length t.bytes) × (length t.bytes % 8 ≡ 0) × AreBytes t.bytes

pub record IsSound (p : Program) : Type 0 where
  pub some_chain : 1 ≤ length p.chains
  pub few_chains : length p.chains ≤ 16
  pub few_tables : length p.tables ≤ 64
  pub whole_words : All IsSoundTable p.tables
  pub few_bytes : sum_by (λ (t : TableInit). length t.bytes) p.tables ≤ 1048576
  pub sound_chains : All (IsSoundChain p.tables) p.chains
  pub light : sum_by chain_weight p.chains ≤ 4096

-- each chain serves one message
abbrev pub ServesOne : Program → Type 0
ServesOne p = All (λ (c : ChainInit). c.serve ≡ 1) p.chains
