-- Where the variables and tables of a program stand in an image, and what memory says of them.
use Rattle.std.specs.Prelude.{◌≡◌, ℕ, ◌+◌, ◌*◌, ◌<◌, Bool, true, false, ◌&&◌, ◌||◌, ◌==◌, List, [], ◌∷◌, length, map, filter, Some, slice_get, slice_index}
use Rattle.std.specs.List.{All, list_any}
use Rattle.std.specs.Option.{option_map}
use Rattle.redn_words.specs.declared.types.Region.{Region}
use Rattle.redn_words.specs.declared.types.Kind.{Kind}
use Rattle.redn_words.specs.declared.types.Kind.TheVariants.{Vars, Table, Code, Control, Message}
use Rattle.redn_words.specs.declared.types.Receive.{Receive}
use Rattle.redn_words.specs.Words.{bytes_at, word}
use Rattle.redn_kernel.specs.declared.types.Kernel.{fold-Kernel}
use Rattle.redn_kernel.specs.declared.types.Kernel.TheOpen.{Kernel-F}
use Rattle.redn_kernel.specs.declared.types.TableInit.{TableInit}
use Rattle.redn_kernel.specs.declared.types.ChainInit.{ChainInit}
use Rattle.redn_kernel.specs.declared.types.Program.{Program}
use Rattle.redn_kernel.specs.Source.{ChainState, Source, bytes_of}
use Rattle.redn_image.specs.Rules.{Image}

abbrev pub is_vars : Kind → Bool
is_vars Vars = true
is_vars (Table t) = false
is_vars Code = false
is_vars Control = false
is_vars Message = false

abbrev pub is_table : ℕ → Kind → Bool
is_table t (Table u) = u == t
is_table t Vars = false
is_table t Code = false
is_table t Control = false
is_table t Message = false

-- the regions of a chain's variables, and those of a table
abbrev pub variables_of : ℕ → List Region → List Region
variables_of c regions = filter (λ (r : Region). is_vars r.kind && r.domain == c) regions

abbrev pub places_of : ℕ → List Region → List Region
places_of t regions = filter (λ (r : Region). is_table t r.kind) regions

-- whether a statement names a table, from the answers of those in its blocks
unfoldable pub names_by : ℕ → Kernel-F Bool → Bool
names_by t (Kernel-F.Load x table a) = table == t
names_by t (Kernel-F.Store table a b) = table == t
names_by t (Kernel-F.Lookup x table a key n) = table == t
names_by t (Kernel-F.Walk x table a key n) = table == t
names_by t (Kernel-F.If wide a b met unmet) = list_any (λ b. b) met || list_any (λ b. b) unmet
names_by t (Kernel-F.Loop body) = list_any (λ b. b) body
names_by t (Kernel-F.Repeat n body) = list_any (λ b. b) body
names_by t _ = false

abbrev pub names_table : ℕ → ChainInit → Bool
names_table t c = list_any (fold-Kernel Bool (names_by t)) c.body

abbrev pub TableLengthBy : List TableInit → ℕ → Kind → Type 0
TableLengthBy tables len (Table t) = option_map (λ (table : TableInit). length table.bytes) (slice_get tables t) ≡ Some len
TableLengthBy tables len Vars = Unit {0}
TableLengthBy tables len Code = Unit {0}
TableLengthBy tables len Control = Unit {0}
TableLengthBy tables len Message = Unit {0}

-- the length of a region that holds a table is that of the table
abbrev pub HasTableLength : List TableInit → Region → Type 0
HasTableLength tables r = TableLengthBy tables r.len r.kind

-- an image has a place for all that a program's chains name
pub record Fits (p : Program) (i : Image) : Type 0 where
  pub messages : map (λ (r : Receive). r.len) i.receives ≡ map (λ (c : ChainInit). 8 * c.args) p.chains
  pub variables : (k : ℕ) (c : ChainInit) → slice_get p.chains k ≡ Some c → map (λ (r : Region). r.len) (variables_of k i.regions) ≡ 8 * length c.vars ∷ []
  pub lengths : All (HasTableLength p.tables) i.regions
  pub named : (k t : ℕ) (c : ChainInit) → slice_get p.chains k ≡ Some c → names_table t c ≡ true → list_any (λ (r : Region). r.domain == k) (places_of t i.regions) ≡ true

-- each variable is the word at its place
pub record HoldsVariables (memory : List ℕ) (vars : List ℕ) (r : Region) : Type 0 where
  pub words : (x : ℕ) → x < length vars → word memory (r.base + 8 * x) ≡ slice_index vars x

-- memory has what a source state has, in an image that fits its program
pub record Agrees (regions : List Region) (memory : List ℕ) (s : Source) : Type 0 where
  pub variables : (k : ℕ) (c : ChainState) → slice_get s.chains k ≡ Some c → All (HoldsVariables memory c.vars) (variables_of k regions)
  pub tables : (t : ℕ) → All (λ (r : Region). bytes_at memory r.base r.len ≡ bytes_of s.tables t) (places_of t regions)
