-- Names, and where they were declared first.
use Rattle.std.specs.Prelude.{◌≡◌, ℕ, Bool, List, [], ◌∷◌, ◌++◌, map, Option, is_some, position}
use Rattle.std.specs.List.{find}
use Rattle.std.specs.Str.{bytes_eq}
use Rattle.std.specs.declared.string.String.{String}
use Rattle.std.specs.declared.alloc.Global.{Global}
use Rattle.std.specs.declared.hash.FoldHasher.{FoldHasher}
use Rattle.std.specs.declared.hash.BuildHasherDefault.{BuildHasherDefault}
use Rattle.indexmap.specs.IndexMap.{IndexMap, get_by_text}
use Rattle.redn_syntax.specs.declared.tree.Name.{Name}
use Rattle.redn_syntax.specs.declared.tree.Operand.{Operand}
use Rattle.redn_syntax.specs.declared.tree.Operand.TheVariants as operand
use Rattle.redn_syntax.specs.declared.tree.Table.{Table}
use Rattle.redn_syntax.specs.declared.tree.VarDecl.{VarDecl}
use Rattle.redn_syntax.specs.declared.tree.Chain.{Chain}

-- where a name stands first in a list of names
abbrev pub place_of : List Name → List ℕ → Option ℕ
place_of names text = position (λ n. bytes_eq text n.text) names

abbrev pub declares : List Name → Name → Bool
declares names n = is_some (place_of names n.text)

abbrev pub table_names : List Table → List Name
table_names tables = map (λ t. t.name) tables

abbrev pub chain_names : List Chain → List Name
chain_names chains = map (λ c. c.name) chains

abbrev pub variable_names : List VarDecl → List Name
variable_names vars = map (λ v. v.name) vars

-- the variables of a chain, its arguments first
abbrev pub variables : Chain → List Name
variables c = c.args ++ variable_names c.vars

-- the first table of a name
abbrev pub table_of : List Table → Name → Option Table
table_of tables n = find (λ t. bytes_eq n.text t.name.text) tables

-- the variable in an operand, where there is one
abbrev pub named : Operand → List Name
named (operand.Name n) = n ∷ []
named (operand.Num n) = []

-- a map from each name to its first place
abbrev pub Places : Type 0
Places = IndexMap (String Global) ℕ (BuildHasherDefault FoldHasher)

abbrev pub Holds : Places → List Name → Type 0
Holds m names = (text : List ℕ) → get_by_text m text ≡ place_of names text
