-- The generated file of a number, and its messages. A generated tree has no text of its own: all its places are 0.
use Rattle.std.specs.Prelude.{ℕ, zero, suc, ◌+◌, ◌*◌, ◌%◌, List, [], ◌∷◌, ◌++◌, Option, Some, None, false, map, codes, decimal}
use Rattle.std.specs.List.{flat_map}
use Rattle.redn_words.specs.Words.{spelled}
use Rattle.redn_syntax.specs.declared.tree.Name.{Name}
use Rattle.redn_syntax.specs.declared.tree.Num.{Num}
use Rattle.redn_syntax.specs.declared.tree.Operand.{Operand}
use Rattle.redn_syntax.specs.declared.tree.Operand.TheVariants as operand
use Rattle.redn_syntax.specs.declared.tree.Item.{Item}
use Rattle.redn_syntax.specs.declared.tree.Table.{Table}
use Rattle.redn_syntax.specs.declared.tree.VarDecl.{VarDecl}
use Rattle.redn_syntax.specs.declared.tree.Chain.{Chain}
use Rattle.redn_syntax.specs.declared.tree.File.{File}
use Rattle.redn_syntax.specs.declared.tree.Stmt.{Stmt}
use Rattle.redn_syntax.specs.declared.tree.StmtKind.{StmtKind}
use Rattle.redn_syntax.specs.declared.tree.StmtKind.TheVariants as s

-- 0, 1 and so on, all numbers below this one
unfoldable pub below : ℕ → List ℕ
below zero = []
below (suc n) = below n ++ n ∷ []

-- ---- parts of a tree

abbrev pub name : List ℕ → Name
name text = record { text = text; at = 0 }

abbrev pub number : ℕ → Num
number value = record { value = value; at = 0 }

abbrev pub named : List ℕ → Operand
named text = operand.Name (name text)

abbrev pub word : ℕ → Item
word value = record { at = None; word = number value }

abbrev pub variable : List ℕ → VarDecl
variable text = record { name = name text; first = None }

abbrev pub statement : StmtKind → Stmt
statement kind = record { at = 0; kind = kind }

-- ---- the table

-- the key of bucket j in the generated file of n
abbrev pub key : ℕ → ℕ → ℕ
key n j = 64 * j + n % 64 + 1

-- a bucket has its key and its value
abbrev pub bucket : ℕ → ℕ → List ℕ
bucket n j = key n j ∷ (n + j) ∷ []

-- `t`, with 512 buckets of two words in a row
abbrev pub table : ℕ → Table
table n = record {
  name = name (codes "t");
  length = number 8192;
  writable = false;
  items = map word (flat_map (bucket n) (below 512));
}

-- ---- the chains

-- `arg o; arg k;`
abbrev pub arguments : List Name
arguments = name (codes "o") ∷ name (codes "k") ∷ []

-- `var x; var s; var i;`
abbrev pub variables : List VarDecl
variables = variable (codes "x") ∷ variable (codes "s") ∷ variable (codes "i") ∷ []

-- `lookup x = t[o] key k probes 2;`
abbrev pub lookup : StmtKind
lookup = s.Lookup (name (codes "x")) (name (codes "t")) (named (codes "o")) (named (codes "k")) (number 2)

-- adds to a variable
abbrev pub add : List ℕ → Operand → StmtKind
add text value = s.Add (name text) value

-- `lookup x = t[o] key k probes 2; s += x; i += 1;`
abbrev pub turn : List Stmt
turn =
    statement lookup
    ∷ statement (add (codes "s") (named (codes "x")))
    ∷ statement (add (codes "i") (operand.Num (number 1)))
    ∷ []

-- `reply s, i;`
abbrev pub reply : StmtKind
reply = s.Reply (named (codes "s") ∷ named (codes "i") ∷ [])

-- `repeat 1000 { .. } reply s, i;`
abbrev pub body : List Stmt
body =
    statement (s.Repeat (number 1000) turn)
    ∷ statement reply
    ∷ []

-- `g` and the number of the chain
abbrev pub chain_name : ℕ → Name
chain_name c = name (codes "g" ++ decimal c)

-- `chain g0 { arg o; arg k; var x; var s; var i; .. }`
abbrev pub chain : ℕ → Chain
chain c = record {
  name = chain_name c;
  serve = None;
  args = arguments;
  vars = variables;
  body = body;
  close = 0;
}

abbrev pub chain_count : ℕ → ℕ
chain_count n = 1 + n % 4

abbrev pub generated_file : ℕ → File
generated_file n = record { tables = table n ∷ []; chains = map chain (below (chain_count n)) }

-- ---- the messages

-- the bucket that a chain looks for
abbrev pub sought : ℕ → ℕ → ℕ
sought n c = (n + c) % 511

-- the offset of that bucket and its key
abbrev pub message : ℕ → ℕ → List ℕ
message n c = spelled 8 (16 * sought n c) ++ spelled 8 (key n (sought n c))

abbrev pub generated_messages : ℕ → List (Option (List ℕ))
generated_messages n = map (λ c. Some (message n c)) (below (chain_count n))
