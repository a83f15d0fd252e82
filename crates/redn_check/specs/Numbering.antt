-- The program that a file is, with numbers in place of names.
use Rattle.std.specs.Prelude.{ℕ, List, ◌++◌, length, map, fold, replicate, unwrap_or}
use Rattle.std.specs.Option.{option_map_or}
use Rattle.redn_words.specs.Words.{with_bytes_at, spelled}
use Rattle.redn_syntax.specs.declared.tree.Name.{Name}
use Rattle.redn_syntax.specs.declared.tree.Num.{Num}
use Rattle.redn_syntax.specs.declared.tree.Operand.{Operand}
use Rattle.redn_syntax.specs.declared.tree.Operand.TheVariants as operand
use Rattle.redn_syntax.specs.declared.tree.VarDecl.{VarDecl}
use Rattle.redn_syntax.specs.declared.tree.Item.{Item}
use Rattle.redn_syntax.specs.declared.tree.Table.{Table}
use Rattle.redn_syntax.specs.declared.tree.Chain.{Chain}
use Rattle.redn_syntax.specs.declared.tree.File.{File}
use Rattle.redn_syntax.specs.declared.tree.Stmt.{Stmt, fold-Stmt}
use Rattle.redn_syntax.specs.declared.tree.StmtKind.TheOpen.{StmtKind-F}
use Rattle.redn_kernel.specs.declared.types.Word.{Word}
use Rattle.redn_kernel.specs.declared.types.Word.TheVariants.{Var, Num as Number}
use Rattle.redn_kernel.specs.declared.types.Kernel.{Kernel}
use Rattle.redn_kernel.specs.declared.types.Kernel.TheVariants as k
use Rattle.redn_kernel.specs.declared.types.TableInit.{TableInit}
use Rattle.redn_kernel.specs.declared.types.ChainInit.{ChainInit}
use Rattle.redn_kernel.specs.declared.types.Program.{Program}
use Rattle.redn_check.specs.Statements.{with_earlier}
use Rattle.redn_check.specs.Names.{place_of, table_names, variables}
use Rattle.redn_check.specs.Rules.{offset_behind, end_of}

-- the place where a name is declared, or 0 where it isn't
abbrev pub number_of : List Name → Name → ℕ
number_of names n = unwrap_or (place_of names n.text) 0

abbrev pub word_of : List Name → Operand → Word
word_of names (operand.Name n) = Var (number_of names n)
word_of names (operand.Num n) = Number n.value

module _ (tables names : List Name) where
  unfoldable pub kernel_by : StmtKind-F Kernel Kernel → Kernel
  kernel_by (StmtKind-F.Move to from) = k.Move (number_of names to) (word_of names from)
  kernel_by (StmtKind-F.Add to by) = k.Add (number_of names to) (word_of names by)
  kernel_by (StmtKind-F.Load to table offset) = k.Load (number_of names to) (number_of tables table) (word_of names offset)
  kernel_by (StmtKind-F.Store table offset from) = k.Store (number_of tables table) (word_of names offset) (word_of names from)
  kernel_by (StmtKind-F.If wide left right met unmet) = k.If wide (word_of names left) (word_of names right) met unmet
  kernel_by (StmtKind-F.Loop body) = k.Loop body
  kernel_by (StmtKind-F.Repeat count body) = k.Repeat count.value body
  kernel_by StmtKind-F.Break = k.Break
  kernel_by (StmtKind-F.Lookup to table offset key probes) =
      k.Lookup (number_of names to) (number_of tables table) (word_of names offset) (word_of names key) probes.value
  kernel_by (StmtKind-F.Walk to table offset key nodes) =
      k.Walk (number_of names to) (number_of tables table) (word_of names offset) (word_of names key) nodes.value
  kernel_by (StmtKind-F.Reply words) = k.Reply (map (word_of names) words)

  unfoldable pub kernel_of : Stmt → Kernel
  kernel_of = fold-Stmt Kernel Kernel kernel_by (λ s. s.kind)

-- the items of a table, each with the offset where it stands
abbrev pub placed : List Item → List (ℕ × ℕ)
placed items = map (λ e. (offset_behind (end_of e.0) e.1, e.1.word.value)) (with_earlier items)

-- a word over the bytes at its offset
abbrev pub written : List ℕ → ℕ × ℕ → List ℕ
written bytes e = with_bytes_at bytes e.0 (spelled 8 e.1)

-- zeros, with the words of the items over them
abbrev pub table_bytes : Table → List ℕ
table_bytes t = fold written (replicate t.length.value 0) (placed t.items)

abbrev pub table_init : Table → TableInit
table_init t = record { bytes = table_bytes t; writable = t.writable }

abbrev pub first_value : VarDecl → ℕ
first_value v = option_map_or (λ (n : Num). n.value) v.first 0

-- arguments begin as 0
abbrev pub first_values : Chain → List ℕ
first_values c = replicate (length c.args) 0 ++ map first_value c.vars

-- where it isn't written, a chain serves one message
abbrev pub served : Chain → ℕ
served c = option_map_or (λ (n : Num). n.value) c.serve 1

abbrev pub chain_init : List Table → Chain → ChainInit
chain_init tables c = record {
  serve = served c;
  args = length c.args;
  vars = first_values c;
  body = map (kernel_of (table_names tables) (variables c)) c.body;
}

abbrev pub program_of : File → Program
program_of f = record { tables = map table_init f.tables; chains = map (chain_init f.tables) f.chains }
