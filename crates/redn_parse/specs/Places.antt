-- Trees that are the same, places aside.
use Rattle.std.specs.Prelude.{◌≡◌, map}
use Rattle.std.specs.Option.{option_map}
use Rattle.redn_syntax.specs.declared.tree.Name.{Name}
use Rattle.redn_syntax.specs.declared.tree.Num.{Num}
use Rattle.redn_syntax.specs.declared.tree.Operand.{Operand}
use Rattle.redn_syntax.specs.declared.tree.Operand.TheVariants as operand
use Rattle.redn_syntax.specs.declared.tree.Item.{Item}
use Rattle.redn_syntax.specs.declared.tree.Table.{Table}
use Rattle.redn_syntax.specs.declared.tree.VarDecl.{VarDecl}
use Rattle.redn_syntax.specs.declared.tree.Chain.{Chain}
use Rattle.redn_syntax.specs.declared.tree.File.{File}
use Rattle.redn_syntax.specs.declared.tree.Stmt.{Stmt, fold-Stmt}
use Rattle.redn_syntax.specs.declared.tree.StmtKind.{StmtKind}
use Rattle.redn_syntax.specs.declared.tree.StmtKind.TheVariants as s
use Rattle.redn_syntax.specs.declared.tree.StmtKind.TheOpen.{StmtKind-F}

-- ---- each with all its places at 0

abbrev pub name : Name → Name
name n = record { text = n.text; at = 0 }

abbrev pub number : Num → Num
number n = record { value = n.value; at = 0 }

abbrev pub value : Operand → Operand
value (operand.Name n) = operand.Name (name n)
value (operand.Num n) = operand.Num (number n)

abbrev pub item : Item → Item
item i = record { at = option_map number i.at; word = number i.word }

abbrev pub table : Table → Table
table t = record { name = name t.name; length = number t.length; writable = t.writable; items = map item t.items }

abbrev pub variable : VarDecl → VarDecl
variable v = record { name = name v.name; first = option_map number v.first }

-- a statement whose blocks are so already
unfoldable pub kind : StmtKind-F StmtKind Stmt → StmtKind
kind (StmtKind-F.Move to from) = s.Move (name to) (value from)
kind (StmtKind-F.Add to by) = s.Add (name to) (value by)
kind (StmtKind-F.Load to t offset) = s.Load (name to) (name t) (value offset)
kind (StmtKind-F.Store t offset from) = s.Store (name t) (value offset) (value from)
kind (StmtKind-F.If wide left right then_do else_do) = s.If wide (value left) (value right) then_do else_do
kind (StmtKind-F.Loop body) = s.Loop body
kind (StmtKind-F.Repeat count body) = s.Repeat (number count) body
kind StmtKind-F.Break = s.Break
kind (StmtKind-F.Lookup to t offset key probes) = s.Lookup (name to) (name t) (value offset) (value key) (number probes)
kind (StmtKind-F.Walk to t offset key nodes) = s.Walk (name to) (name t) (value offset) (value key) (number nodes)
kind (StmtKind-F.Reply words) = s.Reply (map value words)

unfoldable pub statement : Stmt → Stmt
statement = fold-Stmt StmtKind Stmt kind (λ s. record { at = 0; kind = s.kind })

abbrev pub chain : Chain → Chain
chain c = record { name = name c.name; serve = option_map number c.serve; args = map name c.args; vars = map variable c.vars; body = map statement c.body; close = 0 }

abbrev pub file : File → File
file f = record { tables = map table f.tables; chains = map chain f.chains }

-- one file is the other, places aside
abbrev pub IsSameAside : File → File → Type 0
IsSameAside f g = file f ≡ file g
