-- What may stand where something is wanted.
use Rattle.std.proofs.Common.{false, [], None}
use Rattle.redn_syntax.specs.declared.token.TokenKind.{TokenKind}
use Rattle.redn_syntax.specs.declared.tree.Name.{Name}
use Rattle.redn_syntax.specs.declared.tree.Num.{Num}
use Rattle.redn_syntax.specs.declared.tree.Operand.{Operand}
use Rattle.redn_syntax.specs.declared.tree.Operand.TheVariants as operand
use Rattle.redn_syntax.specs.declared.tree.Item.{Item}
use Rattle.redn_syntax.specs.declared.tree.Table.{Table}
use Rattle.redn_syntax.specs.declared.tree.VarDecl.{VarDecl}
use Rattle.redn_syntax.specs.declared.tree.Chain.{Chain}
use Rattle.redn_syntax.specs.Lexemes.{Lexeme, Fixed, Named, Numbered}

abbrev pub a_name : Name
a_name = record { text = []; at = 0 }

abbrev pub a_number : Num
a_number = record { value = 0; at = 0 }

abbrev pub a_value : Operand
a_value = operand.Num a_number

abbrev pub an_item : Item
an_item = record { at = None; word = a_number }

abbrev pub a_table : Table
a_table = record { name = a_name; length = a_number; writable = false; items = [] }

abbrev pub a_variable : VarDecl
a_variable = record { name = a_name; first = None }

abbrev pub a_chain : Chain
a_chain = record { name = a_name; serve = None; args = []; vars = []; body = []; close = 0 }

abbrev pub mark : TokenKind → Lexeme
mark kind = Fixed kind 0

abbrev pub name : Lexeme
name = Named [] 0

abbrev pub number : Lexeme
number = Numbered 0 0
