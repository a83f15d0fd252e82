-- What the lexer says of a text without tokens.
use Rattle.std.proofs.Common.{◌≡◌, List, Err, sym, ap, ◌∙◌}
use Rattle.redn_syntax.specs.declared.token.Token.{Token}
use Rattle.redn_syntax.specs.Tokens.{Tokenizes}
use Rattle.redn_lex.specs.declared.fault.LexFault.TheVariants as lex
use Rattle.redn_top.proofs.SourceFaults.{bad_byte, too_wide}
use Rattle.redn_top.proofs.source.tokens_of.Goals as goal

pub returns-in-Err-BadByte-clause-refused : goal.returns-in-Err-BadByte-clause-refused
returns-in-Err-BadByte-clause-refused c =
    let h = c.in-Err-BadByte.ensures in
    let no : (tokens : List Token) → ¬ Tokenizes c.args.text.now tokens = λ tokens t. (let e : lex.BadByte c.in-Err-BadByte.at ≡ lex.Memory = sym c.in-Err-BadByte.field-0-is ∙ h.has_tokens tokens t in absurd (cc)) in
    bad_byte c.args.text.now c.in-Err-BadByte.at c.from.result c.from.ensures (h.bad_byte c.in-Err-BadByte.at (ap Err c.in-Err-BadByte.field-0-is)) no

pub returns-in-Err-NumberTooWide-clause-refused : goal.returns-in-Err-NumberTooWide-clause-refused
returns-in-Err-NumberTooWide-clause-refused c =
    let h = c.in-Err-NumberTooWide.ensures in
    let no : (tokens : List Token) → ¬ Tokenizes c.args.text.now tokens = λ tokens t. (let e : lex.NumberTooWide c.in-Err-NumberTooWide.at ≡ lex.Memory = sym c.in-Err-NumberTooWide.field-0-is ∙ h.has_tokens tokens t in absurd (cc)) in
    too_wide c.args.text.now c.in-Err-NumberTooWide.at c.from-in-Err-NumberTooWide.result c.from-in-Err-NumberTooWide.ensures (h.number_too_wide c.in-Err-NumberTooWide.at (ap Err c.in-Err-NumberTooWide.field-0-is)) no
