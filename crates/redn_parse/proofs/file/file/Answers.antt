use Rattle.redn_syntax.specs.declared.token.TokenKind.TheVariants as k
use Rattle.std.proofs.Common.{[]}
use Rattle.redn_syntax.specs.Grammar as g
use Rattle.redn_syntax.specs.Grammar.{SamePlace}
use Rattle.redn_parse.specs.Reads as reads
use Rattle.redn_parse.proofs.Braces as braces
use Rattle.redn_parse.proofs.Fronts as fronts
use Rattle.redn_parse.proofs.Passed.{start, goes, blames, first_blames, unread_flat, unread_deep}
use Rattle.redn_parse.proofs.Lists.{all_read}
use Rattle.redn_parse.proofs.Chains.{tables_failed, file_failed, file_goes}
use Rattle.redn_parse.proofs.file.file.Goals as goal

pub returns-in_err-tables : goal.returns-in_err-tables
returns-in_err-tables c =
    unread_flat (g.file_within SamePlace) 64 _ _ c.from_residual.ensures.1 c.in_err-tables.ensures.reads start
    file_goes
    (first_blames (λ b near none. tables_failed b none))
    (braces.nothing 0) braces.tables

pub returns-in_err-chains : goal.returns-in_err-chains
returns-in_err-chains c =
    let tables = c.in_ok-tables.tables in
    unread_deep (g.file_within SamePlace) reads.some_chains 64 64 _ _ c.from_residual-in_err-chains.ensures.1 c.in_err-chains.ensures
    (all_read (g.table SamePlace) k.Table fronts.table tables _ _ c.in_ok-tables.ensures.reads)
    (goes (λ z. (record { tables = tables; chains = z }, [], λ b m tail h d. (m, h, d))))
    (blames (λ b m near h none. file_failed tables b m h none))
    (braces.tables tables)
