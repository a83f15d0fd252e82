-- Statements that are each the only one where they stand.
use Rattle.std.proofs.Common.{◌≡◌, ℕ, List, [], ◌∷◌, ◌++◌, sym, ◌∙◌, subst}
use Rattle.std.proofs.lemmas.List.{append_cancel_right}
use Rattle.redn_syntax.specs.declared.token.TokenKind.TheVariants as k
use Rattle.redn_syntax.specs.declared.tree.Stmt.{Stmt}
use Rattle.redn_syntax.specs.Lexemes.{Lexeme}
use Rattle.redn_syntax.specs.Grammar as g
use Rattle.redn_syntax.specs.Grammar.{Phrase, SamePlace}
use Rattle.redn_parse.specs.Reads.{IsOnly, IsSole, statement, unless}
use Rattle.redn_parse.proofs.Fronts as fronts
use Rattle.redn_parse.proofs.Passed.{Read, read, ◌also◌}

-- a statement, and the only one that stands there where no `else` comes behind it
abbrev pub settled : ℕ → Stmt → Phrase
settled room s before after = statement room s before after × IsOnly statement (unless k.Else) before after s

-- and so wherever the next lexeme is of the same kind
abbrev pub sole : ℕ → Stmt → Phrase
sole room s before after = statement room s before after × IsSole statement (unless k.Else) before after s

one_read : (room : ℕ) (s : Stmt) (b m : List Lexeme) → sole room s b m → Read (statement room s) (settled room s) b m
one_read room s b m (h, only) =
    let r = read (fronts.statement (g.block_within SamePlace room) (fronts.block room) s) h in
    let same : only.front ≡ r.front = append_cancel_right only.front r.front m (sym only.split ∙ r.split) in
    record {
      front = r.front;
      split = r.split;
      always = r.always;
      near = λ other e. (r.always other, subst (λ l. IsOnly statement (unless k.Else) (l ++ other) other s) same (only.only other e));
    }

pub sole_read : (room : ℕ) (xs : List Stmt) (b m : List Lexeme) → g.each (sole room) xs b m → Read (g.each (statement room) xs) (g.each (settled room) xs) b m
sole_read room [] b m h = read fronts.nothing h
sole_read room (x ∷ xs) b m (l, h, hs) = one_read room x b l h also sole_read room xs l m hs
