-- How the canonical text is put together.
use Rattle.std.proofs.Common.{◌≡◌, ℕ, Result, Ok, Err, OnOk, List, [], ◌∷◌, ◌++◌, map, refl, sym, ap, ◌∙◌, append_assoc}
use Rattle.std.specs.List.{flat_map}
use Rattle.std.proofs.lemmas.List.Concat.{flat_map-append}
use Rattle.redn_syntax.specs.declared.token.TokenKind.{TokenKind}
use Rattle.redn_syntax.specs.declared.token.TokenKind.TheVariants as k
use Rattle.redn_syntax.specs.declared.tree.Name.{Name}
use Rattle.redn_syntax.specs.declared.tree.Num.{Num}
use Rattle.redn_syntax.specs.declared.tree.Operand.{Operand}
use Rattle.redn_syntax.specs.declared.tree.Operand.TheVariants as operand
use Rattle.redn_syntax.specs.declared.tree.Stmt.{Stmt, fold_out-Stmt}
use Rattle.redn_syntax.specs.declared.tree.StmtKind.{StmtKind, out-StmtKind, fold-StmtKind, fold_out-StmtKind, map-StmtKind}
use Rattle.redn_syntax.specs.declared.tree.StmtKind.TheOpen.{StmtKind-F}
use Rattle.redn_syntax.specs.Lexemes.{Lexeme}
use Rattle.redn_syntax.specs.Canonical.{spaced, Layer, form, statement, body_of, mark, name, number, value, slot}

-- the lexemes of the statements in the blocks of a statement
abbrev pub lines : StmtKind-F StmtKind Stmt → Layer
lines = map-StmtKind StmtKind Stmt (List Lexeme) (List Lexeme) (fold-StmtKind (List Lexeme) (List Lexeme) form (λ s. s.kind)) statement

pub statement_out : (s : Stmt) → statement s ≡ form (lines (out-StmtKind s.kind))
unfolding statement
statement_out s = fold_out-Stmt (List Lexeme) (List Lexeme) form (λ x. x.kind) s ∙ fold_out-StmtKind (List Lexeme) (List Lexeme) form (λ x. x.kind) s.kind

-- the lexemes of a statement of this kind
pub statement_is : (s : Stmt) (kind : StmtKind) (layer : StmtKind-F StmtKind Stmt) → s.kind ≡ kind → out-StmtKind kind ≡ layer → statement s ≡ form (lines layer)
statement_is s kind layer e out = statement_out s ∙ ap (λ k. form (lines (out-StmtKind k))) e ∙ ap (λ k. form (lines k)) out

flat_map-map : {X : Type 0} (f : X → List Lexeme) (xs : List X) → flat_map (λ s. s) (map f xs) ≡ flat_map f xs
flat_map-map f [] = refl
flat_map-map f (x ∷ xs) = ap (λ l. f x ++ l) (flat_map-map f xs)

pub body_of_is : (body : List Stmt) → flat_map (λ s. s) (map statement body) ≡ body_of body
body_of_is body = flat_map-map statement body

pub spaced_append : (xs ys : List Lexeme) → spaced (xs ++ ys) ≡ spaced xs ++ spaced ys
spaced_append xs ys = flat_map-append _ xs ys

-- one call after another
pub joined : (xs ys : List Lexeme) (old mid new : List ℕ) → mid ≡ old ++ spaced xs → new ≡ mid ++ spaced ys → new ≡ old ++ spaced (xs ++ ys)
joined xs ys old mid new e f = f ∙ ap (λ l. l ++ spaced ys) e ∙ append_assoc old (spaced xs) (spaced ys) ∙ ap (λ l. old ++ l) (sym (spaced_append xs ys))

pub joined_last : {T E : Type 0} (r : Result T E) (xs ys zs : List Lexeme) (old mid new : List ℕ) → xs ++ ys ≡ zs → mid ≡ old ++ spaced xs → OnOk r (new ≡ mid ++ spaced ys) → OnOk r (new ≡ old ++ spaced zs)
joined_last (Ok x) xs ys zs old mid new same e f = joined xs ys old mid new e f ∙ ap (λ l. old ++ spaced l) same
joined_last (Err d) xs ys zs old mid new same e f = tt

-- the front of a `lookup` or a `walk`, and what comes behind it
abbrev pub source : TokenKind → Name → Name → Operand → List Lexeme
source kind to table offset = mark kind ++ name to ++ mark k.Equals ++ slot table offset

abbrev pub key_and_bound : Operand → TokenKind → Num → List Lexeme
key_and_bound key bound n = mark k.Key ++ value key ++ mark bound ++ number n ++ mark k.Semicolon

pub halves : (kind bound : TokenKind) (to table : Name) (offset key : Operand) (n : Num) →
    source kind to table offset ++ key_and_bound key bound n
    ≡ mark kind ++ name to ++ mark k.Equals ++ slot table offset ++ mark k.Key ++ value key ++ mark bound ++ number n ++ mark k.Semicolon
halves kind bound to table (operand.Name a) (operand.Name b) n = refl
halves kind bound to table (operand.Name a) (operand.Num b) n = refl
halves kind bound to table (operand.Num a) (operand.Name b) n = refl
halves kind bound to table (operand.Num a) (operand.Num b) n = refl
