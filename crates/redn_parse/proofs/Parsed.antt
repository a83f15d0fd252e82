-- One answer for the tokens of a text.
use Rattle.std.proofs.Common.{◌≡◌, ℕ, List, [], ◌∷◌, ◌++◌, sym, refl, ap, ◌∙◌, subst}
use Rattle.redn_syntax.specs.declared.token.Token.{Token}
use Rattle.redn_syntax.specs.declared.token.TokenKind.TheVariants.{OpenBrace}
use Rattle.redn_syntax.specs.declared.tree.File.{File}
use Rattle.redn_syntax.specs.Tokens.{Tokenizes}
use Rattle.redn_syntax.specs.Lexemes.{Lexeme, Fixed, lexemes_of}
use Rattle.redn_syntax.specs.Grammar as g
use Rattle.redn_syntax.specs.Grammar.{SamePlace, HasTree, HasTreeWithin, HasTreeAsideWithin, IsWritableWithin}
use Rattle.redn_syntax.specs.Canonical.{canonical_text}
use Rattle.redn_syntax.proofs.ReadBack.{reads_back}
use Rattle.redn_lex.proofs.Lexing.{tokens_same}
use Rattle.redn_parse.specs.Depth.{IsFull, OpensDeepFrom}
use Rattle.redn_parse.specs.Reads as reads
use Rattle.redn_parse.specs.Places.{IsSameAside}
use Rattle.redn_parse.proofs.Trees.{one_tree}
use Rattle.redn_parse.proofs.Chains.{NoFile}
use Rattle.redn_parse.proofs.Placed.{placed}

-- ---- the first brace that opens too deep is one

-- none of those before it is one of these
abbrev First : (List Lexeme → Type 0) → List Lexeme → Type 0
First Full before = (earlier later : List Lexeme) (place : ℕ) → before ≡ earlier ++ Fixed OpenBrace place ∷ later → Full earlier → ⊥

first_same : (Full : List Lexeme → Type 0) (before before' behind behind' : List Lexeme) (at at' : ℕ) → before ++ Fixed OpenBrace at ∷ behind ≡ before' ++ Fixed OpenBrace at' ∷ behind' → Full before → Full before' → First Full before → First Full before' → at ≡ at'
first_same Full [] [] behind behind' at at' e full full' first first' = cc
first_same Full [] (y ∷ ys) behind behind' at at' e full full' first first' = let same : Fixed OpenBrace at ≡ y = cc in absurd (first' [] ys at (ap (λ x. x ∷ ys) (sym same)) full)
first_same Full (x ∷ xs) [] behind behind' at at' e full full' first first' = let same : x ≡ Fixed OpenBrace at' = cc in absurd (first [] xs at' (ap (λ y. y ∷ xs) same) full')
first_same Full (x ∷ xs) (y ∷ ys) behind behind' at at' e full full' first first' =
    let same : x ≡ y = cc in
    first_same (λ zs. Full (x ∷ zs)) xs ys behind behind' at at' (cc) full (subst (λ z. Full (z ∷ ys)) (sym same) full')
    (λ earlier later place e' f. first (x ∷ earlier) later place (ap (λ l. x ∷ l) e') f)
    (λ earlier later place e' f. first' (y ∷ earlier) later place (ap (λ l. y ∷ l) e') (subst (λ z. Full (z ∷ earlier)) same f))

pub opens_same : (n at at' : ℕ) (lexemes : List Lexeme) → OpensDeepFrom n lexemes at → OpensDeepFrom n lexemes at' → at ≡ at'
opens_same n at at' lexemes o o' = first_same (IsFull n) o.before o'.before o.behind o'.behind at at' (sym o.split ∙ o'.split) o.full o'.full o.first o'.first

-- ---- the reading of a whole file

pub tree_of : (text : List ℕ) (tokens : List Token) (f : File) (after : List Lexeme) → reads.file 64 f (lexemes_of text tokens) after → HasTreeWithin 64 text tokens f
tree_of text tokens f after h = subst (λ l. g.file_within SamePlace 64 f (lexemes_of text tokens) l) h.2.1 h.1

pub no_tree : (text : List ℕ) (tokens : List Token) (f : File) → NoFile (lexemes_of text tokens) → HasTree text tokens f → ⊥
no_tree text tokens f none (d, h) = none.rejects (d, f) [] ([], ([], h, (refl, refl)), refl)

pub same_tree : (text : List ℕ) (tokens : List Token) (f f' : File) → HasTreeWithin 64 text tokens f → HasTree text tokens f' → f ≡ f'
same_tree text tokens f f' h h' = one_tree text tokens f f' (64, h) h'

-- ---- a canonical text

-- its tokens have the tree, places aside
pub canonical_tree : (text : List ℕ) (tokens : List Token) (f : File) → Tokenizes text tokens → IsWritableWithin 64 f → text ≡ canonical_text f → (y : File) × HasTreeWithin 64 text tokens y × IsSameAside y f
canonical_tree text tokens f h writable e =
    let back = reads_back 64 f writable in
    let same = tokens_same 0 (canonical_text f) back.tokens tokens back.tokenized (subst (λ t. Tokenizes t tokens) e h) in
    let aside = back.tree 64 writable in
    let aside' : HasTreeAsideWithin 64 text tokens f = subst (λ t. HasTreeAsideWithin 64 t tokens f) (sym e) (subst (λ ts. HasTreeAsideWithin 64 (canonical_text f) ts f) same aside) in
    placed 64 f (lexemes_of text tokens) aside'
