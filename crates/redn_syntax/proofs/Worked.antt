-- Each statement once: its text, its tokens, its tree and its canonical text.
use Rattle.std.proofs.Common.{arith, ◌≡◌, ℕ, true, false, inl, inr, List, [], ◌∷◌, ◌++◌, codes, refl, ap, subst, sym, ◌∙◌, Some, None, take, drop}
use Rattle.redn_syntax.specs.declared.token.Token.{Token}
use Rattle.redn_syntax.specs.declared.token.TokenKind.{TokenKind}
use Rattle.redn_syntax.specs.declared.token.TokenKind.TheVariants as k
use Rattle.redn_syntax.specs.declared.tree.Name.{Name}
use Rattle.redn_syntax.specs.declared.tree.Num.{Num}
use Rattle.redn_syntax.specs.declared.tree.Operand.TheVariants as operand
use Rattle.redn_syntax.specs.declared.tree.Table.{Table}
use Rattle.redn_syntax.specs.declared.tree.Chain.{Chain}
use Rattle.redn_syntax.specs.declared.tree.File.{File}
use Rattle.redn_syntax.specs.declared.tree.Stmt.{Stmt}
use Rattle.redn_syntax.specs.declared.tree.StmtKind.{StmtKind, out-StmtKind}
use Rattle.redn_syntax.specs.declared.tree.StmtKind.TheVariants as s
use Rattle.redn_syntax.specs.declared.tree.StmtKind.TheOpen.{StmtKind-F}
use Rattle.redn_syntax.specs.Tokens.{Tokenizes}
use Rattle.redn_syntax.specs.Lexemes.{Fixed, Lexeme, place_of, lexemes_of}
use Rattle.redn_syntax.specs.Grammar as g
use Rattle.redn_syntax.specs.Grammar.{Phrase, SamePlace, block_within, HasTreeWithin, IsWritable, IsViable, ◌>>◌}
use Rattle.redn_syntax.specs.Canonical as c
use Rattle.redn_syntax.specs.Canonical.{text_of, canonical_text}
use Rattle.redn_syntax.proofs.Shapes.{kind_in, kinds}
use Rattle.redn_syntax.proofs.Decided.{tokenizes_by}
use Rattle.redn_syntax.proofs.Lines.{statement_is}
use Rattle.redn_syntax.proofs.Aside.{writable}
use Rattle.std.specs.Fmt.{decimal}
use Rattle.std.proofs.lemmas.Fmt.{decimal_digit, decimal_step}

-- a token of this kind from this place on, of this many bytes
abbrev pub t : TokenKind → ℕ → ℕ → Token
t kind at len = record { kind = kind; at = at; len = len; value = 0 }

abbrev pub number_token : ℕ → ℕ → ℕ → Token
number_token at len value = record { kind = k.Number; at = at; len = len; value = value }

abbrev pub name : List ℕ → ℕ → Name
name text at = record { text = text; at = at }

abbrev pub number : ℕ → ℕ → Num
number value at = record { value = value; at = at }

abbrev pub stmt : ℕ → StmtKind → Stmt
stmt at kind = record { at = at; kind = kind }

-- a statement of this kind is read where its form is
reads : (depth : ℕ) (tree : Stmt) (kind : StmtKind) (layer : StmtKind-F StmtKind Stmt) (first : Lexeme) (rest after : List Lexeme) →
    tree.kind ≡ kind → out-StmtKind kind ≡ layer → tree.at ≡ place_of first → g.form SamePlace (block_within SamePlace depth) layer (first ∷ rest) after →
    g.statement SamePlace (block_within SamePlace depth) tree (first ∷ rest) after
reads depth tree kind layer first rest after e out place form = (
  first ∷ rest,
  (first, rest, refl, place, refl),
  subst (λ l. g.form SamePlace (block_within SamePlace depth) l (first ∷ rest) after) (sym out ∙ ap out-StmtKind (sym e)) form,
)

ten : decimal 10 ≡ codes "10"
ten = decimal_step 10 (omega arith) (omega arith) ∙ rw (decimal_digit 1 (omega arith)) refl

sixteen : decimal 16 ≡ codes "16"
sixteen = decimal_step 16 (omega arith) (omega arith) ∙ rw (decimal_digit 1 (omega arith)) refl

twenty_four : decimal 24 ≡ codes "24"
twenty_four = decimal_step 24 (omega arith) (omega arith) ∙ rw (decimal_digit 2 (omega arith)) refl

-- ---- a = b;

abbrev pub move_text : List ℕ
move_text = codes "a = b;"

abbrev pub move_tokens : List Token
move_tokens = t k.Name 0 1 ∷ t k.Equals 2 1 ∷ t k.Name 4 1 ∷ t k.Semicolon 5 1 ∷ []

pub move_tokenized : Tokenizes move_text move_tokens
unfolding kind_in kinds
move_tokenized = tokenizes_by move_text move_tokens refl

abbrev pub move_tree : Stmt
move_tree = stmt 0 (s.Move (name (codes "a") 0) (operand.Name (name (codes "b") 4)))

pub move_read : (after : List Lexeme) → g.statement SamePlace (block_within SamePlace 2) move_tree (lexemes_of move_text move_tokens ++ after) after
unfolding g.form
move_read after = reads 2 _ _ _ _ _ _ refl (s.outs-Move _ _) refl (_, (0, refl, refl), (_, (2, refl), (_, (4, refl, refl), (5, refl))))

pub move_printed : text_of (c.statement move_tree) ≡ codes "a = b ;\n"
unfolding c.form
move_printed = ap text_of (statement_is move_tree _ _ refl (s.outs-Move _ _))

-- ---- a += 0x0A;

abbrev pub add_text : List ℕ
add_text = codes "a += 0x0A;"

abbrev pub add_tokens : List Token
add_tokens = t k.Name 0 1 ∷ t k.PlusEquals 2 2 ∷ number_token 5 4 10 ∷ t k.Semicolon 9 1 ∷ []

pub add_tokenized : Tokenizes add_text add_tokens
unfolding kind_in kinds
add_tokenized = tokenizes_by add_text add_tokens refl

abbrev pub add_tree : Stmt
add_tree = stmt 0 (s.Add (name (codes "a") 0) (operand.Num (number 10 5)))

pub add_read : (after : List Lexeme) → g.statement SamePlace (block_within SamePlace 2) add_tree (lexemes_of add_text add_tokens ++ after) after
unfolding g.form
add_read after = reads 2 _ _ _ _ _ _ refl (s.outs-Add _ _) refl (_, (0, refl, refl), (_, (2, refl), (_, (5, refl, refl), (9, refl))))

pub add_printed : text_of (c.statement add_tree) ≡ codes "a += 10 ;\n"
unfolding c.form
add_printed = ap text_of (statement_is add_tree _ _ refl (s.outs-Add _ _)) ∙ rw (ten) refl

-- ---- a = t[b];

abbrev pub load_text : List ℕ
load_text = codes "a = t[b];"

abbrev pub load_tokens : List Token
load_tokens = t k.Name 0 1 ∷ t k.Equals 2 1 ∷ t k.Name 4 1 ∷ t k.OpenBracket 5 1 ∷ t k.Name 6 1 ∷ t k.CloseBracket 7 1 ∷ t k.Semicolon 8 1 ∷ []

pub load_tokenized : Tokenizes load_text load_tokens
unfolding kind_in kinds
load_tokenized = tokenizes_by load_text load_tokens refl

abbrev pub load_tree : Stmt
load_tree = stmt 0 (s.Load (name (codes "a") 0) (name (codes "t") 4) (operand.Name (name (codes "b") 6)))

pub load_read : (after : List Lexeme) → g.statement SamePlace (block_within SamePlace 2) load_tree (lexemes_of load_text load_tokens ++ after) after
unfolding g.form
load_read after = reads 2 _ _ _ _ _ _ refl (s.outs-Load _ _ _) refl (_, (0, refl, refl), (_, (2, refl), (_, (_, (4, refl, refl), (_, (5, refl), (_, (6, refl, refl), (7, refl)))), (8, refl))))

pub load_printed : text_of (c.statement load_tree) ≡ codes "a = t [ b ] ;\n"
unfolding c.form
load_printed = ap text_of (statement_is load_tree _ _ refl (s.outs-Load _ _ _))

-- ---- t[008] = a;

abbrev pub store_text : List ℕ
store_text = codes "t[008] = a;"

abbrev pub store_tokens : List Token
store_tokens = t k.Name 0 1 ∷ t k.OpenBracket 1 1 ∷ number_token 2 3 8 ∷ t k.CloseBracket 5 1 ∷ t k.Equals 7 1 ∷ t k.Name 9 1 ∷ t k.Semicolon 10 1 ∷ []

pub store_tokenized : Tokenizes store_text store_tokens
unfolding kind_in kinds
store_tokenized = tokenizes_by store_text store_tokens refl

abbrev pub store_tree : Stmt
store_tree = stmt 0 (s.Store (name (codes "t") 0) (operand.Num (number 8 2)) (operand.Name (name (codes "a") 9)))

pub store_read : (after : List Lexeme) → g.statement SamePlace (block_within SamePlace 2) store_tree (lexemes_of store_text store_tokens ++ after) after
unfolding g.form
store_read after = reads 2 _ _ _ _ _ _ refl (s.outs-Store _ _ _) refl (_, (_, (0, refl, refl), (_, (1, refl), (_, (2, refl, refl), (5, refl)))), (_, (7, refl), (_, (9, refl, refl), (10, refl))))

pub store_printed : text_of (c.statement store_tree) ≡ codes "t [ 8 ] = a ;\n"
unfolding c.form
store_printed = ap text_of (statement_is store_tree _ _ refl (s.outs-Store _ _ _)) ∙ rw (decimal_digit 8 (omega arith)) refl

-- ---- if a~1 { break; }

abbrev pub test_text : List ℕ
test_text = codes "if a~1 { break; }"

abbrev pub test_tokens : List Token
test_tokens = t k.If 0 2 ∷ t k.Name 3 1 ∷ t k.Tilde 4 1 ∷ number_token 5 1 1 ∷ t k.OpenBrace 7 1 ∷ t k.Break 9 5 ∷ t k.Semicolon 14 1 ∷ t k.CloseBrace 16 1 ∷ []

pub test_tokenized : Tokenizes test_text test_tokens
unfolding kind_in kinds
test_tokenized = tokenizes_by test_text test_tokens refl

abbrev pub test_tree : Stmt
test_tree = stmt 0 (s.If false (operand.Name (name (codes "a") 3)) (operand.Num (number 1 5)) ((stmt 9 s.Break) ∷ []) [])

pub test_read : (after : List Lexeme) → g.statement SamePlace (block_within SamePlace 2) test_tree (lexemes_of test_text test_tokens ++ after) after
unfolding g.form
test_read after = reads 2 _ _ _ _ _ _ refl (s.outs-If _ _ _ _ _) refl (_, (0, refl), (_, (3, refl, refl), (_, (4, refl), (_, (5, refl, refl), (_, (_, (7, refl), (_, (_, (reads 1 _ _ _ _ _ _ refl s.outs-Break refl (_, (9, refl), (14, refl))), refl), (16, refl))), inl refl)))))

pub test_printed : text_of (c.statement test_tree) ≡ codes "if a ~ 1 { break ; }\n"
unfolding c.form
test_printed = ap text_of (statement_is test_tree _ _ refl (s.outs-If _ _ _ _ _)) ∙ rw (statement_is (stmt 9 s.Break) _ _ refl s.outs-Break, decimal_digit 1 (omega arith)) refl

-- ---- if a == b {} else { break; }

abbrev pub test_else_text : List ℕ
test_else_text = codes "if a == b {} else { break; }"

abbrev pub test_else_tokens : List Token
test_else_tokens = t k.If 0 2 ∷ t k.Name 3 1 ∷ t k.DoubleEquals 5 2 ∷ t k.Name 8 1 ∷ t k.OpenBrace 10 1 ∷ t k.CloseBrace 11 1 ∷ t k.Else 13 4 ∷ t k.OpenBrace 18 1 ∷ t k.Break 20 5 ∷ t k.Semicolon 25 1 ∷ t k.CloseBrace 27 1 ∷ []

pub test_else_tokenized : Tokenizes test_else_text test_else_tokens
unfolding kind_in kinds
test_else_tokenized = tokenizes_by test_else_text test_else_tokens refl

abbrev pub test_else_tree : Stmt
test_else_tree = stmt 0 (s.If true (operand.Name (name (codes "a") 3)) (operand.Name (name (codes "b") 8)) [] ((stmt 20 s.Break) ∷ []))

pub test_else_read : (after : List Lexeme) → g.statement SamePlace (block_within SamePlace 2) test_else_tree (lexemes_of test_else_text test_else_tokens ++ after) after
unfolding g.form
test_else_read after = reads 2 _ _ _ _ _ _ refl (s.outs-If _ _ _ _ _) refl (_, (0, refl), (_, (3, refl, refl), (_, (5, refl), (_, (8, refl, refl), (_, (_, (10, refl), (_, refl, (11, refl))), (_, (13, refl), (_, (18, refl), (_, (_, (reads 1 _ _ _ _ _ _ refl s.outs-Break refl (_, (20, refl), (25, refl))), refl), (27, refl)))))))))

pub test_else_printed : text_of (c.statement test_else_tree) ≡ codes "if a == b { } else { break ; }\n"
unfolding c.form
test_else_printed = ap text_of (statement_is test_else_tree _ _ refl (s.outs-If _ _ _ _ _)) ∙ rw (statement_is (stmt 20 s.Break) _ _ refl s.outs-Break) refl

-- ---- if 0 == 1 { } else { }

abbrev pub test_empty_text : List ℕ
test_empty_text = codes "if 0 == 1 { } else { }"

abbrev pub test_empty_tokens : List Token
test_empty_tokens = t k.If 0 2 ∷ number_token 3 1 0 ∷ t k.DoubleEquals 5 2 ∷ number_token 8 1 1 ∷ t k.OpenBrace 10 1 ∷ t k.CloseBrace 12 1 ∷ t k.Else 14 4 ∷ t k.OpenBrace 19 1 ∷ t k.CloseBrace 21 1 ∷ []

pub test_empty_tokenized : Tokenizes test_empty_text test_empty_tokens
unfolding kind_in kinds
test_empty_tokenized = tokenizes_by test_empty_text test_empty_tokens refl

abbrev pub test_empty_tree : Stmt
test_empty_tree = stmt 0 (s.If true (operand.Num (number 0 3)) (operand.Num (number 1 8)) [] [])

pub test_empty_read : (after : List Lexeme) → g.statement SamePlace (block_within SamePlace 2) test_empty_tree (lexemes_of test_empty_text test_empty_tokens ++ after) after
unfolding g.form
test_empty_read after = reads 2 _ _ _ _ _ _ refl (s.outs-If _ _ _ _ _) refl (_, (0, refl), (_, (3, refl, refl), (_, (5, refl), (_, (8, refl, refl), (_, (_, (10, refl), (_, refl, (12, refl))), inr (_, (14, refl), (_, (19, refl), (_, refl, (21, refl)))))))))

pub test_empty_printed : text_of (c.statement test_empty_tree) ≡ codes "if 0 == 1 { }\n"
unfolding c.form
test_empty_printed = ap text_of (statement_is test_empty_tree _ _ refl (s.outs-If _ _ _ _ _)) ∙ rw (decimal_digit 0 (omega arith), decimal_digit 1 (omega arith)) refl

-- ---- loop{ }

abbrev pub endless_text : List ℕ
endless_text = codes "loop{ }"

abbrev pub endless_tokens : List Token
endless_tokens = t k.Loop 0 4 ∷ t k.OpenBrace 4 1 ∷ t k.CloseBrace 6 1 ∷ []

pub endless_tokenized : Tokenizes endless_text endless_tokens
unfolding kind_in kinds
endless_tokenized = tokenizes_by endless_text endless_tokens refl

abbrev pub endless_tree : Stmt
endless_tree = stmt 0 (s.Loop [])

pub endless_read : (after : List Lexeme) → g.statement SamePlace (block_within SamePlace 2) endless_tree (lexemes_of endless_text endless_tokens ++ after) after
unfolding g.form
endless_read after = reads 2 _ _ _ _ _ _ refl (s.outs-Loop _) refl (_, (0, refl), (_, (4, refl), (_, refl, (6, refl))))

pub endless_printed : text_of (c.statement endless_tree) ≡ codes "loop { }\n"
unfolding c.form
endless_printed = ap text_of (statement_is endless_tree _ _ refl (s.outs-Loop _))

-- ---- repeat 3 { a = b; }

abbrev pub again_text : List ℕ
again_text = codes "repeat 3 { a = b; }"

abbrev pub again_tokens : List Token
again_tokens = t k.Repeat 0 6 ∷ number_token 7 1 3 ∷ t k.OpenBrace 9 1 ∷ t k.Name 11 1 ∷ t k.Equals 13 1 ∷ t k.Name 15 1 ∷ t k.Semicolon 16 1 ∷ t k.CloseBrace 18 1 ∷ []

pub again_tokenized : Tokenizes again_text again_tokens
unfolding kind_in kinds
again_tokenized = tokenizes_by again_text again_tokens refl

abbrev pub again_tree : Stmt
again_tree = stmt 0 (s.Repeat (number 3 7) ((stmt 11 (s.Move (name (codes "a") 11) (operand.Name (name (codes "b") 15)))) ∷ []))

pub again_read : (after : List Lexeme) → g.statement SamePlace (block_within SamePlace 2) again_tree (lexemes_of again_text again_tokens ++ after) after
unfolding g.form
again_read after = reads 2 _ _ _ _ _ _ refl (s.outs-Repeat _ _) refl (_, (0, refl), (_, (7, refl, refl), (_, (9, refl), (_, (_, (reads 1 _ _ _ _ _ _ refl (s.outs-Move _ _) refl (_, (11, refl, refl), (_, (13, refl), (_, (15, refl, refl), (16, refl))))), refl), (18, refl)))))

pub again_printed : text_of (c.statement again_tree) ≡ codes "repeat 3 { a = b ; }\n"
unfolding c.form
again_printed = ap text_of (statement_is again_tree _ _ refl (s.outs-Repeat _ _)) ∙ rw (statement_is (stmt 11 (s.Move (name (codes "a") 11) (operand.Name (name (codes "b") 15)))) _ _ refl (s.outs-Move _ _), decimal_digit 3 (omega arith)) refl

-- ---- break ;

abbrev pub leave_text : List ℕ
leave_text = codes "break ;"

abbrev pub leave_tokens : List Token
leave_tokens = t k.Break 0 5 ∷ t k.Semicolon 6 1 ∷ []

pub leave_tokenized : Tokenizes leave_text leave_tokens
unfolding kind_in kinds
leave_tokenized = tokenizes_by leave_text leave_tokens refl

abbrev pub leave_tree : Stmt
leave_tree = stmt 0 s.Break

pub leave_read : (after : List Lexeme) → g.statement SamePlace (block_within SamePlace 2) leave_tree (lexemes_of leave_text leave_tokens ++ after) after
unfolding g.form
leave_read after = reads 2 _ _ _ _ _ _ refl s.outs-Break refl (_, (0, refl), (6, refl))

pub leave_printed : text_of (c.statement leave_tree) ≡ codes "break ;\n"
unfolding c.form
leave_printed = ap text_of (statement_is leave_tree _ _ refl s.outs-Break)

-- ---- lookup v = t[0] key k probes 8;

abbrev pub lookup_text : List ℕ
lookup_text = codes "lookup v = t[0] key k probes 8;"

abbrev pub lookup_tokens : List Token
lookup_tokens = t k.Lookup 0 6 ∷ t k.Name 7 1 ∷ t k.Equals 9 1 ∷ t k.Name 11 1 ∷ t k.OpenBracket 12 1 ∷ number_token 13 1 0 ∷ t k.CloseBracket 14 1 ∷ t k.Key 16 3 ∷ t k.Name 20 1 ∷ t k.Probes 22 6 ∷ number_token 29 1 8 ∷ t k.Semicolon 30 1 ∷ []

pub lookup_tokenized : Tokenizes lookup_text lookup_tokens
unfolding kind_in kinds
lookup_tokenized = tokenizes_by lookup_text lookup_tokens refl

abbrev pub lookup_tree : Stmt
lookup_tree = stmt 0 (s.Lookup (name (codes "v") 7) (name (codes "t") 11) (operand.Num (number 0 13)) (operand.Name (name (codes "k") 20)) (number 8 29))

pub lookup_read : (after : List Lexeme) → g.statement SamePlace (block_within SamePlace 2) lookup_tree (lexemes_of lookup_text lookup_tokens ++ after) after
unfolding g.form
lookup_read after = reads 2 _ _ _ _ _ _ refl (s.outs-Lookup _ _ _ _ _) refl (_, (0, refl), (_, (7, refl, refl), (_, (9, refl), (_, (_, (11, refl, refl), (_, (12, refl), (_, (13, refl, refl), (14, refl)))), (_, (16, refl), (_, (20, refl, refl), (_, (22, refl), (_, (29, refl, refl), (30, refl)))))))))

pub lookup_printed : text_of (c.statement lookup_tree) ≡ codes "lookup v = t [ 0 ] key k probes 8 ;\n"
unfolding c.form
lookup_printed = ap text_of (statement_is lookup_tree _ _ refl (s.outs-Lookup _ _ _ _ _)) ∙ rw (decimal_digit 0 (omega arith), decimal_digit 8 (omega arith)) refl

-- ---- walk v = t[h] key 5 nodes 0x10;

abbrev pub walk_text : List ℕ
walk_text = codes "walk v = t[h] key 5 nodes 0x10;"

abbrev pub walk_tokens : List Token
walk_tokens = t k.Walk 0 4 ∷ t k.Name 5 1 ∷ t k.Equals 7 1 ∷ t k.Name 9 1 ∷ t k.OpenBracket 10 1 ∷ t k.Name 11 1 ∷ t k.CloseBracket 12 1 ∷ t k.Key 14 3 ∷ number_token 18 1 5 ∷ t k.Nodes 20 5 ∷ number_token 26 4 16 ∷ t k.Semicolon 30 1 ∷ []

pub walk_tokenized : Tokenizes walk_text walk_tokens
unfolding kind_in kinds
walk_tokenized = tokenizes_by walk_text walk_tokens refl

abbrev pub walk_tree : Stmt
walk_tree = stmt 0 (s.Walk (name (codes "v") 5) (name (codes "t") 9) (operand.Name (name (codes "h") 11)) (operand.Num (number 5 18)) (number 16 26))

pub walk_read : (after : List Lexeme) → g.statement SamePlace (block_within SamePlace 2) walk_tree (lexemes_of walk_text walk_tokens ++ after) after
unfolding g.form
walk_read after = reads 2 _ _ _ _ _ _ refl (s.outs-Walk _ _ _ _ _) refl (_, (0, refl), (_, (5, refl, refl), (_, (7, refl), (_, (_, (9, refl, refl), (_, (10, refl), (_, (11, refl, refl), (12, refl)))), (_, (14, refl), (_, (18, refl, refl), (_, (20, refl), (_, (26, refl, refl), (30, refl)))))))))

pub walk_printed : text_of (c.statement walk_tree) ≡ codes "walk v = t [ h ] key 5 nodes 16 ;\n"
unfolding c.form
walk_printed = ap text_of (statement_is walk_tree _ _ refl (s.outs-Walk _ _ _ _ _)) ∙ rw (decimal_digit 5 (omega arith), sixteen) refl

-- ---- reply a,1 , b;

abbrev pub reply_text : List ℕ
reply_text = codes "reply a,1 , b;"

abbrev pub reply_tokens : List Token
reply_tokens = t k.Reply 0 5 ∷ t k.Name 6 1 ∷ t k.Comma 7 1 ∷ number_token 8 1 1 ∷ t k.Comma 10 1 ∷ t k.Name 12 1 ∷ t k.Semicolon 13 1 ∷ []

pub reply_tokenized : Tokenizes reply_text reply_tokens
unfolding kind_in kinds
reply_tokenized = tokenizes_by reply_text reply_tokens refl

abbrev pub reply_tree : Stmt
reply_tree = stmt 0 (s.Reply ((operand.Name (name (codes "a") 6)) ∷ (operand.Num (number 1 8)) ∷ (operand.Name (name (codes "b") 12)) ∷ []))

pub reply_read : (after : List Lexeme) → g.statement SamePlace (block_within SamePlace 2) reply_tree (lexemes_of reply_text reply_tokens ++ after) after
unfolding g.form
reply_read after = reads 2 _ _ _ _ _ _ refl (s.outs-Reply _) refl (_, (0, refl), (_, (_, (6, refl, refl), (_, (_, (7, refl), (8, refl, refl)), (_, (_, (10, refl), (12, refl, refl)), refl))), (13, refl)))

pub reply_printed : text_of (c.statement reply_tree) ≡ codes "reply a , 1 , b ;\n"
unfolding c.form
reply_printed = ap text_of (statement_is reply_tree _ _ refl (s.outs-Reply _)) ∙ rw (decimal_digit 1 (omega arith)) refl

-- ---- a file

abbrev pub file_text : List ℕ
file_text = codes "table t[24] ro = { 8: 1, 5 }; chain c { arg a; var v = 3; var w; reply v; }"

abbrev pub file_tokens : List Token
file_tokens = t k.Table 0 5 ∷ t k.Name 6 1 ∷ t k.OpenBracket 7 1 ∷ number_token 8 2 24 ∷ t k.CloseBracket 10 1 ∷ t k.Ro 12 2 ∷ t k.Equals 15 1 ∷ t k.OpenBrace 17 1 ∷ number_token 19 1 8 ∷ t k.Colon 20 1 ∷ number_token 22 1 1 ∷ t k.Comma 23 1 ∷ number_token 25 1 5 ∷ t k.CloseBrace 27 1 ∷ t k.Semicolon 28 1 ∷ t k.Chain 30 5 ∷ t k.Name 36 1 ∷ t k.OpenBrace 38 1 ∷ t k.Arg 40 3 ∷ t k.Name 44 1 ∷ t k.Semicolon 45 1 ∷ t k.Var 47 3 ∷ t k.Name 51 1 ∷ t k.Equals 53 1 ∷ number_token 55 1 3 ∷ t k.Semicolon 56 1 ∷ t k.Var 58 3 ∷ t k.Name 62 1 ∷ t k.Semicolon 63 1 ∷ t k.Reply 65 5 ∷ t k.Name 71 1 ∷ t k.Semicolon 72 1 ∷ t k.CloseBrace 74 1 ∷ []

pub file_tokenized : Tokenizes file_text file_tokens
unfolding kind_in kinds
file_tokenized = tokenizes_by file_text file_tokens refl

abbrev pub file_table : Table
file_table = record { name = name (codes "t") 6; length = number 24 8; writable = false; items = record { at = Some (number 8 19); word = number 1 22 } ∷ record { at = None; word = number 5 25 } ∷ [] }

abbrev pub file_chain : Chain
file_chain = record { name = name (codes "c") 36; serve = None; args = (name (codes "a") 44) ∷ []; vars = record { name = name (codes "v") 51; first = Some (number 3 55) } ∷ record { name = name (codes "w") 62; first = None } ∷ []; body = (stmt 65 (s.Reply ((operand.Name (name (codes "v") 71)) ∷ []))) ∷ []; close = 74 }

abbrev pub file_tree : File
file_tree = record { tables = file_table ∷ []; chains = file_chain ∷ [] }

pub file_read : HasTreeWithin 1 file_text file_tokens file_tree
unfolding g.form
file_read = (_, (_, (_, (0, refl), (_, (6, refl, refl), (_, (7, refl), (_, (8, refl, refl), (_, (10, refl), (_, (12, refl), (_, (_, (15, refl), (_, (17, refl), (_, (_, (_, (_, (19, refl, refl), (20, refl)), (22, refl, refl)), (_, (_, (23, refl), (_, refl, (25, refl, refl))), refl)), (27, refl)))), (28, refl)))))))), refl), (_, (_, (30, refl), (_, (36, refl, refl), (_, (38, refl), (_, (_, (_, (40, refl), (_, (44, refl, refl), (45, refl))), refl), (_, (_, (_, (47, refl), (_, (51, refl, refl), (_, (_, (53, refl), (55, refl, refl)), (56, refl)))), (_, (_, (58, refl), (_, (62, refl, refl), (_, refl, (63, refl)))), refl)), (_, (_, (reads 1 _ _ _ _ _ _ refl (s.outs-Reply _) refl (_, (65, refl), (_, (_, (71, refl, refl), refl), (72, refl)))), refl), (74, refl, refl))))))), refl))

pub file_printed : canonical_text file_tree ≡ codes "table t [ 24 ] ro = { 8 : 1 , 5 } ; chain c { arg a ; var v = 3 ; var w ; reply v ; }\n"
unfolding c.form
file_printed = rw (statement_is (stmt 65 (s.Reply ((operand.Name (name (codes "v") 71)) ∷ []))) _ _ refl (s.outs-Reply _), twenty_four, decimal_digit 8 (omega arith), decimal_digit 1 (omega arith), decimal_digit 5 (omega arith), decimal_digit 3 (omega arith)) refl

-- ---- a file of one statement

abbrev pub least_text : List ℕ
least_text = codes "chain c{reply 5;}"

abbrev pub least_tokens : List Token
least_tokens = t k.Chain 0 5 ∷ t k.Name 6 1 ∷ t k.OpenBrace 7 1 ∷ t k.Reply 8 5 ∷ number_token 14 1 5 ∷ t k.Semicolon 15 1 ∷ t k.CloseBrace 16 1 ∷ []

pub least_tokenized : Tokenizes least_text least_tokens
unfolding kind_in kinds
least_tokenized = tokenizes_by least_text least_tokens refl

abbrev pub least_chain : Chain
least_chain = record { name = name (codes "c") 6; serve = None; args = []; vars = []; body = (stmt 8 (s.Reply ((operand.Num (number 5 14)) ∷ []))) ∷ []; close = 16 }

abbrev pub least_tree : File
least_tree = record { tables = []; chains = least_chain ∷ [] }

pub least_read : HasTreeWithin 1 least_text least_tokens least_tree
unfolding g.form
least_read = (_, refl, (_, (_, (0, refl), (_, (6, refl, refl), (_, (7, refl), (_, refl, (_, refl, (_, (_, (reads 1 _ _ _ _ _ _ refl (s.outs-Reply _) refl (_, (8, refl), (_, (_, (14, refl, refl), refl), (15, refl)))), refl), (16, refl, refl))))))), refl))

pub least_printed : canonical_text least_tree ≡ codes "chain c { reply 5 ; }\n"
unfolding c.form
least_printed = rw (statement_is (stmt 8 (s.Reply ((operand.Num (number 5 14)) ∷ []))) _ _ refl (s.outs-Reply _), decimal_digit 5 (omega arith)) refl

-- ---- a chain that serves three messages

abbrev pub serving_text : List ℕ
serving_text = codes "chain c serve 3{reply 5;}"

abbrev pub serving_tokens : List Token
serving_tokens = t k.Chain 0 5 ∷ t k.Name 6 1 ∷ t k.Serve 8 5 ∷ number_token 14 1 3 ∷ t k.OpenBrace 15 1 ∷ t k.Reply 16 5 ∷ number_token 22 1 5 ∷ t k.Semicolon 23 1 ∷ t k.CloseBrace 24 1 ∷ []

pub serving_tokenized : Tokenizes serving_text serving_tokens
unfolding kind_in kinds
serving_tokenized = tokenizes_by serving_text serving_tokens refl

abbrev pub serving_chain : Chain
serving_chain = record { name = name (codes "c") 6; serve = Some (number 3 14); args = []; vars = []; body = (stmt 16 (s.Reply ((operand.Num (number 5 22)) ∷ []))) ∷ []; close = 24 }

abbrev pub serving_tree : File
serving_tree = record { tables = []; chains = serving_chain ∷ [] }

pub serving_read : HasTreeWithin 1 serving_text serving_tokens serving_tree
unfolding g.form
serving_read =
    (_, refl, (_, (_, (0, refl), (_, (6, refl, refl), (_, (_, (8, refl), (_, (14, refl, refl), (15, refl))), (_, refl, (_, refl, (_, (_, (reads 1 _ _ _ _ _ _ refl (s.outs-Reply _) refl (_, (16, refl), (_, (_, (22, refl, refl), refl), (23, refl)))), refl), (24, refl, refl))))))), refl))

pub serving_printed : canonical_text serving_tree ≡ codes "chain c serve 3 { reply 5 ; }\n"
unfolding c.form
serving_printed = rw (statement_is (stmt 16 (s.Reply ((operand.Num (number 5 22)) ∷ []))) _ _ refl (s.outs-Reply _), decimal_digit 5 (omega arith), decimal_digit 3 (omega arith)) refl

pub least_writable : (f : File) → f ≡ least_tree → IsWritable f
least_writable f e = writable least_text least_tokens f least_tokenized (1, subst (λ f. HasTreeWithin 1 least_text least_tokens f) (sym e) least_read)

-- a file can go on behind the first brace of that one
pub least_viable : IsViable (lexemes_of least_text (take 3 least_tokens))
least_viable = (lexemes_of least_text (drop 3 least_tokens), least_tree, 1, least_read)

-- no file begins with a semicolon
pub semicolon_first : IsViable (Fixed k.Semicolon 0 ∷ []) → ⊥
semicolon_first (more, f, depth, read) = none f.tables f.chains read
  where
    none : (tables : List Table) (chains : List Chain) → (g.each (g.table SamePlace) tables >> g.some (g.chain_within SamePlace depth) chains) (Fixed k.Semicolon 0 ∷ more) [] → ⊥
    none [] [] (between, same, never) = never
    none [] (first ∷ chains) (between, same, (after, chain, others)) =
        let wrong : Fixed k.Semicolon 0 ∷ more ≡ Fixed k.Chain chain.1.0 ∷ chain.0 = same ∙ chain.1.1 in
        cc wrong
    none (first ∷ tables) chains (between, (after, table, others), rest) =
        let wrong : Fixed k.Semicolon 0 ∷ more ≡ Fixed k.Table table.1.0 ∷ table.0 = table.1.1 in
        cc wrong
