-- What a tree that some text has holds besides the rules: a chain, and a word in each reply.
use Rattle.std.proofs.Common.{◌≡◌, ℕ, zero, suc, ◌≤◌, List, [], ◌∷◌, ◌++◌, length, refl, ◌∙◌, arith}
use Rattle.std.specs.List.{flat_map}
use Rattle.std.proofs.lemmas.List.Concat.{flat_map-append}
use Rattle.redn_syntax.specs.declared.tree.Chain.{Chain}
use Rattle.redn_syntax.specs.declared.tree.File.{File}
use Rattle.redn_syntax.specs.declared.tree.Stmt.{Stmt}
use Rattle.redn_syntax.specs.declared.tree.StmtKind.{StmtKind}
use Rattle.redn_syntax.specs.declared.tree.StmtKind.TheOpen.{StmtKind-F}
use Rattle.redn_syntax.specs.Lexemes.{Lexeme}
use Rattle.redn_syntax.specs.Grammar as g
use Rattle.redn_syntax.specs.Grammar.{Phrase, AnyPlace, block_within, chain_within, IsWritable}
use Rattle.redn_check.specs.Statements.{layer_of, inner, with_inner, each_of}
use Rattle.redn_check.proofs.Inner.{Each}
use Rattle.redn_check.proofs.Gathered.{in_body, in_statement, in_block, in_blocks}

-- something where a statement is a reply with no word, else nothing
abbrev pub no_word : {A B : Type 0} → StmtKind-F A B → List ℕ
no_word (StmtKind-F.Reply []) = 0 ∷ []
no_word _ = []

abbrev pub wordless : Stmt → List ℕ
wordless s = no_word (layer_of s)

module _ (block : List Stmt → Phrase) (worded : (body : List Stmt) (before after : List Lexeme) → block body before after → in_body wordless body ≡ []) where
  otherwise_words : (body : List Stmt) (before after : List Lexeme) → g.otherwise AnyPlace block body before after → in_body wordless body ≡ []
  otherwise_words [] before after h = refl
  otherwise_words (s ∷ body) before after h = worded (s ∷ body) _ _ h.2

  at_layer : (s : Stmt) (layer : StmtKind-F StmtKind Stmt) (before after : List Lexeme) → layer_of s ≡ layer → g.form AnyPlace block layer before after → wordless s ++ in_body wordless (inner layer) ≡ []
  unfolding g.form
  at_layer s (StmtKind-F.If wide left right met unmet) before after e h =
      (λ j. no_word (e j) ++ (in_blocks wordless met unmet ∙ (λ i. worded met _ _ h.2.2.2.2.1 i ++ otherwise_words unmet _ _ h.2.2.2.2.2 i)) j)
  at_layer s (StmtKind-F.Loop body) before after e h = λ j. no_word (e j) ++ (in_block wordless body ∙ worded body _ _ h.2) j
  at_layer s (StmtKind-F.Repeat count body) before after e h = λ j. no_word (e j) ++ (in_block wordless body ∙ worded body _ _ h.2.2) j
  at_layer s (StmtKind-F.Reply []) before after e h = absurd h.2.1
  at_layer s (StmtKind-F.Reply (w ∷ words)) before after e h = λ j. no_word (e j) ++ []
  at_layer s (StmtKind-F.Move to from) before after e h = λ j. no_word (e j) ++ []
  at_layer s (StmtKind-F.Add to by) before after e h = λ j. no_word (e j) ++ []
  at_layer s (StmtKind-F.Load to table offset) before after e h = λ j. no_word (e j) ++ []
  at_layer s (StmtKind-F.Store table offset from) before after e h = λ j. no_word (e j) ++ []
  at_layer s StmtKind-F.Break before after e h = λ j. no_word (e j) ++ []
  at_layer s (StmtKind-F.Lookup to table offset key probes) before after e h = λ j. no_word (e j) ++ []
  at_layer s (StmtKind-F.Walk to table offset key nodes) before after e h = λ j. no_word (e j) ++ []

  statement_words : (s : Stmt) (before after : List Lexeme) → g.statement AnyPlace block s before after → flat_map wordless (with_inner s) ≡ []
  statement_words s before after h = in_statement wordless s (layer_of s) refl ∙ at_layer s (layer_of s) _ _ refl h.2

  pub body_words : (body : List Stmt) (before after : List Lexeme) → g.each (g.statement AnyPlace block) body before after → in_body wordless body ≡ []
  body_words [] before after h = refl
  body_words (s ∷ body) before after h =
      flat_map-append wordless (with_inner s) (each_of body) ∙ (λ j. statement_words s _ _ h.1 j ++ body_words body _ _ h.2 j)

block_words : (depth : ℕ) (body : List Stmt) (before after : List Lexeme) → block_within AnyPlace depth body before after → in_body wordless body ≡ []
block_words zero body before after h = absurd h
block_words (suc depth) body before after h = body_words (block_within AnyPlace depth) (block_words depth) body _ _ h.2.1

-- each chain has a word in each of its replies
abbrev pub Worded : Chain → Type 0
Worded c = in_body wordless c.body ≡ []

chain_words : (depth : ℕ) (c : Chain) (before after : List Lexeme) → chain_within AnyPlace depth c before after → Worded c
chain_words depth c before after h = body_words (block_within AnyPlace depth) (block_words depth) c.body _ _ h.2.2.2.2.2.1

chains_words : (depth : ℕ) (chains : List Chain) (before after : List Lexeme) → g.each (chain_within AnyPlace depth) chains before after → Each Worded chains
chains_words depth [] before after h = tt
chains_words depth (c ∷ chains) before after h = (chain_words depth c _ _ h.1, chains_words depth chains _ _ h.2)

some_words : (depth : ℕ) (chains : List Chain) (before after : List Lexeme) → g.some (chain_within AnyPlace depth) chains before after → (1 ≤ length chains) × Each Worded chains
some_words depth [] before after h = absurd h
some_words depth (c ∷ chains) before after h = (omega arith, (chain_words depth c _ _ h.1, chains_words depth chains _ _ h.2))

pub writable_words : (f : File) → IsWritable f → (1 ≤ length f.chains) × Each Worded f.chains
writable_words f w = some_words w.0 f.chains _ _ w.1.3.2
