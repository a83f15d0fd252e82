-- What this crate's functions read where some lexemes stand, or why they read nothing.
use Rattle.std.specs.Prelude.{◌≡◌, ◌≢◌, ℕ, suc, Bool, List, [], ◌∷◌, ◌++◌, take, Some, Result, MatchResult, if◌then◌else◌}
use Rattle.redn_syntax.specs.declared.token.TokenKind.{TokenKind}
use Rattle.redn_syntax.specs.declared.token.TokenKind.TheVariants as k
use Rattle.redn_syntax.specs.declared.tree.Name.{Name}
use Rattle.redn_syntax.specs.declared.tree.Num.{Num}
use Rattle.redn_syntax.specs.declared.tree.Operand.{Operand}
use Rattle.redn_syntax.specs.declared.tree.Item.{Item}
use Rattle.redn_syntax.specs.declared.tree.Chain.{Chain}
use Rattle.redn_syntax.specs.declared.tree.File.{File}
use Rattle.redn_syntax.specs.declared.tree.Stmt.{Stmt}
use Rattle.redn_syntax.specs.declared.tree.StmtKind.{StmtKind, out-StmtKind}
use Rattle.redn_syntax.specs.Lexemes.{Lexeme, Fixed}
use Rattle.redn_syntax.specs.Grammar as g
use Rattle.redn_syntax.specs.Grammar.{Phrase, ◌>>◌, SamePlace}
use Rattle.redn_parse.specs.declared.reader.Stop.{Stop}
use Rattle.redn_parse.specs.declared.reader.Stop.TheVariants.{Unexpected, Deep}
use Rattle.redn_parse.specs.Lookahead.{kind_at}
use Rattle.redn_parse.specs.Depth.{OpensDeepFrom}

-- ---- results

-- no such phrase stands here, whatever comes behind it
pub record HasNone {X : Type 0} (phrase : X → Phrase) (before : List Lexeme) : Type 0 where
  pub rejects : (x : X) (after : List Lexeme) → phrase x before after → ⊥

-- some such phrase begins with these
abbrev pub Begins : {X : Type 0} → (X → Phrase) → List Lexeme → Type 0
Begins {X} phrase front = (x : X) × (more : List Lexeme) × ((tail : List Lexeme) → phrase x (front ++ (more ++ tail)) tail)

-- How far the reading came: what stands before these last lexemes begins a phrase of the first sort. With
-- the next of them, whatever comes behind it, or with the end where none is left, none of the second
-- sort stands here.
pub record IsStuck {X Y : Type 0} (phrase : X → Phrase) (whole : Y → Phrase) (before after : List Lexeme) : Type 0 where
  pub front : List Lexeme
  pub split : before ≡ front ++ after
  pub begun : Begins phrase front
  pub rejects : (other : List Lexeme) → take 1 other ≡ take 1 after → HasNone whole (front ++ other)

-- The same where so many blocks may still be nested and so many braces are open: what was read begins a
-- phrase that is nested one block deeper at most, and no block opens too deep in it.
pub record IsStuckWithin {X Y : Type 0} (phrase : ℕ → X → Phrase) (whole : Y → Phrase) (room opened : ℕ) (before after : List Lexeme) : Type 0 where
  pub stuck : IsStuck (phrase (suc room)) whole before after
  pub calm : (at : ℕ) → OpensDeepFrom opened stuck.front at → ⊥

-- A block opens too deep at this place. What stands here up to its brace begins a phrase that is nested
-- one block deeper.
pub record IsBlocked {X : Type 0} (phrase : ℕ → X → Phrase) (room opened : ℕ) (before : List Lexeme) (at : ℕ) : Type 0 where
  pub opens : OpensDeepFrom opened before at
  pub front : List Lexeme
  pub behind : List Lexeme
  pub split : before ≡ front ++ Fixed k.OpenBrace at ∷ behind
  pub begun : Begins (phrase (suc room)) (front ++ Fixed k.OpenBrace at ∷ [])

-- why no such phrase was read: there is none, or a block opens too deep
pub record IsFault (IsNone : Type 0) (IsDeep : ℕ → Type 0) (stop : Stop) : Type 0 where
  pub none : stop ≡ Unexpected → IsNone
  pub deep : (at : ℕ) → stop ≡ Deep at → IsDeep at

-- a phrase without blocks
abbrev pub Reads : {T : Type 0} → (T → Phrase) → List Lexeme → List Lexeme → Result T Stop → Type 0
Reads phrase before after result = MatchResult result (λ x. phrase x before after) (IsFault (IsStuck phrase phrase before after) (λ at. ⊥))

-- A phrase in which so many blocks may still be nested, where so many braces are open. Where there is
-- none, at any depth, this must come behind it. It begins as the first of the two phrases does.
abbrev pub ReadsAs : {T : Type 0} → (ℕ → T → Phrase) → (ℕ → T → Phrase) → Phrase → ℕ → ℕ → List Lexeme → List Lexeme → Result T Stop → Type 0
ReadsAs {T} start phrase behind room opened before after result =
    MatchResult result (λ x. phrase room x before after)
    (IsFault (IsStuckWithin start (λ (p : ℕ × T). phrase p.0 p.1 >> behind) room opened before after) (IsBlocked start room opened before))

abbrev pub ReadsWithin : {T : Type 0} → (ℕ → T → Phrase) → Phrase → ℕ → ℕ → List Lexeme → List Lexeme → Result T Stop → Type 0
ReadsWithin phrase behind room opened before after result = ReadsAs phrase phrase behind room opened before after result

-- each such phrase that stands here with this behind it is this one
abbrev pub IsOnly : {T : Type 0} → (ℕ → T → Phrase) → Phrase → List Lexeme → List Lexeme → T → Type 0
IsOnly {T} phrase behind before after x =
    (depth : ℕ) (y : T) (other : List Lexeme) → (phrase depth y >> behind) before other → (y ≡ x) × (other ≡ after)

-- the same, and so wherever the next lexeme is of the same kind
pub record IsSole {T : Type 0} (phrase : ℕ → T → Phrase) (behind : Phrase) (before after : List Lexeme) (x : T) : Type 0 where
  pub front : List Lexeme
  pub split : before ≡ front ++ after
  pub only : (rest : List Lexeme) → kind_at 0 rest ≡ kind_at 0 after → IsOnly phrase behind (front ++ rest) rest x

-- ---- what may come behind a phrase

-- none of this kind
abbrev pub unless : TokenKind → Phrase
unless kind before after = (before ≡ after) × (kind_at 0 before ≢ Some kind)

-- one of this kind
abbrev pub next : TokenKind → Phrase
next kind before after = (before ≡ after) × (kind_at 0 before ≡ Some kind)

-- nothing
abbrev pub end : Phrase
end before after = (before ≡ after) × (before ≡ [])

-- ---- parts of phrases

-- a phrase, and this mark behind it
abbrev pub with_mark : {X : Type 0} → (X → Phrase) → TokenKind → X → Phrase
with_mark phrase kind x = phrase x >> g.mark kind

-- each phrase of a list, and none of this kind behind the last
abbrev pub all_before : {X : Type 0} → (X → Phrase) → TokenKind → List X → Phrase
all_before phrase kind xs = g.each phrase xs >> unless kind

-- a list of phrases, and none of this kind behind the last
abbrev pub ReadsAll : {X : Type 0} → (X → Phrase) → TokenKind → List Lexeme → List Lexeme → Result (List X) Stop → Type 0
ReadsAll phrase kind before after result =
    MatchResult result (λ xs. all_before phrase kind xs before after) (IsFault (IsStuck (g.each phrase) (all_before phrase kind) before after) (λ at. ⊥))

-- a place in a table
abbrev pub slot : (Name × Operand) → Phrase
slot place = g.slot SamePlace place.0 place.1

-- a comma where more come, and else the mark behind the last
abbrev pub more_or : TokenKind → Bool → Phrase
more_or kind more = g.mark (if more then k.Comma else kind)

abbrev pub word_and_more : (Num × Bool) → Phrase
word_and_more p = g.number SamePlace p.0 >> more_or k.CloseBrace p.1

abbrev pub item_and_more : (Item × Bool) → Phrase
item_and_more p = g.item SamePlace p.0 >> more_or k.CloseBrace p.1

abbrev pub value_and_more : (Operand × Bool) → Phrase
value_and_more p = g.value SamePlace p.0 >> more_or k.Semicolon p.1

-- the left side, whether it compares wide, and the right side
abbrev pub test : (Operand × Bool × Operand) → Phrase
test t = do
  g.value SamePlace t.0
  g.mark (g.test_mark t.1)
  g.value SamePlace t.2

abbrev pub key_and_bound : TokenKind → (Operand × Num) → Phrase
key_and_bound kind p = do
  g.value SamePlace p.0
  g.mark kind
  g.number SamePlace p.1
  g.mark k.Semicolon

-- ---- phrases with blocks

abbrev pub form : ℕ → StmtKind → Phrase
form room kind = g.form SamePlace (g.block_within SamePlace room) (out-StmtKind kind)

abbrev pub statement : ℕ → Stmt → Phrase
statement room s = g.statement SamePlace (g.block_within SamePlace room) s

abbrev pub otherwise : ℕ → List Stmt → Phrase
otherwise room body = g.otherwise SamePlace (g.block_within SamePlace room) body

abbrev pub statements : ℕ → List Stmt → Phrase
statements room body = g.each (statement room) body

-- the statements up to a closing brace
abbrev pub body : ℕ → List Stmt → Phrase
body room xs = statements room xs >> next k.CloseBrace

abbrev pub some_chains : ℕ → List Chain → Phrase
some_chains room cs = g.some (g.chain_within SamePlace room) cs

abbrev pub chains : ℕ → List Chain → Phrase
chains room cs = some_chains room cs >> end

abbrev pub file : ℕ → File → Phrase
file room f = g.file_within SamePlace room f >> end

-- a statement that has no block, so that it is the same at any depth
abbrev pub plain_form : StmtKind → Phrase
plain_form kind before after = (room : ℕ) → form room kind before after

abbrev pub ReadsForm : List Lexeme → List Lexeme → Result StmtKind Stop → Type 0
ReadsForm before after result =
    MatchResult result (λ kind. plain_form kind before after)
    (IsFault (IsStuck plain_form (λ (p : ℕ × StmtKind). form p.0 p.1) before after) (λ at. ⊥))
