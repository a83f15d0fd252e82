-- What readings and answers say, on concrete values.
use Rattle.std.proofs.Common.{arith, ◌≡◌, ◌+◌, ℕ, zero, suc, cond, List, [], ◌∷◌, ◌++◌, codes, count_by, take, sym, refl, ap, subst, ◌∙◌, Some, Ok, Err, None}
use Rattle.std.proofs.lemmas.List.Sums.{sum_by-append, sum_by-cons}
use Rattle.redn_syntax.specs.declared.token.Token.{Token}
use Rattle.redn_syntax.specs.declared.token.TokenKind.{TokenKind}
use Rattle.redn_syntax.specs.declared.token.TokenKind.TheVariants as k
use Rattle.redn_syntax.specs.declared.tree.Chain.{Chain}
use Rattle.redn_syntax.specs.declared.tree.File.{File}
use Rattle.redn_syntax.specs.declared.tree.Stmt.{Stmt}
use Rattle.redn_syntax.specs.declared.tree.StmtKind.TheVariants as s
use Rattle.redn_syntax.specs.declared.tree.StmtKind.TheOpen.{StmtKind-F}
use Rattle.redn_syntax.specs.Lexemes.{Lexeme, Fixed, Named, lexemes_of}
use Rattle.redn_syntax.specs.Grammar as g
use Rattle.redn_syntax.specs.Grammar.{◌>>◌, SamePlace, HasTree, IsViable}
use Rattle.redn_syntax.proofs.Worked.{name, least_text, least_tokens, least_viable, least_chain, least_tree, least_read, leave_text, leave_tokens, semicolon_first}
use Rattle.redn_parse.specs.Lookahead.{kind_at}
use Rattle.redn_parse.specs.Depth.{is_opening, OpensDeep}
use Rattle.redn_parse.specs.Reads.{Begins, IsStuck, IsStuckWithin, IsBlocked, IsFault, IsSole, ReadsAll, ReadsAs, ReadsForm, ReadsWithin, chains, plain_form, some_chains, statement, otherwise, unless}
use Rattle.redn_parse.specs.declared.reader.Stop.TheVariants.{Unexpected, Deep}
use Rattle.redn_parse.specs.Answers.{AreViable, IsUnexpected, IsTooDeep}
use Rattle.redn_parse.proofs.Samples as a
use Rattle.redn_parse.proofs.Passed.{alike_kind}
use Rattle.redn_parse.proofs.Braces.{opens_nowhere}
use Rattle.redn_parse.proofs.Blocks.{block_blocked}
use Rattle.redn_parse.proofs.Forms.{read_at}
use Rattle.redn_parse.proofs.Plain.{a_break}
use Rattle.redn_parse.proofs.Nested.{a_loop, left_out_sole}

-- ---- readings

-- `arg` begins an argument, and `;` doesn't
pub arg_begins : Begins (g.argument SamePlace) (Fixed k.Arg 3 ∷ [])
arg_begins = (a.a_name, a.name ∷ a.mark k.Semicolon ∷ [], λ tail. (_, (3, refl), (_, (0, refl, refl), (0, refl))))

pub semicolon_begins_none : Begins (g.argument SamePlace) (Fixed k.Semicolon 3 ∷ []) → ⊥
semicolon_begins_none h = cc ((h.2 []).1.1)

-- `arg ;` goes wrong at the second
pub no_name : IsStuck (g.argument SamePlace) (g.argument SamePlace) (Fixed k.Arg 3 ∷ Fixed k.Semicolon 7 ∷ []) (Fixed k.Semicolon 7 ∷ [])
no_name = record {
  front = Fixed k.Arg 3 ∷ [];
  split = refl;
  begun = arg_begins;
  rejects = λ other alike. record {
    rejects = λ n after d.
        let kind = alike_kind (Fixed k.Semicolon 7 ∷ []) other alike in
        let same : other ≡ d.0 = cc (d.1.1) in
        let named = ap (kind_at 0) (same ∙ d.2.1.2) in
        cc;
  };
}

-- where 65 are open
pub one_more : IsBlocked (g.block_within SamePlace) 0 65 (Fixed k.OpenBrace 3 ∷ []) 3
one_more = block_blocked (Fixed k.OpenBrace 3 ∷ []) 3 refl refl

-- no `else` where a brace closes
pub left_out : IsSole otherwise (unless k.Else) (Fixed k.CloseBrace 7 ∷ []) (Fixed k.CloseBrace 7 ∷ []) []
left_out = left_out_sole (Fixed k.CloseBrace 7 ∷ []) (λ e. cc)

-- why nothing was read: a stop of the one kind says nothing of the other
pub stopped_deep : (n : ℕ) → IsFault (n ≡ 2) (λ at. at ≡ 3) (Deep 3)
stopped_deep n = record { none = λ e. absurd (cc); deep = λ at e. let same : ◌≡◌ {A = ℕ} at 3 = cc in same }

pub stopped_early : (n : ℕ) → IsFault (n ≡ 2) (λ at. ⊥) Unexpected → n ≡ 2
stopped_early n h = h.none refl

-- a block that opens where 65 are open is read as such, whatever has to come behind it
pub blocked_read : (behind : g.Phrase) → ReadsWithin (g.block_within SamePlace) behind 0 65 (Fixed k.OpenBrace 3 ∷ []) [] (Err (Deep 3))
blocked_read behind = record { none = λ e. absurd (cc); deep = λ at e. let same : 3 ≡ at = cc in subst (IsBlocked (g.block_within SamePlace) 0 65 (Fixed k.OpenBrace 3 ∷ [])) same one_more }

-- and so as the beginning of a larger phrase
pub blocked_as : (behind : g.Phrase) → ReadsAs (g.block_within SamePlace) (g.block_within SamePlace) behind 0 65 (Fixed k.OpenBrace 3 ∷ []) [] (Err (Deep 3))
blocked_as behind = blocked_read behind

-- `arg ;` at whatever depth: no brace opens in what was read
pub no_name_within : IsStuckWithin (λ (room : ℕ). g.argument SamePlace) (g.argument SamePlace) 0 0 (Fixed k.Arg 3 ∷ Fixed k.Semicolon 7 ∷ []) (Fixed k.Semicolon 7 ∷ [])
unfolding no_name
no_name_within = record { stuck = no_name; calm = λ at o. no_brace at o.before o.behind o.split }
  where
    no_brace : (at : ℕ) (before behind : List Lexeme) → Fixed k.Arg 3 ∷ [] ≡ before ++ Fixed k.OpenBrace at ∷ behind → ⊥
    no_brace at [] behind e = cc
    no_brace at (x ∷ []) behind e = cc
    no_brace at (x ∷ y ∷ before) behind e = cc

-- no arguments before a brace that closes
pub no_arguments : ReadsAll (g.argument SamePlace) k.Arg (Fixed k.CloseBrace 7 ∷ []) (Fixed k.CloseBrace 7 ∷ []) (Ok [])
no_arguments = (Fixed k.CloseBrace 7 ∷ [], refl, (refl, λ e. cc))

-- `arg a;` and a brace: one argument
pub one_argument : ReadsAll (g.argument SamePlace) k.Arg (Fixed k.Arg 3 ∷ Named (codes "a") 7 ∷ Fixed k.Semicolon 8 ∷ Fixed k.CloseBrace 9 ∷ []) (Fixed k.CloseBrace 9 ∷ []) (Ok (name (codes "a") 7 ∷ []))
one_argument = (_, (_, (_, (3, refl), (_, (7, refl, refl), (8, refl))), refl), (refl, λ e. cc))

-- not the end of the list while another comes
pub another_argument : ReadsAll (g.argument SamePlace) k.Arg (Fixed k.Arg 3 ∷ []) (Fixed k.Arg 3 ∷ []) (Ok []) → ⊥
another_argument h = h.2.1 (ap (kind_at 0) (sym h.1))

-- ---- chains

abbrev pub empty_chain : ℕ → List ℕ → Chain
empty_chain at text = record { name = name text (at + 6); serve = None; args = []; vars = []; body = []; close = at + 8 }

abbrev pub its_lexemes : ℕ → List ℕ → List Lexeme
its_lexemes at text = Fixed k.Chain at ∷ Named text (at + 6) ∷ Fixed k.OpenBrace (at + 7) ∷ Fixed k.CloseBrace (at + 8) ∷ []

-- `chain c{}`, also where no block may be nested
pub chain_read : (room at : ℕ) (text : List ℕ) (after : List Lexeme) → g.chain_within SamePlace room (empty_chain at text) (its_lexemes at text ++ after) after
chain_read room at text after = (_, (at, refl), (_, (at + 6, refl, refl), (_, (at + 7, refl), (_, refl, (_, refl, (_, refl, (at + 8, refl, refl)))))))

pub chain_within : ReadsWithin (g.chain_within SamePlace) g.nothing 64 0 (its_lexemes 0 (codes "c")) [] (Ok (empty_chain 0 (codes "c")))
chain_within = chain_read 64 0 (codes "c") []

-- `chain c{}chain d{}`
abbrev pub two_lexemes : List Lexeme
two_lexemes = its_lexemes 0 (codes "c") ++ its_lexemes 9 (codes "d")

abbrev pub two_chains : List Chain
two_chains = empty_chain 0 (codes "c") ∷ empty_chain 9 (codes "d") ∷ []

pub two_are_some : some_chains 64 two_chains two_lexemes []
two_are_some = (_, chain_read 64 0 (codes "c") (its_lexemes 9 (codes "d")), (_, chain_read 64 9 (codes "d") [], refl))

pub least_is_some : some_chains 1 (least_chain ∷ []) (lexemes_of least_text least_tokens) []
least_is_some = subst (λ l. some_chains 1 (least_chain ∷ []) l []) (sym least_read.1) least_read.2

-- no chains aren't some
pub none_are_not_some : (room : ℕ) (before after : List Lexeme) → some_chains room [] before after → ⊥
none_are_not_some room before after h = h

pub two_read : ReadsAs some_chains chains g.nothing 64 0 two_lexemes [] (Ok two_chains)
two_read = (_, two_are_some, (refl, refl))

-- a chain is left
pub first_alone : ReadsAs some_chains chains g.nothing 64 0 two_lexemes (its_lexemes 9 (codes "d")) (Ok (empty_chain 0 (codes "c") ∷ [])) → ⊥
first_alone h = let left : its_lexemes 9 (codes "d") ≡ [] = sym h.2.0 ∙ h.2.1 in cc

-- `;` where chains should come
pub no_chain_within : IsStuckWithin some_chains (λ (p : ℕ × List Chain). chains p.0 p.1 >> g.nothing) 64 0 (Fixed k.Semicolon 0 ∷ []) (Fixed k.Semicolon 0 ∷ [])
no_chain_within = record {
  stuck = record {
    front = [];
    split = refl;
    begun = (empty_chain 0 (codes "c") ∷ [], its_lexemes 0 (codes "c"), λ tail. (_, chain_read 65 0 (codes "c") tail, refl));
    rejects = λ other alike. record { rejects = λ p after d. none p.0 p.1 other d.0 (alike_kind (Fixed k.Semicolon 0 ∷ []) other alike) d.1 };
  };
  calm = opens_nowhere 0;
}
  where
    none : (room : ℕ) (cs : List Chain) (other after : List Lexeme) → kind_at 0 other ≡ Some k.Semicolon → chains room cs other after → ⊥
    none room [] other after kind d = d.1
    none room (c ∷ cs) other after kind d = let first = ap (kind_at 0) d.1.1.1.1 in cc

pub no_chains_read : ReadsAs some_chains chains g.nothing 64 0 (Fixed k.Semicolon 0 ∷ []) (Fixed k.Semicolon 0 ∷ []) (Err Unexpected)
no_chains_read = record { none = λ e. no_chain_within; deep = λ at e. absurd (cc) }

-- ---- statements without blocks

-- `break ;` at whatever depth
pub leave_form : (after : List Lexeme) → plain_form s.Break (lexemes_of leave_text leave_tokens ++ after) after
leave_form after = a_break _ after (_, (0, refl), (6, refl))

pub leave_read : ReadsForm (lexemes_of leave_text leave_tokens) [] (Ok s.Break)
leave_read = leave_form []

-- a loop isn't one: where no block may be nested it has none
pub loop_is_not_plain : (body : List Stmt) (before after : List Lexeme) → plain_form (s.Loop body) before after → ⊥
unfolding g.form
loop_is_not_plain body before after h =
    let read : read_at 0 (StmtKind-F.Loop body) before after = subst (λ l. read_at 0 l before after) (s.outs-Loop body) (h 0) in
    read.2

-- ---- a token that isn't expected

abbrev pub token : TokenKind → ℕ → ℕ → Token
token kind at len = record { kind = kind; at = at; len = len; value = 0 }

-- `chain c {` goes on, and `;` doesn't
pub chain_viable : AreViable least_text (take 3 least_tokens)
chain_viable = least_viable

pub semicolon_not_viable : AreViable (codes ";") (token k.Semicolon 0 1 ∷ []) → ⊥
semicolon_not_viable = semicolon_first

pub semicolon_unexpected : IsUnexpected (codes ";") (token k.Semicolon 0 1 ∷ []) 0
semicolon_unexpected = record {
  none = λ f h. semicolon_first ([], f, h.0, h.1);
  within = omega arith;
  viable = (lexemes_of least_text least_tokens, least_tree, 1, least_read);
  last = λ h. semicolon_first;
  shallow = opens_nowhere 0;
}

-- not the end behind it
pub not_the_next : IsUnexpected (codes ";") (token k.Semicolon 0 1 ∷ []) 1 → ⊥
not_the_next h = semicolon_first h.viable

-- ---- a block too deep

-- `loop{` so often, from this place on
abbrev pub loops : ℕ → ℕ → List Token
loops zero at = []
loops (suc n) at = token k.Loop at 4 ∷ token k.OpenBrace (at + 4) 1 ∷ loops n (at + 5)

abbrev pub deep_tokens : List Token
deep_tokens = token k.Chain 0 5 ∷ token k.Name 6 1 ∷ token k.OpenBrace 7 1 ∷ loops 65 8

-- each round the next, and these behind them
abbrev pub around : ℕ → ℕ → List Lexeme → List Lexeme
around zero at tail = tail
around (suc n) at tail = Fixed k.Loop at ∷ Fixed k.OpenBrace (at + 4) ∷ around n (at + 5) (Fixed k.CloseBrace 0 ∷ tail)

abbrev pub nested : ℕ → ℕ → List Stmt
nested zero at = []
nested (suc n) at = record { at = at; kind = s.Loop (nested n (at + 5)) } ∷ []

nested_read : (n at : ℕ) (tail : List Lexeme) → g.each (statement n) (nested n at) (around n at tail) tail
nested_read zero at tail = refl
nested_read (suc n) at tail =
    let lexemes = around (suc n) at tail in
    let body = nested n (at + 5) in
    let block : g.block_within SamePlace (suc n) body (Fixed k.OpenBrace (at + 4) ∷ around n (at + 5) (Fixed k.CloseBrace 0 ∷ tail)) tail =
    (_, (at + 4, refl), (_, nested_read n (at + 5) (Fixed k.CloseBrace 0 ∷ tail), (0, refl))) in
    (_, (lexemes, (Fixed k.Loop at, _, refl, refl, refl), a_loop (suc n) body lexemes _ tail (at, refl) block), refl)

abbrev pub deep_tree : File
deep_tree = record { tables = []; chains = record { name = name (codes "c") 6; serve = None; args = []; vars = []; body = nested 65 8; close = 0 } ∷ [] }

-- up to the brace of the 65th
abbrev pub deep_front : List Lexeme
deep_front = lexemes_of (codes "chain c{") (token k.Chain 0 5 ∷ token k.Name 6 1 ∷ token k.OpenBrace 7 1 ∷ loops 64 8) ++ Fixed k.Loop 328 ∷ []

abbrev pub closing : ℕ → List Lexeme
closing zero = []
closing (suc n) = Fixed k.CloseBrace 0 ∷ closing n

abbrev pub deep_opens : OpensDeep (codes "chain c{") deep_tokens 332
deep_opens = record {
  before = deep_front;
  behind = [];
  split = refl;
  full = refl;
  first = λ earlier later place e full.
      let all : count_by is_opening (earlier ++ Fixed k.OpenBrace place ∷ later) ≡ 65 = sym (ap (count_by is_opening) e) in
      let parts = sum_by-append (λ x. cond (is_opening x) 1 0) earlier (Fixed k.OpenBrace place ∷ later) in
      let one = sum_by-cons (λ x. cond (is_opening x) 1 0) (Fixed k.OpenBrace place) later in
      omega (arith, all, parts, one, full);
}

-- `chain c{` and 65 times `loop{`: the last brace
pub the_last_loop : IsTooDeep (codes "chain c{") deep_tokens 332
the_last_loop = record {
  opens = deep_opens;
  viable = (closing 66, deep_tree, 65, (_, refl, (_, (_, (0, refl), (_, (6, refl, refl), (_, (7, refl), (_, refl, (_, refl, (_, nested_read 65 8 (Fixed k.CloseBrace 0 ∷ []), (0, refl, refl))))))), refl)));
}

-- no brace opens there
pub none_too_deep : IsTooDeep (codes ";") (token k.Semicolon 0 1 ∷ []) 0 → ⊥
none_too_deep h = none h.opens.before h.opens.behind h.opens.split
  where
    none : (before behind : List Lexeme) → Fixed k.Semicolon 0 ∷ [] ≡ before ++ Fixed k.OpenBrace 0 ∷ behind → ⊥
    none [] behind e = cc
    none (x ∷ []) behind e = cc
    none (x ∷ y ∷ before) behind e = cc
