-- Each definition once on concrete values.
use Rattle.std.proofs.Common.{arith, ◌≡◌, ◌+◌, ℕ, zero, suc, inl, inr, true, cond, Err, List, [], ◌∷◌, ◌++◌, Some, None, codes, count_by, slice_index, drop, sym, refl, ap, ◌∙◌}
use Rattle.std.proofs.lemmas.List.Sums.{sum_by-append, sum_by-cons}
use Rattle.redn_syntax.specs.declared.token.TokenKind.TheVariants as k
use Rattle.redn_syntax.specs.declared.tree.Operand.TheVariants as operand
use Rattle.redn_syntax.specs.declared.tree.Chain.{Chain}
use Rattle.redn_syntax.specs.declared.tree.File.{File}
use Rattle.redn_syntax.specs.declared.tree.Stmt.{Stmt}
use Rattle.redn_syntax.specs.declared.tree.StmtKind.TheVariants as s
use Rattle.redn_syntax.specs.Lexemes.{Lexeme, Fixed, Numbered, lexemes_of}
use Rattle.redn_syntax.specs.Grammar as g
use Rattle.redn_syntax.specs.Grammar.{SamePlace}
use Rattle.redn_syntax.proofs.Worked.{name, number, stmt, least_text, least_tokens, least_tree, least_chain, move_text, move_tokens, store_text, store_tokens}
use Rattle.redn_parse.specs.declared.fault.ParseFault.{ParseFault}
use Rattle.redn_parse.specs.declared.fault.ParseFault.TheVariants.{Unexpected, Deep, Memory}
use Rattle.redn_parse.specs.Lookahead.{kind_at, next_place, IsSlot}
use Rattle.redn_parse.specs.Depth.{is_opening, IsFull, OpensDeepFrom}
use Rattle.redn_parse.specs.Reads.{HasNone, item_and_more, unless, next, end}
use Rattle.redn_parse.specs.Answers.{Gives, FailsWith}
use Rattle.redn_parse.specs.Places as p
use Rattle.redn_parse.proofs.Braces as braces
use Rattle.redn_parse.proofs.Placed.{statement_out, kind_is}

-- ---- what comes next

pub first_kind : kind_at 0 (lexemes_of least_text least_tokens) ≡ Some k.Chain
first_kind = refl

pub fourth_kind : kind_at 3 (lexemes_of least_text least_tokens) ≡ Some k.Reply
fourth_kind = refl

pub behind_the_last : kind_at 7 (lexemes_of least_text least_tokens) ≡ None
behind_the_last = refl

pub place_of_the_fourth : next_place (drop 3 (lexemes_of least_text least_tokens)) ≡ 8
place_of_the_fourth = refl

-- `t[008] = a;` begins with a place in a table, and `a = b;` doesn't
pub store_begins : IsSlot (lexemes_of store_text store_tokens)
store_begins = (refl, refl)

pub move_begins : IsSlot (lexemes_of move_text move_tokens) → ⊥
move_begins h = cc (h.1)

-- ---- what may come behind a phrase

pub no_else : unless k.Else (Fixed k.CloseBrace 7 ∷ []) (Fixed k.CloseBrace 7 ∷ [])
no_else = (refl, λ e. cc)

pub an_else : unless k.Else (Fixed k.Else 7 ∷ []) (Fixed k.Else 7 ∷ []) → ⊥
an_else h = h.1 refl

pub a_brace_next : next k.CloseBrace (Fixed k.CloseBrace 7 ∷ []) (Fixed k.CloseBrace 7 ∷ [])
a_brace_next = (refl, refl)

pub not_the_end : end (Fixed k.CloseBrace 7 ∷ []) (Fixed k.CloseBrace 7 ∷ []) → ⊥
not_the_end h = cc (h.1)

-- `8: 1,`
pub offset_item : (after : List Lexeme) → item_and_more (record { at = Some (number 8 0); word = number 1 3 }, true) (Numbered 8 0 ∷ Fixed k.Colon 1 ∷ Numbered 1 3 ∷ Fixed k.Comma 4 ∷ after) after
offset_item after = (_, (_, (_, (0, refl, refl), (1, refl)), (3, refl, refl)), (4, refl))

-- `var` begins no argument
pub no_argument : (after : List Lexeme) → HasNone (g.argument SamePlace) (Fixed k.Var 5 ∷ after)
no_argument after = record { rejects = λ n rest d. cc (d.1.1) }

-- ---- how deep blocks are nested

-- so many braces that open, one at each byte from this one on
abbrev pub opening : ℕ → ℕ → List Lexeme
opening zero at = []
opening (suc count) at = Fixed k.OpenBrace at ∷ opening count (at + 1)

pub sixty_five_are_full : IsFull 0 (opening 65 10)
sixty_five_are_full = refl

pub sixty_four_are_not : IsFull 0 (opening 64 10) → ⊥
sixty_four_are_not h = omega (arith, h)

-- of 70 the 66th is the first that opens a block too deep: the first opens the chain
pub the_sixty_sixth : OpensDeepFrom 0 (opening 70 10) 75
the_sixty_sixth = record {
  before = opening 65 10;
  behind = opening 4 76;
  split = refl;
  full = refl;
  first = λ earlier later place e full.
      let all : count_by is_opening (earlier ++ Fixed k.OpenBrace place ∷ later) ≡ 65 = sym (ap (count_by is_opening) e) in
      let parts = sum_by-append (λ x. cond (is_opening x) 1 0) earlier (Fixed k.OpenBrace place ∷ later) in
      let one = sum_by-cons (λ x. cond (is_opening x) 1 0) (Fixed k.OpenBrace place) later in
      omega (arith, all, parts, one, full);
}

-- where 64 are open: `{ } { {`
pub one_closed : OpensDeepFrom 64 (Fixed k.OpenBrace 3 ∷ Fixed k.CloseBrace 4 ∷ Fixed k.OpenBrace 5 ∷ Fixed k.OpenBrace 6 ∷ []) 6
one_closed =
    (braces.opened 64 (λ e. omega arith)).up _ _ (3, refl) 6
    ((braces.closed 64).up _ _ (4, refl) 6
    ((braces.opened 64 (λ e. omega arith)).up _ _ (5, refl) 6 (braces.opens_here 6 [])))

-- ---- places aside

pub least_aside : p.file least_tree ≡ record { tables = []; chains = record { name = name (codes "c") 0; serve = None; args = []; vars = []; body = stmt 0 (s.Reply (operand.Num (number 5 0) ∷ [])) ∷ []; close = 0 } ∷ [] }
unfolding p.kind
least_aside =
    let reply : Stmt = stmt 8 (s.Reply (operand.Num (number 5 14) ∷ [])) in
    let same : p.statement reply ≡ stmt 0 (s.Reply (operand.Num (number 5 0) ∷ [])) = statement_out reply ∙ (λ i. record { at = 0; kind = kind_is reply.kind _ (s.outs-Reply _) i }) in
    rw same refl

-- one byte further on
abbrev pub moved_tree : File
moved_tree = record { tables = []; chains = record { name = name (codes "c") 7; serve = None; args = []; vars = []; body = stmt 9 (s.Reply (operand.Num (number 5 15) ∷ [])) ∷ []; close = 17 } ∷ [] }

pub moved : p.IsSameAside least_tree moved_tree
unfolding p.kind
moved =
    let reply : Stmt = stmt 8 (s.Reply (operand.Num (number 5 14) ∷ [])) in
    let later : Stmt = stmt 9 (s.Reply (operand.Num (number 5 15) ∷ [])) in
    let same : p.statement reply ≡ stmt 0 (s.Reply (operand.Num (number 5 0) ∷ [])) = statement_out reply ∙ (λ i. record { at = 0; kind = kind_is reply.kind _ (s.outs-Reply _) i }) in
    let same' : p.statement later ≡ stmt 0 (s.Reply (operand.Num (number 5 0) ∷ [])) = statement_out later ∙ (λ i. record { at = 0; kind = kind_is later.kind _ (s.outs-Reply _) i }) in
    rw (same, same') refl

-- another name
abbrev pub renamed_tree : File
renamed_tree = record { tables = []; chains = record least_chain { name = name (codes "d") 6 } ∷ [] }

first_letter : List Chain → ℕ
first_letter [] = 0
first_letter (c ∷ cs) = slice_index c.name.text 0

pub renamed : p.IsSameAside least_tree renamed_tree → ⊥
unfolding first_letter
renamed e =
    let wrong : 99 ≡ 100 = ap (λ (f : File). first_letter f.chains) e in
    omega (arith, wrong)

-- ---- answers

pub memory_gives : Gives {T = File} (Err Memory) (λ f. ⊥)
memory_gives = refl

pub another_fault_gives_nothing : Gives {T = File} (Err (Unexpected 0)) (λ f. Unit {0}) → ⊥
another_fault_gives_nothing h = cc

place_of : ParseFault → ℕ
place_of (Deep at) = at
place_of fault = 0

pub another_place : FailsWith {T = File} (Err (Deep 3)) (Deep 4) → ⊥
unfolding place_of
another_place (inl e) = let wrong : 3 ≡ 4 = ap place_of e in omega (arith, wrong)
another_place (inr e) = cc
