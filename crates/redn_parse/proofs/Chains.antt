-- Chains and files.
use Rattle.std.proofs.Common.{arith, ◌≡◌, ◌<◌, ℕ, ◌⊎◌, inl, inr, Bool, true, false, if◌then◌else◌, List, [], ◌∷◌, ◌++◌, Option, Some, None, length, sym, refl, ap, ◌∙◌, subst}
use Rattle.redn_syntax.specs.declared.token.TokenKind.{TokenKind}
use Rattle.redn_syntax.specs.declared.token.TokenKind.TheVariants as k
use Rattle.redn_syntax.specs.declared.tree.Name.{Name}
use Rattle.redn_syntax.specs.declared.tree.Num.{Num}
use Rattle.redn_syntax.specs.declared.tree.Table.{Table}
use Rattle.redn_syntax.specs.declared.tree.VarDecl.{VarDecl}
use Rattle.redn_syntax.specs.declared.tree.Chain.{Chain}
use Rattle.redn_syntax.specs.declared.tree.File.{File}
use Rattle.redn_syntax.specs.declared.tree.Stmt.{Stmt}
use Rattle.redn_syntax.specs.Lexemes.{Lexeme}
use Rattle.redn_syntax.specs.Grammar as g
use Rattle.redn_syntax.specs.Grammar.{Phrase, ◌>>◌, SamePlace}
use Rattle.redn_parse.specs.Lookahead.{kind_at, next_place}
use Rattle.redn_parse.specs.Reads.{HasNone, with_mark, all_before, statement, body}
use Rattle.redn_parse.specs.Reads as reads
use Rattle.redn_parse.proofs.Same.{Ahead, Same, anything, Sees, ◌and◌, past, marks, names, no_argument, no_variable, no_table, openings}
use Rattle.redn_parse.proofs.Trees.{chains, argument_lists, variable_lists, table_lists, no_argument_begins, no_variable_begins, some_begins}
use Rattle.redn_parse.proofs.Blocks.{NoBody}
use Rattle.redn_parse.proofs.Braces as braces
use Rattle.redn_parse.proofs.Braces.{Keeps, ◌then◌}
use Rattle.redn_parse.proofs.Samples as a
use Rattle.redn_parse.proofs.Fronts as fronts
use Rattle.redn_parse.proofs.Fronts.{Free, ◌plus◌}
use Rattle.redn_parse.proofs.Passed.{Goes, first_goes}
use Rattle.redn_parse.proofs.Lists.{each_more}

-- ---- what comes next

not_argument : (kind : Option TokenKind) → (kind ≡ Some k.Arg → ⊥) → no_argument kind ≡ true
not_argument None h = refl
not_argument (Some k.Arg) h = absurd (h refl)
not_argument (Some kind) h = refl

not_variable : (kind : Option TokenKind) → (kind ≡ Some k.Var → ⊥) → no_variable kind ≡ true
not_variable None h = refl
not_variable (Some k.Var) h = absurd (h refl)
not_variable (Some kind) h = refl

not_table : (kind : Option TokenKind) → (kind ≡ Some k.Table → ⊥) → no_table kind ≡ true
not_table None h = refl
not_table (Some k.Table) h = absurd (h refl)
not_table (Some kind) h = refl

excluded : (ahead : Ahead) (kind : TokenKind) (b : List Lexeme) → Sees ahead b → ahead (Some kind) ≡ false → kind_at 0 b ≡ Some kind → ⊥
excluded ahead kind b h other e = let same = ap ahead e in cc

-- ---- a chain

abbrev pub NoChain : List Lexeme → Type 0
NoChain b = HasNone (λ (p : ℕ × Chain). g.chain_within SamePlace p.0 p.1 >> g.nothing) b

-- up to its arguments
abbrev pub head : Name → Option Num → Phrase
head n s = g.mark k.Chain >> (g.name SamePlace n >> g.opening SamePlace s)

heads : (n m : Name) (s t : Option Num) → Same anything (head n s) (head m t) ((n ≡ m) × (s ≡ t))
heads n m s t = past k.Chain (names n m and openings s t)

-- the parts of a chain
pub record Parts (d : ℕ) (c : Chain) (b r : List Lexeme) : Type 0 where
  pub behind_head : List Lexeme
  pub behind_args : List Lexeme
  pub behind_vars : List Lexeme
  pub behind_body : List Lexeme
  pub head : head c.name c.serve b behind_head
  pub args : g.each (g.argument SamePlace) c.args behind_head behind_args
  pub vars : g.each (g.variable SamePlace) c.vars behind_args behind_vars
  pub body : g.each (statement d) c.body behind_vars behind_body
  pub close : g.mark_at SamePlace k.CloseBrace c.close behind_body r
  pub no_argument : Sees no_argument behind_args
  pub no_variable : Sees no_variable behind_vars

pub parts : (d : ℕ) (c : Chain) (b r : List Lexeme) → g.chain_within SamePlace d c b r → Parts d c b r
parts d c b r (m0, h0, (m1, h1, (m2, h2, (m3, h3, (m4, h4, (m5, h5, h6)))))) = record {
  behind_head = m2;
  behind_args = m3;
  behind_vars = m4;
  behind_body = m5;
  head = (m0, h0, (m1, h1, h2));
  args = h3;
  vars = h4;
  body = h5;
  close = h6;
  no_argument = (no_argument_begins d c).sees m3 r (m4, h4, (m5, h5, h6));
  no_variable = (no_variable_begins d c).sees m4 r (m5, h5, h6);
}

module _ (name : Name) (serve : Option Num) (b m : List Lexeme) (named : head name serve b m) where
  same_head : (d : ℕ) (c : Chain) (r : List Lexeme) (p : Parts d c b r) → m ≡ p.behind_head
  same_head d c r p = ((heads name c.name serve c.serve).joins b b m p.behind_head refl named p.head refl refl).1

  pub args_failed : HasNone (all_before (g.argument SamePlace) k.Arg) m → NoChain b
  args_failed none = record {
    rejects = λ q after e.
        let p = parts q.0 q.1 b e.0 e.1 in
        let args = subst (λ l. g.each (g.argument SamePlace) q.1.args l p.behind_args) (sym (same_head q.0 q.1 e.0 p)) p.args in
        none.rejects q.1.args p.behind_args (p.behind_args, args, (refl, excluded no_argument k.Arg p.behind_args p.no_argument refl));
  }

  module _ (xs : List Name) (n : List Lexeme) (args : all_before (g.argument SamePlace) k.Arg xs m n) where
    same_args : (d : ℕ) (c : Chain) (r : List Lexeme) (p : Parts d c b r) → n ≡ p.behind_args
    same_args d c r p =
        let read = subst (λ l. g.each (g.argument SamePlace) xs m l) args.2.0 args.1 in
        let other = subst (λ l. kind_at 0 l ≡ Some k.Arg → ⊥) args.2.0 args.2.1 in
        ((argument_lists xs c.args).joins m p.behind_head n p.behind_args (same_head d c r p) read p.args (not_argument (kind_at 0 n) other) p.no_argument).1

    pub vars_failed : HasNone (all_before (g.variable SamePlace) k.Var) n → NoChain b
    vars_failed none = record {
      rejects = λ q after e.
          let p = parts q.0 q.1 b e.0 e.1 in
          let vars = subst (λ l. g.each (g.variable SamePlace) q.1.vars l p.behind_vars) (sym (same_args q.0 q.1 e.0 p)) p.vars in
          none.rejects q.1.vars p.behind_vars (p.behind_vars, vars, (refl, excluded no_variable k.Var p.behind_vars p.no_variable refl));
    }

    module _ (ys : List VarDecl) (o : List Lexeme) (vars : all_before (g.variable SamePlace) k.Var ys n o) where
      same_vars : (d : ℕ) (c : Chain) (r : List Lexeme) (p : Parts d c b r) → o ≡ p.behind_vars
      same_vars d c r p =
          let read = subst (λ l. g.each (g.variable SamePlace) ys n l) vars.2.0 vars.1 in
          let other = subst (λ l. kind_at 0 l ≡ Some k.Var → ⊥) vars.2.0 vars.2.1 in
          ((variable_lists ys c.vars).joins n p.behind_args o p.behind_vars (same_args d c r p) read p.vars (not_variable (kind_at 0 o) other) p.no_variable).1

      pub body_failed : NoBody o → NoChain b
      body_failed none = record {
        rejects = λ q after e.
            let p = parts q.0 q.1 b e.0 e.1 in
            let statements = subst (λ l. g.each (statement q.0) q.1.body l p.behind_body) (sym (same_vars q.0 q.1 e.0 p)) p.body in
            none.rejects (q.0, q.1.body) p.behind_body (p.behind_body, (p.behind_body, statements, (refl, ap (kind_at 0) p.close.2)), refl);
      }

pub head_front : (name : Name) (serve : Option Num) → Free (head name serve)
head_front name serve = fronts.marked k.Chain plus (fronts.named name plus fronts.opening serve)

pub head_kept : (name : Name) (serve : Option Num) → Keeps 0 1 (head name serve)
head_kept name serve = braces.marked 0 k.Chain (λ p. (refl, refl)) then (braces.named 0 name then braces.opening serve)

pub args_kept : (args : List Name) → Keeps 1 1 (g.each (g.argument SamePlace) args)
args_kept = braces.each 1 (g.argument SamePlace) (braces.argument 1)

pub vars_kept : (vars : List VarDecl) → Keeps 1 1 (g.each (g.variable SamePlace) vars)
vars_kept = braces.each 1 (g.variable SamePlace) (braces.variable 1)

-- what was read, without what is known of the token behind it
pub all_of : {X : Type 0} (phrase : X → Phrase) (kind : TokenKind) (xs : List X) (b a : List Lexeme) → all_before phrase kind xs b a → g.each phrase xs b a
all_of phrase kind xs b a h = subst (λ l. g.each phrase xs b l) h.2.0 h.1

pub body_of : (room : ℕ) (xs : List Stmt) (b a : List Lexeme) → body room xs b a → g.each (statement room) xs b a
body_of room xs b a h = subst (λ l. g.each (statement room) xs b l) h.2.0 h.1

pub closing : (place : ℕ) (b a : List Lexeme) → place ≡ next_place b → g.mark k.CloseBrace b a → g.mark_at SamePlace k.CloseBrace place b a
closing place b a e h = (h.0, e ∙ ap next_place h.1, h.1)

pub empty_chain : (depth : ℕ) (tail : List Lexeme) → g.chain_within SamePlace depth a.a_chain (a.mark k.Chain ∷ a.name ∷ a.mark k.OpenBrace ∷ a.mark k.CloseBrace ∷ tail) tail
empty_chain depth tail = (_, (0, refl), (_, (0, refl, refl), (_, (0, refl), (_, refl, (_, refl, (_, refl, (0, refl, refl)))))))

-- ---- all chains

abbrev pub NoChains : List Lexeme → Type 0
NoChains b = HasNone (λ (p : ℕ × List Chain). reads.chains p.0 p.1 >> g.nothing) b

chains_blocked : (d : ℕ) (xs ys : List Chain) (b m r : List Lexeme) → g.each (g.chain_within SamePlace 64) xs b m → g.each (g.chain_within SamePlace d) ys b r → r ≡ [] → 0 < length m → NoChain m → ⊥
chains_blocked d [] [] b m r h h' e more none = let empty : length m ≡ 0 = ap length (sym h ∙ h' ∙ e) in omega arith
chains_blocked d [] (y ∷ ys) b m r h (l, h', hs') e more none = none.rejects (d, y) l (l, subst (λ z. g.chain_within SamePlace d y z l) h h', refl)
chains_blocked d (x ∷ xs) [] b m r (l, h, hs) h' e more none = let wrong = sym h.1.1 ∙ h' ∙ e in cc
chains_blocked d (x ∷ xs) (y ∷ ys) b m r (l, h, hs) (l', h', hs') e more none =
    let same = ((chains 64 d x y).joins b b l l' refl h h' refl refl).1 in
    chains_blocked d xs ys l m r hs (subst (λ z. g.each (g.chain_within SamePlace d) ys z r) (sym same) hs') e more none

pub chains_failed : (xs : List Chain) (b m : List Lexeme) → g.each (g.chain_within SamePlace 64) xs b m → (xs ≡ []) ⊎ (0 < length m) → NoChain m → NoChains b
chains_failed xs b m h more none = record { rejects = λ p after e. cases more p.0 p.1 e.1.0 e.1.1 e.1.2.1 }
  where
    first : (xs' : List Chain) → xs' ≡ [] → g.each (g.chain_within SamePlace 64) xs' b m → b ≡ m
    first [] e h' = h'
    first (x ∷ xs') e h' = cc

    cases : (xs ≡ []) ⊎ (0 < length m) → (d : ℕ) (ys : List Chain) (r : List Lexeme) → g.some (g.chain_within SamePlace d) ys b r → r ≡ [] → ⊥
    cases (inl e) d [] r h' none_left = h'
    cases (inl e) d (y ∷ ys) r (l, h', hs') none_left = none.rejects (d, y) l (l, subst (λ z. g.chain_within SamePlace d y z l) (first xs e h) h', refl)
    cases (inr more) d [] r h' none_left = h'
    cases (inr more) d (y ∷ ys) r (l, h', hs') none_left = chains_blocked d xs (y ∷ ys) b m r h (l, h', hs') none_left more none

pub some_read : (depth : ℕ) (xs : List Chain) (x : Chain) (b a : List Lexeme) → g.each (g.chain_within SamePlace depth) (xs ++ x ∷ []) b a → g.some (g.chain_within SamePlace depth) (xs ++ x ∷ []) b a
some_read depth [] x b a h = h
some_read depth (y ∷ xs) x b a h = h

pub chains_goes : (xs : List Chain) → Goes (g.each (g.chain_within SamePlace 64) xs) (g.chain_within SamePlace 65) (reads.some_chains 65)
chains_goes xs = record { goes = λ z. (xs ++ z ∷ [], [], λ b m tail h d. some_read 65 xs z b tail (each_more (g.chain_within SamePlace 65) xs z b m tail (fronts.chains_more 64 xs b m h) d)) }

-- more comes where the kind of the next lexeme is that of one
pub more_near : {xs : List Chain} (m other : List Lexeme) → kind_at 0 other ≡ kind_at 0 m → (xs ≡ []) ⊎ (0 < length m) → (xs ≡ []) ⊎ (0 < length other)
more_near m other e (inl none) = inl none
more_near [] other e (inr more) = absurd (omega arith)
more_near (x ∷ m) [] e (inr more) = cc
more_near (x ∷ m) (y ∷ other) e (inr more) = inr (omega arith)

pub empty_list : (a : List Lexeme) → length a ≡ 0 → a ≡ []
empty_list [] h = refl
empty_list (x ∷ a) h = absurd (omega arith)

-- ---- a file

abbrev pub NoFile : List Lexeme → Type 0
NoFile b = HasNone (λ (p : ℕ × File). reads.file p.0 p.1 >> g.nothing) b

pub tables_failed : (b : List Lexeme) → HasNone (all_before (g.table SamePlace) k.Table) b → NoFile b
tables_failed b none = record {
  rejects = λ p after e.
      let f = e.1.1 in
      none.rejects p.1.tables f.0 (f.0, f.1, (refl, excluded no_table k.Table f.0 ((some_begins p.0 p.1.chains).sees f.0 e.1.0 f.2) refl));
}

module _ (ts : List Table) (b m : List Lexeme) (tables : all_before (g.table SamePlace) k.Table ts b m) where
  read_tables : g.each (g.table SamePlace) ts b m
  read_tables = subst (λ l. g.each (g.table SamePlace) ts b l) tables.2.0 tables.1

  pub file_failed : NoChains m → NoFile b
  file_failed none = record {
    rejects = λ p after e.
        let f = e.1.1 in
        let other = subst (λ l. kind_at 0 l ≡ Some k.Table → ⊥) tables.2.0 tables.2.1 in
        let same = ((table_lists ts p.1.tables).joins b b m f.0 refl read_tables f.1 (not_table (kind_at 0 m) other) ((some_begins p.0 p.1.chains).sees f.0 e.1.0 f.2)).1 in
        none.rejects (p.0, p.1.chains) after (e.0, (e.1.0, subst (λ l. g.some (g.chain_within SamePlace p.0) p.1.chains l e.1.0) (sym same) f.2, e.1.2), e.2);
  }

pub file_goes : Goes g.nothing (g.each (g.table SamePlace)) (g.file_within SamePlace 65)
file_goes = first_goes (λ z. (record { tables = z; chains = a.a_chain ∷ [] }, a.mark k.Chain ∷ a.name ∷ a.mark k.OpenBrace ∷ a.mark k.CloseBrace ∷ [], λ b tail d. (_, d, (_, empty_chain 65 tail, refl))))

-- ---- the number of messages, and the brace behind it

pub opening_goes : Goes g.nothing (λ is_written. g.mark (if is_written then k.Serve else k.OpenBrace)) (g.opening SamePlace)
opening_goes = first_goes cases
  where
    cases : (z : Bool) → (x : Option Num) × (more : List Lexeme) × ((b tail : List Lexeme) → g.mark (if z then k.Serve else k.OpenBrace) b (more ++ tail) → g.opening SamePlace x b tail)
    cases true = (Some a.a_number, a.number ∷ a.mark k.OpenBrace ∷ [], λ b tail d. (_, d, (_, (0, refl, refl), (0, refl))))
    cases false = (None, [], λ b tail d. d)

pub opening_begins : (b : List Lexeme) → HasNone (λ is_written. g.mark (if is_written then k.Serve else k.OpenBrace)) b → HasNone (g.opening SamePlace) b
opening_begins b none = record { rejects = rejects }
  where
    rejects : (o : Option Num) (after : List Lexeme) → g.opening SamePlace o b after → ⊥
    rejects None after d = none.rejects false after d
    rejects (Some n) after d = none.rejects true d.0 d.1

-- behind `serve`
pub opening_failed : (b m : List Lexeme) → g.mark k.Serve b m → HasNone (with_mark (g.number SamePlace) k.OpenBrace) m → HasNone (g.opening SamePlace) b
opening_failed b m h none = record { rejects = rejects }
  where
    rejects : (o : Option Num) (after : List Lexeme) → g.opening SamePlace o b after → ⊥
    rejects None after d = cc
    rejects (Some n) after d =
        let same = ((marks k.Serve).joins b b m d.0 refl h d.1 refl refl).1 in
        none.rejects n after (subst (λ l. with_mark (g.number SamePlace) k.OpenBrace n l after) (sym same) d.2)
