-- Some text has the generated file's tree, places aside.
use Rattle.std.proofs.Common.{arith, ◌≡◌, ◌<◌, ◌≤◌, ◌^◌, ◌+◌, ◌%◌, ℕ, zero, suc, List, [], ◌∷◌, ◌++◌, map, codes, decimal, refl, sym, ap, subst, append_assoc}
use Rattle.std.specs.List.{flat_map, AllByRecursion}
use Rattle.std.specs.Fmt.{digits}
use Rattle.std.proofs.lemmas.List.{append-nil, map-append}
use Rattle.redn_syntax.specs.declared.token.TokenKind.{TokenKind}
use Rattle.redn_syntax.specs.declared.token.TokenKind.TheVariants as k
use Rattle.redn_syntax.specs.declared.tree.Name.{Name}
use Rattle.redn_syntax.specs.declared.tree.Num.{Num}
use Rattle.redn_syntax.specs.declared.tree.Operand.TheVariants as operand
use Rattle.redn_syntax.specs.declared.tree.Item.{Item}
use Rattle.redn_syntax.specs.declared.tree.Stmt.{Stmt}
use Rattle.redn_syntax.specs.declared.tree.StmtKind.{StmtKind, out-StmtKind}
use Rattle.redn_syntax.specs.declared.tree.StmtKind.TheVariants as s
use Rattle.redn_syntax.specs.declared.tree.StmtKind.TheOpen.{StmtKind-F}
use Rattle.redn_syntax.specs.Tokens.{IsName}
use Rattle.redn_syntax.specs.Lexemes.{Lexeme, Fixed, Named, Numbered}
use Rattle.redn_syntax.specs.Grammar as g
use Rattle.redn_syntax.specs.Grammar.{Phrase, ◌>>◌, AnyPlace, IsWritable}
use Rattle.redn_syntax.proofs.TokenFacts.{IsFixed}
use Rattle.redn_syntax.proofs.Printed.{AllPlain}
use Rattle.redn_syntax.proofs.Shapes.{kind_in, kinds}
use Rattle.redn_syntax.proofs.Decided.{name_by}
use Rattle.redn_gen.specs.Generated.{below, name, number, named, word, variable, statement, key, bucket, table, arguments, variables, lookup, add, turn, reply, body, chain_name, chain, chain_count, generated_file}
use Rattle.redn_gen.proofs.Below.{one_more, next_bucket}
use Rattle.redn_gen.proofs.Spaced.{has_text}

-- lexemes that the phrase reads, whatever follows them
record Written (p : Phrase) : Type 0 where
  lexemes : List Lexeme
  plain : AllPlain lexemes
  reads : (more : List Lexeme) → p (lexemes ++ more) more

-- and what they begin with
record Begun (p : Phrase) : Type 0 where
  written : Written p
  first : Lexeme
  rest : List Lexeme
  is : written.lexemes ≡ first ∷ rest

plain_append : (xs ys : List Lexeme) → AllPlain xs → AllPlain ys → AllPlain (xs ++ ys)
plain_append [] ys a b = b
plain_append (x ∷ xs) ys a b = (a.0, plain_append xs ys a.1 b)

infixr 10 ◌then◌
abbrev ◌then◌ : {p q : Phrase} → Written p → Written q → Written (p >> q)
◌then◌ {p} {q} a b = record {
  lexemes = a.lexemes ++ b.lexemes;
  plain = plain_append a.lexemes b.lexemes a.plain b.plain;
  reads = λ more. (
    b.lexemes ++ more,
    subst (λ l. p l (b.lexemes ++ more)) (sym (append_assoc a.lexemes b.lexemes more)) (a.reads (b.lexemes ++ more)),
    b.reads more,
  );
}

begun : {p q : Phrase} → Begun p → Written q → Begun (p >> q)
begun a b = record { written = a.written then b; first = a.first; rest = a.rest ++ b.lexemes; is = ap (λ l. l ++ b.lexemes) a.is }

nothing : Written g.nothing
nothing = record { lexemes = []; plain = tt; reads = λ more. refl }

abbrev mark : (kind : TokenKind) → IsFixed kind → Written (g.mark kind)
mark kind h = record { lexemes = Fixed kind 0 ∷ []; plain = ((h, refl), tt); reads = λ more. (0, refl) }

mark_at : (kind : TokenKind) (place : ℕ) → IsFixed kind → Written (g.mark_at AnyPlace kind place)
mark_at kind place h = record { lexemes = Fixed kind 0 ∷ []; plain = ((h, refl), tt); reads = λ more. (0, tt, refl) }

abbrev called : (n : Name) → IsName n.text → Written (g.name AnyPlace n)
called n h = record { lexemes = Named n.text 0 ∷ []; plain = ((h, refl), tt); reads = λ more. (0, tt, refl) }

counted : (n : Num) → n.value < 2 ^ 64 → Written (g.number AnyPlace n)
counted n h = record { lexemes = Numbered n.value 0 ∷ []; plain = ((h, refl), tt); reads = λ more. (0, tt, refl) }

mark_first : (kind : TokenKind) → IsFixed kind → Begun (g.mark kind)
mark_first kind h = record { written = mark kind h; first = Fixed kind 0; rest = []; is = refl }

called_first : (n : Name) → IsName n.text → Begun (g.name AnyPlace n)
called_first n h = record { written = called n h; first = Named n.text 0; rest = []; is = refl }

-- ---- lists

all_push : {X : Type 0} (P : X → Type 0) (xs : List X) (x : X) → AllByRecursion P xs → P x → AllByRecursion P (xs ++ x ∷ [])
all_push P [] x h last = (last, tt)
all_push P (y ∷ xs) x h last = (h.0, all_push P xs x h.1 last)

each : {X : Type 0} (p : X → Phrase) (xs : List X) → AllByRecursion (λ x. Written (p x)) xs → Written (g.each p xs)
each p [] h = nothing
each p (x ∷ xs) h = h.0 then each p xs h.1

some : {X : Type 0} (p : X → Phrase) (xs : List X) (x : X) → AllByRecursion (λ y. Written (p y)) xs → Written (p x) → Written (g.some p (xs ++ x ∷ []))
some p [] x h last = last then nothing
some p (y ∷ xs) x h last = h.0 then each p (xs ++ x ∷ []) (all_push _ xs x h.1 last)

behind_commas : {X : Type 0} (p : X → Phrase) (xs : List X) → AllByRecursion (λ x. Written (p x)) xs → Written (g.each (λ y. g.mark k.Comma >> p y) xs)
behind_commas p [] h = nothing
behind_commas p (x ∷ xs) h = (mark k.Comma tt then h.0) then behind_commas p xs h.1

listed : {X : Type 0} (p : X → Phrase) (x : X) (xs : List X) → AllByRecursion (λ y. Written (p y)) (x ∷ xs) → Written (g.listed p (x ∷ xs))
listed p x xs h = h.0 then behind_commas p xs h.1

-- ---- names

one_letter : IsName (codes "t") × IsName (codes "o") × IsName (codes "k") × IsName (codes "x") × IsName (codes "s") × IsName (codes "i")
unfolding kind_in kinds
one_letter = (
  name_by (codes "t") refl (omega arith) refl,
  name_by (codes "o") refl (omega arith) refl,
  name_by (codes "k") refl (omega arith) refl,
  name_by (codes "x") refl (omega arith) refl,
  name_by (codes "s") refl (omega arith) refl,
  name_by (codes "i") refl (omega arith) refl,
)

is_t : IsName (codes "t")
is_t = one_letter.0

is_o : IsName (codes "o")
is_o = one_letter.1

is_k : IsName (codes "k")
is_k = one_letter.2

is_x : IsName (codes "x")
is_x = one_letter.3

is_s : IsName (codes "s")
is_s = one_letter.4

is_i : IsName (codes "i")
is_i = one_letter.5

is_chain : (c : ℕ) → c < 4 → IsName (codes "g" ++ decimal c)
unfolding kind_in kinds digits
is_chain zero h = name_by (codes "g0") refl (omega arith) refl
is_chain (suc zero) h = name_by (codes "g1") refl (omega arith) refl
is_chain (suc (suc zero)) h = name_by (codes "g2") refl (omega arith) refl
is_chain (suc (suc (suc zero))) h = name_by (codes "g3") refl (omega arith) refl
is_chain (suc (suc (suc (suc c)))) h = absurd (omega (arith, h))

-- ---- the table

item : (value : ℕ) → value < 2 ^ 64 → Written (g.item AnyPlace (word value))
item value h = nothing then counted (number value) h

items : (n m : ℕ) → n < 2 ^ 32 → m ≤ 512 → AllByRecursion (λ i. Written (g.item AnyPlace i)) (map word (flat_map (bucket n) (below m)))
unfolding below
items n zero h few = tt
items n (suc m) h few =
    let small : key n m < 2 ^ 64 = omega (arith, h, few) in
    let small' : n + m < 2 ^ 64 = omega (arith, h, few) in
    subst (λ l. AllByRecursion (λ i. Written (g.item AnyPlace i)) (map word (flat_map (bucket n) (below l)))) (one_more m)
    (subst (AllByRecursion (λ i. Written (g.item AnyPlace i))) (sym (next_bucket n m))
    (all_push _ _ _ (all_push _ _ _ (items n m h (omega (arith, few))) (item (key n m) small)) (item (n + m) small')))

contents : (xs : List Item) → AllByRecursion (λ i. Written (g.item AnyPlace i)) xs → Written (g.contents AnyPlace xs)
contents [] h = nothing
contents (i ∷ xs) h = mark k.Equals tt then (mark k.OpenBrace tt then (listed (g.item AnyPlace) i xs h then mark k.CloseBrace tt))

table_written : (n : ℕ) → n < 2 ^ 32 → Written (g.table AnyPlace (table n))
table_written n h =
    mark k.Table tt then (called (name (codes "t")) is_t then (mark k.OpenBracket tt then (counted (number 8192) (omega arith) then (mark k.CloseBracket tt
    then (mark k.Ro tt then (contents _ (items n 512 h (omega arith)) then mark k.Semicolon tt))))))

-- ---- the chains

argument : (text : List ℕ) → IsName text → Written (g.argument AnyPlace (name text))
argument text h = mark k.Arg tt then (called (name text) h then mark k.Semicolon tt)

declared : (text : List ℕ) → IsName text → Written (g.variable AnyPlace (variable text))
declared text h = mark k.Var tt then (called (name text) h then (nothing then mark k.Semicolon tt))

module _ (block : List Stmt → Phrase) where
  stated : (kind : StmtKind) (layer : StmtKind-F StmtKind Stmt) → out-StmtKind kind ≡ layer → Begun (g.form AnyPlace block layer) → Written (g.statement AnyPlace block (statement kind))
  stated kind layer out b = record {
    lexemes = b.written.lexemes;
    plain = b.written.plain;
    reads = λ more. (
      b.written.lexemes ++ more,
      (b.first, b.rest ++ more, ap (λ l. l ++ more) b.is, tt, refl),
      subst (λ l. g.form AnyPlace block l (b.written.lexemes ++ more) more) (sym out) (b.written.reads more),
    );
  }

  looked_up : Written (g.statement AnyPlace block (statement lookup))
  unfolding g.form
  looked_up = stated _ _ (s.outs-Lookup _ _ _ _ _)
      (begun (mark_first k.Lookup tt) (called (name (codes "x")) is_x then (mark k.Equals tt
      then ((called (name (codes "t")) is_t then (mark k.OpenBracket tt then (called (name (codes "o")) is_o then mark k.CloseBracket tt)))
      then (mark k.Key tt then (called (name (codes "k")) is_k then (mark k.Probes tt then (counted (number 2) (omega arith) then mark k.Semicolon tt))))))))

  summed : Written (g.statement AnyPlace block (statement (add (codes "s") (named (codes "x")))))
  unfolding g.form
  summed = stated _ _ (s.outs-Add _ _)
      (begun (called_first (name (codes "s")) is_s) (mark k.PlusEquals tt then (called (name (codes "x")) is_x then mark k.Semicolon tt)))

  raised : Written (g.statement AnyPlace block (statement (add (codes "i") (operand.Num (number 1)))))
  unfolding g.form
  raised = stated _ _ (s.outs-Add _ _)
      (begun (called_first (name (codes "i")) is_i) (mark k.PlusEquals tt then (counted (number 1) (omega arith) then mark k.Semicolon tt)))

  replied : Written (g.statement AnyPlace block (statement reply))
  unfolding g.form
  replied = stated _ _ (s.outs-Reply _)
      (begun (mark_first k.Reply tt) (listed (g.value AnyPlace) (named (codes "s")) (named (codes "i") ∷ []) (called (name (codes "s")) is_s, (called (name (codes "i")) is_i, tt)) then mark k.Semicolon tt))

  repeated : Written (block turn) → Written (g.statement AnyPlace block (statement (s.Repeat (number 1000) turn)))
  unfolding g.form
  repeated turns = stated _ _ (s.outs-Repeat _ _)
      (begun (mark_first k.Repeat tt) (counted (number 1000) (omega arith) then turns))

turns : Written (g.block_within AnyPlace 1 turn)
turns = mark k.OpenBrace tt then (each (g.statement AnyPlace (g.block_within AnyPlace 0)) turn (looked_up _, (summed _, (raised _, tt))) then mark k.CloseBrace tt)

chain_written : (c : ℕ) → c < 4 → Written (g.chain_within AnyPlace 1 (chain c))
chain_written c h =
    mark k.Chain tt then (called (chain_name c) (is_chain c h) then (mark k.OpenBrace tt
    then (each (g.argument AnyPlace) arguments (argument _ is_o, (argument _ is_k, tt))
    then (each (g.variable AnyPlace) variables (declared _ is_x, (declared _ is_s, (declared _ is_i, tt)))
    then (each (g.statement AnyPlace (g.block_within AnyPlace 1)) body (repeated _ turns, (replied _, tt))
    then mark_at k.CloseBrace 0 tt)))))

chains : (m : ℕ) → m ≤ 4 → AllByRecursion (λ c. Written (g.chain_within AnyPlace 1 c)) (map chain (below m))
unfolding below
chains zero few = tt
chains (suc m) few =
    subst (AllByRecursion (λ c. Written (g.chain_within AnyPlace 1 c))) (sym (map-append chain (below m) (m ∷ [])))
    (all_push _ _ _ (chains m (omega (arith, few))) (chain_written m (omega (arith, few))))

all_chains : (m : ℕ) → m < 4 → Written (g.some (g.chain_within AnyPlace 1) (map chain (below (suc m))))
unfolding below
all_chains m few =
    subst (λ l. Written (g.some (g.chain_within AnyPlace 1) l)) (sym (map-append chain (below m) (m ∷ [])))
    (some (g.chain_within AnyPlace 1) (map chain (below m)) (chain m) (chains m (omega (arith, few))) (chain_written m few))

-- ---- the file

file_written : (n : ℕ) → n < 2 ^ 32 → Written (g.file_within AnyPlace 1 (generated_file n))
file_written n h =
    let few : n % 4 < 4 = omega arith in
    let count : suc (n % 4) ≡ chain_count n = omega arith in
    each (g.table AnyPlace) (table n ∷ []) (table_written n h, tt)
    then subst (λ m. Written (g.some (g.chain_within AnyPlace 1) (map chain (below m)))) count (all_chains (n % 4) few)

pub writable : (n : ℕ) → n < 2 ^ 32 → IsWritable (generated_file n)
writable n h =
    let w = file_written n h in
    let t = has_text w.lexemes w.plain in
    let read : g.file_within AnyPlace 1 (generated_file n) w.lexemes [] = subst (λ l. g.file_within AnyPlace 1 (generated_file n) l []) (append-nil w.lexemes) (w.reads []) in
    (1, (t.text, t.tokens, t.tokenizes, subst (λ l. g.file_within AnyPlace 1 (generated_file n) l []) (sym t.says) read))
