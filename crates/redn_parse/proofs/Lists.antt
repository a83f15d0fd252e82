-- Lists that are read one after the other.
use Rattle.std.proofs.Common.{◌≡◌, ◌≢◌, inl, inr, Bool, true, false, List, [], ◌∷◌, ◌++◌, take, Option, Some, None, if◌then◌else◌, sym, refl, ap, ◌∙◌, subst}
use Rattle.redn_syntax.specs.declared.token.TokenKind.{TokenKind}
use Rattle.redn_syntax.specs.declared.token.TokenKind.TheVariants as k
use Rattle.redn_syntax.specs.declared.tree.Num.{Num}
use Rattle.redn_syntax.specs.declared.tree.Operand.{Operand}
use Rattle.redn_syntax.specs.declared.tree.Item.{Item}
use Rattle.redn_syntax.specs.Lexemes.{Lexeme, Fixed, Numbered}
use Rattle.redn_syntax.specs.Grammar as g
use Rattle.redn_syntax.specs.Grammar.{Phrase, ◌>>◌, SamePlace}
use Rattle.redn_parse.specs.Lookahead.{kind_at}
use Rattle.redn_parse.specs.Reads.{HasNone, with_mark, word_and_more, item_and_more, more_or, all_before}
use Rattle.redn_parse.proofs.Samples as a
use Rattle.redn_parse.proofs.Passed.{Goes, Near, Read, read, first_goes}
use Rattle.redn_parse.proofs.Fronts as fronts
use Rattle.redn_parse.proofs.Fronts.{Free}
use Rattle.redn_parse.proofs.Same.{Same, anything, Begins, weaken, ◌and◌, before, marks, numbers, values, items, no_colon, begins_last}

-- one more
pub each_more : {X : Type 0} (P : X → Phrase) (xs : List X) (x : X) (b m n : List Lexeme) → g.each P xs b m → P x m n → g.each P (xs ++ x ∷ []) b n
each_more P [] x b m n h one = (n, subst (λ l. P x l n) (sym h) one, refl)
each_more P (y ∷ xs) x b m n (l, h, hs) one = (l, h, each_more P xs x l m n hs one)

-- ---- up to where none can follow

module _ {X : Type 0} (P : X → Phrase) (kind : TokenKind) (one : (x y : X) → Same anything (P x) (P y) (x ≡ y)) (begins : (x : X) (b r : List Lexeme) → P x b r → kind_at 0 b ≡ Some kind) where
  rejected : (xs ys : List X) (b m n : List Lexeme) → g.each P xs b m → g.each P ys b n → kind_at 0 m ≡ Some kind → kind_at 0 n ≢ Some kind → HasNone P m → ⊥
  rejected [] [] b m n h h' here there none = there (ap (kind_at 0) (sym h' ∙ h) ∙ here)
  rejected [] (y ∷ ys) b m n h (l, h', hs') here there none = none.rejects y l (subst (λ z. P y z l) h h')
  rejected (x ∷ xs) [] b m n (l, h, hs) h' here there none = there (ap (kind_at 0) (sym h') ∙ begins x b l h)
  rejected (x ∷ xs) (y ∷ ys) b m n (l, h, hs) (l', h', hs') here there none =
      let same = ((one x y).joins b b l l' refl h h' refl refl).1 in
      rejected xs ys l m n hs (subst (λ z. g.each P ys z n) (sym same) hs') here there none

  -- one that isn't read behind some that are
  pub all_blocked : (xs : List X) (b m : List Lexeme) → g.each P xs b m → kind_at 0 m ≡ Some kind → HasNone P m → HasNone (all_before P kind) b
  all_blocked xs b m h here none = record {
    rejects = λ ys after d. rejected xs ys b m d.0 h d.1 here d.2.1 none;
  }

-- one more behind some
pub all_goes : {X : Type 0} (P : X → Phrase) (xs : List X) → Goes (g.each P xs) P (g.each P)
all_goes P xs = record { goes = λ z. (xs ++ z ∷ [], [], λ b m tail h d. each_more P xs z b m tail h d) }

-- all of them, where none can follow
pub all_read : {X : Type 0} (P : X → Phrase) (kind : TokenKind) → ((x : X) → Free (P x)) → (xs : List X) (b m : List Lexeme) → all_before P kind xs b m → Read (g.each P xs) (all_before P kind xs) b m
all_read P kind free xs b m h =
    let r = read (fronts.each P free xs) (subst (λ l. g.each P xs b l) h.2.0 h.1) in
    record {
      front = r.front;
      split = r.split;
      always = r.always;
      near = λ other e. (other, r.always other, (refl, λ ahead. h.2.1 (ap (kind_at 0) h.2.0 ∙ sym e ∙ ahead)));
    }

-- ---- with commas

-- with a comma behind each
abbrev pub commas : {X : Type 0} → (X → Phrase) → List X → Phrase
commas P xs = g.each (λ x. P x >> g.mark k.Comma) xs

-- such a list, and one more
abbrev pub Ended : {X : Type 0} → (X → Phrase) → List X → List Lexeme → List Lexeme → Type 0
Ended {X} P xs b n = (init : List X) × (last : X) × (m : List Lexeme) × (xs ≡ init ++ last ∷ []) × commas P init b m × P last m n

-- the comma goes to the one before it or to the one behind it
pub listed_ended : {X : Type 0} (P : X → Phrase) (x : X) (xs : List X) (b m n : List Lexeme) → P x b m → g.each (λ y. g.mark k.Comma >> P y) xs m n → Ended P (x ∷ xs) b n
listed_ended P x [] b m n h hs = ([], x, b, refl, refl, subst (λ l. P x b l) hs h)
listed_ended P x (y ∷ xs) b m n h (l, (l', c, h'), hs) =
    let rest = listed_ended P y xs l' l n h' hs in
    (x ∷ rest.0, rest.1, rest.2, ap (λ l. x ∷ l) rest.3, (l', (m, h, c), rest.4), rest.5)

pub ended_listed : {X : Type 0} (P : X → Phrase) (init : List X) (last : X) (b m n : List Lexeme) → commas P init b m → P last m n → g.listed P (init ++ last ∷ []) b n
ended_listed P [] last b m n h one = (n, subst (λ l. P last l n) (sym h) one, refl)
ended_listed {X} P (x ∷ init) last b m n (l, (l', h, c), hs) one =
    (l', h, commas_each init l m n l' hs one c)
  where
    commas_each : (init : List X) (b m n c : List Lexeme) → commas P init b m → P last m n → g.mark k.Comma c b → g.each (λ y. g.mark k.Comma >> P y) (init ++ last ∷ []) c n
    commas_each [] b m n c h one comma = (n, (m, subst (λ l. g.mark k.Comma c l) h comma, one), refl)
    commas_each (y ∷ init) b m n c (l, (l', h, comma'), hs) one comma = (l', (b, comma, h), commas_each init l m n l' hs one comma')

module _ {X : Type 0} (P : X → Phrase) (kind : TokenKind) (one : (x y : X) (more more' : Bool) → Same anything (P x >> more_or kind more) (P y >> more_or kind more') ((x ≡ y) × (more ≡ more'))) where
  stuck : (xs init : List X) (last : X) (b m n o r : List Lexeme) → commas P xs b m → commas P init b n → P last n o → g.mark kind o r →
      HasNone (λ (p : X × Bool). P p.0 >> more_or kind p.1) m → ⊥
  stuck [] [] last b m n o r h h' one' close none = none.rejects (last, false) r (o, subst (λ l. P last l o) (sym h' ∙ h) one', close)
  stuck [] (y ∷ init) last b m n o r h (l, h', hs') one' close none =
      none.rejects (y, true) l (subst (λ z. (P y >> more_or kind true) z l) h h')
  stuck (x ∷ xs) [] last b m n o r (l, h, hs) h' one' close none =
      let same = (one x last true false).joins b b l r refl h (o, subst (λ z. P last z o) (sym h') one', close) refl refl in
      let wrong : true ≡ false = same.0.1 in
      cc
  stuck (x ∷ xs) (y ∷ init) last b m n o r (l, h, hs) (l', h', hs') one' close none =
      let same = ((one x y true true).joins b b l l' refl h h' refl refl).1 in
      stuck xs init last l m n o r hs (subst (λ z. commas P init z n) (sym same) hs') one' close none

  -- one that isn't read behind some with commas
  pub listed_blocked : (xs : List X) (b m : List Lexeme) → commas P xs b m → HasNone (λ (p : X × Bool). P p.0 >> more_or kind p.1) m → HasNone (with_mark (g.listed P) kind) b
  listed_blocked xs b m h none = record { rejects = rejects }
    where
      rejects : (ys : List X) (after : List Lexeme) → with_mark (g.listed P) kind ys b after → ⊥
      rejects [] after d = absurd d.1
      rejects (y ∷ ys) after d =
          let e = listed_ended P y ys b d.1.0 d.0 d.1.1 d.1.2 in
          stuck xs e.0 e.1 b m e.2 d.0 after h e.4 e.5 d.2 none

-- behind a comma comes one more, of this one lexeme
pub listed_goes : {X : Type 0} (P : X → Phrase) (kind : TokenKind) (sample : X) (x : Lexeme) → ((tail : List Lexeme) → P sample (x ∷ tail) tail) → (xs : List X) →
    Goes (commas P xs) (λ (p : X × Bool). P p.0 >> more_or kind p.1) (with_mark (g.listed P) kind)
listed_goes {X} P kind sample x reads xs = record { goes = λ z. cases z.0 z.1 }
  where
    cases : (z : X) (more : Bool) → (ys : List X) × (rest : List Lexeme) × ((b m tail : List Lexeme) → commas P xs b m → (P z >> more_or kind more) m (rest ++ tail) → with_mark (g.listed P) kind ys b tail)
    cases z true = (
      (xs ++ z ∷ []) ++ sample ∷ [],
      x ∷ Fixed kind 0 ∷ [],
      λ b m tail h d.
          (Fixed kind 0 ∷ tail, ended_listed P (xs ++ z ∷ []) sample b (x ∷ Fixed kind 0 ∷ tail) (Fixed kind 0 ∷ tail) (each_more (λ y. P y >> g.mark k.Comma) xs z b m (x ∷ Fixed kind 0 ∷ tail) h d) (reads (Fixed kind 0 ∷ tail)), (0, refl)),
    )
    cases z false = (xs ++ z ∷ [], [], λ b m tail h d. (d.0, ended_listed P xs z b m d.0 h d.1, d.2))

-- ---- items and words

choices : (kind : TokenKind) → (kind ≡ k.Comma → ⊥) → (more more' : Bool) → Same anything (more_or kind more) (more_or kind more') (more ≡ more')
choices kind other true true = weaken (marks k.Comma) (λ _. refl)
choices kind other true false = record { joins = λ b c r s e h h' v w. absurd (other (cc)) }
choices kind other false true = record { joins = λ b c r s e h h' v w. absurd (other (cc)) }
choices kind other false false = weaken (marks kind) (λ _. refl)

no_colon_more : (more : Bool) → Begins no_colon (more_or k.CloseBrace more)
no_colon_more true = begins_last no_colon k.Comma refl
no_colon_more false = begins_last no_colon k.CloseBrace refl

pub one_item : (x y : Item) (more more' : Bool) → Same anything (g.item SamePlace x >> more_or k.CloseBrace more) (g.item SamePlace y >> more_or k.CloseBrace more') ((x ≡ y) × (more ≡ more'))
one_item x y more more' = before (items x y) (no_colon_more more) (no_colon_more more') (choices k.CloseBrace (λ e. cc) more more')

pub one_word : (x y : Operand) (more more' : Bool) → Same anything (g.value SamePlace x >> more_or k.Semicolon more) (g.value SamePlace y >> more_or k.Semicolon more') ((x ≡ y) × (more ≡ more'))
one_word x y more more' = values x y and choices k.Semicolon (λ e. cc) more more'

-- an item's offset has a colon behind it
pub no_offset : (b : List Lexeme) → (kind_at 1 b ≡ Some k.Colon → ⊥) → HasNone word_and_more b → HasNone item_and_more b
no_offset b ahead none = record { rejects = λ x after d. rejects x.0.at x.0.word x.1 after d }
  where
    rejects : (o : Option Num) (n : Num) (more : Bool) (after : List Lexeme) → ((g.item_offset SamePlace o >> g.number SamePlace n) >> more_or k.CloseBrace more) b after → ⊥
    rejects None n more after d = none.rejects (n, more) after (d.0, subst (λ l. g.number SamePlace n l d.0) (sym d.1.1) d.1.2, d.2)
    rejects (Some p) n more after d =
        let e : b ≡ Numbered p.value d.1.1.1.0 ∷ Fixed k.Colon d.1.1.2.0 ∷ d.1.0 = cc (d.1.1.1.2, d.1.1.2.1) in
        ahead (ap (kind_at 1) e)

-- a number that isn't followed by a colon is no offset
colon_word : (n : Num) (more : Bool) (b m r : List Lexeme) → g.number SamePlace n b m → more_or k.CloseBrace more m r → kind_at 1 b ≡ Some k.Colon → ⊥
colon_word n true b m r h c ahead =
    let e : b ≡ Numbered n.value h.0 ∷ Fixed k.Comma c.0 ∷ r = cc (h.2, c.1) in
    let kind = ap (kind_at 1) e in
    cc
colon_word n false b m r h c ahead =
    let e : b ≡ Numbered n.value h.0 ∷ Fixed k.CloseBrace c.0 ∷ r = cc (h.2, c.1) in
    let kind = ap (kind_at 1) e in
    cc

pub offset_failed : (b : List Lexeme) → kind_at 1 b ≡ Some k.Colon → HasNone (with_mark (g.number SamePlace) k.Colon) b → HasNone item_and_more b
offset_failed b ahead none = record { rejects = λ x after d. rejects x.0.at x.0.word x.1 after d }
  where
    rejects : (o : Option Num) (n : Num) (more : Bool) (after : List Lexeme) → ((g.item_offset SamePlace o >> g.number SamePlace n) >> more_or k.CloseBrace more) b after → ⊥
    rejects None n more after d = colon_word n more b d.0 after (subst (λ l. g.number SamePlace n l d.0) (sym d.1.1) d.1.2) d.2 ahead
    rejects (Some p) n more after d = none.rejects p d.1.0 d.1.1

pub word_failed : (p : Num) (b m : List Lexeme) → kind_at 1 b ≡ Some k.Colon → with_mark (g.number SamePlace) k.Colon p b m → HasNone word_and_more m → HasNone item_and_more b
word_failed p b m ahead h none = record { rejects = λ x after d. rejects x.0.at x.0.word x.1 after d }
  where
    rejects : (o : Option Num) (n : Num) (more : Bool) (after : List Lexeme) → ((g.item_offset SamePlace o >> g.number SamePlace n) >> more_or k.CloseBrace more) b after → ⊥
    rejects None n more after d = colon_word n more b d.0 after (subst (λ l. g.number SamePlace n l d.0) (sym d.1.1) d.1.2) d.2 ahead
    rejects (Some q) n more after d =
        let same = ((numbers p q and marks k.Colon).joins b b m d.1.0 refl h d.1.1 refl refl).1 in
        none.rejects (n, more) after (d.0, subst (λ l. g.number SamePlace n l d.0) (sym same) d.1.2, d.2)

pub colon_ahead : (p : Num) (b m : List Lexeme) → with_mark (g.number SamePlace) k.Colon p b m → kind_at 1 b ≡ Some k.Colon
colon_ahead p b m h = let e : b ≡ Numbered p.value h.1.0 ∷ Fixed k.Colon h.2.0 ∷ m = cc (h.1.2, h.2.1) in ap (kind_at 1) e

-- an item begins with a number
pub no_number : (b : List Lexeme) → ((n : Num) (r : List Lexeme) → g.number SamePlace n b r → ⊥) → HasNone item_and_more b
no_number b other = record { rejects = λ x after d. rejects x.0.at x.0.word x.1 after d }
  where
    rejects : (o : Option Num) (n : Num) (more : Bool) (after : List Lexeme) → ((g.item_offset SamePlace o >> g.number SamePlace n) >> more_or k.CloseBrace more) b after → ⊥
    rejects None n more after d = other n d.0 (subst (λ l. g.number SamePlace n l d.0) (sym d.1.1) d.1.2)
    rejects (Some p) n more after d = other p d.1.1.0 d.1.1.1

-- and each of its parts may begin with any number
word_begins : (b : List Lexeme) → ((l : List Lexeme) → take 1 l ≡ take 1 b → HasNone word_and_more l) → (n : Num) (r : List Lexeme) → g.number SamePlace n b r → ⊥
word_begins b none n r h = (none (Numbered n.value h.0 ∷ a.mark k.CloseBrace ∷ []) (ap (λ l. take 1 l) (sym h.2))).rejects (n, false) [] (_, (h.0, h.1, refl), (0, refl))

offset_begins : (b : List Lexeme) → ((l : List Lexeme) → take 1 l ≡ take 1 b → HasNone (with_mark (g.number SamePlace) k.Colon) l) → (n : Num) (r : List Lexeme) → g.number SamePlace n b r → ⊥
offset_begins b none n r h = (none (Numbered n.value h.0 ∷ a.mark k.Colon ∷ []) (ap (λ l. take 1 l) (sym h.2))).rejects n [] (_, (h.0, h.1, refl), (0, refl))

pub no_offset_near : (m b : List Lexeme) → (kind_at 1 m ≡ Some k.Colon → ⊥) → Near word_and_more m b → HasNone word_and_more b → HasNone item_and_more b
no_offset_near m b ahead (same, inl none) h = no_number b (word_begins b none)
no_offset_near m b ahead (same, inr same') h = no_offset b (λ e. ahead (sym same' ∙ e)) h

pub offset_near : (m b : List Lexeme) → kind_at 1 m ≡ Some k.Colon → Near (with_mark (g.number SamePlace) k.Colon) m b → HasNone (with_mark (g.number SamePlace) k.Colon) b → HasNone item_and_more b
offset_near m b ahead (same, inl none) h = no_number b (offset_begins b none)
offset_near m b ahead (same, inr same') h = offset_failed b (same' ∙ ahead) h

-- ---- the end of a table and of a variable

pub contents_goes : Goes g.nothing (λ is_first. g.mark (if is_first then k.Equals else k.Semicolon)) (with_mark (g.contents SamePlace) k.Semicolon)
contents_goes = first_goes cases
  where
    cases : (z : Bool) → (x : List Item) × (more : List Lexeme) × ((b tail : List Lexeme) → g.mark (if z then k.Equals else k.Semicolon) b (more ++ tail) → with_mark (g.contents SamePlace) k.Semicolon x b tail)
    cases true = (
      a.an_item ∷ [],
      a.mark k.OpenBrace ∷ a.number ∷ a.mark k.CloseBrace ∷ a.mark k.Semicolon ∷ [],
      λ b tail d.
          (_, (_, d, (_, (0, refl), (_, (_, (_, refl, (0, refl, refl)), refl), (0, refl)))), (0, refl)),
    )
    cases false = ([], [], λ b tail d. (b, refl, d))

pub first_value_goes : Goes g.nothing (λ is_first. g.mark (if is_first then k.Equals else k.Semicolon)) (with_mark (g.first_value SamePlace) k.Semicolon)
first_value_goes = first_goes cases
  where
    cases : (z : Bool) → (x : Option Num) × (more : List Lexeme) × ((b tail : List Lexeme) → g.mark (if z then k.Equals else k.Semicolon) b (more ++ tail) → with_mark (g.first_value SamePlace) k.Semicolon x b tail)
    cases true = (Some a.a_number, a.number ∷ a.mark k.Semicolon ∷ [], λ b tail d. (_, (_, d, (0, refl, refl)), (0, refl)))
    cases false = (None, [], λ b tail d. (b, refl, d))

pub contents_begin : (b : List Lexeme) → HasNone (λ is_first. g.mark (if is_first then k.Equals else k.Semicolon)) b → HasNone (with_mark (g.contents SamePlace) k.Semicolon) b
contents_begin b none = record { rejects = rejects }
  where
    rejects : (xs : List Item) (after : List Lexeme) → with_mark (g.contents SamePlace) k.Semicolon xs b after → ⊥
    rejects [] after d = none.rejects false after (subst (λ l. g.mark k.Semicolon l after) (sym d.1) d.2)
    rejects (x ∷ xs) after d = none.rejects true d.1.0 d.1.1

pub first_begin : (b : List Lexeme) → HasNone (λ is_first. g.mark (if is_first then k.Equals else k.Semicolon)) b → HasNone (with_mark (g.first_value SamePlace) k.Semicolon) b
first_begin b none = record { rejects = rejects }
  where
    rejects : (o : Option Num) (after : List Lexeme) → with_mark (g.first_value SamePlace) k.Semicolon o b after → ⊥
    rejects None after d = none.rejects false after (subst (λ l. g.mark k.Semicolon l after) (sym d.1) d.2)
    rejects (Some n) after d = none.rejects true d.1.0 d.1.1

-- behind `=`
pub first_failed : (b m : List Lexeme) → g.mark k.Equals b m → HasNone (with_mark (g.number SamePlace) k.Semicolon) m → HasNone (with_mark (g.first_value SamePlace) k.Semicolon) b
first_failed b m h none = record { rejects = rejects }
  where
    rejects : (o : Option Num) (after : List Lexeme) → with_mark (g.first_value SamePlace) k.Semicolon o b after → ⊥
    rejects None after d = cc
    rejects (Some n) after d =
        let same = ((marks k.Equals).joins b b m d.1.0 refl h d.1.1 refl refl).1 in
        none.rejects n after (d.0, subst (λ l. g.number SamePlace n l d.0) (sym same) d.1.2, d.2)

-- the items of a table behind its `=`
abbrev pub braced : List Item → Phrase
braced xs = g.mark k.OpenBrace >> with_mark (g.listed (g.item SamePlace)) k.CloseBrace xs

pub contents_failed : (b m : List Lexeme) → g.mark k.Equals b m → HasNone (with_mark braced k.Semicolon) m → HasNone (with_mark (g.contents SamePlace) k.Semicolon) b
contents_failed b m h none = record { rejects = rejects }
  where
    rejects : (xs : List Item) (after : List Lexeme) → with_mark (g.contents SamePlace) k.Semicolon xs b after → ⊥
    rejects [] after d = cc
    rejects (x ∷ xs) after d =
        let same = ((marks k.Equals).joins b b m d.1.0 refl h d.1.1 refl refl).1 in
        none.rejects (x ∷ xs) after (d.0, subst (λ l. braced (x ∷ xs) l d.0) (sym same) d.1.2, d.2)

pub contents_read : (xs : List Item) (b m n o p : List Lexeme) → g.mark k.Equals b m → g.mark k.OpenBrace m n → with_mark (g.listed (g.item SamePlace)) k.CloseBrace xs n o → g.mark k.Semicolon o p → with_mark (g.contents SamePlace) k.Semicolon xs b p
contents_read [] b m n o p h h' d last = absurd d.1
contents_read (x ∷ xs) b m n o p h h' d last = (o, (m, h, (n, h', d)), last)
