-- Words are parts in one way.
use Rattle.std.proofs.Common.{◌≡◌, ◌≢◌, ℕ, Bool, true, false, List, [], ◌∷◌, ◌++◌, refl, sym, ap, subst, ◌∙◌, arith, append_assoc, append-nil}
use Rattle.std.specs.Prelude.{All}
use Rattle.std.specs.List.{flat_map}
use Rattle.std.proofs.lemmas.List.Elements.{All-head, All-tail, All-nil, All-cons, All-append}
use Rattle.redn_command.specs.declared.line.Choice.{Choice}
use Rattle.redn_command.specs.declared.line.Choice.TheVariants as choice
use Rattle.redn_command.specs.Lines.{AreParts}
use Rattle.redn_command.specs.Words.{IsName, option_text, Given, Part, AnOption, APosition, words_of_part, IsPart, Line, line_of, IsLine}

-- an option's text is no name
pub option_no_name : (c : Choice) → ¬ IsName (option_text c)
option_no_name choice.Schedule h = h refl
option_no_name choice.Fair h = h refl
option_no_name choice.Shuffle h = h refl
option_no_name choice.Steps h = h refl
option_no_name choice.Record h = h refl

byte_at_3 : List ℕ → ℕ
byte_at_3 (a ∷ b ∷ c ∷ d ∷ rest) = d
byte_at_3 _ = 0

-- options have texts of their own: `s`, `f`, `s`, `s`, `r` and behind them `c`, `a`, `h`, `t`, `e`
pub same_option : (c d : Choice) → option_text c ≡ option_text d → c ≡ d
unfolding byte_at_3
same_option choice.Schedule choice.Schedule e = refl
same_option choice.Fair choice.Fair e = refl
same_option choice.Shuffle choice.Shuffle e = refl
same_option choice.Steps choice.Steps e = refl
same_option choice.Record choice.Record e = refl
same_option c d e = absurd (omega (arith, ap byte_at_3 e))

given_with : Choice → List ℕ → Given
given_with o v = record { option = o; value = v }

same_given : (g h : Given) → g.option ≡ h.option → g.value ≡ h.value → g ≡ h
unfolding given_with
same_given g h e f = ap (λ (o : Choice). given_with o g.value) e ∙ ap (given_with h.option) f

-- words that begin with some parts are those parts and others
begins : (p q : List Part) (rest : List (List ℕ)) → All IsPart p → All IsPart q → flat_map words_of_part p ++ rest ≡ flat_map words_of_part q → (more : List Part) × (q ≡ p ++ more) × (rest ≡ flat_map words_of_part more)
begins [] q rest a b e = (q, refl, e)
begins (AnOption g ∷ p) [] rest a b e = absurd (cc)
begins (APosition w ∷ p) [] rest a b e = absurd (cc)
begins (AnOption g ∷ p) (AnOption h ∷ q) rest a b e =
    let option : option_text g.option ≡ option_text h.option = cc in
    let value : g.value ≡ h.value = cc in
    let tail : flat_map words_of_part p ++ rest ≡ flat_map words_of_part q = cc in
    let same : h ≡ g = same_given h g (sym (same_option g.option h.option option)) (sym value) in
    let r = begins p q rest (All-tail IsPart (AnOption g) p a) (All-tail IsPart (AnOption h) q b) tail in
    (r.0, ap (λ (x : Given). AnOption x ∷ q) same ∙ ap (λ (l : List Part). AnOption g ∷ l) r.1, r.2)
begins (APosition w ∷ p) (APosition v ∷ q) rest a b e =
    let word : w ≡ v = cc in
    let tail : flat_map words_of_part p ++ rest ≡ flat_map words_of_part q = cc in
    let r = begins p q rest (All-tail IsPart (APosition w) p a) (All-tail IsPart (APosition v) q b) tail in
    (r.0, ap (λ (x : List ℕ). APosition x ∷ q) (sym word) ∙ ap (λ (l : List Part). APosition w ∷ l) r.1, r.2)
begins (AnOption g ∷ p) (APosition v ∷ q) rest a b e =
    let word : v ≡ option_text g.option = cc in
    absurd (option_no_name g.option (subst IsName word (All-head IsPart (APosition v) q b)))
begins (APosition w ∷ p) (AnOption h ∷ q) rest a b e =
    let word : w ≡ option_text h.option = cc in
    absurd (option_no_name h.option (subst IsName word (All-head IsPart (APosition w) p a)))

no_words : (p : List Part) → [] ≡ flat_map words_of_part p → p ≡ []
no_words [] e = refl
no_words (AnOption g ∷ p) e = absurd (cc)
no_words (APosition w ∷ p) e = absurd (cc)

pub same_parts : (p q : List Part) → All IsPart p → All IsPart q → flat_map words_of_part p ≡ flat_map words_of_part q → p ≡ q
same_parts p q a b e =
    let r = begins p q [] a b (append-nil (flat_map words_of_part p) ∙ e) in
    sym (r.1 ∙ ap (λ (l : List Part). p ++ l) (no_words r.0 r.2) ∙ append-nil p)

-- words give one line
pub one_line : (words : List (List ℕ)) (a b : Line) → IsLine words a → IsLine words b → a ≡ b
one_line words a b h k =
    let same : h.parts ≡ k.parts = same_parts h.parts k.parts h.names k.names (sym h.are ∙ k.are) in
    let given : (n : ℕ) → a.given n ≡ b.given n = λ n. h.given n ∙ ap (λ (p : List Part). (line_of p).given n) same ∙ sym (k.given n) in
    let positions : a.positions ≡ b.positions = h.positions ∙ ap (λ (p : List Part). (line_of p).positions) same ∙ sym k.positions in
    λ i. record { given = λ n. given n i; positions = positions i }

-- ---- words that are looked at one by one

-- what is open behind the parts that were seen: nothing, or an option that wants its value
abbrev pub IsOpen : Bool → List (List ℕ) → List (List ℕ) → Type 0
IsOpen false ws rest = ws ≡ rest
IsOpen true ws rest = (c : Choice) × (ws ≡ option_text c ∷ rest)

pub record Seen (words rest : List (List ℕ)) (wants : Bool) : Type 0 where
  pub done : List Part
  pub names : All IsPart done
  pub open_words : List (List ℕ)
  pub are : words ≡ flat_map words_of_part done ++ open_words
  pub is_open : IsOpen wants open_words rest

flat_map-append : {X Y : Type 0} (f : X → List Y) (xs ys : List X) → flat_map f (xs ++ ys) ≡ flat_map f xs ++ flat_map f ys
flat_map-append f [] ys = refl
flat_map-append f (x ∷ xs) ys = ap (λ l. f x ++ l) (flat_map-append f xs ys) ∙ sym (append_assoc (f x) (flat_map f xs) (flat_map f ys))

one_more : (done : List Part) (p : Part) (rest : List (List ℕ)) → flat_map words_of_part done ++ (words_of_part p ++ rest) ≡ flat_map words_of_part (done ++ p ∷ []) ++ rest
one_more done p rest =
    sym (append_assoc (flat_map words_of_part done) (words_of_part p) rest)
    ∙ ap (λ (l : List (List ℕ)). (flat_map words_of_part done ++ l) ++ rest) (sym (append-nil (words_of_part p)))
    ∙ ap (λ (l : List (List ℕ)). l ++ rest) (sym (flat_map-append words_of_part done (p ∷ [])))

with_part : (words rest : List (List ℕ)) (done : List Part) (p : Part) → All IsPart done → IsPart p → words ≡ flat_map words_of_part done ++ (words_of_part p ++ rest) → Seen words rest false
with_part words rest done p all named are =
    record { done = done ++ p ∷ []; names = All-append IsPart done (p ∷ []) all (All-cons IsPart p [] named (All-nil IsPart)); open_words = rest; are = are ∙ one_more done p rest; is_open = refl }

pub name_seen : (words rest : List (List ℕ)) (w : List ℕ) (wants : Bool) → IsName w → Seen words (w ∷ rest) wants → Seen words rest false
name_seen words rest w false named s = with_part words rest s.done (APosition w) s.names named (s.are ∙ ap (λ (l : List (List ℕ)). flat_map words_of_part s.done ++ l) s.is_open)
name_seen words rest w true named s =
    with_part words rest s.done (AnOption (record { option = s.is_open.0; value = w })) s.names named (s.are ∙ ap (λ (l : List (List ℕ)). flat_map words_of_part s.done ++ l) s.is_open.1)

pub option_seen : (words rest : List (List ℕ)) (c : Choice) → Seen words (option_text c ∷ rest) false → Seen words rest true
option_seen words rest c s = record { done = s.done; names = s.names; open_words = s.open_words; are = s.are; is_open = (c, s.is_open) }

all_behind : (a b : List Part) → All IsPart (a ++ b) → All IsPart b
all_behind [] b all = all
all_behind (p ∷ a) b all = all_behind a b (All-tail IsPart p (a ++ b) all)

-- what is open is parts too, if all is
open_parts : (words rest : List (List ℕ)) (wants : Bool) (s : Seen words rest wants) (parts : List Part) → AreParts words parts → (more : List Part) × (s.open_words ≡ flat_map words_of_part more) × All IsPart more
open_parts words rest wants s parts a =
    let r = begins s.done parts s.open_words s.names a.names (sym s.are ∙ a.are) in
    (r.0, r.2, all_behind s.done r.0 (subst (All IsPart) r.1 a.names))

-- an option's value is behind it
value_behind : (c : Choice) (rest : List (List ℕ)) (more : List Part) → All IsPart more → option_text c ∷ rest ≡ flat_map words_of_part more → (v : List ℕ) × (behind : List (List ℕ)) × (rest ≡ v ∷ behind) × IsName v
value_behind c rest [] all e = absurd (cc)
value_behind c rest (APosition w ∷ more) all e =
    let word : w ≡ option_text c = cc in
    absurd (option_no_name c (subst IsName word (All-head IsPart (APosition w) more all)))
value_behind c rest (AnOption g ∷ more) all e =
    let behind : rest ≡ g.value ∷ flat_map words_of_part more = cc in
    (g.value, flat_map words_of_part more, behind, All-head IsPart (AnOption g) more all)

word_first : (w : List ℕ) (rest : List (List ℕ)) (more : List Part) → All IsPart more → w ∷ rest ≡ flat_map words_of_part more → ((c : Choice) → w ≢ option_text c) → IsName w
word_first w rest [] all e no_option = absurd (cc)
word_first w rest (AnOption g ∷ more) all e no_option = absurd (no_option g.option (cc))
word_first w rest (APosition v ∷ more) all e no_option =
    let word : v ≡ w = cc in
    subst IsName word (All-head IsPart (APosition v) more all)

pub value_is_name : (words rest : List (List ℕ)) (w : List ℕ) → Seen words (w ∷ rest) true → (parts : List Part) → AreParts words parts → IsName w
value_is_name words rest w s parts a =
    let o = open_parts words (w ∷ rest) true s parts a in
    let v = value_behind s.is_open.0 (w ∷ rest) o.0 o.2 (sym s.is_open.1 ∙ o.1) in
    let same : v.0 ≡ w = cc in
    subst IsName same v.3

pub word_is_name : (words rest : List (List ℕ)) (w : List ℕ) → Seen words (w ∷ rest) false → ((c : Choice) → w ≢ option_text c) → (parts : List Part) → AreParts words parts → IsName w
word_is_name words rest w s no_option parts a =
    let o = open_parts words (w ∷ rest) false s parts a in
    word_first w rest o.0 o.2 (sym s.is_open ∙ o.1) no_option

pub no_value : (words : List (List ℕ)) → Seen words [] true → (parts : List Part) → ¬ AreParts words parts
no_value words s parts a =
    let o = open_parts words [] true s parts a in
    let v = value_behind s.is_open.0 [] o.0 o.2 (sym s.is_open.1 ∙ o.1) in
    let none : [] ≡ v.0 ∷ v.1 = v.2 in
    cc
