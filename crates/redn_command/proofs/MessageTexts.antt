-- Words that give messages.
use Rattle.std.proofs.Common.{◌≡◌, ℕ, ◌+◌, ◌<◌, ◌==◌, Bool, true, false, cond, not, List, [], ◌∷◌, ◌++◌, map, length, take, get_or, decimal, refl, sym, ap, ◌∙◌, arith, length-append}
use Rattle.std.specs.Prelude.{All}
use Rattle.std.specs.List.{list_all, position_or_len, before_first}
use Rattle.std.proofs.lemmas.Fmt.{decimal_injective}
use Rattle.std.proofs.lemmas.List.{get_or-map, length-map, take_at}
use Rattle.std.proofs.lemmas.List.Elements.{All-get_or, All-head, All-tail}
use Rattle.redn_text.specs.Texts.{is_not, IsSplit}
use Rattle.redn_text.proofs.Fields.{and_left, and_right, decimal_all, equals_is_no_digit, same_split}
use Rattle.redn_command.specs.Words.{MessageWord, IsMessageWord, HasSmallChain, message_text}

pub message_split : (word : List ℕ) (m : MessageWord) → IsMessageWord word m → IsSplit 61 word (decimal m.chain) m.digits
message_split word m is = record { is = is.text; first = decimal_all (is_not 61) equals_is_no_digit m.chain (omega (arith, is.small)) }

abbrev is_equals : ℕ → Bool
is_equals b = b == 61

-- the first `=` stands behind the front of a split
front_len : (front behind : List ℕ) → list_all (is_not 61) front ≡ true → position_or_len is_equals (front ++ 61 ∷ behind) ≡ length front
front_len [] behind e = refl
front_len (b ∷ front) behind e =
    let other : is_equals b ≡ false = is_false (is_equals b) (and_left (is_not 61 b) _ e) in
    let rest = front_len front behind (and_right (is_not 61 b) _ e) in
    ap (λ (v : Bool). cond (not v) (1 + position_or_len is_equals (front ++ 61 ∷ behind)) 0) other ∙ omega (arith, rest)
  where
    is_false : (v : Bool) → not v ≡ true → v ≡ false
    is_false true e = sym e
    is_false false e = refl

module _ (word : List ℕ) (m : MessageWord) (is : IsMessageWord word m) where
  equals_at : position_or_len is_equals word ≡ length (decimal m.chain)
  equals_at = ap (position_or_len is_equals) (message_split word m is).is ∙ front_len (decimal m.chain) m.digits (message_split word m is).first

  pub equals_within : ¬ (position_or_len is_equals word ≡ length word)
  equals_within e = omega (arith, equals_at, ap length (message_split word m is).is, length-append (decimal m.chain) (61 ∷ m.digits))

  pub chain_before : before_first is_equals word ≡ decimal m.chain
  chain_before = ap (λ (n : ℕ). take n word) equals_at ∙ ap (take (length (decimal m.chain))) (message_split word m is).is ∙ take_at (decimal m.chain) (61 ∷ m.digits) (length (decimal m.chain)) refl

word_with : ℕ → List ℕ → MessageWord
word_with chain digits = record { chain = chain; digits = digits }

same_word : (a b : ℕ) (c d : List ℕ) → a ≡ b → c ≡ d → word_with a c ≡ word_with b d
same_word a b c d e f = cc

-- a word gives one message
pub one_message : (m n : MessageWord) → HasSmallChain m → HasSmallChain n → message_text m ≡ message_text n → m ≡ n
unfolding word_with
one_message m n small few e =
    let same = same_split 61 (message_text m) (decimal m.chain) m.digits (decimal n.chain) n.digits (message_split (message_text m) m (record { text = refl; small = small })) (message_split (message_text m) n (record { text = e; small = few })) in
    same_word m.chain n.chain m.digits n.digits (decimal_injective m.chain n.chain (omega (arith, small)) (omega (arith, few)) same.0) same.1

pub same_messages : (ms ns : List MessageWord) → All HasSmallChain ms → All HasSmallChain ns → map message_text ms ≡ map message_text ns → ms ≡ ns
same_messages [] [] a b e = refl
same_messages [] (n ∷ ns) a b e = absurd (cc)
same_messages (m ∷ ms) [] a b e = absurd (cc)
same_messages (m ∷ ms) (n ∷ ns) a b e =
    let head : message_text m ≡ message_text n = cc in
    let tail : map message_text ms ≡ map message_text ns = cc in
    let first = one_message m n (All-head HasSmallChain m ms a) (All-head HasSmallChain n ns b) head in
    let rest = same_messages ms ns (All-tail HasSmallChain m ms a) (All-tail HasSmallChain n ns b) tail in
    cc

-- of words that give messages each gives one
pub each_gives : (words : List (List ℕ)) (messages : List MessageWord) (k : ℕ) (d : List ℕ) → words ≡ map message_text messages → All HasSmallChain messages → k < length words → (m : MessageWord) × IsMessageWord (get_or words k d) m
each_gives words messages k d e small inside =
    let same_length : length words ≡ length messages = ap length e ∙ length-map messages message_text in
    let there : k < length messages = omega (arith, same_length, inside) in
    let none : MessageWord = record { chain = 0; digits = [] } in (
      get_or messages k none,
      record { text = ap (λ l. get_or l k d) e ∙ get_or-map message_text messages k none d there; small = All-get_or HasSmallChain messages k none there small },
    )
