-- The words of a message.
use Rattle.std.proofs.Common.{◌≡◌, ℕ, zero, suc, ◌+◌, ◌*◌, List, [], ◌∷◌, ◌++◌, length, refl, ap, ◌∙◌, add-one, arith}
use Rattle.redn_words.specs.Words.{word}
use Rattle.redn_words.specs.Arguments.{argument_words}

words_from : (bytes : List ℕ) (i n : ℕ) → argument_words bytes i (suc n) ≡ argument_words bytes i n ++ word bytes (8 * (i + n)) ∷ []
words_from bytes i zero = ap (λ j. word bytes (8 * j) ∷ []) (omega arith)
words_from bytes i (suc n) =
    ap (λ ws. word bytes (8 * i) ∷ ws) (words_from bytes (i + 1) n ∙ ap (λ j. argument_words bytes (i + 1) n ++ word bytes (8 * j) ∷ []) (omega arith))

-- one more word of a message
pub words_more : (bytes : List ℕ) (n : ℕ) → argument_words bytes 0 (n + 1) ≡ argument_words bytes 0 n ++ word bytes (8 * n) ∷ []
words_more bytes n =
    ap (argument_words bytes 0) (add-one n) ∙ words_from bytes 0 n ∙ ap (λ j. argument_words bytes 0 n ++ word bytes (8 * j) ∷ []) (omega arith)

pub length-argument_words : (bytes : List ℕ) (i n : ℕ) → length (argument_words bytes i n) ≡ n
length-argument_words bytes i zero = refl
length-argument_words bytes i (suc n) = ap suc (length-argument_words bytes (i + 1) n)
