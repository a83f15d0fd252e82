-- The words of a message, one for each argument of its chain.
use Rattle.std.specs.Prelude.{ℕ, zero, suc, ◌+◌, ◌*◌, List, [], ◌∷◌}
use Rattle.redn_words.specs.Words.{word}

-- n words of a message from word i on
abbrev pub argument_words : List ℕ → ℕ → ℕ → List ℕ
argument_words bytes i zero = []
argument_words bytes i (suc n) = word bytes (8 * i) ∷ argument_words bytes (i + 1) n
