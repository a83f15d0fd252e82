-- The first word of some bytes.
use Rattle.std.proofs.Common.{◌≡◌, ℕ, ◌≤◌, List, drop, sym, ap, ◌∙◌}
use Rattle.std.proofs.lemmas.List.{take-take}
use Rattle.redn_words.specs.Words.{bytes_at, number}
use Rattle.redn_words.proofs.Numbers.{number-bytes_at}

-- a number in the bytes at a place is that in memory there
pub number-first : (n : ℕ) (b : List ℕ) (o k : ℕ) → n ≤ k → number n b o ≡ number n (bytes_at b o k) 0
number-first n b o k h =
    number-bytes_at n b o ∙ ap (λ l. number n l 0) (sym (take-take n k (drop o b) h)) ∙ sym (number-bytes_at n (bytes_at b o k) 0)
