-- What holds of each number below a numeral.
use Rattle.std.proofs.Common.{ℕ, zero, suc, ◌<◌, arith}

pub below_one : (P : ℕ → Type 0) → P 0 → (k : ℕ) → k < 1 → P k
below_one P a zero l = a
below_one P a (suc k) l = absurd (omega arith)

pub below_two : (P : ℕ → Type 0) → P 0 → P 1 → (k : ℕ) → k < 2 → P k
below_two P a b zero l = a
below_two P a b (suc k) l = below_one (λ n. P (suc n)) b k (omega arith)

pub below_three : (P : ℕ → Type 0) → P 0 → P 1 → P 2 → (k : ℕ) → k < 3 → P k
below_three P a b c zero l = a
below_three P a b c (suc k) l = below_two (λ n. P (suc n)) b c k (omega arith)

pub below_four : (P : ℕ → Type 0) → P 0 → P 1 → P 2 → P 3 → (k : ℕ) → k < 4 → P k
below_four P a b c d zero l = a
below_four P a b c d (suc k) l = below_three (λ n. P (suc n)) b c d k (omega arith)

pub below_five : (P : ℕ → Type 0) → P 0 → P 1 → P 2 → P 3 → P 4 → (k : ℕ) → k < 5 → P k
below_five P a b c d e zero l = a
below_five P a b c d e (suc k) l = below_four (λ n. P (suc n)) b c d e k (omega arith)

pub below_six : (P : ℕ → Type 0) → P 0 → P 1 → P 2 → P 3 → P 4 → P 5 → (k : ℕ) → k < 6 → P k
below_six P a b c d e f zero l = a
below_six P a b c d e f (suc k) l = below_five (λ n. P (suc n)) b c d e f k (omega arith)
