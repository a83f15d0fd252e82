-- Bytes and fronts of lists.
use Rattle.std.proofs.Common.{◌≡◌, ℕ, zero, suc, ◌<◌, inl, inr, List, [], ◌∷◌, length, take, refl, ap, arith}
use Rattle.std.specs.Prelude.{slice_index}
use Rattle.std.proofs.lemmas.Bool.{cases_lt}
use Rattle.std.proofs.lemmas.List.{get_or_past}
use Rattle.std.proofs.lemmas.List.Elements.{All-get_or}
use Rattle.redn_proof_window.specs.Scripts.{IsBytes}

pub each_byte : (b : List ℕ) → IsBytes b → (k : ℕ) → slice_index b k < 256
each_byte b h k =
    elim (cases_lt k (length b)) [
      | inl low ↦ All-get_or (λ (x : ℕ). x < 256) b k 0 low h
      | inr high ↦ let e : slice_index b k ≡ 0 = get_or_past b k 0 high in omega (arith, e)
    ]

pub take_whole : (l : List ℕ) (n : ℕ) → length l ≡ n → take n l ≡ l
take_whole [] zero e = refl
take_whole [] (suc n) e = refl
take_whole (y ∷ l) zero e = absurd (omega (arith, e))
take_whole (y ∷ l) (suc n) e = ap (λ (k : List ℕ). y ∷ k) (take_whole l n (omega (arith, e)))
