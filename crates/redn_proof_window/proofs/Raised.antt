-- Slots of a chain's rings behind a window: those that no body writes, and those whose second operand an ADD has raised.
use Rattle.std.proofs.Common.{◌≡◌, ℕ, ◌+◌, List, [], ◌∷◌, take, drop, sym, ap, ◌∙◌, arith}
use Rattle.std.proofs.lemmas.List.{take-take, drop-take, drop-drop}
use Rattle.redn_words.specs.declared.types.Request.{Request}
use Rattle.redn_words.specs.Words.{bytes_at, number, word}
use Rattle.redn_words.specs.Requests.{decoded, encoded}
use Rattle.redn_words.specs.Landings.{Place}
use Rattle.redn_words.proofs.Numbers.{number_same}
use Rattle.redn_words.proofs.Slots.{decoded-encoded}
use Rattle.redn_words.specs.Slots.{IsNarrow}

abbrev pub range : ℕ → ℕ → List Place
range at len = record { at = at; len = len } ∷ []

-- the second operand in a slot, as an ADD to it reads it
pub second_at : (m : List ℕ) (at : ℕ) (r : Request) → IsNarrow r → bytes_at m at 64 ≡ encoded r → word (bytes_at m (at + 48) 8) 0 ≡ r.second
unfolding decoded
second_at m at r narrow e =
    let left : take 8 (take 8 (drop (at + 48) m)) ≡ take 8 (drop (at + 48) m) = take-take 8 8 (drop (at + 48) m) (omega arith) in
    let cut : drop 48 (take 64 (drop at m)) ≡ take 16 (drop 48 (drop at m)) = drop-take 48 16 (drop at m) in
    let behind : drop 48 (drop at m) ≡ drop (at + 48) m = drop-drop 48 at m in
    let right : take 8 (drop 48 (take 64 (drop at m))) ≡ take 8 (drop (at + 48) m) = ap (take 8) cut ∙ take-take 8 16 (drop 48 (drop at m)) (omega arith) ∙ ap (take 8) behind in
    number_same 8 (bytes_at m (at + 48) 8) (bytes_at m at 64) 0 48 (left ∙ sym right) ∙ ap (λ (l : List ℕ). number 8 l 48) e ∙ ap (λ (q : Request). q.second) (decoded-encoded r narrow)
