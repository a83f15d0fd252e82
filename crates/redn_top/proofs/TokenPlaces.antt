-- Where a token stands.
use Rattle.std.proofs.Common.{◌≡◌, ℕ, ◌<◌, ◌≤◌, List, length, get_or, refl, sym, ap, ◌∙◌}
use Rattle.std.specs.Prelude.{Option, Some, None, slice_get}
use Rattle.std.specs.Option.{option_map_or}
use Rattle.std.proofs.lemmas.Option.{slice_get_read, slice_get_past}
use Rattle.redn_syntax.specs.declared.token.Token.{Token}
use Rattle.redn_top.specs.Sources.{token_place}

pub place_there : (text : List ℕ) (tokens list : List Token) (n : ℕ) (t : Token) → list ≡ tokens → n < length list → t ≡ get_or list n t → t.at ≡ token_place text tokens n
place_there text tokens list n t e h is =
    let there : slice_get tokens n ≡ Some t = ap (λ (l : List Token). slice_get l n) (sym e) ∙ slice_get_read list (length list) n t refl h is in
    sym (ap (λ (o : Option Token). option_map_or (λ (u : Token). u.at) o (length text)) there)

pub place_behind : (text : List ℕ) (tokens list : List Token) (n : ℕ) → list ≡ tokens → length list ≤ n → length text ≡ token_place text tokens n
place_behind text tokens list n e h =
    let none : slice_get tokens n ≡ None = ap (λ (l : List Token). slice_get l n) (sym e) ∙ slice_get_past list n h in
    sym (ap (λ (o : Option Token). option_map_or (λ (u : Token). u.at) o (length text)) none)
