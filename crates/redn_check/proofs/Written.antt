-- One more item of a table's bytes.
use Rattle.std.proofs.Common.{◌≡◌, ℕ, ◌+◌, ◌<◌, Bool, true, false, List, [], ◌∷◌, ◌++◌, length, map, take, fold, get_or, sym, ap, ◌∙◌}
use Rattle.std.specs.Bool.{OnTrue, IsTrue}
use Rattle.std.proofs.lemmas.List.{take_more, map-append}
use Rattle.std.proofs.lemmas.Grind.{fold-append}
use Rattle.redn_words.specs.Words.{with_bytes_at, spelled}
use Rattle.redn_syntax.specs.declared.tree.Item.{Item}
use Rattle.redn_check.specs.Rules.{offset_behind, end_of}
use Rattle.redn_check.specs.Numbering.{placed, written}
use Rattle.redn_check.proofs.EarliestOf.{with_earlier_push}

pub placed_push : (items : List Item) (x : Item) → placed (items ++ x ∷ []) ≡ placed items ++ (offset_behind (end_of items) x, x.word.value) ∷ []
placed_push items x =
    ap (map (λ e. (offset_behind (end_of e.0) e.1, e.1.word.value))) (with_earlier_push items x)
    ∙ map-append (λ e. (offset_behind (end_of e.0) e.1, e.1.word.value)) _ ((items, x) ∷ [])

on_true : (b : Bool) (P : Type 0) → IsTrue b → OnTrue b P → P
on_true true P h p = p
on_true false P h p = cc

pub written_more : (first old new : List ℕ) (items : List Item) (i end offset : ℕ) (d : Item) (r : Bool) → i < length items → end ≡ end_of (take i items) → offset ≡ offset_behind end (get_or items i d) →
    old ≡ fold written first (placed (take i items)) → IsTrue r → OnTrue r (new ≡ with_bytes_at old offset (spelled 8 (get_or items i d).word.value)) → new ≡ fold written first (placed (take (i + 1) items))
written_more first old new items i end offset d r within ended stands before done wrote =
    let x = get_or items i d in
    let there : offset ≡ offset_behind (end_of (take i items)) x = stands ∙ ap (λ e. offset_behind e x) ended in
    let pair : (ℕ × ℕ) = (offset_behind (end_of (take i items)) x, x.word.value) in
    on_true r _ done wrote ∙ (λ j. with_bytes_at (before j) (there j) (spelled 8 x.word.value))
    ∙ sym (fold-append written first (placed (take i items)) (pair ∷ [])) ∙ ap (fold written first) (sym (ap placed (take_more items i d within) ∙ placed_push (take i items) x))
