use Rattle.std.proofs.Common.{◌≡◌, ◌≢◌, ◌∙◌, ◌+◌, ◌<◌, ℕ, suc, Bool, true, false, true≢false, List, [], ◌∷◌, length, map, drop, get_or, string_bytes, refl, sym, ap, subst, arith, rules, drop-cons, drop_of_length-le}
use Rattle.std.specs.Prelude.{IfNone, IfSome, IsTrue, None, Option, Some, is_some, not}
use Rattle.redn_command.specs.declared.line.Choice.{Choice}
use Rattle.redn_command.specs.Words.{IsName, Part, option_text}
use Rattle.redn_command.specs.Lines.{AreParts}
use Rattle.redn_command.proofs.Parts.{Seen, name_seen, no_value, option_seen, value_is_name, word_is_name}
use Rattle.redn_command.proofs.line.are_parts.Goals.{then-is_name, else-is_name+else-wants_value+else-not-is_option}
use Rattle.redn_command.proofs.line.are_parts.Goals as goal

rest_from : {A : Type 0} (f : A → List ℕ) (xs : List A) (k : ℕ) (x : A) → k < length xs → x ≡ get_or xs k x → map f (drop k xs) ≡ f x ∷ map f (drop (k + 1) xs)
rest_from f xs k x inside is =
    let next : k + 1 ≡ suc k = omega arith in
    ap (map f) (drop-cons xs k x inside) ∙ ap (λ y. f y ∷ map f (drop (suc k) xs)) (sym is) ∙ ap (λ n. f x ∷ map f (drop n xs)) (sym next)

ended : (words : List (List ℕ)) (b : Bool) → Seen words [] b → (parts : List Part) → AreParts words parts → IsTrue (not b)
ended words true s parts a = absurd (no_value words s parts a)
ended words false s parts a = refl

pub returns-then-wants_value-clause-no : goal.returns-then-wants_value-clause-no
returns-then-wants_value-clause-no c =
    let words = map string_bytes c.args.words.now in
    let rest = map string_bytes (drop (c.loop-word.word-index + 1) c.args.words.now) in
    let w = string_bytes c.word-item.result in
    let at : map string_bytes (drop c.loop-word.word-index c.args.words.now) ≡ w ∷ rest =
    rest_from string_bytes c.args.words.now c.loop-word.word-index c.word-item.result c.loop-word-test.true c.word-item.is in
    let text : c.deref.result.now ≡ w = search rules in
    let no_name : ¬ IsName w = λ h. true≢false (sym (c.is_name.ensures.1 (subst IsName (sym text) h)) ∙ c.if-is_name.false) in
    let seen = subst (λ (l : List (List ℕ)). Seen words l c.loop-word.wants_value) at c.loop-word.invariant in
    λ parts a. absurd (no_name (value_is_name words rest w (subst (λ (x : Bool). Seen words (w ∷ rest) x) c.if-wants_value.true seen) parts a))

pub returns-then-not-is_option-clause-no : goal.returns-then-not-is_option-clause-no
returns-then-not-is_option-clause-no c =
    let words = map string_bytes c.args.words.now in
    let rest = map string_bytes (drop (c.loop-word.word-index + 1) c.args.words.now) in
    let w = string_bytes c.word-item.result in
    let at : map string_bytes (drop c.loop-word.word-index c.args.words.now) ≡ w ∷ rest =
    rest_from string_bytes c.args.words.now c.loop-word.word-index c.word-item.result c.loop-word-test.true c.word-item.is in
    let text : c.deref.result.now ≡ w = search rules in
    let no_name : ¬ IsName w = λ h. true≢false (sym (c.is_name.ensures.1 (subst IsName (sym text) h)) ∙ c.if-is_name.false) in
    let seen = subst (λ (l : List (List ℕ)). Seen words l c.loop-word.wants_value) at c.loop-word.invariant in
    λ parts a. absurd (no_name (word_is_name words rest w (subst (λ (x : Bool). Seen words (w ∷ rest) x) c.if-wants_value.false seen)
    (λ o same. true≢false (sym (c.is_option.ensures.no o (c.deref-else-is_name.ensures ∙ same)) ∙ c.if-not-is_option.true)) parts a))

pub returns-clause-no : goal.returns-clause-no
returns-clause-no c =
    let words = map string_bytes c.args.words.now in
    let end : map string_bytes (drop c.loop-word.word-index c.args.words.now) ≡ [] = ap (map string_bytes) (drop_of_length-le c.args.words.now c.loop-word-test.false) in
    let seen = subst (λ (l : List (List ℕ)). Seen words l c.loop-word.wants_value) end c.loop-word.invariant in
    ended words c.loop-word.wants_value seen

pub loop-word-preserved : goal.loop-word-preserved
loop-word-preserved c =
    let words = map string_bytes c.args.words.now in
    let rest = map string_bytes (drop (c.loop-word.word-index + 1) c.args.words.now) in
    let w = string_bytes c.word-item.result in
    let at : map string_bytes (drop c.loop-word.word-index c.args.words.now) ≡ w ∷ rest =
    rest_from string_bytes c.args.words.now c.loop-word.word-index c.word-item.result c.loop-word-test.true c.word-item.is in
    let text : c.deref.result.now ≡ w = search rules in
    let seen = subst (λ (l : List (List ℕ)). Seen words l c.loop-word.wants_value) at c.loop-word.invariant in
    elim c.if-is_name.branch [
      | then-is_name b ↦ rw b.wants_value-is (name_seen words rest w c.loop-word.wants_value (subst IsName text (c.is_name.ensures.0 b.if-is_name.true)) seen)
      | else-is_name+else-wants_value+else-not-is_option b ↦ rw b.wants_value-is (
          let o = b.is_option.ensures.yes b.if-not-is_option.false in
          let is : w ≡ option_text o.0 = sym b.deref-else-is_name.ensures ∙ o.1 in
          let open_now = subst (λ (x : Bool). Seen words (w ∷ rest) x) b.if-wants_value.false seen in
          option_seen words rest o.0 (subst (λ (x : List ℕ). Seen words (x ∷ rest) false) is open_now))
    ]
