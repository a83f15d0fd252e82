-- The bytes of the generated table: each bucket has its key and its value.
use Rattle.std.proofs.Common.{arith, ◌≡◌, ℕ, zero, suc, ◌+◌, ◌*◌, ◌^◌, ◌<◌, ◌≤◌, inl, inr, List, [], ◌∷◌, ◌++◌, length, map, fold, replicate, refl, sym, ap, subst, ◌∙◌}
use Rattle.std.specs.List.{flat_map}
use Rattle.std.proofs.lemmas.Bool.{cases_lt}
use Rattle.std.proofs.lemmas.List.{length-replicate}
use Rattle.std.proofs.lemmas.Grind.{fold-append}
use Rattle.redn_words.specs.Words.{bytes_at, word, with_bytes_at, spelled}
use Rattle.redn_words.proofs.Numbers.{length-spelled, number-spelled, number-bytes_at, number_same}
use Rattle.redn_words.proofs.Places.{length-with_bytes_at, bytes_at-same, bytes_at-below}
use Rattle.redn_syntax.specs.declared.tree.Item.{Item}
use Rattle.redn_check.specs.Rules.{end_of}
use Rattle.redn_check.specs.Numbering.{placed, written}
use Rattle.redn_check.proofs.Behind.{end_push}
use Rattle.redn_check.proofs.Written.{placed_push}
use Rattle.redn_gen.specs.Generated as g
use Rattle.redn_gen.specs.Generated.{below, key, bucket}
use Rattle.redn_gen.proofs.Below.{one_more, next_bucket}

-- ---- a word that is put into bytes

module _ (b : List ℕ) (o v : ℕ) (fits : o + 8 ≤ length b) where
  room : o + length (spelled 8 v) ≤ length b
  room = omega (arith, length-spelled 8 v)

  put_size : length (with_bytes_at b o (spelled 8 v)) ≡ length b
  put_size = length-with_bytes_at b (spelled 8 v) o room

  put_here : v < 2 ^ 64 → word (with_bytes_at b o (spelled 8 v)) o ≡ v
  put_here small =
      let there = ap (λ n. bytes_at (with_bytes_at b o (spelled 8 v)) o n) (sym (length-spelled 8 v)) ∙ bytes_at-same b (spelled 8 v) o room in
      number-bytes_at 8 (with_bytes_at b o (spelled 8 v)) o ∙ ap (λ l. word l 0) there ∙ number-spelled 8 v (omega (arith, small))

  put_behind : (p : ℕ) → p + 8 ≤ o → word (with_bytes_at b o (spelled 8 v)) p ≡ word b p
  put_behind p h = number_same 8 (with_bytes_at b o (spelled 8 v)) b p p (bytes_at-below b (spelled 8 v) o room p 8 h)

-- ---- items over zeros

-- the words of the first m buckets
abbrev pub items_of : ℕ → ℕ → List Item
items_of n m = map g.word (flat_map (bucket n) (below m))

module _ (size : ℕ) where
  -- zeros, with the words of the items over them
  abbrev pub bytes : List Item → List ℕ
  bytes items = fold written (replicate size 0) (placed items)

  bytes_push : (items : List Item) (v : ℕ) → bytes (items ++ g.word v ∷ []) ≡ with_bytes_at (bytes items) (end_of items) (spelled 8 v)
  bytes_push items v =
      ap (fold written (replicate size 0)) (placed_push items (g.word v)) ∙ fold-append written (replicate size 0) (placed items) ((end_of items, v) ∷ [])

  -- so many words in a row, with room behind them
  record InARow (items : List Item) (count : ℕ) : Type 0 where
    ends : end_of items ≡ 8 * count
    whole : length (bytes items) ≡ size

  -- one more word
  record OneMore (items : List Item) (count v : ℕ) : Type 0 where
    row : InARow (items ++ g.word v ∷ []) (count + 1)
    here : word (bytes (items ++ g.word v ∷ [])) (8 * count) ≡ v
    before : (p : ℕ) → p + 8 ≤ 8 * count → word (bytes (items ++ g.word v ∷ [])) p ≡ word (bytes items) p

  one_word : (items : List Item) (count v : ℕ) → InARow items count → 8 * count + 8 ≤ size → v < 2 ^ 64 → OneMore items count v
  one_word items count v r fits small =
      let b = bytes items in
      let o = end_of items in
      let at : o ≡ 8 * count = r.ends in
      let room' : o + 8 ≤ length b = omega (arith, r.whole, at) in
      let further : o + 8 ≡ 8 * (count + 1) = omega (arith, at) in
      let grown = bytes_push items v in
      record {
        row = record { ends = end_push items (g.word v) ∙ further; whole = ap length grown ∙ put_size b o v room' ∙ r.whole };
        here = ap (word (bytes (items ++ g.word v ∷ []))) (sym at) ∙ ap (λ l. word l o) grown ∙ put_here b o v room' small;
        before = λ p h. ap (λ l. word l p) grown ∙ put_behind b o v room' p (omega (arith, at, h));
      }

  -- the first m buckets
  pub record Filled (n m : ℕ) : Type 0 where
    row : InARow (items_of n m) (2 * m)
    pub keys : (j : ℕ) → j < m → word (bytes (items_of n m)) (16 * j) ≡ key n j
    pub values : (j : ℕ) → j < m → word (bytes (items_of n m)) (16 * j + 8) ≡ n + j

  pub whole : (n m : ℕ) → Filled n m → length (bytes (items_of n m)) ≡ size
  whole n m f = f.row.whole

  none_filled : (n : ℕ) → Filled n 0
  unfolding below
  none_filled n = record {
    row = record { ends = refl; whole = length-replicate size 0 };
    keys = λ j h. absurd (omega (arith, h));
    values = λ j h. absurd (omega (arith, h));
  }

  -- what is laid by a bucket, over variables
  record Both (items : List Item) (count k v : ℕ) : Type 0 where
    row : InARow ((items ++ g.word k ∷ []) ++ g.word v ∷ []) (count + 1 + 1)
    first : word (bytes ((items ++ g.word k ∷ []) ++ g.word v ∷ [])) (8 * count) ≡ k
    second : word (bytes ((items ++ g.word k ∷ []) ++ g.word v ∷ [])) (8 * (count + 1)) ≡ v
    before : (p : ℕ) → p + 8 ≤ 8 * count → word (bytes ((items ++ g.word k ∷ []) ++ g.word v ∷ [])) p ≡ word (bytes items) p

  two_words : (items : List Item) (count k v : ℕ) → InARow items count → 8 * count + 16 ≤ size → k < 2 ^ 64 → v < 2 ^ 64 → Both items count k v
  two_words items count k v r fits small small' =
      let one = one_word items count k r (omega (arith, fits)) small in
      let two = one_word (items ++ g.word k ∷ []) (count + 1) v one.row (omega (arith, fits)) small' in
      record {
        row = two.row;
        first = two.before (8 * count) (omega arith) ∙ one.here;
        second = two.here;
        before = λ p h. two.before p (omega (arith, h)) ∙ one.before p h;
      }

  -- each bucket up to one more
  more : (P : ℕ → Type 0) (m : ℕ) → ((j : ℕ) → j < m → P j) → P m → (j : ℕ) → j < suc m → P j
  more P m all this j h =
      elim (cases_lt j m) [
        | inl less ↦ all j less
        | inr past ↦ let same : m ≡ j = omega (arith, h, past) in subst P same this
      ]

  one_filled : (n m : ℕ) (items next : List Item) → next ≡ (items ++ g.word (key n m) ∷ []) ++ g.word (n + m) ∷ [] → InARow items (2 * m) →
      ((j : ℕ) → j < m → word (bytes items) (16 * j) ≡ key n j) → ((j : ℕ) → j < m → word (bytes items) (16 * j + 8) ≡ n + j) →
      Both items (2 * m) (key n m) (n + m) →
      (InARow next (2 * suc m)) × ((j : ℕ) → j < suc m → word (bytes next) (16 * j) ≡ key n j) × ((j : ℕ) → j < suc m → word (bytes next) (16 * j + 8) ≡ n + j)
  one_filled n m items next is r keys values b =
      let all : List Item = (items ++ g.word (key n m) ∷ []) ++ g.word (n + m) ∷ [] in
      let count : 2 * m + 1 + 1 ≡ 2 * suc m = omega arith in
      let at : 8 * (2 * m) ≡ 16 * m = omega arith in
      let at' : 8 * (2 * m + 1) ≡ 16 * m + 8 = omega arith in
      let same : (p : ℕ) → word (bytes next) p ≡ word (bytes all) p = λ p. ap (λ l. word (bytes l) p) is in (
        subst (λ l. InARow l (2 * suc m)) (sym is) (subst (InARow all) count b.row),
        more (λ j. word (bytes next) (16 * j) ≡ key n j) m (λ j h. same (16 * j) ∙ b.before (16 * j) (omega (arith, h)) ∙ keys j h) (same (16 * m) ∙ ap (word (bytes all)) (sym at) ∙ b.first),
        more (λ j. word (bytes next) (16 * j + 8) ≡ n + j) m (λ j h. same (16 * j + 8) ∙ b.before (16 * j + 8) (omega (arith, h)) ∙ values j h) (same (16 * m + 8) ∙ ap (word (bytes all)) (sym at') ∙ b.second),
      )

  pub filled : (n m : ℕ) → n < 2 ^ 32 → m ≤ 512 → 16 * m ≤ size → Filled n m
  filled n zero low few fits = none_filled n
  filled n (suc m) low few fits =
      let f = filled n m low (omega (arith, few)) (omega (arith, fits)) in
      let both = two_words (items_of n m) (2 * m) (key n m) (n + m) f.row (omega (arith, fits)) (omega (arith, few)) (omega (arith, low, few)) in
      let is : items_of n (suc m) ≡ (items_of n m ++ g.word (key n m) ∷ []) ++ g.word (n + m) ∷ [] = ap (items_of n) (sym (one_more m)) ∙ next_bucket n m in
      let next = one_filled n m (items_of n m) (items_of n (suc m)) is f.row f.keys f.values both in
      record { row = next.0; keys = next.1; values = next.2 }
