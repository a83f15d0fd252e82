-- The order of the requests in flight through each change.
use Rattle.std.proofs.Common.{◌≡◌, ℕ, zero, suc, ◌<◌, ◌≤◌, not, ◌&&◌, ◌==◌, true, false, cond, List, [], ◌∷◌, ◌++◌, length, get_or, refl, ap, arith}
use Rattle.std.proofs.lemmas.List.Elements.{All-push}
use Rattle.std.proofs.lemmas.List.Quantifiers.{all_pairs_push}
use Rattle.redn_words.specs.declared.types.Flight.{Flight}
use Rattle.redn_words.specs.Steps.{with_landed}
use Rattle.redn_words.specs.InOrder.{IsRising, AllBelow}

pub IsRising-push : (fs : List Flight) (f : Flight) → IsRising fs → AllBelow f.index fs → IsRising (fs ++ f ∷ [])
IsRising-push fs f rising below = all_pairs_push (λ (f g : Flight). f.index < g.index) fs f rising below

pub IsRising-rest : (f : Flight) (fs : List Flight) → IsRising (f ∷ fs) → IsRising fs
IsRising-rest f fs rising = λ i j d lt l. rising (suc i) (suc j) d (omega arith) (omega arith)

pub AllBelow-more : (n m : ℕ) (fs : List Flight) → n ≤ m → AllBelow n fs → AllBelow m fs
AllBelow-more n m fs le below = λ k d l. omega (arith, below k d l)

pub AllBelow-push : (n m : ℕ) (fs : List Flight) (f : Flight) → n ≤ m → f.index < m → AllBelow n fs → AllBelow m (fs ++ f ∷ [])
AllBelow-push n m fs f le lt below = All-push (λ (g : Flight). g.index < m) fs f (AllBelow-more n m fs le below) lt

-- a landing changes no index
index_stays : (i k : ℕ) (fs : List Flight) (d : Flight) → (get_or (with_landed i fs) k d).index ≡ (get_or fs k d).index
index_stays i k [] d = refl
index_stays i zero (f ∷ fs) d =
    elim (f.index == i && not f.landed) as (λ b. (get_or (cond b (record f { landed = true } ∷ fs) (f ∷ with_landed i fs)) 0 d).index ≡ f.index) [ true ↦ refl | false ↦ refl ]
index_stays i (suc k) (f ∷ fs) d =
    elim (f.index == i && not f.landed) as (λ b. (get_or (cond b (record f { landed = true } ∷ fs) (f ∷ with_landed i fs)) (suc k) d).index ≡ (get_or fs k d).index) [ true ↦ refl | false ↦ index_stays i k fs d ]

pub length-landed : (i : ℕ) (fs : List Flight) → length (with_landed i fs) ≡ length fs
length-landed i [] = refl
length-landed i (f ∷ fs) =
    elim (f.index == i && not f.landed) as (λ b. length (cond b (record f { landed = true } ∷ fs) (f ∷ with_landed i fs)) ≡ suc (length fs)) [ true ↦ refl | false ↦ ap suc (length-landed i fs) ]

pub IsRising-landed : (i : ℕ) (fs : List Flight) → IsRising fs → IsRising (with_landed i fs)
IsRising-landed i fs rising = λ j k d lt l. omega (arith, index_stays i j fs d, index_stays i k fs d, rising j k d lt (omega (arith, l, length-landed i fs)))

pub AllBelow-landed : (i n : ℕ) (fs : List Flight) → AllBelow n fs → AllBelow n (with_landed i fs)
AllBelow-landed i n fs below = λ k d l. omega (arith, index_stays i k fs d, below k d (omega (arith, l, length-landed i fs)))
