-- What the steps of a chain of the generated file show: how many events, and which of them are replies.
use Rattle.std.proofs.Common.{arith, ◌≡◌, ℕ, zero, suc, ◌+◌, ◌*◌, true, false, cond, List, [], ◌∷◌, length, refl, sym, ap, ◌∙◌}
use Rattle.std.specs.Prelude.{◌==◌}
use Rattle.std.specs.List.{filter}
use Rattle.std.proofs.lemmas.Bool.{false≢true, eq-eqb}
use Rattle.redn_words.specs.declared.types.Obs.{Obs}
use Rattle.redn_words.specs.declared.types.Obs.TheVariants as shows
use Rattle.redn_words.specs.Runs.{shown_then}
use Rattle.redn_kernel.specs.Source.{eight}
use Rattle.redn_gen.specs.Runs.{is_reply_of}
use Rattle.redn_gen.proofs.Stages.{Stage, First, Second, Entry, Looks, Finds, Takes, Sums, Counts, Again, Answers, Over, shown, is_over, next, IsAt, event_of}

-- the replies that are to come
abbrev pub pending : ℕ → ℕ → Stage → List Obs
pending v c (Over s i) = []
pending v c _ = shows.Reply c 2 (eight (1000 * v ∷ 1000 ∷ [])) ∷ []

pub none_pending : (v c : ℕ) (p : Stage) → is_over p ≡ true → pending v c p ≡ []
none_pending v c (Over s i) h = refl
none_pending v c p h = absurd (false≢true h)

pub all_shown : (p : Stage) → is_over p ≡ true → shown p ≡ 4003
all_shown (Over s i) h = refl
all_shown p h = absurd (false≢true h)

module _ (o key v c : ℕ) (rest : List Obs) where
  -- so many more events
  pub counted : (p : Stage) → IsAt v p → length (shown_then (event_of o key v c p) rest) + shown p ≡ length rest + shown (next v p)
  counted First h = omega arith
  counted Second h = omega arith
  counted Entry h = refl
  counted (Looks x s i left) h = refl
  counted (Finds x s i left) h = omega arith
  counted (Takes x s i left) h = omega arith
  counted (Sums s i left) h = omega arith
  counted (Counts s i left) h = omega arith
  counted (Again s i zero) h = omega (arith, h.1)
  counted (Again s i (suc left)) h = refl
  counted (Answers s i) h = omega arith
  counted (Over s i) h = refl

  -- of another chain none is a reply
  pub other_reply : (d : ℕ) (p : Stage) → (c == d) ≡ false → filter (is_reply_of d) (shown_then (event_of o key v c p) rest) ≡ filter (is_reply_of d) rest
  other_reply d First h = refl
  other_reply d Second h = refl
  other_reply d Entry h = refl
  other_reply d (Looks x s i left) h = refl
  other_reply d (Finds x s i left) h = refl
  other_reply d (Takes x s i left) h = refl
  other_reply d (Sums s i left) h = refl
  other_reply d (Counts s i left) h = refl
  other_reply d (Again s i left) h = refl
  other_reply d (Answers s i) h = ap (λ b. cond b (shows.Reply c 2 (eight (s ∷ i ∷ [])) ∷ filter (is_reply_of d) rest) (filter (is_reply_of d) rest)) h
  other_reply d (Over s i) h = refl

  -- the last step shows the reply
  pub own_reply : (p : Stage) → IsAt v p → filter (is_reply_of c) rest ≡ pending v c (next v p) → is_over p ≡ false →
      filter (is_reply_of c) (shown_then (event_of o key v c p) rest) ≡ pending v c p
  own_reply First h e on = e
  own_reply Second h e on = e
  own_reply Entry h e on = e
  own_reply (Looks x s i left) h e on = e
  own_reply (Finds x s i left) h e on = e
  own_reply (Takes x s i left) h e on = e
  own_reply (Sums s i left) h e on = e
  own_reply (Counts s i left) h e on = e
  own_reply (Again s i zero) h e on = e
  own_reply (Again s i (suc left)) h e on = e
  own_reply (Answers s i) h e on =
      ap (λ b. cond b (shows.Reply c 2 (eight (s ∷ i ∷ [])) ∷ filter (is_reply_of c) rest) (filter (is_reply_of c) rest)) (eq-eqb c c refl)
      ∙ (λ j. shows.Reply c 2 (eight (h.0 j ∷ h.1 j ∷ [])) ∷ e j)
  own_reply (Over s i) h e on = absurd (false≢true (sym on))
