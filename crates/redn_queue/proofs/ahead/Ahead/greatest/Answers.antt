use Rattle.std.proofs.Common.{◌≡◌, ◌+◌, ◌-◌, ◌<◌, ◌≤◌, ℕ, min, List, reverse, Option, Some, None, length, get_or, refl, sym, ap, ◌∙◌, arith}
use Rattle.std.specs.Prelude.{IsSome, IfSome}
use Rattle.std.specs.Borrow.{Bor}
use Rattle.std.specs.Option.{option_copied}
use Rattle.std.specs.List.{find, range_with_len}
use Rattle.std.specs.VecDeque.{deque_len}
use Rattle.std.proofs.lemmas.Bool.{false≢true}
use Rattle.std.specs.FinMap.{get}
use Rattle.redn_words.specs.States.{Copies}
use Rattle.redn_queue.specs.Covers.{Covers, LastPasses}
use Rattle.redn_queue.specs.Windows.{Window, lacks}
use Rattle.redn_queue.proofs.Covers.{none_after, same_read}
use Rattle.redn_queue.proofs.Seeking.{seeks, greatest_bare, greatest_gap, no_gap}
use Rattle.redn_queue.proofs.ahead.Ahead.greatest.Goals as goal
use Rattle.redn_queue.proofs.ahead.Ahead.greatest.Goals.{After-min-end}

ends : (c : After-min-end) → c.min-end.result ≡ min c.args.limit (c.self.inside.head + length c.self.inside.places.items)
ends c = let fits = c.ranges.limit in omega (arith, c.min-end.ensures, c.saturating_add.ensures, c.len.ensures, c.self.inside.places.ok, fits)

pub returns-then-self-end : goal.returns-then-self-end
returns-then-self-end c =
    let a = c.self.inside in
    let inv = c.self.invariant in
    let at = (goal.at.returns-then-self-end c).After-min-end in
    rw (← c.self.view_is) (sym (greatest_bare _ c.args.limit a.head (length a.places.items) a.untouched c.min-end.result inv.low inv.bare (ends at) c.if-self-end.true))

-- the last of the gaps, if there is one
module _ (copies : Copies) (limit h slots u end : ℕ) (low : h ≤ u) (near : u ≤ h + slots) (lim : u ≤ limit) (bare : (i : ℕ) → u ≤ i → get copies i ≡ None) (is : end ≡ min limit (h + slots)) (past : end ≤ u) (gaps : List ℕ) (c : Covers (lacks copies) h u gaps) (last : LastPasses (lacks copies) gaps) where
  by_last : (o : Option (Bor ℕ)) → (IsSome o → 0 < length gaps) × (0 < length gaps → IsSome o) → IfSome o (λ i. i.now ≡ get_or gaps (length gaps - 1) i.now) → option_copied o ≡ find (seeks copies limit) (reverse (range_with_len h slots))
  by_last None there at = sym (no_gap copies limit h slots u end low bare is past (λ j l lt. none_after (lacks copies) h u gaps c j 0 l lt (λ some. absurd (false≢true (there.1 some)))))
  by_last (Some i) there at =
      let some : 0 < length gaps = there.0 refl in
      let k = length gaps - 1 in
      let within : k < length gaps = omega arith in
      let read : get_or gaps k 0 ≡ i.now = same_read gaps k 0 i.now within ∙ sym at in
      sym (greatest_gap copies limit h slots u end low bare is past i.now (omega (arith, c.from k 0 within, read)) (omega (arith, c.below k 0 within, read)) lim near (ap (lacks copies) (sym read) ∙ last 0 some)
      (λ j l lt g. none_after (lacks copies) h u gaps c j 0 l lt (λ s. omega (arith, read, g))))

pub returns : goal.returns
returns c =
    let a = c.self.inside in
    let inv = c.self.invariant in
    let at = (goal.at.returns c).After-min-end in
    let len : deque_len a.gaps ≡ length a.gaps.items = omega (arith, a.gaps.ok) in
    let there = rw len at c.back.ensures.variant in
    let read = rw len at c.back.ensures.lookup in
    let lim : a.untouched ≤ c.args.limit = omega (arith, c.requires, ap (λ (w : Window). w.untouched) c.self.view_is) in
    rw (← c.self.view_is) (c.copied.ensures ∙ by_last _ c.args.limit a.head (length a.places.items) a.untouched c.min-end.result inv.low inv.high lim inv.bare (ends at) c.if-self-end.false a.gaps.items inv.gaps inv.last c.back.result there read)
