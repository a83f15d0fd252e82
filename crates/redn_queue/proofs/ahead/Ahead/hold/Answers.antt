use Rattle.std.proofs.Common.{◌≡◌, ◌≢◌, ◌+◌, ◌-◌, ◌≤◌, ℕ, max, Some, List, length, set, false, refl, ap, ◌∙◌, arith, subst, inl, inr}
use Rattle.std.proofs.lemmas.Bool.{cases_lt}
use Rattle.std.proofs.lemmas.List.{length-set}
use Rattle.std.specs.FinMap.{insert}
use Rattle.redn_words.specs.States.{Copies}
use Rattle.redn_queue.specs.Pools.{copies_in}
use Rattle.redn_queue.specs.Covers.{Covers}
use Rattle.redn_queue.specs.Windows.{Window, lacks}
use Rattle.redn_queue.proofs.Windows.{insert_copies}
use Rattle.redn_queue.proofs.Covers.{covers_few, covers_weaker, covers_skip}
use Rattle.redn_queue.proofs.Seeking.{insert_closes, insert_closed, insert_other}
use Rattle.redn_queue.proofs.ahead.Ahead.hold.Goals as goal
use Rattle.redn_queue.proofs.ahead.Ahead.hold.Goals.{After-link, After-drop_first_held, After-drop_last_held}

-- the index that is held now lies below those that were never held
by_place : (n : Copies) (gaps : List ℕ) (u h i : ℕ) → lacks n i ≡ false → Covers (lacks n) h (max u i) gaps → Covers (lacks n) h (max u (i + 1)) gaps
by_place n gaps u h i closed c =
    elim (cases_lt i u) [
      | inl lt ↦ let same : max u i ≡ max u (i + 1) = omega arith in subst (λ (k : ℕ). Covers (lacks n) h k gaps) same c
      | inr ge ↦
          let here : max u i ≡ i = omega arith in
          let next : i + 1 ≡ max u (i + 1) = omega arith in
          let at = subst (λ (k : ℕ). Covers (lacks n) h k gaps) here c in
          subst (λ (k : ℕ). Covers (lacks n) h k gaps) next (covers_skip (lacks n) h i gaps at closed)
    ]

pub link-requires : goal.link-requires
link-requires c =
    let a = c.self.inside in
    let inv = c.self.invariant in
    let head = ap (λ (w : Window). w.head) c.self.view_is in
    let slots = ap (λ (w : Window). w.slots) c.self.view_is in
    let few = covers_few _ a.head a.untouched a.gaps.items inv.gaps inv.low in
    record { room = omega (arith, few, inv.room, inv.high, c.requires.within, head, slots) }

module _ (c : After-link) where
  abbrev i : ℕ
  i = c.args.index

  abbrev m : Copies
  m = copies_in c.self.inside.head c.self.inside.places.items

  abbrev n : Copies
  n = copies_in c.self.inside.head (set c.self.inside.places.items (c.args.index - c.self.inside.head) (Some c.args.copy.now))

  inserted : n ≡ insert m i c.args.copy.now
  inserted =
      let a = c.self.inside in
      let head = ap (λ (w : Window). w.head) c.self.view_is in
      let slots = ap (λ (w : Window). w.slots) c.self.view_is in
      insert_copies a.head a.places.items c.args.index c.args.copy.now (omega (arith, c.requires.from_head, head)) (omega (arith, c.requires.from_head, c.requires.within, head, slots))

  linked : Covers (lacks n) c.self.inside.head (max c.self.inside.untouched c.args.index) c.link.new.gaps.items
  linked =
      let a = c.self.inside in
      let inv = c.self.invariant in
      rw inserted (covers_weaker (lacks m) a.head (max a.untouched c.args.index) c.link.new.gaps.items (c.link.ensures.covers (lacks m) a.head inv.low inv.gaps) (lacks (insert m c.args.index c.args.copy.now)) (λ k l. insert_closes m c.args.index c.args.copy.now k))

  near : max c.self.inside.untouched c.args.index ≤ c.self.inside.head + length (set c.self.inside.places.items (c.args.index - c.self.inside.head) (Some c.args.copy.now))
  near =
      let a = c.self.inside in
      let head = ap (λ (w : Window). w.head) c.self.view_is in
      let slots = ap (λ (w : Window). w.slots) c.self.view_is in
      omega (arith, c.self.invariant.high, c.requires.within, head, slots, length-set a.places.items (c.args.index - a.head) (Some c.args.copy.now))

pub drop_first_held-requires-clause-low : goal.drop_first_held-requires-clause-low
drop_first_held-requires-clause-low c = (linked (goal.at.drop_first_held-requires-clause-low c).After-link).from

pub drop_first_held-requires-clause-high : goal.drop_first_held-requires-clause-high
drop_first_held-requires-clause-high c = let at = (goal.at.drop_first_held-requires-clause-high c).After-link in λ k d l. omega (arith, near at, (linked at).below k d l)

pub drop_last_held-requires-clause-low : goal.drop_last_held-requires-clause-low
drop_last_held-requires-clause-low c = (c.drop_first_held.ensures.covers _ _ (linked (goal.at.drop_last_held-requires-clause-low c).After-link)).from

pub drop_last_held-requires-clause-high : goal.drop_last_held-requires-clause-high
drop_last_held-requires-clause-high c =
    let at = (goal.at.drop_last_held-requires-clause-high c).After-link in λ k d l. omega (arith, near at, (c.drop_first_held.ensures.covers _ _ (linked at)).below k d l)

pub invariant_of-self : goal.invariant_of-self
invariant_of-self c =
    let at = (goal.at.invariant_of-self c).After-link in
    let a = c.self.inside in
    let inv = c.self.invariant in
    let i = c.args.index in
    let n = copies_in a.head (set a.places.items (i - a.head) (Some c.args.copy.now)) in
    let highest = max a.untouched i in
    let head = ap (λ (w : Window). w.head) c.self.view_is in
    let slots = ap (λ (w : Window). w.slots) c.self.view_is in
    let long = length-set a.places.items (i - a.head) (Some c.args.copy.now) in
    let last = c.drop_last_held.ensures.covers a.head highest (c.drop_first_held.ensures.covers a.head highest (linked at)) in
    let closed : lacks n i ≡ false = rw (inserted at) (insert_closed (m at) i c.args.copy.now) in
    let untouched : c.max-self-inside.result ≡ max a.untouched (i + 1) = c.max-self-inside.ensures in
    record {
      low = omega (arith, inv.low, untouched);
      high = omega (arith, inv.high, untouched, c.requires.within, head, slots, long);
      bare = λ j l. let ne : j ≢ i = omega (arith, untouched) in rw (inserted at) (insert_other (m at) i c.args.copy.now j ne ∙ inv.bare j (omega (arith, untouched)));
      gaps = rw untouched (by_place n c.drop_last_held.new.gaps.items a.untouched a.head i closed last);
      first = c.drop_last_held.ensures.first;
      last = c.drop_last_held.ensures.last;
      room = omega (arith, inv.room, long, c.link.ensures.capacity, c.drop_first_held.ensures.capacity, c.drop_last_held.ensures.capacity);
    }

pub returns : goal.returns
returns c =
    let at = (goal.at.returns c).After-link in
    let a = c.self.inside in
    rw (← c.self.view_is, inserted at, length-set a.places.items (c.args.index - a.head) (Some c.args.copy.now), c.max-self-inside.ensures) refl
