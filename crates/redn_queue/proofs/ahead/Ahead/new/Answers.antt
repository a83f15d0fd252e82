use Rattle.std.proofs.Common.{◌≡◌, ℕ, Option, None, List, length, refl, ap, ◌∙◌, arith}
use Rattle.std.proofs.lemmas.List.{length-replicate}
use Rattle.std.specs.FinMap.{get, empty}
use Rattle.redn_words.specs.States.{Copies}
use Rattle.redn_words.proofs.Copies.{get_empty}
use Rattle.redn_queue.specs.Pools.{copies_in}
use Rattle.redn_queue.proofs.Windows.{no_copies}
use Rattle.redn_queue.proofs.ahead.Ahead.new.Goals as goal

pub invariant_of-result : goal.invariant_of-result
invariant_of-result c =
    let held : copies_in 0 c.in_ok-places.places.items ≡ empty = ap (copies_in 0) c.in_ok-places.ensures ∙ no_copies 0 c.args.slots in
    let none = ap length c.in_ok-gaps.ensures.items in
    record {
      low = omega arith;
      high = omega arith;
      bare = λ i l. ap (λ (m : Copies). get m i) held ∙ get_empty i;
      gaps = record {
        rising = λ i j d lt l. absurd (omega (arith, none));
        from = λ k d l. absurd (omega (arith, none));
        below = λ k d l. absurd (omega (arith, none));
        all = λ n l u e. absurd (omega arith);
      };
      first = λ d l. absurd (omega (arith, none));
      last = λ d l. absurd (omega (arith, none));
      room = omega (arith, c.in_ok-gaps.ensures.capacity, ap length c.in_ok-places.ensures, length-replicate {A = Option (List ℕ)} c.args.slots None);
    }

pub returns : goal.returns
returns c =
    let held : copies_in 0 c.in_ok-places.places.items ≡ empty = ap (copies_in 0) c.in_ok-places.ensures ∙ no_copies 0 c.args.slots in
    let slots : length c.in_ok-places.places.items ≡ c.args.slots = ap length c.in_ok-places.ensures ∙ length-replicate {A = Option (List ℕ)} c.args.slots None in
    rw (held, slots) refl
