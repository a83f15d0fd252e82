-- Which indexes of a queue's window aren't held.
use Rattle.std.proofs.Common.{◌≡◌, ℕ, ◌+◌, ◌<◌, ◌≤◌, ◌&&◌, Bool, true, false, reverse, None, refl, sym, arith}
use Rattle.std.specs.Prelude.{nat_le, nat_lt}
use Rattle.std.specs.List.{find}
use Rattle.std.proofs.lemmas.Bool.Decides.{nat_tests}
use Rattle.redn_words.specs.States.{Queue}
use Rattle.redn_queue.specs.Windows.{lacks}
use Rattle.redn_queue.specs.Telling.{is_unheld, indexes_ahead}
use Rattle.redn_queue.proofs.Seeking.{seeks}
use Rattle.redn_queue.proofs.Finding.{none_in, none_in_all, find_same, find_last_same}

stopped_fails : (q : Queue) (i : ℕ) → q.stopped ≡ true → is_unheld q i ≡ false
stopped_fails q i e = rw e refl

both : (b c : Bool) → (b && true && c) ≡ (b && c)
both true c = refl
both false c = refl

running : (q : Queue) (i : ℕ) → q.stopped ≡ false → q.head ≤ i → i < q.head + q.row.slots → is_unheld q i ≡ seeks q.held q.limit i
running q i e low near =
    let from : nat_le q.head i ≡ true = grind (arith, nat_tests) in
    let within : nat_lt i (q.head + q.row.slots) ≡ true = grind (arith, nat_tests) in
    rw (e, from, within) (both (nat_lt i q.limit) (lacks q.held i))

module _ (q : Queue) where
  pub none_least : q.stopped ≡ true → None ≡ find (is_unheld q) (indexes_ahead q)
  none_least e = sym (none_in (is_unheld q) q.head q.row.slots (λ j l u. stopped_fails q j e))

  pub none_greatest : q.stopped ≡ true → None ≡ find (is_unheld q) (reverse (indexes_ahead q))
  none_greatest e = sym (none_in_all (is_unheld q) q.head q.row.slots (λ j l u. stopped_fails q j e))

  pub least_same : q.stopped ≡ false → find (seeks q.held q.limit) (indexes_ahead q) ≡ find (is_unheld q) (indexes_ahead q)
  least_same e = sym (find_same (is_unheld q) (seeks q.held q.limit) q.head q.row.slots (λ j l u. running q j e l u))

  pub greatest_same : q.stopped ≡ false → find (seeks q.held q.limit) (reverse (indexes_ahead q)) ≡ find (is_unheld q) (reverse (indexes_ahead q))
  greatest_same e = sym (find_last_same (is_unheld q) (seeks q.held q.limit) q.head q.row.slots (λ j l u. running q j e l u))
