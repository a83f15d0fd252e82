use Rattle.std.proofs.Common.{◌≡◌, ℕ, length, subst, arith, rules}
use Rattle.std.specs.VecDeque.{deque_len}
use Rattle.std.specs.List.Sorted.{IsSearchInRange}
use Rattle.std.proofs.lemmas.List.Sorted.{answers_always}
use Rattle.redn_words.specs.declared.types.Flight.{Flight}
use Rattle.redn_queue.proofs.Flying.{found_by, absent_by}
use Rattle.redn_queue.proofs.flights.search.Goals as goal

-- the closure gives a request's index
pub returns : goal.returns
returns c =
    let q = c.args.flights.now in
    let r = c.binary_search_by_key.result in
    let len : deque_len q ≡ length q.items = omega (arith, q.ok) in
    let facts = c.binary_search_by_key.ensures in
    let within = subst (λ (n : ℕ). IsSearchInRange r n) len facts.bound in
    let by_key = facts.position (λ (f : Flight). f.index) (answers_always _ _ _ (λ f a r g called. search rules)) in
    record {
      found = found_by c.args.index q.items c.requires r within by_key;
      absent = absent_by c.args.index q.items c.requires r within by_key;
    }
