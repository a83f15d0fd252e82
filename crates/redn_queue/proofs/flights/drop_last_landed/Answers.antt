use Rattle.std.proofs.Common.{◌≡◌, ℕ, ◌-◌, ◌<◌, false, List, length, map, take, get_or, sym, ap, subst, ◌∙◌, arith}
use Rattle.std.specs.List.{All, take-map}
use Rattle.std.specs.VecDeque.{deque_len}
use Rattle.std.proofs.lemmas.List.{get_or-take, length-take, length-map}
use Rattle.std.proofs.lemmas.List.Elements.{All-take}
use Rattle.redn_queue.specs.Covers.{Covers, FirstPasses}
use Rattle.redn_queue.specs.InFlight.{place_from, waits_at}
use Rattle.redn_queue.proofs.Covers.{covers_take}
use Rattle.redn_queue.proofs.Waiting.{end_there, end_landed}
use Rattle.redn_queue.proofs.flights.drop_last_landed.Goals as goal

pub loop-unlanded-preserved : goal.loop-unlanded-preserved
loop-unlanded-preserved c =
    let ns = c.loop-unlanded.unlanded.items in
    let inv = c.loop-unlanded.invariant in
    let fs = c.args.list.now.items in
    let ks = map (place_from c.args.first) ns in
    let over = sym c.has_landed.ensures ∙ c.loop-unlanded-test.true in
    let some : 0 < length ns = omega (arith, c.loop-unlanded.unlanded.ok, c.back.ensures.variant.0 (end_there fs c.args.first c.back.result over)) in
    let len : deque_len c.loop-unlanded.unlanded ≡ length ns = omega (arith, c.loop-unlanded.unlanded.ok) in
    let long : length ks ≡ length ns = length-map ns (place_from c.args.first) in
    let at = end_landed fs c.args.first ns (length ns - 1) c.back.result over (rw len at c.back.ensures.lookup) (omega arith) in
    let fails : (d : ℕ) → waits_at fs (get_or ks (length ks - 1) d) ≡ false = λ d. ap (λ (n : ℕ). waits_at fs (get_or ks (n - 1) d)) long ∙ at d in
    let rest : c.pop_back.new.self.items ≡ take (length ns - 1) ns = c.pop_back.ensures.rest ∙ ap (λ (n : ℕ). take (n - 1) ns) len in
    let places : take (length ks - 1) ks ≡ map (place_from c.args.first) c.pop_back.new.self.items = ap (λ (n : ℕ). take (n - 1) ks) long ∙ take-map (place_from c.args.first) (length ns - 1) ns ∙ ap (map (place_from c.args.first)) (sym rest) in
    record {
      below = subst (λ (l : List ℕ). All (λ (k : ℕ). k < length fs) l) places (All-take (λ (k : ℕ). k < length fs) (length ks - 1) ks inv.below);
      covers = λ high h. subst (λ (l : List ℕ). Covers (waits_at fs) 0 high l) places (covers_take (waits_at fs) 0 high ks (inv.covers high h) fails);
      oldest = subst (λ (l : List ℕ). FirstPasses (waits_at fs) l) places (λ d l. let more : 0 < length ks - 1 = omega (arith, l, length-take (length ks - 1) ks) in ap (waits_at fs) (get_or-take (length ks - 1) ks 0 d more) ∙ inv.oldest d (omega arith));
      capacity = c.pop_back.ensures.capacity ∙ inv.capacity;
    }
