-- Small cases of the definitions, computed.
use Rattle.std.proofs.Common.{◌≡◌, ℕ, true, false, [], ◌∷◌, Some, None, replicate, refl}
use Rattle.std.specs.FinMap.{get, gets, empty, insert}
use Rattle.redn_words.specs.declared.types.Flight.{Flight}
use Rattle.redn_words.specs.States.{Queue}
use Rattle.redn_queue.specs.Pools.{window, copies_in}
use Rattle.redn_queue.specs.InFlight.{place_from}
use Rattle.redn_queue.specs.Telling.{least_unheld, greatest_unheld, oldest_unlanded, newest_unlanded}

-- places 0 to 3 of a queue whose head is 5: indexes 5 and 7 are held
held_places : window 5 (Some (1 ∷ []) ∷ None ∷ Some (2 ∷ []) ∷ None ∷ []) ≡ (5, 1 ∷ []) ∷ (7, 2 ∷ []) ∷ []
held_places = refl

held_at_seven : get (copies_in 5 (Some (1 ∷ []) ∷ None ∷ Some (2 ∷ []) ∷ None ∷ [])) 7 ≡ Some (2 ∷ [])
unfolding copies_in
held_at_seven = simp gets refl

held_at_six : get (copies_in 5 (Some (1 ∷ []) ∷ None ∷ Some (2 ∷ []) ∷ None ∷ [])) 6 ≡ None
unfolding copies_in
held_at_six = simp gets refl

-- a queue of 4 slots whose head is 5, with this limit, which holds indexes 5 and 7; requests 1, 2 and 4 are in flight, and 1 has landed
flight : ℕ → Flight
flight i = record { index = i; copy = replicate 64 0; landed = false }

queue : ℕ → Queue
queue limit =
    record {
      row = record { domain = 0; managed = true; base = 0; slots = 4; limit = 0 };
      head = 5;
      limit = limit;
      held = insert (insert empty 5 (1 ∷ [])) 7 (2 ∷ []);
      flights = record { index = 1; copy = replicate 64 0; landed = true } ∷ flight 2 ∷ flight 4 ∷ [];
      counter = 0;
      stopped = false;
    }

least_is_six : least_unheld (queue 20) ≡ Some 6
unfolding queue
least_is_six = simp gets refl

greatest_is_the_last_of_the_ring : greatest_unheld (queue 20) ≡ Some 8
unfolding queue
greatest_is_the_last_of_the_ring = simp gets refl

greatest_is_below_the_limit : greatest_unheld (queue 8) ≡ Some 6
unfolding queue
greatest_is_below_the_limit = simp gets refl

none_below_the_limit : least_unheld (queue 6) ≡ None
unfolding queue
none_below_the_limit = simp gets refl

none_of_a_stopped_queue : greatest_unheld (record (queue 20) { stopped = true; held = empty }) ≡ None
unfolding queue
none_of_a_stopped_queue = refl

oldest_is_two : oldest_unlanded (queue 20) ≡ Some 2
unfolding queue flight
oldest_is_two = refl

newest_is_four : newest_unlanded (queue 20) ≡ Some 4
unfolding queue flight
newest_is_four = refl

-- the third request behind one whose number is the last below 2^64
numbers_wrap : place_from 18446744073709551615 2 ≡ 3
numbers_wrap = refl
