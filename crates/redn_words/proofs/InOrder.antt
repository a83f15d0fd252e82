-- What holds of each queue holds after each possible action, and so of every state that is reached.
use Rattle.std.proofs.Common.{◌≡◌, ℕ, zero, suc, ◌+◌, ◌<◌, inl, inr, Bool, true, false, cond, eqb, List, [], ◌∷◌, Option, Some, None, length, map, refl, sym, ap, subst, arith, length-append}
use Rattle.std.specs.Prelude.{slice_get, slice_set}
use Rattle.std.specs.FinMap.{get, remove}
use Rattle.std.proofs.lemmas.Bool.{eqb-true}
use Rattle.std.proofs.lemmas.Bool.Decides.{nat_tests}
use Rattle.redn_words.specs.declared.types.Region.{Region}
use Rattle.redn_words.specs.declared.types.QueueRow.{QueueRow}
use Rattle.redn_words.specs.declared.types.Receive.{Receive}
use Rattle.redn_words.specs.declared.types.Flight.{Flight}
use Rattle.redn_words.specs.declared.types.Class.{Class}
use Rattle.redn_words.specs.declared.types.Class.TheVariants as ask
use Rattle.redn_words.specs.declared.types.Action.{Action}
use Rattle.redn_words.specs.declared.types.Action.TheVariants.{Deliver, Fetch, Start, Land, Complete}
use Rattle.redn_words.specs.Requests.{decoded}
use Rattle.redn_words.specs.States.{Queue, State, start, fresh_queue, slot_of}
use Rattle.redn_words.specs.Landings.{Landing, changed}
use Rattle.redn_words.specs.Steps.{possible, after, class_of, may_start, counter_of, may_raise, fetched, past_head, flown, stopped, raised, raised_in, with_queue_at, landed_at, land_leaves, landing_at, signalled}
use Rattle.redn_words.specs.Runs.{AllPossible, reached}
use Rattle.redn_words.specs.InOrder.{IsAhead, IsInOrder, AllInOrder}
use Rattle.redn_words.proofs.Copies.{get_insert, get_remove, get_empty}
use Rattle.redn_words.proofs.Flights.{IsRising-push, IsRising-rest, IsRising-landed, AllBelow-more, AllBelow-push, AllBelow-landed, length-landed}
use Rattle.redn_words.proofs.Actions.{fetches, starts, lands, completes, fetched_is, flown_is, passed_is, raised_is, undefined_stops, refused_stops, landed_is, completed_is, has_room}
use Rattle.redn_words.proofs.Others.{keeps, acting_there, set_cases}
use Rattle.std.proofs.lemmas.List.Elements.{All-nil, All-tail}

-- one queue through each change
pub in_order_fresh : (row : QueueRow) → IsInOrder (fresh_queue row)
in_order_fresh row =
    record {
      held = λ i copy e. absurd (let none = get_empty i in cc);
      rising = λ i j d lt l. absurd (omega arith);
      below = All-nil (λ (f : Flight). f.index < 0);
      few = omega arith;
      counted = omega arith;
    }

module _ (u : Queue) (h : IsInOrder u) where
  pub in_order_fetched : (i : ℕ) (copy : List ℕ) → IsAhead u i → IsInOrder (fetched u i copy)
  in_order_fetched i copy ahead =
      record { held = λ j c e. by_test j c (eqb j i) refl (let is = get_insert u.held i copy j in cc); rising = h.rising; below = h.below; few = h.few; counted = h.counted }
    where
      here : (j : ℕ) → j ≡ i → IsAhead (fetched u i copy) j
      here j at = let low = ahead.low in let high = ahead.high in let near = ahead.near in record { low = omega arith; high = omega arith; near = omega arith }

      by_test : (j : ℕ) (c : List ℕ) (b : Bool) → eqb j i ≡ b → cond (eqb j i) (Some copy) (get u.held j) ≡ Some c → IsAhead (fetched u i copy) j
      by_test j c true t e = here j (eqb-true j i t)
      by_test j c false t e = let old = h.held j c (rw t at e) in record { low = old.low; high = old.high; near = old.near }

  held_past : (j : ℕ) (c : List ℕ) → get (remove u.held u.head) j ≡ Some c → IsAhead (past_head u) j
  held_past j c e = by_test (eqb j u.head) refl (let is = get_remove u.held u.head j in cc)
    where
      by_test : (b : Bool) → eqb j u.head ≡ b → cond (eqb j u.head) None (get u.held j) ≡ Some c → IsAhead (past_head u) j
      by_test true t f = absurd (let g = rw t at f in cc)
      by_test false t f =
          let old = h.held j c (rw t at f) in
          let low = old.low in
          let near = old.near in
          record { low = grind (arith, nat_tests); high = old.high; near = omega arith }

  pub in_order_past : IsInOrder (past_head u)
  in_order_past =
      let counted = h.counted in
      record { held = held_past; rising = h.rising; below = AllBelow-more u.head (u.head + 1) u.flights (omega arith) h.below; few = h.few; counted = omega arith }

  pub in_order_flown : (copy : List ℕ) → length u.flights < u.row.slots → IsInOrder (flown (past_head u) u.head copy)
  in_order_flown copy room =
      let f : Flight = record { index = u.head; copy = copy; landed = false } in
      let counted = h.counted in
      record {
        held = λ j c e. let ahead = held_past j c e in record { low = ahead.low; high = ahead.high; near = ahead.near };
        rising = IsRising-push u.flights f h.rising h.below;
        below = AllBelow-push u.head (u.head + 1) u.flights f (omega arith) (omega arith) h.below;
        few = omega (arith, length-append u.flights (f ∷ []));
        counted = omega (arith, length-append u.flights (f ∷ []));
      }

  pub in_order_stopped : IsInOrder (stopped u)
  in_order_stopped =
      record {
        held = λ j c e. let old = h.held j c e in record { low = old.low; high = old.high; near = old.near };
        rising = h.rising;
        below = h.below;
        few = h.few;
        counted = h.counted;
      }

  pub in_order_raised : (limit : ℕ) → IsInOrder (raised u limit)
  in_order_raised limit =
      record {
        held = λ j c e. let old = h.held j c e in let high = old.high in record { low = old.low; high = omega arith; near = old.near };
        rising = h.rising;
        below = h.below;
        few = h.few;
        counted = h.counted;
      }

  pub in_order_landed : (i : ℕ) → IsInOrder (landed_at u i)
  in_order_landed i =
      let few = h.few in
      let counted = h.counted in
      record {
        held = λ j c e. let old = h.held j c e in record { low = old.low; high = old.high; near = old.near };
        rising = IsRising-landed i u.flights h.rising;
        below = AllBelow-landed i u.head u.flights h.below;
        few = omega (arith, length-landed i u.flights);
        counted = omega (arith, length-landed i u.flights);
      }

  pub in_order_completed : (f : Flight) (rest : List Flight) → u.flights ≡ f ∷ rest → IsInOrder (record u { flights = rest; counter = u.counter + signalled f })
  in_order_completed f rest e =
      let long : length u.flights ≡ suc (length rest) = ap length e in
      let few = h.few in
      let counted = h.counted in
      record {
        held = λ j c is. let old = h.held j c is in record { low = old.low; high = old.high; near = old.near };
        rising = IsRising-rest f rest (rw e at h.rising);
        below = All-tail (λ (g : Flight). g.index < u.head) f rest (rw e at h.below);
        few = omega arith;
        counted = omega arith;
      }

-- all queues of a list
abbrev AllIn : List Queue → Type 0
AllIn queues = (n : ℕ) (v : Queue) → slice_get queues n ≡ Some v → IsInOrder v

all_set : (queues : List Queue) (q : ℕ) (u : Queue) → AllIn queues → IsInOrder u → AllIn (slice_set queues q u)
all_set queues q u h new n v e =
    elim (set_cases queues q n u v e) [ inl is ↦ subst IsInOrder (sym is) new | inr old ↦ h n v old ]

all_raised : (queues : List Queue) (q limit : ℕ) (o : Option Queue) → slice_get queues q ≡ o → AllIn queues → AllIn (raised_in queues q limit o)
all_raised queues q limit None e h = h
all_raised queues q limit (Some u) e h = all_set queues q (raised u limit) h (in_order_raised u (h q u e) limit)

module _ (s : State) (h : AllInOrder s) (q : ℕ) (u : Queue) (there : slice_get s.queues q ≡ Some u) where
  same : IsInOrder u
  same = h q u there

  one_changes : (v : Queue) → IsInOrder v → AllInOrder (with_queue_at s q v)
  one_changes v new = all_set s.queues q v h new

  start_keeps : (copy : List ℕ) → get u.held u.head ≡ Some copy → (c : Class) → class_of (decoded copy) ≡ c → may_start s u (decoded copy) c ≡ true → AllInOrder (after s (Start q))
  start_keeps copy held ask.Flies is may =
      subst AllInOrder (sym (flown_is s q u there copy held is)) (one_changes (flown (past_head u) u.head copy) (in_order_flown u same copy (has_room s u (decoded copy) may)))
  start_keeps copy held ask.Undefined is may =
      subst AllInOrder (sym (undefined_stops s q u there copy held is)) (one_changes (stopped (past_head u)) (in_order_stopped (past_head u) (in_order_past u same)))
  start_keeps copy held ask.Passes is may = by_counter (counter_of s u.row.domain (decoded copy).first) refl
    where
      by_counter : (o : Option ℕ) → counter_of s u.row.domain (decoded copy).first ≡ o → AllInOrder (after s (Start q))
      by_counter None e = subst AllInOrder (sym (refused_stops s q u there copy held ask.Passes is (rw e refl))) (one_changes (stopped (past_head u)) (in_order_stopped (past_head u) (in_order_past u same)))
      by_counter (Some n) e = subst AllInOrder (sym (passed_is s q u there copy held n is e)) (one_changes (past_head u) (in_order_past u same))
  start_keeps copy held ask.Raises is may = by_right (may_raise u.row.domain (slice_get s.queues (decoded copy).first)) refl
    where
      by_right : (b : Bool) → may_raise u.row.domain (slice_get s.queues (decoded copy).first) ≡ b → AllInOrder (after s (Start q))
      by_right false e = subst AllInOrder (sym (refused_stops s q u there copy held ask.Raises is (rw e refl))) (one_changes (stopped (past_head u)) (in_order_stopped (past_head u) (in_order_past u same)))
      by_right true e =
          let passed : List Queue = slice_set s.queues q (past_head u) in
          subst AllInOrder (sym (raised_is s q u there copy held is e)) (all_raised passed (decoded copy).first (decoded copy).second (slice_get passed (decoded copy).first) refl (one_changes (past_head u) (in_order_past u same)))

  land_keeps : (i : ℕ) (l : Landing) → AllInOrder (land_leaves s q i u l)
  land_keeps i l =
      elim l.allowed as (λ b. AllInOrder (record s { memory = changed s.memory l.writes; queues = slice_set s.queues q (cond b (landed_at u i) (stopped u)) })) [
        | true ↦ one_changes (landed_at u i) (in_order_landed u same i)
        | false ↦ one_changes (stopped u) (in_order_stopped u same)
      ]

-- a possible action keeps it
pub stays_in_order : (s : State) (a : Action) → AllInOrder s → possible s a ≡ true → AllInOrder (after s a)
stays_in_order s (Deliver c) h p =
    keeps AllInOrder s (Deliver c) record { same = h; delivers = λ m chains. h; changes = λ q u v m on e t. absurd (cc); raises = λ q u v t l on e r may. absurd (cc) }
stays_in_order s (Fetch q i) h p =
    let here = acting_there s (Fetch q i) q refl p in
    let f = fetches s q here.0 here.1 i p in
    let copy : List ℕ = slot_of s.memory here.0.row i in
    subst AllInOrder (sym (fetched_is s q here.0 here.1 i)) (one_changes s h q here.0 here.1 (fetched here.0 i copy) (in_order_fetched here.0 (h q here.0 here.1) i copy f.ahead))
stays_in_order s (Start q) h p =
    let here = acting_there s (Start q) q refl p in
    let f = starts s q here.0 here.1 p in
    start_keeps s h q here.0 here.1 f.copy f.held (class_of (decoded f.copy)) refl f.may
stays_in_order s (Land q i) h p =
    let here = acting_there s (Land q i) q refl p in
    let f = lands s q here.0 here.1 i p in
    subst AllInOrder (sym (landed_is s q here.0 here.1 i f.flight f.found)) (land_keeps s h q here.0 here.1 i (landing_at s q i here.0 f.flight.copy))
stays_in_order s (Complete q) h p =
    let here = acting_there s (Complete q) q refl p in
    let f = completes s q here.0 here.1 p in
    subst AllInOrder (sym (completed_is s q here.0 here.1 f.oldest f.rest f.flights)) (one_changes s h q here.0 here.1 _ (in_order_completed here.0 (h q here.0 here.1) f.oldest f.rest f.flights))

pub start_in_order : (regions : List Region) (rows : List QueueRow) (receives : List Receive) (memory : List ℕ) (messages : List (Option (List ℕ))) → AllInOrder (start regions rows receives memory messages)
unfolding start
start_in_order regions rows receives memory messages = all_fresh rows
  where
    all_fresh : (rows : List QueueRow) → AllIn (map fresh_queue rows)
    all_fresh [] n v e = absurd (cc)
    all_fresh (row ∷ rows) zero v e = let is : fresh_queue row ≡ v = cc in subst IsInOrder is (in_order_fresh row)
    all_fresh (row ∷ rows) (suc n) v e = all_fresh rows n v e

-- and so does a list of them
pub reached_in_order : (acts : List Action) (s : State) → AllInOrder s → AllPossible s acts → AllInOrder (reached s acts)
reached_in_order [] s h p = h
reached_in_order (a ∷ acts) s h p = reached_in_order acts (after s a) (stays_in_order s a h p.0) p.1
