-- One action of a queue that is there: what its being possible says, what it leaves and what it shows.
use Rattle.std.proofs.Common.{◌≡◌, ℕ, ◌+◌, ◌<◌, true, false, cond, not, ◌&&◌, List, [], ◌∷◌, Option, Some, None, length, refl, ap, ◌∙◌, arith}
use Rattle.std.specs.Prelude.{slice_get, slice_set, is_some, is_none, nat_le, nat_lt, nat_eq}
use Rattle.std.specs.Cmp.Lexicographic.{pointwise}
use Rattle.std.specs.FinMap.{get}
use Rattle.std.proofs.lemmas.Bool.{false≢true, and_parts, and_from, not-true, ltb-true, lt-ltb}
use Rattle.std.proofs.lemmas.Bool.Decides.{nat_tests}
use Rattle.redn_words.specs.declared.types.Request.{Request}
use Rattle.redn_words.specs.declared.types.Flight.{Flight}
use Rattle.redn_words.specs.declared.types.Class.{Class}
use Rattle.redn_words.specs.declared.types.Class.TheVariants as ask
use Rattle.redn_words.specs.declared.types.Obs.TheVariants as shows
use Rattle.redn_words.specs.declared.types.Action.TheVariants.{Fetch, Start, Land, Complete}
use Rattle.redn_words.specs.Requests.{decoded}
use Rattle.redn_words.specs.States.{Queue, State, slot_of}
use Rattle.redn_words.specs.Steps.{possible, after, shown, class_of, may_start, started, start_with, start_shows, counter_of, may_raise, past_head, stopped, flown, fetched, with_queue_at, enabled_in, flying, is_landed, landing_at, land_leaves, signalled, is_old, is_undefined, refused_start, start_possible, fetch_possible, land_possible, complete_possible}
use Rattle.redn_words.specs.Laws.{Fetches, Starts, Lands, Completes}

pointwise_self : (b : List ℕ) → pointwise nat_eq b b ≡ true
pointwise_self [] = refl
pointwise_self (x ∷ b) = let here : nat_eq x x ≡ true = grind (arith, nat_tests) in rw here (pointwise_self b)

-- a copy that stands in its slot isn't old
pub fresh : (s : State) (u : Queue) (copy : List ℕ) → slot_of s.memory u.row u.head ≡ copy → is_old s u copy ≡ false
fresh s u copy e = rw e (ap not (pointwise_self copy))

none_some : {X : Type 0} (o : Option X) → is_none o ≡ true → is_some o ≡ false
none_some None e = refl
none_some (Some x) e = absurd (false≢true e)

-- a start that is refused stops its queue
pub stops : (s : State) (q : ℕ) (u : Queue) (copy : List ℕ) (r : Request) (c : Class) → refused_start s u.row.domain r c ≡ true → started s q u copy r c ≡ with_queue_at s q (stopped (past_head u))
unfolding started
stops s q u copy r ask.Passes e = ap (λ b. with_queue_at s q (cond b (past_head u) (stopped (past_head u)))) (none_some (counter_of s u.row.domain r.first) e)
stops s q u copy r ask.Raises e = let may : may_raise u.row.domain (slice_get s.queues r.first) ≡ false = not-true (may_raise u.row.domain (slice_get s.queues r.first)) e in rw may refl
stops s q u copy r _ e = absurd (false≢true e)

module _ (s : State) (q : ℕ) (u : Queue) (there : slice_get s.queues q ≡ Some u) where
  -- what being possible says
  pub fetches : (i : ℕ) → possible s (Fetch q i) ≡ true → Fetches u i
  unfolding possible
  fetches i p =
      let test : fetch_possible i u ≡ true = rw there at p in
      let near = and_parts (not u.stopped && nat_le u.head i && nat_lt i u.limit) (nat_lt i (u.head + u.row.slots)) test in
      let high = and_parts (not u.stopped && nat_le u.head i) (nat_lt i u.limit) near.0 in
      let low = and_parts (not u.stopped) (nat_le u.head i) high.0 in
      record { runs = not-true u.stopped low.0; ahead = record { low = grind (arith, nat_tests); high = grind (arith, nat_tests); near = grind (arith, nat_tests) } }

  pub starts : possible s (Start q) ≡ true → Starts s u
  unfolding possible
  starts p =
      let test : start_possible s u ≡ true = rw there at p in
      let parts = and_parts (not u.stopped) (start_with s u (get u.held u.head)) test in
      by_copy (not-true u.stopped parts.0) (get u.held u.head) refl parts.1
    where
      by_copy : u.stopped ≡ false → (o : Option (List ℕ)) → get u.held u.head ≡ o → start_with s u o ≡ true → Starts s u
      by_copy runs None e may = absurd (false≢true may)
      by_copy runs (Some copy) e may = record { copy = copy; runs = runs; held = e; may = may }

  pub lands : (i : ℕ) → possible s (Land q i) ≡ true → Lands u i
  unfolding possible
  lands i p =
      let test : land_possible i u ≡ true = rw there at p in
      let parts = and_parts (not u.stopped) (is_some (flying u i)) test in
      by_flight (not-true u.stopped parts.0) (flying u i) refl parts.1
    where
      by_flight : u.stopped ≡ false → (o : Option Flight) → flying u i ≡ o → is_some o ≡ true → Lands u i
      by_flight runs None e there = absurd (false≢true there)
      by_flight runs (Some f) e there = record { flight = f; runs = runs; found = e }

  pub completes : possible s (Complete q) ≡ true → Completes u
  unfolding possible
  completes p =
      let test : complete_possible u ≡ true = rw there at p in
      let parts = and_parts (not u.stopped) (is_landed (slice_get u.flights 0)) test in
      by_flights (not-true u.stopped parts.0) u.flights refl parts.1
    where
      by_flights : u.stopped ≡ false → (fs : List Flight) → u.flights ≡ fs → is_landed (slice_get fs 0) ≡ true → Completes u
      by_flights runs [] e landed = absurd (false≢true landed)
      by_flights runs (f ∷ rest) e landed = record { oldest = f; rest = rest; runs = runs; flights = e; landed = landed }

  -- what is enough for it
  pub can_fetch : (i : ℕ) → Fetches u i → possible s (Fetch q i) ≡ true
  unfolding possible
  can_fetch i f =
      let runs = f.runs in
      let low : nat_le u.head i ≡ true = let h = f.ahead.low in grind (arith, nat_tests) in
      let high : nat_lt i u.limit ≡ true = let h = f.ahead.high in grind (arith, nat_tests) in
      let near : nat_lt i (u.head + u.row.slots) ≡ true = let h = f.ahead.near in grind (arith, nat_tests) in
      rw (there, runs, low, high, near) refl

  pub can_start : Starts s u → possible s (Start q) ≡ true
  unfolding possible
  can_start f =
      let test : start_possible s u ≡ true = and_from (not u.stopped) (start_with s u (get u.held u.head)) (ap not f.runs) (ap (start_with s u) f.held ∙ f.may) in
      rw there test

  pub can_land : (i : ℕ) → Lands u i → possible s (Land q i) ≡ true
  unfolding possible
  can_land i f = let runs = f.runs in let found = f.found in rw (there, runs, found) refl

  pub can_complete : Completes u → possible s (Complete q) ≡ true
  unfolding possible
  can_complete f = let runs = f.runs in let flights = f.flights in let landed = f.landed in rw (there, runs, flights, landed) refl

  -- what is left
  pub fetched_is : (i : ℕ) → after s (Fetch q i) ≡ with_queue_at s q (fetched u i (slot_of s.memory u.row i))
  unfolding after
  fetched_is i = rw there refl

  pub landed_is : (i : ℕ) (f : Flight) → flying u i ≡ Some f → after s (Land q i) ≡ land_leaves s q i u (landing_at s q i u f.copy)
  unfolding after
  landed_is i f e = rw (there, e) refl

  pub land_shows_is : (i : ℕ) (f : Flight) → flying u i ≡ Some f → shown s (Land q i) ≡ (landing_at s q i u f.copy).shown
  unfolding shown
  land_shows_is i f e = rw (there, e) refl

  pub completed_is : (f : Flight) (rest : List Flight) → u.flights ≡ f ∷ rest → after s (Complete q) ≡ with_queue_at s q (record u { flights = rest; counter = u.counter + signalled f })
  unfolding after
  completed_is f rest e = rw (there, e) refl

  module _ (copy : List ℕ) (held : get u.held u.head ≡ Some copy) where
    -- a start, by the class of its copy
    pub started_is : (c : Class) → class_of (decoded copy) ≡ c → after s (Start q) ≡ started s q u copy (decoded copy) c
    unfolding after
    started_is c is = rw (there, held, is) refl

    pub start_shows_is : shown s (Start q) ≡ start_shows s q u (Some copy)
    unfolding shown
    start_shows_is = rw (there, held) refl

    pub flown_is : class_of (decoded copy) ≡ ask.Flies → after s (Start q) ≡ with_queue_at s q (flown (past_head u) u.head copy)
    unfolding started
    flown_is is = started_is ask.Flies is

    pub passed_is : (n : ℕ) → class_of (decoded copy) ≡ ask.Passes → counter_of s u.row.domain (decoded copy).first ≡ Some n → after s (Start q) ≡ with_queue_at s q (past_head u)
    unfolding started
    passed_is n is come = started_is ask.Passes is ∙ rw come refl

    pub raised_is : class_of (decoded copy) ≡ ask.Raises → may_raise u.row.domain (slice_get s.queues (decoded copy).first) ≡ true → after s (Start q) ≡ record s { queues = enabled_in (slice_set s.queues q (past_head u)) (decoded copy).first (decoded copy).second }
    unfolding started
    raised_is is may = started_is ask.Raises is ∙ rw may refl

    -- an undefined request, and one that names what it may not, stops its queue
    pub undefined_stops : class_of (decoded copy) ≡ ask.Undefined → after s (Start q) ≡ with_queue_at s q (stopped (past_head u))
    unfolding started
    undefined_stops is = started_is ask.Undefined is

    pub refused_stops : (c : Class) → class_of (decoded copy) ≡ c → refused_start s u.row.domain (decoded copy) c ≡ true → after s (Start q) ≡ with_queue_at s q (stopped (past_head u))
    refused_stops c is e = started_is c is ∙ stops s q u copy (decoded copy) c e

    -- a fresh copy that is defined and not refused shows nothing
    pub shows_nothing : (c : Class) → class_of (decoded copy) ≡ c → slot_of s.memory u.row u.head ≡ copy → is_undefined c ≡ false → refused_start s u.row.domain (decoded copy) c ≡ false → shown s (Start q) ≡ shows.Nothing
    shows_nothing c is slot known allowed =
        let new : is_old s u copy ≡ false = fresh s u copy slot in
        start_shows_is ∙ rw (new, is, known, allowed) refl

    module _ (slot : slot_of s.memory u.row u.head ≡ copy) where
      pub flies_quietly : class_of (decoded copy) ≡ ask.Flies → shown s (Start q) ≡ shows.Nothing
      flies_quietly is = shows_nothing ask.Flies is slot refl refl

      pub passes_quietly : (n : ℕ) → class_of (decoded copy) ≡ ask.Passes → counter_of s u.row.domain (decoded copy).first ≡ Some n → shown s (Start q) ≡ shows.Nothing
      passes_quietly n is come = shows_nothing ask.Passes is slot refl (rw come refl)

      pub raises_quietly : class_of (decoded copy) ≡ ask.Raises → may_raise u.row.domain (slice_get s.queues (decoded copy).first) ≡ true → shown s (Start q) ≡ shows.Nothing
      raises_quietly is may = shows_nothing ask.Raises is slot refl (rw may refl)

  -- when a copy may start
  pub may_fly : (r : Request) → length u.flights < u.row.slots → may_start s u r ask.Flies ≡ true
  unfolding may_start
  may_fly r room = lt-ltb (length u.flights) u.row.slots room

  pub may_wait : (r : Request) (n : ℕ) → counter_of s u.row.domain r.first ≡ Some n → may_start s u r ask.Passes ≡ nat_le r.second n
  unfolding may_start
  may_wait r n come = rw come refl

  pub may_enable : (r : Request) → may_start s u r ask.Raises ≡ true
  unfolding may_start
  may_enable r = refl

-- what a start in flight had room for
pub has_room : (s : State) (u : Queue) (r : Request) → may_start s u r ask.Flies ≡ true → length u.flights < u.row.slots
unfolding may_start
has_room s u r may = ltb-true (length u.flights) u.row.slots may
