-- What an action leaves alone: the rows of all queues, the regions, and the other queues but for a limit that an ENABLE raises.
use Rattle.std.proofs.Common.{◌≡◌, ◌≢◌, ◌+◌, ◌≤◌, ◌⊎◌, arith, ℕ, zero, suc, Bool, true, false, cond, List, [], ◌∷◌, Option, Some, None, refl, sym, ap, subst, ◌∙◌, inl, inr}
use Rattle.std.specs.Prelude.{slice_get, slice_set, is_some}
use Rattle.std.specs.FinMap.{get}
use Rattle.std.proofs.lemmas.Bool.{cases_eq, false≢true}
use Rattle.redn_words.specs.declared.types.Request.{Request}
use Rattle.redn_words.specs.declared.types.Receive.{Receive}
use Rattle.redn_words.specs.declared.types.Flight.{Flight}
use Rattle.redn_words.specs.declared.types.Class.{Class}
use Rattle.redn_words.specs.declared.types.Class.TheVariants as ask
use Rattle.redn_words.specs.declared.types.Action.{Action}
use Rattle.redn_words.specs.declared.types.Action.TheVariants.{Deliver, Fetch, Start, Land, Complete}
use Rattle.redn_words.specs.Requests.{decoded}
use Rattle.redn_words.specs.States.{Queue, Mail, Absent, Pending, Delivered, Chain, State, slot_of}
use Rattle.redn_words.specs.Landings.{Landing, changed}
use Rattle.redn_words.specs.Steps.{possible, class_of, acts_on, fetch_possible, start_possible, land_possible, complete_possible, after, with_queue, with_queue_at, deliver_after, delivered, fetched, start_after, started, past_head, flown, stopped, raised, enabled_in, raised_in, may_raise, counter_of, land_after, land_leaves, landed_at, landing_at, flying, completed}
use Rattle.redn_words.specs.Laws.{row_of, row_at, Left, Alone, Lifted, AtMost}
use Rattle.redn_words.specs.Others.{row_may_raise}

-- a write to a list elsewhere
pub set_other : {X : Type 0} (xs : List X) (i j : ℕ) (x : X) → j ≢ i → slice_get (slice_set xs i x) j ≡ slice_get xs j
set_other [] i j x h = refl
set_other (y ∷ xs) zero zero x h = absurd (h refl)
set_other (y ∷ xs) zero (suc j) x h = refl
set_other (y ∷ xs) (suc i) zero x h = refl
set_other (y ∷ xs) (suc i) (suc j) x h = set_other xs i j x (λ e. h (ap suc e))

pub set_here : {X : Type 0} (xs : List X) (i : ℕ) (old x : X) → slice_get xs i ≡ Some old → slice_get (slice_set xs i x) i ≡ Some x
set_here [] i old x e = absurd (cc)
set_here (y ∷ xs) zero old x e = refl
set_here (y ∷ xs) (suc i) old x e = set_here xs i old x e

-- an element after a write is the written one or one from before
pub set_cases : {X : Type 0} (xs : List X) (i j : ℕ) (x y : X) → slice_get (slice_set xs i x) j ≡ Some y → (y ≡ x) ⊎ (slice_get xs j ≡ Some y)
set_cases [] i j x y e = absurd (cc)
set_cases (z ∷ xs) zero zero x y e = let is : x ≡ y = cc in inl (sym is)
set_cases (z ∷ xs) zero (suc j) x y e = inr e
set_cases (z ∷ xs) (suc i) zero x y e = inr e
set_cases (z ∷ xs) (suc i) (suc j) x y e = set_cases xs i j x y e

-- a queue in its place with the same row
set_row : (queues : List Queue) (q n : ℕ) (u v : Queue) → slice_get queues q ≡ Some u → v.row ≡ u.row → row_at (slice_set queues q v) n ≡ row_at queues n
set_row [] q n u v e r = refl
set_row (x ∷ queues) zero zero u v e r = let is : x ≡ u = cc in ap Some (r ∙ sym (ap (λ (w : Queue). w.row) is))
set_row (x ∷ queues) zero (suc n) u v e r = refl
set_row (x ∷ queues) (suc q) zero u v e r = refl
set_row (x ∷ queues) (suc q) (suc n) u v e r = set_row queues q n u v e r

raised_rows : (queues : List Queue) (q limit n : ℕ) (o : Option Queue) → slice_get queues q ≡ o → row_at (raised_in queues q limit o) n ≡ row_at queues n
raised_rows queues q limit n None e = refl
raised_rows queues q limit n (Some u) e = set_row queues q n u (raised u limit) e refl

pub may_raise_row : (domain : ℕ) (o : Option Queue) → may_raise domain o ≡ row_may_raise domain (row_of o)
may_raise_row domain None = refl
may_raise_row domain (Some u) = refl

-- what an action makes of its own queue: head and counter rise by one at most
pub record Turned (u v : Queue) : Type 0 where
  pub row : v.row ≡ u.row
  pub head : v.head ≤ u.head + 1
  pub counter : v.counter ≤ u.counter + 1

turn : (u v : Queue) → v.row ≡ u.row → v.head ≤ u.head + 1 → v.counter ≤ u.counter + 1 → Turned u v
turn u v row head counter = record { row = row; head = head; counter = counter }

module _ (s : State) (q : ℕ) (u : Queue) (there : slice_get s.queues q ≡ Some u) where
  flown_turns : (copy : List ℕ) → Turned u (flown (past_head u) u.head copy)
  flown_turns copy = turn u (flown (past_head u) u.head copy) refl (omega arith) (omega arith)

  past_turns : Turned u (past_head u)
  past_turns = turn u (past_head u) refl (omega arith) (omega arith)

  stopped_turns : Turned u (stopped (past_head u))
  stopped_turns = turn u (stopped (past_head u)) refl (omega arith) (omega arith)

  -- what holds of a changed queue in its place holds of what a start leaves
  pub start_leaves : (P : State → Type 0) → ((v : Queue) → Turned u v → P (with_queue_at s q v)) → ((v : Queue) (target limit : ℕ) → Turned u v → may_raise u.row.domain (slice_get s.queues target) ≡ true → P (record s { queues = enabled_in (slice_set s.queues q v) target limit })) → (copy : List ℕ) (r : Request) (c : Class) → P (started s q u copy r c)
  unfolding started
  start_leaves P alone raises copy r ask.Flies = alone (flown (past_head u) u.head copy) (flown_turns copy)
  start_leaves P alone raises copy r ask.Undefined = alone (stopped (past_head u)) stopped_turns
  start_leaves P alone raises copy r ask.Passes =
      elim (is_some (counter_of s u.row.domain r.first)) as (λ b. P (with_queue_at s q (cond b (past_head u) (stopped (past_head u))))) [
        | true ↦ alone (past_head u) past_turns
        | false ↦ alone (stopped (past_head u)) stopped_turns
      ]
  start_leaves P alone raises copy r ask.Raises =
      elim (may_raise u.row.domain (slice_get s.queues r.first)) as (λ b. may_raise u.row.domain (slice_get s.queues r.first) ≡ b → P (cond b (record s { queues = enabled_in (slice_set s.queues q (past_head u)) r.first r.second }) (with_queue_at s q (stopped (past_head u))))) [
        | true ↦ λ may. raises (past_head u) r.first r.second past_turns may
        | false ↦ λ may. alone (stopped (past_head u)) stopped_turns
      ] refl

  pub start_after_leaves : (P : State → Type 0) → P s → ((v : Queue) → Turned u v → P (with_queue_at s q v)) → ((v : Queue) (target limit : ℕ) → Turned u v → may_raise u.row.domain (slice_get s.queues target) ≡ true → P (record s { queues = enabled_in (slice_set s.queues q v) target limit })) → (o : Option (List ℕ)) → P (start_after s q u o)
  start_after_leaves P same alone raises None = same
  start_after_leaves P same alone raises (Some copy) = start_leaves P alone raises copy (decoded copy) (class_of (decoded copy))

  land_after_leaves : (P : State → Type 0) → P s → ((v : Queue) (memory : List ℕ) → Turned u v → P (record s { memory = memory; queues = slice_set s.queues q v })) → (i : ℕ) (o : Option Flight) → P (land_after s q i u o)
  land_after_leaves P same lands i None = same
  land_after_leaves P same lands i (Some f) = by_landing (landing_at s q i u f.copy)
    where
      by_landing : (l : Landing) → P (land_leaves s q i u l)
      by_landing l =
          elim l.allowed as (λ b. P (record s { memory = changed s.memory l.writes; queues = slice_set s.queues q (cond b (landed_at u i) (stopped u)) })) [
            | true ↦ lands (landed_at u i) (changed s.memory l.writes) (turn u (landed_at u i) refl (omega arith) (omega arith))
            | false ↦ lands (stopped u) (changed s.memory l.writes) (turn u (stopped u) refl (omega arith) (omega arith))
          ]

  complete_leaves : (P : State → Type 0) → ((v : Queue) → Turned u v → P (with_queue_at s q v)) → (fs : List Flight) → P (with_queue_at s q (completed u fs))
  complete_leaves P alone [] = alone u (turn u u refl (omega arith) (omega arith))
  complete_leaves P alone (f ∷ fs) = alone (completed u (f ∷ fs)) (turn u (completed u (f ∷ fs)) refl (omega arith) (omega arith))

-- what every action keeps: shown once for a delivery, for a changed queue with its row, and for a raised one
pub record Keeps (P : State → Type 0) (s : State) (a : Action) : Type 0 where
  pub same : P s
  pub delivers : (memory : List ℕ) (chains : List Chain) → P (record s { memory = memory; chains = chains })
  pub changes : (q : ℕ) (u v : Queue) (memory : List ℕ) → acts_on a ≡ Some q → slice_get s.queues q ≡ Some u → Turned u v → P (record s { memory = memory; queues = slice_set s.queues q v })
  pub raises : (q : ℕ) (u v : Queue) (target limit : ℕ) → acts_on a ≡ Some q → slice_get s.queues q ≡ Some u → Turned u v → may_raise u.row.domain (slice_get s.queues target) ≡ true → P (record s { queues = enabled_in (slice_set s.queues q v) target limit })

module _ (P : State → Type 0) (s : State) where
  delivery_keeps : (c : ℕ) → Keeps P s (Deliver c) → (place : Option Receive) (chain : Option Chain) → P (deliver_after s c place chain)
  delivery_keeps c k None chain = k.same
  delivery_keeps c k (Some place) None = k.same
  delivery_keeps c k (Some place) (Some chain) = by_mail chain.mail
    where
      by_mail : (m : Mail) → P (delivered s c place chain m)
      by_mail Absent = k.same
      by_mail (Pending bytes) = k.delivers _ _
      by_mail Delivered = k.same

  by_queue : (q : ℕ) (go : Queue → State) → P s → ((u : Queue) → slice_get s.queues q ≡ Some u → P (go u)) → P (with_queue (slice_get s.queues q) s go)
  by_queue q go same each =
      elim (slice_get s.queues q) as (λ o. slice_get s.queues q ≡ o → P (with_queue o s go)) [
        | None ↦ λ e. same
        | Some u ↦ λ e. each u e
      ] refl

  pub keeps : (a : Action) → Keeps P s a → P (after s a)
  unfolding after
  keeps (Deliver c) k = delivery_keeps c k (slice_get s.receives c) (slice_get s.chains c)
  keeps (Fetch q i) k = by_queue q _ k.same (λ u e. k.changes q u (fetched u i (slot_of s.memory u.row i)) s.memory refl e (turn u (fetched u i (slot_of s.memory u.row i)) refl (omega arith) (omega arith)))
  keeps (Start q) k =
      by_queue q _ k.same (λ u e. start_after_leaves s q u e P k.same (λ v r. k.changes q u v s.memory refl e r) (λ v t l r may. k.raises q u v t l refl e r may) (get u.held u.head))
  keeps (Land q i) k = by_queue q _ k.same (λ u e. land_after_leaves s q u e P k.same (λ v m r. k.changes q u v m refl e r) i (flying u i))
  keeps (Complete q) k = by_queue q _ k.same (λ u e. complete_leaves s q u e P (λ v r. k.changes q u v s.memory refl e r) u.flights)

-- the regions stay
pub regions_stay : (s : State) (a : Action) → (after s a).regions ≡ s.regions
regions_stay s a =
    keeps (λ t. t.regions ≡ s.regions) s a record { same = refl; delivers = λ m c. refl; changes = λ q u v m on e r. refl; raises = λ q u v t l on e r may. refl }

pub receives_stay : (s : State) (a : Action) → (after s a).receives ≡ s.receives
receives_stay s a =
    keeps (λ t. t.receives ≡ s.receives) s a record { same = refl; delivers = λ m c. refl; changes = λ q u v m on e r. refl; raises = λ q u v t l on e r may. refl }

-- and so do all rows
pub rows_stay : (s : State) (a : Action) (n : ℕ) → row_at (after s a).queues n ≡ row_at s.queues n
rows_stay s a n =
    keeps (λ t. row_at t.queues n ≡ row_at s.queues n) s a record {
      same = refl;
      delivers = λ m c. refl;
      changes = λ q u v m on e t. set_row s.queues q n u v e t.row;
      raises = λ q u v t l on e r may. raised_rows (slice_set s.queues q v) t l n (slice_get (slice_set s.queues q v) t) refl ∙ set_row s.queues q n u v e r.row;
    }

raised_left : (queues : List Queue) (target limit n : ℕ) (o : Option Queue) → slice_get queues target ≡ o → Left (slice_get queues n) (slice_get (raised_in queues target limit o) n)
raised_left queues target limit n None e = Alone refl
raised_left queues target limit n (Some u) e =
    elim (cases_eq n target) as (λ c. Left (slice_get queues n) (slice_get (slice_set queues target (raised u limit)) n)) [
      | inl at ↦ Lifted u limit (ap (slice_get queues) at ∙ e) (ap (slice_get (slice_set queues target (raised u limit))) at ∙ set_here queues target u (raised u limit) e)
      | inr ne ↦ Alone (set_other queues target n (raised u limit) ne)
    ]

pub others_stay : (s : State) (a : Action) (n : ℕ) → acts_on a ≢ Some n → Left (slice_get s.queues n) (slice_get (after s a).queues n)
others_stay s a n other =
    keeps (λ t. Left (slice_get s.queues n) (slice_get t.queues n)) s a record {
      same = Alone refl;
      delivers = λ m c. Alone refl;
      changes = λ q u v m on e r. Alone (set_other s.queues q n v (apart q on));
      raises = λ q u v t l on e r may.
          let same = set_other s.queues q n v (apart q on) in
          subst (λ (o : Option Queue). Left o (slice_get (enabled_in (slice_set s.queues q v) t l) n)) same (raised_left (slice_set s.queues q v) t l n (slice_get (slice_set s.queues q v) t) refl);
    }
  where
    apart : (q : ℕ) → acts_on a ≡ Some q → n ≢ q
    apart q on at = other (on ∙ ap Some (sym at))

-- what an ENABLE raises, and what it doesn't
pub enabled_there : (queues : List Queue) (target limit : ℕ) (u : Queue) → slice_get queues target ≡ Some u → slice_get (enabled_in queues target limit) target ≡ Some (raised u limit)
enabled_there queues target limit u e = rw e (set_here queues target u (raised u limit) e)

pub enabled_elsewhere : (queues : List Queue) (target limit n : ℕ) → n ≢ target → slice_get (enabled_in queues target limit) n ≡ slice_get queues n
enabled_elsewhere queues target limit n other =
    elim (slice_get queues target) as (λ o. slice_get (raised_in queues target limit o) n ≡ slice_get queues n) [
      | None ↦ refl
      | Some u ↦ set_other queues target n (raised u limit) other
    ]

-- no queue's head or counter rises by more than one
at_most : (before now : Option Queue) (x y : Queue) → before ≡ Some x → now ≡ Some y → y.head ≤ x.head + 1 → y.counter ≤ x.counter + 1 → AtMost before now
at_most before now x y e f head counter =
    record {
      head = λ u v a b. let first : x ≡ u = cc in let last : y ≡ v = cc in omega (arith, ap (λ (z : Queue). z.head) first, ap (λ (z : Queue). z.head) last);
      counter = λ u v a b. let first : x ≡ u = cc in let last : y ≡ v = cc in omega (arith, ap (λ (z : Queue). z.counter) first, ap (λ (z : Queue). z.counter) last);
    }

same_at_most : (before now : Option Queue) → now ≡ before → AtMost before now
same_at_most before now e =
    record {
      head = λ u v a b. let same : u ≡ v = cc in omega (arith, ap (λ (z : Queue). z.head) same);
      counter = λ u v a b. let same : u ≡ v = cc in omega (arith, ap (λ (z : Queue). z.counter) same);
    }

raised_at_most : (before : Option Queue) (queues : List Queue) (t l n : ℕ) (o : Option Queue) → slice_get queues t ≡ o → AtMost before (slice_get queues n) → AtMost before (slice_get (raised_in queues t l o) n)
raised_at_most before queues t l n None e h = h
raised_at_most before queues t l n (Some u) e h =
    elim (cases_eq n t) [
      | inl at ↦
          let here : slice_get queues n ≡ Some u = ap (slice_get queues) at ∙ e in
          let now : slice_get (slice_set queues t (raised u l)) n ≡ Some (raised u l) = ap (slice_get (slice_set queues t (raised u l))) at ∙ set_here queues t u (raised u l) e in
          record {
            head = λ x y a b. let is : raised u l ≡ y = cc in let old = h.head x u a here in omega (arith, old, ap (λ (z : Queue). z.head) is);
            counter = λ x y a b. let is : raised u l ≡ y = cc in let old = h.counter x u a here in omega (arith, old, ap (λ (z : Queue). z.counter) is);
          }
      | inr ne ↦ subst (λ (m : Option Queue). AtMost before m) (sym (set_other queues t n (raised u l) ne)) h
    ]

turned_at_most : (s : State) (q n : ℕ) (u v : Queue) → slice_get s.queues q ≡ Some u → Turned u v → AtMost (slice_get s.queues n) (slice_get (slice_set s.queues q v) n)
turned_at_most s q n u v e t =
    elim (cases_eq n q) [
      | inl at ↦ at_most (slice_get s.queues n) (slice_get (slice_set s.queues q v) n) u v (ap (slice_get s.queues) at ∙ e) (ap (slice_get (slice_set s.queues q v)) at ∙ set_here s.queues q u v e) t.head t.counter
      | inr ne ↦ same_at_most (slice_get s.queues n) (slice_get (slice_set s.queues q v) n) (set_other s.queues q n v ne)
    ]

pub rises : (s : State) (a : Action) (n : ℕ) → AtMost (slice_get s.queues n) (slice_get (after s a).queues n)
rises s a n =
    keeps (λ t. AtMost (slice_get s.queues n) (slice_get t.queues n)) s a record {
      same = same_at_most (slice_get s.queues n) (slice_get s.queues n) refl;
      delivers = λ m c. same_at_most (slice_get s.queues n) (slice_get s.queues n) refl;
      changes = λ q u v m on e t. turned_at_most s q n u v e t;
      raises = λ q u v t l on e r may. raised_at_most (slice_get s.queues n) (slice_set s.queues q v) t l n (slice_get (slice_set s.queues q v) t) refl (turned_at_most s q n u v e r);
    }

found : (o : Option Queue) (test : Queue → Bool) → with_queue o false test ≡ true → (u : Queue) × (o ≡ Some u)
found None test p = absurd (false≢true p)
found (Some u) test p = (u, refl)

-- a queue that acts is there
pub acting_there : (s : State) (a : Action) (q : ℕ) → acts_on a ≡ Some q → possible s a ≡ true → (u : Queue) × (slice_get s.queues q ≡ Some u)
unfolding possible
acting_there s (Deliver c) q its p = absurd (cc)
acting_there s (Fetch n i) q its p = found (slice_get s.queues q) (fetch_possible i) (let same : n ≡ q = cc in subst (λ m. with_queue (slice_get s.queues m) false (fetch_possible i) ≡ true) same p)
acting_there s (Start n) q its p = found (slice_get s.queues q) (start_possible s) (let same : n ≡ q = cc in subst (λ m. with_queue (slice_get s.queues m) false (start_possible s) ≡ true) same p)
acting_there s (Land n i) q its p = found (slice_get s.queues q) (land_possible i) (let same : n ≡ q = cc in subst (λ m. with_queue (slice_get s.queues m) false (land_possible i) ≡ true) same p)
acting_there s (Complete n) q its p = found (slice_get s.queues q) complete_possible (let same : n ≡ q = cc in subst (λ m. with_queue (slice_get s.queues m) false complete_possible ≡ true) same p)
