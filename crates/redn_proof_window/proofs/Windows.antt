-- The requests in flight while a window is open, and the signals of its bodies.
use Rattle.std.proofs.Common.{◌≡◌, ℕ, zero, suc, ◌+◌, ◌-◌, ◌%◌, ◌<◌, ◌≤◌, inl, inr, Bool, true, false, cond, eqb, not, ◌&&◌, List, [], ◌∷◌, ◌++◌, Some, length, get_or, set, refl, sym, ap, subst, ◌∙◌, arith}
use Rattle.std.specs.List.{sum_by}
use Rattle.std.proofs.lemmas.Bool.{eqb-true, cases_lt}
use Rattle.std.proofs.lemmas.Bool.Decides.{nat_tests}
use Rattle.std.proofs.lemmas.List.{take_all, get_or_append_left}
use Rattle.std.proofs.lemmas.List.Sums.{sum_by_more}
use Rattle.redn_words.specs.declared.types.Flight.{Flight}
use Rattle.redn_words.specs.Requests.{decoded}
use Rattle.redn_words.specs.Steps.{flying_in, with_landed}
use Rattle.redn_proof_window.specs.Windows.{Opening, bodies_of, place_of, copy_of, body_of, signals, flight, flights_from}
use Rattle.redn_proof_window.proofs.Places.{copy_behind}

module _ (w : Opening) where
  pub flights_push : (k n : ℕ) (marks : List Bool) → n ≡ k + length marks → flights_from w k (marks ++ false ∷ []) ≡ flights_from w k marks ++ flight w n false ∷ []
  flights_push k n [] e = let at : k ≡ n = omega arith in ap (λ (m : ℕ). flight w m false ∷ []) at
  flights_push k n (b ∷ marks) e = ap (λ (l : List Flight). flight w k b ∷ l) (flights_push (k + 1) n marks (omega arith))

  -- where the request of an index is in flight and hasn't landed
  pub record Flying (k : ℕ) (marks : List Bool) (i : ℕ) : Type 0 where
    pub nth : ℕ
    pub inside : nth < length marks
    pub is : i ≡ w.from + (k + nth)
    pub unlanded : get_or marks nth false ≡ false
    pub found : flying_in i (flights_from w k marks) ≡ Some (flight w (k + nth) false)
    pub left : with_landed i (flights_from w k marks) ≡ flights_from w k (set marks nth true)

  flying_here : (k : ℕ) (marks : List Bool) (i : ℕ) → eqb (w.from + k) i ≡ true → Flying k (false ∷ marks) i
  flying_here k marks i t =
      let at : w.from + k ≡ i = eqb-true (w.from + k) i t in
      let place : k ≡ k + 0 = omega arith in
      record {
        nth = 0;
        inside = omega arith;
        is = omega (arith, at);
        unlanded = refl;
        found = rw t (ap (λ (n : ℕ). Some (flight w n false)) place);
        left = rw t refl;
      }

  flying_later : (k : ℕ) (b : Bool) (marks : List Bool) (i : ℕ) → (eqb (w.from + k) i && not b) ≡ false → Flying (k + 1) marks i → Flying k (b ∷ marks) i
  flying_later k b marks i t f =
      let place : (k + 1) + f.nth ≡ k + suc f.nth = omega arith in
      record {
        nth = suc f.nth;
        inside = let h = f.inside in omega arith;
        is = let e = f.is in omega arith;
        unlanded = f.unlanded;
        found = rw t (f.found ∙ ap (λ (n : ℕ). Some (flight w n false)) place);
        left = rw t (ap (λ (l : List Flight). flight w k b ∷ l) f.left);
      }

  pub flying : (k : ℕ) (marks : List Bool) (i : ℕ) (f : Flight) → flying_in i (flights_from w k marks) ≡ Some f → Flying k marks i
  flying k [] i f p = absurd (cc)
  flying k (true ∷ marks) i f p =
      elim (eqb (w.from + k) i) as (λ t. eqb (w.from + k) i ≡ t → cond (t && false) (Some (flight w k true)) (flying_in i (flights_from w (k + 1) marks)) ≡ Some f → Flying k (true ∷ marks) i) [
        | true ↦ λ t q. flying_later k true marks i (rw t refl) (flying (k + 1) marks i f q)
        | false ↦ λ t q. flying_later k true marks i (rw t refl) (flying (k + 1) marks i f q)
      ] refl p
  flying k (false ∷ marks) i f p =
      elim (eqb (w.from + k) i) as (λ t. eqb (w.from + k) i ≡ t → cond (t && true) (Some (flight w k false)) (flying_in i (flights_from w (k + 1) marks)) ≡ Some f → Flying k (false ∷ marks) i) [
        | true ↦ λ t q. flying_here k marks i t
        | false ↦ λ t q. flying_later k false marks i (rw t refl) (flying (k + 1) marks i f q)
      ] refl p

  -- the oldest can be found by its index
  pub oldest_flies : (k : ℕ) (marks : List Bool) → flying_in (w.from + k) (flights_from w k (false ∷ marks)) ≡ Some (flight w k false)
  oldest_flies k marks = let same : eqb (w.from + k) (w.from + k) ≡ true = grind (arith, nat_tests) in rw same refl

  -- signals
  pub signals_more : (n : ℕ) → n < bodies_of w → signals w (n + 1) ≡ signals w n + (body_of w n).flags % 2
  signals_more n l =
      let its : get_or w.bodies n [] ≡ copy_of w (place_of w n) = sym (copy_behind w n ∙ get_or_append_left w.bodies w.gates [] n l) in
      sum_by_more (λ (copy : List ℕ). (decoded copy).flags % 2) w.bodies n [] l ∙ ap (λ (copy : List ℕ). signals w n + (decoded copy).flags % 2) its

  pub signals_past : (n : ℕ) → bodies_of w ≤ n → signals w n ≡ signals w (bodies_of w)
  signals_past n h = ap (sum_by (λ (copy : List ℕ). (decoded copy).flags % 2)) (take_all n w.bodies h ∙ sym (take_all (bodies_of w) w.bodies (omega arith)))

  signals_step : (n : ℕ) → signals w n ≤ signals w (n + 1)
  signals_step n =
      elim (cases_lt n (bodies_of w)) as (λ c. signals w n ≤ signals w (n + 1)) [
        | inl l ↦ omega (arith, signals_more n l)
        | inr past ↦ omega (arith, signals_past n past, signals_past (n + 1) (omega arith))
      ]

  pub signals_mono : (a k : ℕ) → signals w a ≤ signals w (a + k)
  signals_mono a zero = let e : a + 0 ≡ a = omega arith in rw e (omega arith)
  signals_mono a (suc k) =
      let e : a + suc k ≡ (a + k) + 1 = omega arith in
      rw e (omega (arith, signals_mono a k, signals_step (a + k)))

  -- where the last body is signalled, all signals have come only once all bodies have completed
  pub all_signals : ((k : ℕ) → k + 1 ≡ bodies_of w → (body_of w k).flags % 2 ≡ 1) → (n : ℕ) → signals w (bodies_of w) ≤ signals w n → bodies_of w ≤ n
  all_signals last n h =
      elim (cases_lt n (bodies_of w)) as (λ c. bodies_of w ≤ n) [
        | inr past ↦ past
        | inl l ↦
            let k : ℕ = bodies_of w - 1 in
            let at : k + 1 ≡ bodies_of w = omega arith in
            let up : n + (k - n) ≡ k = omega arith in
            let lower : signals w n ≤ signals w k = subst (λ m. signals w n ≤ signals w m) up (signals_mono n (k - n)) in
            let all : signals w (bodies_of w) ≡ signals w (k + 1) = sym (ap (signals w) at) in
            absurd (omega (arith, lower, all, signals_more k (omega arith), last k at, h))
      ]
