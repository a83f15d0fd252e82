-- What the windows of a part cost.
use Rattle.std.proofs.Common.{◌≡◌, ℕ, zero, suc, ◌+◌, ◌-◌, ◌*◌, ◌<◌, ◌≤◌, inl, inr, Bool, true, false, cond, ◌&&◌, ◌==◌, List, [], ◌∷◌, ◌++◌, length, get_or, refl, sym, ap, ◌∙◌, subst, arith, length-append, append_assoc}
use Rattle.std.proofs.lemmas.Bool.{cases_lt, eq-eqb}
use Rattle.std.proofs.Math.Seq.{get_or-append_seam}
use Rattle.std.proofs.lemmas.List.{get_or_append_left, length-map}
use Rattle.redn_segment.specs.declared.types.Draft.{Draft}
use Rattle.redn_segment.specs.Orders.{is_send}
use Rattle.redn_segment.specs.Costs.{sends, segment_actions}
use Rattle.redn_recycle.specs.Laps.{Ring, is_send_last, gates_of, lap_requests, bodies_of}
use Rattle.redn_recycle.specs.Lapped.{segment_at, sends_last, ring_of}
use Rattle.redn_proof_chain.specs.Openings.{opening_cost, openings_cost}

-- the useful actions of segments
abbrev pub actions : List (List Draft) → ℕ
actions [] = 0
actions (s ∷ ss) = segment_actions s + actions ss

-- segments without a SEND
abbrev pub Quiet : List (List Draft) → Type 0
Quiet [] = Unit {0}
Quiet (s ∷ ss) = (sends s ≡ false) × Quiet ss

quiet_at : (ss : List (List Draft)) → Quiet ss → (j : ℕ) → j < length ss → sends (get_or ss j []) ≡ false
quiet_at [] q j l = absurd (omega (arith, l))
quiet_at (s ∷ ss) q zero l = q.0
quiet_at (s ∷ ss) q (suc j) l = quiet_at ss q.1 j (omega (arith, l))

pub quiet_both : (xs ys : List (List Draft)) → Quiet xs → Quiet ys → Quiet (xs ++ ys)
quiet_both [] ys p q = q
quiet_both (x ∷ xs) ys p q = (p.0, quiet_both xs ys p.1 q)

-- segments of which the last alone may send
pub record MaySend (all : List (List Draft)) : Type 0 where
  pub front : List (List Draft)
  pub last : List Draft
  pub whole : all ≡ front ++ (last ∷ [])
  pub quiet : Quiet front
  pub more : 1 ≤ length front
  pub alone : sends last ≡ true → (d : Draft) × (last ≡ d ∷ []) × (is_send d.op ≡ true)

actions_quiet : (s : List Draft) → sends s ≡ false → segment_actions s ≡ 4 * length s + 12
actions_quiet s e = ap (λ (b : Bool). 4 * length s + cond b 0 12) e

actions_least : (s : List Draft) → 4 * length s ≤ segment_actions s
actions_least s = omega arith

few_laps : (b : Bool) (x y z : Draft) → length (cond b (x ∷ []) (y ∷ z ∷ [])) ≤ 2
few_laps true x y z = omega arith
few_laps false x y z = omega arith

no_laps : (b : Bool) (y z : Draft) → length (cond b [] (y ∷ z ∷ [])) ≤ 2
no_laps true y z = omega arith
no_laps false y z = omega arith

few_gates : (b : Bool) → cond b 0 2 ≤ 2
few_gates true = omega arith
few_gates false = omega arith

module _ (number : ℕ) (r : Ring) where
  laps_few : (j : ℕ) → length (lap_requests number r j) ≤ 2
  laps_few zero = few_laps r.sends _ _ _
  laps_few (suc j) = no_laps (is_send_last number r (suc j)) _ _

  gates_few : (j : ℕ) → gates_of number r j ≤ 2
  gates_few j = few_gates (is_send_last number r j)

  none_sent : (j : ℕ) → is_send_last number r (suc j) ≡ true → (length (lap_requests number r (suc j)) ≡ 0) × (gates_of number r (suc j) ≡ 0)
  none_sent j e = (rw e refl, rw e refl)

module _ (all : List (List Draft)) (number domain base : ℕ) (h : MaySend all) where
  abbrev r : Ring
  r = ring_of all number domain base

  -- a window costs what its drafts, two lap requests and two gates do
  long : (j : ℕ) → length (bodies_of number r j) ≡ length (segment_at all j) + length (lap_requests number r j)
  long j = length-append (r.drafts j) (lap_requests number r j) ∙ ap (λ (n : ℕ). n + length (lap_requests number r j)) (length-map (segment_at all j) _)

  size : length all ≡ suc (length h.front)
  size = ap length h.whole ∙ length-append h.front (h.last ∷ []) ∙ omega arith

  quiet_front : (j : ℕ) → j < length h.front → sends (segment_at all j) ≡ false
  quiet_front j l = ap (λ (x : List (List Draft)). sends (get_or x j [])) h.whole ∙ ap sends (get_or_append_left h.front (h.last ∷ []) [] j l) ∙ quiet_at h.front h.quiet j l

  by_quiet : (j : ℕ) → sends (segment_at all j) ≡ false → opening_cost number r j ≤ segment_actions (segment_at all j)
  by_quiet j e = let a = actions_quiet (segment_at all j) e in let b = laps_few number r j in let g = gates_few number r j in let n = long j in omega (arith, a, b, g, n)

  by_last : (b : Bool) → sends_last all ≡ b → (j : ℕ) → suc j ≡ length h.front → opening_cost number r (suc j) ≤ segment_actions (segment_at all (suc j))
  by_last true e j is =
      let there : is_send_last number r (suc j) ≡ true = ap (λ (b : Bool). b && (suc (suc j) == length all)) e ∙ eq-eqb (suc (suc j)) (length all) (omega (arith, is, size)) in
      let none = none_sent number r j there in
      let no_lap = none.0 in
      let no_gate = none.1 in
      let n = long (suc j) in
      let least = actions_least (segment_at all (suc j)) in
      omega (arith, n, least, no_lap, no_gate)
  by_last false e j is = by_quiet (suc j) (ap (λ (k : ℕ). sends (segment_at all k)) (omega (arith, is, size)) ∙ e)

  at_last : (j : ℕ) → j ≡ length h.front → opening_cost number r j ≤ segment_actions (segment_at all j)
  at_last zero is = absurd (let some = h.more in omega (arith, is, some))
  at_last (suc j) is = by_last (sends_last all) refl j is

  pub opening_le : (j : ℕ) → j < length all → opening_cost number r j ≤ segment_actions (segment_at all j)
  opening_le j l =
      elim (cases_lt j (length h.front)) [
        | inl low ↦ by_quiet j (quiet_front j low)
        | inr high ↦ at_last j (omega (arith, l, size, high))
      ]

  -- the windows of segments that follow one another
  openings_le : (before part behind : List (List Draft)) (j : ℕ) → all ≡ before ++ (part ++ behind) → length before ≡ j → openings_cost number r j (length part) ≤ actions part
  openings_le before [] behind j e is = omega arith
  openings_le before (s ∷ part) behind j e is =
      let total : length all ≡ length before + suc (length (part ++ behind)) = ap length e ∙ length-append before (s ∷ (part ++ behind)) in
      let first : opening_cost number r j ≤ segment_actions (segment_at all j) = opening_le j (omega (arith, total, is)) in
      let there : segment_at all j ≡ s = ap (λ (x : List (List Draft)). get_or x j []) e ∙ ap (λ (k : ℕ). get_or (before ++ (s ∷ (part ++ behind))) k []) (sym is) ∙ get_or-append_seam before s (part ++ behind) [] in
      let now : opening_cost number r j ≤ segment_actions s = subst (λ (x : List Draft). opening_cost number r j ≤ segment_actions x) there first in
      let longer : length (before ++ (s ∷ [])) ≡ length before + 1 = length-append before (s ∷ []) in
      let rest : openings_cost number r (suc j) (length part) ≤ actions part = openings_le (before ++ (s ∷ [])) part behind (suc j) (e ∙ sym (append_assoc before (s ∷ []) (part ++ behind))) (omega (arith, longer, is)) in
      omega (arith, now, rest)

  pub part_le : (before part behind : List (List Draft)) (j left : ℕ) → all ≡ before ++ (part ++ behind) → length before ≡ j → suc left ≡ length part → openings_cost number r j (suc left) ≤ actions part
  part_le before part behind j left e is m = subst (λ (n : ℕ). openings_cost number r j n ≤ actions part) (sym m) (openings_le before part behind j e is)

  -- the last segment, where it sends
  pub last_sends : sends_last all ≡ true → (j : ℕ) → suc j ≡ length all → (d : Draft) × (segment_at all j ≡ d ∷ []) × (is_send d.op ≡ true)
  last_sends e j is =
      let at : length h.front ≡ j = omega (arith, is, size) in
      let there : segment_at all j ≡ h.last = ap (λ (x : List (List Draft)). get_or x j []) h.whole ∙ ap (λ (k : ℕ). get_or (h.front ++ (h.last ∷ [])) k []) (sym at) ∙ get_or-append_seam h.front h.last [] [] in
      let last_at : segment_at all (length all - 1) ≡ segment_at all j = ap (segment_at all) (omega (arith, is)) in
      let alone = h.alone (ap sends (sym there) ∙ ap sends (sym last_at) ∙ e) in
      (alone.0, there ∙ alone.1, alone.2)
