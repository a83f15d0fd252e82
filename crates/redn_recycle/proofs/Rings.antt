-- A ring of segments with laps is a ring.
use Rattle.std.proofs.Common.{◌≡◌, ℕ, zero, suc, ◌+◌, ◌-◌, ◌<◌, ◌≤◌, Bool, true, false, cond, ◌&&◌, ◌==◌, List, [], ◌∷◌, ◌++◌, length, refl, sym, ap, ◌∙◌, arith, length-append, append_assoc, append-nil}
use Rattle.std.proofs.lemmas.List.{length-map}
use Rattle.std.proofs.lemmas.Bool.{ne_eqb, true≢false}
use Rattle.redn_segment.specs.declared.types.Draft.{Draft}
use Rattle.redn_segment.specs.Renaming.{renamed}
use Rattle.redn_words.specs.declared.types.Opcode.TheVariants.{Wait, Enable}
use Rattle.redn_recycle.specs.Laps.{Ring, IsRing, is_last, gates_of, lap_requests, bodies_of, raise_wait, raise_enable, raise_descriptor, is_send_last}
use Rattle.redn_recycle.specs.Lapped.{ring_of, segment_at, sends_last, slots_added, first_of, ref_in_laps, gate_draft, gate_drafts}

module _ (segments : List (List Draft)) (number domain base : ℕ) where
  abbrev r : Ring
  r = ring_of segments number domain base

  -- lap requests and gates
  pub added_is : (j : ℕ) → 2 ≤ length segments → length (lap_requests number r j) + gates_of number r j ≡ slots_added segments j
  added_is zero some =
      let more : (1 == length segments) ≡ false = ne_eqb 1 (length segments) (λ e. omega arith) in
      elim (sends_last segments) as (λ b. length (cond b (raise_descriptor number r ∷ []) (raise_wait number r (length segments - 1) ∷ raise_descriptor number r ∷ [])) + cond (b && (1 == length segments)) 0 2 ≡ cond (b && (1 == length segments)) 0 (cond (b && true) 3 4)) [
        | true ↦ rw more refl
        | false ↦ refl
      ]
  added_is (suc j) some =
      elim (is_send_last number r (suc j)) as (λ b. length (cond b [] (raise_wait number r j ∷ raise_enable number r j ∷ [])) + cond b 0 2 ≡ cond b 0 (cond (sends_last segments && (suc j == 0)) 3 4)) [
        | true ↦ refl
        | false ↦ never (sends_last segments)
      ]
    where
      later : (suc j == 0) ≡ false
      later = ne_eqb (suc j) 0 (λ e. omega arith)

      never : (b : Bool) → ◌≡◌ {A = ℕ} 4 (cond (b && (suc j == 0)) 3 4)
      never true = rw later refl
      never false = refl

  pub bodies_and_gates : (j : ℕ) → 2 ≤ length segments → length (bodies_of number r j) + gates_of number r j ≡ length (segment_at segments j) + slots_added segments j
  bodies_and_gates j some =
      let added = added_is j some in
      let same : length (r.drafts j) ≡ length (segment_at segments j) = length-map (segment_at segments j) (renamed (ref_in_laps segments number)) in
      let all : length (bodies_of number r j) ≡ length (r.drafts j) + length (lap_requests number r j) = length-append (r.drafts j) (lap_requests number r j) in
      omega (arith, added, same, all)

  pub is_ring : 2 ≤ length segments → IsRing number r
  is_ring some =
      record {
        some = some;
        starts = refl;
        follows = λ j l. ap (λ (n : ℕ). first_of segments j + n) (sym (bodies_and_gates j some));
        ends = refl;
      }

-- the gates and lap requests of each kind of segment
module _ (number : ℕ) (r : Ring) where
  pub no_gates : (j : ℕ) → is_send_last number r j ≡ true → gate_drafts number r j ≡ []
  no_gates j t = rw t refl

  pub last_gates : (j : ℕ) → is_send_last number r j ≡ false → is_last number r j ≡ true → gate_drafts number r j ≡ gate_draft Wait number 0 ∷ gate_draft Enable 0 0 ∷ []
  last_gates j f t = rw f (rw t refl)

  pub inner_gates : (j : ℕ) → is_last number r j ≡ false → gate_drafts number r j ≡ gate_draft Wait number (suc j) ∷ gate_draft Enable number (r.first (suc (suc j))) ∷ []
  inner_gates j f = by_test r.sends (is_last number r j) f
    where
      by_test : (s l : Bool) → l ≡ false → cond (s && l) [] (cond l (gate_draft Wait number 0 ∷ gate_draft Enable 0 0 ∷ []) (gate_draft Wait number (suc j) ∷ gate_draft Enable number (r.first (suc (suc j))) ∷ [])) ≡ gate_draft Wait number (suc j) ∷ gate_draft Enable number (r.first (suc (suc j))) ∷ []
      by_test s true e = absurd (true≢false e)
      by_test true false e = refl
      by_test false false e = refl

  pub one_request : r.sends ≡ true → lap_requests number r 0 ≡ raise_descriptor number r ∷ []
  one_request t = rw t refl

  pub first_requests : r.sends ≡ false → lap_requests number r 0 ≡ raise_wait number r (r.segments - 1) ∷ raise_descriptor number r ∷ []
  first_requests f = rw f refl

  pub no_requests : (j : ℕ) → 0 < j → is_send_last number r j ≡ true → lap_requests number r j ≡ []
  no_requests zero l t = absurd (omega arith)
  no_requests (suc j) l t = rw t refl

  pub two_requests : (j : ℕ) → 0 < j → is_send_last number r j ≡ false → lap_requests number r j ≡ raise_wait number r (j - 1) ∷ raise_enable number r (j - 1) ∷ []
  two_requests zero l f = absurd (omega arith)
  two_requests (suc j) l f =
      let same : j ≡ suc j - 1 = omega arith in
      ap (λ (b : Bool). cond b [] (raise_wait number r j ∷ raise_enable number r j ∷ [])) f ∙ ap (λ (k : ℕ). raise_wait number r k ∷ raise_enable number r k ∷ []) same

-- drafts that are pushed
pub pushed_none : (xs l : List Draft) → l ≡ [] → xs ≡ xs ++ l
pushed_none xs l e = sym (append-nil xs) ∙ ap (λ (k : List Draft). xs ++ k) (sym e)

pub pushed_one : (xs ys l : List Draft) (a b : Draft) → ys ≡ xs ++ a ∷ [] → a ≡ b → l ≡ b ∷ [] → ys ≡ xs ++ l
pushed_one xs ys l a b e f g = e ∙ ap (λ (x : Draft). xs ++ x ∷ []) f ∙ ap (λ (k : List Draft). xs ++ k) (sym g)

pub pushed_two : (xs ys zs l : List Draft) (a b d e : Draft) → ys ≡ xs ++ a ∷ [] → zs ≡ ys ++ b ∷ [] → a ≡ d → b ≡ e → l ≡ d ∷ e ∷ [] → zs ≡ xs ++ l
pushed_two xs ys zs l a b d e first second f g h =
    second ∙ ap (λ (k : List Draft). k ++ b ∷ []) first ∙ append_assoc xs (a ∷ []) (b ∷ []) ∙ ap (λ (x : Draft). xs ++ x ∷ b ∷ []) f ∙ ap (λ (x : Draft). xs ++ d ∷ x ∷ []) g ∙ ap (λ (k : List Draft). xs ++ k) (sym h)
