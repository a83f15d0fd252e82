-- More of what an action leaves alone, and how gates go on.
use Rattle.std.proofs.Common.{◌≡◌, ◌≢◌, ℕ, ◌+◌, ◌-◌, ◌≤◌, Bool, true, false, ◌&&◌, ◌==◌, Option, Some, refl, sym, ap, ◌∙◌, arith}
use Rattle.std.specs.Prelude.{slice_get, slice_set, nat_lt, if◌then◌else◌}
use Rattle.std.proofs.lemmas.Bool.{false≢true, and_parts, eq-eqb}
use Rattle.std.proofs.lemmas.Bool.Decides.{nat_tests}
use Rattle.redn_words.specs.declared.types.Action.{Action}
use Rattle.redn_words.specs.declared.types.Action.TheVariants.{Deliver, Fetch, Start, Land, Complete}
use Rattle.redn_words.specs.declared.limits.TheConstants.{RECEIVE_BASE}
use Rattle.redn_words.specs.States.{Queue, State}
use Rattle.redn_words.specs.Steps.{after, may_raise, counter_of, chain_counter, chain_of, is_useful, domain_of, acts_on}
use Rattle.redn_words.specs.Runs.{is_for}
use Rattle.redn_words.proofs.Others.{keeps, set_other, enabled_elsewhere}
use Rattle.redn_proof_window.specs.Moves.{cost}
use Rattle.redn_image.proofs.Simulation.{spent}

module _ (s : State) (q : ℕ) (u : Queue) (there : slice_get s.queues q ≡ Some u) where
  -- an action is for the domain of its queue
  pub chain_is : (a : Action) → acts_on a ≡ Some q → chain_of s a ≡ Some u.row.domain
  chain_is (Deliver c) its = absurd (cc)
  chain_is (Fetch n i) its = let same : n ≡ q = cc in ap (λ m. domain_of (slice_get s.queues m)) same ∙ ap domain_of there
  chain_is (Start n) its = let same : n ≡ q = cc in ap (λ m. domain_of (slice_get s.queues m)) same ∙ ap domain_of there
  chain_is (Land n i) its = let same : n ≡ q = cc in ap (λ m. domain_of (slice_get s.queues m)) same ∙ ap domain_of there
  chain_is (Complete n) its = let same : n ≡ q = cc in ap (λ m. domain_of (slice_get s.queues m)) same ∙ ap domain_of there

  not_managed : (domain : ℕ) (v : Queue) → may_raise domain (Some v) ≡ true → v.row.managed ≡ true
  not_managed domain v e = (and_parts v.row.managed (v.row.domain == domain) e).0

  -- a static queue stays as it is while others act
  pub static_stays : (a : Action) (n : ℕ) (v : Queue) → acts_on a ≡ Some q → n ≢ q → slice_get s.queues n ≡ Some v → v.row.managed ≡ false → slice_get (after s a).queues n ≡ Some v
  static_stays a n v its ne here static =
      keeps (λ t. slice_get t.queues n ≡ Some v) s a record {
        same = here;
        delivers = λ m c. here;
        changes = λ k x y m on e r. set_other s.queues k n y (apart k on) ∙ here;
        raises = λ k x y t l on e r may. enabled_elsewhere (slice_set s.queues k y) t l n (not_raised x t may) ∙ set_other s.queues k n y (apart k on) ∙ here;
      }
    where
      apart : (k : ℕ) → acts_on a ≡ Some k → n ≢ k
      apart k on at = let same : k ≡ q = cc (on, its) in ne (at ∙ same)

      not_raised : (x : Queue) (t : ℕ) → may_raise x.row.domain (slice_get s.queues t) ≡ true → n ≢ t
      not_raised x t may at =
          let found : slice_get s.queues t ≡ Some v = ap (slice_get s.queues) (sym at) ∙ here in
          false≢true (sym static ∙ not_managed x.row.domain v (ap (may_raise x.row.domain) (sym found) ∙ may))

-- what is spent for a chain is what an action costs at most, and nothing for other chains
pub spent_most : (c : ℕ) (s : State) (a : Action) → spent c s a ≤ cost s a
spent_most c s a = by_tests (is_useful s a) (is_for c (chain_of s a))
  where
    by_tests : (b d : Bool) → ◌≤◌ (if b && d then 1 else 0) (if b then 1 else 0)
    by_tests true true = omega arith
    by_tests true false = omega arith
    by_tests false d = omega arith

pub spent_nothing : (c d : ℕ) (s : State) (a : Action) → chain_of s a ≡ Some d → c ≢ d → spent c s a ≡ 0
spent_nothing c d s a its ne =
    let apart : (c == d) ≡ false = grind (arith, nat_tests) in
    ap (λ (o : Option ℕ). if is_useful s a && is_for c o then 1 else 0) its ∙ ap (λ (b : Bool). if is_useful s a && b then 1 else 0) apart ∙ none (is_useful s a)
  where
    none : (b : Bool) → ◌≡◌ {A = ℕ} (if b && false then 1 else 0) 0
    none true = refl
    none false = refl

-- a chain reads how many messages it has received
pub received_counter : (s : State) (c : ℕ) → counter_of s c (RECEIVE_BASE + c) ≡ chain_counter (slice_get s.chains c)
unfolding counter_of
received_counter s c =
    let past : nat_lt (RECEIVE_BASE + c) RECEIVE_BASE ≡ false = grind (arith, nat_tests) in
    let left : (RECEIVE_BASE + c) - RECEIVE_BASE ≡ c = omega arith in
    let own : (c == c) ≡ true = eq-eqb c c refl in
    rw (past, left, own) refl
