-- Behind a window that is over is another, and the graph has gone on by what the event wrote.
use Rattle.std.proofs.Common.{◌≡◌, ℕ, zero, suc, ◌<◌, ◌^◌, inl, inr, true, List, [], ◌∷◌, ◌++◌, map, length, take, refl, sym, ap, ◌∙◌, subst, arith}
use Rattle.redn_words.specs.Words.{bytes_at, number, spelled}
use Rattle.redn_words.specs.Landings.{Change}
use Rattle.redn_words.proofs.Numbers.{number-spelled, length-spelled}
use Rattle.redn_segment.specs.declared.types.Space.TheVariants as space
use Rattle.redn_segment.specs.declared.types.Draft.{Draft}
use Rattle.redn_segment.specs.Plain.{Bytes}
use Rattle.redn_proof_window.specs.Scripts.{IsOver, Behind}
use Rattle.redn_proof_landing.specs.Homes.{seen_in, change_of}
use Rattle.redn_proof_landing.specs.Segments.{slot_space}
use Rattle.redn_recycle.specs.Laps.{gates_of, enable_of, opening_at}
use Rattle.redn_proof_ring.specs.Plans.{Plan, is_ring, IsBody}
use Rattle.redn_proof_ring.specs.Turns.{Meaning, Ready, HasBytes, GoesTo, script_of, segment_of}
use Rattle.redn_proof_ring.proofs.LapNext.{seen_bytes}
use Rattle.redn_proof_ring.proofs.LapWindows.{ring_small}
use Rattle.redn_proof_ring.proofs.LapScript.{two_of, goes_on}
use Rattle.redn_proof_chain.specs.Formed.{Formed, IsFormed, Point, plan, its_meaning}
use Rattle.redn_proof_ring.proofs.LapEvent.{Left}
use Rattle.redn_proof_ring.proofs.LapBehind.{left}
use Rattle.redn_proof_chain.proofs.Events.{promises}

-- descriptors of other rings differ
front_of : (a b : List ℕ) (n : ℕ) → length a ≡ n → take n (a ++ b) ≡ a
front_of [] b zero e = refl
front_of [] b (suc n) e = absurd (omega (arith, e))
front_of (x ∷ a) b zero e = absurd (omega (arith, e))
front_of (x ∷ a) b (suc n) e = ap (λ (l : List ℕ). x ∷ l) (front_of a b n (omega (arith, e)))

same_ring : (v u k l : ℕ) → v < 256 ^ 8 → u < 256 ^ 8 → spelled 8 v ++ spelled 8 k ≡ spelled 8 u ++ spelled 8 l → v ≡ u
same_ring v u k l small few e =
    let fronts : spelled 8 v ≡ spelled 8 u = sym (front_of (spelled 8 v) (spelled 8 k) 8 (length-spelled 8 v)) ∙ ap (take 8) e ∙ front_of (spelled 8 u) (spelled 8 l) 8 (length-spelled 8 u) in
    sym (number-spelled 8 v small) ∙ ap (λ (b : List ℕ). number 8 b 0) fronts ∙ number-spelled 8 u few

-- where a window is over, another is behind it; the event has written what its body puts
pub record GoesOn (f : Formed) (x y : Point f) (m : List ℕ) (event : List Change) (n : List ℕ) : Type 0 where
  pub behind : Behind (script_of (plan f) (its_meaning f)) x y m n
  pub goes : GoesTo (plan f) (its_meaning f) x y m n
  pub made : (d : Draft) → IsBody (plan f) x.ring x.segment (((plan f).ring x.ring).event x.segment) d → event ≡ map (change_of (plan f).home) (goes.leaves.each (((plan f).ring x.ring).event x.segment))

module _ (f : Formed) (h : IsFormed f) where
  abbrev c : Plan
  c = plan f

  abbrev G : Meaning c
  G = its_meaning f

  module _ (x : Point f) (m : List ℕ) (event : List Change) (n : List ℕ) (over : IsOver (script_of c G) x m event n) where
    abbrev r : ℕ
    r = x.ring

    abbrev j : ℕ
    j = x.segment

    abbrev ready : Ready c G x m
    ready = over.ready

    abbrev s : Bytes
    s = seen_in c.home m

    abbrev t : Bytes
    t = seen_in c.home n

    bytes : HasBytes t
    bytes k = seen_bytes c.home n (space.Table k) over.sound

    abbrev old : (y : Point f) × Behind (script_of c G) x y m n × GoesTo c G x y m n
    old = goes_on c h.laid G (promises f h) x m event n over

    abbrev its : Left c h.laid G (promises f h) x m ready n event
    its = left c h.laid G (promises f h) x m ready n event over.standing over.sound over.wrote

    -- there with another ghost
    abbrev at_ghost : G.Ghost → Point f
    at_ghost z = record { ring = old.0.ring; segment = old.0.segment; laps = old.0.laps; ghost = z; ring_in = old.0.ring_in; segment_in = old.0.segment_in }

    goes_with : (z : G.Ghost) → G.Then r j x.ghost s t its.leaves z → G.Fine old.0.ring old.0.segment z t → (y : Point f) × GoesOn f x y m event n
    goes_with z follows fine =
        let on : Behind (script_of c G) x old.0 m n = old.1 in
        let was : Ready c G old.0 n = on.ready in (
          at_ghost z,
          record {
            behind = record {
              ready = record { size = was.size; few = was.few; drafts = was.drafts; waits = was.waits; enables = was.enables; last = was.last; descriptors = was.descriptors; fine = fine };
              queue = on.queue;
              limit = on.limit;
              regions = on.regions;
              own_at = on.own_at;
              own_counted = on.own_counted;
              others_at = on.others_at;
              others_counted = on.others_counted;
            };
            goes = record { leaves = its.leaves; follows = follows; way = old.2.way };
            made = its.made;
          },
        )

    within : old.0.ring ≡ r → old.0.segment ≡ suc j → (y : Point f) × GoesOn f x y m event n
    within ring_is segment_is =
        let inside : suc j < (c.ring r).segments = subst (λ (k : ℕ). k < (c.ring r).segments) segment_is (subst (λ (q : ℕ). old.0.segment < (c.ring q).segments) ring_is old.0.segment_in) in
        let went = (promises f h).onward r j x.ghost s t x.ring_in inside ready.fine bytes its.leaves in
        goes_with went.0 went.1 (subst (λ (k : ℕ). G.Fine old.0.ring k went.0 t) (sym segment_is) (subst (λ (q : ℕ). G.Fine q (suc j) went.0 t) (sym ring_is) went.2))

    elsewhere : suc j ≡ (c.ring r).segments → old.0.segment ≡ 0 → bytes_at (s (slot_space r (enable_of r (c.ring r) j))) 40 16 ≡ s (space.Descriptor old.0.ring) → (y : Point f) × GoesOn f x y m event n
    elsewhere end start chosen =
        let gates : gates_of r (c.ring r) j ≡ 2 = two_of c h.laid G (promises f h) x m ready over.goes_on in
        let goal = (promises f h).target r j x.ghost s x.ring_in end gates ready.fine in
        let same : goal.0 ≡ old.0.ring = same_ring goal.0 old.0.ring (opening_at goal.0 (c.ring goal.0) (x.laps goal.0) (segment_of c G x goal.0)) (opening_at old.0.ring (c.ring old.0.ring) (x.laps old.0.ring) (segment_of c G x old.0.ring)) (small goal.0 goal.1) (small old.0.ring old.0.ring_in) (sym (ready.descriptors goal.0 goal.1) ∙ sym goal.2 ∙ chosen ∙ ready.descriptors old.0.ring old.0.ring_in) in
        let came = goal.3 t bytes its.leaves in
        goes_with came.0 came.1 (subst (λ (k : ℕ). G.Fine old.0.ring k came.0 t) (sym start) (subst (λ (q : ℕ). G.Fine q 0 came.0 t) same came.2))
      where
        small : (q : ℕ) → is_ring c q ≡ true → q < 256 ^ 8
        small q l = let few = ring_small c h.laid q l in omega (arith, few)

    pub goes : (y : Point f) × GoesOn f x y m event n
    goes =
        elim old.2.way [
          | inl here ↦ within here.0 here.1
          | inr there ↦ elsewhere there.0 there.1 there.2
        ]
