-- An action of one domain changes no queue of another, and only bytes in its own domain's regions.
use Rattle.std.proofs.Common.{◌≡◌, ◌≢◌, ℕ, ◌+◌, ◌<◌, ◌≤◌, inl, inr, true, false, cond, ◌==◌, List, [], ◌∷◌, ◌++◌, Option, Some, None, Result, Ok, Err, length, refl, sym, ap, ◌∙◌, arith}
use Rattle.std.specs.Prelude.{slice_get, slice_set}
use Rattle.std.proofs.lemmas.Bool.{false≢true, and_parts, and_from, or_cases, or_left, or_right, eqb-true, eq-eqb, false_from_ne_true}
use Rattle.std.proofs.lemmas.List.Folds.{list_any-append}
use Rattle.std.specs.FinMap.{get}
use Rattle.redn_words.specs.declared.types.Region.{Region}
use Rattle.redn_words.specs.declared.types.Request.{Request}
use Rattle.redn_words.specs.declared.types.Flight.{Flight}
use Rattle.redn_words.specs.declared.types.Spot.{Spot}
use Rattle.redn_words.specs.declared.types.Need.{Need}
use Rattle.redn_words.specs.declared.types.Refusal.{Refusal}
use Rattle.redn_words.specs.declared.types.Opcode.{Opcode}
use Rattle.redn_words.specs.declared.types.Opcode.TheVariants.{Write, Read, Cas, Add}
use Rattle.redn_words.specs.declared.types.Action.{Action}
use Rattle.redn_words.specs.declared.types.Action.TheVariants.{Deliver, Fetch, Start, Land, Complete}
use Rattle.redn_words.specs.Requests.{decoded, opcode_of}
use Rattle.redn_words.specs.Access.{access, access_in, region_of, EndsBy}
use Rattle.redn_words.specs.Ranges.{holds, within, region_holds, domain_holds}
use Rattle.redn_words.specs.States.{Queue, State}
use Rattle.redn_words.specs.Landings.{Landing, Place, local_side, remote_side}
use Rattle.redn_words.specs.Steps.{after, acts_on, may_raise, land_after, landing_at, flying}
use Rattle.redn_words.proofs.Others.{keeps, set_other, enabled_elsewhere, start_after_leaves}
use Rattle.redn_words.proofs.Bytes.{over_missed, byte-changed, length-changed}
use Rattle.redn_words.specs.Bytes.{byte, hits}
use Rattle.redn_words.proofs.Footprints.{granted, landing_fits, landing_hits}
use Rattle.redn_words.specs.Footprints.{place_at, written_by, footprint}
use Rattle.redn_words.proofs.Ranges.{holds_bounds, bounds_hold}

-- an allowed access lies in a region of its domain
in_region : (r : Region) (domain off len p : ℕ) (need : Need) (s : Spot) → access_in (Some r) domain off len need ≡ Ok s → s.at ≤ p → p < s.at + len → region_holds domain p r ≡ true
in_region r domain off len p need s e low high =
    let g = granted r domain off len need s e in
    let first = g.low in
    let last = g.high in
    and_from (r.domain == domain) (holds (record { at = r.base; len = r.len }) p) (eq-eqb r.domain domain g.its) (bounds_hold (record { at = r.base; len = r.len }) p (omega arith) (omega arith))

found_holds : (regions : List Region) (key domain p : ℕ) (r : Region) → region_of regions key ≡ Some r → region_holds domain p r ≡ true → domain_holds regions domain p ≡ true
found_holds [] key domain p r e h = absurd (cc)
found_holds (x ∷ regions) key domain p r e h =
    elim (x.key == key) as (λ b. cond b (Some x) (region_of regions key) ≡ Some r → domain_holds (x ∷ regions) domain p ≡ true) [
      | true ↦ λ q. let is : x ≡ r = cc in or_left (region_holds domain p x) (domain_holds regions domain p) (ap (region_holds domain p) is ∙ h)
      | false ↦ λ q. or_right (region_holds domain p x) (domain_holds regions domain p) (found_holds regions key domain p r q h)
    ] e

access_holds : (regions : List Region) (domain key off len p : ℕ) (need : Need) (s : Spot) → access regions domain key off len need ≡ Ok s → s.at ≤ p → p < s.at + len → domain_holds regions domain p ≡ true
unfolding access
access_holds regions domain key off len p need s e low high =
    elim (region_of regions key) as (λ o. region_of regions key ≡ o → access_in o domain off len need ≡ Ok s → domain_holds regions domain p ≡ true) [
      | None ↦ λ f q. absurd (cc)
      | Some r ↦ λ f q. found_holds regions key domain p r f (in_region r domain off len p need s q low high)
    ] refl e

module _ (regions : List Region) (domain p : ℕ) where
  side_holds : (a : Result Spot Refusal) (len : ℕ) → ((s : Spot) → a ≡ Ok s → s.at ≤ p → p < s.at + len → domain_holds regions domain p ≡ true) → within (place_at a len) p ≡ true → domain_holds regions domain p ≡ true
  side_holds (Err e) len each h = absurd (false≢true h)
  side_holds (Ok s) len each h =
      elim (or_cases (holds (record { at = s.at; len = len }) p) false h) [
        | inl here ↦ let bounds = holds_bounds (record { at = s.at; len = len }) p here in each s refl bounds.0 bounds.1
        | inr never ↦ absurd (false≢true never)
      ]

  two_hold : (a b : Result Spot Refusal) → ((s : Spot) → a ≡ Ok s → s.at ≤ p → p < s.at + 8 → domain_holds regions domain p ≡ true) → ((s : Spot) → b ≡ Ok s → s.at ≤ p → p < s.at + 8 → domain_holds regions domain p ≡ true) → within (place_at a 8 ++ place_at b 8) p ≡ true → domain_holds regions domain p ≡ true
  two_hold a b each other h =
      elim (or_cases (within (place_at a 8) p) (within (place_at b 8) p) (sym (list_any-append (λ (place : Place). holds place p) (place_at a 8) (place_at b 8)) ∙ h)) [
        | inl first ↦ side_holds a 8 each first
        | inr second ↦ side_holds b 8 other second
      ]

  written_holds : (r : Request) (op : Opcode) → within (written_by regions domain r op) p ≡ true → domain_holds regions domain p ≡ true
  written_holds r Write h = side_holds (remote_side regions domain Write r) r.length (λ s e low high. access_holds regions domain _ _ r.length p _ s e low high) h
  written_holds r Read h = side_holds (local_side regions domain Read r) r.length (λ s e low high. access_holds regions domain _ _ r.length p _ s e low high) h
  written_holds r Cas h = two_hold (remote_side regions domain Cas r) (local_side regions domain Cas r) (λ s e low high. access_holds regions domain _ _ 8 p _ s e low high) (λ s e low high. access_holds regions domain _ _ 8 p _ s e low high) h
  written_holds r Add h = two_hold (remote_side regions domain Add r) (local_side regions domain Add r) (λ s e low high. access_holds regions domain _ _ 8 p _ s e low high) (λ s e low high. access_holds regions domain _ _ 8 p _ s e low high) h
  written_holds r _ h = absurd (false≢true h)

  -- a request writes only in regions of its domain
  pub footprint_inside : (r : Request) → within (footprint regions domain r) p ≡ true → domain_holds regions domain p ≡ true
  footprint_inside r h = written_holds r (opcode_of r) h

-- a byte that no region of the acting queue's domain holds
module _ (s : State) (q : ℕ) (u : Queue) (there : slice_get s.queues q ≡ Some u) (ends : EndsBy (length s.memory) s.regions) where
  land_byte : (i p : ℕ) → domain_holds s.regions u.row.domain p ≡ false → (o : Option Flight) → byte (land_after s q i u o).memory p ≡ byte s.memory p
  land_byte i p outside None = refl
  land_byte i p outside (Some f) =
      let l : Landing = landing_at s q i u f.copy in
      let misses : hits l.writes p ≡ false = false_from_ne_true (hits l.writes p) (λ hit. false≢true (sym outside ∙ footprint_inside s.regions u.row.domain p (decoded f.copy) (landing_hits s.regions (record { chain = u.row.domain; queue = q; index = i }) (decoded f.copy) s.memory p hit))) in
      byte-changed s.memory l.writes p (landing_fits s.regions (record { chain = u.row.domain; queue = q; index = i }) (decoded f.copy) s.memory ends) ∙ over_missed l.writes p (byte s.memory p) misses

  pub byte_outside : (a : Action) (p : ℕ) → acts_on a ≡ Some q → domain_holds s.regions u.row.domain p ≡ false → byte (after s a).memory p ≡ byte s.memory p
  unfolding after
  byte_outside (Deliver c) p its outside = absurd (cc)
  byte_outside (Fetch n i) p its outside = let same : n ≡ q = cc in rw (same, there) refl
  byte_outside (Start n) p its outside = let same : n ≡ q = cc in rw (same, there) (start_after_leaves s q u there (λ t. byte t.memory p ≡ byte s.memory p) refl (λ v r. refl) (λ v t l r may. refl) (get u.held u.head))
  byte_outside (Land n i) p its outside = let same : n ≡ q = cc in rw (same, there) (land_byte i p outside (flying u i))
  byte_outside (Complete n) p its outside = let same : n ≡ q = cc in rw (same, there) refl

  land_length : (i : ℕ) (o : Option Flight) → length (land_after s q i u o).memory ≡ length s.memory
  land_length i None = refl
  land_length i (Some f) =
      let l : Landing = landing_at s q i u f.copy in
      length-changed s.memory l.writes (landing_fits s.regions (record { chain = u.row.domain; queue = q; index = i }) (decoded f.copy) s.memory ends)

  -- memory keeps its size
  pub length_stays : (a : Action) → acts_on a ≡ Some q → length (after s a).memory ≡ length s.memory
  unfolding after
  length_stays (Deliver c) its = absurd (cc)
  length_stays (Fetch n i) its = let same : n ≡ q = cc in rw (same, there) refl
  length_stays (Start n) its = let same : n ≡ q = cc in rw (same, there) (start_after_leaves s q u there (λ t. length t.memory ≡ length s.memory) refl (λ v r. refl) (λ v t l r may. refl) (get u.held u.head))
  length_stays (Land n i) its = let same : n ≡ q = cc in rw (same, there) (land_length i (flying u i))
  length_stays (Complete n) its = let same : n ≡ q = cc in rw (same, there) refl

may_raise_domain : (domain : ℕ) (v : Queue) → may_raise domain (Some v) ≡ true → v.row.domain ≡ domain
may_raise_domain domain v e = eqb-true v.row.domain domain (and_parts v.row.managed (v.row.domain == domain) e).1

-- and a queue of another domain
pub domains_stay : (s : State) (a : Action) (q n : ℕ) (u v : Queue) → acts_on a ≡ Some q → slice_get s.queues q ≡ Some u → slice_get s.queues n ≡ Some v → v.row.domain ≢ u.row.domain → slice_get (after s a).queues n ≡ Some v
domains_stay s a q n u v its there here other =
    keeps (λ t. slice_get t.queues n ≡ Some v) s a record {
      same = here;
      delivers = λ m c. here;
      changes = λ k x y m on e r. set_other s.queues k n y (apart k x on e) ∙ here;
      raises = λ k x y t l on e r may. enabled_elsewhere (slice_set s.queues k y) t l n (not_raised k x t on e may) ∙ set_other s.queues k n y (apart k x on e) ∙ here;
    }
  where
    acting : (k : ℕ) (x : Queue) → acts_on a ≡ Some k → slice_get s.queues k ≡ Some x → x ≡ u
    acting k x on e = let same : k ≡ q = cc (on, its) in cc (e, there, ap (slice_get s.queues) same)

    apart : (k : ℕ) (x : Queue) → acts_on a ≡ Some k → slice_get s.queues k ≡ Some x → n ≢ k
    apart k x on e at =
        let is : v ≡ u = cc (acting k x on e, e, here, ap (slice_get s.queues) at) in
        other (ap (λ (y : Queue). y.row.domain) is)

    not_raised : (k : ℕ) (x : Queue) (t : ℕ) → acts_on a ≡ Some k → slice_get s.queues k ≡ Some x → may_raise x.row.domain (slice_get s.queues t) ≡ true → n ≢ t
    not_raised k x t on e may at =
        let found : slice_get s.queues t ≡ Some v = ap (slice_get s.queues) (sym at) ∙ here in
        let raises : may_raise x.row.domain (Some v) ≡ true = ap (may_raise x.row.domain) (sym found) ∙ may in
        other (may_raise_domain x.row.domain v raises ∙ ap (λ (y : Queue). y.row.domain) (acting k x on e))
