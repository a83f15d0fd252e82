use Rattle.std.proofs.Common.{◌≡◌, ◌<◌, ◌+◌, ◌%◌, ◌^◌, ◌++◌, ◌∷◌, [], ℕ, List, length, map, arith, sym, ap, ◌∙◌, refl, true, false, subst}
use Rattle.std.proofs.lemmas.List.{length-map, map-append, length-append}
use Rattle.redn_words.specs.declared.types.Flight.{Flight}
use Rattle.redn_words.proofs.Flights.{IsRising-push}
use Rattle.redn_queue.specs.Covers.{Covers, FirstPasses, LastPasses}
use Rattle.redn_queue.specs.InFlight.{InFlight, place_from, waits_at}
use Rattle.redn_queue.proofs.Covers.{covers_few, covers_weaker, covers_push, first_push, last_push}
use Rattle.redn_queue.proofs.Waiting.{place_new, waits_before, waits_last}
use Rattle.redn_queue.proofs.flights.Flights.push.Goals as goal

pub push_back_reserved-requires : goal.push_back_reserved-requires
push_back_reserved-requires c =
    let a = c.self.inside in
    let inv = c.self.invariant in
    let list = ap (λ (f : InFlight). length f.list) c.self.view_is in
    let room = ap (λ (f : InFlight). f.room) c.self.view_is in
    omega (arith, covers_few _ 0 (length a.list.items) (map (place_from a.first) a.unlanded.items) inv.unlanded (omega arith), length-map a.unlanded.items (place_from a.first), inv.room, c.requires.room, list, room, a.unlanded.ok)

-- the places of all numbers, with that of the new one
module _ (first : ℕ) (ns : List ℕ) (fs : List Flight) (f : Flight) (fits : first < 2 ^ 64) (long : length fs < 2 ^ 64) (fresh : f.landed ≡ false) where
  places : map (place_from first) (ns ++ (first + length fs) % 2 ^ 64 ∷ []) ≡ map (place_from first) ns ++ length fs ∷ []
  places = map-append (place_from first) ns ((first + length fs) % 2 ^ 64 ∷ []) ∙ ap (λ (k : ℕ). map (place_from first) ns ++ k ∷ []) (place_new first (length fs) fits long)

  module _ (c : Covers (waits_at fs) 0 (length fs) (map (place_from first) ns)) where
    wide : Covers (waits_at (fs ++ f ∷ [])) 0 (length fs) (map (place_from first) ns)
    wide = covers_weaker (waits_at fs) 0 (length fs) (map (place_from first) ns) c (waits_at (fs ++ f ∷ [])) (λ k l e. sym (waits_before fs f k l) ∙ e)

    long_by : length fs + 1 ≡ length (fs ++ f ∷ [])
    long_by = omega (arith, length-append fs (f ∷ []))

    pub all_after : Covers (waits_at (fs ++ f ∷ [])) 0 (length (fs ++ f ∷ [])) (map (place_from first) (ns ++ (first + length fs) % 2 ^ 64 ∷ []))
    all_after = rw places (subst (λ (n : ℕ). Covers (waits_at (fs ++ f ∷ [])) 0 n (map (place_from first) ns ++ length fs ∷ [])) long_by (covers_push (waits_at (fs ++ f ∷ [])) 0 (length fs) (map (place_from first) ns) wide (omega arith)))

    new_waits : waits_at (fs ++ f ∷ []) (length fs) ≡ true
    new_waits = waits_last fs f ∙ rw fresh refl

    pub first_after : FirstPasses (waits_at fs) (map (place_from first) ns) → FirstPasses (waits_at (fs ++ f ∷ [])) (map (place_from first) (ns ++ (first + length fs) % 2 ^ 64 ∷ []))
    first_after oldest = rw places (first_push (waits_at fs) (waits_at (fs ++ f ∷ [])) 0 (length fs) (map (place_from first) ns) c oldest (waits_before fs f) new_waits)

    pub last_after : LastPasses (waits_at (fs ++ f ∷ [])) (map (place_from first) (ns ++ (first + length fs) % 2 ^ 64 ∷ []))
    last_after = rw places (last_push (waits_at fs) (waits_at (fs ++ f ∷ [])) 0 (length fs) (map (place_from first) ns) c new_waits)

pub invariant_of-self : goal.invariant_of-self
invariant_of-self c =
    let a = c.self.inside in
    let inv = c.self.invariant in
    let f : Flight = record { index = c.args.index; copy = c.args.copy; landed = false } in
    let fits : a.first < 2 ^ 64 = inv.fits in
    let len : c.len.result ≡ length a.list.items = omega (arith, c.len.ensures, a.list.ok) in
    let long : length a.list.items < 2 ^ 64 = omega (arith, c.len.type_inv, len) in
    let items : c.push_back_reserved.new.self.items ≡ a.unlanded.items ++ (a.first + length a.list.items) % 2 ^ 64 ∷ [] = c.push_back_reserved.ensures.items ∙ ap (λ (k : ℕ). a.unlanded.items ++ (a.first + k) % 2 ^ 64 ∷ []) len in
    let list = c.push_back_reserved-2.ensures.items in
    record {
      fits = fits;
      rising = rw list (IsRising-push a.list.items f inv.rising (rw (← c.self.view_is) at c.requires.last));
      unlanded = rw (list, items) (all_after a.first a.unlanded.items a.list.items f fits long refl inv.unlanded);
      oldest = rw (list, items) (first_after a.first a.unlanded.items a.list.items f fits long refl inv.unlanded inv.oldest);
      newest = rw (list, items) (last_after a.first a.unlanded.items a.list.items f fits long refl inv.unlanded);
      room = omega (arith, inv.room, c.push_back_reserved.ensures.capacity, c.push_back_reserved-2.ensures.capacity);
    }
