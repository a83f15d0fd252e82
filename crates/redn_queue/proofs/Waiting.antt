-- Requests in flight that haven't landed, by place and by number.
use Rattle.std.proofs.Common.{◌≡◌, ℕ, zero, suc, ◌+◌, ◌-◌, ◌%◌, ◌^◌, ◌<◌, ◌≤◌, true, false, not, ◌&&◌, ◌==◌, List, [], ◌∷◌, ◌++◌, reverse, Option, Some, None, length, get_or, set, map, refl, sym, ap, subst, ◌∙◌, arith}
use Rattle.std.specs.Prelude.{slice_get, IsSome, IfSome}
use Rattle.std.specs.Borrow.{Bor}
use Rattle.std.specs.Option.{option_map}
use Rattle.std.specs.List.{All, find, position}
use Rattle.std.proofs.lemmas.Bool.{false≢true, not-true, eqb-true}
use Rattle.std.proofs.lemmas.List.{get_or-map}
use Rattle.std.proofs.lemmas.Option.{slice_get-get_or}
use Rattle.std.proofs.lemmas.List.Elements.{All-tail}
use Rattle.redn_words.specs.declared.types.Flight.{Flight}
use Rattle.redn_words.specs.InOrder.{IsRising}
use Rattle.redn_words.specs.Steps.{is_landed}
use Rattle.redn_queue.specs.Covers.{Covers, FirstPasses, LastPasses}
use Rattle.redn_queue.specs.InFlight.{place_from, waits, waits_at, is_over, IsOldest, IsNewest, AllLanded}
use Rattle.redn_queue.specs.Telling.{is_unlanded}
use Rattle.redn_queue.specs.Places.{StandsAt}
use Rattle.redn_queue.proofs.Covers.{above_low, covers_less, first_less, last_less, none_before, none_after}
use Rattle.redn_queue.proofs.Finding.{first_at, none_at, last_at, none_at_all}
use Rattle.redn_queue.proofs.Flying.{place_unlanded}

abbrev index_of : Flight → ℕ
index_of f = f.index

waits_read : (fs : List Flight) (k : ℕ) (d : Flight) → k < length fs → is_unlanded (get_or fs k d) ≡ waits_at fs k
waits_read fs k d l = ap waits (sym (slice_get-get_or fs k d l))

module _ (fs : List Flight) where
  pub oldest_found : (k : ℕ) (f : Flight) → IsOldest fs k → f ≡ get_or fs k f → Some f.index ≡ option_map index_of (find is_unlanded fs)
  oldest_found k f at read =
      let is = first_at is_unlanded fs k f at.within (waits_read fs k f at.within ∙ at.unlanded) (λ j lt. let l : j < length fs = omega (arith, at.within) in waits_read fs j f l ∙ at.others j lt) in
      ap (λ (g : Flight). Some g.index) read ∙ ap (option_map index_of) (sym is)

  pub newest_found : (k : ℕ) (f : Flight) → IsNewest fs k → f ≡ get_or fs k f → Some f.index ≡ option_map index_of (find is_unlanded (reverse fs))
  newest_found k f at read =
      let is = last_at is_unlanded fs k f at.within (waits_read fs k f at.within ∙ at.unlanded) (λ j lt l. waits_read fs j f l ∙ at.others j lt l) in
      ap (λ (g : Flight). Some g.index) read ∙ ap (option_map index_of) (sym is)

none_found : (fs : List Flight) → AllLanded fs → find is_unlanded fs ≡ None
none_found [] landed = refl
none_found (f ∷ fs) landed = none_at is_unlanded (f ∷ fs) f (λ j l. waits_read (f ∷ fs) j f l ∙ landed j l)

none_found_last : (fs : List Flight) → AllLanded fs → find is_unlanded (reverse fs) ≡ None
none_found_last [] landed = refl
none_found_last (f ∷ fs) landed = none_at_all is_unlanded (f ∷ fs) f (λ j l. waits_read (f ∷ fs) j f l ∙ landed j l)

pub no_oldest : (fs : List Flight) → AllLanded fs → None ≡ option_map index_of (find is_unlanded fs)
no_oldest fs landed = ap (option_map index_of) (sym (none_found fs landed))

pub no_newest : (fs : List Flight) → AllLanded fs → None ≡ option_map index_of (find is_unlanded (reverse fs))
no_newest fs landed = ap (option_map index_of) (sym (none_found_last fs landed))

-- an unlanded request of the index is the one that is looked for
pub found_there : (i : ℕ) (fs : List Flight) (k : ℕ) (f : Flight) → IsRising fs → (k < length fs) × (waits_at fs k ≡ true) → f ≡ get_or fs k f → (f.index == i) ≡ true → Some k ≡ position (λ (g : Flight). g.index == i && not g.landed) fs
found_there i fs k f rising here read e =
    let same : f.index ≡ i = eqb-true f.index i e in
    let reads : (d : Flight) → (get_or fs k d).index ≡ i = λ d. ap index_of (reads_same fs k d f here.0) ∙ ap index_of (sym read) ∙ same in
    let stands : StandsAt i fs k = record { within = here.0; is = reads } in
    let fresh : not f.landed ≡ true = ap is_unlanded read ∙ waits_read fs k f here.0 ∙ here.1 in
    sym (place_unlanded i fs rising k stands f read (not-true f.landed fresh))
  where
    reads_same : (xs : List Flight) (k : ℕ) (a b : Flight) → k < length xs → get_or xs k a ≡ get_or xs k b
    reads_same [] k a b l = absurd (omega arith)
    reads_same (x ∷ xs) zero a b l = refl
    reads_same (x ∷ xs) (suc k) a b l = reads_same xs k a b (omega arith)

-- a landing makes none unlanded, and leaves the others
pub waits_set : (fs : List Flight) (place : ℕ) (f : Flight) (k : ℕ) → f.landed ≡ true → waits_at (set fs place f) k ≡ true → waits_at fs k ≡ true
waits_set [] place f k e h = h
waits_set (g ∷ fs) zero f zero e h = absurd (false≢true (ap not (sym e) ∙ h))
waits_set (g ∷ fs) zero f (suc k) e h = h
waits_set (g ∷ fs) (suc place) f zero e h = h
waits_set (g ∷ fs) (suc place) f (suc k) e h = waits_set fs place f k e h

pub waits_before : (fs : List Flight) (f : Flight) (k : ℕ) → k < length fs → waits_at (fs ++ f ∷ []) k ≡ waits_at fs k
waits_before [] f k l = absurd (omega arith)
waits_before (g ∷ fs) f zero l = refl
waits_before (g ∷ fs) f (suc k) l = waits_before fs f k (omega arith)

pub waits_last : (fs : List Flight) (f : Flight) → waits_at (fs ++ f ∷ []) (length fs) ≡ not f.landed
waits_last [] f = refl
waits_last (g ∷ fs) f = waits_last fs f

-- numbers
pub place_new : (first k : ℕ) → first < 2 ^ 64 → k < 2 ^ 64 → place_from first ((first + k) % 2 ^ 64) ≡ k
place_new first k l u = omega arith

place_next : (first n : ℕ) → first < 2 ^ 64 → 1 ≤ place_from first n → place_from ((first + 1) % 2 ^ 64) n ≡ place_from first n - 1
place_next first n l some = omega arith

places_next : (first : ℕ) (ns : List ℕ) → first < 2 ^ 64 → All (λ (k : ℕ). 1 ≤ k) (map (place_from first) ns) → map (place_from ((first + 1) % 2 ^ 64)) ns ≡ map (λ (k : ℕ). k - 1) (map (place_from first) ns)
places_next first [] l above = refl
places_next first (n ∷ ns) l above =
    let here = place_next first n l (above 0 0 (omega arith)) in
    let rest = places_next first ns l (All-tail (λ (k : ℕ). 1 ≤ k) (place_from first n) (map (place_from first) ns) above) in
    cc

-- the number of an end of the list
pub end_there : (fs : List Flight) (first : ℕ) (o : Option (Bor ℕ)) → is_over fs first (option_map (λ (n : Bor ℕ). n.now) o) ≡ true → IsSome o
end_there fs first None e = absurd (false≢true e)
end_there fs first (Some n) e = refl

landed_waits : (o : Option Flight) → is_landed o ≡ true → waits o ≡ false
landed_waits None e = absurd (false≢true e)
landed_waits (Some f) e = ap not e

pub end_landed : (fs : List Flight) (first : ℕ) (ns : List ℕ) (k : ℕ) (o : Option (Bor ℕ)) → is_over fs first (option_map (λ (n : Bor ℕ). n.now) o) ≡ true → IfSome o (λ n. n.now ≡ get_or ns k n.now) → k < length ns → (d : ℕ) → waits_at fs (get_or (map (place_from first) ns) k d) ≡ false
end_landed fs first ns k None e at l d = absurd (false≢true e)
end_landed fs first ns k (Some n) e at l d =
    ap (waits_at fs) (get_or-map (place_from first) ns k n.now d l ∙ ap (place_from first) (sym at)) ∙ landed_waits (slice_get fs (place_from first n.now)) e

-- the oldest one leaves, which has landed
module _ (f : Flight) (fs : List Flight) (first : ℕ) (ns : List ℕ) (fits : first < 2 ^ 64) (landed : f.landed ≡ true) (c : Covers (waits_at (f ∷ fs)) 0 (suc (length fs)) (map (place_from first) ns)) (oldest : FirstPasses (waits_at (f ∷ fs)) (map (place_from first) ns)) where
  above : All (λ (k : ℕ). 1 ≤ k) (map (place_from first) ns)
  above = λ k d l. omega (arith, above_low (waits_at (f ∷ fs)) 0 (suc (length fs)) (map (place_from first) ns) c oldest (ap not landed) k d l)

  later : (n : ℕ) → waits_at fs n ≡ waits_at (f ∷ fs) (n + 1)
  later n = let e : suc n ≡ n + 1 = omega arith in ap (waits_at (f ∷ fs)) e

  wide : Covers (waits_at (f ∷ fs)) 0 (length fs + 1) (map (place_from first) ns)
  wide = let e : suc (length fs) ≡ length fs + 1 = omega arith in subst (λ (n : ℕ). Covers (waits_at (f ∷ fs)) 0 n (map (place_from first) ns)) e c

  pub popped_covers : Covers (waits_at fs) 0 (length fs) (map (place_from ((first + 1) % 2 ^ 64)) ns)
  popped_covers = subst (λ (ks : List ℕ). Covers (waits_at fs) 0 (length fs) ks) (sym (places_next first ns fits above)) (covers_less (waits_at (f ∷ fs)) (waits_at fs) later (length fs) (map (place_from first) ns) wide above)

  pub popped_oldest : FirstPasses (waits_at fs) (map (place_from ((first + 1) % 2 ^ 64)) ns)
  popped_oldest = subst (λ (ks : List ℕ). FirstPasses (waits_at fs) ks) (sym (places_next first ns fits above)) (first_less (waits_at (f ∷ fs)) (waits_at fs) later (length fs) (map (place_from first) ns) wide above oldest)

  pub popped_newest : LastPasses (waits_at (f ∷ fs)) (map (place_from first) ns) → LastPasses (waits_at fs) (map (place_from ((first + 1) % 2 ^ 64)) ns)
  popped_newest newest = subst (λ (ks : List ℕ). LastPasses (waits_at fs) ks) (sym (places_next first ns fits above)) (last_less (waits_at (f ∷ fs)) (waits_at fs) later (length fs) (map (place_from first) ns) wide above newest)

-- the ends
module _ (fs : List Flight) (first : ℕ) (ns : List ℕ) (c : Covers (waits_at fs) 0 (length fs) (map (place_from first) ns)) where
  pub is_oldest : (n : ℕ) → FirstPasses (waits_at fs) (map (place_from first) ns) → n ≡ get_or ns 0 n → 0 < length (map (place_from first) ns) → 0 < length ns → IsOldest fs (place_from first n)
  is_oldest n oldest read some there =
      let at : get_or (map (place_from first) ns) 0 0 ≡ place_from first n = get_or-map (place_from first) ns 0 n 0 there ∙ ap (place_from first) (sym read) in
      record {
        within = omega (arith, at, c.below 0 0 some);
        unlanded = ap (waits_at fs) (sym at) ∙ oldest 0 some;
        others = λ k lt. none_before (waits_at fs) 0 (length fs) (map (place_from first) ns) c k 0 (omega arith) (omega (arith, at, c.below 0 0 some)) (λ _. omega (arith, at));
      }

  pub is_newest : (n : ℕ) → LastPasses (waits_at fs) (map (place_from first) ns) → n ≡ get_or ns (length ns - 1) n → length (map (place_from first) ns) ≡ length ns → 0 < length ns → IsNewest fs (place_from first n)
  is_newest n newest read long there =
      let k = length ns - 1 in
      let within : k < length ns = omega arith in
      let same : length (map (place_from first) ns) - 1 ≡ k = omega (arith, long) in
      let at : get_or (map (place_from first) ns) (length (map (place_from first) ns) - 1) 0 ≡ place_from first n = ap (λ (j : ℕ). get_or (map (place_from first) ns) j 0) same ∙ get_or-map (place_from first) ns k n 0 within ∙ ap (place_from first) (sym read) in
      let some : 0 < length (map (place_from first) ns) = omega arith in
      record {
        within = omega (arith, at, c.below (length (map (place_from first) ns) - 1) 0 (omega arith));
        unlanded = ap (waits_at fs) (sym at) ∙ newest 0 some;
        others = λ j lt l. none_after (waits_at fs) 0 (length fs) (map (place_from first) ns) c j 0 (omega arith) l (λ _. omega (arith, at));
      }
