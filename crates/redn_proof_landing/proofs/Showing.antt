-- Memory after changes of the places of some puts shows the spaces after the puts.
use Rattle.std.proofs.Common.{◌≡◌, ℕ, zero, suc, ◌+◌, ◌<◌, ◌≤◌, ◌⊎◌, inl, inr, Bool, true, false, List, [], ◌∷◌, ◌++◌, map, length, refl, sym, ap, ◌∙◌, subst, arith}
use Rattle.redn_segment.proofs.SameSpace.{same_space_is}
use Rattle.redn_proof_landing.specs.Homes.{seen_in, change_of, Inside, puts_of_first}
use Rattle.redn_segment.proofs.Pieces.{with_put_here, with_put_there}
use Rattle.redn_segment.specs.Homes.{Home, base_of, room_of, LieApart}
use Rattle.redn_segment.specs.Plain.{Put, with_put, placed}
use Rattle.redn_segment.specs.Sites.{same_space}
use Rattle.redn_proof_window.specs.Stages.{value, Standing, all_written, effect}
use Rattle.redn_proof_window.specs.Windows.{Opening, bodies_of}
use Rattle.redn_words.proofs.Bytes.{byte-changed, length-changed, same_range}
use Rattle.redn_words.specs.Bytes.{byte, over}
use Rattle.redn_words.proofs.Fields.{bytes_at-part}
use Rattle.redn_words.proofs.Places.{length-with_bytes_at, bytes_at-other}
use Rattle.redn_words.specs.Landings.{Change, changed}
use Rattle.redn_words.specs.Ranges.{Fits}
use Rattle.redn_words.specs.Words.{with_bytes_at}
use Rattle.redn_segment.specs.declared.types.Space.{Space}
use Rattle.redn_segment.proofs.Puts.{same_placed}

module _ (home : Space → Home) (mine : Space → Bool) where
  -- one put
  seen_put : (m : List ℕ) (u : Put) (p : Space) → LieApart home mine (length m) → mine u.space ≡ true → u.at + length u.bytes ≤ room_of home u.space → mine p ≡ true → seen_in home (with_bytes_at m (base_of home u.space + u.at) u.bytes) p ≡ with_put (seen_in home m) u p
  seen_put m u p apart its fits its_space =
      elim (same_space u.space p) as (λ b. same_space u.space p ≡ b → seen_in home (with_bytes_at m (base_of home u.space + u.at) u.bytes) p ≡ with_put (seen_in home m) u p) [
        | true ↦ λ t.
            let same : u.space ≡ p = same_space_is u.space p t in
            subst (λ (q : Space). seen_in home (with_bytes_at m (base_of home u.space + u.at) u.bytes) q ≡ with_bytes_at (seen_in home m q) u.at u.bytes) same (bytes_at-part m u.bytes (base_of home u.space) (room_of home u.space) u.at (apart.inside u.space its) fits) ∙ sym (with_put_here (seen_in home m) u p t)
        | false ↦ λ t.
            let whole = apart.inside u.space its in
            let there : (base_of home u.space + u.at) + length u.bytes ≤ length m = omega arith in
            bytes_at-other m u.bytes (base_of home u.space + u.at) there (base_of home p) (room_of home p) (by_side (apart.apart u.space p its its_space t)) ∙ sym (with_put_there (seen_in home m) u p t)
      ] refl
    where
      by_side : (base_of home u.space + room_of home u.space ≤ base_of home p) ⊎ (base_of home p + room_of home p ≤ base_of home u.space) → (base_of home p + room_of home p ≤ base_of home u.space + u.at) ⊎ ((base_of home u.space + u.at) + length u.bytes ≤ base_of home p)
      by_side (inl h) = inr (omega arith)
      by_side (inr h) = inl (omega arith)

  -- the changes lie in memory
  pub places_fit : (size : ℕ) (us : List Put) → LieApart home mine size → Inside home mine us → Fits size (map (change_of home) us)
  places_fit size [] apart h = tt
  places_fit size (u ∷ us) apart h = let whole = apart.inside u.space h.0.0 in let fits = h.0.1 in (omega arith, places_fit size us apart h.1)

  pub seen_placed : (us : List Put) (m : List ℕ) (p : Space) → LieApart home mine (length m) → Inside home mine us → mine p ≡ true → seen_in home (changed m (map (change_of home) us)) p ≡ placed (seen_in home m) us p
  seen_placed [] m p apart h its = refl
  seen_placed (u ∷ us) m p apart h its =
      let whole = apart.inside u.space h.0.0 in
      let fits = h.0.1 in
      let n : List ℕ = with_bytes_at m (base_of home u.space + u.at) u.bytes in
      let size : length n ≡ length m = length-with_bytes_at m u.bytes (base_of home u.space + u.at) (omega arith) in
      seen_placed us n p (subst (λ (k : ℕ). LieApart home mine k) (sym size) apart) h.1 its ∙ same_placed us (seen_in home n) (with_put (seen_in home m) u) p (seen_put m u p apart h.0.0 h.0.1 its)

over_append : (a b : List Change) (p v : ℕ) → over (a ++ b) p v ≡ over b p (over a p v)
over_append [] b p v = refl
over_append (c ∷ a) b p v = over_append a b p _

map_append : (f : Put → Change) (a b : List Put) → map f (a ++ b) ≡ map f a ++ map f b
map_append f [] b = refl
map_append f (u ∷ a) b = ap (λ (l : List Change). f u ∷ l) (map_append f a b)

module _ (home : Space → Home) (effects : ℕ → List Change) (each : ℕ → List Put) where
  -- the bodies in the order of their slots make the puts in that order
  value_puts : (n p before : ℕ) → ((k : ℕ) → k < n → effects k ≡ map (change_of home) (each k)) → value all_written effects n p before ≡ over (map (change_of home) (puts_of_first each n)) p before
  value_puts zero p before h = refl
  value_puts (suc n) p before h =
      let rest : value all_written effects n p before ≡ over (map (change_of home) (puts_of_first each n)) p before = value_puts n p before (λ k l. h k (omega arith)) in
      let last : effects n ≡ map (change_of home) (each n) = h n (omega arith) in
      ap (λ (c : List Change). over c p (value all_written effects n p before)) last ∙ ap (over (map (change_of home) (each n)) p) rest
      ∙ sym (over_append (map (change_of home) (puts_of_first each n)) (map (change_of home) (each n)) p before) ∙ ap (λ (c : List Change). over c p before) (sym (map_append (change_of home) (puts_of_first each n) (each n)))

-- behind a window whose bodies make puts, memory shows each private space after them
module _ (home : Space → Home) (mine : Space → Bool) (w : Opening) (n : List ℕ) (event : List Change) (last : Standing w n all_written event) (each : ℕ → List Put)
    (are : (k : ℕ) → k < bodies_of w → effect w event k ≡ map (change_of home) (each k)) (apart : LieApart home mine (length w.memory)) (fine : Inside home mine (puts_of_first each (bodies_of w))) where
  pub window_shows : (p : Space) → mine p ≡ true → ((i : ℕ) → base_of home p ≤ i → i < base_of home p + room_of home p → w.ours i ≡ true) → seen_in home n p ≡ placed (seen_in home w.memory) (puts_of_first each (bodies_of w)) p
  window_shows p its private =
      let changes : List Change = map (change_of home) (puts_of_first each (bodies_of w)) in
      let fits : Fits (length w.memory) changes = places_fit home mine (length w.memory) (puts_of_first each (bodies_of w)) apart fine in
      let size : length n ≡ length (changed w.memory changes) = last.size ∙ sym (length-changed w.memory changes fits) in
      same_range n (changed w.memory changes) (base_of home p) (room_of home p) size (λ i low high. last.bytes i (private i low high) ∙ value_puts home (effect w event) each (bodies_of w) i (byte w.memory i) are ∙ sym (byte-changed w.memory changes i fits)) ∙ seen_placed home mine (puts_of_first each (bodies_of w)) w.memory p apart fine its
