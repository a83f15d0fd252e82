-- Memory keeps its length, and what lies in it stays there.
use Rattle.std.proofs.Common.{◌≡◌, ℕ, ◌+◌, ◌≤◌, inl, inr, true, List, [], ◌∷◌, Option, Some, None, length, refl, sym, ap, ◌∙◌}
use Rattle.std.specs.Prelude.{slice_get, slice_set}
use Rattle.std.specs.FinMap.{get}
use Rattle.redn_words.specs.declared.types.Receive.{Receive}
use Rattle.redn_words.specs.declared.types.Flight.{Flight}
use Rattle.redn_words.specs.declared.types.Action.{Action}
use Rattle.redn_words.specs.declared.types.Action.TheVariants.{Deliver, Fetch, Start, Land, Complete}
use Rattle.redn_words.specs.States.{Queue, Pending, Delivered, Chain, State}
use Rattle.redn_words.specs.Steps.{possible, after, acts_on, land_after, flying}
use Rattle.redn_words.specs.Runs.{AllPossible, reached}
use Rattle.redn_words.specs.InOrder.{IsInside}
use Rattle.redn_words.specs.Laws.{Delivers}
use Rattle.redn_words.proofs.Others.{acting_there, start_after_leaves, regions_stay, receives_stay, set_cases}
use Rattle.redn_words.proofs.Domains.{length_stays}
use Rattle.redn_words.proofs.Deliveries.{delivers, delivered_is, length-delivered}

-- an action of a queue changes no chain
pub chains_stay : (s : State) (q : ℕ) (u : Queue) → slice_get s.queues q ≡ Some u → (a : Action) → acts_on a ≡ Some q → (after s a).chains ≡ s.chains
unfolding after
chains_stay s q u there (Deliver c) its = absurd (cc)
chains_stay s q u there (Fetch n i) its = let same : n ≡ q = cc in rw (same, there) refl
chains_stay s q u there (Start n) its = let same : n ≡ q = cc in rw (same, there) (start_after_leaves s q u there (λ t. t.chains ≡ s.chains) refl (λ v r. refl) (λ v t l r may. refl) (get u.held u.head))
chains_stay s q u there (Land n i) its = let same : n ≡ q = cc in rw (same, there) (by_flight (flying u i))
  where
    by_flight : (o : Option Flight) → (land_after s q i u o).chains ≡ s.chains
    by_flight None = refl
    by_flight (Some f) = refl
chains_stay s q u there (Complete n) its = let same : n ≡ q = cc in rw (same, there) refl

-- what is kept
pub record Keeps (s t : State) : Type 0 where
  pub size : length t.memory ≡ length s.memory
  pub inside : IsInside t

same_place : (s t : State) (c : ℕ) (place : Receive) → t.receives ≡ s.receives → slice_get t.receives c ≡ Some place → slice_get s.receives c ≡ Some place
same_place s t c place e there = ap (λ (l : List Receive). slice_get l c) (sym e) ∙ there

module _ (s : State) (h : IsInside s) where
  by_queue : (a : Action) (q : ℕ) → acts_on a ≡ Some q → possible s a ≡ true → Keeps s (after s a)
  by_queue a q its p =
      let here = acting_there s a q its p in
      let size : length (after s a).memory ≡ length s.memory = length_stays s q here.0 here.1 h.regions a its in
      let chains : (after s a).chains ≡ s.chains = chains_stay s q here.0 here.1 a its in
      record {
        size = size;
        inside = record {
          regions = rw (size, regions_stay s a) h.regions;
          mails = λ c place chain bytes f g m. rw size (h.mails c place chain bytes (same_place s (after s a) c place (receives_stay s a) f) (ap (λ (l : List Chain). slice_get l c) (sym chains) ∙ g) m);
        };
      }

  by_delivery : (c : ℕ) → possible s (Deliver c) ≡ true → Keeps s (after s (Deliver c))
  by_delivery c p =
      let d = delivers s c p in
      let fits : d.place.base + length d.bytes ≤ length s.memory = h.mails c d.place d.chain d.bytes d.place_there d.chain_there d.pending in
      let size : length (after s (Deliver c)).memory ≡ length s.memory = length-delivered s c d fits in
      record {
        size = size;
        inside = record {
          regions = rw (size, regions_stay s (Deliver c)) h.regions;
          mails = λ n place chain bytes f g m. rw size (h.mails n place chain bytes (same_place s (after s (Deliver c)) n place (receives_stay s (Deliver c)) f) (another d n chain bytes m (ap (λ (t : State). slice_get t.chains n) (sym (delivered_is s c d)) ∙ g)) m);
        };
      }
    where
      another : (d : Delivers s c) (n : ℕ) (chain : Chain) (bytes : List ℕ) → chain.mail ≡ Pending bytes → slice_get (slice_set s.chains c (record { mail = Delivered; received = d.chain.received + 1 })) n ≡ Some chain → slice_get s.chains n ≡ Some chain
      another d n chain bytes m g =
          elim (set_cases s.chains c n (record { mail = Delivered; received = d.chain.received + 1 }) chain g) [
            | inl is ↦ absurd (let mail : chain.mail ≡ Delivered = ap (λ (x : Chain). x.mail) is in cc)
            | inr old ↦ old
          ]

pub stays_inside : (s : State) (a : Action) → IsInside s → possible s a ≡ true → Keeps s (after s a)
stays_inside s (Deliver c) h p = by_delivery s h c p
stays_inside s (Fetch q i) h p = by_queue s h (Fetch q i) q refl p
stays_inside s (Start q) h p = by_queue s h (Start q) q refl p
stays_inside s (Land q i) h p = by_queue s h (Land q i) q refl p
stays_inside s (Complete q) h p = by_queue s h (Complete q) q refl p

pub reached_inside : (acts : List Action) (s : State) → IsInside s → AllPossible s acts → Keeps s (reached s acts)
reached_inside [] s h p = record { size = refl; inside = h }
reached_inside (a ∷ acts) s h p =
    let one = stays_inside s a h p.0 in
    let rest = reached_inside acts (after s a) one.inside p.1 in
    record { size = rest.size ∙ one.size; inside = rest.inside }
