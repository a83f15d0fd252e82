-- What no step changes.
use Rattle.std.proofs.Common.{◌≡◌, ◌+◌, ◌≤◌, ◌<◌, ℕ, Bool, true, false, cond, List, length, get_or, refl, sym, ap, subst, ◌∙◌, arith}
use Rattle.std.specs.Prelude.{Option, Some, None, IfSome, slice_get}
use Rattle.std.proofs.lemmas.Option.{slice_get_within, get_or_from_slice_get}
use Rattle.redn_words.specs.declared.types.Receive.{Receive}
use Rattle.redn_words.specs.declared.types.Action.{Action}
use Rattle.redn_words.specs.declared.types.Action.TheVariants.{Land}
use Rattle.redn_words.specs.Requests.{decoded}
use Rattle.redn_words.specs.Landings.{changed}
use Rattle.redn_words.specs.States.{Mail, Chain, Pending, State}
use Rattle.redn_words.specs.Steps.{possible, after, shown, step}
use Rattle.redn_words.specs.InOrder.{IsInside}
use Rattle.redn_words.proofs.Others.{regions_stay, receives_stay, rows_stay}
use Rattle.redn_words.proofs.Inside.{stays_inside}
use Rattle.redn_words.proofs.Footprints.{refused_writes}
use Rattle.redn_adapter.specs.declared.adapter.Adapter.TheInside.{Inside}
use Rattle.redn_adapter.specs.AdapterView.{adapter_view, IsAdapter, MailFits}
use Rattle.redn_adapter.specs.Mails.{pending_bytes}
use Rattle.redn_adapter.specs.Running.{Running, stepped}
use Rattle.redn_adapter.specs.Keeping.{KeepsShape, LandsRefused}

-- an adapter's regions and messages lie in its memory
pub adapter_inside : (a : Inside) → IsAdapter a → IsInside (adapter_view a).state
adapter_inside a h = record { regions = h.regions; mails = mails }
  where
    len_of : (place : Receive) (chain : Chain) (bytes : List ℕ) → chain.mail ≡ Pending bytes → MailFits (Some place) (Some chain) → length bytes ≡ place.len
    len_of place chain bytes m fits = subst (λ (x : Mail). IfSome (pending_bytes x) (λ b. length b ≡ place.len)) m fits

    mails : (c : ℕ) (place : Receive) (chain : Chain) (bytes : List ℕ) → slice_get a.receives.items c ≡ Some place → slice_get a.chains.items c ≡ Some chain → chain.mail ≡ Pending bytes → place.base + length bytes ≤ length a.memory.items
    mails c place chain bytes f g m =
        let fits : MailFits (Some place) (Some chain) = subst (λ (o : Option Receive). MailFits o (Some chain)) f (subst (λ (o : Option Chain). MailFits (slice_get a.receives.items c) o) g (h.mails c (slice_get_within a.chains.items c chain g))) in
        let end : place.base + place.len ≤ length a.memory.items = subst (λ (r : Receive). r.base + r.len ≤ length a.memory.items) (get_or_from_slice_get a.receives.items c place place f) (h.receives c place (slice_get_within a.receives.items c place f)) in
        omega (arith, end, len_of place chain bytes m fits)

keeps_after : (s : State) (a : Action) → IsInside s → possible s a ≡ true → KeepsShape s (after s a)
keeps_after s a inside can = record { rows = record { regions = regions_stay s a; receives = receives_stay s a; queues = rows_stay s a }; size = (stays_inside s a inside can).size }

same_shape : (s : State) → KeepsShape s s
same_shape s = record { rows = record { regions = refl; receives = refl; queues = λ n. refl }; size = refl }

pub step_keeps : (r : Running) (a : Action) (next : Running) → IsInside r.state → next ≡ stepped r (step r.state a) → KeepsShape r.state next.state
step_keeps r a next inside e =
    elim (possible r.state a) as (λ b. possible r.state a ≡ b → next ≡ stepped r (cond b (Some (after r.state a, shown r.state a)) None) → KeepsShape r.state next.state) [
      | true ↦ λ can f. subst (λ (n : Running). KeepsShape r.state n.state) (sym f) (keeps_after r.state a inside can)
      | false ↦ λ can f. subst (λ (n : Running). KeepsShape r.state n.state) (sym f) (same_shape r.state)
    ] refl e

-- a refused landing
refused_after : (s : State) (q i : ℕ) → LandsRefused s q i → (after s (Land q i)).memory ≡ s.memory
unfolding after
refused_after s q i h = rw (h.there, h.flies) (ap (changed s.memory) (refused_writes s.regions (record { chain = h.queue.row.domain; queue = q; index = i }) (decoded h.flight.copy) s.memory h.refused))

pub step_spares : (r : Running) (a : Action) (next : Running) → next ≡ stepped r (step r.state a) → (q i : ℕ) → a ≡ Land q i → LandsRefused r.state q i → next.state.memory ≡ r.state.memory
step_spares r a next e q i is h =
    elim (possible r.state a) as (λ b. next ≡ stepped r (cond b (Some (after r.state a, shown r.state a)) None) → next.state.memory ≡ r.state.memory) [
      | true ↦ λ f. ap (λ (n : Running). n.state.memory) f ∙ ap (λ (x : Action). (after r.state x).memory) is ∙ refused_after r.state q i h
      | false ↦ λ f. ap (λ (n : Running). n.state.memory) f
    ] e
