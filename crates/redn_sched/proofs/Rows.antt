-- No action changes how many chains there are.
use Rattle.std.proofs.Common.{◌≡◌, ℕ, Option, Some, None, length, refl}
use Rattle.std.specs.Prelude.{slice_get}
use Rattle.std.specs.FinMap.{get}
use Rattle.std.proofs.lemmas.List.{length-set}
use Rattle.redn_words.specs.declared.types.Flight.{Flight}
use Rattle.redn_words.specs.declared.types.Receive.{Receive}
use Rattle.redn_words.specs.declared.types.Action.{Action}
use Rattle.redn_words.specs.declared.types.Action.TheVariants.{Deliver, Fetch, Start, Land, Complete}
use Rattle.redn_words.specs.States.{Queue, Mail, Absent, Pending, Delivered, Chain, State}
use Rattle.redn_words.specs.Steps.{after, with_queue, deliver_after, delivered, land_after, flying}
use Rattle.redn_words.proofs.Others.{start_after_leaves}

mail_keeps : (s : State) (c : ℕ) (place : Receive) (chain : Chain) (m : Mail) → length (delivered s c place chain m).chains ≡ length s.chains
mail_keeps s c place chain Absent = refl
mail_keeps s c place chain (Pending bytes) = length-set s.chains c _
mail_keeps s c place chain Delivered = refl

delivery_keeps : (s : State) (c : ℕ) (place : Option Receive) (chain : Option Chain) → length (deliver_after s c place chain).chains ≡ length s.chains
delivery_keeps s c None chain = refl
delivery_keeps s c (Some place) None = refl
delivery_keeps s c (Some place) (Some chain) = mail_keeps s c place chain chain.mail

landing_keeps : (s : State) (q i : ℕ) (u : Queue) (o : Option Flight) → length (land_after s q i u o).chains ≡ length s.chains
landing_keeps s q i u None = refl
landing_keeps s q i u (Some f) = refl

by_queue : (s : State) (q : ℕ) (go : Queue → State) → ((u : Queue) → slice_get s.queues q ≡ Some u → length (go u).chains ≡ length s.chains) → length (with_queue (slice_get s.queues q) s go).chains ≡ length s.chains
by_queue s q go each =
    elim (slice_get s.queues q) as (λ o. slice_get s.queues q ≡ o → length (with_queue o s go).chains ≡ length s.chains) [ None ↦ λ e. refl | Some u ↦ λ e. each u e ] refl

pub chains_stay : (s : State) (a : Action) → length (after s a).chains ≡ length s.chains
unfolding after
chains_stay s (Deliver c) = delivery_keeps s c (slice_get s.receives c) (slice_get s.chains c)
chains_stay s (Fetch q i) = by_queue s q _ (λ u e. refl)
chains_stay s (Start q) = by_queue s q _ (λ u e. start_after_leaves s q u e (λ t. length t.chains ≡ length s.chains) refl (λ v r. refl) (λ v t l r may. refl) (get u.held u.head))
chains_stay s (Land q i) = by_queue s q _ (λ u e. landing_keeps s q i u (flying u i))
chains_stay s (Complete q) = by_queue s q _ (λ u e. refl)
