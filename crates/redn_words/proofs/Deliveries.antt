-- A message comes: it changes the bytes of its place and no others.
use Rattle.std.proofs.Common.{◌≡◌, ℕ, ◌+◌, ◌≤◌, true, false, List, [], ◌∷◌, Option, Some, None, length, refl, ap, ◌∙◌}
use Rattle.std.specs.Prelude.{slice_get, slice_set}
use Rattle.std.proofs.lemmas.Bool.{false≢true}
use Rattle.redn_words.specs.declared.types.Receive.{Receive}
use Rattle.redn_words.specs.declared.types.Action.TheVariants.{Deliver}
use Rattle.redn_words.specs.Words.{with_bytes_at}
use Rattle.redn_words.specs.States.{Mail, Absent, Pending, Delivered, Chain, State}
use Rattle.redn_words.specs.Landings.{Change, change}
use Rattle.redn_words.specs.Steps.{possible, after, deliver_possible, is_pending}
use Rattle.redn_words.proofs.Bytes.{over_missed, byte-changed, length-changed}
use Rattle.redn_words.specs.Bytes.{byte, hits}
use Rattle.redn_words.specs.Laws.{Delivers}

module _ (s : State) (c : ℕ) where
  pub delivers : possible s (Deliver c) ≡ true → Delivers s c
  unfolding possible
  delivers p = by_place (slice_get s.receives c) (slice_get s.chains c) refl refl p
    where
      by_mail : (place : Receive) (chain : Chain) (m : Mail) → slice_get s.receives c ≡ Some place → slice_get s.chains c ≡ Some chain → chain.mail ≡ m → is_pending m ≡ true → Delivers s c
      by_mail place chain Absent e f is t = absurd (false≢true t)
      by_mail place chain (Pending bytes) e f is t = record { place = place; chain = chain; bytes = bytes; place_there = e; chain_there = f; pending = is }
      by_mail place chain Delivered e f is t = absurd (false≢true t)

      by_place : (o : Option Receive) (m : Option Chain) → slice_get s.receives c ≡ o → slice_get s.chains c ≡ m → deliver_possible o m ≡ true → Delivers s c
      by_place None m e f t = absurd (false≢true t)
      by_place (Some place) None e f t = absurd (false≢true t)
      by_place (Some place) (Some chain) e f t = by_mail place chain chain.mail e f refl t

  module _ (d : Delivers s c) where
    -- and when it is
    pub can_deliver : possible s (Deliver c) ≡ true
    unfolding possible
    can_deliver = let place = d.place_there in let chain = d.chain_there in let mail = d.pending in rw (place, chain, mail) refl

    pub delivered_is : after s (Deliver c) ≡ record s { memory = with_bytes_at s.memory d.place.base d.bytes; chains = slice_set s.chains c (record { mail = Delivered; received = d.chain.received + 1 }) }
    unfolding after
    delivered_is = let place = d.place_there in let chain = d.chain_there in let mail = d.pending in rw (place, chain, mail) refl

    abbrev message : Change
    message = change d.place.base d.bytes

    memory_is : (after s (Deliver c)).memory ≡ with_bytes_at s.memory d.place.base d.bytes
    memory_is = ap (λ (t : State). t.memory) delivered_is

    pub length-delivered : d.place.base + length d.bytes ≤ length s.memory → length (after s (Deliver c)).memory ≡ length s.memory
    length-delivered fits = ap length memory_is ∙ length-changed s.memory (message ∷ []) (fits, tt)

    pub byte-delivered : d.place.base + length d.bytes ≤ length s.memory → (p : ℕ) → hits (message ∷ []) p ≡ false → byte (after s (Deliver c)).memory p ≡ byte s.memory p
    byte-delivered fits p misses = ap (λ (m : List ℕ). byte m p) memory_is ∙ byte-changed s.memory (message ∷ []) p (fits, tt) ∙ over_missed (message ∷ []) p (byte s.memory p) misses
