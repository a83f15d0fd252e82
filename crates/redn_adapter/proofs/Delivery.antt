-- A message comes.
use Rattle.std.proofs.Common.{◌≡◌, ℕ, ◌<◌, List, length, Some, sym, ap, ◌∙◌, get_or}
use Rattle.std.specs.Prelude.{slice_get, slice_set}
use Rattle.std.proofs.lemmas.Option.{slice_get-get_or}
use Rattle.redn_words.specs.declared.types.Receive.{Receive}
use Rattle.redn_words.specs.declared.types.Action.TheVariants.{Deliver}
use Rattle.redn_words.specs.Words.{with_bytes_at}
use Rattle.redn_words.specs.States.{Mail, Absent, Pending, Delivered, Chain, State}
use Rattle.redn_words.specs.Steps.{after}
use Rattle.redn_words.proofs.Deliveries as words
use Rattle.redn_adapter.specs.Mails.{pending_bytes, after_delivery}

pub mail_is : (m : Mail) (bytes : List ℕ) → Some bytes ≡ pending_bytes m → m ≡ Pending bytes
mail_is Absent bytes e = absurd (cc)
mail_is (Pending b) bytes e = let is : bytes ≡ b = cc in ap Pending (sym is)
mail_is Delivered bytes e = absurd (cc)

-- what a read at an index says of the list
pub read_at : {X : Type 0} (xs : List X) (i : ℕ) (x : X) → i < length xs → x ≡ get_or xs i x → slice_get xs i ≡ Some x
read_at xs i x l e = slice_get-get_or xs i x l ∙ ap Some (sym e)

pub delivered_is : (s : State) (c : ℕ) (place : Receive) (chain : Chain) (bytes : List ℕ) → slice_get s.receives c ≡ Some place → slice_get s.chains c ≡ Some chain → Some bytes ≡ pending_bytes chain.mail → after s (Deliver c) ≡ record s { memory = with_bytes_at s.memory place.base bytes; chains = slice_set s.chains c (after_delivery chain) }
delivered_is s c place chain bytes er ec m =
    words.delivered_is s c (record { place = place; chain = chain; bytes = bytes; place_there = er; chain_there = ec; pending = mail_is chain.mail bytes m })
