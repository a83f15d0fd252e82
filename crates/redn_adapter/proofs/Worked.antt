-- Small cases of the definitions, computed.
use Rattle.std.proofs.Common.{◌≡◌, ℕ, [], ◌∷◌, Some, None, refl}
use Rattle.redn_words.specs.declared.types.Receive.{Receive}
use Rattle.redn_words.specs.States.{fresh_chain}
use Rattle.redn_adapter.specs.declared.opening.OpenFault.TheVariants as fault
use Rattle.redn_adapter.specs.Mails.{pending_bytes, after_delivery}
use Rattle.redn_adapter.specs.Opening.{misfits}

place : ℕ → Receive
place len = record { base = 0; len = len }

-- chain 0 has no message, that of chain 1 fits its place of 2 bytes, and those of chains 2 and 3 don't
misfits_of_four : misfits 0 (place 8 ∷ place 2 ∷ place 2 ∷ place 0 ∷ []) (None ∷ Some (7 ∷ 9 ∷ []) ∷ Some [] ∷ Some (1 ∷ []) ∷ []) ≡ fault.Message 2 0 2 ∷ fault.Message 3 1 0 ∷ []
unfolding place
misfits_of_four = refl

pending_at_first : pending_bytes (fresh_chain (Some (7 ∷ 9 ∷ []))).mail ≡ Some (7 ∷ 9 ∷ [])
pending_at_first = refl

none_after_delivery : pending_bytes (after_delivery (fresh_chain (Some (7 ∷ 9 ∷ [])))).mail ≡ None
none_after_delivery = refl

delivery_counts : (after_delivery (fresh_chain (Some (7 ∷ 9 ∷ [])))).received ≡ 1
delivery_counts = refl
