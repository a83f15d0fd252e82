-- Misfits told by an adapter, as faults of messages.
use Rattle.std.proofs.Common.{◌≡◌, ℕ, ◌+◌, ◌==◌, true, false, cond, List, [], ◌∷◌, ◌++◌, map, length, refl, sym, ap, ◌∙◌}
use Rattle.std.specs.Prelude.{Option, Some, None, slice_get}
use Rattle.std.proofs.lemmas.List.{map-append}
use Rattle.redn_words.specs.declared.types.Receive.{Receive}
use Rattle.redn_words.specs.Misfits.{misfit, misfits}
use Rattle.redn_adapter.specs.declared.opening.OpenFault.{OpenFault}
use Rattle.redn_adapter.specs.declared.opening.OpenFault.TheVariants as opens
use Rattle.redn_adapter.specs.Opening as opening
use Rattle.redn_top.specs.declared.status.MessageFault.{MessageFault}
use Rattle.redn_top.specs.declared.status.MessageFault.TheVariants.{NoChain, Length}
use Rattle.redn_top.specs.declared.status.Status.TheVariants.{Message}
use Rattle.redn_top.specs.MessageWords.{length_faults}
use Rattle.redn_top.specs.Reasons.{first_fault}

told : OpenFault → MessageFault
told (opens.Message c g w) = Length c g w
told opens.Memory = NoChain 0

told_misfit : (c want : ℕ) (m : Option (List ℕ)) → misfit Length c want m ≡ map told (misfit opens.Message c want m)
unfolding told
told_misfit c want None = refl
told_misfit c want (Some bytes) =
    elim (length bytes == want) as (λ v. cond v [] (Length c (length bytes) want ∷ []) ≡ map told (cond v [] (opens.Message c (length bytes) want ∷ []))) [
      | true ↦ refl
      | false ↦ refl
    ]

told_misfits : (c : ℕ) (wants : List ℕ) (messages : List (Option (List ℕ))) → misfits Length c wants messages ≡ map told (misfits opens.Message c wants messages)
told_misfits c [] messages = refl
told_misfits c (want ∷ wants) [] = refl
told_misfits c (want ∷ wants) (m ∷ messages) =
    ap (λ l. l ++ misfits Length (c + 1) wants messages) (told_misfit c want m) ∙ ap (λ l. map told (misfit opens.Message c want m) ++ l) (told_misfits (c + 1) wants messages)
    ∙ sym (map-append told (misfit opens.Message c want m) (misfits opens.Message (c + 1) wants messages))

told_all : (places : List Receive) (messages : List (Option (List ℕ))) → length_faults places messages ≡ map told (opening.misfits 0 places messages)
told_all places messages = told_misfits 0 (map (λ (place : Receive). place.len) places) messages

pub no_misfit : (places : List Receive) (messages : List (Option (List ℕ))) → opening.misfits 0 places messages ≡ [] → length_faults places messages ≡ []
no_misfit places messages e = told_all places messages ∙ ap (map told) e

first_of : (faults : List OpenFault) (f : OpenFault) → slice_get faults 0 ≡ Some f → (behind : List OpenFault) × (faults ≡ f ∷ behind)
first_of [] f e = absurd (cc)
first_of (x ∷ behind) f e = (behind, cc)

pub first_misfit_told : (places : List Receive) (messages : List (Option (List ℕ))) (c g w : ℕ) → slice_get (opening.misfits 0 places messages) 0 ≡ Some (opens.Message c g w) → first_fault (length_faults places messages) (Message (Length c g w))
unfolding told
first_misfit_told places messages c g w e =
    let first = first_of (opening.misfits 0 places messages) (opens.Message c g w) e in
    (Length c g w, map told first.0, told_all places messages ∙ ap (map told) first.1, refl)
