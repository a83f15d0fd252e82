-- Messages that don't fit their chains.
use Rattle.std.specs.Prelude.{◌≡◌, ℕ, ◌*◌, List, [], ◌∷◌, length, map, Option, Some, None}
use Rattle.redn_words.specs.Misfits.{misfit as message_misfit, misfits as message_misfits}
use Rattle.redn_kernel.specs.declared.types.ChainInit.{ChainInit}
use Rattle.redn_source.specs.declared.start.StartFault.{StartFault}
use Rattle.redn_source.specs.declared.start.StartFault.TheVariants as fault

-- how many bytes a chain's message has
abbrev pub wanted : ChainInit → ℕ
wanted chain = 8 * chain.args

-- a message that hasn't 8 bytes for each argument
abbrev pub misfit : ℕ → ChainInit → Option (List ℕ) → List StartFault
misfit c chain message = message_misfit fault.Message c (wanted chain) message

-- all of them, in the order of the chains, of which the first one here is c
abbrev pub misfits : ℕ → List ChainInit → List (Option (List ℕ)) → List StartFault
misfits c chains messages = message_misfits fault.Message c (map wanted chains) messages

abbrev pub FitsArguments : ChainInit → Option (List ℕ) → Type 0
FitsArguments chain None = Unit {0}
FitsArguments chain (Some bytes) = length bytes ≡ 8 * chain.args

-- each message fits its chain
abbrev pub AllFit : List ChainInit → List (Option (List ℕ)) → Type 0
AllFit [] messages = Unit {0}
AllFit (chain ∷ chains) [] = Unit {0}
AllFit (chain ∷ chains) (m ∷ messages) = FitsArguments chain m × AllFit chains messages
