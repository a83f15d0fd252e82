-- The messages that words give to the chains of an image, and what is wrong with them.
use Rattle.std.specs.Prelude.{ℕ, Bool, ◌==◌, nat_lt, if◌then◌else◌, List, [], ◌∷◌, ◌++◌, map, Option, Some, None, Result, Ok, Err}
use Rattle.std.specs.List.{find, list_any, range_with_len}
use Rattle.hex.specs.Hex.{decode_of}
use Rattle.hex.specs.declared.FromHexError.{FromHexError}
use Rattle.redn_words.specs.declared.types.Receive.{Receive}
use Rattle.redn_words.specs.Misfits.{misfits}
use Rattle.redn_top.specs.declared.status.MessageFault.{MessageFault}
use Rattle.redn_top.specs.declared.status.MessageFault.TheVariants.{NoChain, Twice, BadHex, Length}
use Rattle.redn_command.specs.Words.{MessageWord}

abbrev pub is_for : ℕ → MessageWord → Bool
is_for chain w = w.chain == chain

-- the bytes of digits that spell some
abbrev pub bytes_or : Result (List ℕ) FromHexError → List ℕ
bytes_or (Ok bytes) = bytes
bytes_or (Err e) = []

-- the message for a chain: that of the word that names it, if one does
abbrev pub given_by : Option MessageWord → Option (List ℕ)
given_by None = None
given_by (Some w) = Some (bytes_or (decode_of w.digits))

abbrev pub given : List MessageWord → ℕ → Option (List ℕ)
given words chain = given_by (find (is_for chain) words)

-- the messages for so many chains
abbrev pub messages : ℕ → List MessageWord → List (Option (List ℕ))
messages chains words = map (given words) (range_with_len 0 chains)

-- digits that spell no bytes
abbrev pub bad_hex : ℕ → Result (List ℕ) FromHexError → List MessageFault
bad_hex chain (Ok bytes) = []
bad_hex chain (Err e) = BadHex chain ∷ []

-- what is wrong with a word behind others: no such chain, a chain twice, bad hex
abbrev pub word_fault : ℕ → List MessageWord → MessageWord → List MessageFault
word_fault chains earlier w =
    if nat_lt w.chain chains then (if list_any (is_for w.chain) earlier then Twice w.chain ∷ [] else bad_hex w.chain (decode_of w.digits)) else NoChain w.chain ∷ []

-- the same of each word, in order
abbrev pub word_faults : ℕ → List MessageWord → List MessageWord → List MessageFault
word_faults chains earlier [] = []
word_faults chains earlier (w ∷ rest) = word_fault chains earlier w ++ word_faults chains (earlier ++ w ∷ []) rest

-- the messages that haven't the length of their receive place, by chain
abbrev pub length_faults : List Receive → List (Option (List ℕ)) → List MessageFault
length_faults places given = misfits Length 0 (map (λ (place : Receive). place.len) places) given
