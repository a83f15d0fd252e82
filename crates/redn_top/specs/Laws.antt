-- Laws on what commands print.
use Rattle.std.specs.Prelude.{◌≡◌, ℕ, ◌<◌, ◌≤◌, Bool, true, false, ◌==◌, List, [], ◌∷◌, length, Option, Some, slice_get}
use Rattle.std.specs.List.{All, list_any}
use Rattle.redn_words.specs.declared.types.Obs.{Obs}
use Rattle.redn_words.specs.declared.types.Obs.TheVariants as shows
use Rattle.redn_words.specs.Runs.{all_shown}
use Rattle.redn_kernel.specs.declared.types.Program.{Program}
use Rattle.redn_image.specs.Rules.{Image, Obeys}
use Rattle.redn_image.specs.Faithful.{AreMessages, Faithful}
use Rattle.redn_image.specs.Spelling.{Spells}
use Rattle.redn_command.specs.Words.{Assemble, Disasm, Plan, MessageWord}
use Rattle.redn_top.specs.MessageWords.{messages}
use Rattle.redn_top.specs.declared.limits.TheConstants.{MAX_IMAGE}
use Rattle.redn_top.specs.declared.status.Status.{Status}
use Rattle.redn_top.specs.declared.status.Status.TheVariants.{Done}
use Rattle.redn_top.specs.Reasons.{Input, NoneHolds, message_reasons}
use Rattle.redn_top.specs.Answers.{Answers, Written, opened}
use Rattle.redn_top.specs.Refusals.{IsFew, MakesActions}
use Rattle.redn_top.specs.RunText.{planned, steps_asked}

-- words that are accepted give each chain of a program no message or one of its length
abbrev pub AcceptedWordsAreMessages : Type 0
AcceptedWordsAreMessages = (p : Program) (image : Image) (words : List MessageWord) → Faithful p image → NoneHolds (message_reasons image words) → AreMessages p.chains (messages (length image.receives) words)

-- a chain replies, or a fault of it is told
abbrev pub ends_chain : ℕ → Obs → Bool
ends_chain c (shows.Reply d count words) = d == c
ends_chain c (shows.Fault d table offset) = d == c
ends_chain c _ = false

-- each chain that got a message has replied or faulted
abbrev pub EachEnded : List (Option (List ℕ)) → List Obs → Type 0
EachEnded messages events = (c : ℕ) (bytes : List ℕ) → slice_get messages c ≡ Some (Some bytes) → list_any (ends_chain c) events ≡ true

-- a run of a compiled image that makes fewer steps than it may, and so prints `end quiet`, has ended each of its chains
abbrev pub QuietRunsHaveEnded : Type 0
QuietRunsHaveEnded = (p : Program) (image : Image) (words : List MessageWord) (plan : Plan) → Faithful p image → Obeys image → NoneHolds (message_reasons image words) → MakesActions plan → IsFew plan
    → length (planned plan (opened image words)) < steps_asked plan
    → EachEnded (messages (length image.receives) words) (all_shown (opened image words) (planned plan (opened image words)))

-- of a text, `assemble` writes these bytes
abbrev pub WritesAgain : List ℕ → List ℕ → List ℕ → List ℕ → Type 0
WritesAgain listing name bytes text =
    (i : Input) (s : Status) (printed : List ℕ) (written : List Written) → i.first ≡ Some text → Answers (Assemble listing name) i s printed written → (s ≡ Done) × (written ≡ record { name = name; bytes = bytes } ∷ [])

-- a file that holds an image, as `compile` writes it, is listed, and what is assembled of the listing is this file byte for byte
abbrev pub ListedFilesComeBack : Type 0
ListedFilesComeBack =
    (name listing other : List ℕ) (bytes : List ℕ) (image : Image) → Spells bytes image → All (λ b. b < 256) image.memory → length bytes ≤ MAX_IMAGE
    → (i : Input) (s : Status) (text : List ℕ) (written : List Written) → i.first ≡ Some bytes → Answers (Disasm name) i s text written → (s ≡ Done) × WritesAgain listing other bytes text
