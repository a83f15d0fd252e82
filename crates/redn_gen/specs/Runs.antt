-- What the generated file of a number does with its messages, in whatever order its chains take their steps.
use Rattle.std.specs.Prelude.{◌≡◌, ℕ, ◌+◌, ◌*◌, ◌^◌, ◌<◌, ◌≤◌, Bool, false, ◌==◌, List, [], ◌∷◌, length, Option, Some, None}
use Rattle.std.specs.List.{All, filter}
use Rattle.redn_words.specs.declared.types.Obs.{Obs}
use Rattle.redn_words.specs.declared.types.Obs.TheVariants as shows
use Rattle.redn_kernel.specs.declared.types.ChainInit.{ChainInit}
use Rattle.redn_kernel.specs.Source.{Source, eight, source_start, source_after, is_running, EachRuns, events, steps_of}
use Rattle.redn_check.specs.Numbering.{program_of}
use Rattle.redn_gen.specs.Generated.{chain_count, generated_file, sought, generated_messages}

-- the sum of 1,000 times the value of the bucket, and how often it was looked up
abbrev pub reply_event : ℕ → ℕ → Obs
reply_event n c = shows.Reply c 2 (eight (1000 * (n + sought n c) ∷ 1000 ∷ []))

-- the first state of the generated file of n with its messages
abbrev pub generated_start : ℕ → Source
generated_start n = source_start (program_of (generated_file n)) (generated_messages n)

-- whether it is a reply of this chain
abbrev pub is_reply_of : ℕ → Obs → Bool
is_reply_of c (shows.Reply d count words) = d == c
is_reply_of c _ = false

-- no chain is running
abbrev pub NoneRuns : Source → Type 0
NoneRuns s = (c : ℕ) → is_running s c ≡ false

-- a message of two words
abbrev pub HasTwoWords : Option (List ℕ) → Type 0
HasTwoWords None = ⊥
HasTwoWords (Some bytes) = (length bytes ≡ 16) × All (λ b. b < 256) bytes

-- each chain takes two arguments, and has a message of two words
pub record MessagesFit (n : ℕ) : Type 0 where
  pub chains : length (program_of (generated_file n)).chains ≡ chain_count n
  pub messages : length (generated_messages n) ≡ chain_count n
  pub two : All (λ (c : ChainInit). c.args ≡ 2) (program_of (generated_file n)).chains
  pub full : All HasTwoWords (generated_messages n)

-- what a run of so many steps shows
pub record ChainsReply (n : ℕ) (turns : List ℕ) : Type 0 where
  -- no other chain takes a step
  pub its : All (λ c. c < chain_count n) turns
  -- no chain takes more steps than these
  pub few : (c : ℕ) → steps_of c turns ≤ 6004
  -- where none can go on, each has shown so much,
  pub all : NoneRuns (source_after (generated_start n) turns) → length (events (generated_start n) turns) ≡ 4003 * chain_count n
  -- and each has replied once, with its words
  pub replies : NoneRuns (source_after (generated_start n) turns) → (c : ℕ) → c < chain_count n → filter (is_reply_of c) (events (generated_start n) turns) ≡ reply_event n c ∷ []

-- for each number of 32 bits, and each order of the steps
abbrev pub EachChainReplies : Type 0
EachChainReplies = (n : ℕ) → n < 2 ^ 32 → MessagesFit n × ((turns : List ℕ) → EachRuns (generated_start n) turns → ChainsReply n turns)
