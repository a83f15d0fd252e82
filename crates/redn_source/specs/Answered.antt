-- What a chain's step answers.
use Rattle.std.specs.Prelude.{◌≡◌, true, false, Option, Some, None}
use Rattle.redn_words.specs.declared.types.Obs.{Obs}
use Rattle.redn_words.specs.declared.types.Obs.TheVariants as shows
use Rattle.redn_source.specs.declared.state.SourceAnswer.{SourceAnswer}
use Rattle.redn_source.specs.declared.state.SourceAnswer.TheVariants as answer
use Rattle.redn_kernel.specs.Source.{ChainState}

-- a chain is there, and has ended
abbrev pub HasEnded : Option ChainState → Type 0
HasEnded None = ⊥
HasEnded (Some t) = t.ended ≡ true

-- a chain is there, has no message, and hasn't ended
abbrev pub IsWaiting : Option ChainState → Type 0
IsWaiting None = ⊥
IsWaiting (Some t) = (t.message ≡ None) × (t.ended ≡ false)

-- the answer where a chain runs, by what its step shows
abbrev pub answer_of : Obs → SourceAnswer
answer_of shows.Nothing = answer.Silent
answer_of event = answer.Event event
