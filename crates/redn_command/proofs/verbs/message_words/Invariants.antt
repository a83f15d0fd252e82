use Rattle.std.proofs.Common.{◌≡◌, map, take}
use Rattle.std.specs.Prelude.{All}
use Rattle.redn_command.specs.Words.{HasSmallChain, message_text, message_view}
use Rattle.redn_command.proofs.verbs.message_words.Given as goal

abbrev pub invariant-loop-word : goal.invariant-loop-word
invariant-loop-word l = record {
  texts : map (λ s. s.now) (take l.word-index l.words) ≡ map message_text (map message_view l.messages.items);
  small : All HasSmallChain (map message_view l.messages.items);
}
