use Rattle.std.proofs.Common.{◌≡◌, [], map, take}
use Rattle.std.specs.Option.{option_map}
use Rattle.redn_command.specs.Words.{message_view}
use Rattle.redn_top.specs.MessageWords.{messages, word_faults}
use Rattle.redn_top.proofs.messages.messages_of.Given as goal

abbrev pub invariant-loop-word : goal.invariant-loop-word
invariant-loop-word l =
    (map (option_map (λ v. v.items)) l.list.items ≡ messages l.chains (map message_view (take l.word-index l.words)))
    × (word_faults l.chains [] (map message_view (take l.word-index l.words)) ≡ [])
