use Rattle.std.proofs.Common.{◌≡◌, map}
use Rattle.std.specs.Option.{option_map}
use Rattle.redn_words.specs.States.{fresh_chain}
use Rattle.redn_adapter.proofs.opening.first_chains.Given as goal

abbrev pub invariant-loop-message : goal.invariant-loop-message
invariant-loop-message l = l.chains.items ≡ map fresh_chain (map (option_map (λ m. m.items)) l.yielded)
