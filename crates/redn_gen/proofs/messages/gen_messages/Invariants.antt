use Rattle.std.proofs.Common.{◌≡◌, map, Some}
use Rattle.std.specs.Option.{option_map}
use Rattle.redn_gen.specs.Generated.{below, message}
use Rattle.redn_gen.proofs.messages.gen_messages.Given as goal

-- the messages so far
abbrev pub invariant-loop-chain : goal.invariant-loop-chain
invariant-loop-chain l = map (option_map (λ v. v.items)) l.list.items ≡ map (λ c. Some (message l.n c)) (below l.chain)
